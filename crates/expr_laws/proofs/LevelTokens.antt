-- Tokens that leave the brackets open that were: those of types, patterns, imports, and of what stands in definitions.
use Rattle.std.proofs.Common.{◌≡◌, Bool, true, false, if◌then◌else◌, List, [], ◌∷◌, ◌++◌, Option, Some, None, codes, refl, ap, sym, ◌∙◌, append_assoc}
use Rattle.std.specs.Prelude.{not}
use Rattle.pc_terms.specs.declared.problems.Span.{Span}
use Rattle.scan_tokens.specs.declared.roles.Bracket.{Bracket}
use Rattle.scan_tokens.specs.declared.roles.Bracket.TheVariants.{Round, Square, Curly}
use Rattle.scan_tokens.specs.declared.roles.Role.{Role}
use Rattle.scan_tokens.specs.declared.roles.Role.TheVariants.{Opens, Closes, Case, Template, Arrow as ArrowRole, Continues, Ends, Begins}
use Rattle.scan_tokens.specs.declared.tokens.TokenKind.TheVariants as kind
use Rattle.scan_tokens.specs.Kinds.{is_among}
use Rattle.scan_tokens.specs.Newlines.{word_role, sign_role, delimiter_role, same_bracket}
use Rattle.scan_tokens.specs.Words.{Bytes, ending_words, continuing_words, case_words, template_words, ending_signs, arrows, continuing_signs}
use Rattle.source_grammar.specs.Brackets.{Opened, role, opened_after, open_after, closes_wrongly, unmatched, is_balanced}
use Rattle.source_grammar.specs.Definitions.{Arguments, NoArguments, Balanced, Annotation, AccessQualifier, NoQualifier, OfId, OfThis, Mod, Abstract, Final, Sealed, Lazy, Override, CaseMod, Private, Protected, Mods, TypePart, NoType, OfType, Par, Behind, Listed, Nothing, Items, ParList, VarianceSign, NoSign, PlusSign, MinusSign, Bound, NoBound, BoundBy, TPar, TParams, NoTParams, TParamsOf, Sel, SelName, SelRenamed, SelHidden, SelWild, ImpExpr, ImportName, ImportWild, ImportSels, Import, arguments_tokens, annotations_tokens, qualifier_tokens, mod_tokens, mod_list_tokens, mods_tokens, type_part_tokens, star_tokens, par_tokens, behind_tokens, listed_tokens, par_lists_tokens, variance_tokens, lower_tokens, upper_tokens, tpar_tokens, tparams_tokens, sel_tokens, imp_expr_tokens, import_tokens, ProperArguments, ProperAnnotations}
use Rattle.source_grammar.specs.Lexemes.{Place, Lexeme, token_at, word_at, sign_at, plain_at, open_round, close_round, open_square, close_square, open_curly, close_curly, comma, dot, semicolon, Arrow, arrow_token, BackArrow, back_arrow_token, Id, id_token, Step, QualId, steps_tokens, qual_id_tokens, Literal, IntLiteral, LongLiteral, CharLiteral, StringLiteral, TrueLiteral, FalseLiteral, NullLiteral, literal_token, Number, number_token}
use Rattle.source_grammar.specs.Patterns.{Pat, LastAlternative, MoreAlternatives, Pat1, TypedVar, TypedWild, BoundPat, InfixPat, Pat3, LastOperand, MoreOperands, SPat, WildPat, VarPat, LiteralPat, MinusPat, PathPat, CallPatOfNone, CallPat, UnitPat, PatInParentheses, PairPat, TriplePat, PatList, LastPat, MorePats, pat_tokens, pat1_tokens, pat3_tokens, spat_tokens, pat_list_tokens}
use Rattle.source_grammar.specs.Types.{WrittenType, FunOfNamed, FunOfNone, FunOfTypes, Simple, SimpleType, Named, InParentheses, Pair, Triple, NamedType, OfPath, Applied, Singleton, TypeList, LastType, MoreTypes, type_tokens, simple_tokens, named_tokens, type_list_tokens}
use Rattle.expr_laws.proofs.BalancedTokens.{curly-opens, curly-closes, round-closes, balanced-none, none-open, after-within, passed, not-wrong, balanced-passed}

-- the brackets that are open behind some tokens
abbrev pub after_all : List Opened → List Lexeme → List Opened
after_all opened [] = opened
after_all opened (x ∷ xs) = after_all (open_after x opened) xs

-- these tokens leave the brackets as they were, and close none wrongly
pub record Level (xs : List Lexeme) : Type 0 where
  pub after : (opened : List Opened) → after_all opened xs ≡ opened
  pub right : (opened : List Opened) (ys : List Lexeme) → unmatched opened (xs ++ ys) ≡ unmatched opened ys

after-append : (xs ys : List Lexeme) (opened : List Opened) → after_all opened (xs ++ ys) ≡ after_all (after_all opened xs) ys
after-append [] ys opened = refl
after-append (x ∷ xs) ys opened = after-append xs ys (open_after x opened)

pub level-none : Level []
level-none = record { after = λ opened. refl; right = λ opened ys. refl }

pub level-append : (xs ys : List Lexeme) → Level xs → Level ys → Level (xs ++ ys)
level-append xs ys p q = record {
  after = λ opened. after-append xs ys opened ∙ ap (λ ks. after_all ks ys) (p.after opened) ∙ q.after opened;
  right = λ opened zs. ap (unmatched opened) (append_assoc xs ys zs) ∙ p.right opened (ys ++ zs) ∙ q.right opened zs;
}

pub level-as : (xs ys : List Lexeme) → xs ≡ ys → Level xs → Level ys
level-as xs ys e p = record {
  after = λ opened. ap (after_all opened) (sym e) ∙ p.after opened;
  right = λ opened zs. ap (λ ws. unmatched opened (ws ++ zs)) (sym e) ∙ p.right opened zs;
}

-- ---- brackets

level-bracket : (b : Bracket) (x y : Lexeme) (xs rest : List Lexeme) → role x ≡ Opens b → role y ≡ Closes b → same_bracket b b ≡ true → Level xs → Level rest → Level (x ∷ (xs ++ y ∷ rest))
level-bracket b x y xs rest e f m p q =
    let opens : (opened : List Opened) → open_after x opened ≡ record { bracket = b; span = x.place.span } ∷ opened = λ opened. ap (λ r. opened_after r x.place.span opened) e in
    let closes : (opened : List Opened) → open_after y (record { bracket = b; span = x.place.span } ∷ opened) ≡ opened = λ opened. ap (λ r. opened_after r y.place.span (record { bracket = b; span = x.place.span } ∷ opened)) f in
    record {
      after = λ opened.
          ap (λ ks. after_all ks (xs ++ y ∷ rest)) (opens opened)
          ∙ after-append xs (y ∷ rest) (record { bracket = b; span = x.place.span } ∷ opened)
          ∙ ap (λ ks. after_all ks (y ∷ rest)) (p.after (record { bracket = b; span = x.place.span } ∷ opened))
          ∙ ap (λ ks. after_all ks rest) (closes opened) ∙ q.after opened;
      right = λ opened zs.
          passed x opened ((xs ++ y ∷ rest) ++ zs) (ap (λ r. closes_wrongly r opened) e)
          ∙ ap (λ ks. unmatched ks ((xs ++ y ∷ rest) ++ zs)) (opens opened)
          ∙ ap (unmatched (record { bracket = b; span = x.place.span } ∷ opened)) (append_assoc xs (y ∷ rest) zs)
          ∙ p.right (record { bracket = b; span = x.place.span } ∷ opened) (y ∷ (rest ++ zs))
          ∙ passed y (record { bracket = b; span = x.place.span } ∷ opened) (rest ++ zs)
          (ap (λ r. closes_wrongly r (record { bracket = b; span = x.place.span } ∷ opened)) f ∙ ap not m)
          ∙ ap (λ ks. unmatched ks (rest ++ zs)) (closes opened) ∙ q.right opened zs;
    }

round-opens : (p : Place) → role (open_round p) ≡ Opens Round
unfolding delimiter_role
round-opens p = refl

square-opens : (p : Place) → role (open_square p) ≡ Opens Square
unfolding delimiter_role
square-opens p = refl

pub square-closes : (p : Place) → role (close_square p) ≡ Closes Square
unfolding delimiter_role
square-closes p = refl

pub level-round : (o k : Place) (xs rest : List Lexeme) → Level xs → Level rest → Level (open_round o ∷ (xs ++ close_round k ∷ rest))
level-round o k xs rest p q = level-bracket Round (open_round o) (close_round k) xs rest (round-opens o) (round-closes k) refl p q

pub level-square : (o k : Place) (xs rest : List Lexeme) → Level xs → Level rest → Level (open_square o ∷ (xs ++ close_square k ∷ rest))
level-square o k xs rest p q = level-bracket Square (open_square o) (close_square k) xs rest (square-opens o) (square-closes k) refl p q

pub level-curly : (o k : Place) (xs rest : List Lexeme) → Level xs → Level rest → Level (open_curly o ∷ (xs ++ close_curly k ∷ rest))
level-curly o k xs rest p q = level-bracket Curly (open_curly o) (close_curly k) xs rest (curly-opens o) (curly-closes k) refl p q

-- ---- other tokens

abbrev pub is_plain : Role → Bool
is_plain (Opens b) = false
is_plain (Closes b) = false
is_plain _ = true

plain-after : (r : Role) (s : Span) (opened : List Opened) → is_plain r ≡ true → opened_after r s opened ≡ opened
plain-after (Opens b) s opened h = cc
plain-after (Closes b) s opened h = cc
plain-after _ s opened h = refl

plain-right : (r : Role) (opened : List Opened) → is_plain r ≡ true → closes_wrongly r opened ≡ false
plain-right (Opens b) opened h = cc
plain-right (Closes b) opened h = cc
plain-right _ opened h = refl

pub level-on : (x : Lexeme) (xs : List Lexeme) → is_plain (role x) ≡ true → Level xs → Level (x ∷ xs)
level-on x xs h p = record {
  after = λ opened. ap (λ ks. after_all ks xs) (plain-after (role x) x.place.span opened h) ∙ p.after opened;
  right = λ opened ys.
      passed x opened (xs ++ ys) (plain-right (role x) opened h) ∙ ap (λ ks. unmatched ks (xs ++ ys)) (plain-after (role x) x.place.span opened h) ∙ p.right opened ys;
}

plain-word : (w : Bytes) → is_plain (word_role w) ≡ true
unfolding word_role
plain-word w = go (is_among ending_words w) (is_among continuing_words w) (is_among case_words w) (is_among template_words w) where
  go : (a b c d : Bool) → is_plain (if a then Ends else (if b then Continues else (if c then Case else (if d then Template else Begins)))) ≡ true
  go true b c d = refl
  go false true c d = refl
  go false false true d = refl
  go false false false true = refl
  go false false false false = refl

plain-sign : (w : Bytes) → is_plain (sign_role w) ≡ true
unfolding sign_role
plain-sign w = go (is_among ending_signs w) (is_among arrows w) (is_among continuing_signs w) where
  go : (a b c : Bool) → is_plain (if a then Ends else (if b then ArrowRole else (if c then Continues else Begins))) ≡ true
  go true b c = refl
  go false true c = refl
  go false false true = refl
  go false false false = refl

pub level-word : (w : Bytes) (p : Place) (xs : List Lexeme) → Level xs → Level (word_at w p ∷ xs)
level-word w p xs q = level-on (word_at w p) xs (plain-word w) q

pub level-sign : (w : Bytes) (p : Place) (xs : List Lexeme) → Level xs → Level (sign_at w p ∷ xs)
level-sign w p xs q = level-on (sign_at w p) xs (plain-sign w) q

pub level-plain : (w : Bytes) (p : Place) (xs : List Lexeme) → Level xs → Level (plain_at w p ∷ xs)
level-plain w p xs q = level-on (plain_at w p) xs refl q

pub level-arrow : (a : Arrow) (xs : List Lexeme) → Level xs → Level (arrow_token a ∷ xs)
level-arrow a xs q = level-on (arrow_token a) xs (plain-sign (arrow_token a).word) q

pub level-back : (a : BackArrow) (xs : List Lexeme) → Level xs → Level (back_arrow_token a ∷ xs)
level-back a xs q = level-on (back_arrow_token a) xs (plain-sign (back_arrow_token a).word) q

pub level-id : (id : Id) (xs : List Lexeme) → Level xs → Level (id_token id ∷ xs)
level-id id xs q = level-on (id_token id) xs (go id.quoted) q where
  go : (b : Bool) → is_plain (role (token_at (if b then kind.BackId else kind.Id) id.name id.place)) ≡ true
  go true = refl
  go false = refl

pub level-number : (n : Number) (xs : List Lexeme) → Level xs → Level (number_token n ∷ xs)
level-number n xs q = level-on (number_token n) xs (go n.is_long) q where
  go : (b : Bool) → is_plain (role (token_at (if b then kind.Long else kind.Int) n.text n.place)) ≡ true
  go true = refl
  go false = refl

pub level-literal : (l : Literal) (xs : List Lexeme) → Level xs → Level (literal_token l ∷ xs)
level-literal (IntLiteral text p) xs q = level-on _ xs refl q
level-literal (LongLiteral text p) xs q = level-on _ xs refl q
level-literal (CharLiteral text p) xs q = level-on _ xs refl q
level-literal (StringLiteral text p) xs q = level-on _ xs refl q
level-literal (TrueLiteral p) xs q = level-word (codes "true") p xs q
level-literal (FalseLiteral p) xs q = level-word (codes "false") p xs q
level-literal (NullLiteral p) xs q = level-word (codes "null") p xs q

pub level-comma : (p : Place) (xs : List Lexeme) → Level xs → Level (comma p ∷ xs)
unfolding delimiter_role
level-comma p xs q = level-on (comma p) xs refl q

pub level-dot : (p : Place) (xs : List Lexeme) → Level xs → Level (dot p ∷ xs)
unfolding delimiter_role
level-dot p xs q = level-on (dot p) xs refl q

pub level-semicolon : (p : Place) (xs : List Lexeme) → Level xs → Level (semicolon p ∷ xs)
unfolding delimiter_role
level-semicolon p xs q = level-on (semicolon p) xs refl q

-- two and three parts in parentheses
pub paired : (o k : Place) (xs ys : List Lexeme) → Level xs → Level ys → Level (open_round o ∷ (xs ++ (ys ++ close_round k ∷ [])))
paired o k xs ys p q =
    level-as (open_round o ∷ ((xs ++ ys) ++ close_round k ∷ [])) _ (ap (λ zs. open_round o ∷ zs) (append_assoc xs ys (close_round k ∷ []))) (level-round o k (xs ++ ys) [] (level-append xs ys p q) level-none)

pub tripled : (o k : Place) (xs ys zs : List Lexeme) → Level xs → Level ys → Level zs → Level (open_round o ∷ (xs ++ (ys ++ (zs ++ close_round k ∷ []))))
tripled o k xs ys zs p q r =
    level-as (open_round o ∷ (xs ++ ((ys ++ zs) ++ close_round k ∷ []))) _ (ap (λ ws. open_round o ∷ (xs ++ ws)) (append_assoc ys zs (close_round k ∷ []))) (paired o k xs (ys ++ zs) p (level-append ys zs q r))

-- tokens whose brackets match
after-passed : (xs : List Lexeme) (front opened : List Opened) → unmatched front xs ≡ None → after_all (front ++ opened) xs ≡ opened
after-passed [] front opened e = ap (λ ks. ks ++ opened) (none-open front e)
after-passed (x ∷ xs) front opened e =
    let wrong = not-wrong x front xs e in
    ap (λ ks. after_all ks xs) (after-within (role x) x.place.span front opened wrong) ∙ after-passed xs (open_after x front) opened (sym (passed x front xs wrong) ∙ e)

pub level-balanced : (xs : List Lexeme) → is_balanced xs ≡ true → Level xs
level-balanced xs e = record { after = λ opened. after-passed xs [] opened (balanced-none xs e); right = λ opened ys. balanced-passed xs ys opened e }

-- ---- paths and types

steps-level : (steps : List Step) → Level (steps_tokens steps)
steps-level [] = level-none
steps-level (s ∷ steps) = level-dot s.point _ (level-id s.id _ (steps-level steps))

pub path-level : (path : QualId) → Level (qual_id_tokens path)
path-level path = level-id path.first _ (steps-level path.steps)

mutual
  pub type-level : (d : WrittenType) → Level (type_tokens d)
  type-level (FunOfNamed named a result) = level-append _ _ (named-level named) (level-arrow a _ (type-level result))
  type-level (FunOfNone o k a result) = level-round o k [] _ level-none (level-arrow a _ (type-level result))
  type-level (FunOfTypes o types k a result) = level-round o k _ _ (type-list-level types) (level-arrow a _ (type-level result))
  type-level (Simple simple) = simple-level simple

  pub simple-level : (d : SimpleType) → Level (simple_tokens d)
  simple-level (Named named) = named-level named
  simple-level (InParentheses o x k) = level-round o k _ _ (type-level x) level-none
  simple-level (Pair o x p y k) = paired o k (type_tokens x) (comma p ∷ type_tokens y) (type-level x) (level-comma p _ (type-level y))
  simple-level (Triple o x p y q z k) = tripled o k (type_tokens x) (comma p ∷ type_tokens y) (comma q ∷ type_tokens z) (type-level x) (level-comma p _ (type-level y)) (level-comma q _ (type-level z))

  pub named-level : (d : NamedType) → Level (named_tokens d)
  named-level (OfPath path) = path-level path
  named-level (Applied path o types k) = level-append _ _ (path-level path) (level-square o k _ _ (type-list-level types) level-none)
  named-level (Singleton path p w) = level-append _ _ (path-level path) (level-dot p _ (level-word _ _ _ level-none))

  pub type-list-level : (d : TypeList) → Level (type_list_tokens d)
  type-list-level (LastType x) = type-level x
  type-list-level (MoreTypes x p types) = level-append _ _ (type-level x) (level-comma p _ (type-list-level types))

-- ---- patterns

mutual
  pub pat-level : (d : Pat) → Level (pat_tokens d)
  pat-level (LastAlternative x) = pat1-level x
  pat-level (MoreAlternatives x stroke pats) = level-append _ _ (pat1-level x) (level-plain _ _ _ (pat-level pats))

  pub pat1-level : (d : Pat1) → Level (pat1_tokens d)
  pat1-level (TypedVar id p type) = level-id id _ (level-sign _ _ _ (simple-level type))
  pat1-level (TypedWild q p type) = level-sign _ _ _ (level-sign _ _ _ (simple-level type))
  pat1-level (BoundPat id sign pat) = level-id id _ (level-sign _ _ _ (pat3-level pat))
  pat1-level (InfixPat pat) = pat3-level pat

  pub pat3-level : (d : Pat3) → Level (pat3_tokens d)
  pat3-level (LastOperand x) = spat-level x
  pat3-level (MoreOperands x id pats) = level-append _ _ (spat-level x) (level-id id _ (pat3-level pats))

  pub spat-level : (d : SPat) → Level (spat_tokens d)
  spat-level (WildPat p) = level-sign _ _ _ level-none
  spat-level (VarPat id) = level-id id _ level-none
  spat-level (LiteralPat l) = level-literal l _ level-none
  spat-level (MinusPat p n) = level-plain _ _ _ (level-number n _ level-none)
  spat-level (PathPat path) = path-level path
  spat-level (CallPatOfNone path o k) = level-append _ _ (path-level path) (level-round o k [] _ level-none level-none)
  spat-level (CallPat path o pats k) = level-append _ _ (path-level path) (level-round o k _ _ (pat-list-level pats) level-none)
  spat-level (UnitPat o k) = level-round o k [] _ level-none level-none
  spat-level (PatInParentheses o x k) = level-round o k _ _ (pat-level x) level-none
  spat-level (PairPat o x p y k) = paired o k (pat_tokens x) (comma p ∷ pat_tokens y) (pat-level x) (level-comma p _ (pat-level y))
  spat-level (TriplePat o x p y q z k) =
      tripled o k (pat_tokens x) (comma p ∷ pat_tokens y) (comma q ∷ pat_tokens z) (pat-level x) (level-comma p _ (pat-level y)) (level-comma q _ (pat-level z))

  pub pat-list-level : (d : PatList) → Level (pat_list_tokens d)
  pat-list-level (LastPat x) = pat-level x
  pat-list-level (MorePats x p pats) = level-append _ _ (pat-level x) (level-comma p _ (pat-list-level pats))

-- ---- what stands in definitions

module _ {X : Type 0} (item_tokens : X → List Lexeme) (level : (x : X) → Level (item_tokens x)) where
  pub behind-level : (bs : List (Behind X)) → Level (behind_tokens item_tokens bs)
  behind-level [] = level-none
  behind-level (b ∷ bs) = level-comma b.comma _ (level-append _ _ (level b.item) (behind-level bs))

  pub listed-level : (xs : Listed X) → Level (listed_tokens item_tokens xs)
  listed-level Nothing = level-none
  listed-level (Items x bs) = level-append _ _ (level x) (behind-level bs)

pub type-part-level : (d : TypePart) → Level (type_part_tokens d)
type-part-level NoType = level-none
type-part-level (OfType p type) = level-sign _ _ _ (type-level type)

star-level : (o : Option Place) → Level (star_tokens o)
star-level None = level-none
star-level (Some p) = level-plain _ _ _ level-none

par-level : (d : Par) → Level (par_tokens d)
par-level d = level-id d.id _ (level-sign _ _ _ (level-append _ _ (type-level d.type) (star-level d.star)))

pub par-lists-level : (ls : List ParList) → Level (par_lists_tokens ls)
par-lists-level [] = level-none
par-lists-level (l ∷ ls) = level-append _ _ (level-round l.opening l.closing _ _ (listed-level par_tokens par-level l.pars) level-none) (par-lists-level ls)

variance-level : (v : VarianceSign) → Level (variance_tokens v)
variance-level NoSign = level-none
variance-level (PlusSign p) = level-plain _ _ _ level-none
variance-level (MinusSign p) = level-plain _ _ _ level-none

lower-level : (b : Bound) → Level (lower_tokens b)
lower-level NoBound = level-none
lower-level (BoundBy p type) = level-sign _ _ _ (type-level type)

upper-level : (b : Bound) → Level (upper_tokens b)
upper-level NoBound = level-none
upper-level (BoundBy p type) = level-sign _ _ _ (type-level type)

tpar-level : (d : TPar) → Level (tpar_tokens d)
tpar-level d = level-append _ _ (variance-level d.variance) (level-id d.id _ (level-append _ _ (lower-level d.lower) (upper-level d.upper)))

pub tparams-level : (d : TParams) → Level (tparams_tokens d)
tparams-level NoTParams = level-none
tparams-level (TParamsOf o x xs k) = level-square o k _ _ (level-append _ _ (tpar-level x) (behind-level tpar_tokens tpar-level xs)) level-none

-- ---- modifiers

arguments-level : (d : Arguments) → ProperArguments d → Level (arguments_tokens d)
arguments-level NoArguments p = level-none
arguments-level (Balanced o inside k) p = level-round o k _ _ (level-balanced inside p.1) level-none

annotations-level : (as_ : List Annotation) (after : List Lexeme) → ProperAnnotations as_ after → Level (annotations_tokens as_)
annotations-level [] after p = level-none
annotations-level (a ∷ as_) after p = level-append _ _ (level-sign _ _ _ (level-append _ _ (path-level a.path) (arguments-level a.arguments p.0))) (annotations-level as_ after p.2)

qualifier-level : (d : AccessQualifier) → Level (qualifier_tokens d)
qualifier-level NoQualifier = level-none
qualifier-level (OfId o id k) = level-square o k (id_token id ∷ []) _ (level-id id _ level-none) level-none
qualifier-level (OfThis o w k) = level-square o k (word_at (codes "this") w ∷ []) _ (level-word _ _ _ level-none) level-none

mod-level : (d : Mod) → Level (mod_tokens d)
mod-level (Private w q) = level-word _ _ _ (qualifier-level q)
mod-level (Protected w q) = level-word _ _ _ (qualifier-level q)
mod-level (Abstract w) = level-word _ _ _ level-none
mod-level (Final w) = level-word _ _ _ level-none
mod-level (Sealed w) = level-word _ _ _ level-none
mod-level (Lazy w) = level-word _ _ _ level-none
mod-level (Override w) = level-word _ _ _ level-none
mod-level (CaseMod w) = level-word _ _ _ level-none

mod-list-level : (ms : List Mod) → Level (mod_list_tokens ms)
mod-list-level [] = level-none
mod-list-level (m ∷ ms) = level-append _ _ (mod-level m) (mod-list-level ms)

pub mods-level : (d : Mods) (after : List Lexeme) → ProperAnnotations d.annotations after → Level (mods_tokens d)
mods-level d after p = level-append _ _ (annotations-level d.annotations after p) (mod-list-level d.mods)

-- ---- imports

sel-level : (d : Sel) → Level (sel_tokens d)
sel-level (SelName id) = level-id id _ level-none
sel-level (SelRenamed id a shown) = level-id id _ (level-arrow a _ (level-id shown _ level-none))
sel-level (SelHidden id a wild) = level-id id _ (level-arrow a _ (level-sign _ _ _ level-none))
sel-level (SelWild wild) = level-sign _ _ _ level-none

imp-expr-level : (d : ImpExpr) → Level (imp_expr_tokens d)
imp-expr-level (ImportName path p id) = level-append _ _ (path-level path) (level-dot p _ (level-id id _ level-none))
imp-expr-level (ImportWild path p wild) = level-append _ _ (path-level path) (level-dot p _ (level-sign _ _ _ level-none))
imp-expr-level (ImportSels path p o sel sels k) =
    level-append _ _ (path-level path) (level-dot p _ (level-curly o k _ _ (level-append _ _ (sel-level sel) (behind-level sel_tokens sel-level sels)) level-none))

pub import-level : (d : Import) → Level (import_tokens d)
import-level d = level-word _ _ _ (level-append _ _ (imp-expr-level d.first) (behind-level imp_expr_tokens imp-expr-level d.others))
