-- The guard of a case: where no `=>` stands in it outside brackets, each type behind `new` is a Simple there, as the machine reads it.
use Rattle.std.proofs.Common.{◌≡◌, Bool, true, false, ◌&&◌, ◌||◌, if◌then◌else◌, List, [], ◌∷◌, ◌++◌, codes, refl, ap, sym, ◌∙◌, append_assoc, append-nil}
use Rattle.std.specs.Prelude.{not}
use Rattle.std.specs.Str.{bytes_eq}
use Rattle.std.proofs.lemmas.Slice.Eq.{bytes_eq-Decides}
use Rattle.scan_tokens.specs.Words.{Bytes, double_arrow}
use Rattle.source_grammar.specs.Brackets.{Opened, list_is_empty, open_after, is_arrow, has_no_arrow}
use Rattle.source_grammar.specs.Expressions.{Infix, LastPrefix, MorePrefixes, Prefix, Unsigned, Signed, Prim, NewOf, NewWith, SelectPrim, SelectHole, TypeApplyPrim, ApplyPrim, EtaPrim}
use Rattle.source_grammar.specs.ExpressionRules.{Rule, prim_of, infix_operators, ProperInfix, ProperPrefix, ProperPrim}
use Rattle.source_grammar.specs.ExpressionTokens.{sign_token, infix_tokens, prefix_tokens, prim_tokens, args_tokens}
use Rattle.source_grammar.specs.Lexemes.{Lexeme, word_at, open_round, close_round, open_square, close_square, dot, underscore, Arrow, arrow_token, id_token}
use Rattle.source_grammar.specs.Precedence.{are_of_one_side}
use Rattle.source_grammar.specs.Types.{WrittenType, FunOfNamed, FunOfNone, FunOfTypes, Simple, type_tokens, type_list_tokens, named_tokens}
use Rattle.expr_tails.specs.declared.states.Limit.{Limit}
use Rattle.expr_tails.specs.declared.states.Limit.TheVariants as limit
use Rattle.expr_laws.proofs.ExprsAlong.{chain-along}
use Rattle.expr_laws.proofs.ExprsFit.{PrimFits, InfixFits}
use Rattle.expr_laws.proofs.InfixAlong.{ChainEnds}
use Rattle.expr_laws.proofs.LevelExprs.{level-prefix, prefix-level}
use Rattle.expr_laws.proofs.LevelTokens.{Level, after_all, level-none, level-round, level-word, level-id, named-level, type-list-level}
use Rattle.expr_laws.proofs.NewlinesApart.{Ends}
use Rattle.expr_laws.proofs.TypesAlong.{is_simple}

rest-of : (a b : Bool) → (a && b) ≡ true → b ≡ true
rest-of true b e = e
rest-of false b e = cc

arrow-rest : (xs ys : List Lexeme) (opened : List Opened) → has_no_arrow opened (xs ++ ys) ≡ true → has_no_arrow (after_all opened xs) ys ≡ true
arrow-rest [] ys opened e = e
arrow-rest (x ∷ xs) ys opened e = arrow-rest xs ys (open_after x opened) (rest-of (not (list_is_empty opened) || not (is_arrow x)) (has_no_arrow (open_after x opened) (xs ++ ys)) e)

-- behind tokens that leave the brackets as they were
arrow-behind : (xs ys : List Lexeme) → Level xs → has_no_arrow [] (xs ++ ys) ≡ true → has_no_arrow [] ys ≡ true
arrow-behind xs ys l e = ap (λ ks. has_no_arrow ks ys) (sym (l.after [])) ∙ arrow-rest xs ys [] e

is-arrow : (a : Arrow) → is_arrow (arrow_token a) ≡ true
is-arrow a = go a.one_character where
  same : (w : Bytes) → bytes_eq w w ≡ true
  same w = (bytes_eq-Decides w w).1 refl

  go : (b : Bool) → (bytes_eq (if b then double_arrow else codes "=>") double_arrow || bytes_eq (if b then double_arrow else codes "=>") (codes "=>")) ≡ true
  go true = ap (λ k. k || bytes_eq double_arrow (codes "=>")) (same double_arrow)
  go false = refl

-- an arrow outside brackets is one
no-arrow : (a : Arrow) (xs ys : List Lexeme) → has_no_arrow [] ((arrow_token a ∷ xs) ++ ys) ≡ true → ⊥
no-arrow a xs ys e = (let no : false ≡ true = sym (ap (λ k. not k && has_no_arrow (open_after (arrow_token a) []) (xs ++ ys)) (is-arrow a)) ∙ e in cc)

-- ---- types

pub behind-front : (front : List Lexeme) (a : Arrow) (xs ys zs : List Lexeme) → Level front → zs ≡ front ++ arrow_token a ∷ xs → has_no_arrow [] (zs ++ ys) ≡ true → ⊥
behind-front front a xs ys zs l e h =
    no-arrow a xs ys (arrow-behind front ((arrow_token a ∷ xs) ++ ys) l (ap (has_no_arrow []) (sym (append_assoc front (arrow_token a ∷ xs) ys) ∙ ap (λ ws. ws ++ ys) (sym e)) ∙ h))

type-simple : (type : WrittenType) (ys : List Lexeme) → has_no_arrow [] (type_tokens type ++ ys) ≡ true → is_simple type ≡ true
type-simple (FunOfNamed named a result) ys h = absurd (behind-front (named_tokens named) a (type_tokens result) ys _ (named-level named) refl h)
type-simple (FunOfNone o k a result) ys h = absurd (behind-front (open_round o ∷ close_round k ∷ []) a (type_tokens result) ys _ (level-round o k [] [] level-none level-none) refl h)
type-simple (FunOfTypes o types k a result) ys h =
    absurd (behind-front (open_round o ∷ (type_list_tokens types ++ close_round k ∷ [])) a (type_tokens result) ys _ (level-round o k _ _ (type-list-level types) level-none)
    (ap (λ ws. open_round o ∷ ws) (sym (append_assoc (type_list_tokens types) (close_round k ∷ []) (arrow_token a ∷ type_tokens result)))) h)
type-simple (Simple simple) ys h = refl

-- ---- operands and operators

apart : (xs ys zs : List Lexeme) → has_no_arrow [] ((xs ++ ys) ++ zs) ≡ true → has_no_arrow [] (xs ++ (ys ++ zs)) ≡ true
apart xs ys zs h = ap (has_no_arrow []) (sym (append_assoc xs ys zs)) ∙ h

module _ (rule : Rule) where
  pub prim-simple : (l : Limit) (d : Prim) → ProperPrim rule d → (ys : List Lexeme) → has_no_arrow [] (prim_tokens d ++ ys) ≡ true → PrimFits l d
  prim-simple l (NewOf w type) p ys h = λ c. type-simple type ys (arrow-behind (word_at (codes "new") w ∷ []) (type_tokens type ++ ys) (level-word _ _ _ level-none) h)
  prim-simple l (NewWith w type args) p ys h = λ c.
      type-simple type (args_tokens args ++ ys)
      (apart (type_tokens type) (args_tokens args) ys (arrow-behind (word_at (codes "new") w ∷ []) ((type_tokens type ++ args_tokens args) ++ ys) (level-word _ _ _ level-none) h))
  prim-simple l (SelectPrim d q id) p ys h = prim-simple l d p.0 ((dot q ∷ id_token id ∷ []) ++ ys) (apart (prim_tokens d) (dot q ∷ id_token id ∷ []) ys h)
  prim-simple l (SelectHole d q) p ys h = prim-simple l d p ((dot q ∷ []) ++ ys) (apart (prim_tokens d) (dot q ∷ []) ys h)
  prim-simple l (TypeApplyPrim d o ts k) p ys h =
      let types : List Lexeme = open_square o ∷ (type_list_tokens ts ++ close_square k ∷ []) in
      prim-simple l d p.0 (types ++ ys) (apart (prim_tokens d) types ys h)
  prim-simple l (ApplyPrim d args) p ys h = prim-simple l d p.0 (args_tokens args ++ ys) (apart (prim_tokens d) (args_tokens args) ys h)
  prim-simple l (EtaPrim d q) p ys h = prim-simple l d p.0 ((underscore q ∷ []) ++ ys) (apart (prim_tokens d) (underscore q ∷ []) ys h)
  prim-simple l _ p ys h = tt

  prefix-simple : (l : Limit) (d : Prefix) → ProperPrefix rule d → (ys : List Lexeme) → has_no_arrow [] (prefix_tokens d ++ ys) ≡ true → PrimFits l (prim_of d)
  prefix-simple l (Unsigned d) p ys h = prim-simple l d p ys h
  prefix-simple l (Signed s d) p ys h = prim-simple l d p.0 ys (arrow-behind (sign_token s ∷ []) (prim_tokens d ++ ys) (level-prefix s [] level-none) h)

  infix-simple : (l : Limit) (d : Infix) → ProperInfix rule d → (ys : List Lexeme) → has_no_arrow [] (infix_tokens d ++ ys) ≡ true → InfixFits l d
  infix-simple l (LastPrefix d) p ys h = prefix-simple l d p ys h
  infix-simple l (MorePrefixes d id rest) p ys h =
      let whole = apart (prefix_tokens d) (id_token id ∷ infix_tokens rest) ys h in (
        prefix-simple l d p.0 ((id_token id ∷ infix_tokens rest) ++ ys) whole,
        infix-simple l rest p.4 ys
            (arrow-behind (id_token id ∷ []) (infix_tokens rest ++ ys) (level-id id [] level-none)
            (arrow-behind (prefix_tokens d) ((id_token id ∷ infix_tokens rest) ++ ys) (prefix-level rule d p.0) whole)),
      )

  pub guard-fits : (d : Infix) → ProperInfix rule d → has_no_arrow [] (infix_tokens d) ≡ true → InfixFits limit.CaseGuard d
  guard-fits d p h = infix-simple limit.CaseGuard d p [] (ap (has_no_arrow []) (append-nil (infix_tokens d)) ∙ h)

  -- so the guard of a case is read as one
  pub guard-along : (d : Infix) → ProperInfix rule d → Ends (infix_tokens d) → are_of_one_side (infix_operators d) ≡ true → has_no_arrow [] (infix_tokens d) ≡ true → ChainEnds d [] [] limit.CaseGuard
  guard-along d p n one h = chain-along rule d p n [] [] limit.CaseGuard one (guard-fits d p h) refl
