-- One token behind what ended: what it decides of the tail before it, and that no type takes it.
use Rattle.std.proofs.Common.{◌≡◌, Bool, true, false, ◌&&◌, ◌||◌, if◌then◌else◌, List, [], ◌∷◌, Option, Some, None, refl, ap, sym, ◌∙◌}
use Rattle.std.specs.Prelude.{not}
use Rattle.scan_tokens.specs.declared.tokens.Newline.{Newline}
use Rattle.scan_tokens.specs.declared.tokens.Newline.TheVariants.{No}
use Rattle.source_grammar.specs.Brackets.{has_newline}
use Rattle.source_grammar.specs.Expressions.{PrefixSign, Expr, InfixExpr, Gen, Infix, MorePrefixes, ReturnOf, LastPrefix, Prim, NamePrim, NewOf, SelectHole}
use Rattle.source_grammar.specs.ExpressionRules.{prim_of, is_prefix_id, is_sign_alone, takes_args, is_hole}
use Rattle.source_grammar.specs.Lexemes.{Place, Lexeme}
use Rattle.source_grammar.specs.Types.{WrittenType}
use Rattle.parse_parts.proofs.Derived as types
use Rattle.parse_patterns.specs.Steps.{is_no}
use Rattle.expr_tails.specs.declared.states.Limit.{Limit}
use Rattle.expr_tails.specs.declared.symbols.Symbol.{Symbol}
use Rattle.expr_tails.specs.Symbols.{symbol_of, begins_prim, begins_expr}
use Rattle.expr_laws.proofs.Derived as derived
use Rattle.expr_laws.proofs.Derived.{OneToken, Operation, Tail, AtSign, AtName, AtPrim, AtDot, AtNew, InNew, InTypes, InTyped, AtReturn, AtSemi, AtGuardSemi, InPattern, Of, Context, Part, PatPart, FromPart, GuardPart, DoneGen, Bracket, GensBracket, Frame, Dotted, type_of, dotted_of, dotted_prim, prim_at, signed, settled, chain_of, infix_expr, innermost_at, innermost, is_some, is_id, is_begin, is_param_limit, at, state, with_head, new_tail, decided_at, goes_on, new_type, typed_type, types_type, in_type, operand_at, receiver_at, is_before_operator, ended_expr, headed_all, waits, chain_at, gen_at, gen_with, done_gen, next_in, next_by, next_generator, begins_pattern, begun_pattern, moved, token_at, step}
use Rattle.expr_laws.proofs.Moving.{token-step}
use Rattle.expr_laws.proofs.Seen.{Seen, seen}
use Rattle.expr_laws.proofs.TokenSteps.{none-ended}
use Rattle.expr_laws.proofs.Settling.{settled_tail, none-on, not-both, is_settled_plain}

-- ---- truth values

pub both : (x y : Bool) → (x && y) ≡ true → (x ≡ true) × (y ≡ true)
both true true e = (refl, refl)
both true false e = cc
both false y e = cc

pub or-right : (a b : Bool) → (not a || b) ≡ true → a ≡ true → b ≡ true
or-right true b e t = e
or-right false b e t = cc

pub or-true : (b : Bool) → (b || true) ≡ true
or-true true = refl
or-true false = refl

pub off : (b : Bool) → not b ≡ true → b ≡ false
off true e = cc
off false e = refl

pub newline-no : (n : Newline) → has_newline n ≡ true → is_no n ≡ false
newline-no No e = cc
newline-no _ e = refl

-- ---- what is decided

-- of the tail the item decides no more than that it ended
abbrev pub Quiet : Tail → Symbol → Newline → Type 0
Quiet (AtSign id) k n = (is_no n && begins_prim k) ≡ false
Quiet (AtDot prim point) k n = is_id k ≡ false
Quiet (AtReturn word) k n = (is_no n && begins_expr k) ≡ false
Quiet _ k n = Unit {0}

sign-quiet : {A : Type 0} (n b q : Bool) (x y : A) → (n && b) ≡ false → (if not (n && (b && q)) then x else y) ≡ x
sign-quiet true true q x y e = cc
sign-quiet true false q x y e = refl
sign-quiet false b q x y e = refl

pub quiet-settles : (c : Context) (s : Tail) (k : Symbol) (n : Newline) → Quiet s k n → decided_at s (at c s) k n ≡ at c (settled_tail s)
quiet-settles c (AtSign id) k n q = sign-quiet (is_no n) (begins_prim k) (not (is_param_limit c.limit)) (at c (AtName id true)) _ q
quiet-settles c (AtDot prim point) k n q = ap (λ b. if b then at c (AtDot prim point) else at c (AtPrim (SelectHole prim point))) q
quiet-settles c (AtReturn word) k n q = ap (λ b. if b then with_head (at c (AtReturn word)) (Of (ReturnOf word)) else at c (AtReturn word)) q
quiet-settles c _ k n q = refl

-- ---- types

-- no type that is read goes on with the token
abbrev pub StaysOut : Tail → Lexeme → Type 0
StaysOut (InNew word t) x = types.step t x ≡ None
StaysOut (InTypes prim o done t) x = types.step t x ≡ None
StaysOut (InTyped of point t) x = types.step t x ≡ None
StaysOut _ x = Unit {0}

pub out-type : (l : Limit) (s : Tail) (x : Lexeme) → StaysOut s x → in_type l s x ≡ None
out-type l (InNew word t) x e = ap (new_type word) (none-on x l t e)
out-type l (InTypes prim o done t) x e = ap (types_type prim o done) e
out-type l (InTyped of point t) x e = ap (typed_type of point) e
out-type l _ x e = refl

-- ---- the next generator

abbrev pub is_semi : Tail → Bool
is_semi (AtSemi expr p ps) = true
is_semi (AtGuardSemi test p ps) = true
is_semi _ = false

-- none begins in the line where an expression ends
pub joined-no-next : (fs : List Frame) (c : Context) (s : Tail) → is_semi s ≡ false → next_generator fs (at c s) No ≡ None
joined-no-next [] c s h = refl
joined-no-next (f ∷ fs) c s h = go f.bracket where
  unapart : (o : Option Gen) (word opening : Place) (done : List DoneGen) → next_in (done_gen o []) word opening done f.outer No fs ≡ None
  unapart None word opening done = refl
  unapart (Some gen) word opening done = refl

  here : (part : Part) (word opening : Place) (done : List DoneGen) (t : Tail) → is_semi t ≡ false → next_in (gen_at part t (at c t)) word opening done f.outer No fs ≡ None
  here part word opening done (AtSemi expr p ps) n = cc
  here part word opening done (AtGuardSemi test p ps) n = cc
  here part word opening done t n = unapart (gen_with part (ended_expr (at c t)) (chain_at (at c t))) word opening done

  go : (b : Bracket) → next_by b f.outer (at c s) No fs ≡ None
  go (GensBracket word o done part) = here part word o done s h
  go _ = refl

-- none begins where nothing ended
pub dead-no-next : (fs : List Frame) (c : Context) (s : Tail) (n : Newline) → is_semi s ≡ false → prim_at s ≡ None → innermost (at c s) ≡ None → next_generator fs (at c s) n ≡ None
dead-no-next [] c s n h p i = refl
dead-no-next (f ∷ fs) c s n h p i = go f.bracket where
  nothing : (part : Part) → gen_with part (ended_expr (at c s)) (chain_at (at c s)) ≡ None
  nothing PatPart = refl
  nothing (FromPart pat arrow) =
      ap (λ o. gen_with (FromPart pat arrow) (if waits c.heads then None else headed_all c.heads o) (chain_at (at c s))) i
      ∙ ap (λ o. gen_with (FromPart pat arrow) o (chain_at (at c s))) (none-ended (waits c.heads) c.heads)
  nothing (GuardPart pat arrow from done sep word) = ap (λ o. gen_with (GuardPart pat arrow from done sep word) (ended_expr (at c s)) (chain_of c.operations c.sign o)) p

  here : (part : Part) (t : Tail) → is_semi t ≡ false → gen_at part t (at c s) ≡ done_gen (gen_with part (ended_expr (at c s)) (chain_at (at c s))) []
  here part (AtSemi expr q qs) m = cc
  here part (AtGuardSemi test q qs) m = cc
  here part _ m = refl

  go : (b : Bracket) → next_by b f.outer (at c s) n fs ≡ None
  go (GensBracket word o done part) = ap (λ d. next_in d word o done f.outer n fs) (here part s h ∙ ap (λ g. done_gen g []) (nothing part))
  go _ = refl

-- ---- the step

-- where no generator begins
pub moves-on : (s : Tail) (y : Seen) (x : Lexeme) (fs : List Frame) (c : Context) → is_settled_plain s ≡ true → next_generator fs c x.place.before ≡ None → token_at s y x fs c ≡ moved y fs c
moves-on (InPattern p) y x fs c h n = cc
moves-on (InTypes prim o done t) y x fs c h n = cc
moves-on (AtDot prim point) y x fs c h n = refl
moves-on _ y x fs c h n = ap (λ o. if begins_pattern y && is_some o then begun_pattern o y x else moved y fs c) n ∙ go (begins_pattern y) where
  go : (b : Bool) → (if b && false then begun_pattern None y x else moved y fs c) ≡ moved y fs c
  go true = refl
  go false = refl

-- what the token is, and that it decides no more of the tail than that it ended
pub record Behind (s : Tail) (x : Lexeme) (y : Seen) : Type 0 where
  pub kind : Symbol
  pub is : symbol_of x.kind x.word ≡ kind
  pub sees : seen x ≡ y
  pub out : StaysOut s x
  pub quiet : Quiet s kind x.place.before
  pub plain : is_settled_plain (settled_tail s) ≡ true

pub behind-step : (s : Tail) (x : Lexeme) (y : Seen) → Behind s x y → (fs : List Frame) (c : Context) → next_generator fs (at c (settled_tail s)) x.place.before ≡ None
    → step (state fs (at c s)) (OneToken x) ≡ moved y fs (at c (settled_tail s))
behind-step s x y b fs c n =
    token-step x y b.kind fs (at c s) (at c (settled_tail s)) (out-type c.limit s x b.out) b.sees b.is (quiet-settles c s b.kind x.place.before b.quiet)
    ∙ moves-on (settled_tail s) y x fs (at c (settled_tail s)) b.plain n

-- ---- behind a Prim

-- how a name was read
abbrev pub Fresh : Tail → Type 0
Fresh (AtSign id) = is_prefix_id id ≡ true
Fresh (AtName id is_sign) = (is_sign ≡ false) × (is_prefix_id id ≡ false)
Fresh _ = Unit {0}

pub prim-innermost : (c : Context) (s : Tail) (d : Prim) → prim_at s ≡ Some d → innermost (at c s) ≡ Some (InfixExpr (settled c.operations (LastPrefix (signed c.sign d))))
prim-innermost c (InTyped of point t) d e = cc
prim-innermost c (AtReturn word) d e = cc
prim-innermost c (derived.AtCaught word body catch opening cases closing) d e = cc
prim-innermost c (derived.AtEnded expr) d e = cc
prim-innermost c _ d e = ap (λ o. infix_expr (chain_of c.operations c.sign o)) e

-- by the two forms in which a type ends
pub new-cases : (A : Option WrittenType → Option Dotted → Type 0) (word : Place) (t : types.State) (d : Prim) → dotted_prim word (dotted_of t) (type_of t) ≡ Some d
    → ((type : WrittenType) → type_of t ≡ Some type → NewOf word type ≡ d → A (Some type) None)
    → ((k : Dotted) → dotted_of t ≡ Some k → SelectHole (NewOf word k.type) k.point ≡ d → A None (Some k)) → A (type_of t) (dotted_of t)
new-cases A word t d e one two = go (type_of t) (dotted_of t) refl refl e where
  go : (o : Option WrittenType) (p : Option Dotted) → type_of t ≡ o → dotted_of t ≡ p → dotted_prim word p o ≡ Some d → A o p
  go (Some type) (Some k) f g h = absurd (not-both t type k f g)
  go (Some type) None f g h = one type f (let same : NewOf word type ≡ d = cc in same)
  go None (Some k) f g h = two k g (let same : SelectHole (NewOf word k.type) k.point ≡ d = cc in same)
  go None None f g h = cc

pub settled-operand : (s : Tail) (d : Prim) → prim_at s ≡ Some d → operand_at (settled_tail s) ≡ Some d
settled-operand (InNew word t) d e = new-cases (λ o p. operand_at (new_tail word t o p) ≡ Some d) word t d e (λ type f g. ap Some g) (λ k f g. ap Some g)
settled-operand (AtSign id) d e = e
settled-operand (AtDot prim point) d e = e
settled-operand _ d e = e

pub settled-prim : (s : Tail) (d : Prim) → prim_at s ≡ Some d → prim_at (settled_tail s) ≡ Some d
settled-prim (InNew word t) d e = new-cases (λ o p. prim_at (new_tail word t o p) ≡ Some d) word t d e (λ type f g. ap Some g) (λ k f g. ap Some g)
settled-prim (AtSign id) d e = e
settled-prim (AtDot prim point) d e = e
settled-prim _ d e = e

-- a sign alone, or `new` with a type, is no such Prim
pub settled-receiver : (s : Tail) (d : Prim) → prim_at s ≡ Some d → Fresh s → takes_args d ≡ false → is_sign_alone d ≡ false → receiver_at (settled_tail s) ≡ Some d
settled-receiver (InNew word t) d e f a n =
    new-cases (λ o p. receiver_at (new_tail word t o p) ≡ Some d) word t d e
    (λ type g h. absurd (let no : true ≡ false = ap takes_args h ∙ a in cc)) (λ k g h. ap Some h)
settled-receiver (AtSign id) d e f a n = absurd (let same : NamePrim id ≡ d = cc in let no : true ≡ false = sym f ∙ ap is_sign_alone same ∙ n in cc)
settled-receiver (AtName id is_sign) d e f a n = ap (λ b. if b then None else Some (NamePrim id)) f.0 ∙ e
settled-receiver (AtNew word type) d e f a n = absurd (let same : NewOf word type ≡ d = cc in let no : true ≡ false = ap takes_args same ∙ a in cc)
settled-receiver (AtDot prim point) d e f a n = e
settled-receiver _ d e f a n = e

-- an identifier behind it is an operator
pub settled-operator : (s : Tail) (d : Prim) → prim_at s ≡ Some d → Fresh s → is_hole d ≡ false → is_sign_alone d ≡ false → is_before_operator (settled_tail s) ≡ true
settled-operator (InNew word t) d e f a n =
    new-cases (λ o p. is_before_operator (new_tail word t o p) ≡ true) word t d e (λ type g h. refl) (λ k g h. absurd (let no : true ≡ false = ap is_hole h ∙ a in cc))
settled-operator (AtSign id) d e f a n = absurd (let same : NamePrim id ≡ d = cc in let no : true ≡ false = sym f ∙ ap is_sign_alone same ∙ n in cc)
settled-operator (AtName id is_sign) d e f a n = ap not f.0
settled-operator (AtDot prim point) d e f a n = absurd (let same : SelectHole prim point ≡ d = cc in let no : true ≡ false = ap is_hole same ∙ a in cc)
settled-operator (AtPrim prim) d e f a n = (let same : prim ≡ d = cc in ap (λ b. not b) (not-hole prim (ap is_hole same ∙ a))) where
  not-hole : (p : Prim) → is_hole p ≡ false → derived.is_hole p ≡ false
  not-hole (SelectHole p point) h = cc
  not-hole _ h = refl
settled-operator s d e f a n = ap is_some (settled-operand s d e)

pub settled-not-begin : (s : Tail) (d : Prim) → prim_at s ≡ Some d → is_begin (settled_tail s) ≡ false
settled-not-begin (InNew word t) d e = new-cases (λ o p. is_begin (new_tail word t o p) ≡ false) word t d e (λ type f g. refl) (λ k f g. refl)
settled-not-begin derived.Begin d e = cc
settled-not-begin _ d e = refl

pub settled-not-semi : (s : Tail) (d : Prim) → prim_at s ≡ Some d → is_semi (settled_tail s) ≡ false
settled-not-semi (InNew word t) d e = new-cases (λ o p. is_semi (new_tail word t o p) ≡ false) word t d e (λ type f g. refl) (λ k f g. refl)
settled-not-semi (AtSemi expr p ps) d e = cc
settled-not-semi (AtGuardSemi test p ps) d e = cc
settled-not-semi _ d e = refl

pub settled-is-plain : (s : Tail) (d : Prim) → prim_at s ≡ Some d → is_settled_plain (settled_tail s) ≡ true
settled-is-plain (InNew word t) d e = new-cases (λ o p. is_settled_plain (new_tail word t o p) ≡ true) word t d e (λ type f g. refl) (λ k f g. refl)
settled-is-plain (InPattern p) d e = cc
settled-is-plain (InTypes prim o done t) d e = cc
settled-is-plain _ d e = refl

-- ---- holes

abbrev pub infix_hole : Infix → Bool
infix_hole (LastPrefix d) = is_hole (prim_of d)
infix_hole (MorePrefixes d id rest) = infix_hole rest

-- the last token is the `.` of a selection without a name
abbrev pub expr_hole : Expr → Bool
expr_hole (InfixExpr d) = infix_hole d
expr_hole _ = false

abbrev pub hole_at : Tail → Bool
hole_at (AtDot d p) = true
hole_at (InNew w t) = is_some (dotted_of t)
hole_at _ = false

settled-hole : (os : List Operation) (d : Infix) → infix_hole (settled os d) ≡ infix_hole d
settled-hole [] d = refl
settled-hole (o ∷ os) d = settled-hole os (MorePrefixes o.left o.operator d)

signed-hole : (sign : Option PrefixSign) (d : Prim) → infix_hole (LastPrefix (signed sign d)) ≡ is_hole d
signed-hole None d = refl
signed-hole (Some s) d = refl

prim-hole : (os : List Operation) (sign : Option PrefixSign) (d : Prim) (e : Expr) → Some (InfixExpr (settled os (LastPrefix (signed sign d)))) ≡ Some e → expr_hole e ≡ false → is_hole d ≡ false
prim-hole os sign d e h n =
    let same : InfixExpr (settled os (LastPrefix (signed sign d))) ≡ e = cc in
    sym (settled-hole os (LastPrefix (signed sign d)) ∙ signed-hole sign d) ∙ ap expr_hole same ∙ n

pub no-hole : (s : Tail) (os : List Operation) (sign : Option PrefixSign) (e : Expr) → innermost_at s (chain_of os sign (prim_at s)) ≡ Some e → expr_hole e ≡ false → hole_at s ≡ false
no-hole (AtDot d p) os sign e h n = absurd (let no : true ≡ false = prim-hole os sign (SelectHole d p) e h n in cc)
no-hole (InNew w t) os sign e h n = go (dotted_of t) (type_of t) refl h where
  go : (k : Option Dotted) (o : Option WrittenType) → dotted_of t ≡ k → innermost_at (InNew w t) (chain_of os sign (dotted_prim w k o)) ≡ Some e → is_some k ≡ false
  go None o f g = refl
  go (Some k) o f g = absurd (let no : true ≡ false = prim-hole os sign (SelectHole (NewOf w k.type) k.point) e g n in cc)
no-hole _ os sign e h n = refl
