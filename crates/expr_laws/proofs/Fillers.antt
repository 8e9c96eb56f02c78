-- With these items what was read is completed: no newline counts before them, and what stands in their braces is of the grammar.
use Rattle.std.proofs.Common.{◌≡◌, Bool, true, false, ◌&&◌, ◌||◌, List, [], ◌∷◌, ◌++◌, Some, codes, refl, ap, sym}
use Rattle.std.specs.Prelude.{not}
use Rattle.scan_tokens.specs.Newlines.{can_end}
use Rattle.source_grammar.specs.Brackets.{has_newline, role}
use Rattle.source_grammar.specs.Expressions.{WithinExpr, Expr, InfixExpr, LastPrefix, Unsigned, Placeholder, LastBStat, EmptyBStat, Cases, LastCase, CaseOf}
use Rattle.source_grammar.specs.ExpressionRules.{Rule}
use Rattle.source_grammar.specs.Lexemes.{Lexeme, word_at, open_round, close_round, close_square, dot, underscore, Arrow, arrow_token, BackArrow, back_arrow_token, id_token}
use Rattle.source_grammar.specs.Patterns.{Pat, LastAlternative, InfixPat, LastOperand, WildPat}
use Rattle.parse_patterns.proofs.Sides.{and-true}
use Rattle.parse_patterns.proofs.Alive.{any_place, an_id}
use Rattle.expr_laws.specs.Exactly.{ProperItem}
use Rattle.expr_laws.specs.Newlines.{newlines_end}
use Rattle.expr_laws.proofs.Derived.{Item, OneToken, CasesPair, State, item_tokens, items_tokens, step}
use Rattle.expr_laws.proofs.Items.{tokens}
use Rattle.expr_laws.proofs.Lasting.{and-left, and-right}
use Rattle.expr_laws.proofs.Moving.{Leads, leads-none, leads-then, leads-on, leads-as}

abbrev pub an_arrow : Arrow
an_arrow = record { one_character = false; place = any_place }

abbrev pub a_back_arrow : BackArrow
a_back_arrow = record { one_character = false; place = any_place }

abbrev pub wild_pat : Pat
wild_pat = LastAlternative (InfixPat (LastOperand (WildPat any_place)))

abbrev pub wild : Expr
wild = InfixExpr (LastPrefix (Unsigned (Placeholder any_place)))

-- `case _ =>`
abbrev pub some_cases : Cases
some_cases = LastCase (CaseOf any_place wild_pat an_arrow (LastBStat EmptyBStat))

pub data Mark : Type 0 where
  Wild : Mark
  Name : Mark
  Point : Mark
  Opening : Mark
  Closing : Mark
  ClosingSquare : Mark
  ArrowMark : Mark
  BackMark : Mark
  WhileMark : Mark
  ElseMark : Mark

pub data Filler : Type 0 where
  One : Mark → Filler
  SomeCases : Filler

abbrev pub mark_token : Mark → Lexeme
mark_token Wild = underscore any_place
mark_token Name = id_token an_id
mark_token Point = dot any_place
mark_token Opening = open_round any_place
mark_token Closing = close_round any_place
mark_token ClosingSquare = close_square any_place
mark_token ArrowMark = arrow_token an_arrow
mark_token BackMark = back_arrow_token a_back_arrow
mark_token WhileMark = word_at (codes "while") any_place
mark_token ElseMark = word_at (codes "else") any_place

abbrev pub mark_tokens : List Mark → List Lexeme
mark_tokens [] = []
mark_tokens (m ∷ ms) = mark_token m ∷ mark_tokens ms

abbrev pub filler_item : Filler → Item
filler_item (One m) = OneToken (mark_token m)
filler_item SomeCases = CasesPair any_place some_cases any_place

abbrev pub fill : List Filler → List Item
fill [] = []
fill (f ∷ fillers) = filler_item f ∷ fill fillers

abbrev pub marks : List Mark → List Filler
marks [] = []
marks (m ∷ ms) = One m ∷ marks ms

fill-append : (xs ys : List Filler) → fill (xs ++ ys) ≡ fill xs ++ fill ys
fill-append [] ys = refl
fill-append (f ∷ xs) ys = ap (λ is. filler_item f ∷ is) (fill-append xs ys)

pub fill-marks : (ms : List Mark) → tokens (mark_tokens ms) ≡ fill (marks ms)
fill-marks [] = refl
fill-marks (m ∷ ms) = ap (λ is. OneToken (mark_token m) ∷ is) (fill-marks ms)

-- ---- newlines

abbrev are_joined : List Lexeme → Bool
are_joined [] = true
are_joined (x ∷ xs) = not (has_newline x.place.before) && are_joined xs

pub or-holds : (a b : Bool) → b ≡ true → (a || b) ≡ true
or-holds true b e = refl
or-holds false b e = e

joined-end : (xs : List Lexeme) → are_joined xs ≡ true → (ended : Bool) → newlines_end ended xs ≡ true
joined-end [] e ended = refl
joined-end (x ∷ xs) e ended =
    and-true (ended || not (has_newline x.place.before)) (newlines_end (can_end (role x)) xs) (or-holds ended _ (and-left (not (has_newline x.place.before)) (are_joined xs) e))
    (joined-end xs (and-right (not (has_newline x.place.before)) (are_joined xs) e) (can_end (role x)))

joined-append : (xs ys : List Lexeme) → are_joined xs ≡ true → are_joined ys ≡ true → are_joined (xs ++ ys) ≡ true
joined-append [] ys e f = f
joined-append (x ∷ xs) ys e f =
    and-true (not (has_newline x.place.before)) (are_joined (xs ++ ys)) (and-left (not (has_newline x.place.before)) (are_joined xs) e)
    (joined-append xs ys (and-right (not (has_newline x.place.before)) (are_joined xs) e) f)

mark-joined : (m : Mark) → are_joined (mark_token m ∷ []) ≡ true
mark-joined Wild = refl
mark-joined _ = refl

fill-joined : (fillers : List Filler) → are_joined (items_tokens (fill fillers)) ≡ true
fill-joined [] = refl
fill-joined (One m ∷ fillers) = joined-append (mark_token m ∷ []) (items_tokens (fill fillers)) (mark-joined m) (fill-joined fillers)
fill-joined (SomeCases ∷ fillers) = joined-append (item_tokens (CasesPair any_place some_cases any_place)) (items_tokens (fill fillers)) refl (fill-joined fillers)

pub fill-ends : (fillers : List Filler) (ended : Bool) → newlines_end ended (items_tokens (fill fillers)) ≡ true
fill-ends fillers ended = joined-end (items_tokens (fill fillers)) (fill-joined fillers) ended

-- ---- what stands in braces

pub filler-proper : (rule : Rule) → rule WithinExpr false [] [] → (f : Filler) → ProperItem rule (filler_item f)
filler-proper rule r (One m) = tt
filler-proper rule r SomeCases = ((refl, tt), refl, (tt, r))

-- ---- where they lead

pub record Reaches (s t : State) : Type 0 where
  pub fillers : List Filler
  pub leads : Leads (fill fillers) s t

pub reaches-none : (s : State) → Reaches s s
reaches-none s = record { fillers = []; leads = leads-none s }

pub reaches-then : (s t u : State) → Reaches s t → Reaches t u → Reaches s u
reaches-then s t u p q = record {
  fillers = p.fillers ++ q.fillers;
  leads = leads-as (fill p.fillers ++ fill q.fillers) (fill (p.fillers ++ q.fillers)) s u (sym (fill-append p.fillers q.fillers)) (leads-then (fill p.fillers) (fill q.fillers) s t u p.leads q.leads);
}

pub reaches-on : (f : Filler) (s t u : State) → step s (filler_item f) ≡ Some t → Reaches t u → Reaches s u
reaches-on f s t u e q = record { fillers = f ∷ q.fillers; leads = leads-on (filler_item f) (fill q.fillers) s t u e q.leads }

pub reaches-one : (f : Filler) (s t : State) → step s (filler_item f) ≡ Some t → Reaches s t
reaches-one f s t e = reaches-on f s t t e (reaches-none t)

pub reaches-by : (fillers : List Filler) (s t : State) → Leads (fill fillers) s t → Reaches s t
reaches-by fillers s t l = record { fillers = fillers; leads = l }
