-- A Simple can come of what was read of one.
use Rattle.std.proofs.Common.{◌≡◌, Bool, true, false, ◌&&◌, List, [], ◌∷◌, Option, Some, None, refl, ap, ◌∙◌}
use Rattle.scan_tokens.specs.declared.tokens.Newline.TheVariants.{No}
use Rattle.reading_machines.specs.Machines.{run, onward}
use Rattle.source_grammar.specs.Lexemes.{Place, Lexeme, close_round, close_square, Arrow, arrow_token, Id, id_token, QualId}
use Rattle.source_grammar.specs.Types.{WrittenType, SimpleType, Simple, Named, OfPath, Applied, LastType}
use Rattle.parse_parts.proofs.Seen.{seen, seen-id, seen-arrow}
use Rattle.parse_parts.proofs.Derived as derived
use Rattle.parse_parts.proofs.Derived.{Head, NamedHead, NoneHead, TypesHead, Tail, Begin, AtPath, AtDot, AtNamed, AtNone, AtTypes, Bracket, Round, Square, Done, Frame, State, settled, listed, longer, simple_of, head_of, step}
use Rattle.parse_parts.proofs.Along.{at, id-step, arrow-step}
use Rattle.parse_patterns.proofs.Derived.{simple_in}
use Rattle.parse_patterns.proofs.SimpleTypes.{goes, leaves, is_alone, is_begin, simple_step, can_be_simple, simple-can}

abbrev pub any_place : Place
any_place = record { span = record { start = 0; end = 0 }; before = No }

abbrev pub an_id : Id
an_id = record { name = []; quoted = false; place = any_place }

abbrev an_arrow : Arrow
an_arrow = record { one_character = false; place = any_place }

-- others lead to a Simple
pub record Completed (s : State) : Type 0 where
  pub others : List Lexeme
  pub end : State
  pub simple : SimpleType
  pub runs : run simple_step others s ≡ Some end
  pub ends : simple_in end.frames end.heads end.tail ≡ Some simple

one-more : (x : Lexeme) (s t : State) → simple_step s x ≡ Some t → Completed t → Completed s
one-more x s t e c = record {
  others = x ∷ c.others;
  end = c.end;
  simple = c.simple;
  runs = ap (λ o. onward o None (run simple_step c.others)) e ∙ c.runs;
  ends = c.ends;
}

stays : (x : Lexeme) (s t : State) → leaves (seen x) s.frames s.tail ≡ false → step s x ≡ Some t → simple_step s x ≡ Some t
stays x s t l e = ap (λ b. goes b (step s x)) l ∙ e

id-stays : (fs : List Frame) (hs : List Head) (tail : Tail) (t : State) → derived.named_on an_id tail hs fs ≡ Some t → simple_step (at fs hs tail) (id_token an_id) ≡ Some t
id-stays fs hs tail t e = stays (id_token an_id) (at fs hs tail) t (ap (λ y. leaves y fs tail) (seen-id an_id)) (id-step an_id (at fs hs tail) ∙ e)

arrow-stays : (f : Frame) (fs : List Frame) (hs : List Head) (tail : Tail) (h : Head) → head_of an_arrow tail ≡ Some h → simple_step (at (f ∷ fs) hs tail) (arrow_token an_arrow) ≡ Some (at (f ∷ fs) (h ∷ hs) Begin)
arrow-stays f fs hs tail h e =
    stays (arrow_token an_arrow) (at (f ∷ fs) hs tail) _ (ap (λ y. leaves y (f ∷ fs) tail) (seen-arrow an_arrow))
    (arrow-step an_arrow (at (f ∷ fs) hs tail) ∙ ap (λ o. derived.pushed o hs (f ∷ fs)) e)

then-path : (fs : List Frame) (hs : List Head) → ((hs : List Head) (path : QualId) → Completed (at fs hs (AtPath path))) → Completed (at fs hs Begin)
then-path fs hs on = one-more (id_token an_id) _ _ (id-stays fs hs Begin _ refl) (on hs (record { first = an_id; steps = [] }))

-- where a bracket is open, each tail leads to a path in it
inside : (f : Frame) (fs : List Frame) (hs : List Head) (tail : Tail) → ((hs : List Head) (path : QualId) → Completed (at (f ∷ fs) hs (AtPath path))) → Completed (at (f ∷ fs) hs tail)
inside f fs hs Begin on = then-path (f ∷ fs) hs on
inside f fs hs (AtPath path) on = on hs path
inside f fs hs (AtDot path d) on = one-more (id_token an_id) _ _ (id-stays (f ∷ fs) hs (AtDot path d) _ refl) (on hs (longer path d an_id))
inside f fs hs (AtNamed named) on =
    one-more (arrow_token an_arrow) _ _ (arrow-stays f fs hs (AtNamed named) (NamedHead named an_arrow) refl) (then-path (f ∷ fs) (NamedHead named an_arrow ∷ hs) on)
inside f fs hs (AtNone o c) on =
    one-more (arrow_token an_arrow) _ _ (arrow-stays f fs hs (AtNone o c) (NoneHead o c an_arrow) refl) (then-path (f ∷ fs) (NoneHead o c an_arrow ∷ hs) on)
inside f fs hs (AtTypes o types c) on =
    one-more (arrow_token an_arrow) _ _ (arrow-stays f fs hs (AtTypes o types c) (TypesHead o types c an_arrow) refl) (then-path (f ∷ fs) (TypesHead o types c an_arrow ∷ hs) on)

-- a path outside, and what a bracket leaves there
alone : (hs : List Head) (tail : Tail) → can_be_simple (at [] hs tail) ≡ true → is_begin tail ≡ false → ((path : QualId) (d : Place) → tail ≡ AtDot path d → ⊥) → Completed (at [] hs tail)
alone [] Begin c b n = cc
alone [] (AtPath path) c b n = record { others = []; end = at [] [] (AtPath path); simple = Named (OfPath path); runs = refl; ends = refl }
alone [] (AtDot path d) c b n = absurd (n path d refl)
alone [] (AtNamed named) c b n = record { others = []; end = at [] [] (AtNamed named); simple = Named named; runs = refl; ends = refl }
alone [] (AtNone o d) c b n = cc
alone [] (AtTypes o types d) c b n = go (derived.in_round o types d) refl c where
  go : (s : Option SimpleType) → derived.in_round o types d ≡ s → derived.is_some s ≡ true → Completed (at [] [] (AtTypes o types d))
  go None e f = cc
  go (Some simple) e f = record { others = []; end = at [] [] (AtTypes o types d); simple = simple; runs = refl; ends = e }
alone (h ∷ hs) tail c b n = cc

and-false : (b : Bool) → (b && false) ≡ false
and-false true = refl
and-false false = refl

-- the brackets are closed one after another
closed : (fs : List Frame) (hs : List Head) (path : QualId) → can_be_simple (at fs hs (AtPath path)) ≡ true → Completed (at fs hs (AtPath path))
closed [] hs path c = alone hs (AtPath path) c refl (λ p d e. cc)
closed (f ∷ fs) hs path c = go f.bracket f.done f.heads c (λ outer p k. closed fs outer p k) where
  type : WrittenType
  type = settled hs (Simple (Named (OfPath path)))

  behind : (fs : List Frame) (outer : List Head) (tail : Tail) → can_be_simple (at fs outer tail) ≡ true → is_begin tail ≡ false → ((p : QualId) (d : Place) → tail ≡ AtDot p d → ⊥)
      → ((outer : List Head) (p : QualId) → can_be_simple (at fs outer (AtPath p)) ≡ true → Completed (at fs outer (AtPath p))) → Completed (at fs outer tail)
  behind [] outer tail k b n on = alone outer tail k b n
  behind (g ∷ gs) outer tail k b n on = inside g gs outer tail (λ hs p. on hs p k)

  go : (b : Bracket) (done : List Done) (outer : List Head) → can_be_simple (at (record { bracket = b; done = done; heads = outer } ∷ fs) hs (AtPath path)) ≡ true
      → ((outer : List Head) (p : QualId) → can_be_simple (at fs outer (AtPath p)) ≡ true → Completed (at fs outer (AtPath p)))
      → Completed (at (record { bracket = b; done = done; heads = outer } ∷ fs) hs (AtPath path))
  go (Round o) done outer k on =
      let here : State = at (record { bracket = Round o; done = done; heads = outer } ∷ fs) hs (AtPath path) in
      let tail : Tail = AtTypes o (listed done (LastType type)) any_place in
      let step : simple_step here (close_round any_place) ≡ Some (at fs outer tail) =
      stays (close_round any_place) here (at fs outer tail) (and-false (is_alone (record { bracket = Round o; done = done; heads = outer } ∷ fs))) refl in
      one-more (close_round any_place) _ (at fs outer tail) step
      (behind fs outer tail (simple-can here (close_round any_place) (at fs outer tail) step k) refl (λ p d e. cc) on)
  go (Square q o) done outer k on =
      let here : State = at (record { bracket = Square q o; done = done; heads = outer } ∷ fs) hs (AtPath path) in
      let tail : Tail = AtNamed (Applied q o (listed done (LastType type)) any_place) in
      let step : simple_step here (close_square any_place) ≡ Some (at fs outer tail) = stays (close_square any_place) here (at fs outer tail) refl refl in
      one-more (close_square any_place) _ (at fs outer tail) step
      (behind fs outer tail (simple-can here (close_square any_place) (at fs outer tail) step k) refl (λ p d e. cc) on)

pub completed : (fs : List Frame) (hs : List Head) (tail : Tail) → can_be_simple (at fs hs tail) ≡ true → Completed (at fs hs tail)
completed [] hs Begin c =
    one-more (id_token an_id) _ (at [] hs (AtPath (record { first = an_id; steps = [] }))) (id-stays [] hs Begin _ refl) (closed [] hs (record { first = an_id; steps = [] }) c)
completed [] hs (AtDot path d) c =
    one-more (id_token an_id) _ (at [] hs (AtPath (longer path d an_id))) (id-stays [] hs (AtDot path d) _ refl) (closed [] hs (longer path d an_id) c)
completed [] hs (AtPath path) c = alone hs (AtPath path) c refl (λ p d e. cc)
completed [] hs (AtNamed named) c = alone hs (AtNamed named) c refl (λ p d e. cc)
completed [] hs (AtNone o k) c = alone hs (AtNone o k) c refl (λ p d e. cc)
completed [] hs (AtTypes o types k) c = alone hs (AtTypes o types k) c refl (λ p d e. cc)
completed (f ∷ fs) hs tail c = inside f fs hs tail (λ outer p. closed (f ∷ fs) outer p c)
