-- The types that stand in patterns are Simples: the reader of types goes on in them where a Simple can still come of it.
use Rattle.std.proofs.Common.{◌≡◌, Bool, true, false, ◌&&◌, List, [], ◌∷◌, Option, Some, None, refl, ap, sym, ◌∙◌, append-nil}
use Rattle.std.specs.Prelude.{not}
use Rattle.reading_machines.specs.Machines.{run, onward}
use Rattle.source_grammar.specs.Lexemes.{Place, Lexeme, Arrow, Id}
use Rattle.source_grammar.specs.Types.{WrittenType, SimpleType, Simple, TypeList, LastType, MoreTypes, simple_tokens}
use Rattle.parse_parts.proofs.Seen.{Seen, AnId, OpensRound, ClosesRound, OpensSquare, ClosesSquare, AComma, ADot, AnArrow, ATypeWord, Another, seen}
use Rattle.parse_parts.proofs.Derived as derived
use Rattle.parse_parts.proofs.Derived.{Head, Tail, Begin, AtPath, AtDot, AtNamed, AtNone, AtTypes, Bracket, Round, Square, Done, Frame, State, simple_of, head_of, in_round, listed, is_some, settled, moved, step}
use Rattle.parse_parts.proofs.Along.{at, simple-along, simple_tail, simple-there}

abbrev pub is_empty : {A : Type 0} → List A → Bool
is_empty [] = true
is_empty (a ∷ rest) = false

abbrev pub is_alone : {A : Type 0} → List A → Bool
is_alone [] = false
is_alone (a ∷ []) = true
is_alone (a ∷ b ∷ rest) = false

abbrev pub is_begin : Tail → Bool
is_begin Begin = true
is_begin _ = false

-- no type more has room in these parentheses of a Simple
abbrev pub is_full : Bracket → List Done → Bool
is_full (Round o) (d ∷ e ∷ done) = true
is_full _ _ = false

abbrev pub full_alone : List Frame → Bool
full_alone [] = false
full_alone (f ∷ []) = is_full f.bracket f.done
full_alone (f ∷ g ∷ fs) = false

-- No Simple goes on with an arrow outside all brackets, with `()`, or with a fourth type in parentheses.
abbrev pub leaves : Seen → List Frame → Tail → Bool
leaves (AnArrow a) fs tail = is_empty fs
leaves (AComma c) fs tail = full_alone fs
leaves (ClosesRound c) fs tail = is_alone fs && is_begin tail
leaves _ fs tail = false

abbrev pub goes : Bool → Option State → Option State
goes true o = None
goes false o = o

-- one token more of a Simple
abbrev pub simple_step : State → Lexeme → Option State
simple_step s x = goes (leaves (seen x) s.frames s.tail) (step s x)

-- ---- where a Simple can still come of it

abbrev may_end : Tail → Bool
may_end (AtNone o c) = false
may_end (AtTypes o types c) = is_some (in_round o types c)
may_end _ = true

abbrev room : Bracket → List Done → Bool
room (Round o) (d ∷ e ∷ g ∷ done) = false
room _ _ = true

abbrev can_within : Frame → List Frame → Bool
can_within f [] = is_empty f.heads && room f.bracket f.done
can_within f (g ∷ fs) = can_within g fs

abbrev can_in : List Frame → List Head → Tail → Bool
can_in [] hs tail = is_empty hs && may_end tail
can_in (f ∷ fs) hs tail = can_within f fs

abbrev pub can_be_simple : State → Bool
can_be_simple s = can_in s.frames s.heads s.tail

-- ---- one step

and-true : (b : Bool) → (b && true) ≡ b
and-true true = refl
and-true false = refl

and-false : (b : Bool) → (b && false) ≡ false
and-false true = refl
and-false false = refl

abbrev Same : Seen → Tail → List Head → List Frame → State → Type 0
Same y tail hs fs t = can_be_simple t ≡ (can_in fs hs tail && not (leaves y fs tail))

record Keeps (y : Seen) (tail : Tail) (hs : List Head) (fs : List Frame) (t : State) : Type 0 where
  same : Same y tail hs fs t

keeps-some : (y : Seen) (tail : Tail) (hs : List Head) (fs : List Frame) (s t : State) → Some s ≡ Some t → Same y tail hs fs s → Keeps y tail hs fs t
keeps-some y tail hs fs s t e k = (let same : s ≡ t = cc in record { same = ap can_be_simple (sym same) ∙ k })

-- the tail alone goes on
tail-kept : (y : Seen) (old new : Tail) (hs : List Head) (fs : List Frame) → may_end old ≡ true → may_end new ≡ true → leaves y fs old ≡ false → Same y old hs fs (at fs hs new)
tail-kept y old new hs [] m n l =
    ap (λ b. is_empty hs && b) n ∙ sym (ap (λ b. is_empty hs && b) m) ∙ sym (and-true (can_in [] hs old)) ∙ ap (λ b. can_in [] hs old && not b) (sym l)
tail-kept y old new hs (f ∷ fs) m n l = sym (and-true (can_within f fs)) ∙ ap (λ b. can_within f fs && not b) (sym l)

-- a bracket is opened
opened-kept : (y : Seen) (k : Bracket) (tail : Tail) (hs : List Head) (fs : List Frame) → may_end tail ≡ true → leaves y fs tail ≡ false → room k [] ≡ true
    → Same y tail hs fs (at (record { bracket = k; done = []; heads = hs } ∷ fs) [] Begin)
opened-kept y k tail hs [] m l r =
    ap (λ b. is_empty hs && b) r ∙ sym (ap (λ b. is_empty hs && b) m) ∙ sym (and-true (can_in [] hs tail)) ∙ ap (λ b. can_in [] hs tail && not b) (sym l)
opened-kept y k tail hs (f ∷ fs) m l r = sym (and-true (can_within f fs)) ∙ ap (λ b. can_within f fs && not b) (sym l)

pushed-kept : (a : Arrow) (tail : Tail) (o : Option Head) (hs : List Head) (fs : List Frame) (t : State) → derived.pushed o hs fs ≡ Some t → Keeps (AnArrow a) tail hs fs t
pushed-kept a tail None hs fs t e = cc
pushed-kept a tail (Some h) hs [] t e = keeps-some _ _ _ _ _ t e (sym (and-false (is_empty hs && may_end tail)))
pushed-kept a tail (Some h) hs (f ∷ fs) t e = keeps-some _ _ _ _ _ t e (sym (and-true (can_within f fs)))

named-kept : (id : Id) (tail : Tail) (hs : List Head) (fs : List Frame) (t : State) → derived.named_on id tail hs fs ≡ Some t → Keeps (AnId id) tail hs fs t
named-kept id Begin hs fs t e = keeps-some _ _ _ _ _ t e (tail-kept (AnId id) Begin _ hs fs refl refl refl)
named-kept id (AtDot path d) hs fs t e = keeps-some _ _ _ _ _ t e (tail-kept (AnId id) (AtDot path d) _ hs fs refl refl refl)
named-kept id _ hs fs t e = cc

round-opened-kept : (o : Place) (tail : Tail) (hs : List Head) (fs : List Frame) (t : State) → derived.round_opened o tail hs fs ≡ Some t → Keeps (OpensRound o) tail hs fs t
round-opened-kept o Begin hs fs t e = keeps-some _ _ _ _ _ t e (opened-kept (OpensRound o) (Round o) Begin hs fs refl refl refl)
round-opened-kept o _ hs fs t e = cc

square-opened-kept : (o : Place) (tail : Tail) (hs : List Head) (fs : List Frame) (t : State) → derived.square_opened o tail hs fs ≡ Some t → Keeps (OpensSquare o) tail hs fs t
square-opened-kept o (AtPath path) hs fs t e = keeps-some _ _ _ _ _ t e (opened-kept (OpensSquare o) (Square path o) (AtPath path) hs fs refl refl refl)
square-opened-kept o _ hs fs t e = cc

dotted-kept : (d : Place) (tail : Tail) (hs : List Head) (fs : List Frame) (t : State) → derived.dotted d tail hs fs ≡ Some t → Keeps (ADot d) tail hs fs t
dotted-kept d (AtPath path) hs fs t e = keeps-some _ _ _ _ _ t e (tail-kept (ADot d) (AtPath path) _ hs fs refl refl refl)
dotted-kept d _ hs fs t e = cc

singled-kept : (w : Place) (tail : Tail) (hs : List Head) (fs : List Frame) (t : State) → derived.singled w tail hs fs ≡ Some t → Keeps (ATypeWord w) tail hs fs t
singled-kept w (AtDot path d) hs fs t e = keeps-some _ _ _ _ _ t e (tail-kept (ATypeWord w) (AtDot path d) _ hs fs refl refl refl)
singled-kept w _ hs fs t e = cc

-- one type more leaves room where the parentheses were not full
room-more : (k : Bracket) (d : Done) (done : List Done) → room k (d ∷ done) ≡ (room k done && not (is_full k done))
room-more (Round o) d [] = refl
room-more (Round o) d (e ∷ []) = refl
room-more (Round o) d (e ∷ g ∷ []) = refl
room-more (Round o) d (e ∷ g ∷ h ∷ done) = refl
room-more (Square path o) d done = refl

and-assoc : (a b c : Bool) → (a && (b && c)) ≡ ((a && b) && c)
and-assoc true b c = refl
and-assoc false b c = refl

parted-kept : (c : Place) (tail : Tail) (o : Option SimpleType) (hs : List Head) (fs : List Frame) (t : State) → derived.parted c o hs fs ≡ Some t → Keeps (AComma c) tail hs fs t
parted-kept c tail None hs fs t e = cc
parted-kept c tail (Some simple) hs [] t e = cc
parted-kept c tail (Some simple) hs (f ∷ []) t e =
    keeps-some _ _ _ _ _ t e (ap (λ b. is_empty f.heads && b) (room-more f.bracket _ f.done) ∙ and-assoc (is_empty f.heads) (room f.bracket f.done) (not (is_full f.bracket f.done)))
parted-kept c tail (Some simple) hs (f ∷ g ∷ fs) t e = keeps-some _ _ _ _ _ t e (sym (and-true (can_within g fs)))

-- there is room for the last type where these parentheses are a Simple
long-round : (o c : Place) (done : List Done) (a b d : WrittenType) (p q r : Place) (types : TypeList)
    → is_some (in_round o (listed done (MoreTypes a p (MoreTypes b q (MoreTypes d r types)))) c) ≡ false
long-round o c [] a b d p q r types = refl
long-round o c (e ∷ done) a b d p q r types = long-round o c done e.type a b e.place p q (MoreTypes d r types)

room-round : (o c : Place) (done : List Done) (type : WrittenType) → is_some (in_round o (listed done (LastType type)) c) ≡ room (Round o) done
room-round o c [] type = refl
room-round o c (e ∷ []) type = refl
room-round o c (e ∷ g ∷ []) type = refl
room-round o c (e ∷ g ∷ h ∷ done) type = long-round o c done h.type g.type e.type h.place g.place e.place (LastType type)

filled-kept : (c o : Place) (tail : Tail) (v : Option SimpleType) (hs : List Head) (done : List Done) (outer : List Head) (fs : List Frame) (t : State) → is_begin tail ≡ false
    → derived.filled o c v hs (record { bracket = Round o; done = done; heads = outer }) fs ≡ Some t
    → Keeps (ClosesRound c) tail hs (record { bracket = Round o; done = done; heads = outer } ∷ fs) t
filled-kept c o tail None hs done outer fs t b e = cc
filled-kept c o tail (Some simple) hs done outer [] t b e = keeps-some _ _ _ _ _ t e
    (ap (λ v. is_empty outer && v) (room-round o c done (settled hs (Simple simple))) ∙ sym (and-true (is_empty outer && room (Round o) done))
    ∙ ap (λ v. (is_empty outer && room (Round o) done) && not v) (sym b))
filled-kept c o tail (Some simple) hs done outer (g ∷ fs) t b e = keeps-some _ _ _ _ _ t e (sym (and-true (can_within g fs)))

emptied-kept : (c o : Place) (done : List Done) (outer : List Head) (fs : List Frame) (t : State) → derived.emptied o c done outer fs ≡ Some t
    → Keeps (ClosesRound c) Begin [] (record { bracket = Round o; done = done; heads = outer } ∷ fs) t
emptied-kept c o [] outer [] t e = keeps-some _ _ _ _ _ t e (and-false (is_empty outer) ∙ sym (and-false (is_empty outer && true)))
emptied-kept c o [] outer (g ∷ fs) t e = keeps-some _ _ _ _ _ t e (sym (and-true (can_within g fs)))
emptied-kept c o (d ∷ done) outer fs t e = cc

within-kept : (c o : Place) (tail : Tail) (hs : List Head) (done : List Done) (outer : List Head) (fs : List Frame) (t : State)
    → derived.round_within o c tail hs (record { bracket = Round o; done = done; heads = outer }) fs ≡ Some t
    → Keeps (ClosesRound c) tail hs (record { bracket = Round o; done = done; heads = outer } ∷ fs) t
within-kept c o Begin [] done outer fs t e = emptied-kept c o done outer fs t e
within-kept c o Begin (h ∷ hs) done outer fs t e = cc
within-kept c o tail hs done outer fs t e = filled-kept c o tail (simple_of tail) hs done outer fs t refl e

round-kept : (c : Place) (k : Bracket) (tail : Tail) (hs : List Head) (done : List Done) (outer : List Head) (fs : List Frame) (t : State)
    → derived.round_closed c k tail hs (record { bracket = k; done = done; heads = outer }) fs ≡ Some t
    → Keeps (ClosesRound c) tail hs (record { bracket = k; done = done; heads = outer } ∷ fs) t
round-kept c (Round o) tail hs done outer fs t e = within-kept c o tail hs done outer fs t e
round-kept c (Square path o) tail hs done outer fs t e = cc

square-kept : (c : Place) (k : Bracket) (tail : Tail) (v : Option SimpleType) (hs : List Head) (done : List Done) (outer : List Head) (fs : List Frame) (t : State)
    → derived.square_closed c k v hs (record { bracket = k; done = done; heads = outer }) fs ≡ Some t
    → Keeps (ClosesSquare c) tail hs (record { bracket = k; done = done; heads = outer } ∷ fs) t
square-kept c (Square path o) tail (Some simple) hs done outer [] t e = keeps-some _ _ _ _ _ t e (sym (and-true (is_empty outer && true)))
square-kept c (Square path o) tail (Some simple) hs done outer (g ∷ fs) t e = keeps-some _ _ _ _ _ t e (sym (and-true (can_within g fs)))
square-kept c (Square path o) tail None hs done outer fs t e = cc
square-kept c (Round o) tail v hs done outer fs t e = cc

moved-kept : (y : Seen) (tail : Tail) (hs : List Head) (fs : List Frame) (t : State) → moved y tail hs fs ≡ Some t → Keeps y tail hs fs t
moved-kept (AnId id) tail hs fs t e = named-kept id tail hs fs t e
moved-kept (OpensRound o) tail hs fs t e = round-opened-kept o tail hs fs t e
moved-kept (ClosesRound c) tail hs [] t e = cc
moved-kept (ClosesRound c) tail hs (f ∷ fs) t e = round-kept c f.bracket tail hs f.done f.heads fs t e
moved-kept (OpensSquare o) tail hs fs t e = square-opened-kept o tail hs fs t e
moved-kept (ClosesSquare c) tail hs [] t e = cc
moved-kept (ClosesSquare c) tail hs (f ∷ fs) t e = square-kept c f.bracket tail (simple_of tail) hs f.done f.heads fs t e
moved-kept (AComma c) tail hs fs t e = parted-kept c tail (simple_of tail) hs fs t e
moved-kept (ADot d) tail hs fs t e = dotted-kept d tail hs fs t e
moved-kept (AnArrow a) tail hs fs t e = pushed-kept a tail (head_of a tail) hs fs t e
moved-kept (ATypeWord w) tail hs fs t e = singled-kept w tail hs fs t e
moved-kept (Another x) tail hs fs t e = cc

step-keeps : (s : State) (x : Lexeme) (t : State) → step s x ≡ Some t → can_be_simple t ≡ (can_be_simple s && not (leaves (seen x) s.frames s.tail))
step-keeps s x t e = (moved-kept (seen x) s.tail s.heads s.frames t e).same

-- a Simple can still come of it
pub simple-can : (s : State) (x : Lexeme) (t : State) → simple_step s x ≡ Some t → can_be_simple s ≡ true → can_be_simple t ≡ true
simple-can s x t e p = go (leaves (seen x) s.frames s.tail) refl e where
  go : (b : Bool) → leaves (seen x) s.frames s.tail ≡ b → goes b (step s x) ≡ Some t → can_be_simple t ≡ true
  go true f g = cc
  go false f g = step-keeps s x t g ∙ ap (λ b. can_be_simple s && not b) f ∙ and-true (can_be_simple s) ∙ p

-- what goes on as a Simple is a step of the types
pub simple-step-is : (s : State) (x : Lexeme) (t : State) → simple_step s x ≡ Some t → step s x ≡ Some t
simple-step-is s x t e = go (leaves (seen x) s.frames s.tail) e where
  go : (b : Bool) → goes b (step s x) ≡ Some t → step s x ≡ Some t
  go true g = cc
  go false g = g

both : (x y : Bool) → (x && not y) ≡ true → (x ≡ true) × (y ≡ false)
both true true e = cc
both true false e = (refl, refl)
both false y e = cc

record Lifted (xs : List Lexeme) (s t : State) : Type 0 where
  runs : run simple_step xs s ≡ Some t
  can : can_be_simple s ≡ true

-- what leads to a Simple leads there by its steps
lifted : (xs : List Lexeme) (s t : State) → run step xs s ≡ Some t → can_be_simple t ≡ true → Lifted xs s t
lifted [] s t e p = record { runs = e; can = (let same : s ≡ t = cc in ap can_be_simple same ∙ p) }
lifted (x ∷ xs) s t e p = go (step s x) refl e (λ u r. lifted xs u t r p) where
  go : (o : Option State) → step s x ≡ o → onward o None (run step xs) ≡ Some t → ((u : State) → run step xs u ≡ Some t → Lifted xs u t) → Lifted (x ∷ xs) s t
  go None was g on = cc
  go (Some u) was g on =
      let rest = on u g in
      let k = both (can_be_simple s) (leaves (seen x) s.frames s.tail) (sym (step-keeps s x u was) ∙ rest.can) in
      let first : simple_step s x ≡ Some u = ap (λ b. goes b (step s x)) k.1 ∙ was in
      record { runs = ap (λ o. onward o None (run simple_step xs)) first ∙ rest.runs; can = k.0 }

abbrev pub type_begun : State
type_begun = at [] [] Begin

tail-can : (simple : SimpleType) → can_be_simple (at [] [] (simple_tail simple)) ≡ true
tail-can simple = go (simple_tail simple) (simple-there simple) where
  go : (tail : Tail) → simple_of tail ≡ Some simple → may_end tail ≡ true
  go (AtNone o c) e = cc
  go (AtTypes o types c) e = ap is_some e
  go _ e = refl

-- the tokens of a Simple lead there
pub simple-runs : (simple : SimpleType) → run simple_step (simple_tokens simple) type_begun ≡ Some (at [] [] (simple_tail simple))
simple-runs simple =
    (lifted (simple_tokens simple) type_begun (at [] [] (simple_tail simple))
    (ap (λ ys. run step ys type_begun) (sym (append-nil (simple_tokens simple))) ∙ (simple-along simple [] []).runs []) (tail-can simple)).runs
