-- The tokens of a derivation lead the machine from where a type may begin to where this type was read, whatever stands around it and behind it.
use Rattle.std.proofs.Common.{◌≡◌, List, [], ◌∷◌, ◌++◌, Some, None, refl, ap, sym, ◌∙◌, append_assoc, append-nil}
use Rattle.reading_machines.specs.Machines.{run, onward}
use Rattle.source_grammar.specs.Lexemes.{Place, Lexeme, open_round, close_round, open_square, close_square, comma, dot, Arrow, arrow_token, Id, id_token, Step, QualId, steps_tokens, qual_id_tokens}
use Rattle.source_grammar.specs.Types.{WrittenType, SimpleType, NamedType, TypeList, FunOfNamed, FunOfNone, FunOfTypes, Simple, Named, InParentheses, Pair, Triple, OfPath, Applied, Singleton, LastType, MoreTypes, type_tokens, simple_tokens, named_tokens, type_list_tokens}
use Rattle.parse_parts.proofs.Seen.{seen-id, seen-arrow}
use Rattle.parse_parts.proofs.Derived.{Head, NamedHead, NoneHead, TypesHead, Tail, Begin, AtPath, AtDot, AtNamed, AtNone, AtTypes, Bracket, Round, Square, Done, Frame, State, settled, listed, simple_of, head_of, named_on, pushed, parted, filled, round_within, square_closed, moved, step}

abbrev pub at : List Frame → List Head → Tail → State
at fs hs tail = record { frames = fs; heads = hs; tail = tail }

abbrev pub frame : Bracket → List Done → List Head → Frame
frame b done outer = record { bracket = b; done = done; heads = outer }

-- these tokens lead from one state to another, whatever follows
pub record Leads (ts : List Lexeme) (s t : State) : Type 0 where
  pub runs : (xs : List Lexeme) → run step (ts ++ xs) s ≡ run step xs t

pub leads-none : (s : State) → Leads [] s s
leads-none s = record { runs = λ xs. refl }

pub leads-then : (front bs : List Lexeme) (s t u : State) → Leads front s t → Leads bs t u → Leads (front ++ bs) s u
leads-then front bs s t u p q = record { runs = λ xs. ap (λ ys. run step ys s) (append_assoc front bs xs) ∙ p.runs (bs ++ xs) ∙ q.runs xs }

pub leads-on : (x : Lexeme) (bs : List Lexeme) (s t u : State) → step s x ≡ Some t → Leads bs t u → Leads (x ∷ bs) s u
leads-on x bs s t u e q = record { runs = λ xs. ap (λ o. onward o None (run step (bs ++ xs))) e ∙ q.runs xs }

pub leads-one : (x : Lexeme) (s t : State) → step s x ≡ Some t → Leads (x ∷ []) s t
leads-one x s t e = leads-on x [] s t t e (leads-none t)

pub leads-to : (ts : List Lexeme) (s t u : State) → t ≡ u → Leads ts s t → Leads ts s u
leads-to ts s t u e p = record { runs = λ xs. p.runs xs ∙ ap (run step xs) e }

pub id-step : (id : Id) (s : State) → step s (id_token id) ≡ named_on id s.tail s.heads s.frames
id-step id s = ap (λ y. moved y s.tail s.heads s.frames) (seen-id id)

pub arrow-step : (a : Arrow) (s : State) → step s (arrow_token a) ≡ pushed (head_of a s.tail) s.heads s.frames
arrow-step a s = ap (λ y. moved y s.tail s.heads s.frames) (seen-arrow a)

pub arrow-head : (a : Arrow) (fs : List Frame) (hs : List Head) (tail : Tail) (h : Head) → head_of a tail ≡ Some h
    → step (at fs hs tail) (arrow_token a) ≡ Some (at fs (h ∷ hs) Begin)
arrow-head a fs hs tail h e = arrow-step a (at fs hs tail) ∙ ap (λ o. pushed o hs fs) e

-- ---- paths

steps-along : (steps : List Step) (fs : List Frame) (hs : List Head) (first : Id) (before : List Step)
    → Leads (steps_tokens steps) (at fs hs (AtPath (record { first = first; steps = before }))) (at fs hs (AtPath (record { first = first; steps = before ++ steps })))
steps-along [] fs hs first before =
    leads-to [] _ _ _ (ap (λ all. at fs hs (AtPath (record { first = first; steps = all }))) (sym (append-nil before))) (leads-none _)
steps-along (s ∷ steps) fs hs first before =
    let here : State = at fs hs (AtPath (record { first = first; steps = before })) in
    let dotted : State = at fs hs (AtDot (record { first = first; steps = before }) s.point) in
    let next : State = at fs hs (AtPath (record { first = first; steps = before ++ s ∷ [] })) in
    leads-to _ here _ _ (ap (λ all. at fs hs (AtPath (record { first = first; steps = all }))) (append_assoc before (s ∷ []) steps))
    (leads-on (dot s.point) _ here dotted _ refl
    (leads-on (id_token s.id) _ dotted next _ (id-step s.id dotted) (steps-along steps fs hs first (before ++ s ∷ []))))

pub path-along : (path : QualId) (fs : List Frame) (hs : List Head) → Leads (qual_id_tokens path) (at fs hs Begin) (at fs hs (AtPath path))
path-along path fs hs =
    leads-on (id_token path.first) _ (at fs hs Begin) (at fs hs (AtPath (record { first = path.first; steps = [] }))) _ (id-step path.first (at fs hs Begin))
    (steps-along path.steps fs hs path.first [])

-- ---- where a type was read

abbrev pub named_tail : NamedType → Tail
named_tail (OfPath path) = AtPath path
named_tail named = AtNamed named

abbrev pub simple_tail : SimpleType → Tail
simple_tail (Named named) = named_tail named
simple_tail (InParentheses o a c) = AtTypes o (LastType a) c
simple_tail (Pair o a p b c) = AtTypes o (MoreTypes a p (LastType b)) c
simple_tail (Triple o a p b q d c) = AtTypes o (MoreTypes a p (MoreTypes b q (LastType d))) c

abbrev pub last_simple : WrittenType → SimpleType
last_simple (FunOfNamed named a result) = last_simple result
last_simple (FunOfNone o c a result) = last_simple result
last_simple (FunOfTypes o types c a result) = last_simple result
last_simple (Simple simple) = simple

abbrev pub heads_of : WrittenType → List Head → List Head
heads_of (FunOfNamed named a result) hs = heads_of result (NamedHead named a ∷ hs)
heads_of (FunOfNone o c a result) hs = heads_of result (NoneHead o c a ∷ hs)
heads_of (FunOfTypes o types c a result) hs = heads_of result (TypesHead o types c a ∷ hs)
heads_of (Simple simple) hs = hs

abbrev pub last_type : TypeList → WrittenType
last_type (LastType type) = type
last_type (MoreTypes type p types) = last_type types

abbrev pub done_of : TypeList → List Done → List Done
done_of (LastType type) done = done
done_of (MoreTypes type p types) done = done_of types (record { type = type; place = p } ∷ done)

named-head : (named : NamedType) (a : Arrow) → head_of a (named_tail named) ≡ Some (NamedHead named a)
named-head (OfPath path) a = refl
named-head _ a = refl

named-simple : (named : NamedType) → simple_of (named_tail named) ≡ Some (Named named)
named-simple (OfPath path) = refl
named-simple _ = refl

pub simple-there : (simple : SimpleType) → simple_of (simple_tail simple) ≡ Some simple
simple-there (Named named) = named-simple named
simple-there _ = refl

pub settled-there : (type : WrittenType) (hs : List Head) → settled (heads_of type hs) (Simple (last_simple type)) ≡ settled hs type
settled-there (FunOfNamed named a result) hs = settled-there result (NamedHead named a ∷ hs)
settled-there (FunOfNone o c a result) hs = settled-there result (NoneHead o c a ∷ hs)
settled-there (FunOfTypes o types c a result) hs = settled-there result (TypesHead o types c a ∷ hs)
settled-there (Simple simple) hs = refl

listed-there : (types : TypeList) (done : List Done) → listed (done_of types done) (LastType (last_type types)) ≡ listed done types
listed-there (LastType type) done = refl
listed-there (MoreTypes type p types) done = listed-there types (record { type = type; place = p } ∷ done)

-- a type was read here
abbrev pub after : List Frame → List Head → WrittenType → State
after fs hs type = at fs (heads_of type hs) (simple_tail (last_simple type))

-- ---- what ends a type in brackets

pub round-filled : (o c : Place) (tail : Tail) (simple : SimpleType) (hs : List Head) (f : Frame) (fs : List Frame) → simple_of tail ≡ Some simple
    → round_within o c tail hs f fs ≡ filled o c (Some simple) hs f fs
round-filled o c Begin simple [] f fs e = cc
round-filled o c tail simple hs f fs e = ap (λ k. filled o c k hs f fs) e

round-ends : (o c : Place) (type : WrittenType) (done : List Done) (outer : List Head) (fs : List Frame)
    → step (after (frame (Round o) done outer ∷ fs) [] type) (close_round c) ≡ Some (at fs outer (AtTypes o (listed done (LastType type)) c))
round-ends o c type done outer fs =
    round-filled o c (simple_tail (last_simple type)) (last_simple type) (heads_of type []) (frame (Round o) done outer) fs (simple-there (last_simple type))
    ∙ ap (λ w. Some (at fs outer (AtTypes o (listed done (LastType w)) c))) (settled-there type [])

square-ends : (path : QualId) (o c : Place) (type : WrittenType) (done : List Done) (outer : List Head) (fs : List Frame)
    → step (after (frame (Square path o) done outer ∷ fs) [] type) (close_square c) ≡ Some (at fs outer (AtNamed (Applied path o (listed done (LastType type)) c)))
square-ends path o c type done outer fs =
    ap (λ k. square_closed c (Square path o) k (heads_of type []) (frame (Square path o) done outer) fs) (simple-there (last_simple type))
    ∙ ap (λ w. Some (at fs outer (AtNamed (Applied path o (listed done (LastType w)) c)))) (settled-there type [])

comma-ends : (b : Bracket) (p : Place) (type : WrittenType) (done : List Done) (outer : List Head) (fs : List Frame)
    → step (after (frame b done outer ∷ fs) [] type) (comma p) ≡ Some (at (frame b (record { type = type; place = p } ∷ done) outer ∷ fs) [] Begin)
comma-ends b p type done outer fs =
    ap (λ k. parted p k (heads_of type []) (frame b done outer ∷ fs)) (simple-there (last_simple type))
    ∙ ap (λ w. Some (at (frame b (record { type = w; place = p } ∷ done) outer ∷ fs) [] Begin)) (settled-there type [])

-- ---- along a derivation

mutual
  pub type-along : (type : WrittenType) (fs : List Frame) (hs : List Head) → Leads (type_tokens type) (at fs hs Begin) (after fs hs type)
  type-along (FunOfNamed named a result) fs hs =
      leads-then (named_tokens named) _ _ (at fs hs (named_tail named)) _ (named-along named fs hs)
      (leads-on (arrow_token a) _ _ (at fs (NamedHead named a ∷ hs) Begin) _ (arrow-head a fs hs (named_tail named) _ (named-head named a))
      (type-along result fs (NamedHead named a ∷ hs)))
  type-along (FunOfNone o c a result) fs hs =
      leads-on (open_round o) _ _ (at (frame (Round o) [] hs ∷ fs) [] Begin) _ refl
      (leads-on (close_round c) _ _ (at fs hs (AtNone o c)) _ refl
      (leads-on (arrow_token a) _ _ (at fs (NoneHead o c a ∷ hs) Begin) _ (arrow-head a fs hs (AtNone o c) _ refl)
      (type-along result fs (NoneHead o c a ∷ hs))))
  type-along (FunOfTypes o types c a result) fs hs =
      leads-on (open_round o) _ _ (at (frame (Round o) [] hs ∷ fs) [] Begin) _ refl
      (leads-then (type_list_tokens types) _ _ _ _ (list-along types fs (Round o) [] hs)
      (leads-on (close_round c) _ _ (at fs hs (AtTypes o types c)) _
      (round-ends o c (last_type types) (done_of types []) hs fs ∙ ap (λ ts. Some (at fs hs (AtTypes o ts c))) (listed-there types []))
      (leads-on (arrow_token a) _ _ (at fs (TypesHead o types c a ∷ hs) Begin) _ (arrow-head a fs hs (AtTypes o types c) _ refl)
      (type-along result fs (TypesHead o types c a ∷ hs)))))
  type-along (Simple simple) fs hs = simple-along simple fs hs

  pub simple-along : (simple : SimpleType) (fs : List Frame) (hs : List Head) → Leads (simple_tokens simple) (at fs hs Begin) (at fs hs (simple_tail simple))
  simple-along (Named named) fs hs = named-along named fs hs
  simple-along (InParentheses o x c) fs hs =
      leads-on (open_round o) _ _ (at (frame (Round o) [] hs ∷ fs) [] Begin) _ refl
      (leads-then (type_tokens x) _ _ _ _ (type-along x (frame (Round o) [] hs ∷ fs) []) (leads-one (close_round c) _ _ (round-ends o c x [] hs fs)))
  simple-along (Pair o x p y c) fs hs =
      let behind : Frame = frame (Round o) (record { type = x; place = p } ∷ []) hs in
      leads-on (open_round o) _ _ (at (frame (Round o) [] hs ∷ fs) [] Begin) _ refl
      (leads-then (type_tokens x) _ _ _ _ (type-along x (frame (Round o) [] hs ∷ fs) [])
      (leads-on (comma p) _ _ (at (behind ∷ fs) [] Begin) _ (comma-ends (Round o) p x [] hs fs)
      (leads-then (type_tokens y) _ _ _ _ (type-along y (behind ∷ fs) []) (leads-one (close_round c) _ _ (round-ends o c y behind.done hs fs)))))
  simple-along (Triple o x p y q z c) fs hs =
      let behind : Frame = frame (Round o) (record { type = x; place = p } ∷ []) hs in
      let beyond : Frame = frame (Round o) (record { type = y; place = q } ∷ behind.done) hs in
      leads-on (open_round o) _ _ (at (frame (Round o) [] hs ∷ fs) [] Begin) _ refl
      (leads-then (type_tokens x) _ _ _ _ (type-along x (frame (Round o) [] hs ∷ fs) [])
      (leads-on (comma p) _ _ (at (behind ∷ fs) [] Begin) _ (comma-ends (Round o) p x [] hs fs)
      (leads-then (type_tokens y) _ _ _ _ (type-along y (behind ∷ fs) [])
      (leads-on (comma q) _ _ (at (beyond ∷ fs) [] Begin) _ (comma-ends (Round o) q y behind.done hs fs)
      (leads-then (type_tokens z) _ _ _ _ (type-along z (beyond ∷ fs) []) (leads-one (close_round c) _ _ (round-ends o c z beyond.done hs fs)))))))

  pub named-along : (named : NamedType) (fs : List Frame) (hs : List Head) → Leads (named_tokens named) (at fs hs Begin) (at fs hs (named_tail named))
  named-along (OfPath path) fs hs = path-along path fs hs
  named-along (Applied path o types c) fs hs =
      leads-then (qual_id_tokens path) _ _ (at fs hs (AtPath path)) _ (path-along path fs hs)
      (leads-on (open_square o) _ _ (at (frame (Square path o) [] hs ∷ fs) [] Begin) _ refl
      (leads-then (type_list_tokens types) _ _ _ _ (list-along types fs (Square path o) [] hs)
      (leads-one (close_square c) _ _
      (square-ends path o c (last_type types) (done_of types []) hs fs ∙ ap (λ ts. Some (at fs hs (AtNamed (Applied path o ts c)))) (listed-there types [])))))
  named-along (Singleton path d w) fs hs =
      leads-then (qual_id_tokens path) _ _ (at fs hs (AtPath path)) _ (path-along path fs hs)
      (leads-on (dot d) _ _ (at fs hs (AtDot path d)) _ refl (leads-one _ _ _ refl))

  pub list-along : (types : TypeList) (fs : List Frame) (b : Bracket) (done : List Done) (outer : List Head)
      → Leads (type_list_tokens types) (at (frame b done outer ∷ fs) [] Begin) (after (frame b (done_of types done) outer ∷ fs) [] (last_type types))
  list-along (LastType type) fs b done outer = type-along type (frame b done outer ∷ fs) []
  list-along (MoreTypes type p types) fs b done outer =
      leads-then (type_tokens type) _ _ _ _ (type-along type (frame b done outer ∷ fs) [])
      (leads-on (comma p) _ _ (at (frame b (record { type = type; place = p } ∷ done) outer ∷ fs) [] Begin) _ (comma-ends b p type done outer fs)
      (list-along types fs b (record { type = type; place = p } ∷ done) outer))
