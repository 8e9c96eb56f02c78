-- What was read is the tokens of the derivations in the state, so a whole state has a whole derivation.
use Rattle.std.proofs.Common.{◌≡◌, true, List, [], ◌∷◌, ◌++◌, Option, Some, None, refl, ap, sym, ◌∙◌, append_assoc, append-nil, subst}
use Rattle.reading_machines.specs.Machines.{run, onward}
use Rattle.source_grammar.specs.Lexemes.{Place, Lexeme, open_round, close_round, open_square, close_square, comma, dot, Arrow, arrow_token, Id, id_token, Step, QualId, steps_tokens, qual_id_tokens}
use Rattle.source_grammar.specs.Types.{WrittenType, SimpleType, TypeList, Simple, Named, InParentheses, Pair, Triple, OfPath, LastType, MoreTypes, type_tokens, simple_tokens, named_tokens, type_list_tokens}
use Rattle.parse_parts.proofs.Seen.{Seen, AnId, OpensRound, ClosesRound, OpensSquare, ClosesSquare, AComma, ADot, AnArrow, ATypeWord, Another, seen, shown_token, token-shown}
use Rattle.parse_parts.proofs.Derived.{Head, NamedHead, NoneHead, TypesHead, Tail, Begin, AtPath, AtDot, AtNamed, AtNone, AtTypes, Bracket, Round, Square, Done, Frame, State, fun_of, settled, listed, in_round, simple_of, head_of, longer, named_on, round_opened, square_opened, dotted, singled, pushed, parted, emptied, filled, round_within, round_closed, square_closed, round_ended, square_ended, moved, step, is_some, whole_at, machine, tail_tokens, head_tokens, heads_tokens, bracket_tokens, done_tokens, frames_tokens, state_tokens}

steps-longer : (steps : List Step) (s : Step) → steps_tokens (steps ++ s ∷ []) ≡ steps_tokens steps ++ dot s.point ∷ id_token s.id ∷ []
steps-longer [] s = refl
steps-longer (t ∷ steps) s = ap (λ xs. dot t.point ∷ id_token t.id ∷ xs) (steps-longer steps s)

pub longer-tokens : (path : QualId) (d : Place) (id : Id) → qual_id_tokens (longer path d id) ≡ (qual_id_tokens path ++ dot d ∷ []) ++ id_token id ∷ []
longer-tokens path d id =
    ap (λ xs. id_token path.first ∷ xs) (steps-longer path.steps (record { point = d; id = id }) ∙ sym (append_assoc (steps_tokens path.steps) (dot d ∷ []) (id_token id ∷ [])))

pub fun-tokens : (h : Head) (type : WrittenType) → type_tokens (fun_of h type) ≡ head_tokens h ++ type_tokens type
fun-tokens (NamedHead named a) type = sym (append_assoc (named_tokens named) (arrow_token a ∷ []) (type_tokens type))
fun-tokens (NoneHead o c a) type = refl
fun-tokens (TypesHead o types c a) type = ap (λ xs. open_round o ∷ xs) (sym (append_assoc (type_list_tokens types) (close_round c ∷ arrow_token a ∷ []) (type_tokens type)))

pub settled-tokens : (hs : List Head) (type : WrittenType) → type_tokens (settled hs type) ≡ heads_tokens hs ++ type_tokens type
settled-tokens [] type = refl
settled-tokens (h ∷ hs) type =
    settled-tokens hs (fun_of h type) ∙ ap (λ xs. heads_tokens hs ++ xs) (fun-tokens h type) ∙ sym (append_assoc (heads_tokens hs) (head_tokens h) (type_tokens type))

pub listed-tokens : (done : List Done) (types : TypeList) → type_list_tokens (listed done types) ≡ done_tokens done ++ type_list_tokens types
listed-tokens [] types = refl
listed-tokens (d ∷ done) types =
    listed-tokens done (MoreTypes d.type d.place types)
    ∙ ap (λ xs. done_tokens done ++ xs) (sym (append_assoc (type_tokens d.type) (comma d.place ∷ []) (type_list_tokens types)))
    ∙ sym (append_assoc (done_tokens done) (type_tokens d.type ++ comma d.place ∷ []) (type_list_tokens types))

in_round-tokens : (o : Place) (types : TypeList) (c : Place) (simple : SimpleType) → in_round o types c ≡ Some simple
    → simple_tokens simple ≡ open_round o ∷ (type_list_tokens types ++ close_round c ∷ [])
in_round-tokens o (LastType a) c simple e = let h : InParentheses o a c ≡ simple = cc in ap simple_tokens (sym h)
in_round-tokens o (MoreTypes a p (LastType b)) c simple e =
    let h : Pair o a p b c ≡ simple = cc in ap simple_tokens (sym h) ∙ ap (λ xs. open_round o ∷ xs) (sym (append_assoc (type_tokens a) _ _))
in_round-tokens o (MoreTypes a p (MoreTypes b q (LastType d))) c simple e =
    let h : Triple o a p b q d c ≡ simple = cc in
    ap simple_tokens (sym h) ∙ ap (λ xs. open_round o ∷ xs) (ap (λ xs. type_tokens a ++ comma p ∷ xs) (sym (append_assoc (type_tokens b) _ _)) ∙ sym (append_assoc (type_tokens a) _ _))
in_round-tokens o (MoreTypes a p (MoreTypes b q (MoreTypes d r types))) c simple e = cc

pub simple-tokens : (tail : Tail) (simple : SimpleType) → simple_of tail ≡ Some simple → simple_tokens simple ≡ tail_tokens tail
simple-tokens (AtPath path) simple e = let h : Named (OfPath path) ≡ simple = cc in ap simple_tokens (sym h)
simple-tokens (AtNamed named) simple e = let h : Named named ≡ simple = cc in ap simple_tokens (sym h)
simple-tokens (AtTypes o types c) simple e = in_round-tokens o types c simple e
simple-tokens _ simple e = cc

head-tokens : (a : Arrow) (tail : Tail) (h : Head) → head_of a tail ≡ Some h → head_tokens h ≡ tail_tokens tail ++ arrow_token a ∷ []
head-tokens a (AtPath path) h e = let i : NamedHead (OfPath path) a ≡ h = cc in ap head_tokens (sym i)
head-tokens a (AtNamed named) h e = let i : NamedHead named a ≡ h = cc in ap head_tokens (sym i)
head-tokens a (AtNone o c) h e = let i : NoneHead o c a ≡ h = cc in ap head_tokens (sym i)
head-tokens a (AtTypes o types c) h e =
    let i : TypesHead o types c a ≡ h = cc in ap head_tokens (sym i) ∙ ap (λ xs. open_round o ∷ xs) (sym (append_assoc (type_list_tokens types) _ _))
head-tokens a _ h e = cc

-- the tokens of this state
abbrev pub tokens_in : State → List Lexeme
tokens_in s = state_tokens s.frames s.heads s.tail

-- the state that a step gives has this token behind the others
abbrev Adds : Option State → List Lexeme → Lexeme → Type 0
Adds o xs x = (s : State) → o ≡ Some s → tokens_in s ≡ xs ++ x ∷ []

adds-none : (xs : List Lexeme) (x : Lexeme) → Adds None xs x
adds-none xs x s e = cc

adds-some : (s : State) (xs : List Lexeme) (x : Lexeme) → tokens_in s ≡ xs ++ x ∷ [] → Adds (Some s) xs x
adds-some s xs x h t e = let same : s ≡ t = cc in ap tokens_in (sym same) ∙ h

-- the tail alone has one token more
at-tail : (fs : List Frame) (hs : List Head) (old : List Lexeme) (new : List Lexeme) (x : Lexeme) → new ≡ old ++ x ∷ []
    → frames_tokens fs ++ (heads_tokens hs ++ new) ≡ (frames_tokens fs ++ (heads_tokens hs ++ old)) ++ x ∷ []
at-tail fs hs old new x e =
    ap (λ ys. frames_tokens fs ++ (heads_tokens hs ++ ys)) e ∙ ap (λ ys. frames_tokens fs ++ ys) (sym (append_assoc (heads_tokens hs) old (x ∷ [])))
    ∙ sym (append_assoc (frames_tokens fs) (heads_tokens hs ++ old) (x ∷ []))

named_on-adds : (id : Id) (tail : Tail) (hs : List Head) (fs : List Frame) → Adds (named_on id tail hs fs) (state_tokens fs hs tail) (id_token id)
named_on-adds id Begin hs fs = adds-some _ _ _ (at-tail fs hs [] _ (id_token id) refl)
named_on-adds id (AtDot path d) hs fs = adds-some _ _ _ (at-tail fs hs _ _ (id_token id) (longer-tokens path d id))
named_on-adds id _ hs fs = adds-none _ _

dotted-adds : (d : Place) (tail : Tail) (hs : List Head) (fs : List Frame) → Adds (dotted d tail hs fs) (state_tokens fs hs tail) (dot d)
dotted-adds d (AtPath path) hs fs = adds-some _ _ _ (at-tail fs hs _ _ (dot d) refl)
dotted-adds d _ hs fs = adds-none _ _

singled-adds : (w : Place) (tail : Tail) (hs : List Head) (fs : List Frame) → Adds (singled w tail hs fs) (state_tokens fs hs tail) (shown_token (ATypeWord w))
singled-adds w (AtDot path d) hs fs = adds-some _ _ _ (at-tail fs hs _ _ _ (sym (append_assoc (qual_id_tokens path) (dot d ∷ []) _)))
singled-adds w _ hs fs = adds-none _ _

-- a bracket is opened
framed : (fs : List Frame) (hs : List Head) (old bracket : List Lexeme) (x : Lexeme) → bracket ≡ old ++ x ∷ []
    → (frames_tokens fs ++ (heads_tokens hs ++ (bracket ++ []))) ++ ([] ++ []) ≡ (frames_tokens fs ++ (heads_tokens hs ++ old)) ++ x ∷ []
framed fs hs old bracket x e = append-nil _ ∙ at-tail fs hs old (bracket ++ []) x (append-nil bracket ∙ e)

round_opened-adds : (o : Place) (tail : Tail) (hs : List Head) (fs : List Frame) → Adds (round_opened o tail hs fs) (state_tokens fs hs tail) (open_round o)
round_opened-adds o Begin hs fs = adds-some _ _ _ (framed fs hs [] _ (open_round o) refl)
round_opened-adds o _ hs fs = adds-none _ _

square_opened-adds : (o : Place) (tail : Tail) (hs : List Head) (fs : List Frame) → Adds (square_opened o tail hs fs) (state_tokens fs hs tail) (open_square o)
square_opened-adds o (AtPath path) hs fs = adds-some _ _ _ (framed fs hs _ _ (open_square o) refl)
square_opened-adds o _ hs fs = adds-none _ _

pushed-adds : (a : Arrow) (tail : Tail) (o : Option Head) (hs : List Head) (fs : List Frame) → head_of a tail ≡ o
    → Adds (pushed o hs fs) (state_tokens fs hs tail) (arrow_token a)
pushed-adds a tail None hs fs e = adds-none _ _
pushed-adds a tail (Some h) hs fs e =
    adds-some _ _ _ (ap (λ ys. frames_tokens fs ++ ys) (append-nil _) ∙ ap (λ ys. frames_tokens fs ++ ys) (ap (λ ys. heads_tokens hs ++ ys) (head-tokens a tail h e))
    ∙ at-tail fs hs (tail_tokens tail) _ (arrow_token a) refl)

-- the type that ends at a tail
typed-tokens : (hs : List Head) (tail : Tail) (simple : SimpleType) → simple_of tail ≡ Some simple
    → type_tokens (settled hs (Simple simple)) ≡ heads_tokens hs ++ tail_tokens tail
typed-tokens hs tail simple e = settled-tokens hs (Simple simple) ∙ ap (λ ys. heads_tokens hs ++ ys) (simple-tokens tail simple e)

parted-adds : (c : Place) (tail : Tail) (o : Option SimpleType) (hs : List Head) (fs : List Frame) → simple_of tail ≡ o
    → Adds (parted c o hs fs) (state_tokens fs hs tail) (comma c)
parted-adds c tail None hs fs e = adds-none _ _
parted-adds c tail (Some simple) hs [] e = adds-none _ _
parted-adds c tail (Some simple) hs (f ∷ fs) e =
    adds-some _ _ _ (append-nil _ ∙ rw (typed-tokens hs tail simple e) (simp append_assoc))

-- what stands in a bracket, up to the token that closes it
within : (fs : List Frame) (b : Bracket) (done : List Done) (outer hs : List Head) (tail : Tail) (simple : SimpleType) (x : Lexeme) → simple_of tail ≡ Some simple
    → frames_tokens fs ++ (heads_tokens outer ++ (bracket_tokens b ++ (type_list_tokens (listed done (LastType (settled hs (Simple simple)))) ++ x ∷ [])))
    ≡ state_tokens (record { bracket = b; done = done; heads = outer } ∷ fs) hs tail ++ x ∷ []
within fs b done outer hs tail simple x e =
    rw (listed-tokens done (LastType (settled hs (Simple simple))), typed-tokens hs tail simple e) (simp append_assoc)

emptied-adds : (o c : Place) (done : List Done) (outer : List Head) (fs : List Frame)
    → Adds (emptied o c done outer fs) (state_tokens (record { bracket = Round o; done = done; heads = outer } ∷ fs) [] Begin) (close_round c)
emptied-adds o c [] outer fs =
    adds-some _ _ _ (at-tail fs outer (open_round o ∷ []) _ (close_round c) refl ∙ ap (λ ys. ys ++ close_round c ∷ []) (sym (append-nil _)))
emptied-adds o c (d ∷ done) outer fs = adds-none _ _

filled-adds : (o c : Place) (tail : Tail) (s : Option SimpleType) (hs : List Head) (done : List Done) (outer : List Head) (fs : List Frame) → simple_of tail ≡ s
    → Adds (filled o c s hs (record { bracket = Round o; done = done; heads = outer }) fs)
    (state_tokens (record { bracket = Round o; done = done; heads = outer } ∷ fs) hs tail) (close_round c)
filled-adds o c tail None hs done outer fs e = adds-none _ _
filled-adds o c tail (Some simple) hs done outer fs e = adds-some _ _ _ (within fs (Round o) done outer hs tail simple (close_round c) e)

round_within-adds : (o c : Place) (tail : Tail) (hs : List Head) (done : List Done) (outer : List Head) (fs : List Frame)
    → Adds (round_within o c tail hs (record { bracket = Round o; done = done; heads = outer }) fs)
    (state_tokens (record { bracket = Round o; done = done; heads = outer } ∷ fs) hs tail) (close_round c)
round_within-adds o c Begin [] done outer fs = emptied-adds o c done outer fs
round_within-adds o c tail hs done outer fs = filled-adds o c tail (simple_of tail) hs done outer fs refl

round_closed-adds : (c : Place) (b : Bracket) (tail : Tail) (hs : List Head) (done : List Done) (outer : List Head) (fs : List Frame)
    → Adds (round_closed c b tail hs (record { bracket = b; done = done; heads = outer }) fs)
    (state_tokens (record { bracket = b; done = done; heads = outer } ∷ fs) hs tail) (close_round c)
round_closed-adds c (Round o) tail hs done outer fs = round_within-adds o c tail hs done outer fs
round_closed-adds c (Square path o) tail hs done outer fs = adds-none _ _

square_closed-adds : (c : Place) (b : Bracket) (tail : Tail) (s : Option SimpleType) (hs : List Head) (done : List Done) (outer : List Head) (fs : List Frame) → simple_of tail ≡ s
    → Adds (square_closed c b s hs (record { bracket = b; done = done; heads = outer }) fs)
    (state_tokens (record { bracket = b; done = done; heads = outer } ∷ fs) hs tail) (close_square c)
square_closed-adds c (Square path o) tail (Some simple) hs done outer fs e =
    adds-some _ _ _ (ap (λ ys. frames_tokens fs ++ (heads_tokens outer ++ ys)) (sym (append_assoc (qual_id_tokens path) (open_square o ∷ []) _))
    ∙ within fs (Square path o) done outer hs tail simple (close_square c) e)
square_closed-adds c _ tail s hs done outer fs e = adds-none _ _

round_ended-adds : (c : Place) (tail : Tail) (hs : List Head) (fs : List Frame) → Adds (round_ended c tail hs fs) (state_tokens fs hs tail) (close_round c)
round_ended-adds c tail hs [] = adds-none _ _
round_ended-adds c tail hs (f ∷ fs) = round_closed-adds c f.bracket tail hs f.done f.heads fs

square_ended-adds : (c : Place) (tail : Tail) (hs : List Head) (fs : List Frame) → Adds (square_ended c tail hs fs) (state_tokens fs hs tail) (close_square c)
square_ended-adds c tail hs [] = adds-none _ _
square_ended-adds c tail hs (f ∷ fs) = square_closed-adds c f.bracket tail (simple_of tail) hs f.done f.heads fs refl

moved-adds : (y : Seen) (tail : Tail) (hs : List Head) (fs : List Frame) → Adds (moved y tail hs fs) (state_tokens fs hs tail) (shown_token y)
moved-adds (AnId id) tail hs fs = named_on-adds id tail hs fs
moved-adds (OpensRound o) tail hs fs = round_opened-adds o tail hs fs
moved-adds (ClosesRound c) tail hs fs = round_ended-adds c tail hs fs
moved-adds (OpensSquare o) tail hs fs = square_opened-adds o tail hs fs
moved-adds (ClosesSquare c) tail hs fs = square_ended-adds c tail hs fs
moved-adds (AComma c) tail hs fs = parted-adds c tail (simple_of tail) hs fs refl
moved-adds (ADot d) tail hs fs = dotted-adds d tail hs fs
moved-adds (AnArrow a) tail hs fs = pushed-adds a tail (head_of a tail) hs fs refl
moved-adds (ATypeWord w) tail hs fs = singled-adds w tail hs fs
moved-adds (Another x) tail hs fs = adds-none _ _

pub step-adds : (s : State) (x : Lexeme) (t : State) → step s x ≡ Some t → tokens_in t ≡ tokens_in s ++ x ∷ []
step-adds s x t e = moved-adds (seen x) s.tail s.heads s.frames t e ∙ ap (λ y. tokens_in s ++ y ∷ []) (token-shown x)

run-adds : (xs : List Lexeme) (s t : State) → run step xs s ≡ Some t → tokens_in t ≡ tokens_in s ++ xs
run-adds [] s t e = let same : s ≡ t = cc in ap tokens_in (sym same) ∙ sym (append-nil (tokens_in s))
run-adds (x ∷ xs) s t e = go (step s x) refl e (λ u r. run-adds xs u t r) where
  go : (o : Option State) → step s x ≡ o → onward o None (run step xs) ≡ Some t → ((u : State) → run step xs u ≡ Some t → tokens_in t ≡ tokens_in u ++ xs)
      → tokens_in t ≡ tokens_in s ++ x ∷ xs
  go None was e on = cc
  go (Some u) was e on = on u e ∙ ap (λ ys. ys ++ xs) (step-adds s x u was) ∙ append_assoc (tokens_in s) (x ∷ []) xs

-- the type that was read, in a whole state
pub record Whole (s : State) : Type 0 where
  pub simple : SimpleType
  pub alone : s.frames ≡ []
  pub ends : simple_of s.tail ≡ Some simple

pub whole-is : (s : State) → whole_at s.frames s.tail ≡ true → Whole s
whole-is s e = go s.frames (simple_of s.tail) refl refl e where
  go : (fs : List Frame) (o : Option SimpleType) → s.frames ≡ fs → simple_of s.tail ≡ o → whole_at s.frames s.tail ≡ true → Whole s
  go [] (Some simple) f o e = record { simple = simple; alone = f; ends = o }
  go [] None f o e =
      let g : whole_at [] s.tail ≡ true = subst (λ k. whole_at k s.tail ≡ true) f e in
      let h : is_some {A = SimpleType} None ≡ true = subst (λ k. is_some k ≡ true) o g in cc
  go (k ∷ fs) o f was e = let g : whole_at (k ∷ fs) s.tail ≡ true = subst (λ k. whole_at k s.tail ≡ true) f e in cc

abbrev pub type_read : List Head → SimpleType → WrittenType
type_read hs simple = settled hs (Simple simple)

pub whole-tokens : (xs : List Lexeme) (s : State) → run step xs (machine).start ≡ Some s → (w : Whole s) → xs ≡ type_tokens (type_read s.heads w.simple)
whole-tokens xs s r w =
    sym (run-adds xs (machine).start s r) ∙ ap (λ fs. state_tokens fs s.heads s.tail) w.alone ∙ sym (typed-tokens s.heads s.tail w.simple w.ends)
