-- The machine that reads types, over the derivations that the tokens so far are parts of.
use Rattle.std.proofs.Common.{Bool, true, false, List, [], ◌∷◌, ◌++◌, Option, Some, None}
use Rattle.reading_machines.specs.Machines.{Machine}
use Rattle.source_grammar.specs.Lexemes.{Place, Lexeme, open_round, close_round, open_square, comma, dot, Arrow, arrow_token, Id, QualId, qual_id_tokens}
use Rattle.source_grammar.specs.Types.{WrittenType, SimpleType, NamedType, TypeList, FunOfNamed, FunOfNone, FunOfTypes, Simple, Named, InParentheses, Pair, Triple, OfPath, Applied, Singleton, LastType, MoreTypes, type_tokens, named_tokens, type_list_tokens}
use Rattle.parse_parts.proofs.Seen.{Seen, AnId, OpensRound, ClosesRound, OpensSquare, ClosesSquare, AComma, ADot, AnArrow, ATypeWord, Another, seen}

-- what stands before an arrow, with the arrow
pub data Head : Type 0 where
  NamedHead : NamedType → Arrow → Head
  NoneHead : Place → Place → Arrow → Head
  TypesHead : Place → TypeList → Place → Arrow → Head

-- what was read since the last arrow, comma or opening bracket
pub data Tail : Type 0 where
  Begin : Tail
  AtPath : QualId → Tail
  AtDot : QualId → Place → Tail
  AtNamed : NamedType → Tail
  AtNone : Place → Place → Tail
  AtTypes : Place → TypeList → Place → Tail

pub data Bracket : Type 0 where
  Round : Place → Bracket
  Square : QualId → Place → Bracket

pub record Done : Type 0 where
  pub type : WrittenType
  pub place : Place

-- an open bracket, the types in it before the last comma, the last one first, and the heads before it, the innermost first
pub record Frame : Type 0 where
  pub bracket : Bracket
  pub done : List Done
  pub heads : List Head

pub record State : Type 0 where
  pub frames : List Frame
  pub heads : List Head
  pub tail : Tail

-- ---- derivations of what was read

abbrev pub fun_of : Head → WrittenType → WrittenType
fun_of (NamedHead named a) result = FunOfNamed named a result
fun_of (NoneHead o c a) result = FunOfNone o c a result
fun_of (TypesHead o types c a) result = FunOfTypes o types c a result

abbrev pub settled : List Head → WrittenType → WrittenType
settled [] type = type
settled (h ∷ hs) type = settled hs (fun_of h type)

abbrev pub listed : List Done → TypeList → TypeList
listed [] types = types
listed (d ∷ done) types = listed done (MoreTypes d.type d.place types)

abbrev pub in_round : Place → TypeList → Place → Option SimpleType
in_round o (LastType a) c = Some (InParentheses o a c)
in_round o (MoreTypes a p (LastType b)) c = Some (Pair o a p b c)
in_round o (MoreTypes a p (MoreTypes b q (LastType d))) c = Some (Triple o a p b q d c)
in_round o (MoreTypes a p (MoreTypes b q (MoreTypes d r types))) c = None

abbrev pub simple_of : Tail → Option SimpleType
simple_of (AtPath path) = Some (Named (OfPath path))
simple_of (AtNamed named) = Some (Named named)
simple_of (AtTypes o types c) = in_round o types c
simple_of _ = None

abbrev pub head_of : Arrow → Tail → Option Head
head_of a (AtPath path) = Some (NamedHead (OfPath path) a)
head_of a (AtNamed named) = Some (NamedHead named a)
head_of a (AtNone o c) = Some (NoneHead o c a)
head_of a (AtTypes o types c) = Some (TypesHead o types c a)
head_of a _ = None

-- ---- steps

abbrev pub longer : QualId → Place → Id → QualId
longer path d id = record { first = path.first; steps = path.steps ++ record { point = d; id = id } ∷ [] }

abbrev pub named_on : Id → Tail → List Head → List Frame → Option State
named_on id Begin hs fs = Some (record { frames = fs; heads = hs; tail = AtPath (record { first = id; steps = [] }) })
named_on id (AtDot path d) hs fs = Some (record { frames = fs; heads = hs; tail = AtPath (longer path d id) })
named_on id _ hs fs = None

abbrev pub round_opened : Place → Tail → List Head → List Frame → Option State
round_opened o Begin hs fs = Some (record { frames = record { bracket = Round o; done = []; heads = hs } ∷ fs; heads = []; tail = Begin })
round_opened o _ hs fs = None

abbrev pub square_opened : Place → Tail → List Head → List Frame → Option State
square_opened o (AtPath path) hs fs = Some (record { frames = record { bracket = Square path o; done = []; heads = hs } ∷ fs; heads = []; tail = Begin })
square_opened o _ hs fs = None

abbrev pub dotted : Place → Tail → List Head → List Frame → Option State
dotted d (AtPath path) hs fs = Some (record { frames = fs; heads = hs; tail = AtDot path d })
dotted d _ hs fs = None

abbrev pub singled : Place → Tail → List Head → List Frame → Option State
singled w (AtDot path d) hs fs = Some (record { frames = fs; heads = hs; tail = AtNamed (Singleton path d w) })
singled w _ hs fs = None

abbrev pub pushed : Option Head → List Head → List Frame → Option State
pushed None hs fs = None
pushed (Some h) hs fs = Some (record { frames = fs; heads = h ∷ hs; tail = Begin })

abbrev pub parted : Place → Option SimpleType → List Head → List Frame → Option State
parted c None hs fs = None
parted c (Some simple) hs [] = None
parted c (Some simple) hs (f ∷ fs) = Some (record {
  frames = record { bracket = f.bracket; done = record { type = settled hs (Simple simple); place = c } ∷ f.done; heads = f.heads } ∷ fs;
  heads = [];
  tail = Begin;
})

abbrev pub emptied : Place → Place → List Done → List Head → List Frame → Option State
emptied o c [] outer fs = Some (record { frames = fs; heads = outer; tail = AtNone o c })
emptied o c (d ∷ done) outer fs = None

abbrev pub filled : Place → Place → Option SimpleType → List Head → Frame → List Frame → Option State
filled o c None hs f fs = None
filled o c (Some simple) hs f fs = Some (record { frames = fs; heads = f.heads; tail = AtTypes o (listed f.done (LastType (settled hs (Simple simple)))) c })

abbrev pub round_within : Place → Place → Tail → List Head → Frame → List Frame → Option State
round_within o c Begin [] f fs = emptied o c f.done f.heads fs
round_within o c tail hs f fs = filled o c (simple_of tail) hs f fs

abbrev pub round_closed : Place → Bracket → Tail → List Head → Frame → List Frame → Option State
round_closed c (Round o) tail hs f fs = round_within o c tail hs f fs
round_closed c (Square path o) tail hs f fs = None

abbrev pub square_closed : Place → Bracket → Option SimpleType → List Head → Frame → List Frame → Option State
square_closed c (Square path o) (Some simple) hs f fs =
    Some (record { frames = fs; heads = f.heads; tail = AtNamed (Applied path o (listed f.done (LastType (settled hs (Simple simple)))) c) })
square_closed c _ _ hs f fs = None

abbrev pub round_ended : Place → Tail → List Head → List Frame → Option State
round_ended c tail hs [] = None
round_ended c tail hs (f ∷ fs) = round_closed c f.bracket tail hs f fs

abbrev pub square_ended : Place → Tail → List Head → List Frame → Option State
square_ended c tail hs [] = None
square_ended c tail hs (f ∷ fs) = square_closed c f.bracket (simple_of tail) hs f fs

abbrev pub moved : Seen → Tail → List Head → List Frame → Option State
moved (AnId id) tail hs fs = named_on id tail hs fs
moved (OpensRound o) tail hs fs = round_opened o tail hs fs
moved (ClosesRound c) tail hs fs = round_ended c tail hs fs
moved (OpensSquare o) tail hs fs = square_opened o tail hs fs
moved (ClosesSquare c) tail hs fs = square_ended c tail hs fs
moved (AComma c) tail hs fs = parted c (simple_of tail) hs fs
moved (ADot d) tail hs fs = dotted d tail hs fs
moved (AnArrow a) tail hs fs = pushed (head_of a tail) hs fs
moved (ATypeWord w) tail hs fs = singled w tail hs fs
moved (Another x) tail hs fs = None

abbrev pub step : State → Lexeme → Option State
step s x = moved (seen x) s.tail s.heads s.frames

abbrev pub is_some : {A : Type 0} → Option A → Bool
is_some None = false
is_some (Some a) = true

abbrev pub whole_at : List Frame → Tail → Bool
whole_at [] tail = is_some (simple_of tail)
whole_at (f ∷ fs) tail = false

abbrev pub machine : Machine State Lexeme
machine = record {
  start = record { frames = []; heads = []; tail = Begin };
  step = step;
  whole = λ s. whole_at s.frames s.tail;
}

-- ---- the tokens of what was read

abbrev pub tail_tokens : Tail → List Lexeme
tail_tokens Begin = []
tail_tokens (AtPath path) = qual_id_tokens path
tail_tokens (AtDot path d) = qual_id_tokens path ++ dot d ∷ []
tail_tokens (AtNamed named) = named_tokens named
tail_tokens (AtNone o c) = open_round o ∷ close_round c ∷ []
tail_tokens (AtTypes o types c) = open_round o ∷ (type_list_tokens types ++ close_round c ∷ [])

abbrev pub head_tokens : Head → List Lexeme
head_tokens (NamedHead named a) = named_tokens named ++ arrow_token a ∷ []
head_tokens (NoneHead o c a) = open_round o ∷ close_round c ∷ arrow_token a ∷ []
head_tokens (TypesHead o types c a) = open_round o ∷ (type_list_tokens types ++ close_round c ∷ arrow_token a ∷ [])

abbrev pub heads_tokens : List Head → List Lexeme
heads_tokens [] = []
heads_tokens (h ∷ hs) = heads_tokens hs ++ head_tokens h

abbrev pub bracket_tokens : Bracket → List Lexeme
bracket_tokens (Round o) = open_round o ∷ []
bracket_tokens (Square path o) = qual_id_tokens path ++ open_square o ∷ []

abbrev pub done_tokens : List Done → List Lexeme
done_tokens [] = []
done_tokens (d ∷ done) = done_tokens done ++ (type_tokens d.type ++ comma d.place ∷ [])

abbrev pub frames_tokens : List Frame → List Lexeme
frames_tokens [] = []
frames_tokens (f ∷ fs) = frames_tokens fs ++ (heads_tokens f.heads ++ (bracket_tokens f.bracket ++ done_tokens f.done))

abbrev pub state_tokens : List Frame → List Head → Tail → List Lexeme
state_tokens fs hs tail = frames_tokens fs ++ (heads_tokens hs ++ tail_tokens tail)
