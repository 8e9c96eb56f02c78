-- The machine that reads patterns, over the derivations that the tokens so far are parts of.
use Rattle.std.proofs.Common.{Bool, true, false, ◌&&◌, if◌then◌else◌, nat_lt, List, [], ◌∷◌, ◌++◌, Option, Some, None}
use Rattle.std.specs.Prelude.{not, ◌||◌, ◌==◌}
use Rattle.reading_machines.specs.Machines.{Machine}
use Rattle.scan_tokens.specs.declared.tokens.Newline.{Newline}
use Rattle.source_grammar.specs.Lexemes.{Place, Lexeme, open_round, comma, dot, underscore, colon, at_sign, bar, Id, id_token, QualId, qual_id_tokens, Number, literal_place}
use Rattle.source_grammar.specs.Newlines.{is_near}
use Rattle.source_grammar.specs.Patterns.{Pat, Pat1, Pat3, SPat, PatList, LastAlternative, MoreAlternatives, TypedVar, TypedWild, BoundPat, InfixPat, LastOperand, MoreOperands, WildPat, VarPat, LiteralPat, MinusPat, PathPat, CallPatOfNone, CallPat, UnitPat, PatInParentheses, PairPat, TriplePat, LastPat, MorePats, pat_tokens, pat1_tokens, spat_tokens, is_var_path, is_bar}
use Rattle.source_grammar.specs.Precedence.{precedence, is_right}
use Rattle.source_grammar.specs.Types.{SimpleType}
use Rattle.parse_parts.proofs.Derived.{longer, is_some}
use Rattle.parse_parts.proofs.Derived as types
use Rattle.parse_parts.proofs.Sound.{tokens_in as type_tokens_in}
use Rattle.parse_patterns.specs.Names.{is_minus}
use Rattle.parse_patterns.specs.Operators.{same_side}
use Rattle.parse_patterns.specs.Steps.{is_no}
use Rattle.parse_patterns.proofs.Seen.{Seen, AnId, ANumber, ALiteral, AnUnderscore, AColon, AnAt, OpensRound, ClosesRound, AComma, ADot, Another, seen, literal_of}
use Rattle.parse_patterns.proofs.SimpleTypes.{simple_step, type_begun}

-- an operator with what stands before it
pub record Operation : Type 0 where
  pub left : SPat
  pub operator : Id

-- `x @`
pub record Binder : Type 0 where
  pub id : Id
  pub sign : Place

pub record Done : Type 0 where
  pub pat : Pat
  pub place : Place

-- an alternative with the stroke behind it
pub record Earlier : Type 0 where
  pub pat : Pat1
  pub stroke : Place

-- what was read since the last operator, stroke, comma or opening bracket
pub data Tail : Type 0 where
  Begin : Tail
  AtWild : Place → Tail
  AtPath : QualId → Tail
  AtDot : QualId → Place → Tail
  AtEnded : SPat → Tail

-- what stands before `:`
pub data Subject : Type 0 where
  VarSubject : Id → Subject
  WildSubject : Place → Subject

-- the alternative that is read: a type behind `:`, or operations, the last one first
pub data Current : Type 0 where
  InType : Subject → (point : Place) → types.State → Current
  InInfix : Option Binder → List Operation → Tail → Current

pub data Bracket : Type 0 where
  Call : QualId → Place → List Done → Bracket
  Group : Place → Bracket
  GroupOne : Place → Pat → Place → Bracket
  GroupTwo : Place → Pat → Place → Pat → Place → Bracket

-- an open bracket with the patterns in it before the last comma, the last one first, and what stands before it
pub record Frame : Type 0 where
  pub bracket : Bracket
  pub earlier : List Earlier
  pub binder : Option Binder
  pub operations : List Operation

pub record State : Type 0 where
  pub frames : List Frame
  pub earlier : List Earlier
  pub current : Current

-- ---- derivations of what was read

abbrev pub settled : List Operation → Pat3 → Pat3
settled [] pat = pat
settled (o ∷ os) pat = settled os (MoreOperands o.left o.operator pat)

abbrev pub bound : Option Binder → Pat3 → Pat1
bound None pat = InfixPat pat
bound (Some b) pat = BoundPat b.id b.sign pat

abbrev pub typed : Subject → Place → SimpleType → Pat1
typed (VarSubject id) point type = TypedVar id point type
typed (WildSubject place) point type = TypedWild place point type

abbrev pub alternated : List Earlier → Pat → Pat
alternated [] pat = pat
alternated (e ∷ es) pat = alternated es (MoreAlternatives e.pat e.stroke pat)

abbrev pub listed : List Done → PatList → PatList
listed [] pats = pats
listed (d ∷ done) pats = listed done (MorePats d.pat d.place pats)

abbrev pub named_pat : Bool → QualId → SPat
named_pat true path = VarPat path.first
named_pat false path = PathPat path

abbrev pub spat_of : Tail → Option SPat
spat_of (AtWild place) = Some (WildPat place)
spat_of (AtPath path) = Some (named_pat (is_var_path path.first path.steps) path)
spat_of (AtEnded spat) = Some spat
spat_of _ = None

-- the Simple that was read, where no bracket is open
abbrev pub simple_in : List types.Frame → List types.Head → types.Tail → Option SimpleType
simple_in [] [] tail = types.simple_of tail
simple_in _ _ tail = None

abbrev pub typed_at : Subject → Place → Option SimpleType → Option Pat1
typed_at s point None = None
typed_at s point (Some type) = Some (typed s point type)

abbrev pub infix_at : Option Binder → List Operation → Option SPat → Option Pat1
infix_at b os None = None
infix_at b os (Some spat) = Some (bound b (settled os (LastOperand spat)))

abbrev pub alternative_at : Current → Option Pat1
alternative_at (InType s point t) = typed_at s point (simple_in t.frames t.heads t.tail)
alternative_at (InInfix b os tail) = infix_at b os (spat_of tail)

abbrev pub pat_read : List Earlier → Pat1 → Pat
pat_read es pat = alternated es (LastAlternative pat)

-- ---- conditions

-- a pattern may begin behind this newline
abbrev pub may_stand : Option Binder → List Operation → List Earlier → Newline → Bool
may_stand b (o ∷ os) es before = is_near before
may_stand None [] (e ∷ es) before = is_no before
may_stand _ [] _ before = true

abbrev pub is_fresh : Option Binder → List Operation → Bool
is_fresh None [] = true
is_fresh _ _ = false

abbrev pub has_none : {A : Type 0} → List A → Bool
has_none [] = true
has_none (a ∷ rest) = false

abbrev pub fits : List Operation → Id → Bool
fits [] id = true
fits (o ∷ os) id =
    if nat_lt (precedence id.name) (precedence o.operator.name) then fits os id
    else (not (precedence o.operator.name == precedence id.name) || same_side (is_right o.operator.name) (is_right id.name))

-- ---- steps

abbrev pub when : {A : Type 0} → Bool → A → Option A
when true a = Some a
when false a = None

abbrev pub at : List Frame → List Earlier → Current → State
at fs es current = record { frames = fs; earlier = es; current = current }

abbrev pub fresh : Current
fresh = InInfix None [] Begin

abbrev pub ended_at : Option Binder → List Operation → List Earlier → List Frame → SPat → State
ended_at b os es fs spat = at fs es (InInfix b os (AtEnded spat))

abbrev pub framed : Bracket → Frame → List Frame → State
framed bracket f fs = at (record { bracket = bracket; earlier = f.earlier; binder = f.binder; operations = f.operations } ∷ fs) [] fresh

abbrev pub parted_in : Place → Pat → Bracket → Frame → List Frame → Option State
parted_in c pat (Call path o done) f fs = Some (framed (Call path o (record { pat = pat; place = c } ∷ done)) f fs)
parted_in c pat (Group o) f fs = Some (framed (GroupOne o pat c) f fs)
parted_in c pat (GroupOne o a p) f fs = Some (framed (GroupTwo o a p pat c) f fs)
parted_in c pat (GroupTwo o a p b q) f fs = None

abbrev pub parted : Place → Pat → List Frame → Option State
parted c pat [] = None
parted c pat (f ∷ fs) = parted_in c pat f.bracket f fs

abbrev pub closed_as : Place → Pat → Bracket → SPat
closed_as c pat (Call path o done) = CallPat path o (listed done (LastPat pat)) c
closed_as c pat (Group o) = PatInParentheses o pat c
closed_as c pat (GroupOne o a p) = PairPat o a p pat c
closed_as c pat (GroupTwo o a p b q) = TriplePat o a p b q pat c

abbrev pub closed : Place → Pat → List Frame → Option State
closed c pat [] = None
closed c pat (f ∷ fs) = Some (ended_at f.binder f.operations f.earlier fs (closed_as c pat f.bracket))

abbrev pub emptied_as : Place → Bracket → Option SPat
emptied_as c (Call path o []) = Some (CallPatOfNone path o c)
emptied_as c (Call path o (d ∷ done)) = None
emptied_as c (Group o) = Some (UnitPat o c)
emptied_as c _ = None

abbrev pub emptied_in : Option SPat → Frame → List Frame → Option State
emptied_in None f fs = None
emptied_in (Some spat) f fs = Some (ended_at f.binder f.operations f.earlier fs spat)

abbrev pub emptied : Place → List Frame → Option State
emptied c [] = None
emptied c (f ∷ fs) = emptied_in (emptied_as c f.bracket) f fs

abbrev pub barred : Place → Pat1 → List Earlier → List Frame → State
barred stroke pat es fs = at fs (record { pat = pat; stroke = stroke } ∷ es) fresh

-- the tokens behind an alternative
abbrev pub ended_by : Seen → Pat1 → List Earlier → List Frame → Option State
ended_by (AnId id) pat es fs = when (is_bar id && is_no id.place.before) (barred id.place pat es fs)
ended_by (AComma c) pat es fs = parted c (pat_read es pat) fs
ended_by (ClosesRound c) pat es fs = closed c (pat_read es pat) fs
ended_by _ pat es fs = None

abbrev pub ended : Seen → Option Pat1 → List Earlier → List Frame → Option State
ended y None es fs = None
ended y (Some pat) es fs = ended_by y pat es fs

abbrev pub operated : Bool → Id → Option Binder → List Operation → SPat → List Earlier → List Frame → Option State
operated true id b os spat es fs = Some (barred id.place (bound b (settled os (LastOperand spat))) es fs)
operated false id b os spat es fs = when (fits os id) (at fs es (InInfix b (record { left = spat; operator = id } ∷ os) Begin))

abbrev pub behind : Id → Option Binder → List Operation → Option SPat → List Earlier → List Frame → Option State
behind id b os None es fs = None
behind id b os (Some spat) es fs = if is_no id.place.before then operated (is_bar id) id b os spat es fs else None

abbrev pub named : Id → Option Binder → List Operation → Tail → List Earlier → List Frame → Option State
named id b os Begin es fs = when (may_stand b os es id.place.before) (at fs es (InInfix b os (AtPath (record { first = id; steps = [] }))))
named id b os (AtDot path d) es fs = Some (at fs es (InInfix b os (AtPath (longer path d id))))
named id b os tail es fs = behind id b os (spat_of tail) es fs

abbrev pub is_minus_path : QualId → Bool
is_minus_path path = has_none path.steps && (not (is_var_path path.first path.steps) && is_minus path.first)

-- at the beginning of a pattern
abbrev pub started : Newline → Option Binder → List Operation → Tail → Tail → List Earlier → List Frame → Option State
started before b os Begin tail es fs = when (may_stand b os es before) (at fs es (InInfix b os tail))
started before b os _ tail es fs = None

abbrev pub numbered : Number → Option Binder → List Operation → Tail → List Earlier → List Frame → Option State
numbered n b os Begin es fs = started n.place.before b os Begin (AtEnded (LiteralPat (literal_of n))) es fs
numbered n b os (AtPath path) es fs = when (is_minus_path path && is_no n.place.before) (at fs es (InInfix b os (AtEnded (MinusPat path.first.place n))))
numbered n b os _ es fs = None

abbrev pub coloned : Place → Option Binder → List Operation → Tail → List Earlier → List Frame → Option State
coloned p b os (AtWild place) es fs = when (is_fresh b os) (at fs es (InType (WildSubject place) p type_begun))
coloned p b os (AtPath path) es fs = when (is_var_path path.first path.steps && is_fresh b os) (at fs es (InType (VarSubject path.first) p type_begun))
coloned p b os _ es fs = None

abbrev pub signed : Place → Option Binder → List Operation → Tail → List Earlier → List Frame → Option State
signed p b os (AtPath path) es fs =
    when (is_var_path path.first path.steps && (is_fresh b os && is_no p.before)) (at fs es (InInfix (Some (record { id = path.first; sign = p })) [] Begin))
signed p b os _ es fs = None

abbrev pub frame_of : Bracket → Option Binder → List Operation → List Earlier → Frame
frame_of bracket b os es = record { bracket = bracket; earlier = es; binder = b; operations = os }

abbrev pub opened : Place → Option Binder → List Operation → Tail → List Earlier → List Frame → Option State
opened o b os Begin es fs = when (may_stand b os es o.before) (at (frame_of (Group o) b os es ∷ fs) [] fresh)
opened o b os (AtPath path) es fs = when (is_no o.before) (at (frame_of (Call path o []) b os es ∷ fs) [] fresh)
opened o b os _ es fs = None

abbrev pub shut : Place → Option Binder → List Operation → Tail → List Earlier → List Frame → Option State
shut c b os Begin es fs = if is_fresh b os && has_none es then emptied c fs else None
shut c b os tail es fs = ended (ClosesRound c) (infix_at b os (spat_of tail)) es fs

abbrev pub dotted : Place → Option Binder → List Operation → Tail → List Earlier → List Frame → Option State
dotted d b os (AtPath path) es fs = Some (at fs es (InInfix b os (AtDot path d)))
dotted d b os _ es fs = None

abbrev pub moved : Seen → Option Binder → List Operation → Tail → List Earlier → List Frame → Option State
moved (AnId id) b os tail es fs = named id b os tail es fs
moved (ANumber n) b os tail es fs = numbered n b os tail es fs
moved (ALiteral l) b os tail es fs = started ((literal_place l).before) b os tail (AtEnded (LiteralPat l)) es fs
moved (AnUnderscore p) b os tail es fs = started p.before b os tail (AtWild p) es fs
moved (AColon p) b os tail es fs = coloned p b os tail es fs
moved (AnAt p) b os tail es fs = signed p b os tail es fs
moved (OpensRound o) b os tail es fs = opened o b os tail es fs
moved (ClosesRound c) b os tail es fs = shut c b os tail es fs
moved (AComma c) b os tail es fs = ended (AComma c) (infix_at b os (spat_of tail)) es fs
moved (ADot d) b os tail es fs = dotted d b os tail es fs
moved (Another x) b os tail es fs = None

abbrev pub moved_in : Option types.State → Subject → Place → Option Pat1 → Seen → List Earlier → List Frame → Option State
moved_in (Some t) s point pat y es fs = Some (at fs es (InType s point t))
moved_in None s point pat y es fs = ended y pat es fs

abbrev pub step_at : Current → Lexeme → List Earlier → List Frame → Option State
step_at (InType s point t) x es fs = moved_in (simple_step t x) s point (typed_at s point (simple_in t.frames t.heads t.tail)) (seen x) es fs
step_at (InInfix b os tail) x es fs = moved (seen x) b os tail es fs

abbrev pub step : State → Lexeme → Option State
step s x = step_at s.current x s.earlier s.frames

abbrev pub whole_at : List Frame → Current → Bool
whole_at [] current = is_some (alternative_at current)
whole_at (f ∷ fs) current = false

abbrev pub machine : Machine State Lexeme
machine = record {
  start = at [] [] fresh;
  step = step;
  whole = λ s. whole_at s.frames s.current;
}

-- ---- the tokens of what was read

abbrev pub tail_tokens : Tail → List Lexeme
tail_tokens Begin = []
tail_tokens (AtWild place) = underscore place ∷ []
tail_tokens (AtPath path) = qual_id_tokens path
tail_tokens (AtDot path d) = qual_id_tokens path ++ dot d ∷ []
tail_tokens (AtEnded spat) = spat_tokens spat

abbrev pub operations_tokens : List Operation → List Lexeme
operations_tokens [] = []
operations_tokens (o ∷ os) = operations_tokens os ++ (spat_tokens o.left ++ id_token o.operator ∷ [])

abbrev pub binder_tokens : Option Binder → List Lexeme
binder_tokens None = []
binder_tokens (Some b) = id_token b.id ∷ at_sign b.sign ∷ []

abbrev pub subject_tokens : Subject → Place → List Lexeme
subject_tokens (VarSubject id) point = id_token id ∷ colon point ∷ []
subject_tokens (WildSubject place) point = underscore place ∷ colon point ∷ []

abbrev pub current_tokens : Current → List Lexeme
current_tokens (InType s point t) = subject_tokens s point ++ type_tokens_in t
current_tokens (InInfix b os tail) = binder_tokens b ++ (operations_tokens os ++ tail_tokens tail)

abbrev pub earlier_tokens : List Earlier → List Lexeme
earlier_tokens [] = []
earlier_tokens (e ∷ es) = earlier_tokens es ++ (pat1_tokens e.pat ++ bar e.stroke ∷ [])

abbrev pub done_tokens : List Done → List Lexeme
done_tokens [] = []
done_tokens (d ∷ done) = done_tokens done ++ (pat_tokens d.pat ++ comma d.place ∷ [])

abbrev pub bracket_tokens : Bracket → List Lexeme
bracket_tokens (Call path o done) = qual_id_tokens path ++ open_round o ∷ done_tokens done
bracket_tokens (Group o) = open_round o ∷ []
bracket_tokens (GroupOne o a p) = open_round o ∷ (pat_tokens a ++ comma p ∷ [])
bracket_tokens (GroupTwo o a p b q) = open_round o ∷ (pat_tokens a ++ comma p ∷ (pat_tokens b ++ comma q ∷ []))

abbrev pub frame_tokens : Frame → List Lexeme
frame_tokens f = earlier_tokens f.earlier ++ (binder_tokens f.binder ++ (operations_tokens f.operations ++ bracket_tokens f.bracket))

abbrev pub frames_tokens : List Frame → List Lexeme
frames_tokens [] = []
frames_tokens (f ∷ fs) = frames_tokens fs ++ frame_tokens f

abbrev pub tokens_in : State → List Lexeme
tokens_in s = frames_tokens s.frames ++ (earlier_tokens s.earlier ++ current_tokens s.current)
