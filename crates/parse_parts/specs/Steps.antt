-- What a reader of types makes of one token more.
use Rattle.std.specs.Prelude.{ℕ, Bool, true, false, ◌&&◌, if◌then◌else◌, List, [], ◌∷◌, Option, Some, None}
use Rattle.pc_terms.specs.declared.problems.Span.{Span}
use Rattle.pc_terms.specs.declared.tree_kinds.TreeKind.{TreeKind}
use Rattle.pc_terms.specs.declared.tree_kinds.TreeKind.TheVariants as kind
use Rattle.scan_tokens.specs.Words.{Bytes}
use Rattle.parse_parts.specs.declared.built.Kids.{Kids}
use Rattle.parse_parts.specs.declared.built.Tall.{Tall}
use Rattle.parse_parts.specs.declared.states.Bracket.{Bracket}
use Rattle.parse_parts.specs.declared.states.Bracket.TheVariants.{Round, Square}
use Rattle.parse_parts.specs.declared.states.Count.{Count}
use Rattle.parse_parts.specs.declared.states.Count.TheVariants as count
use Rattle.parse_parts.specs.declared.states.Ended.{Ended}
use Rattle.parse_parts.specs.declared.states.Frame.{Frame}
use Rattle.parse_parts.specs.declared.states.Group.{Group}
use Rattle.parse_parts.specs.declared.states.Head.{Head}
use Rattle.parse_parts.specs.declared.states.Path.{Path}
use Rattle.parse_parts.specs.declared.states.Tail.{Tail}
use Rattle.parse_parts.specs.declared.states.Tail.TheVariants.{Begin, AtPath, AtDot, AtEnded, AtGroup}
use Rattle.parse_parts.specs.declared.states.State.{State}
use Rattle.parse_parts.specs.declared.symbols.Symbol.{Symbol}
use Rattle.parse_parts.specs.declared.symbols.Symbol.TheVariants as symbol
use Rattle.parse_parts.specs.Built.{no_kids, joined, alone, node, only}

abbrev pub first : {A : Type 0} → List A → Option A
first [] = None
first (x ∷ xs) = Some x

abbrev pub next : Count → Count
next count.Zero = count.One
next count.One = count.Two
next count.Two = count.Three
next _ = count.More

abbrev pub from_to : ℕ → ℕ → Span
from_to start end = record { start = start; end = end }

-- ---- trees of what was read

abbrev pub path_node : TreeKind → Path → Option Tall
path_node tree_kind path = node tree_kind path.name.text path.name.span (from_to path.start path.name.span.end) path.prefix

abbrev pub path_type : Path → Option Tall
path_type path = path_node (if path.qualified then kind.TypeSelect else kind.TypeIdent) path

abbrev pub path_term : Path → Option Tall
path_term path = path_node (if path.qualified then kind.Select else kind.Ident) path

abbrev pub group_tree : Group → Count → Option Tall
group_tree group count.One = only group.kids
group_tree group count.Two = node kind.TupleType [] group.span group.span group.kids
group_tree group count.Three = node kind.TupleType [] group.span group.span group.kids
group_tree group _ = None

abbrev pub tail_tree : Tail → Option Tall
tail_tree (AtPath path) = path_type path
tail_tree (AtEnded ended) = ended.tall
tail_tree (AtGroup group) = group_tree group group.count
tail_tree _ = None

abbrev pub tail_end : Tail → ℕ
tail_end Begin = 0
tail_end (AtPath path) = path.name.span.end
tail_end (AtDot path) = path.name.span.end
tail_end (AtEnded ended) = ended.span.end
tail_end (AtGroup group) = group.span.end

abbrev pub head_at : Tail → Head
head_at (AtPath path) = record { start = path.start; kids = alone (path_type path) }
head_at (AtEnded ended) = record { start = ended.span.start; kids = alone ended.tall }
head_at (AtGroup group) = record { start = group.span.start; kids = group.kids }
head_at _ = record { start = 0; kids = None }

abbrev pub fun_over : Head → ℕ → Option Tall → Option Tall
fun_over head end tall = node kind.FunType [] (from_to head.start end) (from_to head.start end) (joined head.kids tall)

-- the function types of the pending heads, the innermost first
abbrev pub settled : List Head → ℕ → Option Tall → Option Tall
settled [] end tall = tall
settled (head ∷ heads) end tall = settled heads end (fun_over head end tall)

-- the type that ends at a tail
abbrev pub type_at : List Head → Tail → Option Tall
type_at heads tail = settled heads (tail_end tail) (tail_tree tail)

-- ---- which tokens are admitted

abbrev pub is_tuple : Count → Bool
is_tuple count.Zero = false
is_tuple count.More = false
is_tuple _ = true

abbrev pub is_zero : Count → Bool
is_zero count.Zero = true
is_zero _ = false

abbrev pub is_whole : Tail → Bool
is_whole (AtPath path) = true
is_whole (AtEnded ended) = true
is_whole (AtGroup group) = is_tuple group.count
is_whole _ = false

abbrev pub may_name : Tail → Bool
may_name Begin = true
may_name (AtDot path) = true
may_name _ = false

abbrev pub may_open : Tail → Bool
may_open Begin = true
may_open _ = false

abbrev pub is_path : Tail → Bool
is_path (AtPath path) = true
is_path _ = false

abbrev pub is_dot : Tail → Bool
is_dot (AtDot path) = true
is_dot _ = false

abbrev pub may_head : Tail → Bool
may_head Begin = false
may_head (AtDot path) = false
may_head _ = true

abbrev pub is_round : Bracket → Bool
is_round (Round start) = true
is_round (Square start name) = false

abbrev pub is_none : {A : Type 0} → Option A → Bool
is_none None = true
is_none (Some a) = false

abbrev pub may_part : Option Frame → Bool
may_part None = false
may_part (Some frame) = true

abbrev pub may_close_round : Tail → Option Head → Option Frame → Bool
may_close_round tail head None = false
may_close_round Begin head (Some frame) = is_round frame.bracket && (is_none head && is_zero frame.count)
may_close_round tail head (Some frame) = is_round frame.bracket && is_whole tail

abbrev pub may_close_square : Option Frame → Bool
may_close_square None = false
may_close_square (Some frame) = if is_round frame.bracket then false else true

abbrev pub admits : State → Symbol → Bool
admits s symbol.Id = may_name s.tail
admits s symbol.OpenRound = may_open s.tail
admits s symbol.CloseRound = may_close_round s.tail (first s.heads) (first s.frames)
admits s symbol.OpenSquare = is_path s.tail
admits s symbol.CloseSquare = may_close_square (first s.frames) && is_whole s.tail
admits s symbol.Comma = may_part (first s.frames) && is_whole s.tail
admits s symbol.Dot = is_path s.tail
admits s symbol.Arrow = may_head s.tail
admits s symbol.TypeWord = is_dot s.tail
admits s symbol.Other = false

-- ---- the state after an admitted token; others leave it as it is

abbrev pub named : Bytes → Span → Tail → Tail
named word span Begin = AtPath (record { start = span.start; name = record { text = word; span = span }; qualified = false; prefix = no_kids })
named word span (AtDot path) = AtPath (record { start = path.start; name = record { text = word; span = span }; qualified = true; prefix = alone (path_term path) })
named word span tail = tail

abbrev pub dotted : Tail → Tail
dotted (AtPath path) = AtDot path
dotted tail = tail

abbrev pub singled : Span → Tail → Tail
singled span (AtDot path) = AtEnded (record {
  span = from_to path.start span.end;
  tall = node kind.Singleton path.name.text path.name.span (from_to path.start span.end) (alone (path_term path));
})
singled span tail = tail

abbrev pub round_opened : Span → State → State
round_opened span s = record {
  frames = record { bracket = Round span.start; count = count.Zero; kids = no_kids; heads = s.heads } ∷ s.frames;
  heads = [];
  tail = Begin;
}

abbrev pub square_opened : List Frame → List Head → Tail → State
square_opened frames heads (AtPath path) = record {
  frames = record { bracket = Square path.start path.name; count = count.Zero; kids = alone (path_type path); heads = heads } ∷ frames;
  heads = [];
  tail = Begin;
}
square_opened frames heads tail = record { frames = frames; heads = heads; tail = tail }

abbrev pub arrowed : State → State
arrowed s = record { frames = s.frames; heads = head_at s.tail ∷ s.heads; tail = Begin }

abbrev pub parted : List Frame → List Head → Tail → State
parted [] heads tail = record { frames = []; heads = []; tail = Begin }
parted (f ∷ fs) heads tail = record {
  frames = record { bracket = f.bracket; count = next f.count; kids = joined f.kids (type_at heads tail); heads = f.heads } ∷ fs;
  heads = [];
  tail = Begin;
}

abbrev pub start_of : Bracket → ℕ
start_of (Round start) = start
start_of (Square start name) = start

abbrev pub grouped : Frame → ℕ → List Head → Tail → Group
grouped f end heads Begin = record { span = from_to (start_of f.bracket) end; count = f.count; kids = f.kids }
grouped f end heads tail = record { span = from_to (start_of f.bracket) end; count = next f.count; kids = joined f.kids (type_at heads tail) }

abbrev pub round_closed : ℕ → List Frame → List Head → Tail → State
round_closed end [] heads tail = record { frames = []; heads = []; tail = Begin }
round_closed end (f ∷ fs) heads tail = record { frames = fs; heads = f.heads; tail = AtGroup (grouped f end heads tail) }

abbrev pub applied : Bracket → ℕ → Option Kids → Ended
applied (Round start) end kids = record { span = from_to start end; tall = None }
applied (Square start name) end kids = record { span = from_to start end; tall = node kind.AppliedType name.text name.span (from_to start end) kids }

abbrev pub square_closed : ℕ → List Frame → List Head → Tail → State
square_closed end [] heads tail = record { frames = []; heads = []; tail = Begin }
square_closed end (f ∷ fs) heads tail =
    record { frames = fs; heads = f.heads; tail = AtEnded (applied f.bracket end (joined f.kids (type_at heads tail))) }

abbrev pub at_tail : State → Tail → State
at_tail s tail = record { frames = s.frames; heads = s.heads; tail = tail }

unfoldable pub advanced : State → Symbol → Span → Bytes → State
advanced s symbol.Id span word = at_tail s (named word span s.tail)
advanced s symbol.OpenRound span word = round_opened span s
advanced s symbol.CloseRound span word = round_closed span.end s.frames s.heads s.tail
advanced s symbol.OpenSquare span word = square_opened s.frames s.heads s.tail
advanced s symbol.CloseSquare span word = square_closed span.end s.frames s.heads s.tail
advanced s symbol.Comma span word = parted s.frames s.heads s.tail
advanced s symbol.Dot span word = at_tail s (dotted s.tail)
advanced s symbol.Arrow span word = arrowed s
advanced s symbol.TypeWord span word = at_tail s (singled span s.tail)
advanced s symbol.Other span word = s
