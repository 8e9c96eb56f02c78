-- What is printed of calls, events and answers. A TAB stands between the parts of a line.
use Rattle.std.specs.Prelude.{ℕ, ◌+◌, List, [], ◌∷◌, ◌++◌, length, codes, Option, Some, None}
use Rattle.std.specs.Fmt.{decimal}
use Rattle.std.specs.List.{flat_map}
use Rattle.pc_terms.specs.Show.{kind_word, path_text, symbol_text}
use Rattle.pc_terms.specs.ShowType.{type_text}
use Rattle.pc_terms.specs.declared.problems.Problem.{Problem}
use Rattle.pc_terms.specs.declared.problems.Span.{Span}
use Rattle.pc_terms.specs.declared.symbols.SymPath.{SymPath}
use Rattle.pc_terms.specs.declared.types.Ty.{Ty}
use Rattle.pc_terms.specs.Bytes.{Bytes, tab, line_end}
use Rattle.ask_history.specs.declared.answers.Answer.{Answer}
use Rattle.ask_history.specs.declared.answers.Answer.TheVariants as answer
use Rattle.ask_history.specs.declared.answers.MemberInfo.{MemberInfo}
use Rattle.ask_history.specs.declared.answers.OutlineInfo.{OutlineInfo}
use Rattle.ask_history.specs.declared.answers.ScopeInfo.{ScopeInfo}
use Rattle.ask_history.specs.declared.answers.TreeInfo.{TreeInfo}
use Rattle.ask_history.specs.declared.calls.Call.{Call}
use Rattle.ask_history.specs.declared.calls.Call.TheVariants.{Reload, Remove, TypeAt, MembersAt, ScopeAt, LinkAt, Structure, LoadedTyped}
use Rattle.ask_history.specs.declared.events.Event.{Event}
use Rattle.ask_history.specs.declared.events.Event.TheVariants.{Accept, Cancel, Close, Settle, Checked}
use Rattle.ask_history.specs.declared.events.Mark.{Mark}
use Rattle.ask_history.specs.declared.events.Mark.TheVariants as mark
use Rattle.transcript.specs.Names.{tree_name, code_name}

-- ---- parts of lines

-- what stands between two parts
abbrev pub next : Bytes
next = tab ∷ []

-- START-END
abbrev pub span_text : Span → Bytes
span_text span = decimal span.start ++ codes "-" ++ decimal span.end

abbrev pub type_or_dash : Option Ty → Bytes
type_or_dash None = codes "-"
type_or_dash (Some ty) = type_text ty

abbrev pub symbol_or_dash : Option SymPath → Bytes
symbol_or_dash None = codes "-"
symbol_or_dash (Some sym) = symbol_text sym.steps

-- KIND¦START-END¦TYPE¦SYMBOL, with `-` for a missing type or symbol
abbrev pub tree_text : TreeInfo → Bytes
tree_text tree = tree_name tree.kind ++ next ++ span_text tree.span ++ next ++ type_or_dash tree.ty ++ next ++ symbol_or_dash tree.sym

-- ¦START-END¦CODE¦TEXT
abbrev pub problem_line : Problem → Bytes
problem_line problem = next ++ span_text problem.span ++ next ++ code_name problem.code ++ next ++ problem.text ++ line_end

-- ---- calls

-- NAME LENGTH, after a space
abbrev pub reloaded_text : Bytes × Bytes → Bytes
reloaded_text file = codes " " ++ file.0 ++ codes " " ++ decimal (length file.1)

-- NAME, after a space
abbrev pub removed_text : Bytes → Bytes
removed_text name = codes " " ++ name

-- NAME OFFSET
abbrev pub at_offset_text : Bytes → ℕ → Bytes
at_offset_text name offset = name ++ codes " " ++ decimal offset

-- A call as a script has it, with the length of each text in the place of its path.
abbrev pub call_text : Call → Bytes
call_text (Reload files) = codes "reload" ++ flat_map reloaded_text files
call_text (Remove names) = codes "remove" ++ flat_map removed_text names
call_text (TypeAt name offset) = codes "type " ++ at_offset_text name offset
call_text (MembersAt name offset) = codes "members " ++ at_offset_text name offset
call_text (ScopeAt name offset) = codes "scope " ++ at_offset_text name offset
call_text (LinkAt name offset) = codes "link " ++ at_offset_text name offset
call_text (Structure name) = codes "structure " ++ name
call_text (LoadedTyped name) = codes "typed " ++ name

-- ---- events

-- accept¦TICKET¦CLIENT¦TAG¦CALL
abbrev pub accept_text : ℕ → ℕ → ℕ → Call → Bytes
accept_text ticket client tag call = codes "accept" ++ next ++ decimal ticket ++ next ++ decimal client ++ next ++ decimal tag ++ next ++ call_text call ++ line_end

-- cancel¦TICKET
abbrev pub cancel_text : ℕ → Bytes
cancel_text ticket = codes "cancel" ++ next ++ decimal ticket ++ line_end

abbrev pub close_text : Bytes
close_text = codes "close" ++ line_end

abbrev pub mark_name : Mark → Bytes
mark_name mark.Done = codes "done"
mark_name mark.NoMemory = codes "nomemory"

-- settle¦TICKET¦MARK
abbrev pub settle_text : ℕ → Mark → Bytes
settle_text ticket m = codes "settle" ++ next ++ decimal ticket ++ next ++ mark_name m ++ line_end

-- checked¦FILE¦P, and a line for each of the P problems
abbrev pub checked_text : Bytes → List Problem → Bytes
checked_text file found = codes "checked" ++ next ++ file ++ next ++ decimal (length found) ++ line_end ++ flat_map problem_line found

-- the problems of the first check that is left; none after the last
abbrev pub first_found : List (List Problem) → List Problem
first_found [] = []
first_found (found ∷ problems) = found

-- An event after its journal index, where these are the problems of the checks from here on.
abbrev pub event_text : List (List Problem) → Event → Bytes
event_text problems (Accept ticket client tag call) = accept_text ticket client tag call
event_text problems (Cancel ticket) = cancel_text ticket
event_text problems Close = close_text
event_text problems (Settle ticket m) = settle_text ticket m
event_text problems (Checked file) = checked_text file (first_found problems)

abbrev pub without_first : {A : Type 0} → List A → List A
without_first [] = []
without_first (x ∷ xs) = xs

-- the problems of the checks after an event
abbrev pub problems_after : Event → List (List Problem) → List (List Problem)
problems_after (Checked file) problems = without_first problems
problems_after _ problems = problems

-- INDEX¦EVENT
abbrev pub event_line : ℕ → List (List Problem) → Event → Bytes
event_line index problems event = decimal index ++ next ++ event_text problems event

-- Events with their journal indices, of which this is the first one's.
abbrev pub events_text : ℕ → List (List Problem) → List Event → Bytes
events_text index problems [] = []
events_text index problems (event ∷ events) = event_line index problems event ++ events_text (index + 1) (problems_after event problems) events

-- ---- answers

-- tree¦KIND¦START-END¦TYPE¦SYMBOL
abbrev pub found_tree_line : TreeInfo → Bytes
found_tree_line tree = codes "tree" ++ next ++ tree_text tree ++ line_end

-- ¦NAME¦KIND¦TYPE¦OWNER
abbrev pub member_line : MemberInfo → Bytes
member_line member = next ++ member.name ++ next ++ kind_word member.kind ++ next ++ type_text member.ty ++ next ++ path_text member.owner.steps ++ line_end

-- ¦NAME¦SYMBOL
abbrev pub scope_line : ScopeInfo → Bytes
scope_line name = next ++ name.name ++ next ++ symbol_text name.sym.steps ++ line_end

-- link¦FILE¦START-END¦SYMBOL
abbrev pub link_line : Bytes → Span → SymPath → Bytes
link_line file span sym = codes "link" ++ next ++ file ++ next ++ span_text span ++ next ++ symbol_text sym.steps ++ line_end

-- ¦DEPTH¦KIND¦NAME¦START-END
abbrev pub outline_line : OutlineInfo → Bytes
outline_line definition = next ++ decimal definition.depth ++ next ++ tree_name definition.kind ++ next ++ definition.name ++ next ++ span_text definition.span ++ line_end

-- ¦KIND¦START-END¦TYPE¦SYMBOL
abbrev pub definition_line : TreeInfo → Bytes
definition_line tree = next ++ tree_text tree ++ line_end

-- WORD¦COUNT
abbrev pub count_line : Bytes → ℕ → Bytes
count_line word count = word ++ next ++ decimal count ++ line_end

-- typed¦D¦P
abbrev pub typed_line : ℕ → ℕ → Bytes
typed_line definitions problems = codes "typed" ++ next ++ decimal definitions ++ next ++ decimal problems ++ line_end

-- An answer after the tag of its call: its line, and those of what it lists.
abbrev pub answer_text : Answer → Bytes
answer_text answer.Done = codes "done" ++ line_end
answer_text (answer.Tree tree) = found_tree_line tree
answer_text (answer.Members members) = count_line (codes "members") (length members) ++ flat_map member_line members
answer_text (answer.Scope names) = count_line (codes "scope") (length names) ++ flat_map scope_line names
answer_text (answer.Link file span sym) = link_line file span sym
answer_text (answer.Outline definitions) = count_line (codes "outline") (length definitions) ++ flat_map outline_line definitions
answer_text (answer.Loaded trees problems) = typed_line (length trees) (length problems) ++ flat_map definition_line trees ++ flat_map problem_line problems
answer_text answer.NoUnit = codes "nounit" ++ line_end
answer_text answer.NoTree = codes "notree" ++ line_end
answer_text answer.NoMembers = codes "nomembers" ++ line_end
answer_text answer.NoLink = codes "nolink" ++ line_end
answer_text answer.Unread = codes "unread" ++ line_end
answer_text answer.Cancelled = codes "cancelled" ++ line_end
answer_text answer.Closed = codes "closed" ++ line_end
answer_text answer.NoMemory = codes "nomemory" ++ line_end
