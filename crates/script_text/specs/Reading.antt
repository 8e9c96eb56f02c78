-- How a script is read: a line by its words, and a text by its lines.
use Rattle.std.specs.Prelude.{ℕ, ◌+◌, ◌*◌, ◌/◌, Bool, if◌then◌else◌, ◌==◌, List, [], ◌∷◌, ◌++◌, drop, codes, option_and_then, Option, Some, None, Result, Ok, Err}
use Rattle.std.specs.Option.{option_map}
use Rattle.std.specs.List.{prefix_len}
use Rattle.std.specs.Str.{bytes_eq}
use Rattle.pc_terms.specs.Number.{number_of}
use Rattle.ask_history.specs.declared.calls.Call.TheVariants.{Reload, Remove, TypeAt, MembersAt, ScopeAt, LinkAt, Structure, LoadedTyped}
use Rattle.ask_history.specs.declared.script.Order.{Order}
use Rattle.ask_history.specs.declared.script.Order.TheVariants as order
use Rattle.ask_history.specs.declared.script.Line.{Line}
use Rattle.script_text.specs.declared.kinds.Holder.{Holder}
use Rattle.script_text.specs.declared.kinds.Holder.TheVariants as holder
use Rattle.script_text.specs.declared.kinds.Numbers.{Numbers}
use Rattle.script_text.specs.declared.kinds.ScriptKind.{ScriptKind}
use Rattle.script_text.specs.declared.kinds.ScriptKind.TheVariants as kind
use Rattle.script_text.specs.declared.words.Word.{Word}
use Rattle.script_text.specs.declared.words.Word.TheVariants as word
use Rattle.pc_terms.specs.Bytes.{space}
use Rattle.script_text.specs.Characters.{full_stop, at_sign}
use Rattle.script_text.specs.Words.{Bytes, split, lines_of, is_passed, is_name, is_number}
use Rattle.script_text.specs.Standing.{holder_at, sibling_at, does_not_fall, is_meant, is_next_pair, is_some_list}

-- ---- orders

abbrev pub exactly_one : List Bytes → Option Bytes
exactly_one (first ∷ []) = Some first
exactly_one _ = None

abbrev pub exactly_two : List Bytes → Option (Bytes × Bytes)
exactly_two (first ∷ second ∷ []) = Some (first, second)
exactly_two _ = None

-- the pairs that these words give, after these names and pairs
abbrev pub pairs_from : List Bytes → List (Bytes × Bytes) → List Bytes → Option (List (Bytes × Bytes))
pairs_from names pairs [] = Some pairs
pairs_from names pairs (name ∷ []) = None
pairs_from names pairs (name ∷ path ∷ words) =
    if is_next_pair names name path then pairs_from (names ++ name ∷ []) (pairs ++ (name, path) ∷ []) words else None

-- the names that these words give, after these
abbrev pub names_from : List Bytes → List Bytes → Option (List Bytes)
names_from names [] = Some names
names_from names (name ∷ words) = if is_name name then names_from (names ++ name ∷ []) words else None

abbrev pub reload_of : List Bytes → Option Order
reload_of words = if is_some_list words then option_map (λ pairs. order.Call (Reload pairs)) (pairs_from [] [] words) else None

abbrev pub remove_of : List Bytes → Option Order
remove_of words = if is_some_list words then option_map (λ names. order.Call (Remove names)) (names_from [] words) else None

abbrev pub as_name : Bytes → Option Bytes
as_name name = if is_name name then Some name else None

abbrev pub one_name : List Bytes → Option Bytes
one_name words = option_and_then as_name (exactly_one words)

abbrev pub one_number : List Bytes → Option ℕ
one_number words = option_and_then number_of (exactly_one words)

abbrev pub as_name_and_offset : Bytes → Bytes → Option (Bytes × ℕ)
as_name_and_offset name offset = if is_name name then option_map (λ n. (name, n)) (number_of offset) else None

abbrev pub name_and_offset : List Bytes → Option (Bytes × ℕ)
name_and_offset words = option_and_then (λ two. as_name_and_offset two.0 two.1) (exactly_two words)

abbrev pub nothing_else : Order → List Bytes → Option Order
nothing_else order [] = Some order
nothing_else order (first ∷ rest) = None

-- the order that a word and those after it give
abbrev pub order_of : Word → List Bytes → Option Order
order_of word.Reload words = reload_of words
order_of word.Remove words = remove_of words
order_of word.Type words = option_map (λ found. order.Call (TypeAt found.0 found.1)) (name_and_offset words)
order_of word.Members words = option_map (λ found. order.Call (MembersAt found.0 found.1)) (name_and_offset words)
order_of word.Scope words = option_map (λ found. order.Call (ScopeAt found.0 found.1)) (name_and_offset words)
order_of word.Link words = option_map (λ found. order.Call (LinkAt found.0 found.1)) (name_and_offset words)
order_of word.Structure words = option_map (λ name. order.Call (Structure name)) (one_name words)
order_of word.Typed words = option_map (λ name. order.Call (LoadedTyped name)) (one_name words)
order_of word.Cancel words = option_map order.Cancel (one_number words)
order_of word.Close words = nothing_else order.Close words
order_of word.Wait words = option_map order.Wait (one_number words)
order_of word.Idle words = nothing_else order.Idle words

abbrev pub word_of : Bytes → Option Word
word_of bytes =
    if bytes_eq bytes (codes "reload") then Some word.Reload
    else if bytes_eq bytes (codes "remove") then Some word.Remove
    else if bytes_eq bytes (codes "type") then Some word.Type
    else if bytes_eq bytes (codes "members") then Some word.Members
    else if bytes_eq bytes (codes "scope") then Some word.Scope
    else if bytes_eq bytes (codes "link") then Some word.Link
    else if bytes_eq bytes (codes "structure") then Some word.Structure
    else if bytes_eq bytes (codes "typed") then Some word.Typed
    else if bytes_eq bytes (codes "cancel") then Some word.Cancel
    else if bytes_eq bytes (codes "close") then Some word.Close
    else if bytes_eq bytes (codes "wait") then Some word.Wait
    else if bytes_eq bytes (codes "idle") then Some word.Idle
    else None

abbrev pub order_from : List Bytes → Option Order
order_from [] = None
order_from (first ∷ words) = option_and_then (λ word. order_of word words) (word_of first)

-- ---- numbers of inner lines

abbrev pub turn_of : Bytes → Option Numbers
turn_of digits = option_map (λ turn. record { check = 0; turn = turn }) (number_of digits)

abbrev pub both_numbers : Bytes → Bytes → Option Numbers
both_numbers check turn = option_and_then (λ n. option_map (λ t. record { check = n; turn = t }) (number_of turn)) (number_of check)

abbrev pub check_and_turn : Bytes → Option Numbers
check_and_turn digits = option_and_then (λ two. both_numbers two.0 two.1) (exactly_two (split full_stop digits))

abbrev pub numbers_behind : Holder → Bytes → Option Numbers
numbers_behind holder.Ask digits = turn_of digits
numbers_behind holder.Idle digits = check_and_turn digits

abbrev pub numbers_of : Holder → Bytes → Option Numbers
numbers_of holder [] = None
numbers_of holder (b ∷ bs) = if b == at_sign then numbers_behind holder bs else None

-- ---- a line

abbrev pub is_space : ℕ → Bool
is_space b = b == space

abbrev pub with_level : ℕ → Bytes → Option (ℕ × Bytes)
with_level indent bytes = if 2 * (indent / 2) == indent then Some (indent / 2, drop indent bytes) else None

-- the level of a line, and what stands after its spaces
abbrev pub unindented : Bytes → Option (ℕ × Bytes)
unindented bytes = with_level (prefix_len is_space bytes) bytes

abbrev pub words_of : Bytes → List Bytes
words_of line = split space line

abbrev pub meant_line : ScriptKind → List Line → ℕ → Numbers → Order → Option Line
meant_line script above level numbers order =
    if is_meant script above order
    then Some (record { level = level; check = numbers.check; turn = numbers.turn; order = order })
    else None

abbrev pub line_of : ScriptKind → List Line → ℕ → Numbers → List Bytes → Option Line
line_of script above level numbers words = option_and_then (meant_line script above level numbers) (order_from words)

abbrev pub if_not_below : Option Numbers → Numbers → Option Numbers
if_not_below sibling numbers = if does_not_fall sibling numbers then Some numbers else None

-- the numbers of an inner line of this level
abbrev pub inner_numbers : List Line → ℕ → Bytes → Option Numbers
inner_numbers above level first =
    option_and_then (λ holder. option_and_then (if_not_below (sibling_at above level)) (numbers_of holder first)) (holder_at above level)

abbrev pub inner_line : List Line → ℕ → List Bytes → Option Line
inner_line above level [] = None
inner_line above level (first ∷ words) =
    option_and_then (λ numbers. line_of kind.Schedule above level numbers words) (inner_numbers above level first)

abbrev pub inner_line_in : ScriptKind → List Line → ℕ → List Bytes → Option Line
inner_line_in kind.Client above level words = None
inner_line_in kind.Schedule above level words = if is_number level then inner_line above level words else None

abbrev pub line_at : ScriptKind → List Line → ℕ → List Bytes → Option Line
line_at script above level words =
    if level == 0 then line_of script above 0 (record { check = 0; turn = 0 }) words
    else inner_line_in script above level words

-- The line that these bytes are after the lines above.
abbrev pub line_read : ScriptKind → List Line → Bytes → Option Line
line_read script above bytes = option_and_then (λ found. line_at script above found.0 (words_of found.1)) (unindented bytes)

-- ---- a text

abbrev pub behind_line : (List Line → Result (List Line) ℕ) → List Line → ℕ → Option Line → Result (List Line) ℕ
behind_line more above number None = Err number
behind_line more above number (Some line) = more (above ++ line ∷ [])

abbrev pub lines_from : ScriptKind → List Line → ℕ → List Bytes → Result (List Line) ℕ
lines_from script above number [] = Ok above
lines_from script above number (bytes ∷ more) =
    if is_passed bytes then lines_from script above (number + 1) more
    else behind_line (λ all. lines_from script all (number + 1) more) above number (line_read script above bytes)

-- The lines of a text, or the number of its first line outside the grammar, counted from 1.
abbrev pub lines_read : ScriptKind → Bytes → Result (List Line) ℕ
lines_read script text = lines_from script [] 1 (lines_of text)
