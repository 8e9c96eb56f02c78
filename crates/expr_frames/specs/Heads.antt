-- Heads that wait for an expression: pushed, and folded up to the one to which a word belongs.
use Rattle.std.specs.Prelude.{ℕ, Bool, true, false, not, ◌&&◌, ◌||◌, if◌then◌else◌}
use Rattle.std.specs.Prelude.{List, [], ◌∷◌, ◌++◌, Option, Some, None}
use Rattle.pc_terms.specs.declared.problems.Span.{Span}
use Rattle.parse_parts.specs.Built.{joined, alone}
use Rattle.parse_parts.specs.declared.built.Kids.{Kids}
use Rattle.parse_patterns.specs.declared.states.Operand.{Operand}
use Rattle.expr_frames.specs.declared.heads.Taken.{Taken}
use Rattle.expr_tails.specs.declared.tails.Ready.{Ready}
use Rattle.expr_tails.specs.declared.states.Begun.{Begun}
use Rattle.expr_tails.specs.declared.states.Context.{Context}
use Rattle.expr_tails.specs.declared.states.Head.{Head}
use Rattle.expr_tails.specs.declared.states.HeadKind.{HeadKind}
use Rattle.expr_tails.specs.declared.states.HeadKind.TheVariants as head
use Rattle.expr_tails.specs.declared.states.Limit.{Limit}
use Rattle.expr_tails.specs.declared.states.Reach.{Reach}
use Rattle.expr_tails.specs.declared.states.Tail.{Tail}
use Rattle.expr_tails.specs.declared.states.Tail.TheVariants as tail
use Rattle.expr_tails.specs.declared.symbols.Word.{Word}
use Rattle.expr_tails.specs.declared.symbols.Word.TheVariants as word
use Rattle.expr_tails.specs.Ending.{innermost, headed, is_semi}
use Rattle.expr_tails.specs.Tails.{is_whole}

abbrev pub nothing : Reach
nothing = record { takes_else = false; takes_catch = false; takes_finally = false; waits = false }

abbrev pub reach_of : List Head → Reach
reach_of [] = nothing
reach_of (h ∷ hs) = h.reach

-- what a head and those around it can take; a `do` hides those around it
abbrev pub reach_with : Reach → HeadKind → Reach
reach_with below (head.IfThen kids) = record below { takes_else = true }
reach_with below head.Try = record below { takes_catch = true; takes_finally = true }
reach_with below head.Do = record nothing { waits = true }
reach_with below _ = below

-- the context after one head more, whose are the placeholders so far
abbrev pub with_head : Context → ℕ → HeadKind → Context
with_head c start kind = record {
  heads = record { start = start; kind = kind; free = c.free; reach = reach_with (reach_of c.heads) kind } ∷ c.heads;
  free = [];
  operations = c.operations;
  sign = c.sign;
  tail = tail.Begin;
  limit = c.limit;
}

abbrev pub is_after_one : Tail → Bool
is_after_one (tail.AtSemi operand is_one) = is_one
is_after_one at = is_whole at

abbrev pub is_caught : Tail → Bool
is_caught (tail.AtCaught begun end) = true
is_caught _ = false

-- the word belongs to a head
abbrev pub is_taken_in : Reach → Tail → Word → Bool
is_taken_in reach at word.Else = is_after_one at && reach.takes_else
is_taken_in reach at word.Catch = is_whole at && reach.takes_catch
is_taken_in reach at word.Finally = is_caught at || (is_whole at && reach.takes_finally)
is_taken_in reach at word.While = (is_whole at || is_semi at) && reach.waits
is_taken_in reach at _ = false

abbrev pub is_taken : Context → Word → Bool
is_taken c w = is_taken_in (reach_of c.heads) c.tail w

abbrev pub is_else : Word → Bool
is_else word.Else = true
is_else _ = false

abbrev pub is_of_try : Word → Bool
is_of_try word.Catch = true
is_of_try word.Finally = true
is_of_try _ = false

abbrev pub is_while : Word → Bool
is_while word.While = true
is_while _ = false

abbrev pub takes : HeadKind → Word → Bool
takes (head.IfThen kids) w = is_else w
takes head.Try w = is_of_try w
takes head.Do w = is_while w
takes _ w = false

abbrev pub in_context : List Head → List Span → Tail → Limit → Context
in_context heads free at limit = record {
  heads = heads;
  free = free;
  operations = [];
  sign = None;
  tail = at;
  limit = limit;
}

abbrev pub test_of : HeadKind → Option Kids
test_of (head.IfThen kids) = kids
test_of _ = None

abbrev pub begun_by : ℕ → Operand → Begun
begun_by start body = record { start = start; kids = alone body.tall }

abbrev pub behind_else : Context → ℕ → HeadKind → Operand → Context
behind_else c start kind body = with_head c start (head.IfElse (joined (test_of kind) body.tall))

abbrev pub behind_finally : Context → Begun → Context
behind_finally c begun = with_head c begun.start (head.Finally begun.kids)

-- the context after the word, which the head takes
abbrev pub behind_head : List Head → Head → Word → Ready → Limit → Context
behind_head hs h word.Else body limit =
    behind_else (in_context hs (h.free ++ body.free) tail.Begin limit) h.start h.kind body.operand
behind_head hs h word.Catch body limit =
    in_context hs (h.free ++ body.free) (tail.AtCatch (begun_by h.start body.operand)) limit
behind_head hs h word.Finally body limit =
    behind_finally (in_context hs (h.free ++ body.free) tail.Begin limit) (begun_by h.start body.operand)
behind_head hs h _ body limit = in_context hs (h.free ++ body.free) (tail.AtUntil (begun_by h.start body.operand)) limit

-- the heads inside the one that takes the word are folded
abbrev pub taken : List Head → Word → Ready → Taken
taken [] w body = record { head = None; heads = []; body = body }
taken (h ∷ hs) w body =
    if takes h.kind w then record { head = Some h; heads = hs; body = body } else taken hs w (headed h body)

abbrev pub behind_taken_by : Option Head → List Head → Ready → Word → Limit → Context
behind_taken_by None hs body w limit = in_context hs body.free tail.Begin limit
behind_taken_by (Some h) hs body w limit = behind_head hs h w body limit

abbrev pub behind_taken : Taken → Word → Limit → Context
behind_taken t w limit = behind_taken_by t.head t.heads t.body w limit

abbrev pub behind_caught : List Head → List Span → Tail → Limit → Context
behind_caught hs free (tail.AtCaught begun end) limit = behind_finally (in_context hs free tail.Begin limit) begun
behind_caught hs free at limit = in_context hs free at limit

abbrev pub is_finally : Word → Bool
is_finally word.Finally = true
is_finally _ = false

-- the context after `else`, `catch`, `finally` or the `while` of a `do`
unfoldable pub with_word : Context → Word → Context
with_word c w =
    if is_finally w && is_caught c.tail then behind_caught c.heads c.free c.tail c.limit
    else behind_taken (taken c.heads w (innermost c.operations c.sign c.tail c.free)) w c.limit

-- the context after a `;` that a head may cross
abbrev pub with_semicolon : Context → Context
with_semicolon c =
    let r = innermost c.operations c.sign c.tail c.free in
    in_context c.heads r.free (tail.AtSemi r.operand (not (is_semi c.tail))) c.limit
