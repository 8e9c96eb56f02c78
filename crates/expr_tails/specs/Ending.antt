-- Where an expression ends: what was read of it, with the heads around it.
use Rattle.std.specs.Prelude.{Bool, true, false, not, ◌&&◌, ◌||◌, if◌then◌else◌}
use Rattle.std.specs.Prelude.{List, [], ◌∷◌, ◌++◌, Option, Some, None}
use Rattle.pc_terms.specs.declared.problems.Span.{Span}
use Rattle.pc_terms.specs.declared.tree_kinds.TreeKind.{TreeKind}
use Rattle.pc_terms.specs.declared.tree_kinds.TreeKind.TheVariants as kind
use Rattle.positioned_trees.specs.declared.details.Name.{Name}
use Rattle.parse_parts.specs.Built.{joined, alone}
use Rattle.parse_parts.specs.declared.built.Kids.{Kids}
use Rattle.parse_parts.specs.declared.built.Tall.{Tall}
use Rattle.parse_parts.specs.Reading.{is_nil}
use Rattle.parse_parts.specs.Steps.{is_none}
use Rattle.tree_lower.specs.Comprehending.{comprehension}
use Rattle.parse_patterns.specs.declared.states.Operand.{Operand}
use Rattle.tree_lower.specs.Lowering.{unlabelled, prefixed, updated, bound}
use Rattle.expr_tails.specs.declared.tails.Ready.{Ready}
use Rattle.expr_tails.specs.declared.states.Context.{Context}
use Rattle.expr_tails.specs.declared.states.Head.{Head}
use Rattle.expr_tails.specs.declared.states.HeadKind.{HeadKind}
use Rattle.expr_tails.specs.declared.states.HeadKind.TheVariants as head
use Rattle.expr_tails.specs.declared.states.Limit.{Limit}
use Rattle.expr_tails.specs.declared.states.Limit.TheVariants as limit
use Rattle.parse_patterns.specs.declared.states.Operation.{Operation}
use Rattle.expr_tails.specs.declared.states.Tail.{Tail}
use Rattle.expr_tails.specs.declared.states.Tail.TheVariants as tail
use Rattle.expr_tails.specs.Operators.{settled}
use Rattle.expr_tails.specs.Tails.{from_start, ready, operand_at, is_whole}

-- a context in which nothing was read
abbrev pub fresh : Limit → Context
fresh limit = record { heads = []; free = []; operations = []; sign = None; tail = tail.Begin; limit = limit }

abbrev pub at_tail : Context → Tail → Context
at_tail c at = record {
  heads = c.heads;
  free = c.free;
  operations = c.operations;
  sign = c.sign;
  tail = at;
  limit = c.limit;
}

-- the operand that is read is the first of its chain
abbrev pub is_first : Context → Bool
is_first c = is_nil c.operations && is_none c.sign

abbrev pub is_expr_limit : Limit → Bool
is_expr_limit limit.Expr = true
is_expr_limit _ = false

abbrev pub may_head : Context → Bool
may_head c = is_first c && is_expr_limit c.limit

-- a `do` waits for its `while`
abbrev pub waits_in : List Head → Bool
waits_in [] = false
waits_in (h ∷ hs) = h.reach.waits

abbrev pub is_expr : Context → Bool
is_expr c = is_whole c.tail && not (waits_in c.heads)

abbrev pub signed : Option Name → Operand → Operand
signed None operand = operand
signed (Some name) operand = prefixed name operand

abbrev pub signed_at : Option Name → Tail → List Span → Ready
signed_at sign at free = ready (signed sign (operand_at at free).operand) (operand_at at free).free

-- the operands and operators that end at a tail, as one
abbrev pub chain_at : List Operation → Option Name → Tail → List Span → Ready
chain_at ops sign at free = ready (settled ops (signed_at sign at free).operand) (signed_at sign at free).free

abbrev pub bound_at : Ready → Ready
bound_at r = ready (record { tall = bound r.free r.operand.span r.operand.tall; span = r.operand.span }) []

abbrev pub is_semi : Tail → Bool
is_semi (tail.AtSemi operand is_one) = true
is_semi _ = false

abbrev pub is_wild : Tail → Bool
is_wild (tail.AtWild span) = true
is_wild _ = false

-- a placeholder alone is bound further out; what stands before a `;` is bound already
abbrev pub stays_free : List Operation → Option Name → Tail → Bool
stays_free ops sign at = is_semi at || (is_wild at && (is_nil ops && is_none sign))

-- the innermost expression that ends here, and the placeholder that it is, if it is one alone
abbrev pub innermost : List Operation → Option Name → Tail → List Span → Ready
innermost ops sign at free =
    if stays_free ops sign at then chain_at ops sign at free else bound_at (chain_at ops sign at free)

abbrev pub over : TreeKind → Span → Option Kids → Option Tall → Option Tall
over tree_kind span kids tall = unlabelled tree_kind span (joined kids tall)

abbrev pub over_one : TreeKind → Span → Option Tall → Option Tall
over_one tree_kind span tall = unlabelled tree_kind span (alone tall)

abbrev pub tree_over : HeadKind → Span → Option Tall → Option Tall
tree_over (head.For gens yields) span tall = comprehension yields span gens tall
tree_over (head.Update receiver args) span tall = updated span receiver args tall
tree_over (head.Lambda params) span tall = over kind.Function span params tall
tree_over (head.IfThen kids) span tall = over kind.If span kids tall
tree_over (head.IfElse kids) span tall = over kind.If span kids tall
tree_over (head.WhileDo kids) span tall = over kind.While span kids tall
tree_over (head.Finally kids) span tall = over kind.Try span kids tall
tree_over (head.Assign left) span tall = over kind.Assign span left tall
tree_over head.Do span tall = over kind.DoWhile span None tall
tree_over head.Try span tall = over_one kind.Try span tall
tree_over head.Throw span tall = over_one kind.Throw span tall
tree_over head.Return span tall = over_one kind.Return span tall

-- the expression of a head and what follows it
abbrev pub operand_over : HeadKind → Span → Option Tall → Operand
operand_over kind span tall = record { tall = tree_over kind span tall; span = span }

abbrev pub headed : Head → Ready → Ready
headed h body = bound_at (ready
    (operand_over h.kind (from_start h.start body.operand.span.end) body.operand.tall)
    (h.free ++ body.free))

abbrev pub headed_all : List Head → Ready → Ready
headed_all [] body = body
headed_all (h ∷ hs) body = headed_all hs (headed h body)

-- the expression that ends here, with all heads around it
unfoldable pub expr_at : Context → Ready
expr_at c = headed_all c.heads (innermost c.operations c.sign c.tail c.free)
