-- A typing for tests: the nodes of a drawn graph, each of which needs one other node or none.
use Rattle.std.specs.Prelude.{ℕ, zero, suc, nat_lt, List, [], ◌∷◌, length, slice_get, Option, None, Some, if◌then◌else◌}
use Rattle.item_questions.specs.Questions.{Gives, Ends, ◌>>=◌, value_of}
use Rattle.pc_terms.specs.declared.items.Item.{Item}
use Rattle.pc_terms.specs.declared.items.Item.TheVariants as item
use Rattle.pc_terms.specs.declared.items.ItemValue.{ItemValue}
use Rattle.pc_terms.specs.declared.items.ItemValue.TheVariants as given
use Rattle.lazy_completion.specs.Typing.{Asking}

abbrev pub node : ℕ → Item
node n = item.Qualifier [] n

-- the first n nodes
abbrev pub nodes : ℕ → List Item
nodes zero = []
nodes (suc n) = node n ∷ nodes n

abbrev pub named : Option ℕ → ℕ → Option ℕ
named None count = None
named (Some m) count = if nat_lt m count then Some m else None

-- the node that a node names; what is no node is not needed
abbrev pub need : List ℕ → ℕ → Option ℕ
need needs n = named (slice_get needs n) (length needs)

-- a node gives its value once the node that it needs has one
abbrev pub typed_node : Option ℕ → Asking ItemValue
typed_node None = Gives (given.Qualifier None)
typed_node (Some m) = value_of (node m) >>= λ _. Gives (given.Qualifier None)

abbrev pub typing : List ℕ → Item → Asking ItemValue
typing needs (item.Qualifier f n) = typed_node (need needs n)
typing needs k = Ends k
