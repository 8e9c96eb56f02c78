-- What is asked of whoever types items, and what an item comes to in the end.
use Rattle.std.specs.Prelude.{List, Option, Some, option_map, if◌then◌else◌}
use Rattle.item_questions.specs.Questions.{Info, Has, Cyclic, Asks, Gives, Ends, Answer, Known, Needs, AtCyclic, Infos, run, bind}
use Rattle.item_questions.specs.Rounds.{is_item, final}
use Rattle.pc_terms.specs.declared.items.Item.{Item}
use Rattle.pc_terms.specs.declared.items.ItemValue.{ItemValue}
use Rattle.pc_terms.specs.declared.items.Asked.{Asked}
use Rattle.pc_terms.specs.declared.items.Asked.TheVariants as found
use Rattle.lazy_completion.specs.Fitting.{item_eq, is_own, is_cyclic}

-- what is asked for an item and given to it
abbrev pub Asking : Type 0 → Type 0
Asking A = Asks Item ItemValue A

-- A typing that gives Cyclic, or a value of another variant than the item's own, is not done.
abbrev pub own : Item → Asking ItemValue → Asking ItemValue
own k typing = bind typing (λ v. if is_own k v then Gives v else Ends k)

abbrev pub owned : (Item → Asking ItemValue) → Item → Asking ItemValue
owned typing k = own k (typing k)

-- what a value that is kept says of its item
abbrev pub info : ItemValue → Info ItemValue
info v = if is_cyclic v then Cyclic else Has v

abbrev pub infos : (Item → Option ItemValue) → Infos Item ItemValue
infos known k = option_map info (known k)

-- an item outside the list counts as cyclic
abbrev pub within : List Item → Infos Item ItemValue → Infos Item ItemValue
within items known k = if is_item item_eq items k then known k else Some Cyclic

abbrev pub asked : {A : Type 0} → Answer Item A → Asked A
asked (Known a) = found.Known a
asked (Needs k) = found.Needs k
asked (AtCyclic k) = found.Cyclic k

-- what the typing of an item comes to, under the values that are known
abbrev pub answer : List Item → (Item → Asking ItemValue) → (Item → Option ItemValue) → Item → Answer Item ItemValue
answer items typing known k = run (within items (infos known)) (owned typing k)

-- what is so of an item in the end of the rounds: its value, or that it is cyclic
abbrev pub final_info : List Item → (Item → Asking ItemValue) → Item → Info ItemValue
final_info items typing = final item_eq items (owned typing)
