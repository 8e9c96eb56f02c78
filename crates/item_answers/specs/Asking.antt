-- What a rule asks of the values of items, and what its answer says.
use Rattle.std.specs.Prelude.{◌≡◌, ⊤, List, Option, option_map, Result, MatchResult, ℕ, [], ◌∷◌}
use Rattle.item_questions.specs.Questions.{Info, Has, Cyclic, Asks, Gives, Ends, Ask, Answer, Known, Needs, AtCyclic, Infos, run, bind}
use Rattle.pc_terms.specs.Bytes.{Bytes}
use Rattle.pc_terms.specs.declared.items.Asked.{Asked}
use Rattle.pc_terms.specs.declared.items.Asked.TheVariants as told
use Rattle.pc_terms.specs.declared.items.Item.{Item}
use Rattle.pc_terms.specs.declared.items.Item.TheVariants as item
use Rattle.pc_terms.specs.declared.items.ItemValue.{ItemValue}
use Rattle.pc_terms.specs.declared.items.ItemValue.TheVariants as value
use Rattle.pc_terms.specs.declared.symbols.SymPath.{SymPath}
use Rattle.pc_terms.specs.declared.types.Sig.{Sig}
use Rattle.pc_terms.specs.declared.types.Ty.{Ty}
use Rattle.item_answers.specs.declared.stopping.Stopped.{Stopped}
use Rattle.item_answers.specs.declared.stopping.Stopped.TheVariants as stopped

-- ---- questions

-- what is asked of items
abbrev pub Asking : Type 0 → Type 0
Asking A = Asks Item ItemValue A

-- what the value of an item says of it
abbrev pub info : ItemValue → Info ItemValue
info value.Cyclic = Cyclic
info v = Has v

abbrev pub infos : (Item → Option ItemValue) → Infos Item ItemValue
infos known k = option_map info (known k)

-- what a question comes to, under the values that are known
abbrev pub answer : {A : Type 0} → (Item → Option ItemValue) → Asking A → Answer Item A
answer known q = run (infos known) q

-- the same as the answer of a call
abbrev pub asked : {A : Type 0} → Answer Item A → Asked A
asked (Known a) = told.Known a
asked (Needs k) = told.Needs k
asked (AtCyclic k) = told.Cyclic k

-- ---- values of items

-- A value of another kind than the item's own is none: it ends the question as a cyclic item does.
abbrev pub parents_in : Item → Info ItemValue → Asking (List Ty)
parents_in k (Has (value.Parents types)) = Gives types
parents_in k _ = Ends k

abbrev pub signature_in : Item → Info ItemValue → Asking Sig
signature_in k (Has (value.Signature signature)) = Gives signature
signature_in k _ = Ends k

abbrev pub qualifier_in : Item → Info ItemValue → Asking (Option SymPath)
qualifier_in k (Has (value.Qualifier path)) = Gives path
qualifier_in k _ = Ends k

-- the parents of a class, trait or object, as they are written
abbrev pub parents_of : SymPath → Asking (List Ty)
parents_of class = Ask (item.Parents class) (parents_in (item.Parents class))

abbrev pub signature_of : SymPath → Asking Sig
signature_of path = Ask (item.Signature path) (signature_in (item.Signature path))

-- what the qualifier of the import clause means that stands at this byte of a file
abbrev pub qualifier_of : Bytes → ℕ → Asking (Option SymPath)
qualifier_of file at = Ask (item.Qualifier file at) (qualifier_in (item.Qualifier file at))

-- ---- lists

-- each of these in turn, and what all of them give
abbrev pub each : {X Y : Type 0} → (X → Asking Y) → List X → Asking (List Y)
each ask [] = Gives []
each ask (x ∷ xs) = bind (ask x) (λ y. bind (each ask xs) (λ ys. Gives (y ∷ ys)))

-- ---- what a result says

-- where a rule stopped, its answer is this
abbrev pub Stops : {A : Type 0} → Stopped → Answer Item A → Type 0
Stops stopped.NoMemory answer = ⊤
Stops (stopped.Needs k) answer = answer ≡ Needs k
Stops (stopped.Cyclic k) answer = answer ≡ AtCyclic k

-- what a result says of an answer: out of memory, it says nothing
abbrev pub Tells : {A : Type 0} → Result A Stopped → Answer Item A → Type 0
Tells result answer = MatchResult result (λ a. answer ≡ Known a) (λ why. Stops why answer)
