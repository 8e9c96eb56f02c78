-- What is known of names while sources are entered.
use Rattle.std.specs.Prelude.{◌≡◌, ℕ, ◌+◌, Bool, ◌&&◌, if◌then◌else◌, Option, Some, None}
use Rattle.indexmap.specs.IndexMap.{get}
use Rattle.pc_terms.specs.declared.symbols.SymKind.{SymKind}
use Rattle.symbol_table.specs.contracts.owned_names.OwnedNamePartialEq.TheImpl as derived
use Rattle.symbol_table.specs.declared.names.Names.{Names}
use Rattle.symbol_table.specs.declared.owned_names.OwnedName.{OwnedName}
use Rattle.symbol_table.specs.declared.owned_names.Seen.{Seen}
use Rattle.symbol_table.specs.Symbols.{is_def}

-- what `==` of two names returns
abbrev pub name_eq : OwnedName → OwnedName → Bool
name_eq = (derived.ghosts).eq

abbrev pub seen : Names → OwnedName → Option Seen
seen names name = get name_eq names.seen name

abbrev pub both_methods : SymKind → SymKind → Bool
both_methods first own = is_def first && is_def own

-- the ordinal of a further definition of this kind; a second one has none
abbrev pub ordinal_for : Option Seen → SymKind → Option ℕ
ordinal_for None kind = Some 0
ordinal_for (Some before) kind = if both_methods before.kind kind then Some before.methods else None

abbrev pub one_method : SymKind → ℕ
one_method kind = if is_def kind then 1 else 0

-- what is known after it
abbrev pub seen_after : Option Seen → SymKind → ℕ → Option Seen
seen_after None kind number = Some (record { kind = kind; number = number; methods = one_method kind })
seen_after (Some before) kind number =
    if both_methods before.kind kind then Some (record before { methods = before.methods + 1 }) else Some before

-- The names after a definition of this kind and number is added under this one.
abbrev pub Adds : Names → Names → OwnedName → SymKind → ℕ → Type 0
Adds old new name kind number =
    (other : OwnedName) → seen new other ≡ (if name_eq other name then seen_after (seen old name) kind number else seen old other)

abbrev pub IsUnchanged : Names → Names → Type 0
IsUnchanged old new = (other : OwnedName) → seen new other ≡ seen old other
