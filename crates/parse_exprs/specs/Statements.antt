-- One statement of a block, as a machine on items.
use Rattle.std.specs.Prelude.{ℕ, Bool, true, false, if◌then◌else◌, List, [], Option, Some, None}
use Rattle.source_grammar.specs.Lexemes.{Lexeme}
use Rattle.reading_machines.specs.Machines.{Machine}
use Rattle.expr_tails.specs.declared.items.Built.{Built}
use Rattle.expr_tails.specs.declared.states.Limit.TheVariants as limit
use Rattle.expr_tails.specs.declared.symbols.Symbol.{Symbol}
use Rattle.expr_tails.specs.declared.symbols.Symbol.TheVariants as symbol
use Rattle.expr_tails.specs.declared.symbols.Word.TheVariants as word
use Rattle.expr_steps.specs.Braces.{step_braces as expr_braces}
use Rattle.expr_steps.specs.Reading.{Item, OneToken, Pair, begun as expr_begun, is_read, built_at}
use Rattle.expr_steps.specs.Steps.{step as expr_step}
use Rattle.expr_tails.specs.Symbols.{symbol_of}
use Rattle.def_steps.specs.Definitions as definitions
use Rattle.import_steps.specs.Imports as imports
use Rattle.def_steps.specs.Modifiers.{begins_definition}
use Rattle.parse_exprs.specs.Lists.{of_items, built_list}
use Rattle.parse_exprs.specs.declared.lists.BuiltList.{BuiltList}
use Rattle.parse_exprs.specs.declared.statements.Statement.{Statement}
use Rattle.parse_exprs.specs.declared.statements.Statement.TheVariants as statement

abbrev pub by : {A : Type 0} → (A → Statement) → Option A → Option Statement
by to None = None
by to (Some a) = Some (to a)

abbrev pub is_import_word : Symbol → Bool
is_import_word (symbol.Word word.Import) = true
is_import_word _ = false

-- the first token says of which kind a statement is
abbrev pub first_token : Symbol → Lexeme → Option Statement
first_token s x =
    if is_import_word s then Some (statement.Import (imports.begun x.place.span.start))
    else (if begins_definition s then by statement.Definition (definitions.step definitions.begun x)
    else by statement.Expr (expr_step (expr_begun limit.Expr) x))

abbrev pub step_token : Statement → Lexeme → Option Statement
step_token statement.Begin x = first_token (symbol_of x.kind x.word) x
step_token (statement.Import i) x = by statement.Import (imports.step i x)
step_token (statement.Definition d) x = by statement.Definition (definitions.step d x)
step_token (statement.Expr e) x = by statement.Expr (expr_step e x)

abbrev pub stepped : Statement → Item → Option Statement
stepped s (OneToken x) = step_token s x
stepped statement.Begin (Pair b) = by statement.Expr (expr_braces (expr_begun limit.Expr) b)
stepped (statement.Import i) (Pair b) = by statement.Import (imports.step_braces i b)
stepped (statement.Definition d) (Pair b) = by statement.Definition (definitions.step_braces d b)
stepped (statement.Expr e) (Pair b) = by statement.Expr (expr_braces e b)

abbrev pub is_whole : Statement → Bool
is_whole statement.Begin = false
is_whole (statement.Import i) = imports.is_import i
is_whole (statement.Definition d) = definitions.is_definition d
is_whole (statement.Expr e) = is_read e

abbrev pub statements : Machine Statement Item
statements = record { start = statement.Begin; step = stepped; whole = is_whole }

-- the tree of what was read, with the placeholders that nothing in it binds
abbrev pub built : Statement → Built
built statement.Begin = record { tall = None; free = [] }
built (statement.Import i) = imports.import_at i
built (statement.Definition d) = definitions.definition_at d
built (statement.Expr e) = built_at e

-- it does not depend on where the statement ends
abbrev pub built_until : Statement → ℕ → Built
built_until s end = built s

-- the trees of the statements of a block, or of a case
abbrev pub block_list : List Item → BuiltList
block_list items = built_list of_items statements built_until items
