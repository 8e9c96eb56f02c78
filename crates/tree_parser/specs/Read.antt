-- The unit of a text: what the machines of the crates below come to.
use Rattle.std.specs.Prelude.{ℕ, nat_le, if◌then◌else◌, List, [], ◌∷◌, ◌++◌, length, map, Option, Some, None}
use Rattle.pc_terms.specs.declared.problems.Code.{Code}
use Rattle.pc_terms.specs.declared.problems.Code.TheVariants.{P3, P4}
use Rattle.pc_terms.specs.declared.problems.Problem.{Problem}
use Rattle.pc_terms.specs.declared.problems.Span.{Span}
use Rattle.pc_terms.specs.declared.tree_kinds.TreeKind.TheVariants as kind
use Rattle.positioned_trees.specs.Located.{max_height}
use Rattle.positioned_trees.specs.Trees.{height, numbered}
use Rattle.positioned_trees.specs.declared.trees.SourceUnit.{SourceUnit}
use Rattle.positioned_trees.specs.declared.trees.Tree.{Tree}
use Rattle.scan_tokens.specs.Scanned.{scanned}
use Rattle.scan_tokens.specs.Words.{Bytes}
use Rattle.scan_tokens.specs.declared.tokens.Tokens.{Tokens}
use Rattle.source_grammar.specs.Lexemes.{Lexeme, lexeme_of}
use Rattle.source_grammar.specs.Units as grammar
use Rattle.parse_parts.specs.declared.built.Kids.{Kids}
use Rattle.parse_parts.specs.declared.built.Tall.{Tall}
use Rattle.tree_lower.specs.Lowering.{appended, unlabelled}
use Rattle.template_steps.specs.Statements.{list_of}
use Rattle.template_steps.specs.declared.statements.ListKind.TheVariants as list
use Rattle.tree_parser.specs.Bracketed.{brackets_of}
use Rattle.tree_parser.specs.Levels.{parts_behind}
use Rattle.tree_parser.specs.Messages.{message_of}
use Rattle.tree_parser.specs.Packaged.{packages_of}
use Rattle.tree_parser.specs.Problems.{found_in}
use Rattle.tree_parser.specs.declared.brackets.Brackets.{Brackets}
use Rattle.tree_parser.specs.declared.brackets.Brackets.TheVariants.{Unmatched, TooMany, Matching}

-- ---- trees

-- the package clauses, and the statements behind them
abbrev pub kids_of : List Lexeme → Option Kids
kids_of xs = appended (packages_of xs).kids (list_of list.Unit (parts_behind xs (packages_of xs).behind)).kids

abbrev pub root_over : ℕ → Option Kids → Option Tall
root_over size kids = unlabelled kind.Unit (record { start = 0; end = size }) kids

-- ---- units

abbrev pub unit_over : Bytes → Tree → List Problem → SourceUnit
unit_over text root problems = record { root = root; problems = grammar.ordered problems; length = length text }

-- without trees, and with one problem before those of the scanner
abbrev pub empty_with : Bytes → List Problem → Code → Span → SourceUnit
empty_with text problems code span =
    unit_over text (grammar.root_of (length text) []) (grammar.problem_at code span (message_of code) ∷ problems)

abbrev pub too_high : Bytes → List Problem → SourceUnit
too_high text problems = empty_with text problems P4 (record { start = 0; end = 0 })

-- what is wrong in the trees stands before what is wrong in the tokens
abbrev pub unit_with : Bytes → Tree → List Problem → SourceUnit
unit_with text root problems = unit_over text root (found_in root ++ problems)

abbrev pub unit_under : Bytes → List Problem → Option Tall → SourceUnit
unit_under text problems None = too_high text problems
unit_under text problems (Some tall) =
    if nat_le (height tall.tree) max_height then unit_with text (numbered tall.tree 0).tree problems else too_high text problems

-- the tokens of the text as the grammar sees them
abbrev pub lexemes_in : Bytes → Tokens → List Lexeme
lexemes_in text tokens = map (lexeme_of text) tokens.tokens

-- where all brackets match, and not too many are open
abbrev pub read_of : Bytes → Tokens → SourceUnit
read_of text tokens = unit_under text tokens.problems (root_over (length text) (kids_of (lexemes_in text tokens)))

abbrev pub unit_by : Brackets → Bytes → Tokens → SourceUnit
unit_by (Unmatched span) text tokens = empty_with text tokens.problems P3 span
unit_by TooMany text tokens = too_high text tokens.problems
unit_by Matching text tokens = read_of text tokens

-- Empty where a bracket does not match, else where too many are open, else as its tokens are read.
unfoldable pub unit_of : Bytes → SourceUnit
unit_of text = unit_by (brackets_of (lexemes_in text (scanned text))) text (scanned text)
