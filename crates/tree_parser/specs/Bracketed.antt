-- How the brackets of a text stand.
use Rattle.std.specs.Prelude.{ℕ, nat_lt, if◌then◌else◌, List, [], map, Option, Some, None}
use Rattle.pc_terms.specs.declared.problems.Span.{Span}
use Rattle.scan_tokens.specs.declared.roles.Bracket.{Bracket as Scanned}
use Rattle.scan_tokens.specs.declared.roles.Bracket.TheVariants as scanned
use Rattle.scan_tokens.specs.declared.roles.Role.{Role as ScannedRole}
use Rattle.scan_tokens.specs.declared.roles.Role.TheVariants as scanned_role
use Rattle.source_grammar.specs.Brackets.{Opened, role, unmatched, most_open}
use Rattle.source_grammar.specs.Lexemes.{Lexeme}
use Rattle.source_grammar.specs.Units.{max_open}
use Rattle.tree_parser.specs.declared.brackets.Bracket.{Bracket}
use Rattle.tree_parser.specs.declared.brackets.Bracket.TheVariants as bracket
use Rattle.tree_parser.specs.declared.brackets.Brackets.{Brackets}
use Rattle.tree_parser.specs.declared.brackets.Brackets.TheVariants.{Unmatched, TooMany, Matching}
use Rattle.tree_parser.specs.declared.brackets.Opened.{Opened as Written}
use Rattle.tree_parser.specs.declared.brackets.Role.{Role}
use Rattle.tree_parser.specs.declared.brackets.Role.TheVariants.{Opens, Closes, Other}

-- ---- brackets as the scanner has them

abbrev pub bracket_in : Scanned → Bracket
bracket_in scanned.Round = bracket.Round
bracket_in scanned.Square = bracket.Square
bracket_in scanned.Curly = bracket.Curly

abbrev pub scanned_by : Bracket → Scanned
scanned_by bracket.Round = scanned.Round
scanned_by bracket.Square = scanned.Square
scanned_by bracket.Curly = scanned.Curly

abbrev pub bracket_role : ScannedRole → Role
bracket_role (scanned_role.Opens b) = Opens (bracket_in b)
bracket_role (scanned_role.Closes b) = Closes (bracket_in b)
bracket_role _ = Other

-- what a token does as a bracket
abbrev pub role_in : Lexeme → Role
role_in x = bracket_role (role x)

abbrev pub opened_in : Written → Opened
opened_in opened = record { bracket = scanned_by opened.bracket; span = opened.span }

abbrev pub all_opened : List Written → List Opened
all_opened written = map opened_in written

-- ---- all of them

abbrev pub bracketed_by : Option Span → ℕ → Brackets
bracketed_by (Some span) most = Unmatched span
bracketed_by None most = if nat_lt max_open most then TooMany else Matching

-- what does not match goes before what is too much
abbrev pub brackets_of : List Lexeme → Brackets
brackets_of xs = bracketed_by (unmatched [] xs) (most_open [] xs)
