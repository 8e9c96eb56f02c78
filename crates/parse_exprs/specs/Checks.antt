-- Which tokens can stand next at a level, so that the whole can still become an expression.
use Rattle.std.specs.Prelude.{Bool, true, false, ◌&&◌, if◌then◌else◌, List, [], ◌∷◌, Option, Some, None}
use Rattle.scan_tokens.specs.declared.tokens.Newline.{Newline}
use Rattle.source_grammar.specs.Lexemes.{Lexeme}
use Rattle.parse_parts.specs.Reading.{is_nil}
use Rattle.parse_patterns.specs.declared.states.State.{State as PatternState}
use Rattle.parse_patterns.specs.Reading.{begun as pattern_begun}
use Rattle.parse_patterns.specs.Steps as patterns
use Rattle.expr_tails.specs.declared.items.Braces.{Braces}
use Rattle.expr_tails.specs.declared.states.Limit.TheVariants as limit
use Rattle.expr_tails.specs.declared.states.State.{State}
use Rattle.expr_tails.specs.declared.symbols.Symbol.{Symbol}
use Rattle.expr_tails.specs.declared.symbols.Symbol.TheVariants as symbol
use Rattle.expr_tails.specs.declared.symbols.Word.TheVariants as word
use Rattle.expr_tails.specs.Symbols.{symbol_of}
use Rattle.expr_frames.specs.Generators.{are_generators, generators_begun}
use Rattle.expr_steps.specs.declared.braces.Asks.{Asks}
use Rattle.expr_steps.specs.declared.braces.Asks.TheVariants as asks
use Rattle.expr_steps.specs.declared.braces.Opened.{Opened}
use Rattle.expr_steps.specs.Braces.{opened, behind}
use Rattle.expr_steps.specs.Reading.{begun, is_read}
use Rattle.expr_steps.specs.Steps.{step}
use Rattle.parse_exprs.specs.declared.checks.Check.{Check}
use Rattle.parse_exprs.specs.declared.checks.Check.TheVariants as check
use Rattle.parse_exprs.specs.declared.checks.Checks.{Checks}
use Rattle.parse_exprs.specs.declared.checks.Entered.{Entered}
use Rattle.parse_exprs.specs.declared.checks.Round.{Round}
use Rattle.parse_exprs.specs.declared.checks.Round.TheVariants as round
use Rattle.parse_exprs.specs.Cases.{is_pattern, is_arrow}
use Rattle.parse_exprs.specs.Items.{is_case_word, is_template_word}

-- ---- lists of statements, where any tokens stand whose brackets match

abbrev pub same_round : Round → Round → Bool
same_round round.Round round.Round = true
same_round round.Square round.Square = true
same_round _ _ = false

abbrev pub closed : List Round → Round → Option (List Round)
closed [] is = None
closed (r ∷ rs) is = if same_round r is then Some rs else None

abbrev pub bracketed : List Round → Symbol → Option (List Round)
bracketed rs symbol.OpenRound = Some (round.Round ∷ rs)
bracketed rs symbol.OpenSquare = Some (round.Square ∷ rs)
bracketed rs symbol.CloseRound = closed rs round.Round
bracketed rs symbol.CloseSquare = closed rs round.Square
bracketed rs _ = Some rs

abbrev pub any_with : Bool → Option (List Round) → Option Check
any_with in_cases None = None
any_with in_cases (Some rs) = Some (check.Any in_cases rs)

abbrev pub in_any : Bool → List Round → Symbol → Option Check
in_any in_cases rs s = if in_cases && (is_nil rs && is_case_word s) then Some check.AtCase else any_with in_cases (bracketed rs s)

abbrev pub any : Check
any = check.Any false []

-- ---- cases

-- in the statements of a case
abbrev pub behind_arrow : Option Check
behind_arrow = Some (check.Any true [])

abbrev pub behind_pattern : Symbol → Option Check
behind_pattern symbol.Arrow = behind_arrow
behind_pattern (symbol.Word word.If) = Some (check.Guard (begun limit.CaseGuard))
behind_pattern _ = None

abbrev pub in_pattern : PatternState → Symbol → Lexeme → Option Check
in_pattern p s x =
    if patterns.admits p x then Some (check.Pattern (patterns.advanced p x)) else (if is_pattern p then behind_pattern s else None)

abbrev pub by : (State → Check) → Option State → Option Check
by to None = None
by to (Some s) = Some (to s)

-- a `)` does not close what `{` opened
abbrev pub in_generators : Option State → Option Check
in_generators None = None
in_generators (Some s) = if is_nil s.frames then None else Some (check.Generators s)

abbrev pub in_guard : State → Symbol → Lexeme → Option Check
in_guard g s x = if is_arrow s && is_read g then behind_arrow else by check.Guard (step g x)

abbrev pub in_begin : Bool → Symbol → Option Check
in_begin may_be_block s =
    if is_case_word s then Some (check.Pattern pattern_begun) else (if may_be_block then in_any false [] s else None)

-- a `class` or `object` behind `case` begins a definition that is no case
abbrev pub in_case : Symbol → Lexeme → Option Check
in_case s x = if is_template_word s then in_any true [] s else in_pattern pattern_begun s x

-- ---- one token

abbrev pub checked : Check → Symbol → Lexeme → Option Check
checked (check.Expr e) s x = by check.Expr (step e x)
checked (check.Generators e) s x = in_generators (step e x)
checked (check.Begin may_be_block) s x = in_begin may_be_block s
checked (check.Pattern p) s x = in_pattern p s x
checked (check.Guard g) s x = in_guard g s x
checked (check.Any in_cases rs) s x = in_any in_cases rs s
checked check.AtCase s x = in_case s x

-- behind a token that is no brace, if it can stand next
abbrev pub check_token : Check → Lexeme → Option Check
check_token c x = checked c (symbol_of x.kind x.word) x

-- ---- braces

abbrev pub inner_of : Asks → Check
inner_of asks.Generators = check.Generators generators_begun
inner_of asks.Cases = check.Begin false
inner_of asks.Any = check.Begin true

abbrev pub entered_by : Option Opened → Option Entered
entered_by None = None
entered_by (Some o) = Some (record { state = o.state; inner = inner_of o.asks })

abbrev pub entered : State → Newline → Option Entered
entered s before = entered_by (opened s before)

abbrev pub checks_by : (State → Check) → Option Entered → Option Checks
checks_by to None = None
checks_by to (Some e) = Some (record { outer = to e.state; inner = e.inner })

abbrev pub begin_opening : Bool → Option Checks
begin_opening may_be_block = if may_be_block then Some (record { outer = any; inner = any }) else None

-- the checks behind `{`, if it can stand next
abbrev pub check_opening : Check → Newline → Option Checks
check_opening (check.Expr s) before = checks_by check.Expr (entered s before)
check_opening (check.Generators s) before = checks_by check.Generators (entered s before)
check_opening (check.Guard s) before = checks_by check.Guard (entered s before)
check_opening (check.Any in_cases rs) before = Some (record { outer = check.Any in_cases rs; inner = any })
check_opening (check.Begin may_be_block) before = begin_opening may_be_block
check_opening _ before = None

-- `}` can stand next
abbrev pub may_close : Check → Bool
may_close (check.Generators e) = are_generators e
may_close (check.Begin may_be_block) = may_be_block
may_close (check.Any in_cases rs) = is_nil rs
may_close _ = false

-- behind a pair of braces that it has admitted
abbrev pub check_braces : Check → Braces → Check
check_braces (check.Expr s) b = check.Expr (behind s b)
check_braces (check.Generators s) b = check.Generators (behind s b)
check_braces (check.Guard s) b = check.Guard (behind s b)
check_braces c b = c
