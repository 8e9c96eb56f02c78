-- The package clauses that a unit begins with.
use Rattle.std.specs.Prelude.{ℕ, zero, suc, ◌+◌, ◌*◌, Bool, true, false, ◌&&◌, if◌then◌else◌, List, [], ◌∷◌, ◌++◌, length, map, drop, Option, Some, None, codes}
use Rattle.pc_terms.specs.declared.problems.Span.{Span}
use Rattle.pc_terms.specs.declared.tree_kinds.TreeKind.TheVariants as kind
use Rattle.positioned_trees.specs.declared.details.Detail.TheVariants as detail
use Rattle.positioned_trees.specs.declared.details.Name.{Name}
use Rattle.scan_tokens.specs.Words.{Bytes}
use Rattle.source_grammar.specs.Brackets.{is_semicolon}
use Rattle.source_grammar.specs.Lexemes.{Lexeme}
use Rattle.source_grammar.specs.Units.{begins_apart}
use Rattle.parse_parts.specs.Built.{no_kids, joined, node}
use Rattle.parse_parts.specs.Steps.{from_to}
use Rattle.parse_parts.specs.declared.built.Kids.{Kids}
use Rattle.parse_parts.specs.declared.built.Tall.{Tall}
use Rattle.tree_lower.specs.Lowering.{detailed}
use Rattle.expr_tails.specs.Symbols.{symbol_of}
use Rattle.expr_tails.specs.declared.symbols.Symbol.{Symbol}
use Rattle.expr_tails.specs.declared.symbols.Symbol.TheVariants as symbol
use Rattle.expr_steps.specs.Steps.{name_of}
use Rattle.parse_exprs.specs.Lists.{over_all}
use Rattle.template_steps.specs.Templates.{is_word}
use Rattle.tree_parser.specs.declared.packages.Clause.{Clause}
use Rattle.tree_parser.specs.declared.packages.Packages.{Packages}

-- ---- one token

abbrev pub symbol_in : List Lexeme → Symbol
symbol_in [] = symbol.Other
symbol_in (x ∷ xs) = symbol_of x.kind x.word

abbrev pub is_id_symbol : Symbol → Bool
is_id_symbol symbol.Id = true
is_id_symbol _ = false

abbrev pub is_dot_symbol : Symbol → Bool
is_dot_symbol symbol.Dot = true
is_dot_symbol _ = false

abbrev pub is_id : List Lexeme → Bool
is_id xs = is_id_symbol (symbol_in xs)

-- a dot, and an identifier behind it
abbrev pub is_step : List Lexeme → Bool
is_step xs = is_dot_symbol (symbol_in xs) && is_id (drop 1 xs)

-- ---- one clause

-- the names behind the first one of a path
abbrev pub names_in : List Lexeme → List Name
names_in [] = []
names_in (dot ∷ []) = []
names_in (dot ∷ x ∷ xs) = if is_step (dot ∷ x ∷ xs) then name_of x ∷ names_in xs else []

-- the clause whose path stands here, where it starts, and the number of the first token of its path
abbrev pub path_of : ℕ → ℕ → List Lexeme → Clause
path_of start at [] = record { start = start; names = []; behind = at }
path_of start at (x ∷ xs) =
    record { start = start; names = name_of x ∷ names_in xs; behind = at + 1 + 2 * length (names_in xs) }

abbrev pub parted_clause : Clause → List Lexeme → Option Clause
parted_clause clause behind = if begins_apart behind then Some clause else None

-- the first of these has this number among all
abbrev pub clause_from : ℕ → List Lexeme → Option Clause
clause_from at [] = None
clause_from at (x ∷ xs) = if is_word (codes "package") x && is_id xs then Some (path_of x.place.span.start (at + 1) xs) else None

abbrev pub parted_by : List Lexeme → Option Clause → Option Clause
parted_by all None = None
parted_by all (Some clause) = parted_clause clause (drop clause.behind all)

-- a clause with a separator behind it
abbrev pub clause_at : List Lexeme → ℕ → Option Clause
clause_at all at = parted_by all (clause_from at (drop at all))

-- how many semicolons stand first
abbrev pub semicolons : List Lexeme → ℕ
semicolons [] = 0
semicolons (x ∷ xs) = if is_semicolon x then suc (semicolons xs) else 0

-- ---- its tree

abbrev pub name_span : Name → Span
name_span name = name.span

abbrev pub path_span : List Name → Span
path_span names = over_all (map name_span names)

abbrev pub dotted : List Name → Bytes
dotted [] = []
dotted (name ∷ names) = codes "." ++ name.text ++ dotted names

abbrev pub path_text : List Name → Bytes
path_text [] = []
path_text (name ∷ names) = name.text ++ dotted names

-- It ends with its path.
abbrev pub clause_tree : Clause → Option Tall
clause_tree clause = detailed (detail.Package clause.names)
    (node kind.Package (path_text clause.names) (path_span clause.names) (from_to clause.start (path_span clause.names).end) no_kids)

-- ---- all clauses

-- the number of the token behind a clause and its separator, which takes all semicolons that stand there
abbrev pub behind_clause : List Lexeme → Clause → ℕ
behind_clause all clause = clause.behind + semicolons (drop clause.behind all)

abbrev pub clause_or : Option Clause → Packages → (Clause → Packages) → Packages
clause_or None packages further = packages
clause_or (Some clause) packages further = further clause

-- the clauses that stand from the token of this number on, at most so many, behind these
abbrev pub packages_by : ℕ → List Lexeme → ℕ → Option Kids → Packages
packages_by zero all at kids = record { kids = kids; behind = at }
packages_by (suc n) all at kids =
    clause_or (clause_at all at) (record { kids = kids; behind = at })
    (λ clause. packages_by n all (behind_clause all clause) (joined kids (clause_tree clause)))

-- The package clauses that the tokens begin with. Each has two tokens or more.
abbrev pub packages_of : List Lexeme → Packages
packages_of all = packages_by (length all) all 0 no_kids
