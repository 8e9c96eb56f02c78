-- Imports (SLS 4.7), and the selectors in their braces.
use Rattle.std.specs.Prelude.{ℕ, ◌-◌, Bool, true, false, nat_lt, if◌then◌else◌}
use Rattle.std.specs.Prelude.{List, [], ◌∷◌, ◌++◌, length, slice_get, Option, Some, None}
use Rattle.pc_terms.specs.declared.problems.Span.{Span}
use Rattle.pc_terms.specs.declared.tree_kinds.TreeKind.TheVariants as kind
use Rattle.positioned_trees.specs.declared.details.Detail.TheVariants as detail
use Rattle.positioned_trees.specs.declared.details.ImportClause.{ImportClause}
use Rattle.positioned_trees.specs.declared.details.Name.{Name}
use Rattle.positioned_trees.specs.declared.details.Selector.{Selector}
use Rattle.positioned_trees.specs.declared.details.Selector.TheVariants as selector
use Rattle.source_grammar.specs.Lexemes.{Lexeme}
use Rattle.parse_parts.specs.Built.{no_kids}
use Rattle.tree_lower.specs.Lowering.{unlabelled, detailed}
use Rattle.expr_tails.specs.declared.items.Braces.{Braces}
use Rattle.expr_tails.specs.declared.items.Built.{Built}
use Rattle.expr_tails.specs.declared.symbols.Symbol.{Symbol}
use Rattle.expr_tails.specs.declared.symbols.Symbol.TheVariants as symbol
use Rattle.expr_steps.specs.Steps.{name_of}
use Rattle.expr_tails.specs.Symbols.{symbol_of}
use Rattle.import_steps.specs.declared.imports.Import.{Import}
use Rattle.import_steps.specs.declared.imports.Last.{Last}
use Rattle.import_steps.specs.declared.imports.Last.TheVariants as last
use Rattle.import_steps.specs.declared.imports.Selectors.{Selectors}
use Rattle.import_steps.specs.declared.imports.Tail.{Tail}
use Rattle.import_steps.specs.declared.imports.Tail.TheVariants as tail

abbrev pub begun : ℕ → Import
begun start = record { start = start; clauses = []; tail = tail.Begin }

abbrev pub is_ended : Tail → Bool
is_ended (tail.AtPath names) = nat_lt 1 (length names)
is_ended (tail.AtClause clause) = true
is_ended _ = false

abbrev pub is_import : Import → Bool
is_import i = is_ended i.tail

abbrev pub names_span : List Name → ℕ → Span
names_span [] end = record { start = end; end = end }
names_span (n ∷ ns) end = record { start = n.span.start; end = end }

abbrev pub clause_of : List Name → List Selector → ℕ → ImportClause
clause_of qualifier selectors end = record {
  span = names_span qualifier end;
  qualifier = qualifier;
  selectors = selectors;
}

-- the names before the last one, and that one as the selector
abbrev pub named_clause : List Name → List Name → List ImportClause
named_clause before [] = []
named_clause before (n ∷ []) = clause_of before (selector.Named n ∷ []) n.span.end ∷ []
named_clause before (n ∷ next ∷ ns) = named_clause (before ++ n ∷ []) (next ∷ ns)

abbrev pub ended : Tail → List ImportClause
ended (tail.AtPath names) = named_clause [] names
ended (tail.AtClause clause) = clause ∷ []
ended _ = []

abbrev pub at : ℕ → List ImportClause → Option Tail → Option Import
at start clauses None = None
at start clauses (Some now) = Some (record { start = start; clauses = clauses; tail = now })

abbrev pub with_name : List Name → Name → Tail
with_name names name = tail.AtPath (names ++ name ∷ [])

abbrev pub wild_clause : List Name → Span → Tail
wild_clause names span = tail.AtClause (clause_of names (selector.Wildcard span ∷ []) span.end)

abbrev pub behind_dot : List Name → Symbol → Lexeme → Option Tail
behind_dot names symbol.Id x = Some (with_name names (name_of x))
behind_dot names symbol.Underscore x = Some (wild_clause names x.place.span)
behind_dot names _ x = None

abbrev pub parted : Import → Option Import
parted i =
    if is_import i then Some (record { start = i.start; clauses = i.clauses ++ ended i.tail; tail = tail.Begin }) else None

abbrev pub begun_path : Symbol → Lexeme → Option Tail
begun_path symbol.Id x = Some (with_name [] (name_of x))
begun_path _ x = None

abbrev pub behind_path : List Name → Symbol → Option Tail
behind_path names symbol.Dot = Some (tail.AtDot names)
behind_path names _ = None

abbrev pub name_step : Tail → Symbol → Lexeme → Option Tail
name_step tail.Begin s x = begun_path s x
name_step (tail.AtPath names) s x = behind_path names s
name_step (tail.AtDot names) s x = behind_dot names s x
name_step (tail.AtClause clause) s x = None

abbrev pub path_step : Import → Symbol → Lexeme → Option Import
path_step i s x = at i.start i.clauses (name_step i.tail s x)

abbrev pub step_by : Symbol → Lexeme → Import → Option Import
step_by symbol.Comma x i = parted i
step_by s x i = path_step i s x

-- the import with one token more, if it can stand next
abbrev pub step : Import → Lexeme → Option Import
step i x = step_by (symbol_of x.kind x.word) x i

abbrev pub selected : Tail → Option (List Selector) → ℕ → Option Tail
selected (tail.AtDot names) (Some selectors) end = Some (tail.AtClause (clause_of names selectors end))
selected _ _ end = None

-- the import with the selectors in braces, if they can stand next
abbrev pub step_braces : Import → Braces → Option Import
step_braces i b = at i.start i.clauses (selected i.tail b.selectors b.span.end)

abbrev pub end_in : ℕ → Option ImportClause → ℕ
end_in end None = end
end_in end (Some c) = c.span.end

-- where the last of these ends
abbrev pub last_end : ℕ → List ImportClause → ℕ
last_end end cs = end_in end (slice_get cs (length cs - 1))

-- the tree of an import
abbrev pub import_at : Import → Built
import_at i = record {
  tall = detailed (detail.Import (i.clauses ++ ended i.tail))
      (unlabelled kind.Import (record { start = i.start; end = last_end i.start (i.clauses ++ ended i.tail) }) no_kids);
  free = [];
}

-- ---- selectors

abbrev pub selectors_begun : Selectors
selectors_begun = record { before = []; last = last.Begin }

abbrev pub last_selector : Last → Option Selector
last_selector (last.AtName name) = Some (selector.Named name)
last_selector (last.Whole s) = Some s
last_selector (last.Wild span) = Some (selector.Wildcard span)
last_selector _ = None

abbrev pub with_last : List Selector → Option Selector → Option (List Selector)
with_last before None = None
with_last before (Some s) = Some (before ++ s ∷ [])

-- the selectors, where what was read is whole
abbrev pub selectors_at : Selectors → Option (List Selector)
selectors_at ss = with_last ss.before (last_selector ss.last)

abbrev pub next_begun : Option (List Selector) → Option Selectors
next_begun None = None
next_begun (Some before) = Some (record { before = before; last = last.Begin })

abbrev pub is_wild : Last → Bool
is_wild (last.Wild span) = true
is_wild _ = false

-- `_` is the last
abbrev pub next_selector : Selectors → Option Selectors
next_selector ss = if is_wild ss.last then None else next_begun (selectors_at ss)

abbrev pub first_of : Symbol → Lexeme → Option Last
first_of symbol.Id x = Some (last.AtName (name_of x))
first_of symbol.Underscore x = Some (last.Wild x.place.span)
first_of _ x = None

abbrev pub behind_name : Name → Symbol → Option Last
behind_name name symbol.Arrow = Some (last.AtArrow name)
behind_name name _ = None

abbrev pub behind_arrow : Name → Symbol → Lexeme → Option Last
behind_arrow name symbol.Id x = Some (last.Whole (selector.Renamed name (name_of x)))
behind_arrow name symbol.Underscore x = Some (last.Whole (selector.Hidden name))
behind_arrow name _ x = None

abbrev pub selector_step : Last → Symbol → Lexeme → Option Last
selector_step last.Begin s x = first_of s x
selector_step (last.AtName name) s x = behind_name name s
selector_step (last.AtArrow name) s x = behind_arrow name s x
selector_step _ s x = None

abbrev pub with_now : List Selector → Option Last → Option Selectors
with_now before None = None
with_now before (Some now) = Some (record { before = before; last = now })

abbrev pub step_within : Selectors → Symbol → Lexeme → Option Selectors
step_within ss s x = with_now ss.before (selector_step ss.last s x)

abbrev pub step_selector_by : Symbol → Lexeme → Selectors → Option Selectors
step_selector_by symbol.Comma x ss = next_selector ss
step_selector_by s x ss = step_within ss s x

-- the selectors with one token more, if it can stand next
abbrev pub step_selector : Selectors → Lexeme → Option Selectors
step_selector ss x = step_selector_by (symbol_of x.kind x.word) x ss
