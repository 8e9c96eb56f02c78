-- Lists of statements: divided, and built. The machine of one statement is what a list is read with.
use Rattle.std.specs.Prelude.{ℕ, zero, suc, ◌+◌, ◌-◌, ◌==◌, Bool, true, false, ◌&&◌, if◌then◌else◌, List, [], ◌∷◌, ◌++◌, map, take, drop, Option, Some, None}
use Rattle.pc_terms.specs.declared.problems.Span.{Span}
use Rattle.pc_terms.specs.declared.tree_kinds.TreeKind.TheVariants as kind
use Rattle.parse_parts.specs.Built.{no_kids, joined}
use Rattle.parse_parts.specs.declared.built.Kids.{Kids}
use Rattle.reading_machines.specs.Machines.{Machine, run, reading_of}
use Rattle.tree_lower.specs.Lowering.{unlabelled}
use Rattle.expr_tails.specs.declared.items.Built.{Built}
use Rattle.expr_tails.specs.declared.symbols.Symbol.{Symbol}
use Rattle.expr_steps.specs.Reading.{Item}
use Rattle.parse_exprs.specs.declared.lists.BuiltList.{BuiltList}
use Rattle.parse_exprs.specs.Items.{symbol_at, span_at, separates, is_semicolon, depth_behind, shape_of}
-- one statement of a list: how many `;` stand before it, how many items it has, whether they are none, and where they stand
pub use Rattle.parse_exprs.specs.declared.lists.Cut.{Cut}

-- What a list consists of. The shape is the same without the trees in it.
pub record Elements (I : Type 0) : Type 0 where
  pub symbol : I → Symbol
  pub span : I → Span
  pub separates : I → Bool
  pub shape : I → I

abbrev pub of_items : Elements Item
of_items = record { symbol = symbol_at; span = span_at; separates = separates; shape = shape_of }

-- ---- from where to where

abbrev pub end_of : ℕ → List Span → ℕ
end_of end [] = end
end_of end (span ∷ spans) = end_of span.end spans

-- from the first of these to the last
abbrev pub span_over : List Span → Option Span
span_over [] = None
span_over (span ∷ spans) = Some (record { start = span.start; end = end_of span.end spans })

-- from the start of what was read to the end of what is read last
abbrev pub span_with : Option Span → Span → Span
span_with None next = next
span_with (Some span) next = record { start = span.start; end = next.end }

abbrev pub over_all : List Span → Span
over_all [] = record { start = 0; end = 0 }
over_all (span ∷ spans) = record { start = span.start; end = end_of span.end spans }

abbrev pub cut_span : Cut → Span
cut_span cut = cut.span

-- from the first statement to the last
abbrev pub whole_span : List Cut → Option Span
whole_span cuts = span_over (map cut_span cuts)

-- ---- items

-- One statement of a list: its items, whether they are none, and where they stand.
pub record Piece (I : Type 0) : Type 0 where
  pub items : List I
  pub broken : Bool
  pub span : Span

module _ {I : Type 0} (e : Elements I) where
  -- a separator, or the end of the list
  abbrev pub ends_statement : List I → Bool
  ends_statement [] = true
  ends_statement (i ∷ is) = e.separates i

  -- how many items stand before the next separator outside brackets
  abbrev pub before_separator : ℕ → List I → ℕ
  before_separator depth [] = 0
  before_separator depth (i ∷ is) =
      if depth == 0 && e.separates i then 0 else suc (before_separator (depth_behind depth (e.symbol i)) is)

  abbrev pub broken_length : List I → ℕ
  broken_length [] = 0
  broken_length (i ∷ is) = suc (before_separator (depth_behind 0 (e.symbol i)) is)

  abbrev pub items_span : List I → Span
  items_span items = over_all (map e.span items)

  -- the statement that the items begin with, behind this many `;`
  abbrev pub cut_of : ℕ → Option ℕ → List I → Cut
  cut_of skip None items =
      record { skip = skip; count = broken_length items; broken = true; span = items_span (take (broken_length items) items) }
  cut_of skip (Some count) items = record { skip = skip; count = count; broken = false; span = items_span (take count items) }

  abbrev pub piece_of : Cut → List I → Piece I
  piece_of cut items = record { items = take cut.count items; broken = cut.broken; span = cut.span }

  abbrev pub pieces_by : List Cut → List I → List (Piece I)
  pieces_by [] items = []
  pieces_by (cut ∷ cuts) items = piece_of cut (drop cut.skip items) ∷ pieces_by cuts (drop cut.count (drop cut.skip items))

-- ---- statements

-- `built` is what a statement becomes whose last item ends here
module _ {I S : Type 0} (e : Elements I) (statements : Machine S I) (built : S → ℕ → Built) where
  -- How many items the longest statement has that has a separator or the end behind it. It does not depend on the trees in them.
  abbrev pub longest : List I → Option ℕ
  longest items = (reading_of statements (ends_statement e) (map e.shape items)).best

  abbrev pub cut_at : ℕ → List I → Cut
  cut_at skip items = cut_of e skip (longest items) items

  -- The statements of a list, without empty ones. The first number of items belong to the statement before; the second is how many `;`
  -- were passed behind it.
  abbrev pub cuts_behind : ℕ → ℕ → List I → List Cut
  cuts_behind n skip [] = []
  cuts_behind (suc n) skip (i ∷ is) = cuts_behind n skip is
  cuts_behind zero skip (i ∷ is) =
      if is_semicolon (e.symbol i) then cuts_behind 0 (skip + 1) is
      else cut_at skip (i ∷ is) ∷ cuts_behind ((cut_at skip (i ∷ is)).count - 1) 0 is

  abbrev pub divided : List I → List Cut
  divided items = cuts_behind 0 0 items

  abbrev pub pieces : List I → List (Piece I)
  pieces items = pieces_by e (divided items) items

  abbrev pub built_from : Option S → ℕ → Built
  built_from None end = record { tall = None; free = [] }
  built_from (Some s) end = built s end

  abbrev pub built_piece : Piece I → Built
  built_piece p =
      if p.broken then record { tall = unlabelled kind.Broken p.span no_kids; free = [] }
      else built_from (run statements.step p.items statements.start) p.span.end

  abbrev pub built_pieces : Option Span → Option Kids → List Span → List (Piece I) → BuiltList
  built_pieces span kids free [] = record { kids = kids; free = free; span = span }
  built_pieces span kids free (p ∷ ps) = built_pieces span (joined kids (built_piece p).tall) (free ++ (built_piece p).free) ps

  -- the trees of a list of statements
  abbrev pub built_list : List I → BuiltList
  built_list items = built_pieces (whole_span (divided items)) no_kids [] (pieces items)
