-- The list of a block: its items, divided into statements, and which items are a list as the grammar has it.
use Rattle.std.specs.Prelude.{◌≡◌, true, false, List, [], ◌∷◌, ◌++◌, Option, Some, None}
use Rattle.pc_terms.specs.declared.problems.Span.{Span}
use Rattle.source_grammar.specs.Expressions.{WithinExpr, Sep, BStat, EmptyBStat, BrokenBStat, BStats, LastBStat, MoreBStats}
use Rattle.source_grammar.specs.ExpressionRules.{Rule, ProperBStats}
use Rattle.source_grammar.specs.ExpressionTokens.{sep_tokens}
use Rattle.source_grammar.specs.ExpressionTrees.{bstats_built, bstats_spans, last_end}
use Rattle.source_grammar.specs.Placeholders.{trees_of, free_of}
use Rattle.parse_parts.specs.Keeping.{kept_all}
use Rattle.tree_lower.specs.Keeping.{places_shown}
use Rattle.expr_steps.specs.Reading.{Item as Picture}
use Rattle.expr_laws.specs.Exactly.{picture}
use Rattle.expr_laws.specs.Items.{Item, items_tokens, tokens}
use Rattle.expr_laws.specs.Newlines.{NewlinesEnd}
use Rattle.parse_exprs.specs.declared.lists.BuiltList.{BuiltList}
use Rattle.parse_exprs.specs.Lists.{of_items, Piece}
use Rattle.statement_laws.specs.Statements.{ReadStatement, statement_of, AreItemsOf, ReadStatementItem, statement_items, AreOfStatement, dots_told}
use Rattle.list_laws.specs.Divided.{Part, Divided, parts, piece_shown}

-- ---- a list of the grammar, with its items

-- BStat, with the items where it is none of the others
pub data ReadStat : Type 0 where
  Whole : ReadStatement → ReadStat
  Empty : ReadStat
  NoStatement : List Item → ReadStat

-- BStat {sep BStat}
pub data ReadStats : Type 0 where
  LastStat : ReadStat → ReadStats
  MoreStats : ReadStat → Sep → ReadStats → ReadStats

abbrev pub bstat_of : ReadStat → BStat
bstat_of (Whole d) = statement_of d
bstat_of Empty = EmptyBStat
bstat_of (NoStatement items) = BrokenBStat (items_tokens items)

abbrev pub bstats_of : ReadStats → BStats
bstats_of (LastStat stat) = LastBStat (bstat_of stat)
bstats_of (MoreStats stat sep stats) = MoreBStats (bstat_of stat) sep (bstats_of stats)

abbrev pub AreItemsOfStat : ReadStat → List Item → Type 0
AreItemsOfStat (Whole d) items = AreItemsOf d items
AreItemsOfStat Empty items = items ≡ []
AreItemsOfStat (NoStatement front) items = items ≡ front

abbrev pub AreItemsOfStats : ReadStats → List Item → Type 0
AreItemsOfStats (LastStat stat) items = AreItemsOfStat stat items
AreItemsOfStats (MoreStats stat sep stats) items =
    (front : List Item) × (behind : List Item) × (items ≡ front ++ (tokens (sep_tokens sep) ++ behind)) × AreItemsOfStat stat front
    × AreItemsOfStats stats behind

-- the items of each statement that is not empty, and whether it is none
abbrev pub stat_parts : ReadStat → List Item → List (Part Item) → List (Part Item)
stat_parts (Whole d) items behind = record { items = items; broken = false } ∷ behind
stat_parts Empty items behind = behind
stat_parts (NoStatement front) items behind = record { items = items; broken = true } ∷ behind

abbrev pub written_parts : (stats : ReadStats) (items : List Item) → AreItemsOfStats stats items → List (Part Item)
written_parts (LastStat stat) items a = stat_parts stat items []
written_parts (MoreStats stat sep stats) items a = stat_parts stat a.0 (written_parts stats a.1 a.4)

-- ---- its trees

-- from the first to the last, where there is one
abbrev pub span_shown : List Span → Option Span
span_shown [] = None
span_shown (span ∷ spans) = Some (last_end span spans)

-- What the reader has of a list: its trees as far as they are kept, the placeholders that nothing in it binds, and where it stands.
abbrev pub list_shown : BStats → BuiltList
list_shown stats = record {
  kids = kept_all (trees_of (bstats_built stats));
  free = places_shown (free_of (bstats_built stats));
  span = span_shown (bstats_spans stats);
}

-- ---- its items

module _ (rule : Rule) where
  abbrev pub picture_of : ReadStatementItem rule → Picture
  picture_of i = picture i.item.given

  -- the items of a list, so divided
  abbrev pub DividedList : List (ReadStatementItem rule) → Type 0
  DividedList is = Divided of_items picture_of (AreOfStatement rule) is

  -- These are the items of a list of statements, newlines count in them only after tokens that can end a statement, and items after a `.`
  -- say so.
  pub record AreOfList (is : List (ReadStatementItem rule)) : Type 0 where
    pub derivation : ReadStats
    pub proper : ProperBStats rule WithinExpr (bstats_of derivation)
    pub items : AreItemsOfStats derivation (statement_items rule is)
    pub newlines : NewlinesEnd (items_tokens (statement_items rule is))
    pub dots : dots_told rule false is ≡ true

  abbrev pub parts_of : {is : List (ReadStatementItem rule)} → DividedList is → List (Part (ReadStatementItem rule))
  parts_of a = parts of_items picture_of (AreOfStatement rule) a

  -- a part, as the grammar has its items
  abbrev pub items_of_part : Part (ReadStatementItem rule) → Part Item
  items_of_part p = record { items = statement_items rule p.items; broken = p.broken }

  -- what the reader has of a part
  abbrev pub piece_of : Part (ReadStatementItem rule) → Piece Picture
  piece_of p = piece_shown of_items picture_of (AreOfStatement rule) p
