-- Which items are one statement of a block, and the reader of statements as a machine on them.
use Rattle.std.specs.Prelude.{◌≡◌, Bool, true, false, not, ◌&&◌, ◌||◌, if◌then◌else◌, List, [], ◌∷◌, ◌++◌, map, Option, Some, None, codes}
use Rattle.reading_machines.specs.Machines.{Machine}
use Rattle.positioned_trees.specs.declared.details.Selector.{Selector}
use Rattle.source_grammar.specs.Definitions.{Import}
use Rattle.source_grammar.specs.Expressions.{WithinExpr, Expr, Def, BStat, ImportBStat, DefBStat, ExprBStat}
use Rattle.source_grammar.specs.ExpressionRules.{Rule, ProperBStat}
use Rattle.source_grammar.specs.ExpressionTokens.{block_tokens, cases_tokens, enums_tokens}
use Rattle.source_grammar.specs.Lexemes.{Lexeme, word_at}
use Rattle.expr_tails.specs.declared.symbols.Symbol.{Symbol}
use Rattle.expr_tails.specs.declared.symbols.Symbol.TheVariants as symbol
use Rattle.expr_tails.specs.Symbols.{symbol_of}
use Rattle.expr_steps.specs.Reading.{Item as Picture}
use Rattle.parse_exprs.specs.declared.statements.Statement.{Statement}
use Rattle.parse_exprs.specs.declared.statements.Statement.TheVariants as statement
use Rattle.parse_exprs.specs.Statements.{stepped, is_whole}
use Rattle.expr_laws.specs.Definitions.{ReadMods, mods_of, mods_items, def_items, within, ReadDefItem, def_items_of}
use Rattle.expr_laws.specs.Exactly.{picture, InLines, lined}
use Rattle.expr_laws.specs.Imports.{AreSelectors, selectors_of, sel_list_tokens, ImportItem, ImportToken, Selectors, NoSelectors, import_items}
use Rattle.expr_laws.specs.Items.{Item, OneToken, BlockPair, CasesPair, EnumsPair, OtherPair, item_tokens, items_tokens, expr_items}
use Rattle.expr_laws.specs.Newlines.{newlines_end, NewlinesEnd, ended_by}

-- ---- statements, and their items

-- One statement. The modifiers of a definition have the items in the arguments of their annotations.
pub data ReadStatement : Type 0 where
  OfImport : Import → ReadStatement
  OfDefinition : ReadMods → Def → ReadStatement
  OfExpr : Expr → ReadStatement

abbrev pub statement_of : ReadStatement → BStat
statement_of (OfImport i) = ImportBStat i
statement_of (OfDefinition mods def) = DefBStat (mods_of mods) def
statement_of (OfExpr expr) = ExprBStat expr

-- Before a statement is read it is not known whether a pair of braces is one of an import. So what stands in it has been read as that of
-- an expression, and the selectors in it besides. An import says nothing of the former: its items are compared as pairs in which nothing
-- was read.
abbrev pub outline : Item → Item
outline (OneToken x) = OneToken x
outline (BlockPair o block k) = OtherPair o (block_tokens block) k
outline (CasesPair o cases k) = OtherPair o (cases_tokens cases) k
outline (EnumsPair o enums k) = OtherPair o (enums_tokens enums) k
outline (OtherPair o xs k) = OtherPair o xs k

abbrev pub import_outline : ImportItem → Item
import_outline (ImportToken x) = OneToken x
import_outline (Selectors o sel sels k) = OtherPair o (sel_list_tokens (record { sel = sel; others = sels })) k
import_outline (NoSelectors o xs k) = OtherPair o xs k

-- those of an import, with its word
abbrev pub import_outlines : Import → List Item
import_outlines i = OneToken (word_at (codes "import") i.word) ∷ map import_outline (import_items i)

abbrev pub AreItemsOf : ReadStatement → List Item → Type 0
AreItemsOf (OfImport i) items = map outline items ≡ import_outlines i
AreItemsOf (OfDefinition mods def) items = items ≡ mods_items mods ++ def_items def
AreItemsOf (OfExpr expr) items = items ≡ expr_items expr

-- ---- the selectors in braces

-- Where selectors are given, these tokens are those. Behind a `.` none are given only where the tokens are no selectors.
abbrev pub SelectorsAre : (dotted : Bool) → List Lexeme → Option (List Selector) → Type 0
SelectorsAre dotted xs (Some selectors) = (a : AreSelectors xs) × (selectors_of a.derivation ≡ selectors)
SelectorsAre true xs None = AreSelectors xs → ⊥
SelectorsAre false xs None = Unit {0}

abbrev pub KnownSelectors : (dotted : Bool) → Item → Option (List Selector) → Type 0
KnownSelectors dotted (OneToken x) selectors = Unit {0}
KnownSelectors dotted i selectors = SelectorsAre dotted (within i) selectors

abbrev pub is_dot_symbol : Symbol → Bool
is_dot_symbol symbol.Dot = true
is_dot_symbol _ = false

abbrev pub is_dot : Item → Bool
is_dot (OneToken x) = is_dot_symbol (symbol_of x.kind x.word)
is_dot _ = false

-- a state, and whether a `.` stands before it
pub record BehindDot (S : Type 0) : Type 0 where
  pub dotted : Bool
  pub state : S

abbrev pub behind : {S : Type 0} → Bool → Option S → Option (BehindDot S)
behind dotted None = None
behind dotted (Some s) = Some (record { dotted = dotted; state = s })

-- ---- one statement of a block

module _ (rule : Rule) where
  -- An item of one level, whose braces have been read, also as selectors where it says that a `.` stands before it.
  pub record ReadStatementItem : Type 0 where
    pub item : ReadDefItem rule
    pub dotted : Bool
    pub selectors : KnownSelectors dotted item.given.item item.given.selectors

  abbrev pub read_items : List ReadStatementItem → List (ReadDefItem rule)
  read_items is = map (λ i. i.item) is

  abbrev pub statement_items : List ReadStatementItem → List Item
  statement_items is = def_items_of rule (read_items is)

  abbrev pub statement_pictures : List ReadStatementItem → List Picture
  statement_pictures is = map (λ i. picture i.item.given) is

  -- each item behind a `.` says so; `dotted` says whether the first one is
  abbrev pub dots_told : (dotted : Bool) → List ReadStatementItem → Bool
  dots_told dotted [] = true
  dots_told dotted (i ∷ is) = (not dotted || i.dotted) && dots_told (is_dot i.item.given.item) is

  -- These are the items of a statement of a block, newlines count in them only after tokens that can end a statement, and items behind a
  -- `.` say so.
  pub record AreOfStatement (is : List ReadStatementItem) : Type 0 where
    pub derivation : ReadStatement
    pub proper : ProperBStat rule WithinExpr (statement_of derivation)
    pub items : AreItemsOf derivation (statement_items is)
    pub newlines : NewlinesEnd (items_tokens (statement_items is))
    pub dots : dots_told false is ≡ true

  abbrev pub step_behind : BehindDot Statement → ReadStatementItem → Option (BehindDot Statement)
  step_behind s i =
      if not s.dotted || i.dotted then behind (is_dot i.item.given.item) (stepped s.state (picture i.item.given)) else None

  abbrev pub statement_in_lines : InLines (BehindDot Statement) → ReadStatementItem → Option (InLines (BehindDot Statement))
  statement_in_lines s i =
      if newlines_end s.ended (item_tokens i.item.given.item)
      then lined (ended_by s.ended (item_tokens i.item.given.item)) (step_behind s.state i) else None

  -- The reader on pictures of items. It refuses newlines as no scanner counts them, and items behind a `.` whose selectors were not read.
  abbrev pub statements_in_lines : Machine (InLines (BehindDot Statement)) ReadStatementItem
  statements_in_lines = record {
    start = record { ended = true; state = record { dotted = false; state = statement.Begin } };
    step = statement_in_lines;
    whole = λ s. is_whole s.state.state;
  }
