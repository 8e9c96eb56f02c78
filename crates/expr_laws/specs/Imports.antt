-- Which tokens are the selectors of an import, which items are an import where a pair of braces is one item, and their readers as machines.
use Rattle.std.specs.Prelude.{◌≡◌, List, [], ◌∷◌, ◌++◌, map, Option, Some, None, is_some}
use Rattle.reading_machines.specs.Machines.{Machine}
use Rattle.positioned_trees.specs.declared.details.Selector.{Selector}
use Rattle.source_grammar.specs.Definitions.{Behind, behind_tokens, behind_items, Sel, sel_tokens, OnlyLastIsWild, ImpExpr, ImportName, ImportWild, ImportSels, Import, ProperImport}
use Rattle.source_grammar.specs.DefinitionTrees.{selector_of}
use Rattle.source_grammar.specs.Lexemes.{Place, Lexeme, comma, dot, underscore, id_token, qual_id_tokens}
use Rattle.expr_tails.specs.declared.items.Inside.{Inside}
use Rattle.expr_steps.specs.Reading as reading
use Rattle.import_steps.specs.declared.imports.Import.{Import as ImportState}
use Rattle.import_steps.specs.declared.imports.Selectors.{Selectors as SelectorsState}
use Rattle.import_steps.specs.Imports.{begun, step, step_braces, is_import, selectors_begun, step_selector, selectors_at}
use Rattle.expr_laws.specs.Pictures.{pair_shown}

-- ---- selectors

-- Sel,..
pub record SelList : Type 0 where
  pub sel : Sel
  pub others : List (Behind Sel)

abbrev pub sel_list_tokens : SelList → List Lexeme
sel_list_tokens s = sel_tokens s.sel ++ behind_tokens sel_tokens s.others

abbrev pub selectors_of : SelList → List Selector
selectors_of s = selector_of s.sel ∷ map selector_of (behind_items s.others)

-- These tokens are selectors.
pub record AreSelectors (xs : List Lexeme) : Type 0 where
  pub derivation : SelList
  pub proper : OnlyLastIsWild derivation.sel derivation.others
  pub tokens : xs ≡ sel_list_tokens derivation

abbrev pub selectors_reader : Machine SelectorsState Lexeme
selectors_reader = record { start = selectors_begun; step = step_selector; whole = λ s. is_some (selectors_at s) }

-- ---- items

-- a token, or a pair of braces with the selectors in it
pub data ImportItem : Type 0 where
  ImportToken : Lexeme → ImportItem
  Selectors : (opening : Place) → Sel → List (Behind Sel) → (closing : Place) → ImportItem
  -- what has none in it
  NoSelectors : (opening : Place) → List Lexeme → (closing : Place) → ImportItem

abbrev pub import_tokens_of : List Lexeme → List ImportItem
import_tokens_of [] = []
import_tokens_of (x ∷ xs) = ImportToken x ∷ import_tokens_of xs

abbrev pub clause_items : ImpExpr → List ImportItem
clause_items (ImportName path point id) = import_tokens_of (qual_id_tokens path) ++ ImportToken (dot point) ∷ ImportToken (id_token id) ∷ []
clause_items (ImportWild path point wild) = import_tokens_of (qual_id_tokens path) ++ ImportToken (dot point) ∷ ImportToken (underscore wild) ∷ []
clause_items (ImportSels path point o sel sels k) = import_tokens_of (qual_id_tokens path) ++ ImportToken (dot point) ∷ Selectors o sel sels k ∷ []

abbrev pub others_items : List (Behind ImpExpr) → List ImportItem
others_items [] = []
others_items (b ∷ bs) = ImportToken (comma b.comma) ∷ (clause_items b.item ++ others_items bs)

-- those after the word `import`
abbrev pub import_items : Import → List ImportItem
import_items i = clause_items i.first ++ others_items i.others

-- What a reader has of an item. What its braces are to an expression is any.
abbrev pub import_picture : Inside → ImportItem → reading.Item
import_picture inside (ImportToken x) = reading.OneToken x
import_picture inside (Selectors o sel sels k) = pair_shown (Some (selectors_of (record { sel = sel; others = sels }))) o k inside
import_picture inside (NoSelectors o xs k) = pair_shown None o k inside

abbrev pub ProperImportItem : ImportItem → Type 0
ProperImportItem (Selectors o sel sels k) = OnlyLastIsWild sel sels
ProperImportItem _ = Unit {0}

-- an item whose selectors have been read
pub record ReadImportItem : Type 0 where
  pub inside : Inside
  pub item : ImportItem
  pub proper : ProperImportItem item

abbrev pub import_items_of : List ReadImportItem → List ImportItem
import_items_of [] = []
import_items_of (i ∷ is) = i.item ∷ import_items_of is

-- These are the items of an import after its word, which stands here.
pub record AreOfImport (word : Place) (is : List ReadImportItem) : Type 0 where
  pub derivation : Import
  pub stands : derivation.word ≡ word
  pub proper : ProperImport derivation
  pub items : import_items_of is ≡ import_items derivation

abbrev pub import_stepped : ImportState → reading.Item → Option ImportState
import_stepped s (reading.OneToken x) = step s x
import_stepped s (reading.Pair b) = step_braces s b

-- the reader of imports on pictures of items
abbrev pub import_reader : Place → Machine ImportState ReadImportItem
import_reader word = record {
  start = begun word.span.start;
  step = λ s i. import_stepped s (import_picture i.inside i.item);
  whole = is_import;
}
