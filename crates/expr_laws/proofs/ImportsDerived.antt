-- The machines that read an import and the selectors in its braces, over the derivations that the items so far are parts of.
use Rattle.std.proofs.Common.{List, [], ◌∷◌, ◌++◌, Option, Some, None}
use Rattle.reading_machines.specs.Machines.{Machine}
use Rattle.source_grammar.specs.Definitions.{Behind, Sel, SelName, SelRenamed, SelHidden, SelWild, ImpExpr, ImportName, ImportWild, ImportSels, Import, sel_tokens}
use Rattle.source_grammar.specs.Lexemes.{Place, Lexeme, comma, dot, Arrow, arrow_token, Id, id_token, Step, QualId}
pub use Rattle.expr_laws.specs.Imports.{SelList, ImportItem, ImportToken, Selectors, NoSelectors, import_tokens_of, clause_items, others_items, import_items}
use Rattle.expr_laws.proofs.DefsDerived.{ordered}
use Rattle.expr_laws.proofs.Derived.{is_some}
use Rattle.expr_laws.proofs.Seen.{Seen, AnId, AnUnderscore, AnArrow, AComma, ADot, seen}

-- ---- selectors

pub record DoneSel : Type 0 where
  pub sel : Sel
  pub place : Place

-- the selector that is read
pub data SelTail : Type 0 where
  SelBegin : SelTail
  AtSelName : Id → SelTail
  AtSelArrow : Id → Arrow → SelTail
  AtSel : Sel → SelTail

-- the selectors before the last comma, the last one first
pub record Sels : Type 0 where
  pub done : List DoneSel
  pub tail : SelTail

abbrev pub sels_at : List DoneSel → SelTail → Sels
sels_at done tail = record { done = done; tail = tail }

abbrev pub sel_at : SelTail → Option Sel
sel_at (AtSelName id) = Some (SelName id)
sel_at (AtSel sel) = Some sel
sel_at _ = None

abbrev pub done_sel : Sel → Place → DoneSel
done_sel sel p = record { sel = sel; place = p }

-- `_` is the last
abbrev pub sel_parted : List DoneSel → Place → Option Sel → Option Sels
sel_parted done p None = None
sel_parted done p (Some (SelWild wild)) = None
sel_parted done p (Some sel) = Some (sels_at (done_sel sel p ∷ done) SelBegin)

abbrev pub in_sels : List DoneSel → Option SelTail → Option Sels
in_sels done None = None
in_sels done (Some tail) = Some (sels_at done tail)

abbrev pub sel_moved : SelTail → Seen → Option SelTail
sel_moved SelBegin (AnId id) = Some (AtSelName id)
sel_moved SelBegin (AnUnderscore p) = Some (AtSel (SelWild p))
sel_moved (AtSelName id) (AnArrow a) = Some (AtSelArrow id a)
sel_moved (AtSelArrow id a) (AnId shown) = Some (AtSel (SelRenamed id a shown))
sel_moved (AtSelArrow id a) (AnUnderscore p) = Some (AtSel (SelHidden id a p))
sel_moved _ _ = None

abbrev pub sels_by : Sels → Seen → Option Sels
sels_by s (AComma p) = sel_parted s.done p (sel_at s.tail)
sels_by s y = in_sels s.done (sel_moved s.tail y)

abbrev pub sels_step : Sels → Lexeme → Option Sels
sels_step s x = sels_by s (seen x)

abbrev pub sels_machine : Machine Sels Lexeme
sels_machine = record { start = sels_at [] SelBegin; step = sels_step; whole = λ s. is_some (sel_at s.tail) }

-- the selectors that were read
abbrev pub sels_before : List DoneSel → Sel → List (Behind Sel) → SelList
sels_before [] sel others = record { sel = sel; others = others }
sels_before (d ∷ done) sel others = sels_before done d.sel (record { comma = d.place; item = sel } ∷ others)

abbrev pub sel_tail_tokens : SelTail → List Lexeme
sel_tail_tokens SelBegin = []
sel_tail_tokens (AtSelName id) = id_token id ∷ []
sel_tail_tokens (AtSelArrow id a) = id_token id ∷ arrow_token a ∷ []
sel_tail_tokens (AtSel sel) = sel_tokens sel

abbrev pub sels_done : List DoneSel → List Lexeme
sels_done [] = []
sels_done (d ∷ done) = sels_done done ++ (sel_tokens d.sel ++ comma d.place ∷ [])

abbrev pub sels_tokens : Sels → List Lexeme
sels_tokens s = sels_done s.done ++ sel_tail_tokens s.tail

-- ---- imports

pub record DoneClause : Type 0 where
  pub clause : ImpExpr
  pub place : Place

-- the clause that is read; the last step of its path first
pub data ImportTail : Type 0 where
  ClauseBegin : ImportTail
  AtImportPath : Id → List Step → ImportTail
  AtImportDot : Id → List Step → (point : Place) → ImportTail
  AtClause : ImpExpr → ImportTail

-- what stands behind `import`, with the clauses before the last comma, the last one first
pub record ImportState : Type 0 where
  pub done : List DoneClause
  pub tail : ImportTail

abbrev pub import_at : List DoneClause → ImportTail → ImportState
import_at done tail = record { done = done; tail = tail }

abbrev pub path_of : Id → List Step → QualId
path_of first done = record { first = first; steps = ordered done [] }

abbrev pub clause_at : ImportTail → Option ImpExpr
clause_at (AtImportPath first (s ∷ done)) = Some (ImportName (path_of first done) s.point s.id)
clause_at (AtClause clause) = Some clause
clause_at _ = None

abbrev pub done_clause : ImpExpr → Place → DoneClause
done_clause clause p = record { clause = clause; place = p }

abbrev pub import_parted : List DoneClause → Place → Option ImpExpr → Option ImportState
import_parted done p None = None
import_parted done p (Some clause) = Some (import_at (done_clause clause p ∷ done) ClauseBegin)

abbrev pub in_import : List DoneClause → Option ImportTail → Option ImportState
in_import done None = None
in_import done (Some tail) = Some (import_at done tail)

abbrev pub step_of : Place → Id → Step
step_of point id = record { point = point; id = id }

abbrev pub import_moved : ImportTail → Seen → Option ImportTail
import_moved ClauseBegin (AnId id) = Some (AtImportPath id [])
import_moved (AtImportPath first done) (ADot p) = Some (AtImportDot first done p)
import_moved (AtImportDot first done p) (AnId id) = Some (AtImportPath first (step_of p id ∷ done))
import_moved (AtImportDot first done p) (AnUnderscore wild) = Some (AtClause (ImportWild (path_of first done) p wild))
import_moved _ _ = None

abbrev pub import_by : ImportState → Seen → Option ImportState
import_by s (AComma p) = import_parted s.done p (clause_at s.tail)
import_by s y = in_import s.done (import_moved s.tail y)

abbrev pub selected : ImportTail → Place → Sel → List (Behind Sel) → Place → Option ImportTail
selected (AtImportDot first done p) o sel sels k = Some (AtClause (ImportSels (path_of first done) p o sel sels k))
selected _ o sel sels k = None

abbrev pub import_step : ImportState → ImportItem → Option ImportState
import_step s (ImportToken x) = import_by s (seen x)
import_step s (Selectors o sel sels k) = in_import s.done (selected s.tail o sel sels k)
import_step s (NoSelectors o xs k) = None

abbrev pub import_machine : Machine ImportState ImportItem
import_machine = record { start = import_at [] ClauseBegin; step = import_step; whole = λ s. is_some (clause_at s.tail) }

-- the clauses that were read
abbrev pub clauses_before : Place → List DoneClause → ImpExpr → List (Behind ImpExpr) → Import
clauses_before word [] clause others = record { word = word; first = clause; others = others }
clauses_before word (d ∷ done) clause others = clauses_before word done d.clause (record { comma = d.place; item = clause } ∷ others)

-- ---- items

-- the steps of a path, the last one first
abbrev pub steps_done : List Step → List ImportItem
steps_done [] = []
steps_done (s ∷ done) = steps_done done ++ ImportToken (dot s.point) ∷ ImportToken (id_token s.id) ∷ []

abbrev pub import_tail_items : ImportTail → List ImportItem
import_tail_items ClauseBegin = []
import_tail_items (AtImportPath first done) = ImportToken (id_token first) ∷ steps_done done
import_tail_items (AtImportDot first done p) = ImportToken (id_token first) ∷ (steps_done done ++ ImportToken (dot p) ∷ [])
import_tail_items (AtClause clause) = clause_items clause

abbrev pub clauses_done : List DoneClause → List ImportItem
clauses_done [] = []
clauses_done (d ∷ done) = clauses_done done ++ (clause_items d.clause ++ ImportToken (comma d.place) ∷ [])

abbrev pub import_items_in : ImportState → List ImportItem
import_items_in s = clauses_done s.done ++ import_tail_items s.tail
