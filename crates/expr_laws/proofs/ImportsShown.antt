-- The readers of imports and of selectors are pictures of the machines over derivations.
use Rattle.std.proofs.Common.{◌≡◌, ℕ, suc, ◌-◌, ◌<◌, nat_lt, true, List, [], ◌∷◌, ◌++◌, length, map, slice_get, Option, Some, None, option_map, refl, ap, sym, ◌∙◌, append_assoc, append-nil, arith}
use Rattle.std.specs.Prelude.{is_some}
use Rattle.pc_terms.specs.declared.tree_kinds.TreeKind.TheVariants as kind
use Rattle.positioned_trees.specs.declared.details.Detail.TheVariants as detail
use Rattle.positioned_trees.specs.declared.details.ImportClause.{ImportClause}
use Rattle.positioned_trees.specs.declared.details.Name.{Name}
use Rattle.positioned_trees.specs.declared.details.Selector.{Selector}
use Rattle.positioned_trees.specs.declared.details.Selector.TheVariants as selector
use Rattle.source_grammar.specs.Definitions.{Behind, behind_tokens, behind_items, Sel, SelName, SelWild, sel_tokens, ImpExpr, ImportName, ImportWild, ImportSels, Import, imp_expr_tokens, import_tokens}
use Rattle.source_grammar.specs.DefinitionTrees.{name_of, names_of, selector_of, import_clause, import_tree}
use Rattle.source_grammar.specs.Lexemes.{Place, Lexeme, comma, dot, underscore, id_token, Id, Step, steps_tokens, open_curly, close_curly}
use Rattle.source_grammar.specs.Spans.{end_behind, span_of}
use Rattle.source_grammar.specs.Spans.{unlabelled as unlabelled_tree}
use Rattle.parse_parts.proofs.Kept.{kept}
use Rattle.parse_parts.proofs.Shown.{end-behind}
use Rattle.parse_parts.specs.Built.{no_kids}
use Rattle.parse_patterns.proofs.Waiting.{lt-true}
use Rattle.tree_lower.specs.Lowering.{detailed, unlabelled}
use Rattle.tree_lower.proofs.KeptTrees.{detailed-kept, unlabelled-kept}
use Rattle.expr_tails.specs.declared.items.Built.{Built}
use Rattle.expr_tails.specs.declared.items.Inside.{Inside}
use Rattle.expr_tails.specs.declared.symbols.Symbol.{Symbol}
use Rattle.expr_tails.specs.declared.symbols.Symbol.TheVariants as symbol
use Rattle.expr_tails.specs.Symbols.{symbol_of}
use Rattle.import_steps.specs.declared.imports.Import.{Import as ReaderState}
use Rattle.import_steps.specs.declared.imports.Last.{Last}
use Rattle.import_steps.specs.declared.imports.Last.TheVariants as last
use Rattle.import_steps.specs.declared.imports.Selectors.{Selectors as ReaderSelectors}
use Rattle.import_steps.specs.declared.imports.Tail.{Tail}
use Rattle.import_steps.specs.declared.imports.Tail.TheVariants as tail
use Rattle.import_steps.specs.Imports as spec
use Rattle.import_steps.proofs.Naming.{named_alone}
use Rattle.expr_laws.specs.Imports.{selectors_of, ImportItem, ImportToken, Selectors, NoSelectors, import_picture, import_stepped}
use Rattle.expr_laws.proofs.DefsDerived.{ordered}
use Rattle.expr_laws.proofs.ImportsDerived.{DoneSel, SelTail, SelBegin, AtSelName, AtSelArrow, AtSel, Sels, sels_at, sel_at, sel_parted, sels_by, sels_step, sels_before, DoneClause, ImportTail, ClauseBegin, AtImportPath, AtImportDot, AtClause, ImportState, import_at, path_of, clause_at, import_parted, import_by, import_step, clauses_before}
use Rattle.expr_laws.proofs.Seen.{seen_as}
use Rattle.expr_laws.proofs.TokenSteps.{if-true, if-false}

-- ---- selectors

abbrev sel_tail_shown : SelTail → Last
sel_tail_shown SelBegin = last.Begin
sel_tail_shown (AtSelName id) = last.AtName (name_of id)
sel_tail_shown (AtSelArrow id a) = last.AtArrow (name_of id)
sel_tail_shown (AtSel (SelWild p)) = last.Wild p.span
sel_tail_shown (AtSel sel) = last.Whole (selector_of sel)

abbrev selectors_done : List DoneSel → List Selector
selectors_done [] = []
selectors_done (d ∷ done) = selectors_done done ++ selector_of d.sel ∷ []

abbrev pub sels_shown : Sels → ReaderSelectors
sels_shown s = record { before = selectors_done s.done; last = sel_tail_shown s.tail }

sel-parted-same : (done : List DoneSel) (p : Place) (s : SelTail) → spec.next_selector (sels_shown (sels_at done s)) ≡ option_map sels_shown (sel_parted done p (sel_at s))
sel-parted-same done p SelBegin = refl
sel-parted-same done p (AtSelName id) = refl
sel-parted-same done p (AtSelArrow id a) = refl
sel-parted-same done p (AtSel (SelWild wild)) = refl
sel-parted-same done p (AtSel (SelName id)) = refl
sel-parted-same done p (AtSel _) = refl

sel-begun-same : (done : List DoneSel) (y : Symbol) (x : Lexeme) → spec.step_selector_by y x (sels_shown (sels_at done SelBegin)) ≡ option_map sels_shown (sels_by (sels_at done SelBegin) (seen_as y x))
sel-begun-same done symbol.Id x = refl
sel-begun-same done symbol.Underscore x = refl
sel-begun-same done _ x = refl

sel-named-same : (done : List DoneSel) (id : Id) (y : Symbol) (x : Lexeme)
    → spec.step_selector_by y x (sels_shown (sels_at done (AtSelName id))) ≡ option_map sels_shown (sels_by (sels_at done (AtSelName id)) (seen_as y x))
sel-named-same done id symbol.Arrow x = refl
sel-named-same done id _ x = refl

sel-step-same : (s : SelTail) (done : List DoneSel) (y : Symbol) (x : Lexeme) → spec.step_selector_by y x (sels_shown (sels_at done s)) ≡ option_map sels_shown (sels_by (sels_at done s) (seen_as y x))
sel-step-same s done symbol.Comma x = sel-parted-same done x.place s
sel-step-same SelBegin done y x = sel-begun-same done y x
sel-step-same (AtSelName id) done y x = sel-named-same done id y x
sel-step-same (AtSelArrow id a) done symbol.Id x = refl
sel-step-same (AtSelArrow id a) done symbol.Underscore x = refl
sel-step-same (AtSel (SelWild p)) done _ x = refl
sel-step-same _ done _ x = refl

-- a step of the reader of selectors is one of the machine
pub sels-same : (s : Sels) (x : Lexeme) → spec.step_selector (sels_shown s) x ≡ option_map sels_shown (sels_step s x)
sels-same s x = sel-step-same s.tail s.done (symbol_of x.kind x.word) x

pub sels-whole : (s : Sels) → is_some (spec.selectors_at (sels_shown s)) ≡ is_some (sel_at s.tail)
sels-whole s = go s.tail where
  go : (t : SelTail) → is_some (spec.selectors_at (sels_shown (sels_at s.done t))) ≡ is_some (sel_at t)
  go (AtSel (SelWild wild)) = refl
  go _ = refl

before-shown : (done : List DoneSel) (sel : Sel) (bs : List (Behind Sel))
    → selectors_of (sels_before done sel bs) ≡ selectors_done done ++ (selector_of sel ∷ map selector_of (behind_items bs))
before-shown [] sel bs = refl
before-shown (d ∷ done) sel bs =
    before-shown done d.sel (record { comma = d.place; item = sel } ∷ bs)
    ∙ sym (append_assoc (selectors_done done) (selector_of d.sel ∷ []) (selector_of sel ∷ map selector_of (behind_items bs)))

-- the selectors that were read
pub sels-shown : (s : Sels) (sel : Sel) → sel_at s.tail ≡ Some sel → spec.selectors_at (sels_shown s) ≡ Some (selectors_of (sels_before s.done sel []))
sels-shown s sel e = go s.tail e ∙ ap Some (sym (before-shown s.done sel [])) where
  go : (t : SelTail) → sel_at t ≡ Some sel → spec.selectors_at (sels_shown (sels_at s.done t)) ≡ Some (selectors_done s.done ++ selector_of sel ∷ [])
  go (AtSelName id) f = ap (λ o. spec.with_last (selectors_done s.done) (option_map selector_of o)) f
  go (AtSel (SelWild p)) f = ap (λ o. spec.with_last (selectors_done s.done) (option_map selector_of o)) f
  go (AtSel _) f = ap (λ o. spec.with_last (selectors_done s.done) (option_map selector_of o)) f
  go _ f = cc

-- ---- one clause

abbrev names_done : Id → List Step → List Name
names_done first [] = name_of first ∷ []
names_done first (s ∷ done) = names_done first done ++ name_of s.id ∷ []

names-after : (first : Id) (done rest : List Step)
    → name_of first ∷ map (λ step. name_of step.id) (ordered done rest) ≡ names_done first done ++ map (λ step. name_of step.id) rest
names-after first [] rest = refl
names-after first (s ∷ done) rest = names-after first done (s ∷ rest) ∙ sym (append_assoc (names_done first done) (name_of s.id ∷ []) (map (λ step. name_of step.id) rest))

names-there : (first : Id) (done : List Step) → names_of (path_of first done) ≡ names_done first done
names-there first done = names-after first done [] ∙ append-nil (names_done first done)

-- a clause with these names, selectors and end
clause-is : (first : Id) (done : List Step) (selectors : List Selector) (end : ℕ) (xs : List Lexeme) → end_behind first.place.span.end xs ≡ end
    → record { span = span_of (id_token first ∷ xs); qualifier = names_of (path_of first done); selectors = selectors } ≡ spec.clause_of (names_done first done) selectors end
clause-is first done selectors end xs e =
    ap (λ n. spec.clause_of (names_of (path_of first done)) selectors n) e ∙ ap (λ names. spec.clause_of names selectors end) (names-there first done)

name-clause : (first : Id) (done : List Step) (p : Place) (id : Id)
    → import_clause (ImportName (path_of first done) p id) ≡ spec.clause_of (names_done first done) (selector.Named (name_of id) ∷ []) id.place.span.end
name-clause first done p id = clause-is first done _ _ (steps_tokens (ordered done []) ++ dot p ∷ id_token id ∷ []) (end-behind first.place.span.end (steps_tokens (ordered done [])) (dot p) (id_token id ∷ []))

wild-clause : (first : Id) (done : List Step) (p wild : Place)
    → import_clause (ImportWild (path_of first done) p wild) ≡ spec.clause_of (names_done first done) (selector.Wildcard wild.span ∷ []) wild.span.end
wild-clause first done p wild = clause-is first done _ _ (steps_tokens (ordered done []) ++ dot p ∷ underscore wild ∷ []) (end-behind first.place.span.end (steps_tokens (ordered done [])) (dot p) (underscore wild ∷ []))

sels-clause : (first : Id) (done : List Step) (p o : Place) (sel : Sel) (sels : List (Behind Sel)) (k : Place)
    → import_clause (ImportSels (path_of first done) p o sel sels k) ≡ spec.clause_of (names_done first done) (selectors_of (record { sel = sel; others = sels })) k.span.end
sels-clause first done p o sel sels k =
    clause-is first done _ _ (steps_tokens (ordered done []) ++ dot p ∷ open_curly o ∷ within)
    (end-behind first.place.span.end (steps_tokens (ordered done [])) (dot p) (open_curly o ∷ within)
    ∙ end-behind o.span.end (sel_tokens sel ++ behind_tokens sel_tokens sels) (close_curly k) [])
  where
    within : List Lexeme
    within = sel_tokens sel ++ behind_tokens sel_tokens sels ++ close_curly k ∷ []

-- ---- imports

abbrev import_tail_shown : ImportTail → Tail
import_tail_shown ClauseBegin = tail.Begin
import_tail_shown (AtImportPath first done) = tail.AtPath (names_done first done)
import_tail_shown (AtImportDot first done p) = tail.AtDot (names_done first done)
import_tail_shown (AtClause clause) = tail.AtClause (import_clause clause)

abbrev clauses_shown : List DoneClause → List ImportClause
clauses_shown [] = []
clauses_shown (d ∷ done) = clauses_shown done ++ import_clause d.clause ∷ []

abbrev pub import_shown : ℕ → ImportState → ReaderState
import_shown start s = record { start = start; clauses = clauses_shown s.done; tail = import_tail_shown s.tail }

two-names : (first : Id) (done : List Step) (n : Name) → nat_lt 1 (length (names_done first done ++ n ∷ [])) ≡ true
two-names first done n = ap (λ names. nat_lt 1 (length (names ++ n ∷ []))) (sym (names-there first done)) ∙ go (map (λ step. name_of step.id) (ordered done [])) where
  some : (names : List Name) → 0 < length (names ++ n ∷ [])
  some [] = omega arith
  some (m ∷ names) = omega arith

  go : (names : List Name) → nat_lt 1 (length (name_of first ∷ (names ++ n ∷ []))) ≡ true
  go names = (let more = some names in lt-true 1 (length (name_of first ∷ (names ++ n ∷ []))) (omega (arith, more)))

-- what the reader has of the clause that ends here
record Ends (s : Tail) (o : Option ImpExpr) : Type 0 where
  whole : spec.is_ended s ≡ is_some o
  clauses : (c : ImpExpr) → o ≡ Some c → spec.ended s ≡ import_clause c ∷ []

ends-there : (s : ImportTail) → Ends (import_tail_shown s) (clause_at s)
ends-there ClauseBegin = record { whole = refl; clauses = λ c e. cc }
ends-there (AtImportPath first []) = record { whole = refl; clauses = λ c e. cc }
ends-there (AtImportPath first (s ∷ done)) = record {
  whole = two-names first done (name_of s.id);
  clauses = λ c e.
      (let same : ImportName (path_of first done) s.point s.id ≡ c = cc in
      named_alone (names_done first done) (name_of s.id) ∙ ap (λ k. k ∷ []) (sym (name-clause first done s.point s.id)) ∙ ap (λ k. import_clause k ∷ []) same);
}
ends-there (AtImportDot first done p) = record { whole = refl; clauses = λ c e. cc }
ends-there (AtClause clause) = record { whole = refl; clauses = λ c e. (let same : clause ≡ c = cc in ap (λ k. import_clause k ∷ []) same) }

pub import-whole : (start : ℕ) (s : ImportState) → spec.is_import (import_shown start s) ≡ is_some (clause_at s.tail)
import-whole start s = (ends-there s.tail).whole

import-parted-same : (start : ℕ) (done : List DoneClause) (s : ImportTail) (p : Place)
    → spec.parted (import_shown start (import_at done s)) ≡ option_map (import_shown start) (import_parted done p (clause_at s))
import-parted-same start done s p = go (clause_at s) (ends-there s) where
  next : Option ReaderState
  next = Some (record { start = start; clauses = clauses_shown done ++ spec.ended (import_tail_shown s); tail = tail.Begin })

  go : (o : Option ImpExpr) → Ends (import_tail_shown s) o → spec.parted (import_shown start (import_at done s)) ≡ option_map (import_shown start) (import_parted done p o)
  go None e = if-false (spec.is_ended (import_tail_shown s)) next None e.whole
  go (Some c) e =
      if-true (spec.is_ended (import_tail_shown s)) next None e.whole
      ∙ ap (λ clauses. Some (record { start = start; clauses = clauses_shown done ++ clauses; tail = tail.Begin })) (e.clauses c refl)

begun-same : (start : ℕ) (done : List DoneClause) (y : Symbol) (x : Lexeme)
    → spec.step_by y x (import_shown start (import_at done ClauseBegin)) ≡ option_map (import_shown start) (import_by (import_at done ClauseBegin) (seen_as y x))
begun-same start done symbol.Id x = refl
begun-same start done _ x = refl

import-step-same : (start : ℕ) (s : ImportTail) (done : List DoneClause) (y : Symbol) (x : Lexeme)
    → spec.step_by y x (import_shown start (import_at done s)) ≡ option_map (import_shown start) (import_by (import_at done s) (seen_as y x))
import-step-same start s done symbol.Comma x = import-parted-same start done s x.place
import-step-same start ClauseBegin done y x = begun-same start done y x
import-step-same start (AtImportPath first steps) done symbol.Dot x = refl
import-step-same start (AtImportDot first steps p) done symbol.Id x = refl
import-step-same start (AtImportDot first steps p) done symbol.Underscore x =
    ap (λ c. Some (record { start = start; clauses = clauses_shown done; tail = tail.AtClause c })) (sym (wild-clause first steps p x.place))
import-step-same start _ done _ x = refl

selected-same : (start : ℕ) (s : ImportTail) (done : List DoneClause) (inside : Inside) (i : ImportItem)
    → import_stepped (import_shown start (import_at done s)) (import_picture inside i) ≡ option_map (import_shown start) (import_step (import_at done s) i)
selected-same start s done inside (ImportToken x) = import-step-same start s done (symbol_of x.kind x.word) x
selected-same start (AtImportDot first steps p) done inside (Selectors o sel sels k) =
    ap (λ c. Some (record { start = start; clauses = clauses_shown done; tail = tail.AtClause c })) (sym (sels-clause first steps p o sel sels k))
selected-same start _ done inside (Selectors o sel sels k) = refl
selected-same start ClauseBegin done inside (NoSelectors o xs k) = refl
selected-same start _ done inside (NoSelectors o xs k) = refl

-- a step of the reader of imports is one of the machine
pub import-same : (start : ℕ) (s : ImportState) (inside : Inside) (i : ImportItem) → import_stepped (import_shown start s) (import_picture inside i) ≡ option_map (import_shown start) (import_step s i)
import-same start s inside i = selected-same start s.tail s.done inside i

-- ---- the tree of an import

clauses-shown : (word : Place) (done : List DoneClause) (c : ImpExpr) (bs : List (Behind ImpExpr)) →
    (let i = clauses_before word done c bs in import_clause i.first ∷ map import_clause (behind_items i.others)) ≡ clauses_shown done ++ (import_clause c ∷ map import_clause (behind_items bs))
clauses-shown word [] c bs = refl
clauses-shown word (d ∷ done) c bs =
    clauses-shown word done d.clause (record { comma = d.place; item = c } ∷ bs)
    ∙ sym (append_assoc (clauses_shown done) (import_clause d.clause ∷ []) (import_clause c ∷ map import_clause (behind_items bs)))

-- the clauses end where their tokens do
clause-end : (end : ℕ) (c : ImpExpr) → (import_clause c).span.end ≡ end_behind end (imp_expr_tokens c ++ [])
clause-end end (ImportName path p id) = ap (end_behind path.first.place.span.end) (sym (append-nil (steps_tokens path.steps ++ dot p ∷ id_token id ∷ [])))
clause-end end (ImportWild path p wild) = ap (end_behind path.first.place.span.end) (sym (append-nil (steps_tokens path.steps ++ dot p ∷ underscore wild ∷ [])))
clause-end end (ImportSels path p o sel sels k) =
    ap (end_behind path.first.place.span.end) (sym (append-nil (steps_tokens path.steps ++ dot p ∷ open_curly o ∷ (sel_tokens sel ++ behind_tokens sel_tokens sels ++ close_curly k ∷ []))))

last-end : (start end : ℕ) (c : ImpExpr) (bs : List (Behind ImpExpr))
    → spec.end_in start (slice_get (import_clause c ∷ map import_clause (behind_items bs)) (length (map import_clause (behind_items bs))))
    ≡ end_behind end (imp_expr_tokens c ++ behind_tokens imp_expr_tokens bs)
last-end start end c [] = clause-end end c
last-end start end c (b ∷ bs) =
    last-end start b.comma.span.end b.item bs ∙ sym (end-behind end (imp_expr_tokens c) (comma b.comma) (imp_expr_tokens b.item ++ behind_tokens imp_expr_tokens bs))

before-end : (n : ℕ) → suc n - 1 ≡ n
before-end n = omega arith

clauses-end : (start end : ℕ) (c : ImpExpr) (bs : List (Behind ImpExpr))
    → spec.last_end start (import_clause c ∷ map import_clause (behind_items bs)) ≡ end_behind end (imp_expr_tokens c ++ behind_tokens imp_expr_tokens bs)
clauses-end start end c bs =
    ap (λ n. spec.end_in start (slice_get (import_clause c ∷ map import_clause (behind_items bs)) n)) (before-end (length (map import_clause (behind_items bs)))) ∙ last-end start end c bs

abbrev clauses_in : Import → List ImportClause
clauses_in i = import_clause i.first ∷ map import_clause (behind_items i.others)

abbrev tree_of : ℕ → List ImportClause → ℕ → Built
tree_of start clauses end = record { tall = detailed (detail.Import clauses) (unlabelled kind.Import (record { start = start; end = end }) no_kids); free = [] }

whole-tree : (i : Import) → tree_of i.word.span.start (clauses_in i) (span_of (import_tokens i)).end ≡ record { tall = kept (import_tree i); free = [] }
whole-tree i =
    ap (λ tall. record { tall = detailed (detail.Import (clauses_in i)) tall; free = [] }) (unlabelled-kept kind.Import (span_of (import_tokens i)) [])
    ∙ ap (λ tall. record { tall = tall; free = [] }) (detailed-kept (detail.Import (clauses_in i)) (unlabelled_tree kind.Import (span_of (import_tokens i)) []))

pub word-there : (word : Place) (done : List DoneClause) (c : ImpExpr) (bs : List (Behind ImpExpr)) → (clauses_before word done c bs).word ≡ word
word-there word [] c bs = refl
word-there word (d ∷ done) c bs = word-there word done d.clause (record { comma = d.place; item = c } ∷ bs)

-- the tree of the import that was read
pub import-shown : (word : Place) (s : ImportState) (c : ImpExpr) → clause_at s.tail ≡ Some c
    → spec.import_at (import_shown word.span.start s) ≡ record { tall = kept (import_tree (clauses_before word s.done c [])); free = [] }
import-shown word s c e =
    ap (λ clauses. tree_of word.span.start clauses (spec.last_end word.span.start clauses))
    (ap (λ clauses. clauses_shown s.done ++ clauses) ((ends-there s.tail).clauses c e) ∙ sym (clauses-shown word s.done c []))
    ∙ ap (tree_of word.span.start (clauses_in i)) (clauses-end word.span.start i.word.span.end i.first i.others)
    ∙ ap (λ p. tree_of p.span.start (clauses_in i) (span_of (import_tokens i)).end) (sym (word-there word s.done c []))
    ∙ whole-tree i
  where
    i : Import
    i = clauses_before word s.done c []
