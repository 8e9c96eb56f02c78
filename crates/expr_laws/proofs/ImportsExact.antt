-- The readers of imports and of selectors read exactly these, and have their trees.
use Rattle.std.proofs.Common.{◌≡◌, ℕ, Bool, true, List, [], ◌∷◌, ◌++◌, Option, Some, None, option_map, refl, ap, sym, ◌∙◌, append_assoc, append-nil, subst}
use Rattle.std.specs.Prelude.{is_some}
use Rattle.reading_machines.specs.Machines.{run, onward}
use Rattle.reading_machines.specs.Parts.{CanBegin}
use Rattle.reading_machines.specs.Laws.{ReadsExactly}
use Rattle.reading_machines.proofs.Runs.{run-append}
use Rattle.source_grammar.specs.Definitions.{Behind, Sel, SelName, SelRenamed, OnlyLastIsWild, ImpExpr, ImportName, Import, ProperImpExpr, ProperImpExprs, ProperImport}
use Rattle.source_grammar.specs.DefinitionTrees.{import_tree}
use Rattle.source_grammar.specs.Lexemes.{Place, Lexeme, dot, Id, id_token, Step}
use Rattle.parse_parts.specs.Keeping.{kept}
use Rattle.parse_patterns.proofs.Alive.{any_place, an_id}
use Rattle.expr_tails.specs.declared.items.Inside.TheVariants as inside
use Rattle.import_steps.specs.declared.imports.Import.{Import as ReaderState}
use Rattle.import_steps.specs.declared.imports.Selectors.{Selectors as ReaderSelectors}
use Rattle.import_steps.specs.Imports as spec
use Rattle.expr_laws.specs.Definitions.{is_level_token}
use Rattle.expr_laws.specs.Imports.{SelList, sel_list_tokens, selectors_of, AreSelectors, selectors_reader, ImportItem, ImportToken, Selectors, NoSelectors, import_tokens_of, import_items, ProperImportItem, ReadImportItem, import_items_of, import_picture, AreOfImport, import_stepped, import_reader}
use Rattle.expr_laws.specs.Newlines.{newlines_end}
use Rattle.expr_laws.proofs.Fillers.{Name, Point, One, fill-ends}
use Rattle.expr_laws.proofs.ImportsAlong.{selectors-along, import-along}
use Rattle.expr_laws.proofs.ImportsDerived.{DoneSel, SelTail, SelBegin, AtSelName, AtSelArrow, AtSel, Sels, sels_at, sel_at, sels_by, sels_step, sels_before, sels_tokens, DoneClause, ImportTail, ClauseBegin, AtImportPath, AtImportDot, AtClause, ImportState, import_at, path_of, clause_at, step_of, import_parted, in_import, import_moved, import_by, selected, import_step, clauses_before, import_items_in}
use Rattle.expr_laws.proofs.ImportsShown.{sels_shown, sels-same, sels-whole, sels-shown, import_shown, import-whole, import-same, import-shown, word-there}
use Rattle.expr_laws.proofs.ImportsSound.{sels-adds, read-sels, NoWild, only-last, sels-wild, import-adds, read-import}
use Rattle.expr_laws.proofs.Leading.{LeadsBy, by-none, by-on, by-one}
use Rattle.expr_laws.proofs.Seen.{Seen, AComma, AnId, AnUnderscore, ADot, seen, seen-dot, seen-id}

-- ---- selectors

-- where the reader of selectors is after some tokens
sels-run : (xs : List Lexeme) (s : Sels) → run spec.step_selector xs (sels_shown s) ≡ option_map sels_shown (run sels_step xs s)
sels-run [] s = refl
sels-run (x ∷ xs) s = ap (λ o. onward o None (run spec.step_selector xs)) (sels-same s x) ∙ go (sels_step s x) (λ t. sels-run xs t) where
  go : (o : Option Sels) → ((t : Sels) → run spec.step_selector xs (sels_shown t) ≡ option_map sels_shown (run sels_step xs t))
      → onward (option_map sels_shown o) None (run spec.step_selector xs) ≡ option_map sels_shown (onward o None (run sels_step xs))
  go None on = refl
  go (Some t) on = on t

-- what a run of the machine keeps
record SelsRun (xs : List Lexeme) (s t : Sels) : Type 0 where
  read : sels_tokens t ≡ sels_tokens s ++ xs
  wild : NoWild s.done → NoWild t.done

sels-ran : (xs : List Lexeme) (s t : Sels) → run sels_step xs s ≡ Some t → SelsRun xs s t
sels-ran [] s t e = (let same : s ≡ t = cc in record { read = ap sels_tokens (sym same) ∙ sym (append-nil (sels_tokens s)); wild = λ n. subst (λ u. NoWild u.done) same n })
sels-ran (x ∷ xs) s t e = go (sels_step s x) refl e (λ u f. sels-ran xs u t f) where
  go : (o : Option Sels) → sels_step s x ≡ o → onward o None (run sels_step xs) ≡ Some t → ((u : Sels) → run sels_step xs u ≡ Some t → SelsRun xs u t) → SelsRun (x ∷ xs) s t
  go None f g on = cc
  go (Some u) f g on =
      (let rest = on u g in
      record {
        read = rest.read ∙ ap (λ ys. ys ++ xs) (sels-adds s x u f) ∙ append_assoc (sels_tokens s) (x ∷ []) xs;
        wild = λ n. rest.wild (sels-wild s x u n f);
      })

abbrev begun_sels : Sels
begun_sels = sels_at [] SelBegin

-- the machine, where the reader is
record BehindSels (xs : List Lexeme) (u : ReaderSelectors) : Type 0 where
  there : Sels
  runs : run sels_step xs begun_sels ≡ Some there
  same : sels_shown there ≡ u

behind-sels : (xs : List Lexeme) (u : ReaderSelectors) → run spec.step_selector xs spec.selectors_begun ≡ Some u → BehindSels xs u
behind-sels xs u e = go (run sels_step xs begun_sels) refl (sym (sels-run xs begun_sels) ∙ e) where
  go : (o : Option Sels) → run sels_step xs begun_sels ≡ o → option_map sels_shown o ≡ Some u → BehindSels xs u
  go None f g = cc
  go (Some t) f g = record { there = t; runs = f; same = (let same : sels_shown t ≡ u = cc in same) }

record SelsRead (xs : List Lexeme) (d : SelList) : Type 0 where
  end : Sels
  last : Sel
  runs : run sels_step xs begun_sels ≡ Some end
  ends : sel_at end.tail ≡ Some last
  same : sels_before end.done last [] ≡ d

sels-read : (xs : List Lexeme) (a : AreSelectors xs) → SelsRead xs a.derivation
sels-read xs a =
    let r = selectors-along a.derivation.sel a.derivation.others a.proper in
    record {
      end = r.end;
      last = r.last;
      runs = ap (λ ys. run sels_step ys begun_sels) (a.tokens ∙ sym (append-nil (sel_list_tokens a.derivation))) ∙ r.leads.runs [];
      ends = r.ends;
      same = r.same;
    }

sels-ended : (xs : List Lexeme) (d : SelList) (r : SelsRead xs d) → run spec.step_selector xs spec.selectors_begun ≡ Some (sels_shown r.end)
sels-ended xs d r = sels-run xs begun_sels ∙ ap (option_map sels_shown) r.runs

are-selectors : (xs : List Lexeme) (t : Sels) (sel : Sel) → run sels_step xs begun_sels ≡ Some t → sel_at t.tail ≡ Some sel → AreSelectors xs
are-selectors xs t sel r e =
    let ran = sels-ran xs begun_sels t r in
    record {
      derivation = sels_before t.done sel [];
      proper = only-last t sel (ran.wild tt);
      tokens = sym ran.read ∙ sym (read-sels t sel e);
    }

sels-sound : (xs : List Lexeme) (u : ReaderSelectors) → run selectors_reader.step xs selectors_reader.start ≡ Some u → selectors_reader.whole u ≡ true → AreSelectors xs
sels-sound xs u r w = (let b = behind-sels xs u r in go b.there b.runs (sel_at b.there.tail) refl (sym (sels-whole b.there) ∙ ap (λ v. is_some (spec.selectors_at v)) b.same ∙ w)) where
  go : (t : Sels) → run sels_step xs begun_sels ≡ Some t → (o : Option Sel) → sel_at t.tail ≡ o → is_some o ≡ true → AreSelectors xs
  go t f None e g = cc
  go t f (Some sel) e g = are-selectors xs t sel f e

-- some tokens end what is read
record SelsEnded (s : Sels) : Type 0 where
  others : List Lexeme
  end : Sels
  last : Sel
  runs : run sels_step others s ≡ Some end
  ends : sel_at end.tail ≡ Some last

abbrev a_name : Lexeme
a_name = id_token an_id

sels-end : (done : List DoneSel) (s : SelTail) → SelsEnded (sels_at done s)
sels-end done SelBegin = record {
  others = a_name ∷ [];
  end = sels_at done (AtSelName an_id);
  last = SelName an_id;
  runs = ap (λ y. onward (sels_by (sels_at done SelBegin) y) None (run sels_step [])) (seen-id an_id);
  ends = refl;
}
sels-end done (AtSelName id) = record { others = []; end = sels_at done (AtSelName id); last = SelName id; runs = refl; ends = refl }
sels-end done (AtSelArrow id a) = record {
  others = a_name ∷ [];
  end = sels_at done (AtSel (SelRenamed id a an_id));
  last = SelRenamed id a an_id;
  runs = ap (λ y. onward (sels_by (sels_at done (AtSelArrow id a)) y) None (run sels_step [])) (seen-id an_id);
  ends = refl;
}
sels-end done (AtSel sel) = record { others = []; end = sels_at done (AtSel sel); last = sel; runs = refl; ends = refl }

onward-to : {S T : Type 0} (step : S → T → Option S) (xs ys : List T) (s t u : S) → run step xs s ≡ Some t → run step ys t ≡ Some u → run step (xs ++ ys) s ≡ Some u
onward-to step xs ys s t u e f = run-append step xs ys s ∙ ap (λ o. onward o None (run step ys)) e ∙ f

sels-complete : (xs : List Lexeme) → AreSelectors xs → (u : ReaderSelectors) × (run selectors_reader.step xs selectors_reader.start ≡ Some u) × (selectors_reader.whole u ≡ true)
sels-complete xs a = (let r = sels-read xs a in (sels_shown r.end, sels-ended xs a.derivation r, sels-whole r.end ∙ ap is_some r.ends))

sels-alive : (xs : List Lexeme) (u : ReaderSelectors) → run selectors_reader.step xs selectors_reader.start ≡ Some u → CanBegin AreSelectors xs
sels-alive xs u e =
    let b = behind-sels xs u e in
    let on = sels-end b.there.done b.there.tail in
    record { others = on.others; part = are-selectors (xs ++ on.others) on.end on.last (onward-to sels_step xs on.others begun_sels b.there on.end b.runs on.runs) on.ends }

pub reads-selectors : ReadsExactly AreSelectors selectors_reader
reads-selectors = record { complete = sels-complete; sound = sels-sound; alive = sels-alive }

same-some : {A : Type 0} (a b : A) → Some a ≡ Some b → a ≡ b
same-some a b e = cc

-- what two runs of the machine of selectors come to is one
pub one-selectors : (xs : List Lexeme) (a b : AreSelectors xs) → a.derivation ≡ b.derivation
one-selectors xs a b = go (sels-read xs a) (sels-read xs b) where
  go : SelsRead xs a.derivation → SelsRead xs b.derivation → a.derivation ≡ b.derivation
  go r q =
      let there : r.end ≡ q.end = same-some r.end q.end (sym r.runs ∙ q.runs) in
      let last : r.last ≡ q.last = same-some r.last q.last (sym r.ends ∙ ap (λ s. sel_at s.tail) there ∙ q.ends) in
      sym r.same ∙ ap (λ s. sels_before s.done r.last []) there ∙ ap (λ sel. sels_before q.end.done sel []) last ∙ q.same

pub selectors-tree : (xs : List Lexeme) (a : AreSelectors xs) (u : ReaderSelectors) → run selectors_reader.step xs selectors_reader.start ≡ Some u
    → spec.selectors_at u ≡ Some (selectors_of a.derivation)
selectors-tree xs a u e =
    let r = sels-read xs a in
    let there : u ≡ sels_shown r.end = same-some u (sels_shown r.end) (sym e ∙ sels-ended xs a.derivation r) in
    ap spec.selectors_at there ∙ sels-shown r.end r.last r.ends ∙ ap (λ d. Some (selectors_of d)) r.same

-- ---- what each state keeps of the clauses read

abbrev ProperDone : List DoneClause → Type 0
ProperDone [] = Unit {0}
ProperDone (d ∷ done) = ProperImpExpr d.clause × ProperDone done

abbrev ProperTail : ImportTail → Type 0
ProperTail (AtClause clause) = ProperImpExpr clause
ProperTail _ = Unit {0}

abbrev ProperState : Option ImportState → Type 0
ProperState None = Unit {0}
ProperState (Some s) = ProperDone s.done × ProperTail s.tail

abbrev AllTails : Option ImportTail → Type 0
AllTails None = Unit {0}
AllTails (Some s) = ProperTail s

clause-proper : (s : ImportTail) (o : Option ImpExpr) → clause_at s ≡ o → ProperTail s → (c : ImpExpr) → o ≡ Some c → ProperImpExpr c
clause-proper (AtImportPath first (s ∷ done)) o e p c f = (let same : Some (ImportName (path_of first done) s.point s.id) ≡ Some c = e ∙ f in subst ProperImpExpr (same-some (ImportName (path_of first done) s.point s.id) c same) tt)
clause-proper (AtImportPath first []) o e p c f = (let same : None ≡ Some c = e ∙ f in cc)
clause-proper (AtClause clause) o e p c f = subst ProperImpExpr (same-some clause c (e ∙ f)) p
clause-proper ClauseBegin o e p c f = (let same : None ≡ Some c = e ∙ f in cc)
clause-proper (AtImportDot first done q) o e p c f = (let same : None ≡ Some c = e ∙ f in cc)

in-proper : (done : List DoneClause) (o : Option ImportTail) → ProperDone done → AllTails o → ProperState (in_import done o)
in-proper done None d p = tt
in-proper done (Some s) d p = (d, p)

parted-proper : (done : List DoneClause) (p : Place) (o : Option ImpExpr) → ProperDone done → ((c : ImpExpr) → o ≡ Some c → ProperImpExpr c) → ProperState (import_parted done p o)
parted-proper done p None d k = tt
parted-proper done p (Some c) d k = ((k c refl, d), tt)

moved-proper : (s : ImportTail) (y : Seen) → AllTails (import_moved s y)
moved-proper ClauseBegin (AnId id) = tt
moved-proper (AtImportPath first done) (ADot p) = tt
moved-proper (AtImportDot first done p) (AnId id) = tt
moved-proper (AtImportDot first done p) (AnUnderscore wild) = tt
moved-proper _ _ = tt

selected-proper : (s : ImportTail) (o : Place) (sel : Sel) (sels : List (Behind Sel)) (k : Place) → OnlyLastIsWild sel sels → AllTails (selected s o sel sels k)
selected-proper (AtImportDot first done p) o sel sels k w = w
selected-proper _ o sel sels k w = tt

import-proper : (s : ImportState) (i : ImportItem) → ProperImportItem i → ProperDone s.done → ProperTail s.tail → ProperState (import_step s i)
import-proper s (ImportToken x) w d p = go (seen x) where
  go : (y : Seen) → ProperState (import_by s y)
  go (AComma q) = parted-proper s.done q (clause_at s.tail) d (clause-proper s.tail (clause_at s.tail) refl p)
  go y = in-proper s.done (import_moved s.tail y) d (moved-proper s.tail y)
import-proper s (Selectors o sel sels k) w d p = in-proper s.done (selected s.tail o sel sels k) d (selected-proper s.tail o sel sels k w)
import-proper s (NoSelectors o xs k) w d p = tt

-- the import that ends
proper-before : (word : Place) (done : List DoneClause) (c : ImpExpr) (bs : List (Behind ImpExpr)) → ProperDone done → ProperImpExpr c → ProperImpExprs bs → ProperImport (clauses_before word done c bs)
proper-before word [] c bs d p q = (p, q)
proper-before word (e ∷ done) c bs d p q = proper-before word done e.clause (record { comma = e.place; item = c } ∷ bs) d.1 d.0 (p, q)

-- ---- imports

abbrev reads : ReaderState → ReadImportItem → Option ReaderState
reads s i = import_stepped s (import_picture i.inside i.item)

import-run : (start : ℕ) (is : List ReadImportItem) (s : ImportState) → run reads is (import_shown start s) ≡ option_map (import_shown start) (run import_step (import_items_of is) s)
import-run start [] s = refl
import-run start (i ∷ is) s =
    ap (λ o. onward o None (run reads is)) (import-same start s i.inside i.item) ∙ go (import_step s i.item) (λ t. import-run start is t)
  where
    go : (o : Option ImportState) → ((t : ImportState) → run reads is (import_shown start t) ≡ option_map (import_shown start) (run import_step (import_items_of is) t))
        → onward (option_map (import_shown start) o) None (run reads is) ≡ option_map (import_shown start) (onward o None (run import_step (import_items_of is)))
    go None on = refl
    go (Some t) on = on t

record ImportRun (is : List ReadImportItem) (s t : ImportState) : Type 0 where
  read : import_items_in t ≡ import_items_in s ++ import_items_of is
  proper : ProperState (Some s) → ProperState (Some t)

import-ran : (is : List ReadImportItem) (s t : ImportState) → run import_step (import_items_of is) s ≡ Some t → ImportRun is s t
import-ran [] s t e =
    (let same : s ≡ t = same-some s t e in
    record { read = ap import_items_in (sym same) ∙ sym (append-nil (import_items_in s)); proper = λ p. subst (λ u. ProperState (Some u)) same p })
import-ran (i ∷ is) s t e = go (import_step s i.item) refl e (λ u f. import-ran is u t f) where
  go : (o : Option ImportState) → import_step s i.item ≡ o → onward o None (run import_step (import_items_of is)) ≡ Some t
      → ((u : ImportState) → run import_step (import_items_of is) u ≡ Some t → ImportRun is u t) → ImportRun (i ∷ is) s t
  go None f g on = cc
  go (Some u) f g on =
      (let rest = on u g in
      record {
        read = rest.read ∙ ap (λ js. js ++ import_items_of is) (import-adds s i.item u f) ∙ append_assoc (import_items_in s) (i.item ∷ []) (import_items_of is);
        proper = λ p. rest.proper (subst ProperState f (import-proper s i.item i.proper p.0 p.1));
      })

abbrev begun_import : ImportState
begun_import = import_at [] ClauseBegin

record BehindImport (start : ℕ) (is : List ReadImportItem) (u : ReaderState) : Type 0 where
  there : ImportState
  runs : run import_step (import_items_of is) begun_import ≡ Some there
  same : import_shown start there ≡ u

behind-import : (start : ℕ) (is : List ReadImportItem) (u : ReaderState) → run reads is (spec.begun start) ≡ Some u → BehindImport start is u
behind-import start is u e = go (run import_step (import_items_of is) begun_import) refl (sym (import-run start is begun_import) ∙ e) where
  go : (o : Option ImportState) → run import_step (import_items_of is) begun_import ≡ o → option_map (import_shown start) o ≡ Some u → BehindImport start is u
  go None f g = cc
  go (Some t) f g = record { there = t; runs = f; same = same-some (import_shown start t) u g }

record ImportRead (is : List ReadImportItem) (i : Import) : Type 0 where
  end : ImportState
  last : ImpExpr
  runs : run import_step (import_items_of is) begun_import ≡ Some end
  ends : clause_at end.tail ≡ Some last
  same : clauses_before i.word end.done last [] ≡ i

import-read : (word : Place) (is : List ReadImportItem) (a : AreOfImport word is) → ImportRead is a.derivation
import-read word is a =
    let r = import-along a.derivation in
    record {
      end = r.end;
      last = r.last;
      runs = ap (λ js. run import_step js begun_import) (a.items ∙ sym (append-nil (import_items a.derivation))) ∙ r.leads.runs [];
      ends = r.ends;
      same = r.same a.derivation.word;
    }

import-ended : (start : ℕ) (is : List ReadImportItem) (i : Import) (r : ImportRead is i) → run reads is (spec.begun start) ≡ Some (import_shown start r.end)
import-ended start is i r = import-run start is begun_import ∙ ap (option_map (import_shown start)) r.runs

are-import : (word : Place) (is : List ReadImportItem) (t : ImportState) (c : ImpExpr) → run import_step (import_items_of is) begun_import ≡ Some t → clause_at t.tail ≡ Some c → AreOfImport word is
are-import word is t c r e =
    let ran = import-ran is begun_import t r in
    let kept : ProperState (Some t) = ran.proper (tt, tt) in
    record {
      derivation = clauses_before word t.done c [];
      stands = word-there word t.done c [];
      proper = proper-before word t.done c [] kept.0 (clause-proper t.tail (Some c) e kept.1 c refl) tt;
      items = sym ran.read ∙ sym (read-import word t c e);
    }

import-sound : (word : Place) (is : List ReadImportItem) (u : ReaderState) → run (import_reader word).step is (import_reader word).start ≡ Some u → (import_reader word).whole u ≡ true → AreOfImport word is
import-sound word is u r w =
    (let b = behind-import word.span.start is u r in
    go b.there b.runs (clause_at b.there.tail) refl (sym (import-whole word.span.start b.there) ∙ ap spec.is_import b.same ∙ w))
  where
    go : (t : ImportState) → run import_step (import_items_of is) begun_import ≡ Some t → (o : Option ImpExpr) → clause_at t.tail ≡ o → is_some o ≡ true → AreOfImport word is
    go t f None e g = cc
    go t f (Some c) e g = are-import word is t c f e

import-complete : (word : Place) (is : List ReadImportItem) → AreOfImport word is
    → (u : ReaderState) × (run (import_reader word).step is (import_reader word).start ≡ Some u) × ((import_reader word).whole u ≡ true)
import-complete word is a =
    (let r = import-read word is a in
    (import_shown word.span.start r.end, import-ended word.span.start is a.derivation r, import-whole word.span.start r.end ∙ ap is_some r.ends))

-- each is a token of a level
abbrev pub AllLevel : List Lexeme → Type 0
AllLevel [] = Unit {0}
AllLevel (x ∷ xs) = (is_level_token x ≡ true) × AllLevel xs

-- some tokens end what is read
record ImportEnded (s : ImportState) : Type 0 where
  others : List Lexeme
  level : AllLevel others
  lines : (ended : Bool) → newlines_end ended others ≡ true
  end : ImportState
  last : ImpExpr
  leads : LeadsBy import_step (import_tokens_of others) s end
  ends : clause_at end.tail ≡ Some last

abbrev a_dot : Lexeme
a_dot = dot any_place

abbrev at_path : (clauses : List DoneClause) (first : Id) (done : List Step) (p : Place) → ImportState
at_path clauses first done p = import_at clauses (AtImportPath first (step_of p an_id ∷ done))

to-name : (clauses : List DoneClause) (first : Id) (done : List Step) (p : Place) → LeadsBy import_step (ImportToken a_name ∷ []) (import_at clauses (AtImportDot first done p)) (at_path clauses first done p)
to-name clauses first done p = by-one import_step (ImportToken a_name) _ _ (ap (import_by (import_at clauses (AtImportDot first done p))) (seen-id an_id))

to-dot : (clauses : List DoneClause) (first : Id) (done : List Step)
    → LeadsBy import_step (ImportToken a_dot ∷ ImportToken a_name ∷ []) (import_at clauses (AtImportPath first done)) (at_path clauses first done any_place)
to-dot clauses first done =
    by-on import_step (ImportToken a_dot) _ _ (import_at clauses (AtImportDot first done any_place)) _ (ap (import_by (import_at clauses (AtImportPath first done))) (seen-dot any_place))
    (to-name clauses first done any_place)

import-end : (clauses : List DoneClause) (s : ImportTail) → ImportEnded (import_at clauses s)
import-end clauses ClauseBegin = record {
  others = a_name ∷ a_dot ∷ a_name ∷ [];
  level = (refl, (refl, (refl, tt)));
  lines = fill-ends (One Name ∷ One Point ∷ One Name ∷ []);
  end = at_path clauses an_id [] any_place;
  last = ImportName (path_of an_id []) any_place an_id;
  leads = by-on import_step (ImportToken a_name) _ _ (import_at clauses (AtImportPath an_id [])) _ (ap (import_by (import_at clauses ClauseBegin)) (seen-id an_id)) (to-dot clauses an_id []);
  ends = refl;
}
import-end clauses (AtImportPath first []) = record {
  others = a_dot ∷ a_name ∷ [];
  level = (refl, (refl, tt));
  lines = fill-ends (One Point ∷ One Name ∷ []);
  end = at_path clauses first [] any_place;
  last = ImportName (path_of first []) any_place an_id;
  leads = to-dot clauses first [];
  ends = refl;
}
import-end clauses (AtImportPath first (s ∷ done)) = record {
  others = [];
  level = tt;
  lines = fill-ends [];
  end = import_at clauses (AtImportPath first (s ∷ done));
  last = ImportName (path_of first done) s.point s.id;
  leads = by-none import_step _;
  ends = refl;
}
import-end clauses (AtImportDot first done p) = record {
  others = a_name ∷ [];
  level = (refl, tt);
  lines = fill-ends (One Name ∷ []);
  end = at_path clauses first done p;
  last = ImportName (path_of first done) p an_id;
  leads = to-name clauses first done p;
  ends = refl;
}
import-end clauses (AtClause c) = record { others = []; level = tt; lines = fill-ends []; end = import_at clauses (AtClause c); last = c; leads = by-none import_step _; ends = refl }

abbrev pub given : List Lexeme → List ReadImportItem
given [] = []
given (x ∷ xs) = record { inside = inside.Nothing; item = ImportToken x; proper = tt } ∷ given xs

given-items : (is : List ReadImportItem) (xs : List Lexeme) → import_items_of (is ++ given xs) ≡ import_items_of is ++ import_tokens_of xs
given-items [] [] = refl
given-items [] (x ∷ xs) = ap (λ js. ImportToken x ∷ js) (given-items [] xs)
given-items (i ∷ is) xs = ap (λ js. i.item ∷ js) (given-items is xs)

-- with these tokens what was read is an import
pub record CompletedImport (word : Place) (is : List ReadImportItem) : Type 0 where
  pub others : List Lexeme
  pub level : AllLevel others
  pub lines : (ended : Bool) → newlines_end ended others ≡ true
  pub part : AreOfImport word (is ++ given others)

pub completed-import : (word : Place) (is : List ReadImportItem) (u : ReaderState) → run (import_reader word).step is (import_reader word).start ≡ Some u → CompletedImport word is
completed-import word is u e =
    let b = behind-import word.span.start is u e in
    let on = import-end b.there.done b.there.tail in
    let more : run import_step (import_tokens_of on.others) b.there ≡ Some on.end = ap (λ js. run import_step js b.there) (sym (append-nil (import_tokens_of on.others))) ∙ on.leads.runs [] in
    record {
      others = on.others;
      level = on.level;
      lines = on.lines;
      part = are-import word (is ++ given on.others) on.end on.last
          (ap (λ js. run import_step js begun_import) (given-items is on.others) ∙ onward-to import_step (import_items_of is) (import_tokens_of on.others) begun_import b.there on.end b.runs more) on.ends;
    }

import-alive : (word : Place) (is : List ReadImportItem) (u : ReaderState) → run (import_reader word).step is (import_reader word).start ≡ Some u → CanBegin (AreOfImport word) is
import-alive word is u e = (let c = completed-import word is u e in record { others = given c.others; part = c.part })

pub reads-import : (word : Place) → ReadsExactly (AreOfImport word) (import_reader word)
reads-import word = record { complete = import-complete word; sound = import-sound word; alive = import-alive word }

pub one-import : (word : Place) (is : List ReadImportItem) (a b : AreOfImport word is) → a.derivation ≡ b.derivation
one-import word is a b = go (import-read word is a) (import-read word is b) where
  go : ImportRead is a.derivation → ImportRead is b.derivation → a.derivation ≡ b.derivation
  go r q =
      let there : r.end ≡ q.end = same-some r.end q.end (sym r.runs ∙ q.runs) in
      let last : r.last ≡ q.last = same-some r.last q.last (sym r.ends ∙ ap (λ s. clause_at s.tail) there ∙ q.ends) in
      sym r.same ∙ ap (λ s. clauses_before a.derivation.word s.done r.last []) there ∙ ap (λ c. clauses_before a.derivation.word q.end.done c []) last
      ∙ ap (λ p. clauses_before p q.end.done q.last []) (a.stands ∙ sym b.stands) ∙ q.same

pub import-built : (word : Place) (is : List ReadImportItem) (a : AreOfImport word is) (u : ReaderState) → run (import_reader word).step is (import_reader word).start ≡ Some u
    → spec.import_at u ≡ record { tall = kept (import_tree a.derivation); free = [] }
import-built word is a u e =
    let r = import-read word is a in
    let there : u ≡ import_shown word.span.start r.end = same-some u (import_shown word.span.start r.end) (sym e ∙ import-ended word.span.start is a.derivation r) in
    ap spec.import_at there ∙ import-shown word r.end r.last r.ends
    ∙ ap (λ i. record { tall = kept (import_tree i); free = [] }) (ap (λ p. clauses_before p r.end.done r.last []) (sym a.stands) ∙ r.same)
