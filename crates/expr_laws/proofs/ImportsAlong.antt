-- The items of an import, and the tokens of the selectors in its braces, lead their machines to where these were read.
use Rattle.std.proofs.Common.{◌≡◌, false, List, [], ◌∷◌, ◌++◌, Some, refl, ap, ◌∙◌}
use Rattle.source_grammar.specs.Definitions.{Behind, Sel, SelName, SelRenamed, SelHidden, SelWild, ImpExpr, ImportName, ImportWild, ImportSels, Import, behind_tokens, sel_tokens, is_wild, OnlyLastIsWild}
use Rattle.source_grammar.specs.Lexemes.{Place, comma, dot, underscore, arrow_token, Id, id_token, Step, QualId, steps_tokens, qual_id_tokens}
use Rattle.expr_laws.proofs.AnnotationsAlong.{ordered-twice}
use Rattle.expr_laws.proofs.DefsDerived.{ordered}
use Rattle.expr_laws.proofs.ImportsDerived.{DoneSel, SelTail, SelBegin, AtSelName, AtSelArrow, AtSel, Sels, sels_at, sel_at, done_sel, sel_parted, sels_by, sels_step, sels_before, ImportItem, ImportToken, Selectors, DoneClause, ImportTail, ClauseBegin, AtImportPath, AtImportDot, AtClause, ImportState, import_at, path_of, clause_at, done_clause, import_parted, step_of, import_by, import_step, clauses_before, import_tokens_of, clause_items, others_items, import_items}
use Rattle.expr_laws.proofs.Leading.{LeadsBy, by-none, by-then, by-on, by-one}
use Rattle.expr_laws.proofs.Seen.{seen-id, seen-underscore, seen-arrow, seen-comma, seen-dot}

-- ---- selectors

-- where a selector was read
abbrev pub sel_tail : Sel → SelTail
sel_tail (SelName id) = AtSelName id
sel_tail sel = AtSel sel

sel-there : (sel : Sel) → sel_at (sel_tail sel) ≡ Some sel
sel-there (SelName id) = refl
sel-there _ = refl

sel-along : (sel : Sel) (done : List DoneSel) → LeadsBy sels_step (sel_tokens sel) (sels_at done SelBegin) (sels_at done (sel_tail sel))
sel-along (SelName id) done = by-one sels_step (id_token id) _ _ (ap (sels_by (sels_at done SelBegin)) (seen-id id))
sel-along (SelRenamed id a shown) done =
    by-on sels_step (id_token id) _ _ (sels_at done (AtSelName id)) _ (ap (sels_by (sels_at done SelBegin)) (seen-id id))
    (by-on sels_step (arrow_token a) _ _ (sels_at done (AtSelArrow id a)) _ (ap (sels_by (sels_at done (AtSelName id))) (seen-arrow a))
    (by-one sels_step (id_token shown) _ _ (ap (sels_by (sels_at done (AtSelArrow id a))) (seen-id shown))))
sel-along (SelHidden id a wild) done =
    by-on sels_step (id_token id) _ _ (sels_at done (AtSelName id)) _ (ap (sels_by (sels_at done SelBegin)) (seen-id id))
    (by-on sels_step (arrow_token a) _ _ (sels_at done (AtSelArrow id a)) _ (ap (sels_by (sels_at done (AtSelName id))) (seen-arrow a))
    (by-one sels_step (underscore wild) _ _ (ap (sels_by (sels_at done (AtSelArrow id a))) (seen-underscore wild))))
sel-along (SelWild wild) done = by-one sels_step (underscore wild) _ _ (ap (sels_by (sels_at done SelBegin)) (seen-underscore wild))

sel-comma : (sel : Sel) (done : List DoneSel) (p : Place) → is_wild sel ≡ false → sels_step (sels_at done (sel_tail sel)) (comma p) ≡ Some (sels_at (done_sel sel p ∷ done) SelBegin)
sel-comma sel done p w = ap (sels_by (sels_at done (sel_tail sel))) (seen-comma p) ∙ ap (sel_parted done p) (sel-there sel) ∙ go sel w where
  go : (s : Sel) → is_wild s ≡ false → sel_parted done p (Some s) ≡ Some (sels_at (done_sel s p ∷ done) SelBegin)
  go (SelWild wild) w = cc
  go _ w = refl

-- the last of some selectors, and those before it
abbrev last_sel : Sel → List (Behind Sel) → Sel
last_sel sel [] = sel
last_sel sel (b ∷ bs) = last_sel b.item bs

abbrev done_sels : Sel → List (Behind Sel) → List DoneSel → List DoneSel
done_sels sel [] done = done
done_sels sel (b ∷ bs) done = done_sels b.item bs (done_sel sel b.comma ∷ done)

sels-there : (sel : Sel) (bs : List (Behind Sel)) (done : List DoneSel) → sels_before (done_sels sel bs done) (last_sel sel bs) [] ≡ sels_before done sel bs
sels-there sel [] done = refl
sels-there sel (b ∷ bs) done = sels-there b.item bs (done_sel sel b.comma ∷ done)

sels-along : (sel : Sel) (bs : List (Behind Sel)) (done : List DoneSel) → OnlyLastIsWild sel bs
    → LeadsBy sels_step (sel_tokens sel ++ behind_tokens sel_tokens bs) (sels_at done SelBegin) (sels_at (done_sels sel bs done) (sel_tail (last_sel sel bs)))
sels-along sel [] done w = by-then sels_step (sel_tokens sel) [] _ _ _ (sel-along sel done) (by-none sels_step _)
sels-along sel (b ∷ bs) done w =
    by-then sels_step (sel_tokens sel) _ _ (sels_at done (sel_tail sel)) _ (sel-along sel done)
    (by-on sels_step (comma b.comma) _ _ (sels_at (done_sel sel b.comma ∷ done) SelBegin) _ (sel-comma sel done b.comma w.0)
    (sels-along b.item bs (done_sel sel b.comma ∷ done) w.1))

-- the selectors in a pair of braces are read as these
pub record SelsEnd (sel : Sel) (others : List (Behind Sel)) : Type 0 where
  pub end : Sels
  pub last : Sel
  pub leads : LeadsBy sels_step (sel_tokens sel ++ behind_tokens sel_tokens others) (sels_at [] SelBegin) end
  pub ends : sel_at end.tail ≡ Some last
  pub same : sels_before end.done last [] ≡ record { sel = sel; others = others }

pub selectors-along : (sel : Sel) (others : List (Behind Sel)) → OnlyLastIsWild sel others → SelsEnd sel others
selectors-along sel others w = record {
  end = sels_at (done_sels sel others []) (sel_tail (last_sel sel others));
  last = last_sel sel others;
  leads = sels-along sel others [] w;
  ends = sel-there (last_sel sel others);
  same = sels-there sel others [];
}

-- ---- one clause

steps-along : (steps : List Step) (clauses : List DoneClause) (first : Id) (done : List Step)
    → LeadsBy import_step (import_tokens_of (steps_tokens steps)) (import_at clauses (AtImportPath first done)) (import_at clauses (AtImportPath first (ordered steps done)))
steps-along [] clauses first done = by-none import_step _
steps-along (s ∷ steps) clauses first done =
    by-on import_step (ImportToken (dot s.point)) _ _ (import_at clauses (AtImportDot first done s.point)) _ (ap (import_by (import_at clauses (AtImportPath first done))) (seen-dot s.point))
    (by-on import_step (ImportToken (id_token s.id)) _ _ (import_at clauses (AtImportPath first (s ∷ done))) _ (ap (import_by (import_at clauses (AtImportDot first done s.point))) (seen-id s.id))
    (steps-along steps clauses first (s ∷ done)))

-- a path and the point behind it
path-along : (path : QualId) (point : Place) (clauses : List DoneClause) (rest : List ImportItem) (s : ImportState)
    → LeadsBy import_step rest (import_at clauses (AtImportDot path.first (ordered path.steps []) point)) s
    → LeadsBy import_step (import_tokens_of (qual_id_tokens path) ++ ImportToken (dot point) ∷ rest) (import_at clauses ClauseBegin) s
path-along path point clauses rest s l =
    by-on import_step (ImportToken (id_token path.first)) _ _ (import_at clauses (AtImportPath path.first [])) _ (ap (import_by (import_at clauses ClauseBegin)) (seen-id path.first))
    (by-then import_step (import_tokens_of (steps_tokens path.steps)) _ _ (import_at clauses (AtImportPath path.first (ordered path.steps []))) _ (steps-along path.steps clauses path.first [])
    (by-on import_step (ImportToken (dot point)) _ _ (import_at clauses (AtImportDot path.first (ordered path.steps []) point)) _
    (ap (import_by (import_at clauses (AtImportPath path.first (ordered path.steps [])))) (seen-dot point)) l))

-- where a clause was read
pub record ClauseEnds (clause : ImpExpr) (clauses : List DoneClause) : Type 0 where
  pub tail : ImportTail
  pub leads : LeadsBy import_step (clause_items clause) (import_at clauses ClauseBegin) (import_at clauses tail)
  pub there : clause_at tail ≡ Some clause

same-path : (path : QualId) → path_of path.first (ordered path.steps []) ≡ path
same-path path = ap (λ steps. record { first = path.first; steps = steps }) (ordered-twice path.steps)

pub clause-along : (clause : ImpExpr) (clauses : List DoneClause) → ClauseEnds clause clauses
clause-along (ImportName path point id) clauses = record {
  tail = AtImportPath path.first (step_of point id ∷ ordered path.steps []);
  leads = path-along path point clauses _ _
      (by-one import_step (ImportToken (id_token id)) _ _ (ap (import_by (import_at clauses (AtImportDot path.first (ordered path.steps []) point))) (seen-id id)));
  there = ap (λ p. Some (ImportName p point id)) (same-path path);
}
clause-along (ImportWild path point wild) clauses = record {
  tail = AtClause (ImportWild path point wild);
  leads = path-along path point clauses _ _
      (by-one import_step (ImportToken (underscore wild)) _ _
      (ap (import_by (import_at clauses (AtImportDot path.first (ordered path.steps []) point))) (seen-underscore wild)
      ∙ ap (λ p. Some (import_at clauses (AtClause (ImportWild p point wild)))) (same-path path)));
  there = refl;
}
clause-along (ImportSels path point o sel sels k) clauses = record {
  tail = AtClause (ImportSels path point o sel sels k);
  leads = path-along path point clauses _ _
      (by-one import_step (Selectors o sel sels k) _ _ (ap (λ p. Some (import_at clauses (AtClause (ImportSels p point o sel sels k)))) (same-path path)));
  there = refl;
}

-- ---- an import

pub record ImportEnds (items : List ImportItem) (clause : ImpExpr) (others : List (Behind ImpExpr)) (clauses : List DoneClause) : Type 0 where
  pub end : ImportState
  pub last : ImpExpr
  pub leads : LeadsBy import_step items (import_at clauses ClauseBegin) end
  pub ends : clause_at end.tail ≡ Some last
  pub same : (word : Place) → clauses_before word end.done last [] ≡ clauses_before word clauses clause others

clauses-along : (clause : ImpExpr) (others : List (Behind ImpExpr)) (clauses : List DoneClause) → ImportEnds (clause_items clause ++ others_items others) clause others clauses
clauses-along clause [] clauses =
    let first = clause-along clause clauses in
    record {
      end = import_at clauses first.tail;
      last = clause;
      leads = by-then import_step (clause_items clause) [] _ _ _ first.leads (by-none import_step _);
      ends = first.there;
      same = λ word. refl;
    }
clauses-along clause (b ∷ bs) clauses =
    let first = clause-along clause clauses in
    let rest = clauses-along b.item bs (done_clause clause b.comma ∷ clauses) in
    record {
      end = rest.end;
      last = rest.last;
      leads = by-then import_step (clause_items clause) _ _ (import_at clauses first.tail) _ first.leads
          (by-on import_step (ImportToken (comma b.comma)) _ _ (import_at (done_clause clause b.comma ∷ clauses) ClauseBegin) _
          (ap (import_by (import_at clauses first.tail)) (seen-comma b.comma) ∙ ap (import_parted clauses b.comma) first.there) rest.leads);
      ends = rest.ends;
      same = rest.same;
    }

pub import-along : (i : Import) → ImportEnds (import_items i) i.first i.others []
import-along i = clauses-along i.first i.others []
