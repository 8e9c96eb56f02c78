-- What was read of an import, and of the selectors in its braces, is the items of the derivations in the state.
use Rattle.std.proofs.Common.{◌≡◌, false, List, [], ◌∷◌, ◌++◌, Option, Some, None, refl, ap, sym, ◌∙◌, append_assoc, append-nil, subst}
use Rattle.source_grammar.specs.Definitions.{Behind, Sel, SelName, SelRenamed, SelHidden, SelWild, ImpExpr, ImportName, ImportWild, ImportSels, behind_tokens, sel_tokens, is_wild, OnlyLastIsWild}
use Rattle.source_grammar.specs.Lexemes.{Place, Lexeme, comma, dot, id_token, Id, Step, steps_tokens, qual_id_tokens}
use Rattle.expr_laws.proofs.DefsDerived.{ordered}
use Rattle.expr_laws.proofs.ImportsDerived.{DoneSel, SelTail, SelBegin, AtSelName, AtSelArrow, AtSel, Sels, sels_at, sel_at, done_sel, sel_parted, in_sels, sel_moved, sels_by, sels_step, sels_before, sel_tail_tokens, sels_done, sels_tokens, ImportItem, ImportToken, Selectors, NoSelectors, DoneClause, ImportTail, ClauseBegin, AtImportPath, AtImportDot, AtClause, ImportState, import_at, path_of, clause_at, done_clause, import_parted, in_import, step_of, import_moved, import_by, selected, import_step, clauses_before, import_tokens_of, clause_items, others_items, import_items, steps_done, import_tail_items, clauses_done, import_items_in}
use Rattle.expr_laws.proofs.Seen.{Seen, AnId, AnUnderscore, AnArrow, AComma, ADot, seen, shown_token, token-shown}

-- ---- selectors

abbrev SelAdds : Option Sels → List Lexeme → Lexeme → Type 0
SelAdds o xs x = (s : Sels) → o ≡ Some s → sels_tokens s ≡ xs ++ x ∷ []

sel-none : (xs : List Lexeme) (x : Lexeme) → SelAdds None xs x
sel-none xs x s e = cc

sel-some : (t : Sels) (xs : List Lexeme) (x : Lexeme) → sels_tokens t ≡ xs ++ x ∷ [] → SelAdds (Some t) xs x
sel-some t xs x h s e = (let same : t ≡ s = cc in ap sels_tokens (sym same) ∙ h)

sel-tokens : (s : SelTail) (sel : Sel) → sel_at s ≡ Some sel → sel_tokens sel ≡ sel_tail_tokens s
sel-tokens (AtSelName id) sel e = (let same : SelName id ≡ sel = cc in ap sel_tokens (sym same))
sel-tokens (AtSel x) sel e = (let same : x ≡ sel = cc in ap sel_tokens (sym same))
sel-tokens _ sel e = cc

moved-tokens : (s t : SelTail) (y : Seen) → sel_moved s y ≡ Some t → sel_tail_tokens t ≡ sel_tail_tokens s ++ shown_token y ∷ []
moved-tokens SelBegin t (AnId id) e = (let same : AtSelName id ≡ t = cc in ap sel_tail_tokens (sym same))
moved-tokens SelBegin t (AnUnderscore p) e = (let same : AtSel (SelWild p) ≡ t = cc in ap sel_tail_tokens (sym same))
moved-tokens (AtSelName id) t (AnArrow a) e = (let same : AtSelArrow id a ≡ t = cc in ap sel_tail_tokens (sym same))
moved-tokens (AtSelArrow id a) t (AnId shown) e = (let same : AtSel (SelRenamed id a shown) ≡ t = cc in ap sel_tail_tokens (sym same))
moved-tokens (AtSelArrow id a) t (AnUnderscore p) e = (let same : AtSel (SelHidden id a p) ≡ t = cc in ap sel_tail_tokens (sym same))
moved-tokens _ t _ e = cc

in-sels-adds : (done : List DoneSel) (s : SelTail) (o : Option SelTail) (y : Seen) → sel_moved s y ≡ o → SelAdds (in_sels done o) (sels_tokens (sels_at done s)) (shown_token y)
in-sels-adds done s None y e = sel-none _ _
in-sels-adds done s (Some t) y e =
    sel-some (sels_at done t) _ _ (ap (λ xs. sels_done done ++ xs) (moved-tokens s t y e) ∙ sym (append_assoc (sels_done done) (sel_tail_tokens s) (shown_token y ∷ [])))

sel-parted-adds : (done : List DoneSel) (p : Place) (s : SelTail) (o : Option Sel) → sel_at s ≡ o → SelAdds (sel_parted done p o) (sels_tokens (sels_at done s)) (comma p)
sel-parted-adds done p s None e = sel-none _ _
sel-parted-adds done p s (Some (SelWild wild)) e = sel-none _ _
sel-parted-adds done p s (Some sel) e =
    sel-some (sels_at (done_sel sel p ∷ done) SelBegin) _ _
    (append-nil (sels_done done ++ (sel_tokens sel ++ comma p ∷ [])) ∙ ap (λ xs. sels_done done ++ (xs ++ comma p ∷ [])) (sel-tokens s sel e)
    ∙ sym (append_assoc (sels_done done) (sel_tail_tokens s) (comma p ∷ [])))

sels-by-adds : (s : Sels) (y : Seen) → SelAdds (sels_by s y) (sels_tokens s) (shown_token y)
sels-by-adds s (AComma p) = sel-parted-adds s.done p s.tail (sel_at s.tail) refl
sels-by-adds s y = in-sels-adds s.done s.tail (sel_moved s.tail y) y refl

-- one token more
pub sels-adds : (s : Sels) (x : Lexeme) (t : Sels) → sels_step s x ≡ Some t → sels_tokens t ≡ sels_tokens s ++ x ∷ []
sels-adds s x t e = sels-by-adds s (seen x) t e ∙ ap (λ z. sels_tokens s ++ z ∷ []) (token-shown x)

-- the selectors that end are what was read
before-tokens : (done : List DoneSel) (sel : Sel) (bs : List (Behind Sel))
    → sel_tokens (sels_before done sel bs).sel ++ behind_tokens sel_tokens (sels_before done sel bs).others ≡ sels_done done ++ (sel_tokens sel ++ behind_tokens sel_tokens bs)
before-tokens [] sel bs = refl
before-tokens (d ∷ done) sel bs =
    before-tokens done d.sel (record { comma = d.place; item = sel } ∷ bs) ∙ go (comma d.place) (sels_done done) (sel_tokens d.sel) (sel_tokens sel) (behind_tokens sel_tokens bs)
  where
    go : (x : Lexeme) (a b c e : List Lexeme) → a ++ (b ++ x ∷ (c ++ e)) ≡ (a ++ (b ++ x ∷ [])) ++ (c ++ e)
    go x a b c e = simp append_assoc

pub read-sels : (s : Sels) (sel : Sel) → sel_at s.tail ≡ Some sel
    → sel_tokens (sels_before s.done sel []).sel ++ behind_tokens sel_tokens (sels_before s.done sel []).others ≡ sels_tokens s
read-sels s sel e = before-tokens s.done sel [] ∙ ap (λ xs. sels_done s.done ++ xs) (append-nil (sel_tokens sel) ∙ sel-tokens s.tail sel e)

-- `_` is the last
abbrev pub NoWild : List DoneSel → Type 0
NoWild [] = Unit {0}
NoWild (d ∷ done) = (is_wild d.sel ≡ false) × NoWild done

before-wild : (done : List DoneSel) (sel : Sel) (bs : List (Behind Sel)) → NoWild done → OnlyLastIsWild sel bs
    → OnlyLastIsWild (sels_before done sel bs).sel (sels_before done sel bs).others
before-wild [] sel bs n w = w
before-wild (d ∷ done) sel bs n w = before-wild done d.sel (record { comma = d.place; item = sel } ∷ bs) n.1 (n.0, w)

pub only-last : (s : Sels) (sel : Sel) → NoWild s.done → OnlyLastIsWild (sels_before s.done sel []).sel (sels_before s.done sel []).others
only-last s sel n = before-wild s.done sel [] n tt

parted-wild : (done : List DoneSel) (p : Place) (o : Option Sel) (t : Sels) → NoWild done → sel_parted done p o ≡ Some t → NoWild t.done
parted-wild done p None t n e = cc
parted-wild done p (Some (SelWild wild)) t n e = cc
parted-wild done p (Some sel) t n e = (let same : sels_at (done_sel sel p ∷ done) SelBegin ≡ t = cc in subst (λ s. NoWild s.done) same (refl, n))

moved-wild : (done : List DoneSel) (o : Option SelTail) (t : Sels) → NoWild done → in_sels done o ≡ Some t → NoWild t.done
moved-wild done None t n e = cc
moved-wild done (Some tail) t n e = (let same : sels_at done tail ≡ t = cc in subst (λ s. NoWild s.done) same n)

pub sels-wild : (s : Sels) (x : Lexeme) (t : Sels) → NoWild s.done → sels_step s x ≡ Some t → NoWild t.done
sels-wild s x t n e = go (seen x) e where
  go : (y : Seen) → sels_by s y ≡ Some t → NoWild t.done
  go (AComma p) f = parted-wild s.done p (sel_at s.tail) t n f
  go y f = moved-wild s.done (sel_moved s.tail y) t n f

-- ---- imports

abbrev ImportAdds : Option ImportState → List ImportItem → ImportItem → Type 0
ImportAdds o is i = (s : ImportState) → o ≡ Some s → import_items_in s ≡ is ++ i ∷ []

import-none : (is : List ImportItem) (i : ImportItem) → ImportAdds None is i
import-none is i s e = cc

import-some : (t : ImportState) (is : List ImportItem) (i : ImportItem) → import_items_in t ≡ is ++ i ∷ [] → ImportAdds (Some t) is i
import-some t is i h s e = (let same : t ≡ s = cc in ap import_items_in (sym same) ∙ h)

-- the steps of a path in their order
steps-items : (done rest : List Step) → import_tokens_of (steps_tokens (ordered done rest)) ≡ steps_done done ++ import_tokens_of (steps_tokens rest)
steps-items [] rest = refl
steps-items (s ∷ done) rest = steps-items done (s ∷ rest) ∙ go (ImportToken (dot s.point)) (ImportToken (id_token s.id)) (steps_done done) (import_tokens_of (steps_tokens rest)) where
  go : (i j : ImportItem) (a b : List ImportItem) → a ++ i ∷ j ∷ b ≡ (a ++ i ∷ j ∷ []) ++ b
  go i j a b = simp append_assoc

path-items : (first : Id) (done : List Step) → import_tokens_of (qual_id_tokens (path_of first done)) ≡ ImportToken (id_token first) ∷ steps_done done
path-items first done = ap (λ is. ImportToken (id_token first) ∷ is) (steps-items done [] ∙ append-nil (steps_done done))

clause-read : (s : ImportTail) (clause : ImpExpr) → clause_at s ≡ Some clause → clause_items clause ≡ import_tail_items s
clause-read (AtImportPath first (s ∷ done)) clause e =
    (let same : ImportName (path_of first done) s.point s.id ≡ clause = cc in
    ap clause_items (sym same) ∙ ap (λ is. is ++ ImportToken (dot s.point) ∷ ImportToken (id_token s.id) ∷ []) (path-items first done))
clause-read (AtImportPath first []) clause e = cc
clause-read (AtClause x) clause e = (let same : x ≡ clause = cc in ap clause_items (sym same))
clause-read ClauseBegin clause e = cc
clause-read (AtImportDot first done p) clause e = cc

-- a clause that ends behind the point of a path
dotted-items : (first : Id) (done : List Step) (p : Place) (i : ImportItem)
    → import_tokens_of (qual_id_tokens (path_of first done)) ++ ImportToken (dot p) ∷ i ∷ [] ≡ import_tail_items (AtImportDot first done p) ++ i ∷ []
dotted-items first done p i =
    ap (λ is. is ++ ImportToken (dot p) ∷ i ∷ []) (path-items first done) ∙ ap (λ is. ImportToken (id_token first) ∷ is) (sym (append_assoc (steps_done done) (ImportToken (dot p) ∷ []) (i ∷ [])))

import-moved-items : (s t : ImportTail) (y : Seen) → import_moved s y ≡ Some t → import_tail_items t ≡ import_tail_items s ++ ImportToken (shown_token y) ∷ []
import-moved-items ClauseBegin t (AnId id) e = (let same : AtImportPath id [] ≡ t = cc in ap import_tail_items (sym same))
import-moved-items (AtImportPath first done) t (ADot p) e = (let same : AtImportDot first done p ≡ t = cc in ap import_tail_items (sym same))
import-moved-items (AtImportDot first done p) t (AnId id) e =
    (let same : AtImportPath first (step_of p id ∷ done) ≡ t = cc in
    ap import_tail_items (sym same) ∙ ap (λ is. ImportToken (id_token first) ∷ is) (sym (append_assoc (steps_done done) (ImportToken (dot p) ∷ []) (ImportToken (id_token id) ∷ []))))
import-moved-items (AtImportDot first done p) t (AnUnderscore wild) e =
    (let same : AtClause (ImportWild (path_of first done) p wild) ≡ t = cc in ap import_tail_items (sym same) ∙ dotted-items first done p _)
import-moved-items _ t _ e = cc

in-import-adds : (done : List DoneClause) (s : ImportTail) (o : Option ImportTail) (i : ImportItem) → ((t : ImportTail) → o ≡ Some t → import_tail_items t ≡ import_tail_items s ++ i ∷ [])
    → ImportAdds (in_import done o) (import_items_in (import_at done s)) i
in-import-adds done s None i e = import-none _ _
in-import-adds done s (Some t) i e =
    import-some (import_at done t) _ _ (ap (λ is. clauses_done done ++ is) (e t refl) ∙ sym (append_assoc (clauses_done done) (import_tail_items s) (i ∷ [])))

import-parted-adds : (done : List DoneClause) (p : Place) (s : ImportTail) (o : Option ImpExpr) → clause_at s ≡ o → ImportAdds (import_parted done p o) (import_items_in (import_at done s)) (ImportToken (comma p))
import-parted-adds done p s None e = import-none _ _
import-parted-adds done p s (Some clause) e =
    import-some (import_at (done_clause clause p ∷ done) ClauseBegin) _ _
    (append-nil (clauses_done done ++ (clause_items clause ++ ImportToken (comma p) ∷ []))
    ∙ ap (λ is. clauses_done done ++ (is ++ ImportToken (comma p) ∷ [])) (clause-read s clause e)
    ∙ sym (append_assoc (clauses_done done) (import_tail_items s) (ImportToken (comma p) ∷ [])))

selected-items : (s t : ImportTail) (o : Place) (sel : Sel) (sels : List (Behind Sel)) (k : Place) → selected s o sel sels k ≡ Some t → import_tail_items t ≡ import_tail_items s ++ Selectors o sel sels k ∷ []
selected-items (AtImportDot first done p) t o sel sels k e =
    (let same : AtClause (ImportSels (path_of first done) p o sel sels k) ≡ t = cc in ap import_tail_items (sym same) ∙ dotted-items first done p (Selectors o sel sels k))
selected-items _ t o sel sels k e = cc

import-by-adds : (s : ImportState) (y : Seen) → ImportAdds (import_by s y) (import_items_in s) (ImportToken (shown_token y))
import-by-adds s (AComma p) = import-parted-adds s.done p s.tail (clause_at s.tail) refl
import-by-adds s y = in-import-adds s.done s.tail (import_moved s.tail y) (ImportToken (shown_token y)) (λ t e. import-moved-items s.tail t y e)

-- one item more
pub import-adds : (s : ImportState) (i : ImportItem) (t : ImportState) → import_step s i ≡ Some t → import_items_in t ≡ import_items_in s ++ i ∷ []
import-adds s (ImportToken x) t e = import-by-adds s (seen x) t e ∙ ap (λ z. import_items_in s ++ ImportToken z ∷ []) (token-shown x)
import-adds s (Selectors o sel sels k) t e = in-import-adds s.done s.tail (selected s.tail o sel sels k) (Selectors o sel sels k) (λ u f. selected-items s.tail u o sel sels k f) t e
import-adds s (NoSelectors o xs k) t e = cc

-- the import that ends is what was read
clauses-items : (word : Place) (done : List DoneClause) (clause : ImpExpr) (bs : List (Behind ImpExpr))
    → import_items (clauses_before word done clause bs) ≡ clauses_done done ++ (clause_items clause ++ others_items bs)
clauses-items word [] clause bs = refl
clauses-items word (d ∷ done) clause bs =
    clauses-items word done d.clause (record { comma = d.place; item = clause } ∷ bs) ∙ go (ImportToken (comma d.place)) (clauses_done done) (clause_items d.clause) (clause_items clause) (others_items bs)
  where
    go : (i : ImportItem) (a b c e : List ImportItem) → a ++ (b ++ i ∷ (c ++ e)) ≡ (a ++ (b ++ i ∷ [])) ++ (c ++ e)
    go i a b c e = simp append_assoc

pub read-import : (word : Place) (s : ImportState) (clause : ImpExpr) → clause_at s.tail ≡ Some clause → import_items (clauses_before word s.done clause []) ≡ import_items_in s
read-import word s clause e =
    clauses-items word s.done clause [] ∙ ap (λ is. clauses_done s.done ++ is) (append-nil (clause_items clause) ∙ clause-read s.tail clause e)
