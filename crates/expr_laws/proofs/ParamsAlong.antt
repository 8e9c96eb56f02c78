-- The tokens of lists of parameters lead the machine of definitions to where these were read.
use Rattle.std.proofs.Common.{◌≡◌, true, false, List, [], ◌∷◌, ◌++◌, Option, Some, None, codes, refl, ap, sym, ◌∙◌, append_assoc, append-nil, subst}
use Rattle.source_grammar.specs.Definitions.{Par, Behind, Nothing, Items, Listed, ParList, listed_tokens, behind_items, items, OnlyLastRepeats, par_tokens, par_list_tokens, par_lists_tokens}
use Rattle.source_grammar.specs.ExpressionRules.{ProperParLists}
use Rattle.source_grammar.specs.Lexemes.{Place, plain_at, open_round, close_round, comma, colon, Id, id_token}
use Rattle.source_grammar.specs.Newlines.{is_near}
use Rattle.source_grammar.specs.Types.{WrittenType, type_tokens}
use Rattle.parse_parts.proofs.Derived as types
use Rattle.expr_laws.proofs.DefsDerived.{Plain, mark, ordered, Signature, DonePar, PTail, PBegin, PAtName, PInType, PAtStar, AtMethod, InParams, Found, State, at, pars_before, par_of, typed_par, par_at}
use Rattle.expr_laws.proofs.DefsSteps.{signature, at_method, starred, par_list, with_list, pars_closed, list_closed, next_par, behind_par, par_on, par_type, par_step, step}
use Rattle.expr_laws.proofs.Derived.{OneToken, type_begun}
use Rattle.expr_laws.proofs.Items.{tokens}
use Rattle.expr_laws.proofs.Leading.{LeadsBy, by-none, by-then, by-on, by-one, by-as, tokens-lift}
use Rattle.expr_laws.proofs.ModsAlong.{mark-id}
use Rattle.expr_laws.proofs.Moving.{tokens-append}
use Rattle.expr_laws.proofs.Seen.{seen-colon, seen-comma, seen-open_round, seen-close_round}
use Rattle.expr_laws.proofs.Settling.{comma-no-type, close-no-type}
use Rattle.expr_laws.proofs.TParamsAlong.{read_type, type-id, type-run}
use Rattle.expr_laws.proofs.TokenSteps.{if-true, type-there}

-- ---- one parameter

abbrev in_list : Found → Signature → Place → List DonePar → PTail → State
in_list found m o done now = at found (InParams m o done now)

-- a name and the colon behind it
par-front : (found : Found) (m : Signature) (o : Place) (done : List DonePar) (id : Id) (point : Place) (type : WrittenType)
    → LeadsBy step (OneToken (id_token id) ∷ OneToken (colon point) ∷ tokens (type_tokens type)) (in_list found m o done PBegin) (in_list found m o done (PInType id point (read_type type)))
par-front found m o done id point type =
    by-on step (OneToken (id_token id)) _ _ (in_list found m o done (PAtName id)) _ (ap (par_step found m o done PBegin None) (mark-id id))
    (by-on step (OneToken (colon point)) _ _ (in_list found m o done (PInType id point type_begun)) _ (ap (λ y. behind_par found m o done (PAtName id) (Plain y)) (seen-colon point))
    (tokens-lift types.step step (λ t. in_list found m o done (PInType id point t))
    (λ r q x e. ap (λ k. par_step found m o done (PInType id point r) (par_on id point k) (mark x)) e)
    (type_tokens type) type_begun (read_type type) (type-run type)))

abbrev star_id : Place → Id
star_id star = record { name = codes "*"; quoted = false; place = star }

-- where a parameter was read
abbrev par_tail : Id → Place → WrittenType → Option Place → PTail
par_tail id point type None = PInType id point (read_type type)
par_tail id point type (Some star) = PAtStar id point type star

par-along : (found : Found) (m : Signature) (o : Place) (done : List DonePar) (id : Id) (point : Place) (type : WrittenType) (star : Option Place)
    → LeadsBy step (tokens (par_tokens (par_of id point type star))) (in_list found m o done PBegin) (in_list found m o done (par_tail id point type star))
par-along found m o done id point type None =
    by-as step (OneToken (id_token id) ∷ OneToken (colon point) ∷ tokens (type_tokens type)) _ _ _
    (ap (λ xs. OneToken (id_token id) ∷ OneToken (colon point) ∷ tokens xs) (sym (append-nil (type_tokens type)))) (par-front found m o done id point type)
par-along found m o done id point type (Some star) =
    let front = id_token id ∷ colon point ∷ type_tokens type in
    by-as step (tokens front ++ OneToken (plain_at (codes "*") star) ∷ []) _ _ _ (sym (tokens-append front (plain_at (codes "*") star ∷ [])))
    (by-then step (tokens front) _ _ (in_list found m o done (PInType id point (read_type type))) _ (par-front found m o done id point type)
    (by-one step (OneToken (plain_at (codes "*") star)) _ _
    (ap (λ k. par_step found m o done (PInType id point (read_type type)) (par_on id point k) (mark (id_token (star_id star)))) (type-id type (star_id star))
    ∙ ap (behind_par found m o done (PInType id point (read_type type))) (mark-id (star_id star))
    ∙ ap (starred found m o done id point (star_id star)) (type-there type))))

par-there : (id : Id) (point : Place) (type : WrittenType) (star : Option Place) → par_at (par_tail id point type star) ≡ Some (par_of id point type star)
par-there id point type None = ap (typed_par id point) (type-there type)
par-there id point type (Some star) = refl

-- ---- a list

par-comma : (found : Found) (m : Signature) (o : Place) (done : List DonePar) (id : Id) (point : Place) (type : WrittenType) (p : Place)
    → step (in_list found m o done (PInType id point (read_type type))) (OneToken (comma p))
    ≡ Some (in_list found m o (record { par = par_of id point type None; place = p } ∷ done) PBegin)
par-comma found m o done id point type p =
    ap (λ k. par_step found m o done (PInType id point (read_type type)) (par_on id point k) (mark (comma p))) (comma-no-type p (read_type type) refl)
    ∙ ap (λ y. behind_par found m o done (PInType id point (read_type type)) (Plain y)) (seen-comma p)
    ∙ ap (next_par found m o done p) (par-there id point type None)

-- a list that is not empty is closed
list-filled : (found : Found) (m : Signature) (o : Place) (done : List DonePar) (k : Place) (id : Id) (point : Place) (type : WrittenType) (star : Option Place)
    → list_closed found m o done k (par_tail id point type star) ≡ pars_closed found m o done k (par_at (par_tail id point type star))
list-filled found m o [] k id point type None = refl
list-filled found m o [] k id point type (Some star) = refl
list-filled found m o (d ∷ done) k id point type None = refl
list-filled found m o (d ∷ done) k id point type (Some star) = refl

par-close : (found : Found) (m : Signature) (o : Place) (done : List DonePar) (id : Id) (point : Place) (type : WrittenType) (star : Option Place) (k : Place)
    → step (in_list found m o done (par_tail id point type star)) (OneToken (close_round k))
    ≡ Some (at found (AtMethod (with_list m (par_list o (pars_before done (par_of id point type star) []) k))))
par-close found m o done id point type star k =
    ap (λ n. par_step found m o done (par_tail id point type star) n (mark (close_round k))) (out star)
    ∙ ap (λ y. behind_par found m o done (par_tail id point type star) (Plain y)) (seen-close_round k)
    ∙ list-filled found m o done k id point type star
    ∙ ap (pars_closed found m o done k) (par-there id point type star)
  where
    out : (s : Option Place) → par_type (par_tail id point type s) (close_round k) ≡ None
    out None = ap (par_on id point) (close-no-type k (read_type type) refl)
    out (Some s) = refl

pars-along : (par : Par) (bs : List (Behind Par)) → OnlyLastRepeats (par ∷ behind_items bs) → (found : Found) (m : Signature) (o k : Place) (done : List DonePar)
    → LeadsBy step (tokens (listed_tokens par_tokens (Items par bs) ++ close_round k ∷ [])) (in_list found m o done PBegin)
    (at found (AtMethod (with_list m (par_list o (pars_before done par bs) k))))
pars-along par [] p found m o k done =
    by-as step (tokens (par_tokens par) ++ OneToken (close_round k) ∷ []) _ _ _
    (sym (tokens-append (par_tokens par) (close_round k ∷ [])) ∙ ap (λ xs. tokens (xs ++ close_round k ∷ [])) (sym (append-nil (par_tokens par))))
    (by-then step (tokens (par_tokens par)) _ _ (in_list found m o done (par_tail par.id par.point par.type par.star)) _ (par-along found m o done par.id par.point par.type par.star)
    (by-one step (OneToken (close_round k)) _ _ (par-close found m o done par.id par.point par.type par.star k)))
pars-along par (b ∷ bs) p found m o k done =
    let rest = listed_tokens par_tokens (Items b.item bs) ++ close_round k ∷ [] in
    let plain = par_of par.id par.point par.type None in
    let same : plain ≡ par = ap (par_of par.id par.point par.type) (sym p.0) in
    by-as step (tokens (par_tokens par) ++ OneToken (comma b.comma) ∷ tokens rest) _ _ _
    (sym (tokens-append (par_tokens par) (comma b.comma ∷ rest)) ∙ ap tokens (sym (append_assoc (par_tokens par) (comma b.comma ∷ listed_tokens par_tokens (Items b.item bs)) (close_round k ∷ []))))
    (by-then step (tokens (par_tokens par)) _ _ (in_list found m o done (PInType par.id par.point (read_type par.type))) _
    (subst (λ s. LeadsBy step (tokens (par_tokens par)) (in_list found m o done PBegin) (in_list found m o done (par_tail par.id par.point par.type s))) p.0
    (par-along found m o done par.id par.point par.type par.star))
    (by-on step (OneToken (comma b.comma)) _ _ (in_list found m o (record { par = par; place = b.comma } ∷ done) PBegin) _
    (par-comma found m o done par.id par.point par.type b.comma ∙ ap (λ d. Some (in_list found m o (record { par = d; place = b.comma } ∷ done) PBegin)) same)
    (pars-along b.item bs p.1 found m o k (record { par = par; place = b.comma } ∷ done))))

list-along : (list : ParList) → is_near list.opening.before ≡ true → OnlyLastRepeats (items list.pars) → (found : Found) (m : Signature)
    → LeadsBy step (tokens (par_list_tokens list)) (at found (AtMethod m)) (at found (AtMethod (with_list m list)))
list-along list n p found m = go list.pars p where
  opens : step (at found (AtMethod m)) (OneToken (open_round list.opening)) ≡ Some (in_list found m list.opening [] PBegin)
  opens =
      ap (λ y. at_method found m (Plain y)) (seen-open_round list.opening)
      ∙ if-true (is_near list.opening.before) (Some (in_list found m list.opening [] PBegin)) None n

  go : (pars : Listed Par) → OnlyLastRepeats (items pars)
      → LeadsBy step (tokens (par_list_tokens (par_list list.opening pars list.closing))) (at found (AtMethod m)) (at found (AtMethod (with_list m (par_list list.opening pars list.closing))))
  go Nothing q =
      by-on step (OneToken (open_round list.opening)) _ _ (in_list found m list.opening [] PBegin) _ opens
      (by-one step (OneToken (close_round list.closing)) _ _ (ap (λ y. behind_par found m list.opening [] PBegin (Plain y)) (seen-close_round list.closing)))
  go (Items par bs) q =
      by-on step (OneToken (open_round list.opening)) _ _ (in_list found m list.opening [] PBegin) _ opens
      (pars-along par bs q found m list.opening list.closing [])

-- all lists, the last one first in what was read
pub lists-along : (lists : List ParList) → ProperParLists lists → (found : Found) (m : Signature)
    → LeadsBy step (tokens (par_lists_tokens lists)) (at found (AtMethod m)) (at found (AtMethod (signature m.word m.id m.tparams (ordered lists m.lists))))
lists-along [] p found m = by-none step _
lists-along (list ∷ lists) p found m =
    by-as step (tokens (par_list_tokens list) ++ tokens (par_lists_tokens lists)) _ _ _ (sym (tokens-append (par_list_tokens list) (par_lists_tokens lists)))
    (by-then step (tokens (par_list_tokens list)) _ _ (at found (AtMethod (with_list m list))) _ (list-along list p.0 p.1 found m)
    (lists-along lists p.2 found (with_list m list)))
