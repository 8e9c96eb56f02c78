-- What was read of parameters is the items of the derivations in the state, and so is what was read of any definition.
use Rattle.std.proofs.Common.{◌≡◌, Bool, true, false, ◌&&◌, if◌then◌else◌, List, [], ◌∷◌, ◌++◌, Option, Some, None, codes, refl, ap, sym, ◌∙◌, append_assoc, append-nil}
use Rattle.std.specs.Prelude.{not}
use Rattle.std.specs.Str.{bytes_eq}
use Rattle.std.proofs.lemmas.Slice.Eq.{bytes_eq-Decides}
use Rattle.scan_tokens.specs.declared.tokens.TokenKind.TheVariants as kind
use Rattle.scan_tokens.specs.Words.{Bytes}
use Rattle.source_grammar.specs.Definitions.{Par, Behind, Nothing, Listed, behind_tokens, listed_tokens, par_tokens, tparams_tokens}
use Rattle.source_grammar.specs.Lexemes.{Place, Lexeme, token_at, word_at, plain_at, open_round, close_round, comma, colon, Id, id_token}
use Rattle.source_grammar.specs.Types.{WrittenType, type_tokens}
use Rattle.parse_parts.proofs.Derived as types
use Rattle.parse_parts.proofs.Sound as types_sound
use Rattle.expr_laws.proofs.DefsDerived.{Mark, Plain, mark_token, Signature, DonePar, PTail, PBegin, PAtName, PInType, PAtStar, AtMethod, InParams, Found, at, pars_before, par_of, typed_par, par_at, there}
use Rattle.expr_laws.proofs.DefsSteps.{is_star, starred, par_named, par_typed, par_list, with_list, pars_closed, list_closed, next_par, behind_par, par_on, par_type, par_step, lists_done, signature_tokens, ptail_tokens, pars_done, items_in}
use Rattle.expr_laws.proofs.DefsSound.{Adds, adds-none, adds-if, token-adds}
use Rattle.expr_laws.proofs.Derived as exprs
use Rattle.expr_laws.proofs.Derived.{OneToken, type_of}
use Rattle.expr_laws.proofs.Seen.{AnId, AColon, AComma, ClosesRound}
use Rattle.expr_laws.proofs.TypesRead.{typed-tokens}

same-word : (a b : Bytes) → bytes_eq a b ≡ true → a ≡ b
same-word a b e = (bytes_eq-Decides a b).0 e

star-is : (id : Id) → is_star id ≡ true → plain_at (codes "*") id.place ≡ id_token id
star-is id e = go id.quoted e where
  go : (q : Bool) → (not q && bytes_eq id.name (codes "*")) ≡ true → plain_at (codes "*") id.place ≡ token_at (if q then kind.BackId else kind.Id) id.name id.place
  go true f = cc
  go false f = ap (λ w. token_at kind.Id w id.place) (sym (same-word id.name (codes "*") f))

-- ---- tokens

par-shown : (now : PTail) (par : Par) → par_at now ≡ Some par → par_tokens par ≡ ptail_tokens now
par-shown (PInType id point t) par e = go (type_of t) refl e where
  go : (o : Option WrittenType) → type_of t ≡ o → typed_par id point o ≡ Some par → par_tokens par ≡ ptail_tokens (PInType id point t)
  go None f g = cc
  go (Some type) f g =
      let same : par_of id point type None ≡ par = cc in
      ap par_tokens (sym same) ∙ ap (λ xs. id_token id ∷ colon point ∷ xs) (append-nil (type_tokens type) ∙ typed-tokens t type f)
par-shown (PAtStar id point type star) par e = (let same : par_of id point type (Some star) ≡ par = cc in ap par_tokens (sym same))
par-shown _ par e = cc

before-shown : (done : List DonePar) (par : Par) (bs : List (Behind Par))
    → listed_tokens par_tokens (pars_before done par bs) ≡ pars_done done ++ (par_tokens par ++ behind_tokens par_tokens bs)
before-shown [] par bs = refl
before-shown (d ∷ done) par bs =
    before-shown done d.par (record { comma = d.place; item = par } ∷ bs) ∙ go (comma d.place) (pars_done done) (par_tokens d.par) (par_tokens par) (behind_tokens par_tokens bs)
  where
    go : (x : Lexeme) (a b c e : List Lexeme) → a ++ (b ++ x ∷ (c ++ e)) ≡ (a ++ (b ++ x ∷ [])) ++ (c ++ e)
    go x a b c e = simp append_assoc

-- a list more
list-tokens : (m : Signature) (o k : Place) (pars : Listed Par) (inner : List Lexeme) → listed_tokens par_tokens pars ≡ inner
    → signature_tokens (with_list m (par_list o pars k)) ≡ (signature_tokens m ++ open_round o ∷ inner) ++ close_round k ∷ []
list-tokens m o k pars inner e =
    ap (λ xs. word_at (codes "def") m.word ∷ id_token m.id ∷ (tparams_tokens m.tparams ++ (lists_done m.lists ++ ((open_round o ∷ (xs ++ close_round k ∷ [])) ++ [])))) e
    ∙ ap (λ xs. word_at (codes "def") m.word ∷ id_token m.id ∷ xs) (go (tparams_tokens m.tparams) (lists_done m.lists))
  where
    go : (a b : List Lexeme) → a ++ (b ++ ((open_round o ∷ (inner ++ close_round k ∷ [])) ++ [])) ≡ ((a ++ b) ++ open_round o ∷ inner) ++ close_round k ∷ []
    go a b = simp (append_assoc, append-nil)

-- ---- steps

in-list-adds : (found : Found) (m : Signature) (o : Place) (done : List DonePar) (old new : PTail) (x y : Lexeme) → ptail_tokens new ≡ ptail_tokens old ++ x ∷ [] → x ≡ y
    → Adds (there found (InParams m o done new)) (items_in (at found (InParams m o done old))) (OneToken y)
in-list-adds found m o done old new x y e f =
    token-adds found (InParams m o done old) (InParams m o done new) x y refl refl
    (ap (λ xs. signature_tokens m ++ open_round o ∷ (pars_done done ++ xs)) e ∙ go (signature_tokens m) (pars_done done) (ptail_tokens old)) f
  where
    go : (a b c : List Lexeme) → a ++ open_round o ∷ (b ++ (c ++ x ∷ [])) ≡ (a ++ open_round o ∷ (b ++ c)) ++ x ∷ []
    go a b c = simp append_assoc

named-adds : (found : Found) (m : Signature) (o : Place) (done : List DonePar) (name : Id) (now : PTail) (x : Lexeme) → id_token name ≡ x
    → Adds (par_named found m o done name now) (items_in (at found (InParams m o done now))) (OneToken x)
named-adds found m o done name PBegin x e = in-list-adds found m o done PBegin (PAtName name) (id_token name) x refl e
named-adds found m o done name (PInType id point t) x e = go (type_of t) refl where
  go : (k : Option WrittenType) → type_of t ≡ k → Adds (starred found m o done id point name k) (items_in (at found (InParams m o done (PInType id point t)))) (OneToken x)
  go None f = adds-none _ _
  go (Some type) f =
      adds-if (is_star name) _ _ _ (λ h. in-list-adds found m o done (PInType id point t) (PAtStar id point type name.place) (plain_at (codes "*") name.place) x
      (ap (λ xs. id_token id ∷ colon point ∷ (xs ++ plain_at (codes "*") name.place ∷ [])) (typed-tokens t type f)) (star-is name h ∙ e))
named-adds found m o done name _ x e = adds-none _ _

colon-adds : (found : Found) (m : Signature) (o : Place) (done : List DonePar) (p : Place) (now : PTail) (x : Lexeme) → colon p ≡ x
    → Adds (par_typed found m o done p now) (items_in (at found (InParams m o done now))) (OneToken x)
colon-adds found m o done p (PAtName id) x e = in-list-adds found m o done (PAtName id) (PInType id p exprs.type_begun) (colon p) x refl e
colon-adds found m o done p _ x e = adds-none _ _

parted-adds : (found : Found) (m : Signature) (o : Place) (done : List DonePar) (p : Place) (now : PTail) (k : Option Par) (x : Lexeme) → par_at now ≡ k → comma p ≡ x
    → Adds (next_par found m o done p k) (items_in (at found (InParams m o done now))) (OneToken x)
parted-adds found m o done p now None x f e = adds-none _ _
parted-adds found m o done p now (Some par) x f e =
    token-adds found (InParams m o done now) (InParams m o (record { par = par; place = p } ∷ done) PBegin) (comma p) x refl refl
    (ap (λ xs. signature_tokens m ++ open_round o ∷ ((pars_done done ++ (xs ++ comma p ∷ [])) ++ [])) (par-shown now par f) ∙ go (signature_tokens m) (pars_done done) (ptail_tokens now)) e
  where
    go : (a b c : List Lexeme) → a ++ open_round o ∷ ((b ++ (c ++ comma p ∷ [])) ++ []) ≡ (a ++ open_round o ∷ (b ++ c)) ++ comma p ∷ []
    go a b c = simp (append_assoc, append-nil)

closed-adds : (found : Found) (m : Signature) (o : Place) (done : List DonePar) (k : Place) (now : PTail) (par : Option Par) (x : Lexeme) → par_at now ≡ par → close_round k ≡ x
    → Adds (pars_closed found m o done k par) (items_in (at found (InParams m o done now))) (OneToken x)
closed-adds found m o done k now None x f e = adds-none _ _
closed-adds found m o done k now (Some par) x f e =
    token-adds found (InParams m o done now) (AtMethod (with_list m (par_list o (pars_before done par []) k))) (close_round k) x refl refl
    (list-tokens m o k (pars_before done par []) (pars_done done ++ ptail_tokens now)
    (before-shown done par [] ∙ ap (λ xs. pars_done done ++ xs) (append-nil (par_tokens par) ∙ par-shown now par f))) e

list-adds : (found : Found) (m : Signature) (o : Place) (done : List DonePar) (k : Place) (now : PTail) (x : Lexeme) → close_round k ≡ x
    → Adds (list_closed found m o done k now) (items_in (at found (InParams m o done now))) (OneToken x)
list-adds found m o [] k PBegin x e = token-adds found (InParams m o [] PBegin) (AtMethod (with_list m (par_list o Nothing k))) (close_round k) x refl refl (list-tokens m o k Nothing [] refl) e
list-adds found m o (d ∷ done) k PBegin x e = closed-adds found m o (d ∷ done) k PBegin (par_at PBegin) x refl e
list-adds found m o [] k now x e = closed-adds found m o [] k now (par_at now) x refl e
list-adds found m o (d ∷ done) k now x e = closed-adds found m o (d ∷ done) k now (par_at now) x refl e

behind-adds : (found : Found) (m : Signature) (o : Place) (done : List DonePar) (now : PTail) (y : Mark) (x : Lexeme) → mark_token y ≡ x
    → Adds (behind_par found m o done now y) (items_in (at found (InParams m o done now))) (OneToken x)
behind-adds found m o done now (Plain (AnId name)) x e = named-adds found m o done name now x e
behind-adds found m o done now (Plain (AColon p)) x e = colon-adds found m o done p now x e
behind-adds found m o done (PInType id point t) (Plain (AComma p)) x e = parted-adds found m o done p (PInType id point t) _ x refl e
behind-adds found m o done now (Plain (AComma p)) x e = adds-none _ _
behind-adds found m o done now (Plain (ClosesRound k)) x e = list-adds found m o done k now x e
behind-adds found m o done now _ x e = adds-none _ _

type-adds : (now next : PTail) (x : Lexeme) → par_type now x ≡ Some next → ptail_tokens next ≡ ptail_tokens now ++ x ∷ []
type-adds (PInType id point t) next x e = go (types.step t x) refl e where
  go : (o : Option types.State) → types.step t x ≡ o → par_on id point o ≡ Some next → ptail_tokens next ≡ ptail_tokens (PInType id point t) ++ x ∷ []
  go None f g = cc
  go (Some u) f g =
      (let same : PInType id point u ≡ next = cc in ap ptail_tokens (sym same) ∙ ap (λ xs. id_token id ∷ colon point ∷ xs) (types_sound.step-adds t x u f))
type-adds _ next x e = cc

pub par-step-adds : (found : Found) (m : Signature) (o : Place) (done : List DonePar) (now : PTail) (y : Mark) (x : Lexeme) (k : Option PTail) → par_type now x ≡ k → mark_token y ≡ x
    → Adds (par_step found m o done now k y) (items_in (at found (InParams m o done now))) (OneToken x)
par-step-adds found m o done now y x (Some next) f e = in-list-adds found m o done now next x x (type-adds now next x f) refl
par-step-adds found m o done now y x None f e = behind-adds found m o done now y x e
