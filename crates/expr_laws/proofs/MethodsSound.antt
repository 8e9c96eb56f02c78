-- What was read of a method is the items of the derivations in the state, and so is what was read of any definition.
use Rattle.std.proofs.Common.{◌≡◌, Bool, true, false, if◌then◌else◌, List, [], ◌∷◌, ◌++◌, Option, Some, None, codes, refl, ap, sym, ◌∙◌, append_assoc, append-nil}
use Rattle.std.specs.Str.{bytes_eq}
use Rattle.std.proofs.lemmas.Slice.Eq.{bytes_eq-Decides}
use Rattle.scan_tokens.specs.declared.tokens.TokenKind.TheVariants as kind
use Rattle.scan_tokens.specs.Words.{Bytes}
use Rattle.source_grammar.specs.Definitions.{NoType, OfType, Behind, ParList, VarianceSign, NoSign, PlusSign, MinusSign, NoBound, BoundBy, TPar, TParams, NoTParams, behind_tokens, variance_tokens, lower_tokens, tpar_tokens, tparams_tokens}
use Rattle.source_grammar.specs.Lexemes.{Place, Lexeme, token_at, word_at, sign_at, plain_at, open_square, close_square, comma, colon, equals, Id, id_token}
use Rattle.source_grammar.specs.Newlines.{is_near}
use Rattle.source_grammar.specs.Types.{WrittenType, type_tokens}
use Rattle.parse_parts.proofs.Derived as types
use Rattle.parse_parts.proofs.Sound as types_sound
use Rattle.parse_parts.proofs.Sound.{tokens_in as type_tokens_in}
use Rattle.expr_laws.proofs.DefsDerived.{Mark, ALowerBound, AnUpperBound, Plain, mark_token, Signature, DoneTPar, TTail, TBegin, TAtSign, TAtName, TInLower, TInUpper, PBegin, AtDef, AtMethod, InTParams, InParams, InResult, InMethod, AtProcedure, Found, at, tparams_before, bounded, lower_at, upper_at, tpar_at, there}
use Rattle.expr_laws.proofs.DefsSteps.{right_side, signature, at_def, is_fresh, at_method, typed_method, in_result, procedure, variance_of, named_tpar, signed_tpar, lower_behind, upper_bounded, upper_behind, in_tparams, tpar_parted, tpars_closed, tpar_named, behind_tpar, lower_type, upper_type, bound_type, tpar_step, lists_done, signature_tokens, ttail_tokens, tpars_done, items_in}
use Rattle.expr_laws.proofs.DefsSound.{Adds, adds-none, adds-if, tail-adds, token-adds}
use Rattle.expr_laws.proofs.Derived as exprs
use Rattle.expr_laws.proofs.Derived.{Item, OneToken, BlockPair, type_of}
use Rattle.expr_laws.proofs.Items.{tokens}
use Rattle.expr_laws.proofs.Seen.{AnId, AColon, AnEquals, AComma, OpensRound, OpensSquare, ClosesSquare}
use Rattle.expr_laws.proofs.TypesRead.{typed-tokens}

-- ---- type parameters

same-word : (a b : Bytes) → bytes_eq a b ≡ true → a ≡ b
same-word a b e = (bytes_eq-Decides a b).0 e

-- the sign of a type parameter is an identifier
variance-is : (id : Id) (v : VarianceSign) → variance_of id ≡ Some v → variance_tokens v ≡ id_token id ∷ []
variance-is id v e = go id.quoted (bytes_eq id.name (codes "+")) (bytes_eq id.name (codes "-")) refl refl refl e where
  plain : (text : Bytes) → id.quoted ≡ false → bytes_eq id.name text ≡ true → plain_at text id.place ∷ [] ≡ id_token id ∷ []
  plain text q f =
      ap (λ w. token_at kind.Id w id.place ∷ []) (sym (same-word id.name text f)) ∙ ap (λ b. token_at (if b then kind.BackId else kind.Id) id.name id.place ∷ []) (sym q)

  go : (q a b : Bool) → id.quoted ≡ q → bytes_eq id.name (codes "+") ≡ a → bytes_eq id.name (codes "-") ≡ b
      → (if q then None else (if a then Some (PlusSign id.place) else (if b then Some (MinusSign id.place) else None))) ≡ Some v → variance_tokens v ≡ id_token id ∷ []
  go true a b f g h k = cc
  go false true b f g h k = (let same : PlusSign id.place ≡ v = cc in ap variance_tokens (sym same) ∙ plain (codes "+") f g)
  go false false true f g h k = (let same : MinusSign id.place ≡ v = cc in ap variance_tokens (sym same) ∙ plain (codes "-") f h)
  go false false false f g h k = cc

-- the type parameter that ends here
tpar-tokens : (now : TTail) (t : TPar) → tpar_at now ≡ Some t → tpar_tokens t ≡ ttail_tokens now
tpar-tokens TBegin t e = cc
tpar-tokens (TAtSign id) t e = (let same : bounded NoSign id NoBound NoBound ≡ t = cc in ap tpar_tokens (sym same))
tpar-tokens (TAtName v id) t e = (let same : bounded v id NoBound NoBound ≡ t = cc in ap tpar_tokens (sym same))
tpar-tokens (TInLower v id sign u) t e = go (type_of u) refl e where
  go : (o : Option WrittenType) → type_of u ≡ o → lower_at v id sign o ≡ Some t → tpar_tokens t ≡ ttail_tokens (TInLower v id sign u)
  go None f g = cc
  go (Some type) f g =
      let same : bounded v id (BoundBy sign type) NoBound ≡ t = cc in
      ap tpar_tokens (sym same) ∙ ap (λ xs. variance_tokens v ++ id_token id ∷ xs) (append-nil (sign_at (codes ">:") sign ∷ type_tokens type))
      ∙ ap (λ xs. variance_tokens v ++ id_token id ∷ sign_at (codes ">:") sign ∷ xs) (typed-tokens u type f)
tpar-tokens (TInUpper v id lower sign u) t e = go (type_of u) refl e where
  go : (o : Option WrittenType) → type_of u ≡ o → upper_at v id lower sign o ≡ Some t → tpar_tokens t ≡ ttail_tokens (TInUpper v id lower sign u)
  go None f g = cc
  go (Some type) f g =
      let same : bounded v id lower (BoundBy sign type) ≡ t = cc in
      ap tpar_tokens (sym same) ∙ ap (λ xs. variance_tokens v ++ id_token id ∷ (lower_tokens lower ++ sign_at (codes "<:") sign ∷ xs)) (typed-tokens u type f)

before-tokens : (o : Place) (done : List DoneTPar) (t : TPar) (bs : List (Behind TPar)) (k : Place)
    → tparams_tokens (tparams_before o done t bs k) ≡ open_square o ∷ (tpars_done done ++ (tpar_tokens t ++ behind_tokens tpar_tokens bs ++ close_square k ∷ []))
before-tokens o [] t bs k = refl
before-tokens o (d ∷ done) t bs k =
    before-tokens o done d.tpar (record { comma = d.place; item = t } ∷ bs) k ∙ go (comma d.place) (tpars_done done) (tpar_tokens d.tpar) (tpar_tokens t) (behind_tokens tpar_tokens bs)
  where
    go : (x : Lexeme) (a b c e : List Lexeme)
        → open_square o ∷ (a ++ ((b ++ x ∷ (c ++ e)) ++ close_square k ∷ [])) ≡ open_square o ∷ ((a ++ (b ++ x ∷ [])) ++ ((c ++ e) ++ close_square k ∷ []))
    go x a b c e = simp append_assoc

-- a tail in the list has one token more
in-list-adds : (found : Found) (word : Place) (id : Id) (o : Place) (done : List DoneTPar) (old new : TTail) (x y : Lexeme) → ttail_tokens new ≡ ttail_tokens old ++ x ∷ [] → x ≡ y
    → Adds (there found (InTParams word id o done new)) (items_in (at found (InTParams word id o done old))) (OneToken y)
in-list-adds found word id o done old new x y e f =
    token-adds found (InTParams word id o done old) (InTParams word id o done new) x y refl refl
    (ap (λ xs. word_at (codes "def") word ∷ id_token id ∷ open_square o ∷ xs) (ap (λ xs. tpars_done done ++ xs) e ∙ sym (append_assoc (tpars_done done) (ttail_tokens old) (x ∷ [])))) f

some-list-adds : (found : Found) (word : Place) (id : Id) (o : Place) (done : List DoneTPar) (old : TTail) (now : Option TTail) (x y : Lexeme)
    → ((new : TTail) → now ≡ Some new → ttail_tokens new ≡ ttail_tokens old ++ x ∷ []) → x ≡ y
    → Adds (in_tparams found word id o done now) (items_in (at found (InTParams word id o done old))) (OneToken y)
some-list-adds found word id o done old None x y e f = adds-none _ _
some-list-adds found word id o done old (Some new) x y e f = in-list-adds found word id o done old new x y (e new refl) f

named-adds : (id : Id) (old new : TTail) → tpar_named id old ≡ Some new → ttail_tokens new ≡ ttail_tokens old ++ id_token id ∷ []
named-adds id TBegin new e = (let same : named_tpar id (variance_of id) ≡ new = cc in ap ttail_tokens (sym same) ∙ go (variance_of id)) where
  go : (o : Option VarianceSign) → ttail_tokens (named_tpar id o) ≡ id_token id ∷ []
  go None = refl
  go (Some v) = refl
named-adds id (TAtSign sign) new e = go (variance_of sign) refl e where
  go : (o : Option VarianceSign) → variance_of sign ≡ o → signed_tpar o id ≡ Some new → ttail_tokens new ≡ id_token sign ∷ id_token id ∷ []
  go None f g = cc
  go (Some v) f g = (let same : TAtName v id ≡ new = cc in ap ttail_tokens (sym same) ∙ ap (λ xs. xs ++ id_token id ∷ []) (variance-is sign v f))
named-adds id _ new e = cc

lower-adds : (p : Place) (old new : TTail) → lower_behind p old ≡ Some new → ttail_tokens new ≡ ttail_tokens old ++ sign_at (codes ">:") p ∷ []
lower-adds p (TAtSign id) new e = (let same : TInLower NoSign id p exprs.type_begun ≡ new = cc in ap ttail_tokens (sym same))
lower-adds p (TAtName v id) new e =
    (let same : TInLower v id p exprs.type_begun ≡ new = cc in ap ttail_tokens (sym same) ∙ sym (append_assoc (variance_tokens v) (id_token id ∷ []) (sign_at (codes ">:") p ∷ [])))
lower-adds p _ new e = cc

upper-adds : (p : Place) (old new : TTail) → upper_behind p old ≡ Some new → ttail_tokens new ≡ ttail_tokens old ++ sign_at (codes "<:") p ∷ []
upper-adds p (TAtSign id) new e = (let same : TInUpper NoSign id NoBound p exprs.type_begun ≡ new = cc in ap ttail_tokens (sym same))
upper-adds p (TAtName v id) new e =
    (let same : TInUpper v id NoBound p exprs.type_begun ≡ new = cc in ap ttail_tokens (sym same) ∙ sym (append_assoc (variance_tokens v) (id_token id ∷ []) (sign_at (codes "<:") p ∷ [])))
upper-adds p (TInLower v id sign t) new e = go (type_of t) refl e where
  go : (o : Option WrittenType) → type_of t ≡ o → upper_bounded p v id sign o ≡ Some new → ttail_tokens new ≡ ttail_tokens (TInLower v id sign t) ++ sign_at (codes "<:") p ∷ []
  go None f g = cc
  go (Some type) f g =
      let same : TInUpper v id (BoundBy sign type) p exprs.type_begun ≡ new = cc in
      ap ttail_tokens (sym same) ∙ ap (λ xs. variance_tokens v ++ id_token id ∷ ((sign_at (codes ">:") sign ∷ xs) ++ sign_at (codes "<:") p ∷ [])) (typed-tokens t type f)
      ∙ sym (append_assoc (variance_tokens v) (id_token id ∷ sign_at (codes ">:") sign ∷ type_tokens_in t) (sign_at (codes "<:") p ∷ []))
upper-adds p _ new e = cc

behind-tpar-adds : (found : Found) (word : Place) (id : Id) (o : Place) (done : List DoneTPar) (now : TTail) (y : Mark) (x : Lexeme) → mark_token y ≡ x
    → Adds (behind_tpar found word id o done now y) (items_in (at found (InTParams word id o done now))) (OneToken x)
behind-tpar-adds found word id o done now (ALowerBound p) x e = some-list-adds found word id o done now (lower_behind p now) _ x (lower-adds p now) e
behind-tpar-adds found word id o done now (AnUpperBound p) x e = some-list-adds found word id o done now (upper_behind p now) _ x (upper-adds p now) e
behind-tpar-adds found word id o done now (Plain (AnId name)) x e = some-list-adds found word id o done now (tpar_named name now) _ x (named-adds name now) e
behind-tpar-adds found word id o done now (Plain (AComma p)) x e = go (tpar_at now) refl where
  go : (k : Option TPar) → tpar_at now ≡ k → Adds (tpar_parted found word id o done p k) (items_in (at found (InTParams word id o done now))) (OneToken x)
  go None f = adds-none _ _
  go (Some t) f =
      token-adds found (InTParams word id o done now) (InTParams word id o (record { tpar = t; place = p } ∷ done) TBegin) (comma p) x refl refl
      (ap (λ xs. word_at (codes "def") word ∷ id_token id ∷ open_square o ∷ xs)
      (append-nil (tpars_done done ++ (tpar_tokens t ++ comma p ∷ [])) ∙ ap (λ xs. tpars_done done ++ (xs ++ comma p ∷ [])) (tpar-tokens now t f)
      ∙ sym (append_assoc (tpars_done done) (ttail_tokens now) (comma p ∷ [])))) e
behind-tpar-adds found word id o done now (Plain (ClosesSquare p)) x e = go (tpar_at now) refl where
  go : (k : Option TPar) → tpar_at now ≡ k → Adds (tpars_closed found word id o done p k) (items_in (at found (InTParams word id o done now))) (OneToken x)
  go None f = adds-none _ _
  go (Some t) f =
      token-adds found (InTParams word id o done now) (AtMethod (signature word id (tparams_before o done t [] p) [])) (close_square p) x refl refl
      (ap (λ xs. word_at (codes "def") word ∷ id_token id ∷ xs)
      (append-nil (tparams_tokens (tparams_before o done t [] p)) ∙ before-tokens o done t [] p
      ∙ ap (λ xs. open_square o ∷ (tpars_done done ++ (xs ++ close_square p ∷ []))) (append-nil (tpar_tokens t) ∙ tpar-tokens now t f)
      ∙ ap (λ xs. open_square o ∷ xs) (sym (append_assoc (tpars_done done) (ttail_tokens now) (close_square p ∷ []))))) e
behind-tpar-adds found word id o done now _ x e = adds-none _ _

bound-adds : (now next : TTail) (x : Lexeme) → bound_type now x ≡ Some next → ttail_tokens next ≡ ttail_tokens now ++ x ∷ []
bound-adds (TInLower v id sign t) next x e = go (types.step t x) refl e where
  go : (o : Option types.State) → types.step t x ≡ o → lower_type v id sign o ≡ Some next → ttail_tokens next ≡ ttail_tokens (TInLower v id sign t) ++ x ∷ []
  go None f g = cc
  go (Some u) f g =
      let same : TInLower v id sign u ≡ next = cc in
      ap ttail_tokens (sym same) ∙ ap (λ xs. variance_tokens v ++ id_token id ∷ sign_at (codes ">:") sign ∷ xs) (types_sound.step-adds t x u f)
      ∙ sym (append_assoc (variance_tokens v) (id_token id ∷ sign_at (codes ">:") sign ∷ type_tokens_in t) (x ∷ []))
bound-adds (TInUpper v id lower sign t) next x e = go (types.step t x) refl e where
  go : (o : Option types.State) → types.step t x ≡ o → upper_type v id lower sign o ≡ Some next → ttail_tokens next ≡ ttail_tokens (TInUpper v id lower sign t) ++ x ∷ []
  go None f g = cc
  go (Some u) f g =
      let same : TInUpper v id lower sign u ≡ next = cc in
      ap ttail_tokens (sym same) ∙ ap (λ xs. variance_tokens v ++ id_token id ∷ (lower_tokens lower ++ sign_at (codes "<:") sign ∷ xs)) (types_sound.step-adds t x u f)
      ∙ again (variance_tokens v) (lower_tokens lower) (type_tokens_in t)
    where
      again : (a b c : List Lexeme)
          → a ++ id_token id ∷ (b ++ sign_at (codes "<:") sign ∷ (c ++ x ∷ [])) ≡ (a ++ id_token id ∷ (b ++ sign_at (codes "<:") sign ∷ c)) ++ x ∷ []
      again a b c = simp append_assoc
bound-adds _ next x e = cc

pub tpar-step-adds : (found : Found) (word : Place) (id : Id) (o : Place) (done : List DoneTPar) (now : TTail) (y : Mark) (x : Lexeme) (k : Option TTail) → bound_type now x ≡ k → mark_token y ≡ x
    → Adds (tpar_step found word id o done now k y) (items_in (at found (InTParams word id o done now))) (OneToken x)
tpar-step-adds found word id o done now y x (Some next) f e = in-list-adds found word id o done now next x x (bound-adds now next x f) refl
tpar-step-adds found word id o done now y x None f e = behind-tpar-adds found word id o done now y x e

-- ---- heads of methods

pub def-adds : (found : Found) (p : Place) (y : Mark) (x : Lexeme) → mark_token y ≡ x → Adds (at_def found p y) (items_in (at found (AtDef p))) (OneToken x)
def-adds found p (Plain (AnId id)) x e = token-adds found (AtDef p) (AtMethod (signature p id NoTParams [])) _ x refl refl refl e
def-adds found p _ x e = adds-none _ _

-- type parameters can follow only the name
fresh-tokens : (m : Signature) (o : Place) → is_fresh m.tparams m.lists ≡ true
    → word_at (codes "def") m.word ∷ id_token m.id ∷ open_square o ∷ [] ≡ signature_tokens m ++ open_square o ∷ []
fresh-tokens m o e = go m.tparams m.lists e where
  go : (t : TParams) (ls : List ParList) → is_fresh t ls ≡ true
      → word_at (codes "def") m.word ∷ id_token m.id ∷ open_square o ∷ [] ≡ word_at (codes "def") m.word ∷ id_token m.id ∷ ((tparams_tokens t ++ lists_done ls) ++ open_square o ∷ [])
  go NoTParams [] f = refl
  go _ _ f = cc

pub method-adds : (found : Found) (m : Signature) (y : Mark) (x : Lexeme) → mark_token y ≡ x → Adds (at_method found m y) (items_in (at found (AtMethod m))) (OneToken x)
method-adds found m (Plain (OpensSquare p)) x e =
    adds-if (is_fresh m.tparams m.lists) _ _ _ (λ h. token-adds found (AtMethod m) (InTParams m.word m.id p [] TBegin) (open_square p) x refl refl (fresh-tokens m p h) e)
method-adds found m (Plain (OpensRound p)) x e = adds-if (is_near p.before) _ _ _ (λ h. token-adds found (AtMethod m) (InParams m p [] PBegin) _ x refl refl refl e)
method-adds found m (Plain (AColon p)) x e = token-adds found (AtMethod m) (InResult m p exprs.type_begun) _ x refl refl refl e
method-adds found m (Plain (AnEquals p)) x e = token-adds found (AtMethod m) (InMethod m NoType p right_side) _ x refl refl refl e
method-adds found m _ x e = adds-none _ _

typed-method-adds : (found : Found) (m : Signature) (point : Place) (t : types.State) (o : Option WrittenType) (y : Mark) (x : Lexeme) → type_of t ≡ o → mark_token y ≡ x
    → Adds (typed_method found m point o y) (items_in (at found (InResult m point t))) (OneToken x)
typed-method-adds found m point t None y x f e = adds-none _ _
typed-method-adds found m point t (Some type) (Plain (AnEquals p)) x f e =
    token-adds found (InResult m point t) (InMethod m (OfType point type) p right_side) (equals p) x refl refl
    (ap (λ xs. signature_tokens m ++ colon point ∷ (xs ++ equals p ∷ [])) (typed-tokens t type f) ∙ sym (append_assoc (signature_tokens m) (colon point ∷ type_tokens_in t) (equals p ∷ []))) e
typed-method-adds found m point t (Some type) _ x f e = adds-none _ _

pub result-adds : (found : Found) (m : Signature) (point : Place) (t : types.State) (o : Option types.State) (y : Mark) (x : Lexeme) → types.step t x ≡ o → mark_token y ≡ x
    → Adds (in_result found m point t o y) (items_in (at found (InResult m point t))) (OneToken x)
result-adds found m point t (Some u) y x f e =
    token-adds found (InResult m point t) (InResult m point u) x x refl refl
    (ap (λ xs. signature_tokens m ++ colon point ∷ xs) (types_sound.step-adds t x u f) ∙ sym (append_assoc (signature_tokens m) (colon point ∷ type_tokens_in t) (x ∷ []))) refl
result-adds found m point t None y x f e = typed-method-adds found m point t (type_of t) y x refl e

pub procedure-adds : (found : Found) (m : Signature) (i : Item) → Adds (procedure found m i) (items_in (at found (AtMethod m))) i
procedure-adds found m (BlockPair o block k) =
    adds-if (is_near o.before) _ _ _ (λ h. tail-adds found (AtMethod m) (AtProcedure m o block k) (BlockPair o block k) (ap (λ is. is ++ BlockPair o block k ∷ []) (sym (append-nil (tokens (signature_tokens m))))))
procedure-adds found m _ = adds-none _ _
