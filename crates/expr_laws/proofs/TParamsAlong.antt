-- The tokens of type parameters lead the machine of definitions to where these were read.
use Rattle.std.proofs.Common.{◌≡◌, false, List, [], ◌∷◌, ◌++◌, Option, Some, None, codes, refl, ap, sym, ◌∙◌, append_assoc, append-nil}
use Rattle.reading_machines.specs.Machines.{run}
use Rattle.scan_tokens.specs.Words.{Bytes}
use Rattle.source_grammar.specs.Definitions.{Behind, VarianceSign, NoSign, PlusSign, MinusSign, Bound, NoBound, BoundBy, TPar, TParams, NoTParams, TParamsOf, behind_tokens, variance_tokens, tpar_tokens, tparams_tokens}
use Rattle.source_grammar.specs.Lexemes.{Place, Lexeme, sign_at, open_square, close_square, comma, Id, id_token}
use Rattle.source_grammar.specs.Types.{WrittenType, SimpleType, Named, OfPath, type_tokens}
use Rattle.parse_parts.proofs.Along as types_along
use Rattle.parse_parts.proofs.Along.{simple_tail, last_simple, id-step}
use Rattle.parse_parts.proofs.Derived as types
use Rattle.parse_parts.proofs.Exact.{type-runs}
use Rattle.expr_laws.proofs.DefsDerived.{ALowerBound, AnUpperBound, Plain, mark, DoneTPar, TTail, TBegin, TAtSign, TAtName, TInLower, TInUpper, AtMethod, InTParams, Found, State, at, tparams_before, bounded, lower_at, upper_at, tpar_at}
use Rattle.expr_laws.proofs.DefsSteps.{signature, at_method, variance_of, named_tpar, signed_tpar, lower_behind, upper_bounded, upper_behind, in_tparams, tpar_parted, tpars_closed, behind_tpar, lower_type, upper_type, bound_type, tpar_step, step}
use Rattle.expr_laws.proofs.Derived.{OneToken, type_begun}
use Rattle.expr_laws.proofs.Items.{tokens}
use Rattle.expr_laws.proofs.Leading.{LeadsBy, by-none, by-then, by-on, by-one, by-as, tokens-lift}
use Rattle.expr_laws.proofs.ModsAlong.{mark-id}
use Rattle.expr_laws.proofs.Moving.{tokens-append}
use Rattle.expr_laws.proofs.Seen.{AnId, seen-comma, seen-open_square, seen-close_square}
use Rattle.expr_laws.proofs.Settling.{comma-no-type}
use Rattle.expr_laws.proofs.TokenSteps.{type-there}

-- ---- types that ended

abbrev pub read_type : WrittenType → types.State
read_type type = types_along.after [] [] type

-- no name goes on with a type that ends
pub type-id : (type : WrittenType) (id : Id) → types.step (read_type type) (id_token id) ≡ None
type-id type id = id-step id (read_type type) ∙ go (last_simple type) where
  go : (s : SimpleType) → types.named_on id (simple_tail s) (types_along.heads_of type []) [] ≡ None
  go (Named (OfPath path)) = refl
  go (Named _) = refl
  go _ = refl

pub type-run : (type : WrittenType) → run types.step (type_tokens type) type_begun ≡ Some (read_type type)
type-run type = type-runs type (type_tokens type) refl

-- ---- one type parameter

module _ (found : Found) (word : Place) (id : Id) (o : Place) (done : List DoneTPar) where
  abbrev in_list : TTail → State
  in_list now = at found (InTParams word id o done now)

  -- the name of a type parameter with its sign, to which bounds can be added
  record NameRead (v : VarianceSign) (name : Id) : Type 0 where
    tail : TTail
    leads : LeadsBy step (tokens (variance_tokens v ++ id_token name ∷ [])) (in_list TBegin) (in_list tail)
    there : tpar_at tail ≡ Some (bounded v name NoBound NoBound)
    lower : (p : Place) → lower_behind p tail ≡ Some (TInLower v name p type_begun)
    upper : (p : Place) → upper_behind p tail ≡ Some (TInUpper v name NoBound p type_begun)
    out : (x : Lexeme) → bound_type tail x ≡ None

  name-step : (name : Id) (now : TTail) → ((x : Lexeme) → bound_type now x ≡ None) → step (in_list now) (OneToken (id_token name)) ≡ behind_tpar found word id o done now (Plain (AnId name))
  name-step name now out =
      ap (λ k. tpar_step found word id o done now k (mark (id_token name))) (out (id_token name)) ∙ ap (behind_tpar found word id o done now) (mark-id name)

  plain-name : (name : Id) (v : Option VarianceSign) → variance_of name ≡ v → NameRead NoSign name
  plain-name name None e = record {
    tail = TAtName NoSign name;
    leads = by-one step (OneToken (id_token name)) _ _ (name-step name TBegin (λ x. refl) ∙ ap (λ k. in_tparams found word id o done (Some (named_tpar name k))) e);
    there = refl;
    lower = λ p. refl;
    upper = λ p. refl;
    out = λ x. refl;
  }
  plain-name name (Some v) e = record {
    tail = TAtSign name;
    leads = by-one step (OneToken (id_token name)) _ _ (name-step name TBegin (λ x. refl) ∙ ap (λ k. in_tparams found word id o done (Some (named_tpar name k))) e);
    there = refl;
    lower = λ p. refl;
    upper = λ p. refl;
    out = λ x. refl;
  }

  -- `+` or `-`, and the name behind it
  signed-name : (sign name : Id) (v : VarianceSign) → variance_of sign ≡ Some v → variance_tokens v ≡ id_token sign ∷ [] → NameRead v name
  signed-name sign name v e f = record {
    tail = TAtName v name;
    leads = by-as step (OneToken (id_token sign) ∷ OneToken (id_token name) ∷ []) _ _ _ (ap (λ xs. tokens (xs ++ id_token name ∷ [])) (sym f))
        (by-on step (OneToken (id_token sign)) _ _ (in_list (TAtSign sign)) _
        (name-step sign TBegin (λ x. refl) ∙ ap (λ k. in_tparams found word id o done (Some (named_tpar sign k))) e)
        (by-one step (OneToken (id_token name)) _ _
        (name-step name (TAtSign sign) (λ x. refl) ∙ ap (λ k. in_tparams found word id o done (signed_tpar k name)) e)));
    there = refl;
    lower = λ p. refl;
    upper = λ p. refl;
    out = λ x. refl;
  }

  abbrev sign_id : Bytes → Place → Id
  sign_id name p = record { name = name; quoted = false; place = p }

  name-read : (v : VarianceSign) (name : Id) → NameRead v name
  name-read NoSign name = plain-name name (variance_of name) refl
  name-read (PlusSign p) name = signed-name (sign_id (codes "+") p) name (PlusSign p) refl refl
  name-read (MinusSign p) name = signed-name (sign_id (codes "-") p) name (MinusSign p) refl refl

  -- a type parameter that was read, behind which a comma or a bracket can stand
  record TParRead (t : TPar) : Type 0 where
    tail : TTail
    leads : LeadsBy step (tokens (tpar_tokens t)) (in_list TBegin) (in_list tail)
    there : tpar_at tail ≡ Some t
    comma_out : (p : Place) → bound_type tail (comma p) ≡ None
    square_out : (p : Place) → bound_type tail (close_square p) ≡ None

  lower-leads : (v : VarianceSign) (name : Id) (p : Place) (type : WrittenType)
      → LeadsBy step (tokens (type_tokens type)) (in_list (TInLower v name p type_begun)) (in_list (TInLower v name p (read_type type)))
  lower-leads v name p type =
      tokens-lift types.step step (λ t. in_list (TInLower v name p t))
      (λ r q x e. ap (λ k. tpar_step found word id o done (TInLower v name p r) (lower_type v name p k) (mark x)) e)
      (type_tokens type) type_begun (read_type type) (type-run type)

  upper-leads : (v : VarianceSign) (name : Id) (lower : Bound) (p : Place) (type : WrittenType)
      → LeadsBy step (tokens (type_tokens type)) (in_list (TInUpper v name lower p type_begun)) (in_list (TInUpper v name lower p (read_type type)))
  upper-leads v name lower p type =
      tokens-lift types.step step (λ t. in_list (TInUpper v name lower p t))
      (λ r q x e. ap (λ k. tpar_step found word id o done (TInUpper v name lower p r) (upper_type v name lower p k) (mark x)) e)
      (type_tokens type) type_begun (read_type type) (type-run type)

  upper-read : (v : VarianceSign) (name : Id) (lower : Bound) (p : Place) (type : WrittenType) (front : List Lexeme)
      → LeadsBy step (tokens front) (in_list TBegin) (in_list (TInUpper v name lower p type_begun)) → front ++ type_tokens type ≡ tpar_tokens (bounded v name lower (BoundBy p type))
      → TParRead (bounded v name lower (BoundBy p type))
  upper-read v name lower p type front l e = record {
    tail = TInUpper v name lower p (read_type type);
    leads = by-as step (tokens front ++ tokens (type_tokens type)) _ _ _ (sym (tokens-append front (type_tokens type)) ∙ ap tokens e)
        (by-then step (tokens front) _ _ (in_list (TInUpper v name lower p type_begun)) _ l (upper-leads v name lower p type));
    there = ap (upper_at v name lower p) (type-there type);
    comma_out = λ q. ap (upper_type v name lower p) (comma-no-type q (read_type type) refl);
    square_out = λ q. refl;
  }

  -- the sign of a bound
  lower-sign : (now next : TTail) (p : Place) → bound_type now (sign_at (codes ">:") p) ≡ None → lower_behind p now ≡ Some next
      → step (in_list now) (OneToken (sign_at (codes ">:") p)) ≡ Some (in_list next)
  lower-sign now next p out e =
      ap (λ k. tpar_step found word id o done now k (ALowerBound p)) out ∙ ap (in_tparams found word id o done) e

  upper-sign : (now next : TTail) (p : Place) → bound_type now (sign_at (codes "<:") p) ≡ None → upper_behind p now ≡ Some next
      → step (in_list now) (OneToken (sign_at (codes "<:") p)) ≡ Some (in_list next)
  upper-sign now next p out e =
      ap (λ k. tpar_step found word id o done now k (AnUpperBound p)) out ∙ ap (in_tparams found word id o done) e

  abbrev named : VarianceSign → Id → List Lexeme
  named v name = variance_tokens v ++ id_token name ∷ []

  lower-front : (v : VarianceSign) (name : Id) (p : Place) (type : WrittenType)
      → LeadsBy step (tokens (named v name ++ sign_at (codes ">:") p ∷ type_tokens type)) (in_list TBegin) (in_list (TInLower v name p (read_type type)))
  lower-front v name p type =
      let n = name-read v name in
      by-as step (tokens (named v name) ++ OneToken (sign_at (codes ">:") p) ∷ tokens (type_tokens type)) _ _ _ (sym (tokens-append (named v name) (sign_at (codes ">:") p ∷ type_tokens type)))
      (by-then step (tokens (named v name)) _ _ (in_list n.tail) _ n.leads
      (by-on step (OneToken (sign_at (codes ">:") p)) _ _ (in_list (TInLower v name p type_begun)) _ (lower-sign n.tail (TInLower v name p type_begun) p (n.out _) (n.lower p))
      (lower-leads v name p type)))

  tpar-read : (v : VarianceSign) (name : Id) (lower upper : Bound) → TParRead (bounded v name lower upper)
  tpar-read v name NoBound NoBound =
      let n = name-read v name in
      record { tail = n.tail; leads = n.leads; there = n.there; comma_out = λ p. n.out (comma p); square_out = λ p. n.out (close_square p) }
  tpar-read v name (BoundBy p type) NoBound = record {
    tail = TInLower v name p (read_type type);
    leads = by-as step _ _ _ _ (ap tokens (again (variance_tokens v) (type_tokens type))) (lower-front v name p type);
    there = ap (lower_at v name p) (type-there type);
    comma_out = λ q. ap (lower_type v name p) (comma-no-type q (read_type type) refl);
    square_out = λ q. refl;
  } where
    again : (a b : List Lexeme) → (a ++ id_token name ∷ []) ++ sign_at (codes ">:") p ∷ b ≡ a ++ id_token name ∷ ((sign_at (codes ">:") p ∷ b) ++ [])
    again a b = simp (append_assoc, append-nil)
  tpar-read v name NoBound (BoundBy p type) =
      let n = name-read v name in
      upper-read v name NoBound p type (named v name ++ sign_at (codes "<:") p ∷ [])
      (by-as step (tokens (named v name) ++ OneToken (sign_at (codes "<:") p) ∷ []) _ _ _ (sym (tokens-append (named v name) (sign_at (codes "<:") p ∷ [])))
      (by-then step (tokens (named v name)) _ _ (in_list n.tail) _ n.leads
      (by-one step (OneToken (sign_at (codes "<:") p)) _ _ (upper-sign n.tail (TInUpper v name NoBound p type_begun) p (n.out _) (n.upper p)))))
      (again (variance_tokens v) (type_tokens type))
    where
      again : (a b : List Lexeme) → ((a ++ id_token name ∷ []) ++ sign_at (codes "<:") p ∷ []) ++ b ≡ a ++ id_token name ∷ ([] ++ sign_at (codes "<:") p ∷ b)
      again a b = simp append_assoc
  tpar-read v name (BoundBy q low) (BoundBy p type) =
      let front = named v name ++ sign_at (codes ">:") q ∷ type_tokens low in
      upper-read v name (BoundBy q low) p type (front ++ sign_at (codes "<:") p ∷ [])
      (by-as step (tokens front ++ OneToken (sign_at (codes "<:") p) ∷ []) _ _ _ (sym (tokens-append front (sign_at (codes "<:") p ∷ [])))
      (by-then step (tokens front) _ _ (in_list (TInLower v name q (read_type low))) _ (lower-front v name q low)
      (by-one step (OneToken (sign_at (codes "<:") p)) _ _
      (upper-sign (TInLower v name q (read_type low)) (TInUpper v name (BoundBy q low) p type_begun) p refl (ap (upper_bounded p v name q) (type-there low))))))
      (again (variance_tokens v) (type_tokens low) (type_tokens type))
    where
      again : (a b d : List Lexeme)
          → ((((a ++ id_token name ∷ []) ++ sign_at (codes ">:") q ∷ b) ++ sign_at (codes "<:") p ∷ []) ++ d)
          ≡ a ++ id_token name ∷ ((sign_at (codes ">:") q ∷ b) ++ sign_at (codes "<:") p ∷ d)
      again a b d = simp append_assoc

-- ---- the list

tpar-comma : (found : Found) (word : Place) (id : Id) (o : Place) (done : List DoneTPar) (t : TPar) (r : TParRead found word id o done t) (p : Place)
    → step (at found (InTParams word id o done r.tail)) (OneToken (comma p)) ≡ Some (at found (InTParams word id o (record { tpar = t; place = p } ∷ done) TBegin))
tpar-comma found word id o done t r p =
    ap (λ k. tpar_step found word id o done r.tail k (mark (comma p))) (r.comma_out p)
    ∙ ap (λ y. behind_tpar found word id o done r.tail (Plain y)) (seen-comma p)
    ∙ ap (tpar_parted found word id o done p) r.there

tpar-close : (found : Found) (word : Place) (id : Id) (o : Place) (done : List DoneTPar) (t : TPar) (r : TParRead found word id o done t) (k : Place)
    → step (at found (InTParams word id o done r.tail)) (OneToken (close_square k)) ≡ Some (at found (AtMethod (signature word id (tparams_before o done t [] k) [])))
tpar-close found word id o done t r k =
    ap (λ b. tpar_step found word id o done r.tail b (mark (close_square k))) (r.square_out k)
    ∙ ap (λ y. behind_tpar found word id o done r.tail (Plain y)) (seen-close_square k)
    ∙ ap (tpars_closed found word id o done k) r.there

tpars-along : (t : TPar) (bs : List (Behind TPar)) (found : Found) (word : Place) (id : Id) (o k : Place) (done : List DoneTPar)
    → LeadsBy step (tokens (tpar_tokens t ++ behind_tokens tpar_tokens bs ++ close_square k ∷ [])) (at found (InTParams word id o done TBegin))
    (at found (AtMethod (signature word id (tparams_before o done t bs k) [])))
tpars-along t [] found word id o k done =
    let r = tpar-read found word id o done t.variance t.id t.lower t.upper in
    by-as step (tokens (tpar_tokens t) ++ OneToken (close_square k) ∷ []) _ _ _
    (sym (tokens-append (tpar_tokens t) (close_square k ∷ [])) ∙ ap (λ xs. tokens (xs ++ close_square k ∷ [])) (sym (append-nil (tpar_tokens t))))
    (by-then step (tokens (tpar_tokens t)) _ _ (at found (InTParams word id o done r.tail)) _ r.leads
    (by-one step (OneToken (close_square k)) _ _ (tpar-close found word id o done t r k)))
tpars-along t (b ∷ bs) found word id o k done =
    let r = tpar-read found word id o done t.variance t.id t.lower t.upper in
    let rest = tpar_tokens b.item ++ behind_tokens tpar_tokens bs ++ close_square k ∷ [] in
    by-as step (tokens (tpar_tokens t) ++ OneToken (comma b.comma) ∷ tokens rest) _ _ _
    (sym (tokens-append (tpar_tokens t) (comma b.comma ∷ rest)) ∙ ap tokens (sym (append_assoc (tpar_tokens t) (comma b.comma ∷ (tpar_tokens b.item ++ behind_tokens tpar_tokens bs)) (close_square k ∷ []))))
    (by-then step (tokens (tpar_tokens t)) _ _ (at found (InTParams word id o done r.tail)) _ r.leads
    (by-on step (OneToken (comma b.comma)) _ _ (at found (InTParams word id o (record { tpar = t; place = b.comma } ∷ done) TBegin)) _ (tpar-comma found word id o done t r b.comma)
    (tpars-along b.item bs found word id o k (record { tpar = t; place = b.comma } ∷ done))))

pub tparams-along : (tparams : TParams) (found : Found) (word : Place) (id : Id)
    → LeadsBy step (tokens (tparams_tokens tparams)) (at found (AtMethod (signature word id NoTParams []))) (at found (AtMethod (signature word id tparams [])))
tparams-along NoTParams found word id = by-none step _
tparams-along (TParamsOf o t bs k) found word id =
    by-on step (OneToken (open_square o)) _ _ (at found (InTParams word id o [] TBegin)) _ (ap (λ y. at_method found (signature word id NoTParams []) (Plain y)) (seen-open_square o))
    (tpars-along t bs found word id o k [])
