-- A token more of type parameters and parameters: the reader of definitions does with it what the machine does.
use Rattle.std.proofs.Common.{◌≡◌, ℕ, ◌+◌, Bool, true, false, not, ◌&&◌, ◌||◌, if◌then◌else◌, List, [], ◌∷◌, ◌++◌, map, length, length-append, Option, Some, None, option_map, codes, refl, ap, sym, ◌∙◌, append_assoc, append-nil, arith}
use Rattle.std.specs.Str.{bytes_eq}
use Rattle.pc_terms.specs.declared.tree_kinds.TreeKind.TheVariants as kind
use Rattle.positioned_trees.specs.declared.details.Detail.{Detail}
use Rattle.positioned_trees.specs.declared.details.Detail.TheVariants as detail
use Rattle.positioned_trees.specs.declared.details.Variance.TheVariants as variance
use Rattle.positioned_trees.specs.declared.trees.Tree.{Tree}
use Rattle.scan_tokens.specs.declared.tokens.TokenKind.{TokenKind}
use Rattle.scan_tokens.specs.declared.tokens.TokenKind.TheVariants as token
use Rattle.source_grammar.specs.Definitions.{Behind, behind_items, Bound, NoBound, BoundBy, Nothing, Par, ParList, items, TPar, TParams, NoTParams, TParamsOf, VarianceSign, NoSign, PlusSign, MinusSign, par_tokens, star_tokens, tpar_tokens, lower_tokens, upper_tokens}
use Rattle.source_grammar.specs.DefinitionTrees as grammar
use Rattle.source_grammar.specs.DefinitionTrees.{par_tree, tpar_tree, tparams_trees, bound_trees, has_bound, par_list_trees}
use Rattle.source_grammar.specs.Lexemes.{Lexeme, Place, Id, sign_at, plain_at}
use Rattle.source_grammar.specs.Spans.{end_behind, span_of, labelled}
use Rattle.source_grammar.specs.Types.{WrittenType, type_tree, type_tokens}
use Rattle.parse_parts.proofs.Derived as types
use Rattle.parse_parts.proofs.Kept.{kept, kept_all, joined-kept, alone-kept, node-kept}
use Rattle.parse_parts.proofs.Shown as type_shown
use Rattle.parse_parts.proofs.Shown.{end-behind}
use Rattle.parse_parts.specs.Built.{joined, node}
use Rattle.parse_parts.specs.declared.built.Kids.{Kids}
use Rattle.parse_parts.specs.declared.built.Tall.{Tall}
use Rattle.parse_parts.specs.Steps.{from_to, tail_end}
use Rattle.parse_patterns.specs.Names.{id_of, is_quoted}
use Rattle.tree_lower.specs.Keeping.{name_of}
use Rattle.tree_lower.specs.Lowering.{detailed}
use Rattle.tree_lower.proofs.KeptTrees.{detailed-kept}
use Rattle.expr_tails.specs.declared.symbols.Symbol.{Symbol}
use Rattle.expr_tails.specs.declared.symbols.Symbol.TheVariants as symbol
use Rattle.expr_tails.specs.Types.{type_of as tall_of}
use Rattle.def_steps.specs.declared.states.Method.{Method}
use Rattle.def_steps.specs.declared.states.ParamTail.TheVariants as param_tail
use Rattle.def_steps.specs.declared.states.State.{State}
use Rattle.def_steps.specs.declared.states.Tail.TheVariants as tail
use Rattle.def_steps.specs.declared.states.TypeParam.{TypeParam}
use Rattle.def_steps.specs.declared.states.TypeParamTail.{TypeParamTail}
use Rattle.def_steps.specs.declared.states.TypeParamTail.TheVariants as type_tail
use Rattle.def_steps.specs.Modifiers as modifiers
use Rattle.def_steps.specs.Params as spec
use Rattle.expr_laws.proofs.DefsDerived as derived
use Rattle.expr_laws.proofs.DefsDerived.{there, bounded, tpar_at, par_at, par_of, pars_before, tparams_before}
use Rattle.expr_laws.proofs.DefsGood.{GoodTTail}
use Rattle.expr_laws.proofs.DefsSame.{Same, same-if, goes, whole-type}
use Rattle.expr_laws.proofs.DefsShown.{mods_shown, counted, lists_trees, lists_counts, signature_trees, method_with, method_shown, sign_variance, tpar_start, tpar_shown, tpars_trees, ttail_shown, tpars_method, pars_trees, ptail_shown, pars_method, shown}
use Rattle.expr_laws.proofs.DefsSteps as steps
use Rattle.expr_laws.proofs.DefsSteps.{is_fresh, variance_of}
use Rattle.expr_laws.proofs.DefsTokens.{marked_as}
use Rattle.expr_laws.proofs.Derived.{type_of, is_some, is_nil}
use Rattle.expr_laws.proofs.Innermost.{type-read-end}

-- ---- counts

counted-more : (n : ℕ) → spec.one_more (counted n) ≡ counted (n + 1)
counted-more n = omega arith

trees-length : (done : List derived.DoneTPar) → length (tpars_trees done) ≡ length done
trees-length [] = refl
trees-length (d ∷ done) = let more = length-append (tpars_trees done) (tpar_tree d.tpar ∷ []) in let same = trees-length done in omega (arith, more, same)

pars-length : (done : List derived.DonePar) → length (pars_trees done) ≡ length done
pars-length [] = refl
pars-length (d ∷ done) = let more = length-append (pars_trees done) (par_tree d.par ∷ []) in let same = pars-length done in omega (arith, more, same)

-- ---- type parameters

-- the tree of a type parameter
tpar-kept : (v : VarianceSign) (id : Id) (lower upper : Bound) → spec.type_param_tree (tpar_shown v id lower upper) ≡ kept (tpar_tree (bounded v id lower upper))
tpar-kept v id lower upper =
    ap (detailed says) (node-kept kind.TypeParam id.name id.place.span (from_to (tpar_start v id) end) kids
    ∙ ap (λ s. kept (labelled kind.TypeParam id.name id.place.span s kids)) (go v))
    ∙ detailed-kept says (labelled kind.TypeParam id.name id.place.span (span_of (tpar_tokens (bounded v id lower upper))) kids)
  where
    kids : List Tree
    kids = bound_trees lower ++ bound_trees upper

    end : ℕ
    end = end_behind id.place.span.end (lower_tokens lower ++ upper_tokens upper)

    says : Detail
    says = detail.TypeParam (record { variance = grammar.variance_of v; has_lower = has_bound lower; has_upper = has_bound upper })

    go : (w : VarianceSign) → from_to (tpar_start w id) end ≡ span_of (tpar_tokens (bounded w id lower upper))
    go NoSign = refl
    go (PlusSign p) = refl
    go (MinusSign p) = refl

-- a type parameter with its first or its second bound
lower-bound : (v : VarianceSign) (id : Id) (sign : Place) (t : types.State) (type : WrittenType) → tall_of (type_shown.shown t) ≡ kept (type_tree type) → type_of t ≡ Some type
    → spec.with_bound (record (tpar_shown v id NoBound NoBound) { has_lower = true }) (type_shown.shown t) ≡ tpar_shown v id (BoundBy sign type) NoBound
lower-bound v id sign t type e w =
    ap (λ k. bound_with (tail_end (type_shown.tail_shown t.tail)) (joined (kept_all []) k)) e ∙ ap (bound_with (tail_end (type_shown.tail_shown t.tail))) (joined-kept [] (type_tree type))
    ∙ ap (λ n. bound_with n (kept_all (type_tree type ∷ []))) (sym (type-read-end sign.span.end t type w) ∙ ap (end_behind sign.span.end) (sym (append-nil (type_tokens type))))
  where
    bound_with : ℕ → Option Kids → TypeParam
    bound_with end kids = record (tpar_shown v id NoBound NoBound) { end = end; kids = kids; has_lower = true }

upper-bound : (v : VarianceSign) (id : Id) (lower : Bound) (sign : Place) (t : types.State) (type : WrittenType) → tall_of (type_shown.shown t) ≡ kept (type_tree type) → type_of t ≡ Some type
    → spec.with_bound (record (tpar_shown v id lower NoBound) { has_upper = true }) (type_shown.shown t) ≡ tpar_shown v id lower (BoundBy sign type)
upper-bound v id lower sign t type e w =
    ap (λ k. bound_with (tail_end (type_shown.tail_shown t.tail)) (joined (kept_all (bound_trees lower ++ [])) k)) e
    ∙ ap (bound_with (tail_end (type_shown.tail_shown t.tail)))
    (joined-kept (bound_trees lower ++ []) (type_tree type) ∙ ap (λ ts. kept_all (ts ++ type_tree type ∷ [])) (append-nil (bound_trees lower)))
    ∙ ap (λ n. bound_with n (kept_all (bound_trees lower ++ type_tree type ∷ [])))
    (sym (type-read-end sign.span.end t type w) ∙ sym (end-behind id.place.span.end (lower_tokens lower) (sign_at (codes "<:") sign) (type_tokens type)))
  where
    bound_with : ℕ → Option Kids → TypeParam
    bound_with end kids = record (tpar_shown v id lower NoBound) { end = end; kids = kids; has_upper = true }

before-trees : (o : Place) (done : List derived.DoneTPar) (t : TPar) (bs : List (Behind TPar)) (k : Place)
    → tparams_trees (tparams_before o done t bs k) ≡ tpars_trees done ++ tpar_tree t ∷ map tpar_tree (behind_items bs)
before-trees o [] t bs k = refl
before-trees o (d ∷ done) t bs k =
    before-trees o done d.tpar (record { comma = d.place; item = t } ∷ bs) k ∙ sym (append_assoc (tpars_trees done) (tpar_tree d.tpar ∷ []) (tpar_tree t ∷ map tpar_tree (behind_items bs)))

none-fresh : (o : Place) (done : List derived.DoneTPar) (t : TPar) (bs : List (Behind TPar)) (k : Place) → is_fresh (tparams_before o done t bs k) [] ≡ false
none-fresh o [] t bs k = refl
none-fresh o (d ∷ done) t bs k = none-fresh o done d.tpar (record { comma = d.place; item = t } ∷ bs) k

variance-same : (x : Lexeme) → spec.variance_of x ≡ option_map grammar.variance_of (variance_of (id_of x))
variance-same x = go x.kind where
  by : (a b : Bool) → (if a then Some variance.Covariant else (if b then Some variance.Contravariant else None))
      ≡ option_map grammar.variance_of (if a then Some (PlusSign x.place) else (if b then Some (MinusSign x.place) else None))
  by true b = refl
  by false true = refl
  by false false = refl

  go : (k : TokenKind) → let z : Lexeme = record { kind = k; word = x.word; place = x.place } in spec.variance_of z ≡ option_map grammar.variance_of (variance_of (id_of z))
  go token.BackId = refl
  go _ = by (bytes_eq x.word (codes "+")) (bytes_eq x.word (codes "-"))

-- a type parameter begins at the sign of its variance
sign-start : (sign id : Id) (v : VarianceSign) → variance_of sign ≡ Some v → tpar_start v id ≡ sign.place.span.start
sign-start sign id v e = go sign.quoted (bytes_eq sign.name (codes "+")) (bytes_eq sign.name (codes "-")) e where
  go : (q a b : Bool) → (if q then None else (if a then Some (PlusSign sign.place) else (if b then Some (MinusSign sign.place) else None))) ≡ Some v → tpar_start v id ≡ sign.place.span.start
  go true a b f = cc
  go false true b f = (let same : PlusSign sign.place ≡ v = cc in ap (λ w. tpar_start w id) (sym same))
  go false false true f = (let same : MinusSign sign.place ≡ v = cc in ap (λ w. tpar_start w id) (sym same))
  go false false false f = cc

if-either : (b : Bool) (o : Option State) → (if b || true then None else o) ≡ None
if-either true o = refl
if-either false o = refl

module _ (found : derived.Found) (p : Place) (id : Id) (o : Place) (done : List derived.DoneTPar) where
  abbrev in_at : derived.TTail → Option derived.State
  in_at now = there found (derived.InTParams p id o done now)

  abbrev list_at : TypeParamTail → Option State
  list_at now = spec.in_list (mods_shown found.mods) (tpars_method p id done) now

  with-tpar : (q : TypeParam) (t : TPar) → spec.type_param_tree q ≡ kept (tpar_tree t) → (n : ℕ) → n ≡ length done + 1
      → spec.with_type_param (tpars_method p id done) q
      ≡ record (tpars_method p id done) { named = record (tpars_method p id done).named { kids = kept_all (tpars_trees done ++ tpar_tree t ∷ []) }; type_params = counted n }
  with-tpar q t e n l =
      ap (λ k. with_kids (joined (kept_all (tpars_trees done)) k) (spec.one_more (counted (length done)))) e
      ∙ ap (λ k. with_kids k (spec.one_more (counted (length done)))) (joined-kept (tpars_trees done) (tpar_tree t))
      ∙ ap (with_kids (kept_all (tpars_trees done ++ tpar_tree t ∷ []))) (counted-more (length done) ∙ ap counted (sym l))
    where
      with_kids : Option Kids → ℕ → Method
      with_kids kids count = record (tpars_method p id done) { named = record (tpars_method p id done).named { kids = kids }; type_params = count }

  parted-same : (q : TypeParam) (t : TPar) (k : Place) → spec.type_param_tree q ≡ kept (tpar_tree t)
      → Same (spec.in_list (mods_shown found.mods) (spec.with_type_param (tpars_method p id done) q) type_tail.Begin) (steps.tpar_parted found p id o done k (Some t))
  parted-same q t k e = ap (λ m. spec.in_list (mods_shown found.mods) m type_tail.Begin) (with-tpar q t e (length (record { tpar = t; place = k } ∷ done)) (omega arith))

  closed-same : (q : TypeParam) (t : TPar) (k : Place) → spec.type_param_tree q ≡ kept (tpar_tree t)
      → Same (modifiers.state (mods_shown found.mods) (tail.AtMethod (spec.with_type_param (tpars_method p id done) q))) (steps.tpars_closed found p id o done k (Some t))
  closed-same q t k e =
      ap (λ m. modifiers.state (mods_shown found.mods) (tail.AtMethod m)) (with-tpar q t e (length trees) (ap length there_trees ∙ length-append (tpars_trees done) (tpar_tree t ∷ []) ∙ ap (λ n. n + 1) (trees-length done))
      ∙ ap (λ ts. with_trees ts false) (sym (there_trees)) ∙ ap (λ ts. with_trees ts false) (sym (append-nil trees)) ∙ ap (with_trees (trees ++ [])) (sym (none-fresh o done t [] k)))
    where
      trees : List Tree
      trees = tparams_trees (tparams_before o done t [] k)

      there_trees : trees ≡ tpars_trees done ++ tpar_tree t ∷ []
      there_trees = before-trees o done t [] k

      with_trees : List Tree → Bool → Method
      with_trees ts fresh = record (tpars_method p id done) { named = record (tpars_method p id done).named { kids = kept_all ts }; type_params = counted (length trees); is_fresh = fresh }

  -- behind a type parameter that is whole
  after-same : (now : derived.TTail) (v : VarianceSign) (name : Id) (lower upper : Bound) (y : Symbol) (x : Lexeme) → tpar_at now ≡ Some (bounded v name lower upper)
      → ((q : Place) → Same (spec.after_lower (mods_shown found.mods) (tpars_method p id done) (tpar_shown v name lower upper)) (steps.in_tparams found p id o done (steps.lower_behind q now)))
      → ((q : Place) → Same (spec.after_upper (mods_shown found.mods) (tpars_method p id done) (tpar_shown v name lower upper)) (steps.in_tparams found p id o done (steps.upper_behind q now)))
      → ((i : Id) → y ≡ symbol.Id → steps.tpar_named i now ≡ None)
      → Same (spec.after_param (mods_shown found.mods) (tpars_method p id done) (tpar_shown v name lower upper) y) (steps.behind_tpar found p id o done now (marked_as y x))
  after-same now v name lower upper symbol.LowerBound x e low up named = low x.place
  after-same now v name lower upper symbol.UpperBound x e low up named = up x.place
  after-same now v name lower upper symbol.Comma x e low up named =
      parted-same (tpar_shown v name lower upper) (bounded v name lower upper) x.place (tpar-kept v name lower upper) ∙ ap (λ t. option_map shown (steps.tpar_parted found p id o done x.place t)) (sym e)
  after-same now v name lower upper symbol.CloseSquare x e low up named =
      closed-same (tpar_shown v name lower upper) (bounded v name lower upper) x.place (tpar-kept v name lower upper) ∙ ap (λ t. option_map shown (steps.tpars_closed found p id o done x.place t)) (sym e)
  after-same now v name lower upper symbol.Id x e low up named = ap (λ t. option_map shown (steps.in_tparams found p id o done t)) (sym (named (id_of x) refl))
  after-same now v name lower upper _ x e low up named = refl

  -- where none is whole
  none-same : (now : derived.TTail) (y : Symbol) (x : Lexeme) → tpar_at now ≡ None → ((q : Place) → steps.lower_behind q now ≡ None) → ((q : Place) → steps.upper_behind q now ≡ None) → ((i : Id) → steps.tpar_named i now ≡ None)
      → Same None (steps.behind_tpar found p id o done now (marked_as y x))
  none-same now symbol.LowerBound x e low up named = ap (λ t. option_map shown (steps.in_tparams found p id o done t)) (sym (low x.place))
  none-same now symbol.UpperBound x e low up named = ap (λ t. option_map shown (steps.in_tparams found p id o done t)) (sym (up x.place))
  none-same now symbol.Comma x e low up named = ap (λ t. option_map shown (steps.tpar_parted found p id o done x.place t)) (sym e)
  none-same now symbol.CloseSquare x e low up named = ap (λ t. option_map shown (steps.tpars_closed found p id o done x.place t)) (sym e)
  none-same now symbol.Id x e low up named = ap (λ t. option_map shown (steps.in_tparams found p id o done t)) (sym (named (id_of x)))
  none-same now _ x e low up named = refl

  -- a name, which may be a sign
  by-variance : (i : Id) (v : Option VarianceSign) → variance_of i ≡ v
      → Same (spec.begun_by (mods_shown found.mods) (tpars_method p id done) (option_map grammar.variance_of v) (name_of i)) (in_at (steps.named_tpar i v))
  by-variance i None e = refl
  by-variance i (Some v) e = ap (λ w. list_at (type_tail.AtSign (name_of i) (sign_variance w))) (sym e)

  begun-tpar : (y : Symbol) (x : Lexeme) → Same (spec.at_type_param (mods_shown found.mods) (tpars_method p id done) y x) (steps.behind_tpar found p id o done derived.TBegin (marked_as y x))
  begun-tpar symbol.Id x =
      ap (λ v. spec.begun_by (mods_shown found.mods) (tpars_method p id done) v (name_of (id_of x))) (variance-same x) ∙ by-variance (id_of x) (variance_of (id_of x)) refl
  begun-tpar _ x = refl

  signed-name : (sign : Id) (x : Lexeme) (v : Option VarianceSign) → variance_of sign ≡ v → is_some v ≡ true
      → Same (list_at (type_tail.AtName (spec.param_named sign.place.span.start (sign_variance v) (name_of (id_of x))))) (steps.in_tparams found p id o done (steps.signed_tpar v (id_of x)))
  signed-name sign x None e g = cc
  signed-name sign x (Some v) e g =
      ap (λ n. list_at (type_tail.AtName (spec.param_named n (grammar.variance_of v) (name_of (id_of x))))) (sym (sign-start sign (id_of x) v e))

  signed-same : (sign : Id) (y : Symbol) (x : Lexeme) → is_some (variance_of sign) ≡ true
      → Same (spec.after_sign (mods_shown found.mods) (tpars_method p id done) (name_of sign) (sign_variance (variance_of sign)) y x) (steps.behind_tpar found p id o done (derived.TAtSign sign) (marked_as y x))
  signed-same sign symbol.Id x g = signed-name sign x (variance_of sign) refl g
  signed-same sign y x g = after-same (derived.TAtSign sign) NoSign sign NoBound NoBound y x refl (λ q. refl) (λ q. refl) (λ i e. cc)

  lower-same : (v : VarianceSign) (name : Id) (sign : Place) (t : types.State) (y : Symbol) (x : Lexeme) → let now = derived.TInLower v name sign t in
      Same (spec.in_type_params (mods_shown found.mods) (tpars_method p id done) (ttail_shown now) y x) (steps.tpar_step found p id o done now (steps.bound_type now x) (marked_as y x))
  lower-same v name sign t y x =
      goes t x (λ u. list_at (type_tail.InBound begun u)) _ (λ k. steps.tpar_step found p id o done now (steps.lower_type v name sign k) (marked_as y x)) (λ u. refl)
      (whole-type t _ (steps.behind_tpar found p id o done now (marked_as y x))
      (λ e. none-same now y x (ap (derived.lower_at v name sign) e) (λ q. refl) (λ q. ap (steps.upper_bounded q v name sign) e) (λ i. refl))
      (λ type k e. ap (λ q. spec.after_param (mods_shown found.mods) (tpars_method p id done) q y) (lower-bound v name sign t type k e)
      ∙ after-same now v name (BoundBy sign type) NoBound y x (ap (derived.lower_at v name sign) e) (λ q. refl)
      (λ q. ap (λ k. option_map shown (steps.in_tparams found p id o done (steps.upper_bounded q v name sign k))) (sym e)) (λ i g. refl)))
    where
      now : derived.TTail
      now = derived.TInLower v name sign t

      begun : TypeParam
      begun = record (tpar_shown v name NoBound NoBound) { has_lower = true }

  upper-same : (v : VarianceSign) (name : Id) (lower : Bound) (sign : Place) (t : types.State) (y : Symbol) (x : Lexeme) → let now = derived.TInUpper v name lower sign t in
      Same (spec.in_type_params (mods_shown found.mods) (tpars_method p id done) (ttail_shown now) y x) (steps.tpar_step found p id o done now (steps.bound_type now x) (marked_as y x))
  upper-same v name lower sign t y x =
      goes t x (λ u. list_at (type_tail.InBound begun u)) _ (λ k. steps.tpar_step found p id o done now (steps.upper_type v name lower sign k) (marked_as y x)) (λ u. refl)
      (whole-type t _ (steps.behind_tpar found p id o done now (marked_as y x))
      (λ e. none-same now y x (ap (derived.upper_at v name lower sign) e) (λ q. refl) (λ q. refl) (λ i. refl))
      (λ type k e. ap (λ q. spec.after_param (mods_shown found.mods) (tpars_method p id done) q y) (upper-bound v name lower sign t type k e)
      ∙ after-same now v name lower (BoundBy sign type) y x (ap (derived.upper_at v name lower sign) e)
      (λ q. if-either (has_bound lower) (spec.in_bound_of (mods_shown found.mods) (tpars_method p id done) (spec.bounded (tpar_shown v name lower (BoundBy sign type)) true false)))
      (λ q. refl) (λ i g. refl)))
    where
      now : derived.TTail
      now = derived.TInUpper v name lower sign t

      begun : TypeParam
      begun = record (tpar_shown v name lower NoBound) { has_upper = true }

  pub tpar-same : (now : derived.TTail) (y : Symbol) (x : Lexeme) → GoodTTail now
      → Same (spec.in_type_params (mods_shown found.mods) (tpars_method p id done) (ttail_shown now) y x) (steps.tpar_step found p id o done now (steps.bound_type now x) (marked_as y x))
  tpar-same derived.TBegin y x g = begun-tpar y x
  tpar-same (derived.TAtSign sign) y x g = signed-same sign y x g
  tpar-same (derived.TAtName v name) y x g = after-same (derived.TAtName v name) v name NoBound NoBound y x refl (λ q. refl) (λ q. refl) (λ i e. refl)
  tpar-same (derived.TInLower v name sign t) y x g = lower-same v name sign t y x
  tpar-same (derived.TInUpper v name lower sign t) y x g = upper-same v name lower sign t y x

-- ---- parameters

-- the tree of a parameter
par-kept : (par : Par) (end : ℕ) → end_behind par.point.span.end (type_tokens par.type ++ star_tokens par.star) ≡ end
    → spec.param_tree (name_of par.id) (kept (type_tree par.type)) end (grammar.repeats par.star) ≡ kept (par_tree par)
par-kept par end e =
    ap (λ k. detailed says (node kind.Param par.id.name par.id.place.span (from_to par.id.place.span.start end) k)) (alone-kept (type_tree par.type))
    ∙ ap (detailed says) (node-kept kind.Param par.id.name par.id.place.span (from_to par.id.place.span.start end) (type_tree par.type ∷ [])
    ∙ ap (λ n. kept (labelled kind.Param par.id.name par.id.place.span (from_to par.id.place.span.start n) (type_tree par.type ∷ []))) (sym e))
    ∙ detailed-kept says (labelled kind.Param par.id.name par.id.place.span (span_of (par_tokens par)) (type_tree par.type ∷ []))
  where
    says : Detail
    says = spec.param_detail (grammar.repeats par.star)

items-trees : (done : List derived.DonePar) (par : Par) (bs : List (Behind Par)) → map par_tree (items (pars_before done par bs)) ≡ pars_trees done ++ par_tree par ∷ map par_tree (behind_items bs)
items-trees [] par bs = refl
items-trees (d ∷ done) par bs =
    items-trees done d.par (record { comma = d.place; item = par } ∷ bs) ∙ sym (append_assoc (pars_trees done) (par_tree d.par ∷ []) (par_tree par ∷ map par_tree (behind_items bs)))

items-length : (done : List derived.DonePar) (par : Par) (bs : List (Behind Par)) → length (items (pars_before done par bs)) ≡ (length done + 1) + length (behind_items bs)
items-length [] par bs = omega arith
items-length (d ∷ done) par bs = let more = items-length done d.par (record { comma = d.place; item = par } ∷ bs) in omega (arith, more)

stale : (ts : TParams) (l : ParList) (ls : List ParList) → is_fresh ts (l ∷ ls) ≡ false
stale NoTParams l ls = refl
stale (TParamsOf o t ts k) l ls = refl

-- the method behind one list more
list-end : (m : derived.Signature) (list : ParList) (trees : List Tree) (count : ℕ) → trees ≡ signature_trees m ++ par_list_trees list → count ≡ counted (length (items list.pars))
    → record (method_with m trees false false) { param_lists = lists_counts m.lists ++ count ∷ [] } ≡ method_shown (steps.with_list m list)
list-end m list trees count t n =
    ap (λ ts. behind ts count false) (t ∙ append_assoc (tparams_trees m.tparams) (lists_trees m.lists) (par_list_trees list))
    ∙ ap (λ c. behind (tparams_trees m.tparams ++ (lists_trees m.lists ++ par_list_trees list)) c false) n
    ∙ ap (behind (tparams_trees m.tparams ++ (lists_trees m.lists ++ par_list_trees list)) (counted (length (items list.pars)))) (sym (stale m.tparams list m.lists))
  where
    behind : List Tree → ℕ → Bool → Method
    behind ts c fresh = record (method_with m ts false fresh) { param_lists = lists_counts m.lists ++ c ∷ [] }

module _ (found : derived.Found) (m : derived.Signature) (o : Place) (done : List derived.DonePar) where
  abbrev closed_at : Method → ℕ → Option State
  closed_at n count = spec.list_closed (mods_shown found.mods) n count

  -- a parameter more, behind which a comma or the end of the list stands
  with-par : (par : Par) (tall : Option Tall) → tall ≡ kept (par_tree par)
      → spec.with_param (pars_method m done) tall ≡ method_with m ((signature_trees m ++ pars_trees done) ++ par_tree par ∷ []) false false
  with-par par tall e = ap (λ k. with_kids (joined (kept_all (signature_trees m ++ pars_trees done)) k)) e ∙ ap with_kids (joined-kept (signature_trees m ++ pars_trees done) (par_tree par)) where
    with_kids : Option Kids → Method
    with_kids kids = record (pars_method m done) { named = record (pars_method m done).named { kids = kids } }

  next-same : (par : Par) (tall : Option Tall) (k : Place) → tall ≡ kept (par_tree par)
      → Same (spec.in_params_at (mods_shown found.mods) (spec.with_param (pars_method m done) tall) (spec.one_more (counted (length done))) (param_tail.Begin false)) (steps.next_par found m o done k (Some par))
  next-same par tall k e =
      ap (λ n. spec.in_params_at (mods_shown found.mods) n (spec.one_more (counted (length done))) (param_tail.Begin false))
      (with-par par tall e ∙ ap (λ ts. method_with m ts false false) (append_assoc (signature_trees m) (pars_trees done) (par_tree par ∷ [])))
      ∙ ap (λ c. spec.in_params_at (mods_shown found.mods) (pars_method m (d ∷ done)) c (param_tail.Begin false)) (counted-more (length done) ∙ ap counted more)
    where
      d : derived.DonePar
      d = record { par = par; place = k }

      more : length done + 1 ≡ length (d ∷ done)
      more = omega arith

  ended-same : (par : Par) (tall : Option Tall) (k : Place) → tall ≡ kept (par_tree par)
      → Same (closed_at (spec.with_param (pars_method m done) tall) (spec.one_more (counted (length done)))) (steps.pars_closed found m o done k (Some par))
  ended-same par tall k e =
      ap (λ n. closed_at n (spec.one_more (counted (length done)))) (with-par par tall e)
      ∙ ap (λ n. modifiers.state (mods_shown found.mods) (tail.AtMethod n))
      (list-end m list _ _ (append_assoc (signature_trees m) (pars_trees done) (par_tree par ∷ []) ∙ ap (λ ts. signature_trees m ++ ts) (sym (items-trees done par [])))
      (counted-more (length done) ∙ ap counted (sym (items-length done par [] ∙ omega arith))))
    where
      list : ParList
      list = steps.par_list o (pars_before done par []) k

  -- the list ends with no parameter
  empty-same : (k : Place) → Same (if is_nil done then closed_at (pars_method m done) (counted (length done)) else None) (steps.list_closed found m o done k derived.PBegin)
  empty-same k = go done where
    go : (ds : List derived.DonePar) → Same (if is_nil ds then closed_at (pars_method m ds) (counted (length ds)) else None) (steps.list_closed found m o ds k derived.PBegin)
    go [] = ap (λ n. modifiers.state (mods_shown found.mods) (tail.AtMethod n)) (list-end m (steps.par_list o Nothing k) (signature_trees m ++ []) (counted 0) refl refl)
    go (d ∷ ds) = refl

  begun-par : (y : Symbol) (x : Lexeme)
      → Same (spec.at_param (mods_shown found.mods) (pars_method m done) (counted (length done)) (is_nil done) y x) (steps.behind_par found m o done derived.PBegin (marked_as y x))
  begun-par symbol.Id x = refl
  begun-par symbol.CloseRound x = empty-same x.place
  begun-par _ x = refl

  named-closed : (id : Id) (k : Place) (ds : List derived.DonePar) → None ≡ steps.list_closed found m o ds k (derived.PAtName id)
  named-closed id k [] = refl
  named-closed id k (d ∷ ds) = refl

  named-par : (id : Id) (y : Symbol) (x : Lexeme)
      → Same (spec.after_name (mods_shown found.mods) (pars_method m done) (counted (length done)) (name_of id) y) (steps.behind_par found m o done (derived.PAtName id) (marked_as y x))
  named-par id symbol.Colon x = refl
  named-par id symbol.CloseRound x = ap (λ s. option_map shown s) (named-closed id x.place done)
  named-par id _ x = refl

  star-same : (x : Lexeme) → spec.is_star x ≡ steps.is_star (id_of x)
  star-same x = go x.kind where
    go : (k : TokenKind) → (spec.is_plain k && bytes_eq x.word (codes "*")) ≡ (not (is_quoted k) && bytes_eq x.word (codes "*"))
    go token.BackId = refl
    go _ = refl

  typed-closed : (id : Id) (point : Place) (t : types.State) (k : Place) (ds : List derived.DonePar)
      → steps.pars_closed found m o ds k (par_at (derived.PInType id point t)) ≡ steps.list_closed found m o ds k (derived.PInType id point t)
  typed-closed id point t k [] = refl
  typed-closed id point t k (d ∷ ds) = refl

  star-closed : (id : Id) (point : Place) (type : WrittenType) (star k : Place) (ds : List derived.DonePar)
      → steps.pars_closed found m o ds k (par_at (derived.PAtStar id point type star)) ≡ steps.list_closed found m o ds k (derived.PAtStar id point type star)
  star-closed id point type star k [] = refl
  star-closed id point type star k (d ∷ ds) = refl

  typed-kept : (id : Id) (point : Place) (t : types.State) (type : WrittenType) → tall_of (type_shown.shown t) ≡ kept (type_tree type) → type_of t ≡ Some type
      → spec.typed_param (name_of id) (type_shown.shown t) ≡ kept (par_tree (par_of id point type None))
  typed-kept id point t type k e =
      ap (λ s. spec.param_tree (name_of id) s (tail_end (type_shown.tail_shown t.tail)) false) k
      ∙ par-kept (par_of id point type None) (tail_end (type_shown.tail_shown t.tail)) (ap (end_behind point.span.end) (append-nil (type_tokens type)) ∙ type-read-end point.span.end t type e)

  -- behind the type of a parameter
  after-type-same : (id : Id) (point : Place) (t : types.State) (type : WrittenType) (y : Symbol) (x : Lexeme) → tall_of (type_shown.shown t) ≡ kept (type_tree type) → type_of t ≡ Some type
      → Same (spec.after_type (mods_shown found.mods) (pars_method m done) (counted (length done)) (name_of id) (type_shown.shown t) y x) (steps.behind_par found m o done (derived.PInType id point t) (marked_as y x))
  after-type-same id point t type symbol.Id x k e =
      ap (λ b. if b then starred_at (tall_of (type_shown.shown t)) else None) (star-same x)
      ∙ ap (λ s. if steps.is_star (id_of x) then starred_at s else None) k
      ∙ same-if (steps.is_star (id_of x)) _ (there found (derived.InParams m o done (derived.PAtStar id point type x.place))) refl
      ∙ ap (λ s. option_map shown (steps.starred found m o done id point (id_of x) s)) (sym e)
    where
      starred_at : Option Tall → Option State
      starred_at s = spec.in_params_at (mods_shown found.mods) (pars_method m done) (counted (length done)) (param_tail.AtStar (name_of id) s x.place.span.end)
  after-type-same id point t type symbol.Comma x k e =
      next-same (par_of id point type None) (spec.typed_param (name_of id) (type_shown.shown t)) x.place (typed-kept id point t type k e)
      ∙ ap (λ s. option_map shown (steps.next_par found m o done x.place (derived.typed_par id point s))) (sym e)
  after-type-same id point t type symbol.CloseRound x k e =
      ended-same (par_of id point type None) (spec.typed_param (name_of id) (type_shown.shown t)) x.place (typed-kept id point t type k e)
      ∙ ap (λ s. option_map shown (steps.pars_closed found m o done x.place (derived.typed_par id point s))) (sym e)
      ∙ ap (λ s. option_map shown s) (typed-closed id point t x.place done)
  after-type-same id point t type _ x k e = refl

  no-type-same : (id : Id) (point : Place) (t : types.State) (y : Symbol) (x : Lexeme) → type_of t ≡ None → Same None (steps.behind_par found m o done (derived.PInType id point t) (marked_as y x))
  no-type-same id point t symbol.Id x e = ap (λ s. option_map shown (steps.starred found m o done id point (id_of x) s)) (sym e)
  no-type-same id point t symbol.Comma x e = ap (λ s. option_map shown (steps.next_par found m o done x.place (derived.typed_par id point s))) (sym e)
  no-type-same id point t symbol.CloseRound x e =
      ap (λ s. option_map shown (steps.pars_closed found m o done x.place (derived.typed_par id point s))) (sym e) ∙ ap (λ s. option_map shown s) (typed-closed id point t x.place done)
  no-type-same id point t _ x e = refl

  par-type-same : (id : Id) (point : Place) (t : types.State) (y : Symbol) (x : Lexeme) → let now = derived.PInType id point t in
      Same (spec.in_params (mods_shown found.mods) (pars_method m done) (counted (length done)) (ptail_shown (is_nil done) now) y x) (steps.par_step found m o done now (steps.par_type now x) (marked_as y x))
  par-type-same id point t y x =
      goes t x (λ u. spec.in_params_at (mods_shown found.mods) (pars_method m done) (counted (length done)) (param_tail.InType (name_of id) u)) _
      (λ k. steps.par_step found m o done (derived.PInType id point t) (steps.par_on id point k) (marked_as y x)) (λ u. refl)
      (whole-type t _ (steps.behind_par found m o done (derived.PInType id point t) (marked_as y x)) (no-type-same id point t y x) (λ type k e. after-type-same id point t type y x k e))

  star-par : (id : Id) (point : Place) (type : WrittenType) (star : Place) (y : Symbol) (x : Lexeme)
      → Same (spec.after_star (mods_shown found.mods) (pars_method m done) (counted (length done)) (spec.param_tree (name_of id) (kept (type_tree type)) star.span.end true) y)
      (steps.behind_par found m o done (derived.PAtStar id point type star) (marked_as y x))
  star-par id point type star symbol.CloseRound x =
      ended-same (par_of id point type (Some star)) _ x.place
      (par-kept (par_of id point type (Some star)) star.span.end (end-behind point.span.end (type_tokens type) (plain_at (codes "*") star) []))
      ∙ ap (λ s. option_map shown s) (star-closed id point type star x.place done)
  star-par id point type star _ x = refl

  pub par-same : (now : derived.PTail) (y : Symbol) (x : Lexeme)
      → Same (spec.in_params (mods_shown found.mods) (pars_method m done) (counted (length done)) (ptail_shown (is_nil done) now) y x) (steps.par_step found m o done now (steps.par_type now x) (marked_as y x))
  par-same derived.PBegin y x = begun-par y x
  par-same (derived.PAtName id) y x = named-par id y x
  par-same (derived.PInType id point t) y x = par-type-same id point t y x
  par-same (derived.PAtStar id point type star) y x = star-par id point type star y x
