-- Each state of the machine of definitions can be completed: brackets are closed one after another, and a right side or an alias ends.
use Rattle.std.proofs.Common.{◌≡◌, true, false, if◌then◌else◌, List, [], ◌∷◌, ◌++◌, Some, None, codes, refl, ap, sym, ◌∙◌, append-nil}
use Rattle.reading_machines.specs.Machines.{run}
use Rattle.scan_tokens.specs.declared.roles.Bracket.{Bracket}
use Rattle.scan_tokens.specs.declared.roles.Bracket.TheVariants.{Round, Square, Curly}
use Rattle.scan_tokens.specs.declared.tokens.Newline.TheVariants.{No}
use Rattle.scan_tokens.specs.Newlines.{same_bracket}
use Rattle.source_grammar.specs.Brackets.{Opened, role}
use Rattle.source_grammar.specs.Definitions.{Mod, NoQualifier, NoType, TypePart, Par, TPar, NoSign, NoTParams}
use Rattle.source_grammar.specs.Expressions.{ValueWord, Expr, Def, ValueDef}
use Rattle.source_grammar.specs.ExpressionRules.{Rule}
use Rattle.source_grammar.specs.Lexemes.{Place, Lexeme, word_at, close_round, close_square, colon, equals, Id, id_token, QualId}
use Rattle.source_grammar.specs.Types.{WrittenType}
use Rattle.parse_parts.proofs.Derived as types
use Rattle.parse_parts.proofs.Derived.{longer}
use Rattle.parse_patterns.proofs.Alive.{any_place, an_id}
use Rattle.expr_tails.specs.declared.states.Limit.TheVariants as limit
use Rattle.expr_tails.specs.declared.symbols.Word.TheVariants as word
use Rattle.expr_laws.proofs.BalancedTokens.{round-closes}
use Rattle.expr_laws.proofs.Completing.{completed}
use Rattle.expr_laws.proofs.DefsAlong.{value-step, method-step}
use Rattle.expr_laws.proofs.DefsDerived.{mark, Plain, ReadAnnotation, NoneRead, Between, Tail, AtMods, AtAt, AtAnnotation, AtAnnotationDot, InArguments, AtAccess, Access, AtAccessOpen, AtAccessName, InQualifier, NamedIn, AtValue, AtValueName, InValueType, InValue, AtDef, AtMethod, Signature, InTParams, DoneTPar, TTail, TBegin, TAtSign, TAtName, TInLower, TInUpper, InParams, DonePar, PTail, PBegin, PAtName, PInType, PAtStar, InResult, InMethod, AtType, AtTypeName, InAlias, AtProcedure, Found, State, at, with_annotation, with_mod, access_mod, qualifier_of, bridges, at_mods, at_annotation, behind_path_dot, at_path, in_arguments, at_access, at_access_open, at_access_name, value_def, method_def, def_at, whole_in, tpar_at, tparams_before, pars_before, par_at}
use Rattle.expr_laws.proofs.DefsGood.{is_curly, NoneCurly, Ran, ran-begun, GoodTail}
use Rattle.expr_laws.proofs.DefsSteps.{at_value, at_value_name, in_value, in_value_type, typed_value, at_type, at_type_name, in_alias, at_def, at_method, in_method, in_result, typed_method, right_side, signature, bound_type, tpar_step, behind_tpar, lower_type, upper_type, tpars_closed, par_step, par_on, par_type, behind_par, list_closed, pars_closed, with_list, par_list, step}
use Rattle.expr_laws.proofs.Derived as exprs
use Rattle.expr_laws.proofs.Derived.{Item, OneToken, type_of, type_begun}
use Rattle.expr_laws.proofs.Exactness.{dotless}
use Rattle.expr_laws.proofs.Fillers as expr_fillers
use Rattle.expr_laws.proofs.Fillers.{Mark, Filler, mark_tokens, marks, fill, fill-marks, filler-proper}
use Rattle.expr_laws.proofs.GoodSteps.{begun-good, run-good}
use Rattle.expr_laws.proofs.Items.{tokens}
use Rattle.expr_laws.proofs.LastingSteps.{begun-stands}
use Rattle.expr_laws.proofs.Leading.{LeadsBy, by-none, by-then, by-on, by-as, by-lift, tokens-lift}
use Rattle.expr_laws.proofs.LevelTokens.{square-closes}
use Rattle.expr_laws.proofs.LivesAll.{begun-keeps, run-keeps}
use Rattle.expr_laws.proofs.ModsAlong.{mark-id, mark-word}
use Rattle.expr_laws.proofs.Seen.{AWord, ClosesRound, seen-close_round, seen-close_square, seen-colon, seen-equals}
use Rattle.expr_laws.proofs.Settling.{close-no-type}
use Rattle.expr_laws.proofs.TokenSteps.{if-true}
use Rattle.expr_laws.proofs.TypesRevived.{type-ends}

-- what is added to the items of a definition so that it ends
pub data DefFiller : Type 0 where
  Filled : Filler → DefFiller
  Named : DefFiller
  TypeWord : DefFiller
  Equals : DefFiller
  Colon : DefFiller
  CloseRound : DefFiller
  CloseSquare : DefFiller

abbrev pub filler_item : DefFiller → Item
filler_item (Filled f) = expr_fillers.filler_item f
filler_item Named = OneToken (id_token an_id)
filler_item TypeWord = OneToken (word_at (codes "type") any_place)
filler_item Equals = OneToken (equals any_place)
filler_item Colon = OneToken (colon any_place)
filler_item CloseRound = OneToken (close_round any_place)
filler_item CloseSquare = OneToken (close_square any_place)

abbrev pub filled : List DefFiller → List Item
filled [] = []
filled (f ∷ fs) = filler_item f ∷ filled fs

filled-append : (xs ys : List DefFiller) → filled (xs ++ ys) ≡ filled xs ++ filled ys
filled-append [] ys = refl
filled-append (f ∷ xs) ys = ap (λ is. filler_item f ∷ is) (filled-append xs ys)

abbrev all_filled : List Filler → List DefFiller
all_filled [] = []
all_filled (f ∷ fs) = Filled f ∷ all_filled fs

all-filled : (fs : List Filler) → filled (all_filled fs) ≡ fill fs
all-filled [] = refl
all-filled (f ∷ fs) = ap (λ is. expr_fillers.filler_item f ∷ is) (all-filled fs)

-- these items lead to where a definition ends
pub record DefEnded (s : State) : Type 0 where
  pub others : List DefFiller
  pub end : State
  pub def : Def
  pub leads : LeadsBy step (filled others) s end
  pub ends : def_at end.tail ≡ Some def

ended-here : (s : State) (d : Def) → def_at s.tail ≡ Some d → DefEnded s
ended-here s d e = record { others = []; end = s; def = d; leads = by-none step s; ends = e }

ended-on : (f : DefFiller) (s t : State) → step s (filler_item f) ≡ Some t → DefEnded t → DefEnded s
ended-on f s t e r = record { others = f ∷ r.others; end = r.end; def = r.def; leads = by-on step (filler_item f) (filled r.others) s t r.end e r.leads; ends = r.ends }

ended-by : (fs : List Filler) (s t : State) → LeadsBy step (fill fs) s t → DefEnded t → DefEnded s
ended-by fs s t l r = record {
  others = all_filled fs ++ r.others;
  end = r.end;
  def = r.def;
  leads = by-as step (fill fs ++ filled r.others) (filled (all_filled fs ++ r.others)) s r.end
      (ap (λ is. is ++ filled r.others) (sym (all-filled fs)) ∙ sym (filled-append (all_filled fs) r.others))
      (by-then step (fill fs) (filled r.others) s t r.end l r.leads);
  ends = r.ends;
}

-- ---- types and right sides

abbrev types_at : List types.Head → QualId → types.State
types_at hs path = record { frames = []; heads = hs; tail = types.AtPath path }

-- a type that is read comes to a path outside all brackets
type-goes : (up : types.State → State) → ((t u : types.State) (x : Lexeme) → types.step t x ≡ Some u → step (up t) (OneToken x) ≡ Some (up u)) → (t : types.State)
    → ((hs : List types.Head) (path : QualId) → DefEnded (up (types_at hs path))) → DefEnded (up t)
type-goes up lifts t on =
    let r = type-ends t in
    ended-by (marks r.others) (up t) (up (types_at r.heads r.path))
    (by-as step (tokens (mark_tokens r.others)) (fill (marks r.others)) _ _ (fill-marks r.others) (tokens-lift types.step step up lifts (mark_tokens r.others) t (types_at r.heads r.path) r.runs))
    (on r.heads r.path)

-- the word of an alias, after any modifiers
no-newline : (ms : List Mod) (as_ : List ReadAnnotation) → bridges ms as_ No ≡ true
no-newline [] [] = refl
no-newline [] (a ∷ as_) = refl
no-newline (m ∷ ms) as_ = refl

alias-end : (found : Found) (p : Place) (id : Id) (sign : Place) (t : types.State) → DefEnded (at found (InAlias p id sign t))
alias-end found p id sign t =
    type-goes (λ u. at found (InAlias p id sign u)) (λ u v x e. ap (in_alias found p id sign) e) t (λ hs path. ended-here _ _ refl)

type-name-end : (found : Found) (p : Place) (id : Id) → DefEnded (at found (AtTypeName p id))
type-name-end found p id =
    ended-on Equals _ (at found (InAlias p id any_place type_begun)) (ap (λ y. at_type_name found p id (Plain y)) (seen-equals any_place)) (alias-end found p id any_place type_begun)

type-end : (found : Found) (p : Place) → DefEnded (at found (AtType p))
type-end found p = ended-on Named _ (at found (AtTypeName p an_id)) (ap (at_type found p) (mark-id an_id)) (type-name-end found p an_id)

word-then : (found : Found) → at_mods found (Plain (AWord word.Type any_place)) No ≡ Some (at found (AtType any_place))
word-then found = if-true (bridges found.mods found.annotations No) (Some (at found (AtType any_place))) None (no-newline found.mods found.annotations)

mods-end : (found : Found) → DefEnded (at found AtMods)
mods-end found = ended-on TypeWord _ (at found (AtType any_place)) (ap (λ y. at_mods found y No) (mark-word word.Type any_place) ∙ word-then found) (type-end found any_place)

annotation-end : (found : Found) (sign : Place) (path : QualId) → DefEnded (at found (AtAnnotation sign path))
annotation-end found sign path =
    (let next : Found = with_annotation found sign path NoneRead in
    ended-on TypeWord _ (at next (AtType any_place)) (ap (λ y. at_annotation found sign path y No) (mark-word word.Type any_place) ∙ word-then next) (type-end next any_place))

access-end : (found : Found) (a : Access) (p : Place) → DefEnded (at found (AtAccess a p))
access-end found a p =
    (let next : Found = with_mod found (access_mod a p NoQualifier) in
    ended-on TypeWord _ (at next (AtType any_place)) (ap (λ y. at_access found a p y No) (mark-word word.Type any_place) ∙ word-then next) (type-end next any_place))

access-name-end : (found : Found) (a : Access) (p : Place) (q : InQualifier) → DefEnded (at found (AtAccessName a p q))
access-name-end found a p q =
    (let next : Found = with_mod found (access_mod a p (qualifier_of q any_place)) in
    ended-on CloseSquare _ (at next AtMods) (ap (λ y. at_access_name found a p q (Plain y)) (seen-close_square any_place)) (mods-end next))

-- the brackets between the parentheses of an annotation are closed, and these
arguments-end : (ks : List Opened) → NoneCurly ks → (found : Found) (sign : Place) (path : QualId) (o : Place) (is : List Item) → DefEnded (at found (InArguments sign path o is ks))
arguments-end [] n found sign path o is =
    (let next : Found = with_annotation found sign path (Between o is any_place) in
    ended-on CloseRound _ (at next AtMods)
    (ap (λ y. in_arguments found sign path o is [] (Plain y) (close_round any_place) (role (close_round any_place))) (seen-close_round any_place)
    ∙ ap (in_arguments found sign path o is [] (Plain (ClosesRound any_place)) (close_round any_place)) (round-closes any_place)) (mods-end next))
arguments-end (k ∷ ks) n found sign path o is = go k.bracket refl n.0 (λ js. arguments-end ks n.1 found sign path o js) where
  go : (b : Bracket) → k.bracket ≡ b → is_curly b ≡ false → ((js : List Item) → DefEnded (at found (InArguments sign path o js ks))) → DefEnded (at found (InArguments sign path o is (k ∷ ks)))
  go Round e c on =
      (let x : Lexeme = close_round any_place in
      ended-on CloseRound _ (at found (InArguments sign path o (is ++ OneToken x ∷ []) ks))
      (ap (in_arguments found sign path o is (k ∷ ks) (mark x) x) (round-closes any_place)
      ∙ ap (λ b. if same_bracket b Round then Some (at found (InArguments sign path o (is ++ OneToken x ∷ []) ks)) else None) e)
      (on (is ++ OneToken x ∷ [])))
  go Square e c on =
      (let x : Lexeme = close_square any_place in
      ended-on CloseSquare _ (at found (InArguments sign path o (is ++ OneToken x ∷ []) ks))
      (ap (in_arguments found sign path o is (k ∷ ks) (mark x) x) (square-closes any_place)
      ∙ ap (λ b. if same_bracket b Square then Some (at found (InArguments sign path o (is ++ OneToken x ∷ []) ks)) else None) e)
      (on (is ++ OneToken x ∷ [])))
  go Curly e c on = cc

module _ (rule : Rule) where
  -- a right side comes to where an expression ends
  pub record RightEnded (r : exprs.State) : Type 0 where
    pub fillers : List Filler
    pub end : exprs.Context
    pub expr : Expr
    pub runs : run exprs.step (fill fillers) r ≡ Some (exprs.state [] end)
    pub ends : whole_in [] end ≡ Some expr

  right-ended : (r : exprs.State) → Ran rule r → RightEnded r
  right-ended r k =
      let good = run-good rule k.items right_side r k.proper (begun-stands limit.Expr) (begun-good rule limit.Expr) k.runs in
      let c = completed r.frames r.context (run-keeps k.items right_side r begun-keeps k.runs) (dotless rule r.context.limit r.context.tail good.context.tail) in
      record {
        fillers = c.reaches.fillers;
        end = c.end;
        expr = c.expr;
        runs = ap (λ is. run exprs.step is r) (sym (append-nil (fill c.reaches.fillers))) ∙ c.reaches.leads.runs [];
        ends = c.ended;
      }

  value-end : (found : Found) (w : ValueWord) (id : Id) (type : TypePart) (sign : Place) (r : exprs.State) → Ran rule r → DefEnded (at found (InValue w id type sign r))
  value-end found w id type sign r k =
      let e = right-ended r k in
      ended-by e.fillers _ (at found (InValue w id type sign (exprs.state [] e.end)))
      (by-lift exprs.step step (λ s. at found (InValue w id type sign s)) (λ s t i g. value-step found w id type sign s i ∙ ap (in_value found w id type sign) g)
      (fill e.fillers) r (exprs.state [] e.end) e.runs)
      (ended-here _ (ValueDef w id type sign e.expr) (ap (value_def w id type sign) e.ends))

  value-name-end : (found : Found) (w : ValueWord) (id : Id) → DefEnded (at found (AtValueName w id))
  value-name-end found w id =
      ended-on Equals _ (at found (InValue w id NoType any_place right_side)) (ap (λ y. at_value_name found w id (Plain y)) (seen-equals any_place)) (value-end found w id NoType any_place right_side (ran-begun rule))

  value-type-end : (found : Found) (w : ValueWord) (id : Id) (p : Place) (t : types.State) → DefEnded (at found (InValueType w id p t))
  value-type-end found w id p t =
      type-goes (λ u. at found (InValueType w id p u)) (λ u v x e. ap (λ k. in_value_type found w id p u k (mark x)) e) t
      (λ hs path. ended-on Equals _ _ (ap (λ y. typed_value found w id p (type_of (types_at hs path)) (Plain y)) (seen-equals any_place)) (value-end found w id _ any_place right_side (ran-begun rule)))

  method-end : (found : Found) (m : Signature) (type : TypePart) (sign : Place) (r : exprs.State) → Ran rule r → DefEnded (at found (InMethod m type sign r))
  method-end found m type sign r k =
      let e = right-ended r k in
      ended-by e.fillers _ (at found (InMethod m type sign (exprs.state [] e.end)))
      (by-lift exprs.step step (λ s. at found (InMethod m type sign s)) (λ s t i g. method-step found m type sign s i ∙ ap (in_method found m type sign) g)
      (fill e.fillers) r (exprs.state [] e.end) e.runs)
      (ended-here _ _ (ap (method_def m type sign) e.ends))

  head-end : (found : Found) (m : Signature) → DefEnded (at found (AtMethod m))
  head-end found m =
      ended-on Equals _ (at found (InMethod m NoType any_place right_side)) (ap (λ y. at_method found m (Plain y)) (seen-equals any_place)) (method-end found m NoType any_place right_side (ran-begun rule))

  result-end : (found : Found) (m : Signature) (p : Place) (t : types.State) → DefEnded (at found (InResult m p t))
  result-end found m p t =
      type-goes (λ u. at found (InResult m p u)) (λ u v x e. ap (λ k. in_result found m p u k (mark x)) e) t
      (λ hs path. ended-on Equals _ _ (ap (λ y. typed_method found m p (type_of (types_at hs path)) (Plain y)) (seen-equals any_place)) (method-end found m _ any_place right_side (ran-begun rule)))

  -- ---- type parameters

  module _ (found : Found) (p : Place) (id : Id) (o : Place) (done : List DoneTPar) where
    abbrev within_tpars : TTail → State
    within_tpars now = at found (InTParams p id o done now)

    -- where a type parameter ends, the bracket is closed
    tpar-ended : (now : TTail) (t : TPar) → bound_type now (close_square any_place) ≡ None → tpar_at now ≡ Some t → DefEnded (within_tpars now)
    tpar-ended now t b e =
        ended-on CloseSquare _ (at found (AtMethod (signature p id (tparams_before o done t [] any_place) [])))
        (ap (λ k. tpar_step found p id o done now k (mark (close_square any_place))) b ∙ ap (λ y. behind_tpar found p id o done now (Plain y)) (seen-close_square any_place)
        ∙ ap (tpars_closed found p id o done any_place) e)
        (head-end found (signature p id (tparams_before o done t [] any_place) []))

    tpar-end : (now : TTail) → DefEnded (within_tpars now)
    tpar-end TBegin = ended-on Named _ (within_tpars (TAtName NoSign an_id)) (ap (tpar_step found p id o done TBegin None) (mark-id an_id)) (tpar-ended (TAtName NoSign an_id) _ refl refl)
    tpar-end (TAtSign name) = tpar-ended (TAtSign name) _ refl refl
    tpar-end (TAtName v name) = tpar-ended (TAtName v name) _ refl refl
    tpar-end (TInLower v name sign t) =
        type-goes (λ u. within_tpars (TInLower v name sign u)) (λ u w x e. ap (λ k. tpar_step found p id o done (TInLower v name sign u) (lower_type v name sign k) (mark x)) e) t
        (λ hs path. tpar-ended (TInLower v name sign (types_at hs path)) _ refl refl)
    tpar-end (TInUpper v name lower sign t) =
        type-goes (λ u. within_tpars (TInUpper v name lower sign u)) (λ u w x e. ap (λ k. tpar_step found p id o done (TInUpper v name lower sign u) (upper_type v name lower sign k) (mark x)) e) t
        (λ hs path. tpar-ended (TInUpper v name lower sign (types_at hs path)) _ refl refl)

  -- ---- parameters

  module _ (found : Found) (m : Signature) (o : Place) (done : List DonePar) where
    abbrev within_pars : PTail → State
    within_pars now = at found (InParams m o done now)

    par-closed : (now : PTail) (par : Par) → par_type now (close_round any_place) ≡ None → par_at now ≡ Some par → list_closed found m o done any_place now ≡ pars_closed found m o done any_place (par_at now)
        → DefEnded (within_pars now)
    par-closed now par b e l =
        (let next : Signature = with_list m (par_list o (pars_before done par []) any_place) in
        ended-on CloseRound _ (at found (AtMethod next))
        (ap (λ k. par_step found m o done now k (mark (close_round any_place))) b ∙ ap (λ y. behind_par found m o done now (Plain y)) (seen-close_round any_place)
        ∙ l ∙ ap (pars_closed found m o done any_place) e)
        (head-end found next))

    no-empty : (id : Id) (point : Place) (t : types.State) (ds : List DonePar) → list_closed found m o ds any_place (PInType id point t) ≡ pars_closed found m o ds any_place (par_at (PInType id point t))
    no-empty id point t [] = refl
    no-empty id point t (d ∷ ds) = refl

    star-closed : (id : Id) (point : Place) (type : WrittenType) (star : Place) (ds : List DonePar)
        → list_closed found m o ds any_place (PAtStar id point type star) ≡ pars_closed found m o ds any_place (par_at (PAtStar id point type star))
    star-closed id point type star [] = refl
    star-closed id point type star (d ∷ ds) = refl

    par-typed : (id : Id) (point : Place) (t : types.State) → DefEnded (within_pars (PInType id point t))
    par-typed id point t =
        type-goes (λ u. within_pars (PInType id point u)) (λ u v x e. ap (λ k. par_step found m o done (PInType id point u) (par_on id point k) (mark x)) e) t
        (λ hs path. par-closed (PInType id point (types_at hs path)) _ (ap (par_on id point) (close-no-type any_place (types_at hs path) refl)) refl (no-empty id point (types_at hs path) done))

    par-named : (id : Id) → DefEnded (within_pars (PAtName id))
    par-named id = ended-on Colon _ (within_pars (PInType id any_place type_begun)) (ap (λ y. behind_par found m o done (PAtName id) (Plain y)) (seen-colon any_place)) (par-typed id any_place type_begun)

    par-end : (now : PTail) → DefEnded (within_pars now)
    par-end PBegin = ended-on Named _ (within_pars (PAtName an_id)) (ap (par_step found m o done PBegin None) (mark-id an_id)) (par-named an_id)
    par-end (PAtName id) = par-named id
    par-end (PInType id point t) = par-typed id point t
    par-end (PAtStar id point type star) = par-closed (PAtStar id point type star) _ refl refl (star-closed id point type star done)

  -- ---- any state

  pub def-ended : (found : Found) (s : Tail) → GoodTail rule found s → DefEnded (at found s)
  def-ended found AtMods g = mods-end found
  def-ended found (AtAt sign) g =
      (let path : QualId = record { first = an_id; steps = [] } in
      ended-on Named _ (at found (AtAnnotation sign path)) (ap (at_path found sign) (mark-id an_id)) (annotation-end found sign path))
  def-ended found (AtAnnotation sign path) g = annotation-end found sign path
  def-ended found (AtAnnotationDot sign path p) g =
      ended-on Named _ (at found (AtAnnotation sign (longer path p an_id))) (ap (behind_path_dot found sign path p) (mark-id an_id)) (annotation-end found sign (longer path p an_id))
  def-ended found (InArguments sign path o is ks) g = arguments-end ks g.2.2 found sign path o is
  def-ended found (AtAccess a p) g = access-end found a p
  def-ended found (AtAccessOpen a p o) g =
      ended-on Named _ (at found (AtAccessName a p (NamedIn o an_id))) (ap (at_access_open found a p o) (mark-id an_id)) (access-name-end found a p (NamedIn o an_id))
  def-ended found (AtAccessName a p q) g = access-name-end found a p q
  def-ended found (AtValue w) g = ended-on Named _ (at found (AtValueName w an_id)) (ap (at_value found w) (mark-id an_id)) (value-name-end found w an_id)
  def-ended found (AtValueName w id) g = value-name-end found w id
  def-ended found (InValueType w id point t) g = value-type-end found w id point t
  def-ended found (InValue w id type sign r) g = value-end found w id type sign r g.1
  def-ended found (AtDef p) g =
      (let m : Signature = signature p an_id NoTParams [] in ended-on Named _ (at found (AtMethod m)) (ap (at_def found p) (mark-id an_id)) (head-end found m))
  def-ended found (AtMethod m) g = head-end found m
  def-ended found (InTParams p id o done now) g = tpar-end found p id o done now
  def-ended found (InParams m o done now) g = par-end found m o done now
  def-ended found (InResult m point t) g = result-end found m point t
  def-ended found (InMethod m type sign r) g = method-end found m type sign r g.1
  def-ended found (AtType p) g = type-end found p
  def-ended found (AtTypeName p id) g = type-name-end found p id
  def-ended found (InAlias p id sign t) g = alias-end found p id sign t
  def-ended found (AtProcedure m o block k) g = ended-here _ _ refl
