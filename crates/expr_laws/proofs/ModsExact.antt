-- Where the reader of definitions has read modifiers that may end, they are modifiers as the grammar asks, and it has what they say.
use Rattle.std.proofs.Common.{◌≡◌, Bool, true, false, if◌then◌else◌, List, [], ◌∷◌, ◌++◌, Option, Some, None, option_map, refl, ap, sym, ◌∙◌, append_assoc, append-nil, subst}
use Rattle.reading_machines.specs.Machines.{run}
use Rattle.scan_tokens.specs.declared.tokens.Newline.{Newline}
use Rattle.source_grammar.specs.Definitions.{NoQualifier, mod_tokens, mod_list_tokens}
use Rattle.source_grammar.specs.DefinitionTrees.{has, is_lazy, member_modifiers}
use Rattle.source_grammar.specs.ExpressionRules.{Rule}
use Rattle.source_grammar.specs.Lexemes.{Place, Lexeme, QualId, at_sign, qual_id_tokens}
use Rattle.source_grammar.specs.Newlines.{is_near, newline_before}
use Rattle.parse_patterns.specs.Steps.{is_no}
use Rattle.def_steps.specs.declared.states.Found.{Found as ReaderFound}
use Rattle.def_steps.specs.declared.states.State.{State as ReaderState}
use Rattle.def_steps.specs.Definitions as definitions
use Rattle.def_steps.specs.Modifiers as spec
use Rattle.expr_laws.specs.Definitions.{ReadDefItem, def_items_of, AreOfModifiers, Says, definitions_in_lines}
use Rattle.expr_laws.specs.Exactly.{InLines, lined}
use Rattle.expr_laws.specs.Newlines.{NewlinesEnd, ended_by}
use Rattle.expr_laws.proofs.AnnotationsAlong.{Allowed, AllMods, found_of, mods-along}
use Rattle.expr_laws.proofs.DefsAlong.{read-found}
use Rattle.expr_laws.proofs.DefsDerived.{NoneRead, ReadMods, mods_of, read_mods, bridges, Access, PrivateWord, ProtectedWord, access_mod, Tail, AtMods, AtAnnotation, AtAccess, Found, State, at, with_annotation, with_mod}
use Rattle.expr_laws.proofs.DefsExact.{items-proper, run-same, lined-run, lined-back, behind, front-allowed, annotations-allowed, items-allowed}
use Rattle.expr_laws.proofs.DefsGood.{FoundGood, GoodDefs, GoodTail, begun-defs, run-good, mod-good, annotated-good}
use Rattle.expr_laws.proofs.DefsLasting.{read-defs}
use Rattle.expr_laws.proofs.DefsRead.{found-read}
use Rattle.expr_laws.proofs.DefsSame.{bridges-shown, access-shown}
use Rattle.expr_laws.proofs.DefsShown.{access_of, mods_shown, tail_shown, shown}
use Rattle.expr_laws.proofs.DefsSteps.{annotations_items, annotations_done, begun, found_items, items_in, mods_done, mods_items, step, access_token}
use Rattle.expr_laws.proofs.DefsTree.{lazy-shown, modifiers-shown}
use Rattle.expr_laws.proofs.Derived.{Item, OneToken, is_some, items_tokens}
use Rattle.expr_laws.proofs.Items.{tokens}
use Rattle.expr_laws.proofs.ModsAlong.{mods_end}
use Rattle.expr_laws.proofs.ModsGood.{found-proper}

-- ---- what the reader has of them

abbrev if_bridged : Option Found → Newline → Option Found
if_bridged None before = None
if_bridged (Some found) before = if bridges found.mods found.annotations before then Some found else None

-- no modifier stands before an annotation that ends
abbrev Unmixed : Found → Tail → Type 0
Unmixed found (AtAnnotation sign path) = found.mods ≡ []
Unmixed found _ = Unit {0}

abbrev said_of : Option Found → Option ReaderFound
said_of o = option_map (λ f. mods_shown f.mods) o

said-if : (b : Bool) (f : Found) → spec.found_if b (mods_shown f.mods) ≡ said_of (if b then Some f else None)
said-if true f = refl
said-if false f = refl

access-ends : (found : Found) (a : Access) (p : Place) (b : Bool)
    → spec.found_if b (spec.with_access (mods_shown found.mods) (access_of a)) ≡ said_of (if b then Some (with_mod found (access_mod a p NoQualifier)) else None)
access-ends found a p b = ap (spec.found_if b) (access-shown a p NoQualifier (mods_shown found.mods)) ∙ said-if b (with_mod found (access_mod a p NoQualifier))

annotation-ends : (found : Found) (sign : Place) (path : QualId) (before : Newline) → found.mods ≡ []
    → spec.found_if (is_near before) (mods_shown found.mods) ≡ said_of (if_bridged (Some (with_annotation found sign path NoneRead)) before)
annotation-ends found sign path before e =
    said-if (is_near before) (with_annotation found sign path NoneRead)
    ∙ ap (λ ms. said_of (if bridges ms (with_annotation found sign path NoneRead).annotations before then Some (with_annotation found sign path NoneRead) else None)) (sym e)

mods-at : (found : Found) (t : Tail) (before : Newline) → Unmixed found t → spec.mods_at (tail_shown found t) (mods_shown found.mods) before ≡ said_of (if_bridged (mods_end found t) before)
mods-at found AtMods before u = ap (λ b. spec.found_if b (mods_shown found.mods)) (bridges-shown found.mods found.annotations before) ∙ said-if (bridges found.mods found.annotations before) found
mods-at found (AtAnnotation sign path) before u = annotation-ends found sign path before u
mods-at found (AtAccess a p) before u = access-ends found a p (is_no before)
mods-at found _ before u = refl

-- ---- what was read

annotation-read : (found : Found) (sign : Place) (path : QualId) → found.mods ≡ [] → found_items (with_annotation found sign path NoneRead) ≡ items_in (at found (AtAnnotation sign path))
annotation-read found sign path e =
    ap (λ ms. annotations_done (with_annotation found sign path NoneRead).annotations ++ mods_done ms) e ∙ append-nil (annotations_done found.annotations ++ own)
    ∙ ap (λ is. is ++ own) (sym (append-nil (annotations_done found.annotations)))
    ∙ ap (λ ms. (annotations_done found.annotations ++ mods_done ms) ++ own) (sym e)
  where
    own : List Item
    own = OneToken (at_sign sign) ∷ (tokens (qual_id_tokens path) ++ [])

access-read : (found : Found) (a : Access) (p : Place) → found_items (with_mod found (access_mod a p NoQualifier)) ≡ items_in (at found (AtAccess a p))
access-read found a p = go a ∙ sym (append_assoc (annotations_done found.annotations) (mods_done found.mods) (OneToken (access_token a p) ∷ [])) where
  go : (b : Access) → found_items (with_mod found (access_mod b p NoQualifier)) ≡ annotations_done found.annotations ++ (mods_done found.mods ++ OneToken (access_token b p) ∷ [])
  go PrivateWord = refl
  go ProtectedWord = refl

-- what is known of the modifiers that end
record Ending (s : State) (f : Found) : Type 0 where
  good : FoundGood f
  items : found_items f ≡ items_in s

same-found : (f g : Found) → Some f ≡ Some g → f ≡ g
same-found f g e = cc

module _ (rule : Rule) where
  unmixed : (s : State) → GoodDefs rule (Some s) → Unmixed s.found s.tail
  unmixed s g = go s.tail g.1 where
    go : (t : Tail) → GoodTail rule s.found t → Unmixed s.found t
    go (AtAnnotation sign path) k = k.0
    go _ k = tt

  ending : (s : State) (f : Found) → GoodDefs rule (Some s) → mods_end s.found s.tail ≡ Some f → Ending s f
  ending s f g e = go s.tail g.1 e where
    go : (t : Tail) → GoodTail rule s.found t → mods_end s.found t ≡ Some f → Ending (at s.found t) f
    go AtMods k h = subst (Ending (at s.found AtMods)) (same-found s.found f h) (record { good = g.0; items = sym (append-nil (found_items s.found)) })
    go (AtAnnotation sign path) k h =
        subst (Ending (at s.found (AtAnnotation sign path))) (same-found (with_annotation s.found sign path NoneRead) f h)
        (record { good = annotated-good rule s.found sign path NoneRead g.0 k tt tt; items = annotation-read s.found sign path k.0 })
    go (AtAccess a p) k h =
        subst (Ending (at s.found (AtAccess a p))) (same-found (with_mod s.found (access_mod a p NoQualifier)) f h)
        (record { good = mod-good rule s.found (access_mod a p NoQualifier) g.0 (word a k); items = access-read s.found a p })
      where
        word : (b : Access) → bridges s.found.mods s.found.annotations p.before ≡ true → bridges s.found.mods s.found.annotations (newline_before (mod_tokens (access_mod b p NoQualifier))) ≡ true
        word PrivateWord m = m
        word ProtectedWord m = m
    go _ k h = cc

  mods-of : (after : Lexeme) (is : List (ReadDefItem rule)) (a : AreOfModifiers rule after is) → AllMods a.mods (after ∷ [])
  mods-of after is a =
      mods-along a.mods (after ∷ []) a.proper
      (annotations-allowed a.mods.annotations (front-allowed (annotations_items a.mods.annotations) (tokens (mod_list_tokens a.mods.mods)) (subst Allowed a.items (items-allowed rule is))))

  mods-run : (after : Lexeme) (is : List (ReadDefItem rule)) (a : AreOfModifiers rule after is) → run step (def_items_of rule is) begun ≡ Some (mods-of after is a).read.end
  mods-run after is a = ap (λ js. run step js begun) (a.items ∙ sym (append-nil (mods_items a.mods))) ∙ (mods-of after is a).read.leads.runs []

  pub record ModsThere (after : Lexeme) (is : List (ReadDefItem rule)) (m : ReadMods) : Type 0 where
    pub end : InLines ReaderState
    pub found : ReaderFound
    pub runs : run (definitions_in_lines rule).step is (definitions_in_lines rule).start ≡ Some end
    pub ends : spec.mods_at end.state.tail end.state.found after.place.before ≡ Some found
    pub says : Says m found

  pub mods-complete : (after : Lexeme) (is : List (ReadDefItem rule)) (a : AreOfModifiers rule after is) → ModsThere after is a.mods
  mods-complete after is a =
      let there = mods-of after is a in
      let s = there.read.end in
      let f = found_of a.mods in
      let good : GoodDefs rule (Some s) = run-good rule (def_items_of rule is) begun s (items-proper rule is) (begun-defs rule) (mods-run after is a) in
      record {
        end = record { ended = ended_by true (items_tokens (def_items_of rule is)); state = shown s };
        found = mods_shown f.mods;
        runs = lined-run rule is true definitions.begun a.newlines
            ∙ ap (lined (ended_by true (items_tokens (def_items_of rule is)))) (run-same rule is begun (begun-defs rule) ∙ ap (option_map shown) (mods-run after is a));
        ends = mods-at s.found s.tail after.place.before (unmixed s good) ∙ ap (λ o. said_of (if_bridged o after.place.before)) there.read.on.ends
            ∙ ap (λ b. said_of (if b then Some f else None)) there.bridged;
        says = record {
          modifiers = modifiers-shown f ∙ ap (λ m. member_modifiers (mods_of m)) (read-found a.mods);
          is_lazy = lazy-shown f ∙ ap (λ m. has is_lazy (mods_of m)) (read-found a.mods);
        };
      }

  pub one-mods : (after : Lexeme) (is : List (ReadDefItem rule)) (a b : AreOfModifiers rule after is) → a.mods ≡ b.mods
  one-mods after is a b =
      let r = mods-of after is a in
      let q = mods-of after is b in
      let ends : Some r.read.end ≡ Some q.read.end = sym (mods-run after is a) ∙ mods-run after is b in
      let there : r.read.end ≡ q.read.end = cc in
      sym (read-found a.mods) ∙ ap read_mods (same-found (found_of a.mods) (found_of b.mods) (sym r.read.on.ends ∙ ap (λ s. mods_end s.found s.tail) there ∙ q.read.on.ends)) ∙ read-found b.mods

  pub mods-sound : (after : Lexeme) (is : List (ReadDefItem rule)) (t : InLines ReaderState) → run (definitions_in_lines rule).step is (definitions_in_lines rule).start ≡ Some t
      → is_some (spec.mods_at t.state.tail t.state.found after.place.before) ≡ true → AreOfModifiers rule after is
  mods-sound after is t r w =
      (let back = lined-back rule is true definitions.begun t r in
      let b = behind rule is t.state back.runs in
      let s = b.there in
      go s b.runs b.good (mods_end s.found s.tail) refl
      (ap is_some (sym (mods-at s.found s.tail after.place.before (unmixed s b.good))) ∙ ap (λ u. is_some (spec.mods_at u.tail u.found after.place.before)) b.same ∙ w) back.newlines)
    where
      bridged : (f : Found) (b : Bool) → is_some (said_of (if b then Some f else None)) ≡ true → b ≡ true
      bridged f true e = refl
      bridged f false e = cc

      go : (s : State) → run step (def_items_of rule is) begun ≡ Some s → GoodDefs rule (Some s) → (o : Option Found) → mods_end s.found s.tail ≡ o → is_some (said_of (if_bridged o after.place.before)) ≡ true
          → NewlinesEnd (items_tokens (def_items_of rule is)) → AreOfModifiers rule after is
      go s q g None e f n = (let none : false ≡ true = f in cc)
      go s q g (Some found) e f n =
          (let k = ending s found g e in
          record {
            mods = read_mods found;
            proper = found-proper found (after ∷ []) k.good.0 (bridged found (bridges found.mods found.annotations after.place.before) f);
            items = sym (read-defs (def_items_of rule is) s q) ∙ sym k.items ∙ sym (found-read found);
            newlines = n;
          })
