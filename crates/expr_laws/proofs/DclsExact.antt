-- Where the reader of definitions has read a declaration, it is one as the grammar asks, and the reader has its tree.
use Rattle.std.proofs.Common.{◌≡◌, ℕ, ◌≤◌, true, false, List, [], ◌∷◌, ◌++◌, length, length-append, Option, Some, None, option_map, refl, ap, sym, ◌∙◌, append-nil, subst, arith}
use Rattle.pc_terms.specs.declared.problems.Span.{Span}
use Rattle.pc_terms.specs.declared.tree_kinds.TreeKind.{TreeKind}
use Rattle.pc_terms.specs.declared.tree_kinds.TreeKind.TheVariants as kind
use Rattle.positioned_trees.specs.declared.details.Detail.{Detail}
use Rattle.positioned_trees.specs.declared.details.Detail.TheVariants as detail
use Rattle.positioned_trees.specs.declared.details.Modifiers.{Modifiers}
use Rattle.positioned_trees.specs.declared.details.RightSide.TheVariants as right_side
use Rattle.positioned_trees.specs.declared.trees.Tree.{Tree}
use Rattle.positioned_trees.specs.Trees.{max_number}
use Rattle.reading_machines.specs.Machines.{run}
use Rattle.source_grammar.specs.Definitions.{Mods, TypePart, NoType, OfType, type_part_tokens, mod_list_tokens}
use Rattle.source_grammar.specs.DefinitionTrees.{has_type, member_modifiers, type_part_trees, tparams_trees, par_lists_trees}
use Rattle.source_grammar.specs.Expressions.{ValueWord, Val, Var}
use Rattle.source_grammar.specs.ExpressionRules.{Rule}
use Rattle.source_grammar.specs.ExpressionTrees.{value_kind}
use Rattle.source_grammar.specs.Lexemes.{Place, Id}
use Rattle.source_grammar.specs.Placeholders as grammar
use Rattle.source_grammar.specs.Placeholders.{plain_each, trees_of, free_of}
use Rattle.source_grammar.specs.Spans.{span_of, labelled, with_detail}
use Rattle.source_grammar.specs.Templates.{Dcl, ValueDcl, MethodDcl, dcl_tokens}
use Rattle.source_grammar.specs.TemplateTrees.{dcl_built}
use Rattle.source_grammar.specs.Types.{WrittenType, type_tree}
use Rattle.parse_parts.proofs.Derived as types
use Rattle.parse_parts.proofs.Kept.{kept, kept_all, joined-kept, node-kept}
use Rattle.parse_parts.proofs.Shown as type_shown
use Rattle.parse_parts.specs.Built.{joined, node}
use Rattle.parse_parts.specs.declared.built.Kids.{Kids}
use Rattle.parse_parts.specs.declared.built.Tall.{Tall}
use Rattle.parse_parts.specs.Steps as spans
use Rattle.tree_lower.specs.Keeping.{places_shown}
use Rattle.tree_lower.specs.Lowering.{detailed}
use Rattle.tree_lower.proofs.KeptTrees.{detailed-kept}
use Rattle.expr_tails.specs.declared.items.Built.{Built}
use Rattle.def_steps.specs.declared.states.State.{State as ReaderState}
use Rattle.def_steps.specs.Declarations as spec
use Rattle.def_steps.specs.Definitions as definitions
use Rattle.def_steps.specs.Heads as heads
use Rattle.expr_laws.specs.Definitions.{ReadDefItem, def_items_of, AreOfDeclaration, definitions_in_lines}
use Rattle.expr_laws.specs.Exactly.{InLines, lined}
use Rattle.expr_laws.specs.Newlines.{NewlinesEnd, ended_by}
use Rattle.expr_laws.proofs.Agreeing.{type-whole}
use Rattle.expr_laws.proofs.AnnotationsAlong.{Allowed}
use Rattle.expr_laws.proofs.DclsRead.{value_dcl, method_dcl, dcl_at, DclRead, dcl-read, SameDcl, one-declaration, read-declaration, ended-dcl}
use Rattle.expr_laws.proofs.DefsCounts.{head-fits, behind-some, tokens-there}
use Rattle.expr_laws.proofs.DefsDerived as derived
use Rattle.expr_laws.proofs.DefsDerived.{ReadMods, mods_of, read_mods, ordered}
use Rattle.expr_laws.proofs.DefsExact.{run-same, lined-run, lined-back, behind, front-allowed, annotations-allowed, items-allowed}
use Rattle.expr_laws.proofs.DefsGood.{GoodDefs, begun-defs}
use Rattle.expr_laws.proofs.DefsShown.{mods_shown, is_var, word_start, value_shown, method_shown, tail_shown, shown}
use Rattle.expr_laws.proofs.DefsSteps.{annotations_items, begun, method_tokens, mods_items, step}
use Rattle.expr_laws.proofs.DefsTree.{modifiers-shown, value-kind, CountsFit, head_trees, head-trees, method_detail, method-detail}
use Rattle.expr_laws.proofs.Derived.{is_some, items_tokens, type_of}
use Rattle.expr_laws.proofs.Headed.{plain-trees, plain-free}
use Rattle.expr_laws.proofs.Innermost.{type-read-shown}
use Rattle.expr_laws.proofs.Items.{tokens}
use Rattle.expr_laws.proofs.Shown.{built_shown}

-- ---- the tree of a declaration

-- a tree of these kids, which bind all that is free in them
with-kids : (says : Detail) (k : TreeKind) (id : Id) (span : Span) (ts : List Tree)
    → record { tall = detailed says (node k id.name id.place.span span (kept_all ts)); free = [] }
    ≡ built_shown (grammar.detailed says (grammar.named_node k id.name id.place.span span (plain_each ts ++ [])))
with-kids says k id span ts =
    ap (λ tall. alone (detailed says tall)) (node-kept k id.name id.place.span span ts)
    ∙ ap alone (detailed-kept says (labelled k id.name id.place.span span ts))
    ∙ ap (λ us. alone (kept (with_detail says (labelled k id.name id.place.span span us)))) (sym (plain-trees ts))
    ∙ ap (λ free. record { tall = kept (with_detail says (labelled k id.name id.place.span span (trees_of (plain_each ts)))); free = places_shown free }) (sym (plain-free ts))
    ∙ ap (λ parts. built_shown (grammar.detailed says (grammar.named_node k id.name id.place.span span parts))) (sym (append-nil (plain_each ts)))
  where
    alone : Option Tall → Built
    alone tall = record { tall = tall; free = [] }

value-declared : (found : derived.Found) (w : ValueWord) (id : Id) (p : Place) (t : types.State) (type : WrittenType) → type_of t ≡ Some type
    → spec.value_declared (mods_shown found.mods) (value_shown w id NoType) (type_shown.shown t) (span_of (dcl_tokens (ValueDcl w id p type))).end
    ≡ built_shown (dcl_built (mods_of (read_mods found)) (ValueDcl w id p type))
value-declared found w id p t type e =
    ap (λ kid. tree_with (mods_shown found.mods).modifiers (heads.kind_of (mods_shown found.mods) (is_var w)) (spans.from_to (word_start w) end) (joined (kept_all []) kid)) (type-read-shown t type e)
    ∙ ap (tree_with (mods_shown found.mods).modifiers (heads.kind_of (mods_shown found.mods) (is_var w)) (spans.from_to (word_start w) end)) (joined-kept [] (type_tree type))
    ∙ ap (λ ms. tree_with ms (heads.kind_of (mods_shown found.mods) (is_var w)) (spans.from_to (word_start w) end) (kept_all (type_tree type ∷ []))) (modifiers-shown found)
    ∙ ap (λ k. tree_with (member_modifiers mods) k (spans.from_to (word_start w) end) (kept_all (type_tree type ∷ []))) (value-kind found w)
    ∙ ap (λ span. tree_with (member_modifiers mods) (value_kind mods w) span (kept_all (type_tree type ∷ []))) (place w)
    ∙ with-kids (says (member_modifiers mods)) (value_kind mods w) id (span_of (dcl_tokens (ValueDcl w id p type))) (type_tree type ∷ [])
  where
    mods : Mods
    mods = mods_of (read_mods found)

    end : ℕ
    end = (span_of (dcl_tokens (ValueDcl w id p type))).end

    says : Modifiers → Detail
    says ms = detail.Value (record { modifiers = ms; has_type = true; has_right_side = false })

    tree_with : Modifiers → TreeKind → Span → Option Kids → Built
    tree_with ms k span kids = record { tall = detailed (says ms) (node k id.name id.place.span span kids); free = [] }

    place : (v : ValueWord) → spans.from_to (word_start v) (span_of (dcl_tokens (ValueDcl v id p type))).end ≡ span_of (dcl_tokens (ValueDcl v id p type))
    place (Val q) = refl
    place (Var q) = refl

abbrev declared : derived.Signature → TypePart → Dcl
declared m type = MethodDcl m.word m.id m.tparams (ordered m.lists []) type

-- with the trees of its head
method-declared : (found : derived.Found) (m : derived.Signature) (type : TypePart) → CountsFit m.tparams (ordered m.lists [])
    → record {
      tall = detailed (detail.Method (record {
        modifiers = (mods_shown found.mods).modifiers;
        type_params = (method_shown m).type_params;
        param_lists = (method_shown m).param_lists;
        has_type = has_type type;
        right_side = right_side.Missing;
      })) (node kind.DefDef m.id.name m.id.place.span (spans.from_to m.word.span.start (span_of (dcl_tokens (declared m type))).end) (kept_all (head_trees m type)));
      free = [];
    } ≡ built_shown (dcl_built (mods_of (read_mods found)) (declared m type))
method-declared found m type fit =
    ap (λ d. tree_with d (head_trees m type)) (method-detail found m type right_side.Missing fit)
    ∙ ap (tree_with (method_detail found m type right_side.Missing)) (head-trees m type)
    ∙ with-kids (method_detail found m type right_side.Missing) kind.DefDef m.id (span_of (dcl_tokens (declared m type)))
    (tparams_trees m.tparams ++ par_lists_trees (ordered m.lists []) ++ type_part_trees type)
  where
    tree_with : Detail → List Tree → Built
    tree_with d ts = record { tall = detailed d (node kind.DefDef m.id.name m.id.place.span (span_of (dcl_tokens (declared m type))) (kept_all ts)); free = [] }

abbrev DclCounts : Dcl → Type 0
DclCounts (ValueDcl w id p type) = Unit {0}
DclCounts (MethodDcl word id ts lists type) = CountsFit ts lists

dcl-counts : (m : ReadMods) (d : Dcl) → length (items_tokens (mods_items m ++ tokens (dcl_tokens d))) ≤ max_number → DclCounts d
dcl-counts m (ValueDcl w id p type) e = tt
dcl-counts m (MethodDcl word id ts lists type) e =
    (let own = behind-some (mods_items m) (tokens (dcl_tokens (MethodDcl word id ts lists type))) max_number e in
    let there = ap length (tokens-there (method_tokens word id ts lists ++ type_part_tokens type)) in
    let both = length-append (method_tokens word id ts lists) (type_part_tokens type) in
    head-fits word id ts lists (omega (arith, own, there, both)))

abbrev TreeOf : derived.Found → derived.Tail → Dcl → Type 0
TreeOf found t d = spec.declared_at (tail_shown found t) (mods_shown found.mods) (span_of (dcl_tokens d)).end ≡ built_shown (dcl_built (mods_of (read_mods found)) d)

declaration-shown : (found : derived.Found) (t : derived.Tail) (d : Dcl) → DclCounts d → dcl_at t ≡ Some d → TreeOf found t d
declaration-shown found t d fit e = go t e where
  value : (w : ValueWord) (id : Id) (p : Place) (u : types.State) (o : Option WrittenType) → type_of u ≡ o → value_dcl w id p o ≡ Some d → TreeOf found (derived.InValueType w id p u) d
  value w id p u None f h = cc
  value w id p u (Some type) f h = (let same : ValueDcl w id p type ≡ d = cc in subst (TreeOf found (derived.InValueType w id p u)) same (value-declared found w id p u type f))

  result : (m : derived.Signature) (p : Place) (u : types.State) (o : Option WrittenType) → type_of u ≡ o → method_dcl m p o ≡ Some d → TreeOf found (derived.InResult m p u) d
  result m p u None f h = cc
  result m p u (Some type) f h = (let same : declared m (OfType p type) ≡ d = cc in
      subst (TreeOf found (derived.InResult m p u)) same
      (ap (λ kid. with_kids (joined (kept_all (head_trees m NoType)) kid)) (type-read-shown u type f)
      ∙ ap with_kids (joined-kept (head_trees m NoType) (type_tree type)) ∙ method-declared found m (OfType p type) (subst DclCounts (sym same) fit)))
    where
      with_kids : Option Kids → Built
      with_kids kids = record {
        tall = detailed (detail.Method (record {
          modifiers = (mods_shown found.mods).modifiers;
          type_params = (method_shown m).type_params;
          param_lists = (method_shown m).param_lists;
          has_type = true;
          right_side = right_side.Missing;
        })) (node kind.DefDef m.id.name m.id.place.span (spans.from_to m.word.span.start (span_of (dcl_tokens (declared m (OfType p type)))).end) kids);
        free = [];
      }

  go : (s : derived.Tail) → dcl_at s ≡ Some d → TreeOf found s d
  go (derived.InValueType w id p u) h = value w id p u (type_of u) refl h
  go (derived.InResult m p u) h = result m p u (type_of u) refl h
  go (derived.AtMethod m) h = (let same : declared m NoType ≡ d = cc in subst (TreeOf found (derived.AtMethod m)) same (method-declared found m NoType (subst DclCounts (sym same) fit)))
  go _ h = cc

-- ---- where one ends

declaration-whole : (s : derived.State) → spec.is_declaration (shown s) ≡ is_some (dcl_at s.tail)
declaration-whole s = go s.tail where
  value : (w : ValueWord) (id : Id) (p : Place) (o : Option WrittenType) → is_some o ≡ is_some (value_dcl w id p o)
  value w id p None = refl
  value w id p (Some type) = refl

  result : (m : derived.Signature) (p : Place) (o : Option WrittenType) → is_some o ≡ is_some (method_dcl m p o)
  result m p None = refl
  result m p (Some type) = refl

  go : (t : derived.Tail) → spec.is_declaration_at (tail_shown s.found t) ≡ is_some (dcl_at t)
  go (derived.InValueType w id p t) = type-whole t ∙ value w id p (type_of t)
  go (derived.InResult m p t) = type-whole t ∙ result m p (type_of t)
  go (derived.AtMethod m) = refl
  go _ = refl

module _ (rule : Rule) where
  dcl-of : (is : List (ReadDefItem rule)) (a : AreOfDeclaration rule is) → DclRead a.mods a.dcl
  dcl-of is a =
      dcl-read a.mods a.dcl a.proper_mods
      (annotations-allowed a.mods.annotations (front-allowed (annotations_items a.mods.annotations) (tokens (mod_list_tokens a.mods.mods))
      (front-allowed (mods_items a.mods) (tokens (dcl_tokens a.dcl)) (subst Allowed a.items (items-allowed rule is)))))
      a.proper

  dcl-runs : (is : List (ReadDefItem rule)) (a : AreOfDeclaration rule is) → run step (def_items_of rule is) begun ≡ Some (dcl-of is a).end
  dcl-runs is a = ap (λ js. run step js begun) (a.items ∙ sym (append-nil (mods_items a.mods ++ tokens (dcl_tokens a.dcl)))) ∙ (dcl-of is a).leads.runs []

  -- the reader behind the items of a declaration
  abbrev there : (is : List (ReadDefItem rule)) → AreOfDeclaration rule is → InLines ReaderState
  there is a = record { ended = ended_by true (items_tokens (def_items_of rule is)); state = shown (dcl-of is a).end }

  reader-runs : (is : List (ReadDefItem rule)) (a : AreOfDeclaration rule is) → run (definitions_in_lines rule).step is (definitions_in_lines rule).start ≡ Some (there is a)
  reader-runs is a =
      lined-run rule is true definitions.begun a.newlines
      ∙ ap (lined (ended_by true (items_tokens (def_items_of rule is)))) (run-same rule is begun (begun-defs rule) ∙ ap (option_map shown) (dcl-runs is a))

  pub dcl-complete : (is : List (ReadDefItem rule)) → AreOfDeclaration rule is
      → (s : InLines ReaderState) × (run (definitions_in_lines rule).step is (definitions_in_lines rule).start ≡ Some s) × (spec.is_declaration s.state ≡ true)
  dcl-complete is a = (there is a, reader-runs is a, declaration-whole (dcl-of is a).end ∙ ap is_some (dcl-of is a).ends)

  pub one-dcl : (is : List (ReadDefItem rule)) (a b : AreOfDeclaration rule is) → SameDcl a.mods b.mods a.dcl b.dcl
  one-dcl is a b = one-declaration a.mods b.mods a.dcl b.dcl (dcl-of is a) (dcl-of is b) (sym a.items ∙ b.items)

  pub dcl-tree : (is : List (ReadDefItem rule)) (a : AreOfDeclaration rule is) (s : InLines ReaderState) → length (items_tokens (def_items_of rule is)) ≤ max_number
      → run (definitions_in_lines rule).step is (definitions_in_lines rule).start ≡ Some s → spec.declaration_at s.state (span_of (dcl_tokens a.dcl)).end ≡ built_shown (dcl_built (mods_of a.mods) a.dcl)
  dcl-tree is a s c e =
      let r = dcl-of is a in
      let ends : Some s ≡ Some (there is a) = sym e ∙ reader-runs is a in
      let same : s ≡ there is a = cc in
      ap (λ t. spec.declaration_at t.state (span_of (dcl_tokens a.dcl)).end) same
      ∙ declaration-shown r.end.found r.end.tail a.dcl (dcl-counts a.mods a.dcl (subst (λ js. length (items_tokens js) ≤ max_number) a.items c)) r.ends
      ∙ ap (λ m. built_shown (dcl_built (mods_of m) a.dcl)) r.mods

  pub dcl-sound : (is : List (ReadDefItem rule)) (t : InLines ReaderState) → run (definitions_in_lines rule).step is (definitions_in_lines rule).start ≡ Some t → spec.is_declaration t.state ≡ true → AreOfDeclaration rule is
  dcl-sound is t r w =
      (let back = lined-back rule is true definitions.begun t r in
      let b = behind rule is t.state back.runs in
      go b.there b.runs b.good (dcl_at b.there.tail) refl (sym (declaration-whole b.there) ∙ ap spec.is_declaration b.same ∙ w) back.newlines)
    where
      go : (s : derived.State) → run step (def_items_of rule is) begun ≡ Some s → GoodDefs rule (Some s) → (o : Option Dcl) → dcl_at s.tail ≡ o → is_some o ≡ true → NewlinesEnd (items_tokens (def_items_of rule is)) → AreOfDeclaration rule is
      go s q g None e f n = cc
      go s q g (Some d) e f n =
          (let p = ended-dcl rule s d g e in
          record { mods = read_mods s.found; dcl = d; proper_mods = p.mods; proper = p.dcl; items = read-declaration (def_items_of rule is) s d q e; newlines = n })
