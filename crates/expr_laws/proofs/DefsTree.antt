-- Where the machine has read a definition, the reader has its tree, as far as this is kept.
use Rattle.std.proofs.Common.{◌≡◌, ℕ, ◌≤◌, Bool, true, false, ◌||◌, if◌then◌else◌, List, [], ◌∷◌, ◌++◌, length, All, Option, Some, None, refl, ap, sym, ◌∙◌, append_assoc, append-nil, subst, arith}
use Rattle.std.proofs.lemmas.List.Elements.{All-head, All-tail}
use Rattle.std.specs.List.{list_any}
use Rattle.pc_terms.specs.declared.problems.Span.{Span}
use Rattle.pc_terms.specs.declared.tree_kinds.TreeKind.{TreeKind}
use Rattle.pc_terms.specs.declared.tree_kinds.TreeKind.TheVariants as kind
use Rattle.positioned_trees.specs.declared.details.Access.{Access}
use Rattle.positioned_trees.specs.declared.details.Access.TheVariants as access
use Rattle.positioned_trees.specs.declared.details.Detail.{Detail}
use Rattle.positioned_trees.specs.declared.details.Detail.TheVariants as detail
use Rattle.positioned_trees.specs.declared.details.Modifiers.{Modifiers}
use Rattle.positioned_trees.specs.declared.details.RightSide.{RightSide}
use Rattle.positioned_trees.specs.declared.details.RightSide.TheVariants as right_side
use Rattle.positioned_trees.specs.declared.trees.Tree.{Tree}
use Rattle.positioned_trees.specs.Trees.{max_number}
use Rattle.source_grammar.specs.Definitions.{Mod, Mods, Abstract, Final, Sealed, Lazy, Override, CaseMod, Private, Protected, TypePart, NoType, OfType, ParList, items, TParams, tparams_tokens, par_lists_tokens, type_part_tokens}
use Rattle.source_grammar.specs.DefinitionTrees.{qualified, access_in, is_final, is_lazy, is_override, member_modifiers, has_type, type_part_trees, par_list_trees, par_lists_trees, par_counts, tparams_trees}
use Rattle.source_grammar.specs.Expressions.{ValueWord, Val, Var, Expr, Block, Def, ValueDef, MethodDef, ProcedureDef, AliasDef}
use Rattle.source_grammar.specs.ExpressionTokens.{expr_tokens, block_tokens, def_tokens}
use Rattle.source_grammar.specs.ExpressionTrees.{value_kind, method_built, expr_built, block_built, def_built}
use Rattle.source_grammar.specs.Lexemes.{Place, Lexeme, equals, open_curly, close_curly, Id}
use Rattle.source_grammar.specs.Placeholders as grammar
use Rattle.source_grammar.specs.Placeholders.{no_modifiers, plain_each, trees_of, free_of}
use Rattle.source_grammar.specs.Spans.{from_to, end_behind, span_of, labelled, with_detail}
use Rattle.source_grammar.specs.Types.{WrittenType, type_tree, type_tokens}
use Rattle.parse_parts.proofs.Derived as types
use Rattle.parse_parts.proofs.Kept.{kept, kept_all, joined-kept, alone-kept, node-kept}
use Rattle.parse_parts.proofs.Shown as type_shown
use Rattle.parse_parts.proofs.Shown.{end_of, end-behind}
use Rattle.parse_parts.specs.declared.built.Tall.{Tall}
use Rattle.parse_parts.specs.Built.{joined, alone, node}
use Rattle.parse_parts.specs.Steps.{tail_end}
use Rattle.parse_parts.specs.Steps as spans
use Rattle.parse_patterns.proofs.Chains.{span-end}
use Rattle.tree_lower.specs.Keeping.{name_of, places_shown}
use Rattle.tree_lower.specs.Lowering.{detailed}
use Rattle.tree_lower.proofs.KeptTrees.{detailed-kept}
use Rattle.expr_tails.specs.declared.items.Built.{Built}
use Rattle.expr_tails.specs.Ending.{expr_at}
use Rattle.expr_tails.specs.Tails.{ready}
use Rattle.expr_tails.specs.Types.{type_of as tall_of}
use Rattle.def_steps.specs.declared.states.Found.{Found}
use Rattle.def_steps.specs.Definitions as definitions
use Rattle.def_steps.specs.Heads as heads
use Rattle.def_steps.specs.Modifiers.{nothing_found}
use Rattle.expr_laws.proofs.Agreeing.{or-false}
use Rattle.expr_laws.proofs.Beginning.{end-of}
use Rattle.expr_laws.proofs.DefsDerived as derived
use Rattle.expr_laws.proofs.DefsDerived.{ordered, mods_of, read_mods, def_at, value_def, method_def, alias_def, whole_expr, whole_in}
use Rattle.expr_laws.proofs.DefsGood.{Ran, GoodDefs, GoodTail}
use Rattle.expr_laws.proofs.DefsShown.{mod_shown, mods_shown, is_var, word_start, value_shown, counted, lists_trees, lists_counts, signature_trees, typed_method_shown, tail_shown, shown}
use Rattle.expr_laws.proofs.DefsStepSame.{ran-stands}
use Rattle.expr_laws.proofs.Derived as exprs
use Rattle.expr_laws.proofs.Derived.{type_of, ended_expr}
use Rattle.expr_laws.proofs.Headed.{expr-begins, places-behind, plain-free}
use Rattle.expr_laws.proofs.Innermost.{expr-there, type-read-shown, type-read-end}
use Rattle.expr_laws.proofs.Shown as expr_shown
use Rattle.expr_laws.proofs.Shown.{built_shown, expr_piece, free_in}
use Rattle.source_grammar.specs.ExpressionRules.{Rule}

-- ---- modifiers

found_with : Modifiers → Bool → Bool → Bool → Found
found_with m l h a = record { modifiers = m; is_lazy = l; has_access = h; any = a }

-- modifiers in their order
abbrev onto : Found → List Mod → Found
onto f [] = f
onto f (m ∷ ms) = onto (mod_shown m f) ms

in-order : (ms rest : List Mod) → onto nothing_found (ordered ms rest) ≡ onto (mods_shown ms) rest
in-order [] rest = refl
in-order (m ∷ ms) rest = in-order ms (m ∷ rest)

abbrev access_or : Access → List Mod → Access
access_or a [] = a
access_or a (Private p q ∷ ms) = qualified q access.Private
access_or a (Protected p q ∷ ms) = qualified q access.Protected
access_or a (_ ∷ ms) = access_or a ms

access-first : (ms : List Mod) → access_or access.Public ms ≡ access_in ms
access-first [] = refl
access-first (Private p q ∷ ms) = refl
access-first (Protected p q ∷ ms) = refl
access-first (_ ∷ ms) = access-first ms

abbrev said : Modifiers → Bool → List Mod → Modifiers
said m h ms = record m {
  final_ = m.final_ || list_any is_final ms;
  override_ = m.override_ || list_any is_override ms;
  access = if h then m.access else access_or m.access ms;
}

or-true : (b c : Bool) → (b || true) ≡ true
or-true true c = refl
or-true false c = refl

same-if : (h : Bool) (a : Access) → (if h then a else a) ≡ a
same-if true a = refl
same-if false a = refl

said-none : (m : Modifiers) (h : Bool) → m ≡ said m h []
said-none m h =
    ap (λ a. record m { access = a }) (sym (same-if h m.access)) ∙ ap (λ b. record m { final_ = b; access = if h then m.access else m.access }) (sym (or-false m.final_))
    ∙ ap (λ b. record m { final_ = m.final_ || false; override_ = b; access = if h then m.access else m.access }) (sym (or-false m.override_))

onto-said : (ms : List Mod) (m : Modifiers) (l h a : Bool) → (onto (found_with m l h a) ms).modifiers ≡ said m h ms
unfolding found_with
onto-said [] m l h a = said-none m h
onto-said (Abstract p ∷ ms) m l h a = onto-said ms m l h true
onto-said (Final p ∷ ms) m l h a = onto-said ms (record m { final_ = true }) l h true ∙ ap (λ b. record (said m h ms) { final_ = b }) (sym (or-true m.final_ true))
onto-said (Sealed p ∷ ms) m l h a = onto-said ms m l h true
onto-said (Lazy p ∷ ms) m l h a = onto-said ms m true h true
onto-said (Override p ∷ ms) m l h a = onto-said ms (record m { override_ = true }) l h true ∙ ap (λ b. record (said m h ms) { override_ = b }) (sym (or-true m.override_ true))
onto-said (CaseMod p ∷ ms) m l h a = onto-said ms m l h true
onto-said (Private p q ∷ ms) m l true a = onto-said ms m l true a
onto-said (Private p q ∷ ms) m l false a = onto-said ms (record m { access = qualified q access.Private }) l true true
onto-said (Protected p q ∷ ms) m l true a = onto-said ms m l true a
onto-said (Protected p q ∷ ms) m l false a = onto-said ms (record m { access = qualified q access.Protected }) l true true

onto-lazy : (ms : List Mod) (m : Modifiers) (l h a : Bool) → (onto (found_with m l h a) ms).is_lazy ≡ (l || list_any is_lazy ms)
unfolding found_with
onto-lazy [] m l h a = sym (or-false l)
onto-lazy (Abstract p ∷ ms) m l h a = onto-lazy ms m l h true
onto-lazy (Final p ∷ ms) m l h a = onto-lazy ms (record m { final_ = true }) l h true
onto-lazy (Sealed p ∷ ms) m l h a = onto-lazy ms m l h true
onto-lazy (Lazy p ∷ ms) m l h a = onto-lazy ms m true h true ∙ sym (or-true l true)
onto-lazy (Override p ∷ ms) m l h a = onto-lazy ms (record m { override_ = true }) l h true
onto-lazy (CaseMod p ∷ ms) m l h a = onto-lazy ms m l h true
onto-lazy (Private p q ∷ ms) m l true a = onto-lazy ms m l true a
onto-lazy (Private p q ∷ ms) m l false a = onto-lazy ms (record m { access = qualified q access.Private }) l true true
onto-lazy (Protected p q ∷ ms) m l true a = onto-lazy ms m l true a
onto-lazy (Protected p q ∷ ms) m l false a = onto-lazy ms (record m { access = qualified q access.Protected }) l true true

pub modifiers-shown : (found : derived.Found) → (mods_shown found.mods).modifiers ≡ member_modifiers (mods_of (read_mods found))
unfolding found_with
modifiers-shown found =
    let ms : List Mod = ordered found.mods [] in
    ap (λ f. f.modifiers) (sym (in-order found.mods [])) ∙ onto-said ms no_modifiers false false false
    ∙ ap (λ a. record (said no_modifiers false ms) { access = a }) (access-first ms)

pub lazy-shown : (found : derived.Found) → (mods_shown found.mods).is_lazy ≡ list_any is_lazy (ordered found.mods [])
unfolding found_with
lazy-shown found = ap (λ f. f.is_lazy) (sym (in-order found.mods [])) ∙ onto-lazy (ordered found.mods []) no_modifiers false false false

-- ---- trees and spans

ends-append : (end : ℕ) (xs ys : List Lexeme) → end_behind end (xs ++ ys) ≡ end_behind (end_behind end xs) ys
ends-append end [] ys = refl
ends-append end (x ∷ xs) ys = ends-append x.place.span.end xs ys

-- where an expression ends
expr-ends : (end : ℕ) (e : Expr) → end_behind end (expr_tokens e) ≡ (span_of (expr_tokens e)).end
expr-ends end e = end-of end (expr_tokens e) (expr-begins e) ∙ sym (span-end (expr_tokens e))

-- a tree whose last kid is built of a part
pub with-last : (says : Detail) (k : TreeKind) (id : Id) (span : Span) (ts : List Tree) (last : grammar.Built)
    → record { tall = detailed says (node k id.name id.place.span span (joined (kept_all ts) (kept last.tree))); free = places_shown last.free }
    ≡ built_shown (grammar.detailed says (grammar.named_node k id.name id.place.span span (plain_each ts ++ last ∷ [])))
with-last says k id span ts last =
    ap (λ kids. with_free (detailed says (node k id.name id.place.span span kids))) (joined-kept ts last.tree)
    ∙ ap (λ tall. with_free (detailed says tall)) (node-kept k id.name id.place.span span (ts ++ last.tree ∷ []))
    ∙ ap with_free (detailed-kept says (labelled k id.name id.place.span span (ts ++ last.tree ∷ [])))
    ∙ ap (λ kids. with_free (kept (with_detail says (labelled k id.name id.place.span span kids)))) (sym (trees-last ts))
    ∙ ap (λ free. record { tall = kept (with_detail says (labelled k id.name id.place.span span (trees_of (plain_each ts ++ last ∷ [])))); free = free }) (sym free-last)
  where
    with_free : Option Tall → Built
    with_free tall = record { tall = tall; free = places_shown last.free }

    trees-last : (us : List Tree) → trees_of (plain_each us ++ last ∷ []) ≡ us ++ last.tree ∷ []
    trees-last [] = refl
    trees-last (u ∷ us) = ap (λ rest. u ∷ rest) (trees-last us)

    free-last : places_shown (free_of (plain_each ts ++ last ∷ [])) ≡ places_shown last.free
    free-last = places-behind (plain_each ts) last ∙ ap (λ free. places_shown free ++ free_in last) (plain-free ts)

-- ---- values

pub value-kind : (found : derived.Found) (w : ValueWord) → heads.kind_of (mods_shown found.mods) (is_var w) ≡ value_kind (mods_of (read_mods found)) w
value-kind found (Val p) = ap (λ b. if b then kind.LazyDef else kind.ValDef) (lazy-shown found)
value-kind found (Var p) = refl

value-span : (w : ValueWord) (id : Id) (type : TypePart) (sign : Place) (e : Expr)
    → spans.from_to (word_start w) (span_of (expr_tokens e)).end ≡ span_of (def_tokens (ValueDef w id type sign e))
value-span w id type sign e =
    ap (λ n. spans.from_to (word_start w) n)
    (sym (ends-append id.place.span.end (type_part_tokens type) (equals sign ∷ expr_tokens e) ∙ expr-ends sign.span.end e))
    ∙ go w
  where
    end : ℕ
    end = end_behind id.place.span.end (type_part_tokens type ++ equals sign ∷ expr_tokens e)

    go : (v : ValueWord) → spans.from_to (word_start v) end ≡ span_of (def_tokens (ValueDef v id type sign e))
    go (Val p) = refl
    go (Var p) = refl

value-tree : (found : derived.Found) (w : ValueWord) (id : Id) (type : TypePart) (sign : Place) (e : Expr)
    → heads.value_at (mods_shown found.mods) (value_shown w id type) (ready (expr_piece e) (free_in (expr_built e))) ≡ built_shown (def_built (mods_of (read_mods found)) (ValueDef w id type sign e))
value-tree found w id type sign e =
    ap (λ ms. tree_with ms (heads.kind_of (mods_shown found.mods) (is_var w)) (spans.from_to (word_start w) (span_of (expr_tokens e)).end)) (modifiers-shown found)
    ∙ ap (λ k. tree_with (member_modifiers mods) k (spans.from_to (word_start w) (span_of (expr_tokens e)).end)) (value-kind found w)
    ∙ ap (tree_with (member_modifiers mods) (value_kind mods w)) (value-span w id type sign e)
    ∙ with-last (says (member_modifiers mods)) (value_kind mods w) id (span_of (def_tokens (ValueDef w id type sign e))) (type_part_trees type) (expr_built e)
  where
    mods : Mods
    mods = mods_of (read_mods found)

    says : Modifiers → Detail
    says ms = detail.Value (record { modifiers = ms; has_type = has_type type; has_right_side = true })

    tree_with : Modifiers → TreeKind → Span → Built
    tree_with ms k span = record {
      tall = detailed (says ms) (node k id.name id.place.span span (joined (kept_all (type_part_trees type)) (kept (expr_built e).tree)));
      free = free_in (expr_built e);
    }

-- ---- methods

counted-is : (n : ℕ) → n ≤ max_number → counted n ≡ n
counted-is n e = omega (arith, e)

-- no more type parameters, and no more parameters in a list, than a tree can say
abbrev pub CountsFit : TParams → List ParList → Type 0
CountsFit tparams lists = (length (tparams_trees tparams) ≤ max_number) × All (λ n. n ≤ max_number) (par_counts lists)

abbrev pub CanCount : Def → Type 0
CanCount (MethodDef word id tparams lists type sign right) = CountsFit tparams lists
CanCount (ProcedureDef word id tparams lists o block k) = CountsFit tparams lists
CanCount _ = Unit {0}

lists-in-order : (ls rest : List ParList) → par_lists_trees (ordered ls rest) ≡ lists_trees ls ++ par_lists_trees rest
lists-in-order [] rest = refl
lists-in-order (l ∷ ls) rest = lists-in-order ls (l ∷ rest) ∙ sym (append_assoc (lists_trees ls) (par_list_trees l) (par_lists_trees rest))

-- what fits of all lists fits of the last ones
last-fit : (ls rest : List ParList) → All (λ n. n ≤ max_number) (par_counts (ordered ls rest)) → All (λ n. n ≤ max_number) (par_counts rest)
last-fit [] rest a = a
last-fit (l ∷ ls) rest a = All-tail (λ n. n ≤ max_number) (length (items l.pars)) (par_counts rest) (last-fit ls (l ∷ rest) a)

counts-in-order : (ls rest : List ParList) → All (λ n. n ≤ max_number) (par_counts (ordered ls rest)) → lists_counts ls ++ par_counts rest ≡ par_counts (ordered ls rest)
counts-in-order [] rest a = refl
counts-in-order (l ∷ ls) rest a =
    append_assoc (lists_counts ls) (counted (length (items l.pars)) ∷ []) (par_counts rest)
    ∙ ap (λ n. lists_counts ls ++ n ∷ par_counts rest) (counted-is (length (items l.pars)) (All-head (λ n. n ≤ max_number) (length (items l.pars)) (par_counts rest) (last-fit ls (l ∷ rest) a)))
    ∙ counts-in-order ls (l ∷ rest) a

-- the trees in the head of a method
abbrev pub head_trees : derived.Signature → TypePart → List Tree
head_trees m NoType = signature_trees m
head_trees m (OfType p type) = signature_trees m ++ type_tree type ∷ []

pub head-trees : (m : derived.Signature) (type : TypePart) → head_trees m type ≡ tparams_trees m.tparams ++ par_lists_trees (ordered m.lists []) ++ type_part_trees type
head-trees m type = go type where
  lists : lists_trees m.lists ≡ par_lists_trees (ordered m.lists [])
  lists = sym (append-nil (lists_trees m.lists)) ∙ sym (lists-in-order m.lists [])

  go : (t : TypePart) → head_trees m t ≡ tparams_trees m.tparams ++ par_lists_trees (ordered m.lists []) ++ type_part_trees t
  go NoType = ap (λ ts. tparams_trees m.tparams ++ ts) lists ∙ sym (append-nil (tparams_trees m.tparams ++ par_lists_trees (ordered m.lists [])))
  go (OfType p written) = ap (λ ts. tparams_trees m.tparams ++ ts ++ type_tree written ∷ []) lists

-- the head of a method, as the tree of the method says it
abbrev pub method_detail : derived.Found → derived.Signature → TypePart → RightSide → Detail
method_detail found m type side = detail.Method (record {
  modifiers = member_modifiers (mods_of (read_mods found));
  type_params = length (tparams_trees m.tparams);
  param_lists = par_counts (ordered m.lists []);
  has_type = has_type type;
  right_side = side;
})

pub method-detail : (found : derived.Found) (m : derived.Signature) (type : TypePart) (side : RightSide) → CountsFit m.tparams (ordered m.lists [])
    → detail.Method (record {
      modifiers = (mods_shown found.mods).modifiers;
      type_params = counted (length (tparams_trees m.tparams));
      param_lists = lists_counts m.lists;
      has_type = has_type type;
      right_side = side;
    }) ≡ method_detail found m type side
method-detail found m type side fit =
    ap (λ ms. says ms (counted (length (tparams_trees m.tparams))) (lists_counts m.lists)) (modifiers-shown found)
    ∙ ap (λ n. says (member_modifiers (mods_of (read_mods found))) n (lists_counts m.lists)) (counted-is (length (tparams_trees m.tparams)) fit.0)
    ∙ ap (says (member_modifiers (mods_of (read_mods found))) (length (tparams_trees m.tparams))) (sym (append-nil (lists_counts m.lists)) ∙ counts-in-order m.lists [] fit.1)
  where
    says : Modifiers → ℕ → List ℕ → Detail
    says ms n counts = detail.Method (record { modifiers = ms; type_params = n; param_lists = counts; has_type = has_type type; right_side = side })

-- The tree of a method whose last kid is built of this part. Its place is that of its tokens.
method-tree : (found : derived.Found) (m : derived.Signature) (type : TypePart) (side : RightSide) (end : ℕ) (tokens : List Lexeme) (last : grammar.Built) → CountsFit m.tparams (ordered m.lists [])
    → spans.from_to m.word.span.start end ≡ span_of tokens
    → record { tall = heads.method_tree (mods_shown found.mods) (typed_method_shown m type) end (kept last.tree) side; free = places_shown last.free }
    ≡ built_shown (method_built (mods_of (read_mods found)) m.id m.tparams (ordered m.lists []) type tokens (last ∷ []) side)
method-tree found m type side end tokens last fit s =
    typed type
    ∙ ap (λ d. tree_with d (spans.from_to m.word.span.start end) (head_trees m type)) (method-detail found m type side fit)
    ∙ ap (λ p. tree_with (method_detail found m type side) p (head_trees m type)) s
    ∙ ap (tree_with (method_detail found m type side) (span_of tokens)) (head-trees m type)
    ∙ with-last (method_detail found m type side) kind.DefDef m.id (span_of tokens) (tparams_trees m.tparams ++ par_lists_trees (ordered m.lists []) ++ type_part_trees type) last
  where
    tree_with : Detail → Span → List Tree → Built
    tree_with d span ts = record { tall = detailed d (node kind.DefDef m.id.name m.id.place.span span (joined (kept_all ts) (kept last.tree))); free = places_shown last.free }

    typed : (t : TypePart) → record { tall = heads.method_tree (mods_shown found.mods) (typed_method_shown m t) end (kept last.tree) side; free = places_shown last.free }
        ≡ tree_with (detail.Method (record {
          modifiers = (mods_shown found.mods).modifiers;
          type_params = counted (length (tparams_trees m.tparams));
          param_lists = lists_counts m.lists;
          has_type = has_type t;
          right_side = side;
        })) (spans.from_to m.word.span.start end) (head_trees m t)
    typed NoType = refl
    typed (OfType p ty) = refl

method-span : (m : derived.Signature) (type : TypePart) (sign : Place) (e : Expr)
    → spans.from_to m.word.span.start (span_of (expr_tokens e)).end ≡ span_of (def_tokens (MethodDef m.word m.id m.tparams (ordered m.lists []) type sign e))
method-span m type sign e =
    ap (λ n. spans.from_to m.word.span.start n)
    (sym (ends-append m.id.place.span.end (tparams_tokens m.tparams ++ par_lists_tokens (ordered m.lists []) ++ type_part_tokens type) (equals sign ∷ expr_tokens e) ∙ expr-ends sign.span.end e))

procedure-span : (m : derived.Signature) (o : Place) (block : Block) (k : Place)
    → spans.from_to m.word.span.start k.span.end ≡ span_of (def_tokens (ProcedureDef m.word m.id m.tparams (ordered m.lists []) o block k))
procedure-span m o block k =
    ap (λ n. spans.from_to m.word.span.start n)
    (sym (ends-append m.id.place.span.end (tparams_tokens m.tparams ++ par_lists_tokens (ordered m.lists [])) (open_curly o ∷ (block_tokens block ++ close_curly k ∷ []))
    ∙ ends-append o.span.end (block_tokens block) (close_curly k ∷ [])))

-- ---- aliases

alias-tree : (found : derived.Found) (p : Place) (id : Id) (sign : Place) (t : types.State) (type : WrittenType) → type_of t ≡ Some type
    → heads.alias_at (mods_shown found.mods) p.span.start (name_of id) (type_shown.shown t) ≡ built_shown (def_built (mods_of (read_mods found)) (AliasDef p id sign type))
alias-tree found p id sign t type e =
    ap (λ ms. tree_with ms (tail_end (type_shown.tail_shown t.tail)) (tall_of (type_shown.shown t))) (modifiers-shown found)
    ∙ ap (λ n. tree_with ms n (tall_of (type_shown.shown t))) (sym (type-read-end sign.span.end t type e))
    ∙ ap (tree_with ms (end_behind sign.span.end (type_tokens type))) (type-read-shown t type e)
    ∙ ap (λ kids. alone_with (detailed (detail.Alias ms) (node kind.AliasDef id.name id.place.span span kids))) (alone-kept (type_tree type))
    ∙ ap (λ tall. alone_with (detailed (detail.Alias ms) tall)) (node-kept kind.AliasDef id.name id.place.span span (type_tree type ∷ []))
    ∙ ap alone_with (detailed-kept (detail.Alias ms) (labelled kind.AliasDef id.name id.place.span span (type_tree type ∷ [])))
  where
    ms : Modifiers
    ms = member_modifiers (mods_of (read_mods found))

    span : Span
    span = span_of (def_tokens (AliasDef p id sign type))

    alone_with : Option Tall → Built
    alone_with tall = record { tall = tall; free = [] }

    tree_with : Modifiers → ℕ → Option Tall → Built
    tree_with m end kid = alone_with (detailed (detail.Alias m) (node kind.AliasDef id.name id.place.span (spans.from_to p.span.start end) (alone kid)))

-- ---- any definition

abbrev TreeOf : derived.Found → derived.Tail → Def → Type 0
TreeOf found t d = definitions.definition_of (tail_shown found t) (mods_shown found.mods) ≡ built_shown (def_built (mods_of (read_mods found)) d)

module _ (rule : Rule) where
  -- the right side that was read
  right-there : (r : exprs.State) (e : Expr) → Ran rule r → whole_expr r ≡ Some e → expr_at (expr_shown.shown r).context ≡ ready (expr_piece e) (free_in (expr_built e))
  right-there r e k h = go r.frames h where
    go : (fs : List exprs.Frame) → whole_in fs r.context ≡ Some e → expr_at (expr_shown.shown r).context ≡ ready (expr_piece e) (free_in (expr_built e))
    go [] f = expr-there r.context e (ran-stands rule r k).context f
    go (x ∷ fs) f = cc

  pub definition-shown : (s : derived.State) (d : Def) → GoodDefs rule (Some s) → CanCount d → def_at s.tail ≡ Some d
      → definitions.definition_at (shown s) ≡ built_shown (def_built (mods_of (read_mods s.found)) d)
  definition-shown s d g fit e = go s.tail g.1 e where
    value : (w : ValueWord) (id : Id) (type : TypePart) (sign : Place) (r : exprs.State) → Ran rule r → (o : Option Expr) → whole_expr r ≡ o → value_def w id type sign o ≡ Some d → TreeOf s.found (derived.InValue w id type sign r) d
    value w id type sign r k None f h = cc
    value w id type sign r k (Some right) f h = (let same : ValueDef w id type sign right ≡ d = cc in
        ap (heads.value_at (mods_shown s.found.mods) (value_shown w id type)) (right-there r right k f) ∙ value-tree s.found w id type sign right ∙ ap (λ c. built_shown (def_built (mods_of (read_mods s.found)) c)) same)

    method : (m : derived.Signature) (type : TypePart) (sign : Place) (r : exprs.State) → Ran rule r → (o : Option Expr) → whole_expr r ≡ o → method_def m type sign o ≡ Some d → TreeOf s.found (derived.InMethod m type sign r) d
    method m type sign r k None f h = cc
    method m type sign r k (Some right) f h = (let same : MethodDef m.word m.id m.tparams (ordered m.lists []) type sign right ≡ d = cc in
        ap (heads.method_at (mods_shown s.found.mods) (typed_method_shown m type)) (right-there r right k f)
        ∙ method-tree s.found m type right_side.Value (span_of (expr_tokens right)).end (def_tokens (MethodDef m.word m.id m.tparams (ordered m.lists []) type sign right)) (expr_built right) (subst CanCount (sym same) fit) (method-span m type sign right) ∙ ap (λ c. built_shown (def_built (mods_of (read_mods s.found)) c)) same)

    alias : (p : Place) (id : Id) (sign : Place) (t : types.State) (o : Option WrittenType) → type_of t ≡ o → alias_def p id sign o ≡ Some d → TreeOf s.found (derived.InAlias p id sign t) d
    alias p id sign t None f h = cc
    alias p id sign t (Some type) f h = (let same : AliasDef p id sign type ≡ d = cc in alias-tree s.found p id sign t type f ∙ ap (λ c. built_shown (def_built (mods_of (read_mods s.found)) c)) same)

    go : (t : derived.Tail) → GoodTail rule s.found t → def_at t ≡ Some d → TreeOf s.found t d
    go (derived.InValue w id type sign r) k h = value w id type sign r k.1 (whole_expr r) refl h
    go (derived.InMethod m type sign r) k h = method m type sign r k.1 (whole_expr r) refl h
    go (derived.InAlias p id sign t) k h = alias p id sign t (type_of t) refl h
    go (derived.AtProcedure m o block c) k h = (let same : ProcedureDef m.word m.id m.tparams (ordered m.lists []) o block c ≡ d = cc in
        method-tree s.found m NoType right_side.Procedure c.span.end (def_tokens (ProcedureDef m.word m.id m.tparams (ordered m.lists []) o block c)) (block_built (from_to o.span c.span) block) (subst CanCount (sym same) fit) (procedure-span m o block c)
        ∙ ap (λ f. built_shown (def_built (mods_of (read_mods s.found)) f)) same)
    go _ k h = cc
