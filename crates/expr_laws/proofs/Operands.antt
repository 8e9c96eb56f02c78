-- The operand that ends at a tail is the Prim that was read there.
use Rattle.std.proofs.Common.{◌≡◌, ℕ, Bool, if◌then◌else◌, List, [], ◌∷◌, ◌++◌, Option, Some, None, codes, refl, ap, sym, ◌∙◌, append_assoc, append-nil}
use Rattle.pc_terms.specs.declared.problems.Span.{Span}
use Rattle.pc_terms.specs.declared.tree_kinds.TreeKind.TheVariants as kind
use Rattle.positioned_trees.specs.declared.trees.Tree.{Tree}
use Rattle.source_grammar.specs.Definitions.{NoType, OfType}
use Rattle.source_grammar.specs.Expressions.{NamedLPar, WildLPar, Prim, Placeholder, NamePrim, UnitPrim, ExprInParentheses, PairPrim, TriplePrim, NewOf, SelectHole, ApplyPrim, Args}
use Rattle.source_grammar.specs.ExpressionTokens.{lpar_tokens, expr_tokens, prim_tokens}
use Rattle.source_grammar.specs.ExpressionTrees.{ident, expr_built, prim_built, args_built}
use Rattle.source_grammar.specs.Lexemes.{Place, Lexeme, comma, open_round, close_round, Id}
use Rattle.source_grammar.specs.Placeholders as grammar
use Rattle.source_grammar.specs.Placeholders.{trees_of, free_of}
use Rattle.source_grammar.specs.Precedence.{joined}
use Rattle.source_grammar.specs.Spans.{from_to, end_behind, span_of, unlabelled as unlabelled_tree}
use Rattle.source_grammar.specs.Types.{WrittenType, type_tree}
use Rattle.parse_parts.specs.Built as built
use Rattle.parse_parts.specs.Built.{only}
use Rattle.parse_parts.specs.declared.built.Tall.{Tall}
use Rattle.parse_parts.proofs.Derived as types
use Rattle.parse_parts.proofs.Kept.{kept, kept_all, joined-kept, alone-kept, only-kept}
use Rattle.parse_parts.proofs.Shown as type_shown
use Rattle.parse_parts.proofs.Sound.{tokens_in}
use Rattle.parse_patterns.proofs.Moves.{round-span}
use Rattle.tree_lower.specs.Keeping.{name_of, places_shown}
use Rattle.tree_lower.specs.Lowering.{unlabelled, pair, appended, bound}
use Rattle.tree_lower.proofs.KeptOperations.{ident-kept, bound-kept}
use Rattle.tree_lower.proofs.KeptTrees.{unlabelled-kept, leaf-kept, pair-kept, appended-kept}
use Rattle.expr_tails.specs.declared.items.Built.{Built}
use Rattle.expr_tails.specs.declared.items.BuiltKids.{BuiltKids}
use Rattle.expr_tails.specs.declared.tails.Ready.{Ready}
use Rattle.expr_tails.specs.declared.states.NewOf.{NewOf as WrittenNew}
use Rattle.expr_tails.specs.Tails as spec
use Rattle.expr_tails.specs.Tails.{ready, element_expr, with_element, new_at, new_with_type, select_hole, in_new_at, operand_at}
use Rattle.expr_laws.proofs.Agreeing.{type-dotted}
use Rattle.expr_laws.proofs.Beginning.{places-append}
use Rattle.expr_laws.proofs.Derived as derived
use Rattle.expr_laws.proofs.NewTypes.{new-type-shown, new-dotted-shown, dotted-end, new-piece, hole-piece, hole-free}
use Rattle.expr_laws.proofs.Shown.{prim_piece, element_shown, parens_shown, tail_shown, free_in, tail_free}

-- ---- names and calls

pub name-piece : (id : Id) → spec.ident (name_of id) ≡ prim_piece (NamePrim id)
name-piece id = ap (λ t. record { tall = t; span = id.place.span }) (leaf-kept kind.Ident id.name id.place.span)

call-piece : (prim : Prim) (args : Args)
    → spec.call_at (record { span = span_of (prim_tokens (ApplyPrim prim args)); receiver = kept (prim_built prim).tree; args = kept_all (trees_of (args_built args)) })
    ≡ prim_piece (ApplyPrim prim args)
call-piece prim args =
    let span = span_of (prim_tokens (ApplyPrim prim args)) in
    let tree = (prim_built prim).tree in
    let trees = trees_of (args_built args) in
    ap (λ t. record { tall = t; span = span })
    (ap (λ k. unlabelled kind.Apply span (appended k (kept_all trees))) (alone-kept tree)
    ∙ ap (unlabelled kind.Apply span) (appended-kept (tree ∷ []) trees)
    ∙ unlabelled-kept kind.Apply span (tree ∷ trees))

-- ---- `new`

new-operand : (word : Place) (t : types.State) (d : Prim) (free : List Span) → derived.prim_at (derived.InNew word t) ≡ Some d
    → ready (in_new_at word.span.start (end_behind word.span.end (tokens_in t)) (type_shown.shown t)) (free ++ []) ≡ ready (prim_piece d) (free ++ free_in (prim_built d))
new-operand word t d free e =
    ap (λ b. ready (if b then select_hole (new_at read) end else new_at read) (free ++ [])) (type-dotted t) ∙ go (derived.dotted_of t) (derived.type_of t) refl refl e
  where
    end : ℕ
    end = end_behind word.span.end (tokens_in t)

    read : WrittenNew
    read = new_with_type word.span.start (type_shown.shown t)

    to : Prim → Ready
    to p = ready (prim_piece p) (free ++ free_in (prim_built p))

    go : (p : Option derived.Dotted) (o : Option WrittenType) → derived.dotted_of t ≡ p → derived.type_of t ≡ o → derived.dotted_prim word p o ≡ Some d
        → ready (if derived.is_some p then select_hole (new_at read) end else new_at read) (free ++ []) ≡ ready (prim_piece d) (free ++ free_in (prim_built d))
    go (Some x) o f g h =
        let same : SelectHole (NewOf word x.type) x.point ≡ d = cc in
        ap (λ n. ready (select_hole (new_at n) end) (free ++ [])) (new-dotted-shown word t x f)
        ∙ ap (λ p. ready (select_hole p end) (free ++ [])) (new-piece word x.type)
        ∙ ap (λ n. ready (select_hole (prim_piece (NewOf word x.type)) n) (free ++ [])) (dotted-end word.span.end t x f)
        ∙ ap (λ p. ready p (free ++ [])) (hole-piece (NewOf word x.type) x.point) ∙ ap to same
    go None (Some type) f g h =
        let same : NewOf word type ≡ d = cc in
        ap (λ n. ready (new_at n) (free ++ [])) (new-type-shown word t type g) ∙ ap (λ p. ready p (free ++ [])) (new-piece word type) ∙ ap to same
    go None None f g h = cc

-- ---- parentheses

abbrev element_built : derived.Element → grammar.Built
element_built e = expr_built (derived.element_expr e)

abbrev kept_built : grammar.Built → Built
kept_built part = record { tall = kept part.tree; free = places_shown part.free }

typed-element : (to : Option Tall → Option Tall) (span : Span) (of : Tree) (type : WrittenType) (written : Option Tall) → written ≡ kept of
    → to (unlabelled kind.Typed span (pair written (kept (type_tree type)))) ≡ to (kept (unlabelled_tree kind.Typed span (of ∷ type_tree type ∷ [])))
typed-element to span of type written e =
    ap (λ t. to (unlabelled kind.Typed span (pair t (kept (type_tree type))))) e
    ∙ ap (λ k. to (unlabelled kind.Typed span k)) (pair-kept of (type_tree type))
    ∙ ap to (unlabelled-kept kind.Typed span (of ∷ type_tree type ∷ []))

pub element-shown : (e : derived.Element) → element_expr (element_shown e) ≡ kept_built (element_built e)
unfolding joined
element-shown (derived.ExprElement expr) = refl
element-shown (derived.ParamElement (NamedLPar id NoType)) = ap (λ t. record { tall = t; free = [] }) (leaf-kept kind.Ident id.name id.place.span)
element-shown (derived.ParamElement (WildLPar place NoType)) = ap (λ t. record { tall = t; free = place.span ∷ [] }) (ident-kept place)
element-shown (derived.ParamElement (NamedLPar id (OfType point type))) =
    ap (λ t. record { tall = t; free = [] })
    (typed-element (λ t. t) (span_of (lpar_tokens (NamedLPar id (OfType point type)))) (ident id).tree type _ (leaf-kept kind.Ident id.name id.place.span))
element-shown (derived.ParamElement (WildLPar place (OfType point type))) =
    let tokens = lpar_tokens (WildLPar place (OfType point type)) in
    let tree = (grammar.placeholder_ident place).tree in
    ap (λ t. record { tall = t; free = [] })
    (typed-element (bound (place.span ∷ []) (span_of tokens)) (span_of tokens) tree type _ (ident-kept place)
    ∙ bound-kept tokens (unlabelled_tree kind.Typed (span_of tokens) (tree ∷ type_tree type ∷ [])) (place ∷ []))

-- one element more
grown : (trees : List Tree) (free : List Span) (e : derived.Element)
    → with_element (record { kids = kept_all trees; free = free }) (element_shown e)
    ≡ record { kids = kept_all (trees ++ (element_built e).tree ∷ []); free = free ++ places_shown (element_built e).free }
grown trees free e =
    ap (λ b. record { kids = built.joined (kept_all trees) b.tall; free = free ++ b.free }) (element-shown e)
    ∙ ap (λ k. record { kids = k; free = free ++ places_shown (element_built e).free }) (joined-kept trees (element_built e).tree)

abbrev tuple_at : Span → BuiltKids → Ready
tuple_at span found = ready (record { tall = unlabelled kind.Tuple span found.kids; span = span }) found.free

-- a Tuple of these, which stand between parentheses
tuple-piece : (o c : Place) (xs : List Lexeme) (trees : List Tree) (free : List Span) (d : Prim)
    → (prim_built d).tree ≡ unlabelled_tree kind.Tuple (from_to o.span c.span) trees → prim_tokens d ≡ open_round o ∷ (xs ++ close_round c ∷ [])
    → tuple_at (from_to o.span c.span) (record { kids = kept_all trees; free = free }) ≡ ready (prim_piece d) free
tuple-piece o c xs trees free d t s =
    ap (λ tall. ready (record { tall = tall; span = from_to o.span c.span }) free) (unlabelled-kept kind.Tuple (from_to o.span c.span) trees ∙ ap kept (sym t))
    ∙ ap (λ span. ready (record { tall = kept (prim_built d).tree; span = span }) free) (sym (ap span_of s ∙ round-span o c xs))

pub group-operand : (o c : Place) (parens : derived.Parens) (head : Bool) (d : Prim) (free : List Span) → derived.parens_prim o parens c ≡ Some d
    → spec.group_at (record { span = from_to o.span c.span; elements = parens_shown parens; may_be_head = head }) (free ++ []) ≡ ready (prim_piece d) (free ++ free_in (prim_built d))
group-operand o c derived.NoElements head d free e =
    let same : UnitPrim o c ≡ d = cc in
    ap (λ t. ready (record { tall = t; span = from_to o.span c.span }) (free ++ [])) (leaf-kept kind.Literal (codes "()") (from_to o.span c.span))
    ∙ ap (λ p. ready (prim_piece p) (free ++ free_in (prim_built p))) same
group-operand o c (derived.Elements [] x) head d free e =
    let same : ExprInParentheses o (derived.element_expr x) c ≡ d = cc in
    let f = places_shown (element_built x).free in
    ap (λ b. ready (record { tall = only b.kids; span = from_to o.span c.span }) b.free) (grown [] (free ++ []) x)
    ∙ ap (λ t. ready (record { tall = t; span = from_to o.span c.span }) ((free ++ []) ++ f)) (only-kept (element_built x).tree)
    ∙ ap (λ s. ready (record { tall = kept (element_built x).tree; span = s }) ((free ++ []) ++ f)) (sym (round-span o c (expr_tokens (derived.element_expr x))))
    ∙ ap (λ g. ready (prim_piece (ExprInParentheses o (derived.element_expr x) c)) (g ++ f)) (append-nil free)
    ∙ ap (λ p. ready (prim_piece p) (free ++ free_in (prim_built p))) same
group-operand o c (derived.Elements (a ∷ []) x) head d free e =
    let same : PairPrim o (derived.element_expr a.element) a.place (derived.element_expr x) c ≡ d = cc in
    let p = element_built a.element in
    let q = element_built x in
    ap (λ b. tuple_at (from_to o.span c.span) (with_element b (element_shown x))) (grown [] (free ++ []) a.element)
    ∙ ap (tuple_at (from_to o.span c.span)) (grown (p.tree ∷ []) ((free ++ []) ++ places_shown p.free) x)
    ∙ tuple-piece o c (expr_tokens (derived.element_expr a.element) ++ comma a.place ∷ expr_tokens (derived.element_expr x)) (p.tree ∷ q.tree ∷ []) _
    (PairPrim o (derived.element_expr a.element) a.place (derived.element_expr x) c) refl (go (expr_tokens (derived.element_expr a.element)) (expr_tokens (derived.element_expr x)))
    ∙ ap (ready (prim_piece (PairPrim o (derived.element_expr a.element) a.place (derived.element_expr x) c))) (frees p.free q.free)
    ∙ ap (λ p. ready (prim_piece p) (free ++ free_in (prim_built p))) same
  where
    go : (x y : List Lexeme) → open_round o ∷ (x ++ comma a.place ∷ (y ++ close_round c ∷ [])) ≡ open_round o ∷ ((x ++ comma a.place ∷ y) ++ close_round c ∷ [])
    go x y = simp append_assoc

    frees : (f g : List Place) → ((free ++ []) ++ places_shown f) ++ places_shown g ≡ free ++ places_shown (f ++ (g ++ []))
    frees f g = simp (append_assoc, append-nil, places-append)
group-operand o c (derived.Elements (b ∷ a ∷ []) x) head d free e =
    let whole : Prim = TriplePrim o (derived.element_expr a.element) a.place (derived.element_expr b.element) b.place (derived.element_expr x) c in
    let same : whole ≡ d = cc in
    let p = element_built a.element in
    let q = element_built b.element in
    let r = element_built x in
    ap (λ k. tuple_at (from_to o.span c.span) (with_element (with_element k (element_shown b.element)) (element_shown x))) (grown [] (free ++ []) a.element)
    ∙ ap (λ k. tuple_at (from_to o.span c.span) (with_element k (element_shown x))) (grown (p.tree ∷ []) ((free ++ []) ++ places_shown p.free) b.element)
    ∙ ap (tuple_at (from_to o.span c.span)) (grown (p.tree ∷ q.tree ∷ []) (((free ++ []) ++ places_shown p.free) ++ places_shown q.free) x)
    ∙ tuple-piece o c (expr_tokens (derived.element_expr a.element) ++ comma a.place ∷ (expr_tokens (derived.element_expr b.element) ++ comma b.place ∷ expr_tokens (derived.element_expr x)))
    (p.tree ∷ q.tree ∷ r.tree ∷ []) _ whole refl (go (expr_tokens (derived.element_expr a.element)) (expr_tokens (derived.element_expr b.element)) (expr_tokens (derived.element_expr x)))
    ∙ ap (ready (prim_piece whole)) (frees p.free q.free r.free)
    ∙ ap (λ p. ready (prim_piece p) (free ++ free_in (prim_built p))) same
  where
    go : (x y z : List Lexeme) → open_round o ∷ (x ++ comma a.place ∷ (y ++ comma b.place ∷ (z ++ close_round c ∷ [])))
        ≡ open_round o ∷ ((x ++ comma a.place ∷ (y ++ comma b.place ∷ z)) ++ close_round c ∷ [])
    go x y z = simp append_assoc

    frees : (f g h : List Place) → (((free ++ []) ++ places_shown f) ++ places_shown g) ++ places_shown h ≡ free ++ places_shown (f ++ (g ++ (h ++ [])))
    frees f g h = simp (append_assoc, append-nil, places-append)
group-operand o c (derived.Elements (p ∷ q ∷ r ∷ done) x) head d free e = cc

-- ---- any tail

pub operand-shown : (s : derived.Tail) (d : Prim) (free : List Span) → derived.prim_at s ≡ Some d
    → operand_at (tail_shown s) (free ++ tail_free s) ≡ ready (prim_piece d) (free ++ free_in (prim_built d))
unfolding operand_at
operand-shown (derived.AtSign id) d free e =
    let same : NamePrim id ≡ d = cc in
    ap (λ o. ready o (free ++ [])) (name-piece id) ∙ ap (λ p. ready (prim_piece p) (free ++ free_in (prim_built p))) same
operand-shown (derived.AtName id is_sign) d free e =
    let same : NamePrim id ≡ d = cc in
    ap (λ o. ready o (free ++ [])) (name-piece id) ∙ ap (λ p. ready (prim_piece p) (free ++ free_in (prim_built p))) same
operand-shown (derived.AtWild place) d free e =
    let same : Placeholder place ≡ d = cc in
    ap (λ t. ready (record { tall = t; span = place.span }) ((free ++ []) ++ place.span ∷ [])) (ident-kept place)
    ∙ ap (λ f. ready (prim_piece (Placeholder place)) (f ++ place.span ∷ [])) (append-nil free)
    ∙ ap (λ p. ready (prim_piece p) (free ++ free_in (prim_built p))) same
operand-shown (derived.AtGroup o parens c head) d free e = group-operand o c parens head d free e
operand-shown (derived.AtPrim prim) d free e =
    let same : prim ≡ d = cc in ap (λ p. ready (prim_piece p) (free ++ free_in (prim_built p))) same
operand-shown (derived.AtCall prim args) d free e =
    let same : ApplyPrim prim args ≡ d = cc in
    ap (λ o. ready o (free ++ (free_in (prim_built prim) ++ places_shown (free_of (args_built args))))) (call-piece prim args)
    ∙ ap (λ f. ready (prim_piece (ApplyPrim prim args)) (free ++ f)) (sym (places-append (prim_built prim).free (free_of (args_built args))))
    ∙ ap (λ p. ready (prim_piece p) (free ++ free_in (prim_built p))) same
operand-shown (derived.AtDot prim point) d free e =
    let same : SelectHole prim point ≡ d = cc in
    ap (λ o. ready o (free ++ free_in (prim_built prim))) (hole-piece prim point)
    ∙ ap (λ f. ready (prim_piece (SelectHole prim point)) (free ++ f)) (sym (hole-free prim point))
    ∙ ap (λ p. ready (prim_piece p) (free ++ free_in (prim_built p))) same
operand-shown (derived.InNew word t) d free e = new-operand word t d free e
operand-shown (derived.AtNew word type) d free e =
    let same : NewOf word type ≡ d = cc in
    ap (λ o. ready o (free ++ [])) (new-piece word type) ∙ ap (λ p. ready (prim_piece p) (free ++ free_in (prim_built p))) same
operand-shown _ d free e = cc
