-- The expression of a head and what follows it.
use Rattle.std.proofs.Common.{◌≡◌, List, [], ◌∷◌, ◌++◌, map, Option, Some, None, refl, ap, sym, ◌∙◌, append_assoc, append-nil}
use Rattle.std.proofs.lemmas.Grind.{flat_map-append}
use Rattle.std.proofs.lemmas.List.{map-append}
use Rattle.pc_terms.specs.declared.problems.Span.{Span}
use Rattle.pc_terms.specs.declared.tree_kinds.TreeKind.{TreeKind}
use Rattle.pc_terms.specs.declared.tree_kinds.TreeKind.TheVariants as kind
use Rattle.positioned_trees.specs.declared.trees.Tree.{Tree}
use Rattle.source_grammar.specs.Comprehensions.{gen_free}
use Rattle.source_grammar.specs.Expressions.{Expr, Headed, InfixExpr, TypedExpr, MatchExpr, Heading, Lambda, IfThen, IfElse, WhileDo, TryAlone, TryFinally, TryCatchFinally, ForRound, ForCurly, ThrowOf, ReturnOf, AssignName, AssignSelect, AssignApply, Enums, LastGen, MoreGens, Infix, LastPrefix, MorePrefixes, SelectPrim, ApplyPrim}
use Rattle.source_grammar.specs.ExpressionTokens.{head_tokens, expr_tokens, infix_tokens, prefix_tokens, prim_tokens, heading_tokens}
use Rattle.source_grammar.specs.ExpressionTrees.{head_trees, ident, yields, for_built, expr_built, enums_built, gen_built, prim_built, args_built, cases_built, heading_built}
use Rattle.source_grammar.specs.Lexemes.{Place, Lexeme}
use Rattle.source_grammar.specs.Placeholders as grammar
use Rattle.source_grammar.specs.Placeholders.{plain_each, trees_of, free_of}
use Rattle.source_grammar.specs.Spans.{span_of, unlabelled as unlabelled_tree}
use Rattle.parse_parts.proofs.Kept.{kept, kept_all, joined-kept, alone-kept}
use Rattle.parse_parts.proofs.Shown.{end_of}
use Rattle.parse_patterns.proofs.Begun.{Some_begins, some-append}
use Rattle.parse_patterns.proofs.Chains.{start-append, span-end, span-is}
use Rattle.tree_lower.specs.Comprehending.{comprehension}
use Rattle.tree_lower.specs.Keeping.{places_shown, generator_shown}
use Rattle.tree_lower.specs.Lowering.{unlabelled}
use Rattle.tree_lower.proofs.KeptFor.{comprehension-kept}
use Rattle.tree_lower.proofs.KeptOperations.{updated-kept}
use Rattle.tree_lower.proofs.KeptTrees.{unlabelled-kept}
use Rattle.expr_tails.specs.declared.states.Reach.{Reach}
use Rattle.expr_tails.specs.Ending.{bound_at, over, over_one, tree_over, headed, headed_all}
use Rattle.expr_tails.specs.Tails.{from_start, ready}
use Rattle.expr_frames.specs.Heads.{reach_of, reach_with}
use Rattle.expr_laws.proofs.Beginning.{here, prim-begins, end-last, places-append, head-begins}
use Rattle.expr_laws.proofs.Chains.{prefix-begins}
use Rattle.expr_laws.proofs.Derived as derived
use Rattle.expr_laws.proofs.Ended.{bind-shown}
use Rattle.expr_laws.proofs.Shown.{expr_piece, free_in, head_start, kind_shown, head_free, heads_shown}

-- ---- where they begin

pub infix-begins : (d : Infix) → Some_begins (infix_tokens d)
infix-begins (LastPrefix prefix) = prefix-begins prefix
infix-begins (MorePrefixes prefix id rest) = some-append (prefix_tokens prefix) _ (prefix-begins prefix)

pub heading-begins : (h : Heading) → Some_begins (heading_tokens h)
heading-begins (Lambda h arrow) = some-append (head_tokens h) _ (head-begins h)
heading-begins (AssignSelect prim point id sign) = some-append (prim_tokens prim) _ (prim-begins prim)
heading-begins (AssignApply prim args sign) = some-append (prim_tokens (ApplyPrim prim args)) _ (prim-begins (ApplyPrim prim args))
heading-begins _ = here _ _

pub expr-begins : (e : Expr) → Some_begins (expr_tokens e)
expr-begins (Headed h body) = some-append (heading_tokens h) _ (heading-begins h)
expr-begins (InfixExpr d) = infix-begins d
expr-begins (TypedExpr d point type) = some-append (infix_tokens d) _ (infix-begins d)
expr-begins (MatchExpr d word o cases c) = some-append (infix_tokens d) _ (infix-begins d)
expr-begins _ = here _ _

-- ---- spans

-- from a heading to the end of the body
heading-span : (h : Heading) (body : Expr) → from_start (span_of (heading_tokens h)).start (span_of (expr_tokens body)).end ≡ span_of (expr_tokens (Headed h body))
heading-span h body =
    let xs = heading_tokens h in
    let ys = expr_tokens body in
    ap (λ n. record { start = (span_of xs).start; end = n }) (span-end ys)
    ∙ sym (span-is (xs ++ ys) (span_of xs).start (end_of ys) (start-append xs ys (heading-begins h)) (end-last 0 xs ys (expr-begins body)))

-- ---- trees

over-shown : (k : TreeKind) (span : Span) (before : List Tree) (t : Tree) → over k span (kept_all before) (kept t) ≡ kept (unlabelled_tree k span (before ++ t ∷ []))
over-shown k span before t = ap (unlabelled k span) (joined-kept before t) ∙ unlabelled-kept k span (before ++ t ∷ [])

one-shown : (k : TreeKind) (span : Span) (t : Tree) → over_one k span (kept t) ≡ kept (unlabelled_tree k span (t ∷ []))
one-shown k span t = ap (unlabelled k span) (alone-kept t) ∙ unlabelled-kept k span (t ∷ [])

trees-behind : (parts : List grammar.Built) (last : grammar.Built) → trees_of (parts ++ last ∷ []) ≡ trees_of parts ++ last.tree ∷ []
trees-behind parts last = (let tree : grammar.Built → Tree = λ part. part.tree in map-append tree parts (last ∷ []))

pub places-behind : (parts : List grammar.Built) (last : grammar.Built) → places_shown (free_of (parts ++ last ∷ [])) ≡ places_shown (free_of parts) ++ free_in last
places-behind parts last =
    (let places : grammar.Built → List Place = λ part. part.free in ap places_shown (flat_map-append places parts (last ∷ [])))
    ∙ places-append (free_of parts) (last.free ++ []) ∙ ap (λ f. places_shown (free_of parts) ++ places_shown f) (append-nil last.free)

pub plain-trees : (ts : List Tree) → trees_of (plain_each ts) ≡ ts
plain-trees [] = refl
plain-trees (t ∷ ts) = ap (λ rest. t ∷ rest) (plain-trees ts)

pub plain-free : (ts : List Tree) → free_of (plain_each ts) ≡ []
plain-free [] = refl
plain-free (t ∷ ts) = plain-free ts

-- ---- a heading and its body

-- the placeholders of a first part and of the body
pub one-free : (a b : List Place) → places_shown a ++ places_shown b ≡ places_shown (a ++ (b ++ []))
one-free a b = simp (append-nil, places-append)

two-free : (a b c : List Place) → (places_shown a ++ places_shown b) ++ places_shown c ≡ places_shown (a ++ (b ++ (c ++ [])))
two-free a b c = simp (append_assoc, append-nil, places-append)

body-free : (b : List Place) → places_shown b ≡ places_shown (b ++ [])
body-free b = ap places_shown (sym (append-nil b))

-- those of a first part, of others behind it and of the body
parts-free : (a : grammar.Built) (parts : List grammar.Built) (body : grammar.Built)
    → (free_in a ++ places_shown (free_of parts)) ++ free_in body ≡ places_shown (a.free ++ free_of (parts ++ body ∷ []))
parts-free a parts body =
    append_assoc (free_in a) (places_shown (free_of parts)) (free_in body)
    ∙ ap (λ g. free_in a ++ g) (sym (places-behind parts body))
    ∙ sym (places-append a.free (free_of (parts ++ body ∷ [])))

-- generators are some
for-tree : (yield : Option Place) (tokens : List Lexeme) (enums : Enums) (body : grammar.Built)
    → comprehension (yields yield) (span_of tokens) (map generator_shown (enums_built enums)) (kept body.tree) ≡ kept (for_built yield tokens (enums_built enums) body).tree
for-tree yield tokens (LastGen gen) body = comprehension-kept (yields yield) (span_of tokens) (gen_built gen) [] body
for-tree yield tokens (MoreGens gen sep gens) body = comprehension-kept (yields yield) (span_of tokens) (gen_built gen) (enums_built gens) body

for-free : (yield : Option Place) (tokens : List Lexeme) (enums : Enums) (body : grammar.Built)
    → places_shown (gen_free (enums_built enums)) ++ free_in body ≡ free_in (for_built yield tokens (enums_built enums) body)
for-free yield tokens (LastGen gen) body = sym (places-append (gen_free (enums_built (LastGen gen))) body.free)
for-free yield tokens (MoreGens gen sep gens) body = sym (places-append (gen_free (enums_built (MoreGens gen sep gens))) body.free)

heading-tree : (h : Heading) (xs : List Lexeme) (body : grammar.Built)
    → tree_over (kind_shown (derived.Of h)) (span_of xs) (kept body.tree) ≡ kept (heading_built h xs body).tree
heading-tree (Lambda head arrow) xs body =
    over-shown kind.Function (span_of xs) (head_trees head) body.tree
    ∙ ap (λ ts. kept (unlabelled_tree kind.Function (span_of xs) ts))
    (ap (λ ts. ts ++ body.tree ∷ []) (sym (plain-trees (head_trees head))) ∙ sym (trees-behind (plain_each (head_trees head)) body))
heading-tree (IfThen word o test c) xs body = over-shown kind.If (span_of xs) ((expr_built test).tree ∷ []) body.tree
heading-tree (IfElse word o test c first semi other) xs body =
    over-shown kind.If (span_of xs) ((expr_built test).tree ∷ (expr_built first).tree ∷ []) body.tree
heading-tree (WhileDo word o test c) xs body = over-shown kind.While (span_of xs) ((expr_built test).tree ∷ []) body.tree
heading-tree (TryAlone word) xs body = one-shown kind.Try (span_of xs) body.tree
heading-tree (TryFinally word tried last) xs body = over-shown kind.Try (span_of xs) ((expr_built tried).tree ∷ []) body.tree
heading-tree (TryCatchFinally word tried catch o cases c last) xs body =
    over-shown kind.Try (span_of xs) ((expr_built tried).tree ∷ trees_of (cases_built cases)) body.tree
    ∙ ap (λ ts. kept (unlabelled_tree kind.Try (span_of xs) ((expr_built tried).tree ∷ ts))) (sym (trees-behind (cases_built cases) body))
heading-tree (ForRound word o enums c yield) xs body = for-tree yield xs enums body
heading-tree (ForCurly word o enums c yield) xs body = for-tree yield xs enums body
heading-tree (ThrowOf word) xs body = one-shown kind.Throw (span_of xs) body.tree
heading-tree (ReturnOf word) xs body = one-shown kind.Return (span_of xs) body.tree
heading-tree (AssignName id sign) xs body = over-shown kind.Assign (span_of xs) ((ident id).tree ∷ []) body.tree
heading-tree (AssignSelect prim point id sign) xs body =
    over-shown kind.Assign (span_of xs) ((prim_built (SelectPrim prim point id)).tree ∷ []) body.tree
heading-tree (AssignApply prim args sign) xs body = updated-kept xs (prim_built prim) (args_built args) body

heading-free : (h : Heading) (xs : List Lexeme) (body : grammar.Built) → head_free (derived.Of h) ++ free_in body ≡ free_in (heading_built h xs body)
heading-free (Lambda head arrow) xs body =
    ap (λ ps. places_shown ps ++ free_in body) (sym (plain-free (head_trees head))) ∙ sym (places-behind (plain_each (head_trees head)) body)
heading-free (IfThen word o test c) xs body = one-free (expr_built test).free body.free
heading-free (IfElse word o test c first semi other) xs body = two-free (expr_built test).free (expr_built first).free body.free
heading-free (WhileDo word o test c) xs body = one-free (expr_built test).free body.free
heading-free (TryFinally word tried last) xs body = one-free (expr_built tried).free body.free
heading-free (TryCatchFinally word tried catch o cases c last) xs body = parts-free (expr_built tried) (cases_built cases) body
heading-free (ForRound word o enums c yield) xs body = for-free yield xs enums body
heading-free (ForCurly word o enums c yield) xs body = for-free yield xs enums body
heading-free (AssignSelect prim point id sign) xs body =
    ap (λ ps. places_shown ps ++ free_in body) (sym (append-nil (prim_built prim).free)) ∙ one-free ((prim_built prim).free ++ []) body.free
heading-free (AssignApply prim args sign) xs body = parts-free (prim_built prim) (args_built args) body
heading-free _ xs body = body-free body.free

-- the expression of a head and its body, as the machine has it
pub headed-shown : (h : derived.Head) (reach : Reach) (body e : Expr) → derived.headed h body ≡ Some e
    → headed (record { start = head_start h; kind = kind_shown h; free = head_free h; reach = reach }) (ready (expr_piece body) (free_in (expr_built body)))
    ≡ ready (expr_piece e) (free_in (expr_built e))
headed-shown (derived.DoHead word) reach body e f = cc
headed-shown (derived.Of h) reach body e f =
    let whole : Expr = Headed h body in
    let same : whole ≡ e = cc in
    let xs = expr_tokens whole in
    let part = heading_built h xs (expr_built body) in
    let free = head_free (derived.Of h) ++ free_in (expr_built body) in
    ap (λ span. bound_at (ready (record { tall = tree_over (kind_shown (derived.Of h)) span (kept (expr_built body).tree); span = span }) free)) (heading-span h body)
    ∙ ap (λ tall. bound_at (ready (record { tall = tall; span = span_of xs }) free)) (heading-tree h xs (expr_built body))
    ∙ ap (λ spans. bound_at (ready (record { tall = kept part.tree; span = span_of xs }) spans)) (heading-free h xs (expr_built body))
    ∙ bind-shown xs part
    ∙ ap (λ d. ready (expr_piece d) (free_in (expr_built d))) same

-- ---- all heads

pub none-all : (hs : List derived.Head) → derived.headed_all hs None ≡ None
none-all [] = refl
none-all (h ∷ hs) = refl

pub all-shown : (hs : List derived.Head) (body e : Expr) → derived.headed_all hs (Some body) ≡ Some e
    → headed_all (heads_shown hs) (ready (expr_piece body) (free_in (expr_built body))) ≡ ready (expr_piece e) (free_in (expr_built e))
all-shown [] body e f = (let same : body ≡ e = cc in ap (λ d. ready (expr_piece d) (free_in (expr_built d))) same)
all-shown (h ∷ hs) body e f = go (derived.headed h body) refl f (λ d k. all-shown hs d e k) where
  go : (o : Option Expr) → derived.headed h body ≡ o → derived.headed_all hs o ≡ Some e
      → ((d : Expr) → derived.headed_all hs (Some d) ≡ Some e → headed_all (heads_shown hs) (ready (expr_piece d) (free_in (expr_built d))) ≡ ready (expr_piece e) (free_in (expr_built e)))
      → headed_all (heads_shown (h ∷ hs)) (ready (expr_piece body) (free_in (expr_built body))) ≡ ready (expr_piece e) (free_in (expr_built e))
  go None g k on = (let gone : None ≡ Some e = sym (none-all hs) ∙ k in cc)
  go (Some d) g k on =
      ap (headed_all (heads_shown hs)) (headed-shown h (reach_with (reach_of (heads_shown hs)) (kind_shown h)) body d g) ∙ on d k
