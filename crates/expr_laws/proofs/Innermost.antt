-- The innermost expression that ends at a tail, and the expression with all heads around it.
use Rattle.std.proofs.Common.{◌≡◌, ℕ, Bool, true, false, if◌then◌else◌, List, [], ◌∷◌, ◌++◌, Option, Some, None, codes, refl, ap, sym, ◌∙◌, append-nil}
use Rattle.pc_terms.specs.declared.tree_kinds.TreeKind.TheVariants as kind
use Rattle.source_grammar.specs.Expressions.{PrefixSign, Expr, DoThenWhile, TryCatch, ReturnAlone, InfixExpr, TypedExpr, MatchExpr, Infix, Prim, Placeholder, NamePrim, Cases}
use Rattle.source_grammar.specs.ExpressionTokens.{expr_tokens, infix_tokens, cases_tokens}
use Rattle.source_grammar.specs.ExpressionTrees.{joined_built, expr_built, infix_chain, prim_built, cases_built}
use Rattle.source_grammar.specs.Lexemes.{Place, word_at, colon, open_curly, close_curly}
use Rattle.source_grammar.specs.Placeholders as grammar
use Rattle.source_grammar.specs.Placeholders.{trees_of, free_of}
use Rattle.source_grammar.specs.Precedence.{joined}
use Rattle.source_grammar.specs.Spans.{end_behind, span_of}
use Rattle.source_grammar.specs.Types.{WrittenType, SimpleType, Simple, type_tokens, type_tree}
use Rattle.parse_parts.specs.Steps.{tail_end}
use Rattle.parse_parts.proofs.Derived as types
use Rattle.parse_parts.proofs.Kept.{kept, kept_all}
use Rattle.parse_parts.proofs.Shown as type_shown
use Rattle.parse_parts.proofs.Shown.{end-behind, type-shown}
use Rattle.parse_patterns.proofs.Chains.{start-append, span-is}
use Rattle.tree_lower.specs.Keeping.{places_shown}
use Rattle.tree_lower.specs.Lowering.{unlabelled, pair}
use Rattle.tree_lower.proofs.KeptOperations.{ident-kept}
use Rattle.tree_lower.proofs.KeptTrees.{unlabelled-kept, leaf-kept, pair-kept}
use Rattle.expr_tails.specs.declared.tails.Ready.{Ready}
use Rattle.expr_tails.specs.Ending as spec
use Rattle.expr_tails.specs.Ending.{bound_at, headed_all, expr_at}
use Rattle.expr_tails.specs.Tails.{from_start, ready, typed, typed_ready, typed_of_at, typed_at, operand_at}
use Rattle.expr_tails.specs.Types.{type_of}
use Rattle.expr_laws.proofs.Beginning.{places-append}
use Rattle.expr_laws.proofs.Derived as derived
use Rattle.expr_laws.proofs.Ended.{IsPlain, chain_over, bind-shown, infix-shown}
use Rattle.expr_laws.proofs.Fitting.{AreOneSide, one-chain, stands_alone, TailFits, has_ended, IsFresh, Fits}
use Rattle.expr_laws.proofs.Headed.{infix-begins, none-all, all-shown}
use Rattle.expr_laws.proofs.NewTypes.{type-ends}
use Rattle.expr_laws.proofs.Operands.{name-piece}
use Rattle.expr_laws.proofs.Shown.{prim_piece, infix_piece, expr_piece, ended_built, ended_piece, operations_shown, operations_free, sign_shown, typed_shown, typed_free, tail_shown, tail_free, free_in, heads_shown, context_shown}

-- ---- types

pub type-read-shown : (t : types.State) (type : WrittenType) → derived.type_of t ≡ Some type → type_of (type_shown.shown t) ≡ kept (type_tree type)
type-read-shown t type e = go t.frames (types.simple_of t.tail) refl e where
  go : (fs : List types.Frame) (o : Option SimpleType) → types.simple_of t.tail ≡ o → derived.type_read fs t.heads o ≡ Some type
      → type_of (type_shown.shown t) ≡ kept (type_tree type)
  go [] (Some simple) s f =
      let same : types.settled t.heads (Simple simple) ≡ type = cc in
      type-shown t.heads t.tail simple s ∙ ap (λ d. kept (type_tree d)) same
  go [] None s f = cc
  go (frame ∷ fs) o s f = cc

pub type-read-end : (end : ℕ) (t : types.State) (type : WrittenType) → derived.type_of t ≡ Some type → end_behind end (type_tokens type) ≡ tail_end (type_shown.tail_shown t.tail)
type-read-end end t type e = go t.frames (types.simple_of t.tail) refl e where
  go : (fs : List types.Frame) (o : Option SimpleType) → types.simple_of t.tail ≡ o → derived.type_read fs t.heads o ≡ Some type
      → end_behind end (type_tokens type) ≡ tail_end (type_shown.tail_shown t.tail)
  go [] (Some simple) s f =
      let same : types.settled t.heads (Simple simple) ≡ type = cc in
      ap (λ d. end_behind end (type_tokens d)) (sym same) ∙ type-ends end t.heads t.tail simple s
  go [] None s f = cc
  go (frame ∷ fs) o s f = cc

-- ---- an expression with its type

alone-piece : (prim : Prim) → infix_piece (derived.alone prim) ≡ prim_piece prim
unfolding joined
alone-piece prim = refl

alone-free : (prim : Prim) → free_in (joined_built (infix_chain (derived.alone prim))) ≡ free_in (prim_built prim)
unfolding joined
alone-free prim = refl

-- what stands before the colon
of-shown : (of : derived.TypedOf)
    → typed_of_at (typed_shown of) (typed_free of) ≡ ready (infix_piece (derived.typed_infix of)) (free_in (joined_built (infix_chain (derived.typed_infix of))))
of-shown (derived.OfChain chain) = refl
of-shown (derived.OfName id) =
    ap (λ o. ready o []) (name-piece id ∙ sym (alone-piece (NamePrim id))) ∙ ap (ready (infix_piece (derived.alone (NamePrim id)))) (sym (alone-free (NamePrim id)))
of-shown (derived.OfWild place) =
    ap (λ t. ready (record { tall = t; span = place.span }) (place.span ∷ [])) (ident-kept place)
    ∙ ap (λ o. ready o (place.span ∷ [])) (sym (alone-piece (Placeholder place)))
    ∙ ap (ready (infix_piece (derived.alone (Placeholder place)))) (sym (alone-free (Placeholder place)))

typed-span : (chain : Infix) (point : Place) (type : WrittenType) (end : ℕ) → end_behind point.span.end (type_tokens type) ≡ end
    → from_start (span_of (infix_tokens chain)).start end ≡ span_of (expr_tokens (TypedExpr chain point type))
typed-span chain point type end e =
    sym (span-is (infix_tokens chain ++ colon point ∷ type_tokens type) (span_of (infix_tokens chain)).start end
    (start-append (infix_tokens chain) (colon point ∷ type_tokens type) (infix-begins chain))
    (end-behind 0 (infix_tokens chain) (colon point) (type_tokens type) ∙ e))

abbrev typed_part : Infix → Place → WrittenType → grammar.Built
typed_part chain point type =
    grammar.node kind.Typed (span_of (expr_tokens (TypedExpr chain point type))) (joined_built (infix_chain chain) ∷ grammar.plain (type_tree type) ∷ [])

typed-piece : (chain : Infix) (point : Place) (t : types.State) (type : WrittenType) → derived.type_of t ≡ Some type
    → typed (infix_piece chain) (tail_end (type_shown.tail_shown t.tail)) (type_of (type_shown.shown t))
    ≡ record { tall = kept (typed_part chain point type).tree; span = span_of (expr_tokens (TypedExpr chain point type)) }
typed-piece chain point t type e =
    let tree = (joined_built (infix_chain chain)).tree in
    let span = span_of (expr_tokens (TypedExpr chain point type)) in
    ap (λ s. record { tall = unlabelled kind.Typed s (pair (kept tree) (type_of (type_shown.shown t))); span = s })
    (typed-span chain point type (tail_end (type_shown.tail_shown t.tail)) (type-read-end point.span.end t type e))
    ∙ ap (λ k. record { tall = unlabelled kind.Typed span (pair (kept tree) k); span = span }) (type-read-shown t type e)
    ∙ ap (λ k. record { tall = k; span = span }) (ap (unlabelled kind.Typed span) (pair-kept tree (type_tree type)) ∙ unlabelled-kept kind.Typed span (tree ∷ type_tree type ∷ []))

typed-shown : (of : derived.TypedOf) (point : Place) (t : types.State) (type : WrittenType) → derived.type_of t ≡ Some type
    → bound_at (typed_at (typed_shown of) (type_shown.shown t) (typed_free of))
    ≡ ready (expr_piece (TypedExpr (derived.typed_infix of) point type)) (free_in (expr_built (TypedExpr (derived.typed_infix of) point type)))
typed-shown of point t type e =
    let chain = derived.typed_infix of in
    let free = free_in (joined_built (infix_chain chain)) in
    ap (λ r. bound_at (typed_ready r (tail_end (type_shown.tail_shown t.tail)) (type_of (type_shown.shown t)))) (of-shown of)
    ∙ ap (λ o. bound_at (ready o free)) (typed-piece chain point t type e)
    ∙ ap (λ f. bound_at (ready (record { tall = kept (typed_part chain point type).tree; span = span_of (expr_tokens (TypedExpr chain point type)) }) (places_shown f)))
    (sym (append-nil (joined_built (infix_chain chain)).free))
    ∙ bind-shown (expr_tokens (TypedExpr chain point type)) (typed_part chain point type)

-- ---- what has ended

caught-span : (word : Place) (body : Expr) (catch o : Place) (cases : Cases) (c : Place)
    → from_start word.span.start c.span.end ≡ span_of (expr_tokens (TryCatch word body catch o cases c))
caught-span word body catch o cases c =
    ap (from_start word.span.start)
    (sym (end-behind word.span.end (expr_tokens body) (word_at (codes "catch") catch) (open_curly o ∷ (cases_tokens cases ++ close_curly c ∷ []))
    ∙ end-behind o.span.end (cases_tokens cases) (close_curly c) []))

caught-shown : (word : Place) (body : Expr) (catch o : Place) (cases : Cases) (c : Place)
    → (let trees = (expr_built body).tree ∷ trees_of (cases_built cases) in
    bound_at (ready (record { tall = unlabelled kind.Try (from_start word.span.start c.span.end) (kept_all trees); span = from_start word.span.start c.span.end })
    (free_in (expr_built body) ++ places_shown (free_of (cases_built cases)))))
    ≡ ready (expr_piece (TryCatch word body catch o cases c)) (free_in (expr_built (TryCatch word body catch o cases c)))
caught-shown word body catch o cases c =
    let whole : Expr = TryCatch word body catch o cases c in
    let trees = (expr_built body).tree ∷ trees_of (cases_built cases) in
    let free = free_in (expr_built body) ++ places_shown (free_of (cases_built cases)) in
    let span = span_of (expr_tokens whole) in
    ap (λ s. bound_at (ready (record { tall = unlabelled kind.Try s (kept_all trees); span = s }) free)) (caught-span word body catch o cases c)
    ∙ ap (λ t. bound_at (ready (record { tall = t; span = span }) free)) (unlabelled-kept kind.Try span trees)
    ∙ ap (λ f. bound_at (ready (record { tall = kept (grammar.node kind.Try span (expr_built body ∷ cases_built cases)).tree; span = span }) f))
    (sym (places-append (expr_built body).free (free_of (cases_built cases))))
    ∙ bind-shown (expr_tokens whole) (grammar.node kind.Try span (expr_built body ∷ cases_built cases))

ended-shown : (expr : Expr) → has_ended expr ≡ true → bound_at (ready (ended_piece expr) (free_in (ended_built expr))) ≡ ready (expr_piece expr) (free_in (expr_built expr))
ended-shown (MatchExpr chain word o cases c) e =
    bind-shown (expr_tokens (MatchExpr chain word o cases c)) (ended_built (MatchExpr chain word o cases c))
ended-shown (DoThenWhile word body sep until o test c) e =
    bind-shown (expr_tokens (DoThenWhile word body sep until o test c)) (ended_built (DoThenWhile word body sep until o test c))
ended-shown _ e = cc

-- ---- the innermost expression

abbrev read_at : List derived.Operation → Option PrefixSign → derived.Tail → Ready
read_at os s at = spec.innermost (operations_shown os) (sign_shown s) (tail_shown at) (operations_free os ++ tail_free at)

abbrev whole : Expr → Ready
whole e = ready (expr_piece e) (free_in (expr_built e))

-- what stands alone is read with nothing before it
by-fresh : (os : List derived.Operation) (s : Option PrefixSign) (at : derived.Tail) → IsFresh os s → read_at os s at ≡ read_at [] None at
by-fresh os s at f = ap (λ o. read_at o s at) f.operations ∙ ap (λ o. read_at [] o at) f.sign

chain-case : (os : List derived.Operation) (s : Option PrefixSign) (at : derived.Tail) (e : Expr) → IsPlain at → AreOneSide os
    → derived.infix_expr (derived.chain_of os s (derived.prim_at at)) ≡ Some e → read_at os s at ≡ whole e
chain-case os s at e p one f = go (derived.prim_at at) refl f where
  go : (o : Option Prim) → derived.prim_at at ≡ o → derived.infix_expr (derived.chain_of os s o) ≡ Some e → read_at os s at ≡ whole e
  go None g h = cc
  go (Some prim) g h =
      let same : InfixExpr (chain_over os s prim) ≡ e = cc in
      infix-shown os s at prim p g (one-chain os s prim one) ∙ ap whole same

pub innermost-shown : (os : List derived.Operation) (s : Option PrefixSign) (at : derived.Tail) (e : Expr) → IsPlain at → TailFits at → AreOneSide os
    → (stands_alone at ≡ true → IsFresh os s) → derived.innermost_at at (derived.chain_of os s (derived.prim_at at)) ≡ Some e → read_at os s at ≡ whole e
unfolding operand_at
innermost-shown os s (derived.InTyped of point t) e p k one alone f =
    by-fresh os s (derived.InTyped of point t) (alone refl) ∙ go (derived.type_of t) refl f
  where
    go : (o : Option WrittenType) → derived.type_of t ≡ o → derived.typed_expr of point o ≡ Some e → read_at [] None (derived.InTyped of point t) ≡ whole e
    go None g h = cc
    go (Some type) g h = (let same : TypedExpr (derived.typed_infix of) point type ≡ e = cc in typed-shown of point t type g ∙ ap whole same)
innermost-shown os s (derived.AtReturn word) e p k one alone f =
    let same : ReturnAlone word ≡ e = cc in
    by-fresh os s (derived.AtReturn word) (alone refl) ∙ ap (λ t. ready (record { tall = t; span = word.span }) []) (leaf-kept kind.Return [] word.span) ∙ ap whole same
innermost-shown os s (derived.AtCaught word body catch o cases c) e p k one alone f =
    let same : TryCatch word body catch o cases c ≡ e = cc in
    by-fresh os s (derived.AtCaught word body catch o cases c) (alone refl) ∙ caught-shown word body catch o cases c ∙ ap whole same
innermost-shown os s (derived.AtEnded expr) e p k one alone f =
    let same : expr ≡ e = cc in
    by-fresh os s (derived.AtEnded expr) (alone refl) ∙ ended-shown expr k ∙ ap whole same
innermost-shown os s at e p k one alone f = chain-case os s at e p one f

-- what stands before a `;` is whole already
pub semi-shown : (os : List derived.Operation) (s : Option PrefixSign) (expr : Expr) (p : Place) (ps : List Place) → IsFresh os s
    → read_at os s (derived.AtSemi expr p ps) ≡ whole expr
unfolding operand_at
semi-shown os s expr p ps f = by-fresh os s (derived.AtSemi expr p ps) f

-- ---- with all heads

pub context-innermost : (c : derived.Context) (e : Expr) → Fits c → derived.innermost c ≡ Some e → read_at c.operations c.sign c.tail ≡ whole e
context-innermost c e f g = innermost-shown c.operations c.sign c.tail e f.plain f.tail f.one_side f.alone g

pub heads-there : (hs : List derived.Head) (o : Option Expr) (e : Expr) (r : Ready) → derived.headed_all hs o ≡ Some e → ((d : Expr) → o ≡ Some d → r ≡ whole d)
    → headed_all (heads_shown hs) r ≡ whole e
heads-there hs None e r f read = (let gone : None ≡ Some e = sym (none-all hs) ∙ f in cc)
heads-there hs (Some d) e r f read = ap (headed_all (heads_shown hs)) (read d refl) ∙ all-shown hs d e f

pub expr-there : (c : derived.Context) (e : Expr) → Fits c → derived.ended_expr c ≡ Some e → expr_at (context_shown c) ≡ whole e
unfolding expr_at
expr-there c e f g = go (derived.waits c.heads) g where
  go : (w : Bool) → (if w then None else derived.expr_at c) ≡ Some e → headed_all (heads_shown c.heads) (read_at c.operations c.sign c.tail) ≡ whole e
  go true h = cc
  go false h = heads-there c.heads (derived.innermost c) e _ h (λ d i. context-innermost c d f i)
