-- What goes on with an operand: a point, types, `:` and `match`, the reader as the machine.
use Rattle.std.proofs.Common.{◌≡◌, Bool, true, false, ◌&&◌, ◌||◌, if◌then◌else◌, List, [], ◌∷◌, ◌++◌, Option, Some, None, option_map, refl, ap, sym, ◌∙◌, append-nil}
use Rattle.std.specs.Prelude.{not}
use Rattle.pc_terms.specs.declared.tree_kinds.TreeKind.TheVariants as kind
use Rattle.source_grammar.specs.Expressions.{Prim, NamePrim, Placeholder, TypeApplyPrim}
use Rattle.source_grammar.specs.ExpressionTokens.{prim_tokens}
use Rattle.source_grammar.specs.ExpressionTrees.{joined_built, infix_chain, prim_built}
use Rattle.source_grammar.specs.Lexemes.{Place, Lexeme, open_square, close_square}
use Rattle.source_grammar.specs.Spans.{span_of, unlabelled as unlabelled_tree}
use Rattle.source_grammar.specs.Types.{WrittenType, TypeList, LastType, type_tree, type_list_tokens, type_list_trees}
use Rattle.parse_parts.specs.Built.{joined}
use Rattle.parse_parts.specs.Reading.{begun as type_begun}
use Rattle.parse_parts.proofs.Derived as types
use Rattle.parse_parts.proofs.Kept.{kept, kept_all, alone-kept, joined-kept}
use Rattle.parse_parts.proofs.Shown as type_shown
use Rattle.parse_parts.proofs.Shown.{end-behind, listed-trees}
use Rattle.parse_patterns.proofs.Chains.{start-append, span-is}
use Rattle.tree_lower.specs.Keeping.{name_of, places_shown}
use Rattle.tree_lower.specs.Lowering.{unlabelled}
use Rattle.tree_lower.proofs.KeptTrees.{unlabelled-kept}
use Rattle.expr_tails.specs.declared.tails.Ready.{Ready}
use Rattle.expr_tails.specs.declared.states.Begun.{Begun}
use Rattle.expr_tails.specs.declared.states.Context.{Context}
use Rattle.expr_tails.specs.declared.states.Form.TheVariants as form
use Rattle.expr_tails.specs.declared.states.Tail.TheVariants as tail
use Rattle.expr_tails.specs.declared.states.TypedOf.TheVariants as typed_of
use Rattle.expr_tails.specs.declared.symbols.Symbol.{Symbol}
use Rattle.expr_tails.specs.declared.symbols.Symbol.TheVariants as symbol
use Rattle.expr_tails.specs.Ending.{is_first}
use Rattle.expr_tails.specs.Tails.{from_start}
use Rattle.expr_frames.specs.declared.frames.Left.{Left}
use Rattle.expr_frames.specs.Frames.{left}
use Rattle.expr_steps.specs.Steps as spec
use Rattle.expr_laws.proofs.Agreeing.{first-shown, type-whole, operand-some, and-false}
use Rattle.expr_laws.proofs.Beginning.{prim-begins}
use Rattle.expr_laws.proofs.Derived as derived
use Rattle.expr_laws.proofs.Ended.{chain_over, chain-shown}
use Rattle.expr_laws.proofs.Fitting.{AreOneSide, one-chain}
use Rattle.expr_laws.proofs.Headed.{plain-trees, plain-free}
use Rattle.expr_laws.proofs.Innermost.{type-read-shown}
use Rattle.expr_laws.proofs.Naming.{operand-prim, left-shown}
use Rattle.expr_laws.proofs.Seen.{seen_as}
use Rattle.expr_laws.proofs.Shown.{prim_piece, infix_piece, begun, tail_shown, free_in, heads_shown, context_with, context_shown}

-- ---- a point, and types

dot-there : (c : derived.Context) (s : derived.Tail) (point : Place) (prim : Prim) → derived.prim_at s ≡ Some prim
    → spec.dotted (left (context_shown (derived.at c s))) point.span ≡ context_shown (derived.at c (derived.AtDot prim point))
dot-there c s point prim e = ap (λ l. spec.dotted l point.span) (left-shown c s prim e)

goes-dot : (c : derived.Context) (s : derived.Tail) (point : Place)
    → spec.when (spec.may_go_on (context_shown (derived.at c s))) (spec.dotted (left (context_shown (derived.at c s))) point.span)
    ≡ option_map context_shown (derived.dotted point (derived.at c s) (derived.operand_at s))
goes-dot c s point =
    ap (λ b. spec.when (b && not (derived.is_param_limit c.limit)) next) (operand-some s) ∙ go (derived.operand_at s) refl
  where
    next : Context
    next = spec.dotted (left (context_shown (derived.at c s))) point.span

    by : (p : Bool) (prim : Prim) → derived.prim_at s ≡ Some prim
        → spec.when (not p) next ≡ option_map context_shown (if p then None else Some (derived.at c (derived.AtDot prim point)))
    by true prim e = refl
    by false prim e = ap Some (dot-there c s point prim e)

    go : (o : Option Prim) → derived.operand_at s ≡ o
        → spec.when (derived.is_some o && not (derived.is_param_limit c.limit)) next ≡ option_map context_shown (derived.dotted point (derived.at c s) o)
    go None e = refl
    go (Some prim) e = by (derived.is_param_limit c.limit) prim (operand-prim s prim e)

pub dot-same : (c : derived.Context) (s : derived.Tail) (point : Place)
    → spec.dotted_at (tail_shown s) (context_shown (derived.at c s)) point.span ≡ option_map context_shown (derived.on_dot point s (derived.at c s))
dot-same c (derived.AtSuper word) point = refl
dot-same c s point = goes-dot c s point

square-there : (c : derived.Context) (s : derived.Tail) (o : Place) (prim : Prim) → derived.prim_at s ≡ Some prim
    → spec.types_begun (left (context_shown (derived.at c s))) ≡ context_shown (derived.at c (derived.InTypes prim o [] derived.type_begun))
square-there c s o prim e =
    ap (λ l. spec.types_begun l) (left-shown c s prim e)
    ∙ ap (λ k. context_with c (free_in (prim_built prim)) (tail.InTypes (record { start = (span_of (prim_tokens prim)).start; kids = k }) type_begun)) (alone-kept (prim_built prim).tree)

pub square-same : (c : derived.Context) (s : derived.Tail) (o : Place)
    → spec.on_open_square (context_shown (derived.at c s)) ≡ option_map context_shown (derived.squared o (derived.at c s) (derived.operand_at s))
square-same c s o =
    ap (λ b. spec.when (b && not (derived.is_param_limit c.limit)) next) (operand-some s) ∙ go (derived.operand_at s) refl
  where
    next : Context
    next = spec.types_begun (left (context_shown (derived.at c s)))

    by : (p : Bool) (prim : Prim) → derived.prim_at s ≡ Some prim
        → spec.when (not p) next ≡ option_map context_shown (if p then None else Some (derived.at c (derived.InTypes prim o [] derived.type_begun)))
    by true prim e = refl
    by false prim e = ap Some (square-there c s o prim e)

    go : (v : Option Prim) → derived.operand_at s ≡ v
        → spec.when (derived.is_some v && not (derived.is_param_limit c.limit)) next ≡ option_map context_shown (derived.squared o (derived.at c s) v)
    go None e = refl
    go (Some prim) e = by (derived.is_param_limit c.limit) prim (operand-prim s prim e)

-- ---- behind a type argument

abbrev types_read : Prim → Place → List types.Done → WrittenType → Place → Prim
types_read prim o done type p = TypeApplyPrim prim o (types.listed done (LastType type)) p

types-span : (prim : Prim) (o : Place) (list : TypeList) (p : Place)
    → from_start (span_of (prim_tokens prim)).start p.span.end ≡ span_of (prim_tokens (TypeApplyPrim prim o list p))
types-span prim o list p =
    sym (span-is (prim_tokens prim ++ open_square o ∷ (type_list_tokens list ++ close_square p ∷ [])) (span_of (prim_tokens prim)).start p.span.end
    (start-append (prim_tokens prim) (open_square o ∷ (type_list_tokens list ++ close_square p ∷ [])) (prim-begins prim))
    (end-behind 0 (prim_tokens prim) (open_square o) (type_list_tokens list ++ close_square p ∷ []) ∙ end-behind o.span.end (type_list_tokens list) (close_square p) []))

types-kids : (prim : Prim) (done : List types.Done) (t : types.State) (type : WrittenType) → derived.type_of t ≡ Some type
    → spec.with_type (begun (span_of (prim_tokens prim)).start ((prim_built prim).tree ∷ type_shown.done_trees done)) (type_shown.shown t)
    ≡ begun (span_of (prim_tokens prim)).start (((prim_built prim).tree ∷ type_shown.done_trees done) ++ type_tree type ∷ [])
types-kids prim done t type e =
    ap (λ k. record { start = (span_of (prim_tokens prim)).start; kids = joined (kept_all ((prim_built prim).tree ∷ type_shown.done_trees done)) k }) (type-read-shown t type e)
    ∙ ap (λ k. record { start = (span_of (prim_tokens prim)).start; kids = k }) (joined-kept ((prim_built prim).tree ∷ type_shown.done_trees done) (type_tree type))

applied-there : (c : derived.Context) (prim : Prim) (o : Place) (done : List types.Done) (type : WrittenType) (p : Place)
    → context_with c (free_in (prim_built prim)) (spec.applied (begun (span_of (prim_tokens prim)).start (((prim_built prim).tree ∷ type_shown.done_trees done) ++ type_tree type ∷ [])) p.span.end)
    ≡ context_shown (derived.at c (derived.AtPrim (types_read prim o done type p)))
applied-there c prim o done type p =
    let tree = (prim_built prim).tree in
    let whole : Prim = types_read prim o done type p in
    let list : TypeList = types.listed done (LastType type) in
    let span = span_of (prim_tokens whole) in
    ap (λ s. context_with c (free_in (prim_built prim)) (tail.AtPrim (record { tall = unlabelled kind.TypeApply s (kept_all ((tree ∷ type_shown.done_trees done) ++ type_tree type ∷ [])); span = s }) form.Plain))
    (types-span prim o list p)
    ∙ ap (λ t. context_with c (free_in (prim_built prim)) (tail.AtPrim (record { tall = t; span = span }) form.Plain))
    (unlabelled-kept kind.TypeApply span ((tree ∷ type_shown.done_trees done) ++ type_tree type ∷ [])
    ∙ ap (λ ts. kept (unlabelled_tree kind.TypeApply span (tree ∷ ts))) (sym (listed-trees done (LastType type)) ∙ sym (plain-trees (type_list_trees list))))
    ∙ ap (λ ps. context_with c (places_shown ps) (tail.AtPrim (prim_piece whole) form.Plain))
    (sym (append-nil (prim_built prim).free) ∙ ap (λ ps. (prim_built prim).free ++ ps) (sym (plain-free (type_list_trees list))))

abbrev ends_type : Symbol → Bool
ends_type symbol.Comma = true
ends_type symbol.CloseSquare = true
ends_type _ = false

no-type : (y : Symbol) (x : Lexeme) (c : derived.Context) (prim : Prim) (o : Place) (done : List types.Done) (t : types.State) (v : Option WrittenType) → ends_type y ≡ false
    → None ≡ option_map context_shown (derived.types_on (seen_as y x) prim o done v (derived.at c (derived.InTypes prim o done t)))
no-type symbol.Comma x c prim o done t v e = cc
no-type symbol.CloseSquare x c prim o done t v e = cc
no-type _ x c prim o done t None e = refl
no-type _ x c prim o done t (Some type) e = refl

pub types-same : (y : Symbol) (x : Lexeme) (c : derived.Context) (prim : Prim) (o : Place) (done : List types.Done) (t : types.State)
    → spec.types_on (context_shown (derived.at c (derived.InTypes prim o done t))) (begun (span_of (prim_tokens prim)).start ((prim_built prim).tree ∷ type_shown.done_trees done)) (type_shown.shown t) y x.place.span.end
    ≡ option_map context_shown (derived.types_on (seen_as y x) prim o done (derived.type_of t) (derived.at c (derived.InTypes prim o done t)))
types-same symbol.Comma x c prim o done t =
    ap (λ b. spec.when b (to (spec.with_type before (type_shown.shown t)))) (type-whole t) ∙ go (derived.type_of t) refl
  where
    before : Begun
    before = begun (span_of (prim_tokens prim)).start ((prim_built prim).tree ∷ type_shown.done_trees done)

    to : Begun → Context
    to b = context_with c (free_in (prim_built prim)) (tail.InTypes b type_begun)

    go : (v : Option WrittenType) → derived.type_of t ≡ v
        → spec.when (derived.is_some v) (to (spec.with_type before (type_shown.shown t)))
        ≡ option_map context_shown (derived.types_on (seen_as symbol.Comma x) prim o done v (derived.at c (derived.InTypes prim o done t)))
    go None e = refl
    go (Some type) e = ap (λ b. Some (to b)) (types-kids prim done t type e)
types-same symbol.CloseSquare x c prim o done t =
    ap (λ b. spec.when b (to (spec.with_type before (type_shown.shown t)))) (type-whole t) ∙ go (derived.type_of t) refl
  where
    before : Begun
    before = begun (span_of (prim_tokens prim)).start ((prim_built prim).tree ∷ type_shown.done_trees done)

    to : Begun → Context
    to b = context_with c (free_in (prim_built prim)) (spec.applied b x.place.span.end)

    go : (v : Option WrittenType) → derived.type_of t ≡ v
        → spec.when (derived.is_some v) (to (spec.with_type before (type_shown.shown t)))
        ≡ option_map context_shown (derived.types_on (seen_as symbol.CloseSquare x) prim o done v (derived.at c (derived.InTypes prim o done t)))
    go None e = refl
    go (Some type) e = ap Some (ap to (types-kids prim done t type e) ∙ applied-there c prim o done type x.place)
types-same y x c prim o done t = no-type y x c prim o done t (derived.type_of t) refl

-- ---- `:` and `match`

chain-left : (c : derived.Context) (s : derived.Tail) (prim : Prim) → derived.prim_at s ≡ Some prim → AreOneSide c.operations
    → spec.chain_left (context_shown (derived.at c s))
    ≡ record {
      operand = infix_piece (chain_over c.operations c.sign prim);
      context = record {
        heads = heads_shown c.heads;
        free = free_in (joined_built (infix_chain (chain_over c.operations c.sign prim)));
        operations = [];
        sign = None;
        tail = tail.Begin;
        limit = c.limit;
      };
    }
chain-left c s prim e one = ap to (chain-shown c.operations c.sign s prim e (one-chain c.operations c.sign prim one)) where
  to : Ready → Left
  to r = record { operand = r.operand; context = record { heads = heads_shown c.heads; free = r.free; operations = []; sign = None; tail = tail.Begin; limit = c.limit } }

typed-there : (c : derived.Context) (s : derived.Tail) (point : Place) (prim : Prim) → derived.prim_at s ≡ Some prim → AreOneSide c.operations
    → Some (spec.typed_infix (spec.chain_left (context_shown (derived.at c s))))
    ≡ option_map context_shown (derived.typed_chain point (derived.at c s) (derived.chain_of c.operations c.sign (Some prim)))
typed-there c s point prim e one = ap (λ l. Some (spec.typed_infix l)) (chain-left c s prim e one)

-- what stands before the colon is no name and no `_`
from-chain : (c : derived.Context) (s : derived.Tail) (point : Place) (b : Bool) → spec.is_name_or_wild_tail (tail_shown s) ≡ false
    → derived.typed_from point b s (derived.at c s) ≡ derived.typed_chain point (derived.at c s) (derived.operand_chain (derived.at c s))
from-chain c (derived.AtName id is_sign) point b e = cc
from-chain c (derived.AtWild place) point b e = cc
from-chain c _ point true e = refl
from-chain c _ point false e = refl

colon-chain : (c : derived.Context) (s : derived.Tail) (point : Place) → AreOneSide c.operations → spec.is_name_or_wild_tail (tail_shown s) ≡ false
    → spec.on_colon (context_shown (derived.at c s)) ≡ option_map context_shown (derived.on_colon point (derived.at c s))
colon-chain c s point one e =
    ap (λ b. spec.when (spec.may_be_typed now) (if is_first now && b then spec.typed_name (tail_shown s) now else chain)) e
    ∙ ap (λ b. spec.when (spec.may_be_typed now) (if b then spec.typed_name (tail_shown s) now else chain)) (and-false (is_first now))
    ∙ ap (λ b. spec.when (b && may) chain) (operand-some s)
    ∙ go (derived.operand_at s) may refl
    ∙ ap (λ o. option_map context_shown (if may then o else None)) (sym (from-chain c s point (derived.is_first here) e))
  where
    here : derived.Context
    here = derived.at c s

    now : Context
    now = context_shown here

    chain : Context
    chain = spec.typed_infix (spec.chain_left now)

    may : Bool
    may = derived.is_expr_limit c.limit || derived.is_param_limit c.limit

    go : (o : Option Prim) (m : Bool) → derived.operand_at s ≡ o
        → spec.when (derived.is_some o && m) chain ≡ option_map context_shown (if m then derived.typed_chain point here (derived.chain_of c.operations c.sign o) else None)
    go None true f = refl
    go None false f = refl
    go (Some prim) true f = typed-there c s point prim (operand-prim s prim f) one
    go (Some prim) false f = refl

pub colon-same : (c : derived.Context) (s : derived.Tail) (point : Place) → AreOneSide c.operations
    → spec.on_colon (context_shown (derived.at c s)) ≡ option_map context_shown (derived.on_colon point (derived.at c s))
colon-same c (derived.AtName id is_sign) point one =
    ap (λ b. spec.when may (if b && true then named else chain)) (first-shown here [] (tail.AtName (name_of id) is_sign)) ∙ go may (derived.is_first here)
  where
    here : derived.Context
    here = derived.at c (derived.AtName id is_sign)

    named : Context
    named = context_with c [] (tail.InTyped (typed_of.Name (name_of id)) type_begun)

    chain : Context
    chain = spec.typed_infix (spec.chain_left (context_shown here))

    may : Bool
    may = derived.is_expr_limit c.limit || derived.is_param_limit c.limit

    go : (m b : Bool) → spec.when m (if b && true then named else chain)
        ≡ option_map context_shown (if m then derived.typed_from point b (derived.AtName id is_sign) here else None)
    go true true = refl
    go true false = typed-there c (derived.AtName id is_sign) point (NamePrim id) refl one
    go false b = refl
colon-same c (derived.AtWild place) point one =
    ap (λ b. spec.when may (if b && true then named else chain)) (first-shown here [] (tail.AtWild place.span)) ∙ go may (derived.is_first here)
  where
    here : derived.Context
    here = derived.at c (derived.AtWild place)

    named : Context
    named = context_with c [] (tail.InTyped (typed_of.Wild place.span) type_begun)

    chain : Context
    chain = spec.typed_infix (spec.chain_left (context_shown here))

    may : Bool
    may = derived.is_expr_limit c.limit || derived.is_param_limit c.limit

    go : (m b : Bool) → spec.when m (if b && true then named else chain)
        ≡ option_map context_shown (if m then derived.typed_from point b (derived.AtWild place) here else None)
    go true true = refl
    go true false = typed-there c (derived.AtWild place) point (Placeholder place) refl one
    go false b = refl
colon-same c s point one = colon-chain c s point one refl

pub match-same : (c : derived.Context) (s : derived.Tail) (word : Place) → AreOneSide c.operations
    → spec.on_match (context_shown (derived.at c s)) ≡ option_map context_shown (derived.matched word (derived.at c s) (derived.operand_chain (derived.at c s)))
match-same c s word one =
    ap (λ b. spec.when (b && derived.is_expr_limit c.limit) next) (operand-some s) ∙ go (derived.operand_at s) refl
  where
    next : Context
    next = spec.matched (spec.chain_left (context_shown (derived.at c s)))

    by : (l : Bool) (prim : Prim) → derived.prim_at s ≡ Some prim
        → spec.when l next
        ≡ option_map context_shown (if l then Some (derived.without_chain (derived.at c s) (derived.AtMatch (chain_over c.operations c.sign prim) word)) else None)
    by true prim e = ap (λ l. Some (spec.matched l)) (chain-left c s prim e one)
    by false prim e = refl

    go : (o : Option Prim) → derived.operand_at s ≡ o
        → spec.when (derived.is_some o && derived.is_expr_limit c.limit) next
        ≡ option_map context_shown (derived.matched word (derived.at c s) (derived.chain_of c.operations c.sign o))
    go None e = refl
    go (Some prim) e = by (derived.is_expr_limit c.limit) prim (operand-prim s prim e)
