-- What ends at a place: a chain of operands and operators, and the innermost expression.
use Rattle.std.proofs.Common.{◌≡◌, Bool, true, false, ◌&&◌, ◌||◌, if◌then◌else◌, List, [], ◌∷◌, ◌++◌, Option, Some, None, refl, ap, sym, ◌∙◌, append-nil}
use Rattle.source_grammar.specs.Expressions.{PrefixSign, InfixExpr, Infix, LastPrefix, MorePrefixes, Signed, Prim}
use Rattle.source_grammar.specs.ExpressionRules.{infix_operators}
use Rattle.source_grammar.specs.ExpressionTokens.{infix_tokens, prefix_tokens, prim_tokens}
use Rattle.source_grammar.specs.ExpressionTrees.{sign_span, joined_built, is_placeholder_prim, is_placeholder_infix, expr_built, infix_chain, prefix_built, prim_built}
use Rattle.source_grammar.specs.Lexemes.{Place, Lexeme}
use Rattle.source_grammar.specs.Placeholders as grammar
use Rattle.source_grammar.specs.Precedence.{are_of_one_side}
use Rattle.source_grammar.specs.Spans.{span_of}
use Rattle.source_grammar.specs.Types.{WrittenType}
use Rattle.parse_parts.specs.Reading.{is_nil}
use Rattle.parse_parts.specs.Steps.{is_none}
use Rattle.parse_parts.proofs.Kept.{kept}
use Rattle.parse_patterns.proofs.Chains.{span-end}
use Rattle.tree_lower.specs.Keeping.{places_shown}
use Rattle.tree_lower.proofs.KeptOperations.{prefixed-kept, bound-kept}
use Rattle.expr_tails.specs.declared.tails.Ready.{Ready}
use Rattle.expr_tails.specs.Ending as spec
use Rattle.expr_tails.specs.Ending.{bound_at}
use Rattle.expr_tails.specs.Operators as operators
use Rattle.expr_tails.specs.Tails.{ready}
use Rattle.expr_laws.proofs.Agreeing.{and-true, and-false}
use Rattle.expr_laws.proofs.Beginning.{prim-begins, end-of}
use Rattle.expr_laws.proofs.Chains.{settled-shown, settled-free}
use Rattle.expr_laws.proofs.Derived as derived
use Rattle.expr_laws.proofs.Derived.{settled}
use Rattle.expr_laws.proofs.Operands.{operand-shown}
use Rattle.expr_laws.proofs.Shown.{prim_piece, prefix_piece, infix_piece, expr_piece, operations_shown, operations_free, sign_shown, tail_shown, tail_free, free_in}

-- ---- what is bound

-- an expression binds what is free in it
pub bind-shown : (tokens : List Lexeme) (part : grammar.Built)
    → bound_at (ready (record { tall = kept part.tree; span = span_of tokens }) (free_in part))
    ≡ (let now = grammar.bound_over tokens part.tree part.free in ready (record { tall = kept now.tree; span = span_of tokens }) (free_in now))
bind-shown tokens part =
    ap (λ t. ready (record { tall = t; span = span_of tokens }) []) (bound-kept tokens part.tree part.free)
    ∙ ap (ready (record { tall = kept (grammar.bound_over tokens part.tree part.free).tree; span = span_of tokens })) (sym (none part.free))
  where
    none : (places : List Place) → free_in (grammar.bound_over tokens part.tree places) ≡ []
    none [] = refl
    none (p ∷ places) = refl

-- ---- one operand, with its sign

signed-piece : (s : Option PrefixSign) (prim : Prim) → spec.signed (sign_shown s) (prim_piece prim) ≡ prefix_piece (derived.signed s prim)
signed-piece None prim = refl
signed-piece (Some sign) prim =
    prefixed-kept sign (prefix_tokens (Signed sign prim)) (span_of (prim_tokens prim)) (prim_built prim)
    (ap (λ n. record { start = (sign_span sign).start; end = n }) (end-of (sign_span sign).end (prim_tokens prim) (prim-begins prim) ∙ sym (span-end (prim_tokens prim))))

pub signed-free : (s : Option PrefixSign) (prim : Prim) → free_in (prefix_built (derived.signed s prim)) ≡ free_in (prim_built prim)
signed-free None prim = refl
signed-free (Some sign) prim = ap places_shown (append-nil (prim_built prim).free)

pub signed-shown : (os : List derived.Operation) (s : Option PrefixSign) (at : derived.Tail) (prim : Prim) → derived.prim_at at ≡ Some prim
    → spec.signed_at (sign_shown s) (tail_shown at) (operations_free os ++ tail_free at)
    ≡ ready (prefix_piece (derived.signed s prim)) (operations_free os ++ free_in (prim_built prim))
signed-shown os s at prim e =
    ap (λ r. ready (spec.signed (sign_shown s) r.operand) r.free) (operand-shown at prim (operations_free os) e)
    ∙ ap (λ o. ready o (operations_free os ++ free_in (prim_built prim))) (signed-piece s prim)

-- ---- a chain

-- the chain at a tail, where this Prim ends there
abbrev pub chain_over : List derived.Operation → Option PrefixSign → Prim → Infix
chain_over os s prim = settled os (LastPrefix (derived.signed s prim))

pub chain-shown : (os : List derived.Operation) (s : Option PrefixSign) (at : derived.Tail) (prim : Prim) → derived.prim_at at ≡ Some prim
    → are_of_one_side (infix_operators (chain_over os s prim)) ≡ true
    → spec.chain_at (operations_shown os) (sign_shown s) (tail_shown at) (operations_free os ++ tail_free at)
    ≡ ready (infix_piece (chain_over os s prim)) (free_in (joined_built (infix_chain (chain_over os s prim))))
chain-shown os s at prim e one =
    ap (λ r. ready (operators.settled (operations_shown os) r.operand) r.free) (signed-shown os s at prim e)
    ∙ ap (λ o. ready o (operations_free os ++ free_in (prim_built prim))) (settled-shown os (derived.signed s prim) one)
    ∙ ap (ready (infix_piece (chain_over os s prim)))
    (ap (λ f. operations_free os ++ f) (sym (signed-free s prim)) ∙ sym (settled-free os (derived.signed s prim)))

-- ---- placeholders alone

settled-more : (os : List derived.Operation) (o : derived.Operation) (d : Infix) → is_placeholder_infix (settled os (MorePrefixes o.left o.operator d)) ≡ false
settled-more [] o d = refl
settled-more (p ∷ os) o d = settled-more os p (MorePrefixes o.left o.operator d)

-- a placeholder alone is no Prim but at its own tail
abbrev pub IsPlain : derived.Tail → Type 0
IsPlain (derived.AtPrim prim) = is_placeholder_prim prim ≡ false
IsPlain _ = Unit {0}

abbrev placeholder_in : Option Prim → Bool
placeholder_in None = false
placeholder_in (Some prim) = is_placeholder_prim prim

dotted-plain : (word : Place) (d : Option derived.Dotted) (o : Option WrittenType) (prim : Prim) → derived.dotted_prim word d o ≡ Some prim → false ≡ is_placeholder_prim prim
dotted-plain word (Some d) o prim e = ap placeholder_in e
dotted-plain word None (Some type) prim e = ap placeholder_in e
dotted-plain word None None prim e = cc

parens-plain : (o c : Place) (parens : derived.Parens) (prim : Prim) → derived.parens_prim o parens c ≡ Some prim → false ≡ is_placeholder_prim prim
parens-plain o c derived.NoElements prim e = ap placeholder_in e
parens-plain o c (derived.Elements [] x) prim e = ap placeholder_in e
parens-plain o c (derived.Elements (d ∷ []) x) prim e = ap placeholder_in e
parens-plain o c (derived.Elements (d ∷ a ∷ []) x) prim e = ap placeholder_in e
parens-plain o c (derived.Elements (d ∷ a ∷ b ∷ done) x) prim e = cc

wild-shown : (at : derived.Tail) (prim : Prim) → IsPlain at → derived.prim_at at ≡ Some prim → spec.is_wild (tail_shown at) ≡ is_placeholder_prim prim
wild-shown (derived.AtWild place) prim p e = ap placeholder_in e
wild-shown (derived.AtPrim d) prim p e = sym p ∙ ap placeholder_in e
wild-shown (derived.AtGroup o parens c head) prim p e = parens-plain o c parens prim e
wild-shown (derived.InNew word t) prim p e = dotted-plain word (derived.dotted_of t) (derived.type_of t) prim e
wild-shown (derived.AtSign id) prim p e = ap placeholder_in e
wild-shown (derived.AtName id is_sign) prim p e = ap placeholder_in e
wild-shown (derived.AtCall d args) prim p e = ap placeholder_in e
wild-shown (derived.AtDot d point) prim p e = ap placeholder_in e
wild-shown (derived.AtNew word type) prim p e = ap placeholder_in e
wild-shown _ prim p e = cc

no-semi : (at : derived.Tail) (prim : Prim) → derived.prim_at at ≡ Some prim → spec.is_semi (tail_shown at) ≡ false
no-semi (derived.AtSemi expr p ps) prim e = cc
no-semi (derived.AtGuardSemi test p ps) prim e = cc
no-semi _ prim e = refl

alone-shown : (os : List derived.Operation) (s : Option PrefixSign) (w : Bool) (prim : Prim) → w ≡ is_placeholder_prim prim
    → (w && (is_nil (operations_shown os) && is_none (sign_shown s))) ≡ is_placeholder_infix (chain_over os s prim)
alone-shown [] None w prim e = and-true w ∙ e
alone-shown [] (Some sign) w prim e = and-false w
alone-shown (o ∷ os) s w prim e = and-false w ∙ sym (settled-more os o (LastPrefix (derived.signed s prim)))

stays-shown : (os : List derived.Operation) (s : Option PrefixSign) (at : derived.Tail) (prim : Prim) → IsPlain at → derived.prim_at at ≡ Some prim
    → spec.stays_free (operations_shown os) (sign_shown s) (tail_shown at) ≡ is_placeholder_infix (chain_over os s prim)
stays-shown os s at prim p e =
    ap (λ b. b || (spec.is_wild (tail_shown at) && (is_nil (operations_shown os) && is_none (sign_shown s)))) (no-semi at prim e)
    ∙ alone-shown os s (spec.is_wild (tail_shown at)) prim (wild-shown at prim p e)

-- ---- the innermost expression

-- an Infix that is an expression
pub infix-shown : (os : List derived.Operation) (s : Option PrefixSign) (at : derived.Tail) (prim : Prim) → IsPlain at → derived.prim_at at ≡ Some prim
    → are_of_one_side (infix_operators (chain_over os s prim)) ≡ true
    → spec.innermost (operations_shown os) (sign_shown s) (tail_shown at) (operations_free os ++ tail_free at)
    ≡ ready (expr_piece (InfixExpr (chain_over os s prim))) (free_in (expr_built (InfixExpr (chain_over os s prim))))
infix-shown os s at prim p e one =
    ap (λ r. if spec.stays_free (operations_shown os) (sign_shown s) (tail_shown at) then r else bound_at r) (chain-shown os s at prim e one)
    ∙ ap (λ b. if b then read else bound_at read) (stays-shown os s at prim p e)
    ∙ go (is_placeholder_infix d)
  where
    d : Infix
    d = chain_over os s prim

    read : Ready
    read = ready (infix_piece d) (free_in (joined_built (infix_chain d)))

    go : (b : Bool) → (if b then read else bound_at read)
        ≡ (let part = grammar.bound b (infix_tokens d) (joined_built (infix_chain d)) in ready (record { tall = kept part.tree; span = span_of (infix_tokens d) }) (free_in part))
    go true = refl
    go false = bind-shown (infix_tokens d) (joined_built (infix_chain d))
