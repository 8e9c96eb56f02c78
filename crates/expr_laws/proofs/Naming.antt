-- Names, literals and `_` where an operand is read, the reader as the machine.
use Rattle.std.proofs.Common.{◌≡◌, Bool, true, false, ◌&&◌, if◌then◌else◌, List, [], ◌∷◌, ◌++◌, Option, Some, None, option_map, codes, refl, ap, sym, ◌∙◌, append-nil, ◌||◌}
use Rattle.std.specs.Prelude.{not}
use Rattle.pc_terms.specs.declared.problems.Span.{Span}
use Rattle.pc_terms.specs.declared.tree_kinds.TreeKind.TheVariants as kind
use Rattle.scan_tokens.specs.declared.tokens.Newline.{Newline}
use Rattle.source_grammar.specs.Expressions.{NamePrim, Placeholder, Prim, SelectPrim, SelectHole, ApplyPrim, EtaPrim, NewOf, Prefix}
use Rattle.source_grammar.specs.ExpressionRules.{is_prefix_id}
use Rattle.source_grammar.specs.ExpressionTokens.{prim_tokens}
use Rattle.source_grammar.specs.ExpressionTrees.{prim_built, prefix_built}
use Rattle.source_grammar.specs.Lexemes.{Place, Lexeme, dot, underscore, Id, id_token, number_token}
use Rattle.source_grammar.specs.Spans.{from_to, span_of}
use Rattle.parse_parts.specs.Built.{node, alone}
use Rattle.parse_parts.proofs.Kept.{kept, alone-kept, node-kept}
use Rattle.parse_parts.proofs.Shown.{end-behind}
use Rattle.parse_patterns.specs.Names.{id_of}
use Rattle.parse_patterns.specs.Steps.{is_no}
use Rattle.parse_patterns.proofs.Chains.{start-append, span-is}
use Rattle.parse_patterns.proofs.Seen.{literal_of, number_as, number-literal}
use Rattle.tree_lower.specs.Keeping.{name_of, places_shown}
use Rattle.tree_lower.specs.Lowering.{unlabelled}
use Rattle.tree_lower.proofs.KeptTrees.{unlabelled-kept, leaf-kept}
use Rattle.expr_tails.specs.declared.tails.Ready.{Ready}
use Rattle.expr_tails.specs.declared.states.Context.{Context}
use Rattle.expr_tails.specs.declared.states.Form.TheVariants as form
use Rattle.expr_tails.specs.declared.states.Tail.TheVariants as tail
use Rattle.expr_tails.specs.Ending.{at_tail}
use Rattle.expr_tails.specs.Operators.{pushed, fits}
use Rattle.expr_tails.specs.Tails.{is_before_operator, is_hole_form}
use Rattle.expr_frames.specs.declared.frames.Left.{Left}
use Rattle.expr_frames.specs.Frames.{is_receiver, takes_args, may_stand, left}
use Rattle.expr_steps.specs.Steps as spec
use Rattle.expr_laws.proofs.Agreeing.{begin-shown, stand-shown, operand-some, and-true, and-false}
use Rattle.expr_laws.proofs.Beginning.{prim-begins, span-behind}
use Rattle.expr_laws.proofs.Begins.{literal-same}
use Rattle.expr_laws.proofs.Chains.{fits-shown}
use Rattle.expr_laws.proofs.Derived as derived
use Rattle.expr_laws.proofs.Ended.{signed-free, signed-shown}
use Rattle.expr_laws.proofs.Operands.{operand-shown}
use Rattle.expr_laws.proofs.Shown.{prim_piece, form_of, operations_shown, operations_free, sign_shown, tail_shown, free_in, heads_shown, context_with, context_shown, prefix_piece}
use Rattle.source_grammar.specs.Newlines.{is_near}
use Rattle.parse_patterns.specs.declared.states.Operand.{Operand}

-- ---- what stands at a tail

pub is-there : {A : Type 0} (o : Option A) → derived.is_some o ≡ true → (a : A) × (o ≡ Some a)
is-there None e = cc
is-there (Some a) e = (a, refl)

pub operand-prim : (s : derived.Tail) (prim : Prim) → derived.operand_at s ≡ Some prim → derived.prim_at s ≡ Some prim
operand-prim (derived.AtDot d point) prim e = cc
operand-prim (derived.InNew word t) prim e = cc
operand-prim _ prim e = e

pub receiver-prim : (s : derived.Tail) (prim : Prim) → derived.receiver_at s ≡ Some prim → derived.prim_at s ≡ Some prim
receiver-prim (derived.AtSign id) prim e = cc
receiver-prim (derived.AtName id true) prim e = cc
receiver-prim (derived.AtName id false) prim e = e
receiver-prim (derived.AtNew word type) prim e = cc
receiver-prim (derived.AtDot d point) prim e = cc
receiver-prim (derived.InNew word t) prim e = cc
receiver-prim _ prim e = e

pub receiver-some : (s : derived.Tail) → is_receiver (tail_shown s) ≡ derived.is_some (derived.receiver_at s)
receiver-some (derived.AtName id true) = refl
receiver-some (derived.AtName id false) = refl
receiver-some (derived.AtGroup o parens c h) = operand-some (derived.AtGroup o parens c h)
receiver-some _ = refl

-- where no parameter alone may stand
unless-param : (p : Bool) (o : Option Prim) → (derived.is_some o && not p) ≡ derived.is_some (if p then None else o)
unless-param true o = and-false (derived.is_some o)
unless-param false o = and-true (derived.is_some o)

pub args-shown : (c : derived.Context) (s : derived.Tail) → takes_args (context_shown (derived.at c s)) ≡ derived.is_some (derived.receiver (derived.at c s))
args-shown c s = ap (λ b. b && not (derived.is_param_limit c.limit)) (receiver-some s) ∙ unless-param (derived.is_param_limit c.limit) (derived.receiver_at s)

-- the operand, and the context before it
pub left-shown : (c : derived.Context) (s : derived.Tail) (prim : Prim) → derived.prim_at s ≡ Some prim
    → left (context_shown (derived.at c s)) ≡ record { operand = prim_piece prim; context = context_with c (free_in (prim_built prim)) tail.Begin }
left-shown c s prim e =
    ap to (operand-shown s prim (operations_free c.operations) e)
  where
    to : Ready → Left
    to r = record {
      operand = r.operand;
      context = record { heads = heads_shown c.heads; free = r.free; operations = operations_shown c.operations; sign = sign_shown c.sign; tail = tail.Begin; limit = c.limit };
    }

-- ---- operators

hole-form : (prim : Prim) → (if is_hole_form (form_of prim) then false else true) ≡ not (derived.is_hole prim)
hole-form (SelectPrim prim point id) = refl
hole-form (SelectHole prim point) = refl
hole-form _ = refl

operator-shown : (s : derived.Tail) → is_before_operator (tail_shown s) ≡ derived.is_before_operator s
operator-shown (derived.AtName id true) = refl
operator-shown (derived.AtName id false) = refl
operator-shown (derived.AtPrim prim) = hole-form prim
operator-shown (derived.AtGroup o parens c h) = operand-some (derived.AtGroup o parens c h)
operator-shown _ = refl

some-prim : (s : derived.Tail) → derived.is_before_operator s ≡ true → (prim : Prim) × (derived.prim_at s ≡ Some prim)
some-prim (derived.AtName id is_sign) e = (NamePrim id, refl)
some-prim (derived.AtWild place) e = (Placeholder place, refl)
some-prim (derived.AtGroup o parens c h) e = is-there (derived.parens_prim o parens c) e
some-prim (derived.AtPrim prim) e = (prim, refl)
some-prim (derived.AtCall prim args) e = (ApplyPrim prim args, refl)
some-prim (derived.AtNew word type) e = (NewOf word type, refl)
some-prim _ e = cc

operated-same : (c : derived.Context) (s : derived.Tail) (id : Id) (prim : Prim) → derived.prim_at s ≡ Some prim
    → Some (spec.operated (context_shown (derived.at c s)) (name_of id)) ≡ option_map context_shown (derived.operated (derived.at c s) id (Some prim))
operated-same c s id prim e =
    ap (λ r. to r.operand r.free) (signed-shown c.operations c.sign s prim e)
    ∙ ap (to (prefix_piece prefix))
    (ap (λ f. operations_free c.operations ++ f) (sym (signed-free c.sign prim)) ∙ sym (append-nil (operations_free c.operations ++ free_in (prefix_built prefix))))
  where
    prefix : Prefix
    prefix = derived.signed c.sign prim

    to : Operand → List Span → Option Context
    to operand free = Some (record {
      heads = heads_shown c.heads;
      free = free;
      operations = pushed (operations_shown c.operations) operand (name_of id);
      sign = None;
      tail = tail.Begin;
      limit = c.limit;
    })

-- ---- names

name-begins : (c : derived.Context) (s : derived.Tail) (before : Newline) → spec.may_begin_name (context_shown (derived.at c s)) before ≡ derived.may_begin_name (derived.at c s) before
name-begins c s before =
    ap (λ b. if derived.is_param_limit c.limit then b else may_stand (context_shown (derived.at c s)) before) (begin-shown s)
    ∙ ap (λ b. if derived.is_param_limit c.limit then derived.is_begin s else b) (stand-shown (derived.at c s) before)

not-begin : (c : derived.Context) (s : derived.Tail) (before : Newline) → derived.is_begin s ≡ false → derived.may_begin_name (derived.at c s) before ≡ false
not-begin c s before e =
    ap (λ b. if derived.is_param_limit c.limit then b else (b && (not (derived.is_param_limit c.limit) && (derived.is_first (derived.at c s) || (derived.is_some c.sign || is_near before))))) e
    ∙ go (derived.is_param_limit c.limit)
  where
    go : (p : Bool) → (if p then false else false) ≡ false
    go true = refl
    go false = refl

tail-named : (c : derived.Context) (x : Lexeme)
    → at_tail (context_shown (derived.at c derived.Begin)) (spec.named_tail x) ≡ context_shown (derived.at c (derived.named_tail (id_of x)))
tail-named c x = go (is_prefix_id (id_of x)) where
  go : (b : Bool)
      → at_tail (context_shown (derived.at c derived.Begin)) (if b then tail.AtSign (spec.name_of x) else tail.AtName (spec.name_of x) false)
      ≡ context_shown (derived.at c (if b then derived.AtSign (id_of x) else derived.AtName (id_of x) false))
  go true = refl
  go false = refl

select-span : (prim : Prim) (point : Place) (id : Id) → from_to (span_of (prim_tokens prim)) id.place.span ≡ span_of (prim_tokens (SelectPrim prim point id))
select-span prim point id =
    sym (span-is (prim_tokens prim ++ dot point ∷ id_token id ∷ []) (span_of (prim_tokens prim)).start id.place.span.end
    (start-append (prim_tokens prim) (dot point ∷ id_token id ∷ []) (prim-begins prim))
    (end-behind 0 (prim_tokens prim) (dot point) (id_token id ∷ [])))

pub selected-piece : (prim : Prim) (point : Place) (id : Id) → spec.selected (prim_piece prim) (name_of id) ≡ prim_piece (SelectPrim prim point id)
selected-piece prim point id =
    let tree = (prim_built prim).tree in
    let span = span_of (prim_tokens (SelectPrim prim point id)) in
    ap (λ s. record { tall = node kind.Select id.name id.place.span s (alone (kept tree)); span = s }) (select-span prim point id)
    ∙ ap (λ t. record { tall = t; span = span })
    (ap (node kind.Select id.name id.place.span span) (alone-kept tree) ∙ node-kept kind.Select id.name id.place.span span (tree ∷ []))

-- the name behind a `.`
behind-same : (c : derived.Context) (s : derived.Tail) (id : Id)
    → spec.name_behind (tail_shown s) (context_shown (derived.at c s)) (name_of id) ≡ option_map context_shown (derived.name_behind id s (derived.at c s))
behind-same c (derived.AtDot prim point) id =
    ap (λ o. Some (context_with c (free_in (prim_built prim)) (tail.AtPrim o form.Select))) (selected-piece prim point id)
    ∙ ap (λ ps. Some (context_with c (places_shown ps) (tail.AtPrim (prim_piece (SelectPrim prim point id)) form.Select))) (sym (append-nil (prim_built prim).free))
behind-same c (derived.AtSuperDot word point) id =
    ap (λ t. Some (context_with c [] (tail.AtPrim (record { tall = t; span = from_to word.span id.place.span }) form.Plain)))
    (node-kept kind.Super id.name id.place.span (from_to word.span id.place.span) [])
behind-same c _ id = refl

pub named-same : (c : derived.Context) (s : derived.Tail) (x : Lexeme)
    → spec.on_id (context_shown (derived.at c s)) x ≡ option_map context_shown (derived.on_id (id_of x) (derived.at c s))
named-same c derived.Begin x =
    ap (λ b. if b then begun else None) (name-begins c derived.Begin x.place.before) ∙ go (derived.may_begin_name (derived.at c derived.Begin) x.place.before)
  where
    begun : Option Context
    begun = Some (at_tail (context_shown (derived.at c derived.Begin)) (spec.named_tail x))

    go : (b : Bool) → (if b then begun else None) ≡ option_map context_shown (if b then Some (derived.at c (derived.named_tail (id_of x))) else None)
    go true = ap Some (tail-named c x)
    go false = refl
named-same c s x =
    ap (λ b. if b then Some (at_tail now (spec.named_tail x)) else (if is_before_operator (tail_shown s) && (is_no x.place.before && (not (derived.is_param_limit c.limit) && fits (operations_shown c.operations) x.word)) then operated else behind))
    (name-begins c s x.place.before ∙ not-begin c s x.place.before refl)
    ∙ ap (λ b. if b && (is_no x.place.before && (not (derived.is_param_limit c.limit) && fits (operations_shown c.operations) x.word)) then operated else behind) (operator-shown s)
    ∙ ap (λ b. if derived.is_before_operator s && (is_no x.place.before && (not (derived.is_param_limit c.limit) && b)) then operated else behind) (fits-shown c.operations (id_of x))
    ∙ go (derived.is_before_operator s) (is_no x.place.before && (not (derived.is_param_limit c.limit) && derived.fits c.operations (id_of x))) refl
    ∙ ap (λ b. option_map context_shown (if b then Some (derived.at here (derived.named_tail (id_of x))) else next)) (sym (not-begin c s x.place.before refl))
  where
    here : derived.Context
    here = derived.at c s

    now : Context
    now = context_shown here

    operated : Option Context
    operated = Some (spec.operated now (spec.name_of x))

    behind : Option Context
    behind = spec.name_behind (tail_shown s) now (spec.name_of x)

    next : Option derived.Context
    next =
        if derived.is_before_operator s && (is_no x.place.before && (not (derived.is_param_limit c.limit) && derived.fits c.operations (id_of x)))
        then derived.operated here (id_of x) (derived.prim_at s) else derived.name_behind (id_of x) s here

    go : (k r : Bool) → derived.is_before_operator s ≡ k
        → (if k && r then operated else behind)
        ≡ option_map context_shown (if k && r then derived.operated here (id_of x) (derived.prim_at s) else derived.name_behind (id_of x) s here)
    go true true e =
        (let p = some-prim s e in operated-same c s (id_of x) p.0 p.1 ∙ ap (λ o. option_map context_shown (derived.operated here (id_of x) o)) (sym p.1))
    go true false e = behind-same c s (id_of x)
    go false r e = behind-same c s (id_of x)

-- ---- numbers

pub number-same : (c : derived.Context) (s : derived.Tail) (x : Lexeme) → number_token (number_as x) ≡ x
    → spec.number_at (tail_shown s) (context_shown (derived.at c s)) x ≡ option_map context_shown (derived.on_number (number_as x) s (derived.at c s))
number-same c (derived.AtSign id) x e =
    ap (λ t. Some (context_with c [] (tail.AtPrim (record { tall = t; span = from_to id.place.span x.place.span }) form.Plain)))
    (leaf-kept kind.Literal (codes "-" ++ x.word) (from_to id.place.span x.place.span))
number-same c s x e = literal-same c s (literal_of (number_as x)) x (number-literal (number_as x) ∙ e)

-- ---- `_`

pub not-param : (p : Bool) (o : Option Prim) (prim : Prim) → (if p then None else o) ≡ Some prim → o ≡ Some prim
not-param true o prim e = cc
not-param false o prim e = e

eta-there : (c : derived.Context) (s : derived.Tail) (place : Place) (prim : Prim) → derived.prim_at s ≡ Some prim
    → spec.eta (left (context_shown (derived.at c s))) place.span.end ≡ context_shown (derived.at c (derived.AtPrim (EtaPrim prim place)))
eta-there c s place prim e =
    let tree = (prim_built prim).tree in
    let span = span_of (prim_tokens (EtaPrim prim place)) in
    ap (λ l. spec.eta l place.span.end) (left-shown c s prim e)
    ∙ ap (λ n. context_with c (free_in (prim_built prim)) (tail.AtPrim (record { tall = unlabelled kind.Eta n (alone (kept tree)); span = n }) form.Plain))
    (sym (span-behind (prim_tokens prim) (underscore place) (prim-begins prim)))
    ∙ ap (λ t. context_with c (free_in (prim_built prim)) (tail.AtPrim (record { tall = t; span = span }) form.Plain))
    (ap (unlabelled kind.Eta span) (alone-kept tree) ∙ unlabelled-kept kind.Eta span (tree ∷ []))
    ∙ ap (λ ps. context_with c (places_shown ps) (tail.AtPrim (prim_piece (EtaPrim prim place)) form.Plain)) (sym (append-nil (prim_built prim).free))

eta-same : (c : derived.Context) (s : derived.Tail) (place : Place)
    → spec.when (spec.takes_underscore (context_shown (derived.at c s)) place.before) (spec.eta (left (context_shown (derived.at c s))) place.span.end)
    ≡ option_map context_shown (if is_no place.before then derived.eta place (derived.at c s) (derived.eta_receiver (derived.at c s)) else None)
eta-same c (derived.AtNew word type) place = go (is_no place.before) where
  go : (n : Bool)
      → spec.when n (spec.eta (left (context_shown (derived.at c (derived.AtNew word type)))) place.span.end)
      ≡ option_map context_shown (if n then derived.eta place (derived.at c (derived.AtNew word type)) (Some (NewOf word type)) else None)
  go true = ap Some (eta-there c (derived.AtNew word type) place (NewOf word type) refl)
  go false = refl
eta-same c s place =
    ap (λ b. spec.when ((b || false) && is_no place.before) (spec.eta (left (context_shown (derived.at c s))) place.span.end)) (args-shown c s)
    ∙ go (derived.receiver (derived.at c s)) (is_no place.before) refl
  where
    go : (o : Option Prim) (n : Bool) → derived.receiver (derived.at c s) ≡ o
        → spec.when ((derived.is_some o || false) && n) (spec.eta (left (context_shown (derived.at c s))) place.span.end)
        ≡ option_map context_shown (if n then derived.eta place (derived.at c s) o else None)
    go None true e = refl
    go None false e = refl
    go (Some prim) true e = ap Some (eta-there c s place prim (receiver-prim s prim (not-param (derived.is_param_limit c.limit) (derived.receiver_at s) prim e)))
    go (Some prim) false e = refl

pub underscore-same : (c : derived.Context) (s : derived.Tail) (place : Place)
    → spec.on_underscore (context_shown (derived.at c s)) place.before place.span ≡ option_map context_shown (derived.on_underscore place (derived.at c s))
underscore-same c derived.Begin place =
    ap (λ b. if b then begun else None) (name-begins c derived.Begin place.before)
    ∙ go (derived.may_begin_name (derived.at c derived.Begin) place.before) (is_no place.before) (derived.is_param_limit c.limit)
  where
    begun : Option Context
    begun = Some (at_tail (context_shown (derived.at c derived.Begin)) (tail.AtWild place.span))

    go : (b n p : Bool) → (if b then begun else None)
        ≡ option_map context_shown (if b then Some (derived.at c (derived.AtWild place)) else (if n then derived.eta place (derived.at c derived.Begin) (if p then None else None) else None))
    go true n p = refl
    go false true true = refl
    go false true false = refl
    go false false p = refl
underscore-same c s place =
    ap (λ b. if b then Some (at_tail (context_shown (derived.at c s)) (tail.AtWild place.span)) else spec.when (spec.takes_underscore (context_shown (derived.at c s)) place.before) (spec.eta (left (context_shown (derived.at c s))) place.span.end))
    (name-begins c s place.before ∙ not-begin c s place.before refl)
    ∙ eta-same c s place
    ∙ ap (λ b. option_map context_shown (if b then Some (derived.at c (derived.AtWild place)) else (if is_no place.before then derived.eta place (derived.at c s) (derived.eta_receiver (derived.at c s)) else None)))
    (sym (not-begin c s place.before refl))
