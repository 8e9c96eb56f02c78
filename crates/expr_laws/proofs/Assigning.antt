-- `=`, `=>` and `yield`, behind which an expression begins, the reader as the machine.
use Rattle.std.proofs.Common.{◌≡◌, Bool, true, false, ◌&&◌, if◌then◌else◌, List, [], ◌∷◌, ◌++◌, map, Option, Some, None, option_map, refl, ap, sym, ◌∙◌, append_assoc, append-nil}
use Rattle.pc_terms.specs.declared.problems.Span.{Span}
use Rattle.pc_terms.specs.declared.tree_kinds.TreeKind.TheVariants as kind
use Rattle.positioned_trees.specs.declared.details.Name.{Name}
use Rattle.positioned_trees.specs.declared.trees.Tree.{Tree}
use Rattle.source_grammar.specs.Definitions.{NoType, OfType, Behind, Listed, Nothing, Items, behind_items, items}
use Rattle.source_grammar.specs.Expressions.{LPar, NamedLPar, WildLPar, LamHead, NamedHead, WildHead, LParHead, PrefixSign, Prim, SelectPrim, SelectHole, ApplyPrim, Lambda, ForRound, ForCurly, AssignName, AssignSelect, AssignApply}
use Rattle.source_grammar.specs.ExpressionTokens.{lpar_tokens, head_tokens, prim_tokens}
use Rattle.source_grammar.specs.ExpressionTrees.{lpar_tree, head_trees, ident, prim_built, args_built}
use Rattle.source_grammar.specs.Lexemes.{Place, dot, id_token, Arrow, equals, Lexeme, arrow_token}
use Rattle.source_grammar.specs.Placeholders.{lambda_param, trees_of}
use Rattle.source_grammar.specs.Spans.{span_of, labelled, with_detail}
use Rattle.source_grammar.specs.Types.{type_tree}
use Rattle.parse_parts.specs.Built.{no_kids, alone, joined}
use Rattle.parse_parts.proofs.Kept.{kept, kept_all, alone-kept, joined-kept, node-kept}
use Rattle.parse_patterns.proofs.Chains.{start-append}
use Rattle.tree_lower.specs.Keeping.{name_of, places_shown}
use Rattle.tree_lower.specs.Lowering.{detailed, param}
use Rattle.tree_lower.proofs.KeptTrees.{detailed-kept, leaf-kept}
use Rattle.expr_tails.specs.declared.states.Begun.{Begun}
use Rattle.expr_tails.specs.declared.states.Context.{Context}
use Rattle.expr_tails.specs.declared.states.HeadKind.TheVariants as head
use Rattle.expr_tails.specs.declared.states.Limit.{Limit}
use Rattle.expr_tails.specs.declared.states.Tail.TheVariants as tail
use Rattle.expr_tails.specs.Tails.{element_param}
use Rattle.expr_frames.specs.Heads.{with_head}
use Rattle.expr_steps.specs.Steps as spec
use Rattle.expr_steps.specs.Steps.{element_params}
use Rattle.expr_laws.proofs.Agreeing.{head-shown}
use Rattle.expr_laws.proofs.Beginning.{prim-begins, head-begins}
use Rattle.expr_laws.proofs.Begins.{may-begin-shown, first-none}
use Rattle.expr_laws.proofs.Decided.{behind-head}
use Rattle.expr_laws.proofs.Derived as derived
use Rattle.expr_laws.proofs.Fitting.{TailFits}
use Rattle.expr_laws.proofs.Shown.{operations_shown, operations_free, sign_shown, wild_name, param_shown, element_shown, done_elements, parens_shown, tail_shown, free_in, tail_free, heads_shown, context_shown, head_start}
use Rattle.scan_tokens.specs.declared.tokens.Newline.TheVariants.{No}

-- a head is the first of its chain
may-first : (os : List derived.Operation) (s : Option PrefixSign) (b : Bool) → ((derived.is_nil os && derived.is_none s) && b) ≡ true → os ≡ []
may-first [] s b e = refl
may-first (o ∷ os) s b e = cc

-- ---- `=`

-- it begins where the Prim in front of it does
same-start : (prim : Prim) (xs ys : List Lexeme) → (span_of (prim_tokens prim ++ xs)).start ≡ (span_of (prim_tokens prim ++ ys)).start
same-start prim xs ys = start-append (prim_tokens prim) xs (prim-begins prim) ∙ sym (start-append (prim_tokens prim) ys (prim-begins prim))

prim-equals : (c : derived.Context) (prim : Prim) (sign : Place) → c.operations ≡ []
    → spec.equals_at (tail_shown (derived.AtPrim prim)) (context_shown (derived.at c (derived.AtPrim prim)))
    ≡ option_map context_shown (derived.equals_at sign (derived.AtPrim prim) (derived.at c (derived.AtPrim prim)))
prim-equals c (SelectPrim prim point id) sign none =
    let here : derived.Context = derived.at c (derived.AtPrim (SelectPrim prim point id)) in
    let tree = (prim_built (SelectPrim prim point id)).tree in
    ap (λ n. Some (with_head (context_shown here) n (head.Assign (alone (kept tree))))) (same-start prim (dot point ∷ id_token id ∷ []) (dot point ∷ id_token id ∷ equals sign ∷ []))
    ∙ ap (λ k. Some (with_head (context_shown here) (head_start (derived.Of (AssignSelect prim point id sign))) (head.Assign k))) (alone-kept tree)
    ∙ ap Some (behind-head here (derived.Of (AssignSelect prim point id sign)) (free_in (prim_built (SelectPrim prim point id))) (tail_shown here.tail) none
    (ap places_shown (append-nil (prim_built prim).free)))
prim-equals c (SelectHole prim point) sign none = refl
prim-equals c _ sign none = refl

equals-there : (c : derived.Context) (s : derived.Tail) (sign : Place) → c.operations ≡ []
    → spec.equals_at (tail_shown s) (context_shown (derived.at c s)) ≡ option_map context_shown (derived.equals_at sign s (derived.at c s))
equals-there c (derived.AtName id is_sign) sign none =
    let here : derived.Context = derived.at c (derived.AtName id is_sign) in
    ap (λ k. Some (with_head (context_shown here) id.place.span.start (head.Assign k))) (ap alone (leaf-kept kind.Ident id.name id.place.span) ∙ alone-kept (ident id).tree)
    ∙ ap Some (behind-head here (derived.Of (AssignName id sign)) [] (tail_shown here.tail) none refl)
equals-there c (derived.AtPrim prim) sign none = prim-equals c prim sign none
equals-there c (derived.AtCall prim args) sign none =
    let here : derived.Context = derived.at c (derived.AtCall prim args) in
    ap (λ n. Some (with_head (context_shown here) n (head.Update (kept (prim_built prim).tree) (kept_all (trees_of (args_built args)))))) (sym (start-append (prim_tokens (ApplyPrim prim args)) (equals sign ∷ []) (prim-begins (ApplyPrim prim args))))
    ∙ ap Some (behind-head here (derived.Of (AssignApply prim args sign)) (tail_free here.tail) (tail_shown here.tail) none refl)
equals-there c _ sign none = refl

pub equals-same : (c : derived.Context) (s : derived.Tail) (sign : Place)
    → spec.on_equals (context_shown (derived.at c s))
    ≡ option_map context_shown (if derived.may_head (derived.at c s) then derived.equals_at sign s (derived.at c s) else None)
equals-same c s sign =
    ap (λ b. if b then spec.equals_at (tail_shown s) (context_shown (derived.at c s)) else None) (head-shown (derived.at c s) (tail_free s) (tail_shown s))
    ∙ go (derived.may_head (derived.at c s)) refl
  where
    go : (m : Bool) → derived.may_head (derived.at c s) ≡ m
        → (if m then spec.equals_at (tail_shown s) (context_shown (derived.at c s)) else None)
        ≡ option_map context_shown (if m then derived.equals_at sign s (derived.at c s) else None)
    go true e = equals-there c s sign (may-first c.operations c.sign (derived.is_expr_limit c.limit) e)
    go false e = refl

-- ---- parameters

param-kept : (name : Name) (binds : Bool) (span : Span) (kids : List Tree)
    → param name binds span (kept_all kids) ≡ kept (with_detail (lambda_param binds) (labelled kind.Param name.text name.span span kids))
param-kept name binds span kids =
    ap (detailed (lambda_param binds)) (node-kept kind.Param name.text name.span span kids)
    ∙ detailed-kept (lambda_param binds) (labelled kind.Param name.text name.span span kids)

lpar-shown : (p : LPar) → element_param (param_shown p) ≡ kept (lpar_tree p)
lpar-shown (NamedLPar id NoType) = param-kept (name_of id) true id.place.span []
lpar-shown (WildLPar place NoType) = param-kept (wild_name place) false place.span []
lpar-shown (NamedLPar id (OfType point type)) =
    let span = span_of (lpar_tokens (NamedLPar id (OfType point type))) in
    ap (param (name_of id) true span) (alone-kept (type_tree type)) ∙ param-kept (name_of id) true span (type_tree type ∷ [])
lpar-shown (WildLPar place (OfType point type)) =
    let span = span_of (lpar_tokens (WildLPar place (OfType point type))) in
    ap (param (wild_name place) false span) (alone-kept (type_tree type)) ∙ param-kept (wild_name place) false span (type_tree type ∷ [])

all-params : (ts : List Tree) (ps : List LPar) → element_params (kept_all ts) (map param_shown ps) ≡ kept_all (ts ++ map lpar_tree ps)
all-params ts [] = ap kept_all (sym (append-nil ts))
all-params ts (p ∷ ps) =
    ap (λ k. element_params (joined (kept_all ts) k) (map param_shown ps)) (lpar-shown p)
    ∙ ap (λ k. element_params k (map param_shown ps)) (joined-kept ts (lpar_tree p))
    ∙ all-params (ts ++ lpar_tree p ∷ []) ps
    ∙ ap kept_all (append_assoc ts (lpar_tree p ∷ []) (map lpar_tree ps))

none-before : (done : List derived.DoneElement) (bs : List (Behind LPar)) → derived.params_before done None bs ≡ None
none-before [] bs = refl
none-before (d ∷ done) bs = refl

-- elements that are all parameters
elements-are : (done : List derived.DoneElement) (p : LPar) (bs : List (Behind LPar)) (lpars : Listed LPar) → derived.params_before done (Some p) bs ≡ Some lpars
    → done_elements done ++ param_shown p ∷ map param_shown (behind_items bs) ≡ map param_shown (items lpars)
elements-are [] p bs lpars e = (let same : Items p bs ≡ lpars = cc in ap (λ l. map param_shown (items l)) same)
elements-are (d ∷ done) p bs lpars e = go d.element refl e (λ q f. elements-are done q (record { comma = d.place; item = p } ∷ bs) lpars f) where
  go : (x : derived.Element) → d.element ≡ x
      → derived.params_before done (derived.element_param x) (record { comma = d.place; item = p } ∷ bs) ≡ Some lpars
      → ((q : LPar) → derived.params_before done (Some q) (record { comma = d.place; item = p } ∷ bs) ≡ Some lpars
      → done_elements done ++ param_shown q ∷ (param_shown p ∷ map param_shown (behind_items bs)) ≡ map param_shown (items lpars))
      → (done_elements done ++ element_shown d.element ∷ []) ++ param_shown p ∷ map param_shown (behind_items bs) ≡ map param_shown (items lpars)
  go (derived.ParamElement q) f g on =
      ap (λ y. (done_elements done ++ element_shown y ∷ []) ++ param_shown p ∷ map param_shown (behind_items bs)) f
      ∙ append_assoc (done_elements done) (param_shown q ∷ []) (param_shown p ∷ map param_shown (behind_items bs))
      ∙ on q g
  go (derived.ExprElement x) f g on =
      (let gone : None ≡ Some lpars = sym (none-before done (record { comma = d.place; item = p } ∷ bs)) ∙ g in cc)

group-params : (parens : derived.Parens) (lpars : Listed LPar) → derived.params_of parens ≡ Some lpars → element_params no_kids (parens_shown parens) ≡ kept_all (map lpar_tree (items lpars))
group-params derived.NoElements lpars e = (let same : Nothing ≡ lpars = cc in ap (λ l. kept_all (map lpar_tree (items l))) same)
group-params (derived.Elements done (derived.ParamElement p)) lpars e = ap (element_params no_kids) (elements-are done p [] lpars e) ∙ all-params [] (items lpars)
group-params (derived.Elements done (derived.ExprElement x)) lpars e = (let gone : None ≡ Some lpars = sym (none-before done []) ∙ e in cc)

-- ---- `=>`

abbrev head_begun : LamHead → Begun
head_begun h = record { start = (span_of (head_tokens h)).start; kids = kept_all (head_trees h) }

one-param : (name : Name) (binds : Bool) → alone (param name binds name.span no_kids) ≡ kept_all (with_detail (lambda_param binds) (labelled kind.Param name.text name.span name.span []) ∷ [])
one-param name binds = ap alone (param-kept name binds name.span []) ∙ alone-kept (with_detail (lambda_param binds) (labelled kind.Param name.text name.span name.span []))

pub params-shown : (s : derived.Tail) (h : LamHead) → derived.head_at s ≡ Some h → spec.params_at (tail_shown s) ≡ head_begun h
params-shown (derived.AtSign id) h e =
    (let same : NamedHead id ≡ h = cc in ap (λ k. record { start = id.place.span.start; kids = k }) (one-param (name_of id) true) ∙ ap head_begun same)
params-shown (derived.AtName id is_sign) h e =
    (let same : NamedHead id ≡ h = cc in ap (λ k. record { start = id.place.span.start; kids = k }) (one-param (name_of id) true) ∙ ap head_begun same)
params-shown (derived.AtWild place) h e =
    (let same : WildHead place ≡ h = cc in ap (λ k. record { start = place.span.start; kids = k }) (one-param (wild_name place) false) ∙ ap head_begun same)
params-shown (derived.AtGroup o parens c may_be_head) h e = go may_be_head (derived.params_of parens) refl e where
  go : (m : Bool) (v : Option (Listed LPar)) → derived.params_of parens ≡ v → (if m then derived.head_over o c v else None) ≡ Some h
      → record { start = o.span.start; kids = element_params no_kids (parens_shown parens) } ≡ head_begun h
  go true (Some lpars) f g =
      let same : LParHead o lpars c ≡ h = cc in
      ap (λ k. record { start = o.span.start; kids = k }) (group-params parens lpars f) ∙ ap head_begun same
  go true None f g = cc
  go false v f g = cc
params-shown _ h e = cc

-- a head of a lambda has no placeholder
head-free : (s : derived.Tail) (h : LamHead) → derived.head_at s ≡ Some h → tail_free s ≡ []
head-free (derived.AtSign id) h e = refl
head-free (derived.AtName id is_sign) h e = refl
head-free (derived.AtWild place) h e = refl
head-free (derived.AtGroup o parens c may_be_head) h e = refl
head-free _ h e = cc

over-some : (o c : Place) (v : Option (Listed LPar)) → derived.is_some v ≡ derived.is_some (derived.head_over o c v)
over-some o c None = refl
over-some o c (Some lpars) = refl

pub head-tail : (s : derived.Tail) → TailFits s → spec.is_head_tail (tail_shown s) ≡ derived.is_some (derived.head_at s)
head-tail (derived.AtGroup o parens c true) f = sym (f refl) ∙ over-some o c (derived.params_of parens)
head-tail (derived.AtGroup o parens c false) f = refl
head-tail _ f = refl

lambda-there : (c : derived.Context) (s : derived.Tail) (a : Arrow) (h : LamHead) → derived.head_at s ≡ Some h → c.operations ≡ []
    → spec.lambda (context_shown (derived.at c s)) (spec.params_at (tail_shown s)) ≡ context_shown (derived.with_head (derived.at c s) (derived.Of (Lambda h a)))
lambda-there c s a h e none =
    ap (spec.lambda (context_shown (derived.at c s))) (params-shown s h e)
    ∙ ap (λ n. with_head (context_shown (derived.at c s)) n (head.Lambda (kept_all (head_trees h)))) (sym (start-append (head_tokens h) (arrow_token a ∷ []) (head-begins h)))
    ∙ behind-head (derived.at c s) (derived.Of (Lambda h a)) (tail_free s) (tail_shown s) none (head-free s h e)

pub lambda-same : (c : derived.Context) (s : derived.Tail) (a : Arrow) → TailFits s
    → spec.on_arrow (context_shown (derived.at c s))
    ≡ option_map context_shown (if derived.may_head (derived.at c s) then derived.lambda a (derived.at c s) (derived.head_at s) else None)
lambda-same c s a f =
    ap (λ b. spec.when (b && spec.is_head_tail (tail_shown s)) next) (head-shown (derived.at c s) (tail_free s) (tail_shown s))
    ∙ ap (λ b. spec.when (derived.may_head (derived.at c s) && b) next) (head-tail s f)
    ∙ go (derived.may_head (derived.at c s)) (derived.head_at s) refl refl
  where
    next : Context
    next = spec.lambda (context_shown (derived.at c s)) (spec.params_at (tail_shown s))

    go : (m : Bool) (o : Option LamHead) → derived.may_head (derived.at c s) ≡ m → derived.head_at s ≡ o
        → spec.when (m && derived.is_some o) next ≡ option_map context_shown (if m then derived.lambda a (derived.at c s) o else None)
    go true (Some h) e g = ap Some (lambda-there c s a h g (may-first c.operations c.sign (derived.is_expr_limit c.limit) e))
    go true None e g = refl
    go false o e g = refl

-- ---- `yield`

first-sign : (os : List derived.Operation) (s : Option PrefixSign) (a b : Bool) → (a && ((derived.is_nil os && derived.is_none s) && b)) ≡ true → s ≡ None
first-sign os None a b e = refl
first-sign [] (Some s) true b e = cc
first-sign [] (Some s) false b e = cc
first-sign (o ∷ os) (Some s) true b e = cc
first-sign (o ∷ os) (Some s) false b e = cc

abbrev heads_at : List derived.Head → List derived.Operation → Option PrefixSign → Limit → Context
heads_at hs os s limit = record {
  heads = heads_shown hs;
  free = operations_free os ++ [];
  operations = operations_shown os;
  sign = sign_shown s;
  tail = tail.Begin;
  limit = limit;
}

yield-at : (place : Place) (hs : List derived.Head) (c : derived.Context)
    → spec.yielding_at (heads_shown hs) (heads_at hs [] None c.limit) ≡ option_map context_shown (derived.yielding place hs c)
yield-at place [] c = refl
yield-at place (derived.Of (ForRound word o enums p None) ∷ hs) c = refl
yield-at place (derived.Of (ForRound word o enums p (Some q)) ∷ hs) c = refl
yield-at place (derived.Of (ForCurly word o enums p None) ∷ hs) c = refl
yield-at place (derived.Of (ForCurly word o enums p (Some q)) ∷ hs) c = refl
yield-at place (h ∷ hs) c = refl

pub yield-same : (c : derived.Context) (s : derived.Tail) (place : Place)
    → spec.yielding (context_shown (derived.at c s))
    ≡ option_map context_shown (if derived.may_begin (derived.at c s) then derived.yielding place c.heads (derived.at c s) else None)
yield-same c derived.Begin place =
    ap (λ b. if b then to c.operations c.sign else None) (may-begin-shown c derived.Begin) ∙ go (derived.may_begin here) refl
  where
    here : derived.Context
    here = derived.at c derived.Begin

    to : List derived.Operation → Option PrefixSign → Option Context
    to os s = spec.yielding_at (heads_shown c.heads) (heads_at c.heads os s c.limit)

    go : (b : Bool) → derived.may_begin here ≡ b
        → (if b then to c.operations c.sign else None) ≡ option_map context_shown (if b then derived.yielding place c.heads here else None)
    go true e =
        ap (λ os. to os c.sign) (first-none c.operations c.sign (derived.may_stand here No) (derived.is_expr_limit c.limit) e)
        ∙ ap (to []) (first-sign c.operations c.sign (derived.may_stand here No) (derived.is_expr_limit c.limit) e)
        ∙ yield-at place c.heads here
    go false e = refl
yield-same c _ place = refl
