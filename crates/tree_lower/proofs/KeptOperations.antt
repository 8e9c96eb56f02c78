-- What is made of operators, assignments and placeholders is what the grammar makes of them, as far as it is kept.
use Rattle.std.proofs.Common.{◌≡◌, Bool, true, false, if◌then◌else◌, List, [], ◌∷◌, ◌++◌, map, codes, refl, ap, sym, ◌∙◌, append-nil, append_assoc}
use Rattle.pc_terms.specs.declared.problems.Span.{Span}
use Rattle.pc_terms.specs.declared.tree_kinds.TreeKind.TheVariants as kind
use Rattle.positioned_trees.specs.declared.trees.Tree.{Tree}
use Rattle.source_grammar.specs.Expressions.{PrefixSign}
use Rattle.source_grammar.specs.ExpressionTrees as grammar
use Rattle.source_grammar.specs.ExpressionTrees.{join_built, operation_tree}
use Rattle.source_grammar.specs.Lexemes.{Place, Lexeme, Id}
use Rattle.source_grammar.specs.Placeholders as placeholders
use Rattle.source_grammar.specs.Placeholders.{Built, trees_of}
use Rattle.source_grammar.specs.Precedence as precedence
use Rattle.source_grammar.specs.Precedence.{is_assignment, is_right}
use Rattle.source_grammar.specs.Spans.{from_to, span_of, enclosing, labelled, unlabelled as unlabelled_tree, span_in as span_of_tree}
use Rattle.parse_parts.specs.Built.{joined, alone, node}
use Rattle.parse_parts.proofs.Kept.{kept, kept_all, joined-kept, alone-kept, node-kept}
use Rattle.tree_lower.specs.Keeping.{name_of, sign_name, operand_shown, places_shown}
use Rattle.tree_lower.specs.Lowering.{unlabelled, pair, added, detailed, appended, operator_select, called, operation, operation_tall, prefixed, update_select, updated, placeholder_ident, placeholder_param, with_params, bound}
use Rattle.tree_lower.proofs.KeptTrees.{added-kept, detailed-kept, unlabelled-kept, leaf-kept, pair-kept, appended-kept, over-one}

-- ---- operators

select-kept : (id : Id) (receiver : Tree) → operator_select (name_of id) (kept receiver) ≡ kept (grammar.operator_select id receiver)
select-kept id receiver =
    ap added (over-one (λ s k. node kind.Select id.name id.place.span (enclosing s id.place.span) k) (λ s. refl) receiver
    ∙ node-kept kind.Select id.name id.place.span (enclosing (span_of_tree receiver) id.place.span) (receiver ∷ []))
    ∙ added-kept _

called-kept : (id : Id) (span : Span) (receiver arg : Tree)
    → called (name_of id) span (kept receiver) (kept arg) ≡ kept (unlabelled_tree kind.Apply span (grammar.operator_select id receiver ∷ arg ∷ []))
called-kept id span receiver arg =
    ap (λ t. unlabelled kind.Apply span (pair t (kept arg))) (select-kept id receiver)
    ∙ ap (unlabelled kind.Apply span) (pair-kept (grammar.operator_select id receiver) arg)
    ∙ unlabelled-kept kind.Apply span (grammar.operator_select id receiver ∷ arg ∷ [])

operation-tall : (id : Id) (span : Span) (a b : Tree) → operation_tall (name_of id) span (kept a) (kept b) ≡ kept (operation_tree id span a b)
operation-tall id span a b = go (is_assignment id.name) (is_right id.name) where
  go : (x y : Bool) → (if x then node kind.OpAssign id.name id.place.span span (pair (kept a) (kept b))
      else (if y then called (name_of id) span (kept b) (kept a) else called (name_of id) span (kept a) (kept b)))
      ≡ kept (if x then labelled kind.OpAssign id.name id.place.span span (a ∷ b ∷ [])
      else (if y then unlabelled_tree kind.Apply span (grammar.operator_select id b ∷ a ∷ []) else unlabelled_tree kind.Apply span (grammar.operator_select id a ∷ b ∷ [])))
  go true y = ap (node kind.OpAssign id.name id.place.span span) (pair-kept a b) ∙ node-kept kind.OpAssign id.name id.place.span span (a ∷ b ∷ [])
  go false true = called-kept id span b a
  go false false = called-kept id span a b

-- a op b
pub operation-kept : (id : Id) (a b : precedence.Operand Built) → operation (name_of id) (operand_shown a) (operand_shown b) ≡ operand_shown (join_built id a b)
operation-kept id a b = ap (λ t. record { tall = t; span = from_to a.span b.span }) (operation-tall id (from_to a.span b.span) a.built.tree b.built.tree)

-- -x, where these are its tokens
pub prefixed-kept : (sign : PrefixSign) (tokens : List Lexeme) (span : Span) (operand : Built) → span_of tokens ≡ from_to (grammar.sign_span sign) span
    → prefixed (sign_name sign) (record { tall = kept operand.tree; span = span }) ≡ record { tall = kept (grammar.prefixed sign tokens operand).tree; span = span_of tokens }
prefixed-kept sign tokens span operand e =
    ap (λ t. record { tall = t; span = from_to (grammar.sign_span sign) span })
    (ap (node kind.Select (grammar.unary_name sign) (grammar.sign_span sign) (from_to (grammar.sign_span sign) span)) (alone-kept operand.tree)
    ∙ node-kept kind.Select (grammar.unary_name sign) (grammar.sign_span sign) (from_to (grammar.sign_span sign) span) (operand.tree ∷ []))
    ∙ ap (λ s. record { tall = kept (labelled kind.Select (grammar.unary_name sign) (grammar.sign_span sign) s (operand.tree ∷ [])); span = s }) (sym e)

-- ---- assignments

update-kept : (receiver : Built) → update_select (kept receiver.tree) ≡ kept (grammar.update_select receiver).tree
update-kept receiver =
    ap added (over-one (λ s k. node kind.Select (codes "update") s s k) (λ s. refl) receiver.tree
    ∙ node-kept kind.Select (codes "update") (span_of_tree receiver.tree) (span_of_tree receiver.tree) (receiver.tree ∷ []))
    ∙ added-kept _

trees-append : (xs ys : List Built) → trees_of (xs ++ ys) ≡ trees_of xs ++ trees_of ys
trees-append [] ys = refl
trees-append (x ∷ xs) ys = ap (λ ts. x.tree ∷ ts) (trees-append xs ys)

-- a(i) = v
pub updated-kept : (tokens : List Lexeme) (receiver : Built) (args : List Built) (right : Built)
    → updated (span_of tokens) (kept receiver.tree) (kept_all (trees_of args)) (kept right.tree) ≡ kept (grammar.updated tokens receiver args right).tree
updated-kept tokens receiver args right =
    let select : Tree = (grammar.update_select receiver).tree in
    ap (λ t. unlabelled kind.Apply (span_of tokens) (joined (appended (alone t) (kept_all (trees_of args))) (kept right.tree))) (update-kept receiver)
    ∙ ap (λ k. unlabelled kind.Apply (span_of tokens) (joined (appended k (kept_all (trees_of args))) (kept right.tree))) (alone-kept select)
    ∙ ap (λ k. unlabelled kind.Apply (span_of tokens) (joined k (kept right.tree))) (appended-kept (select ∷ []) (trees_of args))
    ∙ ap (unlabelled kind.Apply (span_of tokens)) (joined-kept (select ∷ trees_of args) right.tree)
    ∙ ap (λ ts. unlabelled kind.Apply (span_of tokens) (kept_all (select ∷ ts))) (sym (trees-append args (right ∷ [])))
    ∙ unlabelled-kept kind.Apply (span_of tokens) (select ∷ trees_of (args ++ right ∷ []))

-- ---- placeholders

pub ident-kept : (place : Place) → placeholder_ident place.span ≡ kept (placeholders.placeholder_ident place).tree
ident-kept place = ap (detailed _) (leaf-kept kind.Ident (codes "_") place.span) ∙ detailed-kept _ _

param-kept : (place : Place) → placeholder_param place.span ≡ kept (placeholders.placeholder_param place)
param-kept place =
    ap (λ t. added (detailed (placeholders.lambda_param false) t)) (leaf-kept kind.Param (codes "_") place.span)
    ∙ ap added (detailed-kept (placeholders.lambda_param false) _) ∙ added-kept _

params-kept : (trees : List Tree) (places : List Place) → with_params (kept_all trees) (places_shown places) ≡ kept_all (trees ++ map placeholders.placeholder_param places)
params-kept trees [] = ap kept_all (sym (append-nil trees))
params-kept trees (p ∷ places) =
    ap (λ t. with_params (joined (kept_all trees) t) (places_shown places)) (param-kept p)
    ∙ ap (λ k. with_params k (places_shown places)) (joined-kept trees (placeholders.placeholder_param p))
    ∙ params-kept (trees ++ placeholders.placeholder_param p ∷ []) places
    ∙ ap kept_all (append_assoc trees (placeholders.placeholder_param p ∷ []) (map placeholders.placeholder_param places))

-- the function of these placeholders over a tree with these tokens
pub bound-kept : (tokens : List Lexeme) (tree : Tree) (places : List Place)
    → bound (places_shown places) (span_of tokens) (kept tree) ≡ kept (placeholders.bound_over tokens tree places).tree
bound-kept tokens tree [] = refl
bound-kept tokens tree (p ∷ places) =
    ap (λ k. unlabelled kind.Function (span_of tokens) (joined k (kept tree))) (params-kept [] (p ∷ places))
    ∙ ap (unlabelled kind.Function (span_of tokens)) (joined-kept (map placeholders.placeholder_param (p ∷ places)) tree)
    ∙ unlabelled-kept kind.Function (span_of tokens) (map placeholders.placeholder_param (p ∷ places) ++ tree ∷ [])
