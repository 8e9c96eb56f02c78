-- The trees of expressions, blocks, cases and definitions, with what is rewritten in them.
use Rattle.std.specs.Prelude.{ℕ, Bool, true, false, if◌then◌else◌, List, [], ◌∷◌, ◌++◌, length, map, Option, Some, None, codes}
use Rattle.pc_terms.specs.declared.problems.Span.{Span}
use Rattle.pc_terms.specs.declared.tree_kinds.TreeKind.{TreeKind}
use Rattle.pc_terms.specs.declared.tree_kinds.TreeKind.TheVariants as kind
use Rattle.positioned_trees.specs.declared.details.Detail.TheVariants as detail
use Rattle.positioned_trees.specs.declared.details.RightSide.{RightSide}
use Rattle.positioned_trees.specs.declared.details.RightSide.TheVariants as right_side
use Rattle.positioned_trees.specs.declared.trees.Tree.{Tree}
use Rattle.source_grammar.specs.Comprehensions.{Generator, comprehension}
use Rattle.source_grammar.specs.Definitions.{Mods, TypePart, NoType, TParams, ParList, items}
use Rattle.source_grammar.specs.DefinitionTrees.{has, is_lazy, member_modifiers, type_part_trees, has_type, par_lists_trees, par_counts, tparams_trees, import_tree}
use Rattle.source_grammar.specs.Expressions.{LPar, NamedLPar, WildLPar, LamHead, NamedHead, WildHead, LParHead, PrefixSign, ValueWord, Val, Var, Expr, Headed, DoThenWhile, TryCatch, ReturnAlone, InfixExpr, TypedExpr, MatchExpr, Heading, Lambda, IfThen, IfElse, WhileDo, TryAlone, TryFinally, TryCatchFinally, ForRound, ForCurly, ThrowOf, ReturnOf, AssignName, AssignSelect, AssignApply, Enums, LastGen, MoreGens, Gen, GenOf, Guards, NoGuards, MoreGuards, Infix, LastPrefix, MorePrefixes, Prefix, Unsigned, Signed, Prim, LiteralPrim, MinusPrim, Placeholder, ThisPrim, SuperPrim, NamePrim, UnitPrim, ExprInParentheses, PairPrim, TriplePrim, BlockPrim, CasesPrim, NewOf, NewWith, SelectPrim, SelectHole, TypeApplyPrim, ApplyPrim, EtaPrim, Args, NoArgs, ExprArgs, BlockArg, CasesArg, ExprList, LastExpr, MoreExprs, Block, Statements, LambdaBlock, BStats, LastBStat, MoreBStats, BStat, ImportBStat, DefBStat, ExprBStat, EmptyBStat, BrokenBStat, Cases, LastCase, MoreCases, Case, CaseOf, GuardedCase, Def, ValueDef, MethodDef, ProcedureDef, AliasDef}
use Rattle.source_grammar.specs.ExpressionTokens.{lpar_tokens, sign_token, expr_tokens, prefix_tokens, prim_tokens, bstat_tokens, case_tokens, def_tokens}
use Rattle.source_grammar.specs.Lexemes.{Place, Lexeme, Id, literal_text, literal_place}
use Rattle.source_grammar.specs.Patterns.{pat_tree}
use Rattle.source_grammar.specs.Placeholders.{Built, plain, plain_each, node, named_node, detailed, lambda_param, placeholder_ident, bound}
use Rattle.source_grammar.specs.Precedence.{is_assignment, is_right, Operand, Chain, Joining, after_left, joined}
use Rattle.source_grammar.specs.Spans.{from_to, enclosing, span_of, span_in, labelled, unlabelled, with_detail, added}
use Rattle.source_grammar.specs.Types.{type_tree, type_list_trees}

-- ---- heads of lambdas

abbrev pub lpar_tree : LPar → Tree
lpar_tree (NamedLPar id type) =
    with_detail (lambda_param true) (labelled kind.Param id.name id.place.span (span_of (lpar_tokens (NamedLPar id type))) (type_part_trees type))
lpar_tree (WildLPar place type) =
    with_detail (lambda_param false) (labelled kind.Param (codes "_") place.span (span_of (lpar_tokens (WildLPar place type))) (type_part_trees type))

abbrev pub head_trees : LamHead → List Tree
head_trees (NamedHead id) = with_detail (lambda_param true) (labelled kind.Param id.name id.place.span id.place.span []) ∷ []
head_trees (WildHead place) = with_detail (lambda_param false) (labelled kind.Param (codes "_") place.span place.span []) ∷ []
head_trees (LParHead opening lpars closing) = map lpar_tree (items lpars)

abbrev pub function_over : Span → LamHead → Built → Built
function_over span head body = node kind.Function span (plain_each (head_trees head) ++ body ∷ [])

-- ---- operators and assignments

-- a method that is written as an operator, of its receiver
abbrev pub operator_select : Id → Tree → Tree
operator_select operator receiver =
    added (labelled kind.Select operator.name operator.place.span (enclosing (span_in receiver) operator.place.span) (receiver ∷ []))

abbrev pub operation_tree : Id → Span → Tree → Tree → Tree
operation_tree operator span a b =
    if is_assignment operator.name then labelled kind.OpAssign operator.name operator.place.span span (a ∷ b ∷ [])
    else (if is_right operator.name then unlabelled kind.Apply span (operator_select operator b ∷ a ∷ [])
    else unlabelled kind.Apply span (operator_select operator a ∷ b ∷ []))

-- a op b is a.op(b), and b.op(a) where it is right associative
abbrev pub join_built : Joining Built
join_built operator a b = record {
  built = record {
    tree = operation_tree operator (from_to a.span b.span) a.built.tree b.built.tree;
    free = a.built.free ++ b.built.free;
  };
  span = from_to a.span b.span;
}

abbrev pub operand_of : List Lexeme → Built → Operand Built
operand_of tokens part = record { built = part; span = span_of tokens }

abbrev pub joined_built : Chain Built → Built
joined_built chain = (joined join_built chain).built

abbrev pub unary_name : PrefixSign → List ℕ
unary_name sign = codes "unary_" ++ (sign_token sign).word

abbrev pub sign_span : PrefixSign → Span
sign_span sign = (sign_token sign).place.span

-- -x is x.unary_-
abbrev pub prefixed : PrefixSign → List Lexeme → Built → Built
prefixed sign tokens operand = named_node kind.Select (unary_name sign) (sign_span sign) (span_of tokens) (operand ∷ [])

abbrev pub selected : Id → List Lexeme → Built → Built
selected id tokens receiver = named_node kind.Select id.name id.place.span (span_of tokens) (receiver ∷ [])

-- a(i) = v is a.update(i, v)
abbrev pub update_select : Built → Built
update_select receiver = record {
  tree = added (labelled kind.Select (codes "update") (span_in receiver.tree) (span_in receiver.tree) (receiver.tree ∷ []));
  free = receiver.free;
}

abbrev pub updated : List Lexeme → Built → List Built → Built → Built
updated tokens receiver args right = node kind.Apply (span_of tokens) (update_select receiver ∷ (args ++ right ∷ []))

-- a Hole of length 0 directly after the point
abbrev pub hole_span : Place → Span
hole_span point = record { start = point.span.end; end = point.span.end }

abbrev pub select_hole : Place → List Lexeme → Built → Built
select_hole point tokens receiver =
    named_node kind.Select [] (hole_span point) (span_of tokens) (receiver ∷ plain (unlabelled kind.Hole (hole_span point) []) ∷ [])

abbrev pub ident : Id → Built
ident id = plain (labelled kind.Ident id.name id.place.span id.place.span [])

abbrev pub leaf_literal : List ℕ → Span → Built
leaf_literal text span = plain (labelled kind.Literal text span span [])

-- ---- placeholders alone

abbrev pub is_placeholder_prim : Prim → Bool
is_placeholder_prim (Placeholder place) = true
is_placeholder_prim _ = false

abbrev pub is_placeholder_prefix : Prefix → Bool
is_placeholder_prefix (Unsigned prim) = is_placeholder_prim prim
is_placeholder_prefix (Signed sign prim) = false

abbrev pub is_placeholder_infix : Infix → Bool
is_placeholder_infix (LastPrefix prefix) = is_placeholder_prefix prefix
is_placeholder_infix (MorePrefixes prefix operator rest) = false

abbrev pub is_placeholder : Expr → Bool
is_placeholder (InfixExpr chain) = is_placeholder_infix chain
is_placeholder _ = false

abbrev pub bind : Expr → Built → Built
bind expr part = bound (is_placeholder expr) (expr_tokens expr) part

-- ---- definitions

abbrev pub value_kind : Mods → ValueWord → TreeKind
value_kind mods (Val word) = if has is_lazy mods then kind.LazyDef else kind.ValDef
value_kind mods (Var word) = kind.VarDef

abbrev pub value_built : Mods → ValueWord → Id → TypePart → List Lexeme → List Built → Bool → Built
value_built mods word id type tokens right has_right =
    detailed (detail.Value (record { modifiers = member_modifiers mods; has_type = has_type type; has_right_side = has_right }))
    (named_node (value_kind mods word) id.name id.place.span (span_of tokens) (plain_each (type_part_trees type) ++ right))

abbrev pub method_built : Mods → Id → TParams → List ParList → TypePart → List Lexeme → List Built → RightSide → Built
method_built mods id tparams lists type tokens right side =
    detailed (detail.Method (record {
      modifiers = member_modifiers mods;
      type_params = length (tparams_trees tparams);
      param_lists = par_counts lists;
      has_type = has_type type;
      right_side = side;
    })) (named_node kind.DefDef id.name id.place.span (span_of tokens)
    (plain_each (tparams_trees tparams ++ par_lists_trees lists ++ type_part_trees type) ++ right))

abbrev pub broken_tree : List Lexeme → Tree
broken_tree xs = unlabelled kind.Broken (span_of xs) []

-- ---- spans of the statements of a list

abbrev pub nonempty_span : List Lexeme → List Span
nonempty_span [] = []
nonempty_span (x ∷ xs) = span_of (x ∷ xs) ∷ []

abbrev pub bstats_spans : BStats → List Span
bstats_spans (LastBStat stat) = nonempty_span (bstat_tokens stat)
bstats_spans (MoreBStats stat sep stats) = nonempty_span (bstat_tokens stat) ++ bstats_spans stats

abbrev pub last_end : Span → List Span → Span
last_end span [] = span
last_end span (next ∷ spans) = last_end (record { start = span.start; end = next.end }) spans

-- from the first to the last, or of length 0 at this place where there is none
abbrev pub all_of : ℕ → List Span → Span
all_of place [] = record { start = place; end = place }
all_of place (span ∷ spans) = last_end span spans

abbrev pub yields : Option Place → Bool
yields None = false
yields (Some word) = true

abbrev pub for_built : Option Place → List Lexeme → List Generator → Built → Built
for_built word tokens [] body = body
for_built word tokens (gen ∷ gens) body = comprehension (yields word) (span_of tokens) gen gens body

abbrev mutual
  pub expr_built : Expr → Built
  expr_built (Headed heading body) = bind (Headed heading body) (heading_built heading (expr_tokens (Headed heading body)) (expr_built body))
  expr_built (DoThenWhile word body sep until opening test closing) =
      bind (DoThenWhile word body sep until opening test closing)
      (node kind.DoWhile (span_of (expr_tokens (DoThenWhile word body sep until opening test closing))) (expr_built body ∷ expr_built test ∷ []))
  expr_built (TryCatch word body catch opening cases closing) =
      bind (TryCatch word body catch opening cases closing)
      (node kind.Try (span_of (expr_tokens (TryCatch word body catch opening cases closing))) (expr_built body ∷ cases_built cases))
  expr_built (ReturnAlone word) = node kind.Return word.span []
  expr_built (InfixExpr chain) = bind (InfixExpr chain) (joined_built (infix_chain chain))
  expr_built (TypedExpr chain point type) =
      bind (TypedExpr chain point type)
      (node kind.Typed (span_of (expr_tokens (TypedExpr chain point type))) (joined_built (infix_chain chain) ∷ plain (type_tree type) ∷ []))
  expr_built (MatchExpr chain word opening cases closing) =
      bind (MatchExpr chain word opening cases closing)
      (node kind.Match (span_of (expr_tokens (MatchExpr chain word opening cases closing))) (joined_built (infix_chain chain) ∷ cases_built cases))

  -- of the tokens of the whole, and what the expression at its end is
  pub heading_built : Heading → List Lexeme → Built → Built
  heading_built (Lambda head arrow) xs body = function_over (span_of xs) head body
  heading_built (IfThen word opening test closing) xs body = node kind.If (span_of xs) (expr_built test ∷ body ∷ [])
  heading_built (IfElse word opening test closing first semi other) xs body = node kind.If (span_of xs) (expr_built test ∷ expr_built first ∷ body ∷ [])
  heading_built (WhileDo word opening test closing) xs body = node kind.While (span_of xs) (expr_built test ∷ body ∷ [])
  heading_built (TryAlone word) xs body = node kind.Try (span_of xs) (body ∷ [])
  heading_built (TryFinally word tried last) xs body = node kind.Try (span_of xs) (expr_built tried ∷ body ∷ [])
  heading_built (TryCatchFinally word tried catch opening cases closing last) xs body =
      node kind.Try (span_of xs) (expr_built tried ∷ (cases_built cases ++ body ∷ []))
  heading_built (ForRound word opening enums closing yield) xs body = for_built yield xs (enums_built enums) body
  heading_built (ForCurly word opening enums closing yield) xs body = for_built yield xs (enums_built enums) body
  heading_built (ThrowOf word) xs body = node kind.Throw (span_of xs) (body ∷ [])
  heading_built (ReturnOf word) xs body = node kind.Return (span_of xs) (body ∷ [])
  heading_built (AssignName id sign) xs body = node kind.Assign (span_of xs) (ident id ∷ body ∷ [])
  heading_built (AssignSelect prim point id sign) xs body =
      node kind.Assign (span_of xs) (selected id (prim_tokens (SelectPrim prim point id)) (prim_built prim) ∷ body ∷ [])
  heading_built (AssignApply prim args sign) xs body = updated xs (prim_built prim) (args_built args) body

  pub enums_built : Enums → List Generator
  enums_built (LastGen gen) = gen_built gen ∷ []
  enums_built (MoreGens gen sep gens) = gen_built gen ∷ enums_built gens

  pub gen_built : Gen → Generator
  gen_built (GenOf pat arrow from guards) = record { pattern = pat_tree pat; from = expr_built from; guards = guards_built guards }

  pub guards_built : Guards → List Built
  guards_built NoGuards = []
  guards_built (MoreGuards sep word test guards) = joined_built (infix_chain test) ∷ guards_built guards

  pub infix_chain : Infix → Chain Built
  infix_chain (LastPrefix prefix) = record { first = operand_of (prefix_tokens prefix) (prefix_built prefix); operations = [] }
  infix_chain (MorePrefixes prefix operator rest) = after_left (operand_of (prefix_tokens prefix) (prefix_built prefix)) operator (infix_chain rest)

  pub prefix_built : Prefix → Built
  prefix_built (Unsigned prim) = prim_built prim
  prefix_built (Signed sign prim) = prefixed sign (prefix_tokens (Signed sign prim)) (prim_built prim)

  pub prim_built : Prim → Built
  prim_built (LiteralPrim literal) = leaf_literal (literal_text literal) (literal_place literal).span
  prim_built (MinusPrim sign number) = leaf_literal (codes "-" ++ number.text) (from_to sign.span number.place.span)
  prim_built (Placeholder place) = placeholder_ident place
  prim_built (ThisPrim word) = node kind.This word.span []
  prim_built (SuperPrim word point id) = plain (labelled kind.Super id.name id.place.span (from_to word.span id.place.span) [])
  prim_built (NamePrim id) = ident id
  prim_built (UnitPrim opening closing) = leaf_literal (codes "()") (from_to opening.span closing.span)
  prim_built (ExprInParentheses opening expr closing) = expr_built expr
  prim_built (PairPrim opening a comma_1 b closing) = node kind.Tuple (from_to opening.span closing.span) (expr_built a ∷ expr_built b ∷ [])
  prim_built (TriplePrim opening a comma_1 b comma_2 c closing) =
      node kind.Tuple (from_to opening.span closing.span) (expr_built a ∷ expr_built b ∷ expr_built c ∷ [])
  prim_built (BlockPrim opening block closing) = block_built (from_to opening.span closing.span) block
  prim_built (CasesPrim opening cases closing) = node kind.CaseFunction (from_to opening.span closing.span) (cases_built cases)
  prim_built (NewOf word type) = node kind.New (span_of (prim_tokens (NewOf word type))) (plain (type_tree type) ∷ [])
  prim_built (NewWith word type args) =
      node kind.New (span_of (prim_tokens (NewWith word type args))) (plain (type_tree type) ∷ args_built args)
  prim_built (SelectPrim prim point id) = selected id (prim_tokens (SelectPrim prim point id)) (prim_built prim)
  prim_built (SelectHole prim point) = select_hole point (prim_tokens (SelectHole prim point)) (prim_built prim)
  prim_built (TypeApplyPrim prim opening types closing) =
      node kind.TypeApply (span_of (prim_tokens (TypeApplyPrim prim opening types closing))) (prim_built prim ∷ plain_each (type_list_trees types))
  prim_built (ApplyPrim prim args) = node kind.Apply (span_of (prim_tokens (ApplyPrim prim args))) (prim_built prim ∷ args_built args)
  prim_built (EtaPrim prim place) = node kind.Eta (span_of (prim_tokens (EtaPrim prim place))) (prim_built prim ∷ [])

  pub args_built : Args → List Built
  args_built (NoArgs opening closing) = []
  args_built (ExprArgs opening exprs closing) = expr_list_built exprs
  args_built (BlockArg opening block closing) = block_built (from_to opening.span closing.span) block ∷ []
  args_built (CasesArg opening cases closing) = node kind.CaseFunction (from_to opening.span closing.span) (cases_built cases) ∷ []

  pub expr_list_built : ExprList → List Built
  expr_list_built (LastExpr expr) = expr_built expr ∷ []
  expr_list_built (MoreExprs expr place exprs) = expr_built expr ∷ expr_list_built exprs

  -- the span is that of the braces
  pub block_built : Span → Block → Built
  block_built span (Statements stats) = node kind.Block span (bstats_built stats)
  block_built span (LambdaBlock head arrow stats) =
      function_over span head (node kind.Block (all_of arrow.place.span.end (bstats_spans stats)) (bstats_built stats))

  pub bstats_built : BStats → List Built
  bstats_built (LastBStat stat) = bstat_built stat
  bstats_built (MoreBStats stat sep stats) = bstat_built stat ++ bstats_built stats

  -- an empty statement has no tree
  pub bstat_built : BStat → List Built
  bstat_built (ImportBStat i) = plain (import_tree i) ∷ []
  bstat_built (DefBStat mods def) = def_built mods def ∷ []
  bstat_built (ExprBStat expr) = expr_built expr ∷ []
  bstat_built EmptyBStat = []
  bstat_built (BrokenBStat xs) = plain (broken_tree xs) ∷ []

  pub cases_built : Cases → List Built
  cases_built (LastCase c) = case_built c ∷ []
  cases_built (MoreCases c cases) = case_built c ∷ cases_built cases

  pub case_built : Case → Built
  case_built (CaseOf word pat arrow stats) =
      detailed (detail.Case false)
      (named_node kind.Case (codes "case") word.span (span_of (case_tokens (CaseOf word pat arrow stats))) (plain (pat_tree pat) ∷ bstats_built stats))
  case_built (GuardedCase word pat guard test arrow stats) =
      detailed (detail.Case true)
      (named_node kind.Case (codes "case") word.span (span_of (case_tokens (GuardedCase word pat guard test arrow stats)))
      (plain (pat_tree pat) ∷ joined_built (infix_chain test) ∷ bstats_built stats))

  -- a definition begins at its keyword
  pub def_built : Mods → Def → Built
  def_built mods (ValueDef word id type sign right) =
      value_built mods word id type (def_tokens (ValueDef word id type sign right)) (expr_built right ∷ []) true
  def_built mods (MethodDef word id tparams lists type sign right) =
      method_built mods id tparams lists type (def_tokens (MethodDef word id tparams lists type sign right)) (expr_built right ∷ []) right_side.Value
  def_built mods (ProcedureDef word id tparams lists opening block closing) =
      method_built mods id tparams lists NoType (def_tokens (ProcedureDef word id tparams lists opening block closing))
      (block_built (from_to opening.span closing.span) block ∷ []) right_side.Procedure
  def_built mods (AliasDef word id sign type) =
      plain (with_detail (detail.Alias (member_modifiers mods))
      (labelled kind.AliasDef id.name id.place.span (span_of (def_tokens (AliasDef word id sign type))) (type_tree type ∷ [])))
