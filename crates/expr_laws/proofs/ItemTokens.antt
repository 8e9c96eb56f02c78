-- The tokens of the items of an expression are its own.
use Rattle.std.proofs.Common.{◌≡◌, List, [], ◌∷◌, ◌++◌, refl, ap, sym, ◌∙◌, append_assoc}
use Rattle.source_grammar.specs.Expressions.{Expr, Headed, DoThenWhile, TryCatch, ReturnAlone, InfixExpr, TypedExpr, MatchExpr, Heading, Lambda, IfThen, IfElse, WhileDo, TryAlone, TryFinally, TryCatchFinally, ForRound, ForCurly, ThrowOf, ReturnOf, AssignName, AssignSelect, AssignApply, Enums, LastGen, MoreGens, Gen, GenOf, Guards, NoGuards, MoreGuards, Infix, LastPrefix, MorePrefixes, Prefix, Unsigned, Signed, Prim, LiteralPrim, MinusPrim, Placeholder, ThisPrim, SuperPrim, NamePrim, UnitPrim, ExprInParentheses, PairPrim, TriplePrim, BlockPrim, CasesPrim, NewOf, NewWith, SelectPrim, SelectHole, TypeApplyPrim, ApplyPrim, EtaPrim, Args, NoArgs, ExprArgs, BlockArg, CasesArg, ExprList, LastExpr, MoreExprs}
use Rattle.source_grammar.specs.ExpressionTokens.{head_tokens, sep_tokens, optional_semicolon, yield_tokens, expr_tokens, heading_tokens, enums_tokens, gen_tokens, guards_tokens, infix_tokens, prefix_tokens, prim_tokens, args_tokens, expr_list_tokens, block_tokens, cases_tokens}
use Rattle.source_grammar.specs.Lexemes.{Place, Lexeme, open_curly, close_curly}
use Rattle.source_grammar.specs.Patterns.{pat_tokens}
use Rattle.source_grammar.specs.Types.{type_tokens, type_list_tokens}
use Rattle.expr_laws.proofs.Derived.{Item, OneToken, BlockPair, CasesPair, EnumsPair, braced, item_tokens, items_tokens}
use Rattle.expr_laws.proofs.Items.{tokens, expr_items, heading_items, enums_items, gen_items, guards_items, infix_items, prefix_items, prim_items, args_items, expr_list_items}

-- these items have these tokens
pub record Have (is : List Item) (xs : List Lexeme) : Type 0 where
  pub same : items_tokens is ≡ xs

none : Have [] []
none = record { same = refl }

one : (x : Lexeme) (is : List Item) (xs : List Lexeme) → Have is xs → Have (OneToken x ∷ is) (x ∷ xs)
one x is xs h = record { same = ap (λ ys. x ∷ ys) h.same }

pub items-append : (is js : List Item) → items_tokens (is ++ js) ≡ items_tokens is ++ items_tokens js
items-append [] js = refl
items-append (i ∷ is) js = ap (λ xs. item_tokens i ++ xs) (items-append is js) ∙ sym (append_assoc (item_tokens i) (items_tokens is) (items_tokens js))

then : (is js : List Item) (xs ys : List Lexeme) → Have is xs → Have js ys → Have (is ++ js) (xs ++ ys)
then is js xs ys h k = record { same = items-append is js ∙ ap (λ zs. zs ++ items_tokens js) h.same ∙ ap (λ zs. xs ++ zs) k.same }

all : (xs : List Lexeme) → Have (tokens xs) xs
all [] = none
all (x ∷ xs) = one x (tokens xs) xs (all xs)

pair : (i : Item) (o k : Place) (within : List Lexeme) (is : List Item) (xs : List Lexeme) → item_tokens i ≡ braced o within k → Have is xs → Have (i ∷ is) (open_curly o ∷ (within ++ close_curly k ∷ xs))
pair i o k within is xs e h = record {
  same = ap (λ ys. ys ++ items_tokens is) e ∙ ap (λ ys. open_curly o ∷ ys) (append_assoc within (close_curly k ∷ []) (items_tokens is) ∙ ap (λ ys. within ++ close_curly k ∷ ys) h.same);
}

mutual
  pub expr-have : (e : Expr) → Have (expr_items e) (expr_tokens e)
  expr-have (Headed h body) = then _ _ _ _ (heading-have h) (expr-have body)
  expr-have (DoThenWhile w body sep until o test k) =
      one _ _ _ (then _ _ _ _ (then _ _ _ _ (expr-have body) (all (sep_tokens sep))) (one _ _ _ (one _ _ _ (then _ _ _ _ (expr-have test) (one _ _ _ none)))))
  expr-have (TryCatch w body catch o cases k) = one _ _ _ (then _ _ _ _ (expr-have body) (one _ _ _ (pair (CasesPair o cases k) o k (cases_tokens cases) _ _ refl none)))
  expr-have (ReturnAlone w) = one _ _ _ none
  expr-have (InfixExpr d) = infix-have d
  expr-have (TypedExpr d q type) = then _ _ _ _ (infix-have d) (one _ _ _ (all (type_tokens type)))
  expr-have (MatchExpr d w o cases k) = then _ _ _ _ (infix-have d) (one _ _ _ (pair (CasesPair o cases k) o k (cases_tokens cases) _ _ refl none))

  heading-have : (h : Heading) → Have (heading_items h) (heading_tokens h)
  heading-have (Lambda h a) = then _ _ _ _ (all (head_tokens h)) (one _ _ _ none)
  heading-have (IfThen w o test k) = one _ _ _ (one _ _ _ (then _ _ _ _ (expr-have test) (one _ _ _ none)))
  heading-have (IfElse w o test k first semi other) =
      one _ _ _ (one _ _ _ (then _ _ _ _ (expr-have test) (one _ _ _ (then _ _ _ _ (then _ _ _ _ (expr-have first) (all (optional_semicolon semi))) (one _ _ _ none)))))
  heading-have (WhileDo w o test k) = one _ _ _ (one _ _ _ (then _ _ _ _ (expr-have test) (one _ _ _ none)))
  heading-have (TryAlone w) = one _ _ _ none
  heading-have (TryFinally w tried last) = one _ _ _ (then _ _ _ _ (expr-have tried) (one _ _ _ none))
  heading-have (TryCatchFinally w tried catch o cases k last) =
      one _ _ _ (then _ _ _ _ (expr-have tried) (one _ _ _ (pair (CasesPair o cases k) o k (cases_tokens cases) _ _ refl (one _ _ _ none))))
  heading-have (ForRound w o enums k yield) = one _ _ _ (one _ _ _ (then _ _ _ _ (enums-have enums) (one _ _ _ (all (yield_tokens yield)))))
  heading-have (ForCurly w o enums k yield) = one _ _ _ (pair (EnumsPair o enums k) o k (enums_tokens enums) _ _ refl (all (yield_tokens yield)))
  heading-have (ThrowOf w) = one _ _ _ none
  heading-have (ReturnOf w) = one _ _ _ none
  heading-have (AssignName id sign) = one _ _ _ (one _ _ _ none)
  heading-have (AssignSelect d q id sign) = then _ _ _ _ (prim-have d) (one _ _ _ (one _ _ _ (one _ _ _ none)))
  heading-have (AssignApply d args sign) = then _ _ _ _ (then _ _ _ _ (prim-have d) (args-have args)) (one _ _ _ none)

  enums-have : (enums : Enums) → Have (enums_items enums) (enums_tokens enums)
  enums-have (LastGen gen) = gen-have gen
  enums-have (MoreGens gen sep gens) = then _ _ _ _ (then _ _ _ _ (gen-have gen) (all (sep_tokens sep))) (enums-have gens)

  gen-have : (gen : Gen) → Have (gen_items gen) (gen_tokens gen)
  gen-have (GenOf pat arrow from guards) = then _ _ _ _ (all (pat_tokens pat)) (one _ _ _ (then _ _ _ _ (expr-have from) (guards-have guards)))

  guards-have : (guards : Guards) → Have (guards_items guards) (guards_tokens guards)
  guards-have NoGuards = none
  guards-have (MoreGuards sep w test guards) = then _ _ _ _ (all (sep_tokens sep)) (one _ _ _ (then _ _ _ _ (infix-have test) (guards-have guards)))

  pub infix-have : (d : Infix) → Have (infix_items d) (infix_tokens d)
  infix-have (LastPrefix d) = prefix-have d
  infix-have (MorePrefixes d id rest) = then _ _ _ _ (prefix-have d) (one _ _ _ (infix-have rest))

  prefix-have : (d : Prefix) → Have (prefix_items d) (prefix_tokens d)
  prefix-have (Unsigned d) = prim-have d
  prefix-have (Signed s d) = one _ _ _ (prim-have d)

  prim-have : (d : Prim) → Have (prim_items d) (prim_tokens d)
  prim-have (LiteralPrim l) = one _ _ _ none
  prim-have (MinusPrim s n) = one _ _ _ (one _ _ _ none)
  prim-have (Placeholder p) = one _ _ _ none
  prim-have (ThisPrim w) = one _ _ _ none
  prim-have (SuperPrim w q id) = one _ _ _ (one _ _ _ (one _ _ _ none))
  prim-have (NamePrim id) = one _ _ _ none
  prim-have (UnitPrim o k) = one _ _ _ (one _ _ _ none)
  prim-have (ExprInParentheses o e k) = one _ _ _ (then _ _ _ _ (expr-have e) (one _ _ _ none))
  prim-have (PairPrim o x p y k) = one _ _ _ (then _ _ _ _ (expr-have x) (one _ _ _ (then _ _ _ _ (expr-have y) (one _ _ _ none))))
  prim-have (TriplePrim o x p y q z k) =
      one _ _ _ (then _ _ _ _ (expr-have x) (one _ _ _ (then _ _ _ _ (expr-have y) (one _ _ _ (then _ _ _ _ (expr-have z) (one _ _ _ none))))))
  prim-have (BlockPrim o block k) = pair (BlockPair o block k) o k (block_tokens block) _ _ refl none
  prim-have (CasesPrim o cases k) = pair (CasesPair o cases k) o k (cases_tokens cases) _ _ refl none
  prim-have (NewOf w type) = one _ _ _ (all (type_tokens type))
  prim-have (NewWith w type args) = one _ _ _ (then _ _ _ _ (all (type_tokens type)) (args-have args))
  prim-have (SelectPrim d p id) = then _ _ _ _ (prim-have d) (one _ _ _ (one _ _ _ none))
  prim-have (SelectHole d p) = then _ _ _ _ (prim-have d) (one _ _ _ none)
  prim-have (TypeApplyPrim d o ts k) = then _ _ _ _ (prim-have d) (one _ _ _ (then _ _ _ _ (all (type_list_tokens ts)) (one _ _ _ none)))
  prim-have (ApplyPrim d args) = then _ _ _ _ (prim-have d) (args-have args)
  prim-have (EtaPrim d p) = then _ _ _ _ (prim-have d) (one _ _ _ none)

  args-have : (args : Args) → Have (args_items args) (args_tokens args)
  args-have (NoArgs o k) = one _ _ _ (one _ _ _ none)
  args-have (ExprArgs o exprs k) = one _ _ _ (then _ _ _ _ (list-have exprs) (one _ _ _ none))
  args-have (BlockArg o block k) = pair (BlockPair o block k) o k (block_tokens block) _ _ refl none
  args-have (CasesArg o cases k) = pair (CasesPair o cases k) o k (cases_tokens cases) _ _ refl none

  list-have : (exprs : ExprList) → Have (expr_list_items exprs) (expr_list_tokens exprs)
  list-have (LastExpr e) = expr-have e
  list-have (MoreExprs e p exprs) = then _ _ _ _ (expr-have e) (one _ _ _ (list-have exprs))
