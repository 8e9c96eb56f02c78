-- The items of an expression: its tokens, with what stands in its outermost braces as one item each, as a reader of expressions has them.
use Rattle.std.specs.Prelude.{List, [], ◌∷◌, ◌++◌, codes}
use Rattle.source_grammar.specs.Expressions.{Block, Cases, Expr, Headed, DoThenWhile, TryCatch, ReturnAlone, InfixExpr, TypedExpr, MatchExpr, Heading, Lambda, IfThen, IfElse, WhileDo, TryAlone, TryFinally, TryCatchFinally, ForRound, ForCurly, ThrowOf, ReturnOf, AssignName, AssignSelect, AssignApply, Enums, LastGen, MoreGens, Gen, GenOf, Guards, NoGuards, MoreGuards, Infix, LastPrefix, MorePrefixes, Prefix, Unsigned, Signed, Prim, LiteralPrim, MinusPrim, Placeholder, ThisPrim, SuperPrim, NamePrim, UnitPrim, ExprInParentheses, PairPrim, TriplePrim, BlockPrim, CasesPrim, NewOf, NewWith, SelectPrim, SelectHole, TypeApplyPrim, ApplyPrim, EtaPrim, Args, NoArgs, ExprArgs, BlockArg, CasesArg, ExprList, LastExpr, MoreExprs}
use Rattle.source_grammar.specs.ExpressionTokens.{block_tokens, cases_tokens, enums_tokens, head_tokens, sign_token, sep_tokens, optional_semicolon, yield_tokens}
use Rattle.source_grammar.specs.Lexemes.{Lexeme, Place, open_curly, close_curly, word_at, open_round, close_round, open_square, close_square, comma, dot, colon, underscore, equals, minus, arrow_token, back_arrow_token, id_token, literal_token, number_token}
use Rattle.source_grammar.specs.Patterns.{pat_tokens}
use Rattle.source_grammar.specs.Types.{type_tokens, type_list_tokens}

-- a token, or a pair of braces with the derivation of what stands in it
pub data Item : Type 0 where
  OneToken : Lexeme → Item
  BlockPair : (opening : Place) → Block → (closing : Place) → Item
  CasesPair : (opening : Place) → Cases → (closing : Place) → Item
  EnumsPair : (opening : Place) → Enums → (closing : Place) → Item
  -- what is none of these
  OtherPair : (opening : Place) → List Lexeme → (closing : Place) → Item

abbrev pub braced : Place → List Lexeme → Place → List Lexeme
braced opening within closing = open_curly opening ∷ (within ++ close_curly closing ∷ [])

abbrev pub item_tokens : Item → List Lexeme
item_tokens (OneToken x) = x ∷ []
item_tokens (BlockPair o block c) = braced o (block_tokens block) c
item_tokens (CasesPair o cases c) = braced o (cases_tokens cases) c
item_tokens (EnumsPair o enums c) = braced o (enums_tokens enums) c
item_tokens (OtherPair o xs c) = braced o xs c

abbrev pub items_tokens : List Item → List Lexeme
items_tokens [] = []
items_tokens (i ∷ items) = item_tokens i ++ items_tokens items

-- ---- the items of a derivation

abbrev pub tokens : List Lexeme → List Item
tokens [] = []
tokens (x ∷ xs) = OneToken x ∷ tokens xs

abbrev mutual
  pub expr_items : Expr → List Item
  expr_items (Headed heading body) = heading_items heading ++ expr_items body
  expr_items (DoThenWhile word body sep until opening test closing) =
      OneToken (word_at (codes "do") word) ∷ (expr_items body ++ tokens (sep_tokens sep)
      ++ OneToken (word_at (codes "while") until) ∷ OneToken (open_round opening) ∷ (expr_items test ++ OneToken (close_round closing) ∷ []))
  expr_items (TryCatch word body catch opening cases closing) =
      OneToken (word_at (codes "try") word) ∷ (expr_items body ++ OneToken (word_at (codes "catch") catch) ∷ CasesPair opening cases closing ∷ [])
  expr_items (ReturnAlone word) = OneToken (word_at (codes "return") word) ∷ []
  expr_items (InfixExpr chain) = infix_items chain
  expr_items (TypedExpr chain point type) = infix_items chain ++ OneToken (colon point) ∷ tokens (type_tokens type)
  expr_items (MatchExpr chain word opening cases closing) =
      infix_items chain ++ OneToken (word_at (codes "match") word) ∷ CasesPair opening cases closing ∷ []

  pub heading_items : Heading → List Item
  heading_items (Lambda head arrow) = tokens (head_tokens head) ++ OneToken (arrow_token arrow) ∷ []
  heading_items (IfThen word opening test closing) =
      OneToken (word_at (codes "if") word) ∷ OneToken (open_round opening) ∷ (expr_items test ++ OneToken (close_round closing) ∷ [])
  heading_items (IfElse word opening test closing body semi other) =
      OneToken (word_at (codes "if") word) ∷ OneToken (open_round opening) ∷ (expr_items test ++ OneToken (close_round closing) ∷ (expr_items body
      ++ tokens (optional_semicolon semi) ++ OneToken (word_at (codes "else") other) ∷ []))
  heading_items (WhileDo word opening test closing) =
      OneToken (word_at (codes "while") word) ∷ OneToken (open_round opening) ∷ (expr_items test ++ OneToken (close_round closing) ∷ [])
  heading_items (TryAlone word) = OneToken (word_at (codes "try") word) ∷ []
  heading_items (TryFinally word body last) =
      OneToken (word_at (codes "try") word) ∷ (expr_items body ++ OneToken (word_at (codes "finally") last) ∷ [])
  heading_items (TryCatchFinally word body catch opening cases closing last) =
      OneToken (word_at (codes "try") word) ∷ (expr_items body ++ OneToken (word_at (codes "catch") catch) ∷ CasesPair opening cases closing
      ∷ OneToken (word_at (codes "finally") last) ∷ [])
  heading_items (ForRound word opening enums closing yield) =
      OneToken (word_at (codes "for") word) ∷ OneToken (open_round opening) ∷ (enums_items enums ++ OneToken (close_round closing) ∷ tokens (yield_tokens yield))
  heading_items (ForCurly word opening enums closing yield) =
      OneToken (word_at (codes "for") word) ∷ EnumsPair opening enums closing ∷ tokens (yield_tokens yield)
  heading_items (ThrowOf word) = OneToken (word_at (codes "throw") word) ∷ []
  heading_items (ReturnOf word) = OneToken (word_at (codes "return") word) ∷ []
  heading_items (AssignName id sign) = OneToken (id_token id) ∷ OneToken (equals sign) ∷ []
  heading_items (AssignSelect prim point id sign) = prim_items prim ++ OneToken (dot point) ∷ OneToken (id_token id) ∷ OneToken (equals sign) ∷ []
  heading_items (AssignApply prim args sign) = prim_items prim ++ args_items args ++ OneToken (equals sign) ∷ []

  pub enums_items : Enums → List Item
  enums_items (LastGen gen) = gen_items gen
  enums_items (MoreGens gen sep gens) = gen_items gen ++ tokens (sep_tokens sep) ++ enums_items gens

  pub gen_items : Gen → List Item
  gen_items (GenOf pat arrow from guards) = tokens (pat_tokens pat) ++ OneToken (back_arrow_token arrow) ∷ (expr_items from ++ guards_items guards)

  pub guards_items : Guards → List Item
  guards_items NoGuards = []
  guards_items (MoreGuards sep word test guards) = tokens (sep_tokens sep) ++ OneToken (word_at (codes "if") word) ∷ (infix_items test ++ guards_items guards)

  pub infix_items : Infix → List Item
  infix_items (LastPrefix prefix) = prefix_items prefix
  infix_items (MorePrefixes prefix operator rest) = prefix_items prefix ++ OneToken (id_token operator) ∷ infix_items rest

  pub prefix_items : Prefix → List Item
  prefix_items (Unsigned prim) = prim_items prim
  prefix_items (Signed sign prim) = OneToken (sign_token sign) ∷ prim_items prim

  pub prim_items : Prim → List Item
  prim_items (LiteralPrim literal) = OneToken (literal_token literal) ∷ []
  prim_items (MinusPrim sign number) = OneToken (minus sign) ∷ OneToken (number_token number) ∷ []
  prim_items (Placeholder place) = OneToken (underscore place) ∷ []
  prim_items (ThisPrim word) = OneToken (word_at (codes "this") word) ∷ []
  prim_items (SuperPrim word point id) = OneToken (word_at (codes "super") word) ∷ OneToken (dot point) ∷ OneToken (id_token id) ∷ []
  prim_items (NamePrim id) = OneToken (id_token id) ∷ []
  prim_items (UnitPrim opening closing) = OneToken (open_round opening) ∷ OneToken (close_round closing) ∷ []
  prim_items (ExprInParentheses opening expr closing) = OneToken (open_round opening) ∷ (expr_items expr ++ OneToken (close_round closing) ∷ [])
  prim_items (PairPrim opening a comma_1 b closing) = OneToken (open_round opening) ∷ (expr_items a ++ OneToken (comma comma_1) ∷ (expr_items b ++ OneToken (close_round closing) ∷ []))
  prim_items (TriplePrim opening a comma_1 b comma_2 c closing) =
      OneToken (open_round opening) ∷ (expr_items a ++ OneToken (comma comma_1) ∷ (expr_items b ++ OneToken (comma comma_2) ∷ (expr_items c ++ OneToken (close_round closing) ∷ [])))
  prim_items (BlockPrim opening block closing) = BlockPair opening block closing ∷ []
  prim_items (CasesPrim opening cases closing) = CasesPair opening cases closing ∷ []
  prim_items (NewOf word type) = OneToken (word_at (codes "new") word) ∷ tokens (type_tokens type)
  prim_items (NewWith word type args) = OneToken (word_at (codes "new") word) ∷ (tokens (type_tokens type) ++ args_items args)
  prim_items (SelectPrim prim point id) = prim_items prim ++ OneToken (dot point) ∷ OneToken (id_token id) ∷ []
  prim_items (SelectHole prim point) = prim_items prim ++ OneToken (dot point) ∷ []
  prim_items (TypeApplyPrim prim opening types closing) = prim_items prim ++ OneToken (open_square opening) ∷ (tokens (type_list_tokens types) ++ OneToken (close_square closing) ∷ [])
  prim_items (ApplyPrim prim args) = prim_items prim ++ args_items args
  prim_items (EtaPrim prim place) = prim_items prim ++ OneToken (underscore place) ∷ []

  pub args_items : Args → List Item
  args_items (NoArgs opening closing) = OneToken (open_round opening) ∷ OneToken (close_round closing) ∷ []
  args_items (ExprArgs opening exprs closing) = OneToken (open_round opening) ∷ (expr_list_items exprs ++ OneToken (close_round closing) ∷ [])
  args_items (BlockArg opening block closing) = BlockPair opening block closing ∷ []
  args_items (CasesArg opening cases closing) = CasesPair opening cases closing ∷ []

  pub expr_list_items : ExprList → List Item
  expr_list_items (LastExpr expr) = expr_items expr
  expr_list_items (MoreExprs expr place exprs) = expr_items expr ++ OneToken (comma place) ∷ expr_list_items exprs
