-- The tokens of expressions, blocks, cases and definitions.
use Rattle.std.specs.Prelude.{List, [], ◌∷◌, ◌++◌, Option, Some, None, codes}
use Rattle.source_grammar.specs.Lexemes.{Place, Lexeme, word_at, plain_at, open_round, close_round, open_square, close_square, open_curly, close_curly, comma, dot, semicolon, colon, underscore, equals, minus, arrow_token, back_arrow_token, id_token, literal_token, number_token}
use Rattle.source_grammar.specs.Definitions.{type_part_tokens, tparams_tokens, par_lists_tokens, mods_tokens, import_tokens, listed_tokens}
use Rattle.source_grammar.specs.Expressions.{LPar, NamedLPar, WildLPar, LamHead, NamedHead, WildHead, LParHead, PrefixSign, Plus, Minus, Bang, Tilde, ValueWord, Val, Var, Sep, Expr, Headed, DoThenWhile, TryCatch, ReturnAlone, InfixExpr, TypedExpr, MatchExpr, Heading, Lambda, IfThen, IfElse, WhileDo, TryAlone, TryFinally, TryCatchFinally, ForRound, ForCurly, ThrowOf, ReturnOf, AssignName, AssignSelect, AssignApply, Enums, LastGen, MoreGens, Gen, GenOf, Guards, NoGuards, MoreGuards, Infix, LastPrefix, MorePrefixes, Prefix, Unsigned, Signed, Prim, LiteralPrim, MinusPrim, Placeholder, ThisPrim, SuperPrim, NamePrim, UnitPrim, ExprInParentheses, PairPrim, TriplePrim, BlockPrim, CasesPrim, NewOf, NewWith, SelectPrim, SelectHole, TypeApplyPrim, ApplyPrim, EtaPrim, Args, NoArgs, ExprArgs, BlockArg, CasesArg, ExprList, LastExpr, MoreExprs, Block, Statements, LambdaBlock, BStats, LastBStat, MoreBStats, BStat, ImportBStat, DefBStat, ExprBStat, EmptyBStat, BrokenBStat, Cases, LastCase, MoreCases, Case, CaseOf, GuardedCase, Def, ValueDef, MethodDef, ProcedureDef, AliasDef}
use Rattle.source_grammar.specs.Patterns.{pat_tokens}
use Rattle.source_grammar.specs.Types.{type_tokens, type_list_tokens}

abbrev pub lpar_tokens : LPar → List Lexeme
lpar_tokens (NamedLPar id type) = id_token id ∷ type_part_tokens type
lpar_tokens (WildLPar place type) = underscore place ∷ type_part_tokens type

abbrev pub head_tokens : LamHead → List Lexeme
head_tokens (NamedHead id) = id_token id ∷ []
head_tokens (WildHead place) = underscore place ∷ []
head_tokens (LParHead opening lpars closing) = open_round opening ∷ (listed_tokens lpar_tokens lpars ++ close_round closing ∷ [])

abbrev pub sign_token : PrefixSign → Lexeme
sign_token (Plus place) = plain_at (codes "+") place
sign_token (Minus place) = plain_at (codes "-") place
sign_token (Bang place) = plain_at (codes "!") place
sign_token (Tilde place) = plain_at (codes "~") place

abbrev pub value_word_token : ValueWord → Lexeme
value_word_token (Val place) = word_at (codes "val") place
value_word_token (Var place) = word_at (codes "var") place

abbrev pub sep_tokens : Sep → List Lexeme
sep_tokens [] = []
sep_tokens (place ∷ places) = semicolon place ∷ sep_tokens places

abbrev pub optional_semicolon : Option Place → List Lexeme
optional_semicolon None = []
optional_semicolon (Some place) = semicolon place ∷ []

abbrev pub yield_tokens : Option Place → List Lexeme
yield_tokens None = []
yield_tokens (Some place) = word_at (codes "yield") place ∷ []

abbrev mutual
  pub expr_tokens : Expr → List Lexeme
  expr_tokens (Headed heading body) = heading_tokens heading ++ expr_tokens body
  expr_tokens (DoThenWhile word body sep until opening test closing) =
      word_at (codes "do") word ∷ (expr_tokens body ++ sep_tokens sep
      ++ word_at (codes "while") until ∷ open_round opening ∷ (expr_tokens test ++ close_round closing ∷ []))
  expr_tokens (TryCatch word body catch opening cases closing) =
      word_at (codes "try") word ∷ (expr_tokens body ++ word_at (codes "catch") catch ∷ open_curly opening ∷ (cases_tokens cases ++ close_curly closing ∷ []))
  expr_tokens (ReturnAlone word) = word_at (codes "return") word ∷ []
  expr_tokens (InfixExpr chain) = infix_tokens chain
  expr_tokens (TypedExpr chain point type) = infix_tokens chain ++ colon point ∷ type_tokens type
  expr_tokens (MatchExpr chain word opening cases closing) =
      infix_tokens chain ++ word_at (codes "match") word ∷ open_curly opening ∷ (cases_tokens cases ++ close_curly closing ∷ [])

  pub heading_tokens : Heading → List Lexeme
  heading_tokens (Lambda head arrow) = head_tokens head ++ arrow_token arrow ∷ []
  heading_tokens (IfThen word opening test closing) =
      word_at (codes "if") word ∷ open_round opening ∷ (expr_tokens test ++ close_round closing ∷ [])
  heading_tokens (IfElse word opening test closing body semi other) =
      word_at (codes "if") word ∷ open_round opening ∷ (expr_tokens test ++ close_round closing ∷ (expr_tokens body
      ++ optional_semicolon semi ++ word_at (codes "else") other ∷ []))
  heading_tokens (WhileDo word opening test closing) =
      word_at (codes "while") word ∷ open_round opening ∷ (expr_tokens test ++ close_round closing ∷ [])
  heading_tokens (TryAlone word) = word_at (codes "try") word ∷ []
  heading_tokens (TryFinally word body last) = word_at (codes "try") word ∷ (expr_tokens body ++ word_at (codes "finally") last ∷ [])
  heading_tokens (TryCatchFinally word body catch opening cases closing last) =
      word_at (codes "try") word ∷ (expr_tokens body ++ word_at (codes "catch") catch ∷ open_curly opening ∷ (cases_tokens cases
      ++ close_curly closing ∷ word_at (codes "finally") last ∷ []))
  heading_tokens (ForRound word opening enums closing yield) =
      word_at (codes "for") word ∷ open_round opening ∷ (enums_tokens enums ++ close_round closing ∷ yield_tokens yield)
  heading_tokens (ForCurly word opening enums closing yield) =
      word_at (codes "for") word ∷ open_curly opening ∷ (enums_tokens enums ++ close_curly closing ∷ yield_tokens yield)
  heading_tokens (ThrowOf word) = word_at (codes "throw") word ∷ []
  heading_tokens (ReturnOf word) = word_at (codes "return") word ∷ []
  heading_tokens (AssignName id sign) = id_token id ∷ equals sign ∷ []
  heading_tokens (AssignSelect prim point id sign) = prim_tokens prim ++ dot point ∷ id_token id ∷ equals sign ∷ []
  heading_tokens (AssignApply prim args sign) = prim_tokens prim ++ args_tokens args ++ equals sign ∷ []

  pub enums_tokens : Enums → List Lexeme
  enums_tokens (LastGen gen) = gen_tokens gen
  enums_tokens (MoreGens gen sep gens) = gen_tokens gen ++ sep_tokens sep ++ enums_tokens gens

  pub gen_tokens : Gen → List Lexeme
  gen_tokens (GenOf pat arrow from guards) = pat_tokens pat ++ back_arrow_token arrow ∷ (expr_tokens from ++ guards_tokens guards)

  pub guards_tokens : Guards → List Lexeme
  guards_tokens NoGuards = []
  guards_tokens (MoreGuards sep word test guards) = sep_tokens sep ++ word_at (codes "if") word ∷ (infix_tokens test ++ guards_tokens guards)

  pub infix_tokens : Infix → List Lexeme
  infix_tokens (LastPrefix prefix) = prefix_tokens prefix
  infix_tokens (MorePrefixes prefix operator rest) = prefix_tokens prefix ++ id_token operator ∷ infix_tokens rest

  pub prefix_tokens : Prefix → List Lexeme
  prefix_tokens (Unsigned prim) = prim_tokens prim
  prefix_tokens (Signed sign prim) = sign_token sign ∷ prim_tokens prim

  pub prim_tokens : Prim → List Lexeme
  prim_tokens (LiteralPrim literal) = literal_token literal ∷ []
  prim_tokens (MinusPrim sign number) = minus sign ∷ number_token number ∷ []
  prim_tokens (Placeholder place) = underscore place ∷ []
  prim_tokens (ThisPrim word) = word_at (codes "this") word ∷ []
  prim_tokens (SuperPrim word point id) = word_at (codes "super") word ∷ dot point ∷ id_token id ∷ []
  prim_tokens (NamePrim id) = id_token id ∷ []
  prim_tokens (UnitPrim opening closing) = open_round opening ∷ close_round closing ∷ []
  prim_tokens (ExprInParentheses opening expr closing) = open_round opening ∷ (expr_tokens expr ++ close_round closing ∷ [])
  prim_tokens (PairPrim opening a comma_1 b closing) = open_round opening ∷ (expr_tokens a ++ comma comma_1 ∷ (expr_tokens b ++ close_round closing ∷ []))
  prim_tokens (TriplePrim opening a comma_1 b comma_2 c closing) =
      open_round opening ∷ (expr_tokens a ++ comma comma_1 ∷ (expr_tokens b ++ comma comma_2 ∷ (expr_tokens c ++ close_round closing ∷ [])))
  prim_tokens (BlockPrim opening block closing) = open_curly opening ∷ (block_tokens block ++ close_curly closing ∷ [])
  prim_tokens (CasesPrim opening cases closing) = open_curly opening ∷ (cases_tokens cases ++ close_curly closing ∷ [])
  prim_tokens (NewOf word type) = word_at (codes "new") word ∷ type_tokens type
  prim_tokens (NewWith word type args) = word_at (codes "new") word ∷ (type_tokens type ++ args_tokens args)
  prim_tokens (SelectPrim prim point id) = prim_tokens prim ++ dot point ∷ id_token id ∷ []
  prim_tokens (SelectHole prim point) = prim_tokens prim ++ dot point ∷ []
  prim_tokens (TypeApplyPrim prim opening types closing) = prim_tokens prim ++ open_square opening ∷ (type_list_tokens types ++ close_square closing ∷ [])
  prim_tokens (ApplyPrim prim args) = prim_tokens prim ++ args_tokens args
  prim_tokens (EtaPrim prim place) = prim_tokens prim ++ underscore place ∷ []

  pub args_tokens : Args → List Lexeme
  args_tokens (NoArgs opening closing) = open_round opening ∷ close_round closing ∷ []
  args_tokens (ExprArgs opening exprs closing) = open_round opening ∷ (expr_list_tokens exprs ++ close_round closing ∷ [])
  args_tokens (BlockArg opening block closing) = open_curly opening ∷ (block_tokens block ++ close_curly closing ∷ [])
  args_tokens (CasesArg opening cases closing) = open_curly opening ∷ (cases_tokens cases ++ close_curly closing ∷ [])

  pub expr_list_tokens : ExprList → List Lexeme
  expr_list_tokens (LastExpr expr) = expr_tokens expr
  expr_list_tokens (MoreExprs expr place exprs) = expr_tokens expr ++ comma place ∷ expr_list_tokens exprs

  pub block_tokens : Block → List Lexeme
  block_tokens (Statements stats) = bstats_tokens stats
  block_tokens (LambdaBlock head arrow stats) = head_tokens head ++ arrow_token arrow ∷ bstats_tokens stats

  pub bstats_tokens : BStats → List Lexeme
  bstats_tokens (LastBStat stat) = bstat_tokens stat
  bstats_tokens (MoreBStats stat sep stats) = bstat_tokens stat ++ sep_tokens sep ++ bstats_tokens stats

  pub bstat_tokens : BStat → List Lexeme
  bstat_tokens (ImportBStat i) = import_tokens i
  bstat_tokens (DefBStat mods def) = mods_tokens mods ++ def_tokens def
  bstat_tokens (ExprBStat expr) = expr_tokens expr
  bstat_tokens EmptyBStat = []
  bstat_tokens (BrokenBStat xs) = xs

  pub cases_tokens : Cases → List Lexeme
  cases_tokens (LastCase c) = case_tokens c
  cases_tokens (MoreCases c cases) = case_tokens c ++ cases_tokens cases

  pub case_tokens : Case → List Lexeme
  case_tokens (CaseOf word pat arrow stats) = word_at (codes "case") word ∷ (pat_tokens pat ++ arrow_token arrow ∷ bstats_tokens stats)
  case_tokens (GuardedCase word pat guard test arrow stats) =
      word_at (codes "case") word ∷ (pat_tokens pat ++ word_at (codes "if") guard ∷ (infix_tokens test ++ arrow_token arrow ∷ bstats_tokens stats))

  pub def_tokens : Def → List Lexeme
  def_tokens (ValueDef word id type sign right) = value_word_token word ∷ id_token id ∷ (type_part_tokens type ++ equals sign ∷ expr_tokens right)
  def_tokens (MethodDef word id tparams lists type sign right) =
      word_at (codes "def") word ∷ id_token id ∷ (tparams_tokens tparams ++ par_lists_tokens lists ++ type_part_tokens type ++ equals sign ∷ expr_tokens right)
  def_tokens (ProcedureDef word id tparams lists opening block closing) =
      word_at (codes "def") word ∷ id_token id ∷ (tparams_tokens tparams ++ par_lists_tokens lists
      ++ open_curly opening ∷ (block_tokens block ++ close_curly closing ∷ []))
  def_tokens (AliasDef word id sign type) = word_at (codes "type") word ∷ id_token id ∷ equals sign ∷ type_tokens type
