-- What is proper by a rule is so where lists are divided in any way.
use Rattle.source_grammar.specs.Expressions.{ListKind, Expr, Headed, DoThenWhile, TryCatch, ReturnAlone, InfixExpr, TypedExpr, MatchExpr, Heading, Lambda, IfThen, IfElse, WhileDo, TryAlone, TryFinally, TryCatchFinally, ForRound, ForCurly, ThrowOf, ReturnOf, AssignName, AssignSelect, AssignApply, Enums, LastGen, MoreGens, Gen, GenOf, Guards, NoGuards, MoreGuards, Infix, LastPrefix, MorePrefixes, Prefix, Unsigned, Signed, Prim, LiteralPrim, MinusPrim, Placeholder, ThisPrim, SuperPrim, NamePrim, UnitPrim, ExprInParentheses, PairPrim, TriplePrim, BlockPrim, CasesPrim, NewOf, NewWith, SelectPrim, SelectHole, TypeApplyPrim, ApplyPrim, EtaPrim, Args, NoArgs, ExprArgs, BlockArg, CasesArg, ExprList, LastExpr, MoreExprs, Block, Statements, LambdaBlock, BStats, LastBStat, MoreBStats, BStat, ImportBStat, DefBStat, ExprBStat, EmptyBStat, BrokenBStat, Cases, LastCase, MoreCases, Case, CaseOf, GuardedCase, Def, ValueDef, MethodDef, ProcedureDef, AliasDef}
use Rattle.source_grammar.specs.ExpressionRules.{Rule, ProperExpr, ProperHeading, ProperEnums, ProperGen, ProperGuards, ProperInfix, ProperPrefix, ProperPrim, ProperArgs, ProperExprList, ProperBlock, ProperBStats, ProperBStat, ProperCases, ProperCase, ProperDef, within_procedure}
use Rattle.source_grammar.specs.Statements.{any_division}

module _ (rule : Rule) where
  mutual
    pub expr-any : (d : Expr) → ProperExpr rule d → ProperExpr any_division d
    expr-any (Headed heading body) p = (heading-any heading body p.0, expr-any body p.1)
    expr-any (DoThenWhile word body sep until o test k) p = (expr-any body p.0, p.1, expr-any test p.2)
    expr-any (TryCatch word body catch o cases k) p = (expr-any body p.0, p.1, cases-any cases p.2)
    expr-any (ReturnAlone word) p = tt
    expr-any (InfixExpr chain) p = (infix-any chain p.0, p.1)
    expr-any (TypedExpr chain point type) p = (infix-any chain p.0, p.1)
    expr-any (MatchExpr chain word o cases k) p = (infix-any chain p.0, p.1, cases-any cases p.2)

    heading-any : (h : Heading) (body : Expr) → ProperHeading rule h body → ProperHeading any_division h body
    heading-any (Lambda head arrow) body p = tt
    heading-any (IfThen word o test k) body p = expr-any test p
    heading-any (IfElse word o test k first semi other) body p = (expr-any test p.0, expr-any first p.1, p.2)
    heading-any (WhileDo word o test k) body p = expr-any test p
    heading-any (TryAlone word) body p = tt
    heading-any (TryFinally word tried last) body p = (expr-any tried p.0, p.1)
    heading-any (TryCatchFinally word tried catch o cases k last) body p = (expr-any tried p.0, p.1, cases-any cases p.2)
    heading-any (ForRound word o enums k yield) body p = enums-any enums p
    heading-any (ForCurly word o enums k yield) body p = enums-any enums p
    heading-any (ThrowOf word) body p = tt
    heading-any (ReturnOf word) body p = p
    heading-any (AssignName id sign) body p = tt
    heading-any (AssignSelect prim point id sign) body p = (prim-any prim p.0, p.1)
    heading-any (AssignApply prim args sign) body p = (prim-any prim p.0, p.1, args-any args p.2)

    enums-any : (d : Enums) → ProperEnums rule d → ProperEnums any_division d
    enums-any (LastGen gen) p = gen-any gen p
    enums-any (MoreGens gen sep gens) p = (gen-any gen p.0, p.1, enums-any gens p.2)

    gen-any : (d : Gen) → ProperGen rule d → ProperGen any_division d
    gen-any (GenOf pat arrow from guards) p = (p.0, p.1, expr-any from p.2, p.3, guards-any guards p.4)

    guards-any : (d : Guards) → ProperGuards rule d → ProperGuards any_division d
    guards-any NoGuards p = tt
    guards-any (MoreGuards sep word test guards) p = (infix-any test p.0, p.1, guards-any guards p.2)

    infix-any : (d : Infix) → ProperInfix rule d → ProperInfix any_division d
    infix-any (LastPrefix prefix) p = prefix-any prefix p
    infix-any (MorePrefixes prefix operator rest) p = (prefix-any prefix p.0, p.1, p.2, p.3, infix-any rest p.4)

    prefix-any : (d : Prefix) → ProperPrefix rule d → ProperPrefix any_division d
    prefix-any (Unsigned prim) p = prim-any prim p
    prefix-any (Signed sign prim) p = (prim-any prim p.0, p.1, p.2)

    prim-any : (d : Prim) → ProperPrim rule d → ProperPrim any_division d
    prim-any (LiteralPrim l) p = tt
    prim-any (MinusPrim sign number) p = p
    prim-any (Placeholder place) p = tt
    prim-any (ThisPrim word) p = tt
    prim-any (SuperPrim word point id) p = tt
    prim-any (NamePrim id) p = tt
    prim-any (UnitPrim o k) p = tt
    prim-any (ExprInParentheses o expr k) p = expr-any expr p
    prim-any (PairPrim o a comma_1 b k) p = (expr-any a p.0, expr-any b p.1)
    prim-any (TriplePrim o a comma_1 b comma_2 c k) p = (expr-any a p.0, expr-any b p.1, expr-any c p.2)
    prim-any (BlockPrim o block k) p = block-any _ block p
    prim-any (CasesPrim o cases k) p = cases-any cases p
    prim-any (NewOf word type) p = tt
    prim-any (NewWith word type args) p = args-any args p
    prim-any (SelectPrim prim point id) p = (prim-any prim p.0, p.1)
    prim-any (SelectHole prim point) p = prim-any prim p
    prim-any (TypeApplyPrim prim o types k) p = (prim-any prim p.0, p.1)
    prim-any (ApplyPrim prim args) p = (prim-any prim p.0, p.1, args-any args p.2)
    prim-any (EtaPrim prim place) p = (prim-any prim p.0, p.1, p.2)

    args-any : (d : Args) → ProperArgs rule d → ProperArgs any_division d
    args-any (NoArgs o k) p = p
    args-any (ExprArgs o exprs k) p = (p.0, expr-list-any exprs p.1)
    args-any (BlockArg o block k) p = (p.0, block-any _ block p.1)
    args-any (CasesArg o cases k) p = (p.0, cases-any cases p.1)

    expr-list-any : (d : ExprList) → ProperExprList rule d → ProperExprList any_division d
    expr-list-any (LastExpr expr) p = expr-any expr p
    expr-list-any (MoreExprs expr place exprs) p = (expr-any expr p.0, expr-list-any exprs p.1)

    block-any : (kind : ListKind) (d : Block) → ProperBlock rule kind d → ProperBlock any_division kind d
    block-any kind (Statements stats) p = (p.0, p.1, bstats-any kind stats p.2)
    block-any kind (LambdaBlock head arrow stats) p = bstats-any kind stats p

    bstats-any : (kind : ListKind) (d : BStats) → ProperBStats rule kind d → ProperBStats any_division kind d
    bstats-any kind (LastBStat stat) p = (bstat-any kind stat p.0, tt)
    bstats-any kind (MoreBStats stat sep stats) p = (bstat-any kind stat p.0, tt, p.2, bstats-any kind stats p.3)

    pub bstat-any : (kind : ListKind) (d : BStat) → ProperBStat rule kind d → ProperBStat any_division kind d
    bstat-any kind (ImportBStat i) p = p
    bstat-any kind (DefBStat mods def) p = (p.0, def-any kind def p.1, p.2)
    bstat-any kind (ExprBStat expr) p = (expr-any expr p.0, p.1)
    bstat-any kind EmptyBStat p = tt
    bstat-any kind (BrokenBStat xs) p = p

    cases-any : (d : Cases) → ProperCases rule d → ProperCases any_division d
    cases-any (LastCase c) p = case-any c p
    cases-any (MoreCases c cases) p = (case-any c p.0, cases-any cases p.1)

    case-any : (d : Case) → ProperCase rule d → ProperCase any_division d
    case-any (CaseOf word pat arrow stats) p = (p.0, p.1, bstats-any _ stats p.2)
    case-any (GuardedCase word pat guard test arrow stats) p = (p.0, infix-any test p.1, p.2, p.3, p.4, bstats-any _ stats p.5)

    def-any : (kind : ListKind) (d : Def) → ProperDef rule kind d → ProperDef any_division kind d
    def-any kind (ValueDef word id type sign right) p = expr-any right p
    def-any kind (MethodDef word id ts lists type sign right) p = (p.0, expr-any right p.1)
    def-any kind (ProcedureDef word id ts lists o block k) p = (p.0, p.1, block-any (within_procedure kind) block p.2)
    def-any kind (AliasDef word id sign type) p = p
