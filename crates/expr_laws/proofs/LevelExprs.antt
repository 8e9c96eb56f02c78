-- The tokens of expressions, blocks, cases and definitions leave the brackets open that were.
use Rattle.std.proofs.Common.{◌≡◌, Bool, true, false, ◌&&◌, List, [], ◌∷◌, Option, Some, None}
use Rattle.std.specs.Prelude.{not}
use Rattle.source_grammar.specs.Brackets.{is_semicolon, has_no_separator, open_after, is_balanced, is_piece}
use Rattle.source_grammar.specs.Expressions.{ListKind, WithinExpr, LPar, NamedLPar, WildLPar, LamHead, NamedHead, WildHead, LParHead, PrefixSign, Plus, Minus, Bang, Tilde, ValueWord, Val, Var, Sep, Expr, Headed, DoThenWhile, TryCatch, ReturnAlone, InfixExpr, TypedExpr, MatchExpr, Heading, Lambda, IfThen, IfElse, WhileDo, TryAlone, TryFinally, TryCatchFinally, ForRound, ForCurly, ThrowOf, ReturnOf, AssignName, AssignSelect, AssignApply, Enums, LastGen, MoreGens, Gen, GenOf, Guards, NoGuards, MoreGuards, Infix, LastPrefix, MorePrefixes, Prefix, Unsigned, Signed, Prim, LiteralPrim, MinusPrim, Placeholder, ThisPrim, SuperPrim, NamePrim, UnitPrim, ExprInParentheses, PairPrim, TriplePrim, BlockPrim, CasesPrim, NewOf, NewWith, SelectPrim, SelectHole, TypeApplyPrim, ApplyPrim, EtaPrim, Args, NoArgs, ExprArgs, BlockArg, CasesArg, ExprList, LastExpr, MoreExprs, Block, Statements, LambdaBlock, BStats, LastBStat, MoreBStats, BStat, ImportBStat, DefBStat, ExprBStat, EmptyBStat, BrokenBStat, Cases, LastCase, MoreCases, Case, CaseOf, GuardedCase, Def, ValueDef, MethodDef, ProcedureDef, AliasDef}
use Rattle.source_grammar.specs.ExpressionRules.{Rule, within_procedure, ProperExpr, ProperHeading, ProperEnums, ProperGen, ProperGuards, ProperInfix, ProperPrefix, ProperPrim, ProperArgs, ProperExprList, ProperBlock, ProperBStats, ProperBStat, ProperCases, ProperCase, ProperDef}
use Rattle.source_grammar.specs.ExpressionTokens.{lpar_tokens, head_tokens, sign_token, value_word_token, sep_tokens, optional_semicolon, yield_tokens, expr_tokens, heading_tokens, enums_tokens, gen_tokens, guards_tokens, infix_tokens, prefix_tokens, prim_tokens, args_tokens, expr_list_tokens, block_tokens, bstats_tokens, bstat_tokens, cases_tokens, case_tokens, def_tokens}
use Rattle.source_grammar.specs.Lexemes.{Place, Lexeme, comma}
use Rattle.expr_laws.proofs.LevelTokens.{Level, level-none, level-append, level-round, level-square, level-curly, level-word, level-sign, level-plain, level-arrow, level-back, level-id, level-number, level-literal, level-comma, level-dot, level-semicolon, paired, tripled, level-balanced, type-level, type-list-level, pat-level, listed-level, type-part-level, par-lists-level, tparams-level, mods-level, import-level}

lpar-level : (d : LPar) → Level (lpar_tokens d)
lpar-level (NamedLPar id type) = level-id id _ (type-part-level type)
lpar-level (WildLPar p type) = level-sign _ _ _ (type-part-level type)

pub head-level : (d : LamHead) → Level (head_tokens d)
head-level (NamedHead id) = level-id id _ level-none
head-level (WildHead p) = level-sign _ _ _ level-none
head-level (LParHead o ps k) = level-round o k _ _ (listed-level lpar_tokens lpar-level ps) level-none

pub level-prefix : (s : PrefixSign) (xs : List Lexeme) → Level xs → Level (sign_token s ∷ xs)
level-prefix (Plus p) xs q = level-plain _ _ _ q
level-prefix (Minus p) xs q = level-plain _ _ _ q
level-prefix (Bang p) xs q = level-plain _ _ _ q
level-prefix (Tilde p) xs q = level-plain _ _ _ q

level-value : (w : ValueWord) (xs : List Lexeme) → Level xs → Level (value_word_token w ∷ xs)
level-value (Val p) xs q = level-word _ _ _ q
level-value (Var p) xs q = level-word _ _ _ q

sep-level : (ps : Sep) → Level (sep_tokens ps)
sep-level [] = level-none
sep-level (p ∷ ps) = level-semicolon p _ (sep-level ps)

semi-level : (o : Option Place) → Level (optional_semicolon o)
semi-level None = level-none
semi-level (Some p) = level-semicolon p _ level-none

yield-level : (o : Option Place) → Level (yield_tokens o)
yield-level None = level-none
yield-level (Some p) = level-word _ _ _ level-none

-- the brackets of a statement that is broken match
piece-balanced : (xs : List Lexeme) → is_piece xs ≡ true → is_balanced xs ≡ true
piece-balanced [] e = cc
piece-balanced (x ∷ xs) e = go (not (is_semicolon x) && has_no_separator (open_after x []) xs) (is_balanced (x ∷ xs)) e where
  go : (a b : Bool) → (a && b) ≡ true → b ≡ true
  go true b f = f
  go false b f = cc

module _ (rule : Rule) where
  mutual
    pub expr-level : (d : Expr) → ProperExpr rule d → Level (expr_tokens d)
    expr-level (Headed h body) p = level-append _ _ (heading-level h body p.0) (expr-level body p.1)
    expr-level (DoThenWhile w body sep until o test k) p =
        level-word _ _ _ (level-append _ _ (level-append _ _ (expr-level body p.0) (sep-level sep)) (level-word _ _ _ (level-round o k _ _ (expr-level test p.2) level-none)))
    expr-level (TryCatch w body catch o cases k) p = level-word _ _ _ (level-append _ _ (expr-level body p.0) (level-word _ _ _ (level-curly o k _ _ (cases-level cases p.2) level-none)))
    expr-level (ReturnAlone w) p = level-word _ _ _ level-none
    expr-level (InfixExpr d) p = infix-level d p.0
    expr-level (TypedExpr d q type) p = level-append _ _ (infix-level d p.0) (level-sign _ _ _ (type-level type))
    expr-level (MatchExpr d w o cases k) p = level-append _ _ (infix-level d p.0) (level-word _ _ _ (level-curly o k _ _ (cases-level cases p.2) level-none))

    heading-level : (h : Heading) (body : Expr) → ProperHeading rule h body → Level (heading_tokens h)
    heading-level (Lambda h a) body p = level-append _ _ (head-level h) (level-arrow a _ level-none)
    heading-level (IfThen w o test k) body p = level-word _ _ _ (level-round o k _ _ (expr-level test p) level-none)
    heading-level (IfElse w o test k first semi other) body p =
        level-word _ _ _ (level-round o k _ _ (expr-level test p.0) (level-append _ _ (level-append _ _ (expr-level first p.1) (semi-level semi)) (level-word _ _ _ level-none)))
    heading-level (WhileDo w o test k) body p = level-word _ _ _ (level-round o k _ _ (expr-level test p) level-none)
    heading-level (TryAlone w) body p = level-word _ _ _ level-none
    heading-level (TryFinally w tried last) body p = level-word _ _ _ (level-append _ _ (expr-level tried p.0) (level-word _ _ _ level-none))
    heading-level (TryCatchFinally w tried catch o cases k last) body p =
        level-word _ _ _ (level-append _ _ (expr-level tried p.0) (level-word _ _ _ (level-curly o k _ _ (cases-level cases p.2) (level-word _ _ _ level-none))))
    heading-level (ForRound w o enums k yield) body p = level-word _ _ _ (level-round o k _ _ (enums-level enums p) (yield-level yield))
    heading-level (ForCurly w o enums k yield) body p = level-word _ _ _ (level-curly o k _ _ (enums-level enums p) (yield-level yield))
    heading-level (ThrowOf w) body p = level-word _ _ _ level-none
    heading-level (ReturnOf w) body p = level-word _ _ _ level-none
    heading-level (AssignName id sign) body p = level-id id _ (level-sign _ _ _ level-none)
    heading-level (AssignSelect d q id sign) body p = level-append _ _ (prim-level d p.0) (level-dot q _ (level-id id _ (level-sign _ _ _ level-none)))
    heading-level (AssignApply d args sign) body p = level-append _ _ (level-append _ _ (prim-level d p.0) (args-level args p.2)) (level-sign _ _ _ level-none)

    enums-level : (d : Enums) → ProperEnums rule d → Level (enums_tokens d)
    enums-level (LastGen gen) p = gen-level gen p
    enums-level (MoreGens gen sep gens) p = level-append _ _ (level-append _ _ (gen-level gen p.0) (sep-level sep)) (enums-level gens p.2)

    gen-level : (d : Gen) → ProperGen rule d → Level (gen_tokens d)
    gen-level (GenOf pat arrow from guards) p = level-append _ _ (pat-level pat) (level-back arrow _ (level-append _ _ (expr-level from p.2) (guards-level guards p.4)))

    guards-level : (d : Guards) → ProperGuards rule d → Level (guards_tokens d)
    guards-level NoGuards p = level-none
    guards-level (MoreGuards sep w test guards) p = level-append _ _ (sep-level sep) (level-word _ _ _ (level-append _ _ (infix-level test p.0) (guards-level guards p.2)))

    pub infix-level : (d : Infix) → ProperInfix rule d → Level (infix_tokens d)
    infix-level (LastPrefix d) p = prefix-level d p
    infix-level (MorePrefixes d id rest) p = level-append _ _ (prefix-level d p.0) (level-id id _ (infix-level rest p.4))

    pub prefix-level : (d : Prefix) → ProperPrefix rule d → Level (prefix_tokens d)
    prefix-level (Unsigned d) p = prim-level d p
    prefix-level (Signed s d) p = level-prefix s _ (prim-level d p.0)

    pub prim-level : (d : Prim) → ProperPrim rule d → Level (prim_tokens d)
    prim-level (LiteralPrim l) p = level-literal l _ level-none
    prim-level (MinusPrim q n) p = level-plain _ _ _ (level-number n _ level-none)
    prim-level (Placeholder q) p = level-sign _ _ _ level-none
    prim-level (ThisPrim w) p = level-word _ _ _ level-none
    prim-level (SuperPrim w q id) p = level-word _ _ _ (level-dot q _ (level-id id _ level-none))
    prim-level (NamePrim id) p = level-id id _ level-none
    prim-level (UnitPrim o k) p = level-round o k [] _ level-none level-none
    prim-level (ExprInParentheses o e k) p = level-round o k _ _ (expr-level e p) level-none
    prim-level (PairPrim o x q y k) p = paired o k (expr_tokens x) (comma q ∷ expr_tokens y) (expr-level x p.0) (level-comma q _ (expr-level y p.1))
    prim-level (TriplePrim o x q y r z k) p =
        tripled o k (expr_tokens x) (comma q ∷ expr_tokens y) (comma r ∷ expr_tokens z) (expr-level x p.0) (level-comma q _ (expr-level y p.1)) (level-comma r _ (expr-level z p.2))
    prim-level (BlockPrim o block k) p = level-curly o k _ _ (block-level WithinExpr block p) level-none
    prim-level (CasesPrim o cases k) p = level-curly o k _ _ (cases-level cases p) level-none
    prim-level (NewOf w type) p = level-word _ _ _ (type-level type)
    prim-level (NewWith w type args) p = level-word _ _ _ (level-append _ _ (type-level type) (args-level args p))
    prim-level (SelectPrim d q id) p = level-append _ _ (prim-level d p.0) (level-dot q _ (level-id id _ level-none))
    prim-level (SelectHole d q) p = level-append _ _ (prim-level d p) (level-dot q _ level-none)
    prim-level (TypeApplyPrim d o ts k) p = level-append _ _ (prim-level d p.0) (level-square o k _ _ (type-list-level ts) level-none)
    prim-level (ApplyPrim d args) p = level-append _ _ (prim-level d p.0) (args-level args p.2)
    prim-level (EtaPrim d q) p = level-append _ _ (prim-level d p.0) (level-sign _ _ _ level-none)

    args-level : (d : Args) → ProperArgs rule d → Level (args_tokens d)
    args-level (NoArgs o k) p = level-round o k [] _ level-none level-none
    args-level (ExprArgs o exprs k) p = level-round o k _ _ (list-level exprs p.1) level-none
    args-level (BlockArg o block k) p = level-curly o k _ _ (block-level WithinExpr block p.1) level-none
    args-level (CasesArg o cases k) p = level-curly o k _ _ (cases-level cases p.1) level-none

    list-level : (d : ExprList) → ProperExprList rule d → Level (expr_list_tokens d)
    list-level (LastExpr e) p = expr-level e p
    list-level (MoreExprs e q exprs) p = level-append _ _ (expr-level e p.0) (level-comma q _ (list-level exprs p.1))

    pub block-level : (kind : ListKind) (d : Block) → ProperBlock rule kind d → Level (block_tokens d)
    block-level kind (Statements stats) p = bstats-level kind stats p.2
    block-level kind (LambdaBlock head arrow stats) p = level-append _ _ (head-level head) (level-arrow arrow _ (bstats-level kind stats p))

    pub bstats-level : (kind : ListKind) (d : BStats) → ProperBStats rule kind d → Level (bstats_tokens d)
    bstats-level kind (LastBStat stat) p = bstat-level kind stat p.0
    bstats-level kind (MoreBStats stat sep stats) p = level-append _ _ (level-append _ _ (bstat-level kind stat p.0) (sep-level sep)) (bstats-level kind stats p.3)

    pub bstat-level : (kind : ListKind) (d : BStat) → ProperBStat rule kind d → Level (bstat_tokens d)
    bstat-level kind (ImportBStat i) p = import-level i
    bstat-level kind (DefBStat mods def) p = level-append _ _ (mods-level mods _ (p.0).0) (def-level kind def p.1)
    bstat-level kind (ExprBStat e) p = expr-level e p.0
    bstat-level kind EmptyBStat p = level-none
    bstat-level kind (BrokenBStat xs) p = level-balanced xs (piece-balanced xs p)

    pub cases-level : (d : Cases) → ProperCases rule d → Level (cases_tokens d)
    cases-level (LastCase c) p = case-level c p
    cases-level (MoreCases c cases) p = level-append _ _ (case-level c p.0) (cases-level cases p.1)

    pub case-level : (d : Case) → ProperCase rule d → Level (case_tokens d)
    case-level (CaseOf w pat a stats) p = level-word _ _ _ (level-append _ _ (pat-level pat) (level-arrow a _ (bstats-level WithinExpr stats p.2)))
    case-level (GuardedCase w pat guard test a stats) p =
        level-word _ _ _ (level-append _ _ (pat-level pat) (level-word _ _ _ (level-append _ _ (infix-level test p.1) (level-arrow a _ (bstats-level WithinExpr stats p.5)))))

    pub def-level : (kind : ListKind) (d : Def) → ProperDef rule kind d → Level (def_tokens d)
    def-level kind (ValueDef w id type sign right) p = level-value w _ (level-id id _ (level-append _ _ (type-part-level type) (level-sign _ _ _ (expr-level right p))))
    def-level kind (MethodDef w id params lists type sign right) p =
        level-word _ _ _ (level-id id _ (level-append _ _ (level-append _ _ (level-append _ _ (tparams-level params) (par-lists-level lists)) (type-part-level type)) (level-sign _ _ _ (expr-level right p.1))))
    def-level kind (ProcedureDef w id params lists o block k) p =
        level-word _ _ _ (level-id id _ (level-append _ _ (level-append _ _ (tparams-level params) (par-lists-level lists)) (level-curly o k _ _ (block-level (within_procedure kind) block p.2) level-none)))
    def-level kind (AliasDef w id sign type) p = level-word _ _ _ (level-id id _ (level-sign _ _ _ (type-level type)))
