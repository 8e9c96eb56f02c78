-- The items of each derivation lead the machine to where it has read this derivation.
use Rattle.std.proofs.Common.{◌≡◌, Bool, true, false, ◌||◌, if◌then◌else◌, List, [], ◌∷◌, ◌++◌, Some, None, refl, ap, sym, ◌∙◌}
use Rattle.std.specs.Prelude.{not}
use Rattle.source_grammar.specs.Expressions.{Expr, Headed, DoThenWhile, TryCatch, ReturnAlone, InfixExpr, TypedExpr, MatchExpr, Heading, Lambda, IfThen, IfElse, WhileDo, TryAlone, TryFinally, TryCatchFinally, ForRound, ForCurly, ThrowOf, ReturnOf, AssignName, AssignSelect, AssignApply, Enums, LastGen, MoreGens, Gen, GenOf, Guards, NoGuards, MoreGuards, Infix, LastPrefix, MorePrefixes, Prefix, Unsigned, Signed, Prim, LiteralPrim, MinusPrim, Placeholder, ThisPrim, SuperPrim, NamePrim, UnitPrim, ExprInParentheses, PairPrim, TriplePrim, BlockPrim, CasesPrim, NewOf, NewWith, SelectPrim, SelectHole, TypeApplyPrim, ApplyPrim, EtaPrim, Args, NoArgs, ExprArgs, BlockArg, CasesArg, ExprList, LastExpr, MoreExprs}
use Rattle.source_grammar.specs.ExpressionRules as rules
use Rattle.source_grammar.specs.ExpressionRules.{Rule, prim_of, infix_operators, ProperExpr, ProperHeading, ProperEnums, ProperGen, ProperGuards, ProperInfix, ProperPrefix, ProperPrim, ProperArgs, ProperExprList}
use Rattle.source_grammar.specs.ExpressionTokens.{sep_tokens, optional_semicolon, expr_tokens, heading_tokens, enums_tokens, gen_tokens, guards_tokens, infix_tokens, prefix_tokens, prim_tokens, args_tokens, expr_list_tokens}
use Rattle.source_grammar.specs.Lexemes.{Lexeme, BackArrow}
use Rattle.source_grammar.specs.Newlines.{newline_before}
use Rattle.source_grammar.specs.Patterns.{Pat, pat_tokens}
use Rattle.source_grammar.specs.Types.{type_tokens}
use Rattle.source_grammar.specs.Precedence.{are_of_one_side}
use Rattle.expr_tails.specs.declared.states.Limit.{Limit}
use Rattle.expr_tails.specs.declared.states.Limit.TheVariants as limit
use Rattle.expr_laws.specs.Newlines.{NewlinesEnd}
use Rattle.expr_laws.proofs.BodiesAlong.{infix-ends, typed-along, match-along, return-along}
use Rattle.expr_laws.proofs.CallsAlong.{ArgsEnd, apply-along, new-with-along}
use Rattle.expr_laws.proofs.Derived.{Operation, Begin, Head, Of, DoHead, Context, DoneGuard, Part, FromPart, GuardPart, headed_all, innermost, is_param_limit, may_stand, at}
use Rattle.expr_laws.proofs.ExprsFit.{InfixFits, PrimFits, infix-fits, prim-fits}
use Rattle.expr_laws.proofs.FirstItems.{front-newline, prim-first, prefix-first}
use Rattle.expr_laws.proofs.Fitting.{operators_of}
use Rattle.expr_laws.proofs.FramesAlong.{AllEnd}
use Rattle.expr_laws.proofs.GensAlong.{GuardsRead, no-guards, more-guards, GenRead, gen-read, EnumsRead, last-enum, more-enums, for-round-read, for-curly-read}
use Rattle.expr_laws.proofs.GroupsAlong.{ExprEnds, PrimEnds, unit-along, paren-along, pair-along, triple-along}
use Rattle.expr_laws.proofs.HeadsAlong.{headed-along, lambda-read, if-read, while-read, try-read, throw-read, else-read, catch-along, catch-finally-read, finally-read, do-along, return-of-along, assign-name-read, assign-select-read, assign-apply-read}
use Rattle.expr_laws.proofs.InfixAlong.{parts, PrefixEnds, unsigned-along, signed-stands, signed-along, ChainEnds, last-along, operation, more-along, next-side, next-stands}
use Rattle.expr_laws.proofs.Items.{prim_items}
use Rattle.expr_laws.proofs.NewlinesApart.{Ends, front-of, rest-of, next-of, within, separate}
use Rattle.expr_laws.proofs.PausesAlong.{Pause, from-pause, test_end, test-pause}
use Rattle.expr_laws.proofs.PrimsAlong.{stands-limit, literal-along, minus-along, wild-along, this-along, super-along, name-along, block-along, cases-along, new-along, select-along, hole-along, type-apply-along, eta-along}
use Rattle.expr_laws.proofs.SpineAlong.{heads_of, last_of, all-there, ExprRead, end_of, heads-wait}
use Rattle.expr_laws.proofs.WordsAlong.{start}

-- what is read with no head around it is an expression that ended
pub expr-ends : (e : Expr) → ExprRead e [] → ExprEnds e
expr-ends e r = record {
  end = end_of r;
  leads = r.leads;
  ends = ap (λ b. if b then None else headed_all (heads_of e []) (innermost (end_of r))) (heads-wait e []) ∙ ap (headed_all (heads_of e [])) r.there ∙ all-there e [];
}

-- the first token of what begins with a Prim, or with an operand, stands where that of the Prim does
front-stands : (d : Prim) (xs : List Lexeme) (c : Context) → may_stand (at c Begin) (newline_before (prim_tokens d ++ xs)) ≡ true → may_stand (at c Begin) (newline_before (prim_tokens d)) ≡ true
front-stands d xs c h = ap (may_stand (at c Begin)) (sym (front-newline (prim_tokens d) xs (prim-first d))) ∙ h

prefix-stands : (d : Prefix) (xs : List Lexeme) (c : Context) → may_stand (at c Begin) (newline_before (prefix_tokens d ++ xs)) ≡ true → may_stand (at c Begin) (newline_before (prefix_tokens d)) ≡ true
prefix-stands d xs c h = ap (may_stand (at c Begin)) (sym (front-newline (prefix_tokens d) xs (prefix-first d))) ∙ h

module _ (rule : Rule) where
  mutual
    pub expr-along : (e : Expr) → ProperExpr rule e → Ends (expr_tokens e) → (hs : List Head) → ExprRead e hs
    expr-along (Headed h body) p n hs = headed-read h body p.0 (front-of (heading_tokens h) _ n) hs (expr-along body p.1 (rest-of (heading_tokens h) _ n) (Of h ∷ hs))
    expr-along (DoThenWhile w body sep until o test k) p n hs =
        let m = next-of _ _ n in
        let before : List Lexeme = expr_tokens body ++ sep_tokens sep in
        do-along w until o k body test sep hs p.1 (expr-along body p.0 (front-of (expr_tokens body) _ (front-of before _ m)) (DoHead w ∷ hs))
        (expr-ends test (expr-along test p.2 (within _ (expr_tokens test) _ (next-of _ _ (rest-of before _ m))) []))
    expr-along (TryCatch w body catch o cases k) p n hs = catch-along w catch o k body cases hs p.1 (expr-along body p.0 (within _ (expr_tokens body) _ n) (Of (TryAlone w) ∷ hs))
    expr-along (ReturnAlone w) p n hs = return-along w hs
    expr-along (InfixExpr d) p n hs = infix-ends d hs (chain-along d p.0 n hs [] limit.Expr p.1 (infix-fits limit.Expr refl d) refl)
    expr-along (TypedExpr d q type) p n hs = typed-along d q type hs (chain-along d p.0 (front-of (infix_tokens d) _ n) hs [] limit.Expr p.1 (infix-fits limit.Expr refl d) refl)
    expr-along (MatchExpr d w o cases k) p n hs = match-along d w o cases k hs (chain-along d p.0 (front-of (infix_tokens d) _ n) hs [] limit.Expr p.1 (infix-fits limit.Expr refl d) refl)

    headed-read : (h : Heading) (body : Expr) → ProperHeading rule h body → Ends (heading_tokens h) → (hs : List Head) → ExprRead body (Of h ∷ hs) → ExprRead (Headed h body) hs
    headed-read (Lambda h arrow) body p n hs r = headed-along (Lambda h arrow) body hs (lambda-read h arrow hs) r
    headed-read (IfThen w o test k) body p n hs r =
        headed-along (IfThen w o test k) body hs (if-read w o k test hs (expr-ends test (expr-along test p (within _ (expr_tokens test) _ (next-of _ _ n)) []))) r
    headed-read (IfElse w o test k first semi other) body p n hs r =
        let m = next-of _ _ n in
        headed-along (IfElse w o test k first semi other) body hs
        (else-read w o k other test first semi hs p.2 (expr-ends test (expr-along test p.0 (within _ (expr_tokens test) _ m) []))
        (expr-along first p.1 (front-of (expr_tokens first) _ (within _ (expr_tokens first ++ optional_semicolon semi) _ (rest-of (expr_tokens test) _ (next-of _ _ m)))) (Of (IfThen w o test k) ∷ hs))) r
    headed-read (WhileDo w o test k) body p n hs r =
        headed-along (WhileDo w o test k) body hs (while-read w o k test hs (expr-ends test (expr-along test p (within _ (expr_tokens test) _ (next-of _ _ n)) []))) r
    headed-read (TryAlone w) body p n hs r = headed-along (TryAlone w) body hs (try-read w hs) r
    headed-read (TryFinally w tried last) body p n hs r =
        headed-along (TryFinally w tried last) body hs (finally-read w last tried hs p.1 (expr-along tried p.0 (within _ (expr_tokens tried) _ n) (Of (TryAlone w) ∷ hs))) r
    headed-read (TryCatchFinally w tried catch o cases k last) body p n hs r =
        headed-along (TryCatchFinally w tried catch o cases k last) body hs (catch-finally-read w catch o k last tried cases hs p.1 (expr-along tried p.0 (within _ (expr_tokens tried) _ n) (Of (TryAlone w) ∷ hs))) r
    headed-read (ForRound w o enums k yield) body p n hs r =
        headed-along (ForRound w o enums k yield) body hs (for-round-read w o k enums yield hs (enums-along enums p (within _ (enums_tokens enums) _ (next-of _ _ n)))) r
    headed-read (ForCurly w o enums k yield) body p n hs r = headed-along (ForCurly w o enums k yield) body hs (for-curly-read w o k enums yield hs) r
    headed-read (ThrowOf w) body p n hs r = headed-along (ThrowOf w) body hs (throw-read w hs) r
    headed-read (ReturnOf w) body p n hs r = return-of-along w body hs p r
    headed-read (AssignName id sign) body p n hs r = headed-along (AssignName id sign) body hs (assign-name-read id sign hs) r
    headed-read (AssignSelect d q id sign) body p n hs r =
        headed-along (AssignSelect d q id sign) body hs (assign-select-read d q id sign hs p.1 (prim-along d p.0 (front-of (prim_tokens d) _ n) (start hs) (prim-fits limit.Expr refl d) refl)) r
    headed-read (AssignApply d args sign) body p n hs r =
        let call = front-of (prim_tokens d ++ args_tokens args) _ n in
        headed-along (AssignApply d args sign) body hs
        (assign-apply-read d args sign hs p.1 (args-along args p.2 (rest-of (prim_tokens d) _ call)) (prim-along d p.0 (front-of (prim_tokens d) _ call) (start hs) (prim-fits limit.Expr refl d) refl)) r

    enums-along : (enums : Enums) → ProperEnums rule enums → Ends (enums_tokens enums) → EnumsRead enums
    enums-along (LastGen gen) p n = last-enum gen (gen-along gen p n)
    enums-along (MoreGens gen sep gens) p n =
        let first : List Lexeme = gen_tokens gen ++ sep_tokens sep in
        more-enums gen sep gens (gen-along gen p.0 (front-of (gen_tokens gen) _ (front-of first _ n))) p.1 (separate gen sep gens p.1 n) (enums-along gens p.2 (rest-of first _ n))

    gen-along : (gen : Gen) → ProperGen rule gen → Ends (gen_tokens gen) → GenRead gen
    gen-along (GenOf pat arrow from guards) p n =
        let m = next-of _ _ (rest-of (pat_tokens pat) _ n) in
        let r = expr-along from p.2 (front-of (expr_tokens from) _ m) [] in
        gen-read pat arrow from guards p.0 p.1 r
        (guards-along guards p.4 (rest-of (expr_tokens from) _ m) pat arrow from [] (FromPart pat arrow) (end_of r) (last_of from) (rules.takes_operand from) (from-pause pat arrow from r) p.3)

    guards-along : (guards : Guards) → ProperGuards rule guards → Ends (guards_tokens guards)
        → (pat : Pat) (arrow : BackArrow) (from : Expr) (dones : List DoneGuard) (part : Part) (c : Context) (last : Expr) (takes : Bool)
        → Pause pat arrow from dones part c last takes → (not takes || rules.keeps_apart guards) ≡ true → GuardsRead pat arrow from dones part c last guards
    guards-along NoGuards p n pat arrow from dones part c last takes k apart = no-guards pat arrow from dones part c last takes k
    guards-along (MoreGuards sep w test guards) p n pat arrow from dones part c last takes k apart =
        let m = next-of _ _ (rest-of (sep_tokens sep) _ n) in
        let r = chain-along test p.0 (front-of (infix_tokens test) _ m) [] [] limit.Guard p.1 (infix-fits limit.Guard refl test) refl in
        more-guards pat arrow from dones part c last takes k sep w test guards apart r
        (guards-along guards p.2 (rest-of (infix_tokens test) _ m) pat arrow from (record { sep = sep; word = w; test = test } ∷ dones) (GuardPart pat arrow from dones sep w) (test_end r) (InfixExpr test) false
        (test-pause pat arrow from dones sep w test r) refl)

    pub chain-along : (d : Infix) → ProperInfix rule d → Ends (infix_tokens d) → (hs : List Head) (os : List Operation) (l : Limit) → are_of_one_side (operators_of os ++ infix_operators d) ≡ true
        → InfixFits l d → may_stand (parts hs os None l Begin) (newline_before (infix_tokens d)) ≡ true → ChainEnds d hs os l
    chain-along (LastPrefix prefix) p n hs os l one fit h = last-along prefix hs os l (prefix-along prefix p n hs os l fit h)
    chain-along (MorePrefixes prefix id rest) p n hs os l one fit h =
        let no_param : is_param_limit l ≡ false = stands-limit (parts hs os None l Begin) (newline_before (infix_tokens (MorePrefixes prefix id rest))) h in
        more-along prefix id rest hs os l no_param p.1 p.2 one (prefix-along prefix p.0 (front-of (prefix_tokens prefix) _ n) hs os l fit.0 (prefix-stands prefix _ (parts hs os None l Begin) h))
        (chain-along rest p.4 (next-of _ _ (rest-of (prefix_tokens prefix) _ n)) hs (operation prefix id ∷ os) l (next-side os prefix id rest one) fit.1
        (next-stands hs os (operation prefix id) l (newline_before (infix_tokens rest)) no_param p.3))

    prefix-along : (d : Prefix) → ProperPrefix rule d → Ends (prefix_tokens d) → (hs : List Head) (os : List Operation) (l : Limit) → PrimFits l (prim_of d)
        → may_stand (parts hs os None l Begin) (newline_before (prefix_tokens d)) ≡ true → PrefixEnds d hs os l
    prefix-along (Unsigned d) p n hs os l fit h = unsigned-along d hs os l (prim-along d p n (parts hs os None l Begin) fit h)
    prefix-along (Signed s d) p n hs os l fit h =
        signed-along s d hs os l h p.1 p.2
        (prim-along d p.0 (next-of _ _ n) (parts hs os (Some s) l Begin) fit
        (signed-stands hs os l s (newline_before (prim_tokens d)) (stands-limit (parts hs os None l Begin) (newline_before (prefix_tokens (Signed s d))) h)))

    pub prim-along : (d : Prim) → ProperPrim rule d → Ends (prim_tokens d) → (c : Context) → PrimFits c.limit d → may_stand (at c Begin) (newline_before (prim_tokens d)) ≡ true → PrimEnds (prim_items d) d c
    prim-along (LiteralPrim l) p n c fit h = literal-along l c h
    prim-along (MinusPrim s m) p n c fit h = minus-along s m c h p
    prim-along (Placeholder q) p n c fit h = wild-along q c h
    prim-along (ThisPrim w) p n c fit h = this-along w c h
    prim-along (SuperPrim w q id) p n c fit h = super-along w q id c h
    prim-along (NamePrim id) p n c fit h = name-along id c h
    prim-along (UnitPrim o k) p n c fit h = unit-along o k c h
    prim-along (ExprInParentheses o e k) p n c fit h = paren-along o k e (expr-ends e (expr-along e p (within _ (expr_tokens e) _ n) [])) c h
    prim-along (PairPrim o x q y k) p n c fit h =
        let m = rest-of (expr_tokens x) _ (next-of _ _ n) in
        pair-along o q k x y (expr-ends x (expr-along x p.0 (within _ (expr_tokens x) _ n) [])) (expr-ends y (expr-along y p.1 (within _ (expr_tokens y) _ m) [])) c h
    prim-along (TriplePrim o x q y r z k) p n c fit h =
        let m = rest-of (expr_tokens x) _ (next-of _ _ n) in
        triple-along o q r k x y z (expr-ends x (expr-along x p.0 (within _ (expr_tokens x) _ n) [])) (expr-ends y (expr-along y p.1 (within _ (expr_tokens y) _ m) []))
        (expr-ends z (expr-along z p.2 (within _ (expr_tokens z) _ (rest-of (expr_tokens y) _ (next-of _ _ m))) [])) c h
    prim-along (BlockPrim o block k) p n c fit h = block-along o block k c h
    prim-along (CasesPrim o cases k) p n c fit h = cases-along o cases k c h
    prim-along (NewOf w type) p n c fit h = new-along w type c h fit
    prim-along (NewWith w type args) p n c fit h = new-with-along w type args c h fit (args-along args p (rest-of (type_tokens type) _ (next-of _ _ n)))
    prim-along (SelectPrim d q id) p n c fit h =
        let s = front-stands d _ c h in
        select-along d q id c (stands-limit c (newline_before (prim_tokens d)) s) p.1 (prim-along d p.0 (front-of (prim_tokens d) _ n) c fit s)
    prim-along (SelectHole d q) p n c fit h =
        let s = front-stands d _ c h in
        hole-along d q c (stands-limit c (newline_before (prim_tokens d)) s) (prim-along d p (front-of (prim_tokens d) _ n) c fit s)
    prim-along (TypeApplyPrim d o ts k) p n c fit h =
        let s = front-stands d _ c h in
        type-apply-along d o ts k c (stands-limit c (newline_before (prim_tokens d)) s) p.1 (prim-along d p.0 (front-of (prim_tokens d) _ n) c fit s)
    prim-along (ApplyPrim d args) p n c fit h =
        let s = front-stands d _ c h in
        apply-along d args c (stands-limit c (newline_before (prim_tokens d)) s) p.1 (args-along args p.2 (rest-of (prim_tokens d) _ n)) (prim-along d p.0 (front-of (prim_tokens d) _ n) c fit s)
    prim-along (EtaPrim d q) p n c fit h =
        let s = front-stands d _ c h in
        eta-along d q c (stands-limit c (newline_before (prim_tokens d)) s) p.1 p.2 (prim-along d p.0 (front-of (prim_tokens d) _ n) c fit s)

    args-along : (args : Args) → ProperArgs rule args → Ends (args_tokens args) → ArgsEnd args
    args-along (NoArgs o k) p n = p
    args-along (ExprArgs o exprs k) p n = (p.0, list-along exprs p.1 (within _ (expr_list_tokens exprs) _ n))
    args-along (BlockArg o block k) p n = p.0
    args-along (CasesArg o cases k) p n = p.0

    list-along : (exprs : ExprList) → ProperExprList rule exprs → Ends (expr_list_tokens exprs) → AllEnd exprs
    list-along (LastExpr e) p n = expr-ends e (expr-along e p n [])
    list-along (MoreExprs e q exprs) p n = (expr-ends e (expr-along e p.0 (front-of (expr_tokens e) _ n) []), list-along exprs p.1 (next-of _ _ (rest-of (expr_tokens e) _ n)))

  -- from the beginning, with nothing behind it
  pub expr-read : (e : Expr) → ProperExpr rule e → NewlinesEnd (expr_tokens e) → ExprEnds e
  expr-read e p n = expr-ends e (expr-along e p (record { ends = n }) [])
