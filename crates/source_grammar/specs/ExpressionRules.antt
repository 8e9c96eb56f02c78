-- What a derivation of an expression has to keep beyond its tokens: where newlines stand, and what makes one reading of each text.
use Rattle.std.specs.Prelude.{◌≡◌, Bool, true, false, not, ◌&&◌, ◌||◌, List, [], ◌∷◌, ◌++◌, codes}
use Rattle.std.specs.List.{list_any}
use Rattle.std.specs.Str.{bytes_eq}
use Rattle.scan_tokens.specs.declared.tokens.TokenKind.{TokenKind}
use Rattle.scan_tokens.specs.declared.tokens.TokenKind.TheVariants as token
use Rattle.source_grammar.specs.Brackets.{has_newline, has_no_arrow, has_no_case, is_case_role, is_piece, role}
use Rattle.source_grammar.specs.Comprehensions.{is_generator_pat}
use Rattle.source_grammar.specs.Definitions.{ParList, items, OnlyLastRepeats, ProperImport, ProperMods}
use Rattle.source_grammar.specs.Expressions.{ListKind, WithinExpr, OfProcedure, LamHead, PrefixSign, Minus, Sep, Expr, Headed, DoThenWhile, TryCatch, ReturnAlone, InfixExpr, TypedExpr, MatchExpr, Heading, IfThen, IfElse, WhileDo, TryAlone, TryFinally, TryCatchFinally, ForRound, ForCurly, ReturnOf, AssignSelect, AssignApply, Enums, LastGen, MoreGens, Gen, GenOf, Guards, NoGuards, MoreGuards, Infix, LastPrefix, MorePrefixes, Prefix, Unsigned, Signed, Prim, MinusPrim, NamePrim, ExprInParentheses, PairPrim, TriplePrim, BlockPrim, CasesPrim, NewOf, NewWith, SelectPrim, SelectHole, TypeApplyPrim, ApplyPrim, EtaPrim, Args, NoArgs, ExprArgs, BlockArg, CasesArg, ExprList, LastExpr, MoreExprs, Block, Statements, LambdaBlock, BStats, LastBStat, MoreBStats, BStat, ImportBStat, DefBStat, ExprBStat, EmptyBStat, BrokenBStat, Cases, LastCase, MoreCases, Case, CaseOf, GuardedCase, Def, ValueDef, MethodDef, ProcedureDef, AliasDef}
use Rattle.source_grammar.specs.ExpressionTokens.{head_tokens, sep_tokens, expr_tokens, enums_tokens, gen_tokens, infix_tokens, prim_tokens, args_tokens, bstats_tokens, bstat_tokens, def_tokens}
use Rattle.source_grammar.specs.ExpressionTrees.{bstat_built}
use Rattle.source_grammar.specs.Lexemes.{Place, Lexeme, Arrow, arrow_token, Id}
use Rattle.source_grammar.specs.Newlines.{IsJoined, IsNear, IsJoinedPart, IsNearPart, newline_before}
use Rattle.source_grammar.specs.Patterns.{ProperPat}
use Rattle.source_grammar.specs.Placeholders.{Built, free_of}
use Rattle.source_grammar.specs.Precedence.{are_of_one_side}
use Rattle.source_grammar.specs.Types.{WrittenType, type_tokens}

-- ---- what may still follow an expression at its right end

-- the heads that could take more than they have
pub data OpenHead : Type 0 where
  -- an `if` without `else`
  IfOpen : OpenHead
  -- a `try` without `catch` and `finally`, and one with cases and without `finally`
  TryOpen : OpenHead
  CatchOpen : OpenHead
  -- a `return` without operand
  ReturnOpen : OpenHead

abbrev pub opened : Heading → List OpenHead
opened (IfThen word opening test closing) = IfOpen ∷ []
opened (TryAlone word) = TryOpen ∷ []
opened _ = []

-- the open heads of an expression that end where it ends, the outermost first
abbrev pub open_heads : Expr → List OpenHead
open_heads (Headed heading body) = opened heading ++ open_heads body
open_heads (TryCatch word body catch opening cases closing) = CatchOpen ∷ []
open_heads (ReturnAlone word) = ReturnOpen ∷ []
open_heads _ = []

abbrev pub takes_else : Expr → Bool
takes_else expr = list_any (elim [ IfOpen ↦ true | _ ↦ false ]) (open_heads expr)

abbrev pub takes_catch : Expr → Bool
takes_catch expr = list_any (elim [ TryOpen ↦ true | _ ↦ false ]) (open_heads expr)

abbrev pub takes_finally : Expr → Bool
takes_finally expr = list_any (elim [ TryOpen ↦ true | CatchOpen ↦ true | _ ↦ false ]) (open_heads expr)

abbrev pub takes_operand : Expr → Bool
takes_operand expr = list_any (elim [ ReturnOpen ↦ true | _ ↦ false ]) (open_heads expr)

-- `while` or `if` in the same line, directly after an expression, would begin the operand of a `return` there
abbrev pub is_apart : Sep → Place → Bool
is_apart [] word = has_newline word.before
is_apart (place ∷ places) word = true

abbrev pub keeps_apart : Guards → Bool
keeps_apart NoGuards = true
keeps_apart (MoreGuards sep word test _) = is_apart sep word

-- ---- `new`, and what directly follows its type

abbrev pub is_name_kind : TokenKind → Bool
is_name_kind token.Id = true
is_name_kind token.BackId = true
is_name_kind _ = false

abbrev pub ends_with_name : List Lexeme → Bool
ends_with_name [] = false
ends_with_name (x ∷ []) = is_name_kind x.kind
ends_with_name (x ∷ y ∷ xs) = ends_with_name (y ∷ xs)

-- A type whose last token is a name ends in a path, to which a name or type arguments can be added.
abbrev pub ends_in_path : WrittenType → Bool
ends_in_path type = ends_with_name (type_tokens type)

-- a selection or type arguments after it belong to the type
abbrev pub extends_type : Prim → Bool
extends_type (NewOf word type) = ends_in_path type
extends_type _ = false

-- Args after it belong to the `new`
abbrev pub takes_args : Prim → Bool
takes_args (NewOf word type) = true
takes_args _ = false

-- ---- prefix operators

abbrev pub is_prefix_id : Id → Bool
is_prefix_id id =
    not id.quoted && list_any (λ sign. bytes_eq sign id.name) (codes "-" ∷ codes "+" ∷ codes "!" ∷ codes "~" ∷ [])

-- - + ! or ~ alone: it would be a prefix operator where what follows it can begin a Prim
abbrev pub is_sign_alone : Prim → Bool
is_sign_alone (NamePrim id) = is_prefix_id id
is_sign_alone _ = false

-- Args after it are its own
abbrev pub is_called : Prim → Args → Bool
is_called prim args = not (takes_args prim) && (not (is_sign_alone prim) || has_newline (newline_before (args_tokens args)))

abbrev pub is_hole : Prim → Bool
is_hole (SelectHole prim point) = true
is_hole _ = false

abbrev pub prim_of : Prefix → Prim
prim_of (Unsigned prim) = prim
prim_of (Signed sign prim) = prim

-- an identifier after it is an operator: it is the name of no Hole, and the operand of no prefix operator
abbrev pub is_before_operator : Prefix → Bool
is_before_operator prefix = not (is_hole (prim_of prefix)) && not (is_sign_alone (prim_of prefix))

abbrev pub is_number_kind : TokenKind → Bool
is_number_kind token.Int = true
is_number_kind token.Long = true
is_number_kind _ = false

abbrev pub begins_with_number : List Lexeme → Bool
begins_with_number [] = false
begins_with_number (x ∷ xs) = is_number_kind x.kind

-- - directly before a number is part of the literal
abbrev pub is_minus_of_number : PrefixSign → List Lexeme → Bool
is_minus_of_number (Minus place) operand = begins_with_number operand
is_minus_of_number _ operand = false

abbrev pub infix_operators : Infix → List Id
infix_operators (LastPrefix prefix) = []
infix_operators (MorePrefixes prefix operator rest) = operator ∷ infix_operators rest

-- ---- lists of statements

abbrev pub begins_with_case : List Lexeme → Bool
begins_with_case [] = false
begins_with_case (x ∷ xs) = is_case_role (role x)

-- the tokens do not begin with LamHead '=>'
abbrev pub HasNoHead : List Lexeme → Type 0
HasNoHead xs = (head : LamHead) (arrow : Arrow) (rest : List Lexeme) → xs ≡ head_tokens head ++ arrow_token arrow ∷ rest → ⊥

abbrev pub is_nonempty : List Lexeme → Bool
is_nonempty [] = false
is_nonempty (x ∷ xs) = true

-- sep stands between these: a semicolon, or a newline before what follows, where something is there that it ends
abbrev pub is_separated : List Lexeme → Sep → List Lexeme → Bool
is_separated front [] behind = is_nonempty front && has_newline (newline_before behind)
is_separated front (place ∷ places) behind = true

abbrev pub is_broken : BStat → Bool
is_broken (BrokenBStat xs) = true
is_broken _ = false

-- where no expression is around a list of statements, none of them has a placeholder that no expression binds
abbrev pub BindsAll : ListKind → List Built → Type 0
BindsAll WithinExpr parts = Unit {0}
BindsAll _ parts = free_of parts ≡ []

-- the list of a block of a `def` in such a list
abbrev pub within_procedure : ListKind → ListKind
within_procedure WithinExpr = WithinExpr
within_procedure _ = OfProcedure

abbrev pub ProperParLists : List ParList → Type 0
ProperParLists [] = Unit {0}
ProperParLists (list ∷ lists) = IsNear list.opening × OnlyLastRepeats (items list.pars) × ProperParLists lists

-- What is asked of a statement: of which kind its list is, whether it is broken, its tokens, and those after it in its list.
abbrev pub Rule : Type 1
Rule = ListKind → Bool → List Lexeme → List Lexeme → Type 0

module _ (rule : Rule) where
  abbrev mutual
    pub ProperExpr : Expr → Type 0
    ProperExpr (Headed heading body) = ProperHeading heading body × ProperExpr body
    ProperExpr (DoThenWhile word body sep until opening test closing) =
        ProperExpr body × ((not (takes_operand body) || is_apart sep until) ≡ true) × ProperExpr test
    ProperExpr (TryCatch word body catch opening cases closing) = ProperExpr body × (takes_catch body ≡ false) × ProperCases cases
    ProperExpr (ReturnAlone word) = Unit {0}
    ProperExpr (InfixExpr chain) = ProperInfix chain × (are_of_one_side (infix_operators chain) ≡ true)
    ProperExpr (TypedExpr chain point type) = ProperInfix chain × (are_of_one_side (infix_operators chain) ≡ true)
    ProperExpr (MatchExpr chain word opening cases closing) =
        ProperInfix chain × (are_of_one_side (infix_operators chain) ≡ true) × ProperCases cases

    -- before this expression
    pub ProperHeading : Heading → Expr → Type 0
    ProperHeading (IfThen word opening test closing) body = ProperExpr test
    ProperHeading (IfElse word opening test closing first semi other) body = ProperExpr test × ProperExpr first × (takes_else first ≡ false)
    ProperHeading (WhileDo word opening test closing) body = ProperExpr test
    ProperHeading (TryFinally word tried last) body = ProperExpr tried × (takes_finally tried ≡ false)
    ProperHeading (TryCatchFinally word tried catch opening cases closing last) body =
        ProperExpr tried × (takes_catch tried ≡ false) × ProperCases cases
    ProperHeading (ForRound word opening enums closing yield) body = ProperEnums enums
    ProperHeading (ForCurly word opening enums closing yield) body = ProperEnums enums
    ProperHeading (ReturnOf word) body = IsJoinedPart (expr_tokens body)
    ProperHeading (AssignSelect prim point id sign) body = ProperPrim prim × (extends_type prim ≡ false)
    ProperHeading (AssignApply prim args sign) body = ProperPrim prim × (is_called prim args ≡ true) × ProperArgs args
    ProperHeading _ body = Unit {0}

    pub ProperEnums : Enums → Type 0
    ProperEnums (LastGen gen) = ProperGen gen
    ProperEnums (MoreGens gen sep gens) = ProperGen gen × (is_separated (gen_tokens gen) sep (enums_tokens gens) ≡ true) × ProperEnums gens

    pub ProperGen : Gen → Type 0
    ProperGen (GenOf pat arrow from guards) =
        ProperPat pat × (is_generator_pat pat ≡ true) × ProperExpr from
        × ((not (takes_operand from) || keeps_apart guards) ≡ true) × ProperGuards guards

    pub ProperGuards : Guards → Type 0
    ProperGuards NoGuards = Unit {0}
    ProperGuards (MoreGuards sep word test guards) =
        ProperInfix test × (are_of_one_side (infix_operators test) ≡ true) × ProperGuards guards

    pub ProperInfix : Infix → Type 0
    ProperInfix (LastPrefix prefix) = ProperPrefix prefix
    ProperInfix (MorePrefixes prefix operator rest) =
        ProperPrefix prefix × (is_before_operator prefix ≡ true) × IsJoined operator.place × IsNearPart (infix_tokens rest) × ProperInfix rest

    pub ProperPrefix : Prefix → Type 0
    ProperPrefix (Unsigned prim) = ProperPrim prim
    ProperPrefix (Signed sign prim) =
        ProperPrim prim × IsJoinedPart (prim_tokens prim) × (is_minus_of_number sign (prim_tokens prim) ≡ false)

    pub ProperPrim : Prim → Type 0
    ProperPrim (MinusPrim sign number) = IsJoined number.place
    ProperPrim (ExprInParentheses opening expr closing) = ProperExpr expr
    ProperPrim (PairPrim opening a comma_1 b closing) = ProperExpr a × ProperExpr b
    ProperPrim (TriplePrim opening a comma_1 b comma_2 c closing) = ProperExpr a × ProperExpr b × ProperExpr c
    ProperPrim (BlockPrim opening block closing) = ProperBlock WithinExpr block
    ProperPrim (CasesPrim opening cases closing) = ProperCases cases
    ProperPrim (NewWith word type args) = ProperArgs args
    ProperPrim (SelectPrim prim point id) = ProperPrim prim × (extends_type prim ≡ false)
    ProperPrim (SelectHole prim point) = ProperPrim prim
    ProperPrim (TypeApplyPrim prim opening types closing) = ProperPrim prim × (extends_type prim ≡ false)
    ProperPrim (ApplyPrim prim args) = ProperPrim prim × (is_called prim args ≡ true) × ProperArgs args
    ProperPrim (EtaPrim prim place) = ProperPrim prim × (is_sign_alone prim ≡ false) × IsJoined place
    ProperPrim _ = Unit {0}

    pub ProperArgs : Args → Type 0
    ProperArgs (NoArgs opening closing) = IsJoined opening
    ProperArgs (ExprArgs opening exprs closing) = IsJoined opening × ProperExprList exprs
    ProperArgs (BlockArg opening block closing) = IsNear opening × ProperBlock WithinExpr block
    ProperArgs (CasesArg opening cases closing) = IsNear opening × ProperCases cases

    pub ProperExprList : ExprList → Type 0
    ProperExprList (LastExpr expr) = ProperExpr expr
    ProperExprList (MoreExprs expr place exprs) = ProperExpr expr × ProperExprList exprs

    -- `{ case` begins cases alone, and `{ x =>` a lambda
    pub ProperBlock : ListKind → Block → Type 0
    ProperBlock kind (Statements stats) =
        (begins_with_case (bstats_tokens stats) ≡ false) × HasNoHead (bstats_tokens stats) × ProperBStats kind stats
    ProperBlock kind (LambdaBlock head arrow stats) = ProperBStats kind stats

    pub ProperBStats : ListKind → BStats → Type 0
    ProperBStats kind (LastBStat stat) = ProperBStat kind stat × rule kind (is_broken stat) (bstat_tokens stat) []
    ProperBStats kind (MoreBStats stat sep stats) =
        ProperBStat kind stat × rule kind (is_broken stat) (bstat_tokens stat) (sep_tokens sep ++ bstats_tokens stats)
        × (is_separated (bstat_tokens stat) sep (bstats_tokens stats) ≡ true) × ProperBStats kind stats

    pub ProperBStat : ListKind → BStat → Type 0
    ProperBStat kind (ImportBStat i) = ProperImport i
    ProperBStat kind (DefBStat mods def) = ProperMods mods (def_tokens def) × ProperDef kind def × BindsAll kind (bstat_built (DefBStat mods def))
    ProperBStat kind (ExprBStat expr) = ProperExpr expr × BindsAll kind (bstat_built (ExprBStat expr))
    ProperBStat kind EmptyBStat = Unit {0}
    ProperBStat kind (BrokenBStat xs) = is_piece xs ≡ true

    pub ProperCases : Cases → Type 0
    ProperCases (LastCase c) = ProperCase c
    ProperCases (MoreCases c cases) = ProperCase c × ProperCases cases

    -- The list of statements ends where the next case begins. The first `=>` outside brackets after `if` is that of the case.
    pub ProperCase : Case → Type 0
    ProperCase (CaseOf word pat arrow stats) =
        ProperPat pat × (has_no_case [] (bstats_tokens stats) ≡ true) × ProperBStats WithinExpr stats
    ProperCase (GuardedCase word pat guard test arrow stats) =
        ProperPat pat × ProperInfix test × (are_of_one_side (infix_operators test) ≡ true) × (has_no_arrow [] (infix_tokens test) ≡ true)
        × (has_no_case [] (bstats_tokens stats) ≡ true) × ProperBStats WithinExpr stats

    pub ProperDef : ListKind → Def → Type 0
    ProperDef kind (ValueDef word id type sign right) = ProperExpr right
    ProperDef kind (MethodDef word id type_params lists type sign right) = ProperParLists lists × ProperExpr right
    ProperDef kind (ProcedureDef word id type_params lists opening block closing) =
        ProperParLists lists × IsNear opening × ProperBlock (within_procedure kind) block
    ProperDef kind (AliasDef word id sign type) = IsJoined id.place
