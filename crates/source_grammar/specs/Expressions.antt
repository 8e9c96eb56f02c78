-- Expressions, blocks, cases, and the definitions of blocks (SLS 6, 8.4, 4.1 to 4.6).
use Rattle.std.specs.Prelude.{List, Option}
use Rattle.source_grammar.specs.Lexemes.{Place, Lexeme, Arrow, BackArrow, Id, Literal, Number}
use Rattle.source_grammar.specs.Definitions.{Mods, TypePart, TParams, ParList, Import, Listed}
use Rattle.source_grammar.specs.Patterns.{Pat}
use Rattle.source_grammar.specs.Types.{WrittenType, TypeList}

-- ---- heads of lambdas

-- LPar : (id|'_') [':' Type]
pub data LPar : Type 0 where
  NamedLPar : Id → TypePart → LPar
  WildLPar : Place → TypePart → LPar

-- LamHead : id | '_' | '(' [LPar,..] ')'
pub data LamHead : Type 0 where
  NamedHead : Id → LamHead
  WildHead : Place → LamHead
  LParHead : (opening : Place) → Listed LPar → (closing : Place) → LamHead

-- '+' | '-' | '!' | '~'
pub data PrefixSign : Type 0 where
  Plus : Place → PrefixSign
  Minus : Place → PrefixSign
  Bang : Place → PrefixSign
  Tilde : Place → PrefixSign

-- 'val' | 'var'
pub data ValueWord : Type 0 where
  Val : Place → ValueWord
  Var : Place → ValueWord

-- sep : one `;` or more; none of them stands for a newline that counts
abbrev pub Sep : Type 0
Sep = List Place

-- The kinds of list that statements stand in: of a block or case within an expression, of the block of a `def` that no expression
-- is around, of a template, and of a unit.
pub data ListKind : Type 0 where
  WithinExpr : ListKind
  OfProcedure : ListKind
  OfTemplate : ListKind
  OfUnit : ListKind

mutual
  -- The alternatives that end in an Expr have their constructors in Heading.
  pub data Expr : Type 0 where
    Headed : Heading → Expr → Expr
    -- 'do' Expr [sep] 'while' '(' Expr ')'
    DoThenWhile : (word : Place) → Expr → Sep → (until opening : Place) → Expr → (closing : Place) → Expr
    -- 'try' Expr 'catch' '{' Case+ '}'
    TryCatch : (word : Place) → Expr → (catch opening : Place) → Cases → (closing : Place) → Expr
    -- 'return'
    ReturnAlone : (word : Place) → Expr
    -- Infix
    InfixExpr : Infix → Expr
    -- Infix ':' Type
    TypedExpr : Infix → (point : Place) → WrittenType → Expr
    -- Infix 'match' '{' Case+ '}'
    MatchExpr : Infix → (word opening : Place) → Cases → (closing : Place) → Expr

  -- what stands before the Expr that an Expr ends in
  pub data Heading : Type 0 where
    -- LamHead '=>' Expr
    Lambda : LamHead → Arrow → Heading
    -- 'if' '(' Expr ')' nls Expr
    IfThen : (word opening : Place) → Expr → (closing : Place) → Heading
    -- 'if' '(' Expr ')' nls Expr [';'] 'else' Expr
    IfElse : (word opening : Place) → Expr → (closing : Place) → Expr → Option Place → (other : Place) → Heading
    -- 'while' '(' Expr ')' nls Expr
    WhileDo : (word opening : Place) → Expr → (closing : Place) → Heading
    -- 'try' Expr
    TryAlone : (word : Place) → Heading
    -- 'try' Expr 'finally' Expr
    TryFinally : (word : Place) → Expr → (last : Place) → Heading
    -- 'try' Expr 'catch' '{' Case+ '}' 'finally' Expr
    TryCatchFinally : (word : Place) → Expr → (catch opening : Place) → Cases → (closing last : Place) → Heading
    -- 'for' '(' Enums ')' nls ['yield'] Expr
    ForRound : (word opening : Place) → Enums → (closing : Place) → Option Place → Heading
    -- 'for' '{' Enums '}' nls ['yield'] Expr
    ForCurly : (word opening : Place) → Enums → (closing : Place) → Option Place → Heading
    -- 'throw' Expr
    ThrowOf : (word : Place) → Heading
    -- 'return' Expr
    ReturnOf : (word : Place) → Heading
    -- id '=' Expr
    AssignName : Id → (sign : Place) → Heading
    -- Prim '.' id '=' Expr
    AssignSelect : Prim → (point : Place) → Id → (sign : Place) → Heading
    -- Prim Args '=' Expr
    AssignApply : Prim → Args → (sign : Place) → Heading

  -- Enums : Gen {sep Gen}
  pub data Enums : Type 0 where
    LastGen : Gen → Enums
    MoreGens : Gen → Sep → Enums → Enums

  -- Gen : Pat '<-' Expr {[sep] 'if' Infix}
  pub data Gen : Type 0 where
    GenOf : Pat → BackArrow → Expr → Guards → Gen

  pub data Guards : Type 0 where
    NoGuards : Guards
    MoreGuards : Sep → (word : Place) → Infix → Guards → Guards

  -- Infix : Prefix {id nl Prefix}
  pub data Infix : Type 0 where
    LastPrefix : Prefix → Infix
    MorePrefixes : Prefix → Id → Infix → Infix

  -- Prefix : ['-'|'+'|'!'|'~'] Prim
  pub data Prefix : Type 0 where
    Unsigned : Prim → Prefix
    Signed : PrefixSign → Prim → Prefix

  pub data Prim : Type 0 where
    -- literal
    LiteralPrim : Literal → Prim
    -- '-' and directly before it a number
    MinusPrim : (sign : Place) → Number → Prim
    -- '_'
    Placeholder : Place → Prim
    -- 'this'
    ThisPrim : (word : Place) → Prim
    -- 'super' '.' id
    SuperPrim : (word point : Place) → Id → Prim
    -- id
    NamePrim : Id → Prim
    -- '(' ')'
    UnitPrim : (opening closing : Place) → Prim
    -- '(' Expr ')'
    ExprInParentheses : (opening : Place) → Expr → (closing : Place) → Prim
    -- '(' Expr ',' Expr ')'
    PairPrim : (opening : Place) → Expr → Place → Expr → (closing : Place) → Prim
    -- '(' Expr ',' Expr ',' Expr ')'
    TriplePrim : (opening : Place) → Expr → Place → Expr → Place → Expr → (closing : Place) → Prim
    -- '{' Block '}'
    BlockPrim : (opening : Place) → Block → (closing : Place) → Prim
    -- '{' Case+ '}'
    CasesPrim : (opening : Place) → Cases → (closing : Place) → Prim
    -- 'new' Type
    NewOf : (word : Place) → WrittenType → Prim
    -- 'new' Type Args
    NewWith : (word : Place) → WrittenType → Args → Prim
    -- Prim '.' id
    SelectPrim : Prim → (point : Place) → Id → Prim
    -- Prim '.' hole
    SelectHole : Prim → (point : Place) → Prim
    -- Prim TArgs
    TypeApplyPrim : Prim → (opening : Place) → TypeList → (closing : Place) → Prim
    -- Prim Args
    ApplyPrim : Prim → Args → Prim
    -- Prim '_'
    EtaPrim : Prim → Place → Prim

  -- Args : '(' [Expr,..] ')' | nl '{' Block '}' | nl '{' Case+ '}'
  pub data Args : Type 0 where
    NoArgs : (opening closing : Place) → Args
    ExprArgs : (opening : Place) → ExprList → (closing : Place) → Args
    BlockArg : (opening : Place) → Block → (closing : Place) → Args
    CasesArg : (opening : Place) → Cases → (closing : Place) → Args

  -- Expr,..
  pub data ExprList : Type 0 where
    LastExpr : Expr → ExprList
    MoreExprs : Expr → Place → ExprList → ExprList

  -- Block : [LamHead '=>'] BStat {sep BStat}
  pub data Block : Type 0 where
    Statements : BStats → Block
    LambdaBlock : LamHead → Arrow → BStats → Block

  -- BStat {sep BStat}
  pub data BStats : Type 0 where
    LastBStat : BStat → BStats
    MoreBStats : BStat → Sep → BStats → BStats

  -- BStat : Import | Mods Def | Expr | empty, or what is none of these
  pub data BStat : Type 0 where
    ImportBStat : Import → BStat
    DefBStat : Mods → Def → BStat
    ExprBStat : Expr → BStat
    EmptyBStat : BStat
    BrokenBStat : List Lexeme → BStat

  -- Case+
  pub data Cases : Type 0 where
    LastCase : Case → Cases
    MoreCases : Case → Cases → Cases

  -- Case : 'case' Pat ['if' Infix] '=>' BStat {sep BStat}
  pub data Case : Type 0 where
    CaseOf : (word : Place) → Pat → Arrow → BStats → Case
    GuardedCase : (word : Place) → Pat → (guard : Place) → Infix → Arrow → BStats → Case

  pub data Def : Type 0 where
    -- ('val'|'var') id [':' Type] '=' Expr
    ValueDef : ValueWord → Id → TypePart → (sign : Place) → Expr → Def
    -- 'def' id [TParams] {nl '(' [Par,..] ')'} [':' Type] '=' Expr
    MethodDef : (word : Place) → Id → TParams → List ParList → TypePart → (sign : Place) → Expr → Def
    -- 'def' id [TParams] {nl '(' [Par,..] ')'} nl '{' Block '}'
    ProcedureDef : (word : Place) → Id → TParams → List ParList → (opening : Place) → Block → (closing : Place) → Def
    -- 'type' id '=' Type
    AliasDef : (word : Place) → Id → (sign : Place) → WrittenType → Def
