-- Derivations of short texts, each written beside its text. The places are those of the text's bytes.
use Rattle.std.specs.Prelude.{ℕ, false, [], ◌∷◌, codes}
use Rattle.scan_tokens.specs.declared.tokens.Newline.TheVariants.{No}
use Rattle.scan_tokens.specs.Words.{Bytes}
use Rattle.source_grammar.specs.Expressions.{Prefix, Unsigned, Signed, Minus, Prim, LiteralPrim, NamePrim, Placeholder, ApplyPrim, ExprArgs, LastExpr, LastPrefix, MorePrefixes, Expr, Headed, InfixExpr, AssignApply}
use Rattle.source_grammar.specs.Lexemes.{Place, Arrow, Id, QualId, IntLiteral}
use Rattle.source_grammar.specs.Patterns.{Pat, LastAlternative, InfixPat, LastOperand, MoreOperands, SPat, VarPat, PathPat}
use Rattle.source_grammar.specs.Types.{WrittenType, FunOfNamed, FunOfTypes, Simple, Named, InParentheses, OfPath, Singleton, LastType, MoreTypes}

abbrev pub at : ℕ → ℕ → Place
at start end = record { span = record { start = start; end = end }; before = No }

abbrev pub id : Bytes → ℕ → ℕ → Id
id name start end = record { name = name; quoted = false; place = at start end }

abbrev pub arrow : ℕ → ℕ → Arrow
arrow start end = record { one_character = false; place = at start end }

abbrev pub path : Bytes → ℕ → ℕ → QualId
path name start end = record { first = id name start end; steps = [] }

abbrev pub one_type : Bytes → ℕ → ℕ → WrittenType
one_type name start end = Simple (Named (OfPath (path name start end)))

-- A => B => C
abbrev pub function_twice : WrittenType
function_twice =
    FunOfNamed (OfPath (path (codes "A") 0 1)) (arrow 2 4)
    (FunOfNamed (OfPath (path (codes "B") 5 6)) (arrow 7 9) (one_type (codes "C") 10 11))

-- (A, B) => C
abbrev pub function_of_two : WrittenType
function_of_two =
    FunOfTypes (at 0 1) (MoreTypes (one_type (codes "A") 1 2) (at 2 3) (LastType (one_type (codes "B") 4 5))) (at 5 6) (arrow 7 9)
    (one_type (codes "C") 10 11)

-- A => (B)
abbrev pub result_in_parentheses : WrittenType
result_in_parentheses =
    FunOfNamed (OfPath (path (codes "A") 0 1)) (arrow 2 4) (Simple (InParentheses (at 5 6) (one_type (codes "B") 6 7) (at 7 8)))

-- a.b.type
abbrev pub singleton : WrittenType
singleton = Simple (Named (Singleton
    (record { first = id (codes "a") 0 1; steps = record { point = at 1 2; id = id (codes "b") 2 3 } ∷ [] }) (at 3 4) (at 4 8)))

abbrev pub operand : Bytes → ℕ → ℕ → SPat
operand name start end = VarPat (id name start end)

-- a :: b :: N
abbrev pub list_pattern : Pat
list_pattern = LastAlternative (InfixPat
    (MoreOperands (operand (codes "a") 0 1) (id (codes "::") 2 4)
    (MoreOperands (operand (codes "b") 5 6) (id (codes "::") 7 9)
    (LastOperand (PathPat (path (codes "N") 10 11))))))

abbrev pub name : Bytes → ℕ → ℕ → Prefix
name text start end = Unsigned (NamePrim (id text start end))

abbrev pub number : Bytes → ℕ → ℕ → Prefix
number text start end = Unsigned (LiteralPrim (IntLiteral text (at start end)))

-- a + b * c
abbrev pub sum_of_product : Expr
sum_of_product = InfixExpr
    (MorePrefixes (name (codes "a") 0 1) (id (codes "+") 2 3)
    (MorePrefixes (name (codes "b") 4 5) (id (codes "*") 6 7)
    (LastPrefix (name (codes "c") 8 9))))

-- a - b - c
abbrev pub differences : Expr
differences = InfixExpr
    (MorePrefixes (name (codes "a") 0 1) (id (codes "-") 2 3)
    (MorePrefixes (name (codes "b") 4 5) (id (codes "-") 6 7)
    (LastPrefix (name (codes "c") 8 9))))

-- 1 :: xs
abbrev pub right_associative : Expr
right_associative = InfixExpr (MorePrefixes (number (codes "1") 0 1) (id (codes "::") 2 4) (LastPrefix (name (codes "xs") 5 7)))

-- a += b + c
abbrev pub assigned_sum : Expr
assigned_sum = InfixExpr
    (MorePrefixes (name (codes "a") 0 1) (id (codes "+=") 2 4)
    (MorePrefixes (name (codes "b") 5 6) (id (codes "+") 7 8)
    (LastPrefix (name (codes "c") 9 10))))

-- -x
abbrev pub negated : Expr
negated = InfixExpr (LastPrefix (Signed (Minus (at 0 1)) (NamePrim (id (codes "x") 1 2))))

-- f(_)
abbrev pub placeholder_argument : Expr
placeholder_argument = InfixExpr (LastPrefix (Unsigned (ApplyPrim (NamePrim (id (codes "f") 0 1))
    (ExprArgs (at 1 2) (LastExpr (InfixExpr (LastPrefix (Unsigned (Placeholder (at 2 3)))))) (at 3 4)))))

-- a(1) = 2
abbrev pub update : Expr
update = Headed
    (AssignApply (NamePrim (id (codes "a") 0 1)) (ExprArgs (at 1 2) (LastExpr (InfixExpr (LastPrefix (number (codes "1") 2 3)))) (at 3 4)) (at 5 6))
    (InfixExpr (LastPrefix (number (codes "2") 7 8)))
