-- What the machine that reads one expression has read: its states, the derivations that end in them, and what can follow.
use Rattle.std.proofs.Common.{Bool, true, false, ◌&&◌, ◌||◌, if◌then◌else◌, nat_lt, List, [], ◌∷◌, Option, Some, None}
use Rattle.std.specs.Prelude.{not, ◌==◌}
use Rattle.scan_tokens.specs.declared.tokens.Newline.{Newline}
use Rattle.source_grammar.specs.Definitions.{TypePart, NoType, OfType, Behind, Listed, Nothing, Items}
use Rattle.source_grammar.specs.Expressions.{LPar, NamedLPar, WildLPar, LamHead, NamedHead, WildHead, LParHead, PrefixSign, Sep, Expr, Headed, TryCatch, ReturnAlone, InfixExpr, TypedExpr, Heading, IfThen, TryAlone, Enums, MoreGens, Gen, Guards, MoreGuards, Infix, LastPrefix, MorePrefixes, Prefix, Unsigned, Signed, Prim, Placeholder, NamePrim, UnitPrim, ExprInParentheses, PairPrim, TriplePrim, NewOf, SelectHole, ApplyPrim, Args, ExprList, MoreExprs, Cases}
use Rattle.source_grammar.specs.Lexemes.{Place, BackArrow, Id}
use Rattle.source_grammar.specs.Newlines.{is_near}
use Rattle.source_grammar.specs.Patterns.{Pat}
use Rattle.source_grammar.specs.Precedence.{precedence, is_right}
use Rattle.source_grammar.specs.Types.{WrittenType, SimpleType, Simple, Named, OfPath}
use Rattle.parse_parts.proofs.Derived as types
use Rattle.parse_patterns.specs.Operators.{same_side}
use Rattle.parse_patterns.proofs.Derived as patterns
use Rattle.parse_patterns.proofs.Derived.{when}
use Rattle.expr_tails.specs.declared.states.Limit.{Limit}
use Rattle.expr_tails.specs.declared.states.Limit.TheVariants as limit

-- ---- states

-- an operator with what stands before it
pub record Operation : Type 0 where
  pub left : Prefix
  pub operator : Id

-- an element of parentheses
pub data Element : Type 0 where
  ParamElement : LPar → Element
  ExprElement : Expr → Element

-- an element with the comma behind it
pub record DoneElement : Type 0 where
  pub element : Element
  pub place : Place

pub record DoneExpr : Type 0 where
  pub expr : Expr
  pub place : Place

-- the elements before the last comma, the last one first
pub data Parens : Type 0 where
  NoElements : Parens
  Elements : List DoneElement → Element → Parens

-- what stands before `: T`
pub data TypedOf : Type 0 where
  OfName : Id → TypedOf
  OfWild : Place → TypedOf
  OfChain : Infix → TypedOf

pub data Asker : Type 0 where
  IfAsker : Asker
  WhileAsker : Asker
  ForAsker : Asker

-- what was read since the last head, operator, comma or opening bracket
pub data Tail : Type 0 where
  Begin : Tail
  AtSign : Id → Tail
  AtName : Id → (is_sign : Bool) → Tail
  AtWild : Place → Tail
  AtGroup : (opening : Place) → Parens → (closing : Place) → (may_be_head : Bool) → Tail
  AtPrim : Prim → Tail
  AtCall : Prim → Args → Tail
  AtDot : Prim → Place → Tail
  AtSuper : Place → Tail
  AtSuperDot : (word point : Place) → Tail
  InNew : (word : Place) → types.State → Tail
  AtNew : (word : Place) → WrittenType → Tail
  InTypes : Prim → (opening : Place) → List types.Done → types.State → Tail
  InTyped : TypedOf → (point : Place) → types.State → Tail
  AtMatch : Infix → (word : Place) → Tail
  AtReturn : (word : Place) → Tail
  AtAsker : Asker → (word : Place) → Tail
  AtUntil : (word : Place) → Expr → Sep → (until : Place) → Tail
  AtCatch : (word : Place) → Expr → (catch : Place) → Tail
  AtCaught : (word : Place) → Expr → (catch opening : Place) → Cases → (closing : Place) → Tail
  AtEnded : Expr → Tail
  -- an expression, and one `;` or more behind it
  AtSemi : Expr → Place → List Place → Tail
  -- the same of a guard
  AtGuardSemi : Infix → Place → List Place → Tail
  InPattern : patterns.State → Tail

-- a `do` has no expression before its `while`
pub data Head : Type 0 where
  Of : Heading → Head
  DoHead : (word : Place) → Head

-- what was read since the innermost open bracket; the last head and the last operation first
pub record Context : Type 0 where
  pub heads : List Head
  pub operations : List Operation
  pub sign : Option PrefixSign
  pub tail : Tail
  pub limit : Limit

-- a guard that is whole
pub record DoneGuard : Type 0 where
  pub sep : Sep
  pub word : Place
  pub test : Infix

-- the generator that is read
pub data Part : Type 0 where
  PatPart : Part
  FromPart : Pat → BackArrow → Part
  -- with the guards before this one, the last one first
  GuardPart : Pat → BackArrow → Expr → List DoneGuard → Sep → (word : Place) → Part

pub record DoneGen : Type 0 where
  pub gen : Gen
  pub sep : Sep

pub data Bracket : Type 0 where
  GroupBracket : (opening : Place) → List DoneElement → (may_be_head : Bool) → Bracket
  ArgsBracket : Prim → (opening : Place) → List DoneExpr → Bracket
  NewArgsBracket : (word : Place) → WrittenType → (opening : Place) → List DoneExpr → Bracket
  IfTest : (word opening : Place) → Bracket
  WhileTest : (word opening : Place) → Bracket
  DoTest : (word : Place) → Expr → Sep → (until opening : Place) → Bracket
  GensBracket : (word opening : Place) → List DoneGen → Part → Bracket

-- an open bracket, and what stands before it
pub record Frame : Type 0 where
  pub bracket : Bracket
  pub outer : Context

pub record State : Type 0 where
  pub frames : List Frame
  pub context : Context

-- ---- types inside

abbrev pub type_read : List types.Frame → List types.Head → Option SimpleType → Option WrittenType
type_read [] hs (Some simple) = Some (types.settled hs (Simple simple))
type_read _ hs _ = None

-- the type that was read, where no bracket is open
abbrev pub type_of : types.State → Option WrittenType
type_of t = type_read t.frames t.heads (types.simple_of t.tail)

-- a type and the point behind it
pub record Dotted : Type 0 where
  pub type : WrittenType
  pub point : Place

abbrev pub dotted_read : List types.Frame → List types.Head → types.Tail → Option Dotted
dotted_read [] hs (types.AtDot path d) = Some (record { type = types.settled hs (Simple (Named (OfPath path))); point = d })
dotted_read _ hs _ = None

abbrev pub dotted_of : types.State → Option Dotted
dotted_of t = dotted_read t.frames t.heads t.tail

abbrev pub type_begun : types.State
type_begun = record { frames = []; heads = []; tail = types.Begin }

-- ---- derivations of what was read

abbrev pub alone : Prim → Infix
alone prim = LastPrefix (Unsigned prim)

abbrev pub typed_part : Prim → TypePart → Expr
typed_part prim NoType = InfixExpr (alone prim)
typed_part prim (OfType point type) = TypedExpr (alone prim) point type

abbrev pub param_expr : LPar → Expr
param_expr (NamedLPar id type) = typed_part (NamePrim id) type
param_expr (WildLPar place type) = typed_part (Placeholder place) type

abbrev pub element_expr : Element → Expr
element_expr (ParamElement p) = param_expr p
element_expr (ExprElement expr) = expr

abbrev pub element_param : Element → Option LPar
element_param (ParamElement p) = Some p
element_param (ExprElement expr) = None

abbrev pub parens_prim : Place → Parens → Place → Option Prim
parens_prim o NoElements c = Some (UnitPrim o c)
parens_prim o (Elements [] e) c = Some (ExprInParentheses o (element_expr e) c)
parens_prim o (Elements (d ∷ []) e) c = Some (PairPrim o (element_expr d.element) d.place (element_expr e) c)
parens_prim o (Elements (d ∷ a ∷ []) e) c =
    Some (TriplePrim o (element_expr a.element) a.place (element_expr d.element) d.place (element_expr e) c)
parens_prim o (Elements (d ∷ a ∷ b ∷ done) e) c = None

abbrev pub params_before : List DoneElement → Option LPar → List (Behind LPar) → Option (Listed LPar)
params_before done None bs = None
params_before [] (Some p) bs = Some (Items p bs)
params_before (d ∷ done) (Some p) bs = params_before done (element_param d.element) (record { comma = d.place; item = p } ∷ bs)

abbrev pub params_of : Parens → Option (Listed LPar)
params_of NoElements = Some Nothing
params_of (Elements done e) = params_before done (element_param e) []

abbrev pub head_over : Place → Place → Option (Listed LPar) → Option LamHead
head_over o c None = None
head_over o c (Some lpars) = Some (LParHead o lpars c)

-- the head of a lambda that stands at the tail
abbrev pub head_at : Tail → Option LamHead
head_at (AtSign id) = Some (NamedHead id)
head_at (AtName id is_sign) = Some (NamedHead id)
head_at (AtWild place) = Some (WildHead place)
head_at (AtGroup o parens c may_be_head) = if may_be_head then head_over o c (params_of parens) else None
head_at _ = None

abbrev pub dotted_prim : Place → Option Dotted → Option WrittenType → Option Prim
dotted_prim word (Some d) type = Some (SelectHole (NewOf word d.type) d.point)
dotted_prim word None None = None
dotted_prim word None (Some type) = Some (NewOf word type)

-- the Prim that ends at the tail
abbrev pub prim_at : Tail → Option Prim
prim_at (AtSign id) = Some (NamePrim id)
prim_at (AtName id is_sign) = Some (NamePrim id)
prim_at (AtWild place) = Some (Placeholder place)
prim_at (AtGroup o parens c may_be_head) = parens_prim o parens c
prim_at (AtPrim prim) = Some prim
prim_at (AtCall prim args) = Some (ApplyPrim prim args)
prim_at (AtDot prim point) = Some (SelectHole prim point)
prim_at (InNew word t) = dotted_prim word (dotted_of t) (type_of t)
prim_at (AtNew word type) = Some (NewOf word type)
prim_at _ = None

abbrev pub signed : Option PrefixSign → Prim → Prefix
signed None prim = Unsigned prim
signed (Some sign) prim = Signed sign prim

abbrev pub settled : List Operation → Infix → Infix
settled [] chain = chain
settled (o ∷ os) chain = settled os (MorePrefixes o.left o.operator chain)

abbrev pub chain_of : List Operation → Option PrefixSign → Option Prim → Option Infix
chain_of os sign None = None
chain_of os sign (Some prim) = Some (settled os (LastPrefix (signed sign prim)))

-- the operands and operators that end at the tail
abbrev pub chain_at : Context → Option Infix
chain_at c = chain_of c.operations c.sign (prim_at c.tail)

abbrev pub typed_infix : TypedOf → Infix
typed_infix (OfName id) = alone (NamePrim id)
typed_infix (OfWild place) = alone (Placeholder place)
typed_infix (OfChain chain) = chain

abbrev pub typed_expr : TypedOf → Place → Option WrittenType → Option Expr
typed_expr of point None = None
typed_expr of point (Some type) = Some (TypedExpr (typed_infix of) point type)

abbrev pub infix_expr : Option Infix → Option Expr
infix_expr None = None
infix_expr (Some chain) = Some (InfixExpr chain)

-- the innermost expression that ends at the tail
abbrev pub innermost_at : Tail → Option Infix → Option Expr
innermost_at (InTyped of point t) chain = typed_expr of point (type_of t)
innermost_at (AtReturn word) chain = Some (ReturnAlone word)
innermost_at (AtCaught word body catch opening cases closing) chain = Some (TryCatch word body catch opening cases closing)
innermost_at (AtEnded expr) chain = Some expr
innermost_at at chain = infix_expr chain

abbrev pub innermost : Context → Option Expr
innermost c = innermost_at c.tail (chain_at c)

abbrev pub headed : Head → Expr → Option Expr
headed (Of heading) body = Some (Headed heading body)
headed (DoHead word) body = None

abbrev pub headed_all : List Head → Option Expr → Option Expr
headed_all hs None = None
headed_all [] (Some body) = Some body
headed_all (h ∷ hs) (Some body) = headed_all hs (headed h body)

-- the expression that ends here, with all heads around it
abbrev pub expr_at : Context → Option Expr
expr_at c = headed_all c.heads (innermost c)

abbrev pub listed : List DoneExpr → ExprList → ExprList
listed [] exprs = exprs
listed (d ∷ done) exprs = listed done (MoreExprs d.expr d.place exprs)

abbrev pub guards_before : List DoneGuard → Guards → Guards
guards_before [] guards = guards
guards_before (g ∷ done) guards = guards_before done (MoreGuards g.sep g.word g.test guards)

abbrev pub enums_before : List DoneGen → Enums → Enums
enums_before [] enums = enums
enums_before (d ∷ done) enums = enums_before done (MoreGens d.gen d.sep enums)

-- ---- conditions

abbrev pub is_nil : {A : Type 0} → List A → Bool
is_nil [] = true
is_nil (a ∷ rest) = false

abbrev pub is_none : {A : Type 0} → Option A → Bool
is_none None = true
is_none (Some a) = false

abbrev pub is_some : {A : Type 0} → Option A → Bool
is_some None = false
is_some (Some a) = true

abbrev pub is_param_limit : Limit → Bool
is_param_limit limit.Param = true
is_param_limit _ = false

abbrev pub is_expr_limit : Limit → Bool
is_expr_limit limit.Expr = true
is_expr_limit _ = false

abbrev pub is_guard_limit : Limit → Bool
is_guard_limit limit.Guard = true
is_guard_limit _ = false

abbrev pub is_begin : Tail → Bool
is_begin Begin = true
is_begin _ = false

abbrev pub is_first : Context → Bool
is_first c = is_nil c.operations && is_none c.sign

abbrev pub may_head : Context → Bool
may_head c = is_first c && is_expr_limit c.limit

abbrev pub may_stand : Context → Newline → Bool
may_stand c before = is_begin c.tail && (not (is_param_limit c.limit) && (is_first c || (is_some c.sign || is_near before)))

abbrev pub may_begin_name : Context → Newline → Bool
may_begin_name c before = if is_param_limit c.limit then is_begin c.tail else may_stand c before

abbrev pub fits : List Operation → Id → Bool
fits [] id = true
fits (o ∷ os) id =
    if nat_lt (precedence id.name) (precedence o.operator.name) then fits os id
    else (not (precedence o.operator.name == precedence id.name) || same_side (is_right o.operator.name) (is_right id.name))

-- the Prim to which a point, types or an operator can be added; a Hole takes its name first
abbrev pub operand_at : Tail → Option Prim
operand_at (AtDot prim point) = None
operand_at (InNew word t) = None
operand_at at = prim_at at

-- Args can follow it
abbrev pub receiver_at : Tail → Option Prim
receiver_at (AtSign id) = None
receiver_at (AtName id is_sign) = if is_sign then None else Some (NamePrim id)
receiver_at (AtNew word type) = None
receiver_at at = operand_at at

abbrev pub is_hole : Prim → Bool
is_hole (SelectHole prim point) = true
is_hole _ = false

-- an identifier behind it is an operator
abbrev pub is_before_operator : Tail → Bool
is_before_operator (AtSign id) = false
is_before_operator (AtName id is_sign) = not is_sign
is_before_operator (AtPrim prim) = not (is_hole prim)
is_before_operator at = is_some (operand_at at)

-- what the heads can take: the walk from the innermost one outwards, up to a `do`
abbrev pub takes_else : List Head → Bool
takes_else [] = false
takes_else (Of (IfThen word opening test closing) ∷ hs) = true
takes_else (DoHead word ∷ hs) = false
takes_else (h ∷ hs) = takes_else hs

abbrev pub takes_catch : List Head → Bool
takes_catch [] = false
takes_catch (Of (TryAlone word) ∷ hs) = true
takes_catch (DoHead word ∷ hs) = false
takes_catch (h ∷ hs) = takes_catch hs

abbrev pub waits : List Head → Bool
waits [] = false
waits (DoHead word ∷ hs) = true
waits (h ∷ hs) = waits hs
