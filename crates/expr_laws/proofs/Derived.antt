-- The machine that reads one expression, over the derivations that the items so far are parts of.
use Rattle.std.proofs.Common.{Bool, true, false, ◌&&◌, ◌||◌, if◌then◌else◌, nat_lt, List, [], ◌∷◌, ◌++◌, length, Option, Some, None, codes}
use Rattle.std.specs.Prelude.{not, nat_le}
use Rattle.std.specs.Str.{bytes_eq}
use Rattle.reading_machines.specs.Machines.{Machine}
use Rattle.scan_tokens.specs.declared.tokens.Newline.{Newline}
use Rattle.scan_tokens.specs.declared.tokens.Newline.TheVariants.{No}
use Rattle.source_grammar.specs.Brackets.{has_newline}
use Rattle.source_grammar.specs.Definitions.{TypePart, NoType, OfType}
use Rattle.source_grammar.specs.Expressions.{LPar, NamedLPar, WildLPar, LamHead, PrefixSign, Plus, Minus, Bang, Tilde, Sep, Expr, DoThenWhile, MatchExpr, Lambda, IfThen, IfElse, WhileDo, TryAlone, TryFinally, TryCatchFinally, ForRound, ForCurly, ThrowOf, ReturnOf, AssignName, AssignSelect, AssignApply, LastGen, Gen, GenOf, NoGuards, MoreGuards, Infix, Prim, LiteralPrim, MinusPrim, ThisPrim, SuperPrim, NamePrim, BlockPrim, CasesPrim, NewOf, NewWith, SelectPrim, SelectHole, TypeApplyPrim, EtaPrim, Args, NoArgs, ExprArgs, BlockArg, CasesArg, LastExpr}
use Rattle.source_grammar.specs.ExpressionRules.{is_prefix_id}
use Rattle.source_grammar.specs.Lexemes.{Place, Lexeme, Arrow, BackArrow, Id, Literal, Number, literal_place}
use Rattle.source_grammar.specs.Newlines.{is_near}
use Rattle.source_grammar.specs.Patterns.{Pat, Pat1, is_var}
use Rattle.source_grammar.specs.Types.{WrittenType, LastType}
use Rattle.parse_parts.proofs.Derived as types
use Rattle.parse_patterns.specs.Steps.{is_no}
use Rattle.parse_patterns.proofs.Derived as patterns
use Rattle.parse_patterns.proofs.Derived.{when}
use Rattle.parse_patterns.proofs.Seen.{literal_of}
use Rattle.parse_patterns.proofs.SimpleTypes.{simple_step}
use Rattle.expr_tails.specs.declared.states.Limit.{Limit}
use Rattle.expr_tails.specs.declared.states.Limit.TheVariants as limit
use Rattle.expr_tails.specs.declared.symbols.Symbol.{Symbol}
use Rattle.expr_tails.specs.declared.symbols.Symbol.TheVariants as symbol
use Rattle.expr_tails.specs.declared.symbols.Word.{Word}
use Rattle.expr_tails.specs.declared.symbols.Word.TheVariants as word
use Rattle.expr_tails.specs.Symbols.{symbol_of, begins_prim, begins_expr}
use Rattle.expr_laws.proofs.Seen.{Seen, AnId, ANumber, ALiteral, AnUnderscore, AColon, AnEquals, AnArrow, ABackArrow, ADot, AComma, ASemicolon, OpensRound, ClosesRound, OpensSquare, ClosesSquare, AWord, seen}
pub use Rattle.expr_laws.specs.Items.{Item, OneToken, BlockPair, CasesPair, EnumsPair, OtherPair, braced, item_tokens, items_tokens}
pub use Rattle.expr_laws.proofs.States.{Operation, Element, ParamElement, ExprElement, DoneElement, DoneExpr, Parens, NoElements, Elements, TypedOf, OfName, OfWild, OfChain, Asker, IfAsker, WhileAsker, ForAsker, Tail, Begin, AtSign, AtName, AtWild, AtGroup, AtPrim, AtCall, AtDot, AtSuper, AtSuperDot, InNew, AtNew, InTypes, InTyped, AtMatch, AtReturn, AtAsker, AtUntil, AtCatch, AtCaught, AtEnded, AtSemi, AtGuardSemi, InPattern, Head, Of, DoHead, Context, DoneGuard, Part, PatPart, FromPart, GuardPart, DoneGen, Bracket, GroupBracket, ArgsBracket, NewArgsBracket, IfTest, WhileTest, DoTest, GensBracket, Frame, State, type_read, type_of, Dotted, dotted_read, dotted_of, type_begun, alone, typed_part, param_expr, element_expr, element_param, parens_prim, params_before, params_of, head_over, head_at, dotted_prim, prim_at, signed, settled, chain_of, chain_at, typed_infix, typed_expr, infix_expr, innermost_at, innermost, headed, headed_all, expr_at, listed, guards_before, enums_before, is_nil, is_none, is_some, is_param_limit, is_expr_limit, is_guard_limit, is_begin, is_first, may_head, may_stand, may_begin_name, fits, operand_at, receiver_at, is_hole, is_before_operator, takes_else, takes_catch, waits}

-- ---- steps

abbrev pub at : Context → Tail → Context
at c tail = record { heads = c.heads; operations = c.operations; sign = c.sign; tail = tail; limit = c.limit }

abbrev pub fresh : Limit → Context
fresh limit = record { heads = []; operations = []; sign = None; tail = Begin; limit = limit }

abbrev pub state : List Frame → Context → State
state fs c = record { frames = fs; context = c }

abbrev pub in_state : List Frame → Option Context → Option State
in_state fs None = None
in_state fs (Some c) = Some (state fs c)

abbrev pub with_head : Context → Head → Context
with_head c h = record { heads = h ∷ c.heads; operations = c.operations; sign = c.sign; tail = Begin; limit = c.limit }

abbrev pub only_heads : List Head → Tail → Limit → Context
only_heads hs tail limit = record { heads = hs; operations = []; sign = None; tail = tail; limit = limit }

-- ---- what the next item decides of the tail before it

abbrev pub sign_of : Id → Option PrefixSign
sign_of id =
    if bytes_eq id.name (codes "-") then Some (Minus id.place)
    else (if bytes_eq id.name (codes "+") then Some (Plus id.place)
    else (if bytes_eq id.name (codes "!") then Some (Bang id.place)
    else (if bytes_eq id.name (codes "~") then Some (Tilde id.place) else None)))

abbrev pub with_sign : Context → Option PrefixSign → Option PrefixSign → Id → Context
with_sign c None (Some sign) id = record { heads = c.heads; operations = c.operations; sign = Some sign; tail = Begin; limit = c.limit }
with_sign c _ _ id = at c (AtName id true)

abbrev pub is_number : Symbol → Bool
is_number symbol.Number = true
is_number _ = false

abbrev pub is_id : Symbol → Bool
is_id symbol.Id = true
is_id _ = false

abbrev pub sign_decided : Context → Id → Symbol → Newline → Context
sign_decided c id s before =
    if not (is_no before && (begins_prim s && not (is_param_limit c.limit))) then at c (AtName id true)
    else (if is_number s && bytes_eq id.name (codes "-") then at c (AtSign id) else with_sign c c.sign (sign_of id) id)

abbrev pub new_tail : Place → types.State → Option WrittenType → Option Dotted → Tail
new_tail word t (Some type) d = AtNew word type
new_tail word t None (Some d) = AtPrim (SelectHole (NewOf word d.type) d.point)
new_tail word t None None = InNew word t

abbrev pub decided_at : Tail → Context → Symbol → Newline → Context
decided_at (AtSign id) c s before = sign_decided c id s before
decided_at (InNew word t) c s before = at c (new_tail word t (type_of t) (dotted_of t))
decided_at (AtDot prim point) c s before = if is_id s then at c (AtDot prim point) else at c (AtPrim (SelectHole prim point))
decided_at (AtReturn word) c s before = if is_no before && begins_expr s then with_head c (Of (ReturnOf word)) else at c (AtReturn word)
decided_at tail c s before = at c tail

-- ---- types

abbrev pub goes_on : Limit → types.State → Lexeme → Option types.State
goes_on limit.CaseGuard t x = simple_step t x
goes_on _ t x = types.step t x

abbrev pub new_type : Place → Option types.State → Option Tail
new_type word None = None
new_type word (Some t) = Some (InNew word t)

abbrev pub types_type : Prim → Place → List types.Done → Option types.State → Option Tail
types_type prim o done None = None
types_type prim o done (Some t) = Some (InTypes prim o done t)

abbrev pub typed_type : TypedOf → Place → Option types.State → Option Tail
typed_type of point None = None
typed_type of point (Some t) = Some (InTyped of point t)

-- the tail with one token more of a type
abbrev pub in_type : Limit → Tail → Lexeme → Option Tail
in_type limit (InNew word t) x = new_type word (goes_on limit t x)
in_type limit (InTypes prim o done t) x = types_type prim o done (types.step t x)
in_type limit (InTyped of point t) x = typed_type of point (types.step t x)
in_type limit _ x = None

abbrev pub types_on : Seen → Prim → Place → List types.Done → Option WrittenType → Context → Option Context
types_on y prim o done None c = None
types_on (AComma p) prim o done (Some type) c = Some (at c (InTypes prim o (record { type = type; place = p } ∷ done) type_begun))
types_on (ClosesSquare p) prim o done (Some type) c = Some (at c (AtPrim (TypeApplyPrim prim o (types.listed done (LastType type)) p)))
types_on _ prim o done (Some type) c = None

-- ---- names and operands

abbrev pub named_tail : Id → Tail
named_tail id = if is_prefix_id id then AtSign id else AtName id false

abbrev pub operated : Context → Id → Option Prim → Option Context
operated c id None = None
operated c id (Some prim) = Some (record {
  heads = c.heads;
  operations = record { left = signed c.sign prim; operator = id } ∷ c.operations;
  sign = None;
  tail = Begin;
  limit = c.limit;
})

abbrev pub name_behind : Id → Tail → Context → Option Context
name_behind id (AtDot prim point) c = Some (at c (AtPrim (SelectPrim prim point id)))
name_behind id (AtSuperDot word point) c = Some (at c (AtPrim (SuperPrim word point id)))
name_behind id _ c = None

abbrev pub on_id : Id → Context → Option Context
on_id id c =
    if may_begin_name c id.place.before then Some (at c (named_tail id))
    else (if is_before_operator c.tail && (is_no id.place.before && (not (is_param_limit c.limit) && fits c.operations id))
    then operated c id (prim_at c.tail) else name_behind id c.tail c)

abbrev pub on_literal : Literal → Context → Option Context
on_literal l c = when (may_stand c (literal_place l).before) (at c (AtPrim (LiteralPrim l)))

abbrev pub on_number : Number → Tail → Context → Option Context
on_number n (AtSign id) c = Some (at c (AtPrim (MinusPrim id.place n)))
on_number n _ c = on_literal (literal_of n) c

abbrev pub is_new : Tail → Bool
is_new (AtNew word type) = true
is_new _ = false

abbrev pub eta : Place → Context → Option Prim → Option Context
eta place c None = None
eta place c (Some prim) = Some (at c (AtPrim (EtaPrim prim place)))

abbrev pub eta_receiver : Context → Option Prim
eta_receiver c = if is_new c.tail then prim_at c.tail else (if is_param_limit c.limit then None else receiver_at c.tail)

abbrev pub on_underscore : Place → Context → Option Context
on_underscore place c =
    if may_begin_name c place.before then Some (at c (AtWild place))
    else (if is_no place.before then eta place c (eta_receiver c) else None)

abbrev pub dotted : Place → Context → Option Prim → Option Context
dotted point c None = None
dotted point c (Some prim) = if is_param_limit c.limit then None else Some (at c (AtDot prim point))

abbrev pub on_dot : Place → Tail → Context → Option Context
on_dot point (AtSuper word) c = Some (at c (AtSuperDot word point))
on_dot point tail c = dotted point c (operand_at tail)

abbrev pub squared : Place → Context → Option Prim → Option Context
squared o c None = None
squared o c (Some prim) = if is_param_limit c.limit then None else Some (at c (InTypes prim o [] type_begun))

-- ---- what ends an Infix

abbrev pub without_chain : Context → Tail → Context
without_chain c tail = record { heads = c.heads; operations = []; sign = None; tail = tail; limit = c.limit }

abbrev pub typed_chain : Place → Context → Option Infix → Option Context
typed_chain point c None = None
typed_chain point c (Some chain) = Some (without_chain c (InTyped (OfChain chain) point type_begun))

abbrev pub operand_chain : Context → Option Infix
operand_chain c = chain_of c.operations c.sign (operand_at c.tail)

abbrev pub typed_from : Place → Bool → Tail → Context → Option Context
typed_from point true (AtName id is_sign) c = Some (at c (InTyped (OfName id) point type_begun))
typed_from point true (AtWild place) c = Some (at c (InTyped (OfWild place) point type_begun))
typed_from point first tail c = typed_chain point c (operand_chain c)

abbrev pub on_colon : Place → Context → Option Context
on_colon point c = if is_expr_limit c.limit || is_param_limit c.limit then typed_from point (is_first c) c.tail c else None

abbrev pub matched : Place → Context → Option Infix → Option Context
matched word c None = None
matched word c (Some chain) = if is_expr_limit c.limit then Some (without_chain c (AtMatch chain word)) else None

-- ---- heads

abbrev pub equals_at : Place → Tail → Context → Option Context
equals_at sign (AtName id is_sign) c = Some (with_head c (Of (AssignName id sign)))
equals_at sign (AtPrim (SelectPrim prim point id)) c = Some (with_head c (Of (AssignSelect prim point id sign)))
equals_at sign (AtCall prim args) c = Some (with_head c (Of (AssignApply prim args sign)))
equals_at sign _ c = None

abbrev pub lambda : Arrow → Context → Option LamHead → Option Context
lambda arrow c None = None
lambda arrow c (Some head) = Some (with_head c (Of (Lambda head arrow)))

abbrev pub yielding : Place → List Head → Context → Option Context
yielding place (Of (ForRound word opening enums closing None) ∷ hs) c =
    Some (only_heads (Of (ForRound word opening enums closing (Some place)) ∷ hs) Begin c.limit)
yielding place (Of (ForCurly word opening enums closing None) ∷ hs) c =
    Some (only_heads (Of (ForCurly word opening enums closing (Some place)) ∷ hs) Begin c.limit)
yielding place _ c = None

abbrev pub begun_with : Word → Place → Context → Option Context
begun_with word.If p c = Some (at c (AtAsker IfAsker p))
begun_with word.While p c = Some (at c (AtAsker WhileAsker p))
begun_with word.For p c = Some (at c (AtAsker ForAsker p))
begun_with word.Return p c = Some (at c (AtReturn p))
begun_with word.Do p c = Some (with_head c (DoHead p))
begun_with word.Try p c = Some (with_head c (Of (TryAlone p)))
begun_with word.Throw p c = Some (with_head c (Of (ThrowOf p)))
begun_with _ p c = None

abbrev pub may_begin : Context → Bool
may_begin c = may_stand c No && may_head c

-- ---- words that belong to a head

-- what stands before the word: the innermost expression, and what separates it from the word
pub record Before : Type 0 where
  pub expr : Expr
  pub seps : Sep

abbrev pub ended_before : Option Expr → Option Before
ended_before None = None
ended_before (Some expr) = Some (record { expr = expr; seps = [] })

abbrev pub before_word : Tail → Context → Option Before
before_word (AtSemi expr p ps) c = Some (record { expr = expr; seps = p ∷ ps })
before_word tail c = ended_before (innermost c)

-- at most one `;` before `else`
abbrev pub one_of : Sep → Option (Option Place)
one_of [] = Some None
one_of (p ∷ []) = Some (Some p)
one_of (p ∷ q ∷ ps) = None

-- the heads from the one that takes the word on
abbrev pub behind_else : Option (Option Place) → Place → List Head → Option Expr → Option (List Head)
behind_else semi other hs None = None
behind_else semi other [] (Some body) = None
behind_else None other (h ∷ hs) (Some body) = None
behind_else (Some semi) other (Of (IfThen word opening test closing) ∷ hs) (Some body) = Some (Of (IfElse word opening test closing body semi other) ∷ hs)
behind_else (Some semi) other (h ∷ hs) (Some body) = behind_else (Some semi) other hs (headed h body)

pub record Tried : Type 0 where
  pub word : Place
  pub body : Expr
  pub heads : List Head

-- the `try` that takes the word
abbrev pub tried : List Head → Option Expr → Option Tried
tried hs None = None
tried [] (Some body) = None
tried (Of (TryAlone word) ∷ hs) (Some body) = Some (record { word = word; body = body; heads = hs })
tried (h ∷ hs) (Some body) = tried hs (headed h body)

-- the `do` that takes its `while`
abbrev pub done : List Head → Option Expr → Option Tried
done hs None = None
done [] (Some body) = None
done (DoHead word ∷ hs) (Some body) = Some (record { word = word; body = body; heads = hs })
done (h ∷ hs) (Some body) = done hs (headed h body)

abbrev pub with_heads : Limit → Option (List Head) → Option Context
with_heads limit None = None
with_heads limit (Some hs) = Some (only_heads hs Begin limit)

abbrev pub on_else : Place → Context → Option Before → Option Context
on_else other c None = None
on_else other c (Some b) = with_heads c.limit (behind_else (one_of b.seps) other c.heads (Some b.expr))

abbrev pub caught : Place → Limit → Option Tried → Option Context
caught place limit None = None
caught place limit (Some t) = Some (only_heads t.heads (AtCatch t.word t.body place) limit)

abbrev pub finished : Place → Limit → Option Tried → Option Context
finished place limit None = None
finished place limit (Some t) = Some (only_heads (Of (TryFinally t.word t.body place) ∷ t.heads) Begin limit)

abbrev pub on_finally : Place → Tail → Context → Option Context
on_finally place (AtCaught word body catch opening cases closing) c =
    Some (only_heads (Of (TryCatchFinally word body catch opening cases closing place) ∷ c.heads) Begin c.limit)
on_finally place tail c = finished place c.limit (tried c.heads (innermost c))

abbrev pub until_at : Sep → Place → Limit → Option Tried → Option Context
until_at seps place limit None = None
until_at seps place limit (Some t) = Some (only_heads t.heads (AtUntil t.word t.body seps place) limit)

abbrev pub on_until : Place → Context → Option Before → Option Context
on_until place c None = None
on_until place c (Some b) = until_at b.seps place c.limit (done c.heads (Some b.expr))

-- ---- the generators of a `for`

abbrev pub gen_with : Part → Option Expr → Option Infix → Option Gen
gen_with PatPart expr chain = None
gen_with (FromPart pat arrow) None chain = None
gen_with (FromPart pat arrow) (Some expr) chain = Some (GenOf pat arrow expr NoGuards)
gen_with (GuardPart pat arrow from done sep word) expr None = None
gen_with (GuardPart pat arrow from done sep word) expr (Some test) =
    Some (GenOf pat arrow from (guards_before done (MoreGuards sep word test NoGuards)))

-- the expression or the guard that ends here, and the separator behind it
abbrev pub ended_expr : Context → Option Expr
ended_expr c = if waits c.heads then None else expr_at c

abbrev pub done_gen : Option Gen → Sep → Option DoneGen
done_gen None sep = None
done_gen (Some gen) sep = Some (record { gen = gen; sep = sep })

abbrev pub unless : {A : Type 0} → Bool → Option A → Option A
unless true o = None
unless false o = o

-- the generator that ends here, with the separator behind it
abbrev pub gen_at : Part → Tail → Context → Option DoneGen
gen_at part (AtSemi expr p ps) c = done_gen (gen_with part (unless (waits c.heads) (headed_all c.heads (Some expr))) None) (p ∷ ps)
gen_at part (AtGuardSemi test p ps) c = done_gen (gen_with part None (Some test)) (p ∷ ps)
gen_at part tail c = done_gen (gen_with part (ended_expr c) (chain_at c)) []

-- another generator, or a guard, stands behind a separator
abbrev pub is_apart : Sep → Newline → Bool
is_apart [] before = has_newline before
is_apart (p ∷ ps) before = true

-- the part of a generator behind which a guard begins
abbrev pub guard_with : Part → Option Expr → Option Infix → Sep → Place → Option Part
guard_with PatPart expr chain sep word = None
guard_with (FromPart pat arrow) None chain sep word = None
guard_with (FromPart pat arrow) (Some from) chain sep word = Some (GuardPart pat arrow from [] sep word)
guard_with (GuardPart pat arrow from done before first) expr None sep word = None
guard_with (GuardPart pat arrow from done before first) expr (Some test) sep word =
    Some (GuardPart pat arrow from (record { sep = before; word = first; test = test } ∷ done) sep word)

abbrev pub guard_at : Part → Tail → Context → Place → Option Part
guard_at part (AtSemi expr p ps) c word = guard_with part (unless (waits c.heads) (headed_all c.heads (Some expr))) None (p ∷ ps) word
guard_at part (AtGuardSemi test p ps) c word = guard_with part None (Some test) (p ∷ ps) word
guard_at part tail c word = guard_with part (ended_expr c) (chain_at c) [] word

abbrev pub frame : Bracket → Context → Frame
frame bracket outer = record { bracket = bracket; outer = outer }

abbrev pub next_pattern : Context
next_pattern = at (fresh limit.Expr) (InPattern (patterns.machine).start)

abbrev pub guarded_in : Option Part → Place → Place → List DoneGen → Context → List Frame → Option State
guarded_in None word o done outer fs = None
guarded_in (Some part) word o done outer fs = Some (state (frame (GensBracket word o done part) outer ∷ fs) (fresh limit.Guard))

abbrev pub guarded_by : Bracket → Place → Context → Context → List Frame → Option State
guarded_by (GensBracket word o done part) p outer c fs = guarded_in (guard_at part c.tail c p) word o done outer fs
guarded_by _ p outer c fs = None

-- behind the `if` of a guard
abbrev pub guarded : Place → List Frame → Context → Option State
guarded p [] c = None
guarded p (f ∷ fs) c = guarded_by f.bracket p f.outer c fs

abbrev pub next_in : Option DoneGen → Place → Place → List DoneGen → Context → Newline → List Frame → Option State
next_in None word o done outer before fs = None
next_in (Some d) word o done outer before fs =
    if is_apart d.sep before then Some (state (frame (GensBracket word o (d ∷ done) PatPart) outer ∷ fs) next_pattern) else None

abbrev pub next_by : Bracket → Context → Context → Newline → List Frame → Option State
next_by (GensBracket word o done part) outer c before fs = next_in (gen_at part c.tail c) word o done outer before fs
next_by _ outer c before fs = None

-- before the pattern of the next generator
abbrev pub next_generator : List Frame → Context → Newline → Option State
next_generator [] c before = None
next_generator (f ∷ fs) c before = next_by f.bracket f.outer c before fs

abbrev pub begins_pattern : Seen → Bool
begins_pattern (AnId id) = true
begins_pattern (AnUnderscore p) = true
begins_pattern (OpensRound p) = true
begins_pattern _ = false

abbrev pub at_begin : patterns.Current → Bool
at_begin (patterns.InInfix b os patterns.Begin) = true
at_begin _ = false

-- variables, `_`, and parentheses
abbrev pub is_generator_token : patterns.Current → Seen → Bool
is_generator_token p (AnId id) = at_begin p && is_var id
is_generator_token p (AnUnderscore place) = at_begin p
is_generator_token p (OpensRound place) = at_begin p
is_generator_token p (AComma place) = not (at_begin p)
is_generator_token p (ClosesRound place) = not (at_begin p)
is_generator_token p _ = false

abbrev pub pattern_in : List Frame → Option patterns.State → Option State
pattern_in fs None = None
pattern_in fs (Some p) = Some (state fs (at (fresh limit.Expr) (InPattern p)))

-- the pattern that was read, where no bracket is open
abbrev pub pattern_read : List patterns.Frame → List patterns.Earlier → Option Pat1 → Option Pat
pattern_read [] es (Some pat) = Some (patterns.pat_read es pat)
pattern_read _ es _ = None

abbrev pub pattern_of : patterns.State → Option Pat
pattern_of s = pattern_read s.frames s.earlier (patterns.alternative_at s.current)

abbrev pub arrowed_in : Option Pat → BackArrow → Bracket → Context → List Frame → Option State
arrowed_in (Some pat) arrow (GensBracket word o done PatPart) outer fs =
    Some (state (frame (GensBracket word o done (FromPart pat arrow)) outer ∷ fs) (fresh limit.Expr))
arrowed_in _ arrow _ outer fs = None

abbrev pub arrowed : Option Pat → BackArrow → List Frame → Option State
arrowed pat arrow [] = None
arrowed pat arrow (f ∷ fs) = arrowed_in pat arrow f.bracket f.outer fs

abbrev pub in_pattern : Seen → Lexeme → patterns.State → List Frame → Option State
in_pattern (ABackArrow arrow) x p fs = arrowed (pattern_of p) arrow fs
in_pattern y x p fs = if is_generator_token p.current y then pattern_in fs (patterns.step p x) else None

-- ---- brackets

abbrev pub typed_element : (TypePart → LPar) → Place → Option WrittenType → Option Element
typed_element to point None = None
typed_element to point (Some type) = Some (ParamElement (to (OfType point type)))

-- the parameter that was read, where nothing stands before it
abbrev pub param_element : Bool → Tail → Option Element
param_element true (AtName id is_sign) = Some (ParamElement (NamedLPar id NoType))
param_element true (AtWild place) = Some (ParamElement (WildLPar place NoType))
param_element true (InTyped (OfName id) point t) = typed_element (NamedLPar id) point (type_of t)
param_element true (InTyped (OfWild place) point t) = typed_element (WildLPar place) point (type_of t)
param_element _ _ = None

abbrev pub expr_element : Option Expr → Option Element
expr_element None = None
expr_element (Some expr) = Some (ExprElement expr)

abbrev pub or_else : {A : Type 0} → Option A → Option A → Option A
or_else None other = other
or_else (Some a) other = Some a

-- the element that ends here
abbrev pub element_at : Context → Option Element
element_at c = or_else (param_element (is_first c && is_nil c.heads) c.tail) (expr_element (ended_expr c))

abbrev pub is_param : Element → Bool
is_param (ParamElement p) = true
is_param (ExprElement expr) = false

abbrev pub limit_behind : List DoneElement → Limit
limit_behind done = if nat_le 3 (length done) then limit.Param else limit.Expr

abbrev pub parted_group : Place → Place → List DoneElement → Bool → Option Element → Context → List Frame → Option State
parted_group p o done may_be_head None outer fs = None
parted_group p o done may_be_head (Some e) outer fs =
    if nat_lt (length done) 2 || (may_be_head && is_param e)
    then Some (state (frame (GroupBracket o (record { element = e; place = p } ∷ done) (may_be_head && is_param e)) outer ∷ fs)
    (fresh (limit_behind (record { element = e; place = p } ∷ done)))) else None

abbrev pub parted_args : Place → (List DoneExpr → Bracket) → List DoneExpr → Option Expr → Context → List Frame → Option State
parted_args p bracket done None outer fs = None
parted_args p bracket done (Some expr) outer fs =
    Some (state (frame (bracket (record { expr = expr; place = p } ∷ done)) outer ∷ fs) (fresh limit.Expr))

abbrev pub parted_in : Place → Bracket → Context → Context → List Frame → Option State
parted_in p (GroupBracket o done may_be_head) c outer fs = parted_group p o done may_be_head (element_at c) outer fs
parted_in p (ArgsBracket prim o done) c outer fs = parted_args p (ArgsBracket prim o) done (ended_expr c) outer fs
parted_in p (NewArgsBracket word type o done) c outer fs = parted_args p (NewArgsBracket word type o) done (ended_expr c) outer fs
parted_in p _ c outer fs = None

-- behind a comma
abbrev pub parted : Place → List Frame → Context → Option State
parted p [] c = None
parted p (f ∷ fs) c = parted_in p f.bracket c f.outer fs

abbrev pub is_untouched : Context → Bool
is_untouched c = is_first c && (is_nil c.heads && is_begin c.tail)

abbrev pub emptied : Bracket → Place → Context → Option Context
emptied (GroupBracket o [] may_be_head) p outer = Some (at outer (AtGroup o NoElements p may_be_head))
emptied (ArgsBracket prim o []) p outer = Some (at outer (AtCall prim (NoArgs o p)))
emptied (NewArgsBracket word type o []) p outer = Some (at outer (AtPrim (NewWith word type (NoArgs o p))))
emptied _ p outer = None

abbrev pub closed_group : Place → List DoneElement → Bool → Option Element → Place → Context → Option Context
closed_group o done may_be_head None p outer = None
closed_group o done may_be_head (Some e) p outer = Some (at outer (AtGroup o (Elements done e) p (may_be_head && is_param e)))

abbrev pub closed_args : (Args → Tail) → Place → List DoneExpr → Option Expr → Place → Context → Option Context
closed_args to o done None p outer = None
closed_args to o done (Some expr) p outer = Some (at outer (to (ExprArgs o (listed done (LastExpr expr)) p)))

abbrev pub behind_test : Context → (Expr → Head) → Option Expr → Option Context
behind_test outer to None = None
behind_test outer to (Some test) = Some (with_head outer (to test))

abbrev pub behind_until : Context → (Expr → Expr) → Option Expr → Option Context
behind_until outer to None = None
behind_until outer to (Some test) = Some (at outer (AtEnded (to test)))

abbrev pub behind_gens : Place → Place → List DoneGen → Place → Context → Option DoneGen → Option Context
behind_gens word o done p outer None = None
behind_gens word o done p outer (Some d) = (elim d.sep [
  | [] ↦ Some (with_head outer (Of (ForRound word o (enums_before done (LastGen d.gen)) p None)))
  | q ∷ qs ↦ None
])

abbrev pub closed_in : Bracket → Place → Context → Context → Option Context
closed_in (GroupBracket o done may_be_head) p c outer = closed_group o done may_be_head (element_at c) p outer
closed_in (ArgsBracket prim o done) p c outer = closed_args (AtCall prim) o done (ended_expr c) p outer
closed_in (NewArgsBracket word type o done) p c outer = closed_args (λ args. AtPrim (NewWith word type args)) o done (ended_expr c) p outer
closed_in (IfTest word o) p c outer = behind_test outer (λ test. Of (IfThen word o test p)) (ended_expr c)
closed_in (WhileTest word o) p c outer = behind_test outer (λ test. Of (WhileDo word o test p)) (ended_expr c)
closed_in (DoTest word body sep until o) p c outer = behind_until outer (λ test. DoThenWhile word body sep until o test p) (ended_expr c)
closed_in (GensBracket word o done part) p c outer = behind_gens word o done p outer (gen_at part c.tail c)

abbrev pub closed_frame : Place → Frame → Context → Option Context
closed_frame p f c = if is_untouched c then emptied f.bracket p f.outer else closed_in f.bracket p c f.outer

-- behind `)`
abbrev pub closed : Place → List Frame → Context → Option State
closed p [] c = None
closed p (f ∷ fs) c = in_state fs (closed_frame p f c)

abbrev pub waiting_bracket : Place → Tail → Option Bracket
waiting_bracket o (AtAsker IfAsker word) = Some (IfTest word o)
waiting_bracket o (AtAsker WhileAsker word) = Some (WhileTest word o)
waiting_bracket o (AtAsker ForAsker word) = Some (GensBracket word o [] PatPart)
waiting_bracket o (AtUntil word body sep until) = Some (DoTest word body sep until o)
waiting_bracket o (AtNew word type) = if is_no o.before then Some (NewArgsBracket word type o []) else None
waiting_bracket o _ = None

abbrev pub inner : Bracket → Context
inner (GensBracket word o done part) = next_pattern
inner _ = fresh limit.Expr

abbrev pub opened_with : Option Bracket → List Frame → Context → Option State
opened_with None fs c = None
opened_with (Some bracket) fs c = Some (state (frame bracket (at c Begin) ∷ fs) (inner bracket))

abbrev pub args_bracket : Place → Option Prim → Option Bracket
args_bracket o None = None
args_bracket o (Some prim) = if is_no o.before then Some (ArgsBracket prim o []) else None

abbrev pub receiver : Context → Option Prim
receiver c = if is_param_limit c.limit then None else receiver_at c.tail

-- behind `(`
abbrev pub opened : Place → List Frame → Context → Option State
opened o fs c =
    if is_some (receiver c) then opened_with (args_bracket o (receiver c)) fs c
    else (if may_stand c o.before then opened_with (Some (GroupBracket o [] (may_head c))) fs c
    else opened_with (waiting_bracket o c.tail) fs c)

-- ---- words

abbrev pub prim_word : Word → Place → Tail
prim_word word.Super p = AtSuper p
prim_word word.New p = InNew p type_begun
prim_word _ p = AtPrim (ThisPrim p)

abbrev pub is_prim_word : Word → Bool
is_prim_word word.This = true
is_prim_word word.Super = true
is_prim_word word.New = true
is_prim_word _ = false

abbrev pub begins : Word → Place → Context → Option Context
begins w p c = if may_begin c then begun_with w p c else None

abbrev pub word_at : Word → Place → Context → Option Context
word_at word.Match p c = matched p c (operand_chain c)
word_at word.Yield p c = if may_begin c then yielding p c.heads c else None
word_at w p c = if is_prim_word w then when (may_stand c p.before) (at c (prim_word w p)) else begins w p c

-- a word that a head takes; what is no word of a head is left
abbrev pub taken : Word → Place → Context → Option Context
taken word.Else p c = if takes_else c.heads then on_else p c (before_word c.tail c) else None
taken word.Catch p c = if takes_catch c.heads then caught p c.limit (tried c.heads (innermost c)) else None
taken word.Finally p c = on_finally p c.tail c
taken word.While p c = if waits c.heads then on_until p c (before_word c.tail c) else None
taken w p c = None

abbrev pub is_if : Word → Bool
is_if word.If = true
is_if _ = false

abbrev pub is_gens : Bracket → Bool
is_gens (GensBracket word o done part) = true
is_gens _ = false

abbrev pub in_gens : List Frame → Bool
in_gens [] = false
in_gens (f ∷ fs) = is_gens f.bracket

abbrev pub on_word : Word → Place → List Frame → Context → Option State
on_word w p fs c = or_else (if is_if w then guarded p fs c else None) (in_state fs (or_else (taken w p c) (word_at w p c)))

-- ---- semicolons

abbrev pub semi_behind : Place → Limit → List Head → Option Expr → Option Context
semi_behind p limit hs None = None
semi_behind p limit hs (Some expr) = Some (only_heads hs (AtSemi expr p []) limit)

abbrev pub guard_semi : Place → Option Infix → Option Context
guard_semi p None = None
guard_semi p (Some test) = Some (only_heads [] (AtGuardSemi test p []) limit.Guard)

-- a `;` more, or the first
abbrev pub semi_at : Place → Bool → Tail → Context → Option Context
semi_at p many (AtSemi expr q qs) c = if many then Some (only_heads c.heads (AtSemi expr q (qs ++ p ∷ [])) c.limit) else None
semi_at p many (AtGuardSemi test q qs) c = if many then Some (at c (AtGuardSemi test q (qs ++ p ∷ []))) else None
semi_at p many tail c = if is_guard_limit c.limit then guard_semi p (chain_at c) else semi_behind p c.limit c.heads (innermost c)

abbrev pub on_semicolon : Place → List Frame → Context → Option Context
on_semicolon p fs c =
    if in_gens fs && not (waits c.heads) then semi_at p true c.tail c
    else (if waits c.heads then semi_at p true c.tail c
    else (if takes_else c.heads then semi_at p false c.tail c else None))

-- ---- one token more

abbrev pub moved : Seen → List Frame → Context → Option State
moved (AnId id) fs c = in_state fs (on_id id c)
moved (ANumber n) fs c = in_state fs (on_number n c.tail c)
moved (ALiteral l) fs c = in_state fs (on_literal l c)
moved (AnUnderscore p) fs c = in_state fs (on_underscore p c)
moved (AColon p) fs c = in_state fs (on_colon p c)
moved (AnEquals p) fs c = in_state fs (if may_head c then equals_at p c.tail c else None)
moved (AnArrow a) fs c = in_state fs (if may_head c then lambda a c (head_at c.tail) else None)
moved (ADot p) fs c = in_state fs (on_dot p c.tail c)
moved (AComma p) fs c = parted p fs c
moved (ASemicolon p) fs c = in_state fs (on_semicolon p fs c)
moved (OpensRound p) fs c = opened p fs c
moved (ClosesRound p) fs c = closed p fs c
moved (OpensSquare p) fs c = in_state fs (squared p c (operand_at c.tail))
moved (AWord w p) fs c = on_word w p fs c
moved _ fs c = None

abbrev pub pattern_step : Tail → Seen → Lexeme → List Frame → Option State
pattern_step (InPattern p) y x fs = in_pattern y x p fs
pattern_step _ y x fs = None

abbrev pub begun_pattern : Option State → Seen → Lexeme → Option State
begun_pattern None y x = None
begun_pattern (Some s) y x = pattern_step s.context.tail y x s.frames

abbrev pub token_at : Tail → Seen → Lexeme → List Frame → Context → Option State
token_at (InPattern p) y x fs c = in_pattern y x p fs
token_at (InTypes prim o done t) y x fs c = in_state fs (types_on y prim o done (type_of t) c)
token_at (AtDot prim point) y x fs c = moved y fs c
token_at tail y x fs c =
    if begins_pattern y && is_some (next_generator fs c x.place.before) then begun_pattern (next_generator fs c x.place.before) y x else moved y fs c

abbrev pub decided_step : Seen → Lexeme → List Frame → Context → Option State
decided_step y x fs c = token_at c.tail y x fs c

abbrev pub or_decided : Option Tail → Lexeme → List Frame → Context → Option State
or_decided (Some tail) x fs c = Some (state fs (at c tail))
or_decided None x fs c = decided_step (seen x) x fs (decided_at c.tail c (symbol_of x.kind x.word) x.place.before)

abbrev pub step_token : Lexeme → List Frame → Context → Option State
step_token x fs c = or_decided (in_type c.limit c.tail x) x fs c

-- ---- one pair of braces more

abbrev pub arg_of : Item → Option Args
arg_of (BlockPair o block c) = Some (BlockArg o block c)
arg_of (CasesPair o cases c) = Some (CasesArg o cases c)
arg_of _ = None

abbrev pub prim_of : Item → Option Prim
prim_of (BlockPair o block c) = Some (BlockPrim o block c)
prim_of (CasesPair o cases c) = Some (CasesPrim o cases c)
prim_of _ = None

abbrev pub called : Prim → Option Args → Option Tail
called prim None = None
called prim (Some args) = Some (AtCall prim args)

abbrev pub new_with : Place → WrittenType → Option Args → Option Tail
new_with word type None = None
new_with word type (Some args) = Some (AtPrim (NewWith word type args))

abbrev pub as_prim : Option Prim → Option Tail
as_prim None = None
as_prim (Some prim) = Some (AtPrim prim)

abbrev pub behind_receiver : Option Prim → Newline → Item → Option Tail
behind_receiver None before i = None
behind_receiver (Some prim) before i = if is_near before then called prim (arg_of i) else None

-- a sign alone is a name where a newline stands before the brace
abbrev pub sign_receiver : Id → Newline → Item → Option Tail
sign_receiver id before i = if is_near before && not (is_no before) then called (NamePrim id) (arg_of i) else None

abbrev pub tail_behind : Tail → Context → Newline → Item → Option Tail
tail_behind (AtMatch chain word) c before (CasesPair o cases p) = Some (AtEnded (MatchExpr chain word o cases p))
tail_behind (AtMatch chain word) c before _ = None
tail_behind (AtCatch word body catch) c before (CasesPair o cases p) = Some (AtCaught word body catch o cases p)
tail_behind (AtCatch word body catch) c before _ = None
tail_behind (AtName id true) c before i = if is_param_limit c.limit then None else sign_receiver id before i
tail_behind (AtNew word type) c before i = if is_near before then new_with word type (arg_of i) else None
tail_behind Begin c before i = if may_stand c before then as_prim (prim_of i) else None
tail_behind tail c before i = behind_receiver (receiver c) before i

abbrev pub at_some : Context → Option Tail → Option Context
at_some c None = None
at_some c (Some tail) = Some (at c tail)

abbrev pub behind_pair : Tail → Context → Newline → Item → Option Context
behind_pair (AtAsker ForAsker word) c before (EnumsPair o enums p) = Some (with_head c (Of (ForCurly word o enums p None)))
behind_pair (AtAsker asker word) c before _ = None
behind_pair tail c before i = at_some c (tail_behind tail c before i)

abbrev pub decided_pair : Context → Newline → Item → Option Context
decided_pair c before i = behind_pair c.tail c before i

abbrev pub step_pair : Place → Item → List Frame → Context → Option State
step_pair o i fs c = in_state fs (decided_pair (decided_at c.tail c symbol.OpenCurly o.before) o.before i)

abbrev pub step : State → Item → Option State
step s (OneToken x) = step_token x s.frames s.context
step s (BlockPair o block c) = step_pair o (BlockPair o block c) s.frames s.context
step s (CasesPair o cases c) = step_pair o (CasesPair o cases c) s.frames s.context
step s (EnumsPair o enums c) = step_pair o (EnumsPair o enums c) s.frames s.context
step s (OtherPair o xs c) = None

abbrev pub begun : Limit → State
begun limit = state [] (fresh limit)

abbrev pub is_read : State → Bool
is_read s = is_nil s.frames && is_some (ended_expr s.context)

abbrev pub machine : Limit → Machine State Item
machine limit = record { start = begun limit; step = step; whole = is_read }
