-- What the machine of expressions asks of a context is the same of its bare one.
use Rattle.std.proofs.Common.{◌≡◌, ℕ, Bool, true, false, ◌&&◌, ◌||◌, if◌then◌else◌, List, [], ◌∷◌, map, refl, ap, ◌∙◌, sym}
use Rattle.std.specs.Prelude.{length, not, nat_le, nat_lt, ◌==◌}
use Rattle.std.proofs.lemmas.List.{length-map}
use Rattle.scan_tokens.specs.declared.tokens.Newline.{Newline}
use Rattle.scan_tokens.specs.declared.tokens.Newline.TheVariants.{No}
use Rattle.scan_tokens.specs.Words.{Bytes}
use Rattle.source_grammar.specs.Brackets.{has_newline}
use Rattle.source_grammar.specs.Newlines.{is_near}
use Rattle.std.specs.Prelude.{is_some}
use Rattle.parse_parts.specs.Reading.{is_nil}
use Rattle.parse_parts.specs.Steps.{is_none}
use Rattle.parse_parts.specs.declared.symbols.Symbol.{Symbol as TypeSymbol}
use Rattle.parse_patterns.specs.Steps.{is_no}
use Rattle.parse_patterns.specs.declared.states.Operation.{Operation}
use Rattle.parse_patterns.specs.Operators as patterns
use Rattle.expr_tails.specs.declared.states.Bracket.{Bracket}
use Rattle.expr_tails.specs.declared.states.Bracket.TheVariants as bracket
use Rattle.expr_tails.specs.declared.states.Context.{Context}
use Rattle.expr_tails.specs.declared.states.Element.{Element}
use Rattle.expr_tails.specs.declared.states.Frame.{Frame}
use Rattle.expr_tails.specs.declared.states.Head.{Head}
use Rattle.expr_tails.specs.declared.states.Limit.{Limit}
use Rattle.expr_tails.specs.declared.states.Reach.{Reach}
use Rattle.expr_tails.specs.declared.states.State.{State}
use Rattle.expr_tails.specs.declared.states.Tail.{Tail}
use Rattle.expr_tails.specs.declared.states.Tail.TheVariants as tail
use Rattle.expr_tails.specs.declared.states.TypedOf.{TypedOf}
use Rattle.expr_tails.specs.declared.states.TypedOf.TheVariants as typed_of
use Rattle.expr_tails.specs.declared.symbols.Symbol.{Symbol}
use Rattle.expr_tails.specs.declared.symbols.Word.{Word}
use Rattle.expr_tails.specs.declared.symbols.Word.TheVariants as word
use Rattle.expr_tails.specs.Ending.{is_first, may_head, is_expr_limit, waits_in, is_expr, is_semi}
use Rattle.expr_tails.specs.Tails.{is_operand, is_whole, is_before_operator}
use Rattle.expr_tails.specs.Types.{type_takes}
use Rattle.expr_frames.specs.Frames.{is_receiver, is_begin, takes_args, may_stand, is_param_limit, is_param_tail, is_typed_param, is_param, is_untouched, has_room, may_be_empty}
use Rattle.expr_frames.specs.Generators.{is_generators, in_generators, is_behind_semicolon, begins_pattern, begins_generator, ends_part}
use Rattle.expr_frames.specs.Heads.{reach_of, is_after_one, is_caught, is_taken, is_taken_in}
use Rattle.expr_steps.specs.Reading.{is_read}
use Rattle.expr_steps.specs.Steps.{is_new, is_name_or_wild_tail, is_head_tail, may_begin_name, may_operate, takes_underscore, may_go_on, may_be_typed, is_lambda_head, may_begin, is_crossed}
use Rattle.shape_laws.proofs.Bare.{bare_tail, bare_head, bare_operation, bare_typed, bare_context, bare_frame, bare_bracket, bare, no_element}

both : (a b c d : Bool) → a ≡ b → c ≡ d → (a && c) ≡ (b && d)
both a b c d e f = ap (λ x. x && c) e ∙ ap (λ x. b && x) f

either : (a b c d : Bool) → a ≡ b → c ≡ d → (a || c) ≡ (b || d)
either a b c d e f = ap (λ x. x || c) e ∙ ap (λ x. b || x) f

-- ---- lists

pub nil-map : {A : Type 0} (f : A → A) (xs : List A) → is_nil xs ≡ is_nil (map f xs)
nil-map f [] = refl
nil-map f (x ∷ xs) = refl

pub reach-same : (hs : List Head) → reach_of hs ≡ reach_of (map bare_head hs)
reach-same [] = refl
reach-same (h ∷ hs) = refl

pub waits-same : (hs : List Head) → waits_in hs ≡ waits_in (map bare_head hs)
waits-same [] = refl
waits-same (h ∷ hs) = refl

fits-within : (ops : List Operation) (level : ℕ) (right : Bool) → patterns.fits ops level right ≡ patterns.fits (map bare_operation ops) level right
fits-within [] level right = refl
fits-within (op ∷ ops) level right = ap (λ b. if nat_lt level op.level then b else (not (op.level == level) || patterns.same_side op.right right)) (fits-within ops level right)

pub length-same : (es : List Element) → length es ≡ length (map no_element es)
length-same es = sym (length-map es no_element)

-- ---- tails

pub operand-same : (t : Tail) → is_operand t ≡ is_operand (bare_tail t)
operand-same (tail.AtGroup group) = ap (λ n. nat_le n 3) (length-same group.elements)
operand-same _ = refl

pub whole-same : (t : Tail) → is_whole t ≡ is_whole (bare_tail t)
whole-same (tail.AtGroup group) = ap (λ n. nat_le n 3 || false) (length-same group.elements)
whole-same _ = refl

before-operator : (t : Tail) → is_before_operator t ≡ is_before_operator (bare_tail t)
before-operator (tail.AtGroup group) = ap (λ n. nat_le n 3) (length-same group.elements)
before-operator _ = refl

receiver-same : (t : Tail) → is_receiver t ≡ is_receiver (bare_tail t)
receiver-same (tail.AtGroup group) = ap (λ n. nat_le n 3) (length-same group.elements)
receiver-same _ = refl

after-one : (t : Tail) → is_after_one t ≡ is_after_one (bare_tail t)
after-one (tail.AtGroup group) = ap (λ n. nat_le n 3 || false) (length-same group.elements)
after-one _ = refl

pub begin-same : (t : Tail) → is_begin t ≡ is_begin (bare_tail t)
begin-same tail.Begin = refl
begin-same _ = refl

pub semi-same : (t : Tail) → is_semi t ≡ is_semi (bare_tail t)
semi-same tail.Begin = refl
semi-same _ = refl

pub caught-same : (t : Tail) → is_caught t ≡ is_caught (bare_tail t)
caught-same tail.Begin = refl
caught-same _ = refl

new-same : (t : Tail) → is_new t ≡ is_new (bare_tail t)
new-same tail.Begin = refl
new-same _ = refl

pub name-or-wild : (t : Tail) → is_name_or_wild_tail t ≡ is_name_or_wild_tail (bare_tail t)
name-or-wild tail.Begin = refl
name-or-wild _ = refl

head-tail : (t : Tail) → is_head_tail t ≡ is_head_tail (bare_tail t)
head-tail tail.Begin = refl
head-tail _ = refl

typed-same : (of : TypedOf) → is_typed_param of ≡ is_typed_param (bare_typed of)
typed-same (typed_of.Infix operand) = refl
typed-same _ = refl

param-tail : (t : Tail) → is_param_tail t ≡ is_param_tail (bare_tail t)
param-tail (tail.InTyped of ty) = typed-same of
param-tail _ = refl

pub takes-type : (l : Limit) (t : Tail) (s : TypeSymbol) → type_takes l t s ≡ type_takes l (bare_tail t) s
takes-type l tail.Begin s = refl
takes-type l _ s = refl

-- ---- contexts

pub first-same : (c : Context) → is_first c ≡ is_first (bare_context c)
first-same c = ap (λ b. b && is_none c.sign) (nil-map bare_operation c.operations)

pub head-same : (c : Context) → may_head c ≡ may_head (bare_context c)
head-same c = ap (λ b. b && is_expr_limit c.limit) (first-same c)

pub expr-same : (c : Context) → is_expr c ≡ is_expr (bare_context c)
expr-same c = both _ _ _ _ (whole-same c.tail) (ap not (waits-same c.heads))

pub args-same : (c : Context) → takes_args c ≡ takes_args (bare_context c)
args-same c = ap (λ b. b && not (is_param_limit c.limit)) (receiver-same c.tail)

pub stand-same : (c : Context) (before : Newline) → may_stand c before ≡ may_stand (bare_context c) before
stand-same c before =
    both _ _ _ _ (begin-same c.tail) (ap (λ b. not (is_param_limit c.limit) && (b || (is_some c.sign || is_near before))) (first-same c))

pub begin-name : (c : Context) (before : Newline) → may_begin_name c before ≡ may_begin_name (bare_context c) before
begin-name c before = go (is_param_limit c.limit) where
  go : (b : Bool) → (if b then is_begin c.tail else may_stand c before) ≡ (if b then is_begin (bare_tail c.tail) else may_stand (bare_context c) before)
  go true = begin-same c.tail
  go false = stand-same c before

pub operate-same : (c : Context) (before : Newline) (text : Bytes) → may_operate c before text ≡ may_operate (bare_context c) before text
operate-same c before text =
    both _ _ _ _ (before-operator c.tail) (ap (λ b. is_no before && (not (is_param_limit c.limit) && b)) (fits-within c.operations _ _))

pub underscore-same : (c : Context) (before : Newline) → takes_underscore c before ≡ takes_underscore (bare_context c) before
underscore-same c before = ap (λ b. b && is_no before) (either _ _ _ _ (args-same c) (new-same c.tail))

pub go-on : (c : Context) → may_go_on c ≡ may_go_on (bare_context c)
go-on c = ap (λ b. b && not (is_param_limit c.limit)) (operand-same c.tail)

pub typed-may : (c : Context) → may_be_typed c ≡ may_be_typed (bare_context c)
typed-may c = ap (λ b. b && (is_expr_limit c.limit || is_param_limit c.limit)) (operand-same c.tail)

pub lambda-head : (c : Context) → is_lambda_head c ≡ is_lambda_head (bare_context c)
lambda-head c = both _ _ _ _ (head-same c) (head-tail c.tail)

pub may-begin : (c : Context) → may_begin c ≡ may_begin (bare_context c)
may-begin c = both _ _ _ _ (stand-same c No) (head-same c)

-- the two things that it asks of a tail are asked of the bare one
taken-in : (r : Reach) (t : Tail) (w : Word) → is_taken_in r t w ≡ is_taken_in r (bare_tail t) w
taken-in r t word.Else = ap (λ b. b && r.takes_else) (after-one t)
taken-in r t word.Catch = ap (λ b. b && r.takes_catch) (whole-same t)
taken-in r t word.Finally = either _ _ _ _ (caught-same t) (ap (λ b. b && r.takes_finally) (whole-same t))
taken-in r t word.While = ap (λ b. b && r.waits) (either _ _ _ _ (whole-same t) (semi-same t))
taken-in r t _ = refl

pub taken-same : (c : Context) (w : Word) → is_taken c w ≡ is_taken (bare_context c) w
taken-same c w = taken-in (reach_of c.heads) c.tail w ∙ ap (λ r. is_taken_in r (bare_tail c.tail) w) (reach-same c.heads)

pub crossed-same : (c : Context) → is_crossed c ≡ is_crossed (bare_context c)
crossed-same c =
    either _ _ _ _ (both _ _ _ _ (waits-same c.heads) (semi-same c.tail))
    (both _ _ _ _ (whole-same c.tail) (either _ _ _ _ (waits-same c.heads) (taken-same c word.Else)))

pub param-same : (c : Context) → is_param c ≡ is_param (bare_context c)
param-same c = both _ _ _ _ (first-same c) (both _ _ _ _ (nil-map bare_head c.heads) (param-tail c.tail))

pub untouched-same : (c : Context) → is_untouched c ≡ is_untouched (bare_context c)
untouched-same c = both _ _ _ _ (first-same c) (both _ _ _ _ (nil-map bare_head c.heads) (begin-same c.tail))

pub behind-semicolon : (c : Context) → is_behind_semicolon c ≡ is_behind_semicolon (bare_context c)
behind-semicolon c = both _ _ _ _ (semi-same c.tail) (ap not (waits-same c.heads))

-- ---- brackets

pub room-same : (b : Bracket) (c : Context) → has_room b c ≡ has_room (bare_bracket b) (bare_context c)
room-same (bracket.Group elements may_be_head) c =
    either _ _ _ _ (ap (λ n. nat_lt n 2) (length-same elements)) (ap (λ b. may_be_head && b) (param-same c))
room-same _ c = refl

pub empty-same : (b : Bracket) → may_be_empty b ≡ may_be_empty (bare_bracket b)
empty-same (bracket.Group elements may_be_head) = nil-map no_element elements
empty-same _ = refl

bracket-gens : (b : Bracket) → is_generators b ≡ is_generators (bare_bracket b)
bracket-gens bracket.IfTest = refl
bracket-gens _ = refl

pub gens-same : (fs : List Frame) → in_generators fs ≡ in_generators (map bare_frame fs)
gens-same [] = refl
gens-same (f ∷ fs) = bracket-gens f.bracket

pub begins-next : (fs : List Frame) (c : Context) (s : Symbol) (before : Newline)
    → begins_generator fs c s before ≡ begins_generator (map bare_frame fs) (bare_context c) s before
begins-next fs c s before =
    both _ _ _ _ (either _ _ _ _ (behind-semicolon c) (ap (λ b. b && has_newline before) (expr-same c))) (ap (λ b. b && begins_pattern s) (gens-same fs))

pub ends-part : (fs : List Frame) (c : Context) → ends_part fs c ≡ ends_part (map bare_frame fs) (bare_context c)
ends-part fs c = both _ _ _ _ (gens-same fs) (either _ _ _ _ (behind-semicolon c) (expr-same c))

-- an expression has been read where one has of the bare state
pub read-same : (s : State) → is_read s ≡ is_read (bare s)
read-same s = both _ _ _ _ (nil-map bare_frame s.frames) (expr-same s.context)
