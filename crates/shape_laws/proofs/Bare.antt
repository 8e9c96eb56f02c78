-- States of the machines without what no step asks for: trees, spans of what has a tree, placeholders.
use Rattle.std.proofs.Common.{◌≡◌, Bool, true, false, if◌then◌else◌, List, [], ◌∷◌, map, Option, None, refl, ap, ◌∙◌, sym}
use Rattle.pc_terms.specs.declared.problems.Span.{Span}
use Rattle.positioned_trees.specs.declared.details.Name.{Name}
use Rattle.parse_patterns.specs.declared.states.Operation.{Operation}
use Rattle.expr_tails.specs.declared.states.Begun.{Begun}
use Rattle.expr_tails.specs.declared.states.Bracket.{Bracket}
use Rattle.expr_tails.specs.declared.states.Bracket.TheVariants as bracket
use Rattle.expr_tails.specs.declared.states.Context.{Context}
use Rattle.expr_tails.specs.declared.states.Element.{Element}
use Rattle.expr_tails.specs.declared.states.Element.TheVariants as element
use Rattle.expr_tails.specs.declared.states.Frame.{Frame}
use Rattle.expr_tails.specs.declared.states.Head.{Head}
use Rattle.expr_tails.specs.declared.states.HeadKind.{HeadKind}
use Rattle.expr_tails.specs.declared.states.HeadKind.TheVariants as head
use Rattle.expr_tails.specs.declared.states.Limit.{Limit}
use Rattle.expr_tails.specs.declared.states.State.{State}
use Rattle.expr_tails.specs.declared.states.Tail.{Tail}
use Rattle.expr_tails.specs.declared.states.Tail.TheVariants as tail
use Rattle.expr_tails.specs.declared.states.TypedOf.{TypedOf}
use Rattle.expr_tails.specs.declared.states.TypedOf.TheVariants as typed_of
use Rattle.expr_frames.specs.Generators.{nothing_yet}
use Rattle.expr_tails.specs.Tails.{from_start, no_operand}

abbrev pub no_span : Span
no_span = from_start 0 0

abbrev pub bare_operation : Operation → Operation
bare_operation op = record { left = no_operand; name = record { text = []; span = no_span }; level = op.level; right = op.right }

abbrev pub bare_kind : HeadKind → HeadKind
bare_kind (head.Lambda kids) = head.Lambda None
bare_kind (head.IfThen kids) = head.IfThen None
bare_kind (head.IfElse kids) = head.IfElse None
bare_kind (head.WhileDo kids) = head.WhileDo None
bare_kind head.Do = head.Do
bare_kind head.Try = head.Try
bare_kind (head.Finally kids) = head.Finally None
bare_kind (head.For gens yields) = head.For [] yields
bare_kind head.Throw = head.Throw
bare_kind head.Return = head.Return
bare_kind (head.Assign left) = head.Assign None
bare_kind (head.Update receiver args) = head.Update None None

abbrev pub bare_head : Head → Head
bare_head h = record { start = 0; kind = bare_kind h.kind; free = []; reach = h.reach }

abbrev pub no_element : Element → Element
no_element e = element.Plain None []

abbrev pub not_begun : Begun
not_begun = record { start = 0; kids = None }

abbrev pub bare_typed : TypedOf → TypedOf
bare_typed (typed_of.Infix operand) = typed_of.Infix no_operand
bare_typed of = of

abbrev pub bare_tail : Tail → Tail
bare_tail (tail.AtGroup group) =
    tail.AtGroup (record { span = no_span; elements = map no_element group.elements; may_be_head = group.may_be_head })
bare_tail (tail.AtPrim operand form) = tail.AtPrim no_operand form
bare_tail (tail.AtCall call) = tail.AtCall (record { span = no_span; receiver = None; args = None })
bare_tail (tail.AtDot operand point) = tail.AtDot no_operand point
bare_tail (tail.AtNew new) = tail.AtNew (record { span = no_span; kids = None })
bare_tail (tail.InTypes begun ty) = tail.InTypes not_begun ty
bare_tail (tail.InTyped of ty) = tail.InTyped (bare_typed of) ty
bare_tail (tail.AtMatch operand) = tail.AtMatch no_operand
bare_tail (tail.AtUntil begun) = tail.AtUntil not_begun
bare_tail (tail.AtCatch begun) = tail.AtCatch not_begun
bare_tail (tail.AtCaught begun end) = tail.AtCaught not_begun 0
bare_tail (tail.AtEnded operand) = tail.AtEnded no_operand
bare_tail (tail.AtSemi operand is_one) = tail.AtSemi no_operand is_one
bare_tail at = at

abbrev pub context_of : List Head → List Operation → Option Name → Tail → Limit → Context
context_of heads operations sign at limit =
    record { heads = heads; free = []; operations = operations; sign = sign; tail = at; limit = limit }

abbrev pub bare_context : Context → Context
bare_context c = context_of (map bare_head c.heads) (map bare_operation c.operations) c.sign (bare_tail c.tail) c.limit

abbrev pub bare_bracket : Bracket → Bracket
bare_bracket (bracket.Group elements may_be_head) = bracket.Group (map no_element elements) may_be_head
bare_bracket (bracket.Args receiver kids any) = bracket.Args None None any
bare_bracket (bracket.NewArgs kids any) = bracket.NewArgs None any
bare_bracket bracket.IfTest = bracket.IfTest
bare_bracket bracket.WhileTest = bracket.WhileTest
bare_bracket (bracket.DoTest kids) = bracket.DoTest None
bare_bracket (bracket.Generators gens part) = bracket.Generators [] nothing_yet

abbrev pub bare_frame : Frame → Frame
bare_frame f = record { bracket = bare_bracket f.bracket; start = 0; outer = bare_context f.outer }

abbrev pub bare : State → State
bare s = record { frames = map bare_frame s.frames; context = bare_context s.context }

-- ---- what is bare stays so

pub map-twice : {A : Type 0} (f : A → A) → ((a : A) → f (f a) ≡ f a) → (xs : List A) → map f (map f xs) ≡ map f xs
map-twice f e [] = refl
map-twice f e (x ∷ xs) = ap (λ b. b ∷ map f (map f xs)) (e x) ∙ ap (λ bs. f x ∷ bs) (map-twice f e xs)

pub kind-twice : (k : HeadKind) → bare_kind (bare_kind k) ≡ bare_kind k
kind-twice (head.For gens yields) = refl
kind-twice _ = refl

pub heads-twice : (hs : List Head) → map bare_head (map bare_head hs) ≡ map bare_head hs
heads-twice hs = map-twice bare_head (λ h. ap (λ k. record { start = 0; kind = k; free = []; reach = h.reach }) (kind-twice h.kind)) hs

pub operations-twice : (ops : List Operation) → map bare_operation (map bare_operation ops) ≡ map bare_operation ops
operations-twice ops = map-twice bare_operation (λ op. refl) ops

pub elements-twice : (es : List Element) → map no_element (map no_element es) ≡ map no_element es
elements-twice es = map-twice no_element (λ e. refl) es

pub group-same : (es fs : List Element) (b : Bool) → map no_element es ≡ map no_element fs
    → bare_tail (tail.AtGroup (record { span = no_span; elements = es; may_be_head = b })) ≡ bare_tail (tail.AtGroup (record { span = no_span; elements = fs; may_be_head = b }))
group-same es fs b e = ap (λ gs. tail.AtGroup (record { span = no_span; elements = gs; may_be_head = b })) e

pub typed-twice : (of : TypedOf) → bare_typed (bare_typed of) ≡ bare_typed of
typed-twice (typed_of.Infix operand) = refl
typed-twice _ = refl

pub tail-twice : (t : Tail) → bare_tail (bare_tail t) ≡ bare_tail t
tail-twice (tail.AtGroup group) = group-same (map no_element group.elements) group.elements group.may_be_head (elements-twice group.elements)
tail-twice (tail.InTyped of ty) = ap (λ o. tail.InTyped o ty) (typed-twice of)
tail-twice _ = refl

-- contexts are alike where their parts are
pub parts-same : (hs ks : List Head) (os ps : List Operation) (s : Option Name) (t u : Tail) (l : Limit)
    → map bare_head hs ≡ map bare_head ks → map bare_operation os ≡ map bare_operation ps → bare_tail t ≡ bare_tail u
    → bare_context (context_of hs os s t l) ≡ bare_context (context_of ks ps s u l)
parts-same hs ks os ps s t u l h o e =
    ap (λ x. context_of x (map bare_operation os) s (bare_tail t) l) h
    ∙ ap (λ x. context_of (map bare_head ks) x s (bare_tail t) l) o
    ∙ ap (λ x. context_of (map bare_head ks) (map bare_operation ps) s x l) e

-- the same heads and operations, with other tails
pub around-same : (c : Context) (s : Option Name) (t u : Tail) (l : Limit) → bare_tail t ≡ bare_tail u
    → bare_context (context_of c.heads c.operations s t l) ≡ bare_context (context_of (map bare_head c.heads) (map bare_operation c.operations) s u l)
around-same c s t u l e =
    parts-same c.heads (map bare_head c.heads) c.operations (map bare_operation c.operations) s t u l
    (sym (heads-twice c.heads)) (sym (operations-twice c.operations)) e

pub context-twice : (c : Context) → bare_context (bare_context c) ≡ bare_context c
context-twice c = sym (around-same c c.sign c.tail (bare_tail c.tail) c.limit (sym (tail-twice c.tail)))

bracket-twice : (b : Bracket) → bare_bracket (bare_bracket b) ≡ bare_bracket b
bracket-twice (bracket.Group elements may_be_head) = ap (λ es. bracket.Group es may_be_head) (elements-twice elements)
bracket-twice _ = refl

pub frame-same : (b d : Bracket) (c e : Context) → bare_bracket b ≡ bare_bracket d → bare_context c ≡ bare_context e
    → bare_frame (record { bracket = b; start = 0; outer = c }) ≡ bare_frame (record { bracket = d; start = 0; outer = e })
frame-same b d c e p q =
    ap (λ x. record { bracket = x; start = 0; outer = bare_context c }) p ∙ ap (λ x. record { bracket = bare_bracket d; start = 0; outer = x }) q

frame-twice : (f : Frame) → bare_frame (bare_frame f) ≡ bare_frame f
frame-twice f = frame-same (bare_bracket f.bracket) f.bracket (bare_context f.outer) f.outer (bracket-twice f.bracket) (context-twice f.outer)

pub frames-twice : (fs : List Frame) → map bare_frame (map bare_frame fs) ≡ map bare_frame fs
frames-twice fs = map-twice bare_frame frame-twice fs

pub state-same : (fs gs : List Frame) (c d : Context) → map bare_frame fs ≡ map bare_frame gs → bare_context c ≡ bare_context d
    → bare (record { frames = fs; context = c }) ≡ bare (record { frames = gs; context = d })
state-same fs gs c d p q =
    ap (λ x. record { frames = x; context = bare_context c }) p ∙ ap (λ x. record { frames = map bare_frame gs; context = x }) q

-- ---- choices

pub choice-same : {A B : Type 0} (f : A → B) (b d : Bool) (x y u v : A) → b ≡ d → f x ≡ f u → f y ≡ f v
    → f (if b then x else y) ≡ f (if d then u else v)
choice-same f b d x y u v e p q = ap (λ z. f (if z then x else y)) e ∙ go d where
  go : (z : Bool) → f (if z then x else y) ≡ f (if z then u else v)
  go true = p
  go false = q
