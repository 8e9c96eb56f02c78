-- What the machine of expressions does with its open brackets is, bare, the same of the bare ones.
use Rattle.std.proofs.Common.{◌≡◌, ℕ, Bool, true, false, ◌&&◌, if◌then◌else◌, List, [], ◌∷◌, ◌++◌, map, Option, Some, None, option_map, refl, ap, ◌∙◌, sym}
use Rattle.std.specs.Prelude.{nat_le}
use Rattle.pc_terms.specs.declared.problems.Span.{Span}
use Rattle.scan_tokens.specs.declared.tokens.Newline.{Newline}
use Rattle.source_grammar.specs.Lexemes.{Lexeme}
use Rattle.parse_parts.specs.Built.{no_kids}
use Rattle.parse_patterns.specs.Steps as patterns
use Rattle.parse_patterns.specs.Steps.{is_no}
use Rattle.parse_patterns.specs.declared.states.State.{State as PatternState}
use Rattle.tree_lower.specs.declared.comprehensions.Generator.{Generator}
use Rattle.expr_tails.specs.declared.states.Bracket.{Bracket}
use Rattle.expr_tails.specs.declared.states.Bracket.TheVariants as bracket
use Rattle.expr_tails.specs.declared.states.Context.{Context}
use Rattle.expr_tails.specs.declared.states.Element.{Element}
use Rattle.expr_tails.specs.declared.states.Form.TheVariants as form
use Rattle.expr_tails.specs.declared.states.Frame.{Frame}
use Rattle.expr_tails.specs.declared.states.HeadKind.{HeadKind}
use Rattle.expr_tails.specs.declared.states.HeadKind.TheVariants as head
use Rattle.expr_tails.specs.declared.states.Limit.TheVariants as limit
use Rattle.expr_tails.specs.declared.states.Part.{Part}
use Rattle.expr_tails.specs.declared.states.State.{State}
use Rattle.expr_tails.specs.declared.states.Tail.{Tail}
use Rattle.expr_tails.specs.declared.states.Tail.TheVariants as tail
use Rattle.expr_tails.specs.declared.symbols.Symbol.{Symbol}
use Rattle.expr_tails.specs.declared.symbols.Symbol.TheVariants as symbol
use Rattle.expr_tails.specs.Ending.{at_tail, fresh, is_expr, expr_at, may_head}
use Rattle.expr_tails.specs.Tails.{from_start, no_operand}
use Rattle.expr_frames.specs.Frames.{args_opened, asked, closed_frame, closed_in, closed_list, element_at, has_room, in_state, inner_context, is_param, is_untouched, left_context, limit_in, may_be_empty, may_stand, opened, parted, parted_in, round_closed, round_opened, takes_args, waiting_opened, with_element}
use Rattle.expr_frames.specs.Generators.{arrowed, arrowed_in, finished, generators_frame, guarded, guarded_in, in_pattern, is_ended, is_generator_token, is_guard, nothing_yet, pattern_on, with_from, with_guard, with_last, with_pattern, chain_of}
use Rattle.expr_frames.specs.Heads.{with_head}
use Rattle.shape_laws.proofs.Asked.{args-same, empty-same, expr-same, head-same, length-same, param-same, room-same, stand-same, untouched-same}
use Rattle.shape_laws.proofs.Bare.{bare, bare_bracket, bare_context, bare_frame, bare_kind, bare_tail, choice-same, context-twice, elements-twice, frame-same, frames-twice, no_element, no_span, state-same}
use Rattle.shape_laws.proofs.Contexts.{bare_option, at-same, head-on}

abbrev pub stated : Option State → Option State
stated o = option_map bare o

state-of : (fs : List Frame) (o : Option Context) → stated (in_state fs o) ≡ in_state (map bare_frame fs) (bare_option o)
state-of fs None = refl
state-of fs (Some c) = refl

pub in-state : (fs : List Frame) (o p : Option Context) → bare_option o ≡ bare_option p → stated (in_state fs o) ≡ stated (in_state (map bare_frame fs) p)
in-state fs o p e =
    state-of fs o ∙ ap (in_state (map bare_frame fs)) e ∙ ap (λ gs. in_state gs (bare_option p)) (sym (frames-twice fs)) ∙ sym (state-of (map bare_frame fs) p)

abbrev pub framed : Bracket → ℕ → Context → List Frame → Context → State
framed b start outer fs c = record { frames = record { bracket = b; start = start; outer = outer } ∷ fs; context = c }

framed-same : (b d : Bracket) (start begin : ℕ) (o p : Context) (fs : List Frame) (c e : Context) → bare_bracket b ≡ bare_bracket d → bare_context o ≡ bare_context p → bare_context c ≡ bare_context e
    → stated (Some (framed b start o fs c)) ≡ stated (Some (framed d begin p (map bare_frame fs) e))
framed-same b d start begin o p fs c e x y z =
    ap Some (ap (λ f. record { frames = f ∷ map bare_frame fs; context = bare_context c }) (frame-same b d o p x y)
    ∙ ap (λ gs. record { frames = bare_frame (record { bracket = d; start = begin; outer = p }) ∷ gs; context = bare_context c }) (sym (frames-twice fs))
    ∙ ap (λ n. record { frames = bare_frame (record { bracket = d; start = begin; outer = p }) ∷ map bare_frame (map bare_frame fs); context = n }) z)

-- ---- opening

waiting-same : (fs : List Frame) (c : Context) (t : Tail) (joined : Bool) → stated (waiting_opened fs c t joined) ≡ stated (waiting_opened (map bare_frame fs) (bare_context c) (bare_tail t) joined)
waiting-same fs c (tail.AtAsker asker start) joined =
    framed-same (asked asker) (asked asker) start start (at_tail c tail.Begin) (at_tail (bare_context c) tail.Begin) fs (inner_context (asked asker)) (inner_context (asked asker))
    refl (at-same c tail.Begin tail.Begin refl) refl
waiting-same fs c (tail.AtUntil begun) joined =
    framed-same (bracket.DoTest begun.kids) (bracket.DoTest None) begun.start 0 (at_tail c tail.Begin) (at_tail (bare_context c) tail.Begin) fs (fresh limit.Expr) (fresh limit.Expr)
    refl (at-same c tail.Begin tail.Begin refl) refl
waiting-same fs c (tail.AtNew new) true =
    framed-same (bracket.NewArgs new.kids false) (bracket.NewArgs None false) new.span.start 0 (at_tail c tail.Begin) (at_tail (bare_context c) tail.Begin) fs (fresh limit.Expr) (fresh limit.Expr)
    refl (at-same c tail.Begin tail.Begin refl) refl
waiting-same fs c (tail.AtNew new) false = refl
waiting-same fs c _ joined = refl

pub opened-same : (fs : List Frame) (c : Context) (start : ℕ) (before : Newline) → stated (round_opened fs c start before) ≡ stated (round_opened (map bare_frame fs) (bare_context c) start before)
opened-same fs c start before =
    choice-same stated (takes_args c) (takes_args (bare_context c)) _ _ _ _ (args-same c)
    (choice-same stated (is_no before) (is_no before) (Some (args_opened fs c)) None (Some (args_opened (map bare_frame fs) (bare_context c))) None refl as-args refl)
    (choice-same stated (may_stand c before) (may_stand (bare_context c) before)
    (Some (opened fs (bracket.Group [] (may_head c)) start c)) (waiting_opened fs c c.tail (is_no before))
    (Some (opened (map bare_frame fs) (bracket.Group [] (may_head (bare_context c))) start (bare_context c))) (waiting_opened (map bare_frame fs) (bare_context c) (bare_tail c.tail) (is_no before))
    (stand-same c before) as-group (waiting-same fs c c.tail (is_no before)))
  where
    as-args : stated (Some (args_opened fs c)) ≡ stated (Some (args_opened (map bare_frame fs) (bare_context c)))
    as-args =
        framed-same (bracket.Args None no_kids false) (bracket.Args None no_kids false) 0 0 (left_context c) (left_context (bare_context c)) fs (fresh limit.Expr) (fresh limit.Expr)
        refl (at-same c tail.Begin tail.Begin refl) refl

    as-group : stated (Some (opened fs (bracket.Group [] (may_head c)) start c)) ≡ stated (Some (opened (map bare_frame fs) (bracket.Group [] (may_head (bare_context c))) start (bare_context c)))
    as-group =
        framed-same (bracket.Group [] (may_head c)) (bracket.Group [] (may_head (bare_context c))) start start c (bare_context c) fs (fresh limit.Expr) (fresh limit.Expr)
        (ap (bracket.Group []) (head-same c)) (sym (context-twice c)) refl

-- ---- elements

added-same : (es : List Element) (a b : Element) → map no_element (es ++ a ∷ []) ≡ map no_element (map no_element es ++ b ∷ [])
added-same [] a b = refl
added-same (e ∷ es) a b = ap (λ xs. no_element e ∷ xs) (added-same es a b)

element-bracket : (b : Bracket) (outer c : Context) → bare_bracket (with_element b outer c).bracket ≡ bare_bracket (with_element (bare_bracket b) (bare_context outer) (bare_context c)).bracket
element-bracket (bracket.Group elements may_be_head) outer c =
    ap (λ es. bracket.Group es (may_be_head && is_param c)) (added-same elements (element_at c) (element_at (bare_context c)))
    ∙ ap (λ x. bracket.Group (map no_element (map no_element elements ++ element_at (bare_context c) ∷ [])) (may_be_head && x)) (param-same c)
element-bracket bracket.IfTest outer c = refl
element-bracket _ outer c = refl

element-outer : (b : Bracket) (outer c : Context) → bare_context (with_element b outer c).outer ≡ bare_context (with_element (bare_bracket b) (bare_context outer) (bare_context c)).outer
element-outer bracket.IfTest outer c = sym (context-twice outer)
element-outer _ outer c = sym (context-twice outer)

limit-same : (b : Bracket) → limit_in b ≡ limit_in (bare_bracket b)
limit-same (bracket.Group elements may_be_head) = ap (λ n. if nat_le 3 n then limit.Param else limit.Expr) (length-same elements)
limit-same _ = refl

limit-two : (b d : Bracket) → bare_bracket b ≡ bare_bracket d → limit_in b ≡ limit_in d
limit-two b d e = limit-same b ∙ ap limit_in e ∙ sym (limit-same d)

pub parted-same : (fs : List Frame) (c : Context) → stated (parted fs c) ≡ stated (parted (map bare_frame fs) (bare_context c))
parted-same [] c = refl
parted-same (f ∷ fs) c =
    choice-same stated (is_expr c && has_room f.bracket c) (is_expr (bare_context c) && has_room (bare_bracket f.bracket) (bare_context c))
    (Some (parted_in f fs c)) None (Some (parted_in (bare_frame f) (map bare_frame fs) (bare_context c))) None
    (ap (λ b. b && has_room f.bracket c) (expr-same c) ∙ ap (λ b. is_expr (bare_context c) && b) (room-same f.bracket c))
    (framed-same b d f.start 0 (with_element f.bracket f.outer c).outer (with_element (bare_bracket f.bracket) (bare_context f.outer) (bare_context c)).outer fs (fresh (limit_in b)) (fresh (limit_in d))
    (element-bracket f.bracket f.outer c) (element-outer f.bracket f.outer c) (ap (λ l. bare_context (fresh l)) (limit-two b d (element-bracket f.bracket f.outer c))))
    refl
  where
    b : Bracket
    b = (with_element f.bracket f.outer c).bracket

    d : Bracket
    d = (with_element (bare_bracket f.bracket) (bare_context f.outer) (bare_context c)).bracket

-- ---- closing

closed-one : (b : Bracket) (span : Span) (outer : Context) → bare_context (closed_list b span outer) ≡ bare_context (closed_list (bare_bracket b) no_span (bare_context outer))
closed-one (bracket.Group elements may_be_head) span outer =
    at-same outer (tail.AtGroup (record { span = span; elements = elements; may_be_head = may_be_head })) (tail.AtGroup (record { span = no_span; elements = map no_element elements; may_be_head = may_be_head }))
    (ap (λ es. tail.AtGroup (record { span = no_span; elements = es; may_be_head = may_be_head })) (sym (elements-twice elements)))
closed-one (bracket.Args receiver kids any) span outer =
    at-same outer (tail.AtCall (record { span = no_span; receiver = None; args = None })) (tail.AtCall (record { span = no_span; receiver = None; args = None })) refl
closed-one (bracket.NewArgs kids any) span outer = at-same outer (tail.AtPrim no_operand form.Plain) (tail.AtPrim no_operand form.Plain) refl
closed-one _ span outer = sym (context-twice outer)

closed-two : (b d : Bracket) (span place : Span) (o p : Context) → bare_bracket b ≡ bare_bracket d → bare_context o ≡ bare_context p → bare_context (closed_list b span o) ≡ bare_context (closed_list d place p)
closed-two b d span place o p x y =
    closed-one b span o ∙ ap (λ z. bare_context (closed_list z no_span (bare_context o))) x ∙ ap (λ z. bare_context (closed_list (bare_bracket d) no_span z)) y ∙ sym (closed-one d place p)

head-two : (c d : Context) (start begin : ℕ) (k : HeadKind) (j : HeadKind) → bare_context c ≡ bare_context d → bare_kind k ≡ bare_kind j → bare_context (with_head c start k) ≡ bare_context (with_head d begin j)
head-two c d start begin k j e h = head-on c start 0 k k refl ∙ ap (λ x. bare_context (with_head x 0 k)) e ∙ sym (head-on d begin 0 j k (sym h))

last-one : (part : Part) (outer c : Context) → bare_context (with_last part outer c).outer ≡ bare_context outer
last-one part outer c = go (is_guard c.limit) where
  go : (b : Bool) → bare_context (if b then with_guard part outer (chain_of c) else with_from part outer (expr_at c)).outer ≡ bare_context outer
  go true = refl
  go false = refl

-- what stands before the generators, with what is free in the last part
last-outer : (part : Part) (outer c : Context) → bare_context (with_last part outer c).outer ≡ bare_context (with_last nothing_yet (bare_context outer) (bare_context c)).outer
last-outer part outer c = last-one part outer c ∙ sym (context-twice outer) ∙ sym (last-one nothing_yet (bare_context outer) (bare_context c))

closed-within : (b : Bracket) (span place : Span) (outer c : Context) → bare_context (closed_in b span outer c) ≡ bare_context (closed_in (bare_bracket b) place (bare_context outer) (bare_context c))
closed-within bracket.IfTest span place outer c = head-on outer span.start place.start (head.IfThen None) (head.IfThen None) refl
closed-within bracket.WhileTest span place outer c = head-on outer span.start place.start (head.WhileDo None) (head.WhileDo None) refl
closed-within (bracket.DoTest kids) span place outer c = at-same outer (tail.AtEnded no_operand) (tail.AtEnded no_operand) refl
closed-within (bracket.Generators gens part) span place outer c =
    head-two (with_last part outer c).outer (with_last nothing_yet (bare_context outer) (bare_context c)).outer span.start place.start (head.For (finished gens part outer c).generators false) (head.For (finished [] nothing_yet (bare_context outer) (bare_context c)).generators false)
    (last-outer part outer c) refl
closed-within b span place outer c =
    closed-two (with_element b outer c).bracket (with_element (bare_bracket b) (bare_context outer) (bare_context c)).bracket span place
    (with_element b outer c).outer (with_element (bare_bracket b) (bare_context outer) (bare_context c)).outer (element-bracket b outer c) (element-outer b outer c)

closed-frame : (f : Frame) (c : Context) (end : ℕ) → bare_option (closed_frame f c end) ≡ bare_option (closed_frame (bare_frame f) (bare_context c) end)
closed-frame f c end =
    choice-same bare_option (may_be_empty f.bracket && is_untouched c) (may_be_empty (bare_bracket f.bracket) && is_untouched (bare_context c)) _ _ _ _
    (ap (λ b. b && is_untouched c) (empty-same f.bracket) ∙ ap (λ b. may_be_empty (bare_bracket f.bracket) && b) (untouched-same c))
    (ap Some (closed-one f.bracket (from_start f.start end) f.outer ∙ sym (closed-two (bare_bracket f.bracket) (bare_bracket f.bracket) (from_start 0 end) no_span (bare_context f.outer) (bare_context f.outer) refl refl)))
    (choice-same bare_option (is_expr c) (is_expr (bare_context c)) _ _ _ _ (expr-same c) (ap Some (closed-within f.bracket (from_start f.start end) (from_start 0 end) f.outer c)) refl)

pub closed-same : (fs : List Frame) (c : Context) (end : ℕ) → stated (round_closed fs c end) ≡ stated (round_closed (map bare_frame fs) (bare_context c) end)
closed-same [] c end = refl
closed-same (f ∷ fs) c end = in-state fs (closed_frame f c end) (closed_frame (bare_frame f) (bare_context c) end) (closed-frame f c end)

-- ---- generators

arrowed-within : (b : Bracket) (start : ℕ) (outer : Context) (fs : List Frame) (p : PatternState) → stated (arrowed_in b start outer fs p) ≡ stated (arrowed_in (bare_bracket b) 0 (bare_context outer) (map bare_frame fs) p)
arrowed-within (bracket.Generators gens part) start outer fs p =
    framed-same (bracket.Generators gens (with_pattern part p)) (bracket.Generators [] (with_pattern nothing_yet p)) start 0 outer (bare_context outer) fs (fresh limit.Expr) (fresh limit.Expr)
    refl (sym (context-twice outer)) refl
arrowed-within _ start outer fs p = refl

arrowed-same : (fs : List Frame) (p : PatternState) → stated (arrowed fs p) ≡ stated (arrowed (map bare_frame fs) p)
arrowed-same [] p = refl
arrowed-same (f ∷ fs) p = choice-same stated (is_ended p) (is_ended p) _ _ _ _ refl (arrowed-within f.bracket f.start f.outer fs p) refl

pattern-on : (fs : List Frame) (p : PatternState) (s : Symbol) (x : Lexeme) → stated (pattern_on fs p s x) ≡ stated (pattern_on (map bare_frame fs) p s x)
pattern-on fs p s x =
    choice-same stated (is_generator_token p s x && patterns.admits p x) (is_generator_token p s x && patterns.admits p x)
    (Some (record { frames = fs; context = next })) None (Some (record { frames = map bare_frame fs; context = next })) None refl
    (ap Some (state-same fs (map bare_frame fs) next next (sym (frames-twice fs)) refl)) refl
  where
    next : Context
    next = at_tail (fresh limit.Expr) (tail.InPattern (patterns.advanced p x))

pub pattern-same : (fs : List Frame) (p : PatternState) (s : Symbol) (x : Lexeme) → stated (in_pattern fs p s x) ≡ stated (in_pattern (map bare_frame fs) p s x)
pattern-same fs p symbol.BackArrow x = arrowed-same fs p
pattern-same fs p s x = pattern-on fs p s x

pub pattern-two : (fs gs : List Frame) (p : PatternState) (s : Symbol) (x : Lexeme) → map bare_frame fs ≡ map bare_frame gs → stated (in_pattern fs p s x) ≡ stated (in_pattern gs p s x)
pattern-two fs gs p s x e = pattern-same fs p s x ∙ ap (λ hs. stated (in_pattern hs p s x)) e ∙ sym (pattern-same gs p s x)

guarded-within : (b : Bracket) (start : ℕ) (outer : Context) (fs : List Frame) (c : Context)
    → stated (guarded_in b start outer fs c) ≡ stated (guarded_in (bare_bracket b) 0 (bare_context outer) (map bare_frame fs) (bare_context c))
guarded-within (bracket.Generators gens part) start outer fs c =
    framed-same (bracket.Generators gens (with_last part outer c).part) (bracket.Generators [] (with_last nothing_yet (bare_context outer) (bare_context c)).part) start 0
    (with_last part outer c).outer (with_last nothing_yet (bare_context outer) (bare_context c)).outer fs (fresh limit.Guard) (fresh limit.Guard)
    refl (last-outer part outer c) refl
guarded-within _ start outer fs c = refl

pub guarded-same : (fs : List Frame) (c : Context) → stated (guarded fs c) ≡ stated (guarded (map bare_frame fs) (bare_context c))
guarded-same [] c = refl
guarded-same (f ∷ fs) c = guarded-within f.bracket f.start f.outer fs c

-- the frames before the pattern of the next generator
pub next-frames : (gens others : List Generator) (part : Part) (start : ℕ) (outer : Context) (fs : List Frame) (c : Context)
    → map bare_frame (generators_frame gens nothing_yet start (with_last part outer c).outer ∷ fs)
    ≡ map bare_frame (generators_frame others nothing_yet 0 (with_last nothing_yet (bare_context outer) (bare_context c)).outer ∷ map bare_frame fs)
next-frames gens others part start outer fs c =
    ap (λ o. record { bracket = bracket.Generators [] nothing_yet; start = 0; outer = o } ∷ map bare_frame fs) (last-outer part outer c)
    ∙ ap (λ gs. bare_frame (generators_frame others nothing_yet 0 (with_last nothing_yet (bare_context outer) (bare_context c)).outer) ∷ gs) (sym (frames-twice fs))
