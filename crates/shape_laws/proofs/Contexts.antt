-- What the machine of expressions makes of a context is, bare, the same of its bare one.
use Rattle.std.proofs.Common.{◌≡◌, ℕ, Bool, true, false, ◌&&◌, if◌then◌else◌, List, [], ◌∷◌, map, Option, Some, None, option_map, refl, ap, ◌∙◌, sym}
use Rattle.std.specs.Prelude.{not}
use Rattle.pc_terms.specs.declared.problems.Span.{Span}
use Rattle.positioned_trees.specs.declared.details.Name.{Name}
use Rattle.scan_tokens.specs.declared.tokens.Newline.{Newline}
use Rattle.source_grammar.specs.Lexemes.{Lexeme}
use Rattle.source_grammar.specs.Precedence.{precedence, is_right}
use Rattle.parse_parts.specs.declared.states.State.{State as TypeState}
use Rattle.parse_parts.specs.Reading.{begun as type_begun}
use Rattle.parse_patterns.specs.Steps.{is_no}
use Rattle.parse_patterns.specs.Operators.{goes_first}
use Rattle.parse_patterns.specs.declared.states.Operand.{Operand}
use Rattle.parse_patterns.specs.declared.states.Operation.{Operation}
use Rattle.expr_tails.specs.declared.states.Asker.TheVariants as asker
use Rattle.expr_tails.specs.declared.states.Begun.{Begun}
use Rattle.expr_tails.specs.declared.states.Context.{Context}
use Rattle.expr_tails.specs.declared.states.Form.TheVariants as form
use Rattle.expr_tails.specs.declared.states.Frame.{Frame}
use Rattle.expr_tails.specs.declared.states.Head.{Head}
use Rattle.expr_tails.specs.declared.states.HeadKind.{HeadKind}
use Rattle.expr_tails.specs.declared.states.HeadKind.TheVariants as head
use Rattle.expr_tails.specs.declared.states.Limit.{Limit}
use Rattle.expr_tails.specs.declared.states.Reach.{Reach}
use Rattle.expr_tails.specs.declared.states.Tail.{Tail}
use Rattle.expr_tails.specs.declared.states.Tail.TheVariants as tail
use Rattle.expr_tails.specs.declared.states.TypedOf.TheVariants as typed_of
use Rattle.expr_tails.specs.declared.symbols.Symbol.{Symbol}
use Rattle.expr_tails.specs.declared.symbols.Symbol.TheVariants as symbol
use Rattle.expr_tails.specs.declared.symbols.Word.{Word}
use Rattle.expr_tails.specs.declared.symbols.Word.TheVariants as word
use Rattle.expr_tails.specs.declared.tails.Ready.{Ready}
use Rattle.expr_tails.specs.Ending.{at_tail, signed_at, headed, is_first, is_expr_limit, is_semi, may_head}
use Rattle.expr_tails.specs.Operators.{folded, over}
use Rattle.expr_tails.specs.Symbols.{begins_expr}
use Rattle.expr_tails.specs.Tails.{is_operand, select_hole, no_operand}
use Rattle.expr_frames.specs.Frames.{left}
use Rattle.expr_frames.specs.Generators.{chain_of, ends_part, guard_separated, is_guard, separated}
use Rattle.expr_frames.specs.Heads.{reach_of, reach_with, with_head, in_context, takes, behind_head, behind_taken, behind_caught, taken, is_caught, is_finally, is_taken, with_word, with_semicolon}
use Rattle.expr_steps.specs.Steps.{when, is_id, is_number, is_minus, follows_sign, signed_by, sign_decided, dot_decided, decided_at, decided, with_type, applied, types_on, named_tail, name_of, operated, name_behind, on_id, literal, on_literal, negated, number_at, eta, on_underscore, may_begin_name, may_operate, may_go_on, dotted, dotted_at, types_begun, on_open_square, chain_left, typed_infix, is_name_or_wild_tail, typed_name, typed_from, on_colon, matched, on_match, equals_at, on_equals, params_at, lambda, on_arrow, with_heads, yields_head, yielding_by, yielding_at, yielding, may_begin, begun_with, begins, prim_tail, prim_word, word_at, taken_or, is_crossed, on_semicolon}
use Rattle.shape_laws.proofs.Asked.{reach-same, begin-name, operate-same, stand-same, underscore-same, go-on, first-same, name-or-wild, typed-may, operand-same, head-same, lambda-head, may-begin, taken-same, caught-same, semi-same, crossed-same, ends-part as part-ends}
use Rattle.shape_laws.proofs.Bare.{bare_context, bare_tail, bare_head, bare_kind, bare_operation, bare_frame, context_of, not_begun, parts-same, around-same, heads-twice, operations-twice, tail-twice, choice-same}

abbrev pub bare_option : Option Context → Option Context
bare_option o = option_map bare_context o

pub at-same : (c : Context) (t u : Tail) → bare_tail t ≡ bare_tail u → bare_context (at_tail c t) ≡ bare_context (at_tail (bare_context c) u)
at-same c t u e = around-same c c.sign t u c.limit e

pub some-at : (c : Context) (t u : Tail) → bare_tail t ≡ bare_tail u → bare_option (Some (at_tail c t)) ≡ bare_option (Some (at_tail (bare_context c) u))
some-at c t u e = ap Some (at-same c t u e)

pub when-same : (b d : Bool) (c e : Context) → b ≡ d → bare_context c ≡ bare_context e → bare_option (when b c) ≡ bare_option (when d e)
when-same b d c e p q = choice-same bare_option b d (Some c) None (Some e) None p (ap Some q) refl

-- the heads alone stay
heads-alone : (hs : List Head) (t u : Tail) (l : Limit) → bare_tail t ≡ bare_tail u
    → bare_context (context_of hs [] None t l) ≡ bare_context (context_of (map bare_head hs) [] None u l)
heads-alone hs t u l e = parts-same hs (map bare_head hs) [] [] None t u l (sym (heads-twice hs)) refl e

-- ---- heads

kind-reach : (r : Reach) (k : HeadKind) → reach_with r k ≡ reach_with r (bare_kind k)
kind-reach r head.Try = refl
kind-reach r _ = refl

abbrev pub bare_made : HeadKind → Reach → Head
bare_made k r = record { start = 0; kind = k; free = []; reach = r }

pub head-on : (c : Context) (start begin : ℕ) (k j : HeadKind) → bare_kind k ≡ bare_kind j
    → bare_context (with_head c start k) ≡ bare_context (with_head (bare_context c) begin j)
head-on c start begin k j e =
    parts-same (with_head c start k).heads (with_head (bare_context c) begin j).heads c.operations (map bare_operation c.operations) c.sign tail.Begin tail.Begin c.limit
    (ap (λ h. h ∷ map bare_head c.heads) made ∙ ap (λ hs. bare_made (bare_kind j) (reach_with (reach_of (map bare_head c.heads)) j) ∷ hs) (sym (heads-twice c.heads)))
    (sym (operations-twice c.operations)) refl
  where
    reaches : reach_with (reach_of c.heads) k ≡ reach_with (reach_of (map bare_head c.heads)) j
    reaches =
        ap (λ r. reach_with r k) (reach-same c.heads) ∙ kind-reach (reach_of (map bare_head c.heads)) k
        ∙ ap (reach_with (reach_of (map bare_head c.heads))) e ∙ sym (kind-reach (reach_of (map bare_head c.heads)) j)

    made : bare_made (bare_kind k) (reach_with (reach_of c.heads) k) ≡ bare_made (bare_kind j) (reach_with (reach_of (map bare_head c.heads)) j)
    made = ap (λ x. bare_made x (reach_with (reach_of c.heads) k)) e ∙ ap (λ r. bare_made (bare_kind j) r) reaches

-- ---- what the next token decides

signed-same : (c : Context) (o : Option Name) (name : Name) → bare_context (signed_by c o name) ≡ bare_context (signed_by (bare_context c) o name)
signed-same c None name = around-same c (Some name) tail.Begin tail.Begin c.limit refl
signed-same c (Some sign) name = at-same c (tail.AtName name true) (tail.AtName name true) refl

sign-same : (c : Context) (name : Name) (s : Symbol) (before : Newline) → bare_context (sign_decided c name s before) ≡ bare_context (sign_decided (bare_context c) name s before)
sign-same c name s before = go (follows_sign c.limit s before) (is_number s && is_minus name) where
  go : (b d : Bool)
      → bare_context (if not b then at_tail c (tail.AtName name true) else (if d then at_tail c (tail.AtSign name) else signed_by c c.sign name))
      ≡ bare_context (if not b then at_tail (bare_context c) (tail.AtName name true) else (if d then at_tail (bare_context c) (tail.AtSign name) else signed_by (bare_context c) c.sign name))
  go false d = at-same c (tail.AtName name true) (tail.AtName name true) refl
  go true true = at-same c (tail.AtSign name) (tail.AtSign name) refl
  go true false = signed-same c c.sign name

dot-same : (a b : Operand) (point : Span) (s : Symbol) → bare_tail (dot_decided a point s) ≡ bare_tail (dot_decided b point s)
dot-same a b point s = go (is_id s) where
  go : (d : Bool) → bare_tail (if d then tail.AtDot a point else tail.AtPrim (select_hole a point.end) form.Hole) ≡ bare_tail (if d then tail.AtDot b point else tail.AtPrim (select_hole b point.end) form.Hole)
  go true = refl
  go false = refl

decided-tail : (t : Tail) (c : Context) (s : Symbol) (before : Newline) → bare_context (decided_at t c s before) ≡ bare_context (decided_at (bare_tail t) (bare_context c) s before)
decided-tail (tail.AtSign name) c s before = sign-same c name s before
decided-tail (tail.InNew start end ty) c s before = at-same c _ _ refl
decided-tail (tail.AtDot receiver point) c s before = at-same c _ _ (dot-same receiver no_operand point s)
decided-tail (tail.AtReturn span) c s before = go (is_no before && begins_expr s) where
  go : (b : Bool) → bare_context (if b then with_head c span.start head.Return else at_tail c (tail.AtReturn span)) ≡ bare_context (if b then with_head (bare_context c) span.start head.Return else at_tail (bare_context c) (tail.AtReturn span))
  go true = head-on c span.start span.start head.Return head.Return refl
  go false = at-same c (tail.AtReturn span) (tail.AtReturn span) refl
decided-tail t c s before = at-same c t (bare_tail t) (sym (tail-twice t))

pub decided-same : (c : Context) (s : Symbol) (before : Newline) → bare_context (decided c s before) ≡ bare_context (decided (bare_context c) s before)
decided-same c s before = decided-tail c.tail c s before

-- ---- names and operands

folded-same : (ops : List Operation) (level : ℕ) (a b : Operand) → map bare_operation (folded ops level a).operations ≡ map bare_operation (folded (map bare_operation ops) level b).operations
folded-same [] level a b = refl
folded-same (op ∷ ops) level a b =
    choice-same (λ f. map bare_operation f.operations) (goes_first op level) (goes_first op level)
    (folded ops level (over op a)) (record { operations = op ∷ ops; last = a })
    (folded (map bare_operation ops) level (over (bare_operation op) b)) (record { operations = bare_operation op ∷ map bare_operation ops; last = b })
    refl (folded-same ops level (over op a) (over (bare_operation op) b)) (ap (λ os. bare_operation op ∷ os) (sym (operations-twice ops)))

operated-same : (c : Context) (name : Name) → bare_context (operated c name) ≡ bare_context (operated (bare_context c) name)
operated-same c name =
    parts-same c.heads (map bare_head c.heads) (operated c name).operations (operated (bare_context c) name).operations None tail.Begin tail.Begin c.limit
    (sym (heads-twice c.heads)) (ap (λ os. bare_operation (record { left = no_operand; name = name; level = precedence name.text; right = is_right name.text }) ∷ os)
    (folded-same c.operations (precedence name.text) (signed_at c.sign c.tail c.free).operand (signed_at c.sign (bare_tail c.tail) []).operand)) refl

behind-same : (t : Tail) (c : Context) (name : Name) → bare_option (name_behind t c name) ≡ bare_option (name_behind (bare_tail t) (bare_context c) name)
behind-same (tail.AtDot receiver point) c name = some-at c (tail.AtPrim no_operand form.Select) (tail.AtPrim no_operand form.Select) refl
behind-same (tail.AtSuperDot word) c name = some-at c (tail.AtPrim no_operand form.Plain) (tail.AtPrim no_operand form.Plain) refl
behind-same _ c name = refl

pub id-same : (c : Context) (x : Lexeme) → bare_option (on_id c x) ≡ bare_option (on_id (bare_context c) x)
id-same c x =
    choice-same bare_option (may_begin_name c x.place.before) (may_begin_name (bare_context c) x.place.before) _ _ _ _ (begin-name c x.place.before)
    (some-at c (named_tail x) (named_tail x) refl)
    (choice-same bare_option (may_operate c x.place.before x.word) (may_operate (bare_context c) x.place.before x.word) _ _ _ _ (operate-same c x.place.before x.word)
    (ap Some (operated-same c (name_of x))) (behind-same c.tail c (name_of x)))

pub literal-same : (c : Context) (x : Lexeme) → bare_option (on_literal c x) ≡ bare_option (on_literal (bare_context c) x)
literal-same c x = when-same _ _ _ _ (stand-same c x.place.before) (at-same c (literal x.word x.place.span) (literal x.word x.place.span) refl)

pub number-same : (t : Tail) (c : Context) (x : Lexeme) → bare_option (number_at t c x) ≡ bare_option (number_at (bare_tail t) (bare_context c) x)
number-same (tail.AtSign sign) c x = some-at c (negated sign x) (negated sign x) refl
number-same _ c x = literal-same c x

pub underscore-on : (c : Context) (before : Newline) (span : Span) → bare_option (on_underscore c before span) ≡ bare_option (on_underscore (bare_context c) before span)
underscore-on c before span =
    choice-same bare_option (may_begin_name c before) (may_begin_name (bare_context c) before) _ _ _ _ (begin-name c before)
    (some-at c (tail.AtWild span) (tail.AtWild span) refl)
    (when-same _ _ (eta (left c) span.end) (eta (left (bare_context c)) span.end) (underscore-same c before)
    (at-same c (tail.AtPrim no_operand form.Plain) (tail.AtPrim no_operand form.Plain) refl))

dotted-left : (c : Context) (span : Span) → bare_option (when (may_go_on c) (dotted (left c) span)) ≡ bare_option (when (may_go_on (bare_context c)) (dotted (left (bare_context c)) span))
dotted-left c span =
    when-same _ _ (dotted (left c) span) (dotted (left (bare_context c)) span) (go-on c) (at-same c (tail.AtDot no_operand span) (tail.AtDot no_operand span) refl)

pub dotted-same : (t : Tail) (c : Context) (span : Span) → bare_option (dotted_at t c span) ≡ bare_option (dotted_at (bare_tail t) (bare_context c) span)
dotted-same (tail.AtSuper word) c span = some-at c (tail.AtSuperDot word) (tail.AtSuperDot word) refl
dotted-same _ c span = dotted-left c span

pub square-same : (c : Context) → bare_option (on_open_square c) ≡ bare_option (on_open_square (bare_context c))
square-same c =
    when-same _ _ (types_begun (left c)) (types_begun (left (bare_context c))) (go-on c)
    (at-same c (tail.InTypes not_begun type_begun) (tail.InTypes not_begun type_begun) refl)

pub types-same : (c : Context) (a b : Begun) (ty : TypeState) (s : Symbol) (end : ℕ) → bare_option (types_on c a ty s end) ≡ bare_option (types_on (bare_context c) b ty s end)
types-same c a b ty symbol.Comma end = when-same _ _ _ _ refl (at-same c (tail.InTypes (with_type a ty) type_begun) (tail.InTypes (with_type b ty) type_begun) refl)
types-same c a b ty symbol.CloseSquare end = when-same _ _ _ _ refl (at-same c (applied (with_type a ty) end) (applied (with_type b ty) end) refl)
types-same c a b ty _ end = refl

-- ---- what ends an Infix

typed-name : (t : Tail) (c : Context) → bare_context (typed_name t c) ≡ bare_context (typed_name (bare_tail t) (bare_context c))
typed-name (tail.AtName name is_sign) c = at-same c (tail.InTyped (typed_of.Name name) type_begun) (tail.InTyped (typed_of.Name name) type_begun) refl
typed-name (tail.AtWild span) c = at-same c (tail.InTyped (typed_of.Wild span) type_begun) (tail.InTyped (typed_of.Wild span) type_begun) refl
typed-name t c = at-same c t (bare_tail t) (sym (tail-twice t))

typed-same : (c : Context) → bare_context (typed_from c) ≡ bare_context (typed_from (bare_context c))
typed-same c =
    choice-same bare_context (is_first c && is_name_or_wild_tail c.tail) (is_first (bare_context c) && is_name_or_wild_tail (bare_tail c.tail))
    (typed_name c.tail c) (typed_infix (chain_left c)) (typed_name (bare_tail c.tail) (bare_context c)) (typed_infix (chain_left (bare_context c)))
    (ap (λ b. b && is_name_or_wild_tail c.tail) (first-same c) ∙ ap (λ b. is_first (bare_context c) && b) (name-or-wild c.tail))
    (typed-name c.tail c)
    (heads-alone c.heads (tail.InTyped (typed_of.Infix no_operand) type_begun) (tail.InTyped (typed_of.Infix no_operand) type_begun) c.limit refl)

pub colon-same : (c : Context) → bare_option (on_colon c) ≡ bare_option (on_colon (bare_context c))
colon-same c = when-same _ _ (typed_from c) (typed_from (bare_context c)) (typed-may c) (typed-same c)

match-same : (c : Context) → bare_option (on_match c) ≡ bare_option (on_match (bare_context c))
match-same c =
    when-same (is_operand c.tail && is_expr_limit c.limit) (is_operand (bare_tail c.tail) && is_expr_limit c.limit) (matched (chain_left c)) (matched (chain_left (bare_context c)))
    (ap (λ b. b && is_expr_limit c.limit) (operand-same c.tail))
    (heads-alone c.heads (tail.AtMatch no_operand) (tail.AtMatch no_operand) c.limit refl)

-- ---- heads

equals-tail : (t : Tail) (c : Context) → bare_option (equals_at t c) ≡ bare_option (equals_at (bare_tail t) (bare_context c))
equals-tail (tail.AtName name is_sign) c = ap Some (head-on c name.span.start name.span.start (head.Assign None) (head.Assign None) refl)
equals-tail (tail.AtPrim operand form.Select) c = ap Some (head-on c operand.span.start 0 (head.Assign None) (head.Assign None) refl)
equals-tail (tail.AtCall call) c = ap Some (head-on c call.span.start 0 (head.Update None None) (head.Update None None) refl)
equals-tail _ c = refl

pub equals-same : (c : Context) → bare_option (on_equals c) ≡ bare_option (on_equals (bare_context c))
equals-same c = choice-same bare_option (may_head c) (may_head (bare_context c)) _ _ _ _ (head-same c) (equals-tail c.tail c) refl

pub arrow-same : (c : Context) → bare_option (on_arrow c) ≡ bare_option (on_arrow (bare_context c))
arrow-same c =
    when-same _ _ (lambda c (params_at c.tail)) (lambda (bare_context c) (params_at (bare_tail c.tail))) (lambda-head c)
    (head-on c 0 0 (head.Lambda None) (head.Lambda None) refl)

yields-by : (k : HeadKind) (c : Context) (hs : List Head) (h : Head)
    → bare_option (yielding_by k (with_heads c hs) h) ≡ bare_option (yielding_by (bare_kind k) (with_heads (bare_context c) (map bare_head hs)) (bare_head h))
yields-by (head.For gens true) c hs h = refl
yields-by (head.For gens false) c hs h =
    ap Some (parts-same (yields_head h.start gens h.free h.reach ∷ hs) (yields_head 0 [] [] h.reach ∷ map bare_head hs) c.operations (map bare_operation c.operations) c.sign c.tail (bare_tail c.tail) c.limit
    (ap (λ x. bare_made (head.For [] true) h.reach ∷ x) (sym (heads-twice hs))) (sym (operations-twice c.operations)) (sym (tail-twice c.tail)))
yields-by _ c hs h = refl

yields-at : (hs : List Head) (c : Context) → bare_option (yielding_at hs c) ≡ bare_option (yielding_at (map bare_head hs) (bare_context c))
yields-at [] c = refl
yields-at (h ∷ hs) c = yields-by h.kind c hs h

yield-same : (c : Context) → bare_option (yielding c) ≡ bare_option (yielding (bare_context c))
yield-same c = choice-same bare_option (may_begin c) (may_begin (bare_context c)) _ _ _ _ (may-begin c) (yields-at c.heads c) refl

begun-same : (w : Word) (c : Context) (span : Span) → bare_option (begun_with w c span) ≡ bare_option (begun_with w (bare_context c) span)
begun-same word.If c span = some-at c (tail.AtAsker asker.If span.start) (tail.AtAsker asker.If span.start) refl
begun-same word.While c span = some-at c (tail.AtAsker asker.While span.start) (tail.AtAsker asker.While span.start) refl
begun-same word.For c span = some-at c (tail.AtAsker asker.For span.start) (tail.AtAsker asker.For span.start) refl
begun-same word.Return c span = some-at c (tail.AtReturn span) (tail.AtReturn span) refl
begun-same word.Do c span = ap Some (head-on c span.start span.start head.Do head.Do refl)
begun-same word.Try c span = ap Some (head-on c span.start span.start head.Try head.Try refl)
begun-same word.Throw c span = ap Some (head-on c span.start span.start head.Throw head.Throw refl)
begun-same _ c span = refl

begins-same : (w : Word) (c : Context) (span : Span) → bare_option (begins w c span) ≡ bare_option (begins w (bare_context c) span)
begins-same w c span = choice-same bare_option (may_begin c) (may_begin (bare_context c)) _ _ _ _ (may-begin c) (begun-same w c span) refl

prim-same : (w : Word) (c : Context) (before : Newline) (span : Span) → bare_option (prim_word w c before span) ≡ bare_option (prim_word w (bare_context c) before span)
prim-same w c before span = when-same _ _ _ _ (stand-same c before) (at-same c (prim_tail w span) (prim_tail w span) refl)

word-at : (w : Word) (c : Context) (before : Newline) (span : Span) → bare_option (word_at w c before span) ≡ bare_option (word_at w (bare_context c) before span)
word-at word.This c before span = prim-same word.This c before span
word-at word.Super c before span = prim-same word.Super c before span
word-at word.New c before span = prim-same word.New c before span
word-at word.Match c before span = match-same c
word-at word.Yield c before span = yield-same c
word-at w c before span = begins-same w c span

-- ---- words of heads

takes-same : (k : HeadKind) (w : Word) → takes k w ≡ takes (bare_kind k) w
takes-same head.Try w = refl
takes-same _ w = refl

word-taken : (hs : List Head) (h : Head) (w : Word) (a b : Ready) (l : Limit)
    → bare_context (behind_head hs h w a l) ≡ bare_context (behind_head (map bare_head hs) (bare_head h) w b l)
word-taken hs h word.Else a b l = head-on (in_context hs [] tail.Begin l) h.start 0 (head.IfElse None) (head.IfElse None) refl
word-taken hs h word.Catch a b l = heads-alone hs (tail.AtCatch not_begun) (tail.AtCatch not_begun) l refl
word-taken hs h word.Finally a b l = head-on (in_context hs [] tail.Begin l) h.start 0 (head.Finally None) (head.Finally None) refl
word-taken hs h _ a b l = heads-alone hs (tail.AtUntil not_begun) (tail.AtUntil not_begun) l refl

taken-within : (hs : List Head) (w : Word) (a b : Ready) (l : Limit) → bare_context (behind_taken (taken hs w a) w l) ≡ bare_context (behind_taken (taken (map bare_head hs) w b) w l)
taken-within [] w a b l = refl
taken-within (h ∷ hs) w a b l =
    choice-same (λ t. bare_context (behind_taken t w l)) (takes h.kind w) (takes (bare_kind h.kind) w)
    (record { head = Some h; heads = hs; body = a }) (taken hs w (headed h a))
    (record { head = Some (bare_head h); heads = map bare_head hs; body = b }) (taken (map bare_head hs) w (headed (bare_head h) b))
    (takes-same h.kind w) (word-taken hs h w a b l) (taken-within hs w (headed h a) (headed (bare_head h) b) l)

caught-within : (hs : List Head) (free : List Span) (t : Tail) (l : Limit) → bare_context (behind_caught hs free t l) ≡ bare_context (behind_caught (map bare_head hs) [] (bare_tail t) l)
caught-within hs free (tail.AtCaught begun end) l = head-on (in_context hs [] tail.Begin l) begun.start 0 (head.Finally None) (head.Finally None) refl
caught-within hs free t l = heads-alone hs t (bare_tail t) l (sym (tail-twice t))

with-word : (c : Context) (w : Word) → bare_context (with_word c w) ≡ bare_context (with_word (bare_context c) w)
unfolding with_word
with-word c w =
    choice-same bare_context (is_finally w && is_caught c.tail) (is_finally w && is_caught (bare_tail c.tail)) _ _ _ _ (ap (λ b. is_finally w && b) (caught-same c.tail))
    (caught-within c.heads c.free c.tail c.limit) (taken-within c.heads w _ _ c.limit)

pub word-same : (w : Word) (c : Context) (before : Newline) (span : Span) → bare_option (taken_or w c before span) ≡ bare_option (taken_or w (bare_context c) before span)
word-same w c before span =
    choice-same bare_option (is_taken c w) (is_taken (bare_context c) w) _ _ _ _ (taken-same c w) (ap Some (with-word c w)) (word-at w c before span)

-- ---- semicolons

with-semi : (c : Context) → bare_context (with_semicolon c) ≡ bare_context (with_semicolon (bare_context c))
with-semi c =
    heads-alone c.heads (tail.AtSemi no_operand (not (is_semi c.tail))) (tail.AtSemi no_operand (not (is_semi (bare_tail c.tail)))) c.limit
    (ap (λ b. tail.AtSemi no_operand (not b)) (semi-same c.tail))

separated-same : (c : Context) → bare_context (separated c) ≡ bare_context (separated (bare_context c))
separated-same c =
    choice-same bare_context (is_guard c.limit) (is_guard c.limit) (guard_separated (chain_of c)) (with_semicolon c) (guard_separated (chain_of (bare_context c))) (with_semicolon (bare_context c))
    refl refl (with-semi c)

pub semicolon-same : (fs : List Frame) (c : Context) → bare_option (on_semicolon fs c) ≡ bare_option (on_semicolon (map bare_frame fs) (bare_context c))
semicolon-same fs c =
    choice-same bare_option (ends_part fs c) (ends_part (map bare_frame fs) (bare_context c)) (Some (separated c)) (when (is_crossed c) (with_semicolon c)) (Some (separated (bare_context c))) (when (is_crossed (bare_context c)) (with_semicolon (bare_context c)))
    (part-ends fs c) (ap Some (separated-same c))
    (when-same _ _ (with_semicolon c) (with_semicolon (bare_context c)) (crossed-same c) (with-semi c))
