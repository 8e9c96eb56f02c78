-- One token at the beginning of an operand, and behind what can be a parameter.
use Rattle.std.proofs.Common.{◌≡◌, Bool, true, false, ◌&&◌, ◌||◌, if◌then◌else◌, List, [], ◌∷◌, Option, Some, None, refl, ap, ◌∙◌}
use Rattle.reading_machines.specs.Machines.{run, onward}
use Rattle.scan_tokens.specs.declared.tokens.Newline.{Newline}
use Rattle.source_grammar.specs.Expressions.{Expr}
use Rattle.source_grammar.specs.ExpressionRules.{is_prefix_id}
use Rattle.source_grammar.specs.Lexemes.{Place, Lexeme, open_round, colon, underscore, Arrow, arrow_token, Id, id_token}
use Rattle.source_grammar.specs.Types.{WrittenType, type_tokens}
use Rattle.parse_parts.proofs.Along as types_along
use Rattle.parse_parts.proofs.Along.{last_simple, heads_of, simple-there, settled-there}
use Rattle.parse_parts.proofs.Derived as types
use Rattle.parse_parts.proofs.Exact.{type-runs}
use Rattle.expr_tails.specs.declared.symbols.Symbol.TheVariants as symbol
use Rattle.expr_tails.specs.Symbols.{symbol_of}
use Rattle.expr_laws.proofs.Derived.{OneToken, TypedOf, OfName, OfWild, Tail, Begin, AtSign, AtName, AtWild, AtGroup, InTyped, AtAsker, AtUntil, Head, Context, Part, PatPart, FromPart, GuardPart, Bracket, GroupBracket, GensBracket, Frame, type_read, type_of, type_begun, head_at, chain_at, headed_all, is_some, is_param_limit, is_expr_limit, is_first, may_head, may_stand, may_begin_name, waits, receiver_at, at, state, in_state, named_tail, typed_type, or_decided, typed_from, lambda, ended_expr, gen_with, done_gen, gen_at, guard_with, guard_at, frame, guarded_in, guarded_by, guarded, next_in, next_by, next_generator, begins_pattern, begun_pattern, receiver, inner, opened_with, waiting_bracket, fresh, moved, step}
use Rattle.expr_laws.proofs.Items.{tokens}
use Rattle.expr_laws.proofs.Moving.{Leads, leads-none, leads-on, leads-to, token-step}
use Rattle.expr_laws.proofs.Seen.{Seen, AnId, AnUnderscore, AColon, AnArrow, OpensRound, seen, seen-id, seen-underscore, seen-colon, seen-arrow, seen-open_round}
use Rattle.expr_laws.proofs.Settling.{settled_tail, settles, Ends, ended-step}
use Rattle.expr_tails.specs.declared.states.Limit.TheVariants as limit

pub if-true : {A : Type 0} (b : Bool) (x y : A) → b ≡ true → (if b then x else y) ≡ x
if-true b x y e = ap (λ k. if k then x else y) e

pub if-false : {A : Type 0} (b : Bool) (x y : A) → b ≡ false → (if b then x else y) ≡ y
if-false b x y e = ap (λ k. if k then x else y) e

-- ---- where no expression ends

-- nothing was read yet, or a word that waits for its parentheses
abbrev pub nothing_at : Tail → Bool
nothing_at Begin = true
nothing_at (AtAsker a word) = true
nothing_at (AtUntil word body sep until) = true
nothing_at _ = false

pub none-ended : (w : Bool) (hs : List Head) → (if w then None else headed_all hs None) ≡ None
none-ended true hs = refl
none-ended false [] = refl
none-ended false (h ∷ hs) = refl

pub ended-none : (c : Context) (s : Tail) → nothing_at s ≡ true → ended_expr (at c s) ≡ None
ended-none c Begin n = none-ended (waits c.heads) c.heads
ended-none c (AtAsker a word) n = none-ended (waits c.heads) c.heads
ended-none c (AtUntil word body sep until) n = none-ended (waits c.heads) c.heads
ended-none c _ n = cc

gen-of : (part : Part) (o : Option Expr) → o ≡ None → done_gen (gen_with part o None) [] ≡ None
gen-of PatPart o e = refl
gen-of (FromPart pat arrow) o e = ap (λ k. done_gen (gen_with (FromPart pat arrow) k None) []) e
gen-of (GuardPart pat arrow from done sep word) o e = refl

gen-none : (part : Part) (c : Context) (s : Tail) → nothing_at s ≡ true → gen_at part s (at c s) ≡ None
gen-none part c Begin n = gen-of part (ended_expr (at c Begin)) (ended-none c Begin n)
gen-none part c (AtAsker a word) n = gen-of part (ended_expr (at c (AtAsker a word))) (ended-none c (AtAsker a word) n)
gen-none part c (AtUntil word body sep until) n = gen-of part (ended_expr (at c (AtUntil word body sep until))) (ended-none c (AtUntil word body sep until) n)
gen-none part c _ n = cc

guard-none : (part : Part) (c : Context) (p : Place) → guard_at part Begin (at c Begin) p ≡ None
guard-none PatPart c p = refl
guard-none (FromPart pat arrow) c p = ap (λ o. guard_with (FromPart pat arrow) o (chain_at (at c Begin)) [] p) (ended-none c Begin refl)
guard-none (GuardPart pat arrow from done sep word) c p = refl

-- so no generator and no guard follows
pub next-none : (fs : List Frame) (c : Context) (s : Tail) (before : Newline) → nothing_at s ≡ true → next_generator fs (at c s) before ≡ None
next-none [] c s before n = refl
next-none (f ∷ fs) c s before n = go f.bracket where
  go : (b : Bracket) → next_by b f.outer (at c s) before fs ≡ None
  go (GensBracket word o done part) = ap (λ d. next_in d word o done f.outer before fs) (gen-none part c s n)
  go _ = refl

pub guarded-none : (p : Place) (fs : List Frame) (c : Context) → guarded p fs (at c Begin) ≡ None
guarded-none p [] c = refl
guarded-none p (f ∷ fs) c = go f.bracket where
  go : (b : Bracket) → guarded_by b p f.outer (at c Begin) fs ≡ None
  go (GensBracket word o done part) = ap (λ k. guarded_in k word o done f.outer fs) (guard-none part c p)
  go _ = refl

nothing-follows : (x : Lexeme) (y : Seen) (fs : List Frame) (c : Context) (s : Tail) → nothing_at s ≡ true
    → (if begins_pattern y && is_some (next_generator fs (at c s) x.place.before) then begun_pattern (next_generator fs (at c s) x.place.before) y x else moved y fs (at c s))
    ≡ moved y fs (at c s)
nothing-follows x y fs c s n =
    ap (λ o. if begins_pattern y && is_some o then begun_pattern o y x else moved y fs (at c s)) (next-none fs c s x.place.before n) ∙ go (begins_pattern y)
  where
    go : (b : Bool) → (if b && false then begun_pattern None y x else moved y fs (at c s)) ≡ moved y fs (at c s)
    go true = refl
    go false = refl

pub nothing-step : (x : Lexeme) (y : Seen) → seen x ≡ y → (fs : List Frame) (c : Context) (s : Tail) → nothing_at s ≡ true
    → step (state fs (at c s)) (OneToken x) ≡ moved y fs (at c s)
nothing-step x y e fs c Begin n =
    token-step x y (symbol_of x.kind x.word) fs (at c Begin) (at c Begin) refl e refl refl ∙ nothing-follows x y fs c Begin n
nothing-step x y e fs c (AtAsker a word) n =
    token-step x y (symbol_of x.kind x.word) fs (at c (AtAsker a word)) (at c (AtAsker a word)) refl e refl refl ∙ nothing-follows x y fs c (AtAsker a word) n
nothing-step x y e fs c (AtUntil word body sep until) n =
    token-step x y (symbol_of x.kind x.word) fs (at c (AtUntil word body sep until)) (at c (AtUntil word body sep until)) refl e refl refl
    ∙ nothing-follows x y fs c (AtUntil word body sep until) n
nothing-step x y e fs c _ n = cc

pub begin-step : (x : Lexeme) (y : Seen) → seen x ≡ y → (fs : List Frame) (c : Context) → step (state fs (at c Begin)) (OneToken x) ≡ moved y fs (at c Begin)
begin-step x y e fs c = nothing-step x y e fs c Begin refl

-- ---- what begins

pub id-begins : (id : Id) (fs : List Frame) (c : Context) → may_begin_name (at c Begin) id.place.before ≡ true
    → step (state fs (at c Begin)) (OneToken (id_token id)) ≡ Some (state fs (at c (named_tail id)))
id-begins id fs c h = begin-step (id_token id) (AnId id) (seen-id id) fs c ∙ ap (in_state fs) (if-true (may_begin_name (at c Begin) id.place.before) (Some (at c (named_tail id))) _ h)

pub underscore-begins : (place : Place) (fs : List Frame) (c : Context) → may_begin_name (at c Begin) place.before ≡ true
    → step (state fs (at c Begin)) (OneToken (underscore place)) ≡ Some (state fs (at c (AtWild place)))
underscore-begins place fs c h =
    begin-step (underscore place) (AnUnderscore place) (seen-underscore place) fs c
    ∙ ap (in_state fs) (if-true (may_begin_name (at c Begin) place.before) (Some (at c (AtWild place))) _ h)

no-args : (b : Bool) → is_some (if b then None else receiver_at Begin) ≡ false
no-args true = refl
no-args false = refl

no-receiver : (c : Context) (s : Tail) → nothing_at s ≡ true → is_some (receiver (at c s)) ≡ false
no-receiver c Begin n = no-args (is_param_limit c.limit)
no-receiver c (AtAsker a word) n = no-args (is_param_limit c.limit)
no-receiver c (AtUntil word body sep until) n = no-args (is_param_limit c.limit)
no-receiver c _ n = cc

pub round-opens : (o : Place) (fs : List Frame) (c : Context) → may_stand (at c Begin) o.before ≡ true
    → step (state fs (at c Begin)) (OneToken (open_round o))
    ≡ Some (state (frame (GroupBracket o [] (may_head (at c Begin))) (at c Begin) ∷ fs) (fresh limit.Expr))
round-opens o fs c h =
    begin-step (open_round o) (OpensRound o) (seen-open_round o) fs c
    ∙ if-false (is_some (receiver (at c Begin))) _ _ (no-receiver c Begin refl)
    ∙ if-true (may_stand (at c Begin) o.before) (opened_with (Some (GroupBracket o [] (may_head (at c Begin)))) fs (at c Begin)) _ h

-- parentheses behind a word that waits for them
pub waiting-opens : (o : Place) (fs : List Frame) (c : Context) (s : Tail) (bracket : Bracket) → nothing_at s ≡ true → waiting_bracket o s ≡ Some bracket
    → step (state fs (at c s)) (OneToken (open_round o)) ≡ Some (state (frame bracket (at c Begin) ∷ fs) (inner bracket))
waiting-opens o fs c s bracket n w =
    nothing-step (open_round o) (OpensRound o) (seen-open_round o) fs c s n
    ∙ if-false (is_some (receiver (at c s))) _ _ (no-receiver c s n)
    ∙ if-false (may_stand (at c s) o.before) _ _ (stands-not s n w)
    ∙ ap (λ k. opened_with k fs (at c s)) w
  where
    stands-not : (t : Tail) → nothing_at t ≡ true → waiting_bracket o t ≡ Some bracket → may_stand (at c t) o.before ≡ false
    stands-not Begin m v = cc
    stands-not (AtAsker a word) m v = refl
    stands-not (AtUntil word body sep until) m v = refl
    stands-not _ m v = cc

-- ---- types of parameters

pub colon-ends : (p : Place) → Ends (colon p) (AColon p)
unfolding symbol_of
colon-ends p = record {
  kind = symbol.Colon;
  is = refl;
  sees = seen-colon p;
  no_id = refl;
  no_prim = refl;
  no_expr = refl;
  no_pattern = refl;
  no_type = λ t e. refl;
}

-- a type may stand behind a name or `_` that is alone
pub colon-named : (id : Id) (p : Place) (fs : List Frame) (c : Context) → is_first c ≡ true → (is_expr_limit c.limit || is_param_limit c.limit) ≡ true
    → step (state fs (at c (named_tail id))) (OneToken (colon p)) ≡ Some (state fs (at c (InTyped (OfName id) p type_begun)))
colon-named id p fs c first l = go (is_prefix_id id) where
  typed : (is_sign : Bool) → moved (AColon p) fs (at c (AtName id is_sign)) ≡ Some (state fs (at c (InTyped (OfName id) p type_begun)))
  typed is_sign =
      ap (λ b. in_state fs (if b then typed_from p (is_first c) (AtName id is_sign) (at c (AtName id is_sign)) else None)) l
      ∙ ap (λ b. in_state fs (typed_from p b (AtName id is_sign) (at c (AtName id is_sign)))) first

  go : (b : Bool) → step (state fs (at c (if b then AtSign id else AtName id false))) (OneToken (colon p)) ≡ Some (state fs (at c (InTyped (OfName id) p type_begun)))
  go true = ended-step (colon p) (AColon p) (colon-ends p) fs (at c (AtSign id)) refl ∙ typed true
  go false = ended-step (colon p) (AColon p) (colon-ends p) fs (at c (AtName id false)) refl ∙ typed false

pub colon-wild : (place p : Place) (fs : List Frame) (c : Context) → is_first c ≡ true → (is_expr_limit c.limit || is_param_limit c.limit) ≡ true
    → step (state fs (at c (AtWild place))) (OneToken (colon p)) ≡ Some (state fs (at c (InTyped (OfWild place) p type_begun)))
colon-wild place p fs c first l =
    ended-step (colon p) (AColon p) (colon-ends p) fs (at c (AtWild place)) refl
    ∙ ap (λ b. in_state fs (if b then typed_from p (is_first c) (AtWild place) (at c (AtWild place)) else None)) l
    ∙ ap (λ b. in_state fs (typed_from p b (AtWild place) (at c (AtWild place)))) first

-- the tokens of a type
pub type-leads : (xs : List Lexeme) (of : TypedOf) (p : Place) (fs : List Frame) (c : Context) (t u : types.State) → run types.step xs t ≡ Some u
    → Leads (tokens xs) (state fs (at c (InTyped of p t))) (state fs (at c (InTyped of p u)))
type-leads [] of p fs c t u e = (let same : t ≡ u = cc in leads-to [] _ _ _ (ap (λ v. state fs (at c (InTyped of p v))) same) (leads-none _))
type-leads (x ∷ xs) of p fs c t u e = go (types.step t x) refl e (λ v r. type-leads xs of p fs c v u r) where
  go : (o : Option types.State) → types.step t x ≡ o → onward o None (run types.step xs) ≡ Some u
      → ((v : types.State) → run types.step xs v ≡ Some u → Leads (tokens xs) (state fs (at c (InTyped of p v))) (state fs (at c (InTyped of p u))))
      → Leads (tokens (x ∷ xs)) (state fs (at c (InTyped of p t))) (state fs (at c (InTyped of p u)))
  go None was g on = cc
  go (Some v) was g on =
      leads-on (OneToken x) (tokens xs) _ (state fs (at c (InTyped of p v))) _
      (ap (λ o. or_decided (typed_type of p o) x fs (at c (InTyped of p t))) was) (on v g)

-- a whole type
pub typed-leads : (type : WrittenType) (of : TypedOf) (p : Place) (fs : List Frame) (c : Context)
    → Leads (tokens (type_tokens type)) (state fs (at c (InTyped of p type_begun))) (state fs (at c (InTyped of p (types_along.after [] [] type))))
typed-leads type of p fs c = type-leads (type_tokens type) of p fs c type_begun (types_along.after [] [] type) (type-runs type (type_tokens type) refl)

pub type-there : (type : WrittenType) → type_of (types_along.after [] [] type) ≡ Some type
type-there type = ap (type_read [] (heads_of type [])) (simple-there (last_simple type)) ∙ ap Some (settled-there type [])

-- ---- arrows

symbol-arrow : (a : Arrow) → symbol_of (arrow_token a).kind (arrow_token a).word ≡ symbol.Arrow
unfolding symbol_of
symbol-arrow a = go a.one_character a.place where
  go : (b : Bool) (p : Place) → symbol_of (arrow_token (record { one_character = b; place = p })).kind (arrow_token (record { one_character = b; place = p })).word ≡ symbol.Arrow
  go true p = refl
  go false p = refl

-- where the head of a lambda can end
abbrev pub may_be_head_at : Tail → Bool
may_be_head_at (AtSign id) = true
may_be_head_at (AtName id is_sign) = true
may_be_head_at (AtWild place) = true
may_be_head_at (AtGroup o parens k head) = true
may_be_head_at _ = false

pub arrow-step : (a : Arrow) (fs : List Frame) (c : Context) (s : Tail) → may_be_head_at s ≡ true
    → step (state fs (at c s)) (OneToken (arrow_token a)) ≡ moved (AnArrow a) fs (at c (settled_tail s))
arrow-step a fs c (AtSign id) h =
    token-step (arrow_token a) (AnArrow a) symbol.Arrow fs (at c (AtSign id)) (at c (AtName id true)) refl (seen-arrow a) (symbol-arrow a)
    (settles c (AtSign id) symbol.Arrow a.place.before refl refl refl)
arrow-step a fs c (AtName id is_sign) h =
    token-step (arrow_token a) (AnArrow a) symbol.Arrow fs (at c (AtName id is_sign)) (at c (AtName id is_sign)) refl (seen-arrow a) (symbol-arrow a) refl
arrow-step a fs c (AtWild place) h =
    token-step (arrow_token a) (AnArrow a) symbol.Arrow fs (at c (AtWild place)) (at c (AtWild place)) refl (seen-arrow a) (symbol-arrow a) refl
arrow-step a fs c (AtGroup o parens k head) h =
    token-step (arrow_token a) (AnArrow a) symbol.Arrow fs (at c (AtGroup o parens k head)) (at c (AtGroup o parens k head)) refl (seen-arrow a) (symbol-arrow a) refl
arrow-step a fs c _ h = cc

pub arrow-heads : (a : Arrow) (fs : List Frame) (c : Context) (s : Tail) → may_be_head_at s ≡ true → may_head c ≡ true
    → step (state fs (at c s)) (OneToken (arrow_token a)) ≡ in_state fs (lambda a (at c (settled_tail s)) (head_at (settled_tail s)))
arrow-heads a fs c s h m =
    arrow-step a fs c s h ∙ ap (in_state fs) (if-true (may_head c) (lambda a (at c (settled_tail s)) (head_at (settled_tail s))) None m)
