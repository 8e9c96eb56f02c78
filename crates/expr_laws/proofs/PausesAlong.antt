-- Where a generator could end: what `;`, the `if` of a guard, the pattern of the next generator and the closing bracket find there.
use Rattle.std.proofs.Common.{◌≡◌, Bool, true, false, ◌&&◌, if◌then◌else◌, List, [], ◌∷◌, ◌++◌, Some, None, refl, ap, sym, ◌∙◌, ◌⊎◌, inl, inr}
use Rattle.scan_tokens.specs.declared.tokens.Newline.{Newline}
use Rattle.source_grammar.specs.Expressions.{Sep, Expr, InfixExpr, GenOf, NoGuards, Infix, Prim}
use Rattle.source_grammar.specs.ExpressionRules as rules
use Rattle.source_grammar.specs.ExpressionRules.{prim_of, is_hole}
use Rattle.source_grammar.specs.Lexemes.{Place, Lexeme, BackArrow}
use Rattle.source_grammar.specs.Patterns.{Pat}
use Rattle.parse_patterns.specs.Steps.{is_no}
use Rattle.expr_tails.specs.declared.states.Limit.TheVariants as limit
use Rattle.expr_tails.specs.declared.symbols.Symbol.{Symbol}
use Rattle.expr_tails.specs.declared.symbols.Symbol.TheVariants as symbol
use Rattle.expr_tails.specs.declared.symbols.Word.TheVariants as word
use Rattle.expr_tails.specs.Symbols.{symbol_of, begins_prim, begins_expr}
use Rattle.expr_laws.proofs.Behind.{hole_at, Quiet, is_semi, settled-prim}
use Rattle.expr_laws.proofs.BodiesAlong.{chain-innermost}
use Rattle.expr_laws.proofs.Derived.{OneToken, Tail, AtSign, AtDot, AtReturn, AtSemi, AtGuardSemi, Context, DoneGuard, Part, FromPart, GuardPart, Frame, chain_of, chain_at, innermost, headed_all, guards_before, is_some, is_id, is_guard_limit, waits, at, state, only_heads, ended_expr, gen_with, done_gen, unless, gen_at, guard_with, guard_at, begun_pattern, begins_pattern, next_generator, semi_at, semi_behind, guard_semi, moved, step}
use Rattle.expr_laws.proofs.InfixAlong.{parts, ChainEnds}
use Rattle.expr_laws.proofs.Moving.{token-step}
use Rattle.expr_laws.proofs.Seen.{Seen, seen}
use Rattle.expr_laws.proofs.Settling as settling
use Rattle.expr_laws.proofs.Settling.{settled_tail, settled-innermost}
use Rattle.expr_laws.proofs.SpineAlong.{heads_of, last_of, ExprRead, end_of, all-there, heads-wait, operand-last}
use Rattle.expr_laws.proofs.WordsAlong.{end-there, semi, semi-first, quiet-word}

-- ---- what is decided

-- behind a newline an item decides no more of a tail than that it ended
pub quiet-newline : (s : Tail) (k : Symbol) (n : Newline) → is_no n ≡ false → (hole_at s ≡ false) ⊎ (is_id k ≡ false) → Quiet s k n
quiet-newline (AtSign id) k n e h = ap (λ b. b && begins_prim k) e
quiet-newline (AtDot d p) k n e (inl h) = cc
quiet-newline (AtDot d p) k n e (inr h) = h
quiet-newline (AtReturn w) k n e h = ap (λ b. b && begins_expr k) e
quiet-newline _ k n e h = tt

-- ---- where a generator could end

not-semi : (c : Context) (s : Tail) (e : Expr) → innermost (at c s) ≡ Some e → is_semi s ≡ false
not-semi c (AtSemi expr p ps) e h = cc
not-semi c (AtGuardSemi test p ps) e h = cc
not-semi c _ e h = refl

gen-plain : (part : Part) (s : Tail) (c : Context) → is_semi s ≡ false → gen_at part s c ≡ done_gen (gen_with part (ended_expr c) (chain_at c)) []
gen-plain part (AtSemi expr p ps) c h = cc
gen-plain part (AtGuardSemi test p ps) c h = cc
gen-plain part _ c h = refl

guard-plain : (part : Part) (s : Tail) (c : Context) (w : Place) → is_semi s ≡ false → guard_at part s c w ≡ guard_with part (ended_expr c) (chain_at c) [] w
guard-plain part (AtSemi expr p ps) c w h = cc
guard-plain part (AtGuardSemi test p ps) c w h = cc
guard-plain part _ c w h = refl

-- a generator that is read in this context, up to a guard or to what stands before all of these
pub record Pause (pat : Pat) (arrow : BackArrow) (from : Expr) (dones : List DoneGuard) (part : Part) (c : Context) (last : Expr) (takes : Bool) : Type 0 where
  pub to : Place → List Place → Tail
  pub waiting : waits c.heads ≡ false
  pub there : innermost c ≡ Some last
  pub quiet : (n : Newline) → (takes ≡ true → is_no n ≡ false) → Quiet c.tail (symbol.Word word.If) n
  pub first : (p : Place) → semi_at p true (settled_tail c.tail) (settling.settled c) ≡ Some (only_heads c.heads (to p []) c.limit)
  pub more : (p q : Place) (ps : List Place) → semi_at q true (to p ps) (only_heads c.heads (to p ps) c.limit) ≡ Some (only_heads c.heads (to p (ps ++ q ∷ [])) c.limit)
  pub sees : (p : Place) (ps : List Place) (x : Lexeme) (y : Seen) (fs : List Frame) → seen x ≡ y
      → step (state fs (only_heads c.heads (to p ps) c.limit)) (OneToken x)
      ≡ (if begins_pattern y && is_some (next_generator fs (only_heads c.heads (to p ps) c.limit) x.place.before)
      then begun_pattern (next_generator fs (only_heads c.heads (to p ps) c.limit) x.place.before) y x else moved y fs (only_heads c.heads (to p ps) c.limit))
  pub gen : gen_at part (settled_tail c.tail) (settling.settled c) ≡ Some (record { gen = GenOf pat arrow from (guards_before dones NoGuards); sep = [] })
  pub gen_behind : (p : Place) (ps : List Place)
      → gen_at part (to p ps) (only_heads c.heads (to p ps) c.limit) ≡ Some (record { gen = GenOf pat arrow from (guards_before dones NoGuards); sep = p ∷ ps })
  pub guard : (w : Place) → guard_at part (settled_tail c.tail) (settling.settled c) w ≡ Some (GuardPart pat arrow from dones [] w)
  pub guard_behind : (p : Place) (ps : List Place) (w : Place) → guard_at part (to p ps) (only_heads c.heads (to p ps) c.limit) w ≡ Some (GuardPart pat arrow from dones (p ∷ ps) w)

-- behind the expression
pub from-pause : (pat : Pat) (arrow : BackArrow) (from : Expr) (r : ExprRead from []) → Pause pat arrow from [] (FromPart pat arrow) (end_of r) (last_of from) (rules.takes_operand from)
from-pause pat arrow from r =
    let heads = heads_of from [] in
    let c : Context = end_of r in
    let s = settled_tail r.tail in
    let ended : ended_expr (at c s) ≡ Some from =
    ap (λ b. if b then None else headed_all heads (innermost (at c s))) (heads-wait from []) ∙ ap (headed_all heads) (end-there r) ∙ all-there from [] in
    let plain : is_semi s ≡ false = not-semi c s (last_of from) (end-there r) in
    let part = FromPart pat arrow in
    let semi_ended : unless (waits heads) (headed_all heads (Some (last_of from))) ≡ Some from = ap (λ b. unless b (headed_all heads (Some (last_of from)))) (heads-wait from []) ∙ all-there from [] in
    record {
      to = AtSemi (last_of from);
      waiting = heads-wait from [];
      there = r.there;
      quiet = λ n k. quiet-word word.If n r.tail r.operations r.sign (last_of from) refl r.there (λ t. k (sym (operand-last from) ∙ t));
      first = λ p. semi-first p true c s (last_of from) (end-there r) refl;
      more = λ p q ps. refl;
      sees = λ p ps x y fs e. token-step x y (symbol_of x.kind x.word) fs (semi heads (last_of from) p ps) (semi heads (last_of from) p ps) refl e refl refl;
      gen = gen-plain part s (at c s) plain ∙ ap (λ o. done_gen (gen_with part o (chain_at (at c s))) []) ended;
      gen_behind = λ p ps. ap (λ o. done_gen (gen_with part o None) (p ∷ ps)) semi_ended;
      guard = λ w. guard-plain part s (at c s) w plain ∙ ap (λ o. guard_with part o (chain_at (at c s)) [] w) ended;
      guard_behind = λ p ps w. ap (λ o. guard_with part o None (p ∷ ps) w) semi_ended;
    }

-- where a guard ends
abbrev pub test_end : {test : Infix} → ChainEnds test [] [] limit.Guard → Context
test_end r = parts [] r.operations r.sign limit.Guard r.tail

-- behind a guard
pub test-pause : (pat : Pat) (arrow : BackArrow) (from : Expr) (dones : List DoneGuard) (sep : Sep) (w : Place) (test : Infix) (r : ChainEnds test [] [] limit.Guard)
    → Pause pat arrow from (record { sep = sep; word = w; test = test } ∷ dones) (GuardPart pat arrow from dones sep w) (test_end r) (InfixExpr test) false
test-pause pat arrow from dones sep w test r =
    let c : Context = test_end r in
    let s = settled_tail r.tail in
    let inner : innermost c ≡ Some (InfixExpr test) = chain-innermost test [] [] limit.Guard r in
    let chain : chain_at (at c s) ≡ Some test = ap (chain_of r.operations r.sign) (settled-prim r.tail r.prim r.there) ∙ ap Some r.whole in
    let plain : is_semi s ≡ false = not-semi c s (InfixExpr test) (settled-innermost c r.tail (InfixExpr test) inner) in
    let part = GuardPart pat arrow from dones sep w in
    record {
      to = AtGuardSemi test;
      waiting = refl;
      there = inner;
      quiet = λ n k. quiet-word word.If n r.tail r.operations r.sign (InfixExpr test) refl inner (λ t. k t);
      first = λ p. guard-first p s (at c s) plain ∙ ap (guard_semi p) chain;
      more = λ p q ps. refl;
      sees = λ p ps x y fs e. token-step x y (symbol_of x.kind x.word) fs (only_heads [] (AtGuardSemi test p ps) limit.Guard) (only_heads [] (AtGuardSemi test p ps) limit.Guard) refl e refl refl;
      gen = gen-plain part s (at c s) plain ∙ ap (λ o. done_gen (gen_with part (ended_expr (at c s)) o) []) chain;
      gen_behind = λ p ps. refl;
      guard = λ v. guard-plain part s (at c s) v plain ∙ ap (λ o. guard_with part (ended_expr (at c s)) o [] v) chain;
      guard_behind = λ p ps v. refl;
    }
  where
    guard-first : (p : Place) (t : Tail) (k : Context) → is_semi t ≡ false → semi_at p true t k ≡ (if is_guard_limit k.limit then guard_semi p (chain_at k) else semi_behind p k.limit k.heads (innermost k))
    guard-first p (AtSemi expr q qs) k h = cc
    guard-first p (AtGuardSemi t q qs) k h = cc
    guard-first p _ k h = refl
