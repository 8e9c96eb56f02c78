-- A `;` that a head crosses, or that stands behind a generator, the reader as the machine.
use Rattle.std.proofs.Common.{◌≡◌, Bool, true, false, ◌&&◌, ◌||◌, if◌then◌else◌, List, [], ◌∷◌, ◌++◌, map, Option, Some, None, option_map, refl, ap, sym, ◌∙◌}
use Rattle.std.specs.Prelude.{not}
use Rattle.source_grammar.specs.Expressions.{PrefixSign, Expr, Infix}
use Rattle.source_grammar.specs.ExpressionTrees.{joined_built, expr_built, infix_chain}
use Rattle.source_grammar.specs.Lexemes.{Place}
use Rattle.expr_tails.specs.declared.tails.Ready.{Ready}
use Rattle.expr_tails.specs.declared.states.Context.{Context}
use Rattle.expr_tails.specs.declared.states.Limit.{Limit}
use Rattle.expr_tails.specs.declared.states.Limit.TheVariants as limit
use Rattle.expr_tails.specs.declared.states.Tail.TheVariants as tail
use Rattle.expr_tails.specs.Ending as ending
use Rattle.expr_tails.specs.Ending.{waits_in}
use Rattle.expr_tails.specs.Tails.{ready, is_whole}
use Rattle.expr_frames.specs.Generators as gens
use Rattle.expr_frames.specs.Heads.{reach_of, in_context, with_semicolon}
use Rattle.expr_steps.specs.Steps as spec
use Rattle.expr_laws.proofs.Derived as derived
use Rattle.expr_laws.proofs.Fitting.{IsFresh, Fits, is_guard_semi}
use Rattle.expr_laws.proofs.Innermost.{context-innermost, semi-shown}
use Rattle.expr_laws.proofs.Reach.{else-shown, waits-shown}
use Rattle.expr_laws.proofs.Shown.{infix_piece, expr_piece, is_empty, operations_shown, operations_free, sign_shown, tail_shown, tail_free, free_in, heads_shown, context_shown, bracket_shown, frame_shown}
use Rattle.expr_laws.proofs.Guarding.{last_chain, plain-ends, last-chain-there}
use Rattle.expr_laws.proofs.Agreeing.{whole-shown}

abbrev whole : Expr → Ready
whole e = ready (expr_piece e) (free_in (expr_built e))

pub in-gens : (fs : List derived.Frame) → gens.in_generators (map frame_shown fs) ≡ derived.in_gens fs
in-gens [] = refl
in-gens (f ∷ fs) = go f.bracket where
  go : (b : derived.Bracket) → gens.is_generators (bracket_shown b) ≡ derived.is_gens b
  go (derived.GensBracket word o done part) = refl
  go _ = refl

not-empty : (ps : List Place) (p : Place) → is_empty (ps ++ p ∷ []) ≡ false
not-empty [] p = refl
not-empty (q ∷ ps) p = refl

abbrev now_at : derived.Context → derived.Tail → Context
now_at c s = context_shown (derived.at c s)

-- what the reader does, where these are the tests
abbrev crossed : (ends : Bool) (by_gens : Context) (crosses : Bool) (by_head : Context) → Option Context
crossed ends by_gens crosses by_head = if ends then Some by_gens else spec.when crosses by_head

-- ---- behind a `;`

more-semi : (c : derived.Context) (expr : Expr) (q : Place) (qs : List Place) (p : Place) → IsFresh c.operations c.sign
    → with_semicolon (now_at c (derived.AtSemi expr q qs)) ≡ context_shown (derived.only_heads c.heads (derived.AtSemi expr q (qs ++ p ∷ [])) c.limit)
more-semi c expr q qs p f =
    ap (λ r. in_context (heads_shown c.heads) r.free (tail.AtSemi r.operand false) c.limit) (semi-shown c.operations c.sign expr q qs f)
    ∙ ap (λ b. in_context (heads_shown c.heads) (free_in (expr_built expr)) (tail.AtSemi (expr_piece expr) b) c.limit) (sym (not-empty qs p))

semi-again : (g w t : Bool) (a b : Context) (d : derived.Context) → a ≡ context_shown d → b ≡ context_shown d
    → crossed (g && (not w || false)) a ((w && true) || (false && (w || t))) b
    ≡ option_map context_shown (if g && not w then Some d else (if w then Some d else (if t then None else None)))
semi-again true false t a b d e f = ap Some e
semi-again true true t a b d e f = ap Some f
semi-again false true t a b d e f = ap Some f
semi-again false false true a b d e f = refl
semi-again false false false a b d e f = refl

-- ---- behind a `;` of a guard

is-guard : (l : Limit) → derived.is_guard_limit l ≡ true → l ≡ limit.Guard
is-guard limit.Guard e = refl
is-guard limit.Expr e = cc
is-guard limit.CaseGuard e = cc
is-guard limit.Param e = cc

abbrev guard_behind : Infix → Context
guard_behind test = in_context [] (free_in (joined_built (infix_chain test))) (tail.AtSemi (infix_piece test) false) limit.Guard

separated-guard : (c : derived.Context) (s : derived.Tail) (test : Infix) → derived.is_guard_limit c.limit ≡ true
    → gens.chain_of (now_at c s) ≡ ready (infix_piece test) (free_in (joined_built (infix_chain test))) → gens.separated (now_at c s) ≡ guard_behind test
separated-guard c s test g e =
    ap (λ b. if b then gens.guard_separated (gens.chain_of (now_at c s)) else with_semicolon (now_at c s)) g ∙ ap gens.guard_separated e

abbrev guard_context : List derived.Head → List derived.Operation → Option PrefixSign → Limit → Infix → Place → List Place → derived.Context
guard_context hs os sign l test q qs = record { heads = hs; operations = os; sign = sign; tail = derived.AtGuardSemi test q qs; limit = l }

guard-again : (c : derived.Context) (test : Infix) (q : Place) (qs : List Place) → c.heads ≡ [] → IsFresh c.operations c.sign → c.limit ≡ limit.Guard
    → guard_behind test ≡ context_shown (guard_context c.heads c.operations c.sign c.limit test q qs)
guard-again c test q qs none f l =
    ap (λ hs. context_shown (guard_context hs [] None limit.Guard test q qs)) (sym none)
    ∙ ap (λ os. context_shown (guard_context c.heads os None limit.Guard test q qs)) (sym f.operations)
    ∙ ap (λ s. context_shown (guard_context c.heads c.operations s limit.Guard test q qs)) (sym f.sign)
    ∙ ap (λ k. context_shown (guard_context c.heads c.operations c.sign k test q qs)) (sym l)

guard-tests : (g w w2 t : Bool) (a b : Context) (d : derived.Context) (k : Option derived.Context) → w ≡ false → w2 ≡ false → t ≡ false → a ≡ context_shown d
    → crossed (g && (not w || false)) a ((w && true) || (false && (w || false))) b
    ≡ option_map context_shown (if g && not w2 then Some d else (if w2 then Some d else (if t then k else None)))
guard-tests true false false false a b d k e f h i = ap Some i
guard-tests false false false false a b d k e f h i = refl
guard-tests g true w2 t a b d k e f h i = cc
guard-tests g false true t a b d k e f h i = cc
guard-tests g false false true a b d k e f h i = cc

-- ---- behind an expression

first-semi : (c : derived.Context) (s : derived.Tail) (e : Expr) (p : Place) → Fits (derived.at c s) → ending.is_semi (tail_shown s) ≡ false → derived.innermost (derived.at c s) ≡ Some e
    → with_semicolon (now_at c s) ≡ context_shown (derived.only_heads c.heads (derived.AtSemi e p []) c.limit)
first-semi c s e p f n i =
    ap (λ b. in_context (heads_shown c.heads) (read).free (tail.AtSemi (read).operand (not b)) c.limit) n
    ∙ ap (λ r. in_context (heads_shown c.heads) r.free (tail.AtSemi r.operand true) c.limit) (context-innermost (derived.at c s) e f i)
  where
    read : Ready
    read = ending.innermost (operations_shown c.operations) (sign_shown c.sign) (tail_shown s) (operations_free c.operations ++ tail_free s)

semi-first : (g w t : Bool) (a b : Context) (d : derived.Context) → a ≡ context_shown d → b ≡ context_shown d
    → crossed (g && (true && not w)) a ((w && false) || (true && (w || (true && t)))) b
    ≡ option_map context_shown (if g && not w then Some d else (if w then Some d else (if t then Some d else None)))
semi-first true false t a b d e f = ap Some e
semi-first true true t a b d e f = ap Some f
semi-first false true t a b d e f = ap Some f
semi-first false false true a b d e f = ap Some f
semi-first false false false a b d e f = refl

semi-none : (g w t u : Bool) (a b : Context)
    → crossed (g && (false && not w)) a ((w && false) || (false && (w || u))) b
    ≡ option_map context_shown (if g && not w then None else (if w then None else (if t then None else None)))
semi-none true false t u a b = refl
semi-none true true t u a b = refl
semi-none false true t u a b = refl
semi-none false false true u a b = refl
semi-none false false false u a b = refl

-- the tests of the reader are those of the machine
tests-same : (fs : List derived.Frame) (c : derived.Context) (s : derived.Tail) (v : Bool) → is_whole (tail_shown s) ≡ v → ending.is_semi (tail_shown s) ≡ false
    → crossed (gens.in_generators (map frame_shown fs) && ((ending.is_semi (tail_shown s) && not (waits_in (heads_shown c.heads))) || (is_whole (tail_shown s) && not (waits_in (heads_shown c.heads))))) (gens.separated (now_at c s))
    ((waits_in (heads_shown c.heads) && ending.is_semi (tail_shown s)) || (is_whole (tail_shown s) && (waits_in (heads_shown c.heads) || (is_whole (tail_shown s) && (reach_of (heads_shown c.heads)).takes_else))))
    (with_semicolon (now_at c s))
    ≡ crossed (derived.in_gens fs && (v && not (derived.waits c.heads))) (gens.separated (now_at c s))
    ((derived.waits c.heads && false) || (v && (derived.waits c.heads || (v && derived.takes_else c.heads)))) (with_semicolon (now_at c s))
tests-same fs c s v a n =
    ap (λ g. to g (ending.is_semi (tail_shown s)) (waits_in (heads_shown c.heads)) (is_whole (tail_shown s)) ((reach_of (heads_shown c.heads)).takes_else)) (in-gens fs)
    ∙ ap (λ m. to (derived.in_gens fs) m (waits_in (heads_shown c.heads)) (is_whole (tail_shown s)) ((reach_of (heads_shown c.heads)).takes_else)) n
    ∙ ap (λ w. to (derived.in_gens fs) false w (is_whole (tail_shown s)) ((reach_of (heads_shown c.heads)).takes_else)) (waits-shown c.heads)
    ∙ ap (λ k. to (derived.in_gens fs) false (derived.waits c.heads) k ((reach_of (heads_shown c.heads)).takes_else)) a
    ∙ ap (to (derived.in_gens fs) false (derived.waits c.heads) v) (else-shown c.heads)
  where
    to : (g m w k t : Bool) → Option Context
    to g m w k t = crossed (g && ((m && not w) || (k && not w))) (gens.separated (now_at c s)) ((w && m) || (k && (w || (k && t)))) (with_semicolon (now_at c s))

-- where an expression is read
expr-semi : (fs : List derived.Frame) (c : derived.Context) (s : derived.Tail) (p : Place) → Fits (derived.at c s) → ending.is_semi (tail_shown s) ≡ false → derived.is_guard_limit c.limit ≡ false
    → (o : Option Expr) → derived.innermost (derived.at c s) ≡ o
    → crossed (derived.in_gens fs && (derived.is_some o && not (derived.waits c.heads))) (gens.separated (now_at c s))
    ((derived.waits c.heads && false) || (derived.is_some o && (derived.waits c.heads || (derived.is_some o && derived.takes_else c.heads)))) (with_semicolon (now_at c s))
    ≡ option_map context_shown (if derived.in_gens fs && not (derived.waits c.heads) then derived.semi_behind p c.limit c.heads o
    else (if derived.waits c.heads then derived.semi_behind p c.limit c.heads o else (if derived.takes_else c.heads then derived.semi_behind p c.limit c.heads o else None)))
expr-semi fs c s p f n g None i =
    semi-none (derived.in_gens fs) (derived.waits c.heads) (derived.takes_else c.heads) false (gens.separated (now_at c s)) (with_semicolon (now_at c s))
expr-semi fs c s p f n g (Some e) i =
    semi-first (derived.in_gens fs) (derived.waits c.heads) (derived.takes_else c.heads) (gens.separated (now_at c s)) (with_semicolon (now_at c s)) (derived.only_heads c.heads (derived.AtSemi e p []) c.limit)
    (ap (λ b. if b then gens.guard_separated (gens.chain_of (now_at c s)) else with_semicolon (now_at c s)) g ∙ first-semi c s e p f n i)
    (first-semi c s e p f n i)

-- where a guard is read
guard-first : (g w t : Bool) (a b : Context) (d : derived.Context) → w ≡ false → t ≡ false → a ≡ context_shown d
    → crossed (g && (true && not w)) a ((w && false) || (true && (w || (true && t)))) b
    ≡ option_map context_shown (if g && not w then Some d else (if w then Some d else (if t then Some d else None)))
guard-first true false false a b d e f h = ap Some h
guard-first false false false a b d e f h = refl
guard-first g true t a b d e f h = cc
guard-first g false true a b d e f h = cc

guard-semi : (fs : List derived.Frame) (c : derived.Context) (s : derived.Tail) (p : Place) → derived.is_guard_limit c.limit ≡ true → c.heads ≡ []
    → (o : Option Infix) → ((test : Infix) → o ≡ Some test → gens.chain_of (now_at c s) ≡ ready (infix_piece test) (free_in (joined_built (infix_chain test))))
    → crossed (derived.in_gens fs && (derived.is_some o && not (derived.waits c.heads))) (gens.separated (now_at c s))
    ((derived.waits c.heads && false) || (derived.is_some o && (derived.waits c.heads || (derived.is_some o && derived.takes_else c.heads)))) (with_semicolon (now_at c s))
    ≡ option_map context_shown (if derived.in_gens fs && not (derived.waits c.heads) then derived.guard_semi p o
    else (if derived.waits c.heads then derived.guard_semi p o else (if derived.takes_else c.heads then derived.guard_semi p o else None)))
guard-semi fs c s p g none None read =
    semi-none (derived.in_gens fs) (derived.waits c.heads) (derived.takes_else c.heads) false (gens.separated (now_at c s)) (with_semicolon (now_at c s))
guard-semi fs c s p g none (Some test) read =
    guard-first (derived.in_gens fs) (derived.waits c.heads) (derived.takes_else c.heads) (gens.separated (now_at c s)) (with_semicolon (now_at c s)) (derived.only_heads [] (derived.AtGuardSemi test p []) limit.Guard)
    (ap derived.waits none) (ap derived.takes_else none) (separated-guard c s test g (read test refl))

abbrev semi_for : List derived.Frame → derived.Context → Option derived.Context → Option derived.Context
semi_for fs c o = if derived.in_gens fs && not (derived.waits c.heads) then o else (if derived.waits c.heads then o else (if derived.takes_else c.heads then o else None))

-- where no `;` stands yet
other-semi : (fs : List derived.Frame) (c : derived.Context) (s : derived.Tail) (p : Place) → Fits (derived.at c s) → ending.is_semi (tail_shown s) ≡ false → is_guard_semi s ≡ false
    → last_chain s (derived.at c s) ≡ derived.chain_at (derived.at c s)
    → crossed (gens.in_generators (map frame_shown fs) && ((ending.is_semi (tail_shown s) && not (waits_in (heads_shown c.heads))) || (is_whole (tail_shown s) && not (waits_in (heads_shown c.heads))))) (gens.separated (now_at c s))
    ((waits_in (heads_shown c.heads) && ending.is_semi (tail_shown s)) || (is_whole (tail_shown s) && (waits_in (heads_shown c.heads) || (is_whole (tail_shown s) && (reach_of (heads_shown c.heads)).takes_else))))
    (with_semicolon (now_at c s))
    ≡ option_map context_shown (semi_for fs c (if derived.is_guard_limit c.limit then derived.guard_semi p (derived.chain_at (derived.at c s)) else derived.semi_behind p c.limit c.heads (derived.innermost (derived.at c s))))
other-semi fs c s p f n m l = go (derived.is_guard_limit c.limit) refl where
  here : derived.Context
  here = derived.at c s

  go : (b : Bool) → derived.is_guard_limit c.limit ≡ b
      → crossed (gens.in_generators (map frame_shown fs) && ((ending.is_semi (tail_shown s) && not (waits_in (heads_shown c.heads))) || (is_whole (tail_shown s) && not (waits_in (heads_shown c.heads))))) (gens.separated (now_at c s))
      ((waits_in (heads_shown c.heads) && ending.is_semi (tail_shown s)) || (is_whole (tail_shown s) && (waits_in (heads_shown c.heads) || (is_whole (tail_shown s) && (reach_of (heads_shown c.heads)).takes_else))))
      (with_semicolon (now_at c s))
      ≡ option_map context_shown (semi_for fs c (if b then derived.guard_semi p (derived.chain_at here) else derived.semi_behind p c.limit c.heads (derived.innermost here)))
  go true g =
      tests-same fs c s (derived.is_some (derived.chain_at here)) (whole-shown here ∙ plain-ends c s m (f.guard g).1 ∙ ap derived.is_some l) n
      ∙ guard-semi fs c s p g (f.guard g).0 (derived.chain_at here) (λ test e. last-chain-there c s test f (l ∙ e))
  go false g =
      tests-same fs c s (derived.is_some (derived.innermost here)) (whole-shown here) n
      ∙ expr-semi fs c s p f n g (derived.innermost here) refl

-- no guard: what would be asked of its tail is not so
no-guard : (b : Bool) (hs : List derived.Head) → (b ≡ true → (hs ≡ []) × (false ≡ true)) → b ≡ false
no-guard true hs k = (let e = (k refl).1 in cc)
no-guard false hs k = refl

pub semicolon-same : (fs : List derived.Frame) (c : derived.Context) (s : derived.Tail) (p : Place) → Fits (derived.at c s)
    → spec.on_semicolon (map frame_shown fs) (now_at c s) ≡ option_map context_shown (derived.on_semicolon p fs (derived.at c s))
semicolon-same fs c (derived.AtSemi expr q qs) p f =
    ap (λ g. to g (waits_in (heads_shown c.heads))) (in-gens fs) ∙ ap (to (derived.in_gens fs)) (waits-shown c.heads)
    ∙ semi-again (derived.in_gens fs) (derived.waits c.heads) (derived.takes_else c.heads) (gens.separated (now_at c (derived.AtSemi expr q qs))) (with_semicolon (now_at c (derived.AtSemi expr q qs)))
    (derived.only_heads c.heads (derived.AtSemi expr q (qs ++ p ∷ [])) c.limit)
    (ap (λ b. if b then gens.guard_separated (gens.chain_of (now_at c (derived.AtSemi expr q qs))) else with_semicolon (now_at c (derived.AtSemi expr q qs))) (no-guard (derived.is_guard_limit c.limit) c.heads f.guard)
    ∙ more-semi c expr q qs p (f.alone refl))
    (more-semi c expr q qs p (f.alone refl))
  where
    to : Bool → Bool → Option Context
    to g w = crossed (g && (not w || false)) (gens.separated (now_at c (derived.AtSemi expr q qs))) ((w && true) || (false && (w || false))) (with_semicolon (now_at c (derived.AtSemi expr q qs)))
semicolon-same fs c (derived.AtGuardSemi test q qs) p f =
    ap to (in-gens fs)
    ∙ guard-tests (derived.in_gens fs) (waits_in (heads_shown c.heads)) (derived.waits c.heads) (derived.takes_else c.heads) (gens.separated (now_at c (derived.AtGuardSemi test q qs)))
    (with_semicolon (now_at c (derived.AtGuardSemi test q qs))) (guard_context c.heads c.operations c.sign c.limit test q (qs ++ p ∷ [])) None
    (ap (λ hs. waits_in (heads_shown hs)) none) (ap derived.waits none) (ap derived.takes_else none)
    (separated-guard c (derived.AtGuardSemi test q qs) test (f.semi refl) (last-chain-there c (derived.AtGuardSemi test q qs) test f refl)
    ∙ guard-again c test q (qs ++ p ∷ []) none (f.alone refl) (is-guard c.limit (f.semi refl)))
  where
    none : c.heads ≡ []
    none = (f.guard (f.semi refl)).0

    to : Bool → Option Context
    to g =
        crossed (g && (not (waits_in (heads_shown c.heads)) || false)) (gens.separated (now_at c (derived.AtGuardSemi test q qs)))
        ((waits_in (heads_shown c.heads) && true) || (false && (waits_in (heads_shown c.heads) || false))) (with_semicolon (now_at c (derived.AtGuardSemi test q qs)))
semicolon-same fs c s p f = other-semi fs c s p f refl refl refl
