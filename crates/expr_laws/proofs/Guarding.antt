-- The generators of a `for`: what ends a part of one, the reader as the machine.
use Rattle.std.proofs.Common.{◌≡◌, Bool, true, false, ◌&&◌, ◌||◌, if◌then◌else◌, List, [], ◌∷◌, ◌++◌, map, Option, Some, None, refl, ap, sym, ◌∙◌, append_assoc, append-nil}
use Rattle.std.specs.Prelude.{not}
use Rattle.std.proofs.lemmas.List.{map-append}
use Rattle.pc_terms.specs.declared.problems.Span.{Span}
use Rattle.source_grammar.specs.Comprehensions.{gen_free}
use Rattle.source_grammar.specs.Expressions.{Sep, Expr, LastGen, Gen, GenOf, Guards, NoGuards, MoreGuards, Infix, Prim, PrefixSign}
use Rattle.source_grammar.specs.ExpressionTrees.{joined_built, expr_built, enums_built, guards_built, infix_chain, gen_built}
use Rattle.source_grammar.specs.Lexemes.{Place, BackArrow}
use Rattle.source_grammar.specs.Patterns.{Pat, pat_tree}
use Rattle.source_grammar.specs.Placeholders as grammar
use Rattle.source_grammar.specs.Placeholders.{free_of}
use Rattle.parse_parts.specs.declared.built.Tall.{Tall}
use Rattle.parse_parts.proofs.Kept.{kept}
use Rattle.tree_lower.specs.declared.comprehensions.Generator.{Generator}
use Rattle.tree_lower.specs.Keeping.{places_shown, guards_shown, generator_shown}
use Rattle.expr_tails.specs.declared.states.Context.{Context}
use Rattle.expr_tails.specs.declared.states.Limit.{Limit}
use Rattle.expr_tails.specs.declared.states.Limit.TheVariants as limit
use Rattle.expr_tails.specs.declared.states.Part.{Part}
use Rattle.expr_tails.specs.declared.states.Tail.TheVariants as tail
use Rattle.expr_tails.specs.Ending as ending
use Rattle.expr_tails.specs.Ending.{is_expr, expr_at, chain_at}
use Rattle.expr_tails.specs.Tails.{ready, operand_at, is_whole}
use Rattle.expr_frames.specs.declared.generators.Parted.{Parted}
use Rattle.expr_frames.specs.Generators as spec
use Rattle.expr_laws.proofs.Agreeing.{whole-shown, headed-some, expr-shown}
use Rattle.expr_laws.proofs.Derived as derived
use Rattle.expr_laws.proofs.Ended.{chain_over, chain-shown}
use Rattle.expr_laws.proofs.Fitting.{is_guard_semi, is_of_infix, one-chain, IsFresh, Fits, PartFits}
use Rattle.expr_laws.proofs.Headed.{places-behind}
use Rattle.expr_laws.proofs.Innermost.{semi-shown, heads-there, expr-there}
use Rattle.expr_laws.proofs.Reach.{waits-shown}
use Rattle.expr_laws.proofs.Shown.{infix_piece, expr_piece, operations_shown, operations_free, sign_shown, tail_shown, free_in, heads_shown, context_with, context_shown, guards_free, done_gens, gens_free, part_shown, part_free}
use Rattle.expr_frames.specs.declared.generators.Finished.{Finished}
use Rattle.expr_laws.proofs.Beginning.{places-append}

-- ---- what ended last

abbrev pub last_expr : derived.Tail → derived.Context → Option Expr
last_expr (derived.AtSemi expr p ps) c = derived.unless (derived.waits c.heads) (derived.headed_all c.heads (Some expr))
last_expr (derived.AtGuardSemi test p ps) c = None
last_expr s c = derived.ended_expr c

abbrev pub last_chain : derived.Tail → derived.Context → Option Infix
last_chain (derived.AtSemi expr p ps) c = None
last_chain (derived.AtGuardSemi test p ps) c = Some test
last_chain s c = derived.chain_at c

abbrev pub last_sep : derived.Tail → Sep
last_sep (derived.AtSemi expr p ps) = p ∷ ps
last_sep (derived.AtGuardSemi test p ps) = p ∷ ps
last_sep s = []

pub gen-at : (part : derived.Part) (s : derived.Tail) (c : derived.Context)
    → derived.gen_at part s c ≡ derived.done_gen (derived.gen_with part (last_expr s c) (last_chain s c)) (last_sep s)
gen-at part (derived.AtSemi expr p ps) c = refl
gen-at part (derived.AtGuardSemi test p ps) c = refl
gen-at part _ c = refl

pub guard-at : (part : derived.Part) (s : derived.Tail) (c : derived.Context) (word : Place)
    → derived.guard_at part s c word ≡ derived.guard_with part (last_expr s c) (last_chain s c) (last_sep s) word
guard-at part (derived.AtSemi expr p ps) c word = refl
guard-at part (derived.AtGuardSemi test p ps) c word = refl
guard-at part _ c word = refl

-- the same at any tail, so that the tail can be looked at
abbrev tail_at : derived.Context → derived.Tail → derived.Context
tail_at c s = derived.at c s

not-waiting : (w : Bool) (o : Option Expr) (x : Expr) → derived.unless w o ≡ Some x → o ≡ Some x
not-waiting true o x e = cc
not-waiting false o x e = e

pub last-expr-there : (c : derived.Context) (s : derived.Tail) (x : Expr) → Fits (tail_at c s) → last_expr s (tail_at c s) ≡ Some x
    → expr_at (context_shown (tail_at c s)) ≡ ready (expr_piece x) (free_in (expr_built x))
unfolding expr_at
last-expr-there c (derived.AtSemi expr p ps) x f e =
    heads-there c.heads (Some expr) x (ending.innermost (operations_shown c.operations) (sign_shown c.sign) (tail_shown (derived.AtSemi expr p ps)) (operations_free c.operations ++ free_in (expr_built expr)))
    (not-waiting (derived.waits c.heads) (derived.headed_all c.heads (Some expr)) x e)
    (λ d g. (let same : expr ≡ d = cc in semi-shown c.operations c.sign expr p ps (f.alone refl) ∙ ap (λ y. ready (expr_piece y) (free_in (expr_built y))) same))
last-expr-there c (derived.AtGuardSemi test p ps) x f e = cc
last-expr-there c s x f e = expr-there (tail_at c s) x f e

chain-case : (c : derived.Context) (s : derived.Tail) (test : Infix) → Fits (tail_at c s) → derived.chain_of c.operations c.sign (derived.prim_at s) ≡ Some test
    → spec.chain_of (context_shown (tail_at c s)) ≡ ready (infix_piece test) (free_in (joined_built (infix_chain test)))
chain-case c s test f e = go (derived.prim_at s) refl e where
  go : (o : Option Prim) → derived.prim_at s ≡ o → derived.chain_of c.operations c.sign o ≡ Some test
      → spec.chain_of (context_shown (tail_at c s)) ≡ ready (infix_piece test) (free_in (joined_built (infix_chain test)))
  go None g h = cc
  go (Some prim) g h =
      let same : chain_over c.operations c.sign prim ≡ test = cc in
      chain-shown c.operations c.sign s prim g (one-chain c.operations c.sign prim f.one_side) ∙ ap (λ d. ready (infix_piece d) (free_in (joined_built (infix_chain d)))) same

guard-semi : (os : List derived.Operation) (sign : Option PrefixSign) (test : Infix) (p : Place) (ps : List Place) → IsFresh os sign
    → chain_at (operations_shown os) (sign_shown sign) (tail_shown (derived.AtGuardSemi test p ps)) (operations_free os ++ free_in (joined_built (infix_chain test)))
    ≡ ready (infix_piece test) (free_in (joined_built (infix_chain test)))
unfolding operand_at
guard-semi os sign test p ps f =
    ap (λ o. chain_at (operations_shown o) (sign_shown sign) (tail_shown (derived.AtGuardSemi test p ps)) (operations_free o ++ free_in (joined_built (infix_chain test)))) f.operations
    ∙ ap (λ o. chain_at [] (sign_shown o) (tail_shown (derived.AtGuardSemi test p ps)) (free_in (joined_built (infix_chain test)))) f.sign

pub last-chain-there : (c : derived.Context) (s : derived.Tail) (test : Infix) → Fits (tail_at c s) → last_chain s (tail_at c s) ≡ Some test
    → spec.chain_of (context_shown (tail_at c s)) ≡ ready (infix_piece test) (free_in (joined_built (infix_chain test)))
last-chain-there c (derived.AtSemi expr p ps) test f e = cc
last-chain-there c (derived.AtGuardSemi d p ps) test f e =
    (let same : d ≡ test = cc in guard-semi c.operations c.sign d p ps (f.alone refl) ∙ ap (λ y. ready (infix_piece y) (free_in (joined_built (infix_chain y)))) same)
last-chain-there c s test f e = chain-case c s test f e

-- ---- that something ended

pub or-false : (b : Bool) → (b || false) ≡ b
or-false true = refl
or-false false = refl

-- an expression, or one before a `;`
expr-ends : (c : derived.Context) (s : derived.Tail) → is_guard_semi s ≡ false
    → (spec.is_behind_semicolon (context_shown (tail_at c s)) || is_expr (context_shown (tail_at c s))) ≡ derived.is_some (last_expr s (tail_at c s))
expr-ends c (derived.AtSemi expr p ps) e =
    ap (λ b. not b || false) (waits-shown c.heads) ∙ or-false (not (derived.waits c.heads)) ∙ go (derived.waits c.heads) refl
  where
    go : (w : Bool) → derived.waits c.heads ≡ w → not w ≡ derived.is_some (derived.unless w (derived.headed_all c.heads (Some expr)))
    go true g = refl
    go false g = sym (headed-some c.heads (Some expr) g)
expr-ends c (derived.AtGuardSemi test p ps) e = cc
expr-ends c s e = expr-shown (tail_at c s)

some-infix : (o : Option Infix) → derived.is_some (derived.infix_expr o) ≡ derived.is_some o
some-infix None = refl
some-infix (Some d) = refl

and-true : (b : Bool) → (b && true) ≡ b
and-true true = refl
and-true false = refl

pub plain-ends : (c : derived.Context) (s : derived.Tail) → is_guard_semi s ≡ false → is_of_infix s ≡ true
    → derived.is_some (derived.innermost (tail_at c s)) ≡ derived.is_some (last_chain s (tail_at c s))
plain-ends c (derived.InTyped of point t) e f = cc
plain-ends c (derived.AtReturn word) e f = cc
plain-ends c (derived.AtCaught word body catch o cases p) e f = cc
plain-ends c (derived.AtEnded expr) e f = cc
plain-ends c (derived.AtSemi expr p ps) e f = cc
plain-ends c (derived.AtGuardSemi test p ps) e f = cc
plain-ends c s e f = some-infix (derived.chain_at (tail_at c s))

-- a guard, or one before a `;`
chain-ends : (c : derived.Context) (s : derived.Tail) → c.heads ≡ [] → is_of_infix s ≡ true
    → (spec.is_behind_semicolon (context_shown (tail_at c s)) || is_expr (context_shown (tail_at c s))) ≡ derived.is_some (last_chain s (tail_at c s))
chain-ends c (derived.AtGuardSemi test p ps) none e = ap (λ hs. not (ending.waits_in (heads_shown hs)) || false) none
chain-ends c (derived.AtSemi expr p ps) none e = cc
chain-ends c s none e =
    ap (λ hs. is_whole (tail_shown s) && not (ending.waits_in (heads_shown hs))) none
    ∙ and-true (is_whole (tail_shown s)) ∙ whole-shown (tail_at c s) ∙ plain-ends c s refl e

pub expr-guard : (l : Limit) → derived.is_expr_limit l ≡ true → derived.is_guard_limit l ≡ false
expr-guard limit.Expr e = refl
expr-guard limit.Guard e = cc
expr-guard limit.CaseGuard e = cc
expr-guard limit.Param e = cc

-- an expression is no guard
no-guard-semi : (b g : Bool) → (b ≡ true → g ≡ true) → g ≡ false → b ≡ false
no-guard-semi true g f e = sym (f refl) ∙ e
no-guard-semi false g f e = refl

some-gen : (pat : Pat) (arrow : BackArrow) (o : Option Expr) (d : Option Infix) → derived.is_some o ≡ derived.is_some (derived.gen_with (derived.FromPart pat arrow) o d)
some-gen pat arrow None d = refl
some-gen pat arrow (Some x) d = refl

some-guarded : (pat : Pat) (arrow : BackArrow) (from : Expr) (done : List derived.DoneGuard) (sep : Sep) (word : Place) (o : Option Expr) (d : Option Infix)
    → derived.is_some d ≡ derived.is_some (derived.gen_with (derived.GuardPart pat arrow from done sep word) o d)
some-guarded pat arrow from done sep word o None = refl
some-guarded pat arrow from done sep word o (Some x) = refl

-- what is read of a generator has ended
pub part-ends : (part : derived.Part) (c : derived.Context) (s : derived.Tail) → Fits (tail_at c s) → PartFits part (tail_at c s)
    → (spec.is_behind_semicolon (context_shown (tail_at c s)) || is_expr (context_shown (tail_at c s)))
    ≡ derived.is_some (derived.gen_with part (last_expr s (tail_at c s)) (last_chain s (tail_at c s)))
part-ends derived.PatPart c (derived.InPattern p) f k = refl
part-ends derived.PatPart c _ f k = cc
part-ends (derived.FromPart pat arrow) c s f k =
    expr-ends c s (no-guard-semi (is_guard_semi s) (derived.is_guard_limit c.limit) f.semi (expr-guard c.limit k.0))
    ∙ some-gen pat arrow (last_expr s (tail_at c s)) (last_chain s (tail_at c s))
part-ends (derived.GuardPart pat arrow from done sep word) c s f k =
    (let guard = f.guard k in chain-ends c s guard.0 guard.1 ∙ some-guarded pat arrow from done sep word (last_expr s (tail_at c s)) (last_chain s (tail_at c s)))

-- ---- a part with what ended

abbrev pub from_parted : Pat → Expr → derived.Context → List Span → Parted
from_parted pat x outer free = record {
  part = record { pattern = kept (pat_tree pat); from = kept (expr_built x).tree; guards = [] };
  outer = context_with outer (free ++ free_in (expr_built x)) tail.Begin;
}

pub from-last : (pat : Pat) (arrow : BackArrow) (outer : derived.Context) (free : List Span) (c : derived.Context) (x : Expr) → derived.is_guard_limit c.limit ≡ false
    → expr_at (context_shown c) ≡ ready (expr_piece x) (free_in (expr_built x))
    → spec.with_last (part_shown (derived.FromPart pat arrow)) (context_with outer free tail.Begin) (context_shown c) ≡ from_parted pat x outer free
from-last pat arrow outer free c x g e =
    ap (λ b. if b then spec.with_guard part before (spec.chain_of (context_shown c)) else spec.with_from part before (expr_at (context_shown c))) g
    ∙ ap (spec.with_from part before) e
    ∙ ap to (append_assoc (operations_free outer.operations) free (free_in (expr_built x)))
  where
    part : Part
    part = part_shown (derived.FromPart pat arrow)

    before : Context
    before = context_with outer free tail.Begin

    to : List Span → Parted
    to places = record {
      part = record { pattern = kept (pat_tree pat); from = kept (expr_built x).tree; guards = [] };
      outer = record { heads = heads_shown outer.heads; free = places; operations = operations_shown outer.operations; sign = sign_shown outer.sign; tail = tail.Begin; limit = outer.limit };
    }

-- the guards so far
abbrev pub guards_of : List derived.DoneGuard → List grammar.Built
guards_of done = guards_built (derived.guards_before done NoGuards)

guards-more : (done : List derived.DoneGuard) (gs : Guards) → guards_built (derived.guards_before done gs) ≡ guards_of done ++ guards_built gs
guards-more [] gs = refl
guards-more (g ∷ done) gs =
    guards-more done (MoreGuards g.sep g.word g.test gs)
    ∙ sym (append_assoc (guards_of done) (joined_built (infix_chain g.test) ∷ []) (guards_built gs))
    ∙ ap (λ bs. bs ++ guards_built gs) (sym (guards-more done (MoreGuards g.sep g.word g.test NoGuards)))

abbrev pub with_test : Pat → Expr → List derived.DoneGuard → Sep → Place → Infix → derived.Context → List Span → Parted
with_test pat from done sep word test outer free = record {
  part = record {
    pattern = kept (pat_tree pat);
    from = kept (expr_built from).tree;
    guards = guards_shown (guards_built (derived.guards_before done (MoreGuards sep word test NoGuards)));
  };
  outer = context_with outer (free ++ free_in (joined_built (infix_chain test))) tail.Begin;
}

pub guard-last : (pat : Pat) (arrow : BackArrow) (from : Expr) (done : List derived.DoneGuard) (sep : Sep) (word : Place) (outer : derived.Context) (free : List Span) (c : derived.Context) (test : Infix)
    → derived.is_guard_limit c.limit ≡ true → spec.chain_of (context_shown c) ≡ ready (infix_piece test) (free_in (joined_built (infix_chain test)))
    → spec.with_last (part_shown (derived.GuardPart pat arrow from done sep word)) (context_with outer free tail.Begin) (context_shown c) ≡ with_test pat from done sep word test outer free
guard-last pat arrow from done sep word outer free c test g e =
    ap (λ b. if b then spec.with_guard part before (spec.chain_of (context_shown c)) else spec.with_from part before (expr_at (context_shown c))) g
    ∙ ap (spec.with_guard part before) e
    ∙ ap (to (guards_shown (guards_of done) ++ kept last.tree ∷ [])) (append_assoc (operations_free outer.operations) free (free_in last))
    ∙ ap (λ gs. to gs (operations_free outer.operations ++ (free ++ free_in last)))
    (sym (map-append kept_guard (guards_of done) (last ∷ [])) ∙ ap guards_shown (sym (guards-more done (MoreGuards sep word test NoGuards))))
  where
    last : grammar.Built
    last = joined_built (infix_chain test)

    kept_guard : grammar.Built → Option Tall
    kept_guard guard = kept guard.tree

    part : Part
    part = part_shown (derived.GuardPart pat arrow from done sep word)

    before : Context
    before = context_with outer free tail.Begin

    to : List (Option Tall) → List Span → Parted
    to gs places = record {
      part = record { pattern = kept (pat_tree pat); from = kept (expr_built from).tree; guards = gs };
      outer = record { heads = heads_shown outer.heads; free = places; operations = operations_shown outer.operations; sign = sign_shown outer.sign; tail = tail.Begin; limit = outer.limit };
    }

-- ---- what is free in a generator

from-free : (pat : Pat) (arrow : BackArrow) (x : Expr) → free_in (expr_built x) ≡ places_shown (gen_free (enums_built (LastGen (GenOf pat arrow x NoGuards))))
from-free pat arrow x = (let f = (expr_built x).free in ap places_shown (sym (append-nil (f ++ []) ∙ append-nil f)))

pub guards-free : (done : List derived.DoneGuard) (sep : Sep) (word : Place) (test : Infix)
    → guards_free done ++ free_in (joined_built (infix_chain test)) ≡ places_shown (free_of (guards_built (derived.guards_before done (MoreGuards sep word test NoGuards))))
guards-free done sep word test =
    sym (places-behind (guards_of done) (joined_built (infix_chain test))) ∙ ap (λ gs. places_shown (free_of gs)) (sym (guards-more done (MoreGuards sep word test NoGuards)))

guarded-free : (pat : Pat) (arrow : BackArrow) (from : Expr) (guards : Guards)
    → free_in (expr_built from) ++ places_shown (free_of (guards_built guards)) ≡ places_shown (gen_free (enums_built (LastGen (GenOf pat arrow from guards))))
guarded-free pat arrow from guards =
    sym (places-append (expr_built from).free (free_of (guards_built guards)))
    ∙ ap places_shown (sym (append-nil ((expr_built from).free ++ free_of (guards_built guards))))

-- ---- a generator that is whole

abbrev pub whole_gens : List derived.DoneGen → Gen → derived.Context → Finished
whole_gens done gen outer = record {
  generators = done_gens done ++ map generator_shown (enums_built (LastGen gen));
  outer = context_with outer (gens_free done ++ places_shown (gen_free (enums_built (LastGen gen)))) tail.Begin;
}

pub finished-there : (done : List derived.DoneGen) (part : derived.Part) (outer c : derived.Context) (s : derived.Tail) (gen : Gen) → Fits (tail_at c s) → PartFits part (tail_at c s)
    → derived.gen_with part (last_expr s (tail_at c s)) (last_chain s (tail_at c s)) ≡ Some gen
    → spec.finished (done_gens done) (part_shown part) (context_with outer (gens_free done ++ part_free part) tail.Begin) (context_shown (tail_at c s)) ≡ whole_gens done gen outer
finished-there done derived.PatPart outer c s gen f k e = cc
finished-there done (derived.FromPart pat arrow) outer c s gen f k e = go (last_expr s (tail_at c s)) refl e where
  to : Generator → List Span → Finished
  to g free = record { generators = done_gens done ++ g ∷ []; outer = context_with outer free tail.Begin }

  go : (o : Option Expr) → last_expr s (tail_at c s) ≡ o → derived.gen_with (derived.FromPart pat arrow) o (last_chain s (tail_at c s)) ≡ Some gen
      → spec.finished (done_gens done) (part_shown (derived.FromPart pat arrow)) (context_with outer (gens_free done ++ []) tail.Begin) (context_shown (tail_at c s)) ≡ whole_gens done gen outer
  go None g h = cc
  go (Some x) g h =
      let same : GenOf pat arrow x NoGuards ≡ gen = cc in
      ap (spec.with_generator (done_gens done)) (from-last pat arrow outer (gens_free done ++ []) (tail_at c s) x (expr-guard c.limit k.0) (last-expr-there c s x f g))
      ∙ ap (λ free. to (generator_shown (gen_built (GenOf pat arrow x NoGuards))) (free ++ free_in (expr_built x))) (append-nil (gens_free done))
      ∙ ap (λ free. to (generator_shown (gen_built (GenOf pat arrow x NoGuards))) (gens_free done ++ free)) (from-free pat arrow x)
      ∙ ap (λ d. whole_gens done d outer) same
finished-there done (derived.GuardPart pat arrow from guards sep word) outer c s gen f k e = go (last_chain s (tail_at c s)) refl e where
  to : Generator → List Span → Finished
  to g free = record { generators = done_gens done ++ g ∷ []; outer = context_with outer free tail.Begin }

  go : (o : Option Infix) → last_chain s (tail_at c s) ≡ o → derived.gen_with (derived.GuardPart pat arrow from guards sep word) (last_expr s (tail_at c s)) o ≡ Some gen
      → spec.finished (done_gens done) (part_shown (derived.GuardPart pat arrow from guards sep word)) (context_with outer (gens_free done ++ (free_in (expr_built from) ++ guards_free guards)) tail.Begin) (context_shown (tail_at c s))
      ≡ whole_gens done gen outer
  go None g h = cc
  go (Some test) g h =
      let all : Guards = derived.guards_before guards (MoreGuards sep word test NoGuards) in
      let same : GenOf pat arrow from all ≡ gen = cc in
      let last = free_in (joined_built (infix_chain test)) in
      ap (spec.with_generator (done_gens done)) (guard-last pat arrow from guards sep word outer (gens_free done ++ (free_in (expr_built from) ++ guards_free guards)) (tail_at c s) test k (last-chain-there c s test f g))
      ∙ ap (to (generator_shown (gen_built (GenOf pat arrow from all))))
      (regroup (gens_free done) (free_in (expr_built from)) (guards_free guards) last
      ∙ ap (λ free. gens_free done ++ (free_in (expr_built from) ++ free)) (guards-free guards sep word test)
      ∙ ap (λ free. gens_free done ++ free) (guarded-free pat arrow from all))
      ∙ ap (λ d. whole_gens done d outer) same
    where
      regroup : (x y z w : List Span) → (x ++ (y ++ z)) ++ w ≡ x ++ (y ++ (z ++ w))
      regroup x y z w = simp append_assoc
