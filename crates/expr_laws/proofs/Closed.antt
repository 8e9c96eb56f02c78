-- A closing parenthesis, the reader as the machine, whatever bracket it closes.
use Rattle.std.proofs.Common.{◌≡◌, Bool, true, false, ◌&&◌, if◌then◌else◌, List, [], ◌∷◌, ◌++◌, map, Option, Some, None, option_map, refl, ap, sym, ◌∙◌, append_assoc, append-nil}
use Rattle.source_grammar.specs.Comprehensions.{gen_free}
use Rattle.source_grammar.specs.Expressions.{Enums, LastGen, MoreGens, Gen, ForRound}
use Rattle.source_grammar.specs.ExpressionTrees.{enums_built, gen_built}
use Rattle.source_grammar.specs.Lexemes.{Place}
use Rattle.source_grammar.specs.Placeholders.{free_of}
use Rattle.tree_lower.specs.Keeping.{places_shown, generator_shown}
use Rattle.expr_tails.specs.declared.states.Context.{Context}
use Rattle.expr_tails.specs.declared.states.HeadKind.TheVariants as head
use Rattle.expr_tails.specs.declared.states.Tail.TheVariants as tail
use Rattle.expr_tails.specs.Ending.{is_expr}
use Rattle.expr_tails.specs.Tails.{from_start}
use Rattle.expr_frames.specs.declared.generators.Finished.{Finished}
use Rattle.expr_frames.specs.Frames as spec
use Rattle.expr_frames.specs.Generators.{finished}
use Rattle.expr_frames.specs.Heads.{with_head}
use Rattle.expr_laws.proofs.Agreeing.{expr-shown, and-false}
use Rattle.expr_laws.proofs.Beginning.{places-append}
use Rattle.expr_laws.proofs.Closing.{emptied-same, closes, closed-group, closed-args, closed-new, closed-do, closed-if, closed-while}
use Rattle.expr_laws.proofs.Decided.{behind-head}
use Rattle.expr_laws.proofs.Derived as derived
use Rattle.expr_laws.proofs.Elements.{untouched-shown, untouched-none}
use Rattle.expr_laws.proofs.Fitting.{Fits, BracketFits, PartFits, Together, FramesFit}
use Rattle.expr_laws.proofs.Guarding.{last_expr, last_chain, part-ends, finished-there}
use Rattle.expr_laws.proofs.Shown.{context_with, context_shown, done_gens, gens_free, part_shown, part_free, bracket_shown, bracket_start, bracket_free, frame_shown, shown}

-- ---- all generators

gens-built : (done : List derived.DoneGen) (es : Enums) → map generator_shown (enums_built (derived.enums_before done es)) ≡ done_gens done ++ map generator_shown (enums_built es)
gens-built [] es = refl
gens-built (d ∷ done) es =
    gens-built done (MoreGens d.gen d.sep es) ∙ sym (append_assoc (done_gens done) (generator_shown (gen_built d.gen) ∷ []) (map generator_shown (enums_built es)))

one-more : (a b : List Place) → places_shown (a ++ b) ≡ places_shown (a ++ []) ++ places_shown b
one-more a b = simp (append-nil, places-append)

gens-free : (done : List derived.DoneGen) (es : Enums)
    → places_shown (gen_free (enums_built (derived.enums_before done es))) ≡ gens_free done ++ places_shown (gen_free (enums_built es))
gens-free [] es = refl
gens-free (d ∷ done) es =
    gens-free done (MoreGens d.gen d.sep es)
    ∙ ap (λ f. gens_free done ++ f) (one-more ((gen_built d.gen).from.free ++ free_of (gen_built d.gen).guards) (gen_free (enums_built es)))
    ∙ sym (append_assoc (gens_free done) (places_shown (gen_free (enums_built (LastGen d.gen)))) (places_shown (gen_free (enums_built es))))

for-there : (word o : Place) (done : List derived.DoneGen) (gen : Gen) (p : Place) (outer : derived.Context) → outer.operations ≡ []
    → with_head (context_with outer (gens_free done ++ places_shown (gen_free (enums_built (LastGen gen)))) tail.Begin) word.span.start (head.For (done_gens done ++ map generator_shown (enums_built (LastGen gen))) false)
    ≡ context_shown (derived.with_head outer (derived.Of (ForRound word o (derived.enums_before done (LastGen gen)) p None)))
for-there word o done gen p outer none =
    ap (λ gens. with_head (context_with outer (gens_free done ++ places_shown (gen_free (enums_built (LastGen gen)))) tail.Begin) word.span.start (head.For gens false)) (sym (gens-built done (LastGen gen)))
    ∙ behind-head outer (derived.Of (ForRound word o (derived.enums_before done (LastGen gen)) p None)) (gens_free done ++ places_shown (gen_free (enums_built (LastGen gen)))) tail.Begin none
    (sym (gens-free done (LastGen gen)))

no-gens : (word o : Place) (done : List derived.DoneGen) (p : Place) (outer : derived.Context) (v : Option Gen) (q : Place) (qs : List Place)
    → None ≡ option_map context_shown (derived.behind_gens word o done p outer (derived.done_gen v (q ∷ qs)))
no-gens word o done p outer None q qs = refl
no-gens word o done p outer (Some gen) q qs = refl

-- where no `;` stands behind it
last-gens : (word o : Place) (done : List derived.DoneGen) (part : derived.Part) (outer c : derived.Context) (s : derived.Tail) (p : Place) → Fits (derived.at c s) → PartFits part (derived.at c s)
    → outer.operations ≡ [] → is_expr (context_shown (derived.at c s)) ≡ derived.is_some (derived.gen_with part (last_expr s (derived.at c s)) (last_chain s (derived.at c s)))
    → closes (derived.GensBracket word o done part) outer (derived.at c s) p
    ≡ option_map context_shown (derived.behind_gens word o done p outer (derived.done_gen (derived.gen_with part (last_expr s (derived.at c s)) (last_chain s (derived.at c s))) []))
last-gens word o done part outer c s p f k none e =
    ap (λ b. if b then Some (to (finished (done_gens done) (part_shown part) (context_with outer (gens_free done ++ part_free part) tail.Begin) (context_shown (derived.at c s)))) else None) e
    ∙ go (derived.gen_with part (last_expr s (derived.at c s)) (last_chain s (derived.at c s))) refl
  where
    to : Finished → Context
    to found = with_head found.outer word.span.start (head.For found.generators false)

    go : (v : Option Gen) → derived.gen_with part (last_expr s (derived.at c s)) (last_chain s (derived.at c s)) ≡ v
        → (if derived.is_some v then Some (to (finished (done_gens done) (part_shown part) (context_with outer (gens_free done ++ part_free part) tail.Begin) (context_shown (derived.at c s)))) else None)
        ≡ option_map context_shown (derived.behind_gens word o done p outer (derived.done_gen v []))
    go None g = refl
    go (Some gen) g = ap (λ found. Some (to found)) (finished-there done part outer c s gen f k g) ∙ ap Some (for-there word o done gen p outer none)

closed-gens : (word o : Place) (done : List derived.DoneGen) (part : derived.Part) (outer c : derived.Context) (s : derived.Tail) (p : Place) → Fits (derived.at c s) → PartFits part (derived.at c s)
    → outer.operations ≡ []
    → closes (derived.GensBracket word o done part) outer (derived.at c s) p ≡ option_map context_shown (derived.behind_gens word o done p outer (derived.gen_at part s (derived.at c s)))
closed-gens word o done part outer c (derived.AtSemi expr q qs) p f k none =
    no-gens word o done p outer (derived.gen_with part (last_expr (derived.AtSemi expr q qs) (derived.at c (derived.AtSemi expr q qs))) None) q qs
closed-gens word o done part outer c (derived.AtGuardSemi test q qs) p f k none =
    no-gens word o done p outer (derived.gen_with part None (Some test)) q qs
closed-gens word o done part outer c s p f k none = last-gens word o done part outer c s p f k none (part-ends part c s f k)

-- ---- any bracket

closed-in : (b : derived.Bracket) (outer c : derived.Context) (p : Place) → Fits c → BracketFits b outer → Together b c
    → closes b outer c p ≡ option_map context_shown (derived.closed_in b p c outer)
closed-in (derived.GroupBracket o done may) outer c p f b t = closed-group o done may outer c p f
closed-in (derived.ArgsBracket prim o done) outer c p f b t = closed-args prim o done outer c p f
closed-in (derived.NewArgsBracket word type o done) outer c p f b t = closed-new word type o done outer c p f
closed-in (derived.IfTest word o) outer c p f b t = closed-if word o outer c p f b
closed-in (derived.WhileTest word o) outer c p f b t = closed-while word o outer c p f b
closed-in (derived.DoTest word body sep until o) outer c p f b t = closed-do word body sep until o outer c p f
closed-in (derived.GensBracket word o done part) outer c p f b t = closed-gens word o done part outer c c.tail p f t b

frame-closed : (b : derived.Bracket) (outer c : derived.Context) (p : Place) → Fits c → BracketFits b outer → Together b c
    → spec.closed_frame (frame_shown (derived.frame b outer)) (context_shown c) p.span.end ≡ option_map context_shown (derived.closed_frame p (derived.frame b outer) c)
frame-closed b outer c p f k t =
    ap (λ u. if spec.may_be_empty (bracket_shown b) && u then empty else closes b outer c p) (untouched-shown c) ∙ go (derived.is_untouched c) refl
  where
    empty : Option Context
    empty = Some (spec.closed_list (bracket_shown b) (from_start (bracket_start b) p.span.end) (context_with outer (bracket_free b) tail.Begin))

    go : (u : Bool) → derived.is_untouched c ≡ u
        → (if spec.may_be_empty (bracket_shown b) && u then empty else closes b outer c p)
        ≡ option_map context_shown (if u then derived.emptied b p outer else derived.closed_in b p c outer)
    go true e =
        ap (λ x. if spec.may_be_empty (bracket_shown b) && true then empty else (if x then Some (spec.closed_in (bracket_shown b) (from_start (bracket_start b) p.span.end) (context_with outer (bracket_free b) tail.Begin) (context_shown c)) else None))
        (expr-shown c ∙ untouched-none c e)
        ∙ emptied-same b outer p
    go false e = ap (λ x. if x then empty else closes b outer c p) (and-false (spec.may_be_empty (bracket_shown b))) ∙ closed-in b outer c p f k t

in-state : (fs : List derived.Frame) (o : Option derived.Context) → spec.in_state (map frame_shown fs) (option_map context_shown o) ≡ option_map shown (derived.in_state fs o)
in-state fs None = refl
in-state fs (Some c) = refl

-- what a context becomes, with the frames
pub in-frames : (fs : List derived.Frame) (o : Option Context) (v : Option derived.Context) → o ≡ option_map context_shown v
    → spec.in_state (map frame_shown fs) o ≡ option_map shown (derived.in_state fs v)
in-frames fs o v e = ap (spec.in_state (map frame_shown fs)) e ∙ in-state fs v

pub closed-same : (fs : List derived.Frame) (c : derived.Context) (p : Place) → Fits c → FramesFit fs c
    → spec.round_closed (map frame_shown fs) (context_shown c) p.span.end ≡ option_map shown (derived.closed p fs c)
closed-same [] c p f k = refl
closed-same (g ∷ fs) c p f k = in-frames fs _ _ (frame-closed g.bracket g.outer c p f k.0 k.1)
