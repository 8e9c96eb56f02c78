-- The generators of a `for`, their guards and their patterns lead from good states to good states.
use Rattle.std.proofs.Common.{◌≡◌, Bool, true, false, ◌&&◌, ◌||◌, if◌then◌else◌, List, [], ◌∷◌, ◌++◌, Option, Some, None, refl, ap, sym, ◌∙◌, subst}
use Rattle.std.specs.Prelude.{not}
use Rattle.scan_tokens.specs.declared.tokens.Newline.TheVariants.{No}
use Rattle.source_grammar.specs.Brackets.{has_newline}
use Rattle.source_grammar.specs.Expressions.{Sep, Expr, ForRound, Enums, LastGen, MoreGens, Gen, GenOf, Guards, NoGuards, MoreGuards, Infix}
use Rattle.source_grammar.specs.ExpressionRules.{Rule, ProperEnums, ProperGen, ProperGuards, takes_operand, keeps_apart, is_nonempty, is_separated}
use Rattle.source_grammar.specs.ExpressionRules as rules
use Rattle.source_grammar.specs.ExpressionTokens.{sep_tokens, gen_tokens, enums_tokens, expr_tokens, guards_tokens}
use Rattle.source_grammar.specs.Lexemes.{Place, Lexeme, BackArrow, back_arrow_token}
use Rattle.source_grammar.specs.Newlines.{newline_before}
use Rattle.source_grammar.specs.Patterns.{Pat, LastAlternative, MoreAlternatives, pat_tokens, pat1_tokens}
use Rattle.parse_patterns.proofs.Begun.{pat1-begins}
use Rattle.parse_patterns.proofs.Derived as patterns
use Rattle.parse_patterns.proofs.Derived.{tokens_in as pattern_tokens_in}
use Rattle.parse_patterns.proofs.Sound.{step-adds}
use Rattle.expr_tails.specs.declared.states.Limit.TheVariants as limit
use Rattle.expr_laws.proofs.Behind.{or-true}
use Rattle.expr_laws.proofs.Derived.{Tail, Begin, AtSemi, AtGuardSemi, InPattern, Of, Head, Context, DoneGuard, Part, PatPart, FromPart, GuardPart, DoneGen, Bracket, GroupBracket, ArgsBracket, NewArgsBracket, DoTest, GensBracket, Frame, State, chain_at, headed_all, guards_before, enums_before, waits, at, fresh, state, gen_with, ended_expr, done_gen, unless, gen_at, is_apart, guard_with, guard_at, frame, next_pattern, guarded_in, guarded_by, next_in, next_by, begins_pattern, is_generator_token, pattern_in, pattern_of, arrowed_in, in_pattern, behind_gens, begun_pattern}
use Rattle.expr_laws.proofs.Derived as derived
use Rattle.expr_laws.proofs.Fitting.{Fits, IsGenerator}
use Rattle.expr_laws.proofs.GeneratorsSound.{pattern-tokens}
use Rattle.expr_laws.proofs.Good.{first_apart, part_front, GoodPattern, ProperChain, GoodGuards, GoodGens, GoodPart, GoodContext, GoodBracket, GoodFrame, GoodFrames}
use Rattle.expr_laws.proofs.GoodFrames.{AllGood, good-none, good-some, good-if, fresh-good, pattern-context}
use Rattle.expr_laws.proofs.GoodNames.{AllRested, rest-none}
use Rattle.expr_laws.proofs.GoodPatterns.{pattern-token, pattern-good}
use Rattle.expr_laws.proofs.GoodPrims.{GoodExpr, alone-joined, is_at_return, operand-chain, alone-level}
use Rattle.expr_laws.proofs.GoodWords.{head-good}
use Rattle.expr_laws.proofs.HeadsGood.{Ended, all-ended, ended-good}
use Rattle.expr_laws.proofs.LastingFrames.{Headable}
use Rattle.expr_laws.proofs.Seen.{ABackArrow, AnId, AnUnderscore, OpensRound, Seen, shown_token}

-- ---- newlines

nonempty-behind : (xs : List Lexeme) (y : Lexeme) (ys : List Lexeme) → is_nonempty (xs ++ y ∷ ys) ≡ true
nonempty-behind [] y ys = refl
nonempty-behind (x ∷ xs) y ys = refl

nonempty-front : (xs ys : List Lexeme) → is_nonempty xs ≡ true → is_nonempty (xs ++ ys) ≡ true
nonempty-front [] ys e = cc
nonempty-front (x ∷ xs) ys e = refl

newline-front : (xs ys : List Lexeme) → is_nonempty xs ≡ true → newline_before (xs ++ ys) ≡ newline_before xs
newline-front [] ys e = cc
newline-front (x ∷ xs) ys e = refl

pat-nonempty : (d : Pat) → is_nonempty (pat_tokens d) ≡ true
pat-nonempty (LastAlternative d) = ap is_nonempty (pat1-begins d).begins.is
pat-nonempty (MoreAlternatives d stroke ds) = nonempty-front (pat1_tokens d) _ (ap is_nonempty (pat1-begins d).begins.is)

gen-nonempty : (d : Gen) → is_nonempty (gen_tokens d) ≡ true
gen-nonempty (GenOf pat arrow from guards) = nonempty-behind (pat_tokens pat) (back_arrow_token arrow) (expr_tokens from ++ guards_tokens guards)

-- ---- guards

first-is : (done : List DoneGuard) (sep : Sep) (place : Place) (test : Infix) (rest : Guards) → keeps_apart (guards_before done (MoreGuards sep place test rest)) ≡ first_apart done sep place
first-is [] sep place test rest = refl
first-is (g ∷ done) sep place test rest = first-is done g.sep g.word g.test (MoreGuards sep place test rest)

module _ (rule : Rule) where
  guards-proper : (done : List DoneGuard) (rest : Guards) → GoodGuards rule done → ProperGuards rule rest → ProperGuards rule (guards_before done rest)
  guards-proper [] rest g p = p
  guards-proper (d ∷ done) rest g p = guards-proper done (MoreGuards d.sep d.word d.test rest) g.1 (g.0.proper, g.0.one_side, p)

  -- ---- a generator that ends

  -- what ended in its last part
  record PartEnds (expr : Option Expr) (chain : Option Infix) (returns : Bool) : Type 0 where
    expr_is : (e : Expr) → expr ≡ Some e → Ended rule e returns
    chain_is : (d : Infix) → chain ≡ Some d → ProperChain rule d

  none-ends : (returns : Bool) → PartEnds None None returns
  none-ends returns = record { expr_is = λ e k. absurd (no-expr e k); chain_is = λ d k. absurd (no-chain d k) } where
    no-expr : (e : Expr) → None ≡ Some e → ⊥
    no-expr e k = cc

    no-chain : (d : Infix) → None ≡ Some d → ⊥
    no-chain d k = cc

  record GoodGen (part : Part) (s : Tail) (d : Gen) : Type 0 where
    proper : ProperGen rule d
    newline : newline_before (gen_tokens d) ≡ newline_before (part_front part s)

  gen-as : (part : Part) (s : Tail) (d x : Gen) → Some x ≡ Some d → GoodGen part s x → GoodGen part s d
  gen-as part s d x e g = (let same : x ≡ d = cc in subst (GoodGen part s) same g)

  gen-good : (part : Part) (s : Tail) (expr : Option Expr) (chain : Option Infix) (returns : Bool) (d : Gen) → GoodPart rule part → PartEnds expr chain returns → gen_with part expr chain ≡ Some d → GoodGen part s d
  gen-good PatPart s expr chain returns d g ends e = cc
  gen-good (FromPart pat arrow) s None chain returns d g ends e = cc
  gen-good (FromPart pat arrow) s (Some from) chain returns d g ends e =
      gen-as (FromPart pat arrow) s d (GenOf pat arrow from NoGuards) e (record {
        proper = (g.0, g.1, (ends.expr_is from refl).proper, or-true (not (takes_operand from)), tt);
        newline = newline-front (pat_tokens pat) _ (pat-nonempty pat);
      })
  gen-good (GuardPart pat arrow from done sep place) s expr None returns d g ends e = cc
  gen-good (GuardPart pat arrow from done sep place) s expr (Some test) returns d g ends e =
      let chain = ends.chain_is test refl in
      let guards : Guards = guards_before done (MoreGuards sep place test NoGuards) in
      gen-as (GuardPart pat arrow from done sep place) s d (GenOf pat arrow from guards) e (record {
        proper = (
          g.0,
          g.1,
          g.2,
          ap (λ b. not (takes_operand from) || b) (first-is done sep place test NoGuards) ∙ g.3,
          guards-proper done (MoreGuards sep place test NoGuards) g.4 (chain.proper, chain.one_side, tt),
        );
        newline = newline-front (pat_tokens pat) _ (pat-nonempty pat);
      })

  record GoodDone (part : Part) (s : Tail) (d : DoneGen) : Type 0 where
    gen : GoodGen part s d.gen

  done-good : (part : Part) (s : Tail) (v : Option Gen) (sep : Sep) (d : DoneGen) → ((x : Gen) → v ≡ Some x → GoodGen part s x) → done_gen v sep ≡ Some d → GoodDone part s d
  done-good part s None sep d g e = cc
  done-good part s (Some x) sep d g e = (let same : record { gen = x; sep = sep } ≡ d = cc in subst (GoodDone part s) same (record { gen = g x refl }))

  -- what ended in a context
  unless-ended : (w : Bool) (hs : List Head) (o : Option Expr) (e : Expr) (returns : Bool) → (headed_all hs o ≡ Some e → Ended rule e returns) → unless w (headed_all hs o) ≡ Some e → Ended rule e returns
  unless-ended true hs o e returns k h = cc
  unless-ended false hs o e returns k h = k h

  semi-ends : (c : Context) (x : Expr) (p : Place) (ps : List Place) → Fits (at c (AtSemi x p ps)) → GoodContext rule (at c (AtSemi x p ps))
      → PartEnds (unless (waits c.heads) (headed_all c.heads (Some x))) None (takes_operand x)
  semi-ends c x p ps f g = record {
    expr_is = λ e k. unless-ended (waits c.heads) c.heads (Some x) e (takes_operand x)
        (λ h. all-ended rule c.heads (Some x) e (takes_operand x) g.level.heads
        (λ body is. (let same : x ≡ body = cc in subst (GoodExpr rule c.heads) same (record { proper = g.tail.0; joined = alone-level rule c (AtSemi x p ps) f refl g })))
        (λ body is. (let same : x ≡ body = cc in ap takes_operand (sym same))) h) k;
    chain_is = (none-ends false).chain_is;
  }

  guard-semi-ends : (c : Context) (test : Infix) (p : Place) (ps : List Place) → GoodContext rule (at c (AtGuardSemi test p ps)) → PartEnds None (Some test) false
  guard-semi-ends c test p ps g = record { expr_is = (none-ends false).expr_is; chain_is = λ d k. (let same : test ≡ d = cc in subst (ProperChain rule) same g.tail) }

  ends-here : (c : Context) (s : Tail) → Fits (at c s) → GoodContext rule (at c s) → PartEnds (ended_expr (at c s)) (chain_at (at c s)) (is_at_return s)
  ends-here c s f g = record {
    expr_is = λ e k. ended-good rule (at c s) e f g k;
    chain_is = λ d k. (operand-chain rule c s (derived.prim_at s) d (λ prim there. there) f.one_side g k).chain;
  }

  gen-at-good : (part : Part) (c : Context) (s : Tail) (d : DoneGen) → Fits (at c s) → GoodContext rule (at c s) → GoodPart rule part → gen_at part s (at c s) ≡ Some d → GoodDone part s d
  gen-at-good part c (AtSemi x p ps) d f g k e =
      done-good part (AtSemi x p ps) _ (p ∷ ps) d (λ gen there. gen-good part (AtSemi x p ps) _ None (takes_operand x) gen k (semi-ends c x p ps f g) there) e
  gen-at-good part c (AtGuardSemi test p ps) d f g k e =
      done-good part (AtGuardSemi test p ps) _ (p ∷ ps) d (λ gen there. gen-good part (AtGuardSemi test p ps) None (Some test) false gen k (guard-semi-ends c test p ps g) there) e
  gen-at-good part c s d f g k e = done-good part s _ [] d (λ gen there. gen-good part s (ended_expr (at c s)) (chain_at (at c s)) (is_at_return s) gen k (ends-here c s f g) there) e

  -- ---- the generators of a head

  separated : (d : DoneGen) (enums : Enums) → is_apart d.sep (newline_before (enums_tokens enums)) ≡ true → is_separated (gen_tokens d.gen) d.sep (enums_tokens enums) ≡ true
  separated d enums e = go d.sep e where
    go : (sep : Sep) → is_apart sep (newline_before (enums_tokens enums)) ≡ true → is_separated (gen_tokens d.gen) sep (enums_tokens enums) ≡ true
    go [] h = ap (λ b. b && has_newline (newline_before (enums_tokens enums))) (gen-nonempty d.gen) ∙ h
    go (p ∷ ps) h = refl

  enums-proper : (done : List DoneGen) (enums : Enums) → GoodGens rule done (newline_before (enums_tokens enums)) → ProperEnums rule enums → ProperEnums rule (enums_before done enums)
  enums-proper [] enums g p = p
  enums-proper (d ∷ done) enums g p =
      enums-proper done (MoreGens d.gen d.sep enums)
      (subst (GoodGens rule done)
      (sym (newline-front (gen_tokens d.gen ++ sep_tokens d.sep) (enums_tokens enums) (nonempty-front (gen_tokens d.gen) (sep_tokens d.sep) (gen-nonempty d.gen))
      ∙ newline-front (gen_tokens d.gen) (sep_tokens d.sep) (gen-nonempty d.gen))) g.2)
      (g.0, separated d enums g.1, p)

  pub gens-closed : (place o p : Place) (done : List DoneGen) (part : Part) (c : Context) (s : Tail) (outer : Context) → Fits (at c s) → GoodContext rule (at c s)
      → GoodFrame rule (frame (GensBracket place o done part) outer) s → Headable outer → AllRested rule (behind_gens place o done p outer (gen_at part s (at c s)))
  gens-closed place o p done part c s outer f g k h = go (gen_at part s (at c s)) refl where
    head : (d : Gen) (sep : Sep) → GoodGen part s d → AllRested rule (behind_gens place o done p outer (Some (record { gen = d; sep = sep })))
    head d [] i =
        head-good rule outer (Of (ForRound place o (enums_before done (LastGen d)) p None)) h.fresh (
          (λ body j. enums-proper done (LastGen d) (subst (GoodGens rule done) (sym i.newline) k.bracket.1) i.proper),
          alone-joined outer.heads outer.operations outer.sign place.before h.fresh k.level.joined,
          k.level.heads,
        ) refl
    head d (q ∷ qs) i = rest-none rule

    go : (v : Option DoneGen) → gen_at part s (at c s) ≡ v → AllRested rule (behind_gens place o done p outer v)
    go None e = rest-none rule
    go (Some d) e = head d.gen d.sep (gen-at-good part c s d f g k.bracket.0 e).gen

  -- ---- guards

  record GoodNext (part : Part) (s : Tail) (q : Part) : Type 0 where
    part_is : GoodPart rule q
    newline : newline_before (part_front part s) ≡ newline_before (part_front q Begin)

  next-as : (part : Part) (s : Tail) (q x : Part) → Some x ≡ Some q → GoodNext part s x → GoodNext part s q
  next-as part s q x e g = (let same : x ≡ q = cc in subst (GoodNext part s) same g)

  guard-good : (part : Part) (s : Tail) (expr : Option Expr) (chain : Option Infix) (returns : Bool) (sep : Sep) (place : Place) (q : Part) → GoodPart rule part → PartEnds expr chain returns
      → (not returns || rules.is_apart sep place) ≡ true → guard_with part expr chain sep place ≡ Some q → GoodNext part s q
  guard-good PatPart s expr chain returns sep place q g ends a e = cc
  guard-good (FromPart pat arrow) s None chain returns sep place q g ends a e = cc
  guard-good (FromPart pat arrow) s (Some from) chain returns sep place q g ends a e =
      let is = ends.expr_is from refl in
      next-as (FromPart pat arrow) s q (GuardPart pat arrow from [] sep place) e (record {
        part_is = (g.0, g.1, is.proper, ap (λ b. not b || rules.is_apart sep place) is.operand ∙ a, tt);
        newline = refl;
      })
  guard-good (GuardPart pat arrow from done before first) s expr None returns sep place q g ends a e = cc
  guard-good (GuardPart pat arrow from done before first) s expr (Some test) returns sep place q g ends a e =
      next-as (GuardPart pat arrow from done before first) s q (GuardPart pat arrow from (record { sep = before; word = first; test = test } ∷ done) sep place) e (record {
        part_is = (g.0, g.1, g.2, g.3, (ends.chain_is test refl, g.4));
        newline = refl;
      })

  -- directly behind `return` no guard begins
  guard-at-good : (part : Part) (c : Context) (s : Tail) (place : Place) (q : Part) → Fits (at c s) → GoodContext rule (at c s) → GoodPart rule part → (is_at_return s ≡ true → has_newline place.before ≡ true)
      → guard_at part s (at c s) place ≡ Some q → GoodNext part s q
  guard-at-good part c (AtSemi x p ps) place q f g k n e =
      guard-good part (AtSemi x p ps) _ None (takes_operand x) (p ∷ ps) place q k (semi-ends c x p ps f g) (or-true (not (takes_operand x))) e
  guard-at-good part c (AtGuardSemi test p ps) place q f g k n e =
      guard-good part (AtGuardSemi test p ps) None (Some test) false (p ∷ ps) place q k (guard-semi-ends c test p ps g) refl e
  guard-at-good part c s place q f g k n e =
      guard-good part s (ended_expr (at c s)) (chain_at (at c s)) (is_at_return s) [] place q k (ends-here c s f g) (newline (is_at_return s) n) e
    where
      newline : (b : Bool) → (b ≡ true → has_newline place.before ≡ true) → (not b || has_newline place.before) ≡ true
      newline true h = h refl
      newline false h = refl

  pub guarded-good : (p : Place) (fs : List Frame) (c : Context) (s : Tail) → Fits (at c s) → GoodContext rule (at c s) → GoodFrames rule fs s → (is_at_return s ≡ true → has_newline p.before ≡ true)
      → AllGood rule (derived.guarded p fs (at c s))
  guarded-good p [] c s f g r n = good-none rule
  guarded-good p (k ∷ fs) c s f g r n = go k.bracket k.outer r.0 r.1 where
    guard : (v : Option Part) (place o : Place) (done : List DoneGen) (part : Part) (outer : Context) → guard_at part s (at c s) p ≡ v → GoodFrame rule (frame (GensBracket place o done part) outer) s
        → GoodFrames rule fs outer.tail → AllGood rule (guarded_in v place o done outer fs)
    guard None place o done part outer e h q = good-none rule
    guard (Some next) place o done part outer e h q =
        let is = guard-at-good part c s p next f g h.bracket.0 n e in
        good-some rule _ (fresh-good rule (frame (GensBracket place o done next) outer ∷ fs) limit.Guard
        (record { level = h.level; bracket = (is.part_is, subst (GoodGens rule done) is.newline h.bracket.1); param = h.param }, q))

    go : (b : Bracket) (outer : Context) → GoodFrame rule (frame b outer) s → GoodFrames rule fs outer.tail → AllGood rule (guarded_by b p outer (at c s) fs)
    go (GensBracket place o done part) outer h q = guard (guard_at part s (at c s) p) place o done part outer refl h q
    go _ outer h q = good-none rule

  -- ---- patterns

  -- a token of a pattern, where the brackets stay good
  pattern-state : (y : Seen) (x : Lexeme) (p : patterns.State) (fs : List Frame) → shown_token y ≡ x → IsGenerator p → GoodPattern p
      → ((q : patterns.State) → patterns.step p x ≡ Some q → GoodFrames rule fs (InPattern q)) → is_generator_token p.current y ≡ true → AllGood rule (pattern_in fs (patterns.step p x))
  pattern-state y x p fs z i g k t = go (patterns.step p x) refl where
    go : (v : Option patterns.State) → patterns.step p x ≡ v → AllGood rule (pattern_in fs v)
    go None e = good-none rule
    go (Some q) e = good-some rule _ (record {
      context = record { level = record { heads = tt; operations = tt; joined = tt; near = tt; signed = tt }; tail = pattern-token y x p q z i g t e; param = λ b. refl };
      rests = refl;
      frames = k q e;
    })

  -- the newline before the first token of a pattern stays
  gens-more : (done : List DoneGen) (xs : List Lexeme) (x : Lexeme) → GoodGens rule done (newline_before xs) → GoodGens rule done (newline_before (xs ++ x ∷ []))
  gens-more [] xs x g = tt
  gens-more (d ∷ done) (z ∷ xs) x g = g
  gens-more (d ∷ done) [] x g = (g.0, go d.sep g.1, g.2) where
    go : (sep : Sep) → is_apart sep No ≡ true → is_apart sep x.place.before ≡ true
    go [] e = cc
    go (p ∷ ps) e = refl

  bracket-more : (b : Bracket) (p q : patterns.State) (x : Lexeme) → pattern_tokens_in q ≡ pattern_tokens_in p ++ x ∷ [] → GoodBracket rule b (InPattern p) → GoodBracket rule b (InPattern q)
  bracket-more (GensBracket place o done PatPart) p q x e g = (tt, subst (λ xs. GoodGens rule done (newline_before xs)) (sym e) (gens-more done (pattern_tokens_in p) x g.1))
  bracket-more (GensBracket place o done (FromPart pat arrow)) p q x e g = g
  bracket-more (GensBracket place o done (GuardPart pat arrow from guards sep w)) p q x e g = g
  bracket-more (GroupBracket o done head) p q x e g = g
  bracket-more (ArgsBracket prim o done) p q x e g = g
  bracket-more (NewArgsBracket place type o done) p q x e g = g
  bracket-more (DoTest place body sep until o) p q x e g = g
  bracket-more _ p q x e g = tt

  frames-more : (fs : List Frame) (p q : patterns.State) (x : Lexeme) → pattern_tokens_in q ≡ pattern_tokens_in p ++ x ∷ [] → GoodFrames rule fs (InPattern p) → GoodFrames rule fs (InPattern q)
  frames-more [] p q x e g = tt
  frames-more (f ∷ fs) p q x e g = (record { level = g.0.level; bracket = bracket-more f.bracket p q x e g.0.bracket; param = g.0.param }, g.1)

  -- `<-` behind a pattern
  arrow-good : (p : patterns.State) (v : Option Pat) (arrow : BackArrow) (fs : List Frame) → pattern_of p ≡ v → IsGenerator p → GoodPattern p → GoodFrames rule fs (InPattern p) → AllGood rule (derived.arrowed v arrow fs)
  arrow-good p v arrow [] e i g r = good-none rule
  arrow-good p None arrow (f ∷ fs) e i g r = good-none rule
  arrow-good p (Some pat) arrow (f ∷ fs) e i g r = go f.bracket f.outer r.0 r.1 where
    go : (b : Bracket) (outer : Context) → GoodFrame rule (frame b outer) (InPattern p) → GoodFrames rule fs outer.tail → AllGood rule (arrowed_in (Some pat) arrow b outer fs)
    go (GensBracket place o done PatPart) outer k q =
        let read = pattern-good p pat i g e in
        good-some rule _ (fresh-good rule (frame (GensBracket place o done (FromPart pat arrow)) outer ∷ fs) limit.Expr (
          record {
            level = k.level;
            bracket = ((read.proper, read.generator), subst (λ xs. GoodGens rule done (newline_before xs)) (sym (pattern-tokens p pat e)) k.bracket.1);
            param = k.param;
          },
          q,
        ))
    go _ outer k q = good-none rule

  pub in-pattern-good : (y : Seen) (x : Lexeme) (p : patterns.State) (fs : List Frame) → shown_token y ≡ x → IsGenerator p → GoodPattern p → GoodFrames rule fs (InPattern p) → AllGood rule (in_pattern y x p fs)
  in-pattern-good (ABackArrow arrow) x p fs z i g r = arrow-good p (pattern_of p) arrow fs refl i g r
  in-pattern-good y x p fs z i g r =
      good-if rule (is_generator_token p.current y) _ _ (pattern-state y x p fs z i g (λ q e. frames-more fs p q x (step-adds p x q e) r)) (λ t. good-none rule)

  -- ---- the next generator

  begun-in : (y : Seen) (x : Lexeme) (p : patterns.State) (fs : List Frame) → begins_pattern y ≡ true → in_pattern y x p fs ≡ (if is_generator_token p.current y then pattern_in fs (patterns.step p x) else None)
  begun-in (AnId id) x p fs b = refl
  begun-in (AnUnderscore place) x p fs b = refl
  begun-in (OpensRound o) x p fs b = refl
  begun-in _ x p fs b = cc

  -- the first token of its pattern
  first-token : (y : Seen) (x : Lexeme) (d : DoneGen) (place o : Place) (done : List DoneGen) (part : Part) (s : Tail) (outer : Context) (fs : List Frame) → shown_token y ≡ x → begins_pattern y ≡ true
      → GoodGen part s d.gen → GoodFrame rule (frame (GensBracket place o done part) outer) s → GoodFrames rule fs outer.tail → is_apart d.sep x.place.before ≡ true
      → AllGood rule (in_pattern y x (patterns.machine).start (frame (GensBracket place o (d ∷ done) PatPart) outer ∷ fs))
  first-token y x d place o done part s outer fs z b i k r a =
      let fs_now : List Frame = frame (GensBracket place o (d ∷ done) PatPart) outer ∷ fs in
      subst (AllGood rule) (sym (begun-in y x (patterns.machine).start fs_now b))
      (good-if rule (is_generator_token (patterns.machine).start.current y) _ _
      (pattern-state y x (patterns.machine).start fs_now z (record { current = refl; earlier = refl }) (pattern-context rule).tail
      (λ q e. (
        record {
          level = k.level;
          bracket = (
            tt,
            subst (λ xs. GoodGens rule (d ∷ done) (newline_before xs)) (sym (step-adds (patterns.machine).start x q e))
                (i.proper, a, subst (GoodGens rule done) (sym i.newline) k.bracket.1),
          );
          param = k.param;
        },
        r,
      )))
      (λ t. good-none rule))

  pub next-good : (y : Seen) (x : Lexeme) (fs : List Frame) (c : Context) (s : Tail) → shown_token y ≡ x → begins_pattern y ≡ true → Fits (at c s) → GoodContext rule (at c s) → GoodFrames rule fs s
      → AllGood rule (begun_pattern (derived.next_generator fs (at c s) x.place.before) y x)
  next-good y x [] c s z b f g r = good-none rule
  next-good y x (k ∷ fs) c s z b f g r = go k.bracket k.outer r.0 r.1 where
    apart : (d : DoneGen) (place o : Place) (done : List DoneGen) (part : Part) (outer : Context) (t : Bool) → is_apart d.sep x.place.before ≡ t → GoodGen part s d.gen
        → GoodFrame rule (frame (GensBracket place o done part) outer) s → GoodFrames rule fs outer.tail
        → AllGood rule (begun_pattern (if t then Some (state (frame (GensBracket place o (d ∷ done) PatPart) outer ∷ fs) next_pattern) else None) y x)
    apart d place o done part outer true a i h q = first-token y x d place o done part s outer fs z b i h q a
    apart d place o done part outer false a i h q = good-none rule

    next : (v : Option DoneGen) (place o : Place) (done : List DoneGen) (part : Part) (outer : Context) → gen_at part s (at c s) ≡ v → GoodFrame rule (frame (GensBracket place o done part) outer) s
        → GoodFrames rule fs outer.tail → AllGood rule (begun_pattern (next_in v place o done outer x.place.before fs) y x)
    next None place o done part outer e h q = good-none rule
    next (Some d) place o done part outer e h q =
        apart d place o done part outer (is_apart d.sep x.place.before) refl (gen-at-good part c s d f g h.bracket.0 e).gen h q

    go : (t : Bracket) (outer : Context) → GoodFrame rule (frame t outer) s → GoodFrames rule fs outer.tail → AllGood rule (begun_pattern (next_by t outer (at c s) x.place.before fs) y x)
    go (GensBracket place o done part) outer h q = next (gen_at part s (at c s)) place o done part outer refl h q
    go _ outer h q = good-none rule
