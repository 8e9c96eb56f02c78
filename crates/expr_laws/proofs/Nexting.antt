-- The pattern of a generator, the next generator, and the next guard, the reader as the machine.
use Rattle.std.proofs.Common.{◌≡◌, Bool, true, false, ◌&&◌, ◌||◌, if◌then◌else◌, List, [], ◌∷◌, ◌++◌, map, Option, Some, None, option_map, refl, ap, sym, ◌∙◌, append_assoc, append-nil}
use Rattle.std.specs.Prelude.{not}
use Rattle.pc_terms.specs.declared.problems.Span.{Span}
use Rattle.scan_tokens.specs.declared.tokens.Newline.{Newline}
use Rattle.source_grammar.specs.Brackets.{has_newline}
use Rattle.source_grammar.specs.Expressions.{Expr, Infix, Gen, Sep}
use Rattle.source_grammar.specs.ExpressionTrees.{joined_built, expr_built, infix_chain}
use Rattle.source_grammar.specs.Lexemes.{Place, Lexeme, BackArrow}
use Rattle.source_grammar.specs.Patterns.{Pat, Pat1, SPat, is_var, pat_tree}
use Rattle.parse_parts.specs.declared.built.Tall.{Tall}
use Rattle.parse_parts.proofs.Derived as types
use Rattle.parse_parts.proofs.Kept.{kept}
use Rattle.parse_patterns.specs.declared.states.State.{State as PatternState}
use Rattle.parse_patterns.specs.Names.{id_of}
use Rattle.parse_patterns.specs.Steps as pattern_spec
use Rattle.parse_patterns.proofs.Derived as patterns
use Rattle.parse_patterns.proofs.Moves as pattern_moves
use Rattle.parse_patterns.proofs.Shown as pattern_shown
use Rattle.expr_tails.specs.declared.states.Limit.TheVariants as limit
use Rattle.expr_tails.specs.declared.states.Tail.TheVariants as tail
use Rattle.expr_tails.specs.declared.states.State.{State}
use Rattle.expr_tails.specs.declared.symbols.Symbol.{Symbol}
use Rattle.expr_tails.specs.declared.symbols.Symbol.TheVariants as symbol
use Rattle.expr_tails.specs.Ending.{fresh, at_tail, is_expr}
use Rattle.expr_frames.specs.declared.generators.Parted.{Parted}
use Rattle.expr_frames.specs.Generators as spec
use Rattle.expr_steps.specs.Steps as steps
use Rattle.expr_laws.proofs.Agreeing.{and-true}
use Rattle.expr_laws.proofs.Derived as derived
use Rattle.expr_laws.proofs.Fitting.{is_plain, IsGenerator, Fits, PartFits, FramesFit}
use Rattle.expr_laws.proofs.Guarding.{last_expr, last_chain, last_sep, last-expr-there, last-chain-there, expr-guard, part-ends, from-last, with_test, guard-last, guards-free, whole_gens, finished-there, gen-at, guard-at}
use Rattle.expr_laws.proofs.Seen.{seen_as, back_arrow_as}
use Rattle.expr_laws.proofs.Shown.{free_in, context_with, context_shown, done_gens, gens_free, guards_free, part_shown, part_free, bracket_shown, bracket_start, bracket_free, frame_shown, shown}
use Rattle.expr_frames.specs.declared.generators.Finished.{Finished}

-- ---- patterns

begin-at : (p : patterns.Current) → spec.is_begin_at (pattern_shown.current_shown p) ≡ derived.at_begin p
begin-at (patterns.InType s point t) = refl
begin-at (patterns.InInfix b os patterns.Begin) = refl
begin-at (patterns.InInfix b os (patterns.AtWild place)) = refl
begin-at (patterns.InInfix b os (patterns.AtPath path)) = refl
begin-at (patterns.InInfix b os (patterns.AtDot path d)) = refl
begin-at (patterns.InInfix b os (patterns.AtEnded d)) = refl

generator-token : (y : Symbol) (x : Lexeme) (p : patterns.State) → spec.is_generator_token (pattern_shown.shown p) y x ≡ derived.is_generator_token p.current (seen_as y x)
generator-token symbol.Id x p = ap (λ b. b && is_var (id_of x)) (begin-at p.current)
generator-token symbol.Underscore x p = begin-at p.current
generator-token symbol.OpenRound x p = begin-at p.current
generator-token symbol.Comma x p = ap not (begin-at p.current)
generator-token symbol.CloseRound x p = ap not (begin-at p.current)
generator-token _ x p = refl

plain-side : (p : patterns.Current) → is_plain p ≡ true → pattern_shown.OneSide p
plain-side (patterns.InInfix None [] s) e = λ x f. refl
plain-side (patterns.InInfix None (o ∷ os) s) e = cc
plain-side (patterns.InInfix (Some b) os s) e = cc
plain-side (patterns.InType s point t) e = cc

pattern-on : (fs : List derived.Frame) (y : Symbol) (x : Lexeme) (p : patterns.State) → IsGenerator p
    → spec.pattern_on (map frame_shown fs) (pattern_shown.shown p) y x
    ≡ option_map shown (if derived.is_generator_token p.current (seen_as y x) then derived.pattern_in fs (patterns.step p x) else None)
pattern-on fs y x p k =
    ap (λ b. if b && pattern_spec.admits now x then Some (to (pattern_spec.advanced now x)) else None) (generator-token y x p) ∙ go (derived.is_generator_token p.current (seen_as y x))
  where
    now : PatternState
    now = pattern_shown.shown p

    to : PatternState → State
    to q = record { frames = map frame_shown fs; context = at_tail (fresh limit.Expr) (tail.InPattern q) }

    mapped : (b : Bool) (q : PatternState) → (if b then Some (to q) else None) ≡ option_map to (if b then Some q else None)
    mapped true q = refl
    mapped false q = refl

    by : (o : Option patterns.State) → option_map to (option_map pattern_shown.shown o) ≡ option_map shown (derived.pattern_in fs o)
    by None = refl
    by (Some q) = refl

    go : (b : Bool) → (if b && pattern_spec.admits now x then Some (to (pattern_spec.advanced now x)) else None)
        ≡ option_map shown (if b then derived.pattern_in fs (patterns.step p x) else None)
    go true =
        mapped (pattern_spec.admits now x) (pattern_spec.advanced now x) ∙ ap (option_map to) (pattern_moves.step-same p x (plain-side p.current k.current)) ∙ by (patterns.step p x)
    go false = refl

-- the pattern before the arrow
pattern-ends : (p : patterns.State) → is_plain p.current ≡ true → spec.is_ended (pattern_shown.shown p) ≡ derived.is_some (derived.pattern_of p)
pattern-ends p k = go p.frames p.current k where
  some : (o : Option Pat1) (es : List patterns.Earlier) → derived.is_some o ≡ derived.is_some (derived.pattern_read [] es o)
  some None es = refl
  some (Some d) es = refl

  chained : (o : Option SPat) → derived.is_some o ≡ derived.is_some (patterns.infix_at None [] o)
  chained None = refl
  chained (Some d) = refl

  same : (o : Option SPat) → types.is_some o ≡ derived.is_some o
  same None = refl
  same (Some d) = refl

  go : (fs : List patterns.Frame) (c : patterns.Current) → is_plain c ≡ true
      → spec.is_ended (pattern_shown.shown (record { frames = fs; earlier = p.earlier; current = c })) ≡ derived.is_some (derived.pattern_read fs p.earlier (patterns.alternative_at c))
  go [] (patterns.InInfix None [] s) e =
      pattern_moves.whole-shown s ∙ same (patterns.spat_of s) ∙ chained (patterns.spat_of s) ∙ some (patterns.infix_at None [] (patterns.spat_of s)) p.earlier
  go (f ∷ fs) (patterns.InInfix None [] s) e = refl
  go fs (patterns.InInfix None (o ∷ os) s) e = cc
  go fs (patterns.InInfix (Some b) os s) e = cc
  go fs (patterns.InType s point t) e = cc

pattern-tree : (p : patterns.State) (d : Pat) → is_plain p.current ≡ true → derived.pattern_of p ≡ Some d → pattern_spec.pattern_at (pattern_shown.shown p) ≡ kept (pat_tree d)
pattern-tree p d k e = go p.frames (patterns.alternative_at p.current) refl e where
  go : (fs : List patterns.Frame) (o : Option Pat1) → patterns.alternative_at p.current ≡ o → derived.pattern_read fs p.earlier o ≡ Some d
      → pattern_spec.pattern_at (pattern_shown.shown p) ≡ kept (pat_tree d)
  go [] (Some a) f g =
      let same : patterns.pat_read p.earlier a ≡ d = cc in
      ap (pattern_spec.with_earlier (pattern_shown.earlier_shown p.earlier)) (pattern_shown.alternative-shown p.current a (plain-side p.current k) f)
      ∙ pattern_shown.pattern-shown p.earlier a ∙ ap (λ x. kept (pat_tree x)) same
  go [] None f g = cc
  go (f ∷ fs) o g h = cc

abbrev is_gens : derived.Bracket → Bool
is_gens (derived.GensBracket word o done part) = true
is_gens _ = false

-- no other bracket has a pattern
no-arrow : (e : Bool) (v : Option Pat) (b : derived.Bracket) (outer : derived.Context) (fs : List derived.Frame) (p : PatternState) (a : BackArrow) → is_gens b ≡ false
    → (if e then spec.arrowed_in (bracket_shown b) (bracket_start b) (context_with outer (bracket_free b) tail.Begin) (map frame_shown fs) p else None)
    ≡ option_map shown (derived.arrowed_in v a b outer fs)
no-arrow e v (derived.GensBracket word o done part) outer fs p a g = cc
no-arrow true None _ outer fs p a g = refl
no-arrow true (Some d) _ outer fs p a g = refl
no-arrow false None _ outer fs p a g = refl
no-arrow false (Some d) _ outer fs p a g = refl

arrowed-at : (b : derived.Bracket) (outer : derived.Context) (fs : List derived.Frame) (c : derived.Context) (p : patterns.State) (a : BackArrow) → Fits (derived.at c (derived.InPattern p))
    → FramesFit (derived.frame b outer ∷ fs) (derived.at c (derived.InPattern p))
    → (if spec.is_ended (pattern_shown.shown p) then spec.arrowed_in (bracket_shown b) (bracket_start b) (context_with outer (bracket_free b) tail.Begin) (map frame_shown fs) (pattern_shown.shown p) else None)
    ≡ option_map shown (derived.arrowed_in (derived.pattern_of p) a b outer fs)
arrowed-at (derived.GensBracket word o done derived.PatPart) outer fs c p a f k =
    ap (λ b. if b then Some (to (pattern_spec.pattern_at (pattern_shown.shown p))) else None) (pattern-ends p f.tail.current) ∙ go (derived.pattern_of p) refl
  where
    to : Option Tall → State
    to tall = record {
      frames = spec.generators_frame (done_gens done) (record { pattern = tall; from = None; guards = [] }) word.span.start (context_with outer (gens_free done ++ []) tail.Begin) ∷ map frame_shown fs;
      context = fresh limit.Expr;
    }

    go : (v : Option Pat) → derived.pattern_of p ≡ v
        → (if derived.is_some v then Some (to (pattern_spec.pattern_at (pattern_shown.shown p))) else None)
        ≡ option_map shown (derived.arrowed_in v a (derived.GensBracket word o done derived.PatPart) outer fs)
    go None g = refl
    go (Some d) g = ap (λ t. Some (to t)) (pattern-tree p d f.tail.current g)
arrowed-at (derived.GensBracket word o done (derived.FromPart pat arrow)) outer fs c p a f k = (let no = k.1.1 in cc)
arrowed-at (derived.GensBracket word o done (derived.GuardPart pat arrow from guards sep place)) outer fs c p a f k = (let no = (f.guard k.1).1 in cc)
arrowed-at b outer fs c p a f k = no-arrow (spec.is_ended (pattern_shown.shown p)) (derived.pattern_of p) b outer fs (pattern_shown.shown p) a refl

pub pattern-same : (fs : List derived.Frame) (c : derived.Context) (p : patterns.State) (y : Symbol) (x : Lexeme) → Fits (derived.at c (derived.InPattern p)) → FramesFit fs (derived.at c (derived.InPattern p))
    → spec.in_pattern (map frame_shown fs) (pattern_shown.shown p) y x ≡ option_map shown (derived.in_pattern (seen_as y x) x p fs)
pattern-same [] c p symbol.BackArrow x f k = refl
pattern-same (g ∷ fs) c p symbol.BackArrow x f k = arrowed-at g.bracket g.outer fs c p (back_arrow_as x) f k
pattern-same fs c p y x f k = pattern-on fs y x p f.tail

-- ---- that a generator or a guard may come next

apart-same : (part : derived.Part) (c : derived.Context) (s : derived.Tail) (before : Newline) → Fits (derived.at c s) → PartFits part (derived.at c s)
    → (spec.is_behind_semicolon (context_shown (derived.at c s)) || (is_expr (context_shown (derived.at c s)) && has_newline before))
    ≡ (derived.is_some (derived.gen_with part (last_expr s (derived.at c s)) (last_chain s (derived.at c s))) && derived.is_apart (last_sep s) before)
apart-same part c (derived.AtSemi expr p ps) before f k =
    part-ends part c (derived.AtSemi expr p ps) f k ∙ sym (and-true (derived.is_some (derived.gen_with part (last_expr (derived.AtSemi expr p ps) (derived.at c (derived.AtSemi expr p ps))) None)))
apart-same part c (derived.AtGuardSemi test p ps) before f k =
    part-ends part c (derived.AtGuardSemi test p ps) f k ∙ sym (and-true (derived.is_some (derived.gen_with part None (Some test))))
apart-same part c s before f k = ap (λ b. b && has_newline before) (part-ends part c s f k)

-- ---- the next guard

abbrev guard_state : List derived.Frame → derived.Context → Place → List derived.DoneGen → Parted → State
guard_state fs outer word done parted = record { frames = spec.generators_frame (done_gens done) parted.part word.span.start parted.outer ∷ map frame_shown fs; context = fresh limit.Guard }

guard-there : (fs : List derived.Frame) (word o : Place) (done : List derived.DoneGen) (part : derived.Part) (outer c : derived.Context) (s : derived.Tail) (p : Place) → Fits (derived.at c s) → PartFits part (derived.at c s)
    → (if derived.is_some (derived.gen_with part (last_expr s (derived.at c s)) (last_chain s (derived.at c s)))
    then Some (guard_state fs outer word done (spec.with_last (part_shown part) (context_with outer (gens_free done ++ part_free part) tail.Begin) (context_shown (derived.at c s)))) else None)
    ≡ option_map shown (derived.guarded_in (derived.guard_with part (last_expr s (derived.at c s)) (last_chain s (derived.at c s)) (last_sep s) p) word o done outer fs)
guard-there fs word o done derived.PatPart outer c s p f k = refl
guard-there fs word o done (derived.FromPart pat arrow) outer c s p f k = go (last_expr s (derived.at c s)) refl where
  next : Parted
  next = spec.with_last (part_shown (derived.FromPart pat arrow)) (context_with outer (gens_free done ++ []) tail.Begin) (context_shown (derived.at c s))

  go : (v : Option Expr) → last_expr s (derived.at c s) ≡ v
      → (if derived.is_some (derived.gen_with (derived.FromPart pat arrow) v (last_chain s (derived.at c s))) then Some (guard_state fs outer word done next) else None)
      ≡ option_map shown (derived.guarded_in (derived.guard_with (derived.FromPart pat arrow) v (last_chain s (derived.at c s)) (last_sep s) p) word o done outer fs)
  go None g = refl
  go (Some x) g =
      ap (λ n. Some (guard_state fs outer word done n)) (from-last pat arrow outer (gens_free done ++ []) (derived.at c s) x (expr-guard c.limit k.0) (last-expr-there c s x f g))
      ∙ ap (λ free. Some (guard_state fs outer word done (record {
        part = record { pattern = kept (pat_tree pat); from = kept (expr_built x).tree; guards = [] };
        outer = context_with outer free tail.Begin;
      }))) (regroup (gens_free done) (free_in (expr_built x)))
    where
      regroup : (a b : List Span) → (a ++ []) ++ b ≡ a ++ (b ++ [])
      regroup a b = simp append-nil
guard-there fs word o done (derived.GuardPart pat arrow from guards sep place) outer c s p f k = go (last_chain s (derived.at c s)) refl where
  next : Parted
  next = spec.with_last (part_shown (derived.GuardPart pat arrow from guards sep place)) (context_with outer (gens_free done ++ (free_in (expr_built from) ++ guards_free guards)) tail.Begin) (context_shown (derived.at c s))

  go : (v : Option Infix) → last_chain s (derived.at c s) ≡ v
      → (if derived.is_some (derived.gen_with (derived.GuardPart pat arrow from guards sep place) (last_expr s (derived.at c s)) v) then Some (guard_state fs outer word done next) else None)
      ≡ option_map shown (derived.guarded_in (derived.guard_with (derived.GuardPart pat arrow from guards sep place) (last_expr s (derived.at c s)) v (last_sep s) p) word o done outer fs)
  go None g = refl
  go (Some test) g =
      let last = free_in (joined_built (infix_chain test)) in
      ap (λ n. Some (guard_state fs outer word done n))
      (guard-last pat arrow from guards sep place outer (gens_free done ++ (free_in (expr_built from) ++ guards_free guards)) (derived.at c s) test k (last-chain-there c s test f g))
      ∙ ap (λ free. Some (guard_state fs outer word done (record { part = (with_test pat from guards sep place test outer []).part; outer = context_with outer free tail.Begin })))
      (regroup (gens_free done) (free_in (expr_built from)) (guards_free guards) last ∙ ap (λ free. gens_free done ++ (free_in (expr_built from) ++ free)) (guards-free guards sep place test))
    where
      regroup : (x y z w : List Span) → (x ++ (y ++ z)) ++ w ≡ x ++ (y ++ (z ++ w))
      regroup x y z w = simp append_assoc

by-option : (t : Bool) (a : State) (x : Option State) (z y : Option derived.State) → x ≡ option_map shown y → (if t then Some a else None) ≡ option_map shown z
    → (if t then Some a else x) ≡ option_map shown (derived.or_else z y)
by-option true a x None y e f = cc
by-option true a x (Some s) y e f = f
by-option false a x None y e f = e
by-option false a x (Some s) y e f = cc

guarded-at : (b : derived.Bracket) (outer : derived.Context) (fs : List derived.Frame) (c : derived.Context) (s : derived.Tail) (p : Place) (x : Option State) (y : Option derived.State)
    → Fits (derived.at c s) → FramesFit (derived.frame b outer ∷ fs) (derived.at c s) → x ≡ option_map shown y
    → (if spec.ends_part (map frame_shown (derived.frame b outer ∷ fs)) (context_shown (derived.at c s)) then spec.guarded (map frame_shown (derived.frame b outer ∷ fs)) (context_shown (derived.at c s)) else x)
    ≡ option_map shown (derived.or_else (derived.guarded_by b p outer (derived.at c s) fs) y)
guarded-at (derived.GensBracket word o done part) outer fs c s p x y f k e =
    ap (λ b. if b then Some (guard_state fs outer word done next) else x) (part-ends part c s f k.1)
    ∙ by-option (derived.is_some (derived.gen_with part (last_expr s (derived.at c s)) (last_chain s (derived.at c s)))) (guard_state fs outer word done next) x _ y e
    (guard-there fs word o done part outer c s p f k.1)
    ∙ ap (λ v. option_map shown (derived.or_else (derived.guarded_in v word o done outer fs) y)) (sym (guard-at part s (derived.at c s) p))
  where
    next : Parted
    next = spec.with_last (part_shown part) (context_with outer (gens_free done ++ part_free part) tail.Begin) (context_shown (derived.at c s))
guarded-at _ outer fs c s p x y f k e = e

pub guarded-same : (fs : List derived.Frame) (c : derived.Context) (s : derived.Tail) (p : Place) (x : Option State) (y : Option derived.State)
    → Fits (derived.at c s) → FramesFit fs (derived.at c s) → x ≡ option_map shown y
    → (if spec.ends_part (map frame_shown fs) (context_shown (derived.at c s)) then spec.guarded (map frame_shown fs) (context_shown (derived.at c s)) else x)
    ≡ option_map shown (derived.or_else (derived.guarded p fs (derived.at c s)) y)
guarded-same [] c s p x y f k e = e
guarded-same (g ∷ fs) c s p x y f k e = guarded-at g.bracket g.outer fs c s p x y f k e

-- ---- the next generator

-- an expression ends before a separator
abbrev ending_or : derived.Context → derived.Tail → Newline → Bool
ending_or c s before = spec.is_behind_semicolon (context_shown (derived.at c s)) || (is_expr (context_shown (derived.at c s)) && has_newline before)

begins-same : (y : Symbol) (x : Lexeme) → spec.begins_pattern y ≡ derived.begins_pattern (seen_as y x)
begins-same symbol.Id x = refl
begins-same symbol.Underscore x = refl
begins-same symbol.OpenRound x = refl
begins-same _ x = refl

fits-pattern : Fits derived.next_pattern
fits-pattern = record {
  decidable = tt;
  plain = tt;
  tail = record { current = refl; earlier = refl };
  one_side = refl;
  alone = λ e. record { operations = refl; sign = refl };
  guard = λ e. (let no : false ≡ true = e in cc);
  semi = λ e. (let no : false ≡ true = e in cc);
}

abbrev gens_next : List derived.Frame → Place → Finished → Symbol → Lexeme → Option State
gens_next fs word found y x =
    spec.in_pattern (spec.generators_frame found.generators spec.nothing_yet word.span.start found.outer ∷ map frame_shown fs) (pattern_shown.shown (patterns.machine).start) y x

next-there : (fs : List derived.Frame) (word o : Place) (done : List derived.DoneGen) (part : derived.Part) (outer c : derived.Context) (s : derived.Tail) (gen : Gen) (sep : Sep) (y : Symbol) (x : Lexeme)
    → Fits (derived.at c s) → PartFits part (derived.at c s) → outer.operations ≡ [] → derived.gen_with part (last_expr s (derived.at c s)) (last_chain s (derived.at c s)) ≡ Some gen
    → gens_next fs word (spec.finished (done_gens done) (part_shown part) (context_with outer (gens_free done ++ part_free part) tail.Begin) (context_shown (derived.at c s))) y x
    ≡ option_map shown (derived.in_pattern (seen_as y x) x (patterns.machine).start (derived.frame (derived.GensBracket word o (record { gen = gen; sep = sep } ∷ done) derived.PatPart) outer ∷ fs))
next-there fs word o done part outer c s gen sep y x f k none g =
    ap (λ found. gens_next fs word found y x) (finished-there done part outer c s gen f k g)
    ∙ ap (λ free. gens_next fs word (record { generators = (whole_gens done gen outer).generators; outer = context_with outer free tail.Begin }) y x)
    (sym (append-nil (gens_free (record { gen = gen; sep = sep } ∷ done))))
    ∙ pattern-same (derived.frame (derived.GensBracket word o (record { gen = gen; sep = sep } ∷ done) derived.PatPart) outer ∷ fs) derived.next_pattern (patterns.machine).start y x fits-pattern (none, refl)

no-next : (a b : Bool) (r : Option State) (r2 : Option derived.State) (w : Option State) (z : Option derived.State) → r ≡ option_map shown r2
    → (if a && (false && b) then w else r) ≡ option_map shown (if b && false then z else r2)
no-next true true r r2 w z e = e
no-next true false r r2 w z e = e
no-next false true r r2 w z e = e
no-next false false r r2 w z e = e

abbrev next_state : List derived.Frame → Place → Place → List derived.DoneGen → derived.Context → Gen → Sep → derived.State
next_state fs word o done outer gen sep =
    derived.state (derived.frame (derived.GensBracket word o (record { gen = gen; sep = sep } ∷ done) derived.PatPart) outer ∷ fs) derived.next_pattern

abbrev next_if : Bool → derived.State → Option derived.State
next_if b s = if b then Some s else None

-- whether there is a next generator, where what is read of this one ends
next-gens : (y : Symbol) (x : Lexeme) (v : Option derived.State) (a b : Bool) (w r : Option State) (r2 : Option derived.State) → r ≡ option_map shown r2 → derived.is_some v ≡ a
    → ((n : derived.State) → v ≡ Some n → w ≡ option_map shown (derived.begun_pattern (Some n) (seen_as y x) x))
    → (if a && (true && b) then w else r) ≡ option_map shown (if b && derived.is_some v then derived.begun_pattern v (seen_as y x) x else r2)
next-gens y x None true b w r r2 e f on = cc
next-gens y x None false true w r r2 e f on = e
next-gens y x None false false w r r2 e f on = e
next-gens y x (Some n) true true w r r2 e f on = on n refl
next-gens y x (Some n) true false w r r2 e f on = e
next-gens y x (Some n) false b w r r2 e f on = cc

-- what the machine has of the next generator
pub record NextIs (fs : List derived.Frame) (word o : Place) (done : List derived.DoneGen) (outer : derived.Context) (v : Option Gen) (sep : Sep) (n : derived.State) : Type 0 where
  pub gen : Gen
  pub is : v ≡ Some gen
  pub next : next_state fs word o done outer gen sep ≡ n

some-next : (fs : List derived.Frame) (word o : Place) (done : List derived.DoneGen) (outer : derived.Context) (before : Newline) (v : Option Gen) (sep : Sep)
    → derived.is_some (derived.next_in (derived.done_gen v sep) word o done outer before fs) ≡ (derived.is_some v && derived.is_apart sep before)
some-next fs word o done outer before None sep = refl
some-next fs word o done outer before (Some gen) sep = go (derived.is_apart sep before) where
  go : (b : Bool) → derived.is_some (next_if b (next_state fs word o done outer gen sep)) ≡ b
  go true = refl
  go false = refl

next-is : (fs : List derived.Frame) (word o : Place) (done : List derived.DoneGen) (outer : derived.Context) (before : Newline) (v : Option Gen) (sep : Sep) (n : derived.State)
    → derived.next_in (derived.done_gen v sep) word o done outer before fs ≡ Some n → NextIs fs word o done outer v sep n
next-is fs word o done outer before None sep n e = cc
next-is fs word o done outer before (Some gen) sep n e = go (derived.is_apart sep before) e where
  go : (b : Bool) → next_if b (next_state fs word o done outer gen sep) ≡ Some n → NextIs fs word o done outer (Some gen) sep n
  go true f = record { gen = gen; is = refl; next = (let same : next_state fs word o done outer gen sep ≡ n = cc in same) }
  go false f = cc

next-at : (b : derived.Bracket) (outer : derived.Context) (fs : List derived.Frame) (c : derived.Context) (s : derived.Tail) (before : Newline) (y : Symbol) (x : Lexeme) (r : Option State) (r2 : Option derived.State)
    → Fits (derived.at c s) → FramesFit (derived.frame b outer ∷ fs) (derived.at c s) → r ≡ option_map shown r2
    → (if spec.begins_generator (map frame_shown (derived.frame b outer ∷ fs)) (context_shown (derived.at c s)) y before
    then steps.next_begun (spec.next_generator (map frame_shown (derived.frame b outer ∷ fs)) (context_shown (derived.at c s))) y x else r)
    ≡ option_map shown (if derived.begins_pattern (seen_as y x) && derived.is_some (derived.next_by b outer (derived.at c s) before fs)
    then derived.begun_pattern (derived.next_by b outer (derived.at c s) before fs) (seen_as y x) x else r2)
next-at (derived.GensBracket word o done part) outer fs c s before y x r r2 f k e =
    ap (λ a. if a && (true && spec.begins_pattern y) then next else r) (apart-same part c s before f k.1 ∙ sym (some-next fs word o done outer before gen (last_sep s)))
    ∙ ap (λ b. if derived.is_some read && (true && b) then next else r) (begins-same y x)
    ∙ next-gens y x read (derived.is_some read) (derived.begins_pattern (seen_as y x)) next r r2 e refl there
    ∙ ap (λ v. option_map shown (if derived.begins_pattern (seen_as y x) && derived.is_some (derived.next_in v word o done outer before fs)
    then derived.begun_pattern (derived.next_in v word o done outer before fs) (seen_as y x) x else r2)) (sym (gen-at part s (derived.at c s)))
  where
    gen : Option Gen
    gen = derived.gen_with part (last_expr s (derived.at c s)) (last_chain s (derived.at c s))

    read : Option derived.State
    read = derived.next_in (derived.done_gen gen (last_sep s)) word o done outer before fs

    next : Option State
    next = gens_next fs word (spec.finished (done_gens done) (part_shown part) (context_with outer (gens_free done ++ part_free part) tail.Begin) (context_shown (derived.at c s))) y x

    there : (n : derived.State) → read ≡ Some n → next ≡ option_map shown (derived.begun_pattern (Some n) (seen_as y x) x)
    there n g =
        (let is = next-is fs word o done outer before gen (last_sep s) n g in
        next-there fs word o done part outer c s is.gen (last_sep s) y x f k.1 k.0 is.is
        ∙ ap (λ m. option_map shown (derived.begun_pattern (Some m) (seen_as y x) x)) is.next)
next-at _ outer fs c s before y x r r2 f k e =
    ap (λ b. if ending_or c s before && (false && b) then None else r) (begins-same y x)
    ∙ no-next (ending_or c s before) (derived.begins_pattern (seen_as y x)) r r2 None None e

pub next-same : (fs : List derived.Frame) (c : derived.Context) (s : derived.Tail) (before : Newline) (y : Symbol) (x : Lexeme) (r : Option State) (r2 : Option derived.State)
    → Fits (derived.at c s) → FramesFit fs (derived.at c s) → r ≡ option_map shown r2
    → (if spec.begins_generator (map frame_shown fs) (context_shown (derived.at c s)) y before then steps.next_begun (spec.next_generator (map frame_shown fs) (context_shown (derived.at c s))) y x else r)
    ≡ option_map shown (if derived.begins_pattern (seen_as y x) && derived.is_some (derived.next_generator fs (derived.at c s) before)
    then derived.begun_pattern (derived.next_generator fs (derived.at c s) before) (seen_as y x) x else r2)
next-same [] c s before y x r r2 f k e =
    ap (λ b. if ending_or c s before && (false && b) then None else r) (begins-same y x)
    ∙ no-next (ending_or c s before) (derived.begins_pattern (seen_as y x)) r r2 None None e
next-same (g ∷ fs) c s before y x r r2 f k e = next-at g.bracket g.outer fs c s before y x r r2 f k e
