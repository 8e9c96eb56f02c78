-- Each token of the pattern of a generator leads from a good pattern to a good pattern, so what was read is a pattern of a generator.
use Rattle.std.proofs.Common.{◌≡◌, Bool, true, false, ◌&&◌, List, [], ◌∷◌, Option, Some, None, refl, ap, sym, ◌∙◌, subst}
use Rattle.source_grammar.specs.Comprehensions.{is_generator_pat, is_generator_spat}
use Rattle.source_grammar.specs.Lexemes.{Place, Lexeme}
use Rattle.source_grammar.specs.Patterns.{Pat, Pat1, LastOperand, SPat, WildPat, is_var_path, ProperPat}
use Rattle.parse_patterns.proofs.Derived as patterns
use Rattle.parse_patterns.proofs.Good as good_patterns
use Rattle.parse_patterns.proofs.Good.{ready, proper-read}
use Rattle.parse_patterns.proofs.Seen as pattern_seen
use Rattle.parse_patterns.proofs.Sides.{and-true}
use Rattle.expr_laws.proofs.Behind.{both}
use Rattle.expr_laws.proofs.Derived.{is_generator_token, pattern_read, pattern_of}
use Rattle.expr_laws.proofs.Fitting.{is_plain, IsGenerator}
use Rattle.expr_laws.proofs.Good.{is_generator_tail, is_generator_current, is_generator_bracket, are_generator_brackets, GoodPattern}
use Rattle.expr_laws.proofs.Seen.{AnId, AnUnderscore, OpensRound, AComma, ClosesRound, Seen, shown_token}

-- ---- what was read

spat-generator : (s : patterns.Tail) (d : SPat) → is_generator_tail s ≡ true → patterns.spat_of s ≡ Some d → is_generator_spat d ≡ true
spat-generator (patterns.AtWild place) d g e = (let same : WildPat place ≡ d = cc in ap is_generator_spat (sym same))
spat-generator (patterns.AtPath path) d g e = go (is_var_path path.first path.steps) g e where
  go : (v : Bool) → v ≡ true → Some (patterns.named_pat v path) ≡ Some d → is_generator_spat d ≡ true
  go true f h = (let same : patterns.named_pat true path ≡ d = cc in ap is_generator_spat (sym same))
  go false f h = cc
spat-generator (patterns.AtEnded x) d g e = (let same : x ≡ d = cc in ap is_generator_spat (sym same) ∙ g)
spat-generator _ d g e = cc

read-generator : (es : List patterns.Earlier) (s : patterns.Tail) (d : Pat1) → es ≡ [] → is_generator_tail s ≡ true → patterns.infix_at None [] (patterns.spat_of s) ≡ Some d
    → is_generator_pat (patterns.pat_read es d) ≡ true
read-generator es s d none g e = go (patterns.spat_of s) refl e where
  go : (v : Option SPat) → patterns.spat_of s ≡ v → patterns.infix_at None [] v ≡ Some d → is_generator_pat (patterns.pat_read es d) ≡ true
  go None was f = cc
  go (Some x) was f =
      let same : patterns.bound None (LastOperand x) ≡ d = cc in
      ap (λ ks. is_generator_pat (patterns.pat_read ks d)) none ∙ ap (λ k. is_generator_pat (patterns.pat_read [] k)) (sym same) ∙ spat-generator s x g was

-- ---- one token more

record Generator (q : patterns.State) : Type 0 where
  current : is_generator_current q.current ≡ true
  frames : are_generator_brackets q.frames ≡ true

by-some : (a q : patterns.State) → Generator a → Some a ≡ Some q → Generator q
by-some a q g e = (let same : a ≡ q = cc in subst Generator same g)

by-when : (b : Bool) (a q : patterns.State) → Generator a → patterns.when b a ≡ Some q → Generator q
by-when true a q g e = by-some a q g e
by-when false a q g e = cc

parted-generator : (c : Place) (pat : Pat) (fs : List patterns.Frame) (q : patterns.State) → is_generator_pat pat ≡ true → are_generator_brackets fs ≡ true → patterns.parted c pat fs ≡ Some q → Generator q
parted-generator c pat [] q p g e = cc
parted-generator c pat (f ∷ fs) q p g e = (let k = both (is_generator_bracket f.bracket) (are_generator_brackets fs) g in go f.bracket k.0 k.1 e) where
  go : (b : patterns.Bracket) → is_generator_bracket b ≡ true → are_generator_brackets fs ≡ true → patterns.parted_in c pat b f fs ≡ Some q → Generator q
  go (patterns.Call path o done) h r i = cc
  go (patterns.Group o) h r i = by-some _ q (record { current = refl; frames = and-true (is_generator_pat pat) (are_generator_brackets fs) p r }) i
  go (patterns.GroupOne o a k) h r i =
      by-some _ q (record { current = refl; frames = and-true (is_generator_pat a && is_generator_pat pat) (are_generator_brackets fs) (and-true (is_generator_pat a) (is_generator_pat pat) h p) r }) i
  go (patterns.GroupTwo o a k b j) h r i = cc

closed-generator : (c : Place) (pat : Pat) (fs : List patterns.Frame) (q : patterns.State) → is_generator_pat pat ≡ true → are_generator_brackets fs ≡ true → patterns.closed c pat fs ≡ Some q → Generator q
closed-generator c pat [] q p g e = cc
closed-generator c pat (f ∷ fs) q p g e =
    let k = both (is_generator_bracket f.bracket) (are_generator_brackets fs) g in
    by-some _ q (record { current = go f.bracket k.0; frames = k.1 }) e
  where
    go : (b : patterns.Bracket) → is_generator_bracket b ≡ true → is_generator_spat (patterns.closed_as c pat b) ≡ true
    go (patterns.Call path o done) h = cc
    go (patterns.Group o) h = p
    go (patterns.GroupOne o a k) h = and-true (is_generator_pat a) (is_generator_pat pat) h p
    go (patterns.GroupTwo o a k b j) h = (let m = both (is_generator_pat a) (is_generator_pat b) h in and-true (is_generator_pat a && is_generator_pat b) (is_generator_pat pat) (and-true (is_generator_pat a) (is_generator_pat b) m.0 m.1) p)

comma-generator : (c : Place) (v : Option Pat1) (es : List patterns.Earlier) (fs : List patterns.Frame) (q : patterns.State) → ((d : Pat1) → v ≡ Some d → is_generator_pat (patterns.pat_read es d) ≡ true)
    → are_generator_brackets fs ≡ true → patterns.ended (pattern_seen.AComma c) v es fs ≡ Some q → Generator q
comma-generator c None es fs q p g e = cc
comma-generator c (Some d) es fs q p g e = parted-generator c (patterns.pat_read es d) fs q (p d refl) g e

close-generator : (c : Place) (v : Option Pat1) (es : List patterns.Earlier) (fs : List patterns.Frame) (q : patterns.State) → ((d : Pat1) → v ≡ Some d → is_generator_pat (patterns.pat_read es d) ≡ true)
    → are_generator_brackets fs ≡ true → patterns.ended (pattern_seen.ClosesRound c) v es fs ≡ Some q → Generator q
close-generator c None es fs q p g e = cc
close-generator c (Some d) es fs q p g e = closed-generator c (patterns.pat_read es d) fs q (p d refl) g e

operand-generator : (y : Seen) (s : patterns.Tail) (es : List patterns.Earlier) (fs : List patterns.Frame) (q : patterns.State) → es ≡ [] → is_generator_tail s ≡ true → are_generator_brackets fs ≡ true
    → is_generator_token (patterns.InInfix None [] s) y ≡ true → patterns.step (patterns.at fs es (patterns.InInfix None [] s)) (shown_token y) ≡ Some q → Generator q
operand-generator (AnId id) patterns.Begin es fs q n t g k e =
    by-when (patterns.may_stand None [] es id.place.before) _ q (record { current = k; frames = g }) (ap (λ y. patterns.moved y None [] patterns.Begin es fs) (sym (pattern_seen.seen-id id)) ∙ e)
operand-generator (AnId id) _ es fs q n t g k e = cc
operand-generator (AnUnderscore place) patterns.Begin es fs q n t g k e = by-when (patterns.may_stand None [] es place.before) _ q (record { current = refl; frames = g }) e
operand-generator (AnUnderscore place) _ es fs q n t g k e = cc
operand-generator (OpensRound o) patterns.Begin es fs q n t g k e = by-when (patterns.may_stand None [] es o.before) _ q (record { current = refl; frames = g }) e
operand-generator (OpensRound o) _ es fs q n t g k e = cc
operand-generator (AComma c) s es fs q n t g k e = comma-generator c (patterns.infix_at None [] (patterns.spat_of s)) es fs q (λ d. read-generator es s d n t) g e
operand-generator (ClosesRound c) patterns.Begin es fs q n t g k e = cc
operand-generator (ClosesRound c) s es fs q n t g k e = close-generator c (patterns.infix_at None [] (patterns.spat_of s)) es fs q (λ d. read-generator es s d n t) g e
operand-generator _ s es fs q n t g k e = cc

pub pattern-token : (y : Seen) (x : Lexeme) (p q : patterns.State) → shown_token y ≡ x → IsGenerator p → GoodPattern p → is_generator_token p.current y ≡ true → patterns.step p x ≡ Some q → GoodPattern q
pattern-token y x p q z i g k e =
    let next = go p.current i.current g.current k (ap (patterns.step p) z ∙ e) in
    record { proper = good_patterns.step-good p x q g.proper e; current = next.current; frames = next.frames }
  where
    go : (current : patterns.Current) → is_plain current ≡ true → is_generator_current current ≡ true → is_generator_token current y ≡ true
        → patterns.step (patterns.at p.frames p.earlier current) (shown_token y) ≡ Some q → Generator q
    go (patterns.InInfix None [] s) a b c r = operand-generator y s p.earlier p.frames q i.earlier b g.frames c r
    go (patterns.InInfix None (o ∷ os) s) a b c r = cc
    go (patterns.InInfix (Some binder) os s) a b c r = cc
    go (patterns.InType subject point t) a b c r = cc

-- ---- a pattern that is whole

pub record ReadPattern (pat : Pat) : Type 0 where
  pub proper : ProperPat pat
  pub generator : is_generator_pat pat ≡ true

pub pattern-good : (p : patterns.State) (pat : Pat) → IsGenerator p → GoodPattern p → pattern_of p ≡ Some pat → ReadPattern pat
pattern-good p pat i g e = go p.frames (patterns.alternative_at p.current) refl e where
  generator : (current : patterns.Current) (d : Pat1) → is_plain current ≡ true → is_generator_current current ≡ true → patterns.alternative_at current ≡ Some d
      → is_generator_pat (patterns.pat_read p.earlier d) ≡ true
  generator (patterns.InInfix None [] s) d a b r = read-generator p.earlier s d i.earlier b r
  generator (patterns.InInfix None (o ∷ os) s) d a b r = cc
  generator (patterns.InInfix (Some binder) os s) d a b r = cc
  generator (patterns.InType subject point t) d a b r = cc

  go : (fs : List patterns.Frame) (v : Option Pat1) → patterns.alternative_at p.current ≡ v → pattern_read fs p.earlier v ≡ Some pat → ReadPattern pat
  go [] (Some d) was h =
      let same : patterns.pat_read p.earlier d ≡ pat = cc in
      subst ReadPattern same (record { proper = proper-read p.earlier d (ready p.earlier p.current d g.proper.current was); generator = generator p.current d i.current g.current was })
  go [] None was h = cc
  go (f ∷ fs) v was h = cc
