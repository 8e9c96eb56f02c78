-- The tokens of the pattern of a generator lead through a `for` to where it was read.
use Rattle.std.proofs.Common.{◌≡◌, Bool, true, false, ◌&&◌, if◌then◌else◌, List, [], ◌∷◌, ◌++◌, Some, None, refl, ap, sym, ◌∙◌}
use Rattle.std.specs.Prelude.{not}
use Rattle.source_grammar.specs.Comprehensions.{is_generator_pat, is_generator_pat1, is_generator_pat3, is_generator_spat}
use Rattle.source_grammar.specs.Lexemes.{Place, Lexeme, open_round, close_round, comma, underscore, id_token, BackArrow, back_arrow_token}
use Rattle.source_grammar.specs.Patterns.{Pat, Pat1, Pat3, SPat, LastAlternative, MoreAlternatives, TypedVar, TypedWild, BoundPat, InfixPat, LastOperand, MoreOperands, WildPat, VarPat, PatInParentheses, PairPat, TriplePat, pat_tokens, pat1_tokens, pat3_tokens, spat_tokens, ProperPat, ProperPat1, ProperPat3, ProperSPat}
use Rattle.parse_patterns.proofs.Along as pattern_along
use Rattle.parse_patterns.proofs.Along.{spat_tail, spat-there, last_pat1, earlier_of, proper-last1, alternative-there, alternated-there, id-step}
use Rattle.parse_patterns.proofs.Derived as patterns
use Rattle.parse_patterns.proofs.Seen as patterns_seen
use Rattle.expr_tails.specs.declared.states.Limit.TheVariants as limit
use Rattle.expr_tails.specs.Symbols.{symbol_of}
use Rattle.expr_laws.proofs.Behind.{both}
use Rattle.expr_laws.proofs.Derived.{OneToken, InPattern, Context, PatPart, FromPart, GensBracket, Frame, State, at, fresh, state, frame, at_begin, is_generator_token, pattern_in, pattern_read, pattern_of, arrowed, in_pattern, DoneGen, step}
use Rattle.expr_laws.proofs.Items.{tokens}
use Rattle.expr_laws.proofs.Moving.{Leads, leads-then, leads-on, leads-one, leads-as, tokens-append, token-step}
use Rattle.expr_laws.proofs.Seen.{Seen, AnId, AnUnderscore, ABackArrow, AComma, OpensRound, ClosesRound, seen, seen-id, seen-underscore, seen-comma, seen-open_round, seen-close_round, seen-back_arrow}
use Rattle.expr_laws.proofs.TokenSteps.{if-true}

-- where the pattern of a generator is read
abbrev pub pattern_context : patterns.State → Context
pattern_context p = at (fresh limit.Expr) (InPattern p)

-- ---- one token

abbrev is_back : Seen → Bool
is_back (ABackArrow a) = true
is_back _ = false

inside : (y : Seen) (x : Lexeme) (p : patterns.State) (fs : List Frame) → is_back y ≡ false
    → in_pattern y x p fs ≡ (if is_generator_token p.current y then pattern_in fs (patterns.step p x) else None)
inside (ABackArrow a) x p fs h = cc
inside _ x p fs h = refl

pub pattern-step : (x : Lexeme) (y : Seen) (fs : List Frame) (p : patterns.State) → seen x ≡ y → step (state fs (pattern_context p)) (OneToken x) ≡ in_pattern y x p fs
pattern-step x y fs p e = token-step x y (symbol_of x.kind x.word) fs (pattern_context p) (pattern_context p) refl e refl refl

pattern-on : (x : Lexeme) (y : Seen) (fs : List Frame) (p q : patterns.State) → seen x ≡ y → is_back y ≡ false → is_generator_token p.current y ≡ true → patterns.step p x ≡ Some q
    → step (state fs (pattern_context p)) (OneToken x) ≡ Some (state fs (pattern_context q))
pattern-on x y fs p q e h g s =
    pattern-step x y fs p e ∙ inside y x p fs h ∙ if-true (is_generator_token p.current y) (pattern_in fs (patterns.step p x)) None g ∙ ap (pattern_in fs) s

-- ---- states of the machine of patterns

abbrev pub begins : List patterns.Frame → patterns.State
begins pfs = patterns.at pfs [] patterns.fresh

abbrev pub ended : List patterns.Frame → SPat → patterns.State
ended pfs d = patterns.at pfs [] (patterns.InInfix None [] (spat_tail d))

abbrev only : SPat → Pat
only d = LastAlternative (InfixPat (LastOperand d))

abbrev group : patterns.Bracket → List patterns.Frame → List patterns.Frame
group b pfs = patterns.frame_of b None [] [] ∷ pfs

not-begin : (d : SPat) → at_begin (patterns.InInfix None [] (spat_tail d)) ≡ false
not-begin (WildPat place) = refl
not-begin (VarPat id) = refl
not-begin _ = refl

comma-step : (d : SPat) (p : Place) (pfs : List patterns.Frame) → ProperSPat d → patterns.step (ended pfs d) (comma p) ≡ patterns.parted p (only d) pfs
comma-step d p pfs w = ap (λ o. patterns.ended (patterns_seen.AComma p) (patterns.infix_at None [] o) [] pfs) (spat-there d w)

close-step : (d : SPat) (p : Place) (pfs : List patterns.Frame) → ProperSPat d → is_generator_spat d ≡ true → patterns.step (ended pfs d) (close_round p) ≡ patterns.closed p (only d) pfs
close-step (WildPat place) p pfs w g = refl
close-step (VarPat id) p pfs w g = ap (λ o. patterns.ended (patterns_seen.ClosesRound p) (patterns.infix_at None [] o) [] pfs) (spat-there (VarPat id) w)
close-step (PatInParentheses o x k) p pfs w g = refl
close-step (PairPat o x q y k) p pfs w g = refl
close-step (TriplePat o x q y r z k) p pfs w g = refl
close-step _ p pfs w g = cc

-- the same in the `for`
comma-on : (d : SPat) (p : Place) (pfs : List patterns.Frame) (q : patterns.State) (fs : List Frame) → ProperSPat d → patterns.parted p (only d) pfs ≡ Some q
    → step (state fs (pattern_context (ended pfs d))) (OneToken (comma p)) ≡ Some (state fs (pattern_context q))
comma-on d p pfs q fs w e =
    pattern-on (comma p) (AComma p) fs (ended pfs d) q (seen-comma p) refl (ap not (not-begin d)) (comma-step d p pfs w ∙ e)

close-on : (d : SPat) (p : Place) (pfs : List patterns.Frame) (q : patterns.State) (fs : List Frame) → ProperSPat d → is_generator_spat d ≡ true → patterns.closed p (only d) pfs ≡ Some q
    → step (state fs (pattern_context (ended pfs d))) (OneToken (close_round p)) ≡ Some (state fs (pattern_context q))
close-on d p pfs q fs w g e =
    pattern-on (close_round p) (ClosesRound p) fs (ended pfs d) q (seen-close_round p) refl (ap not (not-begin d)) (close-step d p pfs w g ∙ e)

open-on : (o : Place) (pfs : List patterns.Frame) (fs : List Frame) → step (state fs (pattern_context (begins pfs))) (OneToken (open_round o)) ≡ Some (state fs (pattern_context (begins (group (patterns.Group o) pfs))))
open-on o pfs fs = pattern-on (open_round o) (OpensRound o) fs (begins pfs) (begins (group (patterns.Group o) pfs)) (seen-open_round o) refl refl refl

-- behind a whole pattern, which has one operand
abbrev pub after : List patterns.Frame → Pat → patterns.State
after pfs d = pattern_along.after pfs [] d

comma-after : (d : Pat) (p : Place) (pfs : List patterns.Frame) (q : patterns.State) (fs : List Frame) → ProperPat d → is_generator_pat d ≡ true → patterns.parted p d pfs ≡ Some q
    → step (state fs (pattern_context (after pfs d))) (OneToken (comma p)) ≡ Some (state fs (pattern_context q))
comma-after (LastAlternative (InfixPat (LastOperand x))) p pfs q fs w g e = comma-on x p pfs q fs w.1 e
comma-after (LastAlternative (InfixPat (MoreOperands x id pat))) p pfs q fs w g e = cc
comma-after (LastAlternative (TypedVar id point type)) p pfs q fs w g e = cc
comma-after (LastAlternative (TypedWild place point type)) p pfs q fs w g e = cc
comma-after (LastAlternative (BoundPat id sign pat)) p pfs q fs w g e = cc
comma-after (MoreAlternatives x stroke pats) p pfs q fs w g e = cc

close-after : (d : Pat) (p : Place) (pfs : List patterns.Frame) (q : patterns.State) (fs : List Frame) → ProperPat d → is_generator_pat d ≡ true → patterns.closed p d pfs ≡ Some q
    → step (state fs (pattern_context (after pfs d))) (OneToken (close_round p)) ≡ Some (state fs (pattern_context q))
close-after (LastAlternative (InfixPat (LastOperand x))) p pfs q fs w g e = close-on x p pfs q fs w.1 g e
close-after (LastAlternative (InfixPat (MoreOperands x id pat))) p pfs q fs w g e = cc
close-after (LastAlternative (TypedVar id point type)) p pfs q fs w g e = cc
close-after (LastAlternative (TypedWild place point type)) p pfs q fs w g e = cc
close-after (LastAlternative (BoundPat id sign pat)) p pfs q fs w g e = cc
close-after (MoreAlternatives x stroke pats) p pfs q fs w g e = cc

-- ---- along a pattern

abbrev there : List Frame → patterns.State → State
there fs p = state fs (pattern_context p)

mutual
  pub pat-along : (d : Pat) → ProperPat d → is_generator_pat d ≡ true → (pfs : List patterns.Frame) (fs : List Frame) → Leads (tokens (pat_tokens d)) (there fs (begins pfs)) (there fs (after pfs d))
  pat-along (LastAlternative d) w g pfs fs = pat1-along d w g pfs fs
  pat-along (MoreAlternatives d stroke pats) w g pfs fs = cc

  pat1-along : (d : Pat1) → ProperPat1 d → is_generator_pat1 d ≡ true → (pfs : List patterns.Frame) (fs : List Frame)
      → Leads (tokens (pat1_tokens d)) (there fs (begins pfs)) (there fs (after pfs (LastAlternative d)))
  pat1-along (InfixPat d) w g pfs fs = pat3-along d w.1 g pfs fs
  pat1-along _ w g pfs fs = cc

  pat3-along : (d : Pat3) → ProperPat3 d → is_generator_pat3 d ≡ true → (pfs : List patterns.Frame) (fs : List Frame)
      → Leads (tokens (pat3_tokens d)) (there fs (begins pfs)) (there fs (after pfs (LastAlternative (InfixPat d))))
  pat3-along (LastOperand d) w g pfs fs = spat-along d w g pfs fs
  pat3-along (MoreOperands d id pat) w g pfs fs = cc

  spat-along : (d : SPat) → ProperSPat d → is_generator_spat d ≡ true → (pfs : List patterns.Frame) (fs : List Frame) → Leads (tokens (spat_tokens d)) (there fs (begins pfs)) (there fs (ended pfs d))
  spat-along (WildPat place) w g pfs fs =
      leads-one (OneToken (underscore place)) _ _ (pattern-on (underscore place) (AnUnderscore place) fs (begins pfs) (ended pfs (WildPat place)) (seen-underscore place) refl refl refl)
  spat-along (VarPat id) w g pfs fs =
      leads-one (OneToken (id_token id)) _ _ (pattern-on (id_token id) (AnId id) fs (begins pfs) (ended pfs (VarPat id)) (seen-id id) refl w (id-step id pfs [] None [] patterns.Begin))
  spat-along (PatInParentheses o x k) w g pfs fs =
      let one = group (patterns.Group o) pfs in
      leads-on (OneToken (open_round o)) _ _ (there fs (begins one)) _ (open-on o pfs fs)
      (leads-as (tokens (pat_tokens x) ++ OneToken (close_round k) ∷ []) _ _ _ (sym (tokens-append (pat_tokens x) (close_round k ∷ [])))
      (leads-then (tokens (pat_tokens x)) _ _ (there fs (after one x)) _ (pat-along x w g one fs)
      (leads-one (OneToken (close_round k)) _ _ (close-after x k one (ended pfs (PatInParentheses o x k)) fs w g refl))))
  spat-along (PairPat o x p y k) w g pfs fs =
      let gs = both (is_generator_pat x) (is_generator_pat y) g in
      let one = group (patterns.Group o) pfs in
      let two = group (patterns.GroupOne o x p) pfs in
      leads-on (OneToken (open_round o)) _ _ (there fs (begins one)) _ (open-on o pfs fs)
      (leads-as (tokens (pat_tokens x) ++ OneToken (comma p) ∷ tokens (pat_tokens y ++ close_round k ∷ [])) _ _ _ (sym (tokens-append (pat_tokens x) (comma p ∷ (pat_tokens y ++ close_round k ∷ []))))
      (leads-then (tokens (pat_tokens x)) _ _ (there fs (after one x)) _ (pat-along x w.0 gs.0 one fs)
      (leads-on (OneToken (comma p)) _ _ (there fs (begins two)) _ (comma-after x p one (begins two) fs w.0 gs.0 refl)
      (leads-as (tokens (pat_tokens y) ++ OneToken (close_round k) ∷ []) _ _ _ (sym (tokens-append (pat_tokens y) (close_round k ∷ [])))
      (leads-then (tokens (pat_tokens y)) _ _ (there fs (after two y)) _ (pat-along y w.1 gs.1 two fs)
      (leads-one (OneToken (close_round k)) _ _ (close-after y k two (ended pfs (PairPat o x p y k)) fs w.1 gs.1 refl)))))))
  spat-along (TriplePat o x p y q z k) w g pfs fs =
      let gs = both (is_generator_pat x && is_generator_pat y) (is_generator_pat z) g in
      let hs = both (is_generator_pat x) (is_generator_pat y) gs.0 in
      let one = group (patterns.Group o) pfs in
      let two = group (patterns.GroupOne o x p) pfs in
      let three = group (patterns.GroupTwo o x p y q) pfs in
      leads-on (OneToken (open_round o)) _ _ (there fs (begins one)) _ (open-on o pfs fs)
      (leads-as (tokens (pat_tokens x) ++ OneToken (comma p) ∷ tokens (pat_tokens y ++ comma q ∷ (pat_tokens z ++ close_round k ∷ []))) _ _ _
      (sym (tokens-append (pat_tokens x) (comma p ∷ (pat_tokens y ++ comma q ∷ (pat_tokens z ++ close_round k ∷ [])))))
      (leads-then (tokens (pat_tokens x)) _ _ (there fs (after one x)) _ (pat-along x w.0 hs.0 one fs)
      (leads-on (OneToken (comma p)) _ _ (there fs (begins two)) _ (comma-after x p one (begins two) fs w.0 hs.0 refl)
      (leads-as (tokens (pat_tokens y) ++ OneToken (comma q) ∷ tokens (pat_tokens z ++ close_round k ∷ [])) _ _ _ (sym (tokens-append (pat_tokens y) (comma q ∷ (pat_tokens z ++ close_round k ∷ []))))
      (leads-then (tokens (pat_tokens y)) _ _ (there fs (after two y)) _ (pat-along y w.1 hs.1 two fs)
      (leads-on (OneToken (comma q)) _ _ (there fs (begins three)) _ (comma-after y q two (begins three) fs w.1 hs.1 refl)
      (leads-as (tokens (pat_tokens z) ++ OneToken (close_round k) ∷ []) _ _ _ (sym (tokens-append (pat_tokens z) (close_round k ∷ [])))
      (leads-then (tokens (pat_tokens z)) _ _ (there fs (after three z)) _ (pat-along z w.2 gs.1 three fs)
      (leads-one (OneToken (close_round k)) _ _ (close-after z k three (ended pfs (TriplePat o x p y q z k)) fs w.2 gs.1 refl))))))))))
  spat-along _ w g pfs fs = cc

-- ---- `<-`

pub pattern-there : (d : Pat) → ProperPat d → pattern_of (after [] d) ≡ Some d
pattern-there d w = ap (pattern_read [] (earlier_of d [])) (alternative-there (last_pat1 d) (proper-last1 d w)) ∙ ap Some (alternated-there d [])

pub arrow-step : (d : Pat) (arrow : BackArrow) (word o : Place) (done : List DoneGen) (c : Context) (fs : List Frame) → ProperPat d
    → step (there (frame (GensBracket word o done PatPart) c ∷ fs) (after [] d)) (OneToken (back_arrow_token arrow))
    ≡ Some (state (frame (GensBracket word o done (FromPart d arrow)) c ∷ fs) (fresh limit.Expr))
arrow-step d arrow word o done c fs w =
    pattern-step (back_arrow_token arrow) (ABackArrow arrow) (frame (GensBracket word o done PatPart) c ∷ fs) (after [] d) (seen-back_arrow arrow)
    ∙ ap (λ k. arrowed k arrow (frame (GensBracket word o done PatPart) c ∷ fs)) (pattern-there d w)
