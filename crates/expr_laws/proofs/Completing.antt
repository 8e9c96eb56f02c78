-- Each state that keeps what can be completed is completed: the brackets are closed one after another, and an expression ends.
use Rattle.std.proofs.Common.{◌≡◌, Bool, true, false, ◌&&◌, ◌||◌, List, [], ◌∷◌, Option, Some, None, refl, ap, sym, ◌∙◌, append-nil, subst}
use Rattle.std.specs.Prelude.{not}
use Rattle.reading_machines.specs.Machines.{run}
use Rattle.source_grammar.specs.Expressions.{Expr, Infix}
use Rattle.source_grammar.specs.Lexemes.{Place}
use Rattle.source_grammar.specs.Types.{WrittenType}
use Rattle.parse_patterns.proofs.Derived as patterns
use Rattle.expr_tails.specs.declared.states.Limit.{Limit}
use Rattle.expr_tails.specs.declared.states.Limit.TheVariants as limit
use Rattle.expr_laws.proofs.BracketsRevived.{Closed, is_dotted, pattern-closed, from-semi-closed, guard-semi-closed, is_guard_bracket, finished-closed, param-finished}
use Rattle.expr_laws.proofs.Derived.{Tail, AtGroup, AtSemi, AtGuardSemi, InPattern, InNew, Context, PatPart, FromPart, GuardPart, Bracket, GensBracket, Frame, State, new_tail, type_of, dotted_of, is_nil, is_param_limit, is_guard_limit, is_expr_limit, in_gens, is_gens, waits, takes_else, at, state, ended_expr, step}
use Rattle.expr_laws.proofs.Derived as derived
use Rattle.expr_laws.proofs.Fillers.{fill, Reaches, reaches-then}
use Rattle.expr_laws.proofs.Fitting.{TailFits, Together, is_of_infix, is_in_pattern, is_guard_semi}
use Rattle.expr_laws.proofs.Lives.{TailLives, is_pattern_bracket, is_param_tail}
use Rattle.expr_laws.proofs.LivesAll.{Keeps, run-keeps}
use Rattle.expr_laws.proofs.LivesParam.{params-is, param-limit}
use Rattle.expr_laws.proofs.Settling.{settled_tail}
use Rattle.expr_laws.proofs.TailsRevived.{Finished, finished, revived, CanEnd, all-headed}

pub keeps-reaches : (s t : State) → Reaches s t → Keeps s → Keeps t
keeps-reaches s t r k = run-keeps (fill r.fillers) s t k (ap (λ is. run step is s) (sym (append-nil (fill r.fillers))) ∙ r.leads.runs [])

-- no pattern that is read ends in a `.`
abbrev pub is_dotted_tail : Tail → Bool
is_dotted_tail (InPattern p) = is_dotted p.current
is_dotted_tail _ = false

out-dotted : (s : Tail) → is_in_pattern s ≡ false → is_dotted_tail s ≡ false
out-dotted (InPattern p) e = cc
out-dotted _ e = refl

-- ---- where an expression ends

settled-infix : (s : Tail) → is_of_infix s ≡ true → is_of_infix (settled_tail s) ≡ true
settled-infix (InNew w t) e = go (type_of t) (dotted_of t) where
  go : (o : Option WrittenType) (d : Option derived.Dotted) → is_of_infix (new_tail w t o d) ≡ true
  go (Some type) d = refl
  go None (Some d) = refl
  go None None = refl
settled-infix (derived.AtSign id) e = refl
settled-infix (derived.AtDot prim p) e = refl
settled-infix _ e = e

no-pattern-bracket : (b : Bracket) (c : Context) → Together b c → is_in_pattern c.tail ≡ false → is_pattern_bracket b ≡ false
no-pattern-bracket (GensBracket w o dones PatPart) c t e = (let no : true ≡ false = sym t ∙ e in cc)
no-pattern-bracket (GensBracket w o dones (FromPart pat arrow)) c t e = refl
no-pattern-bracket (GensBracket w o dones (GuardPart pat arrow from guards sep v)) c t e = refl
no-pattern-bracket _ c t e = refl

guard-limit : (b : Bracket) (c : Context) → Together b c → is_guard_bracket b ≡ true → is_guard_limit c.limit ≡ true
guard-limit (GensBracket w o dones (GuardPart pat arrow from guards sep v)) c t e = t
guard-limit (GensBracket w o dones PatPart) c t e = cc
guard-limit (GensBracket w o dones (FromPart pat arrow)) c t e = cc
guard-limit _ c t e = cc

-- the bracket around a context in which an expression has ended, or can
frame-finished : (f : Frame) (fs : List Frame) (c : Context) → Keeps (state (f ∷ fs) c) → is_in_pattern c.tail ≡ false → Finished (f ∷ fs) c → Closed (f ∷ fs) fs c
frame-finished f fs c k o r =
    let there = keeps-reaches (state (f ∷ fs) c) (state (f ∷ fs) r.end) r.reaches k in
    finished-closed f.bracket f.outer fs c r (no-pattern-bracket f.bracket c k.stands.frames.together o)
    (λ g. settled-infix r.end.tail (there.stands.context.guard (guard-limit f.bracket r.end there.stands.frames.together g)).1)

-- ---- the innermost bracket

-- what the tail needs for an expression to end
can-end : (fs : List Frame) (c : Context) (s : Tail) → TailFits s → TailLives fs (at c s) s → (in_gens fs && not (waits c.heads)) ≡ false → is_guard_semi s ≡ false → is_in_pattern s ≡ false → CanEnd (at c s) s
can-end fs c (AtGroup o parens p head) f t g q i = (f, t.0, t.1)
can-end fs c (AtSemi e p ps) f t g q i = ap (λ b. b || (waits c.heads || (takes_else c.heads && is_nil ps))) (sym g) ∙ t
can-end fs c (AtGuardSemi test p ps) f t g q i = cc
can-end fs c (InPattern p) f t g q i = cc
can-end fs c _ f t g q i = tt

frame-plain : (f : Frame) (fs : List Frame) (c : Context) → Keeps (state (f ∷ fs) c) → is_param_limit c.limit ≡ false → is_in_pattern c.tail ≡ false → CanEnd c c.tail → Closed (f ∷ fs) fs c
frame-plain f fs c k n o e = frame-finished f fs c k o (finished (f ∷ fs) c (revived (f ∷ fs) c c.tail n k.lives.context.no_case e))

frame-pattern : (f : Frame) (fs : List Frame) (c : Context) (p : patterns.State) → Keeps (state (f ∷ fs) (at c (InPattern p))) → is_dotted p.current ≡ false → Closed (f ∷ fs) fs (at c (InPattern p))
frame-pattern f fs c p k n = go f.bracket k.lives.context.tail where
  go : (b : Bracket) → is_pattern_bracket b ≡ true → Closed (derived.frame b f.outer ∷ fs) fs (at c (InPattern p))
  go (GensBracket w o dones PatPart) e = pattern-closed p k.stands.context.tail k.stands.pattern n w o dones f.outer c fs
  go (GensBracket w o dones (FromPart pat arrow)) e = cc
  go (GensBracket w o dones (GuardPart pat arrow from guards sep v)) e = cc
  go _ e = cc

-- a generator ends before the `;`
frame-semi : (f : Frame) (fs : List Frame) (c : Context) (e : Expr) (p : Place) (ps : List Place) → Keeps (state (f ∷ fs) (at c (AtSemi e p ps))) → is_gens f.bracket ≡ true → waits c.heads ≡ false
    → Closed (f ∷ fs) fs (at c (AtSemi e p ps))
frame-semi f fs c e p ps k g w = go f.bracket g k.stands.frames.together where
  infix-no : is_guard_limit c.limit ≡ true → ⊥
  infix-no l = (let no : false ≡ true = (k.stands.context.guard l).1 in cc)

  go : (b : Bracket) → is_gens b ≡ true → Together b (at c (AtSemi e p ps)) → Closed (derived.frame b f.outer ∷ fs) fs (at c (AtSemi e p ps))
  go (GensBracket v o dones PatPart) h t = cc
  go (GensBracket v o dones (FromPart pat arrow)) h t = (let r = all-headed c.heads e w in from-semi-closed e r.expr p ps c pat arrow v o dones f.outer fs w r.is)
  go (GensBracket v o dones (GuardPart pat arrow from guards sep word)) h t = absurd (infix-no t)
  go _ h t = cc

frame-guard-semi : (f : Frame) (fs : List Frame) (c : Context) (test : Infix) (p : Place) (ps : List Place) → Keeps (state (f ∷ fs) (at c (AtGuardSemi test p ps))) → Closed (f ∷ fs) fs (at c (AtGuardSemi test p ps))
frame-guard-semi f fs c test p ps k = go f.bracket k.lives.context.tail k.stands.frames.together where
  guarded : is_guard_limit c.limit ≡ true
  guarded = k.stands.context.semi refl

  not-both : (l : Limit) → is_guard_limit l ≡ true → is_expr_limit l ≡ true → ⊥
  not-both limit.Guard g h = cc
  not-both _ g h = cc

  go : (b : Bracket) → is_gens b ≡ true → Together b (at c (AtGuardSemi test p ps)) → Closed (derived.frame b f.outer ∷ fs) fs (at c (AtGuardSemi test p ps))
  go (GensBracket v o dones PatPart) h t = cc
  go (GensBracket v o dones (FromPart pat arrow)) h t = absurd (not-both c.limit guarded t.0)
  go (GensBracket v o dones (GuardPart pat arrow from guards sep word)) h t = guard-semi-closed test p ps c pat arrow from guards sep word v o dones f.outer fs
  go _ h t = cc

frame-closed : (f : Frame) (fs : List Frame) (c : Context) (s : Tail) → is_param_limit c.limit ≡ false → Keeps (state (f ∷ fs) (at c s)) → is_dotted_tail s ≡ false → Closed (f ∷ fs) fs (at c s)
frame-closed f fs c (InPattern p) n k d = frame-pattern f fs c p k d
frame-closed f fs c (AtGuardSemi test p ps) n k d = frame-guard-semi f fs c test p ps k
frame-closed f fs c (AtSemi e p ps) n k d = go (is_gens f.bracket) (waits c.heads) refl refl where
  go : (g w : Bool) → is_gens f.bracket ≡ g → waits c.heads ≡ w → Closed (f ∷ fs) fs (at c (AtSemi e p ps))
  go true false g w = frame-semi f fs c e p ps k g w
  go true true g w = frame-plain f fs (at c (AtSemi e p ps)) k n refl (ap (λ b. b || (takes_else c.heads && is_nil ps)) w)
  go false w g h = frame-plain f fs (at c (AtSemi e p ps)) k n refl (can-end (f ∷ fs) c (AtSemi e p ps) tt k.lives.context.tail (ap (λ b. b && not (waits c.heads)) g) refl refl)
frame-closed f fs c (AtGroup o parens p head) n k d = frame-plain f fs (at c (AtGroup o parens p head)) k n refl (k.stands.context.tail, k.lives.context.tail.0, k.lives.context.tail.1)
frame-closed f fs c s n k d = frame-plain f fs (at c s) k n refl tt

-- ---- all brackets

-- the state is completed: an expression ends, outside all brackets
pub record Completed (s : State) : Type 0 where
  pub end : Context
  pub expr : Expr
  pub reaches : Reaches s (state [] end)
  pub ended : ended_expr end ≡ Some expr

as-param : (fs : List Frame) (c : Context) → Keeps (state fs c) → is_param_limit c.limit ≡ true → Finished fs c
as-param fs c k n =
    let p = k.lives.context.param n in
    subst (Finished fs) (sym (params-is c p (param-limit c.limit n))) (param-finished fs c.tail p.tail)

param-out : (s : Tail) → is_param_tail s ≡ true → is_in_pattern s ≡ false
param-out (InPattern p) e = cc
param-out _ e = refl

any-closed : (f : Frame) (fs : List Frame) (c : Context) → Keeps (state (f ∷ fs) c) → is_dotted_tail c.tail ≡ false → Closed (f ∷ fs) fs c
any-closed f fs c k d = go (is_param_limit c.limit) refl where
  go : (b : Bool) → is_param_limit c.limit ≡ b → Closed (f ∷ fs) fs c
  go false n = frame-closed f fs c c.tail n k d
  go true n = frame-finished f fs c k (param-out c.tail (k.lives.context.param n).tail) (as-param (f ∷ fs) c k n)

ends-outside : (c : Context) (s : Tail) → is_param_limit c.limit ≡ false → Keeps (state [] (at c s)) → Finished [] (at c s)
ends-outside c (InPattern p) n k = (let no : false ≡ true = k.lives.context.tail in cc)
ends-outside c (AtGuardSemi test p ps) n k = (let no : false ≡ true = k.lives.context.tail in cc)
ends-outside c (AtSemi e p ps) n k = finished [] _ (revived [] c (AtSemi e p ps) n k.lives.context.no_case k.lives.context.tail)
ends-outside c (AtGroup o parens p head) n k = finished [] _ (revived [] c (AtGroup o parens p head) n k.lives.context.no_case (k.stands.context.tail, k.lives.context.tail.0, k.lives.context.tail.1))
ends-outside c s n k = finished [] (at c s) (revived [] c s n k.lives.context.no_case tt)

any-finished : (c : Context) → Keeps (state [] c) → Finished [] c
any-finished c k = go (is_param_limit c.limit) refl where
  go : (b : Bool) → is_param_limit c.limit ≡ b → Finished [] c
  go false n = ends-outside c c.tail n k
  go true n = as-param [] c k n

pub completed : (fs : List Frame) (c : Context) → Keeps (state fs c) → is_dotted_tail c.tail ≡ false → Completed (state fs c)
completed [] c k d = (let r = any-finished c k in record { end = r.end; expr = r.expr; reaches = r.reaches; ended = r.ended })
completed (f ∷ fs) c k d =
    let v = any-closed f fs c k d in
    let r = completed fs v.next (keeps-reaches (state (f ∷ fs) c) (state fs v.next) v.reaches k) (out-dotted v.next.tail v.plain) in
    record { end = r.end; expr = r.expr; reaches = reaches-then (state (f ∷ fs) c) (state fs v.next) (state [] r.end) v.reaches r.reaches; ended = r.ended }
