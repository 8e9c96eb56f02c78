-- What is read in a bracket can be completed, and the bracket closed.
use Rattle.std.proofs.Common.{◌≡◌, Bool, true, false, if◌then◌else◌, List, [], ◌∷◌, Option, Some, None, refl, ap, sym, ◌∙◌, subst}
use Rattle.std.specs.Prelude.{not}
use Rattle.scan_tokens.specs.declared.tokens.Newline.TheVariants.{No}
use Rattle.source_grammar.specs.Expressions.{PrefixSign, Sep, Expr, Infix, NewWith}
use Rattle.source_grammar.specs.Lexemes.{Place, Lexeme, close_round, underscore, back_arrow_token, BackArrow}
use Rattle.source_grammar.specs.Patterns.{Pat, SPat, LastOperand}
use Rattle.parse_parts.proofs.Derived as types
use Rattle.parse_patterns.proofs.Alive.{any_place}
use Rattle.parse_patterns.proofs.Derived as patterns
use Rattle.parse_patterns.proofs.Seen as patterns_seen
use Rattle.expr_tails.specs.declared.states.Limit.TheVariants as limit
use Rattle.expr_tails.specs.Symbols.{symbol_of}
use Rattle.expr_laws.proofs.Derived as derived
use Rattle.expr_laws.proofs.Derived.{OneToken, Operation, Tail, Begin, AtSign, AtName, AtWild, AtPrim, AtCall, InTyped, AtSemi, AtGuardSemi, InPattern, Head, Context, Part, PatPart, FromPart, GuardPart, DoneGen, Bracket, GroupBracket, ArgsBracket, NewArgsBracket, IfTest, WhileTest, DoTest, GensBracket, Frame, prim_at, chain_of, chain_at, innermost, innermost_at, infix_expr, headed_all, waits, ended_expr, is_some, at, fresh, state, in_state, with_head, unless, gen_with, done_gen, gen_at, next_in, next_generator, next_pattern, begun_pattern, in_pattern, frame, is_untouched, emptied, closed_group, closed_args, behind_test, behind_until, behind_gens, closed_in, step}
use Rattle.expr_laws.proofs.Fillers.{a_back_arrow, One, Wild, Closing, Reaches, reaches-none, reaches-then, reaches-on, reaches-one, reaches-by, marks, mark_tokens, fill, fill-marks}
use Rattle.expr_laws.proofs.Fitting.{is_of_infix, is_in_pattern, is_plain, IsGenerator}
use Rattle.expr_laws.proofs.GroupsAlong.{element-is, touched}
use Rattle.expr_laws.proofs.Items.{tokens}
use Rattle.expr_laws.proofs.LastingFrames.{PlainFrame, PlainFrames}
use Rattle.expr_laws.proofs.Lives.{is_param_tail, is_pattern_bracket}
use Rattle.expr_laws.proofs.LivesParam.{params}
use Rattle.expr_laws.proofs.Moving.{leads-as, token-step}
use Rattle.expr_laws.proofs.Seen.{Seen, AnUnderscore, ABackArrow, ClosesRound, seen-underscore, seen-back_arrow, seen-close_round, seen}
use Rattle.expr_laws.proofs.Settling.{settled, settled_tail, settled-ended, close-step}
use Rattle.expr_laws.proofs.TailsRevived.{Finished, in_gens_of, arrow-closed, for_head}
use Rattle.expr_laws.proofs.TokenSteps.{if-true, if-false, type-leads, underscore-begins}
use Rattle.expr_laws.proofs.TypesRevived.{type-ends}

-- the bracket is closed
pub record Closed (fs gs : List Frame) (c : Context) : Type 0 where
  pub next : Context
  pub reaches : Reaches (state fs c) (state gs next)
  pub plain : is_in_pattern next.tail ≡ false

closed-by : (fs gs : List Frame) (c d : Context) → Reaches (state fs c) (state fs d) → Closed fs gs d → Closed fs gs c
closed-by fs gs c d p r = record { next = r.next; reaches = reaches-then (state fs c) (state fs d) (state gs r.next) p r.reaches; plain = r.plain }

-- ---- patterns of generators

pattern-step : (x : Lexeme) (y : Seen) (fs : List Frame) (c : Context) (p : patterns.State) → seen x ≡ y → step (state fs (at c (InPattern p))) (OneToken x) ≡ in_pattern y x p fs
pattern-step x y fs c p e = token-step x y (symbol_of x.kind x.word) fs (at c (InPattern p)) (at c (InPattern p)) refl e refl refl

-- a pattern without types and operators, in these brackets
abbrev plain_at : List patterns.Frame → patterns.Tail → patterns.State
plain_at pfs s = patterns.at pfs [] (patterns.InInfix None [] s)

-- an operand ends there
abbrev is_ended : patterns.Tail → Bool
is_ended (patterns.AtWild place) = true
is_ended (patterns.AtPath path) = true
is_ended (patterns.AtEnded pat) = true
is_ended _ = false

record Read (s : patterns.Tail) : Type 0 where
  pat : SPat
  is : patterns.spat_of s ≡ Some pat
  not_begin : derived.at_begin (patterns.InInfix None [] s) ≡ false
  closes : (pfs : List patterns.Frame) → patterns.step (plain_at pfs s) (close_round any_place) ≡ patterns.ended (patterns_seen.ClosesRound any_place) (patterns.infix_at None [] (patterns.spat_of s)) [] pfs

read-at : (s : patterns.Tail) → is_ended s ≡ true → Read s
read-at (patterns.AtWild place) e = record { pat = _; is = refl; not_begin = refl; closes = λ pfs. refl }
read-at (patterns.AtPath path) e = record { pat = _; is = refl; not_begin = refl; closes = λ pfs. refl }
read-at (patterns.AtEnded pat) e = record { pat = _; is = refl; not_begin = refl; closes = λ pfs. refl }
read-at _ e = cc

abbrev gens_open : Place → Place → List DoneGen → Context → List Frame → List Frame
gens_open w o dones outer fs = in_gens_of w o dones PatPart outer fs

abbrev PatternCloses : List patterns.Frame → Type 0
PatternCloses pfs = (s : patterns.Tail) → is_ended s ≡ true → (w o : Place) (dones : List DoneGen) (outer c : Context) (fs : List Frame)
    → Closed (gens_open w o dones outer fs) fs (at c (InPattern (plain_at pfs s)))

-- after the pattern `<-` and `_` follow
outside-closes : PatternCloses []
outside-closes s e w o dones outer c fs =
    let r = read-at s e in
    let pat : Pat = patterns.pat_read [] (patterns.bound None (patterns.settled [] (LastOperand r.pat))) in
    record {
      next = with_head outer (for_head w o dones pat a_back_arrow);
      reaches = arrow-closed w o dones pat outer fs (at c (InPattern (plain_at [] s)))
          (pattern-step (back_arrow_token a_back_arrow) (ABackArrow a_back_arrow) (gens_open w o dones outer fs) c (plain_at [] s) (seen-back_arrow a_back_arrow)
          ∙ ap (λ v. derived.arrowed (derived.pattern_read [] [] (patterns.infix_at None [] v)) a_back_arrow (gens_open w o dones outer fs)) r.is);
      plain = refl;
    }

-- within a bracket of it, `)`
plain-ended : (f : patterns.Frame) (pfs : List patterns.Frame) (d : SPat) → PlainFrame f → patterns.ended_at f.binder f.operations f.earlier pfs d ≡ plain_at pfs (patterns.AtEnded d)
plain-ended f pfs d k =
    ap (λ b. patterns.ended_at b f.operations f.earlier pfs d) k.binder
    ∙ ap (λ os. patterns.ended_at None os f.earlier pfs d) k.operations
    ∙ ap (λ es. patterns.ended_at None [] es pfs d) k.earlier

close-pattern : (f : patterns.Frame) (pfs : List patterns.Frame) → PlainFrame f → PatternCloses pfs → PatternCloses (f ∷ pfs)
close-pattern f pfs k on s e w o dones outer c fs =
    let r = read-at s e in
    let gs : List Frame = gens_open w o dones outer fs in
    let pat : Pat = patterns.pat_read [] (patterns.bound None (patterns.settled [] (LastOperand r.pat))) in
    let d : SPat = patterns.closed_as any_place pat f.bracket in
    let there : Context = at (fresh limit.Expr) (InPattern (plain_at pfs (patterns.AtEnded d))) in
    closed-by gs fs (at c (InPattern (plain_at (f ∷ pfs) s))) there
    (reaches-one (One Closing) _ _
    (pattern-step (close_round any_place) (ClosesRound any_place) gs c (plain_at (f ∷ pfs) s) (seen-close_round any_place)
    ∙ if-true (not (derived.at_begin (patterns.InInfix None [] s))) (derived.pattern_in gs (patterns.step (plain_at (f ∷ pfs) s) (close_round any_place))) None (ap not r.not_begin)
    ∙ ap (derived.pattern_in gs)
    (r.closes (f ∷ pfs) ∙ ap (λ v. patterns.ended (patterns_seen.ClosesRound any_place) (patterns.infix_at None [] v) [] (f ∷ pfs)) r.is ∙ ap (λ t. Some t) (plain-ended f pfs d k))))
    (on (patterns.AtEnded d) refl w o dones outer (fresh limit.Expr) fs)

pattern-closes : (pfs : List patterns.Frame) → PlainFrames pfs → PatternCloses pfs
pattern-closes [] k = outside-closes
pattern-closes (f ∷ pfs) k = close-pattern f pfs k.0 (pattern-closes pfs k.1)

begun-closes : (pfs : List patterns.Frame) → PlainFrames pfs → (w o : Place) (dones : List DoneGen) (outer c : Context) (fs : List Frame)
    → Closed (gens_open w o dones outer fs) fs (at c (InPattern (plain_at pfs patterns.Begin)))
begun-closes pfs k w o dones outer c fs =
    let gs : List Frame = gens_open w o dones outer fs in
    closed-by gs fs _ (at (fresh limit.Expr) (InPattern (plain_at pfs (patterns.AtWild any_place))))
    (reaches-one (One Wild) _ _ (pattern-step (underscore any_place) (AnUnderscore any_place) gs c (plain_at pfs patterns.Begin) (seen-underscore any_place)))
    (pattern-closes pfs k (patterns.AtWild any_place) refl w o dones outer (fresh limit.Expr) fs)

-- no pattern of a generator ends in a `.`
abbrev pub is_dotted : patterns.Current → Bool
is_dotted (patterns.InInfix b os (patterns.AtDot path d)) = true
is_dotted _ = false

pub pattern-closed : (p : patterns.State) → IsGenerator p → PlainFrames p.frames → is_dotted p.current ≡ false → (w o : Place) (dones : List DoneGen) (outer c : Context) (fs : List Frame)
    → Closed (gens_open w o dones outer fs) fs (at c (InPattern p))
pattern-closed p g k n w o dones outer c fs =
    subst (λ es. Closed (gens_open w o dones outer fs) fs (at c (InPattern (patterns.at p.frames es p.current)))) (sym g.earlier) (go p.current g.current n)
  where
    go : (q : patterns.Current) → is_plain q ≡ true → is_dotted q ≡ false → Closed (gens_open w o dones outer fs) fs (at c (InPattern (patterns.at p.frames [] q)))
    go (patterns.InInfix None [] patterns.Begin) a d = begun-closes p.frames k w o dones outer c fs
    go (patterns.InInfix None [] (patterns.AtWild place)) a d = pattern-closes p.frames k (patterns.AtWild place) refl w o dones outer c fs
    go (patterns.InInfix None [] (patterns.AtPath path)) a d = pattern-closes p.frames k (patterns.AtPath path) refl w o dones outer c fs
    go (patterns.InInfix None [] (patterns.AtDot path q)) a d = cc
    go (patterns.InInfix None [] (patterns.AtEnded pat)) a d = pattern-closes p.frames k (patterns.AtEnded pat) refl w o dones outer c fs
    go (patterns.InInfix None (op ∷ os) s) a d = cc
    go (patterns.InInfix (Some b) os s) a d = cc
    go (patterns.InType s q t) a d = cc

-- ---- after a `;` the next generator

next-closed : (s : Tail) (c : Context) (part : Part) (d : DoneGen) (w o : Place) (dones : List DoneGen) (outer : Context) (fs : List Frame)
    → next_generator (in_gens_of w o dones part outer fs) (at c s) No ≡ Some (state (gens_open w o (d ∷ dones) outer fs) next_pattern)
    → step (state (in_gens_of w o dones part outer fs) (at c s)) (OneToken (underscore any_place))
    ≡ (if is_some (next_generator (in_gens_of w o dones part outer fs) (at c s) No)
    then begun_pattern (next_generator (in_gens_of w o dones part outer fs) (at c s) No) (AnUnderscore any_place) (underscore any_place)
    else derived.moved (AnUnderscore any_place) (in_gens_of w o dones part outer fs) (at c s))
    → Closed (in_gens_of w o dones part outer fs) fs (at c s)
next-closed s c part d w o dones outer fs n e =
    let gs : List Frame = in_gens_of w o dones part outer fs in
    let hs : List Frame = gens_open w o (d ∷ dones) outer fs in
    let there : Context = at (fresh limit.Expr) (InPattern (plain_at [] (patterns.AtWild any_place))) in
    let r = pattern-closes [] tt (patterns.AtWild any_place) refl w o (d ∷ dones) outer (fresh limit.Expr) fs in
    record {
      next = r.next;
      reaches = reaches-on (One Wild) (state gs (at c s)) (state hs there) (state fs r.next)
          (e ∙ ap (λ v. if is_some v then begun_pattern v (AnUnderscore any_place) (underscore any_place) else derived.moved (AnUnderscore any_place) gs (at c s)) n) r.reaches;
      plain = r.plain;
    }

semi-token : (e : Expr) (p : Place) (ps : List Place) (c : Context) (gs : List Frame) → step (state gs (at c (AtSemi e p ps))) (OneToken (underscore any_place))
    ≡ (if is_some (next_generator gs (at c (AtSemi e p ps)) No) then begun_pattern (next_generator gs (at c (AtSemi e p ps)) No) (AnUnderscore any_place) (underscore any_place)
    else derived.moved (AnUnderscore any_place) gs (at c (AtSemi e p ps)))
semi-token e p ps c gs =
    token-step (underscore any_place) (AnUnderscore any_place) (symbol_of (underscore any_place).kind (underscore any_place).word) gs (at c (AtSemi e p ps)) (at c (AtSemi e p ps)) refl (seen-underscore any_place) refl refl

guard-token : (test : Infix) (p : Place) (ps : List Place) (c : Context) (gs : List Frame) → step (state gs (at c (AtGuardSemi test p ps))) (OneToken (underscore any_place))
    ≡ (if is_some (next_generator gs (at c (AtGuardSemi test p ps)) No) then begun_pattern (next_generator gs (at c (AtGuardSemi test p ps)) No) (AnUnderscore any_place) (underscore any_place)
    else derived.moved (AnUnderscore any_place) gs (at c (AtGuardSemi test p ps)))
guard-token test p ps c gs =
    token-step (underscore any_place) (AnUnderscore any_place) (symbol_of (underscore any_place).kind (underscore any_place).word) gs (at c (AtGuardSemi test p ps)) (at c (AtGuardSemi test p ps)) refl
    (seen-underscore any_place) refl refl

pub from-semi-closed : (e whole : Expr) (p : Place) (ps : List Place) (c : Context) (pat : Pat) (arrow : BackArrow) (w o : Place) (dones : List DoneGen) (outer : Context) (fs : List Frame)
    → waits c.heads ≡ false → headed_all c.heads (Some e) ≡ Some whole → Closed (in_gens_of w o dones (FromPart pat arrow) outer fs) fs (at c (AtSemi e p ps))
from-semi-closed e whole p ps c pat arrow w o dones outer fs n h =
    next-closed (AtSemi e p ps) c (FromPart pat arrow) _ w o dones outer fs
    (ap (λ v. next_in (done_gen (gen_with (FromPart pat arrow) v None) (p ∷ ps)) w o dones outer No fs) (ap (λ b. unless b (headed_all c.heads (Some e))) n ∙ h))
    (semi-token e p ps c (in_gens_of w o dones (FromPart pat arrow) outer fs))

pub guard-semi-closed : (test : Infix) (p : Place) (ps : List Place) (c : Context) (pat : Pat) (arrow : BackArrow) (from : Expr) (guards : List derived.DoneGuard) (sep : Sep) (v w o : Place) (dones : List DoneGen)
    (outer : Context) (fs : List Frame) → Closed (in_gens_of w o dones (GuardPart pat arrow from guards sep v) outer fs) fs (at c (AtGuardSemi test p ps))
guard-semi-closed test p ps c pat arrow from guards sep v w o dones outer fs =
    next-closed (AtGuardSemi test p ps) c (GuardPart pat arrow from guards sep v) _ w o dones outer fs refl (guard-token test p ps c (in_gens_of w o dones (GuardPart pat arrow from guards sep v) outer fs))

-- ---- `)`

-- where an expression ends with its heads
close-at : (b : Bracket) (outer : Context) (fs : List Frame) (c : Context) (r : Finished (frame b outer ∷ fs) c) (d : Context) → closed_in b any_place (settled r.end) outer ≡ Some d
    → is_in_pattern d.tail ≡ false → Closed (frame b outer ∷ fs) fs c
close-at b outer fs c r d e o =
    let gs : List Frame = frame b outer ∷ fs in
    closed-by gs fs c r.end r.reaches
    (record {
      next = d;
      reaches = reaches-one (One Closing) (state gs r.end) (state fs d)
          (close-step any_place gs r.end r.expr r.ended
          ∙ ap (in_state fs) (if-false (is_untouched (settled r.end)) (emptied b any_place outer) (closed_in b any_place (settled r.end) outer) (touched (settled r.end) r.expr (settled-ended r.end r.end.tail r.expr r.ended)))
          ∙ ap (in_state fs) e);
      plain = o;
    })

ended-settled : (c : Context) (fs : List Frame) (r : Finished fs c) → ended_expr (settled r.end) ≡ Some r.expr
ended-settled c fs r = settled-ended r.end r.end.tail r.expr r.ended

-- no `;` stands after what ended
not-semi : (s : Tail) (os : List Operation) (sign : Option PrefixSign) (e : Expr) → innermost_at s (chain_of os sign (prim_at s)) ≡ Some e → (part : Part) (c : Context)
    → gen_at part s (at c s) ≡ done_gen (gen_with part (ended_expr (at c s)) (chain_at (at c s))) []
not-semi (AtSemi expr p ps) os sign e h part c = cc
not-semi (AtGuardSemi test p ps) os sign e h part c = cc
not-semi _ os sign e h part c = refl

some-headed : (hs : List Head) (o : Option Expr) (e : Expr) → headed_all hs o ≡ Some e → (v : Expr) × (o ≡ Some v)
some-headed [] None e h = cc
some-headed [] (Some v) e h = (v, refl)
some-headed (k ∷ hs) None e h = cc
some-headed (k ∷ hs) (Some v) e h = (v, refl)

some-ended : (c : Context) (e : Expr) → ended_expr c ≡ Some e → (v : Expr) × (innermost c ≡ Some v)
some-ended c e h = go (waits c.heads) h where
  go : (b : Bool) → (if b then None else headed_all c.heads (innermost c)) ≡ Some e → (v : Expr) × (innermost c ≡ Some v)
  go true g = cc
  go false g = some-headed c.heads (innermost c) e g

some-infix : (o : Option Infix) (e : Expr) → infix_expr o ≡ Some e → (test : Infix) × (o ≡ Some test)
some-infix None e h = cc
some-infix (Some test) e h = (test, refl)

-- an Infix ends where no other expression can
chain-there : (s : Tail) (o : Option Infix) (e : Expr) → is_of_infix s ≡ true → innermost_at s o ≡ Some e → (test : Infix) × (o ≡ Some test)
chain-there (AtGuardSemi test p ps) o e i h = some-infix o e h
chain-there (InTyped of p t) o e i h = cc
chain-there (derived.AtReturn w) o e i h = cc
chain-there (derived.AtCaught w body catch q cases k) o e i h = cc
chain-there (derived.AtEnded expr) o e i h = cc
chain-there _ o e i h = some-infix o e h

-- the guard of a generator is read
abbrev pub is_guard_bracket : Bracket → Bool
is_guard_bracket (GensBracket w o dones (GuardPart pat arrow from guards sep v)) = true
is_guard_bracket _ = false

pub finished-closed : (b : Bracket) (outer : Context) (fs : List Frame) (c : Context) (r : Finished (frame b outer ∷ fs) c) → is_pattern_bracket b ≡ false
    → (is_guard_bracket b ≡ true → is_of_infix (settled r.end).tail ≡ true) → Closed (frame b outer ∷ fs) fs c
finished-closed (GroupBracket o dones head) outer fs c r n g =
    let el = element-is (settled r.end) r.expr (ended-settled c _ r) in
    close-at (GroupBracket o dones head) outer fs c r _ (ap (λ v. closed_group o dones head v any_place outer) el.found) refl
finished-closed (ArgsBracket prim o dones) outer fs c r n g =
    close-at (ArgsBracket prim o dones) outer fs c r _ (ap (λ v. closed_args (AtCall prim) o dones v any_place outer) (ended-settled c _ r)) refl
finished-closed (NewArgsBracket w type o dones) outer fs c r n g =
    close-at (NewArgsBracket w type o dones) outer fs c r _ (ap (λ v. closed_args (λ args. AtPrim (NewWith w type args)) o dones v any_place outer) (ended-settled c _ r)) refl
finished-closed (IfTest w o) outer fs c r n g = close-at (IfTest w o) outer fs c r _ (ap (behind_test outer _) (ended-settled c _ r)) refl
finished-closed (WhileTest w o) outer fs c r n g = close-at (WhileTest w o) outer fs c r _ (ap (behind_test outer _) (ended-settled c _ r)) refl
finished-closed (DoTest w body sep until o) outer fs c r n g = close-at (DoTest w body sep until o) outer fs c r _ (ap (behind_until outer _) (ended-settled c _ r)) refl
finished-closed (GensBracket w o dones PatPart) outer fs c r n g = cc
finished-closed (GensBracket w o dones (FromPart pat arrow)) outer fs c r n g =
    let i = some-ended (settled r.end) r.expr (ended-settled c _ r) in
    close-at (GensBracket w o dones (FromPart pat arrow)) outer fs c r _
    (ap (behind_gens w o dones any_place outer)
    (not-semi (settled_tail r.end.tail) r.end.operations r.end.sign i.0 i.1 (FromPart pat arrow) r.end
    ∙ ap (λ v. done_gen (gen_with (FromPart pat arrow) v (chain_at (settled r.end))) []) (ended-settled c _ r))) refl
finished-closed (GensBracket w o dones (GuardPart pat arrow from guards sep v)) outer fs c r n g =
    let i = some-ended (settled r.end) r.expr (ended-settled c _ r) in
    let t = chain-there (settled_tail r.end.tail) (chain_at (settled r.end)) i.0 (g refl) i.1 in
    close-at (GensBracket w o dones (GuardPart pat arrow from guards sep v)) outer fs c r _
    (ap (behind_gens w o dones any_place outer)
    (not-semi (settled_tail r.end.tail) r.end.operations r.end.sign i.0 i.1 (GuardPart pat arrow from guards sep v) r.end
    ∙ ap (λ k. done_gen (gen_with (GuardPart pat arrow from guards sep v) (ended_expr (settled r.end)) k) []) t.1)) refl

-- ---- parameters

abbrev typed_to : derived.TypedOf → Place → types.State → Context
typed_to of p t = params (InTyped of p t)

param-typed : (fs : List Frame) (of : derived.TypedOf) (p : Place) (t : types.State) → Finished fs (typed_to of p t)
param-typed fs of p t =
    let r = type-ends t in
    let u : types.State = record { frames = []; heads = r.heads; tail = types.AtPath r.path } in
    record {
      end = typed_to of p u;
      expr = _;
      reaches = reaches-by (marks r.others) _ _ (leads-as (tokens (mark_tokens r.others)) (fill (marks r.others)) _ _ (fill-marks r.others) (type-leads (mark_tokens r.others) of p fs (params Begin) t u r.runs));
      ended = refl;
    }

pub param-finished : (fs : List Frame) (s : Tail) → is_param_tail s ≡ true → Finished fs (params s)
param-finished fs Begin k = record { end = params (AtWild any_place); expr = _; reaches = reaches-one (One Wild) _ _ (underscore-begins any_place fs (params Begin) refl); ended = refl }
param-finished fs (AtSign id) k = record { end = params (AtSign id); expr = _; reaches = reaches-none _; ended = refl }
param-finished fs (AtName id b) k = record { end = params (AtName id b); expr = _; reaches = reaches-none _; ended = refl }
param-finished fs (AtWild p) k = record { end = params (AtWild p); expr = _; reaches = reaches-none _; ended = refl }
param-finished fs (InTyped of p t) k = param-typed fs of p t
param-finished fs _ k = cc
