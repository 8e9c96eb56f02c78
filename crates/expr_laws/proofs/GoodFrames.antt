-- Commas and parentheses lead from good states to good states.
use Rattle.std.proofs.Common.{◌≡◌, nat_lt, Bool, true, false, ◌&&◌, ◌||◌, if◌then◌else◌, List, [], ◌∷◌, length, Option, Some, None, refl, sym, ◌∙◌, subst}
use Rattle.source_grammar.specs.Definitions.{TypePart, NoType, OfType}
use Rattle.source_grammar.specs.Expressions.{LPar, NamedLPar, WildLPar, Expr, DoThenWhile, Sep, Prim, NewWith, NoArgs, ExprArgs, ExprList, LastExpr, MoreExprs}
use Rattle.source_grammar.specs.ExpressionRules.{Rule, ProperExpr, ProperExprList}
use Rattle.source_grammar.specs.ExpressionTokens.{prim_tokens}
use Rattle.source_grammar.specs.Lexemes.{Place, open_round}
use Rattle.source_grammar.specs.Newlines.{newline_before}
use Rattle.source_grammar.specs.Types.{WrittenType}
use Rattle.parse_patterns.proofs.Good.{start-good}
use Rattle.parse_patterns.specs.Steps.{is_no}
use Rattle.expr_tails.specs.declared.states.Limit.{Limit}
use Rattle.expr_tails.specs.declared.states.Limit.TheVariants as limit
use Rattle.expr_laws.proofs.Derived.{Element, ParamElement, ExprElement, DoneElement, DoneExpr, NoElements, Elements, TypedOf, OfName, OfWild, IfAsker, WhileAsker, ForAsker, Tail, Begin, AtName, AtWild, AtGroup, AtPrim, AtCall, AtNew, InTyped, AtAsker, AtUntil, AtEnded, InPattern, Head, Of, Context, Part, PatPart, FromPart, GuardPart, Bracket, GroupBracket, ArgsBracket, NewArgsBracket, IfTest, WhileTest, DoTest, GensBracket, Frame, State, type_of, is_nil, is_first, is_param_limit, may_stand, may_head, receiver_at, receiver, at, fresh, state, in_state, with_head, ended_expr, frame, next_pattern, typed_element, param_element, expr_element, or_else, element_at, is_param, limit_behind, parted_group, parted_args, parted_in, is_untouched, emptied, closed_group, closed_args, behind_test, behind_until, closed_in, closed_frame, waiting_bracket, inner, opened_with, args_bracket}
use Rattle.expr_laws.proofs.Derived as derived
use Rattle.expr_laws.proofs.Fitting.{Fits, Together, is_in_pattern}
use Rattle.expr_laws.proofs.Good.{is-no, JoinedIf, bracket_front, head_before, is_return, GoodHead, tail_front, GoodElement, GoodExprs, LevelOf, GoodContext, GoodBracket, GoodFrame, GoodFrames, Good, rests}
use Rattle.expr_laws.proofs.GoodDecided.{ReadyAt}
use Rattle.expr_laws.proofs.GoodNames.{AllRested, rest-none, rest-tail, begun-level}
use Rattle.expr_laws.proofs.GoodPairs.{called-receiver}
use Rattle.expr_laws.proofs.GoodPrims.{prim-front, level-same, receiver-good, alone-joined}
use Rattle.expr_laws.proofs.GoodWords.{head-good}
use Rattle.expr_laws.proofs.HeadsGood.{ended-proper}
use Rattle.expr_laws.proofs.LastingFrames.{Headable, FramesStand}
use Rattle.expr_laws.proofs.Naming.{receiver-prim, not-param}

module _ (rule : Rule) where
  -- ---- states

  abbrev pub AllGood : Option State → Type 0
  AllGood o = (t : State) → o ≡ Some t → Good rule t

  pub good-none : AllGood None
  good-none t e = cc

  pub good-some : (s : State) → Good rule s → AllGood (Some s)
  good-some s g t e = (let same : s ≡ t = cc in subst (Good rule) same g)

  pub good-if : (b : Bool) (x y : Option State) → (b ≡ true → AllGood x) → (b ≡ false → AllGood y) → AllGood (if b then x else y)
  good-if true x y p q = p refl
  good-if false x y p q = q refl

  -- a bracket is not asked for the tail in it, but where a pattern is read
  frame-same : (b : Bracket) (c : Context) (s : Tail) → Together b c → is_in_pattern c.tail ≡ false → GoodBracket rule b c.tail → GoodBracket rule b s
  frame-same (GensBracket place o done PatPart) c s t out g = (let no : true ≡ false = sym t ∙ out in cc)
  frame-same (GensBracket place o done (FromPart pat arrow)) c s t out g = g
  frame-same (GensBracket place o done (GuardPart pat arrow from guards sep w)) c s t out g = g
  frame-same (GroupBracket o done head) c s t out g = g
  frame-same (ArgsBracket prim o done) c s t out g = g
  frame-same (NewArgsBracket place type o done) c s t out g = g
  frame-same (DoTest place body sep until o) c s t out g = g
  frame-same _ c s t out g = tt

  pub frames-same : (fs : List Frame) (c : Context) (s : Tail) → FramesStand fs c → is_in_pattern c.tail ≡ false → GoodFrames rule fs c.tail → GoodFrames rule fs s
  frames-same [] c s h out g = tt
  frames-same (f ∷ fs) c s h out g = (record { level = g.0.level; bracket = frame-same f.bracket c s h.together out g.0.bracket; param = g.0.param }, g.1)

  pub context-good : (fs : List Frame) (c : Context) (v : Option Context) → FramesStand fs c → is_in_pattern c.tail ≡ false → GoodFrames rule fs c.tail → AllRested rule v → AllGood (in_state fs v)
  context-good fs c None h out g r = good-none
  context-good fs c (Some d) h out g r = (let k = r d refl in good-some (state fs d) (record { context = k.good; rests = k.rests; frames = frames-same fs c d.tail h out g }))

  fresh-context : (l : Limit) → GoodContext rule (fresh l)
  fresh-context l = record { level = record { heads = tt; operations = tt; joined = tt; near = tt; signed = tt }; tail = tt; param = λ e. refl }

  pub fresh-good : (fs : List Frame) (l : Limit) → GoodFrames rule fs Begin → Good rule (state fs (fresh l))
  fresh-good fs l g = record { context = fresh-context l; rests = refl; frames = g }

  -- before the pattern of a generator
  pub pattern-context : GoodContext rule next_pattern
  pattern-context = record {
    level = record { heads = tt; operations = tt; joined = tt; near = tt; signed = tt };
    tail = record { proper = start-good; current = refl; frames = refl };
    param = λ e. refl;
  }

  -- ---- elements

  param-good : (b : Bool) (s : Tail) (x : Element) → param_element b s ≡ Some x → GoodElement rule x
  param-good b s x e = go b s e where
    by-param : (p : LPar) → Some (ParamElement p) ≡ Some x → GoodElement rule x
    by-param p f = (let same : ParamElement p ≡ x = cc in subst (GoodElement rule) same tt)

    typed : (to : TypePart → LPar) (point : Place) (v : Option WrittenType) → typed_element to point v ≡ Some x → GoodElement rule x
    typed to point None f = cc
    typed to point (Some type) f = by-param (to (OfType point type)) f

    go : (k : Bool) (t : Tail) → param_element k t ≡ Some x → GoodElement rule x
    go true (AtName id is_sign) f = by-param (NamedLPar id NoType) f
    go true (AtWild place) f = by-param (WildLPar place NoType) f
    go true (InTyped (OfName id) point t) f = typed (NamedLPar id) point (type_of t) f
    go true (InTyped (OfWild place) point t) f = typed (WildLPar place) point (type_of t) f
    go _ _ f = cc

  element-good : (c : Context) (x : Element) → Fits c → GoodContext rule c → element_at c ≡ Some x → GoodElement rule x
  element-good c x f g e = go (param_element (is_first c && is_nil c.heads) c.tail) refl e where
    ended : (v : Option Expr) → ended_expr c ≡ v → expr_element v ≡ Some x → GoodElement rule x
    ended None was h = cc
    ended (Some d) was h = (let same : ExprElement d ≡ x = cc in subst (GoodElement rule) same (ended-proper rule c d f g was))

    go : (v : Option Element) → param_element (is_first c && is_nil c.heads) c.tail ≡ v → or_else v (expr_element (ended_expr c)) ≡ Some x → GoodElement rule x
    go None was h = ended (ended_expr c) refl h
    go (Some p) was h = (let same : p ≡ x = cc in subst (GoodElement rule) same (param-good (is_first c && is_nil c.heads) c.tail p was))

  -- ---- commas

  group-parted : (p o : Place) (done : List DoneElement) (head : Bool) (v : Option Element) (c outer : Context) (fs : List Frame) → element_at c ≡ v → Fits c → GoodContext rule c
      → GoodFrame rule (frame (GroupBracket o done head) outer) c.tail → GoodFrames rule fs outer.tail → AllGood (parted_group p o done head v outer fs)
  group-parted p o done head None c outer fs e f g k r = good-none
  group-parted p o done head (Some x) c outer fs e f g k r =
      let next : List DoneElement = record { element = x; place = p } ∷ done in
      good-if (nat_lt (length done) 2 || (head && is_param x)) _ _
      (λ b. good-some _ (fresh-good (frame (GroupBracket o next (head && is_param x)) outer ∷ fs) (limit_behind next)
      (record { level = k.level; bracket = (element-good c x f g e, k.bracket); param = k.param }, r)))
      (λ b. good-none)

  args-parted : (p : Place) (bracket : List DoneExpr → Bracket) (done : List DoneExpr) (v : Option Expr) (c outer : Context) (fs : List Frame) → ended_expr c ≡ v → Fits c → GoodContext rule c
      → ((x : Expr) → ProperExpr rule x → GoodFrame rule (frame (bracket (record { expr = x; place = p } ∷ done)) outer) Begin) → GoodFrames rule fs outer.tail
      → AllGood (parted_args p bracket done v outer fs)
  args-parted p bracket done None c outer fs e f g k r = good-none
  args-parted p bracket done (Some x) c outer fs e f g k r =
      good-some _ (fresh-good (frame (bracket (record { expr = x; place = p } ∷ done)) outer ∷ fs) limit.Expr (k x (ended-proper rule c x f g e), r))

  pub parted-good : (p : Place) (fs : List Frame) (c : Context) → Fits c → GoodContext rule c → GoodFrames rule fs c.tail → AllGood (derived.parted p fs c)
  parted-good p [] c f g r = good-none
  parted-good p (k ∷ fs) c f g r = go k.bracket k.outer r.0 r.1 where
    go : (b : Bracket) (outer : Context) → GoodFrame rule (frame b outer) c.tail → GoodFrames rule fs outer.tail → AllGood (parted_in p b c outer fs)
    go (GroupBracket o done head) outer h q = group-parted p o done head (element_at c) c outer fs refl f g h q
    go (ArgsBracket prim o done) outer h q =
        args-parted p (ArgsBracket prim o) done (ended_expr c) c outer fs refl f g
        (λ x k. record { level = h.level; bracket = (h.bracket.0, h.bracket.1, h.bracket.2, (k, h.bracket.3)); param = h.param }) q
    go (NewArgsBracket place type o done) outer h q =
        args-parted p (NewArgsBracket place type o) done (ended_expr c) c outer fs refl f g
        (λ x k. record { level = h.level; bracket = (h.bracket.0, (k, h.bracket.1)); param = h.param }) q
    go _ outer h q = good-none

  -- ---- closed brackets

  listed-proper : (done : List DoneExpr) (xs : ExprList) → GoodExprs rule done → ProperExprList rule xs → ProperExprList rule (derived.listed done xs)
  listed-proper [] xs g p = p
  listed-proper (d ∷ done) xs g p = listed-proper done (MoreExprs d.expr d.place xs) g.1 (g.0, p)

  pub emptied-good : (b : Bracket) (p : Place) (outer : Context) (s : Tail) → GoodFrame rule (frame b outer) s → AllRested rule (emptied b p outer)
  emptied-good (GroupBracket o [] head) p outer s k = rest-tail rule outer (AtGroup o NoElements p head) k.param k.level tt refl
  emptied-good (ArgsBracket prim o []) p outer s k =
      rest-tail rule outer (AtCall prim (NoArgs o p)) k.param k.level (k.bracket.0, called-receiver prim (NoArgs o p) k.bracket.1, k.bracket.2) refl
  emptied-good (NewArgsBracket place type o []) p outer s k = rest-tail rule outer (AtPrim (NewWith place type (NoArgs o p))) k.param k.level (k.bracket.0, refl) refl
  emptied-good _ p outer s k = rest-none rule

  pub group-closed : (o : Place) (done : List DoneElement) (head : Bool) (v : Option Element) (p : Place) (c outer : Context) → element_at c ≡ v → Fits c → GoodContext rule c
      → GoodFrame rule (frame (GroupBracket o done head) outer) c.tail → AllRested rule (closed_group o done head v p outer)
  group-closed o done head None p c outer e f g k = rest-none rule
  group-closed o done head (Some x) p c outer e f g k =
      rest-tail rule outer (AtGroup o (Elements done x) p (head && is_param x)) k.param k.level (element-good c x f g e, k.bracket) refl

  pub call-closed : (prim : Prim) (o : Place) (done : List DoneExpr) (v : Option Expr) (p : Place) (c outer : Context) → ended_expr c ≡ v → Fits c → GoodContext rule c
      → GoodFrame rule (frame (ArgsBracket prim o done) outer) c.tail → AllRested rule (closed_args (AtCall prim) o done v p outer)
  call-closed prim o done None p c outer e f g k = rest-none rule
  call-closed prim o done (Some x) p c outer e f g k =
      let args = ExprArgs o (derived.listed done (LastExpr x)) p in
      rest-tail rule outer (AtCall prim args) k.param k.level
      (k.bracket.0, called-receiver prim args k.bracket.1, (k.bracket.2, listed-proper done (LastExpr x) k.bracket.3 (ended-proper rule c x f g e))) refl

  pub new-closed : (place : Place) (type : WrittenType) (o : Place) (done : List DoneExpr) (v : Option Expr) (p : Place) (c outer : Context) → ended_expr c ≡ v → Fits c → GoodContext rule c
      → GoodFrame rule (frame (NewArgsBracket place type o done) outer) c.tail → AllRested rule (closed_args (λ args. AtPrim (NewWith place type args)) o done v p outer)
  new-closed place type o done None p c outer e f g k = rest-none rule
  new-closed place type o done (Some x) p c outer e f g k =
      rest-tail rule outer (AtPrim (NewWith place type (ExprArgs o (derived.listed done (LastExpr x)) p))) k.param k.level
      ((k.bracket.0, listed-proper done (LastExpr x) k.bracket.1 (ended-proper rule c x f g e)), refl) refl

  -- the head that parentheses make with what stands before them
  pub test-closed : (b : Bracket) (to : Expr → Head) (v : Option Expr) (c outer : Context) → ended_expr c ≡ v → Fits c → GoodContext rule c → GoodFrame rule (frame b outer) c.tail → Headable outer
      → ((x : Expr) → ProperExpr rule x → GoodHead rule (to x)) → ((x : Expr) → newline_before (bracket_front b) ≡ head_before (to x)) → ((x : Expr) → is_return (to x ∷ outer.heads) ≡ false)
      → AllRested rule (behind_test outer to v)
  test-closed b to None c outer e f g k h p n r = rest-none rule
  test-closed b to (Some x) c outer e f g k h p n r =
      let joined = alone-joined outer.heads outer.operations outer.sign (newline_before (bracket_front b)) h.fresh k.level.joined in
      head-good rule outer (to x) h.fresh (p x (ended-proper rule c x f g e), subst (JoinedIf outer.heads) (n x) joined, k.level.heads) (r x)

  pub until-closed : (place : Place) (body : Expr) (sep : Sep) (until o p : Place) (v : Option Expr) (c outer : Context) → ended_expr c ≡ v → Fits c → GoodContext rule c
      → GoodFrame rule (frame (DoTest place body sep until o) outer) c.tail → AllRested rule (behind_until outer (λ test. DoThenWhile place body sep until o test p) v)
  until-closed place body sep until o p None c outer e f g k = rest-none rule
  until-closed place body sep until o p (Some x) c outer e f g k =
      rest-tail rule outer (AtEnded (DoThenWhile place body sep until o x p)) k.param k.level (k.bracket.0, k.bracket.1, ended-proper rule c x f g e) refl

  -- ---- opened brackets

  pub bracket-opened : (b : Bracket) (fs : List Frame) (c : Context) (s : Tail) → FramesStand fs (at c s) → is_in_pattern s ≡ false → GoodFrames rule fs s → GoodContext rule (at c s)
      → LevelOf rule c (bracket_front b) → GoodBracket rule b (inner b).tail → AllGood (opened_with (Some b) fs (at c s))
  bracket-opened b fs c s h out r g l k = good-some _ (record { context = begun b; rests = rested b; frames = (record { level = l; bracket = k; param = g.param }, frames-same fs (at c s) Begin h out r) }) where
    begun : (b : Bracket) → GoodContext rule (inner b)
    begun (GensBracket place o done part) = pattern-context
    begun _ = fresh-context limit.Expr

    rested : (b : Bracket) → rests (inner b) ≡ true
    rested (GensBracket place o done part) = refl
    rested _ = refl

  args-opened : (o : Place) (v : Option Prim) (fs : List Frame) (c : Context) (s : Tail) → receiver (at c s) ≡ v → FramesStand fs (at c s) → is_in_pattern s ≡ false → GoodFrames rule fs s
      → GoodContext rule (at c s) → AllGood (opened_with (args_bracket o v) fs (at c s))
  args-opened o None fs c s e h out r g = good-none
  args-opened o (Some d) fs c s e h out r g = go (is_no o.before) refl where
    there : receiver_at s ≡ Some d
    there = not-param (is_param_limit c.limit) (receiver_at s) d e

    go : (b : Bool) → is_no o.before ≡ b → AllGood (opened_with (if b then Some (ArgsBracket d o []) else None) fs (at c s))
    go true n =
        let k = receiver-good rule c.limit s d g.tail there in
        bracket-opened (ArgsBracket d o []) fs c s h out r g
        (level-same rule c.heads c.operations c.sign (prim_tokens d) (tail_front s) (prim-front s d (receiver-prim s d there)) g.level) (k.proper, k.receives, is-no o.before n, tt)
    go false n = good-none

  waiting-opened : (o : Place) (s : Tail) (fs : List Frame) (c : Context) → FramesStand fs (at c s) → is_in_pattern s ≡ false → GoodFrames rule fs s → GoodContext rule (at c s)
      → AllGood (opened_with (waiting_bracket o s) fs (at c s))
  waiting-opened o (AtAsker IfAsker place) fs c h out r g = bracket-opened (IfTest place o) fs c _ h out r g g.level tt
  waiting-opened o (AtAsker WhileAsker place) fs c h out r g = bracket-opened (WhileTest place o) fs c _ h out r g g.level tt
  waiting-opened o (AtAsker ForAsker place) fs c h out r g = bracket-opened (GensBracket place o [] PatPart) fs c _ h out r g g.level (tt, tt)
  waiting-opened o (AtUntil place body sep until) fs c h out r g = bracket-opened (DoTest place body sep until o) fs c _ h out r g g.level g.tail
  waiting-opened o (AtNew place type) fs c h out r g = go (is_no o.before) refl where
    go : (b : Bool) → is_no o.before ≡ b → AllGood (opened_with (if b then Some (NewArgsBracket place type o []) else None) fs (at c (AtNew place type)))
    go true n = bracket-opened (NewArgsBracket place type o []) fs c (AtNew place type) h out r g g.level (is-no o.before n, tt)
    go false n = good-none
  waiting-opened o _ fs c h out r g = good-none

  pub opened-good : (o : Place) (fs : List Frame) (c : Context) (s : Tail) → FramesStand fs (at c s) → is_in_pattern s ≡ false → GoodFrames rule fs s → GoodContext rule (at c s)
      → ReadyAt s (at c s) (open_round o) → AllGood (derived.opened o fs (at c s))
  opened-good o fs c s h out r g d =
      good-if (derived.is_some (receiver (at c s))) _ _ (λ e. args-opened o (receiver (at c s)) fs c s refl h out r g)
      (λ e. good-if (may_stand (at c s) o.before) _ _
      (λ m. bracket-opened (GroupBracket o [] (may_head (at c s))) fs c s h out r g (begun-level rule c s (open_round o) m g d) tt)
      (λ m. waiting-opened o s fs c h out r g))
