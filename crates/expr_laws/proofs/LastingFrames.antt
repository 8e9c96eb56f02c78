-- What the reader's step asks of a state holds of the state behind a bracket, and within the generators of a `for`.
use Rattle.std.proofs.Common.{◌≡◌, nat_lt, Bool, true, false, ◌&&◌, ◌||◌, if◌then◌else◌, List, [], ◌∷◌, length, Option, Some, None, refl, ap, sym, ◌∙◌, subst}
use Rattle.expr_tails.specs.declared.states.Limit.{Limit}
use Rattle.expr_tails.specs.declared.states.Limit.TheVariants as limit
use Rattle.scan_tokens.specs.declared.tokens.Newline.{Newline}
use Rattle.parse_patterns.proofs.Derived as patterns
use Rattle.parse_patterns.proofs.Seen as pattern_seen
use Rattle.parse_patterns.proofs.Sides.{and-true}
use Rattle.expr_laws.proofs.Derived as derived
use Rattle.source_grammar.specs.Definitions.{Behind}
use Rattle.source_grammar.specs.Expressions.{DoThenWhile, Expr, ExprArgs, ForRound, Gen, IfThen, Infix, LastExpr, LastGen, LPar, NewWith, NoArgs, Prim, Sep, WhileDo}
use Rattle.source_grammar.specs.Lexemes.{BackArrow, Lexeme, Place}
use Rattle.source_grammar.specs.Patterns.{Pat, Pat1}
use Rattle.source_grammar.specs.Types.{WrittenType}
use Rattle.parse_patterns.specs.Steps.{is_no}
use Rattle.expr_laws.proofs.Derived.{alone, args_bracket, ArgsBracket, arrowed_in, at, AtAsker, AtCall, AtEnded, AtGroup, AtGuardSemi, AtNew, AtPrim, AtSemi, AtUntil, Begin, begins, begun_pattern, behind_gens, behind_test, behind_until, Bracket, chain_at, closed_args, closed_frame, closed_group, closed_in, Context, done, DoneElement, DoneExpr, DoneGen, DoTest, Element, element_at, element_param, Elements, emptied, ended_expr, enums_before, ExprElement, fits, ForAsker, frame, Frame, fresh, FromPart, gen_at, GensBracket, GroupBracket, guard_at, guard_with, guarded_by, guarded_in, GuardPart, Head, headed_all, IfAsker, IfTest, in_pattern, in_state, inner, InPattern, is_apart, is_expr_limit, is_generator_token, is_guard_limit, is_param, is_some, is_untouched, limit_behind, listed, may_head, may_stand, NewArgsBracket, next_by, next_in, next_pattern, NoElements, Of, opened_with, ParamElement, params_before, Part, parted_args, parted_group, parted_in, PatPart, pattern_in, pattern_of, pattern_step, receiver, Tail, state, State, unless, waiting_bracket, waits, WhileAsker, WhileTest}
use Rattle.expr_laws.proofs.Fitting.{BracketFits, Fits, FramesFit, is_in_pattern, is_of_infix, is_plain, IsFresh, IsGenerator, PartFits, TailFits, stands_alone, StateFits, Together}
use Rattle.expr_laws.proofs.Lasting.{alone-limit, alone-next, and-left, and-right, head-next, Lasts, lasts-if, lasts-none, lasts-some, Next, operand-next, prim-next}
use Rattle.expr_laws.proofs.Seen.{ABackArrow, AComma, AnId, AnUnderscore, ClosesRound, OpensRound, Seen, shown_token}

-- ---- what a state keeps

abbrev pub all_params : List DoneElement → Bool
all_params [] = true
all_params (d ∷ done) = is_param d.element && all_params done

-- a head can stand behind it
pub record Headable (c : Context) : Type 0 where
  pub fresh : IsFresh c.operations c.sign
  pub limit : is_guard_limit c.limit ≡ false

abbrev pub BehindFits : Bracket → Context → Type 0
BehindFits (GroupBracket o done head) outer = head ≡ true → all_params done ≡ true
BehindFits (ArgsBracket prim o done) outer = Unit {0}
BehindFits (NewArgsBracket place type o done) outer = Unit {0}
BehindFits _ outer = Headable outer

-- of an open bracket, before what is read in it, with what holds of those around it
pub record Standing (f : Frame) (c : Context) (Rest : Type 0) : Type 0 where
  pub fits : Fits f.outer
  pub out : is_in_pattern f.outer.tail ≡ false
  pub behind : BehindFits f.bracket f.outer
  pub together : Together f.bracket c
  pub rest : Rest

abbrev pub FramesStand : List Frame → Context → Type 0
FramesStand [] c = Unit {0}
FramesStand (f ∷ fs) c = Standing f c (FramesStand fs f.outer)

pub record PlainFrame (f : patterns.Frame) : Type 0 where
  pub binder : f.binder ≡ None
  pub operations : f.operations ≡ []
  pub earlier : f.earlier ≡ []

abbrev pub PlainFrames : List patterns.Frame → Type 0
PlainFrames [] = Unit {0}
PlainFrames (f ∷ fs) = PlainFrame f × PlainFrames fs

abbrev pub PatternStands : Tail → Type 0
PatternStands (InPattern p) = PlainFrames p.frames
PatternStands _ = Unit {0}

pub record Stands (s : State) : Type 0 where
  pub context : Fits s.context
  pub pattern : PatternStands s.context.tail
  pub heads : is_in_pattern s.context.tail ≡ true → s.context.heads ≡ []
  pub frames : FramesStand s.frames s.context

bracket-fits : (b : Bracket) (outer : Context) → BehindFits b outer → BracketFits b outer
bracket-fits (IfTest place o) outer h = h.fresh.operations
bracket-fits (WhileTest place o) outer h = h.fresh.operations
bracket-fits (GensBracket place o done part) outer h = h.fresh.operations
bracket-fits _ outer h = tt

-- it is what the reader's step asks for
pub stands-fits : (s : State) → Stands s → StateFits s
stands-fits s k = record { context = k.context; frames = go s.frames k.frames } where
  go : (fs : List Frame) → FramesStand fs s.context → FramesFit fs s.context
  go [] h = tt
  go (f ∷ fs) h = (bracket-fits f.bracket f.outer h.behind, h.together)

-- ---- any state

abbrev pub AllStand : Option State → Type 0
AllStand o = (t : State) → o ≡ Some t → Stands t

pub stand-none : AllStand None
stand-none t e = cc

pub stand-some : (s : State) → Stands s → AllStand (Some s)
stand-some s k t e = (let same : s ≡ t = cc in subst Stands same k)

pub stand-if : (b : Bool) (x y : Option State) → (b ≡ true → AllStand x) → (b ≡ false → AllStand y) → AllStand (if b then x else y)
stand-if true x y p q = p refl
stand-if false x y p q = q refl

out-pattern : (s : Tail) → is_in_pattern s ≡ false → PatternStands s
out-pattern (InPattern p) e = cc
out-pattern _ e = tt

part-next : (part : Part) (c d : Context) → Next c d → is_in_pattern c.tail ≡ false → PartFits part c → PartFits part d
part-next PatPart c d n o k = (let no : true ≡ false = sym k ∙ o in cc)
part-next (FromPart pat arrow) c d n o k = (ap is_expr_limit n.limit ∙ k.0, n.out)
part-next (GuardPart pat arrow from done sep place) c d n o k = ap is_guard_limit n.limit ∙ k

together-next : (b : Bracket) (c d : Context) → Next c d → is_in_pattern c.tail ≡ false → Together b c → Together b d
together-next (GensBracket place o done part) c d n q k = part-next part c d n q k
together-next _ c d n q k = tt

pub frames-next : (fs : List Frame) (c d : Context) → Next c d → is_in_pattern c.tail ≡ false → FramesStand fs c → FramesStand fs d
frames-next [] c d n o h = tt
frames-next (f ∷ fs) c d n o h = record { fits = h.fits; out = h.out; behind = h.behind; together = together-next f.bracket c d n o h.together; rest = h.rest }

pub next-stands : (fs : List Frame) (c d : Context) → Next c d → is_in_pattern c.tail ≡ false → FramesStand fs c → Stands (state fs d)
next-stands fs c d n o h = record {
  context = n.fits;
  pattern = out-pattern d.tail n.out;
  heads = λ e. (let no : true ≡ false = sym e ∙ n.out in cc);
  frames = frames-next fs c d n o h;
}

pub context-stands : (fs : List Frame) (c : Context) (v : Option Context) → is_in_pattern c.tail ≡ false → FramesStand fs c → Lasts c v → AllStand (in_state fs v)
context-stands fs c None o h l = stand-none
context-stands fs c (Some d) o h l = stand-some (state fs d) (next-stands fs c d (l d refl) o h)

-- ---- where a bracket begins

pub fresh-fits : (l : Limit) → Fits (fresh l)
fresh-fits l = record {
  decidable = tt;
  plain = tt;
  tail = tt;
  one_side = refl;
  alone = λ e. record { operations = refl; sign = refl };
  guard = λ e. (refl, refl);
  semi = λ e. (let no : false ≡ true = e in cc);
}

fresh-stands : (fs : List Frame) (l : Limit) → FramesStand fs (fresh l) → Stands (state fs (fresh l))
fresh-stands fs l h = record { context = fresh-fits l; pattern = tt; heads = λ e. refl; frames = h }

generator-fits : (p : patterns.State) → IsGenerator p → Fits (at (fresh limit.Expr) (InPattern p))
generator-fits p g = record {
  decidable = tt;
  plain = tt;
  tail = g;
  one_side = refl;
  alone = λ e. record { operations = refl; sign = refl };
  guard = λ e. (let no : false ≡ true = e in cc);
  semi = λ e. (let no : false ≡ true = e in cc);
}

start-fits : Fits next_pattern
start-fits = generator-fits (patterns.machine).start (record { current = refl; earlier = refl })

-- ---- commas

-- the same bracket, or another one in its place
changed : {Rest : Type 0} (f : Frame) (c d : Context) (b : Bracket) → Standing f c Rest → BehindFits b f.outer → Together b d → Standing (frame b f.outer) d Rest
changed f c d b h k t = record { fits = h.fits; out = h.out; behind = k; together = t; rest = h.rest }

group-parted : (p o : Place) (done : List DoneElement) (head : Bool) (v : Option Element) (c outer : Context) (fs : List Frame) → Standing (frame (GroupBracket o done head) outer) c (FramesStand fs outer)
    → AllStand (parted_group p o done head v outer fs)
group-parted p o done head None c outer fs h = stand-none
group-parted p o done head (Some e) c outer fs h =
    let next : List DoneElement = record { element = e; place = p } ∷ done in
    stand-if (nat_lt (length done) 2 || (head && is_param e)) _ _
    (λ g. stand-some _ (fresh-stands (frame (GroupBracket o next (head && is_param e)) outer ∷ fs) (limit_behind next)
    (changed (frame (GroupBracket o done head) outer) c (fresh (limit_behind next)) (GroupBracket o next (head && is_param e)) h
    (λ b. and-true (is_param e) (all_params done) (and-right head (is_param e) b) (h.behind (and-left head (is_param e) b))) tt)))
    (λ g. stand-none)

args-parted : (p : Place) (bracket : List DoneExpr → Bracket) (done : List DoneExpr) (v : Option Expr) (c outer : Context) (fs : List Frame) → Standing (frame (bracket done) outer) c (FramesStand fs outer)
    → ((ds : List DoneExpr) → BehindFits (bracket ds) outer) → ((ds : List DoneExpr) (d : Context) → Together (bracket ds) d) → AllStand (parted_args p bracket done v outer fs)
args-parted p bracket done None c outer fs h k t = stand-none
args-parted p bracket done (Some e) c outer fs h k t =
    let next : List DoneExpr = record { expr = e; place = p } ∷ done in
    stand-some _ (fresh-stands (frame (bracket next) outer ∷ fs) limit.Expr (changed (frame (bracket done) outer) c (fresh limit.Expr) (bracket next) h (k next) (t next (fresh limit.Expr))))

pub parted-stands : (p : Place) (fs : List Frame) (c : Context) → FramesStand fs c → AllStand (derived.parted p fs c)
parted-stands p [] c h = stand-none
parted-stands p (f ∷ fs) c h = go f.bracket f.outer h where
  go : (b : Bracket) (outer : Context) → Standing (frame b outer) c (FramesStand fs outer) → AllStand (parted_in p b c outer fs)
  go (GroupBracket o done head) outer k = group-parted p o done head (element_at c) c outer fs k
  go (ArgsBracket prim o done) outer k = args-parted p (ArgsBracket prim o) done (ended_expr c) c outer fs k (λ ds. tt) (λ ds d. tt)
  go (NewArgsBracket place type o done) outer k = args-parted p (NewArgsBracket place type o) done (ended_expr c) c outer fs k (λ ds. tt) (λ ds d. tt)
  go _ outer k = stand-none

-- ---- closed brackets

params-some : (done : List DoneElement) (x : Element) (bs : List (Behind LPar)) → is_param x ≡ true → all_params done ≡ true → is_some (params_before done (element_param x) bs) ≡ true
params-some [] (ParamElement p) bs e g = refl
params-some (d ∷ done) (ParamElement p) bs e g =
    params-some done d.element (record { comma = d.place; item = p } ∷ bs) (and-left (is_param d.element) (all_params done) g) (and-right (is_param d.element) (all_params done) g)
params-some done (ExprElement x) bs e g = cc

emptied-lasts : (b : Bracket) (p : Place) (outer : Context) → Fits outer → Lasts outer (emptied b p outer)
emptied-lasts (GroupBracket o [] head) p outer f = lasts-some outer _ (operand-next outer (AtGroup o NoElements p head) f tt tt (λ e. refl) refl refl refl refl)
emptied-lasts (ArgsBracket prim o []) p outer f = lasts-some outer _ (operand-next outer (AtCall prim (NoArgs o p)) f tt tt tt refl refl refl refl)
emptied-lasts (NewArgsBracket place type o []) p outer f = lasts-some outer _ (prim-next outer (NewWith place type (NoArgs o p)) f refl)
emptied-lasts _ p outer f = lasts-none outer

group-closed : (o : Place) (done : List DoneElement) (head : Bool) (v : Option Element) (p : Place) (outer : Context) → Fits outer → (head ≡ true → all_params done ≡ true) → Lasts outer (closed_group o done head v p outer)
group-closed o done head None p outer f k = lasts-none outer
group-closed o done head (Some e) p outer f k =
    lasts-some outer _ (operand-next outer (AtGroup o (Elements done e) p (head && is_param e)) f tt tt
    (λ b. params-some done e [] (and-right head (is_param e) b) (k (and-left head (is_param e) b))) refl refl refl refl)

call-closed : (prim : Prim) (o : Place) (done : List DoneExpr) (v : Option Expr) (p : Place) (outer : Context) → Fits outer → Lasts outer (closed_args (AtCall prim) o done v p outer)
call-closed prim o done None p outer f = lasts-none outer
call-closed prim o done (Some e) p outer f = lasts-some outer _ (operand-next outer (AtCall prim (ExprArgs o (listed done (LastExpr e)) p)) f tt tt tt refl refl refl refl)

new-closed : (place : Place) (type : WrittenType) (o : Place) (done : List DoneExpr) (v : Option Expr) (p : Place) (outer : Context) → Fits outer
    → Lasts outer (closed_args (λ args. AtPrim (NewWith place type args)) o done v p outer)
new-closed place type o done None p outer f = lasts-none outer
new-closed place type o done (Some e) p outer f = lasts-some outer _ (prim-next outer (NewWith place type (ExprArgs o (listed done (LastExpr e)) p)) f refl)

test-closed : (to : Expr → Head) (v : Option Expr) (outer : Context) → Fits outer → Headable outer → Lasts outer (behind_test outer to v)
test-closed to None outer f h = lasts-none outer
test-closed to (Some e) outer f h = lasts-some outer _ (head-next outer (to e) f.one_side h.limit)

until-closed : (place : Place) (body : Expr) (sep : Sep) (until o p : Place) (v : Option Expr) (outer : Context) → Fits outer → Headable outer
    → Lasts outer (behind_until outer (λ test. DoThenWhile place body sep until o test p) v)
until-closed place body sep until o p None outer f h = lasts-none outer
until-closed place body sep until o p (Some e) outer f h =
    lasts-some outer _ (alone-next outer (AtEnded (DoThenWhile place body sep until o e p)) f h.fresh h.limit tt tt refl refl refl)

gens-closed : (place o : Place) (done : List DoneGen) (p : Place) (v : Option DoneGen) (outer : Context) → Fits outer → Headable outer → Lasts outer (behind_gens place o done p outer v)
gens-closed place o done p None outer f h = lasts-none outer
gens-closed place o done p (Some d) outer f h = go d.gen d.sep where
  go : (gen : Gen) (sep : Sep) → Lasts outer (behind_gens place o done p outer (Some (record { gen = gen; sep = sep })))
  go gen [] = lasts-some outer _ (head-next outer (Of (ForRound place o (enums_before done (LastGen gen)) p None)) f.one_side h.limit)
  go gen (q ∷ qs) = lasts-none outer

bracket-closed : (b : Bracket) (p : Place) (c outer : Context) → Fits outer → BehindFits b outer → Lasts outer (closed_in b p c outer)
bracket-closed (GroupBracket o done head) p c outer f k = group-closed o done head (element_at c) p outer f k
bracket-closed (ArgsBracket prim o done) p c outer f k = call-closed prim o done (ended_expr c) p outer f
bracket-closed (NewArgsBracket place type o done) p c outer f k = new-closed place type o done (ended_expr c) p outer f
bracket-closed (IfTest place o) p c outer f k = test-closed (λ test. Of (IfThen place o test p)) (ended_expr c) outer f k
bracket-closed (WhileTest place o) p c outer f k = test-closed (λ test. Of (WhileDo place o test p)) (ended_expr c) outer f k
bracket-closed (DoTest place body sep until o) p c outer f k = until-closed place body sep until o p (ended_expr c) outer f k
bracket-closed (GensBracket place o done part) p c outer f k = gens-closed place o done p (gen_at part c.tail c) outer f k

pub closed-stands : (p : Place) (fs : List Frame) (c : Context) → FramesStand fs c → AllStand (derived.closed p fs c)
closed-stands p [] c h = stand-none
closed-stands p (f ∷ fs) c h =
    context-stands fs f.outer (closed_frame p f c) h.out h.rest
    (lasts-if (is_untouched c) f.outer _ _ (λ e. emptied-lasts f.bracket p f.outer h.fits) (λ e. bracket-closed f.bracket p c f.outer h.fits h.behind))

-- ---- opened brackets

inner-fits : (b : Bracket) → Fits (inner b)
inner-fits (GensBracket place o done part) = start-fits
inner-fits _ = fresh-fits limit.Expr

inner-pattern : (b : Bracket) → PatternStands (inner b).tail
inner-pattern (GensBracket place o done part) = tt
inner-pattern _ = tt

inner-heads : (b : Bracket) → (inner b).heads ≡ []
inner-heads (GensBracket place o done part) = refl
inner-heads _ = refl

bracket-opened : (b : Bracket) (fs : List Frame) (c : Context) → Fits c → is_in_pattern c.tail ≡ false → FramesStand fs c → BehindFits b (at c Begin) → Together b (inner b)
    → AllStand (opened_with (Some b) fs c)
bracket-opened b fs c f o h k t = stand-some _ (record {
  context = inner-fits b;
  pattern = inner-pattern b;
  heads = λ e. inner-heads b;
  frames = record { fits = begins.fits; out = refl; behind = k; together = t; rest = frames-next fs c (at c Begin) begins o h };
}) where
  begins : Next c (at c Begin)
  begins = operand-next c Begin f tt tt tt refl refl refl refl

args-opened : (o : Place) (v : Option Prim) (fs : List Frame) (c : Context) → Fits c → is_in_pattern c.tail ≡ false → FramesStand fs c → AllStand (opened_with (args_bracket o v) fs c)
args-opened o None fs c f p h = stand-none
args-opened o (Some prim) fs c f p h = go (is_no o.before) where
  go : (b : Bool) → AllStand (opened_with (if b then Some (ArgsBracket prim o []) else None) fs c)
  go true = bracket-opened (ArgsBracket prim o []) fs c f p h tt tt
  go false = stand-none

headable : (c : Context) → Fits c → stands_alone c.tail ≡ true → is_of_infix c.tail ≡ false → Headable (at c Begin)
headable c f a i = record { fresh = f.alone a; limit = alone-limit c f i }

waiting-opened : (o : Place) (s : Tail) (fs : List Frame) (c : Context) → Fits (at c s) → is_in_pattern s ≡ false → FramesStand fs (at c s) → AllStand (opened_with (waiting_bracket o s) fs (at c s))
waiting-opened o (AtAsker IfAsker place) fs c f p h = bracket-opened (IfTest place o) fs _ f p h (headable _ f refl refl) tt
waiting-opened o (AtAsker WhileAsker place) fs c f p h = bracket-opened (WhileTest place o) fs _ f p h (headable _ f refl refl) tt
waiting-opened o (AtAsker ForAsker place) fs c f p h = bracket-opened (GensBracket place o [] PatPart) fs _ f p h (headable _ f refl refl) refl
waiting-opened o (AtUntil place body sep until) fs c f p h = bracket-opened (DoTest place body sep until o) fs _ f p h (headable _ f refl refl) tt
waiting-opened o (AtNew place type) fs c f p h = go (is_no o.before) where
  go : (b : Bool) → AllStand (opened_with (if b then Some (NewArgsBracket place type o []) else None) fs (at c (AtNew place type)))
  go true = bracket-opened (NewArgsBracket place type o []) fs (at c (AtNew place type)) f p h tt tt
  go false = stand-none
waiting-opened o _ fs c f p h = stand-none

pub opened-stands : (o : Place) (fs : List Frame) (c : Context) → Fits c → is_in_pattern c.tail ≡ false → FramesStand fs c → AllStand (derived.opened o fs c)
opened-stands o fs c f p h =
    stand-if (is_some (receiver c)) _ _ (λ e. args-opened o (receiver c) fs c f p h)
    (λ e. stand-if (may_stand c o.before) _ _ (λ g. bracket-opened (GroupBracket o [] (may_head c)) fs c f p h (λ b. refl) tt)
    (λ g. waiting-opened o c.tail fs c f p h))

-- ---- the patterns of generators

pub record Pattern (p : patterns.State) : Type 0 where
  pub generator : IsGenerator p
  pub frames : PlainFrames p.frames

pattern-at : (fs : List patterns.Frame) (es : List patterns.Earlier) (b : Option patterns.Binder) (os : List patterns.Operation) (s : patterns.Tail) → PlainFrames fs → es ≡ [] → b ≡ None → os ≡ []
    → Pattern (patterns.at fs es (patterns.InInfix b os s))
pattern-at fs es b os s h e k o = record { generator = record { current = plain b os k o; earlier = e }; frames = h } where
  plain : (b : Option patterns.Binder) (os : List patterns.Operation) → b ≡ None → os ≡ [] → is_plain (patterns.InInfix b os s) ≡ true
  plain None [] k o = refl
  plain None (a ∷ os) k o = cc
  plain (Some b) os k o = cc

when-pattern : (b : Bool) (a q : patterns.State) → Pattern a → patterns.when b a ≡ Some q → Pattern q
when-pattern true a q k e = (let same : a ≡ q = cc in subst Pattern same k)
when-pattern false a q k e = cc

some-pattern : (a q : patterns.State) → Pattern a → Some a ≡ Some q → Pattern q
some-pattern a q k e = (let same : a ≡ q = cc in subst Pattern same k)

framed-pattern : (b : patterns.Bracket) (f : patterns.Frame) (fs : List patterns.Frame) → PlainFrame f → PlainFrames fs → Pattern (patterns.framed b f fs)
framed-pattern b f fs k h = record {
  generator = record { current = refl; earlier = refl };
  frames = (record { binder = k.binder; operations = k.operations; earlier = k.earlier }, h);
}

parted-pattern : (c : Place) (pat : Pat) (fs : List patterns.Frame) (q : patterns.State) → PlainFrames fs → patterns.parted c pat fs ≡ Some q → Pattern q
parted-pattern c pat [] q h e = cc
parted-pattern c pat (f ∷ fs) q h e = go f.bracket e where
  go : (b : patterns.Bracket) → patterns.parted_in c pat b f fs ≡ Some q → Pattern q
  go (patterns.Call path o done) g = some-pattern _ q (framed-pattern _ f fs h.0 h.1) g
  go (patterns.Group o) g = some-pattern _ q (framed-pattern _ f fs h.0 h.1) g
  go (patterns.GroupOne o a p) g = some-pattern _ q (framed-pattern _ f fs h.0 h.1) g
  go (patterns.GroupTwo o a p b r) g = cc

closed-pattern : (c : Place) (pat : Pat) (fs : List patterns.Frame) (q : patterns.State) → PlainFrames fs → patterns.closed c pat fs ≡ Some q → Pattern q
closed-pattern c pat [] q h e = cc
closed-pattern c pat (f ∷ fs) q h e =
    some-pattern _ q (pattern-at fs f.earlier f.binder f.operations (patterns.AtEnded (patterns.closed_as c pat f.bracket)) h.1 h.0.earlier h.0.binder h.0.operations) e

comma-pattern : (c : Place) (o : Option Pat1) (es : List patterns.Earlier) (fs : List patterns.Frame) (q : patterns.State) → PlainFrames fs → patterns.ended (pattern_seen.AComma c) o es fs ≡ Some q → Pattern q
comma-pattern c None es fs q h e = cc
comma-pattern c (Some pat) es fs q h e = parted-pattern c (patterns.pat_read es pat) fs q h e

close-pattern : (c : Place) (o : Option Pat1) (es : List patterns.Earlier) (fs : List patterns.Frame) (q : patterns.State) → PlainFrames fs → patterns.ended (pattern_seen.ClosesRound c) o es fs ≡ Some q → Pattern q
close-pattern c None es fs q h e = cc
close-pattern c (Some pat) es fs q h e = closed-pattern c (patterns.pat_read es pat) fs q h e

-- a token of the pattern of a generator, where nothing stands before the operand
operand-step : (y : Seen) (s : patterns.Tail) (es : List patterns.Earlier) (fs : List patterns.Frame) (q : patterns.State) → es ≡ [] → PlainFrames fs → is_generator_token (patterns.InInfix None [] s) y ≡ true
    → patterns.step (patterns.at fs es (patterns.InInfix None [] s)) (shown_token y) ≡ Some q → Pattern q
operand-step (AnId id) patterns.Begin es fs q n h g e =
    when-pattern (patterns.may_stand None [] es id.place.before) _ q (pattern-at fs es None [] (patterns.AtPath (record { first = id; steps = [] })) h n refl refl)
    (ap (λ y. patterns.moved y None [] patterns.Begin es fs) (sym (pattern_seen.seen-id id)) ∙ e)
operand-step (AnId id) _ es fs q n h g e = cc
operand-step (AnUnderscore place) patterns.Begin es fs q n h g e =
    when-pattern (patterns.may_stand None [] es place.before) _ q (pattern-at fs es None [] (patterns.AtWild place) h n refl refl) e
operand-step (AnUnderscore place) _ es fs q n h g e = cc
operand-step (OpensRound o) patterns.Begin es fs q n h g e =
    when-pattern (patterns.may_stand None [] es o.before) _ q
    (record { generator = record { current = refl; earlier = refl }; frames = (record { binder = refl; operations = refl; earlier = n }, h) }) e
operand-step (OpensRound o) _ es fs q n h g e = cc
operand-step (AComma c) s es fs q n h g e = comma-pattern c (patterns.infix_at None [] (patterns.spat_of s)) es fs q h e
operand-step (ClosesRound c) patterns.Begin es fs q n h g e = cc
operand-step (ClosesRound c) s es fs q n h g e = close-pattern c (patterns.infix_at None [] (patterns.spat_of s)) es fs q h e
operand-step _ s es fs q n h g e = cc

pattern-token : (y : Seen) (x : Lexeme) (p q : patterns.State) → shown_token y ≡ x → Pattern p → is_generator_token p.current y ≡ true → patterns.step p x ≡ Some q → Pattern q
pattern-token y x p q z k g e = go p.current k.generator.current g (ap (patterns.step p) z ∙ e) where
  go : (current : patterns.Current) → is_plain current ≡ true → is_generator_token current y ≡ true → patterns.step (patterns.at p.frames p.earlier current) (shown_token y) ≡ Some q → Pattern q
  go (patterns.InInfix None [] s) a b r = operand-step y s p.earlier p.frames q k.generator.earlier k.frames b r
  go (patterns.InInfix None (o ∷ os) s) a b r = cc
  go (patterns.InInfix (Some binder) os s) a b r = cc
  go (patterns.InType subject point t) a b r = cc

-- ---- generators

in-pattern-infix : (s : Tail) → is_in_pattern s ≡ true → is_of_infix s ≡ false
in-pattern-infix (InPattern p) e = refl
in-pattern-infix _ e = cc

-- a pattern is read for no other part
pattern-part : (part : Part) (c d : Context) → Fits c → is_in_pattern c.tail ≡ true → PartFits part c → is_in_pattern d.tail ≡ true → PartFits part d
pattern-part PatPart c d f o k r = r
pattern-part (FromPart pat arrow) c d f o k r = (let no : true ≡ false = sym o ∙ k.1 in cc)
pattern-part (GuardPart pat arrow from done sep place) c d f o k r = (let no : true ≡ false = sym k ∙ alone-limit c f (in-pattern-infix c.tail o) in cc)

pattern-frames : (fs : List Frame) (c d : Context) → Fits c → is_in_pattern c.tail ≡ true → is_in_pattern d.tail ≡ true → FramesStand fs c → FramesStand fs d
pattern-frames [] c d f o r h = tt
pattern-frames (g ∷ fs) c d f o r h = record { fits = h.fits; out = h.out; behind = h.behind; together = go g.bracket h.together; rest = h.rest } where
  go : (b : Bracket) → Together b c → Together b d
  go (GensBracket place p done part) k = pattern-part part c d f o k r
  go _ k = tt

-- `<-` behind a pattern
arrow-stands : (v : Option Pat) (arrow : BackArrow) (fs : List Frame) (c : Context) → FramesStand fs c → AllStand (derived.arrowed v arrow fs)
arrow-stands v arrow [] c h = stand-none
arrow-stands None arrow (f ∷ fs) c h = stand-none
arrow-stands (Some pat) arrow (f ∷ fs) c h = go f.bracket f.outer h where
  go : (b : Bracket) (outer : Context) → Standing (frame b outer) c (FramesStand fs outer) → AllStand (arrowed_in (Some pat) arrow b outer fs)
  go (GensBracket place o done PatPart) outer k =
      stand-some _ (fresh-stands (frame (GensBracket place o done (FromPart pat arrow)) outer ∷ fs) limit.Expr
      (changed (frame (GensBracket place o done PatPart) outer) c (fresh limit.Expr) (GensBracket place o done (FromPart pat arrow)) k k.behind (refl, refl)))
  go _ outer k = stand-none

pub in-pattern-stands : (y : Seen) (x : Lexeme) (p : patterns.State) (fs : List Frame) (c : Context) → shown_token y ≡ x → Fits c → is_in_pattern c.tail ≡ true → Pattern p → FramesStand fs c
    → AllStand (in_pattern y x p fs)
in-pattern-stands (ABackArrow arrow) x p fs c z f o k h = arrow-stands (pattern_of p) arrow fs c h
in-pattern-stands y x p fs c z f o k h =
    stand-if (is_generator_token p.current y) _ _ (λ g. go g (patterns.step p x) refl) (λ g. stand-none)
  where
    go : is_generator_token p.current y ≡ true → (v : Option patterns.State) → patterns.step p x ≡ v → AllStand (pattern_in fs v)
    go g None e = stand-none
    go g (Some q) e =
        let next = pattern-token y x p q z k g e in
        stand-some _ (record {
          context = generator-fits q next.generator;
          pattern = next.frames;
          heads = λ e. refl;
          frames = pattern-frames fs c (at (fresh limit.Expr) (InPattern q)) f o refl h;
        })

-- before the next generator
pub generator-stands : (fs : List Frame) (c : Context) (before : Newline) → FramesStand fs c → AllStand (derived.next_generator fs c before)
generator-stands [] c before h = stand-none
generator-stands (f ∷ fs) c before h = go f.bracket f.outer h where
  next : (v : Option DoneGen) (place o : Place) (done : List DoneGen) (part : Part) (outer : Context) → Standing (frame (GensBracket place o done part) outer) c (FramesStand fs outer)
      → AllStand (next_in v place o done outer before fs)
  next None place o done part outer k = stand-none
  next (Some d) place o done part outer k =
      stand-if (is_apart d.sep before) _ _
      (λ e. stand-some _ (record {
        context = start-fits;
        pattern = tt;
        heads = λ e. refl;
        frames = changed (frame (GensBracket place o done part) outer) c next_pattern (GensBracket place o (d ∷ done) PatPart) k k.behind refl;
      }))
      (λ e. stand-none)

  go : (b : Bracket) (outer : Context) → Standing (frame b outer) c (FramesStand fs outer) → AllStand (next_by b outer c before fs)
  go (GensBracket place o done part) outer k = next (gen_at part c.tail c) place o done part outer k
  go _ outer k = stand-none

-- the first token of its pattern
pub begun-pattern-stands : (v : Option State) (y : Seen) (x : Lexeme) → shown_token y ≡ x → AllStand v → AllStand (begun_pattern v y x)
begun-pattern-stands None y x z a = stand-none
begun-pattern-stands (Some s) y x z a = go s.context.tail refl k.context.tail k.pattern where
  k : Stands s
  k = a s refl

  go : (t : Tail) → s.context.tail ≡ t → TailFits t → PatternStands t → AllStand (pattern_step t y x s.frames)
  go (InPattern p) e g h = in-pattern-stands y x p s.frames s.context z k.context (ap is_in_pattern e) (record { generator = g; frames = h }) k.frames
  go _ e g h = stand-none

-- behind the `if` of a guard
guard-with-fits : (part : Part) (expr : Option Expr) (chain : Option Infix) (sep : Sep) (place : Place) (q : Part) → guard_with part expr chain sep place ≡ Some q → PartFits q (fresh limit.Guard)
guard-with-fits PatPart expr chain sep place q e = cc
guard-with-fits (FromPart pat arrow) None chain sep place q e = cc
guard-with-fits (FromPart pat arrow) (Some from) chain sep place q e = (let same : GuardPart pat arrow from [] sep place ≡ q = cc in subst (λ r. PartFits r (fresh limit.Guard)) same refl)
guard-with-fits (GuardPart pat arrow from done before first) expr None sep place q e = cc
guard-with-fits (GuardPart pat arrow from done before first) expr (Some test) sep place q e =
    (let same : GuardPart pat arrow from (record { sep = before; word = first; test = test } ∷ done) sep place ≡ q = cc in subst (λ r. PartFits r (fresh limit.Guard)) same refl)

guard-fits : (part : Part) (s : Tail) (c : Context) (place : Place) (q : Part) → guard_at part s c place ≡ Some q → PartFits q (fresh limit.Guard)
guard-fits part (AtSemi expr p ps) c place q e = guard-with-fits part (unless (waits c.heads) (headed_all c.heads (Some expr))) None (p ∷ ps) place q e
guard-fits part (AtGuardSemi test p ps) c place q e = guard-with-fits part None (Some test) (p ∷ ps) place q e
guard-fits part s c place q e = guard-with-fits part (ended_expr c) (chain_at c) [] place q e

pub guarded-stands : (p : Place) (fs : List Frame) (c : Context) → FramesStand fs c → AllStand (derived.guarded p fs c)
guarded-stands p [] c h = stand-none
guarded-stands p (f ∷ fs) c h = go f.bracket f.outer h where
  guard : (v : Option Part) (place o : Place) (done : List DoneGen) (part : Part) (outer : Context) → guard_at part c.tail c p ≡ v → Standing (frame (GensBracket place o done part) outer) c (FramesStand fs outer)
      → AllStand (guarded_in v place o done outer fs)
  guard None place o done part outer e k = stand-none
  guard (Some q) place o done part outer e k =
      stand-some _ (fresh-stands (frame (GensBracket place o done q) outer ∷ fs) limit.Guard
      (changed (frame (GensBracket place o done part) outer) c (fresh limit.Guard) (GensBracket place o done q) k k.behind (guard-fits part c.tail c p q e)))

  go : (b : Bracket) (outer : Context) → Standing (frame b outer) c (FramesStand fs outer) → AllStand (guarded_by b p outer c fs)
  go (GensBracket place o done part) outer k = guard (guard_at part c.tail c p) place o done part outer refl k
  go _ outer k = stand-none
