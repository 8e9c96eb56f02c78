-- What a state keeps so that it can be completed holds after what opens, parts and closes a bracket, and after a `;`.
use Rattle.std.proofs.Common.{◌≡◌, nat_lt, Bool, true, false, ◌&&◌, ◌||◌, if◌then◌else◌, List, [], ◌∷◌, length, Option, Some, None, refl, ap, sym, ◌∙◌, subst}
use Rattle.std.specs.Prelude.{not}
use Rattle.scan_tokens.specs.declared.tokens.Newline.{Newline}
use Rattle.source_grammar.specs.Definitions.{NoType, OfType}
use Rattle.source_grammar.specs.Expressions.{NamedLPar, WildLPar, Args, ExprArgs, LastExpr, Expr, ForRound, LastGen, Infix, Prim, NewWith}
use Rattle.source_grammar.specs.Lexemes.{Place, Lexeme, BackArrow}
use Rattle.source_grammar.specs.Patterns.{Pat}
use Rattle.source_grammar.specs.Types.{WrittenType}
use Rattle.parse_patterns.specs.Steps.{is_no}
use Rattle.parse_patterns.proofs.Derived as patterns
use Rattle.expr_tails.specs.declared.states.Limit.{Limit}
use Rattle.expr_tails.specs.declared.states.Limit.TheVariants as limit
use Rattle.expr_laws.proofs.Derived as derived
use Rattle.expr_laws.proofs.Derived.{Element, ParamElement, headed_all, typed_expr, DoneElement, DoneExpr, Elements, Tail, Begin, AtSemi, AtGuardSemi, InPattern, Head, Context, Part, PatPart, FromPart, DoneGen, Bracket, GroupBracket, ArgsBracket, NewArgsBracket, GensBracket, IfTest, WhileTest, DoTest, Frame, State, parens_prim, is_some, is_param_limit, is_guard_limit, may_head, may_stand, takes_else, waits, in_gens, at, fresh, state, in_state, with_head, frame, inner, opened, opened_with, args_bracket, receiver, waiting_bracket, is_param, element_at, or_else, expr_element, ended_expr, limit_behind, parted, parted_in, parted_group, parted_args, emptied, closed_group, closed_args, behind_test, behind_until, behind_gens, closed_in, closed_frame, closed, is_untouched, next_in, next_by, next_generator, begun_pattern, pattern_step, in_pattern, pattern_in, pattern_of, is_generator_token, arrowed, arrowed_in, guarded_in, guarded_by, guarded, gen_at, guard_at, semi_at, guard_semi, semi_behind, on_semicolon, chain_at, innermost, next_pattern, type_of, typed_element, InTyped, OfName, OfWild, OfChain, AtName, AtWild}
use Rattle.expr_laws.proofs.Fitting.{Fits}
use Rattle.expr_laws.proofs.Fillers.{or-holds}
use Rattle.expr_laws.proofs.Lasting.{and-left}
use Rattle.expr_laws.proofs.Lives.{TailLives, ContextLives, are_many, BracketLives, FramesLive, Lives, AllLive, live-none, live-some, live-if, many, few, is_calm, calm-lives, fresh-lives, frames-limit, in_pattern_part}
use Rattle.expr_laws.proofs.LivesParam.{params, is_decided}
use Rattle.expr_laws.proofs.Seen.{Seen, ABackArrow}
use Rattle.expr_laws.proofs.TypesAlong.{is_case_limit}

-- ---- brackets that open

inner-limit : (b : Bracket) → (inner b).limit ≡ limit.Expr
inner-limit (GensBracket w o dones part) = refl
inner-limit _ = refl

opens-live : (b : Bracket) (fs : List Frame) (c : Context) → is_param_limit c.limit ≡ false → is_case_limit c.limit ≡ false → FramesLive fs c.limit → BracketLives b (at c Begin) limit.Expr
    → TailLives (frame b (at c Begin) ∷ fs) (inner b) (inner b).tail → AllLive (opened_with (Some b) fs c)
opens-live b fs c n l h k t =
    live-some (state (frame b (at c Begin) ∷ fs) (inner b)) (record {
      context = record { tail = t; param = λ e. (let no : true ≡ false = sym e ∙ ap is_param_limit (inner-limit b) in cc); no_case = ap is_case_limit (inner-limit b) };
      frames = record { bracket = subst (BracketLives b (at c Begin)) (sym (inner-limit b)) k; no_param = n; no_case = l; rest = h };
    })

args-live : (o : Place) (v : Option Prim) (fs : List Frame) (c : Context) → is_param_limit c.limit ≡ false → is_case_limit c.limit ≡ false → FramesLive fs c.limit → AllLive (opened_with (args_bracket o v) fs c)
args-live o None fs c n l h = live-none
args-live o (Some prim) fs c n l h = go (is_no o.before) where
  go : (b : Bool) → AllLive (opened_with (if b then Some (ArgsBracket prim o []) else None) fs c)
  go true = opens-live (ArgsBracket prim o []) fs c n l h refl tt
  go false = live-none

waiting-live : (o : Place) (s : Tail) (fs : List Frame) (c : Context) → is_param_limit c.limit ≡ false → is_case_limit c.limit ≡ false → FramesLive fs c.limit → AllLive (opened_with (waiting_bracket o s) fs c)
waiting-live o (derived.AtAsker derived.IfAsker w) fs c n l h = opens-live (IfTest w o) fs c n l h refl tt
waiting-live o (derived.AtAsker derived.WhileAsker w) fs c n l h = opens-live (WhileTest w o) fs c n l h refl tt
waiting-live o (derived.AtAsker derived.ForAsker w) fs c n l h = opens-live (GensBracket w o [] PatPart) fs c n l h refl refl
waiting-live o (derived.AtUntil w body sep until) fs c n l h = opens-live (DoTest w body sep until o) fs c n l h refl tt
waiting-live o (derived.AtNew w type) fs c n l h = go (is_no o.before) where
  go : (b : Bool) → AllLive (opened_with (if b then Some (NewArgsBracket w type o []) else None) fs c)
  go true = opens-live (NewArgsBracket w type o []) fs c n l h refl tt
  go false = live-none
waiting-live o _ fs c n l h = live-none

pub opened-live : (o : Place) (fs : List Frame) (c : Context) → is_param_limit c.limit ≡ false → is_case_limit c.limit ≡ false → FramesLive fs c.limit → AllLive (opened o fs c)
opened-live o fs c n l h =
    live-if (is_some (receiver c)) _ _ (λ e. args-live o (receiver c) fs c n l h)
    (λ e. live-if (may_stand c o.before) _ _ (λ f. opens-live (GroupBracket o [] (may_head c)) fs c n l h (λ t. t, refl, refl) tt) (λ f. waiting-live o c.tail fs c n l h))

-- ---- commas

param-behind : (dones : List DoneElement) → is_param_limit (limit_behind dones) ≡ are_many dones
param-behind dones = go (are_many dones) where
  go : (b : Bool) → is_param_limit (if b then limit.Param else limit.Expr) ≡ b
  go true = refl
  go false = refl

case-behind : (dones : List DoneElement) → is_case_limit (limit_behind dones) ≡ false
case-behind dones = go (are_many dones) where
  go : (b : Bool) → is_case_limit (if b then limit.Param else limit.Expr) ≡ false
  go true = refl
  go false = refl

-- where nothing was read yet
begun-lives : (fs : List Frame) (l : Limit) → is_case_limit l ≡ false → ContextLives fs (fresh l)
begun-lives fs l k = record { tail = tt; param = λ e. record { heads = refl; operations = refl; sign = refl; tail = refl }; no_case = k }

parted-group-live : (p o : Place) (dones : List DoneElement) (head : Bool) (v : Option Element) (outer : Context) (fs : List Frame) → (head ≡ true → may_head outer ≡ true)
    → is_param_limit outer.limit ≡ false → is_case_limit outer.limit ≡ false → FramesLive fs outer.limit → AllLive (parted_group p o dones head v outer fs)
parted-group-live p o dones head None outer fs k n l h = live-none
parted-group-live p o dones head (Some e) outer fs k n l h = live-if (nat_lt (length dones) 2 || (head && is_param e)) _ _ (λ t. live-some _ (there t)) (λ t. live-none) where
  done : DoneElement
  done = record { element = e; place = p }

  enough : (a b m : Bool) → (a || b) ≡ true → (a ≡ true → m ≡ false) → (not m || b) ≡ true
  enough true b m t f = ap (λ x. not x || b) (f refl)
  enough false true true t f = refl
  enough false true false t f = refl
  enough false false m t f = cc

  there : (nat_lt (length dones) 2 || (head && is_param e)) ≡ true → Lives (state (frame (GroupBracket o (done ∷ dones) (head && is_param e)) outer ∷ fs) (fresh (limit_behind (done ∷ dones))))
  there t = record {
    context = begun-lives _ (limit_behind (done ∷ dones)) (case-behind (done ∷ dones));
    frames = record {
      bracket = (λ g. k (and-left head (is_param e) g), param-behind (done ∷ dones), enough (nat_lt (length dones) 2) (head && is_param e) (are_many (done ∷ dones)) t (few done dones));
      no_param = n;
      no_case = l;
      rest = h;
    };
  }

parted-args-live : (p : Place) (bracket : List DoneExpr → Bracket) (dones : List DoneExpr) (v : Option Expr) (outer : Context) (fs : List Frame)
    → ((ds : List DoneExpr) → BracketLives (bracket ds) outer limit.Expr) → is_param_limit outer.limit ≡ false → is_case_limit outer.limit ≡ false → FramesLive fs outer.limit
    → AllLive (parted_args p bracket dones v outer fs)
parted-args-live p bracket dones None outer fs k n l h = live-none
parted-args-live p bracket dones (Some expr) outer fs k n l h =
    live-some _ (record {
      context = begun-lives _ limit.Expr refl;
      frames = record { bracket = k (record { expr = expr; place = p } ∷ dones); no_param = n; no_case = l; rest = h };
    })

pub parted-live : (p : Place) (fs : List Frame) (c : Context) → FramesLive fs c.limit → AllLive (parted p fs c)
parted-live p [] c h = live-none
parted-live p (f ∷ fs) c h = go f.bracket h.bracket where
  go : (b : Bracket) → BracketLives b f.outer c.limit → AllLive (parted_in p b c f.outer fs)
  go (GroupBracket o dones head) k = parted-group-live p o dones head (element_at c) f.outer fs k.0 h.no_param h.no_case h.rest
  go (ArgsBracket prim o dones) k = parted-args-live p (ArgsBracket prim o) dones (ended_expr c) f.outer fs (λ ds. refl) h.no_param h.no_case h.rest
  go (NewArgsBracket w type o dones) k = parted-args-live p (NewArgsBracket w type o) dones (ended_expr c) f.outer fs (λ ds. refl) h.no_param h.no_case h.rest
  go _ k = live-none

-- ---- brackets that close

-- in the brackets around
abbrev Closes : List Frame → Context → Option Context → Type 0
Closes fs outer o = (d : Context) → o ≡ Some d → (d.limit ≡ outer.limit) × TailLives fs d d.tail

closes-none : (fs : List Frame) (outer : Context) → Closes fs outer None
closes-none fs outer d e = cc

closes-some : (fs : List Frame) (outer d : Context) → d.limit ≡ outer.limit → TailLives fs d d.tail → Closes fs outer (Some d)
closes-some fs outer d l k u e = (let same : d ≡ u = cc in subst (λ v. (v.limit ≡ outer.limit) × TailLives fs v v.tail) same (l, k))

emptied-closes : (b : Bracket) (p : Place) (fs : List Frame) (outer : Context) (l : Limit) → BracketLives b outer l → Closes fs outer (emptied b p outer)
emptied-closes (GroupBracket o [] head) p fs outer l k = closes-some fs outer _ refl (k.0, refl)
emptied-closes (ArgsBracket prim o []) p fs outer l k = closes-some fs outer _ refl tt
emptied-closes (NewArgsBracket w type o []) p fs outer l k = closes-some fs outer _ refl tt
emptied-closes _ p fs outer l k = closes-none fs outer

-- from the fourth on each element is a parameter
many-head : (o p : Place) (dones : List DoneElement) (e : Element) (head : Bool) → (not (are_many dones) || head) ≡ true → (are_many dones ≡ true → is_param e ≡ true)
    → (is_some (parens_prim o (Elements dones e) p) || (head && is_param e)) ≡ true
many-head o p [] e head k m = refl
many-head o p (a ∷ []) e head k m = refl
many-head o p (a ∷ b ∷ []) e head k m = refl
many-head o p (a ∷ b ∷ d ∷ dones) e head k m =
    ap (λ x. head && x) (m (many a b d dones)) ∙ both head (ap (λ x. not x || head) (sym (many a b d dones)) ∙ k)
  where
    both : (h : Bool) → (false || h) ≡ true → (h && true) ≡ true
    both true e = refl
    both false e = cc

group-closes : (o p : Place) (dones : List DoneElement) (head : Bool) (v : Option Element) (fs : List Frame) (outer : Context) → (head ≡ true → may_head outer ≡ true)
    → (not (are_many dones) || head) ≡ true → ((e : Element) → v ≡ Some e → are_many dones ≡ true → is_param e ≡ true) → Closes fs outer (closed_group o dones head v p outer)
group-closes o p dones head None fs outer k m q = closes-none fs outer
group-closes o p dones head (Some e) fs outer k m q =
    closes-some fs outer _ refl (λ g. k (and-left head (is_param e) g), many-head o p dones e head m (q e refl))

args-closes : (to : Args → Tail) (o p : Place) (dones : List DoneExpr) (v : Option Expr) (fs : List Frame) (outer : Context) → ((args : Args) → is_calm (to args) ≡ true)
    → Closes fs outer (closed_args to o dones v p outer)
args-closes to o p dones None fs outer k = closes-none fs outer
args-closes to o p dones (Some expr) fs outer k =
    let args : Args = ExprArgs o (derived.listed dones (LastExpr expr)) p in
    closes-some fs outer (at outer (to args)) refl (calm-lives fs (at outer (to args)) (to args) (k args))

test-closes : (to : Expr → Head) (v : Option Expr) (fs : List Frame) (outer : Context) → Closes fs outer (behind_test outer to v)
test-closes to None fs outer = closes-none fs outer
test-closes to (Some expr) fs outer = closes-some fs outer _ refl tt

until-closes : (to : Expr → Expr) (v : Option Expr) (fs : List Frame) (outer : Context) → Closes fs outer (behind_until outer to v)
until-closes to None fs outer = closes-none fs outer
until-closes to (Some expr) fs outer = closes-some fs outer _ refl tt

gens-closes : (w o p : Place) (dones : List DoneGen) (v : Option DoneGen) (fs : List Frame) (outer : Context) → Closes fs outer (behind_gens w o dones p outer v)
gens-closes w o p dones None fs outer = closes-none fs outer
gens-closes w o p dones (Some d) fs outer = go d.sep where
  go : (sep : List Place) → Closes fs outer (elim sep [
    | [] ↦ Some (with_head outer (derived.Of (ForRound w o (derived.enums_before dones (LastGen d.gen)) p None)))
    | q ∷ qs ↦ None
  ])
  go [] = closes-some fs outer _ refl tt
  go (q ∷ qs) = closes-none fs outer

-- of a parameter that ends, that is the element
param-is : (s : Tail) → is_decided s ≡ true → (e : Element) → element_at (params s) ≡ Some e → is_param e ≡ true
param-is Begin k e f = cc
param-is (AtName id b) k e f = (let same : ParamElement (NamedLPar id NoType) ≡ e = cc in ap is_param (sym same))
param-is (AtWild p) k e f = (let same : ParamElement (WildLPar p NoType) ≡ e = cc in ap is_param (sym same))
param-is (InTyped (OfName id) p t) k e f = go (type_of t) f where
  go : (o : Option WrittenType) → or_else (typed_element (NamedLPar id) p o) (expr_element (headed_all [] (typed_expr (OfName id) p o))) ≡ Some e → is_param e ≡ true
  go None g = cc
  go (Some type) g = (let same : ParamElement (NamedLPar id (OfType p type)) ≡ e = cc in ap is_param (sym same))
param-is (InTyped (OfWild q) p t) k e f = go (type_of t) f where
  go : (o : Option WrittenType) → or_else (typed_element (WildLPar q) p o) (expr_element (headed_all [] (typed_expr (OfWild q) p o))) ≡ Some e → is_param e ≡ true
  go None g = cc
  go (Some type) g = (let same : ParamElement (WildLPar q (OfType p type)) ≡ e = cc in ap is_param (sym same))
param-is (InTyped (OfChain chain) p t) k e f = cc
param-is _ k e f = cc

closes-live : (fs : List Frame) (outer : Context) (o : Option Context) → is_param_limit outer.limit ≡ false → is_case_limit outer.limit ≡ false → FramesLive fs outer.limit → Closes fs outer o → AllLive (in_state fs o)
closes-live fs outer None n l h k = live-none
closes-live fs outer (Some d) n l h k =
    let r = k d refl in
    live-some (state fs d) (record {
      context = record { tail = r.1; param = λ e. (let no : true ≡ false = sym e ∙ ap is_param_limit r.0 ∙ n in cc); no_case = ap is_case_limit r.0 ∙ l };
      frames = subst (FramesLive fs) (sym r.0) h;
    })

closes-if : (b : Bool) (fs : List Frame) (outer : Context) (x y : Option Context) → Closes fs outer x → Closes fs outer y → Closes fs outer (if b then x else y)
closes-if true fs outer x y p q = p
closes-if false fs outer x y p q = q

-- the parameter in brackets whose limit says so
pub closed-live : (p : Place) (fs : List Frame) (c : Context) → FramesLive fs c.limit → (is_param_limit c.limit ≡ true → (e : Element) → element_at c ≡ Some e → is_param e ≡ true) → AllLive (closed p fs c)
closed-live p [] c h q = live-none
closed-live p (f ∷ fs) c h q =
    closes-live fs f.outer (closed_frame p f c) h.no_param h.no_case h.rest
    (closes-if (is_untouched c) fs f.outer _ _ (emptied-closes f.bracket p fs f.outer c.limit h.bracket) (go f.bracket h.bracket))
  where
    go : (b : Bracket) → BracketLives b f.outer c.limit → Closes fs f.outer (closed_in b p c f.outer)
    go (GroupBracket o dones head) k = group-closes o p dones head (element_at c) fs f.outer k.0 k.2 (λ e g m. q (k.1 ∙ m) e g)
    go (ArgsBracket prim o dones) k = args-closes (derived.AtCall prim) o p dones (ended_expr c) fs f.outer (λ args. refl)
    go (NewArgsBracket w type o dones) k = args-closes (λ args. derived.AtPrim (NewWith w type args)) o p dones (ended_expr c) fs f.outer (λ args. refl)
    go (IfTest w o) k = test-closes _ (ended_expr c) fs f.outer
    go (WhileTest w o) k = test-closes _ (ended_expr c) fs f.outer
    go (DoTest w body sep until o) k = until-closes _ (ended_expr c) fs f.outer
    go (GensBracket w o dones part) k = gens-closes w o p dones (gen_at part c.tail c) fs f.outer

pub param-element : (c : Context) (s : Tail) → c ≡ params s → is_decided s ≡ true → (e : Element) → element_at c ≡ Some e → is_param e ≡ true
param-element c s same k e f = param-is s k e (ap element_at (sym same) ∙ f)

-- ---- generators

gens-live : (w o : Place) (dones : List DoneGen) (part : Part) (outer : Context) (fs : List Frame) (d : Context) → is_calm d.tail ≡ true → is_param_limit d.limit ≡ false → is_case_limit d.limit ≡ false
    → is_param_limit outer.limit ≡ false → is_case_limit outer.limit ≡ false → FramesLive fs outer.limit → Lives (state (frame (GensBracket w o dones part) outer ∷ fs) d)
gens-live w o dones part outer fs d k n l m q h = record {
  context = fresh-lives _ d k n l;
  frames = record { bracket = n; no_param = m; no_case = q; rest = h };
}

-- what a pattern that begins needs of the brackets
pub record NextLives (fs : List Frame) : Type 0 where
  pub frames : FramesLive fs limit.Expr
  pub part : in_pattern_part fs ≡ true

abbrev pub AllNext : Option State → Type 0
AllNext o = (t : State) → o ≡ Some t → NextLives t.frames

next-in-live : (v : Option DoneGen) (w o : Place) (dones : List DoneGen) (outer : Context) (n : Newline) (fs : List Frame) → is_param_limit outer.limit ≡ false → is_case_limit outer.limit ≡ false
    → FramesLive fs outer.limit → AllNext (next_in v w o dones outer n fs)
next-in-live None w o dones outer n fs m q h t e = cc
next-in-live (Some d) w o dones outer n fs m q h t e = go (derived.is_apart d.sep n) e where
  next : State
  next = state (frame (GensBracket w o (d ∷ dones) PatPart) outer ∷ fs) next_pattern

  go : (b : Bool) → (if b then Some next else None) ≡ Some t → NextLives t.frames
  go true f = (let same : next ≡ t = cc in subst (λ v. NextLives v.frames) same (record { frames = record { bracket = refl; no_param = m; no_case = q; rest = h }; part = refl }))
  go false f = cc

pub next-live : (fs : List Frame) (c : Context) (n : Newline) → FramesLive fs c.limit → AllNext (next_generator fs c n)
next-live [] c n h t e = cc
next-live (f ∷ fs) c n h t e = go f.bracket e where
  go : (b : Bracket) → next_by b f.outer c n fs ≡ Some t → NextLives t.frames
  go (GensBracket w o dones part) g = next-in-live (gen_at part c.tail c) w o dones f.outer n fs h.no_param h.no_case h.rest t g
  go _ g = cc

guarded-in-live : (v : Option Part) (w o : Place) (dones : List DoneGen) (outer : Context) (fs : List Frame) → is_param_limit outer.limit ≡ false → is_case_limit outer.limit ≡ false → FramesLive fs outer.limit
    → AllLive (guarded_in v w o dones outer fs)
guarded-in-live None w o dones outer fs m q h = live-none
guarded-in-live (Some part) w o dones outer fs m q h = live-some _ (gens-live w o dones part outer fs (fresh limit.Guard) refl refl refl m q h)

pub guarded-live : (p : Place) (fs : List Frame) (c : Context) → FramesLive fs c.limit → AllLive (guarded p fs c)
guarded-live p [] c h = live-none
guarded-live p (f ∷ fs) c h = go f.bracket where
  go : (b : Bracket) → AllLive (guarded_by b p f.outer c fs)
  go (GensBracket w o dones part) = guarded-in-live (guard_at part c.tail c p) w o dones f.outer fs h.no_param h.no_case h.rest
  go _ = live-none

arrowed-live : (v : Option Pat) (arrow : BackArrow) (fs : List Frame) (l : Limit) → FramesLive fs l → AllLive (arrowed v arrow fs)
arrowed-live v arrow [] l h = live-none
arrowed-live None arrow (f ∷ fs) l h = live-none
arrowed-live (Some pat) arrow (f ∷ fs) l h = go f.bracket where
  go : (b : Bracket) → AllLive (arrowed_in (Some pat) arrow b f.outer fs)
  go (GensBracket w o dones PatPart) = live-some _ (gens-live w o dones (FromPart pat arrow) f.outer fs (fresh limit.Expr) refl refl refl h.no_param h.no_case h.rest)
  go _ = live-none

pattern-in-live : (fs : List Frame) (v : Option patterns.State) → NextLives fs → AllLive (pattern_in fs v)
pattern-in-live fs None h = live-none
pattern-in-live fs (Some p) h = live-some _ (record { context = record { tail = h.part; param = λ e. (let no : false ≡ true = e in cc); no_case = refl }; frames = h.frames })

pub in-pattern-live : (y : Seen) (x : Lexeme) (p : patterns.State) (fs : List Frame) → NextLives fs → AllLive (in_pattern y x p fs)
in-pattern-live (ABackArrow arrow) x p fs h = arrowed-live (pattern_of p) arrow fs limit.Expr h.frames
in-pattern-live y x p fs h = live-if (is_generator_token p.current y) _ _ (λ e. pattern-in-live fs (patterns.step p x) h) (λ e. live-none)

-- a pattern that begins after a separator
pub begun-live : (o : Option State) (y : Seen) (x : Lexeme) → AllNext o → AllLive (begun_pattern o y x)
begun-live None y x k = live-none
begun-live (Some s) y x k = go s.context.tail where
  go : (t : Tail) → AllLive (pattern_step t y x s.frames)
  go (InPattern p) = in-pattern-live y x p s.frames (k s refl)
  go _ = live-none

-- ---- `;`

or-more : (a b c : Bool) → (a || b) ≡ true → (a || (b || c)) ≡ true
or-more true b c e = refl
or-more false true c e = refl
or-more false false c e = cc

or-last : (a b c : Bool) → c ≡ true → (a || (b || (c && true))) ≡ true
or-last true b c e = refl
or-last false true c e = refl
or-last false false true e = refl
or-last false false false e = cc

-- any number of `;` stands after a generator and before a `while`, and one before an `else`
abbrev SemiFits : Bool → List Frame → List Head → Type 0
SemiFits true fs hs = ((in_gens fs && not (waits hs)) || waits hs) ≡ true
SemiFits false fs hs = takes_else hs ≡ true

semi-first : (many : Bool) (fs : List Frame) (hs : List Head) → SemiFits many fs hs → ((in_gens fs && not (waits hs)) || (waits hs || (takes_else hs && true))) ≡ true
semi-first true fs hs k = or-more (in_gens fs && not (waits hs)) (waits hs) (takes_else hs && true) k
semi-first false fs hs k = or-last (in_gens fs && not (waits hs)) (waits hs) (takes_else hs) k

guard-semi-live : (p : Place) (v : Option Infix) (fs : List Frame) → in_gens fs ≡ true → FramesLive fs limit.Guard → AllLive (in_state fs (guard_semi p v))
guard-semi-live p None fs g h = live-none
guard-semi-live p (Some test) fs g h = live-some _ (record { context = record { tail = g; param = λ e. (let no : false ≡ true = e in cc); no_case = refl }; frames = h })

semi-behind-live : (p : Place) (many : Bool) (fs : List Frame) (c : Context) (v : Option Expr) → is_param_limit c.limit ≡ false → is_case_limit c.limit ≡ false → FramesLive fs c.limit
    → SemiFits many fs c.heads → AllLive (in_state fs (semi_behind p c.limit c.heads v))
semi-behind-live p many fs c None n l h k = live-none
semi-behind-live p many fs c (Some expr) n l h k =
    live-some _ (record { context = record { tail = semi-first many fs c.heads k; param = λ e. (let no : true ≡ false = sym e ∙ n in cc); no_case = l }; frames = h })

semi-live : (p : Place) (many : Bool) (fs : List Frame) (c : Context) (s : Tail) → is_param_limit c.limit ≡ false → is_case_limit c.limit ≡ false → FramesLive fs c.limit
    → SemiFits many fs c.heads → (is_guard_limit c.limit ≡ true → in_gens fs ≡ true) → TailLives fs c s → AllLive (in_state fs (semi_at p many s c))
semi-live p true fs c (AtSemi e q qs) n l h k g t =
    live-some _ (record {
      context = record { tail = or-more (in_gens fs && not (waits c.heads)) (waits c.heads) _ k; param = λ f. (let no : true ≡ false = sym f ∙ n in cc); no_case = l };
      frames = h;
    })
semi-live p false fs c (AtSemi e q qs) n l h k g t = live-none
semi-live p true fs c (AtGuardSemi test q qs) n l h k g t =
    live-some _ (record { context = record { tail = t; param = λ f. (let no : true ≡ false = sym f ∙ n in cc); no_case = l }; frames = h })
semi-live p false fs c (AtGuardSemi test q qs) n l h k g t = live-none
semi-live p many fs c _ n l h k g t = go (is_guard_limit c.limit) refl where
  go : (b : Bool) → is_guard_limit c.limit ≡ b → AllLive (in_state fs (if b then guard_semi p (chain_at c) else semi_behind p c.limit c.heads (innermost c)))
  go true e = guard-semi-live p (chain_at c) fs (g e) (frames-limit fs c.limit limit.Guard n h)
  go false e = semi-behind-live p many fs c (innermost c) n l h k

in-state-if : (b : Bool) (fs : List Frame) (x y : Option Context) → (b ≡ true → AllLive (in_state fs x)) → (b ≡ false → AllLive (in_state fs y)) → AllLive (in_state fs (if b then x else y))
in-state-if true fs x y p q = p refl
in-state-if false fs x y p q = q refl

pub semicolon-live : (p : Place) (fs : List Frame) (c : Context) → Fits c → is_param_limit c.limit ≡ false → is_case_limit c.limit ≡ false → FramesLive fs c.limit → TailLives fs c c.tail
    → AllLive (in_state fs (on_semicolon p fs c))
semicolon-live p fs c f n l h t =
    in-state-if (in_gens fs && not (waits c.heads)) fs _ _
    (λ e. semi-live p true fs c c.tail n l h (ap (λ b. b || waits c.heads) e) (λ g. and-left (in_gens fs) (not (waits c.heads)) e) t)
    (λ e. in-state-if (waits c.heads) fs _ _ (λ w. semi-live p true fs c c.tail n l h (or-holds (in_gens fs && not (waits c.heads)) (waits c.heads) w) (λ g. no-heads waits (f.guard g).0 refl w) t)
    (λ w. in-state-if (takes_else c.heads) fs _ _ (λ k. semi-live p false fs c c.tail n l h k (λ g. no-heads takes_else (f.guard g).0 refl k) t) (λ k. live-none)))
  where
    no-heads : (test : List Head → Bool) → c.heads ≡ [] → test [] ≡ false → test c.heads ≡ true → in_gens fs ≡ true
    no-heads test same none some = (let no : false ≡ true = sym none ∙ ap test (sym same) ∙ some in cc)
