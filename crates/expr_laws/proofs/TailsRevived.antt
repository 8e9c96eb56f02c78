-- Where an expression is read, marks lead on to where one ends, in the same brackets.
use Rattle.std.proofs.Common.{◌≡◌, Bool, true, false, ◌&&◌, ◌||◌, if◌then◌else◌, List, [], ◌∷◌, Option, Some, None, codes, refl, ap, ◌∙◌}
use Rattle.std.specs.Prelude.{not}
use Rattle.scan_tokens.specs.declared.tokens.Newline.TheVariants.{No}
use Rattle.source_grammar.specs.Definitions.{Listed}
use Rattle.source_grammar.specs.Expressions.{LPar, LParHead, Sep, Expr, Headed, DoThenWhile, MatchExpr, Lambda, IfThen, WhileDo, ReturnOf, ForRound, LastGen, GenOf, NoGuards, Prim, SuperPrim, TypeApplyPrim}
use Rattle.source_grammar.specs.Lexemes.{Place, Lexeme, word_at, dot, underscore, close_square, back_arrow_token, BackArrow}
use Rattle.source_grammar.specs.Patterns.{Pat}
use Rattle.source_grammar.specs.Types.{LastType}
use Rattle.parse_parts.proofs.Derived as types
use Rattle.parse_patterns.proofs.Alive.{any_place, an_id}
use Rattle.expr_tails.specs.declared.states.Limit.{Limit}
use Rattle.expr_tails.specs.declared.states.Limit.TheVariants as limit
use Rattle.expr_tails.specs.declared.symbols.Symbol.TheVariants as symbol
use Rattle.expr_tails.specs.declared.symbols.Word.TheVariants as word
use Rattle.expr_tails.specs.Symbols.{symbol_of}
use Rattle.expr_laws.proofs.Behind.{Quiet, joined-no-next, moves-on}
use Rattle.expr_laws.proofs.Derived as derived
use Rattle.expr_laws.proofs.Derived.{OneToken, Parens, TypedOf, Tail, Begin, AtSign, AtName, AtWild, AtGroup, AtPrim, AtCall, AtDot, AtSuper, AtSuperDot, InNew, AtNew, InTypes, InTyped, AtMatch, AtReturn, AtAsker, IfAsker, WhileAsker, ForAsker, AtUntil, AtCatch, AtCaught, AtEnded, AtSemi, AtGuardSemi, InPattern, Head, Of, DoHead, Context, PatPart, FromPart, DoneGen, IfTest, WhileTest, GensBracket, Frame, Tried, params_of, parens_prim, innermost, headed_all, enums_before, is_nil, is_some, is_first, is_param_limit, may_head, may_stand, may_begin_name, takes_else, waits, at, fresh, state, in_state, with_head, only_heads, goes_on, new_type, types_type, lambda, head_over, behind_else, done, on_until, until_at, or_else, ended_expr, next_pattern, frame, step}
use Rattle.expr_laws.proofs.Fillers.{an_arrow, a_back_arrow, wild_pat, wild, some_cases, Filler, One, SomeCases, Wild, Name, Point, Opening, Closing, ClosingSquare, ArrowMark, BackMark, WhileMark, ElseMark, mark_tokens, fill, marks, fill-marks, Reaches, reaches-none, reaches-then, reaches-on, reaches-one, reaches-by}
use Rattle.expr_laws.proofs.FramesAlong.{test-along}
use Rattle.expr_laws.proofs.GeneratorPatterns.{pat-along, arrow-step}
use Rattle.expr_laws.proofs.GroupsAlong.{ExprEnds}
use Rattle.expr_laws.proofs.HeadsAlong.{while-symbol}
use Rattle.expr_laws.proofs.Items.{tokens}
use Rattle.expr_laws.proofs.Moving.{leads-one, leads-as, token-step}
use Rattle.expr_laws.proofs.PrimsAlong.{super-named}
use Rattle.expr_laws.proofs.Seen.{AnUnderscore, ADot, ClosesSquare, AWord, seen-underscore, seen-dot, seen-close_square, seen-word}
use Rattle.expr_laws.proofs.Settling.{settled, settled_tail, settled-innermost, close-step}
use Rattle.expr_laws.proofs.TokenSteps.{if-true, if-false, underscore-begins, waiting-opens, type-leads, arrow-heads}
use Rattle.expr_laws.proofs.TypesAlong.{is_case_limit, in-leads}
use Rattle.expr_laws.proofs.TypesRevived.{type-ends}
use Rattle.expr_laws.proofs.WordsAlong.{before, before-is, word-step}
use Rattle.expr_laws.proofs.FramesAlong.{until-along}

-- ---- what is reached

abbrev pub is_return : Tail → Bool
is_return (AtReturn word) = true
is_return _ = false

-- an expression ends, and a `while` after it is not its operand
pub record Revived (fs : List Frame) (c : Context) : Type 0 where
  pub end : Context
  pub expr : Expr
  pub reaches : Reaches (state fs c) (state fs end)
  pub there : innermost end ≡ Some expr
  pub quiet : is_return end.tail ≡ false

-- an expression ends with all heads around it
pub record Finished (fs : List Frame) (c : Context) : Type 0 where
  pub end : Context
  pub expr : Expr
  pub reaches : Reaches (state fs c) (state fs end)
  pub ended : ended_expr end ≡ Some expr

here : (fs : List Frame) (c : Context) (e : Expr) → innermost c ≡ Some e → is_return c.tail ≡ false → Revived fs c
here fs c e h q = record { end = c; expr = e; reaches = reaches-none (state fs c); there = h; quiet = q }

onward-by : (fs : List Frame) (c d : Context) → Reaches (state fs c) (state fs d) → Revived fs d → Revived fs c
onward-by fs c d p r = record { end = r.end; expr = r.expr; reaches = reaches-then (state fs c) (state fs d) (state fs r.end) p r.reaches; there = r.there; quiet = r.quiet }

-- ---- `_`

any-stands : (c : Context) → is_param_limit c.limit ≡ false → may_stand (at c Begin) No ≡ true
any-stands c n = ap (λ b. not b && (is_first c || (is_some c.sign || true))) n ∙ go (is_first c) (is_some c.sign) where
  go : (x y : Bool) → (x || (y || true)) ≡ true
  go true y = refl
  go false true = refl
  go false false = refl

name-stands : (c : Context) → is_param_limit c.limit ≡ false → may_begin_name (at c Begin) No ≡ true
name-stands c n = if-false (is_param_limit c.limit) true (may_stand (at c Begin) No) n ∙ any-stands c n

wild-step : (fs : List Frame) (c : Context) → is_param_limit c.limit ≡ false → step (state fs (at c Begin)) (OneToken (underscore any_place)) ≡ Some (state fs (at c (AtWild any_place)))
wild-step fs c n = underscore-begins any_place fs c (name-stands c n)

pub begin-revived : (fs : List Frame) (c : Context) → is_param_limit c.limit ≡ false → Revived fs (at c Begin)
begin-revived fs c n =
    onward-by fs (at c Begin) (at c (AtWild any_place)) (reaches-one (One Wild) _ _ (wild-step fs c n))
    (here fs (at c (AtWild any_place)) _ refl refl)

underscore-symbol : symbol_of (underscore any_place).kind (underscore any_place).word ≡ symbol.Underscore
unfolding symbol_of
underscore-symbol = refl

-- after `return` it begins the operand
return-step : (fs : List Frame) (c : Context) (w : Place) → is_param_limit c.limit ≡ false
    → step (state fs (at c (AtReturn w))) (OneToken (underscore any_place)) ≡ Some (state fs (at (with_head c (Of (ReturnOf w))) (AtWild any_place)))
return-step fs c w n =
    let d : Context = with_head (at c (AtReturn w)) (Of (ReturnOf w)) in
    token-step (underscore any_place) (AnUnderscore any_place) symbol.Underscore fs (at c (AtReturn w)) d refl (seen-underscore any_place) underscore-symbol refl
    ∙ moves-on Begin (AnUnderscore any_place) (underscore any_place) fs d refl (joined-no-next fs d Begin refl)
    ∙ ap (in_state fs) (if-true (may_begin_name d No) (Some (at d (AtWild any_place))) _ (name-stands d n))

-- ---- parentheses

group-revived : (fs : List Frame) (c : Context) (o : Place) (parens : Parens) (k : Place) (head : Bool) → is_param_limit c.limit ≡ false → (head ≡ true → is_some (params_of parens) ≡ true)
    → (head ≡ true → may_head c ≡ true) → (is_some (parens_prim o parens k) || head) ≡ true → Revived fs (at c (AtGroup o parens k head))
group-revived fs c o parens k head n params may h = go (parens_prim o parens k) head refl h params may where
  lambda-revived : (v : Option (Listed LPar)) → params_of parens ≡ v → is_some v ≡ true → may_head c ≡ true → Revived fs (at c (AtGroup o parens k true))
  lambda-revived None e s m = cc
  lambda-revived (Some lpars) e s m =
      let d : Context = with_head c (Of (Lambda (LParHead o lpars k) an_arrow)) in
      onward-by fs (at c (AtGroup o parens k true)) d
      (reaches-one (One ArrowMark) _ _ (arrow-heads an_arrow fs c (AtGroup o parens k true) refl m ∙ ap (λ v. in_state fs (lambda an_arrow (at c (AtGroup o parens k true)) (head_over o k v))) e))
      (begin-revived fs d n)

  go : (v : Option Prim) (b : Bool) → parens_prim o parens k ≡ v → (is_some v || b) ≡ true → (b ≡ true → is_some (params_of parens) ≡ true) → (b ≡ true → may_head c ≡ true) → Revived fs (at c (AtGroup o parens k b))
  go (Some d) b e t f g = here fs (at c (AtGroup o parens k b)) _ (ap (λ v. derived.infix_expr (derived.chain_of c.operations c.sign v)) e) refl
  go None true e t f g = lambda-revived (params_of parens) refl (f refl) (g refl)
  go None false e t f g = cc

-- ---- `super`

super-dot-revived : (fs : List Frame) (c : Context) (w p : Place) → Revived fs (at c (AtSuperDot w p))
super-dot-revived fs c w p =
    onward-by fs (at c (AtSuperDot w p)) (at c (AtPrim (SuperPrim w p an_id))) (reaches-one (One Name) _ _ (super-named an_id fs c w p))
    (here fs (at c (AtPrim (SuperPrim w p an_id))) _ refl refl)

super-revived : (fs : List Frame) (c : Context) (w : Place) → Revived fs (at c (AtSuper w))
super-revived fs c w =
    onward-by fs (at c (AtSuper w)) (at c (AtSuperDot w any_place))
    (reaches-one (One Point) _ _
    (token-step (dot any_place) (ADot any_place) (symbol_of (dot any_place).kind (dot any_place).word) fs (at c (AtSuper w)) (at c (AtSuper w)) refl (seen-dot any_place) refl refl))
    (super-dot-revived fs c w any_place)

-- ---- types

goes-on : (l : Limit) (t : types.State) (x : Lexeme) → is_case_limit l ≡ false → goes_on l t x ≡ types.step t x
goes-on limit.CaseGuard t x e = cc
goes-on _ t x e = refl

new-revived : (fs : List Frame) (c : Context) (w : Place) (t : types.State) → is_case_limit c.limit ≡ false → Revived fs (at c (InNew w t))
new-revived fs c w t l =
    let r = type-ends t in
    let u : types.State = record { frames = []; heads = r.heads; tail = types.AtPath r.path } in
    onward-by fs (at c (InNew w t)) (at c (InNew w u))
    (reaches-by (marks r.others) _ _ (leads-as (tokens (mark_tokens r.others)) (fill (marks r.others)) _ _ (fill-marks r.others)
    (in-leads types.step (InNew w) c (λ v x q e. ap (new_type w) (goes-on c.limit v x l ∙ e)) (mark_tokens r.others) t u fs r.runs)))
    (here fs (at c (InNew w u)) _ refl refl)

types-revived : (fs : List Frame) (c : Context) (prim : Prim) (o : Place) (dones : List types.Done) (t : types.State) → Revived fs (at c (InTypes prim o dones t))
types-revived fs c prim o dones t =
    let r = type-ends t in
    let u : types.State = record { frames = []; heads = r.heads; tail = types.AtPath r.path } in
    let d : Context = at c (InTypes prim o dones u) in
    onward-by fs (at c (InTypes prim o dones t)) d
    (reaches-by (marks r.others) _ _ (leads-as (tokens (mark_tokens r.others)) (fill (marks r.others)) _ _ (fill-marks r.others)
    (in-leads types.step (InTypes prim o dones) c (λ v x q e. ap (types_type prim o dones) e) (mark_tokens r.others) t u fs r.runs)))
    (onward-by fs d (at c (AtPrim (TypeApplyPrim prim o (types.listed dones (LastType _)) any_place)))
    (reaches-one (One ClosingSquare) _ _
    (token-step (close_square any_place) (ClosesSquare any_place) (symbol_of (close_square any_place).kind (close_square any_place).word) fs d d refl (seen-close_square any_place) refl refl))
    (here fs (at c (AtPrim (TypeApplyPrim prim o (types.listed dones (LastType _)) any_place))) _ refl refl))

typed-revived : (fs : List Frame) (c : Context) (of : TypedOf) (p : Place) (t : types.State) → Revived fs (at c (InTyped of p t))
typed-revived fs c of p t =
    let r = type-ends t in
    let u : types.State = record { frames = []; heads = r.heads; tail = types.AtPath r.path } in
    onward-by fs (at c (InTyped of p t)) (at c (InTyped of p u))
    (reaches-by (marks r.others) _ _ (leads-as (tokens (mark_tokens r.others)) (fill (marks r.others)) _ _ (fill-marks r.others) (type-leads (mark_tokens r.others) of p fs c t u r.runs)))
    (here fs (at c (InTyped of p u)) _ refl refl)

-- ---- tests and generators

pub wild-read : ExprEnds wild
wild-read = record { end = at (fresh limit.Expr) (AtWild any_place); leads = λ fs. leads-one (OneToken (underscore any_place)) _ _ (wild-step fs (fresh limit.Expr) refl); ends = refl }

abbrev in_parentheses : List Filler
in_parentheses = One Opening ∷ One Wild ∷ One Closing ∷ []

if-revived : (fs : List Frame) (c : Context) (w : Place) → is_param_limit c.limit ≡ false → Revived fs (at c (AtAsker IfAsker w))
unfolding wild-read
if-revived fs c w n =
    let d : Context = with_head c (Of (IfThen w any_place wild any_place)) in
    onward-by fs (at c (AtAsker IfAsker w)) d (reaches-by in_parentheses _ _ (test-along (IfTest w any_place) (AtAsker IfAsker w) any_place any_place wild wild-read fs c d refl refl refl refl)) (begin-revived fs d n)

while-revived : (fs : List Frame) (c : Context) (w : Place) → is_param_limit c.limit ≡ false → Revived fs (at c (AtAsker WhileAsker w))
unfolding wild-read
while-revived fs c w n =
    let d : Context = with_head c (Of (WhileDo w any_place wild any_place)) in
    onward-by fs (at c (AtAsker WhileAsker w)) d (reaches-by in_parentheses _ _ (test-along (WhileTest w any_place) (AtAsker WhileAsker w) any_place any_place wild wild-read fs c d refl refl refl refl))
    (begin-revived fs d n)

-- the generators end with this one
abbrev pub for_head : Place → Place → List DoneGen → Pat → BackArrow → Head
for_head w o dones pat arrow = Of (ForRound w o (enums_before dones (LastGen (GenOf pat arrow wild NoGuards))) any_place None)

abbrev pub in_gens_of : Place → Place → List DoneGen → derived.Part → Context → List Frame → List Frame
in_gens_of w o dones part outer fs = frame (GensBracket w o dones part) outer ∷ fs

-- after `<-`
from-closed : (w o : Place) (dones : List DoneGen) (pat : Pat) (arrow : BackArrow) (outer : Context) (fs : List Frame)
    → Reaches (state (in_gens_of w o dones (FromPart pat arrow) outer fs) (fresh limit.Expr)) (state fs (with_head outer (for_head w o dones pat arrow)))
from-closed w o dones pat arrow outer fs =
    let gs : List Frame = in_gens_of w o dones (FromPart pat arrow) outer fs in
    let c : Context = at (fresh limit.Expr) (AtWild any_place) in
    reaches-on (One Wild) _ (state gs c) _ (wild-step gs (fresh limit.Expr) refl) (reaches-one (One Closing) _ _ (close-step any_place gs c wild refl))

pub arrow-closed : (w o : Place) (dones : List DoneGen) (pat : Pat) (outer : Context) (fs : List Frame) (c : Context)
    → step (state (in_gens_of w o dones PatPart outer fs) c) (OneToken (back_arrow_token a_back_arrow)) ≡ Some (state (in_gens_of w o dones (FromPart pat a_back_arrow) outer fs) (fresh limit.Expr))
    → Reaches (state (in_gens_of w o dones PatPart outer fs) c) (state fs (with_head outer (for_head w o dones pat a_back_arrow)))
arrow-closed w o dones pat outer fs c e = reaches-on (One BackMark) _ _ _ e (from-closed w o dones pat a_back_arrow outer fs)

-- before a pattern
next-closed : (w o : Place) (dones : List DoneGen) (outer : Context) (fs : List Frame)
    → Reaches (state (in_gens_of w o dones PatPart outer fs) next_pattern) (state fs (with_head outer (for_head w o dones wild_pat a_back_arrow)))
next-closed w o dones outer fs =
    reaches-then _ _ _ (reaches-by (One Wild ∷ []) _ _ (pat-along wild_pat (refl, tt) refl [] (in_gens_of w o dones PatPart outer fs)))
    (arrow-closed w o dones wild_pat outer fs _ (arrow-step wild_pat a_back_arrow w o dones outer fs (refl, tt)))

for-revived : (fs : List Frame) (c : Context) (w : Place) → is_param_limit c.limit ≡ false → Revived fs (at c (AtAsker ForAsker w))
for-revived fs c w n =
    let d : Context = with_head c (for_head w any_place [] wild_pat a_back_arrow) in
    onward-by fs (at c (AtAsker ForAsker w)) d
    (reaches-on (One Opening) _ (state (in_gens_of w any_place [] PatPart (at c Begin) fs) next_pattern) _ (waiting-opens any_place fs c (AtAsker ForAsker w) (GensBracket w any_place [] PatPart) refl refl)
    (next-closed w any_place [] (at c Begin) fs))
    (begin-revived fs d n)

-- ---- `do`

until-reaches : (fs : List Frame) (c : Context) (w : Place) (body : Expr) (sep : Sep) (until : Place)
    → Reaches (state fs (at c (AtUntil w body sep until))) (state fs (at c (AtEnded (DoThenWhile w body sep until any_place wild any_place))))
until-reaches fs c w body sep until = reaches-by in_parentheses _ _ (until-along w until any_place any_place body sep wild wild-read fs c)

quiet-while : (s : Tail) → is_return s ≡ false → Quiet s (symbol.Word word.While) No
quiet-while (AtSign id) q = refl
quiet-while (AtDot prim point) q = refl
quiet-while (AtReturn word) q = cc
quiet-while _ q = tt

-- the `while` of the innermost `do`
while-step : (fs : List Frame) (c : Context) (e : Expr) (t : Tried) → innermost c ≡ Some e → is_return c.tail ≡ false → waits c.heads ≡ true → done c.heads (Some e) ≡ Some t
    → step (state fs c) (OneToken (word_at (codes "while") any_place)) ≡ Some (state fs (at (only_heads t.heads Begin c.limit) (AtUntil t.word t.body [] any_place)))
while-step fs c e t i q w d =
    word-step word.While any_place fs c while-symbol (λ u k. refl) (ap is_some i) (quiet-while c.tail q)
    ∙ ap (λ o. in_state fs (or_else o (derived.word_at word.While any_place (settled c))))
    (if-true (waits c.heads) (on_until any_place (settled c) (derived.before_word (settled_tail c.tail) (settled c))) None w
    ∙ ap (on_until any_place (settled c)) (before-is c (settled_tail c.tail) e (settled-innermost c c.tail e i))
    ∙ ap (until_at [] any_place c.limit) d)

-- and the same after a `;`
semi-while-step : (fs : List Frame) (c : Context) (e : Expr) (p : Place) (ps : List Place) (t : Tried) → waits c.heads ≡ true → done c.heads (Some e) ≡ Some t
    → step (state fs (at c (AtSemi e p ps))) (OneToken (word_at (codes "while") any_place)) ≡ Some (state fs (at (only_heads t.heads Begin c.limit) (AtUntil t.word t.body (p ∷ ps) any_place)))
semi-while-step fs c e p ps t w d =
    token-step (word_at (codes "while") any_place) (AWord word.While any_place) (symbol_of (word_at (codes "while") any_place).kind (codes "while")) fs (at c (AtSemi e p ps)) (at c (AtSemi e p ps)) refl
    (seen-word word.While any_place) refl refl
    ∙ ap (λ o. in_state fs (or_else o (derived.word_at word.While any_place (at c (AtSemi e p ps)))))
    (if-true (waits c.heads) (on_until any_place (at c (AtSemi e p ps)) (Some (before e (p ∷ ps)))) None w ∙ ap (until_at (p ∷ ps) any_place c.limit) d)

-- where no `do` waits, the heads have their body
pub record AllHeaded (hs : List Head) (e : Expr) : Type 0 where
  pub expr : Expr
  pub is : headed_all hs (Some e) ≡ Some expr

pub all-headed : (hs : List Head) (e : Expr) → waits hs ≡ false → AllHeaded hs e
all-headed [] e w = record { expr = e; is = refl }
all-headed (Of h ∷ hs) e w = (let r = all-headed hs (Headed h e) w in record { expr = r.expr; is = r.is })
all-headed (DoHead word ∷ hs) e w = cc

-- from each context with these heads, in which an expression ends, one is reached that ends with its heads
abbrev Written : List Head → Type 0
Written hs = (fs : List Frame) (c : Context) (e : Expr) → c.heads ≡ hs → innermost c ≡ Some e → is_return c.tail ≡ false → Finished fs c

-- the innermost `do` has its body, and those around it are finished
record Doing (hs : List Head) (body : Expr) : Type 0 where
  tried : Tried
  is : done hs (Some body) ≡ Some tried
  rest : Written tried.heads

abbrev Does : List Head → Type 0
Does hs = (body : Expr) → waits hs ≡ true → Doing hs body

written : (hs : List Head) → Does hs → Written hs
written hs does fs c e same i q = go (waits hs) refl where
  go : (b : Bool) → waits hs ≡ b → Finished fs c
  go false w =
      let r = all-headed hs e w in
      record {
        end = c;
        expr = r.expr;
        reaches = reaches-none (state fs c);
        ended = ap (λ ks. if waits ks then None else headed_all ks (innermost c)) same ∙ ap (λ b. if b then None else headed_all hs (innermost c)) w ∙ ap (headed_all hs) i ∙ r.is;
      }
  go true w =
      let d = does e w in
      let t = d.tried in
      let there : Context = only_heads t.heads Begin c.limit in
      let ended : Context = at there (AtEnded (DoThenWhile t.word t.body [] any_place any_place wild any_place)) in
      let r = d.rest fs ended (DoThenWhile t.word t.body [] any_place any_place wild any_place) refl refl refl in
      record {
        end = r.end;
        expr = r.expr;
        reaches = reaches-on (One WhileMark) (state fs c) (state fs (at there (AtUntil t.word t.body [] any_place))) (state fs r.end)
            (while-step fs c e t i q (ap waits same ∙ w) (ap (λ ks. done ks (Some e)) same ∙ d.is))
            (reaches-then _ (state fs ended) _ (until-reaches fs there t.word t.body [] any_place) r.reaches);
        ended = r.ended;
      }

does : (hs : List Head) → Does hs
does [] body w = cc
does (DoHead word ∷ hs) body w = record { tried = record { word = word; body = body; heads = hs }; is = refl; rest = written hs (does hs) }
does (Of h ∷ hs) body w = (let d = does hs (Headed h body) w in record { tried = d.tried; is = d.is; rest = d.rest })

pub finished : (fs : List Frame) (c : Context) → Revived fs c → Finished fs c
finished fs c r =
    let f = written r.end.heads (does r.end.heads) fs r.end r.expr refl r.there r.quiet in
    record { end = f.end; expr = f.expr; reaches = reaches-then (state fs c) (state fs r.end) (state fs f.end) r.reaches f.reaches; ended = f.ended }

-- ---- after a `;`

semi-while-revived : (fs : List Frame) (c : Context) (e : Expr) (p : Place) (ps : List Place) → waits c.heads ≡ true → Revived fs (at c (AtSemi e p ps))
semi-while-revived fs c e p ps w =
    let d = does c.heads e w in
    let t = d.tried in
    let there : Context = only_heads t.heads Begin c.limit in
    let ended : Context = at there (AtEnded (DoThenWhile t.word t.body (p ∷ ps) any_place any_place wild any_place)) in
    onward-by fs (at c (AtSemi e p ps)) ended
    (reaches-on (One WhileMark) _ (state fs (at there (AtUntil t.word t.body (p ∷ ps) any_place))) _ (semi-while-step fs c e p ps t w d.is) (until-reaches fs there t.word t.body (p ∷ ps) any_place))
    (here fs ended _ refl refl)

-- the `if` that takes the `else`
record Elsed (hs : List Head) (semi : Option Place) (body : Expr) : Type 0 where
  heads : List Head
  is : behind_else (Some semi) any_place hs (Some body) ≡ Some heads

elsed : (hs : List Head) (semi : Option Place) (body : Expr) → takes_else hs ≡ true → Elsed hs semi body
elsed [] semi body t = cc
elsed (DoHead word ∷ hs) semi body t = cc
elsed (Of (IfThen word o test k) ∷ hs) semi body t = record { heads = _; is = refl }
elsed (Of h ∷ hs) semi body t = (let r = elsed hs semi (Headed h body) t in record { heads = r.heads; is = r.is })

semi-else-revived : (fs : List Frame) (c : Context) (e : Expr) (p : Place) → is_param_limit c.limit ≡ false → takes_else c.heads ≡ true → Revived fs (at c (AtSemi e p []))
semi-else-revived fs c e p n t =
    let r = elsed c.heads (Some p) e t in
    let d : Context = only_heads r.heads Begin c.limit in
    onward-by fs (at c (AtSemi e p [])) d
    (reaches-one (One ElseMark) _ _
    (token-step (word_at (codes "else") any_place) (AWord word.Else any_place) (symbol_of (word_at (codes "else") any_place).kind (codes "else")) fs (at c (AtSemi e p [])) (at c (AtSemi e p [])) refl
    (seen-word word.Else any_place) refl refl
    ∙ ap (λ o. in_state fs (or_else o (derived.word_at word.Else any_place (at c (AtSemi e p [])))))
    (if-true (takes_else c.heads) (derived.with_heads c.limit (behind_else (Some (Some p)) any_place c.heads (Some e))) None t ∙ ap (derived.with_heads c.limit) r.is)))
    (begin-revived fs d n)

-- ---- any tail

-- what is asked of the tail where no generator ends
abbrev pub CanEnd : Context → Tail → Type 0
CanEnd c (AtGroup o parens k head) = (head ≡ true → is_some (params_of parens) ≡ true) × (head ≡ true → may_head c ≡ true) × ((is_some (parens_prim o parens k) || head) ≡ true)
CanEnd c (AtSemi e p ps) = (waits c.heads || (takes_else c.heads && is_nil ps)) ≡ true
CanEnd c (AtGuardSemi test p ps) = ⊥
CanEnd c (InPattern p) = ⊥
CanEnd c _ = Unit {0}

semi-revived : (fs : List Frame) (c : Context) (e : Expr) (p : Place) (ps : List Place) → is_param_limit c.limit ≡ false → (waits c.heads || (takes_else c.heads && is_nil ps)) ≡ true → Revived fs (at c (AtSemi e p ps))
semi-revived fs c e p ps n h = go (waits c.heads) (takes_else c.heads) ps refl refl h where
  go : (w t : Bool) (qs : List Place) → waits c.heads ≡ w → takes_else c.heads ≡ t → (w || (t && is_nil qs)) ≡ true → Revived fs (at c (AtSemi e p qs))
  go true t qs f g k = semi-while-revived fs c e p qs f
  go false true [] f g k = semi-else-revived fs c e p n g
  go false true (q ∷ qs) f g k = cc
  go false false qs f g k = cc

pub revived : (fs : List Frame) (c : Context) (s : Tail) → is_param_limit c.limit ≡ false → is_case_limit c.limit ≡ false → CanEnd c s → Revived fs (at c s)
revived fs c Begin n l k = begin-revived fs c n
revived fs c (AtSign id) n l k = here fs (at c (AtSign id)) _ refl refl
revived fs c (AtName id is_sign) n l k = here fs (at c (AtName id is_sign)) _ refl refl
revived fs c (AtWild p) n l k = here fs (at c (AtWild p)) _ refl refl
revived fs c (AtGroup o parens p head) n l k = group-revived fs c o parens p head n k.0 k.1 k.2
revived fs c (AtPrim prim) n l k = here fs (at c (AtPrim prim)) _ refl refl
revived fs c (AtCall prim args) n l k = here fs (at c (AtCall prim args)) _ refl refl
revived fs c (AtDot prim p) n l k = here fs (at c (AtDot prim p)) _ refl refl
revived fs c (AtSuper w) n l k = super-revived fs c w
revived fs c (AtSuperDot w p) n l k = super-dot-revived fs c w p
revived fs c (InNew w t) n l k = new-revived fs c w t l
revived fs c (AtNew w type) n l k = here fs (at c (AtNew w type)) _ refl refl
revived fs c (InTypes prim o dones t) n l k = types-revived fs c prim o dones t
revived fs c (InTyped of p t) n l k = typed-revived fs c of p t
revived fs c (AtMatch chain w) n l k =
    onward-by fs (at c (AtMatch chain w)) (at c (AtEnded (MatchExpr chain w any_place some_cases any_place))) (reaches-one SomeCases _ _ refl)
    (here fs (at c (AtEnded (MatchExpr chain w any_place some_cases any_place))) _ refl refl)
revived fs c (AtReturn w) n l k =
    let d : Context = at (with_head c (Of (ReturnOf w))) (AtWild any_place) in
    onward-by fs (at c (AtReturn w)) d (reaches-one (One Wild) _ _ (return-step fs c w n)) (here fs d _ refl refl)
revived fs c (AtAsker IfAsker w) n l k = if-revived fs c w n
revived fs c (AtAsker WhileAsker w) n l k = while-revived fs c w n
revived fs c (AtAsker ForAsker w) n l k = for-revived fs c w n
revived fs c (AtUntil w body sep until) n l k =
    let d : Context = at c (AtEnded (DoThenWhile w body sep until any_place wild any_place)) in
    onward-by fs (at c (AtUntil w body sep until)) d (until-reaches fs c w body sep until) (here fs d _ refl refl)
revived fs c (AtCatch w body catch) n l k =
    let d : Context = at c (AtCaught w body catch any_place some_cases any_place) in
    onward-by fs (at c (AtCatch w body catch)) d (reaches-one SomeCases _ _ refl) (here fs d _ refl refl)
revived fs c (AtCaught w body catch o cases p) n l k = here fs (at c (AtCaught w body catch o cases p)) _ refl refl
revived fs c (AtEnded expr) n l k = here fs (at c (AtEnded expr)) _ refl refl
revived fs c (AtSemi e p ps) n l k = semi-revived fs c e p ps n k
revived fs c (AtGuardSemi test p ps) n l k = absurd k
revived fs c (InPattern p) n l k = absurd k
