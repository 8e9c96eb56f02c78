-- Arguments and tests lead to where these were read.
use Rattle.std.proofs.Common.{◌≡◌, Bool, true, false, if◌then◌else◌, List, [], ◌∷◌, ◌++◌, Option, Some, None, codes, refl, ap, sym, ◌∙◌, append_assoc}
use Rattle.scan_tokens.specs.declared.tokens.Newline.TheVariants.{No}
use Rattle.source_grammar.specs.Expressions.{Sep, Expr, DoThenWhile, Prim, NewWith, Args, NoArgs, ExprArgs, ExprList, LastExpr, MoreExprs, IfThen, WhileDo}
use Rattle.source_grammar.specs.Lexemes.{Place, word_at, open_round, close_round, comma}
use Rattle.source_grammar.specs.Types.{WrittenType}
use Rattle.parse_patterns.specs.Steps.{is_no}
use Rattle.expr_tails.specs.declared.states.Limit.TheVariants as limit
use Rattle.expr_tails.specs.declared.symbols.Word.TheVariants as word
use Rattle.expr_laws.proofs.Derived.{OneToken, DoneExpr, IfAsker, WhileAsker, ForAsker, Tail, Begin, AtCall, AtPrim, AtNew, AtAsker, AtUntil, AtEnded, Of, Context, Bracket, GroupBracket, ArgsBracket, NewArgsBracket, IfTest, WhileTest, DoTest, Frame, State, listed, is_some, is_param_limit, may_head, may_stand, receiver_at, waits, at, fresh, state, in_state, with_head, before_word, on_until, ended_expr, parted_in, parted_args, closed_in, closed_args, behind_test, behind_until, is_untouched, emptied, frame, inner, opened_with, args_bracket, receiver, waiting_bracket, opened, may_begin, or_else, begins, step}
use Rattle.expr_laws.proofs.GroupsAlong.{ExprEnds, touched}
use Rattle.expr_laws.proofs.Items.{expr_items, expr_list_items}
use Rattle.expr_laws.proofs.Moving.{Leads, leads-then, leads-on, leads-one, leads-as}
use Rattle.expr_laws.proofs.Seen.{AWord, ClosesRound, seen-word, seen-close_round}
use Rattle.expr_laws.proofs.Settling.{settled, settled-ended, comma-step, close-step}
use Rattle.expr_laws.proofs.TokenSteps.{if-true, if-false, nothing_at, begin-step, guarded-none, waiting-opens}

-- ---- elements of arguments

-- each of these expressions is read from the beginning of a bracket
abbrev pub AllEnd : ExprList → Type 0
AllEnd (LastExpr expr) = ExprEnds expr
AllEnd (MoreExprs expr place exprs) = ExprEnds expr × AllEnd exprs

-- a bracket in which arguments are read
pub record IsArgs (bracket : List DoneExpr → Bracket) (outer : Context) (o : Place) (to : Args → Tail) : Type 0 where
  pub parts : (p : Place) (done : List DoneExpr) (c : Context) (fs : List Frame) → parted_in p (bracket done) c outer fs ≡ parted_args p bracket done (ended_expr c) outer fs
  pub closes : (p : Place) (done : List DoneExpr) (c : Context) → closed_in (bracket done) p c outer ≡ closed_args to o done (ended_expr c) p outer
  pub empties : (p : Place) → emptied (bracket []) p outer ≡ Some (at outer (to (NoArgs o p)))

pub call-args : (prim : Prim) (o : Place) (outer : Context) → IsArgs (ArgsBracket prim o) outer o (AtCall prim)
call-args prim o outer = record { parts = λ p done c fs. refl; closes = λ p done c. refl; empties = λ p. refl }

pub new-args : (word : Place) (type : WrittenType) (o : Place) (outer : Context) → IsArgs (NewArgsBracket word type o) outer o (λ args. AtPrim (NewWith word type args))
new-args word type o outer = record { parts = λ p done c fs. refl; closes = λ p done c. refl; empties = λ p. refl }

abbrev arg : Expr → Place → DoneExpr
arg e p = record { expr = e; place = p }

arg-comma : (bracket : List DoneExpr → Bracket) (outer : Context) (o : Place) (to : Args → Tail) → IsArgs bracket outer o to → (p : Place) (done : List DoneExpr) (fs : List Frame) (e : Expr) (r : ExprEnds e)
    → step (state (frame (bracket done) outer ∷ fs) r.end) (OneToken (comma p)) ≡ Some (state (frame (bracket (arg e p ∷ done)) outer ∷ fs) (fresh limit.Expr))
arg-comma bracket outer o to is p done fs e r =
    comma-step p (frame (bracket done) outer ∷ fs) r.end e r.ends
    ∙ is.parts p done (settled r.end) fs
    ∙ ap (λ k. parted_args p bracket done k outer fs) (settled-ended r.end r.end.tail e r.ends)

-- behind a bracket that is not empty
close-in : (b : Bracket) (outer : Context) (p : Place) (fs : List Frame) (e : Expr) (r : ExprEnds e)
    → step (state (frame b outer ∷ fs) r.end) (OneToken (close_round p)) ≡ in_state fs (closed_in b p (settled r.end) outer)
close-in b outer p fs e r =
    close-step p (frame b outer ∷ fs) r.end e r.ends
    ∙ ap (in_state fs) (if-false (is_untouched (settled r.end)) (emptied b p outer) (closed_in b p (settled r.end) outer) (touched (settled r.end) e (settled-ended r.end r.end.tail e r.ends)))

arg-close : (bracket : List DoneExpr → Bracket) (outer : Context) (o : Place) (to : Args → Tail) → IsArgs bracket outer o to → (p : Place) (done : List DoneExpr) (fs : List Frame) (e : Expr) (r : ExprEnds e)
    → step (state (frame (bracket done) outer ∷ fs) r.end) (OneToken (close_round p)) ≡ Some (state fs (at outer (to (ExprArgs o (listed done (LastExpr e)) p))))
arg-close bracket outer o to is p done fs e r =
    close-in (bracket done) outer p fs e r
    ∙ ap (in_state fs) (is.closes p done (settled r.end))
    ∙ ap (λ k. in_state fs (closed_args to o done k p outer)) (settled-ended r.end r.end.tail e r.ends)

pub list-along : (exprs : ExprList) → AllEnd exprs → (bracket : List DoneExpr → Bracket) (outer : Context) (o : Place) (to : Args → Tail) → IsArgs bracket outer o to
    → (k : Place) (done : List DoneExpr) (fs : List Frame)
    → Leads (expr_list_items exprs ++ OneToken (close_round k) ∷ []) (state (frame (bracket done) outer ∷ fs) (fresh limit.Expr)) (state fs (at outer (to (ExprArgs o (listed done exprs) k))))
list-along (LastExpr e) r bracket outer o to is k done fs =
    leads-then (expr_items e) _ _ (state (frame (bracket done) outer ∷ fs) r.end) _ (r.leads (frame (bracket done) outer ∷ fs))
    (leads-one (OneToken (close_round k)) _ _ (arg-close bracket outer o to is k done fs e r))
list-along (MoreExprs e p exprs) r bracket outer o to is k done fs =
    leads-as (expr_items e ++ OneToken (comma p) ∷ (expr_list_items exprs ++ OneToken (close_round k) ∷ [])) _ _ _
    (sym (append_assoc (expr_items e) (OneToken (comma p) ∷ expr_list_items exprs) (OneToken (close_round k) ∷ [])))
    (leads-then (expr_items e) _ _ (state (frame (bracket done) outer ∷ fs) r.0.end) _ (r.0.leads (frame (bracket done) outer ∷ fs))
    (leads-on (OneToken (comma p)) _ _ (state (frame (bracket (arg e p ∷ done)) outer ∷ fs) (fresh limit.Expr)) _ (arg-comma bracket outer o to is p done fs e r.0)
    (list-along exprs r.1 bracket outer o to is k (arg e p ∷ done) fs)))

-- the arguments in parentheses, from where they were opened
pub none-along : (bracket : List DoneExpr → Bracket) (outer : Context) (o : Place) (to : Args → Tail) → IsArgs bracket outer o to → (k : Place) (fs : List Frame)
    → step (state (frame (bracket []) outer ∷ fs) (fresh limit.Expr)) (OneToken (close_round k)) ≡ Some (state fs (at outer (to (NoArgs o k))))
none-along bracket outer o to is k fs =
    begin-step (close_round k) (ClosesRound k) (seen-close_round k) (frame (bracket []) outer ∷ fs) (fresh limit.Expr) ∙ ap (in_state fs) (is.empties k)

-- ---- where arguments are opened

-- Args can follow what was read, which is this Prim
pub opens-args : (prim : Prim) (o : Place) (fs : List Frame) (c : Context) → receiver c ≡ Some prim → o.before ≡ No
    → opened o fs c ≡ Some (state (frame (ArgsBracket prim o []) (at c Begin) ∷ fs) (fresh limit.Expr))
opens-args prim o fs c r n =
    ap (λ k. if is_some k then opened_with (args_bracket o k) fs c else other) r
    ∙ ap (λ b. opened_with (if b then Some (ArgsBracket prim o []) else None) fs c) (ap is_no n)
  where
    other : Option State
    other = if may_stand c o.before then opened_with (Some (GroupBracket o [] (may_head c))) fs c else opened_with (waiting_bracket o c.tail) fs c

-- behind `new` and a type
pub opens-new-args : (word : Place) (type : WrittenType) (o : Place) (fs : List Frame) (c : Context) → o.before ≡ No
    → opened o fs (at c (AtNew word type)) ≡ Some (state (frame (NewArgsBracket word type o []) (at c Begin) ∷ fs) (fresh limit.Expr))
opens-new-args word type o fs c n = go (is_param_limit c.limit) where
  go : (b : Bool)
      → (if is_some (if b then None else receiver_at (AtNew word type)) then opened_with (args_bracket o (if b then None else receiver_at (AtNew word type))) fs (at c (AtNew word type))
      else opened_with (waiting_bracket o (AtNew word type)) fs (at c (AtNew word type)))
      ≡ Some (state (frame (NewArgsBracket word type o []) (at c Begin) ∷ fs) (fresh limit.Expr))
  go true = ap (λ k. opened_with (if k then Some (NewArgsBracket word type o []) else None) fs (at c (AtNew word type))) (ap is_no n)
  go false = ap (λ k. opened_with (if k then Some (NewArgsBracket word type o []) else None) fs (at c (AtNew word type))) (ap is_no n)

-- ---- tests

-- `if`, `while` and `for` begin an expression
pub if-begins : (p : Place) (fs : List Frame) (c : Context) → may_begin (at c Begin) ≡ true
    → step (state fs (at c Begin)) (OneToken (word_at (codes "if") p)) ≡ Some (state fs (at c (AtAsker IfAsker p)))
if-begins p fs c m =
    begin-step (word_at (codes "if") p) (AWord word.If p) (seen-word word.If p) fs c
    ∙ ap (λ o. or_else o (in_state fs (begins word.If p (at c Begin)))) (guarded-none p fs c)
    ∙ ap (in_state fs) (if-true (may_begin (at c Begin)) (Some (at c (AtAsker IfAsker p))) None m)

-- no `do` waits for it, since nothing was read behind the heads
no-until : (p : Place) (c : Context) (w : Bool) → (if w then on_until p (at c Begin) (before_word Begin (at c Begin)) else None) ≡ None
no-until p c true = refl
no-until p c false = refl

pub while-begins : (p : Place) (fs : List Frame) (c : Context) → may_begin (at c Begin) ≡ true
    → step (state fs (at c Begin)) (OneToken (word_at (codes "while") p)) ≡ Some (state fs (at c (AtAsker WhileAsker p)))
while-begins p fs c m =
    begin-step (word_at (codes "while") p) (AWord word.While p) (seen-word word.While p) fs c
    ∙ ap (λ o. in_state fs (or_else o (begins word.While p (at c Begin)))) (no-until p c (waits c.heads))
    ∙ ap (in_state fs) (if-true (may_begin (at c Begin)) (Some (at c (AtAsker WhileAsker p))) None m)

pub for-begins : (p : Place) (fs : List Frame) (c : Context) → may_begin (at c Begin) ≡ true
    → step (state fs (at c Begin)) (OneToken (word_at (codes "for") p)) ≡ Some (state fs (at c (AtAsker ForAsker p)))
for-begins p fs c m =
    begin-step (word_at (codes "for") p) (AWord word.For p) (seen-word word.For p) fs c
    ∙ ap (in_state fs) (if-true (may_begin (at c Begin)) (Some (at c (AtAsker ForAsker p))) None m)

-- a test in its parentheses, behind the word that waits for it
pub test-along : (bracket : Bracket) (s : Tail) (o k : Place) (test : Expr) (r : ExprEnds test) (fs : List Frame) (c d : Context) → nothing_at s ≡ true
    → waiting_bracket o s ≡ Some bracket → inner bracket ≡ fresh limit.Expr → closed_in bracket k (settled r.end) (at c Begin) ≡ Some d
    → Leads (OneToken (open_round o) ∷ (expr_items test ++ OneToken (close_round k) ∷ [])) (state fs (at c s)) (state fs d)
test-along bracket s o k test r fs c d n w i e =
    leads-on (OneToken (open_round o)) _ _ (state (frame bracket (at c Begin) ∷ fs) (fresh limit.Expr)) _
    (waiting-opens o fs c s bracket n w ∙ ap (λ x. Some (state (frame bracket (at c Begin) ∷ fs) x)) i)
    (leads-then (expr_items test) _ _ (state (frame bracket (at c Begin) ∷ fs) r.end) _ (r.leads (frame bracket (at c Begin) ∷ fs))
    (leads-one (OneToken (close_round k)) _ _ (close-in bracket (at c Begin) k fs test r ∙ ap (in_state fs) e)))

pub if-along : (p o k : Place) (test : Expr) → ExprEnds test → (fs : List Frame) (c : Context) → may_begin (at c Begin) ≡ true
    → Leads (OneToken (word_at (codes "if") p) ∷ OneToken (open_round o) ∷ (expr_items test ++ OneToken (close_round k) ∷ [])) (state fs (at c Begin))
    (state fs (with_head (at c Begin) (Of (IfThen p o test k))))
if-along p o k test r fs c m =
    leads-on (OneToken (word_at (codes "if") p)) _ _ (state fs (at c (AtAsker IfAsker p))) _ (if-begins p fs c m)
    (test-along (IfTest p o) (AtAsker IfAsker p) o k test r fs c (with_head (at c Begin) (Of (IfThen p o test k))) refl refl refl
    (ap (behind_test (at c Begin) (λ t. Of (IfThen p o t k))) (settled-ended r.end r.end.tail test r.ends)))

pub while-along : (p o k : Place) (test : Expr) → ExprEnds test → (fs : List Frame) (c : Context) → may_begin (at c Begin) ≡ true
    → Leads (OneToken (word_at (codes "while") p) ∷ OneToken (open_round o) ∷ (expr_items test ++ OneToken (close_round k) ∷ [])) (state fs (at c Begin))
    (state fs (with_head (at c Begin) (Of (WhileDo p o test k))))
while-along p o k test r fs c m =
    leads-on (OneToken (word_at (codes "while") p)) _ _ (state fs (at c (AtAsker WhileAsker p))) _ (while-begins p fs c m)
    (test-along (WhileTest p o) (AtAsker WhileAsker p) o k test r fs c (with_head (at c Begin) (Of (WhileDo p o test k))) refl refl refl
    (ap (behind_test (at c Begin) (λ t. Of (WhileDo p o t k))) (settled-ended r.end r.end.tail test r.ends)))

-- the test of a `do`, behind its `while`
pub until-along : (p until o k : Place) (body : Expr) (sep : Sep) (test : Expr) → ExprEnds test → (fs : List Frame) (c : Context)
    → Leads (OneToken (open_round o) ∷ (expr_items test ++ OneToken (close_round k) ∷ [])) (state fs (at c (AtUntil p body sep until)))
    (state fs (at c (AtEnded (DoThenWhile p body sep until o test k))))
until-along p until o k body sep test r fs c =
    test-along (DoTest p body sep until o) (AtUntil p body sep until) o k test r fs c (at c (AtEnded (DoThenWhile p body sep until o test k))) refl refl refl
    (ap (behind_until (at c Begin) (λ t. DoThenWhile p body sep until o t k)) (settled-ended r.end r.end.tail test r.ends))
