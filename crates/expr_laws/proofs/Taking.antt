-- A word that a head takes: `else`, `catch`, `finally` and the `while` of a `do`, the reader as the machine.
use Rattle.std.proofs.Common.{◌≡◌, Bool, true, false, if◌then◌else◌, List, [], ◌∷◌, ◌++◌, Option, Some, None, option_map, refl, ap, sym, ◌∙◌, ◌&&◌, ◌||◌}
use Rattle.source_grammar.specs.Expressions.{Expr, Sep, Cases, IfThen, IfElse, TryAlone, TryFinally, TryCatchFinally, Headed, Heading, Lambda}
use Rattle.source_grammar.specs.ExpressionTrees.{expr_built, cases_built}
use Rattle.source_grammar.specs.Lexemes.{Place}
use Rattle.parse_parts.proofs.Kept.{kept_all, alone-kept, joined-kept}
use Rattle.expr_frames.specs.declared.heads.Taken.{Taken}
use Rattle.expr_frames.specs.Heads as spec
use Rattle.expr_frames.specs.Heads.{reach_of, reach_with, with_head, is_taken, with_word}
use Rattle.expr_tails.specs.declared.tails.Ready.{Ready}
use Rattle.expr_tails.specs.declared.states.Context.{Context}
use Rattle.expr_tails.specs.declared.states.Head.{Head}
use Rattle.expr_tails.specs.declared.states.HeadKind.TheVariants as head
use Rattle.expr_tails.specs.declared.states.Limit.{Limit}
use Rattle.expr_tails.specs.declared.states.Tail.TheVariants as tail
use Rattle.expr_tails.specs.declared.symbols.Word.{Word}
use Rattle.expr_tails.specs.declared.symbols.Word.TheVariants as word
use Rattle.expr_tails.specs.Ending as ending
use Rattle.expr_tails.specs.Tails.{ready, is_whole}
use Rattle.expr_laws.proofs.Decided.{behind-head}
use Rattle.expr_laws.proofs.Derived as derived
use Rattle.expr_laws.proofs.Fitting.{Fits, IsFresh}
use Rattle.expr_laws.proofs.Headed.{headed-shown}
use Rattle.expr_laws.proofs.Innermost.{context-innermost, semi-shown}
use Rattle.expr_laws.proofs.Shown.{expr_piece, operations_shown, operations_free, sign_shown, tail_shown, tail_free, free_in, head_start, kind_shown, head_free, heads_shown, context_with, context_shown}
use Rattle.pc_terms.specs.declared.problems.Span.{Span}
use Rattle.expr_laws.proofs.Reach.{else-shown, catch-shown, finally-shown, reach-waits}
use Rattle.expr_laws.proofs.Agreeing.{whole-shown}
use Rattle.source_grammar.specs.Placeholders.{trees_of, free_of}
use Rattle.tree_lower.specs.Keeping.{places_shown}
use Rattle.expr_tails.specs.declared.states.Begun.{Begun}

abbrev whole : Expr → Ready
whole e = ready (expr_piece e) (free_in (expr_built e))

abbrev head_shown : derived.Head → List derived.Head → Head
head_shown h hs = record { start = head_start h; kind = kind_shown h; free = head_free h; reach = reach_with (reach_of (heads_shown hs)) (kind_shown h) }

-- the context behind one head more, before which these heads stand
abbrev heads_alone : List derived.Head → Limit → derived.Context
heads_alone hs limit = derived.only_heads hs derived.Begin limit

-- ---- a head that does not take the word

abbrev is_do : derived.Head → Bool
is_do (derived.DoHead place) = true
is_do _ = false

pub record OfHead (h : derived.Head) (body : Expr) : Type 0 where
  pub expr : Expr
  pub is : derived.headed h body ≡ Some expr

of-head : (h : derived.Head) (body : Expr) → is_do h ≡ false → OfHead h body
of-head (derived.DoHead place) body e = cc
of-head (derived.Of heading) body e = record { expr = Headed heading body; is = refl }

passed : (w : Word) (h : derived.Head) (hs : List derived.Head) (body d : Expr) → derived.headed h body ≡ Some d → spec.takes (kind_shown h) w ≡ false
    → spec.taken (heads_shown (h ∷ hs)) w (whole body) ≡ spec.taken (heads_shown hs) w (whole d)
passed w h hs body d e t =
    ap (λ b. if b then found else spec.taken (heads_shown hs) w (ending.headed (head_shown h hs) (whole body))) t
    ∙ ap (spec.taken (heads_shown hs) w) (headed-shown h (reach_with (reach_of (heads_shown hs)) (kind_shown h)) body d e)
  where
    found : Taken
    found = record { head = Some (head_shown h hs); heads = heads_shown hs; body = whole body }

-- ---- `else`

abbrev behind_else : List derived.Head → Expr → Limit → Option Context
behind_else hs body limit = Some (spec.behind_taken (spec.taken (heads_shown hs) word.Else (whole body)) word.Else limit)

none-else : (semi : Option (Option Place)) (other : Place) (hs : List derived.Head) → derived.behind_else semi other hs None ≡ None
none-else semi other [] = refl
none-else semi other (h ∷ hs) = refl

else-next : (semi : Option Place) (other : Place) (limit : Limit) (h : derived.Head) (hs : List derived.Head) (body : Expr) → OfHead h body → spec.takes (kind_shown h) word.Else ≡ false
    → derived.behind_else (Some semi) other (h ∷ hs) (Some body) ≡ derived.behind_else (Some semi) other hs (derived.headed h body)
    → ((d : Expr) → behind_else hs d limit ≡ option_map context_shown (derived.with_heads limit (derived.behind_else (Some semi) other hs (Some d))))
    → behind_else (h ∷ hs) body limit ≡ option_map context_shown (derived.with_heads limit (derived.behind_else (Some semi) other (h ∷ hs) (Some body)))
else-next semi other limit h hs body there t next on =
    ap (λ r. Some (spec.behind_taken r word.Else limit)) (passed word.Else h hs body there.expr there.is t)
    ∙ on there.expr
    ∙ ap (λ o. option_map context_shown (derived.with_heads limit (derived.behind_else (Some semi) other hs o))) (sym there.is)
    ∙ ap (λ o. option_map context_shown (derived.with_heads limit o)) (sym next)

else-fold : (semi : Option Place) (other : Place) (limit : Limit) (hs : List derived.Head) (body : Expr) → derived.takes_else hs ≡ true
    → behind_else hs body limit ≡ option_map context_shown (derived.with_heads limit (derived.behind_else (Some semi) other hs (Some body)))
else-fold semi other limit [] body e = cc
else-fold semi other limit (derived.Of (IfThen place o test c) ∷ hs) body e =
    ap (λ k. Some (with_head (context_with (heads_alone hs limit) (free_in (expr_built test) ++ free_in (expr_built body)) tail.Begin) place.span.start (head.IfElse k)))
    (joined-kept ((expr_built test).tree ∷ []) (expr_built body).tree)
    ∙ ap Some (behind-head (heads_alone hs limit) (derived.Of (IfElse place o test c body semi other)) (free_in (expr_built test) ++ free_in (expr_built body)) tail.Begin refl refl)
else-fold semi other limit (derived.DoHead place ∷ hs) body e = cc
else-fold semi other limit (h ∷ hs) body e = else-next semi other limit h hs body (of-head h body refl) refl refl (λ d. else-fold semi other limit hs d e)

-- ---- `catch` and `finally`

pub record TryThere (w : Word) (hs : List derived.Head) (body : Expr) : Type 0 where
  pub found : derived.Tried
  pub is : derived.tried hs (Some body) ≡ Some found
  pub taken : spec.taken (heads_shown hs) w (whole body) ≡ record { head = Some (head_shown (derived.Of (TryAlone found.word)) found.heads); heads = heads_shown found.heads; body = whole found.body }

try-next : (w : Word) (h : derived.Head) (hs : List derived.Head) (body : Expr) → (o : OfHead h body) → spec.takes (kind_shown h) w ≡ false
    → derived.tried (h ∷ hs) (Some body) ≡ derived.tried hs (derived.headed h body) → TryThere w hs (o.expr) → TryThere w (h ∷ hs) body
try-next w h hs body o t next on = record {
  found = on.found;
  is = next ∙ ap (derived.tried hs) o.is ∙ on.is;
  taken = passed w h hs body o.expr o.is t ∙ on.taken;
}

try-there : (w : Word) (hs : List derived.Head) (body : Expr) → spec.is_of_try w ≡ true → spec.is_else w ≡ false → derived.takes_catch hs ≡ true → TryThere w hs body
try-there w [] body a b e = cc
try-there w (derived.Of (TryAlone place) ∷ hs) body a b e = record {
  found = record { word = place; body = body; heads = hs };
  is = refl;
  taken = ap (λ t. if t then first else rest) a;
} where
  first : Taken
  first = record { head = Some (head_shown (derived.Of (TryAlone place)) hs); heads = heads_shown hs; body = whole body }

  rest : Taken
  rest = spec.taken (heads_shown hs) w (ending.headed (head_shown (derived.Of (TryAlone place)) hs) (whole body))
try-there w (derived.DoHead place ∷ hs) body a b e = cc
try-there w (derived.Of (IfThen place o test c) ∷ hs) body a b e =
    (let there = of-head (derived.Of (IfThen place o test c)) body refl in try-next w (derived.Of (IfThen place o test c)) hs body there b refl (try-there w hs there.expr a b e))
try-there w (h ∷ hs) body a b e = (let there = of-head h body refl in try-next w h hs body there refl refl (try-there w hs there.expr a b e))

pub none-tried : (hs : List derived.Head) → derived.tried hs None ≡ None
none-tried [] = refl
none-tried (h ∷ hs) = refl

-- no `try` is open
not-tried : (hs : List derived.Head) (body : Expr) → derived.takes_catch hs ≡ false → derived.tried hs (Some body) ≡ None
not-tried [] body e = refl
not-tried (derived.Of (TryAlone place) ∷ hs) body e = cc
not-tried (derived.DoHead place ∷ hs) body e = none-tried hs
not-tried (h ∷ hs) body e =
    (let there = of-head h body refl in let next : derived.tried (h ∷ hs) (Some body) ≡ derived.tried hs (derived.headed h body) = refl in
    next ∙ ap (derived.tried hs) there.is ∙ not-tried hs there.expr e)

begun-there : (start : Place) (body : Expr) → spec.begun_by start.span.start (expr_piece body) ≡ record { start = start.span.start; kids = kept_all ((expr_built body).tree ∷ []) }
begun-there start body = ap (λ k. record { start = start.span.start; kids = k }) (alone-kept (expr_built body).tree)

catch-there : (p : Place) (limit : Limit) (hs : List derived.Head) (body : Expr) → derived.takes_catch hs ≡ true
    → Some (spec.behind_taken (spec.taken (heads_shown hs) word.Catch (whole body)) word.Catch limit) ≡ option_map context_shown (derived.caught p limit (derived.tried hs (Some body)))
catch-there p limit hs body e =
    let there = try-there word.Catch hs body refl refl e in
    let t = there.found in
    ap (λ r. Some (spec.behind_taken r word.Catch limit)) there.taken
    ∙ ap (λ b. Some (context_with (heads_alone t.heads limit) (free_in (expr_built t.body)) (tail.AtCatch b))) (begun-there t.word t.body)
    ∙ ap (λ o. option_map context_shown (derived.caught p limit o)) (sym there.is)

finally-there : (p : Place) (limit : Limit) (hs : List derived.Head) (body : Expr) → derived.takes_catch hs ≡ true
    → Some (spec.behind_taken (spec.taken (heads_shown hs) word.Finally (whole body)) word.Finally limit) ≡ option_map context_shown (derived.finished p limit (derived.tried hs (Some body)))
finally-there p limit hs body e =
    let there = try-there word.Finally hs body refl refl e in
    let t = there.found in
    ap (λ r. Some (spec.behind_taken r word.Finally limit)) there.taken
    ∙ ap (λ k. Some (with_head (context_with (heads_alone t.heads limit) (free_in (expr_built t.body)) tail.Begin) t.word.span.start (head.Finally k))) (alone-kept (expr_built t.body).tree)
    ∙ ap Some (behind-head (heads_alone t.heads limit) (derived.Of (TryFinally t.word t.body p)) (free_in (expr_built t.body)) tail.Begin refl refl)
    ∙ ap (λ o. option_map context_shown (derived.finished p limit o)) (sym there.is)

-- ---- the `while` of a `do`

pub record DoThere (hs : List derived.Head) (body : Expr) : Type 0 where
  pub found : derived.Tried
  pub is : derived.done hs (Some body) ≡ Some found
  pub taken : spec.taken (heads_shown hs) word.While (whole body) ≡ record { head = Some (head_shown (derived.DoHead found.word) found.heads); heads = heads_shown found.heads; body = whole found.body }

no-while : (h : Heading) → spec.takes (kind_shown (derived.Of h)) word.While ≡ false
no-while (Lambda head arrow) = refl
no-while _ = refl

do-there : (hs : List derived.Head) (body : Expr) → derived.waits hs ≡ true → DoThere hs body
do-there [] body e = cc
do-there (derived.DoHead place ∷ hs) body e = record { found = record { word = place; body = body; heads = hs }; is = refl; taken = refl }
do-there (derived.Of h ∷ hs) body e =
    (let rest = do-there hs (Headed h body) e in
    record { found = rest.found; is = rest.is; taken = passed word.While (derived.Of h) hs body (Headed h body) refl (no-while h) ∙ rest.taken })

until-there : (seps : Sep) (p : Place) (limit : Limit) (hs : List derived.Head) (body : Expr) → derived.waits hs ≡ true
    → Some (spec.behind_taken (spec.taken (heads_shown hs) word.While (whole body)) word.While limit) ≡ option_map context_shown (derived.until_at seps p limit (derived.done hs (Some body)))
until-there seps p limit hs body e =
    let there = do-there hs body e in
    let t = there.found in
    ap (λ r. Some (spec.behind_taken r word.While limit)) there.taken
    ∙ ap (λ b. Some (context_with (heads_alone t.heads limit) (free_in (expr_built t.body)) (tail.AtUntil b))) (begun-there t.word t.body)
    ∙ ap (λ o. option_map context_shown (derived.until_at seps p limit o)) (sym there.is)

-- ---- what stands before the word

abbrev read_at : derived.Context → Ready
read_at c = ending.innermost (operations_shown c.operations) (sign_shown c.sign) (tail_shown c.tail) (operations_free c.operations ++ tail_free c.tail)

-- ---- the words

both : (x y : Bool) → (x && y) ≡ true → (x ≡ true) × (y ≡ true)
both true true e = (refl, refl)
both true false e = cc
both false y e = cc

or-some : (z y : Option derived.Context) (a : Context) → Some a ≡ option_map context_shown z → Some a ≡ option_map context_shown (derived.or_else z y)
or-some None y a e = cc
or-some (Some c) y a e = e

-- where the reader takes the word the machine does, and else both go on as with a word of no head
settle : (t : Bool) (a : Context) (x : Option Context) (z y : Option derived.Context) → x ≡ option_map context_shown y
    → (t ≡ true → Some a ≡ option_map context_shown z) → (t ≡ false → z ≡ None) → (if t then Some a else x) ≡ option_map context_shown (derived.or_else z y)
settle true a x z y e taken left = or-some z y a (taken refl)
settle false a x z y e taken left = e ∙ ap (λ o. option_map context_shown (derived.or_else o y)) (sym (left refl))

if-true : {A : Type 0} (b : Bool) (x y : A) → b ≡ true → x ≡ (if b then x else y)
if-true b x y e = ap (λ t. if t then x else y) (sym e)

if-false : {A : Type 0} (b : Bool) (x y : A) → b ≡ false → (if b then x else y) ≡ y
if-false b x y e = ap (λ t. if t then x else y) e

whole-some : (c : derived.Context) (e : Expr) → derived.innermost c ≡ Some e → is_whole (tail_shown c.tail) ≡ true
whole-some c e f = whole-shown c ∙ ap derived.is_some f

whole-none : (c : derived.Context) → derived.innermost c ≡ None → is_whole (tail_shown c.tail) ≡ false
whole-none c f = whole-shown c ∙ ap derived.is_some f

and-right : (x y : Bool) → x ≡ true → (x && y) ≡ false → y ≡ false
and-right true y e f = f
and-right false y e f = cc

no-else : (other : Place) (hs : List derived.Head) (body : Expr) → derived.behind_else None other hs (Some body) ≡ None
no-else other [] body = refl
no-else other (h ∷ hs) body = refl

-- the fold from what was read, where this is whole
else-from : (semi : Option Place) (p : Place) (c : derived.Context) (body : Expr) → read_at c ≡ whole body → derived.takes_else c.heads ≡ true
    → Some (with_word (context_shown c) word.Else)
    ≡ option_map context_shown (if derived.takes_else c.heads then derived.with_heads c.limit (derived.behind_else (Some semi) p c.heads (Some body)) else None)
unfolding with_word
else-from semi p c body r t =
    ap (λ o. Some (spec.behind_taken (spec.taken (heads_shown c.heads) word.Else o) word.Else c.limit)) r
    ∙ else-fold semi p c.limit c.heads body t
    ∙ ap (option_map context_shown) (if-true (derived.takes_else c.heads) (derived.with_heads c.limit (derived.behind_else (Some semi) p c.heads (Some body))) None t)

else-yes : (c : derived.Context) (s : derived.Tail) (p : Place) → Fits (derived.at c s) → is_taken (context_shown (derived.at c s)) word.Else ≡ true
    → Some (with_word (context_shown (derived.at c s)) word.Else) ≡ option_map context_shown (derived.taken word.Else p (derived.at c s))
else-yes c (derived.AtSemi expr q []) p f e =
    else-from (Some q) p (derived.at c (derived.AtSemi expr q [])) expr (semi-shown c.operations c.sign expr q [] (f.alone refl)) (sym (else-shown c.heads) ∙ e)
else-yes c (derived.AtSemi expr q (r ∷ qs)) p f e = cc
else-yes c (derived.AtGuardSemi test q qs) p f e = cc
else-yes c s p f e = go (derived.innermost (derived.at c s)) refl (both (is_whole (tail_shown s)) _ e) where
  go : (o : Option Expr) → derived.innermost (derived.at c s) ≡ o → (is_whole (tail_shown s) ≡ true) × ((reach_of (heads_shown c.heads)).takes_else ≡ true)
      → Some (with_word (context_shown (derived.at c s)) word.Else)
      ≡ option_map context_shown (if derived.takes_else c.heads then derived.on_else p (derived.at c s) (derived.ended_before o) else None)
  go None g h = (let gone : true ≡ false = sym h.0 ∙ whole-none (derived.at c s) g in cc)
  go (Some d) g h = else-from None p (derived.at c s) d (context-innermost (derived.at c s) d f g) (sym (else-shown c.heads) ∙ h.1)

nothing : (b : Bool) (o : Option derived.Context) → o ≡ None → (if b then o else None) ≡ None
nothing true o e = e
nothing false o e = refl

-- what ended is whole, so that the word is not refused for it
not-whole : (c : derived.Context) (d : Expr) (r t : Bool) → r ≡ t → t ≡ true → derived.innermost c ≡ Some d → (is_whole (tail_shown c.tail) && r) ≡ false → ⊥
not-whole c d r t e f g h = (let gone : true ≡ false = sym (e ∙ f) ∙ and-right (is_whole (tail_shown c.tail)) r (whole-some c d g) h in cc)

else-none : (c : derived.Context) (p : Place) (o : Option Expr) (t : Bool) → derived.innermost c ≡ o → derived.takes_else c.heads ≡ t
    → (is_whole (tail_shown c.tail) && (reach_of (heads_shown c.heads)).takes_else) ≡ false → (if t then derived.on_else p c (derived.ended_before o) else None) ≡ None
else-none c p o false g h e = refl
else-none c p None true g h e = refl
else-none c p (Some d) true g h e = absurd (not-whole c d ((reach_of (heads_shown c.heads)).takes_else) (derived.takes_else c.heads) (else-shown c.heads) h g e)

else-no : (c : derived.Context) (s : derived.Tail) (p : Place) → is_taken (context_shown (derived.at c s)) word.Else ≡ false → derived.taken word.Else p (derived.at c s) ≡ None
else-no c (derived.AtSemi expr q []) p e = if-false (derived.takes_else c.heads) _ None (sym (else-shown c.heads) ∙ e)
else-no c (derived.AtSemi expr q (r ∷ qs)) p e = nothing (derived.takes_else c.heads) _ (ap (derived.with_heads c.limit) (no-else p c.heads expr))
else-no c s p e = else-none (derived.at c s) p (derived.innermost (derived.at c s)) (derived.takes_else c.heads) refl refl e

pub else-same : (c : derived.Context) (s : derived.Tail) (p : Place) (x : Option Context) (y : Option derived.Context) → Fits (derived.at c s) → x ≡ option_map context_shown y
    → (if is_taken (context_shown (derived.at c s)) word.Else then Some (with_word (context_shown (derived.at c s)) word.Else) else x)
    ≡ option_map context_shown (derived.or_else (derived.taken word.Else p (derived.at c s)) y)
else-same c s p x y f e =
    settle (is_taken (context_shown (derived.at c s)) word.Else) (with_word (context_shown (derived.at c s)) word.Else) x (derived.taken word.Else p (derived.at c s)) y e (else-yes c s p f) (else-no c s p)

-- `catch`

catch-yes : (c : derived.Context) (p : Place) → Fits c → is_taken (context_shown c) word.Catch ≡ true
    → Some (with_word (context_shown c) word.Catch) ≡ option_map context_shown (derived.taken word.Catch p c)
unfolding with_word
catch-yes c p f e = go (derived.innermost c) refl (both (is_whole (tail_shown c.tail)) ((reach_of (heads_shown c.heads)).takes_catch) e) where
  go : (o : Option Expr) → derived.innermost c ≡ o → (is_whole (tail_shown c.tail) ≡ true) × ((reach_of (heads_shown c.heads)).takes_catch ≡ true)
      → Some (spec.behind_taken (spec.taken (heads_shown c.heads) word.Catch (read_at c)) word.Catch c.limit)
      ≡ option_map context_shown (if derived.takes_catch c.heads then derived.caught p c.limit (derived.tried c.heads o) else None)
  go None g h = (let gone : true ≡ false = sym h.0 ∙ whole-none c g in cc)
  go (Some d) g h =
      let t : derived.takes_catch c.heads ≡ true = sym (catch-shown c.heads) ∙ h.1 in
      ap (λ r. Some (spec.behind_taken (spec.taken (heads_shown c.heads) word.Catch r) word.Catch c.limit)) (context-innermost c d f g)
      ∙ catch-there p c.limit c.heads d t
      ∙ ap (option_map context_shown) (if-true (derived.takes_catch c.heads) (derived.caught p c.limit (derived.tried c.heads (Some d))) None t)

catch-no : (c : derived.Context) (p : Place) → is_taken (context_shown c) word.Catch ≡ false → derived.taken word.Catch p c ≡ None
catch-no c p e = go (derived.innermost c) (derived.takes_catch c.heads) refl refl where
  go : (o : Option Expr) (t : Bool) → derived.innermost c ≡ o → derived.takes_catch c.heads ≡ t → (if t then derived.caught p c.limit (derived.tried c.heads o) else None) ≡ None
  go o false g h = refl
  go None true g h = ap (derived.caught p c.limit) (none-tried c.heads)
  go (Some d) true g h = absurd (not-whole c d ((reach_of (heads_shown c.heads)).takes_catch) (derived.takes_catch c.heads) (catch-shown c.heads) h g e)

pub catch-same : (c : derived.Context) (p : Place) (x : Option Context) (y : Option derived.Context) → Fits c → x ≡ option_map context_shown y
    → (if is_taken (context_shown c) word.Catch then Some (with_word (context_shown c) word.Catch) else x)
    ≡ option_map context_shown (derived.or_else (derived.taken word.Catch p c) y)
catch-same c p x y f e =
    settle (is_taken (context_shown c) word.Catch) (with_word (context_shown c) word.Catch) x (derived.taken word.Catch p c) y e (catch-yes c p f) (catch-no c p)

-- `finally`

-- where no cases stand before it
finally-yes : (c : derived.Context) (p : Place) → Fits c → (is_whole (tail_shown c.tail) && (reach_of (heads_shown c.heads)).takes_finally) ≡ true
    → Some (spec.behind_taken (spec.taken (heads_shown c.heads) word.Finally (read_at c)) word.Finally c.limit)
    ≡ option_map context_shown (derived.finished p c.limit (derived.tried c.heads (derived.innermost c)))
finally-yes c p f e = go (derived.innermost c) refl (both (is_whole (tail_shown c.tail)) ((reach_of (heads_shown c.heads)).takes_finally) e) where
  go : (o : Option Expr) → derived.innermost c ≡ o → (is_whole (tail_shown c.tail) ≡ true) × ((reach_of (heads_shown c.heads)).takes_finally ≡ true)
      → Some (spec.behind_taken (spec.taken (heads_shown c.heads) word.Finally (read_at c)) word.Finally c.limit)
      ≡ option_map context_shown (derived.finished p c.limit (derived.tried c.heads o))
  go None g h = (let gone : true ≡ false = sym h.0 ∙ whole-none c g in cc)
  go (Some d) g h =
      ap (λ r. Some (spec.behind_taken (spec.taken (heads_shown c.heads) word.Finally r) word.Finally c.limit)) (context-innermost c d f g)
      ∙ finally-there p c.limit c.heads d (sym (finally-shown c.heads) ∙ h.1)

finally-no : (c : derived.Context) (p : Place) → (is_whole (tail_shown c.tail) && (reach_of (heads_shown c.heads)).takes_finally) ≡ false
    → derived.finished p c.limit (derived.tried c.heads (derived.innermost c)) ≡ None
finally-no c p e = go (derived.innermost c) (derived.takes_catch c.heads) refl refl where
  go : (o : Option Expr) (t : Bool) → derived.innermost c ≡ o → derived.takes_catch c.heads ≡ t → derived.finished p c.limit (derived.tried c.heads o) ≡ None
  go None t g h = ap (derived.finished p c.limit) (none-tried c.heads)
  go (Some d) false g h = ap (derived.finished p c.limit) (not-tried c.heads d h)
  go (Some d) true g h = absurd (not-whole c d ((reach_of (heads_shown c.heads)).takes_finally) (derived.takes_catch c.heads) (finally-shown c.heads) h g e)

caught-there : (c : derived.Context) (place : Place) (body : Expr) (catch o : Place) (cases : Cases) (q p : Place) → Fits (derived.at c (derived.AtCaught place body catch o cases q))
    → Some (with_word (context_shown (derived.at c (derived.AtCaught place body catch o cases q))) word.Finally)
    ≡ option_map context_shown (derived.on_finally p (derived.AtCaught place body catch o cases q) (derived.at c (derived.AtCaught place body catch o cases q)))
unfolding with_word
caught-there c place body catch o cases q p f =
    ap (λ os. Some (spec.behind_finally (record { heads = heads_shown c.heads; free = operations_free os ++ free; operations = []; sign = None; tail = tail.Begin; limit = c.limit }) begun)) fresh.operations
    ∙ ap Some (behind-head (heads_alone c.heads c.limit) (derived.Of (TryCatchFinally place body catch o cases q p)) free tail.Begin refl refl)
  where
    fresh : IsFresh c.operations c.sign
    fresh = f.alone refl

    free : List Span
    free = free_in (expr_built body) ++ places_shown (free_of (cases_built cases))

    begun : Begun
    begun = record { start = place.span.start; kids = kept_all ((expr_built body).tree ∷ trees_of (cases_built cases)) }

pub finally-same : (c : derived.Context) (s : derived.Tail) (p : Place) (x : Option Context) (y : Option derived.Context) → Fits (derived.at c s) → x ≡ option_map context_shown y
    → (if is_taken (context_shown (derived.at c s)) word.Finally then Some (with_word (context_shown (derived.at c s)) word.Finally) else x)
    ≡ option_map context_shown (derived.or_else (derived.taken word.Finally p (derived.at c s)) y)
unfolding with_word
finally-same c (derived.AtCaught place body catch o cases q) p x y f e =
    or-some (derived.on_finally p (derived.AtCaught place body catch o cases q) (derived.at c (derived.AtCaught place body catch o cases q))) y _ (caught-there c place body catch o cases q p f)
finally-same c s p x y f e =
    settle (is_whole (tail_shown s) && (reach_of (heads_shown c.heads)).takes_finally) (spec.behind_taken (spec.taken (heads_shown c.heads) word.Finally (read_at (derived.at c s))) word.Finally c.limit) x
    (derived.finished p c.limit (derived.tried c.heads (derived.innermost (derived.at c s)))) y e (finally-yes (derived.at c s) p f) (finally-no (derived.at c s) p)

-- `while`

until-from : (seps : Sep) (p : Place) (c : derived.Context) (body : Expr) → read_at c ≡ whole body → derived.waits c.heads ≡ true
    → Some (with_word (context_shown c) word.While)
    ≡ option_map context_shown (if derived.waits c.heads then derived.until_at seps p c.limit (derived.done c.heads (Some body)) else None)
unfolding with_word
until-from seps p c body r t =
    ap (λ o. Some (spec.behind_taken (spec.taken (heads_shown c.heads) word.While o) word.While c.limit)) r
    ∙ until-there seps p c.limit c.heads body t
    ∙ ap (option_map context_shown) (if-true (derived.waits c.heads) (derived.until_at seps p c.limit (derived.done c.heads (Some body))) None t)

while-yes : (c : derived.Context) (s : derived.Tail) (p : Place) → Fits (derived.at c s) → is_taken (context_shown (derived.at c s)) word.While ≡ true
    → Some (with_word (context_shown (derived.at c s)) word.While) ≡ option_map context_shown (derived.taken word.While p (derived.at c s))
while-yes c (derived.AtSemi expr q qs) p f e =
    until-from (q ∷ qs) p (derived.at c (derived.AtSemi expr q qs)) expr (semi-shown c.operations c.sign expr q qs (f.alone refl)) (sym (reach-waits c.heads) ∙ e)
while-yes c (derived.AtGuardSemi test q qs) p f e = (let guard = f.guard (f.semi refl) in let gone : true ≡ false = sym e ∙ ap (λ hs. (reach_of (heads_shown hs)).waits) guard.0 in cc)
while-yes c s p f e = go (derived.innermost (derived.at c s)) refl (both (is_whole (tail_shown s) || false) ((reach_of (heads_shown c.heads)).waits) e) where
  go : (o : Option Expr) → derived.innermost (derived.at c s) ≡ o → ((is_whole (tail_shown s) || false) ≡ true) × ((reach_of (heads_shown c.heads)).waits ≡ true)
      → Some (with_word (context_shown (derived.at c s)) word.While)
      ≡ option_map context_shown (if derived.waits c.heads then derived.on_until p (derived.at c s) (derived.ended_before o) else None)
  go None g h = (let gone : true ≡ false = sym h.0 ∙ ap (λ b. b || false) (whole-none (derived.at c s) g) in cc)
  go (Some d) g h = until-from [] p (derived.at c s) d (context-innermost (derived.at c s) d f g) (sym (reach-waits c.heads) ∙ h.1)

or-nothing : (b : Bool) → (b || false) ≡ b
or-nothing true = refl
or-nothing false = refl

until-none : (c : derived.Context) (p : Place) (o : Option Expr) (t : Bool) → derived.innermost c ≡ o → derived.waits c.heads ≡ t
    → ((is_whole (tail_shown c.tail) || false) && (reach_of (heads_shown c.heads)).waits) ≡ false → (if t then derived.on_until p c (derived.ended_before o) else None) ≡ None
until-none c p o false g h e = refl
until-none c p None true g h e = refl
until-none c p (Some d) true g h e =
    absurd (not-whole c d ((reach_of (heads_shown c.heads)).waits) (derived.waits c.heads) (reach-waits c.heads) h g
    (ap (λ b. b && (reach_of (heads_shown c.heads)).waits) (sym (or-nothing (is_whole (tail_shown c.tail)))) ∙ e))

while-no : (c : derived.Context) (s : derived.Tail) (p : Place) → is_taken (context_shown (derived.at c s)) word.While ≡ false → derived.taken word.While p (derived.at c s) ≡ None
while-no c (derived.AtSemi expr q qs) p e = if-false (derived.waits c.heads) _ None (sym (reach-waits c.heads) ∙ e)
while-no c (derived.AtGuardSemi test q qs) p e = nothing (derived.waits c.heads) None refl
while-no c s p e = until-none (derived.at c s) p (derived.innermost (derived.at c s)) (derived.waits c.heads) refl refl e

pub while-same : (c : derived.Context) (s : derived.Tail) (p : Place) (x : Option Context) (y : Option derived.Context) → Fits (derived.at c s) → x ≡ option_map context_shown y
    → (if is_taken (context_shown (derived.at c s)) word.While then Some (with_word (context_shown (derived.at c s)) word.While) else x)
    ≡ option_map context_shown (derived.or_else (derived.taken word.While p (derived.at c s)) y)
while-same c s p x y f e =
    settle (is_taken (context_shown (derived.at c s)) word.While) (with_word (context_shown (derived.at c s)) word.While) x (derived.taken word.While p (derived.at c s)) y e (while-yes c s p f) (while-no c s p)
