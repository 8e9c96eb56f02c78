-- The words and the `;` that stand behind an expression: what the machine makes of them there.
use Rattle.std.proofs.Common.{◌≡◌, Bool, true, false, ◌&&◌, ◌||◌, if◌then◌else◌, List, [], ◌∷◌, ◌++◌, Option, Some, None, codes, refl, ap, sym, ◌∙◌, append_assoc, append-nil}
use Rattle.std.specs.Prelude.{not}
use Rattle.scan_tokens.specs.declared.tokens.Newline.{Newline}
use Rattle.scan_tokens.specs.declared.tokens.TokenKind.TheVariants as kind
use Rattle.source_grammar.specs.Expressions.{PrefixSign, Sep, Expr, ReturnAlone, TryCatch, TryFinally, IfThen, IfElse, TryAlone}
use Rattle.source_grammar.specs.ExpressionRules as rules
use Rattle.source_grammar.specs.ExpressionTokens.{sep_tokens}
use Rattle.source_grammar.specs.Lexemes.{Place, word_at, semicolon}
use Rattle.parse_patterns.specs.Steps.{is_no}
use Rattle.expr_tails.specs.declared.states.Limit.TheVariants as limit
use Rattle.expr_tails.specs.declared.symbols.Symbol.TheVariants as symbol
use Rattle.expr_tails.specs.declared.symbols.Word.{Word}
use Rattle.expr_tails.specs.declared.symbols.Word.TheVariants as word
use Rattle.expr_tails.specs.Symbols.{symbol_of, is_prim_word, is_head_word}
use Rattle.expr_laws.proofs.Agreeing.{and-false}
use Rattle.expr_laws.proofs.Behind.{Quiet, quiet-settles}
use Rattle.expr_laws.proofs.Derived as derived
use Rattle.expr_laws.proofs.Derived.{OneToken, Operation, Tail, Begin, AtSign, AtDot, AtReturn, AtSemi, AtGuardSemi, AtCatch, AtCaught, AtUntil, Head, Of, DoHead, Context, Frame, Before, Tried, prim_at, innermost, innermost_at, chain_of, chain_at, is_some, is_guard_limit, takes_else, takes_catch, waits, at, state, in_state, only_heads, ended_before, before_word, one_of, behind_else, tried, done, with_heads, on_else, caught, finished, on_finally, until_at, on_until, or_else, taken, in_gens, semi_behind, guard_semi, semi_at, on_semicolon, moved, step}
use Rattle.expr_laws.proofs.InfixAlong.{parts}
use Rattle.expr_laws.proofs.Items.{tokens}
use Rattle.expr_laws.proofs.Moving.{Leads, leads-none, leads-on, leads-to, token-step}
use Rattle.expr_laws.proofs.Seen.{AWord, ASemicolon, word_text, seen-word, seen-semicolon}
use Rattle.expr_laws.proofs.Settling.{settled_tail, settled, settled-innermost, NoType, Ends, stays-out, token-moves, settled-plain, semicolon-step}
use Rattle.expr_laws.proofs.SpineAlong.{heads_of, last_of, ExprRead, end_of, else-takes, catch-takes, heads-wait, else-past, catch-past, done-past}

-- where an expression may begin, within these heads
abbrev pub start : List Head → Context
start hs = parts hs [] None limit.Expr Begin

-- ---- the words with which nothing begins

ends-of : (w : Word) (p : Place) → symbol_of kind.Word (word_text w) ≡ symbol.Word w → is_prim_word w ≡ false → (is_prim_word w || is_head_word w) ≡ false → NoType (word_at (word_text w) p)
    → Ends (word_at (word_text w) p) (AWord w p)
ends-of w p s a b n = record { kind = symbol.Word w; is = s; sees = seen-word w p; no_id = refl; no_prim = a; no_expr = b; no_pattern = refl; no_type = n }

pub else-ends : (p : Place) → Ends (word_at (codes "else") p) (AWord word.Else p)
unfolding symbol_of
else-ends p = ends-of word.Else p refl refl refl (λ t e. refl)

pub catch-ends : (p : Place) → Ends (word_at (codes "catch") p) (AWord word.Catch p)
unfolding symbol_of
catch-ends p = ends-of word.Catch p refl refl refl (λ t e. refl)

pub finally-ends : (p : Place) → Ends (word_at (codes "finally") p) (AWord word.Finally p)
unfolding symbol_of
finally-ends p = ends-of word.Finally p refl refl refl (λ t e. refl)

-- ---- where an expression has ended

pub end-some : {e : Expr} {hs : List Head} (r : ExprRead e hs) → is_some (innermost (end_of r)) ≡ true
end-some r = ap is_some r.there

-- the innermost expression, as the next token finds it
pub end-there : {e : Expr} {hs : List Head} (r : ExprRead e hs) → innermost (settled (end_of r)) ≡ Some (last_of e)
end-there {e} {hs} r = settled-innermost (end_of r) r.tail (last_of e) r.there

abbrev pub before : Expr → Sep → Before
before e seps = record { expr = e; seps = seps }

pub before-is : (c : Context) (s : Tail) (e : Expr) → innermost (at c s) ≡ Some e → before_word s (at c s) ≡ Some (before e [])
before-is c (AtSemi expr p ps) e h = cc
before-is c _ e h = ap ended_before h

-- ---- `else`

pub else-moved : (w o k p : Place) (test first : Expr) (semi : Option Place) (hs : List Head) (os : List Operation) (sign : Option PrefixSign) (s : Tail) (fs : List Frame) (seps : Sep)
    → rules.takes_else first ≡ false
    → before_word s (parts (heads_of first (Of (IfThen w o test k) ∷ hs)) os sign limit.Expr s) ≡ Some (before (last_of first) seps) → one_of seps ≡ Some semi
    → moved (AWord word.Else p) fs (parts (heads_of first (Of (IfThen w o test k) ∷ hs)) os sign limit.Expr s) ≡ Some (state fs (start (Of (IfElse w o test k first semi p) ∷ hs)))
else-moved w o k p test first semi hs os sign s fs seps t b one =
    let heads : List Head = Of (IfThen w o test k) ∷ hs in
    let c : Context = parts (heads_of first heads) os sign limit.Expr s in
    ap (λ x. in_state fs (or_else x (derived.word_at word.Else p c)))
    (ap (λ x. if x then on_else p c (before_word s c) else None) (else-takes first heads refl)
    ∙ ap (on_else p c) b
    ∙ ap (λ x. with_heads limit.Expr (behind_else x p (heads_of first heads) (Some (last_of first)))) one
    ∙ ap (with_heads limit.Expr) (else-past first heads semi p t))

-- ---- `catch` and `finally`

pub catch-moved : (w p : Place) (body : Expr) (hs : List Head) (os : List Operation) (sign : Option PrefixSign) (s : Tail) (fs : List Frame) → rules.takes_catch body ≡ false
    → innermost (parts (heads_of body (Of (TryAlone w) ∷ hs)) os sign limit.Expr s) ≡ Some (last_of body)
    → moved (AWord word.Catch p) fs (parts (heads_of body (Of (TryAlone w) ∷ hs)) os sign limit.Expr s) ≡ Some (state fs (parts hs [] None limit.Expr (AtCatch w body p)))
catch-moved w p body hs os sign s fs t h =
    let heads : List Head = Of (TryAlone w) ∷ hs in
    let c : Context = parts (heads_of body heads) os sign limit.Expr s in
    ap (λ x. in_state fs (or_else x (derived.word_at word.Catch p c)))
    (ap (λ x. if x then caught p limit.Expr (tried (heads_of body heads) (innermost c)) else None) (catch-takes body heads refl)
    ∙ ap (λ x. caught p limit.Expr (tried (heads_of body heads) x)) h
    ∙ ap (caught p limit.Expr) (catch-past body heads t))

on-finally-is : (p : Place) (s : Tail) (c : Context) (e : Expr) → innermost (at c s) ≡ Some e → rules.takes_finally e ≡ false
    → on_finally p s (at c s) ≡ finished p c.limit (tried c.heads (innermost (at c s)))
on-finally-is p (AtCaught word body catch o cases k) c e h t =
    absurd (let same : TryCatch word body catch o cases k ≡ e = cc in let no : true ≡ false = ap rules.takes_finally same ∙ t in cc)
on-finally-is p _ c e h t = refl

pub finally-moved : (w p : Place) (body : Expr) (hs : List Head) (os : List Operation) (sign : Option PrefixSign) (s : Tail) (fs : List Frame)
    → rules.takes_catch body ≡ false → rules.takes_finally (last_of body) ≡ false
    → innermost (parts (heads_of body (Of (TryAlone w) ∷ hs)) os sign limit.Expr s) ≡ Some (last_of body)
    → moved (AWord word.Finally p) fs (parts (heads_of body (Of (TryAlone w) ∷ hs)) os sign limit.Expr s) ≡ Some (state fs (start (Of (TryFinally w body p) ∷ hs)))
finally-moved w p body hs os sign s fs t l h =
    let heads : List Head = Of (TryAlone w) ∷ hs in
    let c : Context = parts (heads_of body heads) os sign limit.Expr s in
    ap (λ x. in_state fs (or_else x (derived.word_at word.Finally p c)))
    (on-finally-is p s c (last_of body) h l
    ∙ ap (λ x. finished p limit.Expr (tried (heads_of body heads) x)) h
    ∙ ap (finished p limit.Expr) (catch-past body heads t))

-- ---- `while`

pub while-moved : (w p : Place) (body : Expr) (hs : List Head) (os : List Operation) (sign : Option PrefixSign) (s : Tail) (fs : List Frame) (seps : Sep)
    → before_word s (parts (heads_of body (DoHead w ∷ hs)) os sign limit.Expr s) ≡ Some (before (last_of body) seps)
    → moved (AWord word.While p) fs (parts (heads_of body (DoHead w ∷ hs)) os sign limit.Expr s) ≡ Some (state fs (parts hs [] None limit.Expr (AtUntil w body seps p)))
while-moved w p body hs os sign s fs seps b =
    let heads : List Head = DoHead w ∷ hs in
    let c : Context = parts (heads_of body heads) os sign limit.Expr s in
    ap (λ x. in_state fs (or_else x (derived.word_at word.While p c)))
    (ap (λ x. if x then on_until p c (before_word s c) else None) (heads-wait body heads)
    ∙ ap (on_until p c) b
    ∙ ap (until_at seps p limit.Expr) (done-past body heads))

-- a word that begins an expression does not begin one behind another
pub quiet-word : (w : Word) (n : Newline) (s : Tail) (os : List Operation) (sign : Option PrefixSign) (e : Expr) → is_prim_word w ≡ false
    → innermost_at s (chain_of os sign (prim_at s)) ≡ Some e → (rules.takes_operand e ≡ true → is_no n ≡ false) → Quiet s (symbol.Word w) n
quiet-word w n (AtSign id) os sign e p h k = ap (λ b. is_no n && b) p ∙ and-false (is_no n)
quiet-word w n (AtDot prim point) os sign e p h k = refl
quiet-word w n (AtReturn v) os sign e p h k = (let same : ReturnAlone v ≡ e = cc in ap (λ b. b && (is_prim_word w || is_head_word w)) (k (ap rules.takes_operand (sym same))))
quiet-word w n _ os sign e p h k = tt

pub word-step : (w : Word) (p : Place) (fs : List Frame) (c : Context) → symbol_of kind.Word (word_text w) ≡ symbol.Word w → NoType (word_at (word_text w) p) → is_some (innermost c) ≡ true
    → Quiet c.tail (symbol.Word w) p.before → step (state fs c) (OneToken (word_at (word_text w) p)) ≡ moved (AWord w p) fs (settled c)
word-step w p fs c s n h q =
    token-step (word_at (word_text w) p) (AWord w p) (symbol.Word w) fs c (settled c) (stays-out (word_at (word_text w) p) n c c.tail h) (seen-word w p) s (quiet-settles c c.tail (symbol.Word w) p.before q)
    ∙ token-moves (settled_tail c.tail) (AWord w p) (word_at (word_text w) p) fs (settled c) (settled-plain c c.tail h) refl

-- ---- semicolons

pub semi-first : (p : Place) (many : Bool) (c : Context) (s : Tail) (e : Expr) → innermost (at c s) ≡ Some e → is_guard_limit c.limit ≡ false
    → semi_at p many s (at c s) ≡ Some (only_heads c.heads (AtSemi e p []) c.limit)
semi-first p many c (AtSemi expr q qs) e h g = cc
semi-first p many c (AtGuardSemi test q qs) e h g = cc
semi-first p many c s e h g = ap (λ b. if b then guard_semi p (chain_at (at c s)) else semi_behind p c.limit c.heads (innermost (at c s))) g ∙ ap (semi_behind p c.limit c.heads) h

-- before `else` one of them is taken
pub semi-before-else : (p : Place) (fs : List Frame) (c : Context) (o : Option Context) → semi_at p true c.tail c ≡ o → semi_at p false c.tail c ≡ o → takes_else c.heads ≡ true → on_semicolon p fs c ≡ o
semi-before-else p fs c o a b t = go (in_gens fs && not (waits c.heads)) (waits c.heads) where
  go : (x y : Bool) → (if x then semi_at p true c.tail c else (if y then semi_at p true c.tail c else (if takes_else c.heads then semi_at p false c.tail c else None))) ≡ o
  go true y = a
  go false true = a
  go false false = ap (λ z. if z then semi_at p false c.tail c else None) t ∙ b

-- before the `while` of a `do`
pub semi-waiting : (p : Place) (fs : List Frame) (c : Context) → waits c.heads ≡ true → on_semicolon p fs c ≡ semi_at p true c.tail c
semi-waiting p fs c w = go (in_gens fs && not (waits c.heads)) ∙ ap (λ y. if y then semi_at p true c.tail c else (if takes_else c.heads then semi_at p false c.tail c else None)) w where
  go : (x : Bool) → (if x then semi_at p true c.tail c else (if waits c.heads then semi_at p true c.tail c else (if takes_else c.heads then semi_at p false c.tail c else None)))
      ≡ (if waits c.heads then semi_at p true c.tail c else (if takes_else c.heads then semi_at p false c.tail c else None))
  go true = sym (ap (λ y. if y then semi_at p true c.tail c else (if takes_else c.heads then semi_at p false c.tail c else None)) w)
  go false = refl

-- between generators
pub semi-in-gens : (p : Place) (fs : List Frame) (c : Context) → in_gens fs ≡ true → waits c.heads ≡ false → on_semicolon p fs c ≡ semi_at p true c.tail c
semi-in-gens p fs c g w =
    ap (λ x. if x && not (waits c.heads) then semi_at p true c.tail c else (if waits c.heads then semi_at p true c.tail c else (if takes_else c.heads then semi_at p false c.tail c else None))) g
    ∙ ap (λ x. if not x then semi_at p true c.tail c else (if waits c.heads then semi_at p true c.tail c else (if takes_else c.heads then semi_at p false c.tail c else None))) w

-- behind the first of them
abbrev pub semi : List Head → Expr → Place → List Place → Context
semi hs e p ps = only_heads hs (AtSemi e p ps) limit.Expr

pub behind-semi : (q : Place) (hs : List Head) (e : Expr) (p : Place) (ps : List Place) (fs : List Frame)
    → step (state fs (semi hs e p ps)) (OneToken (semicolon q)) ≡ in_state fs (on_semicolon q fs (semi hs e p ps))
behind-semi q hs e p ps fs = token-step (semicolon q) (ASemicolon q) (symbol_of (semicolon q).kind (semicolon q).word) fs (semi hs e p ps) (semi hs e p ps) refl (seen-semicolon q) refl refl

pub word-behind-semi : (w : Word) (q : Place) (hs : List Head) (e : Expr) (p : Place) (ps : List Place) (fs : List Frame)
    → step (state fs (semi hs e p ps)) (OneToken (word_at (word_text w) q)) ≡ moved (AWord w q) fs (semi hs e p ps)
word-behind-semi w q hs e p ps fs =
    token-step (word_at (word_text w) q) (AWord w q) (symbol_of kind.Word (word_text w)) fs (semi hs e p ps) (semi hs e p ps) refl (seen-word w q) refl refl

-- any number of them
pub seps-along : (to : List Place → Context) (fs : List Frame) → ((q : Place) (rs : List Place) → step (state fs (to rs)) (OneToken (semicolon q)) ≡ Some (state fs (to (rs ++ q ∷ []))))
    → (ps qs : List Place) → Leads (tokens (sep_tokens ps)) (state fs (to qs)) (state fs (to (qs ++ ps)))
seps-along to fs k [] qs = leads-to [] _ _ _ (ap (λ rs. state fs (to rs)) (sym (append-nil qs))) (leads-none _)
seps-along to fs k (p ∷ ps) qs =
    leads-on (OneToken (semicolon p)) _ _ (state fs (to (qs ++ p ∷ []))) _ (k p qs)
    (leads-to (tokens (sep_tokens ps)) _ _ _ (ap (λ rs. state fs (to rs)) (append_assoc qs (p ∷ []) ps)) (seps-along to fs k ps (qs ++ p ∷ [])))

-- those before the `while` of a `do`
pub waiting-seps : (p : Place) (ps : List Place) (e : Expr) (hs : List Head) (fs : List Frame) (r : ExprRead e hs) → waits hs ≡ true
    → Leads (tokens (sep_tokens (p ∷ ps))) (state fs (end_of r)) (state fs (semi (heads_of e hs) (last_of e) p ps))
waiting-seps p ps e hs fs r w =
    let heads = heads_of e hs in
    let waiting : waits heads ≡ true = heads-wait e hs ∙ w in
    leads-on (OneToken (semicolon p)) _ _ (state fs (semi heads (last_of e) p [])) _
    (semicolon-step p fs (end_of r) (end-some r)
    ∙ ap (in_state fs) (semi-waiting p fs (settled (end_of r)) waiting ∙ semi-first p true (end_of r) (settled_tail r.tail) (last_of e) (end-there r) refl))
    (seps-along (semi heads (last_of e) p) fs
    (λ q rs. behind-semi q heads (last_of e) p rs fs ∙ ap (in_state fs) (semi-waiting q fs (semi heads (last_of e) p rs) waiting)) ps [])
