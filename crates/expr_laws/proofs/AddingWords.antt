-- What was read in a context is the items of the derivations in it, where a head takes a word, behind a `;`, behind braces, and where the next item decides what a tail is.
use Rattle.std.proofs.Common.{◌≡◌, Bool, true, false, ◌&&◌, if◌then◌else◌, List, [], ◌∷◌, ◌++◌, Option, Some, None, codes, refl, ap, sym, ◌∙◌, append_assoc, append-nil}
use Rattle.std.specs.Prelude.{not}
use Rattle.std.specs.Str.{bytes_eq}
use Rattle.std.proofs.lemmas.Slice.Eq.{bytes_eq-Decides}
use Rattle.scan_tokens.specs.declared.tokens.Newline.{Newline}
use Rattle.scan_tokens.specs.declared.tokens.TokenKind.TheVariants as kind
use Rattle.scan_tokens.specs.Words.{Bytes}
use Rattle.expr_tails.specs.declared.states.Limit.{Limit}
use Rattle.expr_tails.specs.declared.states.Limit.TheVariants as limit
use Rattle.expr_tails.specs.declared.symbols.Symbol.{Symbol}
use Rattle.expr_tails.specs.declared.symbols.Word.{Word}
use Rattle.expr_tails.specs.declared.symbols.Word.TheVariants as word
use Rattle.parse_parts.proofs.Derived as types
use Rattle.parse_parts.proofs.Seen as type_seen
use Rattle.parse_parts.proofs.Sound as types_sound
use Rattle.parse_parts.proofs.Sound.{tokens_in as type_tokens_in}
use Rattle.parse_patterns.proofs.SimpleTypes.{goes, leaves}
use Rattle.source_grammar.specs.Lexemes as lexemes
use Rattle.source_grammar.specs.Lexemes.{semicolon}
use Rattle.source_grammar.specs.Expressions.{Args, Bang, BlockArg, BlockPrim, CasesArg, CasesPrim, Expr, ForCurly, Headed, IfElse, IfThen, Infix, MatchExpr, Minus, NamePrim, NewWith, Plus, PrefixSign, Prim, ReturnOf, SelectHole, Sep, Tilde, TryAlone}
use Rattle.source_grammar.specs.ExpressionRules.{is_prefix_id}
use Rattle.source_grammar.specs.ExpressionTokens.{optional_semicolon, sep_tokens, sign_token}
use Rattle.source_grammar.specs.Lexemes.{close_round, colon, dot, Id, id_token, Lexeme, open_round, open_square, Place}
use Rattle.source_grammar.specs.Newlines.{is_near}
use Rattle.source_grammar.specs.Types.{type_tokens, WrittenType}
use Rattle.parse_patterns.specs.Steps.{is_no}
use Rattle.expr_tails.specs.Symbols.{begins_expr, begins_prim}
use Rattle.expr_laws.proofs.Derived.{arg_of, as_prim, at, at_some, AtAsker, AtCall, AtCatch, AtCaught, AtDot, AtEnded, AtGuardSemi, AtMatch, AtName, AtNew, AtPrim, AtReturn, AtSemi, AtSign, Before, before_word, Begin, behind_else, behind_pair, behind_receiver, BlockPair, called, CasesPair, caught, chain_at, Context, decided_at, decided_pair, DoHead, done, Dotted, dotted_of, ended_before, EnumsPair, finished, ForAsker, Frame, goes_on, guard_semi, Head, in_gens, in_type, innermost, InNew, InTyped, InTypes, is_guard_limit, is_id, is_number, is_param_limit, Item, may_stand, new_tail, new_type, new_with, Of, on_else, on_finally, on_semicolon, on_until, one_of, OneToken, prim_at, prim_of, receiver, semi_at, semi_behind, sign_decided, sign_of, sign_receiver, Tail, tail_behind, taken, takes_catch, takes_else, tried, Tried, type_of, typed_type, types_type, until_at, waits, with_head, with_heads, with_sign}
use Rattle.expr_laws.proofs.Items.{args_items, expr_items, heading_items, infix_items, prim_items, tokens}
use Rattle.expr_laws.proofs.Lasting.{and-left}
use Rattle.expr_laws.proofs.Moving.{tokens-append}
use Rattle.expr_laws.proofs.PartsRead.{chain-read, dotted-tokens, innermost-read, prim-read}
use Rattle.expr_laws.proofs.Read.{context_items, heads_items, operations_items, sign_items, tail_items, typed_of_items}
use Rattle.expr_laws.proofs.FramesSound.{receiver-prim}
use Rattle.expr_laws.proofs.Fitting.{Fits, IsFresh, stands_alone}
use Rattle.expr_laws.proofs.Seen.{word_text}
use Rattle.expr_laws.proofs.Adding.{fresh-items, Grows, grows-if, grows-none, grows-some, head-grows, MinusAt, tail-grows}
use Rattle.expr_laws.proofs.TypesRead.{typed-tokens}
use Rattle.expr_laws.proofs.Taking.{none-tried}

-- ---- words that a head takes

-- the innermost expression, behind the heads
innermost-context : (c : Context) (d : Expr) → Fits c → innermost c ≡ Some d → context_items c ≡ heads_items c.heads ++ expr_items d
innermost-context c d f e = sym (ap (λ is. heads_items c.heads ++ is) (innermost-read c.operations c.sign c.tail d f.alone e))

before-read : (c : Context) (b : Before) → Fits c → before_word c.tail c ≡ Some b → context_items c ≡ heads_items c.heads ++ (expr_items b.expr ++ tokens (sep_tokens b.seps))
before-read c b f e = go c.tail refl e where
  by : (o : Option Expr) → innermost c ≡ o → ended_before o ≡ Some b → context_items c ≡ heads_items c.heads ++ (expr_items b.expr ++ tokens (sep_tokens b.seps))
  by None g h = cc
  by (Some d) g h =
      let found : Before = record { expr = d; seps = [] } in
      let same : found ≡ b = cc in
      innermost-context c d f g ∙ ap (λ is. heads_items c.heads ++ is) (sym (append-nil (expr_items d))) ∙ ap (λ k. heads_items c.heads ++ (expr_items k.expr ++ tokens (sep_tokens k.seps))) same

  go : (s : Tail) → c.tail ≡ s → before_word s c ≡ Some b → context_items c ≡ heads_items c.heads ++ (expr_items b.expr ++ tokens (sep_tokens b.seps))
  go (AtSemi expr p ps) g h =
      let found : Before = record { expr = expr; seps = p ∷ ps } in
      let same : found ≡ b = cc in
      ap (λ is. heads_items c.heads ++ is) (fresh-items c (tail_items c.tail) (f.alone (ap stands_alone g)) ∙ ap tail_items g)
      ∙ ap (λ k. heads_items c.heads ++ (expr_items k.expr ++ tokens (sep_tokens k.seps))) same
  go _ g h = by (innermost c) refl h

none-else : (semi : Option (Option Place)) (other : Place) (hs : List Head) → behind_else semi other hs None ≡ None
none-else semi other [] = refl
none-else semi other (h ∷ hs) = refl

abbrev else_items : Option Place → Place → List Item
else_items semi other = tokens (optional_semicolon semi) ++ OneToken (lexemes.word_at (codes "else") other) ∷ []

else-heads : (semi : Option Place) (other : Place) (hs gs : List Head) (body : Expr) → behind_else (Some semi) other hs (Some body) ≡ Some gs → heads_items gs ≡ heads_items hs ++ (expr_items body ++ else_items semi other)
else-heads semi other [] gs body e = cc
else-heads semi other (Of (IfThen place o test c) ∷ hs) gs body e =
    let found : List Head = Of (IfElse place o test c body semi other) ∷ hs in
    let same : found ≡ gs = cc in
    ap heads_items (sym same) ∙ go (heads_items hs) (expr_items test) (expr_items body) (tokens (optional_semicolon semi))
  where
    go : (a t b s : List Item)
        → a ++ OneToken (lexemes.word_at (codes "if") place) ∷ OneToken (open_round o) ∷ (t ++ OneToken (close_round c) ∷ ((b ++ s) ++ OneToken (lexemes.word_at (codes "else") other) ∷ []))
        ≡ (a ++ OneToken (lexemes.word_at (codes "if") place) ∷ OneToken (open_round o) ∷ (t ++ OneToken (close_round c) ∷ [])) ++ (b ++ (s ++ OneToken (lexemes.word_at (codes "else") other) ∷ []))
    go a t b s = simp append_assoc
else-heads semi other (DoHead place ∷ hs) gs body e = (let gone : None ≡ Some gs = sym (none-else (Some semi) other hs) ∙ e in cc)
else-heads semi other (Of h ∷ hs) gs body e =
    else-heads semi other hs gs (Headed h body) e
    ∙ ap (λ is. heads_items hs ++ is) (append_assoc (heading_items h) (expr_items body) (else_items semi other))
    ∙ sym (append_assoc (heads_items hs) (heading_items h) (expr_items body ++ else_items semi other))

sep-one : (seps : Sep) (semi : Option Place) → one_of seps ≡ Some semi → optional_semicolon semi ≡ sep_tokens seps
sep-one [] semi e = (let same : None ≡ semi = cc in ap optional_semicolon (sym same))
sep-one (p ∷ []) semi e = (let same : Some p ≡ semi = cc in ap optional_semicolon (sym same))
sep-one (p ∷ q ∷ ps) semi e = cc

no-else : (other : Place) (hs : List Head) (body : Expr) → behind_else None other hs (Some body) ≡ None
no-else other [] body = refl
no-else other (h ∷ hs) body = refl

else-grows : (p : Place) (c : Context) (v : Option Before) → Fits c → before_word c.tail c ≡ v → Grows c (on_else p c v) (OneToken (lexemes.word_at (codes "else") p))
else-grows p c None f e = grows-none c _
else-grows p c (Some b) f e = go (one_of b.seps) refl where
  to : (semi : Option Place) (v : Option (List Head)) → one_of b.seps ≡ Some semi → behind_else (Some semi) p c.heads (Some b.expr) ≡ v → Grows c (with_heads c.limit v) (OneToken (lexemes.word_at (codes "else") p))
  to semi None g h = grows-none c _
  to semi (Some gs) g h = grows-some c _ _
      (append-nil (heads_items gs) ∙ else-heads semi p c.heads gs b.expr h
      ∙ ap (λ xs. heads_items c.heads ++ (expr_items b.expr ++ (tokens xs ++ OneToken (lexemes.word_at (codes "else") p) ∷ []))) (sep-one b.seps semi g)
      ∙ again (heads_items c.heads) (expr_items b.expr) (tokens (sep_tokens b.seps))
      ∙ ap (λ is. is ++ OneToken (lexemes.word_at (codes "else") p) ∷ []) (sym (before-read c b f e)))
    where
      again : (a b s : List Item) → a ++ (b ++ (s ++ OneToken (lexemes.word_at (codes "else") p) ∷ [])) ≡ (a ++ (b ++ s)) ++ OneToken (lexemes.word_at (codes "else") p) ∷ []
      again a b s = simp append_assoc

  go : (o : Option (Option Place)) → one_of b.seps ≡ o → Grows c (with_heads c.limit (behind_else o p c.heads (Some b.expr))) (OneToken (lexemes.word_at (codes "else") p))
  go None g = λ d h. (let gone : None ≡ Some d = ap (with_heads c.limit) (sym (no-else p c.heads b.expr)) ∙ h in cc)
  go (Some semi) g = to semi (behind_else (Some semi) p c.heads (Some b.expr)) g refl

tried-heads : (hs : List Head) (body : Expr) (t : Tried) → tried hs (Some body) ≡ Some t → heads_items hs ++ expr_items body ≡ heads_items t.heads ++ OneToken (lexemes.word_at (codes "try") t.word) ∷ expr_items t.body
tried-heads [] body t e = cc
tried-heads (Of (TryAlone place) ∷ hs) body t e =
    let found : Tried = record { word = place; body = body; heads = hs } in
    let same : found ≡ t = cc in
    append_assoc (heads_items hs) (OneToken (lexemes.word_at (codes "try") place) ∷ []) (expr_items body) ∙ ap (λ k. heads_items k.heads ++ OneToken (lexemes.word_at (codes "try") k.word) ∷ expr_items k.body) same
tried-heads (DoHead place ∷ hs) body t e = (let gone : None ≡ Some t = sym (none-tried hs) ∙ e in cc)
tried-heads (Of h ∷ hs) body t e = append_assoc (heads_items hs) (heading_items h) (expr_items body) ∙ tried-heads hs (Headed h body) t e

pub none-done : (hs : List Head) → done hs None ≡ None
none-done [] = refl
none-done (h ∷ hs) = refl

done-heads : (hs : List Head) (body : Expr) (t : Tried) → done hs (Some body) ≡ Some t → heads_items hs ++ expr_items body ≡ heads_items t.heads ++ OneToken (lexemes.word_at (codes "do") t.word) ∷ expr_items t.body
done-heads [] body t e = cc
done-heads (DoHead place ∷ hs) body t e =
    let found : Tried = record { word = place; body = body; heads = hs } in
    let same : found ≡ t = cc in
    append_assoc (heads_items hs) (OneToken (lexemes.word_at (codes "do") place) ∷ []) (expr_items body) ∙ ap (λ k. heads_items k.heads ++ OneToken (lexemes.word_at (codes "do") k.word) ∷ expr_items k.body) same
done-heads (Of h ∷ hs) body t e = append_assoc (heads_items hs) (heading_items h) (expr_items body) ∙ done-heads hs (Headed h body) t e

-- the `try` that takes the word, and what stands behind it
tried-context : (c : Context) (t : Tried) → Fits c → tried c.heads (innermost c) ≡ Some t → context_items c ≡ heads_items t.heads ++ OneToken (lexemes.word_at (codes "try") t.word) ∷ expr_items t.body
tried-context c t f e = go (innermost c) refl e where
  go : (o : Option Expr) → innermost c ≡ o → tried c.heads o ≡ Some t → context_items c ≡ heads_items t.heads ++ OneToken (lexemes.word_at (codes "try") t.word) ∷ expr_items t.body
  go None g h = (let gone : None ≡ Some t = sym (none-tried c.heads) ∙ h in cc)
  go (Some d) g h = innermost-context c d f g ∙ tried-heads c.heads d t h

caught-grows : (p : Place) (c : Context) (v : Option Tried) → Fits c → tried c.heads (innermost c) ≡ v → Grows c (caught p c.limit v) (OneToken (lexemes.word_at (codes "catch") p))
caught-grows p c None f e = grows-none c _
caught-grows p c (Some t) f e = grows-some c _ _
    (sym (append_assoc (heads_items t.heads) (OneToken (lexemes.word_at (codes "try") t.word) ∷ expr_items t.body) (OneToken (lexemes.word_at (codes "catch") p) ∷ []))
    ∙ ap (λ is. is ++ OneToken (lexemes.word_at (codes "catch") p) ∷ []) (sym (tried-context c t f e)))

finished-grows : (p : Place) (c : Context) (v : Option Tried) → Fits c → tried c.heads (innermost c) ≡ v → Grows c (finished p c.limit v) (OneToken (lexemes.word_at (codes "finally") p))
finished-grows p c None f e = grows-none c _
finished-grows p c (Some t) f e = grows-some c _ _
    (append-nil (heads_items t.heads ++ OneToken (lexemes.word_at (codes "try") t.word) ∷ (expr_items t.body ++ OneToken (lexemes.word_at (codes "finally") p) ∷ []))
    ∙ sym (append_assoc (heads_items t.heads) (OneToken (lexemes.word_at (codes "try") t.word) ∷ expr_items t.body) (OneToken (lexemes.word_at (codes "finally") p) ∷ []))
    ∙ ap (λ is. is ++ OneToken (lexemes.word_at (codes "finally") p) ∷ []) (sym (tried-context c t f e)))

finally-grows : (p : Place) (s : Tail) (c : Context) → Fits c → c.tail ≡ s → Grows c (on_finally p s c) (OneToken (lexemes.word_at (codes "finally") p))
finally-grows p (AtCaught place body catch o cases k) c f e = grows-some c _ _
    (go (heads_items c.heads) (expr_items body)
    ∙ ap (λ is. (heads_items c.heads ++ is) ++ OneToken (lexemes.word_at (codes "finally") p) ∷ [])
    (sym (fresh-items c (tail_items c.tail) (f.alone (ap stands_alone e)) ∙ ap tail_items e)))
  where
    go : (a b : List Item)
        → (a ++ OneToken (lexemes.word_at (codes "try") place) ∷ (b ++ OneToken (lexemes.word_at (codes "catch") catch) ∷ CasesPair o cases k ∷ OneToken (lexemes.word_at (codes "finally") p) ∷ [])) ++ []
        ≡ (a ++ ((OneToken (lexemes.word_at (codes "try") place) ∷ (b ++ OneToken (lexemes.word_at (codes "catch") catch) ∷ [])) ++ CasesPair o cases k ∷ [])) ++ OneToken (lexemes.word_at (codes "finally") p) ∷ []
    go a b = simp (append_assoc, append-nil)
finally-grows p s c f e = finished-grows p c (tried c.heads (innermost c)) f refl

until-at-grows : (p : Place) (c : Context) (b : Before) (v : Option Tried) → Fits c → before_word c.tail c ≡ Some b → done c.heads (Some b.expr) ≡ v
    → Grows c (until_at b.seps p c.limit v) (OneToken (lexemes.word_at (codes "while") p))
until-at-grows p c b None f e g = grows-none c _
until-at-grows p c b (Some t) f e g = grows-some c _ _
    (go (heads_items t.heads) (expr_items t.body) (tokens (sep_tokens b.seps))
    ∙ ap (λ is. (is ++ tokens (sep_tokens b.seps)) ++ OneToken (lexemes.word_at (codes "while") p) ∷ []) (sym (done-heads c.heads b.expr t g))
    ∙ ap (λ is. is ++ OneToken (lexemes.word_at (codes "while") p) ∷ []) (append_assoc (heads_items c.heads) (expr_items b.expr) (tokens (sep_tokens b.seps)) ∙ sym (before-read c b f e)))
  where
    go : (a b s : List Item)
        → a ++ OneToken (lexemes.word_at (codes "do") t.word) ∷ (b ++ (s ++ OneToken (lexemes.word_at (codes "while") p) ∷ []))
        ≡ ((a ++ OneToken (lexemes.word_at (codes "do") t.word) ∷ b) ++ s) ++ OneToken (lexemes.word_at (codes "while") p) ∷ []
    go a b s = simp append_assoc

until-grows : (p : Place) (c : Context) (v : Option Before) → Fits c → before_word c.tail c ≡ v → Grows c (on_until p c v) (OneToken (lexemes.word_at (codes "while") p))
until-grows p c None f e = grows-none c _
until-grows p c (Some b) f e = until-at-grows p c b (done c.heads (Some b.expr)) f e refl

pub taken-grows : (w : Word) (p : Place) (c : Context) → Fits c → Grows c (taken w p c) (OneToken (lexemes.word_at (word_text w) p))
taken-grows word.Else p c f = grows-if (takes_else c.heads) c _ _ _ (λ e. else-grows p c (before_word c.tail c) f refl) (λ e. grows-none c _)
taken-grows word.Catch p c f = grows-if (takes_catch c.heads) c _ _ _ (λ e. caught-grows p c (tried c.heads (innermost c)) f refl) (λ e. grows-none c _)
taken-grows word.Finally p c f = finally-grows p c.tail c f refl
taken-grows word.While p c f = grows-if (waits c.heads) c _ _ _ (λ e. until-grows p c (before_word c.tail c) f refl) (λ e. grows-none c _)
taken-grows _ p c f = grows-none c _

-- ---- semicolons

sep-more : (qs : List Place) (p : Place) → tokens (sep_tokens (qs ++ p ∷ [])) ≡ tokens (sep_tokens qs) ++ OneToken (semicolon p) ∷ []
sep-more [] p = refl
sep-more (q ∷ qs) p = ap (λ is. OneToken (semicolon q) ∷ is) (sep-more qs p)

guard-semi-grows : (p : Place) (c : Context) (v : Option Infix) → Fits c → is_guard_limit c.limit ≡ true → chain_at c ≡ v → Grows c (guard_semi p v) (OneToken (semicolon p))
guard-semi-grows p c None f g e = grows-none c _
guard-semi-grows p c (Some test) f g e = grows-some c _ _ (ap (λ is. is ++ OneToken (semicolon p) ∷ []) (chain-read c test (f.guard g).0 e))

semi-behind-grows : (p : Place) (c : Context) (v : Option Expr) → Fits c → innermost c ≡ v → Grows c (semi_behind p c.limit c.heads v) (OneToken (semicolon p))
semi-behind-grows p c None f e = grows-none c _
semi-behind-grows p c (Some d) f e = grows-some c _ _
    (sym (append_assoc (heads_items c.heads) (expr_items d) (OneToken (semicolon p) ∷ [])) ∙ ap (λ is. is ++ OneToken (semicolon p) ∷ []) (sym (innermost-context c d f e)))

first-semi-grows : (p : Place) (c : Context) → Fits c → Grows c (if is_guard_limit c.limit then guard_semi p (chain_at c) else semi_behind p c.limit c.heads (innermost c)) (OneToken (semicolon p))
first-semi-grows p c f = grows-if (is_guard_limit c.limit) c _ _ _ (λ g. guard-semi-grows p c (chain_at c) f g refl) (λ g. semi-behind-grows p c (innermost c) f refl)

semi-grows : (p : Place) (many : Bool) (s : Tail) (c : Context) → Fits c → c.tail ≡ s → Grows c (semi_at p many s c) (OneToken (semicolon p))
semi-grows p many (AtSemi expr q qs) c f e =
    grows-if many c _ _ _
    (λ m. grows-some c _ _
    (ap (λ is. heads_items c.heads ++ (expr_items expr ++ is)) (sep-more (q ∷ qs) p)
    ∙ go (heads_items c.heads) (expr_items expr) (tokens (sep_tokens (q ∷ qs)))
    ∙ ap (λ is. (heads_items c.heads ++ is) ++ OneToken (semicolon p) ∷ []) (sym (fresh-items c (tail_items c.tail) (f.alone (ap stands_alone e)) ∙ ap tail_items e))))
    (λ m. grows-none c _)
  where
    go : (a b s : List Item) → a ++ (b ++ (s ++ OneToken (semicolon p) ∷ [])) ≡ (a ++ (b ++ s)) ++ OneToken (semicolon p) ∷ []
    go a b s = simp append_assoc
semi-grows p many (AtGuardSemi test q qs) c f e =
    grows-if many c _ _ _
    (λ m. grows-some c _ _ (tail-grows c (AtGuardSemi test q (qs ++ p ∷ [])) (OneToken (semicolon p))
    (ap (λ is. infix_items test ++ is) (sep-more (q ∷ qs) p) ∙ sym (append_assoc (infix_items test) (tokens (sep_tokens (q ∷ qs))) (OneToken (semicolon p) ∷ []))
    ∙ ap (λ t. tail_items t ++ OneToken (semicolon p) ∷ []) (sym e))))
    (λ m. grows-none c _)
semi-grows p many s c f e = first-semi-grows p c f

pub semicolon-grows : (p : Place) (fs : List Frame) (c : Context) → Fits c → Grows c (on_semicolon p fs c) (OneToken (semicolon p))
semicolon-grows p fs c f =
    grows-if (in_gens fs && not (waits c.heads)) c _ _ _ (λ e. semi-grows p true c.tail c f refl)
    (λ e. grows-if (waits c.heads) c _ _ _ (λ g. semi-grows p true c.tail c f refl)
    (λ g. grows-if (takes_else c.heads) c _ _ _ (λ h. semi-grows p false c.tail c f refl) (λ h. grows-none c _)))

-- ---- braces

arg-items : (i : Item) (args : Args) → arg_of i ≡ Some args → args_items args ≡ i ∷ []
arg-items (BlockPair o block k) args e = (let same : BlockArg o block k ≡ args = cc in ap args_items (sym same))
arg-items (CasesPair o cases k) args e = (let same : CasesArg o cases k ≡ args = cc in ap args_items (sym same))
arg-items _ args e = cc

called-grows : (c : Context) (prim : Prim) (i : Item) (v : Option Args) → prim_at c.tail ≡ Some prim → arg_of i ≡ v → Grows c (at_some c (called prim v)) i
called-grows c prim i None e g = grows-none c _
called-grows c prim i (Some args) e g =
    grows-some c _ _ (tail-grows c (AtCall prim args) i (ap (λ is. prim_items prim ++ is) (arg-items i args g) ∙ ap (λ is. is ++ i ∷ []) (prim-read c.tail prim e)))

some-grows : (b : Bool) (c : Context) (v : Option Tail) (i : Item) → (b ≡ true → Grows c (at_some c v) i) → Grows c (at_some c (if b then v else None)) i
some-grows true c v i l = l refl
some-grows false c v i l = grows-none c i

receiver-grows : (c : Context) (v : Option Prim) (before : Newline) (i : Item) → receiver c ≡ v → Grows c (at_some c (behind_receiver v before i)) i
receiver-grows c None before i e = grows-none c _
receiver-grows c (Some prim) before i e = some-grows (is_near before) c _ i (λ n. called-grows c prim i (arg_of i) (receiver-prim c prim e) refl)

sign-receiver-grows : (c : Context) (id : Id) (before : Newline) (i : Item) → c.tail ≡ AtName id true → Grows c (at_some c (if is_param_limit c.limit then None else sign_receiver id before i)) i
sign-receiver-grows c id before i e = go (is_param_limit c.limit) where
  go : (b : Bool) → Grows c (at_some c (if b then None else sign_receiver id before i)) i
  go true = grows-none c _
  go false = some-grows (is_near before && not (is_no before)) c _ i (λ n. called-grows c (NamePrim id) i (arg_of i) (ap prim_at e) refl)

new-with-grows : (c : Context) (place : Place) (type : WrittenType) (i : Item) (v : Option Args) → c.tail ≡ AtNew place type → arg_of i ≡ v → Grows c (at_some c (new_with place type v)) i
new-with-grows c place type i None e g = grows-none c _
new-with-grows c place type i (Some args) e g =
    grows-some c _ _ (tail-grows c (AtPrim (NewWith place type args)) i
    (ap (λ is. OneToken (lexemes.word_at (codes "new") place) ∷ (tokens (type_tokens type) ++ is)) (arg-items i args g) ∙ ap (λ t. tail_items t ++ i ∷ []) (sym e)))

braces-grows : (c : Context) (i : Item) → tail_items c.tail ≡ [] → Grows c (at_some c (as_prim (prim_of i))) i
braces-grows c (BlockPair o block k) n = grows-some c _ _ (tail-grows c (AtPrim (BlockPrim o block k)) _ (ap (λ is. is ++ BlockPair o block k ∷ []) (sym n)))
braces-grows c (CasesPair o cases k) n = grows-some c _ _ (tail-grows c (AtPrim (CasesPrim o cases k)) _ (ap (λ is. is ++ CasesPair o cases k ∷ []) (sym n)))
braces-grows c _ n = grows-none c _

tail-behind-grows : (s : Tail) (c : Context) (before : Newline) (i : Item) → c.tail ≡ s → Grows c (at_some c (tail_behind s c before i)) i
tail-behind-grows (AtMatch chain place) c before (CasesPair o cases p) e =
    grows-some c _ _ (tail-grows c (AtEnded (MatchExpr chain place o cases p)) (CasesPair o cases p)
    (sym (append_assoc (infix_items chain) (OneToken (lexemes.word_at (codes "match") place) ∷ []) (CasesPair o cases p ∷ [])) ∙ ap (λ t. tail_items t ++ CasesPair o cases p ∷ []) (sym e)))
tail-behind-grows (AtMatch chain place) c before _ e = grows-none c _
tail-behind-grows (AtCatch place body catch) c before (CasesPair o cases p) e =
    grows-some c _ _ (tail-grows c (AtCaught place body catch o cases p) (CasesPair o cases p) (ap (λ t. tail_items t ++ CasesPair o cases p ∷ []) (sym e)))
tail-behind-grows (AtCatch place body catch) c before _ e = grows-none c _
tail-behind-grows (AtName id true) c before i e = sign-receiver-grows c id before i e
tail-behind-grows (AtNew place type) c before i e = some-grows (is_near before) c _ i (λ n. new-with-grows c place type i (arg_of i) e refl)
tail-behind-grows Begin c before i e = some-grows (may_stand c before) c _ i (λ n. braces-grows c i (ap tail_items e))
tail-behind-grows s c before i e = receiver-grows c (receiver c) before i refl

pair-at-grows : (s : Tail) (c : Context) (before : Newline) (i : Item) → Fits c → c.tail ≡ s → Grows c (behind_pair s c before i) i
pair-at-grows (AtAsker ForAsker place) c before (EnumsPair o enums p) f e =
    grows-some c _ _ (head-grows c (Of (ForCurly place o enums p None)) (EnumsPair o enums p) (f.alone (ap stands_alone e)) (ap (λ t. tail_items t ++ EnumsPair o enums p ∷ []) (sym e)))
pair-at-grows (AtAsker asker place) c before _ f e = grows-none c _
pair-at-grows s c before i f e = tail-behind-grows s c before i e

pub pair-grows : (c : Context) (before : Newline) (i : Item) → Fits c → Grows c (decided_pair c before i) i
pair-grows c before i f = pair-at-grows c.tail c before i f refl

-- ---- types

goes-some : (b : Bool) (o : Option types.State) (u : types.State) → goes b o ≡ Some u → o ≡ Some u
goes-some true o u e = cc
goes-some false o u e = e

goes-step : (l : Limit) (t : types.State) (x : Lexeme) (u : types.State) → goes_on l t x ≡ Some u → types.step t x ≡ Some u
goes-step limit.CaseGuard t x u e = goes-some (leaves (type_seen.seen x) t.frames t.tail) (types.step t x) u e
goes-step _ t x u e = e

more-type : (t u : types.State) (x : Lexeme) → types.step t x ≡ Some u → tokens (type_tokens_in u) ≡ tokens (type_tokens_in t) ++ OneToken x ∷ []
more-type t u x e = ap tokens (types_sound.step-adds t x u e) ∙ tokens-append (type_tokens_in t) (x ∷ [])

pub type-grows : (x : Lexeme) (s : Tail) (c : Context) → c.tail ≡ s → Grows c (at_some c (in_type c.limit s x)) (OneToken x)
type-grows x (InNew place t) c e = go (goes_on c.limit t x) refl where
  go : (v : Option types.State) → goes_on c.limit t x ≡ v → Grows c (at_some c (new_type place v)) (OneToken x)
  go None g = grows-none c _
  go (Some u) g =
      grows-some c _ _ (tail-grows c (InNew place u) (OneToken x)
      (ap (λ is. OneToken (lexemes.word_at (codes "new") place) ∷ is) (more-type t u x (goes-step c.limit t x u g)) ∙ ap (λ s. tail_items s ++ OneToken x ∷ []) (sym e)))
type-grows x (InTypes prim o done t) c e = go (types.step t x) refl where
  again : (a b d : List Item) → a ++ OneToken (open_square o) ∷ (b ++ (d ++ OneToken x ∷ [])) ≡ (a ++ OneToken (open_square o) ∷ (b ++ d)) ++ OneToken x ∷ []
  again a b d = simp append_assoc

  go : (v : Option types.State) → types.step t x ≡ v → Grows c (at_some c (types_type prim o done v)) (OneToken x)
  go None g = grows-none c _
  go (Some u) g =
      grows-some c _ _ (tail-grows c (InTypes prim o done u) (OneToken x)
      (ap (λ is. prim_items prim ++ OneToken (open_square o) ∷ (tokens (types.done_tokens done) ++ is)) (more-type t u x g)
      ∙ again (prim_items prim) (tokens (types.done_tokens done)) (tokens (type_tokens_in t)) ∙ ap (λ s. tail_items s ++ OneToken x ∷ []) (sym e)))
type-grows x (InTyped of point t) c e = go (types.step t x) refl where
  go : (v : Option types.State) → types.step t x ≡ v → Grows c (at_some c (typed_type of point v)) (OneToken x)
  go None g = grows-none c _
  go (Some u) g =
      grows-some c _ _ (tail-grows c (InTyped of point u) (OneToken x)
      (ap (λ is. typed_of_items of ++ OneToken (colon point) ∷ is) (more-type t u x g)
      ∙ sym (append_assoc (typed_of_items of) (OneToken (colon point) ∷ tokens (type_tokens_in t)) (OneToken x ∷ [])) ∙ ap (λ s. tail_items s ++ OneToken x ∷ []) (sym e)))
type-grows x _ c e = grows-none c _

-- ---- what the next item decides

unquoted : (id : Id) → is_prefix_id id ≡ true → id.quoted ≡ false
unquoted id e = go id.quoted (and-left (not id.quoted) _ e) where
  go : (q : Bool) → not q ≡ true → q ≡ false
  go true f = cc
  go false f = refl

plain-token : (id : Id) (text : Bytes) → is_prefix_id id ≡ true → bytes_eq id.name text ≡ true → lexemes.plain_at text id.place ≡ id_token id
plain-token id text e f =
    ap (λ w. lexemes.token_at kind.Id w id.place) (sym ((bytes_eq-Decides id.name text).0 f)) ∙ ap (λ q. lexemes.token_at (if q then kind.BackId else kind.Id) id.name id.place) (sym (unquoted id e))

sign-token : (id : Id) (s : PrefixSign) → is_prefix_id id ≡ true → sign_of id ≡ Some s → sign_token s ≡ id_token id
sign-token id s e h = go (bytes_eq id.name (codes "-")) (bytes_eq id.name (codes "+")) (bytes_eq id.name (codes "!")) (bytes_eq id.name (codes "~")) refl refl refl refl h where
  go : (a b c d : Bool) → bytes_eq id.name (codes "-") ≡ a → bytes_eq id.name (codes "+") ≡ b → bytes_eq id.name (codes "!") ≡ c → bytes_eq id.name (codes "~") ≡ d
      → (if a then Some (Minus id.place) else (if b then Some (Plus id.place) else (if c then Some (Bang id.place) else (if d then Some (Tilde id.place) else None)))) ≡ Some s → sign_token s ≡ id_token id
  go true b c d f g i j k = (let same : Minus id.place ≡ s = cc in ap sign_token (sym same) ∙ plain-token id (codes "-") e f)
  go false true c d f g i j k = (let same : Plus id.place ≡ s = cc in ap sign_token (sym same) ∙ plain-token id (codes "+") e g)
  go false false true d f g i j k = (let same : Bang id.place ≡ s = cc in ap sign_token (sym same) ∙ plain-token id (codes "!") e i)
  go false false false true f g i j k = (let same : Tilde id.place ≡ s = cc in ap sign_token (sym same) ∙ plain-token id (codes "~") e j)
  go false false false false f g i j k = cc

pub record Decides (c d : Context) : Type 0 where
  pub items : context_items d ≡ context_items c
  pub minus : MinusAt d.tail

sign-decides : (c : Context) (id : Id) (y : Symbol) (before : Newline) → is_prefix_id id ≡ true → Decides (at c (AtSign id)) (sign_decided (at c (AtSign id)) id y before)
sign-decides c id y before e =
    go (is_no before && (begins_prim y && not (is_param_limit c.limit))) (is_number y) (bytes_eq id.name (codes "-")) c.sign (sign_of id) refl refl refl
  where
    now : Context
    now = at c (AtSign id)

    named : Decides now (at now (AtName id true))
    named = record { items = refl; minus = tt }

    signed_by : (s o : Option PrefixSign) → c.sign ≡ s → sign_of id ≡ o → Decides now (with_sign now s o id)
    signed_by None (Some k) g h = record {
      items = ap (λ x. heads_items c.heads ++ (operations_items c.operations ++ OneToken x ∷ [])) (sign-token id k e h) ∙ ap (λ s. heads_items c.heads ++ (operations_items c.operations ++ (sign_items s ++ OneToken (id_token id) ∷ []))) (sym g);
      minus = tt;
    }
    signed_by None None g h = named
    signed_by (Some k) o g h = named

    go : (follows number minus : Bool) (s o : Option PrefixSign) → bytes_eq id.name (codes "-") ≡ minus → c.sign ≡ s → sign_of id ≡ o
        → Decides now (if not follows then at now (AtName id true) else (if number && minus then at now (AtSign id) else with_sign now s o id))
    go false number minus s o f g h = named
    go true true true s o f g h = record { items = refl; minus = sym (plain-token id (codes "-") e f) }
    go true true false s o f g h = signed_by s o g h
    go true false minus s o f g h = signed_by s o g h

new-decides : (c : Context) (place : Place) (t : types.State) → Decides (at c (InNew place t)) (at c (new_tail place t (type_of t) (dotted_of t)))
new-decides c place t = go (type_of t) (dotted_of t) refl refl where
  go : (o : Option WrittenType) (d : Option Dotted) → type_of t ≡ o → dotted_of t ≡ d → Decides (at c (InNew place t)) (at c (new_tail place t o d))
  go (Some type) d f g = record {
    items = ap (λ xs. heads_items c.heads ++ (operations_items c.operations ++ (sign_items c.sign ++ OneToken (lexemes.word_at (codes "new") place) ∷ tokens xs))) (typed-tokens t type f);
    minus = tt;
  }
  go None (Some d) f g = record {
    items = ap (λ is. heads_items c.heads ++ (operations_items c.operations ++ (sign_items c.sign ++ OneToken (lexemes.word_at (codes "new") place) ∷ is)))
        (sym (tokens-append (type_tokens d.type) (dot d.point ∷ [])) ∙ ap tokens (dotted-tokens t d g));
    minus = tt;
  }
  go None None f g = record { items = refl; minus = tt }

pub decided-items : (c : Context) (s : Tail) (y : Symbol) (before : Newline) → Fits (at c s) → Decides (at c s) (decided_at s (at c s) y before)
decided-items c (AtSign id) y before f = sign-decides c id y before f.decidable
decided-items c (InNew place t) y before f = new-decides c place t
decided-items c (AtDot prim point) y before f = go (is_id y) where
  go : (b : Bool) → Decides (at c (AtDot prim point)) (if b then at c (AtDot prim point) else at c (AtPrim (SelectHole prim point)))
  go true = record { items = refl; minus = tt }
  go false = record { items = refl; minus = tt }
decided-items c (AtReturn place) y before f = go (is_no before && begins_expr y) where
  fresh : IsFresh c.operations c.sign
  fresh = f.alone refl

  go : (b : Bool) → Decides (at c (AtReturn place)) (if b then with_head (at c (AtReturn place)) (Of (ReturnOf place)) else at c (AtReturn place))
  go true = record {
    items = ap (λ is. (heads_items c.heads ++ OneToken (lexemes.word_at (codes "return") place) ∷ []) ++ is) (fresh-items c [] fresh)
        ∙ append-nil (heads_items c.heads ++ OneToken (lexemes.word_at (codes "return") place) ∷ [])
        ∙ ap (λ is. heads_items c.heads ++ is) (sym (fresh-items c (OneToken (lexemes.word_at (codes "return") place) ∷ []) fresh));
    minus = tt;
  }
  go false = record { items = refl; minus = tt }
decided-items c _ y before f = record { items = refl; minus = tt }
