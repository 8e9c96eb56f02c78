-- The Prim, the Infix and the expression that end at a tail have the items that were read of them.
use Rattle.std.proofs.Common.{◌≡◌, Bool, true, false, if◌then◌else◌, List, [], ◌∷◌, ◌++◌, Option, Some, None, codes, refl, ap, sym, ◌∙◌, append_assoc}
use Rattle.parse_parts.proofs.Derived as types
use Rattle.parse_parts.proofs.Sound as types_sound
use Rattle.parse_parts.proofs.Sound.{tokens_in as type_tokens_in}
use Rattle.source_grammar.specs.Definitions.{NoType, OfType}
use Rattle.source_grammar.specs.Expressions.{ApplyPrim, Expr, ExprInParentheses, Headed, Infix, InfixExpr, LastPrefix, MorePrefixes, NamedLPar, NamePrim, NewOf, PairPrim, Placeholder, PrefixSign, Prim, ReturnAlone, SelectHole, TriplePrim, TryCatch, TypedExpr, UnitPrim, WildLPar}
use Rattle.source_grammar.specs.Lexemes.{close_round, colon, comma, dot, id_token, open_round, Place, qual_id_tokens, word_at}
use Rattle.source_grammar.specs.Types.{Named, OfPath, Simple, type_tokens, WrittenType}
use Rattle.expr_laws.proofs.Derived.{AtCall, AtCaught, AtDot, AtEnded, AtGroup, AtName, AtNew, AtPrim, AtReturn, AtSign, AtWild, CasesPair, chain_at, chain_of, Context, DoHead, Dotted, dotted_of, dotted_prim, dotted_read, Element, element_expr, Elements, ended_expr, ExprElement, Head, headed_all, infix_expr, innermost, innermost_at, InNew, InTyped, Item, NoElements, Of, OfChain, OfName, OfWild, OneToken, Operation, ParamElement, Parens, parens_prim, prim_at, settled, signed, Tail, type_of, typed_expr, typed_infix, TypedOf, waits}
use Rattle.expr_laws.proofs.Fitting.{Fits, IsFresh, stands_alone}
use Rattle.expr_laws.proofs.Headed.{none-all}
use Rattle.expr_laws.proofs.Items.{expr_items, heading_items, infix_items, prefix_items, prim_items, tokens}
use Rattle.expr_laws.proofs.Moving.{tokens-append}
use Rattle.expr_laws.proofs.Read.{context_items, element_items, heads_items, operations_items, sign_items, tail_items, typed_of_items}
use Rattle.expr_laws.proofs.TypesRead.{typed-tokens}

-- ---- operands

element-expr : (e : Element) → expr_items (element_expr e) ≡ element_items e
element-expr (ParamElement (NamedLPar id NoType)) = refl
element-expr (ParamElement (NamedLPar id (OfType point type))) = refl
element-expr (ParamElement (WildLPar place NoType)) = refl
element-expr (ParamElement (WildLPar place (OfType point type))) = refl
element-expr (ExprElement e) = refl

-- a type and the `.` behind it
pub dotted-tokens : (t : types.State) (d : Dotted) → dotted_of t ≡ Some d → type_tokens d.type ++ dot d.point ∷ [] ≡ type_tokens_in t
dotted-tokens t d e = go t.frames t.tail refl refl e where
  go : (fs : List types.Frame) (s : types.Tail) → t.frames ≡ fs → t.tail ≡ s → dotted_read fs t.heads s ≡ Some d → type_tokens d.type ++ dot d.point ∷ [] ≡ type_tokens_in t
  go [] (types.AtDot path point) f g h =
      let found : Dotted = record { type = types.settled t.heads (Simple (Named (OfPath path))); point = point } in
      let same : found ≡ d = cc in
      ap (λ k. type_tokens k.type ++ dot k.point ∷ []) (sym same)
      ∙ ap (λ xs. xs ++ dot point ∷ []) (types_sound.settled-tokens t.heads (Simple (Named (OfPath path))))
      ∙ append_assoc (types.heads_tokens t.heads) (qual_id_tokens path) (dot point ∷ [])
      ∙ sym (ap (λ s. types.heads_tokens t.heads ++ types.tail_tokens s) g)
      ∙ sym (ap (λ fs. types.state_tokens fs t.heads t.tail) f)
  go [] _ f g h = cc
  go (k ∷ fs) s f g h = cc

new-read : (word : Place) (t : types.State) (prim : Prim) → prim_at (InNew word t) ≡ Some prim → prim_items prim ≡ tail_items (InNew word t)
new-read word t prim e = go (dotted_of t) (type_of t) refl refl e where
  go : (o : Option Dotted) (v : Option WrittenType) → dotted_of t ≡ o → type_of t ≡ v → dotted_prim word o v ≡ Some prim → prim_items prim ≡ tail_items (InNew word t)
  go (Some d) v f g h =
      let same : SelectHole (NewOf word d.type) d.point ≡ prim = cc in
      ap prim_items (sym same) ∙ ap (λ is. OneToken (word_at (codes "new") word) ∷ is) (sym (tokens-append (type_tokens d.type) (dot d.point ∷ [])) ∙ ap tokens (dotted-tokens t d f))
  go None (Some type) f g h =
      let same : NewOf word type ≡ prim = cc in
      ap prim_items (sym same) ∙ ap (λ xs. OneToken (word_at (codes "new") word) ∷ tokens xs) (typed-tokens t type g)
  go None None f g h = cc

parens-read : (o : Place) (parens : Parens) (c : Place) (head : Bool) (prim : Prim) → parens_prim o parens c ≡ Some prim → prim_items prim ≡ tail_items (AtGroup o parens c head)
parens-read o NoElements c head prim e = (let same : UnitPrim o c ≡ prim = cc in ap prim_items (sym same))
parens-read o (Elements [] x) c head prim e =
    let same : ExprInParentheses o (element_expr x) c ≡ prim = cc in
    ap prim_items (sym same) ∙ ap (λ is. OneToken (open_round o) ∷ (is ++ OneToken (close_round c) ∷ [])) (element-expr x)
parens-read o (Elements (d ∷ []) x) c head prim e =
    let same : PairPrim o (element_expr d.element) d.place (element_expr x) c ≡ prim = cc in
    ap prim_items (sym same)
    ∙ ap (λ is. OneToken (open_round o) ∷ (is ++ OneToken (comma d.place) ∷ (expr_items (element_expr x) ++ OneToken (close_round c) ∷ []))) (element-expr d.element)
    ∙ ap (λ is. OneToken (open_round o) ∷ (element_items d.element ++ OneToken (comma d.place) ∷ (is ++ OneToken (close_round c) ∷ []))) (element-expr x)
    ∙ ap (λ is. OneToken (open_round o) ∷ is) (go (element_items d.element) (element_items x))
  where
    go : (a b : List Item) → a ++ OneToken (comma d.place) ∷ (b ++ OneToken (close_round c) ∷ []) ≡ ((a ++ OneToken (comma d.place) ∷ []) ++ b) ++ OneToken (close_round c) ∷ []
    go a b = simp append_assoc
parens-read o (Elements (d ∷ a ∷ []) x) c head prim e =
    let same : TriplePrim o (element_expr a.element) a.place (element_expr d.element) d.place (element_expr x) c ≡ prim = cc in
    ap prim_items (sym same)
    ∙ ap (λ is. written is (expr_items (element_expr d.element)) (expr_items (element_expr x))) (element-expr a.element)
    ∙ ap (λ is. written (element_items a.element) is (expr_items (element_expr x))) (element-expr d.element)
    ∙ ap (λ is. written (element_items a.element) (element_items d.element) is) (element-expr x)
    ∙ ap (λ is. OneToken (open_round o) ∷ is) (go (element_items a.element) (element_items d.element) (element_items x))
  where
    written : List Item → List Item → List Item → List Item
    written p q r = OneToken (open_round o) ∷ (p ++ OneToken (comma a.place) ∷ (q ++ OneToken (comma d.place) ∷ (r ++ OneToken (close_round c) ∷ [])))

    go : (p q r : List Item)
        → p ++ OneToken (comma a.place) ∷ (q ++ OneToken (comma d.place) ∷ (r ++ OneToken (close_round c) ∷ []))
        ≡ (((p ++ OneToken (comma a.place) ∷ []) ++ (q ++ OneToken (comma d.place) ∷ [])) ++ r) ++ OneToken (close_round c) ∷ []
    go p q r = simp append_assoc
parens-read o (Elements (d ∷ a ∷ b ∷ done) x) c head prim e = cc

pub prim-read : (s : Tail) (prim : Prim) → prim_at s ≡ Some prim → prim_items prim ≡ tail_items s
prim-read (AtSign id) prim e = (let same : NamePrim id ≡ prim = cc in ap prim_items (sym same))
prim-read (AtName id is_sign) prim e = (let same : NamePrim id ≡ prim = cc in ap prim_items (sym same))
prim-read (AtWild place) prim e = (let same : Placeholder place ≡ prim = cc in ap prim_items (sym same))
prim-read (AtGroup o parens c head) prim e = parens-read o parens c head prim e
prim-read (AtPrim d) prim e = (let same : d ≡ prim = cc in ap prim_items (sym same))
prim-read (AtCall d args) prim e = (let same : ApplyPrim d args ≡ prim = cc in ap prim_items (sym same))
prim-read (AtDot d point) prim e = (let same : SelectHole d point ≡ prim = cc in ap prim_items (sym same))
prim-read (InNew word t) prim e = new-read word t prim e
prim-read (AtNew word type) prim e = (let same : NewOf word type ≡ prim = cc in ap prim_items (sym same))
prim-read _ prim e = cc

-- ---- operands and operators

settled-items : (os : List Operation) (d : Infix) → infix_items (settled os d) ≡ operations_items os ++ infix_items d
settled-items [] d = refl
settled-items (o ∷ os) d =
    settled-items os (MorePrefixes o.left o.operator d) ∙ go (operations_items os) (prefix_items o.left) (OneToken (id_token o.operator)) (infix_items d)
  where
    go : (a b : List Item) (i : Item) (e : List Item) → a ++ (b ++ i ∷ e) ≡ (a ++ (b ++ i ∷ [])) ++ e
    go a b i e = simp append_assoc

pub signed-items : (sign : Option PrefixSign) (prim : Prim) → prefix_items (signed sign prim) ≡ sign_items sign ++ prim_items prim
signed-items None prim = refl
signed-items (Some sign) prim = refl

-- what was read since the last head
abbrev pub chain_items : List Operation → Option PrefixSign → List Item → List Item
chain_items os sign is = operations_items os ++ (sign_items sign ++ is)

pub chain-items : (os : List Operation) (sign : Option PrefixSign) (s : Tail) (d : Infix) → chain_of os sign (prim_at s) ≡ Some d → infix_items d ≡ chain_items os sign (tail_items s)
chain-items os sign s d e = go (prim_at s) refl e where
  go : (o : Option Prim) → prim_at s ≡ o → chain_of os sign o ≡ Some d → infix_items d ≡ chain_items os sign (tail_items s)
  go None f g = cc
  go (Some prim) f g =
      let same : settled os (LastPrefix (signed sign prim)) ≡ d = cc in
      ap infix_items (sym same) ∙ settled-items os (LastPrefix (signed sign prim))
      ∙ ap (λ is. operations_items os ++ is) (signed-items sign prim ∙ ap (λ is. sign_items sign ++ is) (prim-read s prim f))

pub chain-read : (c : Context) (test : Infix) → c.heads ≡ [] → chain_at c ≡ Some test → infix_items test ≡ context_items c
chain-read c test n e = chain-items c.operations c.sign c.tail test e ∙ ap (λ hs. heads_items hs ++ chain_items c.operations c.sign (tail_items c.tail)) (sym n)

-- ---- expressions

alone-items : (os : List Operation) (sign : Option PrefixSign) (is : List Item) → IsFresh os sign → is ≡ chain_items os sign is
alone-items os sign is f = ap (λ o. operations_items o ++ is) (sym f.operations) ∙ ap (λ s. operations_items os ++ (sign_items s ++ is)) (sym f.sign)

typed-of : (of : TypedOf) → infix_items (typed_infix of) ≡ typed_of_items of
typed-of (OfName id) = refl
typed-of (OfWild place) = refl
typed-of (OfChain chain) = refl

typed-read : (of : TypedOf) (point : Place) (t : types.State) (e : Expr) → typed_expr of point (type_of t) ≡ Some e → expr_items e ≡ tail_items (InTyped of point t)
typed-read of point t e h = go (type_of t) refl h where
  go : (v : Option WrittenType) → type_of t ≡ v → typed_expr of point v ≡ Some e → expr_items e ≡ tail_items (InTyped of point t)
  go None f g = cc
  go (Some type) f g =
      let same : TypedExpr (typed_infix of) point type ≡ e = cc in
      ap expr_items (sym same) ∙ ap (λ is. is ++ OneToken (colon point) ∷ tokens (type_tokens type)) (typed-of of)
      ∙ ap (λ xs. typed_of_items of ++ OneToken (colon point) ∷ tokens xs) (typed-tokens t type f)

-- the innermost expression, where what stands alone has nothing before it
pub innermost-read : (os : List Operation) (sign : Option PrefixSign) (s : Tail) (e : Expr) → (stands_alone s ≡ true → IsFresh os sign) → innermost_at s (chain_of os sign (prim_at s)) ≡ Some e
    → expr_items e ≡ chain_items os sign (tail_items s)
innermost-read os sign (InTyped of point t) e alone h = typed-read of point t e h ∙ alone-items os sign (tail_items (InTyped of point t)) (alone refl)
innermost-read os sign (AtReturn word) e alone h =
    (let same : ReturnAlone word ≡ e = cc in ap expr_items (sym same) ∙ alone-items os sign (tail_items (AtReturn word)) (alone refl))
innermost-read os sign (AtCaught word body catch o cases c) e alone h =
    let same : TryCatch word body catch o cases c ≡ e = cc in
    ap expr_items (sym same)
    ∙ ap (λ is. OneToken (word_at (codes "try") word) ∷ is) (sym (append_assoc (expr_items body) (OneToken (word_at (codes "catch") catch) ∷ []) (CasesPair o cases c ∷ [])))
    ∙ alone-items os sign (tail_items (AtCaught word body catch o cases c)) (alone refl)
innermost-read os sign (AtEnded expr) e alone h = (let same : expr ≡ e = cc in ap expr_items (sym same) ∙ alone-items os sign (expr_items expr) (alone refl))
innermost-read os sign s e alone h = go (chain_of os sign (prim_at s)) refl h where
  go : (v : Option Infix) → chain_of os sign (prim_at s) ≡ v → infix_expr v ≡ Some e → expr_items e ≡ chain_items os sign (tail_items s)
  go None f g = cc
  go (Some d) f g = (let same : InfixExpr d ≡ e = cc in ap expr_items (sym same) ∙ chain-items os sign s d f)

-- with all heads
pub headed-read : (hs : List Head) (body e : Expr) → headed_all hs (Some body) ≡ Some e → expr_items e ≡ heads_items hs ++ expr_items body
headed-read [] body e h = (let same : body ≡ e = cc in ap expr_items (sym same))
headed-read (DoHead word ∷ hs) body e h = (let gone : None ≡ Some e = sym (none-all hs) ∙ h in cc)
headed-read (Of heading ∷ hs) body e h = headed-read hs (Headed heading body) e h ∙ sym (append_assoc (heads_items hs) (heading_items heading) (expr_items body))

pub expr-read : (c : Context) (e : Expr) → Fits c → ended_expr c ≡ Some e → expr_items e ≡ context_items c
expr-read c e f h = go (waits c.heads) (innermost c) refl h where
  go : (w : Bool) (o : Option Expr) → innermost c ≡ o → (if w then None else headed_all c.heads o) ≡ Some e → expr_items e ≡ context_items c
  go true o g k = cc
  go false None g k = (let gone : None ≡ Some e = sym (none-all c.heads) ∙ k in cc)
  go false (Some body) g k = headed-read c.heads body e k ∙ ap (λ is. heads_items c.heads ++ is) (innermost-read c.operations c.sign c.tail body f.alone g)
