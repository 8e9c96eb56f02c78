-- What was read in a context is the items of the derivations in it: each token that is taken stands behind them.
use Rattle.std.proofs.Common.{◌≡◌, Bool, true, false, ◌&&◌, ◌||◌, if◌then◌else◌, List, [], ◌∷◌, ◌++◌, Option, Some, None, codes, refl, ap, sym, ◌∙◌, append_assoc, append-nil}
use Rattle.std.specs.Prelude.{not}
use Rattle.scan_tokens.specs.declared.tokens.Newline.{Newline}
use Rattle.scan_tokens.specs.declared.tokens.Newline.TheVariants.{No}
use Rattle.expr_tails.specs.declared.symbols.Word.{Word}
use Rattle.expr_tails.specs.declared.symbols.Word.TheVariants as word
use Rattle.parse_parts.proofs.Derived as types
use Rattle.parse_parts.proofs.Derived.{done_tokens}
use Rattle.parse_parts.proofs.Sound as types_sound
use Rattle.parse_parts.proofs.Sound.{tokens_in as type_tokens_in}
use Rattle.parse_patterns.proofs.Derived.{when}
use Rattle.parse_patterns.proofs.Seen.{literal_of, number-literal}
use Rattle.expr_laws.proofs.Derived as derived
use Rattle.source_grammar.specs.Lexemes as lexemes
use Rattle.source_grammar.specs.Definitions.{Behind, behind_tokens, Items, Listed, listed_tokens, Nothing}
use Rattle.source_grammar.specs.Expressions.{AssignApply, AssignName, AssignSelect, EtaPrim, ForCurly, ForRound, Infix, Lambda, LamHead, LiteralPrim, LPar, LParHead, MinusPrim, NamedHead, Prim, SelectPrim, SuperPrim, ThrowOf, TryAlone, TypeApplyPrim, WildHead}
use Rattle.source_grammar.specs.ExpressionRules.{is_prefix_id}
use Rattle.source_grammar.specs.ExpressionTokens.{head_tokens, lpar_tokens}
use Rattle.source_grammar.specs.Lexemes.{Arrow, arrow_token, close_round, close_square, colon, comma, dot, equals, Id, id_token, Literal, literal_place, literal_token, Number, number_token, open_round, open_square, Place, underscore}
use Rattle.source_grammar.specs.Types.{LastType, type_tokens, WrittenType}
use Rattle.parse_patterns.specs.Steps.{is_no}
use Rattle.expr_laws.proofs.Derived.{at, AtAsker, AtCall, AtDot, AtGroup, AtMatch, AtName, AtPrim, AtReturn, AtSign, AtSuper, AtSuperDot, AtWild, Begin, begins, begun, begun_with, chain_of, Context, DoHead, done, DoneElement, dotted, Element, element_param, Elements, EnumsPair, equals_at, eta, eta_receiver, ExprElement, fits, ForAsker, Head, head_at, head_over, IfAsker, InNew, InTyped, InTypes, is_before_operator, is_begin, is_expr_limit, is_first, is_new, is_param_limit, is_prim_word, Item, lambda, matched, may_begin, may_begin_name, may_head, may_stand, name_behind, named_tail, NoElements, Of, OfChain, OfName, OfWild, on_colon, on_dot, on_id, on_literal, on_number, on_underscore, OneToken, operand_at, operand_chain, operated, ParamElement, params_before, params_of, Parens, prim_at, prim_word, receiver_at, Tail, squared, type_begun, type_of, typed_chain, typed_from, types_on, WhileAsker, with_head, without_chain, yielding}
use Rattle.expr_laws.proofs.Items.{enums_items, infix_items, prim_items, tokens}
use Rattle.expr_laws.proofs.Lasting.{and-left, begun-head, head-first}
use Rattle.expr_laws.proofs.Moving.{tokens-append}
use Rattle.expr_laws.proofs.PartsRead.{chain-items, chain_items, prim-read, signed-items}
use Rattle.expr_laws.proofs.Read.{context_items, done_elements_items, element_items, head_items, heads_items, operations_items, parens_items, sign_items, tail_items}
use Rattle.expr_laws.proofs.FramesSound.{begin-tail, receiver-is}
use Rattle.expr_laws.proofs.Fitting.{IsFresh}
use Rattle.expr_laws.proofs.Seen.{AComma, ClosesSquare, Seen, shown_token, word_text}
use Rattle.expr_laws.proofs.TypesRead.{typed-tokens}

-- ---- one item more

-- the context that a step gives has this item behind the others
abbrev pub Grows : Context → Option Context → Item → Type 0
Grows c o i = (d : Context) → o ≡ Some d → context_items d ≡ context_items c ++ i ∷ []

pub grows-none : (c : Context) (i : Item) → Grows c None i
grows-none c i d e = cc

pub grows-some : (c d : Context) (i : Item) → context_items d ≡ context_items c ++ i ∷ [] → Grows c (Some d) i
grows-some c d i h u e = (let same : d ≡ u = cc in ap context_items (sym same) ∙ h)

pub grows-if : (b : Bool) (c : Context) (x y : Option Context) (i : Item) → (b ≡ true → Grows c x i) → (b ≡ false → Grows c y i) → Grows c (if b then x else y) i
grows-if true c x y i p q = p refl
grows-if false c x y i p q = q refl

grows-when : (b : Bool) (c d : Context) (i : Item) → (b ≡ true → context_items d ≡ context_items c ++ i ∷ []) → Grows c (when b d) i
grows-when true c d i h = grows-some c d i (h refl)
grows-when false c d i h = grows-none c i

-- at another tail
pub tail-grows : (c : Context) (t : Tail) (i : Item) → tail_items t ≡ tail_items c.tail ++ i ∷ [] → context_items (at c t) ≡ context_items c ++ i ∷ []
tail-grows c t i e =
    ap (λ is. heads_items c.heads ++ (operations_items c.operations ++ (sign_items c.sign ++ is))) e
    ∙ go (heads_items c.heads) (operations_items c.operations) (sign_items c.sign) (tail_items c.tail)
  where
    go : (h o s a : List Item) → h ++ (o ++ (s ++ (a ++ i ∷ []))) ≡ (h ++ (o ++ (s ++ a))) ++ i ∷ []
    go h o s a = simp append_assoc

-- what was read of a context in which nothing stands before the operand
pub fresh-items : (c : Context) (is : List Item) → IsFresh c.operations c.sign → operations_items c.operations ++ (sign_items c.sign ++ is) ≡ is
fresh-items c is f = ap (λ o. operations_items o ++ (sign_items c.sign ++ is)) f.operations ∙ ap (λ s. sign_items s ++ is) f.sign

-- behind a head
pub head-grows : (c : Context) (h : Head) (i : Item) → IsFresh c.operations c.sign → head_items h ≡ tail_items c.tail ++ i ∷ [] → context_items (with_head c h) ≡ context_items c ++ i ∷ []
head-grows c h i f e =
    ap (λ is. (heads_items c.heads ++ head_items h) ++ is) (fresh-items c [] f)
    ∙ append-nil (heads_items c.heads ++ head_items h)
    ∙ ap (λ is. heads_items c.heads ++ is) e
    ∙ sym (append_assoc (heads_items c.heads) (tail_items c.tail) (i ∷ []))
    ∙ ap (λ is. (heads_items c.heads ++ is) ++ i ∷ []) (sym (fresh-items c (tail_items c.tail) f))

-- ---- what begins

stands-none : (c : Context) (before : Newline) → may_stand c before ≡ true → tail_items c.tail ≡ []
stands-none c before e = begin-tail c _ e

begins-none : (c : Context) (before : Newline) → may_begin_name c before ≡ true → tail_items c.tail ≡ []
begins-none c before e = go (is_param_limit c.limit) e where
  begun : (s : Tail) → is_begin s ≡ true → tail_items s ≡ []
  begun Begin f = refl
  begun _ f = cc

  go : (b : Bool) → (if b then is_begin c.tail else may_stand c before) ≡ true → tail_items c.tail ≡ []
  go true f = begun c.tail f
  go false f = stands-none c before f

behind-none : (s : Tail) (i : Item) → tail_items s ≡ [] → i ∷ [] ≡ tail_items s ++ i ∷ []
behind-none s i e = ap (λ is. is ++ i ∷ []) (sym e)

-- ---- the operand that ends

operand-is : (s : Tail) (prim : Prim) → operand_at s ≡ Some prim → prim_at s ≡ Some prim
operand-is (AtDot d point) prim e = cc
operand-is (InNew place t) prim e = cc
operand-is _ prim e = e

operand-chain : (c : Context) (d : Infix) → operand_chain c ≡ Some d → infix_items d ≡ chain_items c.operations c.sign (tail_items c.tail)
operand-chain c d e = go (operand_at c.tail) refl e where
  go : (o : Option Prim) → operand_at c.tail ≡ o → chain_of c.operations c.sign o ≡ Some d → infix_items d ≡ chain_items c.operations c.sign (tail_items c.tail)
  go None f g = cc
  go (Some prim) f g = chain-items c.operations c.sign c.tail d (ap (chain_of c.operations c.sign) (operand-is c.tail prim f) ∙ g)

eta-is : (c : Context) (prim : Prim) → eta_receiver c ≡ Some prim → prim_at c.tail ≡ Some prim
eta-is c prim e = go (is_new c.tail) (is_param_limit c.limit) e where
  go : (n b : Bool) → (if n then prim_at c.tail else (if b then None else receiver_at c.tail)) ≡ Some prim → prim_at c.tail ≡ Some prim
  go true b f = f
  go false true f = cc
  go false false f = receiver-is c.tail prim f

-- a Prim with a suffix
suffix-items : (c : Context) (prim : Prim) (i : Item) → prim_at c.tail ≡ Some prim → prim_items prim ++ i ∷ [] ≡ tail_items c.tail ++ i ∷ []
suffix-items c prim i e = ap (λ is. is ++ i ∷ []) (prim-read c.tail prim e)

-- ---- names

operated-grows : (c : Context) (id : Id) (o : Option Prim) → prim_at c.tail ≡ o → Grows c (operated c id o) (OneToken (id_token id))
operated-grows c id None e = grows-none c _
operated-grows c id (Some prim) e = grows-some c _ (OneToken (id_token id))
    (ap (λ is. heads_items c.heads ++ ((operations_items c.operations ++ (is ++ OneToken (id_token id) ∷ [])) ++ []))
    (signed-items c.sign prim ∙ ap (λ is. sign_items c.sign ++ is) (prim-read c.tail prim e))
    ∙ go (heads_items c.heads) (operations_items c.operations) (sign_items c.sign) (tail_items c.tail))
  where
    go : (h o s a : List Item) → h ++ ((o ++ ((s ++ a) ++ OneToken (id_token id) ∷ [])) ++ []) ≡ (h ++ (o ++ (s ++ a))) ++ OneToken (id_token id) ∷ []
    go h o s a = simp (append_assoc, append-nil)

behind-grows : (id : Id) (s : Tail) (c : Context) → c.tail ≡ s → Grows c (name_behind id s c) (OneToken (id_token id))
behind-grows id (AtDot prim point) c e =
    grows-some c _ _ (tail-grows c (AtPrim (SelectPrim prim point id)) (OneToken (id_token id))
    (sym (append_assoc (prim_items prim) (OneToken (dot point) ∷ []) (OneToken (id_token id) ∷ [])) ∙ ap (λ t. tail_items t ++ OneToken (id_token id) ∷ []) (sym e)))
behind-grows id (AtSuperDot place point) c e =
    grows-some c _ _ (tail-grows c (AtPrim (SuperPrim place point id)) (OneToken (id_token id)) (ap (λ t. tail_items t ++ OneToken (id_token id) ∷ []) (sym e)))
behind-grows id _ c e = grows-none c _

named-items : (id : Id) → tail_items (named_tail id) ≡ OneToken (id_token id) ∷ []
named-items id = go (is_prefix_id id) where
  go : (b : Bool) → tail_items (if b then AtSign id else AtName id false) ≡ OneToken (id_token id) ∷ []
  go true = refl
  go false = refl

pub id-grows : (id : Id) (c : Context) → Grows c (on_id id c) (OneToken (id_token id))
id-grows id c =
    grows-if (may_begin_name c id.place.before) c _ _ _
    (λ e. grows-some c _ _ (tail-grows c (named_tail id) (OneToken (id_token id)) (named-items id ∙ behind-none c.tail (OneToken (id_token id)) (begins-none c id.place.before e))))
    (λ e. grows-if (is_before_operator c.tail && (is_no id.place.before && (not (is_param_limit c.limit) && fits c.operations id))) c _ _ _
    (λ g. operated-grows c id (prim_at c.tail) refl) (λ g. behind-grows id c.tail c refl))

-- ---- operands of one token

pub literal-grows : (l : Literal) (c : Context) → Grows c (on_literal l c) (OneToken (literal_token l))
literal-grows l c =
    grows-when (may_stand c (literal_place l).before) c _ _
    (λ e. tail-grows c (AtPrim (LiteralPrim l)) (OneToken (literal_token l)) (behind-none c.tail (OneToken (literal_token l)) (stands-none c (literal_place l).before e)))

-- a sign alone before a number is a minus
abbrev pub MinusAt : Tail → Type 0
MinusAt (AtSign id) = id_token id ≡ lexemes.minus id.place
MinusAt _ = Unit {0}

pub number-grows : (n : Number) (s : Tail) (c : Context) → MinusAt s → c.tail ≡ s → Grows c (on_number n s c) (OneToken (number_token n))
number-grows n (AtSign id) c m e =
    grows-some c _ _ (tail-grows c (AtPrim (MinusPrim id.place n)) (OneToken (number_token n))
    (ap (λ x. OneToken x ∷ OneToken (number_token n) ∷ []) (sym m) ∙ ap (λ t. tail_items t ++ OneToken (number_token n) ∷ []) (sym e)))
number-grows n s c m e = λ d h. literal-grows (literal_of n) c d h ∙ ap (λ x. context_items c ++ OneToken x ∷ []) (number-literal n)

eta-grows : (place : Place) (c : Context) (o : Option Prim) → eta_receiver c ≡ o → Grows c (eta place c o) (OneToken (underscore place))
eta-grows place c None e = grows-none c _
eta-grows place c (Some prim) e =
    grows-some c _ _ (tail-grows c (AtPrim (EtaPrim prim place)) (OneToken (underscore place)) (suffix-items c prim (OneToken (underscore place)) (eta-is c prim e)))

pub underscore-grows : (place : Place) (c : Context) → Grows c (on_underscore place c) (OneToken (underscore place))
underscore-grows place c =
    grows-if (may_begin_name c place.before) c _ _ _
    (λ e. grows-some c _ _ (tail-grows c (AtWild place) (OneToken (underscore place)) (behind-none c.tail (OneToken (underscore place)) (begins-none c place.before e))))
    (λ e. grows-if (is_no place.before) c _ _ _ (λ g. eta-grows place c (eta_receiver c) refl) (λ g. grows-none c _))

-- ---- suffixes

dotted-grows : (point : Place) (c : Context) (o : Option Prim) → operand_at c.tail ≡ o → Grows c (dotted point c o) (OneToken (dot point))
dotted-grows point c None e = grows-none c _
dotted-grows point c (Some prim) e =
    grows-if (is_param_limit c.limit) c _ _ _ (λ g. grows-none c _)
    (λ g. grows-some c _ _ (tail-grows c (AtDot prim point) (OneToken (dot point)) (suffix-items c prim (OneToken (dot point)) (operand-is c.tail prim e))))

pub dot-grows : (point : Place) (s : Tail) (c : Context) → c.tail ≡ s → Grows c (on_dot point s c) (OneToken (dot point))
dot-grows point (AtSuper place) c e =
    grows-some c _ _ (tail-grows c (AtSuperDot place point) (OneToken (dot point)) (ap (λ t. tail_items t ++ OneToken (dot point) ∷ []) (sym e)))
dot-grows point s c e = dotted-grows point c (operand_at s) (ap operand_at e)

pub square-grows : (o : Place) (c : Context) (v : Option Prim) → operand_at c.tail ≡ v → Grows c (squared o c v) (OneToken (open_square o))
square-grows o c None e = grows-none c _
square-grows o c (Some prim) e =
    grows-if (is_param_limit c.limit) c _ _ _ (λ g. grows-none c _)
    (λ g. grows-some c _ _ (tail-grows c (InTypes prim o [] type_begun) (OneToken (open_square o)) (suffix-items c prim (OneToken (open_square o)) (operand-is c.tail prim e))))

pub types-grows : (y : Seen) (prim : Prim) (o : Place) (done : List types.Done) (t : types.State) (v : Option WrittenType) (c : Context) → type_of t ≡ v → c.tail ≡ InTypes prim o done t
    → Grows c (types_on y prim o done v c) (OneToken (shown_token y))
types-grows y prim o done t None c e f = grows-none c _
types-grows (AComma p) prim o done t (Some type) c e f =
    grows-some c _ _ (tail-grows c (InTypes prim o (record { type = type; place = p } ∷ done) type_begun) (OneToken (comma p))
    (ap (λ is. prim_items prim ++ OneToken (open_square o) ∷ (is ++ [])) (tokens-append (done_tokens done) (type_tokens type ++ comma p ∷ []) ∙ ap (λ is. tokens (done_tokens done) ++ is) (tokens-append (type_tokens type) (comma p ∷ [])))
    ∙ ap (λ xs. prim_items prim ++ OneToken (open_square o) ∷ ((tokens (done_tokens done) ++ (tokens xs ++ OneToken (comma p) ∷ [])) ++ [])) (typed-tokens t type e)
    ∙ go (prim_items prim) (tokens (done_tokens done)) (tokens (type_tokens_in t))
    ∙ ap (λ s. tail_items s ++ OneToken (comma p) ∷ []) (sym f)))
  where
    go : (a b d : List Item)
        → a ++ OneToken (open_square o) ∷ ((b ++ (d ++ OneToken (comma p) ∷ [])) ++ []) ≡ (a ++ OneToken (open_square o) ∷ (b ++ d)) ++ OneToken (comma p) ∷ []
    go a b d = simp (append_assoc, append-nil)
types-grows (ClosesSquare p) prim o done t (Some type) c e f =
    grows-some c _ _ (tail-grows c (AtPrim (TypeApplyPrim prim o (types.listed done (LastType type)) p)) (OneToken (close_square p))
    (ap (λ xs. prim_items prim ++ OneToken (open_square o) ∷ (tokens xs ++ OneToken (close_square p) ∷ [])) (types_sound.listed-tokens done (LastType type))
    ∙ ap (λ is. prim_items prim ++ OneToken (open_square o) ∷ (is ++ OneToken (close_square p) ∷ [])) (tokens-append (done_tokens done) (type_tokens type))
    ∙ ap (λ xs. prim_items prim ++ OneToken (open_square o) ∷ ((tokens (done_tokens done) ++ tokens xs) ++ OneToken (close_square p) ∷ [])) (typed-tokens t type e)
    ∙ sym (append_assoc (prim_items prim) (OneToken (open_square o) ∷ (tokens (done_tokens done) ++ tokens (type_tokens_in t))) (OneToken (close_square p) ∷ []))
    ∙ ap (λ s. tail_items s ++ OneToken (close_square p) ∷ []) (sym f)))
types-grows _ prim o done t (Some type) c e f = grows-none c _

-- ---- what ends an Infix

chain-grows : (c : Context) (d : Infix) (t : Tail) (i : Item) → operand_chain c ≡ Some d → tail_items t ≡ infix_items d ++ i ∷ [] → context_items (without_chain c t) ≡ context_items c ++ i ∷ []
chain-grows c d t i e h =
    ap (λ is. heads_items c.heads ++ is) (h ∙ ap (λ is. is ++ i ∷ []) (operand-chain c d e))
    ∙ sym (append_assoc (heads_items c.heads) (chain_items c.operations c.sign (tail_items c.tail)) (i ∷ []))

typed-chain-grows : (point : Place) (c : Context) (v : Option Infix) → operand_chain c ≡ v → Grows c (typed_chain point c v) (OneToken (colon point))
typed-chain-grows point c None e = grows-none c _
typed-chain-grows point c (Some d) e = grows-some c _ _ (chain-grows c d (InTyped (OfChain d) point type_begun) (OneToken (colon point)) e refl)

typed-grows : (point : Place) (first : Bool) (s : Tail) (c : Context) → c.tail ≡ s → Grows c (typed_from point first s c) (OneToken (colon point))
typed-grows point true (AtName id is_sign) c e =
    grows-some c _ _ (tail-grows c (InTyped (OfName id) point type_begun) (OneToken (colon point)) (ap (λ t. tail_items t ++ OneToken (colon point) ∷ []) (sym e)))
typed-grows point true (AtWild place) c e =
    grows-some c _ _ (tail-grows c (InTyped (OfWild place) point type_begun) (OneToken (colon point)) (ap (λ t. tail_items t ++ OneToken (colon point) ∷ []) (sym e)))
typed-grows point first s c e = typed-chain-grows point c (operand_chain c) refl

pub colon-grows : (point : Place) (c : Context) → Grows c (on_colon point c) (OneToken (colon point))
colon-grows point c =
    grows-if (is_expr_limit c.limit || is_param_limit c.limit) c _ _ _ (λ e. typed-grows point (is_first c) c.tail c refl) (λ e. grows-none c _)

match-grows : (p : Place) (c : Context) (v : Option Infix) → operand_chain c ≡ v → Grows c (matched p c v) (OneToken (lexemes.word_at (codes "match") p))
match-grows p c None e = grows-none c _
match-grows p c (Some d) e =
    grows-if (is_expr_limit c.limit) c _ _ _ (λ g. grows-some c _ _ (chain-grows c d (AtMatch d p) (OneToken (lexemes.word_at (codes "match") p)) e refl)) (λ g. grows-none c _)

-- ---- heads

equals-at-grows : (p : Place) (s : Tail) (c : Context) → c.tail ≡ s → IsFresh c.operations c.sign → Grows c (equals_at p s c) (OneToken (equals p))
equals-at-grows p (AtName id is_sign) c e f =
    grows-some c _ _ (head-grows c (Of (AssignName id p)) (OneToken (equals p)) f (ap (λ t. tail_items t ++ OneToken (equals p) ∷ []) (sym e)))
equals-at-grows p (AtPrim (SelectPrim prim point id)) c e f =
    grows-some c _ _ (head-grows c (Of (AssignSelect prim point id p)) (OneToken (equals p)) f
    (sym (append_assoc (prim_items prim) (OneToken (dot point) ∷ OneToken (id_token id) ∷ []) (OneToken (equals p) ∷ [])) ∙ ap (λ t. tail_items t ++ OneToken (equals p) ∷ []) (sym e)))
equals-at-grows p (AtCall prim args) c e f =
    grows-some c _ _ (head-grows c (Of (AssignApply prim args p)) (OneToken (equals p)) f (ap (λ t. tail_items t ++ OneToken (equals p) ∷ []) (sym e)))
equals-at-grows p _ c e f = grows-none c _

pub equals-grows : (p : Place) (c : Context) → Grows c (if may_head c then equals_at p c.tail c else None) (OneToken (equals p))
equals-grows p c = grows-if (may_head c) c _ _ _ (λ e. equals-at-grows p c.tail c refl (head-first c e)) (λ e. grows-none c _)

-- parameters in parentheses
param-items : (x : Element) (p : LPar) → element_param x ≡ Some p → tokens (lpar_tokens p) ≡ element_items x
param-items (ParamElement q) p e = (let same : q ≡ p = cc in ap (λ r. tokens (lpar_tokens r)) (sym same))
param-items (ExprElement x) p e = cc

params-read : (done : List DoneElement) (v : Option LPar) (bs : List (Behind LPar)) (x : Element) (lpars : Listed LPar) → element_param x ≡ v → params_before done v bs ≡ Some lpars
    → tokens (listed_tokens lpar_tokens lpars) ≡ done_elements_items done ++ (element_items x ++ tokens (behind_tokens lpar_tokens bs))
params-read [] (Some p) bs x lpars e h =
    let same : Items p bs ≡ lpars = cc in
    ap (λ l. tokens (listed_tokens lpar_tokens l)) (sym same) ∙ tokens-append (lpar_tokens p) (behind_tokens lpar_tokens bs) ∙ ap (λ is. is ++ tokens (behind_tokens lpar_tokens bs)) (param-items x p e)
params-read (d ∷ done) (Some p) bs x lpars e h =
    params-read done (element_param d.element) (record { comma = d.place; item = p } ∷ bs) d.element lpars refl h
    ∙ ap (λ is. done_elements_items done ++ (element_items d.element ++ OneToken (comma d.place) ∷ is)) (tokens-append (lpar_tokens p) (behind_tokens lpar_tokens bs) ∙ ap (λ is. is ++ tokens (behind_tokens lpar_tokens bs)) (param-items x p e))
    ∙ go (done_elements_items done) (element_items d.element) (element_items x) (tokens (behind_tokens lpar_tokens bs))
  where
    go : (a b s r : List Item) → a ++ (b ++ OneToken (comma d.place) ∷ (s ++ r)) ≡ (a ++ (b ++ OneToken (comma d.place) ∷ [])) ++ (s ++ r)
    go a b s r = simp append_assoc
params-read done None bs x lpars e h = cc

head-read : (s : Tail) (h : LamHead) → head_at s ≡ Some h → tokens (head_tokens h) ≡ tail_items s
head-read (AtSign id) h e = (let same : NamedHead id ≡ h = cc in ap (λ k. tokens (head_tokens k)) (sym same))
head-read (AtName id is_sign) h e = (let same : NamedHead id ≡ h = cc in ap (λ k. tokens (head_tokens k)) (sym same))
head-read (AtWild place) h e = (let same : WildHead place ≡ h = cc in ap (λ k. tokens (head_tokens k)) (sym same))
head-read (AtGroup o parens c may_be_head) h e = go may_be_head parens (params_of parens) refl e where
  go : (m : Bool) (ps : Parens) (v : Option (Listed LPar)) → params_of ps ≡ v → (if m then head_over o c v else None) ≡ Some h → tokens (head_tokens h) ≡ OneToken (open_round o) ∷ (parens_items ps ++ OneToken (close_round c) ∷ [])
  go true NoElements (Some lpars) f g =
      let none : Nothing ≡ lpars = cc in
      let same : LParHead o lpars c ≡ h = cc in
      ap (λ k. tokens (head_tokens k)) (sym same) ∙ ap (λ l. tokens (head_tokens (LParHead o l c))) (sym none)
  go true (Elements done x) (Some lpars) f g =
      let same : LParHead o lpars c ≡ h = cc in
      ap (λ k. tokens (head_tokens k)) (sym same)
      ∙ ap (λ is. OneToken (open_round o) ∷ is) (tokens-append (listed_tokens lpar_tokens lpars) (close_round c ∷ []) ∙ ap (λ is. is ++ OneToken (close_round c) ∷ [])
      (params-read done (element_param x) [] x lpars refl f ∙ ap (λ is. done_elements_items done ++ is) (append-nil (element_items x))))
  go true ps None f g = cc
  go false ps v f g = cc
head-read _ h e = cc

lambda-at-grows : (a : Arrow) (c : Context) (v : Option LamHead) → head_at c.tail ≡ v → IsFresh c.operations c.sign → Grows c (lambda a c v) (OneToken (arrow_token a))
lambda-at-grows a c None e f = grows-none c _
lambda-at-grows a c (Some h) e f =
    grows-some c _ _ (head-grows c (Of (Lambda h a)) (OneToken (arrow_token a)) f (ap (λ is. is ++ OneToken (arrow_token a) ∷ []) (head-read c.tail h e)))

pub lambda-grows : (a : Arrow) (c : Context) → Grows c (if may_head c then lambda a c (head_at c.tail) else None) (OneToken (arrow_token a))
lambda-grows a c = grows-if (may_head c) c _ _ _ (λ e. lambda-at-grows a c (head_at c.tail) refl (head-first c e)) (λ e. grows-none c _)

begun-none : (c : Context) → may_begin c ≡ true → tail_items c.tail ≡ []
begun-none c e = stands-none c No (and-left (may_stand c No) (may_head c) e)

begun-grows : (w : Word) (p : Place) (c : Context) → tail_items c.tail ≡ [] → IsFresh c.operations c.sign → Grows c (begun_with w p c) (OneToken (lexemes.word_at (word_text w) p))
begun-grows word.If p c e f = grows-some c _ _ (tail-grows c (AtAsker IfAsker p) _ (behind-none c.tail _ e))
begun-grows word.While p c e f = grows-some c _ _ (tail-grows c (AtAsker WhileAsker p) _ (behind-none c.tail _ e))
begun-grows word.For p c e f = grows-some c _ _ (tail-grows c (AtAsker ForAsker p) _ (behind-none c.tail _ e))
begun-grows word.Return p c e f = grows-some c _ _ (tail-grows c (AtReturn p) _ (behind-none c.tail _ e))
begun-grows word.Do p c e f = grows-some c _ _ (head-grows c (DoHead p) _ f (behind-none c.tail _ e))
begun-grows word.Try p c e f = grows-some c _ _ (head-grows c (Of (TryAlone p)) _ f (behind-none c.tail _ e))
begun-grows word.Throw p c e f = grows-some c _ _ (head-grows c (Of (ThrowOf p)) _ f (behind-none c.tail _ e))
begun-grows _ p c e f = grows-none c _

-- the `yield` of a `for` that stands before it
yielding-grows : (p : Place) (hs : List Head) (c : Context) → c.heads ≡ hs → tail_items c.tail ≡ [] → IsFresh c.operations c.sign → Grows c (yielding p hs c) (OneToken (lexemes.word_at (codes "yield") p))
yielding-grows p (Of (ForRound place o enums k None) ∷ hs) c e n f = grows-some c _ _
    (ap (λ is. is ++ []) (go (heads_items hs) (enums_items enums)) ∙ append-nil _ ∙ ap (λ gs. heads_items gs ++ OneToken (lexemes.word_at (codes "yield") p) ∷ []) (sym e)
    ∙ ap (λ is. is ++ OneToken (lexemes.word_at (codes "yield") p) ∷ []) (sym (append-nil (heads_items c.heads)) ∙ ap (λ is. heads_items c.heads ++ is) (sym (fresh-items c (tail_items c.tail) f ∙ n))))
  where
    go : (a b : List Item)
        → a ++ OneToken (lexemes.word_at (codes "for") place) ∷ OneToken (open_round o) ∷ (b ++ OneToken (close_round k) ∷ OneToken (lexemes.word_at (codes "yield") p) ∷ [])
        ≡ (a ++ OneToken (lexemes.word_at (codes "for") place) ∷ OneToken (open_round o) ∷ (b ++ OneToken (close_round k) ∷ [])) ++ OneToken (lexemes.word_at (codes "yield") p) ∷ []
    go a b = simp append_assoc
yielding-grows p (Of (ForCurly place o enums k None) ∷ hs) c e n f = grows-some c _ _
    (ap (λ is. is ++ []) (sym (append_assoc (heads_items hs) (OneToken (lexemes.word_at (codes "for") place) ∷ EnumsPair o enums k ∷ []) (OneToken (lexemes.word_at (codes "yield") p) ∷ [])))
    ∙ append-nil _ ∙ ap (λ gs. heads_items gs ++ OneToken (lexemes.word_at (codes "yield") p) ∷ []) (sym e)
    ∙ ap (λ is. is ++ OneToken (lexemes.word_at (codes "yield") p) ∷ []) (sym (append-nil (heads_items c.heads)) ∙ ap (λ is. heads_items c.heads ++ is) (sym (fresh-items c (tail_items c.tail) f ∙ n))))
yielding-grows p _ c e n f = grows-none c _

prim-word-items : (w : Word) (p : Place) → is_prim_word w ≡ true → tail_items (prim_word w p) ≡ OneToken (lexemes.word_at (word_text w) p) ∷ []
prim-word-items word.This p e = refl
prim-word-items word.Super p e = refl
prim-word-items word.New p e = refl
prim-word-items _ p e = cc

other-word-grows : (w : Word) (p : Place) (c : Context) → Grows c (if is_prim_word w then when (may_stand c p.before) (at c (prim_word w p)) else begins w p c) (OneToken (lexemes.word_at (word_text w) p))
other-word-grows w p c =
    grows-if (is_prim_word w) c _ _ _
    (λ e. grows-when (may_stand c p.before) c _ _ (λ g. tail-grows c (prim_word w p) _ (prim-word-items w p e ∙ behind-none c.tail _ (stands-none c p.before g))))
    (λ e. grows-if (may_begin c) c _ _ _ (λ g. begun-grows w p c (begun-none c g) (head-first c (begun-head c g))) (λ g. grows-none c _))

pub word-grows : (w : Word) (p : Place) (c : Context) → Grows c (derived.word_at w p c) (OneToken (lexemes.word_at (word_text w) p))
word-grows word.Match p c = match-grows p c (operand_chain c) refl
word-grows word.Yield p c = grows-if (may_begin c) c _ _ _ (λ e. yielding-grows p c.heads c refl (begun-none c e) (head-first c (begun-head c e))) (λ e. grows-none c _)
word-grows w p c = other-word-grows w p c
