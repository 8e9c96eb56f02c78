-- The tokens of the head of a lambda and of its arrow lead to where the head was read.
use Rattle.std.proofs.Common.{◌≡◌, nat_lt, Bool, true, false, ◌&&◌, ◌||◌, if◌then◌else◌, List, [], ◌∷◌, ◌++◌, length, Option, Some, None, refl, ap, sym, ◌∙◌, append_assoc}
use Rattle.std.specs.Prelude.{not, nat_le}
use Rattle.scan_tokens.specs.declared.tokens.Newline.{Newline}
use Rattle.source_grammar.specs.Definitions.{NoType, OfType, Behind, Nothing, Items, listed_tokens}
use Rattle.source_grammar.specs.Expressions.{LPar, NamedLPar, WildLPar, LamHead, NamedHead, WildHead, LParHead, Lambda}
use Rattle.source_grammar.specs.ExpressionRules.{is_prefix_id}
use Rattle.source_grammar.specs.ExpressionTokens.{lpar_tokens, head_tokens}
use Rattle.source_grammar.specs.Newlines.{is_near}
use Rattle.source_grammar.specs.Lexemes.{Place, Lexeme, open_round, close_round, comma, colon, underscore, Arrow, arrow_token, id_token}
use Rattle.parse_parts.proofs.Along as types_along
use Rattle.expr_tails.specs.declared.states.Limit.{Limit}
use Rattle.expr_tails.specs.declared.states.Limit.TheVariants as limit
use Rattle.expr_laws.proofs.Derived.{OneToken, ParamElement, DoneElement, NoElements, Elements, OfName, OfWild, Tail, Begin, AtSign, AtName, AtWild, AtGroup, InTyped, Of, Context, GroupBracket, Frame, State, type_begun, param_expr, params_before, head_over, headed_all, is_some, is_param_limit, is_expr_limit, is_first, may_head, may_stand, may_begin_name, typed_expr, at, fresh, state, in_state, with_head, named_tail, lambda, ended_expr, typed_element, expr_element, or_else, element_at, limit_behind, parted_group, closed_group, emptied, is_untouched, step}
use Rattle.expr_laws.proofs.GroupsAlong.{group, before, close-empty}
use Rattle.expr_laws.proofs.Items.{tokens}
use Rattle.expr_laws.proofs.Moving.{Leads, leads-none, leads-then, leads-on, leads-one, leads-as, tokens-append}
use Rattle.expr_laws.proofs.Settling.{settled_tail, settled, comma-step, close-step}
use Rattle.expr_laws.proofs.TokenSteps.{id-begins, underscore-begins, round-opens, colon-named, colon-wild, typed-leads, type-there, arrow-heads}

-- ---- one parameter

-- where a parameter was read
abbrev pub lpar_tail : LPar → Tail
lpar_tail (NamedLPar id NoType) = named_tail id
lpar_tail (NamedLPar id (OfType point type)) = InTyped (OfName id) point (types_along.after [] [] type)
lpar_tail (WildLPar place NoType) = AtWild place
lpar_tail (WildLPar place (OfType point type)) = InTyped (OfWild place) point (types_along.after [] [] type)

-- a parameter can stand in such a context
abbrev pub takes_params : Limit → Bool
takes_params l = is_expr_limit l || is_param_limit l

fresh-begins : (l : Limit) (before : Newline) → takes_params l ≡ true → may_begin_name (fresh l) before ≡ true
fresh-begins limit.Expr before h = refl
fresh-begins limit.Param before h = refl
fresh-begins _ before h = cc

pub lpar-along : (p : LPar) (l : Limit) → takes_params l ≡ true → (fs : List Frame) → Leads (tokens (lpar_tokens p)) (state fs (fresh l)) (state fs (at (fresh l) (lpar_tail p)))
lpar-along (NamedLPar id NoType) l h fs = leads-one (OneToken (id_token id)) _ _ (id-begins id fs (fresh l) (fresh-begins l id.place.before h))
lpar-along (NamedLPar id (OfType point type)) l h fs =
    leads-on (OneToken (id_token id)) _ _ (state fs (at (fresh l) (named_tail id))) _ (id-begins id fs (fresh l) (fresh-begins l id.place.before h))
    (leads-on (OneToken (colon point)) _ _ (state fs (at (fresh l) (InTyped (OfName id) point type_begun))) _ (colon-named id point fs (fresh l) refl h)
    (typed-leads type (OfName id) point fs (fresh l)))
lpar-along (WildLPar place NoType) l h fs = leads-one (OneToken (underscore place)) _ _ (underscore-begins place fs (fresh l) (fresh-begins l place.before h))
lpar-along (WildLPar place (OfType point type)) l h fs =
    leads-on (OneToken (underscore place)) _ _ (state fs (at (fresh l) (AtWild place))) _ (underscore-begins place fs (fresh l) (fresh-begins l place.before h))
    (leads-on (OneToken (colon point)) _ _ (state fs (at (fresh l) (InTyped (OfWild place) point type_begun))) _ (colon-wild place point fs (fresh l) refl h)
    (typed-leads type (OfWild place) point fs (fresh l)))

-- it is an expression too
pub lpar-ends : (p : LPar) (l : Limit) → ended_expr (at (fresh l) (lpar_tail p)) ≡ Some (param_expr p)
lpar-ends (NamedLPar id NoType) l = go (is_prefix_id id) where
  go : (b : Bool) → ended_expr (at (fresh l) (if b then AtSign id else AtName id false)) ≡ Some (param_expr (NamedLPar id NoType))
  go true = refl
  go false = refl
lpar-ends (NamedLPar id (OfType point type)) l = ap (λ o. headed_all [] (typed_expr (OfName id) point o)) (type-there type)
lpar-ends (WildLPar place NoType) l = refl
lpar-ends (WildLPar place (OfType point type)) l = ap (λ o. headed_all [] (typed_expr (OfWild place) point o)) (type-there type)

pub lpar-element : (p : LPar) (l : Limit) → element_at (settled (at (fresh l) (lpar_tail p))) ≡ Some (ParamElement p)
lpar-element (NamedLPar id NoType) l = go (is_prefix_id id) where
  go : (b : Bool) → element_at (at (fresh l) (settled_tail (if b then AtSign id else AtName id false))) ≡ Some (ParamElement (NamedLPar id NoType))
  go true = refl
  go false = refl
lpar-element (NamedLPar id (OfType point type)) l =
    ap (λ o. or_else (typed_element (NamedLPar id) point o) (expr_element (ended_expr (at (fresh l) (lpar_tail (NamedLPar id (OfType point type))))))) (type-there type)
lpar-element (WildLPar place NoType) l = refl
lpar-element (WildLPar place (OfType point type)) l =
    ap (λ o. or_else (typed_element (WildLPar place) point o) (expr_element (ended_expr (at (fresh l) (lpar_tail (WildLPar place (OfType point type))))))) (type-there type)

-- ---- parameters in parentheses

abbrev last_param : LPar → List (Behind LPar) → LPar
last_param p [] = p
last_param p (b ∷ bs) = last_param b.item bs

abbrev done_params : LPar → List (Behind LPar) → List DoneElement → List DoneElement
done_params p [] done = done
done_params p (b ∷ bs) done = done_params b.item bs (before (ParamElement p) b.comma ∷ done)

params-there : (p : LPar) (bs : List (Behind LPar)) (done : List DoneElement) → params_before (done_params p bs done) (Some (last_param p bs)) [] ≡ params_before done (Some p) bs
params-there p [] done = refl
params-there p (b ∷ bs) done = params-there b.item bs (before (ParamElement p) b.comma ∷ done)

behind-takes : (done : List DoneElement) → takes_params (limit_behind done) ≡ true
behind-takes done = go (nat_le 3 (length done)) where
  go : (b : Bool) → takes_params (if b then limit.Param else limit.Expr) ≡ true
  go true = refl
  go false = refl

-- behind a parameter and a comma there is room for another, however many there are
param-comma : (p o : Place) (done : List DoneElement) (c : Context) (fs : List Frame) (x : LPar)
    → step (state (group o done true c ∷ fs) (at (fresh (limit_behind done)) (lpar_tail x))) (OneToken (comma p))
    ≡ Some (state (group o (before (ParamElement x) p ∷ done) true c ∷ fs) (fresh (limit_behind (before (ParamElement x) p ∷ done))))
param-comma p o done c fs x =
    comma-step p (group o done true c ∷ fs) (at (fresh (limit_behind done)) (lpar_tail x)) (param_expr x) (lpar-ends x (limit_behind done))
    ∙ ap (λ k. parted_group p o done true k (at c Begin) fs) (lpar-element x (limit_behind done))
    ∙ go (nat_lt (length done) 2)
  where
    next : Option State
    next = Some (state (group o (before (ParamElement x) p ∷ done) true c ∷ fs) (fresh (limit_behind (before (ParamElement x) p ∷ done))))

    go : (b : Bool) → (if b || true then next else None) ≡ next
    go true = refl
    go false = refl

params-along : (p : LPar) (bs : List (Behind LPar)) (o : Place) (done : List DoneElement) (c : Context) (fs : List Frame)
    → Leads (tokens (listed_tokens lpar_tokens (Items p bs))) (state (group o done true c ∷ fs) (fresh (limit_behind done)))
    (state (group o (done_params p bs done) true c ∷ fs) (at (fresh (limit_behind (done_params p bs done))) (lpar_tail (last_param p bs))))
params-along p [] o done c fs =
    leads-as (tokens (lpar_tokens p) ++ []) _ _ _ (sym (tokens-append (lpar_tokens p) []))
    (leads-then (tokens (lpar_tokens p)) [] _ _ _ (lpar-along p (limit_behind done) (behind-takes done) (group o done true c ∷ fs)) (leads-none _))
params-along p (b ∷ bs) o done c fs =
    let next = before (ParamElement p) b.comma ∷ done in
    leads-as (tokens (lpar_tokens p) ++ OneToken (comma b.comma) ∷ tokens (listed_tokens lpar_tokens (Items b.item bs))) _ _ _
    (sym (tokens-append (lpar_tokens p) (comma b.comma ∷ listed_tokens lpar_tokens (Items b.item bs))))
    (leads-then (tokens (lpar_tokens p)) _ _ (state (group o done true c ∷ fs) (at (fresh (limit_behind done)) (lpar_tail p))) _
    (lpar-along p (limit_behind done) (behind-takes done) (group o done true c ∷ fs))
    (leads-on (OneToken (comma b.comma)) _ _ (state (group o next true c ∷ fs) (fresh (limit_behind next))) _ (param-comma b.comma o done c fs p)
    (params-along b.item bs o next c fs)))

-- what was read of a parameter
touched : (p : LPar) (l : Limit) → is_untouched (settled (at (fresh l) (lpar_tail p))) ≡ false
touched (NamedLPar id NoType) l = go (is_prefix_id id) where
  go : (b : Bool) → is_untouched (at (fresh l) (settled_tail (if b then AtSign id else AtName id false))) ≡ false
  go true = refl
  go false = refl
touched (NamedLPar id (OfType point type)) l = refl
touched (WildLPar place NoType) l = refl
touched (WildLPar place (OfType point type)) l = refl

param-close : (p o : Place) (done : List DoneElement) (c : Context) (fs : List Frame) (x : LPar)
    → step (state (group o done true c ∷ fs) (at (fresh (limit_behind done)) (lpar_tail x))) (OneToken (close_round p))
    ≡ Some (state fs (at c (AtGroup o (Elements done (ParamElement x)) p true)))
param-close p o done c fs x =
    let now = settled (at (fresh (limit_behind done)) (lpar_tail x)) in
    close-step p (group o done true c ∷ fs) (at (fresh (limit_behind done)) (lpar_tail x)) (param_expr x) (lpar-ends x (limit_behind done))
    ∙ ap (λ b. in_state fs (if b then emptied (GroupBracket o done true) p (at c Begin) else closed_group o done true (element_at now) p (at c Begin))) (touched x (limit_behind done))
    ∙ ap (λ k. in_state fs (closed_group o done true k p (at c Begin))) (lpar-element x (limit_behind done))

-- ---- heads

pub head-stands : (c : Context) (n : Newline) → may_head (at c Begin) ≡ true → may_stand (at c Begin) n ≡ true
head-stands c n h = go (is_first (at c Begin)) c.limit (is_some c.sign || is_near n) h where
  go : (b : Bool) (l : Limit) (r : Bool) → (b && is_expr_limit l) ≡ true → (not (is_param_limit l) && (b || r)) ≡ true
  go true limit.Expr r e = refl
  go true _ r e = cc
  go false l r e = cc

pub head-names : (c : Context) (n : Newline) → may_head (at c Begin) ≡ true → may_begin_name (at c Begin) n ≡ true
head-names c n m = go (is_param_limit c.limit) where
  go : (b : Bool) → (if b then true else may_stand (at c Begin) n) ≡ true
  go true = refl
  go false = head-stands c n m

-- parentheses that may become a head
opens : (o : Place) (fs : List Frame) (c : Context) → may_head (at c Begin) ≡ true
    → step (state fs (at c Begin)) (OneToken (open_round o)) ≡ Some (state (group o [] true c ∷ fs) (fresh limit.Expr))
opens o fs c m = round-opens o fs c (head-stands c o.before m) ∙ ap (λ b. Some (state (group o [] b c ∷ fs) (fresh limit.Expr))) m

same-items : (o : Place) (xs : List Lexeme) (k : Place) (a : Arrow)
    → OneToken (open_round o) ∷ (tokens xs ++ OneToken (close_round k) ∷ OneToken (arrow_token a) ∷ []) ≡ tokens (open_round o ∷ (xs ++ close_round k ∷ [])) ++ OneToken (arrow_token a) ∷ []
same-items o xs k a =
    ap (λ is. OneToken (open_round o) ∷ is)
    (sym (ap (λ is. is ++ OneToken (arrow_token a) ∷ []) (tokens-append xs (close_round k ∷ []))
    ∙ append_assoc (tokens xs) (OneToken (close_round k) ∷ []) (OneToken (arrow_token a) ∷ [])))

-- the tokens of a head and its arrow
pub head-along : (h : LamHead) (a : Arrow) (fs : List Frame) (c : Context) → may_head (at c Begin) ≡ true
    → Leads (tokens (head_tokens h) ++ OneToken (arrow_token a) ∷ []) (state fs (at c Begin)) (state fs (with_head (at c Begin) (Of (Lambda h a))))
head-along (NamedHead id) a fs c m =
    leads-on (OneToken (id_token id)) _ _ (state fs (at c (named_tail id))) _ (id-begins id fs c (head-names c id.place.before m))
    (leads-one (OneToken (arrow_token a)) _ _ (go (is_prefix_id id)))
  where
    go : (b : Bool) → step (state fs (at c (if b then AtSign id else AtName id false))) (OneToken (arrow_token a)) ≡ Some (state fs (with_head (at c Begin) (Of (Lambda (NamedHead id) a))))
    go true = arrow-heads a fs c (AtSign id) refl m
    go false = arrow-heads a fs c (AtName id false) refl m
head-along (WildHead place) a fs c m =
    leads-on (OneToken (underscore place)) _ _ (state fs (at c (AtWild place))) _ (underscore-begins place fs c (head-names c place.before m))
    (leads-one (OneToken (arrow_token a)) _ _ (arrow-heads a fs c (AtWild place) refl m))
head-along (LParHead o Nothing k) a fs c m =
    leads-on (OneToken (open_round o)) _ _ (state (group o [] true c ∷ fs) (fresh limit.Expr)) _ (opens o fs c m)
    (leads-on (OneToken (close_round k)) _ _ (state fs (at c (AtGroup o NoElements k true))) _ (close-empty k o true c fs)
    (leads-one (OneToken (arrow_token a)) _ _ (arrow-heads a fs c (AtGroup o NoElements k true) refl m)))
head-along (LParHead o (Items p bs) k) a fs c m =
    let xs = listed_tokens lpar_tokens (Items p bs) in
    let end = AtGroup o (Elements (done_params p bs []) (ParamElement (last_param p bs))) k true in
    leads-as (OneToken (open_round o) ∷ (tokens xs ++ OneToken (close_round k) ∷ OneToken (arrow_token a) ∷ [])) _ _ _ (same-items o xs k a)
    (leads-on (OneToken (open_round o)) _ _ (state (group o [] true c ∷ fs) (fresh limit.Expr)) _ (opens o fs c m)
    (leads-then (tokens xs) _ _ _ _ (params-along p bs o [] c fs)
    (leads-on (OneToken (close_round k)) _ _ (state fs (at c end)) _ (param-close k o (done_params p bs []) c fs (last_param p bs))
    (leads-one (OneToken (arrow_token a)) _ _
    (arrow-heads a fs c end refl m ∙ ap (λ ps. in_state fs (lambda a (at c end) (head_over o k ps))) (params-there p bs []))))))
