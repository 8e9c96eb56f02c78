-- What was read is the items of the derivations in the state, where a bracket is opened, parted or closed.
use Rattle.std.proofs.Common.{◌≡◌, nat_lt, Bool, true, false, ◌&&◌, ◌||◌, if◌then◌else◌, List, [], ◌∷◌, ◌++◌, length, Option, Some, None, refl, ap, sym, ◌∙◌, append_assoc, append-nil}
use Rattle.source_grammar.specs.Definitions.{TypePart, NoType, OfType}
use Rattle.source_grammar.specs.Expressions.{PrefixSign, LPar, NamedLPar, WildLPar, Expr, Prim, NewOf, Args, ExprArgs, ExprList, LastExpr, MoreExprs}
use Rattle.source_grammar.specs.ExpressionTokens.{lpar_tokens}
use Rattle.source_grammar.specs.Lexemes.{Place, Lexeme, open_round, close_round, comma, colon, underscore, id_token}
use Rattle.source_grammar.specs.Types.{WrittenType, type_tokens}
use Rattle.parse_parts.proofs.Derived as types
use Rattle.parse_parts.proofs.Sound.{tokens_in as type_tokens_in}
use Rattle.parse_patterns.specs.Steps.{is_no}
use Rattle.expr_tails.specs.declared.states.Limit.TheVariants as limit
use Rattle.expr_laws.proofs.Derived.{Item, OneToken, Operation, Element, ParamElement, ExprElement, DoneElement, DoneExpr, Elements, OfName, OfWild, IfAsker, WhileAsker, ForAsker, Tail, Begin, AtSign, AtName, AtWild, AtGroup, AtDot, InNew, AtNew, InTyped, AtAsker, AtUntil, AtEnded, Head, Context, PatPart, Bracket, GroupBracket, ArgsBracket, NewArgsBracket, IfTest, WhileTest, DoTest, GensBracket, Frame, State, type_of, prim_at, listed, is_nil, is_none, is_some, is_begin, is_param_limit, is_first, may_head, may_stand, receiver_at, at, fresh, state, in_state, with_head, ended_expr, typed_element, param_element, expr_element, or_else, element_at, is_param, limit_behind, parted_group, parted_args, parted_in, parted, closed_group, closed_args, behind_test, behind_until, frame, inner, opened_with, args_bracket, receiver, waiting_bracket, opened}
use Rattle.expr_laws.proofs.Fitting.{Fits}
use Rattle.expr_laws.proofs.Items.{tokens, expr_items, prim_items, args_items, expr_list_items}
use Rattle.expr_laws.proofs.PartsRead.{prim-read, expr-read}
use Rattle.expr_laws.proofs.Read.{element_items, done_elements_items, tail_items, head_items, heads_items, operations_items, sign_items, context_items, done_exprs_items, bracket_items, frames_items, items_in}
use Rattle.expr_laws.proofs.TypesRead.{typed-tokens}

-- ---- one item more

-- the state that a step gives has this item behind the others
abbrev pub Adds : Option State → List Item → Item → Type 0
Adds o is i = (s : State) → o ≡ Some s → items_in s ≡ is ++ i ∷ []

pub adds-none : (is : List Item) (i : Item) → Adds None is i
adds-none is i s e = cc

pub adds-some : (s : State) (is : List Item) (i : Item) → items_in s ≡ is ++ i ∷ [] → Adds (Some s) is i
adds-some s is i h t e = (let same : s ≡ t = cc in ap items_in (sym same) ∙ h)

pub adds-if : (b : Bool) (o p : Option State) (is : List Item) (i : Item) → (b ≡ true → Adds o is i) → (b ≡ false → Adds p is i) → Adds (if b then o else p) is i
adds-if true o p is i h k = h refl
adds-if false o p is i h k = k refl

-- what stands before a tail or a bracket
abbrev pub before_items : List Frame → Context → List Item → List Item
before_items fs c is = frames_items fs ++ (heads_items c.heads ++ (operations_items c.operations ++ (sign_items c.sign ++ is)))

pub before-more : (fs : List Frame) (c : Context) (old new more : List Item) → new ≡ old ++ more → before_items fs c new ≡ before_items fs c old ++ more
before-more fs c old new more e =
    ap (before_items fs c) e ∙ go (frames_items fs) (heads_items c.heads) (operations_items c.operations) (sign_items c.sign)
  where
    go : (f h o s : List Item) → f ++ (h ++ (o ++ (s ++ (old ++ more)))) ≡ (f ++ (h ++ (o ++ (s ++ old)))) ++ more
    go f h o s = simp append_assoc

-- a bracket is opened behind what was read at a tail
pub opened-bracket : (bracket : Bracket) (o : Place) (fs : List Frame) (c : Context) → context_items (inner bracket) ≡ [] → bracket_items bracket ≡ tail_items c.tail ++ OneToken (open_round o) ∷ []
    → Adds (opened_with (Some bracket) fs c) (items_in (state fs c)) (OneToken (open_round o))
opened-bracket bracket o fs c n e =
    adds-some _ _ _ (ap (λ is. before_items fs c (bracket_items bracket) ++ is) n ∙ append-nil (before_items fs c (bracket_items bracket))
    ∙ before-more fs c (tail_items c.tail) (bracket_items bracket) (OneToken (open_round o) ∷ []) e)

inner-none : (b : Bracket) → context_items (inner b) ≡ []
inner-none (GensBracket word o done part) = refl
inner-none _ = refl

waiting-adds : (o : Place) (fs : List Frame) (c : Context) (s : Tail) → s ≡ c.tail → Adds (opened_with (waiting_bracket o s) fs c) (items_in (state fs c)) (OneToken (open_round o))
waiting-adds o fs c (AtAsker IfAsker word) e = opened-bracket (IfTest word o) o fs c refl (ap (λ t. tail_items t ++ OneToken (open_round o) ∷ []) e)
waiting-adds o fs c (AtAsker WhileAsker word) e = opened-bracket (WhileTest word o) o fs c refl (ap (λ t. tail_items t ++ OneToken (open_round o) ∷ []) e)
waiting-adds o fs c (AtAsker ForAsker word) e = opened-bracket (GensBracket word o [] PatPart) o fs c refl (ap (λ t. tail_items t ++ OneToken (open_round o) ∷ []) e)
waiting-adds o fs c (AtUntil word body sep until) e = opened-bracket (DoTest word body sep until o) o fs c refl (ap (λ t. tail_items t ++ OneToken (open_round o) ∷ []) e)
waiting-adds o fs c (AtNew word type) e = go (is_no o.before) where
  go : (b : Bool) → Adds (opened_with (if b then Some (NewArgsBracket word type o []) else None) fs c) (items_in (state fs c)) (OneToken (open_round o))
  go true = opened-bracket (NewArgsBracket word type o []) o fs c refl (ap (λ t. tail_items t ++ OneToken (open_round o) ∷ []) e)
  go false = adds-none _ _
waiting-adds o fs c _ e = adds-none _ _

pub begin-tail : (c : Context) (b : Bool) → (is_begin c.tail && b) ≡ true → tail_items c.tail ≡ []
begin-tail c b h = go c.tail h where
  go : (s : Tail) → (is_begin s && b) ≡ true → tail_items s ≡ []
  go Begin h = refl
  go _ h = cc

pub receiver-is : (s : Tail) (prim : Prim) → receiver_at s ≡ Some prim → prim_at s ≡ Some prim
receiver-is (AtSign id) prim e = cc
receiver-is (AtName id true) prim e = cc
receiver-is (AtName id false) prim e = e
receiver-is (AtNew word type) prim e = cc
receiver-is (AtDot p point) prim e = cc
receiver-is (InNew word t) prim e = cc
receiver-is _ prim e = e

pub receiver-prim : (c : Context) (prim : Prim) → receiver c ≡ Some prim → prim_at c.tail ≡ Some prim
receiver-prim c prim e = go (is_param_limit c.limit) e where
  go : (b : Bool) → (if b then None else receiver_at c.tail) ≡ Some prim → prim_at c.tail ≡ Some prim
  go true f = cc
  go false f = receiver-is c.tail prim f

-- ---- elements

typed-read : (to : TypePart → LPar) (x : Lexeme) (point : Place) (t : types.State) (e : Element) (o : Option WrittenType)
    → ((type : WrittenType) → lpar_tokens (to (OfType point type)) ≡ x ∷ colon point ∷ type_tokens type) → type_of t ≡ o → typed_element to point o ≡ Some e
    → element_items e ≡ OneToken x ∷ OneToken (colon point) ∷ tokens (type_tokens_in t)
typed-read to x point t e None same f g = cc
typed-read to x point t e (Some type) same f g =
    let is : ParamElement (to (OfType point type)) ≡ e = cc in
    ap element_items (sym is) ∙ ap tokens (same type) ∙ ap (λ xs. OneToken x ∷ OneToken (colon point) ∷ tokens xs) (typed-tokens t type f)

-- a parameter that was read is what stands in its context
param-read : (c : Context) (x : Element) → param_element (is_first c && is_nil c.heads) c.tail ≡ Some x → element_items x ≡ context_items c
param-read c x e = go c.operations c.sign c.heads c.tail e where
  there : List Operation → Option PrefixSign → List Head → Tail → List Item
  there os sign hs s = heads_items hs ++ (operations_items os ++ (sign_items sign ++ tail_items s))

  go : (os : List Operation) (sign : Option PrefixSign) (hs : List Head) (s : Tail) → param_element ((is_nil os && is_none sign) && is_nil hs) s ≡ Some x → element_items x ≡ there os sign hs s
  go [] None [] (AtName id is_sign) f = (let is : ParamElement (NamedLPar id NoType) ≡ x = cc in ap element_items (sym is))
  go [] None [] (AtWild place) f = (let is : ParamElement (WildLPar place NoType) ≡ x = cc in ap element_items (sym is))
  go [] None [] (InTyped (OfName id) point t) f = typed-read (NamedLPar id) (id_token id) point t x (type_of t) (λ type. refl) refl f
  go [] None [] (InTyped (OfWild place) point t) f = typed-read (WildLPar place) (underscore place) point t x (type_of t) (λ type. refl) refl f
  go [] None [] _ f = cc
  go [] None (h ∷ hs) s f = cc
  go [] (Some sign) hs s f = cc
  go (o ∷ os) sign hs s f = cc

listed-items : (done : List DoneExpr) (exprs : ExprList) → expr_list_items (listed done exprs) ≡ done_exprs_items done ++ expr_list_items exprs
listed-items [] exprs = refl
listed-items (d ∷ done) exprs =
    listed-items done (MoreExprs d.expr d.place exprs) ∙ go (OneToken (comma d.place)) (done_exprs_items done) (expr_items d.expr) (expr_list_items exprs)
  where
    go : (i : Item) (a b e : List Item) → a ++ (b ++ i ∷ e) ≡ (a ++ (b ++ i ∷ [])) ++ e
    go i a b e = simp append_assoc

-- what is in a bracket goes on behind what was read in it
pub bracket-more : (fs : List Frame) (outer : Context) (bracket : Bracket) (inside new : List Item) (i : Item) → new ≡ bracket_items bracket ++ (inside ++ i ∷ [])
    → before_items fs outer new ≡ (frames_items (frame bracket outer ∷ fs) ++ inside) ++ i ∷ []
bracket-more fs outer bracket inside new i e =
    before-more fs outer (bracket_items bracket) new (inside ++ i ∷ []) e ∙ sym (append_assoc (frames_items (frame bracket outer ∷ fs)) inside (i ∷ []))

-- an element more in an open bracket
pub parted-bracket : (fs : List Frame) (outer c : Context) (bracket next : Bracket) (i : Item) (now : Context) → context_items now ≡ [] → bracket_items next ≡ bracket_items bracket ++ (context_items c ++ i ∷ [])
    → Adds (Some (state (frame next outer ∷ fs) now)) (items_in (state (frame bracket outer ∷ fs) c)) i
parted-bracket fs outer c bracket next i now n e =
    adds-some _ _ _ (ap (λ is. before_items fs outer (bracket_items next) ++ is) n ∙ append-nil (before_items fs outer (bracket_items next))
    ∙ bracket-more fs outer bracket (context_items c) (bracket_items next) i e)

-- a bracket that is closed, where a tail takes its place
pub closed-bracket : (fs : List Frame) (outer c : Context) (bracket : Bracket) (s : Tail) (i : Item) → tail_items s ≡ bracket_items bracket ++ (context_items c ++ i ∷ [])
    → Adds (Some (state fs (at outer s))) (items_in (state (frame bracket outer ∷ fs) c)) i
closed-bracket fs outer c bracket s i e = adds-some _ _ _ (bracket-more fs outer bracket (context_items c) (tail_items s) i e)

-- where a head takes its place, which is the first of its chain
pub headed-bracket : (fs : List Frame) (outer c : Context) (bracket : Bracket) (h : Head) (i : Item) → is_first outer ≡ true → head_items h ≡ bracket_items bracket ++ (context_items c ++ i ∷ [])
    → Adds (Some (state fs (with_head outer h))) (items_in (state (frame bracket outer ∷ fs) c)) i
headed-bracket fs outer c bracket h i first e =
    adds-some _ _ _ (go outer.operations outer.sign first ∙ bracket-more fs outer bracket (context_items c) (head_items h) i e)
  where
    go : (os : List Operation) (sign : Option PrefixSign) → (is_nil os && is_none sign) ≡ true
        → frames_items fs ++ ((heads_items outer.heads ++ head_items h) ++ (operations_items os ++ (sign_items sign ++ [])))
        ≡ frames_items fs ++ (heads_items outer.heads ++ (operations_items os ++ (sign_items sign ++ head_items h)))
    go [] None f = ap (λ is. frames_items fs ++ is) (append-nil (heads_items outer.heads ++ head_items h))
    go [] (Some sign) f = cc
    go (o ∷ os) sign f = cc

-- ---- the brackets of expressions

pub opened-adds : (o : Place) (fs : List Frame) (c : Context) → Adds (opened o fs c) (items_in (state fs c)) (OneToken (open_round o))
opened-adds o fs c =
    adds-if (is_some (receiver c)) _ _ _ _ (λ h. called (receiver c) refl)
    (λ h. adds-if (may_stand c o.before) _ _ _ _
    (λ k. opened-bracket (GroupBracket o [] (may_head c)) o fs c refl (ap (λ is. is ++ OneToken (open_round o) ∷ []) (sym (begin-tail c _ k))))
    (λ k. waiting-adds o fs c c.tail refl))
  where
    called : (k : Option Prim) → receiver c ≡ k → Adds (opened_with (args_bracket o k) fs c) (items_in (state fs c)) (OneToken (open_round o))
    called None e = adds-none _ _
    called (Some prim) e = go (is_no o.before) where
      go : (b : Bool) → Adds (opened_with (if b then Some (ArgsBracket prim o []) else None) fs c) (items_in (state fs c)) (OneToken (open_round o))
      go true = opened-bracket (ArgsBracket prim o []) o fs c refl (ap (λ is. is ++ OneToken (open_round o) ∷ []) (prim-read c.tail prim (receiver-prim c prim e)))
      go false = adds-none _ _

pub element-read : (c : Context) (x : Element) → Fits c → element_at c ≡ Some x → element_items x ≡ context_items c
element-read c x fit e = go (param_element (is_first c && is_nil c.heads) c.tail) (ended_expr c) refl refl e where
  go : (o : Option Element) (k : Option Expr) → param_element (is_first c && is_nil c.heads) c.tail ≡ o → ended_expr c ≡ k → or_else o (expr_element k) ≡ Some x → element_items x ≡ context_items c
  go (Some y) k f g h = param-read c x (f ∙ h)
  go None None f g h = cc
  go None (Some d) f g h = (let is : ExprElement d ≡ x = cc in ap element_items (sym is) ∙ expr-read c d fit g)

group-parted : (p o : Place) (done : List DoneElement) (head : Bool) (k : Option Element) (c outer : Context) (fs : List Frame) → Fits c → element_at c ≡ k
    → Adds (parted_group p o done head k outer fs) (items_in (state (frame (GroupBracket o done head) outer ∷ fs) c)) (OneToken (comma p))
group-parted p o done head None c outer fs fit e = adds-none _ _
group-parted p o done head (Some x) c outer fs fit e =
    adds-if (nat_lt (length done) 2 || (head && is_param x)) _ _ _ _
    (λ h. parted-bracket fs outer c (GroupBracket o done head) (GroupBracket o (record { element = x; place = p } ∷ done) (head && is_param x)) (OneToken (comma p))
    (fresh (limit_behind (record { element = x; place = p } ∷ done))) refl
    (ap (λ is. OneToken (open_round o) ∷ (done_elements_items done ++ (is ++ OneToken (comma p) ∷ []))) (element-read c x fit e)))
    (λ h. adds-none _ _)

args-parted : (p : Place) (bracket : List DoneExpr → Bracket) (done : List DoneExpr) (k : Option Expr) (c outer : Context) (fs : List Frame) → Fits c → ended_expr c ≡ k
    → ((d : DoneExpr) → bracket_items (bracket (d ∷ done)) ≡ bracket_items (bracket done) ++ (expr_items d.expr ++ OneToken (comma d.place) ∷ []))
    → Adds (parted_args p bracket done k outer fs) (items_in (state (frame (bracket done) outer ∷ fs) c)) (OneToken (comma p))
args-parted p bracket done None c outer fs fit e more = adds-none _ _
args-parted p bracket done (Some d) c outer fs fit e more =
    parted-bracket fs outer c (bracket done) (bracket (record { expr = d; place = p } ∷ done)) (OneToken (comma p)) (fresh limit.Expr) refl
    (more (record { expr = d; place = p }) ∙ ap (λ is. bracket_items (bracket done) ++ (is ++ OneToken (comma p) ∷ [])) (expr-read c d fit e))

pub parted-adds : (p : Place) (fs : List Frame) (c : Context) → Fits c → Adds (parted p fs c) (items_in (state fs c)) (OneToken (comma p))
parted-adds p [] c fit = adds-none _ _
parted-adds p (f ∷ fs) c fit = go f.bracket where
  go : (b : Bracket) → Adds (parted_in p b c f.outer fs) (items_in (state (frame b f.outer ∷ fs) c)) (OneToken (comma p))
  go (GroupBracket o done head) = group-parted p o done head (element_at c) c f.outer fs fit refl
  go (ArgsBracket prim o done) =
      args-parted p (ArgsBracket prim o) done (ended_expr c) c f.outer fs fit refl
      (λ d. sym (append_assoc (prim_items prim) (OneToken (open_round o) ∷ done_exprs_items done) (expr_items d.expr ++ OneToken (comma d.place) ∷ [])))
  go (NewArgsBracket word type o done) =
      args-parted p (NewArgsBracket word type o) done (ended_expr c) c f.outer fs fit refl
      (λ d. sym (append_assoc (prim_items (NewOf word type)) (OneToken (open_round o) ∷ done_exprs_items done) (expr_items d.expr ++ OneToken (comma d.place) ∷ [])))
  go _ = adds-none _ _

pub group-closed : (o : Place) (done : List DoneElement) (head : Bool) (k : Option Element) (p : Place) (c outer : Context) (fs : List Frame) → Fits c → element_at c ≡ k
    → Adds (in_state fs (closed_group o done head k p outer)) (items_in (state (frame (GroupBracket o done head) outer ∷ fs) c)) (OneToken (close_round p))
group-closed o done head None p c outer fs fit e = adds-none _ _
group-closed o done head (Some x) p c outer fs fit e =
    closed-bracket fs outer c (GroupBracket o done head) (AtGroup o (Elements done x) p (head && is_param x)) (OneToken (close_round p))
    (ap (λ is. OneToken (open_round o) ∷ ((done_elements_items done ++ is) ++ OneToken (close_round p) ∷ [])) (element-read c x fit e)
    ∙ ap (λ is. OneToken (open_round o) ∷ is) (append_assoc (done_elements_items done) (context_items c) (OneToken (close_round p) ∷ [])))

pub args-closed : (bracket : Bracket) (to : Args → Tail) (front : List Item) (o : Place) (done : List DoneExpr) (k : Option Expr) (p : Place) (c outer : Context) (fs : List Frame) → Fits c → ended_expr c ≡ k
    → ((args : Args) → tail_items (to args) ≡ front ++ args_items args) → bracket_items bracket ≡ front ++ OneToken (open_round o) ∷ done_exprs_items done
    → Adds (in_state fs (closed_args to o done k p outer)) (items_in (state (frame bracket outer ∷ fs) c)) (OneToken (close_round p))
args-closed bracket to front o done None p c outer fs fit e tails brackets = adds-none _ _
args-closed bracket to front o done (Some d) p c outer fs fit e tails brackets =
    closed-bracket fs outer c bracket (to (ExprArgs o (listed done (LastExpr d)) p)) (OneToken (close_round p))
    (tails (ExprArgs o (listed done (LastExpr d)) p)
    ∙ ap (λ is. front ++ OneToken (open_round o) ∷ (is ++ OneToken (close_round p) ∷ [])) (listed-items done (LastExpr d) ∙ ap (λ is. done_exprs_items done ++ is) (expr-read c d fit e))
    ∙ go (done_exprs_items done) (context_items c)
    ∙ ap (λ is. is ++ (context_items c ++ OneToken (close_round p) ∷ [])) (sym brackets))
  where
    go : (a b : List Item) → front ++ OneToken (open_round o) ∷ ((a ++ b) ++ OneToken (close_round p) ∷ []) ≡ (front ++ OneToken (open_round o) ∷ a) ++ (b ++ OneToken (close_round p) ∷ [])
    go a b = simp append_assoc

pub test-closed : (bracket : Bracket) (to : Expr → Head) (k : Option Expr) (p : Place) (c outer : Context) (fs : List Frame) → Fits c → ended_expr c ≡ k → is_first outer ≡ true
    → ((e : Expr) → head_items (to e) ≡ bracket_items bracket ++ (expr_items e ++ OneToken (close_round p) ∷ []))
    → Adds (in_state fs (behind_test outer to k)) (items_in (state (frame bracket outer ∷ fs) c)) (OneToken (close_round p))
test-closed bracket to None p c outer fs fit e first heads = adds-none _ _
test-closed bracket to (Some d) p c outer fs fit e first heads =
    headed-bracket fs outer c bracket (to d) (OneToken (close_round p)) first (heads d ∙ ap (λ is. bracket_items bracket ++ (is ++ OneToken (close_round p) ∷ [])) (expr-read c d fit e))

pub until-closed : (bracket : Bracket) (to : Expr → Expr) (k : Option Expr) (p : Place) (c outer : Context) (fs : List Frame) → Fits c → ended_expr c ≡ k
    → ((e : Expr) → expr_items (to e) ≡ bracket_items bracket ++ (expr_items e ++ OneToken (close_round p) ∷ []))
    → Adds (in_state fs (behind_until outer to k)) (items_in (state (frame bracket outer ∷ fs) c)) (OneToken (close_round p))
until-closed bracket to None p c outer fs fit e same = adds-none _ _
until-closed bracket to (Some d) p c outer fs fit e same =
    closed-bracket fs outer c bracket (AtEnded (to d)) (OneToken (close_round p)) (same d ∙ ap (λ is. bracket_items bracket ++ (is ++ OneToken (close_round p) ∷ [])) (expr-read c d fit e))
