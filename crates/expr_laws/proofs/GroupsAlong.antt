-- The tokens of parentheses lead to where these were read: as the head of a lambda, as a Prim, or as both until the next token.
use Rattle.std.proofs.Common.{◌≡◌, nat_lt, Bool, true, false, ◌&&◌, ◌||◌, if◌then◌else◌, List, [], ◌∷◌, length, Option, Some, None, refl, ap, ◌∙◌}
use Rattle.source_grammar.specs.Definitions.{NoType, OfType}
use Rattle.source_grammar.specs.Expressions.{NamedLPar, WildLPar, PrefixSign, Expr, InfixExpr, TypedExpr, Prim, NamePrim, Placeholder, UnitPrim, ExprInParentheses, PairPrim, TriplePrim}
use Rattle.source_grammar.specs.Lexemes.{Place, open_round, close_round, comma, Id}
use Rattle.source_grammar.specs.Types.{WrittenType}
use Rattle.parse_parts.proofs.Derived as types
use Rattle.expr_tails.specs.declared.states.Limit.{Limit}
use Rattle.expr_tails.specs.declared.states.Limit.TheVariants as limit
use Rattle.expr_laws.proofs.Behind.{Fresh}
use Rattle.expr_laws.proofs.Derived.{Item, OneToken, Operation, Element, ParamElement, ExprElement, DoneElement, NoElements, Elements, OfName, OfWild, Tail, Begin, AtName, AtWild, AtGroup, InTyped, Head, Context, GroupBracket, Frame, type_of, alone, element_expr, prim_at, is_nil, is_first, may_head, may_stand, at, fresh, state, in_state, typed_expr, ended_expr, typed_element, param_element, expr_element, or_else, element_at, is_param, limit_behind, parted_group, is_untouched, closed_group, frame, step, headed_all, emptied}
use Rattle.expr_laws.proofs.Items.{expr_items, prim_items}
use Rattle.expr_laws.proofs.Moving.{Leads, leads-then, leads-on, leads-one}
use Rattle.expr_laws.proofs.Settling.{settled, settled-ended, comma-step, close-step}
use Rattle.expr_laws.proofs.Seen.{ClosesRound, seen-close_round}
use Rattle.expr_laws.proofs.TokenSteps.{begin-step, round-opens}

-- ---- what is taken of expressions

-- this expression is read from the beginning of a bracket
pub record ExprEnds (e : Expr) : Type 0 where
  pub end : Context
  pub leads : (fs : List Frame) → Leads (expr_items e) (state fs (fresh limit.Expr)) (state fs end)
  pub ends : ended_expr end ≡ Some e

-- these items lead to where this Prim ends
pub record PrimEnds (items : List Item) (d : Prim) (c : Context) : Type 0 where
  pub tail : Tail
  pub leads : (fs : List Frame) → Leads items (state fs (at c Begin)) (state fs (at c tail))
  pub there : prim_at tail ≡ Some d
  pub named : Fresh tail

-- ---- elements

-- the element that ends here is this expression, and maybe a parameter
pub record IsElement (c : Context) (e : Expr) : Type 0 where
  pub element : Element
  pub found : element_at c ≡ Some element
  pub same : element_expr element ≡ e

abbrev context : List Operation → Option PrefixSign → List Head → Tail → Limit → Context
context os sign hs tail l = record { heads = hs; operations = os; sign = sign; tail = tail; limit = l }

plain-is : (c : Context) (e : Expr) → param_element (is_first c && is_nil c.heads) c.tail ≡ None → ended_expr c ≡ Some e → IsElement c e
plain-is c e p h = record { element = ExprElement e; found = ap (λ o. or_else o (expr_element (ended_expr c))) p ∙ ap expr_element h; same = refl }

-- an element that is a parameter with its type
name-typed : (c : Context) (id : Id) (point : Place) (t : types.State) (e : Expr) (l : Limit) (o : Option WrittenType) → type_of t ≡ o → headed_all [] (typed_expr (OfName id) point o) ≡ Some e
    → IsElement (context [] None [] (InTyped (OfName id) point t) l) e
name-typed c id point t e l None f h = cc
name-typed c id point t e l (Some type) f h =
    let same : TypedExpr (alone (NamePrim id)) point type ≡ e = cc in
    record {
      element = ParamElement (NamedLPar id (OfType point type));
      found = ap (λ o. or_else (typed_element (NamedLPar id) point o) (expr_element (ended_expr (context [] None [] (InTyped (OfName id) point t) l)))) f;
      same = same;
    }

wild-typed : (c : Context) (place point : Place) (t : types.State) (e : Expr) (l : Limit) (o : Option WrittenType) → type_of t ≡ o → headed_all [] (typed_expr (OfWild place) point o) ≡ Some e
    → IsElement (context [] None [] (InTyped (OfWild place) point t) l) e
wild-typed c place point t e l None f h = cc
wild-typed c place point t e l (Some type) f h =
    let same : TypedExpr (alone (Placeholder place)) point type ≡ e = cc in
    record {
      element = ParamElement (WildLPar place (OfType point type));
      found = ap (λ o. or_else (typed_element (WildLPar place) point o) (expr_element (ended_expr (context [] None [] (InTyped (OfWild place) point t) l)))) f;
      same = same;
    }

pub element-is : (c : Context) (e : Expr) → ended_expr c ≡ Some e → IsElement c e
element-is c e h = go c.operations c.sign c.heads c.tail h where
  go : (os : List Operation) (sign : Option PrefixSign) (hs : List Head) (s : Tail) → ended_expr (context os sign hs s c.limit) ≡ Some e → IsElement (context os sign hs s c.limit) e
  go [] None [] (AtName id is_sign) f = (let same : InfixExpr (alone (NamePrim id)) ≡ e = cc in record { element = ParamElement (NamedLPar id NoType); found = refl; same = same })
  go [] None [] (AtWild place) f = (let same : InfixExpr (alone (Placeholder place)) ≡ e = cc in record { element = ParamElement (WildLPar place NoType); found = refl; same = same })
  go [] None [] (InTyped (OfName id) point t) f = name-typed c id point t e c.limit (type_of t) refl f
  go [] None [] (InTyped (OfWild place) point t) f = wild-typed c place point t e c.limit (type_of t) refl f
  go [] None [] s f = plain-is (context [] None [] s c.limit) e refl f
  go [] None (k ∷ hs) s f = plain-is (context [] None (k ∷ hs) s c.limit) e refl f
  go [] (Some sign) hs s f = plain-is (context [] (Some sign) hs s c.limit) e refl f
  go (o ∷ os) sign hs s f = plain-is (context (o ∷ os) sign hs s c.limit) e refl f

-- the element that is read where this expression was
abbrev ended_element : (e : Expr) (r : ExprEnds e) → IsElement (settled r.end) e
ended_element e r = element-is (settled r.end) e (settled-ended r.end r.end.tail e r.ends)

-- ---- parentheses of expressions

abbrev pub group : Place → List DoneElement → Bool → Context → Frame
group o done head c = frame (GroupBracket o done head) (at c Begin)

abbrev pub before : Element → Place → DoneElement
before x p = record { element = x; place = p }

-- behind an element and a comma there is room for another
comma-on : (p o : Place) (done : List DoneElement) (head : Bool) (c : Context) (fs : List Frame) (e : Expr) (r : ExprEnds e) → nat_lt (length done) 2 ≡ true
    → (let x = (ended_element e r).element in step (state (group o done head c ∷ fs) r.end) (OneToken (comma p))
    ≡ Some (state (group o (before x p ∷ done) (head && is_param x) c ∷ fs) (fresh (limit_behind (before x p ∷ done)))))
comma-on p o done head c fs e r few =
    let x = ended_element e r in
    comma-step p (group o done head c ∷ fs) r.end e r.ends
    ∙ ap (λ k. parted_group p o done head k (at c Begin) fs) x.found
    ∙ ap (λ b. if b || (head && is_param x.element)
    then Some (state (group o (before x.element p ∷ done) (head && is_param x.element) c ∷ fs) (fresh (limit_behind (before x.element p ∷ done)))) else None) few

-- a context in which something was read is not as it began
pub touched : (c : Context) (e : Expr) → ended_expr c ≡ Some e → is_untouched c ≡ false
touched c e h = go c.operations c.sign c.heads c.tail h where
  go : (os : List Operation) (sign : Option PrefixSign) (hs : List Head) (s : Tail) → ended_expr (context os sign hs s c.limit) ≡ Some e → is_untouched (context os sign hs s c.limit) ≡ false
  go [] None [] Begin f = cc
  go [] None [] s f = refl
  go [] None (k ∷ hs) s f = refl
  go [] (Some sign) hs s f = refl
  go (o ∷ os) sign hs s f = refl

close-on : (p o : Place) (done : List DoneElement) (head : Bool) (c : Context) (fs : List Frame) (e : Expr) (r : ExprEnds e)
    → (let x = (ended_element e r).element in
    step (state (group o done head c ∷ fs) r.end) (OneToken (close_round p)) ≡ Some (state fs (at c (AtGroup o (Elements done x) p (head && is_param x)))))
close-on p o done head c fs e r =
    let x = ended_element e r in
    close-step p (group o done head c ∷ fs) r.end e r.ends
    ∙ ap (λ b. in_state fs (if b then emptied_as else closed_group o done head (element_at (settled r.end)) p (at c Begin))) (touched (settled r.end) e (settled-ended r.end r.end.tail e r.ends))
    ∙ ap (λ k. in_state fs (closed_group o done head k p (at c Begin))) x.found
  where
    emptied_as : Option Context
    emptied_as = emptied (GroupBracket o done head) p (at c Begin)

pub close-empty : (k o : Place) (head : Bool) (c : Context) (fs : List Frame)
    → step (state (group o [] head c ∷ fs) (fresh limit.Expr)) (OneToken (close_round k)) ≡ Some (state fs (at c (AtGroup o NoElements k head)))
close-empty k o head c fs = begin-step (close_round k) (ClosesRound k) (seen-close_round k) (group o [] head c ∷ fs) (fresh limit.Expr)

pub unit-along : (o k : Place) (c : Context) → may_stand (at c Begin) o.before ≡ true → PrimEnds (prim_items (UnitPrim o k)) (UnitPrim o k) c
unit-along o k c h =
    let head = may_head (at c Begin) in
    record {
      tail = AtGroup o NoElements k head;
      leads = λ fs.
          leads-on (OneToken (open_round o)) _ _ (state (group o [] head c ∷ fs) (fresh limit.Expr)) _ (round-opens o fs c h)
          (leads-one (OneToken (close_round k)) _ _ (close-empty k o head c fs));
      there = refl;
      named = tt;
    }

pub paren-along : (o k : Place) (e : Expr) → ExprEnds e → (c : Context) → may_stand (at c Begin) o.before ≡ true
    → PrimEnds (prim_items (ExprInParentheses o e k)) (ExprInParentheses o e k) c
paren-along o k e r c h =
    let x = ended_element e r in
    let head = may_head (at c Begin) in
    record {
      tail = AtGroup o (Elements [] x.element) k (head && is_param x.element);
      leads = λ fs.
          leads-on (OneToken (open_round o)) _ _ (state (group o [] head c ∷ fs) (fresh limit.Expr)) _ (round-opens o fs c h)
          (leads-then (expr_items e) _ _ (state (group o [] head c ∷ fs) r.end) _ (r.leads (group o [] head c ∷ fs))
          (leads-one (OneToken (close_round k)) _ _ (close-on k o [] head c fs e r)));
      there = ap (λ d. Some (ExprInParentheses o d k)) x.same;
      named = tt;
    }

pub pair-along : (o p k : Place) (a b : Expr) → ExprEnds a → ExprEnds b → (c : Context) → may_stand (at c Begin) o.before ≡ true
    → PrimEnds (prim_items (PairPrim o a p b k)) (PairPrim o a p b k) c
pair-along o p k a b r s c h =
    let x = ended_element a r in
    let y = ended_element b s in
    let head = may_head (at c Begin) in
    let done = before x.element p ∷ [] in
    let next = head && is_param x.element in
    record {
      tail = AtGroup o (Elements done y.element) k (next && is_param y.element);
      leads = λ fs.
          leads-on (OneToken (open_round o)) _ _ (state (group o [] head c ∷ fs) (fresh limit.Expr)) _ (round-opens o fs c h)
          (leads-then (expr_items a) _ _ (state (group o [] head c ∷ fs) r.end) _ (r.leads (group o [] head c ∷ fs))
          (leads-on (OneToken (comma p)) _ _ (state (group o done next c ∷ fs) (fresh limit.Expr)) _ (comma-on p o [] head c fs a r refl)
          (leads-then (expr_items b) _ _ (state (group o done next c ∷ fs) s.end) _ (s.leads (group o done next c ∷ fs))
          (leads-one (OneToken (close_round k)) _ _ (close-on k o done next c fs b s)))));
      there = ap (λ d. Some (PairPrim o d p (element_expr y.element) k)) x.same ∙ ap (λ d. Some (PairPrim o a p d k)) y.same;
      named = tt;
    }

pub triple-along : (o p q k : Place) (a b d : Expr) → ExprEnds a → ExprEnds b → ExprEnds d → (c : Context) → may_stand (at c Begin) o.before ≡ true
    → PrimEnds (prim_items (TriplePrim o a p b q d k)) (TriplePrim o a p b q d k) c
triple-along o p q k a b d r s t c h =
    let x = ended_element a r in
    let y = ended_element b s in
    let z = ended_element d t in
    let head = may_head (at c Begin) in
    let one = before x.element p ∷ [] in
    let next = head && is_param x.element in
    let two = before y.element q ∷ one in
    let last = next && is_param y.element in
    record {
      tail = AtGroup o (Elements two z.element) k (last && is_param z.element);
      leads = λ fs.
          leads-on (OneToken (open_round o)) _ _ (state (group o [] head c ∷ fs) (fresh limit.Expr)) _ (round-opens o fs c h)
          (leads-then (expr_items a) _ _ (state (group o [] head c ∷ fs) r.end) _ (r.leads (group o [] head c ∷ fs))
          (leads-on (OneToken (comma p)) _ _ (state (group o one next c ∷ fs) (fresh limit.Expr)) _ (comma-on p o [] head c fs a r refl)
          (leads-then (expr_items b) _ _ (state (group o one next c ∷ fs) s.end) _ (s.leads (group o one next c ∷ fs))
          (leads-on (OneToken (comma q)) _ _ (state (group o two last c ∷ fs) (fresh limit.Expr)) _ (comma-on q o one next c fs b s refl)
          (leads-then (expr_items d) _ _ (state (group o two last c ∷ fs) t.end) _ (t.leads (group o two last c ∷ fs))
          (leads-one (OneToken (close_round k)) _ _ (close-on k o two last c fs d t)))))));
      there = ap (λ e. Some (TriplePrim o e p (element_expr y.element) q (element_expr z.element) k)) x.same
          ∙ ap (λ e. Some (TriplePrim o a p e q (element_expr z.element) k)) y.same ∙ ap (λ e. Some (TriplePrim o a p b q e k)) z.same;
      named = tt;
    }
