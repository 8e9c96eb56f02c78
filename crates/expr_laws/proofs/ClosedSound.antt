-- What was read is the items of the derivations in the state, where `)` closes a bracket.
use Rattle.std.proofs.Common.{◌≡◌, Bool, true, false, ◌&&◌, if◌then◌else◌, List, [], ◌∷◌, ◌++◌, Option, Some, None, codes, refl, ap, sym, ◌∙◌, append_assoc}
use Rattle.source_grammar.specs.Expressions.{PrefixSign, Sep, DoThenWhile, Prim, NewOf, NewWith, NoArgs, IfThen, WhileDo}
use Rattle.source_grammar.specs.ExpressionTokens.{sep_tokens}
use Rattle.source_grammar.specs.Lexemes.{Place, word_at, open_round, close_round}
use Rattle.expr_laws.proofs.Derived.{Item, OneToken, Operation, NoElements, Tail, Begin, AtGroup, AtPrim, AtCall, Head, Of, Context, Bracket, GroupBracket, ArgsBracket, NewArgsBracket, IfTest, WhileTest, DoTest, GensBracket, Frame, is_nil, is_none, is_begin, is_first, state, in_state, ended_expr, is_untouched, emptied, closed_in, closed, element_at, frame}
use Rattle.expr_laws.proofs.Fitting.{Fits}
use Rattle.expr_laws.proofs.FramesSound.{Adds, adds-none, closed-bracket, group-closed, args-closed, test-closed, until-closed}
use Rattle.expr_laws.proofs.GeneratorsSound.{SemiFirst, GuardAlone, gens-closed}
use Rattle.expr_laws.proofs.Items.{tokens, expr_items, prim_items}
use Rattle.expr_laws.proofs.Read.{tail_items, heads_items, operations_items, sign_items, context_items, items_in}

-- A bracket behind which a head stands is opened where a head can stand. Of generators more is asked.
abbrev pub OpenedRight : Bracket → Context → Context → Type 0
OpenedRight (IfTest word o) outer c = is_first outer ≡ true
OpenedRight (WhileTest word o) outer c = is_first outer ≡ true
OpenedRight (GensBracket word o done part) outer c = (is_first outer ≡ true) × SemiFirst c.tail c × GuardAlone part c
OpenedRight _ outer c = Unit {0}

abbrev pub OpenedIn : List Frame → Context → Type 0
OpenedIn [] c = Unit {0}
OpenedIn (f ∷ fs) c = OpenedRight f.bracket f.outer c

untouched-none : (c : Context) → is_untouched c ≡ true → context_items c ≡ []
untouched-none c h = go c.operations c.sign c.heads c.tail h where
  go : (os : List Operation) (sign : Option PrefixSign) (hs : List Head) (s : Tail) → ((is_nil os && is_none sign) && (is_nil hs && is_begin s)) ≡ true
      → heads_items hs ++ (operations_items os ++ (sign_items sign ++ tail_items s)) ≡ []
  go [] None [] Begin f = refl
  go [] None [] _ f = cc
  go [] None (k ∷ hs) s f = cc
  go [] (Some sign) hs s f = cc
  go (o ∷ os) sign hs s f = cc

-- brackets with nothing in them
emptied-adds : (b : Bracket) (p : Place) (c outer : Context) (fs : List Frame) → context_items c ≡ []
    → Adds (in_state fs (emptied b p outer)) (items_in (state (frame b outer ∷ fs) c)) (OneToken (close_round p))
emptied-adds (GroupBracket o [] head) p c outer fs e =
    closed-bracket fs outer c (GroupBracket o [] head) (AtGroup o NoElements p head) (OneToken (close_round p))
    (ap (λ is. OneToken (open_round o) ∷ (is ++ OneToken (close_round p) ∷ [])) (sym e))
emptied-adds (ArgsBracket prim o []) p c outer fs e =
    closed-bracket fs outer c (ArgsBracket prim o []) (AtCall prim (NoArgs o p)) (OneToken (close_round p))
    (sym (append_assoc (prim_items prim) (OneToken (open_round o) ∷ []) (OneToken (close_round p) ∷ []))
    ∙ ap (λ is. (prim_items prim ++ OneToken (open_round o) ∷ []) ++ (is ++ OneToken (close_round p) ∷ [])) (sym e))
emptied-adds (NewArgsBracket word type o []) p c outer fs e =
    closed-bracket fs outer c (NewArgsBracket word type o []) (AtPrim (NewWith word type (NoArgs o p))) (OneToken (close_round p))
    (sym (append_assoc (prim_items (NewOf word type)) (OneToken (open_round o) ∷ []) (OneToken (close_round p) ∷ []))
    ∙ ap (λ is. (prim_items (NewOf word type) ++ OneToken (open_round o) ∷ []) ++ (is ++ OneToken (close_round p) ∷ [])) (sym e))
emptied-adds _ p c outer fs e = adds-none _ _

-- behind a bracket that is not empty
filled-adds : (b : Bracket) (p : Place) (c outer : Context) (fs : List Frame) → Fits c → OpenedRight b outer c
    → Adds (in_state fs (closed_in b p c outer)) (items_in (state (frame b outer ∷ fs) c)) (OneToken (close_round p))
filled-adds (GroupBracket o done head) p c outer fs fit r = group-closed o done head (element_at c) p c outer fs fit refl
filled-adds (ArgsBracket prim o done) p c outer fs fit r =
    args-closed (ArgsBracket prim o done) (AtCall prim) (prim_items prim) o done (ended_expr c) p c outer fs fit refl (λ args. refl) refl
filled-adds (NewArgsBracket word type o done) p c outer fs fit r =
    args-closed (NewArgsBracket word type o done) (λ args. AtPrim (NewWith word type args)) (prim_items (NewOf word type)) o done (ended_expr c) p c outer fs fit refl (λ args. refl) refl
filled-adds (IfTest word o) p c outer fs fit r = test-closed (IfTest word o) (λ e. Of (IfThen word o e p)) (ended_expr c) p c outer fs fit refl r (λ e. refl)
filled-adds (WhileTest word o) p c outer fs fit r = test-closed (WhileTest word o) (λ e. Of (WhileDo word o e p)) (ended_expr c) p c outer fs fit refl r (λ e. refl)
filled-adds (DoTest word body sep until o) p c outer fs fit r =
    until-closed (DoTest word body sep until o) (λ e. DoThenWhile word body sep until o e p) (ended_expr c) p c outer fs fit refl
    (λ e. sym (until-more (expr_items body) (until_sep sep) (expr_items e)))
  where
    until_sep : Sep → List Item
    until_sep seps = tokens (sep_tokens seps)

    until-more : (a b d : List Item)
        → ((OneToken (word_at (codes "do") word) ∷ (a ++ (b ++ OneToken (word_at (codes "while") until) ∷ []))) ++ OneToken (open_round o) ∷ []) ++ (d ++ OneToken (close_round p) ∷ [])
        ≡ OneToken (word_at (codes "do") word) ∷ ((a ++ b) ++ OneToken (word_at (codes "while") until) ∷ OneToken (open_round o) ∷ (d ++ OneToken (close_round p) ∷ []))
    until-more a b d = simp append_assoc
filled-adds (GensBracket word o done part) p c outer fs fit r = gens-closed word o p done part c outer fs fit r.1 r.2 r.0

pub closed-adds : (p : Place) (fs : List Frame) (c : Context) → Fits c → OpenedIn fs c → Adds (closed p fs c) (items_in (state fs c)) (OneToken (close_round p))
closed-adds p [] c fit r = adds-none _ _
closed-adds p (f ∷ fs) c fit r = go (is_untouched c) refl where
  go : (b : Bool) → is_untouched c ≡ b
      → Adds (in_state fs (if b then emptied f.bracket p f.outer else closed_in f.bracket p c f.outer)) (items_in (state (f ∷ fs) c)) (OneToken (close_round p))
  go true e = emptied-adds f.bracket p c f.outer fs (untouched-none c e)
  go false e = filled-adds f.bracket p c f.outer fs fit r
