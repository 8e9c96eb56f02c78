-- What is read where the guard of a case is, with no `=>` outside brackets in it, are operands and operators alone.
use Rattle.std.proofs.Common.{◌≡◌, Bool, true, false, ◌&&◌, if◌then◌else◌, List, [], ◌∷◌, ◌++◌, Option, Some, None, codes, refl, ap, sym, ◌∙◌, append_assoc}
use Rattle.reading_machines.specs.Machines.{run, onward}
use Rattle.source_grammar.specs.Brackets.{Opened, has_no_arrow, open_after}
use Rattle.source_grammar.specs.Expressions.{Expr, Headed, DoThenWhile, TryCatch, ReturnAlone, InfixExpr, TypedExpr, MatchExpr, Heading, Lambda, IfThen, IfElse, WhileDo, TryAlone, TryFinally, TryCatchFinally, ForRound, ForCurly, ThrowOf, ReturnOf, AssignName, AssignSelect, AssignApply, Infix, Prim, SelectPrim, ApplyPrim}
use Rattle.source_grammar.specs.ExpressionRules.{Rule, is_prefix_id, ProperExpr, ProperHeading, ProperPrim}
use Rattle.source_grammar.specs.ExpressionTokens.{head_tokens, expr_tokens, heading_tokens, infix_tokens, prim_tokens, args_tokens}
use Rattle.source_grammar.specs.Lexemes.{Place, Lexeme, Id, word_at, dot, colon, equals, id_token}
use Rattle.source_grammar.specs.Types.{type_tokens}
use Rattle.expr_tails.specs.declared.states.Limit.TheVariants as limit
use Rattle.expr_tails.specs.declared.symbols.Word.TheVariants as word
use Rattle.expr_laws.specs.Newlines.{newlines_end}
use Rattle.expr_laws.proofs.Behind.{prim-innermost}
use Rattle.expr_laws.proofs.BodiesAlong.{chain-innermost, match-ends}
use Rattle.expr_laws.proofs.CaseGuards.{behind-front, prim-simple, guard-along}
use Rattle.expr_laws.proofs.Derived as derived
use Rattle.expr_laws.proofs.Derived.{Item, OneToken, CasesPair, Tail, AtSign, AtName, Context, State, innermost, is_some, at, fresh, begun, state, in_state, named_tail, step}
use Rattle.expr_laws.proofs.ExprsAlong.{prim-along}
use Rattle.expr_laws.proofs.HeadsAlong.{equals-ends}
use Rattle.expr_laws.proofs.InfixAlong.{parts, ChainEnds}
use Rattle.expr_laws.proofs.Items.{tokens, expr_items, heading_items, infix_items, prim_items, args_items}
use Rattle.expr_laws.proofs.LevelExprs.{head-level}
use Rattle.expr_laws.proofs.Moving.{Leads, leads-one}
use Rattle.expr_laws.proofs.NewlinesApart.{Ends, front-of}
use Rattle.expr_laws.proofs.Seen.{AColon, AWord, AnEquals, seen-word}
use Rattle.expr_laws.proofs.Settling.{settled, ended-step}
use Rattle.expr_laws.proofs.TokenSteps.{begin-step, id-begins, colon-ends}

-- ---- where reading stops

-- no step is made from the state to which these items lead
stuck : (is : List Item) (i : Item) (js ks : List Item) (s t u : State) → ks ≡ is ++ i ∷ js → Leads is s t → step t i ≡ None → run step ks s ≡ Some u → ⊥
stuck is i js ks s t u e l n r =
    (let no : None ≡ Some u = sym (ap (λ xs. run step xs s) e ∙ l.runs (i ∷ js) ∙ ap (λ o. onward o None (run step js)) n) ∙ r in cc)

abbrev first_item : List Item → Option Item
first_item [] = None
first_item (i ∷ is) = Some i

stuck-first : (i : Item) (ks : List Item) (s u : State) → first_item ks ≡ Some i → step s i ≡ None → run step ks s ≡ Some u → ⊥
stuck-first i [] s u e n r = cc
stuck-first i (j ∷ js) s u e n r = (let same : j ≡ i = cc in let no : None ≡ Some u = sym (ap (λ o. onward o None (run step js)) (ap (step s) same ∙ n)) ∙ r in cc)

front-arrow : (xs ys : List Lexeme) (ks : List Opened) → has_no_arrow ks (xs ++ ys) ≡ true → has_no_arrow ks xs ≡ true
front-arrow [] ys ks e = refl
front-arrow (x ∷ xs) ys ks e = go _ (has_no_arrow (open_after x ks) (xs ++ ys)) (has_no_arrow (open_after x ks) xs) e (front-arrow xs ys (open_after x ks)) where
  go : (a b c : Bool) → (a && b) ≡ true → (b ≡ true → c ≡ true) → (a && c) ≡ true
  go true b c f on = on f
  go false b c f on = cc

-- ---- with these words no operand begins

abbrev guard : Context
guard = fresh limit.CaseGuard

no-if : (p : Place) → step (begun limit.CaseGuard) (OneToken (word_at (codes "if") p)) ≡ None
no-if p = begin-step (word_at (codes "if") p) (AWord word.If p) (seen-word word.If p) [] guard

no-while : (p : Place) → step (begun limit.CaseGuard) (OneToken (word_at (codes "while") p)) ≡ None
no-while p = begin-step (word_at (codes "while") p) (AWord word.While p) (seen-word word.While p) [] guard

no-for : (p : Place) → step (begun limit.CaseGuard) (OneToken (word_at (codes "for") p)) ≡ None
no-for p = begin-step (word_at (codes "for") p) (AWord word.For p) (seen-word word.For p) [] guard

no-do : (p : Place) → step (begun limit.CaseGuard) (OneToken (word_at (codes "do") p)) ≡ None
no-do p = begin-step (word_at (codes "do") p) (AWord word.Do p) (seen-word word.Do p) [] guard

no-try : (p : Place) → step (begun limit.CaseGuard) (OneToken (word_at (codes "try") p)) ≡ None
no-try p = begin-step (word_at (codes "try") p) (AWord word.Try p) (seen-word word.Try p) [] guard

no-throw : (p : Place) → step (begun limit.CaseGuard) (OneToken (word_at (codes "throw") p)) ≡ None
no-throw p = begin-step (word_at (codes "throw") p) (AWord word.Throw p) (seen-word word.Throw p) [] guard

no-return : (p : Place) → step (begun limit.CaseGuard) (OneToken (word_at (codes "return") p)) ≡ None
no-return p = begin-step (word_at (codes "return") p) (AWord word.Return p) (seen-word word.Return p) [] guard

-- ---- after an operand or an Infix

no-equals : (p : Place) (s : Tail) → is_some (innermost (at guard s)) ≡ true → step (state [] (at guard s)) (OneToken (equals p)) ≡ None
no-equals p s h = ended-step (equals p) (AnEquals p) (equals-ends p) [] (at guard s) h

no-colon : (p : Place) (d : Infix) (r : ChainEnds d [] [] limit.CaseGuard) → step (state [] (parts [] r.operations r.sign limit.CaseGuard r.tail)) (OneToken (colon p)) ≡ None
no-colon p d r =
    ended-step (colon p) (AColon p) (colon-ends p) [] (parts [] r.operations r.sign limit.CaseGuard r.tail) (ap is_some (chain-innermost d [] [] limit.CaseGuard r))

no-match : (p : Place) (d : Infix) (r : ChainEnds d [] [] limit.CaseGuard) → step (state [] (parts [] r.operations r.sign limit.CaseGuard r.tail)) (OneToken (word_at (codes "match") p)) ≡ None
no-match p d r =
    ended-step (word_at (codes "match") p) (AWord word.Match p) (match-ends p) [] end (ap is_some (chain-innermost d [] [] limit.CaseGuard r)) ∙ ap (in_state []) (go (derived.operand_chain (settled end)))
  where
    end : Context
    end = parts [] r.operations r.sign limit.CaseGuard r.tail

    go : (o : Option Infix) → derived.matched p (settled end) o ≡ None
    go None = refl
    go (Some chain) = refl

-- ---- no other expression

named-some : (id : Id) → is_some (innermost (at guard (named_tail id))) ≡ true
named-some id = go (is_prefix_id id) where
  go : (b : Bool) → is_some (innermost (at guard (if b then AtSign id else AtName id false))) ≡ true
  go true = refl
  go false = refl

-- the expression is an Infix
pub record IsInfix (e : Expr) : Type 0 where
  pub chain : Infix
  pub is : e ≡ InfixExpr chain

module _ (rule : Rule) where
  -- a Prim with a `=` after it
  no-assigned : (d : Prim) (sign : Place) (js ks : List Item) (s : State) → ProperPrim rule d → Ends (prim_tokens d) → (ys : List Lexeme) → has_no_arrow [] (prim_tokens d ++ ys) ≡ true
      → ks ≡ prim_items d ++ OneToken (equals sign) ∷ js → run step ks (begun limit.CaseGuard) ≡ Some s → ⊥
  no-assigned d sign js ks s p n ys h e r =
      let k = prim-along rule d p n guard (prim-simple rule limit.CaseGuard d p ys h) refl in
      stuck (prim_items d) (OneToken (equals sign)) js ks (begun limit.CaseGuard) (state [] (at guard k.tail)) s e (k.leads []) (no-equals sign k.tail (ap is_some (prim-innermost guard k.tail d k.there))) r

  no-heading : (k : Heading) (body : Expr) → ProperHeading rule k body → Ends (heading_tokens k) → has_no_arrow [] (heading_tokens k ++ expr_tokens body) ≡ true → (s : State)
      → run step (heading_items k ++ expr_items body) (begun limit.CaseGuard) ≡ Some s → ⊥
  no-heading (Lambda head a) body p n h s r = behind-front (head_tokens head) a [] (expr_tokens body) (heading_tokens (Lambda head a)) (head-level head) refl h
  no-heading (IfThen w o test k) body p n h s r = stuck-first (OneToken (word_at (codes "if") w)) (heading_items (IfThen w o test k) ++ expr_items body) (begun limit.CaseGuard) s refl (no-if w) r
  no-heading (IfElse w o test k first semi other) body p n h s r = stuck-first (OneToken (word_at (codes "if") w)) (heading_items (IfElse w o test k first semi other) ++ expr_items body) (begun limit.CaseGuard) s refl (no-if w) r
  no-heading (WhileDo w o test k) body p n h s r = stuck-first (OneToken (word_at (codes "while") w)) (heading_items (WhileDo w o test k) ++ expr_items body) (begun limit.CaseGuard) s refl (no-while w) r
  no-heading (TryAlone w) body p n h s r = stuck-first (OneToken (word_at (codes "try") w)) (heading_items (TryAlone w) ++ expr_items body) (begun limit.CaseGuard) s refl (no-try w) r
  no-heading (TryFinally w tried last) body p n h s r = stuck-first (OneToken (word_at (codes "try") w)) (heading_items (TryFinally w tried last) ++ expr_items body) (begun limit.CaseGuard) s refl (no-try w) r
  no-heading (TryCatchFinally w tried catch o cases k last) body p n h s r = stuck-first (OneToken (word_at (codes "try") w)) (heading_items (TryCatchFinally w tried catch o cases k last) ++ expr_items body) (begun limit.CaseGuard) s refl (no-try w) r
  no-heading (ForRound w o enums k yield) body p n h s r = stuck-first (OneToken (word_at (codes "for") w)) (heading_items (ForRound w o enums k yield) ++ expr_items body) (begun limit.CaseGuard) s refl (no-for w) r
  no-heading (ForCurly w o enums k yield) body p n h s r = stuck-first (OneToken (word_at (codes "for") w)) (heading_items (ForCurly w o enums k yield) ++ expr_items body) (begun limit.CaseGuard) s refl (no-for w) r
  no-heading (ThrowOf w) body p n h s r = stuck-first (OneToken (word_at (codes "throw") w)) (heading_items (ThrowOf w) ++ expr_items body) (begun limit.CaseGuard) s refl (no-throw w) r
  no-heading (ReturnOf w) body p n h s r = stuck-first (OneToken (word_at (codes "return") w)) (heading_items (ReturnOf w) ++ expr_items body) (begun limit.CaseGuard) s refl (no-return w) r
  no-heading (AssignName id sign) body p n h s r =
      stuck (OneToken (id_token id) ∷ []) (OneToken (equals sign)) (expr_items body) (OneToken (id_token id) ∷ OneToken (equals sign) ∷ expr_items body) (begun limit.CaseGuard) (state [] (at guard (named_tail id))) s refl
      (leads-one (OneToken (id_token id)) _ _ (id-begins id [] guard refl)) (no-equals sign (named_tail id) (named-some id)) r
  no-heading (AssignSelect d q id sign) body p n h s r =
      let name : List Lexeme = dot q ∷ id_token id ∷ [] in
      let whole : List Lexeme = dot q ∷ id_token id ∷ equals sign ∷ [] in
      no-assigned (SelectPrim d q id) sign (expr_items body) (heading_items (AssignSelect d q id sign) ++ expr_items body) s p
      (front-of (prim_tokens d ++ name) (equals sign ∷ []) (record { ends = ap (newlines_end true) (append_assoc (prim_tokens d) name (equals sign ∷ [])) ∙ n.ends }))
      (equals sign ∷ expr_tokens body)
      (ap (has_no_arrow []) (append_assoc (prim_tokens d) name (equals sign ∷ expr_tokens body) ∙ sym (append_assoc (prim_tokens d) whole (expr_tokens body))) ∙ h)
      (append_assoc (prim_items d) (tokens whole) (expr_items body) ∙ sym (append_assoc (prim_items d) (tokens name) (OneToken (equals sign) ∷ expr_items body))) r
  no-heading (AssignApply d args sign) body p n h s r =
      no-assigned (ApplyPrim d args) sign (expr_items body) (heading_items (AssignApply d args sign) ++ expr_items body) s p (front-of (prim_tokens d ++ args_tokens args) (equals sign ∷ []) n)
      (equals sign ∷ expr_tokens body) (ap (has_no_arrow []) (sym (append_assoc (prim_tokens d ++ args_tokens args) (equals sign ∷ []) (expr_tokens body))) ∙ h)
      (append_assoc (prim_items d ++ args_items args) (OneToken (equals sign) ∷ []) (expr_items body)) r

  pub case-infix : (e : Expr) → ProperExpr rule e → Ends (expr_tokens e) → has_no_arrow [] (expr_tokens e) ≡ true → (s : State) → run step (expr_items e) (begun limit.CaseGuard) ≡ Some s → IsInfix e
  case-infix (InfixExpr d) p n h s r = record { chain = d; is = refl }
  case-infix (Headed k body) p n h s r = absurd (no-heading k body p.0 (front-of (heading_tokens k) _ n) h s r)
  case-infix (DoThenWhile w body sep until o test k) p n h s r = absurd (stuck-first (OneToken (word_at (codes "do") w)) (expr_items (DoThenWhile w body sep until o test k)) (begun limit.CaseGuard) s refl (no-do w) r)
  case-infix (TryCatch w body catch o cases k) p n h s r = absurd (stuck-first (OneToken (word_at (codes "try") w)) (expr_items (TryCatch w body catch o cases k)) (begun limit.CaseGuard) s refl (no-try w) r)
  case-infix (ReturnAlone w) p n h s r = absurd (stuck-first (OneToken (word_at (codes "return") w)) (expr_items (ReturnAlone w)) (begun limit.CaseGuard) s refl (no-return w) r)
  case-infix (TypedExpr d q type) p n h s r =
      let k = guard-along rule d p.0 (front-of (infix_tokens d) _ n) p.1 (front-arrow (infix_tokens d) (colon q ∷ type_tokens type) [] h) in
      absurd (stuck (infix_items d) (OneToken (colon q)) (tokens (type_tokens type)) (infix_items d ++ OneToken (colon q) ∷ tokens (type_tokens type)) (begun limit.CaseGuard)
      (state [] (parts [] k.operations k.sign limit.CaseGuard k.tail)) s refl (k.leads []) (no-colon q d k) r)
  case-infix (MatchExpr d w o cases q) p n h s r =
      let k = guard-along rule d p.0 (front-of (infix_tokens d) _ n) p.1 (front-arrow (infix_tokens d) _ [] h) in
      absurd (stuck (infix_items d) (OneToken (word_at (codes "match") w)) (CasesPair o cases q ∷ []) (infix_items d ++ OneToken (word_at (codes "match") w) ∷ CasesPair o cases q ∷ []) (begun limit.CaseGuard)
      (state [] (parts [] k.operations k.sign limit.CaseGuard k.tail)) s refl (k.leads []) (no-match w d k) r)
