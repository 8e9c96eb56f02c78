-- An expression that is a chain, with its type or its cases, and `return` alone, lead to where these were read.
use Rattle.std.proofs.Common.{◌≡◌, List, [], ◌∷◌, Option, Some, None, codes, refl, ap, ◌∙◌}
use Rattle.source_grammar.specs.Expressions.{PrefixSign, ReturnAlone, InfixExpr, TypedExpr, MatchExpr, Infix, Prim, Placeholder, NamePrim, Cases}
use Rattle.source_grammar.specs.Lexemes.{Place, word_at, colon}
use Rattle.source_grammar.specs.Types.{WrittenType}
use Rattle.expr_tails.specs.declared.states.Limit.{Limit}
use Rattle.expr_tails.specs.declared.states.Limit.TheVariants as limit
use Rattle.expr_tails.specs.declared.symbols.Symbol.TheVariants as symbol
use Rattle.expr_tails.specs.declared.symbols.Word.TheVariants as word
use Rattle.expr_tails.specs.Symbols.{symbol_of}
use Rattle.expr_laws.proofs.After.{behind_type}
use Rattle.expr_laws.proofs.Behind.{prim-innermost, settled-operand}
use Rattle.expr_laws.proofs.Derived.{OneToken, CasesPair, Operation, TypedOf, OfName, OfWild, OfChain, Tail, Begin, AtName, AtWild, InTyped, AtMatch, AtReturn, AtEnded, Head, Context, Frame, type_begun, alone, settled, chain_of, typed_infix, typed_expr, innermost, is_some, is_first, state, in_state, operand_chain, typed_chain, typed_from, matched, step}
use Rattle.expr_laws.proofs.InfixAlong.{parts, ChainEnds}
use Rattle.expr_laws.proofs.Items.{infix_items}
use Rattle.expr_laws.proofs.Moving.{leads-then, leads-on, leads-one}
use Rattle.expr_laws.proofs.Seen.{AColon, AWord, seen-word}
use Rattle.expr_laws.proofs.Settling.{settled_tail, Ends, ended-step}
use Rattle.expr_laws.proofs.SpineAlong.{ExprRead}
use Rattle.expr_laws.proofs.TokenSteps.{colon-ends, begin-step, typed-leads, type-there}

-- ---- a chain

pub chain-innermost : (d : Infix) (hs : List Head) (os : List Operation) (l : Limit) (k : ChainEnds d hs os l) → innermost (parts hs k.operations k.sign l k.tail) ≡ Some (InfixExpr (settled os d))
chain-innermost d hs os l k = prim-innermost (parts hs k.operations k.sign l Begin) k.tail k.prim k.there ∙ ap (λ x. Some (InfixExpr x)) k.whole

pub infix-ends : (d : Infix) (hs : List Head) → ChainEnds d hs [] limit.Expr → ExprRead (InfixExpr d) hs
infix-ends d hs k = record { operations = k.operations; sign = k.sign; tail = k.tail; leads = k.leads; there = chain-innermost d hs [] limit.Expr k }

chain-operand : (d : Infix) (hs : List Head) (k : ChainEnds d hs [] limit.Expr) → operand_chain (parts hs k.operations k.sign limit.Expr (settled_tail k.tail)) ≡ Some d
chain-operand d hs k = ap (chain_of k.operations k.sign) (settled-operand k.tail k.prim k.there) ∙ ap Some k.whole

-- ---- with a type

record TypedAt (p : Place) (c : Context) (d : Infix) : Type 0 where
  of : TypedOf
  operations : List Operation
  sign : Option PrefixSign
  found : typed_from p (is_first c) c.tail c ≡ Some (parts c.heads operations sign c.limit (InTyped of p type_begun))
  same : typed_infix of ≡ d

chain-typed : (p : Place) (c : Context) (d : Infix) → operand_chain c ≡ Some d → typed_from p (is_first c) c.tail c ≡ typed_chain p c (operand_chain c) → TypedAt p c d
chain-typed p c d e f = record { of = OfChain d; operations = []; sign = None; found = f ∙ ap (typed_chain p c) e; same = refl }

typed-at : (hs : List Head) (os : List Operation) (sign : Option PrefixSign) (l : Limit) (t : Tail) (p : Place) (d : Infix) → operand_chain (parts hs os sign l t) ≡ Some d → TypedAt p (parts hs os sign l t) d
typed-at hs [] None l (AtName id is_sign) p d e = record { of = OfName id; operations = []; sign = None; found = refl; same = (let same : alone (NamePrim id) ≡ d = cc in same) }
typed-at hs [] None l (AtWild place) p d e = record { of = OfWild place; operations = []; sign = None; found = refl; same = (let same : alone (Placeholder place) ≡ d = cc in same) }
typed-at hs [] None l t p d e = chain-typed p (parts hs [] None l t) d e refl
typed-at hs [] (Some s) l t p d e = chain-typed p (parts hs [] (Some s) l t) d e refl
typed-at hs (o ∷ os) sign l t p d e = chain-typed p (parts hs (o ∷ os) sign l t) d e refl

pub typed-along : (d : Infix) (p : Place) (type : WrittenType) (hs : List Head) → ChainEnds d hs [] limit.Expr → ExprRead (TypedExpr d p type) hs
typed-along d p type hs k =
    let c : Context = parts hs k.operations k.sign limit.Expr k.tail in
    let x = typed-at hs k.operations k.sign limit.Expr (settled_tail k.tail) p d (chain-operand d hs k) in
    record {
      operations = x.operations;
      sign = x.sign;
      tail = InTyped x.of p (behind_type type);
      leads = λ fs.
          leads-then (infix_items d) _ _ (state fs c) _ (k.leads fs)
          (leads-on (OneToken (colon p)) _ _ (state fs (parts hs x.operations x.sign limit.Expr (InTyped x.of p type_begun))) _
          (ended-step (colon p) (AColon p) (colon-ends p) fs c (ap is_some (chain-innermost d hs [] limit.Expr k)) ∙ ap (in_state fs) x.found)
          (typed-leads type x.of p fs (parts hs x.operations x.sign limit.Expr Begin)));
      there = ap (typed_expr x.of p) (type-there type) ∙ ap (λ b. Some (TypedExpr b p type)) x.same;
    }

-- ---- with cases

pub match-ends : (p : Place) → Ends (word_at (codes "match") p) (AWord word.Match p)
unfolding symbol_of
match-ends p = record {
  kind = symbol.Word word.Match;
  is = refl;
  sees = seen-word word.Match p;
  no_id = refl;
  no_prim = refl;
  no_expr = refl;
  no_pattern = refl;
  no_type = λ t e. refl;
}

pub match-along : (d : Infix) (w o : Place) (cases : Cases) (c : Place) (hs : List Head) → ChainEnds d hs [] limit.Expr → ExprRead (MatchExpr d w o cases c) hs
match-along d w o cases c hs k =
    let now : Context = parts hs k.operations k.sign limit.Expr k.tail in
    let then_at : Context = parts hs k.operations k.sign limit.Expr (settled_tail k.tail) in
    record {
      operations = [];
      sign = None;
      tail = AtEnded (MatchExpr d w o cases c);
      leads = λ fs.
          leads-then (infix_items d) _ _ (state fs now) _ (k.leads fs)
          (leads-on (OneToken (word_at (codes "match") w)) _ _ (state fs (parts hs [] None limit.Expr (AtMatch d w))) _
          (ended-step (word_at (codes "match") w) (AWord word.Match w) (match-ends w) fs now (ap is_some (chain-innermost d hs [] limit.Expr k))
          ∙ ap (λ x. in_state fs (matched w then_at x)) (chain-operand d hs k))
          (leads-one (CasesPair o cases c) _ _ refl));
      there = refl;
    }

-- ---- `return`

pub return-begins : (w : Place) (hs : List Head) (fs : List Frame)
    → step (state fs (parts hs [] None limit.Expr Begin)) (OneToken (word_at (codes "return") w)) ≡ Some (state fs (parts hs [] None limit.Expr (AtReturn w)))
return-begins w hs fs = begin-step (word_at (codes "return") w) (AWord word.Return w) (seen-word word.Return w) fs (parts hs [] None limit.Expr Begin)

pub return-along : (w : Place) (hs : List Head) → ExprRead (ReturnAlone w) hs
return-along w hs = record {
  operations = [];
  sign = None;
  tail = AtReturn w;
  leads = λ fs. leads-one (OneToken (word_at (codes "return") w)) _ _ (return-begins w hs fs);
  there = refl;
}
