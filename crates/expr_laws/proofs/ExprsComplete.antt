-- Each expression is read, by the machine and by the reader, and its items have no other derivation. The same of the guard of a case.
-- Asked is that newlines count only after tokens that can end a statement, as in all that the scanner gives.
use Rattle.std.proofs.Common.{◌≡◌, true, List, [], Some, option_map, ap, sym, ◌∙◌, append-nil}
use Rattle.reading_machines.specs.Machines.{run}
use Rattle.source_grammar.specs.Brackets.{has_no_arrow}
use Rattle.source_grammar.specs.Expressions.{Expr, InfixExpr, Infix}
use Rattle.source_grammar.specs.ExpressionRules.{Rule, infix_operators, ProperExpr, ProperInfix}
use Rattle.source_grammar.specs.ExpressionTokens.{expr_tokens, infix_tokens}
use Rattle.source_grammar.specs.ExpressionTrees.{expr_built}
use Rattle.source_grammar.specs.Precedence.{are_of_one_side}
use Rattle.expr_tails.specs.declared.states.Limit.{Limit}
use Rattle.expr_tails.specs.declared.states.Limit.TheVariants as limit
use Rattle.expr_tails.specs.declared.states.State.{State as ReaderState}
use Rattle.expr_steps.specs.Reading as spec
use Rattle.expr_steps.specs.Reading.{stepped, reader, built_at}
use Rattle.expr_laws.specs.Newlines.{newlines_end, NewlinesEnd}
use Rattle.expr_laws.proofs.BodiesAlong.{chain-innermost}
use Rattle.expr_laws.proofs.CaseGuards.{guard-along}
use Rattle.expr_laws.proofs.Derived.{Item, Context, items_tokens, headed_all, is_some, state, ended_expr, begun, step}
use Rattle.expr_laws.proofs.ExprsAlong.{expr-read}
use Rattle.expr_laws.proofs.ItemTokens.{expr-have}
use Rattle.expr_laws.proofs.Items.{expr_items, infix_items}
use Rattle.expr_laws.proofs.LastingSteps.{begun-stands, run-stands}
use Rattle.expr_laws.proofs.Moves.{whole-same, built-same}
use Rattle.expr_laws.proofs.Moving.{Leads}
use Rattle.expr_laws.proofs.Pictures.{Given, pictures, items_of, run-same}
use Rattle.expr_laws.proofs.Shown.{shown, built_shown}

-- these items lead from the beginning to where this expression ends, in no bracket
pub record Runs (l : Limit) (is : List Item) (e : Expr) : Type 0 where
  pub end : Context
  pub runs : run step is (begun l) ≡ Some (state [] end)
  pub ended : ended_expr end ≡ Some e

-- The reader reads the pictures of these items, and has the tree of this expression.
pub record IsReadAs (l : Limit) (gs : List Given) (e : Expr) : Type 0 where
  pub end : ReaderState
  pub runs : run stepped (pictures gs) (reader l).start ≡ Some end
  pub read : spec.is_read end ≡ true
  pub built : built_at end ≡ built_shown (expr_built e)

whole-run : (l : Limit) (is : List Item) (end : Context) → Leads is (begun l) (state [] end) → run step is (begun l) ≡ Some (state [] end)
whole-run l is end k = ap (λ js. run step js (begun l)) (sym (append-nil is)) ∙ k.runs []

same-some : {A : Type 0} (a b : A) → Some a ≡ Some b → a ≡ b
same-some a b e = cc

one-end : (l : Limit) (is : List Item) (e f : Expr) → Runs l is e → Runs l is f → e ≡ f
one-end l is e f r s =
    let states : state [] r.end ≡ state [] s.end = same-some (state [] r.end) (state [] s.end) (sym r.runs ∙ s.runs) in
    same-some e f (sym r.ended ∙ ap (λ t. ended_expr t.context) states ∙ s.ended)

read-as : (l : Limit) (is : List Item) (e : Expr) (gs : List Given) → Runs l is e → items_of gs ≡ is → IsReadAs l gs e
read-as l is e gs r same =
    let there : run step (items_of gs) (begun l) ≡ Some (state [] r.end) = ap (λ js. run step js (begun l)) same ∙ r.runs in
    let stands = run-stands (items_of gs) (begun l) (state [] r.end) (begun-stands l) there in
    record {
      end = shown (state [] r.end);
      runs = run-same gs (begun l) (begun-stands l) ∙ ap (option_map shown) there;
      read = whole-same (state [] r.end) ∙ ap is_some r.ended;
      built = built-same (state [] r.end) e stands.context r.ended;
    }

module _ (rule : Rule) where
  -- ---- expressions

  pub expr-runs : (e : Expr) → ProperExpr rule e → NewlinesEnd (expr_tokens e) → Runs limit.Expr (expr_items e) e
  expr-runs e p n =
      let r = expr-read rule e p n in
      record { end = r.end; runs = whole-run limit.Expr (expr_items e) r.end (r.leads []); ended = r.ends }

  -- the items of an expression have one derivation
  pub one-derivation : (e f : Expr) → ProperExpr rule e → ProperExpr rule f → NewlinesEnd (expr_tokens e) → expr_items e ≡ expr_items f → e ≡ f
  one-derivation e f p q n same =
      let r = expr-runs e p n in
      let tokens : expr_tokens e ≡ expr_tokens f = sym (expr-have e).same ∙ ap items_tokens same ∙ (expr-have f).same in
      one-end limit.Expr (expr_items f) e f (record { end = r.end; runs = ap (λ is. run step is (begun limit.Expr)) (sym same) ∙ r.runs; ended = r.ended })
      (expr-runs f q (ap (newlines_end true) (sym tokens) ∙ n))

  pub reader-complete : (e : Expr) (gs : List Given) → ProperExpr rule e → NewlinesEnd (expr_tokens e) → items_of gs ≡ expr_items e → IsReadAs limit.Expr gs e
  reader-complete e gs p n same = read-as limit.Expr (expr_items e) e gs (expr-runs e p n) same

  -- ---- guards of cases

  pub guard-runs : (d : Infix) → ProperInfix rule d → NewlinesEnd (infix_tokens d) → are_of_one_side (infix_operators d) ≡ true → has_no_arrow [] (infix_tokens d) ≡ true
      → Runs limit.CaseGuard (infix_items d) (InfixExpr d)
  guard-runs d p n one h =
      let r = guard-along rule d p (record { ends = n }) one h in
      let end : Context = record { heads = []; operations = r.operations; sign = r.sign; tail = r.tail; limit = limit.CaseGuard } in
      record { end = end; runs = whole-run limit.CaseGuard (infix_items d) end (r.leads []); ended = ap (headed_all []) (chain-innermost d [] [] limit.CaseGuard r) }

  pub guard-complete : (d : Infix) (gs : List Given) → ProperInfix rule d → NewlinesEnd (infix_tokens d) → are_of_one_side (infix_operators d) ≡ true → has_no_arrow [] (infix_tokens d) ≡ true
      → items_of gs ≡ infix_items d → IsReadAs limit.CaseGuard gs (InfixExpr d)
  guard-complete d gs p n one h same = read-as limit.CaseGuard (infix_items d) (InfixExpr d) gs (guard-runs d p n one h) same
