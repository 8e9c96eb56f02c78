-- Where newlines and dots stand as asked, the reader itself comes as far as the reader in lines.
use Rattle.std.proofs.Common.{◌≡◌, ℕ, ◌+◌, Bool, true, false, ◌&&◌, ◌||◌, not, List, [], ◌∷◌, Option, Some, None, refl, ap, sym, ◌∙◌, subst}
use Rattle.reading_machines.specs.Machines.{onward, noted, reading, reading_of}
use Rattle.reading_machines.specs.Parts.{IsBest, IsStuckAt}
use Rattle.reading_machines.proofs.Images.{pictured}
use Rattle.reading_machines.proofs.Longest.{reads-longest, reads-stuck}
use Rattle.source_grammar.specs.Expressions.{WithinExpr}
use Rattle.source_grammar.specs.ExpressionRules.{Rule}
use Rattle.expr_steps.specs.Reading.{Item as Picture}
use Rattle.parse_exprs.specs.declared.statements.Statement.{Statement}
use Rattle.parse_exprs.specs.declared.statements.Statement.TheVariants as statement
use Rattle.parse_exprs.specs.Statements.{stepped, is_whole, statements}
use Rattle.expr_laws.specs.Exactly.{picture, InLines, lined}
use Rattle.expr_laws.specs.Items.{item_tokens, items_tokens}
use Rattle.expr_laws.specs.Newlines.{newlines_end, NewlinesEnd, ended_by}
use Rattle.expr_laws.proofs.Lasting.{and-left, and-right}
use Rattle.expr_laws.proofs.NewlinesApart.{front-ends, behind-ends}
use Rattle.expr_laws.proofs.TokenSteps.{if-true}
use Rattle.statement_laws.specs.Statements.{BehindDot, behind, ReadStatementItem, statement_items, statement_pictures, is_dot, dots_told, AreOfStatement, step_behind, statement_in_lines, statements_in_lines}
use Rattle.statement_laws.proofs.Exact.{reads-statements}
use Rattle.statement_laws.proofs.Lines.{at_line, at_dot}

module _ (rule : Rule) where
  abbrev place : Bool → Bool → Statement → InLines (BehindDot Statement)
  place ended dotted s = at_line ended (at_dot dotted s)

  -- a step of the reader in lines, where nothing is refused for its newline or its dot
  step-in-lines : (i : ReadStatementItem rule) (ended dotted : Bool) (s : Statement) → newlines_end ended (item_tokens i.item.given.item) ≡ true → (not dotted || i.dotted) ≡ true
      → statement_in_lines rule (place ended dotted s) i ≡ lined (ended_by ended (item_tokens i.item.given.item)) (behind (is_dot i.item.given.item) (stepped s (picture i.item.given)))
  step-in-lines i ended dotted s n d =
      if-true (newlines_end ended (item_tokens i.item.given.item)) (lined (ended_by ended (item_tokens i.item.given.item)) (step_behind rule (at_dot dotted s) i)) None n
      ∙ ap (lined (ended_by ended (item_tokens i.item.given.item))) (if-true (not dotted || i.dotted) (behind (is_dot i.item.given.item) (stepped s (picture i.item.given))) None d)

  lines-reading : (follows : List Picture → Bool) (is : List (ReadStatementItem rule)) (n : ℕ) (best : Option ℕ) (ended dotted : Bool) (s : Statement)
      → newlines_end ended (items_tokens (statement_items rule is)) ≡ true → dots_told rule dotted is ≡ true
      → reading statements follows (statement_pictures rule is) n best s
      ≡ pictured (λ t. t.state.state) (reading (statements_in_lines rule) (λ js. follows (statement_pictures rule js)) is n best (place ended dotted s))
  lines-reading follows [] n best ended dotted s e d = refl
  lines-reading follows (i ∷ is) n best ended dotted s e d =
      go (stepped s (picture i.item.given))
      (λ t. lines-reading follows is (n + 1) now (ended_by ended (item_tokens i.item.given.item)) (is_dot i.item.given.item) t (behind-ends ended (item_tokens i.item.given.item) (items_tokens (statement_items rule is)) e)
      (and-right (not dotted || i.dotted) (dots_told rule (is_dot i.item.given.item) is) d))
      ∙ ap (λ o. pictured (λ t. t.state.state) (onward o (record { state = place ended dotted s; reached = n; best = now }) (reading (statements_in_lines rule) (λ js. follows (statement_pictures rule js)) is (n + 1) now)))
      (sym (step-in-lines i ended dotted s (front-ends ended (item_tokens i.item.given.item) (items_tokens (statement_items rule is)) e) (and-left (not dotted || i.dotted) (dots_told rule (is_dot i.item.given.item) is) d)))
    where
      now : Option ℕ
      now = noted (is_whole s && follows (statement_pictures rule (i ∷ is))) n best

      go : (o : Option Statement)
          → ((t : Statement) → reading statements follows (statement_pictures rule is) (n + 1) now t
          ≡ pictured (λ u. u.state.state) (reading (statements_in_lines rule) (λ js. follows (statement_pictures rule js)) is (n + 1) now (place (ended_by ended (item_tokens i.item.given.item)) (is_dot i.item.given.item) t)))
          → onward o (record { state = s; reached = n; best = now }) (reading statements follows (statement_pictures rule is) (n + 1) now)
          ≡ pictured (λ u. u.state.state) (onward (lined (ended_by ended (item_tokens i.item.given.item)) (behind (is_dot i.item.given.item) o)) (record { state = place ended dotted s; reached = n; best = now })
          (reading (statements_in_lines rule) (λ js. follows (statement_pictures rule js)) is (n + 1) now))
      go None on = refl
      go (Some t) on = on t

  module _ (empty : rule WithinExpr false [] []) where
    pub best-statement : (follows : List Picture → Bool) (is : List (ReadStatementItem rule)) → NewlinesEnd (items_tokens (statement_items rule is)) → dots_told rule false is ≡ true
        → IsBest (AreOfStatement rule) (λ js. follows (statement_pictures rule js)) is (reading_of statements follows (statement_pictures rule is)).best
    best-statement follows is n d =
        subst (IsBest (AreOfStatement rule) (λ js. follows (statement_pictures rule js)) is) (sym (ap (λ r. r.best) (lines-reading follows is 0 None true false statement.Begin n d)))
        (reads-longest (AreOfStatement rule) (statements_in_lines rule) (λ js. follows (statement_pictures rule js)) is (reads-statements rule empty))

    pub stuck-statement : (follows : List Picture → Bool) (is : List (ReadStatementItem rule)) → NewlinesEnd (items_tokens (statement_items rule is)) → dots_told rule false is ≡ true
        → IsStuckAt (AreOfStatement rule) is (reading_of statements follows (statement_pictures rule is)).reached
    stuck-statement follows is n d =
        subst (IsStuckAt (AreOfStatement rule) is) (sym (ap (λ r. r.reached) (lines-reading follows is 0 None true false statement.Begin n d)))
        (reads-stuck (AreOfStatement rule) (statements_in_lines rule) (λ js. follows (statement_pictures rule js)) is (reads-statements rule empty))
