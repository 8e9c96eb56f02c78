-- What the readers in lines ask of items: that newlines count where they may, and that items behind a `.` say so.
use Rattle.std.proofs.Common.{◌≡◌, Bool, true, false, ◌&&◌, ◌||◌, not, if◌then◌else◌, List, [], ◌∷◌, map, map-id, Option, Some, None, option_map, refl, ap, sym, ◌∙◌}
use Rattle.reading_machines.specs.Machines.{run, onward}
use Rattle.source_grammar.specs.ExpressionRules.{Rule}
use Rattle.source_grammar.specs.Lexemes.{Place}
use Rattle.parse_patterns.proofs.Sides.{and-true}
use Rattle.expr_tails.specs.declared.states.State.{State as ExprState}
use Rattle.expr_steps.specs.Reading as exprs
use Rattle.import_steps.specs.declared.imports.Import.{Import as ImportState}
use Rattle.def_steps.specs.declared.states.State.{State as DefState}
use Rattle.def_steps.specs.Definitions as defs
use Rattle.parse_exprs.specs.declared.statements.Statement.{Statement}
use Rattle.parse_exprs.specs.declared.statements.Statement.TheVariants as statement
use Rattle.parse_exprs.specs.Statements.{stepped}
use Rattle.expr_laws.specs.Definitions.{ReadDefItem, def_step_in_lines}
use Rattle.expr_laws.specs.Exactly.{InLines, lined, ReadItem, step_in_lines, picture}
use Rattle.expr_laws.specs.Imports.{import_stepped, import_reader}
use Rattle.expr_laws.specs.Items.{item_tokens, items_tokens}
use Rattle.expr_laws.specs.Newlines.{newlines_end, NewlinesEnd, ended_by}
use Rattle.expr_laws.proofs.Exactness.{both-ends}
use Rattle.expr_laws.proofs.Lasting.{and-left, and-right}
use Rattle.expr_laws.proofs.NewlinesApart.{front-ends, behind-ends}
use Rattle.statement_laws.specs.Statements as spec
use Rattle.statement_laws.specs.Statements.{BehindDot, ReadStatementItem, statement_items, is_dot, dots_told, step_behind, statement_in_lines, statements_in_lines}
use Rattle.statement_laws.proofs.FirstItem.{steps_by}
use Rattle.statement_laws.proofs.Guarded.{passes, behind, Guard, guarded-run, guarded-back}
use Rattle.statement_laws.proofs.ImportItems.{to_import, picture-same}

abbrev pub at_line : {S : Type 0} → Bool → S → InLines S
at_line ended s = record { ended = ended; state = s }

abbrev pub at_dot : {S : Type 0} → Bool → S → BehindDot S
at_dot dotted s = record { dotted = dotted; state = s }

lined-some : {S : Type 0} (ended : Bool) (o : Option S) → lined ended o ≡ option_map (at_line ended) o
lined-some ended None = refl
lined-some ended (Some s) = refl

behind-some : {S : Type 0} (dotted : Bool) (o : Option S) → spec.behind dotted o ≡ option_map (at_dot dotted) o
behind-some dotted None = refl
behind-some dotted (Some s) = refl

module _ (rule : Rule) where
  abbrev pub ends_at : Bool → ReadStatementItem rule → Bool
  ends_at ended i = newlines_end ended (item_tokens i.item.given.item)

  abbrev pub ended_at : Bool → ReadStatementItem rule → Bool
  ended_at ended i = ended_by ended (item_tokens i.item.given.item)

  abbrev pub told_at : Bool → ReadStatementItem rule → Bool
  told_at dotted i = not dotted || i.dotted

  abbrev pub dot_at : Bool → ReadStatementItem rule → Bool
  dot_at dotted i = is_dot i.item.given.item

  newlines-pass : (is : List (ReadStatementItem rule)) (ended : Bool) → newlines_end ended (items_tokens (statement_items rule is)) ≡ true → passes ends_at ended_at ended is ≡ true
  newlines-pass [] ended e = refl
  newlines-pass (i ∷ is) ended e =
      and-true (ends_at ended i) (passes ends_at ended_at (ended_at ended i) is) (front-ends ended (item_tokens i.item.given.item) (items_tokens (statement_items rule is)) e)
      (newlines-pass is (ended_at ended i) (behind-ends ended (item_tokens i.item.given.item) (items_tokens (statement_items rule is)) e))

  passed-newlines : (is : List (ReadStatementItem rule)) (ended : Bool) → passes ends_at ended_at ended is ≡ true → newlines_end ended (items_tokens (statement_items rule is)) ≡ true
  passed-newlines [] ended e = refl
  passed-newlines (i ∷ is) ended e =
      both-ends ended (item_tokens i.item.given.item) (items_tokens (statement_items rule is)) (and-left (ends_at ended i) (passes ends_at ended_at (ended_at ended i) is) e)
      (passed-newlines is (ended_at ended i) (and-right (ends_at ended i) (passes ends_at ended_at (ended_at ended i) is) e))

  dots-pass : (is : List (ReadStatementItem rule)) (dotted : Bool) → passes told_at dot_at dotted is ≡ dots_told rule dotted is
  dots-pass [] dotted = refl
  dots-pass (i ∷ is) dotted = ap (λ b. told_at dotted i && b) (dots-pass is (is_dot i.item.given.item))

  -- ---- the readers below

  abbrev pub to_expr : ReadStatementItem rule → ReadItem rule
  to_expr i = record { given = i.item.given; proper = i.item.proper }

  abbrev expr_guard : Guard Bool ExprState (InLines ExprState) (ReadStatementItem rule) (ReadItem rule)
  expr_guard = record {
    at = at_line;
    test = ends_at;
    next = ended_at;
    inner = steps_by rule exprs.stepped;
    to = to_expr;
    step = step_in_lines rule;
    same = λ ended s i. ap (λ o. if ends_at ended i then o else None) (lined-some (ended_at ended i) (exprs.stepped s (picture i.item.given)));
  }

  abbrev def_guard : Guard Bool DefState (InLines DefState) (ReadStatementItem rule) (ReadDefItem rule)
  def_guard = record {
    at = at_line;
    test = ends_at;
    next = ended_at;
    inner = steps_by rule defs.stepped;
    to = λ i. i.item;
    step = def_step_in_lines rule;
    same = λ ended s i. ap (λ o. if ends_at ended i then o else None) (lined-some (ended_at ended i) (defs.stepped s (picture i.item.given)));
  }

  pub expr-run : (is : List (ReadStatementItem rule)) (s t : ExprState) → NewlinesEnd (items_tokens (statement_items rule is)) → run (steps_by rule exprs.stepped) is s ≡ Some t
      → run (step_in_lines rule) (map to_expr is) (at_line true s) ≡ Some (at_line (behind ends_at ended_at true is) t)
  expr-run is s t n e = guarded-run expr_guard is true s (newlines-pass is true n) ∙ ap (option_map (at_line (behind ends_at ended_at true is))) e

  pub expr-back : (is : List (ReadStatementItem rule)) (s : ExprState) (t : InLines ExprState) → run (step_in_lines rule) (map to_expr is) (at_line true s) ≡ Some t
      → run (steps_by rule exprs.stepped) is s ≡ Some t.state
  expr-back is s t e = (let back = guarded-back expr_guard is true s t e in back.runs ∙ ap (λ u. Some u.state) back.there)

  pub def-run : (is : List (ReadStatementItem rule)) (s t : DefState) → NewlinesEnd (items_tokens (statement_items rule is)) → run (steps_by rule defs.stepped) is s ≡ Some t
      → run (def_step_in_lines rule) (map (λ i. i.item) is) (at_line true s) ≡ Some (at_line (behind ends_at ended_at true is) t)
  def-run is s t n e = guarded-run def_guard is true s (newlines-pass is true n) ∙ ap (option_map (at_line (behind ends_at ended_at true is))) e

  pub def-back : (is : List (ReadStatementItem rule)) (s : DefState) (t : InLines DefState) → run (def_step_in_lines rule) (map (λ i. i.item) is) (at_line true s) ≡ Some t
      → run (steps_by rule defs.stepped) is s ≡ Some t.state
  def-back is s t e = (let back = guarded-back def_guard is true s t e in back.runs ∙ ap (λ u. Some u.state) back.there)

  pub import-run : (word : Place) (is : List (ReadStatementItem rule)) (s : ImportState) → run (import_reader word).step (map (to_import rule) is) s ≡ run (steps_by rule import_stepped) is s
  import-run word [] s = refl
  import-run word (i ∷ is) s =
      ap (λ p. onward (import_stepped s p) None (run (import_reader word).step (map (to_import rule) is))) (picture-same rule i) ∙ go (import_stepped s (picture i.item.given)) (λ t. import-run word is t)
    where
      go : (o : Option ImportState) → ((t : ImportState) → run (import_reader word).step (map (to_import rule) is) t ≡ run (steps_by rule import_stepped) is t)
          → onward o None (run (import_reader word).step (map (to_import rule) is)) ≡ onward o None (run (steps_by rule import_stepped) is)
      go None on = refl
      go (Some t) on = on t

  -- ---- the reader of statements

  abbrev lines_guard : Guard Bool (BehindDot Statement) (InLines (BehindDot Statement)) (ReadStatementItem rule) (ReadStatementItem rule)
  lines_guard = record {
    at = at_line;
    test = ends_at;
    next = ended_at;
    inner = step_behind rule;
    to = λ i. i;
    step = statement_in_lines rule;
    same = λ ended s i. ap (λ o. if ends_at ended i then o else None) (lined-some (ended_at ended i) (step_behind rule s i));
  }

  abbrev dots_guard : Guard Bool Statement (BehindDot Statement) (ReadStatementItem rule) (ReadStatementItem rule)
  dots_guard = record {
    at = at_dot;
    test = told_at;
    next = dot_at;
    inner = steps_by rule stepped;
    to = λ i. i;
    step = step_behind rule;
    same = λ dotted s i. ap (λ o. if told_at dotted i then o else None) (behind-some (is_dot i.item.given.item) (stepped s (picture i.item.given)));
  }

  pub record Plain (is : List (ReadStatementItem rule)) (t : InLines (BehindDot Statement)) : Type 0 where
    pub newlines : NewlinesEnd (items_tokens (statement_items rule is))
    pub dots : dots_told rule false is ≡ true
    pub runs : run (steps_by rule stepped) is statement.Begin ≡ Some t.state.state

  pub plain : (is : List (ReadStatementItem rule)) (t : InLines (BehindDot Statement)) → run (statements_in_lines rule).step is (statements_in_lines rule).start ≡ Some t → Plain is t
  plain is t e =
      let lines = guarded-back lines_guard is true (at_dot false statement.Begin) t (ap (λ js. run (statement_in_lines rule) js (statements_in_lines rule).start) (map-id is) ∙ e) in
      let dots = guarded-back dots_guard is false statement.Begin lines.state (ap (λ js. run (step_behind rule) js (at_dot false statement.Begin)) (map-id is) ∙ lines.runs) in
      record {
        newlines = passed-newlines is true lines.passed;
        dots = sym (dots-pass is false) ∙ dots.passed;
        runs = dots.runs ∙ ap Some (ap (λ b. b.state) dots.there ∙ ap (λ u. u.state.state) lines.there);
      }

  abbrev pub line_state : List (ReadStatementItem rule) → Statement → InLines (BehindDot Statement)
  line_state is s = at_line (behind ends_at ended_at true is) (at_dot (behind told_at dot_at false is) s)

  pub in-lines : (is : List (ReadStatementItem rule)) (s : Statement) → NewlinesEnd (items_tokens (statement_items rule is)) → dots_told rule false is ≡ true
      → run (steps_by rule stepped) is statement.Begin ≡ Some s → run (statements_in_lines rule).step is (statements_in_lines rule).start ≡ Some (line_state is s)
  in-lines is s n d e =
      ap (λ js. run (statement_in_lines rule) js (statements_in_lines rule).start) (sym (map-id is)) ∙ guarded-run lines_guard is true (at_dot false statement.Begin) (newlines-pass is true n)
      ∙ ap (option_map (at_line (behind ends_at ended_at true is)))
      (ap (λ js. run (step_behind rule) js (at_dot false statement.Begin)) (sym (map-id is)) ∙ guarded-run dots_guard is false statement.Begin (dots-pass is false ∙ d)
      ∙ ap (option_map (at_dot (behind told_at dot_at false is))) e)
