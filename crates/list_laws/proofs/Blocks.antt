-- The list of a block is divided, by the laws of its statements.
use Rattle.std.proofs.Common.{◌≡◌, ◌≤◌, length, Bool, true, false, ◌||◌, not, List, [], ◌∷◌, map, Some, refl, ap, sym, ◌∙◌, subst}
use Rattle.reading_machines.specs.Laws.{ReadsExactly}
use Rattle.reading_machines.specs.Machines.{run, reading_of}
use Rattle.reading_machines.specs.Parts.{IsBest}
use Rattle.positioned_trees.specs.Trees.{max_number}
use Rattle.source_grammar.specs.ExpressionRules.{Rule}
use Rattle.source_grammar.specs.ExpressionTrees.{bstat_built}
use Rattle.expr_steps.specs.Reading.{Item as Picture}
use Rattle.parse_exprs.specs.Items.{shape_of}
use Rattle.parse_exprs.specs.Lists.{ends_statement, of_items, pieces}
use Rattle.parse_exprs.specs.declared.statements.Statement.{Statement}
use Rattle.parse_exprs.specs.Statements.{built, statements, built_until}
use Rattle.expr_laws.specs.Exactly.{InLines}
use Rattle.expr_laws.specs.Items.{item_tokens, items_tokens}
use Rattle.expr_laws.specs.Newlines.{NewlinesEnd, ended_by}
use Rattle.expr_laws.specs.Pictures.{built_shown}
use Rattle.expr_laws.proofs.Lasting.{and-right}
use Rattle.expr_laws.proofs.NewlinesApart.{any-ends, behind-ends}
use Rattle.statement_laws.specs.Statements.{AreOfStatement, BehindDot, ReadStatementItem, statement_of, dots_told, is_dot, statement_items, statement_pictures, statements_in_lines}
use Rattle.list_laws.specs.Lists.{picture_of, DividedList, parts_of, piece_of}
use Rattle.list_laws.proofs.Dividing.{AllBest, divided-from, one-division, pieces-of}

pub any-dots : (rule : Rule) (dotted : Bool) (is : List (ReadStatementItem rule)) → dots_told rule dotted is ≡ true → dots_told rule false is ≡ true
any-dots rule dotted [] d = refl
any-dots rule dotted (i ∷ is) d = and-right (not dotted || i.dotted) (dots_told rule (is_dot i.item.given.item) is) d

-- what the laws of one statement and of shapes say
pub record Laws (rule : Rule) : Type 0 where
  pub exact : ReadsExactly (AreOfStatement rule) (statements_in_lines rule)
  pub best : (follows : List Picture → Bool) (is : List (ReadStatementItem rule)) → NewlinesEnd (items_tokens (statement_items rule is)) → dots_told rule false is ≡ true
      → IsBest (AreOfStatement rule) (λ js. follows (statement_pictures rule js)) is (reading_of statements follows (statement_pictures rule is)).best
  pub runs : (is : List (ReadStatementItem rule)) (t : InLines (BehindDot Statement)) → run (statements_in_lines rule).step is (statements_in_lines rule).start ≡ Some t
      → run statements.step (statement_pictures rule is) statements.start ≡ Some t.state.state
  pub tree : (is : List (ReadStatementItem rule)) (a : AreOfStatement rule is) (t : InLines (BehindDot Statement)) → length (items_tokens (statement_items rule is)) ≤ max_number
      → run (statements_in_lines rule).step is (statements_in_lines rule).start ≡ Some t → map built_shown (bstat_built (statement_of a.derivation)) ≡ built t.state.state ∷ []
  pub alike : (is : List Picture) → (reading_of statements (ends_statement of_items) (map shape_of is)).best ≡ (reading_of statements (ends_statement of_items) is).best

module _ (rule : Rule) (laws : Laws rule) where
  -- nothing is no statement
  pub some : AreOfStatement rule [] → ⊥
  some a = (let c = laws.exact.complete [] a in let same : (statements_in_lines rule).start ≡ c.0 = (let e = c.1 in cc) in let both : false ≡ true = ap (statements_in_lines rule).whole same ∙ c.2 in cc)

  all-best : (is : List (ReadStatementItem rule)) → NewlinesEnd (items_tokens (statement_items rule is)) → dots_told rule false is ≡ true
      → AllBest of_items (picture_of rule) (AreOfStatement rule) statements built_until is
  all-best [] n d = tt
  all-best (i ∷ is) n d = (
    subst (IsBest (AreOfStatement rule) (λ js. ends_statement of_items (statement_pictures rule js)) (i ∷ is)) (sym (laws.alike (statement_pictures rule (i ∷ is))))
        (laws.best (ends_statement of_items) (i ∷ is) n d),
    all-best is
        (any-ends (ended_by true (item_tokens i.item.given.item)) (items_tokens (statement_items rule is)) (behind-ends true (item_tokens i.item.given.item) (items_tokens (statement_items rule is)) n))
        (any-dots rule (is_dot i.item.given.item) is d),
  )

  pub divided-list : (is : List (ReadStatementItem rule)) → NewlinesEnd (items_tokens (statement_items rule is)) → dots_told rule false is ≡ true → DividedList rule is
  divided-list is n d = divided-from of_items (picture_of rule) (AreOfStatement rule) statements built_until some 0 is (all-best is n d)

  pub pieces-list : (is : List (ReadStatementItem rule)) → NewlinesEnd (items_tokens (statement_items rule is)) → dots_told rule false is ≡ true → (a : DividedList rule is)
      → pieces of_items statements built_until (statement_pictures rule is)
      ≡ map (piece_of rule) (parts_of rule a)
  pieces-list is n d a = pieces-of of_items (picture_of rule) (AreOfStatement rule) statements built_until some (all-best is n d) a []

  pub one-list : (is : List (ReadStatementItem rule)) (a b : DividedList rule is) → parts_of rule a ≡ parts_of rule b
  one-list is a b = one-division of_items (picture_of rule) (AreOfStatement rule) statements built_until some a b
