-- Expressions as a production of their own: the part of a text that a reader of one expression reads.
use Rattle.std.specs.Prelude.{◌≡◌, List}
use Rattle.positioned_trees.specs.declared.trees.Tree.{Tree}
use Rattle.source_grammar.specs.Expressions.{Expr}
use Rattle.source_grammar.specs.ExpressionRules.{ProperExpr}
use Rattle.source_grammar.specs.ExpressionTokens.{expr_tokens}
use Rattle.source_grammar.specs.ExpressionTrees.{expr_built}
use Rattle.source_grammar.specs.Lexemes.{Lexeme}
use Rattle.source_grammar.specs.Statements.{longest}

-- The lists of statements in it are divided as those of a unit are.
pub record IsExpr (xs : List Lexeme) (tree : Tree) : Type 0 where
  pub derivation : Expr
  pub proper : ProperExpr longest derivation
  pub tokens : xs ≡ expr_tokens derivation
  pub built : tree ≡ (expr_built derivation).tree
