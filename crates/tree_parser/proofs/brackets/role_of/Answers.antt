use Rattle.std.proofs.Common.{◌≡◌, sym, ◌∙◌}
use Rattle.source_grammar.specs.Lexemes.{lexeme_of}
use Rattle.tree_parser.proofs.Roles.{of_other}
use Rattle.tree_parser.proofs.brackets.role_of.Goals as goal

pub returns-else-is_delimiter : goal.returns-else-is_delimiter
unfolding lexeme_of
returns-else-is_delimiter c = sym (of_other c.args.token.kind (lexeme_of c.args.text.now c.args.token).word (sym c.is_delimiter.ensures ∙ c.if-is_delimiter.false))
