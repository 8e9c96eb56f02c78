use Rattle.std.proofs.Common.{◌≡◌, ap, sym, ◌∙◌}
use Rattle.source_grammar.specs.Brackets.{role}
use Rattle.source_grammar.specs.Lexemes.{lexeme_of}
use Rattle.tree_parser.specs.Bracketed.{all_opened}
use Rattle.tree_parser.proofs.Roles.{opens_after}
use Rattle.tree_parser.proofs.brackets.passes.Goals as goal

pub returns-in_ok-push-in-Opens-clause-behind : goal.returns-in_ok-push-in-Opens-clause-behind
unfolding lexeme_of
returns-in_ok-push-in-Opens-clause-behind c =
    ap all_opened c.in_ok-push-in-Opens.ensures.ok
    ∙ sym (opens_after (role (lexeme_of c.args.text.now c.args.token)) c.in-Opens.bracket c.args.token.span (all_opened c.args.opened.now) (sym c.in-Opens.ensures))
