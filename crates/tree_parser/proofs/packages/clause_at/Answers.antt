use Rattle.std.proofs.Common.{◌≡◌, ap, sym, ◌∙◌, map}
use Rattle.source_grammar.specs.Lexemes.{lexeme_of}
use Rattle.tree_parser.specs.Packaged.{clause_from, parted_by, parted_clause}
use Rattle.tree_parser.proofs.Behind.{rest_is, rest_cut}
use Rattle.tree_parser.proofs.packages.clause_at.Goals as goal

pub clause_from-requires-clause-cut : goal.clause_from-requires-clause-cut
clause_from-requires-clause-cut c = rest_cut c.args.text.now c.args.tokens.now c.args.at c.requires.cut

pub parted_clause-requires : goal.parted_clause-requires
parted_clause-requires c = rest_cut c.args.text.now c.args.tokens.now c.in-Some.clause.behind c.requires.cut

pub returns-in-Some-clause-is : goal.returns-in-Some-clause-is
returns-in-Some-clause-is c =
    let all = map (lexeme_of c.args.text.now) c.args.tokens.now in
    c.parted_clause.ensures
    ∙ ap (parted_clause c.in-Some.clause) (rest_is c.args.text.now c.args.tokens.now c.in-Some.clause.behind)
    ∙ ap (parted_by all) (sym c.in-Some.is ∙ c.in_ok-clause.ensures.is ∙ ap (clause_from c.args.at) (rest_is c.args.text.now c.args.tokens.now c.args.at))

pub returns-in-None-clause-is : goal.returns-in-None-clause-is
returns-in-None-clause-is c =
    let all = map (lexeme_of c.args.text.now) c.args.tokens.now in
    ap (parted_by all) (sym c.in-None.is ∙ c.in_ok-clause.ensures.is ∙ ap (clause_from c.args.at) (rest_is c.args.text.now c.args.tokens.now c.args.at))
