use Rattle.std.proofs.Common.{◌≡◌, ◌-◌, ◌≤◌, ◌++◌, true, [], ◌∷◌, refl, take, drop, ap, sym, ◌∙◌, map, length, length-append, append_assoc, length-drop, arith}
use Rattle.std.proofs.lemmas.List.{append-nil}
use Rattle.parse_parts.proofs.Places.{behind-all}
use Rattle.source_grammar.specs.Lexemes.{lexeme_of}
use Rattle.tree_parser.specs.Packaged.{is_step, names_in}
use Rattle.tree_parser.proofs.Behind.{rest_cut, step_on, no_step}
use Rattle.tree_parser.proofs.packages.with_steps.Goals as goal

pub path-preserved : goal.path-preserved
path-preserved c =
    let text = c.args.text.now in
    let rest = c.path.rest.now in
    let some : 2 ≤ length rest = omega (arith, c.in-len2-up.len_at_least) in
    let step : is_step (map (lexeme_of text) rest) ≡ true = grind (arith, c.is_step.ensures, c.if-not-is_step.false) in
    let behind = names_in (map (lexeme_of text) (take (length rest - 2) (drop 2 rest))) in (
      rest_cut text rest 2 c.path.invariant.0,
      omega (
        arith,
        c.path.invariant.1,
        some,
        ap length c.in_ok-push.ensures.ok,
        length-append c.path.names (c.in_ok-name_in.field-0 ∷ []),
        ap length (behind-all rest rest 2 refl),
        length-drop 2 rest,
      ),
      ap (λ l. l ++ behind) c.in_ok-push.ensures.ok
          ∙ append_assoc c.path.names (c.in_ok-name_in.field-0 ∷ []) behind
          ∙ ap (λ name. c.path.names ++ name ∷ behind) c.in_ok-name_in.ensures
          ∙ ap (λ l. c.path.names ++ l) (sym (step_on text rest _ some step))
          ∙ c.path.invariant.2,
    )

pub returns-clause-is : goal.returns-clause-is
returns-clause-is c =
    sym (append-nil c.path.names) ∙ ap (λ l. c.path.names ++ l) (sym (no_step c.args.text.now c.path.rest.now (omega (arith, c.in_default.len_below))))
    ∙ c.path.invariant.2
