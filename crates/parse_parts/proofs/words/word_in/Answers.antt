use Rattle.std.proofs.Common.{◌∙◌, ap}
use Rattle.std.specs.List.{slice_range}
use Rattle.parse_parts.proofs.Quotes.{quoted-word, plain-word}
use Rattle.parse_parts.proofs.words.word_in.Goals as goal
use Rattle.parse_parts.proofs.words.word_in.Goals.{in-BackId, in_default}

pub returns : goal.returns
returns c =
    elim c.match-token.branch [
      | in-BackId w ↦ c.range.ensures.value ∙ ap (λ s. slice_range c.args.text.now s.0 s.1) w.start-is ∙ quoted-word c.args.text.now c.args.token c.requires w.in-BackId.is
      | in_default w ↦ c.range.ensures.value ∙ ap (λ s. slice_range c.args.text.now s.0 s.1) w.start-is ∙ plain-word c.args.token.kind _ w.in_default.not-BackId
    ]
