use Rattle.std.proofs.Common.{◌≡◌, [], refl, arith}
use Rattle.std.proofs.lemmas.List.{nil_from_length}
use Rattle.scan_tokens.specs.Kinds.{is_reserved_word}
use Rattle.scan_tokens.specs.Words.{reserved_words}
use Rattle.scan_tokens.proofs.kinds.is_reserved_word.Goals as goal

pub returns-in-empty : goal.returns-in-empty
unfolding is_reserved_word reserved_words
returns-in-empty c =
    let none : c.args.word.now ≡ [] = nil_from_length c.args.word.now (grind arith) in
    rw none refl
