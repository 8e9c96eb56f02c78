use Rattle.std.proofs.Common.{◌≡◌, true, rules}
use Rattle.std.specs.Char.{is_ascii_alphabetic}
use Rattle.scan_tokens.proofs.Letters.{class_of-letter}
use Rattle.scan_tokens.proofs.characters.class_of.Goals as goal

pub returns-in-A-to-Z : goal.returns-in-A-to-Z
returns-in-A-to-Z c =
    let alphabetic : is_ascii_alphabetic c.args.c ≡ true = search rules in
    class_of-letter c.args.c alphabetic
