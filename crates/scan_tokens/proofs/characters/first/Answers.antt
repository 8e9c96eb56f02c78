use Rattle.std.proofs.Common.{◌≡◌, ◌++◌, encode_utf8, rules}
use Rattle.std.proofs.lemmas.Str.{chars_past_char}
use Rattle.scan_tokens.proofs.characters.first.Goals as goal

pub returns-clause-value : goal.returns-clause-value
returns-clause-value c =
    let ahead : c.args.text.now ≡ encode_utf8 c.in_ok-c.c ++ c.next.new.self.rest.now = search rules in
    rw c.as_str.ensures (chars_past_char _ _ _ c.utf8.text ahead)
