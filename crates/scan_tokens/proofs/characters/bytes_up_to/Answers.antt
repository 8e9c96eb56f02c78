use Rattle.std.proofs.lemmas.Str.{encodes-chars}
use Rattle.scan_tokens.proofs.characters.bytes_up_to.Goals as goal

pub returns : goal.returns
returns c = rw (encodes-chars _ c.utf8.from, encodes-chars _ c.utf8.after, c.as_bytes.ensures.value)
