use Rattle.scan_tokens.proofs.Texts.{byte_len-chars}
use Rattle.scan_tokens.proofs.characters.offset.Goals as goal

pub returns : goal.returns
returns c = rw (byte_len-chars _ c.utf8.left)
