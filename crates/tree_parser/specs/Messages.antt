-- What a user is told of a problem of the parser.
use Rattle.std.specs.Prelude.{codes}
use Rattle.pc_terms.specs.declared.problems.Code.{Code}
use Rattle.pc_terms.specs.declared.problems.Code.TheVariants.{P1, P2, P3, P4}
use Rattle.scan_tokens.specs.Words.{Bytes}

abbrev pub message_of : Code → Bytes
message_of P1 = codes "not a statement of the profile"
message_of P2 = codes "name expected"
message_of P3 = codes "unbalanced bracket"
message_of P4 = codes "tree too high"
message_of _ = codes "literal out of range"
