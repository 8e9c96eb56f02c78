-- What a brace stands behind.
use Rattle.std.proofs.Common.{◌≡◌, List, [], ◌∷◌, ◌++◌, refl}
use Rattle.scan_tokens.specs.Words.{Bytes}
use Rattle.parse_exprs.specs.Levels.{opening_behind}
use Rattle.parse_exprs.specs.declared.contents.Opening.{Opening}
use Rattle.template_steps.specs.Pieces.{part_in, parts_in, symbol_at}
use Rattle.template_steps.specs.declared.pieces.Piece.{Piece}
use Rattle.tree_parser.specs.Levels.{opening_of}

pub opening_of_last : (text : Bytes) (pieces : List Piece) (last : Piece) (behind : Opening)
    → opening_of behind (parts_in text (pieces ++ last ∷ [])) ≡ opening_behind (symbol_at (part_in text last))
opening_of_last text [] last behind = refl
opening_of_last text (p ∷ ps) last behind = opening_of_last text ps last (opening_behind (symbol_at (part_in text p)))
