-- One line more that can be played.
use Rattle.std.proofs.Common.{List, [], ◌∷◌, ◌++◌}
use Rattle.std.proofs.lemmas.List.Elements.{All-push}
use Rattle.ask_history.specs.declared.script.Line.{Line}
use Rattle.schedule_player.specs.Owed.{CanPlay, CanPlayAll}

pub push_can_play : (lines : List Line) (line : Line) → CanPlayAll lines → CanPlay line.order → CanPlayAll (lines ++ line ∷ [])
push_can_play lines line can more = All-push (λ line. CanPlay line.order) lines line can more
