use Rattle.client_scripts.specs.Runs.{HasEnded, AreAnswers}
use Rattle.desk_clients.specs.Seen.{seen_state}
use Rattle.session_threads.proofs.Joining.{if_ok, has_played}
use Rattle.session_threads.proofs.clients.play_client.Goals as goal

pub returns-clause-played : goal.returns-clause-played
returns-clause-played g c number named =
    has_played c.args.client.pass _ number _ named c.known.ensures.1 c.play.ensures.named c.play.ensures.runs
    (if_ok (λ answers. HasEnded (seen_state c.args.client.pass).number c.args.client.script.lines (seen_state c.play.new.pass.pass).history) _ c.play.result c.ok-answers.ensures.value c.play.ensures.ended)
    (if_ok (AreAnswers (seen_state c.args.client.pass).number (seen_state c.play.new.pass.pass).history) _ c.play.result c.ok-answers.ensures.value c.play.ensures.answers)
