use Rattle.std.proofs.Common.{◌≡◌, ◌∙◌, Option, Some, is_some, ℕ, sym, ap, refl, rules}
use Rattle.std.specs.Map.{update}
use Rattle.std.specs.Str.{bytes_eq}
use Rattle.std.specs.Option.{option_copied_mut}
use Rattle.std.proofs.lemmas.Map.Text.{hash_map_updates_text}
use Rattle.indexmap.specs.IndexMap.{get_by_text}
use Rattle.ask_history.specs.Sources.{Bytes}
use Rattle.work_queue.specs.Tally.{kept}
use Rattle.work_queue.proofs.Rooms.{kept-raised, is_some-update}
use Rattle.work_queue.proofs.tally.Tally.raise.Goals as goal

pub returns : goal.returns
returns c =
    let name = c.args.name.now in
    let find : Bytes → Option (Option ℕ) = get_by_text c.args.self.now.longest in
    let is : find name ≡ Some c.in-Some.most.now = sym c.get_mut.ensures.value ∙ ap option_copied_mut c.in-Some.is in
    let now = hash_map_updates_text name c.args.self.now.longest (c.get_mut.follows.lender c.longer.result) (Some c.longer.result) ((c.get_mut.follows.holds c.longer.result).3 (search rules)) in
    record {
      usage = refl;
      longest = λ other. ap kept (now other ∙ ap (λ w. update bytes_eq find name (Some w) other) c.longer.ensures) ∙ kept-raised find name c.in-Some.most.now c.args.len is other;
      room = λ other h. ap (λ o. is_some o) (now other) ∙ is_some-update find name c.longer.result other h;
    }
