use Rattle.std.proofs.Common.{◌∷◌, [], take, ◌≡◌, ◌∙◌, Option, Some, None, is_some, String, Global, ℕ, sym, ap, refl, string_bytes}
use Rattle.std.proofs.lemmas.Map.Text.{hash_map_updates_text}
use Rattle.std.specs.String.{string_eq}
use Rattle.std.proofs.lemmas.List.{take-append-le}
use Rattle.indexmap.specs.IndexMap.{get_by_text}
use Rattle.indexmap.proofs.CallerLemmas.{insert_entry-new}
use Rattle.ask_history.specs.Sources.{Bytes}
use Rattle.work_queue.specs.Tally.{kept}
use Rattle.work_queue.proofs.Noting.{none_from}
use Rattle.work_queue.proofs.Rooms.{kept-room, is_some-update}
use Rattle.work_queue.proofs.tally.Tally.make_room_for.Goals as goal

pub returns-in_ok-insert-clause-same : goal.returns-in_ok-insert-clause-same
returns-in_ok-insert-clause-same c =
    let name = string_bytes c.in_ok-name.name in
    let find : Bytes → Option (Option ℕ) = get_by_text c.args.self.now.longest in
    let none : find name ≡ None =
    ap find c.in_ok-name.ensures.ok ∙ none_from (find c.args.name.now) (sym c.contains_key.ensures ∙ c.if-not-contains_key.true) in
    let now = hash_map_updates_text name c.args.self.now.longest c.insert.new.self (Some None) c.in_ok-insert.ensures.updates in
    record {
      usage = refl;
      longest = λ other. ap kept (now other) ∙ kept-room find name none other;
      room = λ other h. ap (λ o. is_some o) (now other) ∙ is_some-update find name None other h;
    }

pub returns-in_ok-insert-clause-names : goal.returns-in_ok-insert-clause-names
returns-in_ok-insert-clause-names c = λ n within.
    let name = c.in_ok-name.name in
    let old = c.args.self.now.longest in
    let find : Bytes → Option (Option ℕ) = get_by_text old in
    let none : find (string_bytes name) ≡ None =
    ap find c.in_ok-name.ensures.ok ∙ none_from (find c.args.name.now) (sym c.contains_key.ensures ∙ c.if-not-contains_key.true) in
    let last : String Global × Option ℕ = (name, None) in
    ap (take n) (c.in_ok-insert.ensures.entries ∙ insert_entry-new string_eq old name None none) ∙ take-append-le n old.entries (last ∷ []) within
