use Rattle.std.proofs.Common.{◌≡◌, Bool, true, false, [], ◌∷◌, ◌++◌, refl, sym, ap, ◌∙◌, inl, inr, if◌then◌else◌, true≢false}
use Rattle.lazy_completion.specs.declared.memo.Locked.{Locked}
use Rattle.lazy_completion.specs.declared.memo.Locked.TheVariants.{Fresh, Again}
use Rattle.lazy_completion.specs.Memo.{value, locked, is_locked}
use Rattle.lazy_completion.specs.Typing.{answer, infos, within}
use Rattle.lazy_completion.proofs.Memos.{splits}
use Rattle.lazy_completion.proofs.Typings.{own-known, own-fits, asked-known, asked-needs, asked-cyclic}
use Rattle.lazy_completion.proofs.Steps.{settle-step, lock-step, needed-none, cyclic-step, cyclic-after, IsSame}
use Rattle.lazy_completion.proofs.completion.settle_some.Goals as goal

abbrev is_fresh : Locked → Bool
is_fresh Fresh = true
is_fresh Again = false

fresh : (b : Bool) → Fresh ≡ (if b then Again else Fresh) → b ≡ false
fresh true h = absurd (true≢false (ap is_fresh h))
fresh false h = refl

again : (b : Bool) → Again ≡ (if b then Again else Fresh) → b ≡ true
again true h = refl
again false h = absurd (true≢false (sym (ap is_fresh h)))

pub settle-requires-clause-fits : goal.settle-requires-clause-fits
settle-requires-clause-fits g c = λ others last split.
    own-fits last c.in-Known.value
    (own-known (within (g.T.TypesItems.items c.args.typer.now) (infos (value c.args.memo.now))) last (g.T.TypesItems.typing c.args.typer.now last) c.in-Known.value
    (asked-known (answer (g.T.TypesItems.items c.args.typer.now) (g.T.TypesItems.typing c.args.typer.now) (value c.args.memo.now) last) c.in-Known.value (sym c.in-Known.is ∙ c.in_ok-value.ensures others last split)))

pub lock-requires : goal.lock-requires
lock-requires g c =
    let s = splits (locked c.args.memo.now) c.requires.locked in
    (needed-none (g.T.TypesItems.items c.args.typer.now) (g.T.TypesItems.typing c.args.typer.now) c.args.memo.now c.requires.under_way c.args.memo.now c.in-Needs.item s.1 s.0 s.2
    (asked-needs (answer (g.T.TypesItems.items c.args.typer.now) (g.T.TypesItems.typing c.args.typer.now) (value c.args.memo.now) s.1) c.in-Needs.item (sym c.in-Needs.is ∙ c.in_ok-value.ensures s.0 s.1 s.2))).1

pub returns-in-Known-clause-under_way : goal.returns-in-Known-clause-under_way
returns-in-Known-clause-under_way g c =
    let s = c.settle.ensures in
    (settle-step (g.T.TypesItems.items c.args.typer.now) (g.T.TypesItems.typing c.args.typer.now) c.args.memo.now c.requires.under_way c.settle.new.self c.in-Known.value s
    (asked-known (answer (g.T.TypesItems.items c.args.typer.now) (g.T.TypesItems.typing c.args.typer.now) (value c.args.memo.now) s.last) c.in-Known.value (sym c.in-Known.is ∙ c.in_ok-value.ensures s.others s.last s.was))).under_way

pub returns-in-Known-clause-nearer : goal.returns-in-Known-clause-nearer
returns-in-Known-clause-nearer g c =
    let s = c.settle.ensures in
    (settle-step (g.T.TypesItems.items c.args.typer.now) (g.T.TypesItems.typing c.args.typer.now) c.args.memo.now c.requires.under_way c.settle.new.self c.in-Known.value s
    (asked-known (answer (g.T.TypesItems.items c.args.typer.now) (g.T.TypesItems.typing c.args.typer.now) (value c.args.memo.now) s.last) c.in-Known.value (sym c.in-Known.is ∙ c.in_ok-value.ensures s.others s.last s.was))).nearer

pub returns-in-Known-clause-stays : goal.returns-in-Known-clause-stays
returns-in-Known-clause-stays g c =
    let s = c.settle.ensures in
    (settle-step (g.T.TypesItems.items c.args.typer.now) (g.T.TypesItems.typing c.args.typer.now) c.args.memo.now c.requires.under_way c.settle.new.self c.in-Known.value s
    (asked-known (answer (g.T.TypesItems.items c.args.typer.now) (g.T.TypesItems.typing c.args.typer.now) (value c.args.memo.now) s.last) c.in-Known.value (sym c.in-Known.is ∙ c.in_ok-value.ensures s.others s.last s.was))).stays

pub returns-in-Known-clause-right : goal.returns-in-Known-clause-right
returns-in-Known-clause-right g c =
    let s = c.settle.ensures in
    (settle-step (g.T.TypesItems.items c.args.typer.now) (g.T.TypesItems.typing c.args.typer.now) c.args.memo.now c.requires.under_way c.settle.new.self c.in-Known.value s
    (asked-known (answer (g.T.TypesItems.items c.args.typer.now) (g.T.TypesItems.typing c.args.typer.now) (value c.args.memo.now) s.last) c.in-Known.value (sym c.in-Known.is ∙ c.in_ok-value.ensures s.others s.last s.was))).under_way.right

pub returns-in-Known-clause-kept : goal.returns-in-Known-clause-kept
returns-in-Known-clause-kept g c =
    let s = c.settle.ensures in
    (settle-step (g.T.TypesItems.items c.args.typer.now) (g.T.TypesItems.typing c.args.typer.now) c.args.memo.now c.requires.under_way c.settle.new.self c.in-Known.value s
    (asked-known (answer (g.T.TypesItems.items c.args.typer.now) (g.T.TypesItems.typing c.args.typer.now) (value c.args.memo.now) s.last) c.in-Known.value (sym c.in-Known.is ∙ c.in_ok-value.ensures s.others s.last s.was))).kept

pub returns-in-Fresh-clause-under_way : goal.returns-in-Fresh-clause-under_way
returns-in-Fresh-clause-under_way g c =
    let s = splits (locked c.args.memo.now) c.requires.locked in
    let free : is_locked c.args.memo.now c.in-Needs.item ≡ false = fresh (is_locked c.args.memo.now c.in-Needs.item) (sym c.in-Fresh.is ∙ c.in_ok-lock-in-Needs.ensures.found) in
    (lock-step (g.T.TypesItems.items c.args.typer.now) (g.T.TypesItems.typing c.args.typer.now) c.args.memo.now c.requires.under_way c.lock.new.self c.in-Needs.item s.1 s.0 s.2
    (asked-needs (answer (g.T.TypesItems.items c.args.typer.now) (g.T.TypesItems.typing c.args.typer.now) (value c.args.memo.now) s.1) c.in-Needs.item (sym c.in-Needs.is ∙ c.in_ok-value.ensures s.0 s.1 s.2)) free c.lock.ensures.values c.in_ok-lock-in-Needs.ensures.locked).under_way

pub returns-in-Fresh-clause-nearer : goal.returns-in-Fresh-clause-nearer
returns-in-Fresh-clause-nearer g c =
    let s = splits (locked c.args.memo.now) c.requires.locked in
    let free : is_locked c.args.memo.now c.in-Needs.item ≡ false = fresh (is_locked c.args.memo.now c.in-Needs.item) (sym c.in-Fresh.is ∙ c.in_ok-lock-in-Needs.ensures.found) in
    (lock-step (g.T.TypesItems.items c.args.typer.now) (g.T.TypesItems.typing c.args.typer.now) c.args.memo.now c.requires.under_way c.lock.new.self c.in-Needs.item s.1 s.0 s.2
    (asked-needs (answer (g.T.TypesItems.items c.args.typer.now) (g.T.TypesItems.typing c.args.typer.now) (value c.args.memo.now) s.1) c.in-Needs.item (sym c.in-Needs.is ∙ c.in_ok-value.ensures s.0 s.1 s.2)) free c.lock.ensures.values c.in_ok-lock-in-Needs.ensures.locked).nearer

pub returns-in-Again-clause-under_way : goal.returns-in-Again-clause-under_way
returns-in-Again-clause-under_way g c =
    let s = splits (locked c.args.memo.now) c.requires.locked in
    let held : is_locked c.args.memo.now c.in-Needs.item ≡ true = again (is_locked c.args.memo.now c.in-Needs.item) (sym c.in-Again.is ∙ c.in_ok-lock-in-Needs.ensures.found) in
    let same : IsSame c.args.memo.now c.lock.new.self = record {
      values = c.lock.ensures.values;
      locks = c.in_ok-lock-in-Needs.ensures.locked ∙ ap (λ b. if b then locked c.args.memo.now else locked c.args.memo.now ++ c.in-Needs.item ∷ []) held;
    } in
    (cyclic-step (g.T.TypesItems.items c.args.typer.now) (g.T.TypesItems.typing c.args.typer.now) c.args.memo.now c.requires.under_way c.settle_cyclic.new.self s.1 s.0 s.2
    (inl (c.in-Needs.item, asked-needs (answer (g.T.TypesItems.items c.args.typer.now) (g.T.TypesItems.typing c.args.typer.now) (value c.args.memo.now) s.1) c.in-Needs.item (sym c.in-Needs.is ∙ c.in_ok-value.ensures s.0 s.1 s.2), held))
    (cyclic-after (g.T.TypesItems.items c.args.typer.now) (g.T.TypesItems.typing c.args.typer.now) c.args.memo.now c.lock.new.self c.settle_cyclic.new.self same c.settle_cyclic.ensures)).under_way

pub returns-in-Cyclic-clause-under_way : goal.returns-in-Cyclic-clause-under_way
returns-in-Cyclic-clause-under_way g c =
    let s = splits (locked c.args.memo.now) c.requires.locked in
    (cyclic-step (g.T.TypesItems.items c.args.typer.now) (g.T.TypesItems.typing c.args.typer.now) c.args.memo.now c.requires.under_way c.settle_cyclic-in-Cyclic.new.self s.1 s.0 s.2
    (inr (c.in-Cyclic._item, asked-cyclic (answer (g.T.TypesItems.items c.args.typer.now) (g.T.TypesItems.typing c.args.typer.now) (value c.args.memo.now) s.1) c.in-Cyclic._item (sym c.in-Cyclic.is ∙ c.in_ok-value.ensures s.0 s.1 s.2))) c.settle_cyclic-in-Cyclic.ensures).under_way

pub returns-in-Again-clause-nearer : goal.returns-in-Again-clause-nearer
returns-in-Again-clause-nearer g c =
    let s = splits (locked c.args.memo.now) c.requires.locked in
    let held : is_locked c.args.memo.now c.in-Needs.item ≡ true = again (is_locked c.args.memo.now c.in-Needs.item) (sym c.in-Again.is ∙ c.in_ok-lock-in-Needs.ensures.found) in
    let same : IsSame c.args.memo.now c.lock.new.self = record {
      values = c.lock.ensures.values;
      locks = c.in_ok-lock-in-Needs.ensures.locked ∙ ap (λ b. if b then locked c.args.memo.now else locked c.args.memo.now ++ c.in-Needs.item ∷ []) held;
    } in
    (cyclic-step (g.T.TypesItems.items c.args.typer.now) (g.T.TypesItems.typing c.args.typer.now) c.args.memo.now c.requires.under_way c.settle_cyclic.new.self s.1 s.0 s.2
    (inl (c.in-Needs.item, asked-needs (answer (g.T.TypesItems.items c.args.typer.now) (g.T.TypesItems.typing c.args.typer.now) (value c.args.memo.now) s.1) c.in-Needs.item (sym c.in-Needs.is ∙ c.in_ok-value.ensures s.0 s.1 s.2), held))
    (cyclic-after (g.T.TypesItems.items c.args.typer.now) (g.T.TypesItems.typing c.args.typer.now) c.args.memo.now c.lock.new.self c.settle_cyclic.new.self same c.settle_cyclic.ensures)).nearer

pub returns-in-Cyclic-clause-nearer : goal.returns-in-Cyclic-clause-nearer
returns-in-Cyclic-clause-nearer g c =
    let s = splits (locked c.args.memo.now) c.requires.locked in
    (cyclic-step (g.T.TypesItems.items c.args.typer.now) (g.T.TypesItems.typing c.args.typer.now) c.args.memo.now c.requires.under_way c.settle_cyclic-in-Cyclic.new.self s.1 s.0 s.2
    (inr (c.in-Cyclic._item, asked-cyclic (answer (g.T.TypesItems.items c.args.typer.now) (g.T.TypesItems.typing c.args.typer.now) (value c.args.memo.now) s.1) c.in-Cyclic._item (sym c.in-Cyclic.is ∙ c.in_ok-value.ensures s.0 s.1 s.2))) c.settle_cyclic-in-Cyclic.ensures).nearer

pub returns-in-Again-clause-right : goal.returns-in-Again-clause-right
returns-in-Again-clause-right g c =
    let s = splits (locked c.args.memo.now) c.requires.locked in
    let held : is_locked c.args.memo.now c.in-Needs.item ≡ true = again (is_locked c.args.memo.now c.in-Needs.item) (sym c.in-Again.is ∙ c.in_ok-lock-in-Needs.ensures.found) in
    let same : IsSame c.args.memo.now c.lock.new.self = record {
      values = c.lock.ensures.values;
      locks = c.in_ok-lock-in-Needs.ensures.locked ∙ ap (λ b. if b then locked c.args.memo.now else locked c.args.memo.now ++ c.in-Needs.item ∷ []) held;
    } in
    (cyclic-step (g.T.TypesItems.items c.args.typer.now) (g.T.TypesItems.typing c.args.typer.now) c.args.memo.now c.requires.under_way c.settle_cyclic.new.self s.1 s.0 s.2
    (inl (c.in-Needs.item, asked-needs (answer (g.T.TypesItems.items c.args.typer.now) (g.T.TypesItems.typing c.args.typer.now) (value c.args.memo.now) s.1) c.in-Needs.item (sym c.in-Needs.is ∙ c.in_ok-value.ensures s.0 s.1 s.2), held))
    (cyclic-after (g.T.TypesItems.items c.args.typer.now) (g.T.TypesItems.typing c.args.typer.now) c.args.memo.now c.lock.new.self c.settle_cyclic.new.self same c.settle_cyclic.ensures)).under_way.right

pub returns-in-Cyclic-clause-right : goal.returns-in-Cyclic-clause-right
returns-in-Cyclic-clause-right g c =
    let s = splits (locked c.args.memo.now) c.requires.locked in
    (cyclic-step (g.T.TypesItems.items c.args.typer.now) (g.T.TypesItems.typing c.args.typer.now) c.args.memo.now c.requires.under_way c.settle_cyclic-in-Cyclic.new.self s.1 s.0 s.2
    (inr (c.in-Cyclic._item, asked-cyclic (answer (g.T.TypesItems.items c.args.typer.now) (g.T.TypesItems.typing c.args.typer.now) (value c.args.memo.now) s.1) c.in-Cyclic._item (sym c.in-Cyclic.is ∙ c.in_ok-value.ensures s.0 s.1 s.2))) c.settle_cyclic-in-Cyclic.ensures).under_way.right
