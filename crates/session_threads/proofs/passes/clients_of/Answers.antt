use Rattle.std.proofs.Common.{◌≡◌, ◌∙◌, sym, ap, subst, List, [], ◌∷◌, ◌++◌, length, append_assoc, append-nil, arith}
use Rattle.std.proofs.lemmas.List.{length-append, length-map, nil_from_length}
use Rattle.ask_history.specs.declared.script.Script.{Script}
use Rattle.session_threads.specs.Passes.{IsEngines}
use Rattle.session_threads.proofs.Ready.{none_made, one_more, are_ready}
use Rattle.session_threads.proofs.passes.clients_of.Goals as goal

pub loop-script-init : goal.loop-script-init
loop-script-init g c = record {
  making = none_made _ _ _ c.requires.engine (c.in_ok-reserve.ensures.items ∙ c.new-clients.ensures.items);
  left = c.into_iter-script-iterator.ensures.into_iter_gives.0 ∙ c.into_vec-scripts.ensures;
  room = omega (arith, c.in_ok-reserve.ensures.ok, c.len.ensures, ap length c.into_vec-scripts.ensures);
}

pub new_pass-pass-requires-clause-engine : goal.new_pass-pass-requires-clause-engine
new_pass-pass-requires-clause-engine g c = c.loop-script.invariant.making.engine_is.new.named

pub new_pass-pass-requires-clause-made : goal.new_pass-pass-requires-clause-made
new_pass-pass-requires-clause-made g c = c.loop-script.invariant.making.engine_is.counted ∙ sym c.loop-script.invariant.making.engine_is.count_is

pub new_pass-pass-requires-clause-few : goal.new_pass-pass-requires-clause-few
new_pass-pass-requires-clause-few g c =
    omega (arith, ap length c.loop-script.invariant.left, length-append c.loop-script.yielded c.loop-script.script-iterator.rest.items, c.requires.few, c.loop-script.invariant.making.engine_is.count_is)

pub push_reserved-requires : goal.push_reserved-requires
push_reserved-requires g c =
    omega (
      arith,
      ap length c.loop-script.invariant.left,
      length-append c.loop-script.yielded c.loop-script.script-iterator.rest.items,
      ap length c.in-Some.ensures.steps.0,
      ap length c.loop-script.invariant.making.scripted,
      length-map c.loop-script.clients.items (λ client. client.script),
      c.loop-script.clients.ok.0,
      c.loop-script.invariant.room,
    )

pub loop-script-preserved : goal.loop-script-preserved
loop-script-preserved g c = record {
  making = one_more _ _ _ _ _ _ _ _ _ c.loop-script.invariant.making c.new_pass-pass.ensures.client c.new_pass-pass.ensures.engine c.new_pass-pass.ensures.made c.push_reserved.ensures.items;
  left = append_assoc c.loop-script.yielded (c.in-Some.script ∷ []) c.next.new.self.rest.items ∙ ap (λ left. c.loop-script.yielded ++ left) (sym c.in-Some.ensures.steps.0) ∙ c.loop-script.invariant.left;
  room = omega (arith, c.loop-script.invariant.room, c.push_reserved.ensures.capacity);
}

-- the loop ends behind all scripts
all_yielded : (g : _) (c : goal.After-drop-script-iterator g) → c.loop-script.yielded ≡ c.args.scripts
all_yielded g c =
    sym (append-nil c.loop-script.yielded)
    ∙ ap (λ left. c.loop-script.yielded ++ left) (sym (nil_from_length c.loop-script.script-iterator.rest.items (sym c.loop-script.script-iterator.rest.ok.0 ∙ c.in-None.ensures.steps.0)))
    ∙ c.loop-script.invariant.left

pub returns-clause-engine : goal.returns-clause-engine
returns-clause-engine g c = subst (λ (all : List Script). IsEngines c.loop-script.engine.pass c.loop-script.engine.made (length all)) (all_yielded g c) c.loop-script.invariant.making.engine_is

pub returns-clause-scripts : goal.returns-clause-scripts
returns-clause-scripts g c = c.loop-script.invariant.making.scripted ∙ all_yielded g c

pub returns-clause-ready : goal.returns-clause-ready
returns-clause-ready g c = are_ready _ _ (returns-clause-scripts g c) c.requires.can c.loop-script.invariant.making.new
