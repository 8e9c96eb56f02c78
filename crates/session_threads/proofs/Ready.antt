-- The passes of a session, as they are made.
use Rattle.std.proofs.Common.{◌≡◌, ℕ, zero, suc, ◌+◌, List, [], ◌∷◌, ◌++◌, length, slice_get, Some, sym, ap, ◌∙◌, subst}
use Rattle.std.specs.Prelude.{option_map}
use Rattle.std.proofs.lemmas.List.{length_push, length-map, map-append}
use Rattle.std.proofs.lemmas.Option.{slice_get-map}
use Rattle.ask_history.specs.declared.script.Script.{Script}
use Rattle.counting_word.specs.declared.view.View.{View}
use Rattle.counting_word.specs.Views.{loaded, client_of, after_client}
use Rattle.session_threads.specs.Clients.{Each, CanPlayAll, AreReady, scripts_to_play}
use Rattle.session_threads.specs.Passes.{IsNew, IsEngines}
use Rattle.session_threads.specs.declared.clients.Client.{Client}

-- ---- elements with their indices

pub each-push : {X : Type 0} (P : ℕ → X → Type 0) (xs : List X) (x : X) → Each P xs → P (length xs) x → Each P (xs ++ x ∷ [])
each-push P [] x each last zero y at = let same : x ≡ y = cc in subst (P zero) same last
each-push P [] x each last (suc n) y at = cc
each-push P (z ∷ xs) x each last zero y at = each zero y at
each-push P (z ∷ xs) x each last (suc n) y at = each-push (λ i. P (suc i)) xs x (λ i. each (suc i)) last n y at

-- ---- one pass

-- A pass that the engine's makes is new. Its number is how many were made before.
pub new_pass : (engine pass : View) (count made : ℕ) → IsEngines engine count made → (found : ℕ) × (pass ≡ loaded (client_of engine) found) → IsNew pass made
new_pass engine pass count made is made_as = record {
  named = ap (λ (v : View). v.name.number) made_as.1 ∙ ap Some is.counted;
  unseen = ap (λ (v : View). v.seen) made_as.1 ∙ is.new.unseen;
  unmade = ap (λ (v : View). v.name.own) made_as.1;
}

-- The engine's pass then counts one more.
pub made_one : (engine engine' : View) (count count' made : ℕ) → IsEngines engine count made → (found : ℕ) × (engine' ≡ loaded (after_client engine) found) → count' ≡ count + 1
    → IsEngines engine' count' (made + 1)
made_one engine engine' count count' made is made_as more = record {
  new = record {
    named = ap (λ (v : View). v.name.number) made_as.1 ∙ is.new.named;
    unseen = ap (λ (v : View). v.seen) made_as.1 ∙ is.new.unseen;
    unmade = ap (λ (v : View). v.name.own) made_as.1 ∙ is.new.unmade;
  };
  counted = ap (λ (v : View). v.name.made) made_as.1 ∙ ap (λ n. n + 1) is.counted;
  count_is = more ∙ ap (λ n. n + 1) is.count_is;
}

-- ---- the clients

module _ {B : Type 0} where
  -- the pass of each is new
  abbrev pub AreNew : List (Client B) → Type 0
  AreNew clients = Each (λ number client. IsNew client.pass number) clients

  -- The clients of these scripts, as they are made: the engine's pass counts them.
  pub record AreMaking (engine : View) (count : ℕ) (scripts : List Script) (clients : List (Client B)) : Type 0 where
    pub engine_is : IsEngines engine count (length scripts)
    pub scripted : scripts_to_play clients ≡ scripts
    pub new : AreNew clients

  pub none_made : (engine : View) (count : ℕ) (clients : List (Client B)) → IsEngines engine count 0 → clients ≡ [] → AreMaking engine count [] clients
  none_made engine count clients is none = record {
    engine_is = is;
    scripted = ap scripts_to_play none;
    new = subst AreNew (sym none) (λ number client at. cc);
  }

  pub one_more : (engine engine' pass : View) (count count' : ℕ) (scripts : List Script) (script : Script) (clients clients' : List (Client B)) → AreMaking engine count scripts clients
      → (found : ℕ) × (pass ≡ loaded (client_of engine) found) → (found : ℕ) × (engine' ≡ loaded (after_client engine) found) → count' ≡ count + 1
      → clients' ≡ clients ++ record { pass = pass; script = script } ∷ [] → AreMaking engine' count' (scripts ++ script ∷ []) clients'
  one_more engine engine' pass count count' scripts script clients clients' are client_is engine_is more all = record {
    engine_is = subst (IsEngines engine' count') (sym (length_push scripts script)) (made_one engine engine' count count' (length scripts) are.engine_is engine_is more);
    scripted = ap scripts_to_play all ∙ map-append (λ (c : Client B). c.script) clients (record { pass = pass; script = script } ∷ []) ∙ ap (λ ss. ss ++ script ∷ []) are.scripted;
    new = subst AreNew (sym all)
        (each-push (λ number client. IsNew client.pass number) clients (record { pass = pass; script = script }) are.new
        (subst (IsNew pass) (ap length (sym are.scripted) ∙ length-map clients (λ (c : Client B). c.script)) (new_pass engine pass count (length scripts) are.engine_is client_is)));
  }

  -- Clients with new passes are ready where all scripts may be played.
  pub are_ready : (clients : List (Client B)) (scripts : List Script) → scripts_to_play clients ≡ scripts → CanPlayAll scripts → AreNew clients → AreReady clients
  are_ready clients scripts scripted can new number client at = record {
    new = new number client at;
    can = can number client.script
        (ap (λ all. slice_get all number) (sym scripted) ∙ slice_get-map (λ (c : Client B). c.script) clients number ∙ ap (option_map (λ (c : Client B). c.script)) at);
  }
