-- What taking the lead comes to.
use Rattle.std.proofs.Common.{◌≡◌, ℕ, true, false, ◌||◌, ◌∷◌, length, max, if◌then◌else◌, refl, ap, sym, ◌∙◌, subst, arith}
use Rattle.counting_word.specs.declared.view.View.{View}
use Rattle.counting_word.specs.Views.{loaded, joined, longer_of}
use Rattle.counting_word.specs.Steps.{Learns}
use Rattle.counting_word.specs.Calls.{Knows, TakesLead, leading}

-- a view that has taken in the leader's, before it looks at the word
abbrev taken_in : View → View → View
taken_in old scribe = record {
  leads = true;
  seen = scribe.seen;
  older = old.seen ∷ scribe.seen ∷ old.older;
  known = max old.known scribe.known;
  loads = old.loads;
  name = record old.name { given = scribe.name.given };
}

takes_in : (old scribe : View) → scribe.leads ≡ true → old.leads ≡ false → joined old scribe ≡ taken_in old scribe
takes_in old scribe on off = λ i. record {
  leads = off i || on i;
  seen = if off i then old.seen else (if on i then scribe.seen else longer_of old.seen scribe.seen);
  older = old.seen ∷ scribe.seen ∷ old.older;
  known = max old.known scribe.known;
  loads = old.loads;
  name = record old.name { given = if on i then scribe.name.given else old.name.given };
}

pub takes_lead : (old scribe new : View) (found : ℕ) → scribe.leads ≡ true → old.leads ≡ false → new ≡ loaded (joined old scribe) found → Learns (joined old scribe) found
    → TakesLead old scribe new
takes_lead old scribe new found on off view learns =
    let same = takes_in old scribe on off in
    let l : Learns (taken_in old scribe) found = subst (λ v. Learns v found) same learns in
    let whole : length scribe.seen ≡ found = l.whole refl in
    let is : new ≡ leading old scribe.seen scribe.name.given =
    view ∙ ap (λ v. loaded v found) same ∙ ap (loaded (taken_in old scribe)) (sym whole) in
    let known : Knows (leading old scribe.seen scribe.name.given) =
    record { counted = omega arith; legal = l.legal; own = l.own; authors = l.authors } in
    record {
      view = is;
      begins = l.older.0;
      known = let m = l.known in omega arith;
      knows = subst Knows (sym is) known;
      given = record { settled = l.settled refl; got_mine = l.got refl };
    }
