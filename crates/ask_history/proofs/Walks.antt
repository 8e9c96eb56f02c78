-- What a walk along two journals, one after the other, comes to.
use Rattle.std.proofs.Common.{◌≡◌, List, [], ◌∷◌, ◌++◌, Bool, true, false, ◌&&◌, IsTrue, refl, sym, ◌∙◌, subst, append_assoc, append-nil}
use Rattle.ask_history.specs.declared.events.Event.{Event}
use Rattle.ask_history.specs.Walk.{walk, along}
use Rattle.ask_history.specs.Legal.{may_follow, is_legal}

pub walk-append : {S : Type 0} (step : List Event → S → Event → S) (state : S) (before front rest : List Event)
    → walk step state before (front ++ rest) ≡ walk step (walk step state before front) (before ++ front) rest
walk-append step state before [] rest = simp append-nil
walk-append step state before (event ∷ front) rest =
    walk-append step (step before state event) (before ++ event ∷ []) front rest ∙ simp append_assoc

-- one event more
pub along-push : {S : Type 0} (step : List Event → S → Event → S) (start : S) (journal : List Event) (event : Event)
    → along step start (journal ++ event ∷ []) ≡ step journal (along step start journal) event
along-push step start journal event = walk-append step start [] journal (event ∷ [])

abbrev legal_step : List Event → Bool → Event → Bool
legal_step before legal event = legal && may_follow before event

-- what is not legal is not mended by what follows
never_mended : (before rest : List Event) → walk legal_step false before rest ≡ false
never_mended before [] = refl
never_mended before (event ∷ rest) = never_mended (before ++ event ∷ []) rest

prefix_from : (b : Bool) (before rest : List Event) → IsTrue (walk legal_step b before rest) → IsTrue b
prefix_from true before rest h = refl
prefix_from false before rest h = sym (never_mended before rest) ∙ h

pub is_legal-prefix : (front rest : List Event) → IsTrue (is_legal (front ++ rest)) → IsTrue (is_legal front)
is_legal-prefix front rest h = prefix_from _ front rest (subst IsTrue (walk-append legal_step true [] front rest) h)
