-- What each head keeps of what it and those further out can take is what a walk over them finds.
use Rattle.std.proofs.Common.{◌≡◌, List, [], ◌∷◌, refl, ◌∙◌}
use Rattle.source_grammar.specs.Expressions.{Heading, Lambda, IfThen, TryAlone}
use Rattle.expr_tails.specs.declared.states.Reach.{Reach}
use Rattle.expr_frames.specs.Heads.{reach_of, reach_with}
use Rattle.expr_tails.specs.Ending.{waits_in}
use Rattle.expr_laws.proofs.Derived.{Head, Of, DoHead, takes_else, takes_catch, waits}
use Rattle.expr_laws.proofs.Shown.{kind_shown, heads_shown}

pub else-shown : (hs : List Head) → (reach_of (heads_shown hs)).takes_else ≡ takes_else hs
else-shown [] = refl
else-shown (Of (IfThen word o test c) ∷ hs) = refl
else-shown (DoHead word ∷ hs) = refl
else-shown (h ∷ hs) = else-shown hs

pub catch-shown : (hs : List Head) → (reach_of (heads_shown hs)).takes_catch ≡ takes_catch hs
catch-shown [] = refl
catch-shown (Of (TryAlone word) ∷ hs) = refl
catch-shown (DoHead word ∷ hs) = refl
catch-shown (h ∷ hs) = catch-shown hs

-- a `try` takes `finally` where it takes `catch`; one with cases is a tail and no head
pub finally-shown : (hs : List Head) → (reach_of (heads_shown hs)).takes_finally ≡ takes_catch hs
finally-shown [] = refl
finally-shown (Of (TryAlone word) ∷ hs) = refl
finally-shown (DoHead word ∷ hs) = refl
finally-shown (h ∷ hs) = finally-shown hs

of-waits : (h : Heading) (r : Reach) → (reach_with r (kind_shown (Of h))).waits ≡ r.waits
of-waits (Lambda h arrow) r = refl
of-waits _ r = refl

pub reach-waits : (hs : List Head) → (reach_of (heads_shown hs)).waits ≡ waits hs
reach-waits [] = refl
reach-waits (DoHead word ∷ hs) = refl
reach-waits (Of h ∷ hs) = of-waits h (reach_of (heads_shown hs)) ∙ reach-waits hs

pub waits-shown : (hs : List Head) → waits_in (heads_shown hs) ≡ waits hs
waits-shown [] = refl
waits-shown (DoHead word ∷ hs) = refl
waits-shown (h ∷ hs) = reach-waits (h ∷ hs)
