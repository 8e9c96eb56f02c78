use Rattle.std.proofs.Common.{◌≡◌, ◌++◌, [], drop, take, map}
use denote.Text.{Utf8}
use denote.Shadow.{shadow}
use Rattle.pc_terms.specs.ShowType.{joined_after, formal_text, shown, texts_of}
use Rattle.pc_terms.proofs.type_text.+show_type.Given as goal

-- what is written so far, and the parameters that are left
abbrev pub invariant-push_formals-loop-formal : goal.invariant-push_formals-loop-formal
invariant-push_formals-loop-formal l =
    shadow (Utf8 l.before) × (l.text ++ joined_after l.before (map formal_text (drop l.formal-index l.formals)) ≡ l.initial.text ++ joined_after [] (map formal_text l.formals))

-- what is written so far, and the types that are left
abbrev pub invariant-push_types-loop-at : goal.invariant-push_types-loop-at
invariant-push_types-loop-at l =
    shadow (Utf8 l.before) × (l.text ++ joined_after l.before (texts_of (map shown (drop l.at (take l.count l.tys)))) ≡ l.initial.text ++ joined_after [] (texts_of (map shown (take l.count l.tys))))
