use Rattle.std.proofs.Common.{◌≡◌, ◌++◌, [], drop, map}
use denote.Text.{Utf8}
use denote.Shadow.{shadow}
use Rattle.pc_terms.specs.ShowType.{joined_after, param_name}
use Rattle.pc_terms.proofs.type_text.push_params.Given as goal

-- what is written so far, and the names that are left
abbrev pub invariant-loop-param : goal.invariant-loop-param
invariant-loop-param l =
    shadow (Utf8 l.before) × (l.text ++ joined_after l.before (map param_name (drop l.param-index l.params)) ≡ l.initial.text ++ joined_after [] (map param_name l.params))
