-- Generators, one more at the end.
use Rattle.std.proofs.Common.{◌≡◌, Bool, List, [], ◌∷◌, ◌++◌, Option, refl, ap}
use Rattle.scan_tokens.specs.Words.{Bytes}
use Rattle.source_grammar.specs.Comprehensions.{last_method, earlier_method}
use Rattle.parse_parts.specs.declared.built.Tall.{Tall}
use Rattle.tree_lower.specs.declared.comprehensions.Generator.{Generator}
use Rattle.tree_lower.specs.Comprehending.{calling, comprehended, over_generators}

-- the calls of these generators, of which the last one is of this method
abbrev pub over : Bool → Bytes → List Generator → Option Tall → Option Tall
over yields method [] body = body
over yields method (gen ∷ []) body = calling method gen body
over yields method (gen ∷ next ∷ gens) body = calling (earlier_method yields) gen (over yields method (next ∷ gens) body)

pub one_more : (yields : Bool) (method : Bytes) (gens : List Generator) (gen : Generator) (body : Option Tall)
    → over yields method (gens ++ gen ∷ []) body ≡ over yields (earlier_method yields) gens (calling method gen body)
one_more yields method [] gen body = refl
one_more yields method (g ∷ []) gen body = refl
one_more yields method (g ∷ next ∷ gens) gen body = ap (calling (earlier_method yields) g) (one_more yields method (next ∷ gens) gen body)

comprehended-over : (yields : Bool) (gen : Generator) (gens : List Generator) (body : Option Tall)
    → over yields (last_method yields) (gen ∷ gens) body ≡ comprehended yields gen gens body
comprehended-over yields gen [] body = refl
comprehended-over yields gen (next ∷ gens) body = ap (calling (earlier_method yields) gen) (comprehended-over yields next gens body)

pub all_over : (yields : Bool) (gens : List Generator) (body : Option Tall) → over yields (last_method yields) gens body ≡ over_generators yields gens body
all_over yields [] body = refl
all_over yields (gen ∷ gens) body = comprehended-over yields gen gens body
