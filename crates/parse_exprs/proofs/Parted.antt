-- The part that a reading comes to.
use Rattle.std.proofs.Common.{◌≡◌, ℕ, ◌+◌, List, take, Option, Some, ap, sym, subst, ◌∙◌}
use Rattle.std.specs.Prelude.{Result, IfOk}
use Rattle.std.proofs.lemmas.Result.{IfOk-weaker}
use Rattle.source_grammar.specs.Lexemes.{Lexeme}
use Rattle.reading_machines.specs.Machines.{reading_of}
use Rattle.reading_machines.specs.Parts.{anything}
use Rattle.parse_parts.specs.declared.built.Tall.{Tall}
use Rattle.parse_parts.specs.declared.parts.Part.{Part}
use Rattle.parse_exprs.specs.Levels.{reader, tree_of}
use Rattle.parse_exprs.specs.Parting.{expr_part, items_of, part_by, part_of}

found : (ts : List Lexeme) (at count : ℕ) (tall : Option Tall) (part : Part) → (reading_of reader anything ts).best ≡ Some count
    → tall ≡ tree_of (items_of (take count ts)) → part ≡ part_of tall (at + count) → part ≡ expr_part ts at
found ts at count tall part best made is =
    let there : part_of tall (at + count) ≡ part_by ts at (reading_of reader anything ts).reached (Some count) = ap (λ t. part_of t (at + count)) made in
    let all : part_by ts at (reading_of reader anything ts).reached (Some count) ≡ expr_part ts at =
    ap (part_by ts at (reading_of reader anything ts).reached) (sym best) in
    is ∙ there ∙ all

pub found-part : {E : Type 0} (ts : List Lexeme) (at count : ℕ) (tall : Option Tall) (result : Result Part E) → (reading_of reader anything ts).best ≡ Some count
    → tall ≡ tree_of (items_of (take count ts)) → IfOk result (λ part. part ≡ part_of tall (at + count)) → IfOk result (λ part. part ≡ expr_part ts at)
found-part ts at count tall result best made is =
    IfOk-weaker result (λ part. part ≡ part_of tall (at + count)) (λ part. part ≡ expr_part ts at) (λ part. found ts at count tall part best made) is

pub same-part : {E : Type 0} (ts us : List Lexeme) (at : ℕ) (result : Result Part E) → ts ≡ us → IfOk result (λ part. part ≡ expr_part ts at)
    → IfOk result (λ part. part ≡ expr_part us at)
same-part ts us at result e is = subst (λ xs. IfOk result (λ part. part ≡ expr_part xs at)) e is
