-- What stands behind the pattern of a case.
use Rattle.std.proofs.Common.{◌≡◌, true, if◌then◌else◌, List, [], ◌∷◌, drop, Option, Some, None, refl, ap, sym, ◌∙◌}
use Rattle.scan_tokens.specs.Words.{Bytes}
use Rattle.pc_terms.specs.declared.problems.Span.{Span}
use Rattle.parse_parts.specs.declared.built.Tall.{Tall}
use Rattle.expr_tails.specs.declared.items.Built.{Built}
use Rattle.expr_tails.specs.declared.states.Limit.TheVariants as limit
use Rattle.expr_tails.specs.declared.states.State.{State}
use Rattle.expr_steps.specs.Reading.{begun, guard_at}
use Rattle.parse_exprs.specs.declared.items.Item.{Item as Written}
use Rattle.parse_exprs.specs.Cases.{after_pattern, arrow_behind, behind, guard_behind, guard_of, is_if_next}
use Rattle.parse_exprs.specs.Items.{items_in, next_symbol}

drop-first : (text : Bytes) (items : List Written) → items_in text (drop 1 items) ≡ drop 1 (items_in text items)
drop-first text [] = refl
drop-first text (i ∷ is) = refl

-- a guard that was read up to the arrow
pub guarded : (text : Bytes) (word : Span) (pattern : Option Tall) (guard : Built) (s : State) (items left : List Written)
    → is_if_next (next_symbol (items_in text items)) ≡ true
    → behind (Some s) (items_in text left) ≡ guard_of (begun limit.CaseGuard) (items_in text (drop 1 items)) → guard ≡ guard_at s
    → arrow_behind word pattern (Some guard) (items_in text left) ≡ after_pattern word pattern (items_in text items)
guarded text word pattern guard s items left is read made =
    ap (λ g. arrow_behind word pattern (Some g) (items_in text left)) made
    ∙ ap (guard_behind word pattern) (read ∙ ap (guard_of (begun limit.CaseGuard)) (drop-first text items))
    ∙ sym (ap (λ b. if b then guard_behind word pattern (guard_of (begun limit.CaseGuard) (drop 1 (items_in text items))) else arrow_behind word pattern None (items_in text items)) is)
