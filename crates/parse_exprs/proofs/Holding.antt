-- Levels whose items are of a text.
use Rattle.std.proofs.Common.{◌≡◌, ℕ, true, if◌then◌else◌, List, [], ◌∷◌, ◌++◌, map, Some, None, ap, sym, subst, ◌∙◌}
use Rattle.std.specs.List.{All}
use Rattle.std.specs.Option.{ForSome}
use Rattle.std.proofs.lemmas.List.Elements.{All-nil, All-head, All-push, All-rest, All-same}
use Rattle.scan_tokens.specs.Words.{Bytes}
use Rattle.expr_tails.specs.declared.items.Braces.{Braces}
use Rattle.parse_exprs.specs.declared.items.Item.{Item as Written}
use Rattle.parse_exprs.specs.declared.levels.Level.{Level as WrittenLevel}
use Rattle.parse_exprs.specs.declared.levels.Levels.{Levels as WrittenLevels}
use Rattle.parse_exprs.specs.Checks.{may_close}
use Rattle.parse_exprs.specs.Items.{IsItemOf, items_in}
use Rattle.parse_exprs.specs.Levels.{AreLevelsOf, IsLevelOf, Level, Levels, begun, braces_of, closed_around, level_in, levels_in, with_braces}

pub of-some : {A : Type 0} (P : A → Type 0) (a : A) → P a → ForSome (Some a) P
of-some P a p = λ x e. let same : a ≡ x = cc in subst P same p

-- one item more
pub more-items : (text : Bytes) (items now : List Written) (item : Written) → All (IsItemOf text) items → IsItemOf text item → now ≡ items ++ item ∷ []
    → All (IsItemOf text) now
more-items text items now item all is e = All-same (IsItemOf text) now (items ++ item ∷ []) e (All-push (IsItemOf text) items item all is)

pub outer-items : (text : Bytes) (around left : List WrittenLevel) (outer : WrittenLevel) → All (IsLevelOf text) around → around ≡ outer ∷ left
    → IsLevelOf text outer
outer-items text around left outer all e = All-head (IsLevelOf text) outer left (subst (All (IsLevelOf text)) e all)

pub left-around : (text : Bytes) (around left : List WrittenLevel) (outer : WrittenLevel) → All (IsLevelOf text) around → around ≡ outer ∷ left
    → All (IsLevelOf text) left
left-around text around left outer all e = All-rest (IsLevelOf text) outer left around e all

abbrev levels_over : Level → List Level → Levels
levels_over level around = record { current = level; around = around }

-- a brace that closes the current level
pub closed-levels : (text : Bytes) (current outer now : WrittenLevel) (around left : List WrittenLevel) (braces : Braces) (end : ℕ)
    → may_close current.check ≡ true → around ≡ outer ∷ left → braces ≡ braces_of (level_in text current) end
    → level_in text now ≡ with_braces (level_in text outer) braces
    → Some (levels_in text (record { current = now; around = left }))
    ≡ (if may_close current.check then closed_around (level_in text current) end (map (level_in text) around) else None)
closed-levels text current outer now around left braces end may e made is =
    ap (λ l. Some (levels_over l (map (level_in text) left))) (is ∙ ap (with_braces (level_in text outer)) made)
    ∙ ap (λ ls. closed_around (level_in text current) end (map (level_in text) ls)) (sym e)
    ∙ ap (λ b. if b then closed_around (level_in text current) end (map (level_in text) around) else None) (sym may)

none-of : (text : Bytes) (items : List Written) → items_in text items ≡ [] → All (IsItemOf text) items
none-of text [] e = All-nil (IsItemOf text)
none-of text (i ∷ is) e = absurd (cc)

none-around : (text : Bytes) (levels : List WrittenLevel) → map (level_in text) levels ≡ [] → All (IsLevelOf text) levels
none-around text [] e = All-nil (IsLevelOf text)
none-around text (l ∷ ls) e = absurd (cc)

pub begun-items : (text : Bytes) (levels : WrittenLevels) → levels_in text levels ≡ begun → AreLevelsOf text levels
begun-items text levels e = record {
  current = none-of text levels.current.items (ap (λ ls. ls.current.items) e);
  around = none-around text levels.around (ap (λ ls. ls.around) e);
}
