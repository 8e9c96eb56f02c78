-- The classes that one character alone makes.
use Rattle.std.proofs.Common.{◌≡◌, ℕ, Bool, true, false, ◌||◌, ◌==◌, cond, refl}
use Rattle.ucd_category.specs.declared.GeneralCategory.{GeneralCategory}
use Rattle.ucd_category.specs.declared.GeneralCategory.TheVariants.{MathSymbol, OtherSymbol}
use Rattle.unicode.specs.GeneralCategory.{general_category}
use Rattle.scan_tokens.specs.declared.characters.Class.{Class}
use Rattle.scan_tokens.specs.declared.characters.Class.TheVariants as class
use Rattle.scan_tokens.specs.Characters.{class_in, is_space, is_digit, is_delimiter, is_ascii_operator, class_of}
use Rattle.scan_tokens.proofs.Steps.{same_number}

-- what c is where its class is one of a mark
abbrev Marks : ℕ → Class → Type 0
Marks c k = (k ≡ class.Apostrophe → c ≡ 39) × (k ≡ class.Quote → c ≡ 34) × (k ≡ class.Backquote → c ≡ 96)

in_category : (c : ℕ) (g : GeneralCategory) → Marks c (class_in g)
in_category c MathSymbol = (λ e. cc, λ e. cc, λ e. cc)
in_category c OtherSymbol = (λ e. cc, λ e. cc, λ e. cc)
in_category c _ = (λ e. cc, λ e. cc, λ e. cc)

chosen : (c : ℕ) (b : Bool) (k l : Class) → (b ≡ true → Marks c k) → Marks c l → Marks c (cond b k l)
chosen c true k l p q = p refl
chosen c false k l p q = q

pub class_marks : (c : ℕ) → Marks c (class_of c)
unfolding class_of
class_marks c =
    let other = in_category c (general_category c) in
    let operator = chosen c (is_ascii_operator c) class.Operator _ (λ _. (λ e. cc, λ e. cc, λ e. cc)) other in
    let delimiter = chosen c (is_delimiter c) class.Delimiter _ (λ _. (λ e. cc, λ e. cc, λ e. cc)) operator in
    let letter = chosen c (c == 36 || c == 95) class.Letter _ (λ _. (λ e. cc, λ e. cc, λ e. cc)) delimiter in
    let backquote = chosen c (c == 96) class.Backquote _ (λ is. (λ e. cc, λ e. cc, λ e. same_number c 96 is)) letter in
    let quote = chosen c (c == 34) class.Quote _ (λ is. (λ e. cc, λ e. same_number c 34 is, λ e. cc)) backquote in
    let apostrophe = chosen c (c == 39) class.Apostrophe _ (λ is. (λ e. same_number c 39 is, λ e. cc, λ e. cc)) quote in
    let digit = chosen c (is_digit c) class.Digit _ (λ _. (λ e. cc, λ e. cc, λ e. cc)) apostrophe in
    chosen c (is_space c) class.Space _ (λ _. (λ e. cc, λ e. cc, λ e. cc)) digit
