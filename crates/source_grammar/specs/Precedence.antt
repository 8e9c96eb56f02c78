-- Infix operations (SLS 6.12.3): operands with operators between them, as one tree by precedence and associativity.
use Rattle.std.specs.Prelude.{ℕ, zero, suc, ◌-◌, Bool, true, false, not, ◌&&◌, ◌||◌, ◌==◌, nat_lt, if◌then◌else◌, List, [], ◌∷◌, length, codes, slice_index}
use Rattle.std.specs.List.{list_any}
use Rattle.std.specs.Str.{chars, bytes_eq}
use Rattle.pc_terms.specs.declared.problems.Span.{Span}
use Rattle.scan_tokens.specs.Characters.{class_of}
use Rattle.scan_tokens.specs.declared.characters.Class.{Class}
use Rattle.scan_tokens.specs.declared.characters.Class.TheVariants.{Letter}
use Rattle.scan_tokens.specs.Words.{Bytes}
use Rattle.source_grammar.specs.Lexemes.{Id}

-- ---- operators

abbrev pub first_character : Bytes → ℕ
first_character name = slice_index (chars name) 0

-- an operator of ASCII characters is known by its last byte
abbrev pub last_byte : Bytes → ℕ
last_byte name = slice_index name (length name - 1)

abbrev pub is_of : Bytes → ℕ → Bool
is_of characters c = list_any (λ d. d == c) characters

abbrev pub is_letter_class : Class → Bool
is_letter_class Letter = true
is_letter_class _ = false

abbrev pub is_letter : ℕ → Bool
is_letter c = is_letter_class (class_of c)

abbrev pub is_comparison : Bytes → Bool
is_comparison name = bytes_eq name (codes "<=") || bytes_eq name (codes ">=") || bytes_eq name (codes "!=")

-- An assignment operator (SLS 6.12.4): of operator characters, it ends in = and does not begin with it, and compares nothing.
unfoldable pub is_assignment : Bytes → Bool
is_assignment name =
    is_of (codes "=") (last_byte name) && not (is_of (codes "=") (first_character name)) && not (is_letter (first_character name))
    && not (is_comparison name)

-- the precedence of an operator that begins with this character and does not assign
abbrev pub precedence_of_first : ℕ → ℕ
precedence_of_first c =
    if is_letter c then 1
    else (if is_of (codes "|") c then 2
    else (if is_of (codes "^") c then 3
    else (if is_of (codes "&") c then 4
    else (if is_of (codes "=!") c then 5
    else (if is_of (codes "<>") c then 6
    else (if is_of (codes ":") c then 7
    else (if is_of (codes "+-") c then 8
    else (if is_of (codes "*/%") c then 9 else 10))))))))

abbrev pub highest_precedence : ℕ
highest_precedence = 10

-- The precedence of an operator: the higher, the closer it binds. Backquotes make no difference.
unfoldable pub precedence : Bytes → ℕ
precedence name = if is_assignment name then 0 else precedence_of_first (first_character name)

-- An operator that ends in : is right associative.
unfoldable pub is_right : Bytes → Bool
is_right name = is_of (codes ":") (last_byte name)

-- ---- operators of one precedence and two associativities

abbrev pub same_side : Id → Id → Bool
same_side a b = if is_right a.name then is_right b.name else not (is_right b.name)

-- the operators after this one, up to one that binds less, associate as it does where they have its precedence
abbrev pub agrees_with : Id → List Id → Bool
agrees_with a [] = true
agrees_with a (b ∷ bs) =
    nat_lt (precedence b.name) (precedence a.name)
    || ((not (precedence b.name == precedence a.name) || same_side a b) && agrees_with a bs)

abbrev pub are_of_one_side : List Id → Bool
are_of_one_side [] = true
are_of_one_side (a ∷ bs) = agrees_with a bs && are_of_one_side bs

-- ---- one operation of many

-- an operand, as what was built of it, with the span of all its tokens, its parentheses among them
pub record Operand (A : Type 0) : Type 0 where
  pub built : A
  pub span : Span

-- an operator, and the operand after it
pub record Operation (A : Type 0) : Type 0 where
  pub operator : Id
  pub operand : Operand A

pub record Chain (A : Type 0) : Type 0 where
  pub first : Operand A
  pub operations : List (Operation A)

-- how an operator and its two operands make one
abbrev pub Joining : Type 0 → Type 0
Joining A = Id → Operand A → Operand A → Operand A

abbrev pub after_left : {A : Type 0} → Operand A → Id → Chain A → Chain A
after_left a operator chain = record { first = a; operations = record { operator = operator; operand = chain.first } ∷ chain.operations }

abbrev pub joined_right : {A : Type 0} → Joining A → Operand A → Id → Chain A → Chain A
joined_right join a operator chain = record { first = join operator a chain.first; operations = chain.operations }

-- The operators of one precedence join what stands beside them: the first of them first, or the last of them where they are right associative.
abbrev pub joined_at : {A : Type 0} → Joining A → ℕ → Operand A → List (Operation A) → Chain A
joined_at join level a [] = record { first = a; operations = [] }
joined_at join level a (next ∷ rest) =
    if not (precedence next.operator.name == level) then after_left a next.operator (joined_at join level next.operand rest)
    else (if is_right next.operator.name then joined_right join a next.operator (joined_at join level next.operand rest)
    else joined_at join level (join next.operator a next.operand) rest)

-- those of this precedence first, then those of the next lower one
abbrev pub joined_from : {A : Type 0} → Joining A → ℕ → Chain A → Chain A
joined_from join zero chain = joined_at join 0 chain.first chain.operations
joined_from join (suc level) chain = joined_from join level (joined_at join (suc level) chain.first chain.operations)

unfoldable pub joined : {A : Type 0} → Joining A → Chain A → Operand A
joined join chain = (joined_from join highest_precedence chain).first
