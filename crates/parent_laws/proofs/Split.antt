-- A linearisation around that of one parent.
use Rattle.std.proofs.Common.{◌≡◌, ℕ, suc, Bool, true, false, List, [], ◌∷◌, ◌++◌, refl, sym, ap, subst, ◌∙◌, arith}
use Rattle.std.specs.List.{filter}
use Rattle.item_questions.specs.Questions.{Known, Infos}
use Rattle.item_questions.proofs.Answers.{known-injective}
use Rattle.pc_terms.specs.declared.items.Item.{Item}
use Rattle.pc_terms.specs.declared.items.ItemValue.{ItemValue}
use Rattle.pc_terms.specs.declared.symbols.SymPath.{SymPath}
use Rattle.pc_terms.specs.declared.types.Ty.{Ty}
use Rattle.class_parents.specs.Laws.{EachOnce}
use Rattle.class_parents.specs.Linearisation.{behind_each_other, onto}
use Rattle.class_parents.specs.Parents.{classes_of, is_in}
use Rattle.class_parents.proofs.Lines.{parents_at, line, lines, line-at, lines-at, line-is-known, lines-first, lines-known}
use Rattle.class_parents.proofs.Lists.{new_to, left-within, onto-assoc}
use Rattle.class_parents.proofs.Once.{line-once}
use Rattle.parent_laws.specs.Order.{Agrees, InOrder, IsInOrder, stands_before}
use Rattle.parent_laws.proofs.Lists.{in-order, in-order-before, in-left, in-right, before-end, before-left, before-right}
use Rattle.parent_laws.proofs.Refines.{left-before}

none-right : (xs : List SymPath) → onto xs [] ≡ xs
none-right [] = refl
none-right (x ∷ xs) = ap (λ ys. x ∷ ys) (none-right xs)

-- those behind a parent, the parent, and those before it
behind-around : (first last : List (List SymPath)) (own : List SymPath)
    → behind_each_other (first ++ own ∷ last) ≡ onto (behind_each_other last) (onto own (behind_each_other first))
behind-around [] last own = ap (onto (behind_each_other last)) (sym (none-right own))
behind-around (one ∷ first) last own =
    ap (λ xs. onto xs one) (behind-around first last own)
    ∙ onto-assoc (behind_each_other last) (onto own (behind_each_other first)) one
    ∙ ap (onto (behind_each_other last)) (onto-assoc own (behind_each_other first) one)

-- where the right one of two lists agrees with the left one, this keeps its order
agrees-before : (own base : List SymPath) → Agrees own base → (x y : SymPath) → stands_before x y own ≡ true → stands_before x y (onto own base) ≡ true
agrees-before own base agrees x y h = by (is_in x base) refl
  where
    by : (b : Bool) → is_in x base ≡ b → stands_before x y (onto own base) ≡ true
    by true e = before-right x y (filter (new_to base) own) base (agrees x y h e)
    by false e = left-before x y own base e h

-- a list of classes, each once, that ends with one list on another
module _ (front own base : List SymPath) (once : EachOnce (front ++ onto own base)) where
  pub if-agrees : Agrees own base → InOrder own (front ++ onto own base)
  if-agrees agrees =
      in-order own (front ++ onto own base) once (λ x h. in-right x front (onto own base) (left-within own base x h))
      (λ x y h. before-right x y front (onto own base) (agrees-before own base agrees x y h))

  pub only-if : InOrder own (front ++ onto own base) → Agrees own base
  only-if order x y h has =
      before-end x y (filter (new_to base) own) base (once-behind front once) has
      (before-end x y front (onto own base) once (in-right x (filter (new_to base) own) base has) (in-order-before own (front ++ onto own base) order x y h))
    where
      once-behind : (xs : List SymPath) → EachOnce (xs ++ onto own base) → EachOnce (onto own base)
      once-behind [] o = o
      once-behind (z ∷ xs) o = once-behind xs o.1

  kept-before : (x y : SymPath) → stands_before x y (filter (new_to base) own) ≡ true → stands_before x y (front ++ onto own base) ≡ true
  kept-before x y h = before-right x y front (onto own base) (before-left x y (filter (new_to base) own) base h)

  pub new-ones : InOrder (filter (new_to base) own) (front ++ onto own base)
  new-ones =
      in-order (filter (new_to base) own) (front ++ onto own base) once
      (λ x h. in-right x front (onto own base) (in-left x (filter (new_to base) own) base h)) kept-before

module _ (known : Infos Item ItemValue) where
  record Around (n : ℕ) (before after : List SymPath) (parent : SymPath) (lists : List (List SymPath)) : Type 0 where
    first : List (List SymPath)
    last : List (List SymPath)
    own : List SymPath
    firsts : lines known n before ≡ Known first
    is_line : line known n parent ≡ Known own
    all : first ++ own ∷ last ≡ lists

  around : (n : ℕ) (before after : List SymPath) (parent : SymPath) (lists : List (List SymPath)) → lines known n (before ++ parent ∷ after) ≡ Known lists
      → Around n before after parent lists
  around n [] after parent lists h =
      let parts = lines-first known n parent after lists h in
      record { first = []; last = parts.1; own = parts.0; firsts = refl; is_line = parts.2; all = parts.4 }
  around n (class ∷ before) after parent lists h =
      let parts = lines-first known n class (before ++ parent ∷ after) lists h in
      let others = around n before after parent parts.1 parts.3 in
      record {
        first = parts.0 ∷ others.first;
        last = others.last;
        own = others.own;
        firsts = lines-known known n class before parts.0 others.first parts.2 others.firsts;
        is_line = others.is_line;
        all = ap (λ ls. parts.0 ∷ ls) others.all ∙ parts.4;
      }

  -- the room of a linearisation, but for that of the class itself
  abbrev room : ℕ
  room = 4294967294

  module _ (class parent : SymPath) (types : List Ty) (before after classes : List SymPath) where
    of-lists : (lists : List (List SymPath)) → Around room before after parent lists → line known (suc room) class ≡ Known classes
        → classes ≡ class ∷ behind_each_other lists → IsInOrder known parent before classes
    of-lists lists a h is = record {
      line = a.own;
      is_line = line-at known room (suc room) parent a.own (omega arith) a.is_line;
      lists = a.first;
      are_lines = lines-at known room (suc room) before a.first (omega arith) a.firsts;
      where_agrees = λ agrees. subst (InOrder a.own) (sym whole) (if-agrees front a.own (behind_each_other a.first) once agrees);
      only_there = λ order. only-if front a.own (behind_each_other a.first) once (subst (InOrder a.own) whole order);
      new_ones = subst (InOrder (filter (new_to (behind_each_other a.first)) a.own)) (sym whole) (new-ones front a.own (behind_each_other a.first) once);
    }
      where
        front : List SymPath
        front = class ∷ filter (new_to (onto a.own (behind_each_other a.first))) (behind_each_other a.last)

        whole : classes ≡ front ++ onto a.own (behind_each_other a.first)
        whole = is ∙ ap (λ ls. class ∷ behind_each_other ls) (sym a.all) ∙ ap (λ xs. class ∷ xs) (behind-around a.first a.last a.own)

        once : EachOnce (front ++ onto a.own (behind_each_other a.first))
        once = subst EachOnce whole (line-once known (suc room) class classes h)

    pub parent-in-order : parents_at known class ≡ Known types → classes_of types ≡ before ++ parent ∷ after → line known (suc room) class ≡ Known classes
        → IsInOrder known parent before classes
    parent-in-order p e h =
        let parts = line-is-known known room class classes h in
        of-lists parts.1 (around room before after parent parts.1
        (ap (lines known room) (sym (ap classes_of (known-injective parts.0 types (sym parts.2 ∙ p)) ∙ e)) ∙ parts.3)) h parts.4
