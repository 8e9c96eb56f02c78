-- What the reading cuts off is written as a piece of its shape.
use Rattle.std.proofs.Common.{◌≡◌, ℕ, zero, suc, ◌+◌, ◌-◌, Bool, true, false, not, ◌||◌, ◌&&◌, ◌==◌, cond, ◌⊎◌, inl, inr, List, [], ◌∷◌, ◌++◌, length, Option, Some, None, IfSome, encode_utf8_all, refl, ap, sym, ◌∙◌, subst, arith, length-append, append_assoc, append-nil}
use Rattle.std.specs.Option.{option_and_then, unwrap_or}
use Rattle.std.specs.Char.{is_ascii_hexdigit}
use Rattle.scan_tokens.specs.declared.characters.Class.{Class}
use Rattle.scan_tokens.specs.declared.characters.Class.TheVariants as class
use Rattle.scan_tokens.specs.declared.characters.Run.{Run}
use Rattle.scan_tokens.specs.declared.characters.Run.TheVariants as run
use Rattle.scan_tokens.specs.declared.shapes.Shape.{Shape}
use Rattle.scan_tokens.specs.declared.shapes.Shape.TheVariants as shape
use Rattle.scan_tokens.specs.Characters.{Chars, class_of, is_operator, is_letter_or_digit, in_run, past, next_is, next_are, past_one, bytes_up_to}
use Rattle.scan_tokens.specs.Kinds.{is_reserved}
use Rattle.scan_tokens.specs.Literals.{Cut, past_hex, past_unicode, past_escape, past_character, closed_character, character, line_string, raw_string, string}
use Rattle.scan_tokens.specs.Reading.{begins_comment, past_operators, past_name, named, comment, operator, backquoted, begun, read}
use Rattle.scan_tokens.specs.Division.{Each, AreOperators, Quotable, Bare, Pair, Unicode, quotable_text, IsQuotable, Item, One, Escaped, items_text, AreItems, HasNoThree, IsString, IsOne, IsBlockComment, IsPlain, Fits, Inside, End, Other, Nested, inside_text, IsInside}
use Rattle.scan_tokens.proofs.Steps.{which, neither, both, was_false, same_number, next_is-cons, next_are-cons}
use Rattle.scan_tokens.proofs.Marks.{class_marks}
use Rattle.scan_tokens.proofs.Covering.{comment-inside, next_is-inside, last_is_underscore, bytes_up_to-front}

pub record Fitting (text : Chars) (cut : Cut) : Type 0 where
  pub piece : Chars
  pub joined : text ≡ piece ++ cut.1
  pub fits : Fits cut.0 piece cut.1

-- ---- runs

record Passed (r : Run) (cs rest : Chars) : Type 0 where
  pub front : Chars
  pub joined : cs ≡ front ++ rest
  pub each : Each (in_run r) front

past-sound : (r : Run) (cs : Chars) → Passed r cs (past r cs)
past-sound r [] = record { front = []; joined = refl; each = tt }
past-sound r (c ∷ cs) =
    elim (which (in_run r c)) [
      | inl is ↦ let p = past-sound r cs in rw is (record { front = c ∷ p.front; joined = ap (λ xs. c ∷ xs) p.joined; each = (is, p.each) })
      | inr isnt ↦ rw isnt (record { front = []; joined = refl; each = tt })
    ]

Space-fits : (c : ℕ) (cs : Chars) → class_of c ≡ class.Space → Fitting (c ∷ cs) (begun class.Space c cs)
unfolding in_run
Space-fits c cs e =
    let p = past-sound run.Spaces cs in
    record { piece = c ∷ p.front; joined = ap (λ xs. c ∷ xs) p.joined; fits = record { first = c; others = p.front; text = refl; begins = e; runs = p.each } }

Number-fits : (c : ℕ) (cs : Chars) → class_of c ≡ class.Digit → Fitting (c ∷ cs) (begun class.Digit c cs)
unfolding in_run
Number-fits c cs e =
    let p = past-sound run.AsciiAlphanumerics cs in
    record { piece = c ∷ p.front; joined = ap (λ xs. c ∷ xs) p.joined; fits = record { first = c; others = p.front; text = refl; begins = e; runs = p.each } }

one : (c : ℕ) (k : Class) → class_of c ≡ k → IsOne k (c ∷ [])
one c k e = record { first = c; text = refl; begins = e }

-- ---- comments

abbrev pub insides_text : List Inside → Chars
insides_text [] = []
insides_text (i ∷ is) = inside_text i ++ insides_text is

abbrev pub AreInsides : List Inside → Type 0
AreInsides [] = Unit {0}
AreInsides (i ∷ is) = IsInside i × AreInsides is

-- the comments that are open around a place are closed one after another
pub record Closes (depth : ℕ) (cs : Chars) (cut : Cut) : Type 0 where
  pub inner : Inside
  pub outer : List Inside
  pub inner_proper : IsInside inner
  pub outer_proper : AreInsides outer
  pub count : length outer ≡ depth
  pub joined : cs ≡ inside_text inner ++ (insides_text outer ++ cut.1)
  pub closed : cut.0 ≡ shape.Comment

abbrev pub skipped : Bool → Chars → Chars
skipped true cs = past_one cs
skipped false cs = cs

abbrev pub Commented : ℕ → Chars → Cut → Type 0
Commented depth cs cut = Closes depth cs cut ⊎ (cut ≡ (shape.OpenComment, []))

ended-depth : (d : ℕ) (cs : Chars) (cut : Cut) → Commented d cs cut → Commented (d + 1) (42 ∷ 47 ∷ cs) cut
ended-depth d cs cut (inr e) = inr e
ended-depth d cs cut (inl e) = inl (record {
  inner = End;
  outer = e.inner ∷ e.outer;
  inner_proper = tt;
  outer_proper = (e.inner_proper, e.outer_proper);
  count = omega (arith, e.count);
  joined = ap (λ xs. 42 ∷ 47 ∷ xs) (e.joined ∙ sym (append_assoc (inside_text e.inner) (insides_text e.outer) cut.1));
  closed = e.closed;
})

nested-depth : (d : ℕ) (cs : Chars) (cut : Cut) → Commented (d + 1) cs cut → Commented d (47 ∷ 42 ∷ cs) cut
nested-depth d cs cut (inr e) = inr e
nested-depth d cs cut (inl e) = inl (go e.outer e.outer_proper e.count e.joined) where
  go : (outer : List Inside) → AreInsides outer → length outer ≡ d + 1 → cs ≡ inside_text e.inner ++ (insides_text outer ++ cut.1) → Closes d (47 ∷ 42 ∷ cs) cut
  go [] p n j = absurd (omega arith)
  go (i ∷ is) p n j = record {
    inner = Nested e.inner i;
    outer = is;
    inner_proper = (e.inner_proper, p.0);
    outer_proper = p.1;
    count = omega arith;
    joined = ap (λ xs. 47 ∷ 42 ∷ xs) (j ∙ ap (λ xs. inside_text e.inner ++ xs) (append_assoc (inside_text i) (insides_text is) cut.1)
        ∙ sym (append_assoc (inside_text e.inner) (inside_text i) (insides_text is ++ cut.1)));
    closed = e.closed;
  }

other-char : (d c : ℕ) (cs : Chars) (cut : Cut) → (c == 42 && next_is 47 cs) ≡ false → (c == 47 && next_is 42 cs) ≡ false
    → Commented d cs cut → Commented d (c ∷ cs) cut
other-char d c cs cut p q (inr e) = inr e
other-char d c cs cut p q (inl e) =
    let there = insides_text e.outer ++ cut.1 in
    let first = ap (λ xs. c == 42 && next_is 47 xs) (sym e.joined) ∙ p in
    let second = ap (λ xs. c == 47 && next_is 42 xs) (sym e.joined) ∙ q in
    let first' = ap (λ b. c == 42 && b) (sym (next_is-inside 47 e.inner there)) ∙ first in
    let second' = ap (λ b. c == 47 && b) (sym (next_is-inside 42 e.inner there)) ∙ second in
    inl (record {
      inner = Other c e.inner;
      outer = e.outer;
      inner_proper = (first', second', e.inner_proper);
      outer_proper = e.outer_proper;
      count = e.count;
      joined = ap (λ xs. c ∷ xs) e.joined;
      closed = e.closed;
    })

closes_comment : (d c : ℕ) (cs : Chars) → c ∷ cs ≡ 42 ∷ 47 ∷ past_one cs → ((k : ℕ) → Commented k (past_one cs) (comment k true cs))
    → Commented d (c ∷ cs) (cond (d == 0) (shape.Comment, past_one cs) (comment (d - 1) true cs))
closes_comment zero c cs text outer = inl (record {
  inner = End;
  outer = [];
  inner_proper = tt;
  outer_proper = tt;
  count = refl;
  joined = text;
  closed = refl;
})
closes_comment (suc d) c cs text outer =
    let less : suc d - 1 ≡ d = omega arith in
    let more : d + 1 ≡ suc d = omega arith in
    let Q : ℕ → Type 0 = λ n. Commented n (42 ∷ 47 ∷ past_one cs) (comment (suc d - 1) true cs) in
    let P : Chars → Type 0 = λ xs. Commented (suc d) xs (comment (suc d - 1) true cs) in
    let some : (suc d == 0) ≡ false = grind arith in
    rw some (subst P (sym text) (subst Q more (rw less (ended-depth d (past_one cs) (comment d true cs) (outer d)))))

pub comment-sound : (d : ℕ) (second : Bool) (cs : Chars) → Commented d (skipped second cs) (comment d second cs)
comment-sound d second [] = inr refl
comment-sound d true (c ∷ cs) = comment-sound d false cs
comment-sound d false (c ∷ cs) =
    elim (which (c == 42 && next_is 47 cs)) [
      | inl is ↦
          let t = both (c == 42) (next_is 47 cs) is in
          let text : c ∷ cs ≡ 42 ∷ 47 ∷ past_one cs = ap (λ x. x ∷ cs) (same_number c 42 t.0) ∙ ap (λ xs. 42 ∷ xs) (next_is-cons 47 cs t.1) in
          rw is (closes_comment d c cs text (λ k. comment-sound k true cs))
      | inr isnt ↦ elim (which (c == 47 && next_is 42 cs)) [
        | inl is ↦
            let t = both (c == 47) (next_is 42 cs) is in
            let text : c ∷ cs ≡ 47 ∷ 42 ∷ past_one cs = ap (λ x. x ∷ cs) (same_number c 47 t.0) ∙ ap (λ xs. 47 ∷ xs) (next_is-cons 42 cs t.1) in
            let P : Chars → Type 0 = λ xs. Commented d xs (comment (d + 1) true cs) in
            rw (isnt, is) (subst P (sym text) (nested-depth d (past_one cs) (comment (d + 1) true cs) (comment-sound (d + 1) true cs)))
        | inr other ↦ rw (isnt, other) (other-char d c cs (comment d false cs) isnt other (comment-sound d false cs))
      ]
    ]

-- ---- operators

class_is_operator : (k : Class) → is_operator k ≡ true → k ≡ class.Operator
class_is_operator class.Operator e = refl
class_is_operator class.Space e = cc
class_is_operator class.Letter e = cc
class_is_operator class.Digit e = cc
class_is_operator class.Delimiter e = cc
class_is_operator class.Apostrophe e = cc
class_is_operator class.Quote e = cc
class_is_operator class.Backquote e = cc
class_is_operator class.Other e = cc

record Operates (cs rest : Chars) : Type 0 where
  pub front : Chars
  pub joined : cs ≡ front ++ rest
  pub operates : AreOperators front rest

more_operators : (c : ℕ) (cs rest : Chars) → class_of c ≡ class.Operator → next_are 47 47 (c ∷ cs) ≡ false → next_are 47 42 (c ∷ cs) ≡ false
    → Operates cs rest → Operates (c ∷ cs) rest
more_operators c cs rest e p q o = record {
  front = c ∷ o.front;
  joined = ap (λ xs. c ∷ xs) o.joined;
  operates = (e, ap (λ xs. next_are 47 47 (c ∷ xs)) (sym o.joined) ∙ p, ap (λ xs. next_are 47 42 (c ∷ xs)) (sym o.joined) ∙ q, o.operates);
}

past_operators-sound : (cs : Chars) → Operates cs (past_operators cs)
unfolding begins_comment
past_operators-sound [] = record { front = []; joined = refl; operates = tt }
past_operators-sound (c ∷ cs) =
    elim (which (is_operator (class_of c) && not (begins_comment (c ∷ cs)))) [
      | inl is ↦
          let t = both (is_operator (class_of c)) (not (begins_comment (c ∷ cs))) is in
          let begins = neither (next_are 47 47 (c ∷ cs)) (next_are 47 42 (c ∷ cs)) (was_false (begins_comment (c ∷ cs)) t.1) in
          rw is (more_operators c cs (past_operators cs) (class_is_operator (class_of c) t.0) begins.0 begins.1 (past_operators-sound cs))
      | inr isnt ↦ rw isnt (record { front = []; joined = refl; operates = tt })
    ]

line-fits : (cs : Chars) → Fitting (47 ∷ 47 ∷ cs) (shape.Comment, past run.LineRest (47 ∷ cs))
unfolding in_run
line-fits cs =
    let p = past-sound run.LineRest cs in
    record { piece = 47 ∷ 47 ∷ p.front; joined = ap (λ xs. 47 ∷ 47 ∷ xs) p.joined; fits = inl (record { line = p.front; text = refl; one_line = p.each }) }

-- what is left open is closed nowhere
open_to_end : (cs front back : Chars) → comment 0 false cs ≡ (shape.OpenComment, []) → 47 ∷ 42 ∷ cs ≡ front ++ back → IsBlockComment front → ⊥
open_to_end cs front back e j b =
    let text : 47 ∷ 42 ∷ cs ≡ 47 ∷ 42 ∷ (inside_text b.inside ++ back) = j ∙ ap (λ xs. xs ++ back) b.text in
    let inner : cs ≡ inside_text b.inside ++ back = ap past_one (ap past_one text) in
    let closed : comment 0 false cs ≡ (shape.Comment, back) = ap (comment 0 false) inner ∙ comment-inside b.inside b.proper 0 back in
    let shapes : shape.OpenComment ≡ shape.Comment = ap (λ (r : Cut). r.0) (sym e ∙ closed) in
    cc

block-fits : (cs : Chars) → Fitting (47 ∷ 42 ∷ cs) (comment 0 false cs)
block-fits cs = go (comment-sound 0 false cs) where
  nothing : (is : List Inside) → length is ≡ 0 → insides_text is ≡ []
  nothing [] e = refl
  nothing (i ∷ is) e = absurd (omega arith)

  go : Commented 0 cs (comment 0 false cs) → Fitting (47 ∷ 42 ∷ cs) (comment 0 false cs)
  go (inl e) =
      let rest = (comment 0 false cs).1 in
      let text : cs ≡ inside_text e.inner ++ rest = e.joined ∙ ap (λ xs. inside_text e.inner ++ (xs ++ rest)) (nothing e.outer e.count) in
      let P : Shape → Type 0 = λ s. Fits s (47 ∷ 42 ∷ inside_text e.inner) rest in
      record {
        piece = 47 ∷ 42 ∷ inside_text e.inner;
        joined = ap (λ xs. 47 ∷ 42 ∷ xs) text;
        fits = subst P (sym e.closed) (inr (record { inside = e.inner; proper = e.inner_proper; text = refl }));
      }
  go (inr e) = rw e (record {
    piece = 47 ∷ 42 ∷ cs;
    joined = sym (append-nil (47 ∷ 42 ∷ cs));
    fits = record { rest = cs; text = refl; last = refl; not_closed = λ front back j b. open_to_end cs front back e j b };
  })

Operator-fits : (c : ℕ) (cs : Chars) → class_of c ≡ class.Operator → Fitting (c ∷ cs) (operator c cs)
Operator-fits c cs e =
    elim (which (c == 47 && next_is 47 cs)) [
      | inl is ↦
          let t = both (c == 47) (next_is 47 cs) is in
          let P : Chars → Type 0 = λ xs. Fitting (c ∷ xs) (shape.Comment, past run.LineRest xs) in
          let Q : ℕ → Type 0 = λ n. Fitting (n ∷ 47 ∷ past_one cs) (shape.Comment, past run.LineRest (47 ∷ past_one cs)) in
          rw is (subst P (sym (next_is-cons 47 cs t.1)) (subst Q (sym (same_number c 47 t.0)) (line-fits (past_one cs))))
      | inr isnt ↦ elim (which (c == 47 && next_is 42 cs)) [
        | inl is ↦
            let t = both (c == 47) (next_is 42 cs) is in
            let P : Chars → Type 0 = λ xs. Fitting (c ∷ xs) (comment 0 false (past_one cs)) in
            let Q : ℕ → Type 0 = λ n. Fitting (n ∷ 42 ∷ past_one cs) (comment 0 false (past_one cs)) in
            rw (isnt, is) (subst P (sym (next_is-cons 42 cs t.1)) (subst Q (sym (same_number c 47 t.0)) (block-fits (past_one cs))))
        | inr other ↦
            let p = past_operators-sound cs in
            let first = ap (λ xs. next_are 47 47 (c ∷ xs)) (sym p.joined) ∙ isnt in
            let second = ap (λ xs. next_are 47 42 (c ∷ xs)) (sym p.joined) ∙ other in
            rw (isnt, other) (record {
              piece = c ∷ p.front;
              joined = ap (λ xs. c ∷ xs) p.joined;
              fits = record { first = c; others = p.front; text = refl; operates = (e, first, second, p.operates) };
            })
      ]
    ]

-- ---- backquotes

-- a closing backquote after some characters
between : (front rest : Chars) → Each (in_run run.BetweenBackquotes) front → next_is 96 (front ++ 96 ∷ rest) ≡ false
    → Fitting (96 ∷ (front ++ 96 ∷ rest)) (shape.Backquoted, rest)
unfolding in_run
between [] rest each first = cc
between (x ∷ xs) rest each first = record {
  piece = 96 ∷ x ∷ (xs ++ 96 ∷ []);
  joined = ap (λ ws. 96 ∷ x ∷ ws) (sym (append_assoc xs (96 ∷ []) rest));
  fits = record { first = x; others = xs; text = refl; between = each };
}

Backquote-fits : (c : ℕ) (cs : Chars) → class_of c ≡ class.Backquote → Fitting (c ∷ cs) (backquoted cs)
Backquote-fits c cs e =
    let rest = past run.BetweenBackquotes cs in
    let p = past-sound run.BetweenBackquotes cs in
    let P : ℕ → Type 0 = λ n. Fitting (n ∷ cs) (shape.Backquoted, past_one rest) in
    let Q : Chars → Type 0 = λ xs. Fitting (96 ∷ xs) (shape.Backquoted, past_one rest) in
    elim (which (not (next_is 96 cs) && next_is 96 rest)) [
      | inl is ↦
          let t = both (not (next_is 96 cs)) (next_is 96 rest) is in
          let text : cs ≡ p.front ++ 96 ∷ past_one rest = p.joined ∙ ap (λ xs. p.front ++ xs) (next_is-cons 96 rest t.1) in
          let first : next_is 96 (p.front ++ 96 ∷ past_one rest) ≡ false = ap (next_is 96) (sym text) ∙ was_false (next_is 96 cs) t.0 in
          rw is (subst P (sym ((class_marks c).2 e)) (subst Q (sym text) (between p.front (past_one rest) p.each first)))
      | inr isnt ↦ rw isnt (record { piece = c ∷ []; joined = refl; fits = inr (one c class.Backquote e) })
    ]

-- ---- character literals

record Hexes (n : ℕ) (cs rest : Chars) : Type 0 where
  pub digits : Chars
  pub count : length digits ≡ n
  pub each : Each is_ascii_hexdigit digits
  pub joined : cs ≡ digits ++ rest

more_hex : (n : ℕ) (cs : Chars) (o : Option Chars) → IfSome o (Hexes n cs) → IfSome (option_and_then past_hex o) (Hexes (n + 1) cs)
more_hex n cs None h = tt
more_hex n cs (Some []) h = tt
more_hex n cs (Some (d ∷ ds)) h =
    elim (which (is_ascii_hexdigit d)) [
      | inl is ↦ rw is (record {
        digits = h.digits ++ d ∷ [];
        count = omega (arith, h.count, length-append h.digits (d ∷ []));
        each = at_end h.digits h.each is;
        joined = h.joined ∙ sym (append_assoc h.digits (d ∷ []) ds);
      })
      | inr isnt ↦ rw isnt tt
    ] where
      at_end : (xs : Chars) → Each is_ascii_hexdigit xs → is_ascii_hexdigit d ≡ true → Each is_ascii_hexdigit (xs ++ d ∷ [])
      at_end [] each is = (is, tt)
      at_end (x ∷ xs) each is = (each.0, at_end xs each.1 is)

-- an escape, without its \
record IsEscaped (cs rest : Chars) : Type 0 where
  pub quoted : Quotable
  pub proper : IsQuotable quoted
  pub joined : 92 ∷ cs ≡ quotable_text quoted ++ rest

past_unicode-sound : (cs : Chars) → IfSome (past_unicode cs) (IsEscaped cs)
unfolding past_unicode in_run
past_unicode-sound cs =
    elim (which (next_is 117 cs)) [
      | inl is ↦ rw is (after_u (past_one cs) (next_is-cons 117 cs is))
      | inr isnt ↦ rw isnt tt
    ] where
      four : (us ds : Chars) (o : Option Chars) → cs ≡ 117 ∷ (us ++ ds) → Each (λ u. u == 117) us → IfSome o (Hexes 4 ds) → IfSome o (IsEscaped cs)
      four us ds None text each h = tt
      four us ds (Some rest) text each h = go h.digits h.count h.each h.joined where
        go : (xs : Chars) → length xs ≡ 4 → Each is_ascii_hexdigit xs → ds ≡ xs ++ rest → IsEscaped cs rest
        go (x ∷ y ∷ z ∷ w ∷ []) n hs j = record {
          quoted = Unicode us x y z w;
          proper = (each, hs.0, hs.1.0, hs.1.1.0, hs.1.1.1.0);
          joined = ap (λ xs. 92 ∷ xs) text ∙ ap (λ xs. 92 ∷ 117 ∷ (us ++ xs)) j ∙ ap (λ xs. 92 ∷ 117 ∷ xs) (sym (append_assoc us (x ∷ y ∷ z ∷ w ∷ []) rest));
        }
        go [] n hs j = absurd (omega arith)
        go (x ∷ []) n hs j = absurd (omega arith)
        go (x ∷ y ∷ []) n hs j = absurd (omega arith)
        go (x ∷ y ∷ z ∷ []) n hs j = absurd (omega arith)
        go (x ∷ y ∷ z ∷ w ∷ v ∷ vs) n hs j = absurd (omega arith)

      after_u : (es : Chars) → cs ≡ 117 ∷ es
          → IfSome (option_and_then past_hex (option_and_then past_hex (option_and_then past_hex (past_hex (past run.Us cs))))) (IsEscaped cs)
      after_u es text =
          let p = past-sound run.Us es in
          let ds = past run.Us es in
          let run_of_u : past run.Us cs ≡ ds = ap (past run.Us) text in
          let none : Hexes 0 ds ds = record { digits = []; count = refl; each = tt; joined = refl } in
          let hexes = more_hex 3 ds _ (more_hex 2 ds _ (more_hex 1 ds (past_hex ds) (more_hex 0 ds (Some ds) none))) in
          rw run_of_u (four p.front ds _ (text ∙ ap (λ xs. 117 ∷ xs) p.joined) p.each hexes)

past_escape-sound : (cs : Chars) → IfSome (past_escape cs) (IsEscaped cs)
unfolding past_escape
past_escape-sound [] = tt
past_escape-sound (c ∷ cs) =
    elim (which (c == 10)) [
      | inl is ↦ rw is tt
      | inr isnt ↦ rw isnt (go isnt (past_unicode (c ∷ cs)) (past_unicode-sound (c ∷ cs)))
    ] where
      go : (c == 10) ≡ false → (o : Option Chars) → IfSome o (IsEscaped (c ∷ cs)) → IsEscaped (c ∷ cs) (unwrap_or o cs)
      go isnt None e = record { quoted = Pair c; proper = isnt; joined = refl }
      go isnt (Some rest) e = e

record IsQuotedOne (cs rest : Chars) : Type 0 where
  pub quoted : Quotable
  pub proper : IsQuotable quoted
  pub joined : cs ≡ quotable_text quoted ++ rest

past_character-sound : (cs : Chars) → IfSome (past_character cs) (IsQuotedOne cs)
unfolding past_character
past_character-sound [] = tt
past_character-sound (c ∷ cs) =
    elim (which (c == 39 || c == 10)) [
      | inl is ↦ rw is tt
      | inr isnt ↦ elim (which (c == 92)) [
        | inl is ↦ rw (isnt, is) (go (same_number c 92 is) (past_escape cs) (past_escape-sound cs))
        | inr other ↦ rw (isnt, other) (record { quoted = Bare c; proper = rw (isnt, other) refl; joined = refl })
      ]
    ] where
      go : c ≡ 92 → (o : Option Chars) → IfSome o (IsEscaped cs) → IfSome o (IsQuotedOne (c ∷ cs))
      go e None h = tt
      go e (Some rest) h = record { quoted = h.quoted; proper = h.proper; joined = ap (λ n. n ∷ cs) e ∙ h.joined }

Apostrophe-fits : (c : ℕ) (cs : Chars) → class_of c ≡ class.Apostrophe → Fitting (c ∷ cs) (character cs)
unfolding character
Apostrophe-fits c cs e = go (past_character cs) (past_character-sound cs) where
  alone : Fitting (c ∷ cs) (shape.Apostrophe, cs)
  alone = record { piece = c ∷ []; joined = refl; fits = one c class.Apostrophe e }

  go : (o : Option Chars) → IfSome o (IsQuotedOne cs) → Fitting (c ∷ cs) (closed_character cs o)
  go None h = alone
  go (Some rest) h =
      elim (which (next_is 39 rest)) [
        | inl is ↦ rw is (record {
          piece = 39 ∷ (quotable_text h.quoted ++ 39 ∷ []);
          joined = ap (λ n. n ∷ cs) ((class_marks c).0 e) ∙ ap (λ xs. 39 ∷ xs) (h.joined ∙ ap (λ xs. quotable_text h.quoted ++ xs) (next_is-cons 39 rest is)
              ∙ sym (append_assoc (quotable_text h.quoted) (39 ∷ []) (past_one rest)));
          fits = record { quoted = h.quoted; proper = h.proper; text = refl };
        })
        | inr isnt ↦ rw isnt alone
      ]

-- ---- strings

-- a string of one line from a place in it on
record LineCut (cs : Chars) (cut : Cut) : Type 0 where
  pub items : List Item
  pub proper : AreItems items
  pub end : ((cut.0 ≡ shape.LineString) × (cs ≡ items_text items ++ 34 ∷ cut.1))
      ⊎ ((cut.0 ≡ shape.OpenString) × ((cs ≡ items_text items ++ cut.1) ⊎ (cs ≡ items_text items ++ 92 ∷ cut.1)))

abbrev from_escape : Bool → Chars → Chars
from_escape true cs = 92 ∷ cs
from_escape false cs = cs

one_more : (c : ℕ) (cs : Chars) (cut : Cut) → (c == 34 || c == 10 || c == 92) ≡ false → LineCut cs cut → LineCut (c ∷ cs) cut
one_more c cs cut p l = record { items = One c ∷ l.items; proper = (p, l.proper); end = go l.end } where
  go : ((cut.0 ≡ shape.LineString) × (cs ≡ items_text l.items ++ 34 ∷ cut.1))
      ⊎ ((cut.0 ≡ shape.OpenString) × ((cs ≡ items_text l.items ++ cut.1) ⊎ (cs ≡ items_text l.items ++ 92 ∷ cut.1)))
      → ((cut.0 ≡ shape.LineString) × (c ∷ cs ≡ items_text (One c ∷ l.items) ++ 34 ∷ cut.1))
      ⊎ ((cut.0 ≡ shape.OpenString) × ((c ∷ cs ≡ items_text (One c ∷ l.items) ++ cut.1) ⊎ (c ∷ cs ≡ items_text (One c ∷ l.items) ++ 92 ∷ cut.1)))
  go (inl (s, e)) = inl (s, ap (λ xs. c ∷ xs) e)
  go (inr (s, inl e)) = inr (s, inl (ap (λ xs. c ∷ xs) e))
  go (inr (s, inr e)) = inr (s, inr (ap (λ xs. c ∷ xs) e))

escaped_more : (c : ℕ) (cs : Chars) (cut : Cut) → (c == 10) ≡ false → LineCut cs cut → LineCut (92 ∷ c ∷ cs) cut
escaped_more c cs cut p l = record { items = Escaped c ∷ l.items; proper = (p, l.proper); end = go l.end } where
  go : ((cut.0 ≡ shape.LineString) × (cs ≡ items_text l.items ++ 34 ∷ cut.1))
      ⊎ ((cut.0 ≡ shape.OpenString) × ((cs ≡ items_text l.items ++ cut.1) ⊎ (cs ≡ items_text l.items ++ 92 ∷ cut.1)))
      → ((cut.0 ≡ shape.LineString) × (92 ∷ c ∷ cs ≡ items_text (Escaped c ∷ l.items) ++ 34 ∷ cut.1))
      ⊎ ((cut.0 ≡ shape.OpenString) × ((92 ∷ c ∷ cs ≡ items_text (Escaped c ∷ l.items) ++ cut.1) ⊎ (92 ∷ c ∷ cs ≡ items_text (Escaped c ∷ l.items) ++ 92 ∷ cut.1)))
  go (inl (s, e)) = inl (s, ap (λ xs. 92 ∷ c ∷ xs) e)
  go (inr (s, inl e)) = inr (s, inl (ap (λ xs. 92 ∷ c ∷ xs) e))
  go (inr (s, inr e)) = inr (s, inr (ap (λ xs. 92 ∷ c ∷ xs) e))

line_string-sound : (escaped : Bool) (cs : Chars) → LineCut (from_escape escaped cs) (line_string escaped cs)
line_string-sound true [] = record { items = []; proper = tt; end = inr (refl, inr refl) }
line_string-sound false [] = record { items = []; proper = tt; end = inr (refl, inl refl) }
line_string-sound true (c ∷ cs) =
    elim (which (c == 10)) [
      | inl is ↦ rw is (record { items = []; proper = tt; end = inr (refl, inr refl) })
      | inr isnt ↦ rw isnt (escaped_more c cs (line_string false cs) isnt (line_string-sound false cs))
    ]
line_string-sound false (c ∷ cs) =
    elim (which (c == 10)) [
      | inl is ↦ rw is (record { items = []; proper = tt; end = inr (refl, inl refl) })
      | inr isnt ↦ elim (which (c == 34)) [
        | inl is ↦ rw (isnt, is) (record { items = []; proper = tt; end = inl (refl, ap (λ n. n ∷ cs) (same_number c 34 is)) })
        | inr other ↦ elim (which (c == 92)) [
          | inl is ↦
              let P : ℕ → Type 0 = λ n. LineCut (n ∷ cs) (line_string true cs) in
              rw (isnt, other, is) (subst P (sym (same_number c 92 is)) (line_string-sound true cs))
          | inr third ↦ rw (isnt, other, third) (one_more c cs (line_string false cs) (rw (other, isnt, third) refl) (line_string-sound false cs))
        ]
      ]
    ]

-- a string that has been cut, without the quote that begins it
record StringCut (cs : Chars) (cut : Cut) : Type 0 where
  pub string : Chars
  pub joined : cs ≡ string ++ cut.1
  pub strings : IsString cut.0 string cut.1

line-cut : (cs : Chars) (cut : Cut) → LineCut cs cut → StringCut cs cut
line-cut cs cut l = go l.end where
  go : ((cut.0 ≡ shape.LineString) × (cs ≡ items_text l.items ++ 34 ∷ cut.1))
      ⊎ ((cut.0 ≡ shape.OpenString) × ((cs ≡ items_text l.items ++ cut.1) ⊎ (cs ≡ items_text l.items ++ 92 ∷ cut.1)))
      → StringCut cs cut
  go (inl (s, e)) =
      let P : Shape → Type 0 = λ k. IsString k (items_text l.items ++ 34 ∷ []) cut.1 in
      record {
        string = items_text l.items ++ 34 ∷ [];
        joined = e ∙ sym (append_assoc (items_text l.items) (34 ∷ []) cut.1);
        strings = subst P (sym s) (record { items = l.items; proper = l.proper; text = refl });
      }
  go (inr (s, inl e)) =
      let P : Shape → Type 0 = λ k. IsString k (items_text l.items) cut.1 in
      record {
        string = items_text l.items;
        joined = e;
        strings = subst P (sym s) (inl (record { items = l.items; proper = l.proper; text = inl refl }));
      }
  go (inr (s, inr e)) =
      let P : Shape → Type 0 = λ k. IsString k (items_text l.items ++ 92 ∷ []) cut.1 in
      record {
        string = items_text l.items ++ 92 ∷ [];
        joined = e ∙ sym (append_assoc (items_text l.items) (92 ∷ []) cut.1);
        strings = subst P (sym s) (inl (record { items = l.items; proper = l.proper; text = inr refl }));
      }

record RawClosed (cs : Chars) (cut : Cut) : Type 0 where
  pub body : Chars
  pub quotes : Chars
  pub joined : cs ≡ body ++ 34 ∷ 34 ∷ 34 ∷ (quotes ++ cut.1)
  pub first_three : HasNoThree body (34 ∷ 34 ∷ 34 ∷ (quotes ++ cut.1))
  pub only_quotes : Each (λ c. c == 34) quotes
  pub closed : cut.0 ≡ shape.RawString

abbrev RawCut : Chars → Cut → Type 0
RawCut cs cut = RawClosed cs cut ⊎ ((cut ≡ (shape.OpenString, [])) × HasNoThree cs [])

raw_more : (c : ℕ) (cs : Chars) (cut : Cut) → (c == 34 && next_are 34 34 cs) ≡ false → RawCut cs cut → RawCut (c ∷ cs) cut
raw_more c cs cut p (inl r) = inl (record {
  body = c ∷ r.body;
  quotes = r.quotes;
  joined = ap (λ xs. c ∷ xs) r.joined;
  first_three = (ap (λ xs. c == 34 && next_are 34 34 xs) (sym r.joined) ∙ p, r.first_three);
  only_quotes = r.only_quotes;
  closed = r.closed;
})
raw_more c cs cut p (inr (e, h)) = inr (e, (ap (λ xs. c == 34 && next_are 34 34 xs) (append-nil cs) ∙ p, h))

raw_closes : (cs : Chars) → RawCut (34 ∷ 34 ∷ 34 ∷ cs) (shape.RawString, past run.Quotes (34 ∷ 34 ∷ cs))
unfolding in_run
raw_closes cs =
    let p = past-sound run.Quotes cs in
    inl (record { body = []; quotes = p.front; joined = ap (λ xs. 34 ∷ 34 ∷ 34 ∷ xs) p.joined; first_three = tt; only_quotes = p.each; closed = refl })

raw_string-sound : (cs : Chars) → RawCut cs (raw_string cs)
raw_string-sound [] = inr (refl, tt)
raw_string-sound (c ∷ cs) =
    elim (which (c == 34 && next_are 34 34 cs)) [
      | inl is ↦
          let t = both (c == 34) (next_are 34 34 cs) is in
          let P : ℕ → Type 0 = λ n. RawCut (n ∷ cs) (shape.RawString, past run.Quotes cs) in
          let Q : Chars → Type 0 = λ xs. RawCut (34 ∷ xs) (shape.RawString, past run.Quotes xs) in
          rw is (subst P (sym (same_number c 34 t.0)) (subst Q (sym (next_are-cons 34 34 cs t.1)) (raw_closes (past_one (past_one cs)))))
      | inr isnt ↦ rw isnt (raw_more c cs (raw_string cs) isnt (raw_string-sound cs))
    ]

raw-cut : (cs : Chars) (cut : Cut) → RawCut cs cut → StringCut (34 ∷ 34 ∷ cs) cut
raw-cut cs cut (inl r) =
    let three = 34 ∷ 34 ∷ 34 ∷ r.quotes in
    let P : Shape → Type 0 = λ k. IsString k (34 ∷ 34 ∷ (r.body ++ three)) cut.1 in
    record {
      string = 34 ∷ 34 ∷ (r.body ++ three);
      joined = ap (λ xs. 34 ∷ 34 ∷ xs) (r.joined ∙ sym (append_assoc r.body three cut.1));
      strings = subst P (sym r.closed) (record { body = r.body; quotes = r.quotes; text = refl; first_three = r.first_three; only_quotes = r.only_quotes });
    }
raw-cut cs cut (inr (e, h)) =
    rw e (record { string = 34 ∷ 34 ∷ cs; joined = sym (append-nil (34 ∷ 34 ∷ cs)); strings = inr (record { body = cs; text = refl; last = refl; no_three = h }) })

string-sound : (cs : Chars) → StringCut cs (string cs)
unfolding string
string-sound cs =
    let rest = past_one (past_one cs) in
    elim (which (next_are 34 34 cs)) [
      | inl is ↦
          let P : Chars → Type 0 = λ xs. StringCut xs (raw_string rest) in
          rw is (subst P (sym (next_are-cons 34 34 cs is)) (raw-cut rest (raw_string rest) (raw_string-sound rest)))
      | inr isnt ↦ rw isnt (line-cut cs (line_string false cs) (line_string-sound false cs))
    ]

-- a string is a piece of its own shape
string_shape : (s : Shape) (xs after : Chars) → IsString s xs after → Fits s (34 ∷ xs) after
string_shape shape.LineString xs after e = record { string = xs; text = refl; strings = e }
string_shape shape.RawString xs after e = record { string = xs; text = refl; strings = e }
string_shape shape.OpenString xs after e = record { string = xs; text = refl; strings = e }
string_shape shape.Space xs after e = absurd e
string_shape shape.Comment xs after e = absurd e
string_shape shape.OpenComment xs after e = absurd e
string_shape shape.Plain xs after e = absurd e
string_shape shape.Operator xs after e = absurd e
string_shape shape.Backquoted xs after e = absurd e
string_shape shape.Number xs after e = absurd e
string_shape shape.Character xs after e = absurd e
string_shape shape.Apostrophe xs after e = absurd e
string_shape shape.Interpolated xs after e = absurd e
string_shape shape.Delimiter xs after e = absurd e
string_shape shape.Illegal xs after e = absurd e

Quote-fits : (c : ℕ) (cs : Chars) → class_of c ≡ class.Quote → Fitting (c ∷ cs) (string cs)
Quote-fits c cs e =
    let t = string-sound cs in
    record {
      piece = 34 ∷ t.string;
      joined = ap (λ n. n ∷ cs) ((class_marks c).1 e) ∙ ap (λ xs. 34 ∷ xs) t.joined;
      fits = string_shape (string cs).0 t.string (string cs).1 t.strings;
    }

-- ---- identifiers

record Named (underscore : Bool) (cs rest : Chars) : Type 0 where
  pub run : Chars
  pub operators : Chars
  pub joined : cs ≡ run ++ (operators ++ rest)
  pub runs : Each (λ c. is_letter_or_digit (class_of c)) run
  pub operates : AreOperators operators rest
  pub ends : (operators ≡ []) ⊎ (last_is_underscore underscore run ≡ true)

past_name-sound : (u : Bool) (cs : Chars) → Named u cs (past_name u cs)
past_name-sound u [] = record { run = []; operators = []; joined = refl; runs = tt; operates = tt; ends = inl refl }
past_name-sound u (c ∷ cs) =
    elim (which (is_letter_or_digit (class_of c))) [
      | inl is ↦
          let n = past_name-sound (c == 95) cs in
          rw is (record { run = c ∷ n.run; operators = n.operators; joined = ap (λ xs. c ∷ xs) n.joined; runs = (is, n.runs); operates = n.operates; ends = n.ends })
      | inr isnt ↦ rw isnt (go u)
    ] where
      go : (u : Bool) → Named u (c ∷ cs) (cond u (past_operators (c ∷ cs)) (c ∷ cs))
      go true = let o = past_operators-sound (c ∷ cs) in
          record { run = []; operators = o.front; joined = o.joined; runs = tt; operates = o.operates; ends = inr refl }
      go false = record { run = []; operators = []; joined = refl; runs = tt; operates = tt; ends = inl refl }

last_front : (u : Bool) (run : Chars) → last_is_underscore u run ≡ true → ((run ≡ []) × (u ≡ true)) ⊎ ((front : Chars) × (run ≡ front ++ 95 ∷ []))
last_front u [] e = inl (refl, e)
last_front u (c ∷ cs) e = go (last_front (c == 95) cs e) where
  go : ((cs ≡ []) × ((c == 95) ≡ true)) ⊎ ((front : Chars) × (cs ≡ front ++ 95 ∷ []))
      → ((c ∷ cs ≡ []) × (u ≡ true)) ⊎ ((front : Chars) × (c ∷ cs ≡ front ++ 95 ∷ []))
  go (inl (none, is)) = inr ([], ap (λ n. n ∷ cs) (same_number c 95 is) ∙ ap (λ xs. 95 ∷ xs) none)
  go (inr (front, f)) = inr (c ∷ front, ap (λ xs. c ∷ xs) f)

underscored : (run operators : Chars) → (operators ≡ []) ⊎ (last_is_underscore false run ≡ true)
    → (operators ≡ []) ⊎ ((front : Chars) × (run ≡ front ++ 95 ∷ []))
underscored run operators (inl none) = inl none
underscored run operators (inr e) = go (last_front false run e) where
  go : ((run ≡ []) × (false ≡ true)) ⊎ ((front : Chars) × (run ≡ front ++ 95 ∷ [])) → (operators ≡ []) ⊎ ((front : Chars) × (run ≡ front ++ 95 ∷ []))
  go (inl (none, f)) = cc
  go (inr some) = inr some

Letter-fits : (c : ℕ) (cs : Chars) → class_of c ≡ class.Letter → Fitting (c ∷ cs) (named (c ∷ cs) (past_name false cs))
Letter-fits c cs e =
    elim (which (next_is 34 rest && not (is_reserved (bytes_up_to (c ∷ cs) rest)))) [
      | inl is ↦
          let t = both (next_is 34 rest) (not (is_reserved (bytes_up_to (c ∷ cs) rest))) is in
          rw is (interpolated (string-sound (past_one rest)) (next_is-cons 34 rest t.0) (was_false (is_reserved (bytes_up_to (c ∷ cs) rest)) t.1))
      | inr isnt ↦ rw isnt (record { piece = name; joined = text; fits = plain })
    ] where
      rest : Chars
      rest = past_name false cs

      n : Named false cs (past_name false cs)
      n = past_name-sound false cs

      name : Chars
      name = c ∷ (n.run ++ n.operators)

      text : c ∷ cs ≡ name ++ past_name false cs
      text = ap (λ xs. c ∷ xs) (n.joined ∙ sym (append_assoc n.run n.operators (past_name false cs)))

      plain : IsPlain name (past_name false cs)
      plain = record {
        letter = c;
        run = n.run;
        operators = n.operators;
        text = refl;
        begins = e;
        runs = n.runs;
        operates = n.operates;
        low_line = underscored n.run n.operators n.ends;
      }

      interpolated : (t : StringCut (past_one (past_name false cs)) (string (past_one (past_name false cs))))
          → past_name false cs ≡ 34 ∷ past_one (past_name false cs) → is_reserved (bytes_up_to (c ∷ cs) (past_name false cs)) ≡ false
          → Fitting (c ∷ cs) (shape.Interpolated, (string (past_one (past_name false cs))).1)
      interpolated t quote free =
          let after = (string (past_one (past_name false cs))).1 in
          let there : past_name false cs ≡ 34 ∷ (t.string ++ after) = quote ∙ ap (λ xs. 34 ∷ xs) t.joined in
          let P : Chars → Type 0 = λ xs. IsPlain name xs in
          let bytes : bytes_up_to (c ∷ cs) (past_name false cs) ≡ encode_utf8_all name =
          ap (λ xs. bytes_up_to xs (past_name false cs)) text ∙ bytes_up_to-front name (past_name false cs) in
          record {
            piece = name ++ 34 ∷ t.string;
            joined = text ∙ ap (λ xs. name ++ xs) there ∙ sym (append_assoc name (34 ∷ t.string) after);
            fits = record {
              name = name;
              shape = (string (past_one (past_name false cs))).0;
              string = t.string;
              text = refl;
              plain = subst P there plain;
              not_reserved = ap is_reserved (sym bytes) ∙ free;
              strings = t.strings;
            };
          }

-- ---- every piece

begun-fits : (k : Class) (c : ℕ) (cs : Chars) → class_of c ≡ k → Fitting (c ∷ cs) (begun k c cs)
begun-fits class.Space c cs e = Space-fits c cs e
begun-fits class.Letter c cs e = Letter-fits c cs e
begun-fits class.Digit c cs e = Number-fits c cs e
begun-fits class.Operator c cs e = Operator-fits c cs e
begun-fits class.Delimiter c cs e = record { piece = c ∷ []; joined = refl; fits = one c class.Delimiter e }
begun-fits class.Apostrophe c cs e = Apostrophe-fits c cs e
begun-fits class.Quote c cs e = Quote-fits c cs e
begun-fits class.Backquote c cs e = Backquote-fits c cs e
begun-fits class.Other c cs e = record { piece = c ∷ []; joined = refl; fits = inl (one c class.Other e) }

pub read-fits : (c : ℕ) (cs : Chars) → Fitting (c ∷ cs) (read (c ∷ cs))
unfolding read
read-fits c cs = begun-fits (class_of c) c cs refl
