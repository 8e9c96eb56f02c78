-- The problems of a text lie in it one after another.
use Rattle.std.proofs.Common.{◌≡◌, ◌≤◌, ℕ, zero, suc, ◌+◌, ◌-◌, Bool, true, false, not, ◌||◌, ◌==◌, inl, inr, List, [], ◌∷◌, ◌++◌, length, map, Option, Some, None, encode_utf8, encode_utf8_all, refl, ap, sym, ◌∙◌, subst, arith, length-append, append_assoc}
use Rattle.std.specs.Char.{is_ascii_hexdigit}
use Rattle.std.specs.List.{flat_map}
use Rattle.std.specs.Option.{option_to_list}
use Rattle.std.specs.Str.{chars}
use Rattle.std.proofs.lemmas.Str.{length-encode, len_utf8_bounds}
use Rattle.pc_terms.specs.declared.problems.Span.{Span}
use Rattle.pc_terms.specs.declared.problems.Problem.{Problem}
use Rattle.scan_tokens.specs.declared.problems.Fault.{Fault}
use Rattle.scan_tokens.specs.declared.problems.Fault.TheVariants.{NumberOrEscape}
use Rattle.scan_tokens.specs.declared.shapes.Shape.{Shape}
use Rattle.scan_tokens.specs.declared.shapes.Shape.TheVariants as shape
use Rattle.scan_tokens.specs.Characters.{Chars, past_one, byte_len, offset}
use Rattle.scan_tokens.specs.Literals.{past_unicode, is_escape, bad_escapes}
use Rattle.scan_tokens.specs.Reading.{read}
use Rattle.scan_tokens.specs.Pieces.{piece_at, pieces_within, pieces, span_of, bytes_of, fault_of, problem_of, problems_at, problems_of, problems_in}
use Rattle.scan_tokens.specs.Division.{Each, Quotable, Bare, Pair, Unicode, quotable_text, IsQuotable, Item, One, Escaped, items_text, AreItems, Fits}
use Rattle.scan_tokens.specs.Order.{SpansAreInOrder}
use Rattle.scan_tokens.specs.Scanned.{scanned}
use Rattle.scan_tokens.specs.Words.{Bytes}
use Rattle.scan_tokens.proofs.Steps.{which, neither, was_false, same_number}
use Rattle.scan_tokens.proofs.Ends.{IsEnd-more, read-end}
use Rattle.scan_tokens.proofs.PieceLemmas.{byte_len-end}
use Rattle.scan_tokens.proofs.Covering.{past_unicode-over}
use Rattle.scan_tokens.proofs.Fitting.{read-fits}

earlier : (total at before : ℕ) (ss : List Span) → before ≤ at → SpansAreInOrder total at ss → SpansAreInOrder total before ss
earlier total at before [] e o = tt
earlier total at before (s ∷ ss) e o = (omega arith, o.1, o.2)

-- the spans up to a limit, and those after it
joined : (limit total at : ℕ) (ss us : List Span) → at ≤ limit → limit ≤ total → SpansAreInOrder limit at ss → SpansAreInOrder total limit us
    → SpansAreInOrder total at (ss ++ us)
joined limit total at [] us l m o p = earlier total limit at us l p
joined limit total at (s ∷ ss) us l m o p = (o.0, (o.1.0, omega arith), joined limit total s.end ss us (omega arith) m o.2 p)

offset-one : (total c : ℕ) (cs : Chars) → offset total (c ∷ cs) ≤ offset total cs - 1
offset-one total c cs =
    let bytes : byte_len (c ∷ cs) ≡ length (encode_utf8 c) + byte_len cs = length-append (encode_utf8 c) (encode_utf8_all cs) in
    let some = len_utf8_bounds c in
    omega (arith, bytes, length-encode c, some.0)

-- the escape at the front of these characters, which follow its \, is good, or is the next bad one
pair-order : (limit total at quote c : ℕ) (cs : Chars) → at ≤ offset total (c ∷ cs) - 1 → offset total cs ≤ limit
    → SpansAreInOrder limit (offset total cs) (bad_escapes total quote false cs)
    → SpansAreInOrder limit at (bad_escapes total quote true (c ∷ cs))
pair-order limit total at quote c cs l m o =
    let one = offset-one total c cs in
    elim (which (is_escape (c ∷ cs))) [
      | inl is ↦ rw is (earlier limit (offset total cs) at _ (omega arith) o)
      | inr isnt ↦ rw isnt (l, (omega arith, m), o)
    ]

items-order : (limit total : ℕ) (is : List Item) (after : Chars) → AreItems is → offset total after ≤ limit
    → SpansAreInOrder limit (offset total (items_text is ++ 34 ∷ after)) (bad_escapes total 34 false (items_text is ++ 34 ∷ after))
items-order limit total [] after p l = tt
items-order limit total (One c ∷ is) after p l =
    let two = neither (c == 34 || c == 10) (c == 92) p.0 in
    let one = neither (c == 34) (c == 10) two.0 in
    let cs = items_text is ++ 34 ∷ after in
    let less = offset-one total c cs in
    rw (one.0, two.1) (earlier limit (offset total cs) (offset total (c ∷ cs)) _ (omega arith) (items-order limit total is after p.1 l))
items-order limit total (Escaped c ∷ is) after p l =
    let cs = items_text is ++ 34 ∷ after in
    pair-order limit total (offset total (92 ∷ c ∷ cs)) 34 c cs (offset-one total 92 (c ∷ cs)) (items-below is) (items-order limit total is after p.1 l) where
      items-below : (js : List Item) → offset total (items_text js ++ 34 ∷ after) ≤ limit
      items-below [] = let one = offset-one total 34 after in omega arith
      items-below (One d ∷ js) = let below = items-below js in let one = offset-one total d (items_text js ++ 34 ∷ after) in omega arith
      items-below (Escaped d ∷ js) =
          let below = items-below js in
          let one = offset-one total d (items_text js ++ 34 ∷ after) in
          let two = offset-one total 92 (d ∷ (items_text js ++ 34 ∷ after)) in omega arith

-- neither a quote nor a \\
abbrev is_plain : ℕ → Bool
is_plain c = not (c == 39 || c == 92)

plain-none : (total : ℕ) (xs after : Chars) → Each is_plain xs → bad_escapes total 39 false (xs ++ 39 ∷ after) ≡ []
plain-none total [] after e = refl
plain-none total (x ∷ xs) after e =
    let two = neither (x == 39) (x == 92) (was_false (x == 39 || x == 92) e.0) in
    rw (two.0, two.1) (plain-none total xs after e.1)

hexdigit_is_plain : (c : ℕ) → is_ascii_hexdigit c ≡ true → is_plain c ≡ true
hexdigit_is_plain c e =
    elim (which (c == 39)) [
      | inl is ↦ absurd (let P : ℕ → Type 0 = λ n. is_ascii_hexdigit n ≡ true in let f : is_ascii_hexdigit 39 ≡ true = subst P (same_number c 39 is) e in cc)
      | inr isnt ↦ elim (which (c == 92)) [
        | inl is ↦ absurd (let P : ℕ → Type 0 = λ n. is_ascii_hexdigit n ≡ true in let f : is_ascii_hexdigit 92 ≡ true = subst P (same_number c 92 is) e in cc)
        | inr other ↦ rw (isnt, other) refl
      ]
    ]

unicode_is_plain : (us : Chars) (a b c d : ℕ) → IsQuotable (Unicode us a b c d) → Each is_plain (us ++ a ∷ b ∷ c ∷ d ∷ [])
unicode_is_plain [] a b c d p = (hexdigit_is_plain a p.1, (hexdigit_is_plain b p.2, (hexdigit_is_plain c p.3, (hexdigit_is_plain d p.4, tt))))
unicode_is_plain (u ∷ us) a b c d p =
    let P : ℕ → Type 0 = λ n. is_plain n ≡ true in
    (subst P (sym (same_number u 117 p.0.0)) refl, unicode_is_plain us a b c d (p.0.1, p.1, p.2, p.3, p.4))

quotable-order : (total : ℕ) (q : Quotable) (after : Chars) → IsQuotable q
    → SpansAreInOrder (offset total after) (offset total (39 ∷ (quotable_text q ++ 39 ∷ after))) (bad_escapes total 39 false (quotable_text q ++ 39 ∷ after))
unfolding is_escape
quotable-order total (Bare c) after p =
    let two = neither (c == 39 || c == 10) (c == 92) p in
    let one = neither (c == 39) (c == 10) two.0 in
    rw (one.0, two.1) tt
quotable-order total (Pair c) after p =
    let one = offset-one total 39 (92 ∷ c ∷ 39 ∷ after) in
    let two = offset-one total 92 (c ∷ 39 ∷ after) in
    let last = offset-one total 39 after in
    pair-order (offset total after) total (offset total (39 ∷ 92 ∷ c ∷ 39 ∷ after)) 39 c (39 ∷ after) (omega arith) (omega arith) tt
quotable-order total (Unicode us a b c d) after p =
    let good : past_unicode (117 ∷ ((us ++ a ∷ b ∷ c ∷ d ∷ []) ++ 39 ∷ after)) ≡ Some (39 ∷ after) =
    ap (λ xs. past_unicode (117 ∷ xs)) (append_assoc us (a ∷ b ∷ c ∷ d ∷ []) (39 ∷ after)) ∙ past_unicode-over us a b c d (39 ∷ after) p in
    rw (good, plain-none total (us ++ a ∷ b ∷ c ∷ d ∷ []) after (unicode_is_plain us a b c d p)) tt

abbrev spans_of : List Problem → List Span
spans_of = map (λ p. p.span)

spans_of-problems : (f : Fault) (ss : List Span) → spans_of (map (problem_of f) ss) ≡ ss
spans_of-problems f [] = refl
spans_of-problems f (s ∷ ss) = ap (λ us. s ∷ us) (spans_of-problems f ss)

spans_of-append : (ps qs : List Problem) → spans_of (ps ++ qs) ≡ spans_of ps ++ spans_of qs
spans_of-append [] qs = refl
spans_of-append (p ∷ ps) qs = ap (λ us. p.span ∷ us) (spans_of-append ps qs)

whole-order : (o : Option Fault) (limit : ℕ) (s : Span) → s.start ≤ s.end → s.end ≤ limit
    → SpansAreInOrder limit s.start (spans_of (map (λ f. problem_of f s) (option_to_list o) ++ []))
whole-order None limit s l m = tt
whole-order (Some f) limit s l m = (omega arith, (l, m), tt)

character-order : (total : ℕ) (from piece after : Chars) → from ≡ piece ++ after → Fits shape.Character piece after
    → SpansAreInOrder (offset total after) (offset total from) (spans_of (map (problem_of NumberOrEscape) (bad_escapes total 39 false (past_one from))))
character-order total from piece after j e =
    let text : from ≡ 39 ∷ (quotable_text e.quoted ++ 39 ∷ after) = j ∙ ap (λ xs. xs ++ after) e.text ∙ ap (λ xs. 39 ∷ xs) (append_assoc (quotable_text e.quoted) (39 ∷ []) after) in
    rw (spans_of-problems, text) (quotable-order total e.quoted after e.proper)

line_string-order : (total : ℕ) (from piece after : Chars) → from ≡ piece ++ after → Fits shape.LineString piece after
    → SpansAreInOrder (offset total after) (offset total from) (spans_of (map (problem_of NumberOrEscape) (bad_escapes total 34 false (past_one from))))
line_string-order total from piece after j e =
    let l = e.strings in
    let cs = items_text l.items ++ 34 ∷ after in
    let text : from ≡ 34 ∷ cs = j ∙ ap (λ xs. xs ++ after) (e.text ∙ ap (λ xs. 34 ∷ xs) l.text) ∙ ap (λ xs. 34 ∷ xs) (append_assoc (items_text l.items) (34 ∷ []) after) in
    let one = offset-one total 34 cs in
    rw (spans_of-problems, text)
    (earlier (offset total after) (offset total cs) (offset total (34 ∷ cs)) _ (omega arith) (items-order (offset total after) total l.items after l.proper (omega arith)))

shape-order : (total : ℕ) (s : Shape) (from piece after : Chars) (bytes : Bytes) → from ≡ piece ++ after → Fits s piece after
    → SpansAreInOrder (offset total after) (offset total from) (spans_of (problems_at total s from (fault_of s bytes) (span_of total from after)))
shape-order total s from piece after bytes j e = go s e where
  longer : offset total from ≤ offset total after
  longer = let l = byte_len-end from after (record { front = piece; joined = j }) in omega arith

  go : (s : Shape) → Fits s piece after
      → SpansAreInOrder (offset total after) (offset total from) (spans_of (problems_at total s from (fault_of s bytes) (span_of total from after)))
  go shape.Space e = tt
  go shape.Comment e = tt
  go shape.OpenComment e = whole-order (fault_of shape.OpenComment bytes) (offset total after) (span_of total from after) longer (omega arith)
  go shape.Plain e = tt
  go shape.Operator e = tt
  go shape.Backquoted e = tt
  go shape.Number e = whole-order (fault_of shape.Number bytes) (offset total after) (span_of total from after) longer (omega arith)
  go shape.Character e = character-order total from piece after j e
  go shape.Apostrophe e = whole-order (fault_of shape.Apostrophe bytes) (offset total after) (span_of total from after) longer (omega arith)
  go shape.LineString e = line_string-order total from piece after j e
  go shape.RawString e = tt
  go shape.OpenString e = whole-order (fault_of shape.OpenString bytes) (offset total after) (span_of total from after) longer (omega arith)
  go shape.Interpolated e = whole-order (fault_of shape.Interpolated bytes) (offset total after) (span_of total from after) longer (omega arith)
  go shape.Delimiter e = tt
  go shape.Illegal e = whole-order (fault_of shape.Illegal bytes) (offset total after) (span_of total from after) longer (omega arith)

within-order : (n total : ℕ) (cs : Chars) → SpansAreInOrder total (offset total cs) (spans_of (flat_map (problems_of total) (pieces_within n cs)))
unfolding problems_of
within-order n total [] = tt
within-order zero total (c ∷ cs) = tt
within-order (suc n) total (c ∷ cs) =
    let f = read-fits c cs in
    let after = (read (c ∷ cs)).1 in
    let here = problems_of total (piece_at (c ∷ cs)) in
    let longer = byte_len-end (c ∷ cs) after (IsEnd-more c cs after (read-end c cs)) in
    let first = shape-order total (read (c ∷ cs)).0 (c ∷ cs) f.piece after (bytes_of (piece_at (c ∷ cs))) f.joined f.fits in
    rw (spans_of-append here (flat_map (problems_of total) (pieces_within n after)))
    (joined (offset total after) total (offset total (c ∷ cs)) (spans_of here) _ (omega arith) (omega arith) first (within-order n total after))

pub problems-order : (text : Bytes) → SpansAreInOrder (length text) 0 (map (λ p. p.span) (scanned text).problems)
unfolding scanned problems_in pieces
problems-order text =
    let cs = chars text in
    earlier (length text) (offset (length text) cs) 0 _ (omega arith) (within-order (length cs) (length text) cs)
