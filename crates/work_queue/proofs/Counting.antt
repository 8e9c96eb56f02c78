-- A loop over the pairs of a call, which counts what a tally takes up with them.
use Rattle.std.proofs.Common.{◌≡◌, ℕ, ◌+◌, ◌<◌, ◌≤◌, ◌^◌, List, [], ◌∷◌, ◌++◌, length, get_or, take, Option, is_some, Bool, true, false, if◌then◌else◌, sym, ap, ◌∙◌, arith, append_assoc}
use Rattle.std.proofs.lemmas.List.{take_more}
use Rattle.std.proofs.lemmas.List.Sums.{sum_by-append, sum_by_more_le}
use Rattle.ask_history.specs.Sources.{Bytes}
use Rattle.work_queue.specs.declared.usage.Usage.{Usage}
use Rattle.work_queue.specs.declared.tally.Tally.{Tally}
use Rattle.work_queue.specs.Reloads.{text_bytes, longest, longer, usage_of, with_text}
use Rattle.work_queue.specs.Tally.{IsTally, known}
use Rattle.work_queue.proofs.Usages.{usage_of-push, longest-append}

-- what is counted of the first pairs
pub record IsCounted (tally : Tally) (pairs : List (Bytes × Bytes)) (i : ℕ) (usage : Usage) : Type 0 where
  pub exact : (before : List (Bytes × Bytes)) → IsTally before tally → usage ≡ usage_of (before ++ take i pairs)
  pub text : usage.text ≤ tally.usage.text + text_bytes (take i pairs)
  pub names : usage.names ≤ tally.usage.names + i
  pub map : usage.map ≤ tally.usage.map + text_bytes (take i pairs)

module _ (tally : Tally) (pairs : List (Bytes × Bytes)) (i : ℕ) (usage : Usage) (counted : IsCounted tally pairs i usage)
    (within : i < length pairs) (pair : Bytes × Bytes) (read : pair ≡ get_or pairs i pair) where
  more : take (i + 1) pairs ≡ take i pairs ++ pair ∷ []
  more = take_more pairs i pair within ∙ ap (λ e. take i pairs ++ e ∷ []) (sym read)

  text_more : text_bytes (take (i + 1) pairs) ≡ text_bytes (take i pairs) + length pair.1
  text_more = ap text_bytes more ∙ sum_by-append (λ e. length e.1) (take i pairs) (pair ∷ []) ∙ ap (λ n. text_bytes (take i pairs) + n) (let e : 0 + length pair.1 ≡ length pair.1 = omega arith in e)

  len_fits : text_bytes (take i pairs) + length pair.1 ≤ text_bytes pairs
  len_fits =
      let all = sum_by_more_le (λ (e : Bytes × Bytes). length e.1) pairs i pair within in
      let same : length (get_or pairs i pair).1 ≡ length pair.1 = ap (λ (e : Bytes × Bytes). length e.1) (sym read) in
      omega arith

  -- one text more keeps within what all of them may take
  pub text_fits : tally.usage.text + text_bytes pairs < 2 ^ 64 → usage.text + length pair.1 < 2 ^ 64
  text_fits h = let fits = len_fits in let so_far = counted.text in omega arith

  pub map_fits : tally.usage.map + text_bytes pairs < 2 ^ 64 → usage.map + length pair.1 < 2 ^ 64
  map_fits h = let fits = len_fits in let so_far = counted.map in omega arith

  pub counted-more : (most : Option ℕ) → ((before : List (Bytes × Bytes)) → IsTally before tally → most ≡ longest (before ++ take i pairs) pair.0)
      → IsCounted tally pairs (i + 1) (with_text usage most (length pair.1))
  counted-more most is =
      let text = text_more in
      let text_so_far = counted.text in
      let names_so_far = counted.names in
      let map_so_far = counted.map in
      record {
        exact = λ before tallied.
            (λ j. with_text (counted.exact before tallied j) (is before tallied j) (length pair.1))
            ∙ sym (usage_of-push (before ++ take i pairs) pair)
            ∙ ap usage_of (append_assoc before (take i pairs) (pair ∷ []) ∙ ap (λ es. before ++ es) (sym more));
        text = omega arith;
        names = let one = at_most_one (is_some most) in omega arith;
        map = omega arith;
      }
    where
      at_most_one : (b : Bool) → (if b then 0 else 1) ≤ 1
      at_most_one true = omega arith
      at_most_one false = omega arith

-- the longest text of a name, of those that the tally knows and those of the first pairs
pub longest-before : (tally : Tally) (pairs : List (Bytes × Bytes)) (i : ℕ) (name : Bytes) (before : List (Bytes × Bytes)) → IsTally before tally
    → longer (known tally name) (longest (take i pairs) name) ≡ longest (before ++ take i pairs) name
longest-before tally pairs i name before tallied =
    ap (λ o. longer o (longest (take i pairs) name)) (tallied.longest name) ∙ sym (longest-append before (take i pairs) name)
