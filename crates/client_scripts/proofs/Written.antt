-- What a client made.
use Rattle.std.proofs.Common.{◌≡◌, ℕ, true, false, true≢false, ◌==◌, List, [], ◌∷◌, ◌++◌, map, refl, sym, ◌∙◌, subst, append_assoc, append-nil}
use Rattle.std.proofs.lemmas.Bool.{eq-eqb}
use Rattle.ask_history.specs.Journal.{is_closed}
use Rattle.ask_history.specs.declared.script.Line.{Line}
use Rattle.client_scripts.specs.History.{Entry, journal_of, has_entry_of}
use Rattle.client_scripts.specs.Passes.{closed_by}
use Rattle.client_scripts.specs.Runs.{AreRight, Runs}
use Rattle.client_scripts.proofs.Histories.{or_left, or_right, more_closed}

pub right-append : (c : ℕ) (lines : List Line) (before front back : List Entry) → AreRight c lines before front → AreRight c lines (before ++ front) back
    → AreRight c lines before (front ++ back)
right-append c lines before [] back h k = subst (λ es. AreRight c lines es back) (append-nil before) k
right-append c lines before (entry ∷ front) back h k =
    (h.0, right-append c lines (before ++ entry ∷ []) front back h.1 (subst (λ es. AreRight c lines es back) (sym (append_assoc before (entry ∷ []) front)) k))

-- others make nothing of the client
pub right_theirs : (c : ℕ) (lines : List Line) (before others : List Entry) → has_entry_of c others ≡ false → AreRight c lines before others
right_theirs c lines before [] h = tt
right_theirs c lines before (entry ∷ others) h = (
  (λ mine. absurd (true≢false (sym (eq-eqb entry.author c mine) ∙ or_left (entry.author == c) _ h))),
  right_theirs c lines (before ++ entry ∷ []) others (or_right (entry.author == c) _ h),
)

pub runs_more : (c : ℕ) (lines : List Line) (history more : List Entry) → Runs c lines history → AreRight c lines history more → Runs c lines (history ++ more)
runs_more c lines history more h k = right-append c lines [] history more h k

-- settlings behind the shutdown
pub right_settlings : (c : ℕ) (lines : List Line) (before : List Entry) (tickets : List ℕ) → is_closed (journal_of before) ≡ true
    → AreRight c lines before (map (closed_by c) tickets)
right_settlings c lines before [] h = tt
right_settlings c lines before (t ∷ tickets) h =
    ((λ mine. (h, refl)), right_settlings c lines (before ++ closed_by c t ∷ []) tickets (more_closed before (closed_by c t ∷ []) h))
