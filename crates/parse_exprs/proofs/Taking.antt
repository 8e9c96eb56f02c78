-- Items that are taken one after the other.
use Rattle.std.proofs.Common.{◌≡◌, ℕ, suc, false, true, if◌then◌else◌, List, [], ◌∷◌, ◌++◌, drop, Option, Some, None, ap, sym, subst, ◌∙◌, arith}
use Rattle.std.specs.List.{All}
use Rattle.scan_tokens.specs.Words.{Bytes}
use Rattle.pc_terms.specs.declared.problems.Span.{Span}
use Rattle.parse_parts.specs.Built.{joined}
use Rattle.parse_parts.specs.Steps.{first}
use Rattle.parse_parts.specs.declared.built.Kids.{Kids}
use Rattle.reading_machines.specs.Machines.{onward, run}
use Rattle.parse_patterns.specs.declared.states.State.{State as PatternState}
use Rattle.expr_tails.specs.declared.items.Built.{Built}
use Rattle.expr_tails.specs.declared.states.State.{State}
use Rattle.expr_steps.specs.Reading.{Item, stepped}
use Rattle.parse_exprs.specs.declared.items.Item.{Item as Written}
use Rattle.parse_exprs.specs.Items.{depth_behind, item_in, items_in, symbol_at}
use Rattle.parse_exprs.specs.Cases.{admits_next, advanced_by, behind, behind_case, case_items, case_of, cases_from, ends_case, guard_of, is_guard_over, pattern_of, pattern_or_none}

pub all-rest : {X : Type 0} (P : X → Type 0) (xs ys : List X) (x : X) → xs ≡ x ∷ ys → All P xs → All P ys
all-rest P xs ys x e all = λ k d below. (subst (All P) e all) (suc k) d (omega (arith, below))

pub all-second : {X : Type 0} (P : X → Type 0) (xs : List X) (x : X) → All P xs → Some x ≡ first (drop 1 xs) → P x
all-second P [] x all e = absurd (cc)
all-second P (a ∷ []) x all e = absurd (cc)
all-second P (a ∷ b ∷ xs) x all e = let same : b ≡ x = cc in subst P same (all 1 b (omega arith))

pub run-on : {S : Type 0} (step : S → Item → Option S) (text : Bytes) (rest left : List Written) (item : Written) (s next : S)
    → rest ≡ item ∷ left → step s (item_in text item) ≡ Some next
    → run step (items_in text rest) s ≡ run step (items_in text left) next
run-on step text rest left item s next e k =
    ap (λ xs. run step (items_in text xs) s) e ∙ ap (λ o. onward o None (run step (items_in text left))) k

pub guard-on : (text : Bytes) (rest left : List Written) (item : Written) (s next : State)
    → rest ≡ item ∷ left → is_guard_over s (items_in text rest) ≡ false → stepped s (item_in text item) ≡ Some next
    → guard_of s (items_in text rest) ≡ guard_of next (items_in text left)
guard-on text rest left item s next e f k =
    ap (λ xs. guard_of s (items_in text xs)) e
    ∙ ap (λ b. if b then behind (Some s) (item_in text item ∷ items_in text left) else onward (stepped s (item_in text item)) None (λ n. guard_of n (items_in text left)))
    (sym (ap (λ xs. is_guard_over s (items_in text xs)) e) ∙ f)
    ∙ ap (λ o. onward o None (λ n. guard_of n (items_in text left))) k

pub case-on : (text : Bytes) (rest left : List Written) (n : ℕ) (kids : Option Kids) (free : List Span) (one : Built)
    → behind (Some one) (items_in text left) ≡ case_of (items_in text rest)
    → cases_from (suc n) kids free (items_in text rest) ≡ cases_from n (joined kids one.tall) (free ++ one.free) (items_in text left)
case-on text [] left n kids free one e = absurd (cc)
case-on text (i ∷ rest) left n kids free one e =
    ap (λ o. onward o None (λ b. cases_from n (joined kids b.part.tall) (free ++ b.part.free) b.items)) (sym e)

pub pattern-on : (text : Bytes) (rest left : List Written) (item : Written) (p next : PatternState)
    → rest ≡ item ∷ left → admits_next p (items_in text rest) ≡ true → next ≡ advanced_by p (item_in text item)
    → pattern_of p (items_in text rest) ≡ pattern_of next (items_in text left)
pattern-on text rest left item p next e f k =
    ap (λ xs. pattern_of p (items_in text xs)) e
    ∙ ap (λ b. if b then pattern_of (advanced_by p (item_in text item)) (items_in text left) else behind (pattern_or_none p) (item_in text item ∷ items_in text left))
    (sym (ap (λ xs. admits_next p (items_in text xs)) e) ∙ f)
    ∙ ap (λ q. pattern_of q (items_in text left)) (sym k)

-- an item that does not begin the next case is one of this case
pub case_items-on : (text : Bytes) (rest left : List Written) (item : Written) (depth : ℕ)
    → rest ≡ item ∷ left → ends_case depth (items_in text rest) ≡ false
    → case_items depth (items_in text rest) ≡ item_in text item ∷ case_items (depth_behind depth (symbol_at (item_in text item))) (items_in text left)
case_items-on text rest left item depth e f =
    ap (λ xs. case_items depth (items_in text xs)) e
    ∙ ap (λ b. if b then [] else item_in text item ∷ case_items (depth_behind depth (symbol_at (item_in text item))) (items_in text left))
    (sym (ap (λ xs. ends_case depth (items_in text xs)) e) ∙ f)

pub behind_case-on : (text : Bytes) (rest left : List Written) (item : Written) (depth : ℕ)
    → rest ≡ item ∷ left → ends_case depth (items_in text rest) ≡ false
    → behind_case depth (items_in text rest) ≡ behind_case (depth_behind depth (symbol_at (item_in text item))) (items_in text left)
behind_case-on text rest left item depth e f =
    ap (λ xs. behind_case depth (items_in text xs)) e
    ∙ ap (λ b. if b then item_in text item ∷ items_in text left else behind_case (depth_behind depth (symbol_at (item_in text item))) (items_in text left))
    (sym (ap (λ xs. ends_case depth (items_in text xs)) e) ∙ f)
