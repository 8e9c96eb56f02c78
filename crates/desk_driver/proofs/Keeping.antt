-- What the engine's pass keeps while it serves.
use Rattle.std.proofs.Common.{◌≡◌, ℕ, ◌+◌, ◌<◌, ◌≤◌, ◌==◌, ◌||◌, ◌&&◌, Bool, true, false, true≢false, IsTrue, if◌then◌else◌, List, [], ◌∷◌, ◌++◌, length, Option, Some, refl, sym, ap, ◌∙◌, subst, arith, append_assoc, append-nil}
use Rattle.std.proofs.lemmas.Bool.{and_parts, and_from}
use Rattle.std.proofs.lemmas.List.Elements.{filter-append}
use Rattle.std.proofs.lemmas.List.Folds.{list_any-append}
use Rattle.pc_terms.specs.declared.problems.Problem.{Problem}
use Rattle.ask_history.specs.Sources.{Bytes}
use Rattle.ask_history.specs.Journal.{is_close, is_closed}
use Rattle.ask_history.specs.declared.engine.Effect.{Effect}
use Rattle.ask_history.specs.declared.events.Event.{Event}
use Rattle.ask_history.specs.declared.events.Event.TheVariants.{Accept, Cancel, Close, Settle, Checked}
use Rattle.journal_laws.specs.Others.{is_others, are_others}
use Rattle.work_queue.specs.declared.limits.Settling.{Settling}
use Rattle.counting_word.specs.declared.view.Entry.{Entry}
use Rattle.counting_word.specs.declared.view.Name.{Name}
use Rattle.counting_word.specs.declared.view.View.{View}
use Rattle.counting_word.specs.History.{journal_of, entries_by, engine_number}
use Rattle.counting_word.proofs.Beginnings.{begins-trans, length-begins}
use Rattle.counting_word.proofs.Counting.{journal_of-append}
use Rattle.ask_desk.specs.Answers.{may_make, is_rightful}
use Rattle.ask_desk.specs.Passes.{Moves}
use Rattle.ask_desk.specs.Driving.{Works, settled_as, settling, Settles, checking, Checks}
use Rattle.ask_desk.specs.declared.driving.CheckNoted.{CheckNoted}
use Rattle.ask_desk.specs.declared.driving.CheckNoted.TheVariants.{Noted, ShutDown, NoMemory}
use Rattle.desk_driver.specs.Serves.{Serves}

moves_further : (old now new : View) → Moves old now → Moves now new → Moves old new
moves_further old now new one two =
    let k1 = one.known in
    let l1 = one.loads in
    let l2 = two.loads in
    let more : length now.seen ≤ length new.seen = length-begins now.seen new.seen two.begins in
    record {
      begins = begins-trans old.seen now.seen new.seen one.begins two.begins;
      known = omega arith;
      counted = two.counted;
      loads = omega arith;
      number = two.number ∙ one.number;
      made = two.made ∙ one.made;
    }

by_append : (front back : List Entry) → entries_by engine_number (front ++ back) ≡ entries_by engine_number front ++ entries_by engine_number back
by_append front back = filter-append (λ (entry : Entry). entry.author == engine_number) front back

-- ---- who made what

or_assoc : (a b c : Bool) → ((a || b) || c) ≡ (a || (b || c))
or_assoc true b c = refl
or_assoc false b c = refl

pub rightful-append : (closed : Bool) (front back : List Entry) → IsTrue (is_rightful closed front) → IsTrue (is_rightful (closed || is_closed (journal_of front)) back) → IsTrue (is_rightful closed (front ++ back))
rightful-append closed [] back h k = subst (λ b. IsTrue (is_rightful b back)) (by closed) k
  where
    by : (b : Bool) → (b || false) ≡ b
    by true = refl
    by false = refl
rightful-append closed (entry ∷ front) back h k =
    let parts = and_parts (may_make closed entry.event entry.author) (is_rightful (closed || is_close entry.event) front) h in
    and_from (may_make closed entry.event entry.author) (is_rightful (closed || is_close entry.event) (front ++ back)) parts.0
    (rightful-append (closed || is_close entry.event) front back parts.1
    (subst (λ b. IsTrue (is_rightful b back)) (sym (or_assoc closed (is_close entry.event) (is_closed (journal_of front)))) k))

-- what others did
others_rightful : (closed : Bool) (entries : List Entry) → IsTrue (are_others closed (journal_of entries)) → IsTrue (is_rightful closed entries)
others_rightful closed [] h = refl
others_rightful closed (entry ∷ entries) h =
    let parts = and_parts (is_others closed entry.event) (are_others (closed || is_close entry.event) (journal_of entries)) h in
    and_from (may_make closed entry.event entry.author) (is_rightful (closed || is_close entry.event) entries) (by entry.event parts.0)
    (others_rightful (closed || is_close entry.event) entries parts.1)
  where
    by : (event : Event) → IsTrue (is_others closed event) → IsTrue (may_make closed event entry.author)
    by (Checked file) k = absurd (true≢false (sym k))
    by (Settle t mark) k = ap (λ b. b || (entry.author == engine_number)) k
    by (Accept t client tag call) k = refl
    by (Cancel t) k = refl
    by Close k = refl

-- a call under the lock that wrote entries of the engine's
pub serves_further : (begun old new : View) (before entries : List Entry) → Serves begun old → Works old before entries new → entries_by engine_number entries ≡ entries
    → ((closed : Bool) → IsTrue (is_rightful closed entries)) → Serves begun new
serves_further begun old new before entries serves works mine ours =
    let others : List Entry = works.later.others in
    let closed : Bool = is_closed (journal_of begun.seen) in
    let shut : is_closed (journal_of old.seen) ≡ (closed || is_closed (journal_of serves.entries)) =
    ap (λ (es : List Entry). is_closed (journal_of es)) serves.behind ∙ ap is_closed (journal_of-append begun.seen serves.entries)
    ∙ list_any-append is_close (journal_of begun.seen) (journal_of serves.entries) in
    let by : List Entry → List Entry = entries_by engine_number in
    let none : by others ≡ [] = works.later.theirs in
    record {
      moves = moves_further begun old new serves.moves works.moves;
      entries = serves.entries ++ (others ++ entries);
      behind = works.seen ∙ ap (λ es. es ++ entries) (works.later.behind ∙ ap (λ es. es ++ others) serves.behind)
          ∙ ap (λ es. es ++ entries) (append_assoc begun.seen serves.entries others) ∙ append_assoc begun.seen (serves.entries ++ others) entries
          ∙ ap (λ es. begun.seen ++ es) (append_assoc serves.entries others entries);
      own = works.own ∙ ap (λ es. es ++ entries) serves.own ∙ append_assoc begun.name.own (by serves.entries) entries
          ∙ ap (λ es. begun.name.own ++ es)
          (sym (by_append serves.entries (others ++ entries) ∙ ap (λ es. by serves.entries ++ es) (by_append others entries ∙ (λ j. none j ++ mine j))));
      rightful = rightful-append closed serves.entries (others ++ entries) serves.rightful
          (rightful-append (closed || is_closed (journal_of serves.entries)) others entries
          (subst (λ b. IsTrue (is_rightful b others)) shut (others_rightful (is_closed (journal_of old.seen)) others works.later.kinds))
          (ours ((closed || is_closed (journal_of serves.entries)) || is_closed (journal_of others))));
      got = works.got ∙ serves.got;
      engine = works.moves.number ∙ serves.engine;
      legal = works.legal;
    }

pub serves_looked : (begun old new : View) → Serves begun old → Works old new.seen [] new → Serves begun new
serves_looked begun old new serves works = serves_further begun old new new.seen [] serves works refl (λ closed. refl)

-- the first look
pub serves_begun : (begun new : View) → begun.name.number ≡ Some engine_number → Works begun new.seen [] new → Serves begun new
serves_begun begun new engine works =
    let others : List Entry = works.later.others in
    record {
      moves = works.moves;
      entries = others;
      behind = works.later.behind;
      own = works.own ∙ ap (λ es. begun.name.own ++ es) (sym works.later.theirs);
      rightful = others_rightful (is_closed (journal_of begun.seen)) others works.later.kinds;
      got = works.got;
      engine = works.moves.number ∙ engine;
      legal = works.legal;
    }

settled_mine : (name : Name) (journal : List Event) (ticket : ℕ) (what : Settling) → name.number ≡ Some engine_number
    → entries_by engine_number (settling name journal ticket what) ≡ settling name journal ticket what
settled_mine name journal ticket what engine = by (is_closed journal)
  where
    by : (b : Bool) → entries_by engine_number (if b then [] else settled_as name journal ticket what ∷ []) ≡ (if b then [] else settled_as name journal ticket what ∷ [])
    by true = refl
    by false =
        subst (λ (n : Option ℕ). entries_by engine_number (settled_as (record name { number = n }) journal ticket what ∷ []) ≡ settled_as (record name { number = n }) journal ticket what ∷ []) (sym engine) refl

or_true : (b : Bool) → ((b || true) && true) ≡ true
or_true true = refl
or_true false = refl

settled_ours : (name : Name) (journal : List Event) (ticket : ℕ) (what : Settling) → name.number ≡ Some engine_number → (closed : Bool) → IsTrue (is_rightful closed (settling name journal ticket what))
settled_ours name journal ticket what engine closed = by (is_closed journal)
  where
    by : (b : Bool) → IsTrue (is_rightful closed (if b then [] else settled_as name journal ticket what ∷ []))
    by true = refl
    by false = subst (λ (n : Option ℕ). IsTrue (is_rightful closed (settled_as (record name { number = n }) journal ticket what ∷ []))) (sym engine) (or_true closed)

pub serves_settled : (begun old new : View) (ticket : ℕ) (what : Settling) (effect : Effect) → Serves begun old → Settles old new ticket what effect → Serves begun new
serves_settled begun old new ticket what effect serves settles =
    serves_further begun old new settles.before (settling old.name (journal_of settles.before) ticket what) serves settles.works
    (settled_mine old.name (journal_of settles.before) ticket what serves.engine) (settled_ours old.name (journal_of settles.before) ticket what serves.engine)

checked_mine : (name : Name) (file : Bytes) (problems : List Problem) → name.number ≡ Some engine_number
    → entries_by engine_number (checking name file problems ∷ []) ≡ checking name file problems ∷ []
checked_mine name file problems engine =
    subst (λ (n : Option ℕ). entries_by engine_number (checking (record name { number = n }) file problems ∷ []) ≡ checking (record name { number = n }) file problems ∷ []) (sym engine) refl

checked_ours : (name : Name) (file : Bytes) (problems : List Problem) → name.number ≡ Some engine_number → (closed : Bool) → IsTrue (is_rightful closed (checking name file problems ∷ []))
checked_ours name file problems engine closed = subst (λ (n : Option ℕ). IsTrue (is_rightful closed (checking (record name { number = n }) file problems ∷ []))) (sym engine) refl

pub serves_checked : (begun old new : View) (file : Bytes) (problems : List Problem) (result : CheckNoted) → Serves begun old → Checks old new file problems result → Serves begun new
serves_checked begun old new file problems Noted serves checks =
    serves_further begun old new checks.0 (checking old.name file problems ∷ []) serves checks.1.1 (checked_mine old.name file problems serves.engine) (checked_ours old.name file problems serves.engine)
serves_checked begun old new file problems ShutDown serves checks = serves_further begun old new checks.0 [] serves checks.1.1 refl (λ closed. refl)
serves_checked begun old new file problems NoMemory serves checks = serves_further begun old new checks.0 [] serves checks.1 refl (λ closed. refl)
