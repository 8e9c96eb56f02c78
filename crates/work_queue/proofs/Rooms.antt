-- What a tally tells of names where the entry of one changes.
use Rattle.std.proofs.Common.{◌≡◌, ℕ, ◌+◌, ◌<◌, ◌≤◌, Bool, true, false, cond, if◌then◌else◌, List, [], ◌∷◌, ◌++◌, length, get_or, take, Option, Some, None, is_some, refl, sym, ap, ◌∙◌, subst}
use Rattle.std.specs.Map.{update, lookup}
use Rattle.std.specs.String.{string_bytes}
use Rattle.std.specs.Str.{bytes_eq}
use Rattle.std.proofs.lemmas.List.{take_more, take_all}
use Rattle.std.proofs.lemmas.List.Elements.{All-more}
use Rattle.std.proofs.lemmas.Slice.Eq.{bytes_eq-Decides}
use Rattle.ask_history.specs.Sources.{Bytes}
use Rattle.work_queue.specs.declared.tally.Tally.{Tally}
use Rattle.work_queue.specs.Reloads.{longer, longest, length_for, usage_of}
use Rattle.work_queue.specs.Tally.{IsTally, TellsSame, HasRoom, kept, known, has_room}
use Rattle.work_queue.proofs.Usages.{longer-none, longer_assoc, longest-push, longest-append}

module _ (find : Bytes → Option (Option ℕ)) (name : Bytes) where
  -- a name that has room keeps the longer text
  pub kept-raised : (most : Option ℕ) (len : ℕ) → find name ≡ Some most → (other : Bytes)
      → kept (update bytes_eq find name (Some (longer most (Some len))) other) ≡ longer (kept (find other)) (if bytes_eq name other then Some len else None)
  kept-raised most len is other = by (bytes_eq name other) refl
    where
      by : (b : Bool) → bytes_eq name other ≡ b → kept (cond b (Some (longer most (Some len))) (find other)) ≡ longer (kept (find other)) (if b then Some len else None)
      by true same = ap (λ o. longer (kept o) (Some len)) (sym is ∙ ap find ((bytes_eq-Decides name other).0 same))
      by false apart = sym (longer-none (kept (find other)))

  -- room for a name tells nothing
  pub kept-room : find name ≡ None → (other : Bytes) → kept (update bytes_eq find name (Some None) other) ≡ kept (find other)
  kept-room none other = by (bytes_eq name other) refl
    where
      by : (b : Bool) → bytes_eq name other ≡ b → kept (cond b (Some None) (find other)) ≡ kept (find other)
      by true same = ap kept (sym none ∙ ap find ((bytes_eq-Decides name other).0 same))
      by false apart = refl

  -- what has room keeps it
  pub is_some-update : (entry : Option ℕ) (other : Bytes) → is_some (find other) ≡ true → is_some (update bytes_eq find name (Some entry) other) ≡ true
  is_some-update entry other h = by (bytes_eq name other)
    where
      by : (b : Bool) → is_some (cond b (Some entry) (find other)) ≡ true
      by true = refl
      by false = h

pub same-tally : (old new : Tally) → TellsSame old new → (before : List (Bytes × Bytes)) → IsTally before old → IsTally before new
same-tally old new same before tallied = record { usage = same.usage ∙ tallied.usage; longest = λ name. same.longest name ∙ tallied.longest name }

pub same-again : (old mid new : Tally) → TellsSame old mid → TellsSame mid new → TellsSame old new
same-again old mid new first second = record {
  usage = second.usage ∙ first.usage;
  longest = λ name. second.longest name ∙ first.longest name;
  room = λ name h. second.room name (first.room name h);
}

-- room is kept, and made for one pair more
pub has_room-more : (old new : Tally) (pairs : List (Bytes × Bytes)) (i : ℕ) (pair : Bytes × Bytes) → ((name : Bytes) → has_room old name ≡ true → has_room new name ≡ true)
    → i < length pairs → pair ≡ get_or pairs i pair → HasRoom (take i pairs) old → has_room new pair.0 ≡ true → HasRoom (take (i + 1) pairs) new
has_room-more old new pairs i pair keeps within read room here =
    All-more (λ (e : Bytes × Bytes). has_room new e.0 ≡ true) pairs i pair within (λ k d h. keeps (get_or (take i pairs) k d).0 (room k d h))
    (subst (λ (e : Bytes × Bytes). has_room new e.0 ≡ true) read here)

module _ (start old new : Bytes → Option ℕ) (pairs : List (Bytes × Bytes)) where
  -- the longest texts, with one pair more
  pub longest-more : (i : ℕ) (pair : Bytes × Bytes) → i < length pairs → pair ≡ get_or pairs i pair
      → ((name : Bytes) → old name ≡ longer (start name) (longest (take i pairs) name))
      → ((name : Bytes) → new name ≡ longer (old name) (length_for pair name))
      → (name : Bytes) → new name ≡ longer (start name) (longest (take (i + 1) pairs) name)
  longest-more i pair within read was now name =
      let more = take_more pairs i pair within ∙ ap (λ e. take i pairs ++ e ∷ []) (sym read) in
      now name ∙ ap (λ o. longer o (length_for pair name)) (was name)
      ∙ sym (longer_assoc (start name) (longest (take i pairs) name) (length_for pair name))
      ∙ ap (longer (start name)) (sym (longest-push (take i pairs) pair name) ∙ ap (λ es. longest es name) (sym more))

-- all pairs are taken in
pub all_taken_in : (old new : Tally) (pairs : List (Bytes × Bytes)) (i : ℕ) → length pairs ≤ i
    → ((name : Bytes) → known new name ≡ longer (known old name) (longest (take i pairs) name))
    → (before : List (Bytes × Bytes)) → IsTally before old → new.usage ≡ usage_of (before ++ pairs) → IsTally (before ++ pairs) new
all_taken_in old new pairs i all now before tallied usage = record {
  usage = usage;
  longest = λ name. now name ∙ (λ j. longer (tallied.longest name j) (longest (take_all i pairs all j) name)) ∙ sym (longest-append before pairs name);
}

-- a tally with the same entries tells the same
pub same-entries : (old new : Tally) → new.usage ≡ old.usage → new.longest.entries ≡ old.longest.entries → (before : List (Bytes × Bytes)) → IsTally before old → IsTally before new
same-entries old new usage entries before tallied = record {
  usage = usage ∙ tallied.usage;
  longest = λ name. ap (λ es. kept (lookup (λ k. bytes_eq name (string_bytes k)) es)) entries ∙ tallied.longest name;
}
