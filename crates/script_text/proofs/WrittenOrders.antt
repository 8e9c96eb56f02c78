-- The words of an order, and the order that words give.
use Rattle.std.proofs.Common.{◌≡◌, ℕ, Bool, true, false, ◌&&◌, cond, codes, List, [], ◌∷◌, ◌++◌, append_assoc, append-nil, option_and_then, Option, Some, None, unwrap_or, refl, sym, ap, ◌∙◌, subst}
use Rattle.std.specs.Option.{option_map}
use Rattle.std.specs.List.{list_all}
use Rattle.std.specs.Str.{bytes_eq}
use Rattle.std.specs.Fmt.{decimal}
use Rattle.std.specs.Cmp.Lexicographic.{same_text}
use Rattle.std.proofs.lemmas.Bool.{false≢true}
use Rattle.pc_terms.specs.Number.{number_of}
use Rattle.ask_history.specs.declared.calls.Call.{Call}
use Rattle.ask_history.specs.declared.calls.Call.TheVariants.{Reload, Remove, TypeAt, MembersAt, ScopeAt, LinkAt, Structure, LoadedTyped}
use Rattle.ask_history.specs.declared.script.Order.{Order}
use Rattle.ask_history.specs.declared.script.Order.TheVariants as order
use Rattle.script_text.specs.declared.words.Word.{Word}
use Rattle.script_text.specs.declared.words.Word.TheVariants as word
use Rattle.script_text.specs.Words.{Bytes, is_name, is_number}
use Rattle.script_text.specs.LineText.{pair_words, call_words, order_words}
use Rattle.script_text.specs.Standing.{is_next_pair, are_pairs, is_written_call, is_written}
use Rattle.script_text.specs.Reading.{pairs_from, names_from, reload_of, remove_of, one_name, one_number, name_and_offset, nothing_else, order_of, word_of, order_from}
use Rattle.script_text.proofs.WordLemmas.{left_of_both, right_of_both, both_true}
use Rattle.script_text.proofs.NumberTexts.{number_text, number_of-decimal}

pub not_some : {A : Type 0} (a : A) {B : Type 0} → None ≡ Some a → B
not_some a h = absurd (cc)

pub same_some : {A : Type 0} (a b : A) → Some a ≡ Some b → a ≡ b
same_some a b h = ap (λ o. unwrap_or o b) h

-- what is made of what was found
pub record IsMade {A B : Type 0} (make : A → B) (found : Option A) (made : B) : Type 0 where
  pub of : A
  pub here : found ≡ Some of
  pub is : made ≡ make of

pub made_of : {A B : Type 0} (make : A → B) (found : Option A) (made : B) → option_map make found ≡ Some made → IsMade make found made
made_of make None made h = not_some made h
made_of make (Some a) made h = record { of = a; here = refl; is = sym (same_some (make a) made h) }

-- what stands after what was found
pub record IsThen {A B : Type 0} (more : A → Option B) (found : Option A) (made : B) : Type 0 where
  pub of : A
  pub here : found ≡ Some of
  pub is : more of ≡ Some made

pub then_of : {A B : Type 0} (more : A → Option B) (found : Option A) (made : B) → option_and_then more found ≡ Some made → IsThen more found made
then_of more None made h = not_some made h
then_of more (Some a) made h = record { of = a; here = refl; is = h }

-- what was found under a test
pub record IsTested {A : Type 0} (test : Bool) (found : Option A) (made : A) : Type 0 where
  pub passed : test ≡ true
  pub is : found ≡ Some made

pub tested_of : {A : Type 0} (test : Bool) (found : Option A) (made : A) → cond test found None ≡ Some made → IsTested test found made
tested_of true found made h = record { passed = refl; is = h }
tested_of false found made h = not_some made h

-- ---- the first word

abbrev pub word_text : Word → Bytes
word_text word.Reload = codes "reload"
word_text word.Remove = codes "remove"
word_text word.Type = codes "type"
word_text word.Members = codes "members"
word_text word.Scope = codes "scope"
word_text word.Link = codes "link"
word_text word.Structure = codes "structure"
word_text word.Typed = codes "typed"
word_text word.Cancel = codes "cancel"
word_text word.Close = codes "close"
word_text word.Wait = codes "wait"
word_text word.Idle = codes "idle"

choose : (bytes : Bytes) (here w : Word) (later : Option Word) → (later ≡ Some w → bytes ≡ word_text w)
    → cond (bytes_eq bytes (word_text here)) (Some here) later ≡ Some w → bytes ≡ word_text w
choose bytes here w later more h = by (bytes_eq bytes (word_text here)) refl h
  where
    by : (b : Bool) → bytes_eq bytes (word_text here) ≡ b → cond b (Some here) later ≡ Some w → bytes ≡ word_text w
    by true e h = same_text bytes (word_text here) (sym e) ∙ ap word_text (same_some here w h)
    by false e h = more h

-- a word that is read is its text
word_is : (bytes : Bytes) (w : Word) → word_of bytes ≡ Some w → bytes ≡ word_text w
word_is bytes w =
    choose bytes word.Reload w _ (
    choose bytes word.Remove w _ (
    choose bytes word.Type w _ (
    choose bytes word.Members w _ (
    choose bytes word.Scope w _ (
    choose bytes word.Link w _ (
    choose bytes word.Structure w _ (
    choose bytes word.Typed w _ (
    choose bytes word.Cancel w _ (
    choose bytes word.Close w _ (
    choose bytes word.Wait w _ (
    choose bytes word.Idle w _ (
    not_some w))))))))))))

-- ---- names and offsets

name_is : (words : List Bytes) (name : Bytes) → one_name words ≡ Some name → (words ≡ name ∷ []) × (is_name name ≡ true)
name_is [] name h = not_some name h
name_is (first ∷ []) name h =
    let tested = tested_of (is_name first) (Some first) name h in
    let same = same_some first name tested.is in
    (ap (λ w. w ∷ []) same, rw (← same) tested.passed)
name_is (first ∷ second ∷ rest) name h = not_some name h

number_is : (words : List Bytes) (n : ℕ) → one_number words ≡ Some n → (words ≡ decimal n ∷ []) × (is_number n ≡ true)
number_is [] n h = not_some n h
number_is (first ∷ []) n h = let text = number_text first n h in (ap (λ w. w ∷ []) text.0, text.1)
number_is (first ∷ second ∷ rest) n h = not_some n h

record IsNameAndOffset (words : List Bytes) (found : Bytes × ℕ) : Type 0 where
  same : words ≡ found.0 ∷ decimal found.1 ∷ []
  name : is_name found.0 ≡ true
  offset : is_number found.1 ≡ true

name_and_offset_is : (words : List Bytes) (found : Bytes × ℕ) → name_and_offset words ≡ Some found → IsNameAndOffset words found
name_and_offset_is [] found h = not_some found h
name_and_offset_is (first ∷ []) found h = not_some found h
name_and_offset_is (first ∷ second ∷ []) found h =
    let tested = tested_of (is_name first) (option_map (λ n. (first, n)) (number_of second)) found h in
    let made = made_of (λ n. (first, n)) (number_of second) found tested.is in
    let text = number_text second made.of made.here in
    subst (λ (f : Bytes × ℕ). IsNameAndOffset (first ∷ second ∷ []) f) (sym made.is)
    (record { same = ap (λ w. first ∷ w ∷ []) text.0; name = tested.passed; offset = text.1 })
name_and_offset_is (first ∷ second ∷ third ∷ rest) found h = not_some found h

-- ---- pairs

record ArePairs (names : List Bytes) (pairs : List (Bytes × Bytes)) (words : List Bytes) (all : List (Bytes × Bytes)) : Type 0 where
  more : List (Bytes × Bytes)
  whole : all ≡ pairs ++ more
  same : words ≡ pair_words more
  apart : are_pairs names more ≡ true

pairs_are : (names : List Bytes) (pairs : List (Bytes × Bytes)) (words : List Bytes) (all : List (Bytes × Bytes)) → pairs_from names pairs words ≡ Some all → ArePairs names pairs words all
pairs_are names pairs [] all h = record { more = []; whole = sym (same_some pairs all h) ∙ sym (append-nil pairs); same = refl; apart = refl }
pairs_are names pairs (name ∷ []) all h = not_some all h
pairs_are names pairs (name ∷ path ∷ words) all h =
    let tested = tested_of (is_next_pair names name path) (pairs_from (names ++ name ∷ []) (pairs ++ (name, path) ∷ []) words) all h in
    let rest = pairs_are (names ++ name ∷ []) (pairs ++ (name, path) ∷ []) words all tested.is in
    record {
      more = (name, path) ∷ rest.more;
      whole = rest.whole ∙ append_assoc pairs ((name, path) ∷ []) rest.more;
      same = ap (λ w. name ∷ path ∷ w) rest.same;
      apart = both_true _ _ tested.passed rest.apart;
    }

pairs_of : (names : List Bytes) (pairs more : List (Bytes × Bytes)) → are_pairs names more ≡ true → pairs_from names pairs (pair_words more) ≡ Some (pairs ++ more)
pairs_of names pairs [] h = ap Some (sym (append-nil pairs))
pairs_of names pairs (pair ∷ more) h =
    let here : is_next_pair names pair.0 pair.1 ≡ true = left_of_both _ _ h in
    rw here (pairs_of (names ++ pair.0 ∷ []) (pairs ++ (pair.0, pair.1) ∷ []) more (right_of_both _ _ h)
    ∙ ap Some (append_assoc pairs (pair ∷ []) more))

-- ---- names

names_are : (names words all : List Bytes) → names_from names words ≡ Some all → (all ≡ names ++ words) × (list_all is_name words ≡ true)
names_are names [] all h = (sym (same_some names all h) ∙ sym (append-nil names), refl)
names_are names (word ∷ words) all h =
    let tested = tested_of (is_name word) (names_from (names ++ word ∷ []) words) all h in
    let rest = names_are (names ++ word ∷ []) words all tested.is in
    (rest.0 ∙ append_assoc names (word ∷ []) words, both_true _ _ tested.passed rest.1)

names_of : (names words : List Bytes) → list_all is_name words ≡ true → names_from names words ≡ Some (names ++ words)
names_of names [] h = ap Some (sym (append-nil names))
names_of names (word ∷ words) h =
    let here : is_name word ≡ true = left_of_both _ _ h in
    rw here (names_of (names ++ word ∷ []) words (right_of_both _ _ h) ∙ ap Some (append_assoc names (word ∷ []) words))

-- ---- from words to an order

-- the words are those of the order, and it is rightly written
pub record IsOrder (words : List Bytes) (made : Order) : Type 0 where
  pub same : words ≡ order_words made
  pub written : is_written made ≡ true

reload_is : (words : List Bytes) (made : Order) → reload_of words ≡ Some made → IsOrder (codes "reload" ∷ words) made
reload_is [] made h = not_some made h
reload_is (first ∷ words) made h =
    let found = made_of (λ pairs. order.Call (Reload pairs)) (pairs_from [] [] (first ∷ words)) made h in
    let all = pairs_are [] [] (first ∷ words) found.of found.here in
    subst (λ (o : Order). IsOrder (codes "reload" ∷ first ∷ words) o) (sym (found.is ∙ ap (λ e. order.Call (Reload e)) all.whole))
    (some all.more all.same all.apart)
  where
    some : (pairs : List (Bytes × Bytes)) → first ∷ words ≡ pair_words pairs → are_pairs [] pairs ≡ true → IsOrder (codes "reload" ∷ first ∷ words) (order.Call (Reload pairs))
    some [] same apart = absurd (cc)
    some (pair ∷ pairs) same apart = record { same = ap (λ w. codes "reload" ∷ w) same; written = apart }

remove_is : (words : List Bytes) (made : Order) → remove_of words ≡ Some made → IsOrder (codes "remove" ∷ words) made
remove_is [] made h = not_some made h
remove_is (first ∷ words) made h =
    let found = made_of (λ names. order.Call (Remove names)) (names_from [] (first ∷ words)) made h in
    let names = names_are [] (first ∷ words) found.of found.here in
    subst (λ (o : Order). IsOrder (codes "remove" ∷ first ∷ words) o) (sym (found.is ∙ ap (λ n. order.Call (Remove n)) names.0))
    (record { same = refl; written = names.1 })

offset_is : (make : Bytes → ℕ → Call) (text : Bytes) → ((name : Bytes) (n : ℕ) → call_words (make name n) ≡ text ∷ name ∷ decimal n ∷ [])
    → ((name : Bytes) (n : ℕ) → is_written_call (make name n) ≡ (is_name name && is_number n))
    → (words : List Bytes) (made : Order) → option_map (λ found. order.Call (make found.0 found.1)) (name_and_offset words) ≡ Some made → IsOrder (text ∷ words) made
offset_is make text says written words made h =
    let found = made_of (λ found. order.Call (make found.0 found.1)) (name_and_offset words) made h in
    let is = name_and_offset_is words found.of found.here in
    subst (λ (o : Order). IsOrder (text ∷ words) o) (sym found.is)
    (record {
      same = ap (λ w. text ∷ w) is.same ∙ sym (says found.of.0 found.of.1);
      written = written found.of.0 found.of.1 ∙ both_true (is_name found.of.0) (is_number found.of.1) is.name is.offset;
    })

file_is : (make : Bytes → Call) (text : Bytes) → ((name : Bytes) → call_words (make name) ≡ text ∷ name ∷ []) → ((name : Bytes) → is_written_call (make name) ≡ (is_name name && true))
    → (words : List Bytes) (made : Order) → option_map (λ name. order.Call (make name)) (one_name words) ≡ Some made → IsOrder (text ∷ words) made
file_is make text says written words made h =
    let found = made_of (λ name. order.Call (make name)) (one_name words) made h in
    let is = name_is words found.of found.here in
    subst (λ (o : Order). IsOrder (text ∷ words) o) (sym found.is)
    (record { same = ap (λ w. text ∷ w) is.0 ∙ sym (says found.of); written = written found.of ∙ both_true (is_name found.of) true is.1 refl })

numbered_is : (make : ℕ → Order) (text : Bytes) → ((n : ℕ) → order_words (make n) ≡ text ∷ decimal n ∷ []) → ((n : ℕ) → is_written (make n) ≡ is_number n)
    → (words : List Bytes) (made : Order) → option_map make (one_number words) ≡ Some made → IsOrder (text ∷ words) made
numbered_is make text says written words made h =
    let found = made_of make (one_number words) made h in
    let is = number_is words found.of found.here in
    subst (λ (o : Order). IsOrder (text ∷ words) o) (sym found.is)
    (record { same = ap (λ w. text ∷ w) is.0 ∙ sym (says found.of); written = written found.of ∙ is.1 })

alone_is : (own : Order) (text : Bytes) → order_words own ≡ text ∷ [] → is_written own ≡ true → (words : List Bytes) (made : Order) → nothing_else own words ≡ Some made → IsOrder (text ∷ words) made
alone_is own text says written [] made h =
    subst (λ (o : Order). IsOrder (text ∷ []) o) (same_some own made h) (record { same = sym says; written = written })
alone_is own text says written (first ∷ rest) made h = not_some made h

word_order_is : (w : Word) (words : List Bytes) (made : Order) → order_of w words ≡ Some made → IsOrder (word_text w ∷ words) made
word_order_is word.Reload words made h = reload_is words made h
word_order_is word.Remove words made h = remove_is words made h
word_order_is word.Type words made h = offset_is TypeAt (codes "type") (λ a n. refl) (λ a n. refl) words made h
word_order_is word.Members words made h = offset_is MembersAt (codes "members") (λ a n. refl) (λ a n. refl) words made h
word_order_is word.Scope words made h = offset_is ScopeAt (codes "scope") (λ a n. refl) (λ a n. refl) words made h
word_order_is word.Link words made h = offset_is LinkAt (codes "link") (λ a n. refl) (λ a n. refl) words made h
word_order_is word.Structure words made h = file_is Structure (codes "structure") (λ a. refl) (λ a. refl) words made h
word_order_is word.Typed words made h = file_is LoadedTyped (codes "typed") (λ a. refl) (λ a. refl) words made h
word_order_is word.Cancel words made h = numbered_is order.Cancel (codes "cancel") (λ n. refl) (λ n. refl) words made h
word_order_is word.Close words made h = alone_is order.Close (codes "close") refl refl words made h
word_order_is word.Wait words made h = numbered_is order.Wait (codes "wait") (λ n. refl) (λ n. refl) words made h
word_order_is word.Idle words made h = alone_is order.Idle (codes "idle") refl refl words made h

-- words that are read are those of the order
pub order_is : (words : List Bytes) (made : Order) → order_from words ≡ Some made → IsOrder words made
order_is [] made h = not_some made h
order_is (first ∷ words) made h =
    let found = then_of (λ w. order_of w words) (word_of first) made h in
    let is = word_order_is found.of words made found.is in
    record { same = ap (λ w. w ∷ words) (word_is first found.of found.here) ∙ is.same; written = is.written }

-- ---- from an order to its words

offset_read : (name : Bytes) (n : ℕ) → (is_name name && is_number n) ≡ true → name_and_offset (name ∷ decimal n ∷ []) ≡ Some (name, n)
offset_read name n h =
    let named : is_name name ≡ true = left_of_both _ _ h in
    let fits : is_number n ≡ true = right_of_both (is_name name) (is_number n) h in
    rw (named, number_of-decimal n fits) refl

name_read : (name : Bytes) → is_name name ≡ true → one_name (name ∷ []) ≡ Some name
name_read name h = rw h refl

-- an order that is rightly written is read from its words
pub order_from-words : (made : Order) → is_written made ≡ true → order_from (order_words made) ≡ Some made
order_from-words (order.Call (Reload [])) h = absurd (false≢true h)
order_from-words (order.Call (Reload (pair ∷ pairs))) h = ap (λ o. option_map (λ e. order.Call (Reload e)) o) (pairs_of [] [] (pair ∷ pairs) h)
order_from-words (order.Call (Remove [])) h = absurd (false≢true h)
order_from-words (order.Call (Remove (name ∷ names))) h = ap (λ o. option_map (λ n. order.Call (Remove n)) o) (names_of [] (name ∷ names) h)
order_from-words (order.Call (TypeAt name n)) h = ap (λ o. option_map (λ found. order.Call (TypeAt found.0 found.1)) o) (offset_read name n h)
order_from-words (order.Call (MembersAt name n)) h = ap (λ o. option_map (λ found. order.Call (MembersAt found.0 found.1)) o) (offset_read name n h)
order_from-words (order.Call (ScopeAt name n)) h = ap (λ o. option_map (λ found. order.Call (ScopeAt found.0 found.1)) o) (offset_read name n h)
order_from-words (order.Call (LinkAt name n)) h = ap (λ o. option_map (λ found. order.Call (LinkAt found.0 found.1)) o) (offset_read name n h)
order_from-words (order.Call (Structure name)) h = ap (λ o. option_map (λ found. order.Call (Structure found)) o) (name_read name (left_of_both (is_name name) true h))
order_from-words (order.Call (LoadedTyped name)) h = ap (λ o. option_map (λ found. order.Call (LoadedTyped found)) o) (name_read name (left_of_both (is_name name) true h))
order_from-words (order.Cancel k) h = ap (λ o. option_map order.Cancel o) (number_of-decimal k h)
order_from-words order.Close h = refl
order_from-words (order.Wait k) h = ap (λ o. option_map order.Wait o) (number_of-decimal k h)
order_from-words order.Idle h = refl
