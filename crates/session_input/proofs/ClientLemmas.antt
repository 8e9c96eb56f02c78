-- The scripts of clients, read as one.
use Rattle.std.proofs.Common.{◌≡◌, inl, inr, ℕ, ◌+◌, ◌*◌, ◌^◌, ◌<◌, ◌≤◌, Bool, true, false, cond, ◌==◌, nat_lt, List, [], ◌∷◌, ◌++◌, length, map, Option, Some, None, Result, Ok, Err, length-append, refl, sym, ap, ◌∙◌, subst, arith}
use Rattle.std.specs.List.{AllByRecursion}
use Rattle.std.specs.Str.Lossy.{utf8_valid_len}
use Rattle.std.proofs.lemmas.Bool.Decides.{nat_tests}
use Rattle.std.proofs.SliceLists.{all_by_recursion_push}
use Rattle.pc_terms.specs.Bytes.{Bytes}
use Rattle.ask_history.specs.Sources.{Sources}
use Rattle.ask_history.specs.declared.script.Line.{Line}
use Rattle.ask_history.specs.declared.script.Script.{Script}
use Rattle.script_text.specs.Grammar.{IsScript}
use Rattle.script_text.specs.Reading.{lines_read}
use Rattle.script_text.specs.Texts.{script_with}
use Rattle.script_text.specs.declared.kinds.ScriptKind.TheVariants as kind
use Rattle.script_text.proofs.GrammarLemmas.{script_from_reading}
use Rattle.session_input.specs.Limits.{most_of}
use Rattle.session_input.specs.Reads.{Reading, Gives, Refuses, Reads, then_reads, ComesTo}
use Rattle.session_input.specs.Sources.{accepted, text_reading, lines_or_bad, pairs_in, lines_in, sources_reading}
use Rattle.session_input.specs.Leads.{Leads, Ends}
use Rattle.session_input.specs.Counts.{passed_by, most_pairs}
use Rattle.session_input.specs.Clients.{texts_reading, scripts_reading, named_scripts, scripts_within, scripts_with_sources, clients_reading, IsOneOf, IsReadForClients}
use Rattle.session_input.specs.Input.{unless_passed}
use Rattle.session_input.specs.Faults.{CountsFaults}
use Rattle.session_input.specs.declared.limits.Limit.{Limit}
use Rattle.session_input.specs.declared.limits.Limit.TheVariants as limit
use Rattle.session_input.specs.declared.refusal.Refusal.TheVariants as refusal
use Rattle.session_input.specs.declared.refusal.NoInput.{NoInput}
use Rattle.session_input.specs.declared.refusal.NoInput.TheVariants.{Refused}
use Rattle.session_input.proofs.ReadLemmas.{comes_to-then_ok, comes_to-then_err, comes_to-split}
use Rattle.session_input.proofs.FaultLemmas.{in_text, in_lines, in_sources}
use Rattle.session_input.proofs.TextLemmas.{given_counts, refused_counts}
use Rattle.session_input.proofs.PairLemmas.{pairs_in_script, lines_in_script}
use Rattle.session_input.proofs.ScriptLemmas.{pairs_in-append}

-- ---- one script more

pub leads_text : (content : Bytes → Option Bytes) (texts : List (Bytes × Bytes)) (name text : Bytes) → ComesTo content (text_reading limit.ScriptBytes name) (Ok text)
    → Leads texts_reading content texts (texts ++ (name, text) ∷ []) (name ∷ [])
leads_text content texts name text own = record {
  leads = λ rest result comes. comes_to-then_ok content (λ t. texts_reading (texts ++ (name, t) ∷ []) rest) (text_reading limit.ScriptBytes name) text result own comes;
}

pub ends_text : (content : Bytes → Option Bytes) (texts : List (Bytes × Bytes)) (name : Bytes) (none : NoInput) → ComesTo {A = Bytes} content (text_reading limit.ScriptBytes name) (Err none)
    → Ends texts_reading content texts (name ∷ []) none
ends_text content texts name none own = record {
  ends = λ rest. comes_to-then_err content (λ t. texts_reading (texts ++ (name, t) ∷ []) rest) (text_reading limit.ScriptBytes name) none own;
}

pub leads_script : (content : Bytes → Option Bytes) (scripts : List Script) (named : Bytes × Bytes) (lines : List Line)
    → ComesTo content (lines_or_bad named.0 (lines_read kind.Client named.1)) (Ok lines) → Leads scripts_reading content scripts (scripts ++ record { lines = lines } ∷ []) (named ∷ [])
leads_script content scripts named lines own = record {
  leads = λ rest result comes.
      comes_to-then_ok content (λ ls. scripts_reading (scripts ++ record { lines = ls } ∷ []) rest) (lines_or_bad named.0 (lines_read kind.Client named.1)) lines result own comes;
}

pub ends_script : (content : Bytes → Option Bytes) (scripts : List Script) (named : Bytes × Bytes) (none : NoInput)
    → ComesTo {A = List Line} content (lines_or_bad named.0 (lines_read kind.Client named.1)) (Err none) → Ends scripts_reading content scripts (named ∷ []) none
ends_script content scripts named none own = record {
  ends = λ rest. comes_to-then_err content (λ ls. scripts_reading (scripts ++ record { lines = ls } ∷ []) rest) (lines_or_bad named.0 (lines_read kind.Client named.1)) none own;
}

-- ---- the whole

few_enough : (names : List Bytes) → length names ≤ most_of limit.Clients → nat_lt (most_of limit.Clients) (length names) ≡ false
few_enough names few = grind (arith, nat_tests)

too_many : (names : List Bytes) → most_of limit.Clients < length names → nat_lt (most_of limit.Clients) (length names) ≡ true
too_many names many = grind (arith, nat_tests)

pub refused_clients : (content : Bytes → Option Bytes) (names : List Bytes) → most_of limit.Clients < length names
    → ComesTo {A = List Script} content (clients_reading names) (Err (Refused (refusal.Limit limit.Clients (length names))))
refused_clients content names many = rw (too_many names many) (inl refl)

module _ (content later : Bytes → Option Bytes) (names : List Bytes) (few : length names ≤ most_of limit.Clients) where
  pub clients_end : (none : NoInput) → ComesTo {A = List Script} content (named_scripts names) (Err none) → ComesTo {A = List Script} content (clients_reading names) (Err none)
  clients_end none comes = rw (few_enough names few) (comes_to-then_err content scripts_with_sources (named_scripts names) none comes)

  module _ (scripts : List Script) (same : later ≡ content) (read : ComesTo content (named_scripts names) (Ok scripts)) where
    then_sources : (result : Result (List Script) NoInput) → ComesTo later (scripts_with_sources scripts) result → ComesTo content (clients_reading names) result
    then_sources result comes =
        rw (few_enough names few)
        (comes_to-then_ok content scripts_with_sources (named_scripts names) scripts result read (subst (λ (k : Bytes → Option Bytes). ComesTo k (scripts_with_sources scripts) result) same comes))

    pub client_sources_end : (none : NoInput) → ComesTo {A = Sources} later (sources_reading [] (pairs_in (lines_in scripts))) (Err none) → ComesTo {A = List Script} content (clients_reading names) (Err none)
    client_sources_end none comes =
        then_sources (Err none) (comes_to-then_err later (λ sources. scripts_within (map (script_with sources) scripts)) (sources_reading [] (pairs_in (lines_in scripts))) none comes)

    pub client_sources_lead : (sources : Sources) (result : Result (List Script) NoInput) → ComesTo later (sources_reading [] (pairs_in (lines_in scripts))) (Ok sources)
        → ComesTo later (scripts_within (map (script_with sources) scripts)) result → ComesTo content (clients_reading names) result
    client_sources_lead sources result first second =
        then_sources result
        (comes_to-then_ok later (λ found. scripts_within (map (script_with found) scripts)) (sources_reading [] (pairs_in (lines_in scripts))) sources result first second)

pub scripts_within_counts : (scripts : List Script) (content : Bytes → Option Bytes) (result : Result (List Script) NoInput) (before now : ℕ) (last : Option Bytes)
    → ComesTo content (scripts_within scripts) result → now ≡ before → CountsFaults result before now last
scripts_within_counts scripts content result before now last = by (passed_by (lines_in scripts)) where
  by : (passed : Option (Limit × ℕ)) → ComesTo content (unless_passed scripts passed) result → now ≡ before → CountsFaults result before now last
  by None = given_counts scripts content result before now last
  by (Some (limit, value)) = refused_counts (refusal.Limit limit value) content result before now last (λ is. is)

pub scripts_counts : (content : Bytes → Option Bytes) (scripts : List Script) (texts : List (Bytes × Bytes)) (result : Result (List Script) NoInput) (before now : ℕ) (last : Option Bytes)
    → ComesTo content (scripts_reading scripts texts) result → now ≡ before → CountsFaults result before now last
scripts_counts content scripts [] result before now last comes same = given_counts scripts content result before now last comes same
scripts_counts content scripts (named ∷ texts) result before now last comes same =
    by (lines_read kind.Client named.1) (λ lines. scripts_counts content (scripts ++ record { lines = lines } ∷ []) texts result before now last) comes same
  where
    by : (read : Result (List Line) ℕ) → ((lines : List Line) → ComesTo content (scripts_reading (scripts ++ record { lines = lines } ∷ []) texts) result → now ≡ before → CountsFaults result before now last)
        → ComesTo content (then_reads (λ lines. scripts_reading (scripts ++ record { lines = lines } ∷ []) texts) (lines_or_bad named.0 read)) result → now ≡ before → CountsFaults result before now last
    by (Ok lines) more = more lines
    by (Err number) more = refused_counts (refusal.BadScript named.0 number) content result before now last (λ is. is)

-- ---- what was read

-- a script whose lines are those of a text within the limit
pub record WasRead (script : Script) : Type 0 where
  pub text : Bytes
  pub small : length text ≤ most_of limit.ScriptBytes
  pub says : IsScript kind.Client text script.lines

abbrev AreSmall : List (Bytes × Bytes) → Type 0
AreSmall texts = AllByRecursion (λ (named : Bytes × Bytes). length named.1 ≤ most_of limit.ScriptBytes) texts

abbrev pub AreRead : List Script → Type 0
AreRead scripts = AllByRecursion WasRead scripts

pub ok_split : {A B : Type 0} (content : Bytes → Option Bytes) (more : A → Reading B) (reading : Reading A) (b : B) → ComesTo content (then_reads more reading) (Ok b)
    → (a : A) × ComesTo content reading (Ok a) × ComesTo content (more a) (Ok b)
ok_split content more (Gives a) b comes = (a, inl refl, comes)
ok_split content more (Refuses why) b (inl wrong) = cc
ok_split content more (Refuses why) b (inr wrong) = cc
ok_split content more (Reads limit name next) b (inl (inl wrong)) = cc
ok_split content more (Reads limit name next) b (inl (inr wrong)) = cc
ok_split content more (Reads limit name next) b (inr (bytes, begins, comes)) =
    let rest = ok_split content more (next bytes) b comes in (rest.0, inr (bytes, begins, rest.1), rest.2)

accepted_small : (content : Bytes → Option Bytes) (limit : Limit) (name bytes text : Bytes) → ComesTo content (accepted limit name bytes) (Ok text) → length text ≤ most_of limit
accepted_small content limit name bytes text = by (nat_lt (most_of limit) (length bytes)) (utf8_valid_len bytes == length bytes) refl where
  by : (long whole : Bool) → nat_lt (most_of limit) (length bytes) ≡ long
      → ComesTo content (cond long (Refuses (refusal.Limit limit (most_of limit + 1))) (cond whole (Gives bytes) (Refuses (refusal.NotUtf8 name (utf8_valid_len bytes))))) (Ok text) → length text ≤ most_of limit
  by true whole short (inl wrong) = cc
  by true whole short (inr wrong) = cc
  by false true short (inl same) =
      let e : text ≡ bytes = cc in
      let within : length bytes ≤ most_of limit = grind (arith, nat_tests) in
      subst (λ (b : Bytes). length b ≤ most_of limit) (sym e) within
  by false true short (inr wrong) = cc
  by false false short (inl wrong) = cc
  by false false short (inr wrong) = cc

text_small : (content : Bytes → Option Bytes) (limit : Limit) (name text : Bytes) → ComesTo content (text_reading limit name) (Ok text) → length text ≤ most_of limit
text_small content limit name text (inl (inl wrong)) = cc
text_small content limit name text (inl (inr wrong)) = cc
text_small content limit name text (inr (bytes, begins, comes)) = accepted_small content limit name bytes text comes

-- the texts of names: as many, and none is longer than a script may be
texts_read : (content : Bytes → Option Bytes) (names : List Bytes) (before texts : List (Bytes × Bytes)) → ComesTo content (texts_reading before names) (Ok texts) → AreSmall before
    → AreSmall texts × (length texts ≡ length before + length names)
texts_read content [] before texts (inl same) small =
    let e : texts ≡ before = cc in (subst AreSmall (sym e) small, ap length e ∙ (let z : length before ≡ length before + 0 = omega arith in z))
texts_read content [] before texts (inr wrong) small = cc
texts_read content (name ∷ names) before texts comes small =
    let read = ok_split content (λ text. texts_reading (before ++ (name, text) ∷ []) names) (text_reading limit.ScriptBytes name) texts comes in
    let rest = texts_read content names (before ++ (name, read.0) ∷ []) texts read.2
    (all_by_recursion_push (λ (named : Bytes × Bytes). length named.1 ≤ most_of limit.ScriptBytes) before (name, read.0) small (text_small content limit.ScriptBytes name read.0 read.1)) in
    (rest.0, rest.1 ∙ (let z : length (before ++ (name, read.0) ∷ []) + length names ≡ length before + length (name ∷ names) = omega (arith, length-append before ((name, read.0) ∷ [])) in z))

lines_are : (content : Bytes → Option Bytes) (name text : Bytes) (lines : List Line) → ComesTo content (lines_or_bad name (lines_read kind.Client text)) (Ok lines) → lines_read kind.Client text ≡ Ok lines
lines_are content name text lines = by (lines_read kind.Client text) where
  by : (read : Result (List Line) ℕ) → ComesTo content (lines_or_bad name read) (Ok lines) → read ≡ Ok lines
  by (Ok found) (inl same) = let e : lines ≡ found = cc in ap Ok (sym e)
  by (Ok found) (inr wrong) = cc
  by (Err number) (inl wrong) = cc
  by (Err number) (inr wrong) = cc

-- the scripts of texts: as many, and each is that of its text
scripts_read : (content : Bytes → Option Bytes) (texts : List (Bytes × Bytes)) (before scripts : List Script) → ComesTo content (scripts_reading before texts) (Ok scripts) → AreSmall texts → AreRead before
    → AreRead scripts × (length scripts ≡ length before + length texts)
scripts_read content [] before scripts (inl same) small are =
    let e : scripts ≡ before = cc in (subst AreRead (sym e) are, ap length e ∙ (let z : length before ≡ length before + 0 = omega arith in z))
scripts_read content [] before scripts (inr wrong) small are = cc
scripts_read content (named ∷ texts) before scripts comes small are =
    let read = ok_split content (λ lines. scripts_reading (before ++ record { lines = lines } ∷ []) texts) (lines_or_bad named.0 (lines_read kind.Client named.1)) scripts comes in
    let one : Script = record { lines = read.0 } in
    let rest = scripts_read content texts (before ++ one ∷ []) scripts read.2 small.1
    (all_by_recursion_push WasRead before one are
    (record { text = named.1; small = small.0; says = script_from_reading kind.Client named.1 read.0 (lines_are content named.0 named.1 read.0 read.1) })) in
    (rest.0, rest.1 ∙ (let z : length (before ++ one ∷ []) + length texts ≡ length before + length (named ∷ texts) = omega (arith, length-append before (one ∷ [])) in z))

pub were_read : (content : Bytes → Option Bytes) (names : List Bytes) (scripts : List Script) → ComesTo content (named_scripts names) (Ok scripts) → AreRead scripts × (length scripts ≡ length names)
were_read content names scripts comes =
    let read = ok_split content (scripts_reading []) (texts_reading [] names) scripts comes in
    let texts = texts_read content names [] read.0 read.1 tt in
    let found = scripts_read content read.0 [] scripts read.2 texts.0 tt in (found.0, (let e : length scripts ≡ length names = omega (arith, found.1, texts.1) in e))

-- ---- how much was read

few_pairs : (scripts : List Script) → AreRead scripts → length (pairs_in (lines_in scripts)) ≤ 4194304 * length scripts
few_pairs [] are = omega arith
few_pairs (script ∷ scripts) are =
    let own = pairs_in_script kind.Client are.0.text script.lines are.0.says in
    omega (arith, own, are.0.small, few_pairs scripts are.1, ap length (pairs_in-append script.lines (lines_in scripts)), length-append (pairs_in script.lines) (pairs_in (lines_in scripts)))

few_lines : (scripts : List Script) → AreRead scripts → length (lines_in scripts) ≤ 4194305 * length scripts
few_lines [] are = omega arith
few_lines (script ∷ scripts) are =
    let own = lines_in_script kind.Client are.0.text script.lines are.0.says in
    omega (arith, own, are.0.small, few_lines scripts are.1, length-append script.lines (lines_in scripts))

pub few_pairs_read : (content : Bytes → Option Bytes) (names : List Bytes) (scripts : List Script) → length names ≤ most_of limit.Clients → ComesTo content (named_scripts names) (Ok scripts)
    → length (pairs_in (lines_in scripts)) ≤ most_pairs
few_pairs_read content names scripts few comes = let read = were_read content names scripts comes in omega (arith, few_pairs scripts read.0, read.1)

pub few_lines_read : (content : Bytes → Option Bytes) (names : List Bytes) (scripts : List Script) → length names ≤ most_of limit.Clients → ComesTo content (named_scripts names) (Ok scripts)
    → length (lines_in scripts) < 2 ^ 64
few_lines_read content names scripts few comes = let read = were_read content names scripts comes in omega (arith, few_lines scripts read.0, read.1)

-- ---- a fault of reading names a script, or a path of one

in_texts : (content : Bytes → Option Bytes) (name : Bytes) (names : List Bytes) (before : List (Bytes × Bytes)) → ComesTo {A = List (Bytes × Bytes)} content (texts_reading before names) (Err (Refused (refusal.ReadFault name)))
    → IsOneOf names name
in_texts content name [] before (inl wrong) = cc
in_texts content name [] before (inr wrong) = cc
in_texts content name (of ∷ names) before come =
    elim (comes_to-split content (λ text. texts_reading (before ++ (of, text) ∷ []) names) (text_reading limit.ScriptBytes of) (Refused (refusal.ReadFault name)) come) [
      | inl own ↦ inl (in_text content limit.ScriptBytes of name own)
      | inr (text, own, later) ↦ inr (in_texts content name names (before ++ (of, text) ∷ []) later)
    ]

in_scripts : (content : Bytes → Option Bytes) (name : Bytes) (texts : List (Bytes × Bytes)) (before : List Script) → ComesTo {A = List Script} content (scripts_reading before texts) (Err (Refused (refusal.ReadFault name))) → ⊥
in_scripts content name [] before (inl wrong) = cc
in_scripts content name [] before (inr wrong) = cc
in_scripts content name (named ∷ texts) before come =
    elim (comes_to-split content (λ lines. scripts_reading (before ++ record { lines = lines } ∷ []) texts) (lines_or_bad named.0 (lines_read kind.Client named.1)) (Refused (refusal.ReadFault name)) come) [
      | inl own ↦ in_lines content named.0 name (lines_read kind.Client named.1) own
      | inr (lines, own, later) ↦ in_scripts content name texts (before ++ record { lines = lines } ∷ []) later
    ]

in_limits : (content : Bytes → Option Bytes) (name : Bytes) (scripts : List Script) → ComesTo {A = List Script} content (scripts_within scripts) (Err (Refused (refusal.ReadFault name))) → ⊥
in_limits content name scripts = by (passed_by (lines_in scripts)) where
  by : (passed : Option (Limit × ℕ)) → ComesTo {A = List Script} content (unless_passed scripts passed) (Err (Refused (refusal.ReadFault name))) → ⊥
  by None (inl wrong) = cc
  by None (inr wrong) = cc
  by (Some (limit, value)) (inl wrong) = cc
  by (Some (limit, value)) (inr wrong) = cc

pub fault_names_clients : (content : Bytes → Option Bytes) (names : List Bytes) (name : Bytes) → ComesTo {A = List Script} content (clients_reading names) (Err (Refused (refusal.ReadFault name))) → IsReadForClients content names name
fault_names_clients content names name = by (nat_lt (most_of limit.Clients) (length names)) where
  of_sources : (scripts : List Script) → ComesTo content (named_scripts names) (Ok scripts) → ComesTo {A = List Script} content (scripts_with_sources scripts) (Err (Refused (refusal.ReadFault name))) → IsReadForClients content names name
  of_sources scripts read come =
      elim (comes_to-split content (λ sources. scripts_within (map (script_with sources) scripts)) (sources_reading [] (pairs_in (lines_in scripts))) (Refused (refusal.ReadFault name)) come) [
        | inl own ↦ inr (scripts, read, in_sources content name (pairs_in (lines_in scripts)) [] own)
        | inr (sources, own, later) ↦ absurd (in_limits content name (map (script_with sources) scripts) later)
      ]

  of_named : ComesTo {A = List Script} content (named_scripts names) (Err (Refused (refusal.ReadFault name))) → IsReadForClients content names name
  of_named come =
      elim (comes_to-split content (scripts_reading []) (texts_reading [] names) (Refused (refusal.ReadFault name)) come) [
        | inl own ↦ inl (in_texts content name names [] own)
        | inr (texts, own, later) ↦ absurd (in_scripts content name texts [] later)
      ]

  by : (many : Bool) → ComesTo {A = List Script} content (cond many (Refuses (refusal.Limit limit.Clients (length names))) (then_reads scripts_with_sources (named_scripts names))) (Err (Refused (refusal.ReadFault name))) → IsReadForClients content names name
  by true (inl wrong) = cc
  by true (inr wrong) = cc
  by false come =
      elim (comes_to-split content scripts_with_sources (named_scripts names) (Refused (refusal.ReadFault name)) come) [
        | inl own ↦ of_named own
        | inr (scripts, own, later) ↦ of_sources scripts own later
      ]
