-- The texts of a map of files.
use Rattle.std.proofs.Common.{◌≡◌, Bool, true, false, cond, if◌then◌else◌, List, [], ◌∷◌, ◌++◌, map, filter, Option, Some, None, is_some, ◌||◌, refl, ap}
use Rattle.std.specs.Option.{option_map}
use Rattle.std.specs.Str.{bytes_eq}
use Rattle.std.specs.Map.{lookup, keys_of}
use Rattle.std.proofs.lemmas.Bool.{true≢false}
use Rattle.indexmap.specs.IndexMap.{insert_entry}
use Rattle.ask_history.specs.Sources.{Bytes, Sources, is_loaded, put_file, text_of}
use Rattle.compiler_loop.specs.declared.source.Source.{Source}
use Rattle.compiler_loop.specs.Loaded.{texts_of}

pub texts_of_insert : (files : List (Bytes × Source)) (name : Bytes) (source : Source)
    → texts_of (insert_entry bytes_eq files name source) ≡ put_file (texts_of files) (name, source.text)
texts_of_insert [] name source = refl
texts_of_insert (file ∷ files) name source =
    elim (bytes_eq name file.0) as (λ b. texts_of (cond b ((file.0, source) ∷ files) (file ∷ insert_entry bytes_eq files name source)) ≡ cond b ((file.0, source.text) ∷ texts_of files) ((file.0, file.1.text) ∷ put_file (texts_of files) (name, source.text)))
    [ true ↦ refl | false ↦ ap (λ rest. (file.0, file.1.text) ∷ rest) (texts_of_insert files name source) ]

pub text_of_lookup : (files : List (Bytes × Source)) (name : Bytes)
    → text_of (texts_of files) name ≡ option_map (λ source. source.text) (lookup (bytes_eq name) files)
text_of_lookup [] name = refl
text_of_lookup (file ∷ files) name =
    elim (bytes_eq name file.0) as (λ b. cond b (Some file.1.text) (text_of (texts_of files) name) ≡ option_map (λ source. source.text) (cond b (Some file.1) (lookup (bytes_eq name) files)))
    [ true ↦ refl | false ↦ text_of_lookup files name ]

pub is_loaded_lookup : (files : List (Bytes × Source)) (name : Bytes)
    → is_loaded (texts_of files) name ≡ is_some (lookup (bytes_eq name) files)
is_loaded_lookup [] name = refl
is_loaded_lookup (file ∷ files) name =
    elim (bytes_eq name file.0) as (λ b. (b || is_loaded (texts_of files) name) ≡ is_some (cond b (Some file.1) (lookup (bytes_eq name) files)))
    [ true ↦ refl | false ↦ is_loaded_lookup files name ]

without_text : (b : Bool) (text : Bytes) (loaded : Bool) (rest : Option Bytes) → (loaded ≡ false → rest ≡ None) → (b || loaded) ≡ false → cond b (Some text) rest ≡ None
without_text true text loaded rest absent h = absurd (true≢false h)
without_text false text loaded rest absent h = absent h

pub text_of_absent : (files : Sources) (name : Bytes) → is_loaded files name ≡ false → text_of files name ≡ None
text_of_absent [] name h = refl
text_of_absent (file ∷ files) name h = without_text (bytes_eq name file.0) file.1 (is_loaded files name) (text_of files name) (text_of_absent files name) h

-- ---- the names of a map of files

pub names_of_texts : (files : List (Bytes × Source)) → map (λ file. file.0) (texts_of files) ≡ keys_of files
names_of_texts [] = refl
names_of_texts (file ∷ files) = ap (λ names. file.0 ∷ names) (names_of_texts files)

-- a name is put behind a first one and others
behind : (first name : Bytes) (loaded : Bool) (rest names : List Bytes) → rest ≡ (if loaded then names else names ++ name ∷ [])
    → first ∷ rest ≡ (if loaded then first ∷ names else first ∷ names ++ name ∷ [])
behind first name true rest names e = ap (λ ns. first ∷ ns) e
behind first name false rest names e = ap (λ ns. first ∷ ns) e

pub keys_of_insert : (files : List (Bytes × Source)) (name : Bytes) (source : Source)
    → keys_of (insert_entry bytes_eq files name source) ≡ (if is_some (lookup (bytes_eq name) files) then keys_of files else keys_of files ++ name ∷ [])
keys_of_insert [] name source = refl
keys_of_insert (file ∷ files) name source =
    elim (bytes_eq name file.0) as (λ b. keys_of (cond b ((file.0, source) ∷ files) (file ∷ insert_entry bytes_eq files name source)) ≡ (if is_some (cond b (Some file.1) (lookup (bytes_eq name) files)) then file.0 ∷ keys_of files else file.0 ∷ keys_of files ++ name ∷ []))
    [ true ↦ refl | false ↦ behind file.0 name (is_some (lookup (bytes_eq name) files)) _ (keys_of files) (keys_of_insert files name source) ]

pub keys_of_filter : (test : Bytes → Bool) (files : List (Bytes × Source)) → keys_of (filter (λ file. test file.0) files) ≡ filter test (keys_of files)
keys_of_filter test [] = refl
keys_of_filter test (file ∷ files) =
    elim (test file.0) as (λ b. keys_of (cond b (file ∷ filter (λ file. test file.0) files) (filter (λ file. test file.0) files)) ≡ cond b (file.0 ∷ filter test (keys_of files)) (filter test (keys_of files)))
    [ true ↦ ap (λ names. file.0 ∷ names) (keys_of_filter test files) | false ↦ keys_of_filter test files ]

pub texts_of_filter : (test : Bytes → Bool) (files : List (Bytes × Source)) → texts_of (filter (λ file. test file.0) files) ≡ filter (λ file. test file.0) (texts_of files)
texts_of_filter test [] = refl
texts_of_filter test (file ∷ files) =
    elim (test file.0) as (λ b. texts_of (cond b (file ∷ filter (λ file. test file.0) files) (filter (λ file. test file.0) files)) ≡ cond b ((file.0, file.1.text) ∷ filter (λ file. test file.0) (texts_of files)) (filter (λ file. test file.0) (texts_of files)))
    [ true ↦ ap (λ rest. (file.0, file.1.text) ∷ rest) (texts_of_filter test files) | false ↦ texts_of_filter test files ]
