-- What was found of modifiers is as the grammar asks, whatever may stand behind it.
use Rattle.std.proofs.Common.{◌≡◌, true, List, [], ◌∷◌, ◌++◌, ap, ◌∙◌, append_assoc}
use Rattle.source_grammar.specs.Definitions.{Mod, mod_tokens, mod_list_tokens, annotations_tokens, ProperArguments, ProperModList, ProperAnnotations, ProperMods}
use Rattle.source_grammar.specs.Lexemes.{Lexeme}
use Rattle.source_grammar.specs.Newlines.{newline_before}
use Rattle.expr_laws.proofs.DefsDerived.{ReadAnnotation, arguments_of, annotations_of, mods_of, ordered, Found, bridges, read_mods}
use Rattle.expr_laws.proofs.ModsAlong.{mod-front}
use Rattle.expr_laws.proofs.Good.{is-no}

-- ---- annotations

-- these annotations, with others behind them
abbrev pub GoodAnnotations : List ReadAnnotation → Type 0
GoodAnnotations done =
    (rest : List ReadAnnotation) (after : List Lexeme) → ProperAnnotations (annotations_of rest) after → bridges [] done (newline_before (annotations_tokens (annotations_of rest) ++ after)) ≡ true
    → ProperAnnotations (annotations_of (ordered done rest)) after

pub no-annotations : GoodAnnotations []
no-annotations rest after p b = p

pub annotation-more : (a : ReadAnnotation) (done : List ReadAnnotation) → GoodAnnotations done → ProperArguments (arguments_of a.arguments) → bridges [] done a.sign.before ≡ true → GoodAnnotations (a ∷ done)
annotation-more a done g p b rest after q near = g (a ∷ rest) after (p, near, q) b

-- ---- modifiers

-- these modifiers, with others behind them, and what stands before the first of all
pub record GoodBehind (done mods : List Mod) (annotations : List ReadAnnotation) (after : List Lexeme) : Type 0 where
  pub proper : ProperModList (ordered done mods) after
  pub first : bridges [] annotations (newline_before (mod_list_tokens (ordered done mods) ++ after)) ≡ true

abbrev pub GoodModifiers : List Mod → List ReadAnnotation → Type 0
GoodModifiers done annotations =
    (mods : List Mod) (after : List Lexeme) → ProperModList mods after → bridges done annotations (newline_before (mod_list_tokens mods ++ after)) ≡ true → GoodBehind done mods annotations after

pub no-modifiers : (annotations : List ReadAnnotation) → GoodModifiers [] annotations
no-modifiers annotations mods after p b = record { proper = p; first = b }

pub modifier-more : (m : Mod) (done : List Mod) (annotations : List ReadAnnotation) → GoodModifiers done annotations → bridges done annotations (newline_before (mod_tokens m)) ≡ true
    → GoodModifiers (m ∷ done) annotations
modifier-more m done annotations g b mods after p joined =
    let there = g (m ∷ mods) after (is-no (newline_before (mod_list_tokens mods ++ after)) joined, p)
    (ap (bridges done annotations) (ap newline_before (append_assoc (mod_tokens m) (mod_list_tokens mods) after) ∙ mod-front m (mod_list_tokens mods ++ after)) ∙ b) in
    record { proper = there.proper; first = there.first }

-- ---- all that was found

pub record GoodFound (found : Found) : Type 0 where
  pub annotations : GoodAnnotations found.annotations
  pub modifiers : GoodModifiers found.mods found.annotations

pub begun-good : GoodFound (record { annotations = []; mods = [] })
begun-good = record { annotations = no-annotations; modifiers = no-modifiers [] }

-- behind modifiers that end here, where what follows may stand
pub found-proper : (found : Found) (after : List Lexeme) → GoodFound found → bridges found.mods found.annotations (newline_before after) ≡ true → ProperMods (mods_of (read_mods found)) after
found-proper found after g b =
    let mods = g.modifiers [] after tt b in
    (g.annotations [] (mod_list_tokens (ordered found.mods []) ++ after) tt mods.first, mods.proper)
