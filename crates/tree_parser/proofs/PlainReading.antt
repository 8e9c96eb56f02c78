-- Where the braces of a body are read as those of an expression too.
use Rattle.std.proofs.Common.{◌≡◌, ℕ, ◌+◌, ◌-◌, ◌≤◌, nat_le, true, false, not, ◌&&◌, if◌then◌else◌, List, map, take, drop, None, sym, ap, ◌∙◌}
use Rattle.std.proofs.lemmas.Bool.{le-leb}
use Rattle.std.proofs.lemmas.List.{drop-map, take-map}
use Rattle.scan_tokens.specs.Words.{Bytes}
use Rattle.scan_tokens.specs.declared.tokens.Token.{Token}
use Rattle.source_grammar.specs.Lexemes.{lexeme_of}
use Rattle.template_steps.specs.Statements.{is_unit}
use Rattle.template_steps.specs.declared.statements.ListKind.{ListKind}
use Rattle.tree_parser.specs.Levels.{plain_reading}
use Rattle.tree_parser.specs.Plain.{plain_braces}
use Rattle.tree_parser.specs.declared.levels.Place.{Place}

pub read_as_plain : (text : Bytes) (tokens part : List Token) (place : Place) (at : ℕ) (outer : ListKind)
    → place.parted ≡ true → is_unit outer ≡ false → place.token ≤ at
    → part ≡ take (at + 1 - place.token) (drop place.token tokens)
    → plain_braces place.opening (map (lexeme_of text) part) ≡ plain_reading (map (lexeme_of text) tokens) place at outer
read_as_plain text tokens part place at outer parted inside before is =
    let there : nat_le place.token at ≡ true = le-leb place.token at before in
    ap (λ l. plain_braces place.opening (map (lexeme_of text) l)) is
    ∙ ap (plain_braces place.opening) (sym (ap (take (at + 1 - place.token)) (drop-map (lexeme_of text) place.token tokens) ∙ take-map (lexeme_of text) (at + 1 - place.token) (drop place.token tokens)))
    ∙ sym (λ i. if parted i && not (inside i) && there i then plain_braces place.opening (take (at + 1 - place.token) (drop place.token (map (lexeme_of text) tokens))) else None)
