-- What stands behind some tokens.
use Rattle.std.proofs.Common.{◌≡◌, ℕ, ◌-◌, ◌<◌, ◌≤◌, List, [], ◌∷◌, length, get_or, map, take, drop, true, if◌then◌else◌, refl, sym, ap, ◌∙◌, subst, arith}
use Rattle.std.specs.List.{All}
use Rattle.std.proofs.lemmas.List.{drop-map}
use Rattle.std.proofs.lemmas.List.Elements.{All-drop}
use Rattle.parse_parts.proofs.Places.{behind-all}
use Rattle.parse_parts.specs.Words.{IsCut}
use Rattle.expr_steps.specs.Steps.{name_of}
use Rattle.scan_tokens.specs.Words.{Bytes}
use Rattle.scan_tokens.specs.declared.tokens.Token.{Token}
use Rattle.source_grammar.specs.Lexemes.{lexeme_of}
use Rattle.tree_parser.specs.Packaged.{is_step, names_in}

pub rest_is : (text : Bytes) (tokens : List Token) (at : ℕ) → map (lexeme_of text) (take (length tokens - at) (drop at tokens)) ≡ drop at (map (lexeme_of text) tokens)
rest_is text tokens at = ap (map (lexeme_of text)) (behind-all tokens tokens at refl) ∙ sym (drop-map (lexeme_of text) at tokens)

pub rest_cut : (text : Bytes) (tokens : List Token) (at : ℕ) → All (IsCut text) tokens → All (IsCut text) (take (length tokens - at) (drop at tokens))
rest_cut text tokens at cut = subst (All (IsCut text)) (sym (behind-all tokens tokens at refl)) (All-drop (IsCut text) at tokens cut)

pub step_on : (text : Bytes) (rest : List Token) (d : Token) → 2 ≤ length rest → is_step (map (lexeme_of text) rest) ≡ true
    → names_in (map (lexeme_of text) rest) ≡ name_of (lexeme_of text (get_or rest 1 d)) ∷ names_in (map (lexeme_of text) (take (length rest - 2) (drop 2 rest)))
step_on text [] d some step = absurd (omega (arith, some))
step_on text (a ∷ []) d some step = absurd (omega (arith, some))
step_on text (a ∷ b ∷ ts) d some step =
    ap (λ is. if is then name_of (lexeme_of text b) ∷ names_in (map (lexeme_of text) ts) else []) step
    ∙ ap (λ l. name_of (lexeme_of text b) ∷ names_in (map (lexeme_of text) l)) (sym (behind-all (a ∷ b ∷ ts) (a ∷ b ∷ ts) 2 refl))

pub no_step : (text : Bytes) (rest : List Token) → length rest < 2 → names_in (map (lexeme_of text) rest) ≡ []
no_step text [] few = refl
no_step text (a ∷ []) few = refl
no_step text (a ∷ b ∷ ts) few = absurd (omega (arith, few))
