-- Levels, one token after another.
use Rattle.std.proofs.Common.{◌≡◌, ℕ, suc, ◌+◌, ◌<◌, ◌≤◌, List, length, get_or, map, drop, drop-cons, add-one, sym, ap, ◌∙◌}
use Rattle.std.proofs.lemmas.List.{drop-map, drop_all}
use Rattle.scan_tokens.specs.Words.{Bytes}
use Rattle.scan_tokens.specs.declared.tokens.Token.{Token}
use Rattle.source_grammar.specs.Lexemes.{Lexeme, lexeme_of}
use Rattle.tree_parser.specs.Levels.{Levels, step, steps}

pub stepped_on : (text : Bytes) (tokens : List Token) (at : ℕ) (d : Token) (ls next : Levels) → at < length tokens
    → next ≡ step (map (lexeme_of text) tokens) ls (lexeme_of text (get_or tokens at d)) at
    → steps (map (lexeme_of text) tokens) ls at (drop at (map (lexeme_of text) tokens))
    ≡ steps (map (lexeme_of text) tokens) next (at + 1) (drop (at + 1) (map (lexeme_of text) tokens))
stepped_on text tokens at d ls next below is =
    ap (steps xs ls at) (drop-map (lexeme_of text) at tokens ∙ ap (map (lexeme_of text)) (drop-cons tokens at d below))
    ∙ ap (λ l. steps xs l (at + 1) (map (lexeme_of text) (drop (suc at) tokens))) (sym is)
    ∙ ap (steps xs next (at + 1)) (ap (λ n. map (lexeme_of text) (drop n tokens)) (sym (add-one at)) ∙ sym (drop-map (lexeme_of text) (at + 1) tokens))
  where
    xs : List Lexeme
    xs = map (lexeme_of text) tokens

pub stepped_all : (text : Bytes) (tokens : List Token) (at : ℕ) (ls : Levels) → length tokens ≤ at
    → steps (map (lexeme_of text) tokens) ls at (drop at (map (lexeme_of text) tokens)) ≡ ls
stepped_all text tokens at ls all =
    ap (steps (map (lexeme_of text) tokens) ls at) (drop-map (lexeme_of text) at tokens ∙ ap (map (lexeme_of text)) (drop_all at tokens all))
