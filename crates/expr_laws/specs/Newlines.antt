-- After which tokens a newline counts (SLS 1.2).
use Rattle.std.specs.Prelude.{◌≡◌, Bool, true, not, ◌&&◌, ◌||◌, List, [], ◌∷◌}
use Rattle.scan_tokens.specs.Newlines.{can_end}
use Rattle.source_grammar.specs.Brackets.{has_newline, role}
use Rattle.source_grammar.specs.Lexemes.{Lexeme}

-- A newline counts before one of these tokens only where the token before it can end a statement; `ended` says so of the one before the first.
abbrev pub newlines_end : (ended : Bool) → List Lexeme → Bool
newlines_end ended [] = true
newlines_end ended (x ∷ xs) = (ended || not (has_newline x.place.before)) && newlines_end (can_end (role x)) xs

-- Each newline that counts stands after a token that can end a statement. What stands before the first token is not asked.
abbrev pub NewlinesEnd : List Lexeme → Type 0
NewlinesEnd xs = newlines_end true xs ≡ true

-- whether the last of these tokens can end a statement; `ended` says so of the token before them
abbrev pub ended_by : (ended : Bool) → List Lexeme → Bool
ended_by ended [] = ended
ended_by ended (x ∷ xs) = ended_by (can_end (role x)) xs
