-- What tokens do as brackets.
use Rattle.std.proofs.Common.{◌≡◌, ℕ, suc, ◌+◌, ◌-◌, ◌<◌, max, Bool, true, false, not, if◌then◌else◌, List, [], ◌∷◌, length, get_or, map, drop, drop-cons, add-one, Option, Some, None, refl, sym, ap, ◌∙◌, arith}
use Rattle.std.specs.Option.{option_map}
use Rattle.pc_terms.specs.declared.problems.Span.{Span}
use Rattle.parse_parts.specs.Steps.{first}
use Rattle.scan_tokens.specs.declared.roles.Bracket.TheVariants as scanned
use Rattle.scan_tokens.specs.declared.roles.Role.{Role as ScannedRole}
use Rattle.scan_tokens.specs.declared.roles.Role.TheVariants as scanned_role
use Rattle.scan_tokens.specs.declared.tokens.Token.{Token}
use Rattle.scan_tokens.specs.declared.tokens.TokenKind.{TokenKind}
use Rattle.scan_tokens.specs.declared.tokens.TokenKind.TheVariants as kind
use Rattle.scan_tokens.specs.Kinds.{is_among}
use Rattle.scan_tokens.specs.Newlines.{role_of, word_role, sign_role}
use Rattle.scan_tokens.specs.Words.{Bytes, ending_words, continuing_words, case_words, template_words, ending_signs, arrows, continuing_signs}
use Rattle.source_grammar.specs.Brackets.{Opened, role, closes_wrongly, opened_after, open_after, unmatched, most_open, matches, without_first, left_open, is_delimiter_kind}
use Rattle.source_grammar.specs.Lexemes.{lexeme_of}
use Rattle.tree_parser.specs.Bracketed.{bracket_role, scanned_by, all_opened}
use Rattle.tree_parser.specs.declared.brackets.Bracket.{Bracket}
use Rattle.tree_parser.specs.declared.brackets.Bracket.TheVariants as bracket
use Rattle.tree_parser.specs.declared.brackets.Opened.{Opened as Written}
use Rattle.tree_parser.specs.declared.brackets.Role.TheVariants.{Opens, Closes, Other}

-- ---- words and signs

of_words : (a b c d : Bool) → bracket_role (if a then scanned_role.Ends else (if b then scanned_role.Continues
    else (if c then scanned_role.Case else (if d then scanned_role.Template else scanned_role.Begins)))) ≡ Other
of_words true b c d = refl
of_words false true c d = refl
of_words false false true d = refl
of_words false false false true = refl
of_words false false false false = refl

of_word : (word : Bytes) → bracket_role (word_role word) ≡ Other
unfolding word_role
of_word word = of_words (is_among ending_words word) (is_among continuing_words word) (is_among case_words word) (is_among template_words word)

of_signs : (a b c : Bool) → bracket_role (if a then scanned_role.Ends else (if b then scanned_role.Arrow
    else (if c then scanned_role.Continues else scanned_role.Begins))) ≡ Other
of_signs true b c = refl
of_signs false true c = refl
of_signs false false true = refl
of_signs false false false = refl

of_sign : (sign : Bytes) → bracket_role (sign_role sign) ≡ Other
unfolding sign_role
of_sign sign = of_signs (is_among ending_signs sign) (is_among arrows sign) (is_among continuing_signs sign)

pub of_other : (k : TokenKind) (word : Bytes) → is_delimiter_kind k ≡ false → bracket_role (role_of k word) ≡ Other
of_other kind.Word word e = of_word word
of_other kind.Sign word e = of_sign word
of_other kind.Delimiter word e = cc
of_other _ word e = refl

pub of_delimiter : (k : TokenKind) (word : Bytes) → is_delimiter_kind k ≡ true → role_of k word ≡ role_of kind.Delimiter word
of_delimiter kind.Delimiter word e = refl
of_delimiter _ word e = cc

-- ---- what is open behind a token

pub opens_wrongly : (r : ScannedRole) (b : Bracket) (os : List Opened) → bracket_role r ≡ Opens b → closes_wrongly r os ≡ false
opens_wrongly (scanned_role.Closes c) b os e = cc
opens_wrongly _ b os e = refl

pub opens_after : (r : ScannedRole) (b : Bracket) (span : Span) (os : List Opened) → bracket_role r ≡ Opens b
    → opened_after r span os ≡ record { bracket = scanned_by b; span = span } ∷ os
opens_after (scanned_role.Opens scanned.Round) bracket.Round span os e = refl
opens_after (scanned_role.Opens scanned.Square) bracket.Square span os e = refl
opens_after (scanned_role.Opens scanned.Curly) bracket.Curly span os e = refl
opens_after _ _ span os e = cc

pub closes_as : (r : ScannedRole) (b : Bracket) (os : List Opened) → bracket_role r ≡ Closes b → closes_wrongly r os ≡ not (matches (scanned_by b) os)
closes_as (scanned_role.Closes scanned.Round) bracket.Round os e = refl
closes_as (scanned_role.Closes scanned.Square) bracket.Square os e = refl
closes_as (scanned_role.Closes scanned.Curly) bracket.Curly os e = refl
closes_as _ _ os e = cc

pub closes_after : (r : ScannedRole) (b : Bracket) (span : Span) (os : List Opened) → bracket_role r ≡ Closes b → opened_after r span os ≡ without_first os
closes_after (scanned_role.Closes c) b span os e = refl
closes_after _ b span os e = cc

pub other_wrongly : (r : ScannedRole) (os : List Opened) → bracket_role r ≡ Other → closes_wrongly r os ≡ false
other_wrongly (scanned_role.Closes c) os e = cc
other_wrongly _ os e = refl

pub other_after : (r : ScannedRole) (span : Span) (os : List Opened) → bracket_role r ≡ Other → opened_after r span os ≡ os
other_after (scanned_role.Opens c) span os e = cc
other_after (scanned_role.Closes c) span os e = cc
other_after _ span os e = refl

-- ---- the outermost one

abbrev pub span_in : Written → Span
span_in o = o.span

pub left_open-last : (os : List Written) → left_open (all_opened os) ≡ option_map span_in (first (drop (length os - 1) os))
left_open-last [] = refl
left_open-last (o ∷ []) = refl
left_open-last (o ∷ next ∷ os) =
    let e : length (o ∷ next ∷ os) - 1 ≡ suc (length (next ∷ os) - 1) = omega arith in
    rw e (left_open-last (next ∷ os))

-- ---- one token after another

pub passed_wrongly : (text : Bytes) (tokens : List Token) (at : ℕ) (d : Token) (os : List Opened) → at < length tokens
    → closes_wrongly (role (lexeme_of text (get_or tokens at d))) os ≡ true
    → unmatched os (map (lexeme_of text) (drop at tokens)) ≡ Some (get_or tokens at d).span
unfolding lexeme_of
passed_wrongly text tokens at d os below wrong = rw (drop-cons tokens at d below, wrong) refl

pub passed_unmatched : (text : Bytes) (tokens : List Token) (at : ℕ) (d : Token) (os behind : List Opened) → at < length tokens
    → closes_wrongly (role (lexeme_of text (get_or tokens at d))) os ≡ false → behind ≡ open_after (lexeme_of text (get_or tokens at d)) os
    → unmatched os (map (lexeme_of text) (drop at tokens)) ≡ unmatched behind (map (lexeme_of text) (drop (at + 1) tokens))
passed_unmatched text tokens at d os behind below right is =
    ap (λ l. unmatched os (map (lexeme_of text) l)) (drop-cons tokens at d below)
    ∙ ap (λ b. if b then Some (lexeme_of text (get_or tokens at d)).place.span else unmatched (open_after (lexeme_of text (get_or tokens at d)) os) (map (lexeme_of text) (drop (suc at) tokens))) right
    ∙ ap (λ l. unmatched l (map (lexeme_of text) (drop (suc at) tokens))) (sym is)
    ∙ ap (λ n. unmatched behind (map (lexeme_of text) (drop n tokens))) (sym (add-one at))

pub passed_open : (text : Bytes) (tokens : List Token) (at : ℕ) (d : Token) (os behind : List Opened) → at < length tokens
    → behind ≡ open_after (lexeme_of text (get_or tokens at d)) os
    → most_open os (map (lexeme_of text) (drop at tokens)) ≡ max (length os) (most_open behind (map (lexeme_of text) (drop (at + 1) tokens)))
passed_open text tokens at d os behind below is =
    ap (λ l. most_open os (map (lexeme_of text) l)) (drop-cons tokens at d below)
    ∙ ap (λ l. max (length os) (most_open l (map (lexeme_of text) (drop (suc at) tokens)))) (sym is)
    ∙ ap (λ n. max (length os) (most_open behind (map (lexeme_of text) (drop n tokens)))) (sym (add-one at))
