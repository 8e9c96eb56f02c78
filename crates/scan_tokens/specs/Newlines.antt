-- Before which tokens a newline counts (SLS 1.2).
use Rattle.std.specs.Prelude.{ℕ, ◌-◌, Bool, true, false, not, ◌||◌, ◌&&◌, ◌==◌, if◌then◌else◌, List, [], ◌∷◌, take, drop, slice_index}
use Rattle.pc_terms.specs.Bytes.{line_feed, open_round, close_round, open_square, close_square, open_curly, close_curly}
use Rattle.scan_tokens.specs.declared.tokens.Newline.{Newline}
use Rattle.scan_tokens.specs.declared.tokens.Newline.TheVariants.{No, One, Blank}
use Rattle.scan_tokens.specs.declared.tokens.Token.{Token}
use Rattle.scan_tokens.specs.declared.tokens.TokenKind.{TokenKind}
use Rattle.scan_tokens.specs.declared.tokens.TokenKind.TheVariants as kind
use Rattle.scan_tokens.specs.declared.roles.Bracket.{Bracket}
use Rattle.scan_tokens.specs.declared.roles.Bracket.TheVariants.{Round, Square, Curly}
use Rattle.scan_tokens.specs.declared.roles.Role.{Role}
use Rattle.scan_tokens.specs.declared.roles.Role.TheVariants.{Opens, Closes, Case, Template, Arrow, Continues, Ends, Begins}
use Rattle.scan_tokens.specs.declared.regions.Region.{Region}
use Rattle.scan_tokens.specs.declared.regions.Region.TheVariants.{Within, InCase}
use Rattle.scan_tokens.specs.Characters.{is_space}
use Rattle.scan_tokens.specs.Kinds.{is_among}
use Rattle.scan_tokens.specs.Words.{Bytes, ending_words, continuing_words, case_words, template_words, ending_signs, arrows, continuing_signs}

-- ---- what a token does in a line

unfoldable pub word_role : Bytes → Role
word_role word =
    if is_among ending_words word then Ends
    else (if is_among continuing_words word then Continues
    else (if is_among case_words word then Case
    else (if is_among template_words word then Template else Begins)))

unfoldable pub sign_role : Bytes → Role
sign_role sign =
    if is_among ending_signs sign then Ends
    else (if is_among arrows sign then Arrow
    else (if is_among continuing_signs sign then Continues else Begins))

-- a bracket, and else one of . , ;
unfoldable pub delimiter_role : Bytes → Role
delimiter_role delimiter =
    let b = slice_index delimiter 0 in
    if b == open_round then Opens Round else (if b == close_round then Closes Round
    else (if b == open_square then Opens Square else (if b == close_square then Closes Square
    else (if b == open_curly then Opens Curly else (if b == close_curly then Closes Curly else Continues)))))

abbrev pub role_of : TokenKind → Bytes → Role
role_of kind.Word bytes = word_role bytes
role_of kind.Sign bytes = sign_role bytes
role_of kind.Delimiter bytes = delimiter_role bytes
role_of kind.Error bytes = Begins
role_of _ bytes = Ends

abbrev pub can_end : Role → Bool
can_end Ends = true
can_end (Closes b) = true
can_end _ = false

-- [ and each closing bracket
abbrev pub stands_within : Role → Bool
stands_within (Opens Square) = true
stands_within (Closes b) = true
stands_within _ = false

-- an arrow, or a word or sign that goes on with what stands before it
abbrev pub goes_on : Role → Bool
goes_on Arrow = true
goes_on Continues = true
goes_on _ = false

-- `template` says that `class` or `object` follows
abbrev pub can_begin : Role → Bool → Bool
can_begin Case template = template
can_begin role template = not (stands_within role || goes_on role)

abbrev pub is_template : Role → Bool
is_template Template = true
is_template _ = false

-- ---- the regions that are open before a token, the innermost first

abbrev pub without_cases : List Region → List Region
without_cases [] = []
without_cases (InCase ∷ rs) = without_cases rs
without_cases (Within b ∷ rs) = Within b ∷ rs

abbrev pub closing_of : Bracket → ℕ
closing_of Round = close_round
closing_of Square = close_square
closing_of Curly = close_curly

abbrev pub same_bracket : Bracket → Bracket → Bool
same_bracket a b = closing_of a == closing_of b

abbrev pub without_bracket : Bracket → List Region → List Region
without_bracket b [] = []
without_bracket b (InCase ∷ rs) = InCase ∷ rs
without_bracket b (Within o ∷ rs) = if same_bracket o b then rs else Within o ∷ rs

abbrev pub without_case : List Region → List Region
without_case [] = []
without_case (InCase ∷ rs) = rs
without_case (Within b ∷ rs) = Within b ∷ rs

-- the regions after a token, before which these are open
abbrev pub turned : Role → Bool → List Region → List Region
turned (Opens b) template rs = Within b ∷ rs
turned (Closes b) template rs = without_bracket b (without_cases rs)
turned Arrow template rs = without_case rs
turned Case template rs = if template then rs else InCase ∷ rs
turned _ template rs = rs

abbrev pub enables : List Region → Bool
enables [] = true
enables (Within Curly ∷ rs) = true
enables _ = false

-- ---- the newlines

-- after white space alone a line ends
abbrev pub ends_line : Bytes → Bool
ends_line [] = false
ends_line (b ∷ bs) = b == line_feed || (is_space b && ends_line bs)

-- the newline that these bytes between two tokens make, where `found` is that of the bytes before them
abbrev pub newline_in : Newline → Bytes → Newline
newline_in found [] = found
newline_in found (b ∷ bs) = if b == line_feed then (if ends_line bs then Blank else newline_in One bs) else newline_in found bs

abbrev pub bytes_between : Bytes → ℕ → ℕ → Bytes
bytes_between text start end = take (end - start) (drop start text)

unfoldable pub role_at : Bytes → Token → Role
role_at text t = role_of t.kind (bytes_between text t.span.start t.span.end)

abbrev pub template_follows : Bytes → List Token → Bool
template_follows text [] = false
template_follows text (t ∷ ts) = is_template (role_at text t)

-- The tokens, with the newlines that count before them, where the token before them ends at `end` and can end a statement or not,
-- and these regions are open.
abbrev pub marked : Bytes → ℕ → Bool → List Region → List Token → List Token
marked text end ended rs [] = []
marked text end ended rs (t ∷ ts) =
    let role = role_at text t in
    let template = template_follows text ts in
    let counts = ended && can_begin role template && enables rs in
    record t { before = if counts then newline_in No (bytes_between text end t.span.start) else No }
    ∷ marked text t.span.end (can_end role) (turned role template rs) ts
