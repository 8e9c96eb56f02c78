-- What a token is to the machine of definitions is told by what it is to the reader.
use Rattle.std.proofs.Common.{◌≡◌, ℕ, Bool, true, false, ◌||◌, if◌then◌else◌, [], ◌∷◌, Option, Some, None, codes, refl, ap, sym, ◌∙◌, subst}
use Rattle.std.proofs.lemmas.Slice.Eq.{bytes_eq-Decides}
use Rattle.std.specs.Str.{bytes_eq}
use Rattle.scan_tokens.specs.declared.roles.Bracket.TheVariants.{Round, Square, Curly}
use Rattle.scan_tokens.specs.declared.roles.Role.{Role}
use Rattle.scan_tokens.specs.declared.roles.Role.TheVariants.{Opens, Closes, Case, Template, Continues, Ends, Begins}
use Rattle.scan_tokens.specs.declared.roles.Role.TheVariants as written
use Rattle.scan_tokens.specs.declared.tokens.TokenKind.{TokenKind}
use Rattle.scan_tokens.specs.declared.tokens.TokenKind.TheVariants as kind
use Rattle.scan_tokens.specs.Kinds.{is_among}
use Rattle.scan_tokens.specs.Newlines.{word_role, sign_role, delimiter_role, role_of}
use Rattle.scan_tokens.specs.Words.{Bytes, ending_words, continuing_words, case_words, template_words, ending_signs, arrows, continuing_signs}
use Rattle.source_grammar.specs.Brackets.{role}
use Rattle.source_grammar.specs.Lexemes.{Lexeme}
use Rattle.expr_tails.specs.declared.symbols.Symbol.{Symbol}
use Rattle.expr_tails.specs.declared.symbols.Symbol.TheVariants as symbol
use Rattle.expr_tails.specs.declared.symbols.Word.{Word}
use Rattle.expr_tails.specs.Symbols.{is_arrow, is_back_arrow, sign_symbol, delimiter_symbol, word_or, word_or_other, is_literal_word, first_written, control_words, definition_words, symbol_of}
use Rattle.expr_laws.specs.Definitions.{is_level_word, is_level_token}
use Rattle.expr_laws.proofs.DefsDerived.{Mark, AnAt, ALowerBound, AnUpperBound, Plain, mark}
use Rattle.expr_laws.proofs.Seen.{seen_as}

-- what a token of this symbol is to the machine
abbrev pub marked_as : Symbol → Lexeme → Mark
marked_as symbol.At x = AnAt x.place
marked_as symbol.LowerBound x = ALowerBound x.place
marked_as symbol.UpperBound x = AnUpperBound x.place
marked_as y x = Plain (seen_as y x)

-- ---- signs

written-so : (word text : Bytes) (y : Symbol) → sign_symbol text ≡ y → bytes_eq word text ≡ true → sign_symbol word ≡ y
written-so word text y s e = ap sign_symbol ((bytes_eq-Decides word text).0 e) ∙ s

-- a sign that stands in expressions too
plain-sign : (x : Lexeme) (a b c d e f g h : Bool) → f ≡ false → g ≡ false → h ≡ false →
    let y : Symbol = if a then symbol.Arrow else (if b then symbol.BackArrow else (if c then symbol.Underscore else (if d then symbol.Colon
    else (if e then symbol.Equals else (if f then symbol.At else (if g then symbol.LowerBound else (if h then symbol.UpperBound else symbol.Other))))))) in
    Plain (seen_as y x) ≡ marked_as y x
plain-sign x true b c d e f g h i j k = refl
plain-sign x false true c d e f g h i j k = refl
plain-sign x false false true d e f g h i j k = refl
plain-sign x false false false true e f g h i j k = refl
plain-sign x false false false false true f g h i j k = refl
plain-sign x false false false false false true g h i j k = cc
plain-sign x false false false false false false true h i j k = cc
plain-sign x false false false false false false false true i j k = cc
plain-sign x false false false false false false false false i j k = refl

sign-marked : (word : Bytes) (x : Lexeme) → let y = sign_symbol word in
    (if bytes_eq word (codes "@") then AnAt x.place else (if bytes_eq word (codes ">:") then ALowerBound x.place else (if bytes_eq word (codes "<:") then AnUpperBound x.place else Plain (seen_as y x))))
    ≡ marked_as y x
sign-marked word x = go (bytes_eq word (codes "@")) (bytes_eq word (codes ">:")) (bytes_eq word (codes "<:")) refl refl refl where
  go : (a b c : Bool) → bytes_eq word (codes "@") ≡ a → bytes_eq word (codes ">:") ≡ b → bytes_eq word (codes "<:") ≡ c
      → (if a then AnAt x.place else (if b then ALowerBound x.place else (if c then AnUpperBound x.place else Plain (seen_as (sign_symbol word) x)))) ≡ marked_as (sign_symbol word) x
  go true b c e f g = ap (λ y. marked_as y x) (sym (written-so word (codes "@") symbol.At refl e))
  go false true c e f g = ap (λ y. marked_as y x) (sym (written-so word (codes ">:") symbol.LowerBound refl f))
  go false false true e f g = ap (λ y. marked_as y x) (sym (written-so word (codes "<:") symbol.UpperBound refl g))
  go false false false e f g =
      plain-sign x (is_arrow word) (is_back_arrow word) (bytes_eq word (codes "_")) (bytes_eq word (codes ":")) (bytes_eq word (codes "="))
      (bytes_eq word (codes "@")) (bytes_eq word (codes ">:")) (bytes_eq word (codes "<:")) e f g

-- ---- words and delimiters

word-marked : (x : Lexeme) (b : Bool) (o p : Option Word) → let y : Symbol = if b then symbol.Literal else word_or o (word_or_other p) in Plain (seen_as y x) ≡ marked_as y x
word-marked x true o p = refl
word-marked x false (Some w) p = refl
word-marked x false None (Some w) = refl
word-marked x false None None = refl

delimiter-marked : (x : Lexeme) (a b c d e f g h i : Bool) →
    let y : Symbol = if a then symbol.OpenRound else (if b then symbol.CloseRound else (if c then symbol.OpenSquare else (if d then symbol.CloseSquare else (if e then symbol.OpenCurly
    else (if f then symbol.CloseCurly else (if g then symbol.Comma else (if h then symbol.Dot else (if i then symbol.Semicolon else symbol.Other)))))))) in
    Plain (seen_as y x) ≡ marked_as y x
delimiter-marked x true b c d e f g h i = refl
delimiter-marked x false true c d e f g h i = refl
delimiter-marked x false false true d e f g h i = refl
delimiter-marked x false false false true e f g h i = refl
delimiter-marked x false false false false true f g h i = refl
delimiter-marked x false false false false false true g h i = refl
delimiter-marked x false false false false false false true h i = refl
delimiter-marked x false false false false false false false true i = refl
delimiter-marked x false false false false false false false false true = refl
delimiter-marked x false false false false false false false false false = refl

pub mark-as : (x : Lexeme) → mark x ≡ marked_as (symbol_of x.kind x.word) x
unfolding symbol_of
mark-as x = go x.kind where
  go : (k : TokenKind) → let z : Lexeme = record { kind = k; word = x.word; place = x.place } in mark z ≡ marked_as (symbol_of k x.word) z
  go kind.Sign = sign-marked x.word (record { kind = kind.Sign; word = x.word; place = x.place })
  go kind.Word = word-marked (record { kind = kind.Word; word = x.word; place = x.place }) (is_literal_word x.word) (first_written control_words x.word) (first_written definition_words x.word)
  go kind.Delimiter =
      delimiter-marked (record { kind = kind.Delimiter; word = x.word; place = x.place }) (bytes_eq x.word (codes "(")) (bytes_eq x.word (codes ")")) (bytes_eq x.word (codes "[")) (bytes_eq x.word (codes "]"))
      (bytes_eq x.word (codes "{")) (bytes_eq x.word (codes "}")) (bytes_eq x.word (codes ",")) (bytes_eq x.word (codes ".")) (bytes_eq x.word (codes ";"))
  go _ = refl

-- ---- brackets

-- what a token does as a bracket, as the reader sees it
abbrev pub bracket_role : Symbol → Option Role
bracket_role symbol.OpenRound = Some (Opens Round)
bracket_role symbol.CloseRound = Some (Closes Round)
bracket_role symbol.OpenSquare = Some (Opens Square)
bracket_role symbol.CloseSquare = Some (Closes Square)
bracket_role symbol.OpenCurly = Some (Opens Curly)
bracket_role symbol.CloseCurly = Some (Closes Curly)
bracket_role _ = None

abbrev pub role_as_bracket : Role → Option Role
role_as_bracket (Opens b) = Some (Opens b)
role_as_bracket (Closes b) = Some (Closes b)
role_as_bracket _ = None

abbrev pub is_curly_symbol : Symbol → Bool
is_curly_symbol symbol.OpenCurly = true
is_curly_symbol symbol.CloseCurly = true
is_curly_symbol _ = false

-- the reader sees the bracket that the grammar sees, and none of braces
pub record Bracketed (r : Role) (y : Symbol) : Type 0 where
  pub agree : role_as_bracket r ≡ bracket_role y
  pub plain : is_curly_symbol y ≡ false

no-bracket : (r : Role) (y : Symbol) → role_as_bracket r ≡ None → bracket_role y ≡ None → is_curly_symbol y ≡ false → Bracketed r y
no-bracket r y e f g = record { agree = e ∙ sym f; plain = g }

word-role : (a b c d : Bool) → role_as_bracket (if a then Ends else (if b then Continues else (if c then Case else (if d then Template else Begins)))) ≡ None
word-role true b c d = refl
word-role false true c d = refl
word-role false false true d = refl
word-role false false false true = refl
word-role false false false false = refl

sign-role : (a b c : Bool) → role_as_bracket (if a then Ends else (if b then written.Arrow else (if c then Continues else Begins))) ≡ None
sign-role true b c = refl
sign-role false true c = refl
sign-role false false true = refl
sign-role false false false = refl

word-bracket : (r : Role) → role_as_bracket r ≡ None → (b : Bool) (o p : Option Word) → Bracketed r (if b then symbol.Literal else word_or o (word_or_other p))
word-bracket r e true o p = no-bracket r _ e refl refl
word-bracket r e false (Some w) p = no-bracket r _ e refl refl
word-bracket r e false None (Some w) = no-bracket r _ e refl refl
word-bracket r e false None None = no-bracket r _ e refl refl

sign-bracket : (r : Role) → role_as_bracket r ≡ None → (a b c d e f g h : Bool) →
    Bracketed r (if a then symbol.Arrow else (if b then symbol.BackArrow else (if c then symbol.Underscore else (if d then symbol.Colon
    else (if e then symbol.Equals else (if f then symbol.At else (if g then symbol.LowerBound else (if h then symbol.UpperBound else symbol.Other))))))))
sign-bracket r n true b c d e f g h = no-bracket r _ n refl refl
sign-bracket r n false true c d e f g h = no-bracket r _ n refl refl
sign-bracket r n false false true d e f g h = no-bracket r _ n refl refl
sign-bracket r n false false false true e f g h = no-bracket r _ n refl refl
sign-bracket r n false false false false true f g h = no-bracket r _ n refl refl
sign-bracket r n false false false false false true g h = no-bracket r _ n refl refl
sign-bracket r n false false false false false false true h = no-bracket r _ n refl refl
sign-bracket r n false false false false false false false true = no-bracket r _ n refl refl
sign-bracket r n false false false false false false false false = no-bracket r _ n refl refl

-- one of some characters
one-more : (P : Bytes → Type 0) (word : Bytes) (d : ℕ) (rest : Bool) → P (d ∷ []) → (rest ≡ true → P word) → (bytes_eq word (d ∷ []) || rest) ≡ true → P word
one-more P word d rest here on e = go (bytes_eq word (d ∷ [])) refl e where
  go : (b : Bool) → bytes_eq word (d ∷ []) ≡ b → (b || rest) ≡ true → P word
  go true f g = subst P (sym ((bytes_eq-Decides word (d ∷ [])).0 f)) here
  go false f g = on g

abbrev DelimiterFits : Bytes → Type 0
DelimiterFits word = Bracketed (delimiter_role word) (delimiter_symbol word)

delimiter-bracket : (word : Bytes) → is_level_word kind.Delimiter word ≡ true → DelimiterFits word
unfolding delimiter_role
delimiter-bracket word e =
    one-more DelimiterFits word 40 _ (record { agree = refl; plain = refl }) (one-more DelimiterFits word 41 _ (record { agree = refl; plain = refl }) (one-more DelimiterFits word 91 _ (record { agree = refl; plain = refl }) (one-more DelimiterFits word 93 _ (record { agree = refl; plain = refl })
    (one-more DelimiterFits word 46 _ (record { agree = refl; plain = refl }) (one-more DelimiterFits word 44 _ (record { agree = refl; plain = refl }) (one-more DelimiterFits word 59 _ (record { agree = refl; plain = refl }) (λ f. cc))))))) e

pub brackets-agree : (x : Lexeme) → is_level_token x ≡ true → Bracketed (role x) (symbol_of x.kind x.word)
unfolding symbol_of word_role sign_role
brackets-agree x e = go x.kind e where
  go : (k : TokenKind) → is_level_word k x.word ≡ true → Bracketed (role_of k x.word) (symbol_of k x.word)
  go kind.Word f =
      word-bracket (word_role x.word) (word-role (is_among ending_words x.word) (is_among continuing_words x.word) (is_among case_words x.word) (is_among template_words x.word))
      (is_literal_word x.word) (first_written control_words x.word) (first_written definition_words x.word)
  go kind.Sign f =
      sign-bracket (sign_role x.word) (sign-role (is_among ending_signs x.word) (is_among arrows x.word) (is_among continuing_signs x.word))
      (is_arrow x.word) (is_back_arrow x.word) (bytes_eq x.word (codes "_")) (bytes_eq x.word (codes ":")) (bytes_eq x.word (codes "="))
      (bytes_eq x.word (codes "@")) (bytes_eq x.word (codes ">:")) (bytes_eq x.word (codes "<:"))
  go kind.Delimiter f = delimiter-bracket x.word f
  go _ f = record { agree = refl; plain = refl }
