-- What a token is to the grammar of expressions, with what the grammar keeps of it.
use Rattle.std.proofs.Common.{◌≡◌, Bool, true, false, ◌||◌, if◌then◌else◌, List, [], ◌∷◌, Option, Some, None, codes, refl, ap, sym, ◌∙◌}
use Rattle.std.specs.Str.{bytes_eq}
use Rattle.std.proofs.lemmas.Slice.Eq.{bytes_eq-Decides}
use Rattle.scan_tokens.specs.declared.tokens.TokenKind.{TokenKind}
use Rattle.scan_tokens.specs.declared.tokens.TokenKind.TheVariants as kind
use Rattle.scan_tokens.specs.Words.{Bytes, double_arrow, left_arrow}
use Rattle.source_grammar.specs.Lexemes.{Place, Lexeme, token_at, word_at, open_round, close_round, open_square, close_square, comma, dot, semicolon, underscore, colon, equals, Arrow, arrow_token, BackArrow, back_arrow_token, Id, id_token, Literal, IntLiteral, LongLiteral, CharLiteral, StringLiteral, TrueLiteral, FalseLiteral, NullLiteral, literal_token, Number, number_token}
use Rattle.parse_patterns.specs.declared.symbols.Symbol.TheVariants as pattern_symbol
use Rattle.parse_patterns.specs.Names.{id_of}
use Rattle.parse_patterns.proofs.Seen as patterns
use Rattle.parse_patterns.proofs.Seen.{literal_as, number_as}
use Rattle.expr_tails.specs.declared.symbols.Symbol.{Symbol}
use Rattle.expr_tails.specs.declared.symbols.Symbol.TheVariants as symbol
use Rattle.expr_tails.specs.declared.symbols.Word.{Word}
use Rattle.expr_tails.specs.declared.symbols.Word.TheVariants as word
use Rattle.expr_tails.specs.Symbols.{Written, first_written, delimiter_symbol, is_arrow, is_back_arrow, sign_symbol, control_words, definition_words, is_literal_word, word_or, word_or_other, word_symbol, symbol_of}

pub data Seen : Type 0 where
  AnId : Id → Seen
  ANumber : Number → Seen
  ALiteral : Literal → Seen
  AnUnderscore : Place → Seen
  AColon : Place → Seen
  AnEquals : Place → Seen
  AnArrow : Arrow → Seen
  ABackArrow : BackArrow → Seen
  ADot : Place → Seen
  AComma : Place → Seen
  ASemicolon : Place → Seen
  OpensRound : Place → Seen
  ClosesRound : Place → Seen
  OpensSquare : Place → Seen
  ClosesSquare : Place → Seen
  AWord : Word → Place → Seen
  Another : Lexeme → Seen

abbrev pub word_text : Word → Bytes
word_text word.Abstract = codes "abstract"
word_text word.Case = codes "case"
word_text word.Catch = codes "catch"
word_text word.Class = codes "class"
word_text word.Def = codes "def"
word_text word.Do = codes "do"
word_text word.Else = codes "else"
word_text word.Final = codes "final"
word_text word.Finally = codes "finally"
word_text word.For = codes "for"
word_text word.If = codes "if"
word_text word.Import = codes "import"
word_text word.Lazy = codes "lazy"
word_text word.Match = codes "match"
word_text word.New = codes "new"
word_text word.Object = codes "object"
word_text word.Override = codes "override"
word_text word.Private = codes "private"
word_text word.Protected = codes "protected"
word_text word.Return = codes "return"
word_text word.Sealed = codes "sealed"
word_text word.Super = codes "super"
word_text word.This = codes "this"
word_text word.Throw = codes "throw"
word_text word.Try = codes "try"
word_text word.Type = codes "type"
word_text word.Val = codes "val"
word_text word.Var = codes "var"
word_text word.While = codes "while"
word_text word.Yield = codes "yield"

abbrev pub arrow_as : Lexeme → Arrow
arrow_as x = record { one_character = bytes_eq x.word double_arrow; place = x.place }

abbrev pub back_arrow_as : Lexeme → BackArrow
back_arrow_as x = record { one_character = bytes_eq x.word left_arrow; place = x.place }

abbrev pub seen_as : Symbol → Lexeme → Seen
seen_as symbol.Id x = AnId (id_of x)
seen_as symbol.Number x = ANumber (number_as x)
seen_as symbol.Literal x = ALiteral (literal_as x.kind x.word x.place)
seen_as symbol.Underscore x = AnUnderscore x.place
seen_as symbol.Colon x = AColon x.place
seen_as symbol.Equals x = AnEquals x.place
seen_as symbol.Arrow x = AnArrow (arrow_as x)
seen_as symbol.BackArrow x = ABackArrow (back_arrow_as x)
seen_as symbol.Dot x = ADot x.place
seen_as symbol.Comma x = AComma x.place
seen_as symbol.Semicolon x = ASemicolon x.place
seen_as symbol.OpenRound x = OpensRound x.place
seen_as symbol.CloseRound x = ClosesRound x.place
seen_as symbol.OpenSquare x = OpensSquare x.place
seen_as symbol.CloseSquare x = ClosesSquare x.place
seen_as (symbol.Word w) x = AWord w x.place
seen_as _ x = Another x

abbrev pub seen : Lexeme → Seen
seen x = seen_as (symbol_of x.kind x.word) x

-- the token again
abbrev pub shown_token : Seen → Lexeme
shown_token (AnId id) = id_token id
shown_token (ANumber n) = number_token n
shown_token (ALiteral l) = literal_token l
shown_token (AnUnderscore p) = underscore p
shown_token (AColon p) = colon p
shown_token (AnEquals p) = equals p
shown_token (AnArrow a) = arrow_token a
shown_token (ABackArrow a) = back_arrow_token a
shown_token (ADot p) = dot p
shown_token (AComma p) = comma p
shown_token (ASemicolon p) = semicolon p
shown_token (OpensRound p) = open_round p
shown_token (ClosesRound p) = close_round p
shown_token (OpensSquare p) = open_square p
shown_token (ClosesSquare p) = close_square p
shown_token (AWord w p) = word_at (word_text w) p
shown_token (Another x) = x

abbrev pub is_number_literal : Literal → Bool
is_number_literal (IntLiteral text place) = true
is_number_literal (LongLiteral text place) = true
is_number_literal _ = false

-- ---- what the tokens of the grammar are

pub seen-id : (id : Id) → seen (id_token id) ≡ AnId id
unfolding symbol_of
seen-id id = go id.quoted refl where
  go : (q : Bool) → q ≡ id.quoted → seen (token_at (if q then kind.BackId else kind.Id) id.name id.place) ≡ AnId id
  go true e = ap (λ q. AnId (record { name = id.name; quoted = q; place = id.place })) e
  go false e = ap (λ q. AnId (record { name = id.name; quoted = q; place = id.place })) e

pub seen-number : (n : Number) → seen (number_token n) ≡ ANumber n
unfolding symbol_of
seen-number n = go n.is_long refl where
  go : (q : Bool) → q ≡ n.is_long → seen (token_at (if q then kind.Long else kind.Int) n.text n.place) ≡ ANumber n
  go true e = ap (λ q. ANumber (record { is_long = q; text = n.text; place = n.place })) e
  go false e = ap (λ q. ANumber (record { is_long = q; text = n.text; place = n.place })) e

pub seen-arrow : (a : Arrow) → seen (arrow_token a) ≡ AnArrow a
unfolding symbol_of
seen-arrow a = go a.one_character refl where
  go : (q : Bool) → q ≡ a.one_character → seen (token_at kind.Sign (if q then double_arrow else codes "=>") a.place) ≡ AnArrow a
  go true e = ap (λ q. AnArrow (record { one_character = q; place = a.place })) e
  go false e = ap (λ q. AnArrow (record { one_character = q; place = a.place })) e

pub seen-back_arrow : (a : BackArrow) → seen (back_arrow_token a) ≡ ABackArrow a
unfolding symbol_of
seen-back_arrow a = go a.one_character refl where
  go : (q : Bool) → q ≡ a.one_character → seen (token_at kind.Sign (if q then left_arrow else codes "<-") a.place) ≡ ABackArrow a
  go true e = ap (λ q. ABackArrow (record { one_character = q; place = a.place })) e
  go false e = ap (λ q. ABackArrow (record { one_character = q; place = a.place })) e

pub seen-literal : (l : Literal) → is_number_literal l ≡ false → seen (literal_token l) ≡ ALiteral l
unfolding symbol_of
seen-literal (IntLiteral text place) e = cc
seen-literal (LongLiteral text place) e = cc
seen-literal (CharLiteral text place) e = refl
seen-literal (StringLiteral text place) e = refl
seen-literal (TrueLiteral place) e = refl
seen-literal (FalseLiteral place) e = refl
seen-literal (NullLiteral place) e = refl

pub seen-underscore : (p : Place) → seen (underscore p) ≡ AnUnderscore p
unfolding symbol_of
seen-underscore p = refl

pub seen-colon : (p : Place) → seen (colon p) ≡ AColon p
unfolding symbol_of
seen-colon p = refl

pub seen-equals : (p : Place) → seen (equals p) ≡ AnEquals p
unfolding symbol_of
seen-equals p = refl

pub seen-dot : (p : Place) → seen (dot p) ≡ ADot p
unfolding symbol_of
seen-dot p = refl

pub seen-comma : (p : Place) → seen (comma p) ≡ AComma p
unfolding symbol_of
seen-comma p = refl

pub seen-semicolon : (p : Place) → seen (semicolon p) ≡ ASemicolon p
unfolding symbol_of
seen-semicolon p = refl

pub seen-open_round : (p : Place) → seen (open_round p) ≡ OpensRound p
unfolding symbol_of
seen-open_round p = refl

pub seen-close_round : (p : Place) → seen (close_round p) ≡ ClosesRound p
unfolding symbol_of
seen-close_round p = refl

pub seen-open_square : (p : Place) → seen (open_square p) ≡ OpensSquare p
unfolding symbol_of
seen-open_square p = refl

pub seen-close_square : (p : Place) → seen (close_square p) ≡ ClosesSquare p
unfolding symbol_of
seen-close_square p = refl

-- a reserved word of expressions and statements
pub seen-word : (w : Word) (p : Place) → seen (word_at (word_text w) p) ≡ AWord w p
unfolding symbol_of
seen-word word.Case p = refl
seen-word word.Catch p = refl
seen-word word.Do p = refl
seen-word word.Else p = refl
seen-word word.Finally p = refl
seen-word word.For p = refl
seen-word word.If p = refl
seen-word word.Match p = refl
seen-word word.New p = refl
seen-word word.Return p = refl
seen-word word.Super p = refl
seen-word word.This p = refl
seen-word word.Throw p = refl
seen-word word.Try p = refl
seen-word word.While p = refl
seen-word word.Yield p = refl
seen-word word.Abstract p = refl
seen-word word.Class p = refl
seen-word word.Def p = refl
seen-word word.Final p = refl
seen-word word.Import p = refl
seen-word word.Lazy p = refl
seen-word word.Object p = refl
seen-word word.Override p = refl
seen-word word.Private p = refl
seen-word word.Protected p = refl
seen-word word.Sealed p = refl
seen-word word.Type p = refl
seen-word word.Val p = refl
seen-word word.Var p = refl

-- ---- the token again

same-word : (a b : Bytes) → bytes_eq a b ≡ true → a ≡ b
same-word a b e = (bytes_eq-Decides a b).0 e

abbrev AllWritten : List (Written Word) → Type 0
AllWritten [] = Unit {0}
AllWritten (w ∷ ws) = (w.text ≡ word_text w.means) × AllWritten ws

found : (ws : List (Written Word)) (text : Bytes) (w : Word) → AllWritten ws → first_written ws text ≡ Some w → text ≡ word_text w
found [] text w a e = cc
found (v ∷ ws) text w a e = go (bytes_eq text v.text) refl e (found ws text w a.1) where
  go : (b : Bool) → bytes_eq text v.text ≡ b → (if b then Some v.means else first_written ws text) ≡ Some w
      → (first_written ws text ≡ Some w → text ≡ word_text w) → text ≡ word_text w
  go true f g on = (let same : v.means ≡ w = cc in same-word text v.text f ∙ a.0 ∙ ap word_text same)
  go false f g on = on g

control-written : AllWritten control_words
control-written = (refl, (refl, (refl, (refl, (refl, (refl, (refl, (refl, (refl, (refl, (refl, (refl, (refl, (refl, (refl, (refl, tt))))))))))))))))

definition-written : AllWritten definition_words
definition-written = (refl, (refl, (refl, (refl, (refl, (refl, (refl, (refl, (refl, (refl, (refl, (refl, (refl, (refl, tt))))))))))))))

-- a test that is met gives the one symbol, and else the others
pick : (s rest : Symbol) (x : Lexeme) (b : Bool) → (b ≡ true → shown_token (seen_as s x) ≡ x) → shown_token (seen_as rest x) ≡ x
    → shown_token (seen_as (if b then s else rest) x) ≡ x
pick s rest x true yields on = yields refl
pick s rest x false yields on = on

delimiter-shown : (w : Bytes) (p : Place) → shown_token (seen_as (delimiter_symbol w) (token_at kind.Delimiter w p)) ≡ token_at kind.Delimiter w p
delimiter-shown w p =
    let is : (c : Bytes) → bytes_eq w c ≡ true → token_at kind.Delimiter c p ≡ token_at kind.Delimiter w p =
    λ c e. ap (λ v. token_at kind.Delimiter v p) (sym (same-word w c e)) in
    let x = token_at kind.Delimiter w p in
    pick symbol.OpenRound _ x (bytes_eq w (codes "(")) (is (codes "("))
    (pick symbol.CloseRound _ x (bytes_eq w (codes ")")) (is (codes ")"))
    (pick symbol.OpenSquare _ x (bytes_eq w (codes "[")) (is (codes "["))
    (pick symbol.CloseSquare _ x (bytes_eq w (codes "]")) (is (codes "]"))
    (pick symbol.OpenCurly _ x (bytes_eq w (codes "{")) (λ e. refl)
    (pick symbol.CloseCurly _ x (bytes_eq w (codes "}")) (λ e. refl)
    (pick symbol.Comma _ x (bytes_eq w (codes ",")) (is (codes ","))
    (pick symbol.Dot _ x (bytes_eq w (codes ".")) (is (codes "."))
    (pick symbol.Semicolon symbol.Other x (bytes_eq w (codes ";")) (is (codes ";")) refl))))))))

arrow-shown : (w : Bytes) (p : Place) → is_arrow w ≡ true → arrow_token (arrow_as (token_at kind.Sign w p)) ≡ token_at kind.Sign w p
arrow-shown w p e = go (bytes_eq w (codes "=>")) (bytes_eq w double_arrow) refl refl e where
  go : (a b : Bool) → bytes_eq w (codes "=>") ≡ a → bytes_eq w double_arrow ≡ b → (a || b) ≡ true
      → token_at kind.Sign (if b then double_arrow else codes "=>") p ≡ token_at kind.Sign w p
  go a true f g h = ap (λ v. token_at kind.Sign v p) (sym (same-word w double_arrow g))
  go true false f g h = ap (λ v. token_at kind.Sign v p) (sym (same-word w (codes "=>") f))
  go false false f g h = cc

back_arrow-shown : (w : Bytes) (p : Place) → is_back_arrow w ≡ true → back_arrow_token (back_arrow_as (token_at kind.Sign w p)) ≡ token_at kind.Sign w p
back_arrow-shown w p e = go (bytes_eq w (codes "<-")) (bytes_eq w left_arrow) refl refl e where
  go : (a b : Bool) → bytes_eq w (codes "<-") ≡ a → bytes_eq w left_arrow ≡ b → (a || b) ≡ true
      → token_at kind.Sign (if b then left_arrow else codes "<-") p ≡ token_at kind.Sign w p
  go a true f g h = ap (λ v. token_at kind.Sign v p) (sym (same-word w left_arrow g))
  go true false f g h = ap (λ v. token_at kind.Sign v p) (sym (same-word w (codes "<-") f))
  go false false f g h = cc

sign-shown : (w : Bytes) (p : Place) → shown_token (seen_as (sign_symbol w) (token_at kind.Sign w p)) ≡ token_at kind.Sign w p
sign-shown w p =
    let is : (c : Bytes) → bytes_eq w c ≡ true → token_at kind.Sign c p ≡ token_at kind.Sign w p =
    λ c e. ap (λ v. token_at kind.Sign v p) (sym (same-word w c e)) in
    let x = token_at kind.Sign w p in
    pick symbol.Arrow _ x (is_arrow w) (arrow-shown w p)
    (pick symbol.BackArrow _ x (is_back_arrow w) (back_arrow-shown w p)
    (pick symbol.Underscore _ x (bytes_eq w (codes "_")) (is (codes "_"))
    (pick symbol.Colon _ x (bytes_eq w (codes ":")) (is (codes ":"))
    (pick symbol.Equals _ x (bytes_eq w (codes "=")) (is (codes "="))
    (pick symbol.At _ x (bytes_eq w (codes "@")) (λ e. refl)
    (pick symbol.LowerBound _ x (bytes_eq w (codes ">:")) (λ e. refl)
    (pick symbol.UpperBound symbol.Other x (bytes_eq w (codes "<:")) (λ e. refl) refl)))))))

or-assoc : (a b c : Bool) → ((a || b) || c) ≡ (a || (b || c))
or-assoc true b c = refl
or-assoc false b c = refl

-- a literal that is a word, as the reader of patterns has it
literal-shown : (w : Bytes) (p : Place) → is_literal_word w ≡ true → literal_token (literal_as kind.Word w p) ≡ token_at kind.Word w p
literal-shown w p e =
    ap (λ b. patterns.shown_token (patterns.seen_as (if b then pattern_symbol.Literal else pattern_symbol.Other) (token_at kind.Word w p)))
    (sym e ∙ or-assoc (bytes_eq w (codes "true")) (bytes_eq w (codes "false")) (bytes_eq w (codes "null")))
    ∙ patterns.token-shown (token_at kind.Word w p)

word-found : (w : Bytes) (p : Place) (o : Option Word) (rest : Symbol) → ((v : Word) → o ≡ Some v → w ≡ word_text v)
    → shown_token (seen_as rest (token_at kind.Word w p)) ≡ token_at kind.Word w p
    → shown_token (seen_as (word_or o rest) (token_at kind.Word w p)) ≡ token_at kind.Word w p
word-found w p None rest is on = on
word-found w p (Some v) rest is on = ap (λ t. token_at kind.Word t p) (sym (is v refl))

last-found : (w : Bytes) (p : Place) (o : Option Word) → ((v : Word) → o ≡ Some v → w ≡ word_text v)
    → shown_token (seen_as (word_or_other o) (token_at kind.Word w p)) ≡ token_at kind.Word w p
last-found w p None is = refl
last-found w p (Some v) is = ap (λ t. token_at kind.Word t p) (sym (is v refl))

word-shown : (w : Bytes) (p : Place) → shown_token (seen_as (word_symbol w) (token_at kind.Word w p)) ≡ token_at kind.Word w p
word-shown w p =
    pick symbol.Literal _ (token_at kind.Word w p) (is_literal_word w) (literal-shown w p)
    (word-found w p (first_written control_words w) (word_or_other (first_written definition_words w)) (λ v e. found control_words w v control-written e)
    (last-found w p (first_written definition_words w) (λ v e. found definition_words w v definition-written e)))

pub token-shown : (x : Lexeme) → shown_token (seen x) ≡ x
unfolding symbol_of
token-shown x = go x.kind x.word x.place where
  go : (k : TokenKind) (w : Bytes) (p : Place) → shown_token (seen (token_at k w p)) ≡ token_at k w p
  go kind.Delimiter w p = delimiter-shown w p
  go kind.Sign w p = sign-shown w p
  go kind.Word w p = word-shown w p
  go _ w p = refl
