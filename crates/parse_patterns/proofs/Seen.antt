-- What a token is to the grammar of patterns, with what the grammar keeps of it.
use Rattle.std.proofs.Common.{◌≡◌, Bool, true, false, ◌||◌, if◌then◌else◌, codes, refl, ap, sym}
use Rattle.std.specs.Str.{bytes_eq}
use Rattle.std.proofs.lemmas.Slice.Eq.{bytes_eq-Decides}
use Rattle.scan_tokens.specs.declared.tokens.TokenKind.{TokenKind}
use Rattle.scan_tokens.specs.declared.tokens.TokenKind.TheVariants as kind
use Rattle.scan_tokens.specs.Words.{Bytes}
use Rattle.source_grammar.specs.Lexemes.{Place, Lexeme, token_at, open_round, close_round, comma, dot, underscore, colon, at_sign, Id, id_token, Literal, IntLiteral, LongLiteral, CharLiteral, StringLiteral, TrueLiteral, FalseLiteral, NullLiteral, literal_token, Number, number_token}
use Rattle.parse_patterns.specs.declared.symbols.Symbol.{Symbol}
use Rattle.parse_patterns.specs.declared.symbols.Symbol.TheVariants as symbol
use Rattle.parse_patterns.specs.Names.{id_of}
use Rattle.parse_patterns.specs.Symbols.{symbol_of}

pub data Seen : Type 0 where
  AnId : Id → Seen
  ANumber : Number → Seen
  ALiteral : Literal → Seen
  AnUnderscore : Place → Seen
  AColon : Place → Seen
  AnAt : Place → Seen
  OpensRound : Place → Seen
  ClosesRound : Place → Seen
  AComma : Place → Seen
  ADot : Place → Seen
  Another : Lexeme → Seen

abbrev pub is_long : TokenKind → Bool
is_long kind.Long = true
is_long _ = false

abbrev pub literal_as : TokenKind → Bytes → Place → Literal
literal_as kind.Char word place = CharLiteral word place
literal_as kind.Str word place = StringLiteral word place
literal_as _ word place =
    if bytes_eq word (codes "true") then TrueLiteral place else (if bytes_eq word (codes "false") then FalseLiteral place else NullLiteral place)

abbrev pub number_as : Lexeme → Number
number_as x = record { is_long = is_long x.kind; text = x.word; place = x.place }

abbrev pub seen_as : Symbol → Lexeme → Seen
seen_as symbol.Id x = AnId (id_of x)
seen_as symbol.Number x = ANumber (number_as x)
seen_as symbol.Literal x = ALiteral (literal_as x.kind x.word x.place)
seen_as symbol.Underscore x = AnUnderscore x.place
seen_as symbol.Colon x = AColon x.place
seen_as symbol.At x = AnAt x.place
seen_as symbol.OpenRound x = OpensRound x.place
seen_as symbol.CloseRound x = ClosesRound x.place
seen_as symbol.Comma x = AComma x.place
seen_as symbol.Dot x = ADot x.place
seen_as symbol.Other x = Another x

abbrev pub seen : Lexeme → Seen
seen x = seen_as (symbol_of x.kind x.word) x

-- the token again
abbrev pub shown_token : Seen → Lexeme
shown_token (AnId id) = id_token id
shown_token (ANumber n) = number_token n
shown_token (ALiteral l) = literal_token l
shown_token (AnUnderscore p) = underscore p
shown_token (AColon p) = colon p
shown_token (AnAt p) = at_sign p
shown_token (OpensRound p) = open_round p
shown_token (ClosesRound p) = close_round p
shown_token (AComma p) = comma p
shown_token (ADot p) = dot p
shown_token (Another x) = x

pub seen-id : (id : Id) → seen (id_token id) ≡ AnId id
seen-id id = go id.quoted refl where
  go : (q : Bool) → q ≡ id.quoted → seen (token_at (if q then kind.BackId else kind.Id) id.name id.place) ≡ AnId id
  go true e = ap (λ q. AnId (record { name = id.name; quoted = q; place = id.place })) e
  go false e = ap (λ q. AnId (record { name = id.name; quoted = q; place = id.place })) e

pub seen-number : (n : Number) → seen (number_token n) ≡ ANumber n
seen-number n = go n.is_long refl where
  go : (q : Bool) → q ≡ n.is_long → seen (token_at (if q then kind.Long else kind.Int) n.text n.place) ≡ ANumber n
  go true e = ap (λ q. ANumber (record { is_long = q; text = n.text; place = n.place })) e
  go false e = ap (λ q. ANumber (record { is_long = q; text = n.text; place = n.place })) e

-- a number as a literal
abbrev pub literal_of : Number → Literal
literal_of n = if n.is_long then LongLiteral n.text n.place else IntLiteral n.text n.place

pub number-literal : (n : Number) → literal_token (literal_of n) ≡ number_token n
number-literal n = go n.is_long where
  go : (q : Bool) → literal_token (if q then LongLiteral n.text n.place else IntLiteral n.text n.place) ≡ token_at (if q then kind.Long else kind.Int) n.text n.place
  go true = refl
  go false = refl

same-word : (a b : Bytes) → bytes_eq a b ≡ true → a ≡ b
same-word a b e = (bytes_eq-Decides a b).0 e

-- a test that is met gives the one symbol, and else the others
pick : (s rest : Symbol) (x : Lexeme) (b : Bool) → (b ≡ true → shown_token (seen_as s x) ≡ x) → shown_token (seen_as rest x) ≡ x
    → shown_token (seen_as (if b then s else rest) x) ≡ x
pick s rest x true yields on = yields refl
pick s rest x false yields on = on

delimiter-shown : (w : Bytes) (p : Place) → shown_token (seen (token_at kind.Delimiter w p)) ≡ token_at kind.Delimiter w p
delimiter-shown w p =
    let is : (c : Bytes) → bytes_eq w c ≡ true → token_at kind.Delimiter c p ≡ token_at kind.Delimiter w p =
    λ c e. ap (λ v. token_at kind.Delimiter v p) (sym (same-word w c e)) in
    let x = token_at kind.Delimiter w p in
    pick symbol.OpenRound _ x (bytes_eq w (codes "(")) (is (codes "("))
    (pick symbol.CloseRound _ x (bytes_eq w (codes ")")) (is (codes ")"))
    (pick symbol.Comma _ x (bytes_eq w (codes ",")) (is (codes ","))
    (pick symbol.Dot symbol.Other x (bytes_eq w (codes ".")) (is (codes ".")) refl)))

sign-shown : (w : Bytes) (p : Place) → shown_token (seen (token_at kind.Sign w p)) ≡ token_at kind.Sign w p
sign-shown w p =
    let is : (c : Bytes) → bytes_eq w c ≡ true → token_at kind.Sign c p ≡ token_at kind.Sign w p =
    λ c e. ap (λ v. token_at kind.Sign v p) (sym (same-word w c e)) in
    let x = token_at kind.Sign w p in
    pick symbol.Underscore _ x (bytes_eq w (codes "_")) (is (codes "_"))
    (pick symbol.Colon _ x (bytes_eq w (codes ":")) (is (codes ":"))
    (pick symbol.At symbol.Other x (bytes_eq w (codes "@")) (is (codes "@")) refl))

word-shown : (w : Bytes) (p : Place) → shown_token (seen (token_at kind.Word w p)) ≡ token_at kind.Word w p
word-shown w p =
    pick symbol.Literal symbol.Other (token_at kind.Word w p) (bytes_eq w (codes "true") || (bytes_eq w (codes "false") || bytes_eq w (codes "null")))
    (go (bytes_eq w (codes "true")) (bytes_eq w (codes "false")) (bytes_eq w (codes "null"))
    (same-word w (codes "true")) (same-word w (codes "false")) (same-word w (codes "null"))) refl
  where
    go : (a b c : Bool) → (a ≡ true → w ≡ codes "true") → (b ≡ true → w ≡ codes "false") → (c ≡ true → w ≡ codes "null") → (a || (b || c)) ≡ true
        → literal_token (if a then TrueLiteral p else (if b then FalseLiteral p else NullLiteral p)) ≡ token_at kind.Word w p
    go true b c f g h any = ap (λ v. token_at kind.Word v p) (sym (f refl))
    go false true c f g h any = ap (λ v. token_at kind.Word v p) (sym (g refl))
    go false false true f g h any = ap (λ v. token_at kind.Word v p) (sym (h refl))
    go false false false f g h any = cc

pub token-shown : (x : Lexeme) → shown_token (seen x) ≡ x
token-shown x = go x.kind x.word x.place where
  go : (k : TokenKind) (w : Bytes) (p : Place) → shown_token (seen (token_at k w p)) ≡ token_at k w p
  go kind.Id w p = refl
  go kind.BackId w p = refl
  go kind.Delimiter w p = delimiter-shown w p
  go kind.Sign w p = sign-shown w p
  go kind.Word w p = word-shown w p
  go _ w p = refl
