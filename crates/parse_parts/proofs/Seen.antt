-- What a token is to the grammar of types, with what the grammar keeps of it.
use Rattle.std.proofs.Common.{◌≡◌, Bool, true, false, ◌||◌, if◌then◌else◌, codes, refl, ap, sym, ◌∙◌}
use Rattle.std.specs.Str.{bytes_eq}
use Rattle.std.proofs.lemmas.Slice.Eq.{bytes_eq-Decides}
use Rattle.scan_tokens.specs.declared.tokens.TokenKind.{TokenKind}
use Rattle.scan_tokens.specs.declared.tokens.TokenKind.TheVariants as kind
use Rattle.scan_tokens.specs.Words.{Bytes, double_arrow}
use Rattle.source_grammar.specs.Lexemes.{Place, Lexeme, token_at, word_at, open_round, close_round, open_square, close_square, comma, dot, Arrow, arrow_token, Id, id_token}
use Rattle.parse_parts.specs.declared.symbols.Symbol.{Symbol}
use Rattle.parse_parts.specs.declared.symbols.Symbol.TheVariants as symbol
use Rattle.parse_parts.specs.Symbols.{symbol_of}

pub data Seen : Type 0 where
  AnId : Id → Seen
  OpensRound : Place → Seen
  ClosesRound : Place → Seen
  OpensSquare : Place → Seen
  ClosesSquare : Place → Seen
  AComma : Place → Seen
  ADot : Place → Seen
  AnArrow : Arrow → Seen
  ATypeWord : Place → Seen
  Another : Lexeme → Seen

abbrev pub is_quoted : TokenKind → Bool
is_quoted kind.BackId = true
is_quoted _ = false

abbrev pub seen_as : Symbol → Lexeme → Seen
seen_as symbol.Id x = AnId (record { name = x.word; quoted = is_quoted x.kind; place = x.place })
seen_as symbol.OpenRound x = OpensRound x.place
seen_as symbol.CloseRound x = ClosesRound x.place
seen_as symbol.OpenSquare x = OpensSquare x.place
seen_as symbol.CloseSquare x = ClosesSquare x.place
seen_as symbol.Comma x = AComma x.place
seen_as symbol.Dot x = ADot x.place
seen_as symbol.Arrow x = AnArrow (record { one_character = bytes_eq x.word double_arrow; place = x.place })
seen_as symbol.TypeWord x = ATypeWord x.place
seen_as symbol.Other x = Another x

abbrev pub seen : Lexeme → Seen
seen x = seen_as (symbol_of x.kind x.word) x

-- the token again
abbrev pub shown_token : Seen → Lexeme
shown_token (AnId id) = id_token id
shown_token (OpensRound p) = open_round p
shown_token (ClosesRound p) = close_round p
shown_token (OpensSquare p) = open_square p
shown_token (ClosesSquare p) = close_square p
shown_token (AComma p) = comma p
shown_token (ADot p) = dot p
shown_token (AnArrow a) = arrow_token a
shown_token (ATypeWord p) = word_at (codes "type") p
shown_token (Another x) = x

pub seen-id : (id : Id) → seen (id_token id) ≡ AnId id
seen-id id = go id.quoted refl where
  go : (q : Bool) → q ≡ id.quoted → seen (token_at (if q then kind.BackId else kind.Id) id.name id.place) ≡ AnId id
  go true e = ap (λ q. AnId (record { name = id.name; quoted = q; place = id.place })) e
  go false e = ap (λ q. AnId (record { name = id.name; quoted = q; place = id.place })) e

pub seen-arrow : (a : Arrow) → seen (arrow_token a) ≡ AnArrow a
seen-arrow a = go a.one_character refl where
  go : (q : Bool) → q ≡ a.one_character → seen (token_at kind.Sign (if q then double_arrow else codes "=>") a.place) ≡ AnArrow a
  go true e = ap (λ q. AnArrow (record { one_character = q; place = a.place })) e
  go false e = ap (λ q. AnArrow (record { one_character = q; place = a.place })) e

pub seen-delimiters : (p : Place) → (seen (open_round p) ≡ OpensRound p) × (seen (close_round p) ≡ ClosesRound p) × (seen (open_square p) ≡ OpensSquare p)
    × (seen (close_square p) ≡ ClosesSquare p) × (seen (comma p) ≡ AComma p) × (seen (dot p) ≡ ADot p) × (seen (word_at (codes "type") p) ≡ ATypeWord p)
seen-delimiters p = (refl, refl, refl, refl, refl, refl, refl)

same-word : (a b : Bytes) → bytes_eq a b ≡ true → a ≡ b
same-word a b e = (bytes_eq-Decides a b).0 e

-- a test that is met gives the one symbol, and else the others
pick : (s rest : Symbol) (x : Lexeme) (b : Bool) → (b ≡ true → shown_token (seen_as s x) ≡ x) → shown_token (seen_as rest x) ≡ x
    → shown_token (seen_as (if b then s else rest) x) ≡ x
pick s rest x true yields on = yields refl
pick s rest x false yields on = on

delimiter-shown : (w : Bytes) (p : Place) → shown_token (seen (token_at kind.Delimiter w p)) ≡ token_at kind.Delimiter w p
delimiter-shown w p =
    let is : (c : Bytes) → bytes_eq w c ≡ true → token_at kind.Delimiter c p ≡ token_at kind.Delimiter w p =
    λ c e. ap (λ v. token_at kind.Delimiter v p) (sym (same-word w c e)) in
    let x = token_at kind.Delimiter w p in
    pick symbol.OpenRound _ x (bytes_eq w (codes "(")) (is (codes "("))
    (pick symbol.CloseRound _ x (bytes_eq w (codes ")")) (is (codes ")"))
    (pick symbol.OpenSquare _ x (bytes_eq w (codes "[")) (is (codes "["))
    (pick symbol.CloseSquare _ x (bytes_eq w (codes "]")) (is (codes "]"))
    (pick symbol.Comma _ x (bytes_eq w (codes ",")) (is (codes ","))
    (pick symbol.Dot symbol.Other x (bytes_eq w (codes ".")) (is (codes ".")) refl)))))

arrow-shown : (w : Bytes) (p : Place) → shown_token (seen (token_at kind.Sign w p)) ≡ token_at kind.Sign w p
arrow-shown w p = go (bytes_eq w (codes "=>")) (bytes_eq w double_arrow) refl (same-word w (codes "=>")) (same-word w double_arrow) where
  shown : (b : Bool) → (b ≡ true → w ≡ double_arrow) → (b ≡ false → w ≡ codes "=>")
      → arrow_token (record { one_character = b; place = p }) ≡ token_at kind.Sign w p
  shown true yields other = ap (λ v. token_at kind.Sign v p) (sym (yields refl))
  shown false yields other = ap (λ v. token_at kind.Sign v p) (sym (other refl))

  go : (a b : Bool) → bytes_eq w double_arrow ≡ b → (a ≡ true → w ≡ codes "=>") → (b ≡ true → w ≡ double_arrow)
      → shown_token (seen_as (if a || b then symbol.Arrow else symbol.Other) (token_at kind.Sign w p)) ≡ token_at kind.Sign w p
  go true b e one two = shown (bytes_eq w double_arrow) (same-word w double_arrow) (λ f. one refl)
  go false true e one two = shown (bytes_eq w double_arrow) (same-word w double_arrow) (λ f. (let x : true ≡ false = sym e ∙ f in cc))
  go false false e one two = refl

pub token-shown : (x : Lexeme) → shown_token (seen x) ≡ x
token-shown x = go x.kind x.word x.place where
  go : (k : TokenKind) (w : Bytes) (p : Place) → shown_token (seen (token_at k w p)) ≡ token_at k w p
  go kind.Id w p = refl
  go kind.BackId w p = refl
  go kind.Delimiter w p = delimiter-shown w p
  go kind.Sign w p = arrow-shown w p
  go kind.Word w p = pick symbol.TypeWord symbol.Other (token_at kind.Word w p) (bytes_eq w (codes "type"))
      (λ e. ap (λ v. token_at kind.Word v p) (sym (same-word w (codes "type") e))) refl
  go _ w p = refl
