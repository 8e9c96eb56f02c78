-- In the tokens that the scanner gives of a text each delimiter is one character.
use Rattle.std.proofs.Common.{◌≡◌, ℕ, zero, suc, ◌+◌, ◌-◌, ◌==◌, Bool, true, false, ◌||◌, if◌then◌else◌, List, [], ◌∷◌, ◌++◌, length, take, drop, Some, encode_utf8_all, refl, ap, sym, ◌∙◌, subst, arith, length-append, append_assoc}
use Rattle.std.specs.List.{All, flat_map}
use Rattle.std.specs.Str.{chars, IsUtf8}
use Rattle.std.proofs.Math.Utf8.{encode}
use Rattle.std.proofs.lemmas.Str.{encodes-chars, encodes-append}
use Rattle.std.proofs.lemmas.List.Elements.{All-nil, All-cons, All-head, All-tail, All-append, All-map}
use Rattle.pc_terms.specs.declared.problems.Span.{Span}
use Rattle.ucd_category.specs.declared.GeneralCategory.{GeneralCategory}
use Rattle.ucd_category.specs.declared.GeneralCategory.TheVariants.{MathSymbol, OtherSymbol}
use Rattle.unicode.specs.GeneralCategory.{general_category}
use Rattle.scan_tokens.specs.declared.characters.Class.{Class}
use Rattle.scan_tokens.specs.declared.characters.Class.TheVariants as class
use Rattle.scan_tokens.specs.declared.regions.Region.{Region}
use Rattle.scan_tokens.specs.declared.shapes.Shape.{Shape}
use Rattle.scan_tokens.specs.declared.shapes.Shape.TheVariants as shape
use Rattle.scan_tokens.specs.declared.tokens.Newline.TheVariants.{No}
use Rattle.scan_tokens.specs.declared.tokens.Token.{Token}
use Rattle.scan_tokens.specs.declared.tokens.TokenKind.{TokenKind}
use Rattle.scan_tokens.specs.declared.tokens.TokenKind.TheVariants as kind
use Rattle.scan_tokens.specs.Characters.{Chars, byte_len, offset, class_in, is_space, is_digit, is_delimiter, is_ascii_operator, class_of}
use Rattle.scan_tokens.specs.Division.{Fits, IsOne}
use Rattle.scan_tokens.specs.Kinds.{is_reserved_word, is_reserved_sign, name_kind, has_suffix, number_kind, kind_of}
use Rattle.scan_tokens.specs.Newlines.{role_at, template_follows, can_end, turned, marked}
use Rattle.scan_tokens.specs.Pieces.{piece_at, pieces_within, pieces, bytes_of, span_of, token_at, token_of, tokens_in}
use Rattle.scan_tokens.specs.Reading.{read}
use Rattle.scan_tokens.specs.Scanned.{scanned}
use Rattle.scan_tokens.specs.Words.{Bytes}
use Rattle.scan_tokens.proofs.Fitting.{read-fits}
use Rattle.scan_tokens.proofs.Steps.{same_number}
use Rattle.source_grammar.specs.Lexemes.{bytes_in, word_of, lexeme_of, lexemes}
use Rattle.expr_laws.specs.Definitions.{is_level_word, is_brace_word, is_level_token, is_brace_token}

-- ---- a character that is a delimiter

is_delimiter_class : Class → Bool
is_delimiter_class class.Delimiter = true
is_delimiter_class _ = false

no-category : (g : GeneralCategory) → is_delimiter_class (class_in g) ≡ false
unfolding is_delimiter_class
no-category MathSymbol = refl
no-category OtherSymbol = refl
no-category _ = refl

class-delimiter : (c : ℕ) → is_delimiter_class (class_of c) ≡ true → is_delimiter c ≡ true
unfolding class_of is_delimiter_class
class-delimiter c e =
    go (is_space c) (is_digit c) (c == 39) (c == 34) (c == 96) (c == 36 || c == 95) (is_delimiter c) (is_ascii_operator c) (class_in (general_category c)) (no-category (general_category c)) e
  where
    go : (s d a q b l m o : Bool) (k : Class) → is_delimiter_class k ≡ false
        → is_delimiter_class (if s then class.Space else (if d then class.Digit else (if a then class.Apostrophe else (if q then class.Quote else (if b then class.Backquote
        else (if l then class.Letter else (if m then class.Delimiter else (if o then class.Operator else k)))))))) ≡ true → m ≡ true
    go true d a q b l m o k n f = cc
    go false true a q b l m o k n f = cc
    go false false true q b l m o k n f = cc
    go false false false true b l m o k n f = cc
    go false false false false true l m o k n f = cc
    go false false false false false true m o k n f = cc
    go false false false false false false true o k n f = refl
    go false false false false false false false true k n f = cc
    go false false false false false false false false k n f = cc

-- one of some characters
one-of : (P : ℕ → Type 0) (c d : ℕ) (rest : Bool) → P d → (rest ≡ true → P c) → (c == d || rest) ≡ true → P c
one-of P c d rest here on e = go (c == d) refl e where
  go : (b : Bool) → (c == d) ≡ b → (b || rest) ≡ true → P c
  go true f g = subst P (sym (same_number c d f)) here
  go false f g = on g

abbrev Single : ℕ → Type 0
Single c = (is_level_word kind.Delimiter (encode_utf8_all (c ∷ [])) || is_brace_word kind.Delimiter (encode_utf8_all (c ∷ []))) ≡ true

single : (c : ℕ) → is_delimiter c ≡ true → Single c
unfolding encode
single c e =
    one-of Single c 40 _ refl (one-of Single c 41 _ refl (one-of Single c 91 _ refl (one-of Single c 93 _ refl (one-of Single c 123 _ refl (one-of Single c 125 _ refl
    (one-of Single c 46 _ refl (one-of Single c 44 _ refl (one-of Single c 59 _ refl (λ f. cc))))))))) e

-- ---- the bytes of a piece

drop-front : (as_ xs : Bytes) → drop (length as_) (as_ ++ xs) ≡ xs
drop-front [] xs = refl
drop-front (a ∷ as_) xs = drop-front as_ xs

take-front : (as_ xs : Bytes) → take (length as_) (as_ ++ xs) ≡ as_
take-front [] xs = refl
take-front (a ∷ as_) xs = ap (λ bs. a ∷ bs) (take-front as_ xs)

piece-bytes : (text : Bytes) (front piece after : Chars) → IsUtf8 text → chars text ≡ front ++ (piece ++ after)
    → bytes_in text (span_of (length text) (piece ++ after) after) ≡ encode_utf8_all piece
piece-bytes text front piece after utf8 e =
    ap (λ n. take (offset (length text) after - n) (drop n text)) starts
    ∙ ap (λ n. take n (drop (length (encode_utf8_all front)) text)) long
    ∙ ap (λ xs. take (length (encode_utf8_all piece)) (drop (length (encode_utf8_all front)) xs)) there
    ∙ ap (take (length (encode_utf8_all piece))) (drop-front (encode_utf8_all front) (encode_utf8_all piece ++ encode_utf8_all after))
    ∙ take-front (encode_utf8_all piece) (encode_utf8_all after)
  where
    there : text ≡ encode_utf8_all front ++ (encode_utf8_all piece ++ encode_utf8_all after)
    there = sym (encodes-chars text utf8) ∙ ap encode_utf8_all e ∙ encodes-append front (piece ++ after) ∙ ap (λ xs. encode_utf8_all front ++ xs) (encodes-append piece after)

    whole : length text ≡ length (encode_utf8_all front) + (length (encode_utf8_all piece) + length (encode_utf8_all after))
    whole =
        ap length there ∙ length-append (encode_utf8_all front) (encode_utf8_all piece ++ encode_utf8_all after)
        ∙ ap (λ n. length (encode_utf8_all front) + n) (length-append (encode_utf8_all piece) (encode_utf8_all after))

    rest : byte_len (piece ++ after) ≡ length (encode_utf8_all piece) + length (encode_utf8_all after)
    rest = ap length (encodes-append piece after) ∙ length-append (encode_utf8_all piece) (encode_utf8_all after)

    starts : offset (length text) (piece ++ after) ≡ length (encode_utf8_all front)
    starts = omega (arith, whole, rest)

    long : offset (length text) after - length (encode_utf8_all front) ≡ length (encode_utf8_all piece)
    long = omega (arith, whole)

-- ---- tokens

abbrev TokenFits : Bytes → Token → Type 0
TokenFits text t = (is_level_word t.kind (word_of t.kind (bytes_in text t.span)) || is_brace_word t.kind (word_of t.kind (bytes_in text t.span))) ≡ true

abbrev is_delimiter_kind : TokenKind → Bool
is_delimiter_kind kind.Delimiter = true
is_delimiter_kind _ = false

abbrev a_token : TokenKind → Span → Token
a_token k span = record { kind = k; span = span; before = No }

other-fits : (text : Bytes) (k : TokenKind) (span : Span) → is_delimiter_kind k ≡ false → All (TokenFits text) (token_at (Some k) span)
other-fits text k span e = All-cons (TokenFits text) (a_token k span) [] (go k e) (All-nil (TokenFits text)) where
  go : (l : TokenKind) → is_delimiter_kind l ≡ false → TokenFits text (a_token l span)
  go kind.Delimiter f = cc
  go _ f = refl

name-other : (word : Bytes) → is_delimiter_kind (name_kind word) ≡ false
unfolding name_kind
name-other word = go (is_reserved_word word) (is_reserved_sign word) where
  go : (a b : Bool) → is_delimiter_kind (if a then kind.Word else (if b then kind.Sign else kind.Id)) ≡ false
  go true b = refl
  go false true = refl
  go false false = refl

number-other : (number : Bytes) → is_delimiter_kind (number_kind number) ≡ false
unfolding number_kind
number-other number = go (has_suffix number) _ _ where
  go : (a b d : Bool) → is_delimiter_kind (if a then (if b then kind.Long else kind.Error) else (if d then kind.Int else kind.Error)) ≡ false
  go true true d = refl
  go true false d = refl
  go false b true = refl
  go false b false = refl

one-fits : (text : Bytes) (front piece after : Chars) → IsUtf8 text → chars text ≡ front ++ (piece ++ after) → IsOne class.Delimiter piece → TokenFits text (a_token kind.Delimiter (span_of (length text) (piece ++ after) after))
unfolding is_delimiter_class
one-fits text front piece after utf8 e o =
    ap (λ w. is_level_word kind.Delimiter w || is_brace_word kind.Delimiter w) (piece-bytes text front piece after utf8 e ∙ ap encode_utf8_all o.text)
    ∙ single o.first (class-delimiter o.first (ap is_delimiter_class o.begins))

shape-fits : (text : Bytes) (s : Shape) (bytes : Bytes) (front piece after : Chars) → IsUtf8 text → chars text ≡ front ++ (piece ++ after) → Fits s piece after
    → All (TokenFits text) (token_at (kind_of s bytes) (span_of (length text) (piece ++ after) after))
shape-fits text shape.Space bytes front piece after utf8 e f = All-nil (TokenFits text)
shape-fits text shape.Comment bytes front piece after utf8 e f = All-nil (TokenFits text)
shape-fits text shape.Plain bytes front piece after utf8 e f = other-fits text (name_kind bytes) _ (name-other bytes)
shape-fits text shape.Operator bytes front piece after utf8 e f = other-fits text (name_kind bytes) _ (name-other bytes)
shape-fits text shape.Number bytes front piece after utf8 e f = other-fits text (number_kind bytes) _ (number-other bytes)
shape-fits text shape.Delimiter bytes front piece after utf8 e f =
    All-cons (TokenFits text) (a_token kind.Delimiter (span_of (length text) (piece ++ after) after)) [] (one-fits text front piece after utf8 e f) (All-nil (TokenFits text))
shape-fits text _ bytes front piece after utf8 e f = other-fits text _ _ refl

within-fits : (n : ℕ) (text : Bytes) (front cs : Chars) → IsUtf8 text → chars text ≡ front ++ cs → All (TokenFits text) (flat_map (token_of (length text)) (pieces_within n cs))
unfolding token_of
within-fits n text front [] utf8 e = All-nil (TokenFits text)
within-fits zero text front (c ∷ cs) utf8 e = All-nil (TokenFits text)
within-fits (suc n) text front (c ∷ cs) utf8 e =
    let f = read-fits c cs in
    let after = (read (c ∷ cs)).1 in
    let there : chars text ≡ front ++ (f.piece ++ after) = e ∙ ap (λ xs. front ++ xs) f.joined in
    All-append (TokenFits text) (token_of (length text) (piece_at (c ∷ cs))) (flat_map (token_of (length text)) (pieces_within n after))
    (subst (λ xs. All (TokenFits text) (token_at (kind_of (read (c ∷ cs)).0 (bytes_of (piece_at (c ∷ cs)))) (span_of (length text) xs after))) (sym f.joined)
    (shape-fits text (read (c ∷ cs)).0 (bytes_of (piece_at (c ∷ cs))) front f.piece after utf8 there f.fits))
    (within-fits n text (front ++ f.piece) after utf8 (there ∙ sym (append_assoc front f.piece after)))

marked-fits : (text : Bytes) (end : ℕ) (ended : Bool) (rs : List Region) (ts : List Token) → All (TokenFits text) ts → All (TokenFits text) (marked text end ended rs ts)
marked-fits text end ended rs [] a = All-nil (TokenFits text)
marked-fits text end ended rs (t ∷ ts) a =
    All-cons (TokenFits text) _ _ (All-head (TokenFits text) t ts a)
    (marked-fits text t.span.end (can_end (role_at text t)) (turned (role_at text t) (template_follows text ts) rs) ts (All-tail (TokenFits text) t ts a))

pub scanned-delimiters : (text : Bytes) → IsUtf8 text → All (λ x. (is_level_token x || is_brace_token x) ≡ true) (lexemes (scanned text))
unfolding scanned tokens_in pieces lexemes lexeme_of
scanned-delimiters text utf8 =
    All-map (λ x. (is_level_token x || is_brace_token x) ≡ true) (lexeme_of text) (scanned text).tokens
    (marked-fits text 0 false [] _ (within-fits (length (chars text)) text [] (chars text) utf8 refl))
