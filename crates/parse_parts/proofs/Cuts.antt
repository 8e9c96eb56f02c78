-- The words of the tokens of a text can be cut out of it, and there are no more tokens than bytes.
use Rattle.std.proofs.Common.{◌≡◌, ℕ, zero, suc, ◌+◌, ◌-◌, ◌≤◌, Bool, true, false, ◌&&◌, if◌then◌else◌, List, [], ◌∷◌, ◌++◌, length, Option, Some, None, encode_utf8_all, refl, ap, sym, ◌∙◌, subst, arith, length-append, append_assoc}
use Rattle.std.specs.List.{All, flat_map}
use Rattle.std.specs.Str.{chars, IsUtf8, IsCharBoundary}
use Rattle.std.proofs.Math.Utf8.{scalar, scalars, encode}
use Rattle.std.proofs.lemmas.Str.{IsCharBoundary-at_seam, scalars-chars, encodes-chars, encodes-append, length-encode, len_utf8_bounds}
use Rattle.std.proofs.lemmas.List.Elements.{All-nil, All-cons, All-head, All-tail, All-append}
use Rattle.pc_terms.specs.declared.problems.Span.{Span}
use Rattle.scan_tokens.specs.declared.regions.Region.{Region}
use Rattle.scan_tokens.specs.declared.shapes.Shape.{Shape}
use Rattle.scan_tokens.specs.declared.shapes.Shape.TheVariants as shape
use Rattle.scan_tokens.specs.declared.tokens.Newline.TheVariants.{No}
use Rattle.scan_tokens.specs.declared.tokens.Token.{Token}
use Rattle.scan_tokens.specs.declared.tokens.TokenKind.{TokenKind}
use Rattle.scan_tokens.specs.declared.tokens.TokenKind.TheVariants as kind
use Rattle.scan_tokens.specs.Characters.{Chars, byte_len, offset}
use Rattle.scan_tokens.specs.Division.{Fits, IsBackquoted}
use Rattle.scan_tokens.specs.Kinds.{is_reserved_word, is_reserved_sign, name_kind, has_suffix, number_kind, kind_of}
use Rattle.scan_tokens.specs.Newlines.{role_at, template_follows, can_end, turned, marked}
use Rattle.scan_tokens.specs.Pieces.{piece_at, pieces_within, pieces, bytes_of, span_of, token_at, token_of, tokens_in}
use Rattle.scan_tokens.specs.Reading.{read}
use Rattle.scan_tokens.specs.Scanned.{scanned}
use Rattle.scan_tokens.specs.Words.{Bytes}
use Rattle.scan_tokens.proofs.Ends.{IsEnd}
use Rattle.scan_tokens.proofs.Fitting.{read-fits}
use Rattle.scan_tokens.proofs.PieceLemmas.{byte_len-end}
use Rattle.parse_parts.specs.Words.{IsCut}

-- ---- where a character begins

both-true : (a b : Bool) → (a && b) ≡ true → b ≡ true
both-true true b e = e
both-true false b e = cc

scalars-back : (front rest : Chars) → scalars (front ++ rest) ≡ true → scalars rest ≡ true
scalars-back [] rest e = e
scalars-back (c ∷ front) rest e = scalars-back front rest (both-true (scalar c) (scalars (front ++ rest)) e)

text-bytes : (text : Bytes) (front rest : Chars) → IsUtf8 text → chars text ≡ front ++ rest → text ≡ encode_utf8_all front ++ encode_utf8_all rest
text-bytes text front rest utf8 e = sym (encodes-chars text utf8) ∙ ap encode_utf8_all e ∙ encodes-append front rest

text-length : (text : Bytes) (front rest : Chars) → IsUtf8 text → chars text ≡ front ++ rest → length text ≡ byte_len front + byte_len rest
text-length text front rest utf8 e =
    ap length (text-bytes text front rest utf8 e) ∙ length-append (encode_utf8_all front) (encode_utf8_all rest)

seam : (text : Bytes) (front rest : Chars) → IsUtf8 text → chars text ≡ front ++ rest → IsCharBoundary text (offset (length text) rest)
seam text front rest utf8 e =
    let all : scalars (front ++ rest) ≡ true = ap scalars (sym e) ∙ scalars-chars text utf8 in
    let here : byte_len front ≡ offset (length text) rest = omega (arith, text-length text front rest utf8 e) in
    subst (IsCharBoundary text) here
    (IsCharBoundary-at_seam text (encode_utf8_all front) (encode_utf8_all rest) (text-bytes text front rest utf8 e) (rest, (scalars-back front rest all, refl)))

-- ---- the token of a piece

abbrev is_quoted : TokenKind → Bool
is_quoted kind.BackId = true
is_quoted _ = false

name-plain : (word : Bytes) → is_quoted (name_kind word) ≡ false
unfolding name_kind
name-plain word = go (is_reserved_word word) (is_reserved_sign word) where
  go : (a b : Bool) → is_quoted (if a then kind.Word else (if b then kind.Sign else kind.Id)) ≡ false
  go true b = refl
  go false true = refl
  go false false = refl

number-plain : (number : Bytes) → is_quoted (number_kind number) ≡ false
unfolding number_kind
number-plain number = go (has_suffix number) _ _ where
  go : (a b d : Bool) → is_quoted (if a then (if b then kind.Long else kind.Error) else (if d then kind.Int else kind.Error)) ≡ false
  go true true d = refl
  go true false d = refl
  go false b true = refl
  go false b false = refl

abbrev a_token : TokenKind → Span → Token
a_token k span = record { kind = k; span = span; before = No }

record IsBetween (text : Bytes) (span : Span) : Type 0 where
  pub starts : IsCharBoundary text span.start
  pub ends : IsCharBoundary text span.end
  pub within : span.end ≤ length text
  pub order : span.start ≤ span.end

plain-cut : (text : Bytes) (k : TokenKind) (span : Span) → is_quoted k ≡ false → IsBetween text span → IsCut text (a_token k span)
plain-cut text kind.BackId span e b = cc
plain-cut text _ span e b = record { starts = b.starts; ends = b.ends; within = b.within; order = b.order }

plain-cuts : (text : Bytes) (k : TokenKind) (span : Span) → is_quoted k ≡ false → IsBetween text span → All (IsCut text) (token_at (Some k) span)
plain-cuts text k span e b = All-cons (IsCut text) (a_token k span) [] (plain-cut text k span e b) (All-nil (IsCut text))

between : (text : Bytes) (front from piece after : Chars) → IsUtf8 text → chars text ≡ front ++ from → from ≡ piece ++ after
    → IsBetween text (span_of (length text) from after)
between text front from piece after utf8 e j =
    let there : chars text ≡ front ++ piece ++ after = e ∙ ap (λ xs. front ++ xs) j ∙ sym (append_assoc front piece after) in
    let is_end : IsEnd from after = record { front = piece; joined = j } in
    record {
      starts = seam text front from utf8 e;
      ends = seam text (front ++ piece) after utf8 there;
      within = omega arith;
      order = (let shorter = byte_len-end from after is_end in omega arith);
    }

one_byte : (cs : Chars) → byte_len (96 ∷ cs) ≡ byte_len cs + 1
unfolding encode
one_byte cs = (let step : encode_utf8_all (96 ∷ cs) ≡ 96 ∷ encode_utf8_all cs = refl in omega (arith, ap length step))

quoted-cut : (text : Bytes) (front from piece after : Chars) → IsUtf8 text → chars text ≡ front ++ from → from ≡ piece ++ after
    → IsBackquoted piece → IsCut text (a_token kind.BackId (span_of (length text) from after))
quoted-cut text front from piece after utf8 e j q =
    record {
      starts = subst (IsCharBoundary text) start_is (seam text (front ++ 96 ∷ []) inner utf8 first_cut);
      ends = subst (IsCharBoundary text) end_is (seam text (front ++ 96 ∷ (q.first ∷ q.others)) (96 ∷ after) utf8 last_cut);
      within = omega arith;
      order = (let shorter = byte_len-end inner (96 ∷ after) (record { front = q.first ∷ q.others; joined = refl }) in omega (arith, start_is, end_is));
    }
  where
    inner : Chars
    inner = (q.first ∷ q.others) ++ 96 ∷ after

    from_is : from ≡ 96 ∷ (q.first ∷ q.others) ++ 96 ∷ after
    from_is = j ∙ ap (λ xs. xs ++ after) q.text ∙ ap (λ xs. 96 ∷ q.first ∷ xs) (append_assoc q.others (96 ∷ []) after)

    first_cut : chars text ≡ (front ++ 96 ∷ []) ++ ((q.first ∷ q.others) ++ 96 ∷ after)
    first_cut = e ∙ ap (λ xs. front ++ xs) from_is ∙ sym (append_assoc front (96 ∷ []) ((q.first ∷ q.others) ++ 96 ∷ after))

    last_cut : chars text ≡ (front ++ 96 ∷ (q.first ∷ q.others)) ++ 96 ∷ after
    last_cut = e ∙ ap (λ xs. front ++ xs) from_is ∙ sym (append_assoc front (96 ∷ (q.first ∷ q.others)) (96 ∷ after))

    start_is : offset (length text) ((q.first ∷ q.others) ++ 96 ∷ after) ≡ offset (length text) from + 1
    start_is =
        let long = text-length text (front ++ 96 ∷ []) ((q.first ∷ q.others) ++ 96 ∷ after) utf8 first_cut in
        let all = text-length text front from utf8 e in
        let one = ap byte_len from_is ∙ one_byte ((q.first ∷ q.others) ++ 96 ∷ after) in
        omega arith

    end_is : offset (length text) (96 ∷ after) ≡ offset (length text) after - 1
    end_is = (let one = one_byte after in omega arith)

shape-cuts : (text : Bytes) (s : Shape) (bytes : Bytes) (front from piece after : Chars) → IsUtf8 text → chars text ≡ front ++ from → from ≡ piece ++ after
    → Fits s piece after → All (IsCut text) (token_at (kind_of s bytes) (span_of (length text) from after))
shape-cuts text shape.Space bytes front from piece after utf8 e j f = All-nil (IsCut text)
shape-cuts text shape.Comment bytes front from piece after utf8 e j f = All-nil (IsCut text)
shape-cuts text shape.Plain bytes front from piece after utf8 e j f =
    plain-cuts text (name_kind bytes) _ (name-plain bytes) (between text front from piece after utf8 e j)
shape-cuts text shape.Operator bytes front from piece after utf8 e j f =
    plain-cuts text (name_kind bytes) _ (name-plain bytes) (between text front from piece after utf8 e j)
shape-cuts text shape.Number bytes front from piece after utf8 e j f =
    plain-cuts text (number_kind bytes) _ (number-plain bytes) (between text front from piece after utf8 e j)
shape-cuts text shape.Backquoted bytes front from piece after utf8 e j f =
    All-cons (IsCut text) (a_token kind.BackId (span_of (length text) from after)) [] (quoted-cut text front from piece after utf8 e j f) (All-nil (IsCut text))
shape-cuts text _ bytes front from piece after utf8 e j f = plain-cuts text _ _ refl (between text front from piece after utf8 e j)

-- ---- all tokens

within-cuts : (n : ℕ) (text : Bytes) (front cs : Chars) → IsUtf8 text → chars text ≡ front ++ cs
    → All (IsCut text) (flat_map (token_of (length text)) (pieces_within n cs))
unfolding token_of
within-cuts n text front [] utf8 e = All-nil (IsCut text)
within-cuts zero text front (c ∷ cs) utf8 e = All-nil (IsCut text)
within-cuts (suc n) text front (c ∷ cs) utf8 e =
    let f = read-fits c cs in
    let after = (read (c ∷ cs)).1 in
    let there : chars text ≡ front ++ f.piece ++ after = e ∙ ap (λ xs. front ++ xs) f.joined ∙ sym (append_assoc front f.piece after) in
    All-append (IsCut text) (token_of (length text) (piece_at (c ∷ cs))) (flat_map (token_of (length text)) (pieces_within n after))
    (shape-cuts text (read (c ∷ cs)).0 (bytes_of (piece_at (c ∷ cs))) front (c ∷ cs) f.piece after utf8 e f.joined f.fits)
    (within-cuts n text (front ++ f.piece) after utf8 there)

marked-cuts : (text : Bytes) (end : ℕ) (ended : Bool) (rs : List Region) (ts : List Token) → All (IsCut text) ts → All (IsCut text) (marked text end ended rs ts)
marked-cuts text end ended rs [] cuts = All-nil (IsCut text)
marked-cuts text end ended rs (t ∷ ts) cuts =
    let cut = All-head (IsCut text) t ts cuts in
    All-cons (IsCut text) _ _ (record { starts = cut.starts; ends = cut.ends; within = cut.within; order = cut.order })
    (marked-cuts text t.span.end (can_end (role_at text t)) (turned (role_at text t) (template_follows text ts) rs) ts (All-tail (IsCut text) t ts cuts))

pub scanned-cuts : (text : Bytes) → IsUtf8 text → All (IsCut text) (scanned text).tokens
unfolding scanned tokens_in pieces
scanned-cuts text utf8 = marked-cuts text 0 false [] _ (within-cuts (length (chars text)) text [] (chars text) utf8 refl)

-- ---- no more than bytes

marked-length : (text : Bytes) (end : ℕ) (ended : Bool) (rs : List Region) (ts : List Token) → length (marked text end ended rs ts) ≡ length ts
marked-length text end ended rs [] = refl
marked-length text end ended rs (t ∷ ts) =
    (let same = marked-length text t.span.end (can_end (role_at text t)) (turned (role_at text t) (template_follows text ts) rs) ts in omega arith)

token-one : (k : Option TokenKind) (span : Span) → length (token_at k span) ≤ 1
token-one None span = omega arith
token-one (Some k) span = omega arith

within-few : (n total : ℕ) (cs : Chars) → length (flat_map (token_of total) (pieces_within n cs)) ≤ n
unfolding token_of
within-few n total [] = omega arith
within-few zero total (c ∷ cs) = omega arith
within-few (suc n) total (c ∷ cs) =
    let one = token-one (kind_of (read (c ∷ cs)).0 (bytes_of (piece_at (c ∷ cs)))) (span_of total (c ∷ cs) (read (c ∷ cs)).1) in
    let rest = within-few n total (read (c ∷ cs)).1 in
    omega (arith, length-append (token_of total (piece_at (c ∷ cs))) (flat_map (token_of total) (pieces_within n (read (c ∷ cs)).1)))

characters-few : (cs : Chars) → length cs ≤ byte_len cs
characters-few [] = omega arith
characters-few (c ∷ cs) =
    let some = (len_utf8_bounds c).0 in
    let rest = characters-few cs in
    omega (arith, length-encode c, length-append (encode c) (encode_utf8_all cs))

pub scanned-few : (text : Bytes) → IsUtf8 text → length (scanned text).tokens ≤ length text
unfolding scanned tokens_in pieces
scanned-few text utf8 =
    let cs = chars text in
    let bytes = ap length (encodes-chars text utf8) in
    let few = within-few (length cs) (length text) cs in
    let fewer = characters-few cs in
    omega (arith, marked-length text 0 false [] (flat_map (token_of (length text)) (pieces_within (length cs) cs)))
