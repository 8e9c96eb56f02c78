-- The pieces that are read are the one division of a text.
use Rattle.std.proofs.Common.{◌≡◌, ℕ, zero, suc, ◌≤◌, false, inl, inr, List, [], ◌∷◌, ◌++◌, length, refl, ap, sym, ◌∙◌, subst, arith, length-append, append-nil}
use Rattle.scan_tokens.specs.declared.shapes.Shape.{Shape}
use Rattle.scan_tokens.specs.declared.shapes.Shape.TheVariants as shape
use Rattle.scan_tokens.specs.declared.characters.Class.TheVariants as class
use Rattle.scan_tokens.specs.Characters.{Chars, is_space}
use Rattle.scan_tokens.specs.Reading.{comment, read}
use Rattle.scan_tokens.specs.Pieces.{Piece, piece_at, pieces_within, pieces}
use Rattle.scan_tokens.specs.Division.{Fits, IsNext, IsDivision, IsOpenComment, IsRun, inside_text}
use Rattle.scan_tokens.proofs.Ends.{IsEnd-length, read-end}
use Rattle.scan_tokens.proofs.Steps.{IsEnd-all}
use Rattle.scan_tokens.proofs.Covering.{Covers, reached, read-as, slash, Space-covers, Number-covers, Delimiter-covers, Comment-covers, quoted-covers, Illegal-covers, Interpolated-fits, Backquoted-fits, Character-fits, Plain-fits, Operator-fits, Apostrophe-covers}
use Rattle.scan_tokens.proofs.Fitting.{Commented, insides_text, comment-sound, read-fits}
use Rattle.scan_tokens.proofs.Ends.{whole}

OpenComment-covers : (piece after : Chars) → IsOpenComment piece after → Covers shape.OpenComment after (read (piece ++ after))
OpenComment-covers piece after e =
    rw (e.last, append-nil piece, e.text, read-as 47 (42 ∷ e.rest) class.Operator slash) (go (comment-sound 0 false e.rest)) where
      go : Commented 0 e.rest (comment 0 false e.rest) → Covers shape.OpenComment [] (comment 0 false e.rest)
      go (inr o) = rw o (reached shape.OpenComment [] [] (whole []))
      go (inl c) =
          let front = 47 ∷ 42 ∷ inside_text c.inner in
          let back = insides_text c.outer ++ (comment 0 false e.rest).1 in
          absurd (e.not_closed front back (e.text ∙ ap (λ xs. 47 ∷ 42 ∷ xs) c.joined) (record { inside = c.inner; proper = c.inner_proper; text = refl }))

Space-fits : (piece after : Chars) → Fits shape.Space piece after → Covers shape.Space after (read (piece ++ after))
Space-fits piece after e = rw e.text (Space-covers e.first e.others after e.begins e.runs)

Number-fits : (piece after : Chars) → Fits shape.Number piece after → Covers shape.Number after (read (piece ++ after))
Number-fits piece after e = rw e.text (Number-covers e.first e.others after e.begins e.runs)

fits-covers : (s : Shape) (piece after : Chars) → Fits s piece after → Covers s after (read (piece ++ after))
fits-covers shape.Space piece after e = Space-fits piece after e
fits-covers shape.Comment piece after e = Comment-covers piece after e
fits-covers shape.OpenComment piece after e = OpenComment-covers piece after e
fits-covers shape.Plain piece after e = Plain-fits piece after e
fits-covers shape.Operator piece after e = Operator-fits piece after e
fits-covers shape.Backquoted piece after e = Backquoted-fits piece after e
fits-covers shape.Number piece after e = Number-fits piece after e
fits-covers shape.Character piece after e = Character-fits piece after e
fits-covers shape.Apostrophe piece after e = rw e.text (Apostrophe-covers e.first after e.begins)
fits-covers shape.LineString piece after e = quoted-covers shape.LineString piece after e
fits-covers shape.RawString piece after e = quoted-covers shape.RawString piece after e
fits-covers shape.OpenString piece after e = quoted-covers shape.OpenString piece after e
fits-covers shape.Interpolated piece after e = Interpolated-fits piece after e
fits-covers shape.Delimiter piece after e = rw e.text (Delimiter-covers e.first after e.begins)
fits-covers shape.Illegal piece after e = Illegal-covers piece after e

-- the same, where the text is known by another name
text-covers : (s : Shape) (text piece after : Chars) → text ≡ piece ++ after → Fits s piece after → Covers s after (read text)
text-covers s text piece after j e = let P : Chars → Type 0 = λ xs. Covers s after (read xs) in subst P (sym j) (fits-covers s piece after e)

-- no piece of the text is longer than the one that is read
read-next : (c : ℕ) (cs : Chars) → IsNext (c ∷ cs) (piece_at (c ∷ cs))
read-next c cs =
    let f = read-fits c cs in
    record {
      from = refl;
      piece = f.piece;
      joined = f.joined;
      fits = f.fits;
      longest = λ s other after j e. (
          let goes = (text-covers s (c ∷ cs) other after j e).goes in
          let within = IsEnd-length after _ goes in
          omega (arith, ap length f.joined, ap length j, length-append f.piece (read (c ∷ cs)).1, length-append other after));
    }

pieces_within-division : (n : ℕ) (cs : Chars) → length cs ≤ n → IsDivision cs (pieces_within n cs)
pieces_within-division n [] l = refl
pieces_within-division zero (c ∷ cs) l = absurd (omega arith)
pieces_within-division (suc n) (c ∷ cs) l =
    let shorter = IsEnd-length cs (read (c ∷ cs)).1 (read-end c cs) in
    (read-next c cs, pieces_within-division n (read (c ∷ cs)).1 (omega arith))

pub pieces-division : (text : Chars) → IsDivision text (pieces text)
unfolding pieces
pieces-division text = pieces_within-division (length text) text (omega arith)

piece_same : (p : Piece) (s : Shape) (from after : Chars) → p.shape ≡ s → p.from ≡ from → p.after ≡ after → p ≡ record { shape = s; from = from; after = after }
piece_same p s from after e f g =
    ap (λ k. record { shape = k; from = p.from; after = p.after }) e
    ∙ ap (λ k. record { shape = s; from = k; after = p.after }) f
    ∙ ap (λ k. record { shape = s; from = from; after = k }) g

next-unique : (c : ℕ) (cs : Chars) (p : Piece) → IsNext (c ∷ cs) p → p ≡ piece_at (c ∷ cs)
next-unique c cs p d =
    let f = read-fits c cs in
    let covers = text-covers p.shape (c ∷ cs) d.piece p.after d.joined d.fits in
    let longest = d.longest (read (c ∷ cs)).0 f.piece (read (c ∷ cs)).1 f.joined f.fits in
    let within : length p.after ≤ length (read (c ∷ cs)).1 =
    omega (arith, ap length f.joined, ap length d.joined, length-append f.piece (read (c ∷ cs)).1, length-append d.piece p.after) in
    let same = IsEnd-all p.after (read (c ∷ cs)).1 covers.goes within in
    piece_same p (read (c ∷ cs)).0 (c ∷ cs) (read (c ∷ cs)).1 (sym (covers.same same)) d.from (sym same)

-- nothing is written with no characters
no_empty_run : IsRun class.Space is_space [] → ⊥
no_empty_run r = let e = r.text in cc

nothing_empty : (s : Shape) → Fits s [] [] → ⊥
unfolding read
nothing_empty s e =
    let P : Shape → Type 0 = λ k. Fits k [] [] in
    let space : shape.Space ≡ s = (text-covers s [] [] [] refl e).same refl in
    no_empty_run (subst P (sym space) e)

nothing_next : (p : Piece) → IsNext [] p → ⊥
nothing_next p d = go d.piece p.after d.joined d.fits where
  go : (piece after : Chars) → [] ≡ piece ++ after → Fits p.shape piece after → ⊥
  go [] [] j e = nothing_empty p.shape e
  go [] (x ∷ xs) j e = cc
  go (x ∷ xs) after j e = cc

pieces_within-unique : (n : ℕ) (cs : Chars) (ps : List Piece) → length cs ≤ n → IsDivision cs ps → ps ≡ pieces_within n cs
pieces_within-unique n [] [] l d = refl
pieces_within-unique n [] (p ∷ ps) l d = absurd (nothing_next p d.0)
pieces_within-unique zero (c ∷ cs) ps l d = absurd (omega arith)
pieces_within-unique (suc n) (c ∷ cs) [] l d = cc
pieces_within-unique (suc n) (c ∷ cs) (p ∷ ps) l d =
    let shorter = IsEnd-length cs (read (c ∷ cs)).1 (read-end c cs) in
    let same = next-unique c cs p d.0 in
    let P : Chars → Type 0 = λ xs. IsDivision xs ps in
    let left : IsDivision (read (c ∷ cs)).1 ps = subst P (ap (λ (q : Piece). q.after) same) d.1 in
    ap (λ q. q ∷ ps) same ∙ ap (λ qs. piece_at (c ∷ cs) ∷ qs) (pieces_within-unique n (read (c ∷ cs)).1 ps (omega arith) left)

pub pieces-unique : (text : Chars) (ps : List Piece) → IsDivision text ps → ps ≡ pieces text
unfolding pieces
pieces-unique text ps d = pieces_within-unique (length text) text ps (omega arith) d
