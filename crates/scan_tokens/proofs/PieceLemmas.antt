-- The pieces of a text, step by step.
use Rattle.std.proofs.Common.{◌≡◌, ℕ, zero, suc, ◌≤◌, List, [], ◌∷◌, ◌++◌, length, Option, Some, None, encode_utf8_all, refl, ap, sym, ◌∙◌, append_assoc, length-append, arith}
use Rattle.std.specs.List.{flat_map}
use Rattle.std.specs.Str.{chars}
use Rattle.std.proofs.lemmas.Str.{encodes-append}
use Rattle.pc_terms.specs.declared.problems.Problem.{Problem}
use Rattle.scan_tokens.specs.declared.tokens.Token.{Token}
use Rattle.scan_tokens.specs.declared.tokens.TokenKind.{TokenKind}
use Rattle.scan_tokens.specs.Characters.{Chars, byte_len, offset}
use Rattle.scan_tokens.specs.Order.{AreInOrder}
use Rattle.scan_tokens.specs.Reading.{read}
use Rattle.scan_tokens.specs.Pieces.{piece_at, pieces_within, pieces, span_of, token_at, token_of, problems_of, tokens_in, problems_in}
use Rattle.scan_tokens.proofs.Ends.{IsEnd, IsEnd-more, read-end, IsEnd-length}

read_shorter : (c : ℕ) (cs : Chars) → length (read (c ∷ cs)).1 ≤ length cs
read_shorter c cs = IsEnd-length cs (read (c ∷ cs)).1 (read-end c cs)

-- any number that is large enough gives the same pieces
pieces_within-same : (n m : ℕ) (cs : Chars) → length cs ≤ n → length cs ≤ m → pieces_within n cs ≡ pieces_within m cs
pieces_within-same n m [] p q = refl
pieces_within-same zero m (c ∷ cs) p q = absurd (omega arith)
pieces_within-same (suc n) zero (c ∷ cs) p q = absurd (omega arith)
pieces_within-same (suc n) (suc m) (c ∷ cs) p q =
    let shorter = read_shorter c cs in
    ap (λ ps. piece_at (c ∷ cs) ∷ ps) (pieces_within-same n m (read (c ∷ cs)).1 (omega arith) (omega arith))

pub pieces-cons : (c : ℕ) (cs : Chars) → pieces (c ∷ cs) ≡ piece_at (c ∷ cs) ∷ pieces (read (c ∷ cs)).1
unfolding pieces
pieces-cons c cs =
    let shorter = read_shorter c cs in
    ap (λ ps. piece_at (c ∷ cs) ∷ ps) (pieces_within-same (length cs) (length (read (c ∷ cs)).1) (read (c ∷ cs)).1 shorter (omega arith))

tokens_in-step : (total : ℕ) (cs : Chars) → tokens_in total cs ≡ token_of total (piece_at cs) ++ tokens_in total (piece_at cs).after
unfolding tokens_in pieces token_of read
tokens_in-step total [] = refl
tokens_in-step total (c ∷ cs) = ap (flat_map (token_of total)) (pieces-cons c cs)

problems_in-step : (total : ℕ) (cs : Chars) → problems_in total cs ≡ problems_of total (piece_at cs) ++ problems_in total (piece_at cs).after
unfolding problems_in pieces problems_of read
problems_in-step total [] = refl
problems_in-step total (c ∷ cs) = ap (flat_map (problems_of total)) (pieces-cons c cs)

-- what is found in the next piece and in the rest is found in all of them
pub tokens_in-carried : (total : ℕ) (cs after : Chars) (found next all : List Token)
    → next ≡ found ++ token_of total (piece_at cs) → after ≡ (piece_at cs).after → found ++ tokens_in total cs ≡ all → next ++ tokens_in total after ≡ all
tokens_in-carried total cs after found next all e f g =
    ap (λ ts. ts ++ tokens_in total after) e ∙ append_assoc found _ _ ∙ ap (λ ds. found ++ (token_of total (piece_at cs) ++ tokens_in total ds)) f
    ∙ ap (λ ts. found ++ ts) (sym (tokens_in-step total cs)) ∙ g

pub problems_in-carried : (total : ℕ) (cs after : Chars) (found next all : List Problem)
    → next ≡ found ++ problems_of total (piece_at cs) → after ≡ (piece_at cs).after → found ++ problems_in total cs ≡ all → next ++ problems_in total after ≡ all
problems_in-carried total cs after found next all e f g =
    ap (λ ts. ts ++ problems_in total after) e ∙ append_assoc found _ _ ∙ ap (λ ds. found ++ (problems_of total (piece_at cs) ++ problems_in total ds)) f
    ∙ ap (λ ts. found ++ ts) (sym (problems_in-step total cs)) ∙ g

pub tokens_in-nil : (total : ℕ) (bytes : List ℕ) → length bytes ≡ 0 → tokens_in total (chars bytes) ≡ []
unfolding tokens_in pieces chars
tokens_in-nil total [] e = refl
tokens_in-nil total (b ∷ bs) e = absurd (omega arith)

pub problems_in-nil : (total : ℕ) (bytes : List ℕ) → length bytes ≡ 0 → problems_in total (chars bytes) ≡ []
unfolding problems_in pieces chars
problems_in-nil total [] e = refl
problems_in-nil total (b ∷ bs) e = absurd (omega arith)

-- ---- the order of the tokens

AreInOrder-earlier : (total at before : ℕ) (ts : List Token) → before ≤ at → AreInOrder total at ts → AreInOrder total before ts
AreInOrder-earlier total at before [] e o = tt
AreInOrder-earlier total at before (t ∷ ts) e o = (omega arith, o.1, o.2)

pub byte_len-end : (cs rest : Chars) → IsEnd cs rest → byte_len rest ≤ byte_len cs
byte_len-end cs rest e = rw (e.joined, encodes-append e.front rest, length-append (encode_utf8_all e.front) (encode_utf8_all rest)) (omega arith)

token_at-order : (kind : Option TokenKind) (total : ℕ) (from after : Chars) (ts : List Token)
    → byte_len after ≤ byte_len from → AreInOrder total (offset total after) ts → AreInOrder total (offset total from) (token_at kind (span_of total from after) ++ ts)
token_at-order None total from after ts e o = AreInOrder-earlier total (offset total after) (offset total from) ts (omega arith) o
token_at-order (Some kind) total from after ts e o = (omega arith, (omega arith, omega arith), o)

pieces_within-order : (n total : ℕ) (cs : Chars) → AreInOrder total (offset total cs) (flat_map (token_of total) (pieces_within n cs))
unfolding token_of
pieces_within-order n total [] = tt
pieces_within-order zero total (c ∷ cs) = tt
pieces_within-order (suc n) total (c ∷ cs) =
    let after = (read (c ∷ cs)).1 in
    let shorter = byte_len-end (c ∷ cs) after (IsEnd-more c cs after (read-end c cs)) in
    token_at-order _ total (c ∷ cs) after _ shorter (pieces_within-order n total after)

pub tokens_in-order : (total : ℕ) (cs : Chars) → AreInOrder total 0 (tokens_in total cs)
unfolding tokens_in pieces
tokens_in-order total cs = AreInOrder-earlier total (offset total cs) 0 _ (omega arith) (pieces_within-order (length cs) total cs)
