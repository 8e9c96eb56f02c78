-- A list is divided in one way, which is the reader's.
use Rattle.std.proofs.Common.{◌≡◌, ℕ, zero, suc, ◌+◌, ◌-◌, Bool, true, false, if◌then◌else◌, List, [], ◌∷◌, ◌++◌, map, length, take, drop, Option, Some, None, refl, ap, sym, ◌∙◌, subst, le_antisymm, arith, length-append}
use Rattle.std.proofs.Math.Seq.{drop-append_seam}
use Rattle.std.proofs.lemmas.List.{drop-map, take-map, append_assoc}
use Rattle.reading_machines.specs.Machines.{Machine}
use Rattle.reading_machines.specs.Parts.{IsBest, IsLongest, HasNone}
use Rattle.expr_tails.specs.declared.items.Built.{Built}
use Rattle.parse_exprs.specs.declared.lists.Cut.{Cut}
use Rattle.parse_exprs.specs.Items.{depth_behind}
use Rattle.parse_exprs.specs.Lists.{Elements, Piece, before_separator, items_span, cut_of, pieces_by, longest, cuts_behind}
use Rattle.list_laws.specs.Divided.{at_semicolon, may_follow, up_to_separator, Divided, NoMore, Semicolon, Statement, Broken, parts, piece_shown}

module _ {I J S : Type 0} (e : Elements I) (picture : J → I) (Is : List J → Type 0) (statements : Machine S I) (built : S → ℕ → Built) where
  abbrev pub noted_at : List J → Option ℕ
  noted_at js = longest e statements built (map picture js)

  -- at each end of the list the reader notes the longest statement
  abbrev pub AllBest : List J → Type 0
  AllBest [] = Unit {0}
  AllBest (j ∷ js) = IsBest Is (may_follow e picture Is) (j ∷ js) (noted_at (j ∷ js)) × AllBest js

  abbrev D : List J → Type 0
  D js = Divided e picture Is js

  module _ (some : Is [] → ⊥) where
    pub divided-from : (n : ℕ) (js : List J) → AllBest js → D (drop n js)
    divided-from zero [] b = NoMore
    divided-from (suc n) [] b = NoMore
    divided-from (suc n) (j ∷ js) b = divided-from n js b.1
    divided-from zero (j ∷ js) b = go (at_semicolon e picture Is j) refl (noted_at (j ∷ js)) b.0 (divided-from zero js b.1) (λ n. divided-from n js b.1) where
      go : (s : Bool) → at_semicolon e picture Is j ≡ s → (o : Option ℕ) → IsBest Is (may_follow e picture Is) (j ∷ js) o → D js → ((n : ℕ) → D (drop n js)) → D (j ∷ js)
      go true s o b on after = Semicolon j js s on
      go false s (Some zero) b on after = absurd (some b.part)
      go false s (Some (suc n)) b on after = Statement j js (suc n) s b (after n)
      go false s None b on after = Broken j js s b (after (before_separator e (depth_behind 0 (e.symbol (picture j))) (map picture js)))

    -- ---- one division

    same-count : (follows : List J → Bool) (js : List J) (m n : ℕ) → IsLongest Is follows js m → IsLongest Is follows js n → m ≡ n
    same-count follows js m n a b = le_antisymm (b.longest m a.within a.part a.followed) (a.longest n b.within b.part b.followed)

    -- what the reader notes is the statement of a division
    noted-count : (js : List J) (count : ℕ) (o : Option ℕ) → IsLongest Is (may_follow e picture Is) js count → IsBest Is (may_follow e picture Is) js o → o ≡ Some count
    noted-count js count None a b = absurd (b count a.within a.part a.followed)
    noted-count js count (Some n) a b = ap Some (same-count (may_follow e picture Is) js n count b a)

    noted-none : (js : List J) (o : Option ℕ) → HasNone Is (may_follow e picture Is) js → IsBest Is (may_follow e picture Is) js o → o ≡ None
    noted-none js None a b = refl
    noted-none js (Some n) a b = absurd (a n b.within b.part b.followed)

    abbrev cuts : ℕ → ℕ → List I → List Cut
    cuts n skip is = cuts_behind e statements built n skip is

    abbrev piece : List J → Bool → Piece I
    piece js broken = piece_shown e picture Is (record { items = js; broken = broken })

    passed : (n : ℕ) (is : List I) → cuts n 0 is ≡ cuts 0 0 (drop n is)
    passed zero is = refl
    passed (suc n) [] = refl
    passed (suc n) (i ∷ is) = passed n is

    abbrev cut_over : ℕ → ℕ → Bool → List I → Cut
    cut_over skip count broken is = record { skip = skip; count = count; broken = broken; span = items_span e (take count is) }

    -- a cut after as many `;` as stand in front
    cut-on : (front : List I) (j : J) (js : List J) (m : ℕ) (broken : Bool)
        → pieces_by e (cut_over (length front) (suc m) broken (map picture (j ∷ js)) ∷ cuts m 0 (map picture js)) (front ++ map picture (j ∷ js))
        ≡ piece (take (suc m) (j ∷ js)) broken ∷ pieces_by e (cuts 0 0 (map picture (drop m js))) (map picture (drop m js))
    cut-on front j js m broken =
        ap (λ l. record { items = take (suc m) l; broken = broken; span = items_span e (take (suc m) (map picture (j ∷ js))) } ∷ pieces_by e (cuts m 0 (map picture js)) (drop (suc m) l)) (drop-append_seam front (map picture (j ∷ js)))
        ∙ ap (λ l. record { items = l; broken = broken; span = items_span e l } ∷ pieces_by e (cuts m 0 (map picture js)) (drop m (map picture js))) (take-map picture (suc m) (j ∷ js))
        ∙ ap (λ cs. piece (take (suc m) (j ∷ js)) broken ∷ pieces_by e cs (drop m (map picture js))) (passed m (map picture js))
        ∙ ap (λ l. piece (take (suc m) (j ∷ js)) broken ∷ pieces_by e (cuts 0 0 l) l) (drop-map picture m js)

    all-behind : (n : ℕ) (js : List J) → AllBest js → AllBest (drop n js)
    all-behind zero js b = b
    all-behind (suc n) [] b = b
    all-behind (suc n) (j ∷ js) b = all-behind n js b.1

    -- the first cut, where the first item is no `;`
    first-cut : (skip : ℕ) (j : J) (js : List J) → at_semicolon e picture Is j ≡ false
        → cuts 0 skip (map picture (j ∷ js)) ≡ cut_of e skip (noted_at (j ∷ js)) (map picture (j ∷ js)) ∷ cuts ((cut_of e skip (noted_at (j ∷ js)) (map picture (j ∷ js))).count - 1) 0 (map picture js)
    first-cut skip j js s = ap (λ b. if b then cuts 0 (skip + 1) (map picture js) else cut ∷ cuts (cut.count - 1) 0 (map picture js)) s where
      cut : Cut
      cut = cut_of e skip (noted_at (j ∷ js)) (map picture (j ∷ js))

    one-less : (m : ℕ) → suc m - 1 ≡ m
    one-less m = omega arith

    pub pieces-of : {js : List J} → AllBest js → (d : D js) (front : List I)
        → pieces_by e (cuts 0 (length front) (map picture js)) (front ++ map picture js) ≡ map (piece_shown e picture Is) (parts e picture Is d)
    pieces-of b NoMore front = refl
    pieces-of b (Semicolon j js s d) front =
        ap (λ t. pieces_by e (if t then cuts 0 (length front + 1) (map picture js) else cut ∷ cuts (cut.count - 1) 0 (map picture js)) (front ++ map picture (j ∷ js))) s
        ∙ ap (λ n. pieces_by e (cuts 0 n (map picture js)) (front ++ map picture (j ∷ js))) (sym (length-append front (picture j ∷ [])))
        ∙ ap (pieces_by e (cuts 0 (length (front ++ picture j ∷ [])) (map picture js))) (sym (append_assoc front (picture j ∷ []) (map picture js)))
        ∙ pieces-of b.1 d (front ++ picture j ∷ [])
      where
        cut : Cut
        cut = cut_of e (length front) (noted_at (j ∷ js)) (map picture (j ∷ js))
    pieces-of b (Statement j js zero s longest d) front = absurd (some longest.part)
    pieces-of b (Statement j js (suc m) s longest d) front =
        ap (λ cs. pieces_by e cs (front ++ map picture (j ∷ js))) (first-cut (length front) j js s)
        ∙ ap (λ o. pieces_by e (cut_of e (length front) o (map picture (j ∷ js)) ∷ cuts ((cut_of e (length front) o (map picture (j ∷ js))).count - 1) 0 (map picture js)) (front ++ map picture (j ∷ js)))
        (noted-count (j ∷ js) (suc m) (noted_at (j ∷ js)) longest b.0)
        ∙ ap (λ n. pieces_by e (cut_over (length front) (suc m) false (map picture (j ∷ js)) ∷ cuts n 0 (map picture js)) (front ++ map picture (j ∷ js))) (one-less m)
        ∙ cut-on front j js m false
        ∙ ap (λ ps. piece (take (suc m) (j ∷ js)) false ∷ ps) (pieces-of (all-behind m js b.1) d [])
    pieces-of b (Broken j js s none d) front =
        ap (λ cs. pieces_by e cs (front ++ map picture (j ∷ js))) (first-cut (length front) j js s)
        ∙ ap (λ o. pieces_by e (cut_of e (length front) o (map picture (j ∷ js)) ∷ cuts ((cut_of e (length front) o (map picture (j ∷ js))).count - 1) 0 (map picture js)) (front ++ map picture (j ∷ js)))
        (noted-none (j ∷ js) (noted_at (j ∷ js)) none b.0)
        ∙ ap (λ n. pieces_by e (cut_over (length front) (suc m) true (map picture (j ∷ js)) ∷ cuts n 0 (map picture js)) (front ++ map picture (j ∷ js))) (one-less m)
        ∙ cut-on front j js m true
        ∙ ap (λ ps. piece (take (suc m) (j ∷ js)) true ∷ ps) (pieces-of (all-behind m js b.1) d [])
      where
        m : ℕ
        m = before_separator e (depth_behind 0 (e.symbol (picture j))) (map picture js)

    pub one-division : {js : List J} (a b : D js) → parts e picture Is a ≡ parts e picture Is b
    one-division NoMore NoMore = refl
    one-division (Semicolon j js s d) (Semicolon _ _ t f) = one-division d f
    one-division (Semicolon j js s d) (Statement _ _ n t b f) = (let both : true ≡ false = sym s ∙ t in cc)
    one-division (Semicolon j js s d) (Broken _ _ t b f) = (let both : true ≡ false = sym s ∙ t in cc)
    one-division (Statement j js m s a d) (Semicolon _ _ t f) = (let both : true ≡ false = sym t ∙ s in cc)
    one-division (Statement j js m s a d) (Statement _ _ n t b f) =
        subst (λ k. (f : D (drop k (j ∷ js))) → record { items = take m (j ∷ js); broken = false } ∷ parts e picture Is d ≡ record { items = take k (j ∷ js); broken = false } ∷ parts e picture Is f)
        (same-count (may_follow e picture Is) (j ∷ js) m n a b) (λ g. ap (λ ps. record { items = take m (j ∷ js); broken = false } ∷ ps) (one-division d g)) f
    one-division (Statement j js m s a d) (Broken _ _ t b f) = absurd (b m a.within a.part a.followed)
    one-division (Broken j js s a d) (Semicolon _ _ t f) = (let both : true ≡ false = sym t ∙ s in cc)
    one-division (Broken j js s a d) (Statement _ _ n t b f) = absurd (a n b.within b.part b.followed)
    one-division (Broken j js s a d) (Broken _ _ t b f) = ap (λ ps. record { items = take (up_to_separator e picture Is (j ∷ js)) (j ∷ js); broken = true } ∷ ps) (one-division d f)
