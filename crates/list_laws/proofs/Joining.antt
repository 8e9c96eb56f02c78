-- Divisions put together from the front.
use Rattle.std.proofs.Common.{◌≡◌, ℕ, suc, Bool, true, false, List, [], ◌∷◌, ◌++◌, length, take, drop, refl, ap, sym, ◌∙◌, subst}
use Rattle.std.proofs.Math.Seq.{drop-append_seam}
use Rattle.reading_machines.specs.Parts.{IsLongest, HasNone}
use Rattle.parse_exprs.specs.Lists.{Elements}
use Rattle.list_laws.specs.Divided.{Part, at_semicolon, may_follow, up_to_separator, Divided, NoMore, Semicolon, Statement, Broken, parts}

pub take-front : {J : Type 0} (front rest : List J) → take (length front) (front ++ rest) ≡ front
take-front [] rest = refl
take-front (j ∷ front) rest = ap (λ l. j ∷ l) (take-front front rest)

abbrev pub part : {J : Type 0} → List J → Bool → Part J
part items broken = record { items = items; broken = broken }

module _ {I J : Type 0} (e : Elements I) (picture : J → I) (Is : List J → Type 0) where
  -- these items can be divided into these parts
  pub record DividedAs (js : List J) (ps : List (Part J)) : Type 0 where
    pub division : Divided e picture Is js
    pub same : parts e picture Is division ≡ ps

  abbrev pub begins_semicolon : List J → Bool
  begins_semicolon [] = false
  begins_semicolon (j ∷ js) = at_semicolon e picture Is j

  pub moved : (js ks : List J) (ps : List (Part J)) → js ≡ ks → DividedAs js ps → DividedAs ks ps
  moved js ks ps same d = subst (λ l. DividedAs l ps) same d

  pub no-more : DividedAs [] []
  no-more = record { division = NoMore; same = refl }

  pub semicolon-in-front : (j : J) (js : List J) (ps : List (Part J)) → at_semicolon e picture Is j ≡ true → DividedAs js ps → DividedAs (j ∷ js) ps
  semicolon-in-front j js ps s d = record { division = Semicolon j js s d.division; same = d.same }

  pub statement-in-front : (front rest : List J) (ps : List (Part J)) → (front ≡ [] → ⊥) → begins_semicolon front ≡ false
      → IsLongest Is (may_follow e picture Is) (front ++ rest) (length front) → DividedAs rest ps → DividedAs (front ++ rest) (part front false ∷ ps)
  statement-in-front [] rest ps some s l d = absurd (some refl)
  statement-in-front (j ∷ front) rest ps some s l d =
      (let on : DividedAs (drop (length front) (front ++ rest)) ps = moved rest (drop (length front) (front ++ rest)) ps (sym (drop-append_seam front rest)) d in
      record {
        division = Statement j (front ++ rest) (suc (length front)) s l on.division;
        same = ap (λ l. part (j ∷ l) false ∷ parts e picture Is on.division) (take-front front rest) ∙ ap (λ qs. part (j ∷ front) false ∷ qs) on.same;
      })

  pub broken-in-front : (front rest : List J) (ps : List (Part J)) → (front ≡ [] → ⊥) → begins_semicolon front ≡ false → HasNone Is (may_follow e picture Is) (front ++ rest)
      → up_to_separator e picture Is (front ++ rest) ≡ length front → DividedAs rest ps → DividedAs (front ++ rest) (part front true ∷ ps)
  broken-in-front [] rest ps some s none up d = absurd (some refl)
  broken-in-front (j ∷ front) rest ps some s none up d =
      (let count : ℕ = up_to_separator e picture Is (j ∷ (front ++ rest)) in
      let on : DividedAs (drop count (j ∷ (front ++ rest))) ps =
      moved rest (drop count (j ∷ (front ++ rest))) ps (sym (ap (λ n. drop n (j ∷ (front ++ rest))) up ∙ drop-append_seam front rest)) d in
      record {
        division = Broken j (front ++ rest) s none on.division;
        same = ap (λ n. part (take n (j ∷ (front ++ rest))) true ∷ parts e picture Is on.division) up
            ∙ ap (λ l. part (j ∷ l) true ∷ parts e picture Is on.division) (take-front front rest) ∙ ap (λ qs. part (j ∷ front) true ∷ qs) on.same;
      })
