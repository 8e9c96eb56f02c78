-- What leads a machine from one state to another, whatever follows.
use Rattle.std.proofs.Common.{◌≡◌, List, [], ◌∷◌, ◌++◌, Option, Some, None, refl, ap, sym, ◌∙◌, append_assoc}
use Rattle.reading_machines.specs.Machines.{run, onward}
use Rattle.source_grammar.specs.Lexemes.{Lexeme}
use Rattle.expr_laws.proofs.Derived.{Item, OneToken}
use Rattle.expr_laws.proofs.Items.{tokens}

pub record LeadsBy {S T : Type 0} (step : S → T → Option S) (ts : List T) (s t : S) : Type 0 where
  pub runs : (xs : List T) → run step (ts ++ xs) s ≡ run step xs t

pub by-none : {S T : Type 0} (step : S → T → Option S) (s : S) → LeadsBy step [] s s
by-none step s = record { runs = λ xs. refl }

pub by-then : {S T : Type 0} (step : S → T → Option S) (front bs : List T) (s t u : S) → LeadsBy step front s t → LeadsBy step bs t u → LeadsBy step (front ++ bs) s u
by-then step front bs s t u p q = record { runs = λ xs. ap (λ ys. run step ys s) (append_assoc front bs xs) ∙ p.runs (bs ++ xs) ∙ q.runs xs }

pub by-on : {S T : Type 0} (step : S → T → Option S) (x : T) (bs : List T) (s t u : S) → step s x ≡ Some t → LeadsBy step bs t u → LeadsBy step (x ∷ bs) s u
by-on step x bs s t u e q = record { runs = λ xs. ap (λ o. onward o None (run step (bs ++ xs))) e ∙ q.runs xs }

pub by-one : {S T : Type 0} (step : S → T → Option S) (x : T) (s t : S) → step s x ≡ Some t → LeadsBy step (x ∷ []) s t
by-one step x s t e = by-on step x [] s t t e (by-none step t)

pub by-to : {S T : Type 0} (step : S → T → Option S) (ts : List T) (s t u : S) → t ≡ u → LeadsBy step ts s t → LeadsBy step ts s u
by-to step ts s t u e p = record { runs = λ xs. p.runs xs ∙ ap (run step xs) e }

pub by-as : {S T : Type 0} (step : S → T → Option S) (ts us : List T) (s t : S) → ts ≡ us → LeadsBy step ts s t → LeadsBy step us s t
by-as step ts us s t e p = record { runs = λ xs. ap (λ ys. run step (ys ++ xs) s) (sym e) ∙ p.runs xs }

-- where each step that is made lifts to one of another machine, so do runs
pub by-lift : {R S T : Type 0} (inner : R → T → Option R) (step : S → T → Option S) (up : R → S) → ((r q : R) (x : T) → inner r x ≡ Some q → step (up r) x ≡ Some (up q))
    → (xs : List T) (r q : R) → run inner xs r ≡ Some q → LeadsBy step xs (up r) (up q)
by-lift inner step up lifts [] r q e = (let same : r ≡ q = cc in by-to step [] (up r) (up r) (up q) (ap up same) (by-none step (up r)))
by-lift {R} {S} {T} inner step up lifts (x ∷ xs) r q e = go (inner r x) refl e (λ v g. by-lift inner step up lifts xs v q g) where
  go : (o : Option R) → inner r x ≡ o → onward o None (run inner xs) ≡ Some q → ((v : R) → run inner xs v ≡ Some q → LeadsBy step xs (up v) (up q)) → LeadsBy step (x ∷ xs) (up r) (up q)
  go None was g on = cc
  go (Some v) was g on = by-on step x xs (up r) (up v) (up q) (lifts r v x was) (on v g)

-- the same where the other machine reads items
pub tokens-lift : {R S : Type 0} (inner : R → Lexeme → Option R) (step : S → Item → Option S) (up : R → S)
    → ((r q : R) (x : Lexeme) → inner r x ≡ Some q → step (up r) (OneToken x) ≡ Some (up q))
    → (xs : List Lexeme) (r q : R) → run inner xs r ≡ Some q → LeadsBy step (tokens xs) (up r) (up q)
tokens-lift inner step up lifts [] r q e = (let same : r ≡ q = cc in by-to step [] (up r) (up r) (up q) (ap up same) (by-none step (up r)))
tokens-lift {R} inner step up lifts (x ∷ xs) r q e = go (inner r x) refl e (λ v g. tokens-lift inner step up lifts xs v q g) where
  go : (o : Option R) → inner r x ≡ o → onward o None (run inner xs) ≡ Some q → ((v : R) → run inner xs v ≡ Some q → LeadsBy step (tokens xs) (up v) (up q))
      → LeadsBy step (tokens (x ∷ xs)) (up r) (up q)
  go None was g on = cc
  go (Some v) was g on = by-on step (OneToken x) (tokens xs) (up r) (up v) (up q) (lifts r v x was) (on v g)
