-- Items that lead the machine of expressions from one state to another, whatever follows them.
use Rattle.std.proofs.Common.{◌≡◌, List, [], ◌∷◌, ◌++◌, Some, None, refl, ap, sym, ◌∙◌, append_assoc}
use Rattle.reading_machines.specs.Machines.{run, onward}
use Rattle.source_grammar.specs.Lexemes.{Lexeme}
use Rattle.expr_tails.specs.declared.symbols.Symbol.{Symbol}
use Rattle.expr_tails.specs.Symbols.{symbol_of}
use Rattle.expr_laws.proofs.Derived.{Item, OneToken, Frame, Context, State, state, in_type, decided_at, token_at, decided_step, or_decided, step}
use Rattle.expr_laws.proofs.Items.{tokens}
use Rattle.expr_laws.proofs.Seen.{Seen, seen}

-- these items lead from one state to another
pub record Leads (is : List Item) (s t : State) : Type 0 where
  pub runs : (js : List Item) → run step (is ++ js) s ≡ run step js t

pub leads-none : (s : State) → Leads [] s s
leads-none s = record { runs = λ js. refl }

pub leads-then : (front bs : List Item) (s t u : State) → Leads front s t → Leads bs t u → Leads (front ++ bs) s u
leads-then front bs s t u p q = record { runs = λ js. ap (λ ys. run step ys s) (append_assoc front bs js) ∙ p.runs (bs ++ js) ∙ q.runs js }

pub leads-on : (i : Item) (bs : List Item) (s t u : State) → step s i ≡ Some t → Leads bs t u → Leads (i ∷ bs) s u
leads-on i bs s t u e q = record { runs = λ js. ap (λ o. onward o None (run step (bs ++ js))) e ∙ q.runs js }

pub leads-one : (i : Item) (s t : State) → step s i ≡ Some t → Leads (i ∷ []) s t
leads-one i s t e = leads-on i [] s t t e (leads-none t)

pub leads-to : (is : List Item) (s t u : State) → t ≡ u → Leads is s t → Leads is s u
leads-to is s t u e p = record { runs = λ js. p.runs js ∙ ap (run step js) e }

-- the same items
pub leads-as : (is js : List Item) (s t : State) → is ≡ js → Leads is s t → Leads js s t
leads-as is js s t e p = record { runs = λ ks. ap (λ ys. run step (ys ++ ks) s) (sym e) ∙ p.runs ks }

-- from another state, where the first item leads to the same
pub leads-from : (i : Item) (is : List Item) (s t u : State) → step s i ≡ step t i → Leads (i ∷ is) t u → Leads (i ∷ is) s u
leads-from i is s t u e p = record { runs = λ js. ap (λ o. onward o None (run step (is ++ js))) e ∙ p.runs js }

pub tokens-append : (xs ys : List Lexeme) → tokens (xs ++ ys) ≡ tokens xs ++ tokens ys
tokens-append [] ys = refl
tokens-append (x ∷ xs) ys = ap (λ is. OneToken x ∷ is) (tokens-append xs ys)

-- ---- one token

-- a token that goes on with no type, as it is seen, and with what it decides
pub token-step : (x : Lexeme) (y : Seen) (s : Symbol) (fs : List Frame) (c d : Context) → in_type c.limit c.tail x ≡ None → seen x ≡ y → symbol_of x.kind x.word ≡ s
    → decided_at c.tail c s x.place.before ≡ d → step (state fs c) (OneToken x) ≡ token_at d.tail y x fs d
token-step x y s fs c d t e f g =
    ap (λ o. or_decided o x fs c) t
    ∙ ap (λ v. decided_step v x fs (decided_at c.tail c (symbol_of x.kind x.word) x.place.before)) e
    ∙ ap (λ v. decided_step y x fs (decided_at c.tail c v x.place.before)) f
    ∙ ap (decided_step y x fs) g
