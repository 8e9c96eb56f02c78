-- The headings of an expression and the expression within them: as heads of the machine, and what a word behind them finds.
use Rattle.std.proofs.Common.{◌≡◌, true, false, List, [], ◌∷◌, Option, Some, None, refl, ◌∙◌}
use Rattle.source_grammar.specs.Expressions.{PrefixSign, Expr, Headed, TryCatch, Heading, IfThen, TryAlone, Prim}
use Rattle.source_grammar.specs.ExpressionRules as rules
use Rattle.source_grammar.specs.Lexemes.{Place}
use Rattle.expr_tails.specs.declared.states.Limit.TheVariants as limit
use Rattle.expr_laws.proofs.Derived.{Operation, Tail, Begin, Head, Of, Context, Frame, prim_at, chain_of, innermost_at, headed_all, takes_else, takes_catch, waits, state, behind_else, tried, done}
use Rattle.expr_laws.proofs.InfixAlong.{parts}
use Rattle.expr_laws.proofs.Items.{expr_items}
use Rattle.expr_laws.proofs.Moving.{Leads}

-- the headings, the last one first, before the heads that stand around
abbrev pub heads_of : Expr → List Head → List Head
heads_of (Headed h body) hs = heads_of body (Of h ∷ hs)
heads_of _ hs = hs

-- what stands behind the headings
abbrev pub last_of : Expr → Expr
last_of (Headed h body) = last_of body
last_of e = e

pub all-there : (e : Expr) (hs : List Head) → headed_all (heads_of e hs) (Some (last_of e)) ≡ headed_all hs (Some e)
all-there (Headed h body) hs = all-there body (Of h ∷ hs)
all-there _ hs = refl

-- ---- where an expression is read

-- these items are read behind some heads as an expression
pub record ExprRead (e : Expr) (hs : List Head) : Type 0 where
  pub operations : List Operation
  pub sign : Option PrefixSign
  pub tail : Tail
  pub leads : (fs : List Frame) → Leads (expr_items e) (state fs (parts hs [] None limit.Expr Begin)) (state fs (parts (heads_of e hs) operations sign limit.Expr tail))
  pub there : innermost_at tail (chain_of operations sign (prim_at tail)) ≡ Some (last_of e)

abbrev pub end_of : {e : Expr} {hs : List Head} → ExprRead e hs → Context
end_of {e} {hs} r = parts (heads_of e hs) r.operations r.sign limit.Expr r.tail

-- ---- what the heads take

pub else-takes : (e : Expr) (hs : List Head) → takes_else hs ≡ true → takes_else (heads_of e hs) ≡ true
else-takes (Headed h body) hs t = else-takes body (Of h ∷ hs) (go h) where
  go : (k : Heading) → takes_else (Of k ∷ hs) ≡ true
  go (IfThen word opening test closing) = refl
  go _ = t
else-takes _ hs t = t

pub catch-takes : (e : Expr) (hs : List Head) → takes_catch hs ≡ true → takes_catch (heads_of e hs) ≡ true
catch-takes (Headed h body) hs t = catch-takes body (Of h ∷ hs) (go h) where
  go : (k : Heading) → takes_catch (Of k ∷ hs) ≡ true
  go (TryAlone word) = refl
  go _ = t
catch-takes _ hs t = t

pub heads-wait : (e : Expr) (hs : List Head) → waits (heads_of e hs) ≡ waits hs
heads-wait (Headed h body) hs = heads-wait body (Of h ∷ hs)
heads-wait _ hs = refl

-- `else` goes past the headings of what takes none
pub else-past : (e : Expr) (hs : List Head) (semi : Option Place) (other : Place) → rules.takes_else e ≡ false
    → behind_else (Some semi) other (heads_of e hs) (Some (last_of e)) ≡ behind_else (Some semi) other hs (Some e)
else-past (Headed h body) hs semi other t = else-past body (Of h ∷ hs) semi other (inner h t) ∙ past h t where
  inner : (k : Heading) → rules.takes_else (Headed k body) ≡ false → rules.takes_else body ≡ false
  inner (IfThen word opening test closing) n = cc
  inner _ n = n

  past : (k : Heading) → rules.takes_else (Headed k body) ≡ false → behind_else (Some semi) other (Of k ∷ hs) (Some body) ≡ behind_else (Some semi) other hs (Some (Headed k body))
  past (IfThen word opening test closing) n = cc
  past _ n = refl
else-past _ hs semi other t = refl

pub catch-past : (e : Expr) (hs : List Head) → rules.takes_catch e ≡ false → tried (heads_of e hs) (Some (last_of e)) ≡ tried hs (Some e)
catch-past (Headed h body) hs t = catch-past body (Of h ∷ hs) (inner h t) ∙ past h t where
  inner : (k : Heading) → rules.takes_catch (Headed k body) ≡ false → rules.takes_catch body ≡ false
  inner (TryAlone word) n = cc
  inner (IfThen word opening test closing) n = n
  inner _ n = n

  past : (k : Heading) → rules.takes_catch (Headed k body) ≡ false → tried (Of k ∷ hs) (Some body) ≡ tried hs (Some (Headed k body))
  past (TryAlone word) n = cc
  past _ n = refl
catch-past _ hs t = refl

pub done-past : (e : Expr) (hs : List Head) → done (heads_of e hs) (Some (last_of e)) ≡ done hs (Some e)
done-past (Headed h body) hs = done-past body (Of h ∷ hs)
done-past _ hs = refl

-- what takes no `finally` takes no `catch`, and does not end in cases
pub no-finally : (e : Expr) → rules.takes_finally e ≡ false → rules.takes_catch e ≡ false
no-finally (Headed h body) t = go h t (no-finally body) where
  go : (k : Heading) → rules.takes_finally (Headed k body) ≡ false → (rules.takes_finally body ≡ false → rules.takes_catch body ≡ false) → rules.takes_catch (Headed k body) ≡ false
  go (TryAlone word) n on = cc
  go (IfThen word opening test closing) n on = on n
  go _ n on = on n
no-finally (TryCatch word body catch opening cases closing) t = cc
no-finally _ t = refl

pub finally-last : (e : Expr) → rules.takes_finally e ≡ false → rules.takes_finally (last_of e) ≡ false
finally-last (Headed h body) t = finally-last body (inner h t) where
  inner : (k : Heading) → rules.takes_finally (Headed k body) ≡ false → rules.takes_finally body ≡ false
  inner (TryAlone word) n = cc
  inner (IfThen word opening test closing) n = n
  inner _ n = n
finally-last _ t = t

pub operand-last : (e : Expr) → rules.takes_operand (last_of e) ≡ rules.takes_operand e
operand-last (Headed h body) = operand-last body ∙ go h where
  go : (k : Heading) → rules.takes_operand body ≡ rules.takes_operand (Headed k body)
  go (TryAlone word) = refl
  go (IfThen word opening test closing) = refl
  go _ = refl
operand-last _ = refl
