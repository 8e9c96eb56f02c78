-- In the guard of a case the types of `new` outside brackets are Simples, where the machine reads it.
use Rattle.std.proofs.Common.{◌≡◌, true, false, sym, ◌∙◌}
use Rattle.source_grammar.specs.Expressions.{Infix, LastPrefix, MorePrefixes, Prim, NewOf, NewWith, SelectPrim, SelectHole, TypeApplyPrim, ApplyPrim, EtaPrim}
use Rattle.source_grammar.specs.ExpressionRules.{prim_of}
use Rattle.expr_tails.specs.declared.states.Limit.{Limit}
use Rattle.expr_laws.proofs.TypesAlong.{is_case_limit, TypeFits}

abbrev pub PrimFits : Limit → Prim → Type 0
PrimFits l (NewOf w type) = TypeFits l type
PrimFits l (NewWith w type args) = TypeFits l type
PrimFits l (SelectPrim d p id) = PrimFits l d
PrimFits l (SelectHole d p) = PrimFits l d
PrimFits l (TypeApplyPrim d o ts k) = PrimFits l d
PrimFits l (ApplyPrim d args) = PrimFits l d
PrimFits l (EtaPrim d p) = PrimFits l d
PrimFits l _ = Unit {0}

abbrev pub InfixFits : Limit → Infix → Type 0
InfixFits l (LastPrefix d) = PrimFits l (prim_of d)
InfixFits l (MorePrefixes d id rest) = PrimFits l (prim_of d) × InfixFits l rest

-- in the guards of cases alone there is something to ask
pub prim-fits : (l : Limit) → is_case_limit l ≡ false → (d : Prim) → PrimFits l d
prim-fits l n (NewOf w type) = λ e. (let no : false ≡ true = sym n ∙ e in cc)
prim-fits l n (NewWith w type args) = λ e. (let no : false ≡ true = sym n ∙ e in cc)
prim-fits l n (SelectPrim d p id) = prim-fits l n d
prim-fits l n (SelectHole d p) = prim-fits l n d
prim-fits l n (TypeApplyPrim d o ts k) = prim-fits l n d
prim-fits l n (ApplyPrim d args) = prim-fits l n d
prim-fits l n (EtaPrim d p) = prim-fits l n d
prim-fits l n _ = tt

pub infix-fits : (l : Limit) → is_case_limit l ≡ false → (d : Infix) → InfixFits l d
infix-fits l n (LastPrefix d) = prim-fits l n (prim_of d)
infix-fits l n (MorePrefixes d id rest) = (prim-fits l n (prim_of d), infix-fits l n rest)
