-- Each definition is read, as its right side is: its items lead the machine of definitions to where it is found, with its modifiers.
use Rattle.std.proofs.Common.{◌≡◌, [], ◌++◌, Some, ap, sym, ◌∙◌, append-nil}
use Rattle.reading_machines.specs.Machines.{run}
use Rattle.source_grammar.specs.Definitions.{ProperMods}
use Rattle.source_grammar.specs.ExpressionRules.{Rule, ProperDef}
use Rattle.source_grammar.specs.Expressions.{ListKind, Def, ValueDef, MethodDef, ProcedureDef, AliasDef}
use Rattle.source_grammar.specs.ExpressionTokens.{def_tokens, expr_tokens}
use Rattle.expr_laws.specs.Newlines.{NewlinesEnd}
use Rattle.expr_laws.proofs.AnnotationsAlong.{AllAllowed}
use Rattle.expr_laws.proofs.DefsAlong.{DefEnds, DefRead, def-along}
use Rattle.expr_laws.proofs.DefsDerived.{ReadMods, def_at, mods_of, read_mods}
use Rattle.expr_laws.proofs.DefsSteps.{begun, def_items, mods_items, step}
use Rattle.expr_laws.proofs.ExprsAlong.{expr-read}

-- as in an expression
abbrev pub RightEnds : Def → Type 0
RightEnds (ValueDef w id type sign e) = NewlinesEnd (expr_tokens e)
RightEnds (MethodDef p id _ lists type sign e) = NewlinesEnd (expr_tokens e)
RightEnds _ = Unit {0}

def-ends : (rule : Rule) (kind : ListKind) (d : Def) → ProperDef rule kind d → RightEnds d → DefEnds d
def-ends rule kind (ValueDef w id type sign e) p n = expr-read rule e p n
def-ends rule kind (MethodDef q id _ lists type sign e) p n = (p.0, expr-read rule e p.1 n)
def-ends rule kind (ProcedureDef q id _ lists o block k) p n = (p.0, p.1)
def-ends rule kind (AliasDef q id sign type) p n = p

pub def-read : (rule : Rule) (kind : ListKind) (m : ReadMods) (d : Def) → ProperMods (mods_of m) (def_tokens d) → AllAllowed m.annotations → ProperDef rule kind d → RightEnds d → DefRead m d
def-read rule kind m d p w q n = def-along m d p w (def-ends rule kind d q n)

-- the items of a definition have one derivation
pub record SameDef (m n : ReadMods) (d e : Def) : Type 0 where
  pub mods : m ≡ n
  pub def : d ≡ e

same-some : {A : Type 0} (a b : A) → Some a ≡ Some b → a ≡ b
same-some a b e = cc

pub one-definition : (m n : ReadMods) (d e : Def) → DefRead m d → DefRead n e → mods_items m ++ def_items d ≡ mods_items n ++ def_items e → SameDef m n d e
one-definition m n d e r s same =
    (let ends : Some r.end ≡ Some s.end = sym (whole m d r) ∙ ap (λ is. run step is begun) same ∙ whole n e s in
    let there : r.end ≡ s.end = same-some r.end s.end ends in
    record {
      mods = sym r.mods ∙ ap (λ t. read_mods t.found) there ∙ s.mods;
      def = same-some d e (sym r.ends ∙ ap (λ t. def_at t.tail) there ∙ s.ends);
    })
  where
    whole : (k : ReadMods) (f : Def) (q : DefRead k f) → run step (mods_items k ++ def_items f) begun ≡ Some q.end
    whole k f q = ap (λ is. run step is begun) (sym (append-nil (mods_items k ++ def_items f))) ∙ q.leads.runs []
