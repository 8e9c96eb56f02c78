-- The reader reads exactly the guards of cases, where no `=>` stands in them outside brackets.
use Rattle.std.proofs.Common.{◌≡◌, true, List, [], ◌∷◌, Option, Some, None, option_map, refl, ap, sym, ◌∙◌, subst}
use Rattle.reading_machines.specs.Machines.{run}
use Rattle.source_grammar.specs.Brackets.{has_no_arrow}
use Rattle.source_grammar.specs.Expressions.{InfixExpr, Infix}
use Rattle.source_grammar.specs.ExpressionRules.{Rule, ProperExpr}
use Rattle.source_grammar.specs.ExpressionTokens.{expr_tokens, infix_tokens}
use Rattle.source_grammar.specs.ExpressionTrees.{expr_built}
use Rattle.expr_tails.specs.declared.states.Limit.TheVariants as limit
use Rattle.expr_tails.specs.declared.states.State.{State as ReaderState}
use Rattle.expr_steps.specs.Reading as spec
use Rattle.expr_steps.specs.Reading.{stepped, reader, built_at}
use Rattle.expr_laws.specs.Exactly as exactly
use Rattle.expr_laws.specs.Exactly.{picture, ReadItem, pictures_of, AreOfGuard}
use Rattle.expr_laws.specs.Newlines.{newlines_end, NewlinesEnd}
use Rattle.expr_laws.proofs.AddingSteps.{read-items}
use Rattle.expr_laws.proofs.CaseSound.{case-infix}
use Rattle.expr_laws.proofs.Derived as derived
use Rattle.expr_laws.proofs.Derived.{Item, State, items_tokens, begun, step}
use Rattle.expr_laws.proofs.ExprsComplete.{guard-runs, guard-complete}
use Rattle.expr_laws.proofs.Exactness.{givens, given-items, given-proper}
use Rattle.expr_laws.proofs.GoodSteps.{read-proper}
use Rattle.expr_laws.proofs.ItemTokens.{expr-have, infix-have}
use Rattle.expr_laws.proofs.Items.{expr_items}
use Rattle.expr_laws.proofs.LastingSteps.{begun-stands, run-stands}
use Rattle.expr_laws.proofs.Pictures.{pictures, items_of, run-same, has-read}
use Rattle.expr_laws.proofs.Shown.{shown, built_shown}

same-some : {A : Type 0} (x y : A) → Some x ≡ Some y → x ≡ y
same-some x y e = cc

same-infix : (d e : Infix) → InfixExpr d ≡ InfixExpr e → d ≡ e
same-infix d e k = cc

module _ (rule : Rule) where
  given-pictures : (is : List (ReadItem rule)) → pictures (givens rule is) ≡ pictures_of rule is
  given-pictures [] = refl
  given-pictures (i ∷ is) = ap (λ ps. picture i.given ∷ ps) (given-pictures is)

  own-newlines : (is : List (ReadItem rule)) (a : AreOfGuard rule is) → NewlinesEnd (infix_tokens a.derivation)
  own-newlines is a = ap (newlines_end true) (sym (ap items_tokens a.items ∙ (infix-have a.derivation).same)) ∙ a.newlines

  -- what the reader has read
  pub record ReadGuard (is : List (ReadItem rule)) (d : Infix) : Type 0 where
    pub end : ReaderState
    pub runs : run stepped (pictures_of rule is) (reader limit.CaseGuard).start ≡ Some end
    pub read : spec.is_read end ≡ true
    pub built : built_at end ≡ built_shown (expr_built (InfixExpr d))

  complete : (is : List (ReadItem rule)) (a : AreOfGuard rule is) → ReadGuard is a.derivation
  complete is a =
      let r = guard-complete rule a.derivation (givens rule is) a.proper (own-newlines is a) a.one_side a.no_arrow (given-items rule is ∙ a.items) in
      record { end = r.end; runs = ap (λ ps. run stepped ps (reader limit.CaseGuard).start) (sym (given-pictures is)) ∙ r.runs; read = r.read; built = r.built }

  pub guard-reads : (is : List (ReadItem rule)) (a : AreOfGuard rule is)
      → (s : ReaderState) × (run stepped (pictures_of rule is) (reader limit.CaseGuard).start ≡ Some s) × (spec.is_read s ≡ true) × (built_at s ≡ built_shown (expr_built (InfixExpr a.derivation)))
  guard-reads is a = (let r = complete is a in (r.end, r.runs, r.read, r.built))

  pub one-guard : (is : List (ReadItem rule)) (a b : AreOfGuard rule is) → a.derivation ≡ b.derivation
  one-guard is a b =
      let r = guard-runs rule a.derivation a.proper (own-newlines is a) a.one_side a.no_arrow in
      let q = guard-runs rule b.derivation b.proper (own-newlines is b) b.one_side b.no_arrow in
      let runs : Some (derived.state [] r.end) ≡ Some (derived.state [] q.end) = sym r.runs ∙ ap (λ js. run step js (begun limit.CaseGuard)) (sym a.items ∙ b.items) ∙ q.runs in
      let states : derived.state [] r.end ≡ derived.state [] q.end = same-some (derived.state [] r.end) (derived.state [] q.end) runs in
      same-infix a.derivation b.derivation
      (same-some (InfixExpr a.derivation) (InfixExpr b.derivation) (sym r.ended ∙ ap (λ t. derived.ended_expr t.context) states ∙ q.ended))

  -- the machine over derivations, where the reader is
  record Behind (is : List (ReadItem rule)) (u : ReaderState) : Type 0 where
    there : State
    runs : run step (items_of (givens rule is)) (begun limit.CaseGuard) ≡ Some there
    same : shown there ≡ u

  behind : (is : List (ReadItem rule)) (u : ReaderState) → run stepped (pictures_of rule is) (reader limit.CaseGuard).start ≡ Some u → Behind is u
  behind is u e =
      go (run step (items_of (givens rule is)) (begun limit.CaseGuard)) refl
      (sym (run-same (givens rule is) (begun limit.CaseGuard) (begun-stands limit.CaseGuard)) ∙ ap (λ ps. run stepped ps (reader limit.CaseGuard).start) (given-pictures is) ∙ e)
    where
      go : (o : Option State) → run step (items_of (givens rule is)) (begun limit.CaseGuard) ≡ o → option_map shown o ≡ Some u → Behind is u
      go None f g = cc
      go (Some t) f g = record { there = t; runs = f; same = (let same : shown t ≡ u = cc in same) }

  pub guard-sound : (is : List (ReadItem rule)) (u : ReaderState) → NewlinesEnd (items_tokens (exactly.items_of rule is)) → has_no_arrow [] (items_tokens (exactly.items_of rule is)) ≡ true
      → run stepped (pictures_of rule is) (reader limit.CaseGuard).start ≡ Some u → spec.is_read u ≡ true → AreOfGuard rule is
  guard-sound is u n h r w =
      let b = behind is u r in
      let js : List Item = items_of (givens rule is) in
      let read = has-read b.there (run-stands js (begun limit.CaseGuard) b.there (begun-stands limit.CaseGuard) b.runs) (ap spec.is_read b.same ∙ w) in
      let items : js ≡ expr_items read.expr = read-items limit.CaseGuard js b.there read.expr b.runs read.closed read.ended in
      let own : items_tokens (exactly.items_of rule is) ≡ expr_tokens read.expr = ap items_tokens (sym (given-items rule is) ∙ items) ∙ (expr-have read.expr).same in
      let proper : ProperExpr rule read.expr = read-proper rule limit.CaseGuard js b.there read.expr (given-proper rule is) b.runs read.ended in
      let arrow : has_no_arrow [] (expr_tokens read.expr) ≡ true = ap (has_no_arrow []) (sym own) ∙ h in
      let chain = case-infix rule read.expr proper (record { ends = ap (newlines_end true) (sym own) ∙ n }) arrow b.there (ap (λ ks. run step ks (begun limit.CaseGuard)) (sym items) ∙ b.runs) in
      let whole : ProperExpr rule (InfixExpr chain.chain) = subst (ProperExpr rule) chain.is proper in
      record {
        derivation = chain.chain;
        proper = whole.0;
        one_side = whole.1;
        no_arrow = ap (λ e. has_no_arrow [] (expr_tokens e)) (sym chain.is) ∙ arrow;
        items = sym (given-items rule is) ∙ items ∙ ap expr_items chain.is;
        newlines = n;
      }
