use Rattle.std.proofs.Common.{◌∙◌, sym, ap, None, if◌then◌else◌, option_copied}
use Rattle.pc_terms.specs.declared.items.Item.TheVariants as item
use Rattle.pc_terms.specs.declared.items.ItemValue.TheVariants as given
use Rattle.pc_terms.specs.declared.items.Asked.TheVariants as found
use Rattle.lazy_completion.specs.Memo.{value}
use Rattle.completion_checks.specs.Graph.{node}
use Rattle.completion_checks.proofs.Nodes.{node-qualifier, looked-up}
use Rattle.completion_checks.proofs.graph.GraphTypesItems.type_item.Goals as goal

pub unreachable-requires : goal.unreachable-requires
unreachable-requires c =
    let k = node-qualifier _ c.args.item.now c.requires in
    c.in_default.not-Qualifier k.0 k.1 k.2

pub returns-in-None : goal.returns-in-None
returns-in-None c =
    ap (λ f. found.Needs (item.Qualifier f c.in-Some.other)) c.in_ok-new.ensures
    ∙ sym (looked-up c.args.self.now.needs.items (value c.args.memo.now) _ _ _ c.in-Qualifier.is _ (sym c.need.ensures ∙ c.in-Some.is)
    _ c.in_ok-new.ensures _ (sym (ap option_copied c.in-None.is) ∙ c.value.ensures.value))

pub returns-in-Some-2 : goal.returns-in-Some-2
returns-in-Some-2 c =
    sym (looked-up c.args.self.now.needs.items (value c.args.memo.now) _ _ _ c.in-Qualifier.is _ (sym c.need.ensures ∙ c.in-Some.is)
    _ c.in_ok-new.ensures _ (sym (ap option_copied c.in-Some-value.is) ∙ c.value.ensures.value)
    ∙ ap (λ b. if b then found.Cyclic (node c.in-Some.other) else found.Known (given.Qualifier None)) (sym c.is_cyclic.ensures ∙ c.if-is_cyclic.false))
