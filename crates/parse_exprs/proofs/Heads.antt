-- A block behind the head of a lambda.
use Rattle.std.proofs.Common.{◌≡◌, List, drop, Some, ap, sym, ◌∙◌}
use Rattle.std.proofs.lemmas.List.{drop-map}
use Rattle.pc_terms.specs.declared.problems.Span.{Span}
use Rattle.scan_tokens.specs.Words.{Bytes}
use Rattle.parse_exprs.specs.declared.contents.Params.{Params}
use Rattle.parse_exprs.specs.declared.items.Item.{Item as Written}
use Rattle.parse_exprs.specs.declared.lists.BuiltList.{BuiltList}
use Rattle.parse_exprs.specs.Contents.{block_by, block_of, head_of, lambda_over}
use Rattle.parse_exprs.specs.Items.{item_in, items_in}
use Rattle.parse_exprs.specs.Statements.{block_list}

pub block-behind : (text : Bytes) (span : Span) (items rest : List Written) (params : Params) (list : BuiltList)
    → head_of (items_in text items) ≡ Some params → rest ≡ drop params.count items → list ≡ block_list (items_in text rest)
    → lambda_over span params list ≡ block_of span (items_in text items)
block-behind text span items rest params list head behind is =
    ap (lambda_over span params) (is ∙ ap block_list (ap (items_in text) behind ∙ sym (drop-map (item_in text) params.count items)))
    ∙ ap (λ h. block_by h span (items_in text items)) (sym head)
