-- The items of an expression, as proofs name them.
pub use Rattle.expr_laws.specs.Items.{tokens, expr_items, heading_items, enums_items, gen_items, guards_items, infix_items, prefix_items, prim_items, args_items, expr_list_items}
