-- What a reader of expressions has of an item: of a pair of braces the tree of what stands in it, as far as it is kept.
use Rattle.std.specs.Prelude.{List, map, Option}
use Rattle.positioned_trees.specs.declared.details.Selector.{Selector}
use Rattle.source_grammar.specs.Comprehensions.{gen_free}
use Rattle.source_grammar.specs.Expressions.{Enums, Block, Cases}
use Rattle.source_grammar.specs.ExpressionTrees.{enums_built, block_built, cases_built}
use Rattle.source_grammar.specs.Lexemes.{Place}
use Rattle.source_grammar.specs.Placeholders as grammar
use Rattle.source_grammar.specs.Placeholders.{trees_of, free_of}
use Rattle.source_grammar.specs.Spans.{from_to}
use Rattle.parse_parts.specs.Keeping.{kept, kept_all}
use Rattle.tree_lower.specs.Keeping.{places_shown, generator_shown}
use Rattle.expr_tails.specs.declared.items.Built.{Built}
use Rattle.expr_tails.specs.declared.items.Inside.{Inside}
use Rattle.expr_tails.specs.declared.items.Inside.TheVariants as inside
use Rattle.expr_steps.specs.Reading as reading
use Rattle.expr_laws.specs.Items.{Item, OneToken, BlockPair, CasesPair, EnumsPair, OtherPair}

abbrev pub built_shown : grammar.Built → Built
built_shown part = record { tall = kept part.tree; free = places_shown part.free }

abbrev pub block_inside : Place → Block → Place → Inside
block_inside o block c = inside.Block (built_shown (block_built (from_to o.span c.span) block))

abbrev pub cases_inside : Cases → Inside
cases_inside cases = inside.Cases (record { kids = kept_all (trees_of (cases_built cases)); free = places_shown (free_of (cases_built cases)) })

abbrev pub enums_inside : Enums → Inside
enums_inside enums = inside.Generators (record { generators = map generator_shown (enums_built enums); free = places_shown (gen_free (enums_built enums)) })

abbrev pub pair_shown : Option (List Selector) → Place → Place → Inside → reading.Item
pair_shown selectors o c within =
    reading.Pair (record { span = from_to o.span c.span; before = o.before; inside = within; selectors = selectors })

-- An item, with what its braces are as selectors of an import, which no expression asks for.
abbrev pub item_shown : Option (List Selector) → Item → reading.Item
item_shown selectors (OneToken x) = reading.OneToken x
item_shown selectors (BlockPair o block c) = pair_shown selectors o c (block_inside o block c)
item_shown selectors (CasesPair o cases c) = pair_shown selectors o c (cases_inside cases)
item_shown selectors (EnumsPair o enums c) = pair_shown selectors o c (enums_inside enums)
item_shown selectors (OtherPair o xs c) = pair_shown selectors o c inside.Nothing
