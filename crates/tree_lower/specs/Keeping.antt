-- What the grammar keeps, as the trees have it.
use Rattle.std.specs.Prelude.{List, map, Option}
use Rattle.pc_terms.specs.declared.problems.Span.{Span}
use Rattle.positioned_trees.specs.declared.details.Name.{Name}
use Rattle.source_grammar.specs.Comprehensions as grammar
use Rattle.source_grammar.specs.Expressions.{PrefixSign}
use Rattle.source_grammar.specs.ExpressionTokens.{sign_token}
use Rattle.source_grammar.specs.ExpressionTrees.{sign_span}
use Rattle.source_grammar.specs.Lexemes.{Place, Id}
use Rattle.source_grammar.specs.Placeholders.{Built}
use Rattle.source_grammar.specs.Precedence as precedence
use Rattle.parse_parts.specs.declared.built.Tall.{Tall}
use Rattle.parse_parts.specs.Keeping.{kept}
use Rattle.parse_patterns.specs.declared.states.Operand.{Operand}
use Rattle.tree_lower.specs.declared.comprehensions.Generator.{Generator}

abbrev pub name_of : Id → Name
name_of id = record { text = id.name; span = id.place.span }

abbrev pub sign_name : PrefixSign → Name
sign_name sign = record { text = (sign_token sign).word; span = sign_span sign }

abbrev pub operand_shown : precedence.Operand Built → Operand
operand_shown a = record { tall = kept a.built.tree; span = a.span }

abbrev pub places_shown : List Place → List Span
places_shown places = map (λ place. place.span) places

abbrev pub guards_shown : List Built → List (Option Tall)
guards_shown guards = map (λ guard. kept guard.tree) guards

abbrev pub generator_shown : grammar.Generator → Generator
generator_shown gen = record { pattern = kept gen.pattern; from = kept gen.from.tree; guards = guards_shown gen.guards }
