-- What `for` is rewritten to, as far as the trees are kept.
use Rattle.std.specs.Prelude.{Bool, false, if◌then◌else◌, List, [], ◌∷◌, Option, Some, None, codes}
use Rattle.pc_terms.specs.declared.problems.Span.{Span}
use Rattle.pc_terms.specs.declared.tree_kinds.TreeKind.TheVariants as kind
use Rattle.positioned_trees.specs.declared.details.Detail.TheVariants as detail
use Rattle.scan_tokens.specs.Words.{Bytes}
use Rattle.source_grammar.specs.Comprehensions.{hidden, is_variable, param_of, whole, last_method, earlier_method}
use Rattle.source_grammar.specs.Spans.{enclosing}
use Rattle.parse_parts.specs.Built.{alone, node}
use Rattle.parse_parts.specs.declared.built.Tall.{Tall}
use Rattle.tree_lower.specs.declared.comprehensions.Generator.{Generator}
use Rattle.tree_lower.specs.Lowering.{unlabelled, pair, changed, added, detailed, span_in}

abbrev pub copied : Option Tall → Option Tall
copied tall = changed hidden tall

abbrev pub is_variable_in : Option Tall → Bool
is_variable_in None = false
is_variable_in (Some tall) = is_variable tall.tree

-- the smallest span that encloses both trees
abbrev pub around : Option Tall → Option Tall → Span
around a b = enclosing (span_in a) (span_in b)

abbrev pub function_of : Option Tall → Option Tall → Option Tall
function_of pattern body = added (unlabelled kind.Function (around pattern body) (pair (changed param_of pattern) body))

abbrev pub one_case : Span → Option Tall → Option Tall → Option Tall
one_case span pattern body = added (detailed (detail.Case false) (node kind.Case (codes "case") span span (pair pattern body)))

abbrev pub cases_of : Option Tall → Option Tall → Option Tall
cases_of pattern body =
    added (unlabelled kind.CaseFunction (around pattern body) (alone (one_case (around pattern body) pattern body)))

-- a variable is the parameter of a function; any other pattern is that of a case
abbrev pub taking : Option Tall → Option Tall → Option Tall
taking pattern body = if is_variable_in pattern then function_of pattern body else cases_of pattern body

abbrev pub added_select : Option Tall → Bytes → Option Tall
added_select receiver method = added (node kind.Select method (span_in receiver) (span_in receiver) (alone receiver))

abbrev pub added_call : Option Tall → Bytes → Option Tall → Option Tall
added_call receiver method arg =
    added (unlabelled kind.Apply (around receiver arg) (pair (added_select receiver method) arg))

abbrev pub filtered_once : Option Tall → Option Tall → Option Tall → Option Tall
filtered_once receiver pattern guard = added_call receiver (codes "withFilter") (taking pattern guard)

-- the later guards, whose patterns are copies
abbrev pub filtered : Option Tall → Option Tall → List (Option Tall) → Option Tall
filtered receiver copy [] = receiver
filtered receiver copy (guard ∷ guards) = filtered (filtered_once receiver (copied copy) guard) copy guards

-- the pattern stands first in the first guard, or in the body where there is none
abbrev pub calling_over : Bytes → Option Tall → Option Tall → List (Option Tall) → Option Tall → Option Tall
calling_over method pattern from [] body = added_call from method (taking pattern body)
calling_over method pattern from (guard ∷ guards) body =
    added_call (filtered (filtered_once from pattern guard) (copied pattern) guards) method (taking (copied pattern) body)

abbrev pub calling : Bytes → Generator → Option Tall → Option Tall
calling method gen body = calling_over method gen.pattern gen.from gen.guards body

abbrev pub comprehended : Bool → Generator → List Generator → Option Tall → Option Tall
comprehended yields gen [] body = calling (last_method yields) gen body
comprehended yields gen (next ∷ gens) body = calling (earlier_method yields) gen (comprehended yields next gens body)

abbrev pub over_generators : Bool → List Generator → Option Tall → Option Tall
over_generators yields [] body = body
over_generators yields (gen ∷ gens) body = comprehended yields gen gens body

abbrev pub comprehension : Bool → Span → List Generator → Option Tall → Option Tall
comprehension yields span gens body = changed (whole span) (over_generators yields gens body)
