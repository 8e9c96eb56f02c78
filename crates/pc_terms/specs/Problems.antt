-- The order in which the problems of a unit are listed.
use denote.Enum.Declared.{tag_of}
use Rattle.std.specs.Prelude.{List}
use Rattle.std.specs.Cmp.Lexicographic.{slice_cmp}
use Rattle.std.specs.List.Sorted.{IsStrictlySortedBy}
use Rattle.std.specs.Ordering.{nat_cmp, ordering_then}
use Rattle.std.specs.declared.cmp.Ordering.{Ordering}
use Rattle.pc_terms.specs.contracts.problems.Code as code
use Rattle.pc_terms.specs.declared.problems.Code.{Code}
use Rattle.pc_terms.specs.declared.problems.Span.{Span}
use Rattle.pc_terms.specs.declared.problems.Problem.{Problem}

abbrev pub span_cmp : Span → Span → Ordering
span_cmp a b = ordering_then (nat_cmp a.start b.start) (nat_cmp a.end b.end)

-- as the codes are declared: those of the scanner, the parser, names, types and templates
abbrev pub code_cmp : Code → Code → Ordering
code_cmp a b = nat_cmp (tag_of code.the_type a) (tag_of code.the_type b)

-- by start, end, code and the bytes of the text
abbrev pub problem_cmp : Problem → Problem → Ordering
problem_cmp a b = ordering_then (span_cmp a.span b.span) (ordering_then (code_cmp a.code b.code) (slice_cmp nat_cmp a.text b.text))

-- Problems in their order, and equal ones once.
abbrev pub AreListed : List Problem → Type 0
AreListed problems = IsStrictlySortedBy problem_cmp problems
