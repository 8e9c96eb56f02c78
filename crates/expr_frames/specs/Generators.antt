-- The generators of a `for`.
use Rattle.std.specs.Prelude.{ℕ, Bool, true, false, not, ◌&&◌, ◌||◌, if◌then◌else◌}
use Rattle.std.specs.Prelude.{List, [], ◌∷◌, ◌++◌, Option, Some, None}
use Rattle.pc_terms.specs.declared.problems.Span.{Span}
use Rattle.scan_tokens.specs.declared.tokens.Newline.{Newline}
use Rattle.source_grammar.specs.Brackets.{has_newline}
use Rattle.source_grammar.specs.Lexemes.{Lexeme}
use Rattle.source_grammar.specs.Patterns.{is_var}
use Rattle.parse_parts.specs.Reading.{is_nil}
use Rattle.parse_patterns.specs.declared.states.Current.{Current}
use Rattle.parse_patterns.specs.declared.states.Current.TheVariants as current
use Rattle.parse_patterns.specs.declared.states.State.{State as PatternState}
use Rattle.parse_patterns.specs.Names.{id_of}
use Rattle.parse_patterns.specs.Reading.{begun as pattern_begun}
use Rattle.parse_patterns.specs.Steps as patterns
use Rattle.tree_lower.specs.declared.comprehensions.Generator.{Generator}
use Rattle.expr_frames.specs.declared.generators.Finished.{Finished}
use Rattle.expr_frames.specs.declared.generators.Parted.{Parted}
use Rattle.expr_tails.specs.declared.items.Generators.{Generators}
use Rattle.expr_tails.specs.declared.tails.Ready.{Ready}
use Rattle.expr_tails.specs.declared.states.Bracket.{Bracket}
use Rattle.expr_tails.specs.declared.states.Bracket.TheVariants as bracket
use Rattle.expr_tails.specs.declared.states.Context.{Context}
use Rattle.expr_tails.specs.declared.states.Frame.{Frame}
use Rattle.expr_tails.specs.declared.states.Limit.{Limit}
use Rattle.expr_tails.specs.declared.states.Limit.TheVariants as limit
use Rattle.expr_tails.specs.declared.states.Part.{Part}
use Rattle.expr_tails.specs.declared.states.Tail.TheVariants as tail
use Rattle.expr_tails.specs.declared.states.State.{State}
use Rattle.expr_tails.specs.declared.symbols.Symbol.{Symbol}
use Rattle.expr_tails.specs.declared.symbols.Symbol.TheVariants as symbol
use Rattle.expr_tails.specs.Ending.{fresh, at_tail, chain_at, expr_at, is_expr, is_semi, waits_in}
use Rattle.expr_tails.specs.Symbols.{is_name_or_wild}
use Rattle.expr_frames.specs.Heads.{in_context, with_semicolon}

abbrev pub nothing_yet : Part
nothing_yet = record { pattern = None; from = None; guards = [] }

abbrev pub next_pattern : Context
next_pattern = at_tail (fresh limit.Expr) (tail.InPattern pattern_begun)

abbrev pub with_free : Context → List Span → Context
with_free c free = record {
  heads = c.heads;
  free = c.free ++ free;
  operations = c.operations;
  sign = c.sign;
  tail = c.tail;
  limit = c.limit;
}

abbrev pub generators_frame : List Generator → Part → ℕ → Context → Frame
generators_frame gens part start outer = record { bracket = bracket.Generators gens part; start = start; outer = outer }

-- the machine before the first generator
abbrev pub generators_begun : State
generators_begun = record { frames = generators_frame [] nothing_yet 0 (fresh limit.Expr) ∷ []; context = next_pattern }

-- ---- their patterns: variables, `_`, and tuples of these

abbrev pub is_begin_at : Current → Bool
is_begin_at (current.InInfix n) = patterns.is_begin n.tail
is_begin_at (current.InType name type) = false

abbrev pub is_ended_at : Current → Bool
is_ended_at (current.InInfix n) = patterns.is_whole n.tail
is_ended_at (current.InType name type) = false

abbrev pub is_ended : PatternState → Bool
is_ended p = is_nil p.frames && is_ended_at p.current

abbrev pub is_generator_token : PatternState → Symbol → Lexeme → Bool
is_generator_token p symbol.Id x = is_begin_at p.current && is_var (id_of x)
is_generator_token p symbol.Underscore x = is_begin_at p.current
is_generator_token p symbol.OpenRound x = is_begin_at p.current
is_generator_token p symbol.Comma x = not (is_begin_at p.current)
is_generator_token p symbol.CloseRound x = not (is_begin_at p.current)
is_generator_token p _ x = false

abbrev pub with_pattern : Part → PatternState → Part
with_pattern part p = record part { pattern = patterns.pattern_at p }

abbrev pub arrowed_in : Bracket → ℕ → Context → List Frame → PatternState → Option State
arrowed_in (bracket.Generators gens part) start outer frames p =
    Some (record {
      frames = generators_frame gens (with_pattern part p) start outer ∷ frames;
      context = fresh limit.Expr;
    })
arrowed_in _ start outer frames p = None

abbrev pub arrowed : List Frame → PatternState → Option State
arrowed [] p = None
arrowed (f ∷ fs) p = if is_ended p then arrowed_in f.bracket f.start f.outer fs p else None

abbrev pub pattern_on : List Frame → PatternState → Symbol → Lexeme → Option State
pattern_on frames p s x =
    if is_generator_token p s x && patterns.admits p x
    then Some (record {
      frames = frames;
      context = at_tail (fresh limit.Expr) (tail.InPattern (patterns.advanced p x));
    })
    else None

-- after one token more of the pattern of a generator, or after the arrow
abbrev pub in_pattern : List Frame → PatternState → Symbol → Lexeme → Option State
in_pattern frames p symbol.BackArrow x = arrowed frames p
in_pattern frames p s x = pattern_on frames p s x

-- ---- where they are from, and their guards

abbrev pub is_guard : Limit → Bool
is_guard limit.Guard = true
is_guard _ = false

abbrev pub with_guard : Part → Context → Ready → Parted
with_guard part outer r = record {
  part = record { pattern = part.pattern; from = part.from; guards = part.guards ++ r.operand.tall ∷ [] };
  outer = with_free outer r.free;
}

abbrev pub with_from : Part → Context → Ready → Parted
with_from part outer r = record {
  part = record { pattern = part.pattern; from = r.operand.tall; guards = part.guards };
  outer = with_free outer r.free;
}

abbrev pub chain_of : Context → Ready
chain_of c = chain_at c.operations c.sign c.tail c.free

-- the generator with what was read last of it. A guard is no expression: what is free in it stays so.
abbrev pub with_last : Part → Context → Context → Parted
with_last part outer c =
    if is_guard c.limit then with_guard part outer (chain_of c) else with_from part outer (expr_at c)

abbrev pub generator_of : Part → Generator
generator_of part = record { pattern = part.pattern; from = part.from; guards = part.guards }

abbrev pub with_generator : List Generator → Parted → Finished
with_generator gens parted = record { generators = gens ++ generator_of parted.part ∷ []; outer = parted.outer }

abbrev pub finished : List Generator → Part → Context → Context → Finished
finished gens part outer c = with_generator gens (with_last part outer c)

-- ---- what may come next

abbrev pub is_generators : Bracket → Bool
is_generators (bracket.Generators gens part) = true
is_generators _ = false

abbrev pub in_generators : List Frame → Bool
in_generators [] = false
in_generators (f ∷ fs) = is_generators f.bracket

abbrev pub is_behind_semicolon : Context → Bool
is_behind_semicolon c = is_semi c.tail && not (waits_in c.heads)

-- a name or `_`, or what begins a tuple of patterns
abbrev pub begins_pattern : Symbol → Bool
begins_pattern symbol.OpenRound = true
begins_pattern s = is_name_or_wild s

-- the token begins the next generator
abbrev pub begins_generator : List Frame → Context → Symbol → Newline → Bool
begins_generator frames c s before =
    (is_behind_semicolon c || (is_expr c && has_newline before)) && (in_generators frames && begins_pattern s)

-- `if` begins a guard, and a `;` may stand here
abbrev pub ends_part : List Frame → Context → Bool
ends_part frames c = in_generators frames && (is_behind_semicolon c || is_expr c)

abbrev pub next_in : Bracket → ℕ → Context → List Frame → Context → Option State
next_in (bracket.Generators gens part) start outer frames c = Some (record {
  frames = generators_frame (finished gens part outer c).generators nothing_yet start (finished gens part outer c).outer
      ∷ frames;
  context = next_pattern;
})
next_in _ start outer frames c = None

-- before the pattern of the next generator
abbrev pub next_generator : List Frame → Context → Option State
next_generator [] c = None
next_generator (f ∷ fs) c = next_in f.bracket f.start f.outer fs c

abbrev pub guarded_in : Bracket → ℕ → Context → List Frame → Context → Option State
guarded_in (bracket.Generators gens part) start outer frames c = Some (record {
  frames = generators_frame gens (with_last part outer c).part start (with_last part outer c).outer ∷ frames;
  context = fresh limit.Guard;
})
guarded_in _ start outer frames c = None

-- after the `if` of a guard
abbrev pub guarded : List Frame → Context → Option State
guarded [] c = None
guarded (f ∷ fs) c = guarded_in f.bracket f.start f.outer fs c

abbrev pub guard_separated : Ready → Context
guard_separated r = in_context [] r.free (tail.AtSemi r.operand false) limit.Guard

-- after a `;` between generators or before a guard
abbrev pub separated : Context → Context
separated c = if is_guard c.limit then guard_separated (chain_of c) else with_semicolon c

abbrev pub generators_in : Bracket → Context → Context → Option Generators
generators_in (bracket.Generators gens part) outer c = Some (record {
  generators = (finished gens part outer c).generators;
  free = (finished gens part outer c).outer.free;
})
generators_in _ outer c = None

-- the generators, where what was read is whole
abbrev pub generators_at : List Frame → Context → Option Generators
generators_at [] c = None
generators_at (f ∷ fs) c = generators_in f.bracket f.outer c

abbrev pub is_one_frame : List Frame → Bool
is_one_frame (f ∷ []) = true
is_one_frame _ = false

abbrev pub are_generators : State → Bool
are_generators s = is_one_frame s.frames && is_expr s.context
