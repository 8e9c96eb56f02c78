-- A step of the machine of definitions is, bare, a step of its bare state over an item without trees. Only its right sides hold trees of braces.
use Rattle.std.proofs.Common.{◌≡◌, ℕ, Option, Some, None, option_map, refl, ap, ◌∙◌, sym}
use Rattle.source_grammar.specs.Lexemes.{Lexeme}
use Rattle.source_grammar.specs.Newlines.{is_near}
use Rattle.expr_tails.specs.declared.items.Braces.{Braces}
use Rattle.expr_tails.specs.declared.items.Inside.{Inside}
use Rattle.expr_tails.specs.declared.items.Inside.TheVariants as inside
use Rattle.expr_tails.specs.declared.states.State.{State as ExprState}
use Rattle.expr_tails.specs.declared.symbols.Symbol.{Symbol}
use Rattle.expr_tails.specs.Symbols.{symbol_of}
use Rattle.expr_steps.specs.Braces.{step_braces as expr_braces}
use Rattle.expr_steps.specs.Steps.{step as expr_step}
use Rattle.def_steps.specs.declared.states.Found.{Found}
use Rattle.def_steps.specs.declared.states.Method.{Method}
use Rattle.def_steps.specs.declared.states.State.{State}
use Rattle.def_steps.specs.declared.states.Tail.{Tail}
use Rattle.def_steps.specs.declared.states.Tail.TheVariants as tail
use Rattle.def_steps.specs.declared.states.Value.{Value}
use Rattle.def_steps.specs.Definitions.{braces_at, in_method, in_value, is_definition, is_definition_at, nothing_built, step, step_braces, stepped_at}
use Rattle.def_steps.specs.Heads.{procedure, procedure_of}
use Rattle.parse_exprs.specs.Items.{braces_shape, inside_shape}
use Rattle.shape_laws.proofs.Asked.{read-same}
use Rattle.shape_laws.proofs.Bare.{bare, choice-same}
use Rattle.shape_laws.proofs.ExprSteps.{braces-same as expr-braces, step-same as expr-step}
use Rattle.shape_laws.proofs.Frames.{stated}

abbrev pub bare_at : Tail → Tail
bare_at (tail.InValue v right) = tail.InValue v (bare right)
bare_at (tail.InMethod m right) = tail.InMethod m (bare right)
bare_at (tail.AtProcedure built) = tail.AtProcedure nothing_built
bare_at at = at

abbrev pub bare_definition : State → State
bare_definition d = record { found = d.found; tail = bare_at d.tail }

abbrev defined : Option State → Option State
defined o = option_map bare_definition o

value-of : (found : Found) (v : Value) (o : Option ExprState) → defined (in_value found v o) ≡ in_value found v (stated o)
value-of found v None = refl
value-of found v (Some s) = refl

value-same : (found : Found) (v : Value) (o p : Option ExprState) → stated o ≡ stated p → defined (in_value found v o) ≡ defined (in_value found v p)
value-same found v o p e = value-of found v o ∙ ap (in_value found v) e ∙ sym (value-of found v p)

method-of : (found : Found) (m : Method) (o : Option ExprState) → defined (in_method found m o) ≡ in_method found m (stated o)
method-of found m None = refl
method-of found m (Some s) = refl

method-same : (found : Found) (m : Method) (o p : Option ExprState) → stated o ≡ stated p → defined (in_method found m o) ≡ defined (in_method found m p)
method-same found m o p e = method-of found m o ∙ ap (in_method found m) e ∙ sym (method-of found m p)

step-at : (t : Tail) (found : Found) (s : Symbol) (x : Lexeme) → defined (stepped_at t found s x) ≡ defined (stepped_at (bare_at t) found s x)
step-at (tail.InValue v right) found s x = value-same found v (expr_step right x) (expr_step (bare right) x) (expr-step right x)
step-at (tail.InMethod m right) found s x = method-same found m (expr_step right x) (expr_step (bare right) x) (expr-step right x)
step-at _ found s x = refl

pub step-same : (d : State) (x : Lexeme) → defined (step d x) ≡ defined (step (bare_definition d) x)
unfolding step
step-same d x = step-at d.tail d.found (symbol_of x.kind x.word) x

procedure-within : (found : Found) (m : Method) (end : ℕ) (within : Inside) → defined (procedure_of found m end within) ≡ defined (procedure_of found m end (inside_shape within))
procedure-within found m end (inside.Block built) = refl
procedure-within found m end _ = refl

procedure-same : (found : Found) (m : Method) (b : Braces) → defined (procedure found m b) ≡ defined (procedure found m (braces_shape b))
procedure-same found m b =
    choice-same defined (is_near b.before) (is_near b.before) (procedure_of found m b.span.end b.inside) None (procedure_of found m b.span.end (inside_shape b.inside)) None
    refl (procedure-within found m b.span.end b.inside) refl

braces-within : (t : Tail) (found : Found) (b : Braces) → defined (braces_at t found b) ≡ defined (braces_at (bare_at t) found (braces_shape b))
braces-within (tail.InValue v right) found b = value-same found v (expr_braces right b) (expr_braces (bare right) (braces_shape b)) (expr-braces right b)
braces-within (tail.InMethod m right) found b = method-same found m (expr_braces right b) (expr_braces (bare right) (braces_shape b)) (expr-braces right b)
braces-within (tail.AtMethod m) found b = procedure-same found m b
braces-within _ found b = refl

pub braces-same : (d : State) (b : Braces) → defined (step_braces d b) ≡ defined (step_braces (bare_definition d) (braces_shape b))
braces-same d b = braces-within d.tail d.found b

whole-at : (t : Tail) → is_definition_at t ≡ is_definition_at (bare_at t)
whole-at (tail.InValue v right) = read-same right
whole-at (tail.InMethod m right) = read-same right
whole-at _ = refl

pub whole-same : (d : State) → is_definition d ≡ is_definition (bare_definition d)
whole-same d = whole-at d.tail
