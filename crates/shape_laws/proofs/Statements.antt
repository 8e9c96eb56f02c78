-- The machine of statements does not ask for the trees in braces.
use Rattle.std.proofs.Common.{◌≡◌, List, [], ◌∷◌, map, Option, Some, None, option_map, refl, ap, ◌∙◌, sym}
use Rattle.expr_tails.specs.declared.states.Limit.TheVariants as limit
use Rattle.expr_steps.specs.Braces.{step_braces as expr_braces}
use Rattle.expr_steps.specs.Reading.{Item, OneToken, Pair, begun}
use Rattle.expr_steps.specs.Steps.{step as expr_step}
use Rattle.def_steps.specs.Definitions as definitions
use Rattle.import_steps.specs.Imports as imports
use Rattle.parse_exprs.specs.declared.statements.Statement.{Statement}
use Rattle.parse_exprs.specs.declared.statements.Statement.TheVariants as statement
use Rattle.parse_exprs.specs.Items.{braces_shape, separates, shape_of}
use Rattle.parse_exprs.specs.Lists.{ends_statement, of_items}
use Rattle.parse_exprs.specs.Statements.{by, is_whole, statements, stepped}
use Rattle.shape_laws.proofs.Alike.{Blind}
use Rattle.shape_laws.proofs.Asked.{read-same}
use Rattle.shape_laws.proofs.Bare.{bare}
use Rattle.shape_laws.proofs.DefSteps as defs
use Rattle.shape_laws.proofs.DefSteps.{bare_definition}
use Rattle.shape_laws.proofs.ExprSteps as exprs
use Rattle.shape_laws.proofs.ImportSteps as import_steps
use Rattle.shape_laws.proofs.ImportSteps.{bare_import}

abbrev pub bare_statement : Statement → Statement
bare_statement statement.Begin = statement.Begin
bare_statement (statement.Import i) = statement.Import (bare_import i)
bare_statement (statement.Definition d) = statement.Definition (bare_definition d)
bare_statement (statement.Expr e) = statement.Expr (bare e)

by-same : {A : Type 0} (to : A → Statement) (f : A → A) → ((a : A) → bare_statement (to a) ≡ to (f a)) → (o p : Option A) → option_map f o ≡ option_map f p
    → option_map bare_statement (by to o) ≡ option_map bare_statement (by to p)
by-same {A} to f e o p g = by-of o ∙ ap (by to) g ∙ sym (by-of p) where
  by-of : (x : Option A) → option_map bare_statement (by to x) ≡ by to (option_map f x)
  by-of None = refl
  by-of (Some a) = ap Some (e a)

step-same : (s : Statement) (i : Item) → option_map bare_statement (stepped s i) ≡ option_map bare_statement (stepped (bare_statement s) (shape_of i))
step-same statement.Begin (OneToken x) = refl
step-same statement.Begin (Pair b) =
    by-same statement.Expr bare (λ e. refl) (expr_braces (begun limit.Expr) b) (expr_braces (begun limit.Expr) (braces_shape b)) (exprs.braces-same (begun limit.Expr) b)
step-same (statement.Import i) (OneToken x) = by-same statement.Import bare_import (λ n. refl) (imports.step i x) (imports.step (bare_import i) x) (import_steps.step-same i x)
step-same (statement.Import i) (Pair b) =
    by-same statement.Import bare_import (λ n. refl) (imports.step_braces i b) (imports.step_braces (bare_import i) (braces_shape b)) (import_steps.braces-same i b)
step-same (statement.Definition d) (OneToken x) =
    by-same statement.Definition bare_definition (λ n. refl) (definitions.step d x) (definitions.step (bare_definition d) x) (defs.step-same d x)
step-same (statement.Definition d) (Pair b) =
    by-same statement.Definition bare_definition (λ n. refl) (definitions.step_braces d b) (definitions.step_braces (bare_definition d) (braces_shape b)) (defs.braces-same d b)
step-same (statement.Expr e) (OneToken x) = by-same statement.Expr bare (λ n. refl) (expr_step e x) (expr_step (bare e) x) (exprs.step-same e x)
step-same (statement.Expr e) (Pair b) =
    by-same statement.Expr bare (λ n. refl) (expr_braces e b) (expr_braces (bare e) (braces_shape b)) (exprs.braces-same e b)

whole-same : (s : Statement) → is_whole s ≡ is_whole (bare_statement s)
whole-same statement.Begin = refl
whole-same (statement.Import i) = import_steps.whole-same i
whole-same (statement.Definition d) = defs.whole-same d
whole-same (statement.Expr e) = read-same e

pub blind : Blind statements bare_statement shape_of
blind = record { twice = exprs.shape-twice; step = step-same; whole = whole-same }

separates-same : (i : Item) → separates (shape_of i) ≡ separates i
separates-same (OneToken x) = refl
separates-same (Pair b) = refl

pub ends-same : (is : List Item) → ends_statement of_items (map shape_of is) ≡ ends_statement of_items is
ends-same [] = refl
ends-same (i ∷ is) = separates-same i
