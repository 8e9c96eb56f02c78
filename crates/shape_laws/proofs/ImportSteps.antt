-- A step of the machine of imports is, bare, a step of its bare state: it asks for no clause that was read.
use Rattle.std.proofs.Common.{◌≡◌, ℕ, List, [], Option, Some, None, option_map, refl, ap, ◌∙◌, sym}
use Rattle.positioned_trees.specs.declared.details.ImportClause.{ImportClause}
use Rattle.positioned_trees.specs.declared.details.Selector.{Selector}
use Rattle.source_grammar.specs.Lexemes.{Lexeme}
use Rattle.expr_tails.specs.declared.items.Braces.{Braces}
use Rattle.expr_tails.specs.declared.symbols.Symbol.{Symbol}
use Rattle.expr_tails.specs.declared.symbols.Symbol.TheVariants as symbol
use Rattle.expr_tails.specs.Symbols.{symbol_of}
use Rattle.import_steps.specs.declared.imports.Import.{Import}
use Rattle.import_steps.specs.declared.imports.Tail.{Tail}
use Rattle.import_steps.specs.declared.imports.Tail.TheVariants as tail
use Rattle.import_steps.specs.Imports.{at, clause_of, is_ended, is_import, name_step, path_step, selected, step, step_braces, step_by}
use Rattle.parse_exprs.specs.Items.{braces_shape}
use Rattle.shape_laws.proofs.Bare.{choice-same}
use Rattle.shape_laws.proofs.ExprSteps.{no_selectors}

abbrev pub bare_clause : Tail → Tail
bare_clause (tail.AtClause clause) = tail.AtClause (clause_of [] [] 0)
bare_clause at = at

abbrev pub bare_import : Import → Import
bare_import i = record { start = 0; clauses = []; tail = bare_clause i.tail }

abbrev imported : Option Import → Option Import
imported o = option_map bare_import o

at-same : (start begin : ℕ) (cs ds : List ImportClause) (o p : Option Tail) → option_map bare_clause o ≡ option_map bare_clause p → imported (at start cs o) ≡ imported (at begin ds p)
at-same start begin cs ds o p e = at-of start cs o ∙ ap (λ x. of x) e ∙ sym (at-of begin ds p) where
  of : Option Tail → Option Import
  of None = None
  of (Some t) = Some (record { start = 0; clauses = []; tail = t })

  at-of : (n : ℕ) (is : List ImportClause) (x : Option Tail) → imported (at n is x) ≡ of (option_map bare_clause x)
  at-of n is None = refl
  at-of n is (Some t) = refl

names-same : (t : Tail) (s : Symbol) (x : Lexeme) → name_step t s x ≡ name_step (bare_clause t) s x
names-same (tail.AtClause clause) s x = refl
names-same _ s x = refl

path-same : (i : Import) (s : Symbol) (x : Lexeme) → imported (path_step i s x) ≡ imported (path_step (bare_import i) s x)
path-same i s x = at-same i.start 0 i.clauses [] (name_step i.tail s x) (name_step (bare_clause i.tail) s x) (ap (λ o. option_map bare_clause o) (names-same i.tail s x))

ended-same : (t : Tail) → is_ended t ≡ is_ended (bare_clause t)
ended-same (tail.AtClause clause) = refl
ended-same _ = refl

pub whole-same : (i : Import) → is_import i ≡ is_import (bare_import i)
whole-same i = ended-same i.tail

step-by : (s : Symbol) (x : Lexeme) (i : Import) → imported (step_by s x i) ≡ imported (step_by s x (bare_import i))
step-by symbol.Comma x i = choice-same imported (is_import i) (is_import (bare_import i)) _ _ _ _ (whole-same i) refl refl
step-by s x i = path-same i s x

pub step-same : (i : Import) (x : Lexeme) → imported (step i x) ≡ imported (step (bare_import i) x)
step-same i x = step-by (symbol_of x.kind x.word) x i

selected-same : (t : Tail) (o : Option (List Selector)) (end : ℕ) → option_map bare_clause (selected t o end) ≡ option_map bare_clause (selected (bare_clause t) (option_map no_selectors o) end)
selected-same (tail.AtDot names) (Some selectors) end = refl
selected-same (tail.AtDot names) None end = refl
selected-same _ o end = refl

pub braces-same : (i : Import) (b : Braces) → imported (step_braces i b) ≡ imported (step_braces (bare_import i) (braces_shape b))
braces-same i b =
    at-same i.start 0 i.clauses [] (selected i.tail b.selectors b.span.end) (selected (bare_clause i.tail) (option_map no_selectors b.selectors) b.span.end) (selected-same i.tail b.selectors b.span.end)
