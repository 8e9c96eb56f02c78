-- The first item of a statement says of which kind it is; the machines of the other kinds refuse it.
use Rattle.std.proofs.Common.{◌≡◌, Bool, true, false, ◌⊎◌, inl, inr, if◌then◌else◌, List, [], ◌∷◌, Option, Some, None, option_map, codes, refl, ap, sym, ◌∙◌}
use Rattle.reading_machines.specs.Machines.{run, onward}
use Rattle.source_grammar.specs.ExpressionRules.{Rule}
use Rattle.source_grammar.specs.Lexemes.{Place, Lexeme, word_at}
use Rattle.expr_tails.specs.declared.states.Limit.TheVariants as limit
use Rattle.expr_tails.specs.declared.symbols.Symbol.{Symbol}
use Rattle.expr_tails.specs.declared.symbols.Symbol.TheVariants as symbol
use Rattle.expr_tails.specs.declared.symbols.Word.{Word}
use Rattle.expr_tails.specs.declared.symbols.Word.TheVariants as word
use Rattle.expr_tails.specs.declared.states.State.{State as ExprState}
use Rattle.expr_tails.specs.Symbols.{symbol_of}
use Rattle.expr_steps.specs.Reading as exprs
use Rattle.expr_steps.specs.Reading.{Item as Picture}
use Rattle.expr_steps.specs.Steps.{step as expr_step, on_token}
use Rattle.import_steps.specs.declared.imports.Import.{Import as ImportState}
use Rattle.import_steps.specs.Imports as imports
use Rattle.def_steps.specs.declared.states.State.{State as DefState}
use Rattle.def_steps.specs.Definitions as defs
use Rattle.def_steps.specs.Definitions.{step as def_step}
use Rattle.def_steps.specs.Modifiers.{begins_definition, nothing_found, on_mod, on_word}
use Rattle.parse_exprs.specs.declared.statements.Statement.{Statement}
use Rattle.parse_exprs.specs.declared.statements.Statement.TheVariants as statement
use Rattle.parse_exprs.specs.Statements.{by, is_import_word, stepped}
use Rattle.expr_laws.specs.Exactly.{Given, picture}
use Rattle.expr_laws.specs.Imports.{import_stepped}
use Rattle.expr_laws.specs.Items.{Item, OneToken}
use Rattle.expr_laws.proofs.Seen.{seen_as, shown_token, token-shown}
use Rattle.statement_laws.specs.Statements.{ReadStatementItem}

pub data Kind : Type 0 where
  AnImport : Kind
  ADefinition : Kind
  AnExpr : Kind

abbrev pub kind_by : Bool → Bool → Kind
kind_by true b = AnImport
kind_by false true = ADefinition
kind_by false false = AnExpr

abbrev pub kind_at : Symbol → Kind
kind_at s = kind_by (is_import_word s) (begins_definition s)

abbrev pub kind_of : Item → Kind
kind_of (OneToken x) = kind_at (symbol_of x.kind x.word)
kind_of _ = AnExpr

-- ---- what the other machines refuse

abbrev expr_begun : ExprState
expr_begun = exprs.begun limit.Expr

expr-token : (s : Symbol) (x : Lexeme) → (kind_at s ≡ AnExpr) ⊎ (on_token s [] expr_begun.context x ≡ None)
unfolding on_token
expr-token symbol.At x = inr refl
expr-token (symbol.Word w) x = words w where
  words : (v : Word) → (kind_at (symbol.Word v) ≡ AnExpr) ⊎ (on_token (symbol.Word v) [] expr_begun.context x ≡ None)
  words word.Import = inr refl
  words word.Abstract = inr refl
  words word.Case = inr refl
  words word.Def = inr refl
  words word.Final = inr refl
  words word.Lazy = inr refl
  words word.Override = inr refl
  words word.Private = inr refl
  words word.Protected = inr refl
  words word.Sealed = inr refl
  words word.Type = inr refl
  words word.Val = inr refl
  words word.Var = inr refl
  words _ = inl refl
expr-token _ x = inl refl

expr-first : (x : Lexeme) → expr_step expr_begun x ≡ on_token (symbol_of x.kind x.word) [] expr_begun.context x
unfolding expr_step
expr-first x = refl

-- an expression begins with it
pub is-expr : (g : Given) (t : ExprState) → exprs.stepped expr_begun (picture g) ≡ Some t → kind_of g.item ≡ AnExpr
is-expr g t e = go g.item e where
  go : (i : Item) → exprs.stepped expr_begun (picture (record { selectors = g.selectors; item = i })) ≡ Some t → kind_of i ≡ AnExpr
  go (OneToken x) f =
      elim (expr-token (symbol_of x.kind x.word) x) [
        | inl same ↦ same
        | inr none ↦ (let no : Some t ≡ None = sym f ∙ expr-first x ∙ none in cc)
      ]
  go _ f = refl

def-word : (w : Word) (x : Lexeme) → (kind_at (symbol.Word w) ≡ ADefinition) ⊎ (on_word nothing_found w x.place.span.start ≡ None)
def-word word.Abstract x = inl refl
def-word word.Case x = inl refl
def-word word.Def x = inl refl
def-word word.Final x = inl refl
def-word word.Lazy x = inl refl
def-word word.Override x = inl refl
def-word word.Private x = inl refl
def-word word.Protected x = inl refl
def-word word.Sealed x = inl refl
def-word word.Type x = inl refl
def-word word.Val x = inl refl
def-word word.Var x = inl refl
def-word _ x = inr refl

def-token : (s : Symbol) (x : Lexeme) → (kind_at s ≡ ADefinition) ⊎ (on_mod nothing_found s x.place.span.start ≡ None)
def-token symbol.At x = inl refl
def-token (symbol.Word w) x = def-word w x
def-token _ x = inr refl

def-first : (x : Lexeme) → def_step defs.begun x ≡ on_mod nothing_found (symbol_of x.kind x.word) x.place.span.start
unfolding def_step
def-first x = refl

-- a definition begins with it
pub is-definition : (g : Given) (t : DefState) → defs.stepped defs.begun (picture g) ≡ Some t → kind_of g.item ≡ ADefinition
is-definition g t e = go g.item e where
  go : (i : Item) → defs.stepped defs.begun (picture (record { selectors = g.selectors; item = i })) ≡ Some t → kind_of i ≡ ADefinition
  go (OneToken x) f =
      elim (def-token (symbol_of x.kind x.word) x) [
        | inl same ↦ same
        | inr none ↦ (let no : Some t ≡ None = sym f ∙ def-first x ∙ none in cc)
      ]
  go _ f = cc

-- ---- which machine runs

by-some : {A : Type 0} (to : A → Statement) (o : Option A) → by to o ≡ option_map to o
by-some to None = refl
by-some to (Some a) = refl

pub expr-steps : (s : ExprState) (p : Picture) → stepped (statement.Expr s) p ≡ option_map statement.Expr (exprs.stepped s p)
expr-steps s (exprs.OneToken x) = by-some statement.Expr _
expr-steps s (exprs.Pair b) = by-some statement.Expr _

pub def-steps : (s : DefState) (p : Picture) → stepped (statement.Definition s) p ≡ option_map statement.Definition (defs.stepped s p)
def-steps s (exprs.OneToken x) = by-some statement.Definition _
def-steps s (exprs.Pair b) = by-some statement.Definition _

pub import-steps : (s : ImportState) (p : Picture) → stepped (statement.Import s) p ≡ option_map statement.Import (import_stepped s p)
import-steps s (exprs.OneToken x) = by-some statement.Import _
import-steps s (exprs.Pair b) = by-some statement.Import _

abbrev first_by : Kind → Option Statement → Option DefState → Option ExprState → Option Statement
first_by AnImport o f g = o
first_by ADefinition o f g = option_map statement.Definition f
first_by AnExpr o f g = option_map statement.Expr g

-- the first token, by its kind
token-first : (a b : Bool) (k : Kind) (o : Option Statement) (f : Option DefState) (g : Option ExprState) → kind_by a b ≡ k
    → (if a then o else (if b then by statement.Definition f else by statement.Expr g)) ≡ first_by k o f g
token-first true b k o f g e = ap (λ q. first_by q o f g) e
token-first false true k o f g e = by-some statement.Definition f ∙ ap (λ q. first_by q o f g) e
token-first false false k o f g e = by-some statement.Expr g ∙ ap (λ q. first_by q o f g) e

pub first-expr : (g : Given) → kind_of g.item ≡ AnExpr → stepped statement.Begin (picture g) ≡ option_map statement.Expr (exprs.stepped expr_begun (picture g))
first-expr g e = go g.item e where
  go : (i : Item) → kind_of i ≡ AnExpr → stepped statement.Begin (picture (record { selectors = g.selectors; item = i }))
      ≡ option_map statement.Expr (exprs.stepped expr_begun (picture (record { selectors = g.selectors; item = i })))
  go (OneToken x) f = (let y : Symbol = symbol_of x.kind x.word in token-first (is_import_word y) (begins_definition y) AnExpr _ _ _ f)
  go i f = by-some statement.Expr (exprs.stepped expr_begun (picture (record { selectors = g.selectors; item = i })))

pub first-definition : (g : Given) → kind_of g.item ≡ ADefinition → stepped statement.Begin (picture g) ≡ option_map statement.Definition (defs.stepped defs.begun (picture g))
first-definition g e = go g.item e where
  go : (i : Item) → kind_of i ≡ ADefinition → stepped statement.Begin (picture (record { selectors = g.selectors; item = i }))
      ≡ option_map statement.Definition (defs.stepped defs.begun (picture (record { selectors = g.selectors; item = i })))
  go (OneToken x) f = (let y : Symbol = symbol_of x.kind x.word in token-first (is_import_word y) (begins_definition y) ADefinition _ _ _ f)
  go _ f = cc

-- the word of an import
pub record ImportFirst (g : Given) : Type 0 where
  pub word : Place
  pub first : g.item ≡ OneToken (word_at (codes "import") word)
  pub steps : stepped statement.Begin (picture g) ≡ Some (statement.Import (imports.begun word.span.start))

import-word : (s : Symbol) → kind_at s ≡ AnImport → s ≡ symbol.Word word.Import
import-word (symbol.Word word.Import) e = refl
import-word symbol.At e = cc
import-word (symbol.Word w) e = words w e where
  words : (v : Word) → kind_at (symbol.Word v) ≡ AnImport → symbol.Word v ≡ symbol.Word word.Import
  words word.Import f = refl
  words _ f = cc
import-word _ e = cc

pub first-import : (g : Given) → kind_of g.item ≡ AnImport → ImportFirst g
first-import g e = go g.item refl e where
  go : (i : Item) → g.item ≡ i → kind_of i ≡ AnImport → ImportFirst g
  go (OneToken x) same f =
      (let y : Symbol = symbol_of x.kind x.word in
      record {
        word = x.place;
        first = same ∙ ap OneToken (sym (token-shown x) ∙ ap (λ s. shown_token (seen_as s x)) (import-word y f));
        steps = ap (λ i. stepped statement.Begin (picture (record { selectors = g.selectors; item = i }))) same
            ∙ token-first (is_import_word y) (begins_definition y) AnImport _ _ _ f;
      })
  go _ same f = cc

-- the word says so
pub import-kind : (word : Place) → kind_of (OneToken (word_at (codes "import") word)) ≡ AnImport
unfolding symbol_of
import-kind word = refl

pub import-begins : (g : Given) (word : Place) → g.item ≡ OneToken (word_at (codes "import") word) → stepped statement.Begin (picture g) ≡ Some (statement.Import (imports.begun word.span.start))
unfolding symbol_of
import-begins g word e = ap (λ i. stepped statement.Begin (picture (record { selectors = g.selectors; item = i }))) e

module _ (rule : Rule) where
  abbrev pub steps_by : {A : Type 0} → (A → Picture → Option A) → A → ReadStatementItem rule → Option A
  steps_by f s i = f s (picture i.item.given)

  pub lifted : {A : Type 0} (to : A → Statement) (f : A → Picture → Option A) → ((s : A) (p : Picture) → stepped (to s) p ≡ option_map to (f s p)) → (is : List (ReadStatementItem rule)) (s : A)
      → run (steps_by stepped) is (to s) ≡ option_map to (run (steps_by f) is s)
  lifted to f same [] s = refl
  lifted {A} to f same (i ∷ is) s =
      ap (λ o. onward o None (run (steps_by stepped) is)) (same s (picture i.item.given)) ∙ go (f s (picture i.item.given)) (λ t. lifted to f same is t)
    where
      go : (o : Option A) → ((t : A) → run (steps_by stepped) is (to t) ≡ option_map to (run (steps_by f) is t))
          → onward (option_map to o) None (run (steps_by stepped) is) ≡ option_map to (onward o None (run (steps_by f) is))
      go None on = refl
      go (Some t) on = on t

  -- from the first item on
  pub lifted-from : {A : Type 0} (to : A → Statement) (f : A → Picture → Option A) → ((s : A) (p : Picture) → stepped (to s) p ≡ option_map to (f s p)) → (i : ReadStatementItem rule) (is : List (ReadStatementItem rule)) (s : A)
      → stepped statement.Begin (picture i.item.given) ≡ option_map to (f s (picture i.item.given))
      → run (steps_by stepped) (i ∷ is) statement.Begin ≡ option_map to (run (steps_by f) (i ∷ is) s)
  lifted-from to f same i is s e =
      ap (λ o. onward o None (run (steps_by stepped) is)) (e ∙ sym (same s (picture i.item.given))) ∙ lifted to f same (i ∷ is) s
