-- The reader, on the pictures of items, reads as the machine does on the items: it comes as far, its state is the picture of the machine's,
-- and where it has read an expression, it has the tree of the derivation that the machine has.
use Rattle.std.proofs.Common.{◌≡◌, ℕ, ◌+◌, Bool, true, ◌&&◌, List, [], ◌∷◌, Option, Some, None, option_map, refl, ap, sym, ◌∙◌}
use Rattle.reading_machines.specs.Machines.{Machine, run, onward, noted, reading, reading_of}
use Rattle.reading_machines.proofs.Images.{pictured, reading-pictured-where}
use Rattle.source_grammar.specs.Expressions.{Expr}
use Rattle.source_grammar.specs.ExpressionTrees.{expr_built}
use Rattle.expr_tails.specs.declared.states.Limit.{Limit}
use Rattle.expr_tails.specs.declared.states.State.{State as ReaderState}
use Rattle.expr_steps.specs.Reading as spec
use Rattle.expr_steps.specs.Reading.{stepped, reader, built_at}
use Rattle.expr_laws.proofs.AddingSteps.{read-items}
use Rattle.expr_laws.proofs.Derived.{Item, Frame, State, is_nil, is_some, ended_expr, step, begun, is_read}
use Rattle.expr_laws.proofs.Items.{expr_items}
use Rattle.expr_laws.proofs.LastingFrames.{Stands, stands-fits}
use Rattle.expr_laws.proofs.LastingSteps.{step-stands, begun-stands, run-stands}
use Rattle.expr_laws.proofs.Moves.{step-same, whole-same, built-same}
use Rattle.expr_laws.proofs.Shown.{shown, built_shown}
pub use Rattle.expr_laws.specs.Exactly.{Given, picture}

abbrev pub pictures : List Given → List spec.Item
pictures [] = []
pictures (g ∷ gs) = picture g ∷ pictures gs

abbrev pub items_of : List Given → List Item
items_of [] = []
items_of (g ∷ gs) = g.item ∷ items_of gs

-- ---- runs

pub run-same : (gs : List Given) (s : State) → Stands s → run stepped (pictures gs) (shown s) ≡ option_map shown (run step (items_of gs) s)
run-same [] s k = refl
run-same (g ∷ gs) s k =
    ap (λ o. onward o None (run stepped (pictures gs))) (step-same s g.item g.selectors (stands-fits s k))
    ∙ go (step s g.item) refl (λ t e. run-same gs t (step-stands s g.item k t e))
  where
    go : (o : Option State) → step s g.item ≡ o → ((t : State) → step s g.item ≡ Some t → run stepped (pictures gs) (shown t) ≡ option_map shown (run step (items_of gs) t))
        → onward (option_map shown o) None (run stepped (pictures gs)) ≡ option_map shown (onward o None (run step (items_of gs)))
    go None e on = refl
    go (Some t) e on = on t e

-- ---- how far the reader comes

-- the machine of the derivations, and the reader, over items that are given
abbrev pub given_machine : Limit → Machine State Given
given_machine l = record { start = begun l; step = λ s g. step s g.item; whole = is_read }

abbrev given_reader : Limit → Machine ReaderState Given
given_reader l = record { start = (reader l).start; step = λ u g. stepped u (picture g); whole = spec.is_read }

reading-given : (l : Limit) (follows : List spec.Item → Bool) (gs : List Given) (n : ℕ) (best : Option ℕ) (u : ReaderState)
    → reading (reader l) follows (pictures gs) n best u ≡ reading (given_reader l) (λ hs. follows (pictures hs)) gs n best u
reading-given l follows [] n best u = refl
reading-given l follows (g ∷ gs) n best u = go (stepped u (picture g)) (λ v. reading-given l follows gs (n + 1) now v) where
  now : Option ℕ
  now = noted (spec.is_read u && follows (pictures (g ∷ gs))) n best

  go : (o : Option ReaderState)
      → ((v : ReaderState) → reading (reader l) follows (pictures gs) (n + 1) now v ≡ reading (given_reader l) (λ hs. follows (pictures hs)) gs (n + 1) now v)
      → onward o (record { state = u; reached = n; best = now }) (reading (reader l) follows (pictures gs) (n + 1) now)
      ≡ onward o (record { state = u; reached = n; best = now }) (reading (given_reader l) (λ hs. follows (pictures hs)) gs (n + 1) now)
  go None on = refl
  go (Some v) on = on v

pub reader-reads : (l : Limit) (follows : List spec.Item → Bool) (gs : List Given)
    → reading_of (reader l) follows (pictures gs) ≡ pictured shown (reading_of (given_machine l) (λ hs. follows (pictures hs)) gs)
reader-reads l follows gs =
    reading-given l follows gs 0 None (reader l).start
    ∙ reading-pictured-where shown (given_machine l) (given_reader l) (λ hs. follows (pictures hs)) Stands
    (λ s g k. step-same s g.item g.selectors (stands-fits s k)) (λ s k. whole-same s) (λ s g t k e. step-stands s g.item k t e)
    gs 0 None (begun l) (begun-stands l)

-- ---- what the reader has read

-- the machine has an expression where the reader has read one, and the reader has its tree, as far as it is kept
pub record HasRead (s : State) : Type 0 where
  pub expr : Expr
  pub closed : s.frames ≡ []
  pub ended : ended_expr s.context ≡ Some expr
  pub built : built_at (shown s) ≡ built_shown (expr_built expr)

pub has-read : (s : State) → Stands s → spec.is_read (shown s) ≡ true → HasRead s
has-read s k e = go s.frames (ended_expr s.context) refl refl (sym (whole-same s) ∙ e) where
  go : (fs : List Frame) (o : Option Expr) → s.frames ≡ fs → ended_expr s.context ≡ o → (is_nil fs && is_some o) ≡ true → HasRead s
  go [] (Some expr) f g h = record { expr = expr; closed = f; ended = g; built = built-same s expr k.context g }
  go [] None f g h = cc
  go (a ∷ fs) o f g h = cc

-- What the reader has read from the beginning has the items of an expression, and the reader has the tree of that expression.
pub record ReadAll (gs : List Given) (u : ReaderState) : Type 0 where
  pub expr : Expr
  pub items : items_of gs ≡ expr_items expr
  pub built : built_at u ≡ built_shown (expr_built expr)

pub reader-has-read : (l : Limit) (gs : List Given) (u : ReaderState) → run stepped (pictures gs) (reader l).start ≡ Some u → spec.is_read u ≡ true → ReadAll gs u
reader-has-read l gs u r h = go (run step (items_of gs) (begun l)) refl (sym (run-same gs (begun l) (begun-stands l)) ∙ r) where
  go : (o : Option State) → run step (items_of gs) (begun l) ≡ o → option_map shown o ≡ Some u → ReadAll gs u
  go None e f = cc
  go (Some s) e f =
      let same : shown s ≡ u = cc in
      let read = has-read s (run-stands (items_of gs) (begun l) s (begun-stands l) e) (ap spec.is_read same ∙ h) in
      record { expr = read.expr; items = read-items l (items_of gs) s read.expr e read.closed read.ended; built = ap built_at (sym same) ∙ read.built }
