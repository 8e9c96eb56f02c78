-- What begins an operand or an expression, the reader as the machine.
use Rattle.std.proofs.Common.{◌≡◌, Bool, true, false, ◌&&◌, if◌then◌else◌, List, [], ◌∷◌, Option, Some, None, option_map, refl, ap, sym, ◌∙◌}
use Rattle.pc_terms.specs.declared.tree_kinds.TreeKind.TheVariants as kind
use Rattle.scan_tokens.specs.declared.tokens.Newline.{Newline}
use Rattle.scan_tokens.specs.declared.tokens.Newline.TheVariants.{No}
use Rattle.source_grammar.specs.Expressions.{PrefixSign, LiteralPrim, TryAlone, ThrowOf}
use Rattle.source_grammar.specs.Lexemes.{Place, Lexeme, Literal, literal_token, literal_text, literal_place}
use Rattle.parse_patterns.proofs.Derived.{when}
use Rattle.tree_lower.proofs.KeptTrees.{leaf-kept}
use Rattle.expr_tails.specs.declared.states.Context.{Context}
use Rattle.expr_tails.specs.declared.states.Form.TheVariants as form
use Rattle.expr_tails.specs.declared.states.Tail.{Tail}
use Rattle.expr_tails.specs.declared.states.Tail.TheVariants as tail
use Rattle.expr_tails.specs.declared.symbols.Word.{Word}
use Rattle.expr_tails.specs.declared.symbols.Word.TheVariants as word
use Rattle.expr_tails.specs.Ending.{at_tail, may_head}
use Rattle.expr_frames.specs.Frames.{may_stand}
use Rattle.expr_steps.specs.Steps as spec
use Rattle.expr_laws.proofs.Agreeing.{head-shown, stand-shown}
use Rattle.expr_laws.proofs.Decided.{behind-head}
use Rattle.expr_laws.proofs.Derived as derived
use Rattle.expr_laws.proofs.Shown.{tail_shown, tail_free, context_with, context_shown}

-- ---- operands

-- where an operand may stand, the tail becomes one at which nothing is free
pub begun-same : (c : derived.Context) (s : derived.Tail) (before : Newline) (new : Tail) (d : derived.Tail) → new ≡ tail_shown d → tail_free d ≡ []
    → spec.when (may_stand (context_shown (derived.at c s)) before) (at_tail (context_shown (derived.at c s)) new)
    ≡ option_map context_shown (when (derived.may_stand (derived.at c s) before) (derived.at c d))
begun-same c derived.Begin before new d e f =
    ap (λ b. spec.when b (context_with c [] new)) (stand-shown (derived.at c derived.Begin) before)
    ∙ ap (λ n. spec.when (derived.may_stand (derived.at c derived.Begin) before) (context_with c [] n)) e
    ∙ ap (λ free. spec.when (derived.may_stand (derived.at c derived.Begin) before) (context_with c free (tail_shown d))) (sym f)
    ∙ go (derived.may_stand (derived.at c derived.Begin) before)
  where
    go : (b : Bool) → spec.when b (context_shown (derived.at c d)) ≡ option_map context_shown (when b (derived.at c d))
    go true = refl
    go false = refl
begun-same c _ before new d e f = refl

pub literal-same : (c : derived.Context) (s : derived.Tail) (l : Literal) (x : Lexeme) → literal_token l ≡ x
    → spec.on_literal (context_shown (derived.at c s)) x ≡ option_map context_shown (derived.on_literal l (derived.at c s))
literal-same c s l x e =
    ap (spec.on_literal (context_shown (derived.at c s))) (sym e)
    ∙ begun-same c s (literal_place l).before _ (derived.AtPrim (LiteralPrim l))
    (ap (λ t. tail.AtPrim (record { tall = t; span = (literal_place l).span }) form.Plain) (leaf-kept kind.Literal (literal_text l) (literal_place l).span)) refl

-- ---- expressions

pub may-begin-shown : (c : derived.Context) (s : derived.Tail) → spec.may_begin (context_shown (derived.at c s)) ≡ derived.may_begin (derived.at c s)
may-begin-shown c s =
    ap (λ b. b && may_head (context_shown (derived.at c s))) (stand-shown (derived.at c s) No)
    ∙ ap (λ b. derived.may_stand (derived.at c s) No && b) (head-shown (derived.at c s) (tail_free s) (tail_shown s))

-- a head is the first of its chain
pub first-none : (os : List derived.Operation) (s : Option PrefixSign) (a b : Bool) → (a && ((derived.is_nil os && derived.is_none s) && b)) ≡ true → os ≡ []
first-none [] s a b e = refl
first-none (o ∷ os) s true b e = cc
first-none (o ∷ os) s false b e = cc

-- a word with which an expression begins
pub begins-same : (w : Word) (p : Place) (c : derived.Context) (s : derived.Tail)
    → spec.begins w (context_shown (derived.at c s)) p.span ≡ option_map context_shown (derived.begins w p (derived.at c s))
begins-same w p c derived.Begin =
    ap (λ b. if b then spec.begun_with w now p.span else None) (may-begin-shown c derived.Begin) ∙ go (derived.may_begin here) refl
  where
    here : derived.Context
    here = derived.at c derived.Begin

    now : Context
    now = context_shown here

    by : (v : Word) → c.operations ≡ [] → spec.begun_with v now p.span ≡ option_map context_shown (derived.begun_with v p here)
    by word.If none = refl
    by word.While none = refl
    by word.For none = refl
    by word.Return none = refl
    by word.Do none = ap Some (behind-head here (derived.DoHead p) [] tail.Begin none refl)
    by word.Try none = ap Some (behind-head here (derived.Of (TryAlone p)) [] tail.Begin none refl)
    by word.Throw none = ap Some (behind-head here (derived.Of (ThrowOf p)) [] tail.Begin none refl)
    by _ none = refl

    go : (b : Bool) → derived.may_begin here ≡ b
        → (if b then spec.begun_with w now p.span else None) ≡ option_map context_shown (if b then derived.begun_with w p here else None)
    go true e = by w (first-none c.operations c.sign (derived.may_stand here No) (derived.is_expr_limit c.limit) e)
    go false e = refl
begins-same w p c _ = refl
