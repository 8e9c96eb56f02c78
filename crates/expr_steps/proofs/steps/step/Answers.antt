use Rattle.std.proofs.Common.{◌≡◌, false, if◌then◌else◌, Some, IfOk, Option, ap, sym, subst, ◌∙◌}
use Rattle.scan_tokens.specs.Words.{Bytes}
use Rattle.source_grammar.specs.Lexemes.{Lexeme}
use Rattle.parse_parts.specs.declared.symbols.Symbol.{Symbol as TypeSymbol}
use Rattle.parse_parts.specs.Symbols as type_symbols
use Rattle.parse_patterns.specs.Names.{lexeme_with}
use Rattle.expr_tails.specs.Symbols.{symbol_of}
use Rattle.expr_tails.specs.Types.{type_takes}
use Rattle.expr_tails.specs.declared.states.Context.{Context}
use Rattle.expr_tails.specs.declared.states.State.{State}
use Rattle.expr_tails.specs.declared.symbols.Symbol.{Symbol}
use Rattle.expr_steps.specs.Steps as spec
use Rattle.expr_steps.specs.Steps.{step}
use Rattle.expr_steps.proofs.steps.step.Goals as goal

-- where the token is no more of a type
untaken : (s : State) (x : Lexeme) → type_takes s.context.limit s.context.tail (spec.type_symbol x) ≡ false
    → spec.decided_step s.frames (spec.decided s.context (symbol_of x.kind x.word) x.place.before) (symbol_of x.kind x.word) x
    ≡ step s x
unfolding step
untaken s x e =
    sym (ap (λ takes. if takes then Some (spec.type_step s.frames s.context x)
    else spec.decided_step s.frames (spec.decided s.context (symbol_of x.kind x.word) x.place.before)
    (symbol_of x.kind x.word) x) e)

stepped : (s : State) (x : Lexeme) (c : Context) (y : Symbol)
    → type_takes s.context.limit s.context.tail (spec.type_symbol x) ≡ false
    → c ≡ spec.decided s.context y x.place.before → y ≡ symbol_of x.kind x.word
    → spec.decided_step s.frames c y x ≡ step s x
stepped s x c y e d k =
    ap (λ (c : Context). spec.decided_step s.frames c y x) d
    ∙ ap (λ (y : Symbol). spec.decided_step s.frames (spec.decided s.context y x.place.before) y x) k
    ∙ untaken s x e

pub returns-in_ok-context : goal.returns-in_ok-context
returns-in_ok-context c =
    let x : Lexeme = lexeme_with c.args.token c.args.word.now in
    let k : c.read_symbol-symbol.result ≡ symbol_of x.kind x.word =
    c.read_symbol-symbol.ensures ∙ ap (λ (w : Bytes). symbol_of c.args.token.kind w) c.as_bytes.ensures.value in
    let t : c.read_symbol-type_symbol.result ≡ spec.type_symbol x =
    c.read_symbol-type_symbol.ensures
    ∙ ap (λ (w : Bytes). type_symbols.symbol_of c.args.token.kind w) c.as_bytes-2.ensures.value in
    let e : type_takes c.args.state.context.limit c.args.state.context.tail (spec.type_symbol x) ≡ false =
    sym (ap (λ (y : TypeSymbol). type_takes c.args.state.context.limit c.args.state.context.tail y) t)
    ∙ sym c.type_takes.ensures ∙ c.if-type_takes.false in
    subst (λ (next : Option State). IfOk c.decided_step.result (λ now. now ≡ next))
    (stepped c.args.state x c.in_ok-context.context c.read_symbol-symbol.result e c.in_ok-context.ensures k)
    c.decided_step.ensures
