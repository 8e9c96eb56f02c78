use Rattle.std.proofs.Common.{◌≡◌, true, not, ◌&&◌, if◌then◌else◌, Option, Some, None, refl, ap, sym, subst, ◌∙◌}
use Rattle.positioned_trees.specs.declared.details.Name.{Name}
use Rattle.scan_tokens.specs.declared.tokens.Newline.{Newline}
use Rattle.expr_frames.specs.declared.frames.Emptied.{Emptied}
use Rattle.expr_frames.specs.Frames.{emptied}
use Rattle.expr_tails.specs.Ending.{at_tail}
use Rattle.expr_tails.specs.declared.states.Context.{Context}
use Rattle.expr_tails.specs.declared.states.Tail.TheVariants as tail
use Rattle.expr_tails.specs.declared.symbols.Symbol.{Symbol}
use Rattle.expr_steps.specs.Steps as spec
use Rattle.expr_steps.proofs.operands.decided_at.Goals as goal

signed_same : (c : Context) (sign : Option Name) (name : Name)
    → spec.signed_by (at_tail c tail.Begin) sign name ≡ spec.signed_by c sign name
signed_same c None name = refl
signed_same c (Some sign) name = refl

sign_same : (c : Context) (name : Name) (s : Symbol) (before : Newline)
    → spec.sign_decided (at_tail c tail.Begin) name s before ≡ spec.sign_decided c name s before
sign_same c name s before =
    ap (λ signed. if not (spec.follows_sign c.limit s before) then at_tail c (tail.AtName name true)
    else (if spec.is_number s && spec.is_minus name then at_tail c (tail.AtSign name) else signed))
    (signed_same c c.sign name)

sign_taken : (c : Context) (e : Emptied) (name : Name) (s : Symbol) (before : Newline)
    → e ≡ emptied c → e.tail ≡ tail.AtSign name
    → spec.sign_decided e.context name s before ≡ spec.decided c s before
sign_taken c e name s before is here =
    subst (λ (f : Emptied). f.tail ≡ tail.AtSign name → spec.sign_decided f.context name s before ≡ spec.decided c s before)
    (sym is)
    (λ at. sign_same c name s before ∙ sym (ap (λ t. spec.decided_at t c s before) at))
    here

pub returns-in-AtSign : goal.returns-in-AtSign
returns-in-AtSign c =
    c.sign_decided.ensures
    ∙ sign_taken c.args.context c.take_tail-tail.result c.in-AtSign.name c.args.symbol c.args.before
    c.take_tail-tail.ensures c.in-AtSign.is
