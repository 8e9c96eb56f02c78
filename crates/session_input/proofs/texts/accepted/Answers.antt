use Rattle.std.proofs.Common.{◌≡◌, ◌∙◌, ap, sym, subst, length, IsUtf8, arith}
use Rattle.std.proofs.lemmas.Bool.{true≢false}
use Rattle.std.proofs.lemmas.Str.{IsUtf8-string_bytes, utf8_valid_len-IsUtf8}
use Rattle.std.specs.Str.{valid_up_to}
use Rattle.std.specs.Str.Lossy.{utf8_valid_len}
use Rattle.session_input.proofs.TextLemmas.{accepted_text, accepted_not, utf8_from_valid_len}
use Rattle.session_input.proofs.texts.accepted.Goals as goal

pub returns-in-Ok-clause-comes : goal.returns-in-Ok-clause-comes
returns-in-Ok-clause-comes c =
    let bytes = c.args.bytes.items in
    let same = c.from_string.ensures ∙ ap (λ v. v.items) c.in-Ok.ensures.ok in
    let utf8 = subst IsUtf8 (ap (λ v. v.items) c.in-Ok.ensures.ok) (IsUtf8-string_bytes c.in-Ok.string) in
    accepted_text c.args.limit c.args.name.now bytes c.from_string.result (omega arith) (utf8_valid_len-IsUtf8 bytes utf8) same

pub returns-in_ok-clone-in-Err-clause-comes : goal.returns-in_ok-clone-in-Err-clause-comes
returns-in_ok-clone-in-Err-clause-comes c =
    let bytes = c.args.bytes.items in
    let part : utf8_valid_len bytes ≡ length bytes → ⊥ = λ whole. true≢false (sym (c.in-Err.ensures.succeeds (utf8_from_valid_len bytes whole))) in
    accepted_not c.args.limit c.args.name.now bytes c.in_ok-clone-in-Err.field-0 c.valid_up_to-byte.result (omega arith) part
    c.in_ok-clone-in-Err.ensures.cases (c.valid_up_to-byte.ensures ∙ ap valid_up_to c.utf8_error.ensures ∙ c.in-Err.ensures.valid_len)
