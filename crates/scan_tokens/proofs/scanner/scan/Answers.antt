use Rattle.std.proofs.Common.{◌≡◌, length, sym, subst, rules}
use Rattle.std.specs.Str.{chars}
use Rattle.scan_tokens.specs.declared.tokens.Tokens.{Tokens}
use Rattle.scan_tokens.specs.Scanned.{scanned, AreOfPieces}
use Rattle.scan_tokens.proofs.PieceLemmas.{tokens_in-order}
use Rattle.scan_tokens.proofs.ScannedLemmas.{scanned-pieces}
use Rattle.scan_tokens.proofs.scanner.scan.Goals as goal

pub with_newlines-requires : goal.with_newlines-requires
with_newlines-requires c =
    let text = c.args.text.now in
    rw (c.as_bytes.ensures.value, c.as_slice.ensures, c.in_ok-tokens.ensures.tokens) (tokens_in-order (length text) (chars text))

pub returns-clause-divided : goal.returns-clause-divided
unfolding scanned
returns-clause-divided c =
    let found : Tokens = record { text = c.in_ok-new.field-0; tokens = c.in_ok-tokens-2.tokens; problems = c.in_ok-tokens.problems } in
    let same : found ≡ scanned c.args.text.now = search rules in
    λ ps d. (let P : Tokens → Type 0 = λ t. AreOfPieces c.args.text.now ps t in subst P (sym same) (scanned-pieces c.args.text.now ps d))
