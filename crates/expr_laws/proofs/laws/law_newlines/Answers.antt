use Rattle.std.proofs.Common.{false}
use Rattle.scan_tokens.specs.Scanned.{scanned}
use Rattle.source_grammar.specs.Lexemes.{lexemes}
use Rattle.expr_laws.proofs.NewlinesApart.{any-ends}
use Rattle.expr_laws.proofs.NewlinesScanned.{scanned-ends}
use Rattle.expr_laws.proofs.laws.law_newlines.Goals as goal

pub returns : goal.returns
returns c text = any-ends false (lexemes (scanned text)) (scanned-ends text)
