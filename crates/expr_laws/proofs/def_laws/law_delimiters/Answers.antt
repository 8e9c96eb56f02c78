use Rattle.expr_laws.proofs.DelimitersScanned.{scanned-delimiters}
use Rattle.expr_laws.proofs.def_laws.law_delimiters.Goals as goal

pub returns : goal.returns
returns c text utf8 = scanned-delimiters text utf8
