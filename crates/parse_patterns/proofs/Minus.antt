-- A minus is no variable.
use Rattle.std.proofs.Common.{◌≡◌, false, codes, refl}
use Rattle.std.specs.Str.{chars}
use Rattle.ucd_category.specs.GeneralCategory.{general_category}
use Rattle.ucd_category.specs.GeneralCategoryRows.{general_category_rows}
use Rattle.ucd_table.specs.Rows.{value_in}
use Rattle.source_grammar.specs.Lexemes.{Place}
use Rattle.source_grammar.specs.Patterns.{is_var}

pub minus-var : (p : Place) → is_var (record { name = codes "-"; quoted = false; place = p }) ≡ false
unfolding is_var chars general_category value_in general_category_rows
minus-var p = refl
