-- The reserved words and signs (SLS 1.1), and those of them that begin no statement or end one (SLS 1.2).
use Rattle.std.specs.Prelude.{List, [], ◌∷◌, codes}
pub use Rattle.pc_terms.specs.Bytes.{Bytes}

unfoldable pub reserved_words : List Bytes
reserved_words =
    codes "abstract" ∷ codes "case" ∷ codes "catch" ∷ codes "class" ∷ codes "def" ∷ codes "do" ∷ codes "else" ∷ codes "extends"
    ∷ codes "false" ∷ codes "final" ∷ codes "finally" ∷ codes "for" ∷ codes "forSome" ∷ codes "if" ∷ codes "implicit" ∷ codes "import"
    ∷ codes "lazy" ∷ codes "macro" ∷ codes "match" ∷ codes "new" ∷ codes "null" ∷ codes "object" ∷ codes "override" ∷ codes "package"
    ∷ codes "private" ∷ codes "protected" ∷ codes "return" ∷ codes "sealed" ∷ codes "super" ∷ codes "this" ∷ codes "throw" ∷ codes "trait"
    ∷ codes "true" ∷ codes "try" ∷ codes "type" ∷ codes "val" ∷ codes "var" ∷ codes "while" ∷ codes "with" ∷ codes "yield" ∷ []

-- U+21D2 for =>, and U+2190 for <-
abbrev pub double_arrow : Bytes
double_arrow = 226 ∷ 135 ∷ 146 ∷ []

abbrev pub left_arrow : Bytes
left_arrow = 226 ∷ 134 ∷ 144 ∷ []

unfoldable pub reserved_signs : List Bytes
reserved_signs =
    codes "_" ∷ codes ":" ∷ codes "=" ∷ codes "=>" ∷ codes "<-" ∷ codes "<:" ∷ codes "<%" ∷ codes ">:" ∷ codes "#" ∷ codes "@"
    ∷ double_arrow ∷ left_arrow ∷ []

unfoldable pub ending_words : List Bytes
ending_words = codes "this" ∷ codes "null" ∷ codes "true" ∷ codes "false" ∷ codes "return" ∷ codes "type" ∷ []

unfoldable pub continuing_words : List Bytes
continuing_words =
    codes "catch" ∷ codes "else" ∷ codes "extends" ∷ codes "finally" ∷ codes "forSome" ∷ codes "match" ∷ codes "with" ∷ codes "yield" ∷ []

unfoldable pub case_words : List Bytes
case_words = codes "case" ∷ []

unfoldable pub template_words : List Bytes
template_words = codes "class" ∷ codes "object" ∷ []

unfoldable pub ending_signs : List Bytes
ending_signs = codes "_" ∷ []

unfoldable pub arrows : List Bytes
arrows = codes "=>" ∷ double_arrow ∷ []

unfoldable pub continuing_signs : List Bytes
continuing_signs = codes ":" ∷ codes "=" ∷ codes "<-" ∷ codes "<:" ∷ codes "<%" ∷ codes ">:" ∷ codes "#" ∷ left_arrow ∷ []
