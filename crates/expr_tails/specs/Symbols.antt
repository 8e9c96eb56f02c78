-- What the tokens are to the grammar of expressions.
use Rattle.std.specs.Prelude.{Bool, true, false, ◌||◌, if◌then◌else◌, List, [], ◌∷◌, Option, Some, None, codes}
use Rattle.std.specs.Str.{bytes_eq}
use Rattle.scan_tokens.specs.declared.tokens.TokenKind.{TokenKind}
use Rattle.scan_tokens.specs.declared.tokens.TokenKind.TheVariants as kind
use Rattle.scan_tokens.specs.Words.{Bytes, double_arrow, left_arrow}
use Rattle.expr_tails.specs.declared.symbols.Symbol.{Symbol}
use Rattle.expr_tails.specs.declared.symbols.Symbol.TheVariants as symbol
use Rattle.expr_tails.specs.declared.symbols.Word.{Word}
use Rattle.expr_tails.specs.declared.symbols.Word.TheVariants as word

-- a word that is written in one way
pub record Written (A : Type 0) : Type 0 where
  pub text : Bytes
  pub means : A

abbrev pub first_written : {A : Type 0} → List (Written A) → Bytes → Option A
first_written [] text = None
first_written (w ∷ ws) text = if bytes_eq text w.text then Some w.means else first_written ws text

abbrev pub written : {A : Type 0} → Bytes → A → Written A
written text means = record { text = text; means = means }

abbrev pub delimiter_symbol : Bytes → Symbol
delimiter_symbol text =
    if bytes_eq text (codes "(") then symbol.OpenRound
    else (if bytes_eq text (codes ")") then symbol.CloseRound
    else (if bytes_eq text (codes "[") then symbol.OpenSquare
    else (if bytes_eq text (codes "]") then symbol.CloseSquare
    else (if bytes_eq text (codes "{") then symbol.OpenCurly
    else (if bytes_eq text (codes "}") then symbol.CloseCurly
    else (if bytes_eq text (codes ",") then symbol.Comma
    else (if bytes_eq text (codes ".") then symbol.Dot
    else (if bytes_eq text (codes ";") then symbol.Semicolon else symbol.Other))))))))

abbrev pub is_arrow : Bytes → Bool
is_arrow text = bytes_eq text (codes "=>") || bytes_eq text double_arrow

abbrev pub is_back_arrow : Bytes → Bool
is_back_arrow text = bytes_eq text (codes "<-") || bytes_eq text left_arrow

abbrev pub sign_symbol : Bytes → Symbol
sign_symbol text =
    if is_arrow text then symbol.Arrow
    else (if is_back_arrow text then symbol.BackArrow
    else (if bytes_eq text (codes "_") then symbol.Underscore
    else (if bytes_eq text (codes ":") then symbol.Colon
    else (if bytes_eq text (codes "=") then symbol.Equals
    else (if bytes_eq text (codes "@") then symbol.At
    else (if bytes_eq text (codes ">:") then symbol.LowerBound
    else (if bytes_eq text (codes "<:") then symbol.UpperBound else symbol.Other)))))))

abbrev pub control_words : List (Written Word)
control_words =
    written (codes "case") word.Case ∷ written (codes "catch") word.Catch ∷ written (codes "do") word.Do
    ∷ written (codes "else") word.Else ∷ written (codes "finally") word.Finally ∷ written (codes "for") word.For
    ∷ written (codes "if") word.If ∷ written (codes "match") word.Match ∷ written (codes "new") word.New
    ∷ written (codes "return") word.Return ∷ written (codes "super") word.Super ∷ written (codes "this") word.This
    ∷ written (codes "throw") word.Throw ∷ written (codes "try") word.Try ∷ written (codes "while") word.While
    ∷ written (codes "yield") word.Yield ∷ []

abbrev pub definition_words : List (Written Word)
definition_words =
    written (codes "abstract") word.Abstract ∷ written (codes "class") word.Class ∷ written (codes "def") word.Def
    ∷ written (codes "final") word.Final ∷ written (codes "import") word.Import ∷ written (codes "lazy") word.Lazy
    ∷ written (codes "object") word.Object ∷ written (codes "override") word.Override
    ∷ written (codes "private") word.Private ∷ written (codes "protected") word.Protected
    ∷ written (codes "sealed") word.Sealed ∷ written (codes "type") word.Type ∷ written (codes "val") word.Val
    ∷ written (codes "var") word.Var ∷ []

abbrev pub is_literal_word : Bytes → Bool
is_literal_word text = bytes_eq text (codes "true") || bytes_eq text (codes "false") || bytes_eq text (codes "null")

abbrev pub word_or_other : Option Word → Symbol
word_or_other None = symbol.Other
word_or_other (Some w) = symbol.Word w

abbrev pub word_or : Option Word → Symbol → Symbol
word_or None rest = rest
word_or (Some w) rest = symbol.Word w

abbrev pub word_symbol : Bytes → Symbol
word_symbol text =
    if is_literal_word text then symbol.Literal
    else word_or (first_written control_words text) (word_or_other (first_written definition_words text))

unfoldable pub symbol_of : TokenKind → Bytes → Symbol
symbol_of kind.Id text = symbol.Id
symbol_of kind.BackId text = symbol.Id
symbol_of kind.Int text = symbol.Number
symbol_of kind.Long text = symbol.Number
symbol_of kind.Char text = symbol.Literal
symbol_of kind.Str text = symbol.Literal
symbol_of kind.Word text = word_symbol text
symbol_of kind.Sign text = sign_symbol text
symbol_of kind.Delimiter text = delimiter_symbol text
symbol_of _ text = symbol.Other

-- a path can begin with it (SLS 3.1)
abbrev pub is_path_word : Word → Bool
is_path_word word.Super = true
is_path_word word.This = true
is_path_word _ = false

abbrev pub is_prim_word : Word → Bool
is_prim_word word.New = true
is_prim_word w = is_path_word w

abbrev pub is_loop_word : Word → Bool
is_loop_word word.While = true
is_loop_word word.Do = true
is_loop_word _ = false

abbrev pub is_jump_word : Word → Bool
is_jump_word word.Throw = true
is_jump_word word.Return = true
is_jump_word _ = false

-- `else` or `catch` may follow what it begins
abbrev pub is_branch_word : Word → Bool
is_branch_word word.If = true
is_branch_word word.Try = true
is_branch_word _ = false

abbrev pub is_head_word : Word → Bool
is_head_word word.For = true
is_head_word w = is_branch_word w || (is_loop_word w || is_jump_word w)

abbrev pub is_literal : Symbol → Bool
is_literal symbol.Number = true
is_literal symbol.Literal = true
is_literal _ = false

abbrev pub is_name_or_wild : Symbol → Bool
is_name_or_wild symbol.Id = true
is_name_or_wild symbol.Underscore = true
is_name_or_wild _ = false

-- a Prim can begin with it
abbrev pub begins_prim : Symbol → Bool
begins_prim symbol.OpenRound = true
begins_prim symbol.OpenCurly = true
begins_prim (symbol.Word w) = is_prim_word w
begins_prim s = is_name_or_wild s || is_literal s

-- an expression can begin with it
abbrev pub begins_expr : Symbol → Bool
begins_expr (symbol.Word w) = is_prim_word w || is_head_word w
begins_expr s = begins_prim s
