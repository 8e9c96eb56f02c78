-- Which tokens are a statement, and how a list is divided into statements.
use Rattle.std.specs.Prelude.{◌≡◌, ◌<◌, Bool, true, false, List, [], ◌∷◌, ◌++◌, length}
use Rattle.source_grammar.specs.Brackets.{separates, is_piece}
use Rattle.source_grammar.specs.Definitions.{Mods, mods_tokens, ProperMods, Import, import_tokens, ProperImport}
use Rattle.source_grammar.specs.Expressions.{ListKind, OfTemplate, OfUnit, Sep, BStat, EmptyBStat, BrokenBStat}
use Rattle.source_grammar.specs.ExpressionRules.{Rule, ProperBStat, is_separated}
use Rattle.source_grammar.specs.ExpressionTokens.{bstat_tokens, sep_tokens}
use Rattle.source_grammar.specs.Lexemes.{Lexeme}
use Rattle.source_grammar.specs.Templates.{Tmpl, tmpl_tokens, Stat, EmptyStat, BrokenStat, stat_tokens}
use Rattle.source_grammar.specs.TemplateRules.{ProperTmpl, ProperStat}

-- ---- statements of a unit

-- Top : Import | Mods Tmpl | empty, or what is none of these
pub data Top : Type 0 where
  ImportTop : Import → Top
  TmplTop : Mods → Tmpl → Top
  EmptyTop : Top
  BrokenTop : List Lexeme → Top

-- Top {sep Top}
pub data Tops : Type 0 where
  LastTop : Top → Tops
  MoreTops : Top → Sep → Tops → Tops

abbrev pub top_tokens : Top → List Lexeme
top_tokens (ImportTop i) = import_tokens i
top_tokens (TmplTop mods tmpl) = mods_tokens mods ++ tmpl_tokens tmpl
top_tokens EmptyTop = []
top_tokens (BrokenTop xs) = xs

abbrev pub tops_tokens : Tops → List Lexeme
tops_tokens (LastTop top) = top_tokens top
tops_tokens (MoreTops top sep tops) = top_tokens top ++ sep_tokens sep ++ tops_tokens tops

abbrev pub is_broken_top : Top → Bool
is_broken_top (BrokenTop xs) = true
is_broken_top _ = false

module _ (rule : Rule) where
  abbrev pub ProperTop : Top → Type 0
  ProperTop (ImportTop i) = ProperImport i
  ProperTop (TmplTop mods tmpl) = ProperMods mods (tmpl_tokens tmpl) × ProperTmpl rule tmpl
  ProperTop EmptyTop = Unit {0}
  ProperTop (BrokenTop xs) = is_piece xs ≡ true

  abbrev pub ProperTops : Tops → Type 0
  ProperTops (LastTop top) = ProperTop top × rule OfUnit (is_broken_top top) (top_tokens top) []
  ProperTops (MoreTops top sep tops) =
      ProperTop top × rule OfUnit (is_broken_top top) (top_tokens top) (sep_tokens sep ++ tops_tokens tops)
      × (is_separated (top_tokens top) sep (tops_tokens tops) ≡ true) × ProperTops tops

-- ---- which tokens are a statement

-- However the lists within it are divided: what stands between two braces that match can be divided in some way, so whether
-- tokens are a statement does not depend on it.
abbrev pub any_division : Rule
any_division kind broken front behind = Unit {0}

abbrev pub is_whole_bstat : BStat → Bool
is_whole_bstat EmptyBStat = false
is_whole_bstat (BrokenBStat xs) = false
is_whole_bstat _ = true

abbrev pub is_whole_stat : Stat → Bool
is_whole_stat EmptyStat = false
is_whole_stat (BrokenStat xs) = false
is_whole_stat _ = true

abbrev pub is_whole_top : Top → Bool
is_whole_top EmptyTop = false
is_whole_top (BrokenTop xs) = false
is_whole_top _ = true

abbrev pub IsBlockStatement : ListKind → List Lexeme → Type 0
IsBlockStatement kind xs = (d : BStat) × (is_whole_bstat d ≡ true) × ProperBStat any_division kind d × (xs ≡ bstat_tokens d)

-- These tokens are a statement of a list of this kind, and not the empty one.
abbrev pub IsStatementOf : ListKind → List Lexeme → Type 0
IsStatementOf OfTemplate xs = (d : Stat) × (is_whole_stat d ≡ true) × ProperStat any_division d × (xs ≡ stat_tokens d)
IsStatementOf OfUnit xs = (d : Top) × (is_whole_top d ≡ true) × ProperTop any_division d × (xs ≡ top_tokens d)
IsStatementOf kind xs = IsBlockStatement kind xs

-- ---- how a list is divided

-- the end of the list, or a separator
abbrev pub ends_statement : List Lexeme → Bool
ends_statement [] = true
ends_statement (x ∷ xs) = separates x

-- a beginning of these tokens that is a statement and is followed by a separator or the end of its list
pub record BeginsWith (kind : ListKind) (all front : List Lexeme) : Type 0 where
  pub behind : List Lexeme
  pub split : all ≡ front ++ behind
  pub followed : ends_statement behind ≡ true
  pub statement : IsStatementOf kind front

-- A statement is the longest beginning of what is left that is one and is followed by a separator or the end. Broken are
-- tokens of which no beginning is.
unfoldable pub longest : Rule
longest kind false xs behind = (front : List Lexeme) → length xs < length front → BeginsWith kind (xs ++ behind) front → ⊥
longest kind true xs behind = (front : List Lexeme) → BeginsWith kind (xs ++ behind) front → ⊥
