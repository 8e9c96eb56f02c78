-- What stands in definitions and imports beside their expressions: modifiers, parameters, type parameters, import clauses (SLS 4, 5.2, 4.7).
use Rattle.std.specs.Prelude.{◌≡◌, Bool, true, false, List, [], ◌∷◌, ◌++◌, Option, Some, None, codes}
use Rattle.source_grammar.specs.Brackets.{is_balanced}
use Rattle.source_grammar.specs.Lexemes.{Place, Lexeme, word_at, sign_at, plain_at, open_round, close_round, open_square, close_square, open_curly, close_curly, comma, dot, colon, underscore, at_sign, Arrow, arrow_token, Id, id_token, QualId, qual_id_tokens}
use Rattle.source_grammar.specs.Newlines.{IsJoinedPart, IsNearPart, IsJoined}
use Rattle.source_grammar.specs.Types.{WrittenType, type_tokens}

-- ---- Mods : {'@' QualId ['(' balanced ')'] nl} {Mod}

-- ['(' balanced ')']
pub data Arguments : Type 0 where
  NoArguments : Arguments
  Balanced : (opening : Place) → List Lexeme → (closing : Place) → Arguments

pub record Annotation : Type 0 where
  pub sign : Place
  pub path : QualId
  pub arguments : Arguments

-- ['[' (id|'this') ']']
pub data AccessQualifier : Type 0 where
  NoQualifier : AccessQualifier
  OfId : (opening : Place) → Id → (closing : Place) → AccessQualifier
  OfThis : (opening word closing : Place) → AccessQualifier

-- Mod : abstract final sealed lazy override case | ('private'|'protected') ['[' (id|'this') ']']
pub data Mod : Type 0 where
  Abstract : Place → Mod
  Final : Place → Mod
  Sealed : Place → Mod
  Lazy : Place → Mod
  Override : Place → Mod
  CaseMod : Place → Mod
  Private : Place → AccessQualifier → Mod
  Protected : Place → AccessQualifier → Mod

pub record Mods : Type 0 where
  pub annotations : List Annotation
  pub mods : List Mod

abbrev pub arguments_tokens : Arguments → List Lexeme
arguments_tokens NoArguments = []
arguments_tokens (Balanced opening inside closing) = open_round opening ∷ (inside ++ close_round closing ∷ [])

abbrev pub annotation_tokens : Annotation → List Lexeme
annotation_tokens a = at_sign a.sign ∷ (qual_id_tokens a.path ++ arguments_tokens a.arguments)

abbrev pub annotations_tokens : List Annotation → List Lexeme
annotations_tokens [] = []
annotations_tokens (a ∷ as_) = annotation_tokens a ++ annotations_tokens as_

abbrev pub qualifier_tokens : AccessQualifier → List Lexeme
qualifier_tokens NoQualifier = []
qualifier_tokens (OfId opening id closing) = open_square opening ∷ id_token id ∷ close_square closing ∷ []
qualifier_tokens (OfThis opening word closing) = open_square opening ∷ word_at (codes "this") word ∷ close_square closing ∷ []

abbrev pub mod_tokens : Mod → List Lexeme
mod_tokens (Abstract word) = word_at (codes "abstract") word ∷ []
mod_tokens (Final word) = word_at (codes "final") word ∷ []
mod_tokens (Sealed word) = word_at (codes "sealed") word ∷ []
mod_tokens (Lazy word) = word_at (codes "lazy") word ∷ []
mod_tokens (Override word) = word_at (codes "override") word ∷ []
mod_tokens (CaseMod word) = word_at (codes "case") word ∷ []
mod_tokens (Private word qualifier) = word_at (codes "private") word ∷ qualifier_tokens qualifier
mod_tokens (Protected word qualifier) = word_at (codes "protected") word ∷ qualifier_tokens qualifier

abbrev pub mod_list_tokens : List Mod → List Lexeme
mod_list_tokens [] = []
mod_list_tokens (m ∷ ms) = mod_tokens m ++ mod_list_tokens ms

abbrev pub mods_tokens : Mods → List Lexeme
mods_tokens mods = annotations_tokens mods.annotations ++ mod_list_tokens mods.mods

-- the arguments of an annotation follow its name in the same line, and their brackets are balanced
abbrev pub ProperArguments : Arguments → Type 0
ProperArguments NoArguments = Unit {0}
ProperArguments (Balanced opening inside closing) = IsJoined opening × (is_balanced inside ≡ true)

-- After an annotation stands nl, after a modifier nothing. `after` is what follows all modifiers.
abbrev pub ProperModList : List Mod → List Lexeme → Type 0
ProperModList [] after = Unit {0}
ProperModList (m ∷ ms) after = IsJoinedPart (mod_list_tokens ms ++ after) × ProperModList ms after

abbrev pub ProperAnnotations : List Annotation → List Lexeme → Type 0
ProperAnnotations [] after = Unit {0}
ProperAnnotations (a ∷ as_) after =
    ProperArguments a.arguments × IsNearPart (annotations_tokens as_ ++ after) × ProperAnnotations as_ after

abbrev pub ProperMods : Mods → List Lexeme → Type 0
ProperMods mods after = ProperAnnotations mods.annotations (mod_list_tokens mods.mods ++ after) × ProperModList mods.mods after

-- ---- parameters

-- [':' Type]
pub data TypePart : Type 0 where
  NoType : TypePart
  OfType : (point : Place) → WrittenType → TypePart

abbrev pub type_part_tokens : TypePart → List Lexeme
type_part_tokens NoType = []
type_part_tokens (OfType point type) = colon point ∷ type_tokens type

-- ['*']
abbrev pub star_tokens : Option Place → List Lexeme
star_tokens None = []
star_tokens (Some star) = plain_at (codes "*") star ∷ []

-- Par : id ':' PType, PType : Type ['*']
pub record Par : Type 0 where
  pub id : Id
  pub point : Place
  pub type : WrittenType
  pub star : Option Place

abbrev pub par_tokens : Par → List Lexeme
par_tokens par = id_token par.id ∷ colon par.point ∷ (type_tokens par.type ++ star_tokens par.star)

-- ['val'|'var']
pub data ParWord : Type 0 where
  NoWord : ParWord
  ValWord : Place → ParWord
  VarWord : Place → ParWord

abbrev pub par_word_tokens : ParWord → List Lexeme
par_word_tokens NoWord = []
par_word_tokens (ValWord word) = word_at (codes "val") word ∷ []
par_word_tokens (VarWord word) = word_at (codes "var") word ∷ []

-- CPar : Mods ['val'|'var'] id ':' PType
pub record CPar : Type 0 where
  pub mods : Mods
  pub word : ParWord
  pub par : Par

abbrev pub cpar_rest : CPar → List Lexeme
cpar_rest cpar = par_word_tokens cpar.word ++ par_tokens cpar.par

abbrev pub cpar_tokens : CPar → List Lexeme
cpar_tokens cpar = mods_tokens cpar.mods ++ cpar_rest cpar

-- [X,..], as the first and what stands after it, each with its comma
pub record Behind (X : Type 0) : Type 0 where
  pub comma : Place
  pub item : X

pub data Listed (X : Type 0) : Type 0 where
  Nothing : Listed X
  Items : X → List (Behind X) → Listed X

module _ {X : Type 0} (tokens : X → List Lexeme) where
  abbrev pub behind_tokens : List (Behind X) → List Lexeme
  behind_tokens [] = []
  behind_tokens (b ∷ bs) = comma b.comma ∷ (tokens b.item ++ behind_tokens bs)

  abbrev pub listed_tokens : Listed X → List Lexeme
  listed_tokens Nothing = []
  listed_tokens (Items x bs) = tokens x ++ behind_tokens bs

abbrev pub behind_items : {X : Type 0} → List (Behind X) → List X
behind_items [] = []
behind_items (b ∷ bs) = b.item ∷ behind_items bs

abbrev pub items : {X : Type 0} → Listed X → List X
items Nothing = []
items (Items x bs) = x ∷ behind_items bs

-- '*' stands only in the last of a list
abbrev pub OnlyLastRepeats : List Par → Type 0
OnlyLastRepeats [] = Unit {0}
OnlyLastRepeats (par ∷ []) = Unit {0}
OnlyLastRepeats (par ∷ next ∷ pars) = (par.star ≡ None) × OnlyLastRepeats (next ∷ pars)

-- nl '(' [Par,..] ')'
pub record ParList : Type 0 where
  pub opening : Place
  pub pars : Listed Par
  pub closing : Place

abbrev pub par_list_tokens : ParList → List Lexeme
par_list_tokens list = open_round list.opening ∷ (listed_tokens par_tokens list.pars ++ close_round list.closing ∷ [])

abbrev pub par_lists_tokens : List ParList → List Lexeme
par_lists_tokens [] = []
par_lists_tokens (list ∷ lists) = par_list_tokens list ++ par_lists_tokens lists

-- ---- TParams : '[' TPar,.. ']', TPar : ['+'|'-'] id ['>:' Type] ['<:' Type]

pub data VarianceSign : Type 0 where
  NoSign : VarianceSign
  PlusSign : Place → VarianceSign
  MinusSign : Place → VarianceSign

abbrev pub variance_tokens : VarianceSign → List Lexeme
variance_tokens NoSign = []
variance_tokens (PlusSign sign) = plain_at (codes "+") sign ∷ []
variance_tokens (MinusSign sign) = plain_at (codes "-") sign ∷ []

-- a bound, with its sign
pub data Bound : Type 0 where
  NoBound : Bound
  BoundBy : (sign : Place) → WrittenType → Bound

abbrev pub lower_tokens : Bound → List Lexeme
lower_tokens NoBound = []
lower_tokens (BoundBy sign type) = sign_at (codes ">:") sign ∷ type_tokens type

abbrev pub upper_tokens : Bound → List Lexeme
upper_tokens NoBound = []
upper_tokens (BoundBy sign type) = sign_at (codes "<:") sign ∷ type_tokens type

pub record TPar : Type 0 where
  pub variance : VarianceSign
  pub id : Id
  pub lower : Bound
  pub upper : Bound

abbrev pub tpar_tokens : TPar → List Lexeme
tpar_tokens tpar = variance_tokens tpar.variance ++ id_token tpar.id ∷ (lower_tokens tpar.lower ++ upper_tokens tpar.upper)

-- [TParams]
pub data TParams : Type 0 where
  NoTParams : TParams
  TParamsOf : (opening : Place) → TPar → List (Behind TPar) → (closing : Place) → TParams

abbrev pub tparams_tokens : TParams → List Lexeme
tparams_tokens NoTParams = []
tparams_tokens (TParamsOf opening tpar tpars closing) =
    open_square opening ∷ (tpar_tokens tpar ++ behind_tokens tpar_tokens tpars ++ close_square closing ∷ [])

-- ---- imports

-- Sel : id | id '=>' id | id '=>' '_' | '_'
pub data Sel : Type 0 where
  SelName : Id → Sel
  SelRenamed : Id → Arrow → Id → Sel
  SelHidden : Id → Arrow → Place → Sel
  SelWild : Place → Sel

-- ImpExpr : QualId '.' ( id | '_' | '{' Sel,.. '}' )
pub data ImpExpr : Type 0 where
  ImportName : QualId → (point : Place) → Id → ImpExpr
  ImportWild : QualId → (point : Place) → Place → ImpExpr
  ImportSels : QualId → (point opening : Place) → Sel → List (Behind Sel) → (closing : Place) → ImpExpr

-- Import : 'import' ImpExpr,..
pub record Import : Type 0 where
  pub word : Place
  pub first : ImpExpr
  pub others : List (Behind ImpExpr)

abbrev pub sel_tokens : Sel → List Lexeme
sel_tokens (SelName id) = id_token id ∷ []
sel_tokens (SelRenamed id arrow shown) = id_token id ∷ arrow_token arrow ∷ id_token shown ∷ []
sel_tokens (SelHidden id arrow wild) = id_token id ∷ arrow_token arrow ∷ underscore wild ∷ []
sel_tokens (SelWild wild) = underscore wild ∷ []

abbrev pub imp_expr_tokens : ImpExpr → List Lexeme
imp_expr_tokens (ImportName path point id) = qual_id_tokens path ++ dot point ∷ id_token id ∷ []
imp_expr_tokens (ImportWild path point wild) = qual_id_tokens path ++ dot point ∷ underscore wild ∷ []
imp_expr_tokens (ImportSels path point opening sel sels closing) =
    qual_id_tokens path ++ dot point ∷ open_curly opening ∷ (sel_tokens sel ++ behind_tokens sel_tokens sels ++ close_curly closing ∷ [])

abbrev pub import_tokens : Import → List Lexeme
import_tokens i = word_at (codes "import") i.word ∷ (imp_expr_tokens i.first ++ behind_tokens imp_expr_tokens i.others)

abbrev pub is_wild : Sel → Bool
is_wild (SelWild wild) = true
is_wild _ = false

-- '_' stands only last
abbrev pub OnlyLastIsWild : Sel → List (Behind Sel) → Type 0
OnlyLastIsWild sel [] = Unit {0}
OnlyLastIsWild sel (b ∷ bs) = (is_wild sel ≡ false) × OnlyLastIsWild b.item bs

abbrev pub ProperImpExpr : ImpExpr → Type 0
ProperImpExpr (ImportName path point id) = Unit {0}
ProperImpExpr (ImportWild path point wild) = Unit {0}
ProperImpExpr (ImportSels path point opening sel sels closing) = OnlyLastIsWild sel sels

abbrev pub ProperImpExprs : List (Behind ImpExpr) → Type 0
ProperImpExprs [] = Unit {0}
ProperImpExprs (b ∷ bs) = ProperImpExpr b.item × ProperImpExprs bs

abbrev pub ProperImport : Import → Type 0
ProperImport i = ProperImpExpr i.first × ProperImpExprs i.others
