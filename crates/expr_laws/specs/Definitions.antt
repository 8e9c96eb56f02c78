-- Which items are a definition of a block with its modifiers, and the reader of definitions as a machine on them.
use Rattle.std.specs.Prelude.{◌≡◌, Bool, true, false, ◌||◌, if◌then◌else◌, List, [], ◌∷◌, ◌++◌, Option, None, codes}
use Rattle.std.specs.List.{list_any}
use Rattle.std.specs.Str.{bytes_eq}
use Rattle.reading_machines.specs.Machines.{Machine}
use Rattle.scan_tokens.specs.declared.tokens.TokenKind.{TokenKind}
use Rattle.scan_tokens.specs.declared.tokens.TokenKind.TheVariants as kind
use Rattle.scan_tokens.specs.Words.{Bytes}
use Rattle.source_grammar.specs.Brackets.{is_balanced}
use Rattle.source_grammar.specs.Definitions.{Arguments, NoArguments, Balanced, Annotation, Mod, mod_list_tokens, Mods, ProperMods, type_part_tokens, TParams, ParList, tparams_tokens, par_lists_tokens}
use Rattle.source_grammar.specs.DefinitionTrees as grammar
use Rattle.source_grammar.specs.DefinitionTrees.{has, member_modifiers}
use Rattle.source_grammar.specs.Expressions.{WithinExpr, Def, ValueDef, MethodDef, ProcedureDef, AliasDef}
use Rattle.source_grammar.specs.ExpressionRules.{Rule, ProperDef}
use Rattle.source_grammar.specs.ExpressionTokens.{block_tokens, cases_tokens, enums_tokens, value_word_token, def_tokens}
use Rattle.source_grammar.specs.Lexemes.{Place, Lexeme, word_at, open_round, close_round, at_sign, equals, Id, id_token, QualId, qual_id_tokens}
use Rattle.source_grammar.specs.TemplateRules.{ProperDcl}
use Rattle.source_grammar.specs.Templates.{Dcl, dcl_tokens}
use Rattle.source_grammar.specs.Types.{type_tokens}
use Rattle.def_steps.specs.declared.states.Found.{Found}
use Rattle.def_steps.specs.declared.states.State.{State}
use Rattle.def_steps.specs.Definitions.{begun, stepped, is_definition}
use Rattle.expr_laws.specs.Exactly.{Given, picture, InLines, lined, ProperItem}
use Rattle.expr_laws.specs.Items.{Item, OneToken, BlockPair, CasesPair, EnumsPair, OtherPair, item_tokens, items_tokens, tokens, expr_items}
use Rattle.expr_laws.specs.Newlines.{newlines_end, NewlinesEnd, ended_by}

-- ---- one level of a text

-- A delimiter is one character, and none is a brace: braces stand around what is one item.
abbrev pub is_level_word : TokenKind → Bytes → Bool
is_level_word kind.Delimiter word = list_any (λ d. bytes_eq word (d ∷ [])) (codes "()[].,;")
is_level_word _ word = true

abbrev pub is_level_token : Lexeme → Bool
is_level_token x = is_level_word x.kind x.word

abbrev pub is_brace_word : TokenKind → Bytes → Bool
is_brace_word kind.Delimiter word = bytes_eq word (codes "{") || bytes_eq word (codes "}")
is_brace_word _ word = false

abbrev pub is_brace_token : Lexeme → Bool
is_brace_token x = is_brace_word x.kind x.word

-- what stands between the braces of a pair
abbrev pub within : Item → List Lexeme
within (OneToken x) = []
within (BlockPair o block k) = block_tokens block
within (CasesPair o cases k) = cases_tokens cases
within (EnumsPair o enums k) = enums_tokens enums
within (OtherPair o xs k) = xs

-- a token, or braces in which brackets match
abbrev pub IsLevelItem : Item → Type 0
IsLevelItem (OneToken x) = is_level_token x ≡ true
IsLevelItem i = is_balanced (within i) ≡ true

-- ---- modifiers, with the items in the arguments of their annotations

pub data ReadArguments : Type 0 where
  NoneRead : ReadArguments
  Between : (opening : Place) → List Item → (closing : Place) → ReadArguments

pub record ReadAnnotation : Type 0 where
  pub sign : Place
  pub path : QualId
  pub arguments : ReadArguments

pub record ReadMods : Type 0 where
  pub annotations : List ReadAnnotation
  pub mods : List Mod

abbrev pub arguments_of : ReadArguments → Arguments
arguments_of NoneRead = NoArguments
arguments_of (Between o is k) = Balanced o (items_tokens is) k

abbrev pub annotation_of : ReadAnnotation → Annotation
annotation_of a = record { sign = a.sign; path = a.path; arguments = arguments_of a.arguments }

abbrev pub annotations_of : List ReadAnnotation → List Annotation
annotations_of [] = []
annotations_of (a ∷ rest) = annotation_of a ∷ annotations_of rest

abbrev pub mods_of : ReadMods → Mods
mods_of m = record { annotations = annotations_of m.annotations; mods = m.mods }

-- ---- items

abbrev pub arguments_items : ReadArguments → List Item
arguments_items NoneRead = []
arguments_items (Between o is k) = OneToken (open_round o) ∷ (is ++ OneToken (close_round k) ∷ [])

abbrev pub annotation_items : ReadAnnotation → List Item
annotation_items a = OneToken (at_sign a.sign) ∷ (tokens (qual_id_tokens a.path) ++ arguments_items a.arguments)

abbrev pub annotations_items : List ReadAnnotation → List Item
annotations_items [] = []
annotations_items (a ∷ rest) = annotation_items a ++ annotations_items rest

abbrev pub mods_items : ReadMods → List Item
mods_items m = annotations_items m.annotations ++ tokens (mod_list_tokens m.mods)

abbrev pub method_tokens : Place → Id → TParams → List ParList → List Lexeme
method_tokens word id tparams lists = word_at (codes "def") word ∷ id_token id ∷ (tparams_tokens tparams ++ par_lists_tokens lists)

-- those of a definition, with each pair of braces as one
abbrev pub def_items : Def → List Item
def_items (ValueDef w id type sign right) = tokens (value_word_token w ∷ id_token id ∷ type_part_tokens type) ++ OneToken (equals sign) ∷ expr_items right
def_items (MethodDef word id tparams lists type sign right) =
    tokens (method_tokens word id tparams lists ++ type_part_tokens type) ++ OneToken (equals sign) ∷ expr_items right
def_items (ProcedureDef word id tparams lists o block k) = tokens (method_tokens word id tparams lists) ++ BlockPair o block k ∷ []
def_items (AliasDef word id sign type) = tokens (word_at (codes "type") word ∷ id_token id ∷ equals sign ∷ type_tokens type)

-- ---- definitions

-- what the reader keeps of modifiers
pub record Says (mods : ReadMods) (found : Found) : Type 0 where
  pub modifiers : found.modifiers ≡ member_modifiers (mods_of mods)
  pub is_lazy : found.is_lazy ≡ has grammar.is_lazy (mods_of mods)

module _ (rule : Rule) where
  -- an item of one level, whose braces have been read
  pub record ReadDefItem : Type 0 where
    pub given : Given
    pub proper : ProperItem rule given.item
    pub level : IsLevelItem given.item

  abbrev pub def_items_of : List ReadDefItem → List Item
  def_items_of [] = []
  def_items_of (i ∷ is) = i.given.item ∷ def_items_of is

  -- These are the items of a definition of a block with its modifiers, and newlines count in them only after tokens that can end a statement.
  pub record AreOfDefinition (is : List ReadDefItem) : Type 0 where
    pub mods : ReadMods
    pub def : Def
    pub proper_mods : ProperMods (mods_of mods) (def_tokens def)
    pub proper : ProperDef rule WithinExpr def
    pub items : def_items_of is ≡ mods_items mods ++ def_items def
    pub newlines : NewlinesEnd (items_tokens (def_items_of is))

  -- The same of a declaration.
  pub record AreOfDeclaration (is : List ReadDefItem) : Type 0 where
    pub mods : ReadMods
    pub dcl : Dcl
    pub proper_mods : ProperMods (mods_of mods) (dcl_tokens dcl)
    pub proper : ProperDcl dcl
    pub items : def_items_of is ≡ mods_items mods ++ tokens (dcl_tokens dcl)
    pub newlines : NewlinesEnd (items_tokens (def_items_of is))

  -- The same of modifiers alone, behind which this token stands.
  pub record AreOfModifiers (after : Lexeme) (is : List ReadDefItem) : Type 0 where
    pub mods : ReadMods
    pub proper : ProperMods (mods_of mods) (after ∷ [])
    pub items : def_items_of is ≡ mods_items mods
    pub newlines : NewlinesEnd (items_tokens (def_items_of is))

  abbrev pub def_step_in_lines : InLines State → ReadDefItem → Option (InLines State)
  def_step_in_lines s i =
      if newlines_end s.ended (item_tokens i.given.item)
      then lined (ended_by s.ended (item_tokens i.given.item)) (stepped s.state (picture i.given)) else None

  -- the reader on pictures of items
  abbrev pub definitions_in_lines : Machine (InLines State) ReadDefItem
  definitions_in_lines = record { start = record { ended = true; state = begun }; step = def_step_in_lines; whole = λ s. is_definition s.state }
