-- Classes, traits and objects, with what stands in them (SLS 5), and declarations (SLS 4).
use Rattle.std.specs.Prelude.{List, [], ◌∷◌, ◌++◌, codes}
use Rattle.source_grammar.specs.Definitions.{Mods, mods_tokens, TypePart, type_part_tokens, CPar, cpar_tokens, Listed, listed_tokens, ParList, par_lists_tokens, TParams, tparams_tokens, Import, import_tokens}
use Rattle.source_grammar.specs.Expressions.{ValueWord, Sep, Expr, ExprList, Def}
use Rattle.source_grammar.specs.ExpressionTokens.{value_word_token, sep_tokens, expr_tokens, expr_list_tokens, def_tokens}
use Rattle.source_grammar.specs.Lexemes.{Place, Lexeme, word_at, open_round, close_round, open_curly, close_curly, colon, Id, id_token}
use Rattle.source_grammar.specs.Types.{WrittenType, type_tokens}

-- ---- derivations

-- Dcl : ('val'|'var') id ':' Type | 'def' id [TParams] {nl '(' [Par,..] ')'} [':' Type]
pub data Dcl : Type 0 where
  ValueDcl : ValueWord → Id → (point : Place) → WrittenType → Dcl
  MethodDcl : (word : Place) → Id → TParams → List ParList → TypePart → Dcl

-- [Mods nl '(' [CPar,..] ')']
pub data Constructor : Type 0 where
  NoConstructor : Constructor
  ConstructorOf : Mods → (opening : Place) → Listed CPar → (closing : Place) → Constructor

-- [Args], in parentheses
pub data ParentArgs : Type 0 where
  NoParentArgs : ParentArgs
  EmptyArgs : (opening closing : Place) → ParentArgs
  ArgsOf : (opening : Place) → ExprList → (closing : Place) → ParentArgs

-- 'with' Type
pub record Mixin : Type 0 where
  pub word : Place
  pub type : WrittenType

-- ['extends' Type [Args] {'with' Type}]
pub data Parents : Type 0 where
  NoParents : Parents
  Extends : (word : Place) → WrittenType → ParentArgs → List Mixin → Parents

mutual
  -- Tmpl : 'class' id [TParams] [Mods nl '(' [CPar,..] ')'] Body | 'trait' id [TParams] Body | 'object' id Body
  pub data Tmpl : Type 0 where
    ClassTmpl : (word : Place) → Id → TParams → Constructor → Body → Tmpl
    TraitTmpl : (word : Place) → Id → TParams → Body → Tmpl
    ObjectTmpl : (word : Place) → Id → Body → Tmpl

  -- Body : ['extends' Type [Args] {'with' Type}] [nl '{' Stat {sep Stat} '}']
  pub data Body : Type 0 where
    ParentsAlone : Parents → Body
    ParentsWith : Parents → (opening : Place) → Stats → (closing : Place) → Body

  -- Stat {sep Stat}
  pub data Stats : Type 0 where
    LastStat : Stat → Stats
    MoreStats : Stat → Sep → Stats → Stats

  -- Stat : Import | Mods Tmpl | Mods Def | Mods Dcl | Expr | empty, or what is none of these
  pub data Stat : Type 0 where
    ImportStat : Import → Stat
    TmplStat : Mods → Tmpl → Stat
    DefStat : Mods → Def → Stat
    DclStat : Mods → Dcl → Stat
    ExprStat : Expr → Stat
    EmptyStat : Stat
    BrokenStat : List Lexeme → Stat

-- ---- tokens

abbrev pub dcl_tokens : Dcl → List Lexeme
dcl_tokens (ValueDcl word id point type) = value_word_token word ∷ id_token id ∷ colon point ∷ type_tokens type
dcl_tokens (MethodDcl word id variables lists type) =
    word_at (codes "def") word ∷ id_token id ∷ (tparams_tokens variables ++ par_lists_tokens lists ++ type_part_tokens type)

abbrev pub constructor_tokens : Constructor → List Lexeme
constructor_tokens NoConstructor = []
constructor_tokens (ConstructorOf mods opening cpars closing) =
    mods_tokens mods ++ open_round opening ∷ (listed_tokens cpar_tokens cpars ++ close_round closing ∷ [])

abbrev pub parent_args_tokens : ParentArgs → List Lexeme
parent_args_tokens NoParentArgs = []
parent_args_tokens (EmptyArgs opening closing) = open_round opening ∷ close_round closing ∷ []
parent_args_tokens (ArgsOf opening exprs closing) = open_round opening ∷ (expr_list_tokens exprs ++ close_round closing ∷ [])

abbrev pub mixins_tokens : List Mixin → List Lexeme
mixins_tokens [] = []
mixins_tokens (mixin ∷ mixins) = word_at (codes "with") mixin.word ∷ (type_tokens mixin.type ++ mixins_tokens mixins)

abbrev pub parents_tokens : Parents → List Lexeme
parents_tokens NoParents = []
parents_tokens (Extends word type args mixins) =
    word_at (codes "extends") word ∷ (type_tokens type ++ parent_args_tokens args ++ mixins_tokens mixins)

abbrev mutual
  pub tmpl_tokens : Tmpl → List Lexeme
  tmpl_tokens (ClassTmpl word id variables constructor body) =
      word_at (codes "class") word ∷ id_token id ∷ (tparams_tokens variables ++ constructor_tokens constructor ++ body_tokens body)
  tmpl_tokens (TraitTmpl word id variables body) = word_at (codes "trait") word ∷ id_token id ∷ (tparams_tokens variables ++ body_tokens body)
  tmpl_tokens (ObjectTmpl word id body) = word_at (codes "object") word ∷ id_token id ∷ body_tokens body

  pub body_tokens : Body → List Lexeme
  body_tokens (ParentsAlone ancestors) = parents_tokens ancestors
  body_tokens (ParentsWith ancestors opening stats closing) =
      parents_tokens ancestors ++ open_curly opening ∷ (stats_tokens stats ++ close_curly closing ∷ [])

  pub stats_tokens : Stats → List Lexeme
  stats_tokens (LastStat stat) = stat_tokens stat
  stats_tokens (MoreStats stat sep stats) = stat_tokens stat ++ sep_tokens sep ++ stats_tokens stats

  pub stat_tokens : Stat → List Lexeme
  stat_tokens (ImportStat i) = import_tokens i
  stat_tokens (TmplStat mods tmpl) = mods_tokens mods ++ tmpl_tokens tmpl
  stat_tokens (DefStat mods def) = mods_tokens mods ++ def_tokens def
  stat_tokens (DclStat mods dcl) = mods_tokens mods ++ dcl_tokens dcl
  stat_tokens (ExprStat expr) = expr_tokens expr
  stat_tokens EmptyStat = []
  stat_tokens (BrokenStat xs) = xs
