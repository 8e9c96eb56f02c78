-- Types (SLS 3.2), and paths (SLS 3.1). No newline can count within one, so none is asked for.
use Rattle.std.specs.Prelude.{◌≡◌, List, [], ◌∷◌, ◌++◌, codes}
use Rattle.pc_terms.specs.declared.problems.Span.{Span}
use Rattle.pc_terms.specs.declared.tree_kinds.TreeKind.TheVariants as kind
use Rattle.positioned_trees.specs.declared.trees.Tree.{Tree}
use Rattle.positioned_trees.specs.declared.trees.Tree.TheViews.{out-Tree}
use Rattle.source_grammar.specs.Lexemes.{Place, Lexeme, word_at, open_round, close_round, open_square, close_square, comma, dot, Arrow, arrow_token, Id, Step, QualId, qual_id_tokens}
use Rattle.source_grammar.specs.Spans.{from_to, span_of, labelled, unlabelled}

-- ---- paths

-- A path as terms: an Ident, and a Select for each further name.
abbrev pub ident_tree : Id → Tree
ident_tree id = labelled kind.Ident id.name id.place.span id.place.span []

abbrev pub select_tree : Tree → Id → Tree
select_tree from id = labelled kind.Select id.name id.place.span (from_to (out-Tree from).span id.place.span) (from ∷ [])

abbrev pub steps_tree : Tree → List Step → Tree
steps_tree from [] = from
steps_tree from (step ∷ steps) = steps_tree (select_tree from step.id) steps

abbrev pub path_tree : QualId → Tree
path_tree path = steps_tree (ident_tree path.first) path.steps

abbrev pub last_of : Id → List Step → Id
last_of id [] = id
last_of id (step ∷ steps) = last_of step.id steps

abbrev pub last_id : QualId → Id
last_id path = last_of path.first path.steps

-- the path before the last name, as the one kid of the tree that has this name as label; one name has none before it
abbrev pub before_last : Tree → List Step → List Tree
before_last from [] = []
before_last from (step ∷ []) = from ∷ []
before_last from (step ∷ next ∷ steps) = before_last (select_tree from step.id) (next ∷ steps)

abbrev pub prefix_kids : QualId → List Tree
prefix_kids path = before_last (ident_tree path.first) path.steps

abbrev pub path_span : QualId → Span
path_span path = from_to path.first.place.span (last_id path).place.span

-- ---- derivations

mutual
  -- Type : Simple '=>' Type | '(' [Type,..] ')' '=>' Type | Simple
  pub data WrittenType : Type 0 where
    -- Simple '=>' Type, where the Simple is none in parentheses
    FunOfNamed : NamedType → Arrow → WrittenType → WrittenType
    -- '(' ')' '=>' Type
    FunOfNone : (opening closing : Place) → Arrow → WrittenType → WrittenType
    -- '(' Type,.. ')' '=>' Type
    FunOfTypes : (opening : Place) → TypeList → (closing : Place) → Arrow → WrittenType → WrittenType
    -- Simple
    Simple : SimpleType → WrittenType

  -- Simple : QualId [TArgs] | QualId '.' 'type' | '(' Type,.. ')'
  pub data SimpleType : Type 0 where
    Named : NamedType → SimpleType
    -- '(' Type ')'
    InParentheses : (opening : Place) → WrittenType → (closing : Place) → SimpleType
    -- '(' Type ',' Type ')'
    Pair : (opening : Place) → WrittenType → Place → WrittenType → (closing : Place) → SimpleType
    -- '(' Type ',' Type ',' Type ')'
    Triple : (opening : Place) → WrittenType → Place → WrittenType → Place → WrittenType → (closing : Place) → SimpleType

  -- the forms of Simple without parentheses
  pub data NamedType : Type 0 where
    -- QualId
    OfPath : QualId → NamedType
    -- QualId TArgs, with TArgs : '[' Type,.. ']'
    Applied : QualId → (opening : Place) → TypeList → (closing : Place) → NamedType
    -- QualId '.' 'type'
    Singleton : QualId → (point word : Place) → NamedType

  -- Type,..
  pub data TypeList : Type 0 where
    LastType : WrittenType → TypeList
    MoreTypes : WrittenType → Place → TypeList → TypeList

-- ---- tokens

abbrev mutual
  pub type_tokens : WrittenType → List Lexeme
  type_tokens (FunOfNamed named arrow result) = named_tokens named ++ arrow_token arrow ∷ type_tokens result
  type_tokens (FunOfNone opening closing arrow result) = open_round opening ∷ close_round closing ∷ arrow_token arrow ∷ type_tokens result
  type_tokens (FunOfTypes opening types closing arrow result) =
      open_round opening ∷ (type_list_tokens types ++ close_round closing ∷ arrow_token arrow ∷ type_tokens result)
  type_tokens (Simple simple) = simple_tokens simple

  pub simple_tokens : SimpleType → List Lexeme
  simple_tokens (Named named) = named_tokens named
  simple_tokens (InParentheses opening type closing) = open_round opening ∷ (type_tokens type ++ close_round closing ∷ [])
  simple_tokens (Pair opening a comma_1 b closing) = open_round opening ∷ (type_tokens a ++ comma comma_1 ∷ (type_tokens b ++ close_round closing ∷ []))
  simple_tokens (Triple opening a comma_1 b comma_2 c closing) =
      open_round opening ∷ (type_tokens a ++ comma comma_1 ∷ (type_tokens b ++ comma comma_2 ∷ (type_tokens c ++ close_round closing ∷ [])))

  pub named_tokens : NamedType → List Lexeme
  named_tokens (OfPath path) = qual_id_tokens path
  named_tokens (Applied path opening types closing) = qual_id_tokens path ++ open_square opening ∷ (type_list_tokens types ++ close_square closing ∷ [])
  named_tokens (Singleton path point word) = qual_id_tokens path ++ dot point ∷ word_at (codes "type") word ∷ []

  pub type_list_tokens : TypeList → List Lexeme
  type_list_tokens (LastType type) = type_tokens type
  type_list_tokens (MoreTypes type place types) = type_tokens type ++ comma place ∷ type_list_tokens types

-- ---- trees

-- TypeIdent or TypeSelect
abbrev pub path_type : QualId → List Tree → Tree
path_type path [] = labelled kind.TypeIdent path.first.name path.first.place.span path.first.place.span []
path_type path (prefix ∷ _) = labelled kind.TypeSelect (last_id path).name (last_id path).place.span (path_span path) (prefix ∷ [])

abbrev pub path_type_tree : QualId → Tree
path_type_tree path = path_type path (prefix_kids path)

-- its label is that of the type that is applied
abbrev pub applied_tree : Tree → List Tree → Span → Tree
applied_tree type args closing =
    labelled kind.AppliedType (out-Tree type).label (out-Tree type).label_span (from_to (out-Tree type).span closing) (type ∷ args)

-- the types of the parameters, and that of the result
abbrev pub fun_type : List Lexeme → List Tree → Tree → Tree
fun_type tokens types result = unlabelled kind.FunType (span_of tokens) (types ++ result ∷ [])

abbrev mutual
  pub type_tree : WrittenType → Tree
  type_tree (FunOfNamed named arrow result) =
      fun_type (type_tokens (FunOfNamed named arrow result)) (named_tree named ∷ []) (type_tree result)
  type_tree (FunOfNone opening closing arrow result) = fun_type (type_tokens (FunOfNone opening closing arrow result)) [] (type_tree result)
  type_tree (FunOfTypes opening types closing arrow result) =
      fun_type (type_tokens (FunOfTypes opening types closing arrow result)) (type_list_trees types) (type_tree result)
  type_tree (Simple simple) = simple_tree simple

  pub simple_tree : SimpleType → Tree
  simple_tree (Named named) = named_tree named
  simple_tree (InParentheses opening type closing) = type_tree type
  simple_tree (Pair opening a comma_1 b closing) = unlabelled kind.TupleType (from_to opening.span closing.span) (type_tree a ∷ type_tree b ∷ [])
  simple_tree (Triple opening a comma_1 b comma_2 c closing) =
      unlabelled kind.TupleType (from_to opening.span closing.span) (type_tree a ∷ type_tree b ∷ type_tree c ∷ [])

  pub named_tree : NamedType → Tree
  named_tree (OfPath path) = path_type_tree path
  named_tree (Applied path opening types closing) = applied_tree (path_type_tree path) (type_list_trees types) closing.span
  named_tree (Singleton path point word) =
      labelled kind.Singleton (last_id path).name (last_id path).place.span (from_to path.first.place.span word.span) (path_tree path ∷ [])

  pub type_list_trees : TypeList → List Tree
  type_list_trees (LastType type) = type_tree type ∷ []
  type_list_trees (MoreTypes type place types) = type_tree type ∷ type_list_trees types

-- ---- the productions as relations

pub record IsType (xs : List Lexeme) (tree : Tree) : Type 0 where
  pub derivation : WrittenType
  pub tokens : xs ≡ type_tokens derivation
  pub built : tree ≡ type_tree derivation

pub record IsSimpleType (xs : List Lexeme) (tree : Tree) : Type 0 where
  pub derivation : SimpleType
  pub tokens : xs ≡ simple_tokens derivation
  pub built : tree ≡ simple_tree derivation
