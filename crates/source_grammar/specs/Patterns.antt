-- Patterns (SLS 8.1).
use Rattle.std.specs.Prelude.{◌≡◌, Bool, true, false, not, ◌&&◌, ◌||◌, List, [], ◌∷◌, ◌++◌, codes}
use Rattle.std.specs.Str.{bytes_eq}
use Rattle.unicode.specs.GeneralCategory.{general_category}
use Rattle.ucd_category.specs.declared.GeneralCategory.{GeneralCategory}
use Rattle.ucd_category.specs.declared.GeneralCategory.TheVariants.{LowercaseLetter}
use Rattle.pc_terms.specs.declared.problems.Span.{Span}
use Rattle.pc_terms.specs.declared.tree_kinds.TreeKind.TheVariants as kind
use Rattle.positioned_trees.specs.declared.trees.Tree.{Tree}
use Rattle.scan_tokens.specs.Words.{Bytes}
use Rattle.source_grammar.specs.Lexemes.{Place, Lexeme, open_round, close_round, comma, underscore, colon, at_sign, bar, minus, Id, id_token, Step, QualId, qual_id_tokens, Literal, literal_token, literal_text, literal_place, Number, number_token}
use Rattle.source_grammar.specs.Newlines.{IsJoined, IsJoinedPart, IsNearPart}
use Rattle.source_grammar.specs.Precedence.{first_character, is_of, are_of_one_side, Operand, Chain, Joining, after_left, joined}
use Rattle.source_grammar.specs.Spans.{from_to, span_of, labelled, unlabelled}
use Rattle.source_grammar.specs.Types.{last_id, prefix_kids, path_span, SimpleType, simple_tokens, simple_tree}

-- ---- derivations

mutual
  -- Pat : Pat1 {'|' Pat1}
  pub data Pat : Type 0 where
    LastAlternative : Pat1 → Pat
    MoreAlternatives : Pat1 → (stroke : Place) → Pat → Pat

  -- Pat1 : (var|'_') ':' Simple | var '@' Pat3 | Pat3
  pub data Pat1 : Type 0 where
    -- var ':' Simple
    TypedVar : Id → (point : Place) → SimpleType → Pat1
    -- '_' ':' Simple
    TypedWild : Place → (point : Place) → SimpleType → Pat1
    -- var '@' Pat3
    BoundPat : Id → (sign : Place) → Pat3 → Pat1
    -- Pat3
    InfixPat : Pat3 → Pat1

  -- Pat3 : SPat {id nl SPat}
  pub data Pat3 : Type 0 where
    LastOperand : SPat → Pat3
    MoreOperands : SPat → Id → Pat3 → Pat3

  -- SPat : '_' | var | literal | '-' number | QualId | QualId '(' [Pat,..] ')' | '(' [Pat,..] ')'
  pub data SPat : Type 0 where
    -- '_'
    WildPat : Place → SPat
    -- var
    VarPat : Id → SPat
    -- literal
    LiteralPat : Literal → SPat
    -- '-' number
    MinusPat : (sign : Place) → Number → SPat
    -- QualId
    PathPat : QualId → SPat
    -- QualId '(' ')'
    CallPatOfNone : QualId → (opening closing : Place) → SPat
    -- QualId '(' Pat,.. ')'
    CallPat : QualId → (opening : Place) → PatList → (closing : Place) → SPat
    -- '(' ')'
    UnitPat : (opening closing : Place) → SPat
    -- '(' Pat ')'
    PatInParentheses : (opening : Place) → Pat → (closing : Place) → SPat
    -- '(' Pat ',' Pat ')'
    PairPat : (opening : Place) → Pat → Place → Pat → (closing : Place) → SPat
    -- '(' Pat ',' Pat ',' Pat ')'
    TriplePat : (opening : Place) → Pat → Place → Pat → Place → Pat → (closing : Place) → SPat

  -- Pat,..
  pub data PatList : Type 0 where
    LastPat : Pat → PatList
    MorePats : Pat → Place → PatList → PatList

-- ---- tokens

abbrev mutual
  pub pat_tokens : Pat → List Lexeme
  pat_tokens (LastAlternative pat) = pat1_tokens pat
  pat_tokens (MoreAlternatives pat stroke pats) = pat1_tokens pat ++ bar stroke ∷ pat_tokens pats

  pub pat1_tokens : Pat1 → List Lexeme
  pat1_tokens (TypedVar id point type) = id_token id ∷ colon point ∷ simple_tokens type
  pat1_tokens (TypedWild place point type) = underscore place ∷ colon point ∷ simple_tokens type
  pat1_tokens (BoundPat id sign pat) = id_token id ∷ at_sign sign ∷ pat3_tokens pat
  pat1_tokens (InfixPat pat) = pat3_tokens pat

  pub pat3_tokens : Pat3 → List Lexeme
  pat3_tokens (LastOperand pat) = spat_tokens pat
  pat3_tokens (MoreOperands pat operator pats) = spat_tokens pat ++ id_token operator ∷ pat3_tokens pats

  pub spat_tokens : SPat → List Lexeme
  spat_tokens (WildPat place) = underscore place ∷ []
  spat_tokens (VarPat id) = id_token id ∷ []
  spat_tokens (LiteralPat literal) = literal_token literal ∷ []
  spat_tokens (MinusPat sign number) = minus sign ∷ number_token number ∷ []
  spat_tokens (PathPat path) = qual_id_tokens path
  spat_tokens (CallPatOfNone path opening closing) = qual_id_tokens path ++ open_round opening ∷ close_round closing ∷ []
  spat_tokens (CallPat path opening pats closing) = qual_id_tokens path ++ open_round opening ∷ (pat_list_tokens pats ++ close_round closing ∷ [])
  spat_tokens (UnitPat opening closing) = open_round opening ∷ close_round closing ∷ []
  spat_tokens (PatInParentheses opening pat closing) = open_round opening ∷ (pat_tokens pat ++ close_round closing ∷ [])
  spat_tokens (PairPat opening a comma_1 b closing) = open_round opening ∷ (pat_tokens a ++ comma comma_1 ∷ (pat_tokens b ++ close_round closing ∷ []))
  spat_tokens (TriplePat opening a comma_1 b comma_2 c closing) =
      open_round opening ∷ (pat_tokens a ++ comma comma_1 ∷ (pat_tokens b ++ comma comma_2 ∷ (pat_tokens c ++ close_round closing ∷ [])))

  pub pat_list_tokens : PatList → List Lexeme
  pat_list_tokens (LastPat pat) = pat_tokens pat
  pat_list_tokens (MorePats pat place pats) = pat_tokens pat ++ comma place ∷ pat_list_tokens pats

-- ---- what a derivation has to keep

abbrev pub is_lowercase_category : GeneralCategory → Bool
is_lowercase_category LowercaseLetter = true
is_lowercase_category _ = false

-- var : a plain identifier that begins with a lower case letter or _
unfoldable pub is_var : Id → Bool
is_var id =
    not id.quoted
    && (is_of (codes "_") (first_character id.name) || is_lowercase_category (general_category (first_character id.name)))

-- One name alone that may be a variable is no path.
abbrev pub is_var_path : Id → List Step → Bool
is_var_path id [] = is_var id
is_var_path id (step ∷ steps) = false

-- the token |, which is no operator of a pattern
abbrev pub is_bar : Id → Bool
is_bar id = not id.quoted && bytes_eq id.name (codes "|")

-- the operators of a pattern
abbrev pub pat3_operators : Pat3 → List Id
pat3_operators (LastOperand pat) = []
pat3_operators (MoreOperands pat operator pats) = operator ∷ pat3_operators pats

abbrev mutual
  pub ProperPat : Pat → Type 0
  ProperPat (LastAlternative pat) = ProperPat1 pat
  ProperPat (MoreAlternatives pat stroke pats) = ProperPat1 pat × IsJoined stroke × IsJoinedPart (pat_tokens pats) × ProperPat pats

  pub ProperPat1 : Pat1 → Type 0
  ProperPat1 (TypedVar id point type) = is_var id ≡ true
  ProperPat1 (TypedWild place point type) = Unit {0}
  ProperPat1 (BoundPat id sign pat) = (is_var id ≡ true) × IsJoined sign × (are_of_one_side (pat3_operators pat) ≡ true) × ProperPat3 pat
  ProperPat1 (InfixPat pat) = (are_of_one_side (pat3_operators pat) ≡ true) × ProperPat3 pat

  pub ProperPat3 : Pat3 → Type 0
  ProperPat3 (LastOperand pat) = ProperSPat pat
  ProperPat3 (MoreOperands pat operator pats) =
      ProperSPat pat × (is_bar operator ≡ false) × IsJoined operator.place × IsNearPart (pat3_tokens pats) × ProperPat3 pats

  pub ProperSPat : SPat → Type 0
  ProperSPat (VarPat id) = is_var id ≡ true
  ProperSPat (MinusPat sign number) = IsJoined number.place
  ProperSPat (PathPat path) = is_var_path path.first path.steps ≡ false
  ProperSPat (CallPatOfNone path opening closing) = IsJoined opening
  ProperSPat (CallPat path opening pats closing) = IsJoined opening × ProperPatList pats
  ProperSPat (PatInParentheses opening pat closing) = ProperPat pat
  ProperSPat (PairPat opening a comma_1 b closing) = ProperPat a × ProperPat b
  ProperSPat (TriplePat opening a comma_1 b comma_2 c closing) = ProperPat a × ProperPat b × ProperPat c
  ProperSPat _ = Unit {0}

  pub ProperPatList : PatList → Type 0
  ProperPatList (LastPat pat) = ProperPat pat
  ProperPatList (MorePats pat place pats) = ProperPat pat × ProperPatList pats

-- ---- trees

-- an infix pattern is a constructor pattern, and its operands stay in their order
abbrev pub join_patterns : Joining Tree
join_patterns operator a b = record {
  built = labelled kind.CtorPat operator.name operator.place.span (from_to a.span b.span) (a.built ∷ b.built ∷ []);
  span = from_to a.span b.span;
}

abbrev pub joined_pattern : Chain Tree → Tree
joined_pattern chain = (joined join_patterns chain).built

abbrev pub operand_of : List Lexeme → Tree → Operand Tree
operand_of tokens tree = record { built = tree; span = span_of tokens }

abbrev pub typed_pat : Bytes → Span → List Lexeme → Tree → Tree
typed_pat name name_span tokens type = labelled kind.TypedPat name name_span (span_of tokens) (type ∷ [])

abbrev pub call_pat : QualId → List Tree → Span → Tree
call_pat path pats closing =
    labelled kind.CtorPat (last_id path).name (last_id path).place.span (from_to path.first.place.span closing) (prefix_kids path ++ pats)

abbrev pub leaf_pat : Bytes → Span → Tree
leaf_pat text span = labelled kind.LitPat text span span []

abbrev mutual
  pub pat_tree : Pat → Tree
  pat_tree (LastAlternative pat) = pat1_tree pat
  pat_tree (MoreAlternatives pat stroke pats) =
      unlabelled kind.AltPat (span_of (pat_tokens (MoreAlternatives pat stroke pats))) (pat1_tree pat ∷ alternative_trees pats)

  pub alternative_trees : Pat → List Tree
  alternative_trees (LastAlternative pat) = pat1_tree pat ∷ []
  alternative_trees (MoreAlternatives pat stroke pats) = pat1_tree pat ∷ alternative_trees pats

  pub pat1_tree : Pat1 → Tree
  pat1_tree (TypedVar id point type) = typed_pat id.name id.place.span (pat1_tokens (TypedVar id point type)) (simple_tree type)
  pat1_tree (TypedWild place point type) = typed_pat (codes "_") place.span (pat1_tokens (TypedWild place point type)) (simple_tree type)
  pat1_tree (BoundPat id sign pat) =
      labelled kind.Bind id.name id.place.span (span_of (pat1_tokens (BoundPat id sign pat))) (joined_pattern (pat3_chain pat) ∷ [])
  pat1_tree (InfixPat pat) = joined_pattern (pat3_chain pat)

  pub pat3_chain : Pat3 → Chain Tree
  pat3_chain (LastOperand pat) = record { first = operand_of (spat_tokens pat) (spat_tree pat); operations = [] }
  pat3_chain (MoreOperands pat operator pats) = after_left (operand_of (spat_tokens pat) (spat_tree pat)) operator (pat3_chain pats)

  pub spat_tree : SPat → Tree
  spat_tree (WildPat place) = unlabelled kind.Wild place.span []
  spat_tree (VarPat id) = labelled kind.Bind id.name id.place.span id.place.span []
  spat_tree (LiteralPat literal) = leaf_pat (literal_text literal) (literal_place literal).span
  spat_tree (MinusPat sign number) = leaf_pat (codes "-" ++ number.text) (from_to sign.span number.place.span)
  spat_tree (PathPat path) = labelled kind.StablePat (last_id path).name (last_id path).place.span (path_span path) (prefix_kids path)
  spat_tree (CallPatOfNone path opening closing) = call_pat path [] closing.span
  spat_tree (CallPat path opening pats closing) = call_pat path (pat_list_trees pats) closing.span
  spat_tree (UnitPat opening closing) = leaf_pat (codes "()") (from_to opening.span closing.span)
  spat_tree (PatInParentheses opening pat closing) = pat_tree pat
  spat_tree (PairPat opening a comma_1 b closing) =
      unlabelled kind.TuplePat (from_to opening.span closing.span) (pat_tree a ∷ pat_tree b ∷ [])
  spat_tree (TriplePat opening a comma_1 b comma_2 c closing) =
      unlabelled kind.TuplePat (from_to opening.span closing.span) (pat_tree a ∷ pat_tree b ∷ pat_tree c ∷ [])

  pub pat_list_trees : PatList → List Tree
  pat_list_trees (LastPat pat) = pat_tree pat ∷ []
  pat_list_trees (MorePats pat place pats) = pat_tree pat ∷ pat_list_trees pats

-- ---- the production as a relation

pub record IsPattern (xs : List Lexeme) (tree : Tree) : Type 0 where
  pub derivation : Pat
  pub proper : ProperPat derivation
  pub tokens : xs ≡ pat_tokens derivation
  pub built : tree ≡ pat_tree derivation
