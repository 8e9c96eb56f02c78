-- Whole sources (SLS 9), and what is wrong in them.
use Rattle.std.specs.Prelude.{◌≡◌, ℕ, ◌+◌, ◌*◌, ◌-◌, ◌^◌, Bool, true, false, not, ◌&&◌, ◌||◌, ◌==◌, nat_lt, nat_le, if◌then◌else◌, List, [], ◌∷◌, ◌++◌, length, map, Option, Some, None, codes}
use Rattle.std.specs.List.{flat_map}
use Rattle.std.specs.Str.{bytes_eq}
use Rattle.std.specs.Char.{is_ascii_digit}
use Rattle.pc_terms.specs.Number.{value_of}
use Rattle.pc_terms.specs.declared.problems.Code.{Code}
use Rattle.pc_terms.specs.declared.problems.Code.TheVariants.{S1, S2, S3, S4, S5, P1, P2, P3, P4, P5}
use Rattle.pc_terms.specs.declared.problems.Problem.{Problem}
use Rattle.pc_terms.specs.declared.problems.Span.{Span}
use Rattle.pc_terms.specs.declared.tree_kinds.TreeKind.{TreeKind}
use Rattle.pc_terms.specs.declared.tree_kinds.TreeKind.TheVariants as kind
use Rattle.positioned_trees.specs.declared.details.Detail.TheVariants as detail
use Rattle.positioned_trees.specs.declared.trees.SourceUnit.{SourceUnit}
use Rattle.positioned_trees.specs.declared.trees.Tree.{Tree}
use Rattle.positioned_trees.specs.declared.trees.Tree.TheViews.{out-Tree}
use Rattle.positioned_trees.specs.Located.{max_height}
use Rattle.positioned_trees.specs.Trees.{height, all_trees, numbered}
use Rattle.scan_tokens.specs.Scanned.{scanned}
use Rattle.scan_tokens.specs.Words.{Bytes}
use Rattle.source_grammar.specs.Brackets.{is_semicolon, separates, unmatched, most_open}
use Rattle.source_grammar.specs.DefinitionTrees.{names_of, import_tree}
use Rattle.source_grammar.specs.Expressions.{Sep}
use Rattle.source_grammar.specs.ExpressionTokens.{sep_tokens}
use Rattle.source_grammar.specs.ExpressionTrees.{broken_tree}
use Rattle.source_grammar.specs.Lexemes.{Place, Lexeme, lexemes, word_at, Step, QualId, qual_id_tokens}
use Rattle.source_grammar.specs.Spans.{span_of, labelled, unlabelled, with_detail}
use Rattle.source_grammar.specs.Statements.{Top, ImportTop, TmplTop, EmptyTop, BrokenTop, Tops, LastTop, MoreTops, tops_tokens, ProperTops, longest}
use Rattle.source_grammar.specs.TemplateTrees.{tmpl_tree}
use Rattle.source_grammar.specs.Types.{path_span}

-- ---- derivations

-- 'package' QualId sep
pub record PackageClause : Type 0 where
  pub word : Place
  pub path : QualId
  pub sep : Sep

-- Unit : {'package' QualId sep} Top {sep Top}
pub record UnitOf : Type 0 where
  pub packages : List PackageClause
  pub tops : Tops

abbrev pub clause_tokens : Place → QualId → List Lexeme
clause_tokens word path = word_at (codes "package") word ∷ qual_id_tokens path

abbrev pub packages_tokens : List PackageClause → List Lexeme
packages_tokens [] = []
packages_tokens (clause ∷ clauses) = clause_tokens clause.word clause.path ++ sep_tokens clause.sep ++ packages_tokens clauses

abbrev pub unit_tokens : UnitOf → List Lexeme
unit_tokens d = packages_tokens d.packages ++ tops_tokens d.tops

-- a separator stands first; the end of the text is none
abbrev pub begins_apart : List Lexeme → Bool
begins_apart [] = false
begins_apart (x ∷ xs) = separates x

abbrev pub begins_with_semicolon : List Lexeme → Bool
begins_with_semicolon [] = false
begins_with_semicolon (x ∷ xs) = is_semicolon x

-- the separator of a clause takes all semicolons that stand there
abbrev pub ProperPackages : List PackageClause → List Lexeme → Type 0
ProperPackages [] after = Unit {0}
ProperPackages (clause ∷ clauses) after =
    (begins_apart (sep_tokens clause.sep ++ packages_tokens clauses ++ after) ≡ true)
    × (begins_with_semicolon (packages_tokens clauses ++ after) ≡ false) × ProperPackages clauses after

-- no package clause with its separator begins these tokens
abbrev pub HasNoPackage : List Lexeme → Type 0
HasNoPackage xs = (word : Place) (path : QualId) (behind : List Lexeme) → xs ≡ clause_tokens word path ++ behind → begins_apart behind ≡ false

abbrev pub ProperUnit : UnitOf → Type 0
ProperUnit d = ProperPackages d.packages (tops_tokens d.tops) × HasNoPackage (tops_tokens d.tops) × ProperTops longest d.tops

-- ---- trees

abbrev pub joined_names : Bytes → List Step → Bytes
joined_names name [] = name
joined_names name (step ∷ steps) = joined_names (name ++ codes "." ++ step.id.name) steps

-- a Package spans its clause without the separator, and its label is the path
abbrev pub package_tree : PackageClause → Tree
package_tree clause = with_detail (detail.Package (names_of clause.path))
    (labelled kind.Package (joined_names clause.path.first.name clause.path.steps) (path_span clause.path)
    (span_of (clause_tokens clause.word clause.path)) [])

abbrev pub top_trees : Top → List Tree
top_trees (ImportTop i) = import_tree i ∷ []
top_trees (TmplTop mods tmpl) = tmpl_tree mods tmpl ∷ []
top_trees EmptyTop = []
top_trees (BrokenTop xs) = broken_tree xs ∷ []

abbrev pub tops_trees : Tops → List Tree
tops_trees (LastTop top) = top_trees top
tops_trees (MoreTops top sep tops) = top_trees top ++ tops_trees tops

-- the root of a source of this length
abbrev pub root_of : ℕ → List Tree → Tree
root_of size kids = (numbered (unlabelled kind.Unit (record { start = 0; end = size }) kids) 0).tree

abbrev pub unit_root : ℕ → UnitOf → Tree
unit_root size d = root_of size (map package_tree d.packages ++ tops_trees d.tops)

-- ---- literals that are too large (SLS 1.3.1)

abbrev pub without_minus : Bytes → Bytes
without_minus [] = []
without_minus (b ∷ bs) = if bytes_eq (b ∷ []) (codes "-") then bs else b ∷ bs

abbrev pub is_negative : Bytes → Bool
is_negative [] = false
is_negative (b ∷ bs) = bytes_eq (b ∷ []) (codes "-")

abbrev pub is_long_mark : ℕ → Bool
is_long_mark b = bytes_eq (b ∷ []) (codes "L") || bytes_eq (b ∷ []) (codes "l")

abbrev pub is_long : Bytes → Bool
is_long [] = false
is_long (b ∷ []) = is_long_mark b
is_long (b ∷ next ∷ bs) = is_long (next ∷ bs)

-- without the mark of a Long at its end
abbrev pub digits_of : Bytes → Bytes
digits_of [] = []
digits_of (b ∷ []) = if is_long_mark b then [] else b ∷ []
digits_of (b ∷ next ∷ bs) = b ∷ digits_of (next ∷ bs)

abbrev pub is_hexadecimal : Bytes → Bool
is_hexadecimal [] = false
is_hexadecimal (a ∷ []) = false
is_hexadecimal (a ∷ x ∷ bs) = bytes_eq (a ∷ x ∷ []) (codes "0x") || bytes_eq (a ∷ x ∷ []) (codes "0X")

-- the value of a letter or digit as a hexadecimal digit
abbrev pub hexadecimal_digit : ℕ → ℕ
hexadecimal_digit b = if is_ascii_digit b then b - 48 else (if nat_lt b 97 then b - 55 else b - 87)

abbrev pub hexadecimal_value : ℕ → Bytes → ℕ
hexadecimal_value value [] = value
hexadecimal_value value (b ∷ bs) = hexadecimal_value (16 * value + hexadecimal_digit b) bs

abbrev pub without_prefix : Bytes → Bytes
without_prefix (a ∷ x ∷ bs) = bs
without_prefix bs = bs

-- Hexadecimal literals fit 32 or 64 bits. Decimal ones are below 2 ^ 31 or 2 ^ 63, or this number itself with their minus.
abbrev pub is_in_range : Bytes → Bool
is_in_range text =
    if is_hexadecimal (without_minus text)
    then nat_lt (hexadecimal_value 0 (without_prefix (digits_of (without_minus text)))) (if is_long text then 2 ^ 64 else 2 ^ 32)
    else (if is_negative text then nat_le (value_of 0 (digits_of (without_minus text))) (if is_long text then 2 ^ 63 else 2 ^ 31)
    else nat_lt (value_of 0 (digits_of text)) (if is_long text then 2 ^ 63 else 2 ^ 31))

abbrev pub begins_with_digit : Bytes → Bool
begins_with_digit [] = false
begins_with_digit (b ∷ bs) = is_ascii_digit b

abbrev pub is_number_text : Bytes → Bool
is_number_text text = begins_with_digit (without_minus text)

-- ---- problems

abbrev pub problem_at : Code → Span → Bytes → Problem
problem_at code span text = record { code = code; span = span; text = text }

abbrev pub literal_problems : Bytes → Span → List Problem
literal_problems text span =
    if is_number_text text && not (is_in_range text) then problem_at P5 span (codes "literal out of range") ∷ [] else []

-- what is wrong at a tree by itself
abbrev pub problems_at : TreeKind → Bytes → Span → List Problem
problems_at kind.Broken label span = problem_at P1 span (codes "not a statement of the profile") ∷ []
problems_at kind.Hole label span = problem_at P2 span (codes "name expected") ∷ []
problems_at kind.Literal label span = literal_problems label span
problems_at kind.LitPat label span = literal_problems label span
problems_at _ label span = []

abbrev pub tree_problems : Tree → List Problem
tree_problems tree = problems_at (out-Tree tree).kind (out-Tree tree).label (out-Tree tree).span

-- those of the scanner and of the parser in the order of their codes
abbrev pub code_rank : Code → ℕ
code_rank S1 = 1
code_rank S2 = 2
code_rank S3 = 3
code_rank S4 = 4
code_rank S5 = 5
code_rank P1 = 6
code_rank P2 = 7
code_rank P3 = 8
code_rank P4 = 9
code_rank P5 = 10
code_rank _ = 11

-- by start, end and code
abbrev pub is_before : Problem → Problem → Bool
is_before a b =
    nat_lt a.span.start b.span.start || (a.span.start == b.span.start &&
    (nat_lt a.span.end b.span.end || (a.span.end == b.span.end && nat_lt (code_rank a.code) (code_rank b.code))))

abbrev pub insert : Problem → List Problem → List Problem
insert p [] = p ∷ []
insert p (q ∷ qs) = if is_before p q then p ∷ q ∷ qs else (if is_before q p then q ∷ insert p qs else p ∷ qs)

-- in order, and of those of one place and code the first
abbrev pub ordered : List Problem → List Problem
ordered [] = []
ordered (p ∷ ps) = insert p (ordered ps)

-- ---- the unit of a text

abbrev pub empty_with : Bytes → Problem → SourceUnit
empty_with text problem = record {
  root = root_of (length text) [];
  problems = ordered (problem ∷ (scanned text).problems);
  length = length text;
}

abbrev pub too_high : Problem
too_high = problem_at P4 (record { start = 0; end = 0 }) (codes "tree too high")

abbrev pub max_open : ℕ
max_open = 400

-- The unit of a text whose brackets match and are not too deep: the one that its tokens are read as, unless that is too high.
pub record IsUnitOf (text : Bytes) (unit : SourceUnit) : Type 0 where
  pub derivation : UnitOf
  pub proper : ProperUnit derivation
  pub tokens : lexemes (scanned text) ≡ unit_tokens derivation
  pub built : unit ≡ (if nat_lt max_height (height (unit_root (length text) derivation)) then empty_with text too_high
      else record {
        root = unit_root (length text) derivation;
        problems = ordered (flat_map tree_problems (all_trees (unit_root (length text) derivation)) ++ (scanned text).problems);
        length = length text;
      })

-- where too many brackets are open, and where not
abbrev pub IsUnitAt : Bool → Bytes → SourceUnit → Type 0
IsUnitAt true text unit = unit ≡ empty_with text too_high
IsUnitAt false text unit = IsUnitOf text unit

-- where a bracket does not match, and where each does
abbrev pub IsUnitBy : Option Span → Bytes → SourceUnit → Type 0
IsUnitBy (Some span) text unit = unit ≡ empty_with text (problem_at P3 span (codes "unbalanced bracket"))
IsUnitBy None text unit = IsUnitAt (nat_lt max_open (most_open [] (lexemes (scanned text)))) text unit

-- The unit of a text: empty where a bracket does not match, else where too many are open, else as its tokens are read.
unfoldable pub IsUnit : Bytes → SourceUnit → Type 0
IsUnit text unit = IsUnitBy (unmatched [] (lexemes (scanned text))) text unit
