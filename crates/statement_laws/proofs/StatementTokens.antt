-- The tokens of the items of a statement are its own.
use Rattle.std.proofs.Common.{◌≡◌, List, [], ◌∷◌, ◌++◌, map, codes, refl, ap, ◌∙◌, append-nil}
use Rattle.std.proofs.lemmas.List.{map-append}
use Rattle.source_grammar.specs.Definitions.{Behind, behind_tokens, ImpExpr, ImportName, ImportWild, ImportSels, imp_expr_tokens, Import, import_tokens, sel_tokens, arguments_tokens, annotation_tokens, annotations_tokens, mods_tokens, mod_list_tokens, type_part_tokens}
use Rattle.source_grammar.specs.Expressions.{Def, ValueDef, MethodDef, ProcedureDef, AliasDef}
use Rattle.source_grammar.specs.ExpressionTokens.{value_word_token, block_tokens, expr_tokens, def_tokens, bstat_tokens}
use Rattle.source_grammar.specs.Lexemes.{Lexeme, word_at, open_round, close_round, open_curly, close_curly, comma, dot, underscore, at_sign, equals, id_token, qual_id_tokens}
use Rattle.source_grammar.specs.Types.{type_tokens}
use Rattle.expr_laws.specs.Definitions.{ReadArguments, NoneRead, Between, ReadAnnotation, ReadMods, arguments_of, annotation_of, annotations_of, mods_of, arguments_items, annotation_items, annotations_items, mods_items, method_tokens, def_items}
use Rattle.expr_laws.specs.Imports.{ImportItem, ImportToken, Selectors, import_tokens_of, clause_items, others_items}
use Rattle.expr_laws.specs.Items.{Item, OneToken, BlockPair, item_tokens, items_tokens, tokens, expr_items}
use Rattle.expr_laws.proofs.DefsCounts.{tokens-there}
use Rattle.expr_laws.proofs.ItemTokens.{expr-have, items-append}
use Rattle.statement_laws.specs.Statements.{ReadStatement, OfImport, OfDefinition, OfExpr, statement_of, outline, import_outline, import_outlines, AreItemsOf}

both : (is js : List Item) (xs ys : List Lexeme) → items_tokens is ≡ xs → items_tokens js ≡ ys → items_tokens (is ++ js) ≡ xs ++ ys
both is js xs ys e f = items-append is js ∙ ap (λ zs. zs ++ items_tokens js) e ∙ ap (λ zs. xs ++ zs) f

-- ---- modifiers

arguments-have : (a : ReadArguments) → items_tokens (arguments_items a) ≡ arguments_tokens (arguments_of a)
arguments-have NoneRead = refl
arguments-have (Between o is k) = ap (λ ys. open_round o ∷ ys) (items-append is (OneToken (close_round k) ∷ []))

annotation-have : (a : ReadAnnotation) → items_tokens (annotation_items a) ≡ annotation_tokens (annotation_of a)
annotation-have a =
    ap (λ ys. at_sign a.sign ∷ ys)
    (both (tokens (qual_id_tokens a.path)) (arguments_items a.arguments) (qual_id_tokens a.path) (arguments_tokens (arguments_of a.arguments)) (tokens-there (qual_id_tokens a.path)) (arguments-have a.arguments))

annotations-have : (as_ : List ReadAnnotation) → items_tokens (annotations_items as_) ≡ annotations_tokens (annotations_of as_)
annotations-have [] = refl
annotations-have (a ∷ rest) = both (annotation_items a) (annotations_items rest) (annotation_tokens (annotation_of a)) (annotations_tokens (annotations_of rest)) (annotation-have a) (annotations-have rest)

mods-have : (m : ReadMods) → items_tokens (mods_items m) ≡ mods_tokens (mods_of m)
mods-have m =
    both (annotations_items m.annotations) (tokens (mod_list_tokens m.mods)) (annotations_tokens (annotations_of m.annotations)) (mod_list_tokens m.mods) (annotations-have m.annotations) (tokens-there (mod_list_tokens m.mods))

-- ---- definitions

def-have : (d : Def) → items_tokens (def_items d) ≡ def_tokens d
def-have (ValueDef w id type sign right) =
    (let front : List Lexeme = value_word_token w ∷ id_token id ∷ type_part_tokens type in
    both (tokens front) (OneToken (equals sign) ∷ expr_items right) front (equals sign ∷ expr_tokens right) (tokens-there front) (ap (λ ys. equals sign ∷ ys) (expr-have right).same))
def-have (MethodDef word id ts ls type sign right) =
    (let front : List Lexeme = method_tokens word id ts ls ++ type_part_tokens type in
    both (tokens front) (OneToken (equals sign) ∷ expr_items right) front (equals sign ∷ expr_tokens right) (tokens-there front) (ap (λ ys. equals sign ∷ ys) (expr-have right).same))
def-have (ProcedureDef word id ts ls o block k) =
    (let front : List Lexeme = method_tokens word id ts ls in
    let braces : List Lexeme = open_curly o ∷ (block_tokens block ++ close_curly k ∷ []) in
    both (tokens front) (BlockPair o block k ∷ []) front braces (tokens-there front) (append-nil braces))
def-have (AliasDef word id sign type) = tokens-there (word_at (codes "type") word ∷ id_token id ∷ equals sign ∷ type_tokens type)

-- ---- imports

abbrev tokens_in : List ImportItem → List Lexeme
tokens_in js = items_tokens (map import_outline js)

in-both : (is js : List ImportItem) (xs ys : List Lexeme) → tokens_in is ≡ xs → tokens_in js ≡ ys → tokens_in (is ++ js) ≡ xs ++ ys
in-both is js xs ys e f = ap items_tokens (map-append import_outline is js) ∙ both (map import_outline is) (map import_outline js) xs ys e f

path-have : (xs : List Lexeme) → tokens_in (import_tokens_of xs) ≡ xs
path-have [] = refl
path-have (x ∷ xs) = ap (λ ys. x ∷ ys) (path-have xs)

clause-have : (c : ImpExpr) → tokens_in (clause_items c) ≡ imp_expr_tokens c
clause-have (ImportName path point id) =
    in-both (import_tokens_of (qual_id_tokens path)) (ImportToken (dot point) ∷ ImportToken (id_token id) ∷ []) (qual_id_tokens path) (dot point ∷ id_token id ∷ []) (path-have (qual_id_tokens path)) refl
clause-have (ImportWild path point wild) =
    in-both (import_tokens_of (qual_id_tokens path)) (ImportToken (dot point) ∷ ImportToken (underscore wild) ∷ []) (qual_id_tokens path) (dot point ∷ underscore wild ∷ []) (path-have (qual_id_tokens path)) refl
clause-have (ImportSels path point o sel sels k) =
    in-both (import_tokens_of (qual_id_tokens path)) (ImportToken (dot point) ∷ Selectors o sel sels k ∷ []) (qual_id_tokens path)
    (dot point ∷ open_curly o ∷ (sel_tokens sel ++ behind_tokens sel_tokens sels ++ close_curly k ∷ [])) (path-have (qual_id_tokens path))
    (ap (λ ys. dot point ∷ open_curly o ∷ ys) (append-nil (sel_tokens sel ++ behind_tokens sel_tokens sels ++ close_curly k ∷ [])))

others-have : (bs : List (Behind ImpExpr)) → tokens_in (others_items bs) ≡ behind_tokens imp_expr_tokens bs
others-have [] = refl
others-have (b ∷ bs) =
    ap (λ ys. comma b.comma ∷ ys) (in-both (clause_items b.item) (others_items bs) (imp_expr_tokens b.item) (behind_tokens imp_expr_tokens bs) (clause-have b.item) (others-have bs))

import-have : (i : Import) → items_tokens (import_outlines i) ≡ import_tokens i
import-have i =
    ap (λ ys. word_at (codes "import") i.word ∷ ys)
    (in-both (clause_items i.first) (others_items i.others) (imp_expr_tokens i.first) (behind_tokens imp_expr_tokens i.others) (clause-have i.first) (others-have i.others))

outline-tokens : (i : Item) → item_tokens i ≡ item_tokens (outline i)
outline-tokens (OneToken x) = refl
outline-tokens _ = refl

outlines-tokens : (is : List Item) → items_tokens is ≡ items_tokens (map outline is)
outlines-tokens [] = refl
outlines-tokens (i ∷ is) = ap (λ xs. xs ++ items_tokens is) (outline-tokens i) ∙ ap (λ xs. item_tokens (outline i) ++ xs) (outlines-tokens is)

-- ---- statements

pub statement-tokens : (d : ReadStatement) (items : List Item) → AreItemsOf d items → items_tokens items ≡ bstat_tokens (statement_of d)
statement-tokens (OfImport i) items same = outlines-tokens items ∙ ap items_tokens same ∙ import-have i
statement-tokens (OfDefinition m d) items same = ap items_tokens same ∙ both (mods_items m) (def_items d) (mods_tokens (mods_of m)) (def_tokens d) (mods-have m) (def-have d)
statement-tokens (OfExpr e) items same = ap items_tokens same ∙ (expr-have e).same
