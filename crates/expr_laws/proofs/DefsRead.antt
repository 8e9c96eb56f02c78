-- Where the machine of definitions has read one, what was read is the items of its modifiers and of this definition.
use Rattle.std.proofs.Common.{◌≡◌, List, [], ◌∷◌, ◌++◌, Option, Some, None, codes, refl, ap, sym, ◌∙◌, append_assoc, append-nil}
use Rattle.reading_machines.specs.Machines.{run}
use Rattle.source_grammar.specs.Definitions.{Mod, ParList, TypePart, mod_tokens, mod_list_tokens, par_list_tokens, par_lists_tokens, tparams_tokens, type_part_tokens}
use Rattle.source_grammar.specs.Expressions.{AliasDef, Def, Expr, MethodDef, ProcedureDef, ValueDef, ValueWord}
use Rattle.source_grammar.specs.ExpressionTokens.{value_word_token}
use Rattle.source_grammar.specs.Lexemes.{Id, Lexeme, Place, equals, id_token, word_at}
use Rattle.source_grammar.specs.Types.{WrittenType}
use Rattle.parse_parts.proofs.Derived as types
use Rattle.parse_parts.proofs.Sound.{tokens_in as type_tokens_in}
use Rattle.expr_laws.proofs.DefsDerived.{AtProcedure, Found, InAlias, InMethod, InValue, ReadAnnotation, Signature, Tail, State, alias_def, def_at, method_def, ordered, read_mods, value_def, whole_expr, whole_in}
use Rattle.expr_laws.proofs.DefsLasting.{run-kept, read-defs}
use Rattle.expr_laws.proofs.DefsStep.{RightStands}
use Rattle.expr_laws.proofs.DefsSteps.{annotation_items, annotations_done, annotations_items, begun, def_items, found_items, lists_done, mods_done, mods_items, signature_tokens, tail_items, step}
use Rattle.expr_laws.proofs.Derived as exprs
use Rattle.expr_laws.proofs.Derived.{Item, OneToken, BlockPair, type_of}
use Rattle.expr_laws.proofs.Items.{expr_items, tokens}
use Rattle.expr_laws.proofs.LastingFrames.{Stands}
use Rattle.expr_laws.proofs.Moving.{tokens-append}
use Rattle.expr_laws.proofs.PartsRead.{expr-read}
use Rattle.expr_laws.proofs.Read.{items_in as expr_items_in}
use Rattle.expr_laws.proofs.TypesRead.{typed-tokens}

-- ---- what was collected, in its order

annotations-read : (done rest : List ReadAnnotation) → annotations_items (ordered done rest) ≡ annotations_done done ++ annotations_items rest
annotations-read [] rest = refl
annotations-read (a ∷ done) rest = annotations-read done (a ∷ rest) ∙ sym (append_assoc (annotations_done done) (annotation_items a) (annotations_items rest))

mods-read : (done rest : List Mod) → tokens (mod_list_tokens (ordered done rest)) ≡ mods_done done ++ tokens (mod_list_tokens rest)
mods-read [] rest = refl
mods-read (m ∷ done) rest =
    mods-read done (m ∷ rest) ∙ ap (λ is. mods_done done ++ is) (tokens-append (mod_tokens m) (mod_list_tokens rest))
    ∙ sym (append_assoc (mods_done done) (tokens (mod_tokens m)) (tokens (mod_list_tokens rest)))

lists-read : (done rest : List ParList) → par_lists_tokens (ordered done rest) ≡ lists_done done ++ par_lists_tokens rest
lists-read [] rest = refl
lists-read (l ∷ done) rest =
    lists-read done (l ∷ rest) ∙ ap (λ xs. lists_done done ++ xs) (sym (one l rest)) ∙ sym (append_assoc (lists_done done) (par_lists_tokens (l ∷ [])) (par_lists_tokens rest))
  where
    one : (k : ParList) (ks : List ParList) → par_lists_tokens (k ∷ []) ++ par_lists_tokens ks ≡ par_lists_tokens (k ∷ ks)
    one k ks = ap (λ xs. xs ++ par_lists_tokens ks) (append-nil (par_list_tokens k))

pub found-read : (found : Found) → mods_items (read_mods found) ≡ found_items found
found-read found =
    ap (λ is. is ++ tokens (mod_list_tokens (ordered found.mods []))) (annotations-read found.annotations [] ∙ append-nil (annotations_done found.annotations))
    ∙ ap (λ is. annotations_done found.annotations ++ is) (mods-read found.mods [] ∙ append-nil (mods_done found.mods))

-- ---- the definition that ends

whole-read : (s : exprs.State) (e : Expr) → Stands s → whole_expr s ≡ Some e → expr_items e ≡ expr_items_in s
whole-read s e k h = go s.frames refl h where
  go : (fs : List exprs.Frame) → s.frames ≡ fs → whole_in fs s.context ≡ Some e → expr_items e ≡ expr_items_in s
  go [] f g = expr-read s.context e k.context g ∙ ap (λ gs. expr_items_in (exprs.state gs s.context)) (sym f)
  go (x ∷ fs) f g = cc

-- the tokens of a head, in two forms
head-read : (front part : List Lexeme) (sign : Place) (is : List Item) → tokens (front ++ part) ++ OneToken (equals sign) ∷ is ≡ tokens (front ++ (part ++ equals sign ∷ [])) ++ is
head-read front part sign is =
    sym (append_assoc (tokens (front ++ part)) (OneToken (equals sign) ∷ []) is)
    ∙ ap (λ js. js ++ is) (sym (tokens-append (front ++ part) (equals sign ∷ [])) ∙ ap tokens (append_assoc front part (equals sign ∷ [])))

pub lists-in-order : (m : Signature) → par_lists_tokens (ordered m.lists []) ≡ lists_done m.lists
lists-in-order m = lists-read m.lists [] ∙ append-nil (lists_done m.lists)

value-read : (w : ValueWord) (id : Id) (type : TypePart) (sign : Place) (r : exprs.State) (d : Def) → Stands r → (o : Option Expr) → whole_expr r ≡ o → value_def w id type sign o ≡ Some d → def_items d ≡ tail_items (InValue w id type sign r)
value-read w id type sign r d k None f h = cc
value-read w id type sign r d k (Some e) f h =
    (let same : ValueDef w id type sign e ≡ d = cc in
    ap def_items (sym same) ∙ head-read (value_word_token w ∷ id_token id ∷ []) (type_part_tokens type) sign (expr_items e)
    ∙ ap (λ js. tokens (value_word_token w ∷ id_token id ∷ (type_part_tokens type ++ equals sign ∷ [])) ++ js) (whole-read r e k f))

method-read : (m : Signature) (type : TypePart) (sign : Place) (r : exprs.State) (d : Def) → Stands r → (o : Option Expr) → whole_expr r ≡ o → method_def m type sign o ≡ Some d → def_items d ≡ tail_items (InMethod m type sign r)
method-read m type sign r d k None f h = cc
method-read m type sign r d k (Some e) f h =
    (let same : MethodDef m.word m.id m.tparams (ordered m.lists []) type sign e ≡ d = cc in
    ap def_items (sym same)
    ∙ ap (λ xs. tokens ((word_at (codes "def") m.word ∷ id_token m.id ∷ (tparams_tokens m.tparams ++ xs)) ++ type_part_tokens type) ++ OneToken (equals sign) ∷ expr_items e) (lists-in-order m)
    ∙ head-read (signature_tokens m) (type_part_tokens type) sign (expr_items e)
    ∙ ap (λ js. tokens (signature_tokens m ++ (type_part_tokens type ++ equals sign ∷ [])) ++ js) (whole-read r e k f))

alias-read : (p : Place) (id : Id) (sign : Place) (t : types.State) (d : Def) (o : Option WrittenType) → type_of t ≡ o → alias_def p id sign o ≡ Some d → def_items d ≡ tail_items (InAlias p id sign t)
alias-read p id sign t d None f h = cc
alias-read p id sign t d (Some type) f h =
    (let same : AliasDef p id sign type ≡ d = cc in
    ap def_items (sym same) ∙ ap (λ xs. tokens (word_at (codes "type") p ∷ id_token id ∷ equals sign ∷ xs)) (typed-tokens t type f)
    ∙ sym (append-nil (tokens (word_at (codes "type") p ∷ id_token id ∷ equals sign ∷ type_tokens_in t))))

def-items-read : (s : Tail) (d : Def) → RightStands s → def_at s ≡ Some d → def_items d ≡ tail_items s
def-items-read (InValue w id type sign r) d k h = value-read w id type sign r d k (whole_expr r) refl h
def-items-read (InMethod m type sign r) d k h = method-read m type sign r d k (whole_expr r) refl h
def-items-read (InAlias p id sign t) d k h = alias-read p id sign t d (type_of t) refl h
def-items-read (AtProcedure m o block q) d k h =
    (let same : ProcedureDef m.word m.id m.tparams (ordered m.lists []) o block q ≡ d = cc in
    ap def_items (sym same) ∙ ap (λ xs. tokens (word_at (codes "def") m.word ∷ id_token m.id ∷ (tparams_tokens m.tparams ++ xs)) ++ BlockPair o block q ∷ []) (lists-in-order m))
def-items-read _ d k h = cc

-- the items that were given are those of the modifiers and the definition that were read
pub read-definition : (is : List Item) (t : State) (d : Def) → run step is begun ≡ Some t → def_at t.tail ≡ Some d → is ≡ mods_items (read_mods t.found) ++ def_items d
read-definition is t d r h =
    (let kept = run-kept is begun t (λ n. refl) tt r in
    sym (read-defs is t r) ∙ ap (λ js. js ++ tail_items t.tail) (sym (found-read t.found))
    ∙ ap (λ js. mods_items (read_mods t.found) ++ js) (sym (def-items-read t.tail d kept.1 h)))
