-- The items of a definition with its modifiers lead the machine of definitions to where it was read.
use Rattle.std.proofs.Common.{◌≡◌, true, List, [], ◌++◌, Some, None, codes, refl, ap, sym, ◌∙◌, append-nil}
use Rattle.reading_machines.specs.Machines.{run}
use Rattle.source_grammar.specs.Definitions.{TypePart, NoType, OfType, ParList, TParams, NoTParams, tparams_tokens, par_lists_tokens, type_part_tokens, ProperMods}
use Rattle.source_grammar.specs.Expressions.{ValueWord, Val, Var, Expr, Block, Def, ValueDef, MethodDef, ProcedureDef, AliasDef}
use Rattle.source_grammar.specs.ExpressionRules.{ProperParLists}
use Rattle.source_grammar.specs.ExpressionTokens.{value_word_token, def_tokens}
use Rattle.source_grammar.specs.Lexemes.{Place, word_at, colon, equals, Id, id_token}
use Rattle.source_grammar.specs.Newlines.{IsJoined, IsNear, is_near, newline_before}
use Rattle.source_grammar.specs.Types.{WrittenType, type_tokens}
use Rattle.parse_parts.proofs.Derived as types
use Rattle.parse_patterns.specs.Steps.{is_no}
use Rattle.expr_tails.specs.declared.symbols.Word.TheVariants as word
use Rattle.expr_laws.proofs.AnnotationsAlong.{AllAllowed, found_of, mods-along, ordered-twice}
use Rattle.expr_laws.proofs.DefsDerived.{Plain, mark, ReadMods, mods_of, ordered, Tail, AtValue, AtValueName, InValueType, InValue, AtDef, AtMethod, InResult, InMethod, AtType, AtTypeName, InAlias, AtProcedure, Signature, Found, State, at, value_def, method_def, alias_def, def_at, read_mods, bridges}
use Rattle.expr_laws.proofs.DefsSteps.{right_side, at_value, at_value_name, typed_value, in_value_type, in_value, at_type, at_type_name, in_alias, signature, at_def, at_method, typed_method, in_result, in_method, begun, step, mods_items, method_tokens, def_items}
use Rattle.expr_laws.proofs.Derived as exprs
use Rattle.expr_laws.proofs.Derived.{Item, OneToken, BlockPair, CasesPair, EnumsPair, OtherPair, type_of, type_begun}
use Rattle.expr_laws.proofs.GroupsAlong.{ExprEnds}
use Rattle.expr_laws.proofs.Items.{tokens, expr_items}
use Rattle.expr_laws.proofs.Leading.{LeadsBy, by-none, by-then, by-on, by-one, by-as, by-lift, tokens-lift}
use Rattle.expr_laws.proofs.ModsAlong.{mark-id, Continues, word-on}
use Rattle.expr_laws.proofs.Moving.{tokens-append}
use Rattle.expr_laws.proofs.ParamsAlong.{lists-along}
use Rattle.expr_laws.proofs.Seen.{AnEquals, seen-colon, seen-equals}
use Rattle.expr_laws.proofs.TParamsAlong.{read_type, type-run, tparams-along}
use Rattle.expr_laws.proofs.TokenSteps.{if-true, type-there}

-- ---- right sides

-- the whole of a right side, in the machine of expressions
right-run : (e : Expr) (r : ExprEnds e) → run exprs.step (expr_items e) right_side ≡ Some (exprs.state [] r.end)
right-run e r = ap (λ is. run exprs.step is right_side) (sym (append-nil (expr_items e))) ∙ (r.leads []).runs []

pub value-step : (found : Found) (w : ValueWord) (id : Id) (type : TypePart) (sign : Place) (s : exprs.State) (i : Item)
    → step (at found (InValue w id type sign s)) i ≡ in_value found w id type sign (exprs.step s i)
value-step found w id type sign s (OneToken x) = refl
value-step found w id type sign s (BlockPair o block k) = refl
value-step found w id type sign s (CasesPair o cases k) = refl
value-step found w id type sign s (EnumsPair o enums k) = refl
value-step found w id type sign s (OtherPair o xs k) = refl

value-right : (found : Found) (w : ValueWord) (id : Id) (type : TypePart) (sign : Place) (e : Expr) (r : ExprEnds e)
    → LeadsBy step (expr_items e) (at found (InValue w id type sign right_side)) (at found (InValue w id type sign (exprs.state [] r.end)))
value-right found w id type sign e r =
    by-lift exprs.step step (λ s. at found (InValue w id type sign s)) (λ s t i g. value-step found w id type sign s i ∙ ap (in_value found w id type sign) g)
    (expr_items e) right_side (exprs.state [] r.end) (right-run e r)

pub method-step : (found : Found) (m : Signature) (type : TypePart) (sign : Place) (s : exprs.State) (i : Item)
    → step (at found (InMethod m type sign s)) i ≡ in_method found m type sign (exprs.step s i)
method-step found m type sign s (OneToken x) = refl
method-step found m type sign s (BlockPair o block k) = refl
method-step found m type sign s (CasesPair o cases k) = refl
method-step found m type sign s (EnumsPair o enums k) = refl
method-step found m type sign s (OtherPair o xs k) = refl

method-right : (found : Found) (m : Signature) (type : TypePart) (sign : Place) (e : Expr) (r : ExprEnds e)
    → LeadsBy step (expr_items e) (at found (InMethod m type sign right_side)) (at found (InMethod m type sign (exprs.state [] r.end)))
method-right found m type sign e r =
    by-lift exprs.step step (λ s. at found (InMethod m type sign s)) (λ s t i g. method-step found m type sign s i ∙ ap (in_method found m type sign) g)
    (expr_items e) right_side (exprs.state [] r.end) (right-run e r)

-- ---- values

-- where `=` is expected
abbrev pub value_tail : ValueWord → Id → TypePart → Tail
value_tail w id NoType = AtValueName w id
value_tail w id (OfType point type) = InValueType w id point (read_type type)

pub value-type : (type : TypePart) (found : Found) (w : ValueWord) (id : Id)
    → LeadsBy step (tokens (type_part_tokens type)) (at found (AtValueName w id)) (at found (value_tail w id type))
value-type NoType found w id = by-none step _
value-type (OfType point type) found w id =
    by-on step (OneToken (colon point)) _ _ (at found (InValueType w id point type_begun)) _ (ap (λ y. at_value_name found w id (Plain y)) (seen-colon point))
    (tokens-lift types.step step (λ t. at found (InValueType w id point t)) (λ r q x e. ap (λ k. in_value_type found w id point r k (mark x)) e)
    (type_tokens type) type_begun (read_type type) (type-run type))

value-equals : (type : TypePart) (found : Found) (w : ValueWord) (id : Id) (p : Place)
    → step (at found (value_tail w id type)) (OneToken (equals p)) ≡ Some (at found (InValue w id type p right_side))
value-equals NoType found w id p = ap (λ y. at_value_name found w id (Plain y)) (seen-equals p)
value-equals (OfType point type) found w id p =
    ap (λ y. typed_value found w id point (type_of (read_type type)) (Plain y)) (seen-equals p)
    ∙ ap (λ o. typed_value found w id point o (Plain (AnEquals p))) (type-there type)

pub value-word : (w : ValueWord) (found : Found) (s : State) → Continues s found → bridges found.mods found.annotations (value_word_token w).place.before ≡ true
    → step s (OneToken (value_word_token w)) ≡ Some (at found (AtValue w))
value-word (Val p) found s on b = word-on word.Val p found s on b
value-word (Var p) found s on b = word-on word.Var p found s on b

value-along : (w : ValueWord) (id : Id) (type : TypePart) (sign : Place) (e : Expr) (r : ExprEnds e) (found : Found) (s : State) → Continues s found
    → bridges found.mods found.annotations (value_word_token w).place.before ≡ true
    → LeadsBy step (def_items (ValueDef w id type sign e)) s (at found (InValue w id type sign (exprs.state [] r.end)))
value-along w id type sign e r found s on b =
    by-on step (OneToken (value_word_token w)) _ s (at found (AtValue w)) _ (value-word w found s on b)
    (by-on step (OneToken (id_token id)) _ _ (at found (AtValueName w id)) _ (ap (at_value found w) (mark-id id))
    (by-then step (tokens (type_part_tokens type)) _ _ (at found (value_tail w id type)) _ (value-type type found w id)
    (by-on step (OneToken (equals sign)) _ _ (at found (InValue w id type sign right_side)) _ (value-equals type found w id sign)
    (value-right found w id type sign e r))))

-- ---- methods

abbrev pub method_tail : Signature → TypePart → Tail
method_tail m NoType = AtMethod m
method_tail m (OfType point type) = InResult m point (read_type type)

pub method-type : (type : TypePart) (found : Found) (m : Signature) → LeadsBy step (tokens (type_part_tokens type)) (at found (AtMethod m)) (at found (method_tail m type))
method-type NoType found m = by-none step _
method-type (OfType point type) found m =
    by-on step (OneToken (colon point)) _ _ (at found (InResult m point type_begun)) _ (ap (λ y. at_method found m (Plain y)) (seen-colon point))
    (tokens-lift types.step step (λ t. at found (InResult m point t)) (λ r q x e. ap (λ k. in_result found m point r k (mark x)) e)
    (type_tokens type) type_begun (read_type type) (type-run type))

method-equals : (type : TypePart) (found : Found) (m : Signature) (p : Place)
    → step (at found (method_tail m type)) (OneToken (equals p)) ≡ Some (at found (InMethod m type p right_side))
method-equals NoType found m p = ap (λ y. at_method found m (Plain y)) (seen-equals p)
method-equals (OfType point type) found m p =
    ap (λ y. typed_method found m point (type_of (read_type type)) (Plain y)) (seen-equals p)
    ∙ ap (λ o. typed_method found m point o (Plain (AnEquals p))) (type-there type)

abbrev pub read_signature : Place → Id → TParams → List ParList → Signature
read_signature word id tparams lists = signature word id tparams (ordered lists [])

pub head-along : (p : Place) (id : Id) (tparams : TParams) (lists : List ParList) → ProperParLists lists → (found : Found) (s : State) → Continues s found
    → bridges found.mods found.annotations p.before ≡ true
    → LeadsBy step (tokens (method_tokens p id tparams lists)) s (at found (AtMethod (read_signature p id tparams lists)))
head-along p id tparams lists proper found s on b =
    by-on step (OneToken (word_at (codes "def") p)) _ s (at found (AtDef p)) _ (word-on word.Def p found s on b)
    (by-on step (OneToken (id_token id)) _ _ (at found (AtMethod (signature p id NoTParams []))) _ (ap (at_def found p) (mark-id id))
    (by-as step (tokens (tparams_tokens tparams) ++ tokens (par_lists_tokens lists)) _ _ _ (sym (tokens-append (tparams_tokens tparams) (par_lists_tokens lists)))
    (by-then step (tokens (tparams_tokens tparams)) _ _ (at found (AtMethod (signature p id tparams []))) _ (tparams-along tparams found p id)
    (lists-along lists proper found (signature p id tparams [])))))

method-along : (p : Place) (id : Id) (tparams : TParams) (lists : List ParList) (type : TypePart) (sign : Place) (e : Expr) (r : ExprEnds e) → ProperParLists lists
    → (found : Found) (s : State) → Continues s found → bridges found.mods found.annotations p.before ≡ true
    → LeadsBy step (def_items (MethodDef p id tparams lists type sign e)) s (at found (InMethod (read_signature p id tparams lists) type sign (exprs.state [] r.end)))
method-along p id tparams lists type sign e r proper found s on b =
    let m = read_signature p id tparams lists in
    let head = method_tokens p id tparams lists in
    by-then step (tokens (head ++ type_part_tokens type)) _ s (at found (method_tail m type)) _
    (by-as step (tokens head ++ tokens (type_part_tokens type)) _ _ _ (sym (tokens-append head (type_part_tokens type)))
    (by-then step (tokens head) _ s (at found (AtMethod m)) _ (head-along p id tparams lists proper found s on b) (method-type type found m)))
    (by-on step (OneToken (equals sign)) _ _ (at found (InMethod m type sign right_side)) _ (method-equals type found m sign)
    (method-right found m type sign e r))

procedure-along : (p : Place) (id : Id) (tparams : TParams) (lists : List ParList) (o : Place) (block : Block) (k : Place) → ProperParLists lists → IsNear o
    → (found : Found) (s : State) → Continues s found → bridges found.mods found.annotations p.before ≡ true
    → LeadsBy step (def_items (ProcedureDef p id tparams lists o block k)) s (at found (AtProcedure (read_signature p id tparams lists) o block k))
procedure-along p id tparams lists o block k proper near found s on b =
    let m = read_signature p id tparams lists in
    by-then step (tokens (method_tokens p id tparams lists)) _ s (at found (AtMethod m)) _ (head-along p id tparams lists proper found s on b)
    (by-one step (BlockPair o block k) _ _ (if-true (is_near o.before) (Some (at found (AtProcedure m o block k))) None near))

-- ---- aliases

alias-along : (p : Place) (id : Id) (sign : Place) (type : WrittenType) → IsJoined id.place → (found : Found) (s : State) → Continues s found
    → bridges found.mods found.annotations p.before ≡ true → LeadsBy step (def_items (AliasDef p id sign type)) s (at found (InAlias p id sign (read_type type)))
alias-along p id sign type joined found s on b =
    by-on step (OneToken (word_at (codes "type") p)) _ s (at found (AtType p)) _ (word-on word.Type p found s on b)
    (by-on step (OneToken (id_token id)) _ _ (at found (AtTypeName p id)) _
    (ap (at_type found p) (mark-id id) ∙ if-true (is_no id.place.before) (Some (at found (AtTypeName p id))) None (ap is_no joined))
    (by-on step (OneToken (equals sign)) _ _ (at found (InAlias p id sign type_begun)) _ (ap (λ y. at_type_name found p id (Plain y)) (seen-equals sign))
    (tokens-lift types.step step (λ t. at found (InAlias p id sign t)) (λ r q x e. ap (in_alias found p id sign) e)
    (type_tokens type) type_begun (read_type type) (type-run type))))

-- ---- any definition

-- its right side is read as an expression, and its head is as the grammar asks
abbrev pub DefEnds : Def → Type 0
DefEnds (ValueDef w id type sign e) = ExprEnds e
DefEnds (MethodDef p id _ lists type sign e) = ProperParLists lists × ExprEnds e
DefEnds (ProcedureDef p id _ lists o block k) = ProperParLists lists × IsNear o
DefEnds (AliasDef p id sign type) = IsJoined id.place

-- where a definition was read
pub record DefRead (m : ReadMods) (d : Def) : Type 0 where
  pub end : State
  pub leads : LeadsBy step (mods_items m ++ def_items d) begun end
  pub ends : def_at end.tail ≡ Some d
  pub mods : read_mods end.found ≡ m

pub read-found : (m : ReadMods) → read_mods (found_of m) ≡ m
read-found m =
    ap (λ a. record { annotations = a; mods = ordered (ordered m.mods []) [] }) (ordered-twice m.annotations)
    ∙ ap (λ ms. record { annotations = m.annotations; mods = ms }) (ordered-twice m.mods)

def-front : (d : Def) (found : Found) (s : State) → DefEnds d → Continues s found → bridges found.mods found.annotations (newline_before (def_tokens d)) ≡ true
    → (tail : Tail) × LeadsBy step (def_items d) s (at found tail) × (def_at tail ≡ Some d)
def-front (ValueDef w id type sign e) found s r on b =
    (InValue w id type sign (exprs.state [] r.end), value-along w id type sign e r found s on b, ap (value_def w id type sign) r.ends)
def-front (MethodDef p id tparams lists type sign e) found s r on b = (
  InMethod (read_signature p id tparams lists) type sign (exprs.state [] r.1.end),
  method-along p id tparams lists type sign e r.1 r.0 found s on b,
  ap (method_def (read_signature p id tparams lists) type sign) r.1.ends ∙ ap (λ ls. Some (MethodDef p id tparams ls type sign e)) (ordered-twice lists),
)
def-front (ProcedureDef p id tparams lists o block k) found s r on b = (
  AtProcedure (read_signature p id tparams lists) o block k,
  procedure-along p id tparams lists o block k r.0 r.1 found s on b,
  ap (λ ls. Some (ProcedureDef p id tparams ls o block k)) (ordered-twice lists),
)
def-front (AliasDef p id sign type) found s r on b =
    (InAlias p id sign (read_type type), alias-along p id sign type r found s on b, ap (alias_def p id sign) (type-there type))

pub def-along : (m : ReadMods) (d : Def) → ProperMods (mods_of m) (def_tokens d) → AllAllowed m.annotations → DefEnds d → DefRead m d
def-along m d p w r =
    let before = mods-along m (def_tokens d) p w in
    let there = def-front d (found_of m) before.read.end r before.read.on before.bridged in
    record {
      end = at (found_of m) there.0;
      leads = by-then step (mods_items m) _ begun before.read.end _ before.read.leads there.1;
      ends = there.2;
      mods = read-found m;
    }
