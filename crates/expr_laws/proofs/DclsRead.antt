-- The machine of definitions reads declarations too: each is read from its items, and what was read is proper and has these items.
use Rattle.std.proofs.Common.{◌≡◌, true, List, [], ◌∷◌, ◌++◌, Option, Some, None, codes, refl, ap, sym, ◌∙◌, append-nil, subst}
use Rattle.reading_machines.specs.Machines.{run}
use Rattle.source_grammar.specs.Definitions.{NoType, OfType, TypePart, TParams, ParList, ProperMods, type_part_tokens, tparams_tokens}
use Rattle.source_grammar.specs.Expressions.{ValueWord}
use Rattle.source_grammar.specs.ExpressionRules.{Rule}
use Rattle.source_grammar.specs.ExpressionTokens.{value_word_token}
use Rattle.source_grammar.specs.Lexemes.{Place, Lexeme, word_at, colon, Id, id_token}
use Rattle.source_grammar.specs.Newlines.{newline_before}
use Rattle.source_grammar.specs.TemplateRules.{ProperDcl}
use Rattle.source_grammar.specs.Templates.{Dcl, ValueDcl, MethodDcl, dcl_tokens}
use Rattle.source_grammar.specs.Types.{WrittenType, type_tokens}
use Rattle.parse_parts.proofs.Derived as types
use Rattle.parse_parts.proofs.Sound.{tokens_in as type_tokens_in}
use Rattle.expr_laws.proofs.AnnotationsAlong.{AllAllowed, found_of, mods-along, ordered-twice}
use Rattle.expr_laws.proofs.DefsAlong.{value-type, value-word, method_tail, method-type, head-along, read_signature, read-found}
use Rattle.expr_laws.proofs.DefsDerived.{ReadMods, mods_of, read_mods, ordered, bridges, Signature, Tail, AtValue, AtValueName, InValueType, AtMethod, InResult, Found, State, at}
use Rattle.expr_laws.proofs.DefsGood.{GoodDefs, GoodTail, Bridged, GoodMethod, lists-proper}
use Rattle.expr_laws.proofs.DefsLasting.{read-defs}
use Rattle.expr_laws.proofs.DefsRead.{found-read, lists-in-order}
use Rattle.expr_laws.proofs.DefsSteps.{at_value, begun, method_tokens, mods_items, step, signature_tokens, tail_items}
use Rattle.expr_laws.proofs.Derived.{Item, OneToken, type_of}
use Rattle.expr_laws.proofs.Items.{tokens}
use Rattle.expr_laws.proofs.Leading.{LeadsBy, by-then, by-on, by-as}
use Rattle.expr_laws.proofs.ModsAlong.{Continues, mark-id}
use Rattle.expr_laws.proofs.ModsGood.{found-proper}
use Rattle.expr_laws.proofs.Moving.{tokens-append}
use Rattle.expr_laws.proofs.TParamsAlong.{read_type}
use Rattle.expr_laws.proofs.TokenSteps.{type-there}
use Rattle.expr_laws.proofs.TypesRead.{typed-tokens}

abbrev pub value_dcl : ValueWord → Id → Place → Option WrittenType → Option Dcl
value_dcl w id point None = None
value_dcl w id point (Some type) = Some (ValueDcl w id point type)

abbrev pub method_dcl : Signature → Place → Option WrittenType → Option Dcl
method_dcl m point None = None
method_dcl m point (Some type) = Some (MethodDcl m.word m.id m.tparams (ordered m.lists []) (OfType point type))

-- the declaration that ends here
abbrev pub dcl_at : Tail → Option Dcl
dcl_at (InValueType w id point t) = value_dcl w id point (type_of t)
dcl_at (AtMethod m) = Some (MethodDcl m.word m.id m.tparams (ordered m.lists []) NoType)
dcl_at (InResult m point t) = method_dcl m point (type_of t)
dcl_at _ = None

-- ---- each is read

-- where a declaration was read
pub record DclRead (m : ReadMods) (d : Dcl) : Type 0 where
  pub end : State
  pub leads : LeadsBy step (mods_items m ++ tokens (dcl_tokens d)) begun end
  pub ends : dcl_at end.tail ≡ Some d
  pub mods : read_mods end.found ≡ m

method-ends : (p : Place) (id : Id) (ts : TParams) (lists : List ParList) (type : TypePart) → dcl_at (method_tail (read_signature p id ts lists) type) ≡ Some (MethodDcl p id ts lists type)
method-ends p id ts lists NoType = ap (λ ls. Some (MethodDcl p id ts ls NoType)) (ordered-twice lists)
method-ends p id ts lists (OfType q type) =
    ap (method_dcl (read_signature p id ts lists) q) (type-there type) ∙ ap (λ ls. Some (MethodDcl p id ts ls (OfType q type))) (ordered-twice lists)

dcl-front : (d : Dcl) (found : Found) (s : State) → ProperDcl d → Continues s found → bridges found.mods found.annotations (newline_before (dcl_tokens d)) ≡ true
    → (tail : Tail) × LeadsBy step (tokens (dcl_tokens d)) s (at found tail) × (dcl_at tail ≡ Some d)
dcl-front (ValueDcl w id p type) found s r on b = (
  InValueType w id p (read_type type),
  by-on step (OneToken (value_word_token w)) _ s (at found (AtValue w)) _ (value-word w found s on b)
      (by-on step (OneToken (id_token id)) _ _ (at found (AtValueName w id)) _ (ap (at_value found w) (mark-id id)) (value-type (OfType p type) found w id)),
  ap (value_dcl w id p) (type-there type),
)
dcl-front (MethodDcl p id ts lists type) found s r on b =
    let m = read_signature p id ts lists in
    let head = method_tokens p id ts lists in (
      method_tail m type,
      by-as step (tokens head ++ tokens (type_part_tokens type)) _ _ _ (sym (tokens-append head (type_part_tokens type)))
          (by-then step (tokens head) _ s (at found (AtMethod m)) _ (head-along p id ts lists r found s on b) (method-type type found m)),
      method-ends p id ts lists type,
    )

pub dcl-read : (m : ReadMods) (d : Dcl) → ProperMods (mods_of m) (dcl_tokens d) → AllAllowed m.annotations → ProperDcl d → DclRead m d
dcl-read m d p w r =
    let before = mods-along m (dcl_tokens d) p w in
    let there = dcl-front d (found_of m) before.read.end r before.read.on before.bridged in
    record {
      end = at (found_of m) there.0;
      leads = by-then step (mods_items m) _ begun before.read.end _ before.read.leads there.1;
      ends = there.2;
      mods = read-found m;
    }

-- the items of a declaration have one derivation
pub record SameDcl (m n : ReadMods) (d e : Dcl) : Type 0 where
  pub mods : m ≡ n
  pub dcl : d ≡ e

same-some : {A : Type 0} (a b : A) → Some a ≡ Some b → a ≡ b
same-some a b e = cc

dcl-whole : (m : ReadMods) (d : Dcl) (q : DclRead m d) → run step (mods_items m ++ tokens (dcl_tokens d)) begun ≡ Some q.end
dcl-whole m d q = ap (λ is. run step is begun) (sym (append-nil (mods_items m ++ tokens (dcl_tokens d)))) ∙ q.leads.runs []

pub one-declaration : (m n : ReadMods) (d e : Dcl) → DclRead m d → DclRead n e → mods_items m ++ tokens (dcl_tokens d) ≡ mods_items n ++ tokens (dcl_tokens e) → SameDcl m n d e
one-declaration m n d e r s same =
    (let there : r.end ≡ s.end = same-some r.end s.end (sym (dcl-whole m d r) ∙ ap (λ is. run step is begun) same ∙ dcl-whole n e s) in
    record {
      mods = sym r.mods ∙ ap (λ t. read_mods t.found) there ∙ s.mods;
      dcl = same-some d e (sym r.ends ∙ ap (λ t. dcl_at t.tail) there ∙ s.ends);
    })

-- ---- what was read

value-items : (w : ValueWord) (id : Id) (p : Place) (t : types.State) (d : Dcl) (o : Option WrittenType) → type_of t ≡ o → value_dcl w id p o ≡ Some d → tokens (dcl_tokens d) ≡ tail_items (InValueType w id p t)
value-items w id p t d None f h = cc
value-items w id p t d (Some type) f h =
    (let same : ValueDcl w id p type ≡ d = cc in
    ap (λ c. tokens (dcl_tokens c)) (sym same) ∙ ap (λ xs. tokens (value_word_token w ∷ id_token id ∷ colon p ∷ xs)) (typed-tokens t type f)
    ∙ sym (append-nil (tokens (value_word_token w ∷ id_token id ∷ colon p ∷ type_tokens_in t))))

-- the tokens of the head of a method, and of its result
abbrev method_with : Signature → List Lexeme → List Lexeme → List Lexeme
method_with m lists result = word_at (codes "def") m.word ∷ id_token m.id ∷ (tparams_tokens m.tparams ++ lists ++ result)

result-items : (m : Signature) (p : Place) (t : types.State) (d : Dcl) (o : Option WrittenType) → type_of t ≡ o → method_dcl m p o ≡ Some d → tokens (dcl_tokens d) ≡ tail_items (InResult m p t)
result-items m p t d None f h = cc
result-items m p t d (Some type) f h =
    (let same : MethodDcl m.word m.id m.tparams (ordered m.lists []) (OfType p type) ≡ d = cc in
    ap (λ c. tokens (dcl_tokens c)) (sym same) ∙ ap (λ ls. tokens (method_with m ls (colon p ∷ type_tokens type))) (lists-in-order m)
    ∙ ap (λ xs. tokens (signature_tokens m ++ colon p ∷ xs)) (typed-tokens t type f) ∙ sym (append-nil (tokens (signature_tokens m ++ colon p ∷ type_tokens_in t))))

dcl-items : (t : Tail) (d : Dcl) → dcl_at t ≡ Some d → tokens (dcl_tokens d) ≡ tail_items t
dcl-items (InValueType w id p t) d h = value-items w id p t d (type_of t) refl h
dcl-items (InResult m p t) d h = result-items m p t d (type_of t) refl h
dcl-items (AtMethod m) d h =
    (let same : MethodDcl m.word m.id m.tparams (ordered m.lists []) NoType ≡ d = cc in
    ap (λ c. tokens (dcl_tokens c)) (sym same) ∙ ap (λ ls. tokens (method_with m ls [])) (lists-in-order m)
    ∙ ap tokens (append-nil (signature_tokens m)) ∙ sym (append-nil (tokens (signature_tokens m))))
dcl-items _ d h = cc

pub read-declaration : (is : List Item) (t : State) (d : Dcl) → run step is begun ≡ Some t → dcl_at t.tail ≡ Some d → is ≡ mods_items (read_mods t.found) ++ tokens (dcl_tokens d)
read-declaration is t d r h =
    sym (read-defs is t r) ∙ ap (λ js. js ++ tail_items t.tail) (sym (found-read t.found)) ∙ ap (λ js. mods_items (read_mods t.found) ++ js) (sym (dcl-items t.tail d h))

pub record ProperDeclaration (m : ReadMods) (d : Dcl) : Type 0 where
  pub mods : ProperMods (mods_of m) (dcl_tokens d)
  pub dcl : ProperDcl d

module _ (rule : Rule) where
  pub ended-dcl : (s : State) (d : Dcl) → GoodDefs rule (Some s) → dcl_at s.tail ≡ Some d → ProperDeclaration (read_mods s.found) d
  ended-dcl s d g h = go s.tail g.1 h where
    as_read : (e : Dcl) → bridges s.found.mods s.found.annotations (newline_before (dcl_tokens e)) ≡ true → ProperDcl e → ProperDeclaration (read_mods s.found) e
    as_read e b p = record { mods = found-proper s.found (dcl_tokens e) g.0.0 b; dcl = p }

    value : (w : ValueWord) (id : Id) (p : Place) → Bridged s.found (value_word_token w).place → (o : Option WrittenType) → value_dcl w id p o ≡ Some d → ProperDeclaration (read_mods s.found) d
    value w id p b None e = cc
    value w id p b (Some type) e = (let same : ValueDcl w id p type ≡ d = cc in subst (ProperDeclaration (read_mods s.found)) same (as_read (ValueDcl w id p type) b tt))

    result : (m : Signature) (p : Place) → GoodMethod s.found m → (o : Option WrittenType) → method_dcl m p o ≡ Some d → ProperDeclaration (read_mods s.found) d
    result m p k None e = cc
    result m p k (Some type) e = (let same : MethodDcl m.word m.id m.tparams (ordered m.lists []) (OfType p type) ≡ d = cc in
        subst (ProperDeclaration (read_mods s.found)) same (as_read (MethodDcl m.word m.id m.tparams (ordered m.lists []) (OfType p type)) k.0 (lists-proper m.lists [] k.1 tt)))

    go : (t : Tail) → GoodTail rule s.found t → dcl_at t ≡ Some d → ProperDeclaration (read_mods s.found) d
    go (InValueType w id p t) k e = value w id p k (type_of t) e
    go (InResult m p t) k e = result m p k (type_of t) e
    go (AtMethod m) k e = (let same : MethodDcl m.word m.id m.tparams (ordered m.lists []) NoType ≡ d = cc in
        subst (ProperDeclaration (read_mods s.found)) same (as_read (MethodDcl m.word m.id m.tparams (ordered m.lists []) NoType) k.0 (lists-proper m.lists [] k.1 tt)))
    go _ k e = cc
