-- What each state of the machine of definitions keeps, so that what ends is a definition of a block as the grammar asks, with its modifiers.
use Rattle.std.proofs.Common.{◌≡◌, Bool, true, false, if◌then◌else◌, List, [], ◌∷◌, ◌++◌, Option, Some, None, refl, ap, sym, ◌∙◌, append_assoc, append-nil, subst}
use Rattle.std.specs.Prelude.{not}
use Rattle.reading_machines.specs.Machines.{run, onward}
use Rattle.reading_machines.proofs.Runs.{run-append, run-one}
use Rattle.pc_terms.specs.declared.problems.Span.{Span}
use Rattle.scan_tokens.specs.declared.roles.Bracket.{Bracket}
use Rattle.scan_tokens.specs.declared.roles.Bracket.TheVariants.{Round, Square, Curly}
use Rattle.scan_tokens.specs.declared.roles.Role.{Role}
use Rattle.scan_tokens.specs.declared.roles.Role.TheVariants.{Opens, Closes}
use Rattle.scan_tokens.specs.declared.tokens.Newline.{Newline}
use Rattle.source_grammar.specs.Brackets.{Opened, role, matches, opened_after, closes_wrongly, unmatched, is_balanced}
use Rattle.source_grammar.specs.Definitions.{VarianceSign, Mod, mod_tokens, Abstract, Final, Sealed, Lazy, Override, CaseMod, NoQualifier, TypePart, Par, TPar, Behind, behind_items, items, ParList, OnlyLastRepeats, ProperArguments, ProperMods}
use Rattle.source_grammar.specs.Expressions.{WithinExpr, ValueWord, Expr, Def, ValueDef, MethodDef, ProcedureDef, AliasDef}
use Rattle.source_grammar.specs.ExpressionRules.{Rule, ProperExpr, ProperBlock, ProperDef, ProperParLists}
use Rattle.source_grammar.specs.ExpressionTokens.{value_word_token, def_tokens}
use Rattle.source_grammar.specs.Lexemes.{Place, Lexeme, Id, QualId}
use Rattle.source_grammar.specs.Newlines.{IsJoined, IsNear, is_near, newline_before}
use Rattle.source_grammar.specs.Types.{WrittenType}
use Rattle.parse_parts.proofs.Derived as types
use Rattle.parse_patterns.specs.Steps.{is_no}
use Rattle.expr_tails.specs.declared.states.Limit.TheVariants as limit
use Rattle.expr_tails.specs.declared.symbols.Word.{Word}
use Rattle.expr_tails.specs.declared.symbols.Word.TheVariants as word
use Rattle.expr_laws.specs.Exactly.{ProperItem}
use Rattle.expr_laws.proofs.AnnotationsAlong.{is_brace, AllowedItem, Allowed, AllowedArguments, AllAllowed}
use Rattle.expr_laws.proofs.BalancedTokens.{none-balanced, passed, braces-passed}
use Rattle.expr_laws.proofs.DefsDerived.{Access, PrivateWord, ProtectedWord, access_mod, ALowerBound, AnAt, AnUpperBound, arguments_of, arguments_closed, at_access, at_access_name, at_access_open, at_annotation, at_mods, at_path, AtAccess, AtAccessName, AtAccessOpen, AtAnnotation, AtAnnotationDot, AtAt, AtDef, AtMethod, AtMods, AtProcedure, AtType, AtTypeName, AtValue, AtValueName, behind_path_dot, Between, bridges, def_at, value_def, method_def, alias_def, DonePar, DoneTPar, Found, in_arguments, InAlias, InArguments, InMethod, InParams, InQualifier, InResult, InTParams, InValue, InValueType, mark, Mark, mark_token, mods_of, NoneRead, on_mod, on_word, ordered, par_at, typed_par, pars_before, PAtName, PAtStar, PBegin, PInType, Plain, PTail, qualifier_of, ReadAnnotation, ReadArguments, ReadMods, read_mods, Signature, State, Tail, TBegin, there, TAtName, TAtSign, TInLower, TInUpper, tpar_at, TTail, whole_expr, whole_in, with_annotation, with_mod}
use Rattle.expr_laws.proofs.DefsLasting.{none-before}
use Rattle.expr_laws.proofs.DefsSound.{mark-shown}
use Rattle.expr_laws.proofs.DefsSteps.{at_def, at_method, at_type, at_type_name, at_value, at_value_name, begun, behind_par, behind_tpar, bound_type, in_alias, in_method, in_result, in_tparams, in_value, in_value_type, is_fresh, is_star, list_closed, lower_behind, next_par, paired, par_named, par_parted, par_step, par_type, par_typed, pars_closed, procedure, right_side, lower_type, named_tpar, signed_tpar, starred, step, stepped, tpar_named, tpar_parted, tpar_step, tpars_closed, typed_method, typed_value, upper_behind, upper_bounded, upper_type, variance_of, within}
use Rattle.expr_laws.proofs.Derived as exprs
use Rattle.expr_laws.proofs.Derived.{Item, OneToken, BlockPair, CasesPair, EnumsPair, OtherPair, is_nil, items_tokens, item_tokens, type_of, ended_expr}
use Rattle.expr_laws.proofs.Good.{is-no, ProperItems}
use Rattle.expr_laws.proofs.GoodSteps.{read-proper}
use Rattle.expr_laws.proofs.ItemTokens.{items-append}
use Rattle.expr_laws.proofs.ModsGood.{annotation-more, no-modifiers, modifier-more, GoodModifiers, GoodFound, begun-good, found-proper}
use Rattle.expr_laws.proofs.Seen.{AnId, AColon, AnEquals, AComma, ADot, OpensRound, ClosesRound, OpensSquare, ClosesSquare, AWord}

-- ---- what is kept of modifiers and parameters

abbrev pub FoundGood : Found → Type 0
FoundGood found = GoodFound found × AllAllowed found.annotations

-- a definition may begin with this word
abbrev pub Bridged : Found → Place → Type 0
Bridged found p = bridges found.mods found.annotations p.before ≡ true

-- no modifier stands before the annotation that begins here
abbrev pub Annotated : Found → Place → Type 0
Annotated found sign = (found.mods ≡ []) × (bridges [] found.annotations sign.before ≡ true)

abbrev pub is_curly : Bracket → Bool
is_curly Curly = true
is_curly _ = false

-- a token closes each of these
abbrev pub NoneCurly : List Opened → Type 0
NoneCurly [] = Unit {0}
NoneCurly (k ∷ ks) = (is_curly k.bracket ≡ false) × NoneCurly ks

-- the items between the parentheses of an annotation, and the brackets that are open in them
abbrev pub GoodArguments : List Item → List Opened → Type 0
GoodArguments is ks = Allowed is × ((rest : List Lexeme) → unmatched [] (items_tokens is ++ rest) ≡ unmatched ks rest) × NoneCurly ks

abbrev pub GoodLists : List ParList → Type 0
GoodLists [] = Unit {0}
GoodLists (l ∷ ls) = (IsNear l.opening × OnlyLastRepeats (items l.pars)) × GoodLists ls

-- none before the last comma has a `*`
abbrev pub GoodPars : List DonePar → Type 0
GoodPars [] = Unit {0}
GoodPars (d ∷ done) = (d.par.star ≡ None) × GoodPars done

abbrev pub GoodMethod : Found → Signature → Type 0
GoodMethod found m = Bridged found m.word × GoodLists m.lists

-- a name that is read as the variance of what follows is a sign of it
abbrev pub GoodTTail : TTail → Type 0
GoodTTail (TAtSign id) = exprs.is_some (variance_of id) ≡ true
GoodTTail _ = Unit {0}

abbrev GoodNext : Option TTail → Type 0
GoodNext None = Unit {0}
GoodNext (Some now) = GoodTTail now

lower-next : (p : Place) (now : TTail) → GoodNext (lower_behind p now)
lower-next p (TAtSign id) = tt
lower-next p (TAtName v id) = tt
lower-next p TBegin = tt
lower-next p (TInLower v id sign t) = tt
lower-next p (TInUpper v id lower sign t) = tt

upper-next : (p : Place) (now : TTail) → GoodNext (upper_behind p now)
upper-next p (TInLower v id sign t) = go (type_of t) where
  go : (o : Option WrittenType) → GoodNext (upper_bounded p v id sign o)
  go None = tt
  go (Some type) = tt
upper-next p (TAtSign id) = tt
upper-next p (TAtName v id) = tt
upper-next p TBegin = tt
upper-next p (TInUpper v id lower sign t) = tt

named-next : (name : Id) (now : TTail) → GoodNext (tpar_named name now)
named-next name TBegin = go (variance_of name) refl where
  go : (v : Option VarianceSign) → variance_of name ≡ v → GoodTTail (named_tpar name v)
  go None e = tt
  go (Some v) e = ap exprs.is_some e
named-next name (TAtSign sign) = go (variance_of sign) where
  go : (v : Option VarianceSign) → GoodNext (signed_tpar v name)
  go None = tt
  go (Some v) = tt
named-next name (TAtName v id) = tt
named-next name (TInLower v id sign t) = tt
named-next name (TInUpper v id lower sign t) = tt

bound-next : (now : TTail) (x : Lexeme) → GoodNext (bound_type now x)
bound-next (TInLower v id sign t) x = go (types.step t x) where
  go : (o : Option types.State) → GoodNext (lower_type v id sign o)
  go None = tt
  go (Some u) = tt
bound-next (TInUpper v id lower sign t) x = go (types.step t x) where
  go : (o : Option types.State) → GoodNext (upper_type v id lower sign o)
  go None = tt
  go (Some u) = tt
bound-next TBegin x = tt
bound-next (TAtSign id) x = tt
bound-next (TAtName v id) x = tt

pub lists-proper : (ls rest : List ParList) → GoodLists ls → ProperParLists rest → ProperParLists (ordered ls rest)
lists-proper [] rest g p = p
lists-proper (l ∷ ls) rest g p = lists-proper ls (l ∷ rest) g.1 (g.0.0, g.0.1, p)

last-repeats : (done : List DonePar) (par : Par) (bs : List (Behind Par)) → GoodPars done → OnlyLastRepeats (par ∷ behind_items bs) → OnlyLastRepeats (items (pars_before done par bs))
last-repeats [] par bs g o = o
last-repeats (d ∷ done) par bs g o = last-repeats done d.par (record { comma = d.place; item = par } ∷ bs) g.1 (g.0, o)

all-allowed : (done rest : List ReadAnnotation) → AllAllowed done → AllAllowed rest → AllAllowed (ordered done rest)
all-allowed [] rest g p = p
all-allowed (a ∷ done) rest g p = all-allowed done (a ∷ rest) g.1 (g.0, p)

-- ---- arguments of annotations

allowed-more : (is : List Item) (i : Item) → Allowed is → AllowedItem i → Allowed (is ++ i ∷ [])
allowed-more [] i a b = (b, tt)
allowed-more (j ∷ is) i a b = (a.0, allowed-more is i a.1 b)

curly-after : (r : Role) (s : Span) (ks : List Opened) → is_brace r ≡ false → NoneCurly ks → NoneCurly (opened_after r s ks)
curly-after (Opens Curly) s ks e n = cc
curly-after (Opens b) s ks e n = (refl, n)
curly-after (Closes b) s [] e n = n
curly-after (Closes b) s (k ∷ ks) e n = n.1
curly-after _ s ks e n = n

item-more : (is : List Item) (i : Item) (ks ls : List Opened) → GoodArguments is ks → NoneCurly ls → AllowedItem i → ((rest : List Lexeme) → unmatched ks (item_tokens i ++ rest) ≡ unmatched ls rest) → GoodArguments (is ++ i ∷ []) ls
item-more is i ks ls g n a e = (
  allowed-more is i g.0 a,
  λ rest. ap (λ xs. unmatched [] (xs ++ rest)) (items-append is (i ∷ [])) ∙ ap (unmatched []) (append_assoc (items_tokens is) (items_tokens (i ∷ [])) rest)
      ∙ ap (λ xs. unmatched [] (items_tokens is ++ (xs ++ rest))) (append-nil (item_tokens i)) ∙ g.1 (item_tokens i ++ rest) ∙ e rest,
  n,
)

token-more : (is : List Item) (x : Lexeme) (r : Role) (ks : List Opened) → role x ≡ r → is_brace r ≡ false → closes_wrongly r ks ≡ false → GoodArguments is ks
    → GoodArguments (is ++ OneToken x ∷ []) (opened_after r x.place.span ks)
token-more is x r ks e b w g =
    item-more is (OneToken x) ks (opened_after r x.place.span ks) g (curly-after r x.place.span ks b g.2) (ap is_brace e ∙ b)
    (λ rest. passed x ks rest (ap (λ s. closes_wrongly s ks) e ∙ w) ∙ ap (λ s. unmatched (opened_after s x.place.span ks) rest) e)

pair-more : (is : List Item) (i : Item) (o k : Place) (xs : List Lexeme) (ks : List Opened) → item_tokens i ≡ exprs.braced o xs k → AllowedItem i → is_balanced xs ≡ true → GoodArguments is ks
    → GoodArguments (is ++ i ∷ []) ks
pair-more is i o k xs ks e a b g = item-more is i ks ks g g.2 a (λ rest. ap (λ ys. unmatched ks (ys ++ rest)) e ∙ braces-passed o k xs rest ks b)

begun-arguments : GoodArguments [] []
begun-arguments = (tt, λ rest. refl, tt)

not-not : (b : Bool) → b ≡ true → not b ≡ false
not-not b e = ap not e

module _ (rule : Rule) where
  -- the machine of expressions has come here from the beginning of a right side
  pub record Ran (r : exprs.State) : Type 0 where
    pub items : List Item
    pub proper : ProperItems rule items
    pub runs : run exprs.step items right_side ≡ Some r

  pub ran-begun : Ran right_side
  ran-begun = record { items = []; proper = tt; runs = refl }

  proper-more : (is : List Item) (i : Item) → ProperItems rule is → ProperItem rule i → ProperItems rule (is ++ i ∷ [])
  proper-more [] i p q = (q, tt)
  proper-more (j ∷ is) i p q = (p.0, proper-more is i p.1 q)

  ran-more : (r t : exprs.State) (i : Item) → Ran r → ProperItem rule i → exprs.step r i ≡ Some t → Ran t
  ran-more r t i g q e = record {
    items = g.items ++ i ∷ [];
    proper = proper-more g.items i g.proper q;
    runs = run-append exprs.step g.items (i ∷ []) right_side ∙ ap (λ o. onward o None (run exprs.step (i ∷ []))) g.runs ∙ run-one exprs.step r i ∙ e;
  }

  -- ---- what is kept of a state

  abbrev pub GoodTail : Found → Tail → Type 0
  GoodTail found AtMods = Unit {0}
  GoodTail found (AtAt sign) = Annotated found sign
  GoodTail found (AtAnnotation sign path) = Annotated found sign
  GoodTail found (AtAnnotationDot sign path p) = Annotated found sign
  GoodTail found (InArguments sign path o is ks) = Annotated found sign × IsJoined o × GoodArguments is ks
  GoodTail found (AtAccess a p) = Bridged found p
  GoodTail found (AtAccessOpen a p o) = Bridged found p
  GoodTail found (AtAccessName a p q) = Bridged found p
  GoodTail found (AtValue w) = Bridged found (value_word_token w).place
  GoodTail found (AtValueName w id) = Bridged found (value_word_token w).place
  GoodTail found (InValueType w id point t) = Bridged found (value_word_token w).place
  GoodTail found (InValue w id type sign r) = Bridged found (value_word_token w).place × Ran r
  GoodTail found (AtDef p) = Bridged found p
  GoodTail found (AtMethod m) = GoodMethod found m
  GoodTail found (InTParams p id o done now) = Bridged found p × GoodTTail now
  GoodTail found (InParams m o done now) = GoodMethod found m × IsNear o × GoodPars done
  GoodTail found (InResult m point t) = GoodMethod found m
  GoodTail found (InMethod m type sign r) = GoodMethod found m × Ran r
  GoodTail found (AtType p) = Bridged found p
  GoodTail found (AtTypeName p id) = Bridged found p × IsJoined id.place
  GoodTail found (InAlias p id sign t) = Bridged found p × IsJoined id.place
  GoodTail found (AtProcedure m o block k) = GoodMethod found m × IsNear o × ProperBlock rule WithinExpr block

  abbrev pub GoodDefs : Option State → Type 0
  GoodDefs None = Unit {0}
  GoodDefs (Some s) = FoundGood s.found × GoodTail s.found s.tail

  good-if : (b : Bool) (o : Option State) → (b ≡ true → GoodDefs o) → GoodDefs (if b then o else None)
  good-if true o g = g refl
  good-if false o g = tt

  -- ---- modifiers and annotations

  pub mod-good : (found : Found) (m : Mod) → FoundGood found → bridges found.mods found.annotations (newline_before (mod_tokens m)) ≡ true → FoundGood (with_mod found m)
  mod-good found m g b = (record { annotations = g.0.annotations; modifiers = modifier-more m found.mods found.annotations g.0.modifiers b }, g.1)

  pub annotated-good : (found : Found) (sign : Place) (path : QualId) (arguments : ReadArguments) → FoundGood found → Annotated found sign → ProperArguments (arguments_of arguments) → AllowedArguments arguments
      → FoundGood (with_annotation found sign path arguments)
  annotated-good found sign path arguments g a p w =
      let next : ReadAnnotation = record { sign = sign; path = path; arguments = arguments } in (
        record {
          annotations = annotation-more next found.annotations g.0.annotations p a.1;
          modifiers = subst (λ ms. GoodModifiers ms (next ∷ found.annotations)) (sym a.0) (no-modifiers (next ∷ found.annotations));
        },
        (w, g.1),
      )

  on-word-good : (found : Found) (w : Word) (p : Place) → FoundGood found → Bridged found p → GoodDefs (on_word found w p)
  on-word-good found word.Val p g b = (g, b)
  on-word-good found word.Var p g b = (g, b)
  on-word-good found word.Def p g b = (g, b)
  on-word-good found word.Type p g b = (g, b)
  on-word-good found word.Private p g b = (g, b)
  on-word-good found word.Protected p g b = (g, b)
  on-word-good found word.Abstract p g b = (mod-good found (Abstract p) g b, tt)
  on-word-good found word.Final p g b = (mod-good found (Final p) g b, tt)
  on-word-good found word.Sealed p g b = (mod-good found (Sealed p) g b, tt)
  on-word-good found word.Lazy p g b = (mod-good found (Lazy p) g b, tt)
  on-word-good found word.Override p g b = (mod-good found (Override p) g b, tt)
  on-word-good found word.Case p g b = (mod-good found (CaseMod p) g b, tt)
  on-word-good found _ p g b = tt

  mods-good : (found : Found) (y : Mark) (before : Newline) → FoundGood found → (mark_token y).place.before ≡ before → GoodDefs (at_mods found y before)
  mods-good found y before g e = good-if (bridges found.mods found.annotations before) (on_mod found y) (λ b. go y (ap (bridges found.mods found.annotations) e ∙ b)) where
    go : (z : Mark) → bridges found.mods found.annotations (mark_token z).place.before ≡ true → GoodDefs (on_mod found z)
    go (AnAt p) b =
        good-if (is_nil found.mods) (there found (AtAt p))
        (λ n. (let none = none-before found.mods n in (g, (none, ap (λ ms. bridges ms found.annotations p.before) (sym none) ∙ b))))
    go (Plain (AWord w p)) b = on-word-good found w p g b
    go _ b = tt

  path-good : (found : Found) (sign : Place) (y : Mark) → FoundGood found → Annotated found sign → GoodDefs (at_path found sign y)
  path-good found sign (Plain (AnId id)) g a = (g, a)
  path-good found sign _ g a = tt

  path-dot-good : (found : Found) (sign : Place) (path : QualId) (p : Place) (y : Mark) → FoundGood found → Annotated found sign → GoodDefs (behind_path_dot found sign path p y)
  path-dot-good found sign path p (Plain (AnId id)) g a = (g, a)
  path-dot-good found sign path p _ g a = tt

  annotation-good : (found : Found) (sign : Place) (path : QualId) (y : Mark) (before : Newline) → FoundGood found → Annotated found sign → (mark_token y).place.before ≡ before
      → GoodDefs (at_annotation found sign path y before)
  annotation-good found sign path (Plain (ADot p)) before g a e = (g, a)
  annotation-good found sign path (Plain (OpensRound p)) before g a e =
      good-if (is_no before) (there found (InArguments sign path p [] [])) (λ n. (g, (a, is-no p.before (ap is_no e ∙ n), begun-arguments)))
  annotation-good found sign path y before g a e = mods-good (with_annotation found sign path NoneRead) y before (annotated-good found sign path NoneRead g a tt tt) e

  bracket-good : (found : Found) (sign : Place) (path : QualId) (o : Place) (is : List Item) (y : Mark) (b : Bracket) (x : Lexeme) (ks : List Opened) → role x ≡ Closes b → is_brace (Closes b) ≡ false
      → FoundGood found → Annotated found sign → IsJoined o → GoodArguments is ks → GoodDefs (arguments_closed found sign path o is y b x ks)
  bracket-good found sign path o is y b x (k ∷ ks) e n g a j h =
      good-if (matches b (k ∷ ks)) (there found (InArguments sign path o (is ++ OneToken x ∷ []) ks))
      (λ m. (g, (a, j, token-more is x (Closes b) (k ∷ ks) e n (not-not (matches b (k ∷ ks)) m) h)))
  bracket-good found sign path o is (Plain (ClosesRound p)) b x [] e n g a j h =
      (annotated-good found sign path (Between o is p) g a (j, none-balanced (items_tokens is) (ap (unmatched []) (sym (append-nil (items_tokens is))) ∙ h.1 [])) h.0, tt)
  bracket-good found sign path o is _ b x [] e n g a j h = tt

  arguments-good : (found : Found) (sign : Place) (path : QualId) (o : Place) (is : List Item) (ks : List Opened) (y : Mark) (x : Lexeme) (r : Role) → role x ≡ r
      → FoundGood found → Annotated found sign → IsJoined o → GoodArguments is ks → GoodDefs (in_arguments found sign path o is ks y x r)
  arguments-good found sign path o is ks y x (Opens Curly) e g a j h = tt
  arguments-good found sign path o is ks y x (Closes Curly) e g a j h = tt
  arguments-good found sign path o is ks y x (Closes Round) e g a j h = bracket-good found sign path o is y Round x ks e refl g a j h
  arguments-good found sign path o is ks y x (Closes Square) e g a j h = bracket-good found sign path o is y Square x ks e refl g a j h
  arguments-good found sign path o is ks y x r e g a j h =
      (g, (a, j, subst (λ s. GoodArguments (is ++ OneToken x ∷ []) (opened_after s x.place.span ks)) (sym e) (token-more is x r ks e refl refl h)))

  access-good : (found : Found) (a : Access) (p : Place) (y : Mark) (before : Newline) → FoundGood found → Bridged found p → (mark_token y).place.before ≡ before → GoodDefs (at_access found a p y before)
  access-good found a p (Plain (OpensSquare q)) before g b e = (g, b)
  access-good found a p y before g b e = mods-good (with_mod found (access_mod a p NoQualifier)) y before (mod-good found (access_mod a p NoQualifier) g (go a)) e where
    go : (c : Access) → bridges found.mods found.annotations (newline_before (mod_tokens (access_mod c p NoQualifier))) ≡ true
    go PrivateWord = b
    go ProtectedWord = b

  access-open-good : (found : Found) (a : Access) (p o : Place) (y : Mark) → FoundGood found → Bridged found p → GoodDefs (at_access_open found a p o y)
  access-open-good found a p o (Plain (AnId id)) g b = (g, b)
  access-open-good found a p o (Plain (AWord word.This q)) g b = (g, b)
  access-open-good found a p o _ g b = tt

  access-name-good : (found : Found) (a : Access) (p : Place) (q : InQualifier) (y : Mark) → FoundGood found → Bridged found p → GoodDefs (at_access_name found a p q y)
  access-name-good found a p q (Plain (ClosesSquare k)) g b = (mod-good found (access_mod a p (qualifier_of q k)) g (go a), tt) where
    go : (c : Access) → bridges found.mods found.annotations (newline_before (mod_tokens (access_mod c p (qualifier_of q k)))) ≡ true
    go PrivateWord = b
    go ProtectedWord = b
  access-name-good found a p q _ g b = tt

  -- ---- values and aliases

  value-name-good : (found : Found) (w : ValueWord) (id : Id) (y : Mark) → FoundGood found → Bridged found (value_word_token w).place → GoodDefs (at_value_name found w id y)
  value-name-good found w id (Plain (AColon p)) g b = (g, b)
  value-name-good found w id (Plain (AnEquals p)) g b = (g, (b, ran-begun))
  value-name-good found w id _ g b = tt

  value-good : (found : Found) (w : ValueWord) (y : Mark) → FoundGood found → Bridged found (value_word_token w).place → GoodDefs (at_value found w y)
  value-good found w (Plain (AnId id)) g b = (g, b)
  value-good found w _ g b = tt

  typed-value-good : (found : Found) (w : ValueWord) (id : Id) (p : Place) (type : Option WrittenType) (y : Mark) → FoundGood found → Bridged found (value_word_token w).place → GoodDefs (typed_value found w id p type y)
  typed-value-good found w id p None y g b = tt
  typed-value-good found w id p (Some type) (Plain (AnEquals q)) g b = (g, (b, ran-begun))
  typed-value-good found w id p (Some type) _ g b = tt

  value-type-good : (found : Found) (w : ValueWord) (id : Id) (p : Place) (t : types.State) (u : Option types.State) (y : Mark) → FoundGood found → Bridged found (value_word_token w).place
      → GoodDefs (in_value_type found w id p t u y)
  value-type-good found w id p t (Some u) y g b = (g, b)
  value-type-good found w id p t None y g b = typed-value-good found w id p (type_of t) y g b

  value-right-good : (found : Found) (w : ValueWord) (id : Id) (type : TypePart) (sign : Place) (r : exprs.State) (i : Item) (o : Option exprs.State) → exprs.step r i ≡ o → ProperItem rule i
      → FoundGood found → Bridged found (value_word_token w).place → Ran r → GoodDefs (in_value found w id type sign o)
  value-right-good found w id type sign r i None e q g b k = tt
  value-right-good found w id type sign r i (Some t) e q g b k = (g, (b, ran-more r t i k q e))

  type-good : (found : Found) (p : Place) (y : Mark) → FoundGood found → Bridged found p → GoodDefs (at_type found p y)
  type-good found p (Plain (AnId id)) g b = good-if (is_no id.place.before) (there found (AtTypeName p id)) (λ n. (g, (b, is-no id.place.before n)))
  type-good found p _ g b = tt

  type-name-good : (found : Found) (p : Place) (id : Id) (y : Mark) → FoundGood found → Bridged found p → IsJoined id.place → GoodDefs (at_type_name found p id y)
  type-name-good found p id (Plain (AnEquals q)) g b j = (g, (b, j))
  type-name-good found p id _ g b j = tt

  alias-good : (found : Found) (p : Place) (id : Id) (sign : Place) (u : Option types.State) → FoundGood found → Bridged found p → IsJoined id.place → GoodDefs (in_alias found p id sign u)
  alias-good found p id sign None g b j = tt
  alias-good found p id sign (Some u) g b j = (g, (b, j))

  -- ---- methods

  def-good : (found : Found) (p : Place) (y : Mark) → FoundGood found → Bridged found p → GoodDefs (at_def found p y)
  def-good found p (Plain (AnId id)) g b = (g, (b, tt))
  def-good found p _ g b = tt

  method-good : (found : Found) (m : Signature) (y : Mark) → FoundGood found → GoodMethod found m → GoodDefs (at_method found m y)
  method-good found m (Plain (OpensSquare p)) g k = good-if (is_fresh m.tparams m.lists) (there found (InTParams m.word m.id p [] TBegin)) (λ e. (g, (k.0, tt)))
  method-good found m (Plain (OpensRound p)) g k = good-if (is_near p.before) (there found (InParams m p [] PBegin)) (λ e. (g, (k, e, tt)))
  method-good found m (Plain (AColon p)) g k = (g, k)
  method-good found m (Plain (AnEquals p)) g k = (g, (k, ran-begun))
  method-good found m _ g k = tt

  typed-method-good : (found : Found) (m : Signature) (p : Place) (type : Option WrittenType) (y : Mark) → FoundGood found → GoodMethod found m → GoodDefs (typed_method found m p type y)
  typed-method-good found m p None y g k = tt
  typed-method-good found m p (Some type) (Plain (AnEquals q)) g k = (g, (k, ran-begun))
  typed-method-good found m p (Some type) _ g k = tt

  result-good : (found : Found) (m : Signature) (p : Place) (t : types.State) (u : Option types.State) (y : Mark) → FoundGood found → GoodMethod found m → GoodDefs (in_result found m p t u y)
  result-good found m p t (Some u) y g k = (g, k)
  result-good found m p t None y g k = typed-method-good found m p (type_of t) y g k

  method-right-good : (found : Found) (m : Signature) (type : TypePart) (sign : Place) (r : exprs.State) (i : Item) (o : Option exprs.State) → exprs.step r i ≡ o → ProperItem rule i
      → FoundGood found → GoodMethod found m → Ran r → GoodDefs (in_method found m type sign o)
  method-right-good found m type sign r i None e q g k n = tt
  method-right-good found m type sign r i (Some t) e q g k n = (g, (k, ran-more r t i n q e))

  procedure-good : (found : Found) (m : Signature) (i : Item) → ProperItem rule i → FoundGood found → GoodMethod found m → GoodDefs (procedure found m i)
  procedure-good found m (BlockPair o block p) q g k = good-if (is_near o.before) (there found (AtProcedure m o block p)) (λ e. (g, (k, e, q)))
  procedure-good found m _ q g k = tt

  -- ---- type parameters

  tparams-good : (found : Found) (p : Place) (id : Id) (o : Place) (done : List DoneTPar) (now : Option TTail) → FoundGood found → Bridged found p → GoodNext now → GoodDefs (in_tparams found p id o done now)
  tparams-good found p id o done None g b n = tt
  tparams-good found p id o done (Some now) g b n = (g, (b, n))

  behind-tpar-good : (found : Found) (p : Place) (id : Id) (o : Place) (done : List DoneTPar) (now : TTail) (y : Mark) → FoundGood found → Bridged found p → GoodDefs (behind_tpar found p id o done now y)
  behind-tpar-good found p id o done now (ALowerBound q) g b = tparams-good found p id o done (lower_behind q now) g b (lower-next q now)
  behind-tpar-good found p id o done now (AnUpperBound q) g b = tparams-good found p id o done (upper_behind q now) g b (upper-next q now)
  behind-tpar-good found p id o done now (Plain (AComma q)) g b = go (tpar_at now) where
    go : (t : Option TPar) → GoodDefs (tpar_parted found p id o done q t)
    go None = tt
    go (Some t) = (g, (b, tt))
  behind-tpar-good found p id o done now (Plain (ClosesSquare k)) g b = go (tpar_at now) where
    go : (t : Option TPar) → GoodDefs (tpars_closed found p id o done k t)
    go None = tt
    go (Some t) = (g, (b, tt))
  behind-tpar-good found p id o done now (Plain (AnId name)) g b = tparams-good found p id o done (tpar_named name now) g b (named-next name now)
  behind-tpar-good found p id o done now _ g b = tt

  tpar-good : (found : Found) (p : Place) (id : Id) (o : Place) (done : List DoneTPar) (now : TTail) (next : Option TTail) (y : Mark) → FoundGood found → Bridged found p → GoodNext next
      → GoodDefs (tpar_step found p id o done now next y)
  tpar-good found p id o done now (Some next) y g b n = (g, (b, n))
  tpar-good found p id o done now None y g b n = behind-tpar-good found p id o done now y g b

  -- ---- parameters

  starred-good : (found : Found) (m : Signature) (o : Place) (done : List DonePar) (id : Id) (point : Place) (star : Id) (type : Option WrittenType) → FoundGood found → GoodMethod found m → IsNear o → GoodPars done
      → GoodDefs (starred found m o done id point star type)
  starred-good found m o done id point star None g k n d = tt
  starred-good found m o done id point star (Some type) g k n d = good-if (is_star star) (there found (InParams m o done (PAtStar id point type star.place))) (λ e. (g, (k, n, d)))

  named-good : (found : Found) (m : Signature) (o : Place) (done : List DonePar) (name : Id) (now : PTail) → FoundGood found → GoodMethod found m → IsNear o → GoodPars done → GoodDefs (par_named found m o done name now)
  named-good found m o done name PBegin g k n d = (g, (k, n, d))
  named-good found m o done name (PInType id point t) g k n d = starred-good found m o done id point name (type_of t) g k n d
  named-good found m o done name _ g k n d = tt

  typed-good : (found : Found) (m : Signature) (o : Place) (done : List DonePar) (p : Place) (now : PTail) → FoundGood found → GoodMethod found m → IsNear o → GoodPars done → GoodDefs (par_typed found m o done p now)
  typed-good found m o done p (PAtName id) g k n d = (g, (k, n, d))
  typed-good found m o done p _ g k n d = tt

  parted-good : (found : Found) (m : Signature) (o : Place) (done : List DonePar) (p : Place) (now : PTail) → FoundGood found → GoodMethod found m → IsNear o → GoodPars done → GoodDefs (par_parted found m o done p now)
  parted-good found m o done p (PInType id point t) g k n d = go (type_of t) where
    go : (type : Option WrittenType) → GoodDefs (next_par found m o done p (typed_par id point type))
    go None = tt
    go (Some type) = (g, (k, n, (refl, d)))
  parted-good found m o done p _ g k n d = tt

  pars-closed-good : (found : Found) (m : Signature) (o : Place) (done : List DonePar) (c : Place) (par : Option Par) → FoundGood found → GoodMethod found m → IsNear o → GoodPars done
      → GoodDefs (pars_closed found m o done c par)
  pars-closed-good found m o done c None g k n d = tt
  pars-closed-good found m o done c (Some par) g k n d = (g, (k.0, ((n, last-repeats done par [] d tt), k.1)))

  list-closed-good : (found : Found) (m : Signature) (o : Place) (done : List DonePar) (c : Place) (now : PTail) → FoundGood found → GoodMethod found m → IsNear o → GoodPars done
      → GoodDefs (list_closed found m o done c now)
  list-closed-good found m o [] c PBegin g k n d = (g, (k.0, ((n, tt), k.1)))
  list-closed-good found m o done c now g k n d = pars-closed-good found m o done c (par_at now) g k n d

  behind-par-good : (found : Found) (m : Signature) (o : Place) (done : List DonePar) (now : PTail) (y : Mark) → FoundGood found → GoodMethod found m → IsNear o → GoodPars done → GoodDefs (behind_par found m o done now y)
  behind-par-good found m o done now (Plain (AnId name)) g k n d = named-good found m o done name now g k n d
  behind-par-good found m o done now (Plain (AColon p)) g k n d = typed-good found m o done p now g k n d
  behind-par-good found m o done now (Plain (AComma p)) g k n d = parted-good found m o done p now g k n d
  behind-par-good found m o done now (Plain (ClosesRound c)) g k n d = list-closed-good found m o done c now g k n d
  behind-par-good found m o done now _ g k n d = tt

  par-good : (found : Found) (m : Signature) (o : Place) (done : List DonePar) (now : PTail) (next : Option PTail) (y : Mark) → FoundGood found → GoodMethod found m → IsNear o → GoodPars done
      → GoodDefs (par_step found m o done now next y)
  par-good found m o done now (Some next) y g k n d = (g, (k, n, d))
  par-good found m o done now None y g k n d = behind-par-good found m o done now y g k n d

  -- ---- one item more

  stepped-good : (s : Tail) (found : Found) (y : Mark) (x : Lexeme) → mark_token y ≡ x → FoundGood found → GoodTail found s → GoodDefs (stepped s found y x)
  stepped-good AtMods found y x e g k = mods-good found y x.place.before g (ap (λ z. z.place.before) e)
  stepped-good (AtAt sign) found y x e g k = path-good found sign y g k
  stepped-good (AtAnnotation sign path) found y x e g k = annotation-good found sign path y x.place.before g k (ap (λ z. z.place.before) e)
  stepped-good (AtAnnotationDot sign path p) found y x e g k = path-dot-good found sign path p y g k
  stepped-good (InArguments sign path o is ks) found y x e g k = arguments-good found sign path o is ks y x (role x) refl g k.0 k.1 k.2
  stepped-good (AtAccess a p) found y x e g k = access-good found a p y x.place.before g k (ap (λ z. z.place.before) e)
  stepped-good (AtAccessOpen a p o) found y x e g k = access-open-good found a p o y g k
  stepped-good (AtAccessName a p q) found y x e g k = access-name-good found a p q y g k
  stepped-good (AtValue w) found y x e g k = value-good found w y g k
  stepped-good (AtValueName w id) found y x e g k = value-name-good found w id y g k
  stepped-good (InValueType w id p t) found y x e g k = value-type-good found w id p t (types.step t x) y g k
  stepped-good (InValue w id type sign r) found y x e g k = value-right-good found w id type sign r (OneToken x) (exprs.step r (OneToken x)) refl tt g k.0 k.1
  stepped-good (AtDef p) found y x e g k = def-good found p y g k
  stepped-good (AtMethod m) found y x e g k = method-good found m y g k
  stepped-good (InTParams p id o done now) found y x e g k = tpar-good found p id o done now (bound_type now x) y g k.0 (bound-next now x)
  stepped-good (InParams m o done now) found y x e g k = par-good found m o done now (par_type now x) y g k.0 k.1 k.2
  stepped-good (InResult m p t) found y x e g k = result-good found m p t (types.step t x) y g k
  stepped-good (InMethod m type sign r) found y x e g k = method-right-good found m type sign r (OneToken x) (exprs.step r (OneToken x)) refl tt g k.0 k.1
  stepped-good (AtType p) found y x e g k = type-good found p y g k
  stepped-good (AtTypeName p id) found y x e g k = type-name-good found p id y g k.0 k.1
  stepped-good (InAlias p id sign t) found y x e g k = alias-good found p id sign (types.step t x) g k.0 k.1
  stepped-good (AtProcedure m o block c) found y x e g k = tt

  paired-good : (s : Tail) (found : Found) (i : Item) (o c : Place) → item_tokens i ≡ exprs.braced o (within i) c → (is_balanced (within i) ≡ true → AllowedItem i) → ProperItem rule i → FoundGood found → GoodTail found s
      → GoodDefs (paired s found i)
  paired-good (InArguments sign path p is ks) found i o c e w q g k =
      good-if (is_balanced (within i)) (there found (InArguments sign path p (is ++ i ∷ []) ks)) (λ b. (g, (k.0, k.1, pair-more is i o c (within i) ks e (w b) b k.2)))
  paired-good (InValue v id type sign r) found i o c e w q g k = value-right-good found v id type sign r i (exprs.step r i) refl q g k.0 k.1
  paired-good (AtMethod m) found i o c e w q g k = procedure-good found m i q g k
  paired-good (InMethod m type sign r) found i o c e w q g k = method-right-good found m type sign r i (exprs.step r i) refl q g k.0 k.1
  paired-good _ found i o c e w q g k = tt

  pub step-good : (s : State) (i : Item) → ProperItem rule i → GoodDefs (Some s) → GoodDefs (step s i)
  step-good s (OneToken x) q g = stepped-good s.tail s.found (mark x) x (mark-shown x) g.0 g.1
  step-good s (BlockPair o block c) q g = paired-good s.tail s.found (BlockPair o block c) o c refl (λ b. b) q g.0 g.1
  step-good s (CasesPair o cases c) q g = paired-good s.tail s.found (CasesPair o cases c) o c refl (λ b. b) q g.0 g.1
  step-good s (EnumsPair o enums c) q g = paired-good s.tail s.found (EnumsPair o enums c) o c refl (λ b. b) q g.0 g.1
  step-good s (OtherPair o xs c) q g = paired-good s.tail s.found (OtherPair o xs c) o c refl (λ b. b) q g.0 g.1

  pub begun-defs : GoodDefs (Some begun)
  begun-defs = ((begun-good, tt), tt)

  pub run-good : (is : List Item) (s t : State) → ProperItems rule is → GoodDefs (Some s) → run step is s ≡ Some t → GoodDefs (Some t)
  run-good [] s t q g e = subst GoodDefs e g
  run-good (i ∷ is) s t q g e = go (step s i) refl e (λ u f r. run-good is u t q.1 (subst GoodDefs f (step-good s i q.0 g)) r) where
    go : (o : Option State) → step s i ≡ o → onward o None (run step is) ≡ Some t → ((u : State) → step s i ≡ Some u → run step is u ≡ Some t → GoodDefs (Some t)) → GoodDefs (Some t)
    go None f h on = cc
    go (Some u) f h on = on u f h

  -- ---- what ends

  whole-proper : (r : exprs.State) (e : Expr) → Ran r → whole_expr r ≡ Some e → ProperExpr rule e
  whole-proper r e k h = go r.frames refl h where
    go : (fs : List exprs.Frame) → r.frames ≡ fs → whole_in fs r.context ≡ Some e → ProperExpr rule e
    go [] f g = read-proper rule limit.Expr k.items r e k.proper k.runs g
    go (x ∷ fs) f g = cc

  pub record ProperDefinition (m : ReadMods) (d : Def) : Type 0 where
    pub mods : ProperMods (mods_of m) (def_tokens d)
    pub allowed : AllAllowed m.annotations
    pub def : ProperDef rule WithinExpr d

  proper-def : (found : Found) (d : Def) → FoundGood found → bridges found.mods found.annotations (newline_before (def_tokens d)) ≡ true → ProperDef rule WithinExpr d → ProperDefinition (read_mods found) d
  proper-def found d g b p = record { mods = found-proper found (def_tokens d) g.0 b; allowed = all-allowed found.annotations [] g.1 tt; def = p }

  pub ended-good : (s : State) (d : Def) → GoodDefs (Some s) → def_at s.tail ≡ Some d → ProperDefinition (read_mods s.found) d
  ended-good s d g h = go s.tail g.1 h where
    value : (w : ValueWord) (id : Id) (type : TypePart) (sign : Place) (r : exprs.State) → Bridged s.found (value_word_token w).place → Ran r → (o : Option Expr) → whole_expr r ≡ o
        → value_def w id type sign o ≡ Some d → ProperDefinition (read_mods s.found) d
    value w id type sign r b k None f e = cc
    value w id type sign r b k (Some right) f e = (let same : ValueDef w id type sign right ≡ d = cc in
        subst (ProperDefinition (read_mods s.found)) same (proper-def s.found (ValueDef w id type sign right) g.0 b (whole-proper r right k f)))

    method : (m : Signature) (type : TypePart) (sign : Place) (r : exprs.State) → GoodMethod s.found m → Ran r → (o : Option Expr) → whole_expr r ≡ o → method_def m type sign o ≡ Some d
        → ProperDefinition (read_mods s.found) d
    method m type sign r b k None f e = cc
    method m type sign r b k (Some right) f e = (let same : MethodDef m.word m.id m.tparams (ordered m.lists []) type sign right ≡ d = cc in
        subst (ProperDefinition (read_mods s.found)) same
        (proper-def s.found (MethodDef m.word m.id m.tparams (ordered m.lists []) type sign right) g.0 b.0 (lists-proper m.lists [] b.1 tt, whole-proper r right k f)))

    alias : (p : Place) (id : Id) (sign : Place) → Bridged s.found p → IsJoined id.place → (o : Option WrittenType) → alias_def p id sign o ≡ Some d → ProperDefinition (read_mods s.found) d
    alias p id sign b j None e = cc
    alias p id sign b j (Some type) e = (let same : AliasDef p id sign type ≡ d = cc in
        subst (ProperDefinition (read_mods s.found)) same (proper-def s.found (AliasDef p id sign type) g.0 b j))

    go : (t : Tail) → GoodTail s.found t → def_at t ≡ Some d → ProperDefinition (read_mods s.found) d
    go (InValue w id type sign r) k e = value w id type sign r k.0 k.1 (whole_expr r) refl e
    go (InMethod m type sign r) k e = method m type sign r k.0 k.1 (whole_expr r) refl e
    go (InAlias p id sign t) k e = alias p id sign k.0 k.1 (type_of t) e
    go (AtProcedure m o block c) k e = (let same : ProcedureDef m.word m.id m.tparams (ordered m.lists []) o block c ≡ d = cc in
        subst (ProperDefinition (read_mods s.found)) same
        (proper-def s.found (ProcedureDef m.word m.id m.tparams (ordered m.lists []) o block c) g.0 k.0.0 (lists-proper m.lists [] k.0.1 tt, k.1, k.2)))
    go _ k e = cc
