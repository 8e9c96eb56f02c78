-- The steps of the machine of definitions, and the items of what it has read.
use Rattle.std.proofs.Common.{Bool, true, false, ◌&&◌, if◌then◌else◌, List, [], ◌∷◌, ◌++◌, Option, Some, None, codes}
use Rattle.std.specs.Prelude.{not}
use Rattle.std.specs.Str.{bytes_eq}
use Rattle.reading_machines.specs.Machines.{Machine}
use Rattle.source_grammar.specs.Brackets.{role, is_balanced}
use Rattle.source_grammar.specs.Definitions.{Mod, TypePart, NoType, OfType, Par, Nothing, Listed, ParList, VarianceSign, NoSign, PlusSign, MinusSign, Bound, NoBound, BoundBy, TPar, TParams, NoTParams, mod_tokens, type_part_tokens, par_tokens, par_lists_tokens, variance_tokens, lower_tokens, tpar_tokens, tparams_tokens}
use Rattle.source_grammar.specs.Expressions.{ValueWord}
use Rattle.source_grammar.specs.ExpressionTokens.{value_word_token}
use Rattle.source_grammar.specs.Lexemes.{Place, Lexeme, word_at, at_sign, open_round, open_square, comma, dot, colon, equals, sign_at, plain_at, Id, id_token, qual_id_tokens}
use Rattle.source_grammar.specs.Newlines.{is_near}
use Rattle.source_grammar.specs.Types.{WrittenType, type_tokens}
use Rattle.parse_parts.proofs.Derived as types
use Rattle.parse_parts.proofs.Sound.{tokens_in as type_tokens_in}
use Rattle.parse_patterns.specs.Steps.{is_no}
use Rattle.expr_tails.specs.declared.states.Limit.TheVariants as limit
pub use Rattle.expr_laws.specs.Definitions.{within, arguments_items, annotation_items, annotations_items, mods_items, method_tokens, def_items}
use Rattle.expr_laws.proofs.DefsDerived.{Mark, ALowerBound, AnUpperBound, Plain, mark, ReadAnnotation, Access, PrivateWord, ProtectedWord, InQualifier, NamedIn, ThisIn, Signature, DoneTPar, TTail, TBegin, TAtSign, TAtName, TInLower, TInUpper, DonePar, PTail, PBegin, PAtName, PInType, PAtStar, Tail, AtMods, AtAt, AtAnnotation, AtAnnotationDot, InArguments, AtAccess, AtAccessOpen, AtAccessName, AtValue, AtValueName, InValueType, InValue, AtDef, AtMethod, InTParams, InParams, InResult, InMethod, AtType, AtTypeName, InAlias, AtProcedure, Found, State, at, tparams_before, pars_before, tpar_at, par_at, def_at, there, at_mods, at_path, behind_path_dot, at_annotation, in_arguments, at_access, at_access_open, at_access_name}
use Rattle.expr_laws.proofs.Derived as exprs
use Rattle.expr_laws.proofs.Derived.{Item, OneToken, BlockPair, CasesPair, EnumsPair, OtherPair, is_some, type_of, type_begun}
use Rattle.expr_laws.proofs.Items.{tokens}
use Rattle.expr_laws.proofs.Read.{items_in as expr_items_in}
use Rattle.expr_laws.proofs.Seen.{AnId, AColon, AnEquals, AComma, OpensRound, ClosesRound, OpensSquare, ClosesSquare}

-- ---- values and aliases

abbrev pub at_value : Found → ValueWord → Mark → Option State
at_value found w (Plain (AnId id)) = there found (AtValueName w id)
at_value found w _ = None

abbrev pub right_side : exprs.State
right_side = exprs.begun limit.Expr

abbrev pub at_value_name : Found → ValueWord → Id → Mark → Option State
at_value_name found w id (Plain (AColon p)) = there found (InValueType w id p type_begun)
at_value_name found w id (Plain (AnEquals p)) = there found (InValue w id NoType p right_side)
at_value_name found w id _ = None

abbrev pub typed_value : Found → ValueWord → Id → Place → Option WrittenType → Mark → Option State
typed_value found w id point None y = None
typed_value found w id point (Some type) (Plain (AnEquals p)) = there found (InValue w id (OfType point type) p right_side)
typed_value found w id point (Some type) _ = None

-- a token more of the type, or one behind it
abbrev pub in_value_type : Found → ValueWord → Id → Place → types.State → Option types.State → Mark → Option State
in_value_type found w id point t (Some u) y = there found (InValueType w id point u)
in_value_type found w id point t None y = typed_value found w id point (type_of t) y

abbrev pub in_value : Found → ValueWord → Id → TypePart → Place → Option exprs.State → Option State
in_value found w id type sign None = None
in_value found w id type sign (Some right) = there found (InValue w id type sign right)

abbrev pub at_type : Found → Place → Mark → Option State
at_type found word (Plain (AnId id)) = if is_no id.place.before then there found (AtTypeName word id) else None
at_type found word _ = None

abbrev pub at_type_name : Found → Place → Id → Mark → Option State
at_type_name found word id (Plain (AnEquals p)) = there found (InAlias word id p type_begun)
at_type_name found word id _ = None

abbrev pub in_alias : Found → Place → Id → Place → Option types.State → Option State
in_alias found word id sign None = None
in_alias found word id sign (Some t) = there found (InAlias word id sign t)

-- ---- methods

abbrev pub signature : Place → Id → TParams → List ParList → Signature
signature word id tparams lists = record { word = word; id = id; tparams = tparams; lists = lists }

abbrev pub at_def : Found → Place → Mark → Option State
at_def found word (Plain (AnId id)) = there found (AtMethod (signature word id NoTParams []))
at_def found word _ = None

-- type parameters can still follow
abbrev pub is_fresh : TParams → List ParList → Bool
is_fresh NoTParams [] = true
is_fresh _ _ = false

abbrev pub at_method : Found → Signature → Mark → Option State
at_method found m (Plain (OpensSquare p)) = if is_fresh m.tparams m.lists then there found (InTParams m.word m.id p [] TBegin) else None
at_method found m (Plain (OpensRound p)) = if is_near p.before then there found (InParams m p [] PBegin) else None
at_method found m (Plain (AColon p)) = there found (InResult m p type_begun)
at_method found m (Plain (AnEquals p)) = there found (InMethod m NoType p right_side)
at_method found m _ = None

abbrev pub typed_method : Found → Signature → Place → Option WrittenType → Mark → Option State
typed_method found m point None y = None
typed_method found m point (Some type) (Plain (AnEquals p)) = there found (InMethod m (OfType point type) p right_side)
typed_method found m point (Some type) _ = None

abbrev pub in_result : Found → Signature → Place → types.State → Option types.State → Mark → Option State
in_result found m point t (Some u) y = there found (InResult m point u)
in_result found m point t None y = typed_method found m point (type_of t) y

abbrev pub in_method : Found → Signature → TypePart → Place → Option exprs.State → Option State
in_method found m type sign None = None
in_method found m type sign (Some right) = there found (InMethod m type sign right)

-- a block behind the head
abbrev pub procedure : Found → Signature → Item → Option State
procedure found m (BlockPair o block k) = if is_near o.before then there found (AtProcedure m o block k) else None
procedure found m _ = None

-- ---- type parameters

abbrev pub variance_of : Id → Option VarianceSign
variance_of id =
    if id.quoted then None
    else (if bytes_eq id.name (codes "+") then Some (PlusSign id.place) else (if bytes_eq id.name (codes "-") then Some (MinusSign id.place) else None))

abbrev pub named_tpar : Id → Option VarianceSign → TTail
named_tpar id None = TAtName NoSign id
named_tpar id (Some v) = TAtSign id

abbrev pub signed_tpar : Option VarianceSign → Id → Option TTail
signed_tpar None id = None
signed_tpar (Some v) id = Some (TAtName v id)

-- the bound that begins, behind a name or the first bound
abbrev pub lower_behind : Place → TTail → Option TTail
lower_behind p (TAtSign id) = Some (TInLower NoSign id p type_begun)
lower_behind p (TAtName v id) = Some (TInLower v id p type_begun)
lower_behind p _ = None

abbrev pub upper_bounded : Place → VarianceSign → Id → Place → Option WrittenType → Option TTail
upper_bounded p v id sign None = None
upper_bounded p v id sign (Some type) = Some (TInUpper v id (BoundBy sign type) p type_begun)

abbrev pub upper_behind : Place → TTail → Option TTail
upper_behind p (TAtSign id) = Some (TInUpper NoSign id NoBound p type_begun)
upper_behind p (TAtName v id) = Some (TInUpper v id NoBound p type_begun)
upper_behind p (TInLower v id sign t) = upper_bounded p v id sign (type_of t)
upper_behind p _ = None

abbrev pub in_tparams : Found → Place → Id → Place → List DoneTPar → Option TTail → Option State
in_tparams found word id o done None = None
in_tparams found word id o done (Some now) = there found (InTParams word id o done now)

abbrev pub tpar_parted : Found → Place → Id → Place → List DoneTPar → Place → Option TPar → Option State
tpar_parted found word id o done p None = None
tpar_parted found word id o done p (Some tpar) = there found (InTParams word id o (record { tpar = tpar; place = p } ∷ done) TBegin)

abbrev pub tpars_closed : Found → Place → Id → Place → List DoneTPar → Place → Option TPar → Option State
tpars_closed found word id o done k None = None
tpars_closed found word id o done k (Some tpar) = there found (AtMethod (signature word id (tparams_before o done tpar [] k) []))

abbrev pub tpar_named : Id → TTail → Option TTail
tpar_named id TBegin = Some (named_tpar id (variance_of id))
tpar_named id (TAtSign sign) = signed_tpar (variance_of sign) id
tpar_named id _ = None

abbrev pub behind_tpar : Found → Place → Id → Place → List DoneTPar → TTail → Mark → Option State
behind_tpar found word id o done now (ALowerBound p) = in_tparams found word id o done (lower_behind p now)
behind_tpar found word id o done now (AnUpperBound p) = in_tparams found word id o done (upper_behind p now)
behind_tpar found word id o done now (Plain (AComma p)) = tpar_parted found word id o done p (tpar_at now)
behind_tpar found word id o done now (Plain (ClosesSquare k)) = tpars_closed found word id o done k (tpar_at now)
behind_tpar found word id o done now (Plain (AnId name)) = in_tparams found word id o done (tpar_named name now)
behind_tpar found word id o done now _ = None

abbrev pub lower_type : VarianceSign → Id → Place → Option types.State → Option TTail
lower_type v id sign None = None
lower_type v id sign (Some u) = Some (TInLower v id sign u)

abbrev pub upper_type : VarianceSign → Id → Bound → Place → Option types.State → Option TTail
upper_type v id lower sign None = None
upper_type v id lower sign (Some u) = Some (TInUpper v id lower sign u)

-- the type of a bound with a token more
abbrev pub bound_type : TTail → Lexeme → Option TTail
bound_type (TInLower v id sign t) x = lower_type v id sign (types.step t x)
bound_type (TInUpper v id lower sign t) x = upper_type v id lower sign (types.step t x)
bound_type _ x = None

abbrev pub tpar_step : Found → Place → Id → Place → List DoneTPar → TTail → Option TTail → Mark → Option State
tpar_step found word id o done now (Some next) y = there found (InTParams word id o done next)
tpar_step found word id o done now None y = behind_tpar found word id o done now y

-- ---- parameters

abbrev pub is_star : Id → Bool
is_star id = not id.quoted && bytes_eq id.name (codes "*")

abbrev pub starred : Found → Signature → Place → List DonePar → Id → Place → Id → Option WrittenType → Option State
starred found m o done id point star None = None
starred found m o done id point star (Some type) = if is_star star then there found (InParams m o done (PAtStar id point type star.place)) else None

abbrev pub par_named : Found → Signature → Place → List DonePar → Id → PTail → Option State
par_named found m o done name PBegin = there found (InParams m o done (PAtName name))
par_named found m o done name (PInType id point t) = starred found m o done id point name (type_of t)
par_named found m o done name _ = None

abbrev pub par_typed : Found → Signature → Place → List DonePar → Place → PTail → Option State
par_typed found m o done p (PAtName id) = there found (InParams m o done (PInType id p type_begun))
par_typed found m o done p _ = None

abbrev pub par_list : Place → Listed Par → Place → ParList
par_list o pars k = record { opening = o; pars = pars; closing = k }

abbrev pub with_list : Signature → ParList → Signature
with_list m list = signature m.word m.id m.tparams (list ∷ m.lists)

abbrev pub pars_closed : Found → Signature → Place → List DonePar → Place → Option Par → Option State
pars_closed found m o done k None = None
pars_closed found m o done k (Some par) = there found (AtMethod (with_list m (par_list o (pars_before done par []) k)))

abbrev pub list_closed : Found → Signature → Place → List DonePar → Place → PTail → Option State
list_closed found m o [] k PBegin = there found (AtMethod (with_list m (par_list o Nothing k)))
list_closed found m o done k now = pars_closed found m o done k (par_at now)

abbrev pub next_par : Found → Signature → Place → List DonePar → Place → Option Par → Option State
next_par found m o done p None = None
next_par found m o done p (Some par) = there found (InParams m o (record { par = par; place = p } ∷ done) PBegin)

-- one with a `*` is the last
abbrev pub par_parted : Found → Signature → Place → List DonePar → Place → PTail → Option State
par_parted found m o done p (PInType id point t) = next_par found m o done p (par_at (PInType id point t))
par_parted found m o done p _ = None

abbrev pub behind_par : Found → Signature → Place → List DonePar → PTail → Mark → Option State
behind_par found m o done now (Plain (AnId name)) = par_named found m o done name now
behind_par found m o done now (Plain (AColon p)) = par_typed found m o done p now
behind_par found m o done now (Plain (AComma p)) = par_parted found m o done p now
behind_par found m o done now (Plain (ClosesRound k)) = list_closed found m o done k now
behind_par found m o done now _ = None

abbrev pub par_on : Id → Place → Option types.State → Option PTail
par_on id point None = None
par_on id point (Some u) = Some (PInType id point u)

abbrev pub par_type : PTail → Lexeme → Option PTail
par_type (PInType id point t) x = par_on id point (types.step t x)
par_type _ x = None

abbrev pub par_step : Found → Signature → Place → List DonePar → PTail → Option PTail → Mark → Option State
par_step found m o done now (Some next) y = there found (InParams m o done next)
par_step found m o done now None y = behind_par found m o done now y

-- ---- one item more

abbrev pub stepped : Tail → Found → Mark → Lexeme → Option State
stepped AtMods found y x = at_mods found y x.place.before
stepped (AtAt sign) found y x = at_path found sign y
stepped (AtAnnotation sign path) found y x = at_annotation found sign path y x.place.before
stepped (AtAnnotationDot sign path p) found y x = behind_path_dot found sign path p y
stepped (InArguments sign path o is ks) found y x = in_arguments found sign path o is ks y x (role x)
stepped (AtAccess a word) found y x = at_access found a word y x.place.before
stepped (AtAccessOpen a word o) found y x = at_access_open found a word o y
stepped (AtAccessName a word q) found y x = at_access_name found a word q y
stepped (AtValue w) found y x = at_value found w y
stepped (AtValueName w id) found y x = at_value_name found w id y
stepped (InValueType w id point t) found y x = in_value_type found w id point t (types.step t x) y
stepped (InValue w id type sign right) found y x = in_value found w id type sign (exprs.step right (OneToken x))
stepped (AtDef word) found y x = at_def found word y
stepped (AtMethod m) found y x = at_method found m y
stepped (InTParams word id o done now) found y x = tpar_step found word id o done now (bound_type now x) y
stepped (InParams m o done now) found y x = par_step found m o done now (par_type now x) y
stepped (InResult m point t) found y x = in_result found m point t (types.step t x) y
stepped (InMethod m type sign right) found y x = in_method found m type sign (exprs.step right (OneToken x))
stepped (AtType word) found y x = at_type found word y
stepped (AtTypeName word id) found y x = at_type_name found word id y
stepped (InAlias word id sign t) found y x = in_alias found word id sign (types.step t x)
stepped (AtProcedure m o block k) found y x = None

abbrev pub paired : Tail → Found → Item → Option State
paired (InArguments sign path o is ks) found i = if is_balanced (within i) then there found (InArguments sign path o (is ++ i ∷ []) ks) else None
paired (InValue w id type sign right) found i = in_value found w id type sign (exprs.step right i)
paired (AtMethod m) found i = procedure found m i
paired (InMethod m type sign right) found i = in_method found m type sign (exprs.step right i)
paired _ found i = None

abbrev pub step : State → Item → Option State
step s (OneToken x) = stepped s.tail s.found (mark x) x
step s i = paired s.tail s.found i

abbrev pub begun : State
begun = at (record { annotations = []; mods = [] }) AtMods

abbrev pub machine : Machine State Item
machine = record { start = begun; step = step; whole = λ s. is_some (def_at s.tail) }

-- ---- the items of what was read

abbrev pub annotations_done : List ReadAnnotation → List Item
annotations_done [] = []
annotations_done (a ∷ done) = annotations_done done ++ annotation_items a

abbrev pub mods_done : List Mod → List Item
mods_done [] = []
mods_done (m ∷ ms) = mods_done ms ++ tokens (mod_tokens m)

abbrev pub lists_done : List ParList → List Lexeme
lists_done [] = []
lists_done (l ∷ ls) = lists_done ls ++ par_lists_tokens (l ∷ [])

abbrev pub signature_tokens : Signature → List Lexeme
signature_tokens m = word_at (codes "def") m.word ∷ id_token m.id ∷ (tparams_tokens m.tparams ++ lists_done m.lists)

abbrev pub ttail_tokens : TTail → List Lexeme
ttail_tokens TBegin = []
ttail_tokens (TAtSign id) = id_token id ∷ []
ttail_tokens (TAtName v id) = variance_tokens v ++ id_token id ∷ []
ttail_tokens (TInLower v id sign t) = variance_tokens v ++ id_token id ∷ sign_at (codes ">:") sign ∷ type_tokens_in t
ttail_tokens (TInUpper v id lower sign t) = variance_tokens v ++ id_token id ∷ (lower_tokens lower ++ sign_at (codes "<:") sign ∷ type_tokens_in t)

abbrev pub tpars_done : List DoneTPar → List Lexeme
tpars_done [] = []
tpars_done (d ∷ done) = tpars_done done ++ (tpar_tokens d.tpar ++ comma d.place ∷ [])

abbrev pub ptail_tokens : PTail → List Lexeme
ptail_tokens PBegin = []
ptail_tokens (PAtName id) = id_token id ∷ []
ptail_tokens (PInType id point t) = id_token id ∷ colon point ∷ type_tokens_in t
ptail_tokens (PAtStar id point type star) = id_token id ∷ colon point ∷ (type_tokens type ++ plain_at (codes "*") star ∷ [])

abbrev pub pars_done : List DonePar → List Lexeme
pars_done [] = []
pars_done (d ∷ done) = pars_done done ++ (par_tokens d.par ++ comma d.place ∷ [])

abbrev pub access_token : Access → Place → Lexeme
access_token PrivateWord p = word_at (codes "private") p
access_token ProtectedWord p = word_at (codes "protected") p

abbrev pub in_qualifier_tokens : InQualifier → List Lexeme
in_qualifier_tokens (NamedIn o id) = open_square o ∷ id_token id ∷ []
in_qualifier_tokens (ThisIn o word) = open_square o ∷ word_at (codes "this") word ∷ []

-- the tokens of a tail, up to where an expression or arguments begin
abbrev pub tail_tokens : Tail → List Lexeme
tail_tokens AtMods = []
tail_tokens (AtAt sign) = at_sign sign ∷ []
tail_tokens (AtAnnotation sign path) = at_sign sign ∷ qual_id_tokens path
tail_tokens (AtAnnotationDot sign path p) = at_sign sign ∷ (qual_id_tokens path ++ dot p ∷ [])
tail_tokens (InArguments sign path o is ks) = at_sign sign ∷ (qual_id_tokens path ++ open_round o ∷ [])
tail_tokens (AtAccess a word) = access_token a word ∷ []
tail_tokens (AtAccessOpen a word o) = access_token a word ∷ open_square o ∷ []
tail_tokens (AtAccessName a word q) = access_token a word ∷ in_qualifier_tokens q
tail_tokens (AtValue w) = value_word_token w ∷ []
tail_tokens (AtValueName w id) = value_word_token w ∷ id_token id ∷ []
tail_tokens (InValueType w id point t) = value_word_token w ∷ id_token id ∷ colon point ∷ type_tokens_in t
tail_tokens (InValue w id type sign right) = value_word_token w ∷ id_token id ∷ (type_part_tokens type ++ equals sign ∷ [])
tail_tokens (AtDef word) = word_at (codes "def") word ∷ []
tail_tokens (AtMethod m) = signature_tokens m
tail_tokens (InTParams word id o done now) = word_at (codes "def") word ∷ id_token id ∷ open_square o ∷ (tpars_done done ++ ttail_tokens now)
tail_tokens (InParams m o done now) = signature_tokens m ++ open_round o ∷ (pars_done done ++ ptail_tokens now)
tail_tokens (InResult m point t) = signature_tokens m ++ colon point ∷ type_tokens_in t
tail_tokens (InMethod m type sign right) = signature_tokens m ++ (type_part_tokens type ++ equals sign ∷ [])
tail_tokens (AtType word) = word_at (codes "type") word ∷ []
tail_tokens (AtTypeName word id) = word_at (codes "type") word ∷ id_token id ∷ []
tail_tokens (InAlias word id sign t) = word_at (codes "type") word ∷ id_token id ∷ equals sign ∷ type_tokens_in t
tail_tokens (AtProcedure m o block k) = signature_tokens m

-- and the items behind these
abbrev pub tail_rest : Tail → List Item
tail_rest (InArguments sign path o is ks) = is
tail_rest (InValue w id type sign right) = expr_items_in right
tail_rest (InMethod m type sign right) = expr_items_in right
tail_rest (AtProcedure m o block k) = BlockPair o block k ∷ []
tail_rest _ = []

abbrev pub tail_items : Tail → List Item
tail_items s = tokens (tail_tokens s) ++ tail_rest s

abbrev pub found_items : Found → List Item
found_items found = annotations_done found.annotations ++ mods_done found.mods

abbrev pub items_in : State → List Item
items_in s = found_items s.found ++ tail_items s.tail
