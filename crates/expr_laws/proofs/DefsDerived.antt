-- The machine that reads one definition with its modifiers, over the derivations that the items so far are parts of.
use Rattle.std.proofs.Common.{Bool, true, false, ◌&&◌, if◌then◌else◌, List, [], ◌∷◌, ◌++◌, Option, Some, None, codes}
use Rattle.std.specs.Str.{bytes_eq}
use Rattle.scan_tokens.specs.declared.roles.Bracket.{Bracket}
use Rattle.scan_tokens.specs.declared.roles.Bracket.TheVariants.{Curly}
use Rattle.scan_tokens.specs.declared.roles.Role.{Role}
use Rattle.scan_tokens.specs.declared.roles.Role.TheVariants.{Opens, Closes}
use Rattle.scan_tokens.specs.declared.tokens.Newline.{Newline}
use Rattle.scan_tokens.specs.declared.tokens.TokenKind.{TokenKind}
use Rattle.scan_tokens.specs.declared.tokens.TokenKind.TheVariants as kind
use Rattle.scan_tokens.specs.Words.{Bytes}
use Rattle.source_grammar.specs.Brackets.{Opened, matches, open_after}
use Rattle.source_grammar.specs.Definitions.{AccessQualifier, NoQualifier, OfId, OfThis, Mod, Abstract, Final, Sealed, Lazy, Override, CaseMod, Private, Protected, TypePart, Par, Behind, Listed, Items, ParList, VarianceSign, NoSign, Bound, NoBound, BoundBy, TPar, TParams, TParamsOf}
use Rattle.source_grammar.specs.Expressions.{ValueWord, Val, Var, Expr, Block, Def, ValueDef, MethodDef, ProcedureDef, AliasDef}
use Rattle.source_grammar.specs.Lexemes.{Place, Lexeme, sign_at, at_sign, Id, QualId}
use Rattle.source_grammar.specs.Newlines.{is_near}
use Rattle.source_grammar.specs.Types.{WrittenType}
use Rattle.parse_parts.proofs.Derived as types
use Rattle.parse_parts.proofs.Derived.{longer}
use Rattle.parse_patterns.specs.Steps.{is_no}
use Rattle.expr_tails.specs.declared.symbols.Word.{Word}
use Rattle.expr_tails.specs.declared.symbols.Word.TheVariants as word
pub use Rattle.expr_laws.specs.Definitions.{ReadArguments, NoneRead, Between, ReadAnnotation, ReadMods, arguments_of, annotation_of, annotations_of, mods_of}
use Rattle.expr_laws.proofs.Derived as exprs
use Rattle.expr_laws.proofs.Derived.{Item, OneToken, is_nil, type_of, ended_expr}
use Rattle.expr_laws.proofs.Seen.{Seen, AnId, ADot, OpensRound, ClosesRound, OpensSquare, ClosesSquare, AWord, seen, shown_token}

-- ---- tokens

-- a token as expressions see it, or a sign that stands in definitions alone
pub data Mark : Type 0 where
  AnAt : Place → Mark
  ALowerBound : Place → Mark
  AnUpperBound : Place → Mark
  Plain : Seen → Mark

abbrev pub is_sign_kind : TokenKind → Bool
is_sign_kind kind.Sign = true
is_sign_kind _ = false

abbrev pub is_sign : Bytes → Lexeme → Bool
is_sign text x = is_sign_kind x.kind && bytes_eq x.word text

abbrev pub mark : Lexeme → Mark
mark x =
    if is_sign (codes "@") x then AnAt x.place
    else (if is_sign (codes ">:") x then ALowerBound x.place
    else (if is_sign (codes "<:") x then AnUpperBound x.place else Plain (seen x)))

-- the token again
abbrev pub mark_token : Mark → Lexeme
mark_token (AnAt p) = at_sign p
mark_token (ALowerBound p) = sign_at (codes ">:") p
mark_token (AnUpperBound p) = sign_at (codes "<:") p
mark_token (Plain y) = shown_token y

-- ---- modifiers

-- what was collected with the last one first, in its order
abbrev pub ordered : {A : Type 0} → List A → List A → List A
ordered [] rest = rest
ordered (a ∷ done) rest = ordered done (a ∷ rest)

pub data Access : Type 0 where
  PrivateWord : Access
  ProtectedWord : Access

pub data InQualifier : Type 0 where
  NamedIn : (opening : Place) → Id → InQualifier
  ThisIn : (opening word : Place) → InQualifier

abbrev pub qualifier_of : InQualifier → Place → AccessQualifier
qualifier_of (NamedIn o id) k = OfId o id k
qualifier_of (ThisIn o word) k = OfThis o word k

abbrev pub access_mod : Access → Place → AccessQualifier → Mod
access_mod PrivateWord p q = Private p q
access_mod ProtectedWord p q = Protected p q

abbrev pub mod_of : Word → Place → Option Mod
mod_of word.Abstract p = Some (Abstract p)
mod_of word.Final p = Some (Final p)
mod_of word.Sealed p = Some (Sealed p)
mod_of word.Lazy p = Some (Lazy p)
mod_of word.Override p = Some (Override p)
mod_of word.Case p = Some (CaseMod p)
mod_of _ p = None

-- ---- heads of definitions

-- `def` and what stands behind it, the last list of parameters first
pub record Signature : Type 0 where
  pub word : Place
  pub id : Id
  pub tparams : TParams
  pub lists : List ParList

pub record DoneTPar : Type 0 where
  pub tpar : TPar
  pub place : Place

-- the type parameter that is read
pub data TTail : Type 0 where
  TBegin : TTail
  -- `+` or `-`: the sign of what follows, or a name
  TAtSign : Id → TTail
  TAtName : VarianceSign → Id → TTail
  TInLower : VarianceSign → Id → (sign : Place) → types.State → TTail
  TInUpper : VarianceSign → Id → Bound → (sign : Place) → types.State → TTail

pub record DonePar : Type 0 where
  pub par : Par
  pub place : Place

pub data PTail : Type 0 where
  PBegin : PTail
  PAtName : Id → PTail
  PInType : Id → (point : Place) → types.State → PTail
  PAtStar : Id → (point : Place) → WrittenType → (star : Place) → PTail

pub data Tail : Type 0 where
  AtMods : Tail
  AtAt : (sign : Place) → Tail
  AtAnnotation : (sign : Place) → QualId → Tail
  AtAnnotationDot : (sign : Place) → QualId → (point : Place) → Tail
  InArguments : (sign : Place) → QualId → (opening : Place) → List Item → List Opened → Tail
  AtAccess : Access → (word : Place) → Tail
  AtAccessOpen : Access → (word opening : Place) → Tail
  AtAccessName : Access → (word : Place) → InQualifier → Tail
  AtValue : ValueWord → Tail
  AtValueName : ValueWord → Id → Tail
  InValueType : ValueWord → Id → (point : Place) → types.State → Tail
  InValue : ValueWord → Id → TypePart → (sign : Place) → exprs.State → Tail
  AtDef : (word : Place) → Tail
  AtMethod : Signature → Tail
  InTParams : (word : Place) → Id → (opening : Place) → List DoneTPar → TTail → Tail
  InParams : Signature → (opening : Place) → List DonePar → PTail → Tail
  InResult : Signature → (point : Place) → types.State → Tail
  InMethod : Signature → TypePart → (sign : Place) → exprs.State → Tail
  AtType : (word : Place) → Tail
  AtTypeName : (word : Place) → Id → Tail
  InAlias : (word : Place) → Id → (sign : Place) → types.State → Tail
  AtProcedure : Signature → (opening : Place) → Block → (closing : Place) → Tail

-- the modifiers so far, the last one first
pub record Found : Type 0 where
  pub annotations : List ReadAnnotation
  pub mods : List Mod

pub record State : Type 0 where
  pub found : Found
  pub tail : Tail

abbrev pub at : Found → Tail → State
at found tail = record { found = found; tail = tail }

abbrev pub with_mod : Found → Mod → Found
with_mod found m = record { annotations = found.annotations; mods = m ∷ found.mods }

abbrev pub with_annotation : Found → Place → QualId → ReadArguments → Found
with_annotation found sign path arguments = record {
  annotations = record { sign = sign; path = path; arguments = arguments } ∷ found.annotations;
  mods = found.mods;
}

-- ---- derivations of what was read

abbrev pub tparams_before : Place → List DoneTPar → TPar → List (Behind TPar) → Place → TParams
tparams_before o [] tpar bs k = TParamsOf o tpar bs k
tparams_before o (d ∷ done) tpar bs k = tparams_before o done d.tpar (record { comma = d.place; item = tpar } ∷ bs) k

abbrev pub pars_before : List DonePar → Par → List (Behind Par) → Listed Par
pars_before [] par bs = Items par bs
pars_before (d ∷ done) par bs = pars_before done d.par (record { comma = d.place; item = par } ∷ bs)

abbrev pub bounded : VarianceSign → Id → Bound → Bound → TPar
bounded v id lower upper = record { variance = v; id = id; lower = lower; upper = upper }

abbrev pub lower_at : VarianceSign → Id → Place → Option WrittenType → Option TPar
lower_at v id sign None = None
lower_at v id sign (Some type) = Some (bounded v id (BoundBy sign type) NoBound)

abbrev pub upper_at : VarianceSign → Id → Bound → Place → Option WrittenType → Option TPar
upper_at v id lower sign None = None
upper_at v id lower sign (Some type) = Some (bounded v id lower (BoundBy sign type))

-- the type parameter that ends here
abbrev pub tpar_at : TTail → Option TPar
tpar_at TBegin = None
tpar_at (TAtSign id) = Some (bounded NoSign id NoBound NoBound)
tpar_at (TAtName v id) = Some (bounded v id NoBound NoBound)
tpar_at (TInLower v id sign t) = lower_at v id sign (type_of t)
tpar_at (TInUpper v id lower sign t) = upper_at v id lower sign (type_of t)

abbrev pub par_of : Id → Place → WrittenType → Option Place → Par
par_of id point type star = record { id = id; point = point; type = type; star = star }

abbrev pub typed_par : Id → Place → Option WrittenType → Option Par
typed_par id point None = None
typed_par id point (Some type) = Some (par_of id point type None)

-- the parameter that ends here
abbrev pub par_at : PTail → Option Par
par_at (PInType id point t) = typed_par id point (type_of t)
par_at (PAtStar id point type star) = Some (par_of id point type (Some star))
par_at _ = None

-- the expression that ends here, where no bracket is open
abbrev pub whole_in : List exprs.Frame → exprs.Context → Option Expr
whole_in [] c = ended_expr c
whole_in (f ∷ fs) c = None

abbrev pub whole_expr : exprs.State → Option Expr
whole_expr s = whole_in s.frames s.context

abbrev pub value_def : ValueWord → Id → TypePart → Place → Option Expr → Option Def
value_def w id type sign None = None
value_def w id type sign (Some right) = Some (ValueDef w id type sign right)

abbrev pub method_def : Signature → TypePart → Place → Option Expr → Option Def
method_def m type sign None = None
method_def m type sign (Some right) = Some (MethodDef m.word m.id m.tparams (ordered m.lists []) type sign right)

abbrev pub alias_def : Place → Id → Place → Option WrittenType → Option Def
alias_def word id sign None = None
alias_def word id sign (Some type) = Some (AliasDef word id sign type)

-- the definition that ends here
abbrev pub def_at : Tail → Option Def
def_at (InValue w id type sign right) = value_def w id type sign (whole_expr right)
def_at (InMethod m type sign right) = method_def m type sign (whole_expr right)
def_at (InAlias word id sign t) = alias_def word id sign (type_of t)
def_at (AtProcedure m o block k) = Some (ProcedureDef m.word m.id m.tparams (ordered m.lists []) o block k)
def_at _ = None

abbrev pub read_mods : Found → ReadMods
read_mods found = record { annotations = ordered found.annotations []; mods = ordered found.mods [] }

-- ---- steps of modifiers

abbrev pub there : Found → Tail → Option State
there found tail = Some (at found tail)

-- what comes next may stand behind this newline
abbrev pub bridges : List Mod → List ReadAnnotation → Newline → Bool
bridges (m ∷ ms) done before = is_no before
bridges [] (a ∷ done) before = is_near before
bridges [] [] before = true

abbrev pub plain_mod : Found → Option Mod → Option State
plain_mod found None = None
plain_mod found (Some m) = there (with_mod found m) AtMods

abbrev pub on_word : Found → Word → Place → Option State
on_word found word.Val p = there found (AtValue (Val p))
on_word found word.Var p = there found (AtValue (Var p))
on_word found word.Def p = there found (AtDef p)
on_word found word.Type p = there found (AtType p)
on_word found word.Private p = there found (AtAccess PrivateWord p)
on_word found word.Protected p = there found (AtAccess ProtectedWord p)
on_word found w p = plain_mod found (mod_of w p)

abbrev pub on_mod : Found → Mark → Option State
on_mod found (AnAt p) = if is_nil found.mods then there found (AtAt p) else None
on_mod found (Plain (AWord w p)) = on_word found w p
on_mod found _ = None

abbrev pub at_mods : Found → Mark → Newline → Option State
at_mods found y before = if bridges found.mods found.annotations before then on_mod found y else None

abbrev pub at_path : Found → Place → Mark → Option State
at_path found sign (Plain (AnId id)) = there found (AtAnnotation sign (record { first = id; steps = [] }))
at_path found sign _ = None

abbrev pub behind_path_dot : Found → Place → QualId → Place → Mark → Option State
behind_path_dot found sign path point (Plain (AnId id)) = there found (AtAnnotation sign (longer path point id))
behind_path_dot found sign path point _ = None

abbrev pub at_annotation : Found → Place → QualId → Mark → Newline → Option State
at_annotation found sign path (Plain (ADot p)) before = there found (AtAnnotationDot sign path p)
at_annotation found sign path (Plain (OpensRound p)) before = if is_no before then there found (InArguments sign path p [] []) else None
at_annotation found sign path y before = at_mods (with_annotation found sign path NoneRead) y before

-- a bracket that closes the last one of those between the parentheses, or these
abbrev pub arguments_closed : Found → Place → QualId → Place → List Item → Mark → Bracket → Lexeme → List Opened → Option State
arguments_closed found sign path o is y b x (k ∷ ks) = if matches b (k ∷ ks) then there found (InArguments sign path o (is ++ OneToken x ∷ []) ks) else None
arguments_closed found sign path o is (Plain (ClosesRound p)) b x [] = there (with_annotation found sign path (Between o is p)) AtMods
arguments_closed found sign path o is _ b x [] = None

abbrev pub in_arguments : Found → Place → QualId → Place → List Item → List Opened → Mark → Lexeme → Role → Option State
in_arguments found sign path o is ks y x (Opens Curly) = None
in_arguments found sign path o is ks y x (Closes Curly) = None
in_arguments found sign path o is ks y x (Closes b) = arguments_closed found sign path o is y b x ks
in_arguments found sign path o is ks y x _ = there found (InArguments sign path o (is ++ OneToken x ∷ []) (open_after x ks))

abbrev pub at_access : Found → Access → Place → Mark → Newline → Option State
at_access found a word (Plain (OpensSquare p)) before = there found (AtAccessOpen a word p)
at_access found a word y before = at_mods (with_mod found (access_mod a word NoQualifier)) y before

abbrev pub at_access_open : Found → Access → Place → Place → Mark → Option State
at_access_open found a word o (Plain (AnId id)) = there found (AtAccessName a word (NamedIn o id))
at_access_open found a place o (Plain (AWord word.This p)) = there found (AtAccessName a place (ThisIn o p))
at_access_open found a word o _ = None

abbrev pub at_access_name : Found → Access → Place → InQualifier → Mark → Option State
at_access_name found a word q (Plain (ClosesSquare k)) = there (with_mod found (access_mod a word (qualifier_of q k))) AtMods
at_access_name found a word q _ = None
