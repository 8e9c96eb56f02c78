-- Where a parameter is read, an item leads to a parameter again, or nowhere, as long as no comma or bracket ends it.
use Rattle.std.proofs.Common.{◌≡◌, Bool, true, false, ◌&&◌, if◌then◌else◌, List, [], ◌∷◌, Option, Some, None, refl, ap, sym, ◌∙◌}
use Rattle.std.specs.Prelude.{not}
use Rattle.scan_tokens.specs.declared.tokens.Newline.{Newline}
use Rattle.scan_tokens.specs.declared.tokens.Newline.TheVariants.{No}
use Rattle.source_grammar.specs.Expressions.{Expr, LiteralPrim}
use Rattle.source_grammar.specs.ExpressionRules.{is_prefix_id}
use Rattle.source_grammar.specs.Lexemes.{Place, Lexeme, Id, Literal, literal_place, Number}
use Rattle.parse_parts.proofs.Derived as types
use Rattle.parse_patterns.specs.Steps.{is_no}
use Rattle.parse_patterns.proofs.Derived.{when}
use Rattle.parse_patterns.proofs.Seen.{literal_of}
use Rattle.expr_tails.specs.declared.states.Limit.{Limit}
use Rattle.expr_tails.specs.declared.states.Limit.TheVariants as limit
use Rattle.expr_tails.specs.declared.symbols.Symbol.{Symbol}
use Rattle.expr_tails.specs.declared.symbols.Word.{Word}
use Rattle.expr_tails.specs.declared.symbols.Word.TheVariants as word
use Rattle.expr_tails.specs.Symbols.{begins_prim}
use Rattle.expr_laws.proofs.Derived as derived
use Rattle.expr_laws.proofs.Derived.{Item, OfName, OfWild, OfChain, Tail, Begin, AtSign, AtName, AtWild, InTyped, Context, Bracket, GensBracket, Frame, State, is_begin, is_param_limit, may_stand, may_begin, fits, at, state, in_state, named_tail, on_id, on_literal, on_number, on_underscore, on_dot, on_colon, squared, operand_at, may_head, finished, tried, innermost, taken, word_at, is_if, guarded, guarded_by, next_generator, next_by, on_word, on_semicolon, in_gens, is_gens, opened, opened_with, waiting_bracket, GroupBracket, type_begun, or_else, decided_at, decided_pair, moved, token_at, in_type, typed_type}
use Rattle.expr_laws.proofs.Lives.{is_calm, is_param_tail, IsParam}
use Rattle.expr_laws.proofs.Seen.{Seen, AnId, ANumber, ALiteral, AnUnderscore, AColon, AnEquals, AnArrow, ADot, AComma, ASemicolon, OpensRound, ClosesRound, OpensSquare, AWord}

-- a context in which a parameter is read
abbrev pub params : Tail → Context
params s = record { heads = []; operations = []; sign = None; tail = s; limit = limit.Param }

pub params-is : (c : Context) → IsParam c → c.limit ≡ limit.Param → c ≡ params c.tail
params-is c k l =
    ap (λ hs. record { heads = hs; operations = c.operations; sign = c.sign; tail = c.tail; limit = c.limit }) k.heads
    ∙ ap (λ os. record { heads = []; operations = os; sign = c.sign; tail = c.tail; limit = c.limit }) k.operations
    ∙ ap (λ v. record { heads = []; operations = []; sign = v; tail = c.tail; limit = c.limit }) k.sign
    ∙ ap (λ m. record { heads = []; operations = []; sign = None; tail = c.tail; limit = m }) l

pub param-limit : (l : Limit) → is_param_limit l ≡ true → l ≡ limit.Param
param-limit limit.Param e = refl
param-limit _ e = cc

pub param-calm : (s : Tail) → is_param_tail s ≡ true → is_calm s ≡ true
param-calm (derived.AtGroup o parens k head) e = cc
param-calm (derived.AtSemi expr p ps) e = cc
param-calm (derived.AtGuardSemi test p ps) e = cc
param-calm (derived.InPattern p) e = cc
param-calm _ e = refl

-- a parameter that is no sign whose role is not decided
abbrev pub is_decided : Tail → Bool
is_decided (AtSign id) = false
is_decided s = is_param_tail s

-- ---- contexts

abbrev pub Params : Option Context → Type 0
Params o = (d : Context) → o ≡ Some d → (s : Tail) × (d ≡ params s) × (is_param_tail s ≡ true)

params-not : (o : Option Context) → o ≡ None → Params o
params-not o n d e = (let no : None ≡ Some d = sym n ∙ e in cc)

params-some : (s : Tail) → is_param_tail s ≡ true → Params (Some (params s))
params-some s k d e = (s, (let same : params s ≡ d = cc in sym same), k)

named-param : (id : Id) → is_param_tail (named_tail id) ≡ true
named-param id = go (is_prefix_id id) where
  go : (b : Bool) → is_param_tail (if b then AtSign id else AtName id false) ≡ true
  go true = refl
  go false = refl

dead : {A : Type 0} (a b c : Bool) (x y : A) → (if a && (b && (false && c)) then x else y) ≡ y
dead true true c x y = refl
dead true false c x y = refl
dead false b c x y = refl

either : {A : Type 0} (b : Bool) (x : A) → (if b then x else x) ≡ x
either true x = refl
either false x = refl

id-params : (id : Id) (s : Tail) → is_decided s ≡ true → Params (on_id id (params s))
id-params id Begin e = params-some (named_tail id) (named-param id)
id-params id (AtName i b) e = params-not _ (dead (not b) (is_no id.place.before) (fits [] id) _ None)
id-params id (AtWild p) e = params-not _ (dead true (is_no id.place.before) (fits [] id) _ None)
id-params id (InTyped (OfName i) p t) e = params-not _ refl
id-params id (InTyped (OfWild i) p t) e = params-not _ refl
id-params id (InTyped (OfChain chain) p t) e = cc
id-params id _ e = cc

no-stand : (s : Tail) (n : Newline) → may_stand (params s) n ≡ false
no-stand s n = go (is_begin s) where
  go : (b : Bool) → (b && false) ≡ false
  go true = refl
  go false = refl

literal-params : (l : Literal) (s : Tail) → on_literal l (params s) ≡ None
literal-params l s = ap (λ b. when b (at (params s) (derived.AtPrim (LiteralPrim l)))) (no-stand s (literal_place l).before)

number-params : (n : Number) (s : Tail) → is_decided s ≡ true → on_number n s (params s) ≡ None
number-params n (AtSign id) e = cc
number-params n s e = literal-params (literal_of n) s

underscore-params : (p : Place) (s : Tail) → is_decided s ≡ true → Params (on_underscore p (params s))
underscore-params p Begin e = params-some (AtWild p) refl
underscore-params p (AtName i b) e = params-not _ (either (is_no p.before) None)
underscore-params p (AtWild q) e = params-not _ (either (is_no p.before) None)
underscore-params p (InTyped (OfName i) q t) e = params-not _ (either (is_no p.before) None)
underscore-params p (InTyped (OfWild i) q t) e = params-not _ (either (is_no p.before) None)
underscore-params p (InTyped (OfChain chain) q t) e = cc
underscore-params p _ e = cc

colon-params : (p : Place) (s : Tail) → is_decided s ≡ true → Params (on_colon p (params s))
colon-params p Begin e = params-not _ refl
colon-params p (AtName id b) e = params-some (InTyped (OfName id) p type_begun) refl
colon-params p (AtWild q) e = params-some (InTyped (OfWild q) p type_begun) refl
colon-params p (InTyped (OfName i) q t) e = params-not _ refl
colon-params p (InTyped (OfWild i) q t) e = params-not _ refl
colon-params p (InTyped (OfChain chain) q t) e = cc
colon-params p _ e = cc

dot-params : (p : Place) (s : Tail) → is_decided s ≡ true → on_dot p s (params s) ≡ None
dot-params p Begin e = refl
dot-params p (AtName id b) e = refl
dot-params p (AtWild q) e = refl
dot-params p (InTyped (OfName i) q t) e = refl
dot-params p (InTyped (OfWild i) q t) e = refl
dot-params p (InTyped (OfChain chain) q t) e = cc
dot-params p _ e = cc

square-params : (o : Place) (s : Tail) → is_decided s ≡ true → squared o (params s) (operand_at s) ≡ None
square-params o Begin e = refl
square-params o (AtName id b) e = refl
square-params o (AtWild q) e = refl
square-params o (InTyped (OfName i) q t) e = refl
square-params o (InTyped (OfWild i) q t) e = refl
square-params o (InTyped (OfChain chain) q t) e = cc
square-params o _ e = cc

waiting-params : (o : Place) (s : Tail) → is_decided s ≡ true → waiting_bracket o s ≡ None
waiting-params o Begin e = refl
waiting-params o (AtName id b) e = refl
waiting-params o (AtWild q) e = refl
waiting-params o (InTyped (OfName i) q t) e = refl
waiting-params o (InTyped (OfWild i) q t) e = refl
waiting-params o (InTyped (OfChain chain) q t) e = cc
waiting-params o _ e = cc

opened-params : (o : Place) (fs : List Frame) (s : Tail) → is_decided s ≡ true → opened o fs (params s) ≡ None
opened-params o fs s e =
    ap (λ b. if b then opened_with (Some (GroupBracket o [] (may_head (params s)))) fs (params s) else opened_with (waiting_bracket o s) fs (params s)) (no-stand s o.before)
    ∙ ap (λ v. opened_with v fs (params s)) (waiting-params o s e)

-- ---- words

no-tried : (o : Option Expr) (p : Place) → finished p limit.Param (tried [] o) ≡ None
no-tried None p = refl
no-tried (Some body) p = refl

taken-params : (w : Word) (p : Place) (s : Tail) → is_decided s ≡ true → taken w p (params s) ≡ None
taken-params word.Finally p Begin e = refl
taken-params word.Finally p (AtName id b) e = refl
taken-params word.Finally p (AtWild q) e = refl
taken-params word.Finally p (InTyped of q t) e = no-tried (innermost (params (InTyped of q t))) p
taken-params word.Finally p _ e = cc
taken-params _ p s e = refl

no-begin : (s : Tail) → may_begin (params s) ≡ false
no-begin s = ap (λ b. b && false) (no-stand s No)

word-params : (w : Word) (p : Place) (s : Tail) → is_decided s ≡ true → word_at w p (params s) ≡ None
word-params word.Match p Begin e = refl
word-params word.Match p (AtName id b) e = refl
word-params word.Match p (AtWild q) e = refl
word-params word.Match p (InTyped of q t) e = refl
word-params word.Match p _ e = cc
word-params word.Yield p s e = ap (λ b. if b then derived.yielding p [] (params s) else None) (no-begin s)
word-params word.This p s e = ap (λ b. when b (at (params s) (derived.prim_word word.This p))) (no-stand s p.before)
word-params word.Super p s e = ap (λ b. when b (at (params s) (derived.prim_word word.Super p))) (no-stand s p.before)
word-params word.New p s e = ap (λ b. when b (at (params s) (derived.prim_word word.New p))) (no-stand s p.before)
word-params w p s e = ap (λ b. if b then derived.begun_with w p (params s) else None) (no-begin s)

-- ---- no generator is around

pub no-next : (fs : List Frame) (c : Context) (n : Newline) → in_gens fs ≡ false → next_generator fs c n ≡ None
no-next [] c n e = refl
no-next (f ∷ fs) c n e = go f.bracket e where
  go : (b : Bracket) → is_gens b ≡ false → next_by b f.outer c n fs ≡ None
  go (GensBracket w o dones part) e = cc
  go _ e = refl

no-guard : (p : Place) (fs : List Frame) (c : Context) → in_gens fs ≡ false → guarded p fs c ≡ None
no-guard p [] c e = refl
no-guard p (f ∷ fs) c e = go f.bracket e where
  go : (b : Bracket) → is_gens b ≡ false → guarded_by b p f.outer c fs ≡ None
  go (GensBracket w o dones part) e = cc
  go _ e = refl

on-word-params : (w : Word) (p : Place) (fs : List Frame) (s : Tail) → is_decided s ≡ true → in_gens fs ≡ false → on_word w p fs (params s) ≡ None
on-word-params w p fs s e g =
    ap (λ o. or_else (if is_if w then o else None) rest) (no-guard p fs (params s) g)
    ∙ ap (λ o. or_else o rest) (either (is_if w) None)
    ∙ ap (λ o. in_state fs (or_else o (word_at w p (params s)))) (taken-params w p s e)
    ∙ ap (in_state fs) (word-params w p s e)
  where
    rest : Option State
    rest = in_state fs (or_else (taken w p (params s)) (word_at w p (params s)))

semicolon-params : (p : Place) (fs : List Frame) (s : Tail) → in_gens fs ≡ false → on_semicolon p fs (params s) ≡ None
semicolon-params p fs s g = ap (λ b. if b && true then derived.semi_at p true s (params s) else None) g

-- ---- one token

-- the state is of a parameter, in the same brackets
abbrev pub AllParams : List Frame → Option State → Type 0
AllParams fs o = (t : State) → o ≡ Some t → (s : Tail) × (t ≡ state fs (params s)) × (is_param_tail s ≡ true)

not-any : (fs : List Frame) (o : Option State) → o ≡ None → AllParams fs o
not-any fs o n t e = (let no : None ≡ Some t = sym n ∙ e in cc)

in-params : (fs : List Frame) (o : Option Context) → Params o → AllParams fs (in_state fs o)
in-params fs None k t e = cc
in-params fs (Some d) k t e = (let r = k d refl in let same : state fs d ≡ t = cc in (r.0, sym same ∙ ap (state fs) r.1, r.2))

abbrev pub ends_param : Seen → Bool
ends_param (AComma p) = true
ends_param (ClosesRound p) = true
ends_param _ = false

pub moved-params : (y : Seen) (fs : List Frame) (s : Tail) → is_decided s ≡ true → in_gens fs ≡ false → ends_param y ≡ false → AllParams fs (moved y fs (params s))
moved-params (AnId id) fs s e g n = in-params fs (on_id id (params s)) (id-params id s e)
moved-params (ANumber m) fs s e g n = not-any fs _ (ap (in_state fs) (number-params m s e))
moved-params (ALiteral l) fs s e g n = not-any fs _ (ap (in_state fs) (literal-params l s))
moved-params (AnUnderscore p) fs s e g n = in-params fs (on_underscore p (params s)) (underscore-params p s e)
moved-params (AColon p) fs s e g n = in-params fs (on_colon p (params s)) (colon-params p s e)
moved-params (AnEquals p) fs s e g n = not-any fs _ refl
moved-params (AnArrow a) fs s e g n = not-any fs _ refl
moved-params (ADot p) fs s e g n = not-any fs _ (ap (in_state fs) (dot-params p s e))
moved-params (AComma p) fs s e g n = cc
moved-params (ASemicolon p) fs s e g n = not-any fs _ (ap (in_state fs) (semicolon-params p fs s g))
moved-params (OpensRound p) fs s e g n = not-any fs _ (opened-params p fs s e)
moved-params (ClosesRound p) fs s e g n = cc
moved-params (OpensSquare p) fs s e g n = not-any fs _ (ap (in_state fs) (square-params p s e))
moved-params (AWord w p) fs s e g n = not-any fs _ (on-word-params w p fs s e g)
moved-params _ fs s e g n = not-any fs _ refl

-- ---- what an item decides

-- it is the parameter still, and no sign
pub record ParamDecided (d : Context) : Type 0 where
  pub tail : Tail
  pub is : d ≡ params tail
  pub decided : is_decided tail ≡ true

as-name : {A : Type 0} (a b : Bool) (x y : A) → (if not (a && (b && false)) then x else y) ≡ x
as-name true true x y = refl
as-name true false x y = refl
as-name false b x y = refl

pub param-decided : (s : Tail) (y : Symbol) (n : Newline) → is_param_tail s ≡ true → ParamDecided (decided_at s (params s) y n)
param-decided Begin y n e = record { tail = Begin; is = refl; decided = refl }
param-decided (AtSign id) y n e = record { tail = AtName id true; is = as-name (is_no n) (begins_prim y) _ _; decided = refl }
param-decided (AtName id b) y n e = record { tail = AtName id b; is = refl; decided = refl }
param-decided (AtWild p) y n e = record { tail = AtWild p; is = refl; decided = refl }
param-decided (InTyped (OfName id) p t) y n e = record { tail = InTyped (OfName id) p t; is = refl; decided = refl }
param-decided (InTyped (OfWild q) p t) y n e = record { tail = InTyped (OfWild q) p t; is = refl; decided = refl }
param-decided (InTyped (OfChain chain) p t) y n e = cc
param-decided _ y n e = cc

-- outside generators it is moved on
pub token-params : (y : Seen) (x : Lexeme) (fs : List Frame) (s : Tail) → is_decided s ≡ true → in_gens fs ≡ false → token_at s y x fs (params s) ≡ moved y fs (params s)
token-params y x fs s e g = go s e where
  on : (b : Bool) (s : Tail) → (if b && derived.is_some (next_generator fs (params s) x.place.before) then derived.begun_pattern (next_generator fs (params s) x.place.before) y x else moved y fs (params s)) ≡ moved y fs (params s)
  on true s = ap (λ o. if derived.is_some o then derived.begun_pattern o y x else moved y fs (params s)) (no-next fs (params s) x.place.before g)
  on false s = refl

  go : (s : Tail) → is_decided s ≡ true → token_at s y x fs (params s) ≡ moved y fs (params s)
  go Begin e = on (derived.begins_pattern y) Begin
  go (AtName id b) e = on (derived.begins_pattern y) (AtName id b)
  go (AtWild p) e = on (derived.begins_pattern y) (AtWild p)
  go (InTyped of p t) e = on (derived.begins_pattern y) (InTyped of p t)
  go (derived.InPattern p) e = cc
  go (derived.InTypes prim o dones t) e = cc
  go (derived.AtDot prim p) e = cc
  go _ e = cc

-- ---- types, and braces

pub type-params : (s : Tail) (x : Lexeme) (t : Tail) → is_param_tail s ≡ true → in_type limit.Param s x ≡ Some t → is_param_tail t ≡ true
type-params (InTyped (OfName id) p u) x t e f = go (types.step u x) f where
  go : (o : Option types.State) → typed_type (OfName id) p o ≡ Some t → is_param_tail t ≡ true
  go None g = cc
  go (Some v) g = (let same : InTyped (OfName id) p v ≡ t = cc in ap is_param_tail (sym same))
type-params (InTyped (OfWild q) p u) x t e f = go (types.step u x) f where
  go : (o : Option types.State) → typed_type (OfWild q) p o ≡ Some t → is_param_tail t ≡ true
  go None g = cc
  go (Some v) g = (let same : InTyped (OfWild q) p v ≡ t = cc in ap is_param_tail (sym same))
type-params (InTyped (OfChain chain) p u) x t e f = cc
type-params (derived.InNew w u) x t e f = cc
type-params (derived.InTypes prim o dones u) x t e f = cc
type-params _ x t e f = cc

pub pair-params : (s : Tail) (n : Newline) (i : Item) → is_decided s ≡ true → decided_pair (params s) n i ≡ None
pair-params Begin n i e = refl
pair-params (AtName id true) n i e = refl
pair-params (AtName id false) n i e = refl
pair-params (AtWild p) n i e = refl
pair-params (InTyped of p t) n i e = refl
pair-params _ n i e = cc
