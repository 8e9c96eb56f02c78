-- A token with which neither an operand nor an expression begins finds what was read before it as it is: it goes on with no type, and takes no name.
use Rattle.std.proofs.Common.{◌≡◌, Bool, true, false, ◌&&◌, if◌then◌else◌, List, [], ◌∷◌, Option, Some, None, refl, ap, sym, ◌∙◌}
use Rattle.std.specs.Prelude.{not}
use Rattle.scan_tokens.specs.declared.tokens.Newline.{Newline}
use Rattle.source_grammar.specs.Expressions.{Expr, Prim, SelectHole}
use Rattle.source_grammar.specs.Lexemes.{Place, Lexeme, close_round, comma, semicolon}
use Rattle.source_grammar.specs.Types.{WrittenType, SimpleType}
use Rattle.parse_parts.proofs.Derived as types
use Rattle.parse_parts.proofs.Seen as type_seen
use Rattle.parse_patterns.specs.Steps.{is_no}
use Rattle.parse_patterns.proofs.SimpleTypes.{goes, leaves}
use Rattle.expr_tails.specs.declared.states.Limit.{Limit}
use Rattle.expr_tails.specs.declared.states.Limit.TheVariants as limit
use Rattle.expr_tails.specs.declared.symbols.Symbol.{Symbol}
use Rattle.expr_tails.specs.declared.symbols.Symbol.TheVariants as symbol
use Rattle.expr_tails.specs.Symbols.{symbol_of, begins_prim, begins_expr}
use Rattle.expr_laws.proofs.Derived.{OneToken, Tail, AtSign, AtName, AtPrim, AtDot, InNew, InTypes, InTyped, AtReturn, InPattern, Head, Frame, Context, type_read, type_of, Dotted, dotted_read, dotted_of, dotted_prim, chain_of, typed_expr, infix_expr, innermost, headed_all, is_some, is_param_limit, is_id, waits, at, state, new_tail, decided_at, goes_on, new_type, typed_type, in_type, ended_expr, next_generator, begins_pattern, begun_pattern, moved, parted, closed, in_state, on_semicolon, token_at, step}
use Rattle.expr_laws.proofs.Moving.{token-step}
use Rattle.expr_laws.proofs.Seen.{Seen, AComma, ASemicolon, ClosesRound, seen, seen-comma, seen-semicolon, seen-close_round}

-- ---- the tail

-- the tail that such a token finds
abbrev pub settled_tail : Tail → Tail
settled_tail (AtSign id) = AtName id true
settled_tail (InNew word t) = new_tail word t (type_of t) (dotted_of t)
settled_tail (AtDot prim point) = AtPrim (SelectHole prim point)
settled_tail tail = tail

abbrev pub settled : Context → Context
settled c = at c (settled_tail c.tail)

unless-begun : {A : Type 0} (n b q : Bool) (x y : A) → b ≡ false → (if not (n && (b && q)) then x else y) ≡ x
unless-begun n true q x y e = cc
unless-begun true false q x y e = refl
unless-begun false false q x y e = refl

unless-both : {A : Type 0} (n b : Bool) (x y : A) → b ≡ false → (if n && b then x else y) ≡ y
unless-both n true x y e = cc
unless-both true false x y e = refl
unless-both false false x y e = refl

pub settles : (c : Context) (s : Tail) (y : Symbol) (before : Newline) → is_id y ≡ false → begins_prim y ≡ false → begins_expr y ≡ false
    → decided_at s (at c s) y before ≡ at c (settled_tail s)
settles c (AtSign id) y before i p e = unless-begun (is_no before) (begins_prim y) (not (is_param_limit c.limit)) (at c (AtName id true)) _ p
settles c (AtDot prim point) y before i p e = ap (λ b. if b then at c (AtDot prim point) else at c (AtPrim (SelectHole prim point))) i
settles c (AtReturn word) y before i p e = unless-both (is_no before) (begins_expr y) _ (at c (AtReturn word)) e
settles c _ y before i p e = refl

-- ---- the expression

-- a path with a `.` behind it is no type yet
pub not-both : (t : types.State) (type : WrittenType) (d : Dotted) → type_of t ≡ Some type → dotted_of t ≡ Some d → ⊥
not-both t type d f g = go t.frames t.tail f g where
  go : (fs : List types.Frame) (s : types.Tail) → type_read fs t.heads (types.simple_of s) ≡ Some type → dotted_read fs t.heads s ≡ Some d → ⊥
  go [] (types.AtDot path point) f g = cc
  go [] _ f g = cc
  go (k ∷ fs) s f g = cc

-- the innermost expression is the same
pub settled-innermost : (c : Context) (s : Tail) (e : Expr) → innermost (at c s) ≡ Some e → innermost (at c (settled_tail s)) ≡ Some e
settled-innermost c (InNew word t) e h = go (type_of t) (dotted_of t) refl refl h where
  go : (o : Option WrittenType) (p : Option Dotted) → type_of t ≡ o → dotted_of t ≡ p → infix_expr (chain_of c.operations c.sign (dotted_prim word p o)) ≡ Some e
      → innermost (at c (new_tail word t o p)) ≡ Some e
  go (Some type) (Some d) f g h = absurd (not-both t type d f g)
  go (Some type) None f g h = h
  go None (Some d) f g h = h
  go None None f g h = cc
settled-innermost c _ e h = h

none-headed : (hs : List Head) → headed_all hs None ≡ None
none-headed [] = refl
none-headed (k ∷ hs) = refl

-- so is that with all heads
pub settled-ended : (c : Context) (s : Tail) (e : Expr) → ended_expr (at c s) ≡ Some e → ended_expr (at c (settled_tail s)) ≡ Some e
settled-ended c s e h = go (waits c.heads) (innermost (at c s)) refl h where
  go : (w : Bool) (o : Option Expr) → innermost (at c s) ≡ o → (if w then None else headed_all c.heads o) ≡ Some e
      → (if w then None else headed_all c.heads (innermost (at c (settled_tail s)))) ≡ Some e
  go true o f g = cc
  go false None f g = (let gone : None ≡ Some e = sym (none-headed c.heads) ∙ g in cc)
  go false (Some body) f g = ap (headed_all c.heads) (settled-innermost c s body f) ∙ g

-- an expression that ends has an innermost one
pub ended-innermost : (c : Context) (e : Expr) → ended_expr c ≡ Some e → is_some (innermost c) ≡ true
ended-innermost c e h = go (waits c.heads) c.heads (innermost c) h where
  go : (w : Bool) (hs : List Head) (o : Option Expr) → (if w then None else headed_all hs o) ≡ Some e → is_some o ≡ true
  go true hs o g = cc
  go false hs (Some body) g = refl
  go false [] None g = cc
  go false (k ∷ hs) None g = cc

-- ---- types

-- a token that goes on with no type outside brackets
abbrev pub NoType : Lexeme → Type 0
NoType x = (t : types.State) → t.frames ≡ [] → types.step t x ≡ None

goes-none : (b : Bool) → goes b None ≡ None
goes-none true = refl
goes-none false = refl

pub none-on : (x : Lexeme) (l : Limit) (t : types.State) → types.step t x ≡ None → goes_on l t x ≡ None
none-on x limit.CaseGuard t e = ap (goes (leaves (type_seen.seen x) t.frames t.tail)) e ∙ goes-none (leaves (type_seen.seen x) t.frames t.tail)
none-on x _ t e = e

new-frames : (word : Place) (t : types.State) → is_some (dotted_prim word (dotted_of t) (type_of t)) ≡ true → t.frames ≡ []
new-frames word t e = go t.frames e where
  go : (fs : List types.Frame) → is_some (dotted_prim word (dotted_read fs t.heads t.tail) (type_read fs t.heads (types.simple_of t.tail))) ≡ true → fs ≡ []
  go [] e = refl
  go (k ∷ fs) e = cc

pub type-frames : (t : types.State) (type : WrittenType) → type_of t ≡ Some type → t.frames ≡ []
type-frames t type e = go t.frames (types.simple_of t.tail) e where
  go : (fs : List types.Frame) (o : Option SimpleType) → type_read fs t.heads o ≡ Some type → fs ≡ []
  go [] o e = refl
  go (k ∷ fs) o e = cc

pub stays-out : (x : Lexeme) → NoType x → (c : Context) (s : Tail) → is_some (innermost (at c s)) ≡ true → in_type c.limit s x ≡ None
stays-out x ends c (InNew word t) h = go (dotted_prim word (dotted_of t) (type_of t)) refl h where
  go : (o : Option Prim) → dotted_prim word (dotted_of t) (type_of t) ≡ o → is_some (infix_expr (chain_of c.operations c.sign o)) ≡ true → new_type word (goes_on c.limit t x) ≡ None
  go None f g = cc
  go (Some prim) f g = ap (new_type word) (none-on x c.limit t (ends t (new-frames word t (ap is_some f))))
stays-out x ends c (InTypes prim o done t) h = cc
stays-out x ends c (InTyped of point t) h = go (type_of t) refl h where
  go : (o : Option WrittenType) → type_of t ≡ o → is_some (typed_expr of point o) ≡ true → typed_type of point (types.step t x) ≡ None
  go None f g = cc
  go (Some type) f g = ap (typed_type of point) (ends t (type-frames t type f))
stays-out x ends c _ h = refl

-- ---- the step

abbrev pub is_settled_plain : Tail → Bool
is_settled_plain (InPattern p) = false
is_settled_plain (InTypes prim o done t) = false
is_settled_plain _ = true

pub settled-plain : (c : Context) (s : Tail) → is_some (innermost (at c s)) ≡ true → is_settled_plain (settled_tail s) ≡ true
settled-plain c (InPattern p) h = cc
settled-plain c (InTypes prim o done t) h = cc
settled-plain c (InNew word t) h = go (type_of t) (dotted_of t) where
  go : (o : Option WrittenType) (p : Option Dotted) → is_settled_plain (new_tail word t o p) ≡ true
  go (Some type) p = refl
  go None (Some d) = refl
  go None None = refl
settled-plain c _ h = refl

-- outside patterns and types
pub token-moves : (s : Tail) (y : Seen) (x : Lexeme) (fs : List Frame) (c : Context) → is_settled_plain s ≡ true → begins_pattern y ≡ false → token_at s y x fs c ≡ moved y fs c
token-moves (InPattern p) y x fs c h b = cc
token-moves (InTypes prim o done t) y x fs c h b = cc
token-moves (AtDot prim point) y x fs c h b = refl
token-moves _ y x fs c h b =
    ap (λ k. if k && is_some (next_generator fs c x.place.before) then begun_pattern (next_generator fs c x.place.before) y x else moved y fs c) b

-- what neither an operand, an expression nor a pattern begins with, nor a type goes on with
pub record Ends (x : Lexeme) (y : Seen) : Type 0 where
  pub kind : Symbol
  pub is : symbol_of x.kind x.word ≡ kind
  pub sees : seen x ≡ y
  pub no_id : is_id kind ≡ false
  pub no_prim : begins_prim kind ≡ false
  pub no_expr : begins_expr kind ≡ false
  pub no_pattern : begins_pattern y ≡ false
  pub no_type : NoType x

pub ended-step : (x : Lexeme) (y : Seen) → Ends x y → (fs : List Frame) (c : Context) → is_some (innermost c) ≡ true → step (state fs c) (OneToken x) ≡ moved y fs (settled c)
ended-step x y k fs c h =
    token-step x y k.kind fs c (settled c) (stays-out x k.no_type c c.tail h) k.sees k.is (settles c c.tail k.kind x.place.before k.no_id k.no_prim k.no_expr)
    ∙ token-moves (settled_tail c.tail) y x fs (settled c) (settled-plain c c.tail h) k.no_pattern

-- ---- the tokens

pub comma-no-type : (p : Place) → NoType (comma p)
comma-no-type p t e = ap (λ fs. types.parted p (types.simple_of t.tail) t.heads fs) e ∙ go (types.simple_of t.tail) where
  go : (o : Option SimpleType) → types.parted p o t.heads [] ≡ None
  go None = refl
  go (Some simple) = refl

pub close-no-type : (p : Place) → NoType (close_round p)
close-no-type p t e = ap (λ fs. types.round_ended p t.tail t.heads fs) e

pub comma-ends : (p : Place) → Ends (comma p) (AComma p)
unfolding symbol_of
comma-ends p = record {
  kind = symbol.Comma;
  is = refl;
  sees = seen-comma p;
  no_id = refl;
  no_prim = refl;
  no_expr = refl;
  no_pattern = refl;
  no_type = comma-no-type p;
}

pub close-ends : (p : Place) → Ends (close_round p) (ClosesRound p)
unfolding symbol_of
close-ends p = record {
  kind = symbol.CloseRound;
  is = refl;
  sees = seen-close_round p;
  no_id = refl;
  no_prim = refl;
  no_expr = refl;
  no_pattern = refl;
  no_type = close-no-type p;
}

pub semicolon-ends : (p : Place) → Ends (semicolon p) (ASemicolon p)
unfolding symbol_of
semicolon-ends p = record {
  kind = symbol.Semicolon;
  is = refl;
  sees = seen-semicolon p;
  no_id = refl;
  no_prim = refl;
  no_expr = refl;
  no_pattern = refl;
  no_type = λ t e. refl;
}

pub comma-step : (p : Place) (fs : List Frame) (c : Context) (e : Expr) → ended_expr c ≡ Some e → step (state fs c) (OneToken (comma p)) ≡ parted p fs (settled c)
comma-step p fs c e h = ended-step (comma p) (AComma p) (comma-ends p) fs c (ended-innermost c e h)

pub close-step : (p : Place) (fs : List Frame) (c : Context) (e : Expr) → ended_expr c ≡ Some e → step (state fs c) (OneToken (close_round p)) ≡ closed p fs (settled c)
close-step p fs c e h = ended-step (close_round p) (ClosesRound p) (close-ends p) fs c (ended-innermost c e h)

pub semicolon-step : (p : Place) (fs : List Frame) (c : Context) → is_some (innermost c) ≡ true
    → step (state fs c) (OneToken (semicolon p)) ≡ in_state fs (on_semicolon p fs (settled c))
semicolon-step p fs c h = ended-step (semicolon p) (ASemicolon p) (semicolon-ends p) fs c h
