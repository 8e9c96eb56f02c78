-- The items of a Prim lead to where it was read, where those of its parts do.
use Rattle.std.proofs.Common.{◌≡◌, Bool, true, false, ◌&&◌, ◌||◌, if◌then◌else◌, List, [], ◌∷◌, Some, None, codes, refl, ap, sym, ◌∙◌}
use Rattle.std.specs.Prelude.{not}
use Rattle.scan_tokens.specs.declared.tokens.Newline.{Newline}
use Rattle.scan_tokens.specs.declared.tokens.Newline.TheVariants.{No}
use Rattle.scan_tokens.specs.declared.tokens.TokenKind.TheVariants as kind
use Rattle.source_grammar.specs.Expressions.{Prim, LiteralPrim, MinusPrim, Placeholder, ThisPrim, SuperPrim, NamePrim, BlockPrim, CasesPrim, NewOf, SelectPrim, SelectHole, TypeApplyPrim, EtaPrim, Block, Cases}
use Rattle.source_grammar.specs.ExpressionRules.{is_prefix_id, is_sign_alone, extends_type}
use Rattle.source_grammar.specs.Lexemes.{Place, Lexeme, word_at, open_square, dot, underscore, minus, Id, id_token, Literal, IntLiteral, LongLiteral, CharLiteral, StringLiteral, TrueLiteral, FalseLiteral, NullLiteral, literal_token, literal_place, Number, number_token}
use Rattle.source_grammar.specs.Newlines.{is_near}
use Rattle.source_grammar.specs.Types.{WrittenType, Simple, Named, OfPath, TypeList}
use Rattle.parse_parts.proofs.Derived as types
use Rattle.parse_patterns.specs.Steps.{is_no}
use Rattle.parse_patterns.proofs.Along.{when-true}
use Rattle.expr_tails.specs.declared.states.Limit.{Limit}
use Rattle.expr_tails.specs.declared.states.Limit.TheVariants as limit
use Rattle.expr_tails.specs.declared.symbols.Symbol.{Symbol}
use Rattle.expr_tails.specs.declared.symbols.Symbol.TheVariants as symbol
use Rattle.expr_tails.specs.declared.symbols.Word.TheVariants as word
use Rattle.expr_tails.specs.Symbols.{symbol_of, begins_prim, begins_expr}
use Rattle.expr_laws.proofs.Agreeing.{and-false}
use Rattle.expr_laws.proofs.After.{behind_type, name-there, new-there}
use Rattle.expr_laws.proofs.Behind.{prim-innermost, Quiet, StaysOut, Behind, Fresh, behind-step, quiet-settles, out-type, new-cases, dead-no-next, joined-no-next, settled-operand, settled-not-begin, settled-not-semi, settled-is-plain}
use Rattle.expr_laws.proofs.Derived as derived
use Rattle.expr_laws.proofs.Derived.{OneToken, BlockPair, CasesPair, Tail, Begin, AtSign, AtName, AtWild, AtPrim, AtDot, AtSuper, AtSuperDot, AtNew, InNew, InTypes, AtReturn, Context, Frame, State, type_begun, dotted_of, dotted_prim, type_of, prim_at, is_some, is_first, is_param_limit, is_begin, is_id, may_stand, may_begin_name, named_tail, at, state, in_state, decided_at, sign_decided, goes_on, new_type, or_decided, operand_at, receiver_at, is_before_operator, fits, operated, name_behind, on_id, on_literal, eta, eta_receiver, on_underscore, dotted, on_dot, squared, new_tail, as_prim, at_some, begins_pattern, next_generator, moved, token_at, step}
use Rattle.expr_laws.proofs.GroupsAlong.{PrimEnds}
use Rattle.expr_laws.proofs.Items.{prim_items}
use Rattle.expr_laws.proofs.Moving.{leads-then, leads-on, leads-one, token-step}
use Rattle.expr_laws.proofs.Seen.{Seen, ANumber, ALiteral, AnId, AnUnderscore, ADot, OpensSquare, AWord, seen, seen-id, seen-number, seen-literal, seen-underscore, seen-dot, seen-open_square, seen-word}
use Rattle.expr_laws.proofs.Settling.{settled_tail, token-moves}
use Rattle.expr_laws.proofs.TokenSteps.{if-false, begin-step, id-begins, underscore-begins}
use Rattle.expr_laws.proofs.TypesAlong.{TypeFits, new-leads, types-along, dot-out, square-out, wild-out}

-- ---- where a Prim may stand

pub stands-limit : (c : Context) (n : Newline) → may_stand (at c Begin) n ≡ true → is_param_limit c.limit ≡ false
stands-limit c n h = go (is_param_limit c.limit) (is_first c || (is_some c.sign || is_near n)) h where
  go : (b r : Bool) → (not b && r) ≡ true → b ≡ false
  go true r e = cc
  go false r e = refl

pub stands-name : (c : Context) (n : Newline) → may_stand (at c Begin) n ≡ true → may_begin_name (at c Begin) n ≡ true
stands-name c n h = if-false (is_param_limit c.limit) true (may_stand (at c Begin) n) (stands-limit c n h) ∙ h

-- ---- symbols

pub symbol-id : (id : Id) → symbol_of (id_token id).kind (id_token id).word ≡ symbol.Id
unfolding symbol_of
symbol-id id = go id.quoted where
  go : (b : Bool) → symbol_of (if b then kind.BackId else kind.Id) id.name ≡ symbol.Id
  go true = refl
  go false = refl

pub symbol-number : (n : Number) → symbol_of (number_token n).kind (number_token n).word ≡ symbol.Number
unfolding symbol_of
symbol-number n = go n.is_long where
  go : (b : Bool) → symbol_of (if b then kind.Long else kind.Int) n.text ≡ symbol.Number
  go true = refl
  go false = refl

symbol-dot : (p : Place) → symbol_of (dot p).kind (dot p).word ≡ symbol.Dot
unfolding symbol_of
symbol-dot p = refl

symbol-square : (p : Place) → symbol_of (open_square p).kind (open_square p).word ≡ symbol.OpenSquare
unfolding symbol_of
symbol-square p = refl

symbol-underscore : (p : Place) → symbol_of (underscore p).kind (underscore p).word ≡ symbol.Underscore
unfolding symbol_of
symbol-underscore p = refl

-- ---- one token

literal-step : (l : Literal) (y : Seen) (fs : List Frame) (c : Context) → seen (literal_token l) ≡ y → moved y fs (at c Begin) ≡ in_state fs (on_literal l (at c Begin))
    → may_stand (at c Begin) (literal_place l).before ≡ true → step (state fs (at c Begin)) (OneToken (literal_token l)) ≡ Some (state fs (at c (AtPrim (LiteralPrim l))))
literal-step l y fs c e m h = begin-step (literal_token l) y e fs c ∙ m ∙ ap (in_state fs) (when-true (may_stand (at c Begin) (literal_place l).before) (at c (AtPrim (LiteralPrim l))) h)

literal-reads : (l : Literal) (fs : List Frame) (c : Context) → may_stand (at c Begin) (literal_place l).before ≡ true
    → step (state fs (at c Begin)) (OneToken (literal_token l)) ≡ Some (state fs (at c (AtPrim (LiteralPrim l))))
literal-reads (IntLiteral text p) fs c h =
    let n : Number = record { is_long = false; text = text; place = p } in
    literal-step (IntLiteral text p) (ANumber n) fs c (seen-number n) refl h
literal-reads (LongLiteral text p) fs c h =
    let n : Number = record { is_long = true; text = text; place = p } in
    literal-step (LongLiteral text p) (ANumber n) fs c (seen-number n) refl h
literal-reads (CharLiteral text p) fs c h = literal-step (CharLiteral text p) (ALiteral (CharLiteral text p)) fs c (seen-literal (CharLiteral text p) refl) refl h
literal-reads (StringLiteral text p) fs c h = literal-step (StringLiteral text p) (ALiteral (StringLiteral text p)) fs c (seen-literal (StringLiteral text p) refl) refl h
literal-reads (TrueLiteral p) fs c h = literal-step (TrueLiteral p) (ALiteral (TrueLiteral p)) fs c (seen-literal (TrueLiteral p) refl) refl h
literal-reads (FalseLiteral p) fs c h = literal-step (FalseLiteral p) (ALiteral (FalseLiteral p)) fs c (seen-literal (FalseLiteral p) refl) refl h
literal-reads (NullLiteral p) fs c h = literal-step (NullLiteral p) (ALiteral (NullLiteral p)) fs c (seen-literal (NullLiteral p) refl) refl h

pub literal-along : (l : Literal) (c : Context) → may_stand (at c Begin) (literal_place l).before ≡ true → PrimEnds (prim_items (LiteralPrim l)) (LiteralPrim l) c
literal-along l c h = record { tail = AtPrim (LiteralPrim l); leads = λ fs. leads-one (OneToken (literal_token l)) _ _ (literal-reads l fs c h); there = refl; named = tt }

abbrev pub minus_id : Place → Id
minus_id p = record { name = codes "-"; quoted = false; place = p }

minus-number : (p : Place) (n : Number) (fs : List Frame) (c : Context) → is_param_limit c.limit ≡ false → n.place.before ≡ No
    → step (state fs (at c (AtSign (minus_id p)))) (OneToken (number_token n)) ≡ Some (state fs (at c (AtPrim (MinusPrim p n))))
minus-number p n fs c l e =
    token-step (number_token n) (ANumber n) symbol.Number fs (at c (AtSign (minus_id p))) (at c (AtSign (minus_id p))) refl (seen-number n) (symbol-number n)
    (ap (λ k. sign_decided (at c (AtSign (minus_id p))) (minus_id p) symbol.Number k) e
    ∙ ap (λ b. if not (true && (true && not b)) then at c (AtName (minus_id p) true) else at c (AtSign (minus_id p))) l)

pub minus-along : (p : Place) (n : Number) (c : Context) → may_stand (at c Begin) p.before ≡ true → n.place.before ≡ No → PrimEnds (prim_items (MinusPrim p n)) (MinusPrim p n) c
minus-along p n c h e = record {
  tail = AtPrim (MinusPrim p n);
  leads = λ fs.
      leads-on (OneToken (minus p)) _ _ (state fs (at c (AtSign (minus_id p)))) _ (id-begins (minus_id p) fs c (stands-name c p.before h))
      (leads-one (OneToken (number_token n)) _ _ (minus-number p n fs c (stands-limit c p.before h) e));
  there = refl;
  named = tt;
}

pub wild-along : (p : Place) (c : Context) → may_stand (at c Begin) p.before ≡ true → PrimEnds (prim_items (Placeholder p)) (Placeholder p) c
wild-along p c h = record {
  tail = AtWild p;
  leads = λ fs. leads-one (OneToken (underscore p)) _ _ (underscore-begins p fs c (stands-name c p.before h));
  there = refl;
  named = tt;
}

named-fresh : (id : Id) → Fresh (named_tail id)
named-fresh id = go (is_prefix_id id) refl where
  go : (b : Bool) → is_prefix_id id ≡ b → Fresh (if b then AtSign id else AtName id false)
  go true e = e
  go false e = (refl, e)

pub name-along : (id : Id) (c : Context) → may_stand (at c Begin) id.place.before ≡ true → PrimEnds (prim_items (NamePrim id)) (NamePrim id) c
name-along id c h = record {
  tail = named_tail id;
  leads = λ fs. leads-one (OneToken (id_token id)) _ _ (id-begins id fs c (stands-name c id.place.before h));
  there = name-there id;
  named = named-fresh id;
}

pub this-along : (p : Place) (c : Context) → may_stand (at c Begin) p.before ≡ true → PrimEnds (prim_items (ThisPrim p)) (ThisPrim p) c
this-along p c h = record {
  tail = AtPrim (ThisPrim p);
  leads = λ fs. leads-one (OneToken (word_at (codes "this") p)) _ _
      (begin-step (word_at (codes "this") p) (AWord word.This p) (seen-word word.This p) fs c
      ∙ ap (in_state fs) (when-true (may_stand (at c Begin) p.before) (at c (AtPrim (ThisPrim p))) h));
  there = refl;
  named = tt;
}

-- ---- `super`

pub not-name : (c : Context) (s : Tail) (n : Newline) → is_begin s ≡ false → may_begin_name (at c s) n ≡ false
not-name c s n h = go (is_param_limit c.limit) where
  go : (b : Bool) → (if b then is_begin s else may_stand (at c s) n) ≡ false
  go true = h
  go false = ap (λ b. b && (not (is_param_limit c.limit) && (is_first c || (is_some c.sign || is_near n)))) h

-- a name behind a `.`
dotted-name : (id : Id) (c : Context) (s t : Tail) → is_begin s ≡ false → is_before_operator s ≡ false → name_behind id s (at c s) ≡ Some (at c t) → on_id id (at c s) ≡ Some (at c t)
dotted-name id c s t b o e =
    if-false (may_begin_name (at c s) id.place.before) (Some (at c (named_tail id))) _ (not-name c s id.place.before b)
    ∙ ap (λ k. if k && (is_no id.place.before && (not (is_param_limit c.limit) && fits c.operations id)) then operated (at c s) id (prim_at s) else name_behind id s (at c s)) o ∙ e

pub id-behind : (id : Id) (fs : List Frame) (c : Context) (prim : Prim) (p : Place) → step (state fs (at c (AtDot prim p))) (OneToken (id_token id)) ≡ Some (state fs (at c (AtPrim (SelectPrim prim p id))))
id-behind id fs c prim p =
    token-step (id_token id) (AnId id) symbol.Id fs (at c (AtDot prim p)) (at c (AtDot prim p)) refl (seen-id id) (symbol-id id) refl
    ∙ ap (in_state fs) (dotted-name id c (AtDot prim p) (AtPrim (SelectPrim prim p id)) refl refl refl)

pub super-named : (id : Id) (fs : List Frame) (c : Context) (w p : Place) → step (state fs (at c (AtSuperDot w p))) (OneToken (id_token id)) ≡ Some (state fs (at c (AtPrim (SuperPrim w p id))))
super-named id fs c w p =
    behind-step (AtSuperDot w p) (id_token id) (AnId id)
    (record { kind = symbol.Id; is = symbol-id id; sees = seen-id id; out = tt; quiet = tt; plain = refl }) fs c (dead-no-next fs c (AtSuperDot w p) id.place.before refl refl refl)
    ∙ ap (in_state fs) (dotted-name id c (AtSuperDot w p) (AtPrim (SuperPrim w p id)) refl refl refl)

pub super-along : (w p : Place) (id : Id) (c : Context) → may_stand (at c Begin) w.before ≡ true → PrimEnds (prim_items (SuperPrim w p id)) (SuperPrim w p id) c
super-along w p id c h = record {
  tail = AtPrim (SuperPrim w p id);
  leads = λ fs.
      leads-on (OneToken (word_at (codes "super") w)) _ _ (state fs (at c (AtSuper w))) _
      (begin-step (word_at (codes "super") w) (AWord word.Super w) (seen-word word.Super w) fs c ∙ ap (in_state fs) (when-true (may_stand (at c Begin) w.before) (at c (AtSuper w)) h))
      (leads-on (OneToken (dot p)) _ _ (state fs (at c (AtSuperDot w p))) _
      (token-step (dot p) (ADot p) symbol.Dot fs (at c (AtSuper w)) (at c (AtSuper w)) refl (seen-dot p) (symbol-dot p) refl)
      (leads-one (OneToken (id_token id)) _ _ (super-named id fs c w p)));
  there = refl;
  named = tt;
}

-- ---- braces

pub block-along : (o : Place) (block : Block) (k : Place) (c : Context) → may_stand (at c Begin) o.before ≡ true → PrimEnds (prim_items (BlockPrim o block k)) (BlockPrim o block k) c
block-along o block k c h = record {
  tail = AtPrim (BlockPrim o block k);
  leads = λ fs. leads-one (BlockPair o block k) _ _ (ap (λ b. in_state fs (at_some (at c Begin) (if b then Some (AtPrim (BlockPrim o block k)) else None))) h);
  there = refl;
  named = tt;
}

pub cases-along : (o : Place) (cases : Cases) (k : Place) (c : Context) → may_stand (at c Begin) o.before ≡ true → PrimEnds (prim_items (CasesPrim o cases k)) (CasesPrim o cases k) c
cases-along o cases k c h = record {
  tail = AtPrim (CasesPrim o cases k);
  leads = λ fs. leads-one (CasesPair o cases k) _ _ (ap (λ b. in_state fs (at_some (at c Begin) (if b then Some (AtPrim (CasesPrim o cases k)) else None))) h);
  there = refl;
  named = tt;
}

-- ---- `new`

pub new-begins : (w : Place) (fs : List Frame) (c : Context) → may_stand (at c Begin) w.before ≡ true
    → step (state fs (at c Begin)) (OneToken (word_at (codes "new") w)) ≡ Some (state fs (at c (InNew w type_begun)))
new-begins w fs c h =
    begin-step (word_at (codes "new") w) (AWord word.New w) (seen-word word.New w) fs c ∙ ap (in_state fs) (when-true (may_stand (at c Begin) w.before) (at c (InNew w type_begun)) h)

pub new-along : (w : Place) (type : WrittenType) (c : Context) → may_stand (at c Begin) w.before ≡ true → TypeFits c.limit type → PrimEnds (prim_items (NewOf w type)) (NewOf w type) c
new-along w type c h fit = record {
  tail = InNew w (behind_type type);
  leads = λ fs. leads-on (OneToken (word_at (codes "new") w)) _ _ (state fs (at c (InNew w type_begun))) _ (new-begins w fs c h) (new-leads w type c fs fit);
  there = new-there w type;
  named = tt;
}

-- ---- behind a Prim

-- a token with which nothing begins
pub quiet-symbol : (s : Tail) (k : Symbol) (n : Newline) → is_id k ≡ false → begins_prim k ≡ false → begins_expr k ≡ false → Quiet s k n
quiet-symbol (AtSign id) k n i p e = ap (λ b. is_no n && b) p ∙ and-false (is_no n)
quiet-symbol (AtDot prim point) k n i p e = i
quiet-symbol (AtReturn w) k n i p e = ap (λ b. is_no n && b) e ∙ and-false (is_no n)
quiet-symbol _ k n i p e = tt

dot-behind : (s : Tail) (d : Prim) (p : Place) → prim_at s ≡ Some d → StaysOut s (dot p) → Behind s (dot p) (ADot p)
dot-behind s d p e o = record {
  kind = symbol.Dot;
  is = symbol-dot p;
  sees = seen-dot p;
  out = o;
  quiet = quiet-symbol s symbol.Dot p.before refl refl refl;
  plain = settled-is-plain s d e;
}

-- where no pattern begins with the token
pub plain-step : (s : Tail) (x : Lexeme) (y : Seen) → Behind s x y → begins_pattern y ≡ false → (fs : List Frame) (c : Context)
    → step (state fs (at c s)) (OneToken x) ≡ moved y fs (at c (settled_tail s))
plain-step s x y b h fs c =
    token-step x y b.kind fs (at c s) (at c (settled_tail s)) (out-type c.limit s x b.out) b.sees b.is (quiet-settles c s b.kind x.place.before b.quiet)
    ∙ token-moves (settled_tail s) y x fs (at c (settled_tail s)) b.plain h

on-dot-is : (p : Place) (s : Tail) (c : Context) (d : Prim) → operand_at s ≡ Some d → on_dot p s c ≡ dotted p c (Some d)
on-dot-is p (AtSuper w) c d e = cc
on-dot-is p _ c d e = ap (dotted p c) e

pub dot-step : (s : Tail) (d : Prim) (p : Place) (fs : List Frame) (c : Context) → prim_at s ≡ Some d → StaysOut s (dot p) → is_param_limit c.limit ≡ false
    → step (state fs (at c s)) (OneToken (dot p)) ≡ Some (state fs (at c (AtDot d p)))
dot-step s d p fs c e o l =
    plain-step s (dot p) (ADot p) (dot-behind s d p e o) refl fs c
    ∙ ap (in_state fs) (on-dot-is p (settled_tail s) (at c (settled_tail s)) d (settled-operand s d e))
    ∙ ap (λ b. in_state fs (if b then None else Some (at c (AtDot d p)))) l

pub select-along : (d : Prim) (p : Place) (id : Id) (c : Context) → is_param_limit c.limit ≡ false → extends_type d ≡ false → PrimEnds (prim_items d) d c
    → PrimEnds (prim_items (SelectPrim d p id)) (SelectPrim d p id) c
select-along d p id c l x r = record {
  tail = AtPrim (SelectPrim d p id);
  leads = λ fs.
      leads-then (prim_items d) _ _ (state fs (at c r.tail)) _ (r.leads fs)
      (leads-on (OneToken (dot p)) _ _ (state fs (at c (AtDot d p))) _ (dot-step r.tail d p fs c r.there (dot-out r.tail d p r.there x) l)
      (leads-one (OneToken (id_token id)) _ _ (id-behind id fs c d p)));
  there = refl;
  named = tt;
}

-- a `.` behind what goes on as a type, or as a selection
record HoleAt (s : Tail) (d : Prim) (p : Place) (c : Context) : Type 0 where
  tail : Tail
  steps : (fs : List Frame) → step (state fs (at c s)) (OneToken (dot p)) ≡ Some (state fs (at c tail))
  there : prim_at tail ≡ Some (SelectHole d p)
  named : Fresh tail

goes-dot : (l : Limit) (t v : types.State) (p : Place) → types.step t (dot p) ≡ Some v → goes_on l t (dot p) ≡ Some v
goes-dot limit.CaseGuard t v p e = e
goes-dot _ t v p e = e

hole-selected : (s : Tail) (d : Prim) (p : Place) (c : Context) → is_param_limit c.limit ≡ false → prim_at s ≡ Some d → StaysOut s (dot p) → HoleAt s d p c
hole-selected s d p c l e o = record { tail = AtDot d p; steps = λ fs. dot-step s d p fs c e o l; there = refl; named = tt }

hole-at : (s : Tail) (d : Prim) (p : Place) (c : Context) → is_param_limit c.limit ≡ false → prim_at s ≡ Some d → HoleAt s d p c
hole-at (InNew w t) d p c l e = go t.frames t.tail refl refl e where
  go : (gs : List types.Frame) (k : types.Tail) → t.frames ≡ gs → t.tail ≡ k → dotted_prim w (derived.dotted_read gs t.heads k) (derived.type_read gs t.heads (types.simple_of k)) ≡ Some d
      → HoleAt (InNew w t) d p c
  go [] (types.AtPath path) f g h =
      let next : types.State = record { frames = []; heads = t.heads; tail = types.AtDot path p } in
      let same : NewOf w (types.settled t.heads (Simple (Named (OfPath path)))) ≡ d = cc in
      let goes : types.step t (dot p) ≡ Some next = ap (λ k. types.dotted p k t.heads t.frames) g ∙ ap (λ gs. Some (record { frames = gs; heads = t.heads; tail = types.AtDot path p })) f in
      record {
        tail = InNew w next;
        steps = λ fs. ap (λ o. or_decided (new_type w o) (dot p) fs (at c (InNew w t))) (goes-dot c.limit t next p goes);
        there = ap (λ b. Some (SelectHole b p)) same;
        named = tt;
      }
  go gs (types.AtPath path) f g h = hole-selected (InNew w t) d p c l e (ap (λ k. types.dotted p k t.heads t.frames) g ∙ framed gs h) where
    framed : (gs : List types.Frame) → dotted_prim w (derived.dotted_read gs t.heads (types.AtPath path)) (derived.type_read gs t.heads (Some (Named (OfPath path)))) ≡ Some d → types.dotted p (types.AtPath path) t.heads t.frames ≡ None
    framed [] k = cc
    framed (x ∷ xs) k = cc
  go gs k f g h = hole-selected (InNew w t) d p c l e (ap (λ k. types.dotted p k t.heads t.frames) g)
hole-at (InTypes prim o done t) d p c l e = cc
hole-at (derived.InTyped of point t) d p c l e = cc
hole-at s d p c l e = hole-selected s d p c l e tt

pub hole-along : (d : Prim) (p : Place) (c : Context) → is_param_limit c.limit ≡ false → PrimEnds (prim_items d) d c → PrimEnds (prim_items (SelectHole d p)) (SelectHole d p) c
hole-along d p c l r =
    let h = hole-at r.tail d p c l r.there in
    record {
      tail = h.tail;
      leads = λ fs. leads-then (prim_items d) _ _ (state fs (at c r.tail)) _ (r.leads fs) (leads-one (OneToken (dot p)) _ _ (h.steps fs));
      there = h.there;
      named = h.named;
    }

-- ---- types in brackets

square-behind : (s : Tail) (d : Prim) (o : Place) → prim_at s ≡ Some d → StaysOut s (open_square o) → Behind s (open_square o) (OpensSquare o)
square-behind s d o e out = record {
  kind = symbol.OpenSquare;
  is = symbol-square o;
  sees = seen-open_square o;
  out = out;
  quiet = quiet-symbol s symbol.OpenSquare o.before refl refl refl;
  plain = settled-is-plain s d e;
}

square-step : (s : Tail) (d : Prim) (o : Place) (fs : List Frame) (c : Context) → prim_at s ≡ Some d → StaysOut s (open_square o) → is_param_limit c.limit ≡ false
    → step (state fs (at c s)) (OneToken (open_square o)) ≡ Some (state fs (at c (InTypes d o [] type_begun)))
square-step s d o fs c e out l =
    plain-step s (open_square o) (OpensSquare o) (square-behind s d o e out) refl fs c
    ∙ ap (λ k. in_state fs (squared o (at c (settled_tail s)) k)) (settled-operand s d e)
    ∙ ap (λ b. in_state fs (if b then None else Some (at c (InTypes d o [] type_begun)))) l

pub type-apply-along : (d : Prim) (o : Place) (ts : TypeList) (k : Place) (c : Context) → is_param_limit c.limit ≡ false → extends_type d ≡ false → PrimEnds (prim_items d) d c
    → PrimEnds (prim_items (TypeApplyPrim d o ts k)) (TypeApplyPrim d o ts k) c
type-apply-along d o ts k c l x r = record {
  tail = AtPrim (TypeApplyPrim d o ts k);
  leads = λ fs.
      leads-then (prim_items d) _ _ (state fs (at c r.tail)) _ (r.leads fs)
      (leads-on (OneToken (open_square o)) _ _ (state fs (at c (InTypes d o [] type_begun))) _ (square-step r.tail d o fs c r.there (square-out r.tail d o r.there x) l)
      (types-along ts d o k [] c fs));
  there = refl;
  named = tt;
}

-- ---- `_` behind a Prim

no-sign : (id : Id) (d : Prim) → Some (NamePrim id) ≡ Some d → is_prefix_id id ≡ true → is_sign_alone d ≡ false → ⊥
no-sign id d e f n = (let same : NamePrim id ≡ d = cc in let no : true ≡ false = sym f ∙ ap is_sign_alone same ∙ n in cc)

-- what is no sign alone is not taken for a prefix operator
pub quiet-prim : (s : Tail) (d : Prim) (k : Symbol) (n : Newline) → prim_at s ≡ Some d → Fresh s → is_sign_alone d ≡ false → is_id k ≡ false → Quiet s k n
quiet-prim (AtSign id) d k n e f a i = absurd (no-sign id d e f a)
quiet-prim (AtDot prim point) d k n e f a i = i
quiet-prim (AtReturn w) d k n e f a i = cc
quiet-prim _ d k n e f a i = tt

eta-there : (s : Tail) (d : Prim) (c : Context) → prim_at s ≡ Some d → Fresh s → is_sign_alone d ≡ false → is_param_limit c.limit ≡ false → eta_receiver (at c (settled_tail s)) ≡ Some d
eta-there (InNew w t) d c e f a l =
    new-cases (λ o p. eta_receiver (at c (new_tail w t o p)) ≡ Some d) w t d e (λ type g h. ap Some h)
    (λ k g h. if-false (is_param_limit c.limit) None (Some (SelectHole (NewOf w k.type) k.point)) l ∙ ap Some h)
eta-there (AtSign id) d c e f a l = absurd (no-sign id d e f a)
eta-there (AtName id is_sign) d c e f a l = if-false (is_param_limit c.limit) None _ l ∙ ap (λ b. if b then None else Some (NamePrim id)) f.0 ∙ e
eta-there (AtNew w type) d c e f a l = e
eta-there (AtDot prim p) d c e f a l = if-false (is_param_limit c.limit) None _ l ∙ e
eta-there _ d c e f a l = if-false (is_param_limit c.limit) None _ l ∙ e

eta-step : (s : Tail) (d : Prim) (p : Place) (fs : List Frame) (c : Context) → prim_at s ≡ Some d → Fresh s → is_sign_alone d ≡ false → is_param_limit c.limit ≡ false → p.before ≡ No
    → step (state fs (at c s)) (OneToken (underscore p)) ≡ Some (state fs (at c (AtPrim (EtaPrim d p))))
eta-step s d p fs c e f a l n =
    let t = settled_tail s in
    behind-step s (underscore p) (AnUnderscore p)
    (record {
      kind = symbol.Underscore;
      is = symbol-underscore p;
      sees = seen-underscore p;
      out = wild-out s c.operations c.sign _ p (prim-innermost c s d e);
      quiet = quiet-prim s d symbol.Underscore p.before e f a refl;
      plain = settled-is-plain s d e;
    }) fs c (ap (next_generator fs (at c t)) n ∙ joined-no-next fs c t (settled-not-semi s d e))
    ∙ ap (in_state fs) (if-false (may_begin_name (at c t) p.before) (Some (at c (AtWild p))) _ (not-name c t p.before (settled-not-begin s d e)))
    ∙ ap (λ b. in_state fs (if is_no b then eta p (at c t) (eta_receiver (at c t)) else None)) n
    ∙ ap (λ k. in_state fs (eta p (at c t) k)) (eta-there s d c e f a l)

pub eta-along : (d : Prim) (p : Place) (c : Context) → is_param_limit c.limit ≡ false → is_sign_alone d ≡ false → p.before ≡ No → PrimEnds (prim_items d) d c
    → PrimEnds (prim_items (EtaPrim d p)) (EtaPrim d p) c
eta-along d p c l a n r = record {
  tail = AtPrim (EtaPrim d p);
  leads = λ fs.
      leads-then (prim_items d) _ _ (state fs (at c r.tail)) _ (r.leads fs) (leads-one (OneToken (underscore p)) _ _ (eta-step r.tail d p fs c r.there r.named a l n));
  there = refl;
  named = tt;
}
