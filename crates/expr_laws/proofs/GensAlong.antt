-- The generators of a `for`, with their guards and what separates them, lead to the head of the `for`.
use Rattle.std.proofs.Common.{◌≡◌, Bool, true, false, ◌&&◌, ◌||◌, if◌then◌else◌, List, [], ◌∷◌, ◌++◌, Option, Some, None, codes, refl, ap, sym, ◌∙◌, append_assoc, inl, inr}
use Rattle.std.specs.Prelude.{not}
use Rattle.scan_tokens.specs.declared.tokens.Newline.{Newline}
use Rattle.scan_tokens.specs.declared.tokens.TokenKind.TheVariants as kind
use Rattle.source_grammar.specs.Brackets.{has_newline}
use Rattle.source_grammar.specs.Comprehensions.{is_generator_pat}
use Rattle.source_grammar.specs.Expressions.{PrefixSign, Sep, Expr, Enums, LastGen, MoreGens, Gen, GenOf, Guards, NoGuards, MoreGuards, Infix, InfixExpr, ForRound, ForCurly}
use Rattle.source_grammar.specs.ExpressionRules as rules
use Rattle.source_grammar.specs.ExpressionRules.{is_name_kind, is_nonempty, is_separated}
use Rattle.source_grammar.specs.ExpressionTokens.{sep_tokens, yield_tokens, enums_tokens, gen_tokens}
use Rattle.source_grammar.specs.Lexemes.{Place, Lexeme, word_at, semicolon, open_round, close_round, underscore, BackArrow, back_arrow_token, Id, id_token}
use Rattle.source_grammar.specs.Newlines.{newline_before}
use Rattle.source_grammar.specs.Patterns.{Pat, LastAlternative, MoreAlternatives, InfixPat, TypedVar, TypedWild, BoundPat, LastOperand, MoreOperands, WildPat, VarPat, PatInParentheses, PairPat, TriplePat, pat_tokens, ProperPat}
use Rattle.source_grammar.specs.Types.{WrittenType}
use Rattle.parse_patterns.specs.Steps.{is_no}
use Rattle.expr_tails.specs.declared.states.Limit.TheVariants as limit
use Rattle.expr_tails.specs.declared.symbols.Symbol.{Symbol}
use Rattle.expr_tails.specs.declared.symbols.Symbol.TheVariants as symbol
use Rattle.expr_tails.specs.declared.symbols.Word.TheVariants as word
use Rattle.expr_tails.specs.Symbols.{symbol_of}
use Rattle.expr_laws.proofs.Agreeing.{and-false}
use Rattle.expr_laws.proofs.Behind.{infix_hole, expr_hole, hole_at, no-hole, newline-no, or-right, Quiet, StaysOut, out-type, quiet-settles}
use Rattle.expr_laws.proofs.Derived as derived
use Rattle.expr_laws.proofs.Derived.{Item, OneToken, EnumsPair, Operation, ForAsker, Tail, Begin, AtDot, InNew, InTypes, InPattern, AtAsker, Head, Of, Context, DoneGuard, Part, PatPart, FromPart, GuardPart, DoneGen, GensBracket, Frame, State, type_of, dotted_of, prim_at, chain_of, innermost, innermost_at, guards_before, enums_before, is_nil, is_some, is_id, is_begin, is_first, at, fresh, state, in_state, with_head, only_heads, new_tail, next_pattern, gen_at, guard_at, frame, guarded_in, next_in, is_apart, begun_pattern, begins_pattern, next_generator, in_pattern, or_else, taken, behind_gens, closed_in, is_untouched, emptied, semi_at, on_semicolon, moved, token_at, step}
use Rattle.expr_laws.proofs.FramesAlong.{for-begins}
use Rattle.expr_laws.proofs.GeneratorPatterns.{pattern_context, pattern-step, pat-along, arrow-step, begins, after}
use Rattle.expr_laws.proofs.HeadsAlong.{HeadRead}
use Rattle.expr_laws.proofs.InfixAlong.{ChainEnds}
use Rattle.expr_laws.proofs.Items.{tokens, expr_items, enums_items, gen_items, guards_items, infix_items}
use Rattle.expr_laws.proofs.Moving.{Leads, leads-none, leads-then, leads-on, leads-one, leads-as, leads-from, token-step}
use Rattle.expr_laws.proofs.PausesAlong.{quiet-newline, Pause, test_end}
use Rattle.expr_laws.proofs.PrimsAlong.{symbol-id}
use Rattle.expr_laws.proofs.Seen.{Seen, AnId, AnUnderscore, OpensRound, ClosesRound, ASemicolon, AWord, seen, seen-id, seen-underscore, seen-open_round, seen-semicolon, seen-word}
use Rattle.expr_laws.proofs.Settling.{settled_tail, settled, close-ends, ended-step, semicolon-step}
use Rattle.expr_laws.proofs.SpineAlong.{last_of, ExprRead, end_of}
use Rattle.expr_laws.proofs.TokenSteps.{begin-step, waiting-opens}
use Rattle.expr_laws.proofs.TypesAlong.{name-ends, wild-out, round-out, id-out}
use Rattle.expr_laws.proofs.WordsAlong.{start, semi-in-gens, seps-along, word-step}

-- the frame of a `for`, as it stands while a part of a generator is read
abbrev pub in_for : Place → Place → List DoneGen → Part → Context → Frame
in_for w o done part outer = frame (GensBracket w o done part) outer

-- ---- what may stand behind a generator

abbrev pub guards_hole : Bool → Guards → Bool
guards_hole h NoGuards = h
guards_hole h (MoreGuards sep w test guards) = guards_hole (infix_hole test) guards

abbrev pub gen_hole : Gen → Bool
gen_hole (GenOf pat arrow from guards) = guards_hole (expr_hole (last_of from)) guards

abbrev pub begins_with_name : List Lexeme → Bool
begins_with_name [] = false
begins_with_name (x ∷ xs) = is_name_kind x.kind

-- A name behind a `.` belongs to it, whatever newline is between them: so no generator that begins with a name follows such a one without a `;`.
abbrev pub takes_name : Gen → Sep → Enums → Bool
takes_name gen sep gens = is_nil sep && (gen_hole gen && begins_with_name (enums_tokens gens))

-- ---- a guard

if-symbol : symbol_of kind.Word (codes "if") ≡ symbol.Word word.If
unfolding symbol_of
if-symbol = refl

module _ (pat : Pat) (arrow : BackArrow) (from : Expr) (dones : List DoneGuard) (part : Part) (c : Context) (last : Expr) (takes : Bool) (k : Pause pat arrow from dones part c last takes) where
  pub pause-some : is_some (innermost c) ≡ true
  pause-some = ap is_some k.there

  -- the `;` behind it
  pub pause-seps : (p : Place) (ps : List Place) (w o : Place) (done : List DoneGen) (outer : Context) (fs : List Frame)
      → Leads (tokens (sep_tokens (p ∷ ps))) (state (in_for w o done part outer ∷ fs) c) (state (in_for w o done part outer ∷ fs) (only_heads c.heads (k.to p ps) c.limit))
  pause-seps p ps w o done outer fs =
      let gs : List Frame = in_for w o done part outer ∷ fs in
      let to : List Place → Context = λ rs. only_heads c.heads (k.to p rs) c.limit in
      leads-on (OneToken (semicolon p)) _ _ (state gs (only_heads c.heads (k.to p []) c.limit)) _
      (semicolon-step p gs c pause-some ∙ ap (in_state gs) (semi-in-gens p gs (settled c) refl k.waiting ∙ k.first p))
      (seps-along to gs
      (λ q rs. k.sees p rs (semicolon q) (ASemicolon q) gs (seen-semicolon q)
      ∙ ap (in_state gs) (semi-in-gens q gs (only_heads c.heads (k.to p rs) c.limit) refl k.waiting ∙ k.more p q rs)) ps [])

  guarded-moved : (w o v : Place) (done : List DoneGen) (outer d : Context) (fs : List Frame) (next : Part) → guard_at part d.tail d v ≡ Some next
      → moved (AWord word.If v) (in_for w o done part outer ∷ fs) d ≡ Some (state (in_for w o done next outer ∷ fs) (fresh limit.Guard))
  guarded-moved w o v done outer d fs next e =
      ap (λ x. or_else (guarded_in x w o done outer fs) (in_state (in_for w o done part outer ∷ fs) (or_else (taken word.If v d) (derived.word_at word.If v d)))) e

  pub guard-leads : (sep : Sep) (v : Place) → (not takes || rules.is_apart sep v) ≡ true → (w o : Place) (done : List DoneGen) (outer : Context) (fs : List Frame) (rest : List Item) (t : State)
      → Leads rest (state (in_for w o done (GuardPart pat arrow from dones sep v) outer ∷ fs) (fresh limit.Guard)) t
      → Leads (tokens (sep_tokens sep) ++ OneToken (word_at (codes "if") v) ∷ rest) (state (in_for w o done part outer ∷ fs) c) t
  guard-leads [] v a w o done outer fs rest t on =
      let gs : List Frame = in_for w o done part outer ∷ fs in
      leads-on (OneToken (word_at (codes "if") v)) _ _ (state (in_for w o done (GuardPart pat arrow from dones [] v) outer ∷ fs) (fresh limit.Guard)) _
      (word-step word.If v gs c if-symbol (λ s e. refl) pause-some (k.quiet v.before (λ s. newline-no v.before (or-right takes (has_newline v.before) a s)))
      ∙ guarded-moved w o v done outer (settled c) fs (GuardPart pat arrow from dones [] v) (k.guard v)) on
  guard-leads (p ∷ ps) v a w o done outer fs rest t on =
      let gs : List Frame = in_for w o done part outer ∷ fs in
      let d : Context = only_heads c.heads (k.to p ps) c.limit in
      leads-then (tokens (sep_tokens (p ∷ ps))) _ _ (state gs d) _ (pause-seps p ps w o done outer fs)
      (leads-on (OneToken (word_at (codes "if") v)) _ _ (state (in_for w o done (GuardPart pat arrow from dones (p ∷ ps) v) outer ∷ fs) (fresh limit.Guard)) _
      (k.sees p ps (word_at (codes "if") v) (AWord word.If v) gs (seen-word word.If v)
      ∙ guarded-moved w o v done outer d fs (GuardPart pat arrow from dones (p ∷ ps) v) (k.guard_behind p ps v)) on)

-- the guards behind what was read of a generator
pub record GuardsRead (pat : Pat) (arrow : BackArrow) (from : Expr) (dones : List DoneGuard) (part : Part) (c : Context) (last : Expr) (guards : Guards) : Type 0 where
  pub all : List DoneGuard
  pub to_part : Part
  pub end : Context
  pub to_last : Expr
  pub to_takes : Bool
  pub pause : Pause pat arrow from all to_part end to_last to_takes
  pub same : guards_before all NoGuards ≡ guards_before dones guards
  pub hole : expr_hole to_last ≡ guards_hole (expr_hole last) guards
  pub leads : (w o : Place) (done : List DoneGen) (outer : Context) (fs : List Frame)
      → Leads (guards_items guards) (state (in_for w o done part outer ∷ fs) c) (state (in_for w o done to_part outer ∷ fs) end)

module _ (pat : Pat) (arrow : BackArrow) (from : Expr) (dones : List DoneGuard) (part : Part) (c : Context) (last : Expr) (takes : Bool) (k : Pause pat arrow from dones part c last takes) where
  pub no-guards : GuardsRead pat arrow from dones part c last NoGuards
  no-guards = record {
    all = dones;
    to_part = part;
    end = c;
    to_last = last;
    to_takes = takes;
    pause = k;
    same = refl;
    hole = refl;
    leads = λ w o done outer fs. leads-none _;
  }

  pub more-guards : (sep : Sep) (v : Place) (test : Infix) (guards : Guards) → (not takes || rules.is_apart sep v) ≡ true → (r : ChainEnds test [] [] limit.Guard)
      → GuardsRead pat arrow from (record { sep = sep; word = v; test = test } ∷ dones) (GuardPart pat arrow from dones sep v) (test_end r) (InfixExpr test) guards
      → GuardsRead pat arrow from dones part c last (MoreGuards sep v test guards)
  more-guards sep v test guards a r g = record {
    all = g.all;
    to_part = g.to_part;
    end = g.end;
    to_last = g.to_last;
    to_takes = g.to_takes;
    pause = g.pause;
    same = g.same;
    hole = g.hole;
    leads = λ w o done outer fs.
        guard-leads pat arrow from dones part c last takes k sep v a w o done outer fs (infix_items test ++ guards_items guards) _
        (leads-then (infix_items test) _ _ (state (in_for w o done (GuardPart pat arrow from dones sep v) outer ∷ fs) (test_end r)) _
        (r.leads (in_for w o done (GuardPart pat arrow from dones sep v) outer ∷ fs)) (g.leads w o done outer fs));
  }

-- ---- the first token of a generator

-- the first token of a pattern of generators
pub record PatStarts (xs : List Lexeme) : Type 0 where
  pub token : Lexeme
  pub sight : Seen
  pub kind : Symbol
  pub rest : List Lexeme
  pub front : xs ≡ token ∷ rest
  pub sees : seen token ≡ sight
  pub is : symbol_of token.kind token.word ≡ kind
  pub begins : begins_pattern sight ≡ true
  pub out : (s : Tail) (os : List Operation) (sign : Option PrefixSign) (e : Expr) → innermost_at s (chain_of os sign (prim_at s)) ≡ Some e
      → (is_name_kind token.kind ≡ true → hole_at s ≡ false) → StaysOut s token
  pub quiet : (s : Tail) (n : Newline) → is_no n ≡ false → (is_name_kind token.kind ≡ true → hole_at s ≡ false) → Quiet s kind n

round-starts : (o : Place) (xs : List Lexeme) → PatStarts (open_round o ∷ xs)
unfolding symbol_of
round-starts o xs = record {
  token = open_round o;
  sight = OpensRound o;
  kind = symbol.OpenRound;
  rest = xs;
  front = refl;
  sees = seen-open_round o;
  is = refl;
  begins = refl;
  out = λ s os sign e h n. round-out s os sign e o h;
  quiet = λ s n e h. quiet-newline s symbol.OpenRound n e (inr refl);
}

wild-starts : (p : Place) (xs : List Lexeme) → PatStarts (underscore p ∷ xs)
unfolding symbol_of
wild-starts p xs = record {
  token = underscore p;
  sight = AnUnderscore p;
  kind = symbol.Underscore;
  rest = xs;
  front = refl;
  sees = seen-underscore p;
  is = refl;
  begins = refl;
  out = λ s os sign e h n. wild-out s os sign e p h;
  quiet = λ s n e h. quiet-newline s symbol.Underscore n e (inr refl);
}

id-starts : (id : Id) (xs : List Lexeme) → PatStarts (id_token id ∷ xs)
id-starts id xs = record {
  token = id_token id;
  sight = AnId id;
  kind = symbol.Id;
  rest = xs;
  front = refl;
  sees = seen-id id;
  is = symbol-id id;
  begins = refl;
  out = λ s os sign e h n. id-out s os sign e id h (n (name-ends id));
  quiet = λ s n e h. quiet-newline s symbol.Id n e (inl (h (name-ends id)));
}

pat-starts : (d : Pat) → is_generator_pat d ≡ true → PatStarts (pat_tokens d)
pat-starts (LastAlternative (InfixPat (LastOperand (WildPat p)))) g = wild-starts p _
pat-starts (LastAlternative (InfixPat (LastOperand (VarPat id)))) g = id-starts id _
pat-starts (LastAlternative (InfixPat (LastOperand (PatInParentheses o x k)))) g = round-starts o _
pat-starts (LastAlternative (InfixPat (LastOperand (PairPat o x p y k)))) g = round-starts o _
pat-starts (LastAlternative (InfixPat (LastOperand (TriplePat o x p y q z k)))) g = round-starts o _
pat-starts (LastAlternative (InfixPat (LastOperand _))) g = cc
pat-starts (LastAlternative (InfixPat (MoreOperands x id pat))) g = cc
pat-starts (LastAlternative (TypedVar id point type)) g = cc
pat-starts (LastAlternative (TypedWild place point type)) g = cc
pat-starts (LastAlternative (BoundPat id sign pat)) g = cc
pat-starts (MoreAlternatives x stroke pats) g = cc

abbrev starts-append : (xs ys : List Lexeme) → PatStarts xs → PatStarts (xs ++ ys)
starts-append xs ys x = record {
  token = x.token;
  sight = x.sight;
  kind = x.kind;
  rest = x.rest ++ ys;
  front = ap (λ zs. zs ++ ys) x.front;
  sees = x.sees;
  is = x.is;
  begins = x.begins;
  out = x.out;
  quiet = x.quiet;
}

-- ---- one generator

pub record GenRead (gen : Gen) : Type 0 where
  pub pat : Pat
  pub arrow : BackArrow
  pub from : Expr
  pub all : List DoneGuard
  pub part : Part
  pub end : Context
  pub last : Expr
  pub takes : Bool
  pub pause : Pause pat arrow from all part end last takes
  pub starts : PatStarts (gen_tokens gen)
  pub items : List Item
  pub front : gen_items gen ≡ OneToken starts.token ∷ items
  pub same : GenOf pat arrow from (guards_before all NoGuards) ≡ gen
  pub hole : expr_hole last ≡ gen_hole gen
  pub leads : (w o : Place) (done : List DoneGen) (outer : Context) (fs : List Frame)
      → Leads (gen_items gen) (state (in_for w o done PatPart outer ∷ fs) next_pattern) (state (in_for w o done part outer ∷ fs) end)

pub gen-read : (pat : Pat) (arrow : BackArrow) (from : Expr) (guards : Guards) → ProperPat pat → is_generator_pat pat ≡ true → (r : ExprRead from [])
    → GuardsRead pat arrow from [] (FromPart pat arrow) (end_of r) (last_of from) guards → GenRead (GenOf pat arrow from guards)
gen-read pat arrow from guards p g r k = record {
  pat = pat;
  arrow = arrow;
  from = from;
  all = k.all;
  part = k.to_part;
  end = k.end;
  last = k.to_last;
  takes = k.to_takes;
  pause = k.pause;
  starts = starts-append (pat_tokens pat) _ (pat-starts pat g);
  items = tokens (pat-starts pat g).rest ++ OneToken (back_arrow_token arrow) ∷ (expr_items from ++ guards_items guards);
  front = ap (λ zs. tokens zs ++ OneToken (back_arrow_token arrow) ∷ (expr_items from ++ guards_items guards)) (pat-starts pat g).front;
  same = ap (GenOf pat arrow from) k.same;
  hole = k.hole;
  leads = λ w o done outer fs.
      leads-then (tokens (pat_tokens pat)) _ _ (state (in_for w o done PatPart outer ∷ fs) (pattern_context (after [] pat))) _ (pat-along pat p g [] (in_for w o done PatPart outer ∷ fs))
      (leads-on (OneToken (back_arrow_token arrow)) _ _ (state (in_for w o done (FromPart pat arrow) outer ∷ fs) (fresh limit.Expr)) _ (arrow-step pat arrow w o done outer fs p)
      (leads-then (expr_items from) _ _ (state (in_for w o done (FromPart pat arrow) outer ∷ fs) (end_of r)) _ (r.leads (in_for w o done (FromPart pat arrow) outer ∷ fs))
      (k.leads w o done outer fs)));
}

-- ---- the next generator

-- with it the next generator begins, where one may
token-next : (s : Tail) (y : Seen) (x : Lexeme) (fs : List Frame) (os : List Operation) (sign : Option PrefixSign) (e : Expr) (c : Context) → innermost_at s (chain_of os sign (prim_at s)) ≡ Some e
    → token_at (settled_tail s) y x fs c
    ≡ (if begins_pattern y && is_some (next_generator fs c x.place.before) then begun_pattern (next_generator fs c x.place.before) y x else moved y fs c)
token-next (InPattern p) y x fs os sign e c h = cc
token-next (InTypes prim o done t) y x fs os sign e c h = cc
token-next (InNew w t) y x fs os sign e c h = go (type_of t) (dotted_of t) where
  go : (o : Option WrittenType) (p : Option derived.Dotted) → token_at (new_tail w t o p) y x fs c
      ≡ (if begins_pattern y && is_some (next_generator fs c x.place.before) then begun_pattern (next_generator fs c x.place.before) y x else moved y fs c)
  go (Some type) p = refl
  go None (Some d) = refl
  go None None = refl
token-next _ y x fs os sign e c h = refl

begun-next : (x : Lexeme) (y : Seen) (fs : List Frame) (c : Context) (gs : List Frame) → begins_pattern y ≡ true → seen x ≡ y → next_generator fs c x.place.before ≡ Some (state gs next_pattern)
    → (if begins_pattern y && is_some (next_generator fs c x.place.before) then begun_pattern (next_generator fs c x.place.before) y x else moved y fs c) ≡ step (state gs next_pattern) (OneToken x)
begun-next x y fs c gs b e f =
    ap (λ o. if begins_pattern y && is_some o then begun_pattern o y x else moved y fs c) f
    ∙ ap (λ z. if z && true then begun_pattern (Some (state gs next_pattern)) y x else moved y fs c) b
    ∙ sym (pattern-step x y gs (begins []) e)

apart-next : (part : Part) (w o : Place) (done : List DoneGen) (outer c : Context) (fs : List Frame) (n : Newline) (gen : Gen) (sep : Sep) → gen_at part c.tail c ≡ Some (record { gen = gen; sep = sep })
    → is_apart sep n ≡ true
    → next_generator (in_for w o done part outer ∷ fs) c n ≡ Some (state (in_for w o (record { gen = gen; sep = sep } ∷ done) PatPart outer ∷ fs) next_pattern)
apart-next part w o done outer c fs n gen sep e a =
    ap (λ x. next_in x w o done outer n fs) e
    ∙ ap (λ b. if b then Some (state (in_for w o (record { gen = gen; sep = sep } ∷ done) PatPart outer ∷ fs) next_pattern) else None) a

module _ (gen : Gen) (r : GenRead gen) (w o : Place) (done : List DoneGen) (outer : Context) (fs : List Frame) where
  abbrev here : List Frame
  here = in_for w o done r.part outer ∷ fs

  abbrev next : Sep → List Frame
  next sep = in_for w o (record { gen = gen; sep = sep } ∷ done) PatPart outer ∷ fs

  -- a token of a pattern behind a newline
  newline-next : (xs : List Lexeme) (x : PatStarts xs) → has_newline x.token.place.before ≡ true → (is_name_kind x.token.kind ≡ true → expr_hole r.last ≡ false)
      → step (state here r.end) (OneToken x.token) ≡ step (state (next []) next_pattern) (OneToken x.token)
  newline-next xs x n h =
      let c = r.end in
      let hole : (is_name_kind x.token.kind ≡ true → hole_at c.tail ≡ false) = λ q. no-hole c.tail c.operations c.sign r.last r.pause.there (h q) in
      token-step x.token x.sight x.kind here c (settled c) (out-type c.limit c.tail x.token (x.out c.tail c.operations c.sign r.last r.pause.there hole)) x.sees x.is
      (quiet-settles c c.tail x.kind x.token.place.before (x.quiet c.tail x.token.place.before (newline-no x.token.place.before n) hole))
      ∙ token-next c.tail x.sight x.token here c.operations c.sign r.last (settled c) r.pause.there
      ∙ begun-next x.token x.sight here (settled c) (next []) x.begins x.sees
      (apart-next r.part w o done outer (settled c) fs x.token.place.before gen [] (r.pause.gen ∙ ap (λ g. Some (record { gen = g; sep = [] })) r.same) n)

  -- the separator, and a token of a pattern
  pub next-leads : (sep : Sep) (xs : List Lexeme) (x : PatStarts xs) (is : List Item) (t : State) → is_apart sep x.token.place.before ≡ true
      → (is_nil sep ≡ true → is_name_kind x.token.kind ≡ true → expr_hole r.last ≡ false)
      → Leads (OneToken x.token ∷ is) (state (next sep) next_pattern) t → Leads (tokens (sep_tokens sep) ++ OneToken x.token ∷ is) (state here r.end) t
  next-leads [] xs x is t a h on = leads-from (OneToken x.token) is (state here r.end) (state (next []) next_pattern) t (newline-next xs x a (h refl)) on
  next-leads (p ∷ ps) xs x is t a h on =
      let c = only_heads r.end.heads (r.pause.to p ps) r.end.limit in
      leads-then (tokens (sep_tokens (p ∷ ps))) _ _ (state here c) _ (pause-seps r.pat r.arrow r.from r.all r.part r.end r.last r.takes r.pause p ps w o done outer fs)
      (leads-from (OneToken x.token) is (state here c) (state (next (p ∷ ps)) next_pattern) t
      (r.pause.sees p ps x.token x.sight here x.sees
      ∙ begun-next x.token x.sight here c (next (p ∷ ps)) x.begins x.sees
      (apart-next r.part w o done outer c fs x.token.place.before gen (p ∷ ps) (r.pause.gen_behind p ps ∙ ap (λ g. Some (record { gen = g; sep = p ∷ ps })) r.same) refl)) on)

  -- ---- the closing bracket

  not-begin : (s : Tail) (os : List Operation) (sign : Option PrefixSign) (e : Expr) → innermost_at s (chain_of os sign (prim_at s)) ≡ Some e → is_begin (settled_tail s) ≡ false
  not-begin Begin os sign e h = cc
  not-begin (InNew v t) os sign e h = go (type_of t) (dotted_of t) where
    go : (a : Option WrittenType) (p : Option derived.Dotted) → is_begin (new_tail v t a p) ≡ false
    go (Some type) p = refl
    go None (Some d) = refl
    go None None = refl
  not-begin _ os sign e h = refl

  pub gens-closed : (k : Place) → step (state here r.end) (OneToken (close_round k)) ≡ Some (state fs (with_head outer (Of (ForRound w o (enums_before done (LastGen gen)) k None))))
  gens-closed k =
      let c = settled r.end in
      let touched : is_untouched c ≡ false =
      ap (λ b. is_first c && (is_nil c.heads && b)) (not-begin r.end.tail r.end.operations r.end.sign r.last r.pause.there)
      ∙ ap (λ b. is_first c && b) (and-false (is_nil c.heads)) ∙ and-false (is_first c) in
      ended-step (close_round k) (ClosesRound k) (close-ends k) here r.end (ap is_some r.pause.there)
      ∙ ap (λ b. in_state fs (if b then emptied (GensBracket w o done r.part) k outer else closed_in (GensBracket w o done r.part) k c outer)) touched
      ∙ ap (λ x. in_state fs (behind_gens w o done k outer x)) (r.pause.gen ∙ ap (λ g. Some (record { gen = g; sep = [] })) r.same)

-- ---- all generators, and the `for`

-- these lead through the parentheses of a `for`; the first token begins a pattern
pub record EnumsRead (enums : Enums) : Type 0 where
  pub starts : PatStarts (enums_tokens enums)
  pub items : List Item
  pub front : enums_items enums ≡ OneToken starts.token ∷ items
  pub leads : (w o k : Place) (done : List DoneGen) (outer : Context) (fs : List Frame)
      → Leads (enums_items enums ++ OneToken (close_round k) ∷ []) (state (in_for w o done PatPart outer ∷ fs) next_pattern) (state fs (with_head outer (Of (ForRound w o (enums_before done enums) k None))))

pub last-enum : (gen : Gen) → GenRead gen → EnumsRead (LastGen gen)
last-enum gen r = record {
  starts = r.starts;
  items = r.items;
  front = r.front;
  leads = λ w o k done outer fs.
      leads-then (gen_items gen) _ _ (state (in_for w o done r.part outer ∷ fs) r.end) _ (r.leads w o done outer fs)
      (leads-one (OneToken (close_round k)) _ _ (gens-closed gen r w o done outer fs k));
}

sep-apart : (sep : Sep) (front ys : List Lexeme) (x : Lexeme) (rest : List Lexeme) → ys ≡ x ∷ rest → is_separated front sep ys ≡ true → is_apart sep x.place.before ≡ true
sep-apart [] front ys x rest e h = ap (λ zs. has_newline (newline_before zs)) (sym e) ∙ go (is_nonempty front) h where
  go : (b : Bool) → (b && has_newline (newline_before ys)) ≡ true → has_newline (newline_before ys) ≡ true
  go true f = f
  go false f = cc
sep-apart (p ∷ ps) front ys x rest e h = refl

middle : (a b c : Bool) → (a && (b && c)) ≡ false → a ≡ true → c ≡ true → b ≡ false
middle a false c e p q = refl
middle true true true e p q = cc
middle true true false e p q = cc
middle false true c e p q = cc

pub more-enums : (gen : Gen) (sep : Sep) (gens : Enums) → GenRead gen → is_separated (gen_tokens gen) sep (enums_tokens gens) ≡ true → takes_name gen sep gens ≡ false → EnumsRead gens
    → EnumsRead (MoreGens gen sep gens)
more-enums gen sep gens r apart name q = record {
  starts = starts-append (gen_tokens gen ++ sep_tokens sep) (enums_tokens gens) (starts-append (gen_tokens gen) (sep_tokens sep) r.starts);
  items = (r.items ++ tokens (sep_tokens sep)) ++ enums_items gens;
  front = ap (λ is. (is ++ tokens (sep_tokens sep)) ++ enums_items gens) r.front;
  leads = λ w o k done outer fs.
      let close : List Item = OneToken (close_round k) ∷ [] in
      let seps : List Item = tokens (sep_tokens sep) in
      let begins : enums_items gens ++ close ≡ OneToken q.starts.token ∷ (q.items ++ close) = ap (λ is. is ++ close) q.front in
      leads-as (gen_items gen ++ (seps ++ (enums_items gens ++ close))) _ _ _
      (sym (append_assoc (gen_items gen ++ seps) (enums_items gens) close ∙ append_assoc (gen_items gen) seps (enums_items gens ++ close)))
      (leads-then (gen_items gen) _ _ (state (in_for w o done r.part outer ∷ fs) r.end) _ (r.leads w o done outer fs)
      (leads-as (seps ++ OneToken q.starts.token ∷ (q.items ++ close)) _ _ _ (ap (λ is. seps ++ is) (sym begins))
      (next-leads gen r w o done outer fs sep (enums_tokens gens) q.starts (q.items ++ close) _
      (sep-apart sep (gen_tokens gen) (enums_tokens gens) q.starts.token q.starts.rest q.starts.front apart)
      (λ n m. r.hole ∙ middle (is_nil sep) (gen_hole gen) (begins_with_name (enums_tokens gens)) name n (ap begins_with_name q.starts.front ∙ m))
      (leads-as (enums_items gens ++ close) _ _ _ begins (q.leads w o k (record { gen = gen; sep = sep } ∷ done) outer fs)))));
}

-- `yield` behind them
yield-read : (q : Place) (fs : List Frame) (hs : List Head) (w o k : Place) (enums : Enums)
    → step (state fs (start (Of (ForRound w o enums k None) ∷ hs))) (OneToken (word_at (codes "yield") q)) ≡ Some (state fs (start (Of (ForRound w o enums k (Some q)) ∷ hs)))
yield-read q fs hs w o k enums = begin-step (word_at (codes "yield") q) (AWord word.Yield q) (seen-word word.Yield q) fs (start (Of (ForRound w o enums k None) ∷ hs))

yield-curly : (q : Place) (fs : List Frame) (hs : List Head) (w o k : Place) (enums : Enums)
    → step (state fs (start (Of (ForCurly w o enums k None) ∷ hs))) (OneToken (word_at (codes "yield") q)) ≡ Some (state fs (start (Of (ForCurly w o enums k (Some q)) ∷ hs)))
yield-curly q fs hs w o k enums = begin-step (word_at (codes "yield") q) (AWord word.Yield q) (seen-word word.Yield q) fs (start (Of (ForCurly w o enums k None) ∷ hs))

round-yields : (y : Option Place) (fs : List Frame) (hs : List Head) (w o k : Place) (enums : Enums)
    → Leads (tokens (yield_tokens y)) (state fs (start (Of (ForRound w o enums k None) ∷ hs))) (state fs (start (Of (ForRound w o enums k y) ∷ hs)))
round-yields None fs hs w o k enums = leads-none _
round-yields (Some q) fs hs w o k enums = leads-one (OneToken (word_at (codes "yield") q)) _ _ (yield-read q fs hs w o k enums)

curly-yields : (y : Option Place) (fs : List Frame) (hs : List Head) (w o k : Place) (enums : Enums)
    → Leads (tokens (yield_tokens y)) (state fs (start (Of (ForCurly w o enums k None) ∷ hs))) (state fs (start (Of (ForCurly w o enums k y) ∷ hs)))
curly-yields None fs hs w o k enums = leads-none _
curly-yields (Some q) fs hs w o k enums = leads-one (OneToken (word_at (codes "yield") q)) _ _ (yield-curly q fs hs w o k enums)

pub for-round-read : (w o k : Place) (enums : Enums) (y : Option Place) (hs : List Head) → EnumsRead enums → HeadRead (ForRound w o enums k y) hs
for-round-read w o k enums y hs r = record {
  leads = λ fs.
      leads-on (OneToken (word_at (codes "for") w)) _ _ (state fs (at (start hs) (AtAsker ForAsker w))) _ (for-begins w fs (start hs) refl)
      (leads-on (OneToken (open_round o)) _ _ (state (in_for w o [] PatPart (start hs) ∷ fs) next_pattern) _ (waiting-opens o fs (start hs) (AtAsker ForAsker w) (GensBracket w o [] PatPart) refl refl)
      (leads-as ((enums_items enums ++ OneToken (close_round k) ∷ []) ++ tokens (yield_tokens y)) _ _ _ (append_assoc (enums_items enums) (OneToken (close_round k) ∷ []) (tokens (yield_tokens y)))
      (leads-then (enums_items enums ++ OneToken (close_round k) ∷ []) _ _ (state fs (start (Of (ForRound w o enums k None) ∷ hs))) _ (r.leads w o k [] (start hs) fs)
      (round-yields y fs hs w o k enums))));
}

pub for-curly-read : (w o k : Place) (enums : Enums) (y : Option Place) (hs : List Head) → HeadRead (ForCurly w o enums k y) hs
for-curly-read w o k enums y hs = record {
  leads = λ fs.
      leads-on (OneToken (word_at (codes "for") w)) _ _ (state fs (at (start hs) (AtAsker ForAsker w))) _ (for-begins w fs (start hs) refl)
      (leads-on (EnumsPair o enums k) _ _ (state fs (start (Of (ForCurly w o enums k None) ∷ hs))) _ refl (curly-yields y fs hs w o k enums));
}
