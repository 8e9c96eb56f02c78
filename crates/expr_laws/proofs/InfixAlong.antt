-- Operands with their signs, and the operators between them, lead to where these were read.
use Rattle.std.proofs.Common.{◌≡◌, Bool, true, false, ◌&&◌, ◌||◌, if◌then◌else◌, List, [], ◌∷◌, ◌++◌, Option, Some, None, codes, refl, ap, sym, ◌∙◌, append_assoc}
use Rattle.std.specs.Prelude.{not}
use Rattle.std.specs.Str.{bytes_eq}
use Rattle.scan_tokens.specs.declared.tokens.Newline.{Newline}
use Rattle.scan_tokens.specs.declared.tokens.Newline.TheVariants.{No}
use Rattle.source_grammar.specs.Expressions.{PrefixSign, Plus, Minus, Bang, Tilde, Infix, LastPrefix, MorePrefixes, Prefix, Unsigned, Signed, Prim, NamePrim, SelectHole}
use Rattle.source_grammar.specs.ExpressionRules as rules
use Rattle.source_grammar.specs.ExpressionRules.{is_prefix_id, is_sign_alone, is_hole, prim_of, begins_with_number, is_minus_of_number, infix_operators}
use Rattle.source_grammar.specs.ExpressionTokens.{sign_token, prefix_tokens, prim_tokens}
use Rattle.source_grammar.specs.Lexemes.{Lexeme, Id, id_token}
use Rattle.source_grammar.specs.Newlines.{is_near, newline_before}
use Rattle.source_grammar.specs.Precedence.{are_of_one_side}
use Rattle.parse_patterns.specs.Steps.{is_no}
use Rattle.parse_patterns.proofs.Sides.{side-fits}
use Rattle.expr_tails.specs.declared.states.Limit.{Limit}
use Rattle.expr_tails.specs.declared.states.Limit.TheVariants as limit
use Rattle.expr_tails.specs.declared.symbols.Symbol.{Symbol}
use Rattle.expr_tails.specs.declared.symbols.Symbol.TheVariants as symbol
use Rattle.expr_tails.specs.Symbols.{begins_prim}
use Rattle.expr_laws.proofs.Agreeing.{and-false}
use Rattle.expr_laws.proofs.Behind.{prim-innermost, no-hole, both, off, Quiet, Fresh, behind-step, joined-no-next, settled-prim, settled-operator, settled-not-begin, settled-not-semi, settled-is-plain}
use Rattle.expr_laws.proofs.Derived as derived
use Rattle.expr_laws.proofs.Derived.{Item, OneToken, BlockPair, CasesPair, EnumsPair, OtherPair, Operation, Tail, Begin, AtSign, AtName, AtDot, Head, Context, Frame, State, prim_at, signed, settled, is_nil, is_none, is_some, is_number, is_param_limit, is_before_operator, may_stand, may_begin_name, named_tail, at, fresh, state, in_state, fits, sign_decided, sign_of, with_sign, decided_at, operated, name_behind, in_type, or_decided, decided_step, decided_pair, next_generator, step}
use Rattle.expr_laws.proofs.FirstItems.{item_symbol, item_before, first-newline, prim-first}
use Rattle.expr_laws.proofs.Fitting.{operators_of}
use Rattle.expr_laws.proofs.GroupsAlong.{PrimEnds}
use Rattle.expr_laws.proofs.Items.{infix_items, prefix_items, prim_items}
use Rattle.expr_laws.proofs.Lasting.{as_patterns, same-operators, same-fits}
use Rattle.expr_laws.proofs.Moving.{Leads, leads-then, leads-on, leads-as, leads-from}
use Rattle.expr_laws.proofs.PrimsAlong.{minus_id, symbol-id, not-name, stands-limit, stands-name}
use Rattle.expr_laws.proofs.Seen.{AnId, seen, seen-id}
use Rattle.expr_laws.proofs.Settling.{settled_tail}
use Rattle.expr_laws.proofs.TokenSteps.{if-false, id-begins}
use Rattle.expr_laws.proofs.TypesAlong.{id-out}

-- a context, by its parts
abbrev pub parts : List Head → List Operation → Option PrefixSign → Limit → Tail → Context
parts hs os sign l s = record { heads = hs; operations = os; sign = sign; tail = s; limit = l }

-- ---- signs

abbrev pub sign_id : PrefixSign → Id
sign_id (Plus p) = record { name = codes "+"; quoted = false; place = p }
sign_id (Minus p) = minus_id p
sign_id (Bang p) = record { name = codes "!"; quoted = false; place = p }
sign_id (Tilde p) = record { name = codes "~"; quoted = false; place = p }

sign-is : (s : PrefixSign) → sign_token s ≡ id_token (sign_id s)
sign-is (Plus p) = refl
sign-is (Minus p) = refl
sign-is (Bang p) = refl
sign-is (Tilde p) = refl

sign-named : (s : PrefixSign) → named_tail (sign_id s) ≡ AtSign (sign_id s)
sign-named (Plus p) = refl
sign-named (Minus p) = refl
sign-named (Bang p) = refl
sign-named (Tilde p) = refl

sign-found : (s : PrefixSign) → sign_of (sign_id s) ≡ Some s
sign-found (Plus p) = refl
sign-found (Minus p) = refl
sign-found (Bang p) = refl
sign-found (Tilde p) = refl

-- it is no `-` of a number
not-minus : (s : PrefixSign) (xs : List Lexeme) (b : Bool) → b ≡ begins_with_number xs → is_minus_of_number s xs ≡ false → (b && bytes_eq (sign_id s).name (codes "-")) ≡ false
not-minus (Minus p) xs b e m = ap (λ x. x && true) (e ∙ m)
not-minus (Plus p) xs b e m = and-false b
not-minus (Bang p) xs b e m = and-false b
not-minus (Tilde p) xs b e m = and-false b

-- with a Prim directly behind it the sign is a prefix operator
sign-decides : (hs : List Head) (os : List Operation) (l : Limit) (s : PrefixSign) (k : Symbol) (n : Newline) → is_param_limit l ≡ false → n ≡ No → begins_prim k ≡ true
    → (is_number k && bytes_eq (sign_id s).name (codes "-")) ≡ false
    → decided_at (AtSign (sign_id s)) (parts hs os None l (AtSign (sign_id s))) k n ≡ parts hs os (Some s) l Begin
sign-decides hs os l s k n p e b m =
    let c = parts hs os None l (AtSign (sign_id s)) in
    let other = if is_number k && bytes_eq (sign_id s).name (codes "-") then at c (AtSign (sign_id s)) else with_sign c None (sign_of (sign_id s)) (sign_id s) in
    ap (λ x. if not (is_no x && (begins_prim k && not (is_param_limit l))) then at c (AtName (sign_id s) true) else other) e
    ∙ ap (λ x. if not (true && (x && not (is_param_limit l))) then at c (AtName (sign_id s) true) else other) b
    ∙ ap (λ x. if not (true && (true && not x)) then at c (AtName (sign_id s) true) else other) p
    ∙ ap (λ x. if x then at c (AtSign (sign_id s)) else with_sign c None (sign_of (sign_id s)) (sign_id s)) m
    ∙ ap (λ o. with_sign c None o (sign_id s)) (sign-found s)

-- an item does what it does at the beginning, where this is what it decides
pub first-step : (s : Tail) (c d : Context) (i : Item) (fs : List Frame) → ((x : Lexeme) → in_type c.limit s x ≡ None)
    → decided_at s (at c s) (item_symbol i) (item_before i) ≡ at d Begin → step (state fs (at c s)) i ≡ step (state fs (at d Begin)) i
first-step s c d (OneToken x) fs n e = ap (λ o. or_decided o x fs (at c s)) (n x) ∙ ap (decided_step (seen x) x fs) e
first-step s c d (BlockPair o block k) fs n e = ap (λ x. in_state fs (decided_pair x o.before (BlockPair o block k))) e
first-step s c d (CasesPair o cases k) fs n e = ap (λ x. in_state fs (decided_pair x o.before (CasesPair o cases k))) e
first-step s c d (EnumsPair o enums k) fs n e = ap (λ x. in_state fs (decided_pair x o.before (EnumsPair o enums k))) e
first-step s c d (OtherPair o xs k) fs n e = refl

-- ---- an operand

pub record PrefixEnds (d : Prefix) (hs : List Head) (os : List Operation) (l : Limit) : Type 0 where
  pub sign : Option PrefixSign
  pub tail : Tail
  pub leads : (fs : List Frame) → Leads (prefix_items d) (state fs (parts hs os None l Begin)) (state fs (parts hs os sign l tail))
  pub there : prim_at tail ≡ Some (prim_of d)
  pub whole : signed sign (prim_of d) ≡ d
  pub named : Fresh tail

pub unsigned-along : (d : Prim) (hs : List Head) (os : List Operation) (l : Limit) → PrimEnds (prim_items d) d (parts hs os None l Begin) → PrefixEnds (Unsigned d) hs os l
unsigned-along d hs os l r = record { sign = None; tail = r.tail; leads = r.leads; there = r.there; whole = refl; named = r.named }

-- a Prim may stand behind its sign
pub signed-stands : (hs : List Head) (os : List Operation) (l : Limit) (s : PrefixSign) (n : Newline) → is_param_limit l ≡ false → may_stand (parts hs os (Some s) l Begin) n ≡ true
signed-stands hs os l s n p = ap (λ b. not b && ((is_nil os && false) || true)) p ∙ go (is_nil os) where
  go : (b : Bool) → ((b && false) || true) ≡ true
  go true = refl
  go false = refl

pub signed-along : (s : PrefixSign) (d : Prim) (hs : List Head) (os : List Operation) (l : Limit) → may_stand (parts hs os None l Begin) (newline_before (prefix_tokens (Signed s d))) ≡ true
    → newline_before (prim_tokens d) ≡ No → is_minus_of_number s (prim_tokens d) ≡ false → PrimEnds (prim_items d) d (parts hs os (Some s) l Begin) → PrefixEnds (Signed s d) hs os l
signed-along s d hs os l h n m r =
    let c = parts hs os None l Begin in
    let behind = parts hs os (Some s) l Begin in
    let f = prim-first d in
    let p : is_param_limit l ≡ false = stands-limit c (newline_before (prefix_tokens (Signed s d))) h in
    let number : is_number (item_symbol f.item) ≡ begins_with_number (prim_tokens d) = f.number ∙ ap begins_with_number (sym f.shown) in
    let decides : decided_at (AtSign (sign_id s)) (at c (AtSign (sign_id s))) (item_symbol f.item) (item_before f.item) ≡ behind =
    sign-decides hs os l s (item_symbol f.item) (item_before f.item) p (first-newline f ∙ n) f.begins (not-minus s (prim_tokens d) (is_number (item_symbol f.item)) number m) in
    record {
      sign = Some s;
      tail = r.tail;
      leads = λ fs.
          leads-on (OneToken (sign_token s)) _ _ (state fs (at c (AtSign (sign_id s)))) _ (sign-read fs)
          (leads-as (f.item ∷ f.items) (prim_items d) _ _ (sym f.front)
          (leads-from f.item f.items (state fs (at c (AtSign (sign_id s)))) (state fs behind) (state fs (at behind r.tail)) (first-step (AtSign (sign_id s)) c behind f.item fs (λ x. refl) decides)
          (leads-as (prim_items d) (f.item ∷ f.items) _ _ f.front (r.leads fs))));
      there = r.there;
      whole = refl;
      named = r.named;
    }
  where
    place-is : (t : PrefixSign) → newline_before (prefix_tokens (Signed t d)) ≡ (sign_id t).place.before
    place-is (Plus p) = refl
    place-is (Minus p) = refl
    place-is (Bang p) = refl
    place-is (Tilde p) = refl

    sign-read : (fs : List Frame) → step (state fs (parts hs os None l Begin)) (OneToken (sign_token s)) ≡ Some (state fs (parts hs os None l (AtSign (sign_id s))))
    sign-read fs =
        ap (λ x. step (state fs (parts hs os None l Begin)) (OneToken x)) (sign-is s)
        ∙ id-begins (sign_id s) fs (parts hs os None l Begin) (stands-name (parts hs os None l Begin) (sign_id s).place.before (ap (may_stand (parts hs os None l Begin)) (sym (place-is s)) ∙ h))
        ∙ ap (λ t. Some (state fs (parts hs os None l t))) (sign-named s)

-- ---- operators

fits-there : (os : List Operation) (id : Id) (rest : List Id) → are_of_one_side (operators_of os ++ id ∷ rest) ≡ true → fits os id ≡ true
fits-there os id rest e = sym (same-fits os id) ∙ side-fits (as_patterns os) id rest (ap (λ ids. are_of_one_side (ids ++ id ∷ rest)) (same-operators os) ∙ e)

quiet-operator : (s : Tail) (d : Prim) (n : Newline) → prim_at s ≡ Some d → Fresh s → is_hole d ≡ false → is_sign_alone d ≡ false → Quiet s symbol.Id n
quiet-operator (AtSign id) d n e f h a = absurd (let same : NamePrim id ≡ d = cc in let no : true ≡ false = sym f ∙ ap is_sign_alone same ∙ a in cc)
quiet-operator (AtDot prim p) d n e f h a = absurd (let same : SelectHole prim p ≡ d = cc in let no : true ≡ false = ap is_hole same ∙ h in cc)
quiet-operator (derived.AtReturn w) d n e f h a = cc
quiet-operator _ d n e f h a = tt

operator-step : (s : Tail) (d : Prim) (id : Id) (c : Context) (fs : List Frame) → prim_at s ≡ Some d → Fresh s → is_hole d ≡ false → is_sign_alone d ≡ false → is_param_limit c.limit ≡ false
    → id.place.before ≡ No → fits c.operations id ≡ true → step (state fs (at c s)) (OneToken (id_token id)) ≡ in_state fs (operated (at c (settled_tail s)) id (Some d))
operator-step s d id c fs e f h a l n k =
    let t = settled_tail s in
    behind-step s (id_token id) (AnId id)
    (record { kind = symbol.Id; is = symbol-id id; sees = seen-id id; out = id-out s c.operations c.sign _ id (prim-innermost c s d e) (no-hole s [] None _ (prim-innermost (fresh limit.Expr) s d e) h); quiet = quiet-operator s d id.place.before e f h a; plain = settled-is-plain s d e }) fs c
    (ap (next_generator fs (at c t)) n ∙ joined-no-next fs c t (settled-not-semi s d e))
    ∙ ap (in_state fs) (if-false (may_begin_name (at c t) id.place.before) (Some (at c (named_tail id))) _ (not-name c t id.place.before (settled-not-begin s d e)))
    ∙ ap (λ x. in_state fs (if x then operated (at c t) id (prim_at t) else name_behind id t (at c t)))
    (ap (λ b. b && (is_no id.place.before && (not (is_param_limit c.limit) && fits c.operations id))) (settled-operator s d e f h a)
    ∙ ap (λ b. is_no b && (not (is_param_limit c.limit) && fits c.operations id)) n
    ∙ ap (λ b. not b && fits c.operations id) l ∙ k)
    ∙ ap (λ o. in_state fs (operated (at c t) id o)) (settled-prim s d e)

-- ---- a chain

pub record ChainEnds (d : Infix) (hs : List Head) (os : List Operation) (l : Limit) : Type 0 where
  pub operations : List Operation
  pub sign : Option PrefixSign
  pub tail : Tail
  pub prim : Prim
  pub leads : (fs : List Frame) → Leads (infix_items d) (state fs (parts hs os None l Begin)) (state fs (parts hs operations sign l tail))
  pub there : prim_at tail ≡ Some prim
  pub whole : settled operations (LastPrefix (signed sign prim)) ≡ settled os d
  pub named : Fresh tail

pub last-along : (d : Prefix) (hs : List Head) (os : List Operation) (l : Limit) → PrefixEnds d hs os l → ChainEnds (LastPrefix d) hs os l
last-along d hs os l r = record {
  operations = os;
  sign = r.sign;
  tail = r.tail;
  prim = prim_of d;
  leads = r.leads;
  there = r.there;
  whole = ap (λ x. settled os (LastPrefix x)) r.whole;
  named = r.named;
}

abbrev pub operation : Prefix → Id → Operation
operation d id = record { left = d; operator = id }

pub more-along : (d : Prefix) (id : Id) (rest : Infix) (hs : List Head) (os : List Operation) (l : Limit) → is_param_limit l ≡ false → rules.is_before_operator d ≡ true → id.place.before ≡ No
    → are_of_one_side (operators_of os ++ infix_operators (MorePrefixes d id rest)) ≡ true → PrefixEnds d hs os l → ChainEnds rest hs (operation d id ∷ os) l
    → ChainEnds (MorePrefixes d id rest) hs os l
more-along d id rest hs os l p b n one r k =
    let two = both (not (is_hole (prim_of d))) (not (is_sign_alone (prim_of d))) b in
    record {
      operations = k.operations;
      sign = k.sign;
      tail = k.tail;
      prim = k.prim;
      leads = λ fs.
          leads-then (prefix_items d) _ _ (state fs (parts hs os r.sign l r.tail)) _ (r.leads fs)
          (leads-on (OneToken (id_token id)) _ _ (state fs (parts hs (operation d id ∷ os) None l Begin)) _
          (operator-step r.tail (prim_of d) id (parts hs os r.sign l Begin) fs r.there r.named (off (is_hole (prim_of d)) two.0) (off (is_sign_alone (prim_of d)) two.1) p n
          (fits-there os id (infix_operators rest) one)
          ∙ ap (λ x. Some (state fs (parts hs (operation x id ∷ os) None l Begin))) r.whole)
          (k.leads fs));
      there = k.there;
      whole = k.whole;
      named = k.named;
    }

-- the operators of the rest, with those before
pub next-side : (os : List Operation) (d : Prefix) (id : Id) (rest : Infix) → are_of_one_side (operators_of os ++ infix_operators (MorePrefixes d id rest)) ≡ true
    → are_of_one_side (operators_of (operation d id ∷ os) ++ infix_operators rest) ≡ true
next-side os d id rest e = ap are_of_one_side (append_assoc (operators_of os) (id ∷ []) (infix_operators rest)) ∙ e

-- an operand may stand behind an operator, after at most one newline
pub next-stands : (hs : List Head) (os : List Operation) (o : Operation) (l : Limit) (n : Newline) → is_param_limit l ≡ false → is_near n ≡ true → may_stand (parts hs (o ∷ os) None l Begin) n ≡ true
next-stands hs os o l n p h = ap (λ b. not b && is_near n) p ∙ h
