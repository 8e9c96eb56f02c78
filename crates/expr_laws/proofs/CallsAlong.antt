-- Arguments behind a Prim, and behind `new` with a type, lead to where these were read.
use Rattle.std.proofs.Common.{◌≡◌, Bool, true, false, ◌&&◌, ◌||◌, if◌then◌else◌, List, [], ◌∷◌, ◌++◌, Option, Some, None, codes, refl, ap, sym, ◌∙◌}
use Rattle.std.specs.Prelude.{not}
use Rattle.scan_tokens.specs.declared.tokens.Newline.{Newline}
use Rattle.scan_tokens.specs.declared.tokens.Newline.TheVariants.{No}
use Rattle.source_grammar.specs.Brackets.{has_newline}
use Rattle.source_grammar.specs.Expressions.{Prim, NamePrim, NewOf, NewWith, SelectHole, ApplyPrim, Args, NoArgs, ExprArgs, BlockArg, CasesArg}
use Rattle.source_grammar.specs.ExpressionRules.{is_prefix_id, is_sign_alone, takes_args, is_called}
use Rattle.source_grammar.specs.ExpressionTokens.{args_tokens}
use Rattle.source_grammar.specs.Lexemes.{Place, word_at, open_round, close_round, Id}
use Rattle.source_grammar.specs.Newlines.{is_near, newline_before, IsJoined, IsNear}
use Rattle.source_grammar.specs.Types.{WrittenType, type_tokens}
use Rattle.parse_patterns.specs.Steps.{is_no}
use Rattle.expr_tails.specs.declared.states.Limit.TheVariants as limit
use Rattle.expr_tails.specs.declared.symbols.Symbol.TheVariants as symbol
use Rattle.expr_tails.specs.Symbols.{symbol_of}
use Rattle.expr_laws.proofs.After.{behind_type, new-there}
use Rattle.expr_laws.proofs.Behind.{prim-innermost, newline-no, Quiet, Behind, Fresh, behind-step, quiet-settles, new-cases, joined-no-next, settled-receiver, settled-not-semi, settled-is-plain}
use Rattle.expr_laws.proofs.Derived as derived
use Rattle.expr_laws.proofs.Derived.{Item, OneToken, BlockPair, CasesPair, Tail, Begin, AtSign, AtName, AtPrim, AtCall, AtDot, AtNew, InNew, Context, ArgsBracket, NewArgsBracket, Frame, State, type_begun, type_of, dotted_of, prim_at, is_param_limit, may_stand, receiver_at, receiver, at, fresh, state, in_state, frame, new_tail, opened, arg_of, called, new_with, behind_receiver, sign_receiver, at_some, behind_pair, decided_pair, step_pair, next_generator, step}
use Rattle.expr_laws.proofs.FramesAlong.{AllEnd, call-args, new-args, list-along, none-along, opens-args, opens-new-args}
use Rattle.expr_laws.proofs.GroupsAlong.{PrimEnds}
use Rattle.expr_laws.proofs.Items.{tokens, prim_items, args_items}
use Rattle.expr_laws.proofs.Moving.{Leads, leads-then, leads-on, leads-one}
use Rattle.expr_laws.proofs.PrimsAlong.{new-begins, quiet-prim}
use Rattle.expr_laws.proofs.Seen.{OpensRound, seen-open_round}
use Rattle.expr_laws.proofs.Settling.{settled_tail}
use Rattle.expr_laws.proofs.TokenSteps.{if-false, type-there}
use Rattle.expr_laws.proofs.TypesAlong.{TypeFits, new-leads, round-out}

-- these arguments stand where their Prim has them, and their expressions are read
abbrev pub ArgsEnd : Args → Type 0
ArgsEnd (NoArgs o k) = IsJoined o
ArgsEnd (ExprArgs o exprs k) = IsJoined o × AllEnd exprs
ArgsEnd (BlockArg o block k) = IsNear o
ArgsEnd (CasesArg o cases k) = IsNear o

-- ---- in parentheses

called-joined : (d : Prim) (a : Args) → is_called d a ≡ true → newline_before (args_tokens a) ≡ No → (takes_args d ≡ false) × (is_sign_alone d ≡ false)
called-joined d a e n = go (takes_args d) (is_sign_alone d) (newline_before (args_tokens a)) e n where
  go : (t s : Bool) (n : Newline) → (not t && (not s || has_newline n)) ≡ true → n ≡ No → (t ≡ false) × (s ≡ false)
  go true s n f g = cc
  go false false n f g = (refl, refl)
  go false true n f g = absurd (let no : false ≡ true = sym (ap has_newline g) ∙ f in cc)

symbol-round : (o : Place) → symbol_of (open_round o).kind (open_round o).word ≡ symbol.OpenRound
unfolding symbol_of
symbol-round o = refl

round-behind : (s : Tail) (d : Prim) (o : Place) → prim_at s ≡ Some d → Quiet s symbol.OpenRound o.before → Behind s (open_round o) (OpensRound o)
round-behind s d o e q = record {
  kind = symbol.OpenRound;
  is = symbol-round o;
  sees = seen-open_round o;
  out = round-out s [] None _ o (prim-innermost (fresh limit.Expr) s d e);
  quiet = q;
  plain = settled-is-plain s d e;
}

round-step : (s : Tail) (d : Prim) (o : Place) (fs : List Frame) (c : Context) → prim_at s ≡ Some d → Quiet s symbol.OpenRound o.before → o.before ≡ No
    → step (state fs (at c s)) (OneToken (open_round o)) ≡ opened o fs (at c (settled_tail s))
round-step s d o fs c e q n =
    behind-step s (open_round o) (OpensRound o) (round-behind s d o e q) fs c
    (ap (next_generator fs (at c (settled_tail s))) n ∙ joined-no-next fs c (settled_tail s) (settled-not-semi s d e))

opens-call : (s : Tail) (d : Prim) (o : Place) (fs : List Frame) (c : Context) → prim_at s ≡ Some d → Fresh s → takes_args d ≡ false → is_sign_alone d ≡ false → is_param_limit c.limit ≡ false
    → o.before ≡ No → step (state fs (at c s)) (OneToken (open_round o)) ≡ Some (state (frame (ArgsBracket d o []) (at c Begin) ∷ fs) (fresh limit.Expr))
opens-call s d o fs c e f t a l n =
    round-step s d o fs c e (quiet-prim s d symbol.OpenRound o.before e f a refl) n
    ∙ opens-args d o fs (at c (settled_tail s)) (if-false (is_param_limit c.limit) None (receiver_at (settled_tail s)) l ∙ settled-receiver s d e f t a) n

-- ---- in braces

sign-newline : (id : Id) (d : Prim) (a : Args) → Some (NamePrim id) ≡ Some d → is_prefix_id id ≡ true → is_called d a ≡ true → is_no (newline_before (args_tokens a)) ≡ false
sign-newline id d a e f k = (let same : NamePrim id ≡ d = cc in newline-no (newline_before (args_tokens a)) (go (takes_args d) (is_sign_alone d) (has_newline (newline_before (args_tokens a))) (sym (ap is_sign_alone same) ∙ f) k)) where
  go : (t s n : Bool) → s ≡ true → (not t && (not s || n)) ≡ true → n ≡ true
  go true s n g h = cc
  go false true n g h = h
  go false false n g h = cc

not-taking : (d : Prim) (a : Args) → is_called d a ≡ true → takes_args d ≡ false
not-taking d a e = go (takes_args d) (not (is_sign_alone d) || has_newline (newline_before (args_tokens a))) e where
  go : (t r : Bool) → (not t && r) ≡ true → t ≡ false
  go true r f = cc
  go false r f = refl

quiet-call : (s : Tail) (d : Prim) (a : Args) (n : Newline) → prim_at s ≡ Some d → Fresh s → is_called d a ≡ true → newline_before (args_tokens a) ≡ n → Quiet s symbol.OpenCurly n
quiet-call (AtSign id) d a n e f k b = ap (λ x. x && true) (ap is_no (sym b) ∙ sign-newline id d a e f k)
quiet-call (AtDot prim p) d a n e f k b = refl
quiet-call (derived.AtReturn w) d a n e f k b = cc
quiet-call _ d a n e f k b = tt

call-by : (o : Option Prim) (d : Prim) (i : Item) (a : Args) (n : Newline) (c : Context) → o ≡ Some d → arg_of i ≡ Some a → is_near n ≡ true → at_some c (behind_receiver o n i) ≡ Some (at c (AtCall d a))
call-by o d i a n c e g h = ap (λ k. at_some c (behind_receiver k n i)) e ∙ ap (λ b. at_some c (if b then called d (arg_of i) else None)) h ∙ ap (λ k. at_some c (called d k)) g

sign-call : (id : Id) (i : Item) (a : Args) (n : Newline) (c : Context) → arg_of i ≡ Some a → is_near n ≡ true → is_no n ≡ false → is_param_limit c.limit ≡ false
    → at_some c (if is_param_limit c.limit then None else sign_receiver id n i) ≡ Some (at c (AtCall (NamePrim id) a))
sign-call id i a n c g h m l =
    ap (λ b. at_some c (if b then None else sign_receiver id n i)) l
    ∙ ap (λ b. at_some c (if b && not (is_no n) then called (NamePrim id) (arg_of i) else None)) h
    ∙ ap (λ b. at_some c (if not b then called (NamePrim id) (arg_of i) else None)) m
    ∙ ap (λ k. at_some c (called (NamePrim id) k)) g

same-prim : (a : Args) (p d : Prim) (c : Context) → Some p ≡ Some d → Some (at c (AtCall p a)) ≡ Some (at c (AtCall d a))
same-prim a p d c e = (let same : p ≡ d = cc in ap (λ x. Some (at c (AtCall x a))) same)

brace-call : (s : Tail) (d : Prim) (i : Item) (a : Args) (n : Newline) (c : Context) → prim_at s ≡ Some d → Fresh s → is_called d a ≡ true → newline_before (args_tokens a) ≡ n
    → arg_of i ≡ Some a → is_near n ≡ true → is_param_limit c.limit ≡ false
    → behind_pair (settled_tail s) (at c (settled_tail s)) n i ≡ Some (at c (AtCall d a))
brace-call (AtSign id) d i a n c e f k b g h l =
    sign-call id i a n (at c (AtName id true)) g h (ap is_no (sym b) ∙ sign-newline id d a e f k) l ∙ same-prim a (NamePrim id) d c e
brace-call (AtName id is_sign) d i a n c e f k b g h l =
    ap (λ q. behind_pair (AtName id q) (at c (AtName id q)) n i) f.0
    ∙ call-by (receiver (at c (AtName id false))) d i a n (at c (AtName id false)) g_receiver g h
  where
    g_receiver : receiver (at c (AtName id false)) ≡ Some d
    g_receiver = if-false (is_param_limit c.limit) None (Some (NamePrim id)) l ∙ e
brace-call (InNew w t) d i a n c e f k b g h l =
    new-cases (λ o p. behind_pair (new_tail w t o p) (at c (new_tail w t o p)) n i ≡ Some (at c (AtCall d a))) w t d e
    (λ type p q. absurd (let no : true ≡ false = ap takes_args q ∙ not-taking d a k in cc))
    (λ x p q. call-by (receiver (at c (AtPrim (SelectHole (NewOf w x.type) x.point)))) d i a n (at c (AtPrim (SelectHole (NewOf w x.type) x.point)))
    (if-false (is_param_limit c.limit) None (Some (SelectHole (NewOf w x.type) x.point)) l ∙ ap Some q) g h)
brace-call (AtNew w type) d i a n c e f k b g h l = absurd (let same : NewOf w type ≡ d = cc in let no : true ≡ false = ap takes_args same ∙ not-taking d a k in cc)
brace-call (AtDot prim p) d i a n c e f k b g h l =
    call-by (receiver (at c (AtPrim (SelectHole prim p)))) d i a n (at c (AtPrim (SelectHole prim p))) (if-false (is_param_limit c.limit) None (Some (SelectHole prim p)) l ∙ e) g h
brace-call Begin d i a n c e f k b g h l = cc
brace-call (derived.AtMatch chain w) d i a n c e f k b g h l = cc
brace-call (derived.AtCatch w body catch) d i a n c e f k b g h l = cc
brace-call (derived.AtAsker asker w) d i a n c e f k b g h l = cc
brace-call s d i a n c e f k b g h l = call-by (receiver (at c s)) d i a n (at c s) (if-false (is_param_limit c.limit) None (receiver_at s) l ∙ e) g h

brace-step : (s : Tail) (d : Prim) (o : Place) (i : Item) (a : Args) (fs : List Frame) (c : Context) → prim_at s ≡ Some d → Fresh s → is_called d a ≡ true → newline_before (args_tokens a) ≡ o.before
    → arg_of i ≡ Some a → is_near o.before ≡ true → is_param_limit c.limit ≡ false → step_pair o i fs (at c s) ≡ Some (state fs (at c (AtCall d a)))
brace-step s d o i a fs c e f k b g h l =
    ap (λ x. in_state fs (decided_pair x o.before i)) (quiet-settles c s symbol.OpenCurly o.before (quiet-call s d a o.before e f k b))
    ∙ ap (in_state fs) (brace-call s d i a o.before c e f k b g h l)

-- ---- behind a Prim

pub call-leads : (d : Prim) (a : Args) (c : Context) → is_param_limit c.limit ≡ false → is_called d a ≡ true → ArgsEnd a → PrimEnds (prim_items d) d c → (fs : List Frame)
    → Leads (prim_items d ++ args_items a) (state fs (at c Begin)) (state fs (at c (AtCall d a)))
call-leads d (NoArgs o k) c l e n r fs =
    let m = called-joined d (NoArgs o k) e n in
    leads-then (prim_items d) _ _ (state fs (at c r.tail)) _ (r.leads fs)
    (leads-on (OneToken (open_round o)) _ _ (state (frame (ArgsBracket d o []) (at c Begin) ∷ fs) (fresh limit.Expr)) _ (opens-call r.tail d o fs c r.there r.named m.0 m.1 l n)
    (leads-one (OneToken (close_round k)) _ _ (none-along (ArgsBracket d o) (at c Begin) o (AtCall d) (call-args d o (at c Begin)) k fs)))
call-leads d (ExprArgs o exprs k) c l e n r fs =
    let m = called-joined d (ExprArgs o exprs k) e n.0 in
    leads-then (prim_items d) _ _ (state fs (at c r.tail)) _ (r.leads fs)
    (leads-on (OneToken (open_round o)) _ _ (state (frame (ArgsBracket d o []) (at c Begin) ∷ fs) (fresh limit.Expr)) _ (opens-call r.tail d o fs c r.there r.named m.0 m.1 l n.0)
    (list-along exprs n.1 (ArgsBracket d o) (at c Begin) o (AtCall d) (call-args d o (at c Begin)) k [] fs))
call-leads d (BlockArg o block k) c l e n r fs =
    leads-then (prim_items d) _ _ (state fs (at c r.tail)) _ (r.leads fs)
    (leads-one (BlockPair o block k) _ _ (brace-step r.tail d o (BlockPair o block k) (BlockArg o block k) fs c r.there r.named e refl refl n l))
call-leads d (CasesArg o cases k) c l e n r fs =
    leads-then (prim_items d) _ _ (state fs (at c r.tail)) _ (r.leads fs)
    (leads-one (CasesPair o cases k) _ _ (brace-step r.tail d o (CasesPair o cases k) (CasesArg o cases k) fs c r.there r.named e refl refl n l))

pub apply-along : (d : Prim) (a : Args) (c : Context) → is_param_limit c.limit ≡ false → is_called d a ≡ true → ArgsEnd a → PrimEnds (prim_items d) d c
    → PrimEnds (prim_items (ApplyPrim d a)) (ApplyPrim d a) c
apply-along d a c l e n r = record { tail = AtCall d a; leads = call-leads d a c l e n r; there = refl; named = tt }

-- ---- behind `new` and a type

new-settled : (w : Place) (type : WrittenType) → settled_tail (InNew w (behind_type type)) ≡ AtNew w type
new-settled w type = ap (λ o. new_tail w (behind_type type) o (dotted_of (behind_type type))) (type-there type)

opens-new : (w : Place) (type : WrittenType) (o : Place) (fs : List Frame) (c : Context) → o.before ≡ No
    → step (state fs (at c (InNew w (behind_type type)))) (OneToken (open_round o)) ≡ Some (state (frame (NewArgsBracket w type o []) (at c Begin) ∷ fs) (fresh limit.Expr))
opens-new w type o fs c n =
    round-step (InNew w (behind_type type)) (NewOf w type) o fs c (new-there w type) tt n
    ∙ ap (λ s. opened o fs (at c s)) (new-settled w type)
    ∙ opens-new-args w type o fs c n

brace-new : (w : Place) (type : WrittenType) (o : Place) (i : Item) (a : Args) (fs : List Frame) (c : Context) → arg_of i ≡ Some a → is_near o.before ≡ true
    → step_pair o i fs (at c (InNew w (behind_type type))) ≡ Some (state fs (at c (AtPrim (NewWith w type a))))
brace-new w type o i a fs c g h =
    ap (λ s. in_state fs (decided_pair (at c s) o.before i)) (new-settled w type)
    ∙ ap (λ b. in_state fs (at_some (at c (AtNew w type)) (if b then new_with w type (arg_of i) else None))) h
    ∙ ap (λ k. in_state fs (at_some (at c (AtNew w type)) (new_with w type k))) g

new-args-leads : (w : Place) (type : WrittenType) (a : Args) (c : Context) → ArgsEnd a → (fs : List Frame)
    → Leads (args_items a) (state fs (at c (InNew w (behind_type type)))) (state fs (at c (AtPrim (NewWith w type a))))
new-args-leads w type (NoArgs o k) c n fs =
    leads-on (OneToken (open_round o)) _ _ (state (frame (NewArgsBracket w type o []) (at c Begin) ∷ fs) (fresh limit.Expr)) _ (opens-new w type o fs c n)
    (leads-one (OneToken (close_round k)) _ _ (none-along (NewArgsBracket w type o) (at c Begin) o (λ args. AtPrim (NewWith w type args)) (new-args w type o (at c Begin)) k fs))
new-args-leads w type (ExprArgs o exprs k) c n fs =
    leads-on (OneToken (open_round o)) _ _ (state (frame (NewArgsBracket w type o []) (at c Begin) ∷ fs) (fresh limit.Expr)) _ (opens-new w type o fs c n.0)
    (list-along exprs n.1 (NewArgsBracket w type o) (at c Begin) o (λ args. AtPrim (NewWith w type args)) (new-args w type o (at c Begin)) k [] fs)
new-args-leads w type (BlockArg o block k) c n fs = leads-one (BlockPair o block k) _ _ (brace-new w type o (BlockPair o block k) (BlockArg o block k) fs c refl n)
new-args-leads w type (CasesArg o cases k) c n fs = leads-one (CasesPair o cases k) _ _ (brace-new w type o (CasesPair o cases k) (CasesArg o cases k) fs c refl n)

pub new-with-along : (w : Place) (type : WrittenType) (a : Args) (c : Context) → may_stand (at c Begin) w.before ≡ true → TypeFits c.limit type → ArgsEnd a
    → PrimEnds (prim_items (NewWith w type a)) (NewWith w type a) c
new-with-along w type a c h fit r = record {
  tail = AtPrim (NewWith w type a);
  leads = λ fs.
      leads-on (OneToken (word_at (codes "new") w)) _ _ (state fs (at c (InNew w type_begun))) _ (new-begins w fs c h)
      (leads-then (tokens (type_tokens type)) _ _ (state fs (at c (InNew w (behind_type type)))) _ (new-leads w type c fs fit) (new-args-leads w type a c r fs));
  there = refl;
  named = tt;
}
