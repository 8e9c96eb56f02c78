-- Pairs of braces lead from good contexts to good contexts.
use Rattle.std.proofs.Common.{◌≡◌, Bool, true, false, ◌&&◌, ◌||◌, if◌then◌else◌, Option, Some, None, refl, ap, ◌∙◌, subst}
use Rattle.std.specs.Prelude.{not}
use Rattle.scan_tokens.specs.declared.tokens.Newline.{Newline}
use Rattle.scan_tokens.specs.declared.tokens.Newline.TheVariants.{No}
use Rattle.source_grammar.specs.Brackets.{has_newline}
use Rattle.source_grammar.specs.Expressions.{MatchExpr, ForCurly, Prim, NamePrim, BlockPrim, CasesPrim, NewWith, Args, BlockArg, CasesArg}
use Rattle.source_grammar.specs.ExpressionRules.{Rule, ProperPrim, ProperArgs, is_called, takes_args, is_sign_alone, is_prefix_id}
use Rattle.source_grammar.specs.ExpressionTokens.{infix_tokens, expr_tokens, prim_tokens, args_tokens}
use Rattle.source_grammar.specs.Lexemes.{Place, Lexeme, open_curly, Id}
use Rattle.source_grammar.specs.Newlines.{is_near, newline_before}
use Rattle.source_grammar.specs.Types.{WrittenType}
use Rattle.parse_patterns.specs.Steps.{is_no}
use Rattle.expr_laws.proofs.Behind.{both, or-true}
use Rattle.expr_laws.proofs.Derived.{Item, OneToken, BlockPair, CasesPair, EnumsPair, OtherPair, ForAsker, Tail, Begin, AtName, AtPrim, AtCall, AtNew, AtMatch, AtAsker, AtCatch, AtCaught, AtEnded, Of, Context, prim_at, is_param_limit, receiver_at, receiver, may_stand, at, arg_of, prim_of, called, new_with, as_prim, behind_receiver, sign_receiver, tail_behind, at_some, behind_pair}
use Rattle.expr_laws.proofs.FirstItems.{item_before, infix-first}
use Rattle.expr_laws.proofs.Fitting.{Fits}
use Rattle.expr_laws.proofs.Good.{tail_front, is_receiver, GoodContext, ProperItem}
use Rattle.expr_laws.proofs.GoodDecided.{ReadyAt}
use Rattle.expr_laws.proofs.GoodNames.{AllRested, rest-none, rest-at, begun-level}
use Rattle.expr_laws.proofs.GoodPrims.{front-append, prim-front, level-same, receiver-good, alone-level}
use Rattle.expr_laws.proofs.GoodWords.{head-good}
use Rattle.expr_laws.proofs.Naming.{receiver-prim, not-param}

-- the first token of an item
abbrev pub item_front : Item → Lexeme
item_front (OneToken x) = x
item_front (BlockPair o block k) = open_curly o
item_front (CasesPair o cases k) = open_curly o
item_front (EnumsPair o enums k) = open_curly o
item_front (OtherPair o xs k) = open_curly o

pub called-receiver : (d : Prim) (args : Args) → is_receiver d ≡ true → is_called d args ≡ true
called-receiver d args e =
    let b = both (not (takes_args d)) (not (is_sign_alone d)) e in
    ap (λ t. t && (not (is_sign_alone d) || has_newline (newline_before (args_tokens args)))) b.0 ∙ ap (λ t. t || has_newline (newline_before (args_tokens args))) b.1

newline-there : (n : Newline) → not (is_no n) ≡ true → has_newline n ≡ true
newline-there No e = cc
newline-there _ e = refl

module _ (rule : Rule) where
  record GoodArgs (i : Item) (args : Args) : Type 0 where
    proper : ProperArgs rule args
    newline : newline_before (args_tokens args) ≡ item_before i

  args-good : (i : Item) (args : Args) → ProperItem rule i → is_near (item_before i) ≡ true → arg_of i ≡ Some args → GoodArgs i args
  args-good (BlockPair o block k) args p n e = (let same : BlockArg o block k ≡ args = cc in subst (GoodArgs (BlockPair o block k)) same (record { proper = (n, p); newline = refl }))
  args-good (CasesPair o cases k) args p n e = (let same : CasesArg o cases k ≡ args = cc in subst (GoodArgs (CasesPair o cases k)) same (record { proper = (n, p); newline = refl }))
  args-good _ args p n e = cc

  -- an operand with these Args
  called-good : (c : Context) (s : Tail) (d : Prim) (i : Item) (v : Option Args) → arg_of i ≡ v → prim_at s ≡ Some d → ProperPrim rule d
      → ((args : Args) → newline_before (args_tokens args) ≡ item_before i → is_called d args ≡ true) → is_near (item_before i) ≡ true → ProperItem rule i → GoodContext rule (at c s)
      → AllRested rule (at_some (at c s) (called d v))
  called-good c s d i None a e p k n q g = rest-none rule
  called-good c s d i (Some args) a e p k n q g =
      let r = args-good i args q n a in
      rest-at rule c s (AtCall d args) g (level-same rule c.heads c.operations c.sign (prim_tokens d) (tail_front s) (prim-front s d e) g.level) (p, k args r.newline, r.proper) refl

  new-with-good : (c : Context) (place : Place) (type : WrittenType) (i : Item) (v : Option Args) → arg_of i ≡ v → is_near (item_before i) ≡ true → ProperItem rule i → GoodContext rule (at c (AtNew place type))
      → AllRested rule (at_some (at c (AtNew place type)) (new_with place type v))
  new-with-good c place type i None a n q g = rest-none rule
  new-with-good c place type i (Some args) a n q g = rest-at rule c (AtNew place type) (AtPrim (NewWith place type args)) g g.level ((args-good i args q n a).proper, refl) refl

  braces-good : (c : Context) (s : Tail) (i : Item) → may_stand (at c s) (item_before i) ≡ true → ProperItem rule i → GoodContext rule (at c s) → ReadyAt s (at c s) (item_front i)
      → AllRested rule (at_some (at c s) (as_prim (prim_of i)))
  braces-good c s (BlockPair o block k) m q g r = rest-at rule c s (AtPrim (BlockPrim o block k)) g (begun-level rule c s (open_curly o) m g r) (q, refl) refl
  braces-good c s (CasesPair o cases k) m q g r = rest-at rule c s (AtPrim (CasesPrim o cases k)) g (begun-level rule c s (open_curly o) m g r) (q, refl) refl
  braces-good c s _ m q g r = rest-none rule

  some-if : (b : Bool) (c : Context) (v : Option Tail) → (b ≡ true → AllRested rule (at_some c v)) → AllRested rule (at_some c (if b then v else None))
  some-if true c v k = k refl
  some-if false c v k = rest-none rule

  behind-receiver-good : (c : Context) (s : Tail) (v : Option Prim) (i : Item) → receiver (at c s) ≡ v → ProperItem rule i → GoodContext rule (at c s)
      → AllRested rule (at_some (at c s) (behind_receiver v (item_before i) i))
  behind-receiver-good c s None i e q g = rest-none rule
  behind-receiver-good c s (Some d) i e q g =
      let there = not-param (is_param_limit c.limit) (receiver_at s) d e in
      let r = receiver-good rule c.limit s d g.tail there in
      some-if (is_near (item_before i)) (at c s) (called d (arg_of i))
      (λ n. called-good c s d i (arg_of i) refl (receiver-prim s d there) r.proper (λ args k. called-receiver d args r.receives) n q g)

  sign-receiver-good : (c : Context) (id : Id) (i : Item) → ProperItem rule i → GoodContext rule (at c (AtName id true))
      → AllRested rule (at_some (at c (AtName id true)) (if is_param_limit c.limit then None else sign_receiver id (item_before i) i))
  sign-receiver-good c id i q g = go (is_param_limit c.limit) where
    called-sign : not (is_no (item_before i)) ≡ true → (args : Args) → newline_before (args_tokens args) ≡ item_before i → is_called (NamePrim id) args ≡ true
    called-sign n args k = ap (λ b. not (is_prefix_id id) || b) (ap has_newline k ∙ newline-there (item_before i) n) ∙ or-true (not (is_prefix_id id))

    go : (b : Bool) → AllRested rule (at_some (at c (AtName id true)) (if b then None else sign_receiver id (item_before i) i))
    go true = rest-none rule
    go false =
        some-if (is_near (item_before i) && not (is_no (item_before i))) (at c (AtName id true)) (called (NamePrim id) (arg_of i))
        (λ k.
        let b = both (is_near (item_before i)) (not (is_no (item_before i))) k in
        called-good c (AtName id true) (NamePrim id) i (arg_of i) refl refl tt (called-sign b.1) b.0 q g)

  tail-behind-good : (s : Tail) (c : Context) (i : Item) → ProperItem rule i → GoodContext rule (at c s) → ReadyAt s (at c s) (item_front i) → AllRested rule (at_some (at c s) (tail_behind s (at c s) (item_before i) i))
  tail-behind-good (AtMatch chain place) c (CasesPair o cases p) q g r =
      let e = MatchExpr chain place o cases p in
      rest-at rule c (AtMatch chain place) (AtEnded e) g
      (level-same rule c.heads c.operations c.sign (expr_tokens e) (infix_tokens chain) (front-append (infix_tokens chain) _ (infix-first chain)) g.level)
      (g.tail.proper, g.tail.one_side, q) refl
  tail-behind-good (AtMatch chain place) c _ q g r = rest-none rule
  tail-behind-good (AtCatch place body catch) c (CasesPair o cases p) q g r =
      rest-at rule c (AtCatch place body catch) (AtCaught place body catch o cases p) g g.level (g.tail.0, g.tail.1, q) refl
  tail-behind-good (AtCatch place body catch) c _ q g r = rest-none rule
  tail-behind-good (AtName id true) c i q g r = sign-receiver-good c id i q g
  tail-behind-good (AtNew place type) c i q g r =
      some-if (is_near (item_before i)) (at c (AtNew place type)) (new_with place type (arg_of i)) (λ n. new-with-good c place type i (arg_of i) refl n q g)
  tail-behind-good Begin c i q g r = some-if (may_stand (at c Begin) (item_before i)) (at c Begin) (as_prim (prim_of i)) (λ m. braces-good c Begin i m q g r)
  tail-behind-good s c i q g r = behind-receiver-good c s (receiver (at c s)) i refl q g

  pub pair-good : (s : Tail) (c : Context) (i : Item) → Fits (at c s) → ProperItem rule i → GoodContext rule (at c s) → ReadyAt s (at c s) (item_front i)
      → AllRested rule (behind_pair s (at c s) (item_before i) i)
  pair-good (AtAsker ForAsker place) c (EnumsPair o enums p) f q g r =
      head-good rule c (Of (ForCurly place o enums p None)) (f.alone refl) ((λ body j. q), alone-level rule c (AtAsker ForAsker place) f refl g, g.level.heads) refl
  pair-good (AtAsker asker place) c _ f q g r = rest-none rule
  pair-good s c i f q g r = tail-behind-good s c i q g r
