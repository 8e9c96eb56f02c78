-- Names, operands of one token and suffixes lead from good contexts to good contexts.
use Rattle.std.proofs.Common.{◌≡◌, Bool, true, false, ◌&&◌, ◌||◌, if◌then◌else◌, List, [], ◌∷◌, ◌++◌, Option, Some, None, refl, ap, sym, ◌∙◌, subst}
use Rattle.std.specs.Prelude.{not}
use Rattle.scan_tokens.specs.declared.tokens.Newline.{Newline}
use Rattle.scan_tokens.specs.declared.tokens.Newline.TheVariants.{No}
use Rattle.source_grammar.specs.Expressions.{PrefixSign, Prim, MinusPrim, Placeholder, SuperPrim, NamePrim, NewOf, SelectPrim, SelectHole, TypeApplyPrim, ApplyPrim, EtaPrim}
use Rattle.source_grammar.specs.ExpressionRules.{Rule, ProperPrim, ends_in_path, extends_type, is_prefix_id, is_sign_alone, takes_args, is_number_kind}
use Rattle.source_grammar.specs.ExpressionRules as rules
use Rattle.source_grammar.specs.ExpressionTokens.{prefix_tokens, prim_tokens}
use Rattle.source_grammar.specs.Lexemes.{Place, Lexeme, dot, open_square, underscore, Id, id_token, Literal, literal_token, literal_place, Number, number_token}
use Rattle.source_grammar.specs.Newlines.{is_near, newline_before}
use Rattle.source_grammar.specs.Types.{WrittenType, LastType}
use Rattle.parse_parts.proofs.Derived as types
use Rattle.parse_patterns.specs.Steps.{is_no}
use Rattle.parse_patterns.proofs.Derived.{when}
use Rattle.parse_patterns.proofs.Seen.{literal_of, number-literal}
use Rattle.expr_tails.specs.declared.states.Limit.{Limit}
use Rattle.expr_laws.proofs.Agreeing.{and-false}
use Rattle.expr_laws.proofs.Behind.{both, off, or-true}
use Rattle.expr_laws.proofs.Derived.{Operation, Tail, Begin, AtSign, AtName, AtWild, AtGroup, AtPrim, AtCall, AtDot, AtSuper, AtSuperDot, InNew, AtNew, InTypes, InTyped, Head, Context, prim_at, signed, is_nil, is_none, is_some, is_param_limit, is_first, may_stand, may_begin_name, fits, operand_at, receiver_at, is_before_operator, at, named_tail, operated, name_behind, on_id, on_literal, on_number, eta, eta_receiver, on_underscore, dotted, on_dot, squared, types_on, type_begun, goes_on, in_type}
use Rattle.expr_laws.proofs.Derived as derived
use Rattle.expr_laws.proofs.Good.{is-no, JoinedIf, NearIf, is_minus, operations_before, sign_before, tail_front, is_return, rests_at, rests, is_receiver, GoodTail, GoodLevel, LevelOf, GoodContext}
use Rattle.expr_laws.proofs.GoodDecided.{ReadyAt}
use Rattle.expr_laws.proofs.GoodPrims.{prim-append, prim-front, prefix-newline, front-then, not-new, parens-plain, level-same, prim-proper, receiver-good, signed-proper}
use Rattle.expr_laws.proofs.GoodTypes.{goes-good}
use Rattle.expr_laws.proofs.Naming.{operand-prim, receiver-prim, not-param}
use Rattle.expr_laws.proofs.Seen.{Seen, AComma, ClosesSquare}

-- ---- tests

near-begun : (os : List Operation) (sign : Option PrefixSign) (p : Bool) (n : Newline) → (not p && ((is_nil os && is_none sign) || (is_some sign || is_near n))) ≡ true
    → NearIf os (sign_before sign No) → NearIf os (sign_before sign n)
near-begun [] sign p n e k = tt
near-begun (o ∷ os) (Some s) p n e k = k
near-begun (o ∷ os) None true n e k = cc
near-begun (o ∷ os) None false n e k = e

pub near-first : (os : List Operation) (sign : Option PrefixSign) (n : Newline) → (is_nil os && is_none sign) ≡ true → NearIf os n
near-first [] sign n e = tt
near-first (o ∷ os) sign n e = cc

-- what an operator may stand behind
record IsLeft (d : Prim) : Type 0 where
  no_hole : rules.is_hole d ≡ false
  no_sign : is_sign_alone d ≡ false

left-as : (d x : Prim) → Some x ≡ Some d → IsLeft x → IsLeft d
left-as d x e p = (let same : x ≡ d = cc in subst IsLeft same p)

receiver-sign : (d : Prim) → is_receiver d ≡ true → is_sign_alone d ≡ false
receiver-sign d e = off (is_sign_alone d) (both (not (takes_args d)) (not (is_sign_alone d)) e).1

same-hole : (d : Prim) → rules.is_hole d ≡ derived.is_hole d
same-hole (SelectHole d point) = refl
same-hole _ = refl

left-signed : (sign : Option PrefixSign) (d : Prim) → IsLeft d → rules.is_before_operator (signed sign d) ≡ true
left-signed None d p = ap (λ b. not b && not (is_sign_alone d)) p.no_hole ∙ ap not p.no_sign
left-signed (Some sign) d p = ap (λ b. not b && not (is_sign_alone d)) p.no_hole ∙ ap not p.no_sign

module _ (rule : Rule) where
  -- ---- contexts that rest

  pub record Rested (c : Context) : Type 0 where
    pub good : GoodContext rule c
    pub rests : rests c ≡ true

  abbrev pub AllRested : Option Context → Type 0
  AllRested o = (d : Context) → o ≡ Some d → Rested d

  pub rest-none : AllRested None
  rest-none d e = cc

  pub rest-some : (c : Context) → Rested c → AllRested (Some c)
  rest-some c r d e = (let same : c ≡ d = cc in subst Rested same r)

  pub rest-if : (b : Bool) (x y : Option Context) → (b ≡ true → AllRested x) → (b ≡ false → AllRested y) → AllRested (if b then x else y)
  rest-if true x y p q = p refl
  rest-if false x y p q = q refl

  pub rest-when : (b : Bool) (c : Context) → (b ≡ true → Rested c) → AllRested (when b c)
  rest-when true c r = rest-some c (r refl)
  rest-when false c r = rest-none

  -- another tail of the same context
  pub rest-tail : (c : Context) (t : Tail) → (is_param_limit c.limit ≡ true → is_first c ≡ true) → LevelOf rule c (tail_front t) → GoodTail rule c.limit t → rests_at t (at c t) ≡ true
      → AllRested (Some (at c t))
  rest-tail c t p l k r = rest-some (at c t) (record { good = record { level = l; tail = k; param = p }; rests = r })

  pub rest-at : (c : Context) (s t : Tail) → GoodContext rule (at c s) → LevelOf rule c (tail_front t) → GoodTail rule c.limit t → rests_at t (at c t) ≡ true → AllRested (Some (at c t))
  rest-at c s t g l k r = rest-tail c t g.param l k r

  -- ---- a first token

  abbrev pub Stands : Context → Lexeme → Type 0
  Stands c x = GoodLevel rule c.heads c.operations c.sign x.place.before (is_number_kind x.kind)

  pub begun-level : (c : Context) (s : Tail) (x : Lexeme) → may_stand (at c s) x.place.before ≡ true → GoodContext rule (at c s) → ReadyAt s (at c s) x → Stands c x
  begun-level c Begin x m g r = record {
    heads = g.level.heads;
    operations = g.level.operations;
    joined = r.0;
    near = near-begun c.operations c.sign (is_param_limit c.limit) x.place.before m g.level.near;
    signed = r.1;
  }
  begun-level c _ x m g r = cc

  named-level : (c : Context) (s : Tail) (x : Lexeme) → may_begin_name (at c s) x.place.before ≡ true → GoodContext rule (at c s) → ReadyAt s (at c s) x → Stands c x
  named-level c s x m g r = go (is_param_limit c.limit) refl m where
    first : is_param_limit c.limit ≡ true → (k : Tail) → derived.is_begin k ≡ true → GoodContext rule (at c k) → ReadyAt k (at c k) x → Stands c x
    first p Begin e h q = record {
      heads = h.level.heads;
      operations = h.level.operations;
      joined = q.0;
      near = near-first c.operations c.sign (sign_before c.sign x.place.before) (h.param p);
      signed = q.1;
    }
    first p _ e h q = cc

    go : (b : Bool) → is_param_limit c.limit ≡ b → (if b then derived.is_begin s else may_stand (at c s) x.place.before) ≡ true → Stands c x
    go true e h = first e s h g r
    go false e h = begun-level c s x h g r

  -- ---- names

  named-good : (c : Context) (s : Tail) (id : Id) → GoodContext rule (at c s) → Stands c (id_token id) → AllRested (Some (at c (named_tail id)))
  named-good c s id g l = go (is_prefix_id id) refl where
    go : (b : Bool) → is_prefix_id id ≡ b → AllRested (Some (at c (if b then AtSign id else AtName id false)))
    go true e = rest-at c s (AtSign id) g l tt refl
    go false e = rest-at c s (AtName id false) g l (λ k. e) refl

  left-good : (l : Limit) (s : Tail) (d : Prim) → GoodTail rule l s → is_before_operator s ≡ true → prim_at s ≡ Some d → IsLeft d
  left-good l (AtSign id) d g b e = cc
  left-good l (AtName id true) d g b e = cc
  left-good l (AtName id false) d g b e = left-as d (NamePrim id) e (record { no_hole = refl; no_sign = g refl })
  left-good l (AtWild place) d g b e = left-as d (Placeholder place) e (record { no_hole = refl; no_sign = refl })
  left-good l (AtGroup o parens k head) d g b e = (let p = parens-plain o parens k d e in record { no_hole = p.no_hole; no_sign = receiver-sign d p.receives })
  left-good l (AtPrim prim) d g b e = left-as d prim e (record { no_hole = same-hole prim ∙ off (derived.is_hole prim) b; no_sign = receiver-sign prim g.1 })
  left-good l (AtCall prim args) d g b e = left-as d (ApplyPrim prim args) e (record { no_hole = refl; no_sign = refl })
  left-good l (AtNew place type) d g b e = left-as d (NewOf place type) e (record { no_hole = refl; no_sign = refl })
  left-good l _ d g b e = cc

  operated-good : (c : Context) (s : Tail) (id : Id) (v : Option Prim) → ((d : Prim) → v ≡ Some d → prim_at s ≡ Some d) → GoodContext rule (at c s) → is_before_operator s ≡ true
      → is_no id.place.before ≡ true → is_param_limit c.limit ≡ false → AllRested (operated (at c s) id v)
  operated-good c s id None there g b n p = rest-none
  operated-good c s id (Some d) there g b n p =
      let e = there d refl in
      let l = level-same rule c.heads c.operations c.sign (prim_tokens d) (tail_front s) (prim-front s d e) g.level in
      let front : sign_before c.sign (newline_before (prim_tokens d)) ≡ newline_before (prefix_tokens (signed c.sign d)) = sym (prefix-newline c.sign d) in
      rest-some _ (record {
        good = record {
          level = record {
            heads = l.heads;
            operations = (
              record {
                proper = signed-proper rule c.sign d (prim-proper rule c.limit s d g.tail e) l.signed;
                before = left-signed c.sign d (left-good c.limit s d g.tail b e);
                joined = is-no id.place.before n;
                near = subst (NearIf c.operations) front l.near;
              },
              l.operations,
            );
            joined = subst (λ m. JoinedIf c.heads (operations_before c.operations m)) front l.joined;
            near = refl;
            signed = tt;
          };
          tail = tt;
          param = λ k. (let no : true ≡ false = sym k ∙ p in cc);
        };
        rests = or-true (not (is_return c.heads));
      })

  behind-good : (c : Context) (s : Tail) (id : Id) → GoodContext rule (at c s) → AllRested (name_behind id s (at c s))
  behind-good c (AtDot prim point) id g =
      rest-at c (AtDot prim point) (AtPrim (SelectPrim prim point id)) g
      (level-same rule c.heads c.operations c.sign (prim_tokens (SelectPrim prim point id)) (prim_tokens prim) (prim-append prim _) g.level) ((g.tail.0, g.tail.1), refl) refl
  behind-good c (AtSuperDot place point) id g = rest-at c (AtSuperDot place point) (AtPrim (SuperPrim place point id)) g g.level (tt, refl) refl
  behind-good c _ id g = rest-none

  pub id-good : (id : Id) (c : Context) (s : Tail) → GoodContext rule (at c s) → ReadyAt s (at c s) (id_token id) → AllRested (on_id id (at c s))
  id-good id c s g r =
      rest-if (may_begin_name (at c s) id.place.before) _ _ (λ e. named-good c s id g (named-level c s (id_token id) e g r))
      (λ e. rest-if (is_before_operator s && (is_no id.place.before && (not (is_param_limit c.limit) && fits c.operations id))) _ _
      (λ k.
      let a = both (is_before_operator s) (is_no id.place.before && (not (is_param_limit c.limit) && fits c.operations id)) k in
      let b = both (is_no id.place.before) (not (is_param_limit c.limit) && fits c.operations id) a.1 in
      let p = both (not (is_param_limit c.limit)) (fits c.operations id) b.1 in
      operated-good c s id (prim_at s) (λ d there. there) g a.0 b.0 (off (is_param_limit c.limit) p.0))
      (λ k. behind-good c s id g))

  -- ---- operands of one token

  pub literal-good : (l : Literal) (c : Context) (s : Tail) → GoodContext rule (at c s) → ReadyAt s (at c s) (literal_token l) → AllRested (on_literal l (at c s))
  literal-good l c s g r =
      rest-when (may_stand (at c s) (literal_place l).before) _
      (λ e. record {
        good = record { level = begun-level c s (literal_token l) e g r; tail = (tt, refl); param = g.param };
        rests = refl;
      })

  -- the name that it is behind is a `-`
  plain-level : (hs : List Head) (os : List Operation) (sign : Option PrefixSign) (n : Newline) (b : Bool) → GoodLevel rule hs os sign n b → GoodLevel rule hs os sign n false
  plain-level hs os None n b l = record { heads = l.heads; operations = l.operations; joined = l.joined; near = l.near; signed = tt }
  plain-level hs os (Some sign) n b l = record {
    heads = l.heads;
    operations = l.operations;
    joined = l.joined;
    near = l.near;
    signed = (l.signed.0, and-false (is_minus sign));
  }

  pub number-good : (n : Number) (c : Context) (s : Tail) → GoodContext rule (at c s) → ReadyAt s (at c s) (number_token n) → AllRested (on_number n s (at c s))
  number-good n c (AtSign id) g r =
      rest-at c (AtSign id) (AtPrim (MinusPrim id.place n)) g (plain-level c.heads c.operations c.sign id.place.before _ g.level) (r, refl) refl
  number-good n c s g r = literal-good (literal_of n) c s g (subst (ReadyAt s (at c s)) (sym (number-literal n)) r)

  -- ---- suffixes

  pub suffix-level : (c : Context) (s : Tail) (d : Prim) (ys : List Lexeme) → prim_at s ≡ Some d → GoodContext rule (at c s) → LevelOf rule c (prim_tokens d ++ ys)
  suffix-level c s d ys e g =
      level-same rule c.heads c.operations c.sign (prim_tokens d ++ ys) (tail_front s) (front-then (prim_tokens d ++ ys) (prim_tokens d) (tail_front s) (prim-append d ys) (prim-front s d e)) g.level

  record EtaOf (s : Tail) (d : Prim) : Type 0 where
    there : prim_at s ≡ Some d
    proper : ProperPrim rule d
    no_sign : is_sign_alone d ≡ false

  eta-of : (c : Context) (s : Tail) (d : Prim) → GoodTail rule c.limit s → eta_receiver (at c s) ≡ Some d → EtaOf s d
  eta-of c (AtNew place type) d g e = (let same : NewOf place type ≡ d = cc in subst (EtaOf (AtNew place type)) same (record { there = refl; proper = tt; no_sign = refl }))
  eta-of c s d g e =
      let there = not-param (is_param_limit c.limit) (receiver_at s) d e in
      let r = receiver-good rule c.limit s d g there in
      record { there = receiver-prim s d there; proper = r.proper; no_sign = receiver-sign d r.receives }

  eta-good : (c : Context) (s : Tail) (place : Place) (v : Option Prim) → eta_receiver (at c s) ≡ v → is_no place.before ≡ true → GoodContext rule (at c s) → AllRested (eta place (at c s) v)
  eta-good c s place None e n g = rest-none
  eta-good c s place (Some d) e n g =
      let k = eta-of c s d g.tail e in
      rest-at c s (AtPrim (EtaPrim d place)) g (suffix-level c s d _ k.there g) ((k.proper, k.no_sign, is-no place.before n), refl) refl

  pub underscore-good : (place : Place) (c : Context) (s : Tail) → GoodContext rule (at c s) → ReadyAt s (at c s) (underscore place) → AllRested (on_underscore place (at c s))
  underscore-good place c s g r =
      rest-if (may_begin_name (at c s) place.before) _ _ (λ e. rest-at c s (AtWild place) g (named-level c s (underscore place) e g r) tt refl)
      (λ e. rest-if (is_no place.before) _ _ (λ n. eta-good c s place (eta_receiver (at c s)) refl n g) (λ n. rest-none))

  -- a name or types behind it are not those of a type
  extends-not : (l : Limit) (s : Tail) (d : Prim) → GoodTail rule l s → ((place : Place) (type : WrittenType) → s ≡ AtNew place type → ends_in_path type ≡ false) → operand_at s ≡ Some d
      → extends_type d ≡ false
  extends-not l (AtSign id) d g n e = (let same : NamePrim id ≡ d = cc in ap extends_type (sym same))
  extends-not l (AtName id is_sign) d g n e = (let same : NamePrim id ≡ d = cc in ap extends_type (sym same))
  extends-not l (AtWild place) d g n e = (let same : Placeholder place ≡ d = cc in ap extends_type (sym same))
  extends-not l (AtGroup o parens k head) d g n e = not-new d (parens-plain o parens k d e).receives
  extends-not l (AtPrim prim) d g n e = (let same : prim ≡ d = cc in ap extends_type (sym same) ∙ not-new prim g.1)
  extends-not l (AtCall prim args) d g n e = (let same : ApplyPrim prim args ≡ d = cc in ap extends_type (sym same))
  extends-not l (AtNew place type) d g n e = (let same : NewOf place type ≡ d = cc in ap extends_type (sym same) ∙ n place type refl)
  extends-not l _ d g n e = cc

  -- an operand to which a point or types are added
  record Suffixed (c : Context) (d : Prim) : Type 0 where
    level : LevelOf rule c (prim_tokens d)
    prim : ProperPrim rule d × (extends_type d ≡ false)

  suffixed : (c : Context) (s : Tail) (d : Prim) → GoodContext rule (at c s) → ((place : Place) (type : WrittenType) → s ≡ AtNew place type → ends_in_path type ≡ false) → operand_at s ≡ Some d → Suffixed c d
  suffixed c s d g n e =
      let there = operand-prim s d e in
      record {
        level = level-same rule c.heads c.operations c.sign (prim_tokens d) (tail_front s) (prim-front s d there) g.level;
        prim = (prim-proper rule c.limit s d g.tail there, extends-not c.limit s d g.tail n e);
      }

  dotted-good : (c : Context) (s : Tail) (point : Place) (v : Option Prim) → operand_at s ≡ v → GoodContext rule (at c s) → ReadyAt s (at c s) (dot point) → AllRested (dotted point (at c s) v)
  dotted-good c s point None e g r = rest-none
  dotted-good c s point (Some d) e g r =
      let k = suffixed c s d g (λ place type is. (subst (λ t. ReadyAt t (at c t) (dot point)) is r).0 point refl) e in
      rest-if (is_param_limit c.limit) _ _ (λ p. rest-none) (λ p. rest-at c s (AtDot d point) g k.level k.prim refl)

  pub dot-good : (point : Place) (c : Context) (s : Tail) → GoodContext rule (at c s) → ReadyAt s (at c s) (dot point) → AllRested (on_dot point s (at c s))
  dot-good point c (AtSuper place) g r = rest-at c (AtSuper place) (AtSuperDot place point) g g.level tt refl
  dot-good point c s g r = dotted-good c s point (operand_at s) refl g r

  pub square-good : (o : Place) (c : Context) (s : Tail) (v : Option Prim) → operand_at s ≡ v → GoodContext rule (at c s) → ReadyAt s (at c s) (open_square o) → AllRested (squared o (at c s) v)
  square-good o c s None e g r = rest-none
  square-good o c s (Some d) e g r =
      let k = suffixed c s d g (λ place type is. (subst (λ t. ReadyAt t (at c t) (open_square o)) is r).1 o refl) e in
      rest-if (is_param_limit c.limit) _ _ (λ p. rest-none) (λ p. rest-at c s (InTypes d o [] type_begun) g k.level k.prim refl)

  pub types-good : (y : Seen) (prim : Prim) (o : Place) (done : List types.Done) (t : types.State) (v : Option WrittenType) (c : Context) → GoodContext rule (at c (InTypes prim o done t))
      → AllRested (types_on y prim o done v (at c (InTypes prim o done t)))
  types-good y prim o done t None c g = rest-none
  types-good (AComma p) prim o done t (Some type) c g = rest-at c (InTypes prim o done t) (InTypes prim o (record { type = type; place = p } ∷ done) type_begun) g g.level g.tail refl
  types-good (ClosesSquare p) prim o done t (Some type) c g =
      let d : Prim = TypeApplyPrim prim o (types.listed done (LastType type)) p in
      rest-at c (InTypes prim o done t) (AtPrim d) g
      (level-same rule c.heads c.operations c.sign (prim_tokens d) (prim_tokens prim) (prim-append prim _) g.level) ((g.tail.0, g.tail.1), refl) refl
  types-good _ prim o done t (Some type) c g = rest-none

  -- ---- one token more of a type

  pub type-good : (x : Lexeme) (c : Context) (s t : Tail) → GoodContext rule (at c s) → in_type c.limit s x ≡ Some t → Rested (at c t)
  type-good x c (InNew place u) t g e = go (goes_on c.limit u x) refl e where
    go : (v : Option types.State) → goes_on c.limit u x ≡ v → derived.new_type place v ≡ Some t → Rested (at c t)
    go None f h = cc
    go (Some w) f h =
        let same : InNew place w ≡ t = cc in
        subst (λ k. Rested (at c k)) same (record { good = record { level = g.level; tail = goes-good c.limit u x w g.tail f; param = g.param }; rests = refl })
  type-good x c (InTypes prim o done u) t g e = go (types.step u x) e where
    go : (v : Option types.State) → derived.types_type prim o done v ≡ Some t → Rested (at c t)
    go None h = cc
    go (Some w) h = (let same : InTypes prim o done w ≡ t = cc in subst (λ k. Rested (at c k)) same (record { good = record { level = g.level; tail = g.tail; param = g.param }; rests = refl }))
  type-good x c (InTyped of point u) t g e = go (types.step u x) e where
    go : (v : Option types.State) → derived.typed_type of point v ≡ Some t → Rested (at c t)
    go None h = cc
    go (Some w) h = (let same : InTyped of point w ≡ t = cc in subst (λ k. Rested (at c k)) same (record { good = record { level = g.level; tail = g.tail; param = g.param }; rests = refl }))
  type-good x c _ t g e = cc
