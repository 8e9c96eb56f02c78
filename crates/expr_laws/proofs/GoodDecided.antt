-- What the next item decides of the tail of a good context makes a good one, and says how the item stands there.
use Rattle.std.proofs.Common.{◌≡◌, Bool, true, false, ◌&&◌, ◌||◌, if◌then◌else◌, List, [], ◌∷◌, Option, Some, None, codes, refl, ap, sym, ◌∙◌, subst}
use Rattle.std.specs.Prelude.{not}
use Rattle.std.specs.Str.{bytes_eq}
use Rattle.scan_tokens.specs.declared.tokens.Newline.{Newline}
use Rattle.scan_tokens.specs.declared.tokens.Newline.TheVariants.{No}
use Rattle.scan_tokens.specs.declared.tokens.TokenKind.{TokenKind}
use Rattle.scan_tokens.specs.declared.tokens.TokenKind.TheVariants as kind
use Rattle.scan_tokens.specs.Words.{Bytes}
use Rattle.source_grammar.specs.Expressions.{PrefixSign, Plus, Minus, Bang, Tilde, Prim, SelectHole, ReturnOf}
use Rattle.source_grammar.specs.ExpressionRules.{Rule, ends_in_path, is_number_kind}
use Rattle.source_grammar.specs.ExpressionTokens.{sign_token, prim_tokens}
use Rattle.source_grammar.specs.Lexemes.{Place, Lexeme, dot, open_square, Id}
use Rattle.source_grammar.specs.Types.{WrittenType}
use Rattle.parse_parts.proofs.Derived as types
use Rattle.parse_patterns.specs.Steps.{is_no}
use Rattle.expr_tails.specs.declared.symbols.Symbol.{Symbol}
use Rattle.expr_tails.specs.Symbols.{symbol_of, begins_prim, begins_expr}
use Rattle.expr_laws.proofs.Agreeing.{and-false}
use Rattle.expr_laws.proofs.Behind.{both}
use Rattle.expr_laws.proofs.Derived.{Operation, Tail, Begin, AtSign, AtName, AtPrim, AtDot, InNew, AtNew, AtReturn, Head, Of, Context, Dotted, is_nil, is_none, is_number, is_id, is_param_limit, at, with_head, sign_of, with_sign, sign_decided, new_tail, decided_at, in_type, type_of, dotted_of}
use Rattle.expr_laws.proofs.Fitting.{IsFresh, Fits}
use Rattle.expr_laws.proofs.Good.{is-no, JoinedIf, SignedIf, is_minus, NearIf, operations_before, sign_before, is_return, rests_at, GoodHeads, GoodLevel, GoodContext}
use Rattle.expr_laws.proofs.GoodPrims.{level-same, prim-append, alone-joined}
use Rattle.expr_laws.proofs.GoodTypes.{dot-path, square-path}

-- ---- the next token

-- how a token may stand behind what was decided
abbrev pub ReadyAt : Tail → Context → Lexeme → Type 0
ReadyAt Begin c x = JoinedIf c.heads (operations_before c.operations (sign_before c.sign x.place.before)) × SignedIf c.sign x.place.before (is_number_kind x.kind)
ReadyAt (AtSign id) c x = x.place.before ≡ No
ReadyAt (AtNew place type) c x = ((p : Place) → x ≡ dot p → ends_in_path type ≡ false) × ((p : Place) → x ≡ open_square p → ends_in_path type ≡ false)
ReadyAt (AtReturn place) c x = (is_no x.place.before && begins_expr (symbol_of x.kind x.word)) ≡ false
ReadyAt _ c x = Unit {0}

abbrev pub Ready : Context → Lexeme → Type 0
Ready c x = ReadyAt c.tail c x

pub joined-none : (hs : List Head) → JoinedIf hs No
joined-none (Of (ReturnOf place) ∷ hs) = refl
joined-none _ = tt

-- ---- signs

record SignOf (id : Id) (sign : PrefixSign) : Type 0 where
  place : (sign_token sign).place ≡ id.place
  minus : is_minus sign ≡ true → bytes_eq id.name (codes "-") ≡ true

sign-is : (id : Id) (sign : PrefixSign) → sign_of id ≡ Some sign → SignOf id sign
sign-is id sign e =
    go (bytes_eq id.name (codes "-")) (bytes_eq id.name (codes "+")) (bytes_eq id.name (codes "!")) (bytes_eq id.name (codes "~")) refl e
  where
    by : (s : PrefixSign) → Some s ≡ Some sign → SignOf id s → SignOf id sign
    by s f k = (let same : s ≡ sign = cc in subst (SignOf id) same k)

    go : (a b c d : Bool) → bytes_eq id.name (codes "-") ≡ a
        → (if a then Some (Minus id.place) else (if b then Some (Plus id.place) else (if c then Some (Bang id.place) else (if d then Some (Tilde id.place) else None)))) ≡ Some sign → SignOf id sign
    go true b c d m f = by (Minus id.place) f (record { place = refl; minus = λ e. m })
    go false true c d m f = by (Plus id.place) f (record { place = refl; minus = λ e. (let no : false ≡ true = e in cc) })
    go false false true d m f = by (Bang id.place) f (record { place = refl; minus = λ e. (let no : false ≡ true = e in cc) })
    go false false false true m f = by (Tilde id.place) f (record { place = refl; minus = λ e. (let no : false ≡ true = e in cc) })
    go false false false false m f = cc

number-symbol : (k : TokenKind) (text : Bytes) → is_number_kind k ≡ true → is_number (symbol_of k text) ≡ true
unfolding symbol_of
number-symbol kind.Int text e = refl
number-symbol kind.Long text e = refl
number-symbol _ text e = cc

no-minus : (id : Id) (sign : PrefixSign) (k : TokenKind) (text : Bytes) → SignOf id sign → (is_number (symbol_of k text) && bytes_eq id.name (codes "-")) ≡ false → (is_minus sign && is_number_kind k) ≡ false
no-minus id sign k text s e = go (is_minus sign) (is_number_kind k) refl refl where
  go : (m n : Bool) → is_minus sign ≡ m → is_number_kind k ≡ n → (m && n) ≡ false
  go true true f g = sym (ap (λ b. b && bytes_eq id.name (codes "-")) (number-symbol k text g) ∙ s.minus f) ∙ e
  go true false f g = refl
  go false n f g = refl

-- ---- at the beginning

begin-ready : (hs : List Head) (os : List Operation) (sign : Option PrefixSign) (m n : Newline) (b : Bool) → (is_none sign && (not (is_return hs) || not (is_nil os))) ≡ true
    → JoinedIf hs (operations_before os (sign_before sign m)) → JoinedIf hs (operations_before os (sign_before sign n)) × SignedIf sign n b
begin-ready hs os (Some sign) m n b e j = cc
begin-ready hs (o ∷ os) None m n b e j = (j, tt)
begin-ready (Of (ReturnOf place) ∷ hs) [] None m n b e j = cc
begin-ready _ [] None m n b e j = (tt, tt)

module _ (rule : Rule) where
  pub record Decided (c : Context) (x : Lexeme) : Type 0 where
    pub good : GoodContext rule c
    pub ready : Ready c x

  sign-good : (c : Context) (id : Id) (x : Lexeme) → GoodContext rule (at c (AtSign id)) → Decided (sign_decided (at c (AtSign id)) id (symbol_of x.kind x.word) x.place.before) x
  sign-good c id x g = go (is_no x.place.before && (begins_prim y && not (is_param_limit c.limit))) (is_number y && bytes_eq id.name (codes "-")) c.sign (sign_of id) refl refl refl refl where
    y : Symbol
    y = symbol_of x.kind x.word

    now : Context
    now = at c (AtSign id)

    named : Decided (at c (AtName id true)) x
    named = record { good = record { level = g.level; tail = λ e. (let no : true ≡ false = e in cc); param = g.param }; ready = tt }

    directly : (is_no x.place.before && (begins_prim y && not (is_param_limit c.limit))) ≡ true → x.place.before ≡ No
    directly e = is-no x.place.before (both (is_no x.place.before) (begins_prim y && not (is_param_limit c.limit)) e).0

    not-param : (is_no x.place.before && (begins_prim y && not (is_param_limit c.limit))) ≡ true → not (is_param_limit c.limit) ≡ true
    not-param e = (both (begins_prim y) (not (is_param_limit c.limit)) (both (is_no x.place.before) (begins_prim y && not (is_param_limit c.limit)) e).1).1

    signed : (is_no x.place.before && (begins_prim y && not (is_param_limit c.limit))) ≡ true → (is_number y && bytes_eq id.name (codes "-")) ≡ false → (s o : Option PrefixSign) → c.sign ≡ s → sign_of id ≡ o
        → Decided (with_sign now s o id) x
    signed f m None (Some sign) e h =
        let is = sign-is id sign h in
        let joined : JoinedIf c.heads (operations_before c.operations (sign_token sign).place.before) =
        subst (λ p. JoinedIf c.heads (operations_before c.operations p.before)) (sym is.place)
        (subst (λ s. JoinedIf c.heads (operations_before c.operations (sign_before s id.place.before))) e g.level.joined) in
        record {
          good = record {
            level = record {
              heads = g.level.heads;
              operations = g.level.operations;
              joined = joined;
              near = subst (λ p. NearIf c.operations p.before) (sym is.place) (subst (λ s. NearIf c.operations (sign_before s id.place.before)) e g.level.near);
              signed = (refl, and-false (is_minus sign));
            };
            tail = tt;
            param = λ k. (let no : false ≡ true = sym (ap not k) ∙ not-param f in cc);
          };
          ready = (joined, (directly f, no-minus id sign x.kind x.word is m));
        }
    signed f m None None e h = named
    signed f m (Some s) o e h = named

    go : (follows minus : Bool) (s o : Option PrefixSign) → (is_no x.place.before && (begins_prim y && not (is_param_limit c.limit))) ≡ follows → (is_number y && bytes_eq id.name (codes "-")) ≡ minus
        → c.sign ≡ s → sign_of id ≡ o
        → Decided (if not follows then at now (AtName id true) else (if minus then at now (AtSign id) else with_sign now s o id)) x
    go false minus s o f m e h = named
    go true true s o f m e h = record { good = g; ready = directly f }
    go true false s o f m e h = signed f m s o e h

  new-good : (c : Context) (place : Place) (t : types.State) (x : Lexeme) → GoodContext rule (at c (InNew place t)) → in_type c.limit (InNew place t) x ≡ None
      → Decided (at c (new_tail place t (type_of t) (dotted_of t))) x
  new-good c place t x g out = go (type_of t) (dotted_of t) refl where
    go : (v : Option WrittenType) (d : Option Dotted) → type_of t ≡ v → Decided (at c (new_tail place t v d)) x
    go (Some type) d e = record {
      good = record { level = g.level; tail = tt; param = g.param };
      ready = (
        λ p is. dot-path c.limit place t p type g.tail.tail (ap (in_type c.limit (InNew place t)) (sym is) ∙ out) e,
        λ p is. square-path c.limit place t p type g.tail.tail (ap (in_type c.limit (InNew place t)) (sym is) ∙ out) e,
      );
    }
    go None (Some d) e = record { good = record { level = g.level; tail = (tt, refl); param = g.param }; ready = tt }
    go None None e = record { good = g; ready = tt }

  dot-good : (c : Context) (prim : Prim) (point : Place) (x : Lexeme) (b : Bool) → GoodContext rule (at c (AtDot prim point))
      → Decided (if b then at (at c (AtDot prim point)) (AtDot prim point) else at (at c (AtDot prim point)) (AtPrim (SelectHole prim point))) x
  dot-good c prim point x true g = record { good = g; ready = tt }
  dot-good c prim point x false g = record {
    good = record {
      level = level-same rule c.heads c.operations c.sign (prim_tokens (SelectHole prim point)) (prim_tokens prim) (prim-append prim (dot point ∷ [])) g.level;
      tail = (g.tail.0, refl);
      param = g.param;
    };
    ready = tt;
  }

  -- behind heads alone
  pub fresh-level : (hs : List Head) (os : List Operation) (sign : Option PrefixSign) → IsFresh os sign → GoodHeads rule hs → GoodLevel rule hs os sign No false
  fresh-level hs os sign f g =
      subst (λ ks. GoodLevel rule hs ks sign No false) (sym f.operations)
      (subst (λ s. GoodLevel rule hs [] s No false) (sym f.sign) (record { heads = g; operations = tt; joined = joined-none hs; near = tt; signed = tt }))

  return-good : (c : Context) (place : Place) (x : Lexeme) → Fits (at c (AtReturn place)) → GoodContext rule (at c (AtReturn place))
      → Decided (decided_at (AtReturn place) (at c (AtReturn place)) (symbol_of x.kind x.word) x.place.before) x
  return-good c place x f g = go (is_no x.place.before && begins_expr (symbol_of x.kind x.word)) refl where
    now : Context
    now = at c (AtReturn place)

    first : JoinedIf c.heads place.before
    first = alone-joined c.heads c.operations c.sign place.before (f.alone refl) g.level.joined

    go : (b : Bool) → (is_no x.place.before && begins_expr (symbol_of x.kind x.word)) ≡ b → Decided (if b then with_head now (Of (ReturnOf place)) else at now (AtReturn place)) x
    go true e =
        let n : x.place.before ≡ No = is-no x.place.before (both (is_no x.place.before) (begins_expr (symbol_of x.kind x.word)) e).0 in
        record {
          good = record { level = fresh-level (Of (ReturnOf place) ∷ c.heads) c.operations c.sign (f.alone refl) ((λ body j. j), first, g.level.heads); tail = tt; param = g.param };
          ready = begun (f.alone refl) n;
        }
      where
        begun : IsFresh c.operations c.sign → x.place.before ≡ No
            → (operations_before c.operations (sign_before c.sign x.place.before) ≡ No) × SignedIf c.sign x.place.before (is_number_kind x.kind)
        begun k n = (
          ap (λ ks. operations_before ks (sign_before c.sign x.place.before)) k.operations ∙ ap (λ s. sign_before s x.place.before) k.sign ∙ n,
          subst (λ s. SignedIf s x.place.before (is_number_kind x.kind)) (sym k.sign) tt,
        )
    go false e = record { good = g; ready = e }

  pub decided-good : (c : Context) (s : Tail) (x : Lexeme) → Fits (at c s) → GoodContext rule (at c s) → rests_at s (at c s) ≡ true → in_type c.limit s x ≡ None
      → Decided (decided_at s (at c s) (symbol_of x.kind x.word) x.place.before) x
  decided-good c (AtSign id) x f g r out = sign-good c id x g
  decided-good c (InNew place t) x f g r out = new-good c place t x g out
  decided-good c (AtDot prim point) x f g r out = dot-good c prim point x (is_id (symbol_of x.kind x.word)) g
  decided-good c (AtReturn place) x f g r out = return-good c place x f g
  decided-good c Begin x f g r out = record { good = g; ready = begin-ready c.heads c.operations c.sign No x.place.before (is_number_kind x.kind) r g.level.joined }
  decided-good c (AtNew place type) x f g r out = cc
  decided-good c _ x f g r out = record { good = g; ready = tt }
