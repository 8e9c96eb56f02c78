-- A type behind `new` that a point or types do not go on with ends in no path.
use Rattle.std.proofs.Common.{◌≡◌, Bool, true, false, List, [], ◌∷◌, ◌++◌, Option, Some, None, refl, ap, sym, ◌∙◌, append_assoc}
use Rattle.source_grammar.specs.ExpressionRules.{is_name_kind, ends_with_name, ends_in_path}
use Rattle.source_grammar.specs.Lexemes.{Place, Lexeme, close_round, close_square, dot, open_round, open_square, qual_id_tokens}
use Rattle.source_grammar.specs.Types.{WrittenType, SimpleType, Simple, Applied, Singleton, type_list_tokens}
use Rattle.parse_parts.proofs.Derived as types
use Rattle.parse_parts.proofs.Seen as type_seen
use Rattle.parse_parts.proofs.Sound.{settled-tokens, simple-tokens}
use Rattle.parse_patterns.proofs.SimpleTypes.{goes, leaves, simple-can}
use Rattle.expr_tails.specs.declared.states.Limit.{Limit}
use Rattle.expr_tails.specs.declared.states.Limit.TheVariants as limit
use Rattle.expr_laws.proofs.Derived.{InNew, new_type, goes_on, in_type, type_begun, type_read, type_of}
use Rattle.expr_laws.proofs.Good.{is_type_tail, GoodType}

-- ---- the last token

ends-last : (xs : List Lexeme) (x : Lexeme) → ends_with_name (xs ++ x ∷ []) ≡ is_name_kind x.kind
ends-last [] x = refl
ends-last (a ∷ []) x = refl
ends-last (a ∷ b ∷ xs) x = ends-last (b ∷ xs) x

ends-token : (front xs ys : List Lexeme) (x : Lexeme) → ys ≡ xs ++ x ∷ [] → is_name_kind x.kind ≡ false → ends_with_name (front ++ ys) ≡ false
ends-token front xs ys x e n =
    ap (λ zs. ends_with_name (front ++ zs)) e ∙ ap ends_with_name (sym (append_assoc front xs (x ∷ []))) ∙ ends-last (front ++ xs) x ∙ n

abbrev is_path : types.Tail → Bool
is_path (types.AtPath path) = true
is_path _ = false

tail-ends : (front : List Lexeme) (k : types.Tail) (simple : SimpleType) → is_type_tail k ≡ true → is_path k ≡ false → types.simple_of k ≡ Some simple
    → ends_with_name (front ++ types.tail_tokens k) ≡ false
tail-ends front (types.AtPath path) simple t n e = cc
tail-ends front (types.AtNamed (Applied path o ts k)) simple t n e =
    ends-token front (qual_id_tokens path ++ open_square o ∷ type_list_tokens ts) _ (close_square k)
    (sym (append_assoc (qual_id_tokens path) (open_square o ∷ type_list_tokens ts) (close_square k ∷ []))) refl
tail-ends front (types.AtNamed (Singleton path d place)) simple t n e =
    ends-token front (qual_id_tokens path ++ dot d ∷ []) _ _ (sym (append_assoc (qual_id_tokens path) (dot d ∷ []) _)) refl
tail-ends front (types.AtNamed _) simple t n e = cc
tail-ends front (types.AtTypes o ts k) simple t n e = ends-token front (open_round o ∷ type_list_tokens ts) _ (close_round k) refl refl
tail-ends front _ simple t n e = cc

-- ---- what does not go on

none-new : (place : Place) (v : Option types.State) → new_type place v ≡ None → v ≡ None
none-new place None e = refl
none-new place (Some t) e = cc

-- a type whose tail is no path
no-path : (t : types.State) (type : WrittenType) → is_type_tail t.tail ≡ true → is_path t.tail ≡ false → type_of t ≡ Some type → ends_in_path type ≡ false
no-path t type own n e = go t.frames (types.simple_of t.tail) refl e where
  go : (fs : List types.Frame) (o : Option SimpleType) → types.simple_of t.tail ≡ o → type_read fs t.heads o ≡ Some type → ends_in_path type ≡ false
  go [] (Some simple) s f =
      let same : types.settled t.heads (Simple simple) ≡ type = cc in
      ap ends_in_path (sym same)
      ∙ ap ends_with_name (settled-tokens t.heads (Simple simple) ∙ ap (λ xs. types.heads_tokens t.heads ++ xs) (simple-tokens t.tail simple s))
      ∙ tail-ends (types.heads_tokens t.heads) t.tail simple own n s
  go [] None s f = cc
  go (frame ∷ fs) o s f = cc

pub dot-path : (l : Limit) (place : Place) (t : types.State) (p : Place) (type : WrittenType) → is_type_tail t.tail ≡ true → in_type l (InNew place t) (dot p) ≡ None → type_of t ≡ Some type
    → ends_in_path type ≡ false
dot-path l place t p type own e h = no-path t type own (not-path t.tail (goes-out l (none-new place (goes_on l t (dot p)) e))) h where
  goes-out : (k : Limit) → goes_on k t (dot p) ≡ None → types.dotted p t.tail t.heads t.frames ≡ None
  goes-out limit.CaseGuard f = f
  goes-out _ f = f

  not-path : (k : types.Tail) → types.dotted p k t.heads t.frames ≡ None → is_path k ≡ false
  not-path (types.AtPath path) f = cc
  not-path _ f = refl

pub square-path : (l : Limit) (place : Place) (t : types.State) (o : Place) (type : WrittenType) → is_type_tail t.tail ≡ true → in_type l (InNew place t) (open_square o) ≡ None → type_of t ≡ Some type
    → ends_in_path type ≡ false
square-path l place t o type own e h = no-path t type own (not-path t.tail (goes-out l (none-new place (goes_on l t (open_square o)) e))) h where
  goes-out : (k : Limit) → goes_on k t (open_square o) ≡ None → types.square_opened o t.tail t.heads t.frames ≡ None
  goes-out limit.CaseGuard f = f
  goes-out _ f = f

  not-path : (k : types.Tail) → types.square_opened o k t.heads t.frames ≡ None → is_path k ≡ false
  not-path (types.AtPath path) f = cc
  not-path _ f = refl

-- ---- one token more

own-some : (s u : types.State) → Some s ≡ Some u → is_type_tail s.tail ≡ true → is_type_tail u.tail ≡ true
own-some s u e own = (let same : s ≡ u = cc in ap (λ t. is_type_tail t.tail) (sym same) ∙ own)

filled-own : (o k : Place) (v : Option SimpleType) (hs : List types.Head) (f : types.Frame) (fs : List types.Frame) (u : types.State) → types.filled o k v hs f fs ≡ Some u → is_type_tail u.tail ≡ true
filled-own o k None hs f fs u e = cc
filled-own o k (Some simple) hs f fs u e = own-some _ u e refl

emptied-own : (o k : Place) (done : List types.Done) (hs : List types.Head) (fs : List types.Frame) (u : types.State) → types.emptied o k done hs fs ≡ Some u → is_type_tail u.tail ≡ true
emptied-own o k [] hs fs u e = own-some _ u e refl
emptied-own o k (d ∷ done) hs fs u e = cc

round-own : (o k : Place) (s : types.Tail) (hs : List types.Head) (f : types.Frame) (fs : List types.Frame) (u : types.State) → types.round_within o k s hs f fs ≡ Some u → is_type_tail u.tail ≡ true
round-own o k types.Begin [] f fs u e = emptied-own o k f.done f.heads fs u e
round-own o k s hs f fs u e = filled-own o k (types.simple_of s) hs f fs u e

closed-own : (k : Place) (b : types.Bracket) (s : types.Tail) (hs : List types.Head) (f : types.Frame) (fs : List types.Frame) (u : types.State) → types.round_closed k b s hs f fs ≡ Some u
    → is_type_tail u.tail ≡ true
closed-own k (types.Round o) s hs f fs u e = round-own o k s hs f fs u e
closed-own k (types.Square path o) s hs f fs u e = cc

square-own : (k : Place) (b : types.Bracket) (v : Option SimpleType) (hs : List types.Head) (f : types.Frame) (fs : List types.Frame) (u : types.State) → types.square_closed k b v hs f fs ≡ Some u
    → is_type_tail u.tail ≡ true
square-own k (types.Square path o) (Some simple) hs f fs u e = own-some _ u e refl
square-own k (types.Square path o) None hs f fs u e = cc
square-own k (types.Round o) v hs f fs u e = cc

parted-own : (k : Place) (v : Option SimpleType) (hs : List types.Head) (fs : List types.Frame) (u : types.State) → types.parted k v hs fs ≡ Some u → is_type_tail u.tail ≡ true
parted-own k None hs fs u e = cc
parted-own k (Some simple) hs [] u e = cc
parted-own k (Some simple) hs (f ∷ fs) u e = own-some _ u e refl

pushed-own : (v : Option types.Head) (hs : List types.Head) (fs : List types.Frame) (u : types.State) → types.pushed v hs fs ≡ Some u → is_type_tail u.tail ≡ true
pushed-own None hs fs u e = cc
pushed-own (Some h) hs fs u e = own-some _ u e refl

moved-own : (y : type_seen.Seen) (s : types.Tail) (hs : List types.Head) (fs : List types.Frame) (u : types.State) → types.moved y s hs fs ≡ Some u → is_type_tail u.tail ≡ true
moved-own (type_seen.AnId id) types.Begin hs fs u e = own-some _ u e refl
moved-own (type_seen.AnId id) (types.AtDot path d) hs fs u e = own-some _ u e refl
moved-own (type_seen.AnId id) _ hs fs u e = cc
moved-own (type_seen.OpensRound o) types.Begin hs fs u e = own-some _ u e refl
moved-own (type_seen.OpensRound o) _ hs fs u e = cc
moved-own (type_seen.ClosesRound k) s hs [] u e = cc
moved-own (type_seen.ClosesRound k) s hs (f ∷ fs) u e = closed-own k f.bracket s hs f fs u e
moved-own (type_seen.OpensSquare o) (types.AtPath path) hs fs u e = own-some _ u e refl
moved-own (type_seen.OpensSquare o) _ hs fs u e = cc
moved-own (type_seen.ClosesSquare k) s hs [] u e = cc
moved-own (type_seen.ClosesSquare k) s hs (f ∷ fs) u e = square-own k f.bracket (types.simple_of s) hs f fs u e
moved-own (type_seen.AComma k) s hs fs u e = parted-own k (types.simple_of s) hs fs u e
moved-own (type_seen.ADot d) (types.AtPath path) hs fs u e = own-some _ u e refl
moved-own (type_seen.ADot d) _ hs fs u e = cc
moved-own (type_seen.AnArrow a) s hs fs u e = pushed-own (types.head_of a s) hs fs u e
moved-own (type_seen.ATypeWord place) (types.AtDot path d) hs fs u e = own-some _ u e refl
moved-own (type_seen.ATypeWord place) _ hs fs u e = cc
moved-own (type_seen.Another x) s hs fs u e = cc

step-own : (t : types.State) (x : Lexeme) (u : types.State) → types.step t x ≡ Some u → is_type_tail u.tail ≡ true
step-own t x u e = moved-own (type_seen.seen x) t.tail t.heads t.frames u e

pub goes-good : (l : Limit) (t : types.State) (x : Lexeme) (u : types.State) → GoodType l t → goes_on l t x ≡ Some u → GoodType l u
goes-good limit.CaseGuard t x u g e = record { tail = step-own t x u (simple (leaves (type_seen.seen x) t.frames t.tail) e); can = simple-can t x u e g.can } where
  simple : (b : Bool) → goes b (types.step t x) ≡ Some u → types.step t x ≡ Some u
  simple true f = cc
  simple false f = f
goes-good limit.Expr t x u g e = record { tail = step-own t x u e; can = refl }
goes-good limit.Guard t x u g e = record { tail = step-own t x u e; can = refl }
goes-good limit.Param t x u g e = record { tail = step-own t x u e; can = refl }

pub begun-type : (l : Limit) → GoodType l type_begun
begun-type limit.CaseGuard = record { tail = refl; can = refl }
begun-type _ = record { tail = refl; can = refl }
