-- What the next item decides of the tail before it, the reader as the machine.
use Rattle.std.proofs.Common.{◌≡◌, ℕ, Bool, true, false, ◌&&◌, ◌||◌, if◌then◌else◌, List, [], ◌∷◌, ◌++◌, Option, Some, None, codes, refl, ap, sym, ◌∙◌, subst}
use Rattle.std.specs.Prelude.{not}
use Rattle.std.specs.Str.{bytes_eq}
use Rattle.std.proofs.lemmas.Slice.Eq.{bytes_eq-Decides}
use Rattle.pc_terms.specs.declared.problems.Span.{Span}
use Rattle.scan_tokens.specs.declared.tokens.Newline.{Newline}
use Rattle.scan_tokens.specs.Words.{Bytes}
use Rattle.source_grammar.specs.Expressions.{PrefixSign, Plus, Minus, Bang, Tilde, NewOf, SelectHole, ReturnOf}
use Rattle.source_grammar.specs.ExpressionRules.{is_prefix_id}
use Rattle.source_grammar.specs.Lexemes.{Place, Id}
use Rattle.source_grammar.specs.Spans.{end_behind}
use Rattle.source_grammar.specs.Types.{WrittenType}
use Rattle.parse_parts.proofs.Derived as types
use Rattle.parse_parts.proofs.Shown as type_shown
use Rattle.parse_parts.proofs.Sound.{tokens_in}
use Rattle.parse_patterns.specs.Steps.{is_no}
use Rattle.tree_lower.specs.Keeping.{name_of, sign_name}
use Rattle.expr_tails.specs.declared.states.Context.{Context}
use Rattle.expr_tails.specs.declared.states.Form.TheVariants as form
use Rattle.expr_tails.specs.declared.states.NewOf.{NewOf as WrittenNew}
use Rattle.expr_tails.specs.declared.states.Tail.{Tail}
use Rattle.expr_tails.specs.declared.states.Tail.TheVariants as tail
use Rattle.expr_tails.specs.declared.symbols.Symbol.{Symbol}
use Rattle.expr_tails.specs.Ending.{at_tail}
use Rattle.expr_tails.specs.Tails.{new_at, new_with_type, select_hole}
use Rattle.expr_tails.specs.Symbols.{begins_prim, begins_expr}
use Rattle.expr_tails.specs.Types.{is_type_and_dot}
use Rattle.expr_frames.specs.Heads.{reach_of, reach_with, with_head}
use Rattle.expr_steps.specs.Steps as spec
use Rattle.expr_laws.proofs.Agreeing.{type-whole, type-dotted}
use Rattle.expr_laws.proofs.Derived as derived
use Rattle.expr_laws.proofs.NewTypes.{new-type-shown, new-dotted-shown, dotted-end, new-piece, hole-piece, hole-free}
use Rattle.expr_laws.proofs.Shown.{operations_shown, operations_free, sign_shown, prim_piece, head_start, kind_shown, head_free, heads_shown, context_with, context_shown}

-- ---- signs

-- an identifier that can be a prefix operator
pub record IsSign (id : Id) : Type 0 where
  pub sign : PrefixSign
  pub found : derived.sign_of id ≡ Some sign
  pub named : sign_name sign ≡ name_of id

same-word : (a b : Bytes) → bytes_eq a b ≡ true → a ≡ b
same-word a b e = (bytes_eq-Decides a b).0 e

not-any : (q : Bool) → (not q && (false || (false || (false || (false || false))))) ≡ true → ⊥
not-any true e = cc
not-any false e = cc

pub is-sign : (id : Id) → is_prefix_id id ≡ true → IsSign id
is-sign id e = go (bytes_eq (codes "-") id.name) (bytes_eq (codes "+") id.name) (bytes_eq (codes "!") id.name) (bytes_eq (codes "~") id.name) refl refl refl refl e where
  named : Bytes → Id
  named name = record { name = name; quoted = id.quoted; place = id.place }

  by : (word : Bytes) → bytes_eq word id.name ≡ true → IsSign (named word) → IsSign id
  by word f there = subst (λ name. IsSign (named name)) (same-word word id.name f) there

  go : (a b c d : Bool) → bytes_eq (codes "-") id.name ≡ a → bytes_eq (codes "+") id.name ≡ b → bytes_eq (codes "!") id.name ≡ c → bytes_eq (codes "~") id.name ≡ d
      → (not id.quoted && (a || (b || (c || (d || false))))) ≡ true → IsSign id
  go true b c d f g h i k = by (codes "-") f (record { sign = Minus id.place; found = refl; named = refl })
  go false true c d f g h i k = by (codes "+") g (record { sign = Plus id.place; found = refl; named = refl })
  go false false true d f g h i k = by (codes "!") h (record { sign = Bang id.place; found = refl; named = refl })
  go false false false true f g h i k = by (codes "~") i (record { sign = Tilde id.place; found = refl; named = refl })
  go false false false false f g h i k = absurd (not-any id.quoted k)

sign-by : (c : derived.Context) (id : Id) (s : Option PrefixSign) → IsSign id
    → (let d : derived.Context = record { heads = c.heads; operations = c.operations; sign = s; tail = derived.AtSign id; limit = c.limit } in
    spec.signed_by (context_shown d) (sign_shown s) (name_of id) ≡ context_shown (derived.with_sign d s (derived.sign_of id) id))
sign-by c id None is =
    let d : derived.Context = record { heads = c.heads; operations = c.operations; sign = None; tail = derived.AtSign id; limit = c.limit } in
    ap (λ name. spec.with_sign (context_shown d) name) (sym is.named) ∙ ap (λ o. context_shown (derived.with_sign d None o id)) (sym is.found)
sign-by c id (Some sign) is = refl

sign-shown : (c : derived.Context) (id : Id) (y : Symbol) (before : Newline) → is_prefix_id id ≡ true
    → spec.sign_decided (context_shown (derived.at c (derived.AtSign id))) (name_of id) y before ≡ context_shown (derived.sign_decided (derived.at c (derived.AtSign id)) id y before)
sign-shown c id y before e = go (is_no before && (begins_prim y && not (derived.is_param_limit c.limit))) (derived.is_number y && bytes_eq id.name (codes "-")) where
  now : derived.Context
  now = derived.at c (derived.AtSign id)

  go : (follows minus : Bool)
      → (if not follows then at_tail (context_shown now) (tail.AtName (name_of id) true)
      else (if minus then at_tail (context_shown now) (tail.AtSign (name_of id)) else spec.signed_by (context_shown now) (sign_shown c.sign) (name_of id)))
      ≡ context_shown (if not follows then derived.at now (derived.AtName id true)
      else (if minus then derived.at now (derived.AtSign id) else derived.with_sign now c.sign (derived.sign_of id) id))
  go false minus = refl
  go true true = refl
  go true false = sign-by c id c.sign (is-sign id e)

-- ---- `new`

new-decided : (c : derived.Context) (word : Place) (t : types.State)
    → at_tail (context_shown (derived.at c (derived.InNew word t))) (spec.new_decided word.span.start (end_behind word.span.end (tokens_in t)) (type_shown.shown t))
    ≡ context_shown (derived.at c (derived.new_tail word t (derived.type_of t) (derived.dotted_of t)))
new-decided c word t =
    ap (λ b. at_tail now (if b then tail.AtNew read else (if is_type_and_dot (type_shown.shown t) then hole else tail.InNew word.span.start end (type_shown.shown t)))) (type-whole t)
    ∙ ap (λ b. at_tail now (if derived.is_some (derived.type_of t) then tail.AtNew read else (if b then hole else tail.InNew word.span.start end (type_shown.shown t)))) (type-dotted t)
    ∙ go (derived.type_of t) (derived.dotted_of t) refl refl
  where
    now : Context
    now = context_shown (derived.at c (derived.InNew word t))

    end : ℕ
    end = end_behind word.span.end (tokens_in t)

    read : WrittenNew
    read = new_with_type word.span.start (type_shown.shown t)

    hole : Tail
    hole = spec.hole_of_new word.span.start end (type_shown.shown t)

    go : (o : Option WrittenType) (p : Option derived.Dotted) → derived.type_of t ≡ o → derived.dotted_of t ≡ p
        → at_tail now (if derived.is_some o then tail.AtNew read else (if derived.is_some p then hole else tail.InNew word.span.start end (type_shown.shown t)))
        ≡ context_shown (derived.at c (derived.new_tail word t o p))
    go (Some type) p e f = ap (λ n. at_tail now (tail.AtNew n)) (new-type-shown word t type e)
    go None (Some d) e f =
        ap (λ n. at_tail now (tail.AtPrim (select_hole (new_at n) end) form.Hole)) (new-dotted-shown word t d f)
        ∙ ap (λ o. at_tail now (tail.AtPrim (select_hole o end) form.Hole)) (new-piece word d.type)
        ∙ ap (λ n. at_tail now (tail.AtPrim (select_hole (prim_piece (NewOf word d.type)) n) form.Hole)) (dotted-end word.span.end t d f)
        ∙ ap (λ o. at_tail now (tail.AtPrim o form.Hole)) (hole-piece (NewOf word d.type) d.point)
    go None None e f = refl

-- ---- heads

-- a head more, in front of which nothing of a chain was read
pub behind-head : (c : derived.Context) (h : derived.Head) (free : List Span) (at : Tail) → c.operations ≡ [] → free ≡ head_free h
    → with_head (context_with c free at) (head_start h) (kind_shown h) ≡ context_shown (derived.with_head c h)
behind-head c h free at none e = go c.operations none where
  context : List derived.Operation → List Span → List Span → Context
  context os before behind = record {
    heads = record { start = head_start h; kind = kind_shown h; free = before; reach = reach_with (reach_of (heads_shown c.heads)) (kind_shown h) } ∷ heads_shown c.heads;
    free = behind;
    operations = operations_shown os;
    sign = sign_shown c.sign;
    tail = tail.Begin;
    limit = c.limit;
  }

  go : (os : List derived.Operation) → os ≡ [] → context os (operations_free os ++ free) [] ≡ context os (head_free h) (operations_free os ++ [])
  go [] f = ap (λ spans. context [] spans []) e
  go (o ∷ os) f = cc

-- ---- any tail

-- what is asked of a tail, so that what an item decides of it is what the machine decides
abbrev pub Decidable : List derived.Operation → derived.Tail → Type 0
Decidable os (derived.AtSign id) = is_prefix_id id ≡ true
Decidable os (derived.AtReturn word) = os ≡ []
Decidable os _ = Unit {0}

pub decided-shown : (c : derived.Context) (s : derived.Tail) (y : Symbol) (before : Newline) → Decidable c.operations s
    → spec.decided (context_shown (derived.at c s)) y before ≡ context_shown (derived.decided_at s (derived.at c s) y before)
decided-shown c (derived.AtSign id) y before d = sign-shown c id y before d
decided-shown c (derived.InNew word t) y before d = new-decided c word t
decided-shown c (derived.AtDot prim point) y before d = go (derived.is_id y) where
  now : derived.Context
  now = derived.at c (derived.AtDot prim point)

  go : (b : Bool)
      → at_tail (context_shown now) (if b then tail.AtDot (prim_piece prim) point.span else tail.AtPrim (select_hole (prim_piece prim) point.span.end) form.Hole)
      ≡ context_shown (if b then derived.at now (derived.AtDot prim point) else derived.at now (derived.AtPrim (SelectHole prim point)))
  go true = refl
  go false =
      ap (λ o. at_tail (context_shown now) (tail.AtPrim o form.Hole)) (hole-piece prim point)
      ∙ ap (λ free. context_with c free (tail.AtPrim (prim_piece (SelectHole prim point)) form.Hole)) (sym (hole-free prim point))
decided-shown c (derived.AtReturn word) y before d = go (is_no before && begins_expr y) where
  now : derived.Context
  now = derived.at c (derived.AtReturn word)

  go : (b : Bool)
      → (if b then with_head (context_shown now) word.span.start (kind_shown (derived.Of (ReturnOf word))) else at_tail (context_shown now) (tail.AtReturn word.span))
      ≡ context_shown (if b then derived.with_head now (derived.Of (ReturnOf word)) else derived.at now (derived.AtReturn word))
  go true = behind-head now (derived.Of (ReturnOf word)) [] (tail.AtReturn word.span) d refl
  go false = refl
decided-shown c _ y before d = refl
