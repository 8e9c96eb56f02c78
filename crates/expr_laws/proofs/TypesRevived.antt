-- What was read of a type can be completed, by marks without newlines.
use Rattle.std.proofs.Common.{◌≡◌, List, [], ◌∷◌, ◌++◌, Some, refl, ap, sym, ◌∙◌, append-nil}
use Rattle.reading_machines.specs.Machines.{run}
use Rattle.source_grammar.specs.Lexemes.{Lexeme, close_round, close_square, arrow_token, id_token, QualId}
use Rattle.source_grammar.specs.Types.{WrittenType, Simple, Named, OfPath, Applied, LastType}
use Rattle.parse_parts.proofs.Along.{at, Leads, leads-none, leads-then, leads-on, leads-one, id-step, arrow-head}
use Rattle.parse_parts.proofs.Derived.{Head, NamedHead, NoneHead, TypesHead, Tail, Begin, AtPath, AtDot, AtNamed, AtNone, AtTypes, Bracket, Round, Square, Done, Frame, State, settled, listed, longer, step}
use Rattle.parse_patterns.proofs.Alive.{any_place, an_id}
use Rattle.expr_laws.proofs.Fillers.{an_arrow, Mark, Name, Closing, ClosingSquare, ArrowMark, mark_token, mark_tokens}

abbrev short : QualId
short = record { first = an_id; steps = [] }

-- these marks lead to where a path ends, in these brackets
record Pathed (fs : List Frame) (s : State) : Type 0 where
  others : List Mark
  heads : List Head
  path : QualId
  leads : Leads (mark_tokens others) s (at fs heads (AtPath path))

marks-append : (xs ys : List Mark) → mark_tokens (xs ++ ys) ≡ mark_tokens xs ++ mark_tokens ys
marks-append [] ys = refl
marks-append (m ∷ xs) ys = ap (λ ts. mark_token m ∷ ts) (marks-append xs ys)

leads-as : (xs ys : List Lexeme) (s t : State) → xs ≡ ys → Leads xs s t → Leads ys s t
leads-as xs ys s t e l = record { runs = λ zs. ap (λ ws. run step (ws ++ zs) s) (sym e) ∙ l.runs zs }

arrow-on : (fs : List Frame) (hs : List Head) (tail : Tail) (h : Head) → step (at fs hs tail) (arrow_token an_arrow) ≡ Some (at fs (h ∷ hs) Begin) → Pathed fs (at fs hs tail)
arrow-on fs hs tail h e = record {
  others = ArrowMark ∷ Name ∷ [];
  heads = h ∷ hs;
  path = short;
  leads = leads-on (arrow_token an_arrow) _ _ (at fs (h ∷ hs) Begin) _ e (leads-one (id_token an_id) _ _ (id-step an_id (at fs (h ∷ hs) Begin)));
}

pathed : (fs : List Frame) (hs : List Head) (tail : Tail) → Pathed fs (at fs hs tail)
pathed fs hs Begin = record { others = Name ∷ []; heads = hs; path = short; leads = leads-one _ _ _ (id-step an_id (at fs hs Begin)) }
pathed fs hs (AtPath path) = record { others = []; heads = hs; path = path; leads = leads-none _ }
pathed fs hs (AtDot path d) = record { others = Name ∷ []; heads = hs; path = longer path d an_id; leads = leads-one _ _ _ (id-step an_id (at fs hs (AtDot path d))) }
pathed fs hs (AtNamed named) = arrow-on fs hs (AtNamed named) (NamedHead named an_arrow) (arrow-head an_arrow fs hs (AtNamed named) _ refl)
pathed fs hs (AtNone o c) = arrow-on fs hs (AtNone o c) (NoneHead o c an_arrow) (arrow-head an_arrow fs hs (AtNone o c) _ refl)
pathed fs hs (AtTypes o types c) = arrow-on fs hs (AtTypes o types c) (TypesHead o types c an_arrow) (arrow-head an_arrow fs hs (AtTypes o types c) _ refl)

join : (fs gs : List Frame) (ms : List Mark) (s t : State) → Leads (mark_tokens ms) s t → Pathed gs t → Pathed gs s
join fs gs ms s t l r = record {
  others = ms ++ r.others;
  heads = r.heads;
  path = r.path;
  leads = leads-as (mark_tokens ms ++ mark_tokens r.others) (mark_tokens (ms ++ r.others)) s _ (sym (marks-append ms r.others)) (leads-then (mark_tokens ms) (mark_tokens r.others) s t _ l r.leads);
}

-- the brackets are closed one after another
closed : (fs : List Frame) (hs : List Head) (path : QualId) → Pathed [] (at fs hs (AtPath path))
closed [] hs path = record { others = []; heads = hs; path = path; leads = leads-none _ }
closed (f ∷ fs) hs path = go f.bracket f.done f.heads (λ outer p. closed fs outer p) where
  type : WrittenType
  type = settled hs (Simple (Named (OfPath path)))

  go : (b : Bracket) (done : List Done) (outer : List Head) → ((outer : List Head) (p : QualId) → Pathed [] (at fs outer (AtPath p)))
      → Pathed [] (at (record { bracket = b; done = done; heads = outer } ∷ fs) hs (AtPath path))
  go (Round o) done outer on =
      let tail : Tail = AtTypes o (listed done (LastType type)) any_place in
      let r = pathed fs outer tail in
      join fs [] (Closing ∷ []) _ (at fs outer tail) (leads-one (close_round any_place) _ _ refl) (join fs [] r.others _ (at fs r.heads (AtPath r.path)) r.leads (on r.heads r.path))
  go (Square p o) done outer on =
      let tail : Tail = AtNamed (Applied p o (listed done (LastType type)) any_place) in
      let r = pathed fs outer tail in
      join fs [] (ClosingSquare ∷ []) _ (at fs outer tail) (leads-one (close_square any_place) _ _ refl) (join fs [] r.others _ (at fs r.heads (AtPath r.path)) r.leads (on r.heads r.path))

-- these marks lead to a path outside all brackets
pub record TypeEnds (t : State) : Type 0 where
  pub others : List Mark
  pub heads : List Head
  pub path : QualId
  pub runs : run step (mark_tokens others) t ≡ Some (at [] heads (AtPath path))

pub type-ends : (t : State) → TypeEnds t
type-ends t =
    let r = pathed t.frames t.heads t.tail in
    let v = join t.frames [] r.others t (at t.frames r.heads (AtPath r.path)) r.leads (closed t.frames r.heads r.path) in
    record { others = v.others; heads = v.heads; path = v.path; runs = ap (λ xs. run step xs t) (sym (append-nil (mark_tokens v.others))) ∙ v.leads.runs [] }
