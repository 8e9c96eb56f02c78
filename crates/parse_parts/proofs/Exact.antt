-- The machine reads exactly the types, and each of its states can still become one.
use Rattle.std.proofs.Common.{◌≡◌, true, false, List, [], ◌∷◌, ◌++◌, Some, None, refl, ap, sym, ◌∙◌, append-nil}
use Rattle.scan_tokens.specs.declared.tokens.Newline.TheVariants.{No}
use Rattle.reading_machines.specs.Machines.{run, onward}
use Rattle.reading_machines.specs.Parts.{CanBegin}
use Rattle.reading_machines.specs.Laws.{ReadsExactly}
use Rattle.reading_machines.proofs.Runs.{run-append}
use Rattle.positioned_trees.specs.declared.trees.Tree.{Tree}
use Rattle.source_grammar.specs.Lexemes.{Place, Lexeme, close_round, close_square, Arrow, arrow_token, Id, id_token, QualId}
use Rattle.source_grammar.specs.Types.{WrittenType, Simple, Named, OfPath, Applied, LastType, IsType, type_tokens, type_tree}
use Rattle.parse_parts.specs.Parting.{IsSomePart}
use Rattle.parse_parts.proofs.Derived.{Head, NamedHead, NoneHead, TypesHead, Tail, Begin, AtPath, AtDot, AtNamed, AtNone, AtTypes, Bracket, Round, Square, Frame, State, settled, listed, simple_of, longer, step, is_some, whole_at, machine}
use Rattle.parse_parts.proofs.Sound.{whole-is, type_read, whole-tokens}
use Rattle.parse_parts.proofs.Along.{at, Leads, leads-none, leads-then, leads-on, leads-one, id-step, arrow-head, last_simple, heads_of, simple-there, settled-there, after, type-along}

pub type-runs : (d : WrittenType) (xs : List Lexeme) → xs ≡ type_tokens d → run step xs (machine).start ≡ Some (after [] [] d)
type-runs d xs e = ap (λ ys. run step ys (machine).start) (e ∙ sym (append-nil (type_tokens d))) ∙ (type-along d [] []).runs []

abbrev any_place : Place
any_place = record { span = record { start = 0; end = 0 }; before = No }

abbrev an_id : Id
an_id = record { name = []; quoted = false; place = any_place }

abbrev an_arrow : Arrow
an_arrow = record { one_character = false; place = any_place }

abbrev short : QualId
short = record { first = an_id; steps = [] }

record Revived (fs : List Frame) (s : State) : Type 0 where
  others : List Lexeme
  heads : List Head
  path : QualId
  leads : Leads others s (at fs heads (AtPath path))

arrow-on : (fs : List Frame) (hs : List Head) (tail : Tail) (h : Head) → step (at fs hs tail) (arrow_token an_arrow) ≡ Some (at fs (h ∷ hs) Begin) → Revived fs (at fs hs tail)
arrow-on fs hs tail h e = record {
  others = arrow_token an_arrow ∷ id_token an_id ∷ [];
  heads = h ∷ hs;
  path = short;
  leads = leads-on (arrow_token an_arrow) _ _ (at fs (h ∷ hs) Begin) _ e (leads-one (id_token an_id) _ _ (id-step an_id (at fs (h ∷ hs) Begin)));
}

revived : (fs : List Frame) (hs : List Head) (tail : Tail) → Revived fs (at fs hs tail)
revived fs hs Begin = record { others = id_token an_id ∷ []; heads = hs; path = short; leads = leads-one _ _ _ (id-step an_id (at fs hs Begin)) }
revived fs hs (AtPath path) = record { others = []; heads = hs; path = path; leads = leads-none _ }
revived fs hs (AtDot path d) = record { others = id_token an_id ∷ []; heads = hs; path = longer path d an_id; leads = leads-one _ _ _ (id-step an_id (at fs hs (AtDot path d))) }
revived fs hs (AtNamed named) = arrow-on fs hs (AtNamed named) (NamedHead named an_arrow) (arrow-head an_arrow fs hs (AtNamed named) _ refl)
revived fs hs (AtNone o c) = arrow-on fs hs (AtNone o c) (NoneHead o c an_arrow) (arrow-head an_arrow fs hs (AtNone o c) _ refl)
revived fs hs (AtTypes o types c) = arrow-on fs hs (AtTypes o types c) (TypesHead o types c an_arrow) (arrow-head an_arrow fs hs (AtTypes o types c) _ refl)

join : (fs gs : List Frame) (xs : List Lexeme) (s t : State) → Leads xs s t → Revived gs t → Revived gs s
join fs gs xs s t l r = record { others = xs ++ r.others; heads = r.heads; path = r.path; leads = leads-then xs r.others s t _ l r.leads }

-- the brackets are closed one after another
closed : (fs : List Frame) (hs : List Head) (path : QualId) → Revived [] (at fs hs (AtPath path))
closed [] hs path = record { others = []; heads = hs; path = path; leads = leads-none _ }
closed (f ∷ fs) hs path = go f.bracket f.done f.heads (λ outer p. closed fs outer p) where
  type : WrittenType
  type = settled hs (Simple (Named (OfPath path)))

  go : (b : Bracket) (done : List _) (outer : List Head) → ((outer : List Head) (p : QualId) → Revived [] (at fs outer (AtPath p)))
      → Revived [] (at (record { bracket = b; done = done; heads = outer } ∷ fs) hs (AtPath path))
  go (Round o) done outer on =
      let tail = AtTypes o (listed done (LastType type)) any_place in
      let r = revived fs outer tail in
      join fs [] (close_round any_place ∷ []) _ (at fs outer tail) (leads-one _ _ _ refl) (join fs [] r.others _ _ r.leads (on r.heads r.path))
  go (Square p o) done outer on =
      let tail = AtNamed (Applied p o (listed done (LastType type)) any_place) in
      let r = revived fs outer tail in
      join fs [] (close_square any_place ∷ []) _ (at fs outer tail) (leads-one _ _ _ refl) (join fs [] r.others _ _ r.leads (on r.heads r.path))

alive : (s : State) → Revived [] s
alive s = let r = revived s.frames s.heads s.tail in join s.frames [] r.others s (at s.frames r.heads (AtPath r.path)) r.leads (closed s.frames r.heads r.path)

sound : (xs : List Lexeme) (s : State) → run step xs (machine).start ≡ Some s → whole_at s.frames s.tail ≡ true → IsSomePart IsType xs
sound xs s r w =
    let whole = whole-is s w in
    record { tree = type_tree (type_read s.heads whole.simple); is = record { derivation = type_read s.heads whole.simple; tokens = whole-tokens xs s r whole; built = refl } }

begins : (xs : List Lexeme) (s : State) → run step xs (machine).start ≡ Some s → CanBegin (IsSomePart IsType) xs
begins xs s r =
    let v = alive s in
    let there : State = at [] v.heads (AtPath v.path) in
    let on : run step v.others s ≡ Some there = ap (λ ys. run step ys s) (sym (append-nil v.others)) ∙ v.leads.runs [] in
    record { others = v.others; part = sound (xs ++ v.others) there (run-append step xs v.others (machine).start ∙ ap (λ o. onward o None (run step v.others)) r ∙ on) refl }

pub reads-types : ReadsExactly (IsSomePart IsType) machine
reads-types = record {
  complete = λ xs is. (after [] [] is.is.derivation, type-runs is.is.derivation xs is.is.tokens, ap is_some (simple-there (last_simple is.is.derivation)));
  sound = sound;
  alive = begins;
}

-- the tokens of a type have one derivation
pub one-derivation : (d e : WrittenType) → type_tokens d ≡ type_tokens e → d ≡ e
one-derivation d e same =
    let states : Some (after [] [] d) ≡ Some (after [] [] e) = sym (type-runs d (type_tokens d) refl) ∙ type-runs e (type_tokens d) same in
    let there : after [] [] d ≡ after [] [] e = cc in
    let heads : heads_of d [] ≡ heads_of e [] = ap (λ s. s.heads) there in
    let tails : Some (last_simple d) ≡ Some (last_simple e) =
    sym (simple-there (last_simple d)) ∙ ap (λ s. simple_of s.tail) there ∙ simple-there (last_simple e) in
    let simples : last_simple d ≡ last_simple e = cc in
    sym (settled-there d []) ∙ ap (λ hs. settled hs (Simple (last_simple d))) heads ∙ ap (λ s. settled (heads_of e []) (Simple s)) simples ∙ settled-there e []

pub one-tree : (xs : List Lexeme) (t u : Tree) → IsType xs t → IsType xs u → t ≡ u
one-tree xs t u a b = a.built ∙ ap type_tree (one-derivation a.derivation b.derivation (sym a.tokens ∙ b.tokens)) ∙ sym b.built
