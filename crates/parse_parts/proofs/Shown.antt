-- The reader's state is the machine's, with the trees of its derivations as far as these are kept.
use Rattle.std.proofs.Common.{◌≡◌, ℕ, Bool, true, false, if◌then◌else◌, List, [], ◌∷◌, ◌++◌, map, Some, refl, ap, sym, ◌∙◌, append_assoc}
use Rattle.pc_terms.specs.declared.tree_kinds.TreeKind.TheVariants as kind
use Rattle.positioned_trees.specs.declared.trees.Tree.{Tree}
use Rattle.positioned_trees.specs.declared.trees.Tree.TheViews.{out-Tree, out-roll-Tree}
use Rattle.source_grammar.specs.Lexemes.{Place, Lexeme, open_round, Id, id_token, Step, QualId, steps_tokens, qual_id_tokens}
use Rattle.source_grammar.specs.Spans.{labelled, unlabelled, end_behind, span_of}
use Rattle.source_grammar.specs.Types.{WrittenType, SimpleType, NamedType, TypeList, FunOfNamed, FunOfNone, FunOfTypes, Simple, Named, InParentheses, Pair, Triple, OfPath, Applied, Singleton, LastType, MoreTypes, type_tokens, simple_tokens, named_tokens, type_list_tokens, type_tree, simple_tree, named_tree, type_list_trees, path_tree, path_type, path_type_tree, prefix_kids, before_last, steps_tree, select_tree, ident_tree, last_of, last_id, path_span, fun_type}
use Rattle.parse_parts.specs.declared.states.Bracket.{Bracket}
use Rattle.parse_parts.specs.declared.states.Bracket.TheVariants as bracket
use Rattle.parse_parts.specs.declared.states.Count.{Count}
use Rattle.parse_parts.specs.declared.states.Count.TheVariants as count
use Rattle.parse_parts.specs.declared.states.Path.{Path}
use Rattle.parse_parts.specs.declared.states.Head.{Head}
use Rattle.parse_parts.specs.declared.states.Frame.{Frame}
use Rattle.parse_parts.specs.declared.states.Tail.{Tail}
use Rattle.parse_parts.specs.declared.states.Tail.TheVariants as tail
use Rattle.parse_parts.specs.declared.states.State.{State}
use Rattle.parse_parts.specs.Built.{no_kids, joined, alone, node}
use Rattle.parse_parts.specs.Steps as spec
use Rattle.parse_parts.proofs.Derived as derived
use Rattle.parse_parts.proofs.Sound.{fun-tokens, simple-tokens}
use Rattle.parse_parts.proofs.Kept.{kept, kept_all, joined-kept, alone-kept, node-kept, only-kept}

-- ---- counts and lists

abbrev pub count_of : TypeList → Count
count_of (LastType type) = count.One
count_of (MoreTypes type p types) = spec.next (count_of types)

abbrev pub counted : List derived.Done → Count → Count
counted [] n = n
counted (d ∷ done) n = counted done (spec.next n)

pub counted-listed : (done : List derived.Done) (types : TypeList) → count_of (derived.listed done types) ≡ counted done (count_of types)
counted-listed [] types = refl
counted-listed (d ∷ done) types = counted-listed done (MoreTypes d.type d.place types)

pub counted-next : (done : List derived.Done) (n : Count) → counted done (spec.next n) ≡ spec.next (counted done n)
counted-next [] n = refl
counted-next (d ∷ done) n = counted-next done (spec.next n)

abbrev pub done_trees : List derived.Done → List Tree
done_trees [] = []
done_trees (d ∷ done) = done_trees done ++ type_tree d.type ∷ []

pub listed-trees : (done : List derived.Done) (types : TypeList) → type_list_trees (derived.listed done types) ≡ done_trees done ++ type_list_trees types
listed-trees [] types = refl
listed-trees (d ∷ done) types = listed-trees done (MoreTypes d.type d.place types) ∙ sym (append_assoc (done_trees done) (type_tree d.type ∷ []) (type_list_trees types))

-- ---- paths

abbrev pub has_steps : List Step → Bool
has_steps [] = false
has_steps (s ∷ steps) = true

abbrev pub path_shown : QualId → Path
path_shown path = record {
  start = path.first.place.span.start;
  name = record { text = (last_id path).name; span = (last_id path).place.span };
  qualified = has_steps path.steps;
  prefix = kept_all (prefix_kids path);
}

-- a path with a name more is a Select over what was there
steps-select : (from : Tree) (start : ℕ) (s : Step) (steps : List Step) → (out-Tree from).span.start ≡ start
    → steps_tree from (s ∷ steps)
    ≡ labelled kind.Select (last_of s.id steps).name (last_of s.id steps).place.span (record { start = start; end = (last_of s.id steps).place.span.end }) (before_last from (s ∷ steps))
steps-select from start s [] e = ap (λ n. labelled kind.Select s.id.name s.id.place.span (record { start = n; end = s.id.place.span.end }) (from ∷ [])) e
steps-select from start s (next ∷ steps) e = steps-select (select_tree from s.id) start next steps (ap (λ t. t.span.start) (out-roll-Tree _) ∙ e)

pub path-term : (path : QualId) → spec.path_term (path_shown path) ≡ kept (path_tree path)
path-term path = go path.steps refl where
  go : (steps : List Step) → path.steps ≡ steps → spec.path_term (path_shown (record { first = path.first; steps = steps })) ≡ kept (path_tree (record { first = path.first; steps = steps }))
  go [] e = node-kept kind.Ident _ _ _ []
  go (s ∷ steps) e = node-kept kind.Select _ _ _ _ ∙ ap kept (sym (steps-select (ident_tree path.first) path.first.place.span.start s steps (ap (λ t. t.span.start) (out-roll-Tree _))))

before-one : (from : Tree) (s : Step) (steps : List Step) → (t : Tree) × (before_last from (s ∷ steps) ≡ t ∷ [])
before-one from s [] = (from, refl)
before-one from s (next ∷ steps) = before-one (select_tree from s.id) next steps

path-typed : (path : QualId) (kids : List Tree) (t : Tree) → kids ≡ t ∷ []
    → path_type path kids ≡ labelled kind.TypeSelect (last_id path).name (last_id path).place.span (path_span path) kids
path-typed path kids t e =
    ap (path_type path) e ∙ ap (labelled kind.TypeSelect (last_id path).name (last_id path).place.span (path_span path)) (sym e)

pub path-type-node : (path : QualId) → path_type_tree path
    ≡ labelled (if has_steps path.steps then kind.TypeSelect else kind.TypeIdent) (last_id path).name (last_id path).place.span (path_span path) (prefix_kids path)
path-type-node path = go path.steps where
  go : (steps : List Step) → let p : QualId = record { first = path.first; steps = steps } in path_type_tree p
      ≡ labelled (if has_steps steps then kind.TypeSelect else kind.TypeIdent) (last_id p).name (last_id p).place.span (path_span p) (prefix_kids p)
  go [] = refl
  go (s ∷ steps) = let one = before-one (ident_tree path.first) s steps in path-typed (record { first = path.first; steps = s ∷ steps }) _ one.0 one.1

pub path-type : (path : QualId) → spec.path_type (path_shown path) ≡ kept (path_type_tree path)
path-type path = node-kept _ _ _ _ _ ∙ ap kept (sym (path-type-node path))

last-longer : (first : Id) (steps : List Step) (s : Step) → last_of first (steps ++ s ∷ []) ≡ s.id
last-longer first [] s = refl
last-longer first (a ∷ steps) s = last-longer a.id steps s

has-longer : (steps : List Step) (s : Step) → has_steps (steps ++ s ∷ []) ≡ true
has-longer [] s = refl
has-longer (a ∷ steps) s = refl

before-longer : (from : Tree) (steps : List Step) (s : Step) → before_last from (steps ++ s ∷ []) ≡ steps_tree from steps ∷ []
before-longer from [] s = refl
before-longer from (a ∷ []) s = refl
before-longer from (a ∷ b ∷ steps) s = before-longer (select_tree from a.id) (b ∷ steps) s

pub longer-shown : (path : QualId) (d : Place) (id : Id)
    → path_shown (derived.longer path d id) ≡ record { start = path.first.place.span.start; name = record { text = id.name; span = id.place.span }; qualified = true; prefix = alone (spec.path_term (path_shown path)) }
longer-shown path d id =
    let s : Step = record { point = d; id = id } in
    ap (λ i. record { start = path.first.place.span.start; name = record { text = i.name; span = i.place.span }; qualified = has_steps (path.steps ++ s ∷ []); prefix = kept_all (before_last (ident_tree path.first) (path.steps ++ s ∷ [])) }) (last-longer path.first path.steps s)
    ∙ ap (λ q. record { start = path.first.place.span.start; name = record { text = id.name; span = id.place.span }; qualified = q; prefix = kept_all (before_last (ident_tree path.first) (path.steps ++ s ∷ [])) }) (has-longer path.steps s)
    ∙ ap (λ ks. record { start = path.first.place.span.start; name = record { text = id.name; span = id.place.span }; qualified = true; prefix = ks })
    (ap kept_all (before-longer (ident_tree path.first) path.steps s) ∙ sym (alone-kept (path_tree path)) ∙ ap alone (sym (path-term path)))

-- ---- states

abbrev pub first_id : NamedType → Id
first_id (OfPath path) = path.first
first_id (Applied path o types c) = path.first
first_id (Singleton path d w) = path.first

abbrev pub named_end : NamedType → ℕ
named_end (OfPath path) = (last_id path).place.span.end
named_end (Applied path o types c) = c.span.end
named_end (Singleton path d w) = w.span.end

abbrev pub tail_shown : derived.Tail → Tail
tail_shown derived.Begin = tail.Begin
tail_shown (derived.AtPath path) = tail.AtPath (path_shown path)
tail_shown (derived.AtDot path d) = tail.AtDot (path_shown path)
tail_shown (derived.AtNamed named) =
    tail.AtEnded (record { span = record { start = (first_id named).place.span.start; end = named_end named }; tall = kept (named_tree named) })
tail_shown (derived.AtNone o c) = tail.AtGroup (record { span = record { start = o.span.start; end = c.span.end }; count = count.Zero; kids = no_kids })
tail_shown (derived.AtTypes o types c) =
    tail.AtGroup (record { span = record { start = o.span.start; end = c.span.end }; count = count_of types; kids = kept_all (type_list_trees types) })

abbrev pub head_shown : derived.Head → Head
head_shown (derived.NamedHead named a) = record { start = (first_id named).place.span.start; kids = kept_all (named_tree named ∷ []) }
head_shown (derived.NoneHead o c a) = record { start = o.span.start; kids = kept_all [] }
head_shown (derived.TypesHead o types c a) = record { start = o.span.start; kids = kept_all (type_list_trees types) }

abbrev pub bracket_shown : derived.Bracket → Bracket
bracket_shown (derived.Round o) = bracket.Round o.span.start
bracket_shown (derived.Square path o) = bracket.Square path.first.place.span.start (record { text = (last_id path).name; span = (last_id path).place.span })

abbrev pub bracket_trees : derived.Bracket → List Tree
bracket_trees (derived.Round o) = []
bracket_trees (derived.Square path o) = path_type_tree path ∷ []

abbrev pub frame_shown : derived.Frame → Frame
frame_shown f = record {
  bracket = bracket_shown f.bracket;
  count = counted f.done count.Zero;
  kids = kept_all (bracket_trees f.bracket ++ done_trees f.done);
  heads = map head_shown f.heads;
}

abbrev pub shown : derived.State → State
shown s = record { frames = map frame_shown s.frames; heads = map head_shown s.heads; tail = tail_shown s.tail }

-- ---- where the tokens end

abbrev pub end_of : List Lexeme → ℕ
end_of xs = end_behind 0 xs

pub end-behind : (e : ℕ) (xs : List Lexeme) (y : Lexeme) (ys : List Lexeme) → end_behind e (xs ++ y ∷ ys) ≡ end_behind y.place.span.end ys
end-behind e [] y ys = refl
end-behind e (x ∷ xs) y ys = end-behind x.place.span.end xs y ys

pub steps-end : (id : Id) (steps : List Step) → end_behind id.place.span.end (steps_tokens steps) ≡ (last_of id steps).place.span.end
steps-end id [] = refl
steps-end id (s ∷ steps) = steps-end s.id steps

named-ends : (named : NamedType) → end_of (named_tokens named) ≡ named_end named
named-ends (OfPath path) = steps-end path.first path.steps
named-ends (Applied path o types c) = end-behind 0 (qual_id_tokens path) _ _ ∙ end-behind o.span.end (type_list_tokens types) _ []
named-ends (Singleton path d w) = end-behind 0 (qual_id_tokens path) _ _

pub tail-ends : (s : derived.Tail) (simple : SimpleType) → derived.simple_of s ≡ Some simple → end_of (derived.tail_tokens s) ≡ spec.tail_end (tail_shown s)
tail-ends (derived.AtPath path) simple e = steps-end path.first path.steps
tail-ends (derived.AtNamed named) simple e = named-ends named
tail-ends (derived.AtTypes o types c) simple e = end-behind o.span.end (type_list_tokens types) _ []
tail-ends _ simple e = cc

-- tokens that begin with this one
pub record Begins (x : Lexeme) (xs : List Lexeme) : Type 0 where
  pub rest : List Lexeme
  pub is : xs ≡ x ∷ rest

begins-append : (x : Lexeme) (xs ys : List Lexeme) → Begins x xs → Begins x (xs ++ ys)
begins-append x xs ys b = record { rest = b.rest ++ ys; is = ap (λ zs. zs ++ ys) b.is }

named-begins : (named : NamedType) → Begins (id_token (first_id named)) (named_tokens named)
named-begins (OfPath path) = record { rest = _; is = refl }
named-begins (Applied path o types c) = record { rest = _; is = refl }
named-begins (Singleton path d w) = record { rest = _; is = refl }

pub simple-begins : (simple : SimpleType) → (x : Lexeme) × Begins x (simple_tokens simple)
simple-begins (Named named) = (id_token (first_id named), named-begins named)
simple-begins (InParentheses o a c) = (open_round o, record { rest = _; is = refl })
simple-begins (Pair o a p b c) = (open_round o, record { rest = _; is = refl })
simple-begins (Triple o a p b q d c) = (open_round o, record { rest = _; is = refl })

type-begins : (type : WrittenType) → (x : Lexeme) × Begins x (type_tokens type)
type-begins (FunOfNamed named a result) = (id_token (first_id named), begins-append _ _ _ (named-begins named))
type-begins (FunOfNone o c a result) = (open_round o, record { rest = _; is = refl })
type-begins (FunOfTypes o types c a result) = (open_round o, record { rest = _; is = refl })
type-begins (Simple simple) = simple-begins simple

span-from : (x : Lexeme) (xs : List Lexeme) (e : ℕ) → Begins x xs → end_of xs ≡ e → span_of xs ≡ record { start = x.place.span.start; end = e }
span-from x xs e b f = ap span_of b.is ∙ ap (λ n. record { start = x.place.span.start; end = n }) (sym (ap end_of b.is) ∙ f)

end-append : (xs ys : List Lexeme) (y : Lexeme) → Begins y ys → end_of (xs ++ ys) ≡ end_of ys
end-append xs ys y b = ap (λ zs. end_of (xs ++ zs)) b.is ∙ end-behind 0 xs y b.rest ∙ sym (ap end_of b.is)

-- ---- types that end

abbrev head_first : derived.Head → Lexeme
head_first (derived.NamedHead named a) = id_token (first_id named)
head_first (derived.NoneHead o c a) = open_round o
head_first (derived.TypesHead o types c a) = open_round o

head-begins : (h : derived.Head) (type : WrittenType) → Begins (head_first h) (type_tokens (derived.fun_of h type))
head-begins (derived.NamedHead named a) type = begins-append _ _ _ (named-begins named)
head-begins (derived.NoneHead o c a) type = record { rest = _; is = refl }
head-begins (derived.TypesHead o types c a) type = record { rest = _; is = refl }

fun-ends : (h : derived.Head) (type : WrittenType) → end_of (type_tokens (derived.fun_of h type)) ≡ end_of (type_tokens type)
fun-ends h type = let b = type-begins type in ap end_of (fun-tokens h type) ∙ end-append (derived.head_tokens h) (type_tokens type) b.0 b.1

fun-built : (first : List Lexeme) (start e : ℕ) (kids : List Tree) (result : Tree) → span_of first ≡ record { start = start; end = e }
    → node kind.FunType [] (record { start = start; end = e }) (record { start = start; end = e }) (joined (kept_all kids) (kept result)) ≡ kept (fun_type first kids result)
fun-built first start e kids result f =
    ap (node kind.FunType [] _ _) (joined-kept kids result) ∙ node-kept kind.FunType [] _ _ (kids ++ result ∷ [])
    ∙ ap (λ sp. kept (unlabelled kind.FunType sp (kids ++ result ∷ []))) (sym f)

fun-shown : (h : derived.Head) (type : WrittenType) (e : ℕ) → end_of (type_tokens type) ≡ e
    → spec.fun_over (head_shown h) e (kept (type_tree type)) ≡ kept (type_tree (derived.fun_of h type))
fun-shown (derived.NamedHead named a) type e f =
    fun-built (type_tokens (derived.fun_of (derived.NamedHead named a) type)) _ e (named_tree named ∷ []) (type_tree type) (span-from _ _ e (head-begins (derived.NamedHead named a) type) (fun-ends (derived.NamedHead named a) type ∙ f))
fun-shown (derived.NoneHead o c a) type e f =
    fun-built (type_tokens (derived.fun_of (derived.NoneHead o c a) type)) _ e [] (type_tree type) (span-from _ _ e (head-begins (derived.NoneHead o c a) type) (fun-ends (derived.NoneHead o c a) type ∙ f))
fun-shown (derived.TypesHead o types c a) type e f =
    fun-built (type_tokens (derived.fun_of (derived.TypesHead o types c a) type)) _ e (type_list_trees types) (type_tree type) (span-from _ _ e (head-begins (derived.TypesHead o types c a) type) (fun-ends (derived.TypesHead o types c a) type ∙ f))

settled-shown : (hs : List derived.Head) (type : WrittenType) (e : ℕ) → end_of (type_tokens type) ≡ e
    → spec.settled (map head_shown hs) e (kept (type_tree type)) ≡ kept (type_tree (derived.settled hs type))
settled-shown [] type e f = refl
settled-shown (h ∷ hs) type e f =
    ap (spec.settled (map head_shown hs) e) (fun-shown h type e f) ∙ settled-shown hs (derived.fun_of h type) e (fun-ends h type ∙ f)

group-shown : (o : Place) (types : TypeList) (c : Place) (simple : SimpleType) → derived.in_round o types c ≡ Some simple
    → spec.tail_tree (tail_shown (derived.AtTypes o types c)) ≡ kept (simple_tree simple)
group-shown o (LastType a) c simple e = let h : InParentheses o a c ≡ simple = cc in only-kept (type_tree a) ∙ ap (λ s. kept (simple_tree s)) h
group-shown o (MoreTypes a p (LastType b)) c simple e =
    let h : Pair o a p b c ≡ simple = cc in node-kept kind.TupleType [] _ _ _ ∙ ap (λ s. kept (simple_tree s)) h
group-shown o (MoreTypes a p (MoreTypes b q (LastType d))) c simple e =
    let h : Triple o a p b q d c ≡ simple = cc in node-kept kind.TupleType [] _ _ _ ∙ ap (λ s. kept (simple_tree s)) h
group-shown o (MoreTypes a p (MoreTypes b q (MoreTypes d r types))) c simple e = cc

pub tail-shown : (s : derived.Tail) (simple : SimpleType) → derived.simple_of s ≡ Some simple → spec.tail_tree (tail_shown s) ≡ kept (simple_tree simple)
tail-shown (derived.AtPath path) simple e = let h : Named (OfPath path) ≡ simple = cc in path-type path ∙ ap (λ s. kept (simple_tree s)) h
tail-shown (derived.AtNamed named) simple e = let h : Named named ≡ simple = cc in ap (λ s. kept (simple_tree s)) h
tail-shown (derived.AtTypes o types c) simple e = group-shown o types c simple e
tail-shown _ simple e = cc

-- the type that ends at a tail is the one that was derived
pub type-shown : (hs : List derived.Head) (s : derived.Tail) (simple : SimpleType) → derived.simple_of s ≡ Some simple
    → spec.type_at (map head_shown hs) (tail_shown s) ≡ kept (type_tree (derived.settled hs (Simple simple)))
type-shown hs s simple e =
    ap (spec.settled (map head_shown hs) (spec.tail_end (tail_shown s))) (tail-shown s simple e)
    ∙ settled-shown hs (Simple simple) (spec.tail_end (tail_shown s)) (ap end_of (simple-tokens s simple e) ∙ tail-ends s simple e)
