-- The reader's state is the machine's, with the trees of its derivations as far as these are kept.
use Rattle.std.proofs.Common.{◌≡◌, ℕ, Bool, true, false, ◌&&◌, if◌then◌else◌, List, [], ◌∷◌, ◌++◌, map, Option, Some, None, codes, refl, ap, sym, ◌∙◌, append_assoc}
use Rattle.std.specs.Prelude.{not}
use Rattle.pc_terms.specs.declared.problems.Span.{Span}
use Rattle.pc_terms.specs.declared.tree_kinds.TreeKind.TheVariants as kind
use Rattle.positioned_trees.specs.declared.details.Name.{Name}
use Rattle.positioned_trees.specs.declared.trees.Tree.{Tree}
use Rattle.source_grammar.specs.Lexemes.{Place, Lexeme, underscore, colon, at_sign, bar, Id, id_token, Step, QualId}
use Rattle.source_grammar.specs.Patterns.{Pat, Pat1, Pat3, SPat, LastAlternative, MoreAlternatives, TypedVar, TypedWild, BoundPat, LastOperand, WildPat, VarPat, PathPat, pat_tokens, pat1_tokens, pat3_tokens, is_var, is_var_path, pat3_operators, join_patterns, joined_pattern, pat3_chain, pat_tree, alternative_trees, pat1_tree, spat_tree}
use Rattle.source_grammar.specs.Precedence.{are_of_one_side, joined}
use Rattle.source_grammar.specs.Spans.{labelled, unlabelled, span_of}
use Rattle.source_grammar.specs.Types.{SimpleType, simple_tokens, simple_tree, prefix_kids, last_id, path_span}
use Rattle.parse_parts.specs.declared.built.Tall.{Tall}
use Rattle.parse_parts.specs.declared.states.Count.{Count}
use Rattle.parse_parts.specs.declared.states.Count.TheVariants as count
use Rattle.parse_parts.specs.Built.{alone, node}
use Rattle.parse_parts.specs.Steps as type_spec
use Rattle.parse_parts.proofs.Derived as types
use Rattle.parse_parts.proofs.Kept.{kept, kept_all, joined-kept, alone-kept, node-kept}
use Rattle.parse_parts.proofs.Shown as type_shown
use Rattle.parse_parts.proofs.Shown.{end_of, end-behind, steps-end, has_steps, path_shown}
use Rattle.parse_parts.proofs.Sound as types_sound
use Rattle.parse_patterns.specs.declared.states.Bracket.{Bracket}
use Rattle.parse_patterns.specs.declared.states.Bracket.TheVariants as bracket
use Rattle.parse_patterns.specs.declared.states.Current.{Current}
use Rattle.parse_patterns.specs.declared.states.Current.TheVariants as current
use Rattle.parse_patterns.specs.declared.states.Earlier.{Earlier}
use Rattle.parse_patterns.specs.declared.states.Frame.{Frame}
use Rattle.parse_patterns.specs.declared.states.Lead.{Lead}
use Rattle.parse_patterns.specs.declared.states.Lead.TheVariants as lead
use Rattle.parse_patterns.specs.declared.states.Operand.{Operand}
use Rattle.parse_patterns.specs.declared.states.Tail.{Tail}
use Rattle.parse_patterns.specs.declared.states.Tail.TheVariants as tail
use Rattle.parse_patterns.specs.declared.states.State.{State}
use Rattle.parse_patterns.specs.Names.{is_minus, lead_of}
use Rattle.parse_patterns.specs.Operators as operators
use Rattle.parse_patterns.specs.Steps as spec
use Rattle.parse_patterns.proofs.Begun.{Some_begins, some-append, some-behind, pat1-begins, pat3-begins}
use Rattle.parse_patterns.proofs.Chains.{kept_piece, piece_of, operations_shown, settled-shown, settled-span, start-append, end-append, span-end, span-is}
use Rattle.parse_patterns.proofs.Derived as derived
use Rattle.parse_patterns.proofs.Derived.{settled, bound, typed, alternated, listed, named_pat, spat_of, simple_in, typed_at, infix_at, alternative_at, pat_read, has_none, is_minus_path, operations_tokens, earlier_tokens}
use Rattle.parse_patterns.proofs.Joined.{put}
use Rattle.parse_patterns.proofs.Sound.{settled-tokens, read-tokens}

-- ---- the pictures

abbrev lead_in : Id → List Step → Lead
lead_in id [] = lead_of id
lead_in id (s ∷ steps) = lead.Plain

abbrev pub lead_shown : QualId → Lead
lead_shown path = lead_in path.first path.steps

abbrev pub tail_shown : derived.Tail → Tail
tail_shown derived.Begin = tail.Begin
tail_shown (derived.AtWild place) = tail.AtWild place.span
tail_shown (derived.AtPath path) = tail.AtPath (path_shown path) (lead_shown path)
tail_shown (derived.AtDot path d) = tail.AtDot (path_shown path)
tail_shown (derived.AtEnded d) = tail.AtEnded (piece_of d)

abbrev pub name_of : Id → Name
name_of id = record { text = id.name; span = id.place.span }

abbrev pub binder_shown : Option derived.Binder → Option Name
binder_shown None = None
binder_shown (Some b) = Some (name_of b.id)

abbrev pub subject_shown : derived.Subject → Name
subject_shown (derived.VarSubject id) = name_of id
subject_shown (derived.WildSubject place) = record { text = codes "_"; span = place.span }

abbrev pub piece1 : Pat1 → Operand
piece1 d = record { tall = kept (pat1_tree d); span = span_of (pat1_tokens d) }

abbrev pub earlier_shown : List derived.Earlier → Option Earlier
earlier_shown [] = None
earlier_shown (e ∷ es) = Some (spec.then_later (earlier_shown es) (piece1 e.pat))

abbrev pub current_shown : derived.Current → Current
current_shown (derived.InType s point t) = current.InType (subject_shown s) (type_shown.shown t)
current_shown (derived.InInfix b os s) = current.InInfix (record { binder = binder_shown b; operations = operations_shown os; tail = tail_shown s })

abbrev pub bracket_shown : derived.Bracket → Bracket
bracket_shown (derived.Call path o done) = bracket.Call path.first.place.span.start (name_of (last_id path))
bracket_shown (derived.Group o) = bracket.Group o.span.start
bracket_shown (derived.GroupOne o a p) = bracket.Group o.span.start
bracket_shown (derived.GroupTwo o a p b q) = bracket.Group o.span.start

abbrev pub counted : List derived.Done → Count
counted [] = count.Zero
counted (d ∷ done) = type_spec.next (counted done)

abbrev pub count_shown : derived.Bracket → Count
count_shown (derived.Call path o done) = counted done
count_shown (derived.Group o) = count.Zero
count_shown (derived.GroupOne o a p) = count.One
count_shown (derived.GroupTwo o a p b q) = count.Two

abbrev pub done_trees : List derived.Done → List Tree
done_trees [] = []
done_trees (d ∷ done) = done_trees done ++ pat_tree d.pat ∷ []

abbrev pub bracket_trees : derived.Bracket → List Tree
bracket_trees (derived.Call path o done) = prefix_kids path ++ done_trees done
bracket_trees (derived.Group o) = []
bracket_trees (derived.GroupOne o a p) = pat_tree a ∷ []
bracket_trees (derived.GroupTwo o a p b q) = pat_tree a ∷ pat_tree b ∷ []

abbrev pub frame_shown : derived.Frame → Frame
frame_shown f = record {
  bracket = bracket_shown f.bracket;
  count = count_shown f.bracket;
  kids = kept_all (bracket_trees f.bracket);
  earlier = earlier_shown f.earlier;
  binder = binder_shown f.binder;
  operations = operations_shown f.operations;
}

abbrev pub shown : derived.State → State
shown s = record { frames = map frame_shown s.frames; earlier = earlier_shown s.earlier; current = current_shown s.current }

-- ---- names

pub lead-var : (path : QualId) → spec.is_var_lead (lead_shown path) ≡ is_var_path path.first path.steps
unfolding lead_of
lead-var path = go path.steps where
  by : (v m : Bool) → spec.is_var_lead (if v then lead.Var else (if m then lead.Minus else lead.Plain)) ≡ v
  by true m = refl
  by false true = refl
  by false false = refl

  go : (steps : List Step) → spec.is_var_lead (lead_in path.first steps) ≡ is_var_path path.first steps
  go [] = by (is_var path.first) (is_minus path.first)
  go (s ∷ steps) = refl

pub lead-minus : (path : QualId) → spec.is_minus_lead (lead_shown path) ≡ is_minus_path path
unfolding lead_of
lead-minus path = go path.steps where
  by : (v m : Bool) → spec.is_minus_lead (if v then lead.Var else (if m then lead.Minus else lead.Plain)) ≡ (not v && m)
  by true m = refl
  by false true = refl
  by false false = refl

  go : (steps : List Step) → spec.is_minus_lead (lead_in path.first steps) ≡ (has_none steps && (not (is_var_path path.first steps) && is_minus path.first))
  go [] = by (is_var path.first) (is_minus path.first)
  go (s ∷ steps) = refl

-- ---- operands

path-piece : (path : QualId) (v : Bool) → is_var_path path.first path.steps ≡ v
    → record { tall = type_spec.path_node (if v then kind.Bind else kind.StablePat) (path_shown path); span = record { start = path.first.place.span.start; end = (last_id path).place.span.end } }
    ≡ piece_of (named_pat v path)
path-piece path true e = go path.steps e where
  go : (steps : List Step) → is_var_path path.first steps ≡ true
      → (let p : QualId = record { first = path.first; steps = steps } in
      record { tall = type_spec.path_node kind.Bind (path_shown p); span = record { start = path.first.place.span.start; end = (last_id p).place.span.end } })
      ≡ piece_of (VarPat path.first)
  go [] f = ap (λ t. record { tall = t; span = path.first.place.span }) (node-kept kind.Bind path.first.name path.first.place.span path.first.place.span [])
  go (s ∷ steps) f = cc
path-piece path false e =
    ap (λ t. record { tall = t; span = path_span path }) (node-kept kind.StablePat (last_id path).name (last_id path).place.span (path_span path) (prefix_kids path))
    ∙ ap (λ n. record { tall = kept (spat_tree (PathPat path)); span = record { start = path.first.place.span.start; end = n } }) (sym (steps-end path.first path.steps))

pub operand-shown : (s : derived.Tail) (d : SPat) → spat_of s ≡ Some d → spec.operand_at (tail_shown s) ≡ piece_of d
operand-shown (derived.AtWild place) d e =
    (let h : WildPat place ≡ d = cc in ap (λ t. record { tall = t; span = place.span }) (node-kept kind.Wild [] place.span place.span []) ∙ ap piece_of h)
operand-shown (derived.AtPath path) d e =
    let h : named_pat (is_var_path path.first path.steps) path ≡ d = cc in
    ap (λ v. record { tall = type_spec.path_node (if v then kind.Bind else kind.StablePat) (path_shown path); span = record { start = path.first.place.span.start; end = (last_id path).place.span.end } }) (lead-var path)
    ∙ path-piece path (is_var_path path.first path.steps) refl ∙ ap piece_of h
operand-shown (derived.AtEnded x) d e = (let h : x ≡ d = cc in ap piece_of h)
operand-shown _ d e = cc

-- ---- alternatives

infix-piece : (b : Option derived.Binder) (os : List derived.Operation) (x : SPat) → are_of_one_side (pat3_operators (settled os (LastOperand x))) ≡ true
    → spec.bound (binder_shown b) (operators.settled (operations_shown os) (piece_of x)) ≡ piece1 (bound b (settled os (LastOperand x)))
infix-piece b os x s = ap (spec.bound (binder_shown b)) whole ∙ go b where
  d : Pat3
  d = settled os (LastOperand x)

  span-here : (operators.settled (operations_shown os) (piece_of x)).span ≡ span_of (pat3_tokens d)
  span-here = settled-span os x ∙ ap span_of (sym (settled-tokens os (LastOperand x)))

  joins : operators.settled (operations_shown os) (piece_of x) ≡ put (kept_piece (joined join_patterns (pat3_chain d)))
  joins = settled-shown os x s

  whole : operators.settled (operations_shown os) (piece_of x) ≡ record { tall = kept (joined_pattern (pat3_chain d)); span = span_of (pat3_tokens d) }
  whole =
      ap (λ t. record { tall = t; span = (operators.settled (operations_shown os) (piece_of x)).span }) (ap (λ o. o.tall) joins)
      ∙ ap (λ n. record { tall = kept (joined_pattern (pat3_chain d)); span = n }) span-here

  go : (c : Option derived.Binder) → spec.bound (binder_shown c) (record { tall = kept (joined_pattern (pat3_chain d)); span = span_of (pat3_tokens d) }) ≡ piece1 (bound c d)
  go None = refl
  go (Some c) =
      let tokens = pat1_tokens (BoundPat c.id c.sign d) in
      let same : record { start = c.id.place.span.start; end = (span_of (pat3_tokens d)).end } ≡ span_of tokens =
      ap (λ n. record { start = c.id.place.span.start; end = n }) (span-end (pat3_tokens d) ∙ sym (end-append (id_token c.id ∷ at_sign c.sign ∷ []) (pat3_tokens d) (pat3-begins d))) in
      ap (λ k. record { tall = node kind.Bind c.id.name c.id.place.span (record { start = c.id.place.span.start; end = (span_of (pat3_tokens d)).end }) k; span = record { start = c.id.place.span.start; end = (span_of (pat3_tokens d)).end } })
      (alone-kept (joined_pattern (pat3_chain d)))
      ∙ ap (λ n. record { tall = node kind.Bind c.id.name c.id.place.span n (kept_all (joined_pattern (pat3_chain d) ∷ [])); span = n }) same
      ∙ ap (λ t. record { tall = t; span = span_of tokens }) (node-kept kind.Bind c.id.name c.id.place.span (span_of tokens) (joined_pattern (pat3_chain d) ∷ []))

abbrev typed_to : Name → ℕ → Option Tall → Operand
typed_to name e tall = record { tall = node kind.TypedPat name.text name.span (record { start = name.span.start; end = e }) (alone tall); span = record { start = name.span.start; end = e } }

abbrev typed_over : Name → List Lexeme → Tree → Operand
typed_over name tokens tree = record { tall = kept (labelled kind.TypedPat name.text name.span (span_of tokens) (tree ∷ [])); span = span_of tokens }

typed-piece : (name : Name) (type : SimpleType) (tokens : List Lexeme) (e : ℕ) → (span_of tokens).start ≡ name.span.start → end_of tokens ≡ e
    → typed_to name e (kept (simple_tree type)) ≡ typed_over name tokens (simple_tree type)
typed-piece name type tokens e s f =
    ap (λ k. record { tall = node kind.TypedPat name.text name.span (record { start = name.span.start; end = e }) k; span = record { start = name.span.start; end = e } }) (alone-kept (simple_tree type))
    ∙ ap (λ n. record { tall = node kind.TypedPat name.text name.span n (kept_all (simple_tree type ∷ [])); span = n }) (sym (span-is tokens name.span.start e s f))
    ∙ ap (λ t. record { tall = t; span = span_of tokens }) (node-kept kind.TypedPat name.text name.span (span_of tokens) (simple_tree type ∷ []))

pub simple-begins : (type : SimpleType) → Some_begins (simple_tokens type)
simple-begins type = record { first = (type_shown.simple-begins type).0; begins = record { rest = (type_shown.simple-begins type).1.rest; is = (type_shown.simple-begins type).1.is } }

typed-shown : (s : derived.Subject) (point : Place) (t : types.State) (fs : List types.Frame) (hs : List types.Head) (type : SimpleType) → simple_in fs hs t.tail ≡ Some type
    → spec.typed (subject_shown s) (type_shown.shown t) ≡ piece1 (typed s point type)
typed-shown s point t [] [] type e =
    ap (typed_to (subject_shown s) last) (type_shown.tail-shown t.tail type e) ∙ go s
  where
    last : ℕ
    last = type_spec.tail_end (type_shown.tail_shown t.tail)

    ends : end_of (simple_tokens type) ≡ last
    ends = ap end_of (types_sound.simple-tokens t.tail type e) ∙ type_shown.tail-ends t.tail type e

    go : (s : derived.Subject) → typed_to (subject_shown s) last (kept (simple_tree type)) ≡ piece1 (typed s point type)
    go (derived.VarSubject id) = typed-piece (name_of id) type (pat1_tokens (TypedVar id point type)) last refl (end-append (id_token id ∷ colon point ∷ []) (simple_tokens type) (simple-begins type) ∙ ends)
    go (derived.WildSubject place) =
        typed-piece (subject_shown (derived.WildSubject place)) type (pat1_tokens (TypedWild place point type)) last refl (end-append (underscore place ∷ colon point ∷ []) (simple_tokens type) (simple-begins type) ∙ ends)
typed-shown s point t [] (h ∷ hs) type e = cc
typed-shown s point t (f ∷ fs) hs type e = cc

-- the operators of what is read are of one side
abbrev pub OneSide : derived.Current → Type 0
OneSide (derived.InType s point t) = Unit {0}
OneSide (derived.InInfix b os s) = (x : SPat) → spat_of s ≡ Some x → are_of_one_side (pat3_operators (settled os (LastOperand x))) ≡ true

pub alternative-shown : (c : derived.Current) (d : Pat1) → OneSide c → alternative_at c ≡ Some d → spec.alternative_at (current_shown c) ≡ piece1 d
alternative-shown (derived.InType s point t) d one e = go (simple_in t.frames t.heads t.tail) refl e where
  go : (o : Option SimpleType) → simple_in t.frames t.heads t.tail ≡ o → typed_at s point o ≡ Some d → spec.typed (subject_shown s) (type_shown.shown t) ≡ piece1 d
  go None was f = cc
  go (Some type) was f = (let h : typed s point type ≡ d = cc in typed-shown s point t t.frames t.heads type was ∙ ap piece1 h)
alternative-shown (derived.InInfix b os s) d one e = go (spat_of s) refl e where
  go : (o : Option SPat) → spat_of s ≡ o → infix_at b os o ≡ Some d
      → spec.bound (binder_shown b) (operators.settled (operations_shown os) (spec.operand_at (tail_shown s))) ≡ piece1 d
  go None was f = cc
  go (Some x) was f =
      let h : bound b (settled os (LastOperand x)) ≡ d = cc in
      ap (λ o. spec.bound (binder_shown b) (operators.settled (operations_shown os) o)) (operand-shown s x was) ∙ infix-piece b os x (one x was) ∙ ap piece1 h

-- ---- patterns

abbrev pub earlier_trees : List derived.Earlier → List Tree
earlier_trees [] = []
earlier_trees (e ∷ es) = earlier_trees es ++ pat1_tree e.pat ∷ []

earlier-is : (e : derived.Earlier) (es : List derived.Earlier)
    → spec.then_later (earlier_shown es) (piece1 e.pat) ≡ record { start = (span_of (earlier_tokens (e ∷ es))).start; kids = kept_all (earlier_trees (e ∷ es)) }
earlier-is e [] =
    ap (λ k. record { start = (span_of (pat1_tokens e.pat)).start; kids = k }) (alone-kept (pat1_tree e.pat))
    ∙ ap (λ n. record { start = n; kids = kept_all (pat1_tree e.pat ∷ []) }) (sym (start-append (pat1_tokens e.pat) (bar e.stroke ∷ []) (pat1-begins e.pat)))
earlier-is e (f ∷ es) =
    ap (λ s. spec.then_later (Some s) (piece1 e.pat)) (earlier-is f es)
    ∙ ap (λ k. record { start = (span_of (earlier_tokens (f ∷ es))).start; kids = k }) (joined-kept (earlier_trees (f ∷ es)) (pat1_tree e.pat))
    ∙ ap (λ n. record { start = n; kids = kept_all (earlier_trees (e ∷ f ∷ es)) })
    (sym (start-append (earlier_tokens (f ∷ es)) (pat1_tokens e.pat ++ bar e.stroke ∷ []) (some-behind (earlier_tokens es) _ (some-append (pat1_tokens f.pat) _ (pat1-begins f.pat)))))

alternatives-trees : (es : List derived.Earlier) (d : Pat) → alternative_trees (alternated es d) ≡ earlier_trees es ++ alternative_trees d
alternatives-trees [] d = refl
alternatives-trees (e ∷ es) d = alternatives-trees es (MoreAlternatives e.pat e.stroke d) ∙ sym (append_assoc (earlier_trees es) (pat1_tree e.pat ∷ []) (alternative_trees d))

tree-more : (es : List derived.Earlier) (a : Pat1) (p : Place) (d : Pat)
    → pat_tree (alternated es (MoreAlternatives a p d)) ≡ unlabelled kind.AltPat (span_of (pat_tokens (alternated es (MoreAlternatives a p d)))) (alternative_trees (alternated es (MoreAlternatives a p d)))
tree-more [] a p d = refl
tree-more (e ∷ es) a p d = tree-more es e.pat e.stroke (MoreAlternatives a p d)

pub pattern-shown : (es : List derived.Earlier) (d : Pat1) → spec.with_earlier (earlier_shown es) (piece1 d) ≡ kept (pat_tree (pat_read es d))
pattern-shown [] d = refl
pattern-shown (e ∷ es) d =
    ap (λ s. spec.with_earlier (Some s) (piece1 d)) (earlier-is e es)
    ∙ ap (node kind.AltPat [] span span) (joined-kept (earlier_trees (e ∷ es)) (pat1_tree d) ∙ ap kept_all (sym (alternatives-trees (e ∷ es) (LastAlternative d))))
    ∙ node-kept kind.AltPat [] span span (alternative_trees whole)
    ∙ ap (λ n. kept (unlabelled kind.AltPat n (alternative_trees whole))) (sym spans)
    ∙ ap kept (sym (tree-more es e.pat e.stroke (LastAlternative d)))
  where
    whole : Pat
    whole = pat_read (e ∷ es) d

    span : Span
    span = record { start = (span_of (earlier_tokens (e ∷ es))).start; end = (span_of (pat1_tokens d)).end }

    spans : span_of (pat_tokens whole) ≡ span
    spans = span-is (pat_tokens whole) (span_of (earlier_tokens (e ∷ es))).start (span_of (pat1_tokens d)).end
        (ap (λ ys. (span_of ys).start) (read-tokens (e ∷ es) d)
        ∙ start-append (earlier_tokens (e ∷ es)) (pat1_tokens d) (some-behind (earlier_tokens es) _ (some-append (pat1_tokens e.pat) _ (pat1-begins e.pat))))
        (ap end_of (read-tokens (e ∷ es) d) ∙ end-append (earlier_tokens (e ∷ es)) (pat1_tokens d) (pat1-begins d) ∙ sym (span-end (pat1_tokens d)))
