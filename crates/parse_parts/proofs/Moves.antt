-- A step of the reader is a step of the machine, with its trees as far as these are kept.
use Rattle.std.proofs.Common.{◌≡◌, Bool, true, false, ◌&&◌, if◌then◌else◌, List, [], ◌∷◌, ◌++◌, map, Option, Some, None, option_map, refl, ap, sym, ◌∙◌, append_assoc}
use Rattle.pc_terms.specs.declared.tree_kinds.TreeKind.TheVariants as kind
use Rattle.positioned_trees.specs.declared.trees.Tree.{Tree}
use Rattle.positioned_trees.specs.declared.trees.Tree.TheViews.{out-Tree, out-roll-Tree}
use Rattle.source_grammar.specs.Lexemes.{Place, Lexeme, Arrow, Id, QualId}
use Rattle.source_grammar.specs.Spans.{labelled}
use Rattle.source_grammar.specs.Types.{SimpleType, TypeList, Simple, LastType, MoreTypes, type_tree, named_tree, type_list_trees, path_tree, path_type_tree, applied_tree, last_id}
use Rattle.parse_parts.specs.declared.states.Count.{Count}
use Rattle.parse_parts.specs.declared.states.Count.TheVariants as count
use Rattle.parse_parts.specs.declared.states.Tail.TheVariants as tail
use Rattle.parse_parts.specs.declared.states.State.{State}
use Rattle.parse_parts.specs.declared.symbols.Symbol.{Symbol}
use Rattle.parse_parts.specs.declared.symbols.Symbol.TheVariants as symbol
use Rattle.parse_parts.specs.Built.{joined, alone, node}
use Rattle.parse_parts.specs.Steps as spec
use Rattle.parse_parts.specs.Steps.{advanced}
use Rattle.parse_parts.specs.Symbols.{symbol_of}
use Rattle.parse_parts.specs.Reading.{stepped}
use Rattle.parse_parts.proofs.Derived as derived
use Rattle.std.specs.Str.{bytes_eq}
use Rattle.scan_tokens.specs.Words.{double_arrow}
use Rattle.parse_parts.proofs.Seen.{seen_as, is_quoted}
use Rattle.parse_parts.proofs.Kept.{kept, kept_all, joined-kept, alone-kept, node-kept}
use Rattle.parse_parts.proofs.Shown.{count_of, counted, counted-listed, counted-next, done_trees, listed-trees, first_id, path-term, path-type, path-type-node, longer-shown, tail_shown, head_shown, bracket_shown, bracket_trees, frame_shown, shown, type-shown}

-- the reader admits what the machine does, and goes where it goes
abbrev pub met : Bool → State → Option State
met true s = Some s
met false s = None

met-same : (a b : Bool) (s : State) → a ≡ b → met a s ≡ met b s
met-same a b s e = ap (λ c. met c s) e

nexts : (n : Count) → spec.is_tuple (spec.next (spec.next (spec.next (spec.next n)))) ≡ false
nexts count.Zero = refl
nexts count.One = refl
nexts count.Two = refl
nexts count.Three = refl
nexts count.More = refl

group-whole : (o : Place) (types : TypeList) (c : Place) → spec.is_tuple (count_of types) ≡ derived.is_some (derived.in_round o types c)
group-whole o (LastType a) c = refl
group-whole o (MoreTypes a p (LastType b)) c = refl
group-whole o (MoreTypes a p (MoreTypes b q (LastType d))) c = refl
group-whole o (MoreTypes a p (MoreTypes b q (MoreTypes d r (LastType f)))) c = refl
group-whole o (MoreTypes a p (MoreTypes b q (MoreTypes d r (MoreTypes f s types)))) c = nexts (count_of types)

pub whole-same : (s : derived.Tail) → spec.is_whole (tail_shown s) ≡ derived.is_some (derived.simple_of s)
whole-same derived.Begin = refl
whole-same (derived.AtPath path) = refl
whole-same (derived.AtDot path d) = refl
whole-same (derived.AtNamed named) = refl
whole-same (derived.AtNone o c) = refl
whole-same (derived.AtTypes o types c) = group-whole o types c

-- ---- one kind of token after the other

named-same : (x : Lexeme) (id : Id) (s : derived.Tail) (hs : List derived.Head) (fs : List derived.Frame) → id.name ≡ x.word → id.place ≡ x.place
    → met (spec.may_name (tail_shown s)) (spec.at_tail (shown (record { frames = fs; heads = hs; tail = s })) (spec.named id.name id.place.span (tail_shown s)))
    ≡ option_map shown (derived.named_on id s hs fs)
named-same x id derived.Begin hs fs n p = refl
named-same x id (derived.AtDot path d) hs fs n p =
    ap (λ q. Some (record { frames = map frame_shown fs; heads = map head_shown hs; tail = tail.AtPath q })) (sym (longer-shown path d id))
named-same x id _ hs fs n p = refl

dotted-same : (d : Place) (s : derived.Tail) (hs : List derived.Head) (fs : List derived.Frame)
    → met (spec.is_path (tail_shown s)) (spec.at_tail (shown (record { frames = fs; heads = hs; tail = s })) (spec.dotted (tail_shown s)))
    ≡ option_map shown (derived.dotted d s hs fs)
dotted-same d (derived.AtPath path) hs fs = refl
dotted-same d _ hs fs = refl

singled-same : (w : Place) (s : derived.Tail) (hs : List derived.Head) (fs : List derived.Frame)
    → met (spec.is_dot (tail_shown s)) (spec.at_tail (shown (record { frames = fs; heads = hs; tail = s })) (spec.singled w.span (tail_shown s)))
    ≡ option_map shown (derived.singled w s hs fs)
singled-same w (derived.AtDot path d) hs fs =
    ap (λ t. Some (record { frames = map frame_shown fs; heads = map head_shown hs; tail = tail.AtEnded (record { span = record { start = path.first.place.span.start; end = w.span.end }; tall = t }) }))
    (ap (λ k. node kind.Singleton (last_id path).name (last_id path).place.span (record { start = path.first.place.span.start; end = w.span.end }) k) (ap alone (path-term path) ∙ alone-kept (path_tree path)) ∙ node-kept kind.Singleton _ _ _ _)
singled-same w _ hs fs = refl

opened-same : (o : Place) (s : derived.Tail) (hs : List derived.Head) (fs : List derived.Frame)
    → met (spec.may_open (tail_shown s)) (spec.round_opened o.span (shown (record { frames = fs; heads = hs; tail = s })))
    ≡ option_map shown (derived.round_opened o s hs fs)
opened-same o derived.Begin hs fs = refl
opened-same o _ hs fs = refl

square-same : (o : Place) (s : derived.Tail) (hs : List derived.Head) (fs : List derived.Frame)
    → met (spec.is_path (tail_shown s)) (spec.square_opened (map frame_shown fs) (map head_shown hs) (tail_shown s))
    ≡ option_map shown (derived.square_opened o s hs fs)
square-same o (derived.AtPath path) hs fs =
    ap (λ k. Some (record { frames = record { bracket = bracket_shown (derived.Square path o); count = count.Zero; kids = k; heads = map head_shown hs } ∷ map frame_shown fs; heads = []; tail = tail.Begin }))
    (ap alone (path-type path) ∙ alone-kept (path_type_tree path))
square-same o _ hs fs = refl

arrowed-same : (a : Arrow) (s : derived.Tail) (hs : List derived.Head) (fs : List derived.Frame)
    → met (spec.may_head (tail_shown s)) (spec.arrowed (shown (record { frames = fs; heads = hs; tail = s })))
    ≡ option_map shown (derived.pushed (derived.head_of a s) hs fs)
arrowed-same a (derived.AtPath path) hs fs =
    ap (λ k. Some (record { frames = map frame_shown fs; heads = record { start = path.first.place.span.start; kids = k } ∷ map head_shown hs; tail = tail.Begin }))
    (ap alone (path-type path) ∙ alone-kept (path_type_tree path))
arrowed-same a (derived.AtNamed named) hs fs =
    ap (λ k. Some (record { frames = map frame_shown fs; heads = record { start = (first_id named).place.span.start; kids = k } ∷ map head_shown hs; tail = tail.Begin })) (alone-kept (named_tree named))
arrowed-same a (derived.AtNone o c) hs fs = refl
arrowed-same a (derived.AtTypes o types c) hs fs = refl
arrowed-same a _ hs fs = refl

-- a further type among those of a bracket
kids-same : (b : derived.Bracket) (done : List derived.Done) (hs : List derived.Head) (s : derived.Tail) (simple : SimpleType) → derived.simple_of s ≡ Some simple
    → joined (kept_all (bracket_trees b ++ done_trees done)) (spec.type_at (map head_shown hs) (tail_shown s))
    ≡ kept_all (bracket_trees b ++ (done_trees done ++ type_tree (derived.settled hs (Simple simple)) ∷ []))
kids-same b done hs s simple e =
    ap (joined _) (type-shown hs s simple e) ∙ joined-kept (bracket_trees b ++ done_trees done) _ ∙ ap kept_all (append_assoc (bracket_trees b) (done_trees done) _)

parted-same : (c : Place) (s : derived.Tail) (o : Option SimpleType) (hs : List derived.Head) (fs : List derived.Frame) → derived.simple_of s ≡ o
    → met (spec.may_part (spec.first (map frame_shown fs)) && derived.is_some o) (spec.parted (map frame_shown fs) (map head_shown hs) (tail_shown s))
    ≡ option_map shown (derived.parted c o hs fs)
parted-same c s None hs [] e = refl
parted-same c s None hs (f ∷ fs) e = refl
parted-same c s (Some simple) hs [] e = refl
parted-same c s (Some simple) hs (f ∷ fs) e =
    ap (λ n. Some (record { frames = record { bracket = bracket_shown f.bracket; count = n; kids = joined (kept_all (bracket_trees f.bracket ++ done_trees f.done)) (spec.type_at (map head_shown hs) (tail_shown s)); heads = map head_shown f.heads } ∷ map frame_shown fs; heads = []; tail = tail.Begin }))
    (sym (counted-next f.done count.Zero))
    ∙ ap (λ k. Some (record { frames = record { bracket = bracket_shown f.bracket; count = counted f.done (spec.next count.Zero); kids = k; heads = map head_shown f.heads } ∷ map frame_shown fs; heads = []; tail = tail.Begin }))
    (kids-same f.bracket f.done hs s simple e)

never-zero : (n : Count) → spec.is_zero (spec.next n) ≡ false
never-zero count.Zero = refl
never-zero count.One = refl
never-zero count.Two = refl
never-zero count.Three = refl
never-zero count.More = refl

-- types in parentheses
group-same : (o c : Place) (s : derived.Tail) (simple : SimpleType) (hs : List derived.Head) (done : List derived.Done) → derived.simple_of s ≡ Some simple
    → tail.AtGroup (record {
      span = record { start = o.span.start; end = c.span.end };
      count = spec.next (counted done count.Zero);
      kids = joined (kept_all ([] ++ done_trees done)) (spec.type_at (map head_shown hs) (tail_shown s));
    })
    ≡ tail_shown (derived.AtTypes o (derived.listed done (LastType (derived.settled hs (Simple simple)))) c)
group-same o c s simple hs done e =
    let types = derived.listed done (LastType (derived.settled hs (Simple simple))) in
    let counts : spec.next (counted done count.Zero) ≡ count_of types =
    sym (counted-next done count.Zero) ∙ sym (counted-listed done (LastType (derived.settled hs (Simple simple)))) in
    let kids : joined (kept_all ([] ++ done_trees done)) (spec.type_at (map head_shown hs) (tail_shown s)) ≡ kept_all (type_list_trees types) =
    kids-same (derived.Round o) done hs s simple e ∙ ap kept_all (sym (listed-trees done (LastType (derived.settled hs (Simple simple))))) in
    ap (λ n. tail.AtGroup (record { span = record { start = o.span.start; end = c.span.end }; count = n; kids = joined (kept_all ([] ++ done_trees done)) (spec.type_at (map head_shown hs) (tail_shown s)) })) counts
    ∙ ap (λ k. tail.AtGroup (record { span = record { start = o.span.start; end = c.span.end }; count = count_of types; kids = k })) kids

-- a tail that is not the beginning, in round brackets
filled-same : (o c : Place) (s : derived.Tail) (v : Option SimpleType) (hs : List derived.Head) (done : List derived.Done) (outer : List derived.Head) (fs : List derived.Frame)
    → derived.simple_of s ≡ v
    → met (derived.is_some v) (record {
      frames = map frame_shown fs;
      heads = map head_shown outer;
      tail = tail.AtGroup (record {
        span = record { start = o.span.start; end = c.span.end };
        count = spec.next (counted done count.Zero);
        kids = joined (kept_all ([] ++ done_trees done)) (spec.type_at (map head_shown hs) (tail_shown s));
      });
    })
    ≡ option_map shown (derived.filled o c v hs (record { bracket = derived.Round o; done = done; heads = outer }) fs)
filled-same o c s None hs done outer fs e = refl
filled-same o c s (Some simple) hs done outer fs e =
    ap (λ k. Some (record { frames = map frame_shown fs; heads = map head_shown outer; tail = k })) (group-same o c s simple hs done e)

round-same : (o c : Place) (s : derived.Tail) (hs : List derived.Head) (done : List derived.Done) (outer : List derived.Head) (fs : List derived.Frame)
    → let f : derived.Frame = record { bracket = derived.Round o; done = done; heads = outer } in
    met (spec.may_close_round (tail_shown s) (spec.first (map head_shown hs)) (Some (frame_shown f)))
    (spec.round_closed c.span.end (frame_shown f ∷ map frame_shown fs) (map head_shown hs) (tail_shown s))
    ≡ option_map shown (derived.round_within o c s hs f fs)
round-same o c derived.Begin [] [] outer fs = refl
round-same o c derived.Begin [] (d ∷ done) outer fs =
    met-same _ _ _ (ap spec.is_zero (counted-next done count.Zero) ∙ never-zero (counted done count.Zero))
round-same o c derived.Begin (h ∷ hs) done outer fs = refl
round-same o c (derived.AtPath path) hs done outer fs = filled-same o c (derived.AtPath path) _ hs done outer fs refl
round-same o c (derived.AtDot path d) hs done outer fs = refl
round-same o c (derived.AtNamed named) hs done outer fs = filled-same o c (derived.AtNamed named) _ hs done outer fs refl
round-same o c (derived.AtNone p d) hs done outer fs = refl
round-same o c (derived.AtTypes p types d) hs done outer fs =
    met-same _ _ _ (whole-same (derived.AtTypes p types d)) ∙ filled-same o c (derived.AtTypes p types d) (derived.in_round p types d) hs done outer fs refl

square-round : (path : QualId) (o c : Place) (s : derived.Tail) (hs : List derived.Head) (done : List derived.Done) (outer : List derived.Head) (fs : List derived.Frame)
    → let f : derived.Frame = record { bracket = derived.Square path o; done = done; heads = outer } in
    met (spec.may_close_round (tail_shown s) (spec.first (map head_shown hs)) (Some (frame_shown f)))
    (spec.round_closed c.span.end (frame_shown f ∷ map frame_shown fs) (map head_shown hs) (tail_shown s))
    ≡ None
square-round path o c derived.Begin hs done outer fs = refl
square-round path o c _ hs done outer fs = refl

round_ended-same : (c : Place) (s : derived.Tail) (hs : List derived.Head) (fs : List derived.Frame)
    → met (spec.may_close_round (tail_shown s) (spec.first (map head_shown hs)) (spec.first (map frame_shown fs)))
    (spec.round_closed c.span.end (map frame_shown fs) (map head_shown hs) (tail_shown s))
    ≡ option_map shown (derived.round_ended c s hs fs)
round_ended-same c derived.Begin hs [] = refl
round_ended-same c _ hs [] = refl
round_ended-same c s hs (f ∷ fs) = go f.bracket where
  go : (b : derived.Bracket) → let g : derived.Frame = record { bracket = b; done = f.done; heads = f.heads } in
      met (spec.may_close_round (tail_shown s) (spec.first (map head_shown hs)) (Some (frame_shown g)))
      (spec.round_closed c.span.end (frame_shown g ∷ map frame_shown fs) (map head_shown hs) (tail_shown s))
      ≡ option_map shown (derived.round_closed c b s hs g fs)
  go (derived.Round o) = round-same o c s hs f.done f.heads fs
  go (derived.Square path o) = square-round path o c s hs f.done f.heads fs

-- ---- a type with arguments

applied-same : (path : QualId) (c : Place) (args : List Tree)
    → node kind.AppliedType (last_id path).name (last_id path).place.span (record { start = path.first.place.span.start; end = c.span.end }) (kept_all (path_type_tree path ∷ args))
    ≡ kept (applied_tree (path_type_tree path) args c.span)
applied-same path c args =
    let out = ap out-Tree (path-type-node path) ∙ out-roll-Tree _ in
    node-kept kind.AppliedType _ _ _ _
    ∙ sym (ap (λ t. kept (labelled kind.AppliedType t.label t.label_span (record { start = t.span.start; end = c.span.end }) (path_type_tree path ∷ args))) out)

square-filled : (path : QualId) (o c : Place) (s : derived.Tail) (v : Option SimpleType) (hs : List derived.Head) (done : List derived.Done) (outer : List derived.Head) (fs : List derived.Frame)
    → derived.simple_of s ≡ v
    → let f : derived.Frame = record { bracket = derived.Square path o; done = done; heads = outer } in
    met (derived.is_some v) (spec.square_closed c.span.end (frame_shown f ∷ map frame_shown fs) (map head_shown hs) (tail_shown s))
    ≡ option_map shown (derived.square_closed c (derived.Square path o) v hs f fs)
square-filled path o c s None hs done outer fs e = refl
square-filled path o c s (Some simple) hs done outer fs e =
    let types = derived.listed done (LastType (derived.settled hs (Simple simple))) in
    ap (λ t. Some (record { frames = map frame_shown fs; heads = map head_shown outer; tail = tail.AtEnded (record { span = record { start = path.first.place.span.start; end = c.span.end }; tall = t }) }))
    (ap (node kind.AppliedType (last_id path).name (last_id path).place.span (record { start = path.first.place.span.start; end = c.span.end }))
    (kids-same (derived.Square path o) done hs s simple e ∙ ap (λ ts. kept_all (path_type_tree path ∷ ts)) (sym (listed-trees done (LastType (derived.settled hs (Simple simple))))))
    ∙ applied-same path c (type_list_trees types))

square_ended-same : (c : Place) (s : derived.Tail) (hs : List derived.Head) (fs : List derived.Frame)
    → met (spec.may_close_square (spec.first (map frame_shown fs)) && spec.is_whole (tail_shown s))
    (spec.square_closed c.span.end (map frame_shown fs) (map head_shown hs) (tail_shown s))
    ≡ option_map shown (derived.square_ended c s hs fs)
square_ended-same c s hs [] = refl
square_ended-same c s hs (f ∷ fs) = go f.bracket where
  go : (b : derived.Bracket) → let g : derived.Frame = record { bracket = b; done = f.done; heads = f.heads } in
      met (spec.may_close_square (Some (frame_shown g)) && spec.is_whole (tail_shown s))
      (spec.square_closed c.span.end (frame_shown g ∷ map frame_shown fs) (map head_shown hs) (tail_shown s))
      ≡ option_map shown (derived.square_closed c b (derived.simple_of s) hs g fs)
  go (derived.Round o) = refl
  go (derived.Square path o) = met-same (spec.is_whole (tail_shown s)) (derived.is_some (derived.simple_of s))
      (spec.square_closed c.span.end (frame_shown (record { bracket = derived.Square path o; done = f.done; heads = f.heads }) ∷ map frame_shown fs) (map head_shown hs) (tail_shown s)) (whole-same s) ∙ square-filled path o c s (derived.simple_of s) hs f.done f.heads fs refl

-- ---- any token

if-met : (b : Bool) (s : State) → (if b then Some s else None) ≡ met b s
if-met true s = refl
if-met false s = refl

pub step-same : (st : derived.State) (x : Lexeme) → stepped (shown st) x ≡ option_map shown (derived.step st x)
unfolding advanced
step-same st x = if-met _ _ ∙ go (symbol_of x.kind x.word) where
  go : (y : Symbol) → met (spec.admits (shown st) y) (spec.advanced (shown st) y x.place.span x.word) ≡ option_map shown (derived.moved (seen_as y x) st.tail st.heads st.frames)
  go symbol.Id = named-same x (record { name = x.word; quoted = is_quoted x.kind; place = x.place }) st.tail st.heads st.frames refl refl
  go symbol.OpenRound = opened-same x.place st.tail st.heads st.frames
  go symbol.CloseRound = round_ended-same x.place st.tail st.heads st.frames
  go symbol.OpenSquare = square-same x.place st.tail st.heads st.frames
  go symbol.CloseSquare = square_ended-same x.place st.tail st.heads st.frames
  go symbol.Comma = ap (λ b. met (spec.may_part (spec.first (map frame_shown st.frames)) && b) (spec.parted (map frame_shown st.frames) (map head_shown st.heads) (tail_shown st.tail))) (whole-same st.tail) ∙ parted-same x.place st.tail (derived.simple_of st.tail) st.heads st.frames refl
  go symbol.Dot = dotted-same x.place st.tail st.heads st.frames
  go symbol.Arrow = arrowed-same (record { one_character = bytes_eq x.word double_arrow; place = x.place }) st.tail st.heads st.frames
  go symbol.TypeWord = singled-same x.place st.tail st.heads st.frames
  go symbol.Other = refl
