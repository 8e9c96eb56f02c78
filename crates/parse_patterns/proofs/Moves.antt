-- A step of the reader is a step of the machine, with its trees as far as these are kept.
use Rattle.std.proofs.Common.{◌≡◌, Bool, true, false, ◌&&◌, if◌then◌else◌, List, [], ◌∷◌, ◌++◌, map, Option, Some, None, option_map, codes, refl, ap, sym, ◌∙◌, append_assoc, append-nil, ◌⊎◌, inl, inr}
use Rattle.std.specs.Prelude.{not, ◌||◌}
use Rattle.pc_terms.specs.declared.tree_kinds.TreeKind.TheVariants as kind
use Rattle.positioned_trees.specs.declared.trees.Tree.{Tree}
use Rattle.scan_tokens.specs.declared.tokens.Newline.{Newline}
use Rattle.source_grammar.specs.Lexemes.{Place, Lexeme, open_round, close_round, comma, Id, Step, QualId, qual_id_tokens, Literal, literal_token, literal_text, literal_place, Number}
use Rattle.source_grammar.specs.Patterns.{Pat, Pat1, SPat, PatList, LastOperand, LiteralPat, MinusPat, CallPatOfNone, CallPat, UnitPat, PairPat, TriplePat, LastPat, MorePats, pat_tokens, pat_list_tokens, spat_tokens, is_bar, is_var_path, pat_tree, spat_tree, pat_list_trees, call_pat}
use Rattle.source_grammar.specs.Spans.{unlabelled, span_of}
use Rattle.source_grammar.specs.Types.{SimpleType, prefix_kids, last_id}
use Rattle.parse_parts.specs.declared.built.Kids.{Kids}
use Rattle.parse_parts.specs.declared.states.Count.{Count}
use Rattle.parse_parts.specs.declared.states.Count.TheVariants as count
use Rattle.parse_parts.specs.declared.states.Path.{Path}
use Rattle.parse_parts.specs.declared.states.State.{State as TypeState}
use Rattle.parse_parts.specs.declared.symbols.Symbol.{Symbol as TypeSymbol}
use Rattle.parse_parts.specs.declared.symbols.Symbol.TheVariants as type_symbol
use Rattle.parse_parts.specs.Built as built
use Rattle.parse_parts.specs.Built.{alone, node, only}
use Rattle.parse_parts.specs.Reading.{is_nil, begun as type_reader_begun}
use Rattle.parse_parts.specs.Steps as type_spec
use Rattle.parse_parts.proofs.Derived as types
use Rattle.parse_parts.proofs.Derived.{is_some, longer}
use Rattle.parse_parts.proofs.Kept.{kept, kept_all, joined-kept, node-kept, only-kept}
use Rattle.parse_parts.proofs.Moves as type_moves
use Rattle.parse_parts.proofs.Seen as type_seen
use Rattle.parse_parts.proofs.Shown as type_shown
use Rattle.parse_parts.proofs.Shown.{end_of, end-behind, path_shown, longer-shown}
use Rattle.parse_patterns.specs.declared.states.Bracket.{Bracket}
use Rattle.parse_patterns.specs.declared.states.Operand.{Operand}
use Rattle.parse_patterns.specs.declared.states.Current.TheVariants as current
use Rattle.parse_patterns.specs.declared.states.Lead.{Lead}
use Rattle.parse_patterns.specs.declared.states.Lead.TheVariants as lead
use Rattle.parse_patterns.specs.declared.states.Infix.{Infix}
use Rattle.parse_patterns.specs.declared.states.Tail.{Tail}
use Rattle.parse_patterns.specs.declared.states.Tail.TheVariants as tail
use Rattle.parse_patterns.specs.declared.states.State.{State}
use Rattle.parse_patterns.specs.declared.symbols.Symbol.{Symbol}
use Rattle.parse_patterns.specs.declared.symbols.Symbol.TheVariants as symbol
use Rattle.parse_patterns.specs.Names.{id_of}
use Rattle.parse_patterns.specs.Operators.{over}
use Rattle.parse_patterns.specs.Reading.{stepped}
use Rattle.parse_patterns.specs.Steps as spec
use Rattle.parse_patterns.specs.Steps.{admits, advanced, is_no, type_symbol_of}
use Rattle.parse_patterns.specs.Symbols.{symbol_of}
use Rattle.parse_patterns.proofs.Chains.{piece_of, operations_shown, fits-shown, span-is}
use Rattle.parse_patterns.proofs.Derived as derived
use Rattle.parse_patterns.proofs.Derived.{spat_of, simple_in, typed_at, infix_at, alternative_at, pat_read, listed, when, is_minus_path}
use Rattle.parse_patterns.proofs.Joined.{pushed}
use Rattle.parse_patterns.proofs.Seen.{seen_as, number_as, literal_as, literal_of, number-literal, seen, shown_token, token-shown}
use Rattle.parse_patterns.proofs.Shown.{lead-var, lead-minus, lead_shown, tail_shown, name_of, binder_shown, subject_shown, piece1, earlier_shown, current_shown, bracket_shown, counted, count_shown, done_trees, bracket_trees, frame_shown, shown, OneSide, operand-shown, alternative-shown, pattern-shown}
use Rattle.parse_patterns.proofs.SimpleTypes.{goes, leaves, is_alone, is_full, full_alone, is_empty, is_begin, simple_step, type_begun}

-- the reader admits what the machine does, and goes where it goes
abbrev pub met : Bool → State → Option State
met true s = Some s
met false s = None

met-same : (a b : Bool) (s : State) → a ≡ b → met a s ≡ met b s
met-same a b s e = ap (λ c. met c s) e

-- where a test of the machine is the reader's
when-same : (a c : Bool) (s : State) (t : derived.State) → a ≡ c → s ≡ shown t → met a s ≡ option_map shown (when c t)
when-same a true s t e f = ap (λ b. met b s) e ∙ ap Some f
when-same a false s t e f = ap (λ b. met b s) e

stand-shown : (b : Option derived.Binder) (os : List derived.Operation) (es : List derived.Earlier) (n : Newline)
    → spec.may_stand (binder_shown b) (operations_shown os) (earlier_shown es) n ≡ derived.may_stand b os es n
stand-shown b (o ∷ os) es n = refl
stand-shown None [] [] n = refl
stand-shown None [] (e ∷ es) n = refl
stand-shown (Some b) [] es n = refl

fresh-shown : (b : Option derived.Binder) (os : List derived.Operation) → spec.is_fresh (binder_shown b) (operations_shown os) ≡ derived.is_fresh b os
fresh-shown None [] = refl
fresh-shown None (o ∷ os) = refl
fresh-shown (Some b) os = refl

pub whole-shown : (s : derived.Tail) → spec.is_whole (tail_shown s) ≡ is_some (spat_of s)
whole-shown derived.Begin = refl
whole-shown (derived.AtWild place) = refl
whole-shown (derived.AtPath path) = refl
whole-shown (derived.AtDot path d) = refl
whole-shown (derived.AtEnded d) = refl

-- ---- brackets

counted-some : (c : Count) → type_spec.is_zero (type_spec.next c) ≡ false
counted-some count.Zero = refl
counted-some count.One = refl
counted-some count.Two = refl
counted-some count.Three = refl
counted-some count.More = refl

listed-trees : (done : List derived.Done) (d : PatList) → pat_list_trees (listed done d) ≡ done_trees done ++ pat_list_trees d
listed-trees [] d = refl
listed-trees (e ∷ done) d = listed-trees done (MorePats e.pat e.place d) ∙ sym (append_assoc (done_trees done) (pat_tree e.pat ∷ []) (pat_list_trees d))

pub round-span : (o c : Place) (xs : List Lexeme) → span_of (open_round o ∷ (xs ++ close_round c ∷ [])) ≡ record { start = o.span.start; end = c.span.end }
round-span o c xs = ap (λ n. record { start = o.span.start; end = n }) (end-behind o.span.end xs (close_round c) [])

call-span : (path : QualId) (c : Place) (xs : List Lexeme) → span_of (qual_id_tokens path ++ (xs ++ close_round c ∷ [])) ≡ record { start = path.first.place.span.start; end = c.span.end }
call-span path c xs =
    span-is (qual_id_tokens path ++ (xs ++ close_round c ∷ [])) path.first.place.span.start c.span.end refl
    (ap end_of (sym (append_assoc (qual_id_tokens path) xs (close_round c ∷ []))) ∙ end-behind 0 (qual_id_tokens path ++ xs) (close_round c) [])

-- a pattern more in a bracket
kids-more : (k : derived.Bracket) (d : Pat) → built.joined (kept_all (bracket_trees k)) (kept (pat_tree d)) ≡ kept_all (bracket_trees k ++ pat_tree d ∷ [])
kids-more k d = joined-kept (bracket_trees k) (pat_tree d)

tuple-piece : (o c : Place) (trees : List Tree) (d : SPat) → spat_tree d ≡ unlabelled kind.TuplePat (record { start = o.span.start; end = c.span.end }) trees
    → span_of (spat_tokens d) ≡ record { start = o.span.start; end = c.span.end }
    → record { tall = node kind.TuplePat [] (record { start = o.span.start; end = c.span.end }) (record { start = o.span.start; end = c.span.end }) (kept_all trees); span = record { start = o.span.start; end = c.span.end } }
    ≡ piece_of d
tuple-piece o c trees d t s =
    ap (λ x. record { tall = x; span = record { start = o.span.start; end = c.span.end } }) (node-kept kind.TuplePat [] _ _ trees ∙ ap kept (sym t))
    ∙ ap (λ n. record { tall = kept (spat_tree d); span = n }) (sym s)

call-piece : (path : QualId) (c : Place) (trees : List Tree) (d : SPat) → spat_tree d ≡ call_pat path trees c.span
    → span_of (spat_tokens d) ≡ record { start = path.first.place.span.start; end = c.span.end }
    → record { tall = node kind.CtorPat (last_id path).name (last_id path).place.span (record { start = path.first.place.span.start; end = c.span.end }) (kept_all (prefix_kids path ++ trees)); span = record { start = path.first.place.span.start; end = c.span.end } }
    ≡ piece_of d
call-piece path c trees d t s =
    ap (λ x. record { tall = x; span = record { start = path.first.place.span.start; end = c.span.end } }) (node-kept kind.CtorPat (last_id path).name (last_id path).place.span _ (prefix_kids path ++ trees) ∙ ap kept (sym t))
    ∙ ap (λ n. record { tall = kept (spat_tree d); span = n }) (sym s)

closed-shown : (c : Place) (d : Pat) (k : derived.Bracket)
    → spec.closed_as (bracket_shown k) (type_spec.next (count_shown k)) (built.joined (kept_all (bracket_trees k)) (kept (pat_tree d))) c.span.end ≡ piece_of (derived.closed_as c d k)
closed-shown c d (derived.Call path o done) =
    let pats = listed done (LastPat d) in
    ap (λ ks. record { tall = node kind.CtorPat (last_id path).name (last_id path).place.span (record { start = path.first.place.span.start; end = c.span.end }) ks; span = record { start = path.first.place.span.start; end = c.span.end } })
    (kids-more (derived.Call path o done) d ∙ ap kept_all (append_assoc (prefix_kids path) (done_trees done) (pat_tree d ∷ []) ∙ ap (λ ts. prefix_kids path ++ ts) (sym (listed-trees done (LastPat d)))))
    ∙ call-piece path c (pat_list_trees pats) (CallPat path o pats c) refl (call-span path c (open_round o ∷ pat_list_tokens pats))
closed-shown c d (derived.Group o) =
    ap (λ t. record { tall = t; span = record { start = o.span.start; end = c.span.end } }) (ap only (kids-more (derived.Group o) d) ∙ only-kept (pat_tree d))
    ∙ ap (λ n. record { tall = kept (pat_tree d); span = n }) (sym (round-span o c (pat_tokens d)))
closed-shown c d (derived.GroupOne o a p) =
    ap (λ ks. record { tall = node kind.TuplePat [] (record { start = o.span.start; end = c.span.end }) (record { start = o.span.start; end = c.span.end }) ks; span = record { start = o.span.start; end = c.span.end } })
    (kids-more (derived.GroupOne o a p) d)
    ∙ tuple-piece o c (pat_tree a ∷ pat_tree d ∷ []) (PairPat o a p d c) refl
    (ap span_of (sym (go (pat_tokens a) (pat_tokens d))) ∙ round-span o c (pat_tokens a ++ comma p ∷ pat_tokens d))
  where
    go : (x y : List Lexeme) → open_round o ∷ ((x ++ comma p ∷ y) ++ close_round c ∷ []) ≡ open_round o ∷ (x ++ comma p ∷ (y ++ close_round c ∷ []))
    go x y = simp append_assoc
closed-shown c d (derived.GroupTwo o a p b q) =
    ap (λ ks. record { tall = node kind.TuplePat [] (record { start = o.span.start; end = c.span.end }) (record { start = o.span.start; end = c.span.end }) ks; span = record { start = o.span.start; end = c.span.end } })
    (kids-more (derived.GroupTwo o a p b q) d)
    ∙ tuple-piece o c (pat_tree a ∷ pat_tree b ∷ pat_tree d ∷ []) (TriplePat o a p b q d c) refl
    (ap span_of (sym (go (pat_tokens a) (pat_tokens b) (pat_tokens d))) ∙ round-span o c (pat_tokens a ++ comma p ∷ (pat_tokens b ++ comma q ∷ pat_tokens d)))
  where
    go : (x y z : List Lexeme) → open_round o ∷ ((x ++ comma p ∷ (y ++ comma q ∷ z)) ++ close_round c ∷ []) ≡ open_round o ∷ (x ++ comma p ∷ (y ++ comma q ∷ (z ++ close_round c ∷ [])))
    go x y z = simp append_assoc

closed-same : (c : Place) (d : Pat) (fs : List derived.Frame)
    → met (spec.may_close (type_spec.first (map frame_shown fs))) (spec.closed (map frame_shown fs) (kept (pat_tree d)) c.span.end) ≡ option_map shown (derived.closed c d fs)
closed-same c d [] = refl
closed-same c d (f ∷ fs) = ap (λ o. Some (spec.behind_frame (frame_shown f) (map frame_shown fs) o)) (closed-shown c d f.bracket)

parted-same : (c : Place) (d : Pat) (fs : List derived.Frame)
    → met (spec.may_part (type_spec.first (map frame_shown fs))) (spec.parted (map frame_shown fs) (kept (pat_tree d))) ≡ option_map shown (derived.parted c d fs)
parted-same c d [] = refl
parted-same c d (f ∷ fs) = go f.bracket where
  new : Bracket → Count → Option Kids → State
  new b n ks = record {
    frames = record { bracket = b; count = n; kids = ks; earlier = earlier_shown f.earlier; binder = binder_shown f.binder; operations = operations_shown f.operations } ∷ map frame_shown fs;
    earlier = None;
    current = current.InInfix spec.nothing_yet;
  }

  go : (k : derived.Bracket)
      → met (if spec.is_group (bracket_shown k) then spec.has_room (count_shown k) else true) (new (bracket_shown k) (type_spec.next (count_shown k)) (built.joined (kept_all (bracket_trees k)) (kept (pat_tree d))))
      ≡ option_map shown (derived.parted_in c d k f fs)
  go (derived.Call path o done) = ap (λ ks. Some (new (bracket_shown (derived.Call path o done)) (type_spec.next (counted done)) ks))
      (kids-more (derived.Call path o done) d ∙ ap kept_all (append_assoc (prefix_kids path) (done_trees done) (pat_tree d ∷ [])))
  go (derived.Group o) = ap (λ ks. Some (new (bracket_shown (derived.Group o)) count.One ks)) (kids-more (derived.Group o) d)
  go (derived.GroupOne o a p) = ap (λ ks. Some (new (bracket_shown (derived.GroupOne o a p)) count.Two ks)) (kids-more (derived.GroupOne o a p) d)
  go (derived.GroupTwo o a p b q) = refl

-- ---- what ends an alternative

ended-by-same : (y : Symbol) (x : Lexeme) (d : Pat1) (es : List derived.Earlier) (fs : List derived.Frame)
    → met (spec.may_end y (map frame_shown fs) x) (spec.ended y (map frame_shown fs) (earlier_shown es) (piece1 d) x) ≡ option_map shown (derived.ended_by (seen_as y x) d es fs)
ended-by-same symbol.Id x d es fs = when-same _ _ _ _ refl refl
ended-by-same symbol.Comma x d es fs =
    ap (λ t. met (spec.may_part (type_spec.first (map frame_shown fs))) (spec.parted (map frame_shown fs) t)) (pattern-shown es d) ∙ parted-same x.place (pat_read es d) fs
ended-by-same symbol.CloseRound x d es fs =
    ap (λ t. met (spec.may_close (type_spec.first (map frame_shown fs))) (spec.closed (map frame_shown fs) t x.place.span.end)) (pattern-shown es d) ∙ closed-same x.place (pat_read es d) fs
ended-by-same symbol.Number x d es fs = refl
ended-by-same symbol.Literal x d es fs = refl
ended-by-same symbol.Underscore x d es fs = refl
ended-by-same symbol.Colon x d es fs = refl
ended-by-same symbol.At x d es fs = refl
ended-by-same symbol.OpenRound x d es fs = refl
ended-by-same symbol.Dot x d es fs = refl
ended-by-same symbol.Other x d es fs = refl

ended-same : (y : Symbol) (x : Lexeme) (o : Option Pat1) (operand : Operand) (es : List derived.Earlier) (fs : List derived.Frame) → ((d : Pat1) → o ≡ Some d → operand ≡ piece1 d)
    → met (is_some o && spec.may_end y (map frame_shown fs) x) (spec.ended y (map frame_shown fs) (earlier_shown es) operand x) ≡ option_map shown (derived.ended (seen_as y x) o es fs)
ended-same y x None operand es fs e = refl
ended-same y x (Some d) operand es fs e =
    ap (λ p. met (spec.may_end y (map frame_shown fs) x) (spec.ended y (map frame_shown fs) (earlier_shown es) p x)) (e d refl) ∙ ended-by-same y x d es fs

pub some-infix : (b : Option derived.Binder) (os : List derived.Operation) (o : Option SPat) → is_some (infix_at b os o) ≡ is_some o
some-infix b os None = refl
some-infix b os (Some d) = refl

-- behind an operand that is whole
whole-ended : (y : Symbol) (x : Lexeme) (b : Option derived.Binder) (os : List derived.Operation) (s : derived.Tail) (es : List derived.Earlier) (fs : List derived.Frame) → OneSide (derived.InInfix b os s)
    → met (spec.is_whole (tail_shown s) && spec.may_end y (map frame_shown fs) x) (spec.ended y (map frame_shown fs) (earlier_shown es) (spec.alternative_at (current_shown (derived.InInfix b os s))) x)
    ≡ option_map shown (derived.ended (seen_as y x) (infix_at b os (spat_of s)) es fs)
whole-ended y x b os s es fs one =
    ap (λ w. met (w && spec.may_end y (map frame_shown fs) x) (spec.ended y (map frame_shown fs) (earlier_shown es) (spec.alternative_at (current_shown (derived.InInfix b os s))) x))
    (whole-shown s ∙ sym (some-infix b os (spat_of s)))
    ∙ ended-same y x (infix_at b os (spat_of s)) _ es fs (λ d e. alternative-shown (derived.InInfix b os s) d one e)

-- ---- one kind of token after the other

abbrev chain_shown : Option derived.Binder → List derived.Operation → derived.Tail → Infix
chain_shown b os s = record { binder = binder_shown b; operations = operations_shown os; tail = tail_shown s }

-- a name behind an operand
behind-same : (x : Lexeme) (b : Option derived.Binder) (os : List derived.Operation) (s : derived.Tail) (o : Option SPat) (es : List derived.Earlier) (fs : List derived.Frame) → OneSide (derived.InInfix b os s)
    → spat_of s ≡ o
    → met (is_some o && (is_no x.place.before && (is_bar (id_of x) || spec.operator_fits (operations_shown os) x)))
    (if is_bar (id_of x) then spec.barred (map frame_shown fs) (earlier_shown es) (spec.alternative_at (current_shown (derived.InInfix b os s)))
    else spec.operated (map frame_shown fs) (earlier_shown es) (chain_shown b os s) x)
    ≡ option_map shown (derived.behind (id_of x) b os o es fs)
behind-same x b os s None es fs one e = refl
behind-same x b os s (Some d) es fs one e = go (is_no x.place.before) (is_bar (id_of x)) where
  bars : spec.barred (map frame_shown fs) (earlier_shown es) (spec.alternative_at (current_shown (derived.InInfix b os s)))
      ≡ shown (derived.barred x.place (derived.bound b (derived.settled os (LastOperand d))) es fs)
  bars = ap (spec.barred (map frame_shown fs) (earlier_shown es)) (alternative-shown (derived.InInfix b os s) _ one (ap (infix_at b os) e))

  operates : spec.operated (map frame_shown fs) (earlier_shown es) (chain_shown b os s) x
      ≡ shown (derived.at fs es (derived.InInfix b (record { left = d; operator = id_of x } ∷ os) derived.Begin))
  operates = ap (λ p. record {
    frames = map frame_shown fs;
    earlier = earlier_shown es;
    current = current.InInfix (record {
      binder = binder_shown b;
      operations = pushed over (operations_shown os) p (id_of x);
      tail = tail.Begin;
    });
  }) (operand-shown s d e)

  go : (n k : Bool)
      → met (n && (k || spec.operator_fits (operations_shown os) x))
      (if k then spec.barred (map frame_shown fs) (earlier_shown es) (spec.alternative_at (current_shown (derived.InInfix b os s))) else spec.operated (map frame_shown fs) (earlier_shown es) (chain_shown b os s) x)
      ≡ option_map shown (if n then derived.operated k (id_of x) b os d es fs else None)
  go false k = refl
  go true true = ap Some bars
  go true false = when-same _ _ _ _ (fits-shown os (id_of x)) operates

longer-plain : (path : QualId) (d : Place) (id : Id) → lead_shown (longer path d id) ≡ lead.Plain
longer-plain path d id = go path.steps where
  go : (steps : List Step) → lead_shown (record { first = path.first; steps = steps ++ record { point = d; id = id } ∷ [] }) ≡ lead.Plain
  go [] = refl
  go (s ∷ steps) = refl

named-same : (x : Lexeme) (b : Option derived.Binder) (os : List derived.Operation) (s : derived.Tail) (es : List derived.Earlier) (fs : List derived.Frame) → OneSide (derived.InInfix b os s)
    → met (spec.may_name (tail_shown s) (chain_shown b os s) (earlier_shown es) x) (spec.named (tail_shown s) (map frame_shown fs) (earlier_shown es) (chain_shown b os s) x)
    ≡ option_map shown (derived.named (id_of x) b os s es fs)
named-same x b os derived.Begin es fs one = when-same _ _ _ _ (stand-shown b os es x.place.before) refl
named-same x b os (derived.AtDot path d) es fs one =
    ap (λ p. to p lead.Plain) (sym (longer-shown path d (id_of x))) ∙ ap (to (path_shown (longer path d (id_of x)))) (sym (longer-plain path d (id_of x)))
  where
    to : Path → Lead → Option State
    to p l = Some (record {
      frames = map frame_shown fs;
      earlier = earlier_shown es;
      current = current.InInfix (record { binder = binder_shown b; operations = operations_shown os; tail = tail.AtPath p l });
    })
named-same x b os (derived.AtWild place) es fs one = behind-same x b os (derived.AtWild place) _ es fs one refl
named-same x b os (derived.AtPath path) es fs one = behind-same x b os (derived.AtPath path) _ es fs one refl
named-same x b os (derived.AtEnded d) es fs one = behind-same x b os (derived.AtEnded d) _ es fs one refl

-- a literal at the beginning
literal-piece : (l : Literal) → spec.leaf (literal_text l) (literal_place l).span ≡ piece_of (LiteralPat l)
literal-piece l = ap (λ t. record { tall = t; span = (literal_place l).span }) (node-kept kind.LitPat (literal_text l) (literal_place l).span (literal_place l).span [])

started-same : (x : Lexeme) (b : Option derived.Binder) (os : List derived.Operation) (s next : derived.Tail) (n : Newline) (tail_now : Tail) (es : List derived.Earlier) (fs : List derived.Frame)
    → tail_now ≡ tail_shown next → x.place.before ≡ n
    → met (spec.is_begin (tail_shown s) && spec.may_begin (chain_shown b os s) (earlier_shown es) x.place.before) (spec.at_tail (map frame_shown fs) (earlier_shown es) (chain_shown b os s) tail_now)
    ≡ option_map shown (derived.started n b os s next es fs)
started-same x b os derived.Begin next n tail_now es fs e m =
    when-same _ _ _ _ (stand-shown b os es x.place.before ∙ ap (derived.may_stand b os es) m)
    (ap (spec.at_tail (map frame_shown fs) (earlier_shown es) (chain_shown b os derived.Begin)) e)
started-same x b os (derived.AtWild place) next n tail_now es fs e m = refl
started-same x b os (derived.AtPath path) next n tail_now es fs e m = refl
started-same x b os (derived.AtDot path d) next n tail_now es fs e m = refl
started-same x b os (derived.AtEnded d) next n tail_now es fs e m = refl

minus-piece : (path : QualId) (n : Number) → spec.leaf (codes "-" ++ n.text) (record { start = path.first.place.span.start; end = n.place.span.end }) ≡ piece_of (MinusPat path.first.place n)
minus-piece path n = ap (λ t. record { tall = t; span = record { start = path.first.place.span.start; end = n.place.span.end } }) (node-kept kind.LitPat _ _ _ [])

numbered-same : (x : Lexeme) (b : Option derived.Binder) (os : List derived.Operation) (s : derived.Tail) (es : List derived.Earlier) (fs : List derived.Frame)
    → met (spec.may_number (tail_shown s) (chain_shown b os s) (earlier_shown es) x)
    (spec.at_tail (map frame_shown fs) (earlier_shown es) (chain_shown b os s) (tail.AtEnded (spec.numbered (tail_shown s) x)))
    ≡ option_map shown (derived.numbered (number_as x) b os s es fs)
numbered-same x b os derived.Begin es fs =
    when-same _ _ _ _ (stand-shown b os es x.place.before)
    (ap (λ p. spec.at_tail (map frame_shown fs) (earlier_shown es) (chain_shown b os derived.Begin) (tail.AtEnded p)) (number-leaf (number_as x)))
  where
    number-leaf : (n : Number) → spec.leaf n.text n.place.span ≡ piece_of (LiteralPat (literal_of n))
    number-leaf n =
        let same = number-literal n in
        ap (λ y. spec.leaf y.word y.place.span) (sym same) ∙ literal-piece (literal_of n)
numbered-same x b os (derived.AtPath path) es fs =
    when-same _ _ _ _ (ap (λ v. v && is_no x.place.before) (lead-minus path))
    (ap (λ p. spec.at_tail (map frame_shown fs) (earlier_shown es) (chain_shown b os (derived.AtPath path)) (tail.AtEnded p)) (minus-piece path (number_as x)))
numbered-same x b os (derived.AtWild place) es fs = refl
numbered-same x b os (derived.AtDot path d) es fs = refl
numbered-same x b os (derived.AtEnded d) es fs = refl

-- a variable is a path of one name
alone-name : (path : QualId) → is_var_path path.first path.steps ≡ true → name_of (last_id path) ≡ name_of path.first
alone-name path v = go path.steps v where
  go : (steps : List Step) → is_var_path path.first steps ≡ true → name_of (last_id (record { first = path.first; steps = steps })) ≡ name_of path.first
  go [] e = refl
  go (s ∷ steps) e = cc

var-same : (path : QualId) (rest test : Bool) (s : State) (t : derived.State) → test ≡ (spec.is_var_lead (lead_shown path) && rest) → (is_var_path path.first path.steps ≡ true → s ≡ shown t)
    → met test s ≡ option_map shown (when (is_var_path path.first path.steps && rest) t)
var-same path rest test s t e same = ap (λ c. met c s) (e ∙ ap (λ v. v && rest) (lead-var path)) ∙ go (is_var_path path.first path.steps) refl where
  go : (v : Bool) → is_var_path path.first path.steps ≡ v → met (v && rest) s ≡ option_map shown (when (v && rest) t)
  go true v = when-same rest rest s t refl (same v)
  go false v = refl

coloned-same : (x : Lexeme) (b : Option derived.Binder) (os : List derived.Operation) (s : derived.Tail) (es : List derived.Earlier) (fs : List derived.Frame)
    → met (spec.is_named (tail_shown s) && spec.is_fresh (binder_shown b) (operations_shown os)) (spec.type_from (tail_shown s) (map frame_shown fs) (earlier_shown es) (chain_shown b os s))
    ≡ option_map shown (derived.coloned x.place b os s es fs)
coloned-same x b os derived.Begin es fs = refl
coloned-same x b os (derived.AtWild place) es fs = when-same _ _ _ _ (fresh-shown b os) refl
coloned-same x b os (derived.AtPath path) es fs =
    var-same path (derived.is_fresh b os) _ _ (derived.at fs es (derived.InType (derived.VarSubject path.first) x.place type_begun))
    (ap (λ f. spec.is_var_lead (lead_shown path) && f) (fresh-shown b os))
    (λ v. ap (λ p. record { frames = map frame_shown fs; earlier = earlier_shown es; current = current.InType p type_reader_begun }) (alone-name path v))
coloned-same x b os (derived.AtDot path d) es fs = refl
coloned-same x b os (derived.AtEnded d) es fs = refl

signed-same : (x : Lexeme) (b : Option derived.Binder) (os : List derived.Operation) (s : derived.Tail) (es : List derived.Earlier) (fs : List derived.Frame)
    → met (spec.is_var_tail (tail_shown s) && (spec.is_fresh (binder_shown b) (operations_shown os) && is_no x.place.before)) (spec.binder_from (tail_shown s) (map frame_shown fs) (earlier_shown es) (chain_shown b os s))
    ≡ option_map shown (derived.signed x.place b os s es fs)
signed-same x b os derived.Begin es fs = refl
signed-same x b os (derived.AtWild place) es fs = refl
signed-same x b os (derived.AtPath path) es fs =
    var-same path (derived.is_fresh b os && is_no x.place.before) _ _ (derived.at fs es (derived.InInfix (Some (record { id = path.first; sign = x.place })) [] derived.Begin))
    (ap (λ f. spec.is_var_lead (lead_shown path) && (f && is_no x.place.before)) (fresh-shown b os))
    (λ v. ap (λ p. record { frames = map frame_shown fs; earlier = earlier_shown es; current = current.InInfix (record { binder = Some p; operations = []; tail = tail.Begin }) }) (alone-name path v))
signed-same x b os (derived.AtDot path d) es fs = refl
signed-same x b os (derived.AtEnded d) es fs = refl

opened-same : (x : Lexeme) (b : Option derived.Binder) (os : List derived.Operation) (s : derived.Tail) (es : List derived.Earlier) (fs : List derived.Frame)
    → met (spec.may_open (tail_shown s) (chain_shown b os s) (earlier_shown es) x) (spec.opened (tail_shown s) (map frame_shown fs) (earlier_shown es) (chain_shown b os s) x.place.span.start)
    ≡ option_map shown (derived.opened x.place b os s es fs)
opened-same x b os derived.Begin es fs = when-same _ _ _ _ (stand-shown b os es x.place.before) refl
opened-same x b os (derived.AtPath path) es fs =
    when-same _ _ _ _ refl (ap (λ ks. spec.opened_with (bracket_shown (derived.Call path x.place [])) (kept_all ks) (map frame_shown fs) (earlier_shown es) (chain_shown b os (derived.AtPath path))) (sym (append-nil (prefix_kids path))))
opened-same x b os (derived.AtWild place) es fs = refl
opened-same x b os (derived.AtDot path d) es fs = refl
opened-same x b os (derived.AtEnded d) es fs = refl

unit-piece : (o c : Place) → spec.leaf (codes "()") (record { start = o.span.start; end = c.span.end }) ≡ piece_of (UnitPat o c)
unit-piece o c = ap (λ t. record { tall = t; span = record { start = o.span.start; end = c.span.end } }) (node-kept kind.LitPat _ _ _ [])

emptied-same : (c : Place) (fs : List derived.Frame)
    → met (spec.may_empty (type_spec.first (map frame_shown fs))) (spec.emptied (map frame_shown fs) c.span.end) ≡ option_map shown (derived.emptied c fs)
emptied-same c [] = refl
emptied-same c (f ∷ fs) = go f.bracket where
  now : Operand → State
  now p = spec.behind_frame (frame_shown f) (map frame_shown fs) p

  go : (k : derived.Bracket) → met (type_spec.is_zero (count_shown k)) (now (spec.emptied_as (bracket_shown k) (kept_all (bracket_trees k)) c.span.end)) ≡ option_map shown (derived.emptied_in (derived.emptied_as c k) f fs)
  go (derived.Call path o []) =
      ap (λ p. Some (now p)) (call-piece path c [] (CallPatOfNone path o c) refl (call-span path c (open_round o ∷ [])))
  go (derived.Call path o (d ∷ done)) = met-same _ _ _ (counted-some (counted done))
  go (derived.Group o) = ap (λ p. Some (now p)) (unit-piece o c)
  go (derived.GroupOne o a p) = refl
  go (derived.GroupTwo o a p b q) = refl

shut-begin : (c : Place) (b : Option derived.Binder) (os : List derived.Operation) (es : List derived.Earlier) (fs : List derived.Frame)
    → met (spec.is_fresh (binder_shown b) (operations_shown os) && (type_spec.is_none (earlier_shown es) && spec.may_empty (type_spec.first (map frame_shown fs)))) (spec.emptied (map frame_shown fs) c.span.end)
    ≡ option_map shown (derived.shut c b os derived.Begin es fs)
shut-begin c None [] [] fs = emptied-same c fs
shut-begin c None [] (e ∷ es) fs = refl
shut-begin c None (o ∷ os) es fs = refl
shut-begin c (Some b) os es fs = refl

shut-same : (x : Lexeme) (b : Option derived.Binder) (os : List derived.Operation) (s : derived.Tail) (es : List derived.Earlier) (fs : List derived.Frame) → OneSide (derived.InInfix b os s)
    → met (spec.may_close_at (tail_shown s) (chain_shown b os s) (earlier_shown es) (map frame_shown fs)) (spec.closed_at (tail_shown s) (map frame_shown fs) (earlier_shown es) (chain_shown b os s) x.place.span.end)
    ≡ option_map shown (derived.shut x.place b os s es fs)
shut-same x b os derived.Begin es fs one = shut-begin x.place b os es fs
shut-same x b os (derived.AtWild place) es fs one = whole-ended symbol.CloseRound x b os (derived.AtWild place) es fs one
shut-same x b os (derived.AtPath path) es fs one = whole-ended symbol.CloseRound x b os (derived.AtPath path) es fs one
shut-same x b os (derived.AtDot path d) es fs one = whole-ended symbol.CloseRound x b os (derived.AtDot path d) es fs one
shut-same x b os (derived.AtEnded d) es fs one = whole-ended symbol.CloseRound x b os (derived.AtEnded d) es fs one

dotted-same : (x : Lexeme) (b : Option derived.Binder) (os : List derived.Operation) (s : derived.Tail) (es : List derived.Earlier) (fs : List derived.Frame)
    → met (spec.is_path (tail_shown s)) (spec.dotted (tail_shown s) (map frame_shown fs) (earlier_shown es) (chain_shown b os s)) ≡ option_map shown (derived.dotted x.place b os s es fs)
dotted-same x b os derived.Begin es fs = refl
dotted-same x b os (derived.AtWild place) es fs = refl
dotted-same x b os (derived.AtPath path) es fs = refl
dotted-same x b os (derived.AtDot path d) es fs = refl
dotted-same x b os (derived.AtEnded d) es fs = refl

moved-same : (y : Symbol) (x : Lexeme) (b : Option derived.Binder) (os : List derived.Operation) (s : derived.Tail) (es : List derived.Earlier) (fs : List derived.Frame) → OneSide (derived.InInfix b os s)
    → literal_token (literal_as x.kind x.word x.place) ≡ x ⊎ (y ≡ symbol.Literal → ⊥)
    → met (spec.admits_infix y (map frame_shown fs) (earlier_shown es) (chain_shown b os s) x) (spec.advanced_infix y (map frame_shown fs) (earlier_shown es) (chain_shown b os s) x)
    ≡ option_map shown (derived.moved (seen_as y x) b os s es fs)
moved-same symbol.Id x b os s es fs one l = named-same x b os s es fs one
moved-same symbol.Number x b os s es fs one l = numbered-same x b os s es fs
moved-same symbol.Literal x b os s es fs one (inl l) =
    started-same x b os s (derived.AtEnded (LiteralPat (literal_as x.kind x.word x.place))) _ (tail.AtEnded (spec.leaf x.word x.place.span)) es fs
    (ap tail.AtEnded (ap (λ z. spec.leaf z.word z.place.span) (sym l) ∙ literal-piece (literal_as x.kind x.word x.place))) (ap (λ z. z.place.before) (sym l))
moved-same symbol.Literal x b os s es fs one (inr n) = absurd (n refl)
moved-same symbol.Underscore x b os s es fs one l = started-same x b os s (derived.AtWild x.place) _ (tail.AtWild x.place.span) es fs refl refl
moved-same symbol.Colon x b os s es fs one l = coloned-same x b os s es fs
moved-same symbol.At x b os s es fs one l = signed-same x b os s es fs
moved-same symbol.OpenRound x b os s es fs one l = opened-same x b os s es fs
moved-same symbol.CloseRound x b os s es fs one l = shut-same x b os s es fs one
moved-same symbol.Comma x b os s es fs one l = whole-ended symbol.Comma x b os s es fs one
moved-same symbol.Dot x b os s es fs one l = dotted-same x b os s es fs
moved-same symbol.Other x b os s es fs one l = refl

-- ---- types

alone-same : (fs : List types.Frame) → spec.is_alone (map type_shown.frame_shown fs) ≡ is_alone fs
alone-same [] = refl
alone-same (f ∷ []) = refl
alone-same (f ∷ g ∷ fs) = refl

type-room : (k : types.Bracket) (done : List types.Done) → (type_spec.is_round (type_shown.bracket_shown k) && not (spec.has_room (type_shown.counted done count.Zero))) ≡ is_full k done
type-room (types.Round o) [] = refl
type-room (types.Round o) (d ∷ []) = refl
type-room (types.Round o) (d ∷ e ∷ done) = ap (λ n. not (spec.has_room n)) (type_shown.counted-next done count.One ∙ ap type_spec.next (type_shown.counted-next done count.Zero)) ∙ two (type_shown.counted done count.Zero) where
  two : (n : Count) → not (spec.has_room (type_spec.next (type_spec.next n))) ≡ true
  two count.Zero = refl
  two count.One = refl
  two count.Two = refl
  two count.Three = refl
  two count.More = refl
type-room (types.Square path o) done = refl

full-same : (fs : List types.Frame) → spec.is_full (map type_shown.frame_shown fs) ≡ full_alone fs
full-same [] = refl
full-same (f ∷ []) = type-room f.bracket f.done
full-same (f ∷ g ∷ fs) = refl

begin-same : (s : types.Tail) → spec.is_type_begin (type_shown.tail_shown s) ≡ is_begin s
begin-same types.Begin = refl
begin-same (types.AtPath path) = refl
begin-same (types.AtDot path d) = refl
begin-same (types.AtNamed named) = refl
begin-same (types.AtNone o c) = refl
begin-same (types.AtTypes o ts c) = refl

nil-frames : (fs : List types.Frame) → is_nil (map type_shown.frame_shown fs) ≡ is_empty fs
nil-frames [] = refl
nil-frames (f ∷ fs) = refl

leaves-same : (y : TypeSymbol) (x : Lexeme) (t : types.State) → spec.leaves (type_shown.shown t) y ≡ leaves (type_seen.seen_as y x) t.frames t.tail
leaves-same type_symbol.Arrow x t = nil-frames t.frames
leaves-same type_symbol.Comma x t = full-same t.frames
leaves-same type_symbol.CloseRound x t = ap (λ b. b && spec.is_type_begin (type_shown.tail_shown t.tail)) (alone-same t.frames) ∙ ap (λ b. is_alone t.frames && b) (begin-same t.tail)
leaves-same type_symbol.Id x t = refl
leaves-same type_symbol.OpenRound x t = refl
leaves-same type_symbol.OpenSquare x t = refl
leaves-same type_symbol.CloseSquare x t = refl
leaves-same type_symbol.Dot x t = refl
leaves-same type_symbol.TypeWord x t = refl
leaves-same type_symbol.Other x t = refl

pub simple-shown : (t : types.State) → spec.is_simple (type_shown.shown t) ≡ is_some (simple_in t.frames t.heads t.tail)
simple-shown t = go t.frames t.heads where
  go : (fs : List types.Frame) (hs : List types.Head)
      → (is_nil (map type_shown.frame_shown fs) && (is_nil (map type_shown.head_shown hs) && type_spec.is_whole (type_shown.tail_shown t.tail))) ≡ is_some (simple_in fs hs t.tail)
  go [] [] = type_moves.whole-same t.tail
  go [] (h ∷ hs) = refl
  go (f ∷ fs) hs = refl

pub some-typed : (s : derived.Subject) (p : Place) (o : Option SimpleType) → is_some (typed_at s p o) ≡ is_some o
some-typed s p None = refl
some-typed s p (Some type) = refl

-- one token more of a type
abbrev pub type_met : Bool → TypeState → Option TypeState
type_met true t = Some t
type_met false t = None

pub type-same : (t : types.State) (x : Lexeme)
    → type_met (spec.type_goes_on (type_shown.shown t) (type_symbol_of x)) (type_spec.advanced (type_shown.shown t) (type_symbol_of x) x.place.span x.word) ≡ option_map type_shown.shown (simple_step t x)
type-same t x =
    ap (λ b. type_met (not b && type_spec.admits (type_shown.shown t) (type_symbol_of x)) next) (leaves-same (type_symbol_of x) x t) ∙ go (leaves (type_seen.seen x) t.frames t.tail)
  where
    next : TypeState
    next = type_spec.advanced (type_shown.shown t) (type_symbol_of x) x.place.span x.word

    as_step : (b : Bool) → type_met b next ≡ (if b then Some next else None)
    as_step true = refl
    as_step false = refl

    go : (l : Bool) → type_met (not l && type_spec.admits (type_shown.shown t) (type_symbol_of x)) next ≡ option_map type_shown.shown (goes l (types.step t x))
    go true = refl
    go false = as_step (type_spec.admits (type_shown.shown t) (type_symbol_of x)) ∙ type_moves.step-same t x

typed-same : (x : Lexeme) (s : derived.Subject) (p : Place) (t : types.State) (es : List derived.Earlier) (fs : List derived.Frame)
    → met (spec.admits_typed (map frame_shown fs) (type_shown.shown t) x) (spec.advanced_typed (map frame_shown fs) (earlier_shown es) (subject_shown s) (type_shown.shown t) x)
    ≡ option_map shown (derived.moved_in (simple_step t x) s p (alternative_at (derived.InType s p t)) (seen x) es fs)
typed-same x s p t es fs = go (spec.type_goes_on (type_shown.shown t) (type_symbol_of x)) (simple_step t x) (type-same t x) where
  next : TypeState
  next = type_spec.advanced (type_shown.shown t) (type_symbol_of x) x.place.span x.word

  goes_to : TypeState → State
  goes_to u = record { frames = map frame_shown fs; earlier = earlier_shown es; current = current.InType (subject_shown s) u }

  go : (b : Bool) (o : Option types.State) → type_met b next ≡ option_map type_shown.shown o
      → met (b || (spec.is_simple (type_shown.shown t) && spec.may_end (symbol_of x.kind x.word) (map frame_shown fs) x))
      (if b then goes_to next else spec.ended (symbol_of x.kind x.word) (map frame_shown fs) (earlier_shown es) (spec.typed (subject_shown s) (type_shown.shown t)) x)
      ≡ option_map shown (derived.moved_in o s p (alternative_at (derived.InType s p t)) (seen x) es fs)
  go true (Some u) e = (let same : next ≡ type_shown.shown u = cc in ap (λ v. Some (goes_to v)) same)
  go true None e = cc
  go false (Some u) e = cc
  go false None e =
      ap (λ w. met (w && spec.may_end (symbol_of x.kind x.word) (map frame_shown fs) x) (spec.ended (symbol_of x.kind x.word) (map frame_shown fs) (earlier_shown es) (spec.typed (subject_shown s) (type_shown.shown t)) x))
      (simple-shown t ∙ sym (some-typed s p (simple_in t.frames t.heads t.tail)))
      ∙ ended-same (symbol_of x.kind x.word) x (alternative_at (derived.InType s p t)) (spec.typed (subject_shown s) (type_shown.shown t)) es fs (λ d f. alternative-shown (derived.InType s p t) d tt f)

-- ---- any token

literal-or : (y : Symbol) (x : Lexeme) → shown_token (seen_as y x) ≡ x → literal_token (literal_as x.kind x.word x.place) ≡ x ⊎ (y ≡ symbol.Literal → ⊥)
literal-or symbol.Literal x e = inl e
literal-or symbol.Id x e = inr (λ f. cc)
literal-or symbol.Number x e = inr (λ f. cc)
literal-or symbol.Underscore x e = inr (λ f. cc)
literal-or symbol.Colon x e = inr (λ f. cc)
literal-or symbol.At x e = inr (λ f. cc)
literal-or symbol.OpenRound x e = inr (λ f. cc)
literal-or symbol.CloseRound x e = inr (λ f. cc)
literal-or symbol.Comma x e = inr (λ f. cc)
literal-or symbol.Dot x e = inr (λ f. cc)
literal-or symbol.Other x e = inr (λ f. cc)

if-met : (b : Bool) (s : State) → (if b then Some s else None) ≡ met b s
if-met true s = refl
if-met false s = refl

pub step-same : (st : derived.State) (x : Lexeme) → OneSide st.current → stepped (shown st) x ≡ option_map shown (derived.step st x)
unfolding admits advanced
step-same st x one = if-met _ _ ∙ go st.current one where
  go : (c : derived.Current) → OneSide c
      → met (spec.admits_at (current_shown c) (map frame_shown st.frames) (earlier_shown st.earlier) x) (spec.advanced_at (current_shown c) (map frame_shown st.frames) (earlier_shown st.earlier) x)
      ≡ option_map shown (derived.step_at c x st.earlier st.frames)
  go (derived.InType s p t) k = typed-same x s p t st.earlier st.frames
  go (derived.InInfix b os s) k = moved-same (symbol_of x.kind x.word) x b os s st.earlier st.frames k (literal-or (symbol_of x.kind x.word) x (token-shown x))
