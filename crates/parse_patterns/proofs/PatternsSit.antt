-- The trees of a pattern stand where its tokens do.
use Rattle.std.proofs.Common.{ℕ, zero, suc, ◌≤◌, Bool, true, false, if◌then◌else◌, List, [], ◌∷◌, ◌++◌, codes, sym, subst, arith}
use Rattle.std.specs.Prelude.{not, ◌==◌}
use Rattle.pc_terms.specs.declared.problems.Span.{Span}
use Rattle.pc_terms.specs.declared.tree_kinds.TreeKind.{TreeKind}
use Rattle.pc_terms.specs.declared.tree_kinds.TreeKind.TheVariants as kind
use Rattle.positioned_trees.specs.declared.trees.Tree.{Tree}
use Rattle.positioned_trees.specs.declared.trees.Tree.TheViews.{out-Tree}
use Rattle.scan_tokens.specs.Words.{Bytes}
use Rattle.source_grammar.specs.Lexemes.{Place, Lexeme, open_round, close_round, comma, colon, underscore, at_sign, bar, Id, id_token, QualId, qual_id_tokens, literal_text, literal_place}
use Rattle.source_grammar.specs.Patterns.{Pat, Pat1, Pat3, SPat, PatList, LastAlternative, MoreAlternatives, TypedVar, TypedWild, BoundPat, InfixPat, LastOperand, MoreOperands, WildPat, VarPat, LiteralPat, MinusPat, PathPat, CallPatOfNone, CallPat, UnitPat, PatInParentheses, PairPat, TriplePat, LastPat, MorePats, pat_tokens, pat1_tokens, pat3_tokens, spat_tokens, pat_list_tokens, join_patterns, joined_pattern, typed_pat, call_pat, pat3_chain, pat_tree, alternative_trees, pat1_tree, spat_tree, pat_list_trees, IsPattern}
use Rattle.source_grammar.specs.Precedence.{Operand, Operation, Chain, precedence, is_right, after_left, joined_right, joined_at, joined_from, joined}
use Rattle.source_grammar.specs.Spans.{from_to, span_of, end_behind, labelled}
use Rattle.source_grammar.specs.Types.{SimpleType, simple_tokens, simple_tree, ident_tree, last_id, path_span, prefix_kids}
use Rattle.source_grammar.proofs.NotEmpty.{pat-full, spat-full}
use Rattle.parse_parts.proofs.GroupsSit.{SitsWhere, parenthesized-sits, pair-sits, triple-sits}
use Rattle.parse_parts.proofs.PathsSit.{Ends, ident-sits, before-sits}
use Rattle.parse_parts.proofs.Sitting.{SitsBetween, wider, SitBetween, all-wider, sit-append, sit-one, node-sits}
use Rattle.parse_parts.proofs.TokensStand.{StandBetween, InSpan, front-stands, back-stands, in-span}
use Rattle.parse_parts.proofs.TypesSit.{simple-sits}

-- ---- operands that are joined

-- each operand stands at its span, behind the one before it
abbrev OperandsSit : ℕ → Operand Tree → List (Operation Tree) → ℕ → Type 0
OperandsSit low a [] high = (low ≤ a.span.start) × SitsBetween a.span.start a.built a.span.end × (a.span.end ≤ high)
OperandsSit low a (next ∷ rest) high = (low ≤ a.span.start) × SitsBetween a.span.start a.built a.span.end × OperandsSit a.span.end next.operand rest high

abbrev ChainSits : ℕ → Chain Tree → ℕ → Type 0
ChainSits low chain high = OperandsSit low chain.first chain.operations high

operands-wider : (low low' high : ℕ) (a : Operand Tree) (ops : List (Operation Tree)) → low' ≤ low → OperandsSit low a ops high → OperandsSit low' a ops high
operands-wider low low' high a [] before s = (omega (arith, before, s.0), s.1, s.2)
operands-wider low low' high a (next ∷ rest) before s = (omega (arith, before, s.0), s.1, s.2)

operands-order : (low high : ℕ) (a : Operand Tree) (ops : List (Operation Tree)) → OperandsSit low a ops high → a.span.end ≤ high
operands-order low high a [] s = s.2
operands-order low high a (next ∷ rest) s =
    let more = operands-order a.span.end high next.operand rest s.2 in
    let here = first-order a.span.end high next.operand rest s.2 in
    omega (arith, more, here)
  where
    first-order : (from high : ℕ) (b : Operand Tree) (ops : List (Operation Tree)) → OperandsSit from b ops high → from ≤ b.span.end
    first-order from high b [] t = omega (arith, t.0, t.1.begins, t.1.order, t.1.ends)
    first-order from high b (op ∷ ops) t = omega (arith, t.0, t.1.begins, t.1.order, t.1.ends)

first-sits : (low high : ℕ) (a : Operand Tree) (ops : List (Operation Tree)) → OperandsSit low a ops high → SitsBetween low a.built high
first-sits low high a [] s = wider a.span.start low a.span.end high a.built s.0 s.2 s.1
first-sits low high a (next ∷ rest) s = wider a.span.start low a.span.end high a.built s.0 (operands-order low high a (next ∷ rest) s) s.1

join-sits : (id : Id) (a b : Operand Tree) → SitsBetween a.span.start a.built a.span.end → a.span.end ≤ b.span.start → SitsBetween b.span.start b.built b.span.end
    → SitsBetween a.span.start (join_patterns id a b).built b.span.end
join-sits id a b s behind t =
    node-sits kind.CtorPat id.name id.place.span (from_to a.span b.span) (a.built ∷ b.built ∷ [])
    (sit-append a.span.start a.span.end b.span.end (a.built ∷ []) (b.built ∷ []) (sit-one a.span.start a.span.end a.built s)
    (sit-one a.span.end b.span.end b.built (wider b.span.start a.span.end b.span.end b.span.end b.built behind (omega arith) t)))

join-first : (low high : ℕ) (id : Id) (a b : Operand Tree) (ops : List (Operation Tree)) → low ≤ a.span.start → SitsBetween a.span.start a.built a.span.end
    → OperandsSit a.span.end b ops high → OperandsSit low (join_patterns id a b) ops high
join-first low high id a b [] before s t = (before, join-sits id a b s t.0 t.1, t.2)
join-first low high id a b (next ∷ rest) before s t = (before, join-sits id a b s t.0 t.1, t.2)

level-sits : (n low high : ℕ) (a : Operand Tree) (ops : List (Operation Tree)) → OperandsSit low a ops high → ChainSits low (joined_at join_patterns n a ops) high
level-sits n low high a [] s = s
level-sits n low high a (next ∷ rest) s =
    go (not (precedence next.operator.name == n)) (is_right next.operator.name) (level-sits n a.span.end high next.operand rest s.2)
    (level-sits n low high (join_patterns next.operator a next.operand) rest (join-first low high next.operator a next.operand rest s.0 s.1 s.2))
  where
    id : Id
    id = next.operator

    later : Chain Tree
    later = joined_at join_patterns n next.operand rest

    go : (c d : Bool) → ChainSits a.span.end later high → ChainSits low (joined_at join_patterns n (join_patterns id a next.operand) rest) high
        → ChainSits low (if c then after_left a id later else (if d then joined_right join_patterns a id later else joined_at join_patterns n (join_patterns id a next.operand) rest)) high
    go true d x y = (s.0, s.1, x)
    go false true x y = join-first low high id a later.first later.operations s.0 s.1 x
    go false false x y = y

from-sits : (n low high : ℕ) (c : Chain Tree) → ChainSits low c high → ChainSits low (joined_from join_patterns n c) high
from-sits zero low high c s = level-sits 0 low high c.first c.operations s
from-sits (suc n) low high c s = from-sits n low high (joined_at join_patterns (suc n) c.first c.operations) (level-sits (suc n) low high c.first c.operations s)

joined-sits : (low high : ℕ) (c : Chain Tree) → ChainSits low c high → SitsBetween low (joined_pattern c) high
unfolding joined
joined-sits low high c s =
    let last : Chain Tree = joined_from join_patterns 10 c in first-sits low high last.first last.operations (from-sits 10 low high c s)

-- ---- patterns

leaf-sits : (k : TreeKind) (label : Bytes) (label_span span : Span) (low high : ℕ) → low ≤ span.start → span.start ≤ span.end → span.end ≤ high
    → SitsBetween low (labelled k label label_span span []) high
leaf-sits k label label_span span low high before order behind =
    wider span.start low span.end high (labelled k label label_span span []) before behind (node-sits k label label_span span [] order)

-- the path before the last name of a path
path-ends : (path : QualId) (low high : ℕ) → StandBetween low (qual_id_tokens path) high → Ends path.first.place.span.start (ident_tree path.first) path.first path.steps high
path-ends path low high s = before-sits path.first.place.span.start high (ident_tree path.first) path.first path.steps (ident-sits path.first s.1) s.1 s.2

-- behind a path and a parenthesis
call-sits : (path : QualId) (opening closing : Place) (xs : List Lexeme) (pats : List Tree) (low high : ℕ)
    → StandBetween low (qual_id_tokens path ++ open_round opening ∷ (xs ++ close_round closing ∷ [])) high
    → ((from to : ℕ) → StandBetween from xs to → SitBetween from pats to) → SitsBetween low (call_pat path pats closing.span) high
call-sits path opening closing xs pats low high s sits =
    let behind : List Lexeme = xs ++ close_round closing ∷ [] in
    let mid : ℕ = end_behind low (qual_id_tokens path) in
    let front = front-stands low high (qual_id_tokens path) (open_round opening ∷ behind) s in
    let back = back-stands low high (qual_id_tokens path) (open_round opening ∷ behind) s in
    let ends = path-ends path low mid front in
    let mid_p : ℕ = end_behind opening.span.end xs in
    let front_p = front-stands opening.span.end high xs (close_round closing ∷ []) back.2 in
    let back_p = back-stands opening.span.end high xs (close_round closing ∷ []) back.2 in
    wider path.first.place.span.start low closing.span.end high (call_pat path pats closing.span) front.0 back_p.2
    (node-sits kind.CtorPat (last_id path).name (last_id path).place.span (from_to path.first.place.span closing.span) (prefix_kids path ++ pats)
    (sit-append path.first.place.span.start mid closing.span.end (prefix_kids path) pats
    (all-wider path.first.place.span.start path.first.place.span.start (last_id path).place.span.end mid (prefix_kids path) (omega arith) ends.within ends.kids)
    (all-wider opening.span.end mid mid_p closing.span.end pats (omega (arith, back.0, back.1)) (omega (arith, back_p.0, back_p.1)) (sits opening.span.end mid_p front_p))))

typed-sits : (name : Bytes) (first : Lexeme) (point : Place) (type : SimpleType) (low high : ℕ) → StandBetween low (first ∷ colon point ∷ simple_tokens type) high
    → SitsBetween low (typed_pat name first.place.span (first ∷ colon point ∷ simple_tokens type) (simple_tree type)) high
typed-sits name first point type low high s =
    let tokens : List Lexeme = first ∷ colon point ∷ simple_tokens type in
    let here = in-span low high tokens (λ e. cc) s in
    let t = here.stands in
    wider first.place.span.start low (span_of tokens).end high (typed_pat name first.place.span tokens (simple_tree type)) here.begins here.ends
    (node-sits kind.TypedPat name first.place.span (span_of tokens) (simple_tree type ∷ [])
    (sit-one first.place.span.start (span_of tokens).end (simple_tree type)
    (wider point.span.end first.place.span.start (span_of tokens).end (span_of tokens).end (simple_tree type) (omega (arith, t.1, t.2.0, t.2.1)) (omega arith)
    (simple-sits type point.span.end (span_of tokens).end t.2.2))))

mutual
  pub pat-sits : (d : Pat) (low high : ℕ) → StandBetween low (pat_tokens d) high → SitsBetween low (pat_tree d) high
  pat-sits (LastAlternative d) low high s = pat1-sits d low high s
  pat-sits (MoreAlternatives d p pats) low high s =
      let tokens : List Lexeme = pat1_tokens d ++ bar p ∷ pat_tokens pats in
      let here = in-span low high tokens (pat-full (MoreAlternatives d p pats)) s in
      let start : ℕ = (span_of tokens).start in
      let end : ℕ = (span_of tokens).end in
      let mid : ℕ = end_behind start (pat1_tokens d) in
      let front = front-stands start end (pat1_tokens d) (bar p ∷ pat_tokens pats) here.stands in
      let back = back-stands start end (pat1_tokens d) (bar p ∷ pat_tokens pats) here.stands in
      wider start low end high (pat_tree (MoreAlternatives d p pats)) here.begins here.ends
      (node-sits kind.AltPat [] (span_of tokens) (span_of tokens) (pat1_tree d ∷ alternative_trees pats)
      (sit-append start mid end (pat1_tree d ∷ []) (alternative_trees pats) (sit-one start mid (pat1_tree d) (pat1-sits d start mid front))
      (all-wider p.span.end mid end end (alternative_trees pats) (omega (arith, back.0, back.1)) (omega arith) (alternatives-sit pats p.span.end end back.2))))

  alternatives-sit : (d : Pat) (low high : ℕ) → StandBetween low (pat_tokens d) high → SitBetween low (alternative_trees d) high
  alternatives-sit (LastAlternative d) low high s = sit-one low high (pat1_tree d) (pat1-sits d low high s)
  alternatives-sit (MoreAlternatives d p pats) low high s =
      let mid : ℕ = end_behind low (pat1_tokens d) in
      let front = front-stands low high (pat1_tokens d) (bar p ∷ pat_tokens pats) s in
      let back = back-stands low high (pat1_tokens d) (bar p ∷ pat_tokens pats) s in
      sit-append low mid high (pat1_tree d ∷ []) (alternative_trees pats) (sit-one low mid (pat1_tree d) (pat1-sits d low mid front))
      (all-wider p.span.end mid high high (alternative_trees pats) (omega (arith, back.0, back.1)) (omega arith) (alternatives-sit pats p.span.end high back.2))

  pat1-sits : (d : Pat1) (low high : ℕ) → StandBetween low (pat1_tokens d) high → SitsBetween low (pat1_tree d) high
  pat1-sits (TypedVar id point type) low high s = typed-sits id.name (id_token id) point type low high s
  pat1-sits (TypedWild place point type) low high s = typed-sits (codes "_") (underscore place) point type low high s
  pat1-sits (BoundPat id sign pat) low high s =
      let tokens : List Lexeme = id_token id ∷ at_sign sign ∷ pat3_tokens pat in
      let here = in-span low high tokens (λ e. cc) s in
      let end : ℕ = (span_of tokens).end in
      let t = here.stands in
      wider id.place.span.start low end high (pat1_tree (BoundPat id sign pat)) here.begins here.ends
      (node-sits kind.Bind id.name id.place.span (span_of tokens) (joined_pattern (pat3_chain pat) ∷ [])
      (sit-one id.place.span.start end (joined_pattern (pat3_chain pat))
      (wider sign.span.end id.place.span.start end end (joined_pattern (pat3_chain pat)) (omega (arith, t.1, t.2.0, t.2.1)) (omega arith)
      (joined-sits sign.span.end end (pat3_chain pat) (chain-sits pat sign.span.end end t.2.2)))))
  pat1-sits (InfixPat pat) low high s = joined-sits low high (pat3_chain pat) (chain-sits pat low high s)

  chain-sits : (d : Pat3) (low high : ℕ) → StandBetween low (pat3_tokens d) high → ChainSits low (pat3_chain d) high
  chain-sits (LastOperand x) low high s =
      let here = in-span low high (spat_tokens x) (spat-full x) s in
      (here.begins, spat-sits x (span_of (spat_tokens x)).start (span_of (spat_tokens x)).end here.stands, here.ends)
  chain-sits (MoreOperands x id pat) low high s =
      let mid : ℕ = end_behind low (spat_tokens x) in
      let front = front-stands low high (spat_tokens x) (id_token id ∷ pat3_tokens pat) s in
      let back = back-stands low high (spat_tokens x) (id_token id ∷ pat3_tokens pat) s in
      let here = in-span low mid (spat_tokens x) (spat-full x) front in
      let span : Span = span_of (spat_tokens x) in
      let chain : Chain Tree = pat3_chain pat in (
        here.begins,
        spat-sits x span.start span.end here.stands,
        operands-wider id.place.span.end span.end high chain.first chain.operations (omega (arith, here.ends, back.0, back.1)) (chain-sits pat id.place.span.end high back.2),
      )

  spat-sits : (d : SPat) (low high : ℕ) → StandBetween low (spat_tokens d) high → SitsBetween low (spat_tree d) high
  spat-sits (WildPat place) low high s = leaf-sits kind.Wild [] place.span place.span low high s.0 s.1 s.2
  spat-sits (VarPat id) low high s = leaf-sits kind.Bind id.name id.place.span id.place.span low high s.0 s.1 s.2
  spat-sits (LiteralPat l) low high s = leaf-sits kind.LitPat (literal_text l) (literal_place l).span (literal_place l).span low high s.0 s.1 s.2
  spat-sits (MinusPat sign n) low high s =
      leaf-sits kind.LitPat (codes "-" ++ n.text) (from_to sign.span n.place.span) (from_to sign.span n.place.span) low high s.0
      (omega (arith, s.1, s.2.0, s.2.1)) s.2.2
  spat-sits (PathPat path) low high s =
      let ends = path-ends path low high s in
      wider path.first.place.span.start low (last_id path).place.span.end high (spat_tree (PathPat path)) s.0 ends.within
      (node-sits kind.StablePat (last_id path).name (last_id path).place.span (path_span path) (prefix_kids path) ends.kids)
  spat-sits (CallPatOfNone path opening closing) low high s = call-sits path opening closing [] [] low high s (λ from to t. t)
  spat-sits (CallPat path opening pats closing) low high s =
      call-sits path opening closing (pat_list_tokens pats) (pat_list_trees pats) low high s (λ from to t. list-sits pats from to t)
  spat-sits (UnitPat opening closing) low high s =
      leaf-sits kind.LitPat (codes "()") (from_to opening.span closing.span) (from_to opening.span closing.span) low high s.0
      (omega (arith, s.1, s.2.0, s.2.1)) s.2.2
  spat-sits (PatInParentheses opening pat closing) low high s =
      parenthesized-sits opening closing (pat_tokens pat) (pat_tree pat) (λ l h t. pat-sits pat l h t) low high s
  spat-sits (PairPat opening a p b closing) low high s =
      pair-sits kind.TuplePat opening p closing (pat_tokens a) (pat_tokens b) (pat_tree a) (pat_tree b) (λ l h t. pat-sits a l h t) (λ l h t. pat-sits b l h t) low high s
  spat-sits (TriplePat opening a p b q c closing) low high s =
      triple-sits kind.TuplePat opening p q closing (pat_tokens a) (pat_tokens b) (pat_tokens c) (pat_tree a) (pat_tree b) (pat_tree c)
      (λ l h t. pat-sits a l h t) (λ l h t. pat-sits b l h t) (λ l h t. pat-sits c l h t) low high s

  list-sits : (d : PatList) (low high : ℕ) → StandBetween low (pat_list_tokens d) high → SitBetween low (pat_list_trees d) high
  list-sits (LastPat pat) low high s = sit-one low high (pat_tree pat) (pat-sits pat low high s)
  list-sits (MorePats pat p pats) low high s =
      let mid : ℕ = end_behind low (pat_tokens pat) in
      let front = front-stands low high (pat_tokens pat) (comma p ∷ pat_list_tokens pats) s in
      let back = back-stands low high (pat_tokens pat) (comma p ∷ pat_list_tokens pats) s in
      sit-append low mid high (pat_tree pat ∷ []) (pat_list_trees pats) (sit-one low mid (pat_tree pat) (pat-sits pat low mid front))
      (all-wider p.span.end mid high high (pat_list_trees pats) (omega (arith, back.0, back.1)) (omega arith) (list-sits pats p.span.end high back.2))

pub pattern-here : (xs : List Lexeme) (tree : Tree) → IsPattern xs tree → SitsWhere xs tree
pattern-here xs tree is low high s =
    subst (λ t. SitsBetween low t high) (sym is.built) (pat-sits is.derivation low high (subst (λ ts. StandBetween low ts high) is.tokens s))
