-- The trees of a type stand where its tokens do.
use Rattle.std.proofs.Common.{◌≢◌, ℕ, ◌≤◌, List, [], ◌∷◌, ◌++◌, sym, subst, arith, codes}
use Rattle.pc_terms.specs.declared.tree_kinds.TreeKind.TheVariants as kind
use Rattle.positioned_trees.specs.declared.trees.Tree.{Tree}
use Rattle.positioned_trees.specs.declared.trees.Tree.TheViews.{out-Tree}
use Rattle.source_grammar.specs.Lexemes.{Lexeme, word_at, open_round, close_round, open_square, close_square, comma, dot, arrow_token, qual_id_tokens}
use Rattle.source_grammar.specs.Spans.{from_to, span_of, end_behind}
use Rattle.source_grammar.specs.Types.{WrittenType, FunOfNamed, FunOfNone, FunOfTypes, Simple, SimpleType, Named, InParentheses, Pair, Triple, NamedType, OfPath, Applied, Singleton, TypeList, LastType, MoreTypes, type_tokens, simple_tokens, named_tokens, type_list_tokens, type_tree, simple_tree, named_tree, type_list_trees, fun_type, path_tree, last_id, path_type_tree, applied_tree, IsType}
use Rattle.source_grammar.proofs.NotEmpty.{type-full}
use Rattle.parse_parts.proofs.GroupsSit.{SitsWhere, parenthesized-sits, pair-sits, triple-sits}
use Rattle.parse_parts.proofs.PathsSit.{path-type-sits, path-term-sits}
use Rattle.parse_parts.proofs.Sitting.{SitsBetween, wider, own, SitBetween, all-wider, sit-append, sit-one, node-sits}
use Rattle.parse_parts.proofs.TokensStand.{StandBetween, InSpan, front-stands, back-stands, in-span}

fun-sits : (low high mid result_low : ℕ) (tokens : List Lexeme) (types : List Tree) (result : Tree) → tokens ≢ [] → InSpan low tokens high
    → SitBetween (span_of tokens).start types mid → mid ≤ result_low → SitsBetween result_low result (span_of tokens).end
    → SitsBetween low (fun_type tokens types result) high
fun-sits low high mid result_low tokens types result full in_span s behind r =
    wider (span_of tokens).start low (span_of tokens).end high (fun_type tokens types result) in_span.begins in_span.ends
    (node-sits kind.FunType [] (span_of tokens) (span_of tokens) (types ++ result ∷ [])
    (sit-append (span_of tokens).start mid (span_of tokens).end types (result ∷ []) s
    (sit-one mid (span_of tokens).end result (wider result_low mid (span_of tokens).end (span_of tokens).end result behind (omega arith) r))))

mutual
  pub type-sits : (d : WrittenType) (low high : ℕ) → StandBetween low (type_tokens d) high → SitsBetween low (type_tree d) high
  type-sits (FunOfNamed named arrow result) low high s =
      let tokens : List Lexeme = named_tokens named ++ arrow_token arrow ∷ type_tokens result in
      let here = in-span low high tokens (type-full (FunOfNamed named arrow result)) s in
      let start : ℕ = (span_of tokens).start in
      let mid : ℕ = end_behind start (named_tokens named) in
      let front = front-stands start (span_of tokens).end (named_tokens named) (arrow_token arrow ∷ type_tokens result) here.stands in
      let back = back-stands start (span_of tokens).end (named_tokens named) (arrow_token arrow ∷ type_tokens result) here.stands in
      fun-sits low high mid arrow.place.span.end tokens (named_tree named ∷ []) (type_tree result) (type-full (FunOfNamed named arrow result)) here
      (sit-one start mid (named_tree named) (named-sits named start mid front))
      (omega (arith, back.0, back.1)) (type-sits result arrow.place.span.end (span_of tokens).end back.2)
  type-sits (FunOfNone opening closing arrow result) low high s =
      let tokens : List Lexeme = open_round opening ∷ close_round closing ∷ arrow_token arrow ∷ type_tokens result in
      let here = in-span low high tokens (type-full (FunOfNone opening closing arrow result)) s in
      let t = here.stands in
      fun-sits low high opening.span.start arrow.place.span.end tokens [] (type_tree result) (type-full (FunOfNone opening closing arrow result)) here
      (omega arith) (omega (arith, t.1, t.2.0, t.2.1, t.2.2.0, t.2.2.1)) (type-sits result arrow.place.span.end (span_of tokens).end t.2.2.2)
  type-sits (FunOfTypes opening types closing arrow result) low high s =
      let tokens : List Lexeme = open_round opening ∷ (type_list_tokens types ++ close_round closing ∷ arrow_token arrow ∷ type_tokens result) in
      let here = in-span low high tokens (type-full (FunOfTypes opening types closing arrow result)) s in
      let t = here.stands in
      let mid : ℕ = end_behind opening.span.end (type_list_tokens types) in
      let front = front-stands opening.span.end (span_of tokens).end (type_list_tokens types) (close_round closing ∷ arrow_token arrow ∷ type_tokens result) t.2 in
      let back = back-stands opening.span.end (span_of tokens).end (type_list_tokens types) (close_round closing ∷ arrow_token arrow ∷ type_tokens result) t.2 in
      fun-sits low high mid arrow.place.span.end tokens (type_list_trees types) (type_tree result) (type-full (FunOfTypes opening types closing arrow result)) here
      (all-wider opening.span.end opening.span.start mid mid (type_list_trees types) t.1 (omega arith) (list-sits types opening.span.end mid front))
      (omega (arith, back.0, back.1, back.2.0, back.2.1)) (type-sits result arrow.place.span.end (span_of tokens).end back.2.2)
  type-sits (Simple simple) low high s = simple-sits simple low high s

  pub simple-sits : (d : SimpleType) (low high : ℕ) → StandBetween low (simple_tokens d) high → SitsBetween low (simple_tree d) high
  simple-sits (Named named) low high s = named-sits named low high s
  simple-sits (InParentheses opening type closing) low high s =
      parenthesized-sits opening closing (type_tokens type) (type_tree type) (λ l h t. type-sits type l h t) low high s
  simple-sits (Pair opening a p b closing) low high s =
      pair-sits kind.TupleType opening p closing (type_tokens a) (type_tokens b) (type_tree a) (type_tree b)
      (λ l h t. type-sits a l h t) (λ l h t. type-sits b l h t) low high s
  simple-sits (Triple opening a p b q c closing) low high s =
      triple-sits kind.TupleType opening p q closing (type_tokens a) (type_tokens b) (type_tokens c) (type_tree a) (type_tree b) (type_tree c)
      (λ l h t. type-sits a l h t) (λ l h t. type-sits b l h t) (λ l h t. type-sits c l h t) low high s

  named-sits : (d : NamedType) (low high : ℕ) → StandBetween low (named_tokens d) high → SitsBetween low (named_tree d) high
  named-sits (OfPath path) low high s = path-type-sits path low high s
  named-sits (Applied path opening types closing) low high s =
      let ts : List Lexeme = type_list_tokens types ++ close_square closing ∷ [] in
      let mid : ℕ = end_behind low (qual_id_tokens path) in
      let front = front-stands low high (qual_id_tokens path) (open_square opening ∷ ts) s in
      let back = back-stands low high (qual_id_tokens path) (open_square opening ∷ ts) s in
      let mid_t : ℕ = end_behind opening.span.end (type_list_tokens types) in
      let front_t = front-stands opening.span.end high (type_list_tokens types) (close_square closing ∷ []) back.2 in
      let back_t = back-stands opening.span.end high (type_list_tokens types) (close_square closing ∷ []) back.2 in
      let type : Tree = path_type_tree path in
      let sits : SitsBetween low type mid = path-type-sits path low mid front in
      let args : SitBetween opening.span.end (type_list_trees types) mid_t = list-sits types opening.span.end mid_t front_t in
      wider (out-Tree type).span.start low closing.span.end high (applied_tree type (type_list_trees types) closing.span) sits.begins back_t.2
      (node-sits kind.AppliedType (out-Tree type).label (out-Tree type).label_span (from_to (out-Tree type).span closing.span) (type ∷ type_list_trees types)
      (sit-append (out-Tree type).span.start mid closing.span.end (type ∷ []) (type_list_trees types)
      (sit-one (out-Tree type).span.start mid type (wider (out-Tree type).span.start (out-Tree type).span.start (out-Tree type).span.end mid type (omega arith) sits.ends (own low mid type sits)))
      (all-wider opening.span.end mid mid_t closing.span.end (type_list_trees types) (omega (arith, back.0, back.1)) (omega (arith, back_t.0, back_t.1)) args)))
  named-sits (Singleton path point word) low high s =
      let mid : ℕ = end_behind low (qual_id_tokens path) in
      let front = front-stands low high (qual_id_tokens path) (dot point ∷ word_at (codes "type") word ∷ []) s in
      let back = back-stands low high (qual_id_tokens path) (dot point ∷ word_at (codes "type") word ∷ []) s in
      wider path.first.place.span.start low word.span.end high (named_tree (Singleton path point word)) s.0 back.2.2
      (node-sits kind.Singleton (last_id path).name (last_id path).place.span (from_to path.first.place.span word.span) (path_tree path ∷ [])
      (sit-one path.first.place.span.start word.span.end (path_tree path)
      (wider path.first.place.span.start path.first.place.span.start mid word.span.end (path_tree path) (omega arith)
      (omega (arith, back.0, back.1, back.2.0, back.2.1)) (path-term-sits path low mid front))))

  list-sits : (d : TypeList) (low high : ℕ) → StandBetween low (type_list_tokens d) high → SitBetween low (type_list_trees d) high
  list-sits (LastType type) low high s = sit-one low high (type_tree type) (type-sits type low high s)
  list-sits (MoreTypes type p types) low high s =
      let mid : ℕ = end_behind low (type_tokens type) in
      let front = front-stands low high (type_tokens type) (comma p ∷ type_list_tokens types) s in
      let back = back-stands low high (type_tokens type) (comma p ∷ type_list_tokens types) s in
      sit-append low mid high (type_tree type ∷ []) (type_list_trees types) (sit-one low mid (type_tree type) (type-sits type low mid front))
      (all-wider p.span.end mid high high (type_list_trees types) (omega (arith, back.0, back.1)) (omega arith) (list-sits types p.span.end high back.2))

pub type-here : (xs : List Lexeme) (tree : Tree) → IsType xs tree → SitsWhere xs tree
type-here xs tree is low high s =
    subst (λ t. SitsBetween low t high) (sym is.built) (type-sits is.derivation low high (subst (λ ts. StandBetween low ts high) is.tokens s))
