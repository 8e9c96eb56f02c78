-- A list of the grammar is divided as the items are.
use Rattle.std.proofs.Common.{◌≡◌, ◌≤◌, ℕ, Bool, true, false, ◌||◌, not, if◌then◌else◌, List, [], ◌∷◌, ◌++◌, map, length, drop, Option, Some, None, refl, ap, sym, ◌∙◌, subst, arith, append-nil, append_assoc, length-append}
use Rattle.std.proofs.Math.Seq.{drop-append_seam}
use Rattle.std.proofs.lemmas.List.{map-append}
use Rattle.pc_terms.specs.declared.problems.Span.{Span}
use Rattle.pc_terms.specs.declared.tree_kinds.TreeKind.TheVariants as tree_kind
use Rattle.positioned_trees.specs.Trees.{max_number}
use Rattle.reading_machines.specs.Machines.{run, onward}
use Rattle.reading_machines.specs.Parts.{IsLongest}
use Rattle.scan_tokens.specs.declared.tokens.TokenKind.TheVariants as kind
use Rattle.source_grammar.specs.Brackets.{has_newline, is_piece}
use Rattle.source_grammar.specs.Expressions.{WithinExpr, Sep, BStats}
use Rattle.source_grammar.specs.ExpressionRules.{ProperBStat, ProperBStats, is_broken, is_nonempty, is_separated}
use Rattle.source_grammar.specs.ExpressionTokens.{sep_tokens, bstat_tokens, bstats_tokens}
use Rattle.source_grammar.specs.ExpressionTrees.{bstat_built, bstats_built, bstats_spans, broken_tree, nonempty_span}
use Rattle.source_grammar.specs.Placeholders.{Built, plain, trees_of, free_of}
use Rattle.source_grammar.specs.Spans.{span_of}
use Rattle.parse_parts.specs.Built.{no_kids}
use Rattle.tree_lower.specs.Lowering.{unlabelled}
use Rattle.tree_lower.proofs.KeptTrees.{unlabelled-kept}
use Rattle.source_grammar.specs.Lexemes.{Place, Lexeme, semicolon}
use Rattle.source_grammar.specs.Newlines.{newline_before}
use Rattle.source_grammar.specs.Statements.{longest}
use Rattle.parse_patterns.proofs.Sides.{and-true}
use Rattle.positioned_trees.specs.declared.details.Selector.{Selector}
use Rattle.expr_tails.specs.declared.states.Limit.TheVariants as limit
use Rattle.expr_tails.specs.declared.symbols.Symbol.{Symbol}
use Rattle.expr_tails.specs.declared.symbols.Symbol.TheVariants as symbol
use Rattle.expr_tails.specs.Symbols.{symbol_of}
use Rattle.expr_steps.specs.Reading.{Item as Picture, begun as expr_begun}
use Rattle.expr_steps.specs.Steps.{step as expr_step, on_token}
use Rattle.parse_exprs.specs.declared.statements.Statement.TheVariants as statement
use Rattle.parse_exprs.specs.Items.{is_semicolon, separates, symbol_at}
use Rattle.parse_exprs.specs.Lists.{of_items, items_span, span_over, whole_span, divided, pieces, built_from}
use Rattle.parse_exprs.specs.Statements.{block_list, built_until, by, first_token, statements, stepped}
use Rattle.expr_laws.specs.Exactly.{picture, lined}
use Rattle.expr_laws.specs.Items.{Item, OneToken, BlockPair, CasesPair, EnumsPair, OtherPair, item_tokens, items_tokens, tokens}
use Rattle.expr_laws.specs.Newlines.{newlines_end, NewlinesEnd, ended_by}
use Rattle.expr_laws.specs.Pictures.{built_shown, item_shown}
use Rattle.expr_laws.proofs.DefsCounts.{tokens-there}
use Rattle.expr_laws.proofs.ItemTokens.{items-append}
use Rattle.expr_laws.proofs.Lasting.{and-left, and-right}
use Rattle.expr_laws.proofs.NewlinesApart.{front-ends, behind-ends, any-ends}
use Rattle.statement_laws.specs.Statements.{ReadStatement, OfImport, OfDefinition, OfExpr, statement_of, AreItemsOf, AreOfStatement, ReadStatementItem, behind, dots_told, is_dot, statement_items, statement_pictures, statements_in_lines}
use Rattle.statement_laws.proofs.StatementTokens.{statement-tokens}
use Rattle.list_laws.specs.Divided.{Part, at_semicolon, may_follow}
use Rattle.list_laws.specs.Lists.{ReadStat, Whole, Empty, NoStatement, ReadStats, LastStat, MoreStats, bstat_of, bstats_of, AreItemsOfStat, AreItemsOfStats, stat_parts, written_parts, picture_of, DividedList, AreOfList, list_shown, parts_of, items_of_part, piece_of}
use Rattle.list_laws.proofs.Blocks.{Laws, some, any-dots, one-list, pieces-list}
use Rattle.list_laws.proofs.Building.{all-built, built_of, cuts-spans, items-span, list_of, over-shown, span-there}
use Rattle.list_laws.proofs.Joining.{part, take-front, DividedAs, begins_semicolon, moved, no-more, semicolon-in-front, statement-in-front, broken-in-front}
use Rattle.list_laws.proofs.Longer.{none-begins, statement-longest, toks-apart}
use Rattle.list_laws.proofs.Pieces.{piece-begins, piece-length}

-- ---- tokens

stat-tokens : (s : ReadStat) (items : List Item) → AreItemsOfStat s items → items_tokens items ≡ bstat_tokens (bstat_of s)
stat-tokens (Whole d) items a = statement-tokens d items a
stat-tokens Empty items a = ap items_tokens a
stat-tokens (NoStatement front) items a = ap items_tokens a

behind-tokens : (sep : Sep) (items : List Item) (xs : List Lexeme) → items_tokens items ≡ xs → items_tokens (tokens (sep_tokens sep) ++ items) ≡ sep_tokens sep ++ xs
behind-tokens sep items xs e =
    items-append (tokens (sep_tokens sep)) items ∙ ap (λ ys. ys ++ items_tokens items) (tokens-there (sep_tokens sep)) ∙ ap (λ ys. sep_tokens sep ++ ys) e

stats-tokens : (stats : ReadStats) (items : List Item) → AreItemsOfStats stats items → items_tokens items ≡ bstats_tokens (bstats_of stats)
stats-tokens (LastStat s) items a = stat-tokens s items a
stats-tokens (MoreStats s sep stats) items a =
    ap items_tokens a.2 ∙ items-append a.0 (tokens (sep_tokens sep) ++ a.1) ∙ ap (λ ys. ys ++ items_tokens (tokens (sep_tokens sep) ++ a.1)) (stat-tokens s a.0 a.3)
    ∙ ap (λ ys. bstat_tokens (bstat_of s) ++ ys) (behind-tokens sep a.1 (bstats_tokens (bstats_of stats)) (stats-tokens stats a.1 a.4))
    ∙ sym (append_assoc (bstat_tokens (bstat_of s)) (sep_tokens sep) (bstats_tokens (bstats_of stats)))

not-broken : (d : ReadStatement) → is_broken (statement_of d) ≡ false
not-broken (OfImport i) = refl
not-broken (OfDefinition mods def) = refl
not-broken (OfExpr e) = refl

again : {A B C : Type 0} (f : B → C) (g : A → B) (xs : List A) → map f (map g xs) ≡ map (λ x. f (g x)) xs
again f g [] = refl
again f g (x ∷ xs) = ap (λ l. f (g x) ∷ l) (again f g xs)

-- ---- separators

or-first : (a b : Bool) → a ≡ true → (a || b) ≡ true
or-first a b e = ap (λ c. c || b) e

or-second : (a b : Bool) → b ≡ true → (a || b) ≡ true
or-second true b e = refl
or-second false b e = e

newline-separates : (selectors : Option (List Selector)) (i : Item) (ys : List Lexeme) → has_newline (newline_before (item_tokens i ++ ys)) ≡ true → separates (item_shown selectors i) ≡ true
newline-separates selectors (OneToken x) ys e = or-first (has_newline x.place.before) _ e
newline-separates selectors (BlockPair o block k) ys e = or-first (has_newline o.before) _ e
newline-separates selectors (CasesPair o cases k) ys e = or-first (has_newline o.before) _ e
newline-separates selectors (EnumsPair o enums k) ys e = or-first (has_newline o.before) _ e
newline-separates selectors (OtherPair o xs k) ys e = or-first (has_newline o.before) _ e

semicolon-shown : (selectors : Option (List Selector)) (i : Item) (p : Place) → i ≡ OneToken (semicolon p) → is_semicolon (symbol_at (item_shown selectors i)) ≡ true
unfolding symbol_of
semicolon-shown selectors i p e = ap (λ j. is_semicolon (symbol_at (item_shown selectors j))) e

semicolon-separates : (selectors : Option (List Selector)) (i : Item) (p : Place) → i ≡ OneToken (semicolon p) → separates (item_shown selectors i) ≡ true
unfolding symbol_of
semicolon-separates selectors i p e = ap (λ j. separates (item_shown selectors j)) e ∙ or-second (has_newline p.before) true refl

-- ---- no statement begins with `;`

is-semicolon : (s : Symbol) → is_semicolon s ≡ true → s ≡ symbol.Semicolon
is-semicolon symbol.Semicolon e = refl
is-semicolon _ e = cc

first-step : (x : Lexeme) → expr_step (expr_begun limit.Expr) x ≡ on_token (symbol_of x.kind x.word) [] (expr_begun limit.Expr).context x
unfolding expr_step
first-step x = refl

no-step : (x : Lexeme) → on_token symbol.Semicolon [] (expr_begun limit.Expr).context x ≡ None
unfolding on_token
no-step x = refl

refused-token : (x : Lexeme) → symbol_of x.kind x.word ≡ symbol.Semicolon → stepped statement.Begin (picture (record { selectors = None; item = OneToken x })) ≡ None
refused-token x e =
    ap (λ s. first_token s x) e
    ∙ ap (by statement.Expr) (first-step x ∙ ap (λ s. on_token s [] (expr_begun limit.Expr).context x) e ∙ no-step x)

refused : (selectors : Option (List Selector)) (i : Item) → is_semicolon (symbol_at (item_shown selectors i)) ≡ true → stepped statement.Begin (item_shown selectors i) ≡ None
refused selectors (OneToken x) e = refused-token x (is-semicolon (symbol_of x.kind x.word) e)
refused selectors (BlockPair o block k) e = cc
refused selectors (CasesPair o cases k) e = cc
refused selectors (EnumsPair o enums k) e = cc
refused selectors (OtherPair o xs k) e = cc

none-either : {S : Type 0} (o : Option S) (a b : Bool) → o ≡ None → (if a then (if b then o else None) else None) ≡ None
none-either o true true e = e
none-either o true false e = refl
none-either o false b e = refl

module _ (laws : Laws longest) where
  abbrev J : Type 0
  J = ReadStatementItem longest

  abbrev toks : List J → List Lexeme
  toks is = items_tokens (statement_items longest is)

  abbrev Is : List J → Type 0
  Is js = AreOfStatement longest js

  abbrev follows : List J → Bool
  follows js = may_follow of_items (picture_of longest) Is js

  abbrev As : List J → List (Part J) → Type 0
  As js ps = DividedAs of_items (picture_of longest) Is js ps

  no-semicolon : (j : J) (js : List J) → Is (j ∷ js) → at_semicolon of_items (picture_of longest) Is j ≡ false
  no-semicolon j js a = go (at_semicolon of_items (picture_of longest) Is j) refl where
    stays : stepped statement.Begin (picture j.item.given) ≡ None → (statements_in_lines longest).step (statements_in_lines longest).start j ≡ None
    stays e =
        ap (λ o. if newlines_end true (item_tokens j.item.given.item) then lined (ended_by true (item_tokens j.item.given.item)) (if not false || j.dotted then behind (is_dot j.item.given.item) o else None) else None) e
        ∙ none-either None (newlines_end true (item_tokens j.item.given.item)) true refl

    go : (b : Bool) → at_semicolon of_items (picture_of longest) Is j ≡ b → at_semicolon of_items (picture_of longest) Is j ≡ false
    go false e = e
    go true e =
        (let c = laws.exact.complete (j ∷ js) a in
        let no : None ≡ Some c.0 =
        sym (ap (λ o. onward o None (run (statements_in_lines longest).step js)) (stays (refused j.item.given.selectors j.item.given.item e))) ∙ c.1 in cc)

  begins-statement : (front : List J) → Is front → begins_semicolon of_items (picture_of longest) Is front ≡ false
  begins-statement [] a = refl
  begins-statement (j ∷ js) a = no-semicolon j js a

  nothing-there : (is : List J) → statement_items longest is ≡ [] → is ≡ []
  nothing-there [] e = refl
  nothing-there (i ∷ is) e = cc

  -- ---- where a list is split

  record Apart (is : List J) (xs ys : List Item) : Type 0 where
    front : List J
    behind : List J
    whole : is ≡ front ++ behind
    first : statement_items longest front ≡ xs
    rest : statement_items longest behind ≡ ys

  apart : (is : List J) (xs ys : List Item) → statement_items longest is ≡ xs ++ ys → Apart is xs ys
  apart is [] ys e = record { front = []; behind = is; whole = refl; first = refl; rest = e }
  apart [] (x ∷ xs) ys e = cc
  apart (i ∷ is) (x ∷ xs) ys e =
      (let head : i.item.given.item ≡ x = cc in
      let tail : statement_items longest is ≡ xs ++ ys = cc in
      let on = apart is xs ys tail in
      record {
        front = i ∷ on.front;
        behind = on.behind;
        whole = ap (λ l. i ∷ l) on.whole;
        first = ap (λ y. y ∷ statement_items longest on.front) head ∙ ap (λ l. x ∷ l) on.first;
        rest = on.rest;
      })

  -- what is asked of a list, of its parts
  record Asked (is : List J) : Type 0 where
    newlines : NewlinesEnd (toks is)
    dots : dots_told longest false is ≡ true

  dots-front : (front rest : List J) (dotted : Bool) → dots_told longest dotted (front ++ rest) ≡ true → dots_told longest dotted front ≡ true
  dots-front [] rest dotted e = refl
  dots-front (i ∷ front) rest dotted e =
      and-true (not dotted || i.dotted) (dots_told longest (is_dot i.item.given.item) front) (and-left (not dotted || i.dotted) (dots_told longest (is_dot i.item.given.item) (front ++ rest)) e)
      (dots-front front rest (is_dot i.item.given.item) (and-right (not dotted || i.dotted) (dots_told longest (is_dot i.item.given.item) (front ++ rest)) e))

  dots-behind : (front rest : List J) (dotted : Bool) → dots_told longest dotted (front ++ rest) ≡ true → dots_told longest false rest ≡ true
  dots-behind [] rest dotted e = any-dots longest dotted rest e
  dots-behind (i ∷ front) rest dotted e = dots-behind front rest (is_dot i.item.given.item) (and-right (not dotted || i.dotted) (dots_told longest (is_dot i.item.given.item) (front ++ rest)) e)

  asked-front : (front rest : List J) → Asked (front ++ rest) → Asked front
  asked-front front rest a = record {
    newlines = front-ends true (toks front) (toks rest) (subst NewlinesEnd (toks-apart longest front rest) a.newlines);
    dots = dots-front front rest false a.dots;
  }

  asked-behind : (front rest : List J) → Asked (front ++ rest) → Asked rest
  asked-behind front rest a = record {
    newlines = any-ends (ended_by true (toks front)) (toks rest) (behind-ends true (toks front) (toks rest) (subst NewlinesEnd (toks-apart longest front rest) a.newlines));
    dots = dots-behind front rest false a.dots;
  }

  -- ---- separators

  separators-in-front : (sep : Sep) (front rest : List J) (ps : List (Part J)) → statement_items longest front ≡ tokens (sep_tokens sep) → As rest ps → As (front ++ rest) ps
  separators-in-front [] front rest ps e d = moved of_items (picture_of longest) Is rest (front ++ rest) ps (ap (λ l. l ++ rest) (sym (nothing-there front e))) d
  separators-in-front (p ∷ sep) [] rest ps e d = cc
  separators-in-front (p ∷ sep) (j ∷ front) rest ps e d =
      (let head : j.item.given.item ≡ OneToken (semicolon p) = cc in
      let tail : statement_items longest front ≡ tokens (sep_tokens sep) = cc in
      semicolon-in-front of_items (picture_of longest) Is j (front ++ rest) ps (semicolon-shown j.item.given.selectors j.item.given.item p head) (separators-in-front sep front rest ps tail d))

  separated-by : (sep : Sep) (xs : List Lexeme) (rest : List J) (items : List Item) → statement_items longest rest ≡ tokens (sep_tokens sep) ++ items
      → is_separated xs sep (items_tokens items) ≡ true → follows rest ≡ true
  separated-by [] xs [] items e s = refl
  separated-by [] xs (j ∷ rest) items e s =
      newline-separates j.item.given.selectors j.item.given.item (toks rest)
      (ap (λ l. has_newline (newline_before (items_tokens l))) e ∙ and-right (is_nonempty xs) (has_newline (newline_before (items_tokens items))) s)
  separated-by (p ∷ sep) xs [] items e s = refl
  separated-by (p ∷ sep) xs (j ∷ rest) items e s = (let head : j.item.given.item ≡ OneToken (semicolon p) = cc in semicolon-separates j.item.given.selectors j.item.given.item p head)

  -- ---- one statement

  -- The items are divided as the statements of the grammar are. The reader has the trees of these, and where they stand.
  record Put (is : List J) (written : List (Part Item)) (bs : List Built) (spans : List Span) : Type 0 where
    parts : List (Part J)
    divided : As is parts
    same : map (items_of_part longest) parts ≡ written
    placed : map (λ p. (piece_of longest p).span) parts ≡ spans
    builts : length (toks is) ≤ max_number → map (λ p. built_of (piece_of longest p)) parts ≡ map built_shown bs

  few-front : (front rest : List J) (n : ℕ) → length (toks (front ++ rest)) ≤ n → length (toks front) ≤ n
  few-front front rest n k = (let all = ap length (toks-apart longest front rest) in let both = length-append (toks front) (toks rest) in omega (arith, all, both, k))

  few-behind : (front rest : List J) (n : ℕ) → length (toks (front ++ rest)) ≤ n → length (toks rest) ≤ n
  few-behind front rest n k = (let all = ap length (toks-apart longest front rest) in let both = length-append (toks front) (toks rest) in omega (arith, all, both, k))

  longest-front : (front rest : List J) → Is front → follows rest ≡ true → longest WithinExpr false (toks front) (toks rest) → IsLongest Is follows (front ++ rest) (length front)
  longest-front front rest a f l =
      (let all = length-append front rest in
      statement-longest longest (front ++ rest) (length front) (omega (arith, all)) (subst Is (sym (take-front front rest)) a) (ap follows (drop-append_seam front rest) ∙ f)
      (subst (λ js. longest WithinExpr false (toks js) (toks (drop (length front) (front ++ rest)))) (sym (take-front front rest))
      (subst (λ js. longest WithinExpr false (toks front) (toks js)) (sym (drop-append_seam front rest)) l)))

  piece-no-semicolon : (front : List J) → is_piece (toks front) ≡ true → begins_semicolon of_items (picture_of longest) Is front ≡ false
  piece-no-semicolon [] e = refl
  piece-no-semicolon (j ∷ js) e = piece-begins j.item.given.selectors j.item.given.item (toks js) e

  piece-some : (front : List J) → is_piece (toks front) ≡ true → front ≡ [] → ⊥
  piece-some front e same = (let no : false ≡ true = sym (ap (λ l. is_piece (toks l)) same) ∙ e in cc)

  -- the tree of a statement
  statement-tree : (front : List J) (a : Is front) → length (toks front) ≤ max_number → map built_shown (bstat_built (statement_of a.derivation)) ≡ built_of (piece_of longest (part front false)) ∷ []
  statement-tree front a few =
      (let c = laws.exact.complete front a in
      laws.tree front a c.0 few c.1 ∙ ap (λ o. built_from of_items statements built_until o (items_span of_items (map (picture_of longest) front)).end ∷ []) (sym (laws.runs front c.0 c.1)))

  broken-tree : (front : List J) (xs : List Lexeme) → xs ≡ toks front → built_of (piece_of longest (part front true)) ≡ built_shown (plain (broken_tree xs))
  broken-tree front xs e =
      ap (λ s. record { tall = unlabelled tree_kind.Broken s no_kids; free = [] }) (sym (items-span longest front) ∙ ap span_of (sym e))
      ∙ ap (λ t. record { tall = t; free = [] }) (unlabelled-kept tree_kind.Broken (span_of xs) [])

  one-more : (front rest : List J) (broken : Bool) (items : List Item) (bs here : List Built) (spans : List Span) (xs : List Lexeme) (written : List (Part Item))
      → (front ≡ [] → ⊥) → xs ≡ toks front → statement_items longest front ≡ items
      → (length (toks front) ≤ max_number → map built_shown here ≡ built_of (piece_of longest (part front broken)) ∷ []) → (on : Put rest written bs spans)
      → As (front ++ rest) (part front broken ∷ on.parts) → Put (front ++ rest) (part items broken ∷ written) (here ++ bs) (nonempty_span xs ++ spans)
  one-more front rest broken items bs here spans xs written some e there tree on d = record {
    parts = part front broken ∷ on.parts;
    divided = d;
    same = ap (λ js. part js broken ∷ map (items_of_part longest) on.parts) there ∙ ap (λ qs. part items broken ∷ qs) on.same;
    placed = ap (λ l. items_span of_items (map (picture_of longest) front) ∷ l) on.placed ∙ ap (λ l. l ++ spans) (sym (ap nonempty_span e ∙ span-there longest front some));
    builts = λ k. ap (λ l. built_of (piece_of longest (part front broken)) ∷ l) (on.builts (few-behind front rest max_number k))
        ∙ ap (λ l. l ++ map built_shown bs) (sym (tree (few-front front rest max_number k))) ∙ sym (map-append built_shown here bs);
  }

  one-statement : (s : ReadStat) (items : List Item) → AreItemsOfStat s items → (front rest : List J) → statement_items longest front ≡ items → ProperBStat longest WithinExpr (bstat_of s)
      → longest WithinExpr (is_broken (bstat_of s)) (bstat_tokens (bstat_of s)) (toks rest) → follows rest ≡ true → Asked front
      → (written : List (Part Item)) (bs : List Built) (spans : List Span) → Put rest written bs spans
      → Put (front ++ rest) (stat_parts s items written) (bstat_built (bstat_of s) ++ bs) (nonempty_span (bstat_tokens (bstat_of s)) ++ spans)
  one-statement (Whole d) items a front rest e p l f asked written bs spans on =
      (let is : AreItemsOf d (statement_items longest front) = subst (AreItemsOf d) (sym e) a in
      let whole : Is front = record { derivation = d; proper = p; items = is; newlines = asked.newlines; dots = asked.dots } in
      let there : toks front ≡ bstat_tokens (statement_of d) = statement-tokens d (statement_items longest front) is in
      let here : longest WithinExpr false (toks front) (toks rest) =
      subst (λ xs. longest WithinExpr false xs (toks rest)) (sym there) (subst (λ b. longest WithinExpr b (bstat_tokens (statement_of d)) (toks rest)) (not-broken d) l) in
      let filled : front ≡ [] → ⊥ = λ none. some longest laws (subst Is none whole) in
      one-more front rest false items bs (bstat_built (statement_of d)) spans (bstat_tokens (statement_of d)) written filled (sym there) e (statement-tree front whole) on
      (statement-in-front of_items (picture_of longest) Is front rest on.parts filled (begins-statement front whole) (longest-front front rest whole f here) on.divided))
  one-statement Empty items a front rest e p l f asked written bs spans on = record {
    parts = on.parts;
    divided = moved of_items (picture_of longest) Is rest (front ++ rest) on.parts (ap (λ js. js ++ rest) (sym (nothing-there front (e ∙ a)))) on.divided;
    same = on.same;
    placed = on.placed;
    builts = λ k. on.builts (few-behind front rest max_number k);
  }
  one-statement (NoStatement xs) items a front rest e p l f asked written bs spans on =
      (let there : items_tokens xs ≡ toks front = sym (ap items_tokens (e ∙ a)) in
      let piece : is_piece (toks front) ≡ true = ap is_piece (sym there) ∙ p in
      one-more front rest true items bs (plain (broken_tree (items_tokens xs)) ∷ []) spans (items_tokens xs) written (piece-some front piece) there e
      (λ few. ap (λ b. b ∷ []) (sym (broken-tree front (items_tokens xs) there))) on
      (broken-in-front of_items (picture_of longest) Is front rest on.parts (piece-some front piece) (piece-no-semicolon front piece)
      (none-begins longest (front ++ rest) (items_tokens xs) (toks rest) (ap (λ ys. ys ++ toks rest) there ∙ sym (toks-apart longest front rest)) l)
      (piece-length longest front rest piece f) on.divided))

  -- ---- a list

  nothing-more : Put [] [] [] []
  nothing-more = record { parts = []; divided = no-more of_items (picture_of longest) Is; same = refl; placed = refl; builts = λ k. refl }

  put-as : (is js : List J) (written : List (Part Item)) (bs : List Built) (spans : List Span) → is ≡ js → Put is written bs spans → Put js written bs spans
  put-as is js written bs spans e d = subst (λ l. Put l written bs spans) e d

  last-as : (is : List J) (written : List (Part Item)) (bs : List Built) (spans : List Span) → Put (is ++ []) written (bs ++ []) (spans ++ []) → Put is written bs spans
  last-as is written bs spans d =
      subst (λ l. Put l written bs spans) (append-nil is) (subst (λ l. Put (is ++ []) written l spans) (append-nil bs) (subst (λ l. Put (is ++ []) written (bs ++ []) l) (append-nil spans) d))

  all-statements : (stats : ReadStats) (items : List Item) (a : AreItemsOfStats stats items) (is : List J) → statement_items longest is ≡ items → ProperBStats longest WithinExpr (bstats_of stats)
      → Asked is → Put is (written_parts stats items a) (bstats_built (bstats_of stats)) (bstats_spans (bstats_of stats))
  all-statements (LastStat s) items a is e p asked =
      last-as is (stat_parts s items []) (bstat_built (bstat_of s)) (nonempty_span (bstat_tokens (bstat_of s))) (one-statement s items a is [] e p.0 p.1 refl asked [] [] [] nothing-more)
  all-statements (MoreStats s sep stats) items a is e p asked =
      (let one = apart is a.0 (tokens (sep_tokens sep) ++ a.1) (e ∙ a.2) in
      let two = apart one.behind (tokens (sep_tokens sep)) a.1 one.rest in
      let written : List (Part Item) = written_parts stats a.1 a.4 in
      let bs : List Built = bstats_built (bstats_of stats) in
      let spans : List Span = bstats_spans (bstats_of stats) in
      let here : Asked (one.front ++ one.behind) = subst Asked one.whole asked in
      let there : Asked one.behind = asked-behind one.front one.behind here in
      let last : Asked two.behind = asked-behind two.front two.behind (subst Asked two.whole there) in
      let on : Put two.behind written bs spans = all-statements stats a.1 a.4 two.behind two.rest p.3 last in
      let rest : Put one.behind written bs spans = put-as (two.front ++ two.behind) one.behind written bs spans (sym two.whole) (record {
        parts = on.parts;
        divided = separators-in-front sep two.front two.behind on.parts two.first on.divided;
        same = on.same;
        placed = on.placed;
        builts = λ k. on.builts (few-behind two.front two.behind max_number k);
      }) in
      let tokens-behind : toks one.behind ≡ sep_tokens sep ++ bstats_tokens (bstats_of stats) =
      ap items_tokens one.rest ∙ behind-tokens sep a.1 (bstats_tokens (bstats_of stats)) (stats-tokens stats a.1 a.4) in
      put-as (one.front ++ one.behind) is (stat_parts s a.0 written) (bstat_built (bstat_of s) ++ bs) (nonempty_span (bstat_tokens (bstat_of s)) ++ spans) (sym one.whole)
      (one-statement s a.0 a.3 one.front one.behind one.first p.0
      (subst (λ ys. longest WithinExpr (is_broken (bstat_of s)) (bstat_tokens (bstat_of s)) ys) (sym tokens-behind) p.1)
      (separated-by sep (bstat_tokens (bstat_of s)) one.behind a.1 one.rest (ap (is_separated (bstat_tokens (bstat_of s)) sep) (stats-tokens stats a.1 a.4) ∙ p.2))
      (asked-front one.front one.behind here) written bs spans rest))

  all-of : (is : List J) (a : AreOfList longest is) → Put is (written_parts a.derivation (statement_items longest is) a.items) (bstats_built (bstats_of a.derivation)) (bstats_spans (bstats_of a.derivation))
  all-of is a = all-statements a.derivation (statement_items longest is) a.items is refl a.proper (record { newlines = a.newlines; dots = a.dots })

  pub as-divided : (is : List J) (a : AreOfList longest is) (d : DividedList longest is) → map (items_of_part longest) (parts_of longest d) ≡ written_parts a.derivation (statement_items longest is) a.items
  as-divided is a d =
      (let put = all-of is a in ap (map (items_of_part longest)) (one-list longest laws is d put.divided.division ∙ put.divided.same) ∙ put.same)

  pub as-built : (is : List J) (a : AreOfList longest is) → length (toks is) ≤ max_number → block_list (statement_pictures longest is) ≡ list_shown (bstats_of a.derivation)
  as-built is a few =
      (let put = all-of is a in
      let stats : BStats = bstats_of a.derivation in
      let items : List Picture = statement_pictures longest is in
      let there : pieces of_items statements built_until items ≡ map (piece_of longest) put.parts =
      pieces-list longest laws is a.newlines a.dots put.divided.division ∙ ap (map (piece_of longest)) put.divided.same in
      all-built (whole_span (divided of_items statements built_until items)) [] [] (pieces of_items statements built_until items) (bstats_built stats)
      (ap (map built_of) there ∙ again built_of (piece_of longest) put.parts ∙ put.builts few)
      ∙ ap (λ s. list_of (trees_of (bstats_built stats)) (free_of (bstats_built stats)) s)
      (ap span_over (cuts-spans of_items (divided of_items statements built_until items) items ∙ ap (map (λ p. p.span)) there ∙ again (λ p. p.span) (piece_of longest) put.parts ∙ put.placed)
      ∙ over-shown (bstats_spans stats)))
