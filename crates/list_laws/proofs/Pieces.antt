-- Where a piece of the grammar ends, outside brackets, the next separator of the items stands.
use Rattle.std.proofs.Common.{◌≡◌, ◌<◌, ℕ, suc, ◌+◌, ◌-◌, ◌==◌, Bool, true, false, ◌&&◌, ◌||◌, if◌then◌else◌, List, [], ◌∷◌, ◌++◌, map, length, Option, Some, None, codes, refl, ap, sym, ◌∙◌, subst, arith}
use Rattle.std.specs.Prelude.{not}
use Rattle.std.specs.List.{list_any}
use Rattle.std.specs.Str.{bytes_eq}
use Rattle.std.proofs.lemmas.Slice.Eq.{bytes_eq-Decides}
use Rattle.scan_tokens.specs.declared.tokens.TokenKind.{TokenKind}
use Rattle.scan_tokens.specs.declared.tokens.TokenKind.TheVariants as kind
use Rattle.scan_tokens.specs.Newlines.{delimiter_role}
use Rattle.scan_tokens.specs.Words.{Bytes}
use Rattle.source_grammar.specs.Brackets as grammar
use Rattle.source_grammar.specs.Brackets.{Opened, list_is_empty, without_first, open_after, unmatched, is_balanced, has_no_separator, is_piece}
use Rattle.source_grammar.specs.ExpressionRules.{Rule}
use Rattle.source_grammar.specs.ExpressionTokens.{block_tokens, cases_tokens, enums_tokens}
use Rattle.source_grammar.specs.Lexemes.{Place, Lexeme, token_at, open_curly, close_curly}
use Rattle.source_grammar.specs.Statements.{ends_statement}
use Rattle.positioned_trees.specs.declared.details.Selector.{Selector}
use Rattle.expr_tails.specs.Symbols.{first_written, is_arrow, is_back_arrow, sign_symbol, control_words, definition_words, is_literal_word, word_or, word_or_other, word_symbol, symbol_of}
use Rattle.expr_tails.specs.declared.symbols.Symbol.{Symbol}
use Rattle.expr_tails.specs.declared.symbols.Symbol.TheVariants as symbol
use Rattle.expr_tails.specs.declared.symbols.Word.{Word}
use Rattle.parse_exprs.specs.Items.{is_semicolon, separates, depth_behind, symbol_at}
use Rattle.parse_exprs.specs.Lists.{of_items, before_separator}
use Rattle.expr_laws.specs.Definitions.{is_level_word, is_level_token, IsLevelItem}
use Rattle.expr_laws.specs.Items.{Item, OneToken, BlockPair, CasesPair, EnumsPair, OtherPair, item_tokens, items_tokens}
use Rattle.expr_laws.specs.Pictures.{item_shown}
use Rattle.expr_laws.proofs.BalancedTokens.{balanced-none, none-open, not-wrong, passed}
use Rattle.expr_laws.proofs.Lasting.{and-left, and-right}
use Rattle.expr_laws.proofs.LevelTokens.{after_all, level-none, level-curly, level-word, level-sign, level-balanced}
use Rattle.expr_laws.proofs.Seen.{token-shown}
use Rattle.statement_laws.specs.Statements.{AreOfStatement, ReadStatementItem, statement_items}
use Rattle.list_laws.specs.Divided.{may_follow, up_to_separator}
use Rattle.list_laws.specs.Lists.{picture_of}
use Rattle.list_laws.proofs.Longer.{semicolon-by, first-separates, some-tokens}

-- ---- how deep brackets stand after one token

abbrev Keeps : Symbol → Type 0
Keeps s = (n : ℕ) → depth_behind n s ≡ n

pick : (s rest : Symbol) (b : Bool) → Keeps s → Keeps rest → Keeps (if b then s else rest)
pick s rest true here there = here
pick s rest false here there = there

same : (n : ℕ) → n ≡ n
same n = refl

sign-keeps : (w : Bytes) → Keeps (sign_symbol w)
sign-keeps w =
    pick symbol.Arrow _ (is_arrow w) same
    (pick symbol.BackArrow _ (is_back_arrow w) same
    (pick symbol.Underscore _ (bytes_eq w (codes "_")) same
    (pick symbol.Colon _ (bytes_eq w (codes ":")) same
    (pick symbol.Equals _ (bytes_eq w (codes "=")) same
    (pick symbol.At _ (bytes_eq w (codes "@")) same
    (pick symbol.LowerBound _ (bytes_eq w (codes ">:")) same
    (pick symbol.UpperBound symbol.Other (bytes_eq w (codes "<:")) same same)))))))

word-or-keeps : (o : Option Word) (rest : Symbol) → Keeps rest → Keeps (word_or o rest)
word-or-keeps None rest there = there
word-or-keeps (Some v) rest there = same

last-keeps : (o : Option Word) → Keeps (word_or_other o)
last-keeps None = same
last-keeps (Some v) = same

word-keeps : (w : Bytes) → Keeps (word_symbol w)
word-keeps w =
    pick symbol.Literal _ (is_literal_word w) same
    (word-or-keeps (first_written control_words w) (word_or_other (first_written definition_words w)) (last-keeps (first_written definition_words w)))

abbrev AllOf : List ℕ → (Bytes → Type 0) → Type 0
AllOf [] P = Unit {0}
AllOf (d ∷ ds) P = P (d ∷ []) × AllOf ds P

-- what holds of each of some characters holds of a word that is one of them
among : (P : Bytes → Type 0) (ds : List ℕ) (w : Bytes) → list_any (λ d. bytes_eq w (d ∷ [])) ds ≡ true → AllOf ds P → P w
among P [] w e all = cc
among P (d ∷ ds) w e all = go (bytes_eq w (d ∷ [])) refl e (λ f. among P ds w f all.1) where
  go : (b : Bool) → bytes_eq w (d ∷ []) ≡ b → (b || list_any (λ c. bytes_eq w (c ∷ [])) ds) ≡ true → (list_any (λ c. bytes_eq w (c ∷ [])) ds ≡ true → P w) → P w
  go true f g on = subst P (sym ((bytes_eq-Decides w (d ∷ [])).0 f)) all.0
  go false f g on = on g

one-more : (n : ℕ) → suc n ≡ n + 1
one-more n = omega arith

one-less : (n : ℕ) → n ≡ suc n - 1
one-less n = omega arith

fewer : (opened : List Opened) → length (without_first opened) ≡ length opened - 1
fewer [] = refl
fewer (k ∷ opened) = one-less (length opened)

abbrev DelimiterDepth : Place → Bytes → Type 0
DelimiterDepth p w = (opened : List Opened) → length (open_after (token_at kind.Delimiter w p) opened) ≡ depth_behind (length opened) (symbol_of kind.Delimiter w)

delimiter-depth : (w : Bytes) (p : Place) → is_level_word kind.Delimiter w ≡ true → DelimiterDepth p w
unfolding delimiter_role symbol_of
delimiter-depth w p e =
    among (DelimiterDepth p) (codes "()[].,;") w e
    ((λ opened. one-more (length opened)), (fewer, ((λ opened. one-more (length opened)), (fewer, ((λ opened. refl), ((λ opened. refl), ((λ opened. refl), tt)))))))

token-depth : (x : Lexeme) → is_level_token x ≡ true → (opened : List Opened) → length (open_after x opened) ≡ depth_behind (length opened) (symbol_of x.kind x.word)
unfolding symbol_of
token-depth x l opened = go x.kind x.word x.place l where
  go : (k : TokenKind) (w : Bytes) (p : Place) → is_level_word k w ≡ true → length (open_after (token_at k w p) opened) ≡ depth_behind (length opened) (symbol_of k w)
  go kind.Delimiter w p e = delimiter-depth w p e opened
  go kind.Sign w p e = ap length ((level-sign w p [] level-none).after opened) ∙ sym (sign-keeps w (length opened))
  go kind.Word w p e = ap length ((level-word w p [] level-none).after opened) ∙ sym (word-keeps w (length opened))
  go _ w p e = refl

-- ---- after one item

pair-depth : (o k : Place) (xs : List Lexeme) (opened : List Opened) → is_balanced xs ≡ true → length (after_all opened (open_curly o ∷ (xs ++ close_curly k ∷ []))) ≡ length opened
pair-depth o k xs opened b = ap length ((level-curly o k xs [] (level-balanced xs b) level-none).after opened)

item-depth : (selectors : Option (List Selector)) (i : Item) → IsLevelItem i → (opened : List Opened)
    → length (after_all opened (item_tokens i)) ≡ depth_behind (length opened) (symbol_at (item_shown selectors i))
item-depth selectors (OneToken x) l opened = token-depth x l opened
item-depth selectors (BlockPair o block k) l opened = pair-depth o k (block_tokens block) opened l
item-depth selectors (CasesPair o cases k) l opened = pair-depth o k (cases_tokens cases) opened l
item-depth selectors (EnumsPair o enums k) l opened = pair-depth o k (enums_tokens enums) opened l
item-depth selectors (OtherPair o xs k) l opened = pair-depth o k xs opened l

no-separator-behind : (xs ys : List Lexeme) (opened : List Opened) → has_no_separator opened (xs ++ ys) ≡ true → has_no_separator (after_all opened xs) ys ≡ true
no-separator-behind [] ys opened e = e
no-separator-behind (x ∷ xs) ys opened e =
    no-separator-behind xs ys (open_after x opened) (and-right (not (list_is_empty opened) || not (grammar.separates x)) (has_no_separator (open_after x opened) (xs ++ ys)) e)

unmatched-behind : (xs ys : List Lexeme) (opened : List Opened) → unmatched opened (xs ++ ys) ≡ None → unmatched (after_all opened xs) ys ≡ None
unmatched-behind [] ys opened e = e
unmatched-behind (x ∷ xs) ys opened e = unmatched-behind xs ys (open_after x opened) (sym (passed x opened (xs ++ ys) (not-wrong x opened (xs ++ ys) e)) ∙ e)

-- ---- no separator stands before an item outside brackets

shut : (opened : List Opened) (x : Lexeme) (xs : List Lexeme) → has_no_separator opened (x ∷ xs) ≡ true → grammar.separates x ≡ true → list_is_empty opened ≡ false
shut opened x xs e s = go (list_is_empty opened) refl where
  go : (b : Bool) → list_is_empty opened ≡ b → list_is_empty opened ≡ false
  go false f = f
  go true f =
      (let no : false ≡ true =
      sym (ap (λ b. not b || not (grammar.separates x)) f ∙ ap not s) ∙ and-left (not (list_is_empty opened) || not (grammar.separates x)) (has_no_separator (open_after x opened) xs) e in cc)

shut-item : (opened : List Opened) (i : Item) (ys : List Lexeme) → has_no_separator opened (item_tokens i ++ ys) ≡ true → ends_statement (item_tokens i ++ ys) ≡ true → list_is_empty opened ≡ false
shut-item opened (OneToken x) ys e s = shut opened x ys e s
shut-item opened (BlockPair o block k) ys e s = shut opened (open_curly o) _ e s
shut-item opened (CasesPair o cases k) ys e s = shut opened (open_curly o) _ e s
shut-item opened (EnumsPair o enums k) ys e s = shut opened (open_curly o) _ e s
shut-item opened (OtherPair o xs k) ys e s = shut opened (open_curly o) _ e s

not-zero : (opened : List Opened) → list_is_empty opened ≡ false → (length opened == 0) ≡ false
not-zero [] e = cc
not-zero (k ∷ opened) e = some (length opened) where
  some : (n : ℕ) → (suc n == 0) ≡ false
  some n = grind arith

and-no : (a : Bool) → (a && false) ≡ false
and-no true = refl
and-no false = refl

not-here : (opened : List Opened) (selectors : Option (List Selector)) (i : Item) (ys : List Lexeme) → has_no_separator opened (item_tokens i ++ ys) ≡ true
    → (length opened == 0 && separates (item_shown selectors i)) ≡ false
not-here opened selectors i ys e = go (separates (item_shown selectors i)) refl where
  go : (b : Bool) → separates (item_shown selectors i) ≡ b → (length opened == 0 && separates (item_shown selectors i)) ≡ false
  go false s = ap (λ b. length opened == 0 && b) s ∙ and-no (length opened == 0)
  go true s = ap (λ b. b && separates (item_shown selectors i)) (not-zero opened (shut-item opened i ys e (first-separates selectors i ys s)))

-- ---- pieces

piece-separates : (zs ys : List Lexeme) → 0 < length zs → is_piece (zs ++ ys) ≡ true → has_no_separator (after_all [] zs) ys ≡ true
piece-separates [] ys n e = absurd (omega (arith, n))
piece-separates (z ∷ zs) ys n e =
    no-separator-behind zs ys (open_after z []) (and-right (not (grammar.is_semicolon z)) (has_no_separator (open_after z []) (zs ++ ys))
    (and-left (not (grammar.is_semicolon z) && has_no_separator (open_after z []) (zs ++ ys)) (is_balanced (z ∷ (zs ++ ys))) e))

piece-matches : (zs ys : List Lexeme) → 0 < length zs → is_piece (zs ++ ys) ≡ true → unmatched (after_all [] zs) ys ≡ None
piece-matches [] ys n e = absurd (omega (arith, n))
piece-matches (z ∷ zs) ys n e =
    unmatched-behind (z ∷ zs) ys [] (balanced-none (z ∷ (zs ++ ys)) (and-right (not (grammar.is_semicolon z) && has_no_separator (open_after z []) (zs ++ ys)) (is_balanced (z ∷ (zs ++ ys))) e))

-- a piece begins with no `;`
no-semicolon : (x : Lexeme) (ys : List Lexeme) → is_piece (x ∷ ys) ≡ true → is_semicolon (symbol_of x.kind x.word) ≡ false
no-semicolon x ys e = go (is_semicolon (symbol_of x.kind x.word)) refl where
  go : (b : Bool) → is_semicolon (symbol_of x.kind x.word) ≡ b → is_semicolon (symbol_of x.kind x.word) ≡ false
  go false s = s
  go true s =
      (let no : false ≡ true =
      sym (ap not (semicolon-by x (symbol_of x.kind x.word) (token-shown x) s))
      ∙ and-left (not (grammar.is_semicolon x)) (has_no_separator (open_after x []) ys)
      (and-left (not (grammar.is_semicolon x) && has_no_separator (open_after x []) ys) (is_balanced (x ∷ ys)) e) in cc)

pub piece-begins : (selectors : Option (List Selector)) (i : Item) (ys : List Lexeme) → is_piece (item_tokens i ++ ys) ≡ true → is_semicolon (symbol_at (item_shown selectors i)) ≡ false
piece-begins selectors (OneToken x) ys e = no-semicolon x ys e
piece-begins selectors (BlockPair o block k) ys e = refl
piece-begins selectors (CasesPair o cases k) ys e = refl
piece-begins selectors (EnumsPair o enums k) ys e = refl
piece-begins selectors (OtherPair o xs k) ys e = refl

module _ (rule : Rule) where
  abbrev toks : List (ReadStatementItem rule) → List Lexeme
  toks is = items_tokens (statement_items rule is)

  abbrev follows : List (ReadStatementItem rule) → Bool
  follows js = may_follow of_items (picture_of rule) (AreOfStatement rule) js

  at-end : (rest : List (ReadStatementItem rule)) → follows rest ≡ true → before_separator of_items 0 (map (picture_of rule) rest) ≡ 0
  at-end [] f = refl
  at-end (r ∷ rest) f =
      ap (λ b. if b then 0 else suc (before_separator of_items (depth_behind 0 (symbol_at (picture_of rule r))) (map (picture_of rule) rest))) f

  before-end : (is rest : List (ReadStatementItem rule)) (opened : List Opened) → has_no_separator opened (toks is) ≡ true → unmatched opened (toks is) ≡ None → follows rest ≡ true
      → before_separator of_items (length opened) (map (picture_of rule) (is ++ rest)) ≡ length is
  before-end [] rest opened n u f = ap (λ ks. before_separator of_items (length ks) (map (picture_of rule) rest)) (none-open opened u) ∙ at-end rest f
  before-end (i ∷ is) rest opened n u f =
      (let xs : List Lexeme = item_tokens i.item.given.item in
      ap (λ b. if b then 0 else suc (before_separator of_items (depth_behind (length opened) (symbol_at (picture_of rule i))) (map (picture_of rule) (is ++ rest))))
      (not-here opened i.item.given.selectors i.item.given.item (toks is) n)
      ∙ ap (λ m. suc (before_separator of_items m (map (picture_of rule) (is ++ rest)))) (sym (item-depth i.item.given.selectors i.item.given.item i.item.level opened))
      ∙ ap suc (before-end is rest (after_all opened xs) (no-separator-behind xs (toks is) opened n) (unmatched-behind xs (toks is) opened u) f))

  -- a piece goes up to the next separator
  pub piece-length : (front rest : List (ReadStatementItem rule)) → is_piece (toks front) ≡ true → follows rest ≡ true
      → up_to_separator of_items (picture_of rule) (AreOfStatement rule) (front ++ rest) ≡ length front
  piece-length [] rest e f = cc
  piece-length (i ∷ is) rest e f =
      (let xs : List Lexeme = item_tokens i.item.given.item in
      ap (λ m. suc (before_separator of_items m (map (picture_of rule) (is ++ rest)))) (sym (item-depth i.item.given.selectors i.item.given.item i.item.level []))
      ∙ ap suc (before-end is rest (after_all [] xs) (piece-separates xs (toks is) (some-tokens i.item.given.item) e) (piece-matches xs (toks is) (some-tokens i.item.given.item) e) f))
