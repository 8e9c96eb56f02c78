-- What the grammar asks of the tokens of a statement of a list, of its items.
use Rattle.std.proofs.Common.{◌≡◌, ◌<◌, ◌≤◌, ℕ, zero, suc, ◌+◌, Bool, true, false, ◌||◌, ◌⊎◌, inl, inr, List, [], ◌∷◌, ◌++◌, length, take, drop, Option, refl, ap, sym, ◌∙◌, subst, arith, length-append}
use Rattle.std.proofs.lemmas.List.{take-append-drop}
use Rattle.reading_machines.specs.Parts.{IsLongest, HasNone}
use Rattle.source_grammar.specs.Brackets as grammar
use Rattle.source_grammar.specs.Expressions.{WithinExpr}
use Rattle.source_grammar.specs.ExpressionRules.{Rule}
use Rattle.source_grammar.specs.Lexemes.{Lexeme}
use Rattle.source_grammar.specs.Statements.{BeginsWith, ends_statement, longest, is_whole_bstat}
use Rattle.expr_tails.specs.Symbols.{symbol_of}
use Rattle.expr_tails.specs.declared.symbols.Symbol.{Symbol}
use Rattle.expr_tails.specs.declared.symbols.Symbol.TheVariants as symbol
use Rattle.positioned_trees.specs.declared.details.Selector.{Selector}
use Rattle.parse_exprs.specs.Items.{is_semicolon, separates}
use Rattle.parse_exprs.specs.Lists.{of_items}
use Rattle.expr_laws.specs.Items.{Item, OneToken, BlockPair, CasesPair, EnumsPair, OtherPair, item_tokens, items_tokens}
use Rattle.expr_laws.specs.Pictures.{item_shown}
use Rattle.expr_laws.proofs.ItemTokens.{items-append}
use Rattle.expr_laws.proofs.Seen.{seen_as, shown_token, token-shown}
use Rattle.statement_laws.specs.Statements.{ReadStatement, OfImport, OfDefinition, OfExpr, statement_of, AreOfStatement, ReadStatementItem, statement_items}
use Rattle.statement_laws.proofs.StatementTokens.{statement-tokens}
use Rattle.list_laws.specs.Divided.{may_follow}
use Rattle.list_laws.specs.Lists.{picture_of}
use Rattle.list_laws.proofs.AnyDivision.{bstat-any}

-- a semicolon is one to the grammar
pub semicolon-by : (x : Lexeme) (s : Symbol) → shown_token (seen_as s x) ≡ x → is_semicolon s ≡ true → grammar.is_semicolon x ≡ true
semicolon-by x symbol.Semicolon e t = ap grammar.is_semicolon (sym e)
semicolon-by x _ e t = cc

either : (a b c : Bool) → (b ≡ true → c ≡ true) → (a || b) ≡ true → (c || a) ≡ true
either true b true to e = refl
either true b false to e = refl
either false true c to e = ap (λ d. d || false) (to refl)
either false false c to e = cc

pub some-tokens : (i : Item) → 0 < length (item_tokens i)
some-tokens (OneToken x) = omega arith
some-tokens (BlockPair o block k) = omega arith
some-tokens (CasesPair o cases k) = omega arith
some-tokens (EnumsPair o enums k) = omega arith
some-tokens (OtherPair o xs k) = omega arith

whole-statement : (d : ReadStatement) → is_whole_bstat (statement_of d) ≡ true
whole-statement (OfImport i) = refl
whole-statement (OfDefinition mods def) = refl
whole-statement (OfExpr expr) = refl

pub first-separates : (selectors : Option (List Selector)) (i : Item) (ys : List Lexeme) → separates (item_shown selectors i) ≡ true → ends_statement (item_tokens i ++ ys) ≡ true
first-separates selectors (OneToken x) ys e =
    either (grammar.has_newline x.place.before) (is_semicolon (symbol_of x.kind x.word)) (grammar.is_semicolon x) (semicolon-by x (symbol_of x.kind x.word) (token-shown x)) e
first-separates selectors (BlockPair o block k) ys e = either (grammar.has_newline o.before) false false (λ f. f) e
first-separates selectors (CasesPair o cases k) ys e = either (grammar.has_newline o.before) false false (λ f. f) e
first-separates selectors (EnumsPair o enums k) ys e = either (grammar.has_newline o.before) false false (λ f. f) e
first-separates selectors (OtherPair o xs k) ys e = either (grammar.has_newline o.before) false false (λ f. f) e

le-or : (k m : ℕ) → (k ≤ m) ⊎ (m < k)
le-or zero m = inl (omega arith)
le-or (suc k) zero = inr (omega arith)
le-or (suc k) (suc m) = elim (le-or k m) [ inl a ↦ inl (omega (arith, a)) | inr b ↦ inr (omega (arith, b)) ]

module _ (rule : Rule) where
  abbrev toks : List (ReadStatementItem rule) → List Lexeme
  toks is = items_tokens (statement_items rule is)

  abbrev follows : List (ReadStatementItem rule) → Bool
  follows js = may_follow of_items (picture_of rule) (AreOfStatement rule) js

  items-apart : (is js : List (ReadStatementItem rule)) → statement_items rule (is ++ js) ≡ statement_items rule is ++ statement_items rule js
  items-apart [] js = refl
  items-apart (i ∷ is) js = ap (λ l. i.item.given.item ∷ l) (items-apart is js)

  pub toks-apart : (is js : List (ReadStatementItem rule)) → toks (is ++ js) ≡ toks is ++ toks js
  toks-apart is js = ap items_tokens (items-apart is js) ∙ items-append (statement_items rule is) (statement_items rule js)

  toks-at : (is : List (ReadStatementItem rule)) (k : ℕ) → toks is ≡ toks (take k is) ++ toks (drop k is)
  toks-at is k = ap toks (sym (take-append-drop k is)) ∙ toks-apart (take k is) (drop k is)

  -- what may follow a statement of items may follow its tokens
  ends-tokens : (js : List (ReadStatementItem rule)) → follows js ≡ true → ends_statement (toks js) ≡ true
  ends-tokens [] e = refl
  ends-tokens (j ∷ js) e = first-separates j.item.given.selectors j.item.given.item (toks js) e

  -- a beginning of the items that is a statement is one of their tokens
  pub begins : (is : List (ReadStatementItem rule)) (k : ℕ) → AreOfStatement rule (take k is) → follows (drop k is) ≡ true → BeginsWith WithinExpr (toks is) (toks (take k is))
  begins is k a f = record {
    behind = toks (drop k is);
    split = toks-at is k;
    followed = ends-tokens (drop k is) f;
    statement = (
      statement_of a.derivation,
      whole-statement a.derivation,
      bstat-any rule WithinExpr (statement_of a.derivation) a.proper,
      statement-tokens a.derivation (statement_items rule (take k is)) a.items,
    );
  }

  -- where the grammar has no statement, the items have none
  pub none-begins : (is : List (ReadStatementItem rule)) (xs behind : List Lexeme) → xs ++ behind ≡ toks is → longest WithinExpr true xs behind → HasNone (AreOfStatement rule) follows is
  unfolding longest
  none-begins is xs behind e l = λ k within a f. l (toks (take k is)) (subst (λ ys. BeginsWith WithinExpr ys (toks (take k is))) (sym e) (begins is k a f))

  more-tokens : (is : List (ReadStatementItem rule)) (m k : ℕ) → m < k → k ≤ length is → length (toks (take m is)) < length (toks (take k is))
  more-tokens [] m k less within = absurd (omega (arith, less, within))
  more-tokens (i ∷ is) m zero less within = absurd (omega (arith, less))
  more-tokens (i ∷ is) zero (suc k) less within =
      (let here = some-tokens i.item.given.item in let all = length-append (item_tokens i.item.given.item) (toks (take k is)) in omega (arith, here, all))
  more-tokens (i ∷ is) (suc m) (suc k) less within =
      (let rest = more-tokens is m k (omega (arith, less)) (omega (arith, within)) in
      let one = length-append (item_tokens i.item.given.item) (toks (take m is)) in
      let other = length-append (item_tokens i.item.given.item) (toks (take k is)) in omega (arith, rest, one, other))

  -- where the tokens are the longest statement, the items are
  pub statement-longest : (is : List (ReadStatementItem rule)) (m : ℕ) → m ≤ length is → AreOfStatement rule (take m is) → follows (drop m is) ≡ true
      → longest WithinExpr false (toks (take m is)) (toks (drop m is)) → IsLongest (AreOfStatement rule) follows is m
  unfolding longest
  statement-longest is m within part followed l = record {
    within = within;
    part = part;
    followed = followed;
    longest = λ k below a f.
        elim (le-or k m) [
          | inl less ↦ less
          | inr more ↦ absurd (l (toks (take k is)) (more-tokens is m k more below) (subst (λ ys. BeginsWith WithinExpr ys (toks (take k is))) (toks-at is m) (begins is k a f)))
        ];
  }
