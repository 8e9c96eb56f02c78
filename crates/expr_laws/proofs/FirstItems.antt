-- The first item of an operand and of an expression, and the first token: with it a Prim, or an expression, begins.
use Rattle.std.proofs.Common.{◌≡◌, Bool, true, false, ◌||◌, if◌then◌else◌, List, [], ◌∷◌, ◌++◌, codes, refl, ap, sym, ◌∙◌}
use Rattle.scan_tokens.specs.declared.tokens.Newline.{Newline}
use Rattle.scan_tokens.specs.declared.tokens.TokenKind.TheVariants as kind
use Rattle.source_grammar.specs.Expressions.{LamHead, NamedHead, WildHead, LParHead, PrefixSign, Plus, Minus, Bang, Tilde, Expr, Headed, DoThenWhile, TryCatch, ReturnAlone, InfixExpr, TypedExpr, MatchExpr, Heading, Lambda, IfThen, IfElse, WhileDo, TryAlone, TryFinally, TryCatchFinally, ForRound, ForCurly, ThrowOf, ReturnOf, AssignName, AssignSelect, AssignApply, Infix, LastPrefix, MorePrefixes, Prefix, Unsigned, Signed, Prim, LiteralPrim, MinusPrim, Placeholder, ThisPrim, SuperPrim, NamePrim, UnitPrim, ExprInParentheses, PairPrim, TriplePrim, BlockPrim, CasesPrim, NewOf, NewWith, SelectPrim, SelectHole, TypeApplyPrim, ApplyPrim, EtaPrim}
use Rattle.source_grammar.specs.ExpressionRules.{is_number_kind}
use Rattle.source_grammar.specs.ExpressionTokens.{head_tokens, sign_token, expr_tokens, heading_tokens, infix_tokens, prefix_tokens, prim_tokens}
use Rattle.source_grammar.specs.Lexemes.{Lexeme, word_at, open_round, underscore, minus, Id, id_token, Literal, IntLiteral, LongLiteral, CharLiteral, StringLiteral, TrueLiteral, FalseLiteral, NullLiteral, literal_token}
use Rattle.source_grammar.specs.Newlines.{newline_before}
use Rattle.expr_tails.specs.declared.symbols.Symbol.{Symbol}
use Rattle.expr_tails.specs.declared.symbols.Symbol.TheVariants as symbol
use Rattle.expr_tails.specs.Symbols.{symbol_of, begins_prim, begins_expr, is_head_word}
use Rattle.expr_laws.proofs.Derived.{Item, OneToken, BlockPair, CasesPair, EnumsPair, OtherPair, is_number}
use Rattle.expr_laws.proofs.Items.{tokens, expr_items, heading_items, infix_items, prefix_items, prim_items}
use Rattle.expr_laws.proofs.PrimsAlong.{symbol-id}

abbrev pub item_symbol : Item → Symbol
item_symbol (OneToken x) = symbol_of x.kind x.word
item_symbol _ = symbol.OpenCurly

abbrev pub item_before : Item → Newline
item_before (OneToken x) = x.place.before
item_before (BlockPair o block k) = o.before
item_before (CasesPair o cases k) = o.before
item_before (EnumsPair o enums k) = o.before
item_before (OtherPair o xs k) = o.before

-- the first of some items and of their tokens
pub record First (test : Symbol → Bool) (is : List Item) (xs : List Lexeme) : Type 0 where
  pub item : Item
  pub items : List Item
  pub front : is ≡ item ∷ items
  pub token : Lexeme
  pub rest : List Lexeme
  pub shown : xs ≡ token ∷ rest
  pub begins : test (item_symbol item) ≡ true
  pub before : item_before item ≡ token.place.before
  pub number : is_number (item_symbol item) ≡ is_number_kind token.kind

pub first-newline : {test : Symbol → Bool} {is : List Item} {xs : List Lexeme} (f : First test is xs) → item_before f.item ≡ newline_before xs
first-newline f = f.before ∙ ap newline_before (sym f.shown)

pub front-newline : {test : Symbol → Bool} {is : List Item} (xs ys : List Lexeme) → First test is xs → newline_before (xs ++ ys) ≡ newline_before xs
front-newline xs ys f = ap (λ zs. newline_before (zs ++ ys)) f.shown ∙ ap newline_before (sym f.shown)

first-append : (test : Symbol → Bool) (is js : List Item) (xs ys : List Lexeme) → First test is xs → First test (is ++ js) (xs ++ ys)
first-append test is js xs ys f = record {
  item = f.item;
  items = f.items ++ js;
  front = ap (λ ks. ks ++ js) f.front;
  token = f.token;
  rest = f.rest ++ ys;
  shown = ap (λ zs. zs ++ ys) f.shown;
  begins = f.begins;
  before = f.before;
  number = f.number;
}

one-first : (test : Symbol → Bool) (x : Lexeme) (is : List Item) (xs : List Lexeme) (s : Symbol) → symbol_of x.kind x.word ≡ s → test s ≡ true → is_number s ≡ is_number_kind x.kind
    → First test (OneToken x ∷ is) (x ∷ xs)
one-first test x is xs s e b n = record {
  item = OneToken x;
  items = is;
  front = refl;
  token = x;
  rest = xs;
  shown = refl;
  begins = ap test e ∙ b;
  before = refl;
  number = ap is_number e ∙ n;
}

-- ---- tokens

id-first : (test : Symbol → Bool) (id : Id) (is : List Item) (xs : List Lexeme) → test symbol.Id ≡ true → First test (OneToken (id_token id) ∷ is) (id_token id ∷ xs)
id-first test id is xs t = one-first test (id_token id) is xs symbol.Id (symbol-id id) t (no id.quoted) where
  no : (b : Bool) → false ≡ is_number_kind (if b then kind.BackId else kind.Id)
  no true = refl
  no false = refl

literal-first : (l : Literal) (is : List Item) (xs : List Lexeme) → First begins_prim (OneToken (literal_token l) ∷ is) (literal_token l ∷ xs)
unfolding symbol_of
literal-first (IntLiteral text p) is xs = one-first begins_prim _ is xs symbol.Number refl refl refl
literal-first (LongLiteral text p) is xs = one-first begins_prim _ is xs symbol.Number refl refl refl
literal-first (CharLiteral text p) is xs = one-first begins_prim _ is xs symbol.Literal refl refl refl
literal-first (StringLiteral text p) is xs = one-first begins_prim _ is xs symbol.Literal refl refl refl
literal-first (TrueLiteral p) is xs = one-first begins_prim _ is xs symbol.Literal refl refl refl
literal-first (FalseLiteral p) is xs = one-first begins_prim _ is xs symbol.Literal refl refl refl
literal-first (NullLiteral p) is xs = one-first begins_prim _ is xs symbol.Literal refl refl refl

sign-first : (s : PrefixSign) (is : List Item) (xs : List Lexeme) → First begins_prim (OneToken (sign_token s) ∷ is) (sign_token s ∷ xs)
unfolding symbol_of
sign-first (Plus p) is xs = one-first begins_prim _ is xs symbol.Id refl refl refl
sign-first (Minus p) is xs = one-first begins_prim _ is xs symbol.Id refl refl refl
sign-first (Bang p) is xs = one-first begins_prim _ is xs symbol.Id refl refl refl
sign-first (Tilde p) is xs = one-first begins_prim _ is xs symbol.Id refl refl refl

-- a token whose symbol is known
known : (test : Symbol → Bool) (x : Lexeme) (is : List Item) (xs : List Lexeme) → test (symbol_of x.kind x.word) ≡ true → is_number (symbol_of x.kind x.word) ≡ is_number_kind x.kind
    → First test (OneToken x ∷ is) (x ∷ xs)
known test x is xs t n = one-first test x is xs (symbol_of x.kind x.word) refl t n

-- ---- a Prim

pub prim-first : (d : Prim) → First begins_prim (prim_items d) (prim_tokens d)
unfolding symbol_of
prim-first (LiteralPrim l) = literal-first l _ _
prim-first (MinusPrim p n) = known begins_prim (minus p) _ _ refl refl
prim-first (Placeholder p) = known begins_prim (underscore p) _ _ refl refl
prim-first (ThisPrim p) = known begins_prim (word_at (codes "this") p) _ _ refl refl
prim-first (SuperPrim w p id) = known begins_prim (word_at (codes "super") w) _ _ refl refl
prim-first (NamePrim id) = id-first begins_prim id _ _ refl
prim-first (UnitPrim o k) = known begins_prim (open_round o) _ _ refl refl
prim-first (ExprInParentheses o e k) = known begins_prim (open_round o) _ _ refl refl
prim-first (PairPrim o a p b k) = known begins_prim (open_round o) _ _ refl refl
prim-first (TriplePrim o a p b q c k) = known begins_prim (open_round o) _ _ refl refl
prim-first (BlockPrim o block k) =
    record { item = BlockPair o block k; items = []; front = refl; token = _; rest = _; shown = refl; begins = refl; before = refl; number = refl }
prim-first (CasesPrim o cases k) =
    record { item = CasesPair o cases k; items = []; front = refl; token = _; rest = _; shown = refl; begins = refl; before = refl; number = refl }
prim-first (NewOf w type) = known begins_prim (word_at (codes "new") w) _ _ refl refl
prim-first (NewWith w type args) = known begins_prim (word_at (codes "new") w) _ _ refl refl
prim-first (SelectPrim d p id) = first-append begins_prim (prim_items d) _ (prim_tokens d) _ (prim-first d)
prim-first (SelectHole d p) = first-append begins_prim (prim_items d) _ (prim_tokens d) _ (prim-first d)
prim-first (TypeApplyPrim d o ts k) = first-append begins_prim (prim_items d) _ (prim_tokens d) _ (prim-first d)
prim-first (ApplyPrim d args) = first-append begins_prim (prim_items d) _ (prim_tokens d) _ (prim-first d)
prim-first (EtaPrim d p) = first-append begins_prim (prim_items d) _ (prim_tokens d) _ (prim-first d)

pub prefix-first : (d : Prefix) → First begins_prim (prefix_items d) (prefix_tokens d)
prefix-first (Unsigned d) = prim-first d
prefix-first (Signed s d) = sign-first s _ _

pub infix-first : (d : Infix) → First begins_prim (infix_items d) (infix_tokens d)
infix-first (LastPrefix d) = prefix-first d
infix-first (MorePrefixes d id rest) = first-append begins_prim (prefix_items d) _ (prefix_tokens d) _ (prefix-first d)

-- ---- an expression

prim-is-expr : (s : Symbol) → begins_prim s ≡ true → begins_expr s ≡ true
prim-is-expr (symbol.Word w) e = ap (λ b. b || is_head_word w) e
prim-is-expr _ e = e

lifted : (is : List Item) (xs : List Lexeme) → First begins_prim is xs → First begins_expr is xs
lifted is xs f = record {
  item = f.item;
  items = f.items;
  front = f.front;
  token = f.token;
  rest = f.rest;
  shown = f.shown;
  begins = prim-is-expr (item_symbol f.item) f.begins;
  before = f.before;
  number = f.number;
}

head-first : (h : LamHead) → First begins_expr (tokens (head_tokens h)) (head_tokens h)
unfolding symbol_of
head-first (NamedHead id) = id-first begins_expr id _ _ refl
head-first (WildHead p) = known begins_expr (underscore p) _ _ refl refl
head-first (LParHead o ps k) = known begins_expr (open_round o) _ _ refl refl

pub heading-first : (h : Heading) → First begins_expr (heading_items h) (heading_tokens h)
unfolding symbol_of
heading-first (Lambda h a) = first-append begins_expr (tokens (head_tokens h)) _ (head_tokens h) _ (head-first h)
heading-first (IfThen w o test k) = known begins_expr (word_at (codes "if") w) _ _ refl refl
heading-first (IfElse w o test k body semi other) = known begins_expr (word_at (codes "if") w) _ _ refl refl
heading-first (WhileDo w o test k) = known begins_expr (word_at (codes "while") w) _ _ refl refl
heading-first (TryAlone w) = known begins_expr (word_at (codes "try") w) _ _ refl refl
heading-first (TryFinally w body last) = known begins_expr (word_at (codes "try") w) _ _ refl refl
heading-first (TryCatchFinally w body catch o cases k last) = known begins_expr (word_at (codes "try") w) _ _ refl refl
heading-first (ForRound w o enums k yield) = known begins_expr (word_at (codes "for") w) _ _ refl refl
heading-first (ForCurly w o enums k yield) = known begins_expr (word_at (codes "for") w) _ _ refl refl
heading-first (ThrowOf w) = known begins_expr (word_at (codes "throw") w) _ _ refl refl
heading-first (ReturnOf w) = known begins_expr (word_at (codes "return") w) _ _ refl refl
heading-first (AssignName id sign) = id-first begins_expr id _ _ refl
heading-first (AssignSelect d p id sign) = first-append begins_expr (prim_items d) _ (prim_tokens d) _ (lifted (prim_items d) (prim_tokens d) (prim-first d))
heading-first (AssignApply d args sign) =
    first-append begins_expr (prim_items (ApplyPrim d args)) _ (prim_tokens (ApplyPrim d args)) _ (lifted (prim_items (ApplyPrim d args)) (prim_tokens (ApplyPrim d args)) (prim-first (ApplyPrim d args)))

infix-begins : (d : Infix) → First begins_expr (infix_items d) (infix_tokens d)
infix-begins d = lifted (infix_items d) (infix_tokens d) (infix-first d)

pub expr-first : (e : Expr) → First begins_expr (expr_items e) (expr_tokens e)
unfolding symbol_of
expr-first (Headed h body) = first-append begins_expr (heading_items h) _ (heading_tokens h) _ (heading-first h)
expr-first (DoThenWhile w body sep until o test k) = known begins_expr (word_at (codes "do") w) _ _ refl refl
expr-first (TryCatch w body catch o cases k) = known begins_expr (word_at (codes "try") w) _ _ refl refl
expr-first (ReturnAlone w) = known begins_expr (word_at (codes "return") w) _ _ refl refl
expr-first (InfixExpr d) = infix-begins d
expr-first (TypedExpr d p type) = first-append begins_expr (infix_items d) _ (infix_tokens d) _ (infix-begins d)
expr-first (MatchExpr d w o cases k) = first-append begins_expr (infix_items d) _ (infix_tokens d) _ (infix-begins d)
