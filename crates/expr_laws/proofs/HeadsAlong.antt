-- The items of a heading lead to where its head stands, and those of `do` and of `try` with its cases to where these ended.
use Rattle.std.proofs.Common.{◌≡◌, Bool, true, false, ◌&&◌, ◌||◌, if◌then◌else◌, List, [], ◌∷◌, ◌++◌, Option, Some, None, codes, refl, ap, sym, ◌∙◌, append_assoc}
use Rattle.std.specs.Prelude.{not}
use Rattle.scan_tokens.specs.declared.tokens.Newline.{Newline}
use Rattle.scan_tokens.specs.declared.tokens.Newline.TheVariants.{No}
use Rattle.scan_tokens.specs.declared.tokens.TokenKind.TheVariants as kind
use Rattle.source_grammar.specs.Brackets.{has_newline}
use Rattle.source_grammar.specs.Expressions.{LamHead, Sep, Expr, Headed, DoThenWhile, TryCatch, Heading, Lambda, IfThen, IfElse, WhileDo, TryAlone, TryFinally, TryCatchFinally, ThrowOf, ReturnOf, AssignName, AssignSelect, AssignApply, Prim, SelectPrim, Args, Cases}
use Rattle.source_grammar.specs.ExpressionRules as rules
use Rattle.source_grammar.specs.ExpressionRules.{is_prefix_id, extends_type, is_called}
use Rattle.source_grammar.specs.ExpressionTokens.{sep_tokens, optional_semicolon, expr_tokens}
use Rattle.source_grammar.specs.Lexemes.{Place, word_at, open_round, close_round, semicolon, dot, equals, Arrow, Id, id_token}
use Rattle.source_grammar.specs.Newlines.{newline_before}
use Rattle.parse_patterns.specs.Steps.{is_no}
use Rattle.expr_tails.specs.declared.states.Limit.TheVariants as limit
use Rattle.expr_tails.specs.declared.symbols.Symbol.{Symbol}
use Rattle.expr_tails.specs.declared.symbols.Symbol.TheVariants as symbol
use Rattle.expr_tails.specs.declared.symbols.Word.TheVariants as word
use Rattle.expr_tails.specs.Symbols.{symbol_of, begins_expr}
use Rattle.expr_laws.proofs.Behind.{newline-no, or-right}
use Rattle.expr_laws.proofs.BodiesAlong.{return-begins}
use Rattle.expr_laws.proofs.CallsAlong.{ArgsEnd, call-leads}
use Rattle.expr_laws.proofs.Derived.{Item, OneToken, CasesPair, Tail, AtSign, AtName, AtPrim, AtCall, AtDot, AtSemi, AtReturn, AtCatch, AtCaught, AtUntil, AtEnded, Head, Of, DoHead, Context, Frame, State, innermost, is_some, takes_else, state, in_state, with_head, named_tail, equals_at, decided_at, step}
use Rattle.expr_laws.proofs.FirstItems.{item_symbol, item_before, first-newline, expr-first}
use Rattle.expr_laws.proofs.FramesAlong.{if-along, while-along, until-along}
use Rattle.expr_laws.proofs.GroupsAlong.{ExprEnds, PrimEnds}
use Rattle.expr_laws.proofs.InfixAlong.{parts, first-step}
use Rattle.expr_laws.proofs.Items.{tokens, expr_items, heading_items, prim_items, args_items}
use Rattle.expr_laws.proofs.LambdaHeads.{head-along}
use Rattle.expr_laws.proofs.Moving.{Leads, leads-none, leads-then, leads-on, leads-one, leads-as, leads-from}
use Rattle.expr_laws.proofs.PrimsAlong.{dot-step, id-behind}
use Rattle.expr_laws.proofs.Seen.{AnEquals, AWord, seen-equals, seen-word}
use Rattle.expr_laws.proofs.Settling.{settled_tail, settled, Ends, ended-step, semicolon-step}
use Rattle.expr_laws.proofs.SpineAlong.{heads_of, last_of, ExprRead, end_of, else-takes, operand-last, no-finally, finally-last}
use Rattle.expr_laws.proofs.TokenSteps.{begin-step, id-begins}
use Rattle.expr_laws.proofs.TypesAlong.{dot-out}
use Rattle.expr_laws.proofs.WordsAlong.{start, else-ends, catch-ends, finally-ends, end-some, end-there, before-is, else-moved, catch-moved, finally-moved, while-moved, quiet-word, word-step, semi-first, semi-before-else, semi, word-behind-semi, waiting-seps}

-- ---- headings

-- these items lead to where their head stands
pub record HeadRead (h : Heading) (hs : List Head) : Type 0 where
  pub leads : (fs : List Frame) → Leads (heading_items h) (state fs (start hs)) (state fs (start (Of h ∷ hs)))

pub headed-along : (h : Heading) (body : Expr) (hs : List Head) → HeadRead h hs → ExprRead body (Of h ∷ hs) → ExprRead (Headed h body) hs
headed-along h body hs k r = record {
  operations = r.operations;
  sign = r.sign;
  tail = r.tail;
  leads = λ fs. leads-then (heading_items h) _ _ (state fs (start (Of h ∷ hs))) _ (k.leads fs) (r.leads fs);
  there = r.there;
}

pub lambda-read : (h : LamHead) (a : Arrow) (hs : List Head) → HeadRead (Lambda h a) hs
lambda-read h a hs = record { leads = λ fs. head-along h a fs (start hs) refl }

pub if-read : (w o k : Place) (test : Expr) (hs : List Head) → ExprEnds test → HeadRead (IfThen w o test k) hs
if-read w o k test hs r = record { leads = λ fs. if-along w o k test r fs (start hs) refl }

pub while-read : (w o k : Place) (test : Expr) (hs : List Head) → ExprEnds test → HeadRead (WhileDo w o test k) hs
while-read w o k test hs r = record { leads = λ fs. while-along w o k test r fs (start hs) refl }

-- ---- the words that are a head

pub try-begins : (w : Place) (hs : List Head) (fs : List Frame) → step (state fs (start hs)) (OneToken (word_at (codes "try") w)) ≡ Some (state fs (start (Of (TryAlone w) ∷ hs)))
try-begins w hs fs = begin-step (word_at (codes "try") w) (AWord word.Try w) (seen-word word.Try w) fs (start hs)

pub try-read : (w : Place) (hs : List Head) → HeadRead (TryAlone w) hs
try-read w hs = record { leads = λ fs. leads-one (OneToken (word_at (codes "try") w)) _ _ (try-begins w hs fs) }

pub throw-read : (w : Place) (hs : List Head) → HeadRead (ThrowOf w) hs
throw-read w hs = record { leads = λ fs. leads-one (OneToken (word_at (codes "throw") w)) _ _ (begin-step (word_at (codes "throw") w) (AWord word.Throw w) (seen-word word.Throw w) fs (start hs)) }

do-begins : (w : Place) (hs : List Head) (fs : List Frame) → step (state fs (start hs)) (OneToken (word_at (codes "do") w)) ≡ Some (state fs (start (DoHead w ∷ hs)))
do-begins w hs fs = begin-step (word_at (codes "do") w) (AWord word.Do w) (seen-word word.Do w) fs (start hs)

-- ---- `if` with `else`

else-at : (w o k p : Place) (test first : Expr) (hs : List Head) (fs : List Frame) → rules.takes_else first ≡ false → (r : ExprRead first (Of (IfThen w o test k) ∷ hs))
    → step (state fs (end_of r)) (OneToken (word_at (codes "else") p)) ≡ Some (state fs (start (Of (IfElse w o test k first None p) ∷ hs)))
else-at w o k p test first hs fs t r =
    ended-step (word_at (codes "else") p) (AWord word.Else p) (else-ends p) fs (end_of r) (end-some r)
    ∙ else-moved w o k p test first None hs r.operations r.sign (settled_tail r.tail) fs [] t (before-is (settled (end_of r)) (settled_tail r.tail) (last_of first) (end-there r)) refl

semi-at : (w o k q : Place) (test first : Expr) (hs : List Head) (fs : List Frame) (r : ExprRead first (Of (IfThen w o test k) ∷ hs))
    → takes_else (heads_of first (Of (IfThen w o test k) ∷ hs)) ≡ true
    → step (state fs (end_of r)) (OneToken (semicolon q)) ≡ Some (state fs (semi (heads_of first (Of (IfThen w o test k) ∷ hs)) (last_of first) q []))
semi-at w o k q test first hs fs r takes =
    let there = semi-first q true (end_of r) (settled_tail r.tail) (last_of first) (end-there r) refl in
    let here = semi-first q false (end_of r) (settled_tail r.tail) (last_of first) (end-there r) refl in
    semicolon-step q fs (end_of r) (end-some r)
    ∙ ap (in_state fs) (semi-before-else q fs (settled (end_of r)) (Some (semi (heads_of first (Of (IfThen w o test k) ∷ hs)) (last_of first) q [])) there here takes)

else-behind : (w o k p : Place) (test first : Expr) (s : Option Place) (hs : List Head) (fs : List Frame) → rules.takes_else first ≡ false → ExprRead first (Of (IfThen w o test k) ∷ hs)
    → Leads ((expr_items first ++ tokens (optional_semicolon s)) ++ OneToken (word_at (codes "else") p) ∷ []) (state fs (start (Of (IfThen w o test k) ∷ hs))) (state fs (start (Of (IfElse w o test k first s p) ∷ hs)))
else-behind w o k p test first None hs fs t r =
    leads-then (expr_items first ++ []) _ _ (state fs (end_of r)) _ (leads-then (expr_items first) [] _ (state fs (end_of r)) _ (r.leads fs) (leads-none _))
    (leads-one (OneToken (word_at (codes "else") p)) _ _ (else-at w o k p test first hs fs t r))
else-behind w o k p test first (Some q) hs fs t r =
    let heads : List Head = Of (IfThen w o test k) ∷ hs in
    leads-then (expr_items first ++ OneToken (semicolon q) ∷ []) _ _ (state fs (semi (heads_of first heads) (last_of first) q [])) _
    (leads-then (expr_items first) _ _ (state fs (end_of r)) _ (r.leads fs) (leads-one (OneToken (semicolon q)) _ _ (semi-at w o k q test first hs fs r (else-takes first heads refl))))
    (leads-one (OneToken (word_at (codes "else") p)) _ _
    (word-behind-semi word.Else p (heads_of first heads) (last_of first) q [] fs
    ∙ else-moved w o k p test first (Some q) hs [] None (AtSemi (last_of first) q []) fs (q ∷ []) t refl refl))

pub else-read : (w o k p : Place) (test first : Expr) (s : Option Place) (hs : List Head) → rules.takes_else first ≡ false → ExprEnds test → ExprRead first (Of (IfThen w o test k) ∷ hs)
    → HeadRead (IfElse w o test k first s p) hs
else-read w o k p test first s hs t e r = record {
  leads = λ fs.
      leads-as (heading_items (IfThen w o test k) ++ ((expr_items first ++ tokens (optional_semicolon s)) ++ OneToken (word_at (codes "else") p) ∷ [])) _ _ _
      (ap (λ is. OneToken (word_at (codes "if") w) ∷ OneToken (open_round o) ∷ is)
      (append_assoc (expr_items test) (OneToken (close_round k) ∷ []) ((expr_items first ++ tokens (optional_semicolon s)) ++ OneToken (word_at (codes "else") p) ∷ [])))
      (leads-then (heading_items (IfThen w o test k)) _ _ (state fs (start (Of (IfThen w o test k) ∷ hs))) _ (if-along w o k test e fs (start hs) refl)
      (else-behind w o k p test first s hs fs t r));
}

-- ---- `try`

catch-at : (w p : Place) (body : Expr) (hs : List Head) (fs : List Frame) → rules.takes_catch body ≡ false → (r : ExprRead body (Of (TryAlone w) ∷ hs))
    → step (state fs (end_of r)) (OneToken (word_at (codes "catch") p)) ≡ Some (state fs (parts hs [] None limit.Expr (AtCatch w body p)))
catch-at w p body hs fs t r =
    ended-step (word_at (codes "catch") p) (AWord word.Catch p) (catch-ends p) fs (end_of r) (end-some r)
    ∙ catch-moved w p body hs r.operations r.sign (settled_tail r.tail) fs t (end-there r)

caught-leads : (w p o k : Place) (body : Expr) (cases : Cases) (hs : List Head) (fs : List Frame) → rules.takes_catch body ≡ false → ExprRead body (Of (TryAlone w) ∷ hs)
    → (rest : List Item) (t : State) → Leads rest (state fs (parts hs [] None limit.Expr (AtCaught w body p o cases k))) t
    → Leads (OneToken (word_at (codes "try") w) ∷ (expr_items body ++ OneToken (word_at (codes "catch") p) ∷ CasesPair o cases k ∷ rest)) (state fs (start hs)) t
caught-leads w p o k body cases hs fs n r rest t k_leads =
    leads-on (OneToken (word_at (codes "try") w)) _ _ (state fs (start (Of (TryAlone w) ∷ hs))) _ (try-begins w hs fs)
    (leads-then (expr_items body) _ _ (state fs (end_of r)) _ (r.leads fs)
    (leads-on (OneToken (word_at (codes "catch") p)) _ _ (state fs (parts hs [] None limit.Expr (AtCatch w body p))) _ (catch-at w p body hs fs n r)
    (leads-on (CasesPair o cases k) _ _ (state fs (parts hs [] None limit.Expr (AtCaught w body p o cases k))) _ refl k_leads)))

pub catch-along : (w p o k : Place) (body : Expr) (cases : Cases) (hs : List Head) → rules.takes_catch body ≡ false → ExprRead body (Of (TryAlone w) ∷ hs) → ExprRead (TryCatch w body p o cases k) hs
catch-along w p o k body cases hs n r = record {
  operations = [];
  sign = None;
  tail = AtCaught w body p o cases k;
  leads = λ fs. caught-leads w p o k body cases hs fs n r [] _ (leads-none _);
  there = refl;
}

pub catch-finally-read : (w p o k q : Place) (body : Expr) (cases : Cases) (hs : List Head) → rules.takes_catch body ≡ false → ExprRead body (Of (TryAlone w) ∷ hs)
    → HeadRead (TryCatchFinally w body p o cases k q) hs
catch-finally-read w p o k q body cases hs n r = record {
  leads = λ fs. caught-leads w p o k body cases hs fs n r (OneToken (word_at (codes "finally") q) ∷ []) _
      (leads-one (OneToken (word_at (codes "finally") q)) _ _
      (ended-step (word_at (codes "finally") q) (AWord word.Finally q) (finally-ends q) fs (parts hs [] None limit.Expr (AtCaught w body p o cases k)) refl));
}

pub finally-read : (w q : Place) (body : Expr) (hs : List Head) → rules.takes_finally body ≡ false → ExprRead body (Of (TryAlone w) ∷ hs) → HeadRead (TryFinally w body q) hs
finally-read w q body hs n r = record {
  leads = λ fs.
      leads-on (OneToken (word_at (codes "try") w)) _ _ (state fs (start (Of (TryAlone w) ∷ hs))) _ (try-begins w hs fs)
      (leads-then (expr_items body) _ _ (state fs (end_of r)) _ (r.leads fs)
      (leads-one (OneToken (word_at (codes "finally") q)) _ _
      (ended-step (word_at (codes "finally") q) (AWord word.Finally q) (finally-ends q) fs (end_of r) (end-some r)
      ∙ finally-moved w q body hs r.operations r.sign (settled_tail r.tail) fs (no-finally body n) (finally-last body n) (end-there r))));
}

-- ---- `do`

pub while-symbol : symbol_of kind.Word (codes "while") ≡ symbol.Word word.While
unfolding symbol_of
while-symbol = refl

while-at : (w p : Place) (body : Expr) (hs : List Head) (fs : List Frame) → (not (rules.takes_operand body) || has_newline p.before) ≡ true → (r : ExprRead body (DoHead w ∷ hs))
    → step (state fs (end_of r)) (OneToken (word_at (codes "while") p)) ≡ Some (state fs (parts hs [] None limit.Expr (AtUntil w body [] p)))
while-at w p body hs fs a r =
    word-step word.While p fs (end_of r) while-symbol (λ t e. refl) (end-some r)
    (quiet-word word.While p.before r.tail r.operations r.sign (last_of body) refl r.there
    (λ t. newline-no p.before (or-right (rules.takes_operand body) (has_newline p.before) a (sym (operand-last body) ∙ t))))
    ∙ while-moved w p body hs r.operations r.sign (settled_tail r.tail) fs [] (before-is (settled (end_of r)) (settled_tail r.tail) (last_of body) (end-there r))

do-body : (w p : Place) (body : Expr) (sep : Sep) (hs : List Head) (fs : List Frame) → (not (rules.takes_operand body) || rules.is_apart sep p) ≡ true → ExprRead body (DoHead w ∷ hs)
    → (rest : List Item) (t : State) → Leads rest (state fs (parts hs [] None limit.Expr (AtUntil w body sep p))) t
    → Leads ((expr_items body ++ tokens (sep_tokens sep)) ++ OneToken (word_at (codes "while") p) ∷ rest) (state fs (start (DoHead w ∷ hs))) t
do-body w p body [] hs fs a r rest t k =
    leads-then (expr_items body ++ []) _ _ (state fs (end_of r)) _ (leads-then (expr_items body) [] _ (state fs (end_of r)) _ (r.leads fs) (leads-none _))
    (leads-on (OneToken (word_at (codes "while") p)) _ _ (state fs (parts hs [] None limit.Expr (AtUntil w body [] p))) _ (while-at w p body hs fs a r) k)
do-body w p body (q ∷ qs) hs fs a r rest t k =
    let heads : List Head = heads_of body (DoHead w ∷ hs) in
    leads-then (expr_items body ++ tokens (sep_tokens (q ∷ qs))) _ _ (state fs (semi heads (last_of body) q qs)) _
    (leads-then (expr_items body) _ _ (state fs (end_of r)) _ (r.leads fs) (waiting-seps q qs body (DoHead w ∷ hs) fs r refl))
    (leads-on (OneToken (word_at (codes "while") p)) _ _ (state fs (parts hs [] None limit.Expr (AtUntil w body (q ∷ qs) p))) _
    (word-behind-semi word.While p heads (last_of body) q qs fs
    ∙ while-moved w p body hs [] None (AtSemi (last_of body) q qs) fs (q ∷ qs) refl) k)

pub do-along : (w p o k : Place) (body test : Expr) (sep : Sep) (hs : List Head) → (not (rules.takes_operand body) || rules.is_apart sep p) ≡ true → ExprRead body (DoHead w ∷ hs) → ExprEnds test
    → ExprRead (DoThenWhile w body sep p o test k) hs
do-along w p o k body test sep hs a r e = record {
  operations = [];
  sign = None;
  tail = AtEnded (DoThenWhile w body sep p o test k);
  leads = λ fs.
      leads-on (OneToken (word_at (codes "do") w)) _ _ (state fs (start (DoHead w ∷ hs))) _ (do-begins w hs fs)
      (do-body w p body sep hs fs a r _ _ (until-along w p o k body sep test e fs (start hs)));
  there = refl;
}

-- ---- `return` with its operand

return-decides : (w : Place) (hs : List Head) (k : Symbol) (n : Newline) → n ≡ No → begins_expr k ≡ true
    → decided_at (AtReturn w) (parts hs [] None limit.Expr (AtReturn w)) k n ≡ start (Of (ReturnOf w) ∷ hs)
return-decides w hs k n e b =
    let c : Context = parts hs [] None limit.Expr (AtReturn w) in
    ap (λ x. if is_no x && begins_expr k then with_head c (Of (ReturnOf w)) else c) e ∙ ap (λ x. if x then with_head c (Of (ReturnOf w)) else c) b

pub return-of-along : (w : Place) (body : Expr) (hs : List Head) → newline_before (expr_tokens body) ≡ No → ExprRead body (Of (ReturnOf w) ∷ hs) → ExprRead (Headed (ReturnOf w) body) hs
return-of-along w body hs n r =
    let f = expr-first body in
    let inner = start (Of (ReturnOf w) ∷ hs) in
    record {
      operations = r.operations;
      sign = r.sign;
      tail = r.tail;
      leads = λ fs.
          leads-on (OneToken (word_at (codes "return") w)) _ _ (state fs (parts hs [] None limit.Expr (AtReturn w))) _ (return-begins w hs fs)
          (leads-as (f.item ∷ f.items) (expr_items body) _ _ (sym f.front)
          (leads-from f.item f.items (state fs (parts hs [] None limit.Expr (AtReturn w))) (state fs inner) (state fs (end_of r))
          (first-step (AtReturn w) (parts hs [] None limit.Expr (AtReturn w)) inner f.item fs (λ x. refl) (return-decides w hs (item_symbol f.item) (item_before f.item) (first-newline f ∙ n) f.begins))
          (leads-as (expr_items body) (f.item ∷ f.items) _ _ f.front (r.leads fs))));
      there = r.there;
    }

-- ---- assignments

pub equals-ends : (p : Place) → Ends (equals p) (AnEquals p)
unfolding symbol_of
equals-ends p = record {
  kind = symbol.Equals;
  is = refl;
  sees = seen-equals p;
  no_id = refl;
  no_prim = refl;
  no_expr = refl;
  no_pattern = refl;
  no_type = λ t e. refl;
}

equals-step : (p : Place) (s : Tail) (hs : List Head) (fs : List Frame) → is_some (innermost (parts hs [] None limit.Expr s)) ≡ true
    → step (state fs (parts hs [] None limit.Expr s)) (OneToken (equals p)) ≡ in_state fs (equals_at p (settled_tail s) (parts hs [] None limit.Expr (settled_tail s)))
equals-step p s hs fs h = ended-step (equals p) (AnEquals p) (equals-ends p) fs (parts hs [] None limit.Expr s) h

pub assign-name-read : (id : Id) (p : Place) (hs : List Head) → HeadRead (AssignName id p) hs
assign-name-read id p hs = record {
  leads = λ fs. leads-on (OneToken (id_token id)) _ _ (state fs (parts hs [] None limit.Expr (named_tail id))) _ (id-begins id fs (start hs) refl) (leads-one (OneToken (equals p)) _ _ (go fs (is_prefix_id id)));
}
  where
    go : (fs : List Frame) (b : Bool) → step (state fs (parts hs [] None limit.Expr (if b then AtSign id else AtName id false))) (OneToken (equals p)) ≡ Some (state fs (start (Of (AssignName id p) ∷ hs)))
    go fs true = equals-step p (AtSign id) hs fs refl
    go fs false = equals-step p (AtName id false) hs fs refl

-- with the tails that the parts end at
pub assign-select-read : (d : Prim) (q : Place) (id : Id) (p : Place) (hs : List Head) → extends_type d ≡ false → PrimEnds (prim_items d) d (start hs) → HeadRead (AssignSelect d q id p) hs
assign-select-read d q id p hs x r = record {
  leads = λ fs.
      leads-then (prim_items d) _ _ (state fs (parts hs [] None limit.Expr r.tail)) _ (r.leads fs)
      (leads-on (OneToken (dot q)) _ _ (state fs (parts hs [] None limit.Expr (AtDot d q))) _ (dot-step r.tail d q fs (start hs) r.there (dot-out r.tail d q r.there x) refl)
      (leads-on (OneToken (id_token id)) _ _ (state fs (parts hs [] None limit.Expr (AtPrim (SelectPrim d q id)))) _ (id-behind id fs (start hs) d q)
      (leads-one (OneToken (equals p)) _ _ (equals-step p (AtPrim (SelectPrim d q id)) hs fs refl))));
}

pub assign-apply-read : (d : Prim) (a : Args) (p : Place) (hs : List Head) → is_called d a ≡ true → ArgsEnd a → PrimEnds (prim_items d) d (start hs) → HeadRead (AssignApply d a p) hs
assign-apply-read d a p hs k n r = record {
  leads = λ fs.
      leads-then (prim_items d ++ args_items a) _ _ (state fs (parts hs [] None limit.Expr (AtCall d a))) _ (call-leads d a (start hs) refl k n r fs)
      (leads-one (OneToken (equals p)) _ _ (equals-step p (AtCall d a) hs fs refl));
}
