-- A comma and a closing parenthesis, the reader as the machine, where the bracket is not that of generators.
use Rattle.std.proofs.Common.{◌≡◌, ℕ, nat_lt, nat_le, Bool, true, false, ◌&&◌, ◌||◌, if◌then◌else◌, List, [], ◌∷◌, ◌++◌, length, map, Option, Some, None, option_map, codes, refl, ap, sym, ◌∙◌, append_assoc, append-nil}
use Rattle.pc_terms.specs.declared.problems.Span.{Span}
use Rattle.pc_terms.specs.declared.tree_kinds.TreeKind.TheVariants as kind
use Rattle.positioned_trees.specs.declared.trees.Tree.{Tree}
use Rattle.source_grammar.specs.Expressions.{Sep, Expr, DoThenWhile, Prim, NewWith, ApplyPrim, Args, NoArgs, ExprArgs, ExprList, LastExpr, MoreExprs, IfThen, WhileDo}
use Rattle.source_grammar.specs.ExpressionTokens.{sep_tokens, expr_tokens, prim_tokens, args_tokens, expr_list_tokens}
use Rattle.source_grammar.specs.ExpressionTrees.{expr_built, prim_built, args_built, expr_list_built}
use Rattle.source_grammar.specs.Lexemes.{Place, Lexeme, word_at, open_round, close_round}
use Rattle.source_grammar.specs.Placeholders.{trees_of, free_of}
use Rattle.source_grammar.specs.Spans.{from_to, end_behind, span_of}
use Rattle.source_grammar.specs.Types.{WrittenType, type_tokens, type_tree}
use Rattle.parse_parts.specs.Built.{joined}
use Rattle.parse_parts.specs.Reading.{is_nil}
use Rattle.parse_parts.proofs.Kept.{kept, kept_all, joined-kept}
use Rattle.parse_parts.proofs.Shown.{end-behind}
use Rattle.parse_patterns.proofs.Chains.{start-append, span-is}
use Rattle.tree_lower.specs.Keeping.{places_shown}
use Rattle.tree_lower.specs.Lowering.{unlabelled}
use Rattle.tree_lower.proofs.KeptTrees.{unlabelled-kept}
use Rattle.expr_tails.specs.declared.states.Bracket.TheVariants as bracket
use Rattle.expr_tails.specs.declared.states.Context.{Context}
use Rattle.expr_tails.specs.declared.states.Element.{Element}
use Rattle.expr_tails.specs.declared.states.Form.TheVariants as form
use Rattle.expr_tails.specs.declared.states.Limit.TheVariants as limit
use Rattle.expr_tails.specs.declared.states.Tail.TheVariants as tail
use Rattle.expr_tails.specs.declared.states.State.{State}
use Rattle.expr_tails.specs.Ending.{at_tail, fresh, is_expr}
use Rattle.expr_tails.specs.Tails.{from_start}
use Rattle.expr_frames.specs.declared.frames.Args.{Args as ReadArgs}
use Rattle.expr_frames.specs.Frames as spec
use Rattle.expr_laws.proofs.Agreeing.{expr-shown}
use Rattle.expr_laws.proofs.Beginning.{prim-begins, places-append}
use Rattle.expr_laws.proofs.Decided.{behind-head}
use Rattle.expr_laws.proofs.Derived as derived
use Rattle.expr_laws.proofs.Elements.{IsElement, element-there, element-tested, done-length}
use Rattle.expr_laws.proofs.Fitting.{Fits}
use Rattle.expr_laws.proofs.Headed.{one-free}
use Rattle.expr_laws.proofs.Innermost.{expr-there}
use Rattle.expr_laws.proofs.Shown.{prim_piece, ended_piece, element_shown, done_elements, operations_shown, operations_free, sign_shown, free_in, heads_shown, context_with, context_shown, done_trees, done_free, bracket_shown, bracket_start, bracket_free, frame_shown, shown}
use Rattle.parse_parts.specs.declared.built.Kids.{Kids}

-- ---- an argument more

pub arg-there : (kids : List Tree) (outer : derived.Context) (free : List Span) (c : derived.Context) (e : Expr) → Fits c → derived.ended_expr c ≡ Some e
    → spec.with_arg (kept_all kids) (context_with outer free tail.Begin) (context_shown c)
    ≡ record { kids = kept_all (kids ++ (expr_built e).tree ∷ []); outer = context_with outer (free ++ free_in (expr_built e)) tail.Begin }
arg-there kids outer free c e f g =
    ap (λ r. to (joined (kept_all kids) r.operand.tall) ((operations_free outer.operations ++ free) ++ r.free)) (expr-there c e f g)
    ∙ ap (λ k. to k ((operations_free outer.operations ++ free) ++ free_in (expr_built e))) (joined-kept kids (expr_built e).tree)
    ∙ ap (to (kept_all (kids ++ (expr_built e).tree ∷ []))) (append_assoc (operations_free outer.operations) free (free_in (expr_built e)))
  where
    to : Option Kids → List Span → ReadArgs
    to k places = record {
      kids = k;
      outer = record { heads = heads_shown outer.heads; free = places; operations = operations_shown outer.operations; sign = sign_shown outer.sign; tail = tail.Begin; limit = outer.limit };
    }

-- ---- behind a comma

abbrev reads_on : derived.Bracket → derived.Context → List derived.Frame → derived.Context → Option State
reads_on b outer fs c =
    if is_expr (context_shown c) && spec.has_room (bracket_shown b) (context_shown c)
    then Some (spec.parted_in (frame_shown (derived.frame b outer)) (map frame_shown fs) (context_shown c)) else None

parted-group : (o : Place) (done : List derived.DoneElement) (may : Bool) (outer : derived.Context) (fs : List derived.Frame) (c : derived.Context) (p : Place) → Fits c
    → reads_on (derived.GroupBracket o done may) outer fs c ≡ option_map shown (derived.parted_group p o done may (derived.element_at c) outer fs)
parted-group o done may outer fs c p f =
    ap (λ b. if b && room then Some next else None) (element-tested c) ∙ go (derived.element_at c) refl
  where
    room : Bool
    room = nat_lt (length (done_elements done)) 2 || (may && spec.is_param (context_shown c))

    to : Element → Bool → ℕ → State
    to el param n = record {
      frames = record { bracket = bracket.Group (done_elements done ++ el ∷ []) (may && param); start = o.span.start; outer = context_with outer [] tail.Begin } ∷ map frame_shown fs;
      context = fresh (if nat_le 3 n then limit.Param else limit.Expr);
    }

    next : State
    next = to (spec.element_at (context_shown c)) (spec.is_param (context_shown c)) (length (done_elements done ++ spec.element_at (context_shown c) ∷ []))

    go : (v : Option derived.Element) → derived.element_at c ≡ v
        → (if derived.is_some v && room then Some next else None) ≡ option_map shown (derived.parted_group p o done may v outer fs)
    go None g = refl
    go (Some e) g =
        ap (λ n. if nat_lt n 2 || (may && spec.is_param (context_shown c)) then Some next else None) (done-length done)
        ∙ ap (λ b. if nat_lt (length done) 2 || (may && b) then Some next else None) there.tested
        ∙ ap (λ s. if nat_lt (length done) 2 || (may && derived.is_param e) then Some s else None)
        (ap (λ el. to el (spec.is_param (context_shown c)) (length (done_elements done ++ el ∷ []))) there.shown
        ∙ ap (λ b. to (element_shown e) b (length (done_elements done ++ element_shown e ∷ []))) there.tested
        ∙ ap (to (element_shown e) (derived.is_param e)) (done-length (record { element = e; place = p } ∷ done)))
        ∙ by (nat_lt (length done) 2 || (may && derived.is_param e))
      where
        there : IsElement c e
        there = element-there c e f g

        more : List derived.DoneElement
        more = record { element = e; place = p } ∷ done

        by : (r : Bool) → (if r then Some (to (element_shown e) (derived.is_param e) (length more)) else None)
            ≡ option_map shown (if r then Some (derived.state (derived.frame (derived.GroupBracket o more (may && derived.is_param e)) outer ∷ fs) (derived.fresh (derived.limit_behind more))) else None)
        by true = refl
        by false = refl

parted-args : (prim : Prim) (o : Place) (done : List derived.DoneExpr) (outer : derived.Context) (fs : List derived.Frame) (c : derived.Context) (p : Place) → Fits c
    → reads_on (derived.ArgsBracket prim o done) outer fs c ≡ option_map shown (derived.parted_args p (derived.ArgsBracket prim o) done (derived.ended_expr c) outer fs)
parted-args prim o done outer fs c p f =
    ap (λ b. if b && true then Some (to read) else None) (expr-shown c) ∙ go (derived.ended_expr c) refl
  where
    read : ReadArgs
    read = spec.with_arg (kept_all (done_trees done)) (context_with outer (free_in (prim_built prim) ++ done_free done) tail.Begin) (context_shown c)

    to : ReadArgs → State
    to a = record {
      frames = record { bracket = bracket.Args (kept (prim_built prim).tree) a.kids true; start = (span_of (prim_tokens prim)).start; outer = a.outer } ∷ map frame_shown fs;
      context = fresh limit.Expr;
    }

    go : (v : Option Expr) → derived.ended_expr c ≡ v
        → (if derived.is_some v && true then Some (to read) else None) ≡ option_map shown (derived.parted_args p (derived.ArgsBracket prim o) done v outer fs)
    go None g = refl
    go (Some e) g =
        ap (λ a. Some (to a)) (arg-there (done_trees done) outer (free_in (prim_built prim) ++ done_free done) c e f g)
        ∙ ap (λ free. Some (to (record { kids = kept_all (done_trees done ++ (expr_built e).tree ∷ []); outer = context_with outer free tail.Begin })))
        (append_assoc (free_in (prim_built prim)) (done_free done) (free_in (expr_built e)))

parted-new : (word : Place) (type : WrittenType) (o : Place) (done : List derived.DoneExpr) (outer : derived.Context) (fs : List derived.Frame) (c : derived.Context) (p : Place) → Fits c
    → reads_on (derived.NewArgsBracket word type o done) outer fs c ≡ option_map shown (derived.parted_args p (derived.NewArgsBracket word type o) done (derived.ended_expr c) outer fs)
parted-new word type o done outer fs c p f =
    ap (λ b. if b && true then Some (to read) else None) (expr-shown c) ∙ go (derived.ended_expr c) refl
  where
    read : ReadArgs
    read = spec.with_arg (kept_all (type_tree type ∷ done_trees done)) (context_with outer (done_free done) tail.Begin) (context_shown c)

    to : ReadArgs → State
    to a = record {
      frames = record { bracket = bracket.NewArgs a.kids true; start = word.span.start; outer = a.outer } ∷ map frame_shown fs;
      context = fresh limit.Expr;
    }

    go : (v : Option Expr) → derived.ended_expr c ≡ v
        → (if derived.is_some v && true then Some (to read) else None) ≡ option_map shown (derived.parted_args p (derived.NewArgsBracket word type o) done v outer fs)
    go None g = refl
    go (Some e) g = ap (λ a. Some (to a)) (arg-there (type_tree type ∷ done_trees done) outer (done_free done) c e f g)

-- in other brackets no comma stands
parted-none : (s : State) (b : Bool) → (if b && false then Some s else None) ≡ None
parted-none s true = refl
parted-none s false = refl

parted-at : (b : derived.Bracket) (outer : derived.Context) (fs : List derived.Frame) (c : derived.Context) (p : Place) → Fits c
    → reads_on b outer fs c ≡ option_map shown (derived.parted_in p b c outer fs)
parted-at (derived.GroupBracket o done may) outer fs c p f = parted-group o done may outer fs c p f
parted-at (derived.ArgsBracket prim o done) outer fs c p f = parted-args prim o done outer fs c p f
parted-at (derived.NewArgsBracket word type o done) outer fs c p f = parted-new word type o done outer fs c p f
parted-at _ outer fs c p f = parted-none _ (is_expr (context_shown c))

pub parted-same : (fs : List derived.Frame) (c : derived.Context) (p : Place) → Fits c
    → spec.parted (map frame_shown fs) (context_shown c) ≡ option_map shown (derived.parted p fs c)
parted-same [] c p f = refl
parted-same (g ∷ fs) c p f = parted-at g.bracket g.outer fs c p f

-- ---- arguments that are whole

listed-trees : (done : List derived.DoneExpr) (es : ExprList) → trees_of (expr_list_built (derived.listed done es)) ≡ done_trees done ++ trees_of (expr_list_built es)
listed-trees [] es = refl
listed-trees (d ∷ done) es =
    listed-trees done (MoreExprs d.expr d.place es) ∙ sym (append_assoc (done_trees done) ((expr_built d.expr).tree ∷ []) (trees_of (expr_list_built es)))

listed-free : (done : List derived.DoneExpr) (es : ExprList) → places_shown (free_of (expr_list_built (derived.listed done es))) ≡ done_free done ++ places_shown (free_of (expr_list_built es))
listed-free [] es = refl
listed-free (d ∷ done) es =
    listed-free done (MoreExprs d.expr d.place es)
    ∙ ap (λ f. done_free done ++ f) (places-append (expr_built d.expr).free (free_of (expr_list_built es)))
    ∙ sym (append_assoc (done_free done) (free_in (expr_built d.expr)) (places_shown (free_of (expr_list_built es))))

abbrev args_of : Place → List derived.DoneExpr → Expr → Place → Args
args_of o done e p = ExprArgs o (derived.listed done (LastExpr e)) p

args-trees : (o : Place) (done : List derived.DoneExpr) (e : Expr) (p : Place) → done_trees done ++ (expr_built e).tree ∷ [] ≡ trees_of (args_built (args_of o done e p))
args-trees o done e p = sym (listed-trees done (LastExpr e))

args-free : (o : Place) (done : List derived.DoneExpr) (e : Expr) (p : Place) → done_free done ++ free_in (expr_built e) ≡ places_shown (free_of (args_built (args_of o done e p)))
args-free o done e p =
    ap (λ ps. done_free done ++ places_shown ps) (sym (append-nil (expr_built e).free)) ∙ sym (listed-free done (LastExpr e))

-- the last token of arguments in parentheses
args-end : (end : ℕ) (o : Place) (done : List derived.DoneExpr) (e : Expr) (p : Place) → end_behind end (args_tokens (args_of o done e p)) ≡ p.span.end
args-end end o done e p = end-behind o.span.end (expr_list_tokens (derived.listed done (LastExpr e))) (close_round p) []

call-span : (prim : Prim) (args : Args) (o p : Place) (rest : List Lexeme) → args_tokens args ≡ open_round o ∷ rest → end_behind o.span.end rest ≡ p.span.end
    → from_start (span_of (prim_tokens prim)).start p.span.end ≡ span_of (prim_tokens (ApplyPrim prim args))
call-span prim args o p rest a e =
    sym (ap (λ ts. span_of (prim_tokens prim ++ ts)) a
    ∙ span-is (prim_tokens prim ++ open_round o ∷ rest) (span_of (prim_tokens prim)).start p.span.end (start-append (prim_tokens prim) (open_round o ∷ rest) (prim-begins prim))
    (end-behind 0 (prim_tokens prim) (open_round o) rest ∙ e))

new-span : (word : Place) (type : WrittenType) (args : Args) (o p : Place) (rest : List Lexeme) → args_tokens args ≡ open_round o ∷ rest → end_behind o.span.end rest ≡ p.span.end
    → from_start word.span.start p.span.end ≡ span_of (prim_tokens (NewWith word type args))
new-span word type args o p rest a e =
    ap (from_start word.span.start) (sym (ap (λ ts. end_behind word.span.end (type_tokens type ++ ts)) a ∙ end-behind word.span.end (type_tokens type) (open_round o) rest ∙ e))

-- behind `new T` and its arguments
new-there : (outer : derived.Context) (word : Place) (type : WrittenType) (args : Args) (p : Place) (kids : List Tree) (free : List Span)
    → from_start word.span.start p.span.end ≡ span_of (prim_tokens (NewWith word type args)) → kids ≡ trees_of (args_built args) → free ≡ places_shown (free_of (args_built args))
    → context_with outer free (tail.AtPrim (record {
      tall = unlabelled kind.New (from_start word.span.start p.span.end) (kept_all (type_tree type ∷ kids));
      span = from_start word.span.start p.span.end;
    }) form.Plain)
    ≡ context_shown (derived.at outer (derived.AtPrim (NewWith word type args)))
new-there outer word type args p kids free s k e =
    let span = span_of (prim_tokens (NewWith word type args)) in
    ap (λ n. context_with outer free (tail.AtPrim (record { tall = unlabelled kind.New n (kept_all (type_tree type ∷ kids)); span = n }) form.Plain)) s
    ∙ ap (λ ts. context_with outer free (tail.AtPrim (record { tall = unlabelled kind.New span (kept_all (type_tree type ∷ ts)); span = span }) form.Plain)) k
    ∙ ap (λ t. context_with outer free (tail.AtPrim (record { tall = t; span = span }) form.Plain)) (unlabelled-kept kind.New span (type_tree type ∷ trees_of (args_built args)))
    ∙ ap (λ places. context_with outer places (tail.AtPrim (prim_piece (NewWith word type args)) form.Plain)) e

-- behind a receiver and its arguments
call-there : (outer : derived.Context) (prim : Prim) (args : Args) (p : Place) (kids : List Tree) (free : List Span)
    → from_start (span_of (prim_tokens prim)).start p.span.end ≡ span_of (prim_tokens (ApplyPrim prim args)) → kids ≡ trees_of (args_built args)
    → free ≡ free_in (prim_built prim) ++ places_shown (free_of (args_built args))
    → context_with outer free (tail.AtCall (record { span = from_start (span_of (prim_tokens prim)).start p.span.end; receiver = kept (prim_built prim).tree; args = kept_all kids }))
    ≡ context_shown (derived.at outer (derived.AtCall prim args))
call-there outer prim args p kids free s k e =
    ap (λ n. context_with outer free (tail.AtCall (record { span = n; receiver = kept (prim_built prim).tree; args = kept_all kids }))) s
    ∙ ap (λ ts. context_with outer free (tail.AtCall (record { span = span_of (prim_tokens (ApplyPrim prim args)); receiver = kept (prim_built prim).tree; args = kept_all ts }))) k
    ∙ ap (λ places. context_with outer places (tail.AtCall (record { span = span_of (prim_tokens (ApplyPrim prim args)); receiver = kept (prim_built prim).tree; args = kept_all (trees_of (args_built args)) }))) e

-- ---- brackets in which nothing stands

not-nil : {A : Type 0} (xs : List A) (x : A) → is_nil (xs ++ x ∷ []) ≡ false
not-nil [] x = refl
not-nil (y ∷ xs) x = refl

abbrev pub empties : derived.Bracket → derived.Context → Place → Option Context
empties b outer p =
    if spec.may_be_empty (bracket_shown b) && true
    then Some (spec.closed_list (bracket_shown b) (from_start (bracket_start b) p.span.end) (context_with outer (bracket_free b) tail.Begin)) else None

pub emptied-same : (b : derived.Bracket) (outer : derived.Context) (p : Place) → empties b outer p ≡ option_map context_shown (derived.emptied b p outer)
emptied-same (derived.GroupBracket o [] may) outer p = refl
emptied-same (derived.GroupBracket o (d ∷ done) may) outer p =
    ap (λ b. if b && true then Some (spec.closed_list (bracket_shown (derived.GroupBracket o (d ∷ done) may)) (from_start o.span.start p.span.end) (context_with outer [] tail.Begin)) else None)
    (not-nil (done_elements done) (element_shown d.element))
emptied-same (derived.ArgsBracket prim o []) outer p =
    ap Some (call-there outer prim (NoArgs o p) p [] (free_in (prim_built prim) ++ []) (call-span prim (NoArgs o p) o p (close_round p ∷ []) refl refl) refl refl)
emptied-same (derived.ArgsBracket prim o (d ∷ done)) outer p = refl
emptied-same (derived.NewArgsBracket word type o []) outer p =
    ap Some (new-there outer word type (NoArgs o p) p [] [] (new-span word type (NoArgs o p) o p (close_round p ∷ []) refl refl) refl refl)
emptied-same (derived.NewArgsBracket word type o (d ∷ done)) outer p = refl
emptied-same _ outer p = refl

-- ---- brackets in which something stands

abbrev pub closes : derived.Bracket → derived.Context → derived.Context → Place → Option Context
closes b outer c p =
    if is_expr (context_shown c)
    then Some (spec.closed_in (bracket_shown b) (from_start (bracket_start b) p.span.end) (context_with outer (bracket_free b) tail.Begin) (context_shown c)) else None

-- what an expression in a bracket leads to
by-expr : (c : derived.Context) (next : Context) (to : Option Expr → Option derived.Context) → to None ≡ None
    → ((e : Expr) → derived.ended_expr c ≡ Some e → Some next ≡ option_map context_shown (to (Some e)))
    → (if is_expr (context_shown c) then Some next else None) ≡ option_map context_shown (to (derived.ended_expr c))
by-expr c next to none some = ap (λ b. if b then Some next else None) (expr-shown c) ∙ go (derived.ended_expr c) refl where
  go : (v : Option Expr) → derived.ended_expr c ≡ v → (if derived.is_some v then Some next else None) ≡ option_map context_shown (to v)
  go None g = ap (option_map context_shown) (sym none)
  go (Some e) g = some e g

pub closed-group : (o : Place) (done : List derived.DoneElement) (may : Bool) (outer c : derived.Context) (p : Place) → Fits c
    → closes (derived.GroupBracket o done may) outer c p ≡ option_map context_shown (derived.closed_group o done may (derived.element_at c) p outer)
closed-group o done may outer c p f =
    ap (λ b. if b then Some (to (spec.element_at (context_shown c)) (spec.is_param (context_shown c))) else None) (element-tested c) ∙ go (derived.element_at c) refl
  where
    to : Element → Bool → Context
    to el param = context_with outer [] (tail.AtGroup (record { span = from_to o.span p.span; elements = done_elements done ++ el ∷ []; may_be_head = may && param }))

    go : (v : Option derived.Element) → derived.element_at c ≡ v
        → (if derived.is_some v then Some (to (spec.element_at (context_shown c)) (spec.is_param (context_shown c))) else None)
        ≡ option_map context_shown (derived.closed_group o done may v p outer)
    go None g = refl
    go (Some e) g =
        (let there = element-there c e f g in
        ap (λ el. Some (to el (spec.is_param (context_shown c)))) there.shown ∙ ap (λ b. Some (to (element_shown e) b)) there.tested)

pub closed-args : (prim : Prim) (o : Place) (done : List derived.DoneExpr) (outer c : derived.Context) (p : Place) → Fits c
    → closes (derived.ArgsBracket prim o done) outer c p ≡ option_map context_shown (derived.closed_args (derived.AtCall prim) o done (derived.ended_expr c) p outer)
closed-args prim o done outer c p f = by-expr c _ (λ v. derived.closed_args (derived.AtCall prim) o done v p outer) refl there where
  to : ReadArgs → Context
  to a = at_tail a.outer (tail.AtCall (record { span = from_start (span_of (prim_tokens prim)).start p.span.end; receiver = kept (prim_built prim).tree; args = a.kids }))

  there : (e : Expr) → derived.ended_expr c ≡ Some e
      → Some (to (spec.with_arg (kept_all (done_trees done)) (context_with outer (free_in (prim_built prim) ++ done_free done) tail.Begin) (context_shown c)))
      ≡ Some (context_shown (derived.at outer (derived.AtCall prim (args_of o done e p))))
  there e g =
      ap (λ a. Some (to a)) (arg-there (done_trees done) outer (free_in (prim_built prim) ++ done_free done) c e f g)
      ∙ ap Some (call-there outer prim (args_of o done e p) p _ _ (call-span prim (args_of o done e p) o p _ refl (args-end o.span.end o done e p)) (args-trees o done e p)
      (append_assoc (free_in (prim_built prim)) (done_free done) (free_in (expr_built e)) ∙ ap (λ ps. free_in (prim_built prim) ++ ps) (args-free o done e p)))

pub closed-new : (word : Place) (type : WrittenType) (o : Place) (done : List derived.DoneExpr) (outer c : derived.Context) (p : Place) → Fits c
    → closes (derived.NewArgsBracket word type o done) outer c p
    ≡ option_map context_shown (derived.closed_args (λ args. derived.AtPrim (NewWith word type args)) o done (derived.ended_expr c) p outer)
closed-new word type o done outer c p f = by-expr c _ (λ v. derived.closed_args (λ args. derived.AtPrim (NewWith word type args)) o done v p outer) refl there where
  to : ReadArgs → Context
  to a = at_tail a.outer (tail.AtPrim (record { tall = unlabelled kind.New (from_start word.span.start p.span.end) a.kids; span = from_start word.span.start p.span.end }) form.Plain)

  there : (e : Expr) → derived.ended_expr c ≡ Some e
      → Some (to (spec.with_arg (kept_all (type_tree type ∷ done_trees done)) (context_with outer (done_free done) tail.Begin) (context_shown c)))
      ≡ Some (context_shown (derived.at outer (derived.AtPrim (NewWith word type (args_of o done e p)))))
  there e g =
      ap (λ a. Some (to a)) (arg-there (type_tree type ∷ done_trees done) outer (done_free done) c e f g)
      ∙ ap Some (new-there outer word type (args_of o done e p) p _ _ (new-span word type (args_of o done e p) o p _ refl (args-end o.span.end o done e p)) (args-trees o done e p) (args-free o done e p))

do-span : (word : Place) (body : Expr) (sep : Sep) (until o : Place) (test : Expr) (p : Place)
    → from_start word.span.start p.span.end ≡ span_of (expr_tokens (DoThenWhile word body sep until o test p))
do-span word body sep until o test p =
    let rest = open_round o ∷ (expr_tokens test ++ close_round p ∷ []) in
    ap (from_start word.span.start)
    (sym (end-behind word.span.end (expr_tokens body ++ sep_tokens sep) (word_at (codes "while") until) rest
    ∙ end-behind o.span.end (expr_tokens test) (close_round p) []))

pub closed-do : (word : Place) (body : Expr) (sep : Sep) (until o : Place) (outer c : derived.Context) (p : Place) → Fits c
    → closes (derived.DoTest word body sep until o) outer c p
    ≡ option_map context_shown (derived.behind_until outer (λ test. DoThenWhile word body sep until o test p) (derived.ended_expr c))
closed-do word body sep until o outer c p f = by-expr c _ (λ v. derived.behind_until outer (λ test. DoThenWhile word body sep until o test p) v) refl there where
  to : ReadArgs → Context
  to a = at_tail a.outer (tail.AtEnded (record { tall = unlabelled kind.DoWhile (from_start word.span.start p.span.end) a.kids; span = from_start word.span.start p.span.end }))

  there : (e : Expr) → derived.ended_expr c ≡ Some e
      → Some (to (spec.with_arg (kept_all ((expr_built body).tree ∷ [])) (context_with outer (free_in (expr_built body)) tail.Begin) (context_shown c)))
      ≡ Some (context_shown (derived.at outer (derived.AtEnded (DoThenWhile word body sep until o e p))))
  there e g =
      let whole : Expr = DoThenWhile word body sep until o e p in
      let trees = (expr_built body).tree ∷ (expr_built e).tree ∷ [] in
      let free = free_in (expr_built body) ++ free_in (expr_built e) in
      let span = span_of (expr_tokens whole) in
      ap (λ a. Some (to a)) (arg-there ((expr_built body).tree ∷ []) outer (free_in (expr_built body)) c e f g)
      ∙ ap (λ n. Some (context_with outer free (tail.AtEnded (record { tall = unlabelled kind.DoWhile n (kept_all trees); span = n })))) (do-span word body sep until o e p)
      ∙ ap (λ t. Some (context_with outer free (tail.AtEnded (record { tall = t; span = span })))) (unlabelled-kept kind.DoWhile span trees)
      ∙ ap (λ places. Some (context_with outer places (tail.AtEnded (ended_piece whole)))) (one-free (expr_built body).free (expr_built e).free)

pub closed-if : (word o : Place) (outer c : derived.Context) (p : Place) → Fits c → outer.operations ≡ []
    → closes (derived.IfTest word o) outer c p ≡ option_map context_shown (derived.behind_test outer (λ test. derived.Of (IfThen word o test p)) (derived.ended_expr c))
closed-if word o outer c p f none = by-expr c _ (λ v. derived.behind_test outer (λ test. derived.Of (IfThen word o test p)) v) refl
    (λ e g. ap (λ a. Some (spec.behind_if (from_start word.span.start p.span.end) a)) (arg-there [] outer [] c e f g)
    ∙ ap Some (behind-head outer (derived.Of (IfThen word o e p)) (free_in (expr_built e)) tail.Begin none refl))

pub closed-while : (word o : Place) (outer c : derived.Context) (p : Place) → Fits c → outer.operations ≡ []
    → closes (derived.WhileTest word o) outer c p ≡ option_map context_shown (derived.behind_test outer (λ test. derived.Of (WhileDo word o test p)) (derived.ended_expr c))
closed-while word o outer c p f none = by-expr c _ (λ v. derived.behind_test outer (λ test. derived.Of (WhileDo word o test p)) v) refl
    (λ e g. ap (λ a. Some (spec.behind_while (from_start word.span.start p.span.end) a)) (arg-there [] outer [] c e f g)
    ∙ ap Some (behind-head outer (derived.Of (WhileDo word o e p)) (free_in (expr_built e)) tail.Begin none refl))
