-- The reader reads exactly the items of statements: what it read is one, by the law of the kind that the first item says.
use Rattle.std.proofs.Common.{◌≡◌, ◌≤◌, length, Bool, true, false, List, [], ◌∷◌, ◌++◌, map, Option, Some, None, option_map, codes, refl, ap, sym, ◌∙◌}
use Rattle.positioned_trees.specs.Trees.{max_number}
use Rattle.reading_machines.specs.Laws.{ReadsExactly}
use Rattle.reading_machines.specs.Machines.{run, onward}
use Rattle.reading_machines.specs.Parts.{CanBegin}
use Rattle.source_grammar.specs.Definitions.{Import}
use Rattle.source_grammar.specs.Expressions.{WithinExpr, ImportBStat}
use Rattle.source_grammar.specs.ExpressionRules.{Rule, ProperBStat}
use Rattle.source_grammar.specs.ExpressionTrees.{bstat_built}
use Rattle.source_grammar.specs.Lexemes.{Place, Lexeme, word_at}
use Rattle.expr_tails.specs.declared.states.Limit.TheVariants as limit
use Rattle.expr_tails.specs.declared.states.State.{State as ExprState}
use Rattle.expr_steps.specs.Reading as exprs
use Rattle.import_steps.specs.declared.imports.Import.{Import as ImportState}
use Rattle.import_steps.specs.Imports as imports
use Rattle.def_steps.specs.declared.states.State.{State as DefState}
use Rattle.def_steps.specs.Definitions as defs
use Rattle.parse_exprs.specs.declared.statements.Statement.{Statement}
use Rattle.parse_exprs.specs.declared.statements.Statement.TheVariants as statement
use Rattle.parse_exprs.specs.Statements.{stepped, is_whole, built}
use Rattle.expr_laws.specs.Definitions.{ReadDefItem, def_items_of, AreOfDefinition}
use Rattle.expr_laws.specs.Exactly as exactly
use Rattle.expr_laws.specs.Exactly.{picture, InLines, ReadItem, AreOfExpr}
use Rattle.expr_laws.specs.Imports.{ReadImportItem, import_items, import_items_of, import_stepped, AreOfImport, import_reader}
use Rattle.expr_laws.specs.Items.{OneToken, items_tokens}
use Rattle.expr_laws.specs.Newlines.{NewlinesEnd, newlines_end}
use Rattle.expr_laws.specs.Pictures.{built_shown}
use Rattle.expr_laws.proofs.DefsExact as def_proofs
use Rattle.expr_laws.proofs.DefsExact.{one-def, reads-definitions}
use Rattle.expr_laws.proofs.Exactness as expr_proofs
use Rattle.expr_laws.proofs.Exactness.{both-ends, reads-items}
use Rattle.expr_laws.proofs.ImportsExact.{AllLevel, completed-import, given, one-import, reads-import}
use Rattle.expr_laws.proofs.ItemTokens.{items-append}
use Rattle.statement_laws.specs.Statements.{ReadStatement, OfImport, OfDefinition, OfExpr, statement_of, outline, import_outline, import_outlines, AreItemsOf, BehindDot, ReadStatementItem, statement_items, dots_told, AreOfStatement, statements_in_lines}
use Rattle.statement_laws.proofs.Came.{kind_told, expr-items, came, an-expr, a-definition, an-import, import-of}
use Rattle.statement_laws.proofs.Fillers.{all_filled, dots-more, fillers, fillers-told, def-more, expr-more, items-more, token_items, token-tokens, tokens-told, import-more}
use Rattle.statement_laws.proofs.FirstItem.{Kind, AnImport, ADefinition, AnExpr, kind_of, expr-steps, def-steps, import-steps, first-expr, first-definition, first-import, steps_by, lifted, lifted-from}
use Rattle.statement_laws.proofs.ImportItems.{to_import, outlines-same}
use Rattle.statement_laws.proofs.Lines.{to_expr, expr-run, def-run, import-run, plain, line_state, in-lines}

same-some : {A : Type 0} (a b : A) → Some a ≡ Some b → a ≡ b
same-some a b e = cc

place-of : (p q : Place) → OneToken (word_at (codes "import") p) ≡ OneToken (word_at (codes "import") q) → p ≡ q
place-of p q e = (let same : word_at (codes "import") p ≡ word_at (codes "import") q = cc in ap (λ x. x.place) same)

-- what a picture is of
record Shows {A B : Type 0} (f : A → B) (o : Option A) (b : B) : Type 0 where
  state : A
  there : o ≡ Some state
  same : f state ≡ b

shows : {A B : Type 0} (f : A → B) (o : Option A) (b : B) → option_map f o ≡ Some b → Shows f o b
shows f None b e = cc
shows f (Some a) b e = record { state = a; there = refl; same = same-some (f a) b e }

module _ (rule : Rule) where
  -- ---- statements of one kind

  from-expr : (is : List (ReadStatementItem rule)) (js : List (ReadItem rule)) → exactly.items_of rule js ≡ statement_items rule is → AreOfExpr rule js → dots_told rule false is ≡ true → AreOfStatement rule is
  from-expr is js same a d = record {
    derivation = OfExpr a.derivation;
    proper = (a.proper, tt);
    items = sym same ∙ a.items;
    newlines = ap (λ ks. newlines_end true (items_tokens ks)) (sym same) ∙ a.newlines;
    dots = d;
  }

  from-definition : (is : List (ReadStatementItem rule)) (js : List (ReadDefItem rule)) → def_items_of rule js ≡ statement_items rule is → AreOfDefinition rule js → dots_told rule false is ≡ true → AreOfStatement rule is
  from-definition is js same a d = record {
    derivation = OfDefinition a.mods a.def;
    proper = (a.proper_mods, a.proper, tt);
    items = sym same ∙ a.items;
    newlines = ap (λ ks. newlines_end true (items_tokens ks)) (sym same) ∙ a.newlines;
    dots = d;
  }

  from-import : (i : ReadStatementItem rule) (is : List (ReadStatementItem rule)) (word : Place) (js : List ReadImportItem) → i.item.given.item ≡ OneToken (word_at (codes "import") word)
      → map outline (statement_items rule is) ≡ map import_outline (import_items_of js) → AreOfImport word js → NewlinesEnd (items_tokens (statement_items rule (i ∷ is)))
      → dots_told rule false (i ∷ is) ≡ true → AreOfStatement rule (i ∷ is)
  from-import i is word js first same a n d = record {
    derivation = OfImport a.derivation;
    proper = a.proper;
    items = ap (λ j. outline j ∷ map outline (statement_items rule is)) first
        ∙ ap (λ ks. OneToken (word_at (codes "import") word) ∷ ks) (same ∙ ap (map import_outline) a.items)
        ∙ ap (λ w. OneToken (word_at (codes "import") w) ∷ map import_outline (import_items a.derivation)) (sym a.stands);
    newlines = n;
    dots = d;
  }

  -- where an import is read behind its word
  record InImport (i : ReadStatementItem rule) (is : List (ReadStatementItem rule)) (u : Statement) : Type 0 where
    word : Place
    first : i.item.given.item ≡ OneToken (word_at (codes "import") word)
    state : ImportState
    runs : run (import_reader word).step (map (to_import rule) is) (import_reader word).start ≡ Some state
    same : statement.Import state ≡ u

  in-import : (i : ReadStatementItem rule) (is : List (ReadStatementItem rule)) (u : Statement) → kind_of i.item.given.item ≡ AnImport → run (steps_by rule stepped) (i ∷ is) statement.Begin ≡ Some u → InImport i is u
  in-import i is u k r =
      let f = first-import i.item.given k in
      let s = shows statement.Import (run (steps_by rule import_stepped) is (imports.begun f.word.span.start)) u
      (sym (lifted rule statement.Import import_stepped import-steps is (imports.begun f.word.span.start)) ∙ ap (λ o. onward o None (run (steps_by rule stepped) is)) (sym f.steps) ∙ r) in
      record { word = f.word; first = f.first; state = s.state; runs = import-run rule f.word is (imports.begun f.word.span.start) ∙ s.there; same = s.same }

  in-expr : (i : ReadStatementItem rule) (is : List (ReadStatementItem rule)) (u : Statement) → kind_of i.item.given.item ≡ AnExpr → run (steps_by rule stepped) (i ∷ is) statement.Begin ≡ Some u
      → Shows statement.Expr (run (steps_by rule exprs.stepped) (i ∷ is) (exprs.begun limit.Expr)) u
  in-expr i is u k r = shows statement.Expr _ u (sym (lifted-from rule statement.Expr exprs.stepped expr-steps i is (exprs.begun limit.Expr) (first-expr i.item.given k)) ∙ r)

  in-definition : (i : ReadStatementItem rule) (is : List (ReadStatementItem rule)) (u : Statement) → kind_of i.item.given.item ≡ ADefinition → run (steps_by rule stepped) (i ∷ is) statement.Begin ≡ Some u
      → Shows statement.Definition (run (steps_by rule defs.stepped) (i ∷ is) defs.begun) u
  in-definition i is u k r = shows statement.Definition _ u (sym (lifted-from rule statement.Definition defs.stepped def-steps i is defs.begun (first-definition i.item.given k)) ∙ r)

  module _ (empty : rule WithinExpr false [] []) where
    -- ---- complete, with its tree

    complete : (is : List (ReadStatementItem rule)) → AreOfStatement rule is
        → (t : InLines (BehindDot Statement)) × (run (statements_in_lines rule).step is (statements_in_lines rule).start ≡ Some t) × ((statements_in_lines rule).whole t ≡ true)
    complete is a = (let c = came rule empty is a in (line_state rule is c.state, in-lines rule is c.state a.newlines a.dots c.runs, c.whole))

    pub tree : (is : List (ReadStatementItem rule)) (a : AreOfStatement rule is) (s : InLines (BehindDot Statement)) → length (items_tokens (statement_items rule is)) ≤ max_number
        → run (statements_in_lines rule).step is (statements_in_lines rule).start ≡ Some s → map built_shown (bstat_built (statement_of a.derivation)) ≡ built s.state.state ∷ []
    tree is a s few r =
        let c = came rule empty is a in
        let there : c.state ≡ s.state.state = same-some c.state s.state.state (sym c.runs ∙ (plain rule is s r).runs) in
        c.tree few ∙ ap (λ u. built u ∷ []) there

    -- ---- one derivation

    pub one : (is : List (ReadStatementItem rule)) (a b : AreOfStatement rule is) → a.derivation ≡ b.derivation
    one is a b =
        go a.derivation b.derivation a.proper b.proper a.items b.items (sym (came rule empty is a).begins ∙ (came rule empty is b).begins)
      where
        words : (js : List (ReadStatementItem rule)) (d e : Import) → ProperBStat rule WithinExpr (ImportBStat d) → ProperBStat rule WithinExpr (ImportBStat e)
            → map outline (statement_items rule js) ≡ import_outlines d → map outline (statement_items rule js) ≡ import_outlines e → dots_told rule false js ≡ true → d ≡ e
        words [] d e p q same there t = cc
        words (j ∷ js) d e p q same there t =
            let m = an-import rule empty j js d p same t in
            let n = an-import rule empty j js e q there t in
            let word : e.word ≡ d.word = place-of e.word d.word (sym n.first ∙ m.first) in
            one-import d.word (map (to_import rule) js) (import-of rule empty j js d.word d p m refl) (import-of rule empty j js d.word e q n word)

        go : (d e : ReadStatement) → ProperBStat rule WithinExpr (statement_of d) → ProperBStat rule WithinExpr (statement_of e) → AreItemsOf d (statement_items rule is) → AreItemsOf e (statement_items rule is)
            → kind_told d ≡ kind_told e → d ≡ e
        go (OfImport d) (OfImport e) p q same there k = ap OfImport (words is d e p q same there a.dots)
        go (OfDefinition m d) (OfDefinition n e) p q same there k =
            (let both = one-def rule (map (λ i. i.item) is) (a-definition rule empty is m d p.0 p.1 same a.newlines) (a-definition rule empty is n e q.0 q.1 there a.newlines) in
            ap (λ w. OfDefinition w d) both.mods ∙ ap (λ f. OfDefinition n f) both.def)
        go (OfExpr d) (OfExpr e) p q same there k =
            ap OfExpr (expr_proofs.one rule (map (to_expr rule) is) (an-expr rule empty is d p.0 same a.newlines) (an-expr rule empty is e q.0 there a.newlines))
        go (OfImport d) (OfDefinition n e) p q same there k = cc
        go (OfImport d) (OfExpr e) p q same there k = cc
        go (OfDefinition m d) (OfImport e) p q same there k = cc
        go (OfDefinition m d) (OfExpr e) p q same there k = cc
        go (OfExpr d) (OfImport e) p q same there k = cc
        go (OfExpr d) (OfDefinition n e) p q same there k = cc

    -- ---- sound

    sound : (is : List (ReadStatementItem rule)) (t : InLines (BehindDot Statement)) → run (statements_in_lines rule).step is (statements_in_lines rule).start ≡ Some t
        → (statements_in_lines rule).whole t ≡ true → AreOfStatement rule is
    sound [] t r w =
        (let at : Some statement.Begin ≡ Some t.state.state = (plain rule [] t r).runs in
        let no : false ≡ true = ap is_whole (same-some statement.Begin t.state.state at) ∙ w in
        cc)
    sound (i ∷ is) t r w = (let p = plain rule (i ∷ is) t r in go (kind_of i.item.given.item) refl p.newlines p.dots p.runs) where
      go : (k : Kind) → kind_of i.item.given.item ≡ k → NewlinesEnd (items_tokens (statement_items rule (i ∷ is))) → dots_told rule false (i ∷ is) ≡ true
          → run (steps_by rule stepped) (i ∷ is) statement.Begin ≡ Some t.state.state → AreOfStatement rule (i ∷ is)
      go AnImport k n d e =
          (let s = in-import i is t.state.state k e in
          from-import i is s.word (map (to_import rule) is) s.first (outlines-same rule is) ((reads-import s.word).sound (map (to_import rule) is) s.state s.runs (ap is_whole s.same ∙ w)) n d)
      go ADefinition k n d e =
          (let s = in-definition i is t.state.state k e in
          from-definition (i ∷ is) (map (λ j. j.item) (i ∷ is)) refl
          ((reads-definitions rule empty).sound (map (λ j. j.item) (i ∷ is)) _ (def-run rule (i ∷ is) defs.begun s.state n s.there) (ap is_whole s.same ∙ w)) d)
      go AnExpr k n d e =
          (let s = in-expr i is t.state.state k e in
          from-expr (i ∷ is) (map (to_expr rule) (i ∷ is)) (expr-items rule (i ∷ is))
          ((reads-items rule empty).sound (map (to_expr rule) (i ∷ is)) _ (expr-run rule (i ∷ is) (exprs.begun limit.Expr) s.state n s.there) (ap is_whole s.same ∙ w)) d)

    -- ---- alive

    alive-expr : (is : List (ReadStatementItem rule)) (s : ExprState) → run (steps_by rule exprs.stepped) is (exprs.begun limit.Expr) ≡ Some s → NewlinesEnd (items_tokens (statement_items rule is))
        → dots_told rule false is ≡ true → CanBegin (AreOfStatement rule) is
    alive-expr is s r n d =
        let c = expr_proofs.completed-lines rule empty (map (to_expr rule) is) _ (expr-run rule is (exprs.begun limit.Expr) s n r) in
        let more : List (ReadStatementItem rule) = fillers rule empty (all_filled c.fillers) in
        record {
          others = more;
          part = from-expr (is ++ more) (map (to_expr rule) is ++ expr_proofs.others rule empty c.fillers) (expr-more rule empty is c.fillers) c.part
              (dots-more rule is more false d (fillers-told rule empty (all_filled c.fillers)));
        }

    alive-definition : (is : List (ReadStatementItem rule)) (s : DefState) → run (steps_by rule defs.stepped) is defs.begun ≡ Some s → NewlinesEnd (items_tokens (statement_items rule is))
        → dots_told rule false is ≡ true → CanBegin (AreOfStatement rule) is
    alive-definition is s r n d =
        let c = def_proofs.completed-lines rule empty (map (λ i. i.item) is) _ (def-run rule is defs.begun s n r) in
        let more : List (ReadStatementItem rule) = fillers rule empty c.fillers in
        record {
          others = more;
          part = from-definition (is ++ more) (map (λ i. i.item) is ++ def_proofs.others rule empty c.fillers) (def-more rule empty is c.fillers) c.part
              (dots-more rule is more false d (fillers-told rule empty c.fillers));
        }

    -- the tokens with which an import ends
    tokens-end : (is : List (ReadStatementItem rule)) (xs : List Lexeme) (l : AllLevel xs) → NewlinesEnd (items_tokens (statement_items rule is)) → ((ended : Bool) → newlines_end ended xs ≡ true)
        → NewlinesEnd (items_tokens (statement_items rule (is ++ token_items rule xs l)))
    tokens-end is xs l n h =
        ap (λ js. newlines_end true (items_tokens js)) (items-more rule is (token_items rule xs l)) ∙ ap (newlines_end true) (items-append (statement_items rule is) (statement_items rule (token_items rule xs l)))
        ∙ both-ends true (items_tokens (statement_items rule is)) _ n (ap (newlines_end _) (token-tokens rule xs l) ∙ h _)

    alive-import : (i : ReadStatementItem rule) (is : List (ReadStatementItem rule)) (u : Statement) → InImport i is u → NewlinesEnd (items_tokens (statement_items rule (i ∷ is)))
        → dots_told rule false (i ∷ is) ≡ true → CanBegin (AreOfStatement rule) (i ∷ is)
    alive-import i is u s n d =
        let c = completed-import s.word (map (to_import rule) is) s.state s.runs in
        let more : List (ReadStatementItem rule) = token_items rule c.others c.level in
        record {
          others = more;
          part = from-import i (is ++ more) s.word (map (to_import rule) is ++ given c.others) s.first (import-more rule is c.others c.level) c.part
              (tokens-end (i ∷ is) c.others c.level n c.lines) (dots-more rule (i ∷ is) more false d (tokens-told rule c.others c.level));
        }

    alive : (is : List (ReadStatementItem rule)) (t : InLines (BehindDot Statement)) → run (statements_in_lines rule).step is (statements_in_lines rule).start ≡ Some t → CanBegin (AreOfStatement rule) is
    alive [] t r = alive-expr [] (exprs.begun limit.Expr) refl refl refl
    alive (i ∷ is) t r = (let p = plain rule (i ∷ is) t r in go (kind_of i.item.given.item) refl p.newlines p.dots p.runs) where
      go : (k : Kind) → kind_of i.item.given.item ≡ k → NewlinesEnd (items_tokens (statement_items rule (i ∷ is))) → dots_told rule false (i ∷ is) ≡ true
          → run (steps_by rule stepped) (i ∷ is) statement.Begin ≡ Some t.state.state → CanBegin (AreOfStatement rule) (i ∷ is)
      go AnImport k n d e = alive-import i is t.state.state (in-import i is t.state.state k e) n d
      go ADefinition k n d e = (let s = in-definition i is t.state.state k e in alive-definition (i ∷ is) s.state s.there n d)
      go AnExpr k n d e = (let s = in-expr i is t.state.state k e in alive-expr (i ∷ is) s.state s.there n d)

    pub reads-statements : ReadsExactly (AreOfStatement rule) (statements_in_lines rule)
    reads-statements = record { complete = complete; sound = sound; alive = alive }
