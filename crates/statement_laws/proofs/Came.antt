-- Each statement is read from its items, with its tree, and its first item says of which kind it is.
use Rattle.std.proofs.Common.{◌≡◌, ◌≤◌, length, true, false, List, [], ◌∷◌, ◌++◌, map, Option, Some, None, option_map, codes, refl, ap, sym, ◌∙◌}
use Rattle.positioned_trees.specs.Trees.{max_number}
use Rattle.reading_machines.specs.Machines.{run, onward}
use Rattle.source_grammar.specs.Definitions.{Import, ProperMods, ProperImport}
use Rattle.source_grammar.specs.Expressions.{WithinExpr, Expr, Def}
use Rattle.source_grammar.specs.ExpressionRules.{Rule, ProperExpr, ProperDef, ProperBStat}
use Rattle.source_grammar.specs.ExpressionTokens.{def_tokens}
use Rattle.source_grammar.specs.ExpressionTrees.{bstat_built}
use Rattle.source_grammar.specs.Lexemes.{Place, word_at}
use Rattle.expr_tails.specs.declared.states.Limit.TheVariants as limit
use Rattle.expr_steps.specs.Reading as exprs
use Rattle.expr_steps.specs.Reading.{Item as Picture, is_read, built_at}
use Rattle.import_steps.specs.Imports as imports
use Rattle.def_steps.specs.Definitions as defs
use Rattle.def_steps.specs.Definitions.{is_definition, definition_at}
use Rattle.parse_exprs.specs.declared.statements.Statement.{Statement}
use Rattle.parse_exprs.specs.declared.statements.Statement.TheVariants as statement
use Rattle.parse_exprs.specs.Statements.{stepped, is_whole, built}
use Rattle.expr_laws.specs.Definitions.{ReadMods, mods_of, mods_items, def_items, AreOfDefinition}
use Rattle.expr_laws.specs.Exactly as exactly
use Rattle.expr_laws.specs.Exactly.{Given, picture, InLines, AreOfExpr}
use Rattle.expr_laws.specs.Imports.{import_items, import_items_of, import_stepped, AreOfImport}
use Rattle.expr_laws.specs.Items.{OneToken, items_tokens, expr_items}
use Rattle.expr_laws.specs.Newlines.{NewlinesEnd, newlines_end}
use Rattle.expr_laws.specs.Pictures.{built_shown}
use Rattle.expr_laws.proofs.DefsExact.{def-tree, reads-definitions}
use Rattle.expr_laws.proofs.Exactness as expr_proofs
use Rattle.expr_laws.proofs.Exactness.{reads-items, tree}
use Rattle.expr_laws.proofs.ImportsExact.{import-built, reads-import}
use Rattle.statement_laws.specs.Statements.{ReadStatement, OfImport, OfDefinition, OfExpr, statement_of, outline, import_outlines, AreItemsOf, ReadStatementItem, statement_items, is_dot, dots_told, AreOfStatement}
use Rattle.statement_laws.proofs.FirstItem.{Kind, AnImport, ADefinition, AnExpr, kind_of, is-expr, is-definition, expr-steps, def-steps, import-steps, first-expr, first-definition, import-kind, import-begins, steps_by, lifted, lifted-from}
use Rattle.statement_laws.proofs.ImportItems.{to_import, import-behind, is-token, matched, heads}
use Rattle.statement_laws.proofs.Lines.{to_expr, expr-back, def-back, import-run}

abbrev pub kind_told : ReadStatement → Kind
kind_told (OfImport i) = AnImport
kind_told (OfDefinition mods def) = ADefinition
kind_told (OfExpr expr) = AnExpr

module _ (rule : Rule) where
  abbrev pub begins_as : List (ReadStatementItem rule) → Kind
  begins_as [] = AnExpr
  begins_as (i ∷ is) = kind_of i.item.given.item

  pub expr-items : (is : List (ReadStatementItem rule)) → exactly.items_of rule (map (to_expr rule) is) ≡ statement_items rule is
  expr-items [] = refl
  expr-items (i ∷ is) = ap (λ js. i.item.given.item ∷ js) (expr-items is)

  -- where the reader comes with the items of a statement
  pub record Came (is : List (ReadStatementItem rule)) (d : ReadStatement) : Type 0 where
    pub state : Statement
    pub runs : run (steps_by rule stepped) is statement.Begin ≡ Some state
    pub whole : is_whole state ≡ true
    pub begins : begins_as is ≡ kind_told d
    pub tree : length (items_tokens (statement_items rule is)) ≤ max_number → map built_shown (bstat_built (statement_of d)) ≡ built state ∷ []

  -- the first step of a run
  record First {A : Type 0} (o : Option A) : Type 0 where
    state : A
    there : o ≡ Some state

  first-step : {A : Type 0} (f : A → Picture → Option A) (i : ReadStatementItem rule) (is : List (ReadStatementItem rule)) (s t : A) → run (steps_by rule f) (i ∷ is) s ≡ Some t → First (f s (picture i.item.given))
  first-step {A} f i is s t e = go (f s (picture i.item.given)) e where
    go : (o : Option A) → onward o None (run (steps_by rule f) is) ≡ Some t → First o
    go None h = cc
    go (Some u) h = record { state = u; there = refl }

  module _ (empty : rule WithinExpr false [] []) where
    came-expr : (is : List (ReadStatementItem rule)) (a : AreOfExpr rule (map (to_expr rule) is)) → Came is (OfExpr a.derivation)
    came-expr [] a =
        let c = (reads-items rule empty).complete [] a in
        let same : (exactly.reader_in_lines rule).start ≡ c.0 = (let e : Some (exactly.reader_in_lines rule).start ≡ Some c.0 = c.1 in cc) in
        let no : false ≡ true = ap (λ t. is_read t.state) same ∙ c.2 in cc
    came-expr (i ∷ is) a =
        let c = (reads-items rule empty).complete (map (to_expr rule) (i ∷ is)) a in
        let runs : run (steps_by rule exprs.stepped) (i ∷ is) (exprs.begun limit.Expr) ≡ Some c.0.state = expr-back rule (i ∷ is) (exprs.begun limit.Expr) c.0 c.1 in
        let first = first-step exprs.stepped i is (exprs.begun limit.Expr) c.0.state runs in
        let kind : kind_of i.item.given.item ≡ AnExpr = is-expr i.item.given first.state first.there in
        record {
          state = statement.Expr c.0.state;
          runs = lifted-from rule statement.Expr exprs.stepped expr-steps i is (exprs.begun limit.Expr) (first-expr i.item.given kind) ∙ ap (option_map statement.Expr) runs;
          whole = c.2;
          begins = kind;
          tree = λ few. ap (λ b. b ∷ []) (sym (expr_proofs.tree rule (map (to_expr rule) (i ∷ is)) a c.0 c.1));
        }

    came-definition : (is : List (ReadStatementItem rule)) (a : AreOfDefinition rule (map (λ i. i.item) is)) → Came is (OfDefinition a.mods a.def)
    came-definition [] a =
        let c = (reads-definitions rule empty).complete [] a in
        let no : false ≡ true = (let e : Some (record { ended = true; state = defs.begun }) ≡ Some c.0 = c.1 in let same : record { ended = true; state = defs.begun } ≡ c.0 = cc in ap (λ t. is_definition t.state) same) ∙ c.2 in cc
    came-definition (i ∷ is) a =
        let c = (reads-definitions rule empty).complete (map (λ j. j.item) (i ∷ is)) a in
        let runs : run (steps_by rule defs.stepped) (i ∷ is) defs.begun ≡ Some c.0.state = def-back rule (i ∷ is) defs.begun c.0 c.1 in
        let first = first-step defs.stepped i is defs.begun c.0.state runs in
        let kind : kind_of i.item.given.item ≡ ADefinition = is-definition i.item.given first.state first.there in
        record {
          state = statement.Definition c.0.state;
          runs = lifted-from rule statement.Definition defs.stepped def-steps i is defs.begun (first-definition i.item.given kind) ∙ ap (option_map statement.Definition) runs;
          whole = c.2;
          begins = kind;
          tree = λ few. ap (λ b. b ∷ []) (sym (def-tree rule (map (λ j. j.item) (i ∷ is)) a c.0 few c.1));
        }

    came-import : (i : ReadStatementItem rule) (is : List (ReadStatementItem rule)) (word : Place) → i.item.given.item ≡ OneToken (word_at (codes "import") word)
        → (a : AreOfImport word (map (to_import rule) is)) → Came (i ∷ is) (OfImport a.derivation)
    came-import i is word e a =
        let c = (reads-import word).complete (map (to_import rule) is) a in
        record {
          state = statement.Import c.0;
          runs = ap (λ o. onward o None (run (steps_by rule stepped) is)) (import-begins i.item.given word e)
              ∙ lifted rule statement.Import import_stepped import-steps is (imports.begun word.span.start)
              ∙ ap (option_map statement.Import) (sym (import-run rule word is (imports.begun word.span.start)) ∙ c.1);
          whole = c.2;
          begins = ap kind_of e ∙ import-kind word;
          tree = λ few. ap (λ b. b ∷ []) (sym (import-built word (map (to_import rule) is) a c.0 c.1));
        }

    -- ---- what the derivations of a statement are to the readers of its kind

    abbrev pub an-expr : (is : List (ReadStatementItem rule)) (e : Expr) → ProperExpr rule e → statement_items rule is ≡ expr_items e → NewlinesEnd (items_tokens (statement_items rule is)) → AreOfExpr rule (map (to_expr rule) is)
    an-expr is e p same n = record { derivation = e; proper = p; items = expr-items is ∙ same; newlines = ap (λ js. newlines_end true (items_tokens js)) (expr-items is) ∙ n }

    abbrev pub a-definition : (is : List (ReadStatementItem rule)) (m : ReadMods) (d : Def) → ProperMods (mods_of m) (def_tokens d) → ProperDef rule WithinExpr d → statement_items rule is ≡ mods_items m ++ def_items d
        → NewlinesEnd (items_tokens (statement_items rule is)) → AreOfDefinition rule (map (λ i. i.item) is)
    a-definition is m d p q same n = record { mods = m; def = d; proper_mods = p; proper = q; items = same; newlines = n }

    -- an import begins with its word
    pub record AnImportOf (i : ReadStatementItem rule) (is : List (ReadStatementItem rule)) (d : Import) : Type 0 where
      pub first : i.item.given.item ≡ OneToken (word_at (codes "import") d.word)
      pub items : import_items_of (map (to_import rule) is) ≡ import_items d

    pub an-import : (i : ReadStatementItem rule) (is : List (ReadStatementItem rule)) (d : Import) → ProperImport d → map outline (statement_items rule (i ∷ is)) ≡ import_outlines d
        → dots_told rule false (i ∷ is) ≡ true → AnImportOf i is d
    an-import i is d p same dots =
        let h = heads _ _ _ _ same in
        record {
          first = is-token i.item.given.item (word_at (codes "import") d.word) h.head;
          items = matched rule is (import_items d) (is_dot i.item.given.item) h.tail dots (import-behind d p (is_dot i.item.given.item));
        }

    abbrev pub import-of : (i : ReadStatementItem rule) (is : List (ReadStatementItem rule)) (word : Place) (d : Import) → ProperImport d → AnImportOf i is d → d.word ≡ word → AreOfImport word (map (to_import rule) is)
    import-of i is word d p s e = record { derivation = d; stands = e; proper = p; items = s.items }

    came-import-of : (is : List (ReadStatementItem rule)) (d : Import) → ProperImport d → map outline (statement_items rule is) ≡ import_outlines d → dots_told rule false is ≡ true → Came is (OfImport d)
    came-import-of [] d p same dots = cc
    came-import-of (i ∷ is) d p same dots = (let s = an-import i is d p same dots in came-import i is d.word s.first (import-of i is d.word d p s refl))

    pub came : (is : List (ReadStatementItem rule)) (a : AreOfStatement rule is) → Came is a.derivation
    came is a = go a.derivation a.proper a.items where
      go : (d : ReadStatement) → ProperBStat rule WithinExpr (statement_of d) → AreItemsOf d (statement_items rule is) → Came is d
      go (OfImport d) p same = came-import-of is d p same a.dots
      go (OfDefinition m d) p same = came-definition is (a-definition is m d p.0 p.1 same a.newlines)
      go (OfExpr e) p same = came-expr is (an-expr is e p.0 same a.newlines)
