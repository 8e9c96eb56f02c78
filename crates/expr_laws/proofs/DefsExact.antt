-- The reader of definitions reads exactly the items of the definitions of a block, each with its modifiers, and has its tree.
use Rattle.std.proofs.Common.{◌≡◌, ◌≤◌, length, Bool, true, false, if◌then◌else◌, List, [], ◌∷◌, ◌++◌, Option, Some, None, option_map, refl, ap, sym, ◌∙◌, append-nil, subst}
use Rattle.positioned_trees.specs.Trees.{max_number}
use Rattle.reading_machines.specs.Laws.{ReadsExactly}
use Rattle.reading_machines.specs.Machines.{run, onward}
use Rattle.reading_machines.specs.Parts.{CanBegin}
use Rattle.reading_machines.proofs.Runs.{run-append}
use Rattle.scan_tokens.specs.declared.roles.Role.{Role}
use Rattle.scan_tokens.specs.declared.roles.Role.TheVariants.{Opens, Closes}
use Rattle.scan_tokens.specs.Newlines.{word_role, sign_role}
use Rattle.scan_tokens.specs.Words.{ending_words, continuing_words, case_words, ending_signs, arrows}
use Rattle.source_grammar.specs.Brackets.{role, is_balanced}
use Rattle.source_grammar.specs.Expressions.{WithinExpr, Def, ValueDef, MethodDef}
use Rattle.source_grammar.specs.ExpressionRules.{Rule}
use Rattle.source_grammar.specs.ExpressionTrees.{def_built}
use Rattle.source_grammar.specs.Lexemes.{Lexeme, close_round, equals, id_token, qual_id_tokens}
use Rattle.source_grammar.specs.ExpressionTokens.{value_word_token}
use Rattle.source_grammar.specs.Definitions.{mod_list_tokens, type_part_tokens}
use Rattle.scan_tokens.specs.declared.roles.Bracket.TheVariants.{Curly}
use Rattle.expr_tails.specs.declared.symbols.Symbol.{Symbol}
use Rattle.expr_tails.specs.declared.symbols.Symbol.TheVariants as symbol
use Rattle.expr_tails.specs.Symbols.{symbol_of}
use Rattle.def_steps.specs.declared.states.State.{State as ReaderState}
use Rattle.def_steps.specs.Definitions as spec
use Rattle.def_steps.specs.Definitions.{stepped, definition_at}
use Rattle.expr_laws.specs.Definitions.{ReadArguments, NoneRead, Between, ReadAnnotation, is_level_token, IsLevelItem, ReadDefItem, def_items_of, AreOfDefinition, def_step_in_lines, definitions_in_lines}
use Rattle.expr_laws.specs.Exactly.{picture, ProperItem, InLines, lined}
use Rattle.expr_laws.specs.Newlines.{newlines_end, NewlinesEnd, ended_by}
use Rattle.expr_laws.proofs.AnnotationsAlong.{AllowedItem, Allowed, AllowedArguments, AllAllowed, is_brace}
use Rattle.expr_laws.proofs.DefsAlive.{DefFiller, Filled, filler_item, filled, def-ended}
use Rattle.expr_laws.proofs.DefsAlong.{DefRead}
use Rattle.expr_laws.proofs.DefsCounts.{can-count}
use Rattle.expr_laws.proofs.DefsComplete.{RightEnds, def-read, SameDef, one-definition}
use Rattle.expr_laws.proofs.DefsDerived.{ReadMods, mods_of, State, def_at, read_mods}
use Rattle.expr_laws.proofs.DefsGood.{GoodDefs, begun-defs, step-good, run-good, ended-good}
use Rattle.expr_laws.proofs.DefsRead.{read-definition}
use Rattle.expr_laws.proofs.DefsShown.{shown}
use Rattle.expr_laws.proofs.DefsSteps.{begun, annotation_items, annotations_items, method_tokens, arguments_items, def_items, mods_items, step}
use Rattle.expr_laws.proofs.DefsStepSame.{step-same, whole-same}
use Rattle.expr_laws.proofs.DefsTokens.{role_as_bracket, bracket_role, is_curly_symbol, Bracketed, brackets-agree}
use Rattle.expr_laws.proofs.DefsTree.{definition-shown}
use Rattle.expr_laws.proofs.Derived.{Item, OneToken, BlockPair, CasesPair, EnumsPair, OtherPair, is_some, item_tokens, items_tokens}
use Rattle.expr_laws.proofs.Exactness.{both-ends}
use Rattle.expr_laws.proofs.Fillers as expr_fillers
use Rattle.expr_laws.proofs.Fillers.{Mark, Wild, mark_token, Filler, One, SomeCases, fill-ends, filler-proper}
use Rattle.expr_laws.proofs.Good.{ProperItems}
use Rattle.expr_laws.proofs.ItemTokens.{expr-have, items-append}
use Rattle.expr_laws.proofs.Items.{tokens, expr_items}
use Rattle.expr_laws.proofs.NewlinesApart.{front-ends, behind-ends, ended-append, Ends, rest-of, next-of}
use Rattle.expr_laws.proofs.Shown.{built_shown}
use Rattle.expr_laws.proofs.TokenSteps.{if-true}

-- the right side of a definition, of which these are the items
right-ends : (m : ReadMods) (d : Def) → NewlinesEnd (items_tokens (mods_items m ++ def_items d)) → RightEnds d
right-ends m d n = go d (rest-of (items_tokens (mods_items m)) (items_tokens (def_items d)) (record { ends = ap (newlines_end true) (sym (items-append (mods_items m) (def_items d))) ∙ n })) where
  from : (front : List Item) (x : Lexeme) (is : List Item) → Ends (items_tokens (front ++ OneToken x ∷ is)) → Ends (items_tokens is)
  from front x is e =
      next-of x (items_tokens is) (rest-of (items_tokens front) (items_tokens (OneToken x ∷ is)) (record { ends = ap (newlines_end true) (sym (items-append front (OneToken x ∷ is))) ∙ e.ends }))

  go : (f : Def) → Ends (items_tokens (def_items f)) → RightEnds f
  go (ValueDef w id type sign e) k = ap (newlines_end true) (sym (expr-have e).same) ∙ (from (tokens (value_word_token w ∷ id_token id ∷ type_part_tokens type)) (equals sign) (expr_items e) k).ends
  go (MethodDef p id params lists type sign e) k = ap (newlines_end true) (sym (expr-have e).same) ∙ (from (tokens (method_tokens p id params lists ++ type_part_tokens type)) (equals sign) (expr_items e) k).ends
  go _ k = tt

-- no newline counts before what is added
filler-ends : (f : DefFiller) (ended : Bool) → newlines_end ended (item_tokens (filler_item f)) ≡ true
filler-ends (Filled f) ended = ap (newlines_end ended) (sym (append-nil (item_tokens (filler_item (Filled f))))) ∙ fill-ends (f ∷ []) ended
filler-ends _ true = refl
filler-ends _ false = refl

filled-ends : (fs : List DefFiller) (ended : Bool) → newlines_end ended (items_tokens (filled fs)) ≡ true
filled-ends [] ended = refl
filled-ends (f ∷ fs) ended = both-ends ended (item_tokens (filler_item f)) (items_tokens (filled fs)) (filler-ends f ended) (filled-ends fs (ended_by ended (item_tokens (filler_item f))))

-- ---- what a level has

opens-brace : (y : Symbol) → Some (Opens Curly) ≡ bracket_role y → is_curly_symbol y ≡ true
opens-brace symbol.OpenCurly e = refl
opens-brace _ e = cc

closes-brace : (y : Symbol) → Some (Closes Curly) ≡ bracket_role y → is_curly_symbol y ≡ true
closes-brace symbol.CloseCurly e = refl
closes-brace _ e = cc

no-brace : (r : Role) (y : Symbol) → Bracketed r y → is_brace r ≡ false
no-brace r y b = go r b.agree where
  go : (s : Role) → role_as_bracket s ≡ bracket_role y → is_brace s ≡ false
  go (Opens Curly) e = sym (opens-brace y e) ∙ b.plain
  go (Closes Curly) e = sym (closes-brace y e) ∙ b.plain
  go _ e = refl

allowed-item : (i : Item) → IsLevelItem i → AllowedItem i
allowed-item (OneToken x) l = no-brace (role x) (symbol_of x.kind x.word) (brackets-agree x l)
allowed-item (BlockPair o block k) l = l
allowed-item (CasesPair o cases k) l = l
allowed-item (EnumsPair o enums k) l = l
allowed-item (OtherPair o xs k) l = l

-- the items in front of some, and those behind some
pub front-allowed : (is js : List Item) → Allowed (is ++ js) → Allowed is
front-allowed [] js a = tt
front-allowed (i ∷ is) js a = (a.0, front-allowed is js a.1)

behind-allowed : (is js : List Item) → Allowed (is ++ js) → Allowed js
behind-allowed [] js a = a
behind-allowed (i ∷ is) js a = behind-allowed is js a.1

arguments-allowed : (r : ReadArguments) → Allowed (arguments_items r) → AllowedArguments r
arguments-allowed NoneRead a = tt
arguments-allowed (Between o is k) a = front-allowed is (OneToken (close_round k) ∷ []) a.1

pub annotations-allowed : (as_ : List ReadAnnotation) → Allowed (annotations_items as_) → AllAllowed as_
annotations-allowed [] a = tt
annotations-allowed (r ∷ rest) a =
    (let own : Allowed (annotation_items r) = front-allowed (annotation_items r) (annotations_items rest) a in (
      arguments-allowed r.arguments (behind-allowed (tokens (qual_id_tokens r.path)) (arguments_items r.arguments) own.1),
      annotations-allowed rest (behind-allowed (annotation_items r) (annotations_items rest) a),
    ))

-- what is added is of one level
mark-level : (m : Mark) → is_level_token (mark_token m) ≡ true
mark-level Wild = refl
mark-level _ = refl

pub expr-level : (f : Filler) → IsLevelItem (expr_fillers.filler_item f)
unfolding is_balanced word_role sign_role ending_words continuing_words case_words ending_signs arrows
expr-level (One m) = mark-level m
expr-level SomeCases = refl

pub level-filler : (f : DefFiller) → IsLevelItem (filler_item f)
level-filler (Filled f) = expr-level f
level-filler _ = refl

module _ (rule : Rule) where
  pub items-proper : (is : List (ReadDefItem rule)) → ProperItems rule (def_items_of rule is)
  items-proper [] = tt
  items-proper (i ∷ is) = (i.proper, items-proper is)

  pub items-allowed : (is : List (ReadDefItem rule)) → Allowed (def_items_of rule is)
  items-allowed [] = tt
  items-allowed (i ∷ is) = (allowed-item i.given.item i.level, items-allowed is)

  abbrev pub reader_run : List (ReadDefItem rule) → ReaderState → Option ReaderState
  reader_run is s = run (λ u i. stepped u (picture i.given)) is s

  abbrev pub at_line : Bool → ReaderState → InLines ReaderState
  at_line ended s = record { ended = ended; state = s }

  -- ---- the reader is a picture of the machine

  pub run-same : (is : List (ReadDefItem rule)) (s : State) → GoodDefs rule (Some s) → reader_run is (shown s) ≡ option_map shown (run step (def_items_of rule is) s)
  run-same [] s g = refl
  run-same (i ∷ is) s g =
      ap (λ o. onward o None (reader_run is)) (step-same rule s i.given.item i.given.selectors i.level g)
      ∙ go (step s i.given.item) refl (λ t e. run-same is t (subst (GoodDefs rule) e (step-good rule s i.given.item i.proper g)))
    where
      go : (o : Option State) → step s i.given.item ≡ o → ((t : State) → step s i.given.item ≡ Some t → reader_run is (shown t) ≡ option_map shown (run step (def_items_of rule is) t))
          → onward (option_map shown o) None (reader_run is) ≡ option_map shown (onward o None (run step (def_items_of rule is)))
      go None e on = refl
      go (Some t) e on = on t e

  -- ---- lines

  pub lined-run : (is : List (ReadDefItem rule)) (ended : Bool) (s : ReaderState) → newlines_end ended (items_tokens (def_items_of rule is)) ≡ true
      → run (def_step_in_lines rule) is (at_line ended s) ≡ lined (ended_by ended (items_tokens (def_items_of rule is))) (reader_run is s)
  lined-run [] ended s n = refl
  lined-run (i ∷ is) ended s n =
      ap (λ o. onward o None (run (def_step_in_lines rule) is)) (if-true (newlines_end ended xs) (lined (ended_by ended xs) (stepped s (picture i.given))) None (front-ends ended xs ys n))
      ∙ go (stepped s (picture i.given)) (λ t. lined-run is (ended_by ended xs) t (behind-ends ended xs ys n))
      ∙ ap (λ b. lined b (reader_run (i ∷ is) s)) (sym (ended-append ended xs ys))
    where
      xs : List Lexeme
      xs = item_tokens i.given.item

      ys : List Lexeme
      ys = items_tokens (def_items_of rule is)

      go : (o : Option ReaderState)
          → ((t : ReaderState) → run (def_step_in_lines rule) is (at_line (ended_by ended xs) t) ≡ lined (ended_by (ended_by ended xs) ys) (reader_run is t))
          → onward (lined (ended_by ended xs) o) None (run (def_step_in_lines rule) is) ≡ lined (ended_by (ended_by ended xs) ys) (onward o None (reader_run is))
      go None on = refl
      go (Some t) on = on t

  pub record Lined (is : List (ReadDefItem rule)) (ended : Bool) (s : ReaderState) (t : InLines ReaderState) : Type 0 where
    pub newlines : newlines_end ended (items_tokens (def_items_of rule is)) ≡ true
    pub runs : reader_run is s ≡ Some t.state

  pub lined-back : (is : List (ReadDefItem rule)) (ended : Bool) (s : ReaderState) (t : InLines ReaderState) → run (def_step_in_lines rule) is (at_line ended s) ≡ Some t → Lined is ended s t
  lined-back [] ended s t e = record { newlines = refl; runs = (let same : at_line ended s ≡ t = cc in ap (λ u. Some u.state) same) }
  lined-back (i ∷ is) ended s t e = go (newlines_end ended xs) (stepped s (picture i.given)) refl refl e (λ u f. lined-back is (ended_by ended xs) u t f) where
    xs : List Lexeme
    xs = item_tokens i.given.item

    go : (b : Bool) (o : Option ReaderState) → newlines_end ended xs ≡ b → stepped s (picture i.given) ≡ o → onward (if b then lined (ended_by ended xs) o else None) None (run (def_step_in_lines rule) is) ≡ Some t
        → ((u : ReaderState) → run (def_step_in_lines rule) is (at_line (ended_by ended xs) u) ≡ Some t → Lined is (ended_by ended xs) u t) → Lined (i ∷ is) ended s t
    go true None n o f on = cc
    go true (Some u) n o f on =
        (let r = on u f in
        record {
          newlines = both-ends ended xs (items_tokens (def_items_of rule is)) n r.newlines;
          runs = ap (λ v. onward v None (reader_run is)) o ∙ r.runs;
        })
    go false o n q f on = cc

  -- the machine over derivations, where the reader is
  pub record Behind (is : List (ReadDefItem rule)) (u : ReaderState) : Type 0 where
    pub there : State
    pub runs : run step (def_items_of rule is) begun ≡ Some there
    pub same : shown there ≡ u
    pub good : GoodDefs rule (Some there)

  pub behind : (is : List (ReadDefItem rule)) (u : ReaderState) → reader_run is spec.begun ≡ Some u → Behind is u
  behind is u e = go (run step (def_items_of rule is) begun) refl (sym (run-same is begun (begun-defs rule)) ∙ e) where
    go : (o : Option State) → run step (def_items_of rule is) begun ≡ o → option_map shown o ≡ Some u → Behind is u
    go None f g = cc
    go (Some t) f g = record {
      there = t;
      runs = f;
      same = (let same : shown t ≡ u = cc in same);
      good = run-good rule (def_items_of rule is) begun t (items-proper is) (begun-defs rule) f;
    }

  -- ---- complete

  -- each derivation is read from its items
  def-of : (is : List (ReadDefItem rule)) (a : AreOfDefinition rule is) → DefRead a.mods a.def
  def-of is a =
      def-read rule WithinExpr a.mods a.def a.proper_mods (annotations-allowed a.mods.annotations (front-allowed (annotations_items a.mods.annotations) (tokens (mod_list_tokens a.mods.mods)) (front-allowed (mods_items a.mods) (def_items a.def) (subst Allowed a.items (items-allowed is)))))
      a.proper (right-ends a.mods a.def (ap (λ js. newlines_end true (items_tokens js)) (sym a.items) ∙ a.newlines))

  def-runs : (is : List (ReadDefItem rule)) (a : AreOfDefinition rule is) → run step (def_items_of rule is) begun ≡ Some (def-of is a).end
  def-runs is a = ap (λ js. run step js begun) (a.items ∙ sym (append-nil (mods_items a.mods ++ def_items a.def))) ∙ (def-of is a).leads.runs []

  reader-runs : (is : List (ReadDefItem rule)) (a : AreOfDefinition rule is)
      → run (def_step_in_lines rule) is (at_line true spec.begun) ≡ Some (at_line (ended_by true (items_tokens (def_items_of rule is))) (shown (def-of is a).end))
  reader-runs is a =
      lined-run is true spec.begun a.newlines
      ∙ ap (lined (ended_by true (items_tokens (def_items_of rule is)))) (run-same is begun (begun-defs rule) ∙ ap (option_map shown) (def-runs is a))

  complete : (is : List (ReadDefItem rule)) → AreOfDefinition rule is → (t : InLines ReaderState) × (run (definitions_in_lines rule).step is (definitions_in_lines rule).start ≡ Some t) × ((definitions_in_lines rule).whole t ≡ true)
  complete is a = (
    at_line (ended_by true (items_tokens (def_items_of rule is))) (shown (def-of is a).end),
    reader-runs is a,
    whole-same (def-of is a).end ∙ ap is_some (def-of is a).ends,
  )

  -- the items have one derivation, and the reader has its tree
  pub one-def : (is : List (ReadDefItem rule)) (a b : AreOfDefinition rule is) → SameDef a.mods b.mods a.def b.def
  one-def is a b = one-definition a.mods b.mods a.def b.def (def-of is a) (def-of is b) (sym a.items ∙ b.items)

  pub def-tree : (is : List (ReadDefItem rule)) (a : AreOfDefinition rule is) (s : InLines ReaderState) → length (items_tokens (def_items_of rule is)) ≤ max_number → run (definitions_in_lines rule).step is (definitions_in_lines rule).start ≡ Some s
      → definition_at s.state ≡ built_shown (def_built (mods_of a.mods) a.def)
  def-tree is a s c e =
      let r = def-of is a in
      let ends : Some s ≡ Some (at_line (ended_by true (items_tokens (def_items_of rule is))) (shown r.end)) = sym e ∙ reader-runs is a in
      let same : s ≡ at_line (ended_by true (items_tokens (def_items_of rule is))) (shown r.end) = cc in
      ap (λ t. definition_at t.state) same
      ∙ definition-shown rule r.end a.def (run-good rule (def_items_of rule is) begun r.end (items-proper is) (begun-defs rule) (def-runs is a)) (can-count a.mods a.def (subst (λ js. length (items_tokens js) ≤ max_number) a.items c)) r.ends
      ∙ ap (λ m. built_shown (def_built (mods_of m) a.def)) r.mods

  -- ---- sound

  of-def : (is : List (ReadDefItem rule)) (s : State) (d : Def) → run step (def_items_of rule is) begun ≡ Some s → GoodDefs rule (Some s) → def_at s.tail ≡ Some d → NewlinesEnd (items_tokens (def_items_of rule is)) → AreOfDefinition rule is
  of-def is s d r g e n =
      let p = ended-good rule s d g e in
      record {
        mods = read_mods s.found;
        def = d;
        proper_mods = p.mods;
        proper = p.def;
        items = read-definition (def_items_of rule is) s d r e;
        newlines = n;
      }

  sound : (is : List (ReadDefItem rule)) (t : InLines ReaderState) → run (definitions_in_lines rule).step is (definitions_in_lines rule).start ≡ Some t → (definitions_in_lines rule).whole t ≡ true → AreOfDefinition rule is
  sound is t r w =
      (let back = lined-back is true spec.begun t r in
      let b = behind is t.state back.runs in
      go b.there b.runs b.good (def_at b.there.tail) refl (sym (whole-same b.there) ∙ ap spec.is_definition b.same ∙ w) back.newlines)
    where
      go : (s : State) → run step (def_items_of rule is) begun ≡ Some s → GoodDefs rule (Some s) → (o : Option Def) → def_at s.tail ≡ o → is_some o ≡ true → NewlinesEnd (items_tokens (def_items_of rule is)) → AreOfDefinition rule is
      go s q g None e f n = cc
      go s q g (Some d) e f n = of-def is s d q g e n

  -- ---- alive

  module _ (empty : rule WithinExpr false [] []) where
    pub proper-filler : (f : DefFiller) → ProperItem rule (filler_item f)
    proper-filler (Filled f) = filler-proper rule empty f
    proper-filler _ = tt

    abbrev pub others : List DefFiller → List (ReadDefItem rule)
    others [] = []
    others (f ∷ fs) = record { given = record { selectors = None; item = filler_item f }; proper = proper-filler f; level = level-filler f } ∷ others fs

    others-items : (is : List (ReadDefItem rule)) (fs : List DefFiller) → def_items_of rule (is ++ others fs) ≡ def_items_of rule is ++ filled fs
    others-items [] [] = refl
    others-items [] (f ∷ fs) = ap (λ js. filler_item f ∷ js) (others-items [] fs)
    others-items (i ∷ is) fs = ap (λ js. i.given.item ∷ js) (others-items is fs)

    -- with these items what was read is a definition
    pub record Completed (is : List (ReadDefItem rule)) : Type 0 where
      pub fillers : List DefFiller
      pub part : AreOfDefinition rule (is ++ others fillers)

    pub completed-lines : (is : List (ReadDefItem rule)) (t : InLines ReaderState) → run (definitions_in_lines rule).step is (definitions_in_lines rule).start ≡ Some t → Completed is
    completed-lines is t r =
        let back = lined-back is true spec.begun t r in
        let b = behind is t.state back.runs in
        let s = b.there in
        let c = def-ended rule s.found s.tail b.good.1 in
        let on : run step (filled c.others) s ≡ Some c.end = ap (λ js. run step js s) (sym (append-nil (filled c.others))) ∙ c.leads.runs [] in
        let runs : run step (def_items_of rule (is ++ others c.others)) begun ≡ Some c.end =
        ap (λ js. run step js begun) (others-items is c.others) ∙ run-append step (def_items_of rule is) (filled c.others) begun
        ∙ ap (λ o. onward o None (run step (filled c.others))) b.runs ∙ on in
        record {
          fillers = c.others;
          part = of-def (is ++ others c.others) c.end c.def runs
              (run-good rule (def_items_of rule (is ++ others c.others)) begun c.end (items-proper (is ++ others c.others)) (begun-defs rule) runs)
              c.ends
              (ap (λ js. newlines_end true (items_tokens js)) (others-items is c.others) ∙ ap (newlines_end true) (items-append (def_items_of rule is) (filled c.others))
              ∙ both-ends true (items_tokens (def_items_of rule is)) (items_tokens (filled c.others)) back.newlines (filled-ends c.others _));
        }

    alive : (is : List (ReadDefItem rule)) (t : InLines ReaderState) → run (definitions_in_lines rule).step is (definitions_in_lines rule).start ≡ Some t → CanBegin (AreOfDefinition rule) is
    alive is t r = (let c = completed-lines is t r in record { others = others c.fillers; part = c.part })

    pub reads-definitions : ReadsExactly (AreOfDefinition rule) (definitions_in_lines rule)
    reads-definitions = record { complete = complete; sound = sound; alive = alive }
