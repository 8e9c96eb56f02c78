-- The reader reads exactly the items of expressions.
use Rattle.std.proofs.Common.{◌≡◌, ℕ, ◌+◌, Bool, true, false, ◌&&◌, ◌||◌, if◌then◌else◌, List, [], ◌∷◌, ◌++◌, Option, Some, None, option_map, refl, ap, sym, ◌∙◌, append-nil, subst, arith}
use Rattle.std.specs.Prelude.{not}
use Rattle.reading_machines.specs.Machines.{run, onward, noted, reading, reading_of}
use Rattle.scan_tokens.specs.Newlines.{can_end}
use Rattle.source_grammar.specs.Brackets.{has_newline, role}
use Rattle.reading_machines.specs.Parts.{CanBegin, IsBest, IsStuckAt}
use Rattle.reading_machines.specs.Laws.{ReadsExactly}
use Rattle.reading_machines.proofs.Images.{pictured}
use Rattle.reading_machines.proofs.Longest.{reads-longest, reads-stuck}
use Rattle.reading_machines.proofs.Runs.{run-append}
use Rattle.source_grammar.specs.Expressions.{WithinExpr, Expr}
use Rattle.source_grammar.specs.ExpressionRules.{Rule}
use Rattle.source_grammar.specs.ExpressionTokens.{expr_tokens}
use Rattle.source_grammar.specs.ExpressionTrees.{expr_built}
use Rattle.source_grammar.specs.Lexemes.{Lexeme}
use Rattle.source_grammar.specs.Statements.{longest}
use Rattle.parse_patterns.proofs.Derived as patterns
use Rattle.parse_patterns.proofs.Sides.{and-true}
use Rattle.expr_tails.specs.declared.states.Limit.{Limit}
use Rattle.expr_tails.specs.declared.states.Limit.TheVariants as limit
use Rattle.expr_tails.specs.declared.states.State.{State as ReaderState}
use Rattle.expr_steps.specs.Reading as spec
use Rattle.expr_steps.specs.Reading.{stepped, reader, built_at}
use Rattle.expr_laws.specs.Exactly.{Given, picture, InLines, lined, ReadItem, pictures_of, AreOfExpr, reader_in_lines, step_in_lines}
use Rattle.expr_laws.specs.Exactly as exactly
use Rattle.expr_laws.specs.Newlines.{newlines_end, NewlinesEnd, ended_by}
use Rattle.expr_laws.proofs.AddingSteps.{read-items}
use Rattle.expr_laws.proofs.BracketsRevived.{is_dotted}
use Rattle.expr_laws.proofs.Completing.{completed, is_dotted_tail}
use Rattle.expr_laws.proofs.Derived.{Tail, InPattern, State, item_tokens, items_tokens, state, ended_expr, step, begun}
use Rattle.expr_laws.proofs.ExprsComplete.{one-derivation, reader-complete}
use Rattle.expr_laws.proofs.Fillers.{Filler, filler_item, filler-proper, fill, fill-ends}
use Rattle.expr_laws.proofs.Good.{is_generator_current, GoodTail, ProperItems}
use Rattle.expr_laws.proofs.GoodSteps.{begun-good, run-good, read-proper}
use Rattle.expr_laws.proofs.ItemTokens.{expr-have, items-append}
use Rattle.expr_laws.proofs.Lasting.{and-left, and-right}
use Rattle.expr_laws.proofs.LastingSteps.{begun-stands, run-stands}
use Rattle.expr_laws.proofs.LivesAll.{begun-keeps, run-keeps}
use Rattle.expr_laws.proofs.NewlinesApart.{front-ends, behind-ends, ended-append}
use Rattle.expr_laws.proofs.Pictures.{pictures, items_of, run-same, has-read}
use Rattle.expr_laws.proofs.Shown.{shown, built_shown}
use Rattle.expr_laws.proofs.TokenSteps.{if-true}

-- ---- newlines

pub both-ends : (ended : Bool) (xs ys : List Lexeme) → newlines_end ended xs ≡ true → newlines_end (ended_by ended xs) ys ≡ true → newlines_end ended (xs ++ ys) ≡ true
both-ends ended [] ys e f = f
both-ends ended (x ∷ xs) ys e f =
    let first : Bool = ended || not (has_newline x.place.before) in
    let next : Bool = can_end (role x) in
    and-true first (newlines_end next (xs ++ ys)) (and-left first (newlines_end next xs) e) (both-ends next xs ys (and-right first (newlines_end next xs) e) f)

-- the empty statement at the end of a list is all that is left
pub empty-longest : longest WithinExpr false [] []
unfolding longest
empty-longest [] h b = absurd (omega arith)
empty-longest (x ∷ xs) h b = (let no : [] ≡ x ∷ (xs ++ b.behind) = b.split in cc)

module _ (rule : Rule) where
  -- ---- items with what was read in their braces

  abbrev pub givens : List (ReadItem rule) → List Given
  givens [] = []
  givens (i ∷ is) = i.given ∷ givens is

  pub given-items : (is : List (ReadItem rule)) → items_of (givens is) ≡ exactly.items_of rule is
  given-items [] = refl
  given-items (i ∷ is) = ap (λ js. i.given.item ∷ js) (given-items is)

  pub given-proper : (is : List (ReadItem rule)) → ProperItems rule (items_of (givens is))
  given-proper [] = tt
  given-proper (i ∷ is) = (i.proper, given-proper is)

  -- ---- lines

  abbrev at_line : Bool → ReaderState → InLines ReaderState
  at_line ended s = record { ended = ended; state = s }

  lined-run : (is : List (ReadItem rule)) (ended : Bool) (s : ReaderState) → newlines_end ended (items_tokens (items_of (givens is))) ≡ true
      → run (step_in_lines rule) is (at_line ended s) ≡ lined (ended_by ended (items_tokens (items_of (givens is)))) (run stepped (pictures (givens is)) s)
  lined-run [] ended s n = refl
  lined-run (i ∷ is) ended s n =
      let xs : List Lexeme = item_tokens i.given.item in
      let ys : List Lexeme = items_tokens (items_of (givens is)) in
      ap (λ o. onward o None (run (step_in_lines rule) is)) (if-true (newlines_end ended xs) (lined (ended_by ended xs) (stepped s (picture i.given))) None (front-ends ended xs ys n))
      ∙ go (stepped s (picture i.given)) (λ t. lined-run is (ended_by ended xs) t (behind-ends ended xs ys n))
      ∙ ap (λ b. lined b (run stepped (pictures (givens (i ∷ is))) s)) (sym (ended-append ended xs ys))
    where
      go : (o : Option ReaderState)
          → ((t : ReaderState) → run (step_in_lines rule) is (at_line (ended_by ended (item_tokens i.given.item)) t)
          ≡ lined (ended_by (ended_by ended (item_tokens i.given.item)) (items_tokens (items_of (givens is)))) (run stepped (pictures (givens is)) t))
          → onward (lined (ended_by ended (item_tokens i.given.item)) o) None (run (step_in_lines rule) is)
          ≡ lined (ended_by (ended_by ended (item_tokens i.given.item)) (items_tokens (items_of (givens is)))) (onward o None (run stepped (pictures (givens is))))
      go None on = refl
      go (Some t) on = on t

  record Lined (is : List (ReadItem rule)) (ended : Bool) (s : ReaderState) (t : InLines ReaderState) : Type 0 where
    newlines : newlines_end ended (items_tokens (items_of (givens is))) ≡ true
    runs : run stepped (pictures (givens is)) s ≡ Some t.state

  lined-back : (is : List (ReadItem rule)) (ended : Bool) (s : ReaderState) (t : InLines ReaderState) → run (step_in_lines rule) is (at_line ended s) ≡ Some t → Lined is ended s t
  lined-back [] ended s t e = record { newlines = refl; runs = (let same : at_line ended s ≡ t = cc in ap (λ u. Some u.state) same) }
  lined-back (i ∷ is) ended s t e =
      go (newlines_end ended (item_tokens i.given.item)) (stepped s (picture i.given)) refl refl e (λ u f. lined-back is (ended_by ended (item_tokens i.given.item)) u t f)
    where
      go : (b : Bool) (o : Option ReaderState) → newlines_end ended (item_tokens i.given.item) ≡ b → stepped s (picture i.given) ≡ o
          → onward (if b then lined (ended_by ended (item_tokens i.given.item)) o else None) None (run (step_in_lines rule) is) ≡ Some t
          → ((u : ReaderState) → run (step_in_lines rule) is (at_line (ended_by ended (item_tokens i.given.item)) u) ≡ Some t → Lined is (ended_by ended (item_tokens i.given.item)) u t)
          → Lined (i ∷ is) ended s t
      go true None n o f on = cc
      go true (Some u) n o f on =
          let r = on u f in
          record {
            newlines = both-ends ended (item_tokens i.given.item) (items_tokens (items_of (givens is))) n r.newlines;
            runs = ap (λ v. onward v None (run stepped (pictures (givens is)))) o ∙ r.runs;
          }
      go false o n q f on = cc

  -- ---- complete

  own-newlines : (is : List (ReadItem rule)) (a : AreOfExpr rule is) → NewlinesEnd (expr_tokens a.derivation)
  own-newlines is a = ap (newlines_end true) (sym (ap items_tokens a.items ∙ (expr-have a.derivation).same)) ∙ a.newlines

  read-run : (is : List (ReadItem rule)) (a : AreOfExpr rule is) (u : ReaderState) → run stepped (pictures (givens is)) (reader limit.Expr).start ≡ Some u
      → run (step_in_lines rule) is (at_line true (reader limit.Expr).start) ≡ Some (at_line (ended_by true (items_tokens (items_of (givens is)))) u)
  read-run is a u e =
      lined-run is true (reader limit.Expr).start (ap (λ js. newlines_end true (items_tokens js)) (given-items is) ∙ a.newlines)
      ∙ ap (lined (ended_by true (items_tokens (items_of (givens is))))) e

  complete : (is : List (ReadItem rule)) → AreOfExpr rule is → (t : InLines ReaderState) × (run (reader_in_lines rule).step is (reader_in_lines rule).start ≡ Some t) × ((reader_in_lines rule).whole t ≡ true)
  complete is a =
      let r = reader-complete rule a.derivation (givens is) a.proper (own-newlines is a) (given-items is ∙ a.items) in
      (at_line (ended_by true (items_tokens (items_of (givens is)))) r.end, read-run is a r.end r.runs, r.read)

  -- the items have one derivation, and the reader has its tree
  pub one : (is : List (ReadItem rule)) (a b : AreOfExpr rule is) → a.derivation ≡ b.derivation
  one is a b = one-derivation rule a.derivation b.derivation a.proper b.proper (own-newlines is a) (sym a.items ∙ b.items)

  pub tree : (is : List (ReadItem rule)) (a : AreOfExpr rule is) (s : InLines ReaderState) → run (reader_in_lines rule).step is (reader_in_lines rule).start ≡ Some s
      → built_at s.state ≡ built_shown (expr_built a.derivation)
  tree is a s e =
      let r = reader-complete rule a.derivation (givens is) a.proper (own-newlines is a) (given-items is ∙ a.items) in
      let ends : Some s ≡ Some (at_line (ended_by true (items_tokens (items_of (givens is)))) r.end) = sym e ∙ read-run is a r.end r.runs in
      let same : s ≡ at_line (ended_by true (items_tokens (items_of (givens is)))) r.end = cc in
      ap (λ t. built_at t.state) same ∙ r.built

  -- ---- sound

  -- the machine over derivations, where the reader is
  record Behind (gs : List Given) (u : ReaderState) : Type 0 where
    there : State
    runs : run step (items_of gs) (begun limit.Expr) ≡ Some there
    same : shown there ≡ u

  behind : (gs : List Given) (u : ReaderState) → run stepped (pictures gs) (reader limit.Expr).start ≡ Some u → Behind gs u
  behind gs u e = go (run step (items_of gs) (begun limit.Expr)) refl (sym (run-same gs (begun limit.Expr) (begun-stands limit.Expr)) ∙ e) where
    go : (o : Option State) → run step (items_of gs) (begun limit.Expr) ≡ o → option_map shown o ≡ Some u → Behind gs u
    go None f g = cc
    go (Some t) f g = record { there = t; runs = f; same = (let same : shown t ≡ u = cc in same) }

  -- no pattern ends in a `.`
  pub dotless : (l : Limit) (s : Tail) → GoodTail rule l s → is_dotted_tail s ≡ false
  dotless l (InPattern p) g = go p.current g.current where
    go : (q : patterns.Current) → is_generator_current q ≡ true → is_dotted q ≡ false
    go (patterns.InInfix b os (patterns.AtDot path d)) e = cc
    go (patterns.InInfix b os _) e = refl
    go (patterns.InType s point t) e = refl
  dotless l _ g = refl

  of-expr : (is : List (ReadItem rule)) (s : State) (e : Expr) → run step (items_of (givens is)) (begun limit.Expr) ≡ Some s → s.frames ≡ [] → ended_expr s.context ≡ Some e
      → newlines_end true (items_tokens (items_of (givens is))) ≡ true → AreOfExpr rule is
  of-expr is s e r f g n = record {
    derivation = e;
    proper = read-proper rule limit.Expr (items_of (givens is)) s e (given-proper is) r g;
    items = sym (given-items is) ∙ read-items limit.Expr (items_of (givens is)) s e r f g;
    newlines = ap (λ js. newlines_end true (items_tokens js)) (sym (given-items is)) ∙ n;
  }

  sound : (is : List (ReadItem rule)) (t : InLines ReaderState) → run (reader_in_lines rule).step is (reader_in_lines rule).start ≡ Some t → (reader_in_lines rule).whole t ≡ true → AreOfExpr rule is
  sound is t r w =
      let back = lined-back is true (reader limit.Expr).start t r in
      let b = behind (givens is) t.state back.runs in
      let read = has-read b.there (run-stands (items_of (givens is)) (begun limit.Expr) b.there (begun-stands limit.Expr) b.runs) (ap spec.is_read b.same ∙ w) in
      of-expr is b.there read.expr b.runs read.closed read.ended back.newlines

  -- ---- what the reader comes to

  lines-reading : (follows : List spec.Item → Bool) (is : List (ReadItem rule)) (n : ℕ) (best : Option ℕ) (ended : Bool) (s : ReaderState)
      → newlines_end ended (items_tokens (exactly.items_of rule is)) ≡ true
      → reading (reader limit.Expr) follows (pictures_of rule is) n best s
      ≡ pictured (λ t. t.state) (reading (reader_in_lines rule) (λ js. follows (pictures_of rule js)) is n best (at_line ended s))
  lines-reading follows [] n best ended s e = refl
  lines-reading follows (i ∷ is) n best ended s e =
      go (stepped s (picture i.given)) (λ t. lines-reading follows is (n + 1) now (ended_by ended xs) t (behind-ends ended xs (items_tokens (exactly.items_of rule is)) e))
      ∙ ap (λ o. pictured (λ t. t.state) (onward o (record { state = at_line ended s; reached = n; best = now }) (reading (reader_in_lines rule) (λ js. follows (pictures_of rule js)) is (n + 1) now)))
      (sym (if-true (newlines_end ended xs) (lined (ended_by ended xs) (stepped s (picture i.given))) None (front-ends ended xs (items_tokens (exactly.items_of rule is)) e)))
    where
      xs : List Lexeme
      xs = item_tokens i.given.item

      now : Option ℕ
      now = noted (spec.is_read s && follows (pictures_of rule (i ∷ is))) n best

      go : (o : Option ReaderState)
          → ((t : ReaderState) → reading (reader limit.Expr) follows (pictures_of rule is) (n + 1) now t
          ≡ pictured (λ u. u.state) (reading (reader_in_lines rule) (λ js. follows (pictures_of rule js)) is (n + 1) now (at_line (ended_by ended xs) t)))
          → onward o (record { state = s; reached = n; best = now }) (reading (reader limit.Expr) follows (pictures_of rule is) (n + 1) now)
          ≡ pictured (λ u. u.state) (onward (lined (ended_by ended xs) o) (record { state = at_line ended s; reached = n; best = now })
          (reading (reader_in_lines rule) (λ js. follows (pictures_of rule js)) is (n + 1) now))
      go None on = refl
      go (Some t) on = on t

  -- ---- alive

  module _ (empty : rule WithinExpr false [] []) where
    abbrev pub others : List Filler → List (ReadItem rule)
    others [] = []
    others (f ∷ fillers) = record { given = record { selectors = None; item = filler_item f }; proper = filler-proper rule empty f } ∷ others fillers

    others-items : (is : List (ReadItem rule)) (fillers : List Filler) → items_of (givens (is ++ others fillers)) ≡ items_of (givens is) ++ fill fillers
    others-items [] [] = refl
    others-items [] (f ∷ fillers) = ap (λ js. filler_item f ∷ js) (others-items [] fillers)
    others-items (i ∷ is) fillers = ap (λ js. i.given.item ∷ js) (others-items is fillers)

    -- with these items what was read is an expression
    pub record Completed (is : List (ReadItem rule)) : Type 0 where
      pub fillers : List Filler
      pub part : AreOfExpr rule (is ++ others fillers)

    pub completed-lines : (is : List (ReadItem rule)) (t : InLines ReaderState) → run (reader_in_lines rule).step is (reader_in_lines rule).start ≡ Some t → Completed is
    completed-lines is t r =
        let back = lined-back is true (reader limit.Expr).start t r in
        let b = behind (givens is) t.state back.runs in
        let s = b.there in
        let good = run-good rule (items_of (givens is)) (begun limit.Expr) s (given-proper is) (begun-stands limit.Expr) (begun-good rule limit.Expr) b.runs in
        let c = completed s.frames s.context (run-keeps (items_of (givens is)) (begun limit.Expr) s begun-keeps b.runs) (dotless s.context.limit s.context.tail good.context.tail) in
        let fillers : List Filler = c.reaches.fillers in
        let on : run step (fill fillers) s ≡ Some (state [] c.end) = ap (λ js. run step js s) (sym (append-nil (fill fillers))) ∙ c.reaches.leads.runs [] in
        record {
          fillers = fillers;
          part = of-expr (is ++ others fillers) (state [] c.end) c.expr
              (ap (λ js. run step js (begun limit.Expr)) (others-items is fillers) ∙ run-append step (items_of (givens is)) (fill fillers) (begun limit.Expr)
              ∙ ap (λ o. onward o None (run step (fill fillers))) b.runs ∙ on)
              refl c.ended
              (ap (λ js. newlines_end true (items_tokens js)) (others-items is fillers) ∙ ap (newlines_end true) (items-append (items_of (givens is)) (fill fillers))
              ∙ both-ends true (items_tokens (items_of (givens is))) (items_tokens (fill fillers)) back.newlines (fill-ends fillers _));
        }

    alive : (is : List (ReadItem rule)) (t : InLines ReaderState) → run (reader_in_lines rule).step is (reader_in_lines rule).start ≡ Some t → CanBegin (AreOfExpr rule) is
    alive is t r = (let c = completed-lines is t r in record { others = others c.fillers; part = c.part })

    pub reads-items : ReadsExactly (AreOfExpr rule) (reader_in_lines rule)
    reads-items = record { complete = complete; sound = sound; alive = alive }

    -- the longest expression that the items begin with, and the first that no expression admits
    pub best-items : (follows : List spec.Item → Bool) (is : List (ReadItem rule)) → NewlinesEnd (items_tokens (exactly.items_of rule is))
        → IsBest (AreOfExpr rule) (λ js. follows (pictures_of rule js)) is (reading_of (reader limit.Expr) follows (pictures_of rule is)).best
    best-items follows is n =
        subst (IsBest (AreOfExpr rule) (λ js. follows (pictures_of rule js)) is) (sym (ap (λ r. r.best) (lines-reading follows is 0 None true (reader limit.Expr).start n)))
        (reads-longest (AreOfExpr rule) (reader_in_lines rule) (λ js. follows (pictures_of rule js)) is reads-items)

    pub stuck-items : (follows : List spec.Item → Bool) (is : List (ReadItem rule)) → NewlinesEnd (items_tokens (exactly.items_of rule is))
        → IsStuckAt (AreOfExpr rule) is (reading_of (reader limit.Expr) follows (pictures_of rule is)).reached
    stuck-items follows is n =
        subst (IsStuckAt (AreOfExpr rule) is) (sym (ap (λ r. r.reached) (lines-reading follows is 0 None true (reader limit.Expr).start n)))
        (reads-stuck (AreOfExpr rule) (reader_in_lines rule) (λ js. follows (pictures_of rule js)) is reads-items)
