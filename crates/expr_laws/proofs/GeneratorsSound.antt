-- What was read is the items of the derivations in the state, within the generators of a `for`.
use Rattle.std.proofs.Common.{◌≡◌, Bool, true, false, ◌&&◌, if◌then◌else◌, List, [], ◌∷◌, ◌++◌, Option, Some, None, codes, refl, ap, sym, ◌∙◌, append_assoc, append-nil}
use Rattle.scan_tokens.specs.declared.tokens.Newline.{Newline}
use Rattle.source_grammar.specs.Expressions.{PrefixSign, Sep, Expr, Gen, GenOf, Guards, NoGuards, MoreGuards, Enums, LastGen, MoreGens, Infix, ForRound}
use Rattle.source_grammar.specs.ExpressionTokens.{sep_tokens}
use Rattle.source_grammar.specs.Lexemes.{Place, Lexeme, word_at, open_round, close_round, BackArrow, back_arrow_token}
use Rattle.source_grammar.specs.Patterns.{Pat, Pat1, pat_tokens}
use Rattle.parse_patterns.proofs.Derived as patterns
use Rattle.parse_patterns.proofs.Derived.{earlier_tokens, tokens_in as pattern_tokens_in}
use Rattle.parse_patterns.proofs.Sound.{step-adds, read-tokens, alternative-tokens}
use Rattle.expr_tails.specs.declared.states.Limit.TheVariants as limit
use Rattle.expr_laws.proofs.Derived.{Item, OneToken, Tail, AtSemi, AtGuardSemi, InPattern, Of, Context, DoneGuard, Part, PatPart, FromPart, GuardPart, DoneGen, Bracket, GensBracket, Frame, State, chain_at, headed_all, guards_before, enums_before, is_first, waits, at, fresh, state, in_state, gen_with, ended_expr, done_gen, unless, gen_at, is_apart, frame, next_pattern, next_in, is_generator_token, pattern_in, pattern_read, pattern_of, arrowed_in, arrowed, in_pattern, behind_gens, Operation, is_nil, is_none}
use Rattle.expr_laws.proofs.Fitting.{Fits}
use Rattle.expr_laws.proofs.FramesSound.{Adds, adds-none, adds-some, adds-if, before_items, headed-bracket, parted-bracket}
use Rattle.expr_laws.proofs.Items.{tokens, expr_items, enums_items, gen_items, guards_items, infix_items}
use Rattle.expr_laws.proofs.Moving.{tokens-append}
use Rattle.expr_laws.proofs.PartsRead.{expr-read, chain-read, headed-read}
use Rattle.expr_laws.proofs.Read.{heads_items, operations_items, sign_items, context_items, done_guards_items, part_items, done_gens_items, frames_items, items_in}
use Rattle.expr_laws.proofs.Seen.{Seen, ABackArrow, shown_token}

-- ---- lists

guards-items : (done : List DoneGuard) (guards : Guards) → guards_items (guards_before done guards) ≡ done_guards_items done ++ guards_items guards
guards-items [] _ = refl
guards-items (g ∷ done) guards =
    guards-items done (MoreGuards g.sep g.word g.test guards)
    ∙ go (done_guards_items done) (tokens (sep_tokens g.sep)) (OneToken (word_at (codes "if") g.word)) (infix_items g.test) (guards_items guards)
  where
    go : (a b : List Item) (i : Item) (d e : List Item) → a ++ (b ++ i ∷ (d ++ e)) ≡ (a ++ (b ++ i ∷ (d ++ []))) ++ e
    go a b i d e = simp (append_assoc, append-nil)

enums-items : (done : List DoneGen) (enums : Enums) → enums_items (enums_before done enums) ≡ done_gens_items done ++ enums_items enums
enums-items [] enums = refl
enums-items (d ∷ done) enums =
    enums-items done (MoreGens d.gen d.sep enums) ∙ sym (append_assoc (done_gens_items done) (gen_items d.gen ++ tokens (sep_tokens d.sep)) (enums_items enums))

-- ---- what ends a generator, and what ends before a guard

-- a context with `;` behind an expression has heads alone, and one of a guard has none
abbrev pub SemiFirst : Tail → Context → Type 0
SemiFirst (AtSemi expr p ps) c = is_first c ≡ true
SemiFirst (AtGuardSemi test p ps) c = is_first c ≡ true
SemiFirst _ c = Unit {0}

abbrev pub GuardAlone : Part → Context → Type 0
GuardAlone (GuardPart pat arrow from done sep word) c = c.heads ≡ []
GuardAlone _ c = Unit {0}

first-none : (c : Context) (is : List Item) → is_first c ≡ true → operations_items c.operations ++ (sign_items c.sign ++ is) ≡ is
first-none c is h = go c.operations c.sign h where
  go : (os : List Operation) (sign : Option PrefixSign) → (is_nil os && is_none sign) ≡ true → operations_items os ++ (sign_items sign ++ is) ≡ is
  go [] None e = refl
  go [] (Some sign) e = cc
  go (o ∷ os) sign e = cc

-- a guard is read
abbrev pub IsGuard : Part → Type 0
IsGuard (GuardPart pat arrow from done sep word) = Unit {0}
IsGuard _ = ⊥

-- a generator without a separator
gen-with-read : (part : Part) (o : Option Expr) (t : Option Infix) (is : List Item) (gen : Gen) → ((e : Expr) → o ≡ Some e → expr_items e ≡ is) → ((test : Infix) → t ≡ Some test → IsGuard part → infix_items test ≡ is)
    → gen_with part o t ≡ Some gen → gen_items gen ≡ part_items part ++ is
gen-with-read PatPart o t is gen f g e = cc
gen-with-read (FromPart pat arrow) None t is gen f g e = cc
gen-with-read (FromPart pat arrow) (Some from) t is gen f g e =
    let same : GenOf pat arrow from NoGuards ≡ gen = cc in
    ap gen_items (sym same) ∙ ap (λ js. tokens (pat_tokens pat) ++ OneToken (back_arrow_token arrow) ∷ js) (append-nil (expr_items from) ∙ f from refl)
    ∙ sym (append_assoc (tokens (pat_tokens pat)) (OneToken (back_arrow_token arrow) ∷ []) is)
gen-with-read (GuardPart pat arrow from done sep word) o None is gen f g e = cc
gen-with-read (GuardPart pat arrow from done sep word) o (Some test) is gen f g e =
    let same : GenOf pat arrow from (guards_before done (MoreGuards sep word test NoGuards)) ≡ gen = cc in
    ap gen_items (sym same)
    ∙ ap (λ js. tokens (pat_tokens pat) ++ OneToken (back_arrow_token arrow) ∷ (expr_items from ++ js)) (guards-items done (MoreGuards sep word test NoGuards))
    ∙ ap (λ js. tokens (pat_tokens pat) ++ OneToken (back_arrow_token arrow) ∷ (expr_items from ++ (done_guards_items done ++ (tokens (sep_tokens sep) ++ OneToken (word_at (codes "if") word) ∷ (js ++ [])))))
    (g test refl tt)
    ∙ go (tokens (pat_tokens pat)) (expr_items from) (done_guards_items done) (tokens (sep_tokens sep))
  where
    go : (a b d s : List Item)
        → a ++ OneToken (back_arrow_token arrow) ∷ (b ++ (d ++ (s ++ OneToken (word_at (codes "if") word) ∷ (is ++ []))))
        ≡ (a ++ (OneToken (back_arrow_token arrow) ∷ (b ++ (d ++ (s ++ OneToken (word_at (codes "if") word) ∷ []))))) ++ is
    go a b d s = simp (append_assoc, append-nil)

pub alone : (part : Part) (c : Context) → GuardAlone part c → IsGuard part → c.heads ≡ []
alone (GuardPart pat arrow from done sep word) c a w = a
alone PatPart c a w = absurd w
alone (FromPart pat arrow) c a w = absurd w

done-read : (part : Part) (o : Option Gen) (sep : Sep) (is : List Item) (d : DoneGen) → done_gen o sep ≡ Some d → ((gen : Gen) → o ≡ Some gen → gen_items gen ≡ part_items part ++ is)
    → gen_items d.gen ++ tokens (sep_tokens d.sep) ≡ part_items part ++ (is ++ tokens (sep_tokens sep))
done-read part None sep is d f same = cc
done-read part (Some gen) sep is d f same =
    ap (λ o. gen_or o d ++ sep_or o d) (sym f) ∙ ap (λ js. js ++ tokens (sep_tokens sep)) (same gen refl) ∙ append_assoc (part_items part) is (tokens (sep_tokens sep))
  where
    gen_or : Option DoneGen → DoneGen → List Item
    gen_or None other = gen_items other.gen
    gen_or (Some k) other = gen_items k.gen

    sep_or : Option DoneGen → DoneGen → List Item
    sep_or None other = tokens (sep_tokens other.sep)
    sep_or (Some k) other = tokens (sep_tokens k.sep)

-- the generator that ends here, with its separator
pub gen-read : (part : Part) (c : Context) (s : Tail) (d : DoneGen) → Fits (at c s) → SemiFirst s c → GuardAlone part c → gen_at part s (at c s) ≡ Some d
    → gen_items d.gen ++ tokens (sep_tokens d.sep) ≡ part_items part ++ context_items (at c s)
gen-read part c (AtSemi expr p ps) d fit first g e =
    let o = unless (waits c.heads) (headed_all c.heads (Some expr)) in
    let is = heads_items c.heads ++ expr_items expr in
    done-read part (gen_with part o None) (p ∷ ps) is d e (λ gen h. gen-with-read part o None is gen exprs (λ test k w. cc) h)
    ∙ ap (λ js. part_items part ++ js)
    (append_assoc (heads_items c.heads) (expr_items expr) (tokens (sep_tokens (p ∷ ps)))
    ∙ ap (λ js. heads_items c.heads ++ js) (sym (first-none c (expr_items expr ++ tokens (sep_tokens (p ∷ ps))) first)))
  where
    exprs : (x : Expr) → unless (waits c.heads) (headed_all c.heads (Some expr)) ≡ Some x → expr_items x ≡ heads_items c.heads ++ expr_items expr
    exprs x k = go (waits c.heads) k where
      go : (w : Bool) → unless w (headed_all c.heads (Some expr)) ≡ Some x → expr_items x ≡ heads_items c.heads ++ expr_items expr
      go true f = cc
      go false f = headed-read c.heads expr x f
gen-read part c (AtGuardSemi test p ps) d fit first g e =
    let is = heads_items c.heads ++ infix_items test in
    done-read part (gen_with part None (Some test)) (p ∷ ps) is d e (λ gen h. gen-with-read part None (Some test) is gen (λ x k. cc) tests h)
    ∙ ap (λ js. part_items part ++ js)
    (append_assoc (heads_items c.heads) (infix_items test) (tokens (sep_tokens (p ∷ ps)))
    ∙ ap (λ js. heads_items c.heads ++ js) (sym (first-none c (infix_items test ++ tokens (sep_tokens (p ∷ ps))) first)))
  where
    tests : (t : Infix) → Some test ≡ Some t → IsGuard part → infix_items t ≡ heads_items c.heads ++ infix_items test
    tests t k w = (let same : test ≡ t = cc in ap infix_items (sym same) ∙ ap (λ hs. heads_items hs ++ infix_items test) (sym (alone part c g w)))
gen-read part c s d fit first g e =
    done-read part (gen_with part (ended_expr (at c s)) (chain_at (at c s))) [] (context_items (at c s)) d e
    (λ gen h. gen-with-read part (ended_expr (at c s)) (chain_at (at c s)) (context_items (at c s)) gen (λ x k. expr-read (at c s) x fit k) (λ test k w. chain-read (at c s) test (alone part c g w) k) h)
    ∙ ap (λ js. part_items part ++ js) (append-nil (context_items (at c s)))

-- `)` behind the last generator
pub gens-closed : (word o p : Place) (done : List DoneGen) (part : Part) (c outer : Context) (fs : List Frame) → Fits c → SemiFirst c.tail c → GuardAlone part c → is_first outer ≡ true
    → Adds (in_state fs (behind_gens word o done p outer (gen_at part c.tail c))) (items_in (state (frame (GensBracket word o done part) outer ∷ fs) c)) (OneToken (close_round p))
gens-closed word o p done part c outer fs fit s g first = go (gen_at part c.tail c) refl where
  before : State
  before = state (frame (GensBracket word o done part) outer ∷ fs) c

  head : (gen : Gen) → gen_items gen ++ [] ≡ part_items part ++ context_items c
      → enums_items (enums_before done (LastGen gen)) ≡ done_gens_items done ++ (part_items part ++ context_items c)
  head gen e = enums-items done (LastGen gen) ∙ ap (λ is. done_gens_items done ++ is) (sym (append-nil (gen_items gen)) ∙ e)

  by : (gen : Gen) (sep : Sep) → gen_items gen ++ tokens (sep_tokens sep) ≡ part_items part ++ context_items c
      → Adds (in_state fs (behind_gens word o done p outer (Some (record { gen = gen; sep = sep })))) (items_in before) (OneToken (close_round p))
  by gen (q ∷ qs) e = adds-none _ _
  by gen [] e =
      headed-bracket fs outer c (GensBracket word o done part) (Of (ForRound word o (enums_before done (LastGen gen)) p None)) (OneToken (close_round p)) first
      (ap (λ is. OneToken (word_at (codes "for") word) ∷ OneToken (open_round o) ∷ (is ++ OneToken (close_round p) ∷ [])) (head gen e)
      ∙ again (done_gens_items done) (part_items part) (context_items c))
    where
      again : (a b d : List Item)
          → OneToken (word_at (codes "for") word) ∷ OneToken (open_round o) ∷ ((a ++ (b ++ d)) ++ OneToken (close_round p) ∷ [])
          ≡ (OneToken (word_at (codes "for") word) ∷ OneToken (open_round o) ∷ (a ++ b)) ++ (d ++ OneToken (close_round p) ∷ [])
      again a b d = simp append_assoc

  go : (k : Option DoneGen) → gen_at part c.tail c ≡ k → Adds (in_state fs (behind_gens word o done p outer k)) (items_in before) (OneToken (close_round p))
  go None e = adds-none _ _
  go (Some d) e = by d.gen d.sep (gen-read part c c.tail d fit s g e)

-- before the next generator nothing is read yet: the separator was part of what ended
pub next-read : (word o : Place) (done : List DoneGen) (part : Part) (c outer : Context) (n : Newline) (fs : List Frame) (t : State) → Fits c → SemiFirst c.tail c → GuardAlone part c
    → next_in (gen_at part c.tail c) word o done outer n fs ≡ Some t → items_in t ≡ items_in (state (frame (GensBracket word o done part) outer ∷ fs) c)
next-read word o done part c outer n fs t fit s g e = go (gen_at part c.tail c) refl e where
  go : (k : Option DoneGen) → gen_at part c.tail c ≡ k → next_in k word o done outer n fs ≡ Some t → items_in t ≡ items_in (state (frame (GensBracket word o done part) outer ∷ fs) c)
  go None f h = cc
  go (Some d) f h = by (is_apart d.sep n) h where
    next : State
    next = state (frame (GensBracket word o (d ∷ done) PatPart) outer ∷ fs) next_pattern

    again : (f h os sg a b x : List Item)
        → (f ++ (h ++ (os ++ (sg ++ (OneToken (word_at (codes "for") word) ∷ OneToken (open_round o) ∷ ((a ++ (b ++ x)) ++ [])))))) ++ []
        ≡ (f ++ (h ++ (os ++ (sg ++ (OneToken (word_at (codes "for") word) ∷ OneToken (open_round o) ∷ (a ++ b)))))) ++ x
    again f h os sg a b x = simp (append_assoc, append-nil)

    same : items_in next ≡ items_in (state (frame (GensBracket word o done part) outer ∷ fs) c)
    same =
        ap (λ is. (before_items fs outer (OneToken (word_at (codes "for") word) ∷ OneToken (open_round o) ∷ ((done_gens_items done ++ is) ++ []))) ++ []) (gen-read part c c.tail d fit s g f)
        ∙ again (frames_items fs) (heads_items outer.heads) (operations_items outer.operations) (sign_items outer.sign) (done_gens_items done) (part_items part) (context_items c)

    by : (b : Bool) → (if b then Some next else None) ≡ Some t → items_in t ≡ items_in (state (frame (GensBracket word o done part) outer ∷ fs) c)
    by true k = (let is : next ≡ t = cc in ap items_in (sym is) ∙ same)
    by false k = cc

-- ---- patterns

abbrev pub pattern_context : patterns.State → Context
pattern_context p = at (fresh limit.Expr) (InPattern p)

pub pattern-tokens : (p : patterns.State) (pat : Pat) → pattern_of p ≡ Some pat → pat_tokens pat ≡ pattern_tokens_in p
pattern-tokens p pat e = go p.frames (patterns.alternative_at p.current) refl refl e where
  go : (fs : List patterns.Frame) (o : Option Pat1) → p.frames ≡ fs → patterns.alternative_at p.current ≡ o → pattern_read fs p.earlier o ≡ Some pat → pat_tokens pat ≡ pattern_tokens_in p
  go [] (Some d) f g h =
      let same : patterns.pat_read p.earlier d ≡ pat = cc in
      ap pat_tokens (sym same) ∙ read-tokens p.earlier d ∙ ap (λ xs. earlier_tokens p.earlier ++ xs) (alternative-tokens p.current d g)
      ∙ sym (ap (λ fs. patterns.frames_tokens fs ++ (earlier_tokens p.earlier ++ patterns.current_tokens p.current)) f)
  go [] None f g h = cc
  go (k ∷ fs) o f g h = cc

-- `<-` behind the pattern of a generator
arrowed-adds : (o : Option Pat) (arrow : BackArrow) (p : patterns.State) (fs : List Frame) → pattern_of p ≡ o
    → Adds (arrowed o arrow fs) (items_in (state fs (pattern_context p))) (OneToken (back_arrow_token arrow))
arrowed-adds o arrow p [] e = adds-none _ _
arrowed-adds None arrow p (f ∷ fs) e = adds-none _ _
arrowed-adds (Some pat) arrow p (f ∷ fs) e = go f.bracket where
  go : (b : Bracket) → Adds (arrowed_in (Some pat) arrow b f.outer fs) (items_in (state (frame b f.outer ∷ fs) (pattern_context p))) (OneToken (back_arrow_token arrow))
  go (GensBracket word o done PatPart) =
      parted-bracket fs f.outer (pattern_context p) (GensBracket word o done PatPart) (GensBracket word o done (FromPart pat arrow)) (OneToken (back_arrow_token arrow)) (fresh limit.Expr) refl
      (ap (λ xs. OneToken (word_at (codes "for") word) ∷ OneToken (open_round o) ∷ (done_gens_items done ++ (tokens xs ++ OneToken (back_arrow_token arrow) ∷ []))) (pattern-tokens p pat e)
      ∙ again (done_gens_items done) (tokens (pattern_tokens_in p)))
    where
      again : (a b : List Item)
          → OneToken (word_at (codes "for") word) ∷ OneToken (open_round o) ∷ (a ++ (b ++ OneToken (back_arrow_token arrow) ∷ []))
          ≡ (OneToken (word_at (codes "for") word) ∷ OneToken (open_round o) ∷ (a ++ [])) ++ (b ++ OneToken (back_arrow_token arrow) ∷ [])
      again a b = simp append-nil
  go _ = adds-none _ _

pub in_pattern-adds : (y : Seen) (x : Lexeme) (p : patterns.State) (fs : List Frame) → shown_token y ≡ x → Adds (in_pattern y x p fs) (items_in (state fs (pattern_context p))) (OneToken x)
in_pattern-adds (ABackArrow arrow) x p fs e = λ t f. arrowed-adds (pattern_of p) arrow p fs refl t f ∙ ap (λ z. items_in (state fs (pattern_context p)) ++ OneToken z ∷ []) e
in_pattern-adds y x p fs e = adds-if (is_generator_token p.current y) _ _ _ _ (λ h. go (patterns.step p x) refl) (λ h. adds-none _ _) where
  go : (o : Option patterns.State) → patterns.step p x ≡ o → Adds (pattern_in fs o) (items_in (state fs (pattern_context p))) (OneToken x)
  go None f = adds-none _ _
  go (Some q) f =
      adds-some _ _ _ (ap (λ xs. frames_items fs ++ tokens xs) (step-adds p x q f) ∙ ap (λ is. frames_items fs ++ is) (tokens-append (pattern_tokens_in p) (x ∷ []))
      ∙ sym (append_assoc (frames_items fs) (tokens (pattern_tokens_in p)) (OneToken x ∷ [])))
