-- The machine reads exactly the patterns, and each of its states can still become one.
use Rattle.std.proofs.Common.{◌≡◌, true, List, [], ◌∷◌, ◌++◌, Option, Some, None, refl, ap, sym, ◌∙◌, append-nil, subst}
use Rattle.reading_machines.specs.Machines.{run, onward}
use Rattle.reading_machines.specs.Parts.{CanBegin}
use Rattle.reading_machines.specs.Laws.{ReadsExactly}
use Rattle.reading_machines.proofs.Runs.{run-append}
use Rattle.positioned_trees.specs.declared.trees.Tree.{Tree}
use Rattle.source_grammar.specs.Lexemes.{Place, Lexeme, close_round, underscore, id_token}
use Rattle.source_grammar.specs.Patterns.{Pat, Pat1, SPat, IsPattern, ProperPat, pat_tokens, pat_tree}
use Rattle.source_grammar.specs.Types.{SimpleType}
use Rattle.parse_parts.proofs.Derived as types
use Rattle.parse_parts.proofs.Derived.{longer, is_some}
use Rattle.parse_parts.proofs.Seen as types_seen
use Rattle.parse_parts.specs.Parting.{IsSomePart}
use Rattle.parse_patterns.proofs.Alive.{any_place, an_id, Completed, completed}
use Rattle.parse_patterns.proofs.Along.{Leads, leads-none, leads-then, leads-one, id-step, when-true, type-leads, earlier_of, last_pat1, after, proper-last1, alternated-there, alternative-there, pat-along}
use Rattle.parse_patterns.proofs.Derived.{Operation, Binder, Earlier, Tail, Begin, AtWild, AtPath, AtDot, AtEnded, Subject, Current, InType, InInfix, Frame, State, simple_in, typed_at, alternative_at, pat_read, may_stand, at, ended_at, closed_as, ended, moved_in, step, whole_at, machine, tokens_in, earlier_tokens}
use Rattle.parse_patterns.proofs.Good.{Good, GoodCurrent, ready, proper-read, run-good, start-good}
use Rattle.parse_patterns.proofs.Seen.{ClosesRound}
use Rattle.parse_patterns.proofs.SimpleTypes.{goes, leaves}
use Rattle.parse_patterns.proofs.Sound.{run-adds, read-tokens, alternative-tokens}

-- ---- complete

pub pat-runs : (d : Pat) → ProperPat d → (xs : List Lexeme) → xs ≡ pat_tokens d → run step xs (machine).start ≡ Some (after [] [] d)
pat-runs d p xs e = ap (λ ys. run step ys (machine).start) (e ∙ sym (append-nil (pat_tokens d))) ∙ (pat-along d p [] [] refl).runs []

-- ---- sound

-- the pattern that was read, in a whole state
pub record Whole (xs : List Lexeme) (s : State) : Type 0 where
  pub last : Pat1
  pub alone : s.frames ≡ []
  pub ends : alternative_at s.current ≡ Some last
  pub proper : ProperPat (pat_read s.earlier last)
  pub tokens : xs ≡ pat_tokens (pat_read s.earlier last)

pub whole-is : (xs : List Lexeme) (s : State) → run step xs (machine).start ≡ Some s → whole_at s.frames s.current ≡ true → Whole xs s
whole-is xs s r w = go s.frames (alternative_at s.current) refl refl w where
  good : Good s
  good = run-good xs (machine).start s r start-good

  go : (fs : List Frame) (o : Option Pat1) → s.frames ≡ fs → alternative_at s.current ≡ o → whole_at s.frames s.current ≡ true → Whole xs s
  go [] (Some d) f e t = record {
    last = d;
    alone = f;
    ends = e;
    proper = proper-read s.earlier d (ready s.earlier s.current d good.current e);
    tokens = sym (run-adds xs (machine).start s r) ∙ ap (λ fs. tokens_in (at fs s.earlier s.current)) f
        ∙ sym (read-tokens s.earlier d ∙ ap (λ ys. earlier_tokens s.earlier ++ ys) (alternative-tokens s.current d e));
  }
  go [] None f e t =
      let g : whole_at [] s.current ≡ true = subst (λ k. whole_at k s.current ≡ true) f t in
      let h : is_some {A = Pat1} None ≡ true = subst (λ k. is_some k ≡ true) e g in cc
  go (k ∷ fs) o f e t = let g : whole_at (k ∷ fs) s.current ≡ true = subst (λ k. whole_at k s.current ≡ true) f t in cc

-- ---- alive

-- others lead to where an alternative ends, in the same brackets
record Revived (fs : List Frame) (s : State) : Type 0 where
  others : List Lexeme
  earlier : List Earlier
  current : Current
  last : Pat1
  leads : Leads others s (at fs earlier current)
  ends : alternative_at current ≡ Some last

any-stands : (b : Option Binder) (os : List Operation) (es : List Earlier) → may_stand b os es (any_place).before ≡ true
any-stands b (o ∷ os) es = refl
any-stands None [] [] = refl
any-stands None [] (e ∷ es) = refl
any-stands (Some b) [] es = refl

revived-infix : (fs : List Frame) (es : List Earlier) (b : Option Binder) (os : List Operation) (tail : Tail) → Revived fs (at fs es (InInfix b os tail))
revived-infix fs es b os Begin = record {
  others = underscore any_place ∷ [];
  earlier = es;
  current = InInfix b os (AtWild any_place);
  last = _;
  leads = leads-one (underscore any_place) _ _ (when-true _ _ (any-stands b os es));
  ends = refl;
}
revived-infix fs es b os (AtWild place) = record { others = []; earlier = es; current = InInfix b os (AtWild place); last = _; leads = leads-none _; ends = refl }
revived-infix fs es b os (AtPath path) = record { others = []; earlier = es; current = InInfix b os (AtPath path); last = _; leads = leads-none _; ends = refl }
revived-infix fs es b os (AtDot path d) = record {
  others = id_token an_id ∷ [];
  earlier = es;
  current = InInfix b os (AtPath (longer path d an_id));
  last = _;
  leads = leads-one (id_token an_id) _ _ (id-step an_id fs es b os (AtDot path d));
  ends = refl;
}
revived-infix fs es b os (AtEnded d) = record { others = []; earlier = es; current = InInfix b os (AtEnded d); last = _; leads = leads-none _; ends = refl }

revived-type : (fs : List Frame) (es : List Earlier) (s : Subject) (point : Place) (t : types.State) → Completed t → Revived fs (at fs es (InType s point t))
revived-type fs es s point t c = record {
  others = c.others;
  earlier = es;
  current = InType s point c.end;
  last = _;
  leads = type-leads c.others s point fs es t c.end c.runs;
  ends = ap (typed_at s point) c.ends;
}

revived : (s : State) → Good s → Revived s.frames s
revived s g = go s.current g.current where
  go : (current : Current) → GoodCurrent s.earlier current → Revived s.frames (at s.frames s.earlier current)
  go (InType subject point t) h = revived-type s.frames s.earlier subject point t (completed t.frames t.heads t.tail h.can)
  go (InInfix b os tail) h = revived-infix s.frames s.earlier b os tail

join : (fs gs : List Frame) (xs : List Lexeme) (s t : State) → Leads xs s t → Revived gs t → Revived gs s
join fs gs xs s t l r = record { others = xs ++ r.others; earlier = r.earlier; current = r.current; last = r.last; leads = leads-then xs r.others s t _ l r.leads; ends = r.ends }

-- an alternative that ends can be followed by the end of its bracket
simple-closes : (t : types.State) (s : Subject) (point : Place) (fs : List types.Frame) (hs : List types.Head) (type : SimpleType) (es : List Earlier) (gs : List Frame) → t.frames ≡ fs
    → simple_in fs hs t.tail ≡ Some type → step (at gs es (InType s point t)) (close_round any_place) ≡ ended (ClosesRound any_place) (alternative_at (InType s point t)) es gs
simple-closes t s point [] hs type es gs f e =
    ap (λ o. moved_in o s point (alternative_at (InType s point t)) (ClosesRound any_place) es gs) (none t.frames f)
  where
    none : (fs : List types.Frame) → fs ≡ [] → goes (leaves (types_seen.ClosesRound any_place) fs t.tail) (types.round_ended any_place t.tail t.heads fs) ≡ None
    none [] g = refl
    none (k ∷ fs) g = cc
simple-closes t s point (k ∷ fs) hs type es gs f e = cc

close-step : (current : Current) (d : Pat1) (es : List Earlier) (gs : List Frame) → alternative_at current ≡ Some d
    → step (at gs es current) (close_round any_place) ≡ ended (ClosesRound any_place) (Some d) es gs
close-step (InType s point t) d es gs e = go (simple_in t.frames t.heads t.tail) refl e where
  go : (o : Option SimpleType) → simple_in t.frames t.heads t.tail ≡ o → typed_at s point o ≡ Some d → step (at gs es (InType s point t)) (close_round any_place) ≡ ended (ClosesRound any_place) (Some d) es gs
  go None was f = cc
  go (Some type) was f = simple-closes t s point t.frames t.heads type es gs refl was ∙ ap (λ o. ended (ClosesRound any_place) o es gs) e
close-step (InInfix b os Begin) d es gs e = cc
close-step (InInfix b os (AtWild place)) d es gs e = ap (λ o. ended (ClosesRound any_place) o es gs) e
close-step (InInfix b os (AtPath path)) d es gs e = ap (λ o. ended (ClosesRound any_place) o es gs) e
close-step (InInfix b os (AtDot path p)) d es gs e = cc
close-step (InInfix b os (AtEnded x)) d es gs e = ap (λ o. ended (ClosesRound any_place) o es gs) e

-- the brackets are closed one after another
closed : (fs : List Frame) (es : List Earlier) (current : Current) (d : Pat1) → alternative_at current ≡ Some d → Revived [] (at fs es current)
closed [] es current d e = record { others = []; earlier = es; current = current; last = d; leads = leads-none _; ends = e }
closed (f ∷ fs) es current d e =
    let x : SPat = closed_as any_place (pat_read es d) f.bracket in
    join fs [] (close_round any_place ∷ []) _ (ended_at f.binder f.operations f.earlier fs x) (leads-one (close_round any_place) _ _ (close-step current d es (f ∷ fs) e))
    (closed fs f.earlier (InInfix f.binder f.operations (AtEnded x)) _ refl)

alive : (s : State) → Good s → Revived [] s
alive s g = let r = revived s g in join s.frames [] r.others s (at s.frames r.earlier r.current) r.leads (closed s.frames r.earlier r.current r.last r.ends)

sound : (xs : List Lexeme) (s : State) → run step xs (machine).start ≡ Some s → whole_at s.frames s.current ≡ true → IsSomePart IsPattern xs
sound xs s r w =
    let whole = whole-is xs s r w in
    record { tree = pat_tree (pat_read s.earlier whole.last); is = record { derivation = pat_read s.earlier whole.last; proper = whole.proper; tokens = whole.tokens; built = refl } }

begins : (xs : List Lexeme) (s : State) → run step xs (machine).start ≡ Some s → CanBegin (IsSomePart IsPattern) xs
begins xs s r =
    let v = alive s (run-good xs (machine).start s r start-good) in
    let there : State = at [] v.earlier v.current in
    let on : run step v.others s ≡ Some there = ap (λ ys. run step ys s) (sym (append-nil v.others)) ∙ v.leads.runs [] in
    record {
      others = v.others;
      part = sound (xs ++ v.others) there (run-append step xs v.others (machine).start ∙ ap (λ o. onward o None (run step v.others)) r ∙ on) (ap is_some v.ends);
    }

pub reads-patterns : ReadsExactly (IsSomePart IsPattern) machine
reads-patterns = record {
  complete = λ xs is. (
    after [] [] is.is.derivation,
    pat-runs is.is.derivation is.is.proper xs is.is.tokens,
    ap is_some (alternative-there (last_pat1 is.is.derivation) (proper-last1 is.is.derivation is.is.proper)),
  );
  sound = sound;
  alive = begins;
}

-- the tokens of a pattern have one derivation
pub one-derivation : (d e : Pat) → ProperPat d → ProperPat e → pat_tokens d ≡ pat_tokens e → d ≡ e
one-derivation d e p q same =
    let states : Some (after [] [] d) ≡ Some (after [] [] e) = sym (pat-runs d p (pat_tokens d) refl) ∙ pat-runs e q (pat_tokens d) same in
    let there : after [] [] d ≡ after [] [] e = cc in
    let lasts : Some (last_pat1 d) ≡ Some (last_pat1 e) =
    sym (alternative-there (last_pat1 d) (proper-last1 d p)) ∙ ap (λ s. alternative_at s.current) there ∙ alternative-there (last_pat1 e) (proper-last1 e q) in
    let last : last_pat1 d ≡ last_pat1 e = cc in
    sym (alternated-there d []) ∙ ap (λ s. pat_read s.earlier (last_pat1 d)) there ∙ ap (pat_read (earlier_of e [])) last ∙ alternated-there e []

pub one-tree : (xs : List Lexeme) (t u : Tree) → IsPattern xs t → IsPattern xs u → t ≡ u
one-tree xs t u a b = a.built ∙ ap pat_tree (one-derivation a.derivation b.derivation a.proper b.proper (sym a.tokens ∙ b.tokens)) ∙ sym b.built
