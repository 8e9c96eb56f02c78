-- The derivations in a state keep what the grammar asks of them, so what was read of a whole state is a pattern.
use Rattle.std.proofs.Common.{◌≡◌, Bool, true, false, if◌then◌else◌, List, [], ◌∷◌, ◌++◌, Option, Some, None, refl, ap, sym, ◌∙◌, append_assoc, append-nil, subst}
use Rattle.reading_machines.specs.Machines.{run, onward}
use Rattle.scan_tokens.specs.declared.tokens.Newline.{Newline}
use Rattle.scan_tokens.specs.declared.tokens.Newline.TheVariants.{No, One, Blank}
use Rattle.source_grammar.specs.Lexemes.{Place, Lexeme, open_round, underscore, Id, id_token, Step, QualId, literal_token, Number, number_token}
use Rattle.source_grammar.specs.Newlines.{IsJoined, is_near, newline_before}
use Rattle.source_grammar.specs.Patterns.{Pat, Pat1, Pat3, SPat, PatList, LastAlternative, MoreAlternatives, LastOperand, MoreOperands, WildPat, LiteralPat, LastPat, MorePats, pat_tokens, pat1_tokens, pat3_tokens, spat_tokens, is_var, is_var_path, is_bar, pat3_operators, ProperPat, ProperPat1, ProperPat3, ProperSPat, ProperPatList}
use Rattle.source_grammar.specs.Precedence.{are_of_one_side}
use Rattle.source_grammar.specs.Types.{SimpleType}
use Rattle.parse_parts.proofs.Derived as types
use Rattle.parse_parts.proofs.Derived.{longer}
use Rattle.parse_patterns.specs.Steps.{is_no}
use Rattle.parse_patterns.proofs.Along.{front-newline}
use Rattle.parse_patterns.proofs.Begun.{Begins, Some_begins, some-append, some-behind, spat-begins, pat1-begins, stands, stands-first, stands-front}
use Rattle.parse_patterns.proofs.Derived.{Operation, Binder, Done, Earlier, Tail, Begin, AtWild, AtPath, AtDot, AtEnded, Subject, VarSubject, WildSubject, Current, InType, InInfix, Bracket, Call, Group, GroupOne, GroupTwo, Frame, State, settled, bound, typed, alternated, listed, named_pat, spat_of, simple_in, typed_at, infix_at, alternative_at, pat_read, may_stand, fits, when, at, fresh, framed, parted_in, closed_as, closed, emptied_as, emptied_in, barred, ended_by, ended, operated, behind, named, is_minus_path, started, numbered, coloned, signed, opened, shut, dotted, moved, moved_in, step_at, step, tail_tokens, operations_tokens, binder_tokens, subject_tokens, bracket_tokens}
use Rattle.parse_patterns.proofs.Seen.{Seen, AnId, ANumber, ALiteral, AnUnderscore, AColon, AnAt, OpensRound, ClosesRound, AComma, ADot, Another, seen, literal_of, number-literal}
use Rattle.parse_patterns.proofs.Sides.{operators_of, fits-side}
use Rattle.parse_patterns.proofs.SimpleTypes.{simple_step, can_be_simple, simple-can}
use Rattle.parse_patterns.proofs.Sound.{bound-tokens, spat-tokens, minus-token, both}

-- ---- what is kept

abbrev pub NearIf : List Operation → Newline → Type 0
NearIf [] before = Unit {0}
NearIf (o ∷ os) before = is_near before ≡ true

pub record GoodOperations (os : List Operation) : Type 0 where
  pub one_side : are_of_one_side (operators_of os) ≡ true
  pub proper : (d : Pat3) → ProperPat3 d → NearIf os (newline_before (pat3_tokens d)) → ProperPat3 (settled os d)

abbrev pub GoodBinder : Option Binder → Type 0
GoodBinder None = Unit {0}
GoodBinder (Some b) = (is_var b.id ≡ true) × IsJoined b.sign

abbrev pub GoodEarlier : List Earlier → Type 0
GoodEarlier es = (d : Pat) → ProperPat d → stands None [] es (pat_tokens d) ≡ true → ProperPat (alternated es d)

-- what stands before these tokens, and how they may begin
pub record GoodLevel (es : List Earlier) (b : Option Binder) (os : List Operation) (xs : List Lexeme) : Type 0 where
  pub here : stands b os es xs ≡ true
  pub front : stands None [] es (binder_tokens b ++ (operations_tokens os ++ xs)) ≡ true
  pub operations : GoodOperations os
  pub binder : GoodBinder b
  pub earlier : GoodEarlier es

abbrev pub GoodTail : Tail → Type 0
GoodTail (AtEnded d) = ProperSPat d
GoodTail _ = Unit {0}

abbrev pub GoodSubject : Subject → Type 0
GoodSubject (VarSubject id) = is_var id ≡ true
GoodSubject (WildSubject place) = Unit {0}

pub record GoodTyped (es : List Earlier) (s : Subject) (point : Place) (t : types.State) : Type 0 where
  pub subject : GoodSubject s
  pub front : stands None [] es (subject_tokens s point) ≡ true
  pub earlier : GoodEarlier es
  pub can : can_be_simple t ≡ true

pub record GoodInfix (es : List Earlier) (b : Option Binder) (os : List Operation) (tail : Tail) : Type 0 where
  pub level : GoodLevel es b os (tail_tokens tail)
  pub tail_is : GoodTail tail

abbrev pub GoodCurrent : List Earlier → Current → Type 0
GoodCurrent es (InType s point t) = GoodTyped es s point t
GoodCurrent es (InInfix b os tail) = GoodInfix es b os tail

abbrev pub GoodDone : List Done → Type 0
GoodDone [] = Unit {0}
GoodDone (d ∷ done) = ProperPat d.pat × GoodDone done

abbrev pub GoodBracket : Bracket → Type 0
GoodBracket (Call path o done) = IsJoined o × GoodDone done
GoodBracket (Group o) = Unit {0}
GoodBracket (GroupOne o a p) = ProperPat a
GoodBracket (GroupTwo o a p b q) = ProperPat a × ProperPat b

pub record GoodFrame (f : Frame) : Type 0 where
  pub level : GoodLevel f.earlier f.binder f.operations (bracket_tokens f.bracket)
  pub bracket : GoodBracket f.bracket

abbrev pub GoodFrames : List Frame → Type 0
GoodFrames [] = Unit {0}
GoodFrames (f ∷ fs) = GoodFrame f × GoodFrames fs

pub record Good (s : State) : Type 0 where
  pub frames : GoodFrames s.frames
  pub current : GoodCurrent s.earlier s.current

-- ---- tests

is-no : (n : Newline) → is_no n ≡ true → n ≡ No
is-no No e = refl
is-no One e = cc
is-no Blank e = cc

stands-joined : (e : Earlier) (es : List Earlier) (xs : List Lexeme) → stands None [] (e ∷ es) xs ≡ true → newline_before xs ≡ No
stands-joined e es [] h = refl
stands-joined e es (x ∷ xs) h = is-no x.place.before h

stands-near : (b : Option Binder) (os : List Operation) (es : List Earlier) (xs : List Lexeme) → stands b os es xs ≡ true → NearIf os (newline_before xs)
stands-near b [] es xs h = tt
stands-near b (o ∷ os) es [] h = refl
stands-near b (o ∷ os) es (x ∷ xs) h = h

var-is : (path : QualId) → is_var_path path.first path.steps ≡ true → is_var path.first ≡ true
var-is path e = go path.steps e where
  go : (steps : List Step) → is_var_path path.first steps ≡ true → is_var path.first ≡ true
  go [] e = e
  go (s ∷ steps) e = cc

proper-named : (path : QualId) (v : Bool) → is_var_path path.first path.steps ≡ v → ProperSPat (named_pat v path)
proper-named path true e = var-is path e
proper-named path false e = e

proper-tail : (tail : Tail) (d : SPat) → GoodTail tail → spat_of tail ≡ Some d → ProperSPat d
proper-tail (AtWild place) d g e = (let h : WildPat place ≡ d = cc in subst ProperSPat h tt)
proper-tail (AtPath path) d g e = (let h : named_pat (is_var_path path.first path.steps) path ≡ d = cc in subst ProperSPat h (proper-named path _ refl))
proper-tail (AtEnded x) d g e = (let h : x ≡ d = cc in subst ProperSPat h g)
proper-tail _ d g e = cc

pub settled-operators : (os : List Operation) (d : Pat3) → pat3_operators (settled os d) ≡ operators_of os ++ pat3_operators d
settled-operators [] d = refl
settled-operators (o ∷ os) d = settled-operators os (MoreOperands o.left o.operator d) ∙ sym (append_assoc (operators_of os) (o.operator ∷ []) (pat3_operators d))

-- ---- what ends

-- the alternative that is read
proper-infix : (es : List Earlier) (b : Option Binder) (os : List Operation) (tail : Tail) (d : SPat) → GoodInfix es b os tail → spat_of tail ≡ Some d
    → ProperPat1 (bound b (settled os (LastOperand d)))
proper-infix es b os tail d g e = go b g.level.binder where
  whole : ProperPat3 (settled os (LastOperand d))
  whole = g.level.operations.proper (LastOperand d) (proper-tail tail d g.tail_is e)
      (stands-near b os es (spat_tokens d) (ap (stands b os es) (spat-tokens tail d e) ∙ g.level.here))

  one : are_of_one_side (pat3_operators (settled os (LastOperand d))) ≡ true
  one = ap are_of_one_side (settled-operators os (LastOperand d) ∙ append-nil (operators_of os)) ∙ g.level.operations.one_side

  go : (c : Option Binder) → GoodBinder c → ProperPat1 (bound c (settled os (LastOperand d)))
  go None k = (one, whole)
  go (Some c) k = (k.0, k.1, one, whole)

proper-typed : (s : Subject) (point : Place) (type : SimpleType) → GoodSubject s → ProperPat1 (typed s point type)
proper-typed (VarSubject id) point type g = g
proper-typed (WildSubject place) point type g = tt

pub record Ready (es : List Earlier) (d : Pat1) : Type 0 where
  pub proper : ProperPat1 d
  pub front : stands None [] es (pat1_tokens d) ≡ true
  pub earlier : GoodEarlier es

subject-front : (s : Subject) (point : Place) (type : SimpleType) (es : List Earlier) → stands None [] es (subject_tokens s point) ≡ true → stands None [] es (pat1_tokens (typed s point type)) ≡ true
subject-front (VarSubject id) point type es h = h
subject-front (WildSubject place) point type es h = h

pub ready : (es : List Earlier) (current : Current) (d : Pat1) → GoodCurrent es current → alternative_at current ≡ Some d → Ready es d
ready es (InType s point t) d g e = go (simple_in t.frames t.heads t.tail) e where
  go : (o : Option SimpleType) → typed_at s point o ≡ Some d → Ready es d
  go None f = cc
  go (Some type) f =
      let h : typed s point type ≡ d = cc in
      subst (Ready es) h (record { proper = proper-typed s point type g.subject; front = subject-front s point type es g.front; earlier = g.earlier })
ready es (InInfix b os tail) d g e = go (spat_of tail) refl e where
  go : (o : Option SPat) → spat_of tail ≡ o → infix_at b os o ≡ Some d → Ready es d
  go None was f = cc
  go (Some x) was f =
      let h : bound b (settled os (LastOperand x)) ≡ d = cc in
      subst (Ready es) h (record {
        proper = proper-infix es b os tail x g was;
        front = ap (stands None [] es) (bound-tokens b os x ∙ ap (λ xs. binder_tokens b ++ (operations_tokens os ++ xs)) (spat-tokens tail x was)) ∙ g.level.front;
        earlier = g.level.earlier;
      })

-- the pattern of all alternatives
pub proper-read : (es : List Earlier) (d : Pat1) → Ready es d → ProperPat (pat_read es d)
proper-read es d r = r.earlier (LastAlternative d) r.proper r.front

-- ---- levels

good-none : GoodOperations []
good-none = record { one_side = refl; proper = λ d p n. p }

good-fresh : (es : List Earlier) → GoodEarlier es → GoodCurrent es fresh
good-fresh es g = record { level = record { here = refl; front = refl; operations = good-none; binder = tt; earlier = g }; tail_is = tt }

no-earlier : GoodEarlier []
no-earlier d p h = p

-- other tokens that begin with the same one
level-same : (es : List Earlier) (b : Option Binder) (os : List Operation) (x : Lexeme) (xs ys : List Lexeme) → Begins x xs → Begins x ys → GoodLevel es b os xs → GoodLevel es b os ys
level-same es b os x xs ys p q g = record {
  here = stands-first b os es x xs ys p q g.here;
  front = go (binder_tokens b ++ operations_tokens os) refl;
  operations = g.operations;
  binder = g.binder;
  earlier = g.earlier;
} where
  go : (before : List Lexeme) → binder_tokens b ++ operations_tokens os ≡ before → stands None [] es (binder_tokens b ++ (operations_tokens os ++ ys)) ≡ true
  go [] e =
      ap (stands None [] es) (sym (append_assoc (binder_tokens b) (operations_tokens os) ys) ∙ ap (λ zs. zs ++ ys) e)
      ∙ stands-first None [] es x xs ys p q (ap (stands None [] es) (sym (sym (append_assoc (binder_tokens b) (operations_tokens os) xs) ∙ ap (λ zs. zs ++ xs) e)) ∙ g.front)
  go (z ∷ before) e =
      ap (stands None [] es) (sym (append_assoc (binder_tokens b) (operations_tokens os) ys) ∙ ap (λ zs. zs ++ ys) e)
      ∙ sym (ap (stands None [] es) (sym (append_assoc (binder_tokens b) (operations_tokens os) xs) ∙ ap (λ zs. zs ++ xs) e)) ∙ g.front

operations-begin : (o : Operation) (os : List Operation) → Some_begins (operations_tokens (o ∷ os))
operations-begin o os = some-behind (operations_tokens os) _ (some-append (spat_tokens o.left) _ (spat-begins o.left))

-- a first token
front-first : (es : List Earlier) (b : Option Binder) (os : List Operation) (x : Lexeme) (ys : List Lexeme) → stands None [] es (binder_tokens b ++ (operations_tokens os ++ [])) ≡ true
    → may_stand b os es x.place.before ≡ true → stands None [] es (binder_tokens b ++ (operations_tokens os ++ x ∷ ys)) ≡ true
front-first es (Some b) os x ys f h = f
front-first es None [] x ys f h = h
front-first es None (o ∷ os) x ys f h =
    stands-front None [] es (operations_tokens (o ∷ os)) (x ∷ ys) (operations-begin o os) (ap (stands None [] es) (sym (append-nil (operations_tokens (o ∷ os)))) ∙ f)

level-first : (es : List Earlier) (b : Option Binder) (os : List Operation) (x : Lexeme) (ys : List Lexeme) → GoodLevel es b os [] → may_stand b os es x.place.before ≡ true
    → GoodLevel es b os (x ∷ ys)
level-first es b os x ys g h = record { here = h; front = front-first es b os x ys g.front h; operations = g.operations; binder = g.binder; earlier = g.earlier }

-- one operator more
operations-more : (os : List Operation) (d : SPat) (id : Id) → GoodOperations os → ProperSPat d → NearIf os (newline_before (spat_tokens d)) → is_bar id ≡ false → IsJoined id.place
    → fits os id ≡ true → GoodOperations (record { left = d; operator = id } ∷ os)
operations-more os d id g p near k n f = record {
  one_side = fits-side os id g.one_side f;
  proper = λ pat q after. g.proper (MoreOperands d id pat) (p, k, n, after, q) (subst (NearIf os) (sym (front-newline d (id_token id ∷ pat3_tokens pat))) near);
}

level-more : (es : List Earlier) (b : Option Binder) (os : List Operation) (tail : Tail) (d : SPat) (id : Id) → GoodInfix es b os tail → spat_of tail ≡ Some d → is_bar id ≡ false
    → is_no id.place.before ≡ true → fits os id ≡ true → GoodInfix es b (record { left = d; operator = id } ∷ os) Begin
level-more es b os tail d id g e k n f =
    let there : stands b os es (spat_tokens d) ≡ true = ap (stands b os es) (spat-tokens tail d e) ∙ g.level.here in
    let front : stands None [] es (binder_tokens b ++ (operations_tokens os ++ spat_tokens d)) ≡ true =
    ap (λ xs. stands None [] es (binder_tokens b ++ (operations_tokens os ++ xs))) (spat-tokens tail d e) ∙ g.level.front in
    record {
      level = record {
        here = refl;
        front = ap (stands None [] es) (go (binder_tokens b) (operations_tokens os) (spat_tokens d))
            ∙ stands-front None [] es (binder_tokens b ++ (operations_tokens os ++ spat_tokens d)) (id_token id ∷ [])
            (some-behind (binder_tokens b) _ (some-behind (operations_tokens os) _ (spat-begins d))) front;
        operations = operations-more os d id g.level.operations (proper-tail tail d g.tail_is e) (stands-near b os es (spat_tokens d) there) k (is-no id.place.before n) f;
        binder = g.level.binder;
        earlier = g.level.earlier;
      };
      tail_is = tt;
    }
  where
    go : (x y z : List Lexeme) → x ++ ((y ++ (z ++ id_token id ∷ [])) ++ []) ≡ (x ++ (y ++ z)) ++ id_token id ∷ []
    go x y z = simp (append_assoc, append-nil)

-- one alternative more
earlier-more : (es : List Earlier) (d : Pat1) (stroke : Place) → Ready es d → IsJoined stroke → GoodEarlier (record { pat = d; stroke = stroke } ∷ es)
earlier-more es d stroke r n pat p h =
    r.earlier (MoreAlternatives d stroke pat) (r.proper, n, stands-joined (record { pat = d; stroke = stroke }) es (pat_tokens pat) h, p)
    (stands-front None [] es (pat1_tokens d) _ (pat1-begins d) r.front)

-- ---- one token more

abbrev pub GoodOr : Option State → Type 0
GoodOr o = (s : State) → o ≡ Some s → Good s

or-none : GoodOr None
or-none s e = cc

or-some : (s : State) → Good s → GoodOr (Some s)
or-some s g t e = (let same : s ≡ t = cc in subst Good same g)

or-when : (c : Bool) (s : State) → (c ≡ true → Good s) → GoodOr (when c s)
or-when true s g = or-some s (g refl)
or-when false s g = or-none

listed-proper : (done : List Done) (d : PatList) → GoodDone done → ProperPatList d → ProperPatList (listed done d)
listed-proper [] d g p = p
listed-proper (e ∷ done) d g p = listed-proper done (MorePats e.pat e.place d) g.1 (g.0, p)

closed-proper : (c : Place) (pat : Pat) (k : Bracket) → GoodBracket k → ProperPat pat → ProperSPat (closed_as c pat k)
closed-proper c pat (Call path o done) g p = (g.0, listed-proper done (LastPat pat) g.1 p)
closed-proper c pat (Group o) g p = p
closed-proper c pat (GroupOne o a q) g p = (g, p)
closed-proper c pat (GroupTwo o a q b r) g p = (g.0, g.1, p)

-- both begin as the bracket does
closed-begins : (c : Place) (pat : Pat) (k : Bracket) → (x : Lexeme) × Begins x (bracket_tokens k) × Begins x (spat_tokens (closed_as c pat k))
closed-begins c pat (Call path o done) = (_, record { rest = _; is = refl }, record { rest = _; is = refl })
closed-begins c pat (Group o) = (_, record { rest = _; is = refl }, record { rest = _; is = refl })
closed-begins c pat (GroupOne o a p) = (_, record { rest = _; is = refl }, record { rest = _; is = refl })
closed-begins c pat (GroupTwo o a p b q) = (_, record { rest = _; is = refl }, record { rest = _; is = refl })

closed-good : (c : Place) (pat : Pat) (fs : List Frame) → GoodFrames fs → ProperPat pat → GoodOr (closed c pat fs)
closed-good c pat [] g p = or-none
closed-good c pat (f ∷ fs) g p =
    let b = closed-begins c pat f.bracket in
    or-some _ (record {
      frames = g.1;
      current = record {
        level = level-same f.earlier f.binder f.operations b.0 _ _ b.1 b.2 g.0.level;
        tail_is = closed-proper c pat f.bracket g.0.bracket p;
      };
    })

framed-good : (k : Bracket) (f : Frame) (fs : List Frame) (x : Lexeme) → Begins x (bracket_tokens f.bracket) → Begins x (bracket_tokens k) → GoodFrame f → GoodFrames fs → GoodBracket k
    → GoodOr (Some (framed k f fs))
framed-good k f fs x p q g h b = or-some _ (record {
  frames = (record { level = level-same f.earlier f.binder f.operations x _ _ p q g.level; bracket = b }, h);
  current = good-fresh [] no-earlier;
})

parted-good : (c : Place) (pat : Pat) (k : Bracket) (f : Frame) (fs : List Frame) → f.bracket ≡ k → GoodFrame f → GoodFrames fs → ProperPat pat → GoodOr (parted_in c pat k f fs)
parted-good c pat (Call path o done) f fs e g h p =
    let b : GoodBracket (Call path o done) = subst GoodBracket e g.bracket in
    framed-good _ f fs (id_token path.first) (record { rest = _; is = ap bracket_tokens e }) (record { rest = _; is = refl }) g h (b.0, (p, b.1))
parted-good c pat (Group o) f fs e g h p =
    framed-good _ f fs (open_round o) (record { rest = _; is = ap bracket_tokens e }) (record { rest = _; is = refl }) g h p
parted-good c pat (GroupOne o a q) f fs e g h p =
    let b : GoodBracket (GroupOne o a q) = subst GoodBracket e g.bracket in
    framed-good _ f fs (open_round o) (record { rest = _; is = ap bracket_tokens e }) (record { rest = _; is = refl }) g h (b, p)
parted-good c pat (GroupTwo o a q b r) f fs e g h p = or-none

barred-good : (stroke : Place) (d : Pat1) (es : List Earlier) (fs : List Frame) → GoodFrames fs → Ready es d → is_no stroke.before ≡ true → Good (barred stroke d es fs)
barred-good stroke d es fs g r n = record { frames = g; current = good-fresh _ (earlier-more es d stroke r (is-no stroke.before n)) }

ended-by-good : (y : Seen) (d : Pat1) (es : List Earlier) (fs : List Frame) → GoodFrames fs → Ready es d → GoodOr (ended_by y d es fs)
ended-by-good (AnId id) d es fs g r = or-when _ _ (λ h. barred-good id.place d es fs g r (both (is_bar id) _ h).1)
ended-by-good (AComma c) d es [] g r = or-none
ended-by-good (AComma c) d es (f ∷ fs) g r = parted-good c (pat_read es d) f.bracket f fs refl g.0 g.1 (proper-read es d r)
ended-by-good (ClosesRound c) d es fs g r = closed-good c (pat_read es d) fs g (proper-read es d r)
ended-by-good _ d es fs g r = or-none

ended-good : (y : Seen) (current : Current) (o : Option Pat1) (es : List Earlier) (fs : List Frame) → alternative_at current ≡ o → GoodFrames fs → GoodCurrent es current → GoodOr (ended y o es fs)
ended-good y current None es fs e g h = or-none
ended-good y current (Some d) es fs e g h = ended-by-good y d es fs g (ready es current d h e)

-- ---- one token after the other

started-good : (x : Lexeme) (n : Newline) (b : Option Binder) (os : List Operation) (tail next : Tail) (es : List Earlier) (fs : List Frame) → tail_tokens next ≡ x ∷ [] → x.place.before ≡ n
    → GoodTail next → GoodFrames fs → GoodInfix es b os tail → GoodOr (started n b os tail next es fs)
started-good x n b os Begin next es fs e m k g i = or-when _ _ (λ h. record {
  frames = g;
  current = record { level = subst (GoodLevel es b os) (sym e) (level-first es b os x [] i.level (ap (may_stand b os es) m ∙ h)); tail_is = k };
})
started-good x n b os _ next es fs e m k g i = or-none

operated-good : (k : Bool) (id : Id) (b : Option Binder) (os : List Operation) (tail : Tail) (d : SPat) (es : List Earlier) (fs : List Frame) → is_bar id ≡ k → spat_of tail ≡ Some d
    → is_no id.place.before ≡ true → GoodFrames fs → GoodInfix es b os tail → GoodOr (operated k id b os d es fs)
operated-good true id b os tail d es fs k e n g i =
    or-some _ (barred-good id.place _ es fs g (ready es (InInfix b os tail) _ i (ap (infix_at b os) e)) n)
operated-good false id b os tail d es fs k e n g i = or-when _ _ (λ h. record { frames = g; current = level-more es b os tail d id i e k n h })

behind-good : (id : Id) (b : Option Binder) (os : List Operation) (tail : Tail) (o : Option SPat) (es : List Earlier) (fs : List Frame) → spat_of tail ≡ o
    → GoodFrames fs → GoodInfix es b os tail → GoodOr (behind id b os o es fs)
behind-good id b os tail None es fs e g i = or-none
behind-good id b os tail (Some d) es fs e g i = go (is_no id.place.before) refl where
  go : (n : Bool) → is_no id.place.before ≡ n → GoodOr (if n then operated (is_bar id) id b os d es fs else None)
  go true n = operated-good (is_bar id) id b os tail d es fs refl e n g i
  go false n = or-none

named-good : (id : Id) (b : Option Binder) (os : List Operation) (tail : Tail) (es : List Earlier) (fs : List Frame) → GoodFrames fs → GoodInfix es b os tail → GoodOr (named id b os tail es fs)
named-good id b os Begin es fs g i =
    or-when _ _ (λ h. record { frames = g; current = record { level = level-first es b os (id_token id) [] i.level h; tail_is = tt } })
named-good id b os (AtDot path d) es fs g i = or-some _ (record {
  frames = g;
  current = record {
    level = level-same es b os (id_token path.first) _ _ (record { rest = _; is = refl }) (record { rest = _; is = refl }) i.level;
    tail_is = tt;
  };
})
named-good id b os tail es fs g i = behind-good id b os tail (spat_of tail) es fs refl g i

numbered-good : (n : Number) (b : Option Binder) (os : List Operation) (tail : Tail) (es : List Earlier) (fs : List Frame) → GoodFrames fs → GoodInfix es b os tail → GoodOr (numbered n b os tail es fs)
numbered-good n b os Begin es fs g i =
    started-good (literal_token (literal_of n)) n.place.before b os Begin (AtEnded (LiteralPat (literal_of n))) es fs refl (ap (λ x. x.place.before) (number-literal n)) tt g i
numbered-good n b os (AtPath path) es fs g i = or-when _ _ (λ h.
    let k = both (is_minus_path path) _ h in
    record {
      frames = g;
      current = record {
        level = level-same es b os (id_token path.first) _ _ (record { rest = _; is = refl })
            (record { rest = _; is = ap (λ x. x ∷ number_token n ∷ []) (minus-token path k.0) }) i.level;
        tail_is = is-no n.place.before k.1;
      };
    })
numbered-good n b os _ es fs g i = or-none

coloned-good : (p : Place) (b : Option Binder) (os : List Operation) (tail : Tail) (es : List Earlier) (fs : List Frame) → GoodFrames fs → GoodInfix es b os tail → GoodOr (coloned p b os tail es fs)
coloned-good p None [] (AtWild place) es fs g i =
    or-some _ (record { frames = g; current = record { subject = tt; front = i.level.front; earlier = i.level.earlier; can = refl } })
coloned-good p None (o ∷ os) (AtWild place) es fs g i = or-none
coloned-good p (Some b) os (AtWild place) es fs g i = or-none
coloned-good p None [] (AtPath path) es fs g i = or-when _ _ (λ h. record {
  frames = g;
  current = record { subject = var-is path (both (is_var_path path.first path.steps) true h).0; front = i.level.front; earlier = i.level.earlier; can = refl };
})
coloned-good p None (o ∷ os) (AtPath path) es fs g i = or-when _ _ (λ h. (let k = (both (is_var_path path.first path.steps) false h).1 in cc))
coloned-good p (Some b) os (AtPath path) es fs g i = or-when _ _ (λ h. (let k = (both (is_var_path path.first path.steps) false h).1 in cc))
coloned-good p b os _ es fs g i = or-none

signed-good : (p : Place) (b : Option Binder) (os : List Operation) (tail : Tail) (es : List Earlier) (fs : List Frame) → GoodFrames fs → GoodInfix es b os tail → GoodOr (signed p b os tail es fs)
signed-good p None [] (AtPath path) es fs g i = or-when _ _ (λ h.
    let k = both (is_var_path path.first path.steps) (is_no p.before) h in
    record {
      frames = g;
      current = record {
        level = record { here = refl; front = i.level.front; operations = good-none; binder = (var-is path k.0, is-no p.before k.1); earlier = i.level.earlier };
        tail_is = tt;
      };
    })
signed-good p None (o ∷ os) (AtPath path) es fs g i = or-when _ _ (λ h. (let k = (both (is_var_path path.first path.steps) false h).1 in cc))
signed-good p (Some b) os (AtPath path) es fs g i = or-when _ _ (λ h. (let k = (both (is_var_path path.first path.steps) false h).1 in cc))
signed-good p b os _ es fs g i = or-none

opened-good : (o : Place) (b : Option Binder) (os : List Operation) (tail : Tail) (es : List Earlier) (fs : List Frame) → GoodFrames fs → GoodInfix es b os tail → GoodOr (opened o b os tail es fs)
opened-good o b os Begin es fs g i = or-when _ _ (λ h. record {
  frames = (record { level = level-first es b os (open_round o) [] i.level h; bracket = tt }, g);
  current = good-fresh [] no-earlier;
})
opened-good o b os (AtPath path) es fs g i = or-when _ _ (λ h. record {
  frames = (
    record {
      level = level-same es b os (id_token path.first) _ _ (record { rest = _; is = refl }) (record { rest = _; is = refl }) i.level;
      bracket = (is-no o.before h, tt);
    },
    g,
  );
  current = good-fresh [] no-earlier;
})
opened-good o b os _ es fs g i = or-none

emptied-in-good : (c : Place) (k : Bracket) (f : Frame) (fs : List Frame) → f.bracket ≡ k → GoodFrame f → GoodFrames fs → GoodOr (emptied_in (emptied_as c k) f fs)
emptied-in-good c (Call path o []) f fs e g h = or-some _ (record {
  frames = h;
  current = record {
    level = level-same f.earlier f.binder f.operations (id_token path.first) _ _ (record { rest = _; is = ap bracket_tokens e }) (record { rest = _; is = refl }) g.level;
    tail_is = (let b : GoodBracket (Call path o []) = subst GoodBracket e g.bracket in b.0);
  };
})
emptied-in-good c (Call path o (d ∷ done)) f fs e g h = or-none
emptied-in-good c (Group o) f fs e g h = or-some _ (record {
  frames = h;
  current = record {
    level = level-same f.earlier f.binder f.operations (open_round o) _ _ (record { rest = _; is = ap bracket_tokens e }) (record { rest = _; is = refl }) g.level;
    tail_is = tt;
  };
})
emptied-in-good c _ f fs e g h = or-none

shut-good : (c : Place) (b : Option Binder) (os : List Operation) (tail : Tail) (es : List Earlier) (fs : List Frame) → GoodFrames fs → GoodInfix es b os tail → GoodOr (shut c b os tail es fs)
shut-good c None [] Begin [] [] g i = or-none
shut-good c None [] Begin [] (f ∷ fs) g i = emptied-in-good c f.bracket f fs refl g.0 g.1
shut-good c None [] Begin (e ∷ es) fs g i = or-none
shut-good c None (o ∷ os) Begin es fs g i = or-none
shut-good c (Some b) os Begin es fs g i = or-none
shut-good c b os tail es fs g i = ended-good (ClosesRound c) (InInfix b os tail) _ es fs refl g i

dotted-good : (d : Place) (b : Option Binder) (os : List Operation) (tail : Tail) (es : List Earlier) (fs : List Frame) → GoodFrames fs → GoodInfix es b os tail → GoodOr (dotted d b os tail es fs)
dotted-good d b os (AtPath path) es fs g i = or-some _ (record {
  frames = g;
  current = record { level = level-same es b os (id_token path.first) _ _ (record { rest = _; is = refl }) (record { rest = _; is = refl }) i.level; tail_is = tt };
})
dotted-good d b os _ es fs g i = or-none

moved-good : (y : Seen) (b : Option Binder) (os : List Operation) (tail : Tail) (es : List Earlier) (fs : List Frame) → GoodFrames fs → GoodInfix es b os tail → GoodOr (moved y b os tail es fs)
moved-good (AnId id) b os tail es fs g i = named-good id b os tail es fs g i
moved-good (ANumber n) b os tail es fs g i = numbered-good n b os tail es fs g i
moved-good (ALiteral l) b os tail es fs g i = started-good (literal_token l) _ b os tail _ es fs refl refl tt g i
moved-good (AnUnderscore p) b os tail es fs g i = started-good (underscore p) _ b os tail _ es fs refl refl tt g i
moved-good (AColon p) b os tail es fs g i = coloned-good p b os tail es fs g i
moved-good (AnAt p) b os tail es fs g i = signed-good p b os tail es fs g i
moved-good (OpensRound o) b os tail es fs g i = opened-good o b os tail es fs g i
moved-good (ClosesRound c) b os tail es fs g i = shut-good c b os tail es fs g i
moved-good (AComma c) b os tail es fs g i = ended-good (AComma c) (InInfix b os tail) _ es fs refl g i
moved-good (ADot d) b os tail es fs g i = dotted-good d b os tail es fs g i
moved-good (Another x) b os tail es fs g i = or-none

typed-good : (t : types.State) (x : Lexeme) (s : Subject) (point : Place) (es : List Earlier) (fs : List Frame) (o : Option types.State) → simple_step t x ≡ o → GoodFrames fs → GoodTyped es s point t
    → GoodOr (moved_in o s point (alternative_at (InType s point t)) (seen x) es fs)
typed-good t x s point es fs None e g i = ended-good (seen x) (InType s point t) _ es fs refl g i
typed-good t x s point es fs (Some u) e g i =
    or-some _ (record { frames = g; current = record { subject = i.subject; front = i.front; earlier = i.earlier; can = simple-can t x u e i.can } })

step-at-good : (current : Current) (x : Lexeme) (es : List Earlier) (fs : List Frame) → GoodFrames fs → GoodCurrent es current → GoodOr (step_at current x es fs)
step-at-good (InType s point t) x es fs g i = typed-good t x s point es fs (simple_step t x) refl g i
step-at-good (InInfix b os tail) x es fs g i = moved-good (seen x) b os tail es fs g i

pub step-good : (s : State) (x : Lexeme) (t : State) → Good s → step s x ≡ Some t → Good t
step-good s x t g e = step-at-good s.current x s.earlier s.frames g.frames g.current t e

pub run-good : (xs : List Lexeme) (s t : State) → run step xs s ≡ Some t → Good s → Good t
run-good [] s t e g = (let same : s ≡ t = cc in subst Good same g)
run-good (x ∷ xs) s t e g = go (step s x) refl e (λ u r. run-good xs u t r) where
  go : (o : Option State) → step s x ≡ o → onward o None (run step xs) ≡ Some t → ((u : State) → run step xs u ≡ Some t → Good u → Good t) → Good t
  go None was f on = cc
  go (Some u) was f on = on u f (step-at-good s.current x s.earlier s.frames g.frames g.current u was)

pub start-good : Good (at [] [] fresh)
start-good = record { frames = tt; current = good-fresh [] no-earlier }
