-- What was read is the tokens of the derivations in the state.
use Rattle.std.proofs.Common.{◌≡◌, Bool, true, false, ◌&&◌, if◌then◌else◌, List, [], ◌∷◌, ◌++◌, Option, Some, None, codes, refl, ap, sym, ◌∙◌, append_assoc, append-nil, subst}
use Rattle.std.specs.Prelude.{not}
use Rattle.std.specs.Str.{bytes_eq}
use Rattle.std.proofs.lemmas.Slice.Eq.{bytes_eq-Decides}
use Rattle.reading_machines.specs.Machines.{run, onward}
use Rattle.scan_tokens.specs.declared.tokens.Newline.{Newline}
use Rattle.scan_tokens.specs.declared.tokens.TokenKind.TheVariants as kind
use Rattle.scan_tokens.specs.Words.{Bytes}
use Rattle.source_grammar.specs.Lexemes.{Place, Lexeme, token_at, open_round, close_round, comma, dot, underscore, colon, at_sign, bar, minus, Id, id_token, Step, QualId, steps_tokens, qual_id_tokens, literal_token, Number, number_token}
use Rattle.source_grammar.specs.Patterns.{Pat, Pat1, Pat3, SPat, PatList, LastAlternative, MoreAlternatives, LastOperand, MoreOperands, WildPat, CallPatOfNone, UnitPat, LastPat, MorePats, pat_tokens, pat1_tokens, pat3_tokens, spat_tokens, pat_list_tokens, is_var_path, is_bar}
use Rattle.source_grammar.specs.Types.{SimpleType, simple_tokens}
use Rattle.parse_parts.proofs.Derived as types
use Rattle.parse_parts.proofs.Derived.{longer}
use Rattle.parse_parts.proofs.Sound as types_sound
use Rattle.parse_parts.proofs.Sound.{tokens_in as type_tokens_in}
use Rattle.parse_patterns.specs.Steps.{is_no}
use Rattle.parse_patterns.proofs.Derived.{Operation, Binder, Done, Earlier, Tail, Begin, AtWild, AtPath, AtDot, AtEnded, Subject, VarSubject, WildSubject, Current, InType, InInfix, Bracket, Call, Group, GroupOne, GroupTwo, Frame, State, settled, bound, typed, alternated, listed, named_pat, spat_of, simple_in, typed_at, infix_at, alternative_at, pat_read, is_fresh, has_none, when, at, framed, parted_in, parted, closed_as, closed, emptied_as, emptied_in, emptied, barred, ended_by, ended, operated, behind, named, is_minus_path, started, numbered, coloned, signed, opened, shut, dotted, moved, moved_in, step_at, step, tail_tokens, operations_tokens, binder_tokens, subject_tokens, current_tokens, earlier_tokens, done_tokens, bracket_tokens, frames_tokens, tokens_in}
use Rattle.parse_patterns.proofs.Seen.{Seen, AnId, ANumber, ALiteral, AnUnderscore, AColon, AnAt, OpensRound, ClosesRound, AComma, ADot, Another, seen, shown_token, token-shown, number-literal}
use Rattle.parse_patterns.proofs.SimpleTypes.{simple_step, simple-step-is}

-- ---- the tokens of derivations

pub settled-tokens : (os : List Operation) (d : Pat3) → pat3_tokens (settled os d) ≡ operations_tokens os ++ pat3_tokens d
settled-tokens [] d = refl
settled-tokens (o ∷ os) d = settled-tokens os (MoreOperands o.left o.operator d) ∙ go (operations_tokens os) (spat_tokens o.left) (pat3_tokens d) where
  go : (a b c : List Lexeme) → a ++ (b ++ id_token o.operator ∷ c) ≡ (a ++ (b ++ id_token o.operator ∷ [])) ++ c
  go a b c = simp append_assoc

pub bound-tokens : (b : Option Binder) (os : List Operation) (d : SPat) → pat1_tokens (bound b (settled os (LastOperand d))) ≡ binder_tokens b ++ (operations_tokens os ++ spat_tokens d)
bound-tokens None os d = settled-tokens os (LastOperand d)
bound-tokens (Some b) os d = ap (λ xs. id_token b.id ∷ at_sign b.sign ∷ xs) (settled-tokens os (LastOperand d))

alternated-tokens : (es : List Earlier) (d : Pat) → pat_tokens (alternated es d) ≡ earlier_tokens es ++ pat_tokens d
alternated-tokens [] d = refl
alternated-tokens (e ∷ es) d = alternated-tokens es (MoreAlternatives e.pat e.stroke d) ∙ go (earlier_tokens es) (pat1_tokens e.pat) (pat_tokens d) where
  go : (a b c : List Lexeme) → a ++ (b ++ bar e.stroke ∷ c) ≡ (a ++ (b ++ bar e.stroke ∷ [])) ++ c
  go a b c = simp append_assoc

pub read-tokens : (es : List Earlier) (d : Pat1) → pat_tokens (pat_read es d) ≡ earlier_tokens es ++ pat1_tokens d
read-tokens es d = alternated-tokens es (LastAlternative d)

listed-tokens : (done : List Done) (d : PatList) → pat_list_tokens (listed done d) ≡ done_tokens done ++ pat_list_tokens d
listed-tokens [] d = refl
listed-tokens (e ∷ done) d = listed-tokens done (MorePats e.pat e.place d) ∙ go (done_tokens done) (pat_tokens e.pat) (pat_list_tokens d) where
  go : (a b c : List Lexeme) → a ++ (b ++ comma e.place ∷ c) ≡ (a ++ (b ++ comma e.place ∷ [])) ++ c
  go a b c = simp append_assoc

var-path : (path : QualId) → is_var_path path.first path.steps ≡ true → path.steps ≡ []
var-path path e = go path.steps e where
  go : (steps : List Step) → is_var_path path.first steps ≡ true → steps ≡ []
  go [] e = refl
  go (s ∷ steps) e = cc

named-tokens : (path : QualId) (v : Bool) → is_var_path path.first path.steps ≡ v → spat_tokens (named_pat v path) ≡ qual_id_tokens path
named-tokens path true e = ap (λ steps. id_token path.first ∷ steps_tokens steps) (sym (var-path path e))
named-tokens path false e = refl

pub spat-tokens : (tail : Tail) (d : SPat) → spat_of tail ≡ Some d → spat_tokens d ≡ tail_tokens tail
spat-tokens (AtWild place) d e = (let h : WildPat place ≡ d = cc in ap spat_tokens (sym h))
spat-tokens (AtPath path) d e = (let h : named_pat (is_var_path path.first path.steps) path ≡ d = cc in ap spat_tokens (sym h) ∙ named-tokens path _ refl)
spat-tokens (AtEnded x) d e = (let h : x ≡ d = cc in ap spat_tokens (sym h))
spat-tokens _ d e = cc

pub typed-tokens : (s : Subject) (point : Place) (type : SimpleType) → pat1_tokens (typed s point type) ≡ subject_tokens s point ++ simple_tokens type
typed-tokens (VarSubject id) point type = refl
typed-tokens (WildSubject place) point type = refl

simple-in-tokens : (t : types.State) (fs : List types.Frame) (hs : List types.Head) (type : SimpleType) → t.frames ≡ fs → t.heads ≡ hs
    → simple_in fs hs t.tail ≡ Some type → simple_tokens type ≡ type_tokens_in t
simple-in-tokens t [] [] type f h e =
    types_sound.simple-tokens t.tail type e ∙ sym (ap (λ fs. types.state_tokens fs t.heads t.tail) f ∙ ap (λ hs. types.state_tokens [] hs t.tail) h)
simple-in-tokens t [] (k ∷ hs) type f h e = cc
simple-in-tokens t (k ∷ fs) hs type f h e = cc

pub alternative-tokens : (current : Current) (d : Pat1) → alternative_at current ≡ Some d → pat1_tokens d ≡ current_tokens current
alternative-tokens (InType s point t) d e = go (simple_in t.frames t.heads t.tail) refl e where
  go : (o : Option SimpleType) → simple_in t.frames t.heads t.tail ≡ o → typed_at s point o ≡ Some d → pat1_tokens d ≡ subject_tokens s point ++ type_tokens_in t
  go None was f = cc
  go (Some type) was f =
      let h : typed s point type ≡ d = cc in
      ap pat1_tokens (sym h) ∙ typed-tokens s point type ∙ ap (λ xs. subject_tokens s point ++ xs) (simple-in-tokens t t.frames t.heads type refl refl was)
alternative-tokens (InInfix b os tail) d e = go (spat_of tail) refl e where
  go : (o : Option SPat) → spat_of tail ≡ o → infix_at b os o ≡ Some d → pat1_tokens d ≡ binder_tokens b ++ (operations_tokens os ++ tail_tokens tail)
  go None was f = cc
  go (Some x) was f =
      let h : bound b (settled os (LastOperand x)) ≡ d = cc in
      ap pat1_tokens (sym h) ∙ bound-tokens b os x ∙ ap (λ xs. binder_tokens b ++ (operations_tokens os ++ xs)) (spat-tokens tail x was)

-- ---- one token more

-- the state that a step gives has this token behind the others
abbrev Adds : Option State → List Lexeme → Lexeme → Type 0
Adds o xs x = (s : State) → o ≡ Some s → tokens_in s ≡ xs ++ x ∷ []

adds-none : (xs : List Lexeme) (x : Lexeme) → Adds None xs x
adds-none xs x s e = cc

adds-some : (s : State) (xs : List Lexeme) (x : Lexeme) → tokens_in s ≡ xs ++ x ∷ [] → Adds (Some s) xs x
adds-some s xs x h t e = let same : s ≡ t = cc in ap tokens_in (sym same) ∙ h

adds-when : (c : Bool) (s : State) (xs : List Lexeme) (x : Lexeme) → (c ≡ true → tokens_in s ≡ xs ++ x ∷ []) → Adds (when c s) xs x
adds-when true s xs x h = adds-some s xs x (h refl)
adds-when false s xs x h = adds-none xs x

pub both : (x y : Bool) → (x && y) ≡ true → (x ≡ true) × (y ≡ true)
both true true e = (refl, refl)
both true false e = cc
both false y e = cc

-- the tail alone has one token more
at-tail : (fs : List Frame) (es : List Earlier) (b : Option Binder) (os : List Operation) (old new : List Lexeme) (x : Lexeme) → new ≡ old ++ x ∷ []
    → frames_tokens fs ++ (earlier_tokens es ++ (binder_tokens b ++ (operations_tokens os ++ new)))
    ≡ (frames_tokens fs ++ (earlier_tokens es ++ (binder_tokens b ++ (operations_tokens os ++ old)))) ++ x ∷ []
at-tail fs es b os old new x e =
    ap (λ ys. frames_tokens fs ++ (earlier_tokens es ++ (binder_tokens b ++ (operations_tokens os ++ ys)))) e
    ∙ go (frames_tokens fs) (earlier_tokens es) (binder_tokens b) (operations_tokens os) old
  where
    go : (f e b o old : List Lexeme) → f ++ (e ++ (b ++ (o ++ (old ++ x ∷ [])))) ≡ (f ++ (e ++ (b ++ (o ++ old)))) ++ x ∷ []
    go f e b o old = simp append_assoc

started-adds : (x : Lexeme) (n : Newline) (b : Option Binder) (os : List Operation) (tail next : Tail) (es : List Earlier) (fs : List Frame) → tail_tokens next ≡ x ∷ []
    → Adds (started n b os tail next es fs) (tokens_in (at fs es (InInfix b os tail))) x
started-adds x n b os Begin next es fs e = adds-when _ _ _ _ (λ h. at-tail fs es b os [] _ x e)
started-adds x n b os _ next es fs e = adds-none _ _

same-word : (w v : Bytes) → bytes_eq w v ≡ true → w ≡ v
same-word w v e = (bytes_eq-Decides w v).0 e

plain-id : (id : Id) (word : Bytes) → (not id.quoted && bytes_eq id.name word) ≡ true → token_at kind.Id word id.place ≡ id_token id
plain-id id word e = go id.quoted e where
  go : (q : Bool) → (not q && bytes_eq id.name word) ≡ true → token_at kind.Id word id.place ≡ token_at (if q then kind.BackId else kind.Id) id.name id.place
  go true f = cc
  go false f = ap (λ w. token_at kind.Id w id.place) (sym (same-word id.name word f))

bar-is : (id : Id) → is_bar id ≡ true → bar id.place ≡ id_token id
bar-is id e = plain-id id (codes "|") e

pub minus-token : (path : QualId) → is_minus_path path ≡ true → minus path.first.place ≡ id_token path.first
minus-token path e = plain-id path.first (codes "-") (both (not (is_var_path path.first path.steps)) _ (both (has_none path.steps) _ e).1).1

minus-is : (path : QualId) → is_minus_path path ≡ true → minus path.first.place ∷ [] ≡ qual_id_tokens path
minus-is path e = go path.steps (both (has_none path.steps) _ e).0 where
  go : (steps : List Step) → has_none steps ≡ true → minus path.first.place ∷ [] ≡ id_token path.first ∷ steps_tokens steps
  go [] f = ap (λ x. x ∷ []) (minus-token path e)
  go (s ∷ steps) f = cc

-- ---- what ends an alternative

closed-as-tokens : (c : Place) (pat : Pat) (k : Bracket) → spat_tokens (closed_as c pat k) ≡ bracket_tokens k ++ (pat_tokens pat ++ close_round c ∷ [])
closed-as-tokens c pat (Call path o done) =
    ap (λ xs. qual_id_tokens path ++ open_round o ∷ (xs ++ close_round c ∷ [])) (listed-tokens done (LastPat pat)) ∙ go (qual_id_tokens path) (done_tokens done) (pat_tokens pat)
  where
    go : (q d p : List Lexeme) → q ++ open_round o ∷ ((d ++ p) ++ close_round c ∷ []) ≡ (q ++ open_round o ∷ d) ++ (p ++ close_round c ∷ [])
    go q d p = simp append_assoc
closed-as-tokens c pat (Group o) = refl
closed-as-tokens c pat (GroupOne o a p) = go (pat_tokens a) (pat_tokens pat) where
  go : (a b : List Lexeme) → open_round o ∷ (a ++ comma p ∷ (b ++ close_round c ∷ [])) ≡ open_round o ∷ (a ++ comma p ∷ []) ++ (b ++ close_round c ∷ [])
  go a b = simp append_assoc
closed-as-tokens c pat (GroupTwo o x p y q) = go (pat_tokens x) (pat_tokens y) (pat_tokens pat) where
  go : (a b d : List Lexeme) → open_round o ∷ (a ++ comma p ∷ (b ++ comma q ∷ (d ++ close_round c ∷ []))) ≡ (open_round o ∷ (a ++ comma p ∷ (b ++ comma q ∷ []))) ++ (d ++ close_round c ∷ [])
  go a b d = simp append_assoc

abbrev pub bracket_parted : Place → Pat → Bracket → Bracket
bracket_parted c pat (Call path o done) = Call path o (record { pat = pat; place = c } ∷ done)
bracket_parted c pat (Group o) = GroupOne o pat c
bracket_parted c pat (GroupOne o a p) = GroupTwo o a p pat c
bracket_parted c pat k = k

-- a pattern in a bracket, with what is behind it
within : (f : Frame) (fs : List Frame) (es : List Earlier) (inner cur : List Lexeme) (pat : Pat) (x : Lexeme) → pat_tokens pat ≡ earlier_tokens es ++ cur
    → inner ≡ bracket_tokens f.bracket ++ (pat_tokens pat ++ x ∷ [])
    → frames_tokens fs ++ (earlier_tokens f.earlier ++ (binder_tokens f.binder ++ (operations_tokens f.operations ++ inner)))
    ≡ (frames_tokens (f ∷ fs) ++ (earlier_tokens es ++ cur)) ++ x ∷ []
within f fs es inner cur pat x e i =
    ap (λ ys. frames_tokens fs ++ (earlier_tokens f.earlier ++ (binder_tokens f.binder ++ (operations_tokens f.operations ++ ys))))
    (i ∙ ap (λ ys. bracket_tokens f.bracket ++ (ys ++ x ∷ [])) e)
    ∙ go (frames_tokens fs) (earlier_tokens f.earlier) (binder_tokens f.binder) (operations_tokens f.operations) (bracket_tokens f.bracket) (earlier_tokens es ++ cur)
  where
    go : (f e b o k cur : List Lexeme) → f ++ (e ++ (b ++ (o ++ (k ++ (cur ++ x ∷ []))))) ≡ ((f ++ (e ++ (b ++ (o ++ k)))) ++ cur) ++ x ∷ []
    go f e b o k cur = simp append_assoc

parted-as : (c : Place) (pat : Pat) (k : Bracket) (f : Frame) (fs : List Frame) (s : State) → parted_in c pat k f fs ≡ Some s
    → (s ≡ framed (bracket_parted c pat k) f fs) × (bracket_tokens (bracket_parted c pat k) ≡ bracket_tokens k ++ (pat_tokens pat ++ comma c ∷ []))
parted-as c pat (Call path o done) f fs s e = (cc, go (qual_id_tokens path) (done_tokens done) (pat_tokens pat)) where
  go : (q d p : List Lexeme) → q ++ open_round o ∷ (d ++ (p ++ comma c ∷ [])) ≡ (q ++ open_round o ∷ d) ++ (p ++ comma c ∷ [])
  go q d p = simp append_assoc
parted-as c pat (Group o) f fs s e = (cc, refl)
parted-as c pat (GroupOne o a p) f fs s e = (cc, go (pat_tokens a) (pat_tokens pat)) where
  go : (a b : List Lexeme) → open_round o ∷ (a ++ comma p ∷ (b ++ comma c ∷ [])) ≡ open_round o ∷ (a ++ comma p ∷ []) ++ (b ++ comma c ∷ [])
  go a b = simp append_assoc
parted-as c pat (GroupTwo o a p b q) f fs s e = cc

parted-adds : (c : Place) (pat : Pat) (es : List Earlier) (fs : List Frame) (cur : List Lexeme) → pat_tokens pat ≡ earlier_tokens es ++ cur
    → Adds (parted c pat fs) (frames_tokens fs ++ (earlier_tokens es ++ cur)) (comma c)
parted-adds c pat es [] cur e = adds-none _ _
parted-adds c pat es (f ∷ fs) cur e = λ s was.
    let there = parted-as c pat f.bracket f fs s was in
    ap tokens_in there.0 ∙ append-nil _ ∙ within f fs es _ cur pat (comma c) e there.1

closed-adds : (c : Place) (pat : Pat) (es : List Earlier) (fs : List Frame) (cur : List Lexeme) → pat_tokens pat ≡ earlier_tokens es ++ cur
    → Adds (closed c pat fs) (frames_tokens fs ++ (earlier_tokens es ++ cur)) (close_round c)
closed-adds c pat es [] cur e = adds-none _ _
closed-adds c pat es (f ∷ fs) cur e = adds-some _ _ _ (within f fs es _ cur pat (close_round c) e (closed-as-tokens c pat f.bracket))

barred-tokens : (stroke : Place) (pat : Pat1) (es : List Earlier) (fs : List Frame) (cur : List Lexeme) (x : Lexeme) → pat1_tokens pat ≡ cur → bar stroke ≡ x
    → tokens_in (barred stroke pat es fs) ≡ (frames_tokens fs ++ (earlier_tokens es ++ cur)) ++ x ∷ []
barred-tokens stroke pat es fs cur x e k =
    ap (λ ys. frames_tokens fs ++ ((earlier_tokens es ++ (ys ++ bar stroke ∷ [])) ++ [])) e
    ∙ ap (λ y. frames_tokens fs ++ ((earlier_tokens es ++ (cur ++ y ∷ [])) ++ [])) k
    ∙ go (frames_tokens fs) (earlier_tokens es) cur
  where
    go : (f e cur : List Lexeme) → f ++ ((e ++ (cur ++ x ∷ [])) ++ []) ≡ (f ++ (e ++ cur)) ++ x ∷ []
    go f e cur = simp (append_assoc, append-nil)

ended-by-adds : (y : Seen) (pat : Pat1) (es : List Earlier) (fs : List Frame) (cur : List Lexeme) → pat1_tokens pat ≡ cur
    → Adds (ended_by y pat es fs) (frames_tokens fs ++ (earlier_tokens es ++ cur)) (shown_token y)
ended-by-adds (AnId id) pat es fs cur e =
    adds-when _ _ _ _ (λ h. barred-tokens id.place pat es fs cur (id_token id) e (bar-is id (both (is_bar id) _ h).0))
ended-by-adds (AComma c) pat es fs cur e = parted-adds c (pat_read es pat) es fs cur (read-tokens es pat ∙ ap (λ xs. earlier_tokens es ++ xs) e)
ended-by-adds (ClosesRound c) pat es fs cur e = closed-adds c (pat_read es pat) es fs cur (read-tokens es pat ∙ ap (λ xs. earlier_tokens es ++ xs) e)
ended-by-adds _ pat es fs cur e = adds-none _ _

ended-adds : (y : Seen) (current : Current) (o : Option Pat1) (es : List Earlier) (fs : List Frame) → alternative_at current ≡ o
    → Adds (ended y o es fs) (tokens_in (at fs es current)) (shown_token y)
ended-adds y current None es fs e = adds-none _ _
ended-adds y current (Some pat) es fs e = ended-by-adds y pat es fs _ (alternative-tokens current pat e)

-- ---- one token after the other

operated-adds : (k : Bool) (id : Id) (b : Option Binder) (os : List Operation) (tail : Tail) (d : SPat) (es : List Earlier) (fs : List Frame) → is_bar id ≡ k → spat_tokens d ≡ tail_tokens tail
    → Adds (operated k id b os d es fs) (tokens_in (at fs es (InInfix b os tail))) (id_token id)
operated-adds true id b os tail d es fs k e =
    adds-some _ _ _ (barred-tokens id.place (bound b (settled os (LastOperand d))) es fs _ (id_token id)
    (bound-tokens b os d ∙ ap (λ xs. binder_tokens b ++ (operations_tokens os ++ xs)) e) (bar-is id k))
operated-adds false id b os tail d es fs k e =
    adds-when _ _ _ _ (λ h. ap (λ xs. frames_tokens fs ++ (earlier_tokens es ++ (binder_tokens b ++ ((operations_tokens os ++ (xs ++ id_token id ∷ [])) ++ [])))) e
    ∙ go (frames_tokens fs) (earlier_tokens es) (binder_tokens b) (operations_tokens os) (tail_tokens tail))
  where
    go : (f e b o s : List Lexeme) → f ++ (e ++ (b ++ ((o ++ (s ++ id_token id ∷ [])) ++ []))) ≡ (f ++ (e ++ (b ++ (o ++ s)))) ++ id_token id ∷ []
    go f e b o s = simp (append_assoc, append-nil)

behind-adds : (id : Id) (b : Option Binder) (os : List Operation) (tail : Tail) (o : Option SPat) (es : List Earlier) (fs : List Frame) → spat_of tail ≡ o
    → Adds (behind id b os o es fs) (tokens_in (at fs es (InInfix b os tail))) (id_token id)
behind-adds id b os tail None es fs e = adds-none _ _
behind-adds id b os tail (Some d) es fs e = go (is_no id.place.before) where
  go : (n : Bool) → Adds (if n then operated (is_bar id) id b os d es fs else None) (tokens_in (at fs es (InInfix b os tail))) (id_token id)
  go true = operated-adds (is_bar id) id b os tail d es fs refl (spat-tokens tail d e)
  go false = adds-none _ _

named-adds : (id : Id) (b : Option Binder) (os : List Operation) (tail : Tail) (es : List Earlier) (fs : List Frame)
    → Adds (named id b os tail es fs) (tokens_in (at fs es (InInfix b os tail))) (id_token id)
named-adds id b os Begin es fs = adds-when _ _ _ _ (λ h. at-tail fs es b os [] _ (id_token id) refl)
named-adds id b os (AtDot path d) es fs = adds-some _ _ _ (at-tail fs es b os _ _ (id_token id) (types_sound.longer-tokens path d id))
named-adds id b os tail es fs = behind-adds id b os tail (spat_of tail) es fs refl

numbered-adds : (n : Number) (b : Option Binder) (os : List Operation) (tail : Tail) (es : List Earlier) (fs : List Frame)
    → Adds (numbered n b os tail es fs) (tokens_in (at fs es (InInfix b os tail))) (number_token n)
numbered-adds n b os Begin es fs = started-adds (number_token n) n.place.before b os Begin _ es fs (ap (λ x. x ∷ []) (number-literal n))
numbered-adds n b os (AtPath path) es fs =
    adds-when _ _ _ _ (λ h. at-tail fs es b os _ _ (number_token n) (ap (λ xs. xs ++ number_token n ∷ []) (minus-is path (both (is_minus_path path) _ h).0)))
numbered-adds n b os _ es fs = adds-none _ _

fresh-tokens : (fs : List Frame) (es : List Earlier) (old : List Lexeme) (x : Lexeme) → frames_tokens fs ++ (earlier_tokens es ++ (old ++ x ∷ [])) ≡ (frames_tokens fs ++ (earlier_tokens es ++ old)) ++ x ∷ []
fresh-tokens fs es old x = go (frames_tokens fs) (earlier_tokens es) where
  go : (f e : List Lexeme) → f ++ (e ++ (old ++ x ∷ [])) ≡ (f ++ (e ++ old)) ++ x ∷ []
  go f e = simp append_assoc

coloned-wild : (p place : Place) (b : Option Binder) (os : List Operation) (es : List Earlier) (fs : List Frame) → is_fresh b os ≡ true
    → frames_tokens fs ++ (earlier_tokens es ++ (underscore place ∷ colon p ∷ [])) ≡ (frames_tokens fs ++ (earlier_tokens es ++ (binder_tokens b ++ (operations_tokens os ++ underscore place ∷ [])))) ++ colon p ∷ []
coloned-wild p place None [] es fs h = fresh-tokens fs es (underscore place ∷ []) (colon p)
coloned-wild p place None (o ∷ os) es fs h = cc
coloned-wild p place (Some b) os es fs h = cc

path-fresh : (y : Lexeme) (path : QualId) (b : Option Binder) (os : List Operation) (es : List Earlier) (fs : List Frame) → is_var_path path.first path.steps ≡ true → is_fresh b os ≡ true
    → frames_tokens fs ++ (earlier_tokens es ++ (id_token path.first ∷ y ∷ [])) ≡ (frames_tokens fs ++ (earlier_tokens es ++ (binder_tokens b ++ (operations_tokens os ++ qual_id_tokens path)))) ++ y ∷ []
path-fresh y path None [] es fs v h =
    fresh-tokens fs es (id_token path.first ∷ []) y ∙ ap (λ xs. (frames_tokens fs ++ (earlier_tokens es ++ xs)) ++ y ∷ []) (named-tokens path true v)
path-fresh y path None (o ∷ os) es fs v h = cc
path-fresh y path (Some b) os es fs v h = cc

coloned-adds : (p : Place) (b : Option Binder) (os : List Operation) (tail : Tail) (es : List Earlier) (fs : List Frame)
    → Adds (coloned p b os tail es fs) (tokens_in (at fs es (InInfix b os tail))) (colon p)
coloned-adds p b os (AtWild place) es fs = adds-when _ _ _ _ (λ h. coloned-wild p place b os es fs h)
coloned-adds p b os (AtPath path) es fs =
    adds-when _ _ _ _ (λ h. (let g = both (is_var_path path.first path.steps) (is_fresh b os) h in path-fresh (colon p) path b os es fs g.0 g.1))
coloned-adds p b os _ es fs = adds-none _ _

signed-adds : (p : Place) (b : Option Binder) (os : List Operation) (tail : Tail) (es : List Earlier) (fs : List Frame)
    → Adds (signed p b os tail es fs) (tokens_in (at fs es (InInfix b os tail))) (at_sign p)
signed-adds p b os (AtPath path) es fs =
    adds-when _ _ _ _ (λ h. (let g = both (is_var_path path.first path.steps) _ h in path-fresh (at_sign p) path b os es fs g.0 (both (is_fresh b os) _ g.1).0))
signed-adds p b os _ es fs = adds-none _ _

opened-adds : (o : Place) (b : Option Binder) (os : List Operation) (tail : Tail) (es : List Earlier) (fs : List Frame)
    → Adds (opened o b os tail es fs) (tokens_in (at fs es (InInfix b os tail))) (open_round o)
opened-adds o b os Begin es fs = adds-when _ _ _ _ (λ h. append-nil _ ∙ at-tail fs es b os [] _ (open_round o) refl)
opened-adds o b os (AtPath path) es fs = adds-when _ _ _ _ (λ h. append-nil _ ∙ at-tail fs es b os _ _ (open_round o) refl)
opened-adds o b os _ es fs = adds-none _ _

emptied-tokens : (c : Place) (k : Bracket) (d : SPat) → emptied_as c k ≡ Some d → spat_tokens d ≡ bracket_tokens k ++ close_round c ∷ []
emptied-tokens c (Call path o []) d e =
    (let h : CallPatOfNone path o c ≡ d = cc in ap spat_tokens (sym h) ∙ sym (append_assoc (qual_id_tokens path) (open_round o ∷ []) (close_round c ∷ [])))
emptied-tokens c (Call path o (x ∷ done)) d e = cc
emptied-tokens c (Group o) d e = (let h : UnitPat o c ≡ d = cc in ap spat_tokens (sym h))
emptied-tokens c _ d e = cc

emptied-adds : (c : Place) (fs : List Frame) → Adds (emptied c fs) (frames_tokens fs) (close_round c)
emptied-adds c [] = adds-none [] (close_round c)
emptied-adds c (f ∷ fs) = go (emptied_as c f.bracket) refl where
  go : (o : Option SPat) → emptied_as c f.bracket ≡ o → Adds (emptied_in o f fs) (frames_tokens (f ∷ fs)) (close_round c)
  go None e = adds-none _ _
  go (Some d) e = adds-some _ _ _ (at-tail fs f.earlier f.binder f.operations (bracket_tokens f.bracket) _ (close_round c) (emptied-tokens c f.bracket d e))

shut-adds : (c : Place) (b : Option Binder) (os : List Operation) (tail : Tail) (es : List Earlier) (fs : List Frame)
    → Adds (shut c b os tail es fs) (tokens_in (at fs es (InInfix b os tail))) (close_round c)
shut-adds c None [] Begin [] fs = λ s e. emptied-adds c fs s e ∙ ap (λ xs. xs ++ close_round c ∷ []) (sym (append-nil (frames_tokens fs)))
shut-adds c None [] Begin (e ∷ es) fs = adds-none _ _
shut-adds c None (o ∷ os) Begin es fs = adds-none _ _
shut-adds c (Some b) os Begin es fs = adds-none _ _
shut-adds c b os tail es fs = ended-adds (ClosesRound c) (InInfix b os tail) _ es fs refl

dotted-adds : (d : Place) (b : Option Binder) (os : List Operation) (tail : Tail) (es : List Earlier) (fs : List Frame)
    → Adds (dotted d b os tail es fs) (tokens_in (at fs es (InInfix b os tail))) (dot d)
dotted-adds d b os (AtPath path) es fs = adds-some _ _ _ (at-tail fs es b os _ _ (dot d) refl)
dotted-adds d b os _ es fs = adds-none _ _

moved-adds : (y : Seen) (b : Option Binder) (os : List Operation) (tail : Tail) (es : List Earlier) (fs : List Frame)
    → Adds (moved y b os tail es fs) (tokens_in (at fs es (InInfix b os tail))) (shown_token y)
moved-adds (AnId id) b os tail es fs = named-adds id b os tail es fs
moved-adds (ANumber n) b os tail es fs = numbered-adds n b os tail es fs
moved-adds (ALiteral l) b os tail es fs = started-adds (literal_token l) _ b os tail _ es fs refl
moved-adds (AnUnderscore p) b os tail es fs = started-adds (underscore p) _ b os tail _ es fs refl
moved-adds (AColon p) b os tail es fs = coloned-adds p b os tail es fs
moved-adds (AnAt p) b os tail es fs = signed-adds p b os tail es fs
moved-adds (OpensRound o) b os tail es fs = opened-adds o b os tail es fs
moved-adds (ClosesRound c) b os tail es fs = shut-adds c b os tail es fs
moved-adds (AComma c) b os tail es fs = ended-adds (AComma c) (InInfix b os tail) _ es fs refl
moved-adds (ADot d) b os tail es fs = dotted-adds d b os tail es fs
moved-adds (Another x) b os tail es fs = adds-none _ _

typed-adds : (t : types.State) (x : Lexeme) (s : Subject) (point : Place) (es : List Earlier) (fs : List Frame) (o : Option types.State) → simple_step t x ≡ o
    → Adds (moved_in o s point (alternative_at (InType s point t)) (seen x) es fs) (tokens_in (at fs es (InType s point t))) x
typed-adds t x s point es fs None e =
    subst (λ z. Adds (ended (seen x) (alternative_at (InType s point t)) es fs) (tokens_in (at fs es (InType s point t))) z) (token-shown x)
    (ended-adds (seen x) (InType s point t) _ es fs refl)
typed-adds t x s point es fs (Some u) e =
    adds-some _ _ _ (ap (λ ys. frames_tokens fs ++ (earlier_tokens es ++ (subject_tokens s point ++ ys))) (types_sound.step-adds t x u (simple-step-is t x u e))
    ∙ go (frames_tokens fs) (earlier_tokens es) (subject_tokens s point) (type_tokens_in t))
  where
    go : (f e s t : List Lexeme) → f ++ (e ++ (s ++ (t ++ x ∷ []))) ≡ (f ++ (e ++ (s ++ t))) ++ x ∷ []
    go f e s t = simp append_assoc

step-at-adds : (current : Current) (x : Lexeme) (es : List Earlier) (fs : List Frame) → Adds (step_at current x es fs) (tokens_in (at fs es current)) x
step-at-adds (InType s point t) x es fs = typed-adds t x s point es fs (simple_step t x) refl
step-at-adds (InInfix b os tail) x es fs =
    subst (λ z. Adds (moved (seen x) b os tail es fs) (tokens_in (at fs es (InInfix b os tail))) z) (token-shown x) (moved-adds (seen x) b os tail es fs)

pub step-adds : (s : State) (x : Lexeme) (t : State) → step s x ≡ Some t → tokens_in t ≡ tokens_in s ++ x ∷ []
step-adds s x t e = step-at-adds s.current x s.earlier s.frames t e

pub run-adds : (xs : List Lexeme) (s t : State) → run step xs s ≡ Some t → tokens_in t ≡ tokens_in s ++ xs
run-adds [] s t e = let same : s ≡ t = cc in ap tokens_in (sym same) ∙ sym (append-nil (tokens_in s))
run-adds (x ∷ xs) s t e = go (step s x) refl e (λ u r. run-adds xs u t r) where
  go : (o : Option State) → step s x ≡ o → onward o None (run step xs) ≡ Some t → ((u : State) → run step xs u ≡ Some t → tokens_in t ≡ tokens_in u ++ xs)
      → tokens_in t ≡ tokens_in s ++ x ∷ xs
  go None was e on = cc
  go (Some u) was e on = on u e ∙ ap (λ ys. ys ++ xs) (step-adds s x u was) ∙ append_assoc (tokens_in s) (x ∷ []) xs
