-- The tokens of a derivation lead the machine from where a pattern may begin to where this pattern was read, whatever stands around it and behind it.
use Rattle.std.proofs.Common.{◌≡◌, Bool, true, false, ◌&&◌, if◌then◌else◌, List, [], ◌∷◌, ◌++◌, Option, Some, None, codes, refl, ap, sym, ◌∙◌, append_assoc, append-nil, subst}
use Rattle.std.specs.Prelude.{not}
use Rattle.reading_machines.specs.Machines.{run, onward}
use Rattle.scan_tokens.specs.declared.tokens.Newline.{Newline}
use Rattle.scan_tokens.specs.declared.tokens.Newline.TheVariants.{No}
use Rattle.source_grammar.specs.Lexemes.{Place, Lexeme, open_round, close_round, comma, dot, underscore, colon, at_sign, bar, minus, Id, id_token, Step, QualId, steps_tokens, qual_id_tokens, Literal, IntLiteral, LongLiteral, CharLiteral, StringLiteral, TrueLiteral, FalseLiteral, NullLiteral, literal_token, literal_place, Number, number_token}
use Rattle.source_grammar.specs.Newlines.{newline_before}
use Rattle.source_grammar.specs.Patterns.{Pat, Pat1, Pat3, SPat, PatList, LastAlternative, MoreAlternatives, TypedVar, TypedWild, BoundPat, InfixPat, LastOperand, MoreOperands, WildPat, VarPat, LiteralPat, MinusPat, PathPat, CallPatOfNone, CallPat, UnitPat, PatInParentheses, PairPat, TriplePat, LastPat, MorePats, pat_tokens, pat1_tokens, pat3_tokens, spat_tokens, pat_list_tokens, is_var, is_bar, pat3_operators, ProperPat, ProperPat1, ProperPat3, ProperSPat, ProperPatList}
use Rattle.source_grammar.specs.Precedence.{are_of_one_side}
use Rattle.source_grammar.specs.Types.{SimpleType, Named, OfPath, simple_tokens}
use Rattle.parse_parts.proofs.Along as types_along
use Rattle.parse_parts.proofs.Along.{simple_tail, simple-there}
use Rattle.parse_parts.proofs.Derived as types
use Rattle.parse_parts.proofs.Derived.{longer}
use Rattle.parse_patterns.specs.Names.{is_minus}
use Rattle.parse_patterns.specs.Steps.{is_no}
use Rattle.parse_patterns.proofs.Derived.{Operation, Binder, Done, Earlier, Tail, Begin, AtWild, AtPath, AtDot, AtEnded, Subject, VarSubject, WildSubject, Current, InType, InInfix, Call, Group, GroupOne, GroupTwo, Frame, State, settled, bound, alternated, listed, named_pat, spat_of, simple_in, typed_at, infix_at, alternative_at, pat_read, may_stand, when, at, fresh, frame_of, ended_at, parted, closed, ended, operated, behind, named, is_minus_path, moved, moved_in, shut, step, barred, has_none}
use Rattle.parse_patterns.proofs.Minus.{minus-var}
use Rattle.parse_patterns.proofs.Seen.{AnId, AComma, ClosesRound, seen, seen-id, seen-number}
use Rattle.parse_patterns.proofs.Sides.{operators_of, side-fits}
use Rattle.parse_patterns.proofs.SimpleTypes.{simple_step, type_begun, simple-runs}

-- these tokens lead from one state to another, whatever follows
pub record Leads (ts : List Lexeme) (s t : State) : Type 0 where
  pub runs : (xs : List Lexeme) → run step (ts ++ xs) s ≡ run step xs t

pub leads-none : (s : State) → Leads [] s s
leads-none s = record { runs = λ xs. refl }

pub leads-then : (front bs : List Lexeme) (s t u : State) → Leads front s t → Leads bs t u → Leads (front ++ bs) s u
leads-then front bs s t u p q = record { runs = λ xs. ap (λ ys. run step ys s) (append_assoc front bs xs) ∙ p.runs (bs ++ xs) ∙ q.runs xs }

pub leads-on : (x : Lexeme) (bs : List Lexeme) (s t u : State) → step s x ≡ Some t → Leads bs t u → Leads (x ∷ bs) s u
leads-on x bs s t u e q = record { runs = λ xs. ap (λ o. onward o None (run step (bs ++ xs))) e ∙ q.runs xs }

pub leads-one : (x : Lexeme) (s t : State) → step s x ≡ Some t → Leads (x ∷ []) s t
leads-one x s t e = leads-on x [] s t t e (leads-none t)

pub leads-to : (ts : List Lexeme) (s t u : State) → t ≡ u → Leads ts s t → Leads ts s u
leads-to ts s t u e p = record { runs = λ xs. p.runs xs ∙ ap (run step xs) e }

pub id-step : (id : Id) (fs : List Frame) (es : List Earlier) (b : Option Binder) (os : List Operation) (tail : Tail)
    → step (at fs es (InInfix b os tail)) (id_token id) ≡ named id b os tail es fs
id-step id fs es b os tail = ap (λ y. moved y b os tail es fs) (seen-id id)

pub when-true : {A : Type 0} (c : Bool) (a : A) → c ≡ true → when c a ≡ Some a
when-true c a e = ap (λ b. when b a) e

pub no-newline : (n : Newline) → n ≡ No → is_no n ≡ true
no-newline n e = ap is_no e

-- ---- paths

steps-along : (steps : List Step) (fs : List Frame) (es : List Earlier) (b : Option Binder) (os : List Operation) (first : Id) (before : List Step)
    → Leads (steps_tokens steps) (at fs es (InInfix b os (AtPath (record { first = first; steps = before })))) (at fs es (InInfix b os (AtPath (record { first = first; steps = before ++ steps }))))
steps-along [] fs es b os first before =
    leads-to [] _ _ _ (ap (λ all. at fs es (InInfix b os (AtPath (record { first = first; steps = all })))) (sym (append-nil before))) (leads-none _)
steps-along (s ∷ steps) fs es b os first before =
    let here : State = at fs es (InInfix b os (AtPath (record { first = first; steps = before }))) in
    let dotted : State = at fs es (InInfix b os (AtDot (record { first = first; steps = before }) s.point)) in
    let next : State = at fs es (InInfix b os (AtPath (record { first = first; steps = before ++ s ∷ [] }))) in
    leads-to _ here _ _ (ap (λ all. at fs es (InInfix b os (AtPath (record { first = first; steps = all })))) (append_assoc before (s ∷ []) steps))
    (leads-on (dot s.point) _ here dotted _ refl
    (leads-on (id_token s.id) _ dotted next _ (id-step s.id fs es b os _) (steps-along steps fs es b os first (before ++ s ∷ []))))

path-along : (path : QualId) (fs : List Frame) (es : List Earlier) (b : Option Binder) (os : List Operation) → may_stand b os es path.first.place.before ≡ true
    → Leads (qual_id_tokens path) (at fs es (InInfix b os Begin)) (at fs es (InInfix b os (AtPath path)))
path-along path fs es b os h =
    leads-on (id_token path.first) _ _ (at fs es (InInfix b os (AtPath (record { first = path.first; steps = [] })))) _
    (id-step path.first fs es b os Begin ∙ when-true _ _ h)
    (steps-along path.steps fs es b os path.first [])

-- ---- where a pattern was read

abbrev pub spat_tail : SPat → Tail
spat_tail (WildPat place) = AtWild place
spat_tail (VarPat id) = AtPath (record { first = id; steps = [] })
spat_tail (PathPat path) = AtPath path
spat_tail spat = AtEnded spat

pub spat-there : (d : SPat) → ProperSPat d → spat_of (spat_tail d) ≡ Some d
spat-there (WildPat place) p = refl
spat-there (VarPat id) p = ap (λ v. Some (named_pat v (record { first = id; steps = [] }))) p
spat-there (PathPat path) p = ap (λ v. Some (named_pat v path)) p
spat-there _ p = refl

abbrev pub last_operand : Pat3 → SPat
last_operand (LastOperand d) = d
last_operand (MoreOperands d id pat) = last_operand pat

abbrev pub operations_of : Pat3 → List Operation → List Operation
operations_of (LastOperand d) os = os
operations_of (MoreOperands d id pat) os = operations_of pat (record { left = d; operator = id } ∷ os)

abbrev pub after1 : Pat1 → Current
after1 (TypedVar id point type) = InType (VarSubject id) point (types_along.at [] [] (simple_tail type))
after1 (TypedWild place point type) = InType (WildSubject place) point (types_along.at [] [] (simple_tail type))
after1 (BoundPat id sign pat) = InInfix (Some (record { id = id; sign = sign })) (operations_of pat []) (spat_tail (last_operand pat))
after1 (InfixPat pat) = InInfix None (operations_of pat []) (spat_tail (last_operand pat))

abbrev pub last_pat1 : Pat → Pat1
last_pat1 (LastAlternative pat) = pat
last_pat1 (MoreAlternatives pat stroke pats) = last_pat1 pats

abbrev pub earlier_of : Pat → List Earlier → List Earlier
earlier_of (LastAlternative pat) es = es
earlier_of (MoreAlternatives pat stroke pats) es = earlier_of pats (record { pat = pat; stroke = stroke } ∷ es)

abbrev pub last_pat : PatList → Pat
last_pat (LastPat pat) = pat
last_pat (MorePats pat p pats) = last_pat pats

abbrev pub done_of : PatList → List Done → List Done
done_of (LastPat pat) done = done
done_of (MorePats pat p pats) done = done_of pats (record { pat = pat; place = p } ∷ done)

-- a pattern was read here
abbrev pub after : List Frame → List Earlier → Pat → State
after fs es d = at fs (earlier_of d es) (after1 (last_pat1 d))

proper-last : (d : Pat3) → ProperPat3 d → ProperSPat (last_operand d)
proper-last (LastOperand d) p = p
proper-last (MoreOperands d id pat) p = proper-last pat p.4

pub proper-last1 : (d : Pat) → ProperPat d → ProperPat1 (last_pat1 d)
proper-last1 (LastAlternative pat) p = p
proper-last1 (MoreAlternatives pat stroke pats) p = proper-last1 pats p.3

settled-there : (d : Pat3) (os : List Operation) → settled (operations_of d os) (LastOperand (last_operand d)) ≡ settled os d
settled-there (LastOperand d) os = refl
settled-there (MoreOperands d id pat) os = settled-there pat (record { left = d; operator = id } ∷ os)

pub alternated-there : (d : Pat) (es : List Earlier) → pat_read (earlier_of d es) (last_pat1 d) ≡ alternated es d
alternated-there (LastAlternative pat) es = refl
alternated-there (MoreAlternatives pat stroke pats) es = alternated-there pats (record { pat = pat; stroke = stroke } ∷ es)

listed-there : (d : PatList) (done : List Done) → listed (done_of d done) (LastPat (last_pat d)) ≡ listed done d
listed-there (LastPat pat) done = refl
listed-there (MorePats pat p pats) done = listed-there pats (record { pat = pat; place = p } ∷ done)

infix-there : (d : Pat3) (b : Option Binder) → ProperPat3 d → infix_at b (operations_of d []) (spat_of (spat_tail (last_operand d))) ≡ Some (bound b d)
infix-there d b p = ap (infix_at b (operations_of d [])) (spat-there (last_operand d) (proper-last d p)) ∙ ap (λ x. Some (bound b x)) (settled-there d [])

pub alternative-there : (d : Pat1) → ProperPat1 d → alternative_at (after1 d) ≡ Some d
alternative-there (TypedVar id point type) p = ap (typed_at (VarSubject id) point) (simple-there type)
alternative-there (TypedWild place point type) p = ap (typed_at (WildSubject place) point) (simple-there type)
alternative-there (BoundPat id sign pat) p = infix-there pat (Some (record { id = id; sign = sign })) p.3
alternative-there (InfixPat pat) p = infix-there pat None p.1

-- ---- what stands behind a pattern

-- a Simple goes on with none of the tokens that may stand behind it
type-comma : (type : SimpleType) (c : Place) → simple_step (types_along.at [] [] (simple_tail type)) (comma c) ≡ None
type-comma type c = ap (λ o. types.parted c o [] []) (simple-there type)

type-bar : (type : SimpleType) (c : Place) → simple_step (types_along.at [] [] (simple_tail type)) (bar c) ≡ None
type-bar (Named (OfPath path)) c = refl
type-bar (Named _) c = refl
type-bar _ c = refl

name-behind : (d : SPat) (id : Id) (fs : List Frame) (es : List Earlier) (b : Option Binder) (os : List Operation)
    → named id b os (spat_tail d) es fs ≡ behind id b os (spat_of (spat_tail d)) es fs
name-behind (WildPat place) id fs es b os = refl
name-behind (VarPat i) id fs es b os = refl
name-behind (PathPat path) id fs es b os = refl
name-behind _ id fs es b os = refl

shut-behind : (d : SPat) (c : Place) (fs : List Frame) (es : List Earlier) (b : Option Binder) (os : List Operation)
    → shut c b os (spat_tail d) es fs ≡ ended (ClosesRound c) (infix_at b os (spat_of (spat_tail d))) es fs
shut-behind (WildPat place) c fs es b os = refl
shut-behind (VarPat i) c fs es b os = refl
shut-behind (PathPat path) c fs es b os = refl
shut-behind _ c fs es b os = refl

comma-behind : (d : Pat1) (c : Place) (fs : List Frame) (es : List Earlier) → ProperPat1 d → step (at fs es (after1 d)) (comma c) ≡ parted c (pat_read es d) fs
comma-behind (TypedVar id point type) c fs es p =
    ap (λ o. moved_in o (VarSubject id) point (typed_at (VarSubject id) point (types.simple_of (simple_tail type))) (AComma c) es fs) (type-comma type c)
    ∙ ap (λ o. ended (AComma c) (typed_at (VarSubject id) point o) es fs) (simple-there type)
comma-behind (TypedWild place point type) c fs es p =
    ap (λ o. moved_in o (WildSubject place) point (typed_at (WildSubject place) point (types.simple_of (simple_tail type))) (AComma c) es fs) (type-comma type c)
    ∙ ap (λ o. ended (AComma c) (typed_at (WildSubject place) point o) es fs) (simple-there type)
comma-behind (BoundPat id sign pat) c fs es p = ap (λ o. ended (AComma c) o es fs) (infix-there pat (Some (record { id = id; sign = sign })) p.3)
comma-behind (InfixPat pat) c fs es p = ap (λ o. ended (AComma c) o es fs) (infix-there pat None p.1)

close-behind : (d : Pat1) (c : Place) (fs : List Frame) (es : List Earlier) → ProperPat1 d → step (at fs es (after1 d)) (close_round c) ≡ closed c (pat_read es d) fs
close-behind (TypedVar id point type) c fs es p = ap (λ o. ended (ClosesRound c) (typed_at (VarSubject id) point o) es fs) (simple-there type)
close-behind (TypedWild place point type) c fs es p = ap (λ o. ended (ClosesRound c) (typed_at (WildSubject place) point o) es fs) (simple-there type)
close-behind (BoundPat id sign pat) c fs es p =
    shut-behind (last_operand pat) c fs es (Some (record { id = id; sign = sign })) (operations_of pat [])
    ∙ ap (λ o. ended (ClosesRound c) o es fs) (infix-there pat (Some (record { id = id; sign = sign })) p.3)
close-behind (InfixPat pat) c fs es p =
    shut-behind (last_operand pat) c fs es None (operations_of pat []) ∙ ap (λ o. ended (ClosesRound c) o es fs) (infix-there pat None p.1)

abbrev bar_id : Place → Id
bar_id c = record { name = codes "|"; quoted = false; place = c }

infix-bar : (d : Pat3) (c : Place) (fs : List Frame) (es : List Earlier) (b : Option Binder) → ProperPat3 d → c.before ≡ No
    → named (bar_id c) b (operations_of d []) (spat_tail (last_operand d)) es fs ≡ Some (barred c (bound b d) es fs)
infix-bar d c fs es b p n =
    name-behind (last_operand d) (bar_id c) fs es b (operations_of d [])
    ∙ ap (λ o. behind (bar_id c) b (operations_of d []) o es fs) (spat-there (last_operand d) (proper-last d p))
    ∙ ap (λ k. if k then operated true (bar_id c) b (operations_of d []) (last_operand d) es fs else None) (no-newline c.before n)
    ∙ ap (λ x. Some (barred c (bound b x) es fs)) (settled-there d [])

bar-behind : (d : Pat1) (c : Place) (fs : List Frame) (es : List Earlier) → ProperPat1 d → c.before ≡ No → step (at fs es (after1 d)) (bar c) ≡ Some (barred c d es fs)
bar-behind (TypedVar id point type) c fs es p n =
    ap (λ o. moved_in o (VarSubject id) point (typed_at (VarSubject id) point (types.simple_of (simple_tail type))) (AnId (bar_id c)) es fs) (type-bar type c)
    ∙ ap (λ o. ended (AnId (bar_id c)) (typed_at (VarSubject id) point o) es fs) (simple-there type)
    ∙ when-true _ _ (no-newline c.before n)
bar-behind (TypedWild place point type) c fs es p n =
    ap (λ o. moved_in o (WildSubject place) point (typed_at (WildSubject place) point (types.simple_of (simple_tail type))) (AnId (bar_id c)) es fs) (type-bar type c)
    ∙ ap (λ o. ended (AnId (bar_id c)) (typed_at (WildSubject place) point o) es fs) (simple-there type)
    ∙ when-true _ _ (no-newline c.before n)
bar-behind (BoundPat id sign pat) c fs es p n = infix-bar pat c fs es (Some (record { id = id; sign = sign })) p.3 n
bar-behind (InfixPat pat) c fs es p n = infix-bar pat c fs es None p.1 n

comma-ends : (d : Pat) (c : Place) (fs : List Frame) → ProperPat d → step (after fs [] d) (comma c) ≡ parted c d fs
comma-ends d c fs p = comma-behind (last_pat1 d) c fs (earlier_of d []) (proper-last1 d p) ∙ ap (λ x. parted c x fs) (alternated-there d [])

close-ends : (d : Pat) (c : Place) (fs : List Frame) → ProperPat d → step (after fs [] d) (close_round c) ≡ closed c d fs
close-ends d c fs p = close-behind (last_pat1 d) c fs (earlier_of d []) (proper-last1 d p) ∙ ap (λ x. closed c x fs) (alternated-there d [])

-- ---- what begins a pattern

pub front-newline : (d : SPat) (xs : List Lexeme) → newline_before (spat_tokens d ++ xs) ≡ newline_before (spat_tokens d)
front-newline (WildPat place) xs = refl
front-newline (VarPat id) xs = refl
front-newline (LiteralPat literal) xs = refl
front-newline (MinusPat sign number) xs = refl
front-newline (PathPat path) xs = refl
front-newline (CallPatOfNone path o c) xs = refl
front-newline (CallPat path o pats c) xs = refl
front-newline (UnitPat o c) xs = refl
front-newline (PatInParentheses o pat c) xs = refl
front-newline (PairPat o a p b c) xs = refl
front-newline (TriplePat o a p b q d c) xs = refl

front-newline3 : (d : Pat3) (xs : List Lexeme) → newline_before (pat3_tokens d ++ xs) ≡ newline_before (pat3_tokens d)
front-newline3 (LastOperand x) xs = front-newline x xs
front-newline3 (MoreOperands x id pat) xs =
    ap newline_before (append_assoc (spat_tokens x) (id_token id ∷ pat3_tokens pat) xs) ∙ front-newline x _ ∙ sym (front-newline x (id_token id ∷ pat3_tokens pat))

pub front-newline1 : (d : Pat1) (xs : List Lexeme) → newline_before (pat1_tokens d ++ xs) ≡ newline_before (pat1_tokens d)
front-newline1 (TypedVar id point type) xs = refl
front-newline1 (TypedWild place point type) xs = refl
front-newline1 (BoundPat id sign pat) xs = refl
front-newline1 (InfixPat pat) xs = front-newline3 pat xs

proper-last-pat : (d : PatList) → ProperPatList d → ProperPat (last_pat d)
proper-last-pat (LastPat pat) p = p
proper-last-pat (MorePats pat k pats) p = proper-last-pat pats p.1

-- ---- operands without brackets

literal-along : (l : Literal) (fs : List Frame) (es : List Earlier) (b : Option Binder) (os : List Operation) → may_stand b os es (literal_place l).before ≡ true
    → step (at fs es (InInfix b os Begin)) (literal_token l) ≡ Some (at fs es (InInfix b os (AtEnded (LiteralPat l))))
literal-along (IntLiteral t p) fs es b os h = when-true _ _ h
literal-along (LongLiteral t p) fs es b os h = when-true _ _ h
literal-along (CharLiteral t p) fs es b os h = when-true _ _ h
literal-along (StringLiteral t p) fs es b os h = when-true _ _ h
literal-along (TrueLiteral p) fs es b os h = when-true _ _ h
literal-along (FalseLiteral p) fs es b os h = when-true _ _ h
literal-along (NullLiteral p) fs es b os h = when-true _ _ h

abbrev minus_path : Place → QualId
minus_path sign = record { first = record { name = codes "-"; quoted = false; place = sign }; steps = [] }

minus-is : (sign : Place) → is_minus_path (minus_path sign) ≡ true
minus-is sign = go (is_var (minus_path sign).first) (minus-var sign) where
  go : (v : Bool) → v ≡ false → (has_none (minus_path sign).steps && (not v && is_minus (minus_path sign).first)) ≡ true
  go true e = cc
  go false e = refl

minus-along : (sign : Place) (n : Number) (fs : List Frame) (es : List Earlier) (b : Option Binder) (os : List Operation) → may_stand b os es sign.before ≡ true → n.place.before ≡ No
    → Leads (minus sign ∷ number_token n ∷ []) (at fs es (InInfix b os Begin)) (at fs es (InInfix b os (AtEnded (MinusPat sign n))))
minus-along sign n fs es b os h e =
    leads-on (minus sign) _ _ (at fs es (InInfix b os (AtPath (minus_path sign)))) _ (id-step (minus_path sign).first fs es b os Begin ∙ when-true _ _ h)
    (leads-one (number_token n) _ _
    (ap (λ y. moved y b os (AtPath (minus_path sign)) es fs) (seen-number n)
    ∙ ap (λ k. when (k && is_no n.place.before) (at fs es (InInfix b os (AtEnded (MinusPat sign n))))) (minus-is sign)
    ∙ when-true _ _ (no-newline n.place.before e)))

-- ---- types

-- the tokens of a Simple, behind `:`
pub type-leads : (xs : List Lexeme) (s : Subject) (point : Place) (fs : List Frame) (es : List Earlier) (t u : types.State) → run simple_step xs t ≡ Some u
    → Leads xs (at fs es (InType s point t)) (at fs es (InType s point u))
type-leads [] s point fs es t u e = (let same : t ≡ u = cc in leads-to [] _ _ _ (ap (λ x. at fs es (InType s point x)) same) (leads-none _))
type-leads (x ∷ xs) s point fs es t u e = go (simple_step t x) refl e (λ v r. type-leads xs s point fs es v u r) where
  go : (o : Option types.State) → simple_step t x ≡ o → onward o None (run simple_step xs) ≡ Some u
      → ((v : types.State) → run simple_step xs v ≡ Some u → Leads xs (at fs es (InType s point v)) (at fs es (InType s point u)))
      → Leads (x ∷ xs) (at fs es (InType s point t)) (at fs es (InType s point u))
  go None was g on = cc
  go (Some v) was g on =
      leads-on x xs _ (at fs es (InType s point v)) _
      (ap (λ o. moved_in o s point (typed_at s point (simple_in t.frames t.heads t.tail)) (seen x) es fs) was) (on v g)

-- ---- along a derivation

mutual
  pub spat-along : (d : SPat) → ProperSPat d → (fs : List Frame) (es : List Earlier) (b : Option Binder) (os : List Operation) → may_stand b os es (newline_before (spat_tokens d)) ≡ true
      → Leads (spat_tokens d) (at fs es (InInfix b os Begin)) (at fs es (InInfix b os (spat_tail d)))
  spat-along (WildPat place) p fs es b os h = leads-one (underscore place) _ _ (when-true _ _ h)
  spat-along (VarPat id) p fs es b os h = leads-one (id_token id) _ _ (id-step id fs es b os Begin ∙ when-true _ _ h)
  spat-along (LiteralPat l) p fs es b os h = leads-one (literal_token l) _ _ (literal-along l fs es b os h)
  spat-along (MinusPat sign n) p fs es b os h = minus-along sign n fs es b os h p
  spat-along (PathPat path) p fs es b os h = path-along path fs es b os h
  spat-along (CallPatOfNone path o c) p fs es b os h =
      leads-then (qual_id_tokens path) _ _ (at fs es (InInfix b os (AtPath path))) _ (path-along path fs es b os h)
      (leads-on (open_round o) _ _ (at (frame_of (Call path o []) b os es ∷ fs) [] fresh) _ (when-true _ _ (no-newline o.before p))
      (leads-one (close_round c) _ _ refl))
  spat-along (CallPat path o pats c) p fs es b os h =
      leads-then (qual_id_tokens path) _ _ (at fs es (InInfix b os (AtPath path))) _ (path-along path fs es b os h)
      (leads-on (open_round o) _ _ (at (frame_of (Call path o []) b os es ∷ fs) [] fresh) _ (when-true _ _ (no-newline o.before p.0))
      (leads-then (pat_list_tokens pats) _ _ _ _ (list-along pats p.1 path o [] b os es fs)
      (leads-one (close_round c) _ _
      (close-ends (last_pat pats) c (frame_of (Call path o (done_of pats [])) b os es ∷ fs) (proper-last-pat pats p.1)
      ∙ ap (λ x. Some (ended_at b os es fs (CallPat path o x c))) (listed-there pats [])))))
  spat-along (UnitPat o c) p fs es b os h =
      leads-on (open_round o) _ _ (at (frame_of (Group o) b os es ∷ fs) [] fresh) _ (when-true _ _ h) (leads-one (close_round c) _ _ refl)
  spat-along (PatInParentheses o x c) p fs es b os h =
      leads-on (open_round o) _ _ (at (frame_of (Group o) b os es ∷ fs) [] fresh) _ (when-true _ _ h)
      (leads-then (pat_tokens x) _ _ _ _ (pat-along x p (frame_of (Group o) b os es ∷ fs) [] refl)
      (leads-one (close_round c) _ _ (close-ends x c (frame_of (Group o) b os es ∷ fs) p)))
  spat-along (PairPat o x k y c) p fs es b os h =
      leads-on (open_round o) _ _ (at (frame_of (Group o) b os es ∷ fs) [] fresh) _ (when-true _ _ h)
      (leads-then (pat_tokens x) _ _ _ _ (pat-along x p.0 (frame_of (Group o) b os es ∷ fs) [] refl)
      (leads-on (comma k) _ _ (at (frame_of (GroupOne o x k) b os es ∷ fs) [] fresh) _ (comma-ends x k (frame_of (Group o) b os es ∷ fs) p.0)
      (leads-then (pat_tokens y) _ _ _ _ (pat-along y p.1 (frame_of (GroupOne o x k) b os es ∷ fs) [] refl)
      (leads-one (close_round c) _ _ (close-ends y c (frame_of (GroupOne o x k) b os es ∷ fs) p.1)))))
  spat-along (TriplePat o x k y l z c) p fs es b os h =
      leads-on (open_round o) _ _ (at (frame_of (Group o) b os es ∷ fs) [] fresh) _ (when-true _ _ h)
      (leads-then (pat_tokens x) _ _ _ _ (pat-along x p.0 (frame_of (Group o) b os es ∷ fs) [] refl)
      (leads-on (comma k) _ _ (at (frame_of (GroupOne o x k) b os es ∷ fs) [] fresh) _ (comma-ends x k (frame_of (Group o) b os es ∷ fs) p.0)
      (leads-then (pat_tokens y) _ _ _ _ (pat-along y p.1 (frame_of (GroupOne o x k) b os es ∷ fs) [] refl)
      (leads-on (comma l) _ _ (at (frame_of (GroupTwo o x k y l) b os es ∷ fs) [] fresh) _ (comma-ends y l (frame_of (GroupOne o x k) b os es ∷ fs) p.1)
      (leads-then (pat_tokens z) _ _ _ _ (pat-along z p.2 (frame_of (GroupTwo o x k y l) b os es ∷ fs) [] refl)
      (leads-one (close_round c) _ _ (close-ends z c (frame_of (GroupTwo o x k y l) b os es ∷ fs) p.2)))))))

  pub pat3-along : (d : Pat3) → ProperPat3 d → (fs : List Frame) (es : List Earlier) (b : Option Binder) (os : List Operation) → may_stand b os es (newline_before (pat3_tokens d)) ≡ true
      → are_of_one_side (operators_of os ++ pat3_operators d) ≡ true
      → Leads (pat3_tokens d) (at fs es (InInfix b os Begin)) (at fs es (InInfix b (operations_of d os) (spat_tail (last_operand d))))
  pat3-along (LastOperand x) p fs es b os h one = spat-along x p fs es b os h
  pat3-along (MoreOperands x id pat) p fs es b os h one =
      leads-then (spat_tokens x) _ _ (at fs es (InInfix b os (spat_tail x))) _
      (spat-along x p.0 fs es b os (subst (λ n. may_stand b os es n ≡ true) (front-newline x (id_token id ∷ pat3_tokens pat)) h))
      (leads-on (id_token id) _ _ (at fs es (InInfix b (record { left = x; operator = id } ∷ os) Begin)) _
      (id-step id fs es b os (spat_tail x) ∙ name-behind x id fs es b os
      ∙ ap (λ o. behind id b os o es fs) (spat-there x p.0)
      ∙ ap (λ k. if k then operated (is_bar id) id b os x es fs else None) (no-newline id.place.before p.2)
      ∙ ap (λ k. operated k id b os x es fs) p.1
      ∙ when-true _ _ (side-fits os id (pat3_operators pat) one))
      (pat3-along pat p.4 fs es b (record { left = x; operator = id } ∷ os) p.3
      (subst (λ ids. are_of_one_side ids ≡ true) (sym (append_assoc (operators_of os) (id ∷ []) (pat3_operators pat))) one)))

  pub pat1-along : (d : Pat1) → ProperPat1 d → (fs : List Frame) (es : List Earlier) → may_stand None [] es (newline_before (pat1_tokens d)) ≡ true
      → Leads (pat1_tokens d) (at fs es fresh) (at fs es (after1 d))
  pat1-along (TypedVar id point type) p fs es h =
      leads-on (id_token id) _ _ (at fs es (InInfix None [] (AtPath (record { first = id; steps = [] })))) _ (id-step id fs es None [] Begin ∙ when-true _ _ h)
      (leads-on (colon point) _ _ (at fs es (InType (VarSubject id) point type_begun)) _ (ap (λ v. when (v && true) (at fs es (InType (VarSubject id) point type_begun))) p)
      (type-leads (simple_tokens type) (VarSubject id) point fs es type_begun _ (simple-runs type)))
  pat1-along (TypedWild place point type) p fs es h =
      leads-on (underscore place) _ _ (at fs es (InInfix None [] (AtWild place))) _ (when-true _ _ h)
      (leads-on (colon point) _ _ (at fs es (InType (WildSubject place) point type_begun)) _ refl
      (type-leads (simple_tokens type) (WildSubject place) point fs es type_begun _ (simple-runs type)))
  pat1-along (BoundPat id sign pat) p fs es h =
      leads-on (id_token id) _ _ (at fs es (InInfix None [] (AtPath (record { first = id; steps = [] })))) _ (id-step id fs es None [] Begin ∙ when-true _ _ h)
      (leads-on (at_sign sign) _ _ (at fs es (InInfix (Some (record { id = id; sign = sign })) [] Begin)) _
      (ap (λ v. when (v && is_no sign.before) (at fs es (InInfix (Some (record { id = id; sign = sign })) [] Begin))) p.0 ∙ when-true _ _ (no-newline sign.before p.1))
      (pat3-along pat p.3 fs es (Some (record { id = id; sign = sign })) [] refl p.2))
  pat1-along (InfixPat pat) p fs es h = pat3-along pat p.1 fs es None [] h p.0

  pub pat-along : (d : Pat) → ProperPat d → (fs : List Frame) (es : List Earlier) → may_stand None [] es (newline_before (pat_tokens d)) ≡ true
      → Leads (pat_tokens d) (at fs es fresh) (after fs es d)
  pat-along (LastAlternative x) p fs es h = pat1-along x p fs es h
  pat-along (MoreAlternatives x stroke pats) p fs es h =
      leads-then (pat1_tokens x) _ _ (at fs es (after1 x)) _ (pat1-along x p.0 fs es (subst (λ n. may_stand None [] es n ≡ true) (front-newline1 x (bar stroke ∷ pat_tokens pats)) h))
      (leads-on (bar stroke) _ _ (at fs (record { pat = x; stroke = stroke } ∷ es) fresh) _ (bar-behind x stroke fs es p.0 p.1)
      (pat-along pats p.3 fs (record { pat = x; stroke = stroke } ∷ es) (no-newline (newline_before (pat_tokens pats)) p.2)))

  pub list-along : (d : PatList) → ProperPatList d → (path : QualId) (o : Place) (done : List Done) (b : Option Binder) (os : List Operation) (es : List Earlier) (fs : List Frame)
      → Leads (pat_list_tokens d) (at (frame_of (Call path o done) b os es ∷ fs) [] fresh) (after (frame_of (Call path o (done_of d done)) b os es ∷ fs) [] (last_pat d))
  list-along (LastPat x) p path o done b os es fs = pat-along x p (frame_of (Call path o done) b os es ∷ fs) [] refl
  list-along (MorePats x k pats) p path o done b os es fs =
      leads-then (pat_tokens x) _ _ _ _ (pat-along x p.0 (frame_of (Call path o done) b os es ∷ fs) [] refl)
      (leads-on (comma k) _ _ (at (frame_of (Call path o (record { pat = x; place = k } ∷ done)) b os es ∷ fs) [] fresh) _ (comma-ends x k (frame_of (Call path o done) b os es ∷ fs) p.0)
      (list-along pats p.1 path o (record { pat = x; place = k } ∷ done) b os es fs))
