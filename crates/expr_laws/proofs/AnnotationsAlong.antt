-- The items of annotations lead the machine of definitions to where these were read, and so do those of all modifiers.
use Rattle.std.proofs.Common.{◌≡◌, Bool, true, false, if◌then◌else◌, List, [], ◌∷◌, ◌++◌, Some, None, refl, ap, sym, ◌∙◌, append_assoc, append-nil}
use Rattle.std.specs.Prelude.{not}
use Rattle.scan_tokens.specs.declared.roles.Bracket.{Bracket}
use Rattle.scan_tokens.specs.declared.roles.Bracket.TheVariants.{Round, Square, Curly}
use Rattle.scan_tokens.specs.declared.roles.Role.{Role}
use Rattle.scan_tokens.specs.declared.roles.Role.TheVariants.{Opens, Closes}
use Rattle.scan_tokens.specs.declared.tokens.Newline.{Newline}
use Rattle.source_grammar.specs.Brackets.{Opened, role, matches, opened_after, open_after, closes_wrongly, unmatched, is_balanced}
use Rattle.source_grammar.specs.Definitions.{mod_list_tokens, annotations_tokens, ProperArguments, ProperAnnotations, ProperMods}
use Rattle.source_grammar.specs.Lexemes.{Place, Lexeme, at_sign, open_round, close_round, dot, Id, id_token, Step, QualId, steps_tokens, qual_id_tokens}
use Rattle.source_grammar.specs.Newlines.{newline_before}
use Rattle.parse_patterns.specs.Steps.{is_no}
use Rattle.expr_laws.proofs.BalancedTokens.{round-closes, balanced-none, none-open, passed, not-wrong, braces-passed}
use Rattle.expr_laws.proofs.DefsDerived.{Mark, AnAt, Plain, mark, ReadArguments, NoneRead, Between, ReadAnnotation, ReadMods, arguments_of, annotations_of, mods_of, ordered, AtMods, AtAt, AtAnnotation, AtAnnotationDot, InArguments, Found, State, at, bridges, at_mods, at_path, behind_path_dot, at_annotation, in_arguments}
use Rattle.expr_laws.proofs.DefsSteps.{within, step, begun, annotation_items, annotations_items, mods_items}
use Rattle.expr_laws.proofs.Derived.{Item, OneToken, BlockPair, CasesPair, EnumsPair, OtherPair, items_tokens}
use Rattle.expr_laws.proofs.Items.{tokens}
use Rattle.expr_laws.proofs.Leading.{LeadsBy, by-none, by-then, by-on, by-one, by-to}
use Rattle.expr_laws.proofs.ModsAlong.{mark-id, continues, Continues, continues-mods, ModsEnd, mod-list-along}
use Rattle.expr_laws.proofs.Seen.{AWord, ClosesRound, seen-dot, seen-open_round, seen-close_round}
use Rattle.expr_laws.proofs.TokenSteps.{if-true}

-- ---- paths

steps-along : (steps : List Step) (found : Found) (sign : Place) (first : Id) (before : List Step)
    → LeadsBy step (tokens (steps_tokens steps)) (at found (AtAnnotation sign (record { first = first; steps = before }))) (at found (AtAnnotation sign (record { first = first; steps = before ++ steps })))
steps-along [] found sign first before =
    by-to step [] _ _ _ (ap (λ all. at found (AtAnnotation sign (record { first = first; steps = all }))) (sym (append-nil before))) (by-none step _)
steps-along (s ∷ steps) found sign first before =
    let path : QualId = record { first = first; steps = before } in
    by-to step _ (at found (AtAnnotation sign path)) _ _ (ap (λ all. at found (AtAnnotation sign (record { first = first; steps = all }))) (append_assoc before (s ∷ []) steps))
    (by-on step (OneToken (dot s.point)) _ _ (at found (AtAnnotationDot sign path s.point)) _ (ap (λ y. at_annotation found sign path (Plain y) s.point.before) (seen-dot s.point))
    (by-on step (OneToken (id_token s.id)) _ _ (at found (AtAnnotation sign (record { first = first; steps = before ++ s ∷ [] }))) _ (ap (behind_path_dot found sign path s.point) (mark-id s.id))
    (steps-along steps found sign first (before ++ s ∷ []))))

path-along : (path : QualId) (found : Found) (sign : Place) → LeadsBy step (tokens (qual_id_tokens path)) (at found (AtAt sign)) (at found (AtAnnotation sign path))
path-along path found sign =
    by-on step (OneToken (id_token path.first)) _ _ (at found (AtAnnotation sign (record { first = path.first; steps = [] }))) _ (ap (at_path found sign) (mark-id path.first))
    (steps-along path.steps found sign path.first [])

-- ---- arguments

abbrev pub is_brace : Role → Bool
is_brace (Opens Curly) = true
is_brace (Closes Curly) = true
is_brace _ = false

-- what a level of items has: no brace is a token, and what stands in braces has brackets that match
abbrev pub AllowedItem : Item → Type 0
AllowedItem (OneToken x) = is_brace (role x) ≡ false
AllowedItem i = is_balanced (within i) ≡ true

abbrev pub Allowed : List Item → Type 0
Allowed [] = Unit {0}
Allowed (i ∷ is) = AllowedItem i × Allowed is

matched : (b : Bracket) (ks : List Opened) → closes_wrongly (Closes b) ks ≡ false → matches b ks ≡ true
matched b ks e = go (matches b ks) e where
  go : (m : Bool) → not m ≡ false → m ≡ true
  go true f = refl
  go false f = cc

abbrev arguments : Found → Place → QualId → Place → List Item → List Opened → State
arguments found sign path o is ks = at found (InArguments sign path o is ks)

-- a token that is no brace and closes no bracket wrongly
token-argument : (x : Lexeme) (y : Mark) (r : Role) (ks : List Opened) (found : Found) (sign : Place) (path : QualId) (o : Place) (is : List Item) → role x ≡ r → is_brace r ≡ false
    → closes_wrongly r ks ≡ false → in_arguments found sign path o is ks y x r ≡ Some (arguments found sign path o (is ++ OneToken x ∷ []) (open_after x ks))
token-argument x y (Opens Curly) ks found sign path o is e h w = cc
token-argument x y (Closes Curly) ks found sign path o is e h w = cc
token-argument x y (Closes Round) [] found sign path o is e h w = cc
token-argument x y (Closes Square) [] found sign path o is e h w = cc
token-argument x y (Closes Round) (k ∷ ks) found sign path o is e h w =
    ap (λ m. if m then Some (arguments found sign path o (is ++ OneToken x ∷ []) ks) else None) (matched Round (k ∷ ks) w)
    ∙ ap (λ r. Some (arguments found sign path o (is ++ OneToken x ∷ []) (opened_after r x.place.span (k ∷ ks)))) (sym e)
token-argument x y (Closes Square) (k ∷ ks) found sign path o is e h w =
    ap (λ m. if m then Some (arguments found sign path o (is ++ OneToken x ∷ []) ks) else None) (matched Square (k ∷ ks) w)
    ∙ ap (λ r. Some (arguments found sign path o (is ++ OneToken x ∷ []) (opened_after r x.place.span (k ∷ ks)))) (sym e)
token-argument x y _ ks found sign path o is e h w = refl

-- one item, and those behind it
then-items : (i : Item) (is : List Item) (found : Found) (sign : Place) (path : QualId) (o : Place) (before : List Item) (ks ls : List Opened)
    → step (arguments found sign path o before ks) i ≡ Some (arguments found sign path o (before ++ i ∷ []) ls)
    → LeadsBy step is (arguments found sign path o (before ++ i ∷ []) ls) (arguments found sign path o ((before ++ i ∷ []) ++ is) [])
    → LeadsBy step (i ∷ is) (arguments found sign path o before ks) (arguments found sign path o (before ++ i ∷ is) [])
then-items i is found sign path o before ks ls e rest =
    by-to step (i ∷ is) _ _ _ (ap (λ all. arguments found sign path o all []) (append_assoc before (i ∷ []) is))
    (by-on step i is _ (arguments found sign path o (before ++ i ∷ []) ls) _ e rest)

pair-argument : (i : Item) (ks : List Opened) (found : Found) (sign : Place) (path : QualId) (o : Place) (is : List Item) → is_balanced (within i) ≡ true
    → (if is_balanced (within i) then Some (arguments found sign path o (is ++ i ∷ []) ks) else None) ≡ Some (arguments found sign path o (is ++ i ∷ []) ks)
pair-argument i ks found sign path o is e = if-true (is_balanced (within i)) (Some (arguments found sign path o (is ++ i ∷ []) ks)) None e

pub items-along : (is : List Item) (ks : List Opened) (found : Found) (sign : Place) (path : QualId) (o : Place) (before : List Item) → Allowed is → unmatched ks (items_tokens is) ≡ None
    → LeadsBy step is (arguments found sign path o before ks) (arguments found sign path o (before ++ is) [])
items-along [] ks found sign path o before a e =
    by-to step [] _ _ _ (ap (arguments found sign path o before) (none-open ks e) ∙ ap (λ all. arguments found sign path o all []) (sym (append-nil before))) (by-none step _)
items-along (OneToken x ∷ is) ks found sign path o before a e =
    let right = not-wrong x ks (items_tokens is) e in
    then-items (OneToken x) is found sign path o before ks (open_after x ks) (token-argument x (mark x) (role x) ks found sign path o before refl a.0 right)
    (items-along is (open_after x ks) found sign path o (before ++ OneToken x ∷ []) a.1 (sym (passed x ks (items_tokens is) right) ∙ e))
items-along (BlockPair p block k ∷ is) ks found sign path o before a e =
    then-items (BlockPair p block k) is found sign path o before ks ks (pair-argument (BlockPair p block k) ks found sign path o before a.0)
    (items-along is ks found sign path o (before ++ BlockPair p block k ∷ []) a.1 (sym (braces-passed p k (within (BlockPair p block k)) (items_tokens is) ks a.0) ∙ e))
items-along (CasesPair p cases k ∷ is) ks found sign path o before a e =
    then-items (CasesPair p cases k) is found sign path o before ks ks (pair-argument (CasesPair p cases k) ks found sign path o before a.0)
    (items-along is ks found sign path o (before ++ CasesPair p cases k ∷ []) a.1 (sym (braces-passed p k (within (CasesPair p cases k)) (items_tokens is) ks a.0) ∙ e))
items-along (EnumsPair p enums k ∷ is) ks found sign path o before a e =
    then-items (EnumsPair p enums k) is found sign path o before ks ks (pair-argument (EnumsPair p enums k) ks found sign path o before a.0)
    (items-along is ks found sign path o (before ++ EnumsPair p enums k ∷ []) a.1 (sym (braces-passed p k (within (EnumsPair p enums k)) (items_tokens is) ks a.0) ∙ e))
items-along (OtherPair p xs k ∷ is) ks found sign path o before a e =
    then-items (OtherPair p xs k) is found sign path o before ks ks (pair-argument (OtherPair p xs k) ks found sign path o before a.0)
    (items-along is ks found sign path o (before ++ OtherPair p xs k ∷ []) a.1 (sym (braces-passed p k xs (items_tokens is) ks a.0) ∙ e))

-- ---- one annotation

-- nothing but annotations was read
abbrev pub bare : List ReadAnnotation → Found
bare done = record { annotations = done; mods = [] }

abbrev pub AllowedArguments : ReadArguments → Type 0
AllowedArguments NoneRead = Unit {0}
AllowedArguments (Between o is k) = Allowed is

abbrev annotation : Place → QualId → ReadArguments → ReadAnnotation
annotation sign path arguments = record { sign = sign; path = path; arguments = arguments }

at-on : (sign : Place) (done : List ReadAnnotation) (s : State) → Continues s (bare done) → bridges [] done sign.before ≡ true → step s (OneToken (at_sign sign)) ≡ Some (at (bare done) (AtAt sign))
at-on sign done s on b = on.same (at_sign sign) refl ∙ if-true (bridges [] done sign.before) (Some (at (bare done) (AtAt sign))) None b

-- no arguments follow
path-alone : (sign : Place) (path : QualId) (done : List ReadAnnotation) → Continues (at (bare done) (AtAnnotation sign path)) (bare (annotation sign path NoneRead ∷ done))
path-alone sign path done = record { ends = refl; same = λ x h. go (mark x) x.place.before h } where
  go : (y : Mark) (n : Newline) → continues y ≡ true → at_annotation (bare done) sign path y n ≡ at_mods (bare (annotation sign path NoneRead ∷ done)) y n
  go (AnAt p) n h = refl
  go (Plain (AWord w p)) n h = refl
  go _ n h = cc

annotation-along : (sign : Place) (path : QualId) (arguments : ReadArguments) → ProperArguments (arguments_of arguments) → AllowedArguments arguments → (done : List ReadAnnotation) (s : State)
    → Continues s (bare done) → bridges [] done sign.before ≡ true → ModsEnd (annotation_items (annotation sign path arguments)) s (bare (annotation sign path arguments ∷ done))
annotation-along sign path NoneRead p a done s on b = record {
  end = at (bare done) (AtAnnotation sign path);
  leads = by-on step (OneToken (at_sign sign)) _ s (at (bare done) (AtAt sign)) _ (at-on sign done s on b)
      (by-then step (tokens (qual_id_tokens path)) [] _ (at (bare done) (AtAnnotation sign path)) _ (path-along path (bare done) sign) (by-none step _));
  on = path-alone sign path done;
}
annotation-along sign path (Between o is k) p a done s on b = record {
  end = at (bare (annotation sign path (Between o is k) ∷ done)) AtMods;
  leads = by-on step (OneToken (at_sign sign)) _ s (at (bare done) (AtAt sign)) _ (at-on sign done s on b)
      (by-then step (tokens (qual_id_tokens path)) _ _ (at (bare done) (AtAnnotation sign path)) _ (path-along path (bare done) sign)
      (by-on step (OneToken (open_round o)) _ _ (arguments (bare done) sign path o [] []) _
      (ap (λ y. at_annotation (bare done) sign path (Plain y) o.before) (seen-open_round o)
      ∙ if-true (is_no o.before) (Some (arguments (bare done) sign path o [] [])) None (ap is_no p.0))
      (by-then step is _ _ (arguments (bare done) sign path o is []) _ (items-along is [] (bare done) sign path o [] a (balanced-none (items_tokens is) p.1))
      (by-one step (OneToken (close_round k)) _ _
      (ap (λ y. in_arguments (bare done) sign path o is [] (Plain y) (close_round k) (role (close_round k))) (seen-close_round k)
      ∙ ap (in_arguments (bare done) sign path o is [] (Plain (ClosesRound k)) (close_round k)) (round-closes k))))));
  on = continues-mods _;
}

-- ---- all modifiers

abbrev pub AllAllowed : List ReadAnnotation → Type 0
AllAllowed [] = Unit {0}
AllAllowed (a ∷ rest) = AllowedArguments a.arguments × AllAllowed rest

pub record AnnotationsEnd (rest : List ReadAnnotation) (after : List Lexeme) (s : State) (done : List ReadAnnotation) : Type 0 where
  pub read : ModsEnd (annotations_items rest) s (bare (ordered rest done))
  pub bridged : bridges [] (ordered rest done) (newline_before after) ≡ true

annotations-along : (rest : List ReadAnnotation) (after : List Lexeme) → ProperAnnotations (annotations_of rest) after → AllAllowed rest → (done : List ReadAnnotation) (s : State)
    → Continues s (bare done) → bridges [] done (newline_before (annotations_tokens (annotations_of rest) ++ after)) ≡ true → AnnotationsEnd rest after s done
annotations-along [] after p w done s on b = record { read = record { end = s; leads = by-none step s; on = on }; bridged = b }
annotations-along (a ∷ rest) after p w done s on b =
    let first = annotation-along a.sign a.path a.arguments p.0 w.0 done s on b in
    let others = annotations-along rest after p.2 w.1 (a ∷ done) first.end first.on p.1 in
    record {
      read = record {
        end = others.read.end;
        leads = by-then step (annotation_items a) _ s first.end _ first.leads others.read.leads;
        on = others.read.on;
      };
      bridged = others.bridged;
    }

-- what was found of all modifiers
abbrev pub found_of : ReadMods → Found
found_of m = record { annotations = ordered m.annotations []; mods = ordered m.mods [] }

pub record AllMods (m : ReadMods) (after : List Lexeme) : Type 0 where
  pub read : ModsEnd (mods_items m) begun (found_of m)
  pub bridged : bridges (ordered m.mods []) (ordered m.annotations []) (newline_before after) ≡ true

pub mods-along : (m : ReadMods) (after : List Lexeme) → ProperMods (mods_of m) after → AllAllowed m.annotations → AllMods m after
mods-along m after p w =
    let front = annotations-along m.annotations (mod_list_tokens m.mods ++ after) p.0 w [] begun (continues-mods (bare [])) refl in
    let rest = mod-list-along m.mods after p.1 (bare (ordered m.annotations [])) front.read.end front.read.on front.bridged in
    record {
      read = record {
        end = rest.read.end;
        leads = by-then step (annotations_items m.annotations) _ begun front.read.end _ front.read.leads rest.read.leads;
        on = rest.read.on;
      };
      bridged = rest.bridged;
    }

-- what was collected, in its order
ordered-there : {A : Type 0} (xs done rest : List A) → ordered (ordered xs done) rest ≡ ordered done (xs ++ rest)
ordered-there [] done rest = refl
ordered-there (x ∷ xs) done rest = ordered-there xs (x ∷ done) rest

pub ordered-twice : {A : Type 0} (xs : List A) → ordered (ordered xs []) [] ≡ xs
ordered-twice xs = ordered-there xs [] [] ∙ append-nil xs
