-- What a state keeps so that what was read can be completed: what a group can become, and what can follow a `;`.
use Rattle.std.proofs.Common.{◌≡◌, ◌<◌, ◌≤◌, ℕ, suc, nat_lt, Bool, true, false, ◌&&◌, ◌||◌, if◌then◌else◌, List, [], ◌∷◌, length, Option, Some, None, inl, inr, refl, ap, sym, ◌∙◌, subst, arith}
use Rattle.std.specs.Prelude.{not, nat_le}
use Rattle.std.proofs.lemmas.Bool.Decides.{leb_tells}
use Rattle.expr_tails.specs.declared.states.Limit.{Limit}
use Rattle.expr_laws.proofs.Derived as derived
use Rattle.expr_laws.proofs.Derived.{DoneElement, OfName, OfWild, Tail, Begin, AtSign, AtName, AtWild, AtGroup, InTyped, AtSemi, AtGuardSemi, InPattern, Context, PatPart, Bracket, GroupBracket, GensBracket, Frame, State, parens_prim, is_nil, is_some, is_param_limit, may_head, takes_else, waits, in_gens, state}
use Rattle.expr_laws.proofs.TypesAlong.{is_case_limit}

-- ---- a parameter from the fourth on

-- a name or `_`, with its type
abbrev pub is_param_tail : Tail → Bool
is_param_tail Begin = true
is_param_tail (AtSign id) = true
is_param_tail (AtName id is_sign) = true
is_param_tail (AtWild place) = true
is_param_tail (InTyped (OfName id) point t) = true
is_param_tail (InTyped (OfWild place) point t) = true
is_param_tail _ = false

pub record IsParam (c : Context) : Type 0 where
  pub heads : c.heads ≡ []
  pub operations : c.operations ≡ []
  pub sign : c.sign ≡ None
  pub tail : is_param_tail c.tail ≡ true

-- ---- states

abbrev pub is_pattern_bracket : Bracket → Bool
is_pattern_bracket (GensBracket w o dones PatPart) = true
is_pattern_bracket _ = false

-- the pattern of a generator is read
abbrev pub in_pattern_part : List Frame → Bool
in_pattern_part [] = false
in_pattern_part (f ∷ fs) = is_pattern_bracket f.bracket

-- A group that is no Prim can become a head, and stands where a head can. What ended before a `;` is a generator, or a word of a head follows.
abbrev pub TailLives : List Frame → Context → Tail → Type 0
TailLives fs c (AtGroup o parens k head) = (head ≡ true → may_head c ≡ true) × ((is_some (parens_prim o parens k) || head) ≡ true)
TailLives fs c (AtSemi expr p ps) = ((in_gens fs && not (waits c.heads)) || (waits c.heads || (takes_else c.heads && is_nil ps))) ≡ true
TailLives fs c (AtGuardSemi test p ps) = in_gens fs ≡ true
TailLives fs c (InPattern p) = in_pattern_part fs ≡ true
TailLives fs c _ = Unit {0}

pub record ContextLives (fs : List Frame) (c : Context) : Type 0 where
  pub tail : TailLives fs c c.tail
  pub param : is_param_limit c.limit ≡ true → IsParam c
  pub no_case : is_case_limit c.limit ≡ false

-- so many elements that the group is the head of a lambda
abbrev pub are_many : List DoneElement → Bool
are_many done = nat_le 3 (length done)

abbrev pub BracketLives : Bracket → Context → Limit → Type 0
BracketLives (GroupBracket o done head) outer l = (head ≡ true → may_head outer ≡ true) × (is_param_limit l ≡ are_many done) × ((not (are_many done) || head) ≡ true)
BracketLives _ outer l = is_param_limit l ≡ false

pub record FrameLives (f : Frame) (l : Limit) (Rest : Type 0) : Type 0 where
  pub bracket : BracketLives f.bracket f.outer l
  pub no_param : is_param_limit f.outer.limit ≡ false
  pub no_case : is_case_limit f.outer.limit ≡ false
  pub rest : Rest

abbrev pub FramesLive : List Frame → Limit → Type 0
FramesLive [] l = Unit {0}
FramesLive (f ∷ fs) l = FrameLives f l (FramesLive fs f.outer.limit)

pub record Lives (s : State) : Type 0 where
  pub context : ContextLives s.frames s.context
  pub frames : FramesLive s.frames s.context.limit

abbrev pub AllLive : Option State → Type 0
AllLive o = (t : State) → o ≡ Some t → Lives t

pub live-none : AllLive None
live-none t e = cc

pub live-some : (s : State) → Lives s → AllLive (Some s)
live-some s k t e = (let same : s ≡ t = cc in subst Lives same k)

pub live-if : (b : Bool) (x y : Option State) → (b ≡ true → AllLive x) → (b ≡ false → AllLive y) → AllLive (if b then x else y)
live-if true x y p q = p refl
live-if false x y p q = q refl

-- ---- numbers of elements

pub many : (a b c : DoneElement) (done : List DoneElement) → are_many (a ∷ b ∷ c ∷ done) ≡ true
many a b c done = elim (leb_tells 3 (length (a ∷ b ∷ c ∷ done))) [ inl h ↦ h.0 | inr h ↦ (let l : length (a ∷ b ∷ c ∷ done) < 3 = h.1 in absurd (omega arith)) ]

pub few : (d : DoneElement) (done : List DoneElement) → nat_lt (length done) 2 ≡ true → are_many (d ∷ done) ≡ false
few d [] e = refl
few d (a ∷ []) e = refl
few d (a ∷ b ∷ done) e = absurd (no-fewer (length (a ∷ b ∷ done)) (omega arith) e) where
  no-fewer : (n : ℕ) → 2 ≤ n → nat_lt n 2 ≡ true → ⊥
  no-fewer n le e = elim (leb_tells (suc n) 2) [ inl h ↦ (let l : suc n ≤ 2 = h.1 in omega arith) | inr h ↦ (let no : true ≡ false = sym e ∙ h.0 in cc) ]

-- ---- calm tails

-- of them nothing is asked
abbrev pub is_calm : Tail → Bool
is_calm (AtGroup o parens k head) = false
is_calm (AtSemi expr p ps) = false
is_calm (AtGuardSemi test p ps) = false
is_calm (InPattern p) = false
is_calm _ = true

pub calm-lives : (fs : List Frame) (c : Context) (s : Tail) → is_calm s ≡ true → TailLives fs c s
calm-lives fs c (AtGroup o parens k head) e = cc
calm-lives fs c (AtSemi expr p ps) e = cc
calm-lives fs c (AtGuardSemi test p ps) e = cc
calm-lives fs c (InPattern p) e = cc
calm-lives fs c _ e = tt

pub fresh-lives : (fs : List Frame) (c : Context) → is_calm c.tail ≡ true → is_param_limit c.limit ≡ false → is_case_limit c.limit ≡ false → ContextLives fs c
fresh-lives fs c k n l = record { tail = calm-lives fs c c.tail k; param = λ e. (let no : true ≡ false = sym e ∙ n in cc); no_case = l }

-- the limit within the brackets is of the same kind
pub frames-limit : (fs : List Frame) (l m : Limit) → is_param_limit l ≡ is_param_limit m → FramesLive fs l → FramesLive fs m
frames-limit [] l m e h = tt
frames-limit (f ∷ fs) l m e h = record { bracket = go f.bracket h.bracket; no_param = h.no_param; no_case = h.no_case; rest = h.rest } where
  go : (b : Bracket) → BracketLives b f.outer l → BracketLives b f.outer m
  go (GroupBracket o done head) k = (k.0, sym e ∙ k.1, k.2)
  go _ k = sym e ∙ k

-- ---- contexts after an item

abbrev pub Calms : Context → Option Context → Type 0
Calms c o = (d : Context) → o ≡ Some d → (is_calm d.tail ≡ true) × (d.limit ≡ c.limit)

pub calms-none : (c : Context) → Calms c None
calms-none c d e = cc

pub calms-some : (c d : Context) → is_calm d.tail ≡ true → d.limit ≡ c.limit → Calms c (Some d)
calms-some c d k l u e = (let same : d ≡ u = cc in subst (λ v. (is_calm v.tail ≡ true) × (v.limit ≡ c.limit)) same (k, l))

pub calms-if : (b : Bool) (c : Context) (x y : Option Context) → Calms c x → Calms c y → Calms c (if b then x else y)
calms-if true c x y p q = p
calms-if false c x y p q = q

pub calms-else : (c : Context) (x y : Option Context) → Calms c x → Calms c y → Calms c (derived.or_else x y)
calms-else c None y p q = q
calms-else c (Some d) y p q = p

-- a calm context in the same brackets, where no parameter is read
pub context-live : (fs : List Frame) (c : Context) (o : Option Context) → is_param_limit c.limit ≡ false → is_case_limit c.limit ≡ false → FramesLive fs c.limit → Calms c o → AllLive (derived.in_state fs o)
context-live fs c None n l h k = live-none
context-live fs c (Some d) n l h k =
    let r = k d refl in
    live-some (state fs d) (record { context = fresh-lives fs d r.0 (ap is_param_limit r.1 ∙ n) (ap is_case_limit r.1 ∙ l); frames = subst (FramesLive fs) (sym r.1) h })
