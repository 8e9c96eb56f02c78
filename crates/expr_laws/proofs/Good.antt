-- What a state of the machine keeps of what the grammar asks, so that what was read is an expression of the grammar.
use Rattle.std.proofs.Common.{◌≡◌, Bool, true, false, ◌&&◌, ◌||◌, List, [], ◌∷◌, Option, Some, None, codes, refl}
use Rattle.std.specs.Prelude.{not}
use Rattle.scan_tokens.specs.declared.tokens.Newline.{Newline}
use Rattle.scan_tokens.specs.declared.tokens.Newline.TheVariants.{No}
use Rattle.source_grammar.specs.Comprehensions.{is_generator_pat, is_generator_spat}
use Rattle.source_grammar.specs.Expressions.{PrefixSign, Minus, Sep, Expr, TryCatch, ReturnOf, Infix, Prim, ApplyPrim}
use Rattle.source_grammar.specs.ExpressionRules.{Rule, ProperExpr, ProperHeading, ProperGen, ProperInfix, ProperPrefix, ProperPrim, takes_else, takes_catch, takes_operand, is_prefix_id, is_sign_alone, takes_args, extends_type, begins_with_number, infix_operators}
use Rattle.source_grammar.specs.ExpressionRules as rules
use Rattle.source_grammar.specs.ExpressionTokens.{sign_token, expr_tokens, heading_tokens, gen_tokens, infix_tokens, prefix_tokens, prim_tokens}
use Rattle.source_grammar.specs.Lexemes.{Place, Lexeme, word_at, open_round, underscore, id_token}
use Rattle.source_grammar.specs.Newlines.{IsJoined, is_near, newline_before}
use Rattle.source_grammar.specs.Patterns.{pat_tokens, is_var_path, ProperPat}
use Rattle.source_grammar.specs.Precedence.{are_of_one_side}
use Rattle.source_grammar.specs.Types.{OfPath}
use Rattle.parse_parts.proofs.Derived as types
use Rattle.parse_patterns.specs.Steps.{is_no}
use Rattle.parse_patterns.proofs.Derived as patterns
use Rattle.parse_patterns.proofs.Derived.{tokens_in as pattern_tokens_in}
use Rattle.parse_patterns.proofs.Good as good_patterns
use Rattle.parse_patterns.proofs.SimpleTypes.{can_be_simple}
use Rattle.expr_tails.specs.declared.states.Limit.{Limit}
use Rattle.expr_tails.specs.declared.states.Limit.TheVariants as limit
use Rattle.expr_laws.proofs.Derived.{Item, Operation, Element, ParamElement, ExprElement, DoneElement, DoneExpr, Parens, NoElements, Elements, TypedOf, OfChain, Tail, Begin, AtSign, AtName, AtWild, AtGroup, AtPrim, AtCall, AtDot, AtSuper, AtSuperDot, InNew, AtNew, InTypes, InTyped, AtMatch, AtReturn, AtAsker, AtUntil, AtCatch, AtCaught, AtEnded, AtSemi, AtGuardSemi, InPattern, Head, Of, DoHead, Context, DoneGuard, Part, PatPart, FromPart, GuardPart, DoneGen, Bracket, GroupBracket, ArgsBracket, NewArgsBracket, IfTest, WhileTest, DoTest, GensBracket, Frame, State, typed_infix, is_apart, is_first, is_nil, is_none, is_param_limit}
use Rattle.expr_laws.proofs.Read.{asker_word}
pub use Rattle.expr_laws.specs.Exactly.{ProperItem}

pub is-no : (n : Newline) → is_no n ≡ true → n ≡ No
is-no No e = refl
is-no _ e = cc

-- ---- the first token

-- the operand of `return` begins directly behind it
abbrev pub JoinedIf : List Head → Newline → Type 0
JoinedIf (Of (ReturnOf word) ∷ hs) before = before ≡ No
JoinedIf _ before = Unit {0}

-- behind an operator no empty line
abbrev pub NearIf : List Operation → Newline → Type 0
NearIf [] before = Unit {0}
NearIf (o ∷ os) before = is_near before ≡ true

abbrev pub is_minus : PrefixSign → Bool
is_minus (Minus place) = true
is_minus _ = false

-- a Prim stands directly behind its sign, and is no number behind `-`
abbrev pub SignedIf : Option PrefixSign → Newline → Bool → Type 0
SignedIf None before number = Unit {0}
SignedIf (Some sign) before number = (before ≡ No) × ((is_minus sign && number) ≡ false)

-- the newline before what was read since the last head, where this one stands behind operators and sign
abbrev pub operations_before : List Operation → Newline → Newline
operations_before [] before = before
operations_before (o ∷ os) before = operations_before os (newline_before (prefix_tokens o.left))

abbrev pub sign_before : Option PrefixSign → Newline → Newline
sign_before None before = before
sign_before (Some sign) before = (sign_token sign).place.before

-- Between two items no context waits for the first token of the operand of a `return` or of a sign, and a type behind `new` may go on.
abbrev pub is_return : List Head → Bool
is_return (Of (ReturnOf word) ∷ hs) = true
is_return _ = false

abbrev pub rests_at : Tail → Context → Bool
rests_at Begin c = is_none c.sign && (not (is_return c.heads) || not (is_nil c.operations))
rests_at (AtNew word type) c = false
rests_at _ c = true

abbrev pub rests : Context → Bool
rests c = rests_at c.tail c

-- with these tokens a tail begins
abbrev pub tail_front : Tail → List Lexeme
tail_front Begin = []
tail_front (AtSign id) = id_token id ∷ []
tail_front (AtName id is_sign) = id_token id ∷ []
tail_front (AtWild place) = underscore place ∷ []
tail_front (AtGroup o parens k head) = open_round o ∷ []
tail_front (AtPrim prim) = prim_tokens prim
tail_front (AtCall prim args) = prim_tokens prim
tail_front (AtDot prim point) = prim_tokens prim
tail_front (AtSuper word) = word_at (codes "super") word ∷ []
tail_front (AtSuperDot word point) = word_at (codes "super") word ∷ []
tail_front (InNew word t) = word_at (codes "new") word ∷ []
tail_front (AtNew word type) = word_at (codes "new") word ∷ []
tail_front (InTypes prim o done t) = prim_tokens prim
tail_front (InTyped of point t) = infix_tokens (typed_infix of)
tail_front (AtMatch chain word) = infix_tokens chain
tail_front (AtReturn word) = word_at (codes "return") word ∷ []
tail_front (AtAsker a word) = asker_word a word ∷ []
tail_front (AtUntil word body sep until) = word_at (codes "do") word ∷ []
tail_front (AtCatch word body catch) = word_at (codes "try") word ∷ []
tail_front (AtCaught word body catch o cases k) = word_at (codes "try") word ∷ []
tail_front (AtEnded expr) = expr_tokens expr
tail_front (AtSemi expr p ps) = expr_tokens expr
tail_front (AtGuardSemi test p ps) = infix_tokens test
tail_front (InPattern p) = []

abbrev pub bracket_front : Bracket → List Lexeme
bracket_front (GroupBracket o done head) = open_round o ∷ []
bracket_front (ArgsBracket prim o done) = prim_tokens prim
bracket_front (NewArgsBracket word type o done) = word_at (codes "new") word ∷ []
bracket_front (IfTest word o) = word_at (codes "if") word ∷ []
bracket_front (WhileTest word o) = word_at (codes "while") word ∷ []
bracket_front (DoTest word body sep until o) = word_at (codes "do") word ∷ []
bracket_front (GensBracket word o done part) = word_at (codes "for") word ∷ []

abbrev pub head_before : Head → Newline
head_before (Of heading) = newline_before (heading_tokens heading)
head_before (DoHead word) = word.before

-- the pattern of a generator
abbrev pub part_front : Part → Tail → List Lexeme
part_front PatPart (InPattern p) = pattern_tokens_in p
part_front PatPart _ = []
part_front (FromPart pat arrow) tail = pat_tokens pat
part_front (GuardPart pat arrow from done sep word) tail = pat_tokens pat

-- ---- types and patterns

-- Args behind it are its own, and so are a name and types
abbrev pub is_receiver : Prim → Bool
is_receiver prim = not (takes_args prim) && not (is_sign_alone prim)

-- a path is no other named type
abbrev pub is_type_tail : types.Tail → Bool
is_type_tail (types.AtNamed (OfPath path)) = false
is_type_tail _ = true

-- in the guard of a case the type behind `new` can still be a Simple
abbrev pub can_be_new : Limit → types.State → Bool
can_be_new limit.CaseGuard t = can_be_simple t
can_be_new _ t = true

pub record GoodType (l : Limit) (t : types.State) : Type 0 where
  pub tail : is_type_tail t.tail ≡ true
  pub can : can_be_new l t ≡ true

abbrev pub is_generator_tail : patterns.Tail → Bool
is_generator_tail patterns.Begin = true
is_generator_tail (patterns.AtWild place) = true
is_generator_tail (patterns.AtPath path) = is_var_path path.first path.steps
is_generator_tail (patterns.AtDot path d) = false
is_generator_tail (patterns.AtEnded pat) = is_generator_spat pat

abbrev pub is_generator_current : patterns.Current → Bool
is_generator_current (patterns.InType s point t) = false
is_generator_current (patterns.InInfix b os tail) = is_generator_tail tail

abbrev pub is_generator_bracket : patterns.Bracket → Bool
is_generator_bracket (patterns.Call path o done) = false
is_generator_bracket (patterns.Group o) = true
is_generator_bracket (patterns.GroupOne o a p) = is_generator_pat a
is_generator_bracket (patterns.GroupTwo o a p b q) = is_generator_pat a && is_generator_pat b

abbrev pub are_generator_brackets : List patterns.Frame → Bool
are_generator_brackets [] = true
are_generator_brackets (f ∷ fs) = is_generator_bracket f.bracket && are_generator_brackets fs

pub record GoodPattern (p : patterns.State) : Type 0 where
  pub proper : good_patterns.Good p
  pub current : is_generator_current p.current ≡ true
  pub frames : are_generator_brackets p.frames ≡ true

-- ---- guards

-- the separator and the `if` of the first guard
abbrev pub first_apart : List DoneGuard → Sep → Place → Bool
first_apart [] sep word = rules.is_apart sep word
first_apart (g ∷ done) sep word = first_apart done g.sep g.word

module _ (rule : Rule) where
  pub record ProperChain (chain : Infix) : Type 0 where
    pub proper : ProperInfix rule chain
    pub one_side : are_of_one_side (infix_operators chain) ≡ true

  -- ---- tails

  abbrev pub GoodElement : Element → Type 0
  GoodElement (ParamElement p) = Unit {0}
  GoodElement (ExprElement expr) = ProperExpr rule expr

  abbrev pub GoodElements : List DoneElement → Type 0
  GoodElements [] = Unit {0}
  GoodElements (d ∷ done) = GoodElement d.element × GoodElements done

  abbrev pub GoodParens : Parens → Type 0
  GoodParens NoElements = Unit {0}
  GoodParens (Elements done e) = GoodElement e × GoodElements done

  abbrev pub GoodTypedOf : TypedOf → Type 0
  GoodTypedOf (OfChain chain) = ProperChain chain
  GoodTypedOf _ = Unit {0}

  abbrev pub GoodTail : Limit → Tail → Type 0
  GoodTail l (AtName id is_sign) = is_sign ≡ false → is_prefix_id id ≡ false
  GoodTail l (AtGroup o parens k head) = GoodParens parens
  GoodTail l (AtPrim prim) = ProperPrim rule prim × (is_receiver prim ≡ true)
  GoodTail l (AtCall prim args) = ProperPrim rule (ApplyPrim prim args)
  GoodTail l (AtDot prim point) = ProperPrim rule prim × (extends_type prim ≡ false)
  GoodTail l (InNew word t) = GoodType l t
  GoodTail l (InTypes prim o done t) = ProperPrim rule prim × (extends_type prim ≡ false)
  GoodTail l (InTyped of point t) = GoodTypedOf of
  GoodTail l (AtMatch chain word) = ProperChain chain
  GoodTail l (AtUntil word body sep until) = ProperExpr rule body × ((not (takes_operand body) || rules.is_apart sep until) ≡ true)
  GoodTail l (AtCatch word body catch) = ProperExpr rule body × (takes_catch body ≡ false)
  GoodTail l (AtCaught word body catch o cases k) = ProperExpr rule (TryCatch word body catch o cases k)
  GoodTail l (AtEnded expr) = ProperExpr rule expr
  GoodTail l (AtSemi expr p ps) = ProperExpr rule expr × (takes_else expr ≡ false)
  GoodTail l (AtGuardSemi test p ps) = ProperChain test
  GoodTail l (InPattern p) = GoodPattern p
  GoodTail l _ = Unit {0}

  -- ---- contexts

  abbrev pub GoodHead : Head → Type 0
  GoodHead (Of heading) = (body : Expr) → JoinedIf (Of heading ∷ []) (newline_before (expr_tokens body)) → ProperHeading rule heading body
  GoodHead (DoHead word) = Unit {0}

  abbrev pub GoodHeads : List Head → Type 0
  GoodHeads [] = Unit {0}
  GoodHeads (h ∷ hs) = GoodHead h × JoinedIf hs (head_before h) × GoodHeads hs

  pub record GoodOperation (o : Operation) (os : List Operation) : Type 0 where
    pub proper : ProperPrefix rule o.left
    pub before : rules.is_before_operator o.left ≡ true
    pub joined : IsJoined o.operator.place
    pub near : NearIf os (newline_before (prefix_tokens o.left))

  abbrev pub GoodOperations : List Operation → Type 0
  GoodOperations [] = Unit {0}
  GoodOperations (o ∷ os) = GoodOperation o os × GoodOperations os

  -- heads, operators and a sign, with the newline before the first token behind them, and whether that is a number
  pub record GoodLevel (hs : List Head) (os : List Operation) (sign : Option PrefixSign) (before : Newline) (number : Bool) : Type 0 where
    pub heads : GoodHeads hs
    pub operations : GoodOperations os
    pub joined : JoinedIf hs (operations_before os (sign_before sign before))
    pub near : NearIf os (sign_before sign before)
    pub signed : SignedIf sign before number

  -- of a context whose tail begins with these tokens
  abbrev pub LevelOf : Context → List Lexeme → Type 0
  LevelOf c xs = GoodLevel c.heads c.operations c.sign (newline_before xs) (begins_with_number xs)

  pub record GoodContext (c : Context) : Type 0 where
    pub level : LevelOf c (tail_front c.tail)
    pub tail : GoodTail c.limit c.tail
    -- where parameters alone are read no operator stands
    pub param : is_param_limit c.limit ≡ true → is_first c ≡ true

  -- ---- frames

  abbrev pub GoodExprs : List DoneExpr → Type 0
  GoodExprs [] = Unit {0}
  GoodExprs (d ∷ done) = ProperExpr rule d.expr × GoodExprs done

  abbrev pub GoodGuards : List DoneGuard → Type 0
  GoodGuards [] = Unit {0}
  GoodGuards (g ∷ done) = ProperChain g.test × GoodGuards done

  -- the generators before the last separator, where the next one begins behind this newline
  abbrev pub GoodGens : List DoneGen → Newline → Type 0
  GoodGens [] before = Unit {0}
  GoodGens (d ∷ done) before = ProperGen rule d.gen × (is_apart d.sep before ≡ true) × GoodGens done (newline_before (gen_tokens d.gen))

  abbrev pub GoodPart : Part → Type 0
  GoodPart PatPart = Unit {0}
  GoodPart (FromPart pat arrow) = ProperPat pat × (is_generator_pat pat ≡ true)
  GoodPart (GuardPart pat arrow from done sep word) =
      ProperPat pat × (is_generator_pat pat ≡ true) × ProperExpr rule from × ((not (takes_operand from) || first_apart done sep word) ≡ true) × GoodGuards done

  -- of an open bracket, with the tail in it
  abbrev pub GoodBracket : Bracket → Tail → Type 0
  GoodBracket (GroupBracket o done head) tail = GoodElements done
  GoodBracket (ArgsBracket prim o done) tail = ProperPrim rule prim × (is_receiver prim ≡ true) × IsJoined o × GoodExprs done
  GoodBracket (NewArgsBracket word type o done) tail = IsJoined o × GoodExprs done
  GoodBracket (DoTest word body sep until o) tail = ProperExpr rule body × ((not (takes_operand body) || rules.is_apart sep until) ≡ true)
  GoodBracket (GensBracket word o done part) tail = GoodPart part × GoodGens done (newline_before (part_front part tail))
  GoodBracket _ tail = Unit {0}

  pub record GoodFrame (f : Frame) (tail : Tail) : Type 0 where
    pub level : LevelOf f.outer (bracket_front f.bracket)
    pub bracket : GoodBracket f.bracket tail
    pub param : is_param_limit f.outer.limit ≡ true → is_first f.outer ≡ true

  abbrev pub GoodFrames : List Frame → Tail → Type 0
  GoodFrames [] tail = Unit {0}
  GoodFrames (f ∷ fs) tail = GoodFrame f tail × GoodFrames fs f.outer.tail

  pub record Good (s : State) : Type 0 where
    pub context : GoodContext s.context
    pub rests : rests s.context ≡ true
    pub frames : GoodFrames s.frames s.context.tail

  -- ---- items

  -- what stands in their braces is of the grammar
  abbrev pub ProperItems : List Item → Type 0
  ProperItems [] = Unit {0}
  ProperItems (i ∷ is) = ProperItem rule i × ProperItems is
