-- A pair of braces as one item, the reader as the machine.
use Rattle.std.proofs.Common.{◌≡◌, true, false, List, [], ◌∷◌, ◌++◌, map, Option, Some, None, codes, refl, ap, sym, ◌∙◌, append_assoc, append-nil, ◌⊎◌, inl, inr, Bool, ◌&&◌, ◌||◌, if◌then◌else◌, option_map}
use Rattle.pc_terms.specs.declared.problems.Span.{Span}
use Rattle.pc_terms.specs.declared.tree_kinds.TreeKind.TheVariants as kind
use Rattle.source_grammar.specs.Expressions.{Expr, MatchExpr, Enums, Infix, Prim, BlockPrim, CasesPrim, NewOf, NewWith, ApplyPrim, Args, BlockArg, CasesArg, Block, Cases, NamePrim, ForCurly}
use Rattle.source_grammar.specs.ExpressionTokens.{expr_tokens, infix_tokens, prim_tokens, args_tokens, block_tokens, cases_tokens}
use Rattle.source_grammar.specs.ExpressionTrees.{joined_built, expr_built, infix_chain, prim_built, args_built, block_built, cases_built, enums_built}
use Rattle.source_grammar.specs.Lexemes.{Place, Lexeme, word_at, open_curly, close_curly, Id}
use Rattle.source_grammar.specs.Placeholders as grammar
use Rattle.source_grammar.specs.Placeholders.{trees_of, free_of}
use Rattle.source_grammar.specs.Spans.{from_to, end_behind, span_of}
use Rattle.source_grammar.specs.Types.{WrittenType, type_tokens, type_tree}
use Rattle.parse_parts.proofs.Kept.{kept, kept_all, alone-kept, joined-kept}
use Rattle.parse_parts.proofs.Shown.{end-behind}
use Rattle.parse_patterns.proofs.Chains.{start-append, span-is}
use Rattle.tree_lower.specs.Keeping.{places_shown, generator_shown}
use Rattle.tree_lower.specs.Lowering.{unlabelled, appended}
use Rattle.tree_lower.proofs.KeptTrees.{unlabelled-kept, appended-kept}
use Rattle.expr_tails.specs.declared.items.Inside.{Inside}
use Rattle.expr_tails.specs.declared.items.Inside.TheVariants as inside
use Rattle.expr_tails.specs.declared.states.Context.{Context}
use Rattle.expr_tails.specs.declared.states.Form.TheVariants as form
use Rattle.expr_tails.specs.declared.states.HeadKind.TheVariants as head
use Rattle.expr_tails.specs.declared.states.Tail.TheVariants as tail
use Rattle.expr_tails.specs.Tails.{from_start}
use Rattle.expr_frames.specs.Frames.{left, takes_args, may_stand}
use Rattle.expr_steps.specs.declared.braces.Asks.TheVariants as asks
use Rattle.expr_steps.specs.Braces as spec
use Rattle.expr_laws.proofs.Beginning.{prim-begins, places-append}
use Rattle.expr_laws.proofs.Decided.{behind-head}
use Rattle.expr_laws.proofs.Derived as derived
use Rattle.expr_laws.proofs.Fitting.{Fits}
use Rattle.expr_laws.proofs.Headed.{infix-begins}
use Rattle.expr_laws.proofs.Naming.{left-shown, receiver-prim, args-shown, not-param}
use Rattle.expr_laws.proofs.Shown.{prim_piece, form_of, infix_piece, ended_piece, operations_free, free_in, context_with, context_shown, built_shown, block_inside, cases_inside, enums_inside, frame_shown, shown, tail_shown}
use Rattle.parse_parts.specs.declared.built.Kids.{Kids}
use Rattle.parse_parts.specs.declared.built.Tall.{Tall}
use Rattle.expr_tails.specs.declared.states.Form.{Form}
use Rattle.expr_frames.specs.Heads.{with_head}
use Rattle.source_grammar.specs.Comprehensions.{gen_free}
use Rattle.expr_steps.specs.Braces.{behind}
use Rattle.positioned_trees.specs.declared.details.Selector.{Selector}
use Rattle.expr_tails.specs.declared.items.Braces.{Braces}
use Rattle.expr_steps.specs.declared.braces.Asks.{Asks}
use Rattle.expr_tails.specs.declared.states.State.{State}
use Rattle.expr_steps.specs.Steps.{state}
use Rattle.source_grammar.specs.Newlines.{is_near}
use Rattle.parse_patterns.specs.Steps.{is_no}
use Rattle.expr_laws.proofs.Agreeing.{stand-shown}
use Rattle.std.specs.Prelude.{not}

-- what stands in the braces, as the reader has it
abbrev pub inside_shown : derived.Item → Inside
inside_shown (derived.BlockPair o block c) = block_inside o block c
inside_shown (derived.CasesPair o cases c) = cases_inside cases
inside_shown (derived.EnumsPair o enums c) = enums_inside enums
inside_shown _ = inside.Nothing

-- ---- a block or cases

-- braces that are an argument, or a Prim
record IsArg (o c : Place) (i : derived.Item) : Type 0 where
  args : Args
  prim : Prim
  part : grammar.Built
  rest : List Lexeme
  argument : derived.arg_of i ≡ Some args
  operand : derived.prim_of i ≡ Some prim
  args_are : args_built args ≡ part ∷ []
  prim_is : prim_built prim ≡ part
  span_is : span_of (prim_tokens prim) ≡ from_to o.span c.span
  plain : form_of prim ≡ form.Plain
  shown_is : spec.arg_of (from_to o.span c.span) (inside_shown i) ≡ built_shown part
  begins : args_tokens args ≡ open_curly o ∷ rest
  ends : end_behind o.span.end rest ≡ c.span.end
  any : spec.answers asks.Any (inside_shown i) ≡ true

curly-span : (o c : Place) (xs : List Lexeme) → span_of (open_curly o ∷ (xs ++ close_curly c ∷ [])) ≡ from_to o.span c.span
curly-span o c xs = ap (from_start o.span.start) (end-behind o.span.end xs (close_curly c) [])

block-arg : (o : Place) (block : Block) (c : Place) → IsArg o c (derived.BlockPair o block c)
block-arg o block c = record {
  args = BlockArg o block c;
  prim = BlockPrim o block c;
  part = block_built (from_to o.span c.span) block;
  rest = block_tokens block ++ close_curly c ∷ [];
  argument = refl;
  operand = refl;
  args_are = refl;
  prim_is = refl;
  span_is = curly-span o c (block_tokens block);
  plain = refl;
  shown_is = refl;
  begins = refl;
  ends = end-behind o.span.end (block_tokens block) (close_curly c) [];
  any = refl;
}

cases-arg : (o : Place) (cases : Cases) (c : Place) → IsArg o c (derived.CasesPair o cases c)
cases-arg o cases c = record {
  args = CasesArg o cases c;
  prim = CasesPrim o cases c;
  part = grammar.node kind.CaseFunction (from_to o.span c.span) (cases_built cases);
  rest = cases_tokens cases ++ close_curly c ∷ [];
  argument = refl;
  operand = refl;
  args_are = refl;
  prim_is = refl;
  span_is = curly-span o c (cases_tokens cases);
  plain = refl;
  shown_is = ap (λ t. record { tall = t; free = places_shown (free_of (cases_built cases)) }) (unlabelled-kept kind.CaseFunction (from_to o.span c.span) (trees_of (cases_built cases)));
  begins = refl;
  ends = end-behind o.span.end (cases_tokens cases) (close_curly c) [];
  any = refl;
}

args-trees : (o c : Place) (i : derived.Item) (a : IsArg o c i) → trees_of (args_built a.args) ≡ a.part.tree ∷ []
args-trees o c i a = ap trees_of a.args_are

args-free : (o c : Place) (i : derived.Item) (a : IsArg o c i) → places_shown (free_of (args_built a.args)) ≡ places_shown a.part.free
args-free o c i a = ap (λ ps. places_shown (free_of ps)) a.args_are ∙ ap places_shown (append-nil a.part.free)

-- behind a receiver
arg-there : (o p : Place) (i : derived.Item) (a : IsArg o p i) (c : derived.Context) (s : derived.Tail) (prim : Prim) → derived.prim_at s ≡ Some prim
    → spec.as_arg (left (context_shown (derived.at c s))) (from_to o.span p.span) (spec.arg_of (from_to o.span p.span) (inside_shown i)) ≡ context_shown (derived.at c (derived.AtCall prim a.args))
arg-there o p i a c s prim e =
    ap (λ l. spec.as_arg l (from_to o.span p.span) (spec.arg_of (from_to o.span p.span) (inside_shown i))) (left-shown c s prim e)
    ∙ ap (spec.as_arg (record { operand = prim_piece prim; context = context_with c (free_in (prim_built prim)) tail.Begin }) (from_to o.span p.span)) a.shown_is
    ∙ ap (λ k. to (from_start (span_of (prim_tokens prim)).start p.span.end) k ((operations_free c.operations ++ free_in (prim_built prim)) ++ places_shown a.part.free)) (alone-kept a.part.tree ∙ ap kept_all (sym (args-trees o p i a)))
    ∙ ap (λ n. to n (kept_all (trees_of (args_built a.args))) ((operations_free c.operations ++ free_in (prim_built prim)) ++ places_shown a.part.free)) span
    ∙ ap (to (span_of (prim_tokens (ApplyPrim prim a.args))) (kept_all (trees_of (args_built a.args))))
    (append_assoc (operations_free c.operations) (free_in (prim_built prim)) (places_shown a.part.free) ∙ ap (λ f. operations_free c.operations ++ (free_in (prim_built prim) ++ f)) (sym (args-free o p i a)))
  where
    to : Span → Option Kids → List Span → Context
    to n k free = record (context_with c [] (tail.AtCall (record { span = n; receiver = kept (prim_built prim).tree; args = k }))) { free = free }

    span : from_start (span_of (prim_tokens prim)).start p.span.end ≡ span_of (prim_tokens (ApplyPrim prim a.args))
    span = sym (ap (λ ts. span_of (prim_tokens prim ++ ts)) a.begins
        ∙ span-is (prim_tokens prim ++ open_curly o ∷ a.rest) (span_of (prim_tokens prim)).start p.span.end (start-append (prim_tokens prim) (open_curly o ∷ a.rest) (prim-begins prim))
        (end-behind 0 (prim_tokens prim) (open_curly o) a.rest ∙ a.ends))

-- behind `new T`
new-there : (o p : Place) (i : derived.Item) (a : IsArg o p i) (c : derived.Context) (word : Place) (type : WrittenType)
    → spec.behind_new (context_shown (derived.at c (derived.AtNew word type))) (record { span = span_of (prim_tokens (NewOf word type)); kids = kept_all (type_tree type ∷ []) }) (from_to o.span p.span)
    (spec.arg_of (from_to o.span p.span) (inside_shown i))
    ≡ context_shown (derived.at c (derived.AtPrim (NewWith word type a.args)))
new-there o p i a c word type =
    ap (spec.behind_new (context_shown (derived.at c (derived.AtNew word type))) (record { span = span_of (prim_tokens (NewOf word type)); kids = kept_all (type_tree type ∷ []) }) (from_to o.span p.span)) a.shown_is
    ∙ ap (λ k. to (unlabelled kind.New (from_start word.span.start p.span.end) k) (from_start word.span.start p.span.end) ((operations_free c.operations ++ []) ++ places_shown a.part.free)) (joined-kept (type_tree type ∷ []) a.part.tree)
    ∙ ap (λ n. to (unlabelled kind.New n (kept_all (type_tree type ∷ a.part.tree ∷ []))) n ((operations_free c.operations ++ []) ++ places_shown a.part.free)) span
    ∙ ap (λ t. to t (span_of (prim_tokens (NewWith word type a.args))) ((operations_free c.operations ++ []) ++ places_shown a.part.free))
    (unlabelled-kept kind.New (span_of (prim_tokens (NewWith word type a.args))) (type_tree type ∷ a.part.tree ∷ [])
    ∙ ap (λ parts. kept (grammar.node kind.New (span_of (prim_tokens (NewWith word type a.args))) (grammar.plain (type_tree type) ∷ parts)).tree) (sym a.args_are))
    ∙ ap (to (kept (prim_built (NewWith word type a.args)).tree) (span_of (prim_tokens (NewWith word type a.args))))
    (ap (λ f. f ++ places_shown a.part.free) (append-nil (operations_free c.operations)) ∙ ap (λ f. operations_free c.operations ++ f) (sym (args-free o p i a)))
  where
    to : Option Tall → Span → List Span → Context
    to t n free = record (context_with c [] (tail.AtPrim (record { tall = t; span = n }) form.Plain)) { free = free }

    span : from_start word.span.start p.span.end ≡ span_of (prim_tokens (NewWith word type a.args))
    span = ap (from_start word.span.start) (sym (ap (λ ts. end_behind word.span.end (type_tokens type ++ ts)) a.begins ∙ end-behind word.span.end (type_tokens type) (open_curly o) a.rest ∙ a.ends))

-- where an operand begins
prim-there : (o p : Place) (i : derived.Item) (a : IsArg o p i) (c : derived.Context)
    → spec.as_prim (context_shown (derived.at c derived.Begin)) (from_to o.span p.span) (spec.arg_of (from_to o.span p.span) (inside_shown i)) ≡ context_shown (derived.at c (derived.AtPrim a.prim))
prim-there o p i a c =
    ap (spec.as_prim (context_shown (derived.at c derived.Begin)) (from_to o.span p.span)) a.shown_is
    ∙ ap (λ f. to (from_to o.span p.span) f form.Plain a.part) (ap (λ f. f ++ places_shown a.part.free) (append-nil (operations_free c.operations)))
    ∙ ap (λ n. to n (operations_free c.operations ++ places_shown a.part.free) form.Plain a.part) (sym a.span_is)
    ∙ ap (λ form. to (span_of (prim_tokens a.prim)) (operations_free c.operations ++ places_shown a.part.free) form a.part) (sym a.plain)
    ∙ ap (λ part. to (span_of (prim_tokens a.prim)) (operations_free c.operations ++ places_shown part.free) (form_of a.prim) part) (sym a.prim_is)
  where
    to : Span → List Span → Form → grammar.Built → Context
    to n free f part = record (context_with c [] (tail.AtPrim (record { tall = kept part.tree; span = n }) f)) { free = free }

-- ---- cases behind `match` and `catch`

match-there : (c : derived.Context) (chain : Infix) (word o : Place) (cases : Cases) (p : Place)
    → spec.behind_match (context_shown (derived.at c (derived.AtMatch chain word))) (infix_piece chain) (from_to o.span p.span) (spec.cases_of (cases_inside cases))
    ≡ context_shown (derived.at c (derived.AtEnded (MatchExpr chain word o cases p)))
match-there c chain word o cases p =
    ap (λ k. to (unlabelled kind.Match (from_start (span_of (infix_tokens chain)).start p.span.end) k) (from_start (span_of (infix_tokens chain)).start p.span.end) free)
    (ap (λ k. appended k (kept_all (trees_of (cases_built cases)))) (alone-kept first.tree) ∙ appended-kept (first.tree ∷ []) (trees_of (cases_built cases)))
    ∙ ap (λ n. to (unlabelled kind.Match n (kept_all (first.tree ∷ trees_of (cases_built cases)))) n free) span
    ∙ ap (λ t. to t (span_of (expr_tokens whole)) free) (unlabelled-kept kind.Match (span_of (expr_tokens whole)) (first.tree ∷ trees_of (cases_built cases)))
    ∙ ap (to (ended_piece whole).tall (span_of (expr_tokens whole)))
    (append_assoc (operations_free c.operations) (free_in first) (places_shown (free_of (cases_built cases)))
    ∙ ap (λ f. operations_free c.operations ++ f) (sym (places-append first.free (free_of (cases_built cases)))))
  where
    whole : Expr
    whole = MatchExpr chain word o cases p

    first : grammar.Built
    first = joined_built (infix_chain chain)

    free : List Span
    free = (operations_free c.operations ++ free_in first) ++ places_shown (free_of (cases_built cases))

    to : Option Tall → Span → List Span → Context
    to t n f = record (context_with c [] (tail.AtEnded (record { tall = t; span = n }))) { free = f }

    span : from_start (span_of (infix_tokens chain)).start p.span.end ≡ span_of (expr_tokens whole)
    span =
        let rest = open_curly o ∷ (cases_tokens cases ++ close_curly p ∷ []) in
        sym (span-is (infix_tokens chain ++ word_at (codes "match") word ∷ rest) (span_of (infix_tokens chain)).start p.span.end
        (start-append (infix_tokens chain) (word_at (codes "match") word ∷ rest) (infix-begins chain))
        (end-behind 0 (infix_tokens chain) (word_at (codes "match") word) rest ∙ end-behind o.span.end (cases_tokens cases) (close_curly p) []))

catch-there : (c : derived.Context) (word : Place) (body : Expr) (catch o : Place) (cases : Cases) (p : Place)
    → spec.behind_catch (context_shown (derived.at c (derived.AtCatch word body catch))) (record { start = word.span.start; kids = kept_all ((expr_built body).tree ∷ []) }) (from_to o.span p.span) (spec.cases_of (cases_inside cases))
    ≡ context_shown (derived.at c (derived.AtCaught word body catch o cases p))
catch-there c word body catch o cases p =
    ap (λ k. to k ((operations_free c.operations ++ free_in (expr_built body)) ++ places_shown (free_of (cases_built cases)))) (appended-kept ((expr_built body).tree ∷ []) (trees_of (cases_built cases)))
    ∙ ap (to (kept_all ((expr_built body).tree ∷ trees_of (cases_built cases)))) (append_assoc (operations_free c.operations) (free_in (expr_built body)) (places_shown (free_of (cases_built cases))))
  where
    to : Option Kids → List Span → Context
    to k free = record (context_with c [] (tail.AtCaught (record { start = word.span.start; kids = k }) p.span.end)) { free = free }

for-there : (c : derived.Context) (word o : Place) (enums : Enums) (p : Place) → Fits (derived.at c (derived.AtAsker derived.ForAsker word))
    → spec.behind_for (context_shown (derived.at c derived.Begin)) word.span.start (enums_inside enums) ≡ context_shown (derived.with_head c (derived.Of (ForCurly word o enums p None)))
for-there c word o enums p f =
    ap (λ free. with_head (record (context_with c [] tail.Begin) { free = free }) word.span.start (head.For (map generator_shown (enums_built enums)) false))
    (ap (λ g. g ++ places_shown (gen_free (enums_built enums))) (append-nil (operations_free c.operations)))
    ∙ behind-head c (derived.Of (ForCurly word o enums p None)) (places_shown (gen_free (enums_built enums))) tail.Begin (f.alone refl).operations refl

-- ---- what is asked for, and what there is

-- braces that are no argument
record NoArg (i : derived.Item) : Type 0 where
  argument : derived.arg_of i ≡ None
  operand : derived.prim_of i ≡ None
  any : spec.answers asks.Any (inside_shown i) ≡ false

enums-no : (o : Place) (enums : Enums) (c : Place) → NoArg (derived.EnumsPair o enums c)
enums-no o enums c = record { argument = refl; operand = refl; any = refl }

abbrev pub braces_at : Place → Place → derived.Item → Option (List Selector) → Braces
braces_at o p i selectors = record { span = from_to o.span p.span; before = o.before; inside = inside_shown i; selectors = selectors }

abbrev pub after : Option Asks → List derived.Frame → Context → Braces → Option State
after asked fs now b = spec.behind_asked (spec.opened_by asked (state (map frame_shown fs) now)) b

after-any : (h : Bool) (fs : List derived.Frame) (now to : Context) (b : Braces) → spec.behind_at now.tail now b.span b.inside ≡ to
    → after (spec.when_any h) fs now b ≡ (if h && spec.answers asks.Any b.inside then Some (state (map frame_shown fs) to) else None)
unfolding behind
after-any true fs now to b e = ap (λ c. if spec.answers asks.Any b.inside then Some (state (map frame_shown fs) c) else None) e
after-any false fs now to b e = refl

-- a block or cases where they may stand
with-arg : (h : Bool) (fs : List derived.Frame) (to : Context) (o p : Place) (i : derived.Item) (tail_of : Args → derived.Tail) (c : derived.Context) → (IsArg o p i ⊎ NoArg i)
    → ((a : IsArg o p i) → to ≡ context_shown (derived.at c (tail_of a.args)))
    → (v : Option Args → Option derived.Tail) → v None ≡ None → ((args : Args) → v (Some args) ≡ Some (tail_of args))
    → (if h && spec.answers asks.Any (inside_shown i) then Some (state (map frame_shown fs) to) else None)
    ≡ option_map shown (derived.in_state fs (derived.at_some c (if h then v (derived.arg_of i) else None)))
with-arg false fs to o p i tail_of c a there v none some = refl
with-arg true fs to o p i tail_of c (inl a) there v none some =
    ap (λ b. if b then Some (state (map frame_shown fs) to) else None) a.any
    ∙ ap (λ x. Some (state (map frame_shown fs) x)) (there a)
    ∙ ap (λ s. option_map shown (derived.in_state fs (derived.at_some c s))) (sym (ap v a.argument ∙ some a.args))
with-arg true fs to o p i tail_of c (inr n) there v none some =
    ap (λ b. if b then Some (state (map frame_shown fs) to) else None) n.any
    ∙ ap (λ s. option_map shown (derived.in_state fs (derived.at_some c s))) (sym (ap v n.argument ∙ none))

-- behind a receiver
by-receiver : (fs : List derived.Frame) (c : derived.Context) (s : derived.Tail) (o p : Place) (i : derived.Item) (selectors : Option (List Selector)) → (IsArg o p i ⊎ NoArg i)
    → spec.behind_at (tail_shown s) (context_shown (derived.at c s)) (from_to o.span p.span) (inside_shown i)
    ≡ spec.as_arg (left (context_shown (derived.at c s))) (from_to o.span p.span) (spec.arg_of (from_to o.span p.span) (inside_shown i))
    → after (spec.when_any ((takes_args (context_shown (derived.at c s)) && is_near o.before) || false)) fs (context_shown (derived.at c s)) (braces_at o p i selectors)
    ≡ option_map shown (derived.in_state fs (derived.at_some (derived.at c s) (derived.behind_receiver (derived.receiver (derived.at c s)) o.before i)))
by-receiver fs c s o p i selectors a e =
    after-any ((takes_args (context_shown (derived.at c s)) && is_near o.before) || false) fs (context_shown (derived.at c s)) next (braces_at o p i selectors) e
    ∙ ap (λ b. if ((b && is_near o.before) || false) && spec.answers asks.Any (inside_shown i) then Some (state (map frame_shown fs) next) else None) (args-shown c s)
    ∙ go (derived.receiver (derived.at c s)) refl
  where
    next : Context
    next = spec.as_arg (left (context_shown (derived.at c s))) (from_to o.span p.span) (spec.arg_of (from_to o.span p.span) (inside_shown i))

    or-not : (b : Bool) → (b || false) ≡ b
    or-not true = refl
    or-not false = refl

    go : (v : Option Prim) → derived.receiver (derived.at c s) ≡ v
        → (if ((derived.is_some v && is_near o.before) || false) && spec.answers asks.Any (inside_shown i) then Some (state (map frame_shown fs) next) else None)
        ≡ option_map shown (derived.in_state fs (derived.at_some (derived.at c s) (derived.behind_receiver v o.before i)))
    go None f = refl
    go (Some prim) f =
        ap (λ b. if b && spec.answers asks.Any (inside_shown i) then Some (state (map frame_shown fs) next) else None) (or-not (is_near o.before))
        ∙ with-arg (is_near o.before) fs next o p i (derived.AtCall prim) (derived.at c s) a
        (λ b. arg-there o p i b c s prim (receiver-prim s prim (not-param (derived.is_param_limit c.limit) (derived.receiver_at s) prim f)))
        (derived.called prim) refl (λ args. refl)

-- behind a sign alone
by-sign : (fs : List derived.Frame) (c : derived.Context) (id : Id) (o p : Place) (i : derived.Item) (selectors : Option (List Selector)) → (IsArg o p i ⊎ NoArg i)
    → after (if derived.is_param_limit c.limit then None else spec.when_any (is_near o.before && not (is_no o.before))) fs (context_shown (derived.at c (derived.AtName id true))) (braces_at o p i selectors)
    ≡ option_map shown (derived.in_state fs (derived.at_some (derived.at c (derived.AtName id true)) (if derived.is_param_limit c.limit then None else derived.sign_receiver id o.before i)))
by-sign fs c id o p i selectors a = go (derived.is_param_limit c.limit) where
  here : derived.Context
  here = derived.at c (derived.AtName id true)

  next : Context
  next = spec.as_arg (left (context_shown here)) (from_to o.span p.span) (spec.arg_of (from_to o.span p.span) (inside_shown i))

  go : (l : Bool) → after (if l then None else spec.when_any (is_near o.before && not (is_no o.before))) fs (context_shown here) (braces_at o p i selectors)
      ≡ option_map shown (derived.in_state fs (derived.at_some here (if l then None else derived.sign_receiver id o.before i)))
  go true = refl
  go false =
      after-any (is_near o.before && not (is_no o.before)) fs (context_shown here) next (braces_at o p i selectors) refl
      ∙ with-arg (is_near o.before && not (is_no o.before)) fs next o p i (derived.AtCall (NamePrim id)) here a (λ b. arg-there o p i b c (derived.AtName id true) (NamePrim id) refl)
      (derived.called (NamePrim id)) refl (λ args. refl)

-- behind a name
by-name : (fs : List derived.Frame) (c : derived.Context) (id : Id) (o p : Place) (i : derived.Item) (selectors : Option (List Selector)) → (IsArg o p i ⊎ NoArg i)
    → after (if derived.is_param_limit c.limit then None else spec.when_any (is_near o.before && true)) fs (context_shown (derived.at c (derived.AtName id false))) (braces_at o p i selectors)
    ≡ option_map shown (derived.in_state fs (derived.at_some (derived.at c (derived.AtName id false)) (derived.behind_receiver (if derived.is_param_limit c.limit then None else Some (NamePrim id)) o.before i)))
by-name fs c id o p i selectors a = go (derived.is_param_limit c.limit) where
  here : derived.Context
  here = derived.at c (derived.AtName id false)

  next : Context
  next = spec.as_arg (left (context_shown here)) (from_to o.span p.span) (spec.arg_of (from_to o.span p.span) (inside_shown i))

  and-yes : (b : Bool) → (b && true) ≡ b
  and-yes true = refl
  and-yes false = refl

  go : (l : Bool) → after (if l then None else spec.when_any (is_near o.before && true)) fs (context_shown here) (braces_at o p i selectors)
      ≡ option_map shown (derived.in_state fs (derived.at_some here (derived.behind_receiver (if l then None else Some (NamePrim id)) o.before i)))
  go true = refl
  go false =
      ap (λ h. after (spec.when_any h) fs (context_shown here) (braces_at o p i selectors)) (and-yes (is_near o.before))
      ∙ after-any (is_near o.before) fs (context_shown here) next (braces_at o p i selectors) refl
      ∙ with-arg (is_near o.before) fs next o p i (derived.AtCall (NamePrim id)) here a (λ b. arg-there o p i b c (derived.AtName id false) (NamePrim id) refl)
      (derived.called (NamePrim id)) refl (λ args. refl)

-- behind `new T`
by-new : (fs : List derived.Frame) (c : derived.Context) (word : Place) (type : WrittenType) (o p : Place) (i : derived.Item) (selectors : Option (List Selector)) → (IsArg o p i ⊎ NoArg i)
    → after (spec.when_any (is_near o.before)) fs (context_shown (derived.at c (derived.AtNew word type))) (braces_at o p i selectors)
    ≡ option_map shown (derived.in_state fs (derived.at_some (derived.at c (derived.AtNew word type)) (if is_near o.before then derived.new_with word type (derived.arg_of i) else None)))
by-new fs c word type o p i selectors a =
    after-any (is_near o.before) fs (context_shown (derived.at c (derived.AtNew word type))) _ (braces_at o p i selectors) refl
    ∙ with-arg (is_near o.before) fs _ o p i (λ args. derived.AtPrim (NewWith word type args)) (derived.at c (derived.AtNew word type)) a (λ b. new-there o p i b c word type)
    (derived.new_with word type) refl (λ args. refl)

-- where an operand begins
by-begin : (fs : List derived.Frame) (c : derived.Context) (o p : Place) (i : derived.Item) (selectors : Option (List Selector)) → (IsArg o p i ⊎ NoArg i)
    → after (spec.when_any (may_stand (context_shown (derived.at c derived.Begin)) o.before)) fs (context_shown (derived.at c derived.Begin)) (braces_at o p i selectors)
    ≡ option_map shown (derived.in_state fs (derived.at_some (derived.at c derived.Begin) (if derived.may_stand (derived.at c derived.Begin) o.before then derived.as_prim (derived.prim_of i) else None)))
by-begin fs c o p i selectors a =
    after-any (may_stand now o.before) fs now next (braces_at o p i selectors) refl
    ∙ ap (λ h. if h && spec.answers asks.Any (inside_shown i) then Some (state (map frame_shown fs) next) else None) (stand-shown here o.before)
    ∙ go (derived.may_stand here o.before) a
  where
    here : derived.Context
    here = derived.at c derived.Begin

    now : Context
    now = context_shown here

    next : Context
    next = spec.as_prim now (from_to o.span p.span) (spec.arg_of (from_to o.span p.span) (inside_shown i))

    go : (h : Bool) → (IsArg o p i ⊎ NoArg i)
        → (if h && spec.answers asks.Any (inside_shown i) then Some (state (map frame_shown fs) next) else None)
        ≡ option_map shown (derived.in_state fs (derived.at_some here (if h then derived.as_prim (derived.prim_of i) else None)))
    go false b = refl
    go true (inl b) =
        ap (λ t. if t then Some (state (map frame_shown fs) next) else None) b.any
        ∙ ap (λ x. Some (state (map frame_shown fs) x)) (prim-there o p i b c)
        ∙ ap (λ v. option_map shown (derived.in_state fs (derived.at_some here (derived.as_prim v)))) (sym b.operand)
    go true (inr n) =
        ap (λ t. if t then Some (state (map frame_shown fs) next) else None) n.any ∙ ap (λ v. option_map shown (derived.in_state fs (derived.at_some here (derived.as_prim v)))) (sym n.operand)

-- ---- any tail

-- a pair of braces that the machine knows
pub data IsPair : Place → Place → derived.Item → Type 0 where
  a_block : {o p : Place} (block : Block) → IsPair o p (derived.BlockPair o block p)
  some_cases : {o p : Place} (cases : Cases) → IsPair o p (derived.CasesPair o cases p)
  some_enums : {o p : Place} (enums : Enums) → IsPair o p (derived.EnumsPair o enums p)

arg-or : (o p : Place) (i : derived.Item) → IsPair o p i → (IsArg o p i ⊎ NoArg i)
arg-or o p i (a_block block) = inl (block-arg o block p)
arg-or o p i (some_cases cases) = inl (cases-arg o cases p)
arg-or o p i (some_enums enums) = inr (enums-no o enums p)

pub pair-at : (fs : List derived.Frame) (c : derived.Context) (s : derived.Tail) (o p : Place) (i : derived.Item) (selectors : Option (List Selector)) → Fits (derived.at c s) → IsPair o p i
    → after (spec.asks_at (tail_shown s) (context_shown (derived.at c s)) o.before) fs (context_shown (derived.at c s)) (braces_at o p i selectors)
    ≡ option_map shown (derived.in_state fs (derived.behind_pair s (derived.at c s) o.before i))
unfolding behind
pair-at fs c (derived.AtAsker derived.ForAsker word) o p i selectors f (some_enums enums) = ap (λ x. Some (state (map frame_shown fs) x)) (for-there c word o enums p f)
pair-at fs c (derived.AtAsker derived.ForAsker word) o p i selectors f (a_block block) = refl
pair-at fs c (derived.AtAsker derived.ForAsker word) o p i selectors f (some_cases cases) = refl
pair-at fs c (derived.AtAsker derived.IfAsker word) o p i selectors f k = refl
pair-at fs c (derived.AtAsker derived.WhileAsker word) o p i selectors f k = refl
pair-at fs c (derived.AtMatch chain word) o p i selectors f (some_cases cases) = ap (λ x. Some (state (map frame_shown fs) x)) (match-there c chain word o cases p)
pair-at fs c (derived.AtMatch chain word) o p i selectors f (a_block block) = refl
pair-at fs c (derived.AtMatch chain word) o p i selectors f (some_enums enums) = refl
pair-at fs c (derived.AtCatch word body catch) o p i selectors f (some_cases cases) = ap (λ x. Some (state (map frame_shown fs) x)) (catch-there c word body catch o cases p)
pair-at fs c (derived.AtCatch word body catch) o p i selectors f (a_block block) = refl
pair-at fs c (derived.AtCatch word body catch) o p i selectors f (some_enums enums) = refl
pair-at fs c (derived.AtName id true) o p i selectors f k = by-sign fs c id o p i selectors (arg-or o p i k)
pair-at fs c (derived.AtName id false) o p i selectors f k = by-name fs c id o p i selectors (arg-or o p i k)
pair-at fs c (derived.AtNew word type) o p i selectors f k = by-new fs c word type o p i selectors (arg-or o p i k)
pair-at fs c derived.Begin o p i selectors f k = by-begin fs c o p i selectors (arg-or o p i k)
pair-at fs c s o p i selectors f k = by-receiver fs c s o p i selectors (arg-or o p i k) refl
