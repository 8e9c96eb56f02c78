-- The items of what was read: those of the derivations in a state, in their order.
use Rattle.std.proofs.Common.{List, [], ◌∷◌, ◌++◌, Option, Some, None, codes}
use Rattle.source_grammar.specs.Expressions.{PrefixSign, Sep, NoGuards, MoreGuards, NewOf}
use Rattle.source_grammar.specs.ExpressionTokens.{lpar_tokens, sign_token, sep_tokens}
use Rattle.source_grammar.specs.Lexemes.{Lexeme, Place, word_at, open_round, close_round, open_square, comma, dot, colon, underscore, back_arrow_token, id_token}
use Rattle.source_grammar.specs.Patterns.{pat_tokens}
use Rattle.parse_parts.proofs.Derived.{done_tokens}
use Rattle.parse_parts.proofs.Sound.{tokens_in as type_tokens_in}
use Rattle.parse_patterns.proofs.Derived.{tokens_in as pattern_tokens_in}
use Rattle.expr_laws.proofs.Derived.{Item, OneToken, CasesPair, Operation, Element, ParamElement, ExprElement, DoneElement, DoneExpr, Parens, NoElements, Elements, TypedOf, OfName, OfWild, OfChain, Asker, IfAsker, WhileAsker, ForAsker, Tail, Begin, AtSign, AtName, AtWild, AtGroup, AtPrim, AtCall, AtDot, AtSuper, AtSuperDot, InNew, AtNew, InTypes, InTyped, AtMatch, AtReturn, AtAsker, AtUntil, AtCatch, AtCaught, AtEnded, AtSemi, AtGuardSemi, InPattern, Head, Of, DoHead, Context, DoneGuard, Part, PatPart, FromPart, GuardPart, DoneGen, Bracket, GroupBracket, ArgsBracket, NewArgsBracket, IfTest, WhileTest, DoTest, GensBracket, Frame, State}
use Rattle.expr_laws.proofs.Items.{tokens, expr_items, gen_items, guards_items, infix_items, prefix_items, prim_items, args_items, heading_items}

abbrev one : Lexeme → List Item
one x = OneToken x ∷ []

-- ---- tails

abbrev pub element_items : Element → List Item
element_items (ParamElement p) = tokens (lpar_tokens p)
element_items (ExprElement expr) = expr_items expr

abbrev pub done_elements_items : List DoneElement → List Item
done_elements_items [] = []
done_elements_items (d ∷ done) = done_elements_items done ++ (element_items d.element ++ one (comma d.place))

abbrev pub parens_items : Parens → List Item
parens_items NoElements = []
parens_items (Elements done e) = done_elements_items done ++ element_items e

abbrev pub typed_of_items : TypedOf → List Item
typed_of_items (OfName id) = one (id_token id)
typed_of_items (OfWild place) = one (underscore place)
typed_of_items (OfChain chain) = infix_items chain

abbrev pub asker_word : Asker → Place → Lexeme
asker_word IfAsker word = word_at (codes "if") word
asker_word WhileAsker word = word_at (codes "while") word
asker_word ForAsker word = word_at (codes "for") word

abbrev pub until_items : Place → List Item → Sep → Place → List Item
until_items word body sep until = one (word_at (codes "do") word) ++ (body ++ (tokens (sep_tokens sep) ++ one (word_at (codes "while") until)))

abbrev pub catch_items : Place → List Item → Place → List Item
catch_items word body catch = one (word_at (codes "try") word) ++ (body ++ one (word_at (codes "catch") catch))

abbrev pub tail_items : Tail → List Item
tail_items Begin = []
tail_items (AtSign id) = one (id_token id)
tail_items (AtName id is_sign) = one (id_token id)
tail_items (AtWild place) = one (underscore place)
tail_items (AtGroup o parens c may_be_head) = one (open_round o) ++ (parens_items parens ++ one (close_round c))
tail_items (AtPrim prim) = prim_items prim
tail_items (AtCall prim args) = prim_items prim ++ args_items args
tail_items (AtDot prim point) = prim_items prim ++ one (dot point)
tail_items (AtSuper word) = one (word_at (codes "super") word)
tail_items (AtSuperDot word point) = one (word_at (codes "super") word) ++ one (dot point)
tail_items (InNew word t) = one (word_at (codes "new") word) ++ tokens (type_tokens_in t)
tail_items (AtNew word type) = prim_items (NewOf word type)
tail_items (InTypes prim o done t) = prim_items prim ++ (one (open_square o) ++ (tokens (done_tokens done) ++ tokens (type_tokens_in t)))
tail_items (InTyped of point t) = typed_of_items of ++ (one (colon point) ++ tokens (type_tokens_in t))
tail_items (AtMatch chain word) = infix_items chain ++ one (word_at (codes "match") word)
tail_items (AtReturn word) = one (word_at (codes "return") word)
tail_items (AtAsker a word) = one (asker_word a word)
tail_items (AtUntil word body sep until) = until_items word (expr_items body) sep until
tail_items (AtCatch word body catch) = catch_items word (expr_items body) catch
tail_items (AtCaught word body catch o cases c) = catch_items word (expr_items body) catch ++ CasesPair o cases c ∷ []
tail_items (AtEnded expr) = expr_items expr
tail_items (AtSemi expr p ps) = expr_items expr ++ tokens (sep_tokens (p ∷ ps))
tail_items (AtGuardSemi test p ps) = infix_items test ++ tokens (sep_tokens (p ∷ ps))
tail_items (InPattern p) = tokens (pattern_tokens_in p)

-- ---- contexts

abbrev pub head_items : Head → List Item
head_items (Of heading) = heading_items heading
head_items (DoHead word) = one (word_at (codes "do") word)

abbrev pub heads_items : List Head → List Item
heads_items [] = []
heads_items (h ∷ hs) = heads_items hs ++ head_items h

abbrev pub operations_items : List Operation → List Item
operations_items [] = []
operations_items (o ∷ os) = operations_items os ++ (prefix_items o.left ++ one (id_token o.operator))

abbrev pub sign_items : Option PrefixSign → List Item
sign_items None = []
sign_items (Some sign) = one (sign_token sign)

abbrev pub context_items : Context → List Item
context_items c = heads_items c.heads ++ (operations_items c.operations ++ (sign_items c.sign ++ tail_items c.tail))

-- ---- frames

abbrev pub done_exprs_items : List DoneExpr → List Item
done_exprs_items [] = []
done_exprs_items (d ∷ done) = done_exprs_items done ++ (expr_items d.expr ++ one (comma d.place))

abbrev pub done_guards_items : List DoneGuard → List Item
done_guards_items [] = []
done_guards_items (g ∷ done) = done_guards_items done ++ guards_items (MoreGuards g.sep g.word g.test NoGuards)

abbrev pub part_items : Part → List Item
part_items PatPart = []
part_items (FromPart pat arrow) = tokens (pat_tokens pat) ++ one (back_arrow_token arrow)
part_items (GuardPart pat arrow from done sep word) =
    tokens (pat_tokens pat) ++ (one (back_arrow_token arrow) ++ (expr_items from ++ (done_guards_items done
    ++ (tokens (sep_tokens sep) ++ one (word_at (codes "if") word)))))

abbrev pub done_gens_items : List DoneGen → List Item
done_gens_items [] = []
done_gens_items (d ∷ done) = done_gens_items done ++ (gen_items d.gen ++ tokens (sep_tokens d.sep))

abbrev pub bracket_items : Bracket → List Item
bracket_items (GroupBracket o done may_be_head) = one (open_round o) ++ done_elements_items done
bracket_items (ArgsBracket prim o done) = prim_items prim ++ (one (open_round o) ++ done_exprs_items done)
bracket_items (NewArgsBracket word type o done) = prim_items (NewOf word type) ++ (one (open_round o) ++ done_exprs_items done)
bracket_items (IfTest word o) = one (word_at (codes "if") word) ++ one (open_round o)
bracket_items (WhileTest word o) = one (word_at (codes "while") word) ++ one (open_round o)
bracket_items (DoTest word body sep until o) = until_items word (expr_items body) sep until ++ one (open_round o)
bracket_items (GensBracket word o done part) = one (word_at (codes "for") word) ++ (one (open_round o) ++ (done_gens_items done ++ part_items part))

-- the tail of what stands before a bracket is in the bracket
abbrev pub frames_items : List Frame → List Item
frames_items [] = []
frames_items (f ∷ fs) =
    frames_items fs ++ (heads_items f.outer.heads ++ (operations_items f.outer.operations ++ (sign_items f.outer.sign ++ bracket_items f.bracket)))

abbrev pub items_in : State → List Item
items_in s = frames_items s.frames ++ context_items s.context
