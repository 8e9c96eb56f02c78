-- A definition of few tokens has no more parameters than a tree can say.
use Rattle.std.proofs.Common.{◌≡◌, ℕ, ◌+◌, ◌≤◌, List, [], ◌∷◌, ◌++◌, map, length, length-append, All, refl, ap, arith}
use Rattle.std.proofs.lemmas.List.Elements.{All-nil, All-cons}
use Rattle.positioned_trees.specs.Trees.{max_number}
use Rattle.source_grammar.specs.Definitions.{Behind, behind_items, behind_tokens, Listed, Nothing, Items, items, listed_tokens, Par, par_tokens, ParList, par_list_tokens, par_lists_tokens, tpar_tokens, TParams, NoTParams, TParamsOf, tparams_tokens, type_part_tokens}
use Rattle.source_grammar.specs.DefinitionTrees.{tpar_tree, tparams_trees, par_counts}
use Rattle.source_grammar.specs.Expressions.{Def, ValueDef, MethodDef, ProcedureDef, AliasDef}
use Rattle.source_grammar.specs.Lexemes.{Lexeme, Place, Id, equals, close_round, close_square}
use Rattle.expr_laws.specs.Definitions.{method_tokens, def_items, mods_items, ReadMods}
use Rattle.expr_laws.proofs.DefsTree.{CountsFit, CanCount}
use Rattle.expr_laws.proofs.Derived.{Item, OneToken, BlockPair, items_tokens}
use Rattle.expr_laws.proofs.ItemTokens.{items-append}
use Rattle.expr_laws.proofs.Items.{tokens, expr_items}

behind-few : {X : Type 0} (f : X → List Lexeme) (bs : List (Behind X)) → length (behind_items bs) ≤ length (behind_tokens f bs)
behind-few f [] = omega arith
behind-few f (b ∷ bs) = (let rest = behind-few f bs in let both = length-append (f b.item) (behind_tokens f bs) in omega (arith, rest, both))

map-length : {X : Type 0} {Y : Type 0} (f : X → Y) (xs : List X) → length (map f xs) ≡ length xs
map-length f [] = refl
map-length f (x ∷ xs) = (let rest = map-length f xs in omega (arith, rest))

tparams-few : (ts : TParams) → length (tparams_trees ts) ≤ length (tparams_tokens ts)
tparams-few NoTParams = omega arith
tparams-few (TParamsOf o t ts k) =
    (let some = behind-few tpar_tokens ts in
    let trees = map-length tpar_tree (behind_items ts) in
    let first = length-append (tpar_tokens t) (behind_tokens tpar_tokens ts) in
    let last = length-append (tpar_tokens t ++ behind_tokens tpar_tokens ts) (close_square k ∷ []) in
    omega (arith, some, trees, first, last))

pars-few : (pars : Listed Par) → length (items pars) ≤ length (listed_tokens par_tokens pars) + 1
pars-few Nothing = omega arith
pars-few (Items par bs) = (let some = behind-few par_tokens bs in let both = length-append (par_tokens par) (behind_tokens par_tokens bs) in omega (arith, some, both))

list-few : (l : ParList) → length (items l.pars) ≤ length (par_list_tokens l)
list-few l = (let some = pars-few l.pars in let both = length-append (listed_tokens par_tokens l.pars) (close_round l.closing ∷ []) in omega (arith, some, both))

lists-few : (ls : List ParList) (n : ℕ) → length (par_lists_tokens ls) ≤ n → All (λ m. m ≤ n) (par_counts ls)
lists-few [] n e = All-nil (λ m. m ≤ n)
lists-few (l ∷ ls) n e =
    (let first = list-few l in
    let both = length-append (par_list_tokens l) (par_lists_tokens ls) in
    All-cons (λ m. m ≤ n) (length (items l.pars)) (par_counts ls) (omega (arith, first, both, e)) (lists-few ls n (omega (arith, both, e))))

pub head-fits : (word : Place) (id : Id) (ts : TParams) (ls : List ParList) → length (method_tokens word id ts ls) ≤ max_number → CountsFit ts ls
head-fits word id ts ls e =
    (let both = length-append (tparams_tokens ts) (par_lists_tokens ls) in
    let some = tparams-few ts in
    (omega (arith, both, some, e), lists-few ls max_number (omega (arith, both, e))))

pub tokens-there : (xs : List Lexeme) → items_tokens (tokens xs) ≡ xs
tokens-there [] = refl
tokens-there (x ∷ xs) = ap (λ ys. x ∷ ys) (tokens-there xs)

-- the tokens in front of others
front-few : (is js : List Item) (n : ℕ) → length (items_tokens (is ++ js)) ≤ n → length (items_tokens is) ≤ n
front-few is js n e = (let same = ap length (items-append is js) in let both = length-append (items_tokens is) (items_tokens js) in omega (arith, same, both, e))

pub behind-some : (is js : List Item) (n : ℕ) → length (items_tokens (is ++ js)) ≤ n → length (items_tokens js) ≤ n
behind-some is js n e = (let same = ap length (items-append is js) in let both = length-append (items_tokens is) (items_tokens js) in omega (arith, same, both, e))

method-few : (xs ys : List Lexeme) (js : List Item) → length (items_tokens (tokens (xs ++ ys) ++ js)) ≤ max_number → length xs ≤ max_number
method-few xs ys js e =
    (let front = front-few (tokens (xs ++ ys)) js max_number e in
    let there = ap length (tokens-there (xs ++ ys)) in
    let both = length-append xs ys in
    omega (arith, front, there, both))

procedure-few : (xs : List Lexeme) (js : List Item) → length (items_tokens (tokens xs ++ js)) ≤ max_number → length xs ≤ max_number
procedure-few xs js e = (let front = front-few (tokens xs) js max_number e in let there = ap length (tokens-there xs) in omega (arith, front, there))

pub can-count : (m : ReadMods) (d : Def) → length (items_tokens (mods_items m ++ def_items d)) ≤ max_number → CanCount d
can-count m d e = go d (behind-some (mods_items m) (def_items d) max_number e) where
  go : (f : Def) → length (items_tokens (def_items f)) ≤ max_number → CanCount f
  go (MethodDef word id ts ls type sign right) k =
      head-fits word id ts ls (method-few (method_tokens word id ts ls) (type_part_tokens type) (OneToken (equals sign) ∷ expr_items right) k)
  go (ProcedureDef word id ts ls o block c) k = head-fits word id ts ls (procedure-few (method_tokens word id ts ls) (BlockPair o block c ∷ []) k)
  go (ValueDef w id type sign right) k = tt
  go (AliasDef word id sign type) k = tt
