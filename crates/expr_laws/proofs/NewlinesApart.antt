-- Where newlines count only after tokens that can end a statement, no generator begins with a name that the `.` before it takes.
use Rattle.std.proofs.Common.{◌≡◌, Bool, true, false, ◌&&◌, ◌||◌, List, [], ◌∷◌, ◌++◌, codes, refl, ap, sym, ◌∙◌}
use Rattle.std.specs.Prelude.{not}
use Rattle.scan_tokens.specs.Newlines.{can_end, delimiter_role}
use Rattle.source_grammar.specs.Brackets.{has_newline, role}
use Rattle.source_grammar.specs.Expressions.{Sep, Expr, Headed, InfixExpr, Enums, Gen, GenOf, Guards, NoGuards, MoreGuards, Infix, LastPrefix, MorePrefixes, Prefix, Unsigned, Signed, Prim, SelectHole}
use Rattle.source_grammar.specs.ExpressionRules.{is_hole, prim_of, is_nonempty, is_separated}
use Rattle.source_grammar.specs.ExpressionTokens.{sep_tokens, expr_tokens, heading_tokens, enums_tokens, gen_tokens, guards_tokens, infix_tokens, prefix_tokens, prim_tokens, sign_token}
use Rattle.source_grammar.specs.Lexemes.{Place, Lexeme, word_at, dot, id_token, back_arrow_token}
use Rattle.source_grammar.specs.Newlines.{newline_before}
use Rattle.source_grammar.specs.Patterns.{pat_tokens}
use Rattle.parse_patterns.proofs.Sides.{and-true}
use Rattle.expr_laws.specs.Newlines.{newlines_end, NewlinesEnd, ended_by}
use Rattle.expr_laws.proofs.Behind.{infix_hole, expr_hole}
use Rattle.expr_laws.proofs.GensAlong.{guards_hole, gen_hole, begins_with_name, takes_name}
use Rattle.expr_laws.proofs.Lasting.{and-left, and-right}
use Rattle.expr_laws.proofs.SpineAlong.{last_of}

-- ---- of a list and its parts

pub front-ends : (ended : Bool) (xs ys : List Lexeme) → newlines_end ended (xs ++ ys) ≡ true → newlines_end ended xs ≡ true
front-ends ended [] ys e = refl
front-ends ended (x ∷ xs) ys e =
    and-true (ended || not (has_newline x.place.before)) (newlines_end (can_end (role x)) xs) (and-left (ended || not (has_newline x.place.before)) (newlines_end (can_end (role x)) (xs ++ ys)) e)
    (front-ends (can_end (role x)) xs ys (and-right (ended || not (has_newline x.place.before)) (newlines_end (can_end (role x)) (xs ++ ys)) e))

pub behind-ends : (ended : Bool) (xs ys : List Lexeme) → newlines_end ended (xs ++ ys) ≡ true → newlines_end (ended_by ended xs) ys ≡ true
behind-ends ended [] ys e = e
behind-ends ended (x ∷ xs) ys e = behind-ends (can_end (role x)) xs ys (and-right (ended || not (has_newline x.place.before)) (newlines_end (can_end (role x)) (xs ++ ys)) e)

-- less is asked after a token that can end a statement
pub any-ends : (ended : Bool) (xs : List Lexeme) → newlines_end ended xs ≡ true → NewlinesEnd xs
any-ends true xs e = e
any-ends false [] e = refl
any-ends false (x ∷ xs) e = and-right (not (has_newline x.place.before)) (newlines_end (can_end (role x)) xs) e

-- what NewlinesEnd says, of a list that can be read off its type
pub record Ends (xs : List Lexeme) : Type 0 where
  pub ends : NewlinesEnd xs

pub front-of : (xs ys : List Lexeme) → Ends (xs ++ ys) → Ends xs
front-of xs ys n = record { ends = front-ends true xs ys n.ends }

pub rest-of : (xs ys : List Lexeme) → Ends (xs ++ ys) → Ends ys
rest-of xs ys n = record { ends = any-ends (ended_by true xs) ys (behind-ends true xs ys n.ends) }

pub next-of : (x : Lexeme) (ys : List Lexeme) → Ends (x ∷ ys) → Ends ys
next-of x ys n = record { ends = any-ends (can_end (role x)) ys n.ends }

pub within : (x : Lexeme) (ys zs : List Lexeme) → Ends (x ∷ (ys ++ zs)) → Ends ys
within x ys zs n = front-of ys zs (next-of x (ys ++ zs) n)

-- ---- a `.` at the end

pub ended-append : (ended : Bool) (xs ys : List Lexeme) → ended_by ended (xs ++ ys) ≡ ended_by (ended_by ended xs) ys
ended-append ended [] ys = refl
ended-append ended (x ∷ xs) ys = ended-append (can_end (role x)) xs ys

dot-ended : (p : Place) → can_end (role (dot p)) ≡ false
unfolding delimiter_role
dot-ended p = refl

prim-ended : (d : Prim) → is_hole d ≡ true → (ended : Bool) → ended_by ended (prim_tokens d) ≡ false
prim-ended (SelectHole d p) h ended = ended-append ended (prim_tokens d) (dot p ∷ []) ∙ dot-ended p
prim-ended _ h ended = cc

prefix-ended : (d : Prefix) → is_hole (prim_of d) ≡ true → (ended : Bool) → ended_by ended (prefix_tokens d) ≡ false
prefix-ended (Unsigned d) h ended = prim-ended d h ended
prefix-ended (Signed s d) h ended = prim-ended d h (can_end (role (sign_token s)))

infix-ended : (d : Infix) → infix_hole d ≡ true → (ended : Bool) → ended_by ended (infix_tokens d) ≡ false
infix-ended (LastPrefix d) h ended = prefix-ended d h ended
infix-ended (MorePrefixes d id rest) h ended = ended-append ended (prefix_tokens d) (id_token id ∷ infix_tokens rest) ∙ infix-ended rest h (can_end (role (id_token id)))

expr-ended : (e : Expr) → expr_hole (last_of e) ≡ true → (ended : Bool) → ended_by ended (expr_tokens e) ≡ false
expr-ended (Headed heading body) h ended = ended-append ended (heading_tokens heading) (expr_tokens body) ∙ expr-ended body h (ended_by ended (heading_tokens heading))
expr-ended (InfixExpr d) h ended = infix-ended d h ended
expr-ended _ h ended = cc

guards-ended : (guards : Guards) (hole : Bool) → guards_hole hole guards ≡ true → (ended : Bool) → (hole ≡ true → ended ≡ false) → ended_by ended (guards_tokens guards) ≡ false
guards-ended NoGuards hole h ended k = k h
guards-ended (MoreGuards sep w test guards) hole h ended k =
    ended-append ended (sep_tokens sep) (word_at (codes "if") w ∷ (infix_tokens test ++ guards_tokens guards))
    ∙ ended-append (can_end (role (word_at (codes "if") w))) (infix_tokens test) (guards_tokens guards)
    ∙ guards-ended guards (infix_hole test) h (ended_by (can_end (role (word_at (codes "if") w))) (infix_tokens test)) (λ t. infix-ended test t (can_end (role (word_at (codes "if") w))))

gen-ended : (gen : Gen) → gen_hole gen ≡ true → (ended : Bool) → ended_by ended (gen_tokens gen) ≡ false
gen-ended (GenOf pat arrow from guards) h ended =
    let arrowed : Bool = can_end (role (back_arrow_token arrow)) in
    ended-append ended (pat_tokens pat) (back_arrow_token arrow ∷ (expr_tokens from ++ guards_tokens guards))
    ∙ ended-append arrowed (expr_tokens from) (guards_tokens guards)
    ∙ guards-ended guards (expr_hole (last_of from)) h (ended_by arrowed (expr_tokens from)) (λ t. expr-ended from t arrowed)

-- ---- so the next line begins with no name that the `.` takes

no-newline : (xs : List Lexeme) → newlines_end false xs ≡ true → has_newline (newline_before xs) ≡ true → ⊥
no-newline [] n e = (let no : false ≡ true = e in cc)
no-newline (x ∷ xs) n e = (let no : false ≡ true = ap not (sym e) ∙ and-left (not (has_newline x.place.before)) (newlines_end (can_end (role x)) xs) n in cc)

pub separate : (gen : Gen) (sep : Sep) (gens : Enums) → is_separated (gen_tokens gen) sep (enums_tokens gens) ≡ true → Ends ((gen_tokens gen ++ sep_tokens sep) ++ enums_tokens gens) → takes_name gen sep gens ≡ false
separate gen (p ∷ ps) gens s n = refl
separate gen [] gens s n = go (gen_hole gen) refl where
  go : (h : Bool) → gen_hole gen ≡ h → (gen_hole gen && begins_with_name (enums_tokens gens)) ≡ false
  go false e = ap (λ b. b && begins_with_name (enums_tokens gens)) e
  go true e =
      absurd (no-newline (enums_tokens gens) (ap (λ b. newlines_end b (enums_tokens gens)) (sym (ended-append true (gen_tokens gen) [] ∙ gen-ended gen e true)) ∙ behind-ends true (gen_tokens gen ++ []) (enums_tokens gens) n.ends)
      (and-right (is_nonempty (gen_tokens gen)) (has_newline (newline_before (enums_tokens gens))) s))
