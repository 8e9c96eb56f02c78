-- Tokens whose brackets match leave those open that were.
use Rattle.std.proofs.Common.{◌≡◌, Bool, true, false, if◌then◌else◌, List, [], ◌∷◌, ◌++◌, Option, Some, None, is_some, refl, ap, sym, ◌∙◌, append_assoc}
use Rattle.std.specs.Prelude.{not}
use Rattle.pc_terms.specs.declared.problems.Span.{Span}
use Rattle.scan_tokens.specs.declared.roles.Bracket.TheVariants.{Round, Curly}
use Rattle.scan_tokens.specs.declared.roles.Role.{Role}
use Rattle.scan_tokens.specs.declared.roles.Role.TheVariants.{Opens, Closes}
use Rattle.scan_tokens.specs.Newlines.{delimiter_role}
use Rattle.source_grammar.specs.Brackets.{Opened, role, left_open, opened_after, open_after, closes_wrongly, unmatched, is_balanced}
use Rattle.source_grammar.specs.Lexemes.{Place, Lexeme, close_round, open_curly, close_curly}
use Rattle.expr_laws.proofs.Derived.{braced}

-- ---- the brackets of the grammar

pub curly-opens : (p : Place) → role (open_curly p) ≡ Opens Curly
unfolding delimiter_role
curly-opens p = refl

pub curly-closes : (p : Place) → role (close_curly p) ≡ Closes Curly
unfolding delimiter_role
curly-closes p = refl

pub round-closes : (p : Place) → role (close_round p) ≡ Closes Round
unfolding delimiter_role
round-closes p = refl

-- ---- brackets that are open

pub balanced-none : (xs : List Lexeme) → is_balanced xs ≡ true → unmatched [] xs ≡ None
unfolding is_balanced
balanced-none xs e = go (unmatched [] xs) e where
  go : (o : Option Span) → not (is_some o) ≡ true → o ≡ None
  go None f = refl
  go (Some s) f = cc

pub none-balanced : (xs : List Lexeme) → unmatched [] xs ≡ None → is_balanced xs ≡ true
unfolding is_balanced
none-balanced xs e = ap (λ o. not (is_some o)) e

pub none-open : (opened : List Opened) → left_open opened ≡ None → opened ≡ []
none-open [] e = refl
none-open (k ∷ ks) e = cc

-- more brackets further out change nothing
wrongly-within : (r : Role) (front opened : List Opened) → closes_wrongly r front ≡ false → closes_wrongly r (front ++ opened) ≡ false
wrongly-within (Closes b) [] opened e = cc
wrongly-within (Closes b) (k ∷ ks) opened e = e
wrongly-within _ front opened e = refl

pub after-within : (r : Role) (s : Span) (front opened : List Opened) → closes_wrongly r front ≡ false → opened_after r s (front ++ opened) ≡ opened_after r s front ++ opened
after-within (Opens b) s front opened e = refl
after-within (Closes b) s [] opened e = cc
after-within (Closes b) s (k ∷ ks) opened e = refl
after-within _ s front opened e = refl

-- one token, which closes no bracket wrongly
pub passed : (x : Lexeme) (opened : List Opened) (xs : List Lexeme) → closes_wrongly (role x) opened ≡ false → unmatched opened (x ∷ xs) ≡ unmatched (open_after x opened) xs
passed x opened xs e = ap (λ b. if b then Some x.place.span else unmatched (open_after x opened) xs) e

pub not-wrong : (x : Lexeme) (opened : List Opened) (xs : List Lexeme) → unmatched opened (x ∷ xs) ≡ None → closes_wrongly (role x) opened ≡ false
not-wrong x opened xs e = go (closes_wrongly (role x) opened) e where
  go : (b : Bool) → (if b then Some x.place.span else unmatched (open_after x opened) xs) ≡ None → b ≡ false
  go true f = cc
  go false f = refl

-- tokens that match by themselves leave the brackets as they were
all-passed : (xs ys : List Lexeme) (front opened : List Opened) → unmatched front xs ≡ None → unmatched (front ++ opened) (xs ++ ys) ≡ unmatched opened ys
all-passed [] ys front opened e = ap (λ ks. unmatched (ks ++ opened) ys) (none-open front e)
all-passed (x ∷ xs) ys front opened e =
    let right = not-wrong x front xs e in
    passed x (front ++ opened) (xs ++ ys) (wrongly-within (role x) front opened right)
    ∙ ap (λ ks. unmatched ks (xs ++ ys)) (after-within (role x) x.place.span front opened right)
    ∙ all-passed xs ys (open_after x front) opened (sym (passed x front xs right) ∙ e)

pub balanced-passed : (xs ys : List Lexeme) (opened : List Opened) → is_balanced xs ≡ true → unmatched opened (xs ++ ys) ≡ unmatched opened ys
balanced-passed xs ys opened e = all-passed xs ys [] opened (balanced-none xs e)

-- so does a pair of braces around such tokens
pub braces-passed : (o k : Place) (xs ys : List Lexeme) (opened : List Opened) → is_balanced xs ≡ true → unmatched opened (braced o xs k ++ ys) ≡ unmatched opened ys
braces-passed o k xs ys opened e =
    let curly : Opened = record { bracket = Curly; span = o.span } in
    passed (open_curly o) opened ((xs ++ close_curly k ∷ []) ++ ys) (ap (λ r. closes_wrongly r opened) (curly-opens o))
    ∙ ap (λ r. unmatched (opened_after r o.span opened) ((xs ++ close_curly k ∷ []) ++ ys)) (curly-opens o)
    ∙ ap (unmatched (curly ∷ opened)) (append_assoc xs (close_curly k ∷ []) ys)
    ∙ balanced-passed xs (close_curly k ∷ ys) (curly ∷ opened) e
    ∙ passed (close_curly k) (curly ∷ opened) ys (ap (λ r. closes_wrongly r (curly ∷ opened)) (curly-closes k))
    ∙ ap (λ r. unmatched (opened_after r k.span (curly ∷ opened)) ys) (curly-closes k)
