-- Each derivation begins with a token, which is all that a newline before it tells.
use Rattle.std.proofs.Common.{◌≡◌, Bool, true, List, [], ◌∷◌, ◌++◌, Option, refl, ap, sym, ◌∙◌}
use Rattle.source_grammar.specs.Lexemes.{Lexeme}
use Rattle.source_grammar.specs.Patterns.{Pat1, Pat3, SPat, TypedVar, TypedWild, BoundPat, InfixPat, LastOperand, MoreOperands, WildPat, VarPat, LiteralPat, MinusPat, PathPat, CallPatOfNone, CallPat, UnitPat, PatInParentheses, PairPat, TriplePat, pat1_tokens, pat3_tokens, spat_tokens}
use Rattle.parse_patterns.proofs.Derived.{Operation, Binder, Earlier, may_stand}

-- tokens that begin with this one
pub record Begins (x : Lexeme) (xs : List Lexeme) : Type 0 where
  pub rest : List Lexeme
  pub is : xs ≡ x ∷ rest

pub begins-append : (x : Lexeme) (xs ys : List Lexeme) → Begins x xs → Begins x (xs ++ ys)
begins-append x xs ys b = record { rest = b.rest ++ ys; is = ap (λ zs. zs ++ ys) b.is }

-- tokens that begin with some token
pub record Some_begins (xs : List Lexeme) : Type 0 where
  pub first : Lexeme
  pub begins : Begins first xs

pub some-append : (xs ys : List Lexeme) → Some_begins xs → Some_begins (xs ++ ys)
some-append xs ys b = record { first = b.first; begins = begins-append b.first xs ys b.begins }

pub some-behind : (xs ys : List Lexeme) → Some_begins ys → Some_begins (xs ++ ys)
some-behind [] ys b = b
some-behind (x ∷ xs) ys b = record { first = x; begins = record { rest = xs ++ ys; is = refl } }

abbrev here : (x : Lexeme) (rest : List Lexeme) → Some_begins (x ∷ rest)
here x rest = record { first = x; begins = record { rest = rest; is = refl } }

pub spat-begins : (d : SPat) → Some_begins (spat_tokens d)
spat-begins (WildPat place) = here _ _
spat-begins (VarPat id) = here _ _
spat-begins (LiteralPat literal) = here _ _
spat-begins (MinusPat sign number) = here _ _
spat-begins (PathPat path) = here _ _
spat-begins (CallPatOfNone path o c) = here _ _
spat-begins (CallPat path o pats c) = here _ _
spat-begins (UnitPat o c) = here _ _
spat-begins (PatInParentheses o pat c) = here _ _
spat-begins (PairPat o a p b c) = here _ _
spat-begins (TriplePat o a p b q d c) = here _ _

pub pat3-begins : (d : Pat3) → Some_begins (pat3_tokens d)
pat3-begins (LastOperand d) = spat-begins d
pat3-begins (MoreOperands d id pat) = some-append (spat_tokens d) _ (spat-begins d)

pub pat1-begins : (d : Pat1) → Some_begins (pat1_tokens d)
pat1-begins (TypedVar id point type) = here _ _
pat1-begins (TypedWild place point type) = here _ _
pat1-begins (BoundPat id sign pat) = here _ _
pat1-begins (InfixPat pat) = pat3-begins pat

-- ---- newlines

-- the first of these tokens, if there is one, may begin a pattern there
abbrev pub stands : Option Binder → List Operation → List Earlier → List Lexeme → Bool
stands b os es [] = true
stands b os es (x ∷ xs) = may_stand b os es x.place.before

pub stands-first : (b : Option Binder) (os : List Operation) (es : List Earlier) (x : Lexeme) (xs ys : List Lexeme) → Begins x xs → Begins x ys
    → stands b os es xs ≡ true → stands b os es ys ≡ true
stands-first b os es x xs ys p q h = ap (stands b os es) q.is ∙ sym (ap (stands b os es) p.is) ∙ h

pub stands-front : (b : Option Binder) (os : List Operation) (es : List Earlier) (xs ys : List Lexeme) → Some_begins xs → stands b os es xs ≡ true → stands b os es (xs ++ ys) ≡ true
stands-front b os es xs ys p h = stands-first b os es p.first xs (xs ++ ys) p.begins (begins-append p.first xs ys p.begins) h
