-- No type and no pattern is without tokens.
use Rattle.std.proofs.Common.{◌≢◌, List, [], ◌∷◌, ◌++◌, refl}
use Rattle.source_grammar.specs.Lexemes.{Lexeme}
use Rattle.source_grammar.specs.Patterns.{Pat, LastAlternative, MoreAlternatives, pat_tokens, Pat1, TypedVar, TypedWild, BoundPat, InfixPat, pat1_tokens, Pat3, LastOperand, MoreOperands, pat3_tokens, SPat, WildPat, VarPat, LiteralPat, MinusPat, PathPat, CallPatOfNone, CallPat, UnitPat, PatInParentheses, PairPat, TriplePat, spat_tokens}
use Rattle.source_grammar.specs.Types.{WrittenType, FunOfNamed, FunOfNone, FunOfTypes, Simple, type_tokens, SimpleType, Named, InParentheses, Pair, Triple, simple_tokens, NamedType, OfPath, Applied, Singleton, named_tokens}

cons-full : (x : Lexeme) (xs : List Lexeme) → x ∷ xs ≢ []
cons-full x xs e = cc

append-full : (xs ys : List Lexeme) → xs ≢ [] → xs ++ ys ≢ []
append-full [] ys full = absurd (full refl)
append-full (x ∷ xs) ys full = cons-full x (xs ++ ys)

named-full : (d : NamedType) → named_tokens d ≢ []
named-full (OfPath path) = cons-full _ _
named-full (Applied path opening types closing) = cons-full _ _
named-full (Singleton path point word) = cons-full _ _

simple-full : (d : SimpleType) → simple_tokens d ≢ []
simple-full (Named named) = named-full named
simple-full (InParentheses opening type closing) = cons-full _ _
simple-full (Pair opening a comma_1 b closing) = cons-full _ _
simple-full (Triple opening a comma_1 b comma_2 c closing) = cons-full _ _

pub type-full : (d : WrittenType) → type_tokens d ≢ []
type-full (FunOfNamed named arrow result) = append-full (named_tokens named) _ (named-full named)
type-full (FunOfNone opening closing arrow result) = cons-full _ _
type-full (FunOfTypes opening types closing arrow result) = cons-full _ _
type-full (Simple simple) = simple-full simple

pub spat-full : (d : SPat) → spat_tokens d ≢ []
spat-full (WildPat place) = cons-full _ _
spat-full (VarPat id) = cons-full _ _
spat-full (LiteralPat literal) = cons-full _ _
spat-full (MinusPat sign number) = cons-full _ _
spat-full (PathPat path) = cons-full _ _
spat-full (CallPatOfNone path opening closing) = cons-full _ _
spat-full (CallPat path opening pats closing) = cons-full _ _
spat-full (UnitPat opening closing) = cons-full _ _
spat-full (PatInParentheses opening pat closing) = cons-full _ _
spat-full (PairPat opening a comma_1 b closing) = cons-full _ _
spat-full (TriplePat opening a comma_1 b comma_2 c closing) = cons-full _ _

pat3-full : (d : Pat3) → pat3_tokens d ≢ []
pat3-full (LastOperand pat) = spat-full pat
pat3-full (MoreOperands pat operator pats) = append-full (spat_tokens pat) _ (spat-full pat)

pat1-full : (d : Pat1) → pat1_tokens d ≢ []
pat1-full (TypedVar id point type) = cons-full _ _
pat1-full (TypedWild place point type) = cons-full _ _
pat1-full (BoundPat id sign pat) = cons-full _ _
pat1-full (InfixPat pat) = pat3-full pat

pub pat-full : (d : Pat) → pat_tokens d ≢ []
pat-full (LastAlternative pat) = pat1-full pat
pat-full (MoreAlternatives pat stroke pats) = append-full (pat1_tokens pat) _ (pat1-full pat)
