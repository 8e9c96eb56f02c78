-- Statements of a list, built one after another.
use Rattle.std.proofs.Common.{◌≡◌, ℕ, suc, ◌+◌, ◌<◌, List, [], ◌∷◌, ◌++◌, length, get_or, take, drop, drop-cons, add-one, Option, ap, sym, ◌∙◌}
use Rattle.std.proofs.lemmas.List.{drop-map, take-map}
use Rattle.pc_terms.specs.declared.problems.Span.{Span}
use Rattle.scan_tokens.specs.Words.{Bytes}
use Rattle.parse_parts.specs.Built.{joined}
use Rattle.parse_parts.specs.declared.built.Kids.{Kids}
use Rattle.parse_parts.specs.declared.built.Tall.{Tall}
use Rattle.expr_tails.specs.declared.items.Built.{Built}
use Rattle.parse_exprs.specs.declared.lists.BuiltList.{BuiltList}
use Rattle.parse_exprs.specs.declared.lists.Cut.{Cut}
use Rattle.parse_exprs.specs.Lists.{Piece as Statement, pieces_by, built_pieces, built_piece}
use Rattle.template_steps.specs.Pieces.{Part, of_parts, part_in, parts_in}
use Rattle.template_steps.specs.Statements.{statements, built_until}
use Rattle.template_steps.specs.declared.pieces.Piece.{Piece}
use Rattle.template_steps.specs.declared.statements.ListKind.{ListKind}

abbrev pub build : ListKind → Option Span → Option Kids → List Span → List (Statement Part) → BuiltList
build kind span kids free ps = built_pieces of_parts (statements kind) built_until span kids free ps

abbrev pub statement_over : ListKind → Cut → List Part → Built
statement_over kind cut ps = built_piece of_parts (statements kind) built_until (record { items = ps; broken = cut.broken; span = cut.span })

abbrev pub behind_cut : Cut → List Piece → List Piece
behind_cut cut rest = drop cut.count (drop cut.skip rest)

abbrev pub parts_behind : Bytes → Cut → List Piece → List Part
parts_behind text cut rest = drop cut.count (drop cut.skip (parts_in text rest))

behind-parts : (text : Bytes) (cut : Cut) (rest : List Piece) → parts_behind text cut rest ≡ parts_in text (behind_cut cut rest)
behind-parts text cut rest =
    ap (drop cut.count) (drop-map (part_in text) cut.skip rest) ∙ drop-map (part_in text) cut.count (drop cut.skip rest)

taken-parts : (text : Bytes) (cut : Cut) (rest pieces : List Piece) → pieces ≡ take cut.count (drop cut.skip rest)
    → take cut.count (drop cut.skip (parts_in text rest)) ≡ parts_in text pieces
taken-parts text cut rest pieces e =
    ap (take cut.count) (drop-map (part_in text) cut.skip rest) ∙ take-map (part_in text) cut.count (drop cut.skip rest) ∙ ap (parts_in text) (sym e)

one_on : (text : Bytes) (kind : ListKind) (span : Option Span) (kids : Option Kids) (cut : Cut) (cuts : List Cut) (rest pieces : List Piece) (tall : Option Tall)
    → pieces ≡ take cut.count (drop cut.skip rest)
    → record { tall = tall; free = [] } ≡ statement_over kind cut (parts_in text pieces)
    → build kind span kids [] (pieces_by of_parts (cut ∷ cuts) (parts_in text rest))
    ≡ build kind span (joined kids tall) [] (pieces_by of_parts cuts (parts_in text (behind_cut cut rest)))
one_on text kind span kids cut cuts rest pieces tall are is =
    ap (λ (b : Built). build kind span (joined kids b.tall) ([] ++ b.free) (pieces_by of_parts cuts (parts_behind text cut rest)))
    (ap (statement_over kind cut) (taken-parts text cut rest pieces are) ∙ sym is)
    ∙ ap (λ l. build kind span (joined kids tall) [] (pieces_by of_parts cuts l)) (behind-parts text cut rest)

pub built_on : (text : Bytes) (kind : ListKind) (span : Option Span) (kids : Option Kids) (cuts : List Cut) (at : ℕ) (d : Cut) (rest pieces : List Piece) (tall : Option Tall)
    → at < length cuts → pieces ≡ take (get_or cuts at d).count (drop (get_or cuts at d).skip rest)
    → record { tall = tall; free = [] } ≡ statement_over kind (get_or cuts at d) (parts_in text pieces)
    → build kind span kids [] (pieces_by of_parts (drop at cuts) (parts_in text rest))
    ≡ build kind span (joined kids tall) [] (pieces_by of_parts (drop (at + 1) cuts) (parts_in text (behind_cut (get_or cuts at d) rest)))
built_on text kind span kids cuts at d rest pieces tall below are is =
    ap (λ l. build kind span kids [] (pieces_by of_parts l (parts_in text rest))) (drop-cons cuts at d below)
    ∙ one_on text kind span kids (get_or cuts at d) (drop (suc at) cuts) rest pieces tall are is
    ∙ ap (λ n. build kind span (joined kids tall) [] (pieces_by of_parts (drop n cuts) (parts_in text (behind_cut (get_or cuts at d) rest)))) (sym (add-one at))
