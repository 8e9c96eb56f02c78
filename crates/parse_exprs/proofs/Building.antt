-- Statements of a list, built one after another.
use Rattle.std.proofs.Common.{◌≡◌, ℕ, suc, ◌+◌, ◌<◌, List, ◌∷◌, ◌++◌, length, get_or, take, drop, drop-cons, add-one, Option, ap, sym, ◌∙◌}
use Rattle.std.proofs.lemmas.List.{drop-map, take-map}
use Rattle.pc_terms.specs.declared.problems.Span.{Span}
use Rattle.scan_tokens.specs.Words.{Bytes}
use Rattle.parse_parts.specs.Built.{joined}
use Rattle.parse_parts.specs.declared.built.Kids.{Kids}
use Rattle.expr_tails.specs.declared.items.Built.{Built}
use Rattle.expr_steps.specs.Reading.{Item}
use Rattle.parse_exprs.specs.declared.items.Item.{Item as Written}
use Rattle.parse_exprs.specs.declared.lists.BuiltList.{BuiltList}
use Rattle.parse_exprs.specs.Items.{item_in, items_in}
use Rattle.parse_exprs.specs.Lists.{Cut, Piece, of_items, pieces_by, built_pieces, built_piece}
use Rattle.parse_exprs.specs.Statements.{statements, built_until}

abbrev pub build : Option Span → Option Kids → List Span → List (Piece Item) → BuiltList
build span kids free ps = built_pieces of_items statements built_until span kids free ps

abbrev pub statement_over : Cut → List Item → Built
statement_over cut is = built_piece of_items statements built_until (record { items = is; broken = cut.broken; span = cut.span })

abbrev pub written_behind : Cut → List Written → List Written
written_behind cut rest = drop cut.count (drop cut.skip rest)

abbrev pub items_behind : Bytes → Cut → List Written → List Item
items_behind text cut rest = drop cut.count (drop cut.skip (items_in text rest))

behind-items : (text : Bytes) (cut : Cut) (rest : List Written) → items_behind text cut rest ≡ items_in text (written_behind cut rest)
behind-items text cut rest =
    ap (drop cut.count) (drop-map (item_in text) cut.skip rest) ∙ drop-map (item_in text) cut.count (drop cut.skip rest)

taken-items : (text : Bytes) (cut : Cut) (rest items : List Written) → items ≡ take cut.count (drop cut.skip rest)
    → take cut.count (drop cut.skip (items_in text rest)) ≡ items_in text items
taken-items text cut rest items e =
    ap (take cut.count) (drop-map (item_in text) cut.skip rest) ∙ take-map (item_in text) cut.count (drop cut.skip rest) ∙ ap (items_in text) (sym e)

one-on : (text : Bytes) (span : Option Span) (kids : Option Kids) (free : List Span) (cut : Cut) (cuts : List Cut) (rest items : List Written) (built : Built)
    → items ≡ take cut.count (drop cut.skip rest) → built ≡ statement_over cut (items_in text items)
    → build span kids free (pieces_by of_items (cut ∷ cuts) (items_in text rest))
    ≡ build span (joined kids built.tall) (free ++ built.free) (pieces_by of_items cuts (items_in text (written_behind cut rest)))
one-on text span kids free cut cuts rest items built are is =
    ap (λ (b : Built). build span (joined kids b.tall) (free ++ b.free) (pieces_by of_items cuts (items_behind text cut rest)))
    (ap (statement_over cut) (taken-items text cut rest items are) ∙ sym is)
    ∙ ap (λ l. build span (joined kids built.tall) (free ++ built.free) (pieces_by of_items cuts l)) (behind-items text cut rest)

pub built-on : (text : Bytes) (span : Option Span) (kids : Option Kids) (free : List Span) (cuts : List Cut) (at : ℕ) (d : Cut) (rest items : List Written) (built : Built)
    → at < length cuts → items ≡ take (get_or cuts at d).count (drop (get_or cuts at d).skip rest)
    → built ≡ statement_over (get_or cuts at d) (items_in text items)
    → build span kids free (pieces_by of_items (drop at cuts) (items_in text rest))
    ≡ build span (joined kids built.tall) (free ++ built.free) (pieces_by of_items (drop (at + 1) cuts) (items_in text (written_behind (get_or cuts at d) rest)))
built-on text span kids free cuts at d rest items built below are is =
    ap (λ l. build span kids free (pieces_by of_items l (items_in text rest))) (drop-cons cuts at d below)
    ∙ one-on text span kids free (get_or cuts at d) (drop (suc at) cuts) rest items built are is
    ∙ ap (λ n. build span (joined kids built.tall) (free ++ built.free) (pieces_by of_items (drop n cuts) (items_in text (written_behind (get_or cuts at d) rest)))) (sym (add-one at))
