-- Which lists of items are those of an expression, and the reader of expressions as a machine on them.
use Rattle.std.specs.Prelude.{◌≡◌, Bool, true, if◌then◌else◌, List, [], ◌∷◌, Option, Some, None}
use Rattle.reading_machines.specs.Machines.{Machine}
use Rattle.positioned_trees.specs.declared.details.Selector.{Selector}
use Rattle.source_grammar.specs.Brackets.{has_no_arrow}
use Rattle.source_grammar.specs.Expressions.{WithinExpr, Expr, Infix}
use Rattle.source_grammar.specs.ExpressionRules.{Rule, infix_operators, ProperExpr, ProperEnums, ProperInfix, ProperBlock, ProperCases}
use Rattle.source_grammar.specs.ExpressionTokens.{infix_tokens}
use Rattle.source_grammar.specs.Precedence.{are_of_one_side}
use Rattle.expr_tails.specs.declared.states.Limit.TheVariants as limit
use Rattle.expr_tails.specs.declared.states.State.{State}
use Rattle.expr_steps.specs.Reading as reading
use Rattle.expr_steps.specs.Reading.{stepped, begun, is_read}
use Rattle.expr_laws.specs.Items.{Item, OneToken, BlockPair, CasesPair, EnumsPair, OtherPair, item_tokens, items_tokens, expr_items, infix_items}
use Rattle.expr_laws.specs.Newlines.{newlines_end, NewlinesEnd, ended_by}
use Rattle.expr_laws.specs.Pictures.{item_shown}

-- an item with what its braces are as selectors of an import, which no expression asks for
pub record Given : Type 0 where
  pub selectors : Option (List Selector)
  pub item : Item

-- what the reader has of it
abbrev pub picture : Given → reading.Item
picture g = item_shown g.selectors g.item

-- a state, and whether the token before it can end a statement
pub record InLines (S : Type 0) : Type 0 where
  pub ended : Bool
  pub state : S

abbrev pub lined : {S : Type 0} → Bool → Option S → Option (InLines S)
lined ended None = None
lined ended (Some s) = Some (record { ended = ended; state = s })

module _ (rule : Rule) where
  -- what stands in the braces is of the grammar
  abbrev pub ProperItem : Item → Type 0
  ProperItem (OneToken x) = Unit {0}
  ProperItem (BlockPair o block c) = ProperBlock rule WithinExpr block
  ProperItem (CasesPair o cases c) = ProperCases rule cases
  ProperItem (EnumsPair o enums c) = ProperEnums rule enums
  ProperItem (OtherPair o xs c) = Unit {0}

  -- an item whose braces have been read
  pub record ReadItem : Type 0 where
    pub given : Given
    pub proper : ProperItem given.item

  abbrev pub items_of : List ReadItem → List Item
  items_of [] = []
  items_of (i ∷ is) = i.given.item ∷ items_of is

  abbrev pub pictures_of : List ReadItem → List reading.Item
  pictures_of [] = []
  pictures_of (i ∷ is) = picture i.given ∷ pictures_of is

  -- These are the items of an expression, and newlines count in them only after tokens that can end a statement.
  pub record AreOfExpr (is : List ReadItem) : Type 0 where
    pub derivation : Expr
    pub proper : ProperExpr rule derivation
    pub items : items_of is ≡ expr_items derivation
    pub newlines : NewlinesEnd (items_tokens (items_of is))

  -- These are the items of the guard of a case: operands and operators, without the arrow that ends it.
  pub record AreOfGuard (is : List ReadItem) : Type 0 where
    pub derivation : Infix
    pub proper : ProperInfix rule derivation
    pub one_side : are_of_one_side (infix_operators derivation) ≡ true
    pub no_arrow : has_no_arrow [] (infix_tokens derivation) ≡ true
    pub items : items_of is ≡ infix_items derivation
    pub newlines : NewlinesEnd (items_tokens (items_of is))

  abbrev pub step_in_lines : InLines State → ReadItem → Option (InLines State)
  step_in_lines s i =
      if newlines_end s.ended (item_tokens i.given.item)
      then lined (ended_by s.ended (item_tokens i.given.item)) (stepped s.state (picture i.given)) else None

  -- The reader on pictures of items. No newline counts that does not stand after a token that can end a statement: the scanner gives none.
  abbrev pub reader_in_lines : Machine (InLines State) ReadItem
  reader_in_lines = record { start = record { ended = true; state = begun limit.Expr }; step = step_in_lines; whole = λ s. is_read s.state }
