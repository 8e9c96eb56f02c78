-- The type that was read has the tokens that were read of it.
use Rattle.std.proofs.Common.{◌≡◌, List, [], ◌∷◌, ◌++◌, Option, Some, None, refl, ap, sym, ◌∙◌}
use Rattle.source_grammar.specs.Types.{WrittenType, SimpleType, Simple, type_tokens}
use Rattle.parse_parts.proofs.Derived as types
use Rattle.parse_parts.proofs.Sound as types_sound
use Rattle.parse_parts.proofs.Sound.{tokens_in as type_tokens_in}
use Rattle.expr_laws.proofs.Derived.{type_read, type_of}

pub typed-tokens : (t : types.State) (type : WrittenType) → type_of t ≡ Some type → type_tokens type ≡ type_tokens_in t
typed-tokens t type e = go t.frames (types.simple_of t.tail) refl refl e where
  go : (fs : List types.Frame) (o : Option SimpleType) → t.frames ≡ fs → types.simple_of t.tail ≡ o → type_read fs t.heads o ≡ Some type → type_tokens type ≡ type_tokens_in t
  go [] (Some simple) f g h =
      let same : types.settled t.heads (Simple simple) ≡ type = cc in
      ap type_tokens (sym same) ∙ types_sound.settled-tokens t.heads (Simple simple) ∙ ap (λ xs. types.heads_tokens t.heads ++ xs) (types_sound.simple-tokens t.tail simple g)
      ∙ sym (ap (λ fs. types.state_tokens fs t.heads t.tail) f)
  go [] None f g h = cc
  go (k ∷ fs) o f g h = cc
