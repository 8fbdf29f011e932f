-- A name, one bit of it, or a part of it: what stands on both sides of an assignment.
use Rattle.std.specs.Prelude.{ℕ, List, [], ◌∷◌, codes}
use Rattle.bm_base.specs.declared.range.Range.{Range}
use Rattle.vlog_tokens.specs.Toks.{Tok}
use Rattle.vlog_tree.specs.Spelling.Parts.{Is, IsDecimal, IsRange}

-- how much of a name is taken
pub data Select : Type 0 where
  whole : Select
  bit : ℕ → Select
  part : Range → Select

-- what stands after the name: nothing | "[" decimal "]" | range
pub data IsSelect : List Tok → Select → Type 0 where
  none : IsSelect [] whole
  index : (opening digits closing : Tok) (place : ℕ) → Is (codes "[") opening → IsDecimal digits place
      → Is (codes "]") closing → IsSelect (opening ∷ digits ∷ closing ∷ []) (bit place)
  range : (ts : List Tok) (r : Range) → IsRange ts r → IsSelect ts (part r)
