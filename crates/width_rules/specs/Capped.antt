-- What is kept of a shape while rules are checked: its failures are noted, and its width stays right above the greatest
-- where it is wider.
use Rattle.std.specs.Prelude.{ℕ, ◌+◌, ◌*◌, ◌==◌, Bool, List, [], ◌∷◌, Option, None, Some, cond, flat_map, fold, length, min, nat_lt, unwrap_or}
use Rattle.std.specs.Option.{option_or}
use Rattle.bm_base.specs.declared.range.Range.{Range}
use Rattle.hierarchy.specs.Failures.{Failure, failure}
use Rattle.vlog_tree.specs.declared.design.Module.{Module}
use Rattle.vlog_tree.specs.Meaning.Ranges.{bit_with, part_bits, span}
use Rattle.vlog_tree.specs.Meaning.Uses.{Text}
use Rattle.vlog_tree.specs.Meaning.Widths.{greatest}
use Rattle.width_rules.specs.Widths.{Shape, bad_select, judged, shape, together, whole_width, widths_of}

pub record Capped : Type 0 where
  pub at : ℕ
  pub name : Option Text
  pub width : ℕ

abbrev pub cap : ℕ → ℕ
cap width = min width (greatest + 1)

abbrev pub capped : Shape → Capped
capped shape = record { at = shape.at; name = shape.name; width = cap shape.width }

-- a failure of the whole
abbrev pub failure_of : Module → Capped → Failure
failure_of m shape = failure shape.at m.name (unwrap_or shape.name [])

-- the same where it is too wide
abbrev pub width_failures : Module → Capped → List Failure
width_failures m shape = cond (nat_lt greatest shape.width) (failure_of m shape ∷ []) []

-- the same where it isn't one bit wide
abbrev pub terminal_failures : Module → Capped → List Failure
terminal_failures m shape = cond (shape.width == 1) [] (failure_of m shape ∷ [])

abbrev pub with_width : Capped → ℕ → Capped
with_width shape width = record shape { width = width }

abbrev pub repeated : ℕ → Capped → Capped
repeated count shape = with_width shape (cap (count * shape.width))

-- ---- parts that stand one beside the other

abbrev pub beside : Capped → Capped → Capped
beside left right = record {
  at = left.at;
  name = option_or left.name right.name;
  width = cap (left.width + right.width);
}

abbrev pub beside_those : Option Capped → Capped → Option Capped
beside_those None part = Some part
beside_those (Some parts) part = Some (beside parts part)

abbrev pub empty_row : Capped
empty_row = record { at = 0; name = None; width = 0 }

abbrev pub row_after : Option Capped → List Capped → Capped
row_after before parts = unwrap_or (fold beside_those before parts) empty_row

-- parts, with their widths together
abbrev pub row_of : List Shape → Shape
row_of parts = together parts (widths_of parts)

-- ---- numbers, names and their selects

abbrev pub number_shape : Module → ℕ → List Bool → Shape
number_shape m at bits = judged m (shape at None (length bits) [])

abbrev pub whole_shape : Module → ℕ → Text → Shape
whole_shape m at name = judged m (shape at (Some name) (whole_width m name) [])

abbrev pub bit_shape : Module → ℕ → Text → ℕ → Shape
bit_shape m at name index = shape at (Some name) 1 (bad_select m at name (bit_with m name index))

abbrev pub part_shape : Module → ℕ → Text → Range → Shape
part_shape m at name part =
    judged m (shape at (Some name) (span part) (bad_select m at name (part_bits m name part)))

-- ---- lists of failures

-- one list after another
abbrev pub joined : List (List Failure) → List Failure
joined lists = flat_map (λ failures. failures) lists
