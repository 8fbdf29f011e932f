-- The bits of left sides, at each form.
use Rattle.std.proofs.Common.{◌≡◌, ℕ, List, ap, map, sym, ◌∙◌}
use Rattle.bm_base.specs.declared.range.Range.{Range}
use Rattle.vlog_tree.specs.declared.design.Module.{Module}
use Rattle.vlog_tree.specs.declared.left.Left.{Left}
use Rattle.vlog_tree.specs.declared.left.Left.TheFolds.{fold-roll-Left}
use Rattle.vlog_tree.specs.declared.left.Left.TheOpen.{Left-F}
use Rattle.vlog_tree.specs.declared.left.Left.TheVariants as left
use Rattle.vlog_tree.specs.Meaning.Lefts.{Bit, beside, left_bits, left_bits_at, some_bits}
use Rattle.vlog_tree.specs.Meaning.Ranges.{bit_with, part_bits, whole_bits}
use Rattle.vlog_tree.specs.Meaning.Uses.{Text}

module _ (m : Module) (side : Left) where
  pub left_whole : (at : ℕ) (name : Text) → side ≡ left.Whole at name → left_bits m side ≡ some_bits (whole_bits m name)
  left_whole at name is =
      ap (left_bits m) (is ∙ sym (left.rolls-Whole at name)) ∙ fold-roll-Left (List Bit) (left_bits_at m) (Left-F.Whole at name)

  pub left_bit : (at : ℕ) (name : Text) (index : ℕ) → side ≡ left.Bit at name index → left_bits m side ≡ some_bits (bit_with m name index)
  left_bit at name index is =
      ap (left_bits m) (is ∙ sym (left.rolls-Bit at name index)) ∙ fold-roll-Left (List Bit) (left_bits_at m) (Left-F.Bit at name index)

  pub left_part : (at : ℕ) (name : Text) (range : Range) → side ≡ left.Part at name range → left_bits m side ≡ some_bits (part_bits m name range)
  left_part at name range is =
      ap (left_bits m) (is ∙ sym (left.rolls-Part at name range)) ∙ fold-roll-Left (List Bit) (left_bits_at m) (Left-F.Part at name range)

  pub left_join : (parts : List Left) → side ≡ left.Join parts → left_bits m side ≡ beside (map (left_bits m) parts)
  left_join parts is =
      ap (left_bits m) (is ∙ sym (left.rolls-Join parts)) ∙ fold-roll-Left (List Bit) (left_bits_at m) (Left-F.Join parts)
