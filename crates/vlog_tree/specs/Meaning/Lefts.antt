-- The bits that are assigned: those of a left side, and of an expression that is connected to an output port
-- (IEEE 1364-2005, clauses 6.1.1 and 12.3.9.2).
use Rattle.std.specs.Prelude.{ℕ, ◌==◌, Bool, List, [], ◌&&◌, Option, Some, None, bytes_eq, flat_map, map, option_map, position, reverse}
use Rattle.std.specs.List.{range_with_len}
use Rattle.vlog_tree.specs.declared.design.Module.{Module}
use Rattle.vlog_tree.specs.declared.expr.Expr.{Expr}
use Rattle.vlog_tree.specs.declared.expr.Expr.TheFolds.{fold-Expr}
use Rattle.vlog_tree.specs.declared.expr.Expr.TheOpen.{Expr-F}
use Rattle.vlog_tree.specs.declared.left.Left.{Left}
use Rattle.vlog_tree.specs.declared.left.Left.TheFolds.{fold-Left}
use Rattle.vlog_tree.specs.declared.left.Left.TheOpen.{Left-F}
use Rattle.vlog_tree.specs.Meaning.Ranges.{Bits, bit_with, part_bits, whole_bits}
use Rattle.vlog_tree.specs.Meaning.Uses.{Text}
use Rattle.vlog_tree.specs.Meaning.Widths.{all_of}

-- a bit of a name of a module
pub record Bit : Type 0 where
  pub name : Text
  pub place : ℕ

abbrev pub bit_of : Text → ℕ → Bit
bit_of name place = record { name = name; place = place }

abbrev pub same_bit : Bit → Bit → Bool
same_bit bit other = bytes_eq bit.name other.name && (bit.place == other.place)

-- bits of a name, the lowest first
abbrev pub each_bit : Bits → List Bit
each_bit bits = map (bit_of bits.name) (range_with_len bits.low bits.width)

-- none where the name's range doesn't have them
abbrev pub some_bits : Option Bits → List Bit
some_bits (Some bits) = each_bit bits
some_bits None = []

-- the bits of parts that stand one beside the other, of which the rightmost is the lowest
abbrev pub beside : List (List Bit) → List Bit
beside parts = flat_map (λ part. part) (reverse parts)

abbrev pub left_bits_at : Module → Left-F (List Bit) → List Bit
left_bits_at m (Left-F.Whole at name) = some_bits (whole_bits m name)
left_bits_at m (Left-F.Bit at name index) = some_bits (bit_with m name index)
left_bits_at m (Left-F.Part at name part) = some_bits (part_bits m name part)
left_bits_at m (Left-F.Join parts) = beside parts

-- the bits of a left side, the lowest first
abbrev pub left_bits : Module → Left → List Bit
left_bits m = fold-Left (List Bit) (left_bits_at m)

abbrev pub target_bits_at : Module → Expr-F (Option (List Bit)) → Option (List Bit)
target_bits_at m (Expr-F.Whole at name) = Some (some_bits (whole_bits m name))
target_bits_at m (Expr-F.Bit at name index) = Some (some_bits (bit_with m name index))
target_bits_at m (Expr-F.Part at name part) = Some (some_bits (part_bits m name part))
target_bits_at m (Expr-F.Join parts) = option_map beside (all_of parts)
target_bits_at m other = None

-- The bits of an expression that is a name, a select or a concatenation of these: only such a one can be assigned.
abbrev pub target_bits : Module → Expr → Option (List Bit)
target_bits m = fold-Expr (Option (List Bit)) (target_bits_at m)

-- which of these bits the bit is, the lowest having number 0
abbrev pub number_in : List Bit → Bit → Option ℕ
number_in bits bit = position (same_bit bit) bits
