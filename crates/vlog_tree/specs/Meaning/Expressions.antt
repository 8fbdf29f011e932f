-- The bits of expressions (IEEE 1364-2005, clauses 5.1 and 5.4), two-valued. Bits are counted from the right end.
use Rattle.std.specs.Prelude.{ℕ, zero, suc, ◌+◌, ◌-◌, List, [], ◌∷◌, Bool, false, not, ◌&&◌, ◌||◌, Option, Some, None, cond, fold, is_some, map, max, nat_lt, option_and_then, option_map, reverse, slice_index_or, unwrap_or}
use Rattle.std.specs.Bool.{beq, xor}
use Rattle.std.specs.Cmp.Lexicographic.{pointwise}
use Rattle.std.specs.List.{list_all, list_any, range_with_len, repeat}
use Rattle.vlog_tree.specs.declared.design.Module.{Module}
use Rattle.vlog_tree.specs.declared.expr.BinOp.{BinOp}
use Rattle.vlog_tree.specs.declared.expr.BinOp.TheVariants as binary
use Rattle.vlog_tree.specs.declared.expr.Expr.{Expr}
use Rattle.vlog_tree.specs.declared.expr.Expr.TheFolds.{para-Expr}
use Rattle.vlog_tree.specs.declared.expr.Expr.TheOpen.{Expr-F}
use Rattle.vlog_tree.specs.declared.expr.UnOp.{UnOp}
use Rattle.vlog_tree.specs.declared.expr.UnOp.TheVariants as unary
use Rattle.vlog_tree.specs.Meaning.Ranges.{Bits, bit_with, part_bits, whole_bits}
use Rattle.vlog_tree.specs.Meaning.Uses.{Text}
use Rattle.vlog_tree.specs.Meaning.Widths.{all_of, together, width}

-- the value of a bit of a name in the module, where it has one
abbrev pub Names : Type 0
Names = Text → ℕ → Option Bool

-- the value of a bit, by the width at which the expression is evaluated and the bit's place
abbrev pub Value : Type 0
Value = ℕ → ℕ → Option Bool

-- an operand: the expression and its value
abbrev pub Operand : Type 0
Operand = Expr × Value

-- ---- operands

abbrev pub width_of : Module → Operand → ℕ
width_of m operand = unwrap_or (width m operand.0) 0

-- all bits at a width, where there is each
abbrev pub bits_at : Operand → ℕ → Option (List Bool)
bits_at operand width = all_of (map (operand.1 width) (range_with_len 0 width))

-- all bits of an operand that is evaluated at its own width
abbrev pub own_bits : Module → Operand → Option (List Bool)
own_bits m operand = bits_at operand (width_of m operand)

-- An operand is true where some bit of it is 1.
abbrev pub truth : Module → Operand → Option Bool
truth m operand = option_map (list_any (λ bit. bit)) (own_bits m operand)

-- A result of one bit has 0 above it.
abbrev pub one_bit : Option Bool → ℕ → Option Bool
one_bit bit zero = bit
one_bit bit (suc place) = Some false

-- ---- numbers, names and selects

-- the bits of a name, and 0 above them
abbrev pub named_bit : Names → Bits → ℕ → Option Bool
named_bit names bits place = cond (nat_lt place bits.width) (names bits.name (bits.low + place)) (Some false)

-- A select that its name's range doesn't have has no value.
abbrev pub selected_bit : Names → Option Bits → ℕ → Option Bool
selected_bit names bits place = option_and_then (λ bits. named_bit names bits place) bits

-- ---- operators

-- whether an odd number of bits is 1
abbrev pub parity : List Bool → Bool
parity bits = fold xor false bits

-- the reductions and `!`, of all bits of an operand; `~` is none
abbrev pub reduced : UnOp → List Bool → Option Bool
reduced unary.RedAnd bits = Some (list_all (λ bit. bit) bits)
reduced unary.RedNand bits = Some (not (list_all (λ bit. bit) bits))
reduced unary.RedOr bits = Some (list_any (λ bit. bit) bits)
reduced unary.RedNor bits = Some (not (list_any (λ bit. bit) bits))
reduced unary.RedXor bits = Some (parity bits)
reduced unary.RedXnor bits = Some (not (parity bits))
reduced unary.Not bits = Some (not (list_any (λ bit. bit) bits))
reduced unary.Inv bits = None

-- `~` turns each bit at the width of the context; the others have one bit.
abbrev pub unary_bit : Module → UnOp → Operand → Value
unary_bit m unary.Inv arg width place = option_map not (arg.1 width place)
unary_bit m op arg width place = one_bit (option_and_then (reduced op) (own_bits m arg)) place

-- whether all bits are the same, at the greater width of both operands
abbrev pub are_same : Module → Operand → Operand → Option Bool
are_same m left right =
    let width : ℕ = max (width_of m left) (width_of m right) in
    together (pointwise beq) (bits_at left width) (bits_at right width)

abbrev pub binary_bit : Module → BinOp → Operand → Operand → Value
binary_bit m binary.And left right width place = together ◌&&◌ (left.1 width place) (right.1 width place)
binary_bit m binary.Or left right width place = together ◌||◌ (left.1 width place) (right.1 width place)
binary_bit m binary.Xor left right width place = together xor (left.1 width place) (right.1 width place)
binary_bit m binary.Xnor left right width place = together beq (left.1 width place) (right.1 width place)
binary_bit m binary.LogAnd left right width place = one_bit (together ◌&&◌ (truth m left) (truth m right)) place
binary_bit m binary.LogOr left right width place = one_bit (together ◌||◌ (truth m left) (truth m right)) place
binary_bit m binary.Eq left right width place = one_bit (are_same m left right) place
binary_bit m binary.Ne left right width place = one_bit (option_map not (are_same m left right)) place

-- the bit of the branch that the condition chooses, where both have one
abbrev pub chosen : Option Bool → Option Bool → Option Bool → Option Bool
chosen (Some choice) first second = together (cond choice) first second
chosen None first second = None

-- the bit of parts that stand one beside the other, the rightmost first, and 0 above them
abbrev pub part_bit : Module → List Operand → ℕ → Option Bool
part_bit m [] place = Some false
part_bit m (part ∷ parts) place =
    let width : ℕ = width_of m part in
    cond (nat_lt place width) (part.1 width place) (part_bit m parts (place - width))

-- ---- expressions

abbrev pub bit_at : Module → Names → Expr-F Operand → Value
bit_at m names (Expr-F.Number at bits) width place = Some (slice_index_or bits place false)
bit_at m names (Expr-F.Whole at name) width place = selected_bit names (whole_bits m name) place
bit_at m names (Expr-F.Bit at name index) width place = selected_bit names (bit_with m name index) place
bit_at m names (Expr-F.Part at name part) width place = selected_bit names (part_bits m name part) place
bit_at m names (Expr-F.Unary op arg) width place = unary_bit m op arg width place
bit_at m names (Expr-F.Binary op left right) width place = binary_bit m op left right width place
bit_at m names (Expr-F.Cond condition first second) width place =
    chosen (truth m condition) (first.1 width place) (second.1 width place)
bit_at m names (Expr-F.Join parts) width place = part_bit m (reverse parts) place
bit_at m names (Expr-F.Repeat count parts) width place = part_bit m (repeat count (reverse parts)) place

-- The value of a bit of an expression that is evaluated at a width. An expression without a width has no value.
abbrev pub expr_bit : Module → Names → Expr → Value
expr_bit m names e at place =
    cond (is_some (width m e)) (para-Expr Value (bit_at m names) e at place) None

-- whether an expression is true
abbrev pub is_true : Module → Names → Expr → Option Bool
is_true m names e = truth m (e, expr_bit m names e)

-- A bit of an expression that is assigned to so many bits (clause 5.4.1): it is evaluated at the greater of both widths.
abbrev pub assigned_bit : Module → Names → ℕ → Expr → ℕ → Option Bool
assigned_bit m names count e place = expr_bit m names e (max count (unwrap_or (width m e) 0)) place
