-- The examples of the meaning, worked out form by form.
use Rattle.std.proofs.Common.{◌≡◌, ℕ, [], ◌∷◌, Bool, true, false, Some, None, Option, ap, ◌∙◌, map, max}
use Rattle.std.specs.Prelude.{codes, cond, is_some, not, option_map, unwrap_or}
use Rattle.std.specs.Cmp.Lexicographic.{pointwise}
use Rattle.std.specs.Bool.{beq}
use Rattle.std.specs.List.{list_any, range_with_len}
use Rattle.bm_base.specs.declared.range.Range.{Range}
use Rattle.vlog_tree.specs.declared.design.Module.{Module}
use Rattle.vlog_tree.specs.declared.expr.BinOp.TheVariants as binary
use Rattle.vlog_tree.specs.declared.expr.Expr.{Expr}
use Rattle.vlog_tree.specs.declared.expr.Expr.TheVariants as expr
use Rattle.vlog_tree.specs.declared.expr.UnOp.TheVariants as unary
use Rattle.vlog_tree.specs.declared.left.Left.TheVariants as left
use Rattle.vlog_tree.specs.Meaning.Examples.{bits, choice, equal, inverted, name, nested, nets, values}
use Rattle.vlog_tree.specs.Meaning.Expressions.{Names, are_same, assigned_bit, chosen, one_bit, selected_bit, truth}
use Rattle.vlog_tree.specs.Meaning.Lefts.{beside, bit_of, left_bits}
use Rattle.vlog_tree.specs.Meaning.Uses.{Text}
use Rattle.vlog_tree.specs.Meaning.Widths.{all_of, binary_width, choice_width, together, unary_width, width}
use Rattle.vlog_tree.specs.Meaning.Ranges.{part_bits, range_of, whole_bits}
use Rattle.vlog_tree.proofs.Equations.{bits-Binary, bits-Bit, bits-Cond, bits-Part, bits-Unary, bits-Whole, left-Bit, left-Join, left-Whole, value, width-Binary, width-Bit, width-Cond, width-Part, width-Unary, width-Whole}

-- An expression with a width is evaluated at the greater of both widths.
assigned : (m : Module) (names : Names) (count : ℕ) (e : Expr) (w place : ℕ) → width m e ≡ Some w
    → assigned_bit m names count e place ≡ value m names e (max count w) place
assigned m names count e w place is = ap (λ o. cond (is_some o) (value m names e (max count (unwrap_or o 0)) place) None) is

abbrev a : Text
a = codes "a"

abbrev b : Text
b = codes "b"

abbrev r : Text
r = codes "r"

abbrev at_a : Expr
at_a = name a

abbrev not_a : Expr
not_a = expr.Unary unary.Inv (name a)

-- ---- widths

width_a : width nets at_a ≡ Some 1
width_a = width-Whole (range_of nets) 0 a

width_b : width nets (name b) ≡ Some 2
width_b = width-Whole (range_of nets) 0 b

width_not_a : width nets not_a ≡ Some 1
width_not_a = width-Unary (range_of nets) unary.Inv (name a) ∙ ap (option_map (unary_width unary.Inv)) width_a

width_inverted : width nets inverted ≡ Some 2
width_inverted = width-Unary (range_of nets) unary.Inv (name b) ∙ ap (option_map (unary_width unary.Inv)) width_b

pub choice_is_wide : width nets choice ≡ Some 2
choice_is_wide = width-Cond (range_of nets) (name a) not_a (name b) ∙ (λ i. choice_width (width_a i) (width_not_a i) (width_b i))

width_equal : width nets equal ≡ Some 1
width_equal = width-Binary (range_of nets) binary.Eq not_a (name b) ∙ (λ i. together (binary_width binary.Eq) (width_not_a i) (width_b i))

-- ---- `~b`

inverted_bit : (place : ℕ) → assigned_bit nets values 4 inverted place ≡ option_map not (value nets values (name b) 4 place)
inverted_bit place = assigned nets values 4 inverted 2 place width_inverted ∙ bits-Unary nets values unary.Inv (name b) 4 place

b_bit : (width place : ℕ) → value nets values (name b) width place ≡ selected_bit values (whole_bits nets b) place
b_bit width place = bits-Whole nets values 0 b width place

inverted_at : (place : ℕ) → assigned_bit nets values 4 inverted place ≡ option_map not (selected_bit values (whole_bits nets b) place)
inverted_at place = inverted_bit place ∙ ap (option_map not) (b_bit 4 place)

pub inverts : bits 4 inverted (0 ∷ 1 ∷ 2 ∷ 3 ∷ []) ≡ Some true ∷ Some false ∷ Some true ∷ Some true ∷ []
inverts i = inverted_at 0 i ∷ inverted_at 1 i ∷ inverted_at 2 i ∷ inverted_at 3 i ∷ []

-- ---- `a ? ~a : b` and `~a == b`

a_bit : (width place : ℕ) → value nets values at_a width place ≡ selected_bit values (whole_bits nets a) place
a_bit width place = bits-Whole nets values 0 a width place

not_a_bit : (width place : ℕ) → value nets values not_a width place ≡ option_map not (selected_bit values (whole_bits nets a) place)
not_a_bit width place = bits-Unary nets values unary.Inv (name a) width place ∙ ap (option_map not) (a_bit width place)

abbrev truth_of_width : Option ℕ → Option Bool
truth_of_width width =
    option_map (list_any (λ bit. bit)) (all_of (map (value nets values at_a (unwrap_or width 0)) (range_with_len 0 (unwrap_or width 0))))

truth_a : truth nets (at_a, value nets values at_a) ≡ Some true
truth_a = ap truth_of_width width_a ∙ ap (λ bit. option_map (list_any (λ bit. bit)) (all_of (bit ∷ []))) (a_bit 1 0)

choice_at : (place : ℕ) → assigned_bit nets values 1 choice place
    ≡ chosen (Some true) (option_map not (selected_bit values (whole_bits nets a) place)) (selected_bit values (whole_bits nets b) place)
choice_at place =
    assigned nets values 1 choice 2 place choice_is_wide ∙ bits-Cond nets values at_a not_a (name b) 2 place
    ∙ (λ i. chosen (truth_a i) (not_a_bit 2 place i) (b_bit 2 place i))

pub chooses : bits 1 choice (0 ∷ 1 ∷ []) ≡ Some false ∷ Some true ∷ []
chooses i = choice_at 0 i ∷ choice_at 1 i ∷ []

abbrev same_by : Option ℕ → Option ℕ → Option Bool
same_by first second =
    let width : ℕ = max (unwrap_or first 0) (unwrap_or second 0) in
    together (pointwise beq) (all_of (map (value nets values not_a width) (range_with_len 0 width))) (all_of (map (value nets values (name b) width) (range_with_len 0 width)))

same_a_b : are_same nets (not_a, value nets values not_a) (name b, value nets values (name b)) ≡ Some true
same_a_b = (λ i. same_by (width_not_a i) (width_b i))
    ∙ (λ i. together (pointwise beq) (all_of (not_a_bit 2 0 i ∷ not_a_bit 2 1 i ∷ [])) (all_of (b_bit 2 0 i ∷ b_bit 2 1 i ∷ [])))

equal_at : (count place : ℕ) → assigned_bit nets values count equal place ≡ one_bit (Some true) place
equal_at count place =
    assigned nets values count equal 1 place width_equal ∙ bits-Binary nets values binary.Eq not_a (name b) (max count 1) place
    ∙ ap (λ bit. one_bit bit place) same_a_b

pub compares_short : bits 1 equal (0 ∷ []) ≡ Some true ∷ []
compares_short i = equal_at 1 0 i ∷ []

pub compares_long : bits 4 equal (0 ∷ 1 ∷ []) ≡ Some true ∷ Some false ∷ []
compares_long i = equal_at 4 0 i ∷ equal_at 4 1 i ∷ []

-- ---- selects

abbrev middle : Range
middle = record { left = 1; right = 2 }

abbrev against : Range
against = record { left = 2; right = 1 }

second : assigned_bit nets values 1 (expr.Bit 0 r 2) 0 ≡ Some true
second = assigned nets values 1 (expr.Bit 0 r 2) 1 0 (width-Bit (range_of nets) 0 r 2) ∙ bits-Bit nets values 0 r 2 1 0

pub second_bit : bits 1 (expr.Bit 0 r 2) (0 ∷ []) ≡ Some true ∷ []
second_bit i = second i ∷ []

part_at : (part : Range) → width nets (expr.Part 0 r part) ≡ Some 2 → (place : ℕ) → assigned_bit nets values 1 (expr.Part 0 r part) place
    ≡ selected_bit values (part_bits nets r part) place
part_at part wide place = assigned nets values 1 (expr.Part 0 r part) 2 place wide ∙ bits-Part nets values 0 r part 2 place

pub part_is : bits 1 (expr.Part 0 r middle) (0 ∷ 1 ∷ []) ≡ Some true ∷ Some false ∷ []
part_is i =
    part_at middle (width-Part (range_of nets) 0 r middle) 0 i ∷ part_at middle (width-Part (range_of nets) 0 r middle) 1 i ∷ []

pub no_part : bits 1 (expr.Part 0 r against) (0 ∷ []) ≡ None ∷ []
no_part i = part_at against (width-Part (range_of nets) 0 r against) 0 i ∷ []

-- ---- left sides and names

inner_bits : left_bits nets (left.Join (left.Whole 0 b ∷ left.Bit 0 (codes "y") 3 ∷ []))
    ≡ bit_of (codes "y") 3 ∷ bit_of b 0 ∷ bit_of b 1 ∷ []
inner_bits =
    left-Join nets (left.Whole 0 b ∷ left.Bit 0 (codes "y") 3 ∷ [])
    ∙ (λ i. beside (left-Whole nets 0 b i ∷ left-Bit nets 0 (codes "y") 3 i ∷ []))

pub nested_bits : left_bits nets nested ≡ bit_of (codes "y") 3 ∷ bit_of b 0 ∷ bit_of b 1 ∷ bit_of a 0 ∷ []
nested_bits =
    left-Join nets (left.Whole 0 a ∷ left.Join (left.Whole 0 b ∷ left.Bit 0 (codes "y") 3 ∷ []) ∷ [])
    ∙ (λ i. beside (left-Whole nets 0 a i ∷ inner_bits i ∷ []))
