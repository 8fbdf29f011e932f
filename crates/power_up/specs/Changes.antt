-- What items change of the bits at power-up.
use Rattle.std.specs.Prelude.{ℕ, ◌≡◌, List, [], ◌∷◌, ◌++◌, Bool, false, Option, None, bytes_eq, cond, length, map, slice_index_or, unwrap_or}
use Rattle.std.specs.List.{range_with_len}
use Rattle.vlog_tree.specs.declared.design.Module.{Module}
use Rattle.vlog_tree.specs.declared.expr.Expr.{Expr}
use Rattle.vlog_tree.specs.declared.item.Item.{Item}
use Rattle.vlog_tree.specs.Meaning.Expressions.{assigned_bit}
use Rattle.vlog_tree.specs.Meaning.Keys.{bit_count}
use Rattle.vlog_tree.specs.Meaning.Lefts.{Bit}
use Rattle.vlog_tree.specs.Meaning.Step.{initial_of, no_names}
use Rattle.vlog_tree.specs.Meaning.Uses.{Text}
use Rattle.numbering.specs.Bits.{register_bits}

-- the values of bits
abbrev pub Values : Type 0
Values = Bit → Bool

-- what an item gives, and else the value before it
abbrev pub after_item : Module → Item → Values → Values
after_item m item value bit = unwrap_or (initial_of m bit item) (value bit)

-- The first item that gives a bit counts.
abbrev pub after_items : Module → List Item → Values → Values
after_items m [] value bit = value bit
after_items m (item ∷ items) value bit = after_item m item (after_items m items value) bit

-- the bit that a register of this name is given by a value
abbrev pub given : Module → Text → Expr → Bit → Option Bool
given m name value bit = cond (bytes_eq name bit.name) (assigned_bit m no_names (bit_count m name) value bit.place) None

abbrev pub after_value : Module → Text → Expr → Values → Values
after_value m name given_value value bit = unwrap_or (given m name given_value bit) (value bit)

-- by a number, above whose bits there are zeros
abbrev pub after_number : Text → List Bool → Values → Values
after_number name number value bit = cond (bytes_eq name bit.name) (slice_index_or number bit.place false) (value bit)

abbrev pub is_of : Text → Bit → Bool
is_of name bit = bytes_eq name bit.name

-- The bits of a module's registers, which stand from `first` on, are changed so, and all others stay.
abbrev pub Changes : Module → ℕ → (Values → Values) → List Bool → List Bool → Type 0
Changes m first change old new = (before behind : List Bool) (value : Values)
    → old ≡ before ++ (map value (register_bits m) ++ behind) → first ≡ length before
    → new ≡ before ++ (map (change value) (register_bits m) ++ behind)

-- the bits of a number, so many
abbrev pub number_bits : ℕ → List Bool → List Bool
number_bits count number = map (λ place. slice_index_or number place false) (range_with_len 0 count)

-- So many bits from `start` on are now those of the number, and all others stay.
abbrev pub SetsBits : ℕ → ℕ → List Bool → List Bool → List Bool → Type 0
SetsBits start count number old new = (before here behind : List Bool) → old ≡ before ++ (here ++ behind) → start ≡ length before
    → count ≡ length here → new ≡ before ++ (number_bits count number ++ behind)
