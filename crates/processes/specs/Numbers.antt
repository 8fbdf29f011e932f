-- Bits of a module by their numbers among its register bits.
use Rattle.std.specs.Prelude.{ℕ, ◌+◌, ◌≡◌, ◌==◌, ◌||◌, List, [], ◌∷◌, Bool, false, Option, None, Some, cond, map, position, slice_index_or, slice_set}
use Rattle.std.specs.List.{list_any}
use Rattle.flat_net.specs.declared.edge.Edge.{Edge}
use Rattle.flat_net.specs.Edges.{zero_edge}
use Rattle.numbering.specs.Bits.{register_bits}
use Rattle.numbering.specs.declared.place.Place.{Place}
use Rattle.numbering.specs.declared.place.Place.TheVariants.{Register}
use Rattle.targets.specs.Numbers as targets
use Rattle.vlog_tree.specs.declared.design.Module.{Module}
use Rattle.vlog_tree.specs.Meaning.Lefts.{Bit, same_bit}

-- which of the register bits a bit is
abbrev pub number_among : Module → Bit → Option ℕ
number_among m bit = position (same_bit bit) (register_bits m)

abbrev pub numbers_of : Module → List Bit → List (Option ℕ)
numbers_of m bits = map (number_among m) bits

-- from the last to the first
abbrev pub numbers_down : Module → List Bit → List (Option ℕ)
numbers_down m bits = targets.numbers_down (number_among m) bits

-- the first number of a name at a place, if it is a register
abbrev pub in_registers : Place → Option ℕ
in_registers (Register first) = Some first
in_registers other = None

-- ---- writing

abbrev pub put : Option ℕ → Edge → List Edge → List Edge
put None edge current = current
put (Some number) edge current = slice_set current number edge

-- the last is written first: these, beginning with the edge at a place
abbrev pub written_from : ℕ → List (Option ℕ) → List Edge → List Edge → List Edge
written_from place [] edges current = current
written_from place (number ∷ numbers) edges current =
    put number (slice_index_or edges place zero_edge) (written_from (place + 1) numbers edges current)

abbrev pub written : List (Option ℕ) → List Edge → List Edge → List Edge
written numbers edges current = written_from 0 numbers edges current

abbrev pub edges_at : List ℕ → List Edge → List Edge
edges_at numbers current = map (λ number. slice_index_or current number zero_edge) numbers

-- ---- numbers that are assigned

abbrev pub is_number : ℕ → Option ℕ → Bool
is_number number None = false
is_number number (Some other) = number == other

-- Some of these is the number.
abbrev pub holds : ℕ → List (Option ℕ) → Bool
holds number numbers = list_any (is_number number) numbers

-- the places of the elements that pass a test, counted from one on
abbrev pub places_from : {X : Type 0} → (X → Bool) → ℕ → List X → List ℕ
places_from test place [] = []
places_from test place (x ∷ xs) = cond (test x) (place ∷ places_from test (place + 1) xs) (places_from test (place + 1) xs)

-- the numbers of the register bits that are among these, in their order
abbrev pub ordered_numbers : Module → List Bit → List ℕ
ordered_numbers m bits = places_from (λ bit. list_any (same_bit bit) bits) 0 (register_bits m)

-- To numbers are added those of bits.
abbrev pub Adds : Module → List Bit → List (Option ℕ) → List (Option ℕ) → Type 0
Adds m bits old new = (number : ℕ) → holds number new ≡ (holds number old || holds number (numbers_of m bits))
