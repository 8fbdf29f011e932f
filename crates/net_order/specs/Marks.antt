-- Marks on numbers, and lists of numbers.
use Rattle.std.specs.Prelude.{◌≡◌, ◌-◌, ◌<◌, ℕ, List, Bool, true, Some, length, slice_get}
use Rattle.std.specs.List.{count_by}

abbrev pub Marked : List Bool → ℕ → Type 0
Marked marks number = slice_get marks number ≡ Some true

-- no mark is taken back
abbrev pub Grows : List Bool → List Bool → Type 0
Grows old new = (number : ℕ) → Marked old number → Marked new number

abbrev pub mark_count : List Bool → ℕ
mark_count marks = count_by (λ mark. mark) marks

-- how many numbers have no mark
abbrev pub unmarked : List Bool → ℕ
unmarked marks = length marks - mark_count marks

-- the number stands in the list
abbrev pub Stands : List ℕ → ℕ → Type 0
Stands list number = (place : ℕ) × (slice_get list place ≡ Some number)

-- each number stands at one place at most
abbrev pub AreOnce : List ℕ → Type 0
AreOnce list = (first second number : ℕ) → slice_get list first ≡ Some number → slice_get list second ≡ Some number →
    first ≡ second

-- the list of numbers increases
abbrev pub Rising : List ℕ → Type 0
Rising list = (first second lower upper : ℕ) → slice_get list first ≡ Some lower → slice_get list second ≡ Some upper →
    first < second → lower < upper
