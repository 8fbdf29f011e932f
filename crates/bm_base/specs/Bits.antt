-- Truth values packed in words of 64 bits, the lowest bit first.
use Rattle.std.specs.Prelude.{◌≡◌, ◌≢◌, ◌==◌, ℕ, ◌/◌, ◌%◌, ◌<◌, ◌≤◌, Bool, false, List, length, map, slice_index}
use Rattle.std.specs.Int.{bit_at, div_ceil}
use Rattle.std.specs.List.{range_with_len}

-- bit i of a word
abbrev pub bit_of : ℕ → ℕ → Bool
bit_of word i = bit_at word i == 1

-- value i is bit i mod 64 of word i / 64; the words past the last count as 0
abbrev pub value_at : List ℕ → ℕ → Bool
value_at words i = bit_of (slice_index words (i / 64)) (i % 64)

-- the first `len` values
abbrev pub values : List ℕ → ℕ → List Bool
values words len = map (value_at words) (range_with_len 0 len)

-- There are no more words than needed, and their bits from `len` on are 0.
pub record IsPacked (words : List ℕ) (len : ℕ) : Type 0 where
  pub word_count : length words ≡ div_ceil len 64
  pub unused : (i : ℕ) → len ≤ i → value_at words i ≡ false

-- One bit of a word is replaced, and no other of its 64.
pub record ReplacesBit (old new i : ℕ) (v : Bool) : Type 0 where
  pub here : bit_of new i ≡ v
  pub others : (k : ℕ) → k < 64 → k ≢ i → bit_of new k ≡ bit_of old k
