-- Where a string ends.
use Rattle.std.specs.Prelude.{◌≡◌, ℕ, zero, suc, ◌+◌, ◌<◌, ◌≤◌, ◌==◌, ◌&&◌, not, Bool, true, false, List, length, slice_index}

-- whether a backslash takes the byte that stands so many bytes after this place: the byte before is a backslash that is
-- not taken itself
abbrev pub is_taken : List ℕ → ℕ → ℕ → Bool
is_taken source from zero = false
is_taken source from (suc n) = slice_index source (from + n) == 92 && not (is_taken source from n)

-- whether a quote that ends the string stands there
abbrev pub is_quote : List ℕ → ℕ → ℕ → Bool
is_quote source from n = slice_index source (from + n) == 34 && not (is_taken source from n)

-- The string whose first byte after the quote stands at `from` ends before `to`: at the first quote that no backslash
-- takes, on the same line.
pub record IsString (source : List ℕ) (from to : ℕ) : Type 0 where
  pub size : ℕ
  pub ends : to ≡ from + size + 1
  pub within : to ≤ length source
  pub quote : is_quote source from size ≡ true
  pub first : (k : ℕ) → k < size → is_quote source from k ≡ false
  pub line : (k : ℕ) → k < size → slice_index source (from + k) ≡ 10 → ⊥
