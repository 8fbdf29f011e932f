-- What a shelf holds: bytes under names.
use Rattle.std.specs.Prelude.{◌≡◌, ◌⊎◌, ◌≤◌, ℕ, List, [], ◌++◌, Option, length, take, drop, unwrap_or, min, ◌-◌}
use Rattle.std.specs.Option.{option_map}
use Rattle.std.specs.Ordering.{nat_cmp}
use Rattle.std.specs.Cmp.Lexicographic.{slice_cmp}
use Rattle.std.specs.FinMap.{FinMap, code, get, insert}
use Rattle.std.specs.Coded.{Coded, coded_ℕ, coded_list}

-- the bytes under each name that is there
abbrev pub Held : Type 0
Held = FinMap (slice_cmp nat_cmp) (List ℕ)

abbrev pub held_code : Coded Held
held_code = code (coded_list coded_ℕ) (coded_list coded_ℕ)

-- A name that is not there counts as empty.
abbrev pub bytes_under : Held → List ℕ → List ℕ
bytes_under held name = unwrap_or (get held name) []

-- with these bytes under the name
abbrev pub holding : List ℕ → List ℕ → Held → Held
holding name bytes held = insert held name bytes

-- with the piece at the end of the bytes under the name
abbrev pub appended : List ℕ → List ℕ → Held → Held
appended name piece held = holding name (bytes_under held name ++ piece) held

-- The first `count` bytes of the buffer are those from `at` on, and there are none only at or past the end, or for no
-- room.
pub record Reads (bytes : List ℕ) (at count : ℕ) (buffer : List ℕ) : Type 0 where
  pub same : take count buffer ≡ take count (drop at bytes)
  pub there : count ≤ length (drop at bytes)
  pub none : count ≡ 0 → (length bytes ≤ at) ⊎ (length buffer ≡ 0)

-- The buffer's front has become the bytes from `at` on, as many as there are and fit, and the rest of it is as before.
pub record Fills (bytes : List ℕ) (at count : ℕ) (old new : List ℕ) : Type 0 where
  pub most : count ≡ min (length old) (length bytes - at)
  pub buffer : new ≡ take count (drop at bytes) ++ drop count old

-- All is as before, or a prefix of the piece stands at the end of the bytes under the name.
abbrev pub GainsPrefix : List ℕ → List ℕ → Option Held → Option Held → Type 0
GainsPrefix name piece old new = (new ≡ old) ⊎ ((kept : ℕ) × (new ≡ option_map (appended name (take kept piece)) old))
