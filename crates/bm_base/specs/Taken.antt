-- What a sink has taken.
use Rattle.std.specs.Prelude.{◌≡◌, ℕ, List, ◌++◌, Option, take}
use Rattle.std.specs.Option.{option_map}

-- A prefix of the piece was added.
abbrev pub TakesPrefix : List ℕ → Option (List ℕ) → Option (List ℕ) → Type 0
TakesPrefix piece old new = (kept : ℕ) × (new ≡ option_map (λ bytes. bytes ++ take kept piece) old)
