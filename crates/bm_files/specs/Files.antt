-- Whole files.
use Rattle.std.specs.Prelude.{◌≡◌, ◌⊎◌, ◌<◌, ◌≤◌, ℕ, List, Option, length, take, MatchOption, Vec}
use Rattle.std.specs.Option.{option_map}
use Rattle.std.specs.declared.alloc.Global.{Global}
use Rattle.bm_base.specs.Held.{Held, holding}

-- the file's bytes where they are no more than the limit, and None where they are more
abbrev pub IsWithin : ℕ → List ℕ → Option (Vec ℕ Global) → Type 0
IsWithin limit file found =
    MatchOption found (limit < length file) (λ bytes. (bytes.items ≡ file) × (length file ≤ limit))

-- The buffer's first `count` bytes are the file's, and either of the two ends there.
pub record Fills (file : List ℕ) (count : ℕ) (buffer : List ℕ) : Type 0 where
  pub same : take count buffer ≡ take count file
  pub there : count ≤ length file
  pub ends : (length buffer ≤ count) ⊎ (length file ≤ count)

-- All is as before, or the name holds a prefix of the text.
abbrev pub HoldsPrefix : List ℕ → List ℕ → Option Held → Option Held → Type 0
HoldsPrefix name text old new = (new ≡ old) ⊎ ((kept : ℕ) × (new ≡ option_map (holding name (take kept text)) old))
