-- The longest run of bytes of a class.
use Rattle.std.specs.Prelude.{◌≡◌, ℕ, ◌<◌, ◌≤◌, true, false, List, length, slice_index}
use Rattle.vlog_tokens.specs.Classes.{is_in}
use Rattle.vlog_tokens.specs.declared.class.Class.{Class}

-- The bytes between these places are of the class, and the next, if there is one, isn't.
pub record IsRun (class : Class) (source : List ℕ) (from to : ℕ) : Type 0 where
  pub ordered : from ≤ to
  pub within : to ≤ length source
  pub each : (k : ℕ) → from ≤ k → k < to → is_in class (slice_index source k) ≡ true
  pub ends : to < length source → is_in class (slice_index source to) ≡ false
