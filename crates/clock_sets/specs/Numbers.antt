-- Names by numbers: each name of each module has the place at which it stands first among all of them.
use Rattle.std.specs.Prelude.{ℕ, ◌+◌, ◌<◌, ◌^◌, ◌≡◌, List, [], ◌∷◌, Option, length, position}
use Rattle.nets.specs.Nets.{nets}
use Rattle.vlog_tree.specs.declared.design.Module.{Module}
use Rattle.clock_sets.specs.Passing.{Signal, same_signal, signals}

abbrev pub number_of : List Module → Signal → Option ℕ
number_of modules one = position (same_signal one) (signals modules)

-- the number of each module's first name, where the first of them has this one
abbrev pub starts_from : ℕ → List Module → List ℕ
starts_from start [] = []
starts_from start (m ∷ modules) = start ∷ starts_from (start + length (nets m)) modules

-- what is kept of the modules
pub record IsNumbered (modules : List Module) (starts : List ℕ) (count : ℕ) : Type 0 where
  pub starts_are : starts ≡ starts_from 0 modules
  pub count_is : count ≡ length (signals modules)
  pub count_fits : count < 2 ^ 64
