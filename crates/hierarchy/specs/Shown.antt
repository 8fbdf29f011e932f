-- What the values of this crate say in the words of the definitions.
use Rattle.std.specs.Prelude.{ℕ, Bool, false, Option, None, Some, nat_lt, not}
use Rattle.hierarchy.specs.Failures.{Failure}
use Rattle.hierarchy.specs.declared.failure.Failure.{Failure as FailureValue}

abbrev pub shown : FailureValue → Failure
shown value = record { at = value.at; module_name = value.module_name.now; name = value.name.now }

-- whether one stands at the place or before it
abbrev pub is_settled : Option Failure → ℕ → Bool
is_settled None at = false
is_settled (Some found) at = not (nat_lt at found.at)
