-- Which calls of one kind are to fail.
use Rattle.std.specs.Prelude.{ℕ, List, [], ◌∷◌, Option, ◌==◌, refl}
use Rattle.std.specs.Coded.{Coded, code_by, coded×, coded_ℕ, coded_list}
use Rattle.std.specs.Map.{lookup}
use Rattle.bm_base.specs.Counts.{up}

-- how many calls there were, and the planned failures, the newest first: the call, counted from 0, and how many bytes
-- it keeps
pub record Calls : Type 0 where
  pub asked : ℕ
  pub plan : List (ℕ × ℕ)

abbrev pub calls_code : Coded Calls
calls_code =
    code_by (ℕ × List (ℕ × ℕ)) (coded× coded_ℕ (coded_list (coded× coded_ℕ coded_ℕ))) (λ c. (c.asked, c.plan))
    (λ p. record { asked = p.0; plan = p.1 }) (λ _. refl)

abbrev pub no_calls : Calls
no_calls = record { asked = 0; plan = [] }

-- how many bytes the next call keeps, if it is to fail
abbrev pub planned : Calls → Option ℕ
planned calls = lookup (λ nth. nth == calls.asked) calls.plan

-- with one more call to fail
abbrev pub planning : ℕ → ℕ → Calls → Calls
planning nth keep calls = record calls { plan = (nth, keep) ∷ calls.plan }

-- with one more call counted
abbrev pub passed : Calls → Calls
passed calls = record calls { asked = up calls.asked }
