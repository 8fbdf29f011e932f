-- Which variables stand in which scope, where scopes are known by the numbers of the first ones of their paths.
use Rattle.std.specs.Prelude.{◌≡◌, ℕ, ◌<◌, ◌==◌, Bool, false, List, [], length, map, slice_index, slice_index_or, Option, None, Some}
use Rattle.std.specs.Global.{Vec}
use Rattle.vcd_header.specs.Declares.{Declared, declares, firsts_of}
use Rattle.vcd_header.specs.Matching.{within}
use Rattle.vcd_header.specs.declared.declaration.Declaration.{Declaration}

-- whether the scope has this first number
abbrev pub is_at : List ℕ → ℕ → Option ℕ → Bool
is_at firsts number None = false
is_at firsts number (Some scope) = slice_index firsts scope == number

abbrev pub stands_at : List ℕ → ℕ → Declaration → Bool
stands_at firsts number declaration = is_at firsts number declaration.scope

abbrev pub list_at : List (Vec Declaration) → ℕ → List Declaration
list_at lists number = slice_index_or (map (λ (list : Vec Declaration). list.items) lists) number []

-- For each opened scope there is the number of the first of its path, and for each of these numbers there are the
-- variables that stand directly in that scope.
pub record IsTable (all : Declared) (firsts : List ℕ) (lists : List (Vec Declaration)) : Type 0 where
  pub firsts_are : firsts ≡ firsts_of all.scopes
  pub count : length lists ≡ length all.scopes
  pub own : (number : ℕ) → number < length all.scopes
      → map (declares all.scopes) (list_at lists (slice_index firsts number))
      ≡ within (slice_index_or all.scopes number []) all.variables
