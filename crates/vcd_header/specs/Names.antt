-- The number of a scope, where scopes are kept by the scopes that they stand in and by their names.
use Rattle.std.specs.Prelude.{ℕ, ◌&&◌, nat_eq, Bool, List, Option}
use Rattle.std.specs.HashMap.{get}
use Rattle.std.specs.Option.{option_eq}
use Rattle.std.specs.Str.{bytes_eq}
use denote.Ref.{Bor}
use Rattle.vcd_header.specs.declared.names.Names.{Names}

-- the number of the scope that it stands in, if it stands in one, and its name
abbrev pub Place : Type 0
Place = Option ℕ × Bor (List ℕ)

abbrev pub same_place : Place → Place → Bool
same_place left right = option_eq nat_eq left.0 right.0 && bytes_eq left.1.now right.1.now

abbrev pub number_in : Names → Place → Option ℕ
number_in names place = get same_place names.numbers place
