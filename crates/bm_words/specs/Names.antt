-- The names that a command gives.
use Rattle.std.specs.Prelude.{ℕ, Bool, List, Option}
use Rattle.std.specs.Option.{option_map}
use Rattle.bm_words.specs.declared.names.Names.{Names}
use Rattle.bm_words.specs.declared.names.Reset.{Reset}

-- the names of the top module, its clock and its checker; the name of the reset with its value where it is active, if one
-- is given; and for how many cycles the reset is held
pub record TopNames : Type 0 where
  pub top : List ℕ
  pub clock : List ℕ
  pub check : List ℕ
  pub reset : Option (List ℕ × Bool)
  pub reset_cycles : ℕ

-- the reset that was given, byte by byte
abbrev pub reset_of : Reset → List ℕ × Bool
reset_of reset = (reset.name.now, reset.active)

-- the names that were given, byte by byte
abbrev pub names_of : Names → TopNames
names_of names = record {
  top = names.top.now;
  clock = names.clock.now;
  check = names.check.now;
  reset = option_map reset_of names.reset;
  reset_cycles = names.reset_cycles;
}
