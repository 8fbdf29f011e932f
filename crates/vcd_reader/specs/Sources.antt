-- Where bits come from, as contracts see it.
use Rattle.std.specs.Prelude.{List}
use Rattle.vcd_header.specs.Matching.{Source}

-- the sources of the clock and of the inputs
pub record Clocked : Type 0 where
  pub clock : Source
  pub inputs : List Source
