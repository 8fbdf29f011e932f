use Rattle.std.proofs.Common.{◌≡◌, List, drop, map}
use Rattle.vcd_header.specs.Bits.{wanted_of}
use Rattle.vcd_header.specs.Declares.{declares}
use Rattle.vcd_header.specs.Matching.{source_of}
use Rattle.vcd_header.specs.Scopes.{Path}
use Rattle.vcd_header.proofs.source.source_among.Given as goal

abbrev pub invariant-loop-declaration : goal.invariant-loop-declaration
invariant-loop-declaration l = (paths : List Path)
    → source_of (map (declares paths) (drop l.declaration-index l.declarations)) (wanted_of l.bit) ≡ source_of (map (declares paths) l.declarations) (wanted_of l.bit)
