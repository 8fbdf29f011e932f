-- Bits that are read as they are.
use Rattle.std.proofs.Common.{◌≡◌, List, false, map}
use Rattle.std.proofs.lemmas.List.{map-id}
use Rattle.flat_net.specs.declared.edge.Edge.{Edge}
use Rattle.lowering.specs.Operators.{turned}

pub as_they_are : (bits : List Edge) → map (turned false) bits ≡ bits
as_they_are bits = map-id bits
