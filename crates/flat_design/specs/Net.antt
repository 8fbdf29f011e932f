-- The flat netlist of a design is a net.
use Rattle.std.specs.Prelude.{◌<◌, length}
use Rattle.flat_net.specs.Nets.{IsNet}
use Rattle.vlog_tree.specs.Meaning.Setting.{Setting}
use Rattle.flat_design.specs.Flat.{flat}

abbrev pub FlatIsNet : Type 0
FlatIsNet = (setting : Setting) → length (flat setting).nodes < 4294967296 → IsNet (flat setting)
