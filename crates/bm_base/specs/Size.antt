-- What each limit is, and the word that it is printed by.
use Rattle.std.specs.Prelude.{ℕ, List, codes}
use Rattle.bm_base.specs.declared.size.Size.{Size}
use Rattle.bm_base.specs.declared.size.Size.TheVariants.{Netlist, Instances, Nodes, Registers, Inputs, Waveform, Cycles, Bits, States, Certificate, Window}

-- the greatest count that is accepted: bytes of a file, counts of a design, rows of a waveform and their products
abbrev pub limit_of : Size → ℕ
limit_of Netlist = 16777216
limit_of Instances = 1048576
limit_of Nodes = 1048576
limit_of Registers = 65536
limit_of Inputs = 4096
limit_of Waveform = 268435456
limit_of Cycles = 1000000
limit_of Bits = 1073741824
limit_of States = 4294967296
limit_of Certificate = 536870912
limit_of Window = 4194304

abbrev pub name_of_size : Size → List ℕ
name_of_size Netlist = codes "netlist"
name_of_size Instances = codes "instances"
name_of_size Nodes = codes "nodes"
name_of_size Registers = codes "registers"
name_of_size Inputs = codes "inputs"
name_of_size Waveform = codes "waveform"
name_of_size Cycles = codes "cycles"
name_of_size Bits = codes "bits"
name_of_size States = codes "states"
name_of_size Certificate = codes "certificate"
name_of_size Window = codes "window"
