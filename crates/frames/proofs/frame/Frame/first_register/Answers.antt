use Rattle.std.proofs.Common.{◌≡◌, ◌+◌, ℕ, Some, subst}
use Rattle.flat_net.specs.Edges.{plain}
use Rattle.numbering.specs.Places.{placed_registers}
use Rattle.vlog_tree.specs.Meaning.Lefts.{Bit, number_in}
use Rattle.frames.specs.Framed.{Framed, framed, wires_of}
use Rattle.frames.proofs.FrameLemmas.{register_wire}
use Rattle.frames.proofs.frame.Frame.first_register.Goals as goal

pub returns-clause-edges : goal.returns-clause-edges
returns-clause-edges c =
    let own : Framed = framed c.self.inside.places.now c.self.inside.first_register c.self.inside.first_driven c.self.inside.inputs
    c.self.inside.registers in
    let P : Framed → Type 0 = λ it. (bit : Bit) (place : ℕ) → number_in (placed_registers it.placing) bit ≡ Some place
    → wires_of it bit.name bit.place ≡ plain (1 + c.self.inside.inputs + c.self.inside.first_register + place) in
    subst P c.self.view_is (register_wire own c.self.invariant)
