use Rattle.std.proofs.Common.{◌≡◌, ◌<◌, ℕ, subst}
use Rattle.lowering.specs.Wiring.{edge_in}
use Rattle.vlog_tree.specs.Meaning.Keys.{bit_count}
use Rattle.vlog_tree.specs.Meaning.Uses.{Text}
use Rattle.frames.specs.Framed.{wires_of}
use Rattle.frames.proofs.frame.FrameScope.wire.Goals as goal

pub returns-clause-edges : goal.returns-clause-edges
returns-clause-edges c =
    let P : Text → Type 0 = λ name. (bit : ℕ) → bit < bit_count c.args.self.now.placing.definition name
    → wires_of c.args.self.now name bit ≡ edge_in c.wire_of.result bit in
    subst P c.bytes.ensures c.wire_of.ensures.edges
