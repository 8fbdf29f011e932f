use Rattle.std.proofs.Common.{◌≡◌, ◌<◌, ℕ, ap, subst, sym, ◌∙◌, false, is_some}
use Rattle.flat_net.specs.Edges.{zero_edge}
use Rattle.lowering.specs.Wiring.{edge_in}
use Rattle.vlog_tree.specs.Meaning.Keys.{bit_count}
use Rattle.vlog_tree.specs.Meaning.Ranges.{range_of}
use Rattle.numbering.specs.Places.{IsPlace}
use Rattle.frames.specs.Framed.{Framed, framed, wire_of, wires_of}
use Rattle.frames.proofs.FrameLemmas.{edges_are, no_bits}
use Rattle.frames.proofs.frame.Frame.wire_of.Goals as goal

pub returns-in-Some-clause-edges : goal.returns-in-Some-clause-edges
returns-in-Some-clause-edges c =
    let own : Framed = framed c.self.inside.places.now c.self.inside.first_register c.self.inside.first_driven c.self.inside.inputs
    c.self.inside.registers in
    let P : Framed → Type 0 = λ it. (bit : ℕ) → bit < bit_count it.placing.definition c.args.name.now
    → wires_of it c.args.name.now bit ≡ edge_in (wire_of it c.in-Some.place) bit in
    let is : IsPlace own.placing c.args.name.now c.in-Some.place = c.in-Some.ensures.place in
    λ bit few.
    subst P c.self.view_is (λ bit few. edges_are own c.self.invariant c.args.name.now bit few c.in-Some.place is) bit few
    ∙ ap (λ wire. edge_in wire bit) (sym c.wire_at.ensures)

pub returns-in-None-clause-edges : goal.returns-in-None-clause-edges
returns-in-None-clause-edges c =
    let own : Framed = framed c.self.inside.places.now c.self.inside.first_register c.self.inside.first_driven c.self.inside.inputs
    c.self.inside.registers in
    let P : Framed → Type 0 = λ it. (bit : ℕ) → bit < bit_count it.placing.definition c.args.name.now
    → wires_of it c.args.name.now bit ≡ zero_edge in
    let none : false ≡ is_some (range_of own.placing.definition c.args.name.now) = c.in-None.ensures.found in
    subst P c.self.view_is (λ bit few. absurd (no_bits own.placing.definition c.args.name.now bit none few))
