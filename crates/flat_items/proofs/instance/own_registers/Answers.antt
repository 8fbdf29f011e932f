use Rattle.std.proofs.Common.{◌≡◌, ◌+◌, ◌++◌, ℕ, [], ◌∷◌, ap, arith, length, sym, ◌∙◌}
use Rattle.flat_items.proofs.EdgeLemmas.{one_bit}
use Rattle.flat_items.proofs.InstanceLemmas.{own_are}
use Rattle.flat_net.specs.Edges.{plain}
use Rattle.numbering.specs.Places.{placed_registers}
use Rattle.flat_items.proofs.instance.own_registers.Goals as goal

pub loop-place-preserved : goal.loop-place-preserved
loop-place-preserved c =
    let wires = λ (place : ℕ). plain (c.first_register-first.result + place) in
    c.in_ok-push.ensures.ok ∙ (λ j. c.loop-place.invariant j ++ c.plain.ensures j ∷ []) ∙ sym (one_bit wires c.loop-place.place)

pub returns-clause-edges : goal.returns-clause-edges
returns-clause-edges c setting place instance is =
    let first = c.first_register-first.result in
    c.loop-place.invariant
    ∙ own_are c.args.frame.now first c.first_register-first.ensures.edges c.loop-place.place
    (let end : c.loop-place.place ≡ c.registers-place-end.result = omega arith in
    end ∙ c.registers-place-end.ensures.count ∙ ap (λ placing. length (placed_registers placing)) c.places.ensures) setting place instance is
