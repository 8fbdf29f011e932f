use Rattle.std.proofs.Common.{◌≡◌, ◌+◌, map}
use Rattle.std.specs.List.{range_with_len}
use Rattle.flat_net.specs.Edges.{plain}
use Rattle.flat_items.proofs.instance.own_registers.Given as goal

abbrev pub invariant-loop-place : goal.invariant-loop-place
invariant-loop-place l = l.edges ≡ map (λ place. plain (l.first + place)) (range_with_len 0 l.place)
