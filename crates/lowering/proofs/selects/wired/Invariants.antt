use Rattle.std.proofs.Common.{◌≡◌, ◌++◌, ◌+◌, ◌-◌, map}
use Rattle.std.specs.List.{range_with_len}
use Rattle.lowering.proofs.selects.wired.Given as goal

-- The edges so far, and those of the bits that are left, make the whole.
abbrev pub invariant-loop-bit : goal.invariant-loop-bit
invariant-loop-bit g l =
    l.edges ++ map (g.S.Scope.wires l.scope l.name) (range_with_len l.bit (l.fn.low + l.width - l.bit))
    ≡ map (g.S.Scope.wires l.scope l.name) (range_with_len l.fn.low l.width)
