use Rattle.std.proofs.Common.{◌≡◌, drop, flat_map, map}
use Rattle.drives.specs.Given.{given_all}
use Rattle.flat_items.specs.Framing.{number_by}
use Rattle.flat_items.specs.declared.side.Side.TheVariants.{Inside}
use Rattle.flat_items.proofs.GateLemmas.{with_edge}
use Rattle.vlog_tree.specs.Meaning.Lefts.{left_bits}
use Rattle.flat_items.proofs.gate.give_outs.Given as goal

-- With the outputs that are left, these edges make the whole.
abbrev pub invariant-loop-out : goal.invariant-loop-out
invariant-loop-out l =
    given_all l.driven (with_edge l.edge (map (number_by Inside l.frame)
    (flat_map (left_bits l.frame.placing.definition) (drop l.out-index l.outs))))
    ≡ given_all l.initial.driven (with_edge l.edge (map (number_by Inside l.frame)
    (flat_map (left_bits l.frame.placing.definition) l.outs)))
