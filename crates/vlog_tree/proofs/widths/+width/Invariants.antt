use Rattle.std.specs.Prelude.{◌≡◌, ℕ, ◌+◌, ◌≤◌, List, Option, drop, map, min, option_map, sum}
use Rattle.vlog_tree.specs.Meaning.Widths.{all_of, greatest, width_by}
use Rattle.vlog_tree.proofs.widths.+width.Given as goal

-- so much and these widths, where there is each
abbrev total_from : ℕ → Option (List ℕ) → Option ℕ
total_from total widths = option_map (λ widths. min (total + sum widths) (greatest + 1)) widths

-- The total so far and the widths of the parts that are left make the whole.
abbrev pub invariant-total-loop-part : goal.invariant-total-loop-part
invariant-total-loop-part g l =
    let width = width_by (g.R.Ranges.ranges l.ranges) in
    (l.total ≤ greatest + 1)
    × (total_from l.total (all_of (map width (drop l.part-index l.parts)))
    ≡ option_map (λ widths. min (sum widths) (greatest + 1)) (all_of (map width l.parts)))
