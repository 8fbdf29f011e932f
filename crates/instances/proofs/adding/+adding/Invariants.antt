use Rattle.std.proofs.Common.{◌≡◌, ◌+◌, ◌≤◌, ◌++◌, ◌*◌, drop, flat_map, length, map, vec_items}
use Rattle.bm_base.specs.Size.{limit_of}
use Rattle.bm_base.specs.declared.size.Size.TheVariants.{Instances}
use Rattle.instances.specs.Adding.{placed_from}
use Rattle.instances.proofs.adding.+adding.Given as goal

abbrev pub decreases-add_instance : goal.decreases-add_instance
decreases-add_instance l = 2 * l.depth

abbrev pub decreases-add_instances : goal.decreases-add_instances
decreases-add_instances l = 2 * l.depth + 1

-- The list so far and the instances that are left make the whole.
abbrev pub invariant-add_instances-loop-place : goal.invariant-add_instances-loop-place
invariant-add_instances-loop-place l =
    let placed = placed_from (map vec_items l.graph) l.depth in
    record {
      added : l.list ++ flat_map placed (drop l.place-index l.places) ≡ l.initial.list ++ flat_map placed l.places;
      limited : length l.list ≤ limit_of Instances;
    }
