use Rattle.std.proofs.Common.{◌≡◌, drop, fold, flat_map, ◌++◌}
use Rattle.name_rules.specs.Declarations.{implicit_things, own_things}
use Rattle.name_rules.specs.Owners.{kept_in, take_thing, walk}
use Rattle.name_rules.proofs.owners.note_shared_names.Given as goal

abbrev pub invariant-loop-item : goal.invariant-loop-item
invariant-loop-item l = record {
  same : fold (take_thing l.nets) (walk l.found (kept_in l.owners)) (flat_map (λ i. own_things i ++ implicit_things l.nets i) (drop l.item-index l.item-items))
      ≡ fold (take_thing l.nets) (walk l.initial.found (kept_in l.initial.owners)) (flat_map (λ i. own_things i ++ implicit_things l.nets i) l.item-items);
}
