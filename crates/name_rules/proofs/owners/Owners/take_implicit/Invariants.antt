use Rattle.std.proofs.Common.{◌≡◌, drop, fold}
use Rattle.nets.specs.Used.{shown}
use Rattle.name_rules.specs.Owners.{implicit_among, kept_in, take_thing, walk}
use Rattle.name_rules.proofs.owners.Owners.take_implicit.Given as goal

abbrev pub invariant-loop-one : goal.invariant-loop-one
invariant-loop-one l = record {
  same : fold (take_thing l.nets) (walk l.found (kept_in l.self)) (implicit_among l.nets (shown (drop l.one-index l.uses)))
      ≡ fold (take_thing l.nets) (walk l.initial.found (kept_in l.initial.self)) (implicit_among l.nets (shown l.uses));
}
