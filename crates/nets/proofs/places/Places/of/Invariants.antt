use Rattle.std.proofs.Common.{◌≡◌, drop}
use Rattle.std.specs.Option.{option_or}
use Rattle.vlog_tree.specs.Meaning.Uses.{Text}
use Rattle.nets.specs.Kept.{place_in_map}
use Rattle.nets.specs.Used.{first_place, shown}
use Rattle.nets.proofs.places.Places.of.Given as goal

abbrev pub invariant-loop-one : goal.invariant-loop-one
invariant-loop-one l = record {
  same : (name : Text) → option_or (place_in_map l.places name) (first_place name (shown (drop l.one-index l.uses))) ≡ first_place name (shown l.uses);
}
