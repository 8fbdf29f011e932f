use Rattle.std.proofs.Common.{◌≡◌, ◌||◌, drop, filter}
use Rattle.std.specs.List.{list_any}
use Rattle.vlog_tree.specs.Meaning.Names.{is_named}
use Rattle.vlog_tree.specs.Meaning.Uses.{Text}
use Rattle.nets.specs.Kept.{stands}
use Rattle.nets.specs.Used.{shown}
use Rattle.nets.proofs.standing.Standing.add_whole.Given as goal

abbrev pub invariant-loop-one : goal.invariant-loop-one
invariant-loop-one l = record {
  same : (name : Text) → (stands l.self name || list_any (is_named name) (filter (λ one. one.is_whole) (shown (drop l.one-index l.uses)))) ≡ (stands l.initial.self name || list_any (is_named name) (filter (λ one. one.is_whole) (shown l.uses)));
}
