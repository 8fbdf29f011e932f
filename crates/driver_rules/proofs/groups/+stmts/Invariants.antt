use Rattle.std.proofs.Common.{◌≡◌, ◌++◌, drop, flat_map, map}
use Rattle.driver_rules.specs.Doubles.{stmt_lefts}
use Rattle.driver_rules.specs.Groups.{GroupsAreNumbered, groups_shown}
use Rattle.driver_rules.proofs.groups.+stmts.Given as goal

-- What is there, and then what is left, is what was there, and then all.
abbrev pub invariant-add_stmts-loop-stmt : goal.invariant-add_stmts-loop-stmt
invariant-add_stmts-loop-stmt l = record {
  same : groups_shown l.groups ++ flat_map (λ lefts. lefts) (map (stmt_lefts l.nets) (drop l.stmt-index l.body)) ≡ groups_shown l.initial.groups ++ flat_map (λ lefts. lefts) (map (stmt_lefts l.nets) l.body);
  numbered : GroupsAreNumbered l.nets l.initial.groups → GroupsAreNumbered l.nets l.groups;
}
