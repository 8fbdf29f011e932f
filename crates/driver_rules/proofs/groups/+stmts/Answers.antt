use Rattle.driver_rules.specs.Doubles.{stmt_lefts}
use Rattle.driver_rules.specs.Groups.{GroupsAreNumbered, groups_shown}
use Rattle.driver_rules.proofs.SelectLemmas.{then_on_ok, walk_step}
use Rattle.driver_rules.proofs.groups.+stmts.Goals as goal

pub add_stmt-returns-in-Some-clause-numbered : goal.add_stmt-returns-in-Some-clause-numbered
add_stmt-returns-in-Some-clause-numbered t c =
    let m = c.args.nets.now in
    then_on_ok (GroupsAreNumbered m c.args.groups.now) (GroupsAreNumbered m c.add_stmt.new.groups) (GroupsAreNumbered m c.add_stmt-in-Some.new.groups) c.add_stmt-in-Some.result c.in_ok-add_stmt-in-If.ensures.numbered c.add_stmt-in-Some.ensures.numbered

pub add_stmts-loop-stmt-preserved : goal.add_stmts-loop-stmt-preserved
add_stmts-loop-stmt-preserved t c = record {
  same =
      walk_step (stmt_lefts c.args.nets.now) c.args.body.now c.loop-stmt.stmt-index c.stmt-item.result c.loop-stmt-test.true c.stmt-item.is
      (groups_shown c.loop-stmt.groups) (groups_shown c.add_stmt.new.groups) _ c.in_ok-add_stmt.ensures.shown c.loop-stmt.invariant.same;
  numbered = λ h. c.in_ok-add_stmt.ensures.numbered (c.loop-stmt.invariant.numbered h);
}
