use Rattle.std.proofs.Common.{◌∙◌}
use Rattle.name_rules.specs.Headers.{has_in}
use Rattle.name_rules.proofs.HeaderLemmas.{among_step, ports_step}
use Rattle.name_rules.proofs.header.Header.of.Goals as goal

pub loop-name-preserved : goal.loop-name-preserved
loop-name-preserved c = record {
  same =
      ports_step c.args.nets.now c.as_slice-name-items.result.now c.loop-name.name-index c.name-item.result c.loop-name-test.true c.name-item.is
      (has_in c.loop-name.header) c.loop-name.invariant.kept c.loop-name.found c.add.new.found c.in_ok-add.ensures.found
      ∙ c.loop-name.invariant.same;
  kept =
      among_step c.as_slice-name-items.result.now c.loop-name.name-index c.name-item.result c.loop-name-test.true c.name-item.is
      (has_in c.loop-name.header) (has_in c.add.new.self) c.loop-name.invariant.kept c.in_ok-add.ensures.added;
}
