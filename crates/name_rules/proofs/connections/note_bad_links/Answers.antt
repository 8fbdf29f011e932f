use Rattle.std.proofs.Common.{◌∙◌}
use Rattle.name_rules.specs.Ports.{state_in}
use Rattle.name_rules.proofs.PortLemmas.{kept_step, links_step}
use Rattle.name_rules.proofs.connections.note_bad_links.Goals as goal

pub loop-link-preserved : goal.loop-link-preserved
loop-link-preserved c = record {
  same = links_step c.args.m.now c.args.inner.now c.args.links.now c.loop-link.link-index c.link-item.result c.loop-link-test.true c.link-item.is
      (state_in c.loop-link.ports) c.loop-link.invariant.kept c.loop-link.found c.connect.new.found c.in_ok-connect.ensures.found
      ∙ c.loop-link.invariant.same;
  kept = kept_step c.args.inner.now.ports c.args.links.now c.loop-link.link-index c.link-item.result c.loop-link-test.true c.link-item.is
      (state_in c.loop-link.ports) (state_in c.connect.new.self) c.loop-link.invariant.kept c.in_ok-connect.ensures.named;
}
