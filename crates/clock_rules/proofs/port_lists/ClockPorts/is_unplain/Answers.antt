use Rattle.std.proofs.Common.{ap, ◌∙◌}
use Rattle.std.specs.List.{list_any}
use Rattle.clock_rules.specs.Clocks.{is_unplain}
use Rattle.clock_rules.specs.Kept.{child_of_links, is_unplain_by, plain_in}
use Rattle.clock_rules.proofs.KeptLemmas.{unplain_among}
use Rattle.clock_rules.proofs.port_lists.ClockPorts.is_unplain.Goals as goal

pub returns : goal.returns
returns c =
    let connected = plain_in c.in_ok-connected.connected in
    let child = child_of_links c.args.inner.now c.args.links.now in
    c.has_unplain.ensures
    ∙ ap (list_any (λ port. is_unplain_by (connected port.now))) c.as_slice.ensures
    ∙ unplain_among c.args.nets.now c.args.inner.now c.args.links.now connected c.in_ok-connected.ensures c.self.inside.names
    ∙ ap (list_any (is_unplain c.args.nets.now child)) c.self.view_is
