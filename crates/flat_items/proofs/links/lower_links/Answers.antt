use Rattle.std.proofs.Common.{arith}
use Rattle.std.specs.List.{enumerate_from}
use Rattle.flat_design.specs.Items.{each, link_given}
use Rattle.flat_items.specs.Linked.{LinksTo}
use Rattle.flat_items.proofs.CarryLemmas.{found_at, passed_on}
use Rattle.flat_items.proofs.LinkLemmas.{links_end, links_fail, links_turn}
use Rattle.flat_items.proofs.links.lower_links.Goals as goal

pub returns-in_err-lower_link-clause-fault : goal.returns-in_err-lower_link-clause-fault
returns-in_err-lower_link-clause-fault c =
    let frame = c.args.frame.now in
    let inner = c.args.inner.now in
    let links = c.args.links.now in
    let i = c.loop-i.i in
    let link = c.index-links-i.result in
    let fault = c.in_err-lower_link.field-0.0 in
    passed_on (LinksTo frame inner (λ setting instance child. each (link_given setting instance child) (enumerate_from 0 links)) c.args.nodes.now)
    c.from_residual.result fault c.from_residual.ensures.1
    (links_fail frame inner links i link (found_at links i link (omega arith) c.index-links-i.is) c.loop-i.nodes c.args.nodes.now
    c.loop-i.driven c.args.driven.now fault c.loop-i.invariant c.in_err-lower_link.ensures.fault)

pub loop-i-preserved : goal.loop-i-preserved
loop-i-preserved c =
    let links = c.args.links.now in
    let i = c.loop-i.i in
    let link = c.index-links-i.result in
    links_turn c.args.frame.now c.args.inner.now links i link (found_at links i link (omega arith) c.index-links-i.is) c.loop-i.nodes
    c.lower_link.new.nodes c.args.nodes.now c.loop-i.driven c.lower_link.new.driven c.args.driven.now c.loop-i.invariant
    c.in_ok-lower_link.ensures.given

pub returns-clause-given : goal.returns-clause-given
returns-clause-given c =
    links_end c.args.frame.now c.args.inner.now c.args.links.now c.loop-i.i (omega arith) c.loop-i.nodes c.args.nodes.now
    c.loop-i.driven c.args.driven.now c.loop-i.invariant
