use Rattle.std.proofs.Common.{◌≡◌, ℕ, Bor, List, Option, Some, ap, sym, ◌∙◌}
use Rattle.std.specs.Option.{option_map}
use Rattle.flat_design.specs.Items.{link_given}
use Rattle.flat_items.specs.Linked.{Links}
use Rattle.flat_items.proofs.CarryLemmas.{on_ok}
use Rattle.flat_items.proofs.LinkLemmas.{link_to}
use Rattle.vlog_tree.specs.Meaning.Instances.{port_of}
use Rattle.flat_items.proofs.links.lower_link.Goals as goal

pub returns-in-Some-clause-given : goal.returns-in-Some-clause-given
returns-in-Some-clause-given c =
    let frame = c.args.frame.now in
    let inner = c.args.inner.now in
    let place = c.args.place in
    let link = c.args.link.now in
    let port = c.in-Some.port.now in
    let shown : Option (Bor (List ℕ)) → Option (List ℕ) = option_map (λ port. port.now) in
    let is : Some port ≡ port_of inner.placing.definition (place, link) =
    ap shown (sym c.in-Some.is) ∙ c.port_of.ensures
    ∙ ap (λ m. port_of m (place, link)) (c.module.ensures ∙ c.nets.ensures ∙ ap (λ it. it.definition) c.places.ensures) in
    on_ok _ (Links frame inner (λ setting instance child. link_given setting instance child (place, link)) c.args.nodes.now
    c.lower_to.new.nodes c.args.driven.now c.lower_to.new.driven) c.lower_to.result c.lower_to.ensures.given
    (link_to frame inner place link port is c.args.nodes.now c.lower_to.new.nodes c.args.driven.now c.lower_to.new.driven)
