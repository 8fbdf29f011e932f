use Rattle.std.proofs.Common.{ap, subst, ◌∙◌, ◌<◌, ◌++◌, flat_map}
use Rattle.nets.specs.Nets.{nets}
use Rattle.elab.specs.Placed.{label_unless_clock}
use Rattle.elab.proofs.LabelLemmas.{labels_step, labels_told, width_within}
use Rattle.elab.proofs.labels.port_labels.Goals as goal

pub loop-place-init : goal.loop-place-init
loop-place-init c = record {
  same =
      ap (λ ports. ports ++ flat_map (label_unless_clock c.args.clock.now) (nets c.args.top.now)) c.new-ports.ensures
      ∙ labels_told c.args.top.now c.args.clock.now;
}

pub add_unless_clock-requires : goal.add_unless_clock-requires
add_unless_clock-requires c =
    width_within c.args.top.now c.args.clock.now c.entry_at.result.0.now c.entry_at.result.1.now c.entry_at.ensures.value (c.requires c.entry_at.result.0.now)

pub loop-place-preserved : goal.loop-place-preserved
loop-place-preserved c = record {
  same =
      labels_step c.args.top.now c.args.clock.now c.loop-place.place (c.entry_at.result.0.now, c.entry_at.result.1.now) c.loop-place.ports c.add_unless_clock.new.ports
      (subst (λ n. c.loop-place.place < n) c.len-place-end.ensures c.loop-place-test.true) c.entry_at.ensures.entry c.in_ok-add_unless_clock.ensures c.loop-place.invariant.same;
}
