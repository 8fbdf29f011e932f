use Rattle.std.proofs.Common.{ap, sym, ◌∙◌, ◌+◌, ◌∷◌, drop}
use Rattle.std.proofs.lemmas.List.{drop_more}
use Rattle.nets.specs.Nets.{net_of}
use Rattle.nets.specs.Placed.{entries_shown, placed}
use Rattle.nets.proofs.placing.place_ports.Goals as goal

pub loop-port-preserved : goal.loop-port-preserved
loop-port-preserved c = record {
  same =
      ap (λ entries. placed (net_of c.args.facts.now.m.now) entries (drop (c.loop-port.port-index + 1) c.as_slice-port-items.result.now)) c.in_ok-place_name.ensures
      ∙ ap (λ name. placed (net_of c.args.facts.now.m.now) (entries_shown c.loop-port.table.entries) (name ∷ drop (c.loop-port.port-index + 1) c.as_slice-port-items.result.now)) c.port-item.is
      ∙ ap (placed (net_of c.args.facts.now.m.now) (entries_shown c.loop-port.table.entries)) (sym (drop_more c.as_slice-port-items.result.now c.loop-port.port-index c.port-item.result c.loop-port-test.true))
      ∙ c.loop-port.invariant.same;
}
