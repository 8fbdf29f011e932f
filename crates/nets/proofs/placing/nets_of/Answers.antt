use Rattle.std.proofs.Common.{ap, ◌∙◌, filter_map}
use Rattle.vlog_tree.specs.Meaning.Names.{declared_name, implicit_names}
use Rattle.nets.specs.Nets.{net_of}
use Rattle.nets.specs.Placed.{entries_shown, placed}
use Rattle.nets.proofs.PlacedLemmas.{three_placed}
use Rattle.nets.proofs.placing.nets_of.Goals as goal

pub returns : goal.returns
returns c =
    let m = c.args.facts.now.m.now in
    three_placed (net_of m) m.ports (filter_map declared_name m.items) (implicit_names m)
    (entries_shown c.place_ports.new.table.entries) (entries_shown c.place_declared.new.table.entries) (entries_shown c.place_implicit.new.table.entries)
    (c.in_ok-place_ports.ensures ∙ ap (λ entries. placed (net_of m) (entries_shown entries) m.ports) c.new-table.ensures.empty) c.in_ok-place_declared.ensures c.in_ok-place_implicit.ensures
