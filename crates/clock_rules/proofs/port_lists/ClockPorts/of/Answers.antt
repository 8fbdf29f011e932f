use Rattle.nets.specs.Nets.{nets}
use Rattle.clock_rules.specs.Clocks.{clock_ports, is_clock_port}
use Rattle.clock_rules.proofs.ListLemmas.{name_kept}
use Rattle.clock_rules.proofs.port_lists.ClockPorts.of.Goals as goal

pub loop-i-preserved : goal.loop-i-preserved
loop-i-preserved c =
    let design = c.args.uses.now.design in
    let top = c.args.uses.now.top in
    let m = c.args.nets.now in
    record {
      same = name_kept (is_clock_port design top m) (nets m) c.loop-i.i (c.entry_at.result.0.now, c.entry_at.result.1.now) c.entry_at.ensures.entry
          c.loop-i.ports c.add.new.self (clock_ports design top m) c.in_ok-add.ensures c.loop-i.invariant.same;
    }
