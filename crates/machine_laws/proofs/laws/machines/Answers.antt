use Rattle.machine_laws.proofs.NextLemmas.{machines_same}
use Rattle.machine_laws.proofs.laws.machines.Goals as goal

pub returns : goal.returns
returns c = λ setting m clocked top is few free.
    machines_same c.loop_free.ensures setting clocked few free
    (c.next.ensures setting clocked.sound clocked.grammar clocked.top clocked.is_top clocked.apart clocked.clock).count
    m top is
    (c.values.ensures setting clocked.sound clocked.grammar clocked.top clocked.is_top clocked.apart clocked.clock)
