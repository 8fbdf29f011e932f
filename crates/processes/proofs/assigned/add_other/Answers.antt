use Rattle.std.proofs.Common.{ap, sym}
use Rattle.std.specs.Option.{option_map}
use Rattle.processes.specs.Statements.{other_process, process_of}
use Rattle.processes.proofs.AddLemmas.{adds_same, adds_shown, on_ok}
use Rattle.processes.proofs.assigned.add_other.Goals as goal

pub returns-in-Some : goal.returns-in-Some
returns-in-Some c =
    let m = c.args.places.now.definition in
    on_ok _ _ c.add_assigned.result c.add_assigned.ensures
    (λ adds wires. adds_same m c.args.numbers.now c.add_assigned.new.numbers (process_of m wires c.in-Some.other).assigns _
    (ap (λ other. (other_process (option_map (process_of m wires) other)).assigns) (sym c.in-Some.is))
    (adds_shown m c.args.numbers.now c.add_assigned.new.numbers wires c.get.result.now c.in-Some.other c.get.ensures (adds wires)))
