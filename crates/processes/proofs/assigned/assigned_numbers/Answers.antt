use Rattle.std.specs.Option.{option_map}
use Rattle.processes.specs.Statements.{other_process, process_of}
use Rattle.processes.proofs.AddLemmas.{both_ordered}
use Rattle.processes.proofs.assigned.assigned_numbers.Goals as goal

pub returns : goal.returns
returns c wires =
    let m = c.args.places.now.definition in
    both_ordered m (process_of m wires c.args.first.now).assigns (other_process (option_map (process_of m wires) c.args.other.now)).assigns
    c.new-numbers.result c.add_assigned.new.numbers c.add_other.new.numbers c.as_slice.result.now c.new-numbers.ensures
    (c.in_ok-add_assigned.ensures wires) (c.in_ok-add_other.ensures wires) c.as_slice.ensures
    c.in_ok-sorted.field-0.items c.in_ok-sorted.ensures.rises c.in_ok-sorted.ensures.same
