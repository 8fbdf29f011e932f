use Rattle.elab.specs.Settings.{setting_of}
use Rattle.netlists.specs.Faults.{IsFault}
use Rattle.netlists.proofs.ReadLemmas.{Laws, if_passed_on, is_planned, read_as, stopped}
use Rattle.netlists.proofs.netlist.read_netlist.Goals as goal

-- what the laws that are cited say
pub returns-in_err-design-clause-fault : goal.returns-in_err-design-clause-fault
returns-in_err-design-clause-fault c =
    if_passed_on (IsFault c.args.names.now c.args.bytes.now) c.from_residual.result c.in_err-design.field-0.0 c.from_residual.ensures.1
    (c.in_err-design.ensures.fault c.args.names.now)

pub returns-in_err-netlist_of-clause-fault : goal.returns-in_err-netlist_of-clause-fault
returns-in_err-netlist_of-clause-fault c =
    let laws : Laws = record {
      grammar = c.grammar_gives.ensures;
      ready = c.ready.ensures;
      reset = c.reset.ensures;
      writable = c.labels_are_writable.ensures;
      wide = c.rows_are_inputs.ensures;
      loops = c.loop_free.ensures;
      machines = c.machines.ensures;
    } in
    if_passed_on (IsFault c.args.names.now c.args.bytes.now) c.from_residual-in_err-netlist_of.result c.in_err-netlist_of.field-0.0
    c.from_residual-in_err-netlist_of.ensures.1
    (stopped laws c.args.names.now c.args.bytes.now c.in_ok-design.design c.in_ok-design.ensures.spelled c.in_ok-plan.ensures.kept
    c.in_err-netlist_of.field-0.0
    (c.in_err-netlist_of.ensures.stops (setting_of c.in_ok-design.design c.args.names.now)
    (is_planned laws c.args.names.now c.args.bytes.now c.in_ok-design.design c.in_ok-design.ensures.spelled c.in_ok-plan.ensures.kept
    c.in_ok-plan.plan c.in_ok-plan.ensures.plan)))

pub returns-clause-read : goal.returns-clause-read
returns-clause-read c =
    let laws : Laws = record {
      grammar = c.grammar_gives.ensures;
      ready = c.ready.ensures;
      reset = c.reset.ensures;
      writable = c.labels_are_writable.ensures;
      wide = c.rows_are_inputs.ensures;
      loops = c.loop_free.ensures;
      machines = c.machines.ensures;
    } in
    read_as laws c.args.names.now c.args.bytes.now c.in_ok-design.design c.in_ok-design.ensures.spelled c.in_ok-plan.ensures.kept
    c.in_ok-netlist_of.field-0
    (c.in_ok-netlist_of.ensures.made (setting_of c.in_ok-design.design c.args.names.now)
    (is_planned laws c.args.names.now c.args.bytes.now c.in_ok-design.design c.in_ok-design.ensures.spelled c.in_ok-plan.ensures.kept
    c.in_ok-plan.plan c.in_ok-plan.ensures.plan))
