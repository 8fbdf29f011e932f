use Rattle.std.proofs.Common.{ap, subst, ◌∙◌}
use Rattle.flat_design.specs.Items.{gate_given}
use Rattle.flat_items.specs.Carried.{GivesTo}
use Rattle.flat_items.proofs.CarryLemmas.{passed_on}
use Rattle.flat_items.proofs.GateLemmas.{gate_fails, gate_gives, inputs_fail}
use Rattle.lowering.specs.Expressions.{only}
use Rattle.lowering.specs.Gates.{gate}
use Rattle.lowering.specs.Limits.{Excuses, next_of, with_more}
use Rattle.lowering.specs.Lowered.{after}
use Rattle.flat_items.proofs.gate.lower_gate.Goals as goal

pub returns-in_err-inputs-clause-fault : goal.returns-in_err-inputs-clause-fault
returns-in_err-inputs-clause-fault c =
    let fault = c.in_err-inputs.field-0.0 in
    passed_on (GivesTo c.args.frame.now (λ setting instance. gate_given setting instance c.args.kind c.args.outs.now c.args.ins.now) c.args.nodes.now)
    c.from_residual.result fault c.from_residual.ensures.1
    (inputs_fail c.args.frame.now c.args.kind c.args.outs.now c.args.ins.now c.args.nodes.now fault c.in_err-inputs.ensures.fault)

pub returns-in_err-edge-clause-fault : goal.returns-in_err-edge-clause-fault
returns-in_err-edge-clause-fault c =
    let fault = c.in_err-edge.field-0.0 in
    let here = c.lower_inputs.new.nodes in
    passed_on (GivesTo c.args.frame.now (λ setting instance. gate_given setting instance c.args.kind c.args.outs.now c.args.ins.now) c.args.nodes.now)
    c.from_residual-in_err-edge.result fault c.from_residual-in_err-edge.ensures.1
    (gate_fails c.args.frame.now c.args.kind c.args.outs.now c.args.ins.now c.args.nodes.now here c.in_ok-inputs.inputs
    c.in_ok-inputs.ensures.nodes c.in_ok-inputs.ensures.edges fault
    (subst (λ inputs. Excuses (after (next_of here) (gate c.args.kind inputs (next_of here))) fault) c.as_slice.ensures c.in_err-edge.ensures.fault))

pub returns-clause-given : goal.returns-clause-given
returns-clause-given c =
    let here = c.lower_inputs.new.nodes in
    gate_gives c.args.frame.now c.args.kind c.args.outs.now c.args.ins.now c.args.nodes.now here c.in_ok-inputs.inputs
    c.in_ok-inputs.ensures.nodes c.in_ok-inputs.ensures.edges c.gate_edge.new.nodes c.args.driven.now c.give_outs.new.driven c.in_ok-edge.edge
    (c.in_ok-edge.ensures.nodes ∙ ap (λ inputs. with_more here (gate c.args.kind inputs (next_of here))) c.as_slice.ensures)
    (c.in_ok-edge.ensures.edge ∙ ap (λ inputs. only (gate c.args.kind inputs (next_of here)).edges) c.as_slice.ensures)
    c.in_ok-give_outs.ensures.given
