use Rattle.std.proofs.Common.{◌+◌, ap, arith, drop, flat_map, map, sym, ◌∙◌}
use Rattle.std.proofs.lemmas.List.{at_drop_all}
use Rattle.drives.specs.Given.{given_all}
use Rattle.flat_items.specs.Framing.{number_by}
use Rattle.flat_items.specs.declared.side.Side.TheVariants.{Inside}
use Rattle.flat_items.proofs.CarryLemmas.{found_at}
use Rattle.flat_items.proofs.GateLemmas.{one_out, with_edge}
use Rattle.lowering.proofs.ListLemmas.{next_found}
use Rattle.vlog_tree.specs.Meaning.Lefts.{left_bits}
use Rattle.flat_items.proofs.gate.give_outs.Goals as goal

pub loop-out-preserved : goal.loop-out-preserved
loop-out-preserved c =
    let m = c.args.frame.now.placing.definition in
    let number = number_by Inside c.args.frame.now in
    let outs = c.args.outs.now in
    let i = c.loop-out.out-index in
    let out = c.out-item.result in
    let edge = c.args.edge in
    ap (λ driven. given_all driven (with_edge edge (map number (flat_map (left_bits m) (drop (i + 1) outs))))) c.in_ok-give_out.ensures.given
    ∙ sym (one_out number edge c.loop-out.driven (left_bits m out) (flat_map (left_bits m) (drop (i + 1) outs)))
    ∙ ap (λ left. given_all c.loop-out.driven (with_edge edge (map number (flat_map (left_bits m) left))))
    (sym (next_found outs i out (found_at outs i out (omega arith) c.out-item.is)))
    ∙ c.loop-out.invariant

pub returns-clause-given : goal.returns-clause-given
returns-clause-given c =
    let m = c.args.frame.now.placing.definition in
    let number = number_by Inside c.args.frame.now in
    sym (at_drop_all (λ left. given_all c.loop-out.driven (with_edge c.args.edge (map number (flat_map (left_bits m) left))))
    c.args.outs.now c.loop-out.out-index (omega arith))
    ∙ c.loop-out.invariant
