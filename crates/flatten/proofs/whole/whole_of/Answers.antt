use Rattle.std.proofs.Common.{◌<◌, ◌≤◌, arith, length, subst, sym, ◌∙◌}
use Rattle.bm_base.specs.Size.{limit_of}
use Rattle.bm_base.specs.declared.size.Size.TheVariants.{Nodes}
use Rattle.flat_design.specs.Flat.{flat}
use Rattle.frames.specs.Numbered.{setting_with}
use Rattle.lowering.specs.Limits.{Excuses}
use Rattle.vlog_tree.specs.Meaning.Instances.{instances}
use Rattle.flatten.proofs.FaultLemmas.{passed_on}
use Rattle.flatten.proofs.GatheredLemmas.{all_counted, all_gathered, none_gathered, one_excused, one_gathered, there_is}
use Rattle.flatten.proofs.whole.whole_of.Goals as goal

pub loop-place-init : goal.loop-place-init
loop-place-init c =
    none_gathered (setting_with c.args.frames.now) c.first.result c.driven.result c.new-nodes.result c.in_ok-driven.driven c.new-next.result
    c.first.ensures.first c.new-nodes.ensures c.driven.ensures c.in_ok-driven.ensures c.new-next.ensures

pub loop-place-preserved : goal.loop-place-preserved
loop-place-preserved c =
    let list = instances (setting_with c.args.frames.now) in
    let found = there_is list c.loop-place.place (subst (λ n. c.loop-place.place < n) c.len-count.ensures.count c.loop-place-test.true) in
    one_gathered (setting_with c.args.frames.now) c.loop-place.place c.loop-place.nodes c.loop-place.driven c.loop-place.next
    c.loop-place.invariant found.0 found.1 c.lower_instance.new.nodes c.lower_instance.new.driven c.lower_instance.new.registers
    c.in_ok-lower_instance.ensures.given

pub returns-in_err-lower_instance-clause-fault : goal.returns-in_err-lower_instance-clause-fault
returns-in_err-lower_instance-clause-fault c =
    let list = instances (setting_with c.args.frames.now) in
    let found = there_is list c.loop-place.place (subst (λ n. c.loop-place.place < n) c.len-count.ensures.count c.loop-place-test.true) in
    passed_on (Excuses (length (flat (setting_with c.args.frames.now)).nodes)) c.from_residual-in_err-lower_instance.result
    c.in_err-lower_instance.field-0.0 c.from_residual-in_err-lower_instance.ensures.1
    (one_excused (setting_with c.args.frames.now) c.loop-place.place c.loop-place.nodes c.loop-place.driven c.loop-place.next
    c.loop-place.invariant found.0 found.1 c.in_err-lower_instance.field-0.0 c.in_err-lower_instance.ensures.fault)

pub returns-clause-whole : goal.returns-clause-whole
returns-clause-whole c =
    all_gathered (setting_with c.args.frames.now) c.loop-place.place c.loop-place.nodes c.loop-place.driven c.loop-place.next
    (omega (arith, c.len-count.ensures.count, c.loop-place-test.false)) c.loop-place.invariant

pub returns-clause-small : goal.returns-clause-small
returns-clause-small c =
    let whole = all_gathered (setting_with c.args.frames.now) c.loop-place.place c.loop-place.nodes c.loop-place.driven c.loop-place.next
    (omega (arith, c.len-count.ensures.count, c.loop-place-test.false)) c.loop-place.invariant in
    subst (λ n. n ≤ limit_of Nodes)
    (c.next-behind.ensures.number
    ∙ sym (all_counted (setting_with c.args.frames.now) c.loop-place.nodes c.loop-place.driven c.loop-place.next whole))
    c.next-behind.ensures.within
