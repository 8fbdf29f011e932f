use Rattle.std.proofs.Common.{◌+◌, ◌≤◌, ap, arith, length, refl, ◌∙◌}
use Rattle.design_laws.specs.Grammar.{module_is_by_grammar}
use Rattle.frames.specs.Numbered.{setting_with}
use Rattle.numbering.specs.Bits.{register_bits}
use Rattle.vlog_tree.specs.Meaning.Instances.{instances}
use Rattle.vlog_tree.specs.Meaning.Keys.{register_keys}
use Rattle.flatten.proofs.GatheredLemmas.{there_is}
use Rattle.flatten.proofs.PowerLemmas.{all_set, bits_counted, by_grammar, fits_below, none_set, one_set, room_by}
use Rattle.flatten.proofs.first_state.power_up_of.Goals as goal

pub loop-place-init : goal.loop-place-init
loop-place-init c =
    none_set (setting_with c.args.frames.now) c.registers.result c.in_ok-bits.bits c.registers.ensures c.in_ok-bits.ensures

pub add_power_up-requires-clause-by_grammar : goal.add_power_up-requires-clause-by_grammar
add_power_up-requires-clause-by_grammar c =
    let list = instances (setting_with c.args.frames.now) in
    let found = there_is list c.loop-place.place (omega (arith, c.len-place-end.ensures.count, c.loop-place-test.true)) in
    ap module_is_by_grammar
    (ap (λ it. it.definition) c.places-places.ensures ∙ c.at-frame.ensures.definition found.0 found.1)
    ∙ by_grammar (setting_with c.args.frames.now) c.requires.sound c.requires.by_grammar c.loop-place.place found.0 found.1

pub add_power_up-requires-clause-room : goal.add_power_up-requires-clause-room
add_power_up-requires-clause-room c =
    let list = instances (setting_with c.args.frames.now) in
    let found = there_is list c.loop-place.place (omega (arith, c.len-place-end.ensures.count, c.loop-place-test.true)) in
    room_by list c.loop-place.place c.loop-place.first c.loop-place.bits c.loop-place.invariant found.0 found.1
    c.places-places.result.now.definition
    (ap (λ it. it.definition) c.places-places.ensures ∙ c.at-frame.ensures.definition found.0 found.1)

pub overflow_add-first : goal.overflow_add-first
overflow_add-first c =
    let list = instances (setting_with c.args.frames.now) in
    let found = there_is list c.loop-place.place (omega (arith, c.len-place-end.ensures.count, c.loop-place-test.true)) in
    let room : c.loop-place.first + length (register_bits c.places-places.result.now.definition) ≤ length c.loop-place.bits =
    room_by list c.loop-place.place c.loop-place.first c.loop-place.bits c.loop-place.invariant found.0 found.1
    c.places-places.result.now.definition
    (ap (λ it. it.definition) c.places-places.ensures ∙ c.at-frame.ensures.definition found.0 found.1) in
    let count =
    bits_counted (setting_with c.args.frames.now) c.loop-place.place c.loop-place.first c.loop-place.bits c.loop-place.invariant in
    fits_below c.loop-place.first (length (register_bits c.places-places.result.now.definition)) (length c.loop-place.bits)
    (length (register_keys (setting_with c.args.frames.now))) c.registers.result c.registers-first.result
    room count c.registers.ensures c.registers-first.ensures.count c.registers.type_inv

pub loop-place-preserved : goal.loop-place-preserved
loop-place-preserved c =
    let list = instances (setting_with c.args.frames.now) in
    let found = there_is list c.loop-place.place (omega (arith, c.len-place-end.ensures.count, c.loop-place-test.true)) in
    one_set list c.loop-place.place c.loop-place.first c.loop-place.bits c.loop-place.invariant found.0 found.1
    c.places-places.result.now.definition c.add_power_up.new.bits c.registers-first.result (c.loop-place.first + c.registers-first.result)
    (ap (λ it. it.definition) c.places-places.ensures ∙ c.at-frame.ensures.definition found.0 found.1)
    c.add_power_up.ensures.added c.registers-first.ensures.count refl

pub returns : goal.returns
returns c =
    all_set (setting_with c.args.frames.now) c.requires.sound c.instances.ensures c.loop-place.place c.loop-place.first
    c.loop-place.bits (omega (arith, c.len-place-end.ensures.count, c.loop-place-test.false)) c.loop-place.invariant
