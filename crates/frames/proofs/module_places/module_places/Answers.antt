use Rattle.std.proofs.Common.{ap, sym, ◌∙◌}
use Rattle.std.specs.Option.{option_copied}
use Rattle.frames.specs.Numbered.{numbered}
use Rattle.frames.proofs.FoundLemmas.{at_place, found, not_reached, reached_by, too_many}
use Rattle.frames.proofs.module_places.module_places.Goals as goal

pub returns-then-not-is_reached : goal.returns-then-not-is_reached
returns-then-not-is_reached c =
    not_reached (numbered c.args.design.now c.args.clock.now) c.args.place c.is_reached.result c.is_reached.ensures c.if-not-is_reached.true

pub of-requires : goal.of-requires
of-requires c =
    let there = at_place c.args.design.now.design.modules c.modules.result.now c.args.place c.index-modules-place.result c.modules.ensures c.requires.within
    c.index-modules-place.is in
    c.requires.apart c.index-modules-place.result there
    (sym (reached_by (numbered c.args.design.now c.args.clock.now) c.args.place c.is_reached.result c.is_reached.ensures c.index-modules-place.result there)
    ∙ c.if-not-is_reached.false)

pub returns-in-Ok : goal.returns-in-Ok
returns-in-Ok c =
    found (numbered c.args.design.now c.args.clock.now) c.args.place c.index-modules-place.result (option_copied c.clock_of-clock.result)
    c.bytes.result.now
    (at_place c.args.design.now.design.modules c.modules.result.now c.args.place c.index-modules-place.result c.modules.ensures c.requires.within
    c.index-modules-place.is)
    c.clock_of-clock.ensures (c.bytes.ensures ∙ ap (λ m. m.name) c.module.ensures) c.in-Ok.places c.in-Ok.ensures.value

pub returns-in-Err-TooLarge : goal.returns-in-Err-TooLarge
returns-in-Err-TooLarge c =
    too_many (numbered c.args.design.now c.args.clock.now) c.args.place c.index-modules-place.result (option_copied c.clock_of-clock.result)
    c.bytes.result.now
    (at_place c.args.design.now.design.modules c.modules.result.now c.args.place c.index-modules-place.result c.modules.ensures c.requires.within
    c.index-modules-place.is)
    c.clock_of-clock.ensures (c.bytes.ensures ∙ ap (λ m. m.name) c.module.ensures) c.in-Err-TooLarge.field-0 c.in-Err-TooLarge.field-0-0 c.in-Err-TooLarge.field-0-is c.in-Err-TooLarge.ensures.fault
