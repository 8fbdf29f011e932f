use Rattle.std.proofs.Common.{arith}
use Rattle.std.specs.Option.{option_copied}
use Rattle.lowering.specs.Limits.{Excuses}
use Rattle.numbering.specs.Places.{count_of_bits, placing}
use Rattle.numbering.proofs.PlacedLemmas.{are_places, excused, passed_on, so_far_more, so_far_none}
use Rattle.numbering.proofs.places.ModulePlaces.of.Goals as goal

pub loop-i-init : goal.loop-i-init
loop-i-init c = so_far_none (placing c.args.nets.now (option_copied c.args.clock)) _ _ c.new-places.ensures c.new-counts.ensures

pub place_name-requires : goal.place_name-requires
place_name-requires c = c.loop-i.invariant.within

pub returns-in_err-place_name-clause-fault : goal.returns-in_err-place_name-clause-fault
returns-in_err-place_name-clause-fault c =
    passed_on (Excuses (count_of_bits (placing c.args.nets.now (option_copied c.args.clock)))) c.from_residual.result c.in_err-place_name.field-0.0
    c.from_residual.ensures.1
    (excused (placing c.args.nets.now (option_copied c.args.clock)) c.loop-i.i c.entry_at.result.0.now c.entry_at.result.1.now
    c.width.result c.of-kind.result c.loop-i.counts c.entry_at.ensures.entry c.entry_at.ensures.value c.width.ensures c.of-kind.ensures
    c.requires c.loop-i.invariant.counted c.in_err-place_name.field-0.0 c.in_err-place_name.ensures.fault)

pub loop-i-preserved : goal.loop-i-preserved
loop-i-preserved c =
    so_far_more (placing c.args.nets.now (option_copied c.args.clock)) c.loop-i.i c.entry_at.result.0.now c.entry_at.result.1.now
    c.width.result c.of-kind.result c.loop-i.counts c.entry_at.ensures.entry c.entry_at.ensures.value c.width.ensures c.of-kind.ensures
    c.loop-i.places c.loop-i.invariant _ _ c.in_ok-place_name.ensures.place c.in_ok-place_name.ensures.counts c.in_ok-place_name.ensures.within

pub invariant_of-result : goal.invariant_of-result
invariant_of-result c =
    are_places (placing c.args.nets.now (option_copied c.args.clock)) c.requires c.loop-i.i (omega arith) _ _ c.loop-i.invariant
