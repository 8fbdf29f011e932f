use Rattle.std.proofs.Common.{◌≡◌, ap, length, map, ◌∙◌}
use Rattle.std.specs.List.{filter_map}
use Rattle.clock_sets.specs.Numbers.{number_of}
use Rattle.clock_sets.specs.Passing.{signals}
use Rattle.clock_sets.specs.Sets.{edges}
use Rattle.clock_sets.specs.Steps.{turned}
use Rattle.clock_sets.proofs.SetLemmas.{marked_by, numbers_within, starts_below_by, steps_below_by, steps_in, turned_within, uses_marked}
use Rattle.clock_sets.proofs.clock_uses.ClockUses.of.Goals as goal

pub spread-requires-clause-steps : goal.spread-requires-clause-steps
spread-requires-clause-steps c =
    let topped = c.in_ok-numbers.numbers in
    let steps_are : c.as_slice-2.result.now ≡ map turned (steps_in topped.design topped.top) =
    c.as_slice-2.ensures ∙ c.in_ok-back.ensures ∙ ap (map turned) (c.as_slice.ensures ∙ c.in_ok-steps.ensures) in
    steps_below_by (length (signals topped.design.modules)) c.count.result (map turned (steps_in topped.design topped.top)) c.as_slice-2.result.now c.count.ensures steps_are
    (turned_within topped.design topped.top)

pub spread-requires-clause-starts : goal.spread-requires-clause-starts
spread-requires-clause-starts c =
    let topped = c.in_ok-numbers.numbers in
    let number = number_of topped.design.modules in
    let starts_are : c.as_slice-3.result.now ≡ filter_map number (edges topped.design topped.top) = c.as_slice-3.ensures ∙ c.in_ok-edges.ensures in
    starts_below_by (length (signals topped.design.modules)) c.count.result (filter_map number (edges topped.design topped.top)) c.as_slice-3.result.now c.count.ensures starts_are
    (numbers_within topped.design topped.top (edges topped.design topped.top))

pub invariant_of-result : goal.invariant_of-result
invariant_of-result c =
    let topped = c.in_ok-numbers.numbers in
    let number = number_of topped.design.modules in
    let steps_are : c.as_slice-2.result.now ≡ map turned (steps_in topped.design topped.top) =
    c.as_slice-2.ensures ∙ c.in_ok-back.ensures ∙ ap (map turned) (c.as_slice.ensures ∙ c.in_ok-steps.ensures) in
    let starts_are : c.as_slice-3.result.now ≡ filter_map number (edges topped.design topped.top) = c.as_slice-3.ensures ∙ c.in_ok-edges.ensures in
    uses_marked topped.design topped.top c.in_ok-marks.marks.items
    (marked_by c.in_ok-marks.marks.items (length (signals topped.design.modules)) c.count.result (map turned (steps_in topped.design topped.top)) c.as_slice-2.result.now
    (filter_map number (edges topped.design topped.top)) c.as_slice-3.result.now c.count.ensures steps_are starts_are c.in_ok-marks.ensures.marks)
