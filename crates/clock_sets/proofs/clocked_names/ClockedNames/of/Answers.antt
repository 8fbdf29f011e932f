use Rattle.std.proofs.Common.{◌≡◌, [], ◌∷◌, length, ◌∙◌}
use Rattle.std.specs.List.{filter_map}
use Rattle.clock_sets.specs.Numbers.{number_of}
use Rattle.clock_sets.specs.Passing.{signal, signals}
use Rattle.clock_sets.proofs.SetLemmas.{clocked_marked, marked_by, numbers_within, start_of, starts_below_by, steps_below_by, steps_in, steps_within}
use Rattle.clock_sets.proofs.clocked_names.ClockedNames.of.Goals as goal

pub spread-requires-clause-steps : goal.spread-requires-clause-steps
spread-requires-clause-steps c =
    let topped = c.in_ok-numbers.numbers in
    let steps_are : c.as_slice.result.now ≡ steps_in topped.design topped.top = c.as_slice.ensures ∙ c.in_ok-steps.ensures in
    steps_below_by (length (signals topped.design.modules)) c.count.result (steps_in topped.design topped.top) c.as_slice.result.now c.count.ensures steps_are
    (steps_within topped.design topped.top)

pub spread-requires-clause-starts : goal.spread-requires-clause-starts
spread-requires-clause-starts c =
    let topped = c.in_ok-numbers.numbers in
    let number = number_of topped.design.modules in
    let clock = signal topped.top c.args.clock.now in
    let starts_are : c.as_slice-2.result.now ≡ filter_map number (clock ∷ []) = c.as_slice-2.ensures ∙ c.in_ok-start.ensures ∙ start_of number clock in
    starts_below_by (length (signals topped.design.modules)) c.count.result (filter_map number (clock ∷ [])) c.as_slice-2.result.now c.count.ensures starts_are
    (numbers_within topped.design topped.top (clock ∷ []))

pub invariant_of-result : goal.invariant_of-result
invariant_of-result c =
    let topped = c.in_ok-numbers.numbers in
    let number = number_of topped.design.modules in
    let clock = signal topped.top c.args.clock.now in
    let steps_are : c.as_slice.result.now ≡ steps_in topped.design topped.top = c.as_slice.ensures ∙ c.in_ok-steps.ensures in
    let starts_are : c.as_slice-2.result.now ≡ filter_map number (clock ∷ []) = c.as_slice-2.ensures ∙ c.in_ok-start.ensures ∙ start_of number clock in
    clocked_marked topped.design topped.top c.args.clock.now c.in_ok-marks.marks.items
    (marked_by c.in_ok-marks.marks.items (length (signals topped.design.modules)) c.count.result (steps_in topped.design topped.top) c.as_slice.result.now
    (filter_map number (clock ∷ [])) c.as_slice-2.result.now c.count.ensures steps_are starts_are c.in_ok-marks.ensures.marks)
