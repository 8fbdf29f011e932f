-- Where the bits of each instance start, in a loop.
use Rattle.std.proofs.Common.{◌≡◌, ℕ, ◌+◌, ◌<◌, ◌≤◌, List, [], ◌∷◌, ◌++◌, Some, sym, ◌∙◌, ap, subst, arith, length, slice_get}
use Rattle.std.proofs.lemmas.List.FromFn.{map-range_with_len_more}
use Rattle.bm_base.specs.Size.{limit_of}
use Rattle.bm_base.specs.declared.size.Size.TheVariants.{Nodes}
use Rattle.flat_net.specs.declared.fault.FlatFault.{FlatFault}
use Rattle.lowering.specs.Limits.{Excuses}
use Rattle.vlog_tree.specs.Meaning.Instances.{Instance, instances}
use Rattle.vlog_tree.specs.Meaning.Keys.{input_keys}
use Rattle.numbering.specs.Bits.{register_bits}
use Rattle.numbering.specs.Frames.{driven_before, registers_before}
use Rattle.numbering.specs.Numbering.{first_of_expressions}
use Rattle.numbering.specs.Places.{Placing, placed_driven, placed_registers}
use Rattle.frames.specs.Found.{placing_for}
use Rattle.frames.specs.Numbered.{IsReady, Numbered, setting_with}
use Rattle.frames.specs.Standing.{AreStarts, count_to, start_at, start_with, starts_to}
use Rattle.frames.specs.declared.start.Start.{Start}
use Rattle.frames.proofs.CountLemmas.{driven_more, driven_within, registers_more, registers_within}
use Rattle.frames.proofs.GroundLemmas.{some_there}
use Rattle.frames.proofs.TopLemmas.{all_counted, driven_are, excused_more}

-- the starts of the first instances, and where these end
pub record StartTo (it : Numbered) (inputs : ℕ) (i : ℕ) (list : List Start) (end : Start) : Type 0 where
  pub listed : list ≡ starts_to (instances (setting_with it)) i
  pub ended : end ≡ start_at (instances (setting_with it)) i
  pub within : count_to inputs end ≤ limit_of Nodes

pub no_starts : (it : Numbered) (inputs : ℕ) (list : List Start) (start end : Start) → list ≡ [] → start ≡ start_with 0 0 → end ≡ start
    → count_to inputs start ≤ limit_of Nodes → StartTo it inputs 0 list end
no_starts it inputs list start end none first same within = record {
  listed = none;
  ended = same ∙ first;
  within = subst (λ end. count_to inputs end ≤ limit_of Nodes) (sym same) within;
}

module _ (it : Numbered) (ready : IsReady (setting_with it)) (inputs : ℕ) (are : inputs ≡ length (input_keys (setting_with it))) where
  module _ (i : ℕ) (there : i < length (instances (setting_with it))) (list : List Start) (end : Start) (so_far : StartTo it inputs i list end)
      (places : Placing)
      (placed : (instance : Instance) → slice_get (instances (setting_with it)) i ≡ Some instance → places ≡ placing_for it instance) where
    abbrev next : Start
    next = start_with (end.registers + length (placed_registers places)) (end.driven + length (placed_driven places))

    next_is : (instance : Instance) → slice_get (instances (setting_with it)) i ≡ Some instance
        → next ≡ start_at (instances (setting_with it)) (i + 1)
    next_is instance at =
        (λ j. start_with ((so_far.ended j).registers + length (placed_registers (placed instance at j)))
        ((so_far.ended j).driven + length (placed_driven (placed instance at j))))
        ∙ (λ j. start_with (registers_before (instances (setting_with it)) i + length (register_bits instance.definition))
        (driven_before (instances (setting_with it)) i + driven_are it ready i instance at j))
        ∙ sym (λ j. start_with (registers_more (instances (setting_with it)) i instance at j) (driven_more (instances (setting_with it)) i instance at j))

    pub next_excused : (why : FlatFault) → Excuses (count_to inputs next) why → Excuses (first_of_expressions (setting_with it)) why
    next_excused why =
        let found = some_there (instances (setting_with it)) i there in
        let list = instances (setting_with it) in
        let is : count_to inputs next ≡ count_to inputs (start_at list (i + 1)) = ap (count_to inputs) (next_is found.0 found.1) in
        let one = registers_more list i found.0 found.1 in
        let two = driven_more list i found.0 found.1 in
        let three = registers_within list i found.0 found.1 in
        let four = driven_within list i found.0 found.1 in
        let all = all_counted it in
        excused_more (count_to inputs next) (first_of_expressions (setting_with it)) why (omega (arith, is, one, two, three, four, all, are))

    pub more_starts : (after : List Start) (following : Start) → after ≡ list ++ end ∷ [] → following ≡ next
        → count_to inputs following ≤ limit_of Nodes
        → StartTo it inputs (i + 1) after following
    more_starts after following pushed is within =
        let found = some_there (instances (setting_with it)) i there in
        record {
          listed = pushed ∙ (λ j. so_far.listed j ++ so_far.ended j ∷ [])
              ∙ sym (map-range_with_len_more (start_at (instances (setting_with it))) 0 i i (omega arith));
          ended = is ∙ next_is found.0 found.1;
          within = within;
        }

  pub first_excused : (start : Start) → start ≡ start_with 0 0 → (why : FlatFault) → Excuses (count_to inputs start) why
      → Excuses (first_of_expressions (setting_with it)) why
  first_excused start is why =
      let all = all_counted it in
      let same : count_to inputs start ≡ count_to inputs (start_with 0 0) = ap (count_to inputs) is in
      excused_more (count_to inputs start) (first_of_expressions (setting_with it)) why (omega (arith, all, same, are))

  pub all_starts : (i : ℕ) (list : List Start) (end : Start) → i ≡ length (instances (setting_with it)) → StartTo it inputs i list end
      → AreStarts it inputs list end
  all_starts i list end all so_far =
      let ended : end ≡ start_at (instances (setting_with it)) (length (instances (setting_with it))) =
      so_far.ended ∙ ap (start_at (instances (setting_with it))) all in
      let count : count_to inputs end ≡ count_to inputs (start_at (instances (setting_with it)) (length (instances (setting_with it)))) =
      ap (count_to inputs) ended in
      let whole = all_counted it in
      let counted : first_of_expressions (setting_with it) ≡ count_to inputs end = omega (arith, count, whole, are) in
      record {
        inputs_are = are;
        listed = so_far.listed ∙ ap (starts_to (instances (setting_with it))) all;
        ended = ended;
        counted = counted;
        within = subst (λ n. n ≤ limit_of Nodes) (sym counted) so_far.within;
      }
