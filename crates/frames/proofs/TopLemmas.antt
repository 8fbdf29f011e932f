-- The top among the instances, and the counts of all bits.
use Rattle.std.proofs.Common.{◌≡◌, ℕ, ◌+◌, ◌<◌, ◌≤◌, Bool, true, false, cond, List, [], ◌++◌, Some, None, is_some, refl, sym, ◌∙◌, ap, subst, arith, bytes_eq, length, length-append, slice_get, Result, Ok, Err, IfErr, IsErrAnd}
use Rattle.std.proofs.lemmas.Bool.{false_from_ne_true}
use Rattle.std.proofs.lemmas.Option.{slice_get_within}
use Rattle.std.proofs.lemmas.Slice.Eq.{bytes_eq-Decides}
use Rattle.bm_base.specs.Size.{limit_of}
use Rattle.bm_base.specs.declared.size.Size.TheVariants as size
use Rattle.flat_net.specs.declared.fault.FlatFault.{FlatFault}
use Rattle.flat_net.specs.declared.fault.FlatFault.TheVariants as fault
use Rattle.lowering.specs.Limits.{Excuses}
use Rattle.vlog_tree.specs.Meaning.Instances.{Instance, instances}
use Rattle.vlog_tree.specs.Meaning.Keys.{input_keys, register_keys}
use Rattle.numbering.specs.Bits.{driven_bits}
use Rattle.numbering.specs.Frames.{driven_before, registers_before}
use Rattle.numbering.specs.Numbering.{driven_keys, first_of_expressions, is_top, keys_with_nodes}
use Rattle.numbering.specs.Places.{Placing, count_of_bits, input_bits_by, placed_driven, placed_inputs, placed_registers, placing}
use Rattle.numbering.proofs.NumberBitLemmas.{paths_decide}
use Rattle.numbering.proofs.NumberEdgeLemmas.{numbers_bits}
use Rattle.numbering.proofs.NumberKeyLemmas.{only_top, top_first, top_of}
use Rattle.frames.specs.Found.{placing_for, placing_of}
use Rattle.frames.specs.Numbered.{IsReady, Numbered, setting_with}
use Rattle.frames.proofs.CountLemmas.{driven_within, registers_within}
use Rattle.frames.proofs.FoundLemmas.{named}

-- ---- faults

pub excused_more : (fewer more : ℕ) (why : FlatFault) → fewer ≤ more → Excuses fewer why → Excuses more why
excused_more fewer more fault.Memory few excused = tt
excused_more fewer more (fault.TooLarge what) few excused = let large : limit_of size.Nodes < fewer = excused.1 in (excused.0, omega arith)

pub passed_on : {X : Type 0} (P : FlatFault → Type 0) (result : Result X FlatFault) (why : FlatFault)
    → IsErrAnd result (λ other. other ≡ why) → P why → IfErr result P
passed_on P (Ok x) why is holds = tt
passed_on P (Err other) why is holds = subst P (sym is) holds

-- ---- counts of all bits

pub all_counted : (it : Numbered) → first_of_expressions (setting_with it)
    ≡ 1 + length (input_keys (setting_with it)) + registers_before (instances (setting_with it)) (length (instances (setting_with it)))
    + driven_before (instances (setting_with it)) (length (instances (setting_with it)))
all_counted it =
    let setting = setting_with it in
    let both : length (keys_with_nodes setting) ≡ length (input_keys setting) + length (register_keys setting ++ driven_keys setting) =
    length-append (input_keys setting) (register_keys setting ++ driven_keys setting) in
    let rest : length (register_keys setting ++ driven_keys setting) ≡ length (register_keys setting) + length (driven_keys setting) =
    length-append (register_keys setting) (driven_keys setting) in
    let registers : length (register_keys setting) ≡ registers_before (instances setting) (length (instances setting)) =
    numbers_bits.register_count setting in
    let driven : length (driven_keys setting) ≡ driven_before (instances setting) (length (instances setting)) =
    numbers_bits.driven_count setting in
    omega arith

pub clock_there : (clock : List ℕ) (b : Bool) → is_some (cond b (Some clock) None) ≡ b
clock_there clock true = refl
clock_there clock false = refl

module _ (it : Numbered) (ready : IsReady (setting_with it)) where
  pub some_instance : 0 < length (instances (setting_with it))
  some_instance =
      slice_get_within (instances (setting_with it)) 0 (top_of ready.top.0) (top_first (setting_with it) ready.top.0 ready.top.1)

  pub inputs_counted : (places : Placing)
      → ((instance : Instance) → slice_get (instances (setting_with it)) 0 ≡ Some instance → places ≡ placing_for it instance)
      → length (placed_inputs places) ≡ length (input_keys (setting_with it))
  inputs_counted places are =
      ap (λ places. length (placed_inputs places)) (are (top_of ready.top.0) (top_first (setting_with it) ready.top.0 ready.top.1))
      ∙ sym (numbers_bits.input_count (setting_with it) ready.top.0 ready.top.1)

  module _ (i : ℕ) (instance : Instance) (at : slice_get (instances (setting_with it)) i ≡ Some instance) where
    pub is_the_top : is_top instance ≡ true → instance ≡ top_of ready.top.0
    is_the_top same =
        only_top (setting_with it) ready.top.0 ready.top.1 i instance (record { distinct = ready.distinct; there = at })
        ((paths_decide instance.path []).0 same)

    -- The instance is the top where its module has the name of the top.
    by_name : (b : Bool) → bytes_eq instance.definition.name it.top ≡ b → is_top instance ≡ b
    by_name true same = (paths_decide instance.path []).1 (ready.only_top i instance at same)
    by_name false differ =
        false_from_ne_true (is_top instance) (λ same. absurd (
        let is : instance.definition.name ≡ it.top =
        ap (λ (instance : Instance). instance.definition.name) (is_the_top same) ∙ named it.design.modules it.top ready.top.0 ready.top.1 in
        let passes : bytes_eq instance.definition.name it.top ≡ true = (bytes_eq-Decides instance.definition.name it.top).1 is in
        cc))

    pub placing_same : placing_of it instance.definition ≡ placing_for it instance
    placing_same =
        ap (λ b. placing instance.definition (cond b (Some it.clock) None)) (sym (by_name (bytes_eq instance.definition.name it.top) refl))

    pub driven_are : length (placed_driven (placing_for it instance)) ≡ length (driven_bits (is_top instance) instance.definition)
    driven_are = ap (λ b. length (driven_bits b instance.definition)) (clock_there it.clock (is_top instance))

    pub inputs_within : (b : Bool) → is_top instance ≡ b
        → length (input_bits_by (cond b (Some it.clock) None) instance.definition) ≤ length (input_keys (setting_with it))
    inputs_within false differ = omega arith
    inputs_within true same =
        let is : length (input_bits_by (Some it.clock) instance.definition) ≡ length (input_keys (setting_with it)) =
        ap (λ (instance : Instance). length (input_bits_by (Some it.clock) instance.definition)) (is_the_top same)
        ∙ sym (numbers_bits.input_count (setting_with it) ready.top.0 ready.top.1) in
        omega arith

    pub bits_within : count_of_bits (placing_of it instance.definition) ≤ first_of_expressions (setting_with it)
    bits_within = subst (λ places. count_of_bits places ≤ first_of_expressions (setting_with it)) (sym placing_same) (
        let list = instances (setting_with it) in
        let inputs : length (placed_inputs (placing_for it instance)) ≤ length (input_keys (setting_with it)) =
        inputs_within (is_top instance) refl in
        let registers : registers_before list i + length (placed_registers (placing_for it instance)) ≤ registers_before list (length list) =
        registers_within list i instance at in
        let is : length (placed_driven (placing_for it instance)) ≡ length (driven_bits (is_top instance) instance.definition) = driven_are in
        let driven : driven_before list i + length (driven_bits (is_top instance) instance.definition) ≤ driven_before list (length list) =
        driven_within list i instance at in
        let all = all_counted it in
        omega arith)
