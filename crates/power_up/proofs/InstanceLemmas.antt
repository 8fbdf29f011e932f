-- The bits at power-up, instance by instance.
use Rattle.std.proofs.Common.{◌≡◌, ℕ, suc, List, [], ◌∷◌, ◌++◌, Some, refl, ap, ◌∙◌, flat_map, map, option_and_then, slice_get}
use Rattle.std.proofs.lemmas.List.{map-append}
use Rattle.vlog_tree.specs.Meaning.Instances.{Instance, instances, module_at}
use Rattle.vlog_tree.specs.Meaning.Lefts.{Bit}
use Rattle.vlog_tree.specs.Meaning.Names.{registers}
use Rattle.vlog_tree.specs.Meaning.Setting.{Setting}
use Rattle.vlog_tree.specs.Meaning.Step.{known, power_up, power_up_bit}
use Rattle.numbering.specs.Bits.{register_bits}
use Rattle.numbering.specs.Numbering.{keyed}
use Rattle.numbering.proofs.NumberKeyLemmas.{all_keyed, keys_in}
use Rattle.power_up.specs.PowerUp.{PathsLead, bit_at_power_up, bits_at_power_up, power_up_by_instance}

module _ (setting : Setting) where
  -- the bits of one instance
  own : (instance : Instance) → module_at setting instance.path ≡ Some instance.definition → (bits : List Bit)
      → map (power_up_bit setting) (keyed instance.path bits) ≡ map (bit_at_power_up instance.definition) bits
  own instance leads [] = refl
  own instance leads (bit ∷ bits) = λ j.
      known (option_and_then (λ m. Some (bit_at_power_up m bit)) (leads j)) ∷ own instance leads bits j

  abbrev registers_in : Instance → List Bit
  registers_in instance = register_bits instance.definition

  each : (list : List Instance)
      → ((i : ℕ) (instance : Instance) → slice_get list i ≡ Some instance → module_at setting instance.path ≡ Some instance.definition)
      → map (power_up_bit setting) (flat_map (keys_in registers_in) list) ≡ flat_map (λ instance. bits_at_power_up instance.definition) list
  each [] lead = refl
  each (instance ∷ list) lead =
      map-append (power_up_bit setting) (keyed instance.path (registers_in instance)) (flat_map (keys_in registers_in) list)
      ∙ (λ j. own instance (lead 0 instance refl) (registers_in instance) j ++ each list (λ i other there. lead (suc i) other there) j)

  pub power_up_is : PathsLead setting → power_up setting ≡ power_up_by_instance setting
  power_up_is lead = ap (map (power_up_bit setting)) (all_keyed registers (instances setting)) ∙ each (instances setting) lead
