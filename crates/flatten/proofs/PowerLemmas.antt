-- The bits at power-up, in a loop over the instances.
use Rattle.std.proofs.Common.{Fits, w64, ◌≡◌, ℕ, suc, ◌+◌, ◌-◌, ◌<◌, ◌≤◌, List, [], ◌∷◌, ◌++◌, Bool, true, false, Some, add-one, ap, append_assoc, arith, bytes_eq, drop, flat_map, length, refl, replicate, slice_get, subst, sym, ◌∙◌}
use Rattle.std.specs.List.{list_all}
use Rattle.std.proofs.Math.ListN.{drop_of_length-le}
use Rattle.std.proofs.lemmas.List.{length-append, length-map, length-replicate}
use Rattle.design_laws.specs.Grammar.{design_is_by_grammar, is_by_grammar, module_is_by_grammar}
use Rattle.design_laws.specs.Sound.{IsSound}
use Rattle.flat_design.proofs.PlacesLemmas.{found_place, passes_at}
use Rattle.numbering.specs.Bits.{register_bits}
use Rattle.numbering.proofs.NumberKeyLemmas.{all_keyed, keys_in}
use Rattle.vlog_tree.specs.declared.design.Module.{Module}
use Rattle.vlog_tree.specs.declared.key.Key.{Key}
use Rattle.vlog_tree.specs.Meaning.Instances.{Instance, instances}
use Rattle.vlog_tree.specs.Meaning.Keys.{register_keys}
use Rattle.vlog_tree.specs.Meaning.Lefts.{Bit}
use Rattle.vlog_tree.specs.Meaning.Names.{registers}
use Rattle.vlog_tree.specs.Meaning.Setting.{Setting}
use Rattle.vlog_tree.specs.Meaning.Step.{power_up}
use Rattle.power_up.specs.PowerUp.{AddsPowerUp, PowerUpIsOfInstances, bit_at_power_up, bits_at_power_up}
use Rattle.flatten.proofs.GatheredLemmas.{drop_at}

abbrev bits_in : Instance → List Bool
bits_in instance = bits_at_power_up instance.definition

-- The bits of the instances before a place are set, and there is room for those of the others.
pub record AreSet (list : List Instance) (place first : ℕ) (bits : List Bool) : Type 0 where
  pub before : List Bool
  pub room : ℕ
  pub is : bits ≡ before ++ replicate room false
  pub first_is : first ≡ length before
  pub room_is : room ≡ length (flat_map bits_in (drop place list))
  pub whole : before ++ flat_map bits_in (drop place list) ≡ flat_map bits_in list

abbrev registers_in : Instance → List Bit
registers_in instance = register_bits instance.definition

-- one bit for each register
bit_count : (list : List Instance) → length (flat_map bits_in list) ≡ length (flat_map (keys_in registers_in) list)
bit_count [] = refl
bit_count (instance ∷ list) =
    let one : length (bits_in instance ++ flat_map bits_in list) ≡ length (bits_in instance) + length (flat_map bits_in list) =
    length-append (bits_in instance) (flat_map bits_in list) in
    let two : length (keys_in registers_in instance ++ flat_map (keys_in registers_in) list)
    ≡ length (keys_in registers_in instance) + length (flat_map (keys_in registers_in) list) =
    length-append (keys_in registers_in instance) (flat_map (keys_in registers_in) list) in
    let three : length (bits_in instance) ≡ length (registers_in instance) =
    length-map (registers_in instance) (bit_at_power_up instance.definition) in
    let four : length (keys_in registers_in instance) ≡ length (registers_in instance) = length-map (registers_in instance) _ in
    let rest = bit_count list in
    omega (arith, one, two, three, four, rest)

pub none_set : (setting : Setting) (count : ℕ) (bits : List Bool) → count ≡ length (register_keys setting)
    → bits ≡ replicate count false → AreSet (instances setting) 0 0 bits
none_set setting count bits counted is = record {
  before = [];
  room = count;
  is = is;
  first_is = refl;
  room_is =
      counted ∙ ap (λ (keys : List Key). length keys) (all_keyed registers (instances setting))
      ∙ sym (bit_count (instances setting));
  whole = refl;
}

module _ (list : List Instance) (place first : ℕ) (bits : List Bool) (so_far : AreSet list place first bits)
    (instance : Instance) (at : slice_get list place ≡ Some instance) where
  abbrev behind : List Bool
  behind = flat_map bits_in (drop (suc place) list)

  left_is : flat_map bits_in (drop place list) ≡ bits_in instance ++ behind
  left_is = ap (flat_map bits_in) (drop_at list place instance at)

  own_count : length (bits_in instance) ≡ length (register_bits instance.definition)
  own_count = length-map (register_bits instance.definition) (bit_at_power_up instance.definition)

  room_left : so_far.room ≡ length (register_bits instance.definition) + length behind
  room_left =
      let both : length (bits_in instance ++ behind) ≡ length (bits_in instance) + length behind =
      length-append (bits_in instance) behind in
      let left : length (flat_map bits_in (drop place list)) ≡ length (bits_in instance ++ behind) = ap length left_is in
      let own = own_count in
      let room = so_far.room_is in
      omega (arith, both, left, own, room)

  has_room : first + length (register_bits instance.definition) ≤ length bits
  has_room =
      let all : length bits ≡ length (so_far.before ++ replicate so_far.room false) = ap length so_far.is in
      let both : length (so_far.before ++ replicate so_far.room false) ≡ length so_far.before + length (replicate so_far.room false) =
      length-append so_far.before (replicate so_far.room false) in
      let zeros : length (replicate so_far.room false) ≡ so_far.room = length-replicate so_far.room false in
      let left = room_left in
      let start = so_far.first_is in
      omega (arith, all, both, zeros, left, start)

  pub room_by : (m : Module) → m ≡ instance.definition → first + length (register_bits m) ≤ length bits
  room_by m same = subst (λ m. first + length (register_bits m) ≤ length bits) (sym same) has_room

  pub one_set : (m : Module) (after : List Bool) (count next : ℕ) → m ≡ instance.definition → AddsPowerUp m first bits after
      → count ≡ length (register_bits m) → next ≡ first + count → AreSet list (place + 1) next after
  one_set m after count next same adds counted is =
      let left : so_far.room ≡ length (register_bits instance.definition) + length behind = room_left in
      let few : length (register_bits instance.definition) ≤ so_far.room = omega (arith, left) in
      let remains : so_far.room - length (register_bits instance.definition) ≡ length behind = omega (arith, left) in
      let own : AddsPowerUp instance.definition first bits after =
      subst (λ m. AddsPowerUp m first bits after) same adds in
      let all : length (so_far.before ++ bits_in instance) ≡ length so_far.before + length (bits_in instance) =
      length-append so_far.before (bits_in instance) in
      let own_bits : length (bits_in instance) ≡ length (register_bits instance.definition) = own_count in
      let counted_own : count ≡ length (register_bits instance.definition) = counted ∙ ap (λ m. length (register_bits m)) same in
      let start = so_far.first_is in
      record {
        before = so_far.before ++ bits_in instance;
        room = so_far.room - length (register_bits instance.definition);
        is =
            own so_far.before so_far.room so_far.is so_far.first_is few
            ∙ sym (append_assoc so_far.before (bits_in instance)
            (replicate (so_far.room - length (register_bits instance.definition)) false));
        first_is = omega (arith, is, counted_own, start, all, own_bits);
        room_is = remains ∙ ap (λ n. length (flat_map bits_in (drop n list))) (sym (add-one place));
        whole =
            ap (λ n. (so_far.before ++ bits_in instance) ++ flat_map bits_in (drop n list)) (add-one place)
            ∙ append_assoc so_far.before (bits_in instance) behind
            ∙ ap (λ left. so_far.before ++ left) (sym left_is)
            ∙ so_far.whole;
      }

pub all_set : (setting : Setting) → IsSound setting → PowerUpIsOfInstances → (place first : ℕ) (bits : List Bool)
    → length (instances setting) ≤ place → AreSet (instances setting) place first bits → bits ≡ power_up setting
all_set setting sound law place first bits past so_far =
    let none : drop place (instances setting) ≡ [] = drop_of_length-le (instances setting) past in
    let left : so_far.room ≡ 0 = so_far.room_is ∙ ap (λ list. length (flat_map bits_in list)) none in
    so_far.is
    ∙ ap (λ n. so_far.before ++ replicate n false) left
    ∙ ap (λ list. so_far.before ++ flat_map bits_in list) (sym none)
    ∙ so_far.whole
    ∙ sym (law setting sound.leads)

-- No bit is added.
pub bits_counted : (setting : Setting) (place first : ℕ) (bits : List Bool) → AreSet (instances setting) place first bits
    → length bits ≡ length (register_keys setting)
bits_counted setting place first bits so_far =
    let list : List Instance = instances setting in
    let all : length bits ≡ length (so_far.before ++ replicate so_far.room false) = ap length so_far.is in
    let both : length (so_far.before ++ replicate so_far.room false) ≡ length so_far.before + length (replicate so_far.room false) =
    length-append so_far.before (replicate so_far.room false) in
    let zeros : length (replicate so_far.room false) ≡ so_far.room = length-replicate so_far.room false in
    let whole : length (so_far.before ++ flat_map bits_in (drop place list)) ≡ length (flat_map bits_in list) = ap length so_far.whole in
    let parts : length (so_far.before ++ flat_map bits_in (drop place list))
    ≡ length so_far.before + length (flat_map bits_in (drop place list)) =
    length-append so_far.before (flat_map bits_in (drop place list)) in
    let keys : length (flat_map bits_in list) ≡ length (register_keys setting) =
    bit_count list ∙ sym (ap (λ (keys : List Key). length keys) (all_keyed registers list)) in
    let room = so_far.room_is in
    omega (arith, all, both, zeros, whole, parts, keys, room)

pub fits_below : (first own bits all total count : ℕ) → first + own ≤ bits → bits ≡ all → total ≡ all → count ≡ own
    → total < 18446744073709551616 → Fits w64 (first + count)
fits_below first own bits all total count room same is counted fits = omega arith

-- ---- the grammar

pub by_grammar : (setting : Setting) → IsSound setting → design_is_by_grammar setting.design ≡ true
    → (place : ℕ) (instance : Instance) → slice_get (instances setting) place ≡ Some instance
    → module_is_by_grammar instance.definition ≡ true
by_grammar setting sound all place instance at =
    let there = found_place (λ (m : Module). bytes_eq m.name instance.definition.name) setting.design.modules instance.definition
    (sound.named place instance at) in
    passes_at (λ (m : Module). list_all is_by_grammar m.items) setting.design.modules there.0 instance.definition all there.1
