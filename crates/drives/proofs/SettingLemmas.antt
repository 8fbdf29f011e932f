-- What bits of an instance are given, as entries of the driven bits of its design.
use Rattle.std.proofs.Common.{◌≡◌, ℕ, Bool, true, false, List, [], ◌∷◌, ◌++◌, Option, None, Some, append-nil, ap, cond, flat_map, length, map, option_map, refl, replicate, slice_get, sym, ◌∙◌}
use Rattle.std.specs.List.{zip}
use Rattle.std.specs.Option.{option_or}
use Rattle.std.proofs.lemmas.List.{append_assoc, length-map, map-append}
use Rattle.std.proofs.lemmas.Option.{same_Some, slice_get-map}
use Rattle.flat_net.specs.declared.edge.Edge.{Edge}
use Rattle.vlog_tree.specs.declared.design.Module.{Module}
use Rattle.vlog_tree.specs.declared.key.Key.{Key}
use Rattle.vlog_tree.specs.Meaning.Instances.{Instance, instances}
use Rattle.vlog_tree.specs.Meaning.Keys.{same_key}
use Rattle.vlog_tree.specs.Meaning.Lefts.{Bit, number_in}
use Rattle.vlog_tree.specs.Meaning.Names.{is_input, names}
use Rattle.vlog_tree.specs.Meaning.Setting.{Setting}
use Rattle.flat_design.specs.Items.{Drive}
use Rattle.flat_design.proofs.DriveLemmas.{place_from, place_in}
use Rattle.numbering.specs.Bits.{driven_bits, driven_names, is_driven}
use Rattle.numbering.specs.Numbering.{driven_keys, is_top, key_in, keyed}
use Rattle.numbering.specs.Numbers.{IsPlaced, place_of}
use Rattle.numbering.proofs.NumberBitLemmas.{bit_place, firsts_once, once_kept}
use Rattle.numbering.proofs.NumberEdgeLemmas.{numbers_bits}
use Rattle.numbering.proofs.NumberKeyLemmas.{IsKeyOf, key_at_place}
use Rattle.numbering.proofs.NumberListLemmas.{IsIn, flat_member, from_map, from_start, map_at}
use Rattle.drives.specs.Given.{drive_number, entered, first_given, given_all, given_bit, given_one, given_so_far, port_number}
use Rattle.drives.proofs.GivenLemmas.{entry_given, keys_same, last_given, or_edge, or_none, same_map}

-- ---- the driven bits of all instances, each with its instance

abbrev Spot : Type 0
Spot = Instance × Bit

abbrev spot_key : Spot → Key
spot_key spot = key_in spot.0.path spot.1

abbrev driven_in : Instance → List Bit
driven_in instance = driven_bits (is_top instance) instance.definition

abbrev spots_in : Instance → List Spot
spots_in instance = map (λ bit. (instance, bit)) (driven_in instance)

abbrev spots : Setting → List Spot
spots setting = flat_map spots_in (instances setting)

inner : {X : Type 0} (f : Spot → X) (instance : Instance) (bits : List Bit)
    → map f (map (λ bit. (instance, bit)) bits) ≡ map (λ bit. f (instance, bit)) bits
inner f instance [] = refl
inner f instance (bit ∷ bits) = ap (λ rest. f (instance, bit) ∷ rest) (inner f instance bits)

fused : {X : Type 0} (f : Spot → X) (list : List Instance)
    → map f (flat_map spots_in list) ≡ flat_map (λ instance. map (λ bit. f (instance, bit)) (driven_in instance)) list
fused f [] = refl
fused f (instance ∷ list) =
    map-append f (spots_in instance) (flat_map spots_in list) ∙ (λ j. inner f instance (driven_in instance) j ++ fused f list j)

keys_are : (setting : Setting) → map spot_key (spots setting) ≡ driven_keys setting
keys_are setting = fused spot_key (instances setting)

abbrev entry : List Drive → List Drive → Spot → Option Edge
entry drives ports spot = given_bit drives ports spot.0 spot.1

entries_are : (setting : Setting) (drives ports : List Drive) → map (entry drives ports) (spots setting) ≡ given_so_far setting drives ports
entries_are setting drives ports = fused (entry drives ports) (instances setting)

-- ---- places

number_is : (setting : Setting) (key : Key)
    → place_in (λ spot. same_key key (spot_key spot)) (spots setting) ≡ place_of (driven_keys setting) key
number_is setting key =
    sym (ap (λ keys. place_of keys key) (sym (keys_are setting))
    ∙ from_start (same_key key) (map spot_key (spots setting))
    ∙ from_map (same_key key) spot_key 0 (spots setting)
    ∙ place_from (λ spot. same_key key (spot_key spot)) (spots setting))

driven_there : (top : Bool) (m : Module) (bit : Bit) (o : ℕ) → slice_get (driven_bits top m) o ≡ Some bit
    → number_in (driven_bits top m) bit ≡ Some o
driven_there top m bit o at = bit_place m bit (driven_names top m) (once_kept (is_driven top m) (names m) (firsts_once _)) o at

module _ (setting : Setting) (i : ℕ) (instance : Instance) (placed : IsPlaced setting i instance) where
  -- the place of what stands there among the driven bits, and its instance
  spot_place : (place : ℕ) (spot : Spot) → slice_get (spots setting) place ≡ Some spot
      → place_of (driven_keys setting) (spot_key spot) ≡ Some place
  spot_place place spot at =
      let here : slice_get (driven_keys setting) place ≡ Some (spot_key spot) =
      ap (λ keys. slice_get keys place) (sym (keys_are setting)) ∙ slice_get-map spot_key (spots setting) place ∙ ap (option_map spot_key) at in
      let found : IsKeyOf driven_in (instances setting) place (spot_key spot) =
      key_at_place driven_in (instances setting) place (spot_key spot) here in
      ap (place_of (driven_keys setting)) found.named
      ∙ numbers_bits.driven_place setting found.i found.instance (record { distinct = placed.distinct; there = found.there }) found.bit found.rest
      (driven_there (is_top found.instance) found.instance.definition found.bit found.rest found.here)
      ∙ ap Some (sym found.is)

  spot_instance : (place : ℕ) (spot : Spot) → slice_get (spots setting) place ≡ Some spot
      → spot.0.path ≡ instance.path → spot.0 ≡ instance
  spot_instance place spot at path =
      let found : IsIn spots_in (instances setting) place spot = flat_member spots_in (instances setting) place spot at in
      let bit : (bit : Bit) × (slice_get (driven_in found.member) found.rest ≡ Some bit) × (spot ≡ (found.member, bit)) =
      map_at (λ bit. (found.member, bit)) (driven_in found.member) found.rest spot found.here in
      let same : spot.0 ≡ found.member = ap (λ spot. spot.0) bit.2 in
      let alike : found.i ≡ i = placed.distinct found.i i found.member instance found.there placed.there (ap (λ one. one.path) (sym same) ∙ path) in
      same ∙ same_Some found.member instance (sym found.there ∙ ap (slice_get (instances setting)) alike ∙ placed.there)

  module _ (bit : Bit) (edge : Edge) (f g : Spot → Option Edge) where
    abbrev tested : Spot → Bool
    tested spot = same_key (key_in instance.path bit) (spot_key spot)

    -- the same name of the same module
    abbrev IsAlike : Spot → Type 0
    IsAlike spot = is_input spot.0.definition spot.1.name ≡ is_input instance.definition bit.name

    alike : (place : ℕ) (spot : Spot) → slice_get (spots setting) place ≡ Some spot → tested spot ≡ true → IsAlike spot
    alike place spot at same =
        let key : key_in instance.path bit ≡ spot_key spot = keys_same (key_in instance.path bit) (spot_key spot) same in
        let one : spot.0 ≡ instance = spot_instance place spot at (ap (λ key. key.path) (sym key)) in
        λ j. is_input (one j).definition (sym key j).name

    module _ (apart : (spot : Spot) → tested spot ≡ false → f spot ≡ g spot) where
      none_given : ((spot : Spot) → IsAlike spot → tested spot ≡ true → f spot ≡ g spot) → map f (spots setting) ≡ map g (spots setting)
      none_given there = same_map f g tested edge apart (spots setting) (λ place spot at same. there spot (alike place spot at same) same)

      one_given : ((spot : Spot) → IsAlike spot → tested spot ≡ true → g spot ≡ entered (f spot) edge)
          → given_one (map f (spots setting)) (place_of (driven_keys setting) (key_in instance.path bit)) edge ≡ map g (spots setting)
      one_given there =
          entry_given f g tested edge apart (spots setting) (λ place spot at same. there spot (alike place spot at same) same)
          (λ p q x y at to one two. same_Some p q (sym (spot_place p x at)
          ∙ ap (place_of (driven_keys setting)) (sym (keys_same (key_in instance.path bit) (spot_key x) one)
          ∙ keys_same (key_in instance.path bit) (spot_key y) two)
          ∙ spot_place q y to))
          (place_of (driven_keys setting) (key_in instance.path bit)) (number_is setting (key_in instance.path bit))

  -- ---- one drive more

  -- one more of these, where it is looked at
  module _ (bit : Bit) (edge : Edge) (list : List Drive) where
    abbrev more : List Drive
    more = list ++ (key_in instance.path bit, edge) ∷ []

    last_apart : (key : Key) → same_key (key_in instance.path bit) key ≡ false → first_given list key ≡ first_given more key
    last_apart key differ =
        sym (last_given list (key_in instance.path bit, edge) key
        ∙ ap (λ b. option_or (first_given list key) (cond b (Some edge) None)) differ ∙ or_none (first_given list key))

    last_there : (key : Key) → same_key (key_in instance.path bit) key ≡ true → first_given more key ≡ entered (first_given list key) edge
    last_there key same =
        last_given list (key_in instance.path bit, edge) key
        ∙ ap (λ b. option_or (first_given list key) (cond b (Some edge) None)) same ∙ or_edge (first_given list key) edge

  drive_given : (drives ports : List Drive) (bit : Bit) (edge : Edge)
      → given_one (given_so_far setting drives ports) (drive_number setting instance bit) edge
      ≡ given_so_far setting (drives ++ (key_in instance.path bit, edge) ∷ []) ports
  drive_given drives ports bit edge =
      ap (λ so_far. given_one so_far (drive_number setting instance bit) edge) (sym (entries_are setting drives ports))
      ∙ by (is_input instance.definition bit.name) refl
      ∙ entries_are setting (more bit edge drives) ports
    where
      apart : (spot : Spot) → same_key (key_in instance.path bit) (spot_key spot) ≡ false
          → entry drives ports spot ≡ entry (more bit edge drives) ports spot
      apart spot differ = either (is_input spot.0.definition spot.1.name)
        where
          either : (b : Bool) → first_given (cond b ports drives) (spot_key spot) ≡ first_given (cond b ports (more bit edge drives)) (spot_key spot)
          either true = refl
          either false = last_apart bit edge drives (spot_key spot) differ

      by : (b : Bool) → is_input instance.definition bit.name ≡ b
          → given_one (map (entry drives ports) (spots setting)) (drive_number setting instance bit) edge
          ≡ map (entry (more bit edge drives) ports) (spots setting)
      by true is =
          ap (λ b. given_one (map (entry drives ports) (spots setting))
          (cond b None (place_of (driven_keys setting) (key_in instance.path bit))) edge) is
          ∙ none_given bit edge (entry drives ports) (entry (more bit edge drives) ports) apart (λ spot alike same.
          (λ j. first_given (cond ((alike ∙ is) j) ports drives) (spot_key spot))
          ∙ sym (λ j. first_given (cond ((alike ∙ is) j) ports (more bit edge drives)) (spot_key spot)))
      by false is =
          ap (λ b. given_one (map (entry drives ports) (spots setting))
          (cond b None (place_of (driven_keys setting) (key_in instance.path bit))) edge) is
          ∙ one_given bit edge (entry drives ports) (entry (more bit edge drives) ports) apart (λ spot alike same.
          (λ j. first_given (cond ((alike ∙ is) j) ports (more bit edge drives)) (spot_key spot))
          ∙ last_there bit edge drives (spot_key spot) same
          ∙ sym (λ j. entered (first_given (cond ((alike ∙ is) j) ports drives) (spot_key spot)) edge))

  port_given : (drives ports : List Drive) (bit : Bit) (edge : Edge)
      → given_one (given_so_far setting drives ports) (port_number setting instance bit) edge
      ≡ given_so_far setting drives (ports ++ (key_in instance.path bit, edge) ∷ [])
  port_given drives ports bit edge =
      ap (λ so_far. given_one so_far (port_number setting instance bit) edge) (sym (entries_are setting drives ports))
      ∙ by (is_input instance.definition bit.name) refl
      ∙ entries_are setting drives (more bit edge ports)
    where
      apart : (spot : Spot) → same_key (key_in instance.path bit) (spot_key spot) ≡ false
          → entry drives ports spot ≡ entry drives (more bit edge ports) spot
      apart spot differ = either (is_input spot.0.definition spot.1.name)
        where
          either : (b : Bool) → first_given (cond b ports drives) (spot_key spot) ≡ first_given (cond b (more bit edge ports) drives) (spot_key spot)
          either false = refl
          either true = last_apart bit edge ports (spot_key spot) differ

      by : (b : Bool) → is_input instance.definition bit.name ≡ b
          → given_one (map (entry drives ports) (spots setting)) (port_number setting instance bit) edge
          ≡ map (entry drives (more bit edge ports)) (spots setting)
      by false is =
          ap (λ b. given_one (map (entry drives ports) (spots setting))
          (cond b (place_of (driven_keys setting) (key_in instance.path bit)) None) edge) is
          ∙ none_given bit edge (entry drives ports) (entry drives (more bit edge ports)) apart (λ spot alike same.
          (λ j. first_given (cond ((alike ∙ is) j) ports drives) (spot_key spot))
          ∙ sym (λ j. first_given (cond ((alike ∙ is) j) (more bit edge ports) drives) (spot_key spot)))
      by true is =
          ap (λ b. given_one (map (entry drives ports) (spots setting))
          (cond b (place_of (driven_keys setting) (key_in instance.path bit)) None) edge) is
          ∙ one_given bit edge (entry drives ports) (entry drives (more bit edge ports)) apart (λ spot alike same.
          (λ j. first_given (cond ((alike ∙ is) j) (more bit edge ports) drives) (spot_key spot))
          ∙ last_there bit edge ports (spot_key spot) same
          ∙ sym (λ j. entered (first_given (cond ((alike ∙ is) j) ports drives) (spot_key spot)) edge))

  -- ---- drives one after another

  pub drives_given : (bits : List Bit) (edges : List Edge) (drives ports : List Drive)
      → given_all (given_so_far setting drives ports) (zip (map (drive_number setting instance) bits) edges)
      ≡ given_so_far setting (drives ++ zip (keyed instance.path bits) edges) ports
  drives_given [] edges drives ports = ap (λ drives. given_so_far setting drives ports) (sym (append-nil drives))
  drives_given (bit ∷ bits) [] drives ports = ap (λ drives. given_so_far setting drives ports) (sym (append-nil drives))
  drives_given (bit ∷ bits) (edge ∷ edges) drives ports =
      ap (λ so_far. given_all so_far (zip (map (drive_number setting instance) bits) edges)) (drive_given drives ports bit edge)
      ∙ drives_given bits edges (more bit edge drives) ports
      ∙ ap (λ drives. given_so_far setting drives ports)
      (append_assoc drives ((key_in instance.path bit, edge) ∷ []) (zip (keyed instance.path bits) edges))

  pub ports_given : (bits : List Bit) (edges : List Edge) (drives ports : List Drive)
      → given_all (given_so_far setting drives ports) (zip (map (port_number setting instance) bits) edges)
      ≡ given_so_far setting drives (ports ++ zip (keyed instance.path bits) edges)
  ports_given [] edges drives ports = ap (given_so_far setting drives) (sym (append-nil ports))
  ports_given (bit ∷ bits) [] drives ports = ap (given_so_far setting drives) (sym (append-nil ports))
  ports_given (bit ∷ bits) (edge ∷ edges) drives ports =
      ap (λ so_far. given_all so_far (zip (map (port_number setting instance) bits) edges)) (port_given drives ports bit edge)
      ∙ ports_given bits edges drives (more bit edge ports)
      ∙ ap (given_so_far setting drives)
      (append_assoc ports ((key_in instance.path bit, edge) ∷ []) (zip (keyed instance.path bits) edges))

  -- one edge for all
  pub same_given : (bits : List Bit) (edge : Edge) (drives ports : List Drive)
      → given_all (given_so_far setting drives ports) (map (λ number. (number, edge)) (map (drive_number setting instance) bits))
      ≡ given_so_far setting (drives ++ map (λ key. (key, edge)) (keyed instance.path bits)) ports
  same_given [] edge drives ports = ap (λ drives. given_so_far setting drives ports) (sym (append-nil drives))
  same_given (bit ∷ bits) edge drives ports =
      ap (λ so_far. given_all so_far (map (λ number. (number, edge)) (map (drive_number setting instance) bits)))
      (drive_given drives ports bit edge)
      ∙ same_given bits edge (more bit edge drives) ports
      ∙ ap (λ drives. given_so_far setting drives ports)
      (append_assoc drives ((key_in instance.path bit, edge) ∷ []) (map (λ key. (key, edge)) (keyed instance.path bits)))

-- ---- none so far

constant : {X Y : Type 0} (y : Y) (xs : List X) → map (λ x. y) xs ≡ replicate (length xs) y
constant y [] = refl
constant y (x ∷ xs) = ap (λ ys. y ∷ ys) (constant y xs)

no_entry : (spot : Spot) → entry [] [] spot ≡ None
no_entry spot = either (is_input spot.0.definition spot.1.name)
  where
    either : (b : Bool) → first_given (cond b [] []) (spot_key spot) ≡ None
    either true = refl
    either false = refl

pub none_so_far : (setting : Setting) → given_so_far setting [] [] ≡ replicate (length (driven_keys setting)) None
none_so_far setting =
    sym (entries_are setting [] [])
    ∙ (λ j. map (λ spot. no_entry spot j) (spots setting))
    ∙ constant None (spots setting)
    ∙ ap (λ n. replicate n None) (sym (ap length (sym (keys_are setting)) ∙ length-map (spots setting) spot_key))
