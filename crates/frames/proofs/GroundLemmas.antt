-- The instances in the list are those of the design.
use Rattle.std.proofs.Common.{◌≡◌, ℕ, ◌+◌, ◌<◌, ◌≤◌, List, [], ◌∷◌, zero, suc, inl, inr, Option, Some, None, refl, sym, ◌∙◌, ap, subst, arith, get_or, length, map, option_map, slice_get}
use Rattle.std.proofs.lemmas.List.{length-map}
use Rattle.std.proofs.lemmas.Option.{same_Some, slice_get-map, slice_get_read}
use Rattle.bm_base.specs.Size.{limit_of}
use Rattle.bm_base.specs.declared.size.Size.TheVariants as size
use Rattle.flat_net.specs.declared.fault.FlatFault.{FlatFault}
use Rattle.vlog_tree.specs.declared.design.Module.{Module}
use Rattle.vlog_tree.specs.Meaning.Instances.{Instance, greatest_depth, instances, top_module}
use Rattle.instances.specs.Placing.{HasShapes, IsRefused, shape_at}
use Rattle.instances.specs.Shapes.{Shape, shapes_from, size_at}
use Rattle.instances.specs.declared.placed.Placed.{Placed}
use Rattle.instances.proofs.StandingLemmas.{top_definitions}
use Rattle.numbering.specs.Numbering.{first_of_expressions}
use Rattle.numbering.specs.Places.{Placing, count_of_bits}
use Rattle.frames.specs.Found.{IsFound, IsGround, placing_for, placing_of}
use Rattle.frames.specs.Numbered.{Numbered, Refuses, setting_with}
use Rattle.frames.proofs.SizeLemmas.{fit_at, fit_shapes}
use Rattle.frames.proofs.TopLemmas.{bits_within, placing_same}

pub some_there : {X : Type 0} (xs : List X) (i : ℕ) → i < length xs → (x : X) × (slice_get xs i ≡ Some x)
some_there [] i within = absurd (omega arith)
some_there (x ∷ xs) zero within = (x, refl)
some_there (x ∷ xs) (suc i) within = some_there xs i (omega arith)

abbrev shape_definition : Shape → Module
shape_definition shape = shape.definition

abbrev definition_of : Instance → Module
definition_of instance = instance.definition

module _ (it : Numbered) (m : Module) (top : top_module (setting_with it) ≡ Some m) where
  definitions : map shape_definition (shapes_from it.design greatest_depth m) ≡ map definition_of (instances (setting_with it))
  definitions = top_definitions it.design greatest_depth (top_module (setting_with it)) m top

  shape_count : length (shapes_from it.design greatest_depth m) ≡ length (instances (setting_with it))
  shape_count =
      sym (length-map (shapes_from it.design greatest_depth m) shape_definition)
      ∙ ap length definitions
      ∙ length-map (instances (setting_with it)) definition_of

  pub all_listed : (list : List Placed) → HasShapes it.design.modules list (shapes_from it.design greatest_depth m)
      → length list ≡ length (instances (setting_with it))
  all_listed list shapes =
      sym (length-map list (shape_at it.design.modules))
      ∙ ap length shapes
      ∙ length-map (shapes_from it.design greatest_depth m) (λ (shape : Shape). Some shape)
      ∙ shape_count

  -- What refuses so many shapes refuses the instances.
  pub too_many_instances : (why : FlatFault) → IsRefused (length (shapes_from it.design greatest_depth m)) why
      → Refuses (setting_with it) why
  too_many_instances why (inl memory) = subst (Refuses (setting_with it)) (sym memory) tt
  too_many_instances why (inr large) =
      subst (Refuses (setting_with it)) (sym large.0)
      (inl (refl, subst (λ n. limit_of size.Instances < n) shape_count large.1))

module _ (it : Numbered) (list : List Placed) (found : List (Option Placing)) (ground : IsGround it list found) where
  pub counted : length list ≡ length (instances (setting_with it))
  counted = all_listed it ground.ready.top.0 ground.ready.top.1 list ground.shapes

  pub shaped_by : (m : Module) → top_module (setting_with it) ≡ Some m
      → HasShapes it.design.modules list (shapes_from it.design greatest_depth m)
  shaped_by m top =
      subst (λ m. HasShapes it.design.modules list (shapes_from it.design greatest_depth m))
      (same_Some ground.ready.top.0 m (sym ground.ready.top.1 ∙ top)) ground.shapes

  pub sized_within : (place size : ℕ) → size ≡ size_at (shapes_from it.design greatest_depth ground.ready.top.0) place
      → place < length (instances (setting_with it))
      → place + size ≤ length (instances (setting_with it))
  sized_within place size is there =
      let shapes = shapes_from it.design greatest_depth ground.ready.top.0 in
      let many = shape_count it ground.ready.top.0 ground.ready.top.1 in
      let few = fit_at shapes place (fit_shapes it.design greatest_depth ground.ready.top.0) (omega (arith, many, there)) in
      omega (arith, is, few, many)

  module _ (place number : ℕ) (one : Option Placing) (items : List (Option Placing)) (within : number < length it.design.modules)
      (shaped : slice_get it.design.modules number
      ≡ option_map (λ (shape : Shape). shape.definition) (slice_get (shapes_from it.design greatest_depth ground.ready.top.0) place))
      (same : items ≡ found) (is : one ≡ get_or items number one) where
    definition_at : (instance : Instance) → slice_get (instances (setting_with it)) place ≡ Some instance
        → slice_get it.design.modules number ≡ Some instance.definition
    definition_at instance at =
        shaped
        ∙ sym (slice_get-map shape_definition (shapes_from it.design greatest_depth ground.ready.top.0) place)
        ∙ ap (λ ms. slice_get ms place) (definitions it ground.ready.top.0 ground.ready.top.1)
        ∙ slice_get-map definition_of (instances (setting_with it)) place
        ∙ ap (option_map definition_of) at

    here : slice_get found number ≡ Some one
    here =
        ap (λ places. slice_get places number) (sym same)
        ∙ slice_get_read items (length it.design.modules) number one (sym ground.places.counted ∙ ap length (sym same)) within is

    found_at : (instance : Instance) → slice_get (instances (setting_with it)) place ≡ Some instance → IsFound it instance.definition one
    found_at instance at = ground.places.each number instance.definition one (definition_at instance at) here

    pub placed_so : (places : Placing) → one ≡ Some places → (instance : Instance)
        → slice_get (instances (setting_with it)) place ≡ Some instance → places ≡ placing_for it instance
    placed_so places is_some instance at =
        subst (IsFound it instance.definition) is_some (found_at instance at)
        ∙ placing_same it ground.ready place instance at

    pub too_many_bits : one ≡ None → place < length (instances (setting_with it)) → limit_of size.Nodes < first_of_expressions (setting_with it)
    too_many_bits is_none there =
        let instance = some_there (instances (setting_with it)) place there in
        let more : limit_of size.Nodes < count_of_bits (placing_of it instance.0.definition) =
        subst (IsFound it instance.0.definition) is_none (found_at instance.0 instance.1) (ground.ready.reached place instance.0 instance.1) in
        let few : count_of_bits (placing_of it instance.0.definition) ≤ first_of_expressions (setting_with it) =
        bits_within it ground.ready place instance.0 instance.1 in
        omega arith
