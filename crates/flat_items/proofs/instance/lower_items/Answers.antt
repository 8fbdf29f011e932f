use Rattle.std.proofs.Common.{◌≡◌, Some, ap, arith, slice_get, ◌∙◌}
use Rattle.flat_design.specs.Items.{each, item_given}
use Rattle.flat_items.specs.Carried.{CarriesTo}
use Rattle.flat_items.proofs.CarryLemmas.{found_at, passed_on}
use Rattle.flat_items.proofs.InstanceLemmas.{all_stand, item_stands, items_begin, items_end, items_fail, items_turn, next_stand}
use Rattle.frames.specs.Numbered.{setting_with}
use Rattle.vlog_tree.specs.Meaning.Instances.{Instance, instances}
use Rattle.flat_items.proofs.instance.lower_items.Goals as goal

pub loop-item-init : goal.loop-item-init
loop-item-init c =
    let setting = setting_with c.args.frames.now in
    let items = c.as_slice-items.result.now in
    let are : (instance : Instance) → slice_get (instances setting) c.args.place ≡ Some instance → items ≡ instance.definition.items =
    λ instance at. c.as_slice-items.ensures
    ∙ ap (λ m. m.items) (c.module.ensures ∙ c.nets.ensures ∙ ap (λ it. it.definition) c.places.ensures ∙ c.at.ensures.definition instance at) in (
      items_begin setting c.args.place items c.args.nodes.now c.args.driven.now c.args.current.now,
      all_stand setting c.args.place c.requires.sound items are,
    )

pub lower_item-requires-clause-stands : goal.lower_item-requires-clause-stands
lower_item-requires-clause-stands c =
    let setting = setting_with c.args.frames.now in
    let items = c.as_slice-items.result.now in
    let i = c.loop-item.item-index in
    let item = c.item-item.result in
    let are : (instance : Instance) → slice_get (instances setting) c.args.place ≡ Some instance → items ≡ instance.definition.items =
    λ instance at. c.as_slice-items.ensures
    ∙ ap (λ m. m.items) (c.module.ensures ∙ c.nets.ensures ∙ ap (λ it. it.definition) c.places.ensures ∙ c.at.ensures.definition instance at) in
    item_stands setting c.args.place items i item (found_at items i item (omega arith) c.item-item.is) c.loop-item.inner
    c.loop-item.invariant.1 c.requires.sound are

pub returns-in_err-inner-clause-fault : goal.returns-in_err-inner-clause-fault
returns-in_err-inner-clause-fault c =
    let setting = setting_with c.args.frames.now in
    let items = c.as_slice-items.result.now in
    let i = c.loop-item.item-index in
    let item = c.item-item.result in
    let fault = c.in_err-inner.field-0.0 in
    let are : (instance : Instance) → slice_get (instances setting) c.args.place ≡ Some instance → items ≡ instance.definition.items =
    λ instance at. c.as_slice-items.ensures
    ∙ ap (λ m. m.items) (c.module.ensures ∙ c.nets.ensures ∙ ap (λ it. it.definition) c.places.ensures ∙ c.at.ensures.definition instance at) in
    passed_on (λ fault. (instance : Instance) → slice_get (instances setting) c.args.place ≡ Some instance
    → CarriesTo instance.definition (each (item_given setting instance) instance.definition.items) c.args.nodes.now c.args.current.now fault)
    c.from_residual.result fault c.from_residual.ensures.1
    (items_fail setting c.args.place items i c.loop-item.nodes c.args.nodes.now c.loop-item.driven c.args.driven.now c.loop-item.current
    c.args.current.now c.loop-item.invariant.0 item (found_at items i item (omega arith) c.item-item.is) fault c.in_err-inner.ensures.fault are)

pub loop-item-preserved : goal.loop-item-preserved
loop-item-preserved c =
    let setting = setting_with c.args.frames.now in
    let items = c.as_slice-items.result.now in
    let i = c.loop-item.item-index in
    let item = c.item-item.result in
    let found = found_at items i item (omega arith) c.item-item.is in (
      items_turn setting c.args.place items i c.loop-item.nodes c.args.nodes.now c.loop-item.driven c.args.driven.now c.loop-item.current
          c.args.current.now c.loop-item.invariant.0 item found c.lower_item.new.nodes c.lower_item.new.driven c.lower_item.new.current
          c.in_ok-inner.ensures.given,
      next_stand setting c.args.place items i item found c.loop-item.inner c.loop-item.invariant.1 c.in_ok-inner.inner c.in_ok-inner.ensures.next,
    )

pub returns-clause-given : goal.returns-clause-given
returns-clause-given c =
    let setting = setting_with c.args.frames.now in
    let items = c.as_slice-items.result.now in
    let are : (instance : Instance) → slice_get (instances setting) c.args.place ≡ Some instance → items ≡ instance.definition.items =
    λ instance at. c.as_slice-items.ensures
    ∙ ap (λ m. m.items) (c.module.ensures ∙ c.nets.ensures ∙ ap (λ it. it.definition) c.places.ensures ∙ c.at.ensures.definition instance at) in
    items_end setting c.args.place items c.loop-item.item-index c.loop-item.nodes c.args.nodes.now c.loop-item.driven c.args.driven.now
    c.loop-item.current c.args.current.now c.loop-item.invariant.0 (omega arith) are
