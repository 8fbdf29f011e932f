use Rattle.std.proofs.Common.{◌≡◌, Some, slice_get, sym, ◌∙◌}
use Rattle.flat_design.specs.Items.{item_given}
use Rattle.flat_items.specs.Carried.{CarriesTo}
use Rattle.flat_items.proofs.CarryLemmas.{passed_on}
use Rattle.flat_items.proofs.FrameLemmas.{frame_of}
use Rattle.flat_items.proofs.ItemLemmas.{always_carried, always_fails, form_fails, inner_below, inner_carried, inner_fails, next_place, of_form}
use Rattle.frames.specs.Numbered.{setting_with}
use Rattle.vlog_tree.specs.declared.item.Item.TheVariants as item
use Rattle.vlog_tree.specs.Meaning.Instances.{Instance, instances}
use Rattle.flat_items.proofs.item.lower_item.Goals as goal

-- ---- an assignment

pub returns-in_err-lower_assign-in-Assign-clause-fault : goal.returns-in_err-lower_assign-in-Assign-clause-fault
returns-in_err-lower_assign-in-Assign-clause-fault c =
    let setting = setting_with c.args.frames.now in
    let it = c.args.item.now in
    let start = c.args.nodes.now in
    let was = c.args.current.now in
    let fault = c.in_err-lower_assign-in-Assign.field-0.0 in
    let frame = frame_of setting c.requires.sound c.args.place c.at-frame.result c.at-frame.ensures.definition c.at-frame.ensures.wires c.at-frame.ensures.driven in
    passed_on (λ fault. (instance : Instance) → slice_get (instances setting) c.args.place ≡ Some instance
    → CarriesTo instance.definition (item_given setting instance it) start was fault)
    c.from_residual.result fault c.from_residual.ensures.1
    (λ instance at. form_fails setting instance it (item.Assign c.in-Assign.at c.in-Assign.left c.in-Assign.right) c.in-Assign.is start was fault
    (c.in_err-lower_assign-in-Assign.ensures.fault setting c.args.place instance (frame instance at) was))

pub returns-in_ok-lower_assign-in-Assign-clause-given : goal.returns-in_ok-lower_assign-in-Assign-clause-given
returns-in_ok-lower_assign-in-Assign-clause-given c instance at =
    let setting = setting_with c.args.frames.now in
    let was = c.args.current.now in
    let frame = frame_of setting c.requires.sound c.args.place c.at-frame.result c.at-frame.ensures.definition c.at-frame.ensures.wires c.at-frame.ensures.driven in
    of_form setting instance c.args.item.now (item.Assign c.in-Assign.at c.in-Assign.left c.in-Assign.right) c.in-Assign.is c.args.nodes.now
    c.lower_assign.new.nodes c.args.driven.now c.lower_assign.new.driven was was
    (c.in_ok-lower_assign-in-Assign.ensures.given setting c.args.place instance (frame instance at) was)

-- ---- a gate

pub returns-in_err-lower_gate-in-Gate-clause-fault : goal.returns-in_err-lower_gate-in-Gate-clause-fault
returns-in_err-lower_gate-in-Gate-clause-fault c =
    let setting = setting_with c.args.frames.now in
    let it = c.args.item.now in
    let start = c.args.nodes.now in
    let was = c.args.current.now in
    let fault = c.in_err-lower_gate-in-Gate.field-0.0 in
    let frame = frame_of setting c.requires.sound c.args.place c.at-frame.result c.at-frame.ensures.definition c.at-frame.ensures.wires c.at-frame.ensures.driven in
    let form = item.Gate c.in-Gate.at c.in-Gate.kind c.in-Gate.name c.as_slice.result.now c.as_slice-in-Gate.result.now in
    let is : it ≡ form =
    c.in-Gate.is ∙ (λ j. item.Gate c.in-Gate.at c.in-Gate.kind c.in-Gate.name (sym c.as_slice.ensures j) (sym c.as_slice-in-Gate.ensures j)) in
    passed_on (λ fault. (instance : Instance) → slice_get (instances setting) c.args.place ≡ Some instance
    → CarriesTo instance.definition (item_given setting instance it) start was fault)
    c.from_residual-in_err-lower_gate-in-Gate.result fault c.from_residual-in_err-lower_gate-in-Gate.ensures.1
    (λ instance at. form_fails setting instance it form is start was fault
    (c.in_err-lower_gate-in-Gate.ensures.fault setting c.args.place instance (frame instance at) was))

pub returns-in_ok-lower_gate-in-Gate-clause-given : goal.returns-in_ok-lower_gate-in-Gate-clause-given
returns-in_ok-lower_gate-in-Gate-clause-given c instance at =
    let setting = setting_with c.args.frames.now in
    let was = c.args.current.now in
    let frame = frame_of setting c.requires.sound c.args.place c.at-frame.result c.at-frame.ensures.definition c.at-frame.ensures.wires c.at-frame.ensures.driven in
    let form = item.Gate c.in-Gate.at c.in-Gate.kind c.in-Gate.name c.as_slice.result.now c.as_slice-in-Gate.result.now in
    let is : c.args.item.now ≡ form =
    c.in-Gate.is ∙ (λ j. item.Gate c.in-Gate.at c.in-Gate.kind c.in-Gate.name (sym c.as_slice.ensures j) (sym c.as_slice-in-Gate.ensures j)) in
    of_form setting instance c.args.item.now form is c.args.nodes.now c.lower_gate.new.nodes c.args.driven.now c.lower_gate.new.driven was was
    (c.in_ok-lower_gate-in-Gate.ensures.given setting c.args.place instance (frame instance at) was)

-- ---- an instance

pub at-child-requires : goal.at-child-requires
at-child-requires c =
    inner_below (setting_with c.args.frames.now) c.args.place c.args.inner c.args.item.now c.requires.stands c.in-Instance.at
    c.in-Instance.module c.in-Instance.name c.in-Instance.links c.in-Instance.is c.requires.inside

pub next_inner-requires : goal.next_inner-requires
next_inner-requires c =
    inner_below (setting_with c.args.frames.now) c.args.place c.args.inner c.args.item.now c.requires.stands c.in-Instance.at
    c.in-Instance.module c.in-Instance.name c.in-Instance.links c.in-Instance.is c.requires.inside

pub returns-in_err-lower_links-in-Instance-clause-fault : goal.returns-in_err-lower_links-in-Instance-clause-fault
returns-in_err-lower_links-in-Instance-clause-fault c =
    let setting = setting_with c.args.frames.now in
    let it = c.args.item.now in
    let links = c.as_slice-in-Instance.result.now in
    let start = c.args.nodes.now in
    let was = c.args.current.now in
    let fault = c.in_err-lower_links-in-Instance.field-0.0 in
    let frame = frame_of setting c.requires.sound c.args.place c.at-frame.result c.at-frame.ensures.definition c.at-frame.ensures.wires c.at-frame.ensures.driven in
    let child = frame_of setting c.requires.sound c.args.inner c.at-child.result c.at-child.ensures.definition c.at-child.ensures.wires c.at-child.ensures.driven in
    let is : it ≡ item.Instance c.in-Instance.at c.in-Instance.module c.in-Instance.name links =
    c.in-Instance.is ∙ (λ j. item.Instance c.in-Instance.at c.in-Instance.module c.in-Instance.name (sym c.as_slice-in-Instance.ensures j)) in
    passed_on (λ fault. (instance : Instance) → slice_get (instances setting) c.args.place ≡ Some instance
    → CarriesTo instance.definition (item_given setting instance it) start was fault)
    c.from_residual-in_err-lower_links-in-Instance.result fault c.from_residual-in_err-lower_links-in-Instance.ensures.1
    (λ instance at. inner_fails setting c.args.place c.args.inner it c.requires.stands c.in-Instance.at c.in-Instance.module c.in-Instance.name links is
    instance at c.at-frame.result c.at-child.result (frame instance at) child start was fault c.in_err-lower_links-in-Instance.ensures.fault)

pub returns-in_ok-lower_links-in-Instance-clause-given : goal.returns-in_ok-lower_links-in-Instance-clause-given
returns-in_ok-lower_links-in-Instance-clause-given c instance at =
    let setting = setting_with c.args.frames.now in
    let it = c.args.item.now in
    let links = c.as_slice-in-Instance.result.now in
    let frame = frame_of setting c.requires.sound c.args.place c.at-frame.result c.at-frame.ensures.definition c.at-frame.ensures.wires c.at-frame.ensures.driven in
    let child = frame_of setting c.requires.sound c.args.inner c.at-child.result c.at-child.ensures.definition c.at-child.ensures.wires c.at-child.ensures.driven in
    let is : it ≡ item.Instance c.in-Instance.at c.in-Instance.module c.in-Instance.name links =
    c.in-Instance.is ∙ (λ j. item.Instance c.in-Instance.at c.in-Instance.module c.in-Instance.name (sym c.as_slice-in-Instance.ensures j)) in
    inner_carried setting c.args.place c.args.inner it c.requires.stands c.in-Instance.at c.in-Instance.module c.in-Instance.name links is
    instance at c.at-frame.result c.at-child.result (frame instance at) child c.args.nodes.now c.lower_links.new.nodes c.args.driven.now
    c.lower_links.new.driven c.args.current.now c.in_ok-lower_links-in-Instance.ensures.given

pub returns-in_ok-lower_links-in-Instance-clause-next : goal.returns-in_ok-lower_links-in-Instance-clause-next
returns-in_ok-lower_links-in-Instance-clause-next c =
    next_place (setting_with c.args.frames.now) c.args.place c.args.inner c.args.item.now c.requires.stands c.in-Instance.at
    c.in-Instance.module c.in-Instance.name c.in-Instance.links c.in-Instance.is c.requires.inside c.next_inner.result c.next_inner.ensures.size

-- ---- `always`

pub returns-in_err-lower_statement-in-Always-clause-fault : goal.returns-in_err-lower_statement-in-Always-clause-fault
returns-in_err-lower_statement-in-Always-clause-fault c =
    let setting = setting_with c.args.frames.now in
    let it = c.args.item.now in
    let start = c.args.nodes.now in
    let was = c.args.current.now in
    let fault = c.in_err-lower_statement-in-Always.field-0.0 in
    let frame = frame_of setting c.requires.sound c.args.place c.at-frame.result c.at-frame.ensures.definition c.at-frame.ensures.wires c.at-frame.ensures.driven in
    passed_on (λ fault. (instance : Instance) → slice_get (instances setting) c.args.place ≡ Some instance
    → CarriesTo instance.definition (item_given setting instance it) start was fault)
    c.from_residual-in_err-lower_statement-in-Always.result fault c.from_residual-in_err-lower_statement-in-Always.ensures.1
    (λ instance at. form_fails setting instance it (item.Always c.in-Always.at c.in-Always.clock c.in-Always.body) c.in-Always.is start was fault
    (always_fails setting c.args.place instance c.at-frame.result (frame instance at) c.in-Always.body start was fault
    c.in_err-lower_statement-in-Always.ensures.fault))

pub returns-in_ok-lower_statement-in-Always-clause-given : goal.returns-in_ok-lower_statement-in-Always-clause-given
returns-in_ok-lower_statement-in-Always-clause-given c instance at =
    let setting = setting_with c.args.frames.now in
    let was = c.args.current.now in
    let now = c.lower_statement.new.current in
    let frame = frame_of setting c.requires.sound c.args.place c.at-frame.result c.at-frame.ensures.definition c.at-frame.ensures.wires c.at-frame.ensures.driven in
    of_form setting instance c.args.item.now (item.Always c.in-Always.at c.in-Always.clock c.in-Always.body) c.in-Always.is c.args.nodes.now
    c.lower_statement.new.nodes c.args.driven.now c.args.driven.now was now
    (always_carried setting c.args.place instance c.at-frame.result (frame instance at) c.in-Always.body c.args.nodes.now
    c.lower_statement.new.nodes c.args.driven.now was now
    (c.in_ok-lower_statement-in-Always.ensures.current, c.in_ok-lower_statement-in-Always.ensures.nodes))
