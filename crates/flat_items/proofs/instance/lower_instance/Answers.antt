use Rattle.std.proofs.Common.{◌≡◌, Some, map, slice_get}
use Rattle.flat_design.specs.Instances.{own_edges}
use Rattle.flat_items.specs.Whole.{InstanceGivesTo}
use Rattle.flat_items.proofs.CarryLemmas.{passed_on}
use Rattle.flat_items.proofs.FrameLemmas.{frame_of}
use Rattle.flat_items.proofs.InstanceLemmas.{whole_fails, whole_gives}
use Rattle.frames.specs.Numbered.{setting_with}
use Rattle.numbering.specs.Bits.{register_bits}
use Rattle.vlog_tree.specs.Meaning.Instances.{Instance, instances}
use Rattle.flat_items.proofs.instance.lower_instance.Goals as goal

pub returns-in_err-lower_items-clause-fault : goal.returns-in_err-lower_items-clause-fault
returns-in_err-lower_items-clause-fault c =
    let setting = setting_with c.args.frames.now in
    let was = c.in_ok-current.current in
    let fault = c.in_err-lower_items.field-0.0 in
    let own : (instance : Instance) → slice_get (instances setting) c.args.place ≡ Some instance
    → was ≡ map (own_edges setting instance) (register_bits instance.definition) =
    λ instance at. c.in_ok-current.ensures.edges setting c.args.place instance
    (frame_of setting c.requires.sound c.args.place c.at.result c.at.ensures.definition c.at.ensures.wires c.at.ensures.driven instance at) in
    passed_on (InstanceGivesTo setting c.args.place c.args.nodes.now) c.from_residual-in_err-lower_items.result fault
    c.from_residual-in_err-lower_items.ensures.1
    (whole_fails setting c.args.place was own c.args.nodes.now fault c.in_err-lower_items.ensures.fault)

pub returns-clause-given : goal.returns-clause-given
returns-clause-given c =
    let setting = setting_with c.args.frames.now in
    let was = c.in_ok-current.current in
    let own : (instance : Instance) → slice_get (instances setting) c.args.place ≡ Some instance
    → was ≡ map (own_edges setting instance) (register_bits instance.definition) =
    λ instance at. c.in_ok-current.ensures.edges setting c.args.place instance
    (frame_of setting c.requires.sound c.args.place c.at.result c.at.ensures.definition c.at.ensures.wires c.at.ensures.driven instance at) in
    whole_gives setting c.args.place was own c.args.nodes.now c.lower_items.new.nodes c.args.driven.now c.lower_items.new.driven
    c.lower_items.new.current c.args.registers.now c.append.new.self c.in_ok-lower_items.ensures.given c.in_ok-append.ensures
