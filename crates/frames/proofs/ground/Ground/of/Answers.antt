use Rattle.std.proofs.Common.{◌≡◌, ◌≤◌, length, subst, Some}
use Rattle.hierarchy.specs.Indexed.{Topped}
use Rattle.instances.specs.Placing.{HasShapes, IsRefused, IsWithin}
use Rattle.instances.specs.Shapes.{shapes_from}
use Rattle.vlog_tree.specs.declared.design.Module.{Module}
use Rattle.vlog_tree.specs.Meaning.Instances.{greatest_depth, module_named}
use Rattle.frames.specs.Numbered.{Refuses, numbered, setting_with}
use Rattle.frames.proofs.GroundLemmas.{all_listed, too_many_instances}
use Rattle.frames.proofs.TopLemmas.{passed_on}
use Rattle.frames.proofs.ground.Ground.of.Goals as goal

pub returns-in_err-instances-clause-refused : goal.returns-in_err-instances-clause-refused
returns-in_err-instances-clause-refused c =
    let P : Topped → Type 0 = λ topped. (m : Module) → module_named topped.design topped.top ≡ Some m
    → IsRefused (length (shapes_from topped.design greatest_depth m)) c.in_err-instances.field-0.0 in
    let it = numbered c.args.design.now c.args.clock.now in
    passed_on (Refuses (setting_with it)) c.from_residual.result c.in_err-instances.field-0.0 c.from_residual.ensures.1
    (too_many_instances it c.requires.top.0 c.requires.top.1 c.in_err-instances.field-0.0
    (subst P c.hierarchy.ensures c.in_err-instances.ensures.refused c.requires.top.0 c.requires.top.1))

pub invariant_of-result : goal.invariant_of-result
invariant_of-result c =
    let P : Topped → Type 0 = λ topped. (m : Module) → module_named topped.design topped.top ≡ Some m
    → HasShapes topped.design.modules c.in_ok-instances.instances (shapes_from topped.design greatest_depth m) in
    let W : Topped → Type 0 = λ topped. IsWithin (length topped.design.modules) c.in_ok-instances.instances in
    record {
      ready = c.requires;
      shapes = subst P c.hierarchy.ensures c.in_ok-instances.ensures.shapes c.requires.top.0 c.requires.top.1;
      within = subst W c.hierarchy.ensures c.in_ok-instances.ensures.within;
      limited = c.in_ok-instances.ensures.limited;
      places = c.in_ok-places.ensures;
    }

pub returns-clause-limited : goal.returns-clause-limited
returns-clause-limited c =
    let P : Topped → Type 0 = λ topped. (m : Module) → module_named topped.design topped.top ≡ Some m
    → HasShapes topped.design.modules c.in_ok-instances.instances (shapes_from topped.design greatest_depth m) in
    subst (λ n. n ≤ 1048576)
    (all_listed (numbered c.args.design.now c.args.clock.now) c.requires.top.0 c.requires.top.1 c.in_ok-instances.instances
    (subst P c.hierarchy.ensures c.in_ok-instances.ensures.shapes c.requires.top.0 c.requires.top.1))
    c.in_ok-instances.ensures.limited
