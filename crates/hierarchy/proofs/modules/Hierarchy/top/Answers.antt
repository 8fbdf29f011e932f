use Rattle.std.proofs.Common.{◌≡◌, ◌<◌, length, slice_get, subst}
use Rattle.vlog_tree.specs.Meaning.Instances.{module_named}
use Rattle.hierarchy.specs.Indexed.{Topped}
use Rattle.hierarchy.specs.Places.{place_in}
use Rattle.hierarchy.proofs.RuleLemmas.{top_module_is}
use Rattle.hierarchy.proofs.modules.Hierarchy.top.Goals as goal

pub returns-clause-top : goal.returns-clause-top
returns-clause-top c =
    let P : Topped → Type 0 = λ it. slice_get it.design.modules c.self.inside.top ≡ module_named it.design it.top in
    subst P c.self.view_is (top_module_is c.self.inside.design.now c.self.inside.top (place_in c.self.inside.places) c.self.inside.reach c.self.invariant)

pub returns-clause-within : goal.returns-clause-within
returns-clause-within c =
    let P : Topped → Type 0 = λ it. c.self.inside.top < length it.design.modules in
    subst P c.self.view_is c.self.invariant.within
