use Rattle.std.proofs.Common.{◌≡◌, ◌<◌, ◌∙◌, length, subst}
use Rattle.hierarchy.specs.Graph.{name_at, walks_to}
use Rattle.hierarchy.specs.Indexed.{Topped}
use Rattle.hierarchy.specs.Places.{place_in}
use Rattle.hierarchy.specs.Reach.{reaches}
use Rattle.hierarchy.proofs.RuleLemmas.{reached_is}
use Rattle.hierarchy.proofs.modules.Hierarchy.is_reached.Goals as goal

pub returns : goal.returns
returns c =
    let P : Topped → Type 0 =
    λ it. c.args.place < length it.design.modules → walks_to c.self.inside.reach.graph c.self.inside.reach.top c.args.place ≡ reaches it.design it.top (name_at it.design.modules c.args.place) in
    c.is_reached.ensures ∙ subst P c.self.view_is
    (reached_is c.self.inside.design.now c.self.inside.top (place_in c.self.inside.places) c.self.inside.reach c.self.invariant c.args.place) c.requires
