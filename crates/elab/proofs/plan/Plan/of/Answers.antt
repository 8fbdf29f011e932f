use Rattle.std.proofs.Common.{ap, sym, ◌∙◌}
use Rattle.hierarchy.specs.Graph.{place_among}
use Rattle.vlog_tree.specs.Meaning.Instances.{module_named}
use Rattle.elab.specs.Placed.{setup_with}
use Rattle.elab.proofs.NarrowLemmas.{narrow_top}
use Rattle.elab.proofs.PlaceLemmas.{planned}
use Rattle.elab.proofs.plan.Plan.of.Goals as goal

pub labels_of-requires : goal.labels_of-requires
labels_of-requires c = narrow_top c.args.design.now.design c.args.design.now.top c.top.result.now c.top.ensures c.requires.kept

pub returns : goal.returns
returns c =
    planned c.args.design.now.design c.args.names.now c.top.result.now
    (sym (ap (module_named c.args.design.now.design) c.requires.top) ∙ c.top.ensures)
    c.top-top.result c.in_ok-labels.labels c.in_ok-setup.setup
    (sym (ap (λ topped. place_among topped.design.modules topped.top) c.hierarchy.ensures ∙ ap (place_among c.args.design.now.design.modules) c.requires.top)
    ∙ c.top-top.ensures.place)
    c.in_ok-labels.ensures
    (c.in_ok-setup.ensures ∙ ap (λ ports. setup_with c.args.names.now ports) c.as_slice.ensures)
