use Rattle.std.proofs.Common.{ap, map, subst, sym, vec_items, ◌∙◌}
use Rattle.vlog_tree.specs.Meaning.Instances.{greatest_depth}
use Rattle.hierarchy.specs.Graph.{IsClosed}
use Rattle.hierarchy.proofs.DesignLemmas.{closed_graph}
use Rattle.instances.proofs.TreeLemmas.{listed, listed_refused, listed_within}
use Rattle.instances.proofs.instances.Instances.of.Goals as goal

pub add_instance-requires-clause-closed : goal.add_instance-requires-clause-closed
add_instance-requires-clause-closed c =
    subst IsClosed (sym (ap (map vec_items) c.deref.ensures.value ∙ c.in_ok-graph.ensures))
    (closed_graph c.args.hierarchy.now.design.modules)

pub returns-in_err-add_instance-clause-refused : goal.returns-in_err-add_instance-clause-refused
returns-in_err-add_instance-clause-refused c =
    listed_refused c.args.hierarchy.now.design (map vec_items c.deref.result.now)
    (ap (map vec_items) c.deref.ensures.value ∙ c.in_ok-graph.ensures)
    greatest_depth c.top.result c.from_residual-in_err-add_instance.result c.in_err-add_instance.field-0.0 c.new-list.result _
    c.from_residual-in_err-add_instance.ensures.1 c.top.ensures.top c.new-list.ensures c.in_err-add_instance.ensures.refused

pub returns-clause-shapes : goal.returns-clause-shapes
returns-clause-shapes c = λ m.
    listed c.args.hierarchy.now.design (map vec_items c.deref.result.now) (ap (map vec_items) c.deref.ensures.value ∙ c.in_ok-graph.ensures)
    greatest_depth c.top.result c.add_instance.new.list c.new-list.result m _
    c.top.ensures.top c.new-list.ensures c.in_ok-add_instance.ensures.added

pub returns-clause-within : goal.returns-clause-within
returns-clause-within c =
    listed_within c.args.hierarchy.now.design (map vec_items c.deref.result.now)
    (ap (map vec_items) c.deref.ensures.value ∙ c.in_ok-graph.ensures)
    greatest_depth c.top.result c.add_instance.new.list c.new-list.result c.top.ensures.within c.new-list.ensures
    c.in_ok-add_instance.ensures.added
