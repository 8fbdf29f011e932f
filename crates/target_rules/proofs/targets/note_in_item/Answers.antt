use Rattle.std.proofs.Common.{ap, flat_map, fold, sym, ◌∙◌}
use Rattle.std.specs.List.{enumerate_from}
use Rattle.std.specs.Option.{option_map}
use Rattle.hierarchy.specs.Failures.{earlier}
use Rattle.vlog_tree.specs.Meaning.Instances.{module_named}
use Rattle.target_rules.proofs.LinkLemmas.{instance_noted}
use Rattle.target_rules.specs.Judged.{bad_link}
use Rattle.target_rules.specs.Targets.{bad_targets_in}
use Rattle.target_rules.proofs.targets.note_in_item.Goals as goal

pub returns-in-Some : goal.returns-in-Some
returns-in-Some c =
    let m = c.args.nets.now in
    let inner = c.in-Some.inner.now in
    let i = c.in-Instance in
    c.note_links.ensures
    ∙ (ap (λ links. fold earlier c.args.found.now (flat_map (bad_link m inner) (enumerate_from 0 links))) c.as_slice-in-Some.ensures
    ∙ ap (fold earlier c.args.found.now)
    (sym (instance_noted c.args.design.now.design m inner c.args.item.now i.at i.module i.name i.links i.is
    (ap (module_named c.args.design.now.design) (sym c.bytes.ensures)
    ∙ (sym c.named.ensures ∙ ap (option_map (λ nets. nets.now)) c.in-Some.is)))))

pub returns-in-Initial : goal.returns-in-Initial
returns-in-Initial c =
    c.note_name.ensures
    ∙ ap (λ i. fold earlier c.args.found.now (bad_targets_in c.args.design.now.design c.args.nets.now i)) (sym c.in-Initial.is)
