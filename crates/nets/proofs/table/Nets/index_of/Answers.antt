use Rattle.std.proofs.Common.{ap, is_some, ◌∙◌}
use Rattle.std.specs.Prelude.{position}
use Rattle.std.specs.Str.{bytes_eq}
use Rattle.vlog_tree.specs.Meaning.Ranges.{range_of}
use Rattle.nets.specs.Nets.{nets}
use Rattle.nets.proofs.NameLemmas.{found_place, found_where_ranged}
use Rattle.nets.proofs.table.Nets.index_of.Goals as goal

pub returns-clause-place : goal.returns-clause-place
returns-clause-place c =
    c.get_index_of.ensures.index
    ∙ found_place c.self.inside.m.now c.args.name.now c.self.inside.entries.entries c.self.invariant.0
    ∙ ap (λ m. position (λ entry. bytes_eq c.args.name.now entry.0) (nets m)) c.self.view_is

pub returns-clause-found : goal.returns-clause-found
returns-clause-found c =
    c.get_index_of.ensures.found
    ∙ found_where_ranged c.self.inside.m.now c.args.name.now c.self.inside.entries.entries c.self.invariant.0
    ∙ ap (λ m. is_some (range_of m c.args.name.now)) c.self.view_is
