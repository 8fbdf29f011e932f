use Rattle.std.proofs.Common.{◌==◌, ap, sym, ◌∙◌}
use Rattle.std.proofs.lemmas.List.Filters.{dedup_is}
use Rattle.std.proofs.lemmas.List.Sorted.{list_any-IsPermutation}
use Rattle.std.proofs.lemmas.Map.Keys.{IsStrictlyIncreasing-dedup}
use Rattle.std.specs.List.{list_any}
use Rattle.processes.proofs.SortLemmas.{once}
use Rattle.processes.proofs.sorting.sort.Goals as goal

pub returns-clause-rises : goal.returns-clause-rises
returns-clause-rises c =
    let is = dedup_is _ _ _ c.dedup.ensures.filtered in
    rw is (IsStrictlyIncreasing-dedup _ c.sort_unstable.ensures.sorted)

pub returns-clause-same : goal.returns-clause-same
returns-clause-same c number =
    let is = dedup_is _ _ _ c.dedup.ensures.filtered in
    ap (list_any (λ other. number == other)) is
    ∙ once number c.sort_unstable.new.self.items
    ∙ sym (list_any-IsPermutation (λ other. number == other) c.args.numbers.now.items c.sort_unstable.new.self.items c.sort_unstable.ensures.permutation)
