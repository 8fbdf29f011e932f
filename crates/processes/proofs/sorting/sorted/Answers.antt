use Rattle.std.proofs.Common.{◌==◌, ap, ◌∙◌}
use Rattle.std.specs.List.{list_any}
use Rattle.processes.proofs.OrderLemmas.{holds_present}
use Rattle.processes.proofs.sorting.sorted.Goals as goal

pub returns-clause-same : goal.returns-clause-same
returns-clause-same c number =
    c.sort.ensures.same number ∙ ap (list_any (λ other. number == other)) c.in_ok-sorted.ensures ∙ holds_present number c.args.numbers.now
