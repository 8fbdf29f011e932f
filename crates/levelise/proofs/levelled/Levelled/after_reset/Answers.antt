use Rattle.levelise.proofs.RowLemmas.{row_counted}
use Rattle.levelise.proofs.levelled.Levelled.after_reset.Goals as goal

pub after_rows-requires-clause-row : goal.after_rows-requires-clause-row
after_rows-requires-clause-row c =
    row_counted c.args.self.now.net c.args.reset.bit _ c.in_ok-row.row c.in_ok-row.ensures
