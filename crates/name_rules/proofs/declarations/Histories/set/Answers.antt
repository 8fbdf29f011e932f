use Rattle.std.proofs.Common.{Some}
use Rattle.std.proofs.lemmas.Map.Text.{hash_map_updates_str}
use Rattle.name_rules.proofs.declarations.Histories.set.Goals as goal

pub returns : goal.returns
returns c = λ name.
    hash_map_updates_str c.args.name.now c.args.self.now.histories c.insert.new.self (Some c.args.history) c.in_ok-insert.ensures.updates name
