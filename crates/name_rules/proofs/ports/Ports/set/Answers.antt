use Rattle.std.proofs.Common.{Some}
use Rattle.std.proofs.lemmas.Map.Text.{hash_map_updates_str}
use Rattle.name_rules.proofs.ports.Ports.set.Goals as goal

pub returns : goal.returns
returns c = λ name.
    hash_map_updates_str c.args.port.now c.args.self.now.named c.insert.new.self (Some c.args.is_named) c.in_ok-insert.ensures.updates name
