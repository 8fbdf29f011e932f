use Rattle.std.proofs.Common.{Some}
use Rattle.std.proofs.lemmas.Map.Text.{hash_map_updates_str}
use Rattle.vcd_header.proofs.sizes.Sizes.insert.Goals as goal

pub returns-clause-ok : goal.returns-clause-ok
returns-clause-ok c = λ other.
    hash_map_updates_str c.args.code.now c.args.self.now.sizes c.insert.new.self (Some c.args.size) c.in_ok-insert.ensures.updates other
