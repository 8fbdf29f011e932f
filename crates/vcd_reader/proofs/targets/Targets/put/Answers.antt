use Rattle.std.proofs.Common.{Some}
use Rattle.std.proofs.lemmas.Map.Text.{hash_map_updates_str}
use Rattle.std.specs.HashMap.{get_by}
use Rattle.std.specs.Str.{bytes_eq}
use Rattle.vcd_reader.proofs.TargetLemmas.{list_updated}
use Rattle.vcd_reader.proofs.targets.Targets.put.Goals as goal

pub returns : goal.returns
returns c = λ other.
    list_updated (λ list. list.items) (λ code. get_by (λ key. bytes_eq code key.now) c.args.self.now.lists) c.args.code.now other (Some c.args.list) (get_by (λ key. bytes_eq other key.now) c.insert.new.self)
    (hash_map_updates_str c.args.code.now c.args.self.now.lists c.insert.new.self (Some c.args.list) c.in_ok-insert.ensures.updates other)
