use Rattle.std.proofs.Common.{None}
use Rattle.std.proofs.lemmas.Map.Text.{hash_map_updates_str}
use Rattle.std.specs.HashMap.{get_by}
use Rattle.std.specs.Str.{bytes_eq}
use Rattle.vcd_reader.proofs.TargetLemmas.{list_updated}
use Rattle.vcd_reader.proofs.targets.Targets.take.Goals as goal

pub returns-in-Some-clause-rest : goal.returns-in-Some-clause-rest
returns-in-Some-clause-rest c = λ other.
    list_updated (λ list. list.items) (λ code. get_by (λ key. bytes_eq code key.now) c.args.self.now.lists) c.args.code.now other None (get_by (λ key. bytes_eq other key.now) c.remove.new.self)
    (hash_map_updates_str c.args.code.now c.args.self.now.lists c.remove.new.self None c.remove.ensures.updates other)

pub returns-in-None-clause-rest : goal.returns-in-None-clause-rest
returns-in-None-clause-rest c = λ other.
    list_updated (λ list. list.items) (λ code. get_by (λ key. bytes_eq code key.now) c.args.self.now.lists) c.args.code.now other None (get_by (λ key. bytes_eq other key.now) c.remove.new.self)
    (hash_map_updates_str c.args.code.now c.args.self.now.lists c.remove.new.self None c.remove.ensures.updates other)
