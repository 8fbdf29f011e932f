use Rattle.std.proofs.Common.{Some, sym, ◌∙◌}
use Rattle.std.proofs.lemmas.Map.Text.{hash_map_updates_str}
use Rattle.std.specs.HashMap.{get_by}
use Rattle.std.specs.Str.{bytes_eq}
use Rattle.clock_rules.specs.Kept.{plain_in}
use Rattle.clock_rules.proofs.KeptLemmas.{port_added}
use Rattle.clock_rules.proofs.connected.Connected.add.Goals as goal

pub returns-in_ok-insert-in-None : goal.returns-in_ok-insert-in-None
returns-in_ok-insert-in-None c =
    port_added (plain_in c.args.self.now) (λ name. get_by (λ key. bytes_eq name key.now) c.insert.new.self) c.args.port.now c.args.is_plain
    (sym c.get.ensures ∙ c.in-None.is)
    (λ name. hash_map_updates_str c.args.port.now c.args.self.now.plain c.insert.new.self (Some c.args.is_plain) c.in_ok-insert-in-None.ensures.updates name)
