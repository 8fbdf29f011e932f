use Rattle.std.proofs.Common.{Some, ap, ◌||◌, ◌∙◌}
use Rattle.std.proofs.lemmas.Map.Text.{hash_map_updates_str}
use Rattle.std.specs.HashMap.{get_by}
use Rattle.std.specs.Str.{bytes_eq}
use Rattle.name_rules.specs.Headers.{has_in}
use Rattle.name_rules.proofs.NameLemmas.{name_added}
use Rattle.name_rules.proofs.header.Header.add.Goals as goal

pub returns-clause-added : goal.returns-clause-added
returns-clause-added c = λ other.
    name_added (λ text. get_by (λ key. bytes_eq text key.now) c.args.self.now.names) c.bytes-3.result.now other tt
    (get_by (λ key. bytes_eq other key.now) c.insert.new.self)
    (hash_map_updates_str c.bytes-3.result.now c.args.self.now.names c.insert.new.self (Some tt) c.in_ok-insert.ensures.updates other)
    ∙ ap (λ text. has_in c.args.self.now other || bytes_eq text other) c.bytes-3.ensures
