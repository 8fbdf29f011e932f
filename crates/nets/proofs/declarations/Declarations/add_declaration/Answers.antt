use Rattle.std.proofs.Common.{Some}
use Rattle.std.proofs.lemmas.Map.Text.{hash_map_updates_str}
use Rattle.std.specs.HashMap.{get_by}
use Rattle.std.specs.Str.{bytes_eq}
use Rattle.nets.specs.Kept.{net_in}
use Rattle.nets.proofs.KeptLemmas.{item_noted}
use Rattle.nets.proofs.declarations.Declarations.add_declaration.Goals as goal

pub returns : goal.returns
returns c =
    item_noted (net_in c.args.self.now) (λ name. get_by (λ key. bytes_eq name key.now) c.insert.new.self) c.args.at c.args.dir c.args.kind c.args.range c.args.name.now c.after-net.result
    c.after-net.ensures
    (λ name. hash_map_updates_str c.args.name.now c.args.self.now.nets c.insert.new.self (Some c.after-net.result) c.in_ok-insert.ensures.updates name)
