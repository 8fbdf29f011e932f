use Rattle.std.proofs.Common.{Some, sym, ◌∙◌}
use Rattle.std.proofs.lemmas.Map.Text.{hash_map_updates_str}
use Rattle.std.specs.HashMap.{get_by}
use Rattle.std.specs.Str.{bytes_eq}
use Rattle.nets.specs.Kept.{place_in_map}
use Rattle.nets.specs.Used.{use_shown}
use Rattle.nets.proofs.KeptLemmas.{place_added}
use Rattle.nets.proofs.places.Places.add.Goals as goal

pub returns-in_ok-insert-in-None : goal.returns-in_ok-insert-in-None
returns-in_ok-insert-in-None c =
    place_added (place_in_map c.args.self.now) (λ name. get_by (λ key. bytes_eq name key.now) c.insert.new.self) (use_shown c.args.one.now)
    (sym c.get.ensures ∙ c.in-None.is)
    (λ name. hash_map_updates_str c.args.one.now.name.now c.args.self.now.places c.insert.new.self (Some c.args.one.now.at) c.in_ok-insert-in-None.ensures.updates name)
