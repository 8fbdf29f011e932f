use Rattle.std.proofs.Common.{sym, ◌∙◌}
use Rattle.std.specs.HashMap.{get_by}
use Rattle.std.specs.Str.{bytes_eq}
use Rattle.indexmap.proofs.CallerLemmas.{insert_entry-new}
use Rattle.nets.specs.Nets.{net_of}
use Rattle.nets.proofs.PlacedLemmas.{has_shown, none_found, place_new, place_there}
use Rattle.nets.proofs.placing.place.Goals as goal

pub returns-then-contains_key : goal.returns-then-contains_key
returns-then-contains_key c =
    place_there (net_of c.args.facts.now.m.now) c.args.name.now c.args.table.now.entries
    (sym (has_shown c.args.name.now c.args.table.now.entries) ∙ sym c.contains_key.ensures ∙ c.if-contains_key.true)

pub returns-in_ok-insert : goal.returns-in_ok-insert
returns-in_ok-insert c =
    place_new (net_of c.args.facts.now.m.now) c.args.name c.in-Some.net c.args.table.now.entries c.insert.new.self.entries
    (sym (has_shown c.args.name.now c.args.table.now.entries) ∙ sym c.contains_key.ensures ∙ c.if-contains_key.false)
    (sym c.net.ensures ∙ c.in-Some.is)
    (c.in_ok-insert.ensures.entries
    ∙ insert_entry-new (λ x y. bytes_eq x.now y.now) c.args.table.now c.args.name c.in-Some.net
    (none_found (get_by (λ key. bytes_eq c.args.name.now key.now) c.args.table.now) c.contains_key.result c.contains_key.ensures c.if-contains_key.false))
