use Rattle.std.proofs.Common.{Some, [], ◌∷◌, ap, cond, fold, ◌∙◌}
use Rattle.std.proofs.lemmas.Map.Text.{hash_map_updates_str}
use Rattle.std.specs.HashMap.{get_by}
use Rattle.std.specs.Str.{bytes_eq}
use Rattle.hierarchy.specs.Failures.{earlier, failure}
use Rattle.name_rules.specs.Declarations.{thing}
use Rattle.name_rules.specs.Owners.{after_thing, clashes, kept_in, owned}
use Rattle.name_rules.proofs.OwnerLemmas.{same_walk}
use Rattle.name_rules.proofs.owners.Owners.take.Goals as goal

pub returns : goal.returns
returns c =
    let name = c.args.name.now in
    let known = kept_in c.args.self.now in
    let wrong = failure c.args.at c.args.m.now.name name ∷ [] in
    same_walk
    c.note_if.new.found
    (fold earlier c.args.found.now (cond (clashes (known name) c.args.is_net) wrong []))
    (λ text. get_by (λ key. bytes_eq text key.now) c.insert.new.self)
    (after_thing known (thing c.args.at name c.args.is_net))
    (c.note_if.ensures
    ∙ ap (λ b. fold earlier c.args.found.now (cond b wrong []))
    (c.clashes.ensures ∙ ap (λ kept. clashes kept c.args.is_net) c.get-known.ensures))
    (λ other.
    hash_map_updates_str name c.args.self.now.names c.insert.new.self (Some c.owned.result) c.in_ok-insert.ensures.updates other
    ∙ ap (λ kept. cond (bytes_eq name other) (Some kept) (known other))
    (c.owned.ensures ∙ ap (λ kept. owned kept c.args.is_net) c.get-known.ensures))
