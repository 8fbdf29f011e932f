use Rattle.std.proofs.Common.{◌≡◌, Some, ap, subst, sym, ◌∙◌}
use Rattle.std.specs.HashMap.{get}
use Rattle.std.specs.Option.{IfSome}
use Rattle.std.specs.Str.{bytes_eq}
use Rattle.nets.specs.Nets.{net_of}
use Rattle.nets.proofs.NameLemmas.{found_net}
use Rattle.nets.proofs.table.Nets.entry_at.Goals as goal

pub returns-clause-value : goal.returns-clause-value
returns-clause-value c =
    ap (λ m. net_of m c.unwrap.result.0.now.now) (sym c.self.view_is)
    ∙ sym (found_net c.self.inside.m.now c.unwrap.result.0.now.now c.self.inside.entries.entries c.self.invariant.0)
    ∙ subst (λ found. IfSome found (λ entry. get (λ x y. bytes_eq x.now y.now) c.self.inside.entries entry.0.now ≡ Some entry.1.now)) c.unwrap.ensures c.get_index.ensures.value
