use Rattle.std.proofs.Common.{◌==◌, subst, ap, ◌∙◌}
use Rattle.vcd_header.specs.Contents.{IsTable}
use Rattle.vcd_header.proofs.FirstLemmas.{first_at}
use Rattle.vcd_header.proofs.scope_table.ScopeTable.is_first.Goals as goal

pub returns : goal.returns
returns c =
    let inside = c.self.inside in
    let table = subst (λ all. IsTable all inside.firsts.items inside.lists.items) c.self.view_is c.self.invariant in
    ap (λ n. n == c.args.number) (c.index.ensures ∙ first_at c.args.self.now.scopes inside.firsts.items c.args.number _ table.firsts_are c.requires)
