use Rattle.std.proofs.Common.{◌≡◌, length, rules, ◌∙◌}
use Rattle.vcd_header.proofs.DeclareLemmas.{seen_count}
use Rattle.vcd_header.proofs.declarations.Declarations.scope_count.Goals as goal

pub returns : goal.returns
returns c =
    let inside = c.self.inside in
    let count : c.len.result ≡ length inside.scopes.items = search rules in
    count ∙ seen_count inside.scopes.items inside.inmost inside.variables c.args.self.now c.self.view_is
