use Rattle.std.proofs.Common.{◌∙◌}
use Rattle.vcd_header.proofs.DeclareLemmas.{seen_size}
use Rattle.vcd_header.proofs.declarations.Declarations.size_of.Goals as goal

pub returns : goal.returns
returns c =
    let inside = c.self.inside in
    c.size_of.ensures ∙ seen_size inside.scopes.items inside.inmost inside.variables c.args.self.now c.args.code.now c.self.view_is
