use Rattle.std.proofs.Common.{◌<◌, length, subst, ap, sym, ◌∙◌}
use Rattle.vcd_header.proofs.DeclareLemmas.{seen_count}
use Rattle.vcd_header.proofs.declarations.Declarations.is_named.Goals as goal

pub dotted-requires-clause-there : goal.dotted-requires-clause-there
dotted-requires-clause-there c =
    let inside = c.self.inside in
    subst (λ n. c.args.number < n) (sym (seen_count inside.scopes.items inside.inmost inside.variables c.args.self.now c.self.view_is) ∙ sym (ap length c.deref.ensures.value)) c.requires
