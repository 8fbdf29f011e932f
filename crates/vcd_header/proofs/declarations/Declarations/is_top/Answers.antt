use Rattle.vcd_header.proofs.DeclareLemmas.{open_none, open_some}
use Rattle.vcd_header.proofs.declarations.Declarations.is_top.Goals as goal

pub returns-in-Some : goal.returns-in-Some
returns-in-Some c =
    let inside = c.self.inside in
    let kept = c.self.invariant in
    open_some inside.scopes.items inside.inmost c.in-Some.field-0 inside.variables c.args.self.now c.self.view_is c.in-Some.is kept.inmost_below kept.nested

pub returns-in-None : goal.returns-in-None
returns-in-None c = open_none c.self.inside.scopes.items c.self.inside.inmost c.self.inside.variables c.args.self.now c.self.view_is c.in-None.is
