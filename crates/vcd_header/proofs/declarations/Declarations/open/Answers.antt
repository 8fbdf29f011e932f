use Rattle.std.proofs.Common.{refl, rules}
use Rattle.vcd_header.specs.declared.scope.Scope.{Scope}
use Rattle.vcd_header.proofs.DeclareLemmas.{kept_opening, opening}
use Rattle.vcd_header.proofs.declarations.Declarations.open.Goals as goal

pub invariant_of-self-2 : goal.invariant_of-self-2
invariant_of-self-2 c =
    let inside = c.self.inside in
    let scope : Scope = record { parent = inside.inmost; name = c.args.name } in
    kept_opening inside.scopes.items c.push.new.self.items inside.inmost scope inside.variables c.len-number.result c.in_ok-push.ensures.items refl (search rules) c.self.invariant

pub returns : goal.returns
returns c =
    let inside = c.self.inside in
    let scope : Scope = record { parent = inside.inmost; name = c.args.name } in
    opening inside.scopes.items c.push.new.self.items inside.inmost scope c.args.name.now inside.variables c.len-number.result c.args.self.now c.self.view_is c.in_ok-push.ensures.items refl refl (search rules) c.self.invariant.within
