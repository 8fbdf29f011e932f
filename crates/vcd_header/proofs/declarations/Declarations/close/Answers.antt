use Rattle.std.proofs.Common.{length, subst, ap, sym, ◌∙◌}
use Rattle.vcd_header.specs.declared.scope.Scope.{Scope}
use Rattle.vcd_header.specs.Declares.{IsBelow, declared_as}
use Rattle.vcd_header.proofs.DeclareLemmas.{closing, parent_inside}
use Rattle.vcd_header.proofs.declarations.Declarations.close.Goals as goal

pub invariant_of-self : goal.invariant_of-self
invariant_of-self c =
    let inside = c.self.inside in
    let kept = c.self.invariant in
    let below = parent_inside inside.scopes.items inside.inmost c.in-Some.number c.index.result.now c.in-Some.is kept.inmost_below kept.nested in
    record {
      inmost_below = subst (λ (scope : Scope). IsBelow (length inside.scopes.items) scope.parent) (sym c.index.ensures) below;
      nested = kept.nested;
      within = kept.within;
    }

pub returns-in-Some : goal.returns-in-Some
returns-in-Some c =
    let inside = c.self.inside in
    let kept = c.self.invariant in
    ap (λ (scope : Scope). declared_as inside.scopes.items scope.parent inside.variables) c.index.ensures
    ∙ closing inside.scopes.items inside.inmost c.in-Some.number c.index.result.now inside.variables c.args.self.now c.self.view_is c.in-Some.is kept.inmost_below kept.nested
