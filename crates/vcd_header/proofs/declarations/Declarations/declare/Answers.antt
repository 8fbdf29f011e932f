use Rattle.std.proofs.Common.{inl, map, ap, sym, ◌∙◌}
use Rattle.std.specs.Option.{option_map}
use Rattle.vcd_header.specs.declared.fault.VcdFault.TheVariants.{BadCode}
use Rattle.vcd_header.specs.Declares.{declares}
use Rattle.vcd_header.specs.Faults.{fault_if}
use Rattle.vcd_header.specs.Header.{clashes}
use Rattle.vcd_header.specs.Tokens.{tok_of}
use Rattle.vcd_header.proofs.DeclareLemmas.{declared_fault}
use Rattle.vcd_header.proofs.declarations.Declarations.declare.Goals as goal

pub returns-then-clashes-clause-fault : goal.returns-then-clashes-clause-fault
returns-then-clashes-clause-fault c =
    let inside = c.self.inside in
    let declaration = c.in-Some.declaration in
    inl (declared_fault inside.scopes.items inside.inmost inside.variables c.args.self.now declaration c.args.at (map tok_of c.args.tokens.now) c.self.view_is
    (λ paths. ap (option_map (declares paths)) (sym c.in-Some.is) ∙ c.in_ok-declaration.ensures.declares paths)
    ∙ ap (λ known. fault_if (clashes known declaration.size) (BadCode c.args.at)) (sym c.size_of.ensures)
    ∙ ap (λ test. fault_if test (BadCode c.args.at)) (sym c.clashes.ensures ∙ c.if-clashes.true))

pub returns-clause-fits : goal.returns-clause-fits
returns-clause-fits c =
    let inside = c.self.inside in
    let declaration = c.in-Some.declaration in
    declared_fault inside.scopes.items inside.inmost inside.variables c.args.self.now declaration c.args.at (map tok_of c.args.tokens.now) c.self.view_is
    (λ paths. ap (option_map (declares paths)) (sym c.in-Some.is) ∙ c.in_ok-declaration.ensures.declares paths)
    ∙ ap (λ known. fault_if (clashes known declaration.size) (BadCode c.args.at)) (sym c.size_of.ensures)
    ∙ ap (λ test. fault_if test (BadCode c.args.at)) (sym c.clashes.ensures ∙ c.if-clashes.false)
