use Rattle.std.proofs.Common.{None, arith, ap, sym, ◌∙◌}
use Rattle.std.specs.Option.{option_map}
use Rattle.vcd_header.specs.Bits.{source_shown, wanted_of}
use Rattle.vcd_header.proofs.MatchingLemmas.{found_step}
use Rattle.vcd_header.proofs.source.source_among.Goals as goal

pub returns-in-Some : goal.returns-in-Some
returns-in-Some c = λ paths.
    found_step paths c.args.declarations.now c.loop-declaration.declaration-index _ (wanted_of c.args.bit.now) _ _ (omega (arith, c.loop-declaration-test.true))
    (ap (option_map source_shown) (sym c.in-Some.is) ∙ c.source_by.ensures paths) (c.loop-declaration.invariant paths)

pub loop-declaration-preserved : goal.loop-declaration-preserved
loop-declaration-preserved c = λ paths.
    found_step paths c.args.declarations.now c.loop-declaration.declaration-index _ (wanted_of c.args.bit.now) None _ (omega (arith, c.loop-declaration-test.true))
    (ap (option_map source_shown) (sym c.in_default.is) ∙ c.source_by.ensures paths) (c.loop-declaration.invariant paths)
