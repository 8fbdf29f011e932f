use Rattle.std.proofs.Common.{◌<◌, length, map, arith, sym, ◌∙◌}
use Rattle.vcd_header.specs.Bits.{wanted_of}
use Rattle.vcd_header.specs.Matching.{gives_all}
use Rattle.vcd_header.proofs.MatchingLemmas.{tried_again, tried_more}
use Rattle.vcd_header.proofs.matching.full_scope.Goals.{else-is_first-via-then-is_first+else-gives_all, else-is_first-via-else-is_first}
use Rattle.vcd_header.proofs.matching.full_scope.Goals as goal

pub loop-number-preserved : goal.loop-number-preserved
loop-number-preserved c =
    let test = gives_all c.args.table.now.variables (map wanted_of c.args.bits.now) in
    let paths = c.args.table.now.scopes in
    let number = c.loop-number.number in
    let within : number < length paths = omega (arith, c.loop-number-test.true, c.scope_count-number-end.ensures) in
    elim c.else-is_first.branch [
      | else-is_first-via-then-is_first+else-gives_all w ↦ tried_more test paths number within c.loop-number.invariant (sym w.gives_all.ensures ∙ w.if-gives_all.false)
      | else-is_first-via-else-is_first w ↦ tried_again test paths number within c.loop-number.invariant (sym c.is_first.ensures ∙ w.if-is_first.false)
    ]
