use Rattle.std.proofs.Common.{OnOk, ◌≡◌, ◌++◌, subst, sym}
use Rattle.driver_rules.specs.Selects.{shown}
use Rattle.driver_rules.proofs.FormLemmas as form
use Rattle.driver_rules.proofs.assigned.+targets.Goals as goal

pub add_target-returns-in-Bit-clause-shown : goal.add_target-returns-in-Bit-clause-shown
add_target-returns-in-Bit-clause-shown t c =
    let i = c.in-Bit in
    subst (λ more. OnOk c.add_bit.result (shown c.add_bit.new.selects ≡ shown c.args.selects.now ++ more))
    (sym (form.target_bit c.args.nets.now c.args.expr.now i.at i.name i.index i.is)) c.add_bit.ensures.shown

pub add_target-returns-in-Part-clause-shown : goal.add_target-returns-in-Part-clause-shown
add_target-returns-in-Part-clause-shown t c =
    let i = c.in-Part in
    subst (λ more. OnOk c.add_part.result (shown c.add_part.new.selects ≡ shown c.args.selects.now ++ more))
    (sym (form.target_part c.args.nets.now c.args.expr.now i.at i.name i.range i.is)) c.add_part.ensures.shown
