use Rattle.std.proofs.Common.{◌≡◌, ◌+◌, arith, refl}
use Rattle.std.proofs.lemmas.Result.{on_ok_weaker}
use Rattle.vcd_reader.proofs.RowLemmas.{row_pushed}
use Rattle.vcd_reader.proofs.bounded.BoundedRows.push.Goals as goal

pub returns-in-None-limit_passed-clause-rows : goal.returns-in-None-limit_passed-clause-rows
returns-in-None-limit_passed-clause-rows c =
    on_ok_weaker c.push.result
    (λ pushed. λ registers width rows holds.
    let more : c.in-Some.count ≡ c.args.self.now.count + 1 = grind arith in
    row_pushed registers width rows c.args.row.now c.args.self.now (record { trace = c.push.new.self; count = c.in-Some.count; registers = c.args.self.now.registers }) holds pushed refl more)
    c.push.ensures.ok
