use Rattle.std.proofs.Common.{arith}
use Rattle.vlog_numbers.proofs.Fills.{fills_in}
use Rattle.vlog_numbers.proofs.row.Row.push_bit.Goals as goal

pub returns-then-self-len : goal.returns-then-self-len
returns-then-self-len c = λ width given h. fills_in width c.args.self.now c.set.new.self given c.args.bit h (omega arith) c.set.ensures
