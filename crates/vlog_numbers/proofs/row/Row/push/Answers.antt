use Rattle.std.proofs.Common.{◌==◌, ◌++◌, ap}
use Rattle.std.proofs.lemmas.Nat.Bits.{shr_and_one}
use Rattle.vlog_tree.specs.Spelling.Numbers.{bits_of}
use Rattle.vlog_numbers.proofs.Fills.{holds_more}
use Rattle.vlog_numbers.proofs.row.Row.push.Goals as goal

pub loop-i-preserved : goal.loop-i-preserved
loop-i-preserved c = λ width given h.
    holds_more width c.push_bit.new.self given c.args.value c.loop-i.i _ (ap (λ n. n == 1) (shr_and_one c.args.value c.loop-i.i)) (c.push_bit.ensures width (given ++ bits_of c.loop-i.i c.args.value) (c.loop-i.invariant width given h))
