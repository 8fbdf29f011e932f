use Rattle.std.proofs.Common.{[]}
use Rattle.vlog_numbers.proofs.Fills.{word_is}
use Rattle.vlog_numbers.proofs.value.word_bits.Goals as goal

pub returns : goal.returns
returns c = word_is c.args.value c.push.new.self (c.push.ensures 32 [] c.in_ok-row.ensures)
