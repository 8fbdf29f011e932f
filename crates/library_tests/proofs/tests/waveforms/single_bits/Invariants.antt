use Rattle.std.proofs.Common.{◌≡◌}
use Rattle.vcd_writer.specs.Value.{row_width}
use Rattle.library_tests.proofs.tests.waveforms.single_bits.Given as goal

abbrev pub invariant-loop-i : goal.invariant-loop-i
invariant-loop-i l = row_width l.ports.items ≡ l.i
