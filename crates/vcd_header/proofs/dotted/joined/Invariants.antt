use Rattle.std.proofs.Common.{◌≡◌, ◌≤◌, ◌++◌, length, reverse, take}
use Rattle.vcd_header.specs.Declares.{texts}
use Rattle.vcd_header.specs.Scopes.{dotted}
use Rattle.vcd_header.proofs.dotted.joined.Given as goal

abbrev pub invariant-loop-left : goal.invariant-loop-left
invariant-loop-left l = record {
  within : l.left ≤ length l.names;
  same : l.text.items ++ dotted (reverse (texts (take l.left l.names))) ≡ dotted (reverse (texts l.names));
}

abbrev pub decreases-loop-left : goal.decreases-loop-left
decreases-loop-left l = l.left
