use Rattle.std.proofs.Common.{◌≡◌, ◌++◌, Some, length, reverse}
use Rattle.vcd_header.specs.Declares.{IsBelow, path_in, paths_of, texts}
use Rattle.vcd_header.proofs.PathLemmas.{height}
use Rattle.vcd_header.proofs.dotted.names_of.Given as goal

abbrev pub invariant-loop-next : goal.invariant-loop-next
invariant-loop-next l = record {
  below : IsBelow (length l.scopes) l.next;
  same : path_in (paths_of l.scopes) l.next ++ reverse (texts l.names.items) ≡ path_in (paths_of l.scopes) (Some l.fn.number);
}

abbrev pub decreases-loop-next : goal.decreases-loop-next
decreases-loop-next l = height l.next
