use Rattle.std.proofs.Common.{◌≡◌, drop}
use Rattle.std.specs.List.{find}
use Rattle.std.specs.Str.{bytes_eq}
use Rattle.vcd_header.specs.Scopes.{dotted}
use Rattle.vcd_header.proofs.matching.named_scope.Given as goal

abbrev pub invariant-loop-number : goal.invariant-loop-number
invariant-loop-number l =
    find (λ path. bytes_eq (dotted path) l.name) (drop l.number l.table.scopes) ≡ find (λ path. bytes_eq (dotted path) l.name) l.table.scopes
