-- Which rule a fault says to fail first, and where.
use Rattle.std.specs.Prelude.{ℕ, Option, None, Some}
use Rattle.hierarchy.specs.declared.fault.HierarchyFault.{HierarchyFault}
use Rattle.hierarchy.specs.declared.fault.HierarchyFault.TheVariants.{BadInstance, Memory, NoTop, RepeatedModule}
use Rattle.hierarchy.specs.Failures.{Failure}
use Rattle.hierarchy.specs.Shown.{shown}

abbrev pub refusal_of : HierarchyFault → Option (ℕ × Failure)
refusal_of (RepeatedModule failure) = Some (1, shown failure)
refusal_of (NoTop failure) = Some (2, shown failure)
refusal_of (BadInstance failure) = Some (3, shown failure)
refusal_of Memory = None
