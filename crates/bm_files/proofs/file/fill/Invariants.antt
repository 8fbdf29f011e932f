use Rattle.std.proofs.Common.{◌-◌, length}
use Rattle.bm_files.proofs.FileLemmas.{FillsSoFar}
use Rattle.bm_files.proofs.file.fill.Given as goal

abbrev pub invariant-loop-at : goal.invariant-loop-at
invariant-loop-at g l = FillsSoFar (g.F.Shelf.held l.fn.shelf) (g.F.Shelf.held l.shelf) (g.F.Shelf.reads l.fn.shelf) (g.F.Shelf.reads l.shelf)
    (g.F.Shelf.writes l.fn.shelf) (g.F.Shelf.writes l.shelf) l.name l.at l.buffer

abbrev pub decreases-loop-at : goal.decreases-loop-at
decreases-loop-at g l = length l.initial.buffer - l.at
