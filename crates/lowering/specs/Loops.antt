-- What a loop has added so far, beside what is left.
use Rattle.std.specs.Prelude.{◌≡◌, List, ◌++◌}
use Rattle.flat_net.specs.declared.edge.Edge.{Edge}
use Rattle.lowering.specs.Limits.{Added, next_of, with_more}
use Rattle.lowering.specs.Lowered.{Lowered, Lowering, lowered}

-- the nodes and the edges of both
abbrev pub continued : Lowered → Lowered → Lowered
continued first rest = lowered (first.nodes ++ rest.nodes) (first.edges ++ rest.edges)

-- With these edges so far, what is left to lower makes the whole, which began at an earlier time.
pub record Remains (so_far : List Edge) (now start : Added) (left whole : Lowering) : Type 0 where
  pub nodes : with_more now (left (next_of now)) ≡ with_more start (whole (next_of start))
  pub edges : so_far ++ (left (next_of now)).edges ≡ (whole (next_of start)).edges
