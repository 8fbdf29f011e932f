-- Steps and ways by the numbers of names.
use Rattle.std.specs.Prelude.{ℕ, ◌+◌, ◌<◌, ◌≡◌, zero, suc, Bool, false, ◌&&◌, List, [], ◌++◌, Option, None, Some, cond, filter_map, flat_map, length, map, nat_eq}
use Rattle.std.specs.List.{list_any, range_with_len}
use Rattle.std.specs.Option.{option_to_list}
use Rattle.hierarchy.specs.Graph.{Graph, ahead, is_marked}
use Rattle.vlog_tree.specs.declared.design.Module.{Module}
use Rattle.vlog_tree.specs.declared.item.Link.{Link}
use Rattle.vlog_tree.specs.Meaning.Instances.{Child, connection_of}
use Rattle.vlog_tree.specs.Meaning.Uses.{Text}
use Rattle.clock_sets.specs.declared.steps.Step.{Step}
use Rattle.clock_sets.specs.Passing.{Pass, Signal, connection_pass, pass, signal}

abbrev pub step : ℕ → ℕ → Step
step from to = record { from = from; to = to }

abbrev pub joined : Option ℕ → Option ℕ → Option Step
joined (Some from) (Some to) = Some (step from to)
joined from to = None

-- the step of a pass, where both of its names have numbers
abbrev pub step_of : (Signal → Option ℕ) → Pass → Option Step
step_of number one = joined (number one.from) (number one.to)

-- ---- steps and numbers that are gathered one after the other

abbrev pub with_pass : (Signal → Option ℕ) → List Step → Pass → List Step
with_pass number steps one = steps ++ option_to_list (step_of number one)

abbrev pub with_signal : (Signal → Option ℕ) → List ℕ → Signal → List ℕ
with_signal number numbers one = numbers ++ option_to_list (number one)

-- an instance of the inner module, whatever its name
abbrev pub instance_of : Module → List Link → Child
instance_of inner links = record { name = []; definition = inner; links = links }

-- the passes through one of its connections
abbrev pub link_passes : Module → Module → ℕ × Link → List Pass
link_passes m inner link = flat_map (connection_pass m (instance_of inner [])) (option_to_list (connection_of inner link))

-- the pass from the name that is plainly connected to a port, if there is one
abbrev pub port_passes : Module → Module → Text → Option Text → List Pass
port_passes m inner port name = map (λ one. pass (signal m.name one) (signal inner.name port)) (option_to_list name)

-- ---- ways

-- so many steps, one after the other, lead from a number to another
abbrev pub goes : List Step → ℕ → ℕ → ℕ → Bool
goes steps zero from to = nat_eq from to
goes steps (suc count) from to = list_any (λ one. nat_eq from one.from && goes steps count one.to to) steps

-- at most so many steps
abbrev pub goes_to : List Step → ℕ → ℕ → ℕ → Bool
goes_to steps count from to = list_any (λ n. goes steps n from to) (range_with_len 0 (count + 1))

abbrev pub turned : Step → Step
turned one = step one.to one.from

-- ---- the graph of steps

abbrev pub end_from : ℕ → Step → Option ℕ
end_from from one = cond (nat_eq from one.from) (Some one.to) None

-- where the steps from a number lead
abbrev pub ends_from : List Step → ℕ → List ℕ
ends_from steps from = filter_map (end_from from) steps

-- A step leads from a number below this one to another.
pub record IsBelow (count : ℕ) (one : Step) : Type 0 where
  pub from_below : one.from < count
  pub to_below : one.to < count

-- The steps lead between the numbers below this one, and from this number an edge leads to each start.
pub record IsGraph (count : ℕ) (steps : List Step) (starts : List ℕ) (graph : Graph) : Type 0 where
  pub len : length graph ≡ count + 1
  pub last : ahead graph count ≡ starts
  pub edges : (from : ℕ) → from < count → ahead graph from ≡ ends_from steps from

-- ---- sets

-- whether the number, if there is one, is marked
abbrev pub has_mark : List Bool → Option ℕ → Bool
has_mark marks (Some n) = is_marked marks n
has_mark marks None = false
