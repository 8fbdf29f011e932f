-- Where the bits of each instance start.
use Rattle.std.specs.Prelude.{ℕ, ◌+◌, ◌≤◌, ◌≡◌, List, length, map}
use Rattle.std.specs.List.{range_with_len}
use Rattle.bm_base.specs.Size.{limit_of}
use Rattle.bm_base.specs.declared.size.Size.TheVariants.{Nodes}
use Rattle.vlog_tree.specs.Meaning.Instances.{Instance, instances}
use Rattle.vlog_tree.specs.Meaning.Keys.{input_keys}
use Rattle.numbering.specs.Frames.{driven_before, registers_before}
use Rattle.numbering.specs.Numbering.{first_of_expressions}
use Rattle.frames.specs.declared.start.Start.{Start}
use Rattle.frames.specs.Numbered.{IsReady, Numbered, setting_with}

abbrev pub start_with : ℕ → ℕ → Start
start_with registers driven = record { registers = registers; driven = driven }

-- where the bits of the instance at a place start
abbrev pub start_at : List Instance → ℕ → Start
start_at list place = start_with (registers_before list place) (driven_before list place)

abbrev pub starts_to : List Instance → ℕ → List Start
starts_to list count = map (start_at list) (range_with_len 0 count)

-- how many nodes stand before those of expressions, where these are all bits
abbrev pub count_to : ℕ → Start → ℕ
count_to inputs start = 1 + inputs + start.registers + start.driven

-- These are the count of the inputs, the starts of all instances, and the end of the last one.
pub record AreStarts (it : Numbered) (inputs : ℕ) (list : List Start) (end : Start) : Type 0 where
  pub inputs_are : inputs ≡ length (input_keys (setting_with it))
  pub listed : list ≡ starts_to (instances (setting_with it)) (length (instances (setting_with it)))
  pub ended : end ≡ start_at (instances (setting_with it)) (length (instances (setting_with it)))
  pub counted : first_of_expressions (setting_with it) ≡ count_to inputs end
  pub within : first_of_expressions (setting_with it) ≤ limit_of Nodes

-- The design is ready, and these are its starts.
pub record AreFrames (it : Numbered) (inputs : ℕ) (list : List Start) (end : Start) : Type 0 where
  pub ready : IsReady (setting_with it)
  pub starts : AreStarts it inputs list end
