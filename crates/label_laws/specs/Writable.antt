-- The labels of a design: that they can be written, and how wide its rows are.
use Rattle.std.specs.Prelude.{◌≡◌, ◌<◌, ◌^◌, ℕ, List, length}
use Rattle.elab.specs.Plans.{labels_of}
use Rattle.elab.specs.Refusals.{KeepsRules}
use Rattle.label_laws.specs.Spelled.{SpellsInProfile}
use Rattle.trace_rows.specs.Writable.{AreWritable}
use Rattle.vcd_writer.specs.Value.{row_width}
use Rattle.vlog_tree.specs.Meaning.Keys.{input_keys}
use Rattle.vlog_tree.specs.Meaning.Setting.{Setting}

-- The labels of a design can be written, where some bytes spell it in the profile, it keeps the rules, and it has few
-- input bits.
abbrev pub LabelsAreWritable : Type 0
LabelsAreWritable =
    (setting : Setting) (bytes : List ℕ) → SpellsInProfile bytes setting.design → KeepsRules setting
    → length (input_keys setting) < 2 ^ 25 → AreWritable (labels_of setting)

-- The ports together are as wide as there are input bits, of any design.
abbrev pub RowsAreInputs : Type 0
RowsAreInputs = (setting : Setting) → row_width (labels_of setting).ports ≡ length (input_keys setting)
