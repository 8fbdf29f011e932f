-- Labels that a waveform can have.
use Rattle.std.specs.Prelude.{◌≡◌, ◌≢◌, ◌<◌, ◌≤◌, ◌+◌, ◌-◌, ◌^◌, ℕ, List, ◌∷◌, true, All, Option, None, Some, length, map, max, min}
use Rattle.std.specs.Char.{is_ascii_graphic}
use Rattle.std.specs.List.{AllPairs, list_all}
use Rattle.bm_base.specs.declared.range.Range.{Range}
use Rattle.trace_rows.specs.declared.labels.Labels.{Labels}
use Rattle.trace_rows.specs.declared.labels.PortLabel.{PortLabel}

-- printable bytes: a name that is one token where it is written
abbrev pub IsPrintable : List ℕ → Type 0
IsPrintable name = list_all is_ascii_graphic name ≡ true

-- A port without a range is one bit wide, and another is as wide as its range.
abbrev pub HasWidth : Option Range → ℕ → Type 0
HasWidth None width = width ≡ 1
HasWidth (Some range) width =
    (width ≡ max range.left range.right - min range.left range.right + 1)
    × (range.left ≤ 2147483647) × (range.right ≤ 2147483647)

abbrev pub IsPort : PortLabel → Type 0
IsPort port = IsPrintable port.name × HasWidth port.range port.width × (port.width ≤ 2147483647)

-- the names of the clock, the checker and the ports
abbrev pub signals : Labels → List (List ℕ)
signals labels = labels.clock ∷ labels.check ∷ map (λ (port : PortLabel). port.name) labels.ports

-- All names are printable, no two signals have one name, and each port has the width of its range. There are fewer ports
-- than variables whose codes are short: the code of some later number is `$end`.
pub record AreWritable (labels : Labels) : Type 0 where
  pub top : IsPrintable labels.top
  pub clock : IsPrintable labels.clock
  pub check : IsPrintable labels.check
  pub ports : All IsPort labels.ports
  pub apart : AllPairs (λ (left right : List ℕ). left ≢ right) (signals labels)
  pub few : length labels.ports < 2 ^ 25
