-- A map with text keys, seen as the finite map from the keys' bytes.
use Rattle.std.specs.Prelude.{map, string_bytes}
use Rattle.std.specs.declared.string.String.{String}
use Rattle.std.specs.BTreeMap.{BTreeMap}
use Rattle.std.specs.Ordering.{nat_cmp}
use Rattle.std.specs.Cmp.Lexicographic.{slice_cmp}
use Rattle.std.specs.FinMap.{FinMap, from_entries}

-- the map, with each value as `value` shows it
unfoldable pub text_map : {A X Y : Type 0} → (X → Y) → BTreeMap (String A) X → FinMap (slice_cmp nat_cmp) Y
text_map value m = from_entries (map (λ e. (string_bytes e.0, value e.1)) m.entries)
