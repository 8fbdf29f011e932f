-- The size of a code, where declarations are kept by their codes.
use Rattle.std.specs.Prelude.{ℕ, List, Option}
use Rattle.std.specs.HashMap.{get_by}
use Rattle.std.specs.Str.{bytes_eq}
use Rattle.vcd_header.specs.declared.sizes.Sizes.{Sizes}

abbrev pub size_in : Sizes → List ℕ → Option ℕ
size_in sizes code = get_by (λ key. bytes_eq code key.now) sizes.sizes
