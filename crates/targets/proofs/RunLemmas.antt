-- The places of a range's indices are bits of its name.
use Rattle.std.proofs.Common.{◌≡◌, ℕ, ◌<◌, Some, ap, arith, unwrap_or}
use Rattle.std.specs.Option.{option_map}
use Rattle.std.proofs.lemmas.Bool.Decides.{nat_tests}
use Rattle.bm_base.specs.declared.range.Range.{Range}
use Rattle.vlog_tree.specs.declared.design.Module.{Module}
use Rattle.vlog_tree.specs.Meaning.Keys.{bit_count}
use Rattle.vlog_tree.specs.Meaning.Ranges.{place_of, range_of, span}
use Rattle.vlog_tree.specs.Meaning.Uses.{Text}

place_in_span : (range : Range) (index place : ℕ) → place_of range index ≡ Some place → place < span range
place_in_span range index place is = grind (arith, nat_tests)

-- A place of a name's range is one of its bits.
pub place_within : (m : Module) (name : Text) (range : Range) (index place : ℕ) → range_of m name ≡ Some range
    → place_of range index ≡ Some place → place < bit_count m name
place_within m name range index place range_is place_is =
    let count : bit_count m name ≡ span range = ap (λ found. unwrap_or (option_map span found) 0) range_is in
    let within : place < span range = place_in_span range index place place_is in
    omega arith
