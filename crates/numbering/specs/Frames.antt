-- How many bits stand before those of an instance.
use Rattle.std.specs.Prelude.{ℕ, List, length, map, sum, take}
use Rattle.vlog_tree.specs.Meaning.Instances.{Instance, instances}
use Rattle.numbering.specs.Bits.{driven_bits, register_bits}
use Rattle.numbering.specs.Numbering.{is_top}

-- register bits of the instances before this one
abbrev pub registers_before : List Instance → ℕ → ℕ
registers_before instances place =
    sum (map (λ instance. length (register_bits instance.definition)) (take place instances))

abbrev pub driven_before : List Instance → ℕ → ℕ
driven_before instances place =
    sum (map (λ instance. length (driven_bits (is_top instance) instance.definition)) (take place instances))
