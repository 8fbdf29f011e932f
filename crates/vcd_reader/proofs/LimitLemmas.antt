-- Rows within the limits.
use Rattle.std.proofs.Common.{◌≡◌, ℕ, ◌+◌, ◌*◌, ◌≤◌, Bool, true, false, length, nat_lt, Option, Some, None, if◌then◌else◌, arith, refl, subst, sym}
use Rattle.std.proofs.Math.Nat.{mul-le-mul_right}
use Rattle.bm_base.specs.Size.{limit_of}
use Rattle.bm_base.specs.declared.size.Size.{Size}
use Rattle.bm_base.specs.declared.size.Size.TheVariants.{Cycles, Bits, States}
use Rattle.vcd_reader.specs.Laws.{CyclesAreWithin, ShorterPassesNone}

abbrev first_of : Bool → Bool → Bool → Option Size
first_of a b c = if a then Some Cycles else (if b then Some Bits else (if c then Some States else None))

record AllFalse (a b c : Bool) : Type 0 where
  first : a ≡ false
  second : b ≡ false
  third : c ≡ false

none_then : (a b c : Bool) → first_of a b c ≡ None → AllFalse a b c
none_then true b c h = absurd (cc)
none_then false true c h = absurd (cc)
none_then false false true h = absurd (cc)
none_then false false false h = record { first = refl; second = refl; third = refl }

none_if : (a b c : Bool) → AllFalse a b c → first_of a b c ≡ None
none_if a b c all = rw all.first (rw all.second (rw all.third refl))

not_less : (limit low high : ℕ) → low ≤ high → nat_lt limit high ≡ false → nat_lt limit low ≡ false
not_less limit low high le h = grind arith

more_times : (n width : ℕ) → n * width ≤ (n + 1) * width
more_times n width = omega arith

times_less : (few many width : ℕ) → few ≤ many → few * width ≤ many * width
times_less few many width le = mul-le-mul_right width le

not_more : (limit n : ℕ) → nat_lt limit n ≡ false → n ≤ limit
not_more limit n h = grind arith

shorter : (registers width few many : ℕ) → few ≤ many
    → first_of (nat_lt (limit_of Cycles) many) (nat_lt (limit_of Bits) (many * width)) (nat_lt (limit_of States) ((many + 1) * registers)) ≡ None
    → first_of (nat_lt (limit_of Cycles) few) (nat_lt (limit_of Bits) (few * width)) (nat_lt (limit_of States) ((few + 1) * registers)) ≡ None
shorter registers width few many le none =
    let all = none_then (nat_lt (limit_of Cycles) many) (nat_lt (limit_of Bits) (many * width)) (nat_lt (limit_of States) ((many + 1) * registers)) none in
    none_if (nat_lt (limit_of Cycles) few) (nat_lt (limit_of Bits) (few * width)) (nat_lt (limit_of States) ((few + 1) * registers)) (record {
      first = not_less (limit_of Cycles) few many le all.first;
      second = not_less (limit_of Bits) (few * width) (many * width) (times_less few many width le) all.second;
      third = not_less (limit_of States) ((few + 1) * registers) ((many + 1) * registers) (times_less (few + 1) (many + 1) registers (omega arith)) all.third;
    })

pub shorter_passes_none : ShorterPassesNone
shorter_passes_none registers trace other same le none =
    let n = length other.rows in
    subst (λ width. first_of (nat_lt (limit_of Cycles) n) (nat_lt (limit_of Bits) (n * width)) (nat_lt (limit_of States) ((n + 1) * registers)) ≡ None) (sym same)
    (shorter registers trace.width n (length trace.rows) le none)

pub cycles_are_within : CyclesAreWithin
cycles_are_within registers trace none =
    let n = length trace.rows in
    let all = none_then (nat_lt (limit_of Cycles) n) (nat_lt (limit_of Bits) (n * trace.width)) (nat_lt (limit_of States) ((n + 1) * registers)) none in
    not_more (limit_of Cycles) n all.first
