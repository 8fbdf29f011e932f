-- Bits that are kept in a map.
use Rattle.std.proofs.Common.{ℕ, ◌≤◌, ◌≡◌, ◌≢◌, ◌++◌, List, [], ◌∷◌, false, Option, Some, None, IfSome, IfNone, IsSome, is_some, refl, ap, sym, subst, ◌∙◌, arith, is_gt, is_lt}
use Rattle.std.proofs.lemmas.Bool.Decides.{nat_tests}
use Rattle.std.specs.BTreeMap.{BTreeMap}
use Rattle.std.specs.BTreeMap.Range.{IsRangeOf}
use Rattle.std.specs.declared.ops.Bound.TheVariants.{Included, Unbounded}
use Rattle.driver_rules.specs.declared.run.Run.{Run}
use Rattle.driver_rules.specs.Runs.{IsLast, IsLastUpTo, kept_at, pair_cmp}

key_le : (net first bit : ℕ) → first ≤ bit → is_gt (pair_cmp (net, first) (net, bit)) ≡ false
key_le net first bit h = grind (arith, nat_tests)

key_from_le : (net first bit : ℕ) → is_gt (pair_cmp (net, first) (net, bit)) ≡ false → first ≤ bit
key_from_le net first bit h = grind (arith, nat_tests)

key_from_ge : (net first next : ℕ) → is_lt (pair_cmp (net, first) (net, next)) ≡ false → next ≤ first
key_from_ge net first next h = grind (arith, nat_tests)

net_from_le : (other net first bit next : ℕ) → is_gt (pair_cmp (other, first) (net, bit)) ≡ false
    → is_lt (pair_cmp (other, first) (net, next)) ≡ false → other ≡ net
net_from_le other net first bit next h g = grind (arith, nat_tests)

-- Those that begin at a bit of a name or before it, of the names up to this one.
module _ (runs : BTreeMap (ℕ × ℕ) ℕ) (net bit : ℕ) (those : List ((ℕ × ℕ) × ℕ)) (range : IsRangeOf pair_cmp Unbounded (Included (net, bit)) runs those) where
  pub nothing_up_to : those ≡ [] → (first : ℕ) → first ≤ bit → kept_at runs net first ≡ None
  nothing_up_to none first h = range.5 none (net, first) (tt, key_le net first bit h)

  module _ (key : ℕ × ℕ) (last : ℕ) (before : List ((ℕ × ℕ) × ℕ)) (ends : those ≡ before ++ (key, last) ∷ []) where
    same_net : (first : ℕ) → first ≤ bit → IsSome (kept_at runs net first) → key.0 ≡ net
    same_net first h has =
        net_from_le key.0 net key.1 bit first ((range.3 (key, last) before ends).0).1
        (range.4 (key, last) before ends (net, first) (tt, key_le net first bit h) has)

    not_kept : (first : ℕ) → key.0 ≢ net → first ≤ bit → (known : Option ℕ) → kept_at runs net first ≡ known → kept_at runs net first ≡ None
    not_kept first other h None is = is
    not_kept first other h (Some end) is = absurd (other (same_net first h (ap is_some is)))

    is_last : (run : Run) → run.net ≡ net → key.0 ≡ net → run.first ≡ key.1 → run.last ≡ last → IsLast (kept_at runs) net bit run
    is_last run named same first_is last_is =
        let here : kept_at runs net run.first ≡ Some run.last =
        ap (λ n. kept_at runs n run.first) (sym same) ∙ ap (kept_at runs key.0) first_is ∙ (range.3 (key, last) before ends).1 ∙ ap Some (sym last_is) in
        let below : is_gt (pair_cmp (key.0, key.1) (net, bit)) ≡ false = ((range.3 (key, last) before ends).0).1 in
        let begins : run.first ≤ bit =
        subst (λ first. first ≤ bit) (sym first_is) (key_from_le net key.1 bit (subst (λ n. is_gt (pair_cmp (n, key.1) (net, bit)) ≡ false) same below)) in
        record {
          named = named;
          is = here;
          begins = begins;
          latest = λ first h has.
              subst (λ at. first ≤ at) (sym first_is)
              (key_from_ge net key.1 first
              (subst (λ n. is_lt (pair_cmp (n, key.1) (net, first)) ≡ false) same
              (range.4 (key, last) before ends (net, first) (tt, key_le net first bit h) has)));
        }

    pub last_up_to : (found : Option Run) → IfSome found (λ run. (run.net ≡ net) × (key.0 ≡ net)) → IfSome found (λ run. (run.first ≡ key.1) × (run.last ≡ last))
        → IfNone found (key.0 ≢ net) → IsLastUpTo (kept_at runs) net bit found
    last_up_to (Some run) named bits none = is_last run named.0 named.1 bits.0 bits.1
    last_up_to None named bits none = λ first h. not_kept first none h (kept_at runs net first) refl
