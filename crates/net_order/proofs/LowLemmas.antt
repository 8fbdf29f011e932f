-- How far back readings go.
use Rattle.std.specs.Prelude.{◌≡◌, ◌⊎◌, ℕ, ◌≤◌, false, Some, refl, slice_get}
use Rattle.std.proofs.Common.{ap, arith, inl, inr, sym, ◌∙◌, subst}
use Rattle.net_order.specs.Marks.{Marked}
use Rattle.net_order.specs.Partings.{HasPlaces, IsLowFor, Parting}
use Rattle.net_order.proofs.ListLemmas.{differ, some_same}

module _ (walk : Parting) (place : ℕ) where
  pub low_none : (reads : ℕ → Type 0) → ((next : ℕ) → reads next → ⊥) → IsLowFor reads walk place place
  low_none reads none = record { all = λ next read. absurd (none next read); one = inl refl }

  pub low_done : (node : ℕ) → Marked walk.done node → IsLowFor (λ next. node ≡ next) walk place place
  low_done node done = record { all = λ next same. inl (subst (λ one. Marked walk.done one) same done); one = inl refl }

  pub low_waits : HasPlaces walk → (node low : ℕ) → Marked walk.seen node → slice_get walk.done node ≡ Some false
      → slice_get walk.places node ≡ Some low → IsLowFor (λ next. node ≡ next) walk place low
  low_waits is node low seen not_done at = elim (is.known node seen) [
    | inl done ↦ differ (slice_get walk.done node) done not_done
    | inr stands ↦
        let same : stands.0 ≡ low = some_same stands.0 low (sym (is.placed stands.0 node stands.1) ∙ at) in
        let there : slice_get walk.waiting low ≡ Some node = ap (slice_get walk.waiting) (sym same) ∙ stands.1 in
        record {
          all = λ next is_node. inr (low, (there ∙ ap Some is_node, omega arith));
          one = inr (node, (refl, there));
        }
  ]

  pub low_as : (first second : ℕ → Type 0) → ((next : ℕ) → first next → second next) → ((next : ℕ) → second next → first next)
      → (low : ℕ) → IsLowFor first walk place low → IsLowFor second walk place low
  low_as first second to back low is = record {
    all = λ next read. is.all next (back next read);
    one = elim is.one [ inl same ↦ inl same | inr next ↦ inr (next.0, (to next.0 next.1.0, next.1.1)) ];
  }

  module _ (first second : ℕ → Type 0) (left right : ℕ) (is_left : IsLowFor first walk place left)
      (is_right : IsLowFor second walk place right) where
    pub low_left : left ≤ right → IsLowFor (λ next. first next ⊎ second next) walk place left
    low_left le = record {
      all = λ next read. elim read [
        | inl this ↦ is_left.all next this
        | inr that ↦ elim (is_right.all next that) [
          | inl done ↦ inl done
          | inr waits ↦ let far = waits.1.1 in inr (waits.0, (waits.1.0, omega (arith, le, far)))
        ]
      ];
      one = elim is_left.one [ inl same ↦ inl same | inr next ↦ inr (next.0, (inl next.1.0, next.1.1)) ];
    }

    pub low_right : right ≤ left → IsLowFor (λ next. first next ⊎ second next) walk place right
    low_right le = record {
      all = λ next read. elim read [
        | inl this ↦ elim (is_left.all next this) [
          | inl done ↦ inl done
          | inr waits ↦ let far = waits.1.1 in inr (waits.0, (waits.1.0, omega (arith, le, far)))
        ]
        | inr that ↦ is_right.all next that
      ];
      one = elim is_right.one [ inl same ↦ inl same | inr next ↦ inr (next.0, (inr next.1.0, next.1.1)) ];
    }
