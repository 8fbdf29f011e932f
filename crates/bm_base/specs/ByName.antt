-- Lemmas on finite maps from names' bytes.
use Rattle.std.proofs.Common.{◌≡◌, ◌≢◌, ◌⊎◌, inl, inr, ⊎_elim, subst, ℕ, Bool, true, false, cond, List, Some, Option, refl, sym, ap, ◌∙◌}
use Rattle.std.specs.declared.cmp.Ordering.{Ordering}
use Rattle.std.specs.declared.cmp.Ordering.TheVariants.{Less, Equal, Greater}
use Rattle.std.specs.Ordering.{nat_cmp, eq_by_cmp, is_eq}
use Rattle.std.specs.Cmp.{tied_itself}
use Rattle.std.specs.Cmp.Lexicographic.{slice_cmp, nat_list_cmp_total}
use Rattle.std.specs.FinMap.{FinMap, get, insert, same_map, get-insert, IsAntisymmetric, nat_cmp-IsAntisymmetric, slice_cmp-IsAntisymmetric}
use Rattle.std.proofs.lemmas.Bool.{false≢true}

abbrev pub ByName : Type 0 → Type 0
ByName X = FinMap (slice_cmp nat_cmp) X

pub only_equal_tie : IsAntisymmetric (slice_cmp nat_cmp)
only_equal_tie = slice_cmp-IsAntisymmetric nat_cmp-IsAntisymmetric

at_same : (k : List ℕ) → eq_by_cmp (slice_cmp nat_cmp) k k ≡ true
at_same k = ap is_eq (tied_itself nat_list_cmp_total k)

pub cases_name : (q k : List ℕ) → (q ≡ k) ⊎ (q ≢ k)
cases_name q k = by (slice_cmp nat_cmp q k) refl
  where
    by : (r : Ordering) → slice_cmp nat_cmp q k ≡ r → (q ≡ k) ⊎ (q ≢ k)
    by Less e = inr (λ s. false≢true (sym (ap is_eq e) ∙ ap (λ x. eq_by_cmp (slice_cmp nat_cmp) q x) (sym s) ∙ at_same q))
    by Equal e = inl (only_equal_tie q k e)
    by Greater e = inr (λ s. false≢true (sym (ap is_eq e) ∙ ap (λ x. eq_by_cmp (slice_cmp nat_cmp) q x) (sym s) ∙ at_same q))

at_other : (q k : List ℕ) → q ≢ k → eq_by_cmp (slice_cmp nat_cmp) q k ≡ false
at_other q k ne = by (slice_cmp nat_cmp q k) refl
  where
    by : (r : Ordering) → slice_cmp nat_cmp q k ≡ r → is_eq r ≡ false
    by Less e = refl
    by Equal e = absurd (ne (only_equal_tie q k e))
    by Greater e = refl

module _ {X : Type 0} where
  pub get-insert_same : (m : ByName X) (k : List ℕ) (v : X) → get (insert m k v) k ≡ Some v
  get-insert_same m k v = get-insert nat_list_cmp_total m k v k ∙ ap (λ b. cond b (Some v) (get m k)) (at_same k)

  pub get-insert_other : (m : ByName X) (k : List ℕ) (v : X) (q : List ℕ) → q ≢ k → get (insert m k v) q ≡ get m q
  get-insert_other m k v q ne = get-insert nat_list_cmp_total m k v q ∙ ap (λ b. cond b (Some v) (get m q)) (at_other q k ne)

  later : (b : Bool) (v w : X) (o : Option X) → cond b (Some w) (cond b (Some v) o) ≡ cond b (Some w) o
  later true v w o = refl
  later false v w o = refl

  -- what is written twice has the later value
  pub insert-insert : (m : ByName X) (k : List ℕ) (v w : X) → insert (insert m k v) k w ≡ insert m k w
  insert-insert m k v w = same_map nat_list_cmp_total only_equal_tie _ _ (λ q.
      get-insert nat_list_cmp_total (insert m k v) k w q
      ∙ ap (cond (eq_by_cmp (slice_cmp nat_cmp) q k) (Some w)) (get-insert nat_list_cmp_total m k v q)
      ∙ later _ v w (get m q)
      ∙ sym (get-insert nat_list_cmp_total m k w q))

  -- to write what is there changes nothing
  pub insert-found : (m : ByName X) (k : List ℕ) (v : X) → get m k ≡ Some v → insert m k v ≡ m
  insert-found m k v found = same_map nat_list_cmp_total only_equal_tie _ _ (λ q.
      ⊎_elim (λ e. subst (λ x. get (insert m k v) x ≡ get m x) (sym e) (get-insert_same m k v ∙ sym found)) (get-insert_other m k v q) (cases_name q k))
