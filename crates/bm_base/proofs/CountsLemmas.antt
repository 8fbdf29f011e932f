-- Lemmas on counts of faults.
use Rattle.std.proofs.Common.{◌≡◌, ◌≢◌, ℕ, ◌≤◌, List, IsTrue, is_some, unwrap_or, sym, ap, ◌∙◌, ⊎_elim, subst, arith}
use Rattle.std.specs.FinMap.{insert, contains_key}
use Rattle.bm_base.specs.Counts.{FaultCounts, count_of, up, entered, risen, SameCounts, Rose, RisesOnlyAt}
use Rattle.bm_base.specs.ByName.{get-insert_same, get-insert_other, insert-insert, cases_name}

pub contains_key-entered : (name : List ℕ) (counts : FaultCounts) → IsTrue (contains_key (entered name counts) name)
contains_key-entered name counts = ap is_some (get-insert_same counts name (count_of counts name))

pub count_of-insert_same : (counts : FaultCounts) (name : List ℕ) (n : ℕ) → count_of (insert counts name n) name ≡ n
count_of-insert_same counts name n = ap (λ o. unwrap_or o 0) (get-insert_same counts name n)

pub count_of-insert_other : (counts : FaultCounts) (name : List ℕ) (n : ℕ) (q : List ℕ) → q ≢ name → count_of (insert counts name n) q ≡ count_of counts q
count_of-insert_other counts name n q ne = ap (λ o. unwrap_or o 0) (get-insert_other counts name n q ne)

pub SameCounts-entered : (name : List ℕ) (counts : FaultCounts) → SameCounts counts (entered name counts)
SameCounts-entered name counts q = ⊎_elim (λ e. subst (λ x. count_of (entered name counts) x ≡ count_of counts x) (sym e) (count_of-insert_same counts name (count_of counts name))) (count_of-insert_other counts name (count_of counts name) q) (cases_name q name)

pub risen-entered : (name : List ℕ) (counts : FaultCounts) → risen name (entered name counts) ≡ risen name counts
risen-entered name counts =
    insert-insert counts name _ _ ∙ ap (λ n. insert counts name (up n)) (count_of-insert_same counts name (count_of counts name))

pub RisesOnlyAt-risen : (name : List ℕ) (counts : FaultCounts) → count_of counts name ≤ up (count_of counts name) → RisesOnlyAt name counts (risen name counts)
RisesOnlyAt-risen name counts grows = record {
  grows = rw (count_of-insert_same counts name (up (count_of counts name))) grows;
  others = count_of-insert_other counts name _;
}

pub Rose-risen : (name : List ℕ) (counts : FaultCounts) → Rose (count_of counts name) (count_of (risen name counts) name)
Rose-risen name counts = rw (count_of-insert_same counts name (up (count_of counts name))) (omega arith)

pub RisesOnlyAt-same : (name : List ℕ) (old new : FaultCounts) → SameCounts old new → RisesOnlyAt name old new
RisesOnlyAt-same name old new same = record { grows = rw (same name) (omega arith); others = λ q _. same q }

-- the counts may be entered first
pub RisesOnlyAt-cong : (name : List ℕ) (old mid new : FaultCounts) → SameCounts old mid → RisesOnlyAt name mid new → RisesOnlyAt name old new
RisesOnlyAt-cong name old mid new same rises = record { grows = rw (← same name) rises.grows; others = λ q ne. rises.others q ne ∙ same q }
