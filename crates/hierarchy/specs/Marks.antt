-- Marks on the places of a graph.
use Rattle.std.specs.Prelude.{ℕ, ◌+◌, ◌<◌, ◌≤◌, Bool, true, false, ◌||◌, ◌&&◌, not, ◌≡◌, List, length}
use Rattle.std.specs.List.{count_by}
use Rattle.hierarchy.specs.Graph.{has, is_marked}

abbrev pub count_marks : List Bool → ℕ
count_marks marks = count_by (λ mark. mark) marks

-- what becomes of marks and of the places to visit, where these places are marked and those among them that were not
-- marked are to be visited
pub record Visits (places : List ℕ) (marks : List Bool) (to_visit : List ℕ) (marks_after : List Bool) (to_visit_after : List ℕ) : Type 0 where
  pub len : length marks_after ≡ length marks
  pub marked : (place : ℕ) → is_marked marks_after place ≡ (is_marked marks place || has places place)
  pub visited : (place : ℕ) → has to_visit_after place ≡ (has to_visit place || (not (is_marked marks place) && has places place))
  pub counted : length to_visit_after + count_marks marks ≡ length to_visit + count_marks marks_after
  pub grown : count_marks marks ≤ count_marks marks_after
  pub greater : (place : ℕ) → is_marked marks place ≡ false → is_marked marks_after place ≡ true → count_marks marks < count_marks marks_after
