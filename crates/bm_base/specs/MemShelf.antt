-- A shelf in memory whose calls fail where told.
use Rattle.std.specs.Prelude.{◌≡◌, ℕ, List, Bool, ◌||◌, is_some, is_none, take, [], refl}
use Rattle.std.specs.Coded.{Coded, code_by, coded×}
use Rattle.std.specs.FinMap.{empty, get}
use Rattle.bm_base.specs.Counts.{FaultCounts, counts_code, risen, SameCounts}
use Rattle.bm_base.specs.Held.{Held, held_code, holding, appended}
use Rattle.bm_base.specs.Script.{Calls, calls_code, no_calls, planned, planning, passed}
use Rattle.bm_base.specs.declared.call.Call.{Call}
use Rattle.bm_base.specs.declared.call.Call.TheVariants.{Len, Read, Create, Append}

-- what is held, how often reading and writing each name failed, and which calls of each kind are to fail
pub record ShelfState : Type 0 where
  pub held : Held
  pub reads : FaultCounts
  pub writes : FaultCounts
  pub lens : Calls
  pub read_ats : Calls
  pub creates : Calls
  pub appends : Calls

abbrev pub shelf_code : Coded ShelfState
shelf_code =
    code_by
    ((Held × (FaultCounts × FaultCounts)) × ((Calls × Calls) × (Calls × Calls)))
    (coded× (coded× held_code (coded× counts_code counts_code))
    (coded× (coded× calls_code calls_code) (coded× calls_code calls_code)))
    (λ s. ((s.held, (s.reads, s.writes)), ((s.lens, s.read_ats), (s.creates, s.appends))))
    (λ p. record {
      held = p.0.0;
      reads = p.0.1.0;
      writes = p.0.1.1;
      lens = p.1.0.0;
      read_ats = p.1.0.1;
      creates = p.1.1.0;
      appends = p.1.1.1;
    })
    (λ _. refl)

abbrev pub empty_shelf : ShelfState
empty_shelf =
    record {
      held = empty;
      reads = empty;
      writes = empty;
      lens = no_calls;
      read_ats = no_calls;
      creates = no_calls;
      appends = no_calls;
    }

-- with one more call of this kind to fail
abbrev pub failing : Call → ℕ → ℕ → ShelfState → ShelfState
failing Len nth keep shelf = record shelf { lens = planning nth keep shelf.lens }
failing Read nth keep shelf = record shelf { read_ats = planning nth keep shelf.read_ats }
failing Create nth keep shelf = record shelf { creates = planning nth keep shelf.creates }
failing Append nth keep shelf = record shelf { appends = planning nth keep shelf.appends }

-- Reading fails where that is planned, and where the name is not there.
abbrev pub reading_fails : Calls → List ℕ → Held → Bool
reading_fails calls name held = is_some (planned calls) || is_none (get held name)

abbrev pub after_len : ShelfState → ShelfState
after_len shelf = record shelf { lens = passed shelf.lens }

abbrev pub after_failed_len : List ℕ → ShelfState → ShelfState
after_failed_len name shelf = record shelf { lens = passed shelf.lens; reads = risen name shelf.reads }

abbrev pub after_read_at : ShelfState → ShelfState
after_read_at shelf = record shelf { read_ats = passed shelf.read_ats }

abbrev pub after_failed_read_at : List ℕ → ShelfState → ShelfState
after_failed_read_at name shelf = record shelf { read_ats = passed shelf.read_ats; reads = risen name shelf.reads }

abbrev pub after_create : List ℕ → ShelfState → ShelfState
after_create name shelf = record shelf { held = holding name [] shelf.held; creates = passed shelf.creates }

abbrev pub after_failed_create : List ℕ → ShelfState → ShelfState
after_failed_create name shelf = record shelf { creates = passed shelf.creates; writes = risen name shelf.writes }

abbrev pub after_append : List ℕ → List ℕ → ShelfState → ShelfState
after_append name piece shelf = record shelf { held = appended name piece shelf.held; appends = passed shelf.appends }

abbrev pub after_failed_append : List ℕ → List ℕ → ℕ → ShelfState → ShelfState
after_failed_append name piece keep shelf =
    record shelf {
      held = appended name (take keep piece) shelf.held;
      appends = passed shelf.appends;
      writes = risen name shelf.writes;
    }

-- All is as before, but that `writes` may have one more name, at 0.
pub record SameButEntered (old new : ShelfState) : Type 0 where
  pub rest : new ≡ record old { writes = new.writes }
  pub counts : SameCounts old.writes new.writes
