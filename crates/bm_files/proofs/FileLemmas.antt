-- What several calls of a shelf do together.
use Rattle.std.proofs.Common.{◌≡◌, ◌≤◌, ◌+◌, ◌++◌, ℕ, List, Option, length, take, drop, IfSome, Some, None, arith, refl, sym, ◌∙◌, ap, [], ◌⊎◌, inl, inr, ⊎_elim, subst, unwrap_or}
use Rattle.std.proofs.Math.Seq.{take-add, take-append_seam, drop-append_seam}
use Rattle.std.proofs.lemmas.List.{length-take, length-drop, take-append-le}
use Rattle.std.specs.Option.{option_map}
use Rattle.bm_base.specs.ByName.{get-insert_same, insert-insert, cases_name}
use Rattle.bm_base.specs.Counts.{FaultCounts, count_of, Rose, RisesOnlyAt, SameCounts}
use Rattle.bm_base.specs.Held.{Held, bytes_under, holding, appended, Reads, GainsPrefix}
use Rattle.bm_files.specs.Files.{HoldsPrefix}

-- A count that doesn't fall first and then rises has risen.
pub Rose_later : (before mid now : ℕ) → before ≤ mid → Rose mid now → Rose before now
Rose_later before mid now grows rose = omega arith

pub RisesOnlyAt-refl : (name : List ℕ) (counts : FaultCounts) → RisesOnlyAt name counts counts
RisesOnlyAt-refl name counts = record { grows = omega arith; others = λ q other. refl }

pub RisesOnlyAt-trans : (name : List ℕ) (a b c : FaultCounts) → RisesOnlyAt name a b → RisesOnlyAt name b c → RisesOnlyAt name a c
RisesOnlyAt-trans name a b c first then = record {
  grows = omega (arith, first.grows, then.grows);
  others = λ q other. then.others q other ∙ first.others q other;
}

pub SameCounts-trans : (a b c : FaultCounts) → SameCounts a b → SameCounts b c → SameCounts a c
SameCounts-trans a b c first then = λ q. then q ∙ first q

-- as far as the buffer is filled, it has the file's bytes
pub record ReadSoFar (file : List ℕ) (at : ℕ) (buffer : List ℕ) : Type 0 where
  pub same : take at buffer ≡ take at file
  pub there : at ≤ length file

-- what the calls so far have kept
pub record FillsSoFar (held now : Option Held) (reads reads_now writes writes_now : FaultCounts) (name : List ℕ) (at : ℕ) (buffer : List ℕ) : Type 0 where
  pub within : at ≤ length buffer
  pub held_stays : now ≡ held
  pub reads_rise : RisesOnlyAt name reads reads_now
  pub writes_stay : SameCounts writes writes_now
  pub told : IfSome held (λ h. ReadSoFar (bytes_under h name) at buffer)

-- one more read at the place that is reached
pub ReadSoFar-more : (file : List ℕ) (at count : ℕ) (buffer chunk tail : List ℕ) → at ≤ length buffer → count ≤ length chunk
    → ReadSoFar file at buffer → Reads file at count chunk → ReadSoFar file (at + count) (take at buffer ++ (chunk ++ tail))
ReadSoFar-more file at count buffer chunk tail within short so_far read =
    let front : length (take at buffer) ≡ at = omega (arith, length-take at buffer) in
    let before : take at (take at buffer ++ (chunk ++ tail)) ≡ take at buffer = ap (λ n. take n (take at buffer ++ (chunk ++ tail))) (sym front) ∙ take-append_seam (take at buffer) (chunk ++ tail) in
    let after : drop at (take at buffer ++ (chunk ++ tail)) ≡ chunk ++ tail = ap (λ n. drop n (take at buffer ++ (chunk ++ tail))) (sym front) ∙ drop-append_seam (take at buffer) (chunk ++ tail) in
    let read_part : take count (chunk ++ tail) ≡ take count chunk = take-append-le count chunk tail short in
    record {
      same = take-add at count (take at buffer ++ (chunk ++ tail)) ∙ cc (before, after, read_part, so_far.same, read.same, take-add at count file);
      there = omega (arith, length-drop at file, read.there, so_far.there);
    }

-- the same where the shelf may not tell its bytes
pub told_more : (held : Option Held) (name : List ℕ) (at count : ℕ) (buffer chunk tail : List ℕ) → at ≤ length buffer → count ≤ length chunk
    → IfSome held (λ h. ReadSoFar (bytes_under h name) at buffer) → IfSome held (λ h. Reads (bytes_under h name) at count chunk)
    → IfSome held (λ h. ReadSoFar (bytes_under h name) (at + count) (take at buffer ++ (chunk ++ tail)))
told_more None name at count buffer chunk tail within short so_far read = so_far
told_more (Some h) name at count buffer chunk tail within short so_far read = ReadSoFar-more (bytes_under h name) at count buffer chunk tail within short so_far read

-- what is held under a name that was just given bytes
pub bytes_under-holding : (name bytes : List ℕ) (held : Held) → bytes_under (holding name bytes held) name ≡ bytes
bytes_under-holding name bytes held = ap (λ found. unwrap_or found []) (get-insert_same held name bytes)

-- a piece added to a name that was just emptied
pub appended-holding : (name piece : List ℕ) (held : Held) → appended name piece (holding name [] held) ≡ holding name piece held
appended-holding name piece held =
    ap (λ bytes. holding name (bytes ++ piece) (holding name [] held)) (bytes_under-holding name [] held) ∙ insert-insert held name [] piece

told_appended : (held : Option Held) (name piece : List ℕ) → option_map (appended name piece) (option_map (holding name []) held) ≡ option_map (holding name piece) held
told_appended None name piece = refl
told_appended (Some held) name piece = ap Some (appended-holding name piece held)

-- a whole text after `create`
pub written_whole : (old mid new : Option Held) (name text : List ℕ) → mid ≡ option_map (holding name []) old → new ≡ option_map (appended name text) mid → new ≡ option_map (holding name text) old
written_whole old mid new name text created added = added ∙ ap (option_map (appended name text)) created ∙ told_appended old name text

-- a part of a text after `create`
pub written_part : (old mid new : Option Held) (name text : List ℕ) → mid ≡ option_map (holding name []) old → GainsPrefix name text mid new → HoldsPrefix name text old new
written_part old mid new name text created (inl same) = inr (0, same ∙ created)
written_part old mid new name text created (inr gained) = inr (gained.0, written_whole old mid new name (take gained.0 text) created gained.1)

-- a `create` that failed
pub created_part : (old new : Option Held) (name text : List ℕ) → (new ≡ old) ⊎ (new ≡ option_map (holding name []) old) → HoldsPrefix name text old new
created_part old new name text (inl same) = inl same
created_part old new name text (inr emptied) = inr (0, emptied)

-- A read step lets no count fall, whatever the name.
pub grows_anywhere : (name q : List ℕ) (old new : FaultCounts) → RisesOnlyAt name old new → count_of old q ≤ count_of new q
grows_anywhere name q old new rises =
    ⊎_elim (λ same. subst (λ x. count_of old x ≤ count_of new x) (sym same) rises.grows) (λ other. omega (arith, rises.others q other)) (cases_name q name)
