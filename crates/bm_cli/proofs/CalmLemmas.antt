-- Where no count rises, neither 5 nor 6 comes.
use Rattle.std.proofs.Common.{◌≡◌, inl, inr, ℕ, List, [], ◌∷◌, Option, ⊎_elim, true, unwrap_or, refl, ap, sym, ◌∙◌, arith}
use Rattle.std.specs.Ordering.{nat_cmp}
use Rattle.std.specs.Cmp.Lexicographic.{slice_cmp}
use Rattle.std.specs.FinMap.{empty, get-empty}
use Rattle.bm_base.specs.Counts.{count_of, Rose}
use Rattle.bm_base.specs.Held.{Held}
use Rattle.bm_base.specs.declared.status.Status.{Status}
use Rattle.bm_base.specs.declared.status.Status.TheVariants as status
use Rattle.bm_cli.specs.Answer.{words_line}
use Rattle.bm_cli.specs.Commands.{writes_of}
use Rattle.bm_cli.specs.Keeps.{Keeps, RefusesWords, is_fault}
use Rattle.bm_cli.specs.Outside.{Outside, SomeRose, outside}
use Rattle.bm_cli.specs.Prints.{Prints}
use Rattle.bm_inputs.specs.Files.{FailsReading}
use Rattle.bm_words.specs.Words.{AskNothing, Asks, Command, Inputs, inputs_of}

nothing_counted : (name : List ℕ) → count_of empty name ≡ 0
nothing_counted name = ap (λ found. unwrap_or found 0) (get-empty (slice_cmp nat_cmp) name)

none_rose : (names : List (List ℕ)) → SomeRose names empty empty → ⊥
none_rose [] rose = rose
none_rose (name ∷ names) (inl rose) = omega (arith, nothing_counted name, rose)
none_rose (name ∷ names) (inr rose) = none_rose names rose

none_failed : (inputs : Inputs) (held : Option Held) → FailsReading inputs held empty empty → ⊥
none_failed inputs held (inl rose) = none_rose (inputs.netlist ∷ []) (inl rose)
none_failed inputs held (inr (rose, told)) = none_rose (inputs.waveform ∷ []) (inl rose)

no_fault_at_0 : Rose 0 0 → ⊥
no_fault_at_0 rose = omega (arith, rose)

-- a shelf and a sink that never fail
abbrev pub calm : Option Held → Option (List ℕ) → Outside
calm held taken = outside held empty empty taken 0

module _ (words : List (List ℕ)) (held held_now : Option Held) (taken taken_now : Option (List ℕ)) (result : Status)
    (refuses : AskNothing words → RefusesWords (calm held taken) result (calm held_now taken_now))
    (keeps : (command : Command) → Asks words command → Keeps command (calm held taken) result (calm held_now taken_now)) where
  pub no_read_fault : result ≡ status.ReadFault → ⊥
  no_read_fault five = by (refuses (λ command asks. none_failed (inputs_of command) held ((keeps command asks).unread five).0.rose)).prints
    where
      by : Prints status.Words words_line result (Rose 0 0) taken taken_now → ⊥
      by (inl (is, line)) = let same : status.Words ≡ status.ReadFault = sym is ∙ five in cc
      by (inr (inl (is, rose, part))) = no_fault_at_0 rose
      by (inr (inr (is, part))) = let same : status.Memory ≡ status.ReadFault = sym is ∙ five in cc

  pub no_write_fault : result ≡ status.WriteFault → ⊥
  no_write_fault six = by (refuses (λ command asks.
      ⊎_elim (λ failed. none_rose (writes_of command) failed.rose) (λ failed. no_fault_at_0 failed.rose) ((keeps command asks).unwritten six))).prints
    where
      by : Prints status.Words words_line result (Rose 0 0) taken taken_now → ⊥
      by (inl (is, line)) = let same : status.Words ≡ status.WriteFault = sym is ∙ six in cc
      by (inr (inl (is, rose, part))) = no_fault_at_0 rose
      by (inr (inr (is, part))) = let same : status.Memory ≡ status.WriteFault = sym is ∙ six in cc

-- Of the statuses that no answer has, memory alone is left.
pub only_memory : (result : Status) → is_fault result ≡ true → (result ≡ status.ReadFault → ⊥) → (result ≡ status.WriteFault → ⊥) → result ≡ status.Memory
only_memory status.ReadFault fault five six = absurd (five refl)
only_memory status.WriteFault fault five six = absurd (six refl)
only_memory status.Memory fault five six = refl
only_memory status.Done fault five six = absurd cc
only_memory status.No fault five six = absurd cc
only_memory status.Words fault five six = absurd cc
only_memory status.Netlist fault five six = absurd cc
only_memory status.Waveform fault five six = absurd cc
only_memory status.Limit fault five six = absurd cc
only_memory status.Certificate fault five six = absurd cc
