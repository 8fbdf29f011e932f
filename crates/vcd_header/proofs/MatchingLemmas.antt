-- The bits of a scope, one by one.
use Rattle.std.proofs.Common.{◌==◌, ◌≤◌, ◌⊎◌, inl, inr, Bool, false, cond, arith, ◌≡◌, ℕ, ◌+◌, ◌<◌, length, get_or, Option, List, [], ◌∷◌, ◌++◌, map, drop, Some, None, Result, Ok, Err, refl, sym, ap, ◌∙◌}
use Rattle.std.specs.List.{find}
use Rattle.std.specs.Option.{option_or}
use Rattle.std.proofs.lemmas.Bool.{cases_lt}
use Rattle.std.proofs.lemmas.Bool.Decides.{Decides-eqb}
use Rattle.std.proofs.lemmas.List.{append_assoc, drop_more}
use Rattle.vcd_header.specs.declared.declaration.Declaration.{Declaration}
use Rattle.vcd_header.specs.Declares.{declares, first_of}
use Rattle.vcd_header.specs.Scopes.{Path}
use Rattle.vcd_header.specs.declared.fault.VcdFault.{VcdFault}
use Rattle.vcd_header.specs.declared.fault.VcdFault.TheVariants.{NoSignal}
use Rattle.vcd_header.specs.declared.wanted.WantedBit.{WantedBit}
use Rattle.vcd_header.specs.Bits.{wanted_of}
use Rattle.vcd_header.specs.Matching.{Source, Wanted, source_by, source_of, sources_of, with_source}
use Rattle.vcd_header.specs.Variables.{Variable}
use Rattle.vcd_header.proofs.FirstLemmas.{first_is_path, first_not_later}

-- these sources, and then others
abbrev pub behind : List Source → Result (List Source) VcdFault → Result (List Source) VcdFault
behind front (Ok sources) = Ok (front ++ sources)
behind front (Err fault) = Err fault

behind_step : (front : List Source) (source : Source) (name : List ℕ) (rest : Result (List Source) VcdFault) → behind (front ++ source ∷ []) rest ≡ behind front (with_source name (Some source) rest)
behind_step front source name (Ok sources) = ap (λ (all : List Source). Ok all) (append_assoc front (source ∷ []) sources)
behind_step front source name (Err fault) = refl

module _ (variables : List Variable) where
  -- one more source
  pub source_step : (bits : List WantedBit) (i : ℕ) (bit : WantedBit) (front after : List Source) (source : Source) (whole : Result (List Source) VcdFault)
      → drop i bits ≡ bit ∷ drop (i + 1) bits → Some source ≡ source_of variables (wanted_of bit) → after ≡ front ++ source ∷ []
      → behind front (sources_of variables (map wanted_of (drop i bits))) ≡ whole → behind after (sources_of variables (map wanted_of (drop (i + 1) bits))) ≡ whole
  source_step bits i bit front after source whole split found pushed same =
      ap (λ front. behind front (sources_of variables (map wanted_of (drop (i + 1) bits)))) pushed
      ∙ behind_step front source (wanted_of bit).name (sources_of variables (map wanted_of (drop (i + 1) bits)))
      ∙ ap (λ first. behind front (with_source (wanted_of bit).name first (sources_of variables (map wanted_of (drop (i + 1) bits))))) found
      ∙ ap (λ (rest : List WantedBit). behind front (sources_of variables (map wanted_of rest))) (sym split)
      ∙ same

  -- a bit that nothing gives
  pub source_none : (bits : List WantedBit) (i : ℕ) (bit : WantedBit) (front : List Source) (whole : Result (List Source) VcdFault)
      → drop i bits ≡ bit ∷ drop (i + 1) bits → None ≡ source_of variables (wanted_of bit)
      → behind front (sources_of variables (map wanted_of (drop i bits))) ≡ whole → whole ≡ Err (NoSignal bit.name.now)
  source_none bits i bit front whole split none same =
      sym same
      ∙ ap (λ (rest : List WantedBit). behind front (sources_of variables (map wanted_of rest))) split
      ∙ ap (λ first. behind front (with_source (wanted_of bit).name first (sources_of variables (map wanted_of (drop (i + 1) bits))))) (sym none)

-- one more declaration
pub found_step : (paths : List Path) (declarations : List Declaration) (i : ℕ) (d : Declaration) (bit : Wanted) (found whole : Option Source) → i < length declarations
    → found ≡ source_by (declares paths (get_or declarations i d)) bit → source_of (map (declares paths) (drop i declarations)) bit ≡ whole
    → option_or found (source_of (map (declares paths) (drop (i + 1) declarations)) bit) ≡ whole
found_step paths declarations i d bit found whole within is same =
    ap (λ found. option_or found (source_of (map (declares paths) (drop (i + 1) declarations)) bit)) is
    ∙ ap (λ (rest : List Declaration). source_of (map (declares paths) rest) bit) (sym (drop_more declarations i d within))
    ∙ same

-- ---- scopes that were tried

-- The first number of them fail.
pub record AreTried (test : Path → Bool) (paths : List Path) (number : ℕ) : Type 0 where
  pub all_fail : (k : ℕ) → k < number → test (get_or paths k []) ≡ false
  pub same : find test (drop number paths) ≡ find test paths

module _ (test : Path → Bool) (paths : List Path) where
  pub tried_more : (number : ℕ) → number < length paths → AreTried test paths number → test (get_or paths number []) ≡ false → AreTried test paths (number + 1)
  tried_more number within tried fails = record {
    all_fail = λ k below. by k (cases_lt k number) below;
    same = sym (ap (find test) (drop_more paths number [] within) ∙ ap (λ b. cond b (Some (get_or paths number [])) (find test (drop (number + 1) paths))) fails) ∙ tried.same;
  }
    where
      by : (k : ℕ) → (k < number) ⊎ (number ≤ k) → k < number + 1 → test (get_or paths k []) ≡ false
      by k (inl h) below = tried.all_fail k h
      by k (inr h) below = ap (λ k. test (get_or paths k [])) (omega (arith, h, below)) ∙ fails

  -- a scope that was opened before by the same path
  pub tried_again : (number : ℕ) → number < length paths → AreTried test paths number → (first_of paths (get_or paths number []) == number) ≡ false → AreTried test paths (number + 1)
  tried_again number within tried again =
      let first = first_of paths (get_or paths number []) in
      let not_later = first_not_later paths number within in
      let one = first_is_path paths (get_or paths number []) (omega (arith, not_later, within)) in
      tried_more number within tried (ap test (sym one) ∙ tried.all_fail first (by (cases_lt first number)))
    where
      by : (first_of paths (get_or paths number []) < number) ⊎ (number ≤ first_of paths (get_or paths number [])) → first_of paths (get_or paths number []) < number
      by (inl h) = h
      by (inr h) =
          let same : first_of paths (get_or paths number []) ≡ number = omega (arith, h, first_not_later paths number within) in
          let is = (Decides-eqb (first_of paths (get_or paths number [])) number).1 same in
          absurd (cc)
