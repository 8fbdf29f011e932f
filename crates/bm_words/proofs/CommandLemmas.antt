-- Words ask for one command.
use Rattle.std.proofs.Common.{◌≡◌, ℕ, ◌<◌, ◌^◌, List, ◌∷◌, ◌++◌, Option, None, Some, arith, sym, ◌∙◌, codes, subst}
use Rattle.std.specs.Option.{option_map}
use Rattle.bm_words.specs.Names.{TopNames}
use Rattle.bm_words.specs.Options.{AreOptions, IsCycles, further_options, required_options, reset_text}
use Rattle.bm_words.specs.Words.{Command, HasFit, HasForm, Inputs, Request, check, inputs_of, minimise}
use Rattle.bm_words.proofs.CutLemmas.{one_reset}
use Rattle.bm_words.proofs.OptionLemmas.{one_further}

pub no_command : (words : List (List ℕ))
    → ((request : Request) → HasForm words (minimise request) → request.inputs.names.reset_cycles < 2 ^ 32 → ⊥)
    → ((inputs : Inputs) → HasForm words (check inputs) → inputs.names.reset_cycles < 2 ^ 32 → ⊥)
    → (command : Command) → HasForm words command → (inputs_of command).names.reset_cycles < 2 ^ 32 → ⊥
no_command words p q (minimise request) form small = p request form small
no_command words p q (check inputs) form small = q inputs form small

pub few_cycles : (command : Command) → HasFit command → (inputs_of command).names.reset_cycles < 2 ^ 32
few_cycles (minimise request) fit = omega (arith, fit.0.options.cycles)
few_cycles (check inputs) fit = omega (arith, fit.options.cycles)

one_number : (cycles : Option (List ℕ)) (a b : ℕ) → IsCycles cycles a → IsCycles cycles b → a ≡ b
one_number None a b p q = p ∙ sym q
one_number (Some text) a b p q = sym p.value ∙ q.value

pub one_given : (words : List (List ℕ)) (a b : TopNames) (s t : Option (List ℕ)) → AreOptions words a s
    → AreOptions words b t → (a ≡ b) × (s ≡ t)
one_given words a b s t p q =
    let same : required_options a.top a.clock a.check ++ further_options (option_map reset_text a.reset) p.cycles s
    ≡ required_options b.top b.clock b.check ++ further_options (option_map reset_text b.reset) q.cycles t
    = sym p.same ∙ q.same in
    let top : a.top ≡ b.top = cc in
    let clock : a.clock ≡ b.clock = cc in
    let check : a.check ≡ b.check = cc in
    let rest : further_options (option_map reset_text a.reset) p.cycles s
    ≡ further_options (option_map reset_text b.reset) q.cycles t = cc in
    let further = one_further _ _ _ _ _ _ rest in
    let reset : a.reset ≡ b.reset = one_reset a.reset b.reset further.0 in
    let number : IsCycles q.cycles a.reset_cycles =
    subst (λ (cycles : Option (List ℕ)). IsCycles cycles a.reset_cycles) further.1 p.number in
    let cycles : a.reset_cycles ≡ b.reset_cycles = one_number q.cycles a.reset_cycles b.reset_cycles number q.number in
    (λ i. record { top = top i; clock = clock i; check = check i; reset = reset i; reset_cycles = cycles i }, further.2)

one_inputs : (given : List (List ℕ)) (a b : Inputs) → a.netlist ≡ b.netlist → a.waveform ≡ b.waveform
    → AreOptions given a.names a.scope → AreOptions given b.names b.scope → a ≡ b
one_inputs given a b netlist waveform p q =
    let same = one_given given a.names b.names a.scope b.scope p q in
    λ i. record { netlist = netlist i; waveform = waveform i; names = same.0 i; scope = same.1 i }

pub one_command : (words : List (List ℕ)) (c d : Command) → HasForm words c → HasForm words d → c ≡ d
one_command words (minimise r) (minimise s) p q =
    let same : p.0 ∷ codes "minimise" ∷ r.inputs.netlist ∷ r.inputs.waveform ∷ r.out ∷ p.1
    ≡ q.0 ∷ codes "minimise" ∷ s.inputs.netlist ∷ s.inputs.waveform ∷ s.out ∷ q.1 = sym p.2 ∙ q.2 in
    let out : r.out ≡ s.out = cc in
    let given : p.1 ≡ q.1 = cc in
    let options : AreOptions q.1 r.inputs.names r.inputs.scope =
    subst (λ (given : List (List ℕ)). AreOptions given r.inputs.names r.inputs.scope) given p.3 in
    let inputs : r.inputs ≡ s.inputs = one_inputs q.1 r.inputs s.inputs (cc) (cc) options q.3 in
    λ i. minimise (record { inputs = inputs i; out = out i })
one_command words (check a) (check b) p q =
    let same : p.0 ∷ codes "check" ∷ a.netlist ∷ a.waveform ∷ p.1
    ≡ q.0 ∷ codes "check" ∷ b.netlist ∷ b.waveform ∷ q.1 = sym p.2 ∙ q.2 in
    let given : p.1 ≡ q.1 = cc in
    let options : AreOptions q.1 a.names a.scope =
    subst (λ (given : List (List ℕ)). AreOptions given a.names a.scope) given p.3 in
    let inputs : a ≡ b = one_inputs q.1 a b (cc) (cc) options q.3 in
    λ i. check (inputs i)
one_command words (minimise r) (check b) p q =
    let same : p.0 ∷ codes "minimise" ∷ r.inputs.netlist ∷ r.inputs.waveform ∷ r.out ∷ p.1
    ≡ q.0 ∷ codes "check" ∷ b.netlist ∷ b.waveform ∷ q.1 = sym p.2 ∙ q.2 in cc
one_command words (check a) (minimise s) p q =
    let same : p.0 ∷ codes "check" ∷ a.netlist ∷ a.waveform ∷ p.1
    ≡ q.0 ∷ codes "minimise" ∷ s.inputs.netlist ∷ s.inputs.waveform ∷ s.out ∷ q.1 = sym p.2 ∙ q.2 in cc
