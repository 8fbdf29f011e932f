-- What bytes are as a waveform, by their header and what stands behind it.
use Rattle.std.proofs.Common.{◌≡◌, ◌⊎◌, inl, inr, ℕ, List, length, Option, Some, None, Err, sym, ap, ◌∙◌}
use Rattle.trace_rows.specs.declared.labels.Labels.{Labels}
use Rattle.vcd_header.specs.declared.fault.VcdFault.{VcdFault}
use Rattle.vcd_header.specs.declared.fault.VcdFault.TheVariants.{Memory}
use Rattle.vcd_reader.specs.Body.{items}
use Rattle.vcd_header.specs.Declares.{Declared, declared_by_groups}
use Rattle.vcd_header.specs.Header.{header_fault}
use Rattle.vcd_header.specs.Sections.{body, header}
use Rattle.vcd_header.specs.Tokens.{Tok, tokens}
use Rattle.vcd_reader.specs.Waveform.{body_of, limited, unless, waveform}

module _ (bytes : List ℕ) (labels : Labels) (scope : Option (List ℕ)) (toks : List Tok) where
  by_tokens : toks ≡ tokens bytes → waveform bytes labels scope ≡ unless (header_fault (length bytes) toks) (body_of (declared_by_groups (header toks)) (items (body toks)) labels scope)
  unfolding waveform
  by_tokens same = ap (λ toks. unless (header_fault (length bytes) toks) (body_of (declared_by_groups (header toks)) (items (body toks)) labels scope)) (sym same)

  pub header_passes : (all : Declared) (rest : List Tok) → toks ≡ tokens bytes → header_fault (length bytes) toks ≡ None → all ≡ declared_by_groups (header toks) → rest ≡ body toks
      → waveform bytes labels scope ≡ body_of all (items rest) labels scope
  header_passes all rest same none declared behind =
      by_tokens same
      ∙ ap (λ fault. unless fault (body_of (declared_by_groups (header toks)) (items (body toks)) labels scope)) none
      ∙ ap (λ all. body_of all (items (body toks)) labels scope) (sym declared)
      ∙ ap (λ rest. body_of all (items rest) labels scope) (sym behind)

  pub header_refuses : (fault : VcdFault) → toks ≡ tokens bytes → (header_fault (length bytes) toks ≡ Some fault) ⊎ (fault ≡ Memory) → (waveform bytes labels scope ≡ Err fault) ⊎ (fault ≡ Memory)
  header_refuses fault same (inl is) =
      inl (by_tokens same ∙ ap (λ fault. unless fault (body_of (declared_by_groups (header toks)) (items (body toks)) labels scope)) is)
  header_refuses fault same (inr is) = inr is

  pub header_limits : (registers : ℕ) (fault : VcdFault) → toks ≡ tokens bytes → (header_fault (length bytes) toks ≡ Some fault) ⊎ (fault ≡ Memory) → (limited registers (waveform bytes labels scope) ≡ Err fault) ⊎ (fault ≡ Memory)
  header_limits registers fault same refused = by (header_refuses fault same refused)
    where
      by : (waveform bytes labels scope ≡ Err fault) ⊎ (fault ≡ Memory) → (limited registers (waveform bytes labels scope) ≡ Err fault) ⊎ (fault ≡ Memory)
      by (inl is) = inl (ap (limited registers) is)
      by (inr is) = inr is
