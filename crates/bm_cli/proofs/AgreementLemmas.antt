-- What `minimise` wrote, `check` accepts.
use Rattle.std.proofs.Common.{◌≡◌, ◌≢◌, ◌≤◌, inl, inr, ℕ, List, Bool, Option, None, Ok, [], ap, arith, length, refl, subst, sym, take, unwrap_or, ◌∙◌}
use Rattle.std.specs.Option.{option_map}
use Rattle.std.proofs.lemmas.List.{length-take}
use Rattle.bm_base.specs.ByName.{get-insert_other}
use Rattle.bm_base.specs.Held.{Held, bytes_under, holding}
use Rattle.bm_base.specs.declared.size.Size.{Size}
use Rattle.bm_files.proofs.FileLemmas.{bytes_under-holding}
use Rattle.bm_inputs.specs.Files.{design_labels, given, machine_of, registers_of}
use Rattle.bm_inputs.specs.Waveforms.{IsWaveform}
use Rattle.netlists.specs.Netlists.{IsNetlist}
use Rattle.trace_rows.specs.declared.labels.Labels.{Labels}
use Rattle.trace_rows.specs.Machine.{Machine}
use Rattle.vcd_header.specs.declared.fault.VcdFault.TheVariants.{Limit}
use Rattle.vcd_reader.specs.Laws.{ShorterPassesNone, WaveformsFit}
use Rattle.vcd_reader.specs.Rows.{Reading}
use Rattle.vcd_reader.specs.Waveform.{limit_passed, limited, unless, waveform}
use Rattle.vcd_writer.specs.Value.{row_width}
use Rattle.bm_cli.specs.Agreement.{IsAcceptedAgain}
use Rattle.bm_cli.specs.Counted.{accepted_of}
use Rattle.bm_cli.specs.Minimised.{IsMinimised, IsNoMore}
use Rattle.bm_cli.specs.declared.answer.Summary.{Summary}

-- what stands under another name
stays : (name other bytes : List ℕ) (held : Held) → other ≢ name → bytes_under (holding name bytes held) other ≡ bytes_under held other
stays name other bytes held differ = ap (λ found. unwrap_or found []) (get-insert_other held name bytes other differ)

-- As many rows as were read, or fewer, pass no limit.
fewer_rows : (machine : Machine) (trace : List (List Bool)) (rows : List (List Bool)) (n : ℕ) → IsNoMore machine trace (take n rows) → length trace ≤ length rows
fewer_rows machine trace rows n (inl shorter) = omega (arith, shorter, length-take n rows)
fewer_rows machine trace rows n (inr (same, events)) = omega (arith, same, length-take n rows)

limited_ok : (registers : ℕ) (bytes : List ℕ) (labels : Labels) (reading : Reading) → waveform bytes labels None ≡ Ok reading → limit_passed registers reading.trace ≡ None
    → limited registers (waveform bytes labels None) ≡ Ok reading
limited_ok registers bytes labels reading is none =
    ap (limited registers) is ∙ ap (λ (passed : Option Size). unless (option_map (λ what. Limit what) passed) (Ok reading)) none

module _ (fit : WaveformsFit) (shorter : ShorterPassesNone) where
  -- the trace that was made, as it is read again
  abbrev again : Labels → List (List Bool) → Reading
  again labels trace = record { trace = record { width = row_width labels.ports; rows = trace }; unknown = 0 }

  -- The text is a waveform of the trace.
  text_is : (machine : Machine) (labels : Labels) (scope : Option (List ℕ)) (registers : ℕ) (stimulus : List ℕ) (reading : Reading) (text : List ℕ) (summary : Summary)
      → IsWaveform labels scope registers stimulus reading → (made : IsMinimised machine labels reading text summary)
      → length text ≤ 268435456 → IsWaveform labels None registers text (again labels made.trace)
  text_is machine labels scope registers stimulus reading text summary read made short =
      let fits = fit registers stimulus labels scope reading read.text in
      record {
        short = short;
        text = limited_ok registers text labels (again labels made.trace) made.read_back
            (shorter registers reading.trace (record { width = row_width labels.ports; rows = made.trace }) (sym fits.2.width)
            (fewer_rows machine made.trace reading.trace.rows made.cycles made.no_more) fits.1);
      }

  pub accepted_again : IsAcceptedAgain
  accepted_again words request held text summary asks (design, reading, netlist, waveform, made) short =
      let labels : Labels = design_labels request.inputs design in
      let new : Held = holding request.out text held in
      let file = stays request.out request.inputs.netlist text held asks.fit.1.different.0 in (
        accepted_of (machine_of request.inputs design) made.trace,
        (
          design,
          again labels made.trace,
          record {
            short = subst (λ bytes. length bytes ≤ 16777216) (sym file) netlist.short;
            is = subst (λ bytes. IsNetlist (given request.inputs.names) bytes design) (sym file) netlist.is;
          },
          subst (λ bytes. IsWaveform labels None (registers_of request.inputs design) bytes (again labels made.trace))
              (sym (bytes_under-holding request.out text held))
              (text_is (machine_of request.inputs design) labels request.inputs.scope (registers_of request.inputs design)
              (bytes_under held request.inputs.waveform) reading text summary waveform made short),
          (made.accepted, refl),
        ),
      )
