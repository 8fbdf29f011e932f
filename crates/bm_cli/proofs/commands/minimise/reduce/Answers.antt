use Rattle.std.proofs.Common.{◌≡◌, All, Bool, List, Some, ap, length, subst, sym, ◌∙◌}
use Rattle.bm_inputs.specs.Reading.{reading_of}
use Rattle.levelise.specs.Machine.{machine}
use Rattle.trace_rows.specs.Events.{event_count}
use Rattle.trace_rows.proofs.ViolationLemmas.{checks-length}
use Rattle.vcd_writer.specs.Waveform.{vcd}
use Rattle.bm_cli.proofs.MachineLemmas.{base_width, is_minimised}
use Rattle.bm_cli.proofs.commands.minimise.reduce.Goals as goal

pub events-events_before-requires : goal.events-events_before-requires
events-events_before-requires c = ap length c.in_ok-base.ensures ∙ base_width c.args.input.level ∙ sym c.requires.width

pub vcd_text-requires-clause-checks : goal.vcd_text-requires-clause-checks
vcd_text-requires-clause-checks c =
    ap length c.in_ok-checks.ensures ∙ checks-length (machine c.args.input.level) c.in_ok-made.made.rows

pub events-requires : goal.events-requires
events-requires c =
    ap length c.in_ok-base.ensures ∙ base_width c.args.input.level ∙ sym (c.in_ok-made.ensures.width ∙ c.requires.width)

pub returns-clause-reduced : goal.returns-clause-reduced
returns-clause-reduced c =
    let level = c.args.input.level in
    let made : List (List Bool) = c.in_ok-made.made.rows in
    let wide : c.in_ok-made.made.width ≡ level.net.inputs = c.in_ok-made.ensures.width ∙ c.requires.width in
    is_minimised c.written_is_read.ensures (machine level) c.args.input.labels c.requires.writable (reading_of c.args.input)
    c.requires.cycles made
    (subst (λ n. All (λ row. length row ≡ n) made) (wide ∙ sym c.requires.wide) c.width-width.ensures.rows)
    c.in_ok-made.ensures.accepted c.in_ok-made.ensures.shorter c.in_ok-text.text.items
    (c.in_ok-text.ensures ∙ ap (λ bits. vcd made c.args.input.labels (Some bits)) c.in_ok-checks.ensures)
    (record {
      cycles_before = c.len-cycles_before.result;
      events_before = c.events-events_before.result;
      cycles = c.len.result;
      events = c.events.result;
      unknown = c.args.input.unknown;
    })
    (λ i. record {
      cycles_before = c.len-cycles_before.ensures.len i;
      events_before = (c.events-events_before.ensures ∙ ap (λ base. event_count base c.args.input.trace.rows) c.in_ok-base.ensures) i;
      cycles = c.len.ensures.len i;
      events = (c.events.ensures ∙ ap (λ base. event_count base made) c.in_ok-base.ensures) i;
      unknown = c.args.input.unknown;
    })
