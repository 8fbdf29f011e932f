use Rattle.std.proofs.Common.{◌≡◌, ◌+◌, ◌-◌, ◌++◌, List, ap, sym, ◌∙◌, arith}
use Rattle.std.specs.Option.{option_copied}
use Rattle.trace_rows.specs.declared.labels.PortLabel.{PortLabel}
use Rattle.vcd_writer.specs.Line.{text_of}
use Rattle.vcd_writer.specs.Waveform.{check_of, row_block}
use Rattle.vcd_writer.proofs.Pieces.{rows_more}
use Rattle.vcd_writer.proofs.waveform.vcd_text.Goals as goal

pub loop-i-preserved : goal.loop-i-preserved
loop-i-preserved c =
    let i = c.loop-i.i in
    let before = c.loop-i.before in
    let now = c.in_ok-now.now in
    let same : i + 1 - 1 ≡ i = omega arith in
    let block = c.in_ok-put_row.ensures ∙ ap (λ (ports : List PortLabel). c.put_edge.new.text.items ++ text_of (row_block ports i before.check before.row.items now.check now.row.items)) c.as_slice-ports.ensures in
    record {
      start = omega arith;
      width = sym (c.in_ok-now.ensures.width ∙ c.requires.width);
      check = c.in_ok-now.ensures.check ∙ ap (check_of (option_copied c.args.bad)) (sym same);
      wrote = rows_more _ _ _ _ c.args.labels.now.ports (option_copied c.args.bad) c.args.t.now.rows i _ _ before.check now.check (omega arith) c.in_ok-now.ensures.row c.loop-i.invariant.check c.in_ok-now.ensures.check c.loop-i.invariant.wrote c.in_ok-put_edge.ensures block;
    }
