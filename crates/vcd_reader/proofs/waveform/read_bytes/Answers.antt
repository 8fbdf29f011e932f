use Rattle.std.proofs.Common.{◌≡◌, ◌⊎◌, ℕ, Err, Ok, IfErr, IfOk, subst, sym, option_copied}
use Rattle.trace_rows.specs.Rows.{Rows}
use Rattle.vcd_header.specs.declared.fault.VcdFault.{VcdFault}
use Rattle.vcd_header.specs.declared.fault.VcdFault.TheVariants.{Memory}
use Rattle.vcd_reader.specs.Waveform.{limited}
use Rattle.vcd_reader.proofs.WaveformLemmas.{header_limits, header_passes}
use Rattle.vcd_reader.proofs.waveform.read_bytes.Goals as goal

pub returns-in-Ok-clause-ok : goal.returns-in-Ok-clause-ok
returns-in-Ok-clause-ok c =
    let read = header_passes c.args.bytes.now c.args.labels.now (option_copied c.args.scope) c.new-tokens.result c.in-Ok.declarations c.take_header.new.tokens c.new-tokens.ensures c.in-Ok.ensures.faultless c.in-Ok.ensures.declared c.in-Ok.ensures.body in
    subst (λ reading. IfOk c.read_behind.result (λ (read : Rows × ℕ). limited c.args.registers reading ≡ Ok (record { trace = read.0; unknown = read.1 }))) (sym read) c.read_behind.ensures.ok

pub returns-in-Ok-clause-err : goal.returns-in-Ok-clause-err
returns-in-Ok-clause-err c =
    let read = header_passes c.args.bytes.now c.args.labels.now (option_copied c.args.scope) c.new-tokens.result c.in-Ok.declarations c.take_header.new.tokens c.new-tokens.ensures c.in-Ok.ensures.faultless c.in-Ok.ensures.declared c.in-Ok.ensures.body in
    subst (λ reading. IfErr c.read_behind.result (λ (fault : VcdFault). (limited c.args.registers reading ≡ Err fault) ⊎ (fault ≡ Memory))) (sym read) c.read_behind.ensures.err

pub returns-in-Err-clause-err : goal.returns-in-Err-clause-err
returns-in-Err-clause-err c =
    header_limits c.args.bytes.now c.args.labels.now (option_copied c.args.scope) c.new-tokens.result c.args.registers c.in-Err.fault c.new-tokens.ensures c.in-Err.ensures.fault
