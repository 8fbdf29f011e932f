use Rattle.std.proofs.Common.{option_copied}
use Rattle.std.proofs.lemmas.Result.{IfErr-weaker}
use Rattle.vcd_reader.proofs.FaultLemmas.{never_of_a_read}
use Rattle.vcd_reader.proofs.file.read_vcd.Goals as goal

pub returns-in-Ok-clause-cause : goal.returns-in-Ok-clause-cause
returns-in-Ok-clause-cause g c =
    IfErr-weaker c.read_bytes.result _ _
    (λ fault is. never_of_a_read c.args.registers c.deref.result.now c.args.labels.now (option_copied c.args.scope) fault _ is)
    c.read_bytes.ensures.err
