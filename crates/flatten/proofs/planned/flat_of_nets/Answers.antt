use Rattle.std.proofs.Common.{subst}
use Rattle.frames.specs.Numbered.{numbered, setting_with}
use Rattle.frames.specs.Numbered as frames
use Rattle.flatten.specs.Planned.{Refuses}
use Rattle.flatten.specs.Ready.{setting_by}
use Rattle.flatten.proofs.FaultLemmas.{frames_refused, passed_on}
use Rattle.flatten.proofs.planned.flat_of_nets.Goals as goal

pub returns-in_err-frames-clause-refused : goal.returns-in_err-frames-clause-refused
returns-in_err-frames-clause-refused c =
    passed_on (Refuses (setting_by (numbered c.args.design.now c.args.labels.now.clock) c.args.labels.now.check))
    c.from_residual.result c.in_err-frames.field-0.0 c.from_residual.ensures.1
    (frames_refused (numbered c.args.design.now c.args.labels.now.clock) c.args.labels.now.check c.in_err-frames.field-0.0
    (subst (λ clock. frames.Refuses (setting_with (numbered c.args.design.now clock)) c.in_err-frames.field-0.0) c.bytes.ensures
    c.in_err-frames.ensures.refused))
