use Rattle.std.proofs.Common.{subst}
use Rattle.frames.specs.Numbered.{numbered, setting_with}
use Rattle.frames.specs.Numbered as frames
use Rattle.flatten.specs.Ready.{setting_by}
use Rattle.flatten.proofs.FaultLemmas.{frames_refused}
use Rattle.keys.proofs.PlannedLemmas.{only_memory}
use Rattle.keys.proofs.planned.key_of_nets.Goals as goal

pub memory_of-requires : goal.memory_of-requires
memory_of-requires c =
    let it = numbered c.args.design.now c.args.labels.now.clock in
    let why = c.in-Err.fault in
    only_memory (setting_by it c.args.labels.now.check) why
    (frames_refused it c.args.labels.now.check why
    (subst (λ clock. frames.Refuses (setting_with (numbered c.args.design.now clock)) why) c.bytes.ensures c.in-Err.ensures.refused))
    c.requires.within
