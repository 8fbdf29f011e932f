use Rattle.std.proofs.Common.{◌-◌, ap, false, length, replicate, set, true, ◌∙◌}
use Rattle.levelise.specs.Machine.{machine}
use Rattle.bm_cli.proofs.MachineLemmas.{bits_of_end}
use Rattle.bm_cli.proofs.commands.minimise.checks_of.Goals as goal

pub returns : goal.returns
returns c =
    c.set.ensures
    ∙ ap (λ b. set b (c.len-2.result - 1) true) (c.in_ok-checks.ensures ∙ ap (λ n. replicate n false) c.len.ensures.len)
    ∙ ap (λ n. set (replicate (length c.args.trace.now.rows) false) (n - 1) true) c.len-2.ensures.len
    ∙ bits_of_end (machine c.args.level.now) c.args.trace.now.rows c.requires
