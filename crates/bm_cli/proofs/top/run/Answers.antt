use Rattle.std.proofs.Common.{◌≡◌, subst}
use Rattle.bm_words.specs.Asked.{command_of}
use Rattle.bm_words.specs.Words.{Command, check, minimise, texts}
use Rattle.bm_cli.specs.Keeps.{Keeps}
use Rattle.bm_cli.specs.Outside.{Outside, outside}
use Rattle.bm_cli.proofs.KeepsLemmas.{done_kept, each_has_one, kept, yes_kept}
use Rattle.bm_cli.proofs.top.run.Goals as goal

pub returns-clause-keeps : goal.returns-clause-keeps
returns-clause-keeps g c = λ command asks.
    let before : Outside = outside (g.F.Shelf.held c.args.shelf.now) (g.F.Shelf.reads c.args.shelf.now) (g.F.Shelf.writes c.args.shelf.now) (g.S.Sink.taken c.args.out.now) (g.S.Sink.faults c.args.out.now) in
    let after : Outside = outside (g.F.Shelf.held c.carry_out-outcome.new.shelf) (g.F.Shelf.reads c.carry_out-outcome.new.shelf) (g.F.Shelf.writes c.carry_out-outcome.new.shelf) (g.S.Sink.taken c.finish.new.out) (g.S.Sink.faults c.finish.new.out) in
    let asked : Command = command_of c.in-Some.asked in
    let same : asked ≡ command = c.one_command.ensures (texts c.args.words.now) asked command c.in-Some.ensures.asked.form asks.form in
    subst (λ command. Keeps command before c.finish.result after) same
    (kept asked before c.finish.result after (each_has_one c.minimise_has_one_status.ensures c.check_has_one_status.ensures asked)
    c.carry_out-outcome.result c.carry_out-outcome.ensures.ends c.finish.ensures c.carry_out-outcome.ensures.reads c.carry_out-outcome.ensures.writes)

pub returns-clause-minimised : goal.returns-clause-minimised
returns-clause-minimised g c = λ request asks zero.
    let before : Outside = outside (g.F.Shelf.held c.args.shelf.now) (g.F.Shelf.reads c.args.shelf.now) (g.F.Shelf.writes c.args.shelf.now) (g.S.Sink.taken c.args.out.now) (g.S.Sink.faults c.args.out.now) in
    let after : Outside = outside (g.F.Shelf.held c.carry_out-outcome.new.shelf) (g.F.Shelf.reads c.carry_out-outcome.new.shelf) (g.F.Shelf.writes c.carry_out-outcome.new.shelf) (g.S.Sink.taken c.finish.new.out) (g.S.Sink.faults c.finish.new.out) in
    done_kept request before c.finish.result after (returns-clause-keeps g c (minimise request) asks) zero

pub returns-clause-says_yes : goal.returns-clause-says_yes
returns-clause-says_yes g c = λ inputs asks zero.
    let before : Outside = outside (g.F.Shelf.held c.args.shelf.now) (g.F.Shelf.reads c.args.shelf.now) (g.F.Shelf.writes c.args.shelf.now) (g.S.Sink.taken c.args.out.now) (g.S.Sink.faults c.args.out.now) in
    let after : Outside = outside (g.F.Shelf.held c.carry_out-outcome.new.shelf) (g.F.Shelf.reads c.carry_out-outcome.new.shelf) (g.F.Shelf.writes c.carry_out-outcome.new.shelf) (g.S.Sink.taken c.finish.new.out) (g.S.Sink.faults c.finish.new.out) in
    yes_kept inputs before c.finish.result after (returns-clause-keeps g c (check inputs) asks) zero
