use Rattle.keys.proofs.PathLemmas.{first_holds, path_there}
use Rattle.keys.proofs.path.path_of.Goals as goal

pub loop-at-init : goal.loop-at-init
loop-at-init c = first_holds c.args.frames.now c.requires.sound c.args.place c.new-path.result c.requires.within c.new-path.ensures

pub returns : goal.returns
returns c = path_there c.args.frames.now c.requires.sound c.loop-at.at c.args.place c.loop-at.path c.loop-at-test.false c.loop-at.invariant
