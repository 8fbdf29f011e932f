use Rattle.net_loops.proofs.LoopLemmas.{loop, none}
use Rattle.net_loops.proofs.laws.loops.Goals as goal

pub returns : goal.returns
returns c = record {
  none = λ nodes state row steps node reads. none nodes state row steps node reads.0 reads.1;
  loop = loop;
}
