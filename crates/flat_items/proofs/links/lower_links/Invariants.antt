use Rattle.flat_items.proofs.LinkLemmas.{LinksLeft}
use Rattle.flat_items.proofs.links.lower_links.Given as goal

abbrev pub invariant-loop-i : goal.invariant-loop-i
invariant-loop-i l = LinksLeft l.frame l.inner l.links l.i l.nodes l.initial.nodes l.driven l.initial.driven
