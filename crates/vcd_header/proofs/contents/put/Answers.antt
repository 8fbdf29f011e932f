use Rattle.std.proofs.Common.{[], ◌∷◌, ◌++◌, ap, ◌∙◌}
use Rattle.vcd_header.proofs.ContentLemmas.{put_at}
use Rattle.vcd_header.proofs.contents.put.Goals as goal

pub returns-clause-put : goal.returns-clause-put
returns-clause-put c = λ other.
    put_at c.args.lists.now.items c.args.number _ c.push.new.self c.args.declaration other c.requires (c.in_ok-push.ensures.items ∙ ap (λ list. list.items ++ c.args.declaration ∷ []) c.index_mut.ensures.value)
