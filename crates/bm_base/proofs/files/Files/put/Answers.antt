use Rattle.std.proofs.Common.{rules}
use Rattle.std.specs.String.{string_bytes}
use Rattle.bm_base.proofs.TextMap.{text_map-unchanged, text_map-updates}
use Rattle.bm_base.proofs.files.Files.put.Goals as goal

pub returns-in_err-insert-clause-err : goal.returns-in_err-insert-clause-err
returns-in_err-insert-clause-err c =
    let kept = text_map-unchanged (λ bytes. bytes.items) c.self.inside.files c.insert.new.self c.in_err-insert.ensures.err in
    search rules

pub returns-clause-ok : goal.returns-clause-ok
returns-clause-ok c =
    let put = text_map-updates (λ bytes. bytes.items) (string_bytes c.in_ok-name.name) c.self.inside.files c.insert.new.self c.in_ok-bytes.bytes c.in_ok-insert.ensures.updates in
    rw (c.self.view_is, c.in_ok-name.ensures.ok, c.in_ok-bytes.ensures.items) at put
