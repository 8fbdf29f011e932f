use Rattle.bm_base.proofs.TextMap.{get-seen}
use Rattle.bm_base.proofs.files.Files.get.Goals as goal

pub returns-in-Some : goal.returns-in-Some
returns-in-Some c =
    let seen = get-seen (λ bytes. bytes.items) c.self.inside.files c.args.self.now c.args.name.now c.self.view_is in
    rw (seen, ← c.get.ensures.value, c.in-Some.is, c.as_slice.ensures.value)

pub returns-in-None : goal.returns-in-None
returns-in-None c =
    let seen = get-seen (λ bytes. bytes.items) c.self.inside.files c.args.self.now c.args.name.now c.self.view_is in
    rw (seen, ← c.get.ensures.value, c.in-None.is)
