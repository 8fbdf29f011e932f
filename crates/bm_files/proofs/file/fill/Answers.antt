use Rattle.std.proofs.Common.{◌≡◌, ◌-◌, Option, length, take, drop, arith, ◌∙◌, subst, IfSome}
use Rattle.std.proofs.lemmas.List.{length-take, length-drop, length-append}
use Rattle.bm_base.specs.Held.{Held, bytes_under, Reads}
use Rattle.bm_files.proofs.FileLemmas.{RisesOnlyAt-trans, SameCounts-trans, told_more}
use Rattle.bm_files.proofs.file.fill.Goals as goal

pub loop-at-preserved : goal.loop-at-preserved
loop-at-preserved g c =
    let so_far = c.loop-at.invariant in
    let read = c.in_ok-count.ensures in
    let room : length (take (length c.loop-at.buffer - c.loop-at.at) (drop c.loop-at.at c.loop-at.buffer)) ≡ length c.loop-at.buffer - c.loop-at.at
    = omega (arith, length-take (length c.loop-at.buffer - c.loop-at.at) (drop c.loop-at.at c.loop-at.buffer), length-drop c.loop-at.at c.loop-at.buffer) in
    let P : Option Held → Type 0 = λ held. IfSome held (λ h. Reads (bytes_under h c.args.name.now) c.loop-at.at c.in_ok-count.count c.read_at.new.buf) in
    let kept : length c.read_at.new.buf ≡ length c.loop-at.buffer - c.loop-at.at = c.read_at.auto.buf ∙ room in
    record {
      within = simp length-append (omega (arith, length-take c.loop-at.at c.loop-at.buffer, kept, room, read.within, so_far.within));
      held_stays = read.held ∙ so_far.held_stays;
      reads_rise = RisesOnlyAt-trans _ _ _ _ so_far.reads_rise read.reads;
      writes_stay = SameCounts-trans _ _ _ so_far.writes_stay read.writes;
      told = told_more _ _ _ _ _ _ _ so_far.within (omega (arith, kept, room, read.within)) so_far.told (subst P so_far.held_stays read.bytes);
    }
