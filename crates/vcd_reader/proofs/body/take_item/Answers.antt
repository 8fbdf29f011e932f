use Rattle.std.proofs.Common.{subst, sym, ap, ◌∙◌}
use Rattle.std.proofs.lemmas.Result.{on_ok_weaker}
use Rattle.vcd_reader.specs.Sampling.{TakesItem}
use Rattle.vcd_reader.specs.Said.{item_of}
use Rattle.vcd_reader.proofs.ReadLemmas.{change_taken, equal_taken, later_taken}
use Rattle.vcd_reader.proofs.body.take_item.Goals as goal

pub returns-in-Change-clause-samples : goal.returns-in-Change-clause-samples
returns-in-Change-clause-samples c =
    on_ok_weaker c.put_change.result
    (λ put. subst (λ item. TakesItem c.args.sources.now c.args.last item c.args.sampler.now c.put_change.new.self) (sym (ap item_of c.in-Change.is))
    (change_taken c.args.sources.now c.args.last c.in-Change.at c.args.sampler.now c.put_change.new.self c.in-Change.code.now c.in-Change.digits.now put))
    c.put_change.ensures.sampled

pub returns-then-is_later-clause-samples : goal.returns-then-is_later-clause-samples
returns-then-is_later-clause-samples c =
    on_ok_weaker c.end_time.result
    (λ put. subst (λ item. TakesItem c.args.sources.now c.args.last item c.args.sampler.now c.end_time.new.self) (sym (ap item_of c.in-Time.is))
    (later_taken c.args.sources.now c.args.last c.in-Time.at c.args.sampler.now c.end_time.new.self c.in-Time.time (sym c.is_later.ensures ∙ c.if-is_later.true) put))
    c.end_time.ensures.sampled

pub returns-else-is_later-clause-samples : goal.returns-else-is_later-clause-samples
returns-else-is_later-clause-samples c =
    subst (λ item. TakesItem c.args.sources.now c.args.last item c.args.sampler.now c.args.sampler.now) (sym (ap item_of c.in-Time.is))
    (equal_taken c.args.sources.now c.args.last c.in-Time.at c.args.sampler.now c.args.sampler.now c.in-Time.time (sym c.is_later.ensures ∙ c.if-is_later.false))
