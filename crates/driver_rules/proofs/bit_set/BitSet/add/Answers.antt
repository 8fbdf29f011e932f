use Rattle.driver_rules.specs.Runs.{kept_at}
use Rattle.driver_rules.proofs.SetLemmas.{added, fewer, forward_both, is_with, is_without, overlapped_joined, put_apart, then_same, without_apart}
use Rattle.driver_rules.proofs.bit_set.BitSet.add.Goals as goal

pub invariant_of-self : goal.invariant_of-self
invariant_of-self c = record {
  apart = without_apart (kept_at c.loop-run.self.runs) (kept_at c.remove.new.self) c.in-Some.run'
      (is_without c.loop-run.self.runs c.remove.new.self c.in-Some.run' c.remove.ensures.updates) c.loop-run.self.apart;
}

pub loop-run-smaller : goal.loop-run-smaller
loop-run-smaller c =
    fewer c.loop-run.self.runs c.remove.new.self c.loop-run.whole c.in-Some.run' c.remove.result c.remove.ensures.value c.remove.ensures.len c.in-Some.ensures

pub loop-run-preserved : goal.loop-run-preserved
loop-run-preserved c = record {
  forward = forward_both c.loop-run.whole c.in-Some.run' c.with-whole.result c.with-whole.ensures c.loop-run.invariant.forward;
  same = λ x h.
      then_same
      (overlapped_joined (kept_at c.loop-run.self.runs) (kept_at c.remove.new.self) c.loop-run.whole c.in-Some.run' c.with-whole.result
      (is_without c.loop-run.self.runs c.remove.new.self c.in-Some.run' c.remove.ensures.updates) c.in-Some.ensures c.with-whole.ensures x h)
      (c.loop-run.invariant.same x h);
}

pub invariant_of-self-2 : goal.invariant_of-self-2
invariant_of-self-2 c = record {
  apart = put_apart c.loop-run.self.runs c.insert.new.self c.loop-run.whole c.insert.result c.insert.ensures.updates c.insert.ensures.err
      c.loop-run.self.apart c.in_default.ensures c.loop-run.invariant.forward;
}

pub returns : goal.returns
returns c =
    added (kept_at c.loop-run.self.runs) (kept_at c.args.self.now.runs) (kept_at c.insert.new.self) c.args.bits c.loop-run.whole
    c.loop-run.invariant.same (is_with c.loop-run.self.runs c.insert.new.self c.loop-run.whole c.in_ok-insert.ensures.updates)
    c.loop-run.self.apart c.in_default.ensures c.loop-run.invariant.forward
