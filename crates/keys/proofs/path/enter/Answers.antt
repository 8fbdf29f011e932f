use Rattle.std.proofs.Common.{◌+◌, [], ◌∷◌, ◌++◌, ap, arith, drop, refl, subst, sym, ◌∙◌}
use Rattle.numbering.specs.Places.{Placing}
use Rattle.vlog_tree.specs.declared.design.Module.{Module}
use Rattle.keys.specs.Holding.{AreAmongIn}
use Rattle.keys.proofs.PathLemmas.{after_child, after_other, children_among, into_child, next_item, no_child, not_back, nothing_among}
use Rattle.keys.proofs.PlaceLemmas.{drop_past}
use Rattle.keys.proofs.path.enter.Goals as goal
use Rattle.keys.proofs.path.enter.Goals.{in-Instance+else-place-next, in_default}

pub loop-item-init : goal.loop-item-init
loop-item-init c = record {
  among = children_among c.args.frames.now c.requires.sound c.args.at c.args.place c.args.path.now c.requires.holds c.requires.inner
      c.at.result.placing.definition c.at.ensures.definition c.as_slice-item-items.result.now
      (c.as_slice-item-items.ensures
      ∙ ap (λ (m : Module). m.items) (c.module.ensures ∙ c.nets.ensures ∙ ap (λ (it : Placing). it.definition) c.places.ensures))
      (c.args.at + 1) refl;
  later = omega arith;
}

pub returns-then-place-next-clause-holds : goal.returns-then-place-next-clause-holds
returns-then-place-next-clause-holds c =
    into_child c.args.frames.now c.loop-item.child c.args.place c.loop-item.path c.item-item.result _
    (next_item c.args.frames.now c.loop-item.child c.args.place c.loop-item.path c.as_slice-item-items.result.now c.loop-item.item-index
    c.item-item.result c.loop-item-test.true c.item-item.is c.loop-item.invariant.among)
    c.next_inner-next.result c.next_inner-next.ensures.size c.in-Instance.at c.in-Instance.module c.in-Instance.name c.in-Instance.links
    c.in-Instance.is c.if-place-next.true c.push.new.self
    (c.in_ok-push.ensures.ok ∙ ap (λ name. c.loop-item.path ++ name ∷ []) c.in_ok-clone.ensures.cases)

pub loop-item-preserved : goal.loop-item-preserved
loop-item-preserved c =
    let it = c.args.frames.now in
    let left = drop (c.loop-item.item-index + 1) c.as_slice-item-items.result.now in
    let here : AreAmongIn it c.loop-item.child c.args.place c.loop-item.path (c.item-item.result ∷ left) =
    next_item it c.loop-item.child c.args.place c.loop-item.path c.as_slice-item-items.result.now c.loop-item.item-index c.item-item.result
    c.loop-item-test.true c.item-item.is c.loop-item.invariant.among in
    elim c.match-item.branch [
      | in-Instance+else-place-next w ↦ record {
        among = subst (λ child. AreAmongIn it child c.args.place c.loop-item.path left) (sym w.child-is)
            (after_child it c.loop-item.child c.args.place c.loop-item.path c.item-item.result left here w.next_inner-next.result
            w.next_inner-next.ensures.size w.in-Instance.at w.in-Instance.module w.in-Instance.name w.in-Instance.links w.in-Instance.is
            w.if-place-next.false);
        later =
            (let on = not_back it c.loop-item.child c.args.place c.loop-item.path c.item-item.result left here w.next_inner-next.result
            w.next_inner-next.ensures.size w.in-Instance.at w.in-Instance.module w.in-Instance.name w.in-Instance.links w.in-Instance.is in
            let is = w.child-is in
            let before = c.loop-item.invariant.later in
            omega (arith, on, is, before));
      }
      | in_default w ↦ record {
        among = subst (λ child. AreAmongIn it child c.args.place c.loop-item.path left) (sym w.child-is)
            (after_other it c.loop-item.child c.args.place c.loop-item.path c.item-item.result left here
            (no_child it.design c.item-item.result w.in_default.not-Instance));
        later = (let is = w.child-is in let before = c.loop-item.invariant.later in omega (arith, is, before));
      }
    ]

pub unreachable-requires : goal.unreachable-requires
unreachable-requires c =
    nothing_among c.args.frames.now c.loop-item.child c.args.place c.loop-item.path
    (drop c.loop-item.item-index c.as_slice-item-items.result.now)
    (drop_past c.as_slice-item-items.result.now c.loop-item.item-index c.loop-item-test.false) c.loop-item.invariant.among
