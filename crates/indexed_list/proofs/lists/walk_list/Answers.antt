-- `indexed_list::lists::walk_list`: an entry that is refused, one that is granted, and the end of the list.
use Rattle.std.proofs.Common.{refl, ap, arith}
use Rattle.book.specs.declared.Counts.{Counts}
use Rattle.judge.proofs.Returns.{some-code}
use Rattle.indexed_list.proofs.Listed.{gone-first, gone-all, gone-stops, gone-fits, gone-on, stages-few, turn-asks}
use Rattle.indexed_list.proofs.lists.walk_list.Goals as goal

pub loop-j-init : goal.loop-j-init
loop-j-init c = gone-first _ _ _

pub judge_open-requires : goal.judge_open-requires
judge_open-requires c = stages-few _ _ c.requires.0

pub returns-in-Err : goal.returns-in-Err
returns-in-Err c =
    gone-stops _ _ _ _ _ _ c.loop-j.invariant c.loop-j-test.true _ refl _ (c.in-Err.ensures _ (ap (λ (h : Counts). h.stages) c.requires.0.counts)) _ _
    (some-code c.in-Err.refusal) (rw c.from.ensures at c.refused.ensures) refl

pub go_through_index-next-requires : goal.go_through_index-next-requires
go_through_index-next-requires c = turn-asks _ _ _ _ c.requires _ _ c.in-Ok.ensures

pub overflow_add-evaluated : goal.overflow_add-evaluated
overflow_add-evaluated c =
    let p = c.requires in
    let a = c.in-Ok.ensures _ (ap (λ (h : Counts). h.stages) p.0.counts) in
    omega (arith, gone-fits _ _ _ _ _ _ c.loop-j.invariant c.loop-j-test.true _ refl _ a refl p.0.formed p.1 _ c.go_through_index-next.ensures.1 p.3)

pub loop-j-preserved : goal.loop-j-preserved
loop-j-preserved c =
    let p = c.requires in
    let a = c.in-Ok.ensures _ (ap (λ (h : Counts). h.stages) p.0.counts) in
    gone-on _ _ _ _ _ _ c.loop-j.invariant c.loop-j-test.true _ refl _ a refl p.0.formed p.1 _ c.go_through_index-next.ensures.1 _ c.go_through_index-next.ensures.0

pub returns : goal.returns
returns c = gone-all _ _ _ _ _ _ c.loop-j.invariant _ _ _ c.loop-j-test.false c.granted.ensures refl refl
