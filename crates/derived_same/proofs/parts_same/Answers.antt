use Rattle.general.specs.Comparing.{stand-start, stand-done}
use Rattle.derived_same.proofs.Comparing.{part-room, part-not, part-more}
use Rattle.std.proofs.Common.{◌≤◌, length, arith}
use Rattle.derived_same.proofs.parts_same.Goals as goal

pub loop-k-init : goal.loop-k-init
loop-k-init g c = λ parts w s. stand-start _ _ _ _

pub put-count-requires : goal.put-count-requires
put-count-requires g c = let (parts, r, w, s, f) = c.requires in r _ _ _ c.loop-k-test.true (let l = s c.loop-k.k c.loop-k-test.true in omega arith)

pub part_stands-requires : goal.part_stands-requires
part_stands-requires g c =
    let (parts, r, w, s, f) = c.requires in
    let h = c.loop-k-test.true in
    let l : length (parts c.loop-k.k) ≤ length c.loop-k.part = let m = s c.loop-k.k h in omega arith in
    part-room _ _ _ _ _ _ (c.loop-k.invariant parts w s) h l (w _ _ _ _ _ h (omega arith) c.put-count.ensures) f

pub returns-then-not-part_stands : goal.returns-then-not-part_stands
returns-then-not-part_stands g c = λ parts w s.
    let h = c.loop-k-test.true in
    let l : length (parts c.loop-k.k) ≤ length c.loop-k.part = let m = s c.loop-k.k h in omega arith in
    part-not _ _ _ _ _ _ (c.loop-k.invariant parts w s) h l (w _ _ _ _ _ h (omega arith) c.put-count.ensures) c.part_stands.ensures c.if-not-part_stands.true

pub overflow_add-next : goal.overflow_add-next
overflow_add-next g c =
    let (parts, r, w, s, f) = c.requires in
    let h = c.loop-k-test.true in
    let l : length (parts c.loop-k.k) ≤ length c.loop-k.part = let m = s c.loop-k.k h in omega arith in
    omega (arith, part-room _ _ _ _ _ _ (c.loop-k.invariant parts w s) h l (w _ _ _ _ _ h (omega arith) c.put-count.ensures) f)

pub loop-k-preserved : goal.loop-k-preserved
loop-k-preserved g c = λ parts w s.
    let h = c.loop-k-test.true in
    let l : length (parts c.loop-k.k) ≤ length c.loop-k.part = let m = s c.loop-k.k h in omega arith in
    part-more _ _ _ _ _ _ (c.loop-k.invariant parts w s) h l (w _ _ _ _ _ h (omega arith) c.put-count.ensures) c.part_stands.ensures c.if-not-part_stands.false

pub returns : goal.returns
returns g c = λ parts w s. stand-done _ _ _ _ _ _ (c.loop-k.invariant parts w s) c.loop-k-test.false
