use Rattle.std.proofs.Common.{arith}
use Rattle.mend_writer.specs.Groups.{left-none, left-on, left-off, left_end}
use Rattle.mend_writer.proofs.groups_left.Goals.{then-p-image+then-not-cut-a, else-p-image, else-p-image-via-then-p-image+else-not-cut-a, else-p-image-via-else-p-image}
use Rattle.mend_writer.proofs.groups_left.Goals as goal

pub loop-a-init : goal.loop-a-init
loop-a-init c = left-none _ _ _ c.args.image.whole

pub loop-a-preserved : goal.loop-a-preserved
loop-a-preserved c =
    let w = c.args.image.whole in
    let m = c.loop-a.invariant in
    let h = c.loop-a-test.true in
    let q = c.parent_of-p.ensures in
    elim c.if-p-image.branch [
      | then-p-image+then-not-cut-a b ↦ left-on w c.requires m h q b.if-p-image.true b.if-not-cut-a.true b.groups-is
      | else-p-image b ↦ left-off w c.requires m h q (elim b.else-p-image.branch [
        | else-p-image-via-then-p-image+else-not-cut-a d ↦ λ l. d.if-not-cut-a.false
        | else-p-image-via-else-p-image d ↦ λ l. absurd (omega arith)
      ]) b.groups-is
    ]

pub returns : goal.returns
returns c = left_end c.args.image.whole (omega arith) c.loop-a-test.false c.loop-a.invariant
