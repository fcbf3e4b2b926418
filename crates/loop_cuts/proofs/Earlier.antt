-- Laws of earlier proofs, which stood in specs/: nothing cites them now, and they stand. Assumes nothing.
use Rattle.std.specs.Prelude.{ℕ, ◌+◌, ◌≤◌, ◌<◌, List, length, Bool}
use Rattle.std.proofs.Common.{arith, ◌∙◌, ne_eqb}
use Rattle.paper.specs.Limits.{node_size}
use Rattle.records.specs.Image.{node_at, Whole}
use Rattle.nesting.specs.Nesting.{OnLoop}
use Rattle.mending.specs.Cutting.{start-in}
use Rattle.loop_cuts.specs.Walking.{stamp_of, Climbed, LowestCut, Noted}

-- a node on a loop has a record
pub loop-room : {image : List ℕ} {n k c : ℕ} → Whole image n k → OnLoop image c → node_at c + node_size ≤ length image
loop-room {image} w l = let h = start-in image l in let e = w.nodes in let t = w.whole in omega arith

-- what round needs
pub met-on : {image before stamps : List ℕ} {n a r : ℕ} → Climbed image n a before stamps r → r < n → OnLoop image r
met-on c h = (c.met h).0

pub noted-end : {image : List ℕ} {n a : ℕ} {cut : List Bool} {stamps : List ℕ} → Noted image n a cut stamps → n ≤ a → LowestCut image n cut
noted-end {image} {n} {a} {cut} {stamps} m h =
    let f = m.few in
    record { size = m.size; each = λ x i. m.each x i ∙ rw (ne_eqb (stamp_of stamps x) 0 (m.stamped.done x (omega arith))) }
