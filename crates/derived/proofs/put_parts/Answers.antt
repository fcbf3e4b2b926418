use Rattle.general.specs.Writing.{runs-start, runs-fits, runs-more, runs_done}
use Rattle.derived.proofs.put_parts.Goals as goal

pub loop-k-init : goal.loop-k-init
loop-k-init g c = λ parts w f. runs-start _ _ _ _

pub put-next-requires : goal.put-next-requires
put-next-requires g c =
    let (parts, r, w, f) = c.requires in
    let h = c.loop-k-test.true in
    r _ _ _ h (runs-fits _ _ _ _ _ _ _ (c.loop-k.invariant parts w f) h f)

pub loop-k-preserved : goal.loop-k-preserved
loop-k-preserved g c = λ parts w f.
    let h = c.loop-k-test.true in
    let i = c.loop-k.invariant parts w f in
    runs-more _ _ _ _ _ _ _ i _ _ h (w _ _ _ _ _ h (runs-fits _ _ _ _ _ _ _ i h f) c.put-next.ensures)

pub returns : goal.returns
returns g c = λ parts w f. runs_done _ _ _ _ _ _ _ (c.loop-k.invariant parts w f) c.loop-k-test.false
