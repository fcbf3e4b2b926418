-- `indexed::running::go_through_index`: what the index says of the stage, one more turn, and the last.
use Rattle.std.proofs.Common.{◌≤◌, length, arith}
use Rattle.book.specs.Image.{book_of}
use Rattle.index.specs.Index.{order_of}
use Rattle.runner.proofs.Turns.{going-last, going-on}
use Rattle.indexed.proofs.Turns.{entry_first, entry-second, many_is, rule-inside-index, entry}
use Rattle.indexed.proofs.running.go_through_index.Goals as goal

pub u32_at-at-requires : goal.u32_at-at-requires
u32_at-at-requires c = let p = c.requires in entry_first _ _ _ _ p.0 p.1 p.2 p.3

pub u32_at-many-requires : goal.u32_at-many-requires
u32_at-many-requires c = let p = c.requires in entry-second _ _ _ _ p.0 p.1 p.2 p.3

pub entry_at-r-requires : goal.entry_at-r-requires
entry_at-r-requires c =
    let p = c.requires in rule-inside-index _ _ _ _ p.0 p.1 p.2 p.3 _ _ c.u32_at-at.ensures c.u32_at-many.ensures _ c.loop-j-test.true

pub turn-requires : goal.turn-requires
turn-requires c =
    let p = c.requires in
    (p.0, (entry _ _ _ _ p.0 p.1 p.2 p.3 _ _ c.u32_at-at.ensures c.u32_at-many.ensures _ c.loop-j-test.true _ c.entry_at-r.ensures).below)

pub loop-j-preserved : goal.loop-j-preserved
loop-j-preserved c =
    let p = c.requires in
    let t = entry _ _ _ _ p.0 p.1 p.2 p.3 _ _ c.u32_at-at.ensures c.u32_at-many.ensures _ c.loop-j-test.true _ c.entry_at-r.ensures in
    let e = t.all in
    record {
      counted = let i = c.loop-j.invariant.counted in omega arith;
      gone = going-on _ _ _ _ _ _ _ c.loop-j.invariant.gone _ (omega (arith, c.loop-j-test.true)) (rw t.is at c.turn.ensures);
    }

pub returns : goal.returns
returns c =
    let p = c.requires in
    let m = many_is _ _ _ _ p.0 p.1 p.2 p.3 _ _ c.u32_at-at.ensures c.u32_at-many.ensures in
    let l : length (order_of (book_of c.args.book.now) c.args.stage) ≤ c.loop-j.j = omega (arith, m, c.loop-j-test.false) in
    (going-last _ _ _ _ _ _ _ c.loop-j.invariant.gone l, omega (arith, m, c.loop-j.invariant.counted, c.loop-j.auto.j-end, c.loop-j-test.false))
