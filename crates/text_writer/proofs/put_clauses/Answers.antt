use Rattle.wide.specs.Number.{words}
use Rattle.derived.specs.WritingLoops.{upto-start, upto-fits, upto-more, upto_done}
use Rattle.derived.specs.RuleBytes.{word-clauses-fit, word-clauses, clauses-fit, clauses-wrote}
use Rattle.std.proofs.Common.{rules, arith}
use Rattle.text_writer.proofs.put_clauses.Goals as goal

pub loop-i-init : goal.loop-i-init
loop-i-init c = search upto-start

pub put_word-next-requires : goal.put_word-next-requires
put_word-next-requires c =
    let p = c.requires in (
      omega arith,
      omega arith,
      word-clauses-fit _ _ _ _ _ c.word.ensures _ _
          (upto-fits _ _ _ _ _ _ _ _ c.loop-i.invariant c.loop-i-test.true (clauses-fit _ _ _ _ p.0 (search (words, rules)) p.2 _ _ p.3)),
    )

pub loop-i-preserved : goal.loop-i-preserved
loop-i-preserved c = upto-more _ _ _ _ _ _ _ _ c.loop-i.invariant _ _ c.loop-i-test.true (word-clauses _ _ _ _ _ c.word.ensures _ _ c.put_word-next.ensures)

pub returns : goal.returns
returns c = clauses-wrote _ _ _ _ c.requires.0 (search (words, rules)) c.requires.2 _ _ (upto_done _ _ _ _ _ _ _ _ c.loop-i.invariant c.loop-i-test.false)
