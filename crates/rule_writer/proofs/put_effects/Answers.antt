use Rattle.wide.specs.Number.{words}
use Rattle.derived.specs.WritingLoops.{upto-start, upto-fits, upto-more, upto_done}
use Rattle.derived.specs.RuleBytes.{word-effects-fit, word-effects, effects-fit, effects-wrote}
use Rattle.std.proofs.Common.{rules, arith}
use Rattle.rule_writer.proofs.put_effects.Goals as goal

pub loop-i-init : goal.loop-i-init
loop-i-init c = search upto-start

pub put_word-next-requires : goal.put_word-next-requires
put_word-next-requires c =
    let p = c.requires in (
      omega arith,
      omega arith,
      word-effects-fit _ _ _ _ _ _ _ c.word.ensures c.word-in-loop-i.ensures _ _
          (upto-fits _ _ _ _ _ _ _ _ c.loop-i.invariant c.loop-i-test.true (effects-fit _ _ _ _ _ p.0 (search (words, rules)) (search (words, rules)) p.3 _ _ p.4)),
    )

pub loop-i-preserved : goal.loop-i-preserved
loop-i-preserved c =
    upto-more _ _ _ _ _ _ _ _ c.loop-i.invariant _ _ c.loop-i-test.true
    (word-effects _ _ _ _ _ _ _ c.word.ensures c.word-in-loop-i.ensures _ _ c.put_word-next.ensures)

pub returns : goal.returns
returns c =
    effects-wrote _ _ _ _ _ c.requires.0 (search (words, rules)) (search (words, rules)) c.requires.3 _ _
    (upto_done _ _ _ _ _ _ _ _ c.loop-i.invariant c.loop-i-test.false)
