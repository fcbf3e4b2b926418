-- `condition_lines::condition_lines` meets its contract: each turn writes the line of one condition.
use Rattle.writing.specs.Writers.{lines_start, lines-done}
use Rattle.condition_lines.specs.Writers.{condition-fits, condition-more}
use Rattle.condition_lines.proofs.condition_lines.Goals as goal

pub loop-c-init : goal.loop-c-init
loop-c-init c = lines_start _ _ _ _

pub condition_line-next-requires : goal.condition_line-next-requires
condition_line-next-requires c =
    condition-fits _ _ _ c.requires.0 _ c.loop-c-test.true _ c.words_from-words.ensures _ c.condition-text.ensures _ _ _ _ c.loop-c.invariant c.requires.1

pub loop-c-preserved : goal.loop-c-preserved
loop-c-preserved c =
    condition-more _ _ _ c.requires.0 _ c.loop-c-test.true _ c.words_from-words.ensures _ c.condition-text.ensures _ _ _ _ c.loop-c.invariant _ _ c.condition_line-next.ensures

pub returns : goal.returns
returns c = search lines-done
