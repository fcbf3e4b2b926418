-- `indexed::judging::judge_open`: a law for each return.
use Rattle.indexed.proofs.Returns.{open-nowhere, open-closed, open-granted}
use Rattle.indexed.proofs.judging.judge_open.Goals as goal

pub returns-then-stages-stage : goal.returns-then-stages-stage
returns-then-stages-stage c s e = open-nowhere s _ _ _ e c.if-stages-stage.true

pub returns-then-not-marks-stage : goal.returns-then-not-marks-stage
returns-then-not-marks-stage c s e = open-closed s _ _ _ e c.if-stages-stage.false c.if-not-marks-stage.true

pub returns : goal.returns
returns c s e = open-granted s _ _ _ e c.if-stages-stage.false c.if-not-marks-stage.false
