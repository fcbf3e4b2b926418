use Rattle.chart.proofs.Returns.{read_header, read_nodes, judged-thrown}
use Rattle.chart.proofs.judge.Goals as goal

pub returns-in_err-image : goal.returns-in_err-image
returns-in_err-image c = judged-thrown _ _ _ c.from_residual.ensures.1 (read_header _ c.in_err-image.ensures)

pub returns-in_err-judge_nodes : goal.returns-in_err-judge_nodes
returns-in_err-judge_nodes c =
    let h = c.in_ok-image.ensures in
    judged-thrown _ _ _ c.from_residual-in_err-judge_nodes.ensures.1 (read_nodes _ h.1 (rw h.0 at c.in_err-judge_nodes.ensures))

pub returns : goal.returns
returns c = let h = c.in_ok-image.ensures in (h.0, read_nodes _ h.1 (rw h.0 at c.in_ok-judge_nodes.ensures))
