use Rattle.graph.specs.Steps.{among_end}
use Rattle.graph.proofs.Marking.open_among.Goals as goal

pub returns : goal.returns
returns c = search among_end
