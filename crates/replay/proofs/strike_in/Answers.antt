use Rattle.replay.proofs.Calls.{strike_stopped}
use Rattle.replay.proofs.strike_in.Goals as goal

pub returns-then-stop-ne0 : goal.returns-then-stop-ne0
returns-then-stop-ne0 c = search strike_stopped
