use Rattle.smaller_rules.proofs.Running.{free-ran, free-short}
use Rattle.smaller_rules.proofs.put_free.Goals as goal

pub returns-then-next-room : goal.returns-then-next-room
returns-then-next-room c = search free-ran

pub returns-else-next-room : goal.returns-else-next-room
returns-else-next-room c = search free-short
