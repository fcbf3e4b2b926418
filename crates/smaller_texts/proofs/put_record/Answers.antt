use Rattle.smaller_texts.proofs.Texts.{record-none, record-ran, record-short}
use Rattle.smaller_texts.proofs.put_record.Goals as goal

pub returns-then-count-eq0 : goal.returns-then-count-eq0
returns-then-count-eq0 c = search record-none

pub returns-then-next-room : goal.returns-then-next-room
returns-then-next-room c = search record-ran

pub returns-else-next-room : goal.returns-else-next-room
returns-else-next-room c = search record-short
