-- `writing::number` meets its contract: the last digit goes behind those of a tenth.
use Rattle.std.proofs.Common.{arith}
use Rattle.writing.specs.Writers.{digit-fits, digits-fit, last_fits, digit-wrote, last-wrote}
use Rattle.writing.proofs.+number.Goals as goal

pub byte-requires : goal.byte-requires
byte-requires t c = search digit-fits

pub number-next-requires : goal.number-next-requires
number-next-requires t c = (omega arith, search digits-fit)

pub byte-requires-else-n-lt10 : goal.byte-requires-else-n-lt10
byte-requires-else-n-lt10 t c = search last_fits

pub returns-then-n-lt10 : goal.returns-then-n-lt10
returns-then-n-lt10 t c = search digit-wrote

pub returns-else-n-lt10 : goal.returns-else-n-lt10
returns-else-n-lt10 t c = search last-wrote
