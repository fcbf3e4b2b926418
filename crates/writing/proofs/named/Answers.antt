-- `writing::named` meets its contract: the number goes behind the word.
use Rattle.general.specs.Writing.{then}
use Rattle.writing.specs.Writers.{fits₁, last₂}
use Rattle.writing.proofs.named.Goals as goal

pub text-next-requires : goal.text-next-requires
text-next-requires c = search fits₁

pub number-requires : goal.number-requires
number-requires c = search last₂

pub returns : goal.returns
returns c = search then
