-- `clash_search::clash` meets its contract: rules that do not undo each other do not clash, others do where they are not apart.
use Rattle.clashes.proofs.Groups.{clash-unopposed, clash-opposed}
use Rattle.senses.proofs.Bytes.{trigger-known}
use Rattle.clash_search.proofs.clash.Goals as goal

pub returns-then-side-undone : goal.returns-then-side-undone
returns-then-side-undone c = search (clash-unopposed, trigger-known)

pub returns : goal.returns
returns c = search (clash-opposed, trigger-known)
