-- `flat_chart::permits` meets its contract. Assumes nothing.
use Rattle.flat_chart.specs.Roles.{permits}
use borrow.Author.Rules.{rules}
use Rattle.flat_chart.proofs.permits.Statement.{statement}
use Rattle.flat_chart.proofs.permits.Tie as tie

pub permits_spec : {M : Type 1} → statement M
permits_spec =
    tie.close
    (tie.spec
    (λ c κs. search rules)
    (λ c. unfold permits in rw c.member.ensures))
