-- `flat_chart::FlatChart::empty` meets its contract. Assumes nothing.
use Rattle.flat_chart.specs.Chart.{empty_chart}
use Rattle.wide.specs.Number.{rows_none}
use Rattle.flat_chart.proofs.FlatChart.empty.Statement.{statement}
use Rattle.flat_chart.proofs.FlatChart.empty.Tie as tie

pub empty_spec : {M : Type 1} → statement M
empty_spec = tie.close (tie.spec (λ c. unfold empty_chart in rw rows_none))
