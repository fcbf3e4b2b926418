-- Whether bytes are what the deriver writes for a fit chart, and what a refused reading back gives. Assumes nothing.
use Rattle.std.specs.Prelude.{Bool, ◌&&◌, List, ℕ}
use Rattle.paper.specs.declared.Answer.{Answer}
use Rattle.general.specs.Comparing.{same_bytes}
use Rattle.flat_chart.specs.Chart.{empty_chart}
use Rattle.flat_chart.specs.Tests.{fit_chart}
use Rattle.flat_chart.specs.Flat.{FlatChart}
use Rattle.deriver.specs.Deriving.{derived_image}
use Rattle.read_back.specs.Flat.{ReadBack}

unfoldable pub written_for : FlatChart → List ℕ → Bool
written_for c s = fit_chart c && same_bytes s (derived_image c)

abbrev pub refused_back : Answer → ReadBack
refused_back a = record { answer = a; chart = empty_chart }
