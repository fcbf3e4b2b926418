-- What the code's readings are, each set as one number. Assumes nothing.
use Rattle.flat_chart.specs.Numbers.{flat_of}
use Rattle.graph.specs.Numbers.{marks_of}
use Rattle.chart.specs.Flat.{Reading}
use Rattle.chart.specs.declared.Reading as code-reading

abbrev pub reading_of : code-reading.Reading → Reading
reading_of r = record { answer = r.answer; chart = flat_of r.chart; marking = marks_of r.marking }
