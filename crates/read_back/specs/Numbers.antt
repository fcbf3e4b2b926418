-- What the code's charts read back are, each set as one number. Assumes nothing.
use Rattle.flat_chart.specs.Numbers.{flat_of}
use Rattle.read_back.specs.Flat.{ReadBack}
use Rattle.read_back.specs.declared.ReadBack as code-back

abbrev pub back_of : code-back.ReadBack → ReadBack
back_of r = record { answer = r.answer; chart = flat_of r.chart }
