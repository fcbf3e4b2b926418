-- What is lent of the longest image has the length that the call takes. Assumes nothing.
use Rattle.std.proofs.Common.{rules}
use Rattle.std.proofs.lemmas.List.{length-take-le}
use mathlib.Core.Path.{sym}
use Rattle.settled.proofs.charts.sizes.Goals as goal

pub slice_bounds-case-end-2 : goal.slice_bounds-case-end-2
slice_bounds-case-end-2 g c = sym (length-take-le 1032 c.plain-most.result (search rules))
