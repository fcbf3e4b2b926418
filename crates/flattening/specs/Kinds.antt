-- The kind that the code's enum names. Assumes nothing.
use Rattle.flat_chart.specs.Chart.{Kind, condition, response, milestone, include, exclude}
use Rattle.flattening.specs.declared.kind.Kind as code-kind
use Rattle.flattening.specs.declared.kind.Kind.TheVariants.{Condition, Response, Milestone, Include, Exclude}

abbrev pub kind_of_code : code-kind.Kind → Kind
kind_of_code Condition = condition
kind_of_code Response = response
kind_of_code Milestone = milestone
kind_of_code Include = include
kind_of_code Exclude = exclude
