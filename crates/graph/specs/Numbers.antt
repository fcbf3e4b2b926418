-- What the code's markings, open tests and steps are, each set as one number. Assumes nothing.
use Rattle.wide.specs.Number.{number}
use Rattle.graph.specs.Flat.{Marking, Blocking, OpenTest, Step}
use Rattle.graph.specs.declared.Marking as code-marking
use Rattle.graph.specs.declared.steps.Blocking as code-blocking
use Rattle.graph.specs.declared.steps.OpenTest as code-test
use Rattle.graph.specs.declared.steps.Step as code_step

abbrev pub marks_of : code-marking.Marking → Marking
marks_of m = record { executed = number m.executed; pending = number m.pending; included = number m.included }

abbrev pub blocking_numbers : code-blocking.Blocking → Blocking
blocking_numbers b = record { conditions = number b.conditions; milestones = number b.milestones }

abbrev pub test_of : code-test.OpenTest → OpenTest
test_of t = record { answer = t.answer; conditions = number t.conditions; milestones = number t.milestones }

abbrev pub step_of : code_step.Step → Step
step_of s = record { answer = s.answer; marking = marks_of s.marking; conditions = number s.conditions; milestones = number s.milestones }
