use Rattle.std.proofs.Common.{rules, of_calls}
use Rattle.flat_chart.specs.Numbers.{lent_of}
use Rattle.derived.specs.Parts.{completion-kept, completion_of}
use Rattle.derived.specs.Putting.{by_parts, as_one}
use Rattle.rule_writer.proofs.put_completions.Goals as goal

pub put_parts-requires : goal.put_parts-requires
put_parts-requires c = (
  completion_of (lent_of c.args.chart),
  λ s i k h f κs p q g v r w m l z. (c.requires.0, completion-kept (lent_of c.args.chart) _ h c.requires.1, h, f),
  λ s t i k r h f e. search (rules, of_calls),
  by_parts _ _ _ _ _ c.requires.2,
)

pub returns : goal.returns
returns c = as_one _ _ _ _ _ _ _ (c.put_parts.ensures (completion_of (lent_of c.args.chart)) (λ s t i k r h f e. search (rules, of_calls)) (by_parts _ _ _ _ _ c.requires.2))
