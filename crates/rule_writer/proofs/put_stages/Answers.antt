use Rattle.general.specs.Lists.{packed}
use Rattle.book.specs.ImageOf.{rule_bytes}
use Rattle.derived.specs.Derived.{stage_rules}
use Rattle.derived.specs.Putting.{by_parts, as_one}
use Rattle.derived.specs.RuleBytes.{stage-fits}
use Rattle.std.proofs.Common.{ℕ, List, rules, arith, of_calls}
use Rattle.rule_writer.proofs.put_stages.Goals as goal

abbrev parts : ℕ → List ℕ
parts e = packed rule_bytes (stage_rules e)

pub put_parts-requires : goal.put_parts-requires
put_parts-requires c = (
  parts,
  λ s i k h f κs p q g v r w m l. (let j = c.requires.0 in omega arith, stage-fits _ _ _ f),
  λ s t i k r h f e. search (rules, of_calls),
  by_parts _ _ _ _ _ c.requires.1,
)

pub returns : goal.returns
returns c = as_one _ _ _ _ _ _ _ (c.put_parts.ensures parts (λ s t i k r h f e. search (rules, of_calls)) (by_parts _ _ _ _ _ c.requires.1))
