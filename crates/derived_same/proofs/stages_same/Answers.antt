use Rattle.general.specs.Lists.{packed}
use Rattle.book.specs.ImageOf.{rule_bytes}
use Rattle.derived.specs.Derived.{stage_rules}
use Rattle.derived.specs.Putting.{flat-packed, by_parts}
use Rattle.derived.specs.RuleBytes.{stage-fits}
use Rattle.derived_same.proofs.Comparing.{stage-short}
use Rattle.std.proofs.Common.{ℕ, List, rules, arith, of_calls}
use Rattle.derived_same.proofs.stages_same.Goals as goal

abbrev parts : ℕ → List ℕ
parts e = packed rule_bytes (stage_rules e)

pub parts_same-requires : goal.parts_same-requires
parts_same-requires c = (
  parts,
  λ s i k h f κs p q g v r w m l. (let j = c.requires.0 in omega arith, stage-fits _ _ _ f),
  λ s t i k r h f e. search (rules, of_calls),
  λ k h. rw c.requires.1 (stage-short k),
  by_parts _ _ _ _ _ c.requires.2,
)

pub returns : goal.returns
returns c = rw flat-packed (c.parts_same.ensures parts (λ s t i k r h f e. search (rules, of_calls)) (λ k h. rw c.requires.1 (stage-short k)))
