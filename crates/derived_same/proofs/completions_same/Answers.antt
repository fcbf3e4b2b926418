use Rattle.flat_chart.specs.Numbers.{lent_of}
use Rattle.derived.specs.Parts.{completion-kept, completion_of}
use Rattle.derived.specs.Putting.{flat-packed, by_parts}
use Rattle.derived_same.proofs.Comparing.{completion-short}
use Rattle.std.proofs.Common.{rules, of_calls}
use Rattle.derived_same.proofs.completions_same.Goals as goal

pub parts_same-requires : goal.parts_same-requires
parts_same-requires c =
    let p = c.requires in (
      completion_of (lent_of c.args.chart),
      λ s i k h f κs p q g v r w m l z. (c.requires.0, completion-kept (lent_of c.args.chart) _ h c.requires.1, h, f),
      λ s t i k r h f e. search (rules, of_calls),
      λ k h. rw p.2 (completion-short _ p.0 k h _ _ _ p.1),
      by_parts _ _ _ _ _ p.3,
    )

pub returns : goal.returns
returns c =
    let p = c.requires in
    rw flat-packed (
    c.parts_same.ensures (completion_of (lent_of c.args.chart)) (λ s t i k r h f e. search (rules, of_calls)) (λ k h. rw p.2 (completion-short _ p.0 k h _ _ _ p.1)))
