-- The tables of an empty chart are lent as tables of empty sets, and it names no role. Assumes nothing.
use Rattle.std.proofs.Common.{◌≡◌, replicate, ap, ◌∙◌}
use Rattle.paper.specs.Limits.{max_events}
use Rattle.flat_chart.specs.Flat.{FlatChart}
use Rattle.flat_chart.specs.Chart.{empty_chart}
use Rattle.gathering.specs.Noting.{gathered-whole}
use Rattle.gathering.proofs.gather_into.Goals as goal

pub gather_rules-requires : goal.gather_rules-requires
unfolding empty_chart
gather_rules-requires c =
    let e = c.requires.2 in (
      c.requires.0,
      ap (λ (x : FlatChart). x.includes) e,
      ap (λ (x : FlatChart). x.excludes) e,
      ap (λ (x : FlatChart). x.responses) e,
    )

pub gather_texts-requires : goal.gather_texts-requires
unfolding empty_chart
gather_texts-requires c =
    let e = c.requires.2 in
    let r = c.gather_rules.ensures in (
      c.requires.0,
      c.requires.1,
      ap (λ (x : FlatChart). x.conditions) r ∙ ap (λ (x : FlatChart). x.conditions) e,
      ap (λ (x : FlatChart). x.milestones) r ∙ ap (λ (x : FlatChart). x.milestones) e,
    )

pub returns : goal.returns
unfolding empty_chart
returns c =
    let r = c.gather_rules.ensures in
    let t = c.gather_texts.ensures in
    let roles : c.gather_texts.new.chart.roles ≡ replicate max_events 0 =
    ap (λ (x : FlatChart). x.roles) t ∙ ap (λ (x : FlatChart). x.roles) r ∙ ap (λ (x : FlatChart). x.roles) c.requires.2 in
    rw roles (gathered-whole c.requires.0 (ap (λ (x : FlatChart). x.conditions) t) (ap (λ (x : FlatChart). x.responses) t ∙ ap (λ (x : FlatChart). x.responses) r)
    (ap (λ (x : FlatChart). x.milestones) t) (ap (λ (x : FlatChart). x.includes) t ∙ ap (λ (x : FlatChart). x.includes) r)
    (ap (λ (x : FlatChart). x.excludes) t ∙ ap (λ (x : FlatChart). x.excludes) r))
