use Rattle.std.proofs.Common.{ap, refl}
use Rattle.flat_chart.specs.Flat.{FlatChart}
use Rattle.flat_chart.specs.Numbers.{flat_of}
use Rattle.gathering.specs.Noting.{taken_none, rules-more, rules-all}
use Rattle.gathering.proofs.Charts.{by_rule, rules_told}
use Rattle.gathering.proofs.gather_rules.Goals as goal

pub loop-k-init : goal.loop-k-init
loop-k-init c = record { taken = taken_none c.requires.1 c.requires.2 c.requires.3; rest = refl }

pub loop-k-preserved : goal.loop-k-preserved
loop-k-preserved c =
    let e = c.take_rule.ensures in
    record {
      taken = rules-more c.requires.0 c.loop-k.invariant.taken c.loop-k-test.true c.rule.ensures (ap (λ (x : FlatChart). x.includes) e) (ap (λ (x : FlatChart). x.excludes) e)
          (ap (λ (x : FlatChart). x.responses) e);
      rest = by_rule c.args.book.counts.stages c.rule.result (flat_of c.args.chart.now) (flat_of c.loop-k.chart) _ c.loop-k.invariant.rest e;
    }

pub returns : goal.returns
returns c =
    let t = rules-all c.requires.0 c.loop-k.invariant.taken c.loop-k-test.false in
    rules_told (flat_of c.args.chart.now) (flat_of c.loop-k.chart) c.loop-k.invariant.rest t.0 t.1.0 t.1.1
