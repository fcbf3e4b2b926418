use Rattle.std.proofs.Common.{refl, ap, arith}
use Rattle.flat_chart.specs.Numbers.{flat_of}
use Rattle.gathering.specs.Noting.{stages-few, texts-none, text-there, texts-more, texts-all}
use Rattle.gathering.proofs.Charts.{texts_told, by_text}
use Rattle.gathering.proofs.gather_texts.Goals as goal

pub loop-e-init : goal.loop-e-init
loop-e-init c = record { read = texts-none c.requires.2 c.requires.3; rest = refl }

pub loop-e-preserved : goal.loop-e-preserved
loop-e-preserved c =
    let n = c.named_by-named.ensures in
    record {
      read = texts-more c.requires.0 c.loop-e.invariant.read c.loop-e-test.true n.conditions_value n.milestones_value c.set_row.ensures c.set_row-in-loop-e.ensures;
      rest = by_text (flat_of c.args.chart.now) (flat_of c.loop-e.chart) c.loop-e.invariant.rest;
    }

pub returns : goal.returns
returns c =
    let t = texts-all c.requires.0 c.loop-e.invariant.read c.loop-e-test.false in
    texts_told (flat_of c.args.chart.now) (flat_of c.loop-e.chart) c.loop-e.invariant.rest t.0 t.1
