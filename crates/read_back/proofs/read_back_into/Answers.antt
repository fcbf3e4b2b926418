-- Each return by its law, and what the calls ask for. Assumes nothing.
use Rattle.std.specs.Prelude.{not}
use Rattle.std.proofs.Common.{◌≡◌, ap, ◌∙◌, refl}
use Rattle.flat_chart.specs.Flat.{FlatChart}
use Rattle.flat_chart.specs.Numbers.{flat_of}
use Rattle.derived_same.specs.Same.{without_roles}
use Rattle.judge.proofs.Returns.{some-code}
use Rattle.read_back.specs.Written.{written_for}
use Rattle.read_back.proofs.Returns.{back-judged, back-uneven, back-roles, back-foreign, back-granted}
use Rattle.read_back.proofs.read_back_into.Goals as goal

pub returns-in-Err : goal.returns-in-Err
returns-in-Err c = back-judged _ _ c.in-Err.ensures.answer (some-code _) _ c.refuse.ensures

pub returns-then-counts : goal.returns-then-counts
returns-then-counts c = back-uneven _ _ c.in-Ok.ensures.answer refl _ c.in-Ok.ensures.passes.counts c.if-counts.true _ refl _ c.refuse-then-counts.ensures

pub written_for-requires : goal.written_for-requires
written_for-requires c = ap (λ (d : FlatChart). d.roles) c.lend.ensures ∙ back-roles c.args.book.now _ c.in-Ok.ensures.answer refl _ c.gather_into.ensures

pub returns-then-not-written_for : goal.returns-then-not-written_for
returns-then-not-written_for c =
    let w = c.written_for.ensures ∙ ap (λ (d : FlatChart). written_for (without_roles d) c.args.book.now) c.lend.ensures in
    back-foreign _ _ c.in-Ok.ensures.answer refl _ c.gather_into.ensures _ w (ap not c.if-not-written_for.true) _ refl _ c.refuse-then-not-written_for.ensures

pub returns : goal.returns
returns c =
    let w = c.written_for.ensures ∙ ap (λ (d : FlatChart). written_for (without_roles d) c.args.book.now) c.lend.ensures in
    rw c.granted-out.ensures (back-granted _ _ c.in-Ok.ensures.answer refl _ c.gather_into.ensures _ w (ap not c.if-not-written_for.false))
