use Rattle.std.proofs.Common.{◌≡◌, refl, true, false, ℕ, ◌*◌}
use Rattle.paper.specs.Limits.{max_events}
use Rattle.flat_chart.specs.Numbers.{flat_of}
use Rattle.book.specs.declared.Trigger.{Trigger}
use Rattle.book.specs.declared.Trigger.TheVariants.{None, Completed, BecomeYes, BecomeNo}
use Rattle.gathering.specs.Noting.{stage_of, taking-past, taking-in}
use Rattle.gathering.proofs.Charts.{rule_taken}
use Rattle.gathering.proofs.take_rule.Goals as goal

-- any other trigger waits for no stage
no_stage : (t : Trigger) → ((s : ℕ) → t ≡ Completed s → ⊥) → max_events ≡ stage_of t
unfolding stage_of
no_stage None h = refl
no_stage (Completed s) h = absurd (h s refl)
no_stage (BecomeYes m) h = refl
no_stage (BecomeNo m) h = refl

its_stage : (t : Trigger) (s : ℕ) → t ≡ Completed s → s ≡ stage_of t
unfolding stage_of
its_stage t s e = rw e refl

pub returns-then-e-n : goal.returns-then-e-n
returns-then-e-n c =
    let n = c.args.n in
    let s = its_stage _ _ c.in-Completed.is in
    let l = c.if-e-n.true in
    rule_taken n c.args.r (flat_of c.args.chart.now) (taking-in n (2 * n) true c.args.r _ _ _ s l c.note_in.ensures) (taking-in n (2 * n) false c.args.r _ _ _ s l c.note_in-then-e-n.ensures)
    (taking-in n (3 * n) false c.args.r _ _ _ s l c.note_in-then-e-n-2.ensures)

pub returns-else-e-n : goal.returns-else-e-n
returns-else-e-n c =
    let n = c.args.n in
    let s = its_stage _ _ c.in-Completed.is in
    let l = c.if-e-n.false in
    rule_taken n c.args.r (flat_of c.args.chart.now) (taking-past n (2 * n) true c.args.r _ _ s l) (taking-past n (2 * n) false c.args.r _ _ s l) (taking-past n (3 * n) false c.args.r _ _ s l)

pub returns-in_default : goal.returns-in_default
returns-in_default c =
    let n = c.args.n in
    let s = no_stage _ c.in_default.not-Completed in
    let l = c.requires in
    rule_taken n c.args.r (flat_of c.args.chart.now) (taking-past n (2 * n) true c.args.r _ _ s l) (taking-past n (2 * n) false c.args.r _ _ s l) (taking-past n (3 * n) false c.args.r _ _ s l)
