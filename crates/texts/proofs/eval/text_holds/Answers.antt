-- `texts::eval::text_holds` meets its contract: what a turn makes of the number goes by the arm that it took.
use Rattle.std.proofs.Common.{◌≡◌, ◌∙◌, arith}
use Rattle.book.specs.Text.{snap_of}
use Rattle.texts.proofs.Stacks.{push_bits, no-operator, not-of, starts, legal-of, goes_on, ends}
use Rattle.texts.proofs.eval.text_holds.Goals as goal
use Rattle.texts.proofs.eval.text_holds.Goals.{in-65533, in-65534, in-0-to-1023, in_default}

pub loop-i-init : goal.loop-i-init
loop-i-init c = starts _ _ _ _ c.requires.1

pub loop-i-preserved : goal.loop-i-preserved
unfolding push_bits
loop-i-preserved c =
    let l = legal-of _ _ _ _ _ _ c.loop-i.invariant c.loop-i-test.true _ c.u16_at-w.ensures in
    let turn : c.match-w.values ≡ push_bits (snap_of c.args.marks.now c.u16_at-w.result) c.u16_at-w.result c.loop-i.values =
    elim c.match-w.branch [
      | in-65533 w ↦ w.values-is ∙ rw w.in-65533.is
      | in-65534 w ↦ w.values-is ∙ rw w.in-65534.is
      | in-0-to-1023 w ↦ w.values-is ∙ (let m = no-operator c.u16_at-w.result (omega arith) in simp (m.0, m.1, m.2))
      | in_default w ↦ w.values-is ∙ rw (not-of l (omega arith) (λ e. omega arith) (λ e. omega arith))
    ] in
    goes_on _ _ _ _ _ _ c.loop-i.invariant c.loop-i-test.true _ c.u16_at-w.ensures c.match-w.values turn

pub returns : goal.returns
returns c = ends _ _ _ _ _ _ c.loop-i.invariant c.loop-i-test.false
