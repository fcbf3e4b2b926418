use Rattle.std.proofs.Common.{arith}
use Rattle.smaller_rules.proofs.Running.{sets-made, changed-within, answers-within, done-within, completion-under-1, completion-under-2, completion-under-3, completion-under-4, completion-ran}
use Rattle.smaller_rules.proofs.put_completion.Goals as goal

pub put_effects-a-requires : goal.put_effects-a-requires
put_effects-a-requires c =
    let s = sets-made c.one-own.ensures c.join.ensures c.meet-changed.ensures c.less.ensures c.meet-answers.ensures c.meet-done.ensures c.empty-none.ensures in
    (c.requires.0, c.requires.1, omega arith, changed-within _ s c.requires.2, completion-under-1 _ _ s c.args.room.now _ c.requires.4)

pub put_effects-b-requires : goal.put_effects-b-requires
put_effects-b-requires c =
    let s = sets-made c.one-own.ensures c.join.ensures c.meet-changed.ensures c.less.ensures c.meet-answers.ensures c.meet-done.ensures c.empty-none.ensures in
    (c.requires.0, c.requires.1, omega arith, c.requires.3, completion-under-2 _ _ s _ _ c.requires.4 c.put_effects-a.ensures)

pub put_effects-c-requires : goal.put_effects-c-requires
put_effects-c-requires c =
    let s = sets-made c.one-own.ensures c.join.ensures c.meet-changed.ensures c.less.ensures c.meet-answers.ensures c.meet-done.ensures c.empty-none.ensures in (
      c.requires.0,
      c.requires.1,
      omega arith,
      answers-within _ s c.requires.1,
      completion-under-3 _ _ s _ _ c.requires.4 c.put_effects-a.ensures c.put_effects-b.ensures,
    )

pub put_effects-requires : goal.put_effects-requires
put_effects-requires c =
    let s = sets-made c.one-own.ensures c.join.ensures c.meet-changed.ensures c.less.ensures c.meet-answers.ensures c.meet-done.ensures c.empty-none.ensures in (
      c.requires.0,
      c.requires.1,
      omega arith,
      done-within _ s c.requires.1,
      completion-under-4 _ _ s _ _ c.requires.4 c.put_effects-a.ensures c.put_effects-b.ensures c.put_effects-c.ensures,
    )

pub returns : goal.returns
returns c =
    let s = sets-made c.one-own.ensures c.join.ensures c.meet-changed.ensures c.less.ensures c.meet-answers.ensures c.meet-done.ensures c.empty-none.ensures in
    completion-ran _ _ s _ _ c.requires.4 c.put_effects-a.ensures c.put_effects-b.ensures c.put_effects-c.ensures c.put_effects.ensures
