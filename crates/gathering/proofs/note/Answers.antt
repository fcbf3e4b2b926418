use Rattle.std.proofs.Common.{◌≤◌, ◌∙◌, ◌-◌, ap, sym, arith}
use Rattle.sets.specs.Set.{put_if}
use Rattle.wide.specs.Number.{number}
use Rattle.gathering.specs.Noting.{noting-before, noting-behind, noting-at}
use Rattle.gathering.proofs.note.Goals as goal

pub returns-in-Some : goal.returns-in-Some
returns-in-Some c =
    let h = c.in-Some.ensures in
    noting-at _ _ _ _ _ _ h.0 (omega (arith, h.1)) (c.put_if.ensures ∙ ap (λ f. put_if (number c.args.set) f c.args.on) h.1)

pub returns-in_default : goal.returns-in_default
returns-in_default c = let h = c.in-Some.ensures in noting-behind _ _ _ _ _ h.0 (omega (arith, h.1))

pub returns-in_default-2 : goal.returns-in_default-2
returns-in_default-2 c = let h = c.in_default.ensures in noting-before _ _ _ _ _ (omega (arith, h))
