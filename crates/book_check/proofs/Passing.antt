-- A granted check, as the code meets it. Assumes nothing.
use Prim.Native.Nat.{ℕ}
use mathlib.Core.Path.{◌≡◌}
use mathlib.Core.List.{List}
use Rattle.paper.specs.Limits.{max_rules}
use Rattle.paper.specs.declared.Answer.{Answer}
use Rattle.judge.specs.Checking.{CheckPasses, checking}
use Rattle.judge.proofs.Checking.{passed_is}

pub passes : (s : List ℕ) (stage room : ℕ) (a : Answer) → room ≡ max_rules → a ≡ checking s stage room → a.code ≡ 0 → CheckPasses s stage max_rules
passes s stage room a e p q = rw e at (passed_is s stage room (rw p at q))
