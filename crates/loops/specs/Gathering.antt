-- The set of the stages that need a search for loops of their own, rule by rule, and the lower of two places. Assumes nothing.
use Rattle.std.specs.Prelude.{cond, ◌&&◌, List, ℕ, eqb, leb, Option, Some, None}
use Rattle.sets.specs.Set.{union, only}
use Rattle.loop_search.specs.Places.{lesser}
use Rattle.book.specs.Image.{rule_place, kind_at, sense_at, number_at}

-- a set of stages takes in the stage of rule r where its completion triggers the rule and the rule has a condition
unfoldable pub with_stage : List ℕ → ℕ → ℕ → ℕ
with_stage s set r = cond (eqb (kind_at s (rule_place r)) 1 && leb 1 (sense_at s (rule_place r))) (union set (only (number_at s (rule_place r)))) set

-- the lower of two places, where there are any
abbrev pub lower : Option ℕ → Option ℕ → Option ℕ
lower None b = b
lower (Some x) None = Some x
lower (Some x) (Some y) = Some (lesser x y)
