-- Laws of earlier proofs, which stood in specs/: nothing cites them now, and they stand. Assumes nothing.
use Rattle.std.specs.Prelude.{◌≡◌, refl, true, false, List, ℕ, ◌-◌, ◌/◌, ◌%◌, ◌≤◌, ◌<◌, get_or, set}
use Rattle.std.proofs.Math.Path.{sym, ap}
use Rattle.std.proofs.Common.{arith}
use borrow.Author.Tests.{le-leb, lt-leb}
use Rattle.sets.specs.Set.{minus, only}
use Rattle.book.specs.Marks.{word_bits}
use Rattle.unwritten.specs.Counters.{Struck}

pub struck-last : (t one word : ℕ) (counts waits : List ℕ) → get_or counts t 0 ≤ 1 → one ≡ only (t % word_bits) → word ≡ minus (get_or waits (t / word_bits) 0) one
    → Struck t counts waits (set counts t 0) (set waits (t / word_bits) word) true
struck-last t one word counts waits h o w =
    record { last = sym (le-leb (get_or counts t 0) 1 h); fewer = ap (λ (n : ℕ). set counts t n) (omega arith); kept = rw (w, o) }

pub struck-more : (t : ℕ) (counts waits : List ℕ) → 1 < get_or counts t 0 → Struck t counts waits (set counts t (get_or counts t 0 - 1)) waits false
struck-more t counts waits h = record { last = sym (lt-leb (get_or counts t 0) 1 h); fewer = refl; kept = refl }
