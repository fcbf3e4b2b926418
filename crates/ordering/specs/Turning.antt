-- One turn of the scan, in the room that passes over rules work in. Assumes nothing.
use Rattle.std.specs.Prelude.{◌≡◌, List, ℕ, ◌≤◌, ◌<◌, length, replicate, Option, Some, None}
use Rattle.std.proofs.lemmas.List.{length-replicate}
use Rattle.paper.specs.Limits.{max_marks}
use Rattle.book.specs.Image.{rules_in}
use Rattle.order_theory.specs.Running.{running_order}
use Rattle.rule_order.specs.Nets.{rules_of}
use Rattle.unwritten.specs.declared.Scratch.{Scratch}
use Rattle.ordering.specs.declared.scan.Scan.{Scan}
use Rattle.ordering.specs.declared.scan.Ranges.{Ranges}
use Rattle.ordering.specs.Scanning.{Scanned, Turn}

-- no rule was passed over
abbrev pub empty_ranges : Ranges
empty_ranges = record { low = replicate max_marks 4294967295; high = replicate max_marks 0 }

pub ranges-long : (b : Ranges) → b ≡ empty_ranges → (length b.low ≡ max_marks) × (length b.high ≡ max_marks)
ranges-long b e = rw e (length-replicate {A = ℕ} max_marks 4294967295, length-replicate {A = ℕ} max_marks 0)

-- a rule is come to, or the order has ended
abbrev pub Turned : List ℕ → Scan → Scratch → Ranges → Option Scan → Scratch → Ranges → Type 0
Turned s scan a b None a' b' = (stage n : ℕ) → Scanned s stage n scan a.targeted a.waits a.written b.low b.high → length (running_order (rules_of s stage)) ≤ n
Turned s scan a b (Some next) a' b' = (Turn s scan a.targeted a.waits a.written b.low b.high next a'.targeted a'.waits a'.written b'.low b'.high) × (next.rule < rules_in s)
