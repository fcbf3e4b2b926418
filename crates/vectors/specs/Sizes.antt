-- The bytes that fields of a request take. Assumes nothing.
use Rattle.std.specs.Prelude.{ℕ, ◌+◌, ◌*◌, ◌/◌}
use Rattle.paper.specs.Limits.{max_events, max_marks}

abbrev pub set_bytes : ℕ
set_bytes = max_events / 8

abbrev pub table_bytes : ℕ
table_bytes = max_events * set_bytes

abbrev pub flat_bytes : ℕ
flat_bytes = 4 + 5 * table_bytes + max_events

abbrev pub marking_bytes : ℕ
marking_bytes = 3 * set_bytes

abbrev pub snapshot_bytes : ℕ
snapshot_bytes = max_marks / 8
