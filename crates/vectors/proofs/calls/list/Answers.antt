-- The listing's text lies in its room. Assumes nothing.
use Rattle.std.proofs.Common.{rules, ℕ, List, ◌≡◌, ◌≤◌}
use native.Mathlib.Omega.{arith}
use Rattle.listing.specs.Limits.{max_listing}
use Rattle.listing.specs.Listing.{listed_length, listed-most}
use Rattle.vectors.proofs.calls.list.Goals as goal

within : (input room : List ℕ) (n m : ℕ) → n ≡ listed_length input room → max_listing ≤ m → n ≤ m
within input room n m e long = let most : n ≤ max_listing = listed-most input room n e in omega arith

pub of_bytes-requires : goal.of_bytes-requires
of_bytes-requires g c = within _ _ _ _ c.list-length.ensures.0 (search rules)
