-- Nesting as document 001's Definition 1 has it: super-events, the nesting relation and its reflexive closure, atoms, and the numbers of the events. Assumes nothing.
use Rattle.std.specs.Prelude.{ℕ, ◌<◌, ◌≡◌, ◌↔◌, ◌⊎◌, Bool, true, not, ◌&&◌, ◌||◌, List, eqb, ltb}
use borrow.Author.Tests.{ltb-true}
use Rattle.general.specs.Cases.{all3}
use Rattle.general.specs.Below.{some, first, tally}
use Rattle.closure.specs.Closure.{Way, within, reached}
use Rattle.records.specs.Image.{nodes, parent_of, state_of}

module _ (image : List ℕ) where
  -- "a partial function mapping an event to its super-event": node b is the parent of node a
  unfoldable pub parent : ℕ → ℕ → Bool
  parent a b = ltb a (nodes image) && ltb b (nodes image) && eqb (parent_of image a) b

  -- "e' = ▷^k(e) for 0 < k, referred to as the nesting relation": a chain of parents leads from a to b
  abbrev pub Nested : ℕ → ℕ → Type 0
  Nested a b = Way parent a b

  -- "e ▷ e' or e = e'": b is a, or a group above it
  abbrev pub AtOrAbove : ℕ → ℕ → Type 0
  AtOrAbove a b = (a ≡ b) ⊎ Nested a b

  -- a chain of parents that comes back to its start
  abbrev pub OnLoop : ℕ → Type 0
  OnLoop a = Nested a a

  -- the tests of these
  unfoldable pub nested : ℕ → ℕ → Bool
  nested a b = within parent (nodes image) a b

  unfoldable pub at_or_above : ℕ → ℕ → Bool
  at_or_above a b = eqb a b || nested a b

  unfoldable pub on_loop_at : ℕ → Bool
  on_loop_at a = nested a a

  -- ---- "A node that is nobody's parent is an event. Others are groups"

  unfoldable pub is_group : ℕ → Bool
  is_group i = some (nodes image) (λ a. parent a i)

  -- atoms(E) = {e | ∀ e' ∈ E. ▷(e') ≠ e}
  abbrev pub is_event : ℕ → Bool
  is_event i = not (is_group i)

  -- "Events are numbered from 0 in node order": the number of node i is how many events stand before it
  abbrev pub number : ℕ → ℕ
  number i = tally i is_event

  abbrev pub event_count : ℕ
  event_count = number (nodes image)

  -- the node of event e
  unfoldable pub event_node : ℕ → ℕ
  event_node e = first (nodes image) (λ i. is_event i && eqb (number i) e)

  -- "a group's flags are 0", of the lower byte: groups too name roles
  unfoldable pub flagged_group_at : ℕ → Bool
  flagged_group_at i = is_group i && not (eqb (state_of image i) 0)

-- ---- the closure says so

module _ (image : List ℕ) where
  parent_in : (a b : ℕ) → parent image a b ≡ true → b < nodes image
  unfolding parent
  parent_in a b h = ltb-true b (nodes image) (all3 (ltb a (nodes image)) (ltb b (nodes image)) (eqb (parent_of image a) b) h).1

  pub nested-so : (a b : ℕ) → (nested image a b ≡ true) ↔ Nested image a b
  unfolding nested
  nested-so a b = let t = reached (parent image) (nodes image) parent_in a b in (t.1, t.0)
