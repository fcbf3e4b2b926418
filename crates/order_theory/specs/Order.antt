-- What comes before what, which orders are fit, and what a loop is, in the paper's words. A rule is a number; of a rule this file knows the
-- mark that it targets, the marks that it refers to, and whether it counts. Assumes nothing.
use Rattle.std.specs.Prelude.{◌≡◌, ◌⊎◌, Bool, true, false, List, [], ◌∷◌, ℕ, ◌≤◌, ◌<◌}
use Rattle.general.specs.Below.{tally, tally-le}

-- the rules of a book, 0 to count - 1. "For a stage, count all rules but those triggered by another stage's completion": here the test
-- alone; the book says which rules pass it for a stage
pub record Net : Type 0 where
  pub count : ℕ
  pub counts : ℕ → Bool
  pub target : ℕ → ℕ
  pub refers : ℕ → ℕ → Bool

-- x is listed
abbrev pub Mem : ℕ → List ℕ → Type 0
Mem x [] = ⊥
Mem x (y ∷ l) = (x ≡ y) ⊎ Mem x l

-- nothing is listed twice
abbrev pub Distinct : List ℕ → Type 0
Distinct [] = Unit {0}
Distinct (r ∷ l) = (Mem r l → ⊥) × Distinct l

module _ (N : Net) where
  -- p is a rule, and it counts
  abbrev pub Counted : ℕ → Type 0
  Counted p = (p < N.count) × (N.counts p ≡ true)

  -- how many rules count
  abbrev pub counted_rules : ℕ
  counted_rules = tally N.count N.counts

  pub counted-few : counted_rules ≤ N.count
  counted-few = tally-le N.count N.counts

  -- "Rule p comes before rule q if q refers to p's target."
  abbrev pub before : ℕ → ℕ → Bool
  before p q = N.refers q (N.target p)

  -- nothing that is listed from r on, r itself included, comes before r
  abbrev pub Respects : List ℕ → Type 0
  Respects [] = Unit {0}
  Respects (r ∷ l) = ((q : ℕ) → Mem q (r ∷ l) → before q r ≡ false) × Respects l

  -- "A fit order lists the counted rules of the completed stage": each once, no other, and respects this
  pub record Fit (l : List ℕ) : Type 0 where
    pub below : (q : ℕ) → Mem q l → Counted q
    pub whole : (q : ℕ) → Counted q → Mem q l
    pub distinct : Distinct l
    pub respects : Respects l

  -- a chain of counted rules: each comes before the next
  pub data Chain : ℕ → ℕ → Type 0 where
    link : {p q : ℕ} → Counted p → Counted q → before p q ≡ true → Chain p q
    more : {p r q : ℕ} → Counted p → Counted r → before p r ≡ true → Chain r q → Chain p q

  -- "A loop is a loop among the rules counted for some stage": here for one, a chain that comes back to its start, also a rule before itself
  abbrev pub Loop : ℕ → Type 0
  Loop r = Chain r r

  abbrev pub NoLoop : Type 0
  NoLoop = (r : ℕ) → Counted r → Loop r → ⊥

  -- m is targeted by a counted rule on a loop
  abbrev pub OnLoop : ℕ → Type 0
  OnLoop m = (r : ℕ) × Counted r × (N.target r ≡ m) × Loop r
