-- When a rule fires, and what it refers to. Assumes nothing.
use Rattle.std.specs.Prelude.{◌≡◌, refl, Bool, true, false, not, ◌&&◌, ◌||◌, List, ℕ, eqb}
use Rattle.std.proofs.Common.{ap, eq-eqb}
use Rattle.general.specs.Cases.{or_left, or_right}
use Rattle.book.specs.Text.{Snap, elem, holds, holds-local}
use Rattle.book.specs.Book.{Book, rule_of, text_of}
use Rattle.book.specs.declared.Rule.{Rule}
use Rattle.book.specs.declared.Trigger.{Trigger}
use Rattle.book.specs.declared.Trigger.TheVariants.{None, Completed, BecomeYes, BecomeNo}
use Rattle.book.specs.declared.Sense.{Sense}
use Rattle.book.specs.declared.Sense.TheVariants.{NoCondition, AsWritten, Negated}

-- ---- "A rule fires if its trigger holds and its condition holds in the snapshot as it now stands."

-- "Become yes: no at the start of the call, yes now."
unfoldable pub triggered : Snap → ℕ → Trigger → Snap → Bool
triggered start stage None now = true
triggered start stage (Completed c) now = eqb c stage
triggered start stage (BecomeYes m) now = not (start m) && now m
triggered start stage (BecomeNo m) now = start m && not (now m)

unfoldable pub allowed : (ℕ → List ℕ) → Sense → Snap → Bool
allowed text NoCondition now = true
allowed text (AsWritten c) now = holds now (text c)
allowed text (Negated c) now = not (holds now (text c))

-- a rule as it was read, where `text` gives the words of each condition
abbrev pub firing : (ℕ → List ℕ) → Snap → ℕ → Snap → Rule → Bool
firing text start stage now r = triggered start stage r.trigger now && allowed text r.sense now

unfoldable pub fires : Book → Snap → ℕ → Snap → ℕ → Bool
fires b start stage now r = firing (text_of b) start stage now (rule_of b r)

pub firing-fires : (b : Book) (start : Snap) (stage : ℕ) (now : Snap) (r : ℕ) (rule : Rule) → rule ≡ rule_of b r → firing (text_of b) start stage now rule ≡ fires b start stage now r
unfolding fires
firing-fires b start stage now r rule e = ap (firing (text_of b) start stage now) e

-- ---- "A rule refers to the marks in its condition and in its become-yes or become-no trigger. A completion trigger refers to nothing."

unfoldable pub awaits : Trigger → ℕ → Bool
awaits None m = false
awaits (Completed c) m = false
awaits (BecomeYes x) m = eqb m x
awaits (BecomeNo x) m = eqb m x

unfoldable pub reads : (ℕ → List ℕ) → Sense → ℕ → Bool
reads text NoCondition m = false
reads text (AsWritten c) m = elem m (text c)
reads text (Negated c) m = elem m (text c)

unfoldable pub refers : Book → ℕ → ℕ → Bool
refers b r m = awaits (rule_of b r).trigger m || reads (text_of b) (rule_of b r).sense m

-- ---- a rule's firing hangs on the marks that it refers to

triggered-local : (start : Snap) (stage : ℕ) (t : Trigger) (s u : Snap) → ((m : ℕ) → awaits t m ≡ true → s m ≡ u m) → triggered start stage t s ≡ triggered start stage t u
unfolding triggered awaits
triggered-local start stage None s u h = refl
triggered-local start stage (Completed c) s u h = refl
triggered-local start stage (BecomeYes m) s u h = rw (h m (eq-eqb m m refl))
triggered-local start stage (BecomeNo m) s u h = rw (h m (eq-eqb m m refl))

allowed-local : (text : ℕ → List ℕ) (g : Sense) (s u : Snap) → ((m : ℕ) → reads text g m ≡ true → s m ≡ u m) → allowed text g s ≡ allowed text g u
unfolding allowed reads
allowed-local text NoCondition s u h = refl
allowed-local text (AsWritten c) s u h = holds-local s u (text c) h
allowed-local text (Negated c) s u h = ap not (holds-local s u (text c) h)

pub fires-local : (b : Book) (start : Snap) (stage : ℕ) (s u : Snap) (r : ℕ) → ((m : ℕ) → refers b r m ≡ true → s m ≡ u m) → fires b start stage s r ≡ fires b start stage u r
unfolding fires refers
fires-local b start stage s u r h =
    let t : Trigger = (rule_of b r).trigger in
    let g : Sense = (rule_of b r).sense in
    rw (
      triggered-local start stage t s u (λ m e. h m (or_left (awaits t m) (reads (text_of b) g m) e)),
      allowed-local (text_of b) g s u (λ m e. h m (or_right (awaits t m) (reads (text_of b) g m) e)),
    )
