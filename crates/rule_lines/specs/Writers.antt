-- The rule lines as they are read off a book's image, and what each of their writers leaves behind. Assumes nothing.
use Rattle.std.specs.Prelude.{ℕ, ◌+◌, ◌<◌, ◌≡◌, Bool, true, false, List}
use Rattle.book.specs.Image.{rule_place, rule_from}
use Rattle.general.specs.Lists.{flat}
use Rattle.book.specs.declared.Rule.{Rule}
use Rattle.book.specs.declared.Sense.{Sense}
use Rattle.book.specs.declared.Sense.TheVariants.{NoCondition, AsWritten, Negated}
use Rattle.book.specs.declared.Trigger.{Trigger}
use Rattle.book.specs.declared.Trigger.TheVariants.{None, Completed, BecomeYes, BecomeNo}
use Rattle.general.specs.Writing.{Wrote, wrote_none}
use Rattle.writing.specs.Text.{named}
use Rattle.writing.specs.Writers.{Space, Lines, lines-fits, lines_more}
use Rattle.rule_lines.specs.Text.{trigger_text, sense_text, effect_text, rule_line}

unfoldable pub rule_line_at : List ℕ → ℕ → List ℕ
rule_line_at s i = rule_line i (rule_from s (rule_place i))

-- ---- the cases of a rule's trigger, sense and effect

module _ (room : List ℕ) (at : ℕ) (t : Trigger) where
  pub trigger-none : t ≡ None → Wrote room at (trigger_text t) at room
  unfolding trigger_text
  trigger-none e = rw e (wrote_none room at)

  pub trigger-yes : (m : ℕ) → t ≡ BecomeYes m → Wrote room at (trigger_text t) at room
  unfolding trigger_text
  trigger-yes m e = rw e (wrote_none room at)

  pub trigger-no : (m : ℕ) → t ≡ BecomeNo m → Wrote room at (trigger_text t) at room
  unfolding trigger_text
  trigger-no m e = rw e (wrote_none room at)

  module _ (n : ℕ) (e : t ≡ Completed n) where
    pub on_fits : Space room at (trigger_text t) → Space room at (named " on " n)
    unfolding trigger_text
    on_fits f = rw e at f

    pub on-wrote : (next : ℕ) (after : List ℕ) → Wrote room at (named " on " n) next after → Wrote room at (trigger_text t) next after
    unfolding trigger_text
    on-wrote next after w = rw e w

module _ (room : List ℕ) (at : ℕ) (s : Sense) where
  pub sense-none : s ≡ NoCondition → Wrote room at (sense_text s) at room
  unfolding sense_text
  sense-none e = rw e (wrote_none room at)

  module _ (c : ℕ) where
    pub if-fits : s ≡ AsWritten c → Space room at (sense_text s) → Space room at (named " if " c)
    unfolding sense_text
    if-fits e f = rw e at f

    pub if-wrote : s ≡ AsWritten c → (next : ℕ) (after : List ℕ) → Wrote room at (named " if " c) next after → Wrote room at (sense_text s) next after
    unfolding sense_text
    if-wrote e next after w = rw e w

    pub unless-fits : s ≡ Negated c → Space room at (sense_text s) → Space room at (named " unless " c)
    unfolding sense_text
    unless-fits e f = rw e at f

    pub unless-wrote : s ≡ Negated c → (next : ℕ) (after : List ℕ) → Wrote room at (named " unless " c) next after → Wrote room at (sense_text s) next after
    unfolding sense_text
    unless-wrote e next after w = rw e w

module _ (room : List ℕ) (at : ℕ) (b : Bool) (m : ℕ) where
  pub set-fits : b ≡ true → Space room at (effect_text b m) → Space room at (named " set " m)
  unfolding effect_text
  set-fits e f = rw e at f

  pub set-wrote : b ≡ true → (next : ℕ) (after : List ℕ) → Wrote room at (named " set " m) next after → Wrote room at (effect_text b m) next after
  unfolding effect_text
  set-wrote e next after w = rw e w

  pub clear-fits : b ≡ false → Space room at (effect_text b m) → Space room at (named " clear " m)
  unfolding effect_text
  clear-fits e f = rw e at f

  pub clear-wrote : b ≡ false → (next : ℕ) (after : List ℕ) → Wrote room at (named " clear " m) next after → Wrote room at (effect_text b m) next after
  unfolding effect_text
  clear-wrote e next after w = rw e w

-- ---- the rules

module _ (s : List ℕ) (R : ℕ) (room₀ : List ℕ) (at k next : ℕ) (room : List ℕ) (inv : Lines (rule_line_at s) R room₀ at k next room) (h : k < R) (r : Rule)
    (e : r ≡ rule_from s (rule_place k)) where
  pub rule_fits : Space room₀ at (flat R (rule_line_at s)) → Space room next (rule_line k r)
  unfolding rule_line_at
  rule_fits f = rw e (lines-fits (rule_line_at s) R room₀ at k next room inv h f)

  pub rule-more : (next' : ℕ) (room' : List ℕ) → Wrote room next (rule_line k r) next' room' → Lines (rule_line_at s) R room₀ at (k + 1) next' room'
  unfolding rule_line_at
  rule-more next' room' w = lines_more (rule_line_at s) R room₀ at k next room inv next' room' h (rw e at w)
