-- "A firing rule sets or clears its target." Assumes nothing.
use Rattle.std.specs.Prelude.{◌≡◌, refl, ◌↔◌, Bool, true, false, not, List, ◌<◌, length, get_or, set, replicate}
use Rattle.std.proofs.Common.{sym, ap, ◌∙◌, length-set, get_or-set_same}
use Rattle.std.specs.Bool.{beq}
use Rattle.std.proofs.lemmas.List.{set-get_or}
use Rattle.paper.specs.Limits.{max_marks}
use Rattle.general.specs.Cases.{contra, cases}
use Rattle.book.specs.declared.Rule.{Rule}
use Rattle.book.specs.declared.Snapshot.{Snapshot}

-- every mark no
unfoldable pub empty_snapshot : Snapshot
empty_snapshot = record { marks = replicate max_marks false }

-- the marks after the rule r has fired
abbrev pub effect_on : List Bool → Rule → List Bool
effect_on marks r = set marks r.target r.effect

pub length-effect : (marks : List Bool) (r : Rule) → length (effect_on marks r) ≡ length marks
length-effect marks r = length-set marks r.target r.effect

pub beq-refl : (a : Bool) → beq a a ≡ true
beq-refl true = refl
beq-refl false = refl

-- it leaves them as they are exactly if the target has its value
pub effect-alters : (marks : List Bool) (r : Rule) → r.target < length marks → (not (beq (get_or marks r.target false) r.effect) ≡ false) ↔ (effect_on marks r ≡ marks)
effect-alters marks r h =
    cases (beq (get_or marks r.target false) r.effect)
    (λ t. rw t (λ e. ap (set marks r.target) (sym (same _ _ t)) ∙ set-get_or marks r.target false, λ z. refl))
    (λ t. rw t (
      λ e. contra refl e,
      λ z.
          let v : r.effect ≡ get_or marks r.target false = sym (get_or-set_same marks r.target r.effect false h) ∙ ap (λ (m : List Bool). get_or m r.target false) z in
          contra (rw v (beq-refl (get_or marks r.target false))) t,
    ))
  where
    same : (a b : Bool) → beq a b ≡ true → a ≡ b
    same true true e = refl
    same true false e = contra e refl
    same false true e = contra e refl
    same false false e = refl
