-- Charts of which some tables were gathered, and the rest is as it was. Assumes nothing.
use Rattle.std.specs.Prelude.{◌≡◌, ℕ, List, ◌*◌, true, false}
use Rattle.std.proofs.Common.{ap}
use Rattle.flat_chart.specs.Flat.{FlatChart}
use Rattle.book.specs.declared.Rule.{Rule}
use Rattle.gathering.specs.Noting.{taking}
use Rattle.gathering.specs.Charts.{with_rule}

pub rule_taken : (n : ℕ) (r : Rule) (c : FlatChart) {i x p : List ℕ} → i ≡ taking n (2 * n) true r c.includes → x ≡ taking n (2 * n) false r c.excludes
    → p ≡ taking n (3 * n) false r c.responses → record c { includes = i; excludes = x; responses = p } ≡ with_rule n r c
rule_taken n r c e f g = rw (e, f, g)

-- c is b but for the tables that rules say, or that texts say
abbrev pub ByRules : FlatChart → FlatChart → Type 0
ByRules b c = c ≡ record b { includes = c.includes; excludes = c.excludes; responses = c.responses }

abbrev pub ByTexts : FlatChart → FlatChart → Type 0
ByTexts b c = c ≡ record b { conditions = c.conditions; milestones = c.milestones }

pub by_rule : (n : ℕ) (r : Rule) (b c d : FlatChart) → ByRules b c → d ≡ with_rule n r c → ByRules b d
by_rule n r b c d h e =
    rw (e, ap (λ (x : FlatChart). x.count) h, ap (λ (x : FlatChart). x.conditions) h, ap (λ (x : FlatChart). x.milestones) h, ap (λ (x : FlatChart). x.roles) h)

pub rules_told : (b c : FlatChart) {i x p : List ℕ} → ByRules b c → c.includes ≡ i → c.excludes ≡ x → c.responses ≡ p → c ≡ record b { includes = i; excludes = x; responses = p }
rules_told b c h e f g = rw (← e, ← f, ← g) h

pub texts_told : (b c : FlatChart) {k m : List ℕ} → ByTexts b c → c.conditions ≡ k → c.milestones ≡ m → c ≡ record b { conditions = k; milestones = m }
texts_told b c h e f = rw (← e, ← f) h

pub by_text : (b c : FlatChart) {k m : List ℕ} → ByTexts b c → record c { conditions = k; milestones = m } ≡ record b { conditions = k; milestones = m }
by_text b c h =
    rw (
      ap (λ (x : FlatChart). x.count) h,
      ap (λ (x : FlatChart). x.responses) h,
      ap (λ (x : FlatChart). x.includes) h,
      ap (λ (x : FlatChart). x.excludes) h,
      ap (λ (x : FlatChart). x.roles) h,
    )
