-- "Derived book": the rules, texts and condition records of a flat chart (document 000, Definition 12 and Table 2, as the paper amends them). Assumes nothing.
use Rattle.std.specs.Prelude.{ℕ, ◌+◌, ◌*◌, ◌<◌, ◌≡◌, Bool, true, false, cond, length}
use mathlib.Core.List.{List, [], ◌∷◌, ◌++◌, append-nil}
use Rattle.paper.specs.Limits.{and_word, or_word, not_word}
use Rattle.sets.specs.Set.{has}
use Rattle.flat_chart.specs.Chart.{condition, response, milestone, include, exclude, set_of}
use Rattle.flat_chart.specs.Flat.{FlatChart}
use Rattle.book.specs.Book.{Book, Condition, no_condition, text_of}
use Rattle.general.specs.Lists.{flat, each, get_or-each, cut-flat, All, all_append, append-all, all-flat, flat-all}
use Rattle.book.specs.declared.Rule.{Rule}
use Rattle.book.specs.declared.Trigger.TheVariants.{None, Completed}
use Rattle.book.specs.declared.Sense.TheVariants.{NoCondition, AsWritten, Negated}

-- ---- "marks e stage, n+e executed, 2n+e included, 3n+e answered (not pending)"

abbrev pub executed_mark : ℕ → ℕ → ℕ
executed_mark n e = n + e

abbrev pub included_mark : ℕ → ℕ → ℕ
included_mark n e = 2 * n + e

abbrev pub answered_mark : ℕ → ℕ → ℕ
answered_mark n e = 3 * n + e

-- ---- the shapes of the rules

-- on completion of e, set the mark m or clear it
abbrev pub on : ℕ → Bool → ℕ → Rule
on e b m = record { trigger = Completed e; sense = NoCondition; effect = b; target = m }

-- without trigger, set stage e if condition e
abbrev pub opens : ℕ → Rule
opens e = record { trigger = None; sense = AsWritten e; effect = true; target = e }

-- without trigger, clear stage e if not condition e
abbrev pub closes : ℕ → Rule
closes e = record { trigger = None; sense = Negated e; effect = false; target = e }

-- a part for f where f is a member of s
abbrev pub listed : {A : Type 0} → (ℕ → List A) → ℕ → ℕ → List A
listed g s f = cond (has s f) (g f) []

-- ---- "on completion of e", of n events, where e includes the set i, excludes x and has the responses r

module _ (n e : ℕ) where
  -- "set included f if e includes f, or clear it if e excludes f"; request (xii): "The deriver writes the clearing rule only where there is no include."
  unfoldable pub inclusion : ℕ → ℕ → ℕ → List Rule
  inclusion i x f = cond (has i f) (on e true (included_mark n f) ∷ []) (cond (has x f) (on e false (included_mark n f) ∷ []) [])

  -- "clear answered f if f is a response of e"
  unfoldable pub responding : ℕ → ℕ → List Rule
  responding r = listed (λ f. on e false (answered_mark n f) ∷ []) r

  -- "set answered e unless e is its own response"
  unfoldable pub answering : ℕ → List Rule
  answering r = cond (has r e) [] (on e true (answered_mark n e) ∷ [])

  -- "set executed e"
  abbrev pub setting_executed : Rule
  setting_executed = on e true (executed_mark n e)

  unfoldable pub completion : ℕ → ℕ → ℕ → List Rule
  completion i x r = flat n (inclusion i x) ++ (flat n (responding r) ++ (answering r ++ (setting_executed ∷ [])))

-- ---- "Its text: included e; for each condition f rising: included f, not, executed f, or, and; then the same for each milestone with answered f."

-- f is not included, or its mark is yes
abbrev pub clause : ℕ → (ℕ → ℕ) → ℕ → List ℕ
clause n mark f = included_mark n f ∷ (not_word ∷ (mark f ∷ (or_word ∷ (and_word ∷ []))))

-- the text of e, with the conditions c and the milestones m
unfoldable pub text_for : ℕ → ℕ → ℕ → ℕ → List ℕ
text_for n e c m = included_mark n e ∷ (flat n (listed (clause n (executed_mark n)) c) ++ flat n (listed (clause n (answered_mark n)) m))

-- ---- the book

abbrev pub stage_rules : ℕ → List Rule
stage_rules e = opens e ∷ (closes e ∷ [])

module _ (c : FlatChart) where
  unfoldable pub event_rules : ℕ → List Rule
  event_rules e = completion c.count e (set_of c include e) (set_of c exclude e) (set_of c response e)

  unfoldable pub derived_rules : List Rule
  derived_rules = flat c.count event_rules ++ flat c.count stage_rules

  unfoldable pub derived_text : ℕ → List ℕ
  derived_text e = text_for c.count e (set_of c condition e) (set_of c milestone e)

  -- "The texts follow each other without gaps."
  unfoldable pub derived_condition : ℕ → Condition
  derived_condition e = record { start = length (flat e derived_text); count = length (derived_text e) }

  unfoldable pub derived_book : Book
  derived_book =
      record {
        stages = c.count;
        marks = 4 * c.count;
        rules = derived_rules;
        conditions = each c.count derived_condition;
        words = flat c.count derived_text;
      }

  -- what a text is, in the book
  pub derived-text : (e : ℕ) → e < c.count → text_of derived_book e ≡ derived_text e
  unfolding text_of derived_book derived_condition
  derived-text e h =
      rw (get_or-each c.count derived_condition e no_condition h, ← append-nil (flat c.count derived_text))
      (cut-flat c.count e derived_text [] h)

  -- ---- a statement about all the rules, taken apart and put together

  module _ (P : Rule → Type 0) where
    pub record Parts : Type 0 where
      pub inclusions : (e : ℕ) → e < c.count → (f : ℕ) → f < c.count → All P (inclusion c.count e (set_of c include e) (set_of c exclude e) f)
      pub responses : (e : ℕ) → e < c.count → (f : ℕ) → f < c.count → All P (responding c.count e (set_of c response e) f)
      pub answers : (e : ℕ) → e < c.count → All P (answering c.count e (set_of c response e))
      pub executed : (e : ℕ) → e < c.count → P (setting_executed c.count e)
      pub opened : (e : ℕ) → e < c.count → P (opens e)
      pub closed : (e : ℕ) → e < c.count → P (closes e)

    pub join : Parts → All P derived_rules
    unfolding derived_rules event_rules completion
    join p =
        all_append P (flat c.count event_rules) (flat c.count stage_rules)
        (all-flat P c.count event_rules (λ e h.
        all_append P (flat c.count (inclusion c.count e (set_of c include e) (set_of c exclude e))) _ (all-flat P c.count _ (p.inclusions e h))
        (all_append P (flat c.count (responding c.count e (set_of c response e))) _ (all-flat P c.count _ (p.responses e h))
        (all_append P (answering c.count e (set_of c response e)) _ (p.answers e h) (p.executed e h, tt)))))
        (all-flat P c.count stage_rules (λ e h. (p.opened e h, (p.closed e h, tt))))

    pub parts : All P derived_rules → Parts
    unfolding derived_rules event_rules completion
    parts a =
        let t = append-all P (flat c.count event_rules) (flat c.count stage_rules) a in
        let one : (e : ℕ) → e < c.count → All P (event_rules e) = flat-all P c.count event_rules t.0 in
        let two : (e : ℕ) → e < c.count → All P (stage_rules e) = flat-all P c.count stage_rules t.1 in
        let x : (e : ℕ) → e < c.count → All P (flat c.count (inclusion c.count e (set_of c include e) (set_of c exclude e)))
        × All P (flat c.count (responding c.count e (set_of c response e)) ++ (answering c.count e (set_of c response e) ++ (setting_executed c.count e ∷ []))) =
        λ e h. append-all P (flat c.count (inclusion c.count e (set_of c include e) (set_of c exclude e))) _ (one e h) in
        let y : (e : ℕ) → e < c.count → All P (flat c.count (responding c.count e (set_of c response e)))
        × All P (answering c.count e (set_of c response e) ++ (setting_executed c.count e ∷ [])) =
        λ e h. append-all P (flat c.count (responding c.count e (set_of c response e))) _ (x e h).1 in
        let z : (e : ℕ) → e < c.count → All P (answering c.count e (set_of c response e)) × All P (setting_executed c.count e ∷ []) =
        λ e h. append-all P (answering c.count e (set_of c response e)) _ (y e h).1 in
        record {
          inclusions = λ e h. flat-all P c.count _ (x e h).0;
          responses = λ e h. flat-all P c.count _ (y e h).0;
          answers = λ e h. (z e h).0;
          executed = λ e h. (z e h).1.0;
          opened = λ e h. (two e h).0;
          closed = λ e h. (two e h).1.0;
        }
