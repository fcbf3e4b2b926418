-- The image's head, judged for 20 to 22, and what stands when the rest is judged. Assumes nothing.
use Rattle.std.specs.Prelude.{◌≡◌, not, cond, List, ℕ, eqb, ltb, length, Result, Ok, Err}
use Rattle.std.proofs.Common.{sym, ◌∙◌, arith, ltb-false, le-ltb, ne_eqb}
use Rattle.paper.specs.Limits.{book_header, book_short, book_count, book_length}
use Rattle.paper.specs.Answers.{granted, refusal}
use Rattle.paper.specs.declared.Answer.{Answer}
use Rattle.paper.specs.declared.Refusal.{Refusal}
use Rattle.paper.specs.Refusals.{answer_of}
use Rattle.general.specs.Cases.{cases}
use Rattle.book.specs.Judging.{counts_of, counts_fit, layout_fits, body_answer, image_answer}
use Rattle.book.specs.WellFormed.{Headed, counts-says, says-counts, layout-says, says-layout}
use Rattle.book.specs.declared.Counts.{Counts}

-- 20 to 22
unfoldable pub head_answer : List ℕ → Answer
head_answer s =
    cond (ltb (length s) book_header) (refusal book_short)
    (cond (not (counts_fit (counts_of s))) (refusal book_count) (cond (not (layout_fits s (counts_of s))) (refusal book_length) granted))

-- 23 and 24 behind a head that passes: the two make the image's answer
pub head-body : (s : List ℕ) → image_answer s ≡ cond (eqb (head_answer s).code 0) (body_answer s (counts_of s)) (head_answer s)
unfolding image_answer head_answer
head-body s =
    cases (ltb (length s) book_header) (λ e. rw e)
    (λ e. rw e (cases (counts_fit (counts_of s)) (λ f. rw f (cases (layout_fits s (counts_of s)) (λ g. rw g) (λ g. rw g))) (λ f. rw f)))

pub head-refused : (s : List ℕ) (a : Answer) → a ≡ head_answer s → (a.code ≡ 0 → ⊥) → a ≡ image_answer s
head-refused s a e n = sym (head-body s ∙ rw (← e, ne_eqb a.code 0 n))

pub head_passed : (s : List ℕ) → (head_answer s).code ≡ 0 → Headed s
unfolding head_answer
head_passed s z =
    cases (ltb (length s) book_header) (λ e. let x : book_short ≡ 0 = rw e at z in absurd (omega arith))
    (λ e. cases (counts_fit (counts_of s))
    (λ f. cases (layout_fits s (counts_of s))
    (λ g. record { long = ltb-false (length s) book_header e; counted = counts-says (counts_of s) f; laid_out = layout-says s (counts_of s) g })
    (λ g. let x : book_length ≡ 0 = rw (e, f, g) at z in absurd (omega arith)))
    (λ f. let x : book_count ≡ 0 = rw (e, f) at z in absurd (omega arith)))

pub passed-body : (s : List ℕ) → Headed s → image_answer s ≡ body_answer s (counts_of s)
unfolding head_answer
passed-body s g = head-body s ∙ rw (le-ltb (length s) book_header g.long, says-counts (counts_of s) g.counted, says-layout s (counts_of s) g.laid_out)

-- the head has passed, and these are its counts
pub record Begun (s : List ℕ) (h : Counts) : Type 0 where
  pub headed : Headed s
  pub counts : h ≡ counts_of s

-- granted, whatever is handed on with that, or the answer of what is refused
abbrev pub told : {A : Type 0} → Result A Refusal → Answer
told (Ok _) = granted
told (Err r) = answer_of r
