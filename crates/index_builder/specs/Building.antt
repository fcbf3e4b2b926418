-- What building the index of a book gives, in the request's order of refusals: the answer and the room; and that they are exactly what its table says. Assumes nothing.
use Rattle.std.specs.Prelude.{◌≡◌, refl, cond, List, ◌++◌, ℕ, ◌≤◌, ◌<◌, eqb, ltb, length, take, drop}
use Rattle.std.proofs.Math.Path.{sym}
use Rattle.std.proofs.Common.{ap, subst, ◌∙◌, arith, take_at}
use borrow.Author.Tests.{eqb-true, eqb-false, eq-eqb, ne_eqb, ltb-true, ltb-false, lt-ltb, le-ltb}
use Rattle.paper.specs.Limits.{clash, index_room}
use Rattle.paper.specs.Answers.{answer, granted}
use Rattle.paper.specs.declared.Answer.{Answer}
use Rattle.general.specs.Cases.{cases, coincide}
use Rattle.book.specs.Image.{rules_in, book_of}
use Rattle.judge.specs.Checking.{book_answer, BookPasses, Checked, passes-granted, book-is}
use Rattle.judge.proofs.Checking.{book-passes, is-book}
use Rattle.index.specs.Index.{index_image}

-- the index of the book that an image says, and its bytes
abbrev pub index_of : List ℕ → List ℕ
index_of s = index_image (book_of s)

-- "35, no room for the index, after 26, place the bytes needed"
unfoldable pub room_answer : List ℕ → ℕ → Answer
room_answer s room = cond (ltb room (length (index_of s))) (answer index_room (length (index_of s)) 0) granted

-- "It is built from a book without 20 to 26."
unfoldable pub building : List ℕ → ℕ → Answer
building s room = cond (eqb (book_answer s).code 0) (room_answer s room) (book_answer s)

-- the image at the start of the room, the rest as it was; a refusal writes nothing
unfoldable pub built_room : List ℕ → List ℕ → List ℕ
built_room s room = cond (eqb (building s (length room)).code 0) (index_of s ++ drop (length (index_of s)) room) room

-- ---- the rows of the request's table

pub data Builds (s : List ℕ) (room : ℕ) : Answer → Type 0 where
  -- 20 to 26, of the book alone
  refused : (a : Answer) → Checked s 0 (rules_in s) a → (a.code ≡ 0 → ⊥) → a.code ≤ clash → Builds s room a
  narrow : BookPasses s → room < length (index_of s) → Builds s room (answer index_room (length (index_of s)) 0)
  built : BookPasses s → length (index_of s) ≤ room → Builds s room granted

module _ (s : List ℕ) where
  pub passes-zero : BookPasses s → (book_answer s).code ≡ 0
  passes-zero p = ap (λ (a : Answer). a.code) (passes-granted s p)

  module _ (room : ℕ) where
    then : BookPasses s → building s room ≡ room_answer s room
    unfolding building
    then p = rw (eq-eqb (book_answer s).code 0 (passes-zero p))

    -- at most one row holds
    pub builds-is : (a : Answer) → Builds s room a → a ≡ building s room
    unfolding building room_answer
    builds-is a (refused b c n l) = let z : book_answer s ≡ a = book-is s 0 (rules_in s) a c n l in rw (z, ne_eqb a.code 0 n)
    builds-is a (narrow p h) = sym (then p ∙ rw (lt-ltb room (length (index_of s)) h))
    builds-is a (built p h) = sym (then p ∙ rw (le-ltb room (length (index_of s)) h))

    -- some row holds
    row : (a : Answer) × Builds s room a
    row =
        cases (eqb (book_answer s).code 0)
        (λ e. let p = book-passes s (eqb-true (book_answer s).code 0 e) in
        cases (ltb room (length (index_of s))) (λ t. (answer index_room (length (index_of s)) 0, narrow p (ltb-true room (length (index_of s)) t)))
        (λ t. (granted, built p (ltb-false room (length (index_of s)) t))))
        (λ e. let n = eqb-false (book_answer s).code 0 e in let (c, l) = is-book s 0 (rules_in s) n in (book_answer s, refused (book_answer s) c n l))

    -- the answer's row holds: with `builds-is`, every answer of building is given exactly as the table says
    pub builds : Builds s room (building s room)
    builds = let t = row in subst (λ (a : Answer). Builds s room a) (builds-is t.0 t.1) t.1

    -- an index is built exactly if the book passes and the room holds it
    pub build-granted : BookPasses s → length (index_of s) ≤ room → building s room ≡ granted
    build-granted p h = sym (builds-is granted (built p h))

    pub build-passes : (building s room).code ≡ 0 → BookPasses s × (length (index_of s) ≤ room)
    build-passes = go (building s room) builds
      where
        go : (a : Answer) → Builds s room a → a.code ≡ 0 → BookPasses s × (length (index_of s) ≤ room)
        go a (refused b c n l) e = absurd (n e)
        go a (narrow p h) e = absurd (omega arith)
        go a (built p h) e = (p, h)

  -- what a granted one writes, and the room behind it as it was
  pub granted-index : (room : List ℕ) → (building s (length room)).code ≡ 0 → built_room s room ≡ index_of s ++ drop (length (index_of s)) room
  unfolding built_room
  granted-index room e = rw (eq-eqb (building s (length room)).code 0 e)

  -- a refusal writes nothing
  pub refused-index : (room : List ℕ) → ((building s (length room)).code ≡ 0 → ⊥) → built_room s room ≡ room
  unfolding built_room
  refused-index room n = rw (ne_eqb (building s (length room)).code 0 n)

  -- two results that meet the contract coincide
  pub build-determined : (room : List ℕ) (a b : Answer) (k l : List ℕ)
      → a ≡ building s (length room) → k ≡ built_room s room → b ≡ building s (length room) → l ≡ built_room s room
      → (a ≡ b) × (k ≡ l)
  build-determined room a b k l e f g h = (coincide e g, coincide f h)

  -- what building writes is the index
  pub built-is : (room : List ℕ) → (building s (length room)).code ≡ 0 → take (length (index_of s)) (built_room s room) ≡ index_of s
  built-is room e = ap (take (length (index_of s))) (granted-index room e) ∙ take_at (index_of s) (drop (length (index_of s)) room) (length (index_of s)) refl
