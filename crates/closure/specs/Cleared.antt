-- What is left of words the first of which were made 0. Assumes nothing.
use Rattle.std.specs.Prelude.{◌≡◌, refl, List, ◌∷◌, ◌++◌, ℕ, zero, suc, ◌+◌, ◌≤◌, ◌<◌, length, get_or, set, drop, replicate}
use Rattle.std.proofs.Common.{ap, ◌∙◌, add-one, le_antisymm, arith, length-append, length-drop, drop-cons}
use Rattle.std.proofs.lemmas.List.{length-replicate, get_or-replicate, set_at}
use Rattle.std.proofs.Math.ListN.{get_or-append}

zero-last : (i : ℕ) (rest : List ℕ) → replicate i 0 ++ 0 ∷ rest ≡ replicate (suc i) 0 ++ rest
zero-last zero rest = refl
zero-last (suc i) rest = ap (λ (l : List ℕ). 0 ∷ l) (zero-last i rest)

-- one turn of the loop that does it
pub clear_step : (rows now : List ℕ) (i : ℕ) → now ≡ replicate i 0 ++ drop i rows → i < length rows → set now i 0 ≡ replicate (i + 1) 0 ++ drop (i + 1) rows
clear_step rows now i e h =
    rw (e, drop-cons rows i 0 h, set_at (replicate i 0) (get_or rows i 0) (drop (suc i) rows) 0 i (length-replicate i 0), add-one) (zero-last i (drop (suc i) rows))

pub clear-end : (rows now : List ℕ) (n i : ℕ) → i ≤ n → n ≤ i → now ≡ replicate i 0 ++ drop i rows → now ≡ replicate n 0 ++ drop n rows
clear-end rows now n i h l e = e ∙ ap (λ (k : ℕ). replicate k 0 ++ drop k rows) (le_antisymm h l)

pub length-clear : (rows : List ℕ) (n : ℕ) → n ≤ length rows → length (replicate n 0 ++ drop n rows) ≡ length rows
length-clear rows n h = simp (length-append, length-replicate, length-drop) (omega arith)

pub clear_at : (rows : List ℕ) (n i : ℕ) → i < n → get_or (replicate n 0 ++ drop n rows) i 0 ≡ 0
clear_at rows n i h = get_or-append (replicate n 0) (drop n rows) 0 i (rw (length-replicate {A = ℕ} n 0) h) ∙ get_or-replicate n i 0 0 h
