-- What is read from an image field by field is what its book says. Assumes nothing.
use Rattle.std.specs.Prelude.{◌≡◌, refl, List, [], ◌∷◌, ℕ, zero, suc, ◌+◌, ◌-◌, ◌*◌, ◌≤◌, ◌<◌, length, get_or, take, drop}
use Rattle.std.proofs.Common.{sym, ap, ◌∙◌, arith, length-drop, ext_get_or, get_or-take, get_or-drop, length-take-le}
use Rattle.paper.specs.Limits.{word_size}
use Rattle.general.specs.Tables.{tabulate, length-tabulate, get_or-tabulate}
use Rattle.wire.specs.Wire.{u16_at}
use Rattle.book.specs.Book.{Condition, no_rule, no_condition, rule_of, condition_of, text_of}
use Rattle.book.specs.Image.{rules_in, conditions_in, words_in, rule_place, condition_place, word_place, rule_from, condition_from, book_of}

-- n words from the byte `at`
unfoldable pub words_from : List ℕ → ℕ → ℕ → List ℕ
words_from s at zero = []
words_from s at (suc n) = u16_at s at ∷ words_from s (at + word_size) n

-- the text of a condition of start and count
abbrev pub text_from : List ℕ → Condition → List ℕ
text_from s c = words_from s (word_place (rules_in s) (conditions_in s) c.start) c.count

pub length-words : (s : List ℕ) (at n : ℕ) → length (words_from s at n) ≡ n
unfolding words_from
length-words s at zero = refl
length-words s at (suc n) = rw (length-words s (at + word_size) n)

pub get_or-words : (s : List ℕ) (at n k : ℕ) → k < n → get_or (words_from s at n) k 0 ≡ u16_at s (at + word_size * k)
unfolding words_from
get_or-words s at zero k h = absurd (omega arith)
get_or-words s at (suc n) zero h = ap (u16_at s) (omega arith)
get_or-words s at (suc n) (suc k) h = get_or-words s (at + word_size) n k (omega arith) ∙ ap (u16_at s) (omega arith)

-- ---- a loop that goes up over the words

pub words_more : (s : List ℕ) (at n i : ℕ) → i < n
    → words_from s (at + word_size * i) (n - i) ≡ u16_at s (at + word_size * i) ∷ words_from s (at + word_size * (i + 1)) (n - (i + 1))
unfolding words_from
words_more s at n i h =
    let p : n - i ≡ suc (n - (i + 1)) = omega arith in
    let q : at + word_size * i + word_size ≡ at + word_size * (i + 1) = omega arith in
    ap (words_from s (at + word_size * i)) p ∙ ap (λ (k : ℕ). u16_at s (at + word_size * i) ∷ words_from s k (n - (i + 1))) q

pub words-none : (s : List ℕ) (at n i : ℕ) → n ≤ i → words_from s (at + word_size * i) (n - i) ≡ []
unfolding words_from
words-none s at n i h = let p : n - i ≡ 0 = omega arith in ap (words_from s (at + word_size * i)) p

pub words-all : (s : List ℕ) (at n : ℕ) → words_from s (at + word_size * 0) (n - 0) ≡ words_from s at n
words-all s at n = let p : at + word_size * 0 ≡ at = omega arith in let q : n - 0 ≡ n = omega arith in ap (λ (k : ℕ). words_from s k (n - 0)) p ∙ ap (words_from s at) q

-- ---- the book

pub rules-count : (s : List ℕ) → length (book_of s).rules ≡ rules_in s
unfolding book_of
rules-count s = length-tabulate (rules_in s) (λ r. rule_from s (rule_place r))

pub rule-read : (s : List ℕ) (r : ℕ) → r < rules_in s → rule_of (book_of s) r ≡ rule_from s (rule_place r)
unfolding book_of
rule-read s r h = get_or-tabulate (rules_in s) (λ r. rule_from s (rule_place r)) r no_rule h

pub condition-read : (s : List ℕ) (c : ℕ) → c < conditions_in s → condition_of (book_of s) c ≡ condition_from s (condition_place (rules_in s) c)
unfolding book_of
condition-read s c h = get_or-tabulate (conditions_in s) (λ c. condition_from s (condition_place (rules_in s) c)) c no_condition h

-- a part of the words
words-span : (s : List ℕ) (x : Condition) → x.start + x.count ≤ words_in s → take x.count (drop x.start (book_of s).words) ≡ text_from s x
unfolding book_of
words-span s x l =
    ext_get_or 0 (take n (drop k (tabulate W f))) (text_from s x) (long ∙ sym (length-words s (word_place R Q k) n))
    (λ i h. let j : i < n = rw long at h in
    get_or-take n (drop k (tabulate W f)) i 0 j ∙ get_or-drop k (tabulate W f) i 0 ∙ get_or-tabulate W f (k + i) 0 (omega arith)
    ∙ ap (u16_at s) (omega arith) ∙ sym (get_or-words s (word_place R Q k) n i j))
  where
    R : ℕ
    R = rules_in s

    Q : ℕ
    Q = conditions_in s

    W : ℕ
    W = words_in s

    k : ℕ
    k = x.start

    n : ℕ
    n = x.count

    f : ℕ → ℕ
    f w = u16_at s (word_place (rules_in s) (conditions_in s) w)

    long : length (take n (drop k (tabulate W f))) ≡ n
    long = length-take-le n (drop k (tabulate W f)) (simp (length-drop, length-tabulate) (omega arith))

-- the text of condition c, where it lies inside W
pub text-read : (s : List ℕ) (c : ℕ) → c < conditions_in s
    → (condition_from s (condition_place (rules_in s) c)).start + (condition_from s (condition_place (rules_in s) c)).count ≤ words_in s
    → text_of (book_of s) c ≡ text_from s (condition_from s (condition_place (rules_in s) c))
unfolding text_of
text-read s c h l = ap (λ (x : Condition). take x.count (drop x.start (book_of s).words)) (condition-read s c h) ∙ words-span s (condition_from s (condition_place (rules_in s) c)) l
