-- What each writer leaves behind, in the form in which the code meets it, and runs behind runs. Assumes nothing.
use Rattle.std.specs.Prelude.{ℕ, zero, suc, ◌+◌, ◌/◌, ◌%◌, ◌≤◌, ◌<◌, ◌≡◌, refl, ltb, length}
use Rattle.std.proofs.Common.{sym, ◌∙◌, arith, lt-ltb, le-ltb, ltb-false}
use Rattle.std.proofs.Math.Path.{ap}
use mathlib.Core.List.{List, [], ◌∷◌, ◌++◌}
use Rattle.std.proofs.lemmas.List.Edits.{sets-eq}
use Rattle.std.proofs.Math.Seq.{take-length}
use Rattle.std.proofs.lemmas.Slice.{put_mid-paste}
use borrow.Rule.Slice.PartMut.{put_mid}
use Rattle.general.specs.Cases.{cases}
use Rattle.general.specs.Lists.{flat, packed}
use Rattle.general.specs.Writing.{Fits, Wrote, then, fits-first, fits-then}
use Rattle.derived.specs.WritingLoops.{Upto, upto-start, upto-length, upto-fits, upto-more, upto_done}
use Rattle.writing.specs.Text.{digit, decimal_in, decimal}

-- there is space for the text behind the place at
pub record Space (room : List ℕ) (at : ℕ) (text : List ℕ) : Type 0 where
  pub fits : Fits room at text

-- ---- a text copied into the room

pub copied : (room s after : List ℕ) (at k : ℕ) → Space room at s → k ≡ length s → after ≡ s → Wrote room at s (at + length s) (put_mid at k room after)
copied room s after at k f e c =
    record {
      place = refl;
      holds = put_mid-paste at k room after s (length s) c (sym e) refl ∙ rw take-length (sym (sets-eq s room at f.fits));
    }

-- ---- a number, digit behind digit

-- more room for digits than n has changes nothing
enough : (k j n : ℕ) → n < k → n < j → decimal_in k n ≡ decimal_in j n
unfolding decimal_in
enough zero j n h l = absurd (omega arith)
enough (suc k) zero n h l = absurd (omega arith)
enough (suc k) (suc j) n h l =
    cases (ltb n 10) (λ b. rw b) (λ b. let m : 10 ≤ n = ltb-false n 10 b in rw (b, enough k j (n / 10) (omega arith) (omega arith)))

last-digit : (k n : ℕ) → 10 ≤ n → decimal_in (suc k) n ≡ decimal_in k (n / 10) ++ (digit (n % 10) ∷ [])
unfolding decimal_in
last-digit k n h = rw (le-ltb n 10 h)

module _ (n : ℕ) where
  decimal-one : n < 10 → decimal n ≡ digit n ∷ []
  unfolding decimal decimal_in
  decimal-one h = rw (lt-ltb n 10 h)

  decimal-more : 10 ≤ n → decimal n ≡ decimal (n / 10) ++ (digit (n % 10) ∷ [])
  unfolding decimal
  decimal-more h = last-digit n n h ∙ ap (λ (l : List ℕ). l ++ (digit (n % 10) ∷ [])) (enough n (suc (n / 10)) (n / 10) (omega arith) (omega arith))

  module _ (room : List ℕ) (at : ℕ) (space : Space room at (decimal n)) where
    pub digit-fits : n < 10 → at < length room
    digit-fits h = let l : length (decimal n) ≡ 1 = ap length (decimal-one h) in let f : Fits room at (decimal n) = space.fits in omega arith

    module _ (h : 10 ≤ n) where
      split : Fits room at (decimal (n / 10) ++ (digit (n % 10) ∷ []))
      split = rw (decimal-more h) at space.fits

      pub digits-fit : Space room at (decimal (n / 10))
      digits-fit = record { fits = fits-first room at (decimal (n / 10)) _ split }

      pub last_fits : (next : ℕ) (after : List ℕ) → Wrote room at (decimal (n / 10)) next after → next < length after
      last_fits next after w = let f : Fits after next (digit (n % 10) ∷ []) = fits-then w _ split in omega arith

  module _ {room after : List ℕ} {at next : ℕ} where
    pub digit-wrote : n < 10 → Wrote room at (digit n ∷ []) next after → Wrote room at (decimal n) next after
    digit-wrote h w = rw (decimal-one h) w

    pub last-wrote : 10 ≤ n → (p : ℕ) (r : List ℕ) → Wrote room at (decimal (n / 10)) p r → Wrote r p (digit (n % 10) ∷ []) next after → Wrote room at (decimal n) next after
    last-wrote h p r v w = rw (decimal-more h) (then v w)

-- ---- runs behind runs: the latest first

pub fits₁ : {room : List ℕ} {at : ℕ} {a : List ℕ} (x : List ℕ) → Space room at (a ++ x) → Space room at a
fits₁ {room} {at} {a} x f = record { fits = fits-first room at a x f.fits }

pub last₂ : {room after : List ℕ} {at next : ℕ} {a : List ℕ} → Wrote room at a next after → (b : List ℕ) → Space room at (a ++ b) → Space after next b
last₂ w b f = record { fits = fits-then w b f.fits }

module _ {room r₁ : List ℕ} {at p₁ : ℕ} {a : List ℕ} where
  pub fits₂ : Wrote room at a p₁ r₁ → (b x : List ℕ) → Space room at (a ++ (b ++ x)) → Space r₁ p₁ b
  fits₂ w b x f = fits₁ x (last₂ w (b ++ x) f)

  module _ {r₂ : List ℕ} {p₂ : ℕ} {b : List ℕ} where
    pub last₃ : Wrote r₁ p₁ b p₂ r₂ → Wrote room at a p₁ r₁ → (c : List ℕ) → Space room at (a ++ (b ++ c)) → Space r₂ p₂ c
    last₃ v w c f = last₂ v c (last₂ w (b ++ c) f)

    pub fits₃ : Wrote r₁ p₁ b p₂ r₂ → Wrote room at a p₁ r₁ → (c x : List ℕ) → Space room at (a ++ (b ++ (c ++ x))) → Space r₂ p₂ c
    fits₃ v w c x f = fits₁ x (last₃ v w (c ++ x) f)

    module _ {r₃ : List ℕ} {p₃ : ℕ} {c : List ℕ} where
      pub wrote₃ : Wrote r₂ p₂ c p₃ r₃ → Wrote r₁ p₁ b p₂ r₂ → Wrote room at a p₁ r₁ → Wrote room at (a ++ (b ++ c)) p₃ r₃
      wrote₃ u v w = then w (then v u)

      pub last₄ : Wrote r₂ p₂ c p₃ r₃ → Wrote r₁ p₁ b p₂ r₂ → Wrote room at a p₁ r₁ → (d : List ℕ) → Space room at (a ++ (b ++ (c ++ d))) → Space r₃ p₃ d
      last₄ u v w d f = last₂ u d (last₃ v w (c ++ d) f)

      pub fits₄ : Wrote r₂ p₂ c p₃ r₃ → Wrote r₁ p₁ b p₂ r₂ → Wrote room at a p₁ r₁ → (d x : List ℕ) → Space room at (a ++ (b ++ (c ++ (d ++ x)))) → Space r₃ p₃ d
      fits₄ u v w d x f = fits₁ x (last₄ u v w (d ++ x) f)

      module _ {r₄ : List ℕ} {p₄ : ℕ} {d : List ℕ} where
        pub wrote₄ : Wrote r₃ p₃ d p₄ r₄ → Wrote r₂ p₂ c p₃ r₃ → Wrote r₁ p₁ b p₂ r₂ → Wrote room at a p₁ r₁ → Wrote room at (a ++ (b ++ (c ++ d))) p₄ r₄
        wrote₄ t u v w = then w (then v (then u t))

        pub last₅ : Wrote r₃ p₃ d p₄ r₄ → Wrote r₂ p₂ c p₃ r₃ → Wrote r₁ p₁ b p₂ r₂ → Wrote room at a p₁ r₁
            → (e : List ℕ) → Space room at (a ++ (b ++ (c ++ (d ++ e)))) → Space r₄ p₄ e
        last₅ t u v w e f = last₂ t e (last₄ u v w (d ++ e) f)

        pub fits₅ : Wrote r₃ p₃ d p₄ r₄ → Wrote r₂ p₂ c p₃ r₃ → Wrote r₁ p₁ b p₂ r₂ → Wrote room at a p₁ r₁
            → (e x : List ℕ) → Space room at (a ++ (b ++ (c ++ (d ++ (e ++ x))))) → Space r₄ p₄ e
        fits₅ t u v w e x f = fits₁ x (last₅ t u v w (e ++ x) f)

        module _ {r₅ : List ℕ} {p₅ : ℕ} {e : List ℕ} where
          pub wrote₅ : Wrote r₄ p₄ e p₅ r₅ → Wrote r₃ p₃ d p₄ r₄ → Wrote r₂ p₂ c p₃ r₃ → Wrote r₁ p₁ b p₂ r₂ → Wrote room at a p₁ r₁
              → Wrote room at (a ++ (b ++ (c ++ (d ++ e)))) p₅ r₅
          wrote₅ s t u v w = then w (then v (then u (then t s)))

          pub last₆ : Wrote r₄ p₄ e p₅ r₅ → Wrote r₃ p₃ d p₄ r₄ → Wrote r₂ p₂ c p₃ r₃ → Wrote r₁ p₁ b p₂ r₂ → Wrote room at a p₁ r₁
              → (f : List ℕ) → Space room at (a ++ (b ++ (c ++ (d ++ (e ++ f))))) → Space r₅ p₅ f
          last₆ s t u v w f h = last₂ s f (last₅ t u v w (e ++ f) h)

          pub wrote₆ : {r₆ : List ℕ} {p₆ : ℕ} {f : List ℕ} → Wrote r₅ p₅ f p₆ r₆ → Wrote r₄ p₄ e p₅ r₅ → Wrote r₃ p₃ d p₄ r₄ → Wrote r₂ p₂ c p₃ r₃
              → Wrote r₁ p₁ b p₂ r₂ → Wrote room at a p₁ r₁ → Wrote room at (a ++ (b ++ (c ++ (d ++ (e ++ f))))) p₆ r₆
          wrote₆ q s t u v w = then w (then v (then u (then t (then s q))))

-- ---- a text that is another

pub fits-as : {room : List ℕ} {at : ℕ} {x y : List ℕ} → x ≡ y → Space room at x → Space room at y
fits-as e f = rw e at f

pub wrote_as : {room after : List ℕ} {at next : ℕ} {x y : List ℕ} → y ≡ x → Wrote room at x next after → Wrote room at y next after
wrote_as e w = rw e w

-- ---- a loop over the numbers below n that writes a line for each

abbrev one : ℕ → List ℕ
one x = x ∷ []

plain : (l : List ℕ) → packed one l ≡ l
unfolding packed
plain [] = refl
plain (x ∷ l) = ap (λ (k : List ℕ). x ∷ k) (plain l)

module _ (g : ℕ → List ℕ) (n : ℕ) (room₀ : List ℕ) (at : ℕ) where
  abbrev pub Lines : ℕ → ℕ → List ℕ → Type 0
  Lines = Upto one g n room₀ at

  pub lines_start : Lines 0 at room₀
  lines_start = upto-start one g n room₀ at

  module _ (k next : ℕ) (room : List ℕ) (inv : Lines k next room) where
    pub lines-length : length room ≡ length room₀
    lines-length = upto-length one g n room₀ at k next room inv

    pub lines-fits : k < n → Space room₀ at (flat n g) → Space room next (g k)
    lines-fits h l = record { fits = rw (plain (g k)) at (upto-fits one g n room₀ at k next room inv h (rw (plain (flat n g)) l.fits)) }

    pub lines_more : (next' : ℕ) (room' : List ℕ) → k < n → Wrote room next (g k) next' room' → Lines (k + 1) next' room'
    lines_more next' room' h w = upto-more one g n room₀ at k next room inv next' room' h (rw (plain (g k)) w)

    pub lines-done : n ≤ k → Wrote room₀ at (flat n g) next room
    lines-done h = rw (plain (flat n g)) at (upto_done one g n room₀ at k next room inv h)
