-- Bytes that are put after others are put after all of them. Assumes nothing.
use Rattle.std.proofs.Common.{ℕ, Bool, suc, ◌+◌, ◌≤◌, ◌<◌, ◌≡◌, cond, ltb, true, false, List, [], ◌∷◌, ◌++◌, length, slice_set, refl, sym, ◌∙◌, arith, length-append, lt-ltb, le-ltb, Result, Ok, Err, IfOk, OnErr}
use Rattle.std.proofs.lemmas.Result.{IfOk-weaker, on_err_weaker}
use Rattle.printing.specs.Filling.{room, place_behind, filled, place_after, Put, Full}

behind-within : {at : ℕ} → suc at < room → place_behind at ≡ suc at
unfolding place_behind
behind-within {at} h = rw (lt-ltb (suc at) room h)

behind-last : {at : ℕ} → room ≤ suc at → place_behind at ≡ 0
unfolding place_behind
behind-last {at} h = rw (le-ltb (suc at) room h)

filled-more : (at : ℕ) (bs cs buffer : List ℕ) → filled at (bs ++ cs) buffer ≡ filled (place_after at bs) cs (filled at bs buffer)
unfolding filled place_after
filled-more at [] cs buffer = refl
filled-more at (b ∷ bs) cs buffer = filled-more (place_behind at) bs cs (slice_set buffer at b)

after-more : (at : ℕ) (bs cs : List ℕ) → place_after at (bs ++ cs) ≡ place_after (place_after at bs) cs
unfolding place_after
after-more at [] cs = refl
after-more at (b ∷ bs) cs = after-more (place_behind at) bs cs

pub put-none : {at : ℕ} {old : List ℕ} → Put 0 at at old old
unfolding filled place_after
put-none = record { bytes = []; few = omega arith; place = refl; buffer = refl }

pub put-within : {at next : ℕ} {old new : List ℕ} (b : ℕ) → suc at < room → next ≡ suc at → new ≡ slice_set old at b → Put 1 at next old new
unfolding filled place_after
put-within {at} b h n e = record { bytes = b ∷ []; few = omega arith; place = n ∙ sym (behind-within h); buffer = e }

pub put-last : {at : ℕ} {old new : List ℕ} (b : ℕ) → room ≤ suc at → new ≡ slice_set old at b → Put 1 at 0 old new
unfolding filled place_after
put-last {at} b h e = record { bytes = b ∷ []; few = omega arith; place = sym (behind-last h); buffer = e }

pub put-then : {m k at p q : ℕ} {old mid new : List ℕ} → Put m at p old mid → Put k p q mid new → Put (m + k) at q old new
put-then {at = at} {old = old} a b =
    record {
      bytes = a.bytes ++ b.bytes;
      few = rw (length-append a.bytes b.bytes) (omega (arith, a.few, b.few));
      place = rw (after-more at a.bytes b.bytes, ← a.place) b.place;
      buffer = rw (filled-more at a.bytes b.bytes old, ← a.buffer, ← a.place) b.buffer;
    }

pub put-more : {m k at next : ℕ} {old new : List ℕ} → Put m at next old new → m ≤ k → Put k at next old new
put-more a h = record { bytes = a.bytes; few = omega (arith, a.few, h); place = a.place; buffer = a.buffer }

-- ---- the place behind is no further than the bytes

one-or-first : (b : Bool) (at : ℕ) → cond b (suc at) 0 ≤ suc at
one-or-first true at = omega arith
one-or-first false at = omega arith

behind-near : (at : ℕ) → place_behind at ≤ suc at
unfolding place_behind
behind-near at = one-or-first (ltb (suc at) room) at

after-near : (at : ℕ) (bs : List ℕ) → place_after at bs ≤ at + length bs
unfolding place_after
after-near at [] = omega arith
after-near at (b ∷ bs) = omega (arith, after-near (place_behind at) bs, behind-near at)

pub full-last : {at : ℕ} {old new : List ℕ} (b : ℕ) → room ≤ suc at → new ≡ slice_set old at b → Full 1 at old new
unfolding put-last
full-last b h e = record { put = put-last b h e; whole = omega (arith, h) }

pub full-then : {m k at p : ℕ} {old mid new : List ℕ} → Put m at p old mid → Full k p mid new → Full (m + k) at old new
unfolding put-then
full-then {at = at} a f =
    record {
      put = put-then a f.put;
      whole = rw (length-append a.bytes f.put.bytes) (omega (arith, after-near at a.bytes, a.place, f.whole));
    }

pub full-more : {m k at : ℕ} {old new : List ℕ} → Full m at old new → m ≤ k → Full k at old new
unfolding put-more
full-more f h = record { put = put-more f.put h; whole = f.whole }

-- ---- of what a call handed back

pub on-err : {T E P : Type 0} (r : Result T E) → P → OnErr r P
on-err (Ok _) p = tt
on-err (Err _) p = p

module _ {E : Type 0} {m at p : ℕ} {old mid : List ℕ} (k most : ℕ) (new : List ℕ) (r : Result ℕ E) (a : Put m at p old mid) (h : m + k ≤ most) where
  pub put-last-call : IfOk r (λ next. Put k p next mid new) → IfOk r (λ next. Put most at next old new)
  put-last-call b = IfOk-weaker r (λ next. Put k p next mid new) (λ next. Put most at next old new) (λ next b. put-more (put-then a b) h) b

  pub full-last-call : OnErr r (Full k p mid new) → OnErr r (Full most at old new)
  full-last-call f = on_err_weaker r (λ f. full-more (full-then a f) h) f
