-- What the functions that compare need: slices, the loop over the parts, the longest part, the runs behind the header, the whole. Assumes nothing.
use mathlib.Core.Path.{◌≡◌, refl, sym, ap, ◌∙◌}
use mathlib.Core.Bool.{Bool, true, false, not, ◌&&◌}
use mathlib.Core.List.{List, [], ◌∷◌, ◌++◌}
use Prim.Native.Nat.{ℕ, suc, ◌+◌, ◌-◌, ◌*◌, ◌≤◌, ◌<◌}
use native.Mathlib.Nat.{zero-add}
use native.Mathlib.Omega.{arith}
use lib.Dec.{eqb}
use lib.Pointwise.{pointwise}
use Rattle.std.proofs.Common.{drop-cons}
use Rattle.std.proofs.lemmas.List.{length-take-le}
use lib.ListN.{length, get_or, take, drop, length-append}
use lib.Seq.{take_at}
use borrow.Author.Tests.{not-true, not-false}
use Rattle.paper.specs.Limits.{max_events, rule_size, condition_size, word_size}
use Rattle.general.specs.Comparing.{same_bytes, same-shorter, stands_at, stands-append, stands-whole, Stand, stand-fits, stand-more, stand-not}
use Rattle.general.specs.Lists.{total-same, flat, length-flat, length-parts, packed, length-packed}
use Rattle.general.specs.Writing.{Fits, Wrote, wrote-length, wrote-whole}
use Rattle.wire.specs.Wire.{bytes16, bytes32}
use Rattle.wire.specs.Laws.{length-bytes16, length-bytes32}
use Rattle.flat_chart.specs.Chart.{Fit}
use Rattle.flat_chart.specs.Flat.{FlatChart}
use Rattle.book.specs.ImageOf.{header_bytes, rule_bytes, condition_bytes, length-rule, length-condition}
use Rattle.derived.specs.Parts.{completion_at, CompletionsIn, completions-in, text_at, condition_part, TextsIn, texts-in}
use Rattle.derived.specs.Derived.{stage_rules}
use Rattle.derived.specs.Sizes.{completion_size, completions_size, length-completion, completion-le, texts_size, text-le}
use Rattle.derived.proofs.Sizes.{length-text}
use Rattle.deriver.specs.Deriving.{derived_image, book_runs, bytes-are, image-runs}
use Rattle.derived_same.specs.Same.{part_room, runs_behind, RunsReady}

-- ---- bytes compared as slices

same-stands : (s : List ℕ) (at : ℕ) (run : List ℕ) → at + length run ≤ length s → pointwise eqb (take (length run) (drop at s)) run ≡ stands_at s at run
unfolding stands_at
same-stands s at [] h = refl
same-stands s at (x ∷ run) h =
    let l : at < length s = omega arith in
    rw (drop-cons s at 0) (ap (λ (b : Bool). eqb (get_or s at 0) x && b) (same-stands s (suc at) run (omega arith)))

pub slice-stands : (s part : List ℕ) (at count : ℕ) {b : Bool} → at + count ≤ length s → count ≤ length part
    → b ≡ pointwise eqb (take (at + count - at) (drop at s)) (take count part) → b ≡ stands_at s at (take count part)
slice-stands s part at count h k p =
    let z : at + count - at ≡ count = omega arith in
    let l : length (take count part) ≡ count = length-take-le count part k in
    p ∙ rw z (rw l at (same-stands s at (take count part) (omega arith)))

-- ---- a loop over parts: one is written at the start of a buffer that holds it, and stands in the image or does not

module _ (parts : ℕ → List ℕ) (n : ℕ) (s : List ℕ) (at k next : ℕ) (i : Stand parts n s at k next) (h : k < n) where
  module _ {part after : List ℕ} {count : ℕ} (short : length (parts k) ≤ length part) (w : Wrote part 0 (parts k) count after) where
    counted : count ≡ length (parts k)
    counted = w.place ∙ zero-add (length (parts k))

    taken : take count after ≡ parts k
    taken = rw (counted, wrote-whole w (omega arith)) (take_at (parts k) _ _ refl)

    pub part-room : Fits s at (flat n parts) → (next + count ≤ length s) × (count ≤ length after)
    part-room f = let q : count ≡ length (parts k) = counted in (omega (arith, stand-fits _ _ _ _ _ _ i h f), omega (arith, wrote-length w))

    module _ {b : Bool} (e : b ≡ stands_at s next (take count after)) where
      pub part-not : b ≡ false → false ≡ stands_at s at (flat n parts)
      part-not t = stand-not _ _ _ _ _ _ i b h (e ∙ rw taken) (ap not t)

      pub part-more : b ≡ true → Stand parts n s at (k + 1) (next + count)
      part-more t = stand-more _ _ _ _ _ _ i (next + count) b h (e ∙ rw taken) (ap not t) (rw counted)

-- ---- no part is longer than the room

module _ (n : ℕ) (few : n ≤ max_events) (k : ℕ) (h : k < n) where
  pub completion-short : (i x r : List ℕ) → CompletionsIn n i x r → length (packed rule_bytes (completion_at n i x r k)) ≤ part_room
  unfolding completion_at
  completion-short i x r ok =
      omega (
        arith,
        length-packed rule_bytes rule_size length-rule (completion_at n i x r k),
        length-completion n k h (get_or i k 0) (get_or x k 0) (get_or r k 0) (ok.inclusions k h) (ok.responses k h),
        completion-le n k h (get_or i k 0) (get_or x k 0) (get_or r k 0) (ok.inclusions k h) (ok.responses k h),
      )

  pub text-short : (t m : List ℕ) → TextsIn n t m → length (packed bytes16 (text_at n t m k)) ≤ part_room
  unfolding text_at
  text-short t m ok =
      omega (
        arith,
        length-packed bytes16 word_size length-bytes16 (text_at n t m k),
        length-text n k (get_or t k 0) (get_or m k 0) (ok.conditions k h) (ok.milestones k h),
        text-le n (get_or t k 0) (get_or m k 0) (ok.conditions k h) (ok.milestones k h),
      )

pub stage-short : (k : ℕ) → length (packed rule_bytes (stage_rules k)) ≤ part_room
stage-short k = omega (arith, length-packed rule_bytes rule_size length-rule (stage_rules k))

pub record-short : (n : ℕ) (t m : List ℕ) (k : ℕ) → length (packed condition_bytes (condition_part n t m k)) ≤ part_room
unfolding condition_part
record-short n t m k = omega (arith, length-packed condition_bytes condition_size length-condition (condition_part n t m k))

-- ---- the runs behind the header

module _ (n completions : ℕ) (t r m i x image part : List ℕ) (g : RunsReady n completions t r m i x image part) where
  abbrev completion_run : List ℕ
  completion_run = packed rule_bytes (flat n (completion_at n i x r))

  abbrev stage_run : List ℕ
  stage_run = packed rule_bytes (flat n stage_rules)

  abbrev condition_run : List ℕ
  condition_run = packed condition_bytes (flat n (condition_part n t m))

  abbrev word_run : List ℕ
  word_run = packed bytes16 (flat n (text_at n t m))

  completions-long : length completion_run ≡ 10 * completions
  unfolding completion_at completions_size
  completions-long =
      length-packed rule_bytes rule_size length-rule (flat n (completion_at n i x r))
      ∙ rw (
        length-flat n (completion_at n i x r),
        g.sized,
        total-same n (λ e. length (completion_at n i x r e)) (λ e. completion_size e (get_or i e 0) (get_or x e 0) (get_or r e 0))
            (λ e h. length-completion n e h (get_or i e 0) (get_or x e 0) (get_or r e 0) (g.inclusions.inclusions e h) (g.inclusions.responses e h)),
      )

  stages-long : length stage_run ≡ 20 * n
  stages-long = length-packed rule_bytes rule_size length-rule (flat n stage_rules) ∙ rw (length-parts n 2 stage_rules (λ e. refl)) (omega arith)

  records-long : length condition_run ≡ 8 * n
  unfolding condition_part
  records-long = length-packed condition_bytes condition_size length-condition (flat n (condition_part n t m)) ∙ rw (length-parts n 1 (condition_part n t m) (λ e. refl)) (omega arith)

  pub runs-reach : 32 + 10 * completions + 20 * n + 8 * n + length word_run ≤ length image
  unfolding runs_behind
  runs-reach =
      omega (
        arith,
        g.fits,
        length-append completion_run (stage_run ++ (condition_run ++ word_run)),
        length-append stage_run (condition_run ++ word_run),
        length-append condition_run word_run,
        completions-long,
        stages-long,
        records-long,
      )

  pub runs-fits-1 : Fits image 32 completion_run
  runs-fits-1 = omega (arith, runs-reach, completions-long)

  pub runs-fits-2 : Fits image (32 + 10 * completions) stage_run
  runs-fits-2 = omega (arith, runs-reach, stages-long)

  pub runs-fits-3 : Fits image (32 + 10 * completions + 20 * n) condition_run
  runs-fits-3 = omega (arith, runs-reach, records-long)

  pub runs-fits-4 : Fits image (32 + 10 * completions + 20 * n + 8 * n) word_run
  runs-fits-4 = omega (arith, runs-reach)

  by_runs : stands_at image 32 (runs_behind n t r m i x)
      ≡ (stands_at image 32 completion_run
      && (stands_at image (32 + 10 * completions) stage_run
      && (stands_at image (32 + 10 * completions + 20 * n) condition_run && stands_at image (32 + 10 * completions + 20 * n + 8 * n) word_run)))
  unfolding runs_behind
  by_runs =
      stands-append image 32 completion_run (stage_run ++ (condition_run ++ word_run))
      ∙ rw (
        completions-long,
        stands-append image (32 + 10 * completions) stage_run (condition_run ++ word_run),
        stages-long,
        stands-append image (32 + 10 * completions + 20 * n) condition_run word_run,
        records-long,
      )

  -- the four answers, joined from the left
  pub runs-all : (two three : Bool) {all : Bool} → two ≡ (stands_at image 32 completion_run && stands_at image (32 + 10 * completions) stage_run)
      → three ≡ (two && stands_at image (32 + 10 * completions + 20 * n) condition_run)
      → all ≡ (three && stands_at image (32 + 10 * completions + 20 * n + 8 * n) word_run) → all ≡ stands_at image 32 (runs_behind n t r m i x)
  runs-all two three p q u =
      rw (u, q, p) (
      from_left (stands_at image 32 completion_run) (stands_at image (32 + 10 * completions) stage_run) (stands_at image (32 + 10 * completions + 20 * n) condition_run)
      (stands_at image (32 + 10 * completions + 20 * n + 8 * n) word_run)
      ∙ sym by_runs)
    where
      from_left : (a b c d : Bool) → (((a && b) && c) && d) ≡ (a && (b && (c && d)))
      from_left false b c d = refl
      from_left true false c d = refl
      from_left true true c d = refl

-- a test and a second one behind `&&`
pub then-and : {s t a b v : Bool} → a ≡ s → a ≡ true → b ≡ t → v ≡ b → v ≡ (s && t)
then-and p h q e = e ∙ q ∙ rw (← p, h)

pub else-and : {s a v : Bool} (t : Bool) → a ≡ s → a ≡ false → v ≡ a → v ≡ (s && t)
else-and t p h e = e ∙ h ∙ rw (← p, h)

-- ---- the whole, of a fit chart

module _ (c : FlatChart) (fit : Fit c) (s w : ℕ) (ps : s ≡ completions_size c.count c.includes c.excludes c.responses) (pw : w ≡ texts_size c.count c.conditions c.milestones) where
  abbrev head : List ℕ
  head = header_bytes c.count (4 * c.count) (s + 2 * c.count) c.count w

  abbrev behind : List ℕ
  behind = runs_behind c.count c.conditions c.responses c.milestones c.includes c.excludes

  in_two : derived_image c ≡ head ++ behind
  unfolding book_runs runs_behind
  in_two = image-runs c fit s w ps pw

  head-long : length head ≡ 32
  unfolding header_bytes
  head-long = length-packed bytes32 4 length-bytes32 _

  module _ (image : List ℕ) where
    pub same-long : (length image ≡ 32 + 10 * (s + 2 * c.count) + 8 * c.count + 2 * w → ⊥) → false ≡ same_bytes image (derived_image c)
    same-long h = sym (same-shorter image (derived_image c) (λ q. h (q ∙ bytes-are c fit s w ps pw)))

    module _ (l : length image ≡ 32 + 10 * (s + 2 * c.count) + 8 * c.count + 2 * w) where
      pub same-ready : (part : List ℕ) → length part ≡ part_room → RunsReady c.count s c.conditions c.responses c.milestones c.includes c.excludes image part
      same-ready part k =
          record {
            few = fit.few;
            inclusions = completions-in c fit;
            texts = texts-in c fit;
            sized = ps;
            long = k;
            fits = omega (arith, bytes-are c fit s w ps pw, ap length in_two, length-append head behind, head-long);
          }

      by-head : same_bytes image (derived_image c) ≡ (stands_at image 0 head && stands_at image 32 behind)
      by-head =
          sym (stands-whole image (derived_image c) (l ∙ sym (bytes-are c fit s w ps pw)))
          ∙ ap (stands_at image 0) in_two
          ∙ stands-append image 0 head behind
          ∙ rw (head-long, zero-add 32)

      module _ (part after : List ℕ) (next : ℕ) (k : length part ≡ part_room) (v : Wrote part 0 head next after) where
        next-is : next ≡ 32
        next-is = v.place ∙ rw (zero-add (length head)) head-long

        pub head-room : (0 + next ≤ length image) × (next ≤ length after)
        head-room = let q : next ≡ 32 = next-is in (omega arith, omega (arith, wrote-length v))

        taken-head : take next after ≡ head
        taken-head = rw (v.place ∙ zero-add (length head), wrote-whole v (omega (arith, head-long))) (take_at head _ _ refl)

        module _ (a : Bool) (p : a ≡ stands_at image 0 (take next after)) where
          head-stands : a ≡ stands_at image 0 head
          head-stands = p ∙ rw taken-head

          pub same_not : not a ≡ true → false ≡ same_bytes image (derived_image c)
          same_not h = sym (by-head ∙ rw (← head-stands, not-true a h))

          pub same_whole : not a ≡ false → (b : Bool) → b ≡ stands_at image 32 behind → b ≡ same_bytes image (derived_image c)
          same_whole h b q = sym (by-head ∙ rw (← head-stands, not-false a h, ← q))
