-- What the listing hands back, and what it leaves in the room. Assumes nothing.
use Rattle.std.specs.Prelude.{ℕ, ◌+◌, ◌*◌, ◌≤◌, ◌<◌, ◌≡◌, refl, cond, List, ◌++◌, ltb, leb, take, drop, replicate}
use Rattle.std.proofs.Common.{sym, ◌∙◌, arith, length-append, length-drop, take_all, length-take-le}
use Rattle.std.proofs.Math.Nat.{zero-add}
use Rattle.std.proofs.Math.ListN.{length}
use Rattle.std.proofs.lemmas.List.{length-replicate}
use Rattle.std.proofs.Math.Seq.{take-append_seam}
use borrow.Author.Tests.{eq-eqb, ne_eqb, lt-ltb, le-ltb, ltb-false, leb-true}
use Rattle.paper.specs.Limits.{book_header, word_size}
use Rattle.paper.specs.declared.Answer.{Answer}
use Rattle.general.specs.Cases.{cases, coincide}
use Rattle.wire.specs.Laws.{u32-first}
use Rattle.flat_chart.specs.Flat.{FlatChart}
use Rattle.flat_chart.specs.Numbers.{flat_of}
use Rattle.flat_chart.specs.Chart.{Fit}
use Rattle.flat_chart.specs.Tests.{fit_chart}
use Rattle.flat_chart.specs.Fitness.{tested-fit}
use Rattle.chart.specs.Reading.{reading}
use Rattle.chart.specs.Numbers.{reading_of}
use Rattle.chart.specs.declared.Reading.{Reading}
use Rattle.book.specs.Image.{condition_place, book_of}
use Rattle.book.specs.ImageOf.{book-of-image}
use Rattle.book.specs.Judging.{counts_of}
use Rattle.book.specs.WellFormed.{WellFormed}
use Rattle.book.specs.declared.Counts.{Counts}
use Rattle.derived.specs.Derived.{derived_book}
use Rattle.deriver.specs.Formed.{derived-well}
use Rattle.deriver.specs.Deriving.{derived_image, deriving_answer, derived_room}
use Rattle.general.specs.Writing.{Wrote, wrote-whole}
use Rattle.writing.specs.Writers.{Space}
use Rattle.single_lines.specs.Text.{refusal_line}
use Rattle.listing.specs.Limits.{listing_input, listing_book, max_listing}
use Rattle.listing.specs.Text.{book_text, unless_refused, chart_text, image_text, listing_text}
use Rattle.listing.specs.Bounds.{chart-most, image-text-most, listing-most}

-- a room that may be too short for the text is left as it was, and the length given is 0
unfoldable pub listed_length : List ℕ → List ℕ → ℕ
listed_length input room = cond (ltb (length room) max_listing) 0 (length (listing_text input))

-- "Room past what is written stays as it was."
unfoldable pub listed_room : List ℕ → List ℕ → List ℕ
listed_room input room = cond (ltb (length room) max_listing) room (listing_text input ++ drop (length (listing_text input)) room)

-- two results that meet the call's contract coincide
pub list-determined : (input room : List ℕ) (r s : ℕ) (a b : List ℕ) → r ≡ listed_length input room → s ≡ listed_length input room
    → a ≡ listed_room input room → b ≡ listed_room input room → (r ≡ s) × (a ≡ b)
list-determined input room r s a b p q x y = (coincide p q, coincide x y)

-- what is handed back is never more than the room of a caller whose room is long enough
pub listed-most : (input room : List ℕ) (n : ℕ) → n ≡ listed_length input room → n ≤ max_listing
unfolding listed_length
listed-most input room n e = cases (ltb (length room) max_listing) (λ z. rw (e, z) (omega arith)) (λ z. rw (e, z) (listing-most input))

pub room-kept : (input room : List ℕ) → length (listed_room input room) ≡ length room
unfolding listed_room
room-kept input room =
    cases (ltb (length room) max_listing) (λ z. rw z)
    (λ z. let m : length (listing_text input) ≤ max_listing = listing-most input in
    let l : max_listing ≤ length room = ltb-false (length room) max_listing z in
    rw z (length-append (listing_text input) (drop (length (listing_text input)) room) ∙ rw (length-drop (length (listing_text input)) room) (omega arith)))

module _ (input room after : List ℕ) (big : length room ≡ max_listing) (n : ℕ) (e : n ≡ listed_length input room) (f : after ≡ listed_room input room) where
  pub listed-fits : n ≤ length after
  listed-fits = let m : n ≤ max_listing = listed-most input room n e in rw (f, room-kept input room, big) m

  pub listed-size : n ≡ length (take n after)
  listed-size = sym (length-take-le n after listed-fits)

-- a room for the longest text, as it is before
pub ready : length (replicate {A = ℕ} max_listing 0) ≡ max_listing
ready = length-replicate {A = ℕ} max_listing 0

-- ---- each return, as the code meets it

module _ (input room : List ℕ) where
  pub list-short : length room < max_listing → (0 ≡ listed_length input room) × (room ≡ listed_room input room)
  unfolding listed_length listed_room
  list-short h = let z = lt-ltb (length room) max_listing h in (rw z, rw z)

  module _ (big : max_listing ≤ length room) where
    listed : (image : List ℕ) → image ≡ take listing_input input → (next : ℕ) (after : List ℕ) → Wrote room 0 (image_text image) next after
        → (next ≡ listed_length input room) × (after ≡ listed_room input room)
    unfolding listed_length listed_room
    listed image e next after w =
        let z = le-ltb (length room) max_listing big in
        let v : Wrote room 0 (image_text (take listing_input input)) next after = rw e at w in
        let m : length (image_text (take listing_input input)) ≤ max_listing = image-text-most (take listing_input input) in
        (rw z (v.place ∙ zero-add _), rw z (wrote-whole v (omega arith)))

    pub list-whole : length input ≤ listing_input → (next : ℕ) (after : List ℕ) → Wrote room 0 (image_text input) next after
        → (next ≡ listed_length input room) × (after ≡ listed_room input room)
    list-whole h = listed input (sym (take_all listing_input input h))

    pub list-cut : (next : ℕ) (after : List ℕ) → Wrote room 0 (image_text (take listing_input input)) next after
        → (next ≡ listed_length input room) × (after ≡ listed_room input room)
    list-cut = listed (take listing_input input) refl

-- ---- an image: the reader's refusal, or its chart

module _ (image room : List ℕ) (big : max_listing ≤ length room) (r : Reading) (e : reading_of r ≡ reading image) where
  text_of : image_text image ≡ unless_refused r.answer (chart_text (flat_of r.chart))
  unfolding image_text
  text_of = rw (← e)

  module _ (z : r.answer.code ≡ 0 → ⊥) where
    refused-is : image_text image ≡ refusal_line r.answer
    refused-is = text_of ∙ rw (ne_eqb r.answer.code 0 z)

    pub read_fits : Space room 0 (refusal_line r.answer)
    read_fits = let m : length (image_text image) ≤ max_listing = image-text-most image in record { fits = rw (← refused-is) (omega arith) }

    pub read-wrote : (next : ℕ) (after : List ℕ) → Wrote room 0 (refusal_line r.answer) next after → Wrote room 0 (image_text image) next after
    read-wrote next after w = rw refused-is w

  pub image-wrote : r.answer.code ≡ 0 → (next : ℕ) (after : List ℕ) → Wrote room 0 (chart_text (flat_of r.chart)) next after → Wrote room 0 (image_text image) next after
  image-wrote z next after w = rw (text_of, eq-eqb r.answer.code 0 z) w

-- ---- a chart: the deriver's refusal, or its book

-- the room for the book, as it is before
pub blank : length (replicate {A = ℕ} listing_book 0) ≡ listing_book
blank = length-replicate {A = ℕ} listing_book 0

module _ (c : FlatChart) (room bytes after : List ℕ) (big : max_listing ≤ length room) (size : length bytes ≡ listing_book)
    (a : Answer) (p : a ≡ deriving_answer c (length bytes)) (q : after ≡ derived_room c bytes) where
  chart-of : chart_text c ≡ unless_refused a (book_text (derived_book c))
  unfolding chart_text
  chart-of = rw (p, size)

  most : length (chart_text c) ≤ max_listing
  most = chart-most c

  module _ (z : a.code ≡ 0 → ⊥) where
    derive-refused : chart_text c ≡ refusal_line a
    derive-refused = chart-of ∙ rw (ne_eqb a.code 0 z)

    pub derive-fits : Space room 0 (refusal_line a)
    derive-fits = let m : length (chart_text c) ≤ max_listing = most in record { fits = rw (← derive-refused) (omega arith) }

    pub derive-wrote : (next : ℕ) (end : List ℕ) → Wrote room 0 (refusal_line a) next end → Wrote room 0 (chart_text c) next end
    derive-wrote next end w = rw derive-refused w

  module _ (z : a.code ≡ 0) where
    text-is : chart_text c ≡ book_text (derived_book c)
    text-is = chart-of ∙ rw (eq-eqb a.code 0 z)

    pub record Derived : Type 0 where
      pub fit : Fit c
      pub fits : length (derived_image c) ≤ length bytes
      pub holds : after ≡ derived_image c ++ drop (length (derived_image c)) bytes

    derived : Derived
    unfolding deriving_answer derived_room
    derived =
        cases (fit_chart c)
        (λ f. cases (leb (length (derived_image c)) (length bytes))
        (λ l. record { fit = tested-fit c f; fits = leb-true _ _ l; holds = q ∙ rw (f, l) })
        (λ l. let o : a.code ≡ 15 = rw p (rw (f, l)) in absurd (omega arith)))
        (λ f. let o : a.code ≡ 14 = rw p (rw f) in absurd (omega arith))

    well : WellFormed (derived_image c)
    well = derived-well c derived.fit

    after-long : length (derived_image c) ≤ length after
    after-long = rw (derived.holds, length-append (derived_image c)) (omega arith)

    pub counts-long : book_header ≤ length after
    counts-long = let l : book_header ≤ length (derived_image c) = well.headed.long in let m : length (derived_image c) ≤ length after = after-long in omega arith

    counts-are : counts_of after ≡ counts_of (derived_image c)
    counts-are =
        let l : book_header ≤ length (derived_image c) = well.headed.long in
        let t : List ℕ = drop (length (derived_image c)) bytes in
        rw (
          derived.holds,
          u32-first (derived_image c) t 0 (omega arith),
          u32-first (derived_image c) t 4 (omega arith),
          u32-first (derived_image c) t 8 (omega arith),
          u32-first (derived_image c) t 12 (omega arith),
          u32-first (derived_image c) t 16 (omega arith),
        )

    module _ (h : Counts) (e : h ≡ counts_of after) where
      counted : h ≡ counts_of (derived_image c)
      counted = e ∙ counts-are

      pub end_is : condition_place h.rules h.conditions + word_size * h.words ≡ length (derived_image c)
      end_is = rw counted (sym well.headed.laid_out.whole)

      module _ (words : ℕ) (f : words ≡ condition_place h.rules h.conditions) where
        abbrev end : ℕ
        end = words + word_size * h.words

        pub end_fits : end ≤ length after
        end_fits = rw (f, end_is) after-long

        pub end-size : end ≡ length (take end after)
        end-size = sym (length-take-le end after end_fits)

        cut-is : take end after ≡ derived_image c
        cut-is = rw (f, end_is, derived.holds) (take-append_seam (derived_image c) (drop (length (derived_image c)) bytes))

        book-is : book_text (book_of (take end after)) ≡ chart_text c
        book-is = rw (cut-is, book-of-image (derived_book c)) (sym text-is)

        pub book-ready : WellFormed (take end after) × Space room 0 (book_text (book_of (take end after)))
        book-ready = (rw cut-is well, let m : length (chart_text c) ≤ max_listing = most in record { fits = rw book-is (omega arith) })

        pub chart-wrote : (next : ℕ) (last : List ℕ) → Wrote room 0 (book_text (book_of (take end after))) next last → Wrote room 0 (chart_text c) next last
        chart-wrote next last w = rw (← book-is) w
