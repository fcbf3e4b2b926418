-- A law for each return of the functions that build an index. Assumes nothing.
use Rattle.std.specs.Prelude.{◌≡◌, List, ℕ, ◌≤◌, ◌<◌, ◌^◌, length}
use Rattle.std.proofs.Common.{sym, ap, ◌∙◌, arith}
use borrow.Author.Tests.{eq-eqb, ne_eqb, lt-ltb, le-ltb}
use Rattle.paper.specs.Limits.{index_room}
use Rattle.paper.specs.Answers.{answer, granted}
use Rattle.paper.specs.Refusals.{answer_of}
use Rattle.paper.specs.declared.Answer.{Answer}
use Rattle.paper.specs.declared.Refusal.{Refusal}
use Rattle.paper.specs.declared.Refusal.TheVariants.{IndexRoom}
use Rattle.general.specs.Writing.{Wrote, wrote-whole}
use Rattle.book.specs.Image.{rules_in, book_of}
use Rattle.book.specs.WellFormed.{WellFormed}
use Rattle.book.specs.declared.Counts.{Counts}
use Rattle.judge.specs.Checking.{book_answer, PassesWith, stages-many}
use Rattle.judge.proofs.Returns.{some-code}
use Rattle.index.specs.Index.{index-ends}
use Rattle.index.specs.Reading.{offset-small}
use Rattle.index.specs.Sizes.{start_from, Sized, StageCounts}
use Rattle.index.specs.Ready.{IndexReady, ready-sized, ready-length}
use Rattle.index_builder.specs.Building.{index_of, passes-zero, room_answer, building, built_room, granted-index, refused-index}

-- ---- behind 20 to 26

module _ (s : List ℕ) (h : Counts) (p : PassesWith s h) where
  pub counts-asks : (WellFormed s) × (h.rules ≡ rules_in s)
  counts-asks = (p.passes.formed, ap (λ (x : Counts). x.rules) p.counts)

  module _ (table : List ℕ) (common : ℕ) (t : StageCounts s table common) where
    pub index-ready : IndexReady s h table common
    index-ready = record { opened = record { formed = p.passes.formed; counts = p.counts }; acyclic = p.passes.acyclic; counted = t }

    pub index-sized : Sized h.stages table common
    index-sized = ready-sized s h table common index-ready

    module _ (need : ℕ) (n : need ≡ start_from h.stages table common h.stages) where
      pub need-is : need ≡ length (index_of s)
      need-is = n ∙ ready-length s h table common index-ready

      pub need-small : need < 2 ^ 32
      need-small = omega (arith, need-is, index-ends (book_of s), offset-small s p.passes.formed p.passes.acyclic (book_of s).stages (rw (stages-many s) (omega arith)))

-- ---- building

module _ (s room : List ℕ) where
  module _ (r : Refusal) where
    pub untouched : answer_of r ≡ building s (length room) → room ≡ built_room s room
    untouched e = sym (refused-index s room (λ z. some-code r (ap (λ (x : Answer). x.code) e ∙ z)))

    pub book-stops : answer_of r ≡ book_answer s → answer_of r ≡ building s (length room)
    unfolding building
    book-stops e = rw (← e, ne_eqb (answer_of r).code 0 (some-code r))

  module _ (h : Counts) (p : PassesWith s h) (need : ℕ) (n : need ≡ length (index_of s)) where
    then : building s (length room) ≡ room_answer s (length room)
    unfolding building
    then = rw (eq-eqb (book_answer s).code 0 (passes-zero s p.passes))

    pub build-narrow : length room < need → answer index_room need 0 ≡ building s (length room)
    unfolding room_answer
    build-narrow l = sym (then ∙ rw (← n, lt-ltb (length room) need l))

    pub narrow-kept : length room < need → room ≡ built_room s room
    narrow-kept l = untouched (IndexRoom need) (build-narrow l)

    module _ (l : need ≤ length room) where
      pub build-granted : granted ≡ building s (length room)
      unfolding room_answer
      build-granted = sym (then ∙ rw (← n, le-ltb (length room) need l))

      pub build-built : (next : ℕ) (exit : List ℕ) → Wrote room 0 (index_of s) next exit → exit ≡ built_room s room
      build-built next exit w = wrote-whole w (omega arith) ∙ sym (granted-index s room (ap (λ (v : Answer). v.code) (sym build-granted)))
