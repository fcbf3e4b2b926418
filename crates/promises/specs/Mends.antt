-- Request (xiii): mending a damaged chart. What is written is accepted, the list tells each change once and in order and can be undone, an accepted chart comes
-- out as it was, and the step on loops is the one that the request tells. Assumes nothing.
use Rattle.std.specs.Prelude.{ℕ, ◌/◌, ◌≤◌, ◌<◌, ◌≡◌, ◌↔◌, not, List, ◌++◌, length, drop}
use Rattle.std.proofs.Common.{ap, ◌∙◌}
use Rattle.paper.specs.Limits.{no_parent, flags_byte, mend_relation}
use Rattle.paper.specs.Answers.{granted}
use Rattle.general.specs.Below.{tally}
use Rattle.general.specs.Lists.{All}
use Rattle.nesting.specs.Nesting.{Nested}
use Rattle.chart.specs.Reading.{reading}
use Rattle.mending.specs.Records.{Records, count, relation_count, node_in, relation_in, records_of, chart_image}
use Rattle.mending.specs.Mending.{Change, Cuts, bad_number, step3, mended, changes}
use Rattle.mending.specs.Images.{Byte, records-back}
use Rattle.mending.specs.Cutting.{cut_nodes, cuts-one, one-a-loop}
use Rattle.mending.proofs.Cutting.{cuts-so, cut-lowest}
use Rattle.mending.proofs.RolesStay.{roles-stay}
use Rattle.mending.specs.Undoing.{undo}
use Rattle.mending.specs.Listing.{Rising, Listed, Tells}
use Rattle.mending.proofs.Listing.{changes-rising, changes-tell, told-listed, untouched-node, untouched-relation}
use Rattle.mend.specs.Calling.{mended_image, changes_of, list_bytes, mend_answer, mending, mended_room, changes_room}
use Rattle.mend.specs.Table.{Mendable, Written, Kept, mend-written, mend-kept}
use Rattle.mend.proofs.Table.{mend-granted}
use Rattle.mend.specs.Accepted.{mended-accepted, undone-image}
use Rattle.mend.proofs.Accepted.{accepted-call, again-call}

pub record Mending : Type 0 where
  -- "write one that is accepted and a list of the changes": what a granted call leaves in its rooms, and what the reader says of the chart
  pub written : (image chart list : List ℕ) → (mend_answer image (length chart) (length list)).code ≡ 0
      → Written image chart list × ((reading (mended_image image)).answer ≡ granted)
  -- granted exactly if the header passes, at most 256 events remain, and both rooms are long enough
  pub exactly : (image chart list : List ℕ) → ((mend_answer image (length chart) (length list)).code ≡ 0)
      ↔ (Mendable image × (length (mended_image image) ≤ length chart) × (length (list_bytes image) ≤ length list))
  -- "the number of entries, 0 if refused", and no byte of either room is written
  pub kept : (image chart list : List ℕ) → ((mend_answer image (length chart) (length list)).code ≡ 0 → ⊥) → Kept image chart list
  -- "The list has each change once, in that order, lowest record first", each with "the record as it stood before that step"
  pub order : (r : Records) → Rising (changes r)
  pub entries : (r : Records) → All (Tells r) (changes r)
  pub each : (r : Records) (c : Change) → Tells r c → Listed c (changes r)
  -- a node, or a relation, without an entry is as it was
  pub node : (r : Records) (i : ℕ) → i < count r → ((c : Change) → Listed c (changes r) → c.number ≡ i → c.step ≡ mend_relation) → node_in (mended r) i ≡ node_in r i
  pub relation : (r : Records) (k : ℕ) → k < relation_count r → ((c : Change) → Listed c (changes r) → c.step ≡ mend_relation → c.number ≡ k → ⊥)
      → relation_in (mended r) (tally k (λ j. not (bad_number (count r) (relation_in r j)))) ≡ relation_in r k
  -- undone from the last entry to the first, the list gives the damaged chart back
  pub undone : (image chart list : List ℕ) → All Byte image → (mend_answer image (length chart) (length list)).code ≡ 0
      → chart_image (undo (changes_of image) (records_of (mended_image image))) ≡ image
  -- "An accepted chart comes out with the same bytes and an empty list"
  pub accepted : (image chart list : List ℕ) → All Byte image → (reading image).answer.code ≡ 0 → length image ≤ length chart
      → (mending image (length chart) (length list) ≡ record { answer = granted; entries = 0 })
      × (mended_room image chart list ≡ image ++ drop (length image) chart) × (changes_room image chart list ≡ list)
  -- "mending the result changes nothing"
  pub again : (image chart list : List ℕ) → (mend_answer image (length chart) (length list)).code ≡ 0
      → (mending (mended_image image) (length chart) (length list) ≡ record { answer = granted; entries = 0 })
      × (mended_room (mended_image image) chart list ≡ mended_image image ++ drop (length (mended_image image)) chart) × (changes_room (mended_image image) chart list ≡ list)
  -- "while parents loop, the lowest node on a loop loses its parent": this ends with the records of step 3 and with nothing else, and takes no two parents from one loop
  pub loops : (r : Records) → count r ≤ no_parent → Cuts r (cut_nodes r) (step3 r)
  pub ends : (r s t : Records) (k l : List ℕ) → Cuts r k s → Cuts r l t → (k ≡ l) × (s ≡ t)
  pub one : (r : Records) (i j : ℕ) → i < count r → j < count r → (node_in (step3 r) i ≡ node_in r i → ⊥) → (node_in (step3 r) j ≡ node_in r j → ⊥)
      → Nested (chart_image r) i j → i ≡ j
  -- the upper byte of a node's flags, its roles, stays
  pub roles : (r : Records) (i : ℕ) → i < count r → (node_in (mended r) i).flags / flags_byte ≡ (node_in r i).flags / flags_byte

pub mends-as-promised : Mending
mends-as-promised =
    record {
      written = λ image chart list e. (mend-written image chart list e, mended-accepted image ((mend-granted image chart list).0 e).0);
      exactly = mend-granted;
      kept = mend-kept;
      order = changes-rising;
      entries = changes-tell;
      each = λ r c t. told-listed r t;
      node = untouched-node;
      relation = untouched-relation;
      undone = λ image chart list b e.
          ap (λ (r : Records). chart_image (undo (changes_of image) r)) (records-back (mended (records_of image)))
          ∙ undone-image image b ((mend-granted image chart list).0 e).0.header;
      accepted = accepted-call;
      again = λ image chart list e. let t = (mend-granted image chart list).0 e in again-call image chart list t.0 t.1;
      loops = cuts-so;
      ends = λ r s t k l a b. cuts-one a b;
      one = λ r i j h k a b w. one-a-loop (chart_image r) i j (cut-lowest r i h a) (cut-lowest r j k b) w;
      roles = roles-stay;
    }
