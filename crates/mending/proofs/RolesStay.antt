-- Mending leaves every node's roles, the upper byte of its flags, as they were. Assumes nothing.
use Rattle.std.specs.Prelude.{ℕ, ◌/◌, ◌<◌, ◌≡◌}
use Rattle.std.proofs.Common.{ap, ◌∙◌, arith}
use Rattle.paper.specs.Limits.{flags_byte}
use Rattle.general.specs.Cases.{cases}
use Rattle.nesting.specs.Nesting.{is_group}
use Rattle.mending.specs.Records.{Node, Records, count, node_in, chart_image}
use Rattle.mending.specs.Mending.{alter, missing, parent_mended, step1, known_flags, flags_mended, step2, cut_by, lowest_of_loop, loop_mended, step3, group_mended, step5, mended}
use Rattle.mending.specs.Altering.{alter-count, alter-node}

abbrev roles_of : Node → ℕ
roles_of x = x.flags / flags_byte

-- a step over the nodes that keeps a node's roles
stays : (f : ℕ → Node → Node) → ((i : ℕ) (x : Node) → roles_of (f i x) ≡ roles_of x) → (r : Records) (i : ℕ) → i < count r → roles_of (node_in (alter f r) i) ≡ roles_of (node_in r i)
stays f k r i h = ap roles_of (alter-node f r i h) ∙ k i (node_in r i)

parent-stays : (r : Records) (i : ℕ) (x : Node) → roles_of (parent_mended r i x) ≡ roles_of x
unfolding parent_mended
parent-stays r i x = cases (missing (count r) x) (λ t. rw t) (λ t. rw t)

flags-stay : (i : ℕ) (x : Node) → roles_of (flags_mended i x) ≡ roles_of x
unfolding flags_mended known_flags
flags-stay i x = omega arith

cut-stays : (r : Records) (i : ℕ) (x : Node) → roles_of (loop_mended r i x) ≡ roles_of x
unfolding cut_by
cut-stays r i x = cases (lowest_of_loop (chart_image r) i) (λ t. rw t) (λ t. rw t)

group-stays : (r : Records) (i : ℕ) (x : Node) → roles_of (group_mended r i x) ≡ roles_of x
unfolding group_mended
group-stays r i x = cases (is_group (chart_image r) i) (λ t. rw t (omega arith)) (λ t. rw t)

pub roles-stay : (r : Records) (i : ℕ) → i < count r → (node_in (mended r) i).flags / flags_byte ≡ (node_in r i).flags / flags_byte
unfolding mended step5
roles-stay r i h =
    let a : Records = step1 r in
    let b : Records = step2 a in
    let c : Records = step3 b in
    let p : i < count a = rw (alter-count (parent_mended r) r) h in
    let q : i < count b = rw (alter-count flags_mended a) p in
    let s : i < count c = rw (alter-count (loop_mended b) b) q in
    stays (group_mended c) (group-stays c) c i s ∙ stays (loop_mended b) (cut-stays b) b i q ∙ stays flags_mended flags-stay a i p ∙ stays (parent_mended r) (parent-stays r) r i h
