-- What a step over the nodes does to each record, to the list of changes and to the parents. Assumes nothing.
use Prim.Native.Nat.{ℕ, zero, suc, ◌<◌}
use Rattle.std.specs.Prelude.{◌≡◌, false, not, ◌&&◌, eqb, ltb, length, get_or}
use Rattle.std.proofs.Math.Path.{refl, ap, fun_ext}
use Rattle.std.proofs.Common.{sym, ap₂, ◌∙◌, arith, ltb-true, eq-eqb, eqb-true}
use mathlib.Core.List.{List, []}
use Rattle.std.proofs.Math.ListN.{length-append}
use Rattle.std.proofs.lemmas.Bool.{not-false}
use Rattle.general.specs.Cases.{cases, both}
use Rattle.general.specs.Below.{tally}
use Rattle.general.specs.Tables.{tabulate, length-tabulate, get_or-tabulate, tabulate-same}
use Rattle.general.specs.Lists.{flat, flat-none, tabulated}
use Rattle.records.specs.Image.{nodes}
use Rattle.nesting.specs.Nesting.{parent, nested, on_loop_at, is_group}
use Rattle.mending.specs.Records.{Node, Records, count, node_in, relation_in, no_node, chart_image}
use Rattle.mending.specs.Mending.{alter, differs, alteration_at, alterations, parent_mended, flags_mended, lowest_of_loop, loop_mended, group_mended, bad_number, kept_at}
use Rattle.mending.specs.Mending.{step5, parents_mended, nodes_known, loops_mended, groups_mended, mended}
use Rattle.mending.specs.Images.{image-nodes, image-parent}

-- ---- record by record

pub same-not-differs : (x : Node) → differs x x ≡ false
unfolding differs
same-not-differs x = rw (eq-eqb x.parent x.parent refl, eq-eqb x.flags x.flags refl)

pub differs-not-same : (x y : Node) → differs x y ≡ false → x ≡ y
unfolding differs
differs-not-same x y h =
    let t = both (eqb x.parent y.parent) (eqb x.flags y.flags) (not-false _ h) in
    ap₂ (λ (p s : ℕ). record { parent = p; flags = s }) (eqb-true _ _ t.0) (eqb-true _ _ t.1)

module _ (f : ℕ → Node → Node) (r : Records) where
  pub alter-count : count (alter f r) ≡ count r
  unfolding alter
  alter-count = length-tabulate (count r) (λ i. f i (node_in r i))

  pub alter-node : (i : ℕ) → i < count r → node_in (alter f r) i ≡ f i (node_in r i)
  unfolding alter
  alter-node i h = get_or-tabulate (count r) (λ i. f i (node_in r i)) i no_node h

  pub alter-none : ((i : ℕ) → i < count r → f i (node_in r i) ≡ node_in r i) → alter f r ≡ r
  unfolding alter
  alter-none h = ap (λ (l : List Node). record { nodes = l; relations = r.relations }) (tabulated no_node r.nodes (λ i. f i (node_in r i)) h)

  pub alterations-none : (step : ℕ) → ((i : ℕ) → i < count r → f i (node_in r i) ≡ node_in r i) → alterations step f r ≡ []
  unfolding alterations alteration_at
  alterations-none step h = flat-none (count r) (alteration_at step f r) (λ i l. rw (h i l, same-not-differs (node_in r i)))

  pub alter-same : (g : ℕ → Node → Node) → ((i : ℕ) → i < count r → f i (node_in r i) ≡ g i (node_in r i)) → alter f r ≡ alter g r
  unfolding alter
  alter-same g h = ap (λ (l : List Node). record { nodes = l; relations = r.relations }) (tabulate-same (count r) (λ i. f i (node_in r i)) (λ i. g i (node_in r i)) h)

-- two steps are one
pub alter-twice : (f g : ℕ → Node → Node) (r : Records) → alter g (alter f r) ≡ alter (λ i x. g i (f i x)) r
unfolding alter
alter-twice f g r =
    let t : List Node = tabulate (count r) (λ i. f i (node_in r i)) in
    ap (λ (l : List Node). record { nodes = l; relations = r.relations })
    (rw (length-tabulate (count r) (λ i. f i (node_in r i)))
    (tabulate-same (count r) (λ i. g i (get_or t i no_node)) (λ i. g i (f i (node_in r i))) (λ i h. ap (g i) (get_or-tabulate (count r) (λ i. f i (node_in r i)) i no_node h))))

-- ---- no step adds or drops a node, and only the last drops a relation

module _ (r : Records) where
  pub counted1 : count (parents_mended r) ≡ count r
  counted1 = alter-count (parent_mended r) r

  pub counted2 : count (nodes_known r) ≡ count r
  counted2 = alter-count flags_mended (parents_mended r) ∙ counted1

  pub counted3 : count (loops_mended r) ≡ count r
  counted3 = alter-count (loop_mended (nodes_known r)) (nodes_known r) ∙ counted2

  pub counted4 : count (groups_mended r) ≡ count r
  counted4 = alter-count (group_mended (loops_mended r)) (loops_mended r) ∙ counted3

  pub relations-stay : (groups_mended r).relations ≡ r.relations
  unfolding alter
  relations-stay = refl

  -- as many relations stay as have no bad number
  pub kept-count : (j : ℕ) → length (flat j (kept_at r)) ≡ tally j (λ k. not (bad_number (count r) (relation_in r k)))
  unfolding flat tally kept_at
  kept-count zero = refl
  kept-count (suc j) =
      length-append (flat j (kept_at r)) (kept_at r j) ∙ rw (kept-count j) (cases (bad_number (count r) (relation_in r j)) (λ t. rw t (omega arith)) (λ t. rw t (omega arith)))

-- ---- the parents in the image

pub parent-of : (r : Records) (a b : ℕ) → parent (chart_image r) a b ≡ (ltb a (count r) && ltb b (count r) && eqb (node_in r a).parent b)
unfolding parent
parent-of r a b =
    rw (image-nodes r) (cases (ltb a (count r)) (λ t. rw (t, image-parent r a (ltb-true a (count r) t))) (λ t. rw t))

-- a step that keeps the parents keeps them in the image
pub alter-parents : (f : ℕ → Node → Node) (r : Records) → ((i : ℕ) → i < count r → (f i (node_in r i)).parent ≡ (node_in r i).parent)
    → (a b : ℕ) → parent (chart_image (alter f r)) a b ≡ parent (chart_image r) a b
alter-parents f r h a b =
    parent-of (alter f r) a b ∙ rw (alter-count f r) (cases (ltb a (count r))
    (λ t. let l = ltb-true a (count r) t in rw (alter-node f r a l, h a l)) (λ t. rw t)) ∙ sym (parent-of r a b)

groups-parents : (r : Records) (i : ℕ) (x : Node) → (group_mended r i x).parent ≡ x.parent
unfolding group_mended
groups-parents r i x = cases (is_group (chart_image r) i) (λ t. rw t) (λ t. rw t)

dropped-parents : (r : Records) (a b : ℕ) → parent (chart_image (step5 r)) a b ≡ parent (chart_image r) a b
unfolding step5
dropped-parents r a b = parent-of (step5 r) a b ∙ sym (parent-of r a b)

-- no step after the third changes a parent
pub parents-stay : (r : Records) (a b : ℕ) → parent (chart_image (mended r)) a b ≡ parent (chart_image (loops_mended r)) a b
unfolding mended
parents-stay r a b =
    dropped-parents (groups_mended r) a b
    ∙ alter-parents (group_mended (loops_mended r)) (loops_mended r) (λ i h. groups-parents (loops_mended r) i (node_in (loops_mended r) i)) a b

pub nodes-stay : (r : Records) → nodes (chart_image (mended r)) ≡ nodes (chart_image (loops_mended r))
unfolding mended step5
nodes-stay r = image-nodes (mended r) ∙ counted4 r ∙ sym (image-nodes (loops_mended r) ∙ counted3 r)

-- two images with the same nodes and parents
module _ (s t : List ℕ) (n : nodes s ≡ nodes t) (p : (a b : ℕ) → parent s a b ≡ parent t a b) where
  parents : parent s ≡ parent t
  parents = fun_ext (λ a. fun_ext (λ b. p a b))

  pub nested_same : (a b : ℕ) → nested s a b ≡ nested t a b
  unfolding nested
  nested_same a b = rw (n, parents)

  pub on-loop-same : (a : ℕ) → on_loop_at s a ≡ on_loop_at t a
  unfolding on_loop_at
  on-loop-same a = nested_same a a

  pub lowest-same : (i : ℕ) → lowest_of_loop s i ≡ lowest_of_loop t i
  unfolding lowest_of_loop
  lowest-same i = rw (on-loop-same i, fun_ext (nested_same i))

  pub group-same : (i : ℕ) → is_group s i ≡ is_group t i
  unfolding is_group
  group-same i = rw (n, parents)
