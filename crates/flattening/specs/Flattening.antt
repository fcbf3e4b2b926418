-- Flattening as document 001's Definition 2 has it: rel♭ is the nesting relation, rel, and the nesting relation turned round. The flat chart and the start marking
-- that an image names. Assumes nothing.
use Rattle.std.specs.Prelude.{ℕ, ◌<◌, ◌≡◌, Bool, true, cond, ◌&&◌, ◌||◌, List, eqb, ltb}
use Rattle.paper.specs.Limits.{max_events, max_roles}
use Rattle.sets.specs.Set.{has, collect}
use Rattle.general.specs.Below.{some}
use Rattle.general.specs.Tables.{tabulate}
use Rattle.flat_chart.specs.Chart.{Kind, condition, response, milestone, include, exclude}
use Rattle.flat_chart.specs.Flat.{FlatChart}
use Rattle.graph.specs.Flat.{Marking}
use Rattle.records.specs.Image.{nodes, relations, from_of, to_of, kind_of, flags_of, roles_at}
use Rattle.nesting.specs.Nesting.{AtOrAbove, at_or_above, event_count, event_node}

-- "Kinds: 0 condition, 1 response, 2 milestone, 3 include, 4 exclude"
abbrev pub kind_number : Kind → ℕ
kind_number condition = 0
kind_number response = 1
kind_number milestone = 2
kind_number include = 3
kind_number exclude = 4

module _ (image : List ℕ) where
  -- "Event e has a relation to event f exactly if the image has one of that kind from e or a group above it to f or a group above it."
  pub record Flattened (κ : Kind) (e f : ℕ) : Type 0 where
    pub relation : ℕ
    pub exists : relation < relations image
    pub kind : kind_of image relation ≡ kind_number κ
    pub source : AtOrAbove image (event_node image e) (from_of image relation)
    pub target : AtOrAbove image (event_node image f) (to_of image relation)

  -- the test of it, record by record
  unfoldable pub leads : ℕ → ℕ → ℕ → ℕ → Bool
  leads κ e f k =
      eqb (kind_of image k) κ && (at_or_above image (event_node image e) (from_of image k) && at_or_above image (event_node image f) (to_of image k))

  unfoldable pub related : ℕ → ℕ → ℕ → Bool
  related κ e f = some (relations image) (leads κ e f)

-- a set of the flat chart holds, for conditions and milestones, who holds the event back, and for the others, what the event reaches
abbrev pub holds_back : ℕ → Bool
holds_back κ = eqb κ (kind_number condition) || eqb κ (kind_number milestone)

module _ (image : List ℕ) where
  unfoldable pub entered : ℕ → ℕ → ℕ → Bool
  entered κ e f = cond (holds_back κ) (related image κ f e) (related image κ e f)

  -- the set of event e, and no set past the count
  unfoldable pub flat_set : ℕ → ℕ → ℕ
  flat_set κ e = cond (ltb e (event_count image)) (collect (event_count image) (entered κ e)) 0

  unfoldable pub flat_table : Kind → List ℕ
  flat_table κ = tabulate max_events (flat_set (kind_number κ))

  -- Request (i): "Document 001 gives a flattened event the roles of all groups above it as well." Event e names the role r.
  pub record NamesRole (e r : ℕ) : Type 0 where
    pub node : ℕ
    pub exists : node < nodes image
    pub above : AtOrAbove image (event_node image e) node
    pub names : has (roles_at image node) r ≡ true

  -- the test of it, node by node
  unfoldable pub names_at : ℕ → ℕ → ℕ → Bool
  names_at e r g = at_or_above image (event_node image e) g && has (roles_at image g) r

  unfoldable pub named : ℕ → ℕ → Bool
  named e r = some (nodes image) (names_at e r)

  -- the role byte of event e, 0 past the count
  unfoldable pub flat_roles : ℕ → ℕ
  flat_roles e = cond (ltb e (event_count image)) (collect max_roles (named e)) 0

  unfoldable pub role_table : List ℕ
  role_table = tabulate max_events flat_roles

  unfoldable pub flat_chart : FlatChart
  flat_chart =
      record {
        count = event_count image;
        conditions = flat_table condition;
        responses = flat_table response;
        milestones = flat_table milestone;
        includes = flat_table include;
        excludes = flat_table exclude;
        roles = role_table;
      }

  -- "flags: 1 executed, 2 pending, 4 included": the events whose flags have the digit
  unfoldable pub flagged : ℕ → ℕ
  flagged digit = collect (event_count image) (λ e. has (flags_of image (event_node image e)) digit)

  -- "the start marking, which the events' flags name"
  unfoldable pub start_marking : Marking
  start_marking = record { executed = flagged 0; pending = flagged 1; included = flagged 2 }
