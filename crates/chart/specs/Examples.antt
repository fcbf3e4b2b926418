-- The paper's whole chart byte for byte, its settled examples P7 and P8 (as request (xii) has it), and charts with roles, by computation. Assumes nothing.
use Rattle.std.specs.Prelude.{ℕ, ◌-◌, ◌≡◌, refl, List, [], ◌∷◌, replicate}
use Rattle.paper.specs.Limits.{max_events, bad_node, group_flags}
use Rattle.paper.specs.Answers.{answer, granted}
use Rattle.sets.specs.Set.{has, collect}
use Rattle.general.specs.Below.{some, first, tally}
use Rattle.general.specs.Tables.{tabulate}
use Rattle.wire.specs.Wire.{u16_at}
use Rattle.closure.specs.Closure.{within}
use Rattle.chart.specs.Flat.{Reading}
use Rattle.records.specs.Image.{out_of_range, misplaced, bad_node_at, bad_relation_at}
use Rattle.nesting.specs.Nesting.{parent, nested, at_or_above, on_loop_at, is_group, event_node, flagged_group_at}
use Rattle.flattening.specs.Flattening.{leads, related, entered, flat_set, flat_table, names_at, named, flat_roles, role_table, flat_chart, flagged, start_marking}
use Rattle.chart.specs.Reading.{refused, reading_relations, reading_nodes, reading}

-- "One chart, whole": event 0 is a condition of 1 and has 1 as response; 1 excludes 0 and is pending
abbrev pub whole_chart : List ℕ
whole_chart =
    0x02 ∷ 0x00 ∷ 0x03 ∷ 0x00 ∷ 0x08 ∷ 0x00 ∷ 0x10 ∷ 0x00
    ∷ 0xFF ∷ 0xFF ∷ 0x04 ∷ 0x00 ∷ 0xFF ∷ 0xFF ∷ 0x06 ∷ 0x00
    ∷ 0x00 ∷ 0x00 ∷ 0x01 ∷ 0x00 ∷ 0x00 ∷ 0x00
    ∷ 0x00 ∷ 0x00 ∷ 0x01 ∷ 0x00 ∷ 0x01 ∷ 0x00
    ∷ 0x01 ∷ 0x00 ∷ 0x00 ∷ 0x00 ∷ 0x04 ∷ 0x00 ∷ []

abbrev pub whole_reading : Reading
whole_reading =
    record {
      answer = granted;
      chart = record {
        count = 2;
        conditions = 0 ∷ 1 ∷ replicate (max_events - 2) 0;
        responses = 2 ∷ replicate (max_events - 1) 0;
        milestones = replicate max_events 0;
        includes = replicate max_events 0;
        excludes = 0 ∷ 1 ∷ replicate (max_events - 2) 0;
        roles = replicate max_events 0;
      };
      marking = record { executed = 0; pending = 2; included = 3 };
    }

-- P7: group 0 with members 1, 2 is condition of 3
abbrev pub group_chart : List ℕ
group_chart =
    4 ∷ 0 ∷ 1 ∷ 0 ∷ 8 ∷ 0 ∷ 24 ∷ 0
    ∷ 255 ∷ 255 ∷ 0 ∷ 0 ∷ 0 ∷ 0 ∷ 4 ∷ 0 ∷ 0 ∷ 0 ∷ 4 ∷ 0 ∷ 255 ∷ 255 ∷ 4 ∷ 0
    ∷ 0 ∷ 0 ∷ 3 ∷ 0 ∷ 0 ∷ 0 ∷ []

-- P8: node 3 includes that group, excludes node 1. By request (xii) "example P8 becomes an accepted chart"
abbrev pub both_chart : List ℕ
both_chart =
    4 ∷ 0 ∷ 2 ∷ 0 ∷ 8 ∷ 0 ∷ 24 ∷ 0
    ∷ 255 ∷ 255 ∷ 0 ∷ 0 ∷ 0 ∷ 0 ∷ 4 ∷ 0 ∷ 0 ∷ 0 ∷ 4 ∷ 0 ∷ 255 ∷ 255 ∷ 4 ∷ 0
    ∷ 3 ∷ 0 ∷ 0 ∷ 0 ∷ 3 ∷ 0
    ∷ 3 ∷ 0 ∷ 1 ∷ 0 ∷ 4 ∷ 0 ∷ []

-- event 2 includes 0 and 1 and excludes 0
abbrev pub both_reading : Reading
both_reading =
    record {
      answer = granted;
      chart = record {
        count = 3;
        conditions = replicate max_events 0;
        responses = replicate max_events 0;
        milestones = replicate max_events 0;
        includes = 0 ∷ 0 ∷ 3 ∷ replicate (max_events - 3) 0;
        excludes = 0 ∷ 0 ∷ 1 ∷ replicate (max_events - 3) 0;
        roles = replicate max_events 0;
      };
      marking = record { executed = 0; pending = 0; included = 7 };
    }

-- the same group names role 3, node 1 role 0, and no other node a role
abbrev pub role_chart : List ℕ
role_chart =
    4 ∷ 0 ∷ 1 ∷ 0 ∷ 8 ∷ 0 ∷ 24 ∷ 0
    ∷ 255 ∷ 255 ∷ 0 ∷ 8 ∷ 0 ∷ 0 ∷ 4 ∷ 1 ∷ 0 ∷ 0 ∷ 4 ∷ 0 ∷ 255 ∷ 255 ∷ 4 ∷ 0
    ∷ 0 ∷ 0 ∷ 3 ∷ 0 ∷ 0 ∷ 0 ∷ []

-- that group with a state of 2, and node 1 with one of 8
abbrev pub flagged_role_chart : List ℕ
flagged_role_chart =
    4 ∷ 0 ∷ 0 ∷ 0 ∷ 8 ∷ 0 ∷ 24 ∷ 0
    ∷ 255 ∷ 255 ∷ 2 ∷ 8 ∷ 0 ∷ 0 ∷ 4 ∷ 1 ∷ 0 ∷ 0 ∷ 4 ∷ 0 ∷ 255 ∷ 255 ∷ 4 ∷ 0 ∷ []

abbrev pub bad_role_chart : List ℕ
bad_role_chart =
    4 ∷ 0 ∷ 0 ∷ 0 ∷ 8 ∷ 0 ∷ 24 ∷ 0
    ∷ 255 ∷ 255 ∷ 2 ∷ 8 ∷ 0 ∷ 0 ∷ 8 ∷ 1 ∷ 0 ∷ 0 ∷ 4 ∷ 0 ∷ 255 ∷ 255 ∷ 4 ∷ 0 ∷ []

pub record Examples : Type 0 where
  pub whole : reading whole_chart ≡ whole_reading
  pub p7-granted : (reading group_chart).answer ≡ granted
  -- events 0 and 1 are conditions of 2
  pub p7-conditions : (reading group_chart).chart.conditions ≡ 0 ∷ 0 ∷ 3 ∷ replicate (max_events - 3) 0
  pub p8 : reading both_chart ≡ both_reading
  -- upper bits are no bad record, on a group either: events 0 and 1 have the group's role, event 0 its own too, event 2 is open to everyone
  pub roles-granted : (reading role_chart).answer ≡ granted
  pub roles : (reading role_chart).chart.roles ≡ 9 ∷ 8 ∷ replicate (max_events - 2) 0
  -- the lower byte is judged as before
  pub flagged-group : reading flagged_role_chart ≡ refused (answer group_flags 0 0)
  pub bad-state : reading bad_role_chart ≡ refused (answer bad_node 1 0)

pub examples : Examples
unfolding out_of_range misplaced bad_node_at bad_relation_at parent nested at_or_above on_loop_at is_group event_node flagged_group_at leads related entered flat_set flat_table names_at named flat_roles role_table flat_chart flagged start_marking reading_relations reading_nodes reading has collect some first tally tabulate u16_at within
examples = record { whole = refl; p7-granted = refl; p7-conditions = refl; p8 = refl; roles-granted = refl; roles = refl; flagged-group = refl; bad-state = refl }
