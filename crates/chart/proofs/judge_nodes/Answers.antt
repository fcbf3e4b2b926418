use Rattle.std.proofs.Common.{refl, arith}
use Rattle.general.specs.Below.{tally-le}
use Rattle.nesting.specs.Tables.{is_event_in}
use Rattle.records.specs.Found.{found-some, found-none}
use Rattle.chart.proofs.Returns.{nodes-bad, nodes-loop, nodes-flags, nodes-many, nodes-on}
use Rattle.chart.proofs.judge_nodes.Goals as goal

pub returns-in-Some : goal.returns-in-Some
returns-in-Some c = let t = found-some _ _ c.in-Some.ensures in nodes-bad c.args.image.whole t.0 refl t.1

pub returns-in-Some-lowest_on_loop : goal.returns-in-Some-lowest_on_loop
returns-in-Some-lowest_on_loop c = let t = found-some _ _ c.in-Some-lowest_on_loop.ensures in nodes-loop c.args.image.whole refl (found-none _ _ c.in_default.ensures) t.0 refl t.1

pub returns-in-Some-first_flagged_group : goal.returns-in-Some-first_flagged_group
returns-in-Some-first_flagged_group c = let t = found-some _ _ c.in-Some-first_flagged_group.ensures in nodes-flags c.args.image.whole refl (found-none _ _ c.in_default.ensures) refl (found-none _ _ c.in_default-lowest_on_loop.ensures) c.groups_of-groups.ensures t.0 refl t.1

pub overflow_cast-result-then-events-gt-MAX_EVENTS : goal.overflow_cast-result-then-events-gt-MAX_EVENTS
overflow_cast-result-then-events-gt-MAX_EVENTS c = let w = c.args.image.whole.few in record { fits = omega (arith, tally-le c.args.image.nodes (is_event_in c.groups_of-groups.result)) }

pub returns-then-events-gt-MAX_EVENTS : goal.returns-then-events-gt-MAX_EVENTS
returns-then-events-gt-MAX_EVENTS c = nodes-many c.args.image.whole refl (found-none _ _ c.in_default.ensures) refl (found-none _ _ c.in_default-lowest_on_loop.ensures) c.groups_of-groups.ensures refl (found-none _ _ c.in_default-first_flagged_group.ensures) c.count_events-events.ensures refl c.if-events-gt-MAX_EVENTS.true

pub returns : goal.returns
returns c = nodes-on c.args.image.whole refl (found-none _ _ c.in_default.ensures) refl (found-none _ _ c.in_default-lowest_on_loop.ensures) c.groups_of-groups.ensures refl (found-none _ _ c.in_default-first_flagged_group.ensures) c.count_events-events.ensures c.if-events-gt-MAX_EVENTS.false c.judge_relations.ensures
