use Rattle.chart.proofs.Returns.{accepted, straight-right, room_for, ground-right, reading-granted}
use Rattle.chart.proofs.fill.Goals as goal

pub event_nodes-nodes-requires : goal.event_nodes-nodes-requires
event_nodes-nodes-requires c = let w = c.args.image.whole in (w.few, room_for (accepted _ c.requires.0) w c.groups_of-groups.ensures)

pub put_order-placed-requires : goal.put_order-placed-requires
put_order-placed-requires c = straight-right (accepted _ c.requires.0) c.args.image.whole

pub invariant_of-layout : goal.invariant_of-layout
invariant_of-layout c = record {
  known = ground-right (accepted _ c.requires.0) c.args.image.whole c.groups_of-groups.ensures c.count_events-events.ensures c.event_nodes-nodes.ensures;
  ordered = c.put_order-placed.ensures;
}

pub returns : goal.returns
returns c = reading-granted _ c.requires.1 c.requires.0 c.put_chart.ensures c.start_marking-out.ensures
