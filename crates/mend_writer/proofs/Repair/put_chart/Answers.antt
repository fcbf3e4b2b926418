use Rattle.std.proofs.Common.{arith}
use Rattle.mend_writer.specs.Bytes.{chart-fits-1, chart-fits-2, chart-fits-3, chart-wrote}
use Rattle.mend_writer.proofs.Repair.put_chart.Goals as goal

pub put_header-nodes-requires : goal.put_header-nodes-requires
put_header-nodes-requires c = let w = c.args.self.ready.whole in (w.few, omega arith, chart-fits-1 _ _ _ _ _ w c.args.self.stays c.requires)

pub put_nodes-relations-requires : goal.put_nodes-relations-requires
put_nodes-relations-requires c = chart-fits-2 _ _ _ _ _ c.args.self.ready.whole c.args.self.stays c.requires _ _ c.put_header-nodes.ensures

pub put_relations-requires : goal.put_relations-requires
put_relations-requires c = chart-fits-3 _ _ _ _ _ c.args.self.ready.whole c.args.self.stays c.requires _ _ c.put_header-nodes.ensures _ _ c.put_nodes-relations.ensures

pub returns : goal.returns
returns c = chart-wrote _ _ _ _ _ c.args.self.ready.whole c.args.self.stays c.requires _ _ c.put_header-nodes.ensures _ _ c.put_nodes-relations.ensures _ _ c.put_relations.ensures
