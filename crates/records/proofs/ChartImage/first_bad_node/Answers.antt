use Rattle.std.proofs.Common.{◌≡◌, true, false, rules}
use Rattle.std.proofs.lemmas.Iterator.{first_from_Range}
use Rattle.records.specs.Image.{bad_node_at}
use Rattle.records.specs.Found.{found-is}
use Rattle.records.proofs.ChartImage.first_bad_node.Goals as goal

pub returns : goal.returns
returns c =
    let bad = bad_node_at c.args.self.bytes.now in
    found-is _ _ _ (first_from_Range _ _ _ _ (λ i. bad i ≡ true) (λ i. bad i ≡ false) c.find.ensures.ran (λ i q k. search rules) (λ i q k. search rules))
