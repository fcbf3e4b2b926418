use Rattle.std.proofs.Common.{◌≡◌, true, false, rules}
use Rattle.std.proofs.lemmas.Iterator.{first_from_Range}
use Rattle.records.specs.Found.{found-is}
use Rattle.nesting.specs.Tables.{flagged_in}
use Rattle.nesting.proofs.first_flagged_group.Goals as goal

pub returns : goal.returns
returns c =
    let flagged = flagged_in c.args.image.bytes.now c.args.groups.now in
    found-is _ _ _ (first_from_Range _ _ _ _ (λ i. flagged i ≡ true) (λ i. flagged i ≡ false) c.find.ensures.ran (λ i q k. search rules) (λ i q k. search rules))
