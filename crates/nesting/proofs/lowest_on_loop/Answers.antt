use Rattle.std.proofs.Common.{◌≡◌, true, false, rules}
use Rattle.std.proofs.lemmas.Iterator.{first_from_Range}
use Rattle.records.specs.Found.{found-is, found-gone}
use Rattle.nesting.specs.Nesting.{on_loop_at}
use Rattle.nesting.specs.Climbing.{lowest-none}
use Rattle.nesting.proofs.lowest_on_loop.Goals as goal

pub returns-then-all_free : goal.returns-then-all_free
returns-then-all_free c = found-gone _ _ (lowest-none _ _ c.all_free.ensures c.if-all_free.true)

pub returns : goal.returns
returns c =
    let looped = on_loop_at c.args.image.bytes.now in
    found-is _ _ _ (first_from_Range _ _ _ _ (λ i. looped i ≡ true) (λ i. looped i ≡ false) c.find.ensures.ran (λ i q k. search rules) (λ i q k. search rules))
