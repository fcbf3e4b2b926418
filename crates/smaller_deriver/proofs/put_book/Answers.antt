use Rattle.std.proofs.Common.{arith}
use Rattle.smaller_deriver.specs.Book.{sizes-under, ready, places-rise, smaller-short, smaller-done}
use Rattle.smaller_deriver.proofs.put_book.Goals as goal

pub text_sizes-sizes-requires : goal.text_sizes-sizes-requires
text_sizes-sizes-requires c = (c.requires.few, c.requires.texts, sizes-under _ _ _ c.requires)

pub put_parts-places-requires : goal.put_parts-places-requires
put_parts-places-requires c = ready _ _ _ c.requires _ c.text_sizes-sizes.ensures

pub overflow_cast-places : goal.overflow_cast-places
overflow_cast-places c =
    omega (arith, (places-rise _ _ _ c.requires _ c.text_sizes-sizes.ensures c.put_parts-places.ensures.0 c.put_parts-places.ensures.1).3)

pub returns-then-room-places : goal.returns-then-room-places
returns-then-room-places c =
    smaller-short _ _ _ c.requires _ c.text_sizes-sizes.ensures c.put_parts-places.ensures.0 c.put_parts-places.ensures.1 _ c.if-room-places.true
    c.from.ensures

pub overflow_cast-counts-5 : goal.overflow_cast-counts-5
overflow_cast-counts-5 c =
    omega (arith, (places-rise _ _ _ c.requires _ c.text_sizes-sizes.ensures c.put_parts-places.ensures.0 c.put_parts-places.ensures.1).3)

pub put_parts-requires : goal.put_parts-requires
put_parts-requires c = ready _ _ _ c.requires _ c.text_sizes-sizes.ensures

pub returns : goal.returns
returns c =
    smaller-done _ _ _ c.requires _ c.text_sizes-sizes.ensures c.put_parts-places.ensures.0 c.put_parts-places.ensures.1 _ c.if-room-places.false
    c.put_counts.ensures c.put_parts.ensures.1 c.granted.ensures
