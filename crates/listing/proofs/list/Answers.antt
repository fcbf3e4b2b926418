-- `listing::list` meets its contract: a room that is too short is left alone, and a longer input is cut.
use Rattle.listing.specs.Listing.{list-short, list-whole, list-cut}
use Rattle.std.proofs.Common.{sym, arith}
use Rattle.std.proofs.lemmas.List.{length-take-le}
use Rattle.listing.proofs.list.Goals as goal

pub returns-then-room-lt-MAX_LISTING : goal.returns-then-room-lt-MAX_LISTING
returns-then-room-lt-MAX_LISTING c = list-short c.args.input.now c.args.room.now c.if-room-lt-MAX_LISTING.true

pub returns-then-input-le-LISTING_INPUT : goal.returns-then-input-le-LISTING_INPUT
returns-then-input-le-LISTING_INPUT c = list-whole c.args.input.now c.args.room.now c.if-room-lt-MAX_LISTING.false (omega arith) _ _ c.image_text.ensures

pub slice_bounds-image_text-end : goal.slice_bounds-image_text-end
slice_bounds-image_text-end c = sym (length-take-le _ c.args.input.now (omega arith))

pub returns : goal.returns
returns c = list-cut c.args.input.now c.args.room.now c.if-room-lt-MAX_LISTING.false _ _ c.image_text-2.ensures
