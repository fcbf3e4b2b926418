-- What the listing hands back lies in its room. Assumes nothing.
use Rattle.listing.specs.Listing.{ready, listed-fits, listed-size}
use Rattle.book_listing.proofs.main.Goals as goal

pub slice_bounds-room-end : goal.slice_bounds-room-end
slice_bounds-room-end c = listed-fits _ _ _ ready _ c.list-length.ensures.0 c.list-length.ensures.1

pub slice_bounds-write_all-end : goal.slice_bounds-write_all-end
slice_bounds-write_all-end c = listed-size _ _ _ ready _ c.list-length.ensures.0 c.list-length.ensures.1
