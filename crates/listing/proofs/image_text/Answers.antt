-- `listing::image_text` meets its contract: a refusal is one line, else the chart's text.
use Rattle.listing.specs.Listing.{read_fits, read-wrote, image-wrote}
use Rattle.listing.proofs.image_text.Goals as goal

pub refusal_line-requires : goal.refusal_line-requires
refusal_line-requires c = read_fits _ c.args.room.now c.requires _ c.read-reading.ensures c.if-reading-ne0.true

pub returns-then-reading-ne0 : goal.returns-then-reading-ne0
returns-then-reading-ne0 c = read-wrote _ c.args.room.now c.requires _ c.read-reading.ensures c.if-reading-ne0.true _ _ c.refusal_line.ensures

pub returns : goal.returns
returns c = image-wrote _ c.args.room.now c.requires _ c.read-reading.ensures c.if-reading-ne0.false _ _ c.chart_text.ensures
