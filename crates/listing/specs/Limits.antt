-- The listing's numbers, under the names of the code. Assumes nothing.
use Rattle.std.specs.Prelude.{ℕ}

-- how many bytes of a chart it reads
abbrev pub listing_input : ℕ
listing_input = 25097

-- into how many it derives
abbrev pub listing_book : ℕ
listing_book = 49152

-- how many its text has at most
abbrev pub max_listing : ℕ
max_listing = 159744
