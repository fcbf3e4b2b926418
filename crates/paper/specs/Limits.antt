-- The paper's limits, formats and refusal numbers, under the names of the code. Assumes nothing.
use Rattle.std.specs.Prelude.{ℕ}

-- ---- limits

abbrev pub max_nodes : ℕ
max_nodes = 512

abbrev pub max_relations : ℕ
max_relations = 16384

abbrev pub max_events : ℕ
max_events = 256

abbrev pub max_marks : ℕ
max_marks = 1024

abbrev pub max_rules : ℕ
max_rules = 131840

abbrev pub max_conditions : ℕ
max_conditions = 1024

abbrev pub max_words : ℕ
max_words = 655616

abbrev pub max_stack : ℕ
max_stack = 16

abbrev pub max_roles : ℕ
max_roles = 8

-- "a list over 4,096"
abbrev pub max_list : ℕ
max_list = 4096

-- ---- the chart image: sizes in bytes, and what a parent number says of a node without one

abbrev pub chart_header : ℕ
chart_header = 8

abbrev pub node_size : ℕ
node_size = 4

abbrev pub relation_size : ℕ
relation_size = 6

abbrev pub no_parent : ℕ
no_parent = 65535

abbrev pub max_flags : ℕ
max_flags = 7

abbrev pub kinds : ℕ
kinds = 5

-- a node's flags are two bytes: the lower one its state, the upper one its roles
abbrev pub flags_byte : ℕ
flags_byte = 256

-- ---- the book image: sizes in bytes, and the words that are operators

abbrev pub book_header : ℕ
book_header = 32

abbrev pub rule_size : ℕ
rule_size = 10

abbrev pub condition_size : ℕ
condition_size = 8

abbrev pub word_size : ℕ
word_size = 2

abbrev pub and_word : ℕ
and_word = 65533

abbrev pub or_word : ℕ
or_word = 65534

abbrev pub not_word : ℕ
not_word = 65535

-- "65,535 for a dropped or absent mark"
abbrev pub no_mark : ℕ
no_mark = 65535

-- ---- the index image: sizes in bytes of S and R, of what it says of a stage, and of a rule in an order

abbrev pub index_header : ℕ
index_header = 8

abbrev pub index_stage : ℕ
index_stage = 8

abbrev pub index_rule : ℕ
index_rule = 4

-- ---- what mending writes: a change's size in bytes, and the five steps

abbrev pub change_size : ℕ
change_size = 10

abbrev pub mend_parent : ℕ
mend_parent = 1

abbrev pub mend_flags : ℕ
mend_flags = 2

abbrev pub mend_loop : ℕ
mend_loop = 3

abbrev pub mend_group : ℕ
mend_group = 4

abbrev pub mend_relation : ℕ
mend_relation = 5

-- ---- refusals

abbrev pub chart_short : ℕ
chart_short = 1

abbrev pub chart_count : ℕ
chart_count = 2

abbrev pub chart_length : ℕ
chart_length = 3

abbrev pub bad_node : ℕ
bad_node = 4

abbrev pub parents_loop : ℕ
parents_loop = 5

abbrev pub group_flags : ℕ
group_flags = 6

abbrev pub many_events : ℕ
many_events = 7

abbrev pub bad_relation : ℕ
bad_relation = 8

-- never given any more (request xii), and reserved
abbrev pub include_exclude : ℕ
include_exclude = 9

abbrev pub no_such_event : ℕ
no_such_event = 10

abbrev pub not_included : ℕ
not_included = 11

abbrev pub condition_wanting : ℕ
condition_wanting = 12

abbrev pub milestone_wanting : ℕ
milestone_wanting = 13

abbrev pub unfit : ℕ
unfit = 14

abbrev pub book_room : ℕ
book_room = 15

abbrev pub book_short : ℕ
book_short = 20

abbrev pub book_count : ℕ
book_count = 21

abbrev pub book_length : ℕ
book_length = 22

abbrev pub bad_rule : ℕ
bad_rule = 23

abbrev pub bad_condition : ℕ
bad_condition = 24

abbrev pub loop_found : ℕ
loop_found = 25

abbrev pub clash : ℕ
clash = 26

abbrev pub order_unfit : ℕ
order_unfit = 27

abbrev pub mark_above : ℕ
mark_above = 28

abbrev pub no_such_stage : ℕ
no_such_stage = 29

abbrev pub stage_closed : ℕ
stage_closed = 30

abbrev pub order_room : ℕ
order_room = 31

abbrev pub not_permitted : ℕ
not_permitted = 32

abbrev pub not_derived : ℕ
not_derived = 33

abbrev pub index_unfit : ℕ
index_unfit = 34

abbrev pub index_room : ℕ
index_room = 35

abbrev pub no_such_position : ℕ
no_such_position = 36

abbrev pub mend_room : ℕ
mend_room = 37

abbrev pub long_list : ℕ
long_list = 38
