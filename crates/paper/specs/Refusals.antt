-- What a call refuses, and the answer that tells it. Assumes nothing.
use Rattle.std.specs.Prelude.{Result, Ok, Err}
use Rattle.paper.specs.Limits.{bad_condition, bad_node, bad_relation, bad_rule, book_count, book_length, book_room, book_short, chart_count, chart_length, chart_short, clash, group_flags, index_room, index_unfit, long_list, loop_found, many_events, mark_above, mend_room, no_such_stage, not_derived, order_room, order_unfit, parents_loop, stage_closed, unfit}
use Rattle.paper.specs.Answers.{answer, refusal, granted}
use Rattle.paper.specs.declared.Answer.{Answer}
use Rattle.paper.specs.declared.Refusal.{Refusal}
use Rattle.paper.specs.declared.Refusal.TheVariants.{ChartShort, ChartCount, ChartLength, BadNode, ParentsLoop, GroupFlags, ManyEvents, BadRelation, Unfit, BookRoom, BookShort, BookCount, BookLength, BadRule, BadCondition, Loop, Clash, OrderUnfit, MarkAbove, NoSuchStage, StageClosed, OrderRoom, NotDerived, IndexUnfit, IndexRoom, MendRoom, LongList}

abbrev pub answer_of : Refusal → Answer
answer_of ChartShort = refusal chart_short
answer_of ChartCount = refusal chart_count
answer_of ChartLength = refusal chart_length
answer_of (BadNode place) = answer bad_node place 0
answer_of (ParentsLoop place) = answer parents_loop place 0
answer_of (GroupFlags place) = answer group_flags place 0
answer_of (ManyEvents place) = answer many_events place 0
answer_of (BadRelation place) = answer bad_relation place 0
answer_of Unfit = refusal unfit
answer_of (BookRoom place) = answer book_room place 0
answer_of BookShort = refusal book_short
answer_of BookCount = refusal book_count
answer_of BookLength = refusal book_length
answer_of (BadRule place) = answer bad_rule place 0
answer_of (BadCondition place) = answer bad_condition place 0
answer_of (Loop place) = answer loop_found place 0
answer_of (Clash place other) = answer clash place other
answer_of OrderUnfit = refusal order_unfit
answer_of MarkAbove = refusal mark_above
answer_of NoSuchStage = refusal no_such_stage
answer_of StageClosed = refusal stage_closed
answer_of (OrderRoom place) = answer order_room place 0
answer_of NotDerived = refusal not_derived
answer_of IndexUnfit = refusal index_unfit
answer_of (IndexRoom place) = answer index_room place 0
answer_of (MendRoom place other) = answer mend_room place other
answer_of (LongList place) = answer long_list place 0

-- granted, or the answer of what is refused
abbrev pub answered : Result (Unit {0}) Refusal → Answer
answered (Ok _) = granted
answered (Err r) = answer_of r
