-- Rows: what the check gives on the settled examples P9 and P10, on their neighbours and on request (ii)'s own pair, by computation. Assumes nothing.
use Rattle.std.specs.Prelude.{◌≡◌, refl, List, [], ◌∷◌, ◌++◌, ℕ}
use Rattle.paper.specs.Limits.{loop_found, clash as clash_found, no_such_stage, order_room}
use Rattle.paper.specs.Answers.{answer, granted, refusal}
use Rattle.general.specs.Below.{every, some, first, tally}
use Rattle.general.specs.Tables.{tabulate}
use Rattle.wire.specs.Wire.{u16_at, u32_at, bytes16, bytes32}
use Rattle.closure.specs.Closure.{within}
use Rattle.order_theory.specs.Loops.{leads}
use Rattle.order_theory.specs.Running.{ready, greedy, running_order}
use Rattle.book.specs.Text.{elem}
use Rattle.book.specs.GoodTexts.{takes, is_operator, depth_after, follows, good_from, good, next_depth}
use Rattle.book.specs.Book.{text_of}
use Rattle.book.specs.Image.{trigger_from, sense_from, rule_from, condition_from, book_of}
use Rattle.book.specs.Read.{words_from}
use Rattle.book.specs.Judging.{counts_fit, layout_fits, trigger_fits, sense_fits, rule_fits, condition_fits, first_bad_rule, first_bad_condition, body_answer, image_answer}
use Rattle.book.specs.Firing.{awaits, reads, refers}
use Rattle.rule_order.specs.Rules.{counted, net_of}
use Rattle.clashes.specs.Clash.{completes_other, other_stages, is_written, is_negated, opposite_senses, apart, opposed, clash}
use Rattle.clashes.specs.Pairs.{clashing, clash_first, clash_second}
use Rattle.loop_search.specs.Places.{stage_place, lesser, place_below, loop_place}
use Rattle.judge.specs.Checking.{rules_answer, book_answer, stage_answer, checking, checked_room}

-- a header of five counts and three offsets
unfoldable pub header : ℕ → ℕ → ℕ → ℕ → ℕ → ℕ → ℕ → List ℕ
header S M R Q W at to = bytes32 S ++ bytes32 M ++ bytes32 R ++ bytes32 Q ++ bytes32 W ++ bytes32 32 ++ bytes32 at ++ bytes32 to

-- a rule record: trigger kind, sense, effect, trigger number, condition number, target
unfoldable pub rule : ℕ → ℕ → ℕ → ℕ → ℕ → ℕ → List ℕ
rule kind sense effect n c target = kind ∷ sense ∷ effect ∷ 0 ∷ bytes16 n ++ bytes16 c ++ bytes16 target

-- "one stage, one mark, 'if not mark 0, set mark 0' alone"
unfoldable pub p9 : List ℕ
p9 = header 1 1 1 1 1 42 50 ++ rule 0 2 1 0 0 0 ++ bytes32 0 ++ bytes32 1 ++ bytes16 0

-- "set and clear mark 1 on completions of" c and d
unfoldable pub p10 : ℕ → ℕ → List ℕ
p10 c d = header 2 2 2 0 0 52 52 ++ rule 1 0 1 c 0 1 ++ rule 1 0 0 d 0 1

pub p9-loop : checking p9 0 1 ≡ answer loop_found 0 0
unfolding p9 header rule bytes16 bytes32 checking stage_answer book_answer rules_answer image_answer counts_fit layout_fits body_answer first_bad_rule first_bad_condition trigger_fits sense_fits rule_fits condition_fits takes is_operator depth_after follows good_from good next_depth first some u16_at u32_at words_from book_of tabulate rule_from trigger_from sense_from condition_from text_of loop_place place_below lesser stage_place within leads tally counted net_of refers awaits reads elem clash_first clash_second clashing clash apart opposed other_stages completes_other opposite_senses is_written is_negated
p9-loop = refl

-- one rule counts for each stage, and is all that is written
pub p10-pass : (checking (p10 0 1) 0 1 ≡ granted) × (checking (p10 0 1) 1 1 ≡ granted)
    × (checked_room (p10 0 1) 0 (7 ∷ 8 ∷ 9 ∷ []) ≡ 0 ∷ 8 ∷ 9 ∷ []) × (checked_room (p10 0 1) 1 (7 ∷ 8 ∷ 9 ∷ []) ≡ 1 ∷ 8 ∷ 9 ∷ [])
unfolding p10 checked_room running_order greedy ready every header rule bytes16 bytes32 checking stage_answer book_answer rules_answer image_answer counts_fit layout_fits body_answer first_bad_rule first_bad_condition trigger_fits sense_fits rule_fits condition_fits takes is_operator depth_after follows good_from good next_depth first some u16_at u32_at words_from book_of tabulate rule_from trigger_from sense_from condition_from text_of loop_place place_below lesser stage_place within leads tally counted net_of refers awaits reads elem clash_first clash_second clashing clash apart opposed other_stages completes_other opposite_senses is_written is_negated
p10-pass = (refl, refl, refl, refl)

-- whichever stage is asked for
pub p10-clash : (checking (p10 0 0) 0 2 ≡ answer clash_found 0 1) × (checking (p10 0 0) 1 0 ≡ answer clash_found 0 1)
unfolding p10 header rule bytes16 bytes32 checking stage_answer book_answer rules_answer image_answer counts_fit layout_fits body_answer first_bad_rule first_bad_condition trigger_fits sense_fits rule_fits condition_fits takes is_operator depth_after follows good_from good next_depth first some u16_at u32_at words_from book_of tabulate rule_from trigger_from sense_from condition_from text_of loop_place place_below lesser stage_place within leads tally counted net_of refers awaits reads elem clash_first clash_second clashing clash apart opposed other_stages completes_other opposite_senses is_written is_negated
p10-clash = (refl, refl)

-- a room one short, and the room left as it was; a stage past the last in the same room
pub p10-narrow : (checking (p10 0 1) 0 0 ≡ answer order_room 1 0) × (checked_room (p10 0 1) 0 [] ≡ []) × (checking (p10 0 1) 2 0 ≡ refusal no_such_stage) × (checked_room (p10 0 1) 2 (7 ∷ []) ≡ 7 ∷ [])
unfolding p10 checked_room header rule bytes16 bytes32 checking stage_answer book_answer rules_answer image_answer counts_fit layout_fits body_answer first_bad_rule first_bad_condition trigger_fits sense_fits rule_fits condition_fits takes is_operator depth_after follows good_from good next_depth first some u16_at u32_at words_from book_of tabulate rule_from trigger_from sense_from condition_from text_of loop_place place_below lesser stage_place within leads tally counted net_of refers awaits reads elem clash_first clash_second clashing clash apart opposed other_stages completes_other opposite_senses is_written is_negated
p10-narrow = (refl, refl, refl, refl)

-- two conditions with equal texts are two records: the rules that ask them in opposite senses clash
unfoldable pub twins : ℕ → List ℕ
twins c = header 1 2 2 2 1 52 68 ++ rule 0 1 1 0 0 1 ++ rule 0 2 0 0 c 1 ++ bytes32 0 ++ bytes32 1 ++ bytes32 0 ++ bytes32 1 ++ bytes16 0

pub twins-apart : checking (twins 0) 0 2 ≡ granted
unfolding twins header rule bytes16 bytes32 checking stage_answer book_answer rules_answer image_answer counts_fit layout_fits body_answer first_bad_rule first_bad_condition trigger_fits sense_fits rule_fits condition_fits takes is_operator depth_after follows good_from good next_depth first some u16_at u32_at words_from book_of tabulate rule_from trigger_from sense_from condition_from text_of loop_place place_below lesser stage_place within leads tally counted net_of refers awaits reads elem clash_first clash_second clashing clash apart opposed other_stages completes_other opposite_senses is_written is_negated
twins-apart = refl

pub twins-clash : checking (twins 1) 0 2 ≡ answer clash_found 0 1
unfolding twins header rule bytes16 bytes32 checking stage_answer book_answer rules_answer image_answer counts_fit layout_fits body_answer first_bad_rule first_bad_condition trigger_fits sense_fits rule_fits condition_fits takes is_operator depth_after follows good_from good next_depth first some u16_at u32_at words_from book_of tabulate rule_from trigger_from sense_from condition_from text_of loop_place place_below lesser stage_place within leads tally counted net_of refers awaits reads elem clash_first clash_second clashing clash apart opposed other_stages completes_other opposite_senses is_written is_negated
twins-clash = refl

-- no stages: well formed, and every stage is one too many
unfoldable pub stageless : List ℕ
stageless = header 0 0 0 0 0 32 32

pub stageless-nowhere : (checking stageless 0 0 ≡ refusal no_such_stage) × (checking stageless 7 9 ≡ refusal no_such_stage)
unfolding stageless header rule bytes16 bytes32 checking stage_answer book_answer rules_answer image_answer counts_fit layout_fits body_answer first_bad_rule first_bad_condition trigger_fits sense_fits rule_fits condition_fits takes is_operator depth_after follows good_from good next_depth first some u16_at u32_at words_from book_of tabulate rule_from trigger_from sense_from condition_from text_of loop_place place_below lesser stage_place within leads tally counted net_of refers awaits reads elem clash_first clash_second clashing clash apart opposed other_stages completes_other opposite_senses is_written is_negated
stageless-nowhere = (refl, refl)

-- ---- request (ii): "on completion of A if b, set c" beside "on completion of B if c, set b"

-- A and B are the stages 0 and 1, b and c the marks 2 and 3; the second rule has the trigger of this kind, of that number
unfoldable pub pair : ℕ → ℕ → List ℕ
pair kind n = header 2 4 2 2 2 52 68 ++ rule 1 1 1 0 0 3 ++ rule kind 1 1 n 1 2 ++ bytes32 0 ++ bytes32 1 ++ bytes32 1 ++ bytes32 1 ++ bytes16 2 ++ bytes16 3

-- it passes for A and for B, and each order has its own rule
pub pair-pass : (checking (pair 1 1) 0 1 ≡ granted) × (checking (pair 1 1) 1 1 ≡ granted) × (checked_room (pair 1 1) 0 (7 ∷ 8 ∷ []) ≡ 0 ∷ 8 ∷ []) × (checked_room (pair 1 1) 1 (7 ∷ 8 ∷ []) ≡ 1 ∷ 8 ∷ [])
unfolding pair checked_room running_order greedy ready every header rule bytes16 bytes32 checking stage_answer book_answer rules_answer image_answer counts_fit layout_fits body_answer first_bad_rule first_bad_condition trigger_fits sense_fits rule_fits condition_fits takes is_operator depth_after follows good_from good next_depth first some u16_at u32_at words_from book_of tabulate rule_from trigger_from sense_from condition_from text_of loop_place place_below lesser stage_place within leads tally counted net_of refers awaits reads elem clash_first clash_second clashing clash apart opposed other_stages completes_other opposite_senses is_written is_negated
pair-pass = (refl, refl, refl, refl)

-- with the second trigger taken away both rules count for A: refused with b, also where B is asked for
pub pair-loop : (checking (pair 0 0) 0 2 ≡ answer loop_found 2 0) × (checking (pair 0 0) 1 2 ≡ answer loop_found 2 0) × (checking (pair 0 0) 2 0 ≡ answer loop_found 2 0)
unfolding pair header rule bytes16 bytes32 checking stage_answer book_answer rules_answer image_answer counts_fit layout_fits body_answer first_bad_rule first_bad_condition trigger_fits sense_fits rule_fits condition_fits takes is_operator depth_after follows good_from good next_depth first some u16_at u32_at words_from book_of tabulate rule_from trigger_from sense_from condition_from text_of loop_place place_below lesser stage_place within leads tally counted net_of refers awaits reads elem clash_first clash_second clashing clash apart opposed other_stages completes_other opposite_senses is_written is_negated
pair-loop = (refl, refl, refl)
