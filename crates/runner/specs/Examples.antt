-- Rows: the settled examples P11 and P12, for every book and on bytes, and their neighbours by computation. Assumes nothing.
use Rattle.std.specs.Prelude.{◌≡◌, refl, true, false, List, [], ◌∷◌, ◌++◌, ℕ, ◌<◌, length, get_or, set, replicate}
use Rattle.std.proofs.Common.{arith}
use Rattle.paper.specs.Limits.{max_marks, order_unfit, mark_above, no_such_stage, stage_closed}
use Rattle.paper.specs.Answers.{granted, refusal}
use Rattle.general.specs.Below.{every, some, first, tally}
use Rattle.general.specs.Tables.{tabulate}
use Rattle.wire.specs.Wire.{u16_at, u32_at, bytes16, bytes32}
use Rattle.closure.specs.Closure.{within}
use Rattle.order_theory.specs.Loops.{leads}
use Rattle.order_theory.specs.Running.{ready}
use Rattle.order_theory.specs.Pass.{fine, passes, fit_pass}
use Rattle.order_theory.proofs.Index.{fit_at}
use Rattle.order_theory.specs.Snapshots.{step_l, run_l}
use Rattle.book.specs.Text.{elem, push, eval, top, holds}
use Rattle.book.specs.GoodTexts.{takes, is_operator, depth_after, follows, good_from, good, next_depth}
use Rattle.book.specs.Book.{text_of}
use Rattle.book.specs.Image.{stages_in, rules_in, trigger_from, sense_from, rule_from, condition_from, book_of}
use Rattle.book.specs.Read.{words_from}
use Rattle.book.specs.Judging.{counts_fit, layout_fits, trigger_fits, sense_fits, rule_fits, condition_fits, first_bad_rule, first_bad_condition, body_answer, image_answer}
use Rattle.book.specs.Firing.{triggered, allowed, fires, awaits, reads, refers}
use Rattle.book.specs.declared.Snapshot.{Snapshot}
use Rattle.rule_order.specs.Rules.{counted, net_of, acts_of}
use Rattle.rule_order.specs.Nets.{rules_of, count-is}
use Rattle.clashes.specs.Clash.{completes_other, other_stages, is_written, is_negated, opposite_senses, apart, opposed, clash}
use Rattle.clashes.specs.Pairs.{clashing, clash_first, clash_second}
use Rattle.loop_search.specs.Places.{stage_place, lesser, place_below, loop_place}
use Rattle.judge.specs.Checking.{rules_answer, book_answer}
use Rattle.judge.specs.Examples.{header, rule, p10, pair}
use Rattle.runner.specs.Completing.{fitted, order_answer, any_from, snapshot_answer, completion_answer, through, completing}
use Rattle.runner.specs.Table.{Passes, unfit, answered-is}
use Rattle.runner.specs.Completion.{Open, completed-marks}

-- ---- for every book

-- P11: "no rules, empty order, open stage: same snapshot"
pub p11 : (s : List ℕ) → Passes s → rules_in s ≡ 0 → (snapshot : Snapshot) (stage : ℕ) → Open s snapshot stage → completing s [] snapshot stage ≡ record { answer = granted; snapshot = snapshot }
unfolding through run_l
p11 s p e snapshot stage o = completed-marks s p snapshot stage o [] (record { below = λ q i. absurd i; whole = λ q c. absurd (omega (arith, c.0, count-is s stage)); distinct = tt; respects = tt })

-- P12: "a rule listed twice: 27"
pub p12 : (s order : List ℕ) (i j : ℕ) → Passes s → i < j → j < length order → get_or order i 0 ≡ get_or order j 0 → (snapshot : Snapshot) (stage : ℕ) → stage < stages_in s
    → completing s order snapshot stage ≡ record { answer = refusal order_unfit; snapshot = snapshot }
unfolding completing
p12 s order i j p h k e snapshot stage l =
    let z : refusal order_unfit ≡ completion_answer s order snapshot.marks stage =
    answered-is s order stage snapshot.marks (refusal order_unfit) (unfit p l (λ f. ((fit_at (rules_of s stage) order).0 f).distinct i j h k e)) in
    rw (← z)

-- ---- on bytes

-- mark 0 alone is yes
unfoldable pub first-yes : Snapshot
first-yes = record { marks = set (replicate max_marks false) 0 true }

-- one stage, no rules
unfoldable pub bare : List ℕ
bare = header 1 1 0 0 0 32 32

pub p11-bytes : completing bare [] first-yes 0 ≡ record { answer = granted; snapshot = first-yes }
unfolding bare first-yes completing completion_answer snapshot_answer any_from order_answer fitted through run_l step_l acts_of fires triggered allowed fit_pass passes fine ready every header rule bytes16 bytes32 book_answer rules_answer image_answer counts_fit layout_fits body_answer first_bad_rule first_bad_condition trigger_fits sense_fits rule_fits condition_fits takes is_operator depth_after follows good_from good next_depth first some u16_at u32_at words_from book_of tabulate rule_from trigger_from sense_from condition_from text_of loop_place place_below lesser stage_place within leads tally counted net_of refers awaits reads elem clash_first clash_second clashing clash apart opposed other_stages completes_other opposite_senses is_written is_negated
p11-bytes = refl

-- set and clear mark 1 on completions of 0 and 1
pub p12-bytes : completing (p10 0 1) (0 ∷ 0 ∷ []) first-yes 0 ≡ record { answer = refusal order_unfit; snapshot = first-yes }
unfolding p10 first-yes completing completion_answer snapshot_answer any_from order_answer fitted through run_l step_l acts_of fires triggered allowed fit_pass passes fine ready every header rule bytes16 bytes32 book_answer rules_answer image_answer counts_fit layout_fits body_answer first_bad_rule first_bad_condition trigger_fits sense_fits rule_fits condition_fits takes is_operator depth_after follows good_from good next_depth first some u16_at u32_at words_from book_of tabulate rule_from trigger_from sense_from condition_from text_of loop_place place_below lesser stage_place within leads tally counted net_of refers awaits reads elem clash_first clash_second clashing clash apart opposed other_stages completes_other opposite_senses is_written is_negated
p12-bytes = refl

-- 28, 29 and 30: mark 1 of a book of one mark, stage 1 of a book of one stage, and a stage that is closed
pub refused-bytes : ((completing bare [] (record { marks = set (replicate max_marks false) 1 true }) 0).answer ≡ refusal mark_above) × ((completing bare [] first-yes 1).answer ≡ refusal no_such_stage)
    × ((completing bare [] (record { marks = replicate max_marks false }) 0).answer ≡ refusal stage_closed)
unfolding bare first-yes completing completion_answer snapshot_answer any_from order_answer fitted through run_l step_l acts_of fires triggered allowed fit_pass passes fine ready every header rule bytes16 bytes32 book_answer rules_answer image_answer counts_fit layout_fits body_answer first_bad_rule first_bad_condition trigger_fits sense_fits rule_fits condition_fits takes is_operator depth_after follows good_from good next_depth first some u16_at u32_at words_from book_of tabulate rule_from trigger_from sense_from condition_from text_of loop_place place_below lesser stage_place within leads tally counted net_of refers awaits reads elem clash_first clash_second clashing clash apart opposed other_stages completes_other opposite_senses is_written is_negated
refused-bytes = (refl, refl, refl)

-- on completion of 0 set mark 1; on mark 1 become yes set mark 2
unfoldable pub chained : List ℕ
chained = header 1 3 2 0 0 52 52 ++ rule 1 0 1 0 0 1 ++ rule 2 0 1 1 0 2

-- become yes: no at the start of the call, yes now
pub becomes-bytes : completing chained (0 ∷ 1 ∷ []) first-yes 0 ≡ record { answer = granted; snapshot = record { marks = set (set first-yes.marks 1 true) 2 true } }
unfolding chained first-yes completing completion_answer snapshot_answer any_from order_answer fitted through run_l step_l acts_of fires triggered allowed fit_pass passes fine ready every header rule bytes16 bytes32 book_answer rules_answer image_answer counts_fit layout_fits body_answer first_bad_rule first_bad_condition trigger_fits sense_fits rule_fits condition_fits takes is_operator depth_after follows good_from good next_depth first some u16_at u32_at words_from book_of tabulate rule_from trigger_from sense_from condition_from text_of loop_place place_below lesser stage_place within leads tally counted net_of refers awaits reads elem clash_first clash_second clashing clash apart opposed other_stages completes_other opposite_senses is_written is_negated
becomes-bytes = refl

-- a mark that was yes already does not become yes
pub was-yes-bytes : completing chained (0 ∷ 1 ∷ []) (record { marks = set first-yes.marks 1 true }) 0 ≡ record { answer = granted; snapshot = record { marks = set first-yes.marks 1 true } }
unfolding chained first-yes completing completion_answer snapshot_answer any_from order_answer fitted through run_l step_l acts_of fires triggered allowed fit_pass passes fine ready every header rule bytes16 bytes32 book_answer rules_answer image_answer counts_fit layout_fits body_answer first_bad_rule first_bad_condition trigger_fits sense_fits rule_fits condition_fits takes is_operator depth_after follows good_from good next_depth first some u16_at u32_at words_from book_of tabulate rule_from trigger_from sense_from condition_from text_of loop_place place_below lesser stage_place within leads tally counted net_of refers awaits reads elem clash_first clash_second clashing clash apart opposed other_stages completes_other opposite_senses is_written is_negated
was-yes-bytes = refl

-- the rule that waits for mark 1 may not stand before the rule that sets it
pub too-early-bytes : completing chained (1 ∷ 0 ∷ []) first-yes 0 ≡ record { answer = refusal order_unfit; snapshot = first-yes }
unfolding chained first-yes completing completion_answer snapshot_answer any_from order_answer fitted through run_l step_l acts_of fires triggered allowed fit_pass passes fine ready every header rule bytes16 bytes32 book_answer rules_answer image_answer counts_fit layout_fits body_answer first_bad_rule first_bad_condition trigger_fits sense_fits rule_fits condition_fits takes is_operator depth_after follows good_from good next_depth first some u16_at u32_at words_from book_of tabulate rule_from trigger_from sense_from condition_from text_of loop_place place_below lesser stage_place within leads tally counted net_of refers awaits reads elem clash_first clash_second clashing clash apart opposed other_stages completes_other opposite_senses is_written is_negated
too-early-bytes = refl

-- marks 0 and 2 are yes
unfoldable pub b-yes : Snapshot
unfolding first-yes
b-yes = record { marks = set first-yes.marks 2 true }

-- 29 comes before 27: stage 1 of a book of one stage, with an order that fits no stage
pub nowhere-first-bytes : (completing bare (0 ∷ []) first-yes 1).answer ≡ refusal no_such_stage
unfolding bare first-yes completing completion_answer snapshot_answer any_from order_answer fitted through run_l step_l acts_of fires triggered allowed fit_pass passes fine ready every header rule bytes16 bytes32 book_answer rules_answer image_answer counts_fit layout_fits body_answer first_bad_rule first_bad_condition trigger_fits sense_fits rule_fits condition_fits takes is_operator depth_after follows good_from good next_depth first some u16_at u32_at words_from book_of tabulate rule_from trigger_from sense_from condition_from text_of loop_place place_below lesser stage_place within leads tally counted net_of refers awaits reads elem clash_first clash_second clashing clash apart opposed other_stages completes_other opposite_senses is_written is_negated
nowhere-first-bytes = refl

-- request (ii)'s pair with mark b yes: completing A goes through A's rule alone, and sets c; B's rule has no place in its order
pub pair-bytes : (completing (pair 1 1) (0 ∷ []) b-yes 0 ≡ record { answer = granted; snapshot = record { marks = set b-yes.marks 3 true } })
    × ((completing (pair 1 1) (0 ∷ 1 ∷ []) b-yes 0).answer ≡ refusal order_unfit) × ((completing (pair 1 1) (1 ∷ []) b-yes 0).answer ≡ refusal order_unfit)
unfolding pair b-yes first-yes holds top eval push completing completion_answer snapshot_answer any_from order_answer fitted through run_l step_l acts_of fires triggered allowed fit_pass passes fine ready every header rule bytes16 bytes32 book_answer rules_answer image_answer counts_fit layout_fits body_answer first_bad_rule first_bad_condition trigger_fits sense_fits rule_fits condition_fits takes is_operator depth_after follows good_from good next_depth first some u16_at u32_at words_from book_of tabulate rule_from trigger_from sense_from condition_from text_of loop_place place_below lesser stage_place within leads tally counted net_of refers awaits reads elem clash_first clash_second clashing clash apart opposed other_stages completes_other opposite_senses is_written is_negated
pair-bytes = (refl, refl, refl)
