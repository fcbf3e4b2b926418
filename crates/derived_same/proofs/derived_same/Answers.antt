use Rattle.derived.specs.Parts.{completions-in, texts-in}
use Rattle.derived_same.specs.Same.{part_room}
use Rattle.derived_same.proofs.Comparing.{same-long, same-ready, head-room, same_not, same_whole}
use Rattle.general.specs.Writing.{wrote-length}
use Rattle.std.proofs.Common.{ℕ, ap, not, ◌∙◌, arith}
use lib.ListN.{length-replicate}
use Rattle.derived_same.proofs.derived_same.Goals as goal

pub completions_size-completions-requires : goal.completions_size-completions-requires
completions_size-completions-requires c = (c.requires.few, completions-in _ c.requires)

pub texts_size-words-requires : goal.texts_size-words-requires
texts_size-words-requires c = (c.requires.few, texts-in _ c.requires)

pub returns-then-image-rules : goal.returns-then-image-rules
returns-then-image-rules c = same-long _ c.requires _ _ c.completions_size-completions.ensures.0 c.texts_size-words.ensures.0 _ c.if-image-rules.true

pub part_stands-requires : goal.part_stands-requires
part_stands-requires c =
    let h = head-room _ c.requires _ _ c.completions_size-completions.ensures.0 c.texts_size-words.ensures.0 c.args.image.now c.if-image-rules.false _ _ _
    (length-replicate {A = ℕ} part_room 0) c.put_header-head.ensures in
    (omega (arith, h.0), omega (arith, h.1))

pub runs_same-requires : goal.runs_same-requires
runs_same-requires c =
    same-ready _ c.requires _ _ c.completions_size-completions.ensures.0 c.texts_size-words.ensures.0 _ c.if-image-rules.false _
    (wrote-length c.put_header-head.ensures ∙ length-replicate {A = ℕ} part_room 0)

pub returns-then-part_stands : goal.returns-then-part_stands
returns-then-part_stands c =
    same_whole _ c.requires _ _ c.completions_size-completions.ensures.0 c.texts_size-words.ensures.0 _ c.if-image-rules.false _ _ _
    (length-replicate {A = ℕ} part_room 0) c.put_header-head.ensures _ c.part_stands.ensures (ap not c.if-part_stands.true) _ c.runs_same.ensures

pub returns-else-part_stands : goal.returns-else-part_stands
returns-else-part_stands c =
    c.if-part_stands.false
    ∙ same_not _ c.requires _ _ c.completions_size-completions.ensures.0 c.texts_size-words.ensures.0 _ c.if-image-rules.false _ _ _
    (length-replicate {A = ℕ} part_room 0) c.put_header-head.ensures _ c.part_stands.ensures (ap not c.if-part_stands.false)
