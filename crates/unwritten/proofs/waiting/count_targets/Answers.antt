use Rattle.std.proofs.Common.{sym, ◌∙◌, arith}
use Rattle.rule_order.specs.Freed.{freed-first}
use Rattle.rule_order.specs.Nets.{count-is, counts_past}
use Rattle.unwritten.specs.Counters.{counting-first, counting-gap, counting-last}
use Rattle.unwritten.proofs.waiting.count_targets.Goals as goal

pub count_span-first-requires : goal.count_span-first-requires
count_span-first-requires c =
    let x = c.requires.2 in
    (c.requires.0, x.first, omega arith, counting-first _ _ _ _ _ _ (c.requires.1 ∙ sym (count-is _ _)) x _ c.write_all.ensures)

pub count_span-requires : goal.count_span-requires
count_span-requires c =
    let x = c.requires.2 in
    (c.requires.0, x.then, omega arith, counting-gap _ _ _ _ _ _ (c.requires.1 ∙ sym (count-is _ _)) x _ _ _ _ c.count_span-first.ensures.value)

pub returns-clause-value : goal.returns-clause-value
returns-clause-value c = counting-last _ _ _ _ _ _ _ _ _ _ (counts_past _ _) (c.requires.1 ∙ sym (count-is _ _)) c.requires.2 c.count_span.ensures.value

pub returns-clause-freed : goal.returns-clause-freed
returns-clause-freed c = rw (c.count_span.ensures.kept, c.count_span-first.ensures.kept) (freed-first _ _)
