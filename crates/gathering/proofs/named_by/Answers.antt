use Rattle.gathering.specs.Noting.{text-asks, text-named}
use Rattle.gathering.proofs.named_by.Goals as goal

pub named_in-requires : goal.named_in-requires
named_in-requires c = text-asks c.requires.0 c.requires.1 c.condition-span.ensures c.words_from-from.ensures

pub returns-clause-conditions_value : goal.returns-clause-conditions_value
returns-clause-conditions_value c =
    (text-named c.requires.0 c.requires.1 c.condition-span.ensures c.words_from-from.ensures c.named_in.ensures.conditions_value c.named_in.ensures.milestones_value).0

pub returns-clause-milestones_value : goal.returns-clause-milestones_value
returns-clause-milestones_value c =
    (text-named c.requires.0 c.requires.1 c.condition-span.ensures c.words_from-from.ensures c.named_in.ensures.conditions_value c.named_in.ensures.milestones_value).1
