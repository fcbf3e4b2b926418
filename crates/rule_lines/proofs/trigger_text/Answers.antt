-- `rule_lines::trigger_text` meets its contract: a completion is named, any other trigger is not.
use Rattle.std.proofs.Common.{inl, inr}
use Rattle.rule_lines.specs.Writers.{trigger-none, trigger-yes, trigger-no, on_fits, on-wrote}
use Rattle.rule_lines.proofs.trigger_text.Goals as goal

pub named-requires : goal.named-requires
named-requires c = search on_fits

pub returns-in-Completed : goal.returns-in-Completed
returns-in-Completed c = search on-wrote

pub returns-in-None : goal.returns-in-None
returns-in-None c = elim c.in-None.is [
  | inl e ↦ trigger-none _ _ _ e
  | inr f ↦ elim f [ inl y ↦ trigger-yes _ _ _ y.0 y.1 | inr n ↦ trigger-no _ _ _ n.0 n.1 ]
]
