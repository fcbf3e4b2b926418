use Rattle.std.proofs.Common.{sym, ◌∙◌, arith}
use Rattle.flattening.specs.Rows.{add-other, add_back, add-on}
use Rattle.flattening.proofs.Layout.add.Goals as goal

pub returns-then-kind_of-number : goal.returns-then-kind_of-number
returns-then-kind_of-number c = add-other _ _ _ _ _ _ c.kind_of.ensures (λ z. c.if-kind_of-number.true (z ∙ sym c.number.ensures))

pub returns-then-holds_back : goal.returns-then-holds_back
returns-then-holds_back c =
    let g = c.args.self.known.goods _ c.requires in let l = g.from in
    add_back _ _ _ _ _ _ c.kind_of.ensures (c.if-kind_of-number.false ∙ c.number.ensures) c.from_of-from.ensures c.to_of-to.ensures (sym c.holds_back.ensures ∙ c.if-holds_back.true) (omega arith) c.row_in.ensures c.take_in.ensures

pub returns-else-holds_back : goal.returns-else-holds_back
returns-else-holds_back c =
    let g = c.args.self.known.goods _ c.requires in let l = g.to in
    add-on _ _ _ _ _ _ c.kind_of.ensures (c.if-kind_of-number.false ∙ c.number.ensures) c.from_of-from.ensures c.to_of-to.ensures (sym c.holds_back.ensures ∙ c.if-holds_back.false) (omega arith) c.row_in-else-holds_back.ensures c.take_in-else-holds_back.ensures
