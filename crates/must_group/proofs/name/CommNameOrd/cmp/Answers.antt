use Rattle.std.proofs.Common.{◌∙◌, sym}
use Rattle.must_group.specs.NameOrder.{name_same, same_equal}
use Rattle.must_group.proofs.name.CommNameOrd.cmp.Goals as goal

pub returns-clause-equal : goal.returns-clause-equal
returns-clause-equal c =
    let order = c.compare.ensures in
    (λ e. name_same c.args.self.now c.args.other.now (sym order ∙ e), λ e. order ∙ same_equal c.args.self.now c.args.other.now e)
