use Rattle.std.proofs.Common.{ℕ, List, [], sym, subst}
use Rattle.std.proofs.lemmas.Result.{IfOk-weaker}
use Rattle.must_messages.specs.declared.asked.Begun.{Begun}
use Rattle.must_messages.specs.Asking.{AreBegun}
use Rattle.must_rules.specs.Operations.{operations_at}
use Rattle.must_begin.proofs.Shapes.{quiet}
use Rattle.must_begin.proofs.Beginning.{none_begun}
use Rattle.must_begin.proofs.Seeing.{clear_seen}
use Rattle.must_begin.proofs.requests.Requests.begins.Goals as goal

pub returns-in-Persist : goal.returns-in-Persist
returns-in-Persist g c = IfOk-weaker c.starts.result _ _ (λ begun is. λ r calls rank len sees on keeps.
    let call = c.args.call.now in
    subst (λ (n : ℕ). AreBegun n begun.items (operations_at r calls call)) len
    (is r calls call c.in-Persist.is sees.starts_are (clear_seen r calls _ _ _ _ sees call c.args.usable.now.clear c.requires.clear) keeps)) c.starts.ensures

pub returns-in_default : goal.returns-in_default
returns-in_default g c = λ r calls rank len sees on keeps.
    let call = c.args.call.now in
    subst (λ (l : List Begun). AreBegun c.args.at.call l (operations_at r calls call)) (sym c.new.ensures.items)
    (subst (AreBegun c.args.at.call []) (sym (none_begun r calls call (quiet call.body c.in_default.not-Point c.in_default.not-Persist))) tt)
