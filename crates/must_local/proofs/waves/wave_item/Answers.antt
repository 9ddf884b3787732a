use Rattle.std.proofs.Common.{sym, ap, ◌∙◌}
use Rattle.std.specs.Prelude.{is_some}
use Rattle.must_rules.specs.Known.{clear_behind}
use Rattle.must_rules.specs.Types.{type_of}
use Rattle.must_items.specs.CollectiveLists.{commute_of}
use Rattle.must_items.specs.TypedLaws.{stands_types}
use Rattle.must_local.proofs.Waving.{not_given, given}
use Rattle.must_local.proofs.waves.wave_item.Goals as goal

pub returns-in-None : goal.returns-in-None
returns-in-None c = λ r calls s rank here. not_given r c.args.handles.now calls c.args.call.now s (sym (ap is_some c.in-None.is) ∙ c.wave_of.ensures.there)

pub returns-in_ok-item-in-Some : goal.returns-in_ok-item-in-Some
returns-in_ok-item-in-Some c = λ r calls s rank here.
    let h = c.args.handles.now in
    let call = c.args.call.now in
    let at = c.in_ok-item-in-Some.ensures.place in
    given r h calls call c.in_ok-item-in-Some.item c.args.at c.in-Some.on.comm c.in-Some.on.calls c.in-Some.on.name.now s rank here (sym (ap is_some c.in-Some.is) ∙ c.wave_of.ensures.there) c.in-Some.ensures.told.0 c.in-Some.ensures.told.1 at.0 at.1 at.2 at.3
    (c.in_ok-item-in-Some.ensures.tells (type_of (clear_behind r) calls) (commute_of calls) (stands_types (clear_behind r) h.types calls s.types) (λ op e. c.commute_of-commute.ensures op e ∙ s.objects.operations op))
