use Rattle.std.proofs.Common.{◌∙◌, List, sym, subst}
use Rattle.must_handle.specs.declared.slot.Slot.{Slot}
use Rattle.must_handle.specs.Slots.{Stands}
use Rattle.must_handle.proofs.lives.Lives.open_at_end.Goals as goal

pub returns : goal.returns
returns c = λ is_clear calls stands. c.find_open.ensures is_clear calls (subst (λ (s : List Slot). Stands is_clear s calls) (sym (c.deref.ensures.value ∙ c.self.view_is)) stands)
