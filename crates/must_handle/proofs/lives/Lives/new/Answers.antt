use Rattle.std.proofs.Common.{List, sym, subst, []}
use Rattle.must_handle.specs.declared.slot.Slot.{Slot}
use Rattle.must_handle.specs.Slots.{Stands}
use Rattle.must_handle.proofs.Standing.{stands_first}
use Rattle.must_handle.proofs.lives.Lives.new.Goals as goal

pub returns : goal.returns
returns c = λ is_clear. subst (λ (s : List Slot). Stands is_clear s []) (sym c.new.ensures.items) (stands_first is_clear)
