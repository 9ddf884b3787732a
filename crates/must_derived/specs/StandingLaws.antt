-- A handle that has a number stands for a type.
use Rattle.std.proofs.Common.{◌≡◌, List, Option, Some, None, refl, sym, ap}
use Rattle.std.specs.Prelude.{is_some}
use Rattle.must_call.specs.declared.life.Life.{Life}
use Rattle.must_type.specs.declared.construct.TypeNo.{TypeNo}
use Rattle.must_type.specs.Tree.{TypeTree}
use Rattle.must_derived.specs.Standing.{Fits}

pub number_sound : (o : Option TypeNo) (slots : List (Option TypeTree)) (life : Life) (t : Option TypeTree) → Fits slots o life t → is_some o ≡ is_some t
number_sound None slots life t fits = sym (ap is_some fits)
number_sound (Some n) slots life None fits = absurd fits
number_sound (Some n) slots life (Some t) fits = refl
