-- Whether operations commute, after one call more.
use Rattle.std.proofs.Common.{◌≡◌, ℕ, List, [], ◌∷◌, ◌++◌, ap}
use Rattle.std.specs.Prelude.{if◌then◌else◌}
use Rattle.std.proofs.lemmas.List.{reverse-append}
use Rattle.must_call.specs.declared.class.Class.TheVariants.{Operation}
use Rattle.must_call.specs.declared.call.Call.{Call}
use Rattle.must_rules.specs.Making.{makes}
use Rattle.must_items.specs.CollectiveItems.{commute_made}
use Rattle.must_items.specs.CollectiveLists.{commute_by, commute_of}

pub commute_more : (calls : List Call) (call : Call) (op : ℕ) → commute_of (calls ++ call ∷ []) op ≡ (if makes Operation op call then commute_made call.body else commute_of calls op)
unfolding commute_of
commute_more calls call op = ap (λ (cs : List Call). commute_by cs op) (reverse-append calls (call ∷ []))
