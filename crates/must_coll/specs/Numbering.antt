-- What numbers communicator names get (docs/WAVES.md).
use Rattle.std.specs.Prelude.{◌≡◌, ◌<◌, ℕ, List, Option, Some}
use Rattle.std.specs.declared.cmp.Ordering.{Ordering}
use Rattle.std.specs.Ordering.{nat_cmp, ordering_then}
use Rattle.std.specs.BTreeMap as tree
use Rattle.must_base.specs.Listing.{Has}
use Rattle.must_group.specs.Names.{Name, name_cmp}
use Rattle.must_coll.specs.declared.item.WaveItem.{WaveItem}
use Rattle.must_coll.specs.declared.names.Handle.{Handle}
use Rattle.must_coll.specs.declared.names.Names.{Names}

abbrev pub handle_of : WaveItem → Handle
handle_of x = record { rank = x.place.rank; comm = x.comm }

-- by rank and handle number
abbrev pub handle_cmp : Handle → Handle → Ordering
handle_cmp a b = ordering_then (nat_cmp a.rank b.rank) (nat_cmp a.comm b.comm)

abbrev pub number_of : Names → Name → Option ℕ
number_of names name = tree.get name_cmp names.met name

-- a call with this handle has a name of this number
pub record HasNumber (names : Names) (items : List WaveItem) (handle : Handle) (i : ℕ) : Type 0 where
  pub item : WaveItem
  pub there : Has items item
  pub handle_is : handle_of item ≡ handle
  pub number_is : number_of names item.name ≡ Some i

-- no two names have one number, the next number is free, and the handles known are those of the calls
pub record Knows (names : Names) (items : List WaveItem) : Type 0 where
  pub apart : (a b : Name) (i : ℕ) → number_of names a ≡ Some i → number_of names b ≡ Some i → a ≡ b
  pub below : (name : Name) (i : ℕ) → number_of names name ≡ Some i → i < names.count
  pub handles : (handle : Handle) (i : ℕ) → tree.get handle_cmp names.handles handle ≡ Some i → HasNumber names items handle i
