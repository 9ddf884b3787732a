-- Roots and operations of a whole wave of one kind (MPI 3.1, 5.4, 5.5, 5.6 and 5.9: all members give the same root and the
-- same operation; docs/RULES.md, C2 and C3). Only calls that count in the duties are looked at.
use Rattle.std.specs.Prelude.{◌⊎◌, length, ℕ, pos, Bool, true, false, ◌==◌, List, Option, Some, None, find, if◌then◌else◌}
use Rattle.must_call.specs.declared.kind.Kind.{Kind}
use Rattle.must_call.specs.declared.kind.Kind.TheVariants as kind
use Rattle.must_call.specs.declared.place.Place.{Place}
use Rattle.must_find.specs.declared.rule.Rule.TheVariants.{C2, C3}
use Rattle.must_find.specs.declared.finding.Finding.{Finding}
use Rattle.must_group.specs.Groups.{position_of}
use Rattle.must_coll.specs.declared.item.WaveItem.{WaveItem}
use Rattle.must_coll.specs.declared.item.Oper.{Oper}
use Rattle.must_coll.specs.Given.{GivenBy}

-- the first call that counts
abbrev pub first_counting : List WaveItem → Option WaveItem
first_counting calls = find (λ x. x.counts) calls

-- ---- roots

-- the collectives that name a root
abbrev pub has_root : Kind → Bool
has_root kind.Bcast = true
has_root kind.Ibcast = true
has_root kind.Gather = true
has_root kind.Gatherv = true
has_root kind.Igather = true
has_root kind.Scatter = true
has_root kind.Scatterv = true
has_root kind.Reduce = true
has_root kind.Ireduce = true
has_root _ = false

-- the root of a call among n members, where its kind has one and it is a position
abbrev pub root_of : ℕ → WaveItem → Option ℕ
root_of n x = if has_root x.kind then position_of n x.root else None

-- C2 at a call, where its root isn't that of the first
abbrev pub root_by : Place → Option ℕ → WaveItem → Option ℕ → Option Finding
root_by see (Some r) x (Some s) =
    if r == s then None
    else Some (record { rank = x.place.rank; call = x.place.call; rule = C2; part = 0; see = Some see; value = x.root })
root_by _ _ _ _ = None

abbrev pub root_row : ℕ → Option WaveItem → WaveItem → Option Finding
root_row n (Some first) x = if x.counts then root_by first.place (root_of n first) x (root_of n x) else None
root_row n None x = None

-- ---- operations

abbrev pub same_commute : Bool → Bool → Bool
same_commute true b = b
same_commute false true = false
same_commute false false = true

abbrev pub agree_by : ℕ → Option Bool → ℕ → Option Bool → Bool
agree_by m None n None = m == n
agree_by m (Some b) n (Some c) = same_commute b c
agree_by m _ n _ = false

-- both predefined and the same, or both created and of one commutativity
abbrev pub agree : Oper → Oper → Bool
agree p q = agree_by p.number p.commute q.number q.commute

-- C3 at a call, where its operation doesn't agree with that of the first
abbrev pub operation_by : Place → Option Oper → Place → Option Oper → Option Finding
operation_by see (Some p) place (Some q) =
    if agree p q then None
    else Some (record { rank = place.rank; call = place.call; rule = C3; part = 0; see = Some see; value = pos q.number })
operation_by _ _ _ _ = None

abbrev pub operation_row : Option WaveItem → WaveItem → Option Finding
operation_row (Some first) x = if x.counts then operation_by first.place first.operation x.place x.operation else None
operation_row None x = None

-- the rows C2 and C3 of a wave
abbrev pub IsAgreementRow : List WaveItem → Finding → Type 0
IsAgreementRow calls f = GivenBy (root_row (length calls) (first_counting calls)) calls f ⊎ GivenBy (operation_row (first_counting calls)) calls f
