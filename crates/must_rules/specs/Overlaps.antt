-- Rules T1 and T2: buffers of one call that overlap (MPI 3.1 sections 3.2.4, 3.7.2, 4.1.11 and 5.2; docs/RULES.md).
use Rattle.std.specs.Prelude.{ℕ, ◌+◌, ℤ, pos, ◌+ℤ◌, Bool, true, false, ◌&&◌, ◌||◌, if◌then◌else◌, List, [], ◌∷◌, Option, Some, None, is_some, int_lt}
use Rattle.std.specs.Int.{int_min, int_max}
use Rattle.std.specs.List.{list_any}
use Rattle.must_call.specs.Basics.{size_of}
use Rattle.must_type.specs.Maps.{Entry, Element}
use Rattle.must_pending.specs.declared.access.Access.{Access}
use Rattle.must_pending.specs.declared.access.Access.TheVariants.{Reads, Writes}
use Rattle.must_rules.specs.Answer.{Answer, alone, at_part}
use Rattle.must_rules.specs.Parts.{Part, numbered, block_map, entries_of}

-- ---- addresses in common

-- the least address from one on and below another, where there is one
abbrev pub first_from : ℤ → ℤ → Option ℤ
first_from low high = if int_lt low high then Some low else None

-- the least address that two entries have in common; a marker has none
abbrev pub shared_by : Entry → Entry → Option ℤ
shared_by (Element b d) (Element c e) = first_from (int_max d e) (int_min (d +ℤ pos (size_of b)) (e +ℤ pos (size_of c)))
shared_by _ _ = None

-- the lesser of two, where both are there
abbrev pub lesser : Option ℤ → Option ℤ → Option ℤ
lesser None y = y
lesser (Some x) None = Some x
lesser (Some x) (Some y) = Some (int_min x y)

abbrev pub shared_with : Entry → List Entry → Option ℤ
shared_with e [] = None
shared_with e (f ∷ fs) = lesser (shared_by e f) (shared_with e fs)

-- the least address that an entry of one list has in common with one of the other
abbrev pub least_shared : List Entry → List Entry → Option ℤ
least_shared [] fs = None
least_shared (e ∷ es) fs = lesser (shared_with e fs) (least_shared es fs)

-- two of the entries have an address in common
abbrev pub overlap : List Entry → Bool
overlap [] = false
overlap (e ∷ es) = is_some (shared_with e es) || overlap es

-- ---- T1, a receive type that overlaps itself

abbrev pub is_written : Access → Bool
is_written Writes = true
is_written Reads = false

-- The part is written, and two entries of one of its blocks share a byte. Two blocks of a list by member aren't compared.
abbrev pub overlaps_itself : Part → Bool
overlaps_itself p = is_written p.access && list_any (λ b. overlap (block_map p.datatype b)) p.blocks

abbrev pub overlapping : Option Part → Option Answer
overlapping None = None
overlapping (Some p) = if overlaps_itself p then Some (alone (pos 0)) else None

-- T1 at a part
unfoldable pub overlap_within : List Part → (part : ℕ) → Option Answer
overlap_within parts part = overlapping (numbered part parts)

-- ---- T2, buffers of one call that overlap

abbrev pub valued : Option ℤ → Option Answer
valued (Some address) = Some (alone address)
valued None = None

abbrev pub shared_parts : Option Part → Option Part → Option Answer
shared_parts (Some p) (Some q) = valued (least_shared (entries_of p) (entries_of q))
shared_parts _ _ = None

-- T2 at a part: parts 0 and 1 share a byte, with the least address that they share
unfoldable pub overlap_between : List Part → (part : ℕ) → Option Answer
overlap_between parts part = at_part 1 (shared_parts (numbered 0 parts) (numbered 1 parts)) part
