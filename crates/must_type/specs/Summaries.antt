-- A map in a few numbers, from which its bounds follow, and how they change as maps are moved, joined and repeated.
use Rattle.std.specs.Prelude.{ℕ, zero, suc, ◌+◌, ◌*◌, ◌^◌, ◌≤◌, max, ℤ, pos, ◌+ℤ◌, ◌-ℤ◌, ◌*ℤ◌, ◌≤ℤ◌, List, [], ◌∷◌, Option, Some, None}
use Rattle.std.specs.Int.{int_min, int_max}
use Rattle.must_call.specs.Basics.{size_of}
use Rattle.must_type.specs.declared.bounds.Bounds.{Bounds}
use Rattle.must_type.specs.declared.summary.Span.{Span}
use Rattle.must_type.specs.declared.summary.Summary.{Summary}
use Rattle.must_type.specs.Maps.{Entry, Element, LowerMarker, UpperMarker, size, alignment, padded}

abbrev pub element_span : Entry → Option Span
element_span (Element b d) = Some (record { low = d; high = d +ℤ pos (size_of b) })
element_span (LowerMarker d) = None
element_span (UpperMarker d) = None

abbrev pub lower_span : Entry → Option Span
lower_span (Element b d) = None
lower_span (LowerMarker d) = Some (record { low = d; high = d })
lower_span (UpperMarker d) = None

abbrev pub upper_span : Entry → Option Span
upper_span (Element b d) = None
upper_span (LowerMarker d) = None
upper_span (UpperMarker d) = Some (record { low = d; high = d })

abbrev pub both_spans : Span → Span → Span
both_spans s t = record { low = int_min s.low t.low; high = int_max s.high t.high }

abbrev pub span_join : Option Span → Option Span → Option Span
span_join None t = t
span_join (Some s) None = Some s
span_join (Some s) (Some t) = Some (both_spans s t)

abbrev pub moved_span : ℤ → Span → Span
moved_span d s = record { low = s.low +ℤ d; high = s.high +ℤ d }

abbrev pub span_moved : ℤ → Option Span → Option Span
span_moved d None = None
span_moved d (Some s) = Some (moved_span d s)

-- the hull of n copies, each a stride behind the one before: that of the first and the last
abbrev pub span_repeated : ℕ → ℤ → Option Span → Option Span
span_repeated zero stride s = None
span_repeated (suc n) stride s = span_join s (span_moved (pos n *ℤ stride) s)

abbrev pub hull : (Entry → Option Span) → List Entry → Option Span
hull span [] = None
hull span (e ∷ es) = span_join (span e) (hull span es)

unfoldable pub summary : List Entry → Summary
summary es = record { size = size es; alignment = alignment es; elements = hull element_span es; lowers = hull lower_span es; uppers = hull upper_span es }

unfoldable pub no_entries : Summary
no_entries = record { size = 0; alignment = 1; elements = None; lowers = None; uppers = None }

unfoldable pub join : Summary → Summary → Summary
join s t =
    record {
      size = s.size + t.size;
      alignment = max s.alignment t.alignment;
      elements = span_join s.elements t.elements;
      lowers = span_join s.lowers t.lowers;
      uppers = span_join s.uppers t.uppers;
    }

unfoldable pub shift : ℤ → Summary → Summary
shift d s =
    record {
      size = s.size;
      alignment = s.alignment;
      elements = span_moved d s.elements;
      lowers = span_moved d s.lowers;
      uppers = span_moved d s.uppers;
    }

unfoldable pub repeated : ℕ → ℤ → Summary → Summary
repeated zero stride s = no_entries
repeated (suc n) stride s =
    record {
      size = suc n * s.size;
      alignment = s.alignment;
      elements = span_repeated (suc n) stride s.elements;
      lowers = span_repeated (suc n) stride s.lowers;
      uppers = span_repeated (suc n) stride s.uppers;
    }

-- the basics alone
unfoldable pub unmarked : Summary → Summary
unmarked s = record { size = s.size; alignment = s.alignment; elements = s.elements; lowers = None; uppers = None }

-- the basics alone, with one marker of each bound
unfoldable pub marked : ℤ → ℤ → Summary → Summary
marked lb ub s =
    record {
      size = s.size;
      alignment = s.alignment;
      elements = s.elements;
      lowers = Some (record { low = lb; high = lb });
      uppers = Some (record { low = ub; high = ub });
    }

-- the span of all entries
abbrev pub whole_span : Summary → Option Span
whole_span s = span_join s.elements (span_join s.lowers s.uppers)

abbrev pub low_or_zero : Option Span → ℤ
low_or_zero None = pos 0
low_or_zero (Some s) = s.low

abbrev pub lower_by : Option Span → Option Span → ℤ
lower_by None all = low_or_zero all
lower_by (Some markers) all = markers.low

unfoldable pub lower_bound : Summary → ℤ
lower_bound s = lower_by s.lowers (whole_span s)

abbrev pub upper_by : Option Span → Option Span → ℤ → ℕ → ℤ
upper_by None None low alignment = pos 0
upper_by None (Some all) low alignment = padded low alignment all.high
upper_by (Some markers) all low alignment = markers.high

unfoldable pub upper_bound : Summary → ℤ
upper_bound s = upper_by s.uppers (whole_span s) (lower_bound s) s.alignment

abbrev pub bounds_by : Summary → Bounds
bounds_by s = record { size = pos s.size; lb = lower_bound s; ub = upper_bound s; extent = upper_bound s -ℤ lower_bound s }

-- no further than n bytes from 0 on either side
pub record IsBoundedSpan (n : ℕ) (s : Span) : Type 0 where
  pub low : (pos 0 -ℤ pos n) ≤ℤ s.low
  pub high : s.high ≤ℤ pos n

abbrev pub AreBounded : ℕ → Option Span → Type 0
AreBounded n None = Unit {0}
AreBounded n (Some s) = IsBoundedSpan n s

pub record IsBoundedBy (n : ℕ) (s : Summary) : Type 0 where
  pub elements : AreBounded n s.elements
  pub lowers : AreBounded n s.lowers
  pub uppers : AreBounded n s.uppers

abbrev pub AreOrdered : Option Span → Type 0
AreOrdered None = Unit {0}
AreOrdered (Some s) = s.low ≤ℤ s.high

-- no span ends before it begins
pub record IsOrdered (s : Summary) : Type 0 where
  pub elements : AreOrdered s.elements
  pub lowers : AreOrdered s.lowers
  pub uppers : AreOrdered s.uppers

-- the map lies within reach, but for its padded end
pub record Fits (s : Summary) : Type 0 where
  pub small : s.size ≤ 2 ^ 62
  pub near : IsBoundedBy (2 ^ 62) s
