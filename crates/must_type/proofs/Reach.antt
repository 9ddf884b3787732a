-- The bounds of a map and its reach follow from its summary.
use Rattle.std.proofs.Common.{◌≡◌, refl, sym, ◌∙◌, ap, arith, ℕ, ◌≤◌, ◌^◌, ℤ, pos, List, [], ◌∷◌, Option, Some, None, map}
use Rattle.std.specs.Option.{unwrap_or}
use Rattle.std.specs.List.{AllByRecursion}
use Rattle.std.proofs.lemmas.Int.{ints, clamps}
use Rattle.must_type.specs.declared.summary.Span.{Span}
use Rattle.must_type.specs.declared.summary.Summary.{Summary}
use Rattle.must_type.specs.Maps.{Entry, Element, LowerMarker, UpperMarker, displacement, end_of, smaller, greater, least, greatest, lower_markers, upper_markers, lower, upper, padded_end, alignment, size, IsBounded}
use Rattle.must_type.specs.Summaries.{span_join, hull, element_span, lower_span, upper_span, whole_span, lower_by, upper_by, lower_bound, upper_bound, summary, AreBounded, IsBoundedBy, AreOrdered, IsOrdered, Fits, join}
use Rattle.must_type.specs.Tree.{TypeTree, type_map, depth, IsNearEntry, IsWithinReach}
use Rattle.must_type.proofs.Summed.{summary-append}
use Rattle.must_type.proofs.Spans.{join_assoc, join_comm}

-- the span of each entry
abbrev entry_span : Entry → Span
entry_span e = record { low = displacement e; high = end_of e }

abbrev any_span : Entry → Option Span
any_span e = Some (entry_span e)

abbrev low_of : Option Span → Option ℤ
low_of None = None
low_of (Some s) = Some s.low

abbrev high_of : Option Span → Option ℤ
high_of None = None
high_of (Some s) = Some s.high

low_join : (s : Span) (h : Option Span) → low_of (span_join (Some s) h) ≡ Some (smaller s.low (low_of h))
low_join s None = refl
low_join s (Some h) = refl

high_join : (s : Span) (h : Option Span) → high_of (span_join (Some s) h) ≡ Some (greater s.high (high_of h))
high_join s None = refl
high_join s (Some h) = refl

least_any : (es : List Entry) → least (map displacement es) ≡ low_of (hull any_span es)
least_any [] = refl
least_any (e ∷ es) = ap (λ (o : Option ℤ). Some (smaller (displacement e) o)) (least_any es) ∙ sym (low_join (entry_span e) (hull any_span es))

greatest_any : (es : List Entry) → greatest (map end_of es) ≡ high_of (hull any_span es)
greatest_any [] = refl
greatest_any (e ∷ es) = ap (λ (o : Option ℤ). Some (greater (end_of e) o)) (greatest_any es) ∙ sym (high_join (entry_span e) (hull any_span es))

least_lower : (es : List Entry) → least (lower_markers es) ≡ low_of (hull lower_span es)
least_lower [] = refl
least_lower (Element b d ∷ es) = least_lower es
least_lower (LowerMarker d ∷ es) = ap (λ (o : Option ℤ). Some (smaller d o)) (least_lower es) ∙ sym (low_join (record { low = d; high = d }) (hull lower_span es))
least_lower (UpperMarker d ∷ es) = least_lower es

greatest_upper : (es : List Entry) → greatest (upper_markers es) ≡ high_of (hull upper_span es)
greatest_upper [] = refl
greatest_upper (Element b d ∷ es) = greatest_upper es
greatest_upper (LowerMarker d ∷ es) = greatest_upper es
greatest_upper (UpperMarker d ∷ es) = ap (λ (o : Option ℤ). Some (greater d o)) (greatest_upper es) ∙ sym (high_join (record { low = d; high = d }) (hull upper_span es))

-- a span more in the second or the third of three
second : (x a b c : Option Span) → span_join x (span_join a (span_join b c)) ≡ span_join a (span_join (span_join x b) c)
second x a b c =
    sym (join_assoc x a (span_join b c)) ∙ ap (λ y. span_join y (span_join b c)) (join_comm x a) ∙ join_assoc a x (span_join b c) ∙ ap (span_join a) (sym (join_assoc x b c))

third : (x a b c : Option Span) → span_join x (span_join a (span_join b c)) ≡ span_join a (span_join b (span_join x c))
third x a b c =
    second x a b c ∙ ap (λ y. span_join a (span_join y c)) (join_comm x b) ∙ ap (span_join a) (join_assoc b x c)

-- all entries together
hull_any : (es : List Entry) → hull any_span es ≡ span_join (hull element_span es) (span_join (hull lower_span es) (hull upper_span es))
hull_any [] = refl
hull_any (Element b d ∷ es) = ap (span_join (any_span (Element b d))) (hull_any es) ∙ sym (join_assoc (any_span (Element b d)) (hull element_span es) (span_join (hull lower_span es) (hull upper_span es)))
hull_any (LowerMarker d ∷ es) = ap (span_join (any_span (LowerMarker d))) (hull_any es) ∙ second (any_span (LowerMarker d)) (hull element_span es) (hull lower_span es) (hull upper_span es)
hull_any (UpperMarker d ∷ es) = ap (span_join (any_span (UpperMarker d))) (hull_any es) ∙ third (any_span (UpperMarker d)) (hull element_span es) (hull lower_span es) (hull upper_span es)

lower_read : (markers all : Option Span) → unwrap_or (low_of markers) (unwrap_or (low_of all) (pos 0)) ≡ lower_by markers all
lower_read None None = refl
lower_read None (Some all) = refl
lower_read (Some m) all = refl

upper_read : (markers all : Option Span) (low : ℤ) (align : ℕ) → unwrap_or (high_of markers) (padded_end low align (high_of all)) ≡ upper_by markers all low align
upper_read None None low align = refl
upper_read None (Some all) low align = refl
upper_read (Some m) all low align = refl

pub lower-summary : (es : List Entry) → lower es ≡ lower_bound (summary es)
unfolding lower lower_bound summary
lower-summary es =
    ap (λ (o : Option ℤ). unwrap_or o (unwrap_or (least (map displacement es)) (pos 0))) (least_lower es) ∙ ap (λ (o : Option ℤ). unwrap_or (low_of (hull lower_span es)) (unwrap_or o (pos 0))) (least_any es ∙ ap low_of (hull_any es)) ∙ lower_read (hull lower_span es) (whole_span (summary es))

upper_lower : (es : List Entry) → unwrap_or (greatest (upper_markers es)) (padded_end (lower es) (alignment es) (greatest (map end_of es))) ≡ unwrap_or (greatest (upper_markers es)) (padded_end (lower_bound (summary es)) (alignment es) (greatest (map end_of es)))
upper_lower es = ap (λ (low : ℤ). unwrap_or (greatest (upper_markers es)) (padded_end low (alignment es) (greatest (map end_of es)))) (lower-summary es)

pub upper-summary : (es : List Entry) → upper es ≡ upper_bound (summary es)
unfolding upper upper_bound summary
upper-summary es =
    upper_lower es ∙ ap (λ (o : Option ℤ). unwrap_or o (padded_end (lower_bound (summary es)) (alignment es) (greatest (map end_of es)))) (greatest_upper es) ∙ ap (λ (o : Option ℤ). unwrap_or (high_of (hull upper_span es)) (padded_end (lower_bound (summary es)) (alignment es) o)) (greatest_any es ∙ ap high_of (hull_any es)) ∙ upper_read (hull upper_span es) (whole_span (summary es)) (lower_bound (summary es)) (alignment es)

-- ---- reach

bounded_join : (n : ℕ) (r s : Option Span) → AreBounded n (span_join r s) → AreBounded n r × AreBounded n s
bounded_join n None s h = (tt, h)
bounded_join n (Some r) None h = (h, tt)
bounded_join n (Some r) (Some s) h =
    (record { low = omega (arith, ints, clamps, h.low); high = omega (arith, ints, clamps, h.high) }, record { low = omega (arith, ints, clamps, h.low); high = omega (arith, ints, clamps, h.high) })

pub join_bounded : (n : ℕ) (r s : Option Span) → AreBounded n r → AreBounded n s → AreBounded n (span_join r s)
join_bounded n None s p q = q
join_bounded n (Some r) None p q = p
join_bounded n (Some r) (Some s) p q = record { low = omega (arith, ints, clamps, p.low, q.low); high = omega (arith, ints, clamps, p.high, q.high) }

pub bounded_by_join : (n : ℕ) (s t : Summary) → IsBoundedBy n (join s t) → IsBoundedBy n s × IsBoundedBy n t
unfolding join
bounded_by_join n s t h =
    let e = bounded_join n s.elements t.elements h.elements in
    let l = bounded_join n s.lowers t.lowers h.lowers in
    let u = bounded_join n s.uppers t.uppers h.uppers in
    (record { elements = e.0; lowers = l.0; uppers = u.0 }, record { elements = e.1; lowers = l.1; uppers = u.1 })

pub join_bounded_by : (n : ℕ) (s t : Summary) → IsBoundedBy n s → IsBoundedBy n t → IsBoundedBy n (join s t)
unfolding join
join_bounded_by n s t p q =
    record { elements = join_bounded n s.elements t.elements p.elements q.elements; lowers = join_bounded n s.lowers t.lowers p.lowers q.lowers; uppers = join_bounded n s.uppers t.uppers p.uppers q.uppers }

-- a part of what fits does
pub fits_join : (s t : Summary) → Fits (join s t) → Fits s
unfolding join
fits_join s t h = record { small = omega (arith, h.small); near = (bounded_by_join (2 ^ 62) s t h.near).0 }

near_entry : (e : Entry) → IsNearEntry e → IsBoundedBy (2 ^ 62) (summary (e ∷ []))
unfolding summary
near_entry (Element b d) h = record { elements = record { low = h.begins.low; high = h.ends.high }; lowers = tt; uppers = tt }
near_entry (LowerMarker d) h = record { elements = tt; lowers = record { low = h.begins.low; high = h.ends.high }; uppers = tt }
near_entry (UpperMarker d) h = record { elements = tt; lowers = tt; uppers = record { low = h.begins.low; high = h.ends.high } }

entry_near : (e : Entry) → IsBoundedBy (2 ^ 62) (summary (e ∷ [])) → IsNearEntry e
unfolding summary
entry_near (Element b d) h =
    record { begins = record { low = h.elements.low; high = omega (arith, ints, h.elements.high) }; ends = record { low = omega (arith, ints, h.elements.low); high = h.elements.high } }
entry_near (LowerMarker d) h = record { begins = record { low = h.lowers.low; high = h.lowers.high }; ends = record { low = h.lowers.low; high = h.lowers.high } }
entry_near (UpperMarker d) h = record { begins = record { low = h.uppers.low; high = h.uppers.high }; ends = record { low = h.uppers.low; high = h.uppers.high } }

pub near_summary : (es : List Entry) → AllByRecursion IsNearEntry es → IsBoundedBy (2 ^ 62) (summary es)
unfolding summary
near_summary [] h = record { elements = tt; lowers = tt; uppers = tt }
near_summary (e ∷ es) h = rw (summary-append (e ∷ []) es) (join_bounded_by (2 ^ 62) (summary (e ∷ [])) (summary es) (near_entry e h.0) (near_summary es h.1))

pub summary_near : (es : List Entry) → IsBoundedBy (2 ^ 62) (summary es) → AllByRecursion IsNearEntry es
summary_near [] h = tt
summary_near (e ∷ es) h =
    let both = bounded_by_join (2 ^ 62) (summary (e ∷ [])) (summary es) (rw (← summary-append (e ∷ []) es) h) in
    (entry_near e both.0, summary_near es both.1)

pub ordered_join : (r s : Option Span) → AreOrdered r → AreOrdered s → AreOrdered (span_join r s)
ordered_join None s p q = q
ordered_join (Some r) None p q = p
ordered_join (Some r) (Some s) p q = omega (arith, ints, clamps, p, q)

ordered_entry : (e : Entry) → AreOrdered (element_span e) × AreOrdered (lower_span e) × AreOrdered (upper_span e)
ordered_entry (Element b d) = (omega (arith, ints), tt, tt)
ordered_entry (LowerMarker d) = (tt, omega (arith, ints), tt)
ordered_entry (UpperMarker d) = (tt, tt, omega (arith, ints))

pub ordered : (es : List Entry) → IsOrdered (summary es)
unfolding summary
ordered [] = record { elements = tt; lowers = tt; uppers = tt }
ordered (e ∷ es) =
    let o = ordered_entry e in
    let r = ordered es in
    record {
      elements = ordered_join (element_span e) (hull element_span es) o.0 r.elements;
      lowers = ordered_join (lower_span e) (hull lower_span es) o.1 r.lowers;
      uppers = ordered_join (upper_span e) (hull upper_span es) o.2 r.uppers;
    }

low_near : (markers all : Option Span) → AreBounded (2 ^ 62) markers → AreOrdered markers → AreBounded (2 ^ 62) all → AreOrdered all → IsBounded (2 ^ 62) (lower_by markers all)
low_near None None p o q r = record { low = omega (arith, ints); high = omega (arith, ints) }
low_near None (Some s) p o q r = record { low = q.low; high = omega (arith, ints, q.high, r) }
low_near (Some s) all p o q r = record { low = p.low; high = omega (arith, ints, p.high, o) }

pub whole_bounded : (n : ℕ) (s : Summary) → IsBoundedBy n s → AreBounded n (whole_span s)
whole_bounded n s h = join_bounded n s.elements (span_join s.lowers s.uppers) h.elements (join_bounded n s.lowers s.uppers h.lowers h.uppers)

pub whole_ordered : (s : Summary) → IsOrdered s → AreOrdered (whole_span s)
whole_ordered s h = ordered_join s.elements (span_join s.lowers s.uppers) h.elements (ordered_join s.lowers s.uppers h.lowers h.uppers)

pub lower_near : (s : Summary) → Fits s → IsOrdered s → IsBounded (2 ^ 62) (lower_bound s)
unfolding lower_bound
lower_near s h o = low_near s.lowers (whole_span s) h.near.lowers o.lowers (whole_bounded (2 ^ 62) s h.near) (whole_ordered s o)

pub size-summary : (es : List Entry) → (summary es).size ≡ size es
unfolding summary
size-summary es = refl

pub fits_within : (t : TypeTree) → depth t ≤ 256 → Fits (summary (type_map t)) → IsBounded (2 ^ 62) (upper_bound (summary (type_map t))) → IsWithinReach t
fits_within t d f u =
    record {
      shallow = d;
      small = rw (← size-summary (type_map t)) f.small;
      lower_near = rw (lower-summary (type_map t)) (lower_near (summary (type_map t)) f (ordered (type_map t)));
      upper_near = rw (upper-summary (type_map t)) u;
      entries_near = summary_near (type_map t) f.near;
    }

pub within_fits : (t : TypeTree) → IsWithinReach t → Fits (summary (type_map t)) × IsBounded (2 ^ 62) (upper_bound (summary (type_map t)))
within_fits t h = (record { small = rw (size-summary (type_map t)) h.small; near = near_summary (type_map t) h.entries_near }, rw (← upper-summary (type_map t)) h.upper_near)
