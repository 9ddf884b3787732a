-- What a type knows of itself, for basic types and for what a call makes.
use Rattle.std.proofs.Common.{◌≡◌, refl, sym, ◌∙◌, ap, arith, ℕ, ◌≤◌, ℤ, pos, ◌-ℤ◌, List, Some, None}
use Rattle.std.proofs.lemmas.Int.{ints}
use Rattle.must_call.specs.declared.basic.Basic.{Basic}
use Rattle.must_call.specs.declared.basic.Basic.TheVariants.{Char, SignedChar, UnsignedChar, Byte, Short, UnsignedShort, Int, Unsigned, Long, UnsignedLong, LongLong, UnsignedLongLong, Float, Double, LongDouble, Wchar, CBool, Int8, Int16, Int32, Int64, Uint8, Uint16, Uint32, Uint64}
use Rattle.must_call.specs.Basics.{size_of}
use Rattle.must_type.specs.declared.bounds.Bounds.{Bounds}
use Rattle.must_type.specs.declared.facts.Facts.{Facts}
use Rattle.must_type.specs.declared.summary.Summary.{Summary}
use Rattle.must_type.specs.Maps.{Entry, size, lower, upper, extent}
use Rattle.must_type.specs.Summaries.{summary, lower_bound, bounds_by}
use Rattle.must_type.specs.Tree.{TypeTree, Elementary, type_map, depth, weight}
use Rattle.must_type.specs.Facts.{bounds_of, facts_of}
use Rattle.must_type.specs.Making.{IsMakeable}
use Rattle.must_type.proofs.Reach.{lower-summary, upper-summary}

-- what a basic type of n bytes knows of itself
abbrev pub basic_facts : ℕ → Facts
basic_facts n =
    record {
      summary = record { size = n; alignment = n; elements = Some (record { low = pos 0; high = pos n }); lowers = None; uppers = None };
      bounds = record { size = pos n; lb = pos 0; ub = pos n; extent = pos n };
      depth = 0;
      weight = 1;
    }

pub elementary_facts : (b : Basic) → basic_facts (size_of b) ≡ facts_of (Elementary b)
unfolding facts_of bounds_of summary lower upper extent
elementary_facts Char = refl
elementary_facts SignedChar = refl
elementary_facts UnsignedChar = refl
elementary_facts Byte = refl
elementary_facts Short = refl
elementary_facts UnsignedShort = refl
elementary_facts Int = refl
elementary_facts Unsigned = refl
elementary_facts Long = refl
elementary_facts UnsignedLong = refl
elementary_facts LongLong = refl
elementary_facts UnsignedLongLong = refl
elementary_facts Float = refl
elementary_facts Double = refl
elementary_facts LongDouble = refl
elementary_facts Wchar = refl
elementary_facts CBool = refl
elementary_facts Int8 = refl
elementary_facts Int16 = refl
elementary_facts Int32 = refl
elementary_facts Int64 = refl
elementary_facts Uint8 = refl
elementary_facts Uint16 = refl
elementary_facts Uint32 = refl
elementary_facts Uint64 = refl

size_some : (b : Basic) → size_of b ≤ 16
size_some Char = omega arith
size_some SignedChar = omega arith
size_some UnsignedChar = omega arith
size_some Byte = omega arith
size_some Short = omega arith
size_some UnsignedShort = omega arith
size_some Int = omega arith
size_some Unsigned = omega arith
size_some Long = omega arith
size_some UnsignedLong = omega arith
size_some LongLong = omega arith
size_some UnsignedLongLong = omega arith
size_some Float = omega arith
size_some Double = omega arith
size_some LongDouble = omega arith
size_some Wchar = omega arith
size_some CBool = omega arith
size_some Int8 = omega arith
size_some Int16 = omega arith
size_some Int32 = omega arith
size_some Int64 = omega arith
size_some Uint8 = omega arith
size_some Uint16 = omega arith
size_some Uint32 = omega arith
size_some Uint64 = omega arith

pub elementary_makeable : (b : Basic) → IsMakeable (Elementary b)
unfolding facts_of bounds_of
elementary_makeable b =
    let n = size_some b in
    let f = elementary_facts b in
    let l : lower (type_map (Elementary b)) ≡ pos 0 = sym (ap (λ (g : Facts). g.bounds.lb) f) in
    let u : upper (type_map (Elementary b)) ≡ pos (size_of b) = sym (ap (λ (g : Facts). g.bounds.ub) f) in
    record {
      reach = record {
        shallow = omega arith;
        small = omega (arith, n);
        lower_near = record { low = omega (arith, ints, l); high = omega (arith, ints, l) };
        upper_near = record { low = omega (arith, ints, u); high = omega (arith, ints, u, n) };
        entries_near = (record { begins = record { low = omega (arith, ints); high = omega (arith, ints) }; ends = record { low = omega (arith, ints, n); high = omega (arith, ints, n) } }, tt);
      };
      made = tt;
      light = omega arith;
    }

bounds_are : (es : List Entry) → bounds_by (summary es) ≡ bounds_of es
unfolding bounds_of extent summary
bounds_are es =
    let l = lower-summary es in
    let u = upper-summary es in
    sym (ap (λ (x : ℤ). let b : Bounds = record { size = pos (size es); lb = x; ub = upper es; extent = upper es -ℤ x } in b) l ∙ ap (λ (x : ℤ). let b : Bounds = record { size = pos (size es); lb = lower_bound (summary es); ub = x; extent = x -ℤ lower_bound (summary es) } in b) u)

-- the facts of a type are what the code gathers
pub facts_are : (t : TypeTree) (s : Summary) (b : Bounds) (d w : ℕ) → s ≡ summary (type_map t) → b ≡ bounds_by s → d ≡ depth t → w ≡ weight t → record { summary = s; bounds = b; depth = d; weight = w } ≡ facts_of t
unfolding facts_of
facts_are t s b d w p q r x =
    let bounds : b ≡ bounds_of (type_map t) = q ∙ ap bounds_by p ∙ bounds_are (type_map t) in
    ap (λ (y : Summary). let f : Facts = record { summary = y; bounds = b; depth = d; weight = w } in f) p ∙ ap (λ (y : Bounds). let f : Facts = record { summary = summary (type_map t); bounds = y; depth = d; weight = w } in f) bounds ∙
    ap (λ (y : ℕ). let f : Facts = record { summary = summary (type_map t); bounds = bounds_of (type_map t); depth = y; weight = w } in f) r ∙ ap (λ (y : ℕ). let f : Facts = record { summary = summary (type_map t); bounds = bounds_of (type_map t); depth = depth t; weight = y } in f) x

unfoldable gathered : ℤ → ℤ → ℤ → ℤ → Bounds
gathered n l u e = record { size = n; lb = l; ub = u; extent = e }

gathered_same : (n m l k u v e f : ℤ) → n ≡ m → l ≡ k → u ≡ v → e ≡ f → gathered n l u e ≡ gathered m k v f
gathered_same n m l k u v e f p q r s = cc

pub same_bounds : (a b : Bounds) → a.size ≡ b.size → a.lb ≡ b.lb → a.ub ≡ b.ub → a.extent ≡ b.extent → a ≡ b
unfolding gathered
same_bounds a b p q r s = gathered_same a.size b.size a.lb b.lb a.ub b.ub a.extent b.extent p q r s

pub basic_read : (n size align : ℕ) (high : ℤ) → size ≡ n → align ≡ n → high ≡ pos n →
    record {
      summary = record { size = size; alignment = align; elements = Some (record { low = pos 0; high = high }); lowers = None; uppers = None };
      bounds = record { size = high; lb = pos 0; ub = high; extent = high };
      depth = 0;
      weight = 1;
    } ≡ basic_facts n
basic_read n size align high p q r =
    ap (λ (x : ℕ). let f : Facts = record { summary = record { size = x; alignment = align; elements = Some (record { low = pos 0; high = high }); lowers = None; uppers = None }; bounds = record { size = high; lb = pos 0; ub = high; extent = high }; depth = 0; weight = 1 } in f) p ∙
    ap (λ (x : ℕ). let f : Facts = record { summary = record { size = n; alignment = x; elements = Some (record { low = pos 0; high = high }); lowers = None; uppers = None }; bounds = record { size = high; lb = pos 0; ub = high; extent = high }; depth = 0; weight = 1 } in f) q ∙
    ap (λ (x : ℤ). let f : Facts = record { summary = record { size = n; alignment = n; elements = Some (record { low = pos 0; high = x }); lowers = None; uppers = None }; bounds = record { size = x; lb = pos 0; ub = x; extent = x }; depth = 0; weight = 1 } in f) r
