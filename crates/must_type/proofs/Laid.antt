-- From the numbers of one old type to the map of what a call makes of it.
use Rattle.std.proofs.Common.{◌≡◌, refl, sym, ◌∙◌, ap, arith, ℕ, ◌<◌, ℤ, pos, ◌+ℤ◌, ◌*ℤ◌, List, [], ◌∷◌, length, get_or}
use Rattle.must_type.specs.declared.facts.Facts.{Facts}
use Rattle.must_type.specs.declared.summary.Summary.{Summary}
use Rattle.must_type.specs.Maps.{Entry, extent, block}
use Rattle.must_type.specs.declared.construct.StructItem.{StructItem}
use Rattle.must_type.specs.declared.construct.Construct.{Construct}
use Rattle.must_type.specs.declared.construct.Construct.TheVariants.{Struct}
use Rattle.must_type.specs.Constructs.{the_old, map_of, vector_map, hvector_map, resized_map}
use Rattle.must_type.specs.Weights.{old_of, Old, weight_of}
use Rattle.must_type.specs.Olds.{HasOneOld}
use Rattle.must_type.specs.Summaries.{summary, repeated, marked}
use Rattle.must_type.specs.Tree.{type_map, type_maps}
use Rattle.must_type.specs.View.{trees_of}
use Rattle.must_type.specs.Facts.{IsOf}
use Rattle.must_type.proofs.FormLaws.{summary-contiguous, summary-vector, summary-hvector, summary-resized}
use Rattle.must_type.proofs.Rows.{Shared}

pub first_is : (olds : List Shared) (f : Facts) → 0 < length olds → ((d : Shared) → IsOf (type_map (get_or olds 0 d).value) f) → IsOf (the_old (type_maps (trees_of olds))) f
first_is [] f h is = absurd (omega arith)
first_is (t ∷ ts) f h is = is t

pub contiguous_is : (n : ℕ) (T : List Entry) (f : Facts) → IsOf T f → repeated n f.bounds.extent f.summary ≡ summary (block n T (pos 0))
contiguous_is n T f h = ap (λ (e : ℤ). repeated n e f.summary) h.extent_is ∙ ap (repeated n (extent T)) h.summary_is ∙ sym (summary-contiguous n T)

pub vector_is : (count blocklength : ℕ) (stride : ℤ) (T : List Entry) (f : Facts) → IsOf T f → repeated count (stride *ℤ f.bounds.extent) (repeated blocklength f.bounds.extent f.summary) ≡ summary (vector_map count blocklength stride T)
vector_is count blocklength stride T f h =
    ap (λ (e : ℤ). repeated count (stride *ℤ e) (repeated blocklength e f.summary)) h.extent_is ∙ ap (λ (s : Summary). repeated count (stride *ℤ extent T) (repeated blocklength (extent T) s)) h.summary_is ∙ sym (summary-vector count blocklength stride T)

pub hvector_is : (count blocklength : ℕ) (stride : ℤ) (T : List Entry) (f : Facts) → IsOf T f → repeated count stride (repeated blocklength f.bounds.extent f.summary) ≡ summary (hvector_map count blocklength stride T)
hvector_is count blocklength stride T f h =
    ap (λ (e : ℤ). repeated count stride (repeated blocklength e f.summary)) h.extent_is ∙ ap (λ (s : Summary). repeated count stride (repeated blocklength (extent T) s)) h.summary_is ∙ sym (summary-hvector count blocklength stride T)

pub resized_is : (lb e : ℤ) (T : List Entry) (f : Facts) → IsOf T f → marked lb (lb +ℤ e) f.summary ≡ summary (resized_map lb e T)
resized_is lb e T f h = ap (marked lb (lb +ℤ e)) h.summary_is ∙ sym (summary-resized lb e T)

pub one_old : (call : Construct) → ((x : List StructItem) → call ≡ Struct x → ⊥) → HasOneOld call
one_old (Struct blocks) h = h blocks refl
one_old _ h = tt

pub map_of_one : (call : Construct) (maps : List (List Entry)) → HasOneOld call → map_of call (the_old maps ∷ []) ≡ map_of call maps
map_of_one (Struct blocks) maps h = absurd h
map_of_one _ maps h = refl

pub weight_of_one : (call : Construct) (olds : List Old) → HasOneOld call → weight_of call (old_of olds ∷ []) ≡ weight_of call olds
weight_of_one (Struct blocks) olds h = absurd h
weight_of_one _ olds h = refl
