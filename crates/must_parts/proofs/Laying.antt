-- What is laid out, block by block.
use Rattle.std.proofs.Common.{◌≡◌, ℕ, ◌<◌, Bool, true, false, ◌||◌, ◌⊎◌, inl, inr, ◌↔◌, List, [], ◌∷◌, ◌++◌, flat_map, take, drop, refl, sym, ap, subst, ◌∙◌, arith}
use Rattle.std.specs.Prelude.{ℤ, nat_lt}
use Rattle.std.specs.List.{list_any}
use Rattle.std.proofs.lemmas.Grind.{flat_map-append}
use Rattle.std.proofs.lemmas.List.{append-nil, take-append-drop}
use Rattle.std.proofs.lemmas.List.Folds.{list_any-append}
use Rattle.must_type.specs.Maps.{Entry}
use Rattle.must_type.specs.Tree.{TypeTree}
use Rattle.must_span.specs.declared.ranges.AddressRange.{AddressRange}
use Rattle.must_span.specs.Ranges.{Covers}
use Rattle.must_span.specs.Bytes.{Holds, AreBytes}
use Rattle.must_rules.specs.Parts.{Block, block_map}
use Rattle.must_rules.specs.Overlaps.{overlap}

pub holds_left : (es fs : List Entry) (x : ℤ) → Holds es x → Holds (es ++ fs) x
holds_left [] fs x h = absurd h
holds_left (e ∷ es) fs x (inl h) = inl h
holds_left (e ∷ es) fs x (inr h) = inr (holds_left es fs x h)

pub holds_right : (es fs : List Entry) (x : ℤ) → Holds fs x → Holds (es ++ fs) x
holds_right [] fs x h = h
holds_right (e ∷ es) fs x h = inr (holds_right es fs x h)

pub holds_split : (es fs : List Entry) (x : ℤ) → Holds (es ++ fs) x → Holds es x ⊎ Holds fs x
holds_split [] fs x h = inr h
holds_split (e ∷ es) fs x (inl h) = inl (inl h)
holds_split (e ∷ es) fs x (inr h) = elim (holds_split es fs x h) [ inl p ↦ inl (inr p) | inr q ↦ inr q ]

-- both lists of ranges together
pub bytes_joined : (t : TypeTree) (bs cs : List Block) (old other new : List AddressRange) → ((x : ℤ) → Covers new x ↔ (Covers old x ⊎ Covers other x))
    → AreBytes old (flat_map (block_map t) bs) → AreBytes other (flat_map (block_map t) cs) → AreBytes new (flat_map (block_map t) (bs ++ cs))
bytes_joined t bs cs old other new union p q =
    subst (AreBytes new) (sym (flat_map-append (block_map t) bs cs)) (λ x. (there x, back x))
  where
    there : (x : ℤ) → Covers new x → Holds (flat_map (block_map t) bs ++ flat_map (block_map t) cs) x
    there x h = elim ((union x).0 h) [ inl a ↦ holds_left (flat_map (block_map t) bs) (flat_map (block_map t) cs) x ((p x).0 a) | inr b ↦ holds_right (flat_map (block_map t) bs) (flat_map (block_map t) cs) x ((q x).0 b) ]

    back : (x : ℤ) → Holds (flat_map (block_map t) bs ++ flat_map (block_map t) cs) x → Covers new x
    back x h = elim (holds_split (flat_map (block_map t) bs) (flat_map (block_map t) cs) x h) [ inl a ↦ (union x).1 (inl ((p x).1 a)) | inr b ↦ (union x).1 (inr ((q x).1 b)) ]

pub one_block : (t : TypeTree) (b : Block) → flat_map (block_map t) (b ∷ []) ≡ block_map t b
one_block t b = append-nil (block_map t b)

or_none : (b : Bool) → (b || false) ≡ b
or_none true = refl
or_none false = refl

pub one_overlap : (t : TypeTree) (b : Block) → list_any (λ c. overlap (block_map t c)) (b ∷ []) ≡ overlap (block_map t b)
one_overlap t b = or_none (overlap (block_map t b))

pub overlaps_joined : (t : TypeTree) (bs cs : List Block) → list_any (λ c. overlap (block_map t c)) (bs ++ cs) ≡ (list_any (λ c. overlap (block_map t c)) bs || list_any (λ c. overlap (block_map t c)) cs)
overlaps_joined t bs cs = list_any-append (λ c. overlap (block_map t c)) bs cs

pub both_either : (t : TypeTree) (bs cs : List Block) (a b : Bool) → a ≡ list_any (λ c. overlap (block_map t c)) bs → b ≡ list_any (λ c. overlap (block_map t c)) cs → (a || b) ≡ list_any (λ c. overlap (block_map t c)) (bs ++ cs)
both_either t bs cs a b p q = ap (λ (m : Bool). m || b) p ∙ ap (λ (m : Bool). list_any (λ c. overlap (block_map t c)) bs || m) q ∙ sym (overlaps_joined t bs cs)

pub lt_from : (r m n : ℕ) → m ≡ n → nat_lt r m ≡ true → r < n
lt_from r m n e h = let less : r < m = grind arith in omega (arith, less, e)

pub lt_to : (r m n : ℕ) → m ≡ n → r < n → nat_lt r m ≡ true
lt_to r m n e h = let less : r < m = omega (arith, h, e) in grind arith

pub halves : {X : Type 0} (xs front back : List X) (mid : ℕ) → front ≡ take mid xs → back ≡ drop mid xs → front ++ back ≡ xs
halves {X = X} xs front back mid f b = ap (λ (l : List X). l ++ back) f ∙ ap (λ (l : List X). take mid xs ++ l) b ∙ take-append-drop mid xs

-- ranges joined to none
pub bytes_copied : (old other new : List AddressRange) (es : List Entry) → old ≡ [] → ((x : ℤ) → Covers new x ↔ (Covers old x ⊎ Covers other x)) → AreBytes other es → AreBytes new es
bytes_copied old other new es none union are = λ x. (there x, back x)
  where
    none_of : (x : ℤ) → Covers old x → ⊥
    none_of x h = subst (λ (l : List AddressRange). Covers l x) none h

    there : (x : ℤ) → Covers new x → Holds es x
    there x h = elim ((union x).0 h) [ inl a ↦ absurd (none_of x a) | inr b ↦ (are x).0 b ]

    back : (x : ℤ) → Holds es x → Covers new x
    back x h = (union x).1 (inr ((are x).1 h))
