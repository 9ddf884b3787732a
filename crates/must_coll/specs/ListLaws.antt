-- Laws of lists.
use Rattle.std.proofs.Common.{◌≡◌, ℕ, zero, suc, Bool, true, false, cond, List, [], ◌∷◌, ◌++◌, length, Option, Some, None, sym, ap, refl, ◌∙◌, inl, inr}
use Rattle.std.specs.Prelude.{slice_get, filter, find, ◌↔◌}
use Rattle.must_base.specs.Listing.{Has}

pub some_is : {X : Type 0} (x y : X) → Some x ≡ Some y → x ≡ y
some_is x y e = cc

pub none_is : {X : Type 0} (y : X) → None ≡ Some y → ⊥
none_is y e = cc

nothing_at : {X : Type 0} (n : ℕ) (x : X) → slice_get [] n ≡ Some x → ⊥
nothing_at n x e = none_is x e

-- what stands at a place stays there, whatever follows
pub get_before : {X : Type 0} (xs zs : List X) (n : ℕ) (y : X) → slice_get xs n ≡ Some y → slice_get (xs ++ zs) n ≡ Some y
get_before [] zs n y e = absurd (nothing_at n y e)
get_before (x ∷ xs) zs zero y e = e
get_before (x ∷ xs) zs (suc n) y e = get_before xs zs n y e

pub get_last : {X : Type 0} (xs : List X) (x : X) → slice_get (xs ++ x ∷ []) (length xs) ≡ Some x
get_last [] x = refl
get_last (y ∷ xs) x = get_last xs x

pub has_before : {X : Type 0} (xs zs : List X) (y : X) → Has xs y → Has (xs ++ zs) y
has_before [] zs y h = absurd h
has_before (x ∷ xs) zs y (inl e) = inl e
has_before (x ∷ xs) zs y (inr h) = inr (has_before xs zs y h)

pub has_last : {X : Type 0} (xs : List X) (x : X) → Has (xs ++ x ∷ []) x
has_last [] x = inl refl
has_last (y ∷ xs) x = inr (has_last xs x)

in_filter : {X : Type 0} (p : X → Bool) (b : Bool) (y : X) (l ys : List X) (x : X) → p y ≡ b → (Has l x ↔ (Has ys x × (p x ≡ true))) → Has (cond b (y ∷ l) l) x ↔ (Has (y ∷ ys) x × (p x ≡ true))
in_filter p true y l ys x e rest = (
  λ h. elim h [ inl is ↦ (inl is, ap p is ∙ e) | inr t ↦ let r = rest.0 t in (inr r.0, r.1) ],
  λ h. elim h.0 [ inl is ↦ inl is | inr t ↦ inr (rest.1 (t, h.1)) ],
)
in_filter p false y l ys x e rest = (
  λ h. let r = rest.0 h in (inr r.0, r.1),
  λ h. elim h.0 [ inl is ↦ absurd (let n : true ≡ false = sym h.1 ∙ ap p is ∙ e in cc) | inr t ↦ rest.1 (t, h.1) ],
)

pub has_filter : {X : Type 0} (p : X → Bool) (xs : List X) (x : X) → Has (filter p xs) x ↔ (Has xs x × (p x ≡ true))
has_filter p [] x = (λ h. absurd h, λ h. absurd h.0)
has_filter p (y ∷ ys) x = in_filter p (p y) y (filter p ys) ys x refl (has_filter p ys x)

found_at : {X : Type 0} (q : X → Bool) (y : X) (b : Bool) (ys : List X) (o : Option X) (x : X) → q y ≡ b → cond b (Some y) o ≡ Some x → (o ≡ Some x → Has ys x × (q x ≡ true)) → Has (y ∷ ys) x × (q x ≡ true)
found_at q y true ys o x e is rest = let s : y ≡ x = let n : Some y ≡ Some x = is in cc in (inl (sym s), ap q (sym s) ∙ e)
found_at q y false ys o x e is rest = let r = rest is in (inr r.0, r.1)

-- what a search finds
pub found : {X : Type 0} (q : X → Bool) (xs : List X) (x : X) → find q xs ≡ Some x → Has xs x × (q x ≡ true)
found q [] x e = let n : None ≡ Some x = e in cc
found q (y ∷ ys) x e = found_at q y (q y) ys (find q ys) x refl e (found q ys x)

missed_at : {X : Type 0} (q : X → Bool) (y : X) (b : Bool) (ys : List X) (o : Option X) (x : X) → q y ≡ b → cond b (Some y) o ≡ None → (o ≡ None → Has ys x → q x ≡ true → ⊥) → Has (y ∷ ys) x → q x ≡ true → ⊥
missed_at q y true ys o x e is rest h qx = let n : Some y ≡ None = is in cc
missed_at q y false ys o x e is rest (inl s) qx = let n : true ≡ false = sym qx ∙ ap q s ∙ e in cc
missed_at q y false ys o x e is rest (inr h) qx = rest is h qx

-- what a search misses
pub missed : {X : Type 0} (q : X → Bool) (xs : List X) (x : X) → find q xs ≡ None → Has xs x → q x ≡ true → ⊥
missed q [] x e h qx = h
missed q (y ∷ ys) x e h qx = missed_at q y (q y) ys (find q ys) x refl e (missed q ys x) h qx

-- what stands at a place stands there
pub has_at : {X : Type 0} (xs : List X) (k : ℕ) (x : X) → slice_get xs k ≡ Some x → Has xs x
has_at [] k x e = absurd (nothing_at k x e)
has_at (y ∷ ys) zero x e = inl (sym (some_is y x e))
has_at (y ∷ ys) (suc k) x e = inr (has_at ys k x e)
