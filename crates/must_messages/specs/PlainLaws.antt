-- Plain facts about options and truth values.
use Rattle.std.proofs.Common.{◌≡◌, Bool, true, false, ◌&&◌, Some, None, refl}

-- nothing is something
pub no_some : {X P : Type 0} (x : X) → None ≡ Some x → P
no_some x e = absurd (let no : None ≡ Some x = e in cc)

-- two somethings that are the same have the same inside
pub same_some : {X : Type 0} (x y : X) → Some x ≡ Some y → x ≡ y
same_some x y e = cc

pub both : (a b : Bool) → (a && b) ≡ true → (a ≡ true) × (b ≡ true)
both true true e = (refl, refl)
both true false e = let no : false ≡ true = e in absurd cc
both false b e = let no : false ≡ true = e in absurd cc
