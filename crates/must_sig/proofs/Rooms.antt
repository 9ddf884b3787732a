-- Products of a number of copies, a length and a count, and what they fit in.
use Rattle.std.proofs.Common.{◌≡◌, arith, ℕ, ◌*◌, ◌≤◌, ◌<◌, ◌^◌, mul-le-mul, le_refl}

turned : (n l k : ℕ) → n * k * l ≡ n * l * k
turned n l k = grind arith

pub copies_fit : (n l k : ℕ) → n ≤ n * l → n * l ≤ 2 ^ 62 → k ≤ 2 ^ 64 → n * k < 2 ^ 128
copies_fit n l k some few small =
    let most : n ≤ 2 ^ 62 = omega (arith, some, few) in
    let both : n * k ≤ 2 ^ 62 * 2 ^ 64 = mul-le-mul most small in
    omega (arith, both)

pub copies_some : (n l k : ℕ) → n ≤ n * l → n * k ≤ n * k * l
copies_some n l k some = let both : n * k ≤ n * l * k = mul-le-mul some (le_refl k) in omega (arith, both, turned n l k)

pub copies_few : (n l k : ℕ) → n * l ≤ 2 ^ 62 → k ≤ 2 ^ 64 → n * k * l ≤ 2 ^ 126
copies_few n l k few small = let both : n * l * k ≤ 2 ^ 62 * 2 ^ 64 = mul-le-mul few small in omega (arith, both, turned n l k)
