use Rattle.std.proofs.Common.{◌≡◌, arith, to_z, of_z}
use Rattle.std.specs.Int.{w32, w64}
use Rattle.std.proofs.lemmas.Int.{ints}
use Rattle.must_span.proofs.forms.made_of.Goals as goal

pub returns-in-Vector : goal.returns-in-Vector
returns-in-Vector c = λ T w h.
    let n : to_z w32 (of_z w32 c.in-Vector.count) ≡ c.in-Vector.count = omega (arith, ints) in
    let b : to_z w32 (of_z w32 c.in-Vector.block) ≡ c.in-Vector.block = omega (arith, ints) in
    let s : to_z w32 (of_z w32 c.in-Vector.stride) ≡ c.in-Vector.stride = omega (arith, ints) in
    rw c.in-Vector.is (rw (n, b, s) at (c.vector.ensures T w h))

pub returns-in-Hvector : goal.returns-in-Hvector
returns-in-Hvector c = λ T w h.
    let n : to_z w32 (of_z w32 c.in-Hvector.count) ≡ c.in-Hvector.count = omega (arith, ints) in
    let b : to_z w32 (of_z w32 c.in-Hvector.block) ≡ c.in-Hvector.block = omega (arith, ints) in
    let s : to_z w64 (of_z w64 c.in-Hvector.stride) ≡ c.in-Hvector.stride = omega (arith, ints) in
    rw c.in-Hvector.is (rw (n, b, s) at (c.hvector.ensures T w h))

pub returns-in-Indexed : goal.returns-in-Indexed
returns-in-Indexed c = λ T w h. rw c.in-Indexed.is (rw c.items.ensures at (c.indexed.ensures T w h))

pub returns-in-Hindexed : goal.returns-in-Hindexed
returns-in-Hindexed c = λ T w h. rw c.in-Hindexed.is (rw c.items-in-Hindexed.ensures at (c.hindexed.ensures T w h))

pub returns-in-IndexedBlock : goal.returns-in-IndexedBlock
returns-in-IndexedBlock c = λ T w h.
    let b : to_z w32 (of_z w32 c.in-IndexedBlock.block) ≡ c.in-IndexedBlock.block = omega (arith, ints) in
    rw c.in-IndexedBlock.is (rw (b, c.items-in-IndexedBlock.ensures) at (c.indexed_block.ensures T w h))

pub returns-in-HindexedBlock : goal.returns-in-HindexedBlock
returns-in-HindexedBlock c = λ T w h.
    let b : to_z w32 (of_z w32 c.in-HindexedBlock.block) ≡ c.in-HindexedBlock.block = omega (arith, ints) in
    rw c.in-HindexedBlock.is (rw (b, c.items-in-HindexedBlock.ensures) at (c.hindexed_block.ensures T w h))

pub returns-in-Resized : goal.returns-in-Resized
returns-in-Resized c = λ T w h. rw c.in-Resized.is (c.resized.ensures T w c.in-Resized.lb c.in-Resized.extent h)
