-- The order of names is total, and it calls equal what is equal.
use Rattle.std.specs.Prelude.{◌≡◌, refl}
use Rattle.std.proofs.Common.{subst}
use Rattle.std.specs.Cmp.{IsTotalOrder, nat_cmp_total, int_cmp_total}
use Rattle.std.specs.Cmp.Lexicographic.{slice_cmp}
use Rattle.std.specs.FinMap.{IsAntisymmetric, nat_cmp-IsAntisymmetric, int_cmp-IsAntisymmetric, slice_cmp-IsAntisymmetric}
use Rattle.std.specs.Ordering.{nat_cmp, int_cmp, ordering_then}
use Rattle.std.specs.declared.cmp.Ordering.{Ordering}
use Rattle.std.specs.declared.cmp.Ordering.TheVariants.{Less, Equal, Greater}
use Rattle.std.proofs.lemmas.Cmp.{on_total, then_total, lists_total, tied_itself}
use Rattle.must_group.specs.declared.name.Step.{Step}
use Rattle.must_group.specs.Names.{Name, step_cmp, name_cmp}

pub step_total : IsTotalOrder step_cmp
step_total = then_total (on_total (λ (s : Step). s.number) nat_cmp_total) (on_total (λ (s : Step). s.class) int_cmp_total)

pub name_total : IsTotalOrder name_cmp
name_total = then_total (on_total (λ (n : Name). n.root) nat_cmp_total) (then_total (on_total (λ (n : Name). n.path) (lists_total step_total)) (on_total (λ (n : Name). n.members) (lists_total nat_cmp_total)))

then_equal : (o p : Ordering) → ordering_then o p ≡ Equal → (o ≡ Equal) × (p ≡ Equal)
then_equal Less p h = absurd (cc)
then_equal Equal p h = (refl, h)
then_equal Greater p h = absurd (cc)

step_same : IsAntisymmetric step_cmp
step_same s t h =
    let parts = then_equal (nat_cmp s.number t.number) (int_cmp s.class t.class) h in
    let number = nat_cmp-IsAntisymmetric s.number t.number parts.0 in
    let class = int_cmp-IsAntisymmetric s.class t.class parts.1 in
    λ i. record { number = number i; class = class i }

-- only equal names are called equal
pub name_same : IsAntisymmetric name_cmp
name_same m n h =
    let parts = then_equal (nat_cmp m.root n.root) (ordering_then (slice_cmp step_cmp m.path n.path) (slice_cmp nat_cmp m.members n.members)) h in
    let rest = then_equal (slice_cmp step_cmp m.path n.path) (slice_cmp nat_cmp m.members n.members) parts.1 in
    let root = nat_cmp-IsAntisymmetric m.root n.root parts.0 in
    let path = slice_cmp-IsAntisymmetric step_same m.path n.path rest.0 in
    let members = slice_cmp-IsAntisymmetric nat_cmp-IsAntisymmetric m.members n.members rest.1 in
    λ i. record { root = root i; path = path i; members = members i }

pub same_equal : (m n : Name) → m ≡ n → name_cmp m n ≡ Equal
same_equal m n e = subst (λ k. name_cmp m k ≡ Equal) e (tied_itself name_total m)
