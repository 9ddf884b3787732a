-- Where all send the same, one comparison tells of all.
use Rattle.std.proofs.Common.{◌≡◌, ℕ, ◌+◌, Bool, true, false, cond, ◌&&◌, List, [], ◌∷◌, Option, Some, None, refl, sym, ap, ◌∙◌, inl, inr}
use Rattle.std.specs.Prelude.{find, pos, slice_get, ◌⊎◌, ◌↔◌}
use Rattle.std.specs.Option.{is_some}
use Rattle.std.proofs.lemmas.Bool.{and_parts}
use Rattle.must_find.specs.declared.rule.Rule.TheVariants.{C4}
use Rattle.must_call.specs.declared.basic.Basic.{Basic}
use Rattle.must_find.specs.declared.finding.Finding.{Finding}
use Rattle.must_sig.specs.Signatures.{Periods, expansion, difference}
use Rattle.must_coll.specs.declared.item.WaveItem.{WaveItem}
use Rattle.must_coll.specs.declared.exchange.Exchange.{Exchange}
use Rattle.must_coll.specs.declared.exchange.Exchange.TheVariants.{Nothing, Bcast, Gather, Gatherv, Scatter, Scatterv, Alltoall, Allgatherv, Alltoallv, Reduce, ReduceScatter}
use Rattle.must_coll.specs.Given.{GivenFrom, or_else}
use Rattle.must_coll.specs.Amounts.{differ, amount_found, pair_row, first_against}
use Rattle.must_coll.specs.Uniform.{is_uniform, sent, is_known, is_unlike, either_row}

pub uniform_is : (e : Exchange) → is_uniform e ≡ true → e ≡ Alltoall
uniform_is Nothing h = absurd (let q : false ≡ true = h in cc)
uniform_is Bcast h = absurd (let q : false ≡ true = h in cc)
uniform_is Gather h = absurd (let q : false ≡ true = h in cc)
uniform_is Gatherv h = absurd (let q : false ≡ true = h in cc)
uniform_is Scatter h = absurd (let q : false ≡ true = h in cc)
uniform_is Scatterv h = absurd (let q : false ≡ true = h in cc)
uniform_is Alltoall h = refl
uniform_is Allgatherv h = absurd (let q : false ≡ true = h in cc)
uniform_is Alltoallv h = absurd (let q : false ≡ true = h in cc)
uniform_is Reduce h = absurd (let q : false ≡ true = h in cc)
uniform_is ReduceScatter h = absurd (let q : false ≡ true = h in cc)

pub given_same : (p q : ℕ → WaveItem → Option Finding) → ((i : ℕ) (x : WaveItem) → p i x ≡ q i x) → (i : ℕ) (xs : List WaveItem) (f : Finding) → GivenFrom p i xs f → GivenFrom q i xs f
given_same p q e i [] f h = h
given_same p q e i (x ∷ xs) f (inl h) = inl (sym (e i x) ∙ h)
given_same p q e i (x ∷ xs) f (inr h) = inr (given_same p q e (i + 1) xs f h)

-- where two lists have miss difference, they differ from others alike
abbrev pub EqualLaw : Type 0
EqualLaw = (xs ys : List Basic) → difference xs ys ≡ None ↔ xs ≡ ys

alike : EqualLaw → (a b : Periods) (o : Option Periods) → difference (expansion a) (expansion b) ≡ None → differ (Some a) o ≡ differ (Some b) o
alike law a b None e = refl
alike law a b (Some c) e = ap (λ (l : List Basic). difference l (expansion c)) ((law (expansion a) (expansion b)).0 e)

some_test : {X : Type 0} (o : Option X) → is_some o ≡ false → o ≡ None
some_test None e = refl
some_test (Some x) e = absurd (let q : true ≡ false = e in cc)

some_value : {X : Type 0} (o : Option X) → is_some o ≡ true → (x : X) × (o ≡ Some x)
some_value None e = absurd (let q : false ≡ true = e in cc)
some_value (Some x) e = (x, refl)

-- ---- searches

find_head : (p : WaveItem → Bool) (y : WaveItem) (ys : List WaveItem) (b : Bool) (o : Option WaveItem) (z : WaveItem) → p y ≡ b → cond b (Some y) o ≡ Some z → ((y ≡ z) × (b ≡ true)) ⊎ ((b ≡ false) × (o ≡ Some z))
find_head p y ys true o z e is = inl (let q : Some y ≡ Some z = is in cc, refl)
find_head p y ys false o z e is = inr (refl, is)

module _ (n i : ℕ) (x : WaveItem) where
  or_none : (o p : Option Finding) → o ≡ None → or_else o p ≡ p
  or_none o p e = ap (λ (w : Option Finding). or_else w p) e

  or_some : (o p : Option Finding) (f : Finding) → o ≡ Some f → or_else o p ≡ Some f
  or_some o p f e = ap (λ (w : Option Finding). or_else w p) e

  -- the first that passes gives a finding, and those that don't pass give none
  first_found : (p : WaveItem → Bool) → ((y : WaveItem) → p y ≡ false → pair_row Alltoall n 0 0 x y ≡ None) → (calls : List WaveItem) (j : ℕ) (y : WaveItem) (f : Finding) → find p calls ≡ Some y → pair_row Alltoall n 0 0 x y ≡ Some f
      → first_against Alltoall n i x j calls ≡ Some f
  first_found p miss [] j y f e is = absurd (let q : None ≡ Some y = e in cc)
  first_found p miss (z ∷ zs) j y f e is = elim (find_head p z zs (p z) (find p zs) y refl e) [
    | inl here ↦ or_some (pair_row Alltoall n 0 0 x z) (first_against Alltoall n i x (j + 1) zs) f (ap (λ (w : WaveItem). pair_row Alltoall n 0 0 x w) here.0 ∙ is)
    | inr later ↦ or_none (pair_row Alltoall n 0 0 x z) (first_against Alltoall n i x (j + 1) zs) (miss z later.0) ∙ first_found p miss zs (j + 1) y f later.1 is
  ]

  -- nobody gives a finding
  nobody : ((y : WaveItem) → pair_row Alltoall n 0 0 x y ≡ None) → (calls : List WaveItem) (j : ℕ) → first_against Alltoall n i x j calls ≡ None
  nobody miss [] j = refl
  nobody miss (z ∷ zs) j = or_none (pair_row Alltoall n 0 0 x z) (first_against Alltoall n i x (j + 1) zs) (miss z) ∙ nobody miss zs (j + 1)

  miss_head : (b : Bool) (y : WaveItem) (o : Option WaveItem) → cond b (Some y) o ≡ None → (b ≡ false) × (o ≡ None)
  miss_head true y o e = absurd (let q : Some y ≡ None = e in cc)
  miss_head false y o e = (refl, e)

  missed_all : (p : WaveItem → Bool) → ((y : WaveItem) → p y ≡ false → pair_row Alltoall n 0 0 x y ≡ None) → (calls : List WaveItem) (j : ℕ) → find p calls ≡ None → first_against Alltoall n i x j calls ≡ None
  missed_all p miss [] j e = refl
  missed_all p miss (z ∷ zs) j e =
      let m = miss_head (p z) z (find p zs) e in
      or_none (pair_row Alltoall n 0 0 x z) (first_against Alltoall n i x (j + 1) zs) (miss z m.0) ∙ missed_all p miss zs (j + 1) m.1

  found_by : (a b : Bool) (y : WaveItem) (o : Option ℕ) → (a ≡ true → b ≡ true → o ≡ None) → cond (a && b) (amount_found Alltoall x y o) None ≡ None
  found_by true true y o e = ap (amount_found Alltoall x y) (e refl refl)
  found_by true false y o e = refl
  found_by false b y o e = refl

  counted_false : (a b : Bool) → (a && b) ≡ false → a ≡ true → b ≡ false
  counted_false true b e h = e
  counted_false false b e h = absurd (let q : false ≡ true = h in cc)

  differ_none : (o : Option Periods) → differ o None ≡ None
  differ_none None = refl
  differ_none (Some a) = refl

  -- a call that isn't known gives none
  unknown : (y : WaveItem) → is_known y ≡ false → pair_row Alltoall n 0 0 x y ≡ None
  unknown y e = found_by x.counts y.counts y (differ (slice_get x.recvs 0) (sent y)) (λ a b. ap (differ (slice_get x.recvs 0)) (some_test (sent y) (counted_false y.counts (is_some (sent y)) e b)) ∙ differ_none (slice_get x.recvs 0))

  no_value : (y : WaveItem) (o : Option ℕ) → amount_found Alltoall x y o ≡ None → o ≡ None
  no_value y None e = refl
  no_value y (Some v) e = absurd (let q : Some (record { rank = x.place.rank; call = x.place.call; rule = C4; part = 1; see = Some y.place; value = pos v }) ≡ None = e in cc)

  -- the finding, if the call received what the first sends
  abbrev pub as_first : WaveItem → WaveItem → Option Finding
  as_first first y = cond y.counts (amount_found Alltoall x y (differ (sent first) (sent y))) None

  module _ (law : EqualLaw) (first : WaveItem) (known : is_known first ≡ true) (none : pair_row Alltoall n 0 0 x first ≡ None) where
    parts : (first.counts ≡ true) × ((q : Periods) × (sent first ≡ Some q))
    parts =
        let p = and_parts first.counts (is_some (sent first)) known in
        (p.0, some_value (sent first) p.1)

    settled_by : (a : Bool) (o : Option Periods) → x.counts ≡ a → slice_get x.recvs 0 ≡ o → ((y : WaveItem) → pair_row Alltoall n 0 0 x y ≡ None) ⊎ ((y : WaveItem) → pair_row Alltoall n 0 0 x y ≡ as_first first y)
    settled_by false o ea eo = inl (λ y. ap (λ b. cond (b && y.counts) (amount_found Alltoall x y (differ (slice_get x.recvs 0) (sent y))) None) ea)
    settled_by true None ea eo = inl (λ y. found_by x.counts y.counts y (differ (slice_get x.recvs 0) (sent y)) (λ a b. ap (λ (o : Option Periods). differ o (sent y)) eo))
    settled_by true (Some s) ea eo =
        let q = parts.1.0 in
        let here : amount_found Alltoall x first (differ (Some s) (Some q)) ≡ None =
        ap (λ (o : Option Periods). amount_found Alltoall x first (differ (Some s) o)) (sym parts.1.1) ∙ ap (λ (o : Option Periods). amount_found Alltoall x first (differ o (sent first))) (sym eo)
        ∙ ap (λ b. cond (true && b) (amount_found Alltoall x first (differ (slice_get x.recvs 0) (sent first))) None) (sym parts.0)
        ∙ ap (λ b. cond (b && first.counts) (amount_found Alltoall x first (differ (slice_get x.recvs 0) (sent first))) None) (sym ea) ∙ none in
        let same = no_value first (differ (Some s) (Some q)) here in
        inr (λ y.
        ap (λ b. cond (b && y.counts) (amount_found Alltoall x y (differ (slice_get x.recvs 0) (sent y))) None) ea
        ∙ ap (λ (d : Option ℕ). cond y.counts (amount_found Alltoall x y d) None) (ap (λ (o : Option Periods). differ o (sent y)) eo ∙ alike law s q (sent y) same ∙ ap (λ (o : Option Periods). differ o (sent y)) (sym parts.1.1)))

    settled : ((y : WaveItem) → pair_row Alltoall n 0 0 x y ≡ None) ⊎ ((y : WaveItem) → pair_row Alltoall n 0 0 x y ≡ as_first first y)
    settled = settled_by x.counts (slice_get x.recvs 0) refl refl

    quiet_by : (b : Bool) (y : WaveItem) (o : Option ℕ) → (b && is_some o) ≡ false → cond b (amount_found Alltoall x y o) None ≡ None
    quiet_by true y o e = ap (amount_found Alltoall x y) (some_test o e)
    quiet_by false y o e = refl

    loud_by : (b : Bool) (y : WaveItem) (o : Option ℕ) → (b && is_some o) ≡ true → (f : Finding) × (cond b (amount_found Alltoall x y o) None ≡ Some f)
    loud_by true y (Some v) e = (record { rank = x.place.rank; call = x.place.call; rule = C4; part = 1; see = Some y.place; value = pos v }, refl)
    loud_by true y None e = absurd (let q : false ≡ true = e in cc)
    loud_by false y o e = absurd (let q : false ≡ true = e in cc)

    pub none_after : (calls : List WaveItem) → find (is_unlike first) calls ≡ None → first_against Alltoall n i x 0 calls ≡ None
    none_after calls e = elim settled [
      | inl silent ↦ nobody silent calls 0
      | inr same ↦ missed_all (is_unlike first) (λ y m. same y ∙ quiet_by y.counts y (differ (sent first) (sent y)) m) calls 0 e
    ]

    pub second_after : (calls : List WaveItem) (second : WaveItem) → find (is_unlike first) calls ≡ Some second → is_unlike first second ≡ true → first_against Alltoall n i x 0 calls ≡ pair_row Alltoall n 0 0 x second
    second_after calls second e is = elim settled [
      | inl silent ↦ nobody silent calls 0 ∙ sym (silent second)
      | inr same ↦
          let l = loud_by second.counts second (differ (sent first) (sent second)) is in
          first_found (is_unlike first) (λ y m. same y ∙ quiet_by y.counts y (differ (sent first) (sent y)) m) calls 0 second l.0 e (same second ∙ l.1) ∙ sym (same second ∙ l.1)
    ]

  one_by : EqualLaw → (calls : List WaveItem) (first : WaveItem) (o : Option Finding) → pair_row Alltoall n 0 0 x first ≡ o → find is_known calls ≡ Some first → is_known first ≡ true → find (is_unlike first) calls ≡ None → first_against Alltoall n i x 0 calls ≡ o
  one_by law calls first (Some f) r e k m = first_found is_known unknown calls 0 first f e r
  one_by law calls first None r e k m = none_after law first k r calls m

  -- all send what the first sends
  pub one_row : EqualLaw → (calls : List WaveItem) (first : WaveItem) → find is_known calls ≡ Some first → is_known first ≡ true → find (is_unlike first) calls ≡ None → first_against Alltoall n i x 0 calls ≡ pair_row Alltoall n 0 0 x first
  one_row law calls first e k m = one_by law calls first (pair_row Alltoall n 0 0 x first) refl e k m

  two_by : EqualLaw → (calls : List WaveItem) (first second : WaveItem) (o : Option Finding) → pair_row Alltoall n 0 0 x first ≡ o → find is_known calls ≡ Some first → is_known first ≡ true → find (is_unlike first) calls ≡ Some second → is_unlike first second ≡ true
      → first_against Alltoall n i x 0 calls ≡ or_else o (pair_row Alltoall n 0 0 x second)
  two_by law calls first second (Some f) r e k m u = first_found is_known unknown calls 0 first f e r
  two_by law calls first second None r e k m u = second_after law first k r calls second m u

  pub two_row : EqualLaw → (calls : List WaveItem) (first second : WaveItem) → find is_known calls ≡ Some first → is_known first ≡ true → find (is_unlike first) calls ≡ Some second → is_unlike first second ≡ true → first_against Alltoall n i x 0 calls ≡ either_row n first second x
  two_row law calls first second e k m u = two_by law calls first second (pair_row Alltoall n 0 0 x first) refl e k m u

  pub no_known_row : (calls : List WaveItem) → find is_known calls ≡ None → first_against Alltoall n i x 0 calls ≡ None
  no_known_row calls e = missed_all is_known unknown calls 0 e
