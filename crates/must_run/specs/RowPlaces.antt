-- A run has at most one row at a place.
use Rattle.std.proofs.Common.{◌≡◌, ℕ, Bool, true, false, List, [], ◌∷◌, Option, Some, None, refl, sym, ap, subst, ◌∙◌, inl, inr}
use Rattle.std.specs.declared.cmp.Ordering.{Ordering}
use Rattle.std.specs.declared.cmp.Ordering.TheVariants.{Less, Equal, Greater}
use Rattle.std.specs.Ordering.{int_cmp, ordering_then}
use Rattle.std.specs.Option.{option_cmp}
use Rattle.std.specs.List.{AllByRecursion}
use Rattle.must_base.specs.Listing.{Has, Rises}
use Rattle.must_base.specs.ListingLaws.{rises_nil, rises_cons, rises_head, rises_tail, irreflexive}
use Rattle.must_find.specs.declared.rule.Rule.{Rule}
use Rattle.must_find.specs.declared.finding.Finding.{Finding}
use Rattle.must_find.specs.Order.{by_place, by_spot, by_all}
use Rattle.must_find.specs.OrderLaws.{SamePlace, place_same, finding_same, by_all_total}
use Rattle.must_p2p.specs.Items.{Orderly}
use Rattle.must_p2p.specs.Matching.{IsMessageRow}
use Rattle.must_p2p.specs.PlaceLaws.{message_rows_one}
use Rattle.must_coll.specs.Rows.{IsWaveRow}
use Rattle.must_node.specs.Waits.{IsWaitRow}
use Rattle.must_coll.specs.OneRowLaws.{ArePlacedOnce, HaveDistinctMembers, one_row}
use Rattle.must_rules.specs.Answer.{Answer}
use Rattle.must_rules.specs.Run.{Run, Mode}
use Rattle.must_rules.specs.RunRows.{finding_at, IsFinding}
use Rattle.must_run.specs.RunGiven.{Given}
use Rattle.must_run.specs.RunRows.{IsRunRow}
use Rattle.must_run.specs.RunWaits.{waits_in}
use Rattle.must_run.specs.WaitPlaces.{wait_rows_one}
use Rattle.must_run.specs.RuleKinds.{RuleKind, OfRank, OfMessages, OfWaves, OfWaits, kind_of, finding_kind, message_kind, wave_kind, wait_kind}

same_answer : (a b : Answer) → Some a ≡ Some b → a ≡ b
same_answer a b e = cc

-- ---- one row at a place

finding_one : (run : Run) (mode : Mode) (f g : Finding) → SamePlace f g → IsFinding run mode f → IsFinding run mode g → f ≡ g
finding_one run mode f g s p q =
    let at : finding_at run mode f.rank f.call f.rule f.part ≡ finding_at run mode g.rank g.call g.rule g.part =
    ap (λ n. finding_at run mode n f.call f.rule f.part) s.rank ∙ ap (λ n. finding_at run mode g.rank n f.rule f.part) s.call ∙ ap (λ (n : Rule). finding_at run mode g.rank g.call n f.part) s.rule ∙ ap (λ n. finding_at run mode g.rank g.call g.rule n) s.part in
    let a = same_answer (f.see, f.value) (g.see, g.value) (sym p ∙ at ∙ q) in
    finding_same f g s (ap (λ (w : Answer). w.0) a) (ap (λ (w : Answer). w.1) a)

-- what a run's messages and calls must be, that at most one row stands at a place
pub record AreOnce (given : Given) : Type 0 where
  pub messages : Orderly given.messages
  pub placed : ArePlacedOnce given.calls
  pub members : HaveDistinctMembers given.calls

-- rows of two kinds have two rules
abbrev differ : RuleKind → RuleKind → Bool
differ OfRank OfRank = false
differ OfMessages OfMessages = false
differ OfWaves OfWaves = false
differ OfWaits OfWaits = false
differ _ _ = true

alone : (a : RuleKind) → differ a a ≡ false
alone OfRank = refl
alone OfMessages = refl
alone OfWaves = refl
alone OfWaits = refl

apart : (f g : Finding) (a b : RuleKind) → differ a b ≡ true → kind_of f.rule ≡ a → kind_of g.rule ≡ b → f.rule ≡ g.rule → f ≡ g
apart f g a b d p q same =
    let one : a ≡ b = sym p ∙ ap kind_of same ∙ q in
    absurd (let wrong : true ≡ false = sym d ∙ ap (differ a) (sym one) ∙ alone a in cc)

pub row_one : (run : Run) (mode : Mode) (given : Given) (f g : Finding) → AreOnce given → SamePlace f g → IsRunRow run mode given f → IsRunRow run mode given g → f ≡ g
row_one run mode given f g once s is also = at is also
  where
    of_rank : (h : Finding) → IsFinding run mode h → kind_of h.rule ≡ OfRank
    of_rank h p = finding_kind run mode h p

    of_messages : (h : Finding) → IsMessageRow given.messages h → kind_of h.rule ≡ OfMessages
    of_messages h p = message_kind given.messages h p

    of_waves : (h : Finding) → IsWaveRow given.calls h → kind_of h.rule ≡ OfWaves
    of_waves h p = wave_kind given.calls h p

    of_waits : (h : Finding) → IsWaitRow (waits_in run mode given) h → kind_of h.rule ≡ OfWaits
    of_waits h p = wait_kind (waits_in run mode given) h p

    at : IsRunRow run mode given f → IsRunRow run mode given g → f ≡ g
    at (inl p) (inl q) = finding_one run mode f g s p q
    at (inr (inl p)) (inr (inl q)) = message_rows_one given.messages f g once.messages p q (record { rank = s.rank; call = s.call; rule = s.rule; part = s.part })
    at (inr (inr (inl p))) (inr (inr (inl q))) = one_row given.calls f g once.placed once.members p q s.rank s.call s.rule
    at (inr (inr (inr p))) (inr (inr (inr q))) = wait_rows_one (waits_in run mode given) f g p q s.rank s.call
    at (inl p) (inr (inl q)) = apart f g OfRank OfMessages refl (of_rank f p) (of_messages g q) s.rule
    at (inl p) (inr (inr (inl q))) = apart f g OfRank OfWaves refl (of_rank f p) (of_waves g q) s.rule
    at (inl p) (inr (inr (inr q))) = apart f g OfRank OfWaits refl (of_rank f p) (of_waits g q) s.rule
    at (inr (inl p)) (inl q) = apart f g OfMessages OfRank refl (of_messages f p) (of_rank g q) s.rule
    at (inr (inl p)) (inr (inr (inl q))) = apart f g OfMessages OfWaves refl (of_messages f p) (of_waves g q) s.rule
    at (inr (inl p)) (inr (inr (inr q))) = apart f g OfMessages OfWaits refl (of_messages f p) (of_waits g q) s.rule
    at (inr (inr (inl p))) (inl q) = apart f g OfWaves OfRank refl (of_waves f p) (of_rank g q) s.rule
    at (inr (inr (inl p))) (inr (inl q)) = apart f g OfWaves OfMessages refl (of_waves f p) (of_messages g q) s.rule
    at (inr (inr (inl p))) (inr (inr (inr q))) = apart f g OfWaves OfWaits refl (of_waves f p) (of_waits g q) s.rule
    at (inr (inr (inr p))) (inl q) = apart f g OfWaits OfRank refl (of_waits f p) (of_rank g q) s.rule
    at (inr (inr (inr p))) (inr (inl q)) = apart f g OfWaits OfMessages refl (of_waits f p) (of_messages g q) s.rule
    at (inr (inr (inr p))) (inr (inr (inl q))) = apart f g OfWaits OfWaves refl (of_waits f p) (of_waves g q) s.rule

-- ---- rows that rise by all rise by place

less_by_place : (f g : Finding) → (SamePlace f g → f ≡ g) → (o : Ordering) → by_place f g ≡ o → by_all f g ≡ Less → by_place f g ≡ Less
less_by_place f g one Less e less = e
less_by_place f g one Greater e less =
    let n : Greater ≡ Less = sym (ap (λ o. ordering_then o (ordering_then (option_cmp by_spot f.see g.see) (int_cmp f.value g.value))) e) ∙ less in cc
less_by_place f g one Equal e less = absurd (irreflexive by_all by_all_total g (subst (λ (x : Finding). by_all x g ≡ Less) (one (place_same f g e)) less))

all_upto : {X : Type 0} (P Q : X → Type 0) (xs : List X) → ((y : X) → Has xs y → P y → Q y) → AllByRecursion P xs → AllByRecursion Q xs
all_upto P Q [] f all = tt
all_upto P Q (x ∷ xs) f all = (f x (inl refl) all.0, all_upto P Q xs (λ y h p. f y (inr h) p) all.1)

pub rise_by_place : (fs : List Finding) → ((f g : Finding) → Has fs f → Has fs g → SamePlace f g → f ≡ g) → Rises by_all fs → Rises by_place fs
rise_by_place [] one r = rises_nil by_place
rise_by_place (f ∷ fs) one r =
    rises_cons by_place f fs
    (all_upto (λ g. by_all f g ≡ Less) (λ g. by_place f g ≡ Less) fs (λ g h less. less_by_place f g (one f g (inl refl) (inr h)) (by_place f g) refl less) (rises_head by_all f fs r))
    (rise_by_place fs (λ g h p q. one g h (inr p) (inr q)) (rises_tail by_all f fs r))
