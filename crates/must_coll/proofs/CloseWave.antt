-- What waits when the waves close is the first wave with a gap of each name.
use Rattle.std.proofs.Common.{◌≡◌, ℕ, zero, suc, Bool, true, false, List, [], ◌∷◌, Option, Some, None, refl, sym, ap, subst, ◌∙◌, inl, inr, arith}
use Rattle.std.specs.Prelude.{slice_get}
use Rattle.std.specs.BTreeMap as tree
use Rattle.std.specs.BTreeMap.{BTreeMap, is_at}
use Rattle.std.specs.Ordering.{nat_cmp}
use Rattle.std.proofs.lemmas.Cmp.{nat_cmp_total}
use Rattle.std.proofs.lemmas.Bool.{cases_order}
use Rattle.std.proofs.lemmas.Map.Entries.{btree_map_get_place, place_from_lookup}
use Rattle.must_find.specs.declared.finding.Finding.{Finding}
use Rattle.must_group.specs.Names.{Name}
use Rattle.must_coll.specs.declared.item.WaveItem.{WaveItem}
use Rattle.must_coll.specs.declared.progress.Progress.{Progress}
use Rattle.must_coll.specs.declared.waves.Waves.{Waves}
use Rattle.must_coll.specs.Waves.{lane, wave, has_gap, present, Orderly}
use Rattle.must_coll.specs.Rows.{IsRowIn, IsGapRow}
use Rattle.must_coll.specs.Fronts.{fronts}
use Rattle.must_coll.specs.Numbering.{number_of}
use Rattle.must_coll.specs.Progressing.{IsProgress, StandsAt, progress_by, progress_of, StandsFor, IsOpenIn}
use Rattle.must_coll.specs.WaveLaws.{row_of, wave_is, fronts_of}
use Rattle.must_coll.specs.GrowthLaws.{no_row}

clash : (b : Bool) → b ≡ true → b ≡ false → ⊥
clash b p q = let n : true ≡ false = sym p ∙ q in cc

-- the wave that waits
waiting : (p : Progress) (name : Name) (h : List WaveItem) (o : Orderly h) (is : IsProgress p name h) → fronts p.lanes ≡ wave h name is.done
waiting p name h o is = ap fronts is.lanes ∙ fronts_of name is.done h name.members ∙ sym (wave_is h name is.done o)

open_row : (p : Progress) (name : Name) (h : List WaveItem) (f : Finding) → Orderly h → IsProgress p name h → (p.clean ≡ true) × IsRowIn p.name.members (fronts p.lanes) f → IsGapRow h f
open_row p name h f o is row = record {
  name = name;
  number = is.done;
  gap = is.gap;
  at = record { judged = λ j less. (is.before j less, is.clean.0 row.0 j less); row = subst (λ (w : List (Option WaveItem)). IsRowIn name.members w f) (waiting p name h o is) (subst (λ (n : Name). IsRowIn n.members (fronts p.lanes) f) is.name_is row.1) };
}

nobody : (k : ℕ) (name : Name) (h : List WaveItem) → ((m : ℕ) → lane name m h ≡ []) → (ms : List ℕ) → present (row_of name k h ms) ≡ []
nobody k name h none [] = refl
nobody k name h none (m ∷ ms) = ap (λ (l : List WaveItem). present (slice_get l k ∷ row_of name k h ms)) (none m) ∙ nobody k name h none ms

-- the row stands in the progress of its name
pub record IsOpenAt (o : Option Progress) (f : Finding) : Type 0 where
  pub progress : Progress
  pub is : o ≡ Some progress
  pub row : (progress.clean ≡ true) × IsRowIn progress.name.members (fronts progress.lanes) f

open_at : (o : Option Progress) (h : List WaveItem) (f : Finding) (row : IsGapRow h f) → Orderly h → StandsAt o row.name h → IsOpenAt o f
open_at None h f row o st =
    absurd (no_row row.name.members (wave h row.name row.number) f (ap present (wave_is h row.name row.number o) ∙ nobody row.number row.name h st row.name.members) row.at.row)
open_at (Some p) h f row o st =
    let same : row.number ≡ st.done = elim (cases_order row.number st.done) [
      | inl e ↦ e
      | inr (inl less) ↦ absurd (clash (has_gap (wave h row.name row.number)) row.gap (st.before row.number less))
      | inr (inr more) ↦ absurd (clash (has_gap (wave h row.name st.done)) st.gap (row.at.judged st.done more).0)
    ] in
    record {
      progress = p;
      is = refl;
      row = (
        st.clean.1 (λ j less. (row.at.judged j (omega (arith, same))).1),
        subst (λ (n : Name). IsRowIn n.members (fronts p.lanes) f) (sym st.name_is) (subst (λ (w : List (Option WaveItem)). IsRowIn row.name.members w f) (ap (λ k. wave h row.name k) same ∙ sym (waiting p row.name h o st)) row.at.row),
      );
    }

entry_is : (a b : ℕ × Progress) → Some a ≡ Some b → a ≡ b
entry_is a b e = cc

open_in : (es : List (ℕ × Progress)) (i k : ℕ) (p : Progress) (f : Finding) → slice_get es i ≡ Some (k, p) → (p.clean ≡ true) × IsRowIn p.name.members (fronts p.lanes) f → IsOpenIn es f
open_in [] i k p f e row = absurd (let n : None ≡ Some (k, p) = e in cc)
open_in (e ∷ es) zero k p f is row = inl (subst (λ (w : ℕ × Progress). (w.1.clean ≡ true) × IsRowIn w.1.name.members (fronts w.1.lanes) f) (sym (entry_is e (k, p) is)) row)
open_in (e ∷ es) (suc i) k p f is row = inr (open_in es i k p f is row)

pub record IsEntryOf (es : List (ℕ × Progress)) (f : Finding) : Type 0 where
  pub place : ℕ
  pub number : ℕ
  pub progress : Progress
  pub is : slice_get es place ≡ Some (number, progress)
  pub row : (progress.clean ≡ true) × IsRowIn progress.name.members (fronts progress.lanes) f

entry_of : (es : List (ℕ × Progress)) (f : Finding) → IsOpenIn es f → IsEntryOf es f
entry_of [] f l = absurd l
entry_of (e ∷ es) f (inl l) = record { place = 0; number = e.0; progress = e.1; is = refl; row = l }
entry_of (e ∷ es) f (inr l) = let r = entry_of es f l in record { place = suc r.place; number = r.number; progress = r.progress; is = r.is; row = r.row }

-- the rows of what waits are those of the judged waves with a gap
pub open_to : (waves : Waves) (h : List WaveItem) → StandsFor waves h → Orderly h → tree.IsOrdered nat_cmp waves.waiting → (f : Finding) → IsOpenIn waves.waiting.entries f → IsGapRow h f
open_to waves h st o ordered = λ f l.
    let e = entry_of waves.waiting.entries f l in
    let p = e.progress in
    let g : tree.get nat_cmp waves.waiting e.number ≡ Some p = btree_map_get_place nat_cmp_total waves.waiting e.place e.number p ordered e.is in
    let kept : progress_of waves.names waves.waiting p.name ≡ Some p = ap (progress_by waves.waiting) (st.owned e.number p g) ∙ g in
    open_row p p.name h f o (subst (λ (w : Option Progress). StandsAt w p.name h) kept (st.keeps p.name)) e.row

in_by : (waiting : BTreeMap ℕ Progress) (p : Progress) (f : Finding) (o : Option ℕ) → progress_by waiting o ≡ Some p → (p.clean ≡ true) × IsRowIn p.name.members (fronts p.lanes) f → IsOpenIn waiting.entries f
in_by waiting p f None e row = absurd (let n : None ≡ Some p = e in cc)
in_by waiting p f (Some k) e row =
    let at = place_from_lookup (is_at (nat_cmp k)) waiting.entries p e in
    open_in waiting.entries at.0 at.1 p f at.2 row

pub open_back : (waves : Waves) (h : List WaveItem) → StandsFor waves h → Orderly h → (f : Finding) → IsGapRow h f → IsOpenIn waves.waiting.entries f
open_back waves h st o = λ f row.
    let a = open_at (progress_of waves.names waves.waiting row.name) h f row o (st.keeps row.name) in
    in_by waves.waiting a.progress f (number_of waves.names row.name) a.is a.row
