-- The wave that a call makes whole, and what is kept afterwards.
use Rattle.std.proofs.Common.{◌≡◌, ℕ, suc, ◌≤◌, ◌<◌, Bool, true, false, cond, ◌&&◌, List, [], ◌∷◌, ◌++◌, length, map, drop, Option, Some, None, refl, sym, ap, subst, ◌∙◌, inl, inr, arith}
use Rattle.std.specs.Prelude.{slice_get, nat_eq, ◌↔◌}
use Rattle.std.specs.List.{IsDistinct}
use Rattle.std.specs.Option.{option_map}
use Rattle.std.proofs.lemmas.List.{length_push}
use Rattle.std.proofs.lemmas.Bool.{cases_Bool, cases_order, and_parts, and_from}
use Rattle.std.proofs.lemmas.Option.{slice_get_past}
use Rattle.must_call.specs.declared.place.Place.{Place}
use Rattle.must_find.specs.declared.finding.Finding.{Finding}
use Rattle.must_group.specs.Names.{Name}
use Rattle.must_coll.specs.declared.item.WaveItem.{WaveItem}
use Rattle.must_coll.specs.declared.progress.Progress.{Progress}
use Rattle.must_coll.specs.Waves.{lane, wave, has_gap, all_places, Orderly}
use Rattle.must_coll.specs.Rows.{one_kind, IsRowIn, IsRowAt, IsWholeRowOf}
use Rattle.must_coll.specs.Fronts.{fronts, joined_at, without_whole}
use Rattle.must_coll.specs.Progressing.{clean_after, IsProgress}
use Rattle.must_coll.specs.WaveLaws.{wave_is, gap_at, gap_later, none_past, lane_push, number_last}
use Rattle.must_coll.proofs.Step.{Comes, long, lanes_then, wave_then, wave_stays, member_waits, all_dropped}

none_from_gap : (ws : List (Option WaveItem)) → has_gap ws ≡ true → all_places ws ≡ None
none_from_gap [] e = let n : false ≡ true = e in cc
none_from_gap (None ∷ ws) e = refl
none_from_gap (Some x ∷ ws) e = ap (option_map (λ (ps : List Place). x.place ∷ ps)) (none_from_gap ws e)

clash : (b : Bool) → b ≡ true → b ≡ false → ⊥
clash b p q = let n : true ≡ false = sym p ∙ q in cc

abbrev pub agrees : List WaveItem → Name → ℕ → Bool
agrees items name j = one_kind (wave items name j)

module _ (old : Progress) (h : List WaveItem) (x : WaveItem) (position : ℕ) (o : Orderly (h ++ x ∷ [])) (before_order : Orderly h) (distinct : IsDistinct nat_eq x.name.members) (stands : slice_get x.name.members position ≡ Some x.place.rank)
    (is : IsProgress old x.name h) where
  comes : Comes h x position is.done
  comes = record { order = o; before_order = before_order; distinct = distinct; stands = stands; before = is.before; gap = is.gap }

  lanes_now : joined_at old.lanes position x ≡ map (λ m. drop is.done (lane x.name m (h ++ x ∷ []))) x.name.members
  lanes_now = ap (λ (l : List (List WaveItem)). joined_at l position x) is.lanes ∙ lanes_then h x position is.done comes

  wave_now : fronts (joined_at old.lanes position x) ≡ wave (h ++ x ∷ []) x.name is.done
  wave_now = ap (λ (l : List (List WaveItem)). fronts (joined_at l position x)) is.lanes ∙ wave_then h x position is.done comes

  before_stays : (j : ℕ) → j < is.done → has_gap (wave (h ++ x ∷ []) x.name j) ≡ false
  before_stays j less = ap has_gap (wave_stays h x position is.done comes j (is.before j less)) ∙ is.before j less

  agrees_stays : (j : ℕ) → j < is.done → agrees (h ++ x ∷ []) x.name j ≡ agrees h x.name j
  agrees_stays j less = ap (λ (w : List (Option WaveItem)). one_kind w) (wave_stays h x position is.done comes j (is.before j less))

  clean_is : (old.clean ≡ true) ↔ ((j : ℕ) → j < is.done → agrees (h ++ x ∷ []) x.name j ≡ true)
  clean_is = (λ e j less. agrees_stays j less ∙ is.clean.0 e j less, λ all. is.clean.1 (λ j less. sym (agrees_stays j less) ∙ all j less))

  unfold_gap : (new : Progress) → has_gap (wave (h ++ x ∷ []) x.name is.done) ≡ true → new.name ≡ old.name → new.lanes ≡ without_whole (joined_at old.lanes position x)
      → new.clean ≡ clean_after old.clean (fronts (joined_at old.lanes position x)) → IsProgress new x.name (h ++ x ∷ [])
  unfold_gap new gap name lanes clean =
      let j = joined_at old.lanes position x in
      let g : has_gap (fronts j) ≡ true = ap has_gap wave_now ∙ gap in
      let c : new.clean ≡ old.clean = clean ∙ ap (λ b. cond b old.clean (old.clean && one_kind (fronts j))) g in
      record {
        name_is = name ∙ is.name_is;
        done = is.done;
        lanes = lanes ∙ ap (λ b. cond b j (map (λ (l : List WaveItem). drop 1 l) j)) g ∙ lanes_now;
        before = before_stays;
        gap = gap;
        clean = (λ e. clean_is.0 (sym c ∙ e), λ all. c ∙ clean_is.1 all);
      }

  unfold_whole : (new : Progress) → has_gap (wave (h ++ x ∷ []) x.name is.done) ≡ false → new.name ≡ old.name → new.lanes ≡ without_whole (joined_at old.lanes position x)
      → new.clean ≡ clean_after old.clean (fronts (joined_at old.lanes position x)) → IsProgress new x.name (h ++ x ∷ [])
  unfold_whole new whole name lanes clean =
      let j = joined_at old.lanes position x in
      let n = is.done in
      let r = x.place.rank in
      let g : has_gap (fronts j) ≡ false = ap has_gap wave_now ∙ whole in
      let c : new.clean ≡ (old.clean && agrees (h ++ x ∷ []) x.name n) = clean ∙ ap (λ b. cond b old.clean (old.clean && one_kind (fronts j))) g ∙ ap (λ (w : List (Option WaveItem)). old.clean && one_kind w) wave_now in
      let far : length (lane x.name r (h ++ x ∷ [])) ≤ suc n = omega (arith, ap length (lane_push h x), length_push (lane x.name r h) x, member_waits h x position n comes whole) in
      record {
        name_is = name ∙ is.name_is;
        done = suc n;
        lanes = lanes ∙ ap (λ b. cond b j (map (λ (l : List WaveItem). drop 1 l) j)) g ∙ ap (λ (l : List (List WaveItem)). map (λ (w : List WaveItem). drop 1 w) l) lanes_now ∙ all_dropped x.name n (h ++ x ∷ []) x.name.members;
        before = λ k less. elim (cases_order k n) [
          | inl e ↦ subst (λ i. has_gap (wave (h ++ x ∷ []) x.name i) ≡ false) (sym e) whole
          | inr (inl lower) ↦ before_stays k lower
          | inr (inr more) ↦ absurd (omega arith)
        ];
        gap = ap has_gap (wave_is (h ++ x ∷ []) x.name (suc n) o) ∙ gap_at (λ m. slice_get (lane x.name m (h ++ x ∷ [])) (suc n)) x.name.members position r stands (slice_get_past (lane x.name r (h ++ x ∷ [])) (suc n) far);
        clean = (
          λ e. let p = and_parts old.clean (agrees (h ++ x ∷ []) x.name n) (sym c ∙ e) in
              λ k less. elim (cases_order k n) [
                | inl s ↦ subst (λ i. agrees (h ++ x ∷ []) x.name i ≡ true) (sym s) p.1
                | inr (inl lower) ↦ clean_is.0 p.0 k lower
                | inr (inr more) ↦ absurd (omega arith)
              ],
          λ all. c ∙ and_from old.clean (agrees (h ++ x ∷ []) x.name n) (clean_is.1 (λ k less. all k (omega arith))) (all n (omega arith)),
        );
      }

  pub progress_after : (new : Progress) → new.name ≡ old.name → new.lanes ≡ without_whole (joined_at old.lanes position x)
      → new.clean ≡ clean_after old.clean (fronts (joined_at old.lanes position x)) → IsProgress new x.name (h ++ x ∷ [])
  progress_after new name lanes clean = elim (cases_Bool (has_gap (wave (h ++ x ∷ []) x.name is.done))) [
    | inl gap ↦ unfold_gap new gap name lanes clean
    | inr whole ↦ unfold_whole new whole name lanes clean
  ]

  later_gap : has_gap (wave (h ++ x ∷ []) x.name is.done) ≡ true → has_gap (wave (h ++ x ∷ []) x.name x.number) ≡ true
  later_gap gap =
      let n = is.done in
      let k = x.number in
      let far : n ≤ k = omega (arith, long h x position n comes, number_last h x o) in
      ap has_gap (wave_is (h ++ x ∷ []) x.name k o) ∙ gap_later (λ m. slice_get (lane x.name m (h ++ x ∷ [])) n) (λ m. slice_get (lane x.name m (h ++ x ∷ [])) k) x.name.members (λ m e. none_past (lane x.name m (h ++ x ∷ [])) n k far e)
      (ap has_gap (sym (wave_is (h ++ x ∷ []) x.name n o)) ∙ gap)

  own_wave : has_gap (wave (h ++ x ∷ []) x.name is.done) ≡ false → x.number ≡ is.done
  own_wave whole = number_last h x o ∙ member_waits h x position is.done comes whole

  pub places_are : all_places (fronts (joined_at old.lanes position x)) ≡ all_places (wave (h ++ x ∷ []) x.name x.number)
  places_are = ap all_places wave_now ∙ elim (cases_Bool (has_gap (wave (h ++ x ∷ []) x.name is.done))) [
    | inl gap ↦ none_from_gap (wave (h ++ x ∷ []) x.name is.done) gap ∙ sym (none_from_gap (wave (h ++ x ∷ []) x.name x.number) (later_gap gap))
    | inr whole ↦ ap (λ k. all_places (wave (h ++ x ∷ []) x.name k)) (sym (own_wave whole))
  ]

  pub rows_to : (f : Finding) → (has_gap (fronts (joined_at old.lanes position x)) ≡ false) × ((old.clean ≡ true) × IsRowIn x.name.members (fronts (joined_at old.lanes position x)) f) → IsWholeRowOf (h ++ x ∷ []) x f
  rows_to f p =
      let whole : has_gap (wave (h ++ x ∷ []) x.name is.done) ≡ false = ap has_gap (sym wave_now) ∙ p.0 in
      let e = own_wave whole in
      subst (λ k. (w : has_gap (wave (h ++ x ∷ []) x.name k) ≡ false) × IsRowAt (h ++ x ∷ []) x.name k f → IsWholeRowOf (h ++ x ∷ []) x f) e (λ q. record { whole = q.0; at = q.1 })
      (whole, record { judged = λ j less. (before_stays j less, clean_is.0 p.1.0 j less); row = subst (λ (w : List (Option WaveItem)). IsRowIn x.name.members w f) wave_now p.1.1 })

  pub rows_back : (f : Finding) → IsWholeRowOf (h ++ x ∷ []) x f → (has_gap (fronts (joined_at old.lanes position x)) ≡ false) × ((old.clean ≡ true) × IsRowIn x.name.members (fronts (joined_at old.lanes position x)) f)
  rows_back f row = elim (cases_Bool (has_gap (wave (h ++ x ∷ []) x.name is.done))) [
    | inl gap ↦ absurd (clash (has_gap (wave (h ++ x ∷ []) x.name x.number)) (later_gap gap) row.whole)
    | inr whole ↦
        let e = own_wave whole in (
          ap has_gap wave_now ∙ whole,
          (
            clean_is.1 (λ j less. (row.at.judged j (omega (arith, e))).1),
            subst (λ (w : List (Option WaveItem)). IsRowIn x.name.members w f) (ap (λ k. wave (h ++ x ∷ []) x.name k) e ∙ sym wave_now) row.at.row,
          ),
        )
  ]
