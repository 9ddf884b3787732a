-- Batches of rows alone: they are lawful in any order. The tests push such.
use Rattle.std.proofs.Common.{◌≡◌, ℕ, true, false, List, [], ◌∷◌, ◌++◌, map, refl, sym, subst, ◌∙◌}
use Rattle.std.specs.List.{AllByRecursion}
use Rattle.std.proofs.lemmas.Bool.{true≢false}
use Rattle.must_p2p.specs.Items as p2p
use Rattle.must_p2p.specs.declared.item.MsgItem.{MsgItem}
use Rattle.must_coll.specs.declared.item.WaveItem.{WaveItem}
use Rattle.must_coll.specs.Waves as waves
use Rattle.must_entry.specs.declared.entry.Entry.{Entry}
use Rattle.must_entry.specs.declared.entry.Entry.TheVariants.{Row, Message, Wave, Need}
use Rattle.must_entry.specs.declared.range.RankRange.{RankRange}
use Rattle.must_entry.specs.declared.batch.Batch.{Batch}
use Rattle.must_entry.specs.Entries.{Waits, messages, calls, needs, entries_of}
use Rattle.must_entry.specs.Lawful.{in_range, IsOf, IsBatchOf, NoneAfterLast, Rise, IsLawful}
use Rattle.must_inbox.specs.ListLaws.{all_join}
use Rattle.must_inbox.specs.RankLaws.{lawful_none}

abbrev pub IsRowOf : ℕ → Entry → Type 0
IsRowOf rank (Row finding) = finding.rank ≡ rank
IsRowOf rank (Message item) = ⊥
IsRowOf rank (Wave item) = ⊥
IsRowOf rank (Need place ways) = ⊥

-- a batch of a rank that has rows alone and isn't the last
abbrev pub HasRows : ℕ → Batch → Type 0
HasRows rank b = (b.rank ≡ rank) × (b.last ≡ false) × AllByRecursion (IsRowOf rank) b.entries

row_of_rank : (rank : ℕ) (es : List Entry) → AllByRecursion (IsRowOf rank) es → AllByRecursion (IsOf rank) es
row_of_rank rank [] a = tt
row_of_rank rank (Row f ∷ es) a = (a.0, row_of_rank rank es a.1)
row_of_rank rank (Message x ∷ es) a = absurd a.0
row_of_rank rank (Wave x ∷ es) a = absurd a.0
row_of_rank rank (Need p ways ∷ es) a = absurd a.0

no_messages : (rank : ℕ) (es : List Entry) → AllByRecursion (IsRowOf rank) es → messages es ≡ []
no_messages rank [] a = refl
no_messages rank (Row f ∷ es) a = no_messages rank es a.1
no_messages rank (Message x ∷ es) a = absurd a.0
no_messages rank (Wave x ∷ es) a = absurd a.0
no_messages rank (Need p ways ∷ es) a = absurd a.0

no_calls : (rank : ℕ) (es : List Entry) → AllByRecursion (IsRowOf rank) es → calls es ≡ []
no_calls rank [] a = refl
no_calls rank (Row f ∷ es) a = no_calls rank es a.1
no_calls rank (Message x ∷ es) a = absurd a.0
no_calls rank (Wave x ∷ es) a = absurd a.0
no_calls rank (Need p ways ∷ es) a = absurd a.0

no_needs : (rank : ℕ) (es : List Entry) → AllByRecursion (IsRowOf rank) es → needs es ≡ []
no_needs rank [] a = refl
no_needs rank (Row f ∷ es) a = no_needs rank es a.1
no_needs rank (Message x ∷ es) a = absurd a.0
no_needs rank (Wave x ∷ es) a = absurd a.0
no_needs rank (Need p ways ∷ es) a = absurd a.0

all_rows : (rank : ℕ) (bs : List Batch) → AllByRecursion (HasRows rank) bs → AllByRecursion (IsRowOf rank) (entries_of bs)
all_rows rank [] a = tt
all_rows rank (b ∷ bs) a = all_join (IsRowOf rank) b.entries (entries_of bs) a.0.2 (all_rows rank bs a.1)

each_row : (range : RankRange) (rank : ℕ) (bs : List Batch) → in_range range rank ≡ true → AllByRecursion (HasRows rank) bs → AllByRecursion (IsBatchOf range) bs
each_row range rank [] here a = tt
each_row range rank (b ∷ bs) here a =
    (subst (λ (r : ℕ). (in_range range r ≡ true) × AllByRecursion (IsOf r) b.entries) (sym a.0.0) (here, row_of_rank rank b.entries a.0.2), each_row range rank bs here a.1)

none_last : (rank : ℕ) (bs : List Batch) → AllByRecursion (HasRows rank) bs → NoneAfterLast bs
none_last rank [] a = tt
none_last rank (b ∷ bs) a = ((λ is. absurd (true≢false (sym is ∙ a.0.1))), none_last rank bs a.1)

pub rows_lawful : (range : RankRange) (rank : ℕ) (bs : List Batch) → in_range range rank ≡ true → AllByRecursion (HasRows rank) bs → IsLawful range bs
rows_lawful range rank bs here a =
    let es = entries_of bs in
    let rows = all_rows rank bs a in
    record {
      each = each_row range rank bs here a;
      lasts = none_last rank bs a;
      messages = subst p2p.Orderly (sym (no_messages rank es rows)) (lawful_none range).messages;
      numbered = subst waves.Orderly (sym (no_calls rank es rows)) (lawful_none range).numbered;
      calls = subst (λ (w : List WaveItem). Rise (map (λ x. x.place) w)) (sym (no_calls rank es rows)) tt;
      needs = subst (λ (w : List Waits). Rise (map (λ n. n.place) w)) (sym (no_needs rank es rows)) tt;
    }

-- one more
pub rows_push : (rank : ℕ) (bs : List Batch) (b : Batch) → AllByRecursion (HasRows rank) bs → HasRows rank b → AllByRecursion (HasRows rank) (bs ++ b ∷ [])
rows_push rank bs b a h = all_join (HasRows rank) bs (b ∷ []) a (h, tt)
